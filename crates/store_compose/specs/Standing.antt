-- What of a store stands beside some files: its entries without the files' own parts. This
-- program's own.
use Rattle.std.specs.Prelude.{◌≡◌, ◌⊎◌, ℕ, Bool, List, [], Option, IfSome}
use Rattle.std.specs.List.{AllByRecursion}
use Rattle.std.specs.Option.{option_map}
use Rattle.send_model.specs.Subvolume.{Subvolume, IsLawful}
use Rattle.send_model.specs.Store.{Key, Entry, Store}
use Rattle.send_model.specs.Cells.{recelled_store}
use Rattle.send_model.specs.Outside.{is_among, store_without}
use Rattle.send_model.specs.Thinned.{thinned}
use Rattle.inode_tree.specs.Retraced.{retraced}
use Rattle.subvol_catalog.specs.declared.key.Key as code
use Rattle.provenance.specs.declared.trace.Trace.{Trace}
use Rattle.provenance.specs.Traces.{advanced_by, first_of}
use Rattle.clone_pieces.specs.Origins.{outside_cells}
use Rattle.file_survey.specs.Findings.{Surveyed}
use Rattle.group_replay.specs.declared.place.Place.{Place}
use Rattle.store_journal.specs.Standing.{place_byte}

-- Whether the entry of a key keeps its contents beside the files: a command of theirs names its
-- uuid.
abbrev pub keeps : Surveyed → Key → Bool
keeps survey key = is_among survey.named key.uuid

-- The entries of a store that are no part of the files, with the contents of those that keep them.
abbrev pub standing : {S : Type 0} → Surveyed → List (Entry S) → List (Entry S)
standing survey store = thinned (keeps survey) (store_without survey.parts store)

-- The subvolumes with the bytes that an image has at their places.
abbrev pub bytes_in : List ℕ → Store (Option Place) → Store ℕ
bytes_in image store = recelled_store (place_byte image) store

-- Each complete subvolume is lawful.
abbrev pub AreLawful : {C : Type 0} → Store C → Type 0
AreLawful store = AllByRecursion (λ e. IfSome e.contents IsLawful) store

-- A key as the code has it.
abbrev pub code_key : Key → code.Key
code_key key = record { uuid = key.uuid; ctransid = key.ctransid }

-- An entry whose cells are each traced to their own place.
abbrev pub traced_to_itself : {C : Type 0} → Entry (Subvolume C) → Entry (Subvolume (Option Trace))
traced_to_itself e = record {
  name = e.name;
  key = e.key;
  parent = e.parent;
  contents = option_map (retraced advanced_by (first_of (code_key e.key))) e.contents;
}

-- Of each file a base has the bytes that are held, or none.
abbrev pub IsPartOf : Store ℕ → (Key → ℕ → List ℕ) → Type 0
IsPartOf base held =
    (key : Key) (ino : ℕ)
    → (outside_cells base key ino ≡ []) ⊎ (outside_cells base key ino ≡ held key ino)
