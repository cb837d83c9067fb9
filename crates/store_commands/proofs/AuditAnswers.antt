-- What auditing over a store answers, from what an audit over its subvolumes says.
use Rattle.std.specs.Prelude.{◌≡◌, ℕ, true, List, [], ◌∷◌, map, Option, None, Some, Err}
use Rattle.std.specs.Option.{option_map}
use Rattle.std.proofs.Common.{refl, sym, ap, subst, ◌∙◌}
use Rattle.std.proofs.KnownBytes.{Appends-nil}
use Rattle.send_model.specs.Map.{Map}
use Rattle.send_model.specs.Guards.{Guard, GuardSpec}
use Rattle.send_model.specs.Subvolume.{Inode, Subvolume}
use Rattle.send_model.specs.Store.{Store}
use Rattle.send_model.specs.Provenance.{inode_with}
use Rattle.send_model.specs.Cells.{recelled, recelled_entry, recelled_store}
use Rattle.send_model.specs.Overridden.{Overrides}
use Rattle.send_model.specs.Words.{Audit, new_guards}
use Rattle.sx_base.specs.Calls.{IfAllTold, Wrote}
use Rattle.sx_base.specs.declared.outcome.Outcome.{Outcome}
use Rattle.store_model.specs.Stored.{byte_of, StandsFor}
use Rattle.store_model.specs.NamedFiles.{NamedFiles}
use Rattle.store_model.specs.Requests.{OfStreams, reads_store, at_entry}
use Rattle.store_model.specs.Answers.{Answers}
use Rattle.auditor.specs.Answers.{AuditEnds}
use Rattle.auditor.specs.Following.{blank, HaveSameShape}
use Rattle.group_replay.specs.declared.place.Place.{Place}
use Rattle.group_replay.specs.declared.stops.StoreStop.{StoreStop}
use Rattle.group_replay.specs.Stopping.{IfLog, IsNoRefusal}
use Rattle.store_journal.specs.Shown.{StoreState}
use Rattle.store_journal.specs.Opening.{OpenSays, IsOpenStop}
use Rattle.store_journal.specs.Standing.{with_bytes}
use Rattle.store_commands.specs.declared.ends.StoreEnd.{StoreEnd}
use Rattle.store_commands.specs.declared.ends.StoreEnd.TheVariants as made
use Rattle.store_commands.specs.Ending.{answer_of, end_by}
use Rattle.store_commands.proofs.StreamAnswers.{audit_ends, stopped_answers, ends_answer, always_told, then_told}

-- ---- the shape of a store

module _ {C D : Type 0} (f : C → D) where
  blank_cells : (cells : List C) → map (λ (x : D). tt {0}) (map f cells) ≡ map (λ (x : C). tt {0}) cells
  blank_cells [] = refl
  blank_cells (x ∷ cells) = ap (λ (l : List (Unit {0})). tt ∷ l) (blank_cells cells)

  abbrev emptied : {X : Type 0} → ℕ × Inode X → ℕ × Inode (Unit {0})
  emptied {X = X} e = (e.0, inode_with e.1 (map (λ (x : X). tt {0}) e.1.cells))

  abbrev moved : ℕ × Inode C → ℕ × Inode D
  moved e = (e.0, inode_with e.1 (map f e.1.cells))

  blank_inodes : (m : Map ℕ (Inode C)) → map emptied (map moved m) ≡ map emptied m
  blank_inodes [] = refl
  blank_inodes (e ∷ m) =
      let one : List (Unit {0}) → ℕ × Inode (Unit {0}) = λ cells. (e.0, inode_with e.1 cells) in
      ap (λ (cells : List (Unit {0})). one cells ∷ map emptied (map moved m)) (blank_cells e.1.cells) ∙ ap (λ (l : Map ℕ (Inode (Unit {0}))). emptied e ∷ l) (blank_inodes m)

  blank_contents : (o : Option (Subvolume C)) → option_map (recelled (λ (x : D). tt {0})) (option_map (recelled f) o) ≡ option_map (recelled (λ (x : C). tt {0})) o
  blank_contents None = refl
  blank_contents (Some s) = ap (λ (m : Map ℕ (Inode (Unit {0}))). Some (record { inodes = m; names = s.names; next = s.next })) (blank_inodes s.inodes)

  pub blank_twice : (store : Store C) → blank (recelled_store f store) ≡ blank store
  blank_twice [] = refl
  blank_twice (e ∷ store) =
      ap (λ (o : Option (Subvolume (Unit {0}))). record { name = e.name; key = e.key; parent = e.parent; contents = o } ∷ blank (recelled_store f store)) (blank_contents e.contents)
      ∙ ap (λ (l : Store (Unit {0})). recelled_entry (λ (x : C). tt {0}) e ∷ l) (blank_twice store)

pub same_shape : (image : List ℕ) (core : Store (Option Place)) → HaveSameShape core (with_bytes image core)
same_shape image core = sym (blank_twice (byte_of image) (recelled_store (option_map (λ place. place.at)) core) ∙ blank_twice (option_map (λ place. place.at)) core)

-- ---- the answers

-- Files with what is said in front of them.
abbrev given : Overrides → List (List ℕ) → NamedFiles
given names files = record { bytes = files; overrides = names }

-- What was written is what an answer says, of all words that ask for it under these guards.
abbrev AuditSays : (seen left : List ℕ) → Overrides → List Guard → StoreEnd → List (List ℕ) → List ℕ → Type 0
AuditSays seen left new_names guards end files written = (words : List (List ℕ)) (specs : List GuardSpec) (store at : ℕ) → reads_store words (Some store) ≡ true → guards ≡ new_guards specs
    → Answers (OfStreams (Audit specs store at)) (at_entry words seen (given new_names files)) (answer_of [] [] end) written left

module _ (told : Option (List (List ℕ × List ℕ))) (names : List (List ℕ)) (seen left : List ℕ) (new_names : Overrides) (guards : List Guard) (same : left ≡ seen) where
  -- The store does not open.
  pub not_audited : (taken : Option (List ℕ)) (cause : Type 0) (why : StoreStop) (end : StoreEnd) → end ≡ end_by why → IsNoRefusal why → IfLog {T = StoreState} (Err why) (IsOpenStop cause) → OpenSays seen (Err why)
      → IfAllTold told names (λ files. Wrote taken taken (AuditSays seen left new_names guards end files))
  not_audited taken cause why end is kind stops opened =
      always_told told names (λ files. Wrote taken taken (AuditSays seen left new_names guards end files)) (λ files. (
        [],
        Appends-nil taken,
        (λ words specs store at reads fits.
            subst (λ (l : List ℕ). Answers (OfStreams (Audit specs store at)) (at_entry words seen (given new_names files)) (answer_of [] [] end) [] l) (sym same)
            (stopped_answers (Audit specs store at) words seen (given new_names files) reads (λ s. refl) cause why end is kind stops opened)),
      ))

  -- It opens, and its subvolumes are audited over.
  pub is_audited : (old new : Option (List ℕ)) (s : Store ℕ) (outcome : Outcome) → StandsFor seen s → IfAllTold told names (λ files. Wrote old new (AuditEnds s guards new_names files outcome))
      → IfAllTold told names (λ files. Wrote old new (AuditSays seen left new_names guards (made.Ends outcome) files))
  is_audited old new s outcome stands audited = then_told told names (λ files. Wrote old new (AuditEnds s guards new_names files outcome)) (λ files. Wrote old new (AuditSays seen left new_names guards (made.Ends outcome) files)) (λ files wrote. by_files files wrote) audited
    where
      by_files : (files : List (List ℕ)) → Wrote old new (AuditEnds s guards new_names files outcome) → Wrote old new (AuditSays seen left new_names guards (made.Ends outcome) files)
      by_files files wrote = (
        wrote.0,
        wrote.1,
        (λ words specs store at reads fits.
            subst (λ (l : List ℕ). Answers (OfStreams (Audit specs store at)) (at_entry words seen (given new_names files)) (answer_of [] [] (made.Ends outcome)) wrote.0 l) (sym same)
            (ends_answer (Audit specs store at) words seen (given new_names files) reads s stands wrote.0 outcome
            (audit_ends s wrote.0 store at new_names files specs outcome (subst (λ (gs : List Guard). AuditEnds s gs new_names files outcome wrote.0) fits wrote.2)))),
      )
