-- The inodes of a store's subvolume: what commands say of them, and their commands with the bytes
-- of an image.
use Rattle.std.specs.Prelude.{◌≡◌, ℕ, ◌==◌, Bool, true, false, cond, List, [], ◌∷◌, ◌++◌, map, length, Option, None, Some, Ok, is_some, IsTrue, if◌then◌else◌}
use Rattle.std.specs.Option.{option_map, unwrap_or}
use Rattle.std.specs.List.{AllByRecursion}
use Rattle.std.specs.Ordering.{nat_cmp, eq_by_cmp}
use Rattle.std.proofs.Common.{refl, sym, ap, subst, ◌∙◌, arith, eqb-true}
use Rattle.std.proofs.lemmas.Bool.{eqb-false}
use Rattle.send_model.specs.Command.{Command, SetXattr, Link}
use Rattle.send_model.specs.Clone.{cells_of}
use Rattle.send_model.specs.Map.{Map, value_at}
use Rattle.send_model.specs.Subvolume.{NodeKind, File, Directory, SymbolicLink, CharacterDevice, BlockDevice, Fifo, Socket, Inode, Subvolume, IsLawful, walk, inode_at, new_directory, first_path, all_paths}
use Rattle.send_model.specs.Store.{Key, Store, find}
use Rattle.send_model.specs.Cells.{recelled}
use Rattle.send_model.specs.Provenance.{inode_with}
use Rattle.send_model.proofs.CellMaps.{inode_at-cells}
use Rattle.send_model.proofs.PathLaws.{path_names_short}
use Rattle.snapshot_model.specs.Listing.{listed}
use Rattle.snapshot_model.specs.HeldStores.{held_at}
use Rattle.snapshot_model.specs.Sent.{making, making_commands, listed_commands, contents_commands, setting_commands, inode_commands}
use Rattle.snapshot_model.proofs.SentPaths.{walked, walked_there}
use Rattle.inode_commands.specs.Spelled.{IsShortPath}
use Rattle.inode_commands.specs.Spelled as spelled
use Rattle.std.specs.Str.{bytes_eq}
use Rattle.send_model.proofs.LeastPaths.{first_path_there, first_path_is_first}
use Rattle.path_walk.specs.Passing.{Passed, earlier}
use Rattle.group_replay.specs.declared.place.Place.{Place}
use Rattle.group_replay.specs.Kept.{IsKept}
use Rattle.group_replay.specs.Said.{IsSaid}
use Rattle.store_journal.specs.Reading.{file_cells}
use Rattle.full_send.specs.Held.{held_cell, with_holes, field_commands}

said_in : (ino : ℕ) (inode : Inode (Option Place)) (m : Map ℕ (Inode (Option Place))) → AllByRecursion (λ e. IsSaid e.1) m → value_at nat_cmp ino m ≡ Some inode → IsSaid inode
said_in ino inode [] all is = cc
said_in ino inode (e ∷ m) all is = one (eq_by_cmp nat_cmp ino e.0) (said_in ino inode m all.1) is
  where
    one : (b : Bool) → (value_at nat_cmp ino m ≡ Some inode → IsSaid inode) → cond b (Some e.1) (value_at nat_cmp ino m) ≡ Some inode → IsSaid inode
    one true more same = let here : e.1 ≡ inode = cc in subst IsSaid here all.0
    one false more behind = more behind

module _ (s : Subvolume (Option Place)) (end : ℕ) (kept : IsKept end s) (path : List ℕ) (ino : ℕ) (leads : walk s path ≡ Ok ino) where
  pub short_path : IsShortPath path
  short_path = let w = walked s path ino leads in path_names_short path w.names w.names_are

  pub inode_there : inode_at s ino ≡ None → ⊥
  inode_there none = let there = walked_there s kept.lawful.sound path ino leads in let no = subst (λ (o : Option (Inode (Option Place))). IsTrue (is_some o)) none there in cc

  module _ (inode : Inode (Option Place)) (is : inode_at s ino ≡ Some inode) where
    pub inode_said : spelled.IsSaid inode
    inode_said = let h = said_in ino inode s.inodes kept.said is in record { mtime = h.mtime; atime = h.atime; target = h.target; xattrs = h.xattrs }

    pub its_cells : (core : Store (Option Place)) (key : Key) → find core key ≡ Some s → file_cells core key ino ≡ inode.cells
    unfolding cells_of
    its_cells core key found =
        ap (λ (o : Option (Subvolume (Option Place))). elim o as (λ x. List (Option Place)) [ None ↦ [] | Some t ↦ cells_of t ino ]) found
        ∙ ap (λ (o : Option (Inode (Option Place))). elim o as (λ x. List (Option Place)) [ None ↦ [] | Some j ↦ j.cells ]) is

    -- With the bytes of an image.
    module _ (image : List ℕ) where
      abbrev pub holed : Inode (Option ℕ)
      holed = inode_with (inode_with inode (map (option_map (λ place. place.at)) inode.cells)) (map (held_at image) (map (option_map (λ place. place.at)) inode.cells))

      pub holed_is : (listed (with_holes image s) ino).inode ≡ holed
      unfolding listed
      holed_is =
          let one = inode_at-cells (held_at image) (recelled (option_map (λ place. place.at)) s) ino in
          let two = inode_at-cells (option_map (λ place. place.at)) s ino in
          ap (λ (o : Option (Inode (Option ℕ))). unwrap_or o new_directory) (one ∙ ap (option_map (λ j. inode_with j (map (held_at image) j.cells))) (two ∙ ap (option_map (λ j. inode_with j (map (option_map (λ place. place.at)) j.cells))) is))

      pub map_twice : (cells : List (Option Place)) → map (held_at image) (map (option_map (λ place. place.at)) cells) ≡ map (held_cell image) cells
      map_twice [] = refl
      map_twice (cell ∷ cells) = ap (λ (l : List (Option ℕ)). held_cell image cell ∷ l) (map_twice cells)

      pub same_making : (p : List ℕ) (kind : NodeKind) → making p kind holed ≡ making p kind inode
      same_making p File = refl
      same_making p Directory = refl
      same_making p SymbolicLink = refl
      same_making p CharacterDevice = refl
      same_making p BlockDevice = refl
      same_making p Fifo = refl
      same_making p Socket = refl

      fields_are : (p : List ℕ) → inode_commands p holed ≡ making_commands p holed ++ field_commands image p inode
      fields_are p = ap (λ (cells : List (Option ℕ)). making_commands p holed ++ (map (λ e. SetXattr e.0 e.1 p) inode.xattrs ++ (contents_commands p cells ++ setting_commands p inode))) (map_twice inode.cells)

      -- The root is there.
      pub at_root : path ≡ [] → inode_commands path (listed (with_holes image s) ino).inode ≡ field_commands image path inode
      at_root none = ap (inode_commands path) holed_is ∙ fields_are path ∙ ap (λ (p : List ℕ). making_commands p holed ++ field_commands image path inode) none

      -- Another is made.
      pub at_path : (path ≡ [] → ⊥) → inode_commands path (listed (with_holes image s) ino).inode ≡ making path inode.kind inode ∷ field_commands image path inode
      at_path some = ap (inode_commands path) holed_is ∙ fields_are path ∙ ap (λ (l : List Command). l ++ field_commands image path inode) (one path some)
        where
          one : (p : List ℕ) → (p ≡ [] → ⊥) → making_commands p holed ≡ making p inode.kind inode ∷ []
          one [] more = absurd (more refl)
          one (b ∷ p) more = ap (λ (c : Command). c ∷ []) (same_making (b ∷ p) inode.kind)

-- ---- the first path

module _ (s : Subvolume (Option Place)) (lawful : IsLawful s) (p : Passed (Option Place)) (passed : p.subvolume ≡ s) (ino : ℕ) (leads : walk s p.at ≡ Ok ino) where
  pub leads_there : walk p.subvolume p.at ≡ Ok ino
  leads_there = ap (λ (t : Subvolume (Option Place)). walk t p.at) passed ∙ leads

  first_of : (first : List ℕ) → first_path s ino ≡ Some first → (listed s ino).first ≡ first
  unfolding listed
  first_of first is = ap (λ (o : Option (List ℕ)). unwrap_or o []) is

  earlier_by : (b : Bool) (found first : List ℕ) → (if b then None else Some found) ≡ Some first → found ≡ first
  earlier_by true found first is = cc
  earlier_by false found first is = cc

  pub short_first : (first : List ℕ) → earlier p ino ≡ Some first → IsShortPath first
  short_first first is =
      let there = first_path_there s ino p.at leads in
      let w = walked s there.0 ino ((first_path_is_first s lawful ino there.0 there.1).leads) in
      let same : (listed p.subvolume ino).first ≡ first = earlier_by (bytes_eq p.at (listed p.subvolume ino).first) (listed p.subvolume ino).first first is in
      let own : there.0 ≡ first = sym (first_of there.0 there.1) ∙ ap (λ (t : Subvolume (Option Place)). (listed t ino).first) (sym passed) ∙ same in
      subst IsShortPath own (path_names_short there.0 w.names w.names_are)

  module _ (image : List ℕ) where
    pub first_same : (listed (with_holes image s) ino).first ≡ (listed p.subvolume ino).first
    unfolding listed first_path all_paths
    first_same = ap (λ (t : Subvolume (Option Place)). (listed t ino).first) (sym passed)

    abbrev by_test : Bool → List ℕ → List Command
    by_test b first = if b then inode_commands p.at (listed (with_holes image s) ino).inode else Link p.at first ∷ []

    listed_by : listed_commands (p.at, listed (with_holes image s) ino) ≡ by_test (bytes_eq p.at (listed p.subvolume ino).first) (listed p.subvolume ino).first
    listed_by = ap (λ (first : List ℕ). by_test (bytes_eq p.at first) first) first_same

    -- Another path is the first: it is a link.
    pub listed_link : (first : List ℕ) → earlier p ino ≡ Some first → listed_commands (p.at, listed (with_holes image s) ino) ≡ Link p.at first ∷ []
    listed_link first is = listed_by ∙ one (bytes_eq p.at (listed p.subvolume ino).first) (listed p.subvolume ino).first is
      where
        one : (b : Bool) (found : List ℕ) → (if b then None else Some found) ≡ Some first → by_test b found ≡ Link p.at first ∷ []
        one true found same = cc
        one false found same = let own : found ≡ first = cc in ap (λ (f : List ℕ). Link p.at f ∷ []) own

    -- It is the first itself.
    pub listed_own : earlier p ino ≡ None → listed_commands (p.at, listed (with_holes image s) ino) ≡ inode_commands p.at (listed (with_holes image s) ino).inode
    listed_own is = listed_by ∙ one (bytes_eq p.at (listed p.subvolume ino).first) (listed p.subvolume ino).first is
      where
        one : (b : Bool) (found : List ℕ) → (if b then None else Some found) ≡ None → by_test b found ≡ inode_commands p.at (listed (with_holes image s) ino).inode
        one true found none = refl
        one false found none = cc

-- ---- the path of the root

pub empty_path : (path : List ℕ) → (length path == 0) ≡ true → path ≡ []
empty_path [] is = refl
empty_path (b ∷ path) is = let none : length (b ∷ path) ≡ 0 = eqb-true (length (b ∷ path)) 0 is in absurd (omega (arith, none))

pub some_path : (path : List ℕ) → (length path == 0) ≡ false → path ≡ [] → ⊥
some_path path is none = eqb-false (length path) 0 is (ap length none)
