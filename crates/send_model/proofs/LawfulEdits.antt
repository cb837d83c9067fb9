-- Edits and clones keep a subvolume lawful; and, where a version can say the command, one that the
-- format can say.
use Rattle.std.specs.Prelude.{◌≡◌, ℕ, zero, suc, ◌+◌, ◌-◌, ◌<◌, ◌≤◌, ◌==◌, Bool, true, false, List, [], ◌∷◌, ◌++◌, map, length, take, drop, replicate, Option, None, Some, Ok, Err, is_some, if◌then◌else◌}
use Rattle.std.specs.List.{AllByRecursion, list_all}
use Rattle.std.specs.Ordering.{nat_cmp}
use Rattle.std.specs.Cmp.Lexicographic.{nat_list_cmp_total}
use Rattle.std.specs.FinMap.Entries.{is_sorted-put, is_sorted-where_key}
use Rattle.std.proofs.Common.{refl, sym, ap, subst, ◌∙◌, arith, length-append, length-take, length-drop, zero-le}
use Rattle.std.proofs.lemmas.Bool.{and_parts, leb-true}
use Rattle.std.proofs.lemmas.List.{length-replicate, length-map}
use Rattle.send_model.specs.Refusal.{BadPath, NoSource}
use Rattle.send_model.specs.Attribute.{IsBytes}
use Rattle.send_model.specs.Command.{Command, MkFile, MkDir, MkNod, MkFifo, MkSock, Symlink, Rename, Link, row}
use Rattle.send_model.specs.Spelling.{IsSpellable}
use Rattle.send_model.specs.Path.{slash, is_name, between_slashes, onto_first, path_names}
use Rattle.send_model.specs.Map.{IsMap, bytes_cmp}
use Rattle.send_model.specs.Subvolume.{Inode, Subvolume, inode_at, root_alone, IsLawful}
use Rattle.send_model.specs.Edit.{greatest_end, filled, resized, overwritten, written_at, Allocation, Lengthen, KeepSize, PunchHole, ZeroRange, ZeroWithin, zeroed, allocated, fallocated, set_cells, edit}
use Rattle.send_model.specs.Clone.{cells_of, Cloned, cloned, clone, clone_values}
use Rattle.send_model.specs.Receive.{bytes_of}
use Rattle.send_model.specs.Outside.{IsSayable}
use Rattle.send_model.specs.Lawful.{KeepsLawfulness, EditsKeepSayable}
use Rattle.send_model.proofs.Fuel.{required}
use Rattle.send_model.proofs.ElementLaws.{all_both, all_take, all_drop}
use Rattle.send_model.proofs.PathLaws.{none_left, path_names_all, path_names_pieces}
use Rattle.send_model.proofs.SoundChanges.{root_alone_is_sound}
use Rattle.send_model.proofs.SoundEdits.{clone_keeps_sound}
use Rattle.send_model.proofs.SoundRenames.{edit_keeps_sound}
use Rattle.send_model.proofs.Redirected.{cloned_facts}
use Rattle.send_model.proofs.SpelledRuns.{written_bytes}
use Rattle.send_model.proofs.Keeping.{all_found, Has, KeepsInodes, NamesAre, new_path, edit_keeps, clone_keeps}

-- ---- names and attributes

all_names : (names : List (List ℕ)) → list_all is_name names ≡ true → AllByRecursion (λ n. is_name n ≡ true) names
all_names [] e = tt
all_names (n ∷ names) e = let p = and_parts (is_name n) (list_all is_name names) e in (p.0, all_names names p.1)

lawful_names : (path : List ℕ) → NamesAre (λ n. is_name n ≡ true) path
lawful_names path names e = all_names names (path_names_all path names e)

abbrev IsName : List ℕ → Type 0
IsName n = is_name n ≡ true

module _ {C : Type 0} where
  abbrev IsOrdered : Inode C → Type 0
  IsOrdered inode = IsMap bytes_cmp inode.xattrs

  ordered_kept : (zero_cell : C) (put : List C) (c : Command) → KeepsInodes IsName IsOrdered zero_cell put c
  ordered_kept zero_cell put c = record {
    made = λ kind mode rdev target. tt;
    xattr_set = λ name value inode h. is_sorted-put bytes_cmp nat_list_cmp_total name value inode.xattrs h;
    xattr_removed = λ name inode h. is_sorted-where_key bytes_cmp _ inode.xattrs h;
    written = λ offset inode fits h. h;
    cut = λ size inode fits h. h;
    allocated = λ allocation offset size inode fits h. h;
    mode_set = λ mode inode h. h;
    owner_set = λ uid gid inode h. h;
    times_set = λ mtime atime path is inode h. h;
    flags_set = λ flags inode h. h;
  }

  pub edit_keeps_lawful : (zero_cell : C) (put : List C) (c : Command) → KeepsLawfulness (edit zero_cell put c)
  edit_keeps_lawful zero_cell put c s t h e =
      let k = edit_keeps IsName IsOrdered zero_cell put c s t (ordered_kept zero_cell put c) (lawful_names (new_path c)) (record { names = h.lawful_names; inodes = h.ordered_attributes }) e in
      record { sound = edit_keeps_sound zero_cell put c s t h.sound e; lawful_names = k.names; ordered_attributes = k.inodes }

  pub clone_keeps_lawful : (zero_cell : C) (source : Option (Subvolume C)) (is_own : Bool) (path : List ℕ) (offset : ℕ) (clone_path : List ℕ) (from len : ℕ) → KeepsLawfulness (λ part. clone zero_cell part source is_own (clone_values path offset clone_path from len))
  clone_keeps_lawful zero_cell source is_own path offset clone_path from len s t h e =
      let k = clone_keeps IsName IsOrdered zero_cell s source is_own path offset clone_path from len t (λ range is inode own. own) (record { names = h.lawful_names; inodes = h.ordered_attributes }) e in
      record { sound = clone_keeps_sound zero_cell s source is_own path offset clone_path from len t h.sound e; lawful_names = k.names; ordered_attributes = k.inodes }

  pub root_alone_is_lawful : IsLawful {C = C} root_alone
  unfolding root_alone
  root_alone_is_lawful = record { sound = root_alone_is_sound; lawful_names = tt; ordered_attributes = (tt, tt) }

-- ---- cells

-- What holds of each cell, of zero cells too, holds of what an edit makes of them.
module _ {C : Type 0} (P : C → Type 0) (x : C) (own : P x) where
  all_replicated : (n : ℕ) → AllByRecursion P (replicate n x)
  all_replicated zero = tt
  all_replicated (suc n) = (own, all_replicated n)

  all_zero : (cells : List C) → AllByRecursion P (map (λ c. x) cells)
  all_zero [] = tt
  all_zero (c ∷ cells) = (own, all_zero cells)

  all_filled : (size : ℕ) (cells : List C) → AllByRecursion P cells → AllByRecursion P (filled x size cells)
  all_filled size cells all = all_both P cells (replicate (size - length cells) x) all (all_replicated (size - length cells))

  pub all_resized : (size : ℕ) (cells : List C) → AllByRecursion P cells → AllByRecursion P (resized x size cells)
  unfolding resized
  all_resized size cells all = all_take P size (filled x size cells) (all_filled size cells all)

  pub all_overwritten : (offset : ℕ) (new cells : List C) → AllByRecursion P new → AllByRecursion P cells → AllByRecursion P (overwritten x offset new cells)
  unfolding overwritten
  all_overwritten offset new cells put all =
      all_both P (take offset (filled x offset cells) ++ new) (drop (offset + length new) cells) (all_both P (take offset (filled x offset cells)) new (all_take P offset (filled x offset cells) (all_filled offset cells all)) put) (all_drop P (offset + length new) cells all)

  pub all_written : (offset : ℕ) (new cells : List C) → AllByRecursion P new → AllByRecursion P cells → AllByRecursion P (written_at x offset new cells)
  unfolding written_at
  all_written offset [] cells put all = all
  all_written offset (c ∷ new) cells put all = all_overwritten offset (c ∷ new) cells put all

  all_zeroed : (offset size : ℕ) (cells : List C) → AllByRecursion P cells → AllByRecursion P (zeroed x offset size cells)
  all_zeroed offset size cells all =
      all_both P (take offset cells ++ map (λ c. x) (take size (drop offset cells))) (drop (offset + size) cells) (all_both P (take offset cells) (map (λ c. x) (take size (drop offset cells))) (all_take P offset cells all) (all_zero (take size (drop offset cells)))) (all_drop P (offset + size) cells all)

  all_allocated : (allocation : Allocation) (offset size : ℕ) (cells : List C) → AllByRecursion P cells → AllByRecursion P (allocated x allocation offset size cells)
  all_allocated Lengthen offset size cells all = all_filled (offset + size) cells all
  all_allocated KeepSize offset size cells all = all
  all_allocated PunchHole offset size cells all = all_zeroed offset size cells all
  all_allocated ZeroRange offset size cells all = all_written offset (replicate size x) cells (all_replicated size) all
  all_allocated ZeroWithin offset size cells all = all_zeroed offset size cells all

  pub all_fallocated : (allocation : Allocation) (offset size : ℕ) (cells : List C) → AllByRecursion P cells → AllByRecursion P (fallocated x allocation offset size cells)
  unfolding fallocated
  all_fallocated allocation offset zero cells all = all
  all_fallocated allocation offset (suc size) cells all = all_allocated allocation offset (suc size) cells all

-- No edit makes a file longer than it was or than its own end.
module _ {C : Type 0} (x : C) (top : ℕ) where
  filled_len : (size : ℕ) (cells : List C) → size ≤ top → length cells ≤ top → length (filled x size cells) ≤ top
  filled_len size cells a b = omega (arith, a, b, length-append cells (replicate (size - length cells) x), length-replicate (size - length cells) x)

  pub resized_len : (size : ℕ) (cells : List C) → size ≤ top → length (resized x size cells) ≤ top
  unfolding resized
  resized_len size cells a = omega (arith, a, length-take size (filled x size cells))

  pub overwritten_len : (offset : ℕ) (new cells : List C) → offset + length new ≤ top → length cells ≤ top → length (overwritten x offset new cells) ≤ top
  unfolding overwritten
  overwritten_len offset new cells a b =
      omega (
        arith,
        a,
        b,
        length-append (take offset (filled x offset cells) ++ new) (drop (offset + length new) cells),
        length-append (take offset (filled x offset cells)) new,
        length-take offset (filled x offset cells),
        length-drop (offset + length new) cells,
        length-append cells (replicate (offset - length cells) x),
        length-replicate (offset - length cells) x,
      )

  pub written_len : (offset : ℕ) (new cells : List C) → offset + length new ≤ top → length cells ≤ top → length (written_at x offset new cells) ≤ top
  unfolding written_at
  written_len offset [] cells a b = b
  written_len offset (c ∷ new) cells a b = overwritten_len offset (c ∷ new) cells a b

  zeroed_len : (offset size : ℕ) (cells : List C) → length cells ≤ top → length (zeroed x offset size cells) ≤ top
  zeroed_len offset size cells b =
      let zeros : List C = map (λ c. x) (take size (drop offset cells)) in
      omega (arith, b, length-append (take offset cells ++ zeros) (drop (offset + size) cells), length-append (take offset cells) zeros, length-take offset cells, length-map (take size (drop offset cells)) (λ c. x), length-take size (drop offset cells), length-drop offset cells, length-drop (offset + size) cells)

  allocated_len : (allocation : Allocation) (offset size : ℕ) (cells : List C) → offset + size ≤ top → length cells ≤ top → length (allocated x allocation offset size cells) ≤ top
  allocated_len Lengthen offset size cells a b = filled_len (offset + size) cells a b
  allocated_len KeepSize offset size cells a b = b
  allocated_len PunchHole offset size cells a b = zeroed_len offset size cells b
  allocated_len ZeroRange offset size cells a b = written_len offset (replicate size x) cells (let l = length-replicate size x in omega (arith, l, a)) b
  allocated_len ZeroWithin offset size cells a b = zeroed_len offset size cells b

  pub fallocated_len : (allocation : Allocation) (offset size : ℕ) (cells : List C) → offset + size ≤ top → length cells ≤ top → length (fallocated x allocation offset size cells) ≤ top
  unfolding fallocated
  fallocated_len allocation offset zero cells a b = b
  fallocated_len allocation offset (suc size) cells a b = allocated_len allocation offset (suc size) cells a b

-- ---- what the format can say

abbrev pub IsByteName : List ℕ → Type 0
IsByteName n = IsBytes n

abbrev IsByte : ℕ → Type 0
IsByte b = b < 256

abbrev IsSayableInode : Inode ℕ → Type 0
IsSayableInode inode = IsBytes inode.cells × (length inode.cells ≤ greatest_end)

sayable_kept : (put : List ℕ) (c : Command) → IsBytes put → KeepsInodes IsByteName IsSayableInode 0 put c
sayable_kept put c are = record {
  made = λ kind mode rdev target. (tt, zero-le);
  xattr_set = λ name value inode h. h;
  xattr_removed = λ name inode h. h;
  written = λ offset inode fits h. (all_written IsByte 0 (omega arith) offset put inode.cells are h.0, written_len 0 greatest_end offset put inode.cells (leb-true (offset + length put) greatest_end fits) h.1);
  cut = λ size inode fits h. (all_resized IsByte 0 (omega arith) size inode.cells h.0, resized_len 0 greatest_end size inode.cells (leb-true size greatest_end fits));
  allocated = λ allocation offset size inode fits h. (all_fallocated IsByte 0 (omega arith) allocation offset size inode.cells h.0, fallocated_len 0 greatest_end allocation offset size inode.cells (leb-true (offset + size) greatest_end fits) h.1);
  mode_set = λ mode inode h. h;
  owner_set = λ uid gid inode h. h;
  times_set = λ mtime atime path is inode h. h;
  flags_set = λ flags inode h. h;
}

-- The pieces of bytes are bytes.
onto_bytes : (b : ℕ) (pieces : List (List ℕ)) → b < 256 → AllByRecursion IsByteName pieces → AllByRecursion IsByteName (onto_first b pieces)
onto_bytes b [] own all = ((own, tt), tt)
onto_bytes b (p ∷ pieces) own all = ((own, all.0), all.1)

pieces_bytes : (bytes : List ℕ) → IsBytes bytes → AllByRecursion IsByteName (between_slashes bytes)
unfolding between_slashes
pieces_bytes [] are = (tt, tt)
pieces_bytes (b ∷ bytes) are = one (b == slash) (pieces_bytes bytes are.1)
  where
    one : (t : Bool) → AllByRecursion IsByteName (between_slashes bytes) → AllByRecursion IsByteName (if t then [] ∷ between_slashes bytes else onto_first b (between_slashes bytes))
    one true more = (tt, more)
    one false more = onto_bytes b (between_slashes bytes) are.0 more

pub byte_names : (path : List ℕ) → IsBytes path → NamesAre IsByteName path
byte_names [] are names e = subst (λ (ns : List (List ℕ)). AllByRecursion IsByteName ns) (sym (none_left names e)) tt
byte_names (b ∷ path) are names e = subst (λ (ns : List (List ℕ)). AllByRecursion IsByteName ns) (sym (path_names_pieces (b ∷ path) names (omega arith) e).0) (pieces_bytes (b ∷ path) are)

-- The path under which a command that can be said makes a name.
pub new_bytes : (version : ℕ) (c : Command) → IsSpellable version c → IsBytes (new_path c)
unfolding row
new_bytes version (MkFile path) s = let v = s.values in v.0.1
new_bytes version (MkDir path) s = let v = s.values in v.0.1
new_bytes version (MkNod mode rdev path) s = let v = s.values in v.1.1.0.1
new_bytes version (MkFifo path) s = let v = s.values in v.0.1
new_bytes version (MkSock path) s = let v = s.values in v.0.1
new_bytes version (Symlink path path_link) s = let v = s.values in v.0.1
new_bytes version (Link path path_link) s = let v = s.values in v.0.1
new_bytes version (Rename path path_to) s = let v = s.values in v.1.0.1
new_bytes version c s = tt

-- What is known of each inode, of the one of a number.
pub cells_known : (s : Subvolume ℕ) (ino : ℕ) → IsSayable s → IsBytes (cells_of s ino)
unfolding cells_of
cells_known s ino h = one (inode_at s ino) refl
  where
    one : (o : Option (Inode ℕ)) → inode_at s ino ≡ o → IsBytes (elim o as (λ x. List ℕ) [ None ↦ [] | Some inode ↦ inode.cells ])
    one None e = tt
    one (Some inode) e = all_found nat_cmp (λ (i : Inode ℕ). IsBytes i.cells) ino inode s.inodes h.byte_cells e

-- Two facts of each element, as one, and back.
both_known : {A : Type 0} (P Q : A → Type 0) (xs : List A) → AllByRecursion P xs → AllByRecursion Q xs → AllByRecursion (λ x. P x × Q x) xs
both_known P Q [] p q = tt
both_known P Q (x ∷ xs) p q = ((p.0, q.0), both_known P Q xs p.1 q.1)

one_known : {A : Type 0} (P Q : A → Type 0) (xs : List A) → ((x : A) → P x → Q x) → AllByRecursion P xs → AllByRecursion Q xs
one_known P Q [] f p = tt
one_known P Q (x ∷ xs) f p = (f x p.0, one_known P Q xs f p.1)

has_sayable : (s : Subvolume ℕ) → IsSayable s → Has IsByteName IsSayableInode s
has_sayable s h = record { names = h.byte_names; inodes = both_known (λ (e : ℕ × Inode ℕ). IsBytes e.1.cells) (λ (e : ℕ × Inode ℕ). length e.1.cells ≤ greatest_end) s.inodes h.byte_cells h.sizes }

sayable_from : (s : Subvolume ℕ) → IsLawful s → Has IsByteName IsSayableInode s → IsSayable s
sayable_from s lawful h = record {
  lawful = lawful;
  byte_names = h.names;
  byte_cells = one_known (λ (e : ℕ × Inode ℕ). IsSayableInode e.1) (λ e. IsBytes e.1.cells) s.inodes (λ e p. p.0) h.inodes;
  sizes = one_known (λ (e : ℕ × Inode ℕ). IsSayableInode e.1) (λ e. length e.1.cells ≤ greatest_end) s.inodes (λ e p. p.1) h.inodes;
}

-- An edit by a command that a version can say keeps a subvolume sayable.
pub edits_keep_sayable : EditsKeepSayable
edits_keep_sayable version c s t spelled h e =
    sayable_from t (edit_keeps_lawful 0 (bytes_of c) c s t h.lawful e)
    (edit_keeps IsByteName IsSayableInode 0 (bytes_of c) c s t (sayable_kept (bytes_of c) c (written_bytes version c spelled)) (byte_names (new_path c) (new_bytes version c spelled)) (has_sayable s h) e)

-- A clone that is taken has a source.
source_there : {C : Type 0} (part : Subvolume C) (own : Bool) (path : List ℕ) (offset : ℕ) (clone_path : List ℕ) (from len : ℕ) (range : Cloned C) → cloned part None own (clone_values path offset clone_path from len) ≡ Ok range → ⊥
unfolding cloned
source_there part own path offset clone_path from len range e =
    let a = required (is_some (path_names path)) BadPath _ range e in
    let b = required (is_some (path_names clone_path)) BadPath _ range a.1 in
    let none : Err NoSource ≡ Ok range = b.1 in cc

-- So does a clone, where its source can be said.
pub clone_keeps_sayable : (part : Subvolume ℕ) (source : Option (Subvolume ℕ)) (is_own : Bool) (path : List ℕ) (offset : ℕ) (clone_path : List ℕ) (from len : ℕ) (t : Subvolume ℕ)
    → IsSayable part → ((u : Subvolume ℕ) → source ≡ Some u → IsSayable u) → clone 0 part source is_own (clone_values path offset clone_path from len) ≡ Ok t → IsSayable t
clone_keeps_sayable part source is_own path offset clone_path from len t h hs e =
    sayable_from t (clone_keeps_lawful 0 source is_own path offset clone_path from len part t h.lawful e)
    (clone_keeps IsByteName IsSayableInode 0 part source is_own path offset clone_path from len t (λ range made. put source refl range made) (has_sayable part h) e)
  where
    put : (o : Option (Subvolume ℕ)) → source ≡ o → (range : Cloned ℕ) → cloned part source is_own (clone_values path offset clone_path from len) ≡ Ok range → (inode : Inode ℕ) → IsSayableInode inode → IsSayableInode (set_cells (overwritten 0 offset range.cells) inode)
    put None is range made inode own = absurd (source_there part is_own path offset clone_path from len range (ap (λ (o : Option (Subvolume ℕ)). cloned part o is_own (clone_values path offset clone_path from len)) (sym is) ∙ made))
    put (Some u) is range made inode own =
        let facts = cloned_facts part u is_own path offset clone_path from len range (ap (λ (o : Option (Subvolume ℕ)). cloned part o is_own (clone_values path offset clone_path from len)) (sym is) ∙ made) in
        let bytes : IsBytes range.cells = subst IsBytes (sym facts.cells_are) (all_take IsByte len _ (all_drop IsByte from _ (cells_known u facts.source_ino (hs u is)))) in
        let end = leb-true (offset + len) greatest_end facts.fits in
        let long = facts.length_is in
        (all_overwritten IsByte 0 (omega arith) offset range.cells inode.cells bytes own.0, overwritten_len 0 greatest_end offset range.cells inode.cells (omega (arith, end, long)) own.1)

pub root_alone_is_sayable : IsSayable root_alone
unfolding root_alone
root_alone_is_sayable = record { lawful = root_alone_is_lawful; byte_names = tt; byte_cells = (tt, tt); sizes = (zero-le, tt) }
