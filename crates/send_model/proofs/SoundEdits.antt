-- Each edit keeps a subvolume sound.
use Rattle.std.specs.Prelude.{◌+◌, ◌≡◌, ℕ, ◌<◌, Bool, true, false, cond, ◌&&◌, List, [], ◌∷◌, Option, None, Some, Result, Ok, IsTrue, is_some, is_none, nat_le, ◌==◌}
use Rattle.std.specs.Ordering.{nat_cmp, eq_by_cmp}
use Rattle.std.specs.Cmp.{Equal-is, nat_cmp_total}
use Rattle.std.specs.List.{filter}
use Rattle.std.proofs.Common.{refl, sym, ap, subst, ◌∙◌, arith, inl, inr}
use Rattle.std.proofs.lemmas.Bool.{cases_lt, true≢false, eqb-false}
use Rattle.std.proofs.lemmas.Map.Lookups.{exact_unsigned}
use Rattle.send_model.specs.Refusal.{Refusal, BadPath, NoEntry, NotDirectory, EntryThere, IsRoot, NoNumber, BadDevice, IsDirectory, NotEmpty, NotFile, FileTooBig, BadFallocate, BadXattr, NoXattr}
use Rattle.send_model.specs.Chain.{found}
use Rattle.send_model.specs.Path.{path_names}
use Rattle.send_model.specs.Map.{Map, named_cmp, value_at}
use Rattle.send_model.specs.Subvolume.{Inode, Subvolume, Spot, root, inode_at, named, is_directory, is_file, walk_names, walk, spot, all_but_last, last_name, name_count, is_empty_directory, IsSound}
use Rattle.send_model.specs.Edit.{make, make_device, device_kind, add_inode, add_name, at_spot, link, unlink, rmdir, change_at, set_cells, set_xattr, remove_xattr, has_xattr, is_xattr_name, change_contents, allocation_of, fallocated, fallocate, greatest_number, greatest_end}
use Rattle.send_model.specs.Clone.{clone, cloned, clone_values}
use Rattle.send_model.proofs.Fuel.{required, not_refused, bound, ok_same}
use Rattle.send_model.proofs.MapLaws.{named_cmp_total, named_cmp_exact, with_value-order, with_value-here, with_value-other, count-key}
use Rattle.send_model.proofs.WalkLaws.{Leads, Step, leads_from_walk}
use Rattle.send_model.proofs.Soundness.{found_none, directory_by, directory_is_there, added_is_sound}
use Rattle.send_model.proofs.SoundRemovals.{taken_is_sound}
use Rattle.send_model.proofs.SoundChanges.{changed_is_sound}

-- ---- what a chain that ended well has found

pub found_is : {A : Type 0} (o : Option A) (refusal : Refusal) (x : A) → found o refusal ≡ Ok x → o ≡ Some x
found_is None refusal x e = cc
found_is (Some y) refusal x e = let some : _ → Option _ = λ z. Some z in ap some (ok_same e)

none_is : {A : Type 0} (o : Option A) → is_none o ≡ true → o ≡ None
none_is None e = refl
none_is (Some x) e = absurd (true≢false (sym e))

pub not_both : (a b : Bool) → a && b ≡ false → a ≡ true → b ≡ false
not_both true b e h = e
not_both false b e h = absurd (true≢false (sym h))

-- Where no entry stands in a directory, no name is found there.
no_names_in : (x : ℕ) (name : List ℕ) (m : Map (ℕ × List ℕ) ℕ) → (elim (filter (λ e. e.0.0 == x) m) as (λ y. Bool) [ [] ↦ true | e ∷ es ↦ false ]) ≡ true → value_at named_cmp (x, name) m ≡ None
no_names_in x name [] empty = refl
no_names_in x name (e ∷ m) empty = one (e.0.0 == x) refl empty (no_names_in x name m)
  where
    one : (b : Bool) → (e.0.0 == x) ≡ b → (elim (cond b (e ∷ filter (λ f. f.0.0 == x) m) (filter (λ f. f.0.0 == x) m)) as (λ y. Bool) [ [] ↦ true | f ∷ fs ↦ false ]) ≡ true
        → ((elim (filter (λ f. f.0.0 == x) m) as (λ y. Bool) [ [] ↦ true | f ∷ fs ↦ false ]) ≡ true → value_at named_cmp (x, name) m ≡ None) → value_at named_cmp (x, name) (e ∷ m) ≡ None
    one true t empty more = absurd (true≢false (sym empty))
    one false t empty more = ap (λ (b : Bool). cond b (Some e.1) (value_at named_cmp (x, name) m)) (differs (eq_by_cmp named_cmp (x, name) e.0) refl) ∙ more empty
      where
        differs : (b : Bool) → eq_by_cmp named_cmp (x, name) e.0 ≡ b → b ≡ false
        differs true same = absurd (eqb-false e.0.0 x t (ap (λ (k : ℕ × List ℕ). k.0) (sym (named_cmp_exact (x, name) e.0 ((Equal-is _).0 same)))))
        differs false same = refl

module _ {C : Type 0} where
  -- The directory of a place that a path names, and the walk to it.
  pub record PlaceOf (s : Subvolume C) (path : List ℕ) (place : Spot) : Type 0 where
    pub names : List (List ℕ)
    pub of_path : path_names path ≡ Some names
    pub walked : walk_names s root (all_but_last names) ≡ Ok place.directory
    pub directory : IsTrue (is_directory s place.directory)

  pub place_of : (s : Subvolume C) (path : List ℕ) (place : Spot) → spot s path ≡ Ok place → PlaceOf s path place
  unfolding spot
  place_of s path place e =
      let a = bound (found (path_names path) BadPath) _ place e in
      let b = bound (found (last_name a.0) IsRoot) _ place a.2 in
      let c = bound (walk_names s root (all_but_last a.0)) _ place b.2 in
      let d = required (is_directory s c.0) NotDirectory _ place c.2 in
      let same : c.0 ≡ place.directory = ap (λ (p : Spot). p.directory) (ok_same d.1) in
      record {
        names = a.0;
        of_path = found_is (path_names path) BadPath a.0 a.1;
        walked = c.1 ∙ (let ok : ℕ → Result ℕ Refusal = λ n. Ok n in ap ok same);
        directory = subst (λ (i : ℕ). IsTrue (is_directory s i)) same d.0;
      }

  -- ---- new inodes

  pub make_is_sound : (inode : Inode C) (path : List ℕ) (s t : Subvolume C) → IsSound s → make inode path s ≡ Ok t → IsSound t
  unfolding make add_inode name_count
  make_is_sound inode path s t h e =
      let a = bound (spot s path) _ t e in
      let b = required (is_none (at_spot s a.0)) EntryThere _ t a.2 in
      let c = not_refused (s.next == greatest_number) NoNumber _ t b.1 in
      let place = place_of s path a.0 a.1 in
      subst (λ (u : Subvolume C). IsSound u) (ok_same c.1)
      (added_is_sound s (add_inode a.0 inode s) a.0 s.next h refl
      (with_value-order nat_cmp nat_cmp_total exact_unsigned s.next inode s.inodes h.inodes_in_order)
      (λ ino n. with_value-other nat_cmp nat_cmp_total exact_unsigned ino s.next inode s.inodes n)
      (ap is_some (with_value-here nat_cmp nat_cmp_total exact_unsigned s.next inode s.inodes))
      (omega arith) (omega arith)
      (λ same. absent (subst (λ (i : ℕ). IsTrue (is_some (inode_at s i))) (sym same) (directory_is_there s root h.root_there)))
      (λ name ino found. absent (directory_is_there s s.next (h.in_directory s.next name ino found)))
      (λ is. unnamed)
      (λ same. absent (subst (λ (i : ℕ). IsTrue (is_some (inode_at s i))) same (directory_is_there s a.0.directory place.directory)))
      place.directory (none_is (at_spot s a.0) b.0))
    where
      absent : IsTrue (is_some (inode_at s s.next)) → ⊥
      absent is = let below : s.next < s.next = h.below_next s.next is in omega arith

      unnamed : name_count s s.next ≡ 0
      unnamed = elim (cases_lt 0 (name_count s s.next)) [
        | inr none ↦ omega arith
        | inl some ↦ let one = count-key named_cmp named_cmp_total named_cmp_exact s.next s.names h.names_in_order (omega arith) in
            absurd (absent (h.leads_somewhere one.0.0 one.0.1 s.next one.1))
      ]

  pub make_device_is_sound : (mode rdev : ℕ) (path : List ℕ) (s t : Subvolume C) → IsSound s → make_device mode rdev path s ≡ Ok t → IsSound t
  unfolding make_device
  make_device_is_sound mode rdev path s t h e = let a = bound (found (device_kind mode) BadDevice) _ t e in make_is_sound _ path s t h a.2

  -- ---- names

  -- A walk leads to an inode that is there.
  leads_there : (s : Subvolume C) → IsSound s → (names : List (List ℕ)) (from to : ℕ) → Leads (Step s) names from to → IsTrue (is_some (inode_at s from)) → IsTrue (is_some (inode_at s to))
  leads_there s h [] from to l is = subst (λ (i : ℕ). IsTrue (is_some (inode_at s i))) l is
  leads_there s h (name ∷ names) from to l is = leads_there s h names l.0 to l.2 (h.leads_somewhere from name l.0 l.1.1)

  pub walk_there : (s : Subvolume C) (path : List ℕ) (to : ℕ) → IsSound s → walk s path ≡ Ok to → IsTrue (is_some (inode_at s to))
  unfolding walk
  walk_there s path to h e =
      let a = bound (found (path_names path) BadPath) _ to e in
      leads_there s h a.0 root to (leads_from_walk s a.0 root to a.2) (directory_is_there s root h.root_there)

  -- What is no directory has no names in it; nor has an empty directory.
  pub file_is_leaf : (s : Subvolume C) (x : ℕ) → IsSound s → is_directory s x ≡ false → (name : List ℕ) (ino : ℕ) → named s x name ≡ Some ino → ⊥
  file_is_leaf s x h none name ino found = true≢false (sym (h.in_directory x name ino found) ∙ none)

  pub empty_is_leaf : (s : Subvolume C) (x : ℕ) → is_empty_directory s x ≡ true → (name : List ℕ) (ino : ℕ) → named s x name ≡ Some ino → ⊥
  unfolding is_empty_directory
  empty_is_leaf s x empty name ino found = found_none (named s x name) ino found (no_names_in x name s.names empty)

  pub link_is_sound : (path existing : List ℕ) (s t : Subvolume C) → IsSound s → link path existing s ≡ Ok t → IsSound t
  unfolding link
  link_is_sound path existing s t h e =
      let a = required (is_some (path_names path)) BadPath _ t e in
      let b = bound (walk s existing) _ t a.1 in
      let c = not_refused (is_directory s b.0) IsDirectory _ t b.2 in
      let d = bound (spot s path) _ t c.1 in
      let f = required (is_none (at_spot s d.0)) EntryThere _ t d.2 in
      let place = place_of s path d.0 d.1 in
      let there = walk_there s existing b.0 h b.1 in
      subst (λ (u : Subvolume C). IsSound u) (ok_same f.1)
      (added_is_sound s (add_name d.0 b.0 s) d.0 b.0 h refl h.inodes_in_order (λ ino n. refl) there (h.below_next b.0 there) (omega arith)
      (λ same. no_directory b.0 c.0 (subst (λ (i : ℕ). IsTrue (is_directory s i)) (sym same) h.root_there))
      (file_is_leaf s b.0 h c.0)
      (λ is. absurd (no_directory b.0 c.0 (sym (directory_by s (add_name d.0 b.0 s) b.0 refl) ∙ is)))
      (λ same. no_directory b.0 c.0 (subst (λ (i : ℕ). IsTrue (is_directory s i)) same place.directory))
      place.directory (none_is (at_spot s d.0) f.0))
    where
      no_directory : (x : ℕ) → is_directory s x ≡ false → IsTrue (is_directory s x) → ⊥
      no_directory x none is = true≢false (sym is ∙ none)

  pub unlink_is_sound : (path : List ℕ) (s t : Subvolume C) → IsSound s → unlink path s ≡ Ok t → IsSound t
  unfolding unlink
  unlink_is_sound path s t h e =
      let a = bound (spot s path) _ t e in
      let b = bound (found (at_spot s a.0) NoEntry) _ t a.2 in
      let c = not_refused (is_directory s b.0) IsDirectory _ t b.2 in
      subst (λ (u : Subvolume C). IsSound u) (ok_same c.1) (taken_is_sound s a.0 b.0 h (found_is (at_spot s a.0) NoEntry b.0 b.1) (file_is_leaf s b.0 h c.0))

  pub rmdir_is_sound : (path : List ℕ) (s t : Subvolume C) → IsSound s → rmdir path s ≡ Ok t → IsSound t
  unfolding rmdir
  rmdir_is_sound path s t h e =
      let a = bound (spot s path) _ t e in
      let b = bound (found (at_spot s a.0) NoEntry) _ t a.2 in
      let c = required (is_directory s b.0) NotDirectory _ t b.2 in
      let d = required (is_empty_directory s b.0) NotEmpty _ t c.1 in
      subst (λ (u : Subvolume C). IsSound u) (ok_same d.1) (taken_is_sound s a.0 b.0 h (found_is (at_spot s a.0) NoEntry b.0 b.1) (empty_is_leaf s b.0 d.0))

  -- ---- changes of an inode

  pub change_at_is_sound : (path : List ℕ) (change : Inode C → Inode C) (s t : Subvolume C) → ((inode : Inode C) → (change inode).kind ≡ inode.kind) → IsSound s → change_at path change s ≡ Ok t → IsSound t
  unfolding change_at
  change_at_is_sound path change s t kind h e =
      let a = bound (walk s path) _ t e in
      subst (λ (u : Subvolume C). IsSound u) (ok_same a.2) (changed_is_sound a.0 change s kind h)

  pub set_xattr_is_sound : (path name value : List ℕ) (s t : Subvolume C) → IsSound s → set_xattr path name value s ≡ Ok t → IsSound t
  unfolding set_xattr
  set_xattr_is_sound path name value s t h e =
      let a = bound (walk s path) _ t e in
      let b = required (is_xattr_name name) BadXattr _ t a.2 in
      subst (λ (u : Subvolume C). IsSound u) (ok_same b.1) (changed_is_sound a.0 _ s (λ inode. refl) h)

  pub remove_xattr_is_sound : (path name : List ℕ) (s t : Subvolume C) → IsSound s → remove_xattr path name s ≡ Ok t → IsSound t
  unfolding remove_xattr
  remove_xattr_is_sound path name s t h e =
      let a = bound (walk s path) _ t e in
      let b = required (is_xattr_name name) BadXattr _ t a.2 in
      let c = required (has_xattr s a.0 name) NoXattr _ t b.1 in
      subst (λ (u : Subvolume C). IsSound u) (ok_same c.1) (changed_is_sound a.0 _ s (λ inode. refl) h)

  pub change_contents_is_sound : (path : List ℕ) (end : ℕ) (change : List C → List C) (s t : Subvolume C) → IsSound s → change_contents path end change s ≡ Ok t → IsSound t
  unfolding change_contents
  change_contents_is_sound path end change s t h e =
      let a = bound (walk s path) _ t e in
      let b = required (is_file s a.0) NotFile _ t a.2 in
      let c = required (nat_le end greatest_end) FileTooBig _ t b.1 in
      subst (λ (u : Subvolume C). IsSound u) (ok_same c.1) (changed_is_sound a.0 (set_cells change) s (λ inode. refl) h)

  pub fallocate_is_sound : (zero_cell : C) (path : List ℕ) (offset size mode : ℕ) (s t : Subvolume C) → IsSound s → fallocate zero_cell path offset size mode s ≡ Ok t → IsSound t
  unfolding fallocate
  fallocate_is_sound zero_cell path offset size mode s t h e =
      let a = bound (walk s path) _ t e in
      let b = required (is_file s a.0) NotFile _ t a.2 in
      let c = bound (found (allocation_of mode) (BadFallocate mode)) _ t b.1 in
      let d = required (nat_le (offset + size) greatest_end) FileTooBig _ t c.2 in
      subst (λ (u : Subvolume C). IsSound u) (ok_same d.1) (changed_is_sound a.0 (set_cells (fallocated zero_cell c.0 offset size)) s (λ inode. refl) h)

  -- A clone keeps a part sound, whatever it reads.
  pub clone_keeps_sound : (zero_cell : C) (part : Subvolume C) (source : Option (Subvolume C)) (is_own : Bool) (path : List ℕ) (offset : ℕ) (clone_path : List ℕ) (from len : ℕ) (t : Subvolume C)
      → IsSound part → clone zero_cell part source is_own (clone_values path offset clone_path from len) ≡ Ok t → IsSound t
  unfolding clone
  clone_keeps_sound zero_cell part source is_own path offset clone_path from len t h e =
      let a = bound (cloned part source is_own (clone_values path offset clone_path from len)) _ t e in
      subst (λ (u : Subvolume C). IsSound u) (ok_same a.2) (changed_is_sound a.0.ino _ part (λ inode. refl) h)
