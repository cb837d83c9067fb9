-- Each command: where a birth lives before it, by what lives after it.
use Rattle.std.specs.Prelude.{◌≡◌, ◌⊎◌, ℕ, zero, suc, ◌+◌, ◌-◌, ◌<◌, ◌≤◌, ◌==◌, Bool, true, false, not, ◌&&◌, ◌||◌, List, [], ◌∷◌, length, drop, replicate, Option, None, Some, Result, Ok, Err, nat_le, nat_lt, is_some, if◌then◌else◌}
use Rattle.std.specs.List.{range_with_len}
use Rattle.std.specs.Str.{bytes_eq}
use Rattle.std.proofs.Common.{refl, sym, ap, subst, ◌∙◌, arith, get_or, eqb-true, inl, inr}
use Rattle.std.proofs.lemmas.Bool.{and_parts}
use Rattle.std.proofs.lemmas.List.{get_or-take, get_or-drop, length-replicate, length-map}
use Rattle.std.proofs.lemmas.List.FromFn.{length-range_with_len}
use Rattle.send_model.specs.Refusal.{Refusal, NotFile, FileTooBig, BadFallocate, BadPath, NoSource}
use Rattle.send_model.specs.Chain.{◌>>=◌, ◌>>◌, require, found}
use Rattle.send_model.specs.Path.{path_names}
use Rattle.send_model.specs.Command.{Command, Write, Clone, Truncate, Fallocate}
use Rattle.send_model.specs.Subvolume.{Inode, Subvolume, IsSound, inode_at, is_file, walk}
use Rattle.send_model.specs.Edit.{greatest_end, resized, overwritten, written_at, Allocation, Lengthen, KeepSize, PunchHole, ZeroRange, ZeroWithin, allocation_of, fallocated, fallocate, change_contents, change_inode, set_cells, edit}
use Rattle.send_model.specs.Clone.{cells_of, Cloned, cloned, clone, clone_values}
use Rattle.send_model.specs.Store.{Store, Part, Key, key_of, find, clone_source, edit_part}
use Rattle.send_model.specs.Receive.{bytes_of}
use Rattle.send_model.proofs.Fuel.{required, bound, ok_same}
use Rattle.send_model.proofs.Redirected.{ClonedFacts, cloned_facts}
use Rattle.send_model.proofs.Rewriting.{file_there}
use Rattle.send_model.proofs.SoundEdits.{found_is}
use Rattle.squash_model.specs.Squashed.{Birth, births_from}
use Rattle.squash_model.specs.Liveness.{Living, covers, live_beside, live_cut, live_copied, live_allocated, at_file, size_of, live_before}
use Rattle.squash_model.proofs.Laid.{filled_read}
use Rattle.squash_model.proofs.LiveReads.{covered, over_out, over_at, written_out, written_in, zeroed_out, zeroed_in}
use Rattle.squash_model.proofs.KeptCells.{Kept, edit_kept}
use Rattle.squash_model.proofs.LiveSteps.{cell, new_cells, other_cells, new_there, new_next, is_birth, Same, new_range, copied_range, cut_file, IsOf, kept_same, kept_of}

pub births_len : (count : ℕ) (bytes : List ℕ) → length (births_from count bytes) ≡ length bytes
births_len count bytes = length-map (range_with_len count (length bytes)) (λ (b : ℕ). Some b) ∙ length-range_with_len count (length bytes)

never_covers : (p : ℕ) → covers 0 0 p ≡ true → ⊥
never_covers p h = let k = covered 0 0 p h in let low = k.1 in let z : 0 + 0 ≡ 0 = refl in omega (arith, low, z)

or_none : (b : Bool) → b || false ≡ b
or_none true = refl
or_none false = refl

module _ (birth : ℕ) where
  -- Births from a later number on are others.
  pub later_births : (count : ℕ) (bytes : List ℕ) (j : ℕ) → birth < count → is_birth birth (get_or (births_from count bytes) j None) ≡ false
  later_births count [] j h = refl
  later_births count (b ∷ bytes) zero h = one (count == birth) refl
    where
      one : (t : Bool) → (count == birth) ≡ t → (count == birth) ≡ false
      one true e = absurd (let same : count ≡ birth = eqb-true count birth e in omega (arith, same, h))
      one false e = e
  later_births count (b ∷ bytes) (suc j) h = later_births (count + 1) bytes j (omega (arith, h))

  -- What a command makes of a part: where the birth is found, and that only what is there lives.
  pub record Steps (part : Part Birth) (c : Command) (after : Living) (t : Subvolume Birth) : Type 0 where
    pub same : Same birth (live_before part c after) part.subvolume after t
    pub of : IsOf birth (live_before part c after) part.subvolume

  -- A change of contents keeps what is there.
  module _ (ino : ℕ) (g : List Birth → List Birth) (s : Subvolume Birth) (old : Inode Birth) (at : inode_at s ino ≡ Some old) (after : Living) where
    made_of : IsOf birth after (change_inode ino (set_cells g) s) → IsOf birth after s
    made_of of i p h = elim (of i p h) [
      | inl there ↦ inl (sym (new_there ino g s old at i) ∙ there)
      | inr late ↦ inr (let e = new_next ino g s old at in omega (arith, late, e))
    ]

    beside_of : (size offset len : ℕ) → IsOf birth after (change_inode ino (set_cells g) s) → IsOf birth (live_beside ino size offset len after) s
    beside_of size offset len of i p h = made_of of i p (one (i == ino) h)
      where
        one : (b : Bool) → (if b then (nat_lt p size && not (covers offset len p)) && after i p else after i p) ≡ true → after i p ≡ true
        one true q = (and_parts (nat_lt p size && not (covers offset len p)) (after i p) q).1
        one false q = q

    cut_of : (size new : ℕ) → IsOf birth after (change_inode ino (set_cells g) s) → IsOf birth (live_cut ino size new after) s
    cut_of size new of i p h = made_of of i p (one (i == ino) h)
      where
        one : (b : Bool) → (if b then (nat_lt p size && nat_lt p new) && after i p else after i p) ≡ true → after i p ≡ true
        one true q = (and_parts (nat_lt p size && nat_lt p new) (after i p) q).1
        one false q = q

  module _ (part : Part Birth) (after : Living) where
    abbrev s : Subvolume Birth
    s = part.subvolume

    -- ---- WRITE

    write_before : (path : List ℕ) (offset : ℕ) (bytes : List ℕ) (ino : ℕ) → walk s path ≡ Ok ino → live_before part (Write path offset bytes) after ≡ live_beside ino (length (cells_of s ino)) offset (length bytes) after
    unfolding live_before
    write_before path offset bytes ino w = ap (λ (r : Result ℕ Refusal). elim r as (λ x. Living) [ Err refusal ↦ after | Ok i ↦ live_beside i (size_of s i) offset (length bytes) after ]) w

    write_steps : (path : List ℕ) (offset : ℕ) (bytes : List ℕ) (count : ℕ) (t : Subvolume Birth) → birth < count → change_contents path (offset + length (births_from count bytes)) (written_at None offset (births_from count bytes)) s ≡ Ok t
        → IsOf birth after t → Steps part (Write path offset bytes) after t
    unfolding change_contents
    write_steps path offset bytes count t early e of =
        let put : List Birth = births_from count bytes in
        let a = bound (walk s path) _ t e in
        let b = required (is_file s a.0) NotFile _ t a.2 in
        let d = required (nat_le (offset + length put) greatest_end) FileTooBig _ t b.1 in
        let ino : ℕ = a.0 in
        let g : List Birth → List Birth = written_at None offset put in
        let old = file_there s ino b.0 in
        let made : Subvolume Birth = change_inode ino (set_cells g) s in
        let is : made ≡ t = ok_same d.1 in
        let of_made : IsOf birth after made = subst (λ (u : Subvolume Birth). IsOf birth after u) (sym is) of in
        let before = write_before path offset bytes ino a.1 in
        let n : length put ≡ length bytes = births_len count bytes in
        let at : (p : ℕ) → cell made ino p ≡ get_or (g (cells_of s ino)) p None = λ p. ap (λ (c : List Birth). get_or c p None) (new_cells ino g s old.0 old.1) in
        let same : Same birth (live_beside ino (length (cells_of s ino)) offset (length bytes) after) s after made =
        new_range birth s made ino offset (length bytes) after (other_cells ino g s old.0 old.1)
        (λ p h. at p ∙ written_out None offset put (cells_of s ino) p (ap (λ (k : ℕ). covers offset k p) n ∙ h))
        (λ p h. ap (is_birth birth) (at p ∙ written_in None offset put (cells_of s ino) p (ap (λ (k : ℕ). covers offset k p) n ∙ h)) ∙ later_births count bytes (p - offset) early) in
        record {
          same = subst (λ (u : Subvolume Birth). Same birth (live_before part (Write path offset bytes) after) s after u) is (subst (λ (l : Living). Same birth l s after made) (sym before) same);
          of = subst (λ (l : Living). IsOf birth l s) (sym before) (beside_of ino g s old.0 old.1 after (length (cells_of s ino)) offset (length bytes) of_made);
        }

    -- ---- TRUNCATE

    truncate_before : (size : ℕ) (path : List ℕ) (ino : ℕ) → walk s path ≡ Ok ino → live_before part (Truncate size path) after ≡ live_cut ino (length (cells_of s ino)) size after
    unfolding live_before
    truncate_before size path ino w = ap (λ (r : Result ℕ Refusal). elim r as (λ x. Living) [ Err refusal ↦ after | Ok i ↦ live_cut i (size_of s i) size after ]) w

    truncate_steps : (size : ℕ) (path : List ℕ) (t : Subvolume Birth) → change_contents path size (resized None size) s ≡ Ok t → IsOf birth after t → Steps part (Truncate size path) after t
    unfolding change_contents
    truncate_steps size path t e of =
        let a = bound (walk s path) _ t e in
        let b = required (is_file s a.0) NotFile _ t a.2 in
        let d = required (nat_le size greatest_end) FileTooBig _ t b.1 in
        let ino : ℕ = a.0 in
        let g : List Birth → List Birth = resized None size in
        let old = file_there s ino b.0 in
        let made : Subvolume Birth = change_inode ino (set_cells g) s in
        let is : made ≡ t = ok_same d.1 in
        let of_made : IsOf birth after made = subst (λ (u : Subvolume Birth). IsOf birth after u) (sym is) of in
        let before = truncate_before size path ino a.1 in
        let same = cut_file birth s made ino size after (other_cells ino g s old.0 old.1) (new_cells ino g s old.0 old.1) in
        record {
          same = subst (λ (u : Subvolume Birth). Same birth (live_before part (Truncate size path) after) s after u) is (subst (λ (l : Living). Same birth l s after made) (sym before) same);
          of = subst (λ (l : Living). IsOf birth l s) (sym before) (cut_of ino g s old.0 old.1 after (length (cells_of s ino)) size of_made);
        }

    -- ---- FALLOCATE

    fallocate_before : (len : ℕ) (path : List ℕ) (offset mode ino : ℕ) (a : Allocation) → walk s path ≡ Ok ino → allocation_of mode ≡ Some a
        → live_before part (Fallocate len path offset mode) after ≡ live_allocated (Some a) ino (length (cells_of s ino)) offset len after
    unfolding live_before
    fallocate_before len path offset mode ino a w e =
        ap (λ (r : Result ℕ Refusal). elim r as (λ x. Living) [ Err refusal ↦ after | Ok i ↦ live_allocated (allocation_of mode) i (size_of s i) offset len after ]) w
        ∙ ap (λ (o : Option Allocation). live_allocated o ino (length (cells_of s ino)) offset len after) e

    module _ (ino : ℕ) (old : Inode Birth) (at : inode_at s ino ≡ Some old) where
      abbrev changed_to : (List Birth → List Birth) → Subvolume Birth
      changed_to g = change_inode ino (set_cells g) s

      read : (g : List Birth → List Birth) (p : ℕ) → cell (changed_to g) ino p ≡ get_or (g (cells_of s ino)) p None
      read g p = ap (λ (c : List Birth). get_or c p None) (new_cells ino g s old at)

      -- Cells that read as they were.
      alike : (g : List Birth → List Birth) → ((p : ℕ) → get_or (g (cells_of s ino)) p None ≡ cell s ino p) → Same birth (live_beside ino (length (cells_of s ino)) 0 0 after) s after (changed_to g)
      alike g h = new_range birth s (changed_to g) ino 0 0 after (other_cells ino g s old at) (λ p c. read g p ∙ h p) (λ p c. absurd (never_covers p c))

      -- Zero cells in a range.
      zero_range : (g : List Birth → List Birth) (offset len : ℕ) → ((p : ℕ) → covers offset len p ≡ false → get_or (g (cells_of s ino)) p None ≡ cell s ino p) → ((p : ℕ) → covers offset len p ≡ true → get_or (g (cells_of s ino)) p None ≡ None)
          → Same birth (live_beside ino (length (cells_of s ino)) offset len after) s after (changed_to g)
      zero_range g offset len out inn = new_range birth s (changed_to g) ino offset len after (other_cells ino g s old at) (λ p c. read g p ∙ out p c) (λ p c. ap (is_birth birth) (read g p ∙ inn p c))

      nothing_covered : (offset p : ℕ) → covers offset 0 p ≡ true → ⊥
      nothing_covered offset p h = let k = covered offset 0 p h in let low = k.0 in let high = k.1 in omega (arith, low, high)

      zeros_read : (n j : ℕ) → get_or (replicate {A = Birth} n None) j None ≡ None
      zeros_read zero j = refl
      zeros_read (suc n) zero = refl
      zeros_read (suc n) (suc j) = zeros_read n j

      allocated_same : (a : Allocation) (offset len : ℕ) → Same birth (live_allocated (Some a) ino (length (cells_of s ino)) offset len after) s after (changed_to (fallocated None a offset len))
      unfolding fallocated
      allocated_same Lengthen offset zero = alike (fallocated None Lengthen offset zero) (λ p. refl)
      allocated_same Lengthen offset (suc len) = alike (fallocated None Lengthen offset (suc len)) (λ p. filled_read None (offset + suc len) (cells_of s ino) p)
      allocated_same KeepSize offset zero = alike (fallocated None KeepSize offset zero) (λ p. refl)
      allocated_same KeepSize offset (suc len) = alike (fallocated None KeepSize offset (suc len)) (λ p. refl)
      allocated_same PunchHole offset zero = zero_range (fallocated None PunchHole offset zero) offset zero (λ p h. refl) (λ p h. absurd (nothing_covered offset p h))
      allocated_same PunchHole offset (suc len) = zero_range (fallocated None PunchHole offset (suc len)) offset (suc len) (λ p h. zeroed_out None offset (suc len) (cells_of s ino) p h) (λ p h. zeroed_in None offset (suc len) (cells_of s ino) p h)
      allocated_same ZeroRange offset zero = zero_range (fallocated None ZeroRange offset zero) offset zero (λ p h. refl) (λ p h. absurd (nothing_covered offset p h))
      allocated_same ZeroRange offset (suc len) =
          let n : length (replicate {A = Birth} (suc len) None) ≡ suc len = length-replicate (suc len) None in
          zero_range (fallocated None ZeroRange offset (suc len)) offset (suc len)
          (λ p h. written_out None offset (replicate (suc len) None) (cells_of s ino) p (ap (λ (k : ℕ). covers offset k p) n ∙ h))
          (λ p h. written_in None offset (replicate (suc len) None) (cells_of s ino) p (ap (λ (k : ℕ). covers offset k p) n ∙ h) ∙ zeros_read (suc len) (p - offset))
      allocated_same ZeroWithin offset zero = zero_range (fallocated None ZeroWithin offset zero) offset zero (λ p h. refl) (λ p h. absurd (nothing_covered offset p h))
      allocated_same ZeroWithin offset (suc len) = zero_range (fallocated None ZeroWithin offset (suc len)) offset (suc len) (λ p h. zeroed_out None offset (suc len) (cells_of s ino) p h) (λ p h. zeroed_in None offset (suc len) (cells_of s ino) p h)

      allocated_of : (a : Allocation) (offset len : ℕ) (g : List Birth → List Birth) → IsOf birth after (changed_to g) → IsOf birth (live_allocated (Some a) ino (length (cells_of s ino)) offset len after) s
      allocated_of Lengthen offset len g of = beside_of ino g s old at after (length (cells_of s ino)) 0 0 of
      allocated_of KeepSize offset len g of = beside_of ino g s old at after (length (cells_of s ino)) 0 0 of
      allocated_of PunchHole offset len g of = beside_of ino g s old at after (length (cells_of s ino)) offset len of
      allocated_of ZeroRange offset len g of = beside_of ino g s old at after (length (cells_of s ino)) offset len of
      allocated_of ZeroWithin offset len g of = beside_of ino g s old at after (length (cells_of s ino)) offset len of

    fallocate_steps : (len : ℕ) (path : List ℕ) (offset mode : ℕ) (t : Subvolume Birth) → fallocate None path offset len mode s ≡ Ok t → IsOf birth after t → Steps part (Fallocate len path offset mode) after t
    unfolding fallocate
    fallocate_steps len path offset mode t e of =
        let a = bound (walk s path) _ t e in
        let b = required (is_file s a.0) NotFile _ t a.2 in
        let c = bound (found (allocation_of mode) (BadFallocate mode)) _ t b.1 in
        let d = required (nat_le (offset + len) greatest_end) FileTooBig _ t c.2 in
        let ino : ℕ = a.0 in
        let old = file_there s ino b.0 in
        let made : Subvolume Birth = changed_to ino old.0 old.1 (fallocated None c.0 offset len) in
        let is : made ≡ t = ok_same d.1 in
        let of_made : IsOf birth after made = subst (λ (u : Subvolume Birth). IsOf birth after u) (sym is) of in
        let before = fallocate_before len path offset mode ino c.0 a.1 (found_is (allocation_of mode) (BadFallocate mode) c.0 c.1) in
        record {
          same = subst (λ (u : Subvolume Birth). Same birth (live_before part (Fallocate len path offset mode) after) s after u) is
              (subst (λ (l : Living). Same birth l s after made) (sym before) (allocated_same ino old.0 old.1 c.0 offset len));
          of = subst (λ (l : Living). IsOf birth l s) (sym before) (allocated_of ino old.0 old.1 c.0 offset len (fallocated None c.0 offset len) of_made);
        }

    -- ---- CLONE

    module _ (path : List ℕ) (offset : ℕ) (uuid : List ℕ) (ctransid : ℕ) (clone_path : List ℕ) (from len : ℕ) where
      abbrev this : Command
      this = Clone path offset uuid ctransid clone_path from len

      clone_before : (ino : ℕ) (own : Bool) → walk s path ≡ Ok ino → bytes_eq uuid part.key.uuid ≡ own
          → live_before part this after ≡ (λ i p. live_beside ino (length (cells_of s ino)) offset len after i p || (own && at_file s clone_path (λ source. live_copied ino offset source from len after i p) false))
      unfolding live_before
      clone_before ino own w o =
          ap (λ (r : Result ℕ Refusal). elim r as (λ x. Living) [
            | Err refusal ↦ after
            | Ok k ↦ (λ i p. live_beside k (size_of s k) offset len after i p || (bytes_eq uuid part.key.uuid && at_file s clone_path (λ source. live_copied k offset source from len after i p) false))
          ]) w
          ∙ ap (λ (b : Bool). (λ (i p : ℕ). live_beside ino (length (cells_of s ino)) offset len after i p || (b && at_file s clone_path (λ source. live_copied ino offset source from len after i p) false))) o

      -- What stands in the range that was written.
      range_read : (source : Subvolume Birth) (range : Cloned Birth) (f : ClonedFacts s source path offset clone_path from len range) (old : Inode Birth) (at : inode_at s range.ino ≡ Some old) (p : ℕ) → covers offset len p ≡ true
          → cell (change_inode range.ino (set_cells (overwritten None offset range.cells)) s) range.ino p ≡ cell source f.source_ino (from + (p - offset))
      range_read source range f old at p h =
          let g : List Birth → List Birth = overwritten None offset range.cells in
          let k = covered offset len p h in
          let low = k.0 in
          let high = k.1 in
          let n = f.length_is in
          ap (λ (c : List Birth). get_or c p None) (new_cells range.ino g s old at)
          ∙ over_at None offset range.cells (cells_of s range.ino) p (ap (λ (q : ℕ). covers offset q p) n ∙ h)
          ∙ ap (λ (c : List Birth). get_or c (p - offset) None) f.cells_are
          ∙ get_or-take len (drop from (cells_of source f.source_ino)) (p - offset) None (omega (arith, low, high))
          ∙ get_or-drop from (cells_of source f.source_ino) (p - offset) None

      range_out : (source : Subvolume Birth) (range : Cloned Birth) (f : ClonedFacts s source path offset clone_path from len range) (old : Inode Birth) (at : inode_at s range.ino ≡ Some old) (p : ℕ) → covers offset len p ≡ false
          → cell (change_inode range.ino (set_cells (overwritten None offset range.cells)) s) range.ino p ≡ cell s range.ino p
      range_out source range f old at p h =
          ap (λ (c : List Birth). get_or c p None) (new_cells range.ino (overwritten None offset range.cells) s old at)
          ∙ over_out None offset range.cells (cells_of s range.ino) p (ap (λ (q : ℕ). covers offset q p) f.length_is ∙ h)

      own_steps : (t : Subvolume Birth) → bytes_eq uuid part.key.uuid ≡ true → clone None s (Some s) true (clone_values path offset clone_path from len) ≡ Ok t → IsOf birth after t → Steps part this after t
      unfolding clone
      own_steps t own e of =
          let r = bound (cloned s (Some s) true (clone_values path offset clone_path from len)) _ t e in
          let range : Cloned Birth = r.0 in
          let f = cloned_facts s s true path offset clone_path from len range r.1 in
          let ino : ℕ = range.ino in
          let g : List Birth → List Birth = overwritten None offset range.cells in
          let old = file_there s ino f.file in
          let source = file_there s f.source_ino f.source_file in
          let made : Subvolume Birth = change_inode ino (set_cells g) s in
          let is : made ≡ t = ok_same r.2 in
          let of_made : IsOf birth after made = subst (λ (u : Subvolume Birth). IsOf birth after u) (sym is) of in
          let l : Living = λ i p. live_beside ino (length (cells_of s ino)) offset len after i p || live_copied ino offset f.source_ino from len after i p in
          let before : live_before part this after ≡ l =
          clone_before ino true f.walked own
          ∙ ap (λ (w : Result ℕ Refusal). (λ (i p : ℕ). live_beside ino (length (cells_of s ino)) offset len after i p || (true && elim w as (λ x. Bool) [ Err refusal ↦ false | Ok source ↦ live_copied ino offset source from len after i p ]))) f.source_walked in
          let same : Same birth l s after made =
          copied_range birth s made ino offset len after (other_cells ino g s old.0 old.1) (λ p h. range_out s range f old.0 old.1 p h) f.source_ino from (λ p h. range_read s range f old.0 old.1 p h) in
          record {
            same = subst (λ (u : Subvolume Birth). Same birth (live_before part this after) s after u) is (subst (λ (x : Living). Same birth x s after made) (sym before) same);
            of = subst (λ (x : Living). IsOf birth x s) (sym before) (own_of ino old.0 old.1 f.source_ino source.0 source.1 g of_made);
          }
        where
          own_of : (ino : ℕ) (old : Inode Birth) (at : inode_at s ino ≡ Some old) (source : ℕ) (inode : Inode Birth) → inode_at s source ≡ Some inode → (g : List Birth → List Birth) → IsOf birth after (change_inode ino (set_cells g) s)
              → IsOf birth (λ i p. live_beside ino (length (cells_of s ino)) offset len after i p || live_copied ino offset source from len after i p) s
          own_of ino old at source inode there g of i p h = one (live_beside ino (length (cells_of s ino)) offset len after i p) refl h
            where
              one : (b : Bool) → live_beside ino (length (cells_of s ino)) offset len after i p ≡ b → b || live_copied ino offset source from len after i p ≡ true → (is_some (inode_at s i) ≡ true) ⊎ (s.next ≤ i)
              one true e q = beside_of ino g s old at after (length (cells_of s ino)) offset len of i p e
              one false e q =
                  let parts = and_parts ((i == source) && covers from len p) (after ino (offset + (p - from))) q in
                  let same : i ≡ source = eqb-true i source (and_parts (i == source) (covers from len p) parts.0).0 in
                  inl (ap (λ (j : ℕ). is_some (inode_at s j)) same ∙ ap is_some there)

      outside_steps : (t source : Subvolume Birth) → bytes_eq uuid part.key.uuid ≡ false → clone None s (Some source) false (clone_values path offset clone_path from len) ≡ Ok t
          → ((i p : ℕ) → is_birth birth (cell source i p) ≡ false) → IsOf birth after t → Steps part this after t
      unfolding clone
      outside_steps t source own e free of =
          let r = bound (cloned s (Some source) false (clone_values path offset clone_path from len)) _ t e in
          let range : Cloned Birth = r.0 in
          let f = cloned_facts s source false path offset clone_path from len range r.1 in
          let ino : ℕ = range.ino in
          let g : List Birth → List Birth = overwritten None offset range.cells in
          let old = file_there s ino f.file in
          let made : Subvolume Birth = change_inode ino (set_cells g) s in
          let is : made ≡ t = ok_same r.2 in
          let of_made : IsOf birth after made = subst (λ (u : Subvolume Birth). IsOf birth after u) (sym is) of in
          let l : Living = live_beside ino (length (cells_of s ino)) offset len after in
          let before : live_before part this after ≡ l = clone_before ino false f.walked own ∙ (λ k i p. or_none (l i p) k) in
          let same : Same birth l s after made =
          new_range birth s made ino offset len after (other_cells ino g s old.0 old.1) (λ p h. range_out source range f old.0 old.1 p h)
          (λ p h. ap (is_birth birth) (range_read source range f old.0 old.1 p h) ∙ free f.source_ino (from + (p - offset))) in
          record {
            same = subst (λ (u : Subvolume Birth). Same birth (live_before part this after) s after u) is (subst (λ (x : Living). Same birth x s after made) (sym before) same);
            of = subst (λ (x : Living). IsOf birth x s) (sym before) (beside_of ino g s old.0 old.1 after (length (cells_of s ino)) offset len of_made);
          }

      no_source : (t : Subvolume Birth) (own : Bool) → clone None s None own (clone_values path offset clone_path from len) ≡ Ok t → ⊥
      unfolding clone cloned
      no_source t own e = one (is_some (path_names path)) (is_some (path_names clone_path)) e
        where
          one : (a b : Bool) → ((require a BadPath >> (require b BadPath >> Err NoSource)) >>= λ (range : Cloned Birth). Ok (change_inode range.ino (set_cells (overwritten None offset range.cells)) s)) ≡ Ok t → ⊥
          one true true q = cc
          one true false q = cc
          one false b q = cc

    -- No subvolume of the store has the birth.
    abbrev pub IsFree : Store Birth → Type 0
    IsFree u = (key : Key) (source : Subvolume Birth) → find u key ≡ Some source → (i p : ℕ) → is_birth birth (cell source i p) ≡ false

    clone_steps : (u : Store Birth) (path : List ℕ) (offset : ℕ) (uuid : List ℕ) (ctransid : ℕ) (clone_path : List ℕ) (from len : ℕ) (t : Subvolume Birth) → IsFree u
        → clone None s (clone_source u part (key_of uuid ctransid)) (bytes_eq uuid part.key.uuid) (clone_values path offset clone_path from len) ≡ Ok t → IsOf birth after t
        → Steps part (Clone path offset uuid ctransid clone_path from len) after t
    clone_steps u path offset uuid ctransid clone_path from len t free e of = one (bytes_eq uuid part.key.uuid) refl (find u (key_of uuid ctransid)) refl
      where
        one : (b : Bool) → bytes_eq uuid part.key.uuid ≡ b → (o : Option (Subvolume Birth)) → find u (key_of uuid ctransid) ≡ o → Steps part (Clone path offset uuid ctransid clone_path from len) after t
        one true own o f = own_steps path offset uuid ctransid clone_path from len t own
            (ap (λ (b : Bool). clone None s (if b then Some s else find u (key_of uuid ctransid)) b (clone_values path offset clone_path from len)) (sym own) ∙ e) of
        one false own (Some source) f = outside_steps path offset uuid ctransid clone_path from len t source own
            (ap (λ (x : Option (Subvolume Birth)). clone None s x false (clone_values path offset clone_path from len)) (sym f)
            ∙ ap (λ (b : Bool). clone None s (if b then Some s else find u (key_of uuid ctransid)) b (clone_values path offset clone_path from len)) (sym own) ∙ e)
            (free (key_of uuid ctransid) source f) of
        one false own None f = absurd (no_source path offset uuid ctransid clone_path from len t false
            (ap (λ (x : Option (Subvolume Birth)). clone None s x false (clone_values path offset clone_path from len)) (sym f)
            ∙ ap (λ (b : Bool). clone None s (if b then Some s else find u (key_of uuid ctransid)) b (clone_values path offset clone_path from len)) (sym own) ∙ e))

    -- ---- any command

    kept_steps : (c : Command) (t : Subvolume Birth) → live_before part c after ≡ after → Kept s t → IsSound s → IsOf birth after t → Steps part c after t
    kept_steps c t e k sound of = record {
      same = subst (λ (l : Living). Same birth l s after t) (sym e) (kept_same birth s t after k sound of);
      of = subst (λ (l : Living). IsOf birth l s) (sym e) (kept_of birth s t after k of);
    }

    pub command_steps : (u : Store Birth) (c : Command) (count : ℕ) (t : Subvolume Birth) → IsFree u → IsSound s → birth < count → edit_part None (births_from count (bytes_of c)) u part c ≡ Ok t → IsOf birth after t → Steps part c after t
    unfolding edit_part edit live_before
    command_steps u (Write path offset bytes) count t free sound early e of = write_steps path offset bytes count t early e of
    command_steps u (Truncate size path) count t free sound early e of = truncate_steps size path t e of
    command_steps u (Fallocate size path offset mode) count t free sound early e of = fallocate_steps size path offset mode t e of
    command_steps u (Clone path offset uuid ctransid clone_path from len) count t free sound early e of = clone_steps u path offset uuid ctransid clone_path from len t free e of
    command_steps u c count t free sound early e of = kept_steps c t refl (edit_kept None [] c s t refl sound e) sound of
