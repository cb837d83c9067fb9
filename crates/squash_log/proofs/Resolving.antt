-- What lives before commands is what lives before what they did, and what stands for a WRITE by its
-- fate is what squashing by what lives makes of it.
use Rattle.std.specs.Prelude.{◌≡◌, ℕ, suc, ◌+◌, ◌-◌, ◌<◌, ◌==◌, Bool, true, false, not, ◌&&◌, ◌||◌, List, [], ◌∷◌, ◌++◌, map, length, take, drop, Option, None, Some, Result, Ok, Err, nat_lt, is_some, if◌then◌else◌}
use Rattle.std.specs.List.{list_any, list_all, range_with_len}
use Rattle.std.specs.Option.{option_map}
use Rattle.std.specs.Str.{bytes_eq}
use Rattle.std.proofs.Common.{refl, sym, ap, ap₂, subst, ◌∙◌, arith, append_assoc, inl, inr, eqb-true}
use Rattle.std.proofs.lemmas.Bool.{cases_eq, or_parts}
use Rattle.std.proofs.lemmas.List.{length-map, drop-drop}
use Rattle.send_model.specs.Refusal.{Refusal, NoSubvolume}
use Rattle.send_model.specs.Command.{Command, Write, Clone, Truncate, Fallocate, End}
use Rattle.send_model.specs.Subvolume.{Inode, Subvolume, inode_at, walk}
use Rattle.send_model.specs.Edit.{change_contents, edit, allocation_of, Allocation, Lengthen, KeepSize, PunchHole, ZeroRange, ZeroWithin}
use Rattle.send_model.specs.Clone.{cells_of}
use Rattle.send_model.specs.Store.{Store, Part, State, Stepped, step, edit_part}
use Rattle.send_model.specs.Receive.{bytes_of, start_of, byte_cells, run_items}
use Rattle.send_model.specs.Order.{commands_of}
use Rattle.send_model.specs.Counts.{is_end}
use Rattle.send_model.specs.Cells.{recelled, recelled_part, recelled_state}
use Rattle.send_model.proofs.Fuel.{bound}
use Rattle.send_model.proofs.CellMaps.{reinode, inode_at-cells, walk-cells}
use Rattle.send_model.proofs.CellClones.{all_steps-cells, cells_of-cells}
use Rattle.send_model.proofs.Merging.{edited_taken}
use Rattle.send_model.proofs.Runs.{Takes, takes_run}
use Rattle.squash_model.specs.Squashed.{Birth, births_from, born_step, unborn, stretches, in_front, Stretch, write_of, lengthened, write_commands, size_at, squash_for}
use Rattle.squash_model.specs.Liveness.{Living, live_beside, live_copied, live_allocated, at_file, size_of, live_before, all_live, live_at, live_from, byte_lives, squashed_live}
use Rattle.squash_model.proofs.StandingCells.{store_twice}
use Rattle.squash_model.proofs.SameSquash.{inner_step, inner_refused, BornTakes, starts_born}
use Rattle.squash_model.proofs.SquashProved.{takes_lead}
use Rattle.squash_model.proofs.PlacedBirths.{same_write}
use Rattle.squash_model.proofs.LiveSquash.{liveness_squashes_the_same}
use Rattle.squash_log.specs.declared.change.FileRange.{FileRange}
use Rattle.squash_log.specs.declared.change.Change.{Change}
use Rattle.squash_log.specs.declared.change.Change.TheVariants as made
use Rattle.squash_log.specs.declared.fate.Span.{Span}
use Rattle.squash_log.proofs.RangeTests.{or_none}
use Rattle.squash_log.proofs.LivingMaps.{eq_yes, eq_no}
use Rattle.squash_log.specs.Changes.{before, before_all}
use Rattle.squash_log.specs.Fates.{Fate, Whole, Parts, span_before, spans, fate_by, fate_in, own_fate, fates_of}
use Rattle.squash_log.specs.Resolved.{range_of, allocated_changes, cloned_changes, changes_for, changes_at, blank_step, blank_end, changes_by, blank_start, span_write, by_fate, by_fates, FatesSquashTheSame}

-- ---- what a command did

-- What is made of what stands for the file of a path.
at_file_made : {C A B : Type 0} (s : Subvolume C) (path : List ℕ) (f : A → B) (g : ℕ → A) (otherwise : A) → f (at_file s path g otherwise) ≡ at_file s path (λ ino. f (g ino)) (f otherwise)
at_file_made {A = A} {B = B} s path f g otherwise = one (walk s path)
  where
    one : (r : Result ℕ Refusal) → f (elim r as (λ x. A) [ Err refusal ↦ otherwise | Ok ino ↦ g ino ]) ≡ (elim r as (λ x. B) [ Err refusal ↦ f otherwise | Ok ino ↦ f (g ino) ])
    one (Err refusal) = refl
    one (Ok ino) = refl

at_file_same : {C A : Type 0} (s : Subvolume C) (path : List ℕ) (g h : ℕ → A) (otherwise : A) → ((ino : ℕ) → g ino ≡ h ino) → at_file s path g otherwise ≡ at_file s path h otherwise
at_file_same {A = A} s path g h otherwise same = ap (λ (k : ℕ → A). at_file s path k otherwise) (λ i ino. same ino i)

module _ {C : Type 0} (part : Part C) (after : Living) where
  allocated_live : (a : Option Allocation) (ino at len : ℕ) → live_allocated a ino (size_of part.subvolume ino) at len after ≡ before_all (allocated_changes part.subvolume a ino at len) after
  allocated_live None ino at len = refl
  allocated_live (Some Lengthen) ino at len = refl
  allocated_live (Some KeepSize) ino at len = refl
  allocated_live (Some PunchHole) ino at len = refl
  allocated_live (Some ZeroRange) ino at len = refl
  allocated_live (Some ZeroWithin) ino at len = refl

  cloned_live : (own : Bool) (ino at : ℕ) (clone_path : List ℕ) (from len : ℕ)
      → (λ i p. live_beside ino (size_of part.subvolume ino) at len after i p || (own && at_file part.subvolume clone_path (λ source. live_copied ino at source from len after i p) false))
      ≡ before_all (cloned_changes part.subvolume own ino at clone_path from len) after
  cloned_live false ino at clone_path from len = λ k i p. or_none (live_beside ino (size_of part.subvolume ino) at len after i p) k
  cloned_live true ino at clone_path from len = one (walk part.subvolume clone_path)
    where
      beside : Living
      beside = live_beside ino (size_of part.subvolume ino) at len after

      one : (r : Result ℕ Refusal) → (λ i p. beside i p || (elim r as (λ x. Bool) [ Err refusal ↦ false | Ok source ↦ live_copied ino at source from len after i p ]))
          ≡ before_all (elim r as (λ x. List Change) [ Err refusal ↦ made.Replaced (range_of part.subvolume ino at len) ∷ [] | Ok source ↦ made.Cloned (range_of part.subvolume ino at len) source from ∷ [] ]) after
      one (Err refusal) = λ k i p. or_none (beside i p) k
      one (Ok source) = refl

  -- What lives before a command is what lives before what it did.
  made_live : (c : Command) → live_before part c after ≡ before_all (changes_for part c) after
  unfolding live_before changes_for
  made_live (Write path offset bytes) = sym (at_file_made part.subvolume path (λ (cs : List Change). before_all cs after) (λ ino. made.Wrote (range_of part.subvolume ino offset (length bytes)) ∷ []) [])
  made_live (Truncate size path) = sym (at_file_made part.subvolume path (λ (cs : List Change). before_all cs after) (λ ino. made.Resized ino (size_of part.subvolume ino) size ∷ []) [])
  made_live (Fallocate size path offset mode) =
      at_file_same part.subvolume path (λ ino. live_allocated (allocation_of mode) ino (size_of part.subvolume ino) offset size after)
      (λ ino. before_all (allocated_changes part.subvolume (allocation_of mode) ino offset size) after) after (λ ino. allocated_live (allocation_of mode) ino offset size)
      ∙ sym (at_file_made part.subvolume path (λ (cs : List Change). before_all cs after) (λ ino. allocated_changes part.subvolume (allocation_of mode) ino offset size) [])
  made_live (Clone path offset uuid ctransid clone_path from len) =
      at_file_same part.subvolume path
      (λ ino i p. live_beside ino (size_of part.subvolume ino) offset len after i p || (bytes_eq uuid part.key.uuid && at_file part.subvolume clone_path (λ source. live_copied ino offset source from len after i p) false))
      (λ ino. before_all (cloned_changes part.subvolume (bytes_eq uuid part.key.uuid) ino offset clone_path from len) after) after
      (λ ino. cloned_live (bytes_eq uuid part.key.uuid) ino offset clone_path from len)
      ∙ sym (at_file_made part.subvolume path (λ (cs : List Change). before_all cs after) (λ ino. cloned_changes part.subvolume (bytes_eq uuid part.key.uuid) ino offset clone_path from len) [])
  made_live c = refl

made_live_at : {C : Type 0} (o : Option (Part C)) (c : Command) (after : Living) → live_at o c after ≡ before_all (changes_at o c) after
made_live_at None c after = refl
made_live_at (Some part) c after = made_live part after c

-- ---- over other cells

module _ {C D : Type 0} (f : C → D) where
  size_same : (s : Subvolume C) (ino : ℕ) → size_of (recelled f s) ino ≡ size_of s ino
  size_same s ino = ap length (cells_of-cells f s ino) ∙ length-map (cells_of s ino) f

  file_same : {A : Type 0} (s : Subvolume C) (path : List ℕ) (g h : ℕ → A) (otherwise : A) → ((ino : ℕ) → g ino ≡ h ino) → at_file (recelled f s) path g otherwise ≡ at_file s path h otherwise
  file_same {A = A} s path g h otherwise same =
      ap₂ (λ (r : Result ℕ Refusal) (k : ℕ → A). elim r as (λ x. A) [ Err refusal ↦ otherwise | Ok ino ↦ k ino ]) (walk-cells f s path) (λ i ino. same ino i)

  range_same : (s : Subvolume C) (ino at len : ℕ) → range_of (recelled f s) ino at len ≡ range_of s ino at len
  range_same s ino at len = ap (λ (n : ℕ). record { ino = ino; at = at; len = len; size = n }) (size_same s ino)

  allocated_same : (s : Subvolume C) (a : Option Allocation) (ino at len : ℕ) → allocated_changes (recelled f s) a ino at len ≡ allocated_changes s a ino at len
  allocated_same s None ino at len = refl
  allocated_same s (Some Lengthen) ino at len = ap (λ (r : FileRange). made.Replaced r ∷ []) (range_same s ino 0 0)
  allocated_same s (Some KeepSize) ino at len = ap (λ (r : FileRange). made.Replaced r ∷ []) (range_same s ino 0 0)
  allocated_same s (Some PunchHole) ino at len = ap (λ (r : FileRange). made.Replaced r ∷ []) (range_same s ino at len)
  allocated_same s (Some ZeroRange) ino at len = ap (λ (r : FileRange). made.Replaced r ∷ []) (range_same s ino at len)
  allocated_same s (Some ZeroWithin) ino at len = ap (λ (r : FileRange). made.Replaced r ∷ []) (range_same s ino at len)

  cloned_same : (s : Subvolume C) (own : Bool) (ino at : ℕ) (clone_path : List ℕ) (from len : ℕ) → cloned_changes (recelled f s) own ino at clone_path from len ≡ cloned_changes s own ino at clone_path from len
  cloned_same s false ino at clone_path from len = ap (λ (r : FileRange). made.Replaced r ∷ []) (range_same s ino at len)
  cloned_same s true ino at clone_path from len =
      ap (λ (r : FileRange). at_file (recelled f s) clone_path (λ source. made.Cloned r source from ∷ []) (made.Replaced r ∷ [])) (range_same s ino at len)
      ∙ file_same s clone_path (λ source. made.Cloned (range_of s ino at len) source from ∷ []) (λ source. made.Cloned (range_of s ino at len) source from ∷ []) (made.Replaced (range_of s ino at len) ∷ []) (λ source. refl)

  changes_same : (part : Part C) (c : Command) → changes_for (recelled_part f part) c ≡ changes_for part c
  unfolding changes_for
  changes_same part (Write path offset bytes) =
      file_same part.subvolume path (λ ino. made.Wrote (range_of (recelled f part.subvolume) ino offset (length bytes)) ∷ []) (λ ino. made.Wrote (range_of part.subvolume ino offset (length bytes)) ∷ []) []
      (λ ino. ap (λ (r : FileRange). made.Wrote r ∷ []) (range_same part.subvolume ino offset (length bytes)))
  changes_same part (Truncate size path) =
      file_same part.subvolume path (λ ino. made.Resized ino (size_of (recelled f part.subvolume) ino) size ∷ []) (λ ino. made.Resized ino (size_of part.subvolume ino) size ∷ []) []
      (λ ino. ap (λ (n : ℕ). made.Resized ino n size ∷ []) (size_same part.subvolume ino))
  changes_same part (Fallocate size path offset mode) =
      file_same part.subvolume path (λ ino. allocated_changes (recelled f part.subvolume) (allocation_of mode) ino offset size) (λ ino. allocated_changes part.subvolume (allocation_of mode) ino offset size) []
      (λ ino. allocated_same part.subvolume (allocation_of mode) ino offset size)
  changes_same part (Clone path offset uuid ctransid clone_path from len) =
      file_same part.subvolume path (λ ino. cloned_changes (recelled f part.subvolume) (bytes_eq uuid part.key.uuid) ino offset clone_path from len)
      (λ ino. cloned_changes part.subvolume (bytes_eq uuid part.key.uuid) ino offset clone_path from len) [] (λ ino. cloned_same part.subvolume (bytes_eq uuid part.key.uuid) ino offset clone_path from len)
  changes_same part c = refl

  pub changes_same_at : (o : Option (Part C)) (c : Command) → changes_at (option_map (recelled_part f) o) c ≡ changes_at o c
  changes_same_at None c = refl
  changes_same_at (Some part) c = changes_same part c

  pub there_same : (o : Option (Part C)) → all_live (option_map (recelled_part f) o) ≡ all_live o
  there_same None = refl
  there_same (Some part) = λ k i p. (ap (λ (x : Option (Inode D)). is_some x) (inode_at-cells f part.subvolume i) ∙ some_map (inode_at part.subvolume i)) k
    where
      some_map : (o : Option (Inode C)) → is_some (option_map (reinode f) o) ≡ is_some o
      some_map None = refl
      some_map (Some i) = refl

-- ---- several changes

before_joined : (xs ys : List Change) (end : Living) → before_all (xs ++ ys) end ≡ before_all xs (before_all ys end)
before_joined [] ys end = refl
before_joined (x ∷ xs) ys end = ap (λ (l : Living). before x l) (before_joined xs ys end)

fates_joined : (xs ys : List Change) (end : Living) → fates_of (xs ++ ys) end ≡ fates_of xs (before_all ys end) ++ fates_of ys end
fates_joined [] ys end = refl
fates_joined (x ∷ xs) ys end =
    ap₂ (λ (l : Living) (fs : List Fate). own_fate x l ++ fs) (before_joined xs ys end) (fates_joined xs ys end)
    ∙ sym (append_assoc (own_fate x (before_all xs (before_all ys end))) (fates_of xs (before_all ys end)) (fates_of ys end))

-- ---- what stands for a WRITE

module _ (f : ℕ → Bool) (offset : ℕ) (all : List ℕ) where
  stretch : Span → Stretch
  stretch s = record { at = offset + s.at; bytes = take s.len (drop s.at all) }

  abbrev as_stretches : List Span → List Stretch
  as_stretches [] = []
  as_stretches (s ∷ ss) = record { at = offset + s.at; bytes = take s.len (drop s.at all) } ∷ as_stretches ss

  next_drop : (k b : ℕ) (bs : List ℕ) → drop k all ≡ b ∷ bs → drop (k + 1) all ≡ bs
  next_drop k b bs e = sym (drop-drop 1 k all) ∙ ap (λ (l : List ℕ). drop 1 l) e

  take_next : (n b : ℕ) (bs : List ℕ) → take (n + 1) (b ∷ bs) ≡ b ∷ take n bs
  take_next n b bs = let e : n + 1 ≡ suc n = omega arith in ap (λ (k : ℕ). take k (b ∷ bs)) e

  same_test : (a k : ℕ) → (offset + a == offset + k + 1) ≡ (a == k + 1)
  same_test a k = elim (cases_eq a (k + 1)) [
    | inl e ↦ eq_yes (offset + a) (offset + k + 1) (omega (arith, e)) ∙ sym (eq_yes a (k + 1) e)
    | inr ne ↦ eq_no (offset + a) (offset + k + 1) (λ e. ne (omega (arith, e))) ∙ sym (eq_no a (k + 1) ne)
  ]

  front_is : (k b : ℕ) (bs : List ℕ) → drop k all ≡ b ∷ bs → (ss : List Span) → in_front (offset + k) b (as_stretches ss) ≡ as_stretches (span_before k ss)
  front_is k b bs e [] = ap (λ (l : List ℕ). record { at = offset + k; bytes = l } ∷ []) (sym (ap (λ (l : List ℕ). take 1 l) e))
  front_is k b bs e (first ∷ rest) = one (first.at == k + 1) refl
    where
      more : List Stretch
      more = as_stretches rest

      bytes : List ℕ
      bytes = take first.len (drop first.at all)

      one : (t : Bool) → (first.at == k + 1) ≡ t
          → (if offset + first.at == offset + k + 1 then record { at = offset + k; bytes = b ∷ bytes } ∷ more else record { at = offset + k; bytes = b ∷ [] } ∷ record { at = offset + first.at; bytes = bytes } ∷ more)
          ≡ as_stretches (if first.at == k + 1 then record { at = k; len = first.len + 1 } ∷ rest else record { at = k; len = 1 } ∷ first ∷ rest)
      one true q =
          let there : first.at ≡ k + 1 = eqb-true first.at (k + 1) q in
          ap (λ (t : Bool). if t then record { at = offset + k; bytes = b ∷ bytes } ∷ more else record { at = offset + k; bytes = b ∷ [] } ∷ record { at = offset + first.at; bytes = bytes } ∷ more) (same_test first.at k ∙ q)
          ∙ ap (λ (l : List ℕ). record { at = offset + k; bytes = l } ∷ more)
          (ap (λ (l : List ℕ). b ∷ take first.len l) (ap (λ (j : ℕ). drop j all) there ∙ next_drop k b bs e)
          ∙ sym (ap (λ (l : List ℕ). take (first.len + 1) l) e ∙ take_next first.len b bs))
          ∙ sym (ap (λ (t : Bool). as_stretches (if t then record { at = k; len = first.len + 1 } ∷ rest else record { at = k; len = 1 } ∷ first ∷ rest)) q)
      one false q =
          ap (λ (t : Bool). if t then record { at = offset + k; bytes = b ∷ bytes } ∷ more else record { at = offset + k; bytes = b ∷ [] } ∷ record { at = offset + first.at; bytes = bytes } ∷ more) (same_test first.at k ∙ q)
          ∙ ap (λ (l : List ℕ). record { at = offset + k; bytes = l } ∷ record { at = offset + first.at; bytes = bytes } ∷ more) (sym (ap (λ (l : List ℕ). take 1 l) e))
          ∙ sym (ap (λ (t : Bool). as_stretches (if t then record { at = k; len = first.len + 1 } ∷ rest else record { at = k; len = 1 } ∷ first ∷ rest)) q)

  stretches_are : (bs : List ℕ) (k : ℕ) → drop k all ≡ bs → stretches f k (offset + k) bs ≡ as_stretches (spans f k (length bs))
  stretches_are [] k e = refl
  stretches_are (b ∷ bs) k e =
      let next : offset + k + 1 ≡ offset + (k + 1) = omega arith in
      let rest : stretches f (k + 1) (offset + k + 1) bs ≡ as_stretches (spans f (k + 1) (length bs)) =
      ap (λ (at : ℕ). stretches f (k + 1) at bs) next ∙ stretches_are bs (k + 1) (next_drop k b bs e) in
      ap (λ (l : List Stretch). if f k then in_front (offset + k) b l else l) rest ∙ one (f k) (spans f (k + 1) (length bs)) (front_is k b bs e (spans f (k + 1) (length bs)))
    where
      one : (t : Bool) (ss : List Span) → in_front (offset + k) b (as_stretches ss) ≡ as_stretches (span_before k ss)
          → (if t then in_front (offset + k) b (as_stretches ss) else as_stretches ss) ≡ as_stretches (if t then span_before k ss else ss)
      one true ss h = h
      one false ss h = refl

  writes_are : (path : List ℕ) (ss : List Span) → map (write_of path) (as_stretches ss) ≡ map (span_write path offset all) ss
  writes_are path [] = refl
  writes_are path (s ∷ ss) = ap (λ (l : List Command). Write path (offset + s.at) (take s.len (drop s.at all)) ∷ l) (writes_are path ss)

  -- By the fate of a WRITE the same stands for it.
  write_is : (ino size : ℕ) (path : List ℕ) → write_commands f 0 size path offset all ≡ by_fate (fate_by f (record { ino = ino; at = offset; len = length all; size = size })) path offset all
  write_is ino size path = one (list_all f (range_with_len 0 (length all)))
    where
      last : f (0 + length all - 1) ≡ f (length all - 1)
      last = ap f (let e : 0 + length all - 1 ≡ length all - 1 = omega arith in e)

      from : stretches f 0 offset all ≡ as_stretches (spans f 0 (length all))
      from = ap (λ (at : ℕ). stretches f 0 at all) (let e : offset ≡ offset + 0 = omega arith in e) ∙ stretches_are all 0 refl

      one : (t : Bool)
          → (if t then Write path offset all ∷ [] else map (write_of path) (stretches f 0 offset all) ++ lengthened (f (0 + length all - 1)) size (offset + length all) path)
          ≡ by_fate (if t then Whole else Parts (spans f 0 (length all)) (nat_lt size (offset + length all) && not (f (length all - 1)))) path offset all
      one true = refl
      one false =
          ap₂ (λ (a b : List Command). a ++ b) (ap (λ (l : List Stretch). map (write_of path) l) from ∙ writes_are path (spans f 0 (length all)))
          (ap (λ (t : Bool). lengthened t size (offset + length all) path) last)

-- ---- a WRITE that is taken

record IsThere (state : State Birth) (path : List ℕ) : Type 0 where
  part : Part Birth
  part_is : state.part ≡ Some part
  ino : ℕ
  walked : walk part.subvolume path ≡ Ok ino

write_there : (count : ℕ) (state : State Birth) (path : List ℕ) (offset : ℕ) (bytes : List ℕ) → (born_step count state (Write path offset bytes)).refusal ≡ None → IsThere state path
unfolding edit_part edit change_contents
write_there count state path offset bytes taken = one state.part refl
  where
    put : List Birth
    put = births_from count bytes

    some_none : Some NoSubvolume ≡ None → ⊥
    some_none e = cc

    same : (o : Option (Part Birth)) → state.part ≡ o → (step None put (record { store = state.store; part = o }) (Write path offset bytes)).refusal ≡ None
    same o e = subst (λ (x : Option (Part Birth)). (step None put (record { store = state.store; part = x }) (Write path offset bytes)).refusal ≡ None) e taken

    one : (o : Option (Part Birth)) → state.part ≡ o → IsThere state path
    one None e = absurd (some_none (sym (inner_refused None put state.store (Write path offset bytes) refl refl) ∙ same None e))
    one (Some part) e =
        let s : Subvolume Birth = part.subvolume in
        let is = inner_step None put state.store part (Write path offset bytes) refl refl in
        let ok = edited_taken state.store part (edit_part None put state.store part (Write path offset bytes)) (sym (ap (λ (x : Stepped Birth). x.refusal) is) ∙ same (Some part) e) in
        let a = bound (walk s path) _ ok.0 ok.1 in
        record { part = part; part_is = e; ino = a.0; walked = a.1 }

-- What squashing by what lives makes of it, and its fate.
write_made : (count : ℕ) (state : State Birth) (path : List ℕ) (offset : ℕ) (bytes : List ℕ) (after : Living) → IsThere state path
    → (r : FileRange) × (changes_at state.part (Write path offset bytes) ≡ made.Wrote r ∷ [])
    × (squash_for (λ birth. byte_lives state after (Write path offset bytes) (birth - count)) count state (Write path offset bytes) ≡ by_fate (fate_in r after) path offset bytes)
unfolding changes_for size_at
write_made count state path offset bytes after w = (
  r,
  ap (λ (o : Option (Part Birth)). changes_at o (Write path offset bytes)) w.part_is ∙ ap (λ (x : Result ℕ Refusal). elim x as (λ y. List Change) [ Err refusal ↦ [] | Ok ino ↦ made.Wrote (range_of s ino offset (length bytes)) ∷ [] ]) w.walked,
  same_write (λ (n : ℕ). n) (λ birth. byte_lives state after (Write path offset bytes) (birth - count)) f count 0 (size_at state path) (size_of s w.ino) path offset bytes size_is lives_is
      ∙ write_is f offset bytes w.ino (size_of s w.ino) path,
)
  where
    s : Subvolume Birth
    s = w.part.subvolume

    r : FileRange
    r = range_of s w.ino offset (length bytes)

    f : ℕ → Bool
    f k = after w.ino (offset + k)

    size_is : size_at state path ≡ size_of s w.ino
    size_is = ap (λ (o : Option (Part Birth)). elim o as (λ y. ℕ) [ None ↦ 0 | Some part ↦ elim (walk part.subvolume path) as (λ y. ℕ) [ Err refusal ↦ 0 | Ok ino ↦ length (cells_of part.subvolume ino) ] ]) w.part_is
        ∙ ap (λ (x : Result ℕ Refusal). elim x as (λ y. ℕ) [ Err refusal ↦ 0 | Ok ino ↦ length (cells_of s ino) ]) w.walked

    lives_is : (i : ℕ) → i < length bytes → byte_lives state after (Write path offset bytes) (count + i - count) ≡ after w.ino (offset + (0 + i))
    lives_is i h =
        let e : count + i - count ≡ 0 + i = omega arith in
        ap (λ (j : ℕ). byte_lives state after (Write path offset bytes) j) e
        ∙ ap (λ (o : Option (Part Birth)). elim o as (λ y. Bool) [ None ↦ false | Some part ↦ at_file part.subvolume path (λ ino. after ino (offset + (0 + i))) false ]) w.part_is
        ∙ ap (λ (x : Result ℕ Refusal). elim x as (λ y. Bool) [ Err refusal ↦ false | Ok ino ↦ after ino (offset + (0 + i)) ]) w.walked

-- ---- other commands have no fate

abbrev is_write : Command → Bool
is_write (Write path offset bytes) = true
is_write c = false

at_file_const : {C A : Type 0} (s : Subvolume C) (path : List ℕ) (x : A) → at_file s path (λ ino. x) x ≡ x
at_file_const {A = A} s path x = one (walk s path)
  where
    one : (r : Result ℕ Refusal) → (elim r as (λ y. A) [ Err refusal ↦ x | Ok ino ↦ x ]) ≡ x
    one (Err refusal) = refl
    one (Ok ino) = refl

module _ (part : Part Birth) (after : Living) where
  no_fates_at : (path : List ℕ) (g : ℕ → List Change) → ((ino : ℕ) → fates_of (g ino) after ≡ []) → fates_of (at_file part.subvolume path g []) after ≡ []
  no_fates_at path g none =
      at_file_made part.subvolume path (λ (cs : List Change). fates_of cs after) g []
      ∙ at_file_same part.subvolume path (λ ino. fates_of (g ino) after) (λ ino. []) [] none
      ∙ at_file_const part.subvolume path []

  allocated_none : (a : Option Allocation) (ino at len : ℕ) → fates_of (allocated_changes part.subvolume a ino at len) after ≡ []
  allocated_none None ino at len = refl
  allocated_none (Some Lengthen) ino at len = refl
  allocated_none (Some KeepSize) ino at len = refl
  allocated_none (Some PunchHole) ino at len = refl
  allocated_none (Some ZeroRange) ino at len = refl
  allocated_none (Some ZeroWithin) ino at len = refl

  cloned_none : (own : Bool) (ino at : ℕ) (clone_path : List ℕ) (from len : ℕ) → fates_of (cloned_changes part.subvolume own ino at clone_path from len) after ≡ []
  cloned_none false ino at clone_path from len = refl
  cloned_none true ino at clone_path from len = one (walk part.subvolume clone_path)
    where
      one : (r : Result ℕ Refusal) → fates_of (elim r as (λ x. List Change) [ Err refusal ↦ made.Replaced (range_of part.subvolume ino at len) ∷ [] | Ok source ↦ made.Cloned (range_of part.subvolume ino at len) source from ∷ [] ]) after ≡ []
      one (Err refusal) = refl
      one (Ok source) = refl

  no_fates_for : (c : Command) → is_write c ≡ false → fates_of (changes_for part c) after ≡ []
  unfolding changes_for
  no_fates_for (Write path offset bytes) h = cc
  no_fates_for (Truncate size path) h = no_fates_at path (λ ino. made.Resized ino (size_of part.subvolume ino) size ∷ []) (λ ino. refl)
  no_fates_for (Fallocate size path offset mode) h = no_fates_at path (λ ino. allocated_changes part.subvolume (allocation_of mode) ino offset size) (λ ino. allocated_none (allocation_of mode) ino offset size)
  no_fates_for (Clone path offset uuid ctransid clone_path from len) h =
      no_fates_at path (λ ino. cloned_changes part.subvolume (bytes_eq uuid part.key.uuid) ino offset clone_path from len) (λ ino. cloned_none (bytes_eq uuid part.key.uuid) ino offset clone_path from len)
  no_fates_for c h = refl

no_fates : (o : Option (Part Birth)) (after : Living) (c : Command) → is_write c ≡ false → fates_of (changes_at o c) after ≡ []
no_fates None after c h = refl
no_fates (Some part) after c h = no_fates_for part after c h

-- ---- the commands of a part

-- One command, and what stands for those behind it.
one_command : (count : ℕ) (state : State Birth) (after : Living) (c : Command) → (born_step count state c).refusal ≡ None → (fates : List Fate) (cs : List Command)
    → squash_for (λ birth. byte_lives state after c (birth - count)) count state c ++ by_fates fates cs ≡ by_fates (fates_of (changes_at state.part c) after ++ fates) (c ∷ cs)
one_command count state after (Write path offset bytes) taken fates cs =
    let w = write_made count state path offset bytes after (write_there count state path offset bytes taken) in
    ap (λ (l : List Command). l ++ by_fates fates cs) w.2
    ∙ sym (ap (λ (xs : List Change). by_fates (fates_of xs after ++ fates) (Write path offset bytes ∷ cs)) w.1)
one_command count state after c taken fates cs = sym (ap (λ (fs : List Fate). c ∷ by_fates (fs ++ fates) cs) (no_fates state.part after c refl))

live_inner : (count : ℕ) (state : State Birth) (c : Command) (cs : List Command) → is_end c ≡ false
    → live_from count state (c ∷ cs) ≡ live_at state.part c (live_from (count + length (bytes_of c)) (born_step count state c).state cs)
unfolding live_from
live_inner count state End cs e = cc
live_inner count state c cs e = refl

abbrev nothing : Birth → Unit {0}
nothing birth = tt

puts_nothing : (count : ℕ) (bytes : List ℕ) → map {B = Unit {0}} (λ byte. tt) bytes ≡ map nothing (births_from count bytes)
puts_nothing count [] = refl
puts_nothing count (b ∷ bytes) = ap (λ (r : List (Unit {0})). tt ∷ r) (puts_nothing (count + 1) bytes)

same_step : (count : ℕ) (state : State Birth) (u : State (Unit {0})) (c : Command) → u ≡ recelled_state nothing state → (blank_step u c).state ≡ recelled_state nothing (born_step count state c).state
same_step count state u c e =
    ap (λ (x : Stepped (Unit {0})). x.state)
    (ap₂ (λ (put : List (Unit {0})) (s : State (Unit {0})). step tt put s c) (puts_nothing count (bytes_of c)) e ∙ all_steps-cells nothing c None (births_from count (bytes_of c)) state)

record AreSquashedBy (count : ℕ) (state : State Birth) (u : State (Unit {0})) (cs : List Command) : Type 0 where
  live : live_from count state (cs ++ End ∷ []) ≡ before_all (changes_by u cs) (all_live (blank_end u cs).part)
  list : squashed_live count state (cs ++ End ∷ []) ≡ by_fates (fates_of (changes_by u cs) (all_live (blank_end u cs).part)) cs ++ End ∷ []

all_commands : (cs : List Command) (count : ℕ) (state : State Birth) (u : State (Unit {0})) → u ≡ recelled_state nothing state → list_any is_end cs ≡ false → BornTakes count state (cs ++ End ∷ [])
    → AreSquashedBy count state u cs
unfolding live_from squashed_live BornTakes
all_commands [] count state u e n t = record { live = sym (ap (λ (s : State (Unit {0})). all_live s.part) e ∙ there_same nothing state.part); list = refl }
all_commands (c ∷ cs) count state u e n (taken, t) =
    let parts = or_parts (is_end c) (list_any is_end cs) n in
    let later : ℕ = count + length (bytes_of c) in
    let next : State Birth = (born_step count state c).state in
    let v : State (Unit {0}) = (blank_step u c).state in
    let more = all_commands cs later next v (same_step count state u c e) parts.1 t in
    let rest : List Change = changes_by v cs in
    let end : Living = all_live (blank_end v cs).part in
    let after : Living = live_from later next (cs ++ End ∷ []) in
    let same : changes_at state.part c ≡ changes_at u.part c = sym (ap (λ (s : State (Unit {0})). changes_at s.part c) e ∙ changes_same_at nothing state.part c) in
    record {
      live = live_inner count state c (cs ++ End ∷ []) parts.0 ∙ made_live_at state.part c after
          ∙ ap₂ (λ (xs : List Change) (l : Living). before_all xs l) same more.live ∙ sym (before_joined (changes_at u.part c) rest end);
      list = ap (λ (l : List Command). squash_for (λ birth. byte_lives state after c (birth - count)) count state c ++ l) more.list
          ∙ sym (append_assoc (squash_for (λ birth. byte_lives state after c (birth - count)) count state c) (by_fates (fates_of rest end) cs) (End ∷ []))
          ∙ ap (λ (l : List Command). l ++ End ∷ [])
          (one_command count state after c taken (fates_of rest end) cs
          ∙ ap (λ (fs : List Fate). by_fates fs (c ∷ cs)) (ap₂ (λ (xs : List Change) (l : Living). fates_of xs l ++ fates_of rest end) same more.live ∙ sym (fates_joined (changes_at u.part c) rest end)));
    }

pub fates_squash_the_same : FatesSquashTheSame
fates_squash_the_same base items commands last is none one f accepted =
    let cs : List Command = commands_of items in
    let end : State ℕ = (run_items 0 byte_cells (start_of base) items).state in
    let takes : Takes (start_of base) cs end = takes_run items (start_of base) accepted in
    let born : BornTakes 0 (unborn base) cs = starts_born base cs end (takes_lead cs (start_of base) end takes) in
    let begun : blank_start base ≡ recelled_state nothing (unborn base) = sym (ap (λ (s : Store (Unit {0})). start_of s) (store_twice (λ byte. None) nothing base)) in
    let all = all_commands commands 0 (unborn base) (blank_start base) begun none (subst (λ (x : List Command). BornTakes 0 (unborn base) x) is born) in
    sym all.list ∙ ap (λ (x : List Command). squashed_live 0 (unborn base) x) (sym is) ∙ liveness_squashes_the_same base items last one f accepted
