-- Squashing by what lives is squashing by what stands.
use Rattle.std.specs.Prelude.{◌≡◌, ℕ, zero, suc, ◌+◌, ◌-◌, ◌<◌, ◌≤◌, ◌==◌, T, Bool, true, false, List, [], ◌∷◌, ◌++◌, length, Option, None, Some, Result, Ok, Err, nat_le, is_some}
use Rattle.std.specs.List.{AllByRecursion}
use Rattle.std.specs.Option.{option_map}
use Rattle.std.proofs.Common.{refl, sym, ap, ap₂, subst, ◌∙◌, arith, get_or, eqb-true, inl, inr}
use Rattle.std.proofs.lemmas.Bool.{cases_eq, eq-eqb, true≢false}
use Rattle.send_model.specs.Refusal.{Refusal, NoSubvolume, NoParent, NotFile, FileTooBig}
use Rattle.send_model.specs.Chain.{found}
use Rattle.send_model.specs.Command.{Command, Write, End}
use Rattle.send_model.specs.Subvolume.{Inode, Subvolume, IsSound, IsLawful, root, inode_at, is_file, walk, name_count}
use Rattle.send_model.specs.Edit.{greatest_end, written_at, change_inode, set_cells, change_contents, edit}
use Rattle.send_model.specs.Clone.{cells_of}
use Rattle.send_model.specs.Store.{Key, Head, head_of, Store, Part, State, Stepped, has_uuid, completed, find, begun, start_from, entered, step_head, edit_part}
use Rattle.send_model.specs.Receive.{bytes_of, start_of, byte_cells, run_items}
use Rattle.send_model.specs.Order.{heads_of, onto_heads, commands_of}
use Rattle.send_model.specs.Outside.{IsAmong, all_keys_named, FindsLawful}
use Rattle.send_model.specs.Counts.{is_end}
use Rattle.send_model.specs.Cells.{recelled, recelled_result, recelled_store, Good, cell_of}
use Rattle.send_model.proofs.Fuel.{required, bound, ok_same}
use Rattle.send_model.proofs.Held.{cells_hold}
use Rattle.send_model.proofs.Merging.{begun_begins, entered_taken}
use Rattle.send_model.proofs.CellMaps.{reinode, inode_at-cells, is_directory-cells, walk_names-cells}
use Rattle.send_model.proofs.CellSteps.{start_cells}
use Rattle.send_model.proofs.LawfulEdits.{root_alone_is_lawful}
use Rattle.send_model.proofs.Rewriting.{file_there}
use Rattle.send_model.proofs.Runs.{Takes, takes_run}
use Rattle.send_model.proofs.Sorts.{head_step}
use Rattle.send_model.proofs.ThinnedTraces.{HoldsAll, step_holds, part_holds}
use Rattle.squash_model.specs.Squashed.{Birth, births_from, born_step, born_by, unborn, births_left, stands, size_at, squash_for, squashed_from}
use Rattle.squash_model.specs.Liveness.{Living, covers, live_from, byte_lives, squashed_live, LivenessSquashesTheSame}
use Rattle.squash_model.proofs.StandingCells.{has, store_twice}
use Rattle.squash_model.proofs.SquashedRuns.{keys_sorted}
use Rattle.squash_model.proofs.SameSquash.{inner_refused, BornTakes, starts_born, unborn_store}
use Rattle.squash_model.proofs.StandingLast.{in_part, in_store, no_more, stays, waits}
use Rattle.squash_model.proofs.LawfulRuns.{first_among, rest_among, parent_named}
use Rattle.squash_model.proofs.SquashProved.{takes_lead, all_lawful}
use Rattle.squash_model.proofs.PlacedBirths.{same_write}
use Rattle.squash_model.proofs.LiveReads.{covered, covers_true, written_out, written_in}
use Rattle.squash_model.proofs.LiveSteps.{cell, is_birth, Found, new_cells, other_cells}
use Rattle.squash_model.proofs.LiveCommands.{births_len}
use Rattle.squash_model.proofs.LiveRuns.{store, part_of, Stepped_, stepped, edit_part_sound, ended, ends}

-- ---- soundness does not look at cells

module _ {C D : Type 0} (f : C → D) where
  same_there : (s : Subvolume C) (ino : ℕ) → is_some (inode_at (recelled f s) ino) ≡ is_some (inode_at s ino)
  same_there s ino = ap (λ (o : Option (Inode D)). is_some o) (inode_at-cells f s ino) ∙ some_map (inode_at s ino)
    where
      some_map : (o : Option (Inode C)) → is_some (option_map (reinode f) o) ≡ is_some o
      some_map None = refl
      some_map (Some i) = refl

  pub sound_on : (s : Subvolume C) → IsSound s → IsSound (recelled f s)
  unfolding name_count
  sound_on s h = record {
    inodes_in_order = subst (λ (b : Bool). T b) (sym (keys_sorted (reinode f) s.inodes)) h.inodes_in_order;
    names_in_order = h.names_in_order;
    root_there = is_directory-cells f s root ∙ h.root_there;
    in_directory = λ directory name ino e. is_directory-cells f s directory ∙ h.in_directory directory name ino e;
    leads_somewhere = λ directory name ino e. same_there s ino ∙ h.leads_somewhere directory name ino e;
    root_unnamed = h.root_unnamed;
    has_name = λ ino there n. h.has_name ino (sym (same_there s ino) ∙ there) n;
    one_name = λ ino is. h.one_name ino (sym (is_directory-cells f s ino) ∙ is);
    from_root = λ directory is. let w = h.from_root directory (sym (is_directory-cells f s directory) ∙ is) in (w.0, walk_names-cells f s root w.0 ∙ w.1);
    below_next = λ ino there. h.below_next ino (sym (same_there s ino) ∙ there);
  }

-- ---- no birth is there before its byte is written

abbrev IsOther : ℕ → Birth → Type 0
IsOther b c = is_birth b c ≡ false

abbrev Below : ℕ → State Birth → Type 0
Below count state = (b : ℕ) → count ≤ b → HoldsAll (IsOther b) state

puts_other : (b count : ℕ) (bytes : List ℕ) → count + length bytes ≤ b → AllByRecursion (IsOther b) (births_from count bytes)
puts_other b count [] h = tt
puts_other b count (x ∷ bytes) h = (one (count == b) refl, puts_other b (count + 1) bytes (omega (arith, h)))
  where
    one : (t : Bool) → (count == b) ≡ t → (count == b) ≡ false
    one true e = absurd (let same : count ≡ b = eqb-true count b e in omega (arith, same, h))
    one false e = e

below_step : (count : ℕ) (state : State Birth) (c : Command) → Below count state → Below (count + length (bytes_of c)) (born_step count state c).state
below_step count state c below b h = step_holds (IsOther b) None (births_from count (bytes_of c)) state c refl (puts_other b count (bytes_of c) h) (below b (omega (arith, h)))

below_start : (base : Store ℕ) → Below 0 (unborn base)
below_start base b h =
    let none : ℕ → Good (IsOther b) = λ byte. (None, refl) in
    (start_of (recelled_store none base), ap (λ (s : Store Birth). start_of s) (store_twice none (cell_of (IsOther b)) base))

other_cell : (before : Store ℕ) (last : Head) (count : ℕ) (s : Subvolume Birth) → Below count (in_part before last s) → (b : ℕ) → count ≤ b → (i p : ℕ) → is_birth b (cell s i p) ≡ false
other_cell before last count s below b h i p =
    all_read (cells_of s i) p (cells_hold (IsOther b) s i (part_holds (IsOther b) (in_part before last s) (below b h) (part_of before last s) refl))
  where
    all_read : (cells : List Birth) (j : ℕ) → AllByRecursion (IsOther b) cells → is_birth b (get_or cells j None) ≡ false
    all_read [] j all = refl
    all_read (c ∷ cells) zero all = all.0
    all_read (c ∷ cells) (suc j) all = all_read cells j all.1

-- ---- one WRITE

births_read : (count : ℕ) (bytes : List ℕ) (j : ℕ) → j < length bytes → get_or (births_from count bytes) j None ≡ Some (count + j)
births_read count [] j h = absurd (omega arith)
births_read count (b ∷ bytes) zero h = let e : count ≡ count + 0 = omega arith in ap (λ (n : ℕ). Some n) e
births_read count (b ∷ bytes) (suc j) h = births_read (count + 1) bytes j (omega (arith, h)) ∙ (let e : count + 1 + j ≡ count + suc j = omega arith in ap (λ (n : ℕ). Some n) e)

same_bool : (a b : Bool) → (a ≡ true → b ≡ true) → (b ≡ true → a ≡ true) → a ≡ b
same_bool true b f g = sym (f refl)
same_bool false true f g = g refl
same_bool false false f g = refl

record WriteMade (count : ℕ) (s : Subvolume Birth) (path : List ℕ) (offset : ℕ) (bytes : List ℕ) (t : Subvolume Birth) : Type 0 where
  ino : ℕ
  walked : walk s path ≡ Ok ino
  out : (p : ℕ) → covers offset (length bytes) p ≡ false → cell t ino p ≡ cell s ino p
  in_range : (p : ℕ) → covers offset (length bytes) p ≡ true → cell t ino p ≡ get_or (births_from count bytes) (p - offset) None
  other : (i p : ℕ) → (i ≡ ino → ⊥) → cell t i p ≡ cell s i p

write_made : (u : Store Birth) (part : Part Birth) (count : ℕ) (path : List ℕ) (offset : ℕ) (bytes : List ℕ) (t : Subvolume Birth) → edit_part None (births_from count bytes) u part (Write path offset bytes) ≡ Ok t
    → WriteMade count part.subvolume path offset bytes t
unfolding edit_part edit change_contents
write_made u part count path offset bytes t e =
    let s : Subvolume Birth = part.subvolume in
    let put : List Birth = births_from count bytes in
    let a = bound (walk s path) _ t e in
    let b = required (is_file s a.0) NotFile _ t a.2 in
    let d = required (nat_le (offset + length put) greatest_end) FileTooBig _ t b.1 in
    let ino : ℕ = a.0 in
    let g : List Birth → List Birth = written_at None offset put in
    let old = file_there s ino b.0 in
    let n : length put ≡ length bytes = births_len count bytes in
    let made : Subvolume Birth = change_inode ino (set_cells g) s in
    let read : (p : ℕ) → cell made ino p ≡ get_or (g (cells_of s ino)) p None = λ p. ap (λ (c : List Birth). get_or c p None) (new_cells ino g s old.0 old.1) in
    subst (λ (u : Subvolume Birth). WriteMade count s path offset bytes u) (ok_same d.1)
    (record {
      ino = ino;
      walked = a.1;
      out = λ p h. read p ∙ written_out None offset put (cells_of s ino) p (ap (λ (k : ℕ). covers offset k p) n ∙ h);
      in_range = λ p h. read p ∙ written_in None offset put (cells_of s ino) p (ap (λ (k : ℕ). covers offset k p) n ∙ h);
      other = λ i p ne. ap (λ (c : List Birth). get_or c p None) (other_cells ino g s old.0 old.1 i ne);
    })

module _ (before : Store ℕ) (last : Head) (new : has_uuid last.key.uuid (unborn_store before) ≡ false) where
  -- The j-th byte lives exactly where its birth is left.
  write_lives : (count : ℕ) (s : Subvolume Birth) (path : List ℕ) (offset : ℕ) (bytes : List ℕ) (t : Subvolume Birth) (live : Living) (end : State Birth) → Below count (in_part before last s) → WriteMade count s path offset bytes t
      → (j : ℕ) → j < length bytes
      → (has (births_left end) (count + j) ≡ true → Found (count + j) live t) → (Found (count + j) live t → has (births_left end) (count + j) ≡ true)
      → byte_lives (in_part before last s) live (Write path offset bytes) j ≡ has (births_left end) (count + j)
  write_lives count s path offset bytes t live end below w j h to back =
      ap (λ (r : Result ℕ Refusal). elim r as (λ x. Bool) [ Err refusal ↦ false | Ok ino ↦ live ino (offset + j) ]) w.walked
      ∙ same_bool (live w.ino (offset + j)) (has (births_left end) (count + j)) (λ l. back (at l)) (λ q. from (to q))
    where
      covers_j : covers offset (length bytes) (offset + j) ≡ true
      covers_j = covers_true offset (length bytes) (offset + j) (omega arith) (omega (arith, h))

      at : live w.ino (offset + j) ≡ true → Found (count + j) live t
      at l =
          let e : offset + j - offset ≡ j = omega arith in
          record {
            ino = w.ino;
            place = offset + j;
            lives = l;
            is = ap (is_birth (count + j)) (w.in_range (offset + j) covers_j ∙ ap (λ (k : ℕ). get_or (births_from count bytes) k None) e ∙ births_read count bytes j h) ∙ eq-eqb (count + j) (count + j) refl;
          }

      from : Found (count + j) live t → live w.ino (offset + j) ≡ true
      from f = elim (cases_eq f.ino w.ino) [
        | inr ne ↦ absurd (true≢false (sym f.is ∙ ap (is_birth (count + j)) (w.other f.ino f.place ne) ∙ other_cell before last count s below (count + j) (omega arith) f.ino f.place))
        | inl e ↦ here f.place (ap (λ (i : ℕ). live i f.place) (sym e) ∙ f.lives) (ap (λ (i : ℕ). is_birth (count + j) (cell t i f.place)) (sym e) ∙ f.is) (covers offset (length bytes) f.place) refl
      ]
        where
          here : (p : ℕ) → live w.ino p ≡ true → is_birth (count + j) (cell t w.ino p) ≡ true → (b : Bool) → covers offset (length bytes) p ≡ b → live w.ino (offset + j) ≡ true
          here p l is false c = absurd (true≢false (sym is ∙ ap (is_birth (count + j)) (w.out p c) ∙ other_cell before last count s below (count + j) (omega arith) w.ino p))
          here p l is true c =
              let k = covered offset (length bytes) p c in
              let low = k.0 in
              let high = k.1 in
              let birth : is_birth (count + j) (Some (count + (p - offset))) ≡ true = ap (is_birth (count + j)) (sym (w.in_range p c ∙ births_read count bytes (p - offset) (omega (arith, low, high)))) ∙ is in
              let same : count + (p - offset) ≡ count + j = eqb-true (count + (p - offset)) (count + j) birth in
              let place : p ≡ offset + j = omega (arith, low, same) in
              ap (live w.ino) (sym place) ∙ l

-- ---- the commands

command_same : (f g : ℕ → Bool) (count : ℕ) (state : State Birth) (c : Command) → ((j : ℕ) → j < length (bytes_of c) → f (count + j) ≡ g (count + j)) → squash_for f count state c ≡ squash_for g count state c
command_same f g count state (Write path offset bytes) h = same_write (λ (n : ℕ). n) f g count count (size_at state path) (size_at state path) path offset bytes refl h
command_same f g count state c h = refl

module _ (final : State Birth) where
  abbrev left_of : ℕ → Bool
  left_of b = has (births_left final) b

  module _ (before : Store ℕ) (last : Head) (new : has_uuid last.key.uuid (unborn_store before) ≡ false) where
    store_list : (cs : List Command) (count : ℕ) (s : Subvolume Birth) → heads_of cs ≡ [] → BornTakes count (in_store before last s) cs
        → squashed_live count (in_store before last s) cs ≡ squashed_from left_of count (in_store before last s) cs
    unfolding squashed_live squashed_from BornTakes
    store_list [] count s n t = refl
    store_list (c ∷ cs) count s n (taken, t) =
        let m = no_more before last c cs n in
        let is = stays before last c count s m.0 taken in
        let later : ℕ = count + length (bytes_of c) in
        ap₂ (λ (a b : List Command). a ++ b)
        (command_same (λ b. byte_lives (in_store before last s) (live_from later (born_step count (in_store before last s) c).state cs) c (b - count)) left_of count (in_store before last s) c (none c taken))
        (ap (λ (x : State Birth). squashed_live later x cs) is ∙ store_list cs later s m.1 (subst (λ (x : State Birth). BornTakes later x cs) is t) ∙ sym (ap (λ (x : State Birth). squashed_from left_of later x cs) is))
      where
        none : (c : Command) → (born_step count (in_store before last s) c).refusal ≡ None → (j : ℕ) → j < length (bytes_of c)
            → byte_lives (in_store before last s) (live_from (count + length (bytes_of c)) (born_step count (in_store before last s) c).state cs) c (count + j - count) ≡ left_of (count + j)
        none (Write path offset bytes) q j h = absurd (let x = sym (inner_refused None (births_from count bytes) (in_store before last s).store (Write path offset bytes) refl refl) ∙ q in some_none x)
          where
            some_none : Some NoSubvolume ≡ None → ⊥
            some_none e = cc
        none c q j h = absurd (omega arith)

    inner_lives : (count : ℕ) (s : Subvolume Birth) (c : Command) (cs : List Command) → is_end c ≡ false → head_of c ≡ None → IsSound s → Below count (in_part before last s) → (st : Stepped_ before last count s c)
        → heads_of cs ≡ [] → BornTakes (count + length (bytes_of c)) (in_part before last st.next) cs → born_by (count + length (bytes_of c)) (in_part before last st.next) cs ≡ final
        → (j : ℕ) → j < length (bytes_of c)
        → byte_lives (in_part before last s) (live_from (count + length (bytes_of c)) (born_step count (in_part before last s) c).state cs) c (count + j - count) ≡ left_of (count + j)
    inner_lives count s (Write path offset bytes) cs e h sound below st n t is j l =
        let later : ℕ = count + length bytes in
        let u : Subvolume Birth = st.next in
        let live : Living = live_from later (in_part before last u) cs in
        let good = edit_part_sound (births_from count bytes) (store before last) (part_of before last s) (Write path offset bytes) u sound st.made in
        let x = ends before last new (count + j) cs later u good (omega (arith, l)) n t in
        let k : count + j - count ≡ j = omega arith in
        ap₂ (λ (state : State Birth) (i : ℕ). byte_lives (in_part before last s) (live_from later state cs) (Write path offset bytes) i) st.is k
        ∙ write_lives before last new count s path offset bytes u live final below (write_made (store before last) (part_of before last s) count path offset bytes u st.made) j l
        (λ q. x.to (ap (λ (state : State Birth). has (births_left state) (count + j)) is ∙ q)) (λ f. ap (λ (state : State Birth). has (births_left state) (count + j)) (sym is) ∙ x.back f)
    inner_lives count s c cs e h sound below st n t is j l = absurd (omega arith)

    part_list : (cs : List Command) (count : ℕ) (s : Subvolume Birth) → IsSound s → Below count (in_part before last s) → heads_of cs ≡ [] → BornTakes count (in_part before last s) cs → born_by count (in_part before last s) cs ≡ final
        → squashed_live count (in_part before last s) cs ≡ squashed_from left_of count (in_part before last s) cs
    unfolding squashed_live squashed_from BornTakes born_by
    part_list [] count s sound below n t is = refl
    part_list (End ∷ cs) count s sound below n (taken, t) is =
        let later : ℕ = count + length (bytes_of End) in
        let e = ended before last new count s in
        ap (λ (r : List Command). End ∷ r)
        (ap (λ (x : State Birth). squashed_live later x cs) e ∙ store_list cs later s (no_more before last End cs n).1 (subst (λ (x : State Birth). BornTakes later x cs) e t) ∙ sym (ap (λ (x : State Birth). squashed_from left_of later x cs) e))
    part_list (c ∷ cs) count s sound below n (taken, t) is =
        let m = no_more before last c cs n in
        let later : ℕ = count + length (bytes_of c) in
        let st = stepped before last count s c refl m.0 taken in
        let u : Subvolume Birth = st.next in
        let good = edit_part_sound (births_from count (bytes_of c)) (store before last) (part_of before last s) c u sound st.made in
        let takes : BornTakes later (in_part before last u) cs = subst (λ (x : State Birth). BornTakes later x cs) st.is t in
        let ends_so : born_by later (in_part before last u) cs ≡ final = ap (λ (x : State Birth). born_by later x cs) (sym st.is) ∙ is in
        let lower : Below later (in_part before last u) = subst (λ (x : State Birth). Below later x) st.is (below_step count (in_part before last s) c below) in
        ap₂ (λ (a b : List Command). a ++ b)
        (command_same (λ b. byte_lives (in_part before last s) (live_from later (born_step count (in_part before last s) c).state cs) c (b - count)) left_of count (in_part before last s) c
        (inner_lives count s c cs refl m.0 sound below st m.1 takes ends_so))
        (ap (λ (x : State Birth). squashed_live later x cs) st.is ∙ part_list cs later u good lower m.1 takes ends_so ∙ sym (ap (λ (x : State Birth). squashed_from left_of later x cs) st.is))

  module _ (base : Store ℕ) (last : Head) where
    -- What a part starts from is sound.
    start_sound : (keys : List Key) → FindsLawful base keys → ((k : Key) → last.parent ≡ Some k → IsAmong k keys) → (start : Subvolume Birth) → start_from (unborn_store base) last.parent ≡ Ok start → IsSound start
    start_sound keys f n start e = one (start_from base last.parent) refl (sym (start_cells (λ byte. None) base last.parent) ∙ e)
      where
        taken_from : (k : Key) (o : Option (Subvolume ℕ)) (x : Subvolume ℕ) → find base k ≡ o → IsAmong k keys → found o NoParent ≡ Ok x → IsLawful x
        taken_from k None x q m h = cc
        taken_from k (Some t) x q m h = f k x m (q ∙ ap (λ (y : Subvolume ℕ). Some y) (ok_same h))

        lawful : (o : Option Key) → last.parent ≡ o → (x : Subvolume ℕ) → start_from base last.parent ≡ Ok x → IsLawful x
        lawful None p x q = subst (λ (y : Subvolume ℕ). IsLawful y) (ok_same (sym (ap (start_from base) p) ∙ q)) root_alone_is_lawful
        lawful (Some k) p x q = taken_from k (find base k) x refl (n k p) (sym (ap (start_from base) p) ∙ q)

        one : (r : Result (Subvolume ℕ) Refusal) → start_from base last.parent ≡ r → recelled_result (λ byte. None) r ≡ Ok start → IsSound start
        one (Ok x) q h = let l = lawful last.parent refl x q in subst (λ (y : Subvolume Birth). IsSound y) (ok_same h) (sound_on (λ byte. None) x l.sound)
        one (Err refusal) q h = cc

    record Began (count : ℕ) (c : Command) : Type 0 where
      start : Subvolume Birth
      new : has_uuid last.key.uuid (unborn_store base) ≡ false
      is : (born_step count (unborn base) c).state ≡ in_part base last start
      from : start_from (unborn_store base) last.parent ≡ Ok start

    began : (count : ℕ) (c : Command) → head_of c ≡ Some last → (born_step count (unborn base) c).refusal ≡ None → Began count c
    unfolding step_head completed
    began count c h taken =
        let u : Store Birth = unborn_store base in
        let is : born_step count (unborn base) c ≡ entered u last (begun u last) = head_step None (births_from count (bytes_of c)) (unborn base) c last h in
        let ok = entered_taken u last (begun u last) (ap (λ (x : Stepped Birth). x.refusal) (sym is) ∙ taken) in
        let b = begun_begins u last ok.0 ok.1 in
        record { start = ok.0; new = b.new_uuid; is = ap (λ (x : Stepped Birth). x.state) is ∙ ap (λ (r : Result (Subvolume Birth) Refusal). (entered u last r).state) ok.1; from = b.from }

    head_carries_none : (c : Command) (head : Head) → head_of c ≡ Some head → (j : ℕ) → j < length (bytes_of c) → ⊥
    head_carries_none (Write path offset bytes) head e j h = cc
    head_carries_none c head e j h = absurd (omega arith)

    waiting_none : (count : ℕ) (c : Command) → (born_step count (unborn base) c).refusal ≡ None → (j : ℕ) → j < length (bytes_of c) → ⊥
    waiting_none count (Write path offset bytes) q j h = some_none (sym (inner_refused None (births_from count bytes) (unborn_store base) (Write path offset bytes) refl refl) ∙ q)
      where
        some_none : Some NoSubvolume ≡ None → ⊥
        some_none e = cc
    waiting_none count c q j h = absurd (omega arith)

    whole_list : (keys : List Key) → FindsLawful base keys → (cs : List Command) (count : ℕ) → ((k : Key) → IsAmong k (all_keys_named cs) → IsAmong k keys) → heads_of cs ≡ last ∷ [] → Below count (unborn base)
        → BornTakes count (unborn base) cs → born_by count (unborn base) cs ≡ final
        → squashed_live count (unborn base) cs ≡ squashed_from left_of count (unborn base) cs
    unfolding squashed_live squashed_from BornTakes born_by heads_of
    whole_list keys f [] count n h below t is = cc
    whole_list keys f (c ∷ cs) count n h below (taken, t) is = one (head_of c) refl h (whole_list keys f cs (count + length (bytes_of c)) (λ k m. n k (rest_among k c cs m)))
      where
        later : ℕ
        later = count + length (bytes_of c)

        one : (o : Option Head) → head_of c ≡ o → onto_heads o (heads_of cs) ≡ last ∷ []
            → (heads_of cs ≡ last ∷ [] → Below later (unborn base) → BornTakes later (unborn base) cs → born_by later (unborn base) cs ≡ final → squashed_live later (unborn base) cs ≡ squashed_from left_of later (unborn base) cs)
            → squash_for (λ b. byte_lives (unborn base) (live_from later (born_step count (unborn base) c).state cs) c (b - count)) count (unborn base) c ++ squashed_live later (born_step count (unborn base) c).state cs
            ≡ squash_for left_of count (unborn base) c ++ squashed_from left_of later (born_step count (unborn base) c).state cs
        one None e q more =
            let same = waits base last c count e taken in
            ap₂ (λ (a b : List Command). a ++ b)
            (command_same (λ b. byte_lives (unborn base) (live_from later (born_step count (unborn base) c).state cs) c (b - count)) left_of count (unborn base) c (λ j l. absurd (waiting_none count c taken j l)))
            (ap (λ (x : State Birth). squashed_live later x cs) same
            ∙ more q (subst (λ (x : State Birth). Below later x) same (below_step count (unborn base) c below)) (subst (λ (x : State Birth). BornTakes later x cs) same t) (ap (λ (x : State Birth). born_by later x cs) (sym same) ∙ is)
            ∙ sym (ap (λ (x : State Birth). squashed_from left_of later x cs) same))
        one (Some head) e q more =
            let this : head ≡ last = ap (λ (hs : List Head). elim hs as (λ x. Head) [ [] ↦ head | h ∷ rest ↦ h ]) q in
            let none : heads_of cs ≡ [] = ap (λ (hs : List Head). elim hs as (λ x. List Head) [ [] ↦ [] | h ∷ rest ↦ rest ]) q in
            let of_last : head_of c ≡ Some last = e ∙ ap (λ (x : Head). Some x) this in
            let b = began count c of_last taken in
            let sound = start_sound keys f (λ k p. n k (first_among k c cs (parent_named c last of_last k p))) b.start b.from in
            ap₂ (λ (x y : List Command). x ++ y)
            (command_same (λ x. byte_lives (unborn base) (live_from later (born_step count (unborn base) c).state cs) c (x - count)) left_of count (unborn base) c (λ j l. absurd (head_carries_none c head e j l)))
            (ap (λ (x : State Birth). squashed_live later x cs) b.is
            ∙ part_list base last b.new cs later b.start sound (subst (λ (x : State Birth). Below later x) b.is (below_step count (unborn base) c below)) none (subst (λ (x : State Birth). BornTakes later x cs) b.is t) (ap (λ (x : State Birth). born_by later x cs) (sym b.is) ∙ is)
            ∙ sym (ap (λ (x : State Birth). squashed_from left_of later x cs) b.is))

pub liveness_squashes_the_same : LivenessSquashesTheSame
unfolding stands
liveness_squashes_the_same base items last one f accepted =
    let cs : List Command = commands_of items in
    let end : State ℕ = (run_items 0 byte_cells (start_of base) items).state in
    let takes : Takes (start_of base) cs end = takes_run items (start_of base) accepted in
    whole_list (born_by 0 (unborn base) cs) base last (all_keys_named cs) (all_lawful items base end f takes) cs 0 (λ k m. m) one (below_start base)
    (starts_born base cs end (takes_lead cs (start_of base) end takes)) refl
