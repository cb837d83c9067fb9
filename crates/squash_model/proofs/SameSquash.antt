-- Commands are squashed to the same over each store that takes them and finds the same.
use Rattle.std.specs.Prelude.{◌≡◌, ℕ, ◌+◌, ◌==◌, Bool, true, false, List, [], ◌∷◌, ◌++◌, map, length, Option, None, Some, Result, if◌then◌else◌}
use Rattle.std.specs.List.{list_any, flat_map}
use Rattle.std.specs.Option.{option_map}
use Rattle.std.specs.Str.{bytes_eq}
use Rattle.std.proofs.Common.{refl, sym, ap, ap₂, subst, ◌∙◌, append_assoc, append-nil, inl}
use Rattle.std.proofs.lemmas.List.Folds.{list_any-append}
use Rattle.std.proofs.lemmas.Grind.{flat_map-append}
use Rattle.send_model.specs.Refusal.{Refusal, NoSubvolume, NoParent}
use Rattle.send_model.specs.Chain.{found}
use Rattle.send_model.specs.Command.{Command, Subvol, Snapshot, Write, Clone, End}
use Rattle.send_model.specs.Subvolume.{Inode, Subvolume}
use Rattle.send_model.specs.Clone.{clone, clone_values}
use Rattle.send_model.specs.Store.{Key, same_key, Head, head_of, Entry, Store, has_uuid, find, Part, State, Stepped, with_contents, completed, unfinished, begun, start_from, entered, step_head, clone_source, edit_part, edited, step, step_edit, key_of}
use Rattle.send_model.specs.Receive.{bytes_of, start_of}
use Rattle.send_model.specs.Outside.{IsAmong, keys_named, all_keys_named}
use Rattle.send_model.specs.Counts.{is_end}
use Rattle.send_model.specs.Cells.{recelled, recelled_store, recelled_state, recelled_step}
use Rattle.send_model.specs.Separated.{LeadTo}
use Rattle.send_model.proofs.Sorts.{head_step}
use Rattle.send_model.proofs.Fuel.{ok_same}
use Rattle.send_model.proofs.Stores.{or_parts}
use Rattle.send_model.proofs.Merging.{begun_begins, entered_taken, edited_taken}
use Rattle.send_model.proofs.CellSteps.{find-cells}
use Rattle.send_model.proofs.CellClones.{all_steps-cells}
use Rattle.squash_model.specs.Squashed.{Birth, births_from, born_step, born_by, unborn, births_of, births_in, births_inside, part_births, births_left, stands, size_at, squash_for, squashed_from, squashed}
use Rattle.squash_model.proofs.LawfulRuns.{first_among, rest_among, parent_named}
use Rattle.squash_model.proofs.StandingCells.{store_twice}

-- ---- entries behind others

module _ {C : Type 0} where
  pub finds_behind : (store own : Store C) (k : Key) → find (store ++ own) k ≡ (elim (find store k) as (λ x. Option (Subvolume C)) [ None ↦ find own k | Some s ↦ Some s ])
  unfolding find
  finds_behind [] own k = refl
  finds_behind (e ∷ store) own k = one (same_key e.key k) e.contents (finds_behind store own k)
    where
      one : (b : Bool) (o : Option (Subvolume C)) → find (store ++ own) k ≡ (elim (find store k) as (λ x. Option (Subvolume C)) [ None ↦ find own k | Some s ↦ Some s ])
          → (if b then (elim o as (λ x. Option (Subvolume C)) [ None ↦ find (store ++ own) k | Some s ↦ Some s ]) else find (store ++ own) k)
          ≡ (elim (if b then (elim o as (λ x. Option (Subvolume C)) [ None ↦ find store k | Some s ↦ Some s ]) else find store k) as (λ x. Option (Subvolume C)) [ None ↦ find own k | Some s ↦ Some s ])
      one true None more = more
      one true (Some s) more = refl
      one false o more = more

  completes_behind : (uuid : List ℕ) (s : Subvolume C) (store own : Store C) → has_uuid uuid store ≡ false → with_contents uuid s (store ++ own) ≡ store ++ with_contents uuid s own
  unfolding with_contents
  completes_behind uuid s [] own h = refl
  completes_behind uuid s (e ∷ store) own h =
      let p = or_parts (bytes_eq e.key.uuid uuid) (has_uuid uuid store) h in
      ap (λ (b : Bool). if b then record e { contents = Some s } ∷ (store ++ own) else e ∷ with_contents uuid s (store ++ own)) p.0
      ∙ ap (λ (r : Store C). e ∷ r) (completes_behind uuid s store own p.1)

  pub inner_step : (zero_cell : C) (put : List C) (store : Store C) (part : Part C) (c : Command) → is_end c ≡ false → head_of c ≡ None
      → step zero_cell put (record { store = store; part = Some part }) c ≡ edited store part (edit_part zero_cell put store part c)
  unfolding step step_edit
  inner_step zero_cell put store part (Subvol uuid ctransid path) e h = cc
  inner_step zero_cell put store part (Snapshot uuid ctransid path clone_uuid clone_ctransid) e h = cc
  inner_step zero_cell put store part End e h = cc
  inner_step zero_cell put store part c e h = refl

  pub inner_refused : (zero_cell : C) (put : List C) (store : Store C) (c : Command) → is_end c ≡ false → head_of c ≡ None
      → (step zero_cell put (record { store = store; part = None }) c).refusal ≡ Some NoSubvolume
  unfolding step step_edit
  inner_refused zero_cell put store (Subvol uuid ctransid path) e h = cc
  inner_refused zero_cell put store (Snapshot uuid ctransid path clone_uuid clone_ctransid) e h = cc
  inner_refused zero_cell put store End e h = cc
  inner_refused zero_cell put store c e h = refl

-- ---- two runs side by side

module _ {C : Type 0} (zero_cell : C) (first second : Store C) (keys : List Key) (finds : (k : Key) → IsAmong k keys → find first k ≡ find second k) where
  abbrev NewPart : Option (Part C) → Type 0
  NewPart None = Unit {0}
  NewPart (Some part) = (has_uuid part.key.uuid first ≡ false) × (has_uuid part.key.uuid second ≡ false)

  abbrev over : Store C → Store C → Option (Part C) → State C
  over store own part = record { store = store ++ own; part = part }

  -- Both have the same new entries behind their own, and the same part.
  pub record AreAlike (a b : State C) : Type 0 where
    pub own : Store C
    pub part : Option (Part C)
    pub here : a ≡ over first own part
    pub there : b ≡ over second own part
    pub new : NewPart part

  abbrev closed : Store C → Option (Part C) → Store C
  closed own None = own
  closed own (Some part) = with_contents part.key.uuid part.subvolume own

  close_first : (own : Store C) (o : Option (Part C)) → NewPart o → completed (over first own o) ≡ first ++ closed own o
  unfolding completed
  close_first own None n = refl
  close_first own (Some part) n = completes_behind part.key.uuid part.subvolume first own n.0

  close_second : (own : Store C) (o : Option (Part C)) → NewPart o → completed (over second own o) ≡ second ++ closed own o
  unfolding completed
  close_second own None n = refl
  close_second own (Some part) n = completes_behind part.key.uuid part.subvolume second own n.1

  same_find : (own : Store C) (k : Key) → IsAmong k keys → find (first ++ own) k ≡ find (second ++ own) k
  same_find own k m =
      finds_behind first own k ∙ ap (λ (o : Option (Subvolume C)). elim o as (λ x. Option (Subvolume C)) [ None ↦ find own k | Some s ↦ Some s ]) (finds k m) ∙ sym (finds_behind second own k)

  same_start : (own : Store C) (parent : Option Key) → ((k : Key) → parent ≡ Some k → IsAmong k keys) → start_from (first ++ own) parent ≡ start_from (second ++ own) parent
  same_start own None n = refl
  same_start own (Some k) n = ap (λ (o : Option (Subvolume C)). found o NoParent) (same_find own k (n k refl))

  not_before : (uuid : List ℕ) (store own : Store C) → has_uuid uuid (store ++ own) ≡ false → has_uuid uuid store ≡ false
  not_before uuid store own h = (or_parts (has_uuid uuid store) (has_uuid uuid own) (sym (list_any-append (λ (e : Entry (Subvolume C)). bytes_eq e.key.uuid uuid) store own) ∙ h)).0

  entered_alike : (own : Store C) (head : Head) → ((k : Key) → head.parent ≡ Some k → IsAmong k keys)
      → (entered (first ++ own) head (begun (first ++ own) head)).refusal ≡ None → (entered (second ++ own) head (begun (second ++ own) head)).refusal ≡ None
      → AreAlike (entered (first ++ own) head (begun (first ++ own) head)).state (entered (second ++ own) head (begun (second ++ own) head)).state
  entered_alike own head n t u =
      let a = entered_taken (first ++ own) head (begun (first ++ own) head) t in
      let b = entered_taken (second ++ own) head (begun (second ++ own) head) u in
      let x = begun_begins (first ++ own) head a.0 a.1 in
      let y = begun_begins (second ++ own) head b.0 b.1 in
      let same : b.0 ≡ a.0 = ok_same (sym y.from ∙ sym (same_start own head.parent n) ∙ x.from) in
      let part : Subvolume C → Option (Part C) = λ s. Some (record { key = head.key; subvolume = s }) in
      let at : Store C → Subvolume C → State C = λ store s. record { store = store; part = part s } in
      record {
        own = own ++ unfinished head ∷ [];
        part = part a.0;
        here = ap (λ (r : Result (Subvolume C) Refusal). (entered (first ++ own) head r).state) a.1 ∙ ap (λ (store : Store C). at store a.0) (append_assoc first own (unfinished head ∷ []));
        there = ap (λ (r : Result (Subvolume C) Refusal). (entered (second ++ own) head r).state) b.1 ∙ ap₂ (λ (store : Store C) (s : Subvolume C). at store s) (append_assoc second own (unfinished head ∷ [])) same;
        new = (not_before head.key.uuid first own x.new_uuid, not_before head.key.uuid second own y.new_uuid);
      }

  abbrev Steps : Command → Type 0
  Steps c = (put : List C) (own : Store C) (part : Option (Part C)) → NewPart part → ((k : Key) → IsAmong k (keys_named c) → IsAmong k keys)
      → (step zero_cell put (over first own part) c).refusal ≡ None → (step zero_cell put (over second own part) c).refusal ≡ None
      → AreAlike (step zero_cell put (over first own part) c).state (step zero_cell put (over second own part) c).state

  same_source : (own : Store C) (part : Part C) (k : Key) → IsAmong k keys → clone_source (first ++ own) part k ≡ clone_source (second ++ own) part k
  same_source own part k m = ap (λ (o : Option (Subvolume C)). if bytes_eq k.uuid part.key.uuid then Some part.subvolume else o) (same_find own k m)

  same_edit : (put : List C) (own : Store C) (part : Part C) (c : Command) → ((k : Key) → IsAmong k (keys_named c) → IsAmong k keys)
      → edit_part zero_cell put (first ++ own) part c ≡ edit_part zero_cell put (second ++ own) part c
  unfolding edit_part
  same_edit put own part (Clone path offset clone_uuid clone_ctransid clone_path from len) n =
      ap (λ (o : Option (Subvolume C)). clone zero_cell part.subvolume o (bytes_eq clone_uuid part.key.uuid) (clone_values path offset clone_path from len))
      (same_source own part (key_of clone_uuid clone_ctransid) (n (key_of clone_uuid clone_ctransid) (inl refl)))
  same_edit put own part c n = refl

  inner_alike : (c : Command) → is_end c ≡ false → head_of c ≡ None → Steps c
  inner_alike c e h put own None new n t u = let x = sym (inner_refused zero_cell put (first ++ own) c e h) ∙ t in cc
  inner_alike c e h put own (Some part) new n t u =
      let x = inner_step zero_cell put (first ++ own) part c e h in
      let y = inner_step zero_cell put (second ++ own) part c e h in
      let same = same_edit put own part c n in
      let ok = edited_taken (first ++ own) part (edit_part zero_cell put (first ++ own) part c) (ap (λ (z : Stepped C). z.refusal) (sym x) ∙ t) in
      record {
        own = own;
        part = Some (record { key = part.key; subvolume = ok.0 });
        here = ap (λ (z : Stepped C). z.state) x ∙ ap (λ (r : Result (Subvolume C) Refusal). (edited (first ++ own) part r).state) ok.1;
        there = ap (λ (z : Stepped C). z.state) y ∙ ap (λ (r : Result (Subvolume C) Refusal). (edited (second ++ own) part r).state) (sym same ∙ ok.1);
        new = new;
      }

  head_alike : (c : Command) (head : Head) → head_of c ≡ Some head → Steps c
  unfolding step_head
  head_alike c head h put own part new n t u =
      let a : State C = over first own part in
      let b : State C = over second own part in
      let x : step zero_cell put a c ≡ entered (first ++ closed own part) head (begun (first ++ closed own part) head) =
      head_step zero_cell put a c head h ∙ ap (λ (s : Store C). entered s head (begun s head)) (close_first own part new) in
      let y : step zero_cell put b c ≡ entered (second ++ closed own part) head (begun (second ++ closed own part) head) =
      head_step zero_cell put b c head h ∙ ap (λ (s : Store C). entered s head (begun s head)) (close_second own part new) in
      let next = entered_alike (closed own part) head (λ k e. n k (parent_named c head h k e)) (ap (λ (z : Stepped C). z.refusal) (sym x) ∙ t) (ap (λ (z : Stepped C). z.refusal) (sym y) ∙ u) in
      record {
        own = next.own;
        part = next.part;
        here = ap (λ (z : Stepped C). z.state) x ∙ next.here;
        there = ap (λ (z : Stepped C). z.state) y ∙ next.there;
        new = next.new;
      }

  end_alike : Steps End
  unfolding step
  end_alike put own part new n t u =
      let at : Store C → State C = λ s. record { store = s; part = None } in
      record { own = closed own part; part = None; here = ap at (close_first own part new); there = ap at (close_second own part new); new = tt }

  by_head : (c : Command) → is_end c ≡ false → (o : Option Head) → head_of c ≡ o → Steps c
  by_head c e (Some head) h = head_alike c head h
  by_head c e None h = inner_alike c e h

  pub step_alike : (c : Command) → Steps c
  step_alike End = end_alike
  step_alike c = by_head c refl (head_of c) refl

-- ---- a run over births takes what a run over bytes takes

abbrev pub blank_byte : ℕ → ℕ
blank_byte byte = 0

abbrev pub blank_birth : Birth → ℕ
blank_birth birth = 0

unfoldable pub BornTakes : ℕ → State Birth → List Command → Type 0
BornTakes count state [] = Unit {0}
BornTakes count state (c ∷ cs) = ((born_step count state c).refusal ≡ None) × BornTakes (count + length (bytes_of c)) (born_step count state c).state cs

pub blanks : (count : ℕ) (bytes : List ℕ) → map blank_byte bytes ≡ map blank_birth (births_from count bytes)
blanks count [] = refl
blanks count (b ∷ bytes) = ap (λ (r : List ℕ). 0 ∷ r) (blanks (count + 1) bytes)

born_takes : (cs : List Command) (count : ℕ) (state end : State ℕ) (born : State Birth) → recelled_state blank_byte state ≡ recelled_state blank_birth born → LeadTo state cs end → BornTakes count born cs
unfolding BornTakes
born_takes [] count state end born e t = tt
born_takes (c ∷ cs) count state end born e (taken, t) =
    let plain : Stepped ℕ = step 0 (bytes_of c) state c in
    let next : Stepped Birth = born_step count born c in
    let same : recelled_step blank_byte plain ≡ recelled_step blank_birth next =
    sym (all_steps-cells blank_byte c 0 (bytes_of c) state)
    ∙ ap₂ (λ (put : List ℕ) (s : State ℕ). step 0 put s c) (blanks count (bytes_of c)) e
    ∙ all_steps-cells blank_birth c None (births_from count (bytes_of c)) born in
    (ap (λ (x : Stepped ℕ). x.refusal) (sym same) ∙ taken, born_takes cs (count + length (bytes_of c)) plain.state end next.state (ap (λ (x : Stepped ℕ). x.state) same) t)

pub blank_start : (store : Store ℕ) → recelled_state blank_byte (start_of store) ≡ recelled_state blank_birth (unborn store)
blank_start store = ap (λ (s : Store ℕ). start_of s) (sym (store_twice (λ (byte : ℕ). None) blank_birth store))

pub starts_born : (store : Store ℕ) (cs : List Command) (end : State ℕ) → LeadTo (start_of store) cs end → BornTakes 0 (unborn store) cs
starts_born store cs end t = born_takes cs 0 (start_of store) end (unborn store) (blank_start store) t

-- ---- births

no_births_of : (cells : List ℕ) → births_of (map (λ byte. None) cells) ≡ []
no_births_of [] = refl
no_births_of (c ∷ cells) = no_births_of cells

abbrev pub unborn_store : Store ℕ → Store Birth
unborn_store store = recelled_store (λ byte. None) store

abbrev pub births_within : Store Birth → List ℕ
births_within store = flat_map (λ e. births_inside e.contents) store

pub no_births : (store : Store ℕ) → births_within (unborn_store store) ≡ []
no_births [] = refl
no_births (e ∷ store) = ap₂ (λ (a b : List ℕ). a ++ b) (inside e.contents) (no_births store)
  where
    all : (m : List (ℕ × Inode ℕ)) → births_in (recelled (λ byte. None) (record { inodes = m; names = []; next = 0 })) ≡ []
    all [] = refl
    all (i ∷ m) = ap₂ (λ (a b : List ℕ). a ++ b) (no_births_of i.1.cells) (all m)

    inside : (o : Option (Subvolume ℕ)) → births_inside (option_map (recelled (λ byte. None)) o) ≡ []
    inside None = refl
    inside (Some s) = all s.inodes

squash_alike : (standing : ℕ → Bool) (count : ℕ) (a b : State Birth) (c : Command) → a.part ≡ b.part → squash_for standing count a c ≡ squash_for standing count b c
unfolding size_at
squash_alike standing count a b (Write path offset bytes) e = ap (λ (o : Option (Part Birth)). squash_for standing count (record { store = a.store; part = o }) (Write path offset bytes)) e ∙ sizes b.part
  where
    sizes : (o : Option (Part Birth)) → squash_for standing count (record { store = a.store; part = o }) (Write path offset bytes) ≡ squash_for standing count (record { store = b.store; part = o }) (Write path offset bytes)
    sizes o = refl
squash_alike standing count a b c e = refl

module _ (store other : Store ℕ) (keys : List Key) (same : (k : Key) → IsAmong k keys → find store k ≡ find other k) where
  born_finds : (k : Key) → IsAmong k keys → find (unborn_store store) k ≡ find (unborn_store other) k
  born_finds k m = find-cells (λ byte. None) store k ∙ ap (option_map (recelled (λ byte. None))) (same k m) ∙ sym (find-cells (λ byte. None) other k)

  Alike : State Birth → State Birth → Type 0
  Alike a b = AreAlike None (unborn_store store) (unborn_store other) keys born_finds a b

  start_alike : Alike (unborn store) (unborn other)
  unfolding Alike
  start_alike = record {
    own = [];
    part = None;
    here = ap (λ (s : Store Birth). start_of s) (sym (append-nil (unborn_store store)));
    there = ap (λ (s : Store Birth). start_of s) (sym (append-nil (unborn_store other)));
    new = tt;
  }

  same_parts : (a b : State Birth) → Alike a b → a.part ≡ b.part
  unfolding Alike
  same_parts a b s = ap (λ (v : State Birth). v.part) s.here ∙ ap (λ (v : State Birth). v.part) (sym s.there)

  step_on : (count : ℕ) (c : Command) (a b : State Birth) → Alike a b → ((k : Key) → IsAmong k (keys_named c) → IsAmong k keys) → (born_step count a c).refusal ≡ None → (born_step count b c).refusal ≡ None
      → Alike (born_step count a c).state (born_step count b c).state
  unfolding Alike
  step_on count c a b s n t u =
      let x : State Birth = record { store = unborn_store store ++ s.own; part = s.part } in
      let y : State Birth = record { store = unborn_store other ++ s.own; part = s.part } in
      subst (λ (v : State Birth). Alike (born_step count v c).state (born_step count b c).state) (sym s.here)
      (subst (λ (w : State Birth). Alike (born_step count x c).state (born_step count w c).state) (sym s.there)
      (step_alike None (unborn_store store) (unborn_store other) keys born_finds c (births_from count (bytes_of c)) s.own s.part s.new n
      (subst (λ (v : State Birth). (born_step count v c).refusal ≡ None) s.here t) (subst (λ (w : State Birth). (born_step count w c).refusal ≡ None) s.there u)))

  runs_alike : (cs : List Command) (count : ℕ) (a b : State Birth) → Alike a b → ((k : Key) → IsAmong k (all_keys_named cs) → IsAmong k keys) → BornTakes count a cs → BornTakes count b cs
      → Alike (born_by count a cs) (born_by count b cs)
  unfolding born_by BornTakes
  runs_alike [] count a b s n t u = s
  runs_alike (c ∷ cs) count a b s n (r, t) (q, u) =
      runs_alike cs (count + length (bytes_of c)) (born_step count a c).state (born_step count b c).state (step_on count c a b s (λ k m. n k (first_among k c cs m)) r q) (λ k m. n k (rest_among k c cs m)) t u

  squashes_alike : (standing : ℕ → Bool) (cs : List Command) (count : ℕ) (a b : State Birth) → Alike a b → ((k : Key) → IsAmong k (all_keys_named cs) → IsAmong k keys) → BornTakes count a cs → BornTakes count b cs
      → squashed_from standing count a cs ≡ squashed_from standing count b cs
  unfolding squashed_from BornTakes
  squashes_alike standing [] count a b s n t u = refl
  squashes_alike standing (c ∷ cs) count a b s n (r, t) (q, u) =
      ap₂ (λ (x y : List Command). x ++ y) (squash_alike standing count a b c (same_parts a b s))
      (squashes_alike standing cs (count + length (bytes_of c)) (born_step count a c).state (born_step count b c).state (step_on count c a b s (λ k m. n k (first_among k c cs m)) r q) (λ k m. n k (rest_among k c cs m)) t u)

  births_alike : (a b : State Birth) → Alike a b → births_left a ≡ births_left b
  unfolding births_left Alike
  births_alike a b s = ap births_left s.here ∙ one ∙ ap births_left (sym s.there)
    where
      only_own : (before : Store ℕ) → births_within (unborn_store before ++ s.own) ≡ births_within s.own
      only_own before = flat_map-append (λ (e : Entry (Subvolume Birth)). births_inside e.contents) (unborn_store before) s.own ∙ ap (λ (r : List ℕ). r ++ births_within s.own) (no_births before)

      one : births_left (record { store = unborn_store store ++ s.own; part = s.part }) ≡ births_left (record { store = unborn_store other ++ s.own; part = s.part })
      one = ap (λ (r : List ℕ). r ++ part_births (record { store = unborn_store store; part = s.part })) (only_own store ∙ sym (only_own other))

pub same_stands : (store other : Store ℕ) (cs : List Command) (end end' : State ℕ) → ((k : Key) → IsAmong k (all_keys_named cs) → find store k ≡ find other k)
    → LeadTo (start_of store) cs end → LeadTo (start_of other) cs end' → stands store cs ≡ stands other cs
unfolding stands
same_stands store other cs end end' same t u =
    let e = births_alike store other (all_keys_named cs) same (born_by 0 (unborn store) cs) (born_by 0 (unborn other) cs)
    (runs_alike store other (all_keys_named cs) same cs 0 (unborn store) (unborn other) (start_alike store other (all_keys_named cs) same) (λ k m. m) (starts_born store cs end t) (starts_born other cs end' u)) in
    λ i birth. list_any (λ b. b == birth) (e i)

pub same_squash : (store other : Store ℕ) (cs : List Command) (end end' : State ℕ) → ((k : Key) → IsAmong k (all_keys_named cs) → find store k ≡ find other k)
    → LeadTo (start_of store) cs end → LeadTo (start_of other) cs end' → squashed store cs ≡ squashed other cs
same_squash store other cs end end' same t u =
    ap (λ (standing : ℕ → Bool). squashed_from standing 0 (unborn store) cs) (same_stands store other cs end end' same t u)
    ∙ squashes_alike store other (all_keys_named cs) same (stands other cs) cs 0 (unborn store) (unborn other) (start_alike store other (all_keys_named cs) same) (λ k m. m) (starts_born store cs end t) (starts_born other cs end' u)
