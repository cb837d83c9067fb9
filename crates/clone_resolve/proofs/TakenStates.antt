-- What a taken step says of a state: whose part it is afterwards, which cells it has, and where the
-- cells of a clone come from.
use Rattle.std.specs.Prelude.{◌≡◌, ℕ, ◌+◌, Bool, true, false, List, [], ◌∷◌, map, take, drop, Option, None, Some, Result, Ok, Err, IfSome, if◌then◌else◌}
use Rattle.std.specs.Option.{option_map}
use Rattle.std.specs.List.{AllByRecursion}
use Rattle.std.specs.Str.{bytes_eq}
use Rattle.std.proofs.Common.{refl, sym, ap, ap₂, subst, ◌∙◌, arith}
use Rattle.std.proofs.lemmas.Bool.{false≢true, leb-true}
use Rattle.send_model.specs.Refusal.{Refusal, NoSubvolume, NoParent}
use Rattle.send_model.specs.Chain.{found}
use Rattle.send_model.specs.Map.{Map}
use Rattle.send_model.specs.Command.{Command, Subvol, Snapshot, Clone, End}
use Rattle.send_model.specs.Subvolume.{Inode, Subvolume, root_alone, walk}
use Rattle.send_model.specs.Edit.{greatest_end}
use Rattle.send_model.specs.Clone.{cells_of, Cloned, cloned, clone_values}
use Rattle.send_model.specs.Store.{Key, same_key, Head, head_of, Entry, Store, Part, State, Stepped, find, with_contents, completed, start_from, begun, unfinished, entered, step_head, clone_source, edit_part, edited, step_edit, step}
use Rattle.send_model.specs.Provenance.{Traced, inode_with, uuid_after, is_own, clone_range}
use Rattle.send_model.specs.Cells.{recelled, recelled_store, recelled_part, recelled_state, cell_of, Holds, AllCells}
use Rattle.send_model.specs.Counts.{is_clone}
use Rattle.send_model.proofs.MergingClones.{turned_false}
use Rattle.send_model.proofs.Sorts.{by_sort, is_plain, head_step, plain_step_edit, plain_edit_part, same_inside}
use Rattle.send_model.proofs.Fuel.{ok_same}
use Rattle.send_model.proofs.ElementLaws.{all_both, all_take, all_drop}
use Rattle.send_model.proofs.Merging.{begun_begins, edited_taken}
use Rattle.send_model.proofs.CellSteps.{find-cells}
use Rattle.send_model.proofs.CellClones.{recloned, cloned-cells}
use Rattle.send_model.proofs.Held.{cells_hold, edit_holds}
use Rattle.send_model.proofs.Redirected.{cloned_facts, source_there, clone_ranged, clone_command_holds}
use Rattle.extent_map.specs.Cells.{cells_between}
use Rattle.clone_resolve.specs.Taken.{TakenFrom, taken_range}

-- ---- the part after a step

head_uuid : (current : Option (List ℕ)) (c : Command) (head : Head) → head_of c ≡ Some head → uuid_after current c ≡ Some head.key.uuid
head_uuid current (Subvol uuid ctransid path) head h = ap (λ (o : Option Head). elim o as (λ x. Option (List ℕ)) [ None ↦ current | Some k ↦ Some k.key.uuid ]) h
head_uuid current (Snapshot uuid ctransid path clone_uuid clone_ctransid) head h = ap (λ (o : Option Head). elim o as (λ x. Option (List ℕ)) [ None ↦ current | Some k ↦ Some k.key.uuid ]) h
head_uuid current c head h = cc

plain_uuid : (current : Option (List ℕ)) (c : Command) → is_plain c ≡ true → uuid_after current c ≡ current
plain_uuid current (Subvol uuid ctransid path) h = absurd (false≢true h)
plain_uuid current (Snapshot uuid ctransid path clone_uuid clone_ctransid) h = absurd (false≢true h)
plain_uuid current End h = absurd (false≢true h)
plain_uuid current c h = refl

abbrev uuid_of : {C : Type 0} → Option (Part C) → Option (List ℕ)
uuid_of part = option_map (λ p. p.key.uuid) part

module _ {C : Type 0} where
  entered_uuid : (store : Store C) (head : Head) (r : Result (Subvolume C) Refusal) → (entered store head r).refusal ≡ None → uuid_of (entered store head r).state.part ≡ Some head.key.uuid
  entered_uuid store head (Ok s) e = refl
  entered_uuid store head (Err refusal) e = cc

  edited_uuid : (store : Store C) (part : Part C) (r : Result (Subvolume C) Refusal) → uuid_of (edited store part r).state.part ≡ Some part.key.uuid
  edited_uuid store part (Ok s) = refl
  edited_uuid store part (Err refusal) = refl

  module _ (zero_cell : C) (put : List C) (state : State C) where
    edit_uuid : (c : Command) → uuid_of (step_edit zero_cell put state c).state.part ≡ uuid_of state.part
    unfolding step_edit
    edit_uuid c = one state.part refl
      where
        one : (o : Option (Part C)) → state.part ≡ o
            → uuid_of (elim o as (λ x. Stepped C) [ None ↦ record { state = state; refusal = Some NoSubvolume } | Some part ↦ edited state.store part (edit_part zero_cell put state.store part c) ]).state.part ≡ uuid_of o
        one None e = ap uuid_of e
        one (Some part) e = edited_uuid state.store part (edit_part zero_cell put state.store part c)

    clone_step : (path : List ℕ) (offset : ℕ) (uuid : List ℕ) (ctransid : ℕ) (clone_path : List ℕ) (from len : ℕ)
        → step zero_cell put state (Clone path offset uuid ctransid clone_path from len) ≡ step_edit zero_cell put state (Clone path offset uuid ctransid clone_path from len)
    unfolding step
    clone_step path offset uuid ctransid clone_path from len = refl

    abbrev KeepsUuid : Command → Type 0
    KeepsUuid c = (step zero_cell put state c).refusal ≡ None → uuid_of (step zero_cell put state c).state.part ≡ uuid_after (uuid_of state.part) c

    uuid_after_head : (c : Command) (head : Head) → head_of c ≡ Some head → KeepsUuid c
    unfolding step_head
    uuid_after_head c head h ok =
        let is : step zero_cell put state c ≡ step_head state head = head_step zero_cell put state c head h in
        ap (λ (x : Stepped C). uuid_of x.state.part) is
        ∙ entered_uuid (completed state) head (begun (completed state) head) (subst (λ (x : Stepped C). x.refusal ≡ None) is ok)
        ∙ sym (head_uuid (uuid_of state.part) c head h)

    uuid_after_end : KeepsUuid End
    unfolding step
    uuid_after_end ok = refl

    uuid_after_clone : (c : Command) → is_clone c ≡ true → KeepsUuid c
    uuid_after_clone (Clone path offset uuid ctransid clone_path from len) h ok =
        ap (λ (x : Stepped C). uuid_of x.state.part) (clone_step path offset uuid ctransid clone_path from len) ∙ edit_uuid (Clone path offset uuid ctransid clone_path from len)
    uuid_after_clone c h ok = absurd (false≢true h)

    uuid_after_plain : (c : Command) → is_plain c ≡ true → KeepsUuid c
    uuid_after_plain c h ok =
        ap (λ (x : Stepped C). uuid_of x.state.part) (plain_step_edit zero_cell put state c h) ∙ edit_uuid c ∙ sym (plain_uuid (uuid_of state.part) c h)

-- The part after a step that is taken is the one whose uuid follows from the command.
pub part_after_step : {C : Type 0} (zero_cell : C) (put : List C) (state : State C) (c : Command) → (step zero_cell put state c).refusal ≡ None
    → option_map (λ p. p.key.uuid) (step zero_cell put state c).state.part ≡ uuid_after (option_map (λ p. p.key.uuid) state.part) c
part_after_step zero_cell put state c =
    by_sort {P = KeepsUuid zero_cell put state} (uuid_after_head zero_cell put state) (uuid_after_end zero_cell put state) (uuid_after_clone zero_cell put state) (uuid_after_plain zero_cell put state) c

-- ---- the cells after a step

module _ {C : Type 0} (P : C → Type 0) where
  abbrev Good : Entry (Subvolume C) → Type 0
  Good e = IfSome e.contents (Holds P)

  found_in : (store : Store C) (key : Key) (s : Subvolume C) → AllByRecursion Good store → find store key ≡ Some s → Holds P s
  unfolding find
  found_in [] key s a f = cc
  found_in (e ∷ store) key s a f = one (same_key e.key key) e.contents a.0 (found_in store key s a.1) f
    where
      one : (b : Bool) (o : Option (Subvolume C)) → IfSome o (Holds P) → (find store key ≡ Some s → Holds P s)
          → (if b then (elim o as (λ x. Option (Subvolume C)) [ None ↦ find store key | Some t ↦ Some t ]) else find store key) ≡ Some s → Holds P s
      one true None h more g = more g
      one true (Some t) h more g = subst (Holds P) (same_inside g) h
      one false o h more g = more g

  pub cells_found : (state : State C) (key : Key) (s : Subvolume C) → AllCells P state → find state.store key ≡ Some s → Holds P s
  cells_found state key s a f = found_in state.store key s a.complete f

  filled : (uuid : List ℕ) (s : Subvolume C) (store : Store C) → Holds P s → AllByRecursion Good store → AllByRecursion Good (with_contents uuid s store)
  unfolding with_contents
  filled uuid s [] h a = tt
  filled uuid s (e ∷ store) h a = one (bytes_eq e.key.uuid uuid) (filled uuid s store h a.1)
    where
      one : (b : Bool) → AllByRecursion Good (with_contents uuid s store) → AllByRecursion Good (if b then record e { contents = Some s } ∷ store else e ∷ with_contents uuid s store)
      one true more = (h, a.1)
      one false more = (a.0, more)

  completed_cells : (state : State C) → AllCells P state → AllByRecursion Good (completed state)
  unfolding completed
  completed_cells state a = one state.part a.part
    where
      one : (o : Option (Part C)) → IfSome o (λ p. Holds P p.subvolume) → AllByRecursion Good (elim o as (λ x. Store C) [ None ↦ state.store | Some part ↦ with_contents part.key.uuid part.subvolume state.store ])
      one None h = a.complete
      one (Some part) h = filled part.key.uuid part.subvolume state.store h a.complete

  root_cells : Holds P root_alone
  unfolding root_alone
  root_cells = (root_alone, refl)

  start_cells : (store : Store C) → AllByRecursion Good store → (parent : Option Key) (s : Subvolume C) → start_from store parent ≡ Ok s → Holds P s
  start_cells store a None s e = subst (Holds P) (ok_same e) root_cells
  start_cells store a (Some key) s e = one (find store key) refl e
    where
      one : (o : Option (Subvolume C)) → find store key ≡ o → found o NoParent ≡ Ok s → Holds P s
      one None f g = cc
      one (Some t) f g = subst (Holds P) (ok_same g) (found_in store key t a f)

  entered_cells : (store : Store C) → AllByRecursion Good store → (head : Head) (r : Result (Subvolume C) Refusal) → begun store head ≡ r → (entered store head r).refusal ≡ None → AllCells P (entered store head r).state
  entered_cells store a head (Ok s) b ok =
      let start : Holds P s = start_cells store a head.parent s (begun_begins store head s b).from in
      record { complete = all_both Good store (unfinished head ∷ []) a (tt, tt); part = start }
  entered_cells store a head (Err refusal) b ok = cc

  module _ (zero_cell : C) (put : List C) (state : State C) (zero_good : P zero_cell) (put_good : AllByRecursion P put) (all : AllCells P state) where
    edited_cells : (part : Part C) (r : Result (Subvolume C) Refusal) → ((s : Subvolume C) → r ≡ Ok s → Holds P s) → (edited state.store part r).refusal ≡ None → AllCells P (edited state.store part r).state
    edited_cells part (Ok s) h ok = record { complete = all.complete; part = h s refl }
    edited_cells part (Err refusal) h ok = cc

    edit_cells : (c : Command) → ((part : Part C) (s : Subvolume C) → Holds P part.subvolume → edit_part zero_cell put state.store part c ≡ Ok s → Holds P s)
        → (step_edit zero_cell put state c).refusal ≡ None → AllCells P (step_edit zero_cell put state c).state
    unfolding step_edit
    edit_cells c h ok = one state.part all.part ok
      where
        one : (o : Option (Part C)) → IfSome o (λ p. Holds P p.subvolume)
            → (elim o as (λ x. Stepped C) [ None ↦ record { state = state; refusal = Some NoSubvolume } | Some part ↦ edited state.store part (edit_part zero_cell put state.store part c) ]).refusal ≡ None
            → AllCells P (elim o as (λ x. Stepped C) [ None ↦ record { state = state; refusal = Some NoSubvolume } | Some part ↦ edited state.store part (edit_part zero_cell put state.store part c) ]).state
        one None own q = all
        one (Some part) own q = edited_cells part (edit_part zero_cell put state.store part c) (λ s e. h part s own e) q

    abbrev KeepsCells : Command → Type 0
    KeepsCells c = (step zero_cell put state c).refusal ≡ None → AllCells P (step zero_cell put state c).state

    abbrev Kept : Stepped C → Type 0
    Kept x = x.refusal ≡ None → AllCells P x.state

    cells_after_head : (c : Command) (head : Head) → head_of c ≡ Some head → KeepsCells c
    unfolding step_head
    cells_after_head c head h =
        let is : step zero_cell put state c ≡ step_head state head = head_step zero_cell put state c head h in
        subst Kept (sym is) (entered_cells (completed state) (completed_cells state all) head (begun (completed state) head) refl)

    cells_after_end : KeepsCells End
    unfolding step
    cells_after_end ok = record { complete = completed_cells state all; part = tt }

    cells_after_clone : (c : Command) → is_clone c ≡ true → KeepsCells c
    cells_after_clone (Clone path offset uuid ctransid clone_path from len) h =
        subst Kept (sym (clone_step zero_cell put state path offset uuid ctransid clone_path from len))
        (edit_cells (Clone path offset uuid ctransid clone_path from len) (λ part s own e.
        clone_command_holds P zero_cell zero_good put state.store part path offset uuid ctransid clone_path from len s own
        (λ other t f. found_in state.store (record { uuid = uuid; ctransid = ctransid }) t all.complete f) e))
    cells_after_clone c h = absurd (false≢true h)

    cells_after_plain : (c : Command) → is_plain c ≡ true → KeepsCells c
    cells_after_plain c h =
        subst Kept (sym (plain_step_edit zero_cell put state c h))
        (edit_cells c (λ part s own e. edit_holds P zero_cell put c part.subvolume s zero_good put_good own (sym (plain_edit_part zero_cell put state.store part c h) ∙ e)))

  -- What holds of all cells, of the zero cell and of those that are put holds of all cells after a
  -- step that is taken.
  pub cells_after_step : (zero_cell : C) (put : List C) (state : State C) (c : Command) → P zero_cell → AllByRecursion P put → AllCells P state
      → (step zero_cell put state c).refusal ≡ None → AllCells P (step zero_cell put state c).state
  cells_after_step zero_cell put state c z p a =
      by_sort {P = KeepsCells zero_cell put state z p a} (cells_after_head zero_cell put state z p a) (cells_after_end zero_cell put state z p a)
      (cells_after_clone zero_cell put state z p a) (cells_after_plain zero_cell put state z p a) c

  -- ---- cells of a file, and some of them

  pub all_between : (cells : List C) (from len : ℕ) → AllByRecursion P cells → AllByRecursion P (cells_between from len cells)
  unfolding cells_between
  all_between cells from len a = all_take P len (drop from cells) (all_drop P from cells a)

  pub cells_of_found : (s : Subvolume C) (ino from len : ℕ) → Holds P s → AllByRecursion P (cells_between from len (cells_of s ino))
  cells_of_found s ino from len h = all_between (cells_of s ino) from len (cells_hold P s ino h)

-- ---- a weaker property

abbrev changed_in : {C D : Type 0} → (C → D) → ℕ × Inode C → ℕ × Inode D
changed_in f e = (e.0, inode_with e.1 (map f e.1.cells))

module _ {C D E : Type 0} (f : C → D) (g : D → E) where
  map_twice : (xs : List C) → map g (map f xs) ≡ map (λ x. g (f x)) xs
  map_twice [] = refl
  map_twice (x ∷ xs) = ap (λ (r : List E). g (f x) ∷ r) (map_twice xs)

  inodes_twice : (m : Map ℕ (Inode C)) → map (changed_in g) (map (changed_in f) m) ≡ map (changed_in (λ x. g (f x))) m
  inodes_twice [] = refl
  inodes_twice (e ∷ m) = let one : List E → ℕ × Inode E = λ cells. (e.0, inode_with e.1 cells) in λ i. one (map_twice e.1.cells i) ∷ inodes_twice m i

  recelled_twice : (s : Subvolume C) → recelled g (recelled f s) ≡ recelled (λ x. g (f x)) s
  recelled_twice s = let at : Map ℕ (Inode E) → Subvolume E = λ m. record { inodes = m; names = s.names; next = s.next } in ap at (inodes_twice s.inodes)

module _ {C : Type 0} (P Q : C → Type 0) (weaker : (x : C) → P x → Q x) where
  holds_weaker : (s : Subvolume C) → Holds P s → Holds Q s
  holds_weaker s (t, e) =
      let turned : (c : C) × P c → (c : C) × Q c = λ x. (x.0, weaker x.0 x.1) in
      (recelled turned t, recelled_twice turned (cell_of Q) t ∙ e)

  holds_some : (o : Option (Subvolume C)) → IfSome o (Holds P) → IfSome o (Holds Q)
  holds_some None h = tt
  holds_some (Some s) h = holds_weaker s h

  holds_part : (o : Option (Part C)) → IfSome o (λ p. Holds P p.subvolume) → IfSome o (λ p. Holds Q p.subvolume)
  holds_part None h = tt
  holds_part (Some p) h = holds_weaker p.subvolume h

  holds_store : (store : Store C) → AllByRecursion (λ e. IfSome e.contents (Holds P)) store → AllByRecursion (λ e. IfSome e.contents (Holds Q)) store
  holds_store [] a = tt
  holds_store (e ∷ store) a = (holds_some e.contents a.0, holds_store store a.1)

pub cells_weaker : {C : Type 0} (P Q : C → Type 0) (state : State C) → ((x : C) → P x → Q x) → AllCells P state → AllCells Q state
cells_weaker P Q state weaker all = record { complete = holds_store P Q weaker state.store all.complete; part = holds_part P Q weaker state.part all.part }

-- ---- a clone from a complete subvolume

-- The part that such a clone writes to, its source, and its range.
record Ranged {C : Type 0} (state : State C) (path : List ℕ) (offset : ℕ) (key : Key) (clone_path : List ℕ) (from len : ℕ) : Type 0 where
  own : Part C
  own_is : state.part ≡ Some own
  other : bytes_eq key.uuid own.key.uuid ≡ false
  source : Subvolume C
  there : find state.store key ≡ Some source
  range : Cloned C
  made : cloned own.subvolume (Some source) false (clone_values path offset clone_path from len) ≡ Ok range

module _ {C : Type 0} (zero_cell : C) (put : List C) (state : State C) where
  edited_store : (part : Part C) (r : Result (Subvolume C) Refusal) → (edited state.store part r).state.store ≡ state.store
  edited_store part (Ok s) = refl
  edited_store part (Err refusal) = refl

  edit_store : (c : Command) → (step_edit zero_cell put state c).state.store ≡ state.store
  unfolding step_edit
  edit_store c = one state.part
    where
      one : (o : Option (Part C)) → (elim o as (λ x. Stepped C) [ None ↦ record { state = state; refusal = Some NoSubvolume } | Some part ↦ edited state.store part (edit_part zero_cell put state.store part c) ]).state.store ≡ state.store
      one None = refl
      one (Some part) = edited_store part (edit_part zero_cell put state.store part c)

  edit_made : (c : Command) → (step_edit zero_cell put state c).refusal ≡ None → (part : Part C) × (state.part ≡ Some part) × (s : Subvolume C) × (edit_part zero_cell put state.store part c ≡ Ok s)
  unfolding step_edit
  edit_made c ok = one state.part refl ok
    where
      one : (o : Option (Part C)) → state.part ≡ o → (elim o as (λ x. Stepped C) [ None ↦ record { state = state; refusal = Some NoSubvolume } | Some part ↦ edited state.store part (edit_part zero_cell put state.store part c) ]).refusal ≡ None
          → (part : Part C) × (state.part ≡ Some part) × (s : Subvolume C) × (edit_part zero_cell put state.store part c ≡ Ok s)
      one None e q = cc
      one (Some part) e q = let t = edited_taken state.store part (edit_part zero_cell put state.store part c) q in (part, e, t.0, t.1)

  module _ (path : List ℕ) (offset : ℕ) (key : Key) (clone_path : List ℕ) (from len : ℕ)
      (ok : (step zero_cell put state (Clone path offset key.uuid key.ctransid clone_path from len)).refusal ≡ None) (apart : is_own (option_map (λ p. p.key.uuid) state.part) key.uuid ≡ false) where
    abbrev this : Command
    this = Clone path offset key.uuid key.ctransid clone_path from len

    source_is : (own : Part C) → bytes_eq key.uuid own.key.uuid ≡ false → clone_source state.store own key ≡ find state.store key
    source_is own other = ap (λ (b : Bool). if b then Some own.subvolume else find state.store key) other

    ranged_by : (own : Part C) → state.part ≡ Some own → bytes_eq key.uuid own.key.uuid ≡ false → (source : Subvolume C) → clone_source state.store own key ≡ Some source → (range : Cloned C)
        → cloned own.subvolume (clone_source state.store own key) (bytes_eq key.uuid own.key.uuid) (clone_values path offset clone_path from len) ≡ Ok range → Ranged state path offset key clone_path from len
    ranged_by own own_is other source source_at range made =
        let at : Option (Subvolume C) → Bool → Type 0 = λ o b. cloned own.subvolume o b (clone_values path offset clone_path from len) ≡ Ok range in
        record {
          own = own;
          own_is = own_is;
          other = other;
          source = source;
          there = sym (source_is own other) ∙ source_at;
          range = range;
          made = subst (λ (b : Bool). at (Some source) b) other (subst (λ (o : Option (Subvolume C)). at o (bytes_eq key.uuid own.key.uuid)) source_at made);
        }

    ranged : Ranged state path offset key clone_path from len
    unfolding edit_part
    ranged =
        let is : step zero_cell put state this ≡ step_edit zero_cell put state this = clone_step zero_cell put state path offset key.uuid key.ctransid clone_path from len in
        let m = edit_made this (subst (λ (x : Stepped C). x.refusal ≡ None) is ok) in
        let own : Part C = m.0 in
        let other : bytes_eq key.uuid own.key.uuid ≡ false = turned_false own.key.uuid key.uuid (subst (λ (o : Option (Part C)). is_own (uuid_of o) key.uuid ≡ false) m.1 apart) in
        let a = clone_ranged zero_cell own.subvolume (clone_source state.store own key) (bytes_eq key.uuid own.key.uuid) path offset clone_path from len m.2 m.3 in
        let s = source_there own.subvolume (clone_source state.store own key) (bytes_eq key.uuid own.key.uuid) path offset clone_path from len a.0 a.1 in
        ranged_by own m.1 other s.0 s.1 a.0 a.1

    -- A clone that is taken and does not name its own part copies from a file of a complete
    -- subvolume.
    pub taken_from : TakenFrom state (step zero_cell put state (Clone path offset key.uuid key.ctransid clone_path from len)).state offset (taken_range key clone_path from len)
    taken_from =
        let r = ranged in
        let facts = cloned_facts r.own.subvolume r.source false path offset clone_path from len r.range r.made in
        record {
          source = r.source;
          ino = facts.source_ino;
          found = r.there;
          walked = facts.source_walked;
          file = facts.source_file;
          some = (let s = facts.some in omega (arith, s));
          within = facts.within;
          fits = leb-true (offset + len) greatest_end facts.fits;
          same_store = ap (λ (x : Stepped C). x.state.store) (clone_step zero_cell put state path offset key.uuid key.ctransid clone_path from len) ∙ edit_store this;
        }

    module _ (f : C → Traced) where
      abbrev cells_in : Result (Cloned Traced) Refusal → List Traced
      cells_in (Err refusal) = []
      cells_in (Ok range) = range.cells

      -- Over traced cells such a clone puts what its source's cells are traced to.
      pub range_taken : (after : State C) (t : TakenFrom state after offset (taken_range key clone_path from len))
          → clone_range (recelled_state f state) (Clone path offset key.uuid key.ctransid clone_path from len) ≡ map f (cells_between from len (cells_of t.source t.ino))
      unfolding clone_range cells_between
      range_taken after t =
          let r = ranged in
          let own : Part C = r.own in
          let facts = cloned_facts own.subvolume r.source false path offset clone_path from len r.range r.made in
          let same_source : r.source ≡ t.source = same_inside (sym r.there ∙ t.found) in
          let same_ino : facts.source_ino ≡ t.ino = ok_same (sym facts.source_walked ∙ ap (λ (s : Subvolume C). walk s clone_path) same_source ∙ t.walked) in
          let cells : r.range.cells ≡ take len (drop from (cells_of t.source t.ino)) = facts.cells_are ∙ ap₂ (λ (s : Subvolume C) (i : ℕ). take len (drop from (cells_of s i))) same_source same_ino in
          let source : find (recelled_store f state.store) key ≡ Some (recelled f r.source) = find-cells f state.store key ∙ ap (option_map (recelled f)) r.there in
          ap (λ (o : Option (Part C)). elim (option_map (recelled_part f) o) as (λ x. List Traced) [
            | None ↦ []
            | Some part ↦ cells_in (cloned part.subvolume (clone_source (recelled_store f state.store) part key) (bytes_eq key.uuid part.key.uuid) (clone_values path offset clone_path from len))
          ]) r.own_is
          ∙ ap (λ (b : Bool). cells_in (cloned (recelled f own.subvolume) (if b then Some (recelled f own.subvolume) else find (recelled_store f state.store) key) b (clone_values path offset clone_path from len))) r.other
          ∙ ap (λ (o : Option (Subvolume Traced)). cells_in (cloned (recelled f own.subvolume) o false (clone_values path offset clone_path from len))) source
          ∙ ap cells_in (cloned-cells f own.subvolume (Some r.source) false path offset clone_path from len ∙ ap (recloned f) r.made)
          ∙ ap (map f) cells
