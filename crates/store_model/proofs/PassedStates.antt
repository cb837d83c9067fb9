-- The stores that receiving passes through: entries come behind those that were there, the last of
-- them unfinished at the most; what items leave is on the way to what more items leave.
use Rattle.std.specs.Prelude.{◌≡◌, ◌⊎◌, ℕ, true, false, List, [], ◌∷◌, ◌++◌, length, drop, Option, None, Some, Result, Ok, Err, is_some}
use Rattle.std.specs.List.{AllByRecursion, filter}
use Rattle.std.specs.Str.{bytes_eq}
use Rattle.std.proofs.Common.{inl, inr, refl, sym, ap, subst, ◌∙◌, arith, append_assoc, append-nil}
use Rattle.std.proofs.lemmas.List.{drop_at}
use Rattle.std.proofs.lemmas.Bool.{true≢false}
use Rattle.send_model.specs.Refusal.{Refusal}
use Rattle.send_model.specs.Command.{Command, Subvol, Snapshot, End}
use Rattle.send_model.specs.Reading.{Item}
use Rattle.send_model.specs.Subvolume.{Subvolume}
use Rattle.send_model.specs.Store.{Head, Entry, Store, Part, State, After, Stepped, has_uuid, with_contents, completed, unfinished, head_of, begun, entered, edited, edit_part, step_head, step_edit, step}
use Rattle.send_model.specs.Receive.{Ran, run_by, then_run, start_of}
use Rattle.send_model.specs.Guards.{Guard, Watched, guarded, watched_step}
use Rattle.store_model.specs.Stored.{is_edit}
use Rattle.store_model.specs.States.{is_complete, complete_behind, as_begun, HasBegun, IsBetween, received}
use Rattle.send_model.proofs.Sorts.{head_step}
use Rattle.send_model.proofs.Stores.{or_parts, bytes_eq_same}
use Rattle.send_model.proofs.Merging.{begun_begins}
use Rattle.send_model.proofs.ElementLaws.{all_both}
use Rattle.send_model.proofs.Guarding.{after_looks, looks_are}
use Rattle.store_model.proofs.LawfulGroups.{edit_step}

-- ---- later entries

module _ {S : Type 0} where
  -- Entries are still there, complete ones as they were, and there may be more.
  abbrev pub Later : List (Entry S) → List (Entry S) → Type 0
  Later [] new = Unit {0}
  Later (e ∷ old) [] = ⊥
  Later (e ∷ old) (d ∷ new) = (as_begun e ≡ as_begun d) × (is_complete e ≡ true → e ≡ d) × Later old new

  pub later_same : (xs : List (Entry S)) → Later xs xs
  later_same [] = tt
  later_same (e ∷ xs) = (refl, λ h. refl, later_same xs)

  pub later_more : (xs ys : List (Entry S)) → Later xs (xs ++ ys)
  later_more [] ys = tt
  later_more (e ∷ xs) ys = (refl, λ h. refl, later_more xs ys)

  pub later_twice : (xs ys zs : List (Entry S)) → Later xs ys → Later ys zs → Later xs zs
  later_twice [] ys zs a b = tt
  later_twice (e ∷ xs) [] zs a b = absurd a
  later_twice (e ∷ xs) (d ∷ ys) [] a b = absurd b
  later_twice (e ∷ xs) (d ∷ ys) (c ∷ zs) a b =
      (a.0 ∙ b.0, λ h. a.1 h ∙ b.1 (subst (λ (x : Entry S). is_complete x ≡ true) (a.1 h) h), later_twice xs ys zs a.2 b.2)

  -- the last entry gets its contents
  pub later_last : (xs : List (Entry S)) (e : Entry S) (contents : Option S) → is_complete e ≡ false → Later (xs ++ e ∷ []) (xs ++ record e { contents = contents } ∷ [])
  later_last [] e contents unended = (refl, λ h. absurd (true≢false (sym h ∙ unended)), tt)
  later_last (x ∷ xs) e contents unended = (refl, λ h. refl, later_last xs e contents unended)

  -- complete ones in front are there as they were
  later_front : (complete others new : List (Entry S)) → AllByRecursion (λ e. is_complete e ≡ true) complete → Later (complete ++ others) new → (rest : List (Entry S)) × (new ≡ complete ++ rest) × Later others rest
  later_front [] others new are later = (new, refl, later)
  later_front (e ∷ complete) others [] are later = absurd later
  later_front (e ∷ complete) others (d ∷ new) are later =
      let more = later_front complete others new are.1 later.2 in
      (more.0, (λ i. sym (later.1 are.0) i ∷ more.1 i), more.2)

  -- Two stores have the same entries in front, and later ones behind them.
  pub record Goes (start old new : List (Entry S)) : Type 0 where
    pub before : List (Entry S)
    pub after : List (Entry S)
    pub old_is : old ≡ start ++ before
    pub new_is : new ≡ start ++ after
    pub later : Later before after

  cancel : (start xs ys : List (Entry S)) → start ++ xs ≡ start ++ ys → xs ≡ ys
  cancel start xs ys is = sym (drop_at start xs (length start) refl) ∙ ap (λ (l : List (Entry S)). drop (length start) l) is ∙ drop_at start ys (length start) refl

  pub goes_twice : (start a b c : List (Entry S)) → Goes start a b → Goes start b c → Goes start a c
  goes_twice start a b c f g = record {
    before = f.before;
    after = g.after;
    old_is = f.old_is;
    new_is = g.new_is;
    later = later_twice f.before f.after g.after f.later (subst (λ (l : List (Entry S)). Later l g.after) (cancel start g.before f.after (sym g.old_is ∙ f.new_is)) g.later);
  }

  begun_later : (before others rest store : List (Entry S)) → Later others rest → HasBegun before others store → HasBegun before rest store
  begun_later before [] rest store later has = absurd has
  begun_later before (e ∷ others) [] store later has = absurd later
  begun_later before (e ∷ others) (d ∷ rest) store later has = has ∙ ap (λ (x : Entry S). before ++ x ∷ []) later.0

  -- What is on the way to a store is on the way to later ones.
  pub between_goes : (least : ℕ) (start old new now : List (Entry S)) → Goes start old new → IsBetween least start old now → IsBetween least start new now
  between_goes least start old new now goes b =
      let same : goes.before ≡ b.complete ++ b.others = cancel start goes.before (b.complete ++ b.others) (sym goes.old_is ∙ b.all) in
      let front = later_front b.complete b.others goes.after b.are (subst (λ (l : List (Entry S)). Later l goes.after) same goes.later) in
      record {
        complete = b.complete;
        others = front.0;
        all = goes.new_is ∙ ap (λ (l : List (Entry S)). start ++ l) front.1;
        are = b.are;
        enough = b.enough;
        is = elim b.is [ inl e ↦ inl e | inr e ↦ inr (begun_later (start ++ b.complete) b.others front.0 now front.2 e) ];
      }

-- ---- one step

-- A command is a head, END or an edit.
pub sort_of : (c : Command) → ((head : Head) × (head_of c ≡ Some head)) ⊎ ((c ≡ End) ⊎ (is_edit c ≡ true))
sort_of (Subvol uuid ctransid path) = inl (_, refl)
sort_of (Snapshot uuid ctransid path clone_uuid clone_ctransid) = inl (_, refl)
sort_of End = inr (inl refl)
sort_of c = inr (inr refl)

module _ {C : Type 0} where
  -- Behind the entries of the start all are complete but for the last one, which is that of the
  -- part, if there is one.
  pub record IsClosed (start store : Store C) : Type 0 where
    pub complete : Store C
    pub is : store ≡ start ++ complete
    pub are : AllByRecursion (λ e. is_complete e ≡ true) complete

  pub record IsOpen (start store : Store C) (part : Part C) : Type 0 where
    pub complete : Store C
    pub last : Entry (Subvolume C)
    pub is : store ≡ start ++ (complete ++ last ∷ [])
    pub are : AllByRecursion (λ e. is_complete e ≡ true) complete
    pub is_open : last.contents ≡ None
    pub own : last.key.uuid ≡ part.key.uuid
    pub new : has_uuid part.key.uuid (start ++ complete) ≡ false

  abbrev pub IsOn : Store C → Store C → Option (Part C) → Type 0
  IsOn start store None = IsClosed start store
  IsOn start store (Some part) = IsOpen start store part

  -- a part that is complete is the last entry
  with_last : (uuid : List ℕ) (s : Subvolume C) (store : Store C) (last : Entry (Subvolume C)) → has_uuid uuid store ≡ false → last.key.uuid ≡ uuid → with_contents uuid s (store ++ last ∷ []) ≡ store ++ record last { contents = Some s } ∷ []
  unfolding with_contents
  with_last uuid s [] last new own = rw (own, bytes_eq_same uuid) refl
  with_last uuid s (e ∷ store) last new own = let p = or_parts (bytes_eq e.key.uuid uuid) (has_uuid uuid store) new in rw p.0 (ap (λ (r : Store C). e ∷ r) (with_last uuid s store last p.1 own))

  pub completed_on : (start store : Store C) (part : Option (Part C)) → IsOn start store part → IsClosed start (completed (record { store = store; part = part })) × Goes start store (completed (record { store = store; part = part }))
  unfolding completed
  completed_on start store None on = (on, record { before = on.complete; after = on.complete; old_is = on.is; new_is = on.is; later = later_same on.complete })
  completed_on start store (Some part) on =
      let last : Entry (Subvolume C) = record on.last { contents = Some part.subvolume } in
      let is : with_contents part.key.uuid part.subvolume store ≡ start ++ (on.complete ++ last ∷ []) =
      ap (λ (l : Store C). with_contents part.key.uuid part.subvolume l) (on.is ∙ sym (append_assoc start on.complete (on.last ∷ [])))
      ∙ with_last part.key.uuid part.subvolume (start ++ on.complete) on.last on.new on.own ∙ append_assoc start on.complete (last ∷ []) in (
        record { complete = on.complete ++ last ∷ []; is = is; are = all_both (λ e. is_complete e ≡ true) on.complete (last ∷ []) on.are (refl, tt) },
        record {
          before = on.complete ++ on.last ∷ [];
          after = on.complete ++ last ∷ [];
          old_is = on.is;
          new_is = is;
          later = later_last on.complete on.last (Some part.subvolume) (ap is_some on.is_open);
        },
      )

  abbrev pub Leads : Store C → State C → State C → Type 0
  Leads start old new = IsOn start new.store new.part × Goes start old.store new.store

  pub entered_on : (start store : Store C) (head : Head) (r : Result (Subvolume C) Refusal) → begun store head ≡ r → IsClosed start store → Leads start (record { store = store; part = None }) (entered store head r).state
  entered_on start store head (Err refusal) e on = (on, record { before = on.complete; after = on.complete; old_is = on.is; new_is = on.is; later = later_same on.complete })
  entered_on start store head (Ok s) e on =
      let b = begun_begins store head s e in
      let is : store ++ unfinished head ∷ [] ≡ start ++ (on.complete ++ unfinished head ∷ []) = ap (λ (l : Store C). l ++ unfinished head ∷ []) on.is ∙ append_assoc start on.complete (unfinished head ∷ []) in (
        record { complete = on.complete; last = unfinished head; is = is; are = on.are; is_open = refl; own = refl; new = ap (has_uuid head.key.uuid) (sym on.is) ∙ b.new_uuid },
        record { before = on.complete; after = on.complete ++ unfinished head ∷ []; old_is = on.is; new_is = is; later = later_more on.complete (unfinished head ∷ []) },
      )

  pub stays : (start store : Store C) (part : Option (Part C)) → IsOn start store part → Goes start store store
  stays start store None on = record { before = on.complete; after = on.complete; old_is = on.is; new_is = on.is; later = later_same on.complete }
  stays start store (Some part) on = let all : Store C = on.complete ++ on.last ∷ [] in record { before = all; after = all; old_is = on.is; new_is = on.is; later = later_same all }

  pub edited_on : (start store : Store C) (part : Part C) (r : Result (Subvolume C) Refusal) → IsOpen start store part → Leads start (record { store = store; part = Some part }) (edited store part r).state
  edited_on start store part (Err refusal) on = (on, stays start store (Some part) on)
  edited_on start store part (Ok s) on = (record { complete = on.complete; last = on.last; is = on.is; are = on.are; is_open = on.is_open; own = on.own; new = on.new }, stays start store (Some part) on)

  edit_on : (zero_cell : C) (put : List C) (start store : Store C) (part : Option (Part C)) (c : Command) → IsOn start store part → Leads start (record { store = store; part = part }) (step_edit zero_cell put (record { store = store; part = part }) c).state
  unfolding step_edit
  edit_on zero_cell put start store None c on = (on, stays start store None on)
  edit_on zero_cell put start store (Some part) c on = edited_on start store part (edit_part zero_cell put store part c) on

  end_on : (zero_cell : C) (put : List C) (start store : Store C) (part : Option (Part C)) → IsOn start store part → Leads start (record { store = store; part = part }) (step zero_cell put (record { store = store; part = part }) End).state
  unfolding step
  end_on zero_cell put start store part on = let done = completed_on start store part on in (done.0, done.1)

  head_on : (start store : Store C) (part : Option (Part C)) (head : Head) → IsOn start store part → Leads start (record { store = store; part = part }) (step_head (record { store = store; part = part }) head).state
  unfolding step_head
  head_on start store part head on =
      let whole : Store C = completed (record { store = store; part = part }) in
      let done = completed_on start store part on in
      let next = entered_on start whole head (begun whole head) refl done.0 in
      (next.0, goes_twice start store whole (entered whole head (begun whole head)).state.store done.1 next.1)

  pub step_on : (zero_cell : C) (put : List C) (start store : Store C) (part : Option (Part C)) (c : Command) → IsOn start store part → Leads start (record { store = store; part = part }) (step zero_cell put (record { store = store; part = part }) c).state
  step_on zero_cell put start store part c on =
      let state : State C = record { store = store; part = part } in
      elim (sort_of c) as (λ x. Leads start state (step zero_cell put state c).state) [
        | inl h ↦ subst (λ (s : Stepped C). Leads start state s.state) (sym (head_step zero_cell put state c h.0 h.1)) (head_on start store part h.0 on)
        | inr (inl e) ↦ subst (λ (d : Command). Leads start state (step zero_cell put state d).state) (sym e) (end_on zero_cell put start store part on)
        | inr (inr e) ↦ subst (λ (s : Stepped C). Leads start state s.state) (sym (edit_step zero_cell put state c e)) (edit_on zero_cell put start store part c on)
      ]

  by_head : (start store : Store C) (part : Option (Part C)) (head : Head) → IsClosed start (completed (record { store = store; part = part }))
      → Goes start (completed (record { store = store; part = part })) (step_head (record { store = store; part = part }) head).state.store
  unfolding step_head
  by_head start store part head closed =
      let whole : Store C = completed (record { store = store; part = part }) in
      (entered_on start whole head (begun whole head) refl closed).1

  by_end : (zero_cell : C) (put : List C) (start store : Store C) (part : Option (Part C)) → IsClosed start (completed (record { store = store; part = part }))
      → Goes start (completed (record { store = store; part = part })) (step zero_cell put (record { store = store; part = part }) End).state.store
  unfolding step
  by_end zero_cell put start store part closed = stays start (completed (record { store = store; part = part })) None closed

  -- a head and END complete the part before they do anything else
  pub completes : (zero_cell : C) (put : List C) (start store : Store C) (part : Option (Part C)) (c : Command) → is_edit c ≡ false → IsOn start store part
      → Goes start (completed (record { store = store; part = part })) (step zero_cell put (record { store = store; part = part }) c).state.store
  completes zero_cell put start store part c ends on =
      let state : State C = record { store = store; part = part } in
      let whole : Store C = completed state in
      let done = completed_on start store part on in
      elim (sort_of c) as (λ x. Goes start whole (step zero_cell put state c).state.store) [
        | inl h ↦ subst (λ (s : Stepped C). Goes start whole s.state.store) (sym (head_step zero_cell put state c h.0 h.1)) (by_head start store part h.0 done.0)
        | inr (inl e) ↦ subst (λ (d : Command). Goes start whole (step zero_cell put state d).state.store) (sym e) (by_end zero_cell put start store part done.0)
        | inr (inr e) ↦ absurd (true≢false (sym e ∙ ends))
      ]

  -- ---- what is between

  -- how many entries behind those of a store are complete
  pub filtered_all : (xs : Store C) → AllByRecursion (λ e. is_complete e ≡ true) xs → filter is_complete xs ≡ xs
  filtered_all [] are = refl
  filtered_all (e ∷ xs) are = rw are.0 (ap (λ (l : Store C). e ∷ l) (filtered_all xs are.1))

  pub filtered_last : (xs : Store C) (last : Entry (Subvolume C)) → AllByRecursion (λ e. is_complete e ≡ true) xs → is_complete last ≡ false → filter is_complete (xs ++ last ∷ []) ≡ xs
  filtered_last [] last are unended = rw unended refl
  filtered_last (e ∷ xs) last are unended = rw are.0 (ap (λ (l : Store C). e ∷ l) (filtered_last xs last are.1 unended))

  pub drop_start : (start store rest : Store C) → store ≡ start ++ rest → drop (length start) store ≡ rest
  drop_start start store rest is = ap (λ (l : Store C). drop (length start) l) is ∙ drop_at start rest (length start) refl

  -- a store with its last entry unfinished is on the way to itself
  pub own_between : (start store : Store C) (part : Option (Part C)) → IsOn start store part → IsBetween (complete_behind start store) start store store
  own_between start store None on =
      let count : filter is_complete (drop (length start) store) ≡ on.complete = ap (filter is_complete) (drop_start start store on.complete on.is) ∙ filtered_all on.complete on.are in
      record {
        complete = on.complete;
        others = [];
        all = on.is ∙ ap (λ (l : Store C). start ++ l) (sym (append-nil on.complete));
        are = on.are;
        enough = omega (arith, ap length count);
        is = inl on.is;
      }
  own_between start store (Some part) on =
      let count : filter is_complete (drop (length start) store) ≡ on.complete =
      ap (filter is_complete) (drop_start start store (on.complete ++ on.last ∷ []) on.is) ∙ filtered_last on.complete on.last on.are (ap is_some on.is_open) in
      let same : on.last ≡ as_begun on.last = λ i. record { name = on.last.name; key = on.last.key; parent = on.last.parent; contents = on.is_open i } in
      record {
        complete = on.complete;
        others = on.last ∷ [];
        all = on.is;
        are = on.are;
        enough = omega (arith, ap length count);
        is = inr (on.is ∙ sym (append_assoc start on.complete (on.last ∷ [])) ∙ ap (λ (e : Entry (Subvolume C)). (start ++ on.complete) ++ e ∷ []) same);
      }

  -- A store on the way to an end, with all parts complete that are complete in it.
  abbrev pub IsPassed : Store C → Store C → Store C → Type 0
  IsPassed start end now = IsBetween (complete_behind start now) start end now

  pub on_way : (start store : Store C) (part : Option (Part C)) (end : Store C) → IsOn start store part → Goes start store end → IsPassed start end store
  on_way start store part end on goes = between_goes (complete_behind start store) start store end store goes (own_between start store part on)

  -- ---- items

  module _ (zero_cell : C) (cells : Item → List C) where
    abbrev pub does : State C → Item → After (State C)
    does s item = step zero_cell (cells item) s item.command

    abbrev pub run_from : Watched (State C) → List Item → Ran (Watched (State C))
    run_from w items = run_by (watched_step does) w items

    pub item_on : (start : Store C) (w : Watched (State C)) (item : Item) → IsOn start w.state.store w.state.part → Leads start w.state (watched_step does w item).state.state
    item_on start w item on = subst (λ (a : After (Watched (State C))). Leads start w.state a.state.state) (sym (looks_are (State C) does w item)) (one (guarded w.guards item.command))
      where
        one : (o : Option Refusal) → Leads start w.state (after_looks (State C) does w item o).state.state
        one None = step_on zero_cell (cells item) start w.state.store w.state.part item.command on
        one (Some refusal) = (on, stays start w.state.store w.state.part on)

    pub run_on : (start : Store C) (w : Watched (State C)) (items : List Item) → IsOn start w.state.store w.state.part → Leads start w.state (run_from w items).state.state
    unfolding run_by
    run_on start w [] on = (on, stays start w.state.store w.state.part on)
    run_on start w (item ∷ items) on =
        let after : After (Watched (State C)) = watched_step does w item in
        let first = item_on start w item on in
        one after.state after.refusal first (run_on start after.state items first.0)
      where
        one : (next : Watched (State C)) (o : Option Refusal) → Leads start w.state next.state → Leads start next.state (run_from next items).state.state → Leads start w.state (then_run item (record { state = next; refusal = o }) (run_from next items)).state.state
        one next None first more = (more.0, goes_twice start w.state.store next.state.store (run_from next items).state.state.store first.1 more.1)
        one next (Some refusal) first more = first

    longer : (start : Store C) (w : Watched (State C)) (items more : List Item) → IsOn start w.state.store w.state.part → Goes start (run_from w items).state.state.store (run_from w (items ++ more)).state.state.store
    unfolding run_by
    longer start w [] more on = (run_on start w more on).1
    longer start w (item ∷ items) more on =
        let after : After (Watched (State C)) = watched_step does w item in
        let first = item_on start w item on in
        one after.state after.refusal first (longer start after.state items more first.0)
      where
        one : (next : Watched (State C)) (o : Option Refusal) → Leads start w.state next.state → Goes start (run_from next items).state.state.store (run_from next (items ++ more)).state.state.store
            → Goes start (then_run item (record { state = next; refusal = o }) (run_from next items)).state.state.store (then_run item (record { state = next; refusal = o }) (run_from next (items ++ more))).state.state.store
        one next None first rest = rest
        one next (Some refusal) first rest = stays start next.state.store next.state.part first.0

    -- one item more of those that are all taken
    one_more : (w : Watched (State C)) (items : List Item) (item : Item) → (run_from w items).refused ≡ None → (run_from w (items ++ item ∷ [])).state ≡ (watched_step does (run_from w items).state item).state
    unfolding run_by
    one_more w [] item taken = one (watched_step does w item).refusal
      where
        one : (o : Option Refusal) → (then_run item (record { state = (watched_step does w item).state; refusal = o }) (record { state = (watched_step does w item).state; refused = None })).state ≡ (watched_step does w item).state
        one None = refl
        one (Some refusal) = refl
    one_more w (first ∷ items) item taken =
        let after : After (Watched (State C)) = watched_step does w first in
        one after.state after.refusal taken (λ q. one_more after.state items item q)
      where
        one : (next : Watched (State C)) (o : Option Refusal) → (then_run first (record { state = next; refusal = o }) (run_from next items)).refused ≡ None
            → ((run_from next items).refused ≡ None → (run_from next (items ++ item ∷ [])).state ≡ (watched_step does (run_from next items).state item).state)
            → (then_run first (record { state = next; refusal = o }) (run_from next (items ++ item ∷ []))).state ≡ (watched_step does (then_run first (record { state = next; refusal = o }) (run_from next items)).state item).state
        one next None t more = more t
        one next (Some refusal) t more = cc

    -- ---- receiving

    pub start_closed : (start : Store C) → IsClosed start start
    start_closed start = record { complete = []; is = sym (append-nil start); are = tt }

    pub more_states : (least : ℕ) (store : Store C) (guards : List Guard) (items more : List Item) (now : Store C)
        → IsBetween least store (received zero_cell cells store guards items).state.state.store now → IsBetween least store (received zero_cell cells store guards (items ++ more)).state.state.store now
    unfolding received
    more_states least store guards items more now b =
        let w : Watched (State C) = record { guards = guards; state = start_of store } in
        between_goes least store (run_from w items).state.state.store (run_from w (items ++ more)).state.state.store now (longer store w items more (start_closed store)) b

    pub own_state : (store : Store C) (guards : List Guard) (items : List Item) → let after = (received zero_cell cells store guards items).state.state.store in IsBetween (complete_behind store after) store after after
    unfolding received
    own_state store guards items =
        let w : Watched (State C) = record { guards = guards; state = start_of store } in
        let end : State C = (run_from w items).state.state in
        own_between store end.store end.part (run_on store w items (start_closed store)).0

    pub first_state : (store : Store C) (guards : List Guard) (items : List Item) → IsBetween 0 store (received zero_cell cells store guards items).state.state.store store
    unfolding received
    first_state store guards items =
        let w : Watched (State C) = record { guards = guards; state = start_of store } in
        let goes = (run_on store w items (start_closed store)).1 in
        record { complete = []; others = goes.after; all = goes.new_is; are = tt; enough = omega arith; is = inl (sym (append-nil store)) }

    -- what a head or END completes that no guard refuses, before it does anything else
    pub completed_state : (store : Store C) (guards : List Guard) (items : List Item) (item : Item) → let before = (received zero_cell cells store guards items).state in
        (received zero_cell cells store guards items).refused ≡ None → guarded before.guards item.command ≡ None → is_edit item.command ≡ false
        → IsBetween (complete_behind store (completed before.state)) store (received zero_cell cells store guards (items ++ item ∷ [])).state.state.store (completed before.state)
    unfolding received
    completed_state store guards items item taken free ends =
        let w : Watched (State C) = record { guards = guards; state = start_of store } in
        let before : Watched (State C) = (run_from w items).state in
        let whole : Store C = completed before.state in
        let on = (run_on store w items (start_closed store)).0 in
        let done = completed_on store before.state.store before.state.part on in
        let after : (run_from w (items ++ item ∷ [])).state ≡ (after_looks (State C) does before item None).state =
        one_more w items item taken ∙ ap (λ (a : After (Watched (State C))). a.state) (looks_are (State C) does before item ∙ ap (after_looks (State C) does before item) free) in
        let next : Store C = (does before.state item).state.store in
        subst (λ (x : Watched (State C)). IsBetween (complete_behind store whole) store x.state.store whole) (sym after)
        (between_goes (complete_behind store whole) store whole next whole (completes zero_cell (cells item) store before.state.store before.state.part item.command ends on) (own_between store whole None done.0))
