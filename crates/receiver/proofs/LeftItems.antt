-- The first groups that an item brings make what some items leave: none, END in its place, or the
-- item itself.
use Rattle.std.specs.Prelude.{◌≡◌, ◌⊎◌, ℕ, ◌+◌, Bool, true, false, List, [], ◌∷◌, ◌++◌, Option, None, Some, if◌then◌else◌}
use Rattle.std.proofs.Common.{inl, inr, refl, sym, ap, subst, ◌∙◌, append-nil}
use Rattle.send_model.specs.Refusal as meant
use Rattle.send_model.specs.Command.{Command, Subvol, Snapshot, End}
use Rattle.send_model.specs.Reading.{Item}
use Rattle.send_model.specs.Store.{Head, Store, State, After, head_of, completed, step}
use Rattle.send_model.specs.Receive.{run_by, then_run, byte_cells}
use Rattle.send_model.specs.Guards.{Guard, Watched, seen, Another, refuses, guard_refuses, refused_from, guarded}
use Rattle.send_model.proofs.Guarding.{after_looks, looks_are}
use Rattle.store_model.specs.Stored.{Group, is_edit}
use Rattle.store_model.specs.Written.{Begun, mark_of, closed, closed_by, begun_by, groups_from}
use Rattle.store_model.specs.States.{lines_behind}
use Rattle.store_model.proofs.PassedStates.{IsOn}
use Rattle.store_model.proofs.WrittenGroups.{head_fact}
use Rattle.receiver.specs.Steps.{begun_if}
use Rattle.receiver.specs.Running.{byte_step}
use Rattle.receiver.proofs.PrintedLines.{PartLine, item_lines}

-- ---- guards look at a head as at END

alike : (place : ℕ) (guards : List Guard) (c d : Command) → seen c ≡ seen d → refused_from place guards c ≡ refused_from place guards d
unfolding refused_from guard_refuses
alike place [] c d same = refl
alike place (guard ∷ guards) c d same =
    let by : Bool → Option meant.Refusal → Option meant.Refusal = λ refused later. if refused then Some (meant.Guarded place guard.used) else later in
    λ i. by (refuses guard.spec guard.used (same i)) (alike (place + 1) guards c d same i)

head_seen : (c : Command) (head : Head) → head_of c ≡ Some head → seen c ≡ Another
head_seen (Subvol uuid ctransid path) head is = refl
head_seen (Snapshot uuid ctransid path clone_uuid clone_ctransid) head is = refl
head_seen c head is = cc

-- END in the place of an item.
abbrev pub as_end : Item → Item
as_end item = record item { command = End }

end_alike : (guards : List Guard) (c : Command) (head : Head) → head_of c ≡ Some head → guarded guards End ≡ guarded guards c
end_alike guards c head is = alike 0 guards End c (sym (head_seen c head is))

-- What one item leaves.
pub run_one : (w : Watched (State ℕ)) (item : Item) → (run_by byte_step w (item ∷ [])).state ≡ (byte_step w item).state
unfolding run_by
run_one w item = one (byte_step w item).state (byte_step w item).refusal
  where
    one : (s : Watched (State ℕ)) (o : Option meant.Refusal) → (then_run item (record { state = s; refusal = o }) (record { state = s; refused = None })).state ≡ s
    one s None = refl
    one s (Some refusal) = refl

module _ (w : Watched (State ℕ)) (item : Item) where
  -- A command that is not refused was not refused by a guard.
  pub not_guarded : (byte_step w item).refusal ≡ None → guarded w.guards item.command ≡ None
  not_guarded none = one (guarded w.guards item.command) (sym (ap (λ (a : After (Watched (State ℕ))). a.refusal) (looks_are (State ℕ) (λ s i. step 0 (byte_cells i) s i.command) w item)) ∙ none)
    where
      one : (o : Option meant.Refusal) → (after_looks (State ℕ) (λ s i. step 0 (byte_cells i) s i.command) w item o).refusal ≡ None → o ≡ None
      one None e = refl
      one (Some refusal) e = cc

  module _ (begun : Option Begun) where
    -- The groups that it brings.
    pub groups_one : groups_from w begun (item ∷ []) ≡ closed_by w.guards item.command begun ++ begun_if (byte_step w item) item.command
    unfolding groups_from
    groups_one = ap (λ (l : List Group). closed_by w.guards item.command begun ++ l) (one (byte_step w item).refusal)
      where
        one : (o : Option meant.Refusal) → (elim o as (λ x. List Group) [ Some refusal ↦ [] | None ↦ begun_by item.command ++ [] ]) ≡ (elim o as (λ x. List Group) [ Some refusal ↦ [] | None ↦ begun_by item.command ])
        one None = append-nil (begun_by item.command)
        one (Some refusal) = refl

    -- Of a head that is not refused, END closes what it closes.
    pub groups_end : (head : Head) → head_of item.command ≡ Some head → guarded w.guards item.command ≡ None → groups_from w begun (as_end item ∷ []) ≡ closed_by w.guards item.command begun
    unfolding groups_from
    groups_end head is none =
        let free : guarded w.guards End ≡ None = end_alike w.guards item.command head is ∙ none in
        let over : Bool → Option meant.Refusal → List Group = λ edits o. if edits then [] else (elim o as (λ x. List Group) [ Some refusal ↦ [] | None ↦ closed begun ]) in
        let more : Option meant.Refusal → List Group = λ o. elim o as (λ x. List Group) [ Some refusal ↦ [] | None ↦ [] ] in
        let nothing : (o : Option meant.Refusal) → more o ≡ [] = λ o. one o in
        (λ i. over false (free i) ++ nothing (byte_step w (as_end item)).refusal i) ∙ append-nil (closed begun)
        ∙ (λ i. over (sym (head_fact item.command head is) i) (sym none i))
      where
        one : (o : Option meant.Refusal) → ◌≡◌ {A = List Group} (elim o as (λ x. List Group) [ Some refusal ↦ [] | None ↦ [] ]) []
        one None = refl
        one (Some refusal) = refl

  -- What END leaves in its place.
  pub end_state : (head : Head) → head_of item.command ≡ Some head → guarded w.guards item.command ≡ None → (run_by byte_step w (as_end item ∷ [])).state.state.store ≡ completed w.state
  unfolding run_by step
  end_state head is none =
      let free : guarded w.guards End ≡ None = end_alike w.guards item.command head is ∙ none in
      let does : State ℕ → Item → After (State ℕ) = λ s i. step 0 (byte_cells i) s i.command in
      let after : byte_step w (as_end item) ≡ after_looks (State ℕ) does w (as_end item) None = looks_are (State ℕ) does w (as_end item) ∙ ap (after_looks (State ℕ) does w (as_end item)) free in
      ap (λ (s : Watched (State ℕ)). s.state.store) (run_one w (as_end item)) ∙ ap (λ (a : After (Watched (State ℕ))). a.state.state.store) after

-- ---- what is brought

-- It begins nothing, or it is a head that is taken.
pub begins_shape : (w : Watched (State ℕ)) (item : Item) → (begun_if (byte_step w item) item.command ≡ [])
    ⊎ ((head : Head) × (head_of item.command ≡ Some head) × ((byte_step w item).refusal ≡ None) × (begun_if (byte_step w item) item.command ≡ mark_of item.command ∷ []))
begins_shape w item = one (byte_step w item).refusal refl (head_of item.command) refl
  where
    by : Option meant.Refusal → Option Head → List Group
    by r o = elim r as (λ x. List Group) [ Some refusal ↦ [] | None ↦ elim o as (λ x. List Group) [ None ↦ [] | Some head ↦ mark_of item.command ∷ [] ] ]

    one : (r : Option meant.Refusal) → (byte_step w item).refusal ≡ r → (o : Option Head) → head_of item.command ≡ o → (begun_if (byte_step w item) item.command ≡ [])
        ⊎ ((head : Head) × (head_of item.command ≡ Some head) × ((byte_step w item).refusal ≡ None) × (begun_if (byte_step w item) item.command ≡ mark_of item.command ∷ []))
    one (Some refusal) e o is = inl (λ i. by (e i) (head_of item.command))
    one None e None is = inl (λ i. by (e i) (is i))
    one None e (Some head) is = inr (head, is, e, λ i. by (e i) (is i))

-- It closes nothing, or one part.
pub closes_shape : (guards : List Guard) (c : Command) (begun : Option Begun) → (closed_by guards c begun ≡ []) ⊎ ((group : Group) × (closed_by guards c begun ≡ group ∷ []))
closes_shape guards c begun = one (is_edit c) (guarded guards c) begun
  where
    one : (edits : Bool) (o : Option meant.Refusal) (b : Option Begun) → let all : List Group = if edits then [] else (elim o as (λ x. List Group) [ Some refusal ↦ [] | None ↦ closed b ]) in (all ≡ []) ⊎ ((group : Group) × (all ≡ group ∷ []))
    one true o b = inl refl
    one false (Some refusal) b = inl refl
    one false None None = inl refl
    one false None (Some b) = inr (_, refl)

-- The first of one are none or that one.
pub first_of_one : (group : Group) (first more : List Group) → group ∷ [] ≡ first ++ more → (first ≡ []) ⊎ (first ≡ group ∷ [])
first_of_one group [] more is = inl refl
first_of_one group (x ∷ []) more is = inr cc
first_of_one group (x ∷ y ∷ first) more is = cc

-- ---- the items that they stand for

module _ (base : Store ℕ) (w : Watched (State ℕ)) (item : Item) (line : List ℕ) (on : IsOn base w.state.store w.state.part) (l : PartLine w.state.part w.state.store line) where
  -- The line that an item brings under guards.
  abbrev pub brought : Item → List ℕ
  brought i = elim (guarded w.guards i.command) [ Some refusal ↦ [] | None ↦ if is_edit i.command then [] else line ]

  pub printed : (i : Item) → lines_behind base (run_by byte_step w (i ∷ [])).state.state.store ≡ lines_behind base w.state.store ++ brought i
  printed i = ap (λ (s : Watched (State ℕ)). lines_behind base s.state.store) (run_one w i) ∙ item_lines base w i line on l

  pub end_brings : (head : Head) → head_of item.command ≡ Some head → brought (as_end item) ≡ brought item
  end_brings head is =
      let by : Option meant.Refusal → Bool → List ℕ = λ o edits. elim o as (λ x. List ℕ) [ Some refusal ↦ [] | None ↦ if edits then [] else line ] in
      λ i. by (end_alike w.guards item.command head is i) (sym (head_fact item.command head is) i)

  module _ (begun : Option Begun) where
    abbrev Stand : List Group → List ℕ → Type 0
    Stand groups lines = (items : List Item) × (groups_from w begun items ≡ groups) × (lines_behind base (run_by byte_step w items).state.state.store ≡ lines_behind base w.state.store ++ lines)

    itself : Stand (closed_by w.guards item.command begun ++ begun_if (byte_step w item) item.command) (brought item)
    itself = (item ∷ [], groups_one w item begun, printed item)

    -- The part that it closes is there, and the first of what it begins.
    pub closed_first : (first more : List Group) → begun_if (byte_step w item) item.command ≡ first ++ more → Stand (closed_by w.guards item.command begun ++ first) (brought item)
    closed_first first more is = one (begins_shape w item)
      where
        closes : List Group
        closes = closed_by w.guards item.command begun

        begins : List Group
        begins = begun_if (byte_step w item) item.command

        moved : (groups : List Group) → begins ≡ groups → Stand (closes ++ groups) (brought item)
        moved groups e = subst (λ (l : List Group). Stand (closes ++ l) (brought item)) e itself

        empty : (xs ys : List Group) → [] ≡ xs ++ ys → xs ≡ []
        empty [] ys e = refl
        empty (x ∷ xs) ys e = cc

        one : (begins ≡ []) ⊎ ((head : Head) × (head_of item.command ≡ Some head) × ((byte_step w item).refusal ≡ None) × (begins ≡ mark_of item.command ∷ [])) → Stand (closes ++ first) (brought item)
        one (inl none) = moved first (none ∙ sym (empty first more (sym none ∙ is)))
        one (inr (head, is_head, taken, mark)) = two (first_of_one (mark_of item.command) first more (sym mark ∙ is))
          where
            two : (first ≡ []) ⊎ (first ≡ mark_of item.command ∷ []) → Stand (closes ++ first) (brought item)
            two (inl none) =
                let free = not_guarded w item taken in
                subst (λ (l : List Group). Stand (closes ++ l) (brought item)) (sym none) (
                  as_end item ∷ [],
                  groups_end w item begun head is_head free ∙ sym (append-nil closes),
                  printed (as_end item) ∙ ap (λ (l : List ℕ). lines_behind base w.state.store ++ l) (end_brings head is_head),
                )
            two (inr all) = moved first (mark ∙ sym all)

    -- Any first of what it closes and begins, with none of its line or all of it.
    pub any_first : (first more : List Group) → closed_by w.guards item.command begun ++ begun_if (byte_step w item) item.command ≡ first ++ more → (unwritten : List ℕ) × Stand first unwritten
    unfolding groups_from run_by
    any_first [] more is = ([], ([], refl, sym (append-nil (lines_behind base w.state.store))))
    any_first (x ∷ first) more is = one (closes_shape w.guards item.command begun)
      where
        closes : List Group
        closes = closed_by w.guards item.command begun

        begins : List Group
        begins = begun_if (byte_step w item) item.command

        one : (closes ≡ []) ⊎ ((group : Group) × (closes ≡ group ∷ [])) → (unwritten : List ℕ) × Stand (x ∷ first) unwritten
        one (inl none) =
            let s = closed_first (x ∷ first) more (ap (λ (l : List Group). l ++ begins) (sym none) ∙ is) in
            (brought item, (s.0, s.1 ∙ ap (λ (l : List Group). l ++ (x ∷ first)) none, s.2))
        one (inr (group, one_is)) =
            let all : group ∷ begins ≡ x ∷ (first ++ more) = ap (λ (l : List Group). l ++ begins) (sym one_is) ∙ is in
            let s = closed_first first more (ap rest_of all) in
            (brought item, (s.0, s.1 ∙ ap (λ (l : List Group). l ++ first) one_is ∙ ap (λ (g : Group). g ∷ first) (same_first all), s.2))
          where
            rest_of : List Group → List Group
            rest_of [] = []
            rest_of (y ∷ ys) = ys

            same_first : {g h : Group} {xs ys : List Group} → g ∷ xs ≡ h ∷ ys → g ≡ h
            same_first e = cc
