-- Groups make the same store over other cells: each cell is replaced by what a function makes of
-- it.
use Rattle.std.specs.Prelude.{◌≡◌, ℕ, ◌+◌, Bool, true, false, cond, ◌&&◌, not, List, [], ◌∷◌, length, map, Option, None, Some, Result, Ok, Err, is_none, if◌then◌else◌}
use Rattle.std.specs.List.{filter}
use Rattle.std.specs.Option.{option_map}
use Rattle.std.specs.Str.{bytes_eq}
use Rattle.std.proofs.Common.{refl, sym, ap, ◌∙◌}
use Rattle.send_model.specs.Refusal.{Refusal}
use Rattle.send_model.specs.Command.{Command}
use Rattle.send_model.specs.Spelling.{canonical, attributes_of}
use Rattle.send_model.specs.Reading.{data_place}
use Rattle.send_model.specs.Subvolume.{Subvolume}
use Rattle.send_model.specs.Store.{Head, Entry, Store, State, Stepped, has_name, start_from, completed, head_of, step_edit, step_head}
use Rattle.send_model.specs.Receive.{bytes_of, start_of}
use Rattle.send_model.specs.Cells.{recelled, recelled_result, recelled_entry, recelled_store, recelled_state, recelled_step}
use Rattle.send_model.proofs.CellSteps.{step_head-cells, has_name-cells, completed-cells, start_cells}
use Rattle.send_model.proofs.CellClones.{any_edit}
use Rattle.store_model.specs.Stored.{Content, Mark, Body, Drop, Group, body_bytes, Putting, taken, marked, unfinished_at, started, resumed, edits_made, dropped, frames_at, made, body_at, made_all}

module _ {C D : Type 0} (f : C → D) where
  -- ---- one group

  taken_cells : (s : Stepped C) → taken (recelled_step f s) ≡ option_map (recelled_state f) (taken s)
  taken_cells s = one s.refusal
    where
      one : (o : Option Refusal) → (elim o as (λ x. Option (State D)) [ None ↦ Some (recelled_state f s.state) | Some refusal ↦ None ]) ≡ option_map (recelled_state f) (elim o as (λ x. Option (State C)) [ None ↦ Some s.state | Some refusal ↦ None ])
      one None = refl
      one (Some refusal) = refl

  marked-cells : (store : Store C) (command : Command) → marked (recelled_store f store) command ≡ option_map (recelled_store f) (marked store command)
  unfolding marked
  marked-cells store command = one (head_of command)
    where
      two : (o : Option (State C)) → option_map (λ state. state.store) (option_map (recelled_state f) o) ≡ option_map (recelled_store f) (option_map (λ state. state.store) o)
      two None = refl
      two (Some state) = refl

      one : (o : Option Head) → (elim o as (λ x. Option (Store D)) [ None ↦ None | Some head ↦ option_map (λ state. state.store) (taken (step_head (start_of (recelled_store f store)) head)) ])
          ≡ option_map (recelled_store f) (elim o as (λ x. Option (Store C)) [ None ↦ None | Some head ↦ option_map (λ state. state.store) (taken (step_head (start_of store) head)) ])
      one None = refl
      one (Some head) =
          ap (λ (s : Stepped D). option_map (λ state. state.store) (taken s)) (step_head-cells f (start_of store) head)
          ∙ ap (λ (o : Option (State D)). option_map (λ state. state.store) o) (taken_cells (step_head (start_of store) head))
          ∙ two (taken (step_head (start_of store) head))

  unfinished_at-cells : (uuid : List ℕ) (store : Store C) → unfinished_at uuid (recelled_store f store) ≡ option_map (recelled_entry f) (unfinished_at uuid store)
  unfolding unfinished_at
  unfinished_at-cells uuid [] = refl
  unfinished_at-cells uuid (e ∷ store) = one e.contents (bytes_eq e.key.uuid uuid) (unfinished_at-cells uuid store)
    where
      none_same : (o : Option (Subvolume C)) → is_none (option_map (recelled f) o) ≡ is_none o
      none_same None = refl
      none_same (Some s) = refl

      two : (b : Bool) → unfinished_at uuid (recelled_store f store) ≡ option_map (recelled_entry f) (unfinished_at uuid store) → (if b then Some (recelled_entry f e) else unfinished_at uuid (recelled_store f store)) ≡ option_map (recelled_entry f) (if b then Some e else unfinished_at uuid store)
      two true more = refl
      two false more = more

      one : (o : Option (Subvolume C)) (b : Bool) → unfinished_at uuid (recelled_store f store) ≡ option_map (recelled_entry f) (unfinished_at uuid store)
          → (if b && is_none (option_map (recelled f) o) then Some (recelled_entry f e) else unfinished_at uuid (recelled_store f store)) ≡ option_map (recelled_entry f) (if b && is_none o then Some e else unfinished_at uuid store)
      one o b more = ap (λ (n : Bool). if b && n then Some (recelled_entry f e) else unfinished_at uuid (recelled_store f store)) (none_same o) ∙ two (b && is_none o) more

  resumed-cells : (store : Store C) (uuid : List ℕ) → resumed (recelled_store f store) uuid ≡ option_map (recelled_state f) (resumed store uuid)
  unfolding resumed
  resumed-cells store uuid =
      ap (λ (o : Option (Entry (Subvolume D))). elim o as (λ x. Option (State D)) [ None ↦ None | Some e ↦ started (recelled_store f store) e ]) (unfinished_at-cells uuid store)
      ∙ one (unfinished_at uuid store)
    where
      three : (e : Entry (Subvolume C)) (r : Result (Subvolume C) Refusal) → (elim (recelled_result f r) as (λ x. Option (State D)) [
        | Err refusal ↦ None
        | Ok start ↦ Some (record { store = recelled_store f store; part = Some (record { key = e.key; subvolume = start }) })
      ]) ≡ option_map (recelled_state f) (elim r as (λ x. Option (State C)) [
        | Err refusal ↦ None
        | Ok start ↦ Some (record { store = store; part = Some (record { key = e.key; subvolume = start }) })
      ])
      three e (Ok start) = refl
      three e (Err refusal) = refl

      two : (e : Entry (Subvolume C)) → started (recelled_store f store) (recelled_entry f e) ≡ option_map (recelled_state f) (started store e)
      two e =
          ap (λ (r : Result (Subvolume D) Refusal). elim r as (λ x. Option (State D)) [
            | Err refusal ↦ None
            | Ok start ↦ Some (record { store = recelled_store f store; part = Some (record { key = e.key; subvolume = start }) })
          ]) (start_cells f store e.parent) ∙ three e (start_from store e.parent)

      one : (o : Option (Entry (Subvolume C))) → (elim (option_map (recelled_entry f) o) as (λ x. Option (State D)) [ None ↦ None | Some e ↦ started (recelled_store f store) e ]) ≡ option_map (recelled_state f) (elim o as (λ x. Option (State C)) [ None ↦ None | Some e ↦ started store e ])
      one None = refl
      one (Some e) = two e

  -- ---- what is put

  module _ (zero_cell : C) (put : Putting C) (put' : Putting D) where
    -- what is put by a command whose frame stands at a place is the same through the function
    abbrev pub IsPutSame : ℕ → ℕ → Command → Type 0
    IsPutSame version place c = map f (put (data_place version place (attributes_of c)) (bytes_of c)) ≡ put' (data_place version place (attributes_of c)) (bytes_of c)

    abbrev pub ArePutSame : ℕ → ℕ → List Command → Type 0
    ArePutSame version place [] = Unit {0}
    ArePutSame version place (c ∷ commands) = IsPutSame version place c × ArePutSame version (place + length (canonical version c)) commands

    abbrev pub PutsSame : ℕ → Content → Type 0
    PutsSame place (Mark head) = Unit {0}
    PutsSame place (Body uuid version commands) = ArePutSame version (frames_at place) commands
    PutsSame place (Drop name) = Unit {0}

    abbrev pub AllPutSame : ℕ → List Group → Type 0
    AllPutSame gate [] = Unit {0}
    AllPutSame gate (group ∷ groups) = PutsSame (body_at gate) group.content × AllPutSame (body_at gate + length (body_bytes group)) groups

    pub edits_made-cells : (version place : ℕ) (state : State C) (commands : List Command) → ArePutSame version place commands
        → edits_made (f zero_cell) put' version place (recelled_state f state) commands ≡ option_map (recelled_state f) (edits_made zero_cell put version place state commands)
    unfolding edits_made
    edits_made-cells version place state [] same = refl
    edits_made-cells version place state (c ∷ commands) same =
        let at : ℕ = data_place version place (attributes_of c) in
        let next : ℕ = place + length (canonical version c) in
        let after : Stepped C = step_edit zero_cell (put at (bytes_of c)) state c in
        let on : Option (State D) → Option (State D) = λ o. elim o as (λ x. Option (State D)) [ None ↦ None | Some middle ↦ edits_made (f zero_cell) put' version next middle commands ] in
        ap (λ (cells : List D). on (taken (step_edit (f zero_cell) cells (recelled_state f state) c))) (sym same.0)
        ∙ ap (λ (s : Stepped D). on (taken s)) (any_edit f zero_cell (put at (bytes_of c)) state c)
        ∙ ap on (taken_cells after)
        ∙ one next (taken after) (λ middle. edits_made-cells version next middle commands same.1)
      where
        one : (next : ℕ) (o : Option (State C)) → ((middle : State C) → edits_made (f zero_cell) put' version next (recelled_state f middle) commands ≡ option_map (recelled_state f) (edits_made zero_cell put version next middle commands))
            → (elim (option_map (recelled_state f) o) as (λ x. Option (State D)) [ None ↦ None | Some middle ↦ edits_made (f zero_cell) put' version next middle commands ])
            ≡ option_map (recelled_state f) (elim o as (λ x. Option (State C)) [ None ↦ None | Some middle ↦ edits_made zero_cell put version next middle commands ])
        one next None more = refl
        one next (Some middle) more = more middle

    body-cells : (place : ℕ) (store : Store C) (uuid : List ℕ) (version : ℕ) (commands : List Command) → ArePutSame version (frames_at place) commands
        → made (f zero_cell) put' place (recelled_store f store) (Body uuid version commands) ≡ option_map (recelled_store f) (made zero_cell put place store (Body uuid version commands))
    unfolding made
    body-cells place store uuid version commands same =
        ap (λ (o : Option (State D)). elim o as (λ x. Option (Store D)) [ None ↦ None | Some state ↦ option_map completed (edits_made (f zero_cell) put' version (frames_at place) state commands) ]) (resumed-cells store uuid)
        ∙ one (resumed store uuid)
      where
        two : (o : Option (State C)) → option_map completed (option_map (recelled_state f) o) ≡ option_map (recelled_store f) (option_map completed o)
        two None = refl
        two (Some state) = ap Some (completed-cells f state)

        one : (o : Option (State C)) → (elim (option_map (recelled_state f) o) as (λ x. Option (Store D)) [ None ↦ None | Some state ↦ option_map completed (edits_made (f zero_cell) put' version (frames_at place) state commands) ])
            ≡ option_map (recelled_store f) (elim o as (λ x. Option (Store C)) [ None ↦ None | Some state ↦ option_map completed (edits_made zero_cell put version (frames_at place) state commands) ])
        one None = refl
        one (Some state) = ap (λ (o : Option (State D)). option_map completed o) (edits_made-cells version (frames_at place) state commands same) ∙ two (edits_made zero_cell put version (frames_at place) state commands)

    filtered : (name : List ℕ) (store : Store C) → filter (λ e. not (bytes_eq e.name name)) (recelled_store f store) ≡ recelled_store f (filter (λ e. not (bytes_eq e.name name)) store)
    filtered name [] = refl
    filtered name (e ∷ store) = one (not (bytes_eq e.name name)) (filtered name store)
      where
        one : (b : Bool) → filter (λ x. not (bytes_eq x.name name)) (recelled_store f store) ≡ recelled_store f (filter (λ x. not (bytes_eq x.name name)) store)
            → cond b (recelled_entry f e ∷ filter (λ x. not (bytes_eq x.name name)) (recelled_store f store)) (filter (λ x. not (bytes_eq x.name name)) (recelled_store f store))
            ≡ recelled_store f (cond b (e ∷ filter (λ x. not (bytes_eq x.name name)) store) (filter (λ x. not (bytes_eq x.name name)) store))
        one true more = ap (λ (r : Store D). recelled_entry f e ∷ r) more
        one false more = more

    dropped-cells : (store : Store C) (name : List ℕ) → dropped (recelled_store f store) name ≡ option_map (recelled_store f) (dropped store name)
    unfolding dropped
    dropped-cells store name =
        ap (λ (b : Bool). if b then Some (filter (λ e. not (bytes_eq e.name name)) (recelled_store f store)) else None) (has_name-cells f name store)
        ∙ one (has_name name store)
      where
        one : (b : Bool) → (if b then Some (filter (λ e. not (bytes_eq e.name name)) (recelled_store f store)) else None)
            ≡ option_map (recelled_store f) (if b then Some (filter (λ e. not (bytes_eq e.name name)) store) else None)
        one true = ap Some (filtered name store)
        one false = refl

    pub made-cells : (place : ℕ) (store : Store C) (content : Content) → PutsSame place content
        → made (f zero_cell) put' place (recelled_store f store) content ≡ option_map (recelled_store f) (made zero_cell put place store content)
    unfolding made
    made-cells place store (Mark head) same = marked-cells store head
    made-cells place store (Body uuid version commands) same = body-cells place store uuid version commands same
    made-cells place store (Drop name) same = dropped-cells store name

    pub made_all-cells : (gate : ℕ) (store : Store C) (groups : List Group) → AllPutSame gate groups
        → made_all (f zero_cell) put' gate (recelled_store f store) groups ≡ option_map (recelled_store f) (made_all zero_cell put gate store groups)
    unfolding made_all
    made_all-cells gate store [] same = refl
    made_all-cells gate store (group ∷ groups) same =
        let next : ℕ = body_at gate + length (body_bytes group) in
        ap (λ (o : Option (Store D)). elim o as (λ x. Option (Store D)) [ None ↦ None | Some s ↦ made_all (f zero_cell) put' next s groups ]) (made-cells (body_at gate) store group.content same.0)
        ∙ one next (made zero_cell put (body_at gate) store group.content) (λ s. made_all-cells next s groups same.1)
      where
        one : (next : ℕ) (o : Option (Store C)) → ((s : Store C) → made_all (f zero_cell) put' next (recelled_store f s) groups ≡ option_map (recelled_store f) (made_all zero_cell put next s groups))
            → (elim (option_map (recelled_store f) o) as (λ x. Option (Store D)) [ None ↦ None | Some s ↦ made_all (f zero_cell) put' next s groups ])
            ≡ option_map (recelled_store f) (elim o as (λ x. Option (Store C)) [ None ↦ None | Some s ↦ made_all zero_cell put next s groups ])
        one next None more = refl
        one next (Some s) more = more s

    -- what is put anywhere is the same through the function
    module _ (same : (place : ℕ) (bytes : List ℕ) → map f (put place bytes) ≡ put' place bytes) where
      edits_put_same : (version place : ℕ) (commands : List Command) → ArePutSame version place commands
      edits_put_same version place [] = tt
      edits_put_same version place (c ∷ commands) = (same (data_place version place (attributes_of c)) (bytes_of c), edits_put_same version (place + length (canonical version c)) commands)

      puts_same : (place : ℕ) (content : Content) → PutsSame place content
      puts_same place (Mark head) = tt
      puts_same place (Body uuid version commands) = edits_put_same version (frames_at place) commands
      puts_same place (Drop name) = tt

      pub all_put_same : (gate : ℕ) (groups : List Group) → AllPutSame gate groups
      all_put_same gate [] = tt
      all_put_same gate (group ∷ groups) = (puts_same (body_at gate) group.content, all_put_same (body_at gate + length (body_bytes group)) groups)
