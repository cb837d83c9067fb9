-- A head that begins an entry, and the part that is taken up again from it.
use Rattle.std.proofs.Common.{◌≡◌, ℕ, Bool, true, false, ◌&&◌, ◌||◌, List, [], ◌∷◌, ◌++◌, Option, None, Some, Result, Ok, Err, is_none, if◌then◌else◌, refl, sym, ◌∙◌, ap}
use Rattle.std.specs.Str.{bytes_eq}
use Rattle.std.specs.Option.{option_map}
use Rattle.send_model.specs.Refusal.{Refusal, NoParent}
use Rattle.send_model.specs.Chain.{found}
use Rattle.send_model.specs.Command.{Command}
use Rattle.send_model.specs.Subvolume.{Subvolume}
use Rattle.send_model.specs.Store.{Key, same_key, Head, Entry, Store, Part, State, Stepped, has_uuid, find, start_from, begun, unfinished, completed, head_of, entered, step_head}
use Rattle.send_model.specs.Receive.{start_of}
use Rattle.send_model.proofs.Stores.{bytes_eq_same}
use Rattle.send_model.proofs.Merging.{begun_begins}
use Rattle.store_model.specs.Stored.{taken, marked, unfinished_at, started, resumed}

module _ {C : Type 0} where
  at_rest : (store : Store C) → store ≡ completed (start_of store)
  unfolding completed
  at_rest store = refl

  enter_taken : (state : State C) (store new : Store C) (head : Head) (part : Part C) → store ≡ completed state → begun store head ≡ Ok part.subvolume → part.key ≡ head.key → new ≡ store ++ unfinished head ∷ []
      → step_head state head ≡ record { state = record { store = new; part = Some part }; refusal = None }
  unfolding step_head
  enter_taken state store new head part e b k n =
      ap (λ (s : Store C). entered s head (begun s head)) (sym e) ∙ ap (entered store head) b
      ∙ (λ i. record { state = record { store = sym n i; part = Some (record { key = sym k i; subvolume = part.subvolume }) }; refusal = None })

  pub begun_marks : (store new : Store C) (c : Command) (head : Head) (part : Part C) → head_of c ≡ Some head → begun store head ≡ Ok part.subvolume → part.key ≡ head.key → new ≡ store ++ unfinished head ∷ [] → marked store c ≡ Some new
  unfolding marked
  begun_marks store new c head part h b k n =
      ap (λ (o : Option Head). elim o as (λ x. Option (Store C)) [ None ↦ None | Some head ↦ option_map (λ state. state.store) (taken (step_head (start_of store) head)) ]) h
      ∙ ap (λ (s : Stepped C). option_map (λ state. state.store) (taken s)) (enter_taken (start_of store) store new head part (at_rest store) b k n)

  find_last : (store : Store C) (head : Head) (key : Key) → find (store ++ unfinished head ∷ []) key ≡ find store key
  unfolding find
  find_last [] head key = by_test (same_key head.key key)
    where
      by_test : (b : Bool) → ◌≡◌ {A = Option (Subvolume C)} (if b then None else None) None
      by_test true = refl
      by_test false = refl
  find_last (e ∷ store) head key = ap (λ (o : Option (Subvolume C)). if same_key e.key key then (elim e.contents as (λ x. Option (Subvolume C)) [ None ↦ o | Some s ↦ Some s ]) else o) (find_last store head key)

  start_last : (store : Store C) (head : Head) (parent : Option Key) → start_from (store ++ unfinished head ∷ []) parent ≡ start_from store parent
  start_last store head None = refl
  start_last store head (Some key) = ap (λ (o : Option (Subvolume C)). found o NoParent) (find_last store head key)

  last_found : (store : Store C) (head : Head) → has_uuid head.key.uuid store ≡ false → unfinished_at head.key.uuid (store ++ unfinished head ∷ []) ≡ Some (unfinished head)
  unfolding unfinished_at
  last_found [] head h = ap (λ (b : Bool). if b && true then Some (unfinished head) else None) (bytes_eq_same head.key.uuid)
  last_found (e ∷ store) head h = by_test (last_found store head) (bytes_eq e.key.uuid head.key.uuid) h
    where
      by_test : (has_uuid head.key.uuid store ≡ false → unfinished_at head.key.uuid (store ++ unfinished head ∷ []) ≡ Some (unfinished head))
          → (b : Bool) → b || has_uuid head.key.uuid store ≡ false
          → (if b && is_none e.contents then Some e else unfinished_at head.key.uuid (store ++ unfinished head ∷ [])) ≡ Some (unfinished head)
      by_test ih true k = cc
      by_test ih false k = ih k

  pub begun_resumes : (store new : Store C) (head : Head) (part : Part C) → begun store head ≡ Ok part.subvolume → part.key ≡ head.key → new ≡ store ++ unfinished head ∷ []
      → resumed new part.key.uuid ≡ Some (record { store = new; part = Some part })
  unfolding resumed
  begun_resumes store new head part b k n =
      let begins = begun_begins store head part.subvolume b in
      let all : Store C = store ++ unfinished head ∷ [] in
      let found_it : unfinished_at part.key.uuid new ≡ Some (unfinished head) =
      ap (λ (u : List ℕ). unfinished_at u new) (ap (λ (key : Key). key.uuid) k) ∙ ap (unfinished_at head.key.uuid) n ∙ last_found store head begins.new_uuid in
      let start : start_from new head.parent ≡ Ok part.subvolume = ap (λ (s : Store C). start_from s head.parent) n ∙ start_last store head head.parent ∙ begins.from in
      ap (λ (o : Option (Entry (Subvolume C))). elim o as (λ x. Option (State C)) [ None ↦ None | Some e ↦ started new e ]) found_it
      ∙ ap (λ (r : Result (Subvolume C) Refusal). elim r as (λ x. Option (State C)) [ Err refusal ↦ None | Ok s ↦ Some (record { store = new; part = Some (record { key = head.key; subvolume = s }) }) ]) start
      ∙ (λ i. Some (record { store = new; part = Some (record { key = sym k i; subvolume = part.subvolume }) }))
