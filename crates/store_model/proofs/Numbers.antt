-- Each ctransid of a store is a number of eight bytes: a head says it in as many, and all other
-- groups keep it. So what is received has one line for each part that is complete.
use Rattle.std.specs.Prelude.{◌≡◌, ℕ, ◌+◌, ◌<◌, ◌^◌, Bool, true, false, not, List, [], ◌∷◌, length, drop, Option, None, Some, Result, Ok, Err, if◌then◌else◌}
use Rattle.std.specs.List.{AllByRecursion, filter}
use Rattle.std.specs.Option.{option_map}
use Rattle.std.specs.Str.{bytes_eq}
use Rattle.std.proofs.Common.{refl, sym, ap, subst, ◌∙◌}
use Rattle.send_model.specs.Refusal.{Refusal}
use Rattle.send_model.specs.Command.{Command, Subvol, Snapshot, row}
use Rattle.send_model.specs.Spelling.{attributes_of, canonical, IsSpellable}
use Rattle.send_model.specs.Reading.{data_place}
use Rattle.send_model.specs.Subvolume.{Subvolume}
use Rattle.send_model.specs.Store.{Head, Entry, Store, Part, State, Stepped, has_name, with_contents, start_from, completed, head_of, begun, unfinished, entered, edited, edit_part, step_head, step_edit}
use Rattle.send_model.specs.Receive.{bytes_of, start_of}
use Rattle.send_model.specs.Guards.{receive_watched}
use Rattle.send_model.proofs.Sorts.{same_inside}
use Rattle.send_model.proofs.Keeping.{all_filtered}
use Rattle.send_model.proofs.ElementLaws.{all_both, all_drop}
use Rattle.store_model.specs.Stored.{Content, Mark, Body, Drop, Group, body_bytes, IsContent, IsGroup, Putting, as_bytes, taken, marked, unfinished_at, started, resumed, edits_made, dropped, frames_at, made, body_at, made_all, first_gate}
use Rattle.store_model.specs.NamedFiles.{read_of}
use Rattle.store_model.specs.States.{is_complete, received, left_by, HasNumbers, lines_behind}
use Rattle.store_model.specs.Written.{groups_of}
use Rattle.store_model.specs.StoreLaws.{StoredHasNumbers}
use Rattle.store_model.specs.StateLaws.{ReceivedHasNumbers, PrintedAreParts}
use Rattle.store_model.proofs.WrittenGroups.{written_is_received}
use Rattle.store_model.proofs.WrittenLawful.{written_is_lawful}
use Rattle.store_model.proofs.CompleteLines.{lines_are_counted}

-- a head that version 1 can say
head_fits : (c : Command) (head : Head) → head_of c ≡ Some head → IsSpellable 1 c → head.key.ctransid < 2 ^ 64
unfolding row
head_fits (Subvol uuid ctransid path) head e s = let v = s.values in subst (λ (h : Head). h.key.ctransid < 2 ^ 64) (same_inside e) v.1.0
head_fits (Snapshot uuid ctransid path clone_uuid clone_ctransid) head e s = let v = s.values in subst (λ (h : Head). h.key.ctransid < 2 ^ 64) (same_inside e) v.1.0
head_fits c head e s = cc

module _ {C : Type 0} (zero_cell : C) (put : Putting C) where
  contents_keep : (uuid : List ℕ) (s : Subvolume C) (store : Store C) → HasNumbers store → HasNumbers (with_contents uuid s store)
  unfolding with_contents
  contents_keep uuid s [] h = tt
  contents_keep uuid s (e ∷ store) h = one (bytes_eq e.key.uuid uuid) (contents_keep uuid s store h.1)
    where
      one : (b : Bool) → HasNumbers (with_contents uuid s store) → HasNumbers (if b then record e { contents = Some s } ∷ store else e ∷ with_contents uuid s store)
      one true more = h
      one false more = (h.0, more)

  completed_keeps : (store : Store C) (part : Option (Part C)) → HasNumbers store → HasNumbers (completed (record { store = store; part = part }))
  unfolding completed
  completed_keeps store None h = h
  completed_keeps store (Some part) h = contents_keep part.key.uuid part.subvolume store h

  taken_is : (s : Stepped C) (state : State C) → taken s ≡ Some state → s.state ≡ state
  taken_is s state is = one s.refusal is
    where
      one : (o : Option Refusal) → (elim o as (λ x. Option (State C)) [ None ↦ Some s.state | Some refusal ↦ None ]) ≡ Some state → s.state ≡ state
      one None q = same_inside q
      one (Some refusal) q = cc

  entered_keeps : (store : Store C) (head : Head) (r : Result (Subvolume C) Refusal) → head.key.ctransid < 2 ^ 64 → HasNumbers store → HasNumbers (entered store head r).state.store
  entered_keeps store head (Err refusal) fits h = h
  entered_keeps store head (Ok start) fits h = all_both (λ e. e.key.ctransid < 2 ^ 64) store (unfinished head ∷ []) h (fits, tt)

  marked_keeps : (store next : Store C) (c : Command) → IsSpellable 1 c → HasNumbers store → marked store c ≡ Some next → HasNumbers next
  unfolding marked step_head completed
  marked_keeps store next c s h is = one (head_of c) refl is
    where
      two : (head : Head) → head.key.ctransid < 2 ^ 64 → (o : Option (State C)) → taken (entered store head (begun store head)) ≡ o → option_map (λ state. state.store) o ≡ Some next → HasNumbers next
      two head fits None t q = cc
      two head fits (Some state) t q =
          subst (λ (x : Store C). HasNumbers x) (ap (λ (x : State C). x.store) (taken_is (entered store head (begun store head)) state t) ∙ same_inside q)
          (entered_keeps store head (begun store head) fits h)

      one : (o : Option Head) → head_of c ≡ o → (elim o as (λ x. Option (Store C)) [ None ↦ None | Some head ↦ option_map (λ state. state.store) (taken (step_head (start_of store) head)) ]) ≡ Some next → HasNumbers next
      one None of q = cc
      one (Some head) of q = two head (head_fits c head of s) (taken (entered store head (begun store head))) refl q

  -- edits leave the store as it is
  edited_store : (store : Store C) (part : Part C) (r : Result (Subvolume C) Refusal) → (edited store part r).state.store ≡ store
  edited_store store part (Err refusal) = refl
  edited_store store part (Ok s) = refl

  edit_store : (cells : List C) (store : Store C) (part : Option (Part C)) (c : Command) → (step_edit zero_cell cells (record { store = store; part = part }) c).state.store ≡ store
  unfolding step_edit
  edit_store cells store None c = refl
  edit_store cells store (Some part) c = edited_store store part (edit_part zero_cell cells store part c)

  edits_store : (version place : ℕ) (state end : State C) (cs : List Command) → edits_made zero_cell put version place state cs ≡ Some end → end.store ≡ state.store
  unfolding edits_made
  edits_store version place state end [] is = ap (λ (x : State C). x.store) (sym (same_inside is))
  edits_store version place state end (c ∷ cs) is =
      let cells : List C = put (data_place version place (attributes_of c)) (bytes_of c) in
      let after : Stepped C = step_edit zero_cell cells state c in
      one after (edit_store cells state.store state.part c) (taken after) refl (λ next q. edits_store version (place + length (canonical version c)) next end cs q) is
    where
      one : (after : Stepped C) → after.state.store ≡ state.store → (o : Option (State C)) → taken after ≡ o
          → ((next : State C) → edits_made zero_cell put version (place + length (canonical version c)) next cs ≡ Some end → end.store ≡ next.store)
          → (elim o as (λ x. Option (State C)) [ None ↦ None | Some next ↦ edits_made zero_cell put version (place + length (canonical version c)) next cs ]) ≡ Some end → end.store ≡ state.store
      one after same None t more q = cc
      one after same (Some next) t more q = more next q ∙ ap (λ (x : State C). x.store) (sym (taken_is after next t)) ∙ same

  resumed_store : (store : Store C) (uuid : List ℕ) (state : State C) → resumed store uuid ≡ Some state → state.store ≡ store
  unfolding resumed
  resumed_store store uuid state is = one (unfinished_at uuid store) is
    where
      two : (e : Entry (Subvolume C)) (r : Result (Subvolume C) Refusal)
          → (elim r as (λ x. Option (State C)) [ Err refusal ↦ None | Ok start ↦ Some (record { store = store; part = Some (record { key = e.key; subvolume = start }) }) ]) ≡ Some state → state.store ≡ store
      two e (Err refusal) q = cc
      two e (Ok start) q = ap (λ (x : State C). x.store) (sym (same_inside q))

      one : (o : Option (Entry (Subvolume C))) → (elim o as (λ x. Option (State C)) [ None ↦ None | Some e ↦ started store e ]) ≡ Some state → state.store ≡ store
      one None q = cc
      one (Some e) q = two e (start_from store e.parent) q

  body_keeps : (place : ℕ) (store next : Store C) (uuid : List ℕ) (version : ℕ) (cs : List Command) → HasNumbers store → made zero_cell put place store (Body uuid version cs) ≡ Some next → HasNumbers next
  unfolding made
  body_keeps place store next uuid version cs h is = one (resumed store uuid) refl is
    where
      two : (state : State C) → state.store ≡ store → (o : Option (State C)) → edits_made zero_cell put version (frames_at place) state cs ≡ o → option_map completed o ≡ Some next → HasNumbers next
      two state same None e q = cc
      two state same (Some end) e q =
          subst (λ (x : Store C). HasNumbers x) (same_inside q) (completed_keeps end.store end.part (subst (λ (x : Store C). HasNumbers x) (sym (edits_store version (frames_at place) state end cs e ∙ same)) h))

      one : (o : Option (State C)) → resumed store uuid ≡ o
          → (elim o as (λ x. Option (Store C)) [ None ↦ None | Some state ↦ option_map completed (edits_made zero_cell put version (frames_at place) state cs) ]) ≡ Some next → HasNumbers next
      one None r q = cc
      one (Some state) r q = two state (resumed_store store uuid state r) (edits_made zero_cell put version (frames_at place) state cs) refl q

  dropped_keeps : (store next : Store C) (name : List ℕ) → HasNumbers store → dropped store name ≡ Some next → HasNumbers next
  unfolding dropped
  dropped_keeps store next name h is = one (has_name name store) is
    where
      one : (b : Bool) → (if b then Some (filter (λ e. not (bytes_eq e.name name)) store) else None) ≡ Some next → HasNumbers next
      one true q = subst (λ (x : Store C). HasNumbers x) (same_inside q) (all_filtered (λ e. e.key.ctransid < 2 ^ 64) (λ e. not (bytes_eq e.name name)) store h)
      one false q = cc

  made_keeps : (place : ℕ) (store next : Store C) (content : Content) → IsContent content → HasNumbers store → made zero_cell put place store content ≡ Some next → HasNumbers next
  unfolding made
  made_keeps place store next (Mark head) said h is = marked_keeps store next head said h is
  made_keeps place store next (Body uuid version cs) said h is = body_keeps place store next uuid version cs h is
  made_keeps place store next (Drop name) said h is = dropped_keeps store next name h is

  all_keep : (format gate : ℕ) (store end : Store C) (groups : List Group) → AllByRecursion (IsGroup format) groups → HasNumbers store → made_all zero_cell put gate store groups ≡ Some end → HasNumbers end
  unfolding made_all
  all_keep format gate store end [] are h is = subst (λ (x : Store C). HasNumbers x) (same_inside is) h
  all_keep format gate store end (g ∷ groups) are h is =
      one (made zero_cell put (body_at gate) store g.content) refl (λ next own q. all_keep format (body_at gate + length (body_bytes g)) next end groups are.1 own q) is
    where
      one : (o : Option (Store C)) → made zero_cell put (body_at gate) store g.content ≡ o
          → ((next : Store C) → HasNumbers next → made_all zero_cell put (body_at gate + length (body_bytes g)) next groups ≡ Some end → HasNumbers end)
          → (elim o as (λ x. Option (Store C)) [ None ↦ None | Some next ↦ made_all zero_cell put (body_at gate + length (body_bytes g)) next groups ]) ≡ Some end → HasNumbers end
      one None m more q = cc
      one (Some next) m more q = more next (made_keeps (body_at gate) store next g.content are.0.content h m) q

pub stored_has_numbers : {C : Type 0} → StoredHasNumbers C
stored_has_numbers zero_cell put image store stands = all_keep zero_cell put stands.header.format first_gate [] store stands.groups stands.makes.lawful tt stands.makes.made

pub received_has_numbers : ReceivedHasNumbers
unfolding receive_watched received
received_has_numbers store guards files h are =
    all_keep 0 as_bytes 2 0 store (left_by store guards files) (groups_of store guards (read_of files).reading.items) (written_is_lawful 2 store guards files are) h (written_is_received 0 store guards (read_of files).reading.items)

pub printed_are_parts : PrintedAreParts
unfolding lines_behind
printed_are_parts store guards files h are =
    let end = left_by store guards files in
    lines_are_counted (filter is_complete (drop (length store) end))
    (all_filtered (λ e. e.key.ctransid < 2 ^ 64) is_complete (drop (length store) end) (all_drop (λ e. e.key.ctransid < 2 ^ 64) (length store) end (received_has_numbers store guards files h are)))
