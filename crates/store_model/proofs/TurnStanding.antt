-- What an image stands for that has the groups of some first events.
use Rattle.std.specs.Prelude.{◌≡◌, ℕ, ◌+◌, Bool, true, false, List, [], ◌∷◌, ◌++◌, length, take, Option, None, Some, if◌then◌else◌}
use Rattle.std.specs.List.{AllByRecursion}
use Rattle.std.proofs.Common.{refl, sym, ap, subst, ◌∙◌}
use Rattle.std.proofs.lemmas.List.{map-append}
use Rattle.send_model.specs.Attribute.{IsBytes}
use Rattle.send_model.specs.Lengths.{limit, is_too_long}
use Rattle.send_model.specs.Store.{Store}
use Rattle.send_model.specs.Receive.{byte_cells}
use Rattle.send_model.proofs.Sorts.{same_inside}
use Rattle.send_model.proofs.ElementLaws.{all_first, all_both, all_take}
use Rattle.store_model.specs.Stored.{Group, body_at, body_bytes, IsGroup, as_bytes, made, made_all, first_gate}
use Rattle.store_model.specs.Turns.{Event, Session, interleaved, group_of_event, turn_groups, turns_of}
use Rattle.store_model.specs.TurnLaws.{AreOneByOne}
use Rattle.store_model.proofs.FilesInTurn.{all_new}
use Rattle.store_model.proofs.LawfulGroups.{stands_lawful}
use Rattle.store_model.proofs.LawfulTurns.{groups_are_lawful}
use Rattle.store_model.proofs.TurnStates.{lines_are_complete}
use Rattle.store_model.specs.TurnDues.{bytes_read, files_read, sessions_of, all_turns}
use Rattle.store_model.specs.TurnDueLaws.{FirstEventsStand}

-- The first bytes of bytes are bytes.
read_bytes : (number : ℕ) (file : List ℕ) → IsBytes file → IsBytes (bytes_read number file)
read_bytes number file are = one (is_too_long number file)
  where
    one : (b : Bool) → IsBytes (if b then take limit file else file)
    one true = all_take _ limit file are
    one false = are

pub all_read_bytes : (number : ℕ) (files : List (List ℕ)) → AllByRecursion IsBytes files → AllByRecursion IsBytes (files_read number files)
unfolding files_read
all_read_bytes number [] are = tt
all_read_bytes number (file ∷ files) are = (read_bytes number file are.0, all_read_bytes (number + 1) files are.1)

pub groups_joined : (first more : List Event) → turn_groups (first ++ more) ≡ turn_groups first ++ turn_groups more
unfolding turn_groups
groups_joined first more = map-append group_of_event first more

-- groups behind groups
pub made_behind : (old new : List Group) (start middle end : Store ℕ) (gate : ℕ) → made_all 0 as_bytes gate start old ≡ Some middle
    → ((gate : ℕ) → made_all 0 as_bytes gate middle new ≡ Some end) → made_all 0 as_bytes gate start (old ++ new) ≡ Some end
unfolding made_all
made_behind [] new start middle end gate h m = subst (λ (s : Store ℕ). made_all 0 as_bytes gate s new ≡ Some end) (sym (same_inside h)) (m gate)
made_behind (g ∷ old) new start middle end gate h m =
    one (made 0 as_bytes (body_at gate) start g.content) (λ next q. made_behind old new next middle end (body_at gate + length (body_bytes g)) q m) h
  where
    one : (o : Option (Store ℕ)) → ((next : Store ℕ) → made_all 0 as_bytes (body_at gate + length (body_bytes g)) next old ≡ Some middle
        → made_all 0 as_bytes (body_at gate + length (body_bytes g)) next (old ++ new) ≡ Some end)
        → (elim o as (λ o. Option (Store ℕ)) [ None ↦ None | Some next ↦ made_all 0 as_bytes (body_at gate + length (body_bytes g)) next old ]) ≡ Some middle
        → (elim o as (λ o. Option (Store ℕ)) [ None ↦ None | Some next ↦ made_all 0 as_bytes (body_at gate + length (body_bytes g)) next (old ++ new) ]) ≡ Some end
    one None f q = cc
    one (Some next) f q = f next q

pub first_events_stand : FirstEventsStand
unfolding turns_of interleaved
first_events_stand before image store turns first more are stands all has =
    let read : List (List ℕ) = files_read 1 turns.files in
    let sessions : List (Session ℕ) = sessions_of turns.files turns.guards turns.shares in
    let places : List ℕ = all_turns turns.schedule sessions in
    let lawful = stands_lawful before store stands in
    let state = lines_are_complete 0 byte_cells store sessions places first more lawful.distinct (all_new 1 read turns.guards turns.shares) all in
    let order : AreOneByOne 0 byte_cells store first state.0 = subst (λ (l : List Event). AreOneByOne 0 byte_cells store l state.0) state.2 state.1.made in
    let groups_are = groups_are_lawful stands.header.format store turns.schedule read turns.guards turns.shares lawful.distinct (all_read_bytes 1 turns.files are) in
    let first_are : AllByRecursion (IsGroup stands.header.format) (turn_groups first) = all_first (IsGroup stands.header.format) (turn_groups first) (turn_groups more)
    (subst (λ (l : List Group). AllByRecursion (IsGroup stands.header.format) l) (ap (λ (l : List Event). turn_groups l) all ∙ groups_joined first more) groups_are) in
    record {
      stands = stands;
      groups = has;
      now = state.0;
      is = record {
        header = stands.header;
        groups = stands.groups ++ turn_groups first;
        has = has;
        makes = record {
          lawful = all_both (IsGroup stands.header.format) stands.groups (turn_groups first) stands.makes.lawful first_are;
          made = made_behind stands.groups (turn_groups first) [] store state.0 first_gate stands.makes.made (λ gate. order.groups as_bytes (λ place item. refl) gate);
        };
      };
      state = state.1.state;
      order = order;
    }
