-- How receiving ends early: at an item, at a fault of reading, or where an object of the outside
-- fails.
use Rattle.std.specs.Prelude.{◌≡◌, ℕ, List, [], ◌++◌, length, drop, Option}
use Rattle.std.specs.List.{filter, flat_map}
use Rattle.std.proofs.Common.{refl, sym, ap, ◌∙◌, append_assoc, append-nil}
use Rattle.std.proofs.lemmas.List.Concat.{flat_map-append}
use Rattle.sx_base.specs.declared.outcome.Outcome.TheVariants as ended
use Rattle.send_model.specs.Reading.{Item}
use Rattle.send_model.specs.Store.{Store, State}
use Rattle.send_model.specs.Receive.{Ran, run_by, byte_cells}
use Rattle.send_model.specs.Guards.{Guard, Watched}
use Rattle.send_model.specs.Due.{Limited, Stop, stop_due}
use Rattle.store_model.specs.Stored.{Group}
use Rattle.store_model.specs.States.{is_complete, complete_line, lines_behind}
use Rattle.store_model.specs.Dues as dues
use Rattle.store_model.specs.Dues.{Due, receive_from, left_from, or_due}
use Rattle.store_model.proofs.PassedStates.{IsOn, run_on, on_way}
use Rattle.store_model.proofs.Betweens.{between_has_them}
use Rattle.auditor.specs.Following.{Followed, blank, then_read}
use Rattle.group_replay.specs.declared.place.Place.{Place}
use Rattle.store_journal.specs.Shown.{StoreState}
use Rattle.receiver.specs.declared.opened.Opened.{Opened}
use Rattle.receiver.specs.declared.outcome.Received.{Received}
use Rattle.receiver.specs.declared.outcome.Received.TheVariants as how
use Rattle.receiver.specs.Running.{byte_step, Spot, IsAt, due_from, LinesLeft, CoreLeft, IsLineFront}
use Rattle.receiver.proofs.Unpacked.{Leads, Stops}

-- ---- what is printed later

pub later_lines : (base : Store ℕ) (w : Watched (State ℕ)) (items : List Item) → IsOn base w.state.store w.state.part → (unwritten : List ℕ) × (lines_behind base (run_by byte_step w items).state.state.store ≡ lines_behind base w.state.store ++ unwritten)
unfolding lines_behind
later_lines base w items on =
    let end : Store ℕ = (run_by byte_step w items).state.state.store in
    let goes = (run_on 0 byte_cells base w items on).1 in
    let has = between_has_them _ base end w.state.store (on_way base w.state.store w.state.part end on goes) in
    (flat_map complete_line has.2.0, ap (flat_map complete_line) has.2.1 ∙ flat_map-append complete_line (filter is_complete (drop (length base) w.state.store)) has.2.0)

-- ---- behind items that lead there

front_from : (limit : ℕ) (base : Store ℕ) (start now : Spot) (items : List Item) (groups : List Group) (ls ms unwritten : List ℕ) (read : Limited) → Leads limit base start now items groups ls → IsLineFront base now read ms unwritten
    → IsLineFront base start (then_read items read) (ls ++ ms) unwritten
front_from limit base start now items groups ls ms unwritten read leads f = record {
  all = ap (λ (r : Ran (Watched (State ℕ))). lines_behind base r.state.state.store) (leads.ran read.items) ∙ f.all ∙ ap (λ (l : List ℕ). l ++ (ms ++ unwritten)) leads.printed
      ∙ append_assoc (lines_behind base start.watched.state.store) ls (ms ++ unwritten) ∙ ap (λ (l : List ℕ). lines_behind base start.watched.state.store ++ l) (sym (append_assoc ls ms unwritten));
}

due_moved : (limit : ℕ) (base : Store ℕ) (start now : Spot) (items : List Item) (groups : List Group) (ls : List ℕ) (read : Limited) → Leads limit base start now items groups ls → due_from limit start (then_read items read) ≡ due_from limit now read
due_moved limit base start now items groups ls read leads = ap (λ (o : Option Due). or_due o (dues.Ends (stop_due read.stop))) (leads.due read.items)

left_moved : (limit : ℕ) (base : Store ℕ) (start now : Spot) (items : List Item) (groups : List Group) (ls ms : List ℕ) (read : Limited) → Leads limit base start now items groups ls → LinesLeft limit base now read ms → LinesLeft limit base start (then_read items read) (ls ++ ms)
left_moved limit base start now items groups ls ms read leads left =
    ap (lines_behind base) (leads.left read.items) ∙ left ∙ ap (λ (l : List ℕ). l ++ ms) leads.printed ∙ append_assoc (lines_behind base start.watched.state.store) ls ms

core_moved : (limit : ℕ) (base : Store ℕ) (start now : Spot) (items : List Item) (groups : List Group) (ls : List ℕ) (read : Limited) (core : Store (Option Place)) → Leads limit base start now items groups ls → CoreLeft limit now read core → CoreLeft limit start (then_read items read) core
core_moved limit base start now items groups ls read core leads left = left ∙ ap blank (sym (leads.left read.items))

pub stops_from : (why : Received) (limit : ℕ) (base : Store ℕ) (start now : Spot) (items : List Item) (groups : List Group) (ls ms : List ℕ) (read : Limited) (core : Store (Option Place)) → Leads limit base start now items groups ls
    → Stops why limit base now read ms core → Stops why limit base start (then_read items read) (ls ++ ms) core
stops_from (how.Files (ended.Refused verdict)) limit base start now items groups ls ms read core leads s =
    (due_moved limit base start now items groups ls read leads ∙ s.0, left_moved limit base start now items groups ls ms read leads s.1, core_moved limit base start now items groups ls read core leads s.2)
stops_from (how.Files (ended.InputTooLong file)) limit base start now items groups ls ms read core leads s =
    (due_moved limit base start now items groups ls read leads ∙ s.0, left_moved limit base start now items groups ls ms read leads s.1, core_moved limit base start now items groups ls read core leads s.2)
stops_from (how.Files ended.InputFault) limit base start now items groups ls ms read core leads s = (s.0, front_from limit base start now items groups ls ms s.0 read leads s.1)
stops_from (how.Files ended.NoMemory) limit base start now items groups ls ms read core leads s = (s.0, front_from limit base start now items groups ls ms s.0 read leads s.1)
stops_from (how.Files ended.OutputFault) limit base start now items groups ls ms read core leads s = (s.0, front_from limit base start now items groups ls ms s.0 read leads s.1, s.2)
stops_from (how.Files ended.Done) limit base start now items groups ls ms read core leads s = absurd s
stops_from (how.Files (ended.TooMuch sum)) limit base start now items groups ls ms read core leads s = absurd s
stops_from (how.Files (ended.InputChanged file place)) limit base start now items groups ls ms read core leads s = absurd s
stops_from how.StoreFault limit base start now items groups ls ms read core leads s = (s.0, front_from limit base start now items groups ls ms s.0 read leads s.1)
stops_from (how.LogFull end wanted most) limit base start now items groups ls ms read core leads s =
    (due_moved limit base start now items groups ls read leads ∙ s.0, left_moved limit base start now items groups ls ms read leads s.1)

-- ---- where no more items are read

module _ (limit : ℕ) (base : Store ℕ) (spot : Spot) where
  pub no_items_due : (stop : Stop) → due_from limit spot (record { items = []; stop = stop }) ≡ dues.Ends (stop_due stop)
  unfolding receive_from
  no_items_due stop = refl

  pub no_items_left : (stop : Stop) → LinesLeft limit base spot (record { items = []; stop = stop }) []
  unfolding left_from
  no_items_left stop = sym (append-nil (lines_behind base spot.watched.state.store))

  pub no_items_core : (stop : Stop) (guards : List Guard) (store : StoreState) (current : Option Opened) → IsAt spot guards store current → CoreLeft limit spot (record { items = []; stop = stop }) store.core
  unfolding left_from
  no_items_core stop guards store current at = ap (λ (w : Followed). w.state.store) (sym at.seen)

-- An object of the outside failed between two items, or there was no memory.
pub whatever_front : (base : Store ℕ) (spot : Spot) (read : Limited) → IsOn base spot.watched.state.store spot.watched.state.part → (unwritten : List ℕ) × IsLineFront base spot read [] unwritten
whatever_front base spot read on = let l = later_lines base spot.watched read.items on in (l.0, record { all = l.1 })
