-- Whether there is room: of the journal's calls, and of the pieces of the definitions.
use Rattle.std.specs.Prelude.{◌≡◌, ℕ, ◌+◌, Bool, false, List, [], ◌∷◌, map, length, Option, None, Some, Err, is_some, if◌then◌else◌}
use Rattle.std.specs.Option.{option_map}
use Rattle.std.proofs.Common.{inl, inr, refl, sym, ap, subst, ◌∙◌, arith}
use Rattle.send_model.specs.Spelling.{canonical}
use Rattle.send_model.specs.Reading.{Item}
use Rattle.send_model.specs.Store.{Head, head_of}
use Rattle.send_model.specs.Counts.{is_end}
use Rattle.store_model.specs.Dues as dues
use Rattle.store_model.specs.Dues.{Due, end_behind, head_pieces, item_pieces}
use Rattle.group_log.specs.declared.stops.LogStop.{LogStop}
use Rattle.group_log.specs.declared.stops.LogStop.TheVariants as log
use Rattle.group_replay.specs.declared.stops.StoreStop.{StoreStop}
use Rattle.group_replay.specs.declared.stops.StoreStop.TheVariants as stop
use Rattle.group_replay.specs.Stopping.{IfLog}
use Rattle.store_journal.specs.Filling.{Asked, first_full, head_asks, piece_asks, gate_behind, IsStopOf}
use Rattle.store_journal.proofs.Rooms.{as_piece, as_due, same_full}
use Rattle.receiver.specs.Answers.{ended_by, PiecesSay}

-- What an item puts, by its sort.
pub head_item : (at : ℕ) (item : Item) (head : Head) → head_of item.command ≡ Some head → item_pieces at item ≡ map as_piece (head_asks at (1 + length (canonical 1 item.command)))
head_item at item head is = subst (λ (o : Option Head). (if is_some o then head_pieces at (length (canonical 1 item.command)) else (if is_end item.command then [] else (at, length (canonical item.version item.command)) ∷ [])) ≡ map as_piece (head_asks at (1 + length (canonical 1 item.command)))) (sym is) refl

pub edit_item : (at : ℕ) (item : Item) → head_of item.command ≡ None → is_end item.command ≡ false → item_pieces at item ≡ map as_piece (piece_asks at (length (canonical item.version item.command)))
edit_item at item is end =
    subst (λ (o : Option Head). (if is_some o then head_pieces at (length (canonical 1 item.command)) else (if is_end item.command then [] else (at, length (canonical item.version item.command)) ∷ [])) ≡ map as_piece (piece_asks at (length (canonical item.version item.command)))) (sym is)
    (subst (λ (b : Bool). (if b then [] else (at, length (canonical item.version item.command)) ∷ []) ≡ map as_piece (piece_asks at (length (canonical item.version item.command)))) (sym end) refl)

-- There is room.
pub has_room : (limit at : ℕ) (item : Item) (asks : List Asked) → item_pieces at item ≡ map as_piece asks → first_full limit asks ≡ None → dues.first_full limit (item_pieces at item) ≡ None
has_room limit at item asks is none = ap (dues.first_full limit) is ∙ same_full limit asks ∙ ap (λ (o : Option Asked). option_map (as_due limit) o) none

pub head_end : (at : ℕ) (item : Item) (head : Head) → head_of item.command ≡ Some head → end_behind at (item_pieces at item) ≡ gate_behind at (1 + length (canonical 1 item.command)) + 27
head_end at item head is = ap (end_behind at) (head_item at item head is) ∙ omega arith

pub edit_end : (at : ℕ) (item : Item) → head_of item.command ≡ None → is_end item.command ≡ false → end_behind at (item_pieces at item) ≡ at + length (canonical item.version item.command)
edit_end at item is end = ap (end_behind at) (edit_item at item is end)

-- There is none, where the journal stopped for that.
pub no_room : (cause : Type 0) (limit at next : ℕ) (item : Item) (asks : List Asked) (why : StoreStop) → item_pieces at item ≡ map as_piece asks → IfLog {T = Unit {0}} (Err why) (IsStopOf cause limit (first_full limit asks))
    → PiecesSay (Err (ended_by item why)) limit at next item
no_room cause limit at next item asks (stop.Refused refusal) is says = tt
no_room cause limit at next item asks stop.NoMemory is says = tt
no_room cause limit at next item asks (stop.Log log.DiskFault) is says = tt
no_room cause limit at next item asks (stop.Log (log.NotStore group)) is says = tt
no_room cause limit at next item asks (stop.Log (log.StoreThere size)) is says = tt
no_room cause limit at next item asks (stop.Log (log.LogFull end wanted most)) is says =
    ap (dues.first_full limit) is ∙ same_full limit asks ∙ one (first_full limit asks) says
  where
    inside : (a : Asked) → log.LogFull end wanted most ≡ log.LogFull a.place a.wanted limit → as_due limit a ≡ dues.LogFull end wanted most
    inside a e = ap (λ (p : LogStop). elim p as (λ x. Due) [ log.LogFull x y z ↦ dues.LogFull x y z | log.DiskFault ↦ dues.StoreThere 0 | log.NotStore group ↦ dues.StoreThere 0 | log.StoreThere size ↦ dues.StoreThere 0 ]) (sym e)

    one : (o : Option Asked) → IsStopOf cause limit o (log.LogFull end wanted most) → option_map (as_due limit) o ≡ Some (dues.LogFull end wanted most)
    one None (inl full) = absurd full
    one None (inr fault) = absurd fault
    one (Some a) (inr fault) = absurd fault
    one (Some a) (inl full) = ap (λ (d : Due). Some d) (inside a full)
