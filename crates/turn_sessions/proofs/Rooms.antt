-- Whether there is room for the group of an event, and where the next gate stands then: of the
-- journal's calls, and of the definitions.
use Rattle.std.specs.Prelude.{◌≡◌, ℕ, ◌+◌, List, [], ◌∷◌, length, map, Option, None, Some}
use Rattle.std.specs.Option.{option_map}
use Rattle.std.proofs.Common.{inl, inr, refl, sym, ap, ◌∙◌, arith}
use Rattle.send_model.specs.Command.{Command}
use Rattle.send_model.specs.Spelling.{canonical}
use Rattle.send_model.specs.Reading.{Item}
use Rattle.store_model.specs.Dues as dues
use Rattle.store_model.specs.Dues.{Due, end_behind, pieces_from}
use Rattle.store_model.specs.Turns.{Taken, Event, Begins, Completes}
use Rattle.store_model.specs.TurnDues.{event_pieces, gate_behind, Fitting, fitting}
use Rattle.store_model.proofs.TurnEnds.{by_full, fitting_next}
use Rattle.group_log.specs.declared.stops.LogStop.{LogStop}
use Rattle.group_log.specs.declared.stops.LogStop.TheVariants as log
use Rattle.store_journal.specs.Filling as fill
use Rattle.store_journal.specs.Filling.{Asked, group_asks, IsStopOf}
use Rattle.store_journal.proofs.Rooms.{as_piece, as_due, same_full}
use Rattle.turn_sessions.specs.Edits.{frame_asks, body_asks, frames_end, body_end}

-- ---- pieces

edits_ask : (version place : ℕ) (items : List Item) → pieces_from place (map (λ item. length (canonical version item.command)) items) ≡ map as_piece (frame_asks version place (map (λ item. item.command) items))
edits_ask version place [] = refl
edits_ask version place (item ∷ items) = ap (λ (l : List (ℕ × ℕ)). (place, length (canonical version item.command)) ∷ l) (edits_ask version (place + length (canonical version item.command)) items)

pub body_pieces : (gate : ℕ) (part : Taken) → event_pieces gate (Completes part) ≡ map as_piece (body_asks part.head.version gate (map (λ item. item.command) part.edits))
body_pieces gate part =
    let place : gate + 9 + 18 ≡ gate + 27 = omega arith in
    ap (λ (l : List (ℕ × ℕ)). (gate, 9) ∷ (gate + 9, 18) ∷ l)
    (ap (λ (n : ℕ). pieces_from n (map (λ item. length (canonical part.head.version item.command)) part.edits)) place ∙ edits_ask part.head.version (gate + 27) part.edits)

ends_at : (version place : ℕ) (commands : List Command) → end_behind place (map as_piece (frame_asks version place commands)) ≡ frames_end version place commands
ends_at version place [] = refl
ends_at version place (c ∷ commands) = ends_at version (place + length (canonical version c)) commands

pub body_gate : (gate : ℕ) (part : Taken) → gate_behind gate (Completes part) ≡ body_end part.head.version gate (map (λ item. item.command) part.edits)
body_gate gate part =
    let place : gate + 9 + 18 ≡ gate + 27 = omega arith in
    ap (λ (l : List (ℕ × ℕ)). end_behind gate l + 4) (body_pieces gate part)
    ∙ ap (λ (n : ℕ). end_behind n (map as_piece (frame_asks part.head.version (gate + 27) (map (λ item. item.command) part.edits))) + 4) place
    ∙ ap (λ (n : ℕ). n + 4) (ends_at part.head.version (gate + 27) (map (λ item. item.command) part.edits))

-- ---- room

module _ (most gate : ℕ) (event : Event) (asks : List Asked) (pieces : event_pieces gate event ≡ map as_piece asks) where
  full_is : dues.first_full most (event_pieces gate event) ≡ option_map (as_due most) (fill.first_full most asks)
  full_is = ap (dues.first_full most) pieces ∙ same_full most asks

  -- there is some
  pub has_room : fill.first_full most asks ≡ None → (fitting most gate (event ∷ [])).full ≡ None
  unfolding fitting
  has_room none =
      ap (λ (f : Fitting). f.full) (fitting_next most gate event [])
      ∙ ap (λ (o : Option Due). (by_full o event (fitting most (gate_behind gate event) [])).full) (full_is ∙ ap (λ (o : Option Asked). option_map (as_due most) o) none)

  -- there is none, where the journal stopped for that
  pub no_room : (cause : Type 0) (end wanted limit : ℕ) → IsStopOf cause most (fill.first_full most asks) (log.LogFull end wanted limit) → fitting most gate (event ∷ []) ≡ record { events = []; full = Some (dues.LogFull end wanted limit) }
  no_room cause end wanted limit says =
      fitting_next most gate event [] ∙ ap (λ (o : Option Due). by_full o event (fitting most (gate_behind gate event) [])) (full_is ∙ one (fill.first_full most asks) says)
    where
      inside : (a : Asked) → log.LogFull end wanted limit ≡ log.LogFull a.place a.wanted most → as_due most a ≡ dues.LogFull end wanted limit
      inside a e = ap (λ (p : LogStop). elim p as (λ x. Due) [ log.LogFull x y z ↦ dues.LogFull x y z | log.DiskFault ↦ dues.StoreThere 0 | log.NotStore group ↦ dues.StoreThere 0 | log.StoreThere size ↦ dues.StoreThere 0 ]) (sym e)

      one : (o : Option Asked) → IsStopOf cause most o (log.LogFull end wanted limit) → option_map (as_due most) o ≡ Some (dues.LogFull end wanted limit)
      one None (inl full) = absurd full
      one None (inr fault) = absurd fault
      one (Some a) (inr fault) = absurd fault
      one (Some a) (inl full) = ap (λ (d : Due). Some d) (inside a full)

-- ---- a head

pub head_pieces_are : (gate : ℕ) (item : Item) → event_pieces gate (Begins item) ≡ map as_piece (group_asks gate (1 + length (canonical 1 item.command)))
head_pieces_are gate item = refl

pub head_gate : (gate : ℕ) (item : Item) → gate_behind gate (Begins item) ≡ fill.gate_behind gate (1 + length (canonical 1 item.command))
head_gate gate item = omega arith
