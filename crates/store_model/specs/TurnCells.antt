-- Sessions and turns over other cells: each cell is replaced by what a function makes of it.
use Rattle.std.specs.Prelude.{map}
use Rattle.std.specs.Option.{option_map}
use Rattle.send_model.specs.Cells.{recelled_store, recelled_part}
use Rattle.store_model.specs.Turns.{Receiving, Session, Turn, Turns}

abbrev pub recelled_receiving : {C D : Type 0} → (C → D) → Receiving C → Receiving D
recelled_receiving f r = record { taken = r.taken; part = recelled_part f r.part }

abbrev pub recelled_session : {C D : Type 0} → (C → D) → Session C → Session D
recelled_session f s =
    record {
      items = s.items;
      end = s.end;
      guards = s.guards;
      part = option_map (recelled_receiving f) s.part;
      is_over = s.is_over;
    }

abbrev pub recelled_turn : {C D : Type 0} → (C → D) → Turn C → Turn D
recelled_turn f t =
    record {
      store = recelled_store f t.store;
      session = recelled_session f t.session;
      refused = t.refused;
      events = t.events;
    }

abbrev pub recelled_turns : {C D : Type 0} → (C → D) → Turns C → Turns D
recelled_turns f w =
    record {
      store = recelled_store f w.store;
      sessions = map (recelled_session f) w.sessions;
      refused = w.refused;
      events = w.events;
    }
