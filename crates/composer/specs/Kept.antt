-- What the composer keeps, over traces: the store and the part so far, the head that came last, how
-- many uncarried bytes there are so far, and the bytes that are to be written. With the input files
-- and the base it is what composing keeps by its definition.
use Rattle.std.specs.Prelude.{ℕ, List, [], Option, None, is_some}
use Rattle.std.specs.Option.{option_map}
use Rattle.send_model.specs.Store.{Head, Store, State}
use Rattle.provenance.specs.declared.trace.Trace.{Trace}
use Rattle.provenance.specs.Traces.{place_of}
use Rattle.clone_pieces.specs.Origins.{byte_of_trace}
use Rattle.clone_pieces.specs.Seen.{seen_state}
use Rattle.composer.specs.OverBase.{Composing}

pub record Kept : Type 0 where
  pub state : State (Option Trace)
  pub latest : Option Head
  pub sum : ℕ
  pub pending : List ℕ

-- Before the first command: the base's subvolumes, traced to themselves.
abbrev pub kept_at_start : Store (Option Trace) → Kept
kept_at_start store =
    record { state = record { store = store; part = None }; latest = None; sum = 0; pending = [] }

-- With the bytes of the input files and of the base.
abbrev pub composing_of : List (List ℕ) → Store ℕ → Kept → Composing
composing_of files base kept = record {
  state = seen_state (byte_of_trace files base) place_of kept.state;
  previous = option_map (λ h. h.key) kept.latest;
  current = option_map (λ p. p.key.uuid) kept.state.part;
  begun = is_some kept.latest;
  sum = kept.sum;
  pending = kept.pending;
}
