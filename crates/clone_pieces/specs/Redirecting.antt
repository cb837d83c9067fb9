-- What stands for a clone from an earlier part: clones of outside files, and writes of other bytes.
use Rattle.std.specs.Prelude.{⊤, ℕ, List, map, Option, Result, Ok, Err}
use Rattle.std.specs.List.{flat_map}
use Rattle.send_model.specs.Spelling.{canonical_all}
use Rattle.send_model.specs.Store.{Store}
use Rattle.send_model.specs.Provenance.{Traced, pieces_of}
use Rattle.send_model.specs.Composed.{piece_commands}
use Rattle.sx_base.specs.Again.{EarlyEnd}
use Rattle.sx_base.specs.Calls.{CausedAgain, FoundChanged}
use Rattle.provenance.specs.declared.trace.Trace.{Trace}
use Rattle.provenance.specs.Traces.{place_of}
use Rattle.clone_pieces.specs.Origins.{byte_of_trace}
use Rattle.clone_pieces.specs.Seen.{seen}
use Rattle.sx_base.specs.Causes.{Counts}
use Rattle.clone_pieces.specs.Stopping.{outcome_with}
use Rattle.clone_pieces.specs.Sending.{GoesOut, GoesPart, BreaksOff}
use Rattle.clone_pieces.specs.declared.stops.SendStop.{SendStop}
use Rattle.clone_pieces.specs.declared.stops.SendStop.TheVariants as stop

-- Cells as bytes with their outside places.
abbrev pub seen_cells : List (List ℕ) → Store ℕ → List (Option Trace) → List Traced
seen_cells files base cells = map (seen (byte_of_trace files base) place_of) cells

-- The spelling of what stands for a clone of these cells to a path and an offset.
abbrev pub pieces_spelled : ℕ → Store ℕ → List ℕ → ℕ → List Traced → List ℕ
pieces_spelled version base path offset range =
    canonical_all version (flat_map (piece_commands base path offset) (pieces_of base range))

-- The bytes go out, or an object of the outside failed, or there is no memory; then a front part of
-- them came behind what was pending, and of both a front part was written, and the rest is pending.
-- Inputs that tell are not found changed.
abbrev pub RedirectEnd : Option (List ℕ) → Option (List ℕ) → (old new bytes : List ℕ)
    → Result (Unit {0}) SendStop → Type 0
RedirectEnd out_old out_new old new bytes (Ok done) = GoesOut out_old out_new old new bytes
RedirectEnd out_old out_new old new bytes (Err stop.OutputFault) =
    BreaksOff out_old out_new old new bytes
RedirectEnd out_old out_new old new bytes (Err stop.InputFault) =
    GoesPart out_old out_new old new bytes
RedirectEnd out_old out_new old new bytes (Err stop.NoMemory) =
    GoesPart out_old out_new old new bytes
RedirectEnd out_old out_new old new bytes (Err (stop.InputChanged file place)) = ⊥

-- A fault is the cause only where the count of its object rose, and an input is found changed only
-- where the count of ends rose.
abbrev pub RedirectCaused : (before now : Counts) → Result (Unit {0}) SendStop → Type 0
RedirectCaused before now (Ok done) = ⊤
RedirectCaused before now (Err why) = CausedAgain before now (outcome_with why)

-- An input that was found changed is the file of the last end, with the place where it ended.
abbrev pub RedirectChanged : (names : List (List ℕ)) (last : EarlyEnd) → Result (Unit {0}) SendStop
    → Type 0
RedirectChanged names last (Ok done) = ⊤
RedirectChanged names last (Err why) = FoundChanged names last (outcome_with why)
