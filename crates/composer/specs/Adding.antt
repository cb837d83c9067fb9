-- What an item adds whose step was taken: where a head stands out of order, and what is written for
-- edits.
use Rattle.std.specs.Prelude.{◌≡◌, ◌⊎◌, ℕ, ◌+◌, ◌<◌, ◌≤◌, Bool, true, ◌||◌, List, [], ◌∷◌, Option, None, Some, Result, Ok, Err, if◌then◌else◌}
use Rattle.send_model.specs.Command.{Command}
use Rattle.send_model.specs.Spelling.{canonical_all}
use Rattle.send_model.specs.Subvolume.{Subvolume, walk, is_file}
use Rattle.send_model.specs.Clone.{cells_of}
use Rattle.send_model.specs.Store.{Key, Head, Store, State, step, find}
use Rattle.send_model.specs.Order.{breaks_order}
use Rattle.send_model.specs.Provenance.{Traced, literal_len, pieces_of, is_redirected, clone_range, uncarried_in}
use Rattle.send_model.specs.Composed.{commands_for}
use Rattle.send_model.specs.Due.{most_literal}
use Rattle.std.specs.List.{sum_by}
use Rattle.std.specs.Io.KnownBytes.{Appends}
use Rattle.sx_base.specs.declared.outcome.Outcome.{Outcome}
use Rattle.sx_base.specs.declared.outcome.Outcome.TheVariants as ended
use Rattle.provenance.specs.declared.trace.Trace.{Trace}
use Rattle.clone_pieces.specs.Sending.{GoesOut, GoesPart, BreaksOff}
use Rattle.clone_pieces.specs.Redirecting.{pieces_spelled}
use Rattle.composer.specs.OverBase.{Plan, begin_bytes, is_unforeseen, Composing}
use Rattle.composer.specs.Kept.{composing_of}
use Rattle.composer.specs.Reached.{Over, Reached}

-- A step over traces that was taken.
abbrev pub Led : State (Option Trace) → State (Option Trace) → List (Option Trace) → Command
    → Type 0
Led before after put command =
    step None put before command ≡ record { state = after; refusal = None }

-- A head does not follow the part before it, or was not seen by the survey.
abbrev pub stands_out : Option Key → Option Head → Head → Bool
stands_out previous last head = breaks_order previous (Some head) || is_unforeseen last (Some head)

-- What begins the stream at a head, where the last head is known.
abbrev pub begun_with : ℕ → Bool → Head → Option Head → List ℕ
begun_with version begun head None = []
begun_with version begun head (Some last) = begin_bytes version begun last (Some head)

-- The uncarried bytes of a command.
abbrev pub uncarried_by : Store ℕ → List (List ℕ) → State Traced → Option (List ℕ) → Command → ℕ
uncarried_by base parts state current command =
    if is_redirected parts current command then uncarried_in base
    (clone_range state command ∷ []) else 0

-- What is added: bytes, of which so many are uncarried.
pub record Addition : Type 0 where
  pub uncarried : ℕ
  pub bytes : List ℕ

-- It goes out, and the sum of uncarried bytes is not too great; or it is, and only what was pending
-- is written, and nothing is pending any more; or an object of the outside failed or there is no
-- memory, before a byte of it or in its middle, and what did not go out is pending.
abbrev pub Adds : Addition → (old new : Reached) → Result (Unit {0}) Outcome → Type 0
Adds it old new (Ok done) =
    GoesOut old.taken new.taken old.kept.pending new.kept.pending it.bytes
    × ((new.kept.sum ≡ old.kept.sum + it.uncarried) × (new.kept.sum ≤ most_literal))
Adds it old new (Err (ended.TooMuch sum)) =
    (sum ≡ old.kept.sum + it.uncarried)
    × ((most_literal < sum) × Appends old.taken new.taken old.kept.pending
    × (new.kept.pending ≡ []))
Adds it old new (Err ended.OutputFault) =
    BreaksOff old.taken new.taken old.kept.pending new.kept.pending []
    ⊎ ((old.kept.sum + it.uncarried ≤ most_literal)
    × BreaksOff old.taken new.taken old.kept.pending new.kept.pending it.bytes)
Adds it old new (Err ended.InputFault) =
    GoesPart old.taken new.taken old.kept.pending new.kept.pending []
    ⊎ ((old.kept.sum + it.uncarried ≤ most_literal)
    × GoesPart old.taken new.taken old.kept.pending new.kept.pending it.bytes)
Adds it old new (Err ended.NoMemory) =
    GoesPart old.taken new.taken old.kept.pending new.kept.pending []
    ⊎ ((old.kept.sum + it.uncarried ≤ most_literal)
    × GoesPart old.taken new.taken old.kept.pending new.kept.pending it.bytes)
Adds it old new (Err (ended.InputChanged file place)) = ⊥
Adds it old new (Err ended.Done) = ⊥
Adds it old new (Err (ended.Refused verdict)) = ⊥
Adds it old new (Err (ended.InputTooLong file)) = ⊥

-- What a command adds to what composing keeps before its step, where the key of the last part is
-- given.
abbrev pub addition : Plan → Key → Composing → Command → Addition
addition plan last now command = record {
  uncarried = uncarried_by plan.base plan.parts now.state now.current command;
  bytes = canonical_all plan.version
      (commands_for plan.base plan.parts last now.state now.current command);
}

-- A command whose step was taken, from whichever state it was, adds what it does there.
abbrev pub AddEnd : Over → (last : Key) → Command → (old new : Reached) → Result (Unit {0}) Outcome
    → Type 0
AddEnd o last command old new result =
    (before : State (Option Trace)) (put : List (Option Trace))
    → Led before old.kept.state put command
    → Adds (addition o.plan last
    (composing_of o.files o.plan.base
    (record old.kept { state = before })) command) old new result

-- ---- redirected clones

-- The cells are those of the file that a path leads to in a complete subvolume.
pub record IsSourceOf (cells : List (Option Trace)) (state : State (Option Trace)) (key : Key)
    (path : List ℕ) : Type 0 where
  pub source : Subvolume (Option Trace)
  pub ino : ℕ
  pub found : find state.store key ≡ Some source
  pub walked : walk source path ≡ Ok ino
  pub file : is_file source ino ≡ true
  pub cells_are : cells ≡ cells_of source ino

-- What stands for a clone of a range.
abbrev pub range_addition : Store ℕ → (version : ℕ) → (path : List ℕ) → (offset : ℕ) → List Traced
    → Addition
range_addition base version path offset range = record {
  uncarried = sum_by literal_len (pieces_of base range);
  bytes = pieces_spelled version base path offset range;
}
