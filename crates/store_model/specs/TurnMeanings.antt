-- What an answer of files that take turns means to whoever reads it: laws that begin with an answer
-- and end in plain words. This program's own.
use Rattle.std.specs.Prelude.{◌≡◌, ◌≢◌, ◌≤◌, ◌<◌, ◌+◌, ℕ, true, false, List, [], ◌∷◌, ◌++◌, length, take, map}
use Rattle.std.specs.List.{AllByRecursion, flat_map}
use Rattle.send_model.specs.Attribute.{IsBytes}
use Rattle.send_model.specs.Reading.{Verdict}
use Rattle.send_model.specs.Lengths.{limit, is_too_long}
use Rattle.send_model.specs.Subvolume.{Subvolume}
use Rattle.send_model.specs.Store.{Entry, Store}
use Rattle.send_model.specs.Guards.{Guard}
use Rattle.send_model.specs.Headline.{IsProperFrontOf}
use Rattle.send_model.specs.Answer.{Done, Refused, InputFault, OutputFault}
use Rattle.store_model.specs.Image.{HasGroups, limit_of, front_of, reserve}
use Rattle.store_model.specs.Dues as dues
use Rattle.store_model.specs.Stored.{body_bytes, StandsFor, StandsForNone}
use Rattle.store_model.specs.States.{complete_line, lines_in}
use Rattle.store_model.specs.Answers.{Answer, OfAnyWord, LogFull}
use Rattle.store_model.specs.Turns.{Event, turn_groups, sessions_from, turns_of}
use Rattle.store_model.specs.TurnLaws.{IsIn, IsComplete}
use Rattle.store_model.specs.TurnDues.{InTurns, in_turns, sessions_of, room_of, interleave_end}
use Rattle.store_model.specs.TurnAnswers.{taken_turns, taken_lines, IsOnTurnWay, TurnsAnswer}

-- A store has the complete entries of another, and more: as many at least as whole lines were
-- written, which are the lines of the first of these. Behind the last whole line at most a part of
-- one more was written.
pub record HasWhatTurnsTold (start : Store ℕ) (written : List ℕ) (store : Store ℕ) : Type 0 where
  pub new : Store ℕ
  pub complete : AllByRecursion IsComplete new
  pub there : (e : Entry (Subvolume ℕ)) → IsIn e new → IsIn e store
  pub kept : (e : Entry (Subvolume ℕ)) → IsComplete e → IsIn e start → IsIn e store
  pub enough : lines_in written ≤ length new
  pub part : List ℕ
  pub lines : written ≡ flat_map complete_line (take (lines_in written) new) ++ part
  pub part_is : lines_in part ≡ 0

abbrev pub StandsForWhatTurnsTold : Store ℕ → (written image : List ℕ) → Type 0
StandsForWhatTurnsTold start written image =
    (now : Store ℕ) × StandsFor image now × HasWhatTurnsTold start written now

-- An image on the way stands for such a store.
abbrev pub OnTurnWayIsTold : Type 0
OnTurnWayIsTold =
    (turns : InTurns) (before : List ℕ) (store : Store ℕ) (written image : List ℕ)
    → IsOnTurnWay turns before store written image
    → StandsForWhatTurnsTold store written image

-- What was written is in front of all lines.
abbrev pub OnTurnWayIsInFront : Type 0
OnTurnWayIsInFront =
    (turns : InTurns) (before : List ℕ) (store : Store ℕ) (written image : List ℕ)
    → IsOnTurnWay turns before store written image
    → (unwritten : List ℕ) × (taken_lines turns store ≡ written ++ unwritten)

-- It has the groups that were there, and behind them those of the first of the events.
abbrev pub OnTurnWayHasGroups : Type 0
OnTurnWayHasGroups =
    (turns : InTurns) (before : List ℕ) (store : Store ℕ) (written image : List ℕ)
    → IsOnTurnWay turns before store written image
    → (stands : StandsFor before store) × ((first more : List Event)
    × ((taken_turns turns store).events ≡ first ++ more)
    × HasGroups stands.header (map body_bytes (stands.groups ++ turn_groups first)) image)

-- Whatever the status, the image stands for a store that has an entry for each whole line.
abbrev pub TurnsAreTold : Type 0
TurnsAreTold =
    (turns : InTurns) (before : List ℕ) (store : Store ℕ) (answer : Answer) (written image : List ℕ)
    → StandsFor before store
    → TurnsAnswer turns before answer written image → StandsForWhatTurnsTold store written image

-- With status 0, and where a session is refused, all lines were written, and the image stands for
-- the store that all turns leave.
abbrev pub TurnsAreDone : Type 0
TurnsAreDone =
    (turns : InTurns) (before : List ℕ) (store : Store ℕ) (written image : List ℕ)
    → AllByRecursion IsBytes turns.files → StandsFor before store
    → TurnsAnswer turns before (OfAnyWord Done) written image
    → (written ≡ taken_lines turns store) × StandsFor image (taken_turns turns store).store

abbrev pub TurnsAreRefused : Type 0
TurnsAreRefused =
    (turns : InTurns) (before : List ℕ) (store : Store ℕ) (verdict : Verdict)
    (written image : List ℕ) → AllByRecursion IsBytes turns.files → StandsFor before store
    → TurnsAnswer turns before (OfAnyWord (Refused verdict)) written image
    → (written ≡ taken_lines turns store) × StandsFor image (taken_turns turns store).store

-- What has no room goes past the limit of the image's header, behind the groups that are there.
abbrev pub TurnsAreFull : Type 0
TurnsAreFull =
    (turns : InTurns) (before : List ℕ) (store : Store ℕ) (place wanted most : ℕ)
    (written image : List ℕ) → StandsFor before store
    → TurnsAnswer turns before (LogFull place wanted most) written image
    → (stands : StandsFor before store) × (most ≡ limit_of stands.header)
    × (most < place + wanted + reserve)
    × (dues.LogFull place wanted most
    ≡ (interleave_end
    (room_of most
    (length (front_of stands.header (map body_bytes stands.groups)))) store turns).due)

-- Where standard output failed, some of the lines is missing.
abbrev pub TurnsAreCut : Type 0
TurnsAreCut =
    (turns : InTurns) (before : List ℕ) (store : Store ℕ) (written image : List ℕ)
    → StandsFor before store
    → TurnsAnswer turns before (OfAnyWord OutputFault) written image
    → IsProperFrontOf (taken_lines turns store) written

-- Where the image stands for no store, nothing is written, changed or read, and so neither standard
-- output nor an input fails.
abbrev pub NoTurnsOverNone : Type 0
NoTurnsOverNone =
    (turns : InTurns) (before : List ℕ) (group : ℕ) (answer : Answer) (written image : List ℕ)
    → StandsForNone before group
    → TurnsAnswer turns before answer written image
    → (written ≡ []) × (image ≡ before) × (answer ≢ OfAnyWord OutputFault)
    × (answer ≢ OfAnyWord InputFault)

-- Of a file that is too long what stands before the limit is read, and nothing behind it; any other
-- is read whole.
abbrev pub LongIsCut : Type 0
LongIsCut = (store : Store ℕ) (schedule : List ℕ) (file : List ℕ) (guards : List Guard)
    (shares : List ℕ) → is_too_long 1 file ≡ true
    → (sessions_of (file ∷ []) guards shares ≡ sessions_from 1 (take limit file ∷ []) guards shares)
    × (taken_turns (in_turns schedule (file ∷ []) guards shares) store
    ≡ turns_of store schedule (take limit file ∷ []) guards shares)

abbrev pub ShortIsWhole : Type 0
ShortIsWhole =
    (store : Store ℕ) (schedule : List ℕ) (file : List ℕ) (guards : List Guard) (shares : List ℕ)
    → is_too_long 1 file ≡ false
    → (sessions_of (file ∷ []) guards shares ≡ sessions_from 1 (file ∷ []) guards shares)
    × (taken_turns (in_turns schedule (file ∷ []) guards shares) store
    ≡ turns_of store schedule (file ∷ []) guards shares)
