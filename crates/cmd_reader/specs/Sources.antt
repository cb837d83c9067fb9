-- The bytes of a file, read piece by piece, as headers and frames.
use Rattle.std.specs.Prelude.{◌≡◌, ℕ, ◌+◌, ◌<◌, ◌≤◌, Bool, true, false, List, ◌++◌, length, take, drop, Option, None, Some, Result, Ok, Err, ⊤}
use Rattle.std.specs.String.{string_bytes}
use Rattle.send_model.specs.Refusal as meant
use Rattle.send_model.specs.Reading.{Due, header_len, frame_header_len}
use Rattle.send_model.specs.Lengths.{limit, is_truncated}
use Rattle.sx_base.specs.Causes.{Rose}
use Rattle.sx_base.specs.Refusals.{refusal_of}
use Rattle.tlv_frame.specs.Feeding.{Fed, Handed, handed, fed_with, passed_piece, PassedFits, PassedDue}
use Rattle.tlv_frame.specs.declared.feed.Passed.{Passed}
use Rattle.tlv_frame.specs.declared.feed.Passed.TheVariants as passed
use Rattle.cmd_reader.specs.declared.source.Source.{Source}
use Rattle.cmd_reader.specs.declared.fault.Fault.{Fault}
use Rattle.cmd_reader.specs.declared.fault.Fault.TheVariants as fault
use Rattle.cmd_reader.specs.Places.{IfTold}
use Rattle.cmd_reader.specs.Fronts.{IsLongAt}

-- The feed has the bytes from the place of the next header or frame on up to a place that is not
-- behind the limit.
pub record IsSource (source : Source) : Type 0 where
  pub up_to : source.at + length source.feed.left ≡ source.fed
  pub within : source.fed ≤ limit
  pub room : length source.piece.items ≡ 65_536

-- What a feed has and has not handed out is the file's bytes from a place on, and it has refused
-- none.
pub record IsAhead (at : ℕ) (feed : Fed) (file : List ℕ) : Type 0 where
  pub good : feed.refused ≡ None
  pub bytes : drop at file ≡ feed.left ++ drop (at + length feed.left) file

abbrev pub unit_len : Passed → ℕ
unit_len (passed.Head head) = header_len
unit_len (passed.Frame head version) = frame_header_len + head.len

-- The inputs failed, where there is no answer.
abbrev pub IsInputFault : ℕ → ℕ → Result ℕ Fault → Type 0
IsInputFault before now (Ok count) = ⊤
IsInputFault before now (Err (fault.Refused refusal)) = ⊥
IsInputFault before now (Err fault.InputFault) = Rose before now
IsInputFault before now (Err fault.InputTooLong) = ⊥

-- More bytes were given.
pub record HasMore (old new : Source) : Type 0 where
  pub piece : List ℕ
  pub feed : new.feed ≡ fed_with piece old.feed
  pub further : old.fed < new.fed

-- The file ends where a feed's bytes end, and before the limit.
pub record EndsThere (at : ℕ) (feed : Fed) (file : List ℕ) : Type 0 where
  pub all : drop at file ≡ feed.left
  pub early : length file < limit

abbrev pub MoreSays : Option (List (List ℕ × List ℕ)) → Source → Source → ℕ → ℕ → Result Bool Fault
    → Type 0
MoreSays told old new before now (Ok true) =
    HasMore old new × IfTold told (string_bytes old.name) (IsAhead new.at new.feed)
MoreSays told old new before now (Ok false) =
    (new.feed ≡ old.feed) × IfTold told (string_bytes old.name) (EndsThere old.at old.feed)
MoreSays told old new before now (Err (fault.Refused refusal)) = ⊥
MoreSays told old new before now (Err fault.InputFault) = (new.feed ≡ old.feed) × Rose before now
MoreSays told old new before now (Err fault.InputTooLong) =
    (new.feed ≡ old.feed) × (old.fed ≡ limit)

-- A feed at a place went past the header or frame that stood in front of its bytes.
pub record HasPassed (at : ℕ) (feed : Fed) (next : ℕ) (new : Fed) (unit : Passed)
    (h : Handed) : Type 0 where
  pub front : List ℕ
  pub comes : handed feed.due front ≡ Ok h
  pub piece : h.piece ≡ passed_piece new unit
  pub fits : PassedFits new unit
  pub was_due : PassedDue feed.due unit
  pub due : new.due ≡ h.due
  pub ended : new.ended ≡ h.ended
  pub taken : h.taken ≡ unit_len unit
  pub place : next ≡ at + h.taken
  pub bytes : new.last ≡ take h.taken front

-- It is the one that stands in the file.
pub record StandsThere (at : ℕ) (feed : Fed) (next : ℕ) (new : Fed) (h : Handed)
    (file : List ℕ) : Type 0 where
  pub here : handed feed.due (drop at file) ≡ Ok h
  pub bytes : new.last ≡ take h.taken (drop at file)
  pub ahead : IsAhead next new file

-- Nothing was gone past.
pub record HasStayed (at : ℕ) (feed : Fed) (next : ℕ) (new : Fed) : Type 0 where
  pub place : next ≡ at
  pub due : new.due ≡ feed.due
  pub ended : new.ended ≡ feed.ended

-- All that is left of the file is cut short.
pub record IsCutShort (at : ℕ) (feed : Fed) (file : List ℕ) : Type 0 where
  pub ends : EndsThere at feed file
  pub cut : handed feed.due feed.left ≡ Err meant.Truncated

-- What is left is refused.
abbrev pub NotThere : ℕ → Due → meant.Refusal → List ℕ → Type 0
NotThere at due refusal file = handed due (drop at file) ≡ Err refusal

-- For a reason that is in the bytes that are there.
abbrev pub BadThere : ℕ → Due → meant.Refusal → List ℕ → Type 0
BadThere at due refusal file = NotThere at due refusal file × (is_truncated refusal ≡ false)

-- A file by its name, where the inputs tell it, and a place in it with a feed there, before and
-- after.
pub record Pass : Type 0 where
  pub told : Option (List (List ℕ × List ℕ))
  pub name : List ℕ
  pub at : ℕ
  pub feed : Fed
  pub next : ℕ
  pub new : Fed

-- A header or frame was gone past, and it is the one that stands in the file.
abbrev pub GoesPast : Pass → Passed → Type 0
GoesPast p unit =
    (h : Handed)
    × (HasPassed p.at p.feed p.next p.new unit h
    × IfTold p.told p.name (StandsThere p.at p.feed p.next p.new h))

-- None was, and this holds of the file.
abbrev pub Stays : Pass → (List ℕ → Type 0) → Type 0
Stays p P = HasStayed p.at p.feed p.next p.new × IfTold p.told p.name P

abbrev pub PassSays : Pass → (before now : ℕ) → Result (Option Passed) Fault → Type 0
PassSays p before now (Ok (Some unit)) = GoesPast p unit
PassSays p before now (Ok None) = Stays p (IsCutShort p.next p.new)
PassSays p before now (Err (fault.Refused refusal)) =
    Stays p (BadThere p.at p.feed.due (refusal_of refusal))
PassSays p before now (Err fault.InputFault) = HasStayed p.at p.feed p.next p.new × Rose before now
PassSays p before now (Err fault.InputTooLong) =
    Stays p (IsLongAt p.at (NotThere p.at p.feed.due meant.Truncated))

-- The same of a source.
abbrev pub SourcePasses : Option (List (List ℕ × List ℕ)) → Source → Source → ℕ → ℕ
    → Result (Option Passed) Fault → Type 0
SourcePasses told old new before now result =
    PassSays (record {
      told = told;
      name = string_bytes old.name;
      at = old.at;
      feed = old.feed;
      next = new.at;
      new = new.feed;
    }) before now result

-- Where the inputs tell, the source's bytes are those of its file.
abbrev pub SourceAhead : Option (List (List ℕ × List ℕ)) → Source → Type 0
SourceAhead told source = IfTold told (string_bytes source.name) (IsAhead source.at source.feed)
