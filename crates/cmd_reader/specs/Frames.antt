-- A frame that a reader has gone past, before anything is read of its body.
use Rattle.std.specs.Prelude.{◌≡◌, ℕ, ◌+◌, ◌<◌, ◌≤◌, true, List, length, drop, Option, None, Some, Result, Ok, Err, ⊤}
use Rattle.send_model.specs.Spelling.{greatest_body}
use Rattle.send_model.specs.Reading.{is_version}
use Rattle.send_model.specs.Lengths.{limit}
use Rattle.tlv_frame.specs.Feeding.{Handed}
use Rattle.tlv_frame.specs.declared.feed.Passed.TheVariants as passed
use Rattle.tlv_frame.specs.declared.frame_head.FrameHead.{FrameHead}
use Rattle.cmd_reader.specs.declared.front.FrameAt.{FrameAt}
use Rattle.cmd_reader.specs.declared.item.ReadStop.{ReadStop}
use Rattle.cmd_reader.specs.declared.item.ReadStop.TheVariants as stop
use Rattle.cmd_reader.specs.Places.{IfTold}
use Rattle.cmd_reader.specs.Sources.{HasPassed, StandsThere}
use Rattle.cmd_reader.specs.Left.{Reader}
use Rattle.cmd_reader.specs.Next.{HasBegun, BeginsAt, Says, EndsAfterEnd}

-- The frame at a reader's place, by its version and its header.
abbrev pub frame_here : Reader → ℕ → FrameHead → FrameAt
frame_here r version head =
    record {
      file = r.file;
      number = r.number;
      offset = r.offset;
      version = version;
      cmd = head.cmd;
    }

-- The frame at a reader's place was gone past.
pub record HasGonePast (told : Option (List (List ℕ × List ℕ))) (old new : Reader)
    (frame : FrameAt) : Type 0 where
  pub version : ℕ
  pub head : FrameHead
  pub h : Handed
  pub is : frame ≡ frame_here old version head
  pub file : new.file ≡ old.file
  pub name : new.name ≡ old.name
  pub number : new.number ≡ old.number + 1
  pub within : new.offset ≤ limit
  pub passes : HasPassed old.offset old.fed new.offset new.fed (passed.Frame head version) h
  pub stands : IfTold told old.name (StandsThere old.offset old.fed new.offset new.fed h)

-- Headers were gone past, and then a frame.
pub record HasReached (told : Option (List (List ℕ × List ℕ))) (old new : Reader)
    (frame : FrameAt) : Type 0 where
  pub mid : Reader
  pub begun : HasBegun old mid
  pub begins : IfTold told old.name (BeginsAt old mid)
  pub past : HasGonePast told mid new frame

-- What holds of a frame that was gone past, for who reads its body.
pub record FrameFits (new : Reader) (frame : FrameAt) : Type 0 where
  pub place : frame.offset ≤ limit
  pub long : 10 ≤ length new.fed.last
  pub short : length (drop 10 new.fed.last) ≤ greatest_body
  pub version : is_version frame.version ≡ true

-- One step: a header was passed, or there is an answer.
abbrev pub StepSays : Option (List (List ℕ × List ℕ)) → Reader → Reader → ℕ → ℕ
    → Option (Result (Option FrameAt) ReadStop) → Type 0
StepSays told old new before now None =
    (HasBegun old new × ((old.offset < new.offset) × (new.offset ≤ limit)))
    × IfTold told old.name (BeginsAt old new)
StepSays told old new before now (Some answer) =
    EndsAfterEnd old answer × Says (HasGonePast told old new) told old before now answer

-- All steps up to an answer.
abbrev pub FrameSays : Option (List (List ℕ × List ℕ)) → Reader → Reader → ℕ → ℕ
    → Result (Option FrameAt) ReadStop → Type 0
FrameSays told old new before now answer =
    EndsAfterEnd old answer × Says (HasReached told old new) told old before now answer

-- Where there is no frame, none was gone past; a refusal stands where the reader stands.
abbrev pub Halts : Reader → Reader → Result (Option FrameAt) ReadStop → Type 0
Halts old new (Ok (Some frame)) = ⊤
Halts old new (Ok None) = HasBegun old new
Halts old new (Err (stop.Refused verdict)) = HasBegun old new × (new.offset ≡ verdict.offset)
Halts old new (Err stop.InputFault) = HasBegun old new
Halts old new (Err stop.InputTooLong) = HasBegun old new

-- The same after one step.
abbrev pub StepHalts : Reader → Reader → Option (Result (Option FrameAt) ReadStop) → Type 0
StepHalts old new None = ⊤
StepHalts old new (Some answer) = Halts old new answer
