-- Where a reader stands after a call, whatever the call answered.
use Rattle.std.specs.Prelude.{◌≡◌, ◌⊎◌, ℕ, ◌+◌, ◌≤◌, List, length, take, drop, Option, None, Some, Result, Ok, Err}
use Rattle.send_model.specs.Reading.{Frame, frame_at}
use Rattle.send_model.specs.Lengths.{limit}
use Rattle.tlv_frame.specs.Feeding.{is_end, due_past}
use Rattle.cmd_reader.specs.declared.item.Item.{Item}
use Rattle.cmd_reader.specs.declared.item.Glance.{Glance}
use Rattle.cmd_reader.specs.declared.item.ReadStop.{ReadStop}
use Rattle.cmd_reader.specs.declared.item.ReadStop.TheVariants as stop
use Rattle.cmd_reader.specs.Places.{IfTold}
use Rattle.cmd_reader.specs.Left.{Reader}
use Rattle.cmd_reader.specs.Next.{HasBegun}

-- One frame was gone past, behind any headers. It begins at this place and ends where the reader
-- stands; its bytes are the last ones, and those of the file. What is due, and whether a stream has
-- ended, is what its number says.
pub record HasPassedFrame (told : Option (List (List ℕ × List ℕ))) (old new : Reader)
    (at : ℕ) : Type 0 where
  pub version : ℕ
  pub frame : Frame
  pub number : new.number ≡ old.number + 1
  pub behind : old.offset ≤ at
  pub reaches : new.offset ≡ at + length new.fed.last
  pub within : new.offset ≤ limit
  pub read : frame_at new.fed.last ≡ Ok frame
  pub due : new.fed.due ≡ due_past version frame.number
  pub at_end : new.fed.ended ≡ is_end frame.number
  pub bytes : IfTold told old.name
      (λ file. new.fed.last ≡ take (length new.fed.last) (drop at file))

-- After something that was given, this; after the end or a fault of the inputs, no frame was gone
-- past. A refusal stands either where the reader stands, before a header or frame that is not
-- there, or where a frame begins that was gone past and whose body was refused.
abbrev pub Stands : {T : Type 0} → (T → Type 0) → Option (List (List ℕ × List ℕ)) → Reader → Reader
    → Result (Option T) ReadStop → Type 0
Stands given told old new (Ok (Some x)) = given x
Stands given told old new (Ok None) = HasBegun old new
Stands given told old new (Err (stop.Refused verdict)) =
    (HasBegun old new × (new.offset ≡ verdict.offset)) ⊎ HasPassedFrame told old new verdict.offset
Stands given told old new (Err stop.InputFault) = HasBegun old new
Stands given told old new (Err stop.InputTooLong) = HasBegun old new

-- After an item, behind its frame.
abbrev pub NextStands : Option (List (List ℕ × List ℕ)) → Reader → Reader
    → Result (Option Item) ReadStop → Type 0
NextStands told old new result =
    Stands (λ (item : Item). HasPassedFrame told old new item.offset) told old new result

-- After a glance, behind the frame that was seen.
abbrev pub GlanceStands : Option (List (List ℕ × List ℕ)) → Reader → Reader
    → Result (Option Glance) ReadStop → Type 0
GlanceStands told old new result =
    Stands (λ (glance : Glance). (at : ℕ) × HasPassedFrame told old new at) told old new result
