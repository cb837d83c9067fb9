-- The item of a frame and what is seen of it, or the answer that there is none.
use Rattle.std.specs.Prelude.{◌≡◌, ℕ, List, Result, Ok, Err, IfSome}
use Rattle.send_model.specs.Refusal.{Refusal}
use Rattle.send_model.specs.Reading as reading
use Rattle.sx_base.specs.Refusals.{refusal_of, verdict_meant}
use Rattle.sx_base.specs.declared.outcome.Verdict.{Verdict}
use Rattle.cmd_reader.specs.declared.fault.Fault.{Fault}
use Rattle.cmd_reader.specs.declared.fault.Fault.TheVariants.{Refused, InputFault, InputTooLong}
use Rattle.send_commands.specs.Meaning.{meaning_of}
use Rattle.send_commands.specs.Writing.{IsWritable}
use Rattle.cmd_reader.specs.declared.front.FrameAt.{FrameAt}
use Rattle.cmd_reader.specs.declared.item.Item.{Item}
use Rattle.cmd_reader.specs.declared.item.Glance.{Glance}
use Rattle.cmd_reader.specs.declared.item.ReadStop.{ReadStop}
use Rattle.cmd_reader.specs.declared.item.ReadStop.TheVariants as stop
use Rattle.cmd_reader.specs.Commands.{body_read, CommandIs, CommandFits}
use Rattle.cmd_reader.specs.Mentions.{MentionIs}

-- A refusal at a place.
abbrev pub verdict_at : ℕ → ℕ → ℕ → Refusal → reading.Verdict
verdict_at file number offset refusal =
    record { file = file; command = number; offset = offset; refusal = refusal }

-- An answer that no command was read, for a fault at a place.
abbrev pub StopAt : ℕ → ℕ → ℕ → Fault → ReadStop → Type 0
StopAt file number offset (Refused refusal) (stop.Refused verdict) =
    verdict_meant verdict ≡ verdict_at file number offset (refusal_of refusal)
StopAt file number offset (Refused refusal) stop.InputFault = ⊥
StopAt file number offset (Refused refusal) stop.InputTooLong = ⊥
StopAt file number offset InputFault why = why ≡ stop.InputFault
StopAt file number offset InputTooLong why = why ≡ stop.InputTooLong

-- The item of a frame, by its body.
pub record ItemIs (frame : FrameAt) (body : List ℕ) (item : Item) : Type 0 where
  pub number_is : item.number ≡ frame.number
  pub offset_is : item.offset ≡ frame.offset
  pub version_is : item.version ≡ frame.version
  pub command_is : CommandIs frame.offset frame.version frame.cmd body
      (meaning_of item.command) item.data_at
  pub fits : CommandFits frame.version body
      (record { command = item.command; data_at = item.data_at; canonical = item.canonical })

-- What is seen of the command of a frame, by its body.
pub record GlanceIs (frame : FrameAt) (body : List ℕ) (glance : Glance) : Type 0 where
  pub version_is : glance.version ≡ frame.version
  pub mention_is : MentionIs frame.version frame.cmd body glance.mention
  pub writable : IfSome glance.mention (λ command. IsWritable glance.version (meaning_of command))

-- What a body says is refused, at the frame's place.
abbrev pub IsRefusedAt : FrameAt → List ℕ → Verdict → Type 0
IsRefusedAt frame body verdict =
    (body_read frame.version frame.cmd body ≡ Err (refusal_of verdict.refusal))
    × (verdict_meant verdict
    ≡ verdict_at frame.file frame.number frame.offset (refusal_of verdict.refusal))

-- What is made of a frame by its body, or that it is refused.
abbrev pub BodySays : {T : Type 0} → (T → Type 0) → FrameAt → List ℕ → Result T Verdict → Type 0
BodySays made frame body (Ok x) = made x
BodySays made frame body (Err verdict) = IsRefusedAt frame body verdict

abbrev pub ItemSays : FrameAt → List ℕ → Result Item Verdict → Type 0
ItemSays frame body result = BodySays (ItemIs frame body) frame body result

abbrev pub GlanceSaid : FrameAt → List ℕ → Result Glance Verdict → Type 0
GlanceSaid frame body result = BodySays (GlanceIs frame body) frame body result
