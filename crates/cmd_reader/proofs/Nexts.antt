-- What going past a frame and reading it say together of the next command: for callers that read on
-- in a loop.
use Rattle.std.specs.Prelude.{◌≡◌, ℕ, true, List, drop, Option, None, Some, Ok, Err}
use Rattle.std.proofs.Common.{refl}
use Rattle.send_model.specs.Attribute.{IsBytes}
use Rattle.sx_base.specs.declared.outcome.Verdict.{Verdict}
use Rattle.cmd_reader.specs.declared.front.FrameAt.{FrameAt}
use Rattle.cmd_reader.specs.declared.item.Item.{Item}
use Rattle.cmd_reader.specs.declared.item.Glance.{Glance}
use Rattle.cmd_reader.specs.declared.item.ReadStop.{ReadStop}
use Rattle.cmd_reader.specs.declared.item.ReadStop.TheVariants as stop
use Rattle.cmd_reader.specs.Places.{IfTold}
use Rattle.cmd_reader.specs.Left.{Reader}
use Rattle.cmd_reader.specs.Next.{IsNext, NextSays, ItemFits}
use Rattle.cmd_reader.specs.Glances.{IsGlance, GlanceSays, GlanceFits}
use Rattle.cmd_reader.specs.Frames.{FrameSays, Halts}
use Rattle.cmd_reader.specs.Items.{ItemSays, GlanceSaid}
use Rattle.cmd_reader.specs.Stands.{HasPassedFrame, NextStands, GlanceStands}
use Rattle.cmd_reader.proofs.Goings.{item_said, glance_said, ended_said, stopped_said}
use Rattle.cmd_reader.proofs.Standing.{ended_stands, stopped_stands, item_stands, glance_stands}

-- ---- a command that was read

-- All that is known of it.
pub record IsGiven (told : Option (List (List ℕ × List ℕ))) (old new : Reader) (item : Item) : Type 0 where
  pub fits : ItemFits old new item
  pub read : NextSays told old new 0 0 (Ok (Some item))
  pub stands : NextStands told old new (Ok (Some item))

pub given_next : (told : Option (List (List ℕ × List ℕ))) (old new : Reader) (o : Option FrameAt) (frame : FrameAt) (item : Item) → o ≡ Some frame → FrameSays told old new 0 0 (Ok o) → IsBytes new.fed.last → ItemSays frame (drop 10 new.fed.last) (Ok item) → IsGiven told old new item
given_next told old new o frame item is says bytes read =
    let said = item_said told old new 0 0 o frame (drop 10 new.fed.last) (Ok item) is says refl bytes read in
    record {
      fits = said.0.0;
      read = said.1;
      stands = item_stands told old new 0 0 o frame (drop 10 new.fed.last) (Ok item) is says read;
    }

-- Its frame is refused.
pub refused_next : (told : Option (List (List ℕ × List ℕ))) (old new : Reader) (o : Option FrameAt) (frame : FrameAt) (verdict : Verdict) → o ≡ Some frame → FrameSays told old new 0 0 (Ok o) → IsBytes new.fed.last → ItemSays frame (drop 10 new.fed.last) (Err verdict) → NextSays told old new 0 0 (Err (stop.Refused verdict))
refused_next told old new o frame verdict is says bytes read = (item_said told old new 0 0 o frame (drop 10 new.fed.last) (Err verdict) is says refl bytes read).1

pub refused_stands : (told : Option (List (List ℕ × List ℕ))) (old new : Reader) (o : Option FrameAt) (frame : FrameAt) (verdict : Verdict) → o ≡ Some frame → FrameSays told old new 0 0 (Ok o) → ItemSays frame (drop 10 new.fed.last) (Err verdict) → NextStands told old new (Err (stop.Refused verdict))
refused_stands told old new o frame verdict is says read = item_stands told old new 0 0 o frame (drop 10 new.fed.last) (Err verdict) is says read

-- ---- what is seen of a command

pub record IsSeen (told : Option (List (List ℕ × List ℕ))) (old new : Reader) (glance : Glance) : Type 0 where
  pub fits : GlanceFits old new glance
  pub read : GlanceSays told old new 0 0 (Ok (Some glance))
  pub stands : GlanceStands told old new (Ok (Some glance))

pub given_glance : (told : Option (List (List ℕ × List ℕ))) (old new : Reader) (o : Option FrameAt) (frame : FrameAt) (glance : Glance) → o ≡ Some frame → FrameSays told old new 0 0 (Ok o) → GlanceSaid frame (drop 10 new.fed.last) (Ok glance) → IsSeen told old new glance
given_glance told old new o frame glance is says read =
    let said = glance_said told old new 0 0 o frame (drop 10 new.fed.last) (Ok glance) is says refl read in
    record {
      fits = said.0.0;
      read = said.1;
      stands = glance_stands told old new 0 0 o frame (drop 10 new.fed.last) (Ok glance) is says read;
    }

pub refused_glance : (told : Option (List (List ℕ × List ℕ))) (old new : Reader) (o : Option FrameAt) (frame : FrameAt) (verdict : Verdict) → o ≡ Some frame → FrameSays told old new 0 0 (Ok o) → GlanceSaid frame (drop 10 new.fed.last) (Err verdict) → GlanceSays told old new 0 0 (Err (stop.Refused verdict))
refused_glance told old new o frame verdict is says read = (glance_said told old new 0 0 o frame (drop 10 new.fed.last) (Err verdict) is says refl read).1

-- ---- no frame

-- The file ends.
pub ended_next : (told : Option (List (List ℕ × List ℕ))) (old new : Reader) (o : Option FrameAt) → o ≡ None → FrameSays told old new 0 0 (Ok o) → NextSays told old new 0 0 (Ok None)
ended_next told old new o none says = (ended_said (λ (item : Item). IfTold told old.name (IsNext old new item)) told old new 0 0 o none says).1

pub ended_glance : (told : Option (List (List ℕ × List ℕ))) (old new : Reader) (o : Option FrameAt) → o ≡ None → FrameSays told old new 0 0 (Ok o) → GlanceSays told old new 0 0 (Ok None)
ended_glance told old new o none says = (ended_said (IsGlance told old new) told old new 0 0 o none says).1

-- It ends behind END alone.
pub ended_behind : (told : Option (List (List ℕ × List ℕ))) (old new : Reader) (o : Option FrameAt) → o ≡ None → FrameSays told old new 0 0 (Ok o) → old.fed.ended ≡ true
ended_behind told old new o none says = (ended_said (λ (item : Item). IfTold told old.name (IsNext old new item)) told old new 0 0 o none says).0

pub ended_there : (told : Option (List (List ℕ × List ℕ))) (old new : Reader) (o : Option FrameAt) → o ≡ None → Halts old new (Ok o) → NextStands told old new (Ok None)
ended_there told old new o none halts = ended_stands (λ (item : Item). HasPassedFrame told old new item.offset) told old new o none halts

-- It is not read on.
pub stopped_next : (told : Option (List (List ℕ × List ℕ))) (old new : Reader) (before now : ℕ) (why : ReadStop) → FrameSays told old new before now (Err why) → NextSays told old new before now (Err why)
stopped_next told old new before now why says = stopped_said (λ (item : Item). IfTold told old.name (IsNext old new item)) told old new before now why says

pub stopped_glance : (told : Option (List (List ℕ × List ℕ))) (old new : Reader) (before now : ℕ) (why : ReadStop) → FrameSays told old new before now (Err why) → GlanceSays told old new before now (Err why)
stopped_glance told old new before now why says = stopped_said (IsGlance told old new) told old new before now why says

pub stopped_there : (told : Option (List (List ℕ × List ℕ))) (old new : Reader) (why : ReadStop) → Halts old new (Err why) → NextStands told old new (Err why)
stopped_there told old new why halts = stopped_stands (λ (item : Item). HasPassedFrame told old new item.offset) told old new why halts
