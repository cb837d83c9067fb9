-- What `text` and `pack` answer, in the words of calls.
use Rattle.std.specs.Prelude.{ℕ, List}
use Rattle.send_model.specs.Due.{file_due}
use Rattle.send_model.specs.Headline.{IsFrontOf}
use Rattle.sx_base.specs.Calls.{EndsAs}
use Rattle.sx_base.specs.declared.outcome.Outcome.{Outcome}
use Rattle.stream_dump.specs.Written.{StandsAs}
use Rattle.text_model.specs.Texts.{text_in}

-- The answer that is due to the file, and its lines: all of them where the file decides, and a
-- front part of them where something else ends the call.
abbrev pub TextEnds : List ℕ → Outcome → List ℕ → Type 0
TextEnds bytes outcome written =
    EndsAs (file_due bytes) (StandsAs (text_in bytes)) (IsFrontOf (text_in bytes))
    (IsFrontOf (text_in bytes)) outcome written
