-- Which lines may stand behind each other: the header of a stream, its commands, END, and then
-- another stream. This program's own.
use Rattle.std.specs.Prelude.{◌≡◌, ℕ, true, List, [], ◌∷◌, Option, None, Some, if◌then◌else◌}
use Rattle.send_model.specs.Command.{Command}
use Rattle.send_model.specs.Reading.{is_version}
use Rattle.send_model.specs.Counts.{is_end}
use Rattle.send_model.specs.Laws.{CanWrite}
use Rattle.text_model.specs.Texts.{Line, Header, Says}

-- A command of a stream of a version is due, or the header of one.
abbrev pub due_behind : ℕ → Command → Option ℕ
due_behind version c = if is_end c then None else Some version

abbrev pub due_after_line : Line → Option ℕ
due_after_line (Header version) = Some version
due_after_line (Says version c) = due_behind version c

abbrev pub due_after : Option ℕ → List Line → Option ℕ
due_after due [] = due
due_after due (line ∷ lines) = due_after (due_after_line line) lines

-- A line that may stand where this is due.
abbrev pub IsDueLine : Option ℕ → Line → Type 0
IsDueLine None (Header version) = is_version version ≡ true
IsDueLine None (Says version c) = ⊥
IsDueLine (Some due) (Header version) = ⊥
IsDueLine (Some due) (Says version c) = (version ≡ due) × CanWrite due c

-- Lines that may stand one after the other.
abbrev pub Runs : Option ℕ → List Line → Type 0
Runs due [] = Unit {0}
Runs due (line ∷ lines) = IsDueLine due line × Runs (due_after_line line) lines
