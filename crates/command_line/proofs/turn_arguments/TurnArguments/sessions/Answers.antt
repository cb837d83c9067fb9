use Rattle.std.specs.Prelude.{◌≡◌, ◌≢◌, ℕ, List, [], length, map}
use Rattle.std.specs.String.{string_bytes}
use Rattle.std.proofs.Common.{subst}
use Rattle.program_model.proofs.TurnWords.{as_many}
use Rattle.command_line.specs.Given.{Turns, turns_given}
use Rattle.command_line.proofs.TurnsAmong.{stand}
use Rattle.command_line.proofs.turn_arguments.TurnArguments.sessions.Goals as goal

pub returns-clause-some : goal.returns-clause-some
returns-clause-some c =
    subst (λ (turns : Turns). turns.files.files ≢ []) c.self.view_is
    (stand c.self.inside.schedule.now (map string_bytes c.self.inside.words.now) c.self.invariant).some

pub returns-clause-as_many : goal.returns-clause-as_many
returns-clause-as_many c =
    let words : List (List ℕ) = map string_bytes c.self.inside.words.now in
    let turns : Turns = turns_given c.self.inside.schedule.now words in
    subst (λ (t : Turns). length t.files.shares ≡ length t.files.files) c.self.view_is
    (as_many words turns.files (stand c.self.inside.schedule.now words c.self.invariant).files)
