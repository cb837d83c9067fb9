use Rattle.std.specs.Prelude.{ℕ, List, map}
use Rattle.std.specs.String.{string_bytes}
use Rattle.std.proofs.Common.{sym, ap, ◌∙◌}
use Rattle.command_line.specs.Given.{Turns, turns_given}
use Rattle.command_line.proofs.TurnsAmong.{stand, guards_in_turn}
use Rattle.command_line.proofs.turn_arguments.TurnArguments.guards.Goals as goal

pub returns : goal.returns
returns c =
    let schedule : List ℕ = c.self.inside.schedule.now in
    let words : List (List ℕ) = map string_bytes c.self.inside.words.now in
    c.among.ensures
    ∙ sym (guards_in_turn words (turns_given schedule words).files (stand schedule words c.self.invariant).files)
    ∙ ap (λ (turns : Turns). turns.files.guards) c.self.view_is
