use Rattle.std.specs.Prelude.{ℕ, ◌-◌, ◌≤◌, ◌<◌, List, length, map}
use Rattle.std.specs.List.{AllByRecursion}
use Rattle.std.specs.String.{string_bytes}
use Rattle.std.proofs.Common.{sym, ap, subst, ◌∙◌}
use Rattle.command_line.specs.Given.{Turns}
use Rattle.command_line.proofs.TurnsAmong.{places_are, letters_are}
use Rattle.command_line.proofs.turn_arguments.TurnArguments.schedule.Goals as goal

pub returns-clause-places : goal.returns-clause-places
returns-clause-places c =
    ap (λ (word : List ℕ). map (λ letter. letter - 48) word) c.as_bytes.ensures.value
    ∙ places_are c.self.inside.schedule.now (map string_bytes c.self.inside.words.now) c.self.invariant
    ∙ ap (λ (turns : Turns). turns.schedule) c.self.view_is

pub returns-clause-within : goal.returns-clause-within
returns-clause-within c =
    subst (λ (word : List ℕ). AllByRecursion (λ letter. (48 ≤ letter) × (letter - 48 < length c.args.self.now.files.files)) word) (sym c.as_bytes.ensures.value)
    (subst (λ (turns : Turns). AllByRecursion (λ letter. (48 ≤ letter) × (letter - 48 < length turns.files.files)) c.self.inside.schedule.now) c.self.view_is
    (letters_are c.self.inside.schedule.now (map string_bytes c.self.inside.words.now) c.self.invariant))
