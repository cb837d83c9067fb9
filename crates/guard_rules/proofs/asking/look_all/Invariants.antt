use Rattle.std.proofs.Common.{map}
use Rattle.send_commands.specs.Meaning.{meaning_of}
use Rattle.guard_rules.proofs.Questions.{IsAsked}
use Rattle.guard_rules.proofs.asking.look_all.Given as goal

abbrev pub invariant-loop-place : goal.invariant-loop-place
invariant-loop-place g l =
    IsAsked (map (λ b. (goal.Guard-dyn g (b.vtable, b.value)).kept b.value) l.fn.guards) (map (λ b. (goal.Guard-dyn g (b.vtable, b.value)).kept b.value) l.guards) l.place (meaning_of l.fn.command)
