use Rattle.std.proofs.Common.{map, drop, length, ◌≤◌}
use Rattle.std.specs.String.{string_bytes}
use Rattle.send_model.specs.Words.{new_guards}
use Rattle.command_line.specs.Given.{guards_in}
use Rattle.command_line.proofs.GuardsBeside.{Fit}
use Rattle.command_line.proofs.guard_arguments.are_those_among.Given as goal

abbrev pub invariant-loop-place : goal.invariant-loop-place
invariant-loop-place g l =
    Fit (map (λ b. (goal.Guard-dyn g (b.vtable, b.value)).kept b.value) l.fn.guards) l.at (drop l.place (map string_bytes l.fn.words)) (new_guards (guards_in (map string_bytes l.fn.words)))
    × (l.at ≤ length l.fn.guards)
