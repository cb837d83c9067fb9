use Rattle.std.specs.String.{string_bytes}
use Rattle.std.proofs.Common.{◌≡◌, ◌++◌, map, drop}
use Rattle.send_model.specs.Words.{new_guards}
use Rattle.guard_rules.specs.AnyKind.{any_kept}
use Rattle.command_line.specs.Given.{guards_in}
use Rattle.command_line.proofs.guard_arguments.guards_among.Given as goal

abbrev pub invariant-loop-place : goal.invariant-loop-place
invariant-loop-place l =
    map any_kept l.guards.items ++ new_guards (guards_in (drop l.place (map string_bytes l.words))) ≡ new_guards (guards_in (map string_bytes l.words))
