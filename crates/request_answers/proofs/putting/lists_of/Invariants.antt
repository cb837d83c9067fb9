use Rattle.std.specs.Prelude.{◌≡◌, map, ◌++◌}
use Rattle.guard_rules.specs.AnyKind.{any_kept}
use Rattle.request_answers.proofs.putting.lists_of.Given as goal

abbrev pub invariant-loop-own : goal.invariant-loop-own
invariant-loop-own l =
    (map (λ list. map any_kept list.guards.items) l.lists.items ≡ map (λ own. map any_kept own.items) l.yielded)
    × (l.yielded ++ l.own-iterator.rest.items ≡ l.fn.guards.items)
