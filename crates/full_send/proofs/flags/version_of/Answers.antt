use Rattle.std.specs.Prelude.{Bool, if◌then◌else◌}
use Rattle.std.proofs.Common.{sym, ap, ◌∙◌}
use Rattle.full_send.proofs.Walking.{root_one}
use Rattle.full_send.proofs.flags.version_of.Goals as goal

pub returns-then-has_flags : goal.returns-then-has_flags
returns-then-has_flags g c = ap (λ (b : Bool). if b then 2 else 1) (sym (root_one c.args.tree.now c.requires.lawful (sym c.has_flags.ensures ∙ c.if-has_flags.true)))
