use Rattle.std.proofs.Common.{sym, ap, ◌∙◌}
use Rattle.std.specs.Prelude.{option_map}
use Rattle.send_commands.specs.Meaning.{meaning_of}
use Rattle.clone_resolve.specs.Heads.{head_meant}
use Rattle.squasher.proofs.OwnBase.{none_hidden, one_hidden}
use Rattle.squasher.proofs.judging.Keeper.hide_own.Goals as goal

pub returns-in_default-clause-first : goal.returns-in_default-clause-first
returns-in_default-clause-first g c = λ first.
    none_hidden (meaning_of c.args.item.now.command) c.args.self.now (sym c.head_of.ensures ∙ ap (option_map head_meant) c.in_default.is)

pub returns-clause-first : goal.returns-clause-first
returns-clause-first g c = λ first.
    one_hidden c.self.inside.core c.hide.new.self c.self.inside.part c.self.inside.log c.self.inside.fates c.self.inside.passed c.args.self.now
    (meaning_of c.args.item.now.command) (head_meant c.in-Some.head) c.self.view_is (sym c.head_of.ensures ∙ ap (option_map head_meant) c.in-Some.is) c.hide.ensures
