use Rattle.std.proofs.Common.{sym, ap, subst, ◌∙◌}
use Rattle.send_model.specs.Attribute.{IsBytes}
use Rattle.program_model.specs.EscapedWords.{meant_by}
use Rattle.file_words.proofs.Standing.{is_new}
use Rattle.file_words.proofs.checking.name_given.Goals as goal

pub returns-clause-fits : goal.returns-clause-fits
returns-clause-fits c =
    is_new c.args.word.now c.in-Some.name (subst IsBytes c.behind_front.ensures.behind c.meant_by.ensures.bytes) c.requires.gives
    (ap meant_by (sym c.behind_front.ensures.behind) ∙ sym c.in_ok-name.ensures.meant ∙ c.in-Some.is)
