use Rattle.std.specs.Prelude.{Some}
use Rattle.std.proofs.Common.{sym}
use Rattle.escaped_words.proofs.Fronted.{all_read, escaped_word}
use Rattle.escaped_words.proofs.reading.meant_by.Goals as goal

pub returns-clause-meant : goal.returns-clause-meant
returns-clause-meant c =
    sym (escaped_word c.args.word.now c.in-Some.form.now (Some c.loop-at.bytes) c.in-Some.ensures.escaped c.in-Some.ensures.form
    (all_read c.in-Some.form.now c.loop-at.bytes c.loop-at.at c.loop-at-test.false c.loop-at.invariant.read))
