use Rattle.std.proofs.Common.{sym, ap, ◌∙◌, arith}
use Rattle.std.proofs.KnownBytes.{Appends-nil}
use Rattle.program_model.specs.Answers.{status_of}
use Rattle.request_answers.specs.Answered.{answer_of}
use Rattle.send_top.proofs.Statuses.{no_note, zero-of_done}
use Rattle.send_top.proofs.noting.write_note.Goals as goal

pub returns-then-status-eq0-clause-whole : goal.returns-then-status-eq0-clause-whole
returns-then-status-eq0-clause-whole g c =
    let silent = no_note (answer_of c.args.answer.now) (sym c.status.ensures ∙ c.if-status-eq0.true) in
    rw silent (Appends-nil (g.N.Sink.taken c.args.notes.now))

pub returns-clause-quiet : goal.returns-clause-quiet
returns-clause-quiet g c done =
    let zero = c.status.ensures ∙ ap status_of done ∙ zero-of_done in
    absurd (omega (arith, zero, c.if-status-eq0.false))
