use Rattle.std.proofs.Common.{sym, ap, ◌∙◌, ◌++◌, List}
use Rattle.send_model.specs.Command.{Command}
use Rattle.send_commands.specs.Meaning.{meaning_of}
use Rattle.stream_export.specs.Exporting.{all_receivable}
use Rattle.stream_export.proofs.Opening.{anew_before}
use Rattle.stream_export.proofs.Separating.{by_path, closed_by, left_by, ready_left, ready_open, nothing_added}
use Rattle.stream_export.proofs.exporter.Exporter.push_before.Goals as goal

pub returns-then-closes_file-clause-added : goal.returns-then-closes_file-clause-added
returns-then-closes_file-clause-added g c =
    nothing_added c.args.version c.args.to.now _ (closed_by c.args.self.now (meaning_of c.args.command.now) (sym c.closes_file.ensures ∙ c.if-closes_file.true)).0

pub returns-in_default-clause-added : goal.returns-in_default-clause-added
returns-in_default-clause-added g c =
    nothing_added c.args.version c.args.to.now _ (left_by c.args.self.now (meaning_of c.args.command.now) (sym c.closes_file.ensures ∙ c.if-closes_file.false) c.in_default.ensures).0

pub returns-in_default-clause-ready : goal.returns-in_default-clause-ready
returns-in_default-clause-ready g c =
    ready_left c.args.self.now (meaning_of c.args.command.now) c.in_default.ensures
    (left_by c.args.self.now (meaning_of c.args.command.now) (sym c.closes_file.ensures ∙ c.if-closes_file.false) c.in_default.ensures).1

pub returns-in_default-open_by-clause-added : goal.returns-in_default-open_by-clause-added
returns-in_default-open_by-clause-added g c =
    nothing_added c.args.version c.args.to.now _
    (sym (by_path c.args.self.now (meaning_of c.args.command.now) c.in-Some.path.now c.in-Some.ensures).0 ∙ anew_before c.args.self.now c.in-Some.path.now (sym c.in_default-open_by.ensures))

pub returns-in-Ok-clause-added : goal.returns-in-Ok-clause-added
returns-in-Ok-clause-added g c =
    c.in-Ok.ensures.added ∙ ap (λ (cs : List Command). c.args.to.now ++ all_receivable c.args.version cs) (by_path c.args.self.now (meaning_of c.args.command.now) c.in-Some.path.now c.in-Some.ensures).0

pub returns-in-Ok-clause-ready : goal.returns-in-Ok-clause-ready
returns-in-Ok-clause-ready g c =
    c.in-Ok.ensures.opened ∙ (by_path c.args.self.now (meaning_of c.args.command.now) c.in-Some.path.now c.in-Some.ensures).1
    ∙ ready_open c.args.self.now (meaning_of c.args.command.now) c.in-Some.path.now c.in-Some-open_by.ino c.in-Some.ensures (sym c.in-Some-open_by.ensures)
