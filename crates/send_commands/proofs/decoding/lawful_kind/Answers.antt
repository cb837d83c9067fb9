use Rattle.std.proofs.Common.{ap, sym, ◌∙◌, List, ℕ}
use Rattle.send_model.specs.Command.{is_encoded}
use Rattle.send_model.specs.Reading.{wanted_there}
use Rattle.send_commands.specs.Meaning.{kind_meant}
use Rattle.send_commands.proofs.LawfulKinds.{plainly, known_as, command_encoded, command_unknown, command_lacking, command_untimely, command_lawful}
use Rattle.send_commands.proofs.decoding.lawful_kind.Goals as goal

pub returns-then-is_compressed_write-clause-exact : goal.returns-then-is_compressed_write-clause-exact
returns-then-is_compressed_write-clause-exact c = λ attributes stands.
    command_encoded c.args.table.now.version c.args.cmd attributes (ap (λ (v : ℕ). is_encoded v c.args.cmd) (sym c.version.ensures.version) ∙ sym c.is_compressed_write.ensures ∙ c.if-is_compressed_write.true)

pub returns-in_default-clause-exact : goal.returns-in_default-clause-exact
returns-in_default-clause-exact c = λ attributes stands.
    command_unknown c.args.table.now.version c.args.cmd attributes (plainly c.args.cmd c.version.ensures.version c.is_compressed_write.ensures c.if-is_compressed_write.false) (known_as c.args.cmd c.version-2.ensures.version c.in_default.ensures.kind)

pub returns-in-Err-clause-exact : goal.returns-in-Err-clause-exact
returns-in-Err-clause-exact c = λ attributes stands.
    command_lacking c.args.table.now c.args.table.now.version c.args.cmd (kind_meant c.in-Some.kind) (plainly c.args.cmd c.version.ensures.version c.is_compressed_write.ensures c.if-is_compressed_write.false) (known_as c.args.cmd c.version-2.ensures.version c.in-Some.ensures.kind) attributes _
    (ap (λ (kinds : List ℕ). wanted_there kinds attributes) (sym c.wanted.ensures.wanted) ∙ c.in-Err.ensures.exact attributes stands)

pub returns-then-not-times_lawful-clause-exact : goal.returns-then-not-times_lawful-clause-exact
returns-then-not-times_lawful-clause-exact c = λ attributes stands.
    command_untimely c.args.table.now c.args.table.now.version c.args.cmd (kind_meant c.in-Some.kind) (plainly c.args.cmd c.version.ensures.version c.is_compressed_write.ensures c.if-is_compressed_write.false) (known_as c.args.cmd c.version-2.ensures.version c.in-Some.ensures.kind) attributes stands
    (ap (λ (kinds : List ℕ). wanted_there kinds attributes) (sym c.wanted.ensures.wanted) ∙ c.in-Ok.ensures.exact attributes stands)
    (sym c.times_lawful.ensures ∙ c.if-not-times_lawful.true)

pub returns-clause-exact : goal.returns-clause-exact
returns-clause-exact c = λ attributes stands.
    command_lawful c.args.table.now c.args.table.now.version c.args.cmd (kind_meant c.in-Some.kind) (plainly c.args.cmd c.version.ensures.version c.is_compressed_write.ensures c.if-is_compressed_write.false) (known_as c.args.cmd c.version-2.ensures.version c.in-Some.ensures.kind) attributes stands
    (ap (λ (kinds : List ℕ). wanted_there kinds attributes) (sym c.wanted.ensures.wanted) ∙ c.in-Ok.ensures.exact attributes stands)
    (sym c.times_lawful.ensures ∙ c.if-not-times_lawful.false)
