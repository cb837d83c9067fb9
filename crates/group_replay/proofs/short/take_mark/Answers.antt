use Rattle.std.proofs.lemmas.Result.{IfOk-weaker}
use Rattle.send_commands.specs.Meaning.{meaning_of}
use Rattle.group_replay.proofs.Marks.{no_mark, long_mark, mark_taken}
use Rattle.group_replay.proofs.short.take_mark.Goals as goal

pub returns-in_default-clause-taken : goal.returns-in_default-clause-taken
returns-in_default-clause-taken c at = no_mark at c.args.bytes.now c.args.core.now c.args.core.now c.in_default.ensures.found

pub returns-then-front-bytes-clause-taken : goal.returns-then-front-bytes-clause-taken
returns-then-front-bytes-clause-taken c at =
    let front = c.in-Some.ensures.found in
    long_mark at c.args.bytes.now c.args.core.now c.args.core.now (meaning_of c.in-Some.front.command) c.in-Some.front.len front c.if-front-bytes.true

pub returns-clause-taken : goal.returns-clause-taken
returns-clause-taken c at =
    let front = c.in-Some.ensures.found in
    IfOk-weaker c.begin_marked.result _ _
    (λ t e. mark_taken at c.args.bytes.now c.args.core.now c.begin_marked.new.core (meaning_of c.in-Some.front.command) c.in-Some.front.len front t c.if-front-bytes.false e)
    c.begin_marked.ensures.begun
