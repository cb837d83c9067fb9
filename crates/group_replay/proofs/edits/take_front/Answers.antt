use Rattle.std.specs.Prelude.{ℕ, ◌+◌}
use Rattle.std.proofs.Common.{sym, subst}
use Rattle.send_commands.specs.Meaning.{meaning_of}
use Rattle.group_replay.specs.Kept.{IsKept}
use Rattle.group_replay.proofs.EditRuns.{front_len}
use Rattle.group_replay.proofs.edits.take_front.Goals as goal

pub returns-then-branch-clause-kept : goal.returns-then-branch-clause-kept
returns-then-branch-clause-kept c all own =
    let front = c.in-Some.ensures.found in
    let len = front_len c.args.version c.args.bytes.now (meaning_of c.in-Some.front.command) c.in-Some.front.len front in
    subst (λ (n : ℕ). IsKept (c.args.at + n) c.take_edit.new.part.subvolume) (sym len.0) (c.in_ok-take_edit.ensures.kept all own c.if-branch.true)
