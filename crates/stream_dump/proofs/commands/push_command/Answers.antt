use Rattle.std.proofs.Common.{◌≡◌, OnOk, ℕ, List, subst}
use Rattle.stream_dump.specs.Values.{form_of}
use Rattle.stream_dump.proofs.CommandLines.{clone_printed}
use Rattle.stream_dump.proofs.commands.push_command.Goals as goal

pub returns-in-Clone-clause-pushed : goal.returns-in-Clone-clause-pushed
returns-in-Clone-clause-pushed c =
    let v = c.in-Clone in
    subst (λ (l : List ℕ). OnOk c.put-in-Clone.result (c.put-in-Clone.new.to ≡ l))
    (clone_printed (form_of c.args.contents) c.args.to.now c.args.command.now v.path v.offset v.clone_uuid v.clone_ctransid v.clone_path v.clone_offset v.clone_len v.is)
    c.put-in-Clone.ensures.pushed
