use Rattle.sx_base.proofs.KeptFronts.{kept_then}
use Rattle.stream_gen.proofs.parts.push_later_part.Goals as goal

pub returns-clause-kept : goal.returns-clause-kept
returns-clause-kept c =
    let end = c.push_end.new.to in
    kept_then c.args.to.now c.push_header.new.to end c.push_header.ensures.kept
    (kept_then c.push_header.new.to c.push_snapshot.new.to end c.push_snapshot.ensures.kept
    (kept_then c.push_snapshot.new.to c.push_write.new.to end c.push_write.ensures.kept
    (kept_then c.push_write.new.to c.push_clone.new.to end c.push_clone.ensures.kept
    (kept_then c.push_clone.new.to c.push_renames.new.to end c.push_renames.ensures.kept c.push_end.ensures.kept))))
