use Rattle.squash_log.specs.Cells.{lives_in}
use Rattle.squash_log.proofs.LivingMaps.{cloned}
use Rattle.squash_log.proofs.lives.unclone.Goals as goal

pub returns : goal.returns
returns g c =
    let there = g.E.Ended.there c.args.ended.now in
    cloned c.args.to.now c.args.source.0 c.args.source.1 c.in_ok-part.part (lives_in there c.args.files.now) (lives_in there c.replace.new.files)
    (lives_in there c.add_in.new.files) c.in_ok-part.ensures.part c.in_ok-replace.ensures c.in_ok-add_in.ensures
