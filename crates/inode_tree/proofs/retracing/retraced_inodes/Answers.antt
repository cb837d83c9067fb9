-- Each inode is put in behind those that are there.
use Rattle.std.proofs.Common.{sym, ap, subst, ◌∙◌, []}
use Rattle.inode_tree.specs.Retraced.{retraced_inode, IsReached, AreReached}
use Rattle.inode_tree.proofs.OtherContents.{put_all, put_next, put_none, put_all_is, first_and_others, reached_as, retraced_as}
use Rattle.inode_tree.proofs.retracing.retraced_inodes.Goals as goal

pub loop-ino-init : goal.loop-ino-init
loop-ino-init g c =
    let starts = g.S.Starts.starts c.args.starts.now in
    let is = c.into_iter-ino-iterator.ensures.into_iter_gives ∙ c.iter-ino-items.ensures.entries in (
      subst (AreReached g.P.Origin.reach starts) (sym is) c.requires,
      ap (λ t. put_all (retraced_inode g.P.Origin.advanced starts) t c.into_iter-ino-iterator.result) c.new-there.ensures
          ∙ ap (put_all (retraced_inode g.P.Origin.advanced starts) []) is,
    )

pub retraced-requires : goal.retraced-requires
retraced-requires g c =
    let starts = g.S.Starts.starts c.args.starts.now in
    reached_as starts c.in-Some.field-0.now c.get.result.now c.start.result c.get.ensures c.start.ensures g.P.Origin.reach
    (first_and_others (IsReached g.P.Origin.reach starts) _ _ _ c.in-Some.ensures.steps c.loop-ino.invariant.0).0

pub loop-ino-preserved : goal.loop-ino-preserved
loop-ino-preserved g c =
    let starts = g.S.Starts.starts c.args.starts.now in (
      (first_and_others (IsReached g.P.Origin.reach starts) _ _ _ c.in-Some.ensures.steps c.loop-ino.invariant.0).1,
      put_next (retraced_inode g.P.Origin.advanced starts) c.loop-ino.there c.insert.new.self _ _ _ c.in-Some.field-0.now _ c.in-Some.ensures.steps c.in_ok-insert.ensures.ok
          (c.in_ok-new.ensures ∙ c.in_ok-inode.ensures ∙ retraced_as starts c.in-Some.field-0.now c.get.result.now c.start.result c.get.ensures c.start.ensures g.P.Origin.advanced) c.loop-ino.invariant.1,
    )

pub returns : goal.returns
returns g c =
    let starts = g.S.Starts.starts c.args.starts.now in
    sym (put_none (retraced_inode g.P.Origin.advanced starts) c.loop-ino.there) ∙ sym (ap (put_all (retraced_inode g.P.Origin.advanced starts) c.loop-ino.there) c.in-None.ensures.steps.0) ∙ c.loop-ino.invariant.1
    ∙ put_all_is (retraced_inode g.P.Origin.advanced starts) c.args.inodes.now c.iter-ino-items.ensures.ordered
