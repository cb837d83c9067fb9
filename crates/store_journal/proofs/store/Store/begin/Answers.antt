use Rattle.std.proofs.Common.{List, inr, sym}
use Rattle.sx_base.specs.Crash.{LeavesOnly}
use Rattle.sx_base.proofs.DiskMoments.{joins, weakens}
use Rattle.store_model.specs.Image.{Header}
use Rattle.store_model.specs.Stored.{Group, Mark}
use Rattle.send_commands.specs.Meaning.{meaning_of}
use Rattle.store_journal.specs.Holding.{new_group, HasOneMore, Holds}
use Rattle.store_journal.proofs.store.Store.begin.Given.{Over}
use Rattle.store_journal.proofs.store.Store.begin.Goals.{After-start}
use Rattle.store_journal.proofs.store.Store.begin.Goals as goal

-- With the group of the head there, a crash leaves it too, whether or not the next group began.
moments : (g : Over) (c : After-start g) → g.D.Disk.tells → (header : Header) (groups : List Group) → Holds header groups c.args.self.now (g.D.Disk.seen c.args.disk.now) (g.D.Disk.pending c.args.disk.now)
    → LeavesOnly g.D.Disk.moment g.D.Disk.left_since c.args.disk.now c.start.new.disk (HasOneMore header groups (new_group (Mark (meaning_of c.args.head.now))))
moments g c tells header groups holds =
    joins (c.mark.ensures.any_moment tells header groups holds)
    (weakens (c.start.ensures.any_moment tells header _ (c.in_ok-part.ensures.holds tells header groups holds)) (λ image has. inr has))

pub returns-in_err-start-clause-any_moment : goal.returns-in_err-start-clause-any_moment
returns-in_err-start-clause-any_moment g c = moments g (goal.at.returns-in_err-start-clause-any_moment g c).After-start

pub returns-clause-any_moment : goal.returns-clause-any_moment
returns-clause-any_moment g c = moments g (goal.at.returns-clause-any_moment g c).After-start

pub returns-clause-still_open : goal.returns-clause-still_open
returns-clause-still_open g c = c.in_ok-start.ensures.still_open c.in_ok-part.part (sym c.key.ensures) c.in_ok-part.ensures.kept

pub returns-clause-builds : goal.returns-clause-builds
returns-clause-builds g c tells header groups holds =
    c.in_ok-start.ensures.builds tells header _ c.in_ok-part.part (c.in_ok-part.ensures.holds tells header groups holds) (sym c.key.ensures) c.in_ok-part.ensures.again
