use Rattle.std.specs.Prelude.{◌++◌}
use Rattle.send_commands.specs.Meaning.{meaning_of}
use Rattle.clone_resolve.specs.Heads.{head_meant}
use Rattle.cmd_reader.specs.Next.{item_of}
use Rattle.store_model.specs.Written.{begun_by, begun_after, closed}
use Rattle.store_model.proofs.WrittenGroups.{head_fact}
use Rattle.send_model.specs.Store.{begun, entered}
use Rattle.receiver.specs.Steps.{begun_if}
use Rattle.receiver.specs.Standing.{state_of}
use Rattle.receiver.proofs.Unpacked.{Keeps}
use Rattle.sx_base.proofs.DiskMoments.{leaves_now}
use Rattle.receiver.proofs.TakenItems.{unclosed_takes, unclosed_writes, unclosed_keeps, unclosed_held, line_stands, head_takes, head_keeps, head_lines, marks_alike, enter_sure, both_moments, enter_moments, close_moments}
use Rattle.receiver.proofs.taking.enter.Goals as goal

pub returns-in-Err-clause-stepped : goal.returns-in-Err-clause-stepped
returns-in-Err-clause-stepped g c = unclosed_takes _ _ _ _ _ c.in-Err.ended (item_of c.args.read.now.file c.args.read.now.item.now) _ _ c.in-Err.ensures.written

pub returns-clause-stepped : goal.returns-clause-stepped
returns-clause-stepped g c =
    head_takes c.begin.result (item_of c.args.read.now.file c.args.read.now.item.now) (head_meant c.args.head.now) _ c.args.current.now c.args.store.now c.close.new.store (state_of c.begin.new.store c.begin.new.current) c.requires.head c.in-Ok.ensures.is_closed c.begin.ensures.stepped

pub returns-in-Err-clause-written : goal.returns-in-Err-clause-written
returns-in-Err-clause-written g c =
    unclosed_writes _ _ _ _ _ _ _ c.in-Err.ended (head_lines (meaning_of c.args.read.now.item.now.command) (head_meant c.args.head.now) c.args.current.now c.requires.head) c.in-Err.ensures.written

pub returns-in-Err-clause-keeps : goal.returns-in-Err-clause-keeps
returns-in-Err-clause-keeps g c tells header groups part version keeps =
    unclosed_keeps (λ groups begun. Keeps header groups begun c.close.new.current c.close.new.store (g.D.Disk.seen c.close.new.disk) (g.D.Disk.pending c.close.new.disk)) _ _ _ _ _ _ _ _ _ _ c.in-Err.ended c.in-Err.ensures.written
    (unclosed_held header groups _ (meaning_of c.args.read.now.item.now.command) (head_meant c.args.head.now) part c.close.new.current c.close.new.store _ _ c.requires.head c.close.ensures.none (c.in-Err.ensures.holds tells header groups part keeps))

pub returns-clause-written : goal.returns-clause-written
returns-clause-written g c =
    line_stands _ _ _ _ _ _ _ c.begin.result c.begin.ensures.cause
    (enter_sure g.D.Disk c.args.disk.now c.close.new.disk c.begin.new.disk c.args.read.now.item.now.version (meaning_of c.args.read.now.item.now.command) (head_meant c.args.head.now) _ c.args.current.now c.args.store.now c.close.new.store
    c.requires.head c.in-Ok.ensures.is_closed c.in-Ok.ensures.holds
    (λ tells header groups holds image is. leaves_now g.D.Disk.pending (c.begin.ensures.any_moment tells header groups holds)
    (λ image later is. g.met.D.Disk.counts_now c.begin.new.disk (g.D.Disk.moment c.close.new.disk) image tells later is) image is))
    (head_lines (meaning_of c.args.read.now.item.now.command) (head_meant c.args.head.now) c.args.current.now c.requires.head) c.in-Ok.ensures.written

pub returns-clause-keeps : goal.returns-clause-keeps
returns-clause-keeps g c tells header groups part version keeps =
    head_keeps c.begin.result _ _ groups _ _ (begun_by (meaning_of c.args.read.now.item.now.command)) (meaning_of c.args.read.now.item.now.command) (head_meant c.args.head.now) part (begun_after part (item_of c.args.read.now.file c.args.read.now.item.now)) c.requires.head
    (marks_alike (meaning_of c.args.read.now.item.now.command) (head_meant c.args.head.now) _ c.args.current.now c.args.store.now c.close.new.store c.requires.head c.in-Ok.ensures.is_closed c.close.ensures.limit)
    (c.begin.ensures.keeps tells header (groups ++ closed part) part (c.in-Ok.ensures.holds tells header groups part keeps))

pub returns-clause-any_moment : goal.returns-clause-any_moment
returns-clause-any_moment g c tells header groups part place version keeps =
    enter_moments header groups (meaning_of c.args.read.now.item.now.command) (head_meant c.args.head.now) part place _ c.args.current.now c.args.store.now c.close.new.store c.requires.head c.in-Ok.ensures.is_closed
    (both_moments header groups (closed part) (begun_if (entered c.close.new.store.core (head_meant c.args.head.now) (begun c.close.new.store.core (head_meant c.args.head.now))) (meaning_of c.args.read.now.item.now.command)) (c.close.ensures.any_moment tells header groups part keeps)
    (c.begin.ensures.any_moment tells header (groups ++ closed part) (c.in-Ok.ensures.holds tells header groups part keeps)))

pub returns-in-Err-clause-any_moment : goal.returns-in-Err-clause-any_moment
returns-in-Err-clause-any_moment g c tells header groups part place version keeps =
    close_moments header groups (meaning_of c.args.read.now.item.now.command) part _ (head_fact (meaning_of c.args.read.now.item.now.command) (head_meant c.args.head.now) c.requires.head) (c.close.ensures.any_moment tells header groups part keeps)
