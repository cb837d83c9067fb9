use Rattle.std.specs.Prelude.{ℕ, List, None, ◌++◌}
use Rattle.send_model.specs.Store.{step}
use Rattle.clone_resolve.specs.Steps.{cells_put}
use Rattle.group_replay.specs.Placing.{further}
use Rattle.send_commands.specs.Meaning.{meaning_of}
use Rattle.cmd_reader.specs.Next.{item_of}
use Rattle.sx_base.specs.Disk.{IsImage}
use Rattle.store_model.specs.Written.{begun_by, begun_after}
use Rattle.store_journal.specs.Holding.{HasThese}
use Rattle.receiver.specs.Standing.{state_of, place_of, behind_close, line_due}
use Rattle.std.proofs.KnownBytes.{Appends-nil}
use Rattle.sx_base.proofs.DiskMoments.{leaves_now}
use Rattle.receiver.specs.Disks.{closing, marked}
use Rattle.receiver.proofs.Unpacked.{Keeps}
use Rattle.receiver.proofs.TakenItems.{closed_writes, closed_keeps, line_stands, end_takes, end_pieces, end_lines, end_groups, end_begun, end_held, is_edited, edit_takes, edit_lines, edit_sure, edit_keeps_all, end_moments, edits_moments}
use Rattle.receiver.proofs.taking.do_item.Goals as goal

pub returns-then-ends-clause-stepped : goal.returns-then-ends-clause-stepped
returns-then-ends-clause-stepped g c =
    end_takes c.close.result (item_of c.args.read.now.file c.args.read.now.item.now) _ c.args.current.now c.close.new.current c.args.store.now c.close.new.store (line_due c.args.current.now) _ _ _ _ c.if-ends.ensures c.close.ensures.none c.close.ensures.written c.close.ensures.is_closed

pub returns-then-ends-clause-pieces : goal.returns-then-ends-clause-pieces
returns-then-ends-clause-pieces g c =
    end_pieces c.close.result c.args.store.now.log.limit (item_of c.args.read.now.file c.args.read.now.item.now) _ c.args.current.now c.close.new.current c.args.store.now c.close.new.store (line_due c.args.current.now) _ _ _ _ c.if-ends.ensures c.close.ensures.none c.close.ensures.written c.close.ensures.is_closed

pub returns-in-None-clause-stepped : goal.returns-in-None-clause-stepped
returns-in-None-clause-stepped g c =
    edit_takes c.edit.result (item_of c.args.read.now.file c.args.read.now.item.now) (state_of c.args.store.now c.args.current.now) (state_of c.edit.new.store c.edit.new.current) (is_edited (meaning_of c.args.read.now.item.now.command) c.in-None.ensures c.if-ends.ensures) c.edit.ensures.stepped

pub returns-then-ends-clause-any_moment : goal.returns-then-ends-clause-any_moment
returns-then-ends-clause-any_moment g c tells header groups begun place version keeps =
    end_moments header groups (meaning_of c.args.read.now.item.now.command) begun _ c.if-ends.ensures (c.close.ensures.any_moment tells header groups begun keeps)

pub returns-in-None-clause-any_moment : goal.returns-in-None-clause-any_moment
returns-in-None-clause-any_moment g c tells header groups begun place version keeps =
    edits_moments header groups (meaning_of c.args.read.now.item.now.command) begun (step None (cells_put further place (meaning_of c.args.read.now.item.now.command)) (state_of c.args.store.now c.args.current.now) (meaning_of c.args.read.now.item.now.command)) (is_edited (meaning_of c.args.read.now.item.now.command) c.in-None.ensures c.if-ends.ensures) (c.edit.ensures.any_moment tells header groups begun version keeps)

pub returns-then-ends-clause-written : goal.returns-then-ends-clause-written
returns-then-ends-clause-written g c = closed_writes _ _ _ _ _ _ _ c.close.result (end_lines (meaning_of c.args.read.now.item.now.command) c.args.current.now c.if-ends.ensures) c.close.ensures.written

pub returns-then-ends-clause-keeps : goal.returns-then-ends-clause-keeps
returns-then-ends-clause-keeps g c tells header groups begun version keeps =
    let m = meaning_of c.args.read.now.item.now.command in
    let same = end_groups groups m begun c.if-ends.ensures in
    closed_keeps (λ gs b. Keeps header gs b c.close.new.current c.close.new.store (g.D.Disk.seen c.close.new.disk) (g.D.Disk.pending c.close.new.disk)) (λ gs. (image : List ℕ) → IsImage (g.D.Disk.pending c.close.new.disk) image → HasThese header gs image)
    (groups ++ closing m begun) (groups ++ (closing m begun ++ marked c.args.store.now.log.limit (behind_close c.args.current.now m (place_of c.args.store.now c.args.current.now)) m)) (groups ++ (closing m begun ++ begun_by m)) (begun_after begun (item_of c.args.read.now.file c.args.read.now.item.now))
    (line_due c.args.current.now) (g.O.Sink.taken c.args.out.now) (g.O.Sink.taken c.close.new.out) (g.O.Sink.faults c.args.out.now) (g.O.Sink.faults c.close.new.out) c.close.result c.close.ensures.written
    (end_held header groups c.close.result m begun c.close.new.current c.close.new.store _ _ c.if-ends.ensures c.close.ensures.none (c.close.ensures.holds tells header groups begun keeps)) same.1 (end_begun (item_of c.args.read.now.file c.args.read.now.item.now) begun c.if-ends.ensures)

pub returns-in-None-clause-written : goal.returns-in-None-clause-written
returns-in-None-clause-written g c =
    let edits = is_edited (meaning_of c.args.read.now.item.now.command) c.in-None.ensures c.if-ends.ensures in
    line_stands _ _ _ _ _ _ _ c.edit.result c.edit.ensures.cause
    (λ place. edit_sure g.D.Disk c.args.disk.now c.args.disk.now c.edit.new.disk c.args.read.now.item.now.version (meaning_of c.args.read.now.item.now.command) c.args.current.now c.args.store.now
    (step None (cells_put further place (meaning_of c.args.read.now.item.now.command)) (state_of c.args.store.now c.args.current.now) (meaning_of c.args.read.now.item.now.command)) edits
    (λ tells header groups begun version keeps image is. leaves_now g.D.Disk.pending (c.edit.ensures.any_moment tells header groups begun version keeps)
    (λ image later is. g.met.D.Disk.counts_now c.edit.new.disk (g.D.Disk.moment c.args.disk.now) image tells later is) image is))
    (edit_lines (meaning_of c.args.read.now.item.now.command) c.args.current.now edits) (Appends-nil (g.O.Sink.taken c.args.out.now))

pub returns-in-None-clause-keeps : goal.returns-in-None-clause-keeps
returns-in-None-clause-keeps g c tells header groups begun version keeps =
    edit_keeps_all c.edit.result _ _ groups _ _ (meaning_of c.args.read.now.item.now.command) begun _ (is_edited (meaning_of c.args.read.now.item.now.command) c.in-None.ensures c.if-ends.ensures) (c.edit.ensures.keeps tells header groups begun version keeps)
