use Rattle.std.specs.Prelude.{List, Option, ◌++◌}
use Rattle.send_commands.specs.Meaning.{meaning_of}
use Rattle.cmd_reader.specs.Next.{item_of}
use Rattle.store_model.specs.Stored.{Group}
use Rattle.auditor.specs.Following.{beside, follow}
use Rattle.store_model.specs.Written.{Begun, closed_by}
use Rattle.receiver.specs.Steps.{blank_of, begun_if}
use Rattle.receiver.specs.Standing.{state_of}
use Rattle.receiver.proofs.Unpacked.{Keeps}
use Rattle.receiver.proofs.FollowedItems.{refused_keeps, kept_moments, allowed_says, allowed_due, allowed_writes, allowed_keeps}
use Rattle.receiver.proofs.TakenItems.{due_same}
use Rattle.receiver.proofs.items.receive_item.Goals as goal

pub returns-in-Some-clause-keeps : goal.returns-in-Some-clause-keeps
returns-in-Some-clause-keeps g c tells header groups begun version keeps =
    refused_keeps (λ (gs : List Group) (b : Option Begun). Keeps header gs b c.args.current.now c.args.store.now (g.D.Disk.seen c.args.disk.now) (g.D.Disk.pending c.args.disk.now)) groups _ (meaning_of c.args.read.now.item.now.command) begun _ c.in-Some.ensures.refused keeps

pub returns-in-Some-clause-any_moment : goal.returns-in-Some-clause-any_moment
returns-in-Some-clause-any_moment g c tells header groups begun version keeps =
    kept_moments header groups c.args.disk.now (closed_by (g.G.Guarding.kept c.args.guards.now) (meaning_of c.args.read.now.item.now.command) begun ++ begun_if (follow (beside (g.G.Guarding.kept c.args.guards.now) (blank_of c.args.store.now c.args.current.now)) (item_of c.args.read.now.file c.args.read.now.item.now)) (meaning_of c.args.read.now.item.now.command)) begun c.args.current.now c.args.store.now _ keeps
    (λ image. g.met.D.Disk.only_now c.args.disk.now image tells)

pub returns-clause-followed : goal.returns-clause-followed
returns-clause-followed g c =
    allowed_says c.do_item.result (item_of c.args.read.now.file c.args.read.now.item.now) _ _ (state_of c.args.store.now c.args.current.now) (state_of c.do_item.new.store c.do_item.new.current) c.in_default.ensures.refused c.in_default.ensures.counted c.do_item.ensures.stepped

pub returns-clause-any_moment : goal.returns-clause-any_moment
returns-clause-any_moment g c tells header groups begun version keeps =
    due_same header groups _ _ (allowed_due (g.G.Guarding.kept c.args.guards.now) (item_of c.args.read.now.file c.args.read.now.item.now) begun (record { at = 0 }) (state_of c.args.store.now c.args.current.now) c.in_default.ensures.refused)
    (c.do_item.ensures.any_moment tells header groups begun (record { at = 0 }) version keeps)

pub returns-clause-written : goal.returns-clause-written
returns-clause-written g c =
    allowed_writes g.D.Disk c.args.disk.now c.do_item.new.disk (g.G.Guarding.kept c.args.guards.now) (item_of c.args.read.now.file c.args.read.now.item.now) c.args.current.now c.args.store.now c.in_default.ensures.refused c.do_item.result _ _ c.do_item.ensures.written

pub returns-clause-keeps : goal.returns-clause-keeps
returns-clause-keeps g c tells header groups begun version keeps =
    allowed_keeps c.do_item.result _ _ groups _ _ (g.G.Guarding.kept c.args.guards.now) (meaning_of c.args.read.now.item.now.command) begun _ c.in_default.ensures.refused (c.do_item.ensures.keeps tells header groups begun version keeps)
