use Rattle.std.specs.Prelude.{◌≡◌, ◌+◌, length}
use Rattle.std.proofs.Common.{arith}
use Rattle.sx_base.specs.Causes.{Rose}
use Rattle.send_model.specs.Spelling.{canonical}
use Rattle.store_journal.specs.Filling.{head_asks}
use Rattle.send_commands.specs.Meaning.{meaning_of}
use Rattle.send_model.specs.Store.{head_of, begun, entered}
use Rattle.clone_resolve.specs.Heads.{head_meant}
use Rattle.cmd_reader.specs.Next.{item_of}
use Rattle.receiver.specs.Steps.{begun_if}
use Rattle.receiver.specs.Standing.{place_of}
use Rattle.receiver.proofs.RoomLaws.{head_item, no_room}
use Rattle.receiver.proofs.BegunParts.{head_first, begun_ready, begun_room, not_begun, not_begun_keeps, holds_now, begin_moments}
use Rattle.receiver.proofs.doing.begin.Goals as goal

pub returns-in_default-clause-any_moment : goal.returns-in_default-clause-any_moment
returns-in_default-clause-any_moment g c tells header groups holds =
    holds_now header groups c.args.disk.now (begun_if (entered c.args.store.now.core (head_meant c.args.head.now) (begun c.args.store.now.core (head_meant c.args.head.now))) (meaning_of c.args.read.now.item.now.command)) c.args.store.now _ holds (λ image. g.met.D.Disk.only_now c.args.disk.now image tells)

pub begin-requires-clause-spellable : goal.begin-requires-clause-spellable
begin-requires-clause-spellable g c = head_first c.args.read.now.item.now.version (meaning_of c.args.read.now.item.now.command) (head_meant c.args.head.now) c.requires.head c.requires.spellable

pub returns-in-Ok-begin-clause-pieces : goal.returns-in-Ok-begin-clause-pieces
returns-in-Ok-begin-clause-pieces g c =
    let e = c.in-Ok-begin.ensures in
    begun_room c.args.store.now.log.limit c.args.store.now.log.gate c.begin.new.self.log.size (item_of c.args.read.now.file c.args.read.now.item.now) (head_meant c.args.head.now) c.requires.head e.fits (omega (arith, e.size, e.gate))

pub returns-in-Ok-begin-clause-ready : goal.returns-in-Ok-begin-clause-ready
returns-in-Ok-begin-clause-ready g c =
    let e = c.in-Ok-begin.ensures in
    begun_ready _ (record { part = c.in-Ok-begin.part; line = c.in-Ok.line }) (head_meant c.args.head.now) (head_of (meaning_of c.args.read.now.item.now.command)) c.args.store.now.core c.begin.new.self c.requires.head c.in-Ok.ensures.line e.begun e.still_open

pub returns-in-Ok-begin-clause-any_moment : goal.returns-in-Ok-begin-clause-any_moment
returns-in-Ok-begin-clause-any_moment g c tells header groups holds =
    begin_moments header groups (meaning_of c.args.read.now.item.now.command) (head_meant c.args.head.now) c.args.store.now.core c.requires.head (c.begin.ensures.any_moment tells header groups holds) (c.begin.ensures.unmarked tells header groups holds)

pub returns-in-Err-clause-stepped : goal.returns-in-Err-clause-stepped
returns-in-Err-clause-stepped g c =
    not_begun (c.begin.new.disk ≡ c.args.disk.now) (item_of c.args.read.now.file c.args.read.now.item.now) (head_meant c.args.head.now) (head_of (meaning_of c.args.read.now.item.now.command)) c.args.store.now c.begin.new.self c.args.current.now c.in-Err.stop c.stopped.result
    c.requires.head c.requires.none c.stopped.ensures c.in-Err.ensures.begun c.in-Err.ensures.refused

pub returns-in-Err-clause-pieces : goal.returns-in-Err-clause-pieces
returns-in-Err-clause-pieces g c =
    rw (c.stopped.ensures) (no_room (Rose (g.D.Disk.faults c.args.disk.now) (g.D.Disk.faults c.begin.new.disk)) c.args.store.now.log.limit c.args.store.now.log.gate (place_of c.begin.new.self c.args.current.now) (item_of c.args.read.now.file c.args.read.now.item.now) (head_asks c.args.store.now.log.gate (1 + length (canonical 1 (meaning_of c.args.read.now.item.now.command)))) c.in-Err.stop (head_item c.args.store.now.log.gate (item_of c.args.read.now.file c.args.read.now.item.now) (head_meant c.args.head.now) c.requires.head) c.in-Err.ensures.stops)

pub returns-in-Err-clause-any_moment : goal.returns-in-Err-clause-any_moment
returns-in-Err-clause-any_moment g c tells header groups holds =
    begin_moments header groups (meaning_of c.args.read.now.item.now.command) (head_meant c.args.head.now) c.args.store.now.core c.requires.head (c.begin.ensures.any_moment tells header groups holds) (c.begin.ensures.unmarked tells header groups holds)

pub returns-in-Err-clause-keeps : goal.returns-in-Err-clause-keeps
returns-in-Err-clause-keeps g c tells header groups begun holds =
    not_begun_keeps header groups g.D.Disk.seen g.D.Disk.pending c.args.disk.now c.begin.new.disk (item_of c.args.read.now.file c.args.read.now.item.now) (head_meant c.args.head.now) c.args.store.now c.begin.new.self c.args.current.now c.in-Err.stop c.stopped.result _ _
    c.requires.head c.requires.none c.stopped.ensures holds c.in-Err.ensures.refused (c.in-Err.ensures.held tells header groups holds)
