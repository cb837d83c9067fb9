use Rattle.std.specs.Prelude.{◌≡◌, ◌+◌, Option, Ok, Err, None, Some, IfSome, length}
use Rattle.std.proofs.Common.{refl, sym, ap, subst, ◌∙◌}
use Rattle.sx_base.specs.Causes.{Rose}
use Rattle.send_model.specs.Spelling.{canonical}
use Rattle.send_model.specs.Store.{begun, entered, head_of}
use Rattle.store_model.specs.Turns.{beginnings}
use Rattle.auditor.specs.Following.{blank}
use Rattle.send_commands.specs.Meaning.{meaning_of}
use Rattle.clone_resolve.specs.Heads.{head_meant}
use Rattle.cmd_reader.specs.Next.{item_of}
use Rattle.sx_base.specs.declared.outcome.Outcome.TheVariants as ended
use Rattle.receiver.specs.declared.outcome.Received.{Received}
use Rattle.receiver.specs.declared.outcome.Received.TheVariants as how
use Rattle.receiver.specs.Answers.{ended_log}
use Rattle.receiver.proofs.BegunParts.{head_first}
use Rattle.group_replay.specs.declared.place.Place.{Place}
use Rattle.group_replay.specs.declared.stops.StoreStop.{StoreStop}
use Rattle.group_replay.specs.Stopping.{IfLog, IfRefused}
use Rattle.store_journal.specs.Answers.{BeginsIn}
use Rattle.store_journal.specs.Filling.{first_full, group_asks, IsStopOf}
use Rattle.sx_base.specs.declared.refusal.Refusal as code
use Rattle.turn_sessions.proofs.Unpacked.{HasStopped, ItemSays}
use Rattle.turn_sessions.proofs.Nothings.{nothing_stopped}
use Rattle.turn_sessions.proofs.Beginning.{begun_ok, begun_refused, begun_without, begun_stopped}
use Rattle.turn_sessions.proofs.parting.begin.Goals as goal

pub returns-in_default-clause-begun : goal.returns-in_default-clause-begun
returns-in_default-clause-begun g c written =
    nothing_stopped g.D.Disk c.args.disk.now c.args.store.now c.args.store.now written (how.Files ended.NoMemory)
    (beginnings (item_of c.args.read.now.file c.args.read.now.item.now) (entered (blank c.args.store.now.core) (head_meant c.args.head.now) (begun (blank c.args.store.now.core) (head_meant c.args.head.now))).refusal)
    (λ is_told image. g.met.D.Disk.only_now c.args.disk.now image is_told) (λ header groups h. h) tt

pub mark-requires-clause-spellable : goal.mark-requires-clause-spellable
mark-requires-clause-spellable g c = head_first c.args.read.now.item.now.version (meaning_of c.args.read.now.item.now.command) (head_meant c.args.head.now) c.requires.head c.requires.spellable

pub returns-in-Ok-mark-clause-begun : goal.returns-in-Ok-mark-clause-begun
returns-in-Ok-mark-clause-begun g c written =
    let e = c.in-Ok-mark.ensures in
    begun_ok g.D.Disk c.args.disk.now c.mark.new.disk c.args.store.now c.mark.new.self written (item_of c.args.read.now.file c.args.read.now.item.now) (head_meant c.args.head.now) c.requires.head
    c.in-Ok-mark.part (record { part = c.in-Ok-mark.part; line = c.in-Ok.line; version = c.args.read.now.item.now.version; frames = c.new.result }) e.begun refl refl c.new.ensures.empty c.requires.version c.in-Ok.ensures.line e.fits e.gate e.limit
    e.holds e.any_moment

pub returns-in-Err-Refused-clause-begun : goal.returns-in-Err-Refused-clause-begun
returns-in-Err-Refused-clause-begun g c written =
    let e = c.in-Err-Refused.ensures in
    let same = subst (λ (why : StoreStop). IfRefused {T = Unit {0}} (Err why) (λ _. (c.mark.new.self ≡ c.args.store.now) × (c.mark.new.disk ≡ c.args.disk.now))) c.in-Err-Refused.field-0-is e.refused in
    subst (λ (r : code.Refusal). ItemSays g.D.Disk c.args.disk.now c.mark.new.disk c.args.store.now c.mark.new.self written written (item_of c.args.read.now.file c.args.read.now.item.now) None (entered (blank c.args.store.now.core) (head_meant c.args.head.now) (begun (blank c.args.store.now.core) (head_meant c.args.head.now))) (beginnings (item_of c.args.read.now.file c.args.read.now.item.now) (entered (blank c.args.store.now.core) (head_meant c.args.head.now) (begun (blank c.args.store.now.core) (head_meant c.args.head.now))).refusal) c.args.current.now (Ok (Some r))) (sym c.in-Err-Refused.refusal-is)
    (begun_refused g.D.Disk c.args.disk.now c.mark.new.disk c.args.store.now c.mark.new.self written (item_of c.args.read.now.file c.args.read.now.item.now) (head_meant c.args.head.now) c.requires.head
    c.in-Err-Refused.refusal
    (subst (λ (why : StoreStop). IfSome (head_of (meaning_of c.args.read.now.item.now.command)) (λ h. BeginsIn {C = Option Place} (Err why) h c.args.store.now.core c.mark.new.self.core)) c.in-Err-Refused.field-0-is e.begun)
    same.0 same.1 (λ is_told image. g.met.D.Disk.only_now c.args.disk.now image is_told) c.args.current.now)

pub returns-in-Err-NoMemory-clause-begun : goal.returns-in-Err-NoMemory-clause-begun
returns-in-Err-NoMemory-clause-begun g c written =
    let e = c.mark.ensures in
    begun_without g.D.Disk c.args.disk.now c.mark.new.disk c.args.store.now c.mark.new.self written (item_of c.args.read.now.file c.args.read.now.item.now) (head_meant c.args.head.now) c.requires.head
    e.any_moment e.unmarked (λ is_told image later is. g.met.D.Disk.counts_now c.mark.new.disk (g.D.Disk.moment c.args.disk.now) image is_told later is) c.args.current.now

pub returns-clause-begun : goal.returns-clause-begun
returns-clause-begun g c written =
    let e = c.in-Err-Log.ensures in
    let item = item_of c.args.read.now.file c.args.read.now.item.now in
    subst (λ (why : Received). HasStopped g.D.Disk c.args.disk.now c.mark.new.disk c.args.store.now c.mark.new.self written written why
    (beginnings item (entered (blank c.args.store.now.core) (head_meant c.args.head.now) (begun (blank c.args.store.now.core) (head_meant c.args.head.now))).refusal)) (sym (c.ended_log.ensures ∙ ap ended_log c.in-Err-Log.why-is))
    (begun_stopped g.D.Disk c.args.disk.now c.mark.new.disk c.args.store.now c.mark.new.self written item (head_meant c.args.head.now) c.requires.head
    (Rose (g.D.Disk.faults c.args.disk.now) (g.D.Disk.faults c.mark.new.disk)) c.in-Err-Log.why
    (subst (λ (why : StoreStop). IfSome (head_of (meaning_of c.args.read.now.item.now.command)) (λ h. BeginsIn {C = Option Place} (Err why) h c.args.store.now.core c.mark.new.self.core)) c.in-Err-Log.field-0-is e.begun)
    (subst (λ (why : StoreStop). IfLog {T = Unit {0}} (Err why) (IsStopOf (Rose (g.D.Disk.faults c.args.disk.now) (g.D.Disk.faults c.mark.new.disk)) c.args.store.now.log.limit
    (first_full c.args.store.now.log.limit (group_asks c.args.store.now.log.gate (1 + length (canonical 1 (meaning_of c.args.read.now.item.now.command))))))) c.in-Err-Log.field-0-is e.stops)
    c.mark.ensures.any_moment c.mark.ensures.no_room (λ is_told image later is. g.met.D.Disk.counts_now c.mark.new.disk (g.D.Disk.moment c.args.disk.now) image is_told later is) c.args.current.now)
