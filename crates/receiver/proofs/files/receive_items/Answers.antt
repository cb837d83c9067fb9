use Rattle.std.specs.Prelude.{ℕ, [], None, Some, Ok, Err, ◌++◌}
use Rattle.sx_base.specs.declared.outcome.Outcome.TheVariants as ended
use Rattle.std.proofs.Common.{rules, refl, sym, ap, subst, ◌∙◌, arith}
use Rattle.std.proofs.lemmas.Bool.{false≢true}
use Rattle.send_commands.specs.Meaning.{meaning_of}
use Rattle.cmd_reader.specs.Left.{Reader}
use Rattle.part_names.specs.Overriding.{IsOverridden}
use Rattle.cmd_reader.specs.Next.{item_of}
use Rattle.cmd_reader.specs.declared.item.ReadStop.TheVariants as stop
use Rattle.sx_base.proofs.Asking.{asked_nothing, asked_so, read_none}
use Rattle.cmd_reader.proofs.Asked.{reads_start, reads_then}
use Rattle.cmd_reader.proofs.Aheads.{start_ahead, next_ahead}
use Rattle.cmd_reader.proofs.Nexts.{given_next, refused_next, ended_next, ended_behind, stopped_next}
use Rattle.auditor.specs.Following.{beside, follow}
use Rattle.store_model.specs.Written.{closed_by, begun_by, begun_after}
use Rattle.receiver.specs.Standing.{behind_close, place_of}
use Rattle.receiver.specs.Steps.{blank_of, begun_if}
use Rattle.receiver.specs.Answers.{PiecesSay}
use Rattle.receiver.specs.Disks.{work, HasNow, RunsOn, LeavesOn, StopsOn}
use Rattle.receiver.proofs.NamedReads.{given_fits}
use Rattle.receiver.proofs.FileSteps.{stands_at_start, stands_after}
use Rattle.receiver.proofs.FileStops.{file_done, file_unopened, file_item, file_read_stops}
use Rattle.receiver.proofs.DiskRuns.{run_starts, none_leaves, run_leaves, run_item, run_goes, run_rests, taken_due, at_stream_end}
use Rattle.receiver.proofs.EndedItems.{run_left}
use Rattle.receiver.proofs.files.receive_items.Goals as goal

pub returns-in_default-clause-received : goal.returns-in_default-clause-received
returns-in_default-clause-received g c base spot at on none =
    file_unopened (g.I.Inputs.told c.args.inputs.now) (c.args.file.now.said.now) c.args.file.now.number c.args.store.now.log.limit c.args.file.now.name.now base spot (g.G.Guarding.kept c.args.guards.now) c.args.store.now (g.O.Sink.taken c.args.out.now)
    (RunsOn g.D.Disk (work c.args.disk.now c.args.store.now None) (work c.args.disk.now c.args.store.now None) None)
    (LeavesOn g.D.Disk (work c.args.disk.now c.args.store.now None) c.args.disk.now None)
    (StopsOn g.D.Disk (work c.args.disk.now c.args.store.now None) (work c.args.disk.now c.args.store.now None)) on
    (none_leaves g.D.Disk c.args.disk.now c.args.store.now (λ tells image. g.met.D.Disk.only_now c.args.disk.now image tells))
    (λ V is. run_rests g.D.Disk c.args.disk.now c.args.disk.now c.args.store.now c.args.store.now None [] None ended.NoMemory V
    (run_starts g.D.Disk c.args.disk.now c.args.store.now None refl (λ tells image. g.met.D.Disk.only_now c.args.disk.now image tells)) is)

pub loop-frame-init : goal.loop-frame-init
loop-frame-init g c =
    let fresh = c.in-Ok.ensures.start in
    record {
      same = refl;
      steady = refl;
      ends_steady = refl;
      asked = reads_start g.I.Inputs c.args.inputs.now c.args.file.now.number c.args.file.now.name.now c.in-Ok.reader fresh;
      out_steady = refl;
      disk_steady = refl;
      most = refl;
      file = ap (λ (r : Reader). r.file) fresh;
      name = ap (λ (r : Reader). r.name) fresh;
      within = omega (arith, ap (λ (r : Reader). r.offset) fresh);
      ready = search rules;
      at_end = λ e. absurd (false≢true (sym (ap (λ (r : Reader). r.fed.ended) fresh) ∙ e));
      stands = λ base spot at on none.
          stands_at_start (g.I.Inputs.told c.args.inputs.now) (c.args.file.now.said.now) c.args.file.now.number c.args.store.now.log.limit c.args.file.now.name.now base spot c.in-Ok.reader (g.G.Guarding.kept c.args.guards.now) c.args.store.now None (g.O.Sink.taken c.args.out.now) _ fresh
          at on none
          (run_starts g.D.Disk c.args.disk.now c.args.store.now None refl (λ tells image. g.met.D.Disk.only_now c.args.disk.now image tells));
      ahead = start_ahead _ c.args.file.now.number c.args.file.now.name.now c.in-Ok.reader fresh;
    }

pub returns-in-Ok-None-clause-received : goal.returns-in-Ok-None-clause-received
returns-in-Ok-None-clause-received g c base spot at on none =
    let i = c.loop-frame.invariant in
    let ends = i.at_end (ended_behind (g.I.Inputs.told c.loop-frame.inputs) c.loop-frame.reader c.advance.new.self c.in-Ok-None.field-0 c.in-Ok-None.field-0-is c.in-Ok-None.ensures.says) in
    file_done _ _ (c.args.file.now.said.now) c.args.file.now.number c.args.store.now.log.limit c.args.file.now.name.now base spot c.loop-frame.reader c.advance.new.self (g.G.Guarding.kept c.loop-frame.guards) c.loop-frame.store c.loop-frame.current _ _
    (RunsOn g.D.Disk (work c.args.disk.now c.args.store.now None) (work c.loop-frame.disk c.loop-frame.store c.loop-frame.current) None)
    (LeavesOn g.D.Disk (work c.args.disk.now c.args.store.now None) c.loop-frame.disk None)
    (StopsOn g.D.Disk (work c.args.disk.now c.args.store.now None) (work c.loop-frame.disk c.loop-frame.store c.loop-frame.current)) 0 0
    None refl i.same i.name (ended_next (g.I.Inputs.told c.loop-frame.inputs) c.loop-frame.reader c.advance.new.self c.in-Ok-None.field-0 c.in-Ok-None.field-0-is c.in-Ok-None.ensures.says) ends.0 ends.1 (i.stands base spot at on none)

pub loop-frame-preserved : goal.loop-frame-preserved
loop-frame-preserved g c =
    let i = c.loop-frame.invariant in
    let e = c.in-Ok-Some.ensures in
    let came = given_next (g.I.Inputs.told c.loop-frame.inputs) c.loop-frame.reader c.advance.new.self c.in-Ok-Some.field-0 c.in-Ok-Some.frame c.in-Ok-item.item c.in-Ok-Some.field-0-is c.in-Ok-Some.ensures.says c.item.ensures.bytes c.in-Ok-item.ensures.says in
    let m = came.fits in
    let given = subst (IsOverridden (c.args.file.now.said.now) c.in-Ok-item.item) (sym c.given_or-meant.ensures) c.override_item-changed.ensures.meant in
    let fits = given_fits (c.args.file.now.said.now) c.args.file.now.number c.loop-frame.reader c.advance.new.self c.in-Ok-item.item c.given_or-meant.result.now m (given.meant c.args.file.now.number) given.can_write in
    let r = c.in-Ok-received.ensures in
    let item = item_of c.args.file.now.number c.given_or-meant.result.now in
    let guards = g.G.Guarding.kept c.loop-frame.guards in
    record {
      same = e.same ∙ i.same;
      steady = e.steady ∙ i.steady;
      ends_steady = e.ends_steady ∙ i.ends_steady;
      asked = reads_then g.I.Inputs _ _ _ _ _ _ _ _ _ i.name refl i.asked c.advance.ensures.asked;
      out_steady = r.out_steady ∙ i.out_steady;
      disk_steady = r.steady ∙ i.disk_steady;
      most = r.limit ∙ i.most;
      file = e.file ∙ i.file;
      name = e.name ∙ i.name;
      within = m.within;
      ready = r.ready;
      at_end = at_stream_end c.advance.new.self.fed.ended c.advance.new.self.fed.due c.given_or-meant.result.now.version (meaning_of c.given_or-meant.result.now.command) c.receive_item-received.new.current fits.at_end fits.due r.at_end;
      stands = λ base spot at on none.
          stands_after _ _ (c.args.file.now.said.now) c.args.file.now.number c.args.store.now.log.limit _ c.args.file.now.name.now base spot c.loop-frame.reader c.advance.new.self guards (g.G.Guarding.kept c.receive_item-received.new.guards) c.loop-frame.store c.receive_item-received.new.store
          c.loop-frame.current c.receive_item-received.new.current _ (g.O.Sink.taken c.loop-frame.out) (g.O.Sink.taken c.receive_item-received.new.out)
          (RunsOn g.D.Disk (work c.args.disk.now c.args.store.now None) (work c.loop-frame.disk c.loop-frame.store c.loop-frame.current) None)
          (RunsOn g.D.Disk (work c.args.disk.now c.args.store.now None) (work c.receive_item-received.new.disk c.receive_item-received.new.store c.receive_item-received.new.current) None)
          0 0 (Some c.in-Ok-item.item) c.in-Ok-item.item c.given_or-meant.result.now refl i.same i.name i.file came.read (given.meant c.args.file.now.number) fits i.ready r.followed
          (subst (λ (n : ℕ). PiecesSay (Ok tt) n (behind_close c.loop-frame.current item.command (place_of c.loop-frame.store c.loop-frame.current)) (place_of c.receive_item-received.new.store c.receive_item-received.new.current) item) i.most r.pieces)
          r.written
          (λ groups begun version run.
          run_goes g.D.Disk c.args.disk.now c.loop-frame.disk c.receive_item-received.new.disk c.args.store.now c.loop-frame.store c.receive_item-received.new.store c.loop-frame.current c.receive_item-received.new.current
          groups (closed_by guards item.command begun ++ begun_if (follow (beside guards (blank_of c.loop-frame.store c.loop-frame.current)) item) item.command) (closed_by guards item.command begun ++ begun_by item.command) begun (begun_after begun item)
          (taken_due guards item.command begun _ _ r.followed) run
          (λ tells header there keeps. r.keeps tells header there begun version keeps) (λ tells header there keeps. r.any_moment tells header there begun version keeps))
          (i.stands base spot at on none);
      ahead = next_ahead _ _ c.loop-frame.reader c.advance.new.self 0 0 (Some c.in-Ok-item.item) c.in-Ok-item.item refl e.same e.name came.read;
    }

pub returns-in-Err-received-clause-received : goal.returns-in-Err-received-clause-received
returns-in-Err-received-clause-received g c base spot at on none =
    let i = c.loop-frame.invariant in
    let e = c.in-Ok-Some.ensures in
    let came = given_next (g.I.Inputs.told c.loop-frame.inputs) c.loop-frame.reader c.advance.new.self c.in-Ok-Some.field-0 c.in-Ok-Some.frame c.in-Ok-item.item c.in-Ok-Some.field-0-is c.in-Ok-Some.ensures.says c.item.ensures.bytes c.in-Ok-item.ensures.says in
    let m = came.fits in
    let given = subst (IsOverridden (c.args.file.now.said.now) c.in-Ok-item.item) (sym c.given_or-meant.ensures) c.override_item-changed.ensures.meant in
    let fits = given_fits (c.args.file.now.said.now) c.args.file.now.number c.loop-frame.reader c.advance.new.self c.in-Ok-item.item c.given_or-meant.result.now m (given.meant c.args.file.now.number) given.can_write in
    let r = c.in-Err-received.ensures in
    let item = item_of c.args.file.now.number c.given_or-meant.result.now in
    let guards = g.G.Guarding.kept c.loop-frame.guards in
    file_item _ _ (c.args.file.now.said.now) c.args.file.now.number c.args.store.now.log.limit _ c.args.file.now.name.now base spot c.loop-frame.reader c.advance.new.self guards (g.G.Guarding.kept c.receive_item-received.new.guards) c.loop-frame.store c.receive_item-received.new.store
    c.loop-frame.current c.receive_item-received.new.current _ (g.O.Sink.taken c.loop-frame.out) (g.O.Sink.taken c.receive_item-received.new.out)
    (RunsOn g.D.Disk (work c.args.disk.now c.args.store.now None) (work c.loop-frame.disk c.loop-frame.store c.loop-frame.current) None)
    (RunsOn g.D.Disk (work c.args.disk.now c.args.store.now None) (work c.receive_item-received.new.disk c.receive_item-received.new.store c.receive_item-received.new.current) None)
    (LeavesOn g.D.Disk (work c.args.disk.now c.args.store.now None) c.receive_item-received.new.disk None)
    (StopsOn g.D.Disk (work c.args.disk.now c.args.store.now None) (work c.receive_item-received.new.disk c.receive_item-received.new.store c.receive_item-received.new.current))
    (HasNow g.D.Disk (work c.loop-frame.disk c.loop-frame.store c.loop-frame.current) c.receive_item-received.new.disk c.given_or-meant.result.now.version (closed_by guards item.command)
    (begun_if (follow (beside guards (blank_of c.loop-frame.store c.loop-frame.current)) item) item.command))
    0 0 (Some c.in-Ok-item.item) c.in-Ok-item.item c.given_or-meant.result.now c.in-Err-received.why refl i.same i.name i.file came.read (given.meant c.args.file.now.number) fits i.ready r.followed
    (subst (λ (n : ℕ). PiecesSay (Err c.in-Err-received.why) n (behind_close c.loop-frame.current item.command (place_of c.loop-frame.store c.loop-frame.current)) (place_of c.receive_item-received.new.store c.receive_item-received.new.current) item) i.most r.pieces)
    r.written
    (λ groups more begun version run.
    run_item g.D.Disk c.args.disk.now c.loop-frame.disk c.receive_item-received.new.disk c.args.store.now c.loop-frame.store c.loop-frame.current
    groups (closed_by guards item.command begun ++ begun_if (follow (beside guards (blank_of c.loop-frame.store c.loop-frame.current)) item) item.command) more begun run
    (λ tells header there keeps. r.any_moment tells header there begun version keeps))
    (run_left g.D.Disk c.args.disk.now c.loop-frame.disk c.receive_item-received.new.disk
    (λ tells image later is. g.met.D.Disk.counts_now c.receive_item-received.new.disk (g.D.Disk.moment c.loop-frame.disk) image tells later is)
    c.args.store.now.log.limit base item guards _ c.args.store.now c.loop-frame.store c.loop-frame.current i.ready (g.G.Guarding.kept c.receive_item-received.new.guards) c.receive_item-received.new.store c.receive_item-received.new.current i.most
    c.in-Err-received.why (λ begun groups. groups ++ (closed_by guards item.command begun ++ begun_by item.command)) (λ begun. begun_after begun item) r.followed
    (subst (λ (n : ℕ). PiecesSay (Err c.in-Err-received.why) n (behind_close c.loop-frame.current item.command (place_of c.loop-frame.store c.loop-frame.current)) (place_of c.receive_item-received.new.store c.receive_item-received.new.current) item) i.most r.pieces)
    r.keeps r.any_moment)
    (i.stands base spot at on none)

pub returns-in-Err-clause-received : goal.returns-in-Err-clause-received
returns-in-Err-clause-received g c base spot at on none =
    let i = c.loop-frame.invariant in
    file_read_stops _ _ (c.args.file.now.said.now) c.args.file.now.number c.args.store.now.log.limit c.args.file.now.name.now base spot c.loop-frame.reader c.advance.new.self (g.G.Guarding.kept c.loop-frame.guards) c.loop-frame.store c.loop-frame.current _ (g.O.Sink.taken c.loop-frame.out)
    (RunsOn g.D.Disk (work c.args.disk.now c.args.store.now None) (work c.loop-frame.disk c.loop-frame.store c.loop-frame.current) None)
    (RunsOn g.D.Disk (work c.args.disk.now c.args.store.now None) (work c.loop-frame.disk c.loop-frame.store c.loop-frame.current) None)
    (LeavesOn g.D.Disk (work c.args.disk.now c.args.store.now None) c.loop-frame.disk None)
    (StopsOn g.D.Disk (work c.args.disk.now c.args.store.now None) (work c.loop-frame.disk c.loop-frame.store c.loop-frame.current))
    _ _ c.in-Err.stop c.outcome_of.result i.same i.name (stopped_next _ c.loop-frame.reader c.advance.new.self _ _ c.in-Err.stop c.in-Err.ensures.says) c.outcome_of.ensures.outcome
    (λ groups more begun run. run_leaves g.D.Disk c.args.disk.now c.loop-frame.disk c.args.store.now c.loop-frame.store c.loop-frame.current groups more begun run)
    (λ groups begun x V run is. run_rests g.D.Disk c.args.disk.now c.loop-frame.disk c.args.store.now c.loop-frame.store c.loop-frame.current groups begun x V run is)
    (i.stands base spot at on none)

-- The frame is refused.
pub returns-in-Err-item-clause-received : goal.returns-in-Err-item-clause-received
returns-in-Err-item-clause-received g c base spot at on none =
    let i = c.loop-frame.invariant in
    let verdict = c.in-Err-item.verdict in
    file_read_stops _ _ (c.args.file.now.said.now) c.args.file.now.number c.args.store.now.log.limit c.args.file.now.name.now base spot c.loop-frame.reader c.advance.new.self (g.G.Guarding.kept c.loop-frame.guards) c.loop-frame.store c.loop-frame.current _ (g.O.Sink.taken c.loop-frame.out)
    (RunsOn g.D.Disk (work c.args.disk.now c.args.store.now None) (work c.loop-frame.disk c.loop-frame.store c.loop-frame.current) None)
    (RunsOn g.D.Disk (work c.args.disk.now c.args.store.now None) (work c.loop-frame.disk c.loop-frame.store c.loop-frame.current) None)
    (LeavesOn g.D.Disk (work c.args.disk.now c.args.store.now None) c.loop-frame.disk None)
    (StopsOn g.D.Disk (work c.args.disk.now c.args.store.now None) (work c.loop-frame.disk c.loop-frame.store c.loop-frame.current))
    0 0 (stop.Refused verdict) (ended.Refused verdict) i.same i.name
    (refused_next (g.I.Inputs.told c.loop-frame.inputs) c.loop-frame.reader c.advance.new.self c.in-Ok-Some.field-0 c.in-Ok-Some.frame verdict c.in-Ok-Some.field-0-is c.in-Ok-Some.ensures.says c.item.ensures.bytes c.in-Err-item.ensures.says) refl
    (λ groups more begun run. run_leaves g.D.Disk c.args.disk.now c.loop-frame.disk c.args.store.now c.loop-frame.store c.loop-frame.current groups more begun run)
    (λ groups begun x V run is. run_rests g.D.Disk c.args.disk.now c.loop-frame.disk c.args.store.now c.loop-frame.store c.loop-frame.current groups begun x V run is)
    (i.stands base spot at on none)

pub loop-frame-smaller : goal.loop-frame-smaller
loop-frame-smaller g c =
    let came = given_next (g.I.Inputs.told c.loop-frame.inputs) c.loop-frame.reader c.advance.new.self c.in-Ok-Some.field-0 c.in-Ok-Some.frame c.in-Ok-item.item c.in-Ok-Some.field-0-is c.in-Ok-Some.ensures.says c.item.ensures.bytes c.in-Ok-item.ensures.says in
    omega (arith, came.fits.further, came.fits.within)

pub receive_item-received-requires-clause-spellable : goal.receive_item-received-requires-clause-spellable
receive_item-received-requires-clause-spellable g c =
    let came = given_next (g.I.Inputs.told c.loop-frame.inputs) c.loop-frame.reader c.advance.new.self c.in-Ok-Some.field-0 c.in-Ok-Some.frame c.in-Ok-item.item c.in-Ok-Some.field-0-is c.in-Ok-Some.ensures.says c.item.ensures.bytes c.in-Ok-item.ensures.says in
    let m = came.fits in
    let given = subst (IsOverridden (c.args.file.now.said.now) c.in-Ok-item.item) (sym c.given_or-meant.ensures) c.override_item-changed.ensures.meant in
    (given_fits (c.args.file.now.said.now) c.args.file.now.number c.loop-frame.reader c.advance.new.self c.in-Ok-item.item c.given_or-meant.result.now m (given.meant c.args.file.now.number) given.can_write).can_write.spellable

pub receive_item-received-requires-clause-version : goal.receive_item-received-requires-clause-version
receive_item-received-requires-clause-version g c =
    let came = given_next (g.I.Inputs.told c.loop-frame.inputs) c.loop-frame.reader c.advance.new.self c.in-Ok-Some.field-0 c.in-Ok-Some.frame c.in-Ok-item.item c.in-Ok-Some.field-0-is c.in-Ok-Some.ensures.says c.item.ensures.bytes c.in-Ok-item.ensures.says in
    let m = came.fits in
    let given = subst (IsOverridden (c.args.file.now.said.now) c.in-Ok-item.item) (sym c.given_or-meant.ensures) c.override_item-changed.ensures.meant in
    (given_fits (c.args.file.now.said.now) c.args.file.now.number c.loop-frame.reader c.advance.new.self c.in-Ok-item.item c.given_or-meant.result.now m (given.meant c.args.file.now.number) given.can_write).version

pub returns-in_default-clause-asked : goal.returns-in_default-clause-asked
returns-in_default-clause-asked g c = asked_nothing g.I.Inputs c.args.inputs.now (0, read_none c.args.file.now.name.now 0)

pub returns-in-Ok-None-clause-asked : goal.returns-in-Ok-None-clause-asked
returns-in-Ok-None-clause-asked g c = asked_so g.I.Inputs (λ asks on. (_, on)) (reads_then g.I.Inputs _ _ _ _ _ _ _ _ _ c.loop-frame.invariant.name refl c.loop-frame.invariant.asked c.advance.ensures.asked)

pub returns-in-Err-received-clause-asked : goal.returns-in-Err-received-clause-asked
returns-in-Err-received-clause-asked g c = asked_so g.I.Inputs (λ asks on. (_, on)) (reads_then g.I.Inputs _ _ _ _ _ _ _ _ _ c.loop-frame.invariant.name refl c.loop-frame.invariant.asked c.advance.ensures.asked)

pub returns-in-Err-clause-asked : goal.returns-in-Err-clause-asked
returns-in-Err-clause-asked g c = asked_so g.I.Inputs (λ asks on. (_, on)) (reads_then g.I.Inputs _ _ _ _ _ _ _ _ _ c.loop-frame.invariant.name refl c.loop-frame.invariant.asked c.advance.ensures.asked)

pub returns-in-Err-item-clause-asked : goal.returns-in-Err-item-clause-asked
returns-in-Err-item-clause-asked g c = asked_so g.I.Inputs (λ asks on. (_, on)) (reads_then g.I.Inputs _ _ _ _ _ _ _ _ _ c.loop-frame.invariant.name refl c.loop-frame.invariant.asked c.advance.ensures.asked)
