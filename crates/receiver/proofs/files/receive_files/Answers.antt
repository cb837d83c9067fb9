use Rattle.std.specs.Prelude.{ℕ, None, map, ◌+◌}
use Rattle.std.specs.String.{string_bytes}
use Rattle.std.proofs.Common.{refl, sym, ap, subst, ◌∙◌, arith}
use Rattle.sx_base.proofs.Asking.{asked_nothing, asked_so, once_none, once_front}
use Rattle.cmd_reader.proofs.Asked.{file_once}
use Rattle.cmd_reader.specs.Places.{IfTold}
use Rattle.receiver.specs.Disks.{work, RunsOn, LeavesOn, StopsOn}
use Rattle.receiver.proofs.Unpacked.{FileEnds}
use Rattle.receiver.proofs.AllTheFiles.{all_start, all_next, all_stop, all_end}
use Rattle.receiver.proofs.DiskRuns.{run_starts, run_both, run_ends, run_files}
use Rattle.receiver.proofs.files.receive_files.Goals as goal

pub loop-file-init : goal.loop-file-init
loop-file-init g c = record {
  within = omega (arith);
  same = refl;
  steady = refl;
  ends_steady = refl;
  asked = asked_nothing g.I.Inputs c.args.inputs.now (once_none _);
  out_steady = refl;
  disk_steady = refl;
  most = refl;
  idle = c.requires.idle;
  stand = λ base spot at on none.
      all_start _ c.args.given.now.overrides.now (map string_bytes c.args.given.now.files.now) c.args.store.now.log.limit base spot (g.G.Guarding.kept c.args.guards.now) c.args.store.now _
      (RunsOn g.D.Disk (work c.args.disk.now c.args.store.now None) (work c.args.disk.now c.args.store.now None) None) at on none
      (run_starts g.D.Disk c.args.disk.now c.args.store.now None refl (λ tells image. g.met.D.Disk.only_now c.args.disk.now image tells));
}

pub loop-file-preserved : goal.loop-file-preserved
loop-file-preserved g c =
    let i = c.loop-file.invariant in
    let e = c.in-Ok.ensures in
    let f = c.receive_file.new in
    record {
      within = omega (arith, c.loop-file-test.true);
      same = e.inputs.same ∙ i.same;
      steady = e.inputs.steady ∙ i.steady;
      ends_steady = e.inputs.ends_steady ∙ i.ends_steady;
      asked = file_once g.I.Inputs _ _ _ c.args.given.now.files.now c.loop-file.file c.index-given-file.result c.as_str-name.result.now c.loop-file-test.true c.index-given-file.is (c.as_str-name.ensures.value ∙ ap string_bytes (sym c.index-given-file.is)) i.asked c.receive_file.ensures.asked;
      out_steady = e.out.steady ∙ i.out_steady;
      disk_steady = e.disk_steady ∙ i.disk_steady;
      most = e.limit ∙ i.most;
      idle = e.ready;
      stand = λ base spot at on none.
          all_next _ _ c.args.given.now.overrides.now c.args.given.now.files.now c.loop-file.file c.args.store.now.log.limit base spot (g.G.Guarding.kept c.loop-file.guards) (g.G.Guarding.kept c.receive_file.new.guards) c.loop-file.store c.receive_file.new.store _ (g.O.Sink.taken c.loop-file.out) (g.O.Sink.taken c.receive_file.new.out)
          (RunsOn g.D.Disk (work c.args.disk.now c.args.store.now None) (work c.loop-file.disk c.loop-file.store None) None)
          (RunsOn g.D.Disk (work c.loop-file.disk c.loop-file.store None) (work c.receive_file.new.disk c.receive_file.new.store None) None)
          (RunsOn g.D.Disk (work c.args.disk.now c.args.store.now None) (work c.receive_file.new.disk c.receive_file.new.store None) None)
          (λ now. LeavesOn g.D.Disk (work c.loop-file.disk c.loop-file.store None) c.receive_file.new.disk None)
          (StopsOn g.D.Disk (work c.loop-file.disk c.loop-file.store None) (work c.receive_file.new.disk c.receive_file.new.store None))
          c.index-given-file.result c.as_str-name.result.now (c.of_file-said.result.now) c.receive_file.result c.in-Ok.field-0 i.same c.loop-file-test.true c.index-given-file.is (c.as_str-name.ensures.value ∙ ap string_bytes (sym c.index-given-file.is)) c.of_file-said.ensures.said c.in-Ok.is
          (λ now here onward open_none. subst (λ (n : ℕ). IfTold (g.I.Inputs.told c.loop-file.inputs) c.as_str-name.result.now (FileEnds (c.of_file-said.result.now) (c.loop-file.file + 1) n base now (g.G.Guarding.kept c.receive_file.new.guards) c.receive_file.new.store (g.O.Sink.taken c.loop-file.out) (g.O.Sink.taken c.receive_file.new.out)
          (RunsOn g.D.Disk (work c.loop-file.disk c.loop-file.store None) (work c.receive_file.new.disk c.receive_file.new.store None) None)
          (LeavesOn g.D.Disk (work c.loop-file.disk c.loop-file.store None) c.receive_file.new.disk None)
          (StopsOn g.D.Disk (work c.loop-file.disk c.loop-file.store None) (work c.receive_file.new.disk c.receive_file.new.store None)) c.receive_file.result)) i.most
          (c.receive_file.ensures.received base now here onward open_none))
          (λ groups more. run_both g.D.Disk c.args.disk.now c.loop-file.disk c.receive_file.new.disk c.args.store.now c.loop-file.store c.receive_file.new.store groups more)
          (i.stand base spot at on none);
    }

pub returns-in-Err-clause-received : goal.returns-in-Err-clause-received
returns-in-Err-clause-received g c base spot at on none =
    let i = c.loop-file.invariant in
    all_stop _ _ c.args.given.now.overrides.now c.args.given.now.files.now c.loop-file.file c.args.store.now.log.limit base spot (g.G.Guarding.kept c.loop-file.guards) (g.G.Guarding.kept c.receive_file.new.guards) c.loop-file.store c.receive_file.new.store _ (g.O.Sink.taken c.loop-file.out) (g.O.Sink.taken c.receive_file.new.out)
    (RunsOn g.D.Disk (work c.args.disk.now c.args.store.now None) (work c.loop-file.disk c.loop-file.store None) None)
    (RunsOn g.D.Disk (work c.loop-file.disk c.loop-file.store None) (work c.receive_file.new.disk c.receive_file.new.store None) None)
    (RunsOn g.D.Disk (work c.args.disk.now c.args.store.now None) (work c.receive_file.new.disk c.receive_file.new.store None) None)
    (λ now. LeavesOn g.D.Disk (work c.loop-file.disk c.loop-file.store None) c.receive_file.new.disk None)
    (LeavesOn g.D.Disk (work c.args.disk.now c.args.store.now None) c.receive_file.new.disk None)
    (StopsOn g.D.Disk (work c.loop-file.disk c.loop-file.store None) (work c.receive_file.new.disk c.receive_file.new.store None))
    (StopsOn g.D.Disk (work c.args.disk.now c.args.store.now None) (work c.receive_file.new.disk c.receive_file.new.store None))
    c.index-given-file.result c.as_str-name.result.now (c.of_file-said.result.now) c.receive_file.result c.in-Err.ended i.same c.loop-file-test.true c.index-given-file.is (c.as_str-name.ensures.value ∙ ap string_bytes (sym c.index-given-file.is)) c.of_file-said.ensures.said c.in-Err.is
    (λ now here onward open_none. subst (λ (n : ℕ). IfTold (g.I.Inputs.told c.loop-file.inputs) c.as_str-name.result.now (FileEnds (c.of_file-said.result.now) (c.loop-file.file + 1) n base now (g.G.Guarding.kept c.receive_file.new.guards) c.receive_file.new.store (g.O.Sink.taken c.loop-file.out) (g.O.Sink.taken c.receive_file.new.out)
    (RunsOn g.D.Disk (work c.loop-file.disk c.loop-file.store None) (work c.receive_file.new.disk c.receive_file.new.store None) None)
    (LeavesOn g.D.Disk (work c.loop-file.disk c.loop-file.store None) c.receive_file.new.disk None)
    (StopsOn g.D.Disk (work c.loop-file.disk c.loop-file.store None) (work c.receive_file.new.disk c.receive_file.new.store None)) c.receive_file.result)) i.most
    (c.receive_file.ensures.received base now here onward open_none))
    (λ now groups more. run_ends g.D.Disk c.args.disk.now c.loop-file.disk c.receive_file.new.disk c.args.store.now c.loop-file.store groups more)
    (λ groups W V run moved stops. run_files g.D.Disk c.args.disk.now c.loop-file.disk c.receive_file.new.disk c.args.store.now c.loop-file.store c.receive_file.new.store groups c.in-Err.ended W V run moved stops)
    (i.stand base spot at on none)

pub returns-clause-received : goal.returns-clause-received
returns-clause-received g c base spot at on none =
    all_end _ c.args.given.now.overrides.now c.args.given.now.files.now c.loop-file.file c.args.store.now.log.limit base spot (g.G.Guarding.kept c.loop-file.guards) c.loop-file.store _ (g.O.Sink.taken c.loop-file.out)
    (RunsOn g.D.Disk (work c.args.disk.now c.args.store.now None) (work c.loop-file.disk c.loop-file.store None) None)
    (LeavesOn g.D.Disk (work c.args.disk.now c.args.store.now None) c.loop-file.disk None)
    (StopsOn g.D.Disk (work c.args.disk.now c.args.store.now None) (work c.loop-file.disk c.loop-file.store None))
    c.loop-file-test.false (c.loop-file.invariant.stand base spot at on none)

pub returns-in-Err-clause-asked : goal.returns-in-Err-clause-asked
returns-in-Err-clause-asked g c = asked_so g.I.Inputs (λ asks once. once_front _ (c.loop-file.file + 1) asks once) (file_once g.I.Inputs _ _ _ c.args.given.now.files.now c.loop-file.file c.index-given-file.result c.as_str-name.result.now c.loop-file-test.true c.index-given-file.is (c.as_str-name.ensures.value ∙ ap string_bytes (sym c.index-given-file.is)) c.loop-file.invariant.asked c.receive_file.ensures.asked)

pub returns-clause-asked : goal.returns-clause-asked
returns-clause-asked g c = asked_so g.I.Inputs (λ asks once. once_front _ c.loop-file.file asks once) c.loop-file.invariant.asked
