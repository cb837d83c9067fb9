use Rattle.std.specs.Prelude.{ℕ, List, Option, None, Some}
use Rattle.std.proofs.Common.{refl, sym, ap, subst, ◌∙◌, arith}
use Rattle.send_model.specs.Overridden.{Override, override_for}
use Rattle.cmd_reader.specs.Left.{Reader}
use Rattle.cmd_reader.specs.declared.item.ReadStop.TheVariants as stop
use Rattle.sx_base.proofs.Asking.{asked_nothing, asked_so, read_none}
use Rattle.cmd_reader.proofs.Asked.{reads_start, reads_then}
use Rattle.cmd_reader.proofs.Aheads.{start_ahead, glance_ahead}
use Rattle.cmd_reader.proofs.Nexts.{given_glance, refused_glance, ended_glance, stopped_glance}
use Rattle.file_survey.specs.NamedGlances.{IsMeantGlance}
use Rattle.file_survey.proofs.Surveys.{file_start, file_next, file_whole, file_fault, file_stop}
use Rattle.file_survey.proofs.Surveys.{glance_writable}
use Rattle.file_survey.proofs.surveying.survey_file.Goals as goal

pub loop-frame-init : goal.loop-frame-init
loop-frame-init g c = record {
  same = refl;
  steady = refl;
  ends_steady = refl;
  asked = reads_start g.I.Inputs c.args.inputs.now c.args.file c.args.name.now c.in-Ok.reader c.in-Ok.ensures.start;
  name = ap (λ (r : Reader). r.name) c.in-Ok.ensures.start;
  seen = file_start _ c.args.file (override_for c.args.overrides.now c.args.file) c.args.name.now c.in-Ok.reader c.args.seen.now c.in-Ok.ensures.start;
  ahead = start_ahead _ c.args.file c.args.name.now c.in-Ok.reader c.in-Ok.ensures.start;
}

pub loop-frame-preserved : goal.loop-frame-preserved
loop-frame-preserved g c =
    let kept = c.loop-frame.invariant in
    let glance = c.in-Ok-glance.glance in
    let given = given_glance (g.I.Inputs.told c.loop-frame.inputs) c.loop-frame.reader c.advance.new.self c.in-Ok-Some.field-0 c.in-Ok-Some.frame glance c.in-Ok-Some.field-0-is c.in-Ok-Some.ensures.says c.in-Ok-glance.ensures.says in
    record {
      same = c.advance.ensures.same ∙ kept.same;
      steady = c.in-Ok-Some.ensures.steady ∙ kept.steady;
      ends_steady = c.in-Ok-Some.ensures.ends_steady ∙ kept.ends_steady;
      asked = reads_then g.I.Inputs _ _ _ _ _ _ _ _ _ kept.name refl kept.asked c.advance.ensures.asked;
      name = c.advance.ensures.name ∙ kept.name;
      seen = file_next _ _ c.args.file (override_for c.args.overrides.now c.args.file) c.args.name.now c.loop-frame.reader c.advance.new.self (Some glance) glance c.given_or-meant.result.now c.args.seen.now c.loop-frame.seen c.keep.new.self 0 0
          kept.same kept.name refl (subst (λ (o : Override). IsMeantGlance o glance c.given_or-meant.result.now) c.of_file-said.ensures.said (subst (IsMeantGlance _ glance) (sym c.given_or-meant.ensures) c.glance_as-changed.ensures.meant)) c.in-Ok-keep.ensures.kept kept.seen given.read;
      ahead = glance_ahead _ _ c.loop-frame.reader c.advance.new.self 0 0 (Some glance) glance refl c.advance.ensures.same c.advance.ensures.name given.read;
    }

pub loop-frame-smaller : goal.loop-frame-smaller
loop-frame-smaller g c =
    let given = given_glance (g.I.Inputs.told c.loop-frame.inputs) c.loop-frame.reader c.advance.new.self c.in-Ok-Some.field-0 c.in-Ok-Some.frame c.in-Ok-glance.glance c.in-Ok-Some.field-0-is c.in-Ok-Some.ensures.says c.in-Ok-glance.ensures.says in
    omega (arith, given.fits.further, given.fits.within)

pub returns-in-Ok-None-clause-seen : goal.returns-in-Ok-None-clause-seen
returns-in-Ok-None-clause-seen g c =
    let kept = c.loop-frame.invariant in
    file_whole _ _ c.args.file (override_for c.args.overrides.now c.args.file) c.args.name.now c.loop-frame.reader c.advance.new.self None c.args.seen.now c.loop-frame.seen 0 0 kept.same kept.name refl kept.seen
    (ended_glance (g.I.Inputs.told c.loop-frame.inputs) c.loop-frame.reader c.advance.new.self c.in-Ok-None.field-0 c.in-Ok-None.field-0-is c.in-Ok-None.ensures.says)

pub returns-in-Err-glance-clause-seen : goal.returns-in-Err-glance-clause-seen
returns-in-Err-glance-clause-seen g c =
    let kept = c.loop-frame.invariant in
    let verdict = c.in-Err-glance.field-0 in
    file_fault _ _ c.args.file (override_for c.args.overrides.now c.args.file) c.args.name.now c.loop-frame.reader c.advance.new.self verdict (stop.Refused verdict) c.args.seen.now c.loop-frame.seen 0 0 kept.same kept.name refl kept.seen
    (refused_glance (g.I.Inputs.told c.loop-frame.inputs) c.loop-frame.reader c.advance.new.self c.in-Ok-Some.field-0 c.in-Ok-Some.frame verdict c.in-Ok-Some.field-0-is c.in-Ok-Some.ensures.says c.in-Err-glance.ensures.says)

pub returns-in-Refused-clause-seen : goal.returns-in-Refused-clause-seen
returns-in-Refused-clause-seen g c =
    let kept = c.loop-frame.invariant in
    file_fault _ _ c.args.file (override_for c.args.overrides.now c.args.file) c.args.name.now c.loop-frame.reader c.advance.new.self c.in-Refused.field-0 c.in-Err.stop c.args.seen.now c.loop-frame.seen _ _ kept.same kept.name c.in-Refused.is kept.seen
    (stopped_glance _ c.loop-frame.reader c.advance.new.self _ _ c.in-Err.stop c.in-Err.ensures.says)

pub returns-in_default-stop-clause-seen : goal.returns-in_default-stop-clause-seen
returns-in_default-stop-clause-seen g c =
    let kept = c.loop-frame.invariant in
    file_stop _ _ c.args.file (override_for c.args.overrides.now c.args.file) c.args.name.now c.loop-frame.reader c.advance.new.self c.in-Err.stop c.outcome_of.result c.args.seen.now c.loop-frame.seen _ _ kept.same kept.name c.in_default-stop.not-Refused c.outcome_of.ensures.outcome kept.seen
    (stopped_glance _ c.loop-frame.reader c.advance.new.self _ _ c.in-Err.stop c.in-Err.ensures.says)

pub keep-requires : goal.keep-requires
keep-requires g c =
    let glance = c.in-Ok-glance.glance in
    let given = given_glance (g.I.Inputs.told c.loop-frame.inputs) c.loop-frame.reader c.advance.new.self c.in-Ok-Some.field-0 c.in-Ok-Some.frame glance c.in-Ok-Some.field-0-is c.in-Ok-Some.ensures.says c.in-Ok-glance.ensures.says in
    record { writable = glance_writable _ (Some glance) glance _ c.loop-frame.reader c.advance.new.self refl (subst (IsMeantGlance _ glance) (sym c.given_or-meant.ensures) c.glance_as-changed.ensures.meant) given.fits }

pub returns-in_default-clause-asked : goal.returns-in_default-clause-asked
returns-in_default-clause-asked g c = asked_nothing g.I.Inputs c.args.inputs.now (0, read_none c.args.name.now 0)

pub returns-in-Ok-None-clause-asked : goal.returns-in-Ok-None-clause-asked
returns-in-Ok-None-clause-asked g c = asked_so g.I.Inputs (λ asks on. (_, on)) (reads_then g.I.Inputs _ _ _ _ _ _ _ _ _ c.loop-frame.invariant.name refl c.loop-frame.invariant.asked c.advance.ensures.asked)

pub returns-in-Refused-clause-asked : goal.returns-in-Refused-clause-asked
returns-in-Refused-clause-asked g c = asked_so g.I.Inputs (λ asks on. (_, on)) (reads_then g.I.Inputs _ _ _ _ _ _ _ _ _ c.loop-frame.invariant.name refl c.loop-frame.invariant.asked c.advance.ensures.asked)

pub returns-in_default-stop-clause-asked : goal.returns-in_default-stop-clause-asked
returns-in_default-stop-clause-asked g c = asked_so g.I.Inputs (λ asks on. (_, on)) (reads_then g.I.Inputs _ _ _ _ _ _ _ _ _ c.loop-frame.invariant.name refl c.loop-frame.invariant.asked c.advance.ensures.asked)

pub returns-in-Err-glance-clause-asked : goal.returns-in-Err-glance-clause-asked
returns-in-Err-glance-clause-asked g c = asked_so g.I.Inputs (λ asks on. (_, on)) (reads_then g.I.Inputs _ _ _ _ _ _ _ _ _ c.loop-frame.invariant.name refl c.loop-frame.invariant.asked c.advance.ensures.asked)

pub returns-in-Err-keep-clause-asked : goal.returns-in-Err-keep-clause-asked
returns-in-Err-keep-clause-asked g c = asked_so g.I.Inputs (λ asks on. (_, on)) (reads_then g.I.Inputs _ _ _ _ _ _ _ _ _ c.loop-frame.invariant.name refl c.loop-frame.invariant.asked c.advance.ensures.asked)
