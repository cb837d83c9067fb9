use Rattle.std.specs.Prelude.{Err, IfSome, is_some}
use Rattle.std.proofs.Common.{refl, sym, ap, subst, ◌∙◌}
use Rattle.sx_base.specs.declared.stop.Stop.{Stop}
use Rattle.clone_resolve.specs.Heads.{Resumes}
use Rattle.clone_resolve.specs.Heads as code_heads
use Rattle.group_replay.proofs.Resuming.{same_entry, not_resumed, resumed_is, resumed_none, resumed_kept}
use Rattle.group_replay.proofs.edits.resumed.Goals as goal

pub returns-then-not-is_unfinished-clause-resumed : goal.returns-then-not-is_unfinished-clause-resumed
returns-then-not-is_unfinished-clause-resumed c = not_resumed c.args.uuid c.args.core.now (sym c.is_unfinished.ensures ∙ c.if-not-is_unfinished.true)

pub resume-requires : goal.resume-requires
resume-requires c = record { there = ap (λ o. is_some o) (same_entry c.args.uuid c.args.core.now) ∙ sym c.is_unfinished.ensures ∙ c.if-not-is_unfinished.false }

pub returns-in-Ok-clause-resumed : goal.returns-in-Ok-clause-resumed
returns-in-Ok-clause-resumed c =
    resumed_is c.args.uuid c.args.core.now (code_heads.unfinished_at c.args.uuid c.args.core.now) c.in-Ok.part refl
    (ap (λ o. is_some o) (same_entry c.args.uuid c.args.core.now) ∙ sym c.is_unfinished.ensures ∙ c.if-not-is_unfinished.false) c.in-Ok.ensures.resumed

pub returns-in-Err-Refused-clause-resumed : goal.returns-in-Err-Refused-clause-resumed
returns-in-Err-Refused-clause-resumed c =
    resumed_none c.args.uuid c.args.core.now (code_heads.unfinished_at c.args.uuid c.args.core.now) c.in-Err-Refused.field-0-0 refl
    (ap (λ o. is_some o) (same_entry c.args.uuid c.args.core.now) ∙ sym c.is_unfinished.ensures ∙ c.if-not-is_unfinished.false)
    (subst (λ (why : Stop). IfSome (code_heads.unfinished_at c.args.uuid c.args.core.now) (λ e. Resumes (Err why) e c.args.core.now)) c.in-Err-Refused.field-0-is c.in-Err-Refused.ensures.resumed)

pub returns-in-Ok-clause-kept : goal.returns-in-Ok-clause-kept
returns-in-Ok-clause-kept c end all =
    resumed_kept c.args.uuid c.args.core.now end (code_heads.unfinished_at c.args.uuid c.args.core.now) c.in-Ok.part
    (ap (λ o. is_some o) (same_entry c.args.uuid c.args.core.now) ∙ sym c.is_unfinished.ensures ∙ c.if-not-is_unfinished.false) c.in-Ok.ensures.resumed all
