use Rattle.std.specs.Prelude.{◌≡◌, Option, None, Some, false, is_some, Err, IfSome}
use Rattle.std.specs.Option.{option_map}
use Rattle.std.proofs.Common.{refl, sym, ap, subst, ◌∙◌}
use Rattle.sx_base.specs.declared.stop.Stop.{Stop}
use Rattle.send_model.specs.Store.{head_of}
use Rattle.send_commands.specs.Meaning.{meaning_of}
use Rattle.clone_resolve.specs.Heads.{Begins}
use Rattle.group_replay.proofs.Resuming.{is_some_map}
use Rattle.group_replay.proofs.Marks.{no_head, marks, not_marked, marks_kept}
use Rattle.group_replay.proofs.short.begin_marked.Goals as goal

no_value : {A B : Type 0} (f : A → B) (o : Option A) → is_some o ≡ false → option_map f o ≡ None
no_value f None e = refl
no_value f (Some x) e = cc

pub returns-then-not-is_some-clause-begun : goal.returns-then-not-is_some-clause-begun
returns-then-not-is_some-clause-begun c =
    no_head c.args.core.now (meaning_of c.args.command.now) (sym c.head_of.ensures ∙ no_value _ c.head_of.result (sym c.is_some.ensures ∙ c.if-not-is_some.true))

pub returns-in-Ok-clause-begun : goal.returns-in-Ok-clause-begun
returns-in-Ok-clause-begun c =
    marks c.args.core.now (meaning_of c.args.command.now) (head_of (meaning_of c.args.command.now)) c.in-Ok._part c.begin.new.self refl
    (ap (λ o. is_some o) (sym c.head_of.ensures) ∙ is_some_map _ c.head_of.result ∙ sym c.is_some.ensures ∙ c.if-not-is_some.false) c.in-Ok.ensures.begun

pub returns-in-Err-Refused-clause-begun : goal.returns-in-Err-Refused-clause-begun
returns-in-Err-Refused-clause-begun c =
    not_marked c.args.core.now (meaning_of c.args.command.now) (head_of (meaning_of c.args.command.now)) c.in-Err-Refused.field-0-0 c.begin.new.self refl
    (ap (λ o. is_some o) (sym c.head_of.ensures) ∙ is_some_map _ c.head_of.result ∙ sym c.is_some.ensures ∙ c.if-not-is_some.false)
    (subst (λ (why : Stop). IfSome (head_of (meaning_of c.args.command.now)) (λ h. Begins (Err why) h c.args.core.now c.begin.new.self)) c.in-Err-Refused.field-0-is c.in-Err-Refused.ensures.begun)

pub returns-in-Ok-clause-kept : goal.returns-in-Ok-clause-kept
returns-in-Ok-clause-kept c end all taken =
    marks_kept end c.args.core.now c.begin.new.self (head_of (meaning_of c.args.command.now)) c.in-Ok._part
    (ap (λ o. is_some o) (sym c.head_of.ensures) ∙ is_some_map _ c.head_of.result ∙ sym c.is_some.ensures ∙ c.if-not-is_some.false) c.in-Ok.ensures.begun all
