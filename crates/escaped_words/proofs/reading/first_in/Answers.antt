use Rattle.std.specs.Prelude.{◌≡◌, ◌≢◌, [], None, IfNone}
use Rattle.std.proofs.Common.{sym, subst, ◌∙◌, arith}
use Rattle.send_model.specs.Printed.{is_plain}
use Rattle.program_model.specs.EscapedWords.{unescaped}
use Rattle.escaped_words.proofs.Fronted.{plain_stands, too_short, escape_stands, no_escape}
use Rattle.escaped_words.proofs.reading.first_in.Goals as goal

pub returns-then-is_plain-clause-first : goal.returns-then-is_plain-clause-first
returns-then-is_plain-clause-first c = plain_stands c.args.form.now c.in_ok-byte.field-0.now c.in_ok-byte.ensures.value (sym c.is_plain.ensures ∙ c.if-is_plain.true)

pub returns-then-form-lt4-clause-none : goal.returns-then-form-lt4-clause-none
returns-then-form-lt4-clause-none c some =
    too_short c.args.form.now c.in_ok-byte.field-0.now c.in_ok-byte.ensures.value (sym c.is_plain.ensures ∙ c.if-is_plain.false) c.if-form-lt4.true

pub returns-in_err-byte-2-clause-none : goal.returns-in_err-byte-2-clause-none
returns-in_err-byte-2-clause-none c =
    subst (λ o. IfNone o (c.args.form.now ≢ [] → unescaped c.args.form.now ≡ None)) (sym c.from_residual-in_err-byte-2.ensures)
    (λ some. no_escape c.args.form.now c.in_ok-byte.field-0.now _ _ _ c.in_ok-byte.ensures.value (sym c.is_plain.ensures ∙ c.if-is_plain.false) (omega (arith, c.if-form-lt4.false)) c.in_err-byte-2.ensures)

pub returns-clause-first : goal.returns-clause-first
returns-clause-first c =
    escape_stands c.args.form.now c.in_ok-byte.field-0.now c.in_ok-byte-2.byte _ _ _ c.in_ok-byte.ensures.value (sym c.is_plain.ensures ∙ c.if-is_plain.false) (omega (arith, c.if-form-lt4.false)) c.in_ok-byte-2.ensures
