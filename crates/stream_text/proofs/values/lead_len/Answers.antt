use Rattle.std.specs.Prelude.{◌≡◌, ◌≢◌, List, [], ◌∷◌, ◌++◌, IfNone, Option}
use Rattle.std.proofs.Common.{ℕ, subst, sym}
use Rattle.stream_text.specs.ValueReading.{lead_of}
use Rattle.stream_text.proofs.Leads.{strip_some, lead_some, lead_taken, lead_none}
use Rattle.stream_text.proofs.values.lead_len.Goals as goal

pub returns-in_err-strip_prefix-2-clause-none : goal.returns-in_err-strip_prefix-2-clause-none
returns-in_err-strip_prefix-2-clause-none c =
    let a = c.in_ok-strip_prefix.ensures.cases in
    let b = c.in_err-strip_prefix-2.ensures.cases in
    subst (λ (o : Option ℕ). IfNone o ((rest : List ℕ) → c.args.text.now ≢ lead_of c.args.kind ++ rest)) (sym c.from_residual-in_err-strip_prefix-2.ensures)
    (subst (λ (name : List ℕ). (rest : List ℕ) → c.args.text.now ≢ (0x20 ∷ (name ++ 0x3d ∷ [])) ++ rest) c.value_name-name.ensures.name
    (lead_none c.args.text.now c.in_ok-strip_prefix.field-0.now c.value_name-name.result.now (strip_some c.args.text.now (0x20 ∷ []) c.in_ok-strip_prefix.field-0.now a.0 a.1) b))

pub returns-clause-some : goal.returns-clause-some
returns-clause-some c =
    let a = c.in_ok-strip_prefix.ensures.cases in
    let b = c.in_ok-strip_prefix-2.ensures.cases in
    let d = c.in_ok-rest.ensures.cases in
    let name : List ℕ = c.value_name-name.result.now in
    lead_taken c.args.text.now (lead_of c.args.kind) c.in_ok-rest.rest.now
    (subst (λ (n : List ℕ). c.args.text.now ≡ (0x20 ∷ (n ++ 0x3d ∷ [])) ++ c.in_ok-rest.rest.now) c.value_name-name.ensures.name
    (lead_some c.args.text.now c.in_ok-strip_prefix.field-0.now c.in_ok-strip_prefix-2.field-0.now c.in_ok-rest.rest.now name
    (strip_some c.args.text.now (0x20 ∷ []) c.in_ok-strip_prefix.field-0.now a.0 a.1)
    (strip_some c.in_ok-strip_prefix.field-0.now name c.in_ok-strip_prefix-2.field-0.now b.0 b.1)
    (strip_some c.in_ok-strip_prefix-2.field-0.now (0x3d ∷ []) c.in_ok-rest.rest.now d.0 d.1)))
