use Rattle.std.proofs.Common.{◌∙◌}
use Rattle.std.proofs.lemmas.Result.{err_from_is_err_and}
use Rattle.subvol_catalog.specs.Admission.{is_new}
use Rattle.subvol_catalog.specs.Entries.{entry_of, head_with}
use Rattle.subvol_catalog.proofs.Admissions.{not_new, new_is_admitted, adds_nothing, adds_so}
use Rattle.subvol_catalog.proofs.catalog.Catalog.admit.Goals as goal

pub returns-in_err-check_new : goal.returns-in_err-check_new
returns-in_err-check_new g c =
    let h = head_with c.args.entry.name c.args.entry.key c.args.parent in
    let p = err_from_is_err_and c.from_residual.result c.from_residual.ensures.1 in
    rw (p.1, p.2) (record { added = adds_nothing c.args.self.now (entry_of c.args.entry) (is_new c.args.self.now h.name h.key.uuid) _ c.in_err-check_new.field-0.0 (rw (c.as_slice.ensures.bytes, c.uuid.ensures) at c.in_err-check_new.ensures) (not_new c.args.self.now h) })

pub returns-in_err-check_parent : goal.returns-in_err-check_parent
returns-in_err-check_parent g c =
    let h = head_with c.args.entry.name c.args.entry.key c.args.parent in
    let p = err_from_is_err_and c.from_residual-in_err-check_parent.result c.from_residual-in_err-check_parent.ensures.1 in
    rw (p.1, p.2) (record { added = adds_nothing c.args.self.now (entry_of c.args.entry) _ _ c.in_err-check_parent.field-0.0 c.in_err-check_parent.ensures (λ refusal e. new_is_admitted c.args.self.now h (rw (c.as_slice.ensures.bytes, c.uuid.ensures) at c.in_ok-check_new.ensures) ∙ e) })

pub returns : goal.returns
returns g c =
    let h = head_with c.args.entry.name c.args.entry.key c.args.parent in
    record { added = adds_so c.args.self.now (entry_of c.args.entry) _ c.push.result _ (new_is_admitted c.args.self.now h (rw (c.as_slice.ensures.bytes, c.uuid.ensures) at c.in_ok-check_new.ensures) ∙ c.in_ok-check_parent.ensures) c.push.ensures.added }
