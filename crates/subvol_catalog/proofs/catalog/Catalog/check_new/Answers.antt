use Rattle.std.proofs.Common.{is_some, sym, ap, ◌∙◌}
use Rattle.subvol_catalog.proofs.Pairs.{mapped, name_there}
use Rattle.subvol_catalog.proofs.Admissions.{bad_name, name_taken, uuid_taken, all_new}
use Rattle.subvol_catalog.proofs.catalog.Catalog.check_new.Goals as goal

pub returns-then-not-name_ok : goal.returns-then-not-name_ok
returns-then-not-name_ok g c = bad_name c.args.self.now c.args.name.now c.args.uuid (sym c.name_ok.ensures ∙ c.if-not-name_ok.true)

pub returns-then-is_some : goal.returns-then-is_some
returns-then-is_some g c =
    let there = c.is_some.ensures ∙ sym (mapped _ c.by_name.result) ∙ ap is_some c.by_name.ensures.entry ∙ name_there c.args.name.now c.args.self.now in
    name_taken c.args.self.now c.args.name.now c.args.uuid (sym c.name_ok.ensures ∙ c.if-not-name_ok.false) (sym there ∙ c.if-is_some.true)

pub returns-then-has_uuid : goal.returns-then-has_uuid
returns-then-has_uuid g c =
    let there = c.is_some.ensures ∙ sym (mapped _ c.by_name.result) ∙ ap is_some c.by_name.ensures.entry ∙ name_there c.args.name.now c.args.self.now in
    uuid_taken c.args.self.now c.args.name.now c.args.uuid (sym c.name_ok.ensures ∙ c.if-not-name_ok.false) (sym there ∙ c.if-is_some.false) (sym c.has_uuid.ensures ∙ c.if-has_uuid.true)

pub returns : goal.returns
returns g c =
    let there = c.is_some.ensures ∙ sym (mapped _ c.by_name.result) ∙ ap is_some c.by_name.ensures.entry ∙ name_there c.args.name.now c.args.self.now in
    all_new c.args.self.now c.args.name.now c.args.uuid (sym c.name_ok.ensures ∙ c.if-not-name_ok.false) (sym there ∙ c.if-is_some.false) (sym c.has_uuid.ensures ∙ c.if-has_uuid.false)
