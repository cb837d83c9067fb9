-- The look-up.
use Rattle.std.proofs.Common.{sym, ap, ◌∙◌}
use Rattle.subvol_catalog.specs.Entries.{entry_of, of_uuid}
use Rattle.clone_resolve.proofs.Searches.{if_unfinished, unfinished_is, is_complete, is_open_still}
use Rattle.clone_resolve.proofs.edit_core.EditCore.unfinished_at.Goals as goal

pub returns-in_err-entry : goal.returns-in_err-entry
returns-in_err-entry g c =
    let found = unfinished_is c.args.uuid c.args.self.now c.catalog.ensures.apart ∙ ap if_unfinished (ap (of_uuid c.args.uuid) (sym c.catalog.ensures.core) ∙ sym c.in_err-entry.ensures.entry) in
    rw (c.from_residual.ensures) (sym found)

pub returns-then-is_some : goal.returns-then-is_some
returns-then-is_some g c =
    let found = unfinished_is c.args.uuid c.args.self.now c.catalog.ensures.apart ∙ ap if_unfinished (ap (of_uuid c.args.uuid) (sym c.catalog.ensures.core) ∙ sym c.in_ok-entry.ensures.entry) in
    sym (found ∙ is_complete (entry_of c.in_ok-entry.entry.now) (sym c.is_some.ensures ∙ c.if-is_some.true))

pub returns : goal.returns
returns g c =
    let found = unfinished_is c.args.uuid c.args.self.now c.catalog.ensures.apart ∙ ap if_unfinished (ap (of_uuid c.args.uuid) (sym c.catalog.ensures.core) ∙ sym c.in_ok-entry.ensures.entry) in
    sym (found ∙ is_open_still (entry_of c.in_ok-entry.entry.now) (sym c.is_some.ensures ∙ c.if-is_some.false))
