use Rattle.std.proofs.Common.{sym, ap, ◌∙◌}
use Rattle.std.specs.Option.{option_flatten}
use Rattle.subvol_catalog.proofs.Tombstones.{found}
use Rattle.subvol_catalog.proofs.slots.Slots.get.Goals as goal

pub returns-in_err-slot : goal.returns-in_err-slot
returns-in_err-slot g c =
    let at = found c.args.number c.self.inside.slots.entries c.self.invariant.0.apart ∙ ap option_flatten (sym c.in_err-slot.ensures.value) in
    rw (c.from_residual.ensures, ← c.self.view_is) (sym at)

pub returns : goal.returns
returns g c =
    let at = found c.args.number c.self.inside.slots.entries c.self.invariant.0.apart ∙ ap option_flatten (sym c.in_ok-slot.ensures.value) in
    rw (← c.self.view_is) (c.as_ref.ensures.value ∙ sym at)
