use Rattle.std.proofs.Common.{None, ap, sym, arith, ◌∙◌}
use Rattle.std.proofs.lemmas.Iterator.Consumers.{YieldsList-from_first, nth_from_yields_List}
use Rattle.std.specs.Option.{option_map, option_flatten}
use Rattle.subvol_catalog.specs.Entries.{entry_of, listed}
use Rattle.subvol_catalog.proofs.Tombstones.{entry_at, entry_behind}
use Rattle.subvol_catalog.proofs.slots.Slots.at.Goals as goal

pub returns-then-self-len : goal.returns-then-self-len
returns-then-self-len g c =
    nth_from_yields_List c.nth.result _ c.args.place c.nth.ensures.ran (YieldsList-from_first (λ e. entry_of e.now) (λ s. s) (listed c.args.self.now.entries) c.iter.ensures)

pub returns-in_err-slot : goal.returns-in_err-slot
returns-in_err-slot g c =
    let i = c.self.inside in
    let at = entry_at i.slots.entries c.args.place None (omega (arith, c.self.invariant.0.counted, c.len.ensures.len)) (ap (λ o. option_flatten (option_map (λ s. s.1) o)) (sym c.in_err-slot.ensures.entry)) in
    rw (c.from_residual.ensures, ← c.self.view_is) at

pub returns : goal.returns
returns g c =
    let i = c.self.inside in
    let at = entry_at i.slots.entries c.args.place c.in_ok-slot.slot.now (omega (arith, c.self.invariant.0.counted, c.len.ensures.len)) (ap (λ o. option_flatten (option_map (λ s. s.1) o)) (sym c.in_ok-slot.ensures.entry)) in
    rw (← c.self.view_is) (entry_behind c.as_ref.result ∙ ap (option_map entry_of) c.as_ref.ensures.value ∙ at)
