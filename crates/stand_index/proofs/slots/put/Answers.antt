use Rattle.std.proofs.Common.{◌≡◌, ℕ, ◌<◌, ◌≤◌, ◌^◌, Some, None, Option, sym, ◌∙◌, arith, subst, rules, ap, refl}
use Rattle.std.specs.Option.{unwrap_or}
use Rattle.std.specs.Map.{lookup}
use Rattle.std.specs.BTreeMap.{is_at}
use Rattle.stand_index.specs.Blocks.{Adds}
use Rattle.stand_index.specs.Slots.{AreSlots, all_blocks}
use Rattle.stand_index.proofs.Orders.{slot_cmp, slot_exact}
use Rattle.stand_index.proofs.Adding.{slot_of, put_adds, there_adds, put_kept}
use Rattle.stand_index.proofs.slots.put.Goals as goal

-- A number that is more than none was found.
was_found : (o : Option ℕ) (have count : ℕ) → have ≡ unwrap_or o 0 → 0 < count → count ≤ have → o ≡ Some have
was_found None have count is some more = absurd (omega (arith, is, some, more))
was_found (Some n) have count is some more = ap Some (sym is)

fewer : (o : Option ℕ) (have count was : ℕ) → have ≡ unwrap_or o 0 → have < count → o ≡ Some was → was ≤ count
fewer o have count was is less finds = let e : have ≡ was = is ∙ ap (λ p. unwrap_or p 0) finds in omega (arith, e, less)

pub returns-then-count-have-clause-added : goal.returns-then-count-have-clause-added
returns-then-count-have-clause-added g c =
    there_adds c.args.width c.requires.width c.args.blocks _ (slot_exact _ g.met.S.Source.exact) c.args.map.now.entries c.unwrap_or-have.result
    (was_found _ c.unwrap_or-have.result c.args.blocks.count (search rules) c.requires.some c.if-count-have.true) c.if-count-have.true

pub returns-clause-kept : goal.returns-clause-kept
returns-clause-kept g c = subst (AreSlots c.args.width) (sym c.in_ok-insert.ensures.entries)
    (put_kept c.args.width c.requires.width c.args.blocks _ (slot_exact _ g.met.S.Source.exact) c.args.map.now.entries c.requires.kept c.requires.some c.requires.within
    (search rules) (search rules) c.requires.place)

pub returns-clause-added : goal.returns-clause-added
returns-clause-added g c = subst (λ es. Adds c.args.blocks (all_blocks c.args.width c.args.map.now.entries) (all_blocks c.args.width es)) (sym c.in_ok-insert.ensures.entries)
    (put_adds c.args.width c.requires.width c.args.blocks _ (slot_exact _ g.met.S.Source.exact) c.args.map.now.entries
    (λ was finds. fewer _ c.unwrap_or-have.result c.args.blocks.count was (search rules) c.if-count-have.false finds))
