-- What a first byte that names a kind says of itself.
use Rattle.std.specs.Prelude.{◌≡◌, ◌<◌, ℕ, Bool, true, false, nat_lt}
use Rattle.std.proofs.Common.{refl, sym, ap, arith}
use Rattle.store_model.specs.Scrub.{IsKind}
use Rattle.store_scrub.specs.declared.kinds.GroupKind.{GroupKind}
use Rattle.store_scrub.specs.declared.kinds.GroupKind.TheVariants.{Mark, Edits, Drop}
use Rattle.store_scrub.specs.Numbers.{Names}

-- a byte that names a kind is one of the format
pub known : (format first : ℕ) (kind : GroupKind) (is_sealed : Bool) → Names format first kind is_sealed → IsKind format first
known format first Mark true n = (omega (arith, n.is), omega (arith, n.is), λ below. absurd (omega (arith, n.is, below)))
known format first Edits true n = (omega (arith, n.is), omega (arith, n.is), λ below. absurd (omega (arith, n.is, below)))
known format first Drop true n = (omega (arith, n.is), omega (arith, n.is), λ below. absurd (omega (arith, n.is, below)))
known format first Mark false n = (omega (arith, n.is), omega (arith, n.is), λ below. n.old refl)
known format first Edits false n = (omega (arith, n.is), omega (arith, n.is), λ below. n.old refl)
known format first Drop false n = (omega (arith, n.is), omega (arith, n.is), λ below. n.old refl)

-- those with a checksum are above 3
pub new_above : (format first : ℕ) (kind : GroupKind) → Names format first kind true → 3 < first
new_above format first Mark n = omega (arith, n.is)
new_above format first Edits n = omega (arith, n.is)
new_above format first Drop n = omega (arith, n.is)

pub old_below : (format first : ℕ) (kind : GroupKind) → Names format first kind false → first < 4
old_below format first Mark n = omega (arith, n.is)
old_below format first Edits n = omega (arith, n.is)
old_below format first Drop n = omega (arith, n.is)

pub sealed_by : (format first : ℕ) (kind : GroupKind) (is_sealed : Bool) → Names format first kind is_sealed → is_sealed ≡ nat_lt 3 first
sealed_by format first Mark true n = ap (nat_lt 3) (sym n.is)
sealed_by format first Edits true n = ap (nat_lt 3) (sym n.is)
sealed_by format first Drop true n = ap (nat_lt 3) (sym n.is)
sealed_by format first Mark false n = ap (nat_lt 3) (sym n.is)
sealed_by format first Edits false n = ap (nat_lt 3) (sym n.is)
sealed_by format first Drop false n = ap (nat_lt 3) (sym n.is)
