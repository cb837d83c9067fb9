-- The laws of traces as origins.
use Rattle.std.proofs.Common.{◌≡◌, ℕ, ◌+◌, ◌≤◌, refl, ap, arith, add-zero, add_assoc}
use Rattle.provenance.specs.declared.trace.Trace.{Trace}
use Rattle.provenance.specs.declared.trace.Trace.TheVariants.{Fresh, Outside}
use Rattle.provenance.specs.Traces.{reach_of, advanced_by, is_outside}

pub by_none : (t : Trace) → advanced_by t 0 ≡ t
by_none (Fresh file at) = ap (Fresh file) (add-zero at)
by_none (Outside key ino at) = ap (Outside key ino) (add-zero at)

pub is_left : (t : Trace) (j k : ℕ) → j + k ≤ reach_of t → k ≤ reach_of (advanced_by t j)
is_left (Fresh file at) j k h = omega (arith, h)
is_left (Outside key ino at) j k h = omega (arith, h)

pub by_both : (t : Trace) (j k : ℕ) → j + k ≤ reach_of t
    → advanced_by (advanced_by t j) k ≡ advanced_by t (j + k)
by_both (Fresh file at) j k h = ap (Fresh file) (add_assoc at j k)
by_both (Outside key ino at) j k h = ap (Outside key ino) (add_assoc at j k)

pub outside_stays : (t : Trace) (k : ℕ) → k ≤ reach_of t
    → is_outside (advanced_by t k) ≡ is_outside t
outside_stays (Fresh file at) k h = refl
outside_stays (Outside key ino at) k h = refl
