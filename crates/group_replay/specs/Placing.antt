-- Places on a disk, as origins of cells. Source: this program's own.
use Rattle.std.proofs.Common.{◌≡◌, ℕ, ◌+◌, ◌-◌, ◌^◌, ◌≤◌, ap, arith, add-zero, add_assoc}
use Rattle.group_replay.specs.declared.place.Place.{Place}

-- How far a place can rise below 2^64.
abbrev pub reach_of : Place → ℕ
reach_of place = 2 ^ 64 - 1 - place.at

-- The place so many bytes further on.
abbrev pub further : Place → ℕ → Place
further place k = record { at = place.at + k }

place_at : ℕ → Place
place_at n = record { at = n }

pub by_none : (o : Place) → further o 0 ≡ o
unfolding place_at
by_none o = ap place_at (add-zero o.at)

pub is_left : (o : Place) (j k : ℕ) → j + k ≤ reach_of o → k ≤ reach_of (further o j)
is_left o j k h = omega (arith, h)

pub by_both : (o : Place) (j k : ℕ) → j + k ≤ reach_of o
    → further (further o j) k ≡ further o (j + k)
unfolding place_at
by_both o j k h = ap place_at (add_assoc o.at j k)
