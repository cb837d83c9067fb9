-- The order of entries.
use Rattle.std.proofs.Common.{◌≡◌, ◌⊎◌, inl, inr, ℕ, ◌+◌, ◌-◌, ◌^◌, ◌<◌, ◌≤◌, Bool, true, false, not, ◌&&◌, refl, sym, ap, subst, ◌∙◌, arith}
use Rattle.std.specs.declared.cmp.Ordering.{Ordering}
use Rattle.std.specs.declared.cmp.Ordering.TheVariants.{Less, Equal, Greater}
use Rattle.std.specs.Ordering.{nat_cmp, ordering_then, is_lt, is_le}
use Rattle.stand_index.specs.declared.slot.Slot.{Slot}

-- ---- answers one after the other

pub less_else : (o r : Ordering) → ordering_then o r ≡ Less → (o ≡ Less) ⊎ ((o ≡ Equal) × (r ≡ Less))
less_else Less r e = inl refl
less_else Equal r e = inr (refl, e)
less_else Greater r e = inl e

pub le_else : (o r : Ordering) → is_le (ordering_then o r) ≡ true → (o ≡ Less) ⊎ ((o ≡ Equal) × (is_le r ≡ true))
le_else Less r e = inl refl
le_else Equal r e = inr (refl, e)
le_else Greater r e = absurd (one e)
  where
    one : false ≡ true → ⊥
    one e = cc

pub lt_else : (o r : Ordering) → is_lt (ordering_then o r) ≡ true → (o ≡ Less) ⊎ ((o ≡ Equal) × (is_lt r ≡ true))
lt_else Less r e = inl refl
lt_else Equal r e = inr (refl, e)
lt_else Greater r e = absurd (one e)
  where
    one : false ≡ true → ⊥
    one e = cc

pub not_lt : (o r : Ordering) → is_lt (ordering_then o r) ≡ false → o ≡ Less → ⊥
not_lt o r e is = one (sym (ap (λ (p : Ordering). is_lt (ordering_then p r)) is) ∙ e)
  where
    one : true ≡ false → ⊥
    one e = cc

pub le_then : (o r : Ordering) → (o ≡ Less) ⊎ (o ≡ Equal) → is_le r ≡ true → is_le (ordering_then o r) ≡ true
le_then Less r h e = refl
le_then Equal r h e = e
le_then Greater r h e = elim h [ inl is ↦ cc | inr is ↦ cc ]

pub ge_then : (o r : Ordering) → (o ≡ Greater) ⊎ (o ≡ Equal) → is_lt r ≡ false → is_lt (ordering_then o r) ≡ false
ge_then Less r h e = elim h [ inl is ↦ cc | inr is ↦ cc ]
ge_then Equal r h e = e
ge_then Greater r h e = refl

pub lt_first : (o r : Ordering) → o ≡ Less → is_lt (ordering_then o r) ≡ true
lt_first o r is = ap (λ (p : Ordering). is_lt (ordering_then p r)) is

pub lt_second : (o r : Ordering) → o ≡ Equal → is_lt r ≡ true → is_lt (ordering_then o r) ≡ true
lt_second o r is e = ap (λ (p : Ordering). is_lt (ordering_then p r)) is ∙ e

-- ---- numbers

pub number_less : (a b : ℕ) → nat_cmp a b ≡ Less → a < b
number_less a b e = grind arith

pub number_same : (a b : ℕ) → nat_cmp a b ≡ Equal → a ≡ b
number_same a b e = grind arith

pub says_less : (a b : ℕ) → a < b → nat_cmp a b ≡ Less
says_less a b e = grind arith

pub says_same : (a : ℕ) → nat_cmp a a ≡ Equal
says_same a = grind arith

pub says_no_more : (a b : ℕ) → a ≤ b → (nat_cmp a b ≡ Less) ⊎ (nat_cmp a b ≡ Equal)
says_no_more a b h = one (nat_cmp a b) refl
  where
    one : (o : Ordering) → nat_cmp a b ≡ o → (nat_cmp a b ≡ Less) ⊎ (nat_cmp a b ≡ Equal)
    one Less is = inl is
    one Equal is = inr is
    one Greater is = absurd (grind arith)

pub says_no_less : (a b : ℕ) → b ≤ a → (nat_cmp a b ≡ Greater) ⊎ (nat_cmp a b ≡ Equal)
says_no_less a b h = one (nat_cmp a b) refl
  where
    one : (o : Ordering) → nat_cmp a b ≡ o → (nat_cmp a b ≡ Greater) ⊎ (nat_cmp a b ≡ Equal)
    one Less is = absurd (grind arith)
    one Equal is = inr is
    one Greater is = inl is

-- ---- entries

module _ {S : Type 0} (order : S → S → Ordering) where
  -- By file, by shift and by cell.
  abbrev pub tail_cmp : Slot S → Slot S → Ordering
  tail_cmp a b = ordering_then (nat_cmp a.ino b.ino) (ordering_then (nat_cmp a.shift b.shift) (nat_cmp a.first b.first))

  abbrev pub slot_cmp : Slot S → Slot S → Ordering
  slot_cmp a b = ordering_then (order a.source b.source) (ordering_then (nat_cmp a.start b.start) (tail_cmp a b))

  -- Later ones of one stretch are of a greater file, or of the same and no smaller shift.
  pub tail_less : (a b : Slot S) → tail_cmp a b ≡ Less → (a.ino < b.ino) ⊎ ((a.ino ≡ b.ino) × (a.shift ≤ b.shift))
  tail_less a b e = elim (less_else _ _ e) [
    | inl less ↦ inl (number_less a.ino b.ino less)
    | inr p ↦ inr (
      number_same a.ino b.ino p.0,
      elim (less_else (nat_cmp a.shift b.shift) (nat_cmp a.first b.first) p.1) [
        | inl less ↦ omega (arith, number_less a.shift b.shift less)
        | inr q ↦ omega (arith, number_same a.shift b.shift q.0)
      ],
    )
  ]

then_equal : (o r : Ordering) → ordering_then o r ≡ Equal → (o ≡ Equal) × (r ≡ Equal)
then_equal Less r e = absurd (one e)
  where
    one : Less ≡ Equal → ⊥
    one e = cc
then_equal Equal r e = (refl, e)
then_equal Greater r e = absurd (one e)
  where
    one : Greater ≡ Equal → ⊥
    one e = cc

-- Entries that compare as equal are the same.
pub slot_exact : {S : Type 0} (order : S → S → Ordering) → ((a b : S) → order a b ≡ Equal → a ≡ b) → (a b : Slot S) → slot_cmp order a b ≡ Equal → a ≡ b
slot_exact {S} order exact a b e =
    let p = then_equal (order a.source b.source) _ e in
    let q = then_equal (nat_cmp a.start b.start) _ p.1 in
    let r = then_equal (nat_cmp a.ino b.ino) _ q.1 in
    let t = then_equal (nat_cmp a.shift b.shift) _ r.1 in
    same a.source b.source (exact a.source b.source p.0) a.start b.start (number_same a.start b.start q.0) a.ino b.ino (number_same a.ino b.ino r.0)
    a.shift b.shift (number_same a.shift b.shift t.0) a.first b.first (number_same a.first b.first t.1)
  where
    made : S → ℕ → ℕ → ℕ → ℕ → Slot S
    made s start ino shift first = record { source = s; start = start; ino = ino; shift = shift; first = first }

    same : (s s' : S) → s ≡ s' → (start start' : ℕ) → start ≡ start' → (ino ino' : ℕ) → ino ≡ ino' → (shift shift' : ℕ) → shift ≡ shift' → (first first' : ℕ) → first ≡ first'
        → made s start ino shift first ≡ made s' start' ino' shift' first'
    same s s' p start start' q ino ino' r shift shift' t first first' u = cc
