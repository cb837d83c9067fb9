-- What a look-up finds in an ordered map.
use Rattle.std.proofs.Common.{◌≡◌, ◌⊎◌, inl, inr, ℕ, ◌+◌, ◌-◌, ◌*◌, ◌/◌, ◌%◌, ◌^◌, ◌<◌, ◌≤◌, ◌==◌, Bool, true, false, not, ◌&&◌, nat_le, nat_lt, List, [], ◌∷◌, map, Option, Some, None, cond, refl, sym, ap, subst, ◌∙◌, arith}
use Rattle.std.specs.declared.cmp.Ordering.{Ordering}
use Rattle.std.specs.declared.cmp.Ordering.TheVariants.{Less, Equal, Greater}
use Rattle.std.specs.Cmp.{IsTotalOrder}
use Rattle.std.specs.List.{AllByRecursion, filter}
use Rattle.std.specs.List.Sorted.{IsStrictlySortedBy}
use Rattle.std.specs.Option.{option_map}
use Rattle.std.specs.Map.{keys_of}
use Rattle.std.specs.Ordering.{nat_cmp, ordering_then, is_lt, is_le}
use Rattle.std.specs.declared.ops.Bound.{Bound}
use Rattle.std.specs.declared.ops.Bound.TheVariants.{Included, Excluded, Unbounded}
use Rattle.std.specs.BTreeMap.Range.{range_contains}
use Rattle.std.proofs.lemmas.Cmp.{tied_itself}
use Rattle.std.proofs.lemmas.Map.Keys.{sorted_head, sorted_tail}
use Rattle.stand_index.specs.declared.blocks.Blocks.{Blocks}
use Rattle.stand_index.specs.declared.slot.Slot.{Slot}
use Rattle.stand_index.specs.Blocks.{OneHas, Begins, IsAmong, IsBehind, IsUpTo, IsNext}
use Rattle.stand_index.specs.Slots.{start_of, blocks_of, all_blocks, AreSmall, IsSlot, AreSlots, IsWidth, has_cell, place_of, first_where, sought}
use Rattle.stand_index.proofs.Numbers.{start_low, start_near, same_start}
use Rattle.stand_index.proofs.Orders.{le_else, lt_else, not_lt, le_then, ge_then, lt_first, lt_second, number_less, number_same, says_less, says_same, says_no_more, says_no_less, tail_cmp, slot_cmp, tail_less, less_else}

-- ---- tests

pub both : (a b : Bool) → (a && b) ≡ true → (a ≡ true) × (b ≡ true)
both true true e = (refl, refl)
both true false e = (refl, e)
both false b e = absurd (one e)
  where
    one : false ≡ true → ⊥
    one e = cc

joined : (a b : Bool) → a ≡ true → b ≡ true → (a && b) ≡ true
joined a b p q = ap (λ (x : Bool). x && b) p ∙ q

pair_is : (a b : ℕ × ℕ) → a.0 ≡ b.0 → a.1 ≡ b.1 → a ≡ b
pair_is a b p q = ap (λ (n : ℕ). (n, a.1)) p ∙ ap (λ (n : ℕ). (b.0, n)) q

no_true : true ≡ false → ⊥
no_true e = cc

turned : (b : Bool) → not b ≡ true → b ≡ false
turned true e = sym e
turned false e = refl

-- The first that passes a test among those that pass another.
pub first_of_filter : {A : Type 0} (test other : A → Bool) (xs : List A) → first_where other (filter test xs) ≡ first_where (λ x. test x && other x) xs
first_of_filter test other [] = refl
first_of_filter {A} test other (x ∷ xs) = one (test x) (first_of_filter test other xs)
  where
    one : (b : Bool) → first_where other (filter test xs) ≡ first_where (λ x. test x && other x) xs → first_where other (cond b (x ∷ filter test xs) (filter test xs)) ≡ cond (b && other x) (Some x) (first_where (λ x. test x && other x) xs)
    one true rest = ap (λ (o : Option A). cond (other x) (Some x) o) rest
    one false rest = rest

-- ---- one entry

module _ {S : Type 0} (order : S → S → Ordering) (total : IsTotalOrder order) (exact : (a b : S) → order a b ≡ Equal → a ≡ b)
    (width cell : ℕ) (some : 0 < width) (source : S) where
  abbrev slot_at : ℕ → ℕ → ℕ → Slot S
  slot_at ino shift first = record { source = source; start = start_of width cell; ino = ino; shift = shift; first = first }

  -- From where on is looked, and up to where.
  abbrev pub low : Option (ℕ × ℕ) → Bound (Slot S)
  low None = Included (slot_at 0 0 0)
  low (Some last) = Excluded (slot_at last.0 (last.1 + (width - (cell - start_of width cell))) (2 ^ 64 - 1))

  abbrev pub high : Bound (Slot S)
  high = Included (slot_at (2 ^ 64 - 1) (2 ^ 64 - 1) (2 ^ 64 - 1))

  abbrev is_near : Option (ℕ × ℕ) → Slot S → Bool
  is_near last slot = range_contains (slot_cmp order) (low last) high slot

  -- It is of the source, and of the stretch that has the cell.
  pub record IsOf (slot : Slot S) : Type 0 where
    pub source_is : slot.source ≡ source
    pub start_is : slot.start ≡ start_of width cell

  -- The place of the block that begins with the cell is behind the last, if it is near.
  not_below : (slot : Slot S) → is_lt (slot_cmp order (slot_at (2 ^ 64 - 1) (2 ^ 64 - 1) (2 ^ 64 - 1)) slot) ≡ false → (order source slot.source ≡ Less → ⊥)
      × (order source slot.source ≡ Equal → nat_cmp (start_of width cell) slot.start ≡ Less → ⊥)
  not_below slot e = (
    not_lt (order source slot.source) _ e,
    λ same. not_lt (nat_cmp (start_of width cell) slot.start) (tail_cmp order (slot_at (2 ^ 64 - 1) (2 ^ 64 - 1) (2 ^ 64 - 1)) slot)
        (sym (ap (λ (o : Ordering). is_lt (ordering_then o (ordering_then (nat_cmp (start_of width cell) slot.start) (tail_cmp order (slot_at (2 ^ 64 - 1) (2 ^ 64 - 1) (2 ^ 64 - 1)) slot)))) same) ∙ e),
  )

  pub near_none : (slot : Slot S) → is_near None slot ≡ true → IsOf slot
  near_none slot e =
      let p = both _ _ e in
      let h = not_below slot (turned _ p.1) in
      elim (le_else (order source slot.source) _ p.0) [
        | inl less ↦ absurd (h.0 less)
        | inr q ↦ elim (le_else (nat_cmp (start_of width cell) slot.start) _ q.1) [
          | inl less ↦ absurd (h.1 q.0 less)
          | inr r ↦ record { source_is = sym (exact source slot.source q.0); start_is = sym (number_same (start_of width cell) slot.start r.0) }
        ]
      ]

  pub record IsLater (last : ℕ × ℕ) (slot : Slot S) : Type 0 where
    pub of : IsOf slot
    pub behind : (last.0 < slot.ino) ⊎ ((last.0 ≡ slot.ino) × (last.1 + (width - (cell - start_of width cell)) < slot.shift))

  pub near_some : (last : ℕ × ℕ) (slot : Slot S) → slot.first < 2 ^ 64 → is_near (Some last) slot ≡ true → IsLater last slot
  near_some last slot small e =
      let p = both _ _ e in
      let h = not_below slot (turned _ p.1) in
      elim (lt_else (order source slot.source) _ p.0) [
        | inl less ↦ absurd (h.0 less)
        | inr q ↦ elim (lt_else (nat_cmp (start_of width cell) slot.start) _ q.1) [
          | inl less ↦ absurd (h.1 q.0 less)
          | inr r ↦ record {
            of = record { source_is = sym (exact source slot.source q.0); start_is = sym (number_same (start_of width cell) slot.start r.0) };
            behind = elim (lt_else (nat_cmp last.0 slot.ino) _ r.1) [
              | inl less ↦ inl (number_less last.0 slot.ino less)
              | inr t ↦ inr (
                number_same last.0 slot.ino t.0,
                elim (lt_else (nat_cmp (last.1 + (width - (cell - start_of width cell))) slot.shift) _ t.1) [
                  | inl less ↦ number_less _ slot.shift less
                  | inr u ↦ absurd (none u.1)
                ],
              )
            ];
          }
        ]
      ]
    where
      none : is_lt (nat_cmp (2 ^ 64 - 1) slot.first) ≡ true → ⊥
      none e = grind arith

  -- What is of the source and of the stretch, and behind the last, is near.
  below_high : (slot : Slot S) → IsOf slot → AreSmall slot → is_lt (slot_cmp order (slot_at (2 ^ 64 - 1) (2 ^ 64 - 1) (2 ^ 64 - 1)) slot) ≡ false
  below_high slot of small =
      ge_then (order source slot.source) _ (inr (ap (order source) of.source_is ∙ tied_itself total source))
      (ge_then (nat_cmp (start_of width cell) slot.start) _ (inr (ap (nat_cmp (start_of width cell)) of.start_is ∙ says_same (start_of width cell)))
      (ge_then (nat_cmp (2 ^ 64 - 1) slot.ino) _ (says_no_less (2 ^ 64 - 1) slot.ino (omega (arith, small.ino)))
      (ge_then (nat_cmp (2 ^ 64 - 1) slot.shift) _ (says_no_less (2 ^ 64 - 1) slot.shift (omega (arith, small.shift)))
      (last_of (nat_cmp (2 ^ 64 - 1) slot.first) (says_no_less (2 ^ 64 - 1) slot.first (omega (arith, small.first)))))))
    where
      last_of : (o : Ordering) → (o ≡ Greater) ⊎ (o ≡ Equal) → is_lt o ≡ false
      last_of Less h = elim h [ inl is ↦ cc | inr is ↦ cc ]
      last_of Equal h = refl
      last_of Greater h = refl

  pub is_near_none : (slot : Slot S) → IsOf slot → AreSmall slot → is_near None slot ≡ true
  is_near_none slot of small = joined _ _
      (le_then (order source slot.source) _ (inr (ap (order source) of.source_is ∙ tied_itself total source))
      (le_then (nat_cmp (start_of width cell) slot.start) _ (inr (ap (nat_cmp (start_of width cell)) of.start_is ∙ says_same (start_of width cell)))
      (le_then (nat_cmp 0 slot.ino) _ (says_no_more 0 slot.ino (omega arith))
      (le_then (nat_cmp 0 slot.shift) _ (says_no_more 0 slot.shift (omega arith))
      (last_of (nat_cmp 0 slot.first) (says_no_more 0 slot.first (omega arith)))))))
      (ap not (below_high slot of small))
    where
      last_of : (o : Ordering) → (o ≡ Less) ⊎ (o ≡ Equal) → is_le o ≡ true
      last_of Less h = refl
      last_of Equal h = refl
      last_of Greater h = elim h [ inl is ↦ cc | inr is ↦ cc ]

  pub is_near_some : (last : ℕ × ℕ) (slot : Slot S) → IsLater last slot → AreSmall slot → is_near (Some last) slot ≡ true
  is_near_some last slot later small = joined _ _
      (lt_second (order source slot.source) _ (ap (order source) later.of.source_is ∙ tied_itself total source)
      (lt_second (nat_cmp (start_of width cell) slot.start) _ (ap (nat_cmp (start_of width cell)) later.of.start_is ∙ says_same (start_of width cell))
      (elim later.behind [
        | inl more ↦ lt_first (nat_cmp last.0 slot.ino) _ (says_less last.0 slot.ino more)
        | inr p ↦ lt_second (nat_cmp last.0 slot.ino) _ (ap (nat_cmp last.0) (sym p.0) ∙ says_same last.0)
            (lt_first (nat_cmp (last.1 + (width - (cell - start_of width cell))) slot.shift) _ (says_less _ slot.shift p.1))
      ])))
      (ap not (below_high slot later.of small))

  -- ---- what an entry has

  -- An entry of the stretch that has a block with the cell.
  pub has_begins : (e : Slot S × ℕ) → IsSlot width e → IsOf e.0 → has_cell e.0 e.1 cell ≡ true
      → Begins source cell (place_of width cell e.0).0 (place_of width cell e.0).1 (blocks_of width e)
  has_begins e slot of has =
      let p = both (nat_le e.0.first cell) _ has in
      let q = both ((cell - e.0.first) % 4096 == 0) _ p.1 in
      let from : e.0.first ≤ cell = grind (arith, p.0) in
      let whole : (cell - e.0.first) % 4096 ≡ 0 = grind (arith, q.0) in
      let within : (cell - e.0.first) / 4096 < e.1 = grind (arith, q.1) in
      let near : cell < start_of width cell + width = start_near width cell some in
      let start : e.0.start ≡ start_of width cell = of.start_is in
      let enough : e.0.start + width ≤ e.0.shift + e.0.first = slot.low in
      let under : e.0.start ≤ e.0.first = omega (arith, start_low width e.0.first, slot.start_is) in
      record {
        block = (cell - e.0.first) / 4096;
        within = within;
        source_is = of.source_is;
        cell_is = omega (arith, from, whole);
        ino_is = refl;
        place_is = placed (start_of width cell) e.0.start e.0.shift e.0.first ((cell - e.0.first) / 4096) start enough near under (omega (arith, from, whole));
      }
    where
      placed : (s t shift first block : ℕ) → t ≡ s → t + width ≤ shift + first → cell < s + width → t ≤ first → cell ≡ first + 4096 * block
          → shift - (width - (cell - t)) ≡ ((shift + first) - (t + width)) + 4096 * block
      placed s t shift first block is enough near under at = omega (arith, is, enough, near, under, at)

  -- A block of an entry with the cell says which entry it may be.
  pub record Says (e : Slot S × ℕ) (ino place : ℕ) : Type 0 where
    pub of : IsOf e.0
    pub has : has_cell e.0 e.1 cell ≡ true
    pub ino_is : ino ≡ (place_of width cell e.0).0
    pub place_is : place ≡ (place_of width cell e.0).1

  pub begins_says : (e : Slot S × ℕ) (ino place : ℕ) → IsSlot width e → Begins source cell ino place (blocks_of width e) → Says e ino place
  begins_says e ino place slot begins =
      let at : cell ≡ e.0.first + 4096 * begins.block = begins.cell_is in
      let below : begins.block < e.1 = begins.within in
      let first_low : start_of width e.0.first ≤ e.0.first = start_low width e.0.first in
      let last : e.0.first + 4096 * (e.1 - 1) < e.0.start + width = slot.within in
      let same : start_of width cell ≡ start_of width e.0.first = same_start width e.0.first cell some (omega (arith, at, first_low)) (omega (arith, at, below, last, slot.start_is)) in
      let start : e.0.start ≡ start_of width cell = sym (same ∙ slot.start_is) in
      let enough : e.0.start + width ≤ e.0.shift + e.0.first = slot.low in
      let there : place ≡ ((e.0.shift + e.0.first) - (e.0.start + width)) + 4096 * begins.block = begins.place_is in
      record {
        of = record { source_is = begins.source_is; start_is = start };
        has = tests e.0.first e.1 begins.block at below;
        ino_is = sym begins.ino_is;
        place_is = omega (arith, there, at, below, last, enough, first_low, slot.start_is);
      }
    where
      tests : (first count block : ℕ) → cell ≡ first + 4096 * block → block < count
          → (nat_le first cell && (((cell - first) % 4096 == 0) && nat_lt ((cell - first) / 4096) count)) ≡ true
      tests first count block at below = joined (nat_le first cell) (((cell - first) % 4096 == 0) && nat_lt ((cell - first) / 4096) count) (grind arith)
          (joined ((cell - first) % 4096 == 0) (nat_lt ((cell - first) / 4096) count) (grind arith) (grind arith))

  -- ---- the first one

  -- A place is behind the last where its entry is near.
  near_behind : (last : Option (ℕ × ℕ)) (e : Slot S × ℕ) → IsSlot width e → is_near last e.0 ≡ true → has_cell e.0 e.1 cell ≡ true
      → IsOf e.0 × IsBehind last (place_of width cell e.0)
  near_behind None e slot near has = (near_none e.0 near, tt)
  near_behind (Some last) e slot near has =
      let later = near_some last e.0 slot.small.first near in
      let near' : cell < start_of width cell + width = start_near width cell some in (
        later.of,
        elim later.behind [
          | inl more ↦ inl more
          | inr p ↦ inr (p.0, farther (start_of width cell) e.0.start e.0.shift last.1 later.of.start_is p.1 near')
        ],
      )
    where
      farther : (s t shift at : ℕ) → t ≡ s → at + (width - (cell - s)) < shift → cell < s + width → at < shift - (width - (cell - t))
      farther s t shift at is more near = omega (arith, is, more, near)

  of_near : (last : Option (ℕ × ℕ)) (e : Slot S × ℕ) → IsSlot width e → is_near last e.0 ≡ true → e.0.start ≡ start_of width cell
  of_near None e slot near = (near_none e.0 near).start_is
  of_near (Some last) e slot near = (near_some last e.0 slot.small.first near).of.start_is

  behind_near : (last : Option (ℕ × ℕ)) (e : Slot S × ℕ) → IsSlot width e → IsOf e.0 → IsBehind last (place_of width cell e.0) → is_near last e.0 ≡ true
  behind_near None e slot of behind = is_near_none e.0 of slot.small
  behind_near (Some last) e slot of behind = is_near_some last e.0 (record {
    of = of;
    behind = elim behind [
      | inl more ↦ inl more
      | inr p ↦ inr (p.0, back (start_of width cell) e.0.start e.0.shift last.1 of.start_is p.1)
    ];
  }) slot.small
    where
      back : (s t shift at : ℕ) → t ≡ s → at < shift - (width - (cell - t)) → at + (width - (cell - s)) < shift
      back s t shift at is more = omega (arith, is, more)

  -- Of two entries of the stretch the later one has no lesser place.
  no_lesser : (a b : Slot S) → IsOf a → IsOf b → slot_cmp order a b ≡ Less → IsUpTo (place_of width cell a) (place_of width cell b)
  no_lesser a b p q e =
      let sources : order a.source b.source ≡ Equal = ap (λ (s : S). order s b.source) p.source_is ∙ ap (order source) q.source_is ∙ tied_itself total source in
      let starts : nat_cmp a.start b.start ≡ Equal = ap (λ (n : ℕ). nat_cmp n b.start) p.start_is ∙ ap (nat_cmp (start_of width cell)) q.start_is ∙ says_same (start_of width cell) in
      let tail : tail_cmp order a b ≡ Less = sym (ap (λ (o : Ordering). ordering_then o (ordering_then (nat_cmp a.start b.start) (tail_cmp order a b))) sources
      ∙ ap (λ (o : Ordering). ordering_then o (tail_cmp order a b)) starts) ∙ e in
      elim (tail_less order a b tail) [
        | inl more ↦ inl more
        | inr t ↦ inr (t.0, omega (arith, t.1, p.start_is, q.start_is))
      ]

  module _ (last : Option (ℕ × ℕ)) where
    abbrev is_it : Slot S × ℕ → Bool
    is_it e = is_near last e.0 && has_cell e.0 e.1 cell

    -- A place at which a block was put that begins with the cell.
    abbrev HasIn : List (Slot S × ℕ) → ℕ × ℕ → Type 0
    HasIn es place = IsAmong source cell place.0 place.1 (all_blocks width es)

    after_all : (x : Slot S × ℕ) (es : List (Slot S × ℕ)) → IsOf x.0 → AreSlots width es → AllByRecursion (λ k. slot_cmp order x.0 k ≡ Less) (keys_of es)
        → (other : ℕ × ℕ) → HasIn es other → IsUpTo (place_of width cell x.0) other
    after_all x [] of slots later other has = absurd has
    after_all x (y ∷ es) of slots later other has = elim has [
      | inl here ↦
          let says = begins_says y other.0 other.1 slots.0 here in
          elim (no_lesser x.0 y.0 of says.of later.0) [
            | inl more ↦ inl (omega (arith, more, says.ino_is))
            | inr p ↦ inr (p.0 ∙ sym says.ino_is, omega (arith, p.1, says.place_is))
          ]
      | inr there ↦ after_all x es of slots.1 later.1 other there
    ]

    pub first_is_next : (es : List (Slot S × ℕ)) → AreSlots width es → IsStrictlySortedBy (slot_cmp order) (keys_of es) → (o : Option (Slot S × ℕ)) → first_where is_it es ≡ o
        → IsNext (HasIn es) last (option_map (λ e. place_of width cell e.0) o)
    first_is_next [] slots sorted o is = rw (sym is) (λ other has behind. has)
    first_is_next (x ∷ es) slots sorted o is = one (is_it x) refl (first_is_next es slots.1 (sorted_tail (slot_cmp order) x.0 (keys_of es) sorted)) is
      where
        one : (b : Bool) → is_it x ≡ b → ((o : Option (Slot S × ℕ)) → first_where is_it es ≡ o → IsNext (HasIn es) last (option_map (λ e. place_of width cell e.0) o)) → cond b (Some x) (first_where is_it es) ≡ o → IsNext (HasIn (x ∷ es)) last (option_map (λ e. place_of width cell e.0) o)
        one true passes rest is =
            let p = both (is_near last x.0) _ passes in
            let near = near_behind last x slots.0 p.0 p.1 in
            subst (λ (o : Option (Slot S × ℕ)). IsNext (HasIn (x ∷ es)) last (option_map (λ e. place_of width cell e.0) o)) is (
              inl (has_begins x slots.0 near.0 p.1),
              near.1,
              λ other has behind. elim has [
                | inl here ↦ let says = begins_says x other.0 other.1 slots.0 here in inr (sym says.ino_is, omega (arith, says.place_is))
                | inr there ↦ after_all x es near.0 slots.1 (sorted_head (slot_cmp order) x.0 (keys_of es) sorted) other there
              ],
            )
        one false misses rest is = more o (rest o is)
          where
            not_here : (other : ℕ × ℕ) → Begins source cell other.0 other.1 (blocks_of width x) → IsBehind last other → ⊥
            not_here other here behind =
                let says = begins_says x other.0 other.1 slots.0 here in
                let same : other ≡ place_of width cell x.0 = pair_is other (place_of width cell x.0) says.ino_is says.place_is in
                no_true (sym (joined (is_near last x.0) (has_cell x.0 x.1 cell) (behind_near last x slots.0 says.of (subst (IsBehind last) same behind)) says.has) ∙ misses)

            more : (o : Option (Slot S × ℕ)) → IsNext (HasIn es) last (option_map (λ e. place_of width cell e.0) o) → IsNext (HasIn (x ∷ es)) last (option_map (λ e. place_of width cell e.0) o)
            more None none = λ other has behind. elim has [ inl here ↦ not_here other here behind | inr there ↦ none other there behind ]
            more (Some e) next = (inr next.0, next.1, λ other has behind. elim has [ inl here ↦ absurd (not_here other here behind) | inr there ↦ next.2 other there behind ])

    -- ---- a look-up that goes over those that are near

    near_all : (es : List (Slot S × ℕ)) → AreSlots width es → AllByRecursion (λ e. IsSlot width e × (e.0.start ≡ start_of width cell)) (filter (λ e. is_near last e.0) es)
    near_all [] slots = tt
    near_all (x ∷ es) slots = one (is_near last x.0) refl (near_all es slots.1)
      where
        one : (b : Bool) → is_near last x.0 ≡ b → AllByRecursion (λ e. IsSlot width e × (e.0.start ≡ start_of width cell)) (filter (λ e. is_near last e.0) es)
            → AllByRecursion (λ e. IsSlot width e × (e.0.start ≡ start_of width cell)) (cond b (x ∷ filter (λ e. is_near last e.0) es) (filter (λ e. is_near last e.0) es))
        one true near rest = ((slots.0, of_near last x slots.0 near), rest)
        one false near rest = rest

    pub near_found : (es found : List (Slot S × ℕ)) → AreSlots width es → IsStrictlySortedBy (slot_cmp order) (keys_of es) → found ≡ filter (λ e. is_near last e.0) es
        → AllByRecursion (λ e. IsSlot width e × (e.0.start ≡ start_of width cell)) found
        × ((o : Option (Slot S × ℕ)) → sought cell found ≡ o → IsNext (HasIn es) last (option_map (λ e. place_of width cell e.0) o))
    near_found es found slots sorted is = (
      subst (AllByRecursion (λ e. IsSlot width e × (e.0.start ≡ start_of width cell))) (sym is) (near_all es slots),
      λ o finds. first_is_next es slots sorted o (sym (first_of_filter (λ (e : Slot S × ℕ). is_near last e.0) (λ (e : Slot S × ℕ). has_cell e.0 e.1 cell) es) ∙ ap (sought cell) (sym is) ∙ finds),
    )

-- ---- one step of a look-up

module _ {S : Type 0} (cell : ℕ) (e : Slot S × ℕ) (es more : List (Slot S × ℕ)) (step : es ≡ e ∷ more) where
  pub passed_on : has_cell e.0 e.1 cell ≡ false → (o : Option (Slot S × ℕ)) → sought cell more ≡ o → sought cell es ≡ o
  passed_on misses o is = ap (sought cell) step ∙ ap (λ (b : Bool). cond b (Some e) (sought cell more)) misses ∙ is

  pub found_here : has_cell e.0 e.1 cell ≡ true → sought cell es ≡ Some e
  found_here has = ap (sought cell) step ∙ ap (λ (b : Bool). cond b (Some e) (sought cell more)) has
