-- Which places live once one file's cells were taken out, changed and put in again.
use Rattle.std.specs.Prelude.{◌≡◌, ◌≢◌, ℕ, ◌+◌, ◌-◌, ◌==◌, Bool, true, false, not, ◌&&◌, ◌||◌, Option, None, Some, min, nat_le, nat_lt, if◌then◌else◌}
use Rattle.std.specs.BTreeMap.{BTreeMap, get}
use Rattle.std.specs.Ordering.{nat_cmp}
use Rattle.std.proofs.Common.{refl, sym, ap, ap₂, ◌∙◌, arith, inl, inr, eqb-true}
use Rattle.std.proofs.lemmas.Bool.{cases_eq, cases_lt, eq-eqb, ltb-true, false_from_ne_true}
use Rattle.squash_model.specs.Liveness.{Living, covers, live_cut}
use Rattle.squash_log.specs.declared.change.FileRange.{FileRange}
use Rattle.squash_log.specs.Changes.{before_range, before_clone}
use Rattle.squash_log.specs.Cells.{Cells, cell_lives, lives_by, lives_in, IsBelow, IsBeside, IsWithPart, IsKept, IsTaken, IsOpened, IsSameLiving, IsPartIn, with_part}
use Rattle.squash_log.proofs.RangeTests.{lt_yes, lt_no, covers_from, and_assoc, or_turn}

pub eq_yes : (i j : ℕ) → i ≡ j → (i == j) ≡ true
eq_yes i j e = eq-eqb i j e

pub eq_no : (i j : ℕ) → i ≢ j → (i == j) ≡ false
eq_no i j ne = false_from_ne_true (i == j) (λ e. ne (eqb-true i j e))

module _ (there : ℕ → Bool) where
  -- What lives of a file whose cells were put in.
  kept_here : (ino : ℕ) (cells : Cells) (old new : BTreeMap ℕ Cells) → IsKept ino cells old new → (i : ℕ) → i ≡ ino → (p : ℕ) → lives_in there new i p ≡ cell_lives cells p
  kept_here ino cells old new kept i e p = ap (λ (j : ℕ). lives_in there new j p) e ∙ ap (λ (o : Option Cells). lives_by (there ino) o p) kept.here

  kept_other : (ino : ℕ) (cells : Cells) (old new : BTreeMap ℕ Cells) → IsKept ino cells old new → (i : ℕ) → i ≢ ino → (p : ℕ) → lives_in there new i p ≡ lives_in there old i p
  kept_other ino cells old new kept i ne p = ap (λ (o : Option Cells). lives_by (there i) o p) (kept.others i ne)

  other_same : (old mid : BTreeMap ℕ Cells) (i : ℕ) → get nat_cmp mid i ≡ get nat_cmp old i → (p : ℕ) → lives_in there mid i p ≡ lives_in there old i p
  other_same old mid i e p = ap (λ (o : Option Cells). lives_by (there i) o p) e

  -- ---- before a range was replaced

  pub replaced_none : (r : FileRange) (old new : BTreeMap ℕ Cells) → IsTaken there r.ino r.size old new None → IsSameLiving (lives_in there new) (before_range r (lives_in there old))
  replaced_none r old new taken i p = taken.0 i p ∙ elim (cases_eq i r.ino) [
    | inl e ↦
        let dead : lives_in there old i p ≡ false = ap (λ (j : ℕ). lives_in there old j p) e ∙ taken.1 p in
        dead ∙ sym (ap (λ (b : Bool). if b then ((nat_lt p r.size && not (covers r.at r.len p)) && lives_in there old i p) else lives_in there old i p) (eq_yes i r.ino e) ∙ ap (λ (b : Bool). (nat_lt p r.size && not (covers r.at r.len p)) && b) dead ∙ none (nat_lt p r.size && not (covers r.at r.len p)))
    | inr ne ↦ sym (ap (λ (b : Bool). if b then ((nat_lt p r.size && not (covers r.at r.len p)) && lives_in there old i p) else lives_in there old i p) (eq_no i r.ino ne))
  ]
    where
      none : (b : Bool) → (b && false) ≡ false
      none true = refl
      none false = refl

  pub replaced_some : (r : FileRange) (old mid new : BTreeMap ℕ Cells) (cells more : Cells) → IsTaken there r.ino r.size old mid (Some cells) → IsBeside r.at r.len r.size cells more → IsKept r.ino more mid new
      → IsSameLiving (lives_in there new) (before_range r (lives_in there old))
  replaced_some r old mid new cells more taken beside kept i p = elim (cases_eq i r.ino) [
    | inl e ↦
        kept_here r.ino more mid new kept i e p ∙ beside p ∙ in_size (nat_lt p r.size) refl
        ∙ ap (λ (j : ℕ). (nat_lt p r.size && not (covers r.at r.len p)) && lives_in there old j p) (sym e)
        ∙ sym (ap (λ (b : Bool). if b then ((nat_lt p r.size && not (covers r.at r.len p)) && lives_in there old i p) else lives_in there old i p) (eq_yes i r.ino e))
    | inr ne ↦
        kept_other r.ino more mid new kept i ne p ∙ other_same old mid i (taken.0 i ne) p
        ∙ sym (ap (λ (b : Bool). if b then ((nat_lt p r.size && not (covers r.at r.len p)) && lives_in there old i p) else lives_in there old i p) (eq_no i r.ino ne))
  ]
    where
      in_size : (b : Bool) → nat_lt p r.size ≡ b → ((nat_lt p r.size && not (covers r.at r.len p)) && cell_lives cells p) ≡ ((nat_lt p r.size && not (covers r.at r.len p)) && lives_in there old r.ino p)
      in_size true e = ap (λ (b : Bool). (nat_lt p r.size && not (covers r.at r.len p)) && b) (taken.1 p (ltb-true p r.size e))
      in_size false e = ap (λ (b : Bool). (b && not (covers r.at r.len p)) && cell_lives cells p) e ∙ sym (ap (λ (b : Bool). (b && not (covers r.at r.len p)) && lives_in there old r.ino p) e)

  -- ---- before a file was cut

  pub cut_none : (ino size n : ℕ) (old new : BTreeMap ℕ Cells) → IsTaken there ino size old new None → IsSameLiving (lives_in there new) (live_cut ino size n (lives_in there old))
  cut_none ino size n old new taken i p = taken.0 i p ∙ elim (cases_eq i ino) [
    | inl e ↦
        let dead : lives_in there old i p ≡ false = ap (λ (j : ℕ). lives_in there old j p) e ∙ taken.1 p in
        dead ∙ sym (ap (λ (b : Bool). if b then ((nat_lt p size && nat_lt p n) && lives_in there old i p) else lives_in there old i p) (eq_yes i ino e) ∙ ap (λ (b : Bool). (nat_lt p size && nat_lt p n) && b) dead ∙ none (nat_lt p size && nat_lt p n))
    | inr ne ↦ sym (ap (λ (b : Bool). if b then ((nat_lt p size && nat_lt p n) && lives_in there old i p) else lives_in there old i p) (eq_no i ino ne))
  ]
    where
      none : (b : Bool) → (b && false) ≡ false
      none true = refl
      none false = refl

  pub cut_some : (ino size n least : ℕ) (old mid new : BTreeMap ℕ Cells) (cells more : Cells) → least ≡ min size n → IsTaken there ino size old mid (Some cells) → IsBelow least cells more → IsKept ino more mid new
      → IsSameLiving (lives_in there new) (live_cut ino size n (lives_in there old))
  cut_some ino size n least old mid new cells more least_is taken below kept i p = elim (cases_eq i ino) [
    | inl e ↦
        kept_here ino more mid new kept i e p ∙ below p ∙ ap (λ (b : Bool). b && cell_lives cells p) both ∙ in_size (nat_lt p size) refl
        ∙ ap (λ (j : ℕ). (nat_lt p size && nat_lt p n) && lives_in there old j p) (sym e)
        ∙ sym (ap (λ (b : Bool). if b then ((nat_lt p size && nat_lt p n) && lives_in there old i p) else lives_in there old i p) (eq_yes i ino e))
    | inr ne ↦
        kept_other ino more mid new kept i ne p ∙ other_same old mid i (taken.0 i ne) p
        ∙ sym (ap (λ (b : Bool). if b then ((nat_lt p size && nat_lt p n) && lives_in there old i p) else lives_in there old i p) (eq_no i ino ne))
  ]
    where
      in_size : (b : Bool) → nat_lt p size ≡ b → ((nat_lt p size && nat_lt p n) && cell_lives cells p) ≡ ((nat_lt p size && nat_lt p n) && lives_in there old ino p)
      in_size true e = ap (λ (b : Bool). (nat_lt p size && nat_lt p n) && b) (taken.1 p (ltb-true p size e))
      in_size false e = ap (λ (b : Bool). (b && nat_lt p n) && cell_lives cells p) e ∙ sym (ap (λ (b : Bool). (b && nat_lt p n) && lives_in there old ino p) e)

      both : nat_lt p least ≡ (nat_lt p size && nat_lt p n)
      both = elim (cases_lt p size) [
        | inr above ↦ lt_no p least (omega (arith, above, least_is)) ∙ sym (ap (λ (b : Bool). b && nat_lt p n) (lt_no p size above))
        | inl within ↦ elim (cases_lt p n) [
          | inr above ↦ lt_no p least (omega (arith, above, least_is)) ∙ sym (ap₂ (λ (a b : Bool). a && b) (lt_yes p size within) (lt_no p n above))
          | inl in_n ↦ lt_yes p least (omega (arith, within, in_n, least_is)) ∙ sym (ap₂ (λ (a b : Bool). a && b) (lt_yes p size within) (lt_yes p n in_n))
        ]
      ]

  -- ---- a part more

  pub added_none : (ino from : ℕ) (part : Cells) (old new : BTreeMap ℕ Cells) → IsOpened there ino old new None → IsSameLiving (lives_in there new) (with_part ino from part (lives_in there old))
  added_none ino from part old new found i p = found.0 i p ∙ elim (cases_eq i ino) [
    | inl e ↦
        let lives : lives_in there old i p ≡ true = ap (λ (j : ℕ). lives_in there old j p) e ∙ found.1 p in
        lives ∙ sym (ap (λ (b : Bool). ((i == ino) && (nat_le from p && cell_lives part (p - from))) || b) lives ∙ all ((i == ino) && (nat_le from p && cell_lives part (p - from))))
    | inr ne ↦ sym (ap (λ (b : Bool). (b && (nat_le from p && cell_lives part (p - from))) || lives_in there old i p) (eq_no i ino ne))
  ]
    where
      all : (b : Bool) → (b || true) ≡ true
      all true = refl
      all false = refl

  pub added_some : (ino from : ℕ) (part : Cells) (old mid new : BTreeMap ℕ Cells) (cells more : Cells) → IsOpened there ino old mid (Some cells) → IsWithPart from part cells more → IsKept ino more mid new
      → IsSameLiving (lives_in there new) (with_part ino from part (lives_in there old))
  added_some ino from part old mid new cells more found more_is kept i p = elim (cases_eq i ino) [
    | inl e ↦
        kept_here ino more mid new kept i e p ∙ more_is p ∙ ap (λ (b : Bool). (nat_le from p && cell_lives part (p - from)) || b) (found.1 p ∙ ap (λ (j : ℕ). lives_in there old j p) (sym e))
        ∙ sym (ap (λ (b : Bool). (b && (nat_le from p && cell_lives part (p - from))) || lives_in there old i p) (eq_yes i ino e))
    | inr ne ↦
        kept_other ino more mid new kept i ne p ∙ other_same old mid i (found.0 i ne) p
        ∙ sym (ap (λ (b : Bool). (b && (nat_le from p && cell_lives part (p - from))) || lives_in there old i p) (eq_no i ino ne))
  ]

-- ---- before cells were copied

-- What was copied is the part of the range, put at the place that it came from.
pub cloned : (to : FileRange) (source from : ℕ) (part : Cells) (old mid new : Living) → IsPartIn old to.ino to.at to.len part → IsSameLiving mid (before_range to old)
    → IsSameLiving new (with_part source from part mid) → IsSameLiving new (before_clone to source from old)
cloned to source from part old mid new part_is mid_is new_is i p =
    new_is i p ∙ ap (λ (b : Bool). ((i == source) && (nat_le from p && cell_lives part (p - from))) || b) (mid_is i p)
    ∙ or_turn ((i == source) && (nat_le from p && cell_lives part (p - from))) (before_range to old i p)
    ∙ ap (λ (b : Bool). before_range to old i p || b)
    (ap (λ (b : Bool). (i == source) && (nat_le from p && b)) (part_is (p - from))
    ∙ ap (λ (b : Bool). (i == source) && b) (and_assoc (nat_le from p) (nat_lt (p - from) to.len) (old to.ino (to.at + (p - from))) ∙ ap (λ (b : Bool). b && old to.ino (to.at + (p - from))) (sym (covers_from from to.len p)))
    ∙ and_assoc (i == source) (covers from to.len p) (old to.ino (to.at + (p - from))))
