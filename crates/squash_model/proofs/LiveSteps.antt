-- One command: a birth stands at a place that lives after it where it stands at one that lives
-- before it.
use Rattle.std.specs.Prelude.{◌≡◌, ◌⊎◌, ℕ, ◌+◌, ◌-◌, ◌<◌, ◌≤◌, ◌==◌, Bool, true, false, not, ◌&&◌, ◌||◌, List, [], length, Option, None, Some, nat_lt, is_some, if◌then◌else◌}
use Rattle.std.specs.Ordering.{nat_cmp}
use Rattle.std.specs.Cmp.{nat_cmp_total}
use Rattle.std.proofs.Common.{refl, sym, ap, ◌∙◌, arith, get_or, eqb-true, inl, inr}
use Rattle.std.proofs.lemmas.Bool.{cases_lt, cases_eq, eq-eqb, lt-ltb, ltb-true, and_parts, true≢false}
use Rattle.std.proofs.lemmas.List.{get_or_past}
use Rattle.std.proofs.lemmas.Map.Lookups.{exact_unsigned}
use Rattle.send_model.specs.Subvolume.{Inode, Subvolume, IsSound, inode_at}
use Rattle.send_model.specs.Edit.{resized, change_inode, set_inode, set_cells}
use Rattle.send_model.specs.Clone.{cells_of}
use Rattle.send_model.proofs.MapLaws.{with_value-here, with_value-other}
use Rattle.send_model.proofs.Rewriting.{changed}
use Rattle.squash_model.specs.Squashed.{Birth}
use Rattle.squash_model.specs.Liveness.{Living, covers, live_beside, live_cut, live_copied}
use Rattle.squash_model.proofs.LiveReads.{covered, covers_true, resized_in, resized_past}
use Rattle.squash_model.proofs.KeptCells.{cells_by, cells_at, Kept}

-- The cell at a place of an inode.
abbrev pub cell : Subvolume Birth → ℕ → ℕ → Birth
cell s i p = get_or (cells_of s i) p None

-- ---- booleans

both_true : (a b : Bool) → a ≡ true → b ≡ true → a && b ≡ true
both_true true b p q = q
both_true false b p q = p

left_true : (a b : Bool) → a ≡ true → a || b ≡ true
left_true true b p = refl
left_true false b p = cc

right_true : (a b : Bool) → b ≡ true → a || b ≡ true
right_true true b p = refl
right_true false b p = p

either_true : (a b : Bool) → a || b ≡ true → (a ≡ true) ⊎ (b ≡ true)
either_true true b p = inl refl
either_true false b p = inr p

not_true : (a : Bool) → not a ≡ true → a ≡ false
not_true true p = cc
not_true false p = refl

not_false : (a : Bool) → a ≡ false → not a ≡ true
not_false true p = cc
not_false false p = refl

differs : (i j : ℕ) → (i ≡ j → ⊥) → (i == j) ≡ false
differs i j n = one (i == j) refl
  where
    one : (t : Bool) → (i == j) ≡ t → t ≡ false
    one true e = absurd (n (eqb-true i j e))
    one false e = refl

-- ---- contents of one inode

module _ {C : Type 0} (ino : ℕ) (g : List C → List C) (s : Subvolume C) (old : Inode C) (at : inode_at s ino ≡ Some old) where
  pub new_cells : cells_of (change_inode ino (set_cells g) s) ino ≡ g (cells_of s ino)
  new_cells =
      let t : Subvolume C = set_inode ino (set_cells g old) s in
      ap (λ (u : Subvolume C). cells_of u ino) (changed ino (set_cells g) s old at)
      ∙ cells_at t ino (Some (set_cells g old)) (with_value-here nat_cmp nat_cmp_total exact_unsigned ino (set_cells g old) s.inodes)
      ∙ ap g (sym (cells_at s ino (Some old) at))

  pub other_cells : (i : ℕ) → (i ≡ ino → ⊥) → cells_of (change_inode ino (set_cells g) s) i ≡ cells_of s i
  other_cells i n =
      let t : Subvolume C = set_inode ino (set_cells g old) s in
      ap (λ (u : Subvolume C). cells_of u i) (changed ino (set_cells g) s old at)
      ∙ cells_by s t i (with_value-other nat_cmp nat_cmp_total exact_unsigned i ino (set_cells g old) s.inodes n)

  pub new_there : (i : ℕ) → is_some (inode_at (change_inode ino (set_cells g) s) i) ≡ is_some (inode_at s i)
  new_there i =
      ap (λ (u : Subvolume C). is_some (inode_at u i)) (changed ino (set_cells g) s old at)
      ∙ elim (cases_eq i ino) [
        | inl e ↦ ap (λ (j : ℕ). is_some (inode_at (set_inode ino (set_cells g old) s) j)) e
            ∙ ap is_some (with_value-here nat_cmp nat_cmp_total exact_unsigned ino (set_cells g old) s.inodes)
            ∙ sym (ap is_some at) ∙ ap (λ (j : ℕ). is_some (inode_at s j)) (sym e)
        | inr n ↦ ap is_some (with_value-other nat_cmp nat_cmp_total exact_unsigned i ino (set_cells g old) s.inodes n)
      ]

  pub new_next : (change_inode ino (set_cells g) s).next ≡ s.next
  new_next = ap (λ (u : Subvolume C). u.next) (changed ino (set_cells g) s old at)

-- ---- a birth at a place that lives

module _ (birth : ℕ) where
  abbrev pub is_birth : Birth → Bool
  is_birth None = false
  is_birth (Some b) = b == birth

  pub record Found (live : Living) (s : Subvolume Birth) : Type 0 where
    pub ino : ℕ
    pub place : ℕ
    pub lives : live ino place ≡ true
    pub is : is_birth (cell s ino place) ≡ true

  -- Found after a command exactly where it is found before it.
  pub record Same (before : Living) (s : Subvolume Birth) (after : Living) (t : Subvolume Birth) : Type 0 where
    pub back : Found after t → Found before s
    pub on : Found before s → Found after t

  -- A cell with the birth stands before the end.
  within : (s : Subvolume Birth) (i p : ℕ) → is_birth (cell s i p) ≡ true → p < length (cells_of s i)
  within s i p h = elim (cases_lt p (length (cells_of s i))) [
    | inl below ↦ below
    | inr past ↦ absurd (true≢false (sym h ∙ ap is_birth (get_or_past (cells_of s i) p None past)))
  ]

  -- And its inode is there.
  is_there : (s : Subvolume Birth) (i p : ℕ) → is_birth (cell s i p) ≡ true → is_some (inode_at s i) ≡ true
  is_there s i p h = one (inode_at s i) refl
    where
      one : (o : Option (Inode Birth)) → inode_at s i ≡ o → is_some (inode_at s i) ≡ true
      one (Some x) e = ap is_some e
      one None e = absurd (let e2 : cells_of s i ≡ [] = cells_at s i None e in let e3 : cell s i p ≡ None = ap (λ (c : List Birth). get_or c p None) e2 in true≢false (sym h ∙ ap is_birth e3))

  -- ---- a file of which a range is new

  module _ (s t : Subvolume Birth) (ino offset len : ℕ) (after : Living)
      (other : (i : ℕ) → (i ≡ ino → ⊥) → cells_of t i ≡ cells_of s i)
      (out : (p : ℕ) → covers offset len p ≡ false → cell t ino p ≡ cell s ino p) where
    abbrev pub beside : Living
    beside = live_beside ino (length (cells_of s ino)) offset len after

    other_cell : (i p : ℕ) → (i ≡ ino → ⊥) → cell t i p ≡ cell s i p
    other_cell i p n = ap (λ (c : List Birth). get_or c p None) (other i n)

    beside_other : (i p : ℕ) → (i ≡ ino → ⊥) → beside i p ≡ after i p
    beside_other i p n = ap (λ (b : Bool). if b then (nat_lt p (length (cells_of s ino)) && not (covers offset len p)) && after i p else after i p) (differs i ino n)

    beside_here : (p : ℕ) → beside ino p ≡ ((nat_lt p (length (cells_of s ino)) && not (covers offset len p)) && after ino p)
    beside_here p = ap (λ (b : Bool). if b then (nat_lt p (length (cells_of s ino)) && not (covers offset len p)) && after ino p else after ino p) (eq-eqb ino ino refl)

    -- Not in the range: as it was.
    beside_back : (i p : ℕ) → after i p ≡ true → is_birth (cell t i p) ≡ true → ((i ≡ ino) → covers offset len p ≡ false) → Found beside s
    beside_back i p lives is free = elim (cases_eq i ino) [
      | inr n ↦ record { ino = i; place = p; lives = beside_other i p n ∙ lives; is = ap is_birth (sym (other_cell i p n)) ∙ is }
      | inl e ↦
          let uncovered = free e in
          let at : is_birth (cell s ino p) ≡ true = ap is_birth (sym (out p uncovered)) ∙ ap (λ (j : ℕ). is_birth (cell t j p)) (sym e) ∙ is in
          let low : p < length (cells_of s ino) = within s ino p at in
          record {
            ino = ino;
            place = p;
            lives = beside_here p ∙ both_true (nat_lt p (length (cells_of s ino)) && not (covers offset len p)) (after ino p)
                (both_true (nat_lt p (length (cells_of s ino))) (not (covers offset len p)) (lt-ltb p (length (cells_of s ino)) low) (not_false (covers offset len p) uncovered))
                (ap (λ (j : ℕ). after j p) (sym e) ∙ lives);
            is = at;
          }
    ]

    beside_on : (i p : ℕ) → beside i p ≡ true → is_birth (cell s i p) ≡ true → Found after t
    beside_on i p lives is = elim (cases_eq i ino) [
      | inr n ↦ record { ino = i; place = p; lives = sym (beside_other i p n) ∙ lives; is = ap is_birth (other_cell i p n) ∙ is }
      | inl e ↦
          let here = sym (beside_here p) ∙ ap (λ (j : ℕ). beside j p) (sym e) ∙ lives in
          let parts = and_parts (nat_lt p (length (cells_of s ino)) && not (covers offset len p)) (after ino p) here in
          let more = and_parts (nat_lt p (length (cells_of s ino))) (not (covers offset len p)) parts.0 in
          let uncovered = not_true (covers offset len p) more.1 in
          record {
            ino = ino;
            place = p;
            lives = parts.1;
            is = ap is_birth (out p uncovered) ∙ ap (λ (j : ℕ). is_birth (cell s j p)) (sym e) ∙ is;
          }
    ]

    -- What is new in the range has not the birth.
    pub new_range : ((p : ℕ) → covers offset len p ≡ true → is_birth (cell t ino p) ≡ false) → Same beside s after t
    new_range fresh = record {
      back = λ f. beside_back f.ino f.place f.lives f.is (λ e. free f.ino f.place e f.is (covers offset len f.place) refl);
      on = λ f. beside_on f.ino f.place f.lives f.is;
    }
      where
        free : (i p : ℕ) → i ≡ ino → is_birth (cell t i p) ≡ true → (b : Bool) → covers offset len p ≡ b → covers offset len p ≡ false
        free i p e h false q = q
        free i p e h true q = absurd (true≢false (sym h ∙ ap (λ (j : ℕ). is_birth (cell t j p)) e ∙ fresh p q))

    -- What is new in the range comes from a range of a file that was there.
    module _ (source from : ℕ) (copied : (p : ℕ) → covers offset len p ≡ true → cell t ino p ≡ cell s source (from + (p - offset))) where
      abbrev either : Living
      either i p = beside i p || live_copied ino offset source from len after i p

      pub copied_range : Same either s after t
      copied_range = record {
        back = λ f. go_back f.ino f.place f.lives f.is (covers offset len f.place) refl;
        on = λ f. elim (either_true (beside f.ino f.place) (live_copied ino offset source from len after f.ino f.place) f.lives) [
          | inl stays ↦ beside_on f.ino f.place stays f.is
          | inr moves ↦ go_on f.ino f.place moves f.is
        ];
      }
        where
          kept : Found beside s → Found either s
          kept f = record { ino = f.ino; place = f.place; lives = left_true (beside f.ino f.place) (live_copied ino offset source from len after f.ino f.place) f.lives; is = f.is }

          go_back : (i p : ℕ) → after i p ≡ true → is_birth (cell t i p) ≡ true → (b : Bool) → covers offset len p ≡ b → Found either s
          go_back i p lives is false q = kept (beside_back i p lives is (λ e. q))
          go_back i p lives is true q = elim (cases_eq i ino) [
            | inr n ↦ kept (beside_back i p lives is (λ e. absurd (n e)))
            | inl e ↦
                let k = covered offset len p q in
                let low = k.0 in
                let high = k.1 in
                let place : ℕ = from + (p - offset) in
                let back : offset + (place - from) ≡ p = omega (arith, low) in
                record {
                  ino = source;
                  place = place;
                  lives = right_true (beside source place) (live_copied ino offset source from len after source place)
                      (both_true ((source == source) && covers from len place) (after ino (offset + (place - from)))
                      (both_true (source == source) (covers from len place) (eq-eqb source source refl) (covers_true from len place (omega arith) (omega (arith, low, high))))
                      (ap (after ino) back ∙ ap (λ (j : ℕ). after j p) (sym e) ∙ lives));
                  is = ap is_birth (sym (copied p q)) ∙ ap (λ (j : ℕ). is_birth (cell t j p)) (sym e) ∙ is;
                }
          ]

          go_on : (i p : ℕ) → live_copied ino offset source from len after i p ≡ true → is_birth (cell s i p) ≡ true → Found after t
          go_on i p moves is =
              let parts = and_parts ((i == source) && covers from len p) (after ino (offset + (p - from))) moves in
              let more = and_parts (i == source) (covers from len p) parts.0 in
              let k = covered from len p more.1 in
              let low = k.0 in
              let high = k.1 in
              let to : ℕ = offset + (p - from) in
              let in_range : covers offset len to ≡ true = covers_true offset len to (omega arith) (omega (arith, low, high)) in
              let again : from + (to - offset) ≡ p = omega (arith, low) in
              record {
                ino = ino;
                place = to;
                lives = parts.1;
                is = ap is_birth (copied to in_range ∙ ap (cell s source) again) ∙ ap (λ (j : ℕ). is_birth (cell s j p)) (sym (eqb-true i source more.0)) ∙ is;
              }

  -- ---- a file that is cut

  module _ (s t : Subvolume Birth) (ino new : ℕ) (after : Living)
      (other : (i : ℕ) → (i ≡ ino → ⊥) → cells_of t i ≡ cells_of s i)
      (cells : cells_of t ino ≡ resized None new (cells_of s ino)) where
    abbrev cut : Living
    cut = live_cut ino (length (cells_of s ino)) new after

    cut_here : (p : ℕ) → cut ino p ≡ ((nat_lt p (length (cells_of s ino)) && nat_lt p new) && after ino p)
    cut_here p = ap (λ (b : Bool). if b then (nat_lt p (length (cells_of s ino)) && nat_lt p new) && after ino p else after ino p) (eq-eqb ino ino refl)

    cut_other : (i p : ℕ) → (i ≡ ino → ⊥) → cut i p ≡ after i p
    cut_other i p n = ap (λ (b : Bool). if b then (nat_lt p (length (cells_of s ino)) && nat_lt p new) && after i p else after i p) (differs i ino n)

    at_new : (p : ℕ) → cell t ino p ≡ get_or (resized None new (cells_of s ino)) p None
    at_new p = ap (λ (c : List Birth). get_or c p None) cells

    pub cut_file : Same cut s after t
    cut_file = record { back = λ f. go_back f.ino f.place f.lives f.is; on = λ f. go_on f.ino f.place f.lives f.is }
      where
        go_back : (i p : ℕ) → after i p ≡ true → is_birth (cell t i p) ≡ true → Found cut s
        go_back i p lives is = elim (cases_eq i ino) [
          | inr n ↦ record { ino = i; place = p; lives = cut_other i p n ∙ lives; is = ap is_birth (ap (λ (c : List Birth). get_or c p None) (sym (other i n))) ∙ is }
          | inl e ↦
              let here : is_birth (get_or (resized None new (cells_of s ino)) p None) ≡ true = ap is_birth (sym (at_new p)) ∙ ap (λ (j : ℕ). is_birth (cell t j p)) (sym e) ∙ is in
              elim (cases_lt p new) [
                | inr past ↦ absurd (true≢false (sym here ∙ ap is_birth (resized_past None new (cells_of s ino) p past)))
                | inl below ↦
                    let at : is_birth (cell s ino p) ≡ true = ap is_birth (sym (resized_in None new (cells_of s ino) p below)) ∙ here in
                    record {
                      ino = ino;
                      place = p;
                      lives = cut_here p ∙ both_true (nat_lt p (length (cells_of s ino)) && nat_lt p new) (after ino p)
                          (both_true (nat_lt p (length (cells_of s ino))) (nat_lt p new) (lt-ltb p (length (cells_of s ino)) (within s ino p at)) (lt-ltb p new below))
                          (ap (λ (j : ℕ). after j p) (sym e) ∙ lives);
                      is = at;
                    }
              ]
        ]

        go_on : (i p : ℕ) → cut i p ≡ true → is_birth (cell s i p) ≡ true → Found after t
        go_on i p lives is = elim (cases_eq i ino) [
          | inr n ↦ record { ino = i; place = p; lives = sym (cut_other i p n) ∙ lives; is = ap is_birth (ap (λ (c : List Birth). get_or c p None) (other i n)) ∙ is }
          | inl e ↦
              let here = sym (cut_here p) ∙ ap (λ (j : ℕ). cut j p) (sym e) ∙ lives in
              let parts = and_parts (nat_lt p (length (cells_of s ino)) && nat_lt p new) (after ino p) here in
              let more = and_parts (nat_lt p (length (cells_of s ino))) (nat_lt p new) parts.0 in
              record {
                ino = ino;
                place = p;
                lives = parts.1;
                is = ap is_birth (at_new p ∙ resized_in None new (cells_of s ino) p (ltb-true p new more.1)) ∙ ap (λ (j : ℕ). is_birth (cell s j p)) (sym e) ∙ is;
              }
        ]

  -- ---- what is not of contents

  -- Only what is there, or is yet to come, lives.
  abbrev pub IsOf : Living → Subvolume Birth → Type 0
  IsOf live s = (i p : ℕ) → live i p ≡ true → (is_some (inode_at s i) ≡ true) ⊎ (s.next ≤ i)

  pub kept_same : (s t : Subvolume Birth) (after : Living) → Kept s t → IsSound s → IsOf after t → Same after s after t
  kept_same s t after k sound of = record {
    back = λ f. record { ino = f.ino; place = f.place; lives = f.lives; is = ap is_birth (ap (λ (c : List Birth). get_or c f.place None) (sym (k.cells f.ino (is_there t f.ino f.place f.is)))) ∙ f.is };
    on = λ f. elim (of f.ino f.place f.lives) [
      | inl there ↦ record { ino = f.ino; place = f.place; lives = f.lives; is = ap is_birth (ap (λ (c : List Birth). get_or c f.place None) (k.cells f.ino there)) ∙ f.is }
      | inr late ↦ absurd (let below : f.ino < s.next = sound.below_next f.ino (is_there s f.ino f.place f.is) in let low = k.next in omega (arith, late, below, low))
    ];
  }

  pub kept_of : (s t : Subvolume Birth) (after : Living) → Kept s t → IsOf after t → IsOf after s
  kept_of s t after k of i p h = elim (of i p h) [
    | inl there ↦ k.there i there
    | inr late ↦ inr (let low = k.next in omega (arith, late, low))
  ]
