-- A walk as its steps, each from a directory to what a name in it leads to, and what becomes of it
-- where steps change.
use Rattle.std.specs.Prelude.{◌≡◌, ℕ, Bool, true, false, List, [], ◌∷◌, ◌++◌, Option, None, Some, Result, Ok, IsTrue, ◌==◌, ◌⊎◌}
use Rattle.std.specs.List.{list_any}
use Rattle.std.proofs.Common.{refl, sym, ap, subst, ◌∙◌, inl, inr}
use Rattle.std.proofs.lemmas.Bool.{cases_eq, eqb-false}
use Rattle.send_model.specs.Refusal.{Refusal, NotDirectory, NoEntry}
use Rattle.send_model.specs.Chain.{◌>>=◌, ◌>>◌, require, found}
use Rattle.send_model.specs.Subvolume.{Subvolume, named, is_directory, walk_names, inodes_on_way}
use Rattle.send_model.proofs.Stores.{or_parts}
use Rattle.send_model.proofs.Fuel.{ok_same}

-- Names that lead from an inode to another by steps of a sort.
abbrev pub Leads : (ℕ → List ℕ → ℕ → Type 0) → List (List ℕ) → ℕ → ℕ → Type 0
Leads E [] from to = from ≡ to
Leads E (name ∷ names) from to = (below : ℕ) × E from name below × Leads E names below to

-- A step of a walk in a subvolume; and one that does not end at an inode.
abbrev pub Step : {C : Type 0} → Subvolume C → ℕ → List ℕ → ℕ → Type 0
Step s from name below = IsTrue (is_directory s from) × (named s from name ≡ Some below)

abbrev pub Around : (ℕ → List ℕ → ℕ → Type 0) → ℕ → ℕ → List ℕ → ℕ → Type 0
Around E x from name below = E from name below × (below ≡ x → ⊥)

module _ (E F : ℕ → List ℕ → ℕ → Type 0) where
  pub leads-map : ((from : ℕ) (name : List ℕ) (below : ℕ) → E from name below → F from name below) → (names : List (List ℕ)) (from to : ℕ) → Leads E names from to → Leads F names from to
  leads-map f [] from to h = h
  leads-map f (name ∷ names) from to h = (h.0, f from name h.0 h.1, leads-map f names h.0 to h.2)

  pub leads-append : (names more : List (List ℕ)) (from middle to : ℕ) → Leads E names from middle → Leads E more middle to → Leads E (names ++ more) from to
  leads-append [] more from middle to h k = subst (λ (x : ℕ). Leads E more x to) (sym h) k
  leads-append (name ∷ names) more from middle to h k = (h.0, h.1, leads-append names more h.0 middle to h.2 k)

  module _ (x : ℕ) where
    -- ---- no step leaves an inode: only a walk that ends there passes it

    passes_no_leaf : ((name : List ℕ) (below : ℕ) → E x name below → ⊥) → (names : List (List ℕ)) (from to : ℕ) → Leads E names from to → (to ≡ x → ⊥) → from ≡ x → ⊥
    passes_no_leaf leaf [] from to h n e = n (sym h ∙ e)
    passes_no_leaf leaf (name ∷ names) from to h n e = leaf name h.0 (subst (λ (y : ℕ). E y name h.0) e h.1)

    pub leads-leaf : ((name : List ℕ) (below : ℕ) → E x name below → ⊥)
        → ((from : ℕ) (name : List ℕ) (below : ℕ) → (from ≡ x → ⊥) → (below ≡ x → ⊥) → E from name below → F from name below)
        → (names : List (List ℕ)) (from to : ℕ) → Leads E names from to → (to ≡ x → ⊥) → Leads F names from to
    leads-leaf leaf kept [] from to h n = h
    leads-leaf leaf kept (name ∷ names) from to h n =
        (h.0, kept from name h.0 (passes_no_leaf leaf (name ∷ names) from to h n) (passes_no_leaf leaf names h.0 to h.2 n) h.1, leads-leaf leaf kept names h.0 to h.2 n)

    -- ---- all steps stay but those to an inode: a walk stays, or the part of it after that inode does

    pub leads-after : ((from : ℕ) (name : List ℕ) (below : ℕ) → (below ≡ x → ⊥) → E from name below → F from name below)
        → (names : List (List ℕ)) (from to : ℕ) → Leads E names from to → Leads F names from to ⊎ ((more : List (List ℕ)) × Leads F more x to)
    leads-after kept [] from to h = inl h
    leads-after kept (name ∷ names) from to h = elim (leads-after kept names h.0 to h.2) [
      | inr later ↦ inr later
      | inl rest ↦ elim (cases_eq h.0 x) [
        | inl e ↦ inr (names, subst (λ (y : ℕ). Leads F names y to) e rest)
        | inr n ↦ inl (h.0, kept from name h.0 n h.1, rest)
      ]
    ]

-- ---- walks

module _ {C : Type 0} (s : Subvolume C) where
  pub leads_from_walk : (names : List (List ℕ)) (from to : ℕ) → walk_names s from names ≡ Ok to → Leads (Step s) names from to
  unfolding walk_names
  leads_from_walk [] from to e = ok_same e
  leads_from_walk (name ∷ names) from to e = one (is_directory s from) refl (named s from name) refl e (λ below. leads_from_walk names below to)
    where
      one : (b : Bool) → is_directory s from ≡ b → (o : Option ℕ) → named s from name ≡ o → (require b NotDirectory >> (found o NoEntry >>= λ below. walk_names s below names)) ≡ Ok to
          → ((below : ℕ) → walk_names s below names ≡ Ok to → Leads (Step s) names below to) → Leads (Step s) (name ∷ names) from to
      one false d o n w more = cc
      one true d None n w more = cc
      one true d (Some below) n w more = (below, (d, n), more below w)

  pub walk_from_leads : (names : List (List ℕ)) (from to : ℕ) → Leads (Step s) names from to → walk_names s from names ≡ Ok to
  unfolding walk_names
  walk_from_leads [] from to h = let ok : ℕ → Result ℕ Refusal = λ n. Ok n in ap ok h
  walk_from_leads (name ∷ names) from to h =
      ap (λ (b : Bool). require b NotDirectory >> (found (named s from name) NoEntry >>= λ below. walk_names s below names)) h.1.0
      ∙ ap (λ (o : Option ℕ). found o NoEntry >>= λ below. walk_names s below names) h.1.1
      ∙ walk_from_leads names h.0 to h.2

  -- A walk that passes no inode of a number takes no step there.
  way_begins : (x : ℕ) (names : List (List ℕ)) (from : ℕ) → list_any (λ i. i == x) (inodes_on_way s from names) ≡ false → from ≡ x → ⊥
  unfolding inodes_on_way
  way_begins x [] from h = eqb-false from x (or_parts (from == x) false h).0
  way_begins x (name ∷ names) from h = one (named s from name) h
    where
      one : (o : Option ℕ) → list_any (λ i. i == x) (elim o as (λ y. List ℕ) [ None ↦ from ∷ [] | Some below ↦ from ∷ inodes_on_way s below names ]) ≡ false → from ≡ x → ⊥
      one None h = eqb-false from x (or_parts (from == x) false h).0
      one (Some below) h = eqb-false from x (or_parts (from == x) (list_any (λ i. i == x) (inodes_on_way s below names)) h).0

  pub leads-around : (x : ℕ) (names : List (List ℕ)) (from to : ℕ) → Leads (Step s) names from to → list_any (λ i. i == x) (inodes_on_way s from names) ≡ false → Leads (Around (Step s) x) names from to
  unfolding inodes_on_way
  leads-around x [] from to l h = l
  leads-around x (name ∷ names) from to l h =
      let way : list_any (λ i. i == x) (from ∷ inodes_on_way s l.0 names) ≡ false =
      ap (λ (o : Option ℕ). list_any (λ i. i == x) (elim o as (λ y. List ℕ) [ None ↦ from ∷ [] | Some below ↦ from ∷ inodes_on_way s below names ])) (sym l.1.1) ∙ h in
      let rest : list_any (λ i. i == x) (inodes_on_way s l.0 names) ≡ false = (or_parts (from == x) (list_any (λ i. i == x) (inodes_on_way s l.0 names)) way).1 in
      (l.0, (l.1, way_begins x names l.0 rest), leads-around x names l.0 to l.2 rest)
