-- Where the cells of one file change, all walks stay.
use Rattle.std.specs.Prelude.{◌≡◌, ℕ, Bool, true, List, [], ◌∷◌, Option, None, Some, Result}
use Rattle.std.specs.Ordering.{nat_cmp}
use Rattle.std.specs.Cmp.{nat_cmp_total}
use Rattle.std.proofs.Common.{refl, sym, ap, ap₂, subst, ◌∙◌, inl, inr}
use Rattle.std.proofs.lemmas.Bool.{cases_eq}
use Rattle.std.proofs.lemmas.Map.Lookups.{exact_unsigned}
use Rattle.send_model.specs.Refusal.{Refusal, NotDirectory, NoEntry, BadPath}
use Rattle.send_model.specs.Chain.{◌>>=◌, ◌>>◌, require, found}
use Rattle.send_model.specs.Map.{Map}
use Rattle.send_model.specs.Path.{path_names}
use Rattle.send_model.specs.Subvolume.{NodeKind, is_directory_kind, is_file_kind, Inode, Subvolume, root, inode_at, named, passes_inode, is_directory, is_file, walk_names, walk}
use Rattle.send_model.specs.Edit.{set_inode, change_inode, set_cells}
use Rattle.send_model.proofs.MapLaws.{with_value-here, with_value-other}
use Rattle.send_model.proofs.Overwriting.{with_value-twice}

module _ {C : Type 0} where
  pub names_walk : (s t : Subvolume C) → t.names ≡ s.names → ((i : ℕ) → is_directory t i ≡ is_directory s i) → (ino : ℕ) (names : List (List ℕ)) → walk_names t ino names ≡ walk_names s ino names
  unfolding walk_names
  names_walk s t e d ino [] = refl
  names_walk s t e d ino (name ∷ rest) =
      let below : ℕ → Result ℕ Refusal = λ i. walk_names t i rest in
      ap₂ (λ (b : Bool) (o : Option ℕ). require b NotDirectory >> (found o NoEntry >>= below)) (d ino) (ap (λ (m : Map (ℕ × List ℕ) ℕ). named (record { inodes = s.inodes; names = m; next = s.next }) ino name) e)
      ∙ ap (λ (k : ℕ → Result ℕ Refusal). require (is_directory s ino) NotDirectory >> (found (named s ino name) NoEntry >>= k)) (λ i b. names_walk s t e d b rest i)

  pub same_walk : (s t : Subvolume C) → t.names ≡ s.names → ((i : ℕ) → is_directory t i ≡ is_directory s i) → (path : List ℕ) → walk t path ≡ walk s path
  unfolding walk
  same_walk s t e d path = ap (λ (k : List (List ℕ) → Result ℕ Refusal). found (path_names path) BadPath >>= k) (λ i names. names_walk s t e d root names i)

  module _ (x : ℕ) (old new : Inode C) (s : Subvolume C) (at : inode_at s x ≡ Some old) (kind : new.kind ≡ old.kind) where
    pub same_kinds : (test : NodeKind → Bool) (i : ℕ) → passes_inode (λ inode. test inode.kind) (inode_at (set_inode x new s) i) ≡ passes_inode (λ inode. test inode.kind) (inode_at s i)
    same_kinds test i = elim (cases_eq i x) [
      | inl e ↦ subst (λ (j : ℕ). passes_inode (λ (inode : Inode C). test inode.kind) (inode_at (set_inode x new s) j) ≡ passes_inode (λ (inode : Inode C). test inode.kind) (inode_at s j)) (sym e)
          (ap (passes_inode (λ (inode : Inode C). test inode.kind)) (with_value-here nat_cmp nat_cmp_total exact_unsigned x new s.inodes) ∙ ap test kind ∙ sym (ap (passes_inode (λ (inode : Inode C). test inode.kind)) at))
      | inr n ↦ ap (passes_inode (λ (inode : Inode C). test inode.kind)) (with_value-other nat_cmp nat_cmp_total exact_unsigned i x new s.inodes n)
    ]

  -- ---- the cells of one inode

  pub changed : (x : ℕ) (change : Inode C → Inode C) (s : Subvolume C) (old : Inode C) → inode_at s x ≡ Some old → change_inode x change s ≡ set_inode x (change old) s
  unfolding change_inode
  changed x change s old at = ap (λ (o : Option (Inode C)). elim o as (λ i. Subvolume C) [ None ↦ s | Some inode ↦ set_inode x (change inode) s ]) at

  pub cells_walk : (x : ℕ) (g : List C → List C) (s : Subvolume C) (old : Inode C) → inode_at s x ≡ Some old → (path : List ℕ) → walk (change_inode x (set_cells g) s) path ≡ walk s path
  unfolding is_directory
  cells_walk x g s old at path = ap (λ (t : Subvolume C). walk t path) (changed x (set_cells g) s old at) ∙ same_walk s (set_inode x (set_cells g old) s) refl (same_kinds x old (set_cells g old) s at refl is_directory_kind) path

  pub cells_file : (x : ℕ) (g : List C → List C) (s : Subvolume C) (old : Inode C) → inode_at s x ≡ Some old → (i : ℕ) → is_file (change_inode x (set_cells g) s) i ≡ is_file s i
  unfolding is_file
  cells_file x g s old at i = ap (λ (t : Subvolume C). passes_inode (λ (inode : Inode C). is_file_kind inode.kind) (inode_at t i)) (changed x (set_cells g) s old at) ∙ same_kinds x old (set_cells g old) s at refl is_file_kind i

  pub cells_twice : (x : ℕ) (f g : List C → List C) (s : Subvolume C) (old : Inode C) → inode_at s x ≡ Some old → change_inode x (set_cells g) (change_inode x (set_cells f) s) ≡ change_inode x (set_cells (λ cells. g (f cells))) s
  cells_twice x f g s old at =
      let t : Subvolume C = set_inode x (set_cells f old) s in
      let set : Map ℕ (Inode C) → Subvolume C = λ m. record { inodes = m; names = s.names; next = s.next } in
      ap (change_inode x (set_cells g)) (changed x (set_cells f) s old at)
      ∙ changed x (set_cells g) t (set_cells f old) (with_value-here nat_cmp nat_cmp_total exact_unsigned x (set_cells f old) s.inodes)
      ∙ ap set (with_value-twice nat_cmp nat_cmp_total x (set_cells f old) (set_cells g (set_cells f old)) s.inodes)
      ∙ sym (changed x (set_cells (λ cells. g (f cells))) s old at)

  pub file_there : (s : Subvolume C) (x : ℕ) → is_file s x ≡ true → (old : Inode C) × (inode_at s x ≡ Some old)
  unfolding is_file
  file_there s x e = one (inode_at s x) e
    where
      one : (o : Option (Inode C)) → passes_inode (λ inode. is_file_kind inode.kind) o ≡ true → (old : Inode C) × (o ≡ Some old)
      one None q = cc
      one (Some old) q = (old, refl)
