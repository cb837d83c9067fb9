-- Where a path leads, as the code sees it.
use Rattle.std.specs.Prelude.{◌≡◌, ℕ, List, Option, None, Some, Result, Ok, Err}
use Rattle.std.proofs.Common.{refl, sym, ap, ◌∙◌}
use Rattle.send_model.specs.Refusal.{Refusal}
use Rattle.send_model.specs.Subvolume.{Subvolume, walk}
use Rattle.squash_model.specs.Liveness.{at_file}
use Rattle.squasher.specs.Judging.{walked}

module _ {C A : Type 0} (s : Subvolume C) (path : List ℕ) (g : ℕ → A) (otherwise : A) where
  by_walk : at_file s path g otherwise ≡ (elim (walked s path) as (λ x. A) [ None ↦ otherwise | Some ino ↦ g ino ])
  by_walk = one (walk s path)
    where
      one : (r : Result ℕ Refusal)
          → (elim r as (λ x. A) [ Err refusal ↦ otherwise | Ok ino ↦ g ino ])
          ≡ (elim (elim r as (λ x. Option ℕ) [ Err refusal ↦ None | Ok ino ↦ Some ino ]) as (λ x. A) [ None ↦ otherwise | Some ino ↦ g ino ])
      one (Err refusal) = refl
      one (Ok ino) = refl

  -- A path that leads nowhere.
  pub at_none : None ≡ walked s path → at_file s path g otherwise ≡ otherwise
  at_none e = by_walk ∙ ap (λ (o : Option ℕ). elim o as (λ x. A) [ None ↦ otherwise | Some ino ↦ g ino ]) (sym e)

  -- A path that leads to an inode.
  pub at_some : (ino : ℕ) → Some ino ≡ walked s path → at_file s path g otherwise ≡ g ino
  at_some ino e = by_walk ∙ ap (λ (o : Option ℕ). elim o as (λ x. A) [ None ↦ otherwise | Some ino ↦ g ino ]) (sym e)

-- What finding a path says.
module _ {C : Type 0} (s : Subvolume C) (path : List ℕ) where
  pub walk_ok : (ino : ℕ) → walk s path ≡ Ok ino → Some ino ≡ walked s path
  walk_ok ino e = sym (ap (λ (r : Result ℕ Refusal). elim r as (λ x. Option ℕ) [ Err refusal ↦ None | Ok ino ↦ Some ino ]) e)

  pub walk_err : (refusal : Refusal) → walk s path ≡ Err refusal → None ≡ walked s path
  walk_err refusal e = sym (ap (λ (r : Result ℕ Refusal). elim r as (λ x. Option ℕ) [ Err refusal ↦ None | Ok ino ↦ Some ino ]) e)
