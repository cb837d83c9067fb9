-- In a lawful subvolume the first path of an inode leads to it, and is a path.
use Rattle.std.specs.Prelude.{◌≡◌, ℕ, true, List, [], Option, None, Some, Ok, is_some}
use Rattle.std.specs.Option.{unwrap_or}
use Rattle.std.proofs.Common.{refl, sym, ap, subst}
use Rattle.send_model.specs.Refusal.{BadPath}
use Rattle.send_model.specs.Chain.{◌>>=◌, found}
use Rattle.send_model.specs.Path.{path_names}
use Rattle.send_model.specs.Subvolume.{Subvolume, root, walk_names, walk, first_path, is_nameable, IsLawful}
use Rattle.send_model.specs.Store.{Store, find}
use Rattle.send_model.specs.Provenance.{Place}
use Rattle.send_model.specs.Composed.{path_of}
use Rattle.send_model.proofs.FirstPaths.{first_path_leads}
use Rattle.send_model.proofs.LeastPaths.{all_steps}

module _ {C : Type 0} (s : Subvolume C) where
  pub walked_path : (path : List ℕ) (ino : ℕ) → walk s path ≡ Ok ino → is_some (path_names path) ≡ true
  unfolding walk
  walked_path path ino w = one (path_names path) w
    where
      one : (o : Option (List (List ℕ))) → (found o BadPath >>= λ names. walk_names s root names) ≡ Ok ino → is_some o ≡ true
      one None q = cc
      one (Some names) q = refl

  -- The first path leads to the inode, and is a path.
  pub first_path_is : IsLawful s → (ino : ℕ) (path : List ℕ) → first_path s ino ≡ Some path → (walk s path ≡ Ok ino) × (is_some (path_names path) ≡ true)
  first_path_is p ino path e = let w = first_path_leads s (all_steps s p) ino path e in (w, walked_path path ino w)

-- The path that a carried piece names leads to its inode.
pub path_leads : (store : Store ℕ) (place : Place) (s : Subvolume ℕ) → IsLawful s → find store place.key ≡ Some s → is_nameable s place.ino ≡ true
    → (walk s (path_of store place) ≡ Ok place.ino) × (is_some (path_names (path_of store place)) ≡ true)
unfolding is_nameable
path_leads store place s p f n =
    let at : path_of store place ≡ unwrap_or (first_path s place.ino) [] = ap (λ (o : Option (Subvolume ℕ)). elim o as (λ x. List ℕ) [ None ↦ [] | Some t ↦ unwrap_or (first_path t place.ino) [] ]) f in
    let way : (walk s (unwrap_or (first_path s place.ino) []) ≡ Ok place.ino) × (is_some (path_names (unwrap_or (first_path s place.ino) [])) ≡ true) = one (first_path s place.ino) refl n in
    subst (λ (path : List ℕ). (walk s path ≡ Ok place.ino) × (is_some (path_names path) ≡ true)) (sym at) way
  where
    one : (o : Option (List ℕ)) → first_path s place.ino ≡ o → is_some o ≡ true → (walk s (unwrap_or o []) ≡ Ok place.ino) × (is_some (path_names (unwrap_or o [])) ≡ true)
    one None e q = cc
    one (Some path) e q = first_path_is s p place.ino path e
