-- Walks and places step by step.
use Rattle.std.specs.Prelude.{◌≡◌, ℕ, Bool, true, false, List, [], ◌∷◌, Option, None, Some, Result, Ok, Err}
use Rattle.std.proofs.Common.{refl, ap, ◌∙◌}
use Rattle.send_model.specs.Refusal.{Refusal, BadPath, NotDirectory, NoEntry, IsRoot}
use Rattle.send_model.specs.Chain.{◌>>=◌, ◌>>◌, require, found}
use Rattle.send_model.specs.Path.{path_names}
use Rattle.send_model.specs.Subvolume.{Subvolume, Spot, root, walk, walk_names, spot, all_but_last, last_name, named, is_directory}
use Rattle.inode_tree.specs.Places.{one_step, last_of, spot_from}

-- Tests in a chain may be taken together.
together : {A B : Type 0} (b : Bool) (refusal : Refusal) (x : Result A Refusal) (f : A → Result B Refusal) → (require b refusal >> (x >>= f)) ≡ ((require b refusal >> x) >>= f)
together true refusal x f = refl
together false refusal x f = refl

last_is : (name : List ℕ) (rest : List (List ℕ)) → last_name (name ∷ rest) ≡ Some (last_of name rest)
last_is name [] = refl
last_is name (further ∷ rest) = last_is further rest

module _ {C : Type 0} (s : Subvolume C) where
  walk_by_steps : (ino : ℕ) (name : List ℕ) (rest : List (List ℕ)) → walk_names s ino (name ∷ rest) ≡ (one_step s ino name >>= λ below. walk_names s below rest)
  unfolding walk_names
  walk_by_steps ino name rest = together (is_directory s ino) NotDirectory (found (named s ino name) NoEntry) (λ below. walk_names s below rest)

  pub walk_goes_on : (ino : ℕ) (name : List ℕ) (rest : List (List ℕ)) (below : ℕ) → one_step s ino name ≡ Ok below → walk_names s ino (name ∷ rest) ≡ walk_names s below rest
  walk_goes_on ino name rest below e = walk_by_steps ino name rest ∙ ap (λ (x : Result ℕ Refusal). x >>= λ b. walk_names s b rest) e

  pub walk_stops : (ino : ℕ) (name : List ℕ) (rest : List (List ℕ)) (refusal : Refusal) → one_step s ino name ≡ Err refusal → walk_names s ino (name ∷ rest) ≡ Err refusal
  walk_stops ino name rest refusal e = walk_by_steps ino name rest ∙ ap (λ (x : Result ℕ Refusal). x >>= λ b. walk_names s b rest) e

  pub walk_ends : (ino : ℕ) → walk_names s ino [] ≡ Ok ino
  unfolding walk_names
  walk_ends ino = refl

  pub walk_begins : (path : List ℕ) (names : List (List ℕ)) → path_names path ≡ Some names → walk s path ≡ walk_names s root names
  unfolding walk
  walk_begins path names e = ap (λ (o : Option (List (List ℕ))). found o BadPath >>= λ names. walk_names s root names) e

  pub walk_refused : (path : List ℕ) → path_names path ≡ None → walk s path ≡ Err BadPath
  unfolding walk
  walk_refused path e = ap (λ (o : Option (List (List ℕ))). found o BadPath >>= λ names. walk_names s root names) e

  -- ---- places

  abbrev placed : List (List ℕ) → Result Spot Refusal
  placed names = found (last_name names) IsRoot >>= λ name. (walk_names s root (all_but_last names) >>= λ there. (require (is_directory s there) NotDirectory >> Ok (record { directory = there; name = name })))

  spot_of_names : (path : List ℕ) → spot s path ≡ (found (path_names path) BadPath >>= placed)
  unfolding spot
  spot_of_names path = refl

  pub spot_refused : (path : List ℕ) → path_names path ≡ None → spot s path ≡ Err BadPath
  spot_refused path e = spot_of_names path ∙ ap (λ (o : Option (List (List ℕ))). found o BadPath >>= placed) e

  pub spot_root : (path : List ℕ) → path_names path ≡ Some [] → spot s path ≡ Err IsRoot
  spot_root path e = spot_of_names path ∙ ap (λ (o : Option (List (List ℕ))). found o BadPath >>= placed) e

  pub spot_begins : (path name : List ℕ) (rest : List (List ℕ)) → path_names path ≡ Some (name ∷ rest) → spot s path ≡ spot_from s root name rest
  spot_begins path name rest e =
      spot_of_names path ∙ ap (λ (o : Option (List (List ℕ))). found o BadPath >>= placed) e
      ∙ ap (λ (o : Option (List ℕ)). found o IsRoot >>= λ last. (walk_names s root (all_but_last (name ∷ rest)) >>= λ there. (require (is_directory s there) NotDirectory >> Ok (record { directory = there; name = last })))) (last_is name rest)

  pub spot_goes_on : (directory : ℕ) (name further : List ℕ) (rest : List (List ℕ)) (below : ℕ) → one_step s directory name ≡ Ok below → spot_from s directory name (further ∷ rest) ≡ spot_from s below further rest
  spot_goes_on directory name further rest below e =
      ap (λ (x : Result ℕ Refusal). x >>= λ there. (require (is_directory s there) NotDirectory >> Ok (record { directory = there; name = last_of further rest }))) (walk_goes_on directory name (all_but_last (further ∷ rest)) below e)

  pub spot_stops : (directory : ℕ) (name further : List ℕ) (rest : List (List ℕ)) (refusal : Refusal) → one_step s directory name ≡ Err refusal → spot_from s directory name (further ∷ rest) ≡ Err refusal
  spot_stops directory name further rest refusal e =
      ap (λ (x : Result ℕ Refusal). x >>= λ there. (require (is_directory s there) NotDirectory >> Ok (record { directory = there; name = last_of further rest }))) (walk_stops directory name (all_but_last (further ∷ rest)) refusal e)

  pub spot_ends : (directory : ℕ) (name : List ℕ) → spot_from s directory name [] ≡ (require (is_directory s directory) NotDirectory >> Ok (record { directory = directory; name = name }))
  spot_ends directory name = ap (λ (x : Result ℕ Refusal). x >>= λ there. (require (is_directory s there) NotDirectory >> Ok (record { directory = there; name = name }))) (walk_ends directory)

  pub spot_ends_there : (directory : ℕ) (name : List ℕ) → is_directory s directory ≡ true → spot_from s directory name [] ≡ Ok (record { directory = directory; name = name })
  spot_ends_there directory name e = spot_ends directory name ∙ ap (λ (b : Bool). require b NotDirectory >> Ok (record { directory = directory; name = name })) e

  pub spot_ends_nowhere : (directory : ℕ) (name : List ℕ) → is_directory s directory ≡ false → spot_from s directory name [] ≡ Err NotDirectory
  spot_ends_nowhere directory name e = spot_ends directory name ∙ ap (λ (b : Bool). require b NotDirectory >> Ok (record { directory = directory; name = name })) e
