-- The least of the paths that end with the names seen so far, and what it is once all names of an
-- inode were seen.
use Rattle.std.specs.Prelude.{◌≡◌, ◌≢◌, ℕ, true, false, List, [], ◌∷◌, ◌++◌, Option, None, Some, Ok, is_some}
use Rattle.std.specs.declared.cmp.Ordering.{Ordering}
use Rattle.std.specs.declared.cmp.Ordering.TheVariants.{Less, Equal, Greater}
use Rattle.std.specs.List.{AllByRecursion}
use Rattle.std.proofs.Common.{refl, sym, ap, subst, ◌∙◌}
use Rattle.send_model.specs.Refusal.{BadPath}
use Rattle.send_model.specs.Chain.{◌>>=◌, found}
use Rattle.send_model.specs.Path.{path_names}
use Rattle.send_model.specs.Map.{bytes_cmp}
use Rattle.send_model.specs.Subvolume.{Subvolume, IsNameable, root, named, is_directory, walk_names, walk, lesser, first_path, is_nameable}
use Rattle.send_model.specs.Laws.{FirstPathsAreLeast}
use Rattle.send_model.proofs.ElementLaws.{all_both}
use Rattle.send_model.proofs.LeastPaths.{NotAfter, flipped, not_after_itself, not_after_trans}
use Rattle.send_model.proofs.Sound.{found_is}
use Rattle.send_model.proofs.Fuel.{bound}
use Rattle.send_model.proofs.WalkLaws.{Step, Leads, leads-append, leads_from_walk, walk_from_leads}
use Rattle.path_index.specs.Places.{places_of}
use Rattle.path_index.specs.Ways.{EndsAt, IsOnlyPath}
use Rattle.path_index.proofs.Named.{Among, all_at, place_among}
use Rattle.path_index.proofs.Upward.{some_step}

-- ---- the order of paths

not_after_other : (p q : List ℕ) → bytes_cmp p q ≡ Greater → NotAfter q p
not_after_other p q e g = let t : bytes_cmp q p ≡ Less = flipped p q Greater e in cc (t, g)

module _ {C : Type 0} (s : Subvolume C) where
  -- ---- paths that end at a place

  -- Such a path leads to what the name there leads to.
  pub end_walks : (place : ℕ × List ℕ) (ino : ℕ) (path : List ℕ) → EndsAt s place path → is_directory s place.0 ≡ true → named s place.0 place.1 ≡ Some ino → walk s path ≡ Ok ino
  unfolding walk
  end_walks place ino path o is there =
      let before = leads_from_walk s o.before root place.0 o.leads in
      let whole : Leads (Step s) (o.before ++ place.1 ∷ []) root ino = leads-append (Step s) (Step s) o.before (place.1 ∷ []) root place.0 ino before (ino, (is, there), refl) in
      ap (λ (x : Option (List (List ℕ))). found x BadPath >>= λ names. walk_names s root names) o.names_are ∙ walk_from_leads s (o.before ++ place.1 ∷ []) root ino whole

  -- Each path that leads to another inode than the root ends at one of its places.
  pub walk_ends : (ino : ℕ) → (ino ≡ root → ⊥) → (path : List ℕ) → walk s path ≡ Ok ino → (place : ℕ × List ℕ) × Among place (places_of s.names ino) × EndsAt s place path
  unfolding walk
  walk_ends ino n path w =
      let a = bound (found (path_names path) BadPath) (λ names. walk_names s root names) ino w in
      let some = found_is (path_names path) BadPath a.0 a.1 in
      let r = some_step s a.0 root ino n (leads_from_walk s a.0 root ino a.2) in (
        (r.directory, r.name),
        place_among s.names (r.directory, r.name) ino r.step.1,
        record {
          before = r.before;
          names_are = some ∙ ap (λ (ns : List (List ℕ)). Some ns) r.names_are;
          leads = walk_from_leads s r.before root r.directory r.leads;
        },
      )

  -- ---- the least of those seen

  abbrev pub HasNone : List (ℕ × List ℕ) → Type 0
  HasNone places = AllByRecursion (λ place. (other : List ℕ) → EndsAt s place other → ⊥) places

  abbrev pub IsBelow : List ℕ → List (ℕ × List ℕ) → Type 0
  IsBelow path places = AllByRecursion (λ place. (other : List ℕ) → EndsAt s place other → bytes_cmp path other ≢ Greater) places

  abbrev pub IsLeast : ℕ → List (ℕ × List ℕ) → Option (List ℕ) → Type 0
  IsLeast ino places None = HasNone places
  IsLeast ino places (Some path) = (walk s path ≡ Ok ino) × IsBelow path places

  none_below : (path : List ℕ) (places : List (ℕ × List ℕ)) → HasNone places → IsBelow path places
  none_below path [] h = tt
  none_below path (p ∷ places) h = (λ other o. absurd (h.0 other o), none_below path places h.1)

  lower : (path least : List ℕ) (places : List (ℕ × List ℕ)) → NotAfter path least → IsBelow least places → IsBelow path places
  lower path least [] l h = tt
  lower path least (p ∷ places) l h = (λ other o. not_after_trans path least other l (h.0 other o), lower path least places l h.1)

  one_more : (P : ℕ × List ℕ → Type 0) (places : List (ℕ × List ℕ)) (place : ℕ × List ℕ) → AllByRecursion P places → P place → AllByRecursion P (places ++ place ∷ [])
  one_more P places place all at = all_both P places (place ∷ []) all (at, tt)

  itself : (place : ℕ × List ℕ) (path : List ℕ) → IsOnlyPath s place path → (least : List ℕ) → NotAfter least path → (other : List ℕ) → EndsAt s place other → bytes_cmp least other ≢ Greater
  itself place path only least l other o = subst (λ (q : List ℕ). NotAfter least q) (sym (only.only other o)) l

  -- One name more, with a path.
  pub least_some : (ino : ℕ) (places : List (ℕ × List ℕ)) (least : Option (List ℕ)) (place : ℕ × List ℕ) (path : List ℕ) → IsLeast ino places least → IsOnlyPath s place path → walk s path ≡ Ok ino
      → IsLeast ino (places ++ place ∷ []) (lesser path least)
  least_some ino places None place path h only w =
      (w, one_more (λ p. (other : List ℕ) → EndsAt s p other → bytes_cmp path other ≢ Greater) places place (none_below path places h) (itself place path only path (not_after_itself path)))
  least_some ino places (Some least) place path h only w = one (bytes_cmp path least) refl
    where
      mine : NotAfter path least → IsLeast ino (places ++ place ∷ []) (Some path)
      mine l = (w, one_more (λ p. (other : List ℕ) → EndsAt s p other → bytes_cmp path other ≢ Greater) places place (lower path least places l h.1) (itself place path only path (not_after_itself path)))

      one : (r : Ordering) → bytes_cmp path least ≡ r → IsLeast ino (places ++ place ∷ []) (elim r as (λ x. Option (List ℕ)) [ Less ↦ Some path | Equal ↦ Some path | Greater ↦ Some least ])
      one Less e = mine (λ g. let t : bytes_cmp path least ≡ Less = e in cc (t, g))
      one Equal e = mine (λ g. let t : bytes_cmp path least ≡ Equal = e in cc (t, g))
      one Greater e = (h.0, one_more (λ p. (other : List ℕ) → EndsAt s p other → bytes_cmp least other ≢ Greater) places place h.1 (itself place path only least (not_after_other path least e)))

  -- One name more, without.
  pub least_none : (ino : ℕ) (places : List (ℕ × List ℕ)) (least : Option (List ℕ)) (place : ℕ × List ℕ) → IsLeast ino places least → ((other : List ℕ) → EndsAt s place other → ⊥)
      → IsLeast ino (places ++ place ∷ []) least
  least_none ino places None place h none = one_more (λ p. (other : List ℕ) → EndsAt s p other → ⊥) places place h none
  least_none ino places (Some least) place h none = (h.0, one_more (λ p. (other : List ℕ) → EndsAt s p other → bytes_cmp least other ≢ Greater) places place h.1 (λ other o. absurd (none other o)))

  -- ---- all names of an inode

  -- With all names seen it is the first path.
  pub least_is_first : FirstPathsAreLeast s → (ino : ℕ) → (ino ≡ root → ⊥) → (least : Option (List ℕ)) → IsLeast ino (places_of s.names ino) least → least ≡ first_path s ino
  least_is_first law ino n None h = sym (law.nowhere ino (λ path w.
      let e = walk_ends ino n path w in
      all_at (λ p. (other : List ℕ) → EndsAt s p other → ⊥) e.0 (places_of s.names ino) h e.1 path e.2))
  least_is_first law ino n (Some least) h = sym (law.only ino least (record {
    leads = h.0;
    least = λ path w.
        let e = walk_ends ino n path w in
        all_at (λ p. (other : List ℕ) → EndsAt s p other → bytes_cmp least other ≢ Greater) e.0 (places_of s.names ino) h.1 e.1 path e.2;
  }))

  -- That of the root is empty.
  pub root_first : FirstPathsAreLeast s → first_path s root ≡ Some []
  unfolding walk path_names walk_names
  root_first law = law.only root [] (record {
    leads = refl;
    least = λ path w. empty_first path;
  })
    where
      empty_first : (path : List ℕ) → bytes_cmp [] path ≢ Greater
      empty_first [] e = cc
      empty_first (b ∷ path) e = cc

  -- A path leads to an inode where one ends at one of its places, and where one ends at none, none
  -- does.
  pub nameable : FirstPathsAreLeast s → (ino : ℕ) (path : List ℕ) → walk s path ≡ Ok ino → is_nameable s ino ≡ true
  unfolding IsNameable
  nameable law ino path w = law.named ino (path, w)

  pub not_nameable : FirstPathsAreLeast s → (ino : ℕ) → (ino ≡ root → ⊥) → HasNone (places_of s.names ino) → is_nameable s ino ≡ false
  unfolding is_nameable
  not_nameable law ino n h = ap (λ (o : Option (List ℕ)). is_some o) (sym (least_is_first law ino n None h))
