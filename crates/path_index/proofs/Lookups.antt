-- The names that an index has of an inode, one by one: what a look-up answers at each of its ends.
use Rattle.std.specs.Prelude.{◌≡◌, ℕ, ◌+◌, ◌<◌, ◌≤◌, Bool, true, false, List, [], ◌∷◌, ◌++◌, length, take, get_or, Option, None, Some, IsTrue, IfSome, is_some}
use Rattle.std.specs.Option.{unwrap_or}
use Rattle.std.specs.Ordering.{nat_cmp}
use Rattle.std.proofs.Common.{refl, sym, ap, subst, ◌∙◌, arith, inl, inr}
use Rattle.std.proofs.lemmas.List.{take_more, take_all}
use Rattle.send_model.specs.Path.{path_names}
use Rattle.send_model.specs.Map.{Map, value_at}
use Rattle.send_model.specs.Subvolume.{Subvolume, IsLawful, root, named, is_directory, walk_names, walk, lesser, first_path, is_nameable}
use Rattle.send_model.specs.Laws.{FirstPathsAreLeast}
use Rattle.send_model.proofs.ElementLaws.{all_both}
use Rattle.send_model.proofs.LawfulPaths.{walked_path}
use Rattle.send_model.proofs.PathLaws.{path_names_short}
use Rattle.path_index.specs.Places.{places_of, links_at, IsIndexed}
use Rattle.path_index.specs.Ways.{EndsAt, HasWay, IsLesserBy}
use Rattle.path_index.proofs.Named.{Among, among_get, among_named}
use Rattle.path_index.proofs.Leasts.{IsLeast, HasNone, least_some, least_none, least_is_first, root_first, nameable, not_nameable, end_walks}

module _ {C : Type 0} (s S : Subvolume C) (index : Map ℕ (List (ℕ × List ℕ))) (view : s ≡ S) (indexed : IsIndexed s index) where
  lawful : IsLawful S
  lawful = subst (λ (t : Subvolume C). IsLawful t) view indexed.lawful

  links : (ino : ℕ) → links_at index ino ≡ places_of S.names ino
  links ino = indexed.indexed ino ∙ ap (λ (t : Subvolume C). places_of t.names ino) view

  -- ---- the names that are found

  found_links : (ino : ℕ) (found : List (ℕ × List ℕ)) → Some found ≡ value_at nat_cmp ino index → found ≡ places_of S.names ino
  found_links ino found e = ap (λ (o : Option (List (ℕ × List ℕ))). unwrap_or o []) e ∙ links ino

  no_links : (ino : ℕ) → None ≡ value_at nat_cmp ino index → places_of S.names ino ≡ []
  no_links ino e = sym (ap (λ (o : Option (List (ℕ × List ℕ))). unwrap_or o []) e ∙ links ino)

  module _ (ino : ℕ) (found : List (ℕ × List ℕ)) (found_is : Some found ≡ value_at nat_cmp ino index) (items : List (ℕ × List ℕ)) (items_are : items ≡ found) where
    are : items ≡ places_of S.names ino
    are = items_are ∙ found_links ino found found_is

    module _ (i : ℕ) (item : ℕ × List ℕ) (item_is : item ≡ get_or items i item) (less : i < length items) where
      leads : named S item.0 item.1 ≡ Some ino
      leads = among_named S.names item ino lawful.sound.names_in_order
          (subst (λ (ps : List (ℕ × List ℕ)). Among item ps) are (subst (λ (x : ℕ × List ℕ). Among x items) (sym item_is) (among_get items i item less)))

      pub place_there : IsTrue (is_some (named S item.0 item.1))
      place_there = ap (λ (o : Option ℕ). is_some o) leads

      directory : is_directory S item.0 ≡ true
      directory = lawful.sound.in_directory item.0 item.1 ino leads

      one_more : take (i + 1) (places_of S.names ino) ≡ take i (places_of S.names ino) ++ item ∷ []
      one_more = subst (λ (ps : List (ℕ × List ℕ)). take (i + 1) ps ≡ take i ps ++ item ∷ []) are (take_more items i item less ∙ ap (λ (x : ℕ × List ℕ). take i items ++ x ∷ []) (sym item_is))

      pub none_more : (b : Bool) → b ≡ false → HasWay S item b → HasNone S (take i (places_of S.names ino)) → HasNone S (take (i + 1) (places_of S.names ino))
      none_more false e w h = subst (λ (ps : List (ℕ × List ℕ)). HasNone S ps) (sym one_more) (all_both (λ p. (other : List ℕ) → EndsAt S p other → ⊥) (take i (places_of S.names ino)) (item ∷ []) h (w, tt))
      none_more true e w h = cc

      pub some_nameable : FirstPathsAreLeast S → (b : Bool) → b ≡ true → HasWay S item b → true ≡ is_nameable S ino
      some_nameable law false e w = cc
      some_nameable law true e w = sym (nameable S law ino w.0 (end_walks S item ino w.0 w.1.ends directory leads))

      pub least_more : (least next : Option (List ℕ)) → IsLesserBy S item least next → IsLeast S ino (take i (places_of S.names ino)) least → IsLeast S ino (take (i + 1) (places_of S.names ino)) next
      least_more least next (inl p) h =
          subst (λ (o : Option (List ℕ)). IsLeast S ino (take (i + 1) (places_of S.names ino)) o) (sym p.2)
          (subst (λ (ps : List (ℕ × List ℕ)). IsLeast S ino ps (lesser p.0 least)) (sym one_more)
          (least_some S ino (take i (places_of S.names ino)) least item p.0 h p.1 (end_walks S item ino p.0 p.1.ends directory leads)))
      least_more least next (inr p) h =
          subst (λ (o : Option (List ℕ)). IsLeast S ino (take (i + 1) (places_of S.names ino)) o) (sym p.1)
          (subst (λ (ps : List (ℕ × List ℕ)). IsLeast S ino ps least) (sym one_more) (least_none S ino (take i (places_of S.names ino)) least item h p.0))

    all_taken : (i : ℕ) → length items ≤ i → take i (places_of S.names ino) ≡ places_of S.names ino
    all_taken i past = take_all i (places_of S.names ino) (omega (arith, past, ap length are))

    pub none_at_all : FirstPathsAreLeast S → (ino ≡ root → ⊥) → (i : ℕ) → length items ≤ i → HasNone S (take i (places_of S.names ino)) → false ≡ is_nameable S ino
    none_at_all law n i past h = sym (not_nameable S law ino n (subst (λ (ps : List (ℕ × List ℕ)). HasNone S ps) (all_taken i past) h))

    pub least_at_all : FirstPathsAreLeast S → (ino ≡ root → ⊥) → (i : ℕ) → length items ≤ i → (least : Option (List ℕ)) → IsLeast S ino (take i (places_of S.names ino)) least → least ≡ first_path S ino
    least_at_all law n i past least h = least_is_first S law ino n least (subst (λ (ps : List (ℕ × List ℕ)). IsLeast S ino ps least) (all_taken i past) h)

  -- ---- the root, and an inode without a name

  pub root_nameable : FirstPathsAreLeast S → (ino : ℕ) → ino ≡ root → true ≡ is_nameable S ino
  unfolding walk path_names walk_names
  root_nameable law ino e = sym (subst (λ (n : ℕ). is_nameable S n ≡ true) (sym e) (nameable S law root [] refl))

  pub nothing_nameable : FirstPathsAreLeast S → (ino : ℕ) → (ino ≡ root → ⊥) → None ≡ value_at nat_cmp ino index → false ≡ is_nameable S ino
  nothing_nameable law ino n e = sym (not_nameable S law ino n (subst (λ (ps : List (ℕ × List ℕ)). HasNone S ps) (sym (no_links ino e)) tt))

  pub root_path : FirstPathsAreLeast S → (ino : ℕ) → ino ≡ root → (path : List ℕ) → path ≡ [] → Some path ≡ first_path S ino
  root_path law ino e path empty = ap (λ (p : List ℕ). Some p) empty ∙ sym (subst (λ (n : ℕ). first_path S n ≡ Some []) (sym e) (root_first S law))

  pub no_path : FirstPathsAreLeast S → (ino : ℕ) → (ino ≡ root → ⊥) → None ≡ value_at nat_cmp ino index → None ≡ first_path S ino
  no_path law ino n e = least_is_first S law ino n None (subst (λ (ps : List (ℕ × List ℕ)). IsLeast S ino ps None) (sym (no_links ino e)) tt)

-- The least path so far is short.
pub least_short : {C : Type 0} (S : Subvolume C) (ino : ℕ) (places : List (ℕ × List ℕ)) (least : Option (List ℕ)) → IsLeast S ino places least → IfSome least (λ path. length path ≤ 4095)
least_short S ino places None h = tt
least_short S ino places (Some path) h = short (path_names path) refl (walked_path S path ino h.0)
  where
    short : (o : Option (List (List ℕ))) → path_names path ≡ o → is_some o ≡ true → length path ≤ 4095
    short None e t = cc
    short (Some names) e t = path_names_short path names e
