-- An index as it is made, name by name.
use Rattle.std.specs.Prelude.{◌≡◌, ℕ, ◌<◌, ◌==◌, Bool, true, false, cond, List, [], ◌∷◌, ◌++◌, map, length, Option, None, Some, Result, Ok, Err, OnOk, slice_get}
use Rattle.std.specs.Option.{unwrap_or}
use Rattle.std.specs.Ordering.{nat_cmp}
use Rattle.std.specs.Cmp.{nat_cmp_total}
use Rattle.std.specs.List.{filter}
use Rattle.std.proofs.Common.{refl, sym, ap, ap₂, subst, ◌∙◌, arith, append_assoc, append-nil}
use Rattle.std.proofs.lemmas.Bool.{eqb-true, eqb-false}
use Rattle.std.proofs.lemmas.Map.Lookups.{exact_unsigned}
use Rattle.send_model.specs.Map.{Map, IsMap, named_cmp, with_value, without}
use Rattle.send_model.specs.Subvolume.{Subvolume, IsLawful}
use Rattle.send_model.proofs.MapLaws.{with_value-here, with_value-other, without-other, named_cmp_total}
use Rattle.shared_map.specs.Sought.{entries_above, entry_after}
use Rattle.path_index.specs.Places.{places_of, links_at, IsIndexOf, IsOneMore}
use Rattle.path_index.proofs.Above.{after_next, all_names_above}

pub put_one : (old middle new : Map ℕ (List (ℕ × List ℕ))) (ino : ℕ) (place : ℕ × List ℕ) (taken links : List (ℕ × List ℕ)) → taken ≡ links_at old ino → middle ≡ without nat_cmp ino old → links ≡ taken ++ place ∷ []
    → new ≡ with_value nat_cmp ino links middle → IsOneMore old new ino place
put_one old middle new ino place taken links t m l n = record {
  here = ap (λ (x : Map ℕ (List (ℕ × List ℕ))). links_at x ino) n
      ∙ ap (λ (o : Option (List (ℕ × List ℕ))). unwrap_or o []) (with_value-here nat_cmp nat_cmp_total exact_unsigned ino links middle)
      ∙ l ∙ ap (λ (x : List (ℕ × List ℕ)). x ++ place ∷ []) t;
  others = λ other apart.
      ap (λ (x : Map ℕ (List (ℕ × List ℕ))). links_at x other) n
      ∙ ap (λ (o : Option (List (ℕ × List ℕ))). unwrap_or o []) (with_value-other nat_cmp nat_cmp_total exact_unsigned other ino links middle apart)
      ∙ ap (λ (x : Map ℕ (List (ℕ × List ℕ))). links_at x other) m
      ∙ ap (λ (o : Option (List (ℕ × List ℕ))). unwrap_or o []) (without-other nat_cmp nat_cmp_total exact_unsigned other ino old apart);
}

pub put_if : {A E : Type 0} (r : Result A E) (old middle new : Map ℕ (List (ℕ × List ℕ))) (ino : ℕ) (place : ℕ × List ℕ) (taken links : List (ℕ × List ℕ)) → taken ≡ links_at old ino → middle ≡ without nat_cmp ino old → links ≡ taken ++ place ∷ []
    → OnOk r (new ≡ with_value nat_cmp ino links middle) → OnOk r (IsOneMore old new ino place)
put_if (Ok x) old middle new ino place taken links t m l n = put_one old middle new ino place taken links t m l n
put_if (Err e) old middle new ino place taken links t m l n = tt

-- What an index has and the names above a place are all names.
abbrev pub IsIndexedUpTo : Map ℕ (List (ℕ × List ℕ)) → ℕ × List ℕ → Map (ℕ × List ℕ) ℕ → Type 0
IsIndexedUpTo index place names = (ino : ℕ) → links_at index ino ++ places_of (entries_above named_cmp place names) ino ≡ places_of names ino

pub none_yet : {C : Type 0} (s : Subvolume C) → IsLawful s → IsIndexedUpTo [] (0, []) s.names
none_yet s lawful ino = ap (λ (m : Map (ℕ × List ℕ) ℕ). places_of m ino) (all_names_above s.names lawful.lawful_names)

pub first_gives : {A : Type 0} (xs : List A) (x : A) → slice_get xs 0 ≡ Some x → (rest : List A) × (xs ≡ x ∷ rest)
first_gives [] x e = cc
first_gives (y ∷ xs) x e = (xs, cc)

pub nothing_first : {A : Type 0} (xs : List A) → slice_get xs 0 ≡ None → xs ≡ []
nothing_first [] e = refl
nothing_first (x ∷ xs) e = cc

pub next_indexed : (names : Map (ℕ × List ℕ) ℕ) (index new : Map ℕ (List (ℕ × List ℕ))) (place : ℕ × List ℕ) (e : (ℕ × List ℕ) × ℕ) → IsMap named_cmp names → entry_after named_cmp place names ≡ Some e
    → IsOneMore index new e.1 e.0 → IsIndexedUpTo index place names → IsIndexedUpTo new e.0 names × (length (entries_above named_cmp e.0 names) < length (entries_above named_cmp place names))
next_indexed names index new place e sorted found one all =
    let f = first_gives (entries_above named_cmp place names) e found in
    let left : entries_above named_cmp e.0 names ≡ f.0 = after_next named_cmp named_cmp_total place names e f.0 sorted f.1 in
    (λ ino. at ino f.0 f.1 left (e.1 == ino) refl, omega (arith, ap length f.1, ap length left))
  where
    at : (ino : ℕ) (rest : Map (ℕ × List ℕ) ℕ) → entries_above named_cmp place names ≡ e ∷ rest → entries_above named_cmp e.0 names ≡ rest → (b : Bool) → (e.1 == ino) ≡ b
        → links_at new ino ++ places_of (entries_above named_cmp e.0 names) ino ≡ places_of names ino
    at ino rest above left true t =
        let same : e.1 ≡ ino = eqb-true e.1 ino t in
        let here : links_at new ino ≡ links_at index ino ++ e.0 ∷ [] = subst (λ (n : ℕ). links_at new n ≡ links_at index n ++ e.0 ∷ []) same one.here in
        let split : places_of (e ∷ rest) ino ≡ e.0 ∷ places_of rest ino = ap (λ (b : Bool). map (λ x. x.0) (cond b (e ∷ filter (λ x. x.1 == ino) rest) (filter (λ x. x.1 == ino) rest))) t in
        ap₂ (λ (x y : List (ℕ × List ℕ)). x ++ y) here (ap (λ (m : Map (ℕ × List ℕ) ℕ). places_of m ino) left)
        ∙ append_assoc (links_at index ino) (e.0 ∷ []) (places_of rest ino)
        ∙ ap (λ (x : List (ℕ × List ℕ)). links_at index ino ++ x) (sym split ∙ ap (λ (m : Map (ℕ × List ℕ) ℕ). places_of m ino) (sym above))
        ∙ all ino
    at ino rest above left false t =
        let others : links_at new ino ≡ links_at index ino = one.others ino (λ same. eqb-false e.1 ino t (sym same)) in
        let split : places_of (e ∷ rest) ino ≡ places_of rest ino = ap (λ (b : Bool). map (λ x. x.0) (cond b (e ∷ filter (λ x. x.1 == ino) rest) (filter (λ x. x.1 == ino) rest))) t in
        ap₂ (λ (x y : List (ℕ × List ℕ)). x ++ y) others (ap (λ (m : Map (ℕ × List ℕ) ℕ). places_of m ino) left ∙ sym split ∙ ap (λ (m : Map (ℕ × List ℕ) ℕ). places_of m ino) (sym above))
        ∙ all ino

pub all_indexed : (names : Map (ℕ × List ℕ) ℕ) (index : Map ℕ (List (ℕ × List ℕ))) (place : ℕ × List ℕ) → entry_after named_cmp place names ≡ None → IsIndexedUpTo index place names → IsIndexOf index names
all_indexed names index place none all ino =
    let left : entries_above named_cmp place names ≡ [] = nothing_first (entries_above named_cmp place names) none in
    sym (append-nil (links_at index ino)) ∙ ap (λ (m : Map (ℕ × List ℕ) ℕ). links_at index ino ++ places_of m ino) (sym left) ∙ all ino
