-- An entry of a store is new to the entries before it: its name and its uuid stand nowhere there,
-- also where some entries are left out, contents are dropped or cells are traced.
use Rattle.std.specs.Prelude.{◌≡◌, ℕ, Bool, true, false, ◌||◌, cond, not, List, [], ◌∷◌, ◌++◌, map, Option, Ok, IsTrue}
use Rattle.std.specs.List.{list_any, filter}
use Rattle.std.specs.Str.{bytes_eq}
use Rattle.std.proofs.Common.{refl, ap, subst, ◌∙◌}
use Rattle.send_model.specs.Path.{is_name}
use Rattle.send_model.specs.Subvolume.{Subvolume}
use Rattle.send_model.specs.Store.{Entry, Store, IsStore, has_name, has_uuid}
use Rattle.send_model.specs.Outside.{is_among, store_without}
use Rattle.send_model.proofs.Stores.{or_parts}
use Rattle.send_model.proofs.MergingClones.{turned_false}
use Rattle.send_model.proofs.Thinning.{has_name-thinned, has_uuid-thinned}
use Rattle.subvol_catalog.specs.Admission.{is_new}
use Rattle.subvol_catalog.specs.Entries.{AreNamed}
use Rattle.provenance.specs.declared.trace.Trace.{Trace}
use Rattle.file_survey.specs.Findings.{Surveyed}
use Rattle.store_compose.specs.Standing.{keeps, standing, traced_to_itself}
use Rattle.store_compose.proofs.StandingEntries.{Passed, in_front, holds_next}

-- ---- what no element passes

module _ {A : Type 0} (test : A → Bool) where
  fails_behind : (done rest : List A) (x : A) → list_any test (done ++ x ∷ rest) ≡ false
      → test x ≡ false
  fails_behind [] rest x none = (or_parts (test x) (list_any test rest) none).0
  fails_behind (y ∷ done) rest x none =
      fails_behind done rest x (or_parts (test y) (list_any test (done ++ x ∷ rest)) none).1

  none_left : (keep : A → Bool) (xs : List A) → list_any test xs ≡ false → list_any test (filter keep xs) ≡ false
  none_left keep [] none = refl
  none_left keep (x ∷ xs) none =
      let p = or_parts (test x) (list_any test xs) none in
      one (keep x) p.0 (none_left keep xs p.1)
    where
      one : (b : Bool) → test x ≡ false → list_any test (filter keep xs) ≡ false → list_any test (cond b (x ∷ filter keep xs) (filter keep xs)) ≡ false
      one true own more = ap (λ (b : Bool). b || list_any test (filter keep xs)) own ∙ more
      one false own more = more

  any_mapped : {B : Type 0} (f : B → A) (xs : List B) → list_any test (map f xs) ≡ list_any (λ x. test (f x)) xs
  any_mapped f [] = refl
  any_mapped f (x ∷ xs) = ap (λ (b : Bool). test (f x) || b) (any_mapped f xs)

-- ---- new entries

-- No entry has the name, and none the uuid.
abbrev HasNeither : {S : Type 0} → List ℕ → List ℕ → List (Entry S) → Type 0
HasNeither name uuid entries = (has_name name entries ≡ false) × (has_uuid uuid entries ≡ false)

module _ {S : Type 0} where
  neither_before : (done rest : List (Entry S)) (e : Entry S) → IsStore (done ++ e ∷ rest)
      → HasNeither e.name e.key.uuid done
  neither_before [] rest e distinct = (refl, refl)
  neither_before (f ∷ done) rest e distinct =
      let more = neither_before done rest e distinct.2 in
      let name : bytes_eq e.name f.name ≡ false =
      fails_behind (λ x. bytes_eq x.name f.name) done rest e distinct.0 in
      let uuid : bytes_eq e.key.uuid f.key.uuid ≡ false =
      fails_behind (λ x. bytes_eq x.key.uuid f.key.uuid) done rest e distinct.1 in (
        ap (λ (b : Bool). b || has_name e.name done) (turned_false e.name f.name name) ∙ more.0,
        ap (λ (b : Bool). b || has_uuid e.key.uuid done)
            (turned_false e.key.uuid f.key.uuid uuid) ∙ more.1,
      )

  -- So it is of the next of entries of which some were passed.
  neither_passed : {T : Type 0} (made : List (Entry S) → List T) (store left rest : List (Entry S))
      (e : Entry S) (old : List T) → IsStore store → left ≡ e ∷ rest
      → (p : Passed made store left old) → HasNeither e.name e.key.uuid p.done
  neither_passed made store left rest e old distinct is p =
      neither_before p.done rest e
      (subst (λ (l : List (Entry S)). IsStore l)
      (in_front made store left rest e old is p) distinct)

  all_new : (entries : List (Entry S)) (name uuid : List ℕ) → IsTrue (is_name name) → HasNeither name uuid entries → is_new entries name uuid ≡ Ok tt
  unfolding is_new
  all_new entries name uuid named none = rw (named, none.0, none.1) refl

  -- An entry of a store, whose name is lawful, is new to what stands of those before it.
  pub new_standing : (survey : Surveyed) (store left rest : List (Entry S)) (e : Entry S)
      (old : List (Entry S)) → IsStore store → AreNamed store → left ≡ e ∷ rest
      → Passed (standing survey) store left old → is_new old e.name e.key.uuid ≡ Ok tt
  new_standing survey store left rest e old distinct named is p =
      let before = neither_passed (standing survey) store left rest e old distinct is p in
      let keep : Entry S → Bool = λ x. not (is_among survey.parts x.key.uuid) in
      let others : List (Entry S) = store_without survey.parts p.done in
      ap (λ (entries : List (Entry S)). is_new entries e.name e.key.uuid) p.made_is
      ∙ all_new (standing survey p.done) e.name e.key.uuid
      (holds_next (λ x. IsTrue (is_name x.name)) (standing survey) store left rest e old named is
      p) (
        has_name-thinned (keeps survey) e.name others
            ∙ none_left (λ x. bytes_eq x.name e.name) keep p.done before.0,
        has_uuid-thinned (keeps survey) e.key.uuid others
            ∙ none_left (λ x. bytes_eq x.key.uuid e.key.uuid) keep p.done before.1,
      )

-- So it is to those before it with their cells traced to their own places.
pub new_traced : {C : Type 0} (store left rest : Store C) (e : Entry (Subvolume C))
    (old : Store (Option Trace)) → IsStore store → AreNamed store → left ≡ e ∷ rest
    → Passed (map traced_to_itself) store left old → is_new old e.name e.key.uuid ≡ Ok tt
new_traced {C} store left rest e old distinct named is p =
    let before = neither_passed (map traced_to_itself) store left rest e old distinct is p in
    ap (λ (entries : Store (Option Trace)). is_new entries e.name e.key.uuid) p.made_is
    ∙ all_new (map traced_to_itself p.done) e.name e.key.uuid
    (holds_next (λ x. IsTrue (is_name x.name)) (map traced_to_itself) store left rest e old named is
    p) (
      any_mapped (λ x. bytes_eq x.name e.name) traced_to_itself p.done ∙ before.0,
      any_mapped (λ x. bytes_eq x.key.uuid e.key.uuid) traced_to_itself p.done ∙ before.1,
    )
