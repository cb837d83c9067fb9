-- Entries by their names, over any cells.
use Rattle.std.specs.Prelude.{◌≡◌, ℕ, Bool, true, false, List, [], ◌∷◌, Option, None, Some, if◌then◌else◌}
use Rattle.std.specs.List.{AllByRecursion}
use Rattle.std.specs.Option.{option_map}
use Rattle.std.specs.Str.{bytes_eq}
use Rattle.std.proofs.Common.{refl, ap, subst, ◌∙◌}
use Rattle.send_model.specs.Store.{Entry, Store}
use Rattle.send_model.specs.Cells.{recelled_entry, recelled_store}
use Rattle.store_model.specs.Dues.{complete_named}
use Rattle.subvol_catalog.specs.Entries.{named}

module _ {S : Type 0} (name : List ℕ) where
  -- what holds of each entry
  pub named_holds : (P : Entry S → Type 0) (store : List (Entry S)) (e : Entry S) → AllByRecursion P store → named name store ≡ Some e → P e
  unfolding named
  named_holds P [] e all is = cc
  named_holds P (x ∷ store) e all is = one (bytes_eq x.name name) (named_holds P store e all.1) is
    where
      one : (b : Bool) → (named name store ≡ Some e → P e) → (if b then Some x else named name store) ≡ Some e → P e
      one true behind same = let here : x ≡ e = cc in subst P here all.0
      one false behind same = behind same

  -- the entry of a name, where it is complete
  abbrev complete_one : Option (Entry S) → Option (Entry S × S)
  complete_one None = None
  complete_one (Some e) = elim e.contents [ None ↦ None | Some s ↦ Some (e, s) ]

  pub complete_is : (store : List (Entry S)) → complete_named name store ≡ complete_one (named name store)
  unfolding named complete_named
  complete_is [] = refl
  complete_is (e ∷ store) = one (bytes_eq e.name name) (complete_is store)
    where
      one : (b : Bool) → complete_named name store ≡ complete_one (named name store)
          → (if b then complete_one (Some e) else complete_named name store) ≡ complete_one (if b then Some e else named name store)
      one true behind = refl
      one false behind = behind

  pub complete_there : (store : List (Entry S)) (e : Entry S) (s : S) → named name store ≡ Some e → e.contents ≡ Some s → complete_named name store ≡ Some (e, s)
  complete_there store e s is holds = complete_is store ∙ ap complete_one is ∙ ap (λ (o : Option S). elim o as (λ x. Option (Entry S × S)) [ None ↦ None | Some s ↦ Some (e, s) ]) holds

  pub not_there : (store : List (Entry S)) → named name store ≡ None → complete_named name store ≡ None
  not_there store is = complete_is store ∙ ap complete_one is

  pub not_complete : (store : List (Entry S)) (e : Entry S) → named name store ≡ Some e → e.contents ≡ None → complete_named name store ≡ None
  not_complete store e is holds = complete_is store ∙ ap complete_one is ∙ ap (λ (o : Option S). elim o as (λ x. Option (Entry S × S)) [ None ↦ None | Some s ↦ Some (e, s) ]) holds

-- Over other cells it is the same entry.
module _ {C D : Type 0} (f : C → D) (name : List ℕ) where
  pub named_same : (store : Store C) → named name (recelled_store f store) ≡ option_map (recelled_entry f) (named name store)
  unfolding named
  named_same [] = refl
  named_same (e ∷ store) = one (bytes_eq e.name name) (named_same store)
    where
      one : (b : Bool) → named name (recelled_store f store) ≡ option_map (recelled_entry f) (named name store)
          → (if b then Some (recelled_entry f e) else named name (recelled_store f store)) ≡ option_map (recelled_entry f) (if b then Some e else named name store)
      one true behind = refl
      one false behind = behind
