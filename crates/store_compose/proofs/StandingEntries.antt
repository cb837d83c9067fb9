-- The entries of a store without the parts of files: one after the other, what they find, and that
-- they are lawful.
use Rattle.std.specs.Prelude.{◌≡◌, ◌⊎◌, ℕ, Bool, true, false, cond, not, List, [], ◌∷◌, ◌++◌, Option, None, Some, IfSome, if◌then◌else◌}
use Rattle.std.specs.Option.{option_map}
use Rattle.std.specs.List.{AllByRecursion}
use Rattle.std.proofs.Common.{inl, inr, refl, sym, ap, ap₂, subst, ◌∙◌, append_assoc, append-nil}
use Rattle.std.proofs.lemmas.Bool.{true≢false}
use Rattle.std.proofs.lemmas.List.{map-append}
use Rattle.std.proofs.lemmas.List.Elements.{filter-append}
use Rattle.send_model.specs.Subvolume.{Subvolume, IsLawful}
use Rattle.send_model.specs.Store.{Key, Entry, Store, IsStore, same_key, find}
use Rattle.send_model.specs.Cells.{recelled, recelled_entry, recelled_store}
use Rattle.send_model.specs.Outside.{is_among, store_without, AllSayable}
use Rattle.send_model.specs.Thinned.{thinned_entry, thinned}
use Rattle.send_model.specs.Lawful.{HasSayable, IsLawfulEntry, IsLawfulStore}
use Rattle.send_model.proofs.Stores.{same_key_true}
use Rattle.send_model.proofs.Headlines.{without_finds}
use Rattle.send_model.proofs.Keeping.{all_filtered}
use Rattle.send_model.proofs.LawfulStores.{find_sayable}
use Rattle.send_model.proofs.Thinning.{has_name-thinned, has_uuid-thinned, find-thinned}
use Rattle.store_model.proofs.LawfulGroups.{distinct_filtered}
use Rattle.file_survey.specs.Findings.{Surveyed}
use Rattle.group_replay.specs.declared.place.Place.{Place}
use Rattle.group_replay.specs.Kept.{IsKept, AreKept}
use Rattle.store_compose.specs.Standing.{keeps, standing, AreLawful}

-- ---- one entry after the other

-- Some of the entries were passed, and this was made of them; the others are left.
pub record Passed {A B : Type 0} (made : List A → List B) (all left : List A) (now : List B)
    : Type 0 where
  pub done : List A
  pub whole : done ++ left ≡ all
  pub made_is : now ≡ made done

module _ {A B : Type 0} (made : List A → List B) where
  pub passed_none : (all left : List A) (now : List B) → left ≡ all → now ≡ made []
      → Passed made all left now
  passed_none all left now is none = record { done = []; whole = is; made_is = none }

  pub passed_next : (all left rest : List A) (x : A) (old new : List B)
      → ((done : List A) → made (done ++ x ∷ []) ≡ made done ++ made (x ∷ [])) → left ≡ x ∷ rest
      → new ≡ old ++ made (x ∷ []) → Passed made all left old → Passed made all rest new
  passed_next all left rest x old new joined is more p = record {
    done = p.done ++ x ∷ [];
    whole = append_assoc p.done (x ∷ []) rest ∙ ap (λ (l : List A). p.done ++ l) (sym is) ∙ p.whole;
    made_is = more ∙ ap (λ (l : List B). l ++ made (x ∷ [])) p.made_is ∙ sym (joined p.done);
  }

  pub passed_all : (all left : List A) (now : List B) → left ≡ [] → Passed made all left now
      → now ≡ made all
  passed_all all left now none p =
      p.made_is
      ∙ ap made (sym (append-nil p.done) ∙ ap (λ (l : List A). p.done ++ l) (sym none) ∙ p.whole)

  -- What stood in front of the next one.
  pub in_front : (all left rest : List A) (x : A) (now : List B) → left ≡ x ∷ rest
      → (p : Passed made all left now) → all ≡ p.done ++ x ∷ rest
  in_front all left rest x now is p = sym p.whole ∙ ap (λ (l : List A). p.done ++ l) is

-- What holds of each holds of the one behind some others.
holds_behind : {A : Type 0} (P : A → Type 0) (done rest : List A) (x : A)
    → AllByRecursion P (done ++ x ∷ rest) → P x
holds_behind P [] rest x all = all.0
holds_behind P (y ∷ done) rest x all = holds_behind P done rest x all.1

pub holds_next : {A B : Type 0} (P : A → Type 0) (made : List A → List B) (all left rest : List A)
    (x : A) (now : List B) → AllByRecursion P all → left ≡ x ∷ rest → Passed made all left now → P x
holds_next {A = A} P made all left rest x now holds is p =
    holds_behind P p.done rest x
    (subst (λ (l : List A). AllByRecursion P l) (in_front made all left rest x now is p) holds)

-- One entry more stands behind those that do.
pub standing_joins : {S : Type 0} (survey : Surveyed) (e : Entry S) (done : List (Entry S))
    → standing survey (done ++ e ∷ []) ≡ standing survey done ++ standing survey (e ∷ [])
standing_joins survey e done =
    ap (thinned (keeps survey))
    (filter-append (λ x. not (is_among survey.parts x.key.uuid)) done (e ∷ []))
    ∙ map-append (thinned_entry (keeps survey)) (store_without survey.parts done)
    (store_without survey.parts (e ∷ []))

-- ---- what stands

module _ (keep : Key → Bool) (uuids : List (List ℕ)) where
  module _ {S : Type 0} where
    distinct_thinned : (store : List (Entry S)) → IsStore store → IsStore (thinned keep store)
    distinct_thinned [] h = tt
    distinct_thinned (e ∷ store) h = (has_name-thinned keep e.name store ∙ h.0, has_uuid-thinned keep e.key.uuid store ∙ h.1, distinct_thinned store h.2)

    pub distinct_standing : (store : List (Entry S)) → IsStore store → IsStore (thinned keep (store_without uuids store))
    distinct_standing store h = distinct_thinned (store_without uuids store) (distinct_filtered (λ e. not (is_among uuids e.key.uuid)) store h)

    -- Leaving out the same parts again changes nothing.
    pub apart_still : (store : List (Entry S)) → store_without uuids (thinned keep (store_without uuids store)) ≡ thinned keep (store_without uuids store)
    apart_still [] = refl
    apart_still (e ∷ store) = one (not (is_among uuids e.key.uuid)) refl (apart_still store)
      where
        one : (b : Bool) → not (is_among uuids e.key.uuid) ≡ b → store_without uuids (thinned keep (store_without uuids store)) ≡ thinned keep (store_without uuids store)
            → store_without uuids (thinned keep (cond b (e ∷ store_without uuids store) (store_without uuids store))) ≡ thinned keep (cond b (e ∷ store_without uuids store) (store_without uuids store))
        one true out more =
            let left : List (Entry S) = store_without uuids (thinned keep (store_without uuids store)) in
            ap (λ (b : Bool). cond b (thinned_entry keep e ∷ left) left) out ∙ ap (λ (r : List (Entry S)). thinned_entry keep e ∷ r) more
        one false out more = more

    without_twice : (store : List (Entry S)) → store_without uuids (store_without uuids store) ≡ store_without uuids store
    without_twice [] = refl
    without_twice (e ∷ store) = one (not (is_among uuids e.key.uuid)) refl (without_twice store)
      where
        one : (b : Bool) → not (is_among uuids e.key.uuid) ≡ b → store_without uuids (store_without uuids store) ≡ store_without uuids store
            → store_without uuids (cond b (e ∷ store_without uuids store) (store_without uuids store)) ≡ cond b (e ∷ store_without uuids store) (store_without uuids store)
        one true out more =
            let left : List (Entry S) = store_without uuids (store_without uuids store) in
            ap (λ (b : Bool). cond b (e ∷ left) left) out ∙ ap (λ (r : List (Entry S)). e ∷ r) more
        one false out more = more

    pub apart_once : (store : List (Entry S)) → store_without uuids (store_without uuids store) ≡ store_without uuids store
    apart_once store = without_twice store

  module _ {C : Type 0} where
    lawful_thinned : (store : Store C) → AreLawful store → AreLawful (thinned keep store)
    lawful_thinned [] all = tt
    lawful_thinned (e ∷ store) all = (one (keep e.key) e.contents all.0, lawful_thinned store all.1)
      where
        one : (b : Bool) (o : Option (Subvolume C)) → IfSome o IsLawful → IfSome (if b then o else None) IsLawful
        one true o h = h
        one false o h = tt

    pub lawful_standing : (store : Store C) → AreLawful store → AreLawful (thinned keep (store_without uuids store))
    lawful_standing store all = lawful_thinned (store_without uuids store) (all_filtered (λ e. IfSome e.contents IsLawful) (λ e. not (is_among uuids e.key.uuid)) store all)

  -- It makes no difference whether cells become others before or after.
  module _ {C D : Type 0} (f : C → D) where
    entry_standing : (e : Entry (Subvolume C)) → recelled_entry f (thinned_entry keep e) ≡ thinned_entry keep (recelled_entry f e)
    entry_standing e =
        let at : Option (Subvolume D) → Entry (Subvolume D) = λ o. record { name = e.name; key = e.key; parent = e.parent; contents = o } in
        ap at (one (keep e.key) e.contents)
      where
        one : (b : Bool) (o : Option (Subvolume C)) → option_map (recelled f) (if b then o else None) ≡ (if b then option_map (recelled f) o else None)
        one true o = refl
        one false o = refl

    pub cells_standing : (store : Store C) → recelled_store f (thinned keep (store_without uuids store)) ≡ thinned keep (store_without uuids (recelled_store f store))
    cells_standing [] = refl
    cells_standing (e ∷ store) = one (not (is_among uuids e.key.uuid)) (cells_standing store)
      where
        one : (b : Bool) → recelled_store f (thinned keep (store_without uuids store)) ≡ thinned keep (store_without uuids (recelled_store f store))
            → recelled_store f (thinned keep (cond b (e ∷ store_without uuids store) (store_without uuids store)))
            ≡ thinned keep (cond b (recelled_entry f e ∷ store_without uuids (recelled_store f store)) (store_without uuids (recelled_store f store)))
        one true more = ap₂ (λ (x : Entry (Subvolume D)) (r : Store D). x ∷ r) (entry_standing e) more
        one false more = more

  -- ---- over bytes

  others_find : (store : Store ℕ) (key : Key) → is_among uuids key.uuid ≡ false → find (store_without uuids store) key ≡ find store key
  unfolding find
  others_find [] key h = refl
  others_find (e ∷ store) key h = one (is_among uuids e.key.uuid) refl (same_key e.key key) refl (others_find store key h)
    where
      one : (b : Bool) → is_among uuids e.key.uuid ≡ b → (k : Bool) → same_key e.key key ≡ k → find (store_without uuids store) key ≡ find store key
          → find (cond (not b) (e ∷ store_without uuids store) (store_without uuids store)) key
          ≡ (if k then (elim e.contents as (λ x. Option (Subvolume ℕ)) [ None ↦ find store key | Some s ↦ Some s ]) else find store key)
      one true among true same more = absurd (true≢false (sym among ∙ ap (λ (k : Key). is_among uuids k.uuid) (same_key_true e.key key same) ∙ h))
      one true among false same more = more
      one false among k same more =
          let rest : Option (Subvolume ℕ) = find (store_without uuids store) key in
          ap (λ (b : Bool). if b then (elim e.contents as (λ x. Option (Subvolume ℕ)) [ None ↦ rest | Some s ↦ Some s ]) else rest) same
          ∙ ap (λ (o : Option (Subvolume ℕ)). if k then (elim e.contents as (λ x. Option (Subvolume ℕ)) [ None ↦ o | Some s ↦ Some s ]) else o) more

  -- A key finds there what it finds in the store, or nothing.
  pub finds_standing : (store : Store ℕ) (key : Key) → (find (thinned keep (store_without uuids store)) key ≡ None) ⊎ (find (thinned keep (store_without uuids store)) key ≡ find store key)
  finds_standing store key = by_keep (keep key) refl
    where
      found : find (thinned keep (store_without uuids store)) key ≡ (if keep key then find (store_without uuids store) key else None)
      found = find-thinned keep (store_without uuids store) key

      by_part : (b : Bool) → is_among uuids key.uuid ≡ b → (find (store_without uuids store) key ≡ None) ⊎ (find (store_without uuids store) key ≡ find store key)
      by_part true among = inl (without_finds uuids store key among)
      by_part false among = inr (others_find store key among)

      moved : find (thinned keep (store_without uuids store)) key ≡ find (store_without uuids store) key → (find (store_without uuids store) key ≡ None) ⊎ (find (store_without uuids store) key ≡ find store key)
          → (find (thinned keep (store_without uuids store)) key ≡ None) ⊎ (find (thinned keep (store_without uuids store)) key ≡ find store key)
      moved same (inl none) = inl (same ∙ none)
      moved same (inr some) = inr (same ∙ some)

      by_keep : (b : Bool) → keep key ≡ b → (find (thinned keep (store_without uuids store)) key ≡ None) ⊎ (find (thinned keep (store_without uuids store)) key ≡ find store key)
      by_keep true kept = moved (found ∙ ap (λ (b : Bool). if b then find (store_without uuids store) key else None) kept) (by_part (is_among uuids key.uuid) refl)
      by_keep false kept = inl (found ∙ ap (λ (b : Bool). if b then find (store_without uuids store) key else None) kept)

  sayable_thinned : (store : Store ℕ) → AllByRecursion IsLawfulEntry store → AllByRecursion IsLawfulEntry (thinned keep store)
  sayable_thinned [] all = tt
  sayable_thinned (e ∷ store) all = (record { name = all.0.name; uuid = all.0.uuid; contents = one (keep e.key) e.contents all.0.contents }, sayable_thinned store all.1)
    where
      one : (b : Bool) (o : Option (Subvolume ℕ)) → HasSayable o → HasSayable (if b then o else None)
      one true o h = h
      one false o h = tt

  -- Where the store is lawful, the format can say each subvolume there.
  pub sayable_standing : (store : Store ℕ) → IsLawfulStore store → AllSayable (thinned keep (store_without uuids store))
  sayable_standing store lawful key s f =
      find_sayable (thinned keep (store_without uuids store)) key s
      (sayable_thinned (store_without uuids store) (all_filtered IsLawfulEntry (λ e. not (is_among uuids e.key.uuid)) store lawful.entries)) f

-- What a store keeps is lawful.
pub kept_lawful : (end : ℕ) (core : Store (Option Place)) → AreKept end core → AreLawful core
kept_lawful end [] all = tt
kept_lawful end (e ∷ core) all = (one e.contents all.0, kept_lawful end core all.1)
  where
    one : (o : Option (Subvolume (Option Place))) → IfSome o (IsKept end) → IfSome o IsLawful
    one None k = tt
    one (Some s) k = k.lawful
