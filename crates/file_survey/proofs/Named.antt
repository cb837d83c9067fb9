-- What is surveyed keeps each key that the commands name.
use Rattle.std.specs.Prelude.{◌≡◌, ℕ, Bool, ◌||◌, true, false, List, [], ◌∷◌, ◌++◌, map, if◌then◌else◌}
use Rattle.std.specs.List.{AllByRecursion}
use Rattle.std.specs.Str.{bytes_eq}
use Rattle.std.proofs.Common.{refl, sym, ap, subst, ◌∙◌}
use Rattle.send_model.specs.Command.{Command}
use Rattle.send_model.specs.Reading.{Item}
use Rattle.send_model.specs.Store.{Key}
use Rattle.send_model.specs.Order.{commands_of}
use Rattle.send_model.specs.Outside.{is_among, keys_named, all_keys_named}
use Rattle.send_model.specs.Thinned.{KeepsNamed}
use Rattle.send_model.proofs.Stores.{bytes_eq_same}
use Rattle.file_survey.specs.Findings.{joined_by, uuids_named, all_uuids_named}

-- What is among uuids is among these and more.
stays_among : (known more : List (List ℕ)) (uuid : List ℕ) → is_among known uuid ≡ true → is_among (known ++ more) uuid ≡ true
stays_among [] more uuid e = cc
stays_among (k ∷ known) more uuid e = by_first (bytes_eq k uuid) (λ still. stays_among known more uuid still) e
  where
    by_first : (b : Bool) → (is_among known uuid ≡ true → is_among (known ++ more) uuid ≡ true) → b || is_among known uuid ≡ true → b || is_among (known ++ more) uuid ≡ true
    by_first true stays e = refl
    by_first false stays e = stays e

-- The last is among them.
last_among : (known : List (List ℕ)) (uuid : List ℕ) → is_among (known ++ uuid ∷ []) uuid ≡ true
last_among [] uuid = ap (λ (b : Bool). b || false) (bytes_eq_same uuid)
last_among (k ∷ known) uuid = by_first (bytes_eq k uuid) (last_among known uuid)
  where
    by_first : (b : Bool) → is_among (known ++ uuid ∷ []) uuid ≡ true → b || is_among (known ++ uuid ∷ []) uuid ≡ true
    by_first true last = refl
    by_first false last = last

-- One that is put to others is among them.
put_among : (known : List (List ℕ)) (uuid : List ℕ) (b : Bool) → is_among known uuid ≡ b → is_among (if b then known else (known ++ uuid ∷ [])) uuid ≡ true
put_among known uuid true e = e
put_among known uuid false e = last_among known uuid

-- And what was among them still is.
kept_among : (known : List (List ℕ)) (other uuid : List ℕ) (b : Bool) → is_among known uuid ≡ true → is_among (if b then known else (known ++ other ∷ [])) uuid ≡ true
kept_among known other uuid true e = e
kept_among known other uuid false e = stays_among known (other ∷ []) uuid e

joined_keeps : (known uuids : List (List ℕ)) (uuid : List ℕ) → is_among known uuid ≡ true → is_among (joined_by known uuids) uuid ≡ true
joined_keeps known [] uuid e = e
joined_keeps known (other ∷ uuids) uuid e = joined_keeps (if is_among known other then known else (known ++ other ∷ [])) uuids uuid (kept_among known other uuid (is_among known other) e)

-- Each of those that are put to others is among them.
joined_has : (known uuids : List (List ℕ)) → AllByRecursion (λ uuid. is_among (joined_by known uuids) uuid ≡ true) uuids
joined_has known [] = tt
joined_has known (uuid ∷ uuids) =
    let next : List (List ℕ) = if is_among known uuid then known else (known ++ uuid ∷ []) in
    (joined_keeps next uuids uuid (put_among known uuid (is_among known uuid) refl), joined_has next uuids)

-- ---- by keys

uuids_both : (keys more : List Key) → map (λ key. key.uuid) (keys ++ more) ≡ map (λ key. key.uuid) keys ++ map (λ key. key.uuid) more
uuids_both [] more = refl
uuids_both (key ∷ keys) more = ap (λ (uuids : List (List ℕ)). key.uuid ∷ uuids) (uuids_both keys more)

uuids_all : (commands : List Command) → all_uuids_named commands ≡ map (λ key. key.uuid) (all_keys_named commands)
uuids_all [] = refl
uuids_all (c ∷ commands) = ap (λ (uuids : List (List ℕ)). uuids_named c ++ uuids) (uuids_all commands) ∙ sym (uuids_both (keys_named c) (all_keys_named commands))

by_keys : (P : List ℕ → Type 0) (keys : List Key) → AllByRecursion P (map (λ key. key.uuid) keys) → AllByRecursion (λ key. P key.uuid) keys
by_keys P [] all = tt
by_keys P (key ∷ keys) all = (all.0, by_keys P keys all.1)

-- The uuids that are put together are those of each key that is named.
pub named_keeps : (items : List Item) → KeepsNamed (λ key. is_among (joined_by [] (all_uuids_named (commands_of items))) key.uuid) items
named_keeps items =
    let uuids : List (List ℕ) = all_uuids_named (commands_of items) in
    by_keys (λ uuid. is_among (joined_by [] uuids) uuid ≡ true) (all_keys_named (commands_of items))
    (subst (λ (us : List (List ℕ)). AllByRecursion (λ uuid. is_among (joined_by [] uuids) uuid ≡ true) us) (uuids_all (commands_of items)) (joined_has [] uuids))
