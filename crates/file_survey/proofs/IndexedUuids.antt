-- An ordered index of UUIDs: what it has is what a comparison finds, and one UUID more is found in
-- it.
use Rattle.std.proofs.Common.{◌≡◌, ℕ, Bool, true, false, cond, ◌||◌, List, [], ◌∷◌, ◌++◌, refl, sym, ◌∙◌}
use Rattle.std.proofs.lemmas.List.Folds.{list_any-append}
use Rattle.std.proofs.lemmas.Map.Text.{is_eq-slice_cmp}
use Rattle.std.specs.Cmp.Lexicographic.{slice_cmp}
use Rattle.std.specs.List.{list_any}
use Rattle.std.specs.Ordering.{nat_cmp, is_eq}
use Rattle.std.specs.Str.{bytes_eq}
use Rattle.send_model.specs.Outside.{is_among}
use Rattle.file_survey.specs.Indexed.{AreIndexed}

-- A UUID is equal to those to which it compares equal.
pub compared : (uuid : List ℕ) (keys : List (List ℕ)) → list_any (λ k. is_eq (slice_cmp nat_cmp uuid k)) keys ≡ list_any (bytes_eq uuid) keys
compared uuid [] = refl
compared uuid (k ∷ keys) = (λ i. is_eq-slice_cmp uuid k i || compared uuid keys i)

-- Once a UUID was put into the index and behind the others, the same are found in both.
pub one_more : (keys more uuids : List (List ℕ)) (uuid : List ℕ) → AreIndexed keys uuids
    → ((u : List ℕ) → list_any (λ k. is_eq (slice_cmp nat_cmp u k)) more ≡ cond (is_eq (slice_cmp nat_cmp uuid u)) true (list_any (λ k. is_eq (slice_cmp nat_cmp u k)) keys))
    → AreIndexed more (uuids ++ uuid ∷ [])
one_more keys more uuids uuid indexed put u =
    sym (compared u more) ∙ put u ∙ (λ i. cond (is_eq-slice_cmp uuid u i) true ((compared u keys ∙ indexed u) i))
    ∙ behind (bytes_eq uuid u) (is_among uuids u) ∙ sym (list_any-append (λ x. bytes_eq x u) uuids (uuid ∷ []))
  where
    behind : (b a : Bool) → cond b true a ≡ a || (b || false)
    behind true true = refl
    behind true false = refl
    behind false true = refl
    behind false false = refl
