-- The answer that is due with the part as a source.
use Rattle.std.specs.Prelude.{◌≡◌, ℕ, ◌+◌, Bool, true, false, List, [], ◌∷◌, Option, if◌then◌else◌}
use Rattle.std.specs.List.{sum_by}
use Rattle.std.proofs.Common.{refl, arith}
use Rattle.std.proofs.lemmas.List.Sums.{sum_by-cons}
use Rattle.send_model.specs.Reading.{Item}
use Rattle.send_model.specs.Store.{Key, Store, State}
use Rattle.send_model.specs.Outside.{part_uuids}
use Rattle.send_model.specs.Provenance.{Piece, literal_len, is_redirected, uuid_after, redirected_by, literal_in}
use Rattle.send_model.proofs.DuesAny.{judged_by}
use Rattle.standing_model.specs.Births.{Tagged, tagged_store, tagged_after}
use Rattle.standing_model.specs.Standing.{standing_pieces, last_key_of}
use Rattle.standing_model.specs.Promises.{unstanding_of, SelfJudges}
use Rattle.standing_model.proofs.TaggedBase.{celled, tagged_is}

module _ (base : Store ℕ) (parts : List (List ℕ)) (last : Key) where
  abbrev total : State Tagged → Option (List ℕ) → List Item → ℕ
  total state current items = literal_in (redirected_by tagged_after (standing_pieces base last) parts state current items)

  nothing : (state : State Tagged) (current : Option (List ℕ)) → total state current [] ≡ 0
  unfolding redirected_by
  nothing state current = refl

  split : (state : State Tagged) (current : Option (List ℕ)) (item : Item) (items : List Item) → total state current (item ∷ items) ≡ unstanding_of base parts last state current item + total (tagged_after state item) (uuid_after current item.command) items
  unfolding redirected_by
  split state current item items = one (is_redirected parts current item.command) (standing_pieces base last state item.command) (redirected_by tagged_after (standing_pieces base last) parts (tagged_after state item) (uuid_after current item.command) items)
    where
      one : (b : Bool) (ps : List Piece) (others : List (List Piece)) → literal_in (if b then ps ∷ others else others) ≡ (if b then literal_in (ps ∷ []) else 0) + literal_in others
      one true ps others =
          let a = sum_by-cons (λ pieces. sum_by literal_len pieces) ps others in
          let b = sum_by-cons (λ pieces. sum_by literal_len pieces) ps [] in
          omega (arith, a, b)
      one false ps others = omega arith

pub self_judges : SelfJudges
self_judges first_long base reading =
    let parts : List (List ℕ) = part_uuids reading.items in
    let last : Key = last_key_of reading.items in
    judged_by celled (unstanding_of base parts last) (total base parts last) (nothing base parts last) (split base parts last) base (tagged_store base) (tagged_is base) first_long reading
