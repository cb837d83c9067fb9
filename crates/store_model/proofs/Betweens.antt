-- What a store on the way has of the entries at the start and of those at the end.
use Rattle.std.specs.Prelude.{◌≡◌, ◌⊎◌, ℕ, [], ◌∷◌, ◌++◌, length, drop}
use Rattle.std.specs.List.{filter}
use Rattle.std.proofs.Common.{inl, inr, refl, sym, ap, ◌∙◌, append_assoc, arith}
use Rattle.std.proofs.lemmas.List.Elements.{filter-append}
use Rattle.send_model.specs.Store.{Store}
use Rattle.store_model.specs.States.{is_complete, as_begun, HasBegun, IsBetween}
use Rattle.store_model.specs.StateLaws.{BetweenHasThem}
use Rattle.store_model.proofs.PassedStates.{filtered_all, filtered_last, drop_start}

module _ {C : Type 0} where
  -- behind the start stand the complete entries, and at most one more that is unfinished
  record Behind (start complete now : Store C) : Type 0 where
    rest : Store C
    is : now ≡ start ++ rest
    are : filter is_complete rest ≡ complete

  behind : (least : ℕ) (start end now : Store C) (b : IsBetween least start end now) → Behind start b.complete now
  behind least start end now b = one b.others b.is
    where
      one : (others : Store C) → (now ≡ start ++ b.complete) ⊎ HasBegun (start ++ b.complete) others now → Behind start b.complete now
      one others (inl is) = record { rest = b.complete; is = is; are = filtered_all b.complete b.are }
      one [] (inr begun) = absurd begun
      one (e ∷ others) (inr begun) = record {
        rest = b.complete ++ as_begun e ∷ [];
        is = begun ∙ append_assoc start b.complete (as_begun e ∷ []);
        are = filtered_last b.complete (as_begun e) b.are refl;
      }

  pub between_has_them : BetweenHasThem C
  between_has_them least start end now b =
      let there = behind least start end now b in
      let rest : drop (length start) now ≡ there.rest = drop_start start now there.rest there.is in
      let count : filter is_complete (drop (length start) now) ≡ b.complete = ap (filter is_complete) rest ∙ there.are in (
        there.is ∙ ap (λ (l : Store C). start ++ l) (sym rest),
        omega (arith, b.enough, ap length count),
        (
          filter is_complete b.others,
          ap (filter is_complete) (drop_start start end (b.complete ++ b.others) b.all) ∙ filter-append is_complete b.complete b.others
              ∙ ap (λ (l : Store C). l ++ filter is_complete b.others) (filtered_all b.complete b.are ∙ sym count),
        ),
      )
