-- Bodies of groups, by their first byte and their last four.
use Rattle.std.specs.Prelude.{◌≡◌, ◌≢◌, ℕ, suc, ◌-◌, ◌<◌, ◌≤◌, true, false, List, [], ◌∷◌, ◌++◌, length, take, drop, get_or}
use Rattle.std.specs.Int.{w32, to_le_bytes, from_le_bytes}
use Rattle.std.proofs.Common.{inl, inr, sym, ap, subst, ◌∙◌, arith, length-drop}
use Rattle.std.proofs.lemmas.List.{take-append-drop}
use Rattle.send_model.specs.Checksum.{crc_of}
use Rattle.store_model.specs.Scrub.{IsKind, IsDamaged, IsNone}
use Rattle.store_model.proofs.ScrubLaws.{with_seal, without_seal}
use Rattle.store_scrub.specs.declared.kinds.GroupKind.{GroupKind}
use Rattle.store_scrub.specs.Numbers.{Names}
use Rattle.store_scrub.proofs.KindNumbers.{known, new_above, old_below, sealed_by}
use Rattle.store_scrub.specs.Found.{IsPlainOrSealed}

pub no_body : (format : ℕ) (body : List ℕ) → length body ≡ 0 → IsNone format body
no_body format [] none = tt
no_body format (b ∷ body) none = absurd (omega (arith, none))

pub no_kind : (format : ℕ) (body : List ℕ) → 0 < length body → (IsKind format (get_or body 0 0) → ⊥) → IsNone format body
no_kind format [] some not = tt
no_kind format (b ∷ body) some not = inl not

pub too_short : (format : ℕ) (body : List ℕ) (kind : GroupKind) → Names format (get_or body 0 0) kind true → length body ≤ 4 → IsNone format body
too_short format [] kind names short = tt
too_short format (b ∷ body) kind names short = inr (new_above format b kind names, omega (arith, short))

pub plain_whole : (format : ℕ) (body : List ℕ) (kind : GroupKind) → 0 < length body → Names format (get_or body 0 0) kind false → IsPlainOrSealed format body false
plain_whole format [] kind some names = absurd (omega (arith, some))
plain_whole format (b ∷ body) kind some names = record {
  whole = (b, body, known format b kind false names, sym (without_seal b body (old_below format b kind names)));
  kind = sealed_by format b kind false names;
}

module _ (format : ℕ) (kind : GroupKind) (b : ℕ) (body : List ℕ) (names : Names format b kind true) (long : 4 < length (b ∷ body)) where
  -- in front of the last four bytes stands the kind, and some bytes
  abbrev some : List ℕ
  some = take (length (b ∷ body) - 5) body

  front_is : take (length (b ∷ body) - 4) (b ∷ body) ≡ b ∷ some
  front_is = ap (λ (n : ℕ). take n (b ∷ body)) (let e : length (b ∷ body) - 4 ≡ suc (length (b ∷ body) - 5) = omega (arith, long) in e)

  split : b ∷ body ≡ (b ∷ some) ++ drop (length (b ∷ body) - 4) (b ∷ body)
  split = sym (take-append-drop (length (b ∷ body) - 4) (b ∷ body)) ∙ ap (λ (l : List ℕ). l ++ drop (length (b ∷ body) - 4) (b ∷ body)) front_is

  whole_at : drop (length (b ∷ body) - 4) (b ∷ body) ≡ to_le_bytes w32 (crc_of 0 (take (length (b ∷ body) - 4) (b ∷ body))) → IsPlainOrSealed format (b ∷ body) true
  whole_at right = record {
    whole = (
      b,
      some,
      known format b kind true names,
      split ∙ ap (λ (l : List ℕ). (b ∷ some) ++ l) (right ∙ ap (λ (l : List ℕ). to_le_bytes w32 (crc_of 0 l)) front_is) ∙ sym (with_seal b some (new_above format b kind names)),
    );
    kind = sealed_by format b kind true names;
  }

  damaged_at : (stored computed : ℕ) → stored ≡ from_le_bytes w32 (drop (length (b ∷ body) - 4) (b ∷ body)) → computed ≡ crc_of 0 (take (length (b ∷ body) - 4) (b ∷ body)) → stored ≢ computed → IsDamaged (b ∷ body) stored computed
  damaged_at stored computed stored_is computed_is differs = record {
    kind = b;
    rest = some;
    sum = drop (length (b ∷ body) - 4) (b ∷ body);
    new = (new_above format b kind names, (known format b kind true names).1);
    four = omega (arith, length-drop (length (b ∷ body) - 4) (b ∷ body), long);
    bytes = split;
    stored_is = stored_is;
    computed_is = computed_is ∙ ap (crc_of 0) front_is;
    differs = differs;
  }

pub sealed_whole : (format : ℕ) (body : List ℕ) (kind : GroupKind) (len : ℕ) → length body ≡ len → 4 < len → Names format (get_or body 0 0) kind true → drop (len - 4) body ≡ to_le_bytes w32 (crc_of 0 (take (len - 4) body)) → IsPlainOrSealed format body true
sealed_whole format [] kind len size long names right = absurd (omega (arith, size, long))
sealed_whole format (b ∷ body) kind len size long names right =
    whole_at format kind b body names (omega (arith, size, long)) (subst (λ (n : ℕ). drop (n - 4) (b ∷ body) ≡ to_le_bytes w32 (crc_of 0 (take (n - 4) (b ∷ body)))) (sym size) right)

pub sealed_damaged : (format : ℕ) (body : List ℕ) (kind : GroupKind) (len : ℕ) → length body ≡ len → 4 < len → Names format (get_or body 0 0) kind true
    → (stored computed : ℕ) → stored ≡ from_le_bytes w32 (drop (len - 4) body) → computed ≡ crc_of 0 (take (len - 4) body) → stored ≢ computed → IsDamaged body stored computed
sealed_damaged format [] kind len size long names stored computed stored_is computed_is differs = absurd (omega (arith, size, long))
sealed_damaged format (b ∷ body) kind len size long names stored computed stored_is computed_is differs =
    damaged_at format kind b body names (omega (arith, size, long)) stored computed (subst (λ (n : ℕ). stored ≡ from_le_bytes w32 (drop (n - 4) (b ∷ body))) (sym size) stored_is)
    (subst (λ (n : ℕ). computed ≡ crc_of 0 (take (n - 4) (b ∷ body))) (sym size) computed_is) differs
