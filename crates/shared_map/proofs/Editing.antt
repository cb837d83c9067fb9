-- A value that is changed where it stands.
use Rattle.std.proofs.Common.{◌≡◌, ℕ, List, Bool, true, false, Option, None, Some, get_or, set, refl, sym, ap, subst, ◌∙◌, ⊎_elim}
use Rattle.std.proofs.lemmas.Bool.{true≢false}
use Rattle.std.specs.Cmp.{IsTotalOrder}
use Rattle.std.specs.declared.cmp.Ordering.{Ordering}
use Rattle.send_model.specs.Map.{Map}
use Rattle.shared_map.specs.Pages.{AreKept, IsAt, KeepsKeyAt}
use Rattle.shared_map.specs.Edited.{IsEdited}
use Rattle.shared_map.proofs.Lists.{split_at, set_at}
use Rattle.shared_map.proofs.Parts.{IsPart, put_found}

-- the same by what becomes of the value and of the edit, the map before and after, and the edit
-- before and after
abbrev pub IsChanged : {K V E : Type 0} → (become : V → V) (left : V → E) (was : Option V) (put : V → Map K V) (old new : Map K V) (before after : E) (there : Bool) → Type 0
IsChanged become left was put old new before after there = IsEdited (λ value. (become value, left value)) was put (old, before) (new, after) there

module _ {K W E : Type 0} (become : W → W) (left : W → E) (put : W → Map K W) where
  -- where the key has this value, and where it has none
  pub edited_there : (was : Option W) (value : W) (old new : Map K W) (before after : E) → was ≡ Some value → new ≡ put (become value) → after ≡ left value → IsChanged become left was put old new before after true
  edited_there was value old new before after is made edit =
      subst (λ (o : Option W). IsChanged become left o put old new before after true) (sym is) (refl, made, edit)

  pub edited_nowhere : (was : Option W) (old : Map K W) (before : E) → was ≡ None → IsChanged become left was put old old before before false
  edited_nowhere was old before is = subst (λ (o : Option W). IsChanged become left o put old old before before false) (sym is) (refl, refl, refl)

-- what an edit says where the key has a value
pub record WasThere {K W E : Type 0} (become : W → W) (left : W → E) (was : Option W) (put : W → Map K W) (new : Map K W) (after : E) : Type 0 where
  pub value : W
  pub was_is : was ≡ Some value
  pub made : new ≡ put (become value)
  pub edit : after ≡ left value

pub was_there : {K W E : Type 0} (become : W → W) (left : W → E) (was : Option W) (put : W → Map K W) (old new : Map K W) (before after : E) (there : Bool) → there ≡ true → IsChanged become left was put old new before after there → WasThere become left was put new after
was_there become left None put old new before after there is edited = absurd (true≢false (sym is ∙ edited.0))
was_there become left (Some value) put old new before after there is edited = record { value = value; was_is = refl; made = edited.1; edit = edited.2 }

-- a map stays one, whatever becomes of one value
pub kept_somehow : {K W : Type 0} {order : K → K → Ordering} (total : IsTotalOrder order) (key : K) (ps : List (List (K × W))) (i : ℕ) (p q : List (K × W)) (len place : ℕ) → AreKept order ps len → IsPart order key ps i p → p ≡ get_or ps i p → IsAt order key p place → KeepsKeyAt p q place → AreKept order (set ps i q) len
kept_somehow {order = order} total key ps i p q len place are is read at did =
    ⊎_elim (λ same. subst (λ l. AreKept order l len) (split_at ps i p is.in_range read ∙ sym (set_at ps i p is.in_range) ∙ ap (set ps i) (sym same)) are)
    (λ other. (put_found total key ps i p len are is other.0 other.1.was place other.1.key q at other.1.before other.1.made).kept) did
