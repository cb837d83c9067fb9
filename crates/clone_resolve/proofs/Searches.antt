-- A search for the unfinished entry of a UUID, where no UUID stands twice.
use Rattle.std.proofs.Common.{◌≡◌, ℕ, Bool, true, false, cond, ◌&&◌, ◌||◌, List, [], ◌∷◌, Option, Some, None, is_none, is_some, refl, sym, ap, ◌∙◌}
use Rattle.std.proofs.lemmas.Bool.{false≢true}
use Rattle.std.specs.Str.{bytes_eq}
use Rattle.send_model.specs.Store.{Entry, IsStore, has_uuid}
use Rattle.send_model.proofs.Stores.{bytes_eq_true}
use Rattle.subvol_catalog.specs.Entries.{of_uuid}
use Rattle.clone_resolve.specs.Heads.{unfinished_at}

-- The entry, where it is unfinished.
abbrev pub if_unfinished : {S : Type 0} → Option (Entry S) → Option (Entry S)
if_unfinished None = None
if_unfinished (Some e) = cond (is_none e.contents) (Some e) None

pub is_complete : {S : Type 0} (e : Entry S) → is_some e.contents ≡ true → if_unfinished (Some e) ≡ None
is_complete {S} e there = one e.contents there
  where
    one : (o : Option S) → is_some o ≡ true → cond (is_none o) (Some e) None ≡ None
    one None t = absurd (false≢true t)
    one (Some s) t = refl

pub is_open_still : {S : Type 0} (e : Entry S) → is_some e.contents ≡ false → if_unfinished (Some e) ≡ Some e
is_open_still {S} e none = one e.contents none
  where
    one : (o : Option S) → is_some o ≡ false → cond (is_none o) (Some e) None ≡ Some e
    one None t = refl
    one (Some s) t = absurd (false≢true (sym t))

module _ {S : Type 0} (uuid : List ℕ) where
  none_open : (entries : List (Entry S)) → has_uuid uuid entries ≡ false → unfinished_at uuid entries ≡ None
  none_open [] f = refl
  none_open (e ∷ entries) f = one (bytes_eq e.key.uuid uuid) f (none_open entries)
    where
      one : (b : Bool) → b || has_uuid uuid entries ≡ false → (has_uuid uuid entries ≡ false → unfinished_at uuid entries ≡ None) → cond (b && is_none e.contents) (Some e) (unfinished_at uuid entries) ≡ None
      one true f more = absurd (false≢true (sym f))
      one false f more = more f

  pub unfinished_is : (entries : List (Entry S)) → IsStore entries → unfinished_at uuid entries ≡ if_unfinished (of_uuid uuid entries)
  unfinished_is [] store = refl
  unfinished_is (e ∷ entries) store = one (bytes_eq e.key.uuid uuid) refl (unfinished_is entries store.2)
    where
      here : (b : Bool) (rest : Option (Entry S)) → rest ≡ None → cond b (Some e) rest ≡ cond b (Some e) None
      here true rest none = refl
      here false rest none = none

      one : (b : Bool) → bytes_eq e.key.uuid uuid ≡ b → unfinished_at uuid entries ≡ if_unfinished (of_uuid uuid entries) → cond (b && is_none e.contents) (Some e) (unfinished_at uuid entries) ≡ if_unfinished (cond b (Some e) (of_uuid uuid entries))
      one true same more =
          let alone : has_uuid uuid entries ≡ false = ap (λ (u : List ℕ). has_uuid u entries) (sym (bytes_eq_true e.key.uuid uuid same)) ∙ store.1 in
          here (is_none e.contents) (unfinished_at uuid entries) (none_open entries alone)
      one false same more = more
