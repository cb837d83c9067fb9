-- Which test refuses an entry.
use Rattle.std.proofs.Common.{◌≡◌, ℕ, Bool, true, false, List, None, Some, Result, Ok, Err, refl}
use Rattle.send_model.specs.Refusal.{Refusal, BadName, NameThere, UuidThere, NoParent}
use Rattle.send_model.specs.Path.{is_name}
use Rattle.send_model.specs.Store.{Entry, Key, Head, has_name, has_uuid, find}
use Rattle.subvol_catalog.specs.Admission.{is_new, has_parent, admitted, IsRefusedBy, Adds}
use Rattle.sx_base.specs.Refusals.{refusal_of}
use Rattle.sx_base.specs.declared.stop.Stop.{Stop}
use Rattle.sx_base.specs.declared.stop.Stop.TheVariants as made

clash : (r : Result (Unit {0}) Refusal) (refusal : Refusal) → r ≡ Ok tt → r ≡ Err refusal → ⊥
clash r refusal e f = cc

module _ {S : Type 0} (entries : List (Entry S)) (name uuid : List ℕ) where
  pub bad_name : is_name name ≡ false → is_new entries name uuid ≡ Err BadName
  unfolding is_new
  bad_name n = rw (n) refl

  pub name_taken : is_name name ≡ true → has_name name entries ≡ true → is_new entries name uuid ≡ Err NameThere
  unfolding is_new
  name_taken n t = rw (n, t) refl

  pub uuid_taken : is_name name ≡ true → has_name name entries ≡ false → has_uuid uuid entries ≡ true → is_new entries name uuid ≡ Err UuidThere
  unfolding is_new
  uuid_taken n t u = rw (n, t, u) refl

  -- What was tested of an entry that is new.
  pub was_new : is_new entries name uuid ≡ Ok tt → (is_name name ≡ true) × (has_name name entries ≡ false) × (has_uuid uuid entries ≡ false)
  was_new e = one (is_name name) refl (has_name name entries) refl (has_uuid uuid entries) refl
    where
      one : (a : Bool) → is_name name ≡ a → (b : Bool) → has_name name entries ≡ b → (d : Bool) → has_uuid uuid entries ≡ d → (is_name name ≡ true) × (has_name name entries ≡ false) × (has_uuid uuid entries ≡ false)
      one true a false b false d = (a, b, d)
      one false a b' b d' d = absurd (clash (is_new entries name uuid) BadName e (bad_name a))
      one true a true b d' d = absurd (clash (is_new entries name uuid) NameThere e (name_taken a b))
      one true a false b true d = absurd (clash (is_new entries name uuid) UuidThere e (uuid_taken a b d))

  pub all_new : is_name name ≡ true → has_name name entries ≡ false → has_uuid uuid entries ≡ false → is_new entries name uuid ≡ Ok tt
  unfolding is_new
  all_new n t u = rw (n, t, u) refl

module _ {S : Type 0} (entries : List (Entry S)) where
  pub no_parent_needed : has_parent entries None ≡ Ok tt
  unfolding has_parent
  no_parent_needed = refl

  pub parent_found : (parent : Key) (s : S) → find entries parent ≡ Some s → has_parent entries (Some parent) ≡ Ok tt
  unfolding has_parent
  parent_found parent s e = rw (e) refl

  pub parent_missing : (parent : Key) → find entries parent ≡ None → has_parent entries (Some parent) ≡ Err NoParent
  unfolding has_parent
  parent_missing parent e = rw (e) refl

  -- A head that is not new is not admitted, for the same reason.
  pub not_new : (head : Head) (refusal : Refusal) → is_new entries head.name head.key.uuid ≡ Err refusal → admitted entries head ≡ Err refusal
  unfolding admitted
  not_new head refusal e = rw (e) refl

  -- One that is new is admitted where its parent is found.
  pub new_is_admitted : (head : Head) → is_new entries head.name head.key.uuid ≡ Ok tt → admitted entries head ≡ has_parent entries head.parent
  unfolding admitted
  new_is_admitted head e = rw (e) refl

  -- Where a test refuses, nothing is added.
  pub adds_nothing : (entry : Entry S) (test due : Result (Unit {0}) Refusal) (stop : Stop) → IsRefusedBy (Err stop) test → ((refusal : Refusal) → test ≡ Err refusal → due ≡ Err refusal) → Adds (Err stop) due entry entries entries
  adds_nothing entry test due (made.Refused refusal) says same = (same (refusal_of refusal) says, refl)
  adds_nothing entry test due made.NoMemory says same = refl

  pub adds_so : (entry : Entry S) (new : List (Entry S)) (result : Result (Unit {0}) Stop) (due : Result (Unit {0}) Refusal) → due ≡ Ok tt → Adds result (Ok tt) entry entries new → Adds result due entry entries new
  adds_so entry new result due e adds = rw (e) adds
