-- Parts that are taken up again from unfinished entries.
use Rattle.std.specs.Prelude.{◌≡◌, ℕ, Bool, true, false, List, [], ◌∷◌, Option, None, Some, Result, Ok, Err, IfSome, IsTrue, is_some, is_none, if◌then◌else◌}
use Rattle.std.specs.Option.{option_map}
use Rattle.std.specs.Str.{bytes_eq}
use Rattle.std.proofs.Common.{refl, sym, ap, subst, ◌∙◌}
use Rattle.std.proofs.lemmas.Bool.{false≢true, and_parts}
use Rattle.sx_base.specs.declared.refusal.Refusal as code
use Rattle.sx_base.specs.declared.stop.Stop.TheVariants as stop
use Rattle.send_model.specs.Refusal.{Refusal}
use Rattle.send_model.specs.Subvolume.{Subvolume}
use Rattle.send_model.specs.Store.{Key, Entry, Part, Store, State}
use Rattle.send_model.proofs.Sorts.{same_inside}
use Rattle.send_model.proofs.Stores.{bytes_eq_true}
use Rattle.store_model.specs.Stored.{started, unfinished_at, resumed}
use Rattle.clone_resolve.specs.Heads.{Resumes, is_unfinished}
use Rattle.clone_resolve.specs.Heads as code_heads
use Rattle.group_replay.specs.declared.place.Place.{Place}
use Rattle.group_replay.specs.Kept.{IsKept, AreKept}
use Rattle.group_replay.proofs.KeptParts.{start_kept}

pub same_entry : {S : Type 0} (uuid : List ℕ) (store : List (Entry S)) → code_heads.unfinished_at uuid store ≡ unfinished_at uuid store
unfolding unfinished_at
same_entry uuid [] = refl
same_entry uuid (e ∷ store) = ap (λ (o : Option _). if is_unfinished uuid e then Some e else o) (same_entry uuid store)

pub is_some_map : {A B : Type 0} (f : A → B) (o : Option A) → is_some (option_map f o) ≡ is_some o
is_some_map f None = refl
is_some_map f (Some x) = refl

none_of : {A : Type 0} (o : Option A) → is_some o ≡ false → o ≡ None
none_of None e = refl
none_of (Some x) e = cc

module _ {C : Type 0} (uuid : List ℕ) (store : Store C) where
  pub not_resumed : is_some (unfinished_at uuid store) ≡ false → None ≡ resumed store uuid
  unfolding resumed
  not_resumed e = sym (ap (λ (o : Option (Entry (Subvolume C))). elim o as (λ x. Option (State C)) [ None ↦ None | Some e ↦ started store e ]) (none_of (unfinished_at uuid store) e))

  of_entry : (e : Entry (Subvolume C)) → code_heads.unfinished_at uuid store ≡ Some e → resumed store uuid ≡ started store e
  unfolding resumed
  of_entry e is = ap (λ (o : Option (Entry (Subvolume C))). elim o as (λ x. Option (State C)) [ None ↦ None | Some e ↦ started store e ]) (sym (same_entry uuid store) ∙ is)

  pub resumed_is : (o : Option (Entry (Subvolume C))) (part : Part C) → code_heads.unfinished_at uuid store ≡ o → IsTrue (is_some o) → IfSome o (λ e. Resumes (Ok part) e store)
      → Some (record { store = store; part = Some part }) ≡ resumed store uuid
  resumed_is None part is there r = cc
  resumed_is (Some e) part is there r =
      sym (of_entry e is
      ∙ ap (λ (x : Result (Subvolume C) Refusal). elim x as (λ x. Option (State C)) [ Err refusal ↦ None | Ok s ↦ Some (record { store = store; part = Some (record { key = e.key; subvolume = s }) }) ]) r.1
      ∙ (λ i. Some (record { store = store; part = Some (record { key = sym r.0 i; subvolume = part.subvolume }) })))

  pub resumed_none : (o : Option (Entry (Subvolume C))) (refusal : code.Refusal) → code_heads.unfinished_at uuid store ≡ o → IsTrue (is_some o) → IfSome o (λ e. Resumes {C = C} (Err (stop.Refused refusal)) e store)
      → None ≡ resumed store uuid
  resumed_none None refusal is there r = cc
  resumed_none (Some e) refusal is there r =
      sym (of_entry e is
      ∙ ap (λ (x : Result (Subvolume C) Refusal). elim x as (λ x. Option (State C)) [ Err refusal ↦ None | Ok s ↦ Some (record { store = store; part = Some (record { key = e.key; subvolume = s }) }) ]) r)

  -- ---- what is there

  some_entry : (o : Option (Entry (Subvolume C))) → IsTrue (is_some (elim o as (λ x. Option (State C)) [ None ↦ None | Some e ↦ started store e ])) → IsTrue (is_some o)
  some_entry None h = h
  some_entry (Some e) h = refl

  pub entry_there : IsTrue (is_some (resumed store uuid)) → IsTrue (is_some (code_heads.unfinished_at uuid store))
  unfolding resumed
  entry_there h = subst (λ (o : Option (Entry (Subvolume C))). IsTrue (is_some o)) (sym (same_entry uuid store)) (some_entry (unfinished_at uuid store) h)

  pub not_none : None ≡ resumed store uuid → IsTrue (is_some (resumed store uuid)) → ⊥
  not_none e h = false≢true (ap is_some e ∙ h)

-- the entry of a uuid has this uuid
found_uuid : {C : Type 0} (uuid : List ℕ) (store : Store C) (e : Entry (Subvolume C)) → unfinished_at uuid store ≡ Some e → e.key.uuid ≡ uuid
unfolding unfinished_at
found_uuid uuid [] e f = cc
found_uuid {C = C} uuid (x ∷ store) e f = one (is_unfinished uuid x) refl (found_uuid uuid store e) f
  where
    one : (b : Bool) → is_unfinished uuid x ≡ b → (unfinished_at uuid store ≡ Some e → e.key.uuid ≡ uuid) → (if b then Some x else unfinished_at uuid store) ≡ Some e → e.key.uuid ≡ uuid
    one true is more g = subst (λ (y : Entry (Subvolume C)). y.key.uuid ≡ uuid) (same_inside g) (bytes_eq_true x.key.uuid uuid (and_parts (bytes_eq x.key.uuid uuid) (is_none x.contents) is).0)
    one false is more g = more g

-- and so has the part that it is taken up again as, which is kept
module _ (uuid : List ℕ) (store : Store (Option Place)) where
  pub resumed_uuid : (o : Option (Entry (Subvolume (Option Place)))) (part : Part (Option Place)) → code_heads.unfinished_at uuid store ≡ o → IsTrue (is_some o) → IfSome o (λ e. Resumes (Ok part) e store) → part.key.uuid ≡ uuid
  resumed_uuid None part is there r = cc
  resumed_uuid (Some e) part is there r = ap (λ (k : Key). k.uuid) r.0 ∙ found_uuid uuid store e (sym (same_entry uuid store) ∙ is)

  pub resumed_kept : (end : ℕ) (o : Option (Entry (Subvolume (Option Place)))) (part : Part (Option Place)) → IsTrue (is_some o) → IfSome o (λ e. Resumes (Ok part) e store) → AreKept end store → IsKept end part.subvolume
  resumed_kept end None part there r all = cc
  resumed_kept end (Some e) part there r all = start_kept end store e.parent part.subvolume all r.1
