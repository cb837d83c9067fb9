-- Heads that a catalogue admits begin, and those that it refuses do not.
use Rattle.std.proofs.Common.{◌≡◌, Bool, true, false, Option, Some, None, Result, Ok, Err, refl, sym, ap, ◌∙◌}
use Rattle.send_model.specs.Refusal.{Refusal, BadName, NameThere, UuidThere, NoParent}
use Rattle.send_model.specs.Chain.{◌>>=◌, ◌>>◌, require, refuse_if, found}
use Rattle.send_model.specs.Path.{is_name}
use Rattle.send_model.specs.Subvolume.{Subvolume}
use Rattle.send_model.specs.Store.{Key, Head, Store, has_name, has_uuid, begun, start_from, unfinished}
use Rattle.subvol_catalog.specs.Admission.{is_new, has_parent, admitted, Adds}
use Rattle.sx_base.specs.declared.stop.Stop.{Stop}
use Rattle.sx_base.specs.declared.stop.Stop.TheVariants as stop
use Rattle.sx_base.specs.Refusals.{refusal_of}
use Rattle.clone_resolve.specs.Heads.{Begins}

three_tests : {B : Type 0} (a b d : Bool) (rest : Result B Refusal)
    → (require a BadName >> (refuse_if b NameThere >> (refuse_if d UuidThere >> rest))) ≡ ((require a BadName >> (refuse_if b NameThere >> refuse_if d UuidThere)) >> rest)
three_tests false b d rest = refl
three_tests true true d rest = refl
three_tests true false true rest = refl
three_tests true false false rest = refl

-- A test, and what follows it: a value, or only that there is one.
module _ {A : Type 0} (start : Result A Refusal) where
  abbrev there : Result (Unit {0}) Refusal
  there = start >>= λ s. Ok tt

module _ {A : Type 0} where
  both_refused : (test : Result (Unit {0}) Refusal) (start : Result A Refusal) (refusal : Refusal) → (test >> there start) ≡ Err refusal → (test >> start) ≡ Err refusal
  both_refused (Err e) start refusal same = cc
  both_refused (Ok u) (Err e) refusal same = cc
  both_refused (Ok u) (Ok s) refusal same = cc

  both_passed : (test : Result (Unit {0}) Refusal) (start : Result A Refusal) (s : A) → (test >> there start) ≡ Ok tt → start ≡ Ok s → (test >> start) ≡ Ok s
  both_passed (Err e) start s same is = cc
  both_passed (Ok u) start s same is = is

  not_both : (test : Result (Unit {0}) Refusal) (start : Result A Refusal) (refusal : Refusal) → (test >> there start) ≡ Ok tt → start ≡ Err refusal → ⊥
  not_both (Err e) start refusal same is = cc
  not_both (Ok u) (Err e) refusal same is = cc
  not_both (Ok u) (Ok s) refusal same is = cc

module _ {C : Type 0} (store : Store C) where
  parent_there : (parent : Option Key) → has_parent store parent ≡ there (start_from store parent)
  unfolding has_parent
  parent_there None = refl
  parent_there (Some parent) = refl

module _ {C : Type 0} (store : Store C) (head : Head) where
  begun_is : begun store head ≡ (is_new store head.name head.key.uuid >> start_from store head.parent)
  unfolding begun is_new
  begun_is = three_tests (is_name head.name) (has_name head.name store) (has_uuid head.key.uuid store) (start_from store head.parent)

  admitted_is : admitted store head ≡ (is_new store head.name head.key.uuid >> there (start_from store head.parent))
  unfolding admitted
  admitted_is = ap (λ (r : Result (Unit {0}) Refusal). is_new store head.name head.key.uuid >> r) (parent_there store head.parent)

  refused : (refusal : Refusal) → admitted store head ≡ Err refusal → begun store head ≡ Err refusal
  refused refusal e = begun_is ∙ both_refused (is_new store head.name head.key.uuid) (start_from store head.parent) refusal (sym admitted_is ∙ e)

  pub begins : (start : Option (Subvolume C)) (s : Subvolume C) → admitted store head ≡ Ok tt → start_from store head.parent ≡ found start NoParent → start ≡ Some s → begun store head ≡ Ok s
  begins start s e from is = begun_is ∙ both_passed (is_new store head.name head.key.uuid) (start_from store head.parent) s (sym admitted_is ∙ e) (from ∙ ap (λ o. found o NoParent) is)

  pub has_start : (start : Option (Subvolume C)) → admitted store head ≡ Ok tt → start_from store head.parent ≡ found start NoParent → start ≡ None → ⊥
  has_start start e from is = not_both (is_new store head.name head.key.uuid) (start_from store head.parent) NoParent (sym admitted_is ∙ e) (from ∙ ap (λ o. found o NoParent) is)

  pub begin_stops : (why : Stop) (new : Store C) → Adds (Err why) (admitted store head) (unfinished head) store new → Begins (Err why) head store new
  begin_stops (stop.Refused refusal) new a = (refused (refusal_of refusal) a.0, a.1)
  begin_stops stop.NoMemory new a = a
