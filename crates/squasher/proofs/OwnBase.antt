-- A store without the subvolume that the first command of a file begins.
use Rattle.std.specs.Prelude.{◌≡◌, ℕ, Bool, true, false, ◌||◌, not, cond, List, [], ◌∷◌, map, Option, None, Some, Result, Ok, Err, option_map}
use Rattle.std.specs.List.{filter}
use Rattle.std.specs.Str.{bytes_eq}
use Rattle.std.proofs.Common.{refl, sym, ap, subst, ◌∙◌}
use Rattle.std.proofs.lemmas.Slice.Eq.{bytes_eq-Decides}
use Rattle.std.proofs.lemmas.Bool.{false≢true}
use Rattle.send_model.specs.Command.{Command}
use Rattle.send_model.specs.Store.{Head, Entry, Store, Part, head_of}
use Rattle.send_model.specs.Order.{heads_of, onto_heads}
use Rattle.send_model.specs.Outside.{is_among, store_without, keys_outside, FindsLawful}
use Rattle.send_model.specs.Cells.{recelled_entry, recelled_store, recelled_state}
use Rattle.send_model.specs.Overridden.{Override, command_as, head_as}
use Rattle.send_model.proofs.Overriding.{command_head}
use Rattle.sx_base.specs.declared.outcome.Outcome.{Outcome}
use Rattle.squash_model.specs.SquashDues.{own_uuids, squash_due}
use Rattle.squasher.specs.declared.judging.Judged.{Judged}
use Rattle.squash_log.specs.declared.change.Change.{Change}
use Rattle.squash_log.specs.Fates.{Fate}
use Rattle.squasher.specs.declared.judging.Passed.{Passed}
use Rattle.squasher.specs.Judging.{HaveSameShape, read_with, Sight, uuids_of, IsHidden}
use Rattle.squasher.specs.Squashing.{Stops, IsFound, JudgeOver, JudgeEnds}

-- ---- what is left out

-- Leaving out none is the store.
pub without_none : {S : Type 0} (store : List (Entry S)) → store_without [] store ≡ store
without_none [] = refl
without_none (e ∷ store) = ap (λ (s : List (Entry _)). e ∷ s) (without_none store)

turned : (a b : List ℕ) → bytes_eq a b ≡ (bytes_eq b a || false)
turned a b = one (bytes_eq a b) refl (bytes_eq b a) refl
  where
    one : (x : Bool) → bytes_eq a b ≡ x → (y : Bool) → bytes_eq b a ≡ y → x ≡ (y || false)
    one true e true f = refl
    one false e false f = refl
    one true e false f = absurd (false≢true (sym f ∙ (bytes_eq-Decides b a).1 (sym ((bytes_eq-Decides a b).0 e))))
    one false e true f = absurd (false≢true (sym e ∙ (bytes_eq-Decides a b).1 (sym ((bytes_eq-Decides b a).0 f))))

-- Leaving out one UUID.
pub without_one : {S : Type 0} (uuid : List ℕ) (store : List (Entry S)) → filter (λ e. not (bytes_eq e.key.uuid uuid)) store ≡ store_without (uuid ∷ []) store
without_one uuid store = λ i. filter (λ e. not (turned e.key.uuid uuid i)) store

-- The shape of what is left is what is left of the shape.
pub without_cells : {C D : Type 0} (f : C → D) (uuids : List (List ℕ)) (store : Store C) → recelled_store f (store_without uuids store) ≡ store_without uuids (recelled_store f store)
without_cells f uuids [] = refl
without_cells f uuids (e ∷ store) = one (is_among uuids e.key.uuid) (without_cells f uuids store)
  where
    one : (b : Bool) → recelled_store f (store_without uuids store) ≡ store_without uuids (recelled_store f store)
        → recelled_store f (cond (not b) (e ∷ store_without uuids store) (store_without uuids store)) ≡ cond (not b) (recelled_entry f e ∷ store_without uuids (recelled_store f store)) (store_without uuids (recelled_store f store))
    one true more = more
    one false more = ap (λ (s : Store _). recelled_entry f e ∷ s) more

pub same_shape : {C : Type 0} (uuids : List (List ℕ)) (core : Store C) (store : Store ℕ) → HaveSameShape core store → HaveSameShape (store_without uuids core) (store_without uuids store)
same_shape uuids core store same =
    without_cells (λ c. tt) uuids core ∙ ap (store_without uuids) same ∙ sym (without_cells (λ c. tt) uuids store)

-- ---- the first command

-- What is said in front of a file changes no UUID of a head.
pub named_uuids : (said : Override) (c : Command) → uuids_of (command_as said c) ≡ uuids_of c
unfolding heads_of
named_uuids said c =
    ap (λ (o : Option Head). map (λ (h : Head). h.key.uuid) (onto_heads o [])) (command_head said c) ∙ one (head_of c)
  where
    one : (o : Option Head) → map (λ (h : Head). h.key.uuid) (onto_heads (option_map (head_as said) o) []) ≡ map (λ (h : Head). h.key.uuid) (onto_heads o [])
    one None = refl
    one (Some head) = refl

uuids_are : (c : Command) (o : Option Head) → head_of c ≡ o → uuids_of c ≡ map (λ (h : Head). h.key.uuid) (onto_heads o [])
unfolding heads_of
uuids_are c o e = ap (λ (x : Option Head). map (λ (h : Head). h.key.uuid) (onto_heads x [])) e

abbrev pub without_in : List (List ℕ) → Sight → Sight
without_in uuids s = record s { state = record s.state { store = store_without uuids s.state.store } }

-- A command that is no head takes nothing out.
pub none_hidden : (c : Command) (now : Sight) → head_of c ≡ None → IsHidden (uuids_of c) now now []
none_hidden c now e = record {
  own_is = sym (uuids_are c None e);
  hidden = ap (λ (s : Store (Unit {0})). record now { state = record now.state { store = s } })
      (sym (without_none now.state.store) ∙ ap (λ (uuids : List (List ℕ)). store_without uuids now.state.store) (sym (uuids_are c None e)));
}

-- And a head its own subvolume.
pub one_hidden : {C : Type 0} (core left : Store C) (part : Option (Part C)) (log : List Change) (fates : Option (List Fate)) (passed : Passed) (now : Sight) (c : Command) (h : Head)
    → record { state = recelled_state (λ _. tt) (record { store = core; part = part }); log = log; fates = fates; passed = passed } ≡ now
    → head_of c ≡ Some h → left ≡ filter (λ e. not (bytes_eq e.key.uuid h.key.uuid)) core
    → IsHidden (uuids_of c) now (record { state = recelled_state (λ _. tt) (record { store = left; part = part }); log = log; fates = fates; passed = passed }) (h.key.uuid ∷ [])
one_hidden {C} core left part log fates passed now c h view is left_is = record {
  own_is = sym (uuids_are c (Some h) is);
  hidden = ap (λ (s : Store C). seen (recelled_store (λ _. tt) s)) (left_is ∙ without_one h.key.uuid core)
      ∙ ap seen (without_cells (λ _. tt) (h.key.uuid ∷ []) core)
      ∙ ap (λ (uuids : List (List ℕ)). without_in uuids (seen (recelled_store (λ _. tt) core))) (sym (uuids_are c (Some h) is))
      ∙ ap (without_in (uuids_of c)) view;
}
  where
    seen : Store (Unit {0}) → Sight
    seen s = record {
      state = record { store = s; part = (recelled_state {D = Unit {0}} (λ _. tt) (record { store = core; part = part })).part };
      log = log;
      fates = fates;
      passed = passed;
    }

-- ---- what is found out over it

-- What is found out without these UUIDs is found out over the base, if they are those of the first
-- command that was read.
pub over_own : {C : Type 0} (core : Store C) (own : List (List ℕ)) (said : Override) (file : ℕ) (r : Result Judged Outcome) (bytes : List ℕ) → own_uuids (read_with said file bytes).items ≡ own
    → JudgeOver (store_without own core) said file r bytes → JudgeEnds core said file r bytes
over_own core own said file (Ok found) bytes is over = λ store shape.
    subst (λ (uuids : List (List ℕ)). FindsLawful (store_without uuids store) (keys_outside (read_with said file bytes).items) → IsFound (store_without uuids store) (read_with said file bytes) found) (sym is)
    (over (store_without own store) (same_shape own core store shape))
over_own core own said file (Err outcome) bytes is over = λ store shape.
    subst (λ (uuids : List (List ℕ)). Stops (squash_due (store_without uuids store) (read_with said file bytes)) outcome) (sym is)
    (over (store_without own store) (same_shape own core store shape))
