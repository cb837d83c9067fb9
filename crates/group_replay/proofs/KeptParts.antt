-- Subvolumes that are kept stay so: what a part begins with, what an edit makes of it, and the
-- others beside it.
use Rattle.std.specs.Prelude.{◌≡◌, ℕ, zero, suc, ◌+◌, ◌≤◌, Bool, true, false, not, List, [], ◌∷◌, ◌++◌, map, Option, None, Some, Ok, IfSome, if◌then◌else◌}
use Rattle.std.specs.List.{AllByRecursion, filter, range_with_len}
use Rattle.std.specs.Str.{bytes_eq}
use Rattle.std.proofs.Common.{refl, subst, arith}
use Rattle.extent_map.specs.Pieces.{run_cells}
use Rattle.send_model.specs.Refusal.{NoParent}
use Rattle.send_model.specs.Chain.{found}
use Rattle.send_model.specs.Command.{Command, Clone}
use Rattle.send_model.specs.Spelling.{IsSpellable}
use Rattle.send_model.specs.Subvolume.{Subvolume, root_alone}
use Rattle.send_model.specs.Store.{Key, same_key, Head, Store, Part, State, find, start_from, begun, unfinished, with_contents, clone_source, edit_part}
use Rattle.send_model.proofs.Fuel.{ok_same}
use Rattle.send_model.proofs.Sorts.{same_inside}
use Rattle.send_model.proofs.Merging.{begun_begins}
use Rattle.send_model.proofs.Held.{edit_holds}
use Rattle.send_model.proofs.Redirected.{clone_command_holds}
use Rattle.send_model.proofs.Keeping.{all_filtered}
use Rattle.send_model.proofs.LawfulEdits.{edit_keeps_lawful, clone_keeps_lawful, root_alone_is_lawful}
use Rattle.send_model.proofs.ElementLaws.{all_both}
use Rattle.clone_resolve.proofs.TakenStates.{cells_weaker}
use Rattle.group_replay.specs.declared.place.Place.{Place}
use Rattle.group_replay.specs.Placing.{further}
use Rattle.group_replay.specs.Kept.{StandsBefore, IsKept, AreKept}
use Rattle.group_replay.proofs.SaidInodes.{alone_said, edit_said, clone_said}

abbrev Cell : Type 0
Cell = Option Place

-- ---- cells

-- The cells of a run stand before its end.
pub run_before : (place len end : ℕ) → place + len ≤ end → AllByRecursion (StandsBefore end) (run_cells further (record { at = place }) len)
unfolding run_cells
run_before place len end fits = from 0 len (omega (arith, fits))
  where
    from : (first count : ℕ) → place + (first + count) ≤ end → AllByRecursion (StandsBefore end) (map (λ k. Some (further (record { at = place }) k)) (range_with_len first count))
    from first zero h = tt
    from first (suc count) h = (omega (arith, h), from (first + 1) count (omega (arith, h)))

before_further : (end far : ℕ) → end ≤ far → (c : Cell) → StandsBefore end c → StandsBefore far c
before_further end far h None s = tt
before_further end far h (Some place) s = omega (arith, h, s)

-- ---- farther places

-- a state of a subvolume alone
abbrev alone : Subvolume Cell → State Cell
alone s = record { store = []; part = Some (record { key = record { uuid = []; ctransid = 0 }; subvolume = s }) }

module _ (end far : ℕ) (h : end ≤ far) where
  pub kept_further : (s : Subvolume Cell) → IsKept end s → IsKept far s
  kept_further s k = record { places = (cells_weaker (StandsBefore end) (StandsBefore far) (alone s) (before_further end far h) (record { complete = tt; part = k.places })).part; said = k.said; lawful = k.lawful }

  some_further : (o : Option (Subvolume Cell)) → IfSome o (IsKept end) → IfSome o (IsKept far)
  some_further None k = tt
  some_further (Some s) k = kept_further s k

  pub all_further : (core : Store Cell) → AreKept end core → AreKept far core
  all_further [] all = tt
  all_further (e ∷ core) all = (some_further e.contents all.0, all_further core all.1)

module _ (end : ℕ) where
  -- ---- what a part begins with

  found_kept : (core : Store Cell) (key : Key) (s : Subvolume Cell) → AreKept end core → find core key ≡ Some s → IsKept end s
  unfolding find
  found_kept [] key s all f = cc
  found_kept (e ∷ core) key s all f = one (same_key e.key key) e.contents all.0 (found_kept core key s all.1) f
    where
      one : (b : Bool) (o : Option (Subvolume Cell)) → IfSome o (IsKept end) → (find core key ≡ Some s → IsKept end s)
          → (if b then (elim o as (λ x. Option (Subvolume Cell)) [ None ↦ find core key | Some t ↦ Some t ]) else find core key) ≡ Some s → IsKept end s
      one true None k more g = more g
      one true (Some t) k more g = subst (λ (u : Subvolume Cell). IsKept end u) (same_inside g) k
      one false o k more g = more g

  root_kept : IsKept end root_alone
  unfolding root_alone
  root_kept = record { places = (root_alone, refl); said = alone_said Cell; lawful = root_alone_is_lawful }

  pub start_kept : (core : Store Cell) (parent : Option Key) (s : Subvolume Cell) → AreKept end core → start_from core parent ≡ Ok s → IsKept end s
  start_kept core None s all e = subst (λ (u : Subvolume Cell). IsKept end u) (ok_same e) root_kept
  start_kept core (Some key) s all e = one (find core key) refl e
    where
      one : (o : Option (Subvolume Cell)) → find core key ≡ o → found o NoParent ≡ Ok s → IsKept end s
      one None f g = cc
      one (Some t) f g = subst (λ (u : Subvolume Cell). IsKept end u) (ok_same g) (found_kept core key t all f)

  pub begun_kept : (core : Store Cell) (head : Head) (s : Subvolume Cell) → AreKept end core → begun core head ≡ Ok s → IsKept end s
  begun_kept core head s all b = start_kept core head.parent s all (begun_begins core head s b).from

  -- ---- the others

  pub unfinished_kept : (core : Store Cell) (head : Head) → AreKept end core → AreKept end (core ++ unfinished head ∷ [])
  unfinished_kept core head all = all_both (λ e. IfSome e.contents (IsKept end)) core (unfinished head ∷ []) all (tt, tt)

  pub completed_kept : (uuid : List ℕ) (s : Subvolume Cell) (core : Store Cell) → IsKept end s → AreKept end core → AreKept end (with_contents uuid s core)
  unfolding with_contents
  completed_kept uuid s [] k all = tt
  completed_kept uuid s (e ∷ core) k all = one (bytes_eq e.key.uuid uuid) (completed_kept uuid s core k all.1)
    where
      one : (b : Bool) → AreKept end (with_contents uuid s core) → AreKept end (if b then record e { contents = Some s } ∷ core else e ∷ with_contents uuid s core)
      one true more = (k, all.1)
      one false more = (all.0, more)

  pub dropped_kept : (name : List ℕ) (core : Store Cell) → AreKept end core → AreKept end (filter (λ e. not (bytes_eq e.name name)) core)
  dropped_kept name core all = all_filtered (λ e. IfSome e.contents (IsKept end)) _ core all

  -- ---- edits

  pub edit_kept : (version : ℕ) (put : List Cell) (core : Store Cell) (part : Part Cell) (c : Command) (s : Subvolume Cell) → IsSpellable version c → AllByRecursion (StandsBefore end) put → AreKept end core → IsKept end part.subvolume
      → edit_part None put core part c ≡ Ok s → IsKept end s
  unfolding edit_part
  edit_kept version put core part (Clone path offset uuid ctransid clone_path from len) s spells puts all own e = record {
    places = clone_command_holds (StandsBefore end) None tt put core part path offset uuid ctransid clone_path from len s own.places
        (λ other t f. (found_kept core (record { uuid = uuid; ctransid = ctransid }) t all f).places) e;
    said = clone_said None part.subvolume (clone_source core part (record { uuid = uuid; ctransid = ctransid })) (bytes_eq uuid part.key.uuid) path offset clone_path from len s own.said e;
    lawful = clone_keeps_lawful None (clone_source core part (record { uuid = uuid; ctransid = ctransid })) (bytes_eq uuid part.key.uuid) path offset clone_path from len part.subvolume s own.lawful e;
  }
  edit_kept version put core part c s spells puts all own e = record {
    places = edit_holds (StandsBefore end) None put c part.subvolume s tt puts own.places e;
    said = edit_said version None put c part.subvolume s spells own.said e;
    lawful = edit_keeps_lawful None put c part.subvolume s own.lawful e;
  }
