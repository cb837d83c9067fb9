-- What RENAME says, from what its tests give.
use Rattle.std.specs.Prelude.{◌≡◌, ℕ, ◌-◌, Bool, true, false, ◌&&◌, ◌||◌, List, [], ◌∷◌, Option, None, Some, Result, Ok, Err, ◌==◌, if◌then◌else◌}
use Rattle.std.proofs.Common.{refl, sym, ap, subst, ◌∙◌}
use Rattle.std.specs.List.{list_any}
use Rattle.send_model.specs.Refusal.{Refusal, NoEntry, IntoItself}
use Rattle.send_model.specs.Chain.{◌>>◌, refuse_if}
use Rattle.send_model.specs.Command.{Rename}
use Rattle.send_model.specs.Path.{path_names}
use Rattle.send_model.specs.Map.{Map, named_cmp, value_at, with_value, without}
use Rattle.send_model.specs.Subvolume.{Subvolume, Spot, root, spot, named, is_directory, all_but_last, inodes_on_way, name_count, IsSound}
use Rattle.send_model.specs.Edit.{rename, rename_onto, can_replace, lies_below, move_name, take_name, at_spot, edit}
use Rattle.send_model.proofs.MapLaws.{named_cmp_total, named_cmp_exact, without-here, without-other, count-with_value, count-without}
use Rattle.send_model.proofs.SoundRenames.{edit_keeps_sound, taken_names}
use Rattle.inode_tree.proofs.Chains.{goes_on, stops, finds, misses, spares, refuses}
use Rattle.inode_tree.specs.Places.{spot_of}
use Rattle.inode_tree.specs.Trees.{IsTree, IsWholeTree}
use Rattle.inode_tree.proofs.TreeLaws.{whole_is, Became}
use Rattle.send_model.proofs.Sorts.{same_inside}

module _ {C : Type 0} (s : Subvolume C) (path path_to : List ℕ) where
  pub rename_nowhere : (refusal : Refusal) → spot s path ≡ Err refusal → rename path path_to s ≡ Err refusal
  unfolding rename
  rename_nowhere refusal e = stops (spot s path) _ refusal e

  module _ (from : Spot) (at : spot s path ≡ Ok from) where
    pub rename_absent : at_spot s from ≡ None → rename path path_to s ≡ Err NoEntry
    unfolding rename
    rename_absent e = goes_on (spot s path) _ from at ∙ misses (at_spot s from) NoEntry _ e

    module _ (moved : ℕ) (mine : at_spot s from ≡ Some moved) where
      pub rename_lost : (refusal : Refusal) → spot s path_to ≡ Err refusal → rename path path_to s ≡ Err refusal
      unfolding rename
      rename_lost refusal e = goes_on (spot s path) _ from at ∙ (finds (at_spot s from) NoEntry _ moved mine ∙ stops (spot s path_to) _ refusal e)

-- Both places of a rename were found and a name stands at the first, in a tree that is still the
-- one the rename began with.
pub record AreFound {C : Type 0} (first s : Subvolume C) (path path_to : List ℕ) (from to : Spot) (moved : ℕ) : Type 0 where
  pub same : s ≡ first
  pub at : spot s path ≡ Ok from
  pub mine : at_spot s from ≡ Some moved
  pub at_to : spot s path_to ≡ Ok to

-- So it is where the first place was found in the tree before the second one.
pub both_found : {C : Type 0} (first before s : Subvolume C) (path path_to : List ℕ) (from to : Spot) (moved : ℕ) → before ≡ first → s ≡ before → spot first path ≡ Ok from → at_spot before from ≡ Some moved → spot before path_to ≡ Ok to
    → AreFound first s path path_to from to moved
both_found {C} first before s path path_to from to moved same later at mine at_to = record {
  same = later ∙ same;
  at = subst (λ (x : Subvolume C). spot x path ≡ Ok from) (sym (later ∙ same)) at;
  mine = subst (λ (x : Subvolume C). at_spot x from ≡ Some moved) (sym later) mine;
  at_to = subst (λ (x : Subvolume C). spot x path_to ≡ Ok to) (sym later) at_to;
}

-- And in a tree that nothing has changed since.
pub still_found : {C : Type 0} (first s t : Subvolume C) (path path_to : List ℕ) (from to : Spot) (moved : ℕ) → t ≡ s → AreFound first s path path_to from to moved → AreFound first t path path_to from to moved
still_found {C} first s t path path_to from to moved stays f = subst (λ (x : Subvolume C). AreFound first x path path_to from to moved) (sym stays) f

-- Another inode stands at the second place, which is not on its own way.
pub record GivesWay {C : Type 0} (first s : Subvolume C) (path path_to : List ℕ) (from to : Spot) (moved there : ℕ) : Type 0 where
  pub found : AreFound first s path path_to from to moved
  pub stands : at_spot s to ≡ Some there
  pub differ : (there == moved) ≡ false
  pub outside : (is_directory s moved && lies_below s moved path_to) ≡ false

module _ {C : Type 0} {first s : Subvolume C} {path path_to : List ℕ} {from to : Spot} {moved : ℕ} where
  module _ (f : AreFound first s path path_to from to moved) where
    onto : (o : Option ℕ) → at_spot s to ≡ o → rename path path_to first ≡ rename_onto from to path_to moved o s
    unfolding rename
    onto o e =
        ap (rename path path_to) (sym f.same) ∙ goes_on (spot s path) _ from f.at ∙ (finds (at_spot s from) NoEntry _ moved f.mine ∙ (goes_on (spot s path_to) _ to f.at_to ∙ ap (λ (x : Option ℕ). rename_onto from to path_to moved x s) e))

    pub rename_into : at_spot s to ≡ None → (is_directory s moved && lies_below s moved path_to) ≡ true → rename path path_to first ≡ Err IntoItself
    unfolding rename_onto
    rename_into free into = onto None free ∙ refuses (is_directory s moved && lies_below s moved path_to) IntoItself _ into

    pub rename_moved : at_spot s to ≡ None → (is_directory s moved && lies_below s moved path_to) ≡ false → rename path path_to first ≡ Ok (move_name from to moved s)
    unfolding rename_onto
    rename_moved free outside = onto None free ∙ spares (is_directory s moved && lies_below s moved path_to) IntoItself _ outside

    module _ (there : ℕ) (stands : at_spot s to ≡ Some there) where
      pub rename_same : (there == moved) ≡ true → rename path path_to first ≡ Ok s
      unfolding rename_onto
      rename_same same = onto (Some there) stands ∙ ap (λ (b : Bool). if b then Ok s else (refuse_if (is_directory s moved && lies_below s moved path_to) IntoItself >> (can_replace s moved there >> Ok (move_name from to moved (take_name to there s))))) same

      onto_other : (there == moved) ≡ false → rename path path_to first ≡ (refuse_if (is_directory s moved && lies_below s moved path_to) IntoItself >> (can_replace s moved there >> Ok (move_name from to moved (take_name to there s))))
      unfolding rename_onto
      onto_other differ =
          onto (Some there) stands ∙ ap (λ (b : Bool). if b then Ok s else (refuse_if (is_directory s moved && lies_below s moved path_to) IntoItself >> (can_replace s moved there >> Ok (move_name from to moved (take_name to there s))))) differ

      pub rename_into_other : (there == moved) ≡ false → (is_directory s moved && lies_below s moved path_to) ≡ true → rename path path_to first ≡ Err IntoItself
      rename_into_other differ into = onto_other differ ∙ refuses (is_directory s moved && lies_below s moved path_to) IntoItself _ into

  module _ (there : ℕ) (w : GivesWay first s path path_to from to moved there) where
    onto_outside : rename path path_to first ≡ (can_replace s moved there >> Ok (move_name from to moved (take_name to there s)))
    onto_outside = onto_other w.found there w.stands w.differ ∙ spares (is_directory s moved && lies_below s moved path_to) IntoItself _ w.outside

    pub rename_refused : (refusal : Refusal) → can_replace s moved there ≡ Err refusal → rename path path_to first ≡ Err refusal
    rename_refused refusal e = onto_outside ∙ ap (λ (x : Result (Unit {0}) Refusal). x >> Ok (move_name from to moved (take_name to there s))) e

    pub rename_replaced : can_replace s moved there ≡ Ok tt → rename path path_to first ≡ Ok (move_name from to moved (take_name to there s))
    rename_replaced e = onto_outside ∙ ap (λ (x : Result (Unit {0}) Refusal). x >> Ok (move_name from to moved (take_name to there s))) e

-- What RENAME makes of a sound subvolume is sound.
pub rename_keeps_sound : {C : Type 0} → C → (path path_to : List ℕ) (s t : Subvolume C) → IsSound s → rename path path_to s ≡ Ok t → IsSound t
unfolding edit
rename_keeps_sound zero_cell path path_to s t h e = edit_keeps_sound zero_cell [] (Rename path path_to) s t h e

module _ {C : Type 0} (s : Subvolume C) where
  -- ---- the way to a place

  abbrev pub passes_on : ℕ → ℕ → List (List ℕ) → Bool
  passes_on ino directory names = list_any (λ i. i == ino) (inodes_on_way s directory (all_but_last names))

  pub below_none : (ino : ℕ) (path : List ℕ) → path_names path ≡ None → lies_below s ino path ≡ false
  unfolding lies_below
  below_none ino path e = ap (λ (o : Option (List (List ℕ))). elim o as (λ y. Bool) [ None ↦ false | Some names ↦ passes_on ino root names ]) e

  pub below_begins : (ino : ℕ) (path : List ℕ) (names : List (List ℕ)) → path_names path ≡ Some names → lies_below s ino path ≡ passes_on ino root names
  unfolding lies_below
  below_begins ino path names e = ap (λ (o : Option (List (List ℕ))). elim o as (λ y. Bool) [ None ↦ false | Some ns ↦ passes_on ino root ns ]) e

  or_false : (b : Bool) → (b || false) ≡ b
  or_false true = refl
  or_false false = refl

  pub pass_ends : (ino directory : ℕ) (name : List ℕ) → passes_on ino directory (name ∷ []) ≡ (directory == ino)
  unfolding inodes_on_way
  pass_ends ino directory name = or_false (directory == ino)

  pub pass_root : (ino : ℕ) → passes_on ino root [] ≡ (root == ino)
  unfolding inodes_on_way
  pass_root ino = or_false (root == ino)

  by_way : (ino directory : ℕ) (rest : List (List ℕ)) (o : Option ℕ) → list_any (λ i. i == ino) (elim o as (λ y. List ℕ) [ None ↦ directory ∷ [] | Some below ↦ directory ∷ inodes_on_way s below rest ]) ≡ ((directory == ino) || (elim o as (λ y. Bool) [ None ↦ false | Some below ↦ list_any (λ i. i == ino) (inodes_on_way s below rest) ]))
  by_way ino directory rest None = refl
  by_way ino directory rest (Some below) = refl

  pass_step : (ino directory : ℕ) (name further : List ℕ) (rest : List (List ℕ)) → passes_on ino directory (name ∷ further ∷ rest) ≡ ((directory == ino) || (elim (named s directory name) as (λ y. Bool) [ None ↦ false | Some below ↦ passes_on ino below (further ∷ rest) ]))
  unfolding inodes_on_way
  pass_step ino directory name further rest = by_way ino directory (all_but_last (further ∷ rest)) (named s directory name)

  pub pass_there : (ino directory : ℕ) (name further : List ℕ) (rest : List (List ℕ)) → (directory == ino) ≡ true → passes_on ino directory (name ∷ further ∷ rest) ≡ true
  pass_there ino directory name further rest e = pass_step ino directory name further rest ∙ ap (λ (b : Bool). b || (elim (named s directory name) as (λ y. Bool) [ None ↦ false | Some below ↦ passes_on ino below (further ∷ rest) ])) e

  pub pass_lost : (ino directory : ℕ) (name further : List ℕ) (rest : List (List ℕ)) → (directory == ino) ≡ false → named s directory name ≡ None → passes_on ino directory (name ∷ further ∷ rest) ≡ false
  pass_lost ino directory name further rest e n = pass_step ino directory name further rest
      ∙ ap (λ (b : Bool). b || (elim (named s directory name) as (λ y. Bool) [ None ↦ false | Some below ↦ passes_on ino below (further ∷ rest) ])) e
      ∙ ap (λ (o : Option ℕ). elim o as (λ y. Bool) [ None ↦ false | Some below ↦ passes_on ino below (further ∷ rest) ]) n

  pub pass_goes_on : (ino directory : ℕ) (name further : List ℕ) (rest : List (List ℕ)) (below : ℕ) → (directory == ino) ≡ false → named s directory name ≡ Some below → passes_on ino directory (name ∷ further ∷ rest) ≡ passes_on ino below (further ∷ rest)
  pass_goes_on ino directory name further rest below e n = pass_step ino directory name further rest
      ∙ ap (λ (b : Bool). b || (elim (named s directory name) as (λ y. Bool) [ None ↦ false | Some below ↦ passes_on ino below (further ∷ rest) ])) e
      ∙ ap (λ (o : Option ℕ). elim o as (λ y. Bool) [ None ↦ false | Some below ↦ passes_on ino below (further ∷ rest) ]) n

  -- ---- the name that moves

  pub free_after : (from to : Spot) (moved : ℕ) → at_spot s from ≡ Some moved → at_spot s to ≡ None → value_at named_cmp (to.directory, to.name) (without named_cmp (from.directory, from.name) s.names) ≡ None
  free_after from to moved there free =
      without-other named_cmp named_cmp_total named_cmp_exact (to.directory, to.name) (from.directory, from.name) s.names
      (λ same. let e : at_spot s to ≡ Some moved = ap (λ (k : ℕ × List ℕ). value_at named_cmp k s.names) same ∙ there in cc) ∙ free

  module _ (f : Map ℕ ℕ) (tree : IsTree s f) (from to : Spot) (moved : ℕ) (there : at_spot s from ≡ Some moved) (free : at_spot s to ≡ None) where
    same_counts : (v : ℕ) → name_count (move_name from to moved s) v ≡ name_count s v
    unfolding move_name name_count
    same_counts v =
        count-with_value named_cmp named_cmp_total named_cmp_exact v (to.directory, to.name) moved (without named_cmp (from.directory, from.name) s.names) (free_after from to moved there free)
        ∙ count-without named_cmp named_cmp_total named_cmp_exact v (from.directory, from.name) moved s.names tree.sound.names_in_order there

    pub moved_tree : IsSound (move_name from to moved s) → IsTree (move_name from to moved s) f
    moved_tree sound = record { sound = sound; counted = λ v. tree.counted v ∙ ap (λ (n : ℕ). n - 1) (sym (same_counts v)) }

-- ---- as the code has them

module _ {C : Type 0} where
  -- Another name stays where one is taken away; and that one is gone.
  pub stays_named : (s : Subvolume C) (from to : Spot) (moved there : ℕ) → at_spot s from ≡ Some moved → at_spot s to ≡ Some there → (there ≡ moved → ⊥) → at_spot (take_name to there s) from ≡ Some moved
  stays_named s from to moved there mine stands differ =
      ap (λ (m : Map (ℕ × List ℕ) ℕ). value_at named_cmp (from.directory, from.name) m) (taken_names to there s)
      ∙ without-other named_cmp named_cmp_total named_cmp_exact (from.directory, from.name) (to.directory, to.name) s.names
      (λ same. let e : at_spot s to ≡ Some moved = ap (λ (k : ℕ × List ℕ). value_at named_cmp k s.names) (sym same) ∙ mine in differ (same_inside (sym stands ∙ e)))
      ∙ mine

  pub place_freed : (s : Subvolume C) (to : Spot) (there : ℕ) → at_spot (take_name to there s) to ≡ None
  place_freed s to there =
      ap (λ (m : Map (ℕ × List ℕ) ℕ). value_at named_cmp (to.directory, to.name) m) (taken_names to there s)
      ∙ without-here named_cmp named_cmp_total named_cmp_exact (to.directory, to.name) s.names

  pub sound_of : (s S : Subvolume C) → s ≡ S → (b : Bool) (f : Map ℕ ℕ) → b ≡ true → IsWholeTree b s f → IsSound S
  sound_of s S view b f whole h = subst (λ (x : Subvolume C). IsSound x) view (whole_is b s f whole h).sound

  pub moved_whole : (s S : Subvolume C) → s ≡ S → (f : Map ℕ ℕ) → IsTree s f → (from to : ℕ × List ℕ) (moved : ℕ) → named S from.0 from.1 ≡ Some moved → named S to.0 to.1 ≡ None
      → IsSound (move_name (spot_of from) (spot_of to) moved S) → (t : Subvolume C) → t.inodes ≡ s.inodes → t.names ≡ with_value named_cmp to moved (without named_cmp from s.names) → t.next ≡ s.next
      → Became t f (move_name (spot_of from) (spot_of to) moved S)
  unfolding move_name
  moved_whole s S view f tree from to moved there free sound t a b c =
      let same : move_name (spot_of from) (spot_of to) moved s ≡ t = λ i. record { inodes = sym a i; names = sym b i; next = sym c i } in
      let there_s = subst (λ (x : Subvolume C). named x from.0 from.1 ≡ Some moved) (sym view) there in
      let free_s = subst (λ (x : Subvolume C). named x to.0 to.1 ≡ None) (sym view) free in
      let sound_s = subst (λ (x : Subvolume C). IsSound (move_name (spot_of from) (spot_of to) moved x)) (sym view) sound in
      record {
        tree = subst (λ (x : Subvolume C). IsTree x f) same (moved_tree s f tree (spot_of from) (spot_of to) moved there_s free_s sound_s);
        is = sym same ∙ ap (move_name (spot_of from) (spot_of to) moved) view;
      }
