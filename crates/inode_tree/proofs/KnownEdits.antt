-- What is remembered of the last walks stays right through each edit.
use Rattle.std.specs.Prelude.{◌≡◌, ℕ, ◌<◌, Bool, true, false, cond, List, None, Some, Result, Ok, is_some, nat_le}
use Rattle.std.specs.Ordering.{nat_cmp}
use Rattle.std.specs.Cmp.{nat_cmp_total}
use Rattle.std.proofs.Common.{refl, sym, ap, subst, ◌∙◌, arith, inl, inr}
use Rattle.std.proofs.lemmas.Bool.{cases_eq, true≢false}
use Rattle.std.proofs.lemmas.Map.Lookups.{exact_unsigned}
use Rattle.send_model.specs.Refusal.{Refusal}
use Rattle.send_model.specs.Map.{Map, named_cmp, value_at, with_value, without}
use Rattle.send_model.specs.Subvolume.{Inode, Subvolume, Spot, is_directory_kind, passes_inode, inode_at, named, is_directory, name_count, walk, spot, IsSound}
use Rattle.send_model.specs.Edit.{make, at_spot, take_name, remove_name, remove_inode, move_name}
use Rattle.send_model.proofs.MapLaws.{with_value-here, with_value-other, without-other}
use Rattle.send_model.proofs.Sorts.{same_inside}
use Rattle.send_model.proofs.Soundness.{key, directory_by, directory_is_there, other_place, name_here, name_other, name_left}
use Rattle.send_model.proofs.SoundRenames.{taken_names}
use Rattle.inode_tree.specs.Places.{spot_of}
use Rattle.inode_tree.specs.Trees.{IsTree, IsWholeTree}
use Rattle.inode_tree.specs.Walked.{Walked, nothing, IsFront, IsKnown, IsRemembered, LearnsFront, without_name}
use Rattle.inode_tree.proofs.TreeLaws.{none_by}
use Rattle.inode_tree.proofs.Known.{Grows, GrowsBut, DirectoriesStay, growing_stays, plain_stays, known_grows, known_without, nothing_known, front_learnt, place_stays, walk_finds}

-- What an edit left: it keeps the tree, what is remembered still serves, and it is what the
-- definition says.
pub record Edited {C : Type 0} (t : Subvolume C) (f : Map ℕ ℕ) (last : Walked) (said : Result (Subvolume C) Refusal) : Type 0 where
  pub tree : IsTree t f
  pub known : IsKnown t last
  pub says : said ≡ Ok t

-- A new inode stands at a path.
pub record Made {C : Type 0} (S t : Subvolume C) (f : Map ℕ ℕ) (last : Walked) (path : List ℕ) (inode : Inode C) (ino : ℕ) : Type 0 where
  pub edited : Edited t f last (make inode path S)
  pub leads : walk t path ≡ Ok ino

module _ {C : Type 0} where
  pub remembered : (b : Bool) (s : Subvolume C) (last : Walked) → b ≡ true → IsRemembered b s last → IsKnown s last
  remembered true s last e h = h
  remembered false s last e h = absurd (true≢false (sym e))

  -- Nothing is remembered of a new tree.
  pub new_remembers : (b : Bool) (s : Subvolume C) (f : Map ℕ ℕ) (last : Walked) → last ≡ nothing → IsWholeTree b s f → IsRemembered b s last
  new_remembers true s f last e tree = subst (λ (w : Walked). IsKnown s w) (sym e) (nothing_known s tree.sound)
  new_remembers false s f last e tree = tt

  -- A front that was walked is remembered, in a tree that is whole or not.
  pub front_remembered : (b : Bool) (s S : Subvolume C) → s ≡ S → (f : Map ℕ ℕ) (old new : Walked) (front : List ℕ) (directory : ℕ) → IsWholeTree b s f × IsRemembered b s old → IsFront S front directory → LearnsFront old new front directory
      → IsWholeTree b s f × IsRemembered b s new
  front_remembered true s S view f old new front directory h is learns = (h.0, front_learnt s h.0.sound old new front directory (subst (λ (x : Subvolume C). IsFront x front directory) (sym view) is) h.1 learns)
  front_remembered false s S view f old new front directory h is learns = (tt, tt)

  module _ (s t : Subvolume C) where
    -- ---- names and inodes that come

    added_grows : (place : ℕ × List ℕ) (x : ℕ) → named s place.0 place.1 ≡ None → t.names ≡ with_value named_cmp place x s.names
        → ((ino : ℕ) → is_directory s ino ≡ true → is_directory t ino ≡ true) → Grows s t
    added_grows place x free names directories = record {
      steps = λ from name below step. (
        directories from step.0,
        name_other s t (spot_of place) x names from name (other_place s from name (spot_of place) None free (λ none. cc (sym step.1 ∙ none))) ∙ step.1,
      );
      directories = directories;
    }

    pub made_grows : IsSound s → (place : ℕ × List ℕ) (inode : Inode C) → named s place.0 place.1 ≡ None → t.inodes ≡ with_value nat_cmp s.next inode s.inodes → t.names ≡ with_value named_cmp place s.next s.names → Grows s t
    made_grows sound place inode free inodes names = added_grows place s.next free names (λ ino is.
        let below : ino < s.next = sound.below_next ino (directory_is_there s ino is) in
        let same : inode_at t ino ≡ inode_at s ino = ap (value_at nat_cmp ino) inodes ∙ with_value-other nat_cmp nat_cmp_total exact_unsigned ino s.next inode s.inodes (omega arith) in
        directory_by s t ino same ∙ is)

    pub linked_grows : (place : ℕ × List ℕ) (x : ℕ) → named s place.0 place.1 ≡ None → t.inodes ≡ s.inodes → t.names ≡ with_value named_cmp place x s.names → Grows s t
    linked_grows place x free inodes names = added_grows place x free names (λ ino is. directory_by s t ino (ap (value_at nat_cmp ino) inodes) ∙ is)

    -- An inode that changes and keeps its kind.
    pub changed_grows : (ino : ℕ) (old new : Inode C) → new.kind ≡ old.kind → value_at nat_cmp ino s.inodes ≡ Some old → t.inodes ≡ with_value nat_cmp ino new s.inodes → t.names ≡ s.names → Grows s t
    unfolding is_directory
    changed_grows ino old new kind there inodes names = record {
      steps = λ from name below step. (directories from step.0, ap (value_at named_cmp (from, name)) names ∙ step.1);
      directories = directories;
    }
      where
        here : inode_at t ino ≡ Some new
        here = ap (value_at nat_cmp ino) inodes ∙ with_value-here nat_cmp nat_cmp_total exact_unsigned ino new s.inodes

        same_here : is_directory t ino ≡ is_directory s ino
        same_here = ap (passes_inode (λ (inode : Inode C). is_directory_kind inode.kind)) here ∙ ap is_directory_kind kind ∙ sym (ap (passes_inode (λ (inode : Inode C). is_directory_kind inode.kind)) there)

        directories : (d : ℕ) → is_directory s d ≡ true → is_directory t d ≡ true
        directories d is = elim (cases_eq d ino) [
          | inl same ↦ subst (λ (i : ℕ). is_directory t i ≡ is_directory s i) (sym same) same_here ∙ is
          | inr differ ↦ directory_by s t d (ap (value_at nat_cmp d) inodes ∙ with_value-other nat_cmp nat_cmp_total exact_unsigned d ino new s.inodes differ) ∙ is
        ]

  -- ---- names that go and move

  -- A step to another inode than the one at a place does not go by that place.
  elsewhere : (s : Subvolume C) (place : Spot) (x : ℕ) → at_spot s place ≡ Some x → (from : ℕ) (name : List ℕ) (below : ℕ) → (below ≡ x → ⊥) → named s from name ≡ Some below → (from, name) ≡ key place → ⊥
  elsewhere s place x at from name below differ found = other_place s from name place (Some x) at (λ e. differ (same_inside (sym found ∙ e)))

  taken_inodes : (s : Subvolume C) (place : Spot) (x ino : ℕ) → (ino ≡ x → ⊥) → inode_at (take_name place x s) ino ≡ inode_at s ino
  unfolding take_name
  taken_inodes s place x ino n = one (nat_le (name_count s x) 1)
    where
      one : (b : Bool) → inode_at (cond b (remove_inode x (remove_name place s)) (remove_name place s)) ino ≡ inode_at s ino
      one true = without-other nat_cmp nat_cmp_total exact_unsigned ino x s.inodes n
      one false = refl

  taken_grows : (s : Subvolume C) (place : Spot) (x : ℕ) → at_spot s place ≡ Some x → GrowsBut s (take_name place x s) x
  taken_grows s place x at = record {
    steps = λ from name below m n step. (
      directory_by s (take_name place x s) from (taken_inodes s place x from m) ∙ step.0,
      name_left s (take_name place x s) place (taken_names place x s) from name (elsewhere s place x at from name below n step.1) ∙ step.1,
    );
    directories = λ directory differ is. directory_by s (take_name place x s) directory (taken_inodes s place x directory differ) ∙ is;
  }

  moved_grows : (s : Subvolume C) (from to : Spot) (x : ℕ) → at_spot s from ≡ Some x → at_spot s to ≡ None → GrowsBut s (move_name from to x s) x
  unfolding move_name
  moved_grows s from to x mine free = record {
    steps = λ d name below m n step.
        let left : Subvolume C = record { inodes = s.inodes; names = without named_cmp (from.directory, from.name) s.names; next = s.next } in
        let stays = name_left s left from refl d name (elsewhere s from x mine d name below n step.1) in
        let apart = other_place s d name to None free (λ none. cc (sym step.1 ∙ none)) in
        (directory_by s (move_name from to x s) d refl ∙ step.0, name_other left (move_name from to x s) to x refl d name apart ∙ stays ∙ step.1);
    directories = λ directory differ is. directory_by s (move_name from to x s) directory refl ∙ is;
  }

  -- A path leads to what moved to its place.
  pub moved_there : (s : Subvolume C) (path : List ℕ) (from to : Spot) (x : ℕ) → spot s path ≡ Ok to → at_spot s from ≡ Some x → at_spot s to ≡ None → is_directory s x ≡ false → walk (move_name from to x s) path ≡ Ok x
  unfolding move_name
  moved_there s path from to x at mine free plain =
      let t = move_name from to x s in
      let left : Subvolume C = record { inodes = s.inodes; names = without named_cmp (from.directory, from.name) s.names; next = s.next } in
      walk_finds t path to (place_stays s t (plain_stays s t x plain (moved_grows s from to x mine free)) path to at) x (name_here left t to x refl)

  -- A path leads to what was made at its place.
  pub made_there : (s t : Subvolume C) (path : List ℕ) (place : Spot) (x : ℕ) → Grows s t → spot s path ≡ Ok place → t.names ≡ with_value named_cmp (place.directory, place.name) x s.names → walk t path ≡ Ok x
  made_there s t path place x grows at names = walk_finds t path place (place_stays s t (growing_stays s t grows) path place at) x (name_here s t place x names)

  -- ---- as the code has them, for s the fields of the tree that contracts see as S

  module _ (s S : Subvolume C) (view : s ≡ S) (last : Walked) (known : IsKnown s last) where
    known_S : IsKnown S last
    known_S = subst (λ (x : Subvolume C). IsKnown x last) view known

    pub taken_known : (place : ℕ × List ℕ) (ino : ℕ) (directory : Bool) → named S place.0 place.1 ≡ Some ino → directory ≡ is_directory S ino
        → (t : Subvolume C) → t ≡ take_name (spot_of place) ino S → IsSound t → (new : Walked) → new ≡ without_name directory last → IsKnown t new
    taken_known place ino directory there kind t is sound new e =
        let stay : directory ≡ false → DirectoriesStay S (take_name (spot_of place) ino S) = λ plain. plain_stays S (take_name (spot_of place) ino S) ino (sym kind ∙ plain) (taken_grows S (spot_of place) ino there) in
        subst (λ (w : Walked). IsKnown t w) (sym e) (subst (λ (x : Subvolume C). IsKnown x (without_name directory last)) (sym is)
        (known_without (take_name (spot_of place) ino S) S directory stay (subst (λ (x : Subvolume C). IsSound x) is sound) last known_S))

    pub moved_known : (from to : ℕ × List ℕ) (moved : ℕ) (directory : Bool) → named S from.0 from.1 ≡ Some moved → named S to.0 to.1 ≡ None → directory ≡ is_directory S moved
        → (t : Subvolume C) → t ≡ move_name (spot_of from) (spot_of to) moved S → IsSound t → (new : Walked) → new ≡ without_name directory last → IsKnown t new
    moved_known from to moved directory mine free kind t is sound new e =
        let stay : directory ≡ false → DirectoriesStay S (move_name (spot_of from) (spot_of to) moved S) = λ plain. plain_stays S (move_name (spot_of from) (spot_of to) moved S) moved (sym kind ∙ plain) (moved_grows S (spot_of from) (spot_of to) moved mine free) in
        subst (λ (w : Walked). IsKnown t w) (sym e) (subst (λ (x : Subvolume C). IsKnown x (without_name directory last)) (sym is)
        (known_without (move_name (spot_of from) (spot_of to) moved S) S directory stay (subst (λ (x : Subvolume C). IsSound x) is sound) last known_S))

    pub made_known : IsSound s → (path : List ℕ) (place : ℕ × List ℕ) (inode : Inode C) → spot S path ≡ Ok (spot_of place) → is_some (named S place.0 place.1) ≡ false
        → (t : Subvolume C) → t.inodes ≡ with_value nat_cmp s.next inode s.inodes → t.names ≡ with_value named_cmp place s.next s.names → IsKnown t last × (walk t path ≡ Ok s.next)
    made_known sound path place inode at free t inodes names =
        let at_s = subst (λ (x : Subvolume C). spot x path ≡ Ok (spot_of place)) (sym view) at in
        let free_s = none_by _ (subst (λ (x : Subvolume C). is_some (named x place.0 place.1) ≡ false) (sym view) free) in
        let grows = made_grows s t sound place inode free_s inodes names in
        (known_grows s t grows last known, made_there s t path (spot_of place) s.next grows at_s names)

    pub linked_known : (place : ℕ × List ℕ) (ino : ℕ) → is_some (named S place.0 place.1) ≡ false → (t : Subvolume C) → t.inodes ≡ s.inodes → t.names ≡ with_value named_cmp place ino s.names → IsKnown t last
    linked_known place ino free t inodes names =
        let free_s = none_by _ (subst (λ (x : Subvolume C). is_some (named x place.0 place.1) ≡ false) (sym view) free) in
        known_grows s t (linked_grows s t place ino free_s inodes names) last known
