-- Inodes that are known to be there, so that an edit finds them.
use Rattle.std.specs.Prelude.{◌≡◌, ℕ, Bool, true, false, List, Option, None, Some, Ok, IsTrue, is_some}
use Rattle.std.specs.Ordering.{nat_cmp}
use Rattle.std.proofs.Common.{refl, sym, ap, subst, ◌∙◌}
use Rattle.std.proofs.lemmas.Bool.{true≢false}
use Rattle.send_model.specs.Map.{Map, named_cmp, value_at}
use Rattle.send_model.specs.Subvolume.{Inode, Subvolume, is_file_kind, passes_inode, inode_at, is_file, walk, IsSound}
use Rattle.send_model.proofs.SoundEdits.{walk_there}
use Rattle.shared_map.specs.Edited.{IsEdited}

-- An edit does not miss a value that is there.
pub never_missed : {K W E : Type 0} (become : W → W) (left : W → E) (was : Option W) (put : W → Map K W) (old new : Map K W) (before after : E) (there : Bool) → IsTrue (is_some was) → IsEdited (λ value. (become value, left value)) was put (old, before) (new, after) there → there ≡ false → ⊥
never_missed become left None put old new before after there some edited missed = true≢false (sym some)
never_missed become left (Some value) put old new before after there some edited missed = true≢false (sym edited.0 ∙ missed)

module _ {C : Type 0} where
  passed_there : (test : Inode C → Bool) (o : Option (Inode C)) → passes_inode test o ≡ true → IsTrue (is_some o)
  passed_there test None e = absurd (true≢false (sym e))
  passed_there test (Some inode) e = refl

  file_there : (s : Subvolume C) (ino : ℕ) → is_file s ino ≡ true → IsTrue (is_some (inode_at s ino))
  unfolding is_file
  file_there s ino e = passed_there (λ (inode : Inode C). is_file_kind inode.kind) (inode_at s ino) e

  -- A walk in a sound tree leads to an inode, where the tree is still the one that was walked.
  pub still_there : (s S : Subvolume C) → s ≡ S → (path : List ℕ) (ino : ℕ) → walk S path ≡ Ok ino → IsSound s → IsTrue (is_some (inode_at s ino))
  still_there s S same path ino walked sound = walk_there s path ino sound (subst (λ (x : Subvolume C). walk x path ≡ Ok ino) (sym same) walked)

  -- For s the fields of the tree that contracts see as S.
  module _ (s S : Subvolume C) (view : s ≡ S) (ino : ℕ) where
    pub there_inside : IsTrue (is_some (inode_at S ino)) → IsTrue (is_some (value_at nat_cmp ino s.inodes))
    there_inside is = subst (λ (x : Subvolume C). IsTrue (is_some (inode_at x ino))) (sym view) is

    pub file_inside : is_file S ino ≡ true → IsTrue (is_some (value_at nat_cmp ino s.inodes))
    file_inside e = there_inside (file_there S ino e)

  -- A name in a sound tree leads to an inode.
  pub never_lost : (s : Subvolume C) → IsSound s → (place : ℕ × List ℕ) (ino : ℕ) → value_at named_cmp place s.names ≡ Some ino → value_at nat_cmp ino s.inodes ≡ None → ⊥
  never_lost s sound place ino there none = true≢false (sym (sound.leads_somewhere place.0 place.1 ino there) ∙ ap (λ (o : Option (Inode C)). is_some o) none)
