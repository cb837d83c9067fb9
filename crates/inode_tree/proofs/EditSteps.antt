-- What each edit says, from what its tests give.
use Rattle.std.specs.Prelude.{◌≡◌, ℕ, true, false, List, Option, None, Some, Ok, Err, is_some, is_none, ◌==◌}
use Rattle.std.proofs.Common.{refl, sym, ap, ◌∙◌}
use Rattle.std.proofs.lemmas.Bool.{true≢false}
use Rattle.send_model.specs.Refusal.{Refusal, BadPath, NoEntry, NotDirectory, EntryThere, IsDirectory, NotEmpty, NoNumber, BadXattr, NoXattr}
use Rattle.send_model.specs.Chain.{◌>>=◌, ◌>>◌, require, found}
use Rattle.send_model.specs.Path.{path_names}
use Rattle.send_model.specs.Map.{bytes_cmp, with_value, without}
use Rattle.send_model.specs.Subvolume.{Inode, Subvolume, Spot, walk, spot, is_directory, is_empty_directory}
use Rattle.send_model.specs.Edit.{make, link, unlink, rmdir, add_inode, add_name, take_name, at_spot, greatest_number, change_at, change_inode, set_xattr, remove_xattr, has_xattr, is_xattr_name}
use Rattle.inode_tree.proofs.Chains.{goes_on, stops, finds, misses, passes, fails, spares, refuses}

none_passes : {A : Type 0} (o : Option A) → is_some o ≡ false → is_none o ≡ true
none_passes None e = refl
none_passes (Some x) e = absurd (true≢false e)

some_fails : {A : Type 0} (o : Option A) → is_some o ≡ true → is_none o ≡ false
some_fails None e = absurd (true≢false (sym e))
some_fails (Some x) e = refl

module _ {C : Type 0} (s : Subvolume C) (path : List ℕ) where
  module _ (inode : Inode C) where
    pub make_nowhere : (refusal : Refusal) → spot s path ≡ Err refusal → make inode path s ≡ Err refusal
    unfolding make
    make_nowhere refusal e = stops (spot s path) _ refusal e

    pub make_there : (place : Spot) → spot s path ≡ Ok place → is_some (at_spot s place) ≡ true → make inode path s ≡ Err EntryThere
    unfolding make
    make_there place e there = goes_on (spot s path) _ place e ∙ fails (is_none (at_spot s place)) EntryThere _ (some_fails _ there)

    pub make_numberless : (place : Spot) → spot s path ≡ Ok place → is_some (at_spot s place) ≡ false → (s.next == greatest_number) ≡ true → make inode path s ≡ Err NoNumber
    unfolding make
    make_numberless place e free last =
        goes_on (spot s path) _ place e ∙ (passes (is_none (at_spot s place)) EntryThere _ (none_passes _ free) ∙ refuses (s.next == greatest_number) NoNumber _ last)

    pub make_made : (place : Spot) → spot s path ≡ Ok place → is_some (at_spot s place) ≡ false → (s.next == greatest_number) ≡ false → make inode path s ≡ Ok (add_inode place inode s)
    unfolding make
    make_made place e free more =
        goes_on (spot s path) _ place e ∙ (passes (is_none (at_spot s place)) EntryThere _ (none_passes _ free) ∙ spares (s.next == greatest_number) NoNumber _ more)

  -- ---- LINK

  module _ (existing : List ℕ) where
    pub link_bad : path_names path ≡ None → link path existing s ≡ Err BadPath
    unfolding link
    link_bad e = fails (is_some (path_names path)) BadPath _ (ap is_some e)

    module _ (names : List (List ℕ)) (good : path_names path ≡ Some names) where
      pub link_lost : (refusal : Refusal) → walk s existing ≡ Err refusal → link path existing s ≡ Err refusal
      unfolding link
      link_lost refusal e = passes (is_some (path_names path)) BadPath _ (ap is_some good) ∙ stops (walk s existing) _ refusal e

      module _ (ino : ℕ) (walked : walk s existing ≡ Ok ino) where
        pub link_directory : is_directory s ino ≡ true → link path existing s ≡ Err IsDirectory
        unfolding link
        link_directory d = passes (is_some (path_names path)) BadPath _ (ap is_some good) ∙ (goes_on (walk s existing) _ ino walked ∙ refuses (is_directory s ino) IsDirectory _ d)

        module _ (plain : is_directory s ino ≡ false) where
          pub link_nowhere : (refusal : Refusal) → spot s path ≡ Err refusal → link path existing s ≡ Err refusal
          unfolding link
          link_nowhere refusal e =
              passes (is_some (path_names path)) BadPath _ (ap is_some good) ∙ (goes_on (walk s existing) _ ino walked ∙ (spares (is_directory s ino) IsDirectory _ plain ∙ stops (spot s path) _ refusal e))

          pub link_there : (place : Spot) → spot s path ≡ Ok place → is_some (at_spot s place) ≡ true → link path existing s ≡ Err EntryThere
          unfolding link
          link_there place e there =
              passes (is_some (path_names path)) BadPath _ (ap is_some good) ∙ (goes_on (walk s existing) _ ino walked ∙ (spares (is_directory s ino) IsDirectory _ plain
              ∙ (goes_on (spot s path) _ place e ∙ fails (is_none (at_spot s place)) EntryThere _ (some_fails _ there))))

          pub link_made : (place : Spot) → spot s path ≡ Ok place → is_some (at_spot s place) ≡ false → link path existing s ≡ Ok (add_name place ino s)
          unfolding link
          link_made place e free =
              passes (is_some (path_names path)) BadPath _ (ap is_some good) ∙ (goes_on (walk s existing) _ ino walked ∙ (spares (is_directory s ino) IsDirectory _ plain
              ∙ (goes_on (spot s path) _ place e ∙ passes (is_none (at_spot s place)) EntryThere _ (none_passes _ free))))

  -- ---- UNLINK and RMDIR

  pub unlink_nowhere : (refusal : Refusal) → spot s path ≡ Err refusal → unlink path s ≡ Err refusal
  unfolding unlink
  unlink_nowhere refusal e = stops (spot s path) _ refusal e

  pub rmdir_nowhere : (refusal : Refusal) → spot s path ≡ Err refusal → rmdir path s ≡ Err refusal
  unfolding rmdir
  rmdir_nowhere refusal e = stops (spot s path) _ refusal e

  -- In a tree that is still the same once the place is found.
  module _ (t : Subvolume C) (same : t ≡ s) (place : Spot) (at : spot s path ≡ Ok place) where
    placed : rmdir path s ≡ (found (at_spot t place) NoEntry >>= λ ino. require (is_directory t ino) NotDirectory >> (require (is_empty_directory t ino) NotEmpty >> Ok (take_name place ino t)))
    unfolding rmdir
    placed = goes_on (spot s path) _ place at ∙ ap (λ (x : Subvolume C). found (at_spot x place) NoEntry >>= λ ino. require (is_directory x ino) NotDirectory >> (require (is_empty_directory x ino) NotEmpty >> Ok (take_name place ino x))) (sym same)

    pub rmdir_absent : at_spot t place ≡ None → rmdir path s ≡ Err NoEntry
    rmdir_absent e = placed ∙ misses (at_spot t place) NoEntry _ e

    module _ (ino : ℕ) (there : at_spot t place ≡ Some ino) where
      pub rmdir_plain : is_directory t ino ≡ false → rmdir path s ≡ Err NotDirectory
      rmdir_plain d = placed ∙ finds (at_spot t place) NoEntry _ ino there ∙ fails (is_directory t ino) NotDirectory _ d

      pub rmdir_full : is_directory t ino ≡ true → is_empty_directory t ino ≡ false → rmdir path s ≡ Err NotEmpty
      rmdir_full d full = placed ∙ finds (at_spot t place) NoEntry _ ino there ∙ passes (is_directory t ino) NotDirectory _ d ∙ fails (is_empty_directory t ino) NotEmpty _ full

      pub rmdir_made : is_directory t ino ≡ true → is_empty_directory t ino ≡ true → rmdir path s ≡ Ok (take_name place ino t)
      rmdir_made d empty = placed ∙ finds (at_spot t place) NoEntry _ ino there ∙ passes (is_directory t ino) NotDirectory _ d ∙ passes (is_empty_directory t ino) NotEmpty _ empty

  -- ---- changes of an inode

  module _ (change : Inode C → Inode C) where
    pub change_lost : (refusal : Refusal) → walk s path ≡ Err refusal → change_at path change s ≡ Err refusal
    unfolding change_at
    change_lost refusal e = stops (walk s path) _ refusal e

    pub change_made : (ino : ℕ) → walk s path ≡ Ok ino → change_at path change s ≡ Ok (change_inode ino change s)
    unfolding change_at
    change_made ino e = goes_on (walk s path) _ ino e

  module _ (name : List ℕ) where
    module _ (value : List ℕ) where
      pub set_xattr_lost : (refusal : Refusal) → walk s path ≡ Err refusal → set_xattr path name value s ≡ Err refusal
      unfolding set_xattr
      set_xattr_lost refusal e = stops (walk s path) _ refusal e

      pub set_xattr_bad : (ino : ℕ) → walk s path ≡ Ok ino → is_xattr_name name ≡ false → set_xattr path name value s ≡ Err BadXattr
      unfolding set_xattr
      set_xattr_bad ino e bad = goes_on (walk s path) _ ino e ∙ fails (is_xattr_name name) BadXattr _ bad

      pub set_xattr_made : (ino : ℕ) → walk s path ≡ Ok ino → is_xattr_name name ≡ true → set_xattr path name value s ≡ Ok (change_inode ino (λ inode. record inode { xattrs = with_value bytes_cmp name value inode.xattrs }) s)
      unfolding set_xattr
      set_xattr_made ino e good = goes_on (walk s path) _ ino e ∙ passes (is_xattr_name name) BadXattr _ good

    pub remove_xattr_lost : (refusal : Refusal) → walk s path ≡ Err refusal → remove_xattr path name s ≡ Err refusal
    unfolding remove_xattr
    remove_xattr_lost refusal e = stops (walk s path) _ refusal e

    module _ (ino : ℕ) (walked : walk s path ≡ Ok ino) where
      pub remove_xattr_bad : is_xattr_name name ≡ false → remove_xattr path name s ≡ Err BadXattr
      unfolding remove_xattr
      remove_xattr_bad bad = goes_on (walk s path) _ ino walked ∙ fails (is_xattr_name name) BadXattr _ bad

      pub remove_xattr_absent : is_xattr_name name ≡ true → has_xattr s ino name ≡ false → remove_xattr path name s ≡ Err NoXattr
      unfolding remove_xattr
      remove_xattr_absent good absent = goes_on (walk s path) _ ino walked ∙ (passes (is_xattr_name name) BadXattr _ good ∙ fails (has_xattr s ino name) NoXattr _ absent)

      pub remove_xattr_made : is_xattr_name name ≡ true → has_xattr s ino name ≡ true → remove_xattr path name s ≡ Ok (change_inode ino (λ inode. record inode { xattrs = without bytes_cmp name inode.xattrs }) s)
      unfolding remove_xattr
      remove_xattr_made good there = goes_on (walk s path) _ ino walked ∙ (passes (is_xattr_name name) BadXattr _ good ∙ passes (has_xattr s ino name) NoXattr _ there)
