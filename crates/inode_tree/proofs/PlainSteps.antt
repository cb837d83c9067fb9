-- A name that is taken from its place before it is known what it leads to.
use Rattle.std.specs.Prelude.{◌≡◌, ℕ, ◌-◌, ◌<◌, Bool, true, false, List, None, Some, Result, Ok, Err}
use Rattle.std.specs.Ordering.{nat_cmp}
use Rattle.std.specs.Cmp.{nat_cmp_total}
use Rattle.std.proofs.Common.{refl, sym, ap, subst, ◌∙◌, arith}
use Rattle.std.proofs.lemmas.Bool.{true≢false}
use Rattle.std.proofs.lemmas.Map.Lookups.{exact_unsigned}
use Rattle.send_model.specs.Refusal.{Refusal, NoEntry, IsDirectory}
use Rattle.send_model.specs.Map.{Map, named_cmp, value_at, with_value, without}
use Rattle.send_model.specs.Subvolume.{Inode, Subvolume, Spot, is_directory_kind, passes_inode, inode_at, named, is_directory, spot}
use Rattle.send_model.specs.Edit.{unlink, take_name, at_spot}
use Rattle.send_model.proofs.MapLaws.{named_cmp_total, named_cmp_exact}
use Rattle.sx_base.specs.declared.stop.Stop.{Stop}
use Rattle.sx_base.specs.Answers.{MayChange}
use Rattle.inode_tree.specs.Places.{spot_of, unlink_at}
use Rattle.inode_tree.specs.Trees.{further_names, IsTree}
use Rattle.inode_tree.specs.Walked.{Walked, IsKnown, without_name}
use Rattle.inode_tree.proofs.Chains.{goes_on, finds, misses, spares, refuses}
use Rattle.inode_tree.proofs.TreeLaws.{Became, last_whole, one_whole}
use Rattle.inode_tree.proofs.KnownEdits.{Edited, taken_known}
use Rattle.inode_tree.proofs.FreePlaces.{put_back, none_taken, same_fields, stands_in}

module _ {C : Type 0} where
  -- UNLINK of a path is that of its place.
  pub unlink_placed : {A : Type 0} (result : Result A Stop) (s S : Subvolume C) → s ≡ S → (t : Subvolume C) (path : List ℕ) (place : Spot) → spot S path ≡ Ok place
      → MayChange result s t (unlink_at place s) → MayChange result S t (unlink path S)
  unfolding unlink
  unlink_placed result s S same t path place at changes =
      subst (λ (said : Result (Subvolume C) Refusal). MayChange result S t said) (sym (goes_on (spot S path) (λ p. unlink_at p S) place at)) (subst (λ (x : Subvolume C). MayChange result x t (unlink_at place x)) same changes)

  kind_tells : (s : Subvolume C) (ino : ℕ) (inode : Inode C) → inode_at s ino ≡ Some inode → is_directory s ino ≡ is_directory_kind inode.kind
  unfolding is_directory
  kind_tells s ino inode e = ap (passes_inode (λ (i : Inode C). is_directory_kind i.kind)) e

  -- What a refusal left is the tree as it was.
  pub record Stayed (S t : Subvolume C) (f : Map ℕ ℕ) (last : Walked) (said : Result (Subvolume C) Refusal) (refusal : Refusal) : Type 0 where
    pub tree : IsTree t f
    pub known : IsKnown t last
    pub says : (said ≡ Err refusal) × (t ≡ S)

  -- For s the fields of the tree that contracts see as S.
  module _ (s S : Subvolume C) (view : s ≡ S) (f : Map ℕ ℕ) (last : Walked) (tree : IsTree s f) (known : IsKnown s last) where
    stayed : (t : Subvolume C) → t ≡ s → (said : Result (Subvolume C) Refusal) (refusal : Refusal) → said ≡ Err refusal → Stayed S t f last said refusal
    stayed t same said refusal e = record {
      tree = subst (λ (x : Subvolume C). IsTree x f) (sym same) tree;
      known = subst (λ (x : Subvolume C). IsKnown x last) (sym same) known;
      says = (e, same ∙ view);
    }

    plain_leaf : (ino : ℕ) → is_directory s ino ≡ false → (name : List ℕ) (below : ℕ) → named S ino name ≡ Some below → ⊥
    plain_leaf ino plain name below there =
        let there_s = subst (λ (x : Subvolume C). named x ino name ≡ Some below) (sym view) there in
        true≢false (sym (tree.sound.in_directory ino name below there_s) ∙ plain)

    module _ (place : ℕ × List ℕ) where
      pub nothing_there : value_at named_cmp place s.names ≡ None → (t : Subvolume C) → t.inodes ≡ s.inodes → t.names ≡ without named_cmp place s.names → t.next ≡ s.next
          → Stayed S t f last (unlink_at (spot_of place) S) NoEntry
      nothing_there none t a b c =
          stayed t (same_fields s t a (b ∙ none_taken named_cmp named_cmp_total named_cmp_exact place s.names tree.sound.names_in_order none) c) (unlink_at (spot_of place) S) NoEntry
          (misses (at_spot S (spot_of place)) NoEntry _ (stands_in s S view place None none))

      module _ (ino : ℕ) (there : value_at named_cmp place s.names ≡ Some ino) where
        there_S : at_spot S (spot_of place) ≡ Some ino
        there_S = stands_in s S view place (Some ino) there

        said_taken : is_directory s ino ≡ false → unlink_at (spot_of place) S ≡ Ok (take_name (spot_of place) ino S)
        said_taken plain =
            finds (at_spot S (spot_of place)) NoEntry _ ino there_S ∙ spares (is_directory S ino) IsDirectory _ (subst (λ (x : Subvolume C). is_directory x ino ≡ false) view plain)

        taken : is_directory s ino ≡ false → (t : Subvolume C) (g : Map ℕ ℕ) (new : Walked) → Became t g (take_name (spot_of place) ino S) → new ≡ without_name false last
            → Edited t g new (unlink_at (spot_of place) S)
        taken plain t g new became e = record {
          tree = became.tree;
          known = taken_known s S view last known place ino false there_S (sym (subst (λ (x : Subvolume C). is_directory x ino ≡ false) view plain)) t became.is became.tree.sound new e;
          says = said_taken plain ∙ (let ok : Subvolume C → Result (Subvolume C) Refusal = λ x. Ok x in ap ok (sym became.is));
        }

        -- An inode that has further names is no directory.
        pub one_less : 0 < further_names f ino → (t : Subvolume C) → t.inodes ≡ s.inodes → t.names ≡ without named_cmp place s.names → t.next ≡ s.next
            → (g : Map ℕ ℕ) → g ≡ with_value nat_cmp ino (further_names f ino - 1) f → (new : Walked) → new ≡ without_name false last → Edited t g new (unlink_at (spot_of place) S)
        one_less some t a b c g less new e =
            let plain = one (is_directory s ino) refl in
            taken plain t g new (one_whole s S view f tree place ino there_S (plain_leaf ino plain) (λ none. omega arith) t a b c g less) e
          where
            one : (d : Bool) → is_directory s ino ≡ d → is_directory s ino ≡ false
            one true is = let most = tree.sound.one_name ino is in let count = tree.counted ino in absurd (omega arith)
            one false is = is

        module _ (inode : Inode C) (found : value_at nat_cmp ino s.inodes ≡ Some inode) where
          pub directory_back : is_directory_kind inode.kind ≡ true → (t : Subvolume C) → t.inodes ≡ with_value nat_cmp ino inode (without nat_cmp ino s.inodes)
              → t.names ≡ with_value named_cmp place ino (without named_cmp place s.names) → t.next ≡ s.next → Stayed S t f last (unlink_at (spot_of place) S) IsDirectory
          directory_back is t a b c =
              let directory : is_directory S ino ≡ true = subst (λ (x : Subvolume C). is_directory x ino ≡ true) view (kind_tells s ino inode found ∙ is) in
              stayed t (same_fields s t (a ∙ put_back nat_cmp nat_cmp_total exact_unsigned ino inode s.inodes tree.sound.inodes_in_order found)
              (b ∙ put_back named_cmp named_cmp_total named_cmp_exact place ino s.names tree.sound.names_in_order there) c)
              (unlink_at (spot_of place) S) IsDirectory
              (finds (at_spot S (spot_of place)) NoEntry _ ino there_S ∙ refuses (is_directory S ino) IsDirectory _ directory)

          pub last_gone : is_directory_kind inode.kind ≡ false → further_names f ino ≡ 0 → (t : Subvolume C) → t.inodes ≡ without nat_cmp ino s.inodes → t.names ≡ without named_cmp place s.names
              → t.next ≡ s.next → (new : Walked) → new ≡ without_name false last → Edited t f new (unlink_at (spot_of place) S)
          last_gone is none t a b c new e =
              let plain = kind_tells s ino inode found ∙ is in
              taken plain t f new (last_whole s S view f tree place ino there_S (plain_leaf ino plain) none t a b c) e
