-- A root alone is sound, and a change of an inode that keeps its kind keeps a subvolume sound.
use Rattle.std.specs.Prelude.{◌≡◌, ℕ, [], ◌∷◌, Option, None, Some, Result, Ok, IsTrue, is_some}
use Rattle.std.specs.Ordering.{nat_cmp}
use Rattle.std.specs.Cmp.{nat_cmp_total}
use Rattle.std.proofs.Common.{refl, sym, ap, subst, ◌∙◌, arith, inl, inr}
use Rattle.std.proofs.lemmas.Bool.{cases_eq, true≢false}
use Rattle.std.proofs.lemmas.Map.Lookups.{exact_unsigned}
use Rattle.send_model.specs.Refusal.{Refusal}
use Rattle.send_model.specs.Map.{value_at}
use Rattle.send_model.specs.Subvolume.{Inode, Subvolume, root, root_alone, new_directory, passes_inode, is_directory_kind, inode_at, is_directory, walk_names, name_count, IsSound}
use Rattle.send_model.specs.Edit.{set_inode, change_inode}
use Rattle.send_model.proofs.MapLaws.{with_value-order, with_value-here, with_value-other}
use Rattle.send_model.proofs.WalkLaws.{Step, leads-map, leads_from_walk, walk_from_leads}
use Rattle.send_model.proofs.Soundness.{found_none, directory_by, directory_is_there}

module _ {C : Type 0} where
  directory_at : (s : Subvolume C) (ino : ℕ) (inode : Inode C) → inode_at s ino ≡ Some inode → is_directory s ino ≡ is_directory_kind inode.kind
  unfolding is_directory
  directory_at s ino inode at = ap (passes_inode (λ (i : Inode C). is_directory_kind i.kind)) at

  -- Another inode of the same kind in the place of one.
  set_is_sound : (s : Subvolume C) (x : ℕ) (old new : Inode C) → IsSound s → inode_at s x ≡ Some old → new.kind ≡ old.kind → IsSound (set_inode x new s)
  unfolding name_count
  set_is_sound s x old new h at kind = record {
    inodes_in_order = with_value-order nat_cmp nat_cmp_total exact_unsigned x new s.inodes h.inodes_in_order;
    names_in_order = h.names_in_order;
    root_there = same_directory root ∙ h.root_there;
    in_directory = λ d name ino found. same_directory d ∙ h.in_directory d name ino found;
    leads_somewhere = λ d name ino found. same_there ino ∙ h.leads_somewhere d name ino found;
    root_unnamed = h.root_unnamed;
    has_name = λ ino is. h.has_name ino (sym (same_there ino) ∙ is);
    one_name = λ ino is. h.one_name ino (sym (same_directory ino) ∙ is);
    from_root = λ d is. let way = h.from_root d (sym (same_directory d) ∙ is) in
        (way.0, walk_from_leads (set_inode x new s) way.0 root d (leads-map (Step s) (Step (set_inode x new s)) (λ from name below step. (same_directory from ∙ step.0, step.1)) way.0 root d (leads_from_walk s way.0 root d way.1)));
    below_next = λ ino is. h.below_next ino (sym (same_there ino) ∙ is);
  }
    where
      here : inode_at (set_inode x new s) x ≡ Some new
      here = with_value-here nat_cmp nat_cmp_total exact_unsigned x new s.inodes

      other : (ino : ℕ) → (ino ≡ x → ⊥) → inode_at (set_inode x new s) ino ≡ inode_at s ino
      other ino n = with_value-other nat_cmp nat_cmp_total exact_unsigned ino x new s.inodes n

      same_directory : (ino : ℕ) → is_directory (set_inode x new s) ino ≡ is_directory s ino
      same_directory ino = elim (cases_eq ino x) [
        | inl e ↦ subst (λ (i : ℕ). is_directory (set_inode x new s) i ≡ is_directory s i) (sym e)
            (directory_at (set_inode x new s) x new here ∙ ap is_directory_kind kind ∙ sym (directory_at s x old at))
        | inr n ↦ directory_by s (set_inode x new s) ino (other ino n)
      ]

      same_there : (ino : ℕ) → is_some (inode_at (set_inode x new s) ino) ≡ is_some (inode_at s ino)
      same_there ino = elim (cases_eq ino x) [
        | inl e ↦ subst (λ (i : ℕ). is_some (inode_at (set_inode x new s) i) ≡ is_some (inode_at s i)) (sym e) (ap is_some here ∙ sym (ap is_some at))
        | inr n ↦ ap is_some (other ino n)
      ]

  pub changed_is_sound : (x : ℕ) (change : Inode C → Inode C) (s : Subvolume C) → ((inode : Inode C) → (change inode).kind ≡ inode.kind) → IsSound s → IsSound (change_inode x change s)
  unfolding change_inode
  changed_is_sound x change s kind h = one (inode_at s x) refl
    where
      one : (o : Option (Inode C)) → inode_at s x ≡ o → IsSound (elim o as (λ i. Subvolume C) [ None ↦ s | Some inode ↦ set_inode x (change inode) s ])
      one None at = h
      one (Some inode) at = set_is_sound s x inode (change inode) h at (kind inode)

  pub root_alone_is_sound : IsSound {C = C} root_alone
  unfolding root_alone name_count is_directory walk_names
  root_alone_is_sound = record {
    inodes_in_order = tt;
    names_in_order = tt;
    root_there = refl;
    in_directory = λ d name ino found. absurd (found_none _ ino found refl);
    leads_somewhere = λ d name ino found. absurd (found_none _ ino found refl);
    root_unnamed = λ d name found. found_none _ root found refl;
    has_name = λ ino is n. absurd (n (only_root ino is));
    one_name = λ ino is. omega arith;
    from_root = λ d is. ([], ap at (sym (only_root d (directory_is_there root_alone d is))));
    below_next = λ ino is. let e = only_root ino is in omega arith;
  }
    where
      at : ℕ → Result ℕ Refusal
      at n = Ok n

      only_root : (ino : ℕ) → IsTrue (is_some (value_at nat_cmp ino ((root, new_directory {C = C}) ∷ []))) → ino ≡ root
      only_root ino is = elim (cases_eq ino root) [
        | inl e ↦ e
        | inr n ↦ absurd (true≢false (sym is ∙ ap is_some (with_value-other nat_cmp nat_cmp_total exact_unsigned ino root (new_directory {C = C}) [] n)))
      ]
