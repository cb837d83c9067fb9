-- There are no more paths that are their inode's first than inodes.
use Rattle.std.specs.Prelude.{◌≡◌, ℕ, ◌+◌, ◌≤◌, Bool, true, false, cond, not, List, [], ◌∷◌, map, length, Option, Some}
use Rattle.std.specs.declared.cmp.Ordering.TheVariants.{Less, Equal}
use Rattle.std.specs.Ordering.{nat_cmp, eq_by_cmp}
use Rattle.std.specs.Cmp.{nat_cmp_total, tied_itself}
use Rattle.std.specs.Cmp.Lexicographic.{nat_list_cmp_total}
use Rattle.std.specs.List.{filter}
use Rattle.std.proofs.Common.{refl, sym, ap, ◌∙◌, arith, inl, inr}
use Rattle.std.proofs.lemmas.Map.Lookups.{exact_unsigned, exact_bytes}
use Rattle.send_model.specs.Map.{Map, IsMap, bytes_cmp, value_at, without}
use Rattle.send_model.specs.Subvolume.{Inode, Subvolume, IsLawful, inode_at}
use Rattle.snapshot_model.specs.Listing.{Listed, listed, listing, paths_of}
use Rattle.snapshot_model.specs.SentLaws.{is_first, MadeIsSendable}
use Rattle.send_model.proofs.Stores.{bytes_eq_true}
use Rattle.send_model.proofs.MapLaws.{T_left, T_right, without-other}
use Rattle.send_model.proofs.LeastPaths.{Among, entry_found}
use Rattle.snapshot_model.proofs.SentPaths.{paths_ordered, path_found_walks, walked_there, entry_below}
use Rattle.snapshot_model.proofs.SentAgain.{inode_there}

abbrev Cell : Type 0
Cell = Option ℕ

pub fewer : {A : Type 0} (test : A → Bool) (xs : List A) → length (filter test xs) ≤ length xs
fewer test [] = omega arith
fewer test (x ∷ xs) = one (test x) (fewer test xs)
  where
    one : (b : Bool) → length (filter test xs) ≤ length xs → length (cond b (x ∷ filter test xs) (filter test xs)) ≤ length (x ∷ xs)
    one true l = omega (arith, l)
    one false l = omega (arith, l)

one_fewer : {X : Type 0} (k : ℕ) (x : X) (m : Map ℕ X) → value_at nat_cmp k m ≡ Some x → length (without nat_cmp k m) + 1 ≤ length m
one_fewer k x [] e = cc
one_fewer k x (f ∷ m) e = one (eq_by_cmp nat_cmp k f.0) e (one_fewer k x m)
  where
    one : (b : Bool) → cond b (Some f.1) (value_at nat_cmp k m) ≡ Some x → (value_at nat_cmp k m ≡ Some x → length (without nat_cmp k m) + 1 ≤ length m)
        → length (cond (not b) (f ∷ without nat_cmp k m) (without nat_cmp k m)) + 1 ≤ length (f ∷ m)
    one true e more = let l : length (without nat_cmp k m) ≤ length m = fewer _ m in omega (arith, l)
    one false e more = let l = more e in omega (arith, l)

module _ (s : Subvolume Cell) where
  abbrev entry_of : List ℕ × ℕ → List ℕ × Listed Cell
  entry_of e = (e.0, listed s e.1)

  firsts : (m : Map (List ℕ) ℕ) (inodes : Map ℕ (Inode Cell)) → IsMap bytes_cmp m
      → ((e : List ℕ × ℕ) → Among e m → is_first (entry_of e) ≡ true → (x : Inode Cell) × (value_at nat_cmp e.1 inodes ≡ Some x)) → length (filter is_first (map entry_of m)) ≤ length inodes
  firsts [] inodes h f = omega arith
  firsts (e ∷ m) inodes h f = one (is_first (entry_of e)) refl (firsts m inodes (T_right _ _ h) (λ x a is. f x (inr a) is)) (firsts m (without nat_cmp e.1 inodes) (T_right _ _ h))
    where
      one : (b : Bool) → is_first (entry_of e) ≡ b → length (filter is_first (map entry_of m)) ≤ length inodes
          → (((x : List ℕ × ℕ) → Among x m → is_first (entry_of x) ≡ true → (i : Inode Cell) × (value_at nat_cmp x.1 (without nat_cmp e.1 inodes) ≡ Some i)) → length (filter is_first (map entry_of m)) ≤ length (without nat_cmp e.1 inodes))
          → length (cond b (entry_of e ∷ filter is_first (map entry_of m)) (filter is_first (map entry_of m))) ≤ length inodes
      one false is here less = here
      one true is here less =
          let own = f e (inl refl) is in
          let l = less (λ x a is'. let found = f x (inr a) is' in (found.0, without-other nat_cmp nat_cmp_total exact_unsigned x.1 e.1 inodes (differs x a is') ∙ found.1)) in
          omega (arith, l, one_fewer e.1 own.0 inodes own.1)
        where
          differs : (x : List ℕ × ℕ) → Among x m → is_first (entry_of x) ≡ true → x.1 ≡ e.1 → ⊥
          differs x a is' same =
              let path_is : x.0 ≡ e.0 = bytes_eq_true x.0 (listed s x.1).first is' ∙ ap (λ (i : ℕ). (listed s i).first) same ∙ sym (bytes_eq_true e.0 (listed s e.1).first is) in
              let less : bytes_cmp e.0 x.0 ≡ Less = entry_below e.0 x.0 x.1 m (T_left _ _ h) a in
              let tie : bytes_cmp e.0 x.0 ≡ Equal = ap (bytes_cmp e.0) path_is ∙ tied_itself nat_list_cmp_total e.0 in cc (tie, less)

  pub firsts_fit : IsLawful s → length (filter is_first (listing s)) ≤ length s.inodes
  unfolding listing
  firsts_fit lawful = firsts (paths_of s) s.inodes (paths_ordered s) (λ e a is.
      inode_there (inode_at s e.1) (walked_there s lawful.sound e.0 e.1 (path_found_walks s lawful e.0 e.1 (entry_found bytes_cmp nat_list_cmp_total exact_bytes e (paths_of s) (paths_ordered s) a))))

pub made_is_sendable : MadeIsSendable
made_is_sendable s lawful made numbers = record { lawful = lawful; inodes = made; numbers = (let l = firsts_fit s lawful in omega (arith, l, numbers)) }
