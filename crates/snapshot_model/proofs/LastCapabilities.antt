-- Capabilities come to inodes that have all else, at their first paths.
use Rattle.std.specs.Prelude.{◌≡◌, ℕ, Bool, true, false, List, [], ◌∷◌, Option, None, Some, Result, Ok, if◌then◌else◌}
use Rattle.std.specs.declared.cmp.Ordering.TheVariants.{Less, Equal}
use Rattle.std.specs.Cmp.{tied_itself}
use Rattle.std.specs.Cmp.Lexicographic.{nat_list_cmp_total}
use Rattle.std.specs.Option.{option_map}
use Rattle.std.specs.Str.{bytes_eq}
use Rattle.std.specs.List.{flat_map}
use Rattle.std.proofs.Common.{refl, sym, ap, subst, ◌∙◌, inl, inr}
use Rattle.std.proofs.lemmas.Bool.{true≢false, cases_eq}
use Rattle.std.proofs.lemmas.Map.Lookups.{exact_bytes}
use Rattle.send_model.specs.Refusal.{Refusal}
use Rattle.send_model.specs.Chain.{◌>>=◌}
use Rattle.send_model.specs.Command.{Command}
use Rattle.send_model.specs.Map.{Map, IsMap, bytes_cmp}
use Rattle.send_model.specs.Subvolume.{Inode, Subvolume, walk, is_directory, is_directory_kind, passes_inode, inode_at}
use Rattle.snapshot_model.specs.Listing.{Listed, paths_of}
use Rattle.snapshot_model.specs.Sent.{edit_all}
use Rattle.snapshot_model.specs.Restored.{capability_commands, capabilities}
use Rattle.snapshot_model.specs.SentLaws.{IsSendable}
use Rattle.send_model.proofs.Fuel.{ok_same}
use Rattle.send_model.proofs.MapLaws.{T_left, T_right}
use Rattle.send_model.proofs.Rewriting.{same_walk}
use Rattle.send_model.proofs.Stores.{bytes_eq_true, bytes_eq_same}
use Rattle.send_model.proofs.LeastPaths.{Among, entry_found}
use Rattle.snapshot_model.proofs.Capabilities.{bare}
use Rattle.snapshot_model.proofs.SentPaths.{paths_ordered, path_found_walks, entry_below}
use Rattle.snapshot_model.proofs.SentInodes.{directories, capabilities_set, edit_all-append}
use Rattle.snapshot_model.proofs.SentParts.{first, Holds}
use Rattle.snapshot_model.proofs.SentSteps.{edits_keep_lawful}
use Rattle.snapshot_model.proofs.SentAgain.{own_alike, Entry, entry}

abbrev Cell : Type 0
Cell = Option ℕ

module _ (s : Subvolume Cell) where
  abbrev pub bare_at : ℕ → Option (Inode Cell)
  bare_at i = option_map bare (inode_at s i)

  pub bare_alike : (i : ℕ) → passes_inode (λ inode. is_directory_kind inode.kind) (bare_at i) ≡ is_directory s i
  unfolding is_directory
  bare_alike i = one (inode_at s i)
    where
      one : (o : Option (Inode Cell)) → passes_inode (λ (inode : Inode Cell). is_directory_kind inode.kind) (option_map bare o) ≡ passes_inode (λ (inode : Inode Cell). is_directory_kind inode.kind) o
      one None = refl
      one (Some inode) = refl

module _ (s : Subvolume Cell) (sendable : IsSendable s) (v : Subvolume Cell) (h : Holds s sendable.lawful (bare_at s) (bare_alike s) (paths_of s) v) where
  abbrev f : ℕ → List ℕ
  f k = first s sendable.lawful k

  abbrev SameEntry : List ℕ × ℕ → List ℕ × ℕ → Type 0
  SameEntry a b = a ≡ b

  -- Inodes whose first path is not left have their capabilities, and the others have all else.
  record Left (m : Map (List ℕ) ℕ) (u : Subvolume Cell) : Type 0 where
    names : u.names ≡ v.names
    dirs : (k : ℕ) → is_directory u k ≡ is_directory v k
    set : (q : List ℕ) (k j : ℕ) → Among (q, k) (paths_of s) → (Among (f k, k) m → ⊥) → walk v q ≡ Ok j → inode_at u j ≡ inode_at s k
    kept : (q : List ℕ) (k j : ℕ) → Among (q, k) (paths_of s) → Among (f k, k) m → walk v q ≡ Ok j → inode_at u j ≡ bare_at s k

  walks_s : (q : List ℕ) (k : ℕ) → Among (q, k) (paths_of s) → walk s q ≡ Ok k
  walks_s q k a = path_found_walks s sendable.lawful q k (entry_found bytes_cmp nat_list_cmp_total exact_bytes (q, k) (paths_of s) (paths_ordered s) a)

  at_v : (q : List ℕ) (k j : ℕ) → Among (q, k) (paths_of s) → walk v q ≡ Ok j → inode_at v j ≡ bare_at s k
  at_v q k j a w = let b = h.same q k a in subst (λ (n : ℕ). inode_at v n ≡ bare_at s k) (ok_same (sym b.walks ∙ w)) b.inode

  -- Each inode's first path is one of the paths.
  first_among : (q : List ℕ) (k : ℕ) → Among (q, k) (paths_of s) → Among (f k, k) (paths_of s)
  first_among q k a =
      let b = h.same q k a in
      let o = h.only (f k) b.ino b.first_walks in
      let same : o.0 ≡ k = ok_same (sym (walks_s (f k) o.0 o.1) ∙ (entry s sendable q k (walks_s q k a)).first_leads) in
      subst (λ (n : ℕ). Among (f k, n) (paths_of s)) same o.1

  left_first : Left (paths_of s) v
  left_first = record {
    names = refl;
    dirs = λ k. refl;
    set = λ q k j a none w. absurd (none (first_among q k a));
    kept = λ q k j a among w. at_v q k j a w;
  }

  module _ (x : List ℕ × ℕ) (m : Map (List ℕ) ℕ) (ordered : IsMap bytes_cmp (x ∷ m)) (here : Among (x.0, x.1) (paths_of s)) (u : Subvolume Cell) (l : Left (x ∷ m) u) where
    e : Entry s sendable x.0 x.1
    e = entry s sendable x.0 x.1 (walks_s x.0 x.1 here)

    fresh_entry : Among (x.0, x.1) m → ⊥
    fresh_entry a =
        let less : bytes_cmp x.0 x.0 ≡ Less = entry_below x.0 x.0 x.1 m (T_left _ _ ordered) a in
        let tie : bytes_cmp x.0 x.0 ≡ Equal = tied_itself nat_list_cmp_total x.0 in cc (less, tie)

    abbrev Next : List Command → Type 0
    Next cs = (w : Subvolume Cell) × (edit_all cs u ≡ Ok w) × Left m w

    -- It is another name: nothing comes.
    by_other : bytes_eq x.0 (f x.1) ≡ false → Next []
    unfolding edit_all
    by_other other = (
      u,
      refl,
      record {
        names = l.names;
        dirs = l.dirs;
        set = λ q k j a none w. l.set q k j a (λ among. elim among [
          | inl same ↦ absurd (not_first k same)
          | inr more ↦ none more
        ]) w;
        kept = λ q k j a among w. l.kept q k j a (inr among) w;
      },
    )
      where
        not_first : (k : ℕ) → SameEntry x (f k, k) → ⊥
        not_first k same =
            let own : x.0 ≡ f x.1 = ap (λ (g : List ℕ × ℕ). g.0) same ∙ sym (ap (λ (g : List ℕ × ℕ). f g.1) same) in
            true≢false (sym (ap (bytes_eq x.0) (sym own) ∙ bytes_eq_same x.0) ∙ other)

    -- It is the first path: the capabilities come.
    by_first : x.0 ≡ f x.1 → Next (capability_commands x.0 e.inode)
    by_first own =
        let b = h.same x.0 x.1 here in
        let y : ℕ = b.ino in
        let way : walk u x.0 ≡ Ok y = same_walk v u l.names l.dirs x.0 ∙ b.walks in
        let mine : Among (f x.1, x.1) (x ∷ m) = subst (λ (p : List ℕ). Among (p, x.1) (x ∷ m)) own (inl refl) in
        let at : inode_at u y ≡ Some (bare e.inode) = l.kept x.0 x.1 y here mine b.walks ∙ ap (option_map bare) e.at in
        let c = capabilities_set x.0 y u (bare e.inode) at way e.inode e.ordered u (record { names = refl; next = refl; here = at; others = λ k n. refl; kind = refl }) in
        let of_x : (q : List ℕ) (k j : ℕ) → Among (q, k) (paths_of s) → walk v q ≡ Ok j → j ≡ y → x.1 ≡ k =
        λ q k j a w same. h.apart x.0 q x.1 k y here a b.walks (subst (λ (n : ℕ). walk v q ≡ Ok n) same w) in
        let to_y : (q : List ℕ) (k j : ℕ) → Among (q, k) (paths_of s) → walk v q ≡ Ok j → SameEntry x (f k, k) → j ≡ y =
        λ q k j a w same. let d = h.same q k a in ok_same (sym w ∙ d.walks ∙ sym d.first_walks ∙ sym (ap (λ (g : List ℕ × ℕ). walk v g.0) same) ∙ b.walks) in (
          c.0,
          c.1,
          record {
            names = c.2.names ∙ l.names;
            dirs = λ k. directories x.0 y u (bare e.inode) at way c.0 e.inode c.2 k ∙ l.dirs k;
            set = λ q k j a none w. elim (cases_eq j y) [
              | inl same ↦
                  subst (λ (n : ℕ). inode_at c.0 n ≡ inode_at s k) (sym same) (c.2.here ∙ sym e.at ∙ ap (inode_at s) (of_x q k j a w same))
              | inr other ↦ c.2.others j other ∙ l.set q k j a (λ among. elim among [
                | inl same ↦ other (to_y q k j a w same)
                | inr more ↦ none more
              ]) w
            ];
            kept = λ q k j a among w. c.2.others j (λ same. fresh_entry
                (let is : x.1 ≡ k = of_x q k j a w same in subst (λ (n : ℕ). Among (x.0, n) m) (sym is) (subst (λ (p : List ℕ). Among (p, k) m) (sym (own ∙ ap f is)) among))) ∙ l.kept q k j a (inr among) w;
          },
        )

    next_capabilities : Next (capabilities s x)
    next_capabilities =
        subst (λ (o : Listed Cell). Next (if bytes_eq x.0 o.first then capability_commands x.0 o.inode else [])) (sym e.listed_is) (one (bytes_eq x.0 (f x.1)) refl)
      where
        one : (b : Bool) → bytes_eq x.0 (f x.1) ≡ b → Next (if b then capability_commands x.0 e.inode else [])
        one true same = by_first (bytes_eq_true x.0 (f x.1) same)
        one false other = by_other other

  all_capabilities : (m : Map (List ℕ) ℕ) → IsMap bytes_cmp m → ((e : List ℕ × ℕ) → Among e m → Among e (paths_of s)) → (u : Subvolume Cell) → Left m u
      → (w : Subvolume Cell) × (edit_all (flat_map (capabilities s) m) u ≡ Ok w) × Left [] w
  unfolding edit_all
  all_capabilities [] ordered sub u l = (u, refl, l)
  all_capabilities (x ∷ m) ordered sub u l =
      let one = next_capabilities x m ordered (sub x (inl refl)) u l in
      let more = all_capabilities m (T_right _ _ ordered) (λ y a. sub y (inr a)) one.0 one.2 in (
        more.0,
        edit_all-append (capabilities s x) (flat_map (capabilities s) m) u ∙ ap (λ (r : Result (Subvolume Cell) Refusal). r >>= edit_all (flat_map (capabilities s) m)) one.1 ∙ more.1,
        more.2,
      )

  -- Then all inodes have all fields.
  pub last_capabilities : (w : Subvolume Cell) × (edit_all (flat_map (capabilities s) (paths_of s)) v ≡ Ok w) × Holds s sendable.lawful (inode_at s) (own_alike s sendable) (paths_of s) w
  last_capabilities =
      let a = all_capabilities (paths_of s) (paths_ordered s) (λ e among. among) v left_first in
      let walk_is : (q : List ℕ) → walk a.0 q ≡ walk v q = λ q. same_walk v a.0 a.2.names a.2.dirs q in (
        a.0,
        a.1,
        record {
          good = edits_keep_lawful (flat_map (capabilities s) (paths_of s)) v a.0 h.good a.1;
          same = λ q k among. let b = h.same q k among in record {
            ino = b.ino;
            walks = walk_is q ∙ b.walks;
            first_walks = walk_is (f k) ∙ b.first_walks;
            inode = a.2.set q k b.ino among (λ none. absurd none) b.walks;
          };
          only = λ q j w. h.only q j (sym (walk_is q) ∙ w);
          apart = λ p q i k j x y w w'. h.apart p q i k j x y (sym (walk_is p) ∙ w) (sym (walk_is q) ∙ w');
        },
      )
