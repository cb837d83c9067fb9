-- A whole subvolume in the kernel's order is taken and makes one with the same listing, where each
-- name that serves on the way is spare.
use Rattle.std.specs.Prelude.{◌≡◌, ℕ, ◌+◌, ◌<◌, ◌≤◌, Bool, true, false, List, [], ◌∷◌, ◌++◌, map, length, Option, Some, Result, Ok, IsTrue, is_some, if◌then◌else◌}
use Rattle.std.specs.declared.cmp.Ordering.TheVariants.{Less, Equal}
use Rattle.std.specs.Cmp.{tied_itself}
use Rattle.std.specs.Cmp.Lexicographic.{nat_list_cmp_total}
use Rattle.std.specs.Option.{option_map}
use Rattle.std.specs.Str.{bytes_eq}
use Rattle.std.specs.List.{AllByRecursion, flat_map, filter}
use Rattle.std.proofs.Common.{refl, sym, ap, subst, ◌∙◌, arith, inl, inr, append_assoc, append-nil}
use Rattle.std.proofs.lemmas.Bool.{true≢false, cases_Bool}
use Rattle.std.proofs.lemmas.Map.Lookups.{exact_bytes}
use Rattle.send_model.specs.Refusal.{Refusal}
use Rattle.send_model.specs.Chain.{◌>>=◌}
use Rattle.send_model.specs.Command.{Command, Link}
use Rattle.send_model.specs.Path.{path_names}
use Rattle.send_model.specs.Map.{Map, IsMap, bytes_cmp}
use Rattle.send_model.specs.Subvolume.{Inode, Subvolume, root, root_alone, new_directory, walk, is_directory, is_directory_kind, passes_inode, inode_at}
use Rattle.send_model.specs.Edit.{greatest_number}
use Rattle.snapshot_model.specs.Listing.{Listed, listed, listing, paths_of}
use Rattle.snapshot_model.specs.Sent.{contents_commands, edit_all}
use Rattle.snapshot_model.specs.Restored.{temporary, has_temporary, arriving, finishing, placed_inode, placed, directories_back, capabilities, restored_edits}
use Rattle.snapshot_model.specs.SentLaws.{is_first, IsSendable, MakesAgain, RestoredEditsAreTaken}
use Rattle.send_model.proofs.Fuel.{ok_same}
use Rattle.send_model.proofs.MapLaws.{T_left, T_right}
use Rattle.send_model.proofs.Rewriting.{same_walk}
use Rattle.send_model.proofs.LawfulEdits.{root_alone_is_lawful}
use Rattle.send_model.proofs.WalkLaws.{Leads, Step}
use Rattle.send_model.proofs.LeastPaths.{Among, entry_found}
use Rattle.snapshot_model.proofs.SentWalks.{names_path, one_way}
use Rattle.snapshot_model.proofs.SentPaths.{walked, paths_ordered, path_found_walks, entry_below}
use Rattle.snapshot_model.proofs.Capabilities.{bare}
use Rattle.snapshot_model.proofs.SentInodes.{directories, directory_finished, edit_all-append}
use Rattle.snapshot_model.proofs.SentParts.{first, Twin, Holds}
use Rattle.snapshot_model.proofs.SentSteps.{edits_keep_lawful}
use Rattle.snapshot_model.proofs.SentAgain.{in_paths, only_first, root_names, kind_by, NotRoot, Entry, entry, made_directory, counted_one, root_first, root_walks, begins, root_entry, nothing_named, root_here, root_next, same_listing}
use Rattle.snapshot_model.proofs.TemporaryNames.{temporary_split}
use Rattle.snapshot_model.proofs.RestoredParts.{staged, look, alike, next_placed}
use Rattle.snapshot_model.proofs.LastCapabilities.{bare_at, bare_alike, last_capabilities}

abbrev Cell : Type 0
Cell = Option ℕ

module _ (s : Subvolume Cell) (sendable : IsSendable s) (low : s.next ≤ greatest_number) where
  -- Each number that a path leads to is low enough for the name that it gives.
  way_is : (p : List ℕ) (i : ℕ) → walk s p ≡ Ok i → path_names (temporary i) ≡ Some (temporary i ∷ [])
  way_is p i w =
      let e = entry s sendable p i w in
      let there : IsTrue (is_some (inode_at s i)) = ap is_some e.at in
      let below : i < s.next = sendable.lawful.sound.below_next i there in
      temporary_split i (omega (arith, below, low))

  abbrev entry_of : List ℕ × ℕ → List ℕ × Listed Cell
  entry_of e = (e.0, listed s e.1)

  abbrev Stage : Map (List ℕ) ℕ → Subvolume Cell → Type 0
  Stage done t = Holds s sendable.lawful (look s sendable) (alike s sendable) done t

  all_placed : (done rest : Map (List ℕ) ℕ) → done ++ rest ≡ paths_of s → (t : Subvolume Cell) → Stage done t → AllByRecursion (NotRoot s sendable) rest
      → t.next + length (filter is_first (map entry_of rest)) ≤ greatest_number → (v : Subvolume Cell) × (edit_all (flat_map (placed s) rest) t ≡ Ok v) × Stage (done ++ rest) v
  unfolding edit_all
  all_placed done [] all t h some numbers = (t, refl, subst (λ (m : Map (List ℕ) ℕ). Stage m t) (sym (append-nil done)) h)
  all_placed done (x ∷ rest) all t h some numbers =
      let b : Bool = is_first (x.0, listed s x.1) in
      let counted : length (filter is_first (map entry_of (x ∷ rest))) ≡ (if b then 1 else 0) + length (filter is_first (map entry_of rest)) = counted_one s sendable b (entry_of x) (filter is_first (map entry_of rest)) in
      let a = next_placed s sendable done rest x.0 x.1 all t h some.0 (way_is x.0 x.1 (in_paths s sendable x.0 x.1 done rest all)) (omega (arith, numbers, counted)) in
      let together : (done ++ (x.0, x.1) ∷ []) ++ rest ≡ done ++ x ∷ rest = append_assoc done ((x.0, x.1) ∷ []) rest in
      let b' = all_placed (done ++ (x.0, x.1) ∷ []) rest (together ∙ all) a.0 a.2 some.1 (omega (arith, numbers, counted, a.3)) in (
        b'.0,
        edit_all-append (placed s (x.0, x.1)) (flat_map (placed s) rest) t ∙ ap (λ (r : Result (Subvolume Cell) Refusal). r >>= edit_all (flat_map (placed s) rest)) a.1 ∙ b'.1,
        subst (λ (m : Map (List ℕ) ℕ). Stage m b'.0) together b'.2,
      )

  -- ---- the directories

  walks_s : (q : List ℕ) (k : ℕ) → Among (q, k) (paths_of s) → walk s q ≡ Ok k
  walks_s q k a = path_found_walks s sendable.lawful q k (entry_found bytes_cmp nat_list_cmp_total exact_bytes (q, k) (paths_of s) (paths_ordered s) a)

  staged_plain : (i : ℕ) (inode : Inode Cell) (b : Bool) → inode_at s i ≡ Some inode → is_directory_kind inode.kind ≡ b → staged (inode_at s i) ≡ (if b then Some new_directory else Some (bare inode))
  staged_plain i inode b at kind = ap staged at ∙ ap (λ (c : Bool). if c then Some new_directory else Some (bare inode)) kind

  kind_at : (i : ℕ) (inode : Inode Cell) → inode_at s i ≡ Some inode → is_directory s i ≡ is_directory_kind inode.kind
  unfolding is_directory
  kind_at i inode at = ap (passes_inode (λ (n : Inode Cell). is_directory_kind n.kind)) at

  module _ (t : Subvolume Cell) (h : Stage (paths_of s) t) where
    record Back (m : Map (List ℕ) ℕ) (v : Subvolume Cell) : Type 0 where
      names : v.names ≡ t.names
      dirs : (k : ℕ) → is_directory v k ≡ is_directory t k
      plain : (q : List ℕ) (k j : ℕ) → Among (q, k) (paths_of s) → is_directory s k ≡ false → walk t q ≡ Ok j → inode_at v j ≡ bare_at s k
      set : (q : List ℕ) (k j : ℕ) → Among (q, k) (paths_of s) → Among (q, k) m → is_directory s k ≡ true → walk t q ≡ Ok j → inode_at v j ≡ bare_at s k
      kept : (q : List ℕ) (k j : ℕ) → Among (q, k) (paths_of s) → (Among (q, k) m → ⊥) → is_directory s k ≡ true → walk t q ≡ Ok j → inode_at v j ≡ Some new_directory

    -- What a path leads to is as its stage says.
    at_stage : (q : List ℕ) (k j : ℕ) → Among (q, k) (paths_of s) → walk t q ≡ Ok j → inode_at t j ≡ staged (inode_at s k)
    at_stage q k j a w = let b = h.same q k a in subst (λ (n : ℕ). inode_at t n ≡ staged (inode_at s k)) (ok_same (sym b.walks ∙ w)) b.inode

    abbrev SameEntry : List ℕ × ℕ → List ℕ × ℕ → Type 0
    SameEntry a b = a ≡ b

    -- A directory has one path.
    same_entry : (p q : List ℕ) (i k j : ℕ) → Among (p, i) (paths_of s) → Among (q, k) (paths_of s) → is_directory s i ≡ true → walk t p ≡ Ok j → walk t q ≡ Ok j → SameEntry (p, i) (q, k)
    same_entry p q i k j a b dir w w' =
        let same : i ≡ k = h.apart p q i k j a b w w' in
        let x = walked s p i (walks_s p i a) in
        let y = walked s q i (subst (λ (n : ℕ). walk s q ≡ Ok n) (sym same) (walks_s q k b)) in
        let ways : x.names ≡ y.names = one_way s sendable.lawful.sound x.names y.names i dir x.leads y.leads in
        let paths : p ≡ q = names_path s p q y.names (x.names_are ∙ ap (λ (n : List (List ℕ)). Some n) ways) y.names_are in
        λ n. (paths n, same n)

    own : List ℕ × ℕ → List Command
    own e = if is_directory_kind (listed s e.1).inode.kind then finishing e.0 (listed s e.1).inode else []

    back_all : (m : Map (List ℕ) ℕ) → IsMap bytes_cmp m → ((e : List ℕ × ℕ) → Among e m → Among e (paths_of s)) → (v : Subvolume Cell) × (edit_all (directories_back s m) t ≡ Ok v) × Back m v
    unfolding edit_all
    back_all [] ordered sub = (
      t,
      refl,
      record {
        names = refl;
        dirs = λ k. refl;
        plain = λ q k j a no_dir w. at_stage q k j a w ∙ (let e = entry s sendable q k (walks_s q k a) in staged_plain k e.inode false e.at (sym (kind_at k e.inode e.at) ∙ no_dir) ∙ sym (ap (option_map bare) e.at));
        set = λ q k j a none dir w. absurd none;
        kept = λ q k j a none dir w. at_stage q k j a w ∙ (let e = entry s sendable q k (walks_s q k a) in staged_plain k e.inode true e.at (sym (kind_at k e.inode e.at) ∙ dir));
      },
    )
    back_all (x ∷ m) ordered sub = one (is_directory_kind e.inode.kind) refl (back_all m (T_right _ _ ordered) (λ y a. sub y (inr a)))
      where
        p : List ℕ
        p = x.0

        i : ℕ
        i = x.1

        here : Among (x.0, x.1) (paths_of s)
        here = sub x (inl refl)

        e : Entry s sendable x.0 x.1
        e = entry s sendable x.0 x.1 (walks_s x.0 x.1 here)

        fresh_entry : Among (x.0, x.1) m → ⊥
        fresh_entry a =
            let less : bytes_cmp x.0 x.0 ≡ Less = entry_below x.0 x.0 x.1 m (T_left _ _ ordered) a in
            let tie : bytes_cmp x.0 x.0 ≡ Equal = tied_itself nat_list_cmp_total x.0 in cc (less, tie)

        commands_are : (b : Bool) → is_directory_kind e.inode.kind ≡ b → directories_back s (x ∷ m) ≡ directories_back s m ++ (if b then finishing x.0 e.inode else [])
        commands_are b kind = ap (λ (l : Listed Cell). directories_back s m ++ (if is_directory_kind l.inode.kind then finishing x.0 l.inode else [])) e.listed_is
            ∙ ap (λ (c : Bool). directories_back s m ++ (if c then finishing x.0 e.inode else [])) kind

        one : (b : Bool) → is_directory_kind e.inode.kind ≡ b → ((v : Subvolume Cell) × (edit_all (directories_back s m) t ≡ Ok v) × Back m v)
            → (v : Subvolume Cell) × (edit_all (directories_back s (x ∷ m)) t ≡ Ok v) × Back (x ∷ m) v
        one false kind r = (
          r.0,
          ap (λ (cs : List Command). edit_all cs t) (commands_are false kind ∙ append-nil (directories_back s m)) ∙ r.1,
          record {
            names = r.2.names;
            dirs = r.2.dirs;
            plain = r.2.plain;
            set = λ q k j a among dir w. elim among [
              | inl same ↦ absurd (true≢false (sym dir ∙ ap (λ (f : List ℕ × ℕ). is_directory s f.1) (sym same) ∙ kind_at x.1 e.inode e.at ∙ kind))
              | inr more ↦ r.2.set q k j a more dir w
            ];
            kept = λ q k j a none dir w. r.2.kept q k j a (λ more. none (inr more)) dir w;
          },
        )
        one true kind r =
            let v1 : Subvolume Cell = r.0 in
            let b = h.same x.0 x.1 here in
            let y : ℕ = b.ino in
            let is_dir : is_directory s x.1 ≡ true = kind_at x.1 e.inode e.at ∙ kind in
            let walk_is : (q : List ℕ) → walk v1 q ≡ walk t q = λ q. same_walk t v1 r.2.names r.2.dirs q in
            let way : walk v1 x.0 ≡ Ok y = walk_is x.0 ∙ b.walks in
            let at : inode_at v1 y ≡ Some new_directory = r.2.kept x.0 x.1 y here fresh_entry is_dir b.walks in
            let c = directory_finished x.0 y v1 new_directory at way e.inode kind e.is e.ordered (made_directory e.inode.kind e.inode kind) v1 (record { names = refl; next = refl; here = at; others = λ k n. refl; kind = refl }) in
            let apart : (q : List ℕ) (k j : ℕ) → Among (q, k) (paths_of s) → walk t q ≡ Ok j → j ≡ y → SameEntry (x.0, x.1) (q, k) =
            λ q k j a w same. same_entry x.0 q x.1 k y here a is_dir b.walks (subst (λ (n : ℕ). walk t q ≡ Ok n) same w) in (
              c.0,
              ap (λ (cs : List Command). edit_all cs t) (commands_are true kind) ∙ edit_all-append (directories_back s m) (finishing x.0 e.inode) t
                  ∙ ap (λ (z : Result (Subvolume Cell) Refusal). z >>= edit_all (finishing x.0 e.inode)) r.1 ∙ c.1,
              record {
                names = c.2.names ∙ r.2.names;
                dirs = λ k. directories x.0 y v1 new_directory at way c.0 (bare e.inode) c.2 k ∙ r.2.dirs k;
                plain = λ q k j a no_dir w. c.2.others j (λ same. true≢false (sym is_dir ∙ ap (λ (f : List ℕ × ℕ). is_directory s f.1) (apart q k j a w same) ∙ no_dir)) ∙ r.2.plain q k j a no_dir w;
                set = λ q k j a among dir w. elim among [
                  | inl same ↦
                      let to_y : y ≡ j = ok_same (sym b.walks ∙ ap (λ (f : List ℕ × ℕ). walk t f.0) same ∙ w) in
                      subst (λ (n : ℕ). inode_at c.0 n ≡ bare_at s k) to_y (c.2.here ∙ sym (ap (option_map bare) e.at) ∙ ap (λ (f : List ℕ × ℕ). bare_at s f.1) same)
                  | inr more ↦ c.2.others j (λ same. fresh_entry (subst (λ (f : List ℕ × ℕ). Among f m) (sym (apart q k j a w same)) more)) ∙ r.2.set q k j a more dir w
                ];
                kept = λ q k j a none dir w. c.2.others j (λ same. none (inl (apart q k j a w same))) ∙ r.2.kept q k j a (λ more. none (inr more)) dir w;
              },
            )

    -- What stands when all directories have what is theirs but the capabilities.
    whole : (v : Subvolume Cell) → edit_all (directories_back s (paths_of s)) t ≡ Ok v → Back (paths_of s) v → Holds s sendable.lawful (bare_at s) (bare_alike s) (paths_of s) v
    whole v taken back = record {
      good = edits_keep_lawful (directories_back s (paths_of s)) t v h.good taken;
      same = λ q k a. let b = h.same q k a in record {
        ino = b.ino;
        walks = walk_is q ∙ b.walks;
        first_walks = walk_is (first s sendable.lawful k) ∙ b.first_walks;
        inode = elim (cases_Bool (is_directory s k)) [
          | inl dir ↦ back.set q k b.ino a a dir b.walks
          | inr no_dir ↦ back.plain q k b.ino a no_dir b.walks
        ];
      };
      only = λ q j w. h.only q j (sym (walk_is q) ∙ w);
      apart = λ p q i k j a b w w'. h.apart p q i k j a b (sym (walk_is p) ∙ w) (sym (walk_is q) ∙ w');
    }
      where
        walk_is : (q : List ℕ) → walk v q ≡ walk t q
        walk_is q = same_walk t v back.names back.dirs q

  -- ---- the root

  root_kind : is_directory_kind (root_entry s sendable).inode.kind ≡ true
  root_kind = sym (kind_by s sendable (root_entry s sendable).inode (root_entry s sendable).at) ∙ sendable.lawful.sound.root_there

  only_root : (q : List ℕ) (j : ℕ) → walk (root_alone {C = Cell}) q ≡ Ok j → [] ≡ q
  only_root q j w = let a = walked root_alone q j w in one a.names a.names_are a.leads
    where
      one : (names : List (List ℕ)) → path_names q ≡ Some names → Leads (Step (root_alone {C = Cell})) names root j → [] ≡ q
      one [] is l = names_path s [] q [] root_names is
      one (n ∷ names) is l = absurd (nothing_named s sendable root n l.0 l.1)

  single : (q : List ℕ) (i : ℕ) → Among (q, i) only_first → i ≡ root
  single q i (inl e) = sym (ap (λ (f : List ℕ × ℕ). f.1) e)
  single q i (inr a) = absurd a

  root_twin : (q : List ℕ) (k : ℕ) → Among (q, k) only_first → Twin s sendable.lawful (look s sendable) (alike s sendable) root_alone q k
  root_twin q k (inr a) = absurd a
  root_twin q k (inl e) =
      let stage : staged (inode_at s root) ≡ Some new_directory = staged_plain root (root_entry s sendable).inode true (root_entry s sendable).at root_kind in
      let at : Twin s sendable.lawful (look s sendable) (alike s sendable) root_alone [] root = record {
        ino = root;
        walks = root_walks s sendable root_alone;
        first_walks = ap (walk root_alone) (root_first s sendable) ∙ root_walks s sendable root_alone;
        inode = root_here s sendable ∙ sym stage;
      } in
      subst (λ (f : List ℕ × ℕ). Twin s sendable.lawful (look s sendable) (alike s sendable) root_alone f.0 f.1) e at

  root_stage : Stage only_first root_alone
  root_stage = record {
    good = root_alone_is_lawful;
    same = root_twin;
    only = λ q j w. (root, inl (λ i. (only_root q j w i, root)));
    apart = λ q q' i k j a b w w'. single q i a ∙ sym (single q' k b);
  }

  -- The root's own commands all come at the end.
  root_placed : placed s ([], root) ≡ []
  root_placed =
      let e = root_entry s sendable in
      let f : List ℕ = first s sendable.lawful root in
      ap (λ (l : Listed Cell). if bytes_eq [] l.first then placed_inode (has_temporary s root) root [] l.inode else Link [] l.first ∷ []) (e.listed_is ∙ ap (λ (r : List ℕ). record { first = r; inode = e.inode }) (root_first s sendable))
      ∙ two (is_directory_kind e.inode.kind) root_kind
    where
      two : (b : Bool) → b ≡ true → (arriving (has_temporary s root) root [] (root_entry s sendable).inode ++ (if b then [] else contents_commands [] (root_entry s sendable).inode.cells ++ finishing [] (root_entry s sendable).inode)) ≡ []
      two true e = none (has_temporary s root)
        where
          none : (there : Bool) → (arriving there root [] (root_entry s sendable).inode ++ []) ≡ []
          none true = refl
          none false = refl
      two false e = cc

  pub restored_again : (t : Subvolume Cell) × MakesAgain (restored_edits s) s t
  unfolding restored_edits listing edit_all
  restored_again =
      let b = begins s sendable in
      let numbers : root + length (filter is_first (map entry_of (paths_of s))) ≤ greatest_number = sendable.numbers in
      let numbers' : root + length (filter is_first (map entry_of (([], root) ∷ b.rest))) ≤ greatest_number = subst (λ (m : Map (List ℕ) ℕ). root + length (filter is_first (map entry_of m)) ≤ greatest_number) b.are numbers in
      let rest_fits : (root_alone {C = Cell}).next + length (filter is_first (map entry_of b.rest)) ≤ greatest_number = fits b.rest numbers' in
      let one = all_placed only_first b.rest (sym b.are) root_alone root_stage b.some rest_fits in
      let h : Stage (paths_of s) one.0 = subst (λ (m : Map (List ℕ) ℕ). Stage m one.0) (sym b.are) one.2 in
      let two = back_all one.0 h (paths_of s) (paths_ordered s) (λ e a. a) in
      let most = whole one.0 h two.0 two.1 two.2 in
      let three = last_capabilities s sendable two.0 most in
      let behind : edit_all (directories_back s (paths_of s) ++ flat_map (capabilities s) (paths_of s)) one.0 ≡ Ok three.0 =
      edit_all-append (directories_back s (paths_of s)) (flat_map (capabilities s) (paths_of s)) one.0 ∙ ap (λ (r : Result (Subvolume Cell) Refusal). r >>= edit_all (flat_map (capabilities s) (paths_of s))) two.1 ∙ three.1 in
      let first_taken : edit_all (flat_map (placed s) (paths_of s)) root_alone ≡ Ok one.0 =
      ap (λ (m : Map (List ℕ) ℕ). edit_all (flat_map (placed s) m) root_alone) b.are ∙ ap (λ (cs : List Command). edit_all (cs ++ flat_map (placed s) b.rest) root_alone) root_placed ∙ one.1 in (
        three.0,
        record {
          taken = edit_all-append (flat_map (placed s) (paths_of s)) (directories_back s (paths_of s) ++ flat_map (capabilities s) (paths_of s)) root_alone
              ∙ ap (λ (r : Result (Subvolume Cell) Refusal). r >>= edit_all (directories_back s (paths_of s) ++ flat_map (capabilities s) (paths_of s))) first_taken ∙ behind;
          lawful = three.2.good;
          same = same_listing s sendable three.0 three.2;
        },
      )
    where
      first_root : is_first ([], listed s root) ≡ true
      first_root = ap (λ (l : Listed Cell). bytes_eq [] l.first) (root_entry s sendable).listed_is ∙ ap (bytes_eq []) (root_first s sendable)

      fits : (rest : Map (List ℕ) ℕ) → root + length (filter is_first (map entry_of (([], root) ∷ rest))) ≤ greatest_number → (root_alone {C = Cell}).next + length (filter is_first (map entry_of rest)) ≤ greatest_number
      fits rest h =
          let b : Bool = is_first ([], listed s root) in
          let counted : length (filter is_first (map entry_of (([], root) ∷ rest))) ≡ (if b then 1 else 0) + length (filter is_first (map entry_of rest)) = counted_one s sendable b ([], listed s root) (filter is_first (map entry_of rest)) in
          let one : ◌≡◌ {A = ℕ} (if b then 1 else 0) 1 = ap (λ (c : Bool). if c then 1 else 0) first_root in
          omega (arith, h, counted, one, root_next s sendable)

pub restored_edits_are_taken : RestoredEditsAreTaken
restored_edits_are_taken s sendable low = restored_again s sendable low
