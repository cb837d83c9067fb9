-- The path of an entry of a directory, and the directory of a path.
use Rattle.std.specs.Prelude.{◌≡◌, ℕ, ◌≤◌, ◌<◌, Bool, true, false, ◌&&◌, List, [], ◌∷◌, ◌++◌, length, Some, Ok}
use Rattle.std.specs.declared.cmp.Ordering.{Ordering}
use Rattle.std.specs.declared.cmp.Ordering.TheVariants.{Less}
use Rattle.std.specs.Ordering.{ordering_then}
use Rattle.std.specs.Cmp.{tied_itself, nat_cmp_total}
use Rattle.std.specs.List.{list_all}
use Rattle.std.proofs.Common.{refl, sym, ap, ap₂, subst, ◌∙◌, arith, length-append}
use Rattle.std.proofs.lemmas.Bool.{true≢false}
use Rattle.send_model.specs.Path.{slash, is_name, between_slashes, path_names}
use Rattle.send_model.specs.Map.{bytes_cmp, named_cmp}
use Rattle.send_model.specs.Subvolume.{Subvolume, IsLawful, root, named, walk, path_below}
use Rattle.send_model.proofs.Sorts.{same_inside}
use Rattle.send_model.proofs.WalkLaws.{Leads, Step, leads-append}
use Rattle.send_model.proofs.PathLaws.{path_by_pieces, path_names_pieces, path_names_short, is_name_length}
use Rattle.send_model.proofs.FirstPaths.{slashes_append}
use Rattle.send_model.proofs.MapLaws.{named_cmp_total, named_cmp_exact}
use Rattle.send_model.proofs.LeastPaths.{all_at, found_entry, name_has_no_slash, no_slash_alone, join_names, joined}
use Rattle.snapshot_model.proofs.SentPaths.{Walked, walked, walks_to}
use Rattle.snapshot_model.proofs.SentWalks.{Ends, AtNone, AtLast, ends, leads_last, above}
use Rattle.path_walk.specs.Ahead.{IsEntry}
use Rattle.path_walk.specs.Passing.{IsAfter}

-- ---- a name behind a path

names_append : (name : List ℕ) (ns : List (List ℕ)) → is_name name ≡ true → list_all is_name ns ≡ true → list_all is_name (ns ++ name ∷ []) ≡ true
names_append name [] is g = rw is refl
names_append name (n ∷ ns) is g = one (is_name n) g (names_append name ns is)
  where
    one : (t : Bool) → t && list_all is_name ns ≡ true → (list_all is_name ns ≡ true → list_all is_name (ns ++ name ∷ []) ≡ true) → t && list_all is_name (ns ++ name ∷ []) ≡ true
    one true u more = more u
    one false u more = absurd (true≢false (sym u))

below_names : (front name : List ℕ) (ns : List (List ℕ)) → path_names front ≡ Some ns → is_name name ≡ true → length (path_below front name) ≤ 4095 → path_names (path_below front name) ≡ Some (ns ++ name ∷ [])
unfolding path_names
below_names [] name ns are is short =
    let alone : between_slashes name ≡ name ∷ [] = no_slash_alone name (name_has_no_slash name is) in
    let none : [] ≡ ns = same_inside are in
    path_by_pieces name true (omega (arith, is_name_length name is)) short (ap (list_all is_name) alone ∙ rw is refl) ∙ ap Some alone ∙ ap (λ (l : List (List ℕ)). Some (l ++ name ∷ [])) none
below_names (b ∷ front) name ns are is short =
    let alone : between_slashes name ≡ name ∷ [] = no_slash_alone name (name_has_no_slash name is) in
    let pieces = path_names_pieces (b ∷ front) ns (omega arith) are in
    let all : between_slashes ((b ∷ front) ++ slash ∷ name) ≡ ns ++ name ∷ [] = slashes_append (b ∷ front) name ∙ ap₂ (λ (x y : List (List ℕ)). x ++ y) (sym pieces.0) alone in
    let good : list_all is_name (ns ++ name ∷ []) ≡ true = names_append name ns is (ap (list_all is_name) pieces.0 ∙ pieces.1) in
    path_by_pieces ((b ∷ front) ++ slash ∷ name) true (omega arith) short (ap (list_all is_name) all ∙ good) ∙ ap Some all

cmp_longer : (p : List ℕ) (b : ℕ) (more : List ℕ) → bytes_cmp p (p ++ b ∷ more) ≡ Less
cmp_longer [] b more = refl
cmp_longer (x ∷ p) b more = ap (λ (r : Ordering). ordering_then r (bytes_cmp p (p ++ b ∷ more))) (tied_itself nat_cmp_total x) ∙ cmp_longer p b more

-- It comes after that path.
pub below_after : (front name : List ℕ) → 1 ≤ length name → IsAfter front (path_below front name)
below_after [] [] some = absurd (omega (arith, some))
below_after [] (b ∷ name) some = refl
below_after (b ∷ front) name some = cmp_longer (b ∷ front) slash name

longer : (p name : List ℕ) → 1 ≤ length name → length p < length (path_below p name)
longer [] name some = omega (arith, some)
longer (b ∷ p) name some = omega (arith, length-append (b ∷ p) (slash ∷ name))

join_last : (path : List ℕ) (front : List (List ℕ)) (name : List ℕ) → join_names path (front ++ name ∷ []) ≡ path_below (join_names path front) name
join_last path [] name = refl
join_last path (n ∷ front) name = join_last (path_below path n) front name

module _ {C : Type 0} (s : Subvolume C) (lawful : IsLawful s) where
  pub lawful_name : (directory : ℕ) (name : List ℕ) (ino : ℕ) → named s directory name ≡ Some ino → is_name name ≡ true
  lawful_name directory name ino is =
      all_at (λ (f : (ℕ × List ℕ) × ℕ). is_name f.0.1 ≡ true) ((directory, name), ino) s.names lawful.lawful_names (found_entry named_cmp named_cmp_total named_cmp_exact (directory, name) ino s.names is)

  -- An entry's path leads to it, and comes after its directory's.
  pub entry_walks : (front : List ℕ) (directory : ℕ) (path : List ℕ) (ino : ℕ) → walk s front ≡ Ok directory → IsEntry s front directory path ino → (walk s path ≡ Ok ino) × IsAfter front path
  entry_walks front directory path ino w e =
      let a = walked s front directory w in
      let is : is_name e.name ≡ true = lawful_name directory e.name ino e.there in
      let names : path_names (path_below front e.name) ≡ Some (a.names ++ e.name ∷ []) = below_names front e.name a.names a.names_are is (subst (λ (p : List ℕ). length p ≤ 4095) e.path_is e.short) in
      let leads : Leads (Step s) (a.names ++ e.name ∷ []) root ino =
      leads-append (Step s) (Step s) a.names (e.name ∷ []) root directory ino a.leads (ino, (lawful.sound.in_directory directory e.name ino e.there, e.there), refl) in (
        subst (λ (p : List ℕ). walk s p ≡ Ok ino) (sym e.path_is) (walks_to s (path_below front e.name) (a.names ++ e.name ∷ []) ino names leads),
        subst (λ (p : List ℕ). IsAfter front p) (sym e.path_is) (below_after front e.name (is_name_length e.name is).0),
      )

  -- A path is the root's, or that of an entry of a directory whose path stands before it.
  pub data Place (path : List ℕ) (ino : ℕ) : Type 0 where
    AtRoot : path ≡ [] → Place path ino
    InDirectory : (front : List ℕ) (directory : ℕ) → walk s front ≡ Ok directory → IsEntry s front directory path ino → IsAfter front path → length front < length path → Place path ino

  pub place_of : (path : List ℕ) (ino : ℕ) → walk s path ≡ Ok ino → Place path ino
  place_of path ino w = one (ends a.names)
    where
      a : Walked s path ino
      a = walked s path ino w

      whole : join_names [] a.names ≡ path
      whole = (joined s path a.names a.names_are).0

      one : Ends a.names → Place path ino
      one (AtNone none) = AtRoot (sym whole ∙ ap (join_names []) none)
      one (AtLast front name are) =
          let names : path_names path ≡ Some (front ++ name ∷ []) = a.names_are ∙ ap (λ (l : List (List ℕ)). Some l) are in
          let up = above s path front name names in
          let l = leads_last (Step s) front name root ino (subst (λ (r : List (List ℕ)). Leads (Step s) r root ino) are a.leads) in
          let join : join_names [] front ≡ up.path = (joined s up.path front up.names_are).0 in
          let below : path ≡ path_below up.path name = sym whole ∙ ap (join_names []) are ∙ join_last [] front name ∙ ap (λ (p : List ℕ). path_below p name) join in
          let short : length path ≤ 4095 = path_names_short path a.names a.names_are in
          let walks : walk s up.path ≡ Ok l.0 = walks_to s up.path front l.0 up.names_are l.1 in
          let e : IsEntry s up.path l.0 path ino = record { name = name; path_is = below; there = l.2.1; short = short } in
          let some = (is_name_length name (lawful_name l.0 name ino l.2.1)).0 in
          InDirectory up.path l.0 walks e up.before (omega (arith, ap length below, longer up.path name some))
