-- The commands of a subvolume that is restored, path by path; and which of its paths lead to
-- directories.
use Rattle.std.specs.Prelude.{◌≡◌, ℕ, Bool, true, false, cond, List, [], ◌∷◌, ◌++◌, map, Option, None, Some, Ok, Result, Err, OnOk, IfErr, is_some, IsTrue, if◌then◌else◌}
use Rattle.std.specs.List.{flat_map, AllByRecursion}
use Rattle.std.specs.Option.{unwrap_or}
use Rattle.std.specs.Str.{bytes_eq}
use Rattle.std.specs.Cmp.Lexicographic.{nat_list_cmp_total}
use Rattle.std.proofs.Common.{refl, sym, ap, subst, ◌∙◌, append-nil, inl, inr}
use Rattle.std.proofs.lemmas.List.Elements.{filter-append}
use Rattle.std.proofs.lemmas.Map.Lookups.{exact_bytes}
use Rattle.send_model.specs.Command.{Command, Rename, Link}
use Rattle.send_model.specs.Map.{Map, bytes_cmp}
use Rattle.send_model.specs.Subvolume.{Inode, Subvolume, IsLawful, walk, inode_at, is_directory, passes_inode, is_directory_kind, new_directory, all_paths}
use Rattle.send_model.proofs.LeastPaths.{Among, all_from_among, entry_found, first_path_there, first_path_is_first}
use Rattle.send_model.proofs.Stores.{bytes_eq_same}
use Rattle.snapshot_model.specs.Listing.{listed, paths_of}
use Rattle.snapshot_model.specs.Sent.{making, contents_commands}
use Rattle.snapshot_model.specs.Restored.{temporary, has_temporary, finishing, arriving, placed_inode, placed, directories_back, capabilities, restored_edits}
use Rattle.snapshot_model.proofs.SentPaths.{walked, walked_there, paths_ordered, path_found_walks}
use Rattle.snapshot_model.proofs.SentWalks.{names_path, one_way}
use Rattle.inode_commands.specs.Spelled.{spelled_all}
use Rattle.inode_commands.proofs.Joined.{all_joined}
use Rattle.path_walk.specs.Passing.{Passed, earlier}
use Rattle.path_walk.proofs.Passes.{root_walks}
use Rattle.group_replay.specs.declared.place.Place.{Place}
use Rattle.group_replay.specs.Kept.{IsKept}
use Rattle.store_commands.specs.declared.ends.StoreEnd.{StoreEnd}
use Rattle.store_commands.specs.declared.ends.StoreEnd.TheVariants as made
use Rattle.sx_base.specs.Calls.{Wrote}
use Rattle.sx_base.specs.declared.outcome.Outcome.TheVariants as ended
use Rattle.full_send.specs.Held.{held_cell, with_holes}
use Rattle.full_send.specs.Adding.{IsCutBy, Adds}
use Rattle.full_send.specs.Directories.{directories_in, LacksMemory}
use Rattle.full_send.proofs.Added.{none_added, nothing_sent}
use Rattle.full_send.proofs.LastCapabilities.{all_same}
use Rattle.full_send.proofs.Parts.{PartAdded, part_stops}
use Rattle.full_send.proofs.HeldInodes.{holed, holed_is, same_making, map_twice, first_same}
use Rattle.full_send.proofs.Walking.{Reached, so_far, Goes, all_paths_are}

-- ---- directories

module _ {C : Type 0} (s : Subvolume C) (lawful : IsLawful s) (at : List ℕ) (ino : ℕ) (leads : walk s at ≡ Ok ino) where
  -- A directory has one path, so this is its first.
  pub directory_first : is_directory s ino ≡ true → (listed s ino).first ≡ at
  unfolding listed
  directory_first dir =
      let there = first_path_there s ino at leads in
      let a = walked s at ino leads in
      let b = walked s there.0 ino (first_path_is_first s lawful ino there.0 there.1).leads in
      let ways : a.names ≡ b.names = one_way s lawful.sound a.names b.names ino dir a.leads b.leads in
      let same : there.0 ≡ at = names_path s there.0 at a.names (b.names_are ∙ ap (λ n. Some n) (sym ways)) a.names_are in
      ap (λ (o : Option (List ℕ)). unwrap_or o []) there.1 ∙ same

  kind_by : (b : Bool) (o : Option (Inode C)) → IsTrue (is_some o) → passes_inode (λ inode. is_directory_kind inode.kind) o ≡ b → is_directory_kind (unwrap_or o new_directory).kind ≡ b
  kind_by b None there is = cc
  kind_by b (Some inode) there is = is

  pub kind_listed : (b : Bool) → is_directory s ino ≡ b → is_directory_kind (listed s ino).inode.kind ≡ b
  unfolding listed is_directory
  kind_listed b is = kind_by b (inode_at s ino) (walked_there s lawful.sound at ino leads) is

  one_in : (b : Bool) → is_directory_kind (listed s ino).inode.kind ≡ b → directories_in s ((at, ino) ∷ []) ≡ (if b then (at, ino) ∷ [] else [])
  one_in b is = ap (λ (t : Bool). cond {A = Map (List ℕ) ℕ} t ((at, ino) ∷ []) []) is

  module _ (p : Passed C) (passed : p.subvolume ≡ s) (here : p.at ≡ at) where
    earliest : is_directory s ino ≡ true → earlier p ino ≡ None
    earliest dir =
        let first : (listed p.subvolume ino).first ≡ p.at = ap (λ (t : Subvolume C). (listed t ino).first) passed ∙ directory_first dir ∙ sym here in
        ap (λ (f : List ℕ). if bytes_eq p.at f then None else Some f) first ∙ rw (bytes_eq_same p.at) refl

    -- What has an earlier path is none.
    pub link_in : (first : List ℕ) → earlier p ino ≡ Some first → directories_in s ((at, ino) ∷ []) ≡ []
    link_in first is = one (is_directory s ino) refl
      where
        one : (b : Bool) → is_directory s ino ≡ b → directories_in s ((at, ino) ∷ []) ≡ []
        one false plain = one_in false (kind_listed false plain)
        one true dir = let none : earlier p ino ≡ None = earliest dir in cc (none, is)

-- Those of all paths have the paths that they are passed by.
pub directories_lead : {C : Type 0} (s : Subvolume C) → IsLawful s → AllByRecursion (λ e. walk s e.0 ≡ Ok e.1) (directories_in s (paths_of s))
directories_lead {C} s lawful = all_from_among P (directories_in s (paths_of s)) (λ e among. path_found_walks s lawful e.0 e.1 (entry_found bytes_cmp nat_list_cmp_total exact_bytes e (paths_of s) (paths_ordered s) (inside (paths_of s) e among)))
  where
    P : List ℕ × ℕ → Type 0
    P e = walk s e.0 ≡ Ok e.1

    inside_by : (b : Bool) (f e : List ℕ × ℕ) (m : Map (List ℕ) ℕ) (kept : Map (List ℕ) ℕ) → (Among e kept → Among e m) → Among e (cond b (f ∷ kept) kept) → Among e (f ∷ m)
    inside_by false f e m kept more a = inr (more a)
    inside_by true f e m kept more (inl same) = inl same
    inside_by true f e m kept more (inr a) = inr (more a)

    inside : (m : Map (List ℕ) ℕ) (e : List ℕ × ℕ) → Among e (directories_in s m) → Among e m
    inside [] e a = a
    inside (f ∷ m) e a = inside_by (is_directory_kind (listed s f.1).inode.kind) f e m (directories_in s m) (inside m e) a

-- ---- an inode

module _ (s : Subvolume (Option Place)) (end : ℕ) (kept : IsKept end s) (path : List ℕ) (ino : ℕ) (leads : walk s path ≡ Ok ino) (inode : Inode (Option Place)) (is : inode_at s ino ≡ Some inode) where
  pub listed_is : (listed s ino).inode ≡ inode
  unfolding listed
  listed_is = ap (λ (o : Option (Inode (Option Place))). unwrap_or o new_directory) is

  kind_in : (b : Bool) → is_directory_kind inode.kind ≡ b → directories_in s ((path, ino) ∷ []) ≡ (if b then (path, ino) ∷ [] else [])
  kind_in b kind = one_in s kept.lawful path ino leads b (ap (λ (j : Inode (Option Place)). is_directory_kind j.kind) listed_is ∙ kind)

  pub directory_in : is_directory_kind inode.kind ≡ true → directories_in s ((path, ino) ∷ []) ≡ (path, ino) ∷ []
  directory_in kind = kind_in true kind

  pub none_in : is_directory_kind inode.kind ≡ false → directories_in s ((path, ino) ∷ []) ≡ []
  none_in kind = kind_in false kind

  module _ (image : List ℕ) where
    abbrev pub filling : List Command
    filling = contents_commands path (map (held_cell image) inode.cells) ++ finishing path inode

    arriving_same : (at_once : Bool) (p : List ℕ) → arriving at_once ino p (holed s end kept path ino leads inode is image) ≡ arriving at_once ino p inode
    arriving_same at_once [] = refl
    arriving_same true (b ∷ p) = ap (λ (c : Command). c ∷ []) (same_making s end kept path ino leads inode is image (b ∷ p) inode.kind)
    arriving_same false (b ∷ p) = ap (λ (c : Command). c ∷ Rename (temporary ino) (b ∷ p) ∷ []) (same_making s end kept path ino leads inode is image (temporary ino) inode.kind)

    placed_by : (at_once b : Bool) → is_directory_kind inode.kind ≡ b → placed_inode at_once ino path (listed (with_holes image s) ino).inode ≡ arriving at_once ino path inode ++ (if b then [] else filling)
    placed_by at_once b kind =
        ap (placed_inode at_once ino path) (holed_is s end kept path ino leads inode is image)
        ∙ ap (λ (l : List Command). l ++ (if is_directory_kind inode.kind then [] else contents_commands path (holed s end kept path ino leads inode is image).cells ++ finishing path inode)) (arriving_same at_once path)
        ∙ ap (λ (cells : List (Option ℕ)). arriving at_once ino path inode ++ (if is_directory_kind inode.kind then [] else contents_commands path cells ++ finishing path inode)) (map_twice s end kept path ino leads inode is image inode.cells)
        ∙ ap (λ (t : Bool). arriving at_once ino path inode ++ (if t then [] else filling)) kind

    module _ (spelled : ℕ → Command → List ℕ) (version : ℕ) (at_once : Bool) where
      abbrev arrival : List ℕ
      arrival = spelled_all spelled version (arriving at_once ino path inode)

      abbrev whole : List ℕ
      whole = spelled_all spelled version (placed_inode at_once ino path (listed (with_holes image s) ino).inode)

      abbrev pub rest_of : Bool → List ℕ
      rest_of b = spelled_all spelled version (if b then [] else filling)

      -- It arrives first.
      pub spelled_first : (b : Bool) → is_directory_kind inode.kind ≡ b → whole ≡ arrival ++ rest_of b
      spelled_first b kind = ap (spelled_all spelled version) (placed_by at_once b kind) ∙ all_joined spelled version (arriving at_once ino path inode) (if b then [] else filling)

-- ---- how an inode arrives

module _ (spelled : ℕ → Command → List ℕ) (version ino : ℕ) (inode : Inode (Option Place)) where
  abbrev arrives : Bool → List ℕ → List ℕ
  arrives at_once path = spelled_all spelled version (arriving at_once ino path inode)

  pub arrives_root : (at_once : Bool) (path : List ℕ) → path ≡ [] → arrives at_once path ≡ []
  arrives_root at_once path none = ap (arrives at_once) none

  pub arrives_at_once : (at_once : Bool) (path : List ℕ) → (path ≡ [] → ⊥) → at_once ≡ true → arrives at_once path ≡ spelled version (making path inode.kind inode)
  arrives_at_once at_once [] some is = absurd (some refl)
  arrives_at_once at_once (b ∷ path) some is = ap (λ (t : Bool). arrives t (b ∷ path)) is ∙ append-nil (spelled version (making (b ∷ path) inode.kind inode))

  pub arrives_by_name : (at_once : Bool) (path way : List ℕ) → (path ≡ [] → ⊥) → at_once ≡ false → way ≡ temporary ino → arrives at_once path ≡ spelled version (making way inode.kind inode) ++ spelled version (Rename way path)
  arrives_by_name at_once [] way some is named = absurd (some refl)
  arrives_by_name at_once (b ∷ path) way some is named =
      ap (λ (t : Bool). arrives t (b ∷ path)) is
      ∙ ap (λ (w : List ℕ). spelled version (making w inode.kind inode) ++ (spelled version (Rename w (b ∷ path)) ++ [])) (sym named)
      ∙ ap (λ (l : List ℕ). spelled version (making way inode.kind inode) ++ l) (append-nil (spelled version (Rename way (b ∷ path))))

-- ---- a path

module _ (s : Subvolume (Option Place)) (lawful : IsLawful s) (p : Passed (Option Place)) (passed : p.subvolume ≡ s) (ino : ℕ) (leads : walk s p.at ≡ Ok ino) (image : List ℕ) where
  abbrev by_first : Bool → List ℕ → List Command
  by_first b first = if b then placed_inode (has_temporary s ino) ino p.at (listed (with_holes image s) ino).inode else Link p.at first ∷ []

  placed_by_first : placed (with_holes image s) (p.at, ino) ≡ by_first (bytes_eq p.at (listed p.subvolume ino).first) (listed p.subvolume ino).first
  placed_by_first = ap (λ (first : List ℕ). by_first (bytes_eq p.at first) first) (first_same s lawful p passed ino leads image)

  -- Another path is the first: it is a link.
  pub placed_link : (first : List ℕ) → earlier p ino ≡ Some first → placed (with_holes image s) (p.at, ino) ≡ Link p.at first ∷ []
  placed_link first is = placed_by_first ∙ one (bytes_eq p.at (listed p.subvolume ino).first) (listed p.subvolume ino).first is
    where
      one : (b : Bool) (found : List ℕ) → (if b then None else Some found) ≡ Some first → by_first b found ≡ Link p.at first ∷ []
      one true found same = cc
      one false found same = let own : found ≡ first = cc in ap (λ (f : List ℕ). Link p.at f ∷ []) own

  -- It is the first itself.
  pub placed_own : earlier p ino ≡ None → placed (with_holes image s) (p.at, ino) ≡ placed_inode (has_temporary s ino) ino p.at (listed (with_holes image s) ino).inode
  placed_own is = placed_by_first ∙ one (bytes_eq p.at (listed p.subvolume ino).first) (listed p.subvolume ino).first is
    where
      one : (b : Bool) (found : List ℕ) → (if b then None else Some found) ≡ None → by_first b found ≡ placed_inode (has_temporary s ino) ino p.at (listed (with_holes image s) ino).inode
      one true found none = refl
      one false found none = cc

-- ---- all paths

module _ (image : List ℕ) (s : Subvolume (Option Place)) where
  abbrev pub places : Map (List ℕ) ℕ → List Command
  places m = flat_map (placed (with_holes image s)) m

  pub restored_are : restored_edits (with_holes image s) ≡ places (paths_of s) ++ (directories_back (with_holes image s) (paths_of s) ++ flat_map (capabilities (with_holes image s)) (paths_of s))
  unfolding restored_edits paths_of all_paths
  restored_are = refl

  root_places : IsLawful s → placed (with_holes image s) ([], 256) ≡ placed_inode (has_temporary s 256) 256 [] (listed (with_holes image s) 256).inode
  root_places lawful =
      let p : Passed (Option Place) = record { subvolume = s; at = [] } in
      placed_own s lawful p refl 256 (root_walks s) image (earliest s lawful [] 256 (root_walks s) p refl refl lawful.sound.root_there)

  module _ (spelled : ℕ → Command → List ℕ) (version : ℕ) where
    abbrev spells : List Command → List ℕ
    spells cs = spelled_all spelled version cs

    -- The root in front.
    pub places_begin : IsLawful s → (p : Passed (Option Place)) (r : Reached s p) → so_far r ≡ ([], 256) ∷ []
        → spells (places (paths_of s)) ≡ spells (placed_inode (has_temporary s 256) 256 [] (listed (with_holes image s) 256).inode) ++ spells (places r.rest)
    places_begin lawful p r is =
        ap (λ (m : Map (List ℕ) ℕ). spells (places m)) (all_paths_are s p r ∙ ap (λ (m : Map (List ℕ) ℕ). m ++ r.rest) is)
        ∙ ap (λ (l : List Command). spells (l ++ places r.rest)) (root_places lawful)
        ∙ all_joined spelled version (placed_inode (has_temporary s 256) 256 [] (listed (with_holes image s) 256).inode) (places r.rest)

    -- One path, and those behind it.
    pub next_places : (p q : Passed (Option Place)) (r : Reached s p) (ino : ℕ) (goes : Goes s p r q ino)
        → spells (places r.rest) ≡ spells (placed (with_holes image s) (q.at, ino)) ++ spells (places goes.reached.rest)
    next_places p q r ino goes = ap (λ (m : Map (List ℕ) ℕ). spells (places m)) goes.rest_is ∙ all_joined spelled version (placed (with_holes image s) (q.at, ino)) (places goes.reached.rest)

    -- What directories have comes behind all paths, and capabilities behind that.
    pub directories_behind : spells (restored_edits (with_holes image s)) ≡ spells (places (paths_of s)) ++ (spells (directories_back (with_holes image s) (paths_of s)) ++ spells (flat_map (capabilities s) (paths_of s)))
    directories_behind =
        let back : List Command = directories_back (with_holes image s) (paths_of s) in
        ap spells restored_are
        ∙ ap (λ (l : List Command). spells (places (paths_of s) ++ (back ++ l))) (all_same image s (paths_of s))
        ∙ all_joined spelled version (places (paths_of s)) (back ++ flat_map (capabilities s) (paths_of s))
        ∙ ap (λ (l : List ℕ). spells (places (paths_of s)) ++ l) (all_joined spelled version back (flat_map (capabilities s) (paths_of s)))

-- The directories of the paths so far.
pub directories_next : {C : Type 0} (s : Subvolume C) (done before after : Map (List ℕ) ℕ) (e : List ℕ × ℕ) → before ≡ directories_in s done → after ≡ before ++ directories_in s (e ∷ [])
    → after ≡ directories_in s (done ++ e ∷ [])
directories_next s done before after e is more =
    more ∙ ap (λ (m : Map (List ℕ) ℕ). m ++ directories_in s (e ∷ [])) is ∙ sym (filter-append (λ f. is_directory_kind (listed s f.1).inode.kind) done (e ∷ []))

-- ---- what is kept

-- What holds whether or not a call was done.
pub on_ok : (result : Result (Unit {0}) StoreEnd) (P : Type 0) → P → OnOk result P
on_ok (Ok done) P p = p
on_ok (Err end) P p = tt

-- A call that may lack memory writes nothing.
pub kept_adds : (old : List ℕ) (taken : Option (List ℕ)) (result : Result (Unit {0}) StoreEnd) → IfErr result LacksMemory → Adds [] old old taken taken result
kept_adds old taken (Ok done) memory = none_added old taken
kept_adds old taken (Err end) memory = subst (λ (e : StoreEnd). Wrote taken taken (IsCutBy e (old ++ []))) (sym memory) (nothing_sent [] old taken)

-- Some of a text was added, and there is no memory for the rest.
pub part_no_memory : (all left old now : List ℕ) (first last : Option (List ℕ)) → PartAdded all left old now first last → Adds all old now first last (Err (made.Ends ended.NoMemory))
part_no_memory all left old now first last p = part_stops all left [] left old now now first last last (made.Ends ended.NoMemory) refl p (nothing_sent [] now last)
