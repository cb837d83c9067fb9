-- The edits that are sent of a whole subvolume are taken, by induction along its listing, and make
-- one with the same listing.
use Rattle.std.specs.Prelude.{◌≡◌, ℕ, ◌+◌, ◌≤◌, Bool, true, false, T, ◌&&◌, List, [], ◌∷◌, ◌++◌, map, length, Option, None, Some, Result, Ok, is_some, if◌then◌else◌}
use Rattle.std.specs.declared.cmp.Ordering.TheVariants.{Less, Equal}
use Rattle.std.specs.Ordering.{nat_cmp, is_lt}
use Rattle.std.specs.Cmp.Lexicographic.{nat_list_cmp_total}
use Rattle.std.specs.Option.{unwrap_or, option_map}
use Rattle.std.specs.Str.{bytes_eq}
use Rattle.std.specs.List.{AllByRecursion, flat_map, filter}
use Rattle.std.specs.FinMap.Entries.{below_all, is_sorted, same_entries}
use Rattle.std.proofs.Common.{refl, sym, ap, ap₂, subst, ◌∙◌, arith, inl, inr, append_assoc, append-nil}
use Rattle.std.proofs.lemmas.Bool.{true≢false}
use Rattle.std.proofs.lemmas.Map.Lookups.{exact_bytes}
use Rattle.send_model.specs.Refusal.{Refusal}
use Rattle.send_model.specs.Chain.{◌>>=◌}
use Rattle.send_model.specs.Command.{Command, Link, SetXattr}
use Rattle.send_model.specs.Path.{path_names}
use Rattle.send_model.specs.Map.{Map, IsMap, bytes_cmp, value_at}
use Rattle.send_model.specs.Subvolume.{NodeKind, File, Directory, SymbolicLink, CharacterDevice, BlockDevice, Fifo, Socket, is_directory_kind, passes_inode, Inode, Subvolume, root, root_alone, new_directory, walk, is_directory, inode_at, first_path}
use Rattle.send_model.specs.Edit.{greatest_number, make}
use Rattle.snapshot_model.specs.Listing.{Listed, listed, listing, paths_of}
use Rattle.snapshot_model.specs.Sent.{listed_commands, inode_commands, contents_commands, setting_commands, sent_edits, edit_all}
use Rattle.snapshot_model.specs.SentLaws.{made, IsMade, is_first, IsSendable, MakesAgain, SentEditsAreTaken}
use Rattle.send_model.proofs.Stores.{bytes_eq_true, bytes_eq_same}
use Rattle.send_model.proofs.MapLaws.{T_left, T_right, is_less}
use Rattle.send_model.proofs.CellMaps.{value_at-map}
use Rattle.send_model.proofs.Keeping.{all_found}
use Rattle.send_model.proofs.LawfulEdits.{root_alone_is_lawful}
use Rattle.send_model.proofs.WalkLaws.{Leads, Step}
use Rattle.send_model.proofs.LeastPaths.{Among, NotAfter, entry_found, found_entry, first_path_there, first_path_is_first, first_is_first_path}
use Rattle.snapshot_model.proofs.SentWalks.{names_path}
use Rattle.snapshot_model.proofs.SentPaths.{walked, walks_to, walked_there, paths_ordered, path_found_walks, walked_path_found, entry_below, among_end}
use Rattle.snapshot_model.proofs.SentInodes.{walks, settled, edit_all-append}
use Rattle.snapshot_model.proofs.SentParts.{first, Twin, Holds, grown_holds}
use Rattle.snapshot_model.proofs.SentSteps.{making_is, making_some, edits_keep_lawful, comes, links, twin}

abbrev Cell : Type 0
Cell = Option ℕ

pub inode_there : (o : Option (Inode Cell)) → is_some o ≡ true → (inode : Inode Cell) × (o ≡ Some inode)
inode_there None e = cc
inode_there (Some inode) e = (inode, refl)

pub made_directory : (k : NodeKind) (inode : Inode Cell) → is_directory_kind k ≡ true → new_directory ≡ made k inode
made_directory Directory inode e = refl
made_directory File inode e = cc
made_directory SymbolicLink inode e = cc
made_directory CharacterDevice inode e = cc
made_directory BlockDevice inode e = cc
made_directory Fifo inode e = cc
made_directory Socket inode e = cc

not_after_none : (f : List ℕ) → NotAfter f [] → f ≡ []
not_after_none [] n = refl
not_after_none (b ∷ f) n = absurd (n refl)

not_below_none : (q : List ℕ) → bytes_cmp q [] ≡ Less → ⊥
not_below_none [] e = cc
not_below_none (b ∷ q) e = cc

above_none : (q : List ℕ) → bytes_cmp [] q ≡ Less → q ≡ [] → ⊥
above_none q e at = let tie : bytes_cmp [] q ≡ Equal = ap (bytes_cmp []) at in cc (tie, e)

pub root_names : path_names [] ≡ Some []
unfolding path_names
root_names = refl

abbrev pub only_first : Map (List ℕ) ℕ
only_first = ([], root) ∷ []

-- ---- maps whose values are changed

module _ {X Y : Type 0} (g : X → Y) where
  below_map : (k : List ℕ) (m : Map (List ℕ) X) → below_all bytes_cmp k (map (λ e. (e.0, g e.1)) m) ≡ below_all bytes_cmp k m
  below_map k [] = refl
  below_map k (e ∷ m) = ap (λ (b : Bool). is_lt (bytes_cmp k e.0) && b) (below_map k m)

  ordered_map : (m : Map (List ℕ) X) → IsMap bytes_cmp m → IsMap bytes_cmp (map (λ e. (e.0, g e.1)) m)
  ordered_map m h = subst T (sym (same m)) h
    where
      same : (m : Map (List ℕ) X) → is_sorted bytes_cmp (map (λ e. (e.0, g e.1)) m) ≡ is_sorted bytes_cmp m
      same [] = refl
      same (e ∷ m) = ap₂ (λ (a b : Bool). a && b) (below_map e.0 m) (same m)

abbrev setting : List ℕ → Inode Cell → List Command
setting p inode = map (λ e. SetXattr e.0 e.1 p) inode.xattrs ++ (contents_commands p inode.cells ++ setting_commands p inode)

made_first : (p : List ℕ) (inode : Inode Cell) (t : Subvolume Cell) → (p ≡ [] → ⊥) → (u : Subvolume Cell) → make (made inode.kind inode) p t ≡ Ok u → edit_all (inode_commands p inode) t ≡ edit_all (setting p inode) u
unfolding edit_all
made_first p inode t some u e =
    ap (λ (cs : List Command). edit_all (cs ++ setting p inode) t) (making_some p inode some)
    ∙ ap (λ (r : Result (Subvolume Cell) Refusal). r >>= edit_all (setting p inode)) (making_is p inode.kind inode t ∙ e)

module _ (s : Subvolume Cell) (sendable : IsSendable s) where
  pub kind_by : (inode : Inode Cell) → inode_at s root ≡ Some inode → is_directory s root ≡ is_directory_kind inode.kind
  unfolding is_directory
  kind_by inode at = ap (passes_inode (λ (inode : Inode Cell). is_directory_kind inode.kind)) at

  abbrev entries : Map (List ℕ) ℕ → Map (List ℕ) (Listed Cell)
  entries m = map (λ e. (e.0, listed s e.1)) m

  abbrev commands : Map (List ℕ) ℕ → List Command
  commands m = flat_map listed_commands (entries m)

  abbrev pub NotRoot : List ℕ × ℕ → Type 0
  NotRoot e = e.0 ≡ [] → ⊥

  pub own_alike : (i : ℕ) → passes_inode (λ inode. is_directory_kind inode.kind) (inode_at s i) ≡ is_directory s i
  unfolding is_directory
  own_alike i = refl

  -- ---- what a path of the listing says

  pub record Entry (p : List ℕ) (i : ℕ) : Type 0 where
    pub walks : walk s p ≡ Ok i
    pub inode : Inode Cell
    pub at : inode_at s i ≡ Some inode
    pub is : IsMade inode
    pub ordered : IsMap bytes_cmp inode.xattrs
    pub first_is : first_path s i ≡ Some (first s sendable.lawful i)
    pub first_leads : walk s (first s sendable.lawful i) ≡ Ok i
    pub least : NotAfter (first s sendable.lawful i) p
    pub listed_is : listed s i ≡ record { first = first s sendable.lawful i; inode = inode }

  pub entry : (p : List ℕ) (i : ℕ) → walk s p ≡ Ok i → Entry p i
  unfolding listed
  entry p i w =
      let there = inode_there (inode_at s i) (walked_there s sendable.lawful.sound p i w) in
      let f = first_path_there s i p w in
      let same : first s sendable.lawful i ≡ f.0 = ap (λ (o : Option (List ℕ)). unwrap_or o []) f.1 in
      let is : first_path s i ≡ Some (first s sendable.lawful i) = f.1 ∙ ap (λ (r : List ℕ). Some r) (sym same) in
      record {
        walks = w;
        inode = there.0;
        at = there.1;
        is = all_found nat_cmp (λ (inode : Inode Cell). IsMade inode) i there.0 s.inodes sendable.inodes there.1;
        ordered = all_found nat_cmp (λ (inode : Inode Cell). IsMap bytes_cmp inode.xattrs) i there.0 s.inodes sendable.lawful.ordered_attributes there.1;
        first_is = is;
        first_leads = (first_path_is_first s sendable.lawful i (first s sendable.lawful i) is).leads;
        least = subst (λ (r : List ℕ). NotAfter r p) (sym same) f.2;
        listed_is = ap (λ (o : Option (Inode Cell)). record { first = first s sendable.lawful i; inode = unwrap_or o new_directory }) there.1;
      }

  pub in_paths : (p : List ℕ) (i : ℕ) (done rest : Map (List ℕ) ℕ) → done ++ (p, i) ∷ rest ≡ paths_of s → walk s p ≡ Ok i
  in_paths p i done rest all =
      path_found_walks s sendable.lawful p i (entry_found bytes_cmp nat_list_cmp_total exact_bytes (p, i) (paths_of s) (paths_ordered s) (subst (λ (m : Map (List ℕ) ℕ). Among (p, i) m) all (among_end (p, i) done rest)))

  -- ---- one path after the other

  abbrev Next : Map (List ℕ) ℕ → List ℕ → ℕ → Subvolume Cell → List Command → ℕ → Type 0
  Next done p i t cs more = (v : Subvolume Cell) × (edit_all cs t ≡ Ok v) × Holds s sendable.lawful (inode_at s) own_alike (done ++ (p, i) ∷ []) v × (v.next ≡ t.next + more)

  abbrev one_more : Bool → ℕ
  one_more b = if b then 1 else 0

  pub counted_one : {A : Type 0} (b : Bool) (x : A) (xs : List A) → length (if b then x ∷ xs else xs) ≡ one_more b + length xs
  counted_one true x xs = omega arith
  counted_one false x xs = omega arith

  one_step : (done rest : Map (List ℕ) ℕ) (p : List ℕ) (i : ℕ) → done ++ (p, i) ∷ rest ≡ paths_of s → (t : Subvolume Cell) → Holds s sendable.lawful (inode_at s) own_alike done t → (p ≡ [] → ⊥)
      → t.next + one_more (is_first (p, listed s i)) ≤ greatest_number → Next done p i t (listed_commands (p, listed s i)) (one_more (is_first (p, listed s i)))
  one_step done rest p i all t h some numbers =
      let P : Listed Cell → Type 0 = λ l. t.next + one_more (is_first (p, l)) ≤ greatest_number → Next done p i t (listed_commands (p, l)) (one_more (is_first (p, l))) in
      subst P (sym e.listed_is) (one (bytes_eq p f) refl) numbers
    where
      e : Entry p i
      e = entry p i (in_paths p i done rest all)

      f : List ℕ
      f = first s sendable.lawful i

      one : (b : Bool) → bytes_eq p f ≡ b → t.next + one_more b ≤ greatest_number
          → Next done p i t (if b then inode_commands p e.inode else Link p f ∷ []) (one_more b)
      one true same fits =
          let number : t.next ≡ greatest_number → ⊥ = λ is. absurd (omega (arith, fits, is)) in
          let c = comes s sendable.lawful (inode_at s) own_alike done rest p i all t h e.walks some (made e.inode.kind e.inode) e.inode e.at (inode_commands p e.inode) (setting p e.inode)
          (made_first p e.inode t some) (λ u here way. settled p t.next u (made e.inode.kind e.inode) here way e.inode e.is e.ordered refl) (sym (bytes_eq_true p f same)) number in
          (c.after, c.taken, grown_holds s sendable.lawful (inode_at s) own_alike done rest p i all t h t.next c.after c.grown, c.next)
      one false other fits =
          let differs : f ≡ p → ⊥ = λ same. true≢false (sym (ap (bytes_eq p) same ∙ bytes_eq_same p) ∙ other) in
          let c = links s sendable.lawful (inode_at s) own_alike done rest p i all t h e.walks some f refl e.first_leads e.least differs in
          (c.after, c.taken, grown_holds s sendable.lawful (inode_at s) own_alike done rest p i all t h (twin s sendable.lawful (inode_at s) own_alike done rest p i all t h e.walks some f refl e.first_leads e.least differs).ino c.after c.grown, c.next ∙ (let z : t.next ≡ t.next + 0 = omega arith in z))

  all_steps : (done rest : Map (List ℕ) ℕ) → done ++ rest ≡ paths_of s → (t : Subvolume Cell) → Holds s sendable.lawful (inode_at s) own_alike done t → AllByRecursion NotRoot rest
      → t.next + length (filter is_first (entries rest)) ≤ greatest_number → (v : Subvolume Cell) × (edit_all (commands rest) t ≡ Ok v) × Holds s sendable.lawful (inode_at s) own_alike (done ++ rest) v
  unfolding edit_all
  all_steps done [] all t h some numbers = (t, refl, subst (λ (m : Map (List ℕ) ℕ). Holds s sendable.lawful (inode_at s) own_alike m t) (sym (append-nil done)) h)
  all_steps done (x ∷ rest) all t h some numbers =
      let more : ℕ = one_more (is_first (x.0, listed s x.1)) in
      let counted : length (filter is_first (entries (x ∷ rest))) ≡ more + length (filter is_first (entries rest)) = counted_one (is_first (x.0, listed s x.1)) (x.0, listed s x.1) (filter is_first (entries rest)) in
      let a = one_step done rest x.0 x.1 all t h some.0 (omega (arith, numbers, counted)) in
      let together : (done ++ (x.0, x.1) ∷ []) ++ rest ≡ done ++ x ∷ rest = append_assoc done ((x.0, x.1) ∷ []) rest in
      let b = all_steps (done ++ (x.0, x.1) ∷ []) rest (together ∙ all) a.0 a.2 some.1 (omega (arith, numbers, counted, a.3)) in (
        b.0,
        edit_all-append (listed_commands (x.0, listed s x.1)) (commands rest) t ∙ ap (λ (r : Result (Subvolume Cell) Refusal). r >>= edit_all (commands rest)) a.1 ∙ b.1,
        subst (λ (m : Map (List ℕ) ℕ). Holds s sendable.lawful (inode_at s) own_alike m b.0) together b.2,
      )

  -- ---- the root

  pub root_first : first s sendable.lawful root ≡ []
  root_first = let f = first_path_there s root [] (walks_to s [] [] root none_there refl) in
      ap (λ (o : Option (List ℕ)). unwrap_or o []) f.1 ∙ not_after_none f.0 f.2
    where
      none_there : path_names [] ≡ Some []
      none_there = root_names

  pub root_walks : (t : Subvolume Cell) → walk t [] ≡ Ok root
  root_walks t = walks_to t [] [] root root_names refl

  pub record Begins : Type 0 where
    pub rest : Map (List ℕ) ℕ
    pub are : paths_of s ≡ ([], root) ∷ rest
    pub some : AllByRecursion NotRoot rest

  none_below : (m : Map (List ℕ) ℕ) → T (below_all bytes_cmp [] m) → AllByRecursion NotRoot m
  none_below [] h = tt
  none_below (e ∷ m) h = (above_none e.0 (is_less _ (T_left _ _ h)), none_below m (T_right _ _ h))

  begins_with : (m : Map (List ℕ) ℕ) → m ≡ paths_of s → IsMap bytes_cmp m → Among ([], root) m → Begins
  begins_with [] same h a = absurd a
  begins_with (e ∷ m) same h (inl is) = record {
    rest = m;
    are = sym same ∙ ap (λ (f : List ℕ × ℕ). f ∷ m) is;
    some = none_below m (subst (λ (f : List ℕ × ℕ). T (below_all bytes_cmp f.0 m)) is (T_left _ _ h));
  }
  begins_with (e ∷ m) same h (inr a) = absurd (not_below_none e.0 (entry_below e.0 [] root m (T_left _ _ h) a))

  pub begins : Begins
  begins = begins_with (paths_of s) refl (paths_ordered s) (found_entry bytes_cmp nat_list_cmp_total exact_bytes [] root (paths_of s) (walked_path_found s sendable.lawful [] root (root_walks s)))

  pub root_entry : Entry [] root
  root_entry = entry [] root (root_walks s)

  pub nothing_named : (d : ℕ) (n : List ℕ) (b : ℕ) → Step (root_alone {C = Cell}) d n b → ⊥
  unfolding root_alone
  nothing_named d n b step = cc (step.1)

  pub root_here : inode_at (root_alone {C = Cell}) root ≡ Some new_directory
  unfolding root_alone
  root_here = refl

  pub root_next : (root_alone {C = Cell}).next ≡ root + 1
  unfolding root_alone
  root_next = refl

  root_step : (v : Subvolume Cell) × (edit_all (listed_commands ([], listed s root)) root_alone ≡ Ok v) × Holds s sendable.lawful (inode_at s) own_alike (([], root) ∷ []) v × (v.next ≡ root + 1)
  root_step =
      let e : Entry [] root = root_entry in
      let kind : is_directory_kind e.inode.kind ≡ true = directory_kind e.inode e.at sendable.lawful.sound.root_there in
      let way : walk (root_alone {C = Cell}) [] ≡ Ok root = root_walks root_alone in
      let r = settled [] root root_alone new_directory root_here way e.inode e.is e.ordered (made_directory e.inode.kind e.inode kind) root_alone
      (record { names = refl; next = refl; here = root_here; others = λ k n. refl; kind = refl }) in
      let taken : edit_all (inode_commands [] e.inode) root_alone ≡ Ok r.0 = r.1 in
      let first_taken : edit_all (listed_commands ([], record { first = []; inode = e.inode })) root_alone ≡ Ok r.0 = taken in
      let all_taken : edit_all (listed_commands ([], listed s root)) root_alone ≡ Ok r.0 =
      ap (λ (l : Listed Cell). edit_all (listed_commands ([], l)) root_alone) (e.listed_is ∙ ap (λ (f : List ℕ). record { first = f; inode = e.inode }) root_first) ∙ first_taken in (
        r.0,
        all_taken,
        record {
          good = edits_keep_lawful (inode_commands [] e.inode) root_alone r.0 root_alone_is_lawful taken;
          same = λ q k a. the_twin r.0 r.2.here q k a;
          only = λ q j w. (root, inl (λ i. (only_root q j (sym (walks [] root root_alone new_directory root_here way r.0 e.inode r.2 q) ∙ w) i, root)));
          apart = λ q q' i k j a b w w'. single q i a ∙ sym (single q' k b);
        },
        r.2.next ∙ root_next,
      )
    where
      directory_kind : (inode : Inode Cell) → inode_at s root ≡ Some inode → is_directory s root ≡ true → is_directory_kind inode.kind ≡ true
      directory_kind inode at is = sym (kind_by inode at) ∙ is

      single : (q : List ℕ) (i : ℕ) → Among (q, i) only_first → i ≡ root
      single q i (inl e) = sym (ap (λ (f : List ℕ × ℕ). f.1) e)
      single q i (inr a) = absurd a

      only_root : (q : List ℕ) (j : ℕ) → walk (root_alone {C = Cell}) q ≡ Ok j → [] ≡ q
      only_root q j w = let a = walked root_alone q j w in one a.names a.names_are a.leads
        where
          one : (names : List (List ℕ)) → path_names q ≡ Some names → Leads (Step (root_alone {C = Cell})) names root j → [] ≡ q
          one [] is l = names_path s [] q [] root_names is
          one (n ∷ names) is l = absurd (nothing_named root n l.0 l.1)

      the_twin : (v : Subvolume Cell) → inode_at v root ≡ Some root_entry.inode → (q : List ℕ) (k : ℕ) → Among (q, k) only_first → Twin s sendable.lawful (inode_at s) own_alike v q k
      the_twin v here q k (inr a) = absurd a
      the_twin v here q k (inl e) =
          let at : Twin s sendable.lawful (inode_at s) own_alike v [] root = record { ino = root; walks = root_walks v; first_walks = ap (walk v) root_first ∙ root_walks v; inode = here ∙ sym root_entry.at } in
          subst (λ (f : List ℕ × ℕ). Twin s sendable.lawful (inode_at s) own_alike v f.0 f.1) e at

  -- ---- all paths

  record Received : Type 0 where
    after : Subvolume Cell
    taken : edit_all (sent_edits s) root_alone ≡ Ok after
    holds : Holds s sendable.lawful (inode_at s) own_alike (paths_of s) after

  received : Received
  unfolding sent_edits listing edit_all
  received =
      let b = begins in
      let first_one = root_step in
      let numbers : root + length (filter is_first (entries (paths_of s))) ≤ greatest_number = sendable.numbers in
      let numbers' : root + length (filter is_first (entries (([], root) ∷ b.rest))) ≤ greatest_number = subst (λ (m : Map (List ℕ) ℕ). root + length (filter is_first (entries m)) ≤ greatest_number) b.are numbers in
      let rest_fits : first_one.0.next + length (filter is_first (entries b.rest)) ≤ greatest_number = fits b.rest first_one.0.next first_one.3 numbers' in
      let more = all_steps (([], root) ∷ []) b.rest (sym b.are) first_one.0 first_one.2 b.some rest_fits in
      record {
        after = more.0;
        taken = ap (λ (m : Map (List ℕ) ℕ). edit_all (commands m) root_alone) b.are
            ∙ edit_all-append (listed_commands ([], listed s root)) (commands b.rest) root_alone
            ∙ ap (λ (r : Result (Subvolume Cell) Refusal). r >>= edit_all (commands b.rest)) first_one.1 ∙ more.1;
        holds = subst (λ (m : Map (List ℕ) ℕ). Holds s sendable.lawful (inode_at s) own_alike m more.0) (sym b.are) more.2;
      }
    where
      first_root : is_first ([], listed s root) ≡ bytes_eq [] []
      first_root = ap (λ (l : Listed Cell). bytes_eq [] l.first) (root_entry.listed_is) ∙ ap (bytes_eq []) root_first

      fits : (rest : Map (List ℕ) ℕ) (next : ℕ) → next ≡ root + 1 → root + length (filter is_first (entries (([], root) ∷ rest))) ≤ greatest_number → next + length (filter is_first (entries rest)) ≤ greatest_number
      fits rest next at h =
          let counted : length (filter is_first (entries (([], root) ∷ rest))) ≡ one_more (is_first ([], listed s root)) + length (filter is_first (entries rest)) = counted_one (is_first ([], listed s root)) ([], listed s root) (filter is_first (entries rest)) in
          let one : one_more (is_first ([], listed s root)) ≡ 1 = ap one_more (first_root ∙ bytes_eq_same []) in
          omega (arith, h, counted, one, at)

  -- ---- the same listing

  in_order_of : (u : Subvolume Cell) → IsMap bytes_cmp (listing u)
  unfolding listing
  in_order_of u = ordered_map (listed u) (paths_of u) (paths_ordered u)

  module _ (t : Subvolume Cell) (h : Holds s sendable.lawful (inode_at s) own_alike (paths_of s) t) where
    walks_in_s : (p : List ℕ) (i : ℕ) → Among (p, i) (paths_of s) → walk s p ≡ Ok i
    walks_in_s p i a = path_found_walks s sendable.lawful p i (entry_found bytes_cmp nat_list_cmp_total exact_bytes (p, i) (paths_of s) (paths_ordered s) a)

    same_first : (p : List ℕ) (i : ℕ) → Among (p, i) (paths_of s) → (twin : Twin s sendable.lawful (inode_at s) own_alike t p i) → first_path t twin.ino ≡ first_path s i
    same_first p i a twin =
        let e : Entry p i = entry p i (walks_in_s p i a) in
        let least = first_path_is_first s sendable.lawful i (first s sendable.lawful i) e.first_is in
        first_is_first_path t h.good twin.ino (first s sendable.lawful i) (record {
          leads = twin.first_walks;
          least = λ q w.
              let o = h.only q twin.ino w in
              let same : o.0 ≡ i = h.apart q p o.0 i twin.ino o.1 a w twin.walks in
              least.least q (subst (λ (k : ℕ). walk s q ≡ Ok k) same (walks_in_s q o.0 o.1));
        }) ∙ sym e.first_is

    same_listed : (p : List ℕ) (i : ℕ) → Among (p, i) (paths_of s) → (twin : Twin s sendable.lawful (inode_at s) own_alike t p i) → listed t twin.ino ≡ listed s i
    unfolding listed
    same_listed p i a twin = λ n. record { first = unwrap_or (same_first p i a twin n) []; inode = unwrap_or (twin.inode n) new_directory }

    same_at : (p : List ℕ) → value_at bytes_cmp p (listing t) ≡ value_at bytes_cmp p (listing s)
    unfolding listing
    same_at p = value_at-map bytes_cmp (listed t) p (paths_of t) ∙ one (value_at bytes_cmp p (paths_of s)) refl ∙ sym (value_at-map bytes_cmp (listed s) p (paths_of s))
      where
        none_there : (o : Option ℕ) → value_at bytes_cmp p (paths_of t) ≡ o → value_at bytes_cmp p (paths_of s) ≡ None → option_map (listed t) o ≡ None
        none_there None e n = refl
        none_there (Some j) e n =
            let o = h.only p j (path_found_walks t h.good p j e) in
            let some = walked_path_found s sendable.lawful p o.0 (walks_in_s p o.0 o.1) in cc (some, n)

        one : (o : Option ℕ) → value_at bytes_cmp p (paths_of s) ≡ o → option_map (listed t) (value_at bytes_cmp p (paths_of t)) ≡ option_map (listed s) (value_at bytes_cmp p (paths_of s))
        one None e = none_there (value_at bytes_cmp p (paths_of t)) refl e ∙ sym (ap (option_map (listed s)) e)
        one (Some i) e =
            let a : Among (p, i) (paths_of s) = found_entry bytes_cmp nat_list_cmp_total exact_bytes p i (paths_of s) e in
            let twin : Twin s sendable.lawful (inode_at s) own_alike t p i = h.same p i a in
            ap (option_map (listed t)) (walked_path_found t h.good p twin.ino twin.walks)
            ∙ ap (λ (l : Listed Cell). Some l) (same_listed p i a twin) ∙ sym (ap (option_map (listed s)) e)

    pub same_listing : listing t ≡ listing s
    same_listing = same_entries bytes_cmp nat_list_cmp_total exact_bytes (listing t) (listing s) (listing_ordered t) (listing_ordered s) same_at
      where
        listing_ordered : (u : Subvolume Cell) → IsMap bytes_cmp (listing u)
        listing_ordered u = in_order_of u

  pub sent_again : (t : Subvolume Cell) × MakesAgain (sent_edits s) s t
  sent_again = let r = received in (r.after, record { taken = r.taken; lawful = r.holds.good; same = same_listing r.after r.holds })

pub sent_edits_are_taken : SentEditsAreTaken
sent_edits_are_taken s sendable = sent_again s sendable
