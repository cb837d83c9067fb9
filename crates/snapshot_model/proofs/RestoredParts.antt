-- The paths of a subvolume come in the kernel's order, its directories without what they are to
-- have at the end.
use Rattle.std.specs.Prelude.{◌≡◌, ℕ, ◌+◌, ◌≤◌, Bool, true, false, List, [], ◌∷◌, ◌++◌, Option, None, Some, Result, Ok, Err, is_some, if◌then◌else◌}
use Rattle.std.specs.Str.{bytes_eq}
use Rattle.std.specs.Cmp.Lexicographic.{nat_list_cmp_total}
use Rattle.std.proofs.Common.{refl, sym, ap, subst, ◌∙◌, arith}
use Rattle.std.proofs.lemmas.Bool.{true≢false}
use Rattle.std.proofs.lemmas.Map.Lookups.{exact_bytes}
use Rattle.send_model.specs.Refusal.{Refusal}
use Rattle.send_model.specs.Chain.{◌>>=◌}
use Rattle.send_model.specs.Command.{Command, Link, Rename}
use Rattle.send_model.specs.Path.{path_names}
use Rattle.send_model.specs.Map.{Map, bytes_cmp}
use Rattle.send_model.specs.Subvolume.{Inode, Subvolume, root, new_directory, walk, named, is_directory, is_directory_kind, passes_inode, inode_at}
use Rattle.send_model.specs.Edit.{greatest_number, make, rename, edit}
use Rattle.snapshot_model.specs.Listing.{Listed, listed, paths_of}
use Rattle.snapshot_model.specs.Sent.{contents_commands, edit_all, making}
use Rattle.snapshot_model.specs.Restored.{temporary, has_temporary, finishing, arriving, placed_inode, placed}
use Rattle.snapshot_model.specs.SentLaws.{made, is_first, IsSendable}
use Rattle.send_model.proofs.Sorts.{same_inside}
use Rattle.send_model.proofs.Stores.{bytes_eq_true, bytes_eq_same}
use Rattle.send_model.proofs.WalkLaws.{Leads, Step}
use Rattle.send_model.proofs.LeastPaths.{Among, among_left, entry_found}
use Rattle.snapshot_model.proofs.SentWalks.{one_way}
use Rattle.snapshot_model.proofs.SentPaths.{walked, walks_to, paths_ordered, path_found_walks}
use Rattle.snapshot_model.proofs.Capabilities.{bare}
use Rattle.snapshot_model.proofs.SentInodes.{Sets, finished, sets_none}
use Rattle.snapshot_model.proofs.SentParts.{first, Holds, Room, grown_holds}
use Rattle.snapshot_model.proofs.SentSteps.{making_is, the_room, comes, links, twin}
use Rattle.snapshot_model.proofs.SentAgain.{Entry, entry, in_paths, made_directory}
use Rattle.snapshot_model.proofs.RestoredSteps.{both_are}

abbrev Cell : Type 0
Cell = Option ℕ

-- What a path leads to before the directories have what is theirs, and before capabilities come.
abbrev pub staged : Option (Inode Cell) → Option (Inode Cell)
staged None = None
staged (Some inode) = if is_directory_kind inode.kind then Some new_directory else Some (bare inode)

arriving_renamed : (ino : ℕ) (p : List ℕ) (inode : Inode Cell) → (p ≡ [] → ⊥) → arriving false ino p inode ≡ making (temporary ino) inode.kind inode ∷ Rename (temporary ino) p ∷ []
arriving_renamed ino [] inode some = absurd (some refl)
arriving_renamed ino (b ∷ p) inode some = refl

arriving_at_once : (ino : ℕ) (p : List ℕ) (inode : Inode Cell) → (p ≡ [] → ⊥) → arriving true ino p inode ≡ making p inode.kind inode ∷ []
arriving_at_once ino [] inode some = absurd (some refl)
arriving_at_once ino (b ∷ p) inode some = refl

module _ (s : Subvolume Cell) (sendable : IsSendable s) where
  abbrev pub look : ℕ → Option (Inode Cell)
  look i = staged (inode_at s i)

  pub alike : (i : ℕ) → passes_inode (λ inode. is_directory_kind inode.kind) (look i) ≡ is_directory s i
  unfolding is_directory
  alike i = one (inode_at s i)
    where
      two : (b : Bool) (inode : Inode Cell) → is_directory_kind inode.kind ≡ b → passes_inode (λ (i : Inode Cell). is_directory_kind i.kind) (if b then Some new_directory else Some (bare inode)) ≡ is_directory_kind inode.kind
      two true inode e = sym e
      two false inode e = refl

      one : (o : Option (Inode Cell)) → passes_inode (λ inode. is_directory_kind inode.kind) (staged o) ≡ passes_inode (λ inode. is_directory_kind inode.kind) o
      one None = refl
      one (Some inode) = two (is_directory_kind inode.kind) inode refl

  module _ (done rest : Map (List ℕ) ℕ) (p : List ℕ) (i : ℕ) (all : done ++ (p, i) ∷ rest ≡ paths_of s) (t : Subvolume Cell) (h : Holds s sendable.lawful look alike done t)
      (some : p ≡ [] → ⊥) where
    w : walk s p ≡ Ok i
    w = in_paths s sendable p i done rest all

    e : Entry s sendable p i
    e = entry s sendable p i w

    r : Room s sendable.lawful look alike done p i t
    r = the_room s sendable.lawful look alike done rest p i all t h w some

    walks_s : (q : List ℕ) (k : ℕ) → Among (q, k) done → walk s q ≡ Ok k
    walks_s q k a = path_found_walks s sendable.lawful q k (entry_found bytes_cmp nat_list_cmp_total exact_bytes (q, k) (paths_of s) (paths_ordered s)
        (subst (λ (m : Map (List ℕ) ℕ). Among (q, k) m) all (among_left (q, k) done ((p, i) ∷ rest) a)))

    in_t : Leads (Step t) r.front root r.directory
    in_t = let a = walked t r.up r.directory r.up_walks in
        let fronts : a.names ≡ r.front = same_inside (sym a.names_are ∙ r.up_names) in
        subst (λ (k : List (List ℕ)). Leads (Step t) k root r.directory) fronts a.leads

    -- The root of the subvolume has no entry of the name, which is one name.
    module _ (way_is : path_names (temporary i) ≡ Some (temporary i ∷ [])) (none : named s root (temporary i) ≡ None) where
      abbrev way : List ℕ
      way = temporary i

      nowhere : (k : ℕ) → walk s way ≡ Ok k → ⊥
      nowhere k v =
          let a = walked s way k v in
          let l : Leads (Step s) (way ∷ []) root k = subst (λ (n : List (List ℕ)). Leads (Step s) n root k) (same_inside (sym a.names_are ∙ way_is)) a.leads in
          cc (none, l.1.1)

      -- It leads nowhere in the part either.
      no_way : (j : ℕ) → walk t way ≡ Ok j → ⊥
      no_way j v = let o = h.only way j v in nowhere o.0 (walks_s way o.0 o.1)

      root_step : (j : ℕ) → named t root way ≡ Some j → walk t way ≡ Ok j
      root_step j n = walks_to t way (way ∷ []) j way_is (j, (h.good.sound.root_there, n), refl)

      way_free : named t root way ≡ None
      way_free = one (named t root way) refl
        where
          one : (o : Option ℕ) → named t root way ≡ o → o ≡ None
          one None n = refl
          one (Some j) n = absurd (no_way j (root_step j n))

      abbrev SameKey : ℕ × List ℕ → ℕ × List ℕ → Type 0
      SameKey a b = a ≡ b

      -- The path is not that name.
      another : SameKey (r.directory, r.name) (root, way) → ⊥
      another same =
          let at : r.directory ≡ root = ap (λ (k : ℕ × List ℕ). k.0) same in
          let none : [] ≡ r.front = one_way t h.good.sound [] r.front r.directory r.there (sym at) in_t in
          let names : path_names p ≡ Some (way ∷ []) = r.names_are ∙ ap (λ (f : List (List ℕ)). Some (f ++ r.name ∷ [])) (sym none) ∙ ap (λ (n : List ℕ). Some (n ∷ [])) (ap (λ (k : ℕ × List ℕ). k.1) same) in
          let a = walked s p i w in
          nowhere i (walks_to s way (way ∷ []) i way_is (subst (λ (k : List (List ℕ)). Leads (Step s) k root i) (same_inside (sym a.names_are ∙ names)) a.leads))

      renamed : (inode : Inode Cell) (cs : List Command) → (t.next ≡ greatest_number → ⊥) → (u : Subvolume Cell) → make (made inode.kind inode) p t ≡ Ok u → edit_all (arriving false i p inode ++ cs) t ≡ edit_all cs u
      unfolding edit_all edit
      renamed inode cs number u is =
          ap (λ (ds : List Command). edit_all (ds ++ cs) t) (arriving_renamed i p inode some)
          ∙ ap (λ (x : Result (Subvolume Cell) Refusal). x >>= edit_all (Rename way p ∷ cs)) (making_is way inode.kind inode t)
          ∙ sym (twice (make (made inode.kind inode) way t))
          ∙ ap (λ (x : Result (Subvolume Cell) Refusal). x >>= edit_all cs)
          (both_are t h.good.sound p r.front r.name r.names_are r.directory in_t r.there r.free way way_is way_free another number (made inode.kind inode) ∙ is)
        where
          twice : (x : Result (Subvolume Cell) Refusal) → ((x >>= rename way p) >>= edit_all cs) ≡ (x >>= edit_all (Rename way p ∷ cs))
          twice (Ok v) = refl
          twice (Err f) = refl

    at_once : (inode : Inode Cell) (cs : List Command) → (u : Subvolume Cell) → make (made inode.kind inode) p t ≡ Ok u → edit_all (arriving true i p inode ++ cs) t ≡ edit_all cs u
    unfolding edit_all edit
    at_once inode cs u is =
        ap (λ (ds : List Command). edit_all (ds ++ cs) t) (arriving_at_once i p inode some)
        ∙ ap (λ (x : Result (Subvolume Cell) Refusal). x >>= edit_all cs) (making_is p inode.kind inode t ∙ is)

    arrives : path_names (temporary i) ≡ Some (temporary i ∷ []) → (inode : Inode Cell) (cs : List Command) → (t.next ≡ greatest_number → ⊥) → (u : Subvolume Cell) → make (made inode.kind inode) p t ≡ Ok u
        → edit_all (arriving (has_temporary s i) i p inode ++ cs) t ≡ edit_all cs u
    arrives way_is inode cs number u is = one (named s root (temporary i)) refl
      where
        one : (o : Option ℕ) → named s root (temporary i) ≡ o → edit_all (arriving (is_some o) i p inode ++ cs) t ≡ edit_all cs u
        one None none = renamed way_is none inode cs number u is
        one (Some j) there = at_once inode cs u is

    abbrev one_more : Bool → ℕ
    one_more b = if b then 1 else 0

    abbrev Next : List Command → ℕ → Type 0
    Next cs more = (v : Subvolume Cell) × (edit_all cs t ≡ Ok v) × Holds s sendable.lawful look alike (done ++ (p, i) ∷ []) v × (v.next ≡ t.next + more)

    abbrev f : List ℕ
    f = first s sendable.lawful i

    abbrev rest_for : Bool → List Command
    rest_for b = if b then [] else contents_commands p e.inode.cells ++ finishing p e.inode

    abbrev final_for : Bool → Inode Cell
    final_for b = if b then new_directory else bare e.inode

    is_final : (b : Bool) → is_directory_kind e.inode.kind ≡ b → look i ≡ Some (final_for b)
    is_final true kind = ap staged e.at ∙ ap (λ (b : Bool). if b then Some new_directory else Some (bare e.inode)) kind
    is_final false kind = ap staged e.at ∙ ap (λ (b : Bool). if b then Some new_directory else Some (bare e.inode)) kind

    sets_for : (b : Bool) → is_directory_kind e.inode.kind ≡ b → (x : ℕ) (u : Subvolume Cell) (here : inode_at u x ≡ Some (made e.inode.kind e.inode)) (at : walk u p ≡ Ok x)
        → Sets p x u (made e.inode.kind e.inode) here at (rest_for b) (made e.inode.kind e.inode) (final_for b)
    sets_for true kind x u here at = subst (λ (n : Inode Cell). Sets p x u (made e.inode.kind e.inode) here at [] (made e.inode.kind e.inode) n) (sym (made_directory e.inode.kind e.inode kind)) (sets_none p x u (made e.inode.kind e.inode) here at (made e.inode.kind e.inode))
    sets_for false kind x u here at = finished p x u (made e.inode.kind e.inode) here at e.inode e.is e.ordered refl

    pub next_placed : path_names (temporary i) ≡ Some (temporary i ∷ []) → t.next + one_more (is_first (p, listed s i)) ≤ greatest_number → Next (placed s (p, i)) (one_more (is_first (p, listed s i)))
    next_placed way_is numbers =
        let P : Listed Cell → Type 0 = λ l. t.next + one_more (is_first (p, l)) ≤ greatest_number → Next (if bytes_eq p l.first then placed_inode (has_temporary s i) i p l.inode else Link p l.first ∷ []) (one_more (is_first (p, l))) in
        subst P (sym e.listed_is) (one (bytes_eq p f) refl) numbers
      where
        one : (b : Bool) → bytes_eq p f ≡ b → t.next + one_more b ≤ greatest_number → Next (if b then placed_inode (has_temporary s i) i p e.inode else Link p f ∷ []) (one_more b)
        one true same fits =
            let number : t.next ≡ greatest_number → ⊥ = λ is. absurd (omega (arith, fits, is)) in
            let b : Bool = is_directory_kind e.inode.kind in
            let c = comes s sendable.lawful look alike done rest p i all t h w some (made e.inode.kind e.inode) (final_for b) (is_final b refl) (placed_inode (has_temporary s i) i p e.inode) (rest_for b)
            (arrives way_is e.inode (rest_for b) number) (sets_for b refl t.next) (sym (bytes_eq_true p f same)) number in
            (c.after, c.taken, grown_holds s sendable.lawful look alike done rest p i all t h t.next c.after c.grown, c.next)
        one false other fits =
            let differs : f ≡ p → ⊥ = λ same. true≢false (sym (ap (bytes_eq p) same ∙ bytes_eq_same p) ∙ other) in
            let c = links s sendable.lawful look alike done rest p i all t h w some f refl e.first_leads e.least differs in
            (c.after, c.taken, grown_holds s sendable.lawful look alike done rest p i all t h (twin s sendable.lawful look alike done rest p i all t h w some f refl e.first_leads e.least differs).ino c.after c.grown, c.next ∙ (let z : t.next ≡ t.next + 0 = omega arith in z))
