-- The commands that set all fields of an inode, one after the other, leave an inode with these
-- fields, and all else as it was.
use Rattle.std.specs.Prelude.{◌≡◌, ◌⊎◌, ℕ, zero, suc, ◌+◌, ◌≤◌, ◌%◌, ◌==◌, ◌&&◌, Bool, true, false, not, T, List, [], ◌∷◌, ◌++◌, map, length, take, drop, Option, None, Some, Result, Ok, Err, nat_le, if◌then◌else◌}
use Rattle.std.specs.declared.cmp.Ordering.{Ordering}
use Rattle.std.specs.declared.cmp.Ordering.TheVariants.{Less, Greater}
use Rattle.std.specs.Ordering.{nat_cmp, ordering_reverse}
use Rattle.std.specs.Cmp.{nat_cmp_total}
use Rattle.std.specs.Cmp.Lexicographic.{nat_list_cmp_total}
use Rattle.std.specs.List.{AllByRecursion, filter, flat_map}
use Rattle.std.specs.FinMap.Entries.{by_order, below_all}
use Rattle.std.proofs.Common.{refl, sym, ap, subst, ◌∙◌, arith, inl, inr, append_assoc, append-nil, eqb-true}
use Rattle.std.proofs.lemmas.Bool.{cases_eq, cases_Bool, le-leb, and_parts}
use Rattle.std.proofs.lemmas.List.{take-append-drop, length-take, length-drop, length-map, map-append}
use Rattle.std.proofs.lemmas.Map.Lookups.{exact_unsigned}
use Rattle.send_model.specs.Refusal.{Refusal}
use Rattle.send_model.specs.Chain.{◌>>=◌}
use Rattle.send_model.specs.Attribute.{Time}
use Rattle.send_model.specs.Command.{Command, SetXattr, Write, Truncate, Chmod, Chown, Utimes, FileAttr}
use Rattle.send_model.specs.Map.{Map, IsMap, bytes_cmp, with_value}
use Rattle.send_model.specs.Subvolume.{NodeKind, File, Directory, SymbolicLink, CharacterDevice, BlockDevice, Fifo, Socket, Inode, Subvolume, inode_at, passes_inode, is_directory_kind, is_file_kind, is_directory, is_file, walk}
use Rattle.send_model.specs.Edit.{greatest_end, written_at, resized, set_inode, set_cells, change_at, change_contents, is_xattr_name, set_xattr, edit}
use Rattle.send_model.specs.Receive.{bytes_of}
use Rattle.send_model.specs.Composed.{write_len, writes_from}
use Rattle.snapshot_model.specs.Listing.{held}
use Rattle.snapshot_model.specs.Sent.{Stretch, onto_stretches, stretches, ends_in_hole, stretch_commands, contents_commands, flags_commands, setting_commands, edit_all}
use Rattle.snapshot_model.specs.Restored.{is_link_kind, mode_commands, capability, is_capability, other_xattrs, finishing, capability_commands}
use Rattle.snapshot_model.specs.SentLaws.{made, IsMade}
use Rattle.send_model.proofs.MapLaws.{T_left, T_right, is_less, with_value-here, with_value-other}
use Rattle.send_model.proofs.Keeping.{all_filtered}
use Rattle.send_model.proofs.Rewriting.{same_walk, changed}
use Rattle.send_model.proofs.Overwriting.{written_at-append}
use Rattle.snapshot_model.proofs.Capabilities.{bare, others_ordered, Capabilities, NoneThere, OneThere, capabilities_of}
use Rattle.snapshot_model.proofs.SentCells.{write_all, ended, contents_again}

abbrev Cell : Type 0
Cell = Option ℕ

-- ---- lists of commands

pub edit_all-append : (cs ds : List Command) (s : Subvolume Cell) → edit_all (cs ++ ds) s ≡ edit_all cs s >>= edit_all ds
unfolding edit_all
edit_all-append [] ds s = refl
edit_all-append (c ∷ cs) ds s = one (edit None (held (bytes_of c)) c s) (edit_all-append cs ds)
  where
    one : (r : Result (Subvolume Cell) Refusal) → ((u : Subvolume Cell) → edit_all (cs ++ ds) u ≡ edit_all cs u >>= edit_all ds) → (r >>= edit_all (cs ++ ds)) ≡ (r >>= edit_all cs) >>= edit_all ds
    one (Ok u) more = more u
    one (Err e) more = refl

-- ---- the last entry of a map

module _ {X : Type 0} where
  below_there : (k l : List ℕ) (v : X) (m rest : Map (List ℕ) X) → T (below_all bytes_cmp k (m ++ (l, v) ∷ rest)) → bytes_cmp k l ≡ Less
  below_there k l v [] rest h = is_less _ (T_left _ _ h)
  below_there k l v (e ∷ m) rest h = below_there k l v m rest (T_right _ _ h)

  -- An entry behind all others is put behind them.
  pub put_last : (k : List ℕ) (v : X) (m rest : Map (List ℕ) X) → IsMap bytes_cmp (m ++ (k, v) ∷ rest) → with_value bytes_cmp k v m ≡ m ++ (k, v) ∷ []
  put_last k v [] rest h = refl
  put_last k v (e ∷ m) rest h =
      let less : bytes_cmp e.0 k ≡ Less = below_there e.0 k v m rest (T_left _ _ h) in
      let greater : bytes_cmp k e.0 ≡ Greater = nat_list_cmp_total.antisymm k e.0 ∙ ap ordering_reverse less in
      ap (λ (r : Ordering). by_order r ((k, v) ∷ e ∷ m) ((e.0, v) ∷ m) (e ∷ with_value bytes_cmp k v m)) greater
      ∙ ap (λ (r : Map (List ℕ) X). e ∷ r) (put_last k v m rest (T_right _ _ h))

module _ (path : List ℕ) (x : ℕ) (t : Subvolume Cell) (old : Inode Cell) (at : inode_at t x ≡ Some old) (way : walk t path ≡ Ok x) where
  -- A subvolume that differs in this inode alone.
  pub record Stands (u : Subvolume Cell) (a : Inode Cell) : Type 0 where
    pub names : u.names ≡ t.names
    pub next : u.next ≡ t.next
    pub here : inode_at u x ≡ Some a
    pub others : (i : ℕ) → (i ≡ x → ⊥) → inode_at u i ≡ inode_at t i
    pub kind : a.kind ≡ old.kind

  pub directories : (u : Subvolume Cell) (a : Inode Cell) → Stands u a → (i : ℕ) → is_directory u i ≡ is_directory t i
  unfolding is_directory
  directories u a h i = elim (cases_eq i x) [
    | inl e ↦ subst (λ (j : ℕ). passes_inode (λ (inode : Inode Cell). is_directory_kind inode.kind) (inode_at u j) ≡ passes_inode (λ (inode : Inode Cell). is_directory_kind inode.kind) (inode_at t j)) (sym e)
        (ap (passes_inode (λ (inode : Inode Cell). is_directory_kind inode.kind)) h.here ∙ ap is_directory_kind h.kind ∙ sym (ap (passes_inode (λ (inode : Inode Cell). is_directory_kind inode.kind)) at))
    | inr n ↦ ap (passes_inode (λ (inode : Inode Cell). is_directory_kind inode.kind)) (h.others i n)
  ]

  pub walks : (u : Subvolume Cell) (a : Inode Cell) → Stands u a → (p : List ℕ) → walk u p ≡ walk t p
  walks u a h p = same_walk t u h.names (directories u a h) p

  file_here : (u : Subvolume Cell) (a : Inode Cell) → Stands u a → is_file u x ≡ is_file_kind a.kind
  unfolding is_file
  file_here u a h = ap (passes_inode (λ (inode : Inode Cell). is_file_kind inode.kind)) h.here

  stands_on : (u : Subvolume Cell) (a b : Inode Cell) → Stands u a → b.kind ≡ a.kind → Stands (set_inode x b u) b
  stands_on u a b h same = record {
    names = h.names;
    next = h.next;
    here = with_value-here nat_cmp nat_cmp_total exact_unsigned x b u.inodes;
    others = λ i n. with_value-other nat_cmp nat_cmp_total exact_unsigned i x b u.inodes n ∙ h.others i n;
    kind = same ∙ h.kind;
  }

  -- Commands that make one inode of another.
  abbrev pub Sets : List Command → Inode Cell → Inode Cell → Type 0
  Sets cs a b = (u : Subvolume Cell) → Stands u a → (v : Subvolume Cell) × (edit_all cs u ≡ Ok v) × Stands v b

  pub sets_none : (a : Inode Cell) → Sets [] a a
  unfolding edit_all
  sets_none a u h = (u, refl, h)

  pub sets_both : (cs ds : List Command) (a b c : Inode Cell) → Sets cs a b → Sets ds b c → Sets (cs ++ ds) a c
  sets_both cs ds a b c f g u h =
      let one = f u h in
      let two = g one.0 one.2 in
      (two.0, edit_all-append cs ds u ∙ ap (λ (r : Result (Subvolume Cell) Refusal). r >>= edit_all ds) one.1 ∙ two.1, two.2)

  -- One command whose edit is a change of the inode.
  sets_one : (c : Command) (a b : Inode Cell) → b.kind ≡ a.kind → ((u : Subvolume Cell) → Stands u a → edit None (held (bytes_of c)) c u ≡ Ok (set_inode x b u)) → Sets (c ∷ []) a b
  unfolding edit_all
  sets_one c a b same f u h = (set_inode x b u, ap (λ (r : Result (Subvolume Cell) Refusal). r >>= (λ v. Ok v)) (f u h), stands_on u a b h same)

  change_is : (f : Inode Cell → Inode Cell) (a : Inode Cell) (u : Subvolume Cell) → Stands u a → change_at path f u ≡ Ok (set_inode x (f a) u)
  unfolding change_at
  change_is f a u h = rw (walks u a h path ∙ way, changed x f u a h.here) refl

  contents_are : (end : ℕ) (f : List Cell → List Cell) (a : Inode Cell) (u : Subvolume Cell) → Stands u a → is_file_kind a.kind ≡ true → nat_le end greatest_end ≡ true
      → change_contents path end f u ≡ Ok (set_inode x (set_cells f a) u)
  unfolding change_contents
  contents_are end f a u h file fits = rw (walks u a h path ∙ way, file_here u a h ∙ file, fits, changed x (set_cells f) u a h.here) refl

  xattr_is : (name value : List ℕ) (a : Inode Cell) (u : Subvolume Cell) → Stands u a → is_xattr_name name ≡ true
      → set_xattr path name value u ≡ Ok (set_inode x (record a { xattrs = with_value bytes_cmp name value a.xattrs }) u)
  unfolding set_xattr
  xattr_is name value a u h is = rw (walks u a h path ∙ way, is, changed x (λ inode. record inode { xattrs = with_value bytes_cmp name value inode.xattrs }) u a h.here) refl

  -- ---- extended attributes

  abbrev with_xattrs : Inode Cell → Map (List ℕ) (List ℕ) → Inode Cell
  with_xattrs a m = record a { xattrs = m }

  pub xattrs_set : (a : Inode Cell) (done rest : Map (List ℕ) (List ℕ)) → IsMap bytes_cmp (done ++ rest) → AllByRecursion (λ e. is_xattr_name e.0 ≡ true) rest
      → Sets (map (λ e. SetXattr e.0 e.1 path) rest) (with_xattrs a done) (with_xattrs a (done ++ rest))
  unfolding edit
  xattrs_set a done [] ordered good = subst (λ (m : Map (List ℕ) (List ℕ)). Sets [] (with_xattrs a done) (with_xattrs a m)) (sym (append-nil done)) (sets_none (with_xattrs a done))
  xattrs_set a done (e ∷ rest) ordered good =
      let last : with_value bytes_cmp e.0 e.1 done ≡ done ++ (e.0, e.1) ∷ [] = put_last e.0 e.1 done rest ordered in
      let all : (done ++ (e.0, e.1) ∷ []) ++ rest ≡ done ++ e ∷ rest = append_assoc done ((e.0, e.1) ∷ []) rest in
      let first : Sets (SetXattr e.0 e.1 path ∷ []) (with_xattrs a done) (with_xattrs a (with_value bytes_cmp e.0 e.1 done)) =
      sets_one (SetXattr e.0 e.1 path) (with_xattrs a done) (with_xattrs a (with_value bytes_cmp e.0 e.1 done)) refl (λ u h. xattr_is e.0 e.1 (with_xattrs a done) u h good.0) in
      let more : Sets (map (λ f. SetXattr f.0 f.1 path) rest) (with_xattrs a (done ++ (e.0, e.1) ∷ [])) (with_xattrs a ((done ++ (e.0, e.1) ∷ []) ++ rest)) =
      xattrs_set a (done ++ (e.0, e.1) ∷ []) rest (subst (IsMap bytes_cmp) (sym all) ordered) good.1 in
      sets_both (SetXattr e.0 e.1 path ∷ []) (map (λ f. SetXattr f.0 f.1 path) rest) (with_xattrs a done) (with_xattrs a (done ++ (e.0, e.1) ∷ [])) (with_xattrs a (done ++ e ∷ rest))
      (subst (λ (m : Map (List ℕ) (List ℕ)). Sets (SetXattr e.0 e.1 path ∷ []) (with_xattrs a done) (with_xattrs a m)) last first)
      (subst (λ (m : Map (List ℕ) (List ℕ)). Sets (map (λ f. SetXattr f.0 f.1 path) rest) (with_xattrs a (done ++ (e.0, e.1) ∷ [])) (with_xattrs a m)) all more)

  -- ---- contents

  module _ (a : Inode Cell) (file : is_file_kind a.kind ≡ true) where
    abbrev with_contents : List Cell → Inode Cell
    with_contents cells = record a { cells = cells }

    write_sets : (from : ℕ) (bytes : List ℕ) (cells : List Cell) → from + length bytes ≤ greatest_end
        → Sets (Write path from bytes ∷ []) (with_contents cells) (with_contents (written_at None from (held bytes) cells))
    unfolding edit
    write_sets from bytes cells fits = sets_one (Write path from bytes) (with_contents cells) (with_contents (written_at None from (held bytes) cells)) refl
        (λ u h. contents_are (from + length (held bytes)) (written_at None from (held bytes)) (with_contents cells) u h file
        (le-leb (from + length (held bytes)) greatest_end (subst (λ (n : ℕ). from + n ≤ greatest_end) (sym (length-map bytes (λ b. Some b))) fits)))

    -- WRITE commands of at most so many bytes each.
    abbrev chunks : ℕ → ℕ → ℕ → List ℕ → List Command
    chunks w zero from bytes = []
    chunks w (suc n) from [] = []
    chunks w (suc n) from (b ∷ bytes) = Write path from (take (suc w) (b ∷ bytes)) ∷ chunks w n (from + suc w) (drop (suc w) (b ∷ bytes))

    chunked : (w n from : ℕ) (bytes : List ℕ) → write_len ≡ suc w → writes_from n path from bytes ≡ chunks w n from bytes
    chunked w zero from bytes e = refl
    chunked w (suc n) from [] e = refl
    chunked w (suc n) from (b ∷ bytes) e =
        let rest : ℕ → List Command = λ k. Write path from (take k (b ∷ bytes)) ∷ writes_from n path (from + k) (drop k (b ∷ bytes)) in
        ap rest e ∙ ap (λ (cs : List Command). Write path from (take (suc w) (b ∷ bytes)) ∷ cs) (chunked w n (from + suc w) (drop (suc w) (b ∷ bytes)) e)

    -- What is left starts where a whole chunk ends, or nothing is left.
    long_or_none : (w : ℕ) (bytes rest : List ℕ) → rest ≡ drop w bytes → (rest ≡ []) ⊎ (w ≤ length bytes)
    long_or_none w bytes [] e = inl refl
    long_or_none w bytes (y ∷ rest) e = inr (omega (arith, ap length e, length-drop w bytes))

    chunks_set : (w n from : ℕ) (bytes : List ℕ) (cells : List Cell) → length bytes ≤ n → from + length bytes ≤ greatest_end
        → Sets (chunks w n from bytes) (with_contents cells) (with_contents (written_at None from (held bytes) cells))
    unfolding written_at
    chunks_set w zero from [] cells l fits = sets_none (with_contents cells)
    chunks_set w zero from (b ∷ bytes) cells l fits = absurd (omega (arith, l))
    chunks_set w (suc n) from [] cells l fits = sets_none (with_contents cells)
    chunks_set w (suc n) from (b ∷ bytes) cells l fits =
        let one : List ℕ = b ∷ take w bytes in
        let rest : List ℕ = drop w bytes in
        let all : one ++ rest ≡ b ∷ bytes = ap (λ (r : List ℕ). b ∷ r) (take-append-drop w bytes) in
        let sizes = length-take w bytes in
        let rest_size = length-drop w bytes in
        let middle : List Cell = written_at None from (held one) cells in
        let first : Sets (Write path from one ∷ []) (with_contents cells) (with_contents middle) = write_sets from one cells (omega (arith, sizes, fits)) in
        let last : Inode Cell = with_contents (written_at None from (held (b ∷ bytes)) cells) in
        let joined : written_at None (from + length (held one)) (held rest) middle ≡ written_at None from (held (b ∷ bytes)) cells =
        written_at-append None from (held one) (held rest) cells ∙ ap (λ (r : List Cell). written_at None from r cells) (sym (map-append (λ c. Some c) one rest) ∙ ap held all) in
        let more : Sets (chunks w n (from + suc w) rest) (with_contents middle) last = elim (long_or_none w bytes rest refl) [
          | inr long ↦
              let here : from + suc w ≡ from + length (held one) = omega (arith, long, sizes, length-map one (λ c. Some c)) in
              subst (λ (c : List Cell). Sets (chunks w n (from + suc w) rest) (with_contents middle) (with_contents c)) (ap (λ (k : ℕ). written_at None k (held rest) middle) here ∙ joined)
              (chunks_set w n (from + suc w) rest middle (omega (arith, rest_size, l)) (omega (arith, rest_size, fits, long)))
          | inl none ↦
              let same : middle ≡ written_at None from (held (b ∷ bytes)) cells = ap (λ (r : List ℕ). written_at None from (held r) cells) (sym (append-nil one) ∙ ap (λ (r : List ℕ). one ++ r) (sym none) ∙ all) in
              let nothing : chunks w n (from + suc w) rest ≡ [] = ap (chunks w n (from + suc w)) none ∙ no_chunks w n (from + suc w) in
              subst (λ (cs : List Command). Sets cs (with_contents middle) last) (sym nothing) (subst (λ (c : List Cell). Sets [] (with_contents middle) (with_contents c)) same (sets_none (with_contents middle)))
        ] in
        sets_both (Write path from one ∷ []) (chunks w n (from + suc w) rest) (with_contents cells) (with_contents middle) last first more
      where
        no_chunks : (w n k : ℕ) → chunks w n k [] ≡ []
        no_chunks w zero k = refl
        no_chunks w (suc n) k = refl

    abbrev InBounds : Stretch → Type 0
    InBounds st = st.at + length st.bytes ≤ greatest_end

    stretch_set : (sts : List Stretch) (cells : List Cell) → AllByRecursion InBounds sts
        → Sets (flat_map (stretch_commands path) sts) (with_contents cells) (with_contents (write_all sts cells))
    stretch_set [] cells all = sets_none (with_contents cells)
    stretch_set (st ∷ sts) cells all =
        let middle : List Cell = written_at None st.at (held st.bytes) cells in
        sets_both (stretch_commands path st) (flat_map (stretch_commands path) sts) (with_contents cells) (with_contents middle) (with_contents (write_all sts middle))
        (subst (λ (cs : List Command). Sets cs (with_contents cells) (with_contents middle)) (sym (chunked 49151 (length st.bytes) st.at st.bytes refl)) (chunks_set 49151 (length st.bytes) st.at st.bytes cells (omega arith) all.0))
        (stretch_set sts middle all.1)

    onto_bounds : (k b : ℕ) (sts : List Stretch) → k + 1 ≤ greatest_end → AllByRecursion InBounds sts → AllByRecursion InBounds (onto_stretches k b sts)
    onto_bounds k b [] l all = (l, tt)
    onto_bounds k b (first ∷ rest) l all = one (first.at == k + 1) refl
      where
        one : (c : Bool) → (first.at == k + 1) ≡ c → AllByRecursion InBounds (if c then record { at = k; bytes = b ∷ first.bytes } ∷ rest else record { at = k; bytes = b ∷ [] } ∷ first ∷ rest)
        one true e = let next : first.at ≡ k + 1 = eqb-true first.at (k + 1) e in (omega (arith, next, all.0), all.1)
        one false e = (l, all)

    bounds : (k : ℕ) (cells : List Cell) → k + length cells ≤ greatest_end → AllByRecursion InBounds (stretches k cells)
    bounds k [] l = tt
    bounds k (None ∷ cells) l = bounds (k + 1) cells (omega (arith, l))
    bounds k (Some b ∷ cells) l = onto_bounds k b (stretches (k + 1) cells) (omega (arith, l)) (bounds (k + 1) cells (omega (arith, l)))

    end_set : (cells written : List Cell) → length cells ≤ greatest_end
        → Sets (if ends_in_hole cells then Truncate (length cells) path ∷ [] else []) (with_contents written) (with_contents (ended cells written))
    unfolding edit
    end_set cells written fits = one (ends_in_hole cells)
      where
        one : (b : Bool) → Sets (if b then Truncate (length cells) path ∷ [] else []) (with_contents written) (with_contents (if b then resized None (length cells) written else written))
        one true = sets_one (Truncate (length cells) path) (with_contents written) (with_contents (resized None (length cells) written)) refl
            (λ u h. contents_are (length cells) (resized None (length cells)) (with_contents written) u h file (le-leb (length cells) greatest_end fits))
        one false = sets_none (with_contents written)

    pub contents_set : (cells : List Cell) → length cells ≤ greatest_end → Sets (contents_commands path cells) (with_contents []) (with_contents cells)
    contents_set cells fits =
        subst (λ (c : List Cell). Sets (contents_commands path cells) (with_contents []) (with_contents c)) (contents_again cells)
        (sets_both (flat_map (stretch_commands path) (stretches 0 cells)) (if ends_in_hole cells then Truncate (length cells) path ∷ [] else []) (with_contents []) (with_contents (write_all (stretches 0 cells) [])) (with_contents (ended cells (write_all (stretches 0 cells) [])))
        (stretch_set (stretches 0 cells) [] (bounds 0 cells (omega (arith, fits)))) (end_set cells (write_all (stretches 0 cells) []) fits))

  -- ---- the other fields

  flags_set : (flags : ℕ) (a : Inode Cell) → a.flags ≡ 0 → Sets (flags_commands path flags) a (record a { flags = flags })
  unfolding edit
  flags_set flags a none = one (flags == 0) refl
    where
      one : (b : Bool) → (flags == 0) ≡ b → Sets (if b then [] else FileAttr path flags ∷ []) a (record a { flags = flags })
      one true e = let same : a.flags ≡ flags = none ∙ sym (eqb-true flags 0 e) in
          subst (λ (n : ℕ). Sets [] a (record a { flags = n })) same (sets_none a)
      one false e = sets_one (FileAttr path flags) a (record a { flags = flags }) refl (λ u h. change_is (λ inode. record inode { flags = flags }) a u h)

  settings_set : (mode uid gid flags : ℕ) (atime mtime : Time) (a : Inode Cell) → a.flags ≡ 0
      → Sets (Chown uid gid path ∷ Chmod mode path ∷ (flags_commands path flags ++ Utimes mtime atime path ∷ [])) a
      (record a { mode = mode % 0o10_000; uid = uid; gid = gid; atime = atime; mtime = mtime; flags = flags })
  unfolding edit
  settings_set mode uid gid flags atime mtime a none =
      let owned : Inode Cell = record a { uid = uid; gid = gid } in
      let moded : Inode Cell = record owned { mode = mode % 0o10_000 } in
      let flagged : Inode Cell = record moded { flags = flags } in
      let timed : Inode Cell = record flagged { atime = atime; mtime = mtime } in
      sets_both (Chown uid gid path ∷ []) (Chmod mode path ∷ (flags_commands path flags ++ Utimes mtime atime path ∷ [])) a owned timed
      (sets_one (Chown uid gid path) a owned refl (λ u h. change_is (λ inode. record inode { uid = uid; gid = gid }) a u h))
      (sets_both (Chmod mode path ∷ []) (flags_commands path flags ++ Utimes mtime atime path ∷ []) owned moded timed
      (sets_one (Chmod mode path) owned moded refl (λ u h. change_is (λ inode. record inode { mode = mode % 0o10_000 }) owned u h))
      (sets_both (flags_commands path flags) (Utimes mtime atime path ∷ []) moded flagged timed (flags_set flags moded none)
      (sets_one (Utimes mtime atime path) flagged timed refl (λ u h. change_is (λ inode. record inode { atime = atime; mtime = mtime }) flagged u h))))

  -- ---- all of them

  record Fields (a : Inode Cell) (k : NodeKind) : Type 0 where
    kind : a.kind ≡ k
    flags : a.flags ≡ 0
    xattrs : a.xattrs ≡ []
    cells : a.cells ≡ []

  made_fields : (kind : NodeKind) (inode : Inode Cell) → Fields (made kind inode) kind
  made_fields File inode = record { kind = refl; flags = refl; xattrs = refl; cells = refl }
  made_fields Directory inode = record { kind = refl; flags = refl; xattrs = refl; cells = refl }
  made_fields SymbolicLink inode = record { kind = refl; flags = refl; xattrs = refl; cells = refl }
  made_fields CharacterDevice inode = record { kind = refl; flags = refl; xattrs = refl; cells = refl }
  made_fields BlockDevice inode = record { kind = refl; flags = refl; xattrs = refl; cells = refl }
  made_fields Fifo inode = record { kind = refl; flags = refl; xattrs = refl; cells = refl }
  made_fields Socket inode = record { kind = refl; flags = refl; xattrs = refl; cells = refl }

  same_xattrs : (a : Inode Cell) → a.xattrs ≡ [] → record a { xattrs = [] } ≡ a
  same_xattrs a e = ap (λ (m : Map (List ℕ) (List ℕ)). record a { xattrs = m }) (sym e)

  same_cells : (a : Inode Cell) → a.cells ≡ [] → record a { cells = [] } ≡ a
  same_cells a e = ap (λ (m : List Cell). record a { cells = m }) (sym e)

  whole : (inode a : Inode Cell) → a.kind ≡ inode.kind → a.rdev ≡ inode.rdev → a.target ≡ inode.target → inode.mode % 0o10_000 ≡ inode.mode
      → record a { xattrs = inode.xattrs; cells = inode.cells; mode = inode.mode % 0o10_000; uid = inode.uid; gid = inode.gid; atime = inode.atime; mtime = inode.mtime; flags = inode.flags } ≡ inode
  whole inode a k r t m = λ i. record inode { kind = k i; rdev = r i; target = t i; mode = m i }

  -- A new inode becomes one with all fields of another of its kind.
  pub settled : (inode : Inode Cell) → IsMade inode → IsMap bytes_cmp inode.xattrs → old ≡ made inode.kind inode
      → Sets (map (λ e. SetXattr e.0 e.1 path) inode.xattrs ++ (contents_commands path inode.cells ++ setting_commands path inode)) old inode
  settled inode is ordered fresh =
      let xs : List Command = map (λ e. SetXattr e.0 e.1 path) inode.xattrs in
      let cs : List Command = contents_commands path inode.cells in
      let a : Inode Cell = made inode.kind inode in
      let b : Inode Cell = record a { xattrs = inode.xattrs } in
      let c : Inode Cell = record b { cells = inode.cells } in
      let d : Inode Cell = record c { mode = inode.mode % 0o10_000; uid = inode.uid; gid = inode.gid; atime = inode.atime; mtime = inode.mtime; flags = inode.flags } in
      let f = made_fields inode.kind inode in
      let plain : record a { xattrs = [] } ≡ a = same_xattrs a f.xattrs in
      let no_cells : record b { cells = [] } ≡ b = same_cells b f.cells in
      let first : Sets xs a b = subst (λ (i : Inode Cell). Sets xs i b) plain (xattrs_set a [] inode.xattrs ordered is.attributes) in
      let second : Sets cs b c = elim (cases_Bool (is_file_kind inode.kind)) [
        | inl file ↦ subst (λ (i : Inode Cell). Sets cs i c) no_cells (contents_set b (ap is_file_kind f.kind ∙ file) inode.cells is.size)
        | inr other ↦
            let empty : inode.cells ≡ [] = is.contents other in
            subst (λ (cells : List Cell). Sets (contents_commands path cells) b (record b { cells = cells })) (sym empty) (subst (λ (i : Inode Cell). Sets [] b i) (sym no_cells) (sets_none b))
      ] in
      let third : Sets (setting_commands path inode) c d = settings_set inode.mode inode.uid inode.gid inode.flags inode.atime inode.mtime c f.flags in
      let last : d ≡ inode = whole inode a f.kind is.rdev is.target is.mode in
      subst (λ (i : Inode Cell). Sets (xs ++ (cs ++ setting_commands path inode)) i inode) (sym fresh)
      (subst (λ (i : Inode Cell). Sets (xs ++ (cs ++ setting_commands path inode)) a i) last
      (sets_both xs (cs ++ setting_commands path inode) a b d first (sets_both cs (setting_commands path inode) b c d second third)))

  -- ---- the same in the kernel's order

  link_mode : (k : NodeKind) (inode : Inode Cell) → is_link_kind k ≡ true → (made k inode).mode ≡ 0o777
  link_mode SymbolicLink inode e = refl
  link_mode File inode e = cc
  link_mode Directory inode e = cc
  link_mode CharacterDevice inode e = cc
  link_mode BlockDevice inode e = cc
  link_mode Fifo inode e = cc
  link_mode Socket inode e = cc

  mode_set : (inode a : Inode Cell) → a.mode ≡ (made inode.kind inode).mode → inode.mode % 0o10_000 ≡ inode.mode → Sets (mode_commands path inode) a (record a { mode = inode.mode })
  unfolding edit
  mode_set inode a same low = one (is_link_kind inode.kind && (inode.mode == 0o777)) refl
    where
      one : (b : Bool) → (is_link_kind inode.kind && (inode.mode == 0o777)) ≡ b → Sets (if b then [] else Chmod inode.mode path ∷ []) a (record a { mode = inode.mode })
      one true e =
          let p = and_parts (is_link_kind inode.kind) (inode.mode == 0o777) e in
          let at : a.mode ≡ inode.mode = same ∙ link_mode inode.kind inode p.0 ∙ sym (eqb-true inode.mode 0o777 p.1) in
          subst (λ (n : ℕ). Sets [] a (record a { mode = n })) at (sets_none a)
      one false e = subst (λ (n : ℕ). Sets (Chmod inode.mode path ∷ []) a (record a { mode = n })) low
          (sets_one (Chmod inode.mode path) a (record a { mode = inode.mode % 0o10_000 }) refl (λ u h. change_is (λ i. record i { mode = inode.mode % 0o10_000 }) a u h))

  finishing_set : (inode a : Inode Cell) → a.flags ≡ 0 → a.xattrs ≡ [] → a.mode ≡ (made inode.kind inode).mode → IsMade inode → IsMap bytes_cmp inode.xattrs
      → Sets (finishing path inode) a (record a { uid = inode.uid; gid = inode.gid; mode = inode.mode; xattrs = other_xattrs inode.xattrs; flags = inode.flags; atime = inode.atime; mtime = inode.mtime })
  unfolding edit
  finishing_set inode a no_flags no_xattrs mode is ordered =
      let others : Map (List ℕ) (List ℕ) = other_xattrs inode.xattrs in
      let xs : List Command = map (λ e. SetXattr e.0 e.1 path) others in
      let last : List Command = Utimes inode.mtime inode.atime path ∷ [] in
      let owned : Inode Cell = record a { uid = inode.uid; gid = inode.gid } in
      let moded : Inode Cell = record owned { mode = inode.mode } in
      let known : Inode Cell = record moded { xattrs = others } in
      let flagged : Inode Cell = record known { flags = inode.flags } in
      let timed : Inode Cell = record flagged { atime = inode.atime; mtime = inode.mtime } in
      let attributes : Sets xs moded known = subst (λ (i : Inode Cell). Sets xs i known) (same_xattrs moded no_xattrs) (xattrs_set moded [] others (others_ordered inode.xattrs ordered)
      (all_filtered (λ (e : List ℕ × List ℕ). is_xattr_name e.0 ≡ true) (λ e. not (is_capability e)) inode.xattrs is.attributes)) in
      sets_both (Chown inode.uid inode.gid path ∷ []) (mode_commands path inode ++ (xs ++ (flags_commands path inode.flags ++ last))) a owned timed
      (sets_one (Chown inode.uid inode.gid path) a owned refl (λ u h. change_is (λ i. record i { uid = inode.uid; gid = inode.gid }) a u h))
      (sets_both (mode_commands path inode) (xs ++ (flags_commands path inode.flags ++ last)) owned moded timed (mode_set inode owned mode is.mode)
      (sets_both xs (flags_commands path inode.flags ++ last) moded known timed attributes
      (sets_both (flags_commands path inode.flags) last known flagged timed (flags_set inode.flags known no_flags)
      (sets_one (Utimes inode.mtime inode.atime path) flagged timed refl (λ u h. change_is (λ i. record i { atime = inode.atime; mtime = inode.mtime }) flagged u h)))))

  -- A new inode becomes one with all fields of another of its kind but the capabilities.
  pub finished : (inode : Inode Cell) → IsMade inode → IsMap bytes_cmp inode.xattrs → old ≡ made inode.kind inode → Sets (contents_commands path inode.cells ++ finishing path inode) old (bare inode)
  finished inode is ordered fresh =
      let cs : List Command = contents_commands path inode.cells in
      let a : Inode Cell = made inode.kind inode in
      let c : Inode Cell = record a { cells = inode.cells } in
      let d : Inode Cell = record c { uid = inode.uid; gid = inode.gid; mode = inode.mode; xattrs = other_xattrs inode.xattrs; flags = inode.flags; atime = inode.atime; mtime = inode.mtime } in
      let f = made_fields inode.kind inode in
      let no_cells : record a { cells = [] } ≡ a = same_cells a f.cells in
      let first : Sets cs a c = elim (cases_Bool (is_file_kind inode.kind)) [
        | inl file ↦ subst (λ (i : Inode Cell). Sets cs i c) no_cells (contents_set a (ap is_file_kind f.kind ∙ file) inode.cells is.size)
        | inr other ↦
            let empty : inode.cells ≡ [] = is.contents other in
            subst (λ (cells : List Cell). Sets (contents_commands path cells) a (record a { cells = cells })) (sym empty) (subst (λ (i : Inode Cell). Sets [] a i) (sym no_cells) (sets_none a))
      ] in
      let second : Sets (finishing path inode) c d = finishing_set inode c f.flags f.xattrs refl is ordered in
      let same : d ≡ bare inode = λ i. record (bare inode) { kind = f.kind i; rdev = is.rdev i; target = is.target i } in
      subst (λ (i : Inode Cell). Sets (cs ++ finishing path inode) i (bare inode)) (sym fresh)
      (subst (λ (i : Inode Cell). Sets (cs ++ finishing path inode) a i) same (sets_both cs (finishing path inode) a c d first second))

  -- A directory has no contents.
  pub directory_finished : (inode : Inode Cell) → is_directory_kind inode.kind ≡ true → IsMade inode → IsMap bytes_cmp inode.xattrs → old ≡ made inode.kind inode → Sets (finishing path inode) old (bare inode)
  directory_finished inode dir is ordered fresh =
      subst (λ (cells : List Cell). Sets (contents_commands path cells ++ finishing path inode) old (bare inode)) (is.contents (no_file inode.kind dir)) (finished inode is ordered fresh)
    where
      no_file : (k : NodeKind) → is_directory_kind k ≡ true → is_file_kind k ≡ false
      no_file Directory e = refl
      no_file File e = cc
      no_file SymbolicLink e = refl
      no_file CharacterDevice e = refl
      no_file BlockDevice e = refl
      no_file Fifo e = refl
      no_file Socket e = refl

  -- The capabilities come to an inode that has all else.
  pub capabilities_set : (inode : Inode Cell) → IsMap bytes_cmp inode.xattrs → Sets (capability_commands path inode) (bare inode) inode
  unfolding edit
  capabilities_set inode ordered = one (capabilities_of inode.xattrs ordered)
    where
      set_all : Map (List ℕ) (List ℕ) → List Command
      set_all m = map (λ e. SetXattr e.0 e.1 path) m

      one : Capabilities inode.xattrs → Sets (set_all (filter is_capability inode.xattrs)) (bare inode) inode
      one (NoneThere none same) = subst (λ (m : Map (List ℕ) (List ℕ)). Sets (set_all m) (bare inode) inode) (sym none) (subst (λ (m : Map (List ℕ) (List ℕ)). Sets [] (bare inode) (with_xattrs inode m)) same (sets_none (bare inode)))
      one (OneThere value there whole) = subst (λ (m : Map (List ℕ) (List ℕ)). Sets (set_all m) (bare inode) inode) (sym there)
          (subst (λ (m : Map (List ℕ) (List ℕ)). Sets (SetXattr capability value path ∷ []) (bare inode) (with_xattrs inode m)) whole
          (sets_one (SetXattr capability value path) (bare inode) (with_xattrs inode (with_value bytes_cmp capability value (other_xattrs inode.xattrs))) refl (λ u h. xattr_is capability value (bare inode) u h refl)))
