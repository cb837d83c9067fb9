-- The version of a stream that is sent can say each of its commands.
use Rattle.std.specs.Prelude.{◌≡◌, ℕ, zero, suc, ◌+◌, ◌-◌, ◌^◌, ◌<◌, ◌≤◌, ◌%◌, ◌==◌, Bool, true, false, not, ◌||◌, List, [], ◌∷◌, ◌++◌, map, length, take, drop, Option, None, Some, Ok, if◌then◌else◌}
use Rattle.std.specs.List.{AllByRecursion, list_all, list_any, flat_map, join_with_byte}
use Rattle.std.specs.Str.{bytes_eq}
use Rattle.std.specs.Ordering.{nat_cmp}
use Rattle.std.specs.Cmp.Lexicographic.{nat_list_cmp_total}
use Rattle.std.proofs.Common.{refl, sym, ap, subst, ◌∙◌, arith, inl, inr, eqb-true}
use Rattle.std.proofs.lemmas.List.{length-take, length-drop}
use Rattle.std.proofs.lemmas.Map.Lookups.{exact_bytes}
use Rattle.std.proofs.Math.Nat.{mod-lt}
use Rattle.send_model.specs.Attribute.{Bytes, FieldFits, FieldsFit, IsBytes}
use Rattle.send_model.specs.Command.{Command, Subvol, MkFile, MkDir, MkNod, MkFifo, MkSock, Symlink, Link, SetXattr, Write, Truncate, Chmod, Chown, Utimes, FileAttr, End, kind_of, kind_of_number, row, fields_of}
use Rattle.send_model.specs.Spelling.{IsSpellable, IsKnown}
use Rattle.send_model.specs.Path.{slash, is_name}
use Rattle.send_model.specs.Map.{Map, bytes_cmp, named_cmp}
use Rattle.send_model.specs.Subvolume.{NodeKind, File, Directory, SymbolicLink, CharacterDevice, BlockDevice, Fifo, Socket, Inode, Subvolume, root, walk}
use Rattle.send_model.specs.Edit.{greatest_end}
use Rattle.send_model.specs.Store.{Key}
use Rattle.send_model.specs.Composed.{write_len, writes_from}
use Rattle.snapshot_model.specs.Listing.{byte_of, Listed, listed, listing, paths_of}
use Rattle.snapshot_model.specs.Sent.{Stretch, onto_stretches, stretches, stretch_commands, ends_in_hole, contents_commands, making, making_commands, flags_commands, setting_commands, inode_commands, listed_commands, sent_edits, sent, sent_version}
use Rattle.snapshot_model.specs.SentLaws.{IsMade, IsSendable, IsTold, CanBeTold, SentIsSpellable}
use Rattle.send_model.proofs.ElementLaws.{all_both, all_take, all_drop}
use Rattle.send_model.proofs.Canonical.{bytes_append, spellable_first}
use Rattle.send_model.proofs.Keeping.{all_found}
use Rattle.send_model.proofs.MapLaws.{named_cmp_total, named_cmp_exact}
use Rattle.send_model.proofs.WalkLaws.{Leads, Step}
use Rattle.send_model.proofs.PathLaws.{path_names_all, path_names_short}
use Rattle.send_model.proofs.LeastPaths.{Among, all_at, entry_found, found_entry, joined, join_all}
use Rattle.snapshot_model.proofs.SentPaths.{walked, paths_ordered, path_found_walks}
use Rattle.snapshot_model.proofs.SentParts.{first}
use Rattle.snapshot_model.proofs.SentAgain.{entry}

abbrev Cell : Type 0
Cell = Option ℕ

-- A path that can be said.
pub record IsTellable (path : List ℕ) : Type 0 where
  pub short : length path ≤ 4095
  pub bytes : IsBytes path

module _ (later : Bool) where
  abbrev pub Says : Command → Type 0
  Says c = IsSpellable (if later then 2 else 1) c

  -- Both versions have all commands but FILEATTR.
  pub says : (c : Command) → IsKnown 1 (kind_of c) → IsKnown 2 (kind_of c) → FieldsFit 1 (row (kind_of c)).wanted (fields_of c) → Says c
  says c one two fits = by later
    where
      by : (b : Bool) → IsSpellable (if b then 2 else 1) c
      by true = spellable_first 2 c two fits
      by false = spellable_first 1 c one fits

  pub path_fits : (path : List ℕ) → IsTellable path → (kind : ℕ) → FieldFits 1 kind (Bytes path)
  path_fits path h kind = (λ e. omega (arith, h.short), h.bytes)

  module _ (path : List ℕ) (p : IsTellable path) where
    pub says_xattrs : (m : Map (List ℕ) (List ℕ)) → AllByRecursion (λ e. FieldFits 1 13 (Bytes e.0)) m → AllByRecursion (λ e. FieldFits 1 14 (Bytes e.1)) m → AllByRecursion Says (map (λ e. SetXattr e.0 e.1 path) m)
    unfolding row kind_of_number
    says_xattrs [] h g = tt
    says_xattrs (e ∷ m) h g = (says (SetXattr e.0 e.1 path) refl refl (h.0, (g.0, (path_fits path p 15, tt))), says_xattrs m h.1 g.1)

    abbrev Fits : ℕ → List ℕ → Type 0
    Fits from [] = Unit {0}
    Fits from (b ∷ bytes) = from + length (b ∷ bytes) ≤ greatest_end

    fits_rest : (from len w : ℕ) (rest : List ℕ) → from + len ≤ greatest_end → length rest ≡ len - w → Fits (from + w) rest
    fits_rest from len w [] fits at = tt
    fits_rest from len w (c ∷ rest) fits at = omega (arith, fits, at)

    -- WRITE commands of at most so many bytes each.
    abbrev chunks : ℕ → ℕ → ℕ → List ℕ → List Command
    chunks w zero from bytes = []
    chunks w (suc n) from [] = []
    chunks w (suc n) from (b ∷ bytes) = Write path from (take (suc w) (b ∷ bytes)) ∷ chunks w n (from + suc w) (drop (suc w) (b ∷ bytes))

    chunked : (w n from : ℕ) (bytes : List ℕ) → write_len ≡ suc w → writes_from n path from bytes ≡ chunks w n from bytes
    chunked w zero from bytes e = refl
    chunked w (suc n) from [] e = refl
    chunked w (suc n) from (b ∷ bytes) e =
        let rest : ℕ → List Command = λ k. Write path from (take k (b ∷ bytes)) ∷ writes_from n path (from + k) (drop k (b ∷ bytes)) in
        ap rest e ∙ ap (λ (cs : List Command). Write path from (take (suc w) (b ∷ bytes)) ∷ cs) (chunked w n (from + suc w) (drop (suc w) (b ∷ bytes)) e)

    says_chunks : (w n from : ℕ) (bytes : List ℕ) → suc w < 2 ^ 16 → Fits from bytes → IsBytes bytes → AllByRecursion Says (chunks w n from bytes)
    unfolding row kind_of_number
    says_chunks w zero from bytes small fits are = tt
    says_chunks w (suc n) from [] small fits are = tt
    says_chunks w (suc n) from (b ∷ bytes) small fits are =
        let one : List ℕ = take (suc w) (b ∷ bytes) in
        let size : length one ≤ suc w = omega (arith, length-take w bytes) in
        let near : from < 2 ^ 64 = omega (arith, fits) in
        let short : length one < 2 ^ 16 = omega (arith, size, small) in (
          says (Write path from one) refl refl (path_fits path p 15, (near, (((λ x. short), all_take (λ c. c < 256) (suc w) (b ∷ bytes) are), tt))),
          says_chunks w n (from + suc w) (drop (suc w) (b ∷ bytes)) small (fits_rest from (length (b ∷ bytes)) (suc w) (drop (suc w) (b ∷ bytes)) fits (length-drop (suc w) (b ∷ bytes))) (all_drop (λ c. c < 256) (suc w) (b ∷ bytes) are),
        )

    abbrev Sayable : Stretch → Type 0
    Sayable st = (st.at + length st.bytes ≤ greatest_end) × IsBytes st.bytes

    fits_all : (from : ℕ) (bytes : List ℕ) → from + length bytes ≤ greatest_end → Fits from bytes
    fits_all from [] l = tt
    fits_all from (b ∷ bytes) l = l

    says_stretches : (sts : List Stretch) → AllByRecursion Sayable sts → AllByRecursion Says (flat_map (stretch_commands path) sts)
    says_stretches [] h = tt
    says_stretches (st ∷ sts) h = all_both Says (stretch_commands path st) (flat_map (stretch_commands path) sts)
        (subst (λ (cs : List Command). AllByRecursion Says cs) (sym (chunked 49151 (length st.bytes) st.at st.bytes refl)) (says_chunks 49151 (length st.bytes) st.at st.bytes (omega arith) (fits_all st.at st.bytes h.0.0) h.0.1)) (says_stretches sts h.1)

    onto_sayable : (k b : ℕ) (sts : List Stretch) → b < 256 → k + 1 ≤ greatest_end → AllByRecursion Sayable sts → AllByRecursion Sayable (onto_stretches k b sts)
    onto_sayable k b [] small l h = ((l, (small, tt)), tt)
    onto_sayable k b (first ∷ rest) small l h = one (first.at == k + 1) refl
      where
        one : (c : Bool) → (first.at == k + 1) ≡ c → AllByRecursion Sayable (if c then record { at = k; bytes = b ∷ first.bytes } ∷ rest else record { at = k; bytes = b ∷ [] } ∷ first ∷ rest)
        one true e = let next : first.at ≡ k + 1 = eqb-true first.at (k + 1) e in ((omega (arith, next, h.0.0), (small, h.0.1)), h.1)
        one false e = ((l, (small, tt)), h)

    sayable : (k : ℕ) (cells : List Cell) → k + length cells ≤ greatest_end → AllByRecursion (λ cell. byte_of cell < 256) cells → AllByRecursion Sayable (stretches k cells)
    sayable k [] l h = tt
    sayable k (None ∷ cells) l h = sayable (k + 1) cells (omega (arith, l)) h.1
    sayable k (Some b ∷ cells) l h = onto_sayable k b (stretches (k + 1) cells) h.0 (omega (arith, l)) (sayable (k + 1) cells (omega (arith, l)) h.1)

    says_end : (b : Bool) (n : ℕ) → n ≤ greatest_end → AllByRecursion Says (if b then Truncate n path ∷ [] else [])
    unfolding row kind_of_number
    says_end true n l = let near : n < 2 ^ 64 = omega (arith, l) in (says (Truncate n path) refl refl (near, (path_fits path p 15, tt)), tt)
    says_end false n l = tt

    pub says_contents : (cells : List Cell) → length cells ≤ greatest_end → AllByRecursion (λ cell. byte_of cell < 256) cells → AllByRecursion Says (contents_commands path cells)
    says_contents cells l h =
        all_both Says (flat_map (stretch_commands path) (stretches 0 cells)) (if ends_in_hole cells then Truncate (length cells) path ∷ [] else [])
        (says_stretches (stretches 0 cells) (sayable 0 cells (omega (arith, l)) h)) (says_end (ends_in_hole cells) (length cells) l)

    pub says_making : (kind : NodeKind) (inode : Inode Cell) → IsTold inode → Says (making path kind inode)
    unfolding row kind_of_number
    says_making File inode h = says (MkFile path) refl refl (path_fits path p 15, tt)
    says_making Directory inode h = says (MkDir path) refl refl (path_fits path p 15, tt)
    says_making SymbolicLink inode h = says (Symlink path inode.target) refl refl (path_fits path p 15, (h.target, tt))
    says_making CharacterDevice inode h = says (MkNod 0o020_000 inode.rdev path) refl refl ((let k : 0o020_000 < 2 ^ 64 = omega arith in k), (h.device, (path_fits path p 15, tt)))
    says_making BlockDevice inode h = says (MkNod 0o060_000 inode.rdev path) refl refl ((let k : 0o060_000 < 2 ^ 64 = omega arith in k), (h.device, (path_fits path p 15, tt)))
    says_making Fifo inode h = says (MkFifo path) refl refl (path_fits path p 15, tt)
    says_making Socket inode h = says (MkSock path) refl refl (path_fits path p 15, tt)

    pub says_flags : (flags : ℕ) → flags < 2 ^ 64 → (not (flags == 0) ≡ true → later ≡ true) → AllByRecursion Says (flags_commands path flags)
    unfolding row kind_of_number
    says_flags flags small only = one (flags == 0) only
      where
        one : (b : Bool) → (not b ≡ true → later ≡ true) → AllByRecursion Says (if b then [] else FileAttr path flags ∷ [])
        one true f = tt
        one false f = (subst (λ (l : Bool). IsSpellable (if l then 2 else 1) (FileAttr path flags)) (sym (f refl)) (spellable_first 2 (FileAttr path flags) refl (path_fits path p 15, (small, tt))), tt)

    says_settings : (inode : Inode Cell) → IsTold inode → IsMade inode → (not (inode.flags == 0) ≡ true → later ≡ true) → AllByRecursion Says (setting_commands path inode)
    unfolding row kind_of_number
    says_settings inode h is only =
        let low : inode.mode % 0o10_000 < 0o10_000 = mod-lt inode.mode (omega arith) in
        let mode : inode.mode < 2 ^ 64 = omega (arith, low, is.mode) in (
          says (Chown inode.uid inode.gid path) refl refl (h.owners.0, (h.owners.1, (path_fits path p 15, tt))),
          (
            says (Chmod inode.mode path) refl refl (mode, (path_fits path p 15, tt)),
            all_both Says (flags_commands path inode.flags) (Utimes inode.mtime inode.atime path ∷ []) (says_flags inode.flags h.flags only)
                (says (Utimes inode.mtime inode.atime path) refl refl (h.mtime, (h.atime, (path_fits path p 15, tt))), tt),
          ),
        )

  says_inode : (path : List ℕ) → IsTellable path → (inode : Inode Cell) → IsTold inode → IsMade inode → (not (inode.flags == 0) ≡ true → later ≡ true) → AllByRecursion Says (inode_commands path inode)
  says_inode path p inode h is only =
      let xs : List Command = map (λ e. SetXattr e.0 e.1 path) inode.xattrs in
      all_both Says (making_commands path inode) (xs ++ (contents_commands path inode.cells ++ setting_commands path inode)) (making_said path p)
      (all_both Says xs (contents_commands path inode.cells ++ setting_commands path inode) (says_xattrs path p inode.xattrs h.attribute_names h.attribute_values)
      (all_both Says (contents_commands path inode.cells) (setting_commands path inode) (says_contents path p inode.cells is.size h.cells) (says_settings path p inode h is only)))
    where
      making_said : (path : List ℕ) → IsTellable path → AllByRecursion Says (making_commands path inode)
      making_said [] p = tt
      making_said (b ∷ path) p = (says_making (b ∷ path) p inode.kind inode h, tt)

  -- What is known of a path of the listing.
  pub record Known (e : List ℕ × Listed Cell) : Type 0 where
    pub path : IsTellable e.0
    pub first : IsTellable e.1.first
    pub told : IsTold e.1.inode
    pub is : IsMade e.1.inode
    pub only : not (e.1.inode.flags == 0) ≡ true → later ≡ true

  says_listed : (e : List ℕ × Listed Cell) → Known e → AllByRecursion Says (listed_commands e)
  unfolding row kind_of_number
  says_listed e k = one (bytes_eq e.0 e.1.first)
    where
      one : (b : Bool) → AllByRecursion Says (if b then inode_commands e.0 e.1.inode else Link e.0 e.1.first ∷ [])
      one true = says_inode e.0 k.path e.1.inode k.told k.is k.only
      one false = (says (Link e.0 e.1.first) refl refl (path_fits e.0 k.path 15, (path_fits e.1.first k.first 17, tt)), tt)

  pub says_all : (m : Map (List ℕ) (Listed Cell)) → AllByRecursion Known m → AllByRecursion Says (flat_map listed_commands m)
  says_all [] h = tt
  says_all (e ∷ m) h = all_both Says (listed_commands e) (flat_map listed_commands m) (says_listed e h.0) (says_all m h.1)

-- ---- what is known of each path

flags_seen : (m : Map (List ℕ) (Listed Cell)) (e : List ℕ × Listed Cell) → Among e m → not (e.1.inode.flags == 0) ≡ true → list_any (λ e. not (e.1.inode.flags == 0)) m ≡ true
flags_seen [] e a f = absurd a
flags_seen (x ∷ m) e (inl same) f = ap (λ (b : Bool). b || list_any (λ e. not (e.1.inode.flags == 0)) m) (ap (λ (y : List ℕ × Listed Cell). not (y.1.inode.flags == 0)) same ∙ f)
flags_seen (x ∷ m) e (inr a) f = one (not (x.1.inode.flags == 0)) (flags_seen m e a f)
  where
    one : (b : Bool) → list_any (λ e. not (e.1.inode.flags == 0)) m ≡ true → (b || list_any (λ e. not (e.1.inode.flags == 0)) m) ≡ true
    one true h = refl
    one false h = h

joined_bytes : (names : List (List ℕ)) → AllByRecursion (λ n. IsBytes n) names → IsBytes (join_with_byte slash names)
joined_bytes [] h = tt
joined_bytes (n ∷ []) h = h.0
joined_bytes (n ∷ m ∷ names) h = bytes_append n (slash ∷ join_with_byte slash (m ∷ names)) h.0 ((let k : slash < 256 = omega arith in k), joined_bytes (m ∷ names) h.1)

module _ (s : Subvolume Cell) (sendable : IsSendable s) (names : AllByRecursion (λ e. IsBytes e.0.1) s.names) (told : AllByRecursion (λ e. IsTold e.1) s.inodes) where
  abbrev pub listed_at : List ℕ × ℕ → List ℕ × Listed Cell
  listed_at e = (e.0, listed s e.1)

  way_bytes : (way : List (List ℕ)) (from to : ℕ) → Leads (Step s) way from to → AllByRecursion (λ n. IsBytes n) way
  way_bytes [] from to l = tt
  way_bytes (n ∷ way) from to l =
      (all_at (λ (e : (ℕ × List ℕ) × ℕ). IsBytes e.0.1) ((from, n), l.0) s.names names (found_entry named_cmp named_cmp_total named_cmp_exact (from, n) l.0 s.names l.1.1), way_bytes way l.0 to l.2)

  tellable : (p : List ℕ) (i : ℕ) → walk s p ≡ Ok i → IsTellable p
  tellable p i w =
      let a = walked s p i w in
      let good : list_all is_name a.names ≡ true = path_names_all p a.names a.names_are in
      let whole : join_with_byte slash a.names ≡ p = sym (join_all a.names good) ∙ (joined s p a.names a.names_are).0 in
      record { short = path_names_short p a.names a.names_are; bytes = subst IsBytes whole (joined_bytes a.names (way_bytes a.names root i a.leads)) }

  known : (p : List ℕ) (i : ℕ) → walk s p ≡ Ok i → (later : Bool) → (not ((listed s i).inode.flags == 0) ≡ true → later ≡ true) → Known later (p, listed s i)
  known p i w later only =
      let e = entry s sendable p i w in
      let first_is : (listed s i).first ≡ first s sendable.lawful i = ap (λ (l : Listed Cell). l.first) e.listed_is in
      let inode_is : (listed s i).inode ≡ e.inode = ap (λ (l : Listed Cell). l.inode) e.listed_is in
      record {
        path = tellable p i w;
        first = subst IsTellable (sym first_is) (tellable (first s sendable.lawful i) i e.first_leads);
        told = subst (λ (n : Inode Cell). IsTold n) (sym inode_is) (all_found nat_cmp (λ (n : Inode Cell). IsTold n) i e.inode s.inodes told e.at);
        is = subst (λ (n : Inode Cell). IsMade n) (sym inode_is) e.is;
        only = only;
      }

  known_all : (later : Bool) (m : Map (List ℕ) ℕ) → ((e : List ℕ × ℕ) → Among e m → walk s e.0 ≡ Ok e.1) → ((e : List ℕ × ℕ) → Among e m → not ((listed s e.1).inode.flags == 0) ≡ true → later ≡ true)
      → AllByRecursion (Known later) (map listed_at m)
  known_all later [] w f = tt
  known_all later (e ∷ m) w f = (known e.0 e.1 (w e (inl refl)) later (f e (inl refl)), known_all later m (λ x a. w x (inr a)) (λ x a. f x (inr a)))

  among_listing : (m : Map (List ℕ) ℕ) (e : List ℕ × ℕ) → Among e m → Among (listed_at e) (map listed_at m)
  among_listing [] e a = absurd a
  among_listing (x ∷ m) e (inl same) = inl (ap listed_at same)
  among_listing (x ∷ m) e (inr a) = inr (among_listing m e a)

  -- Whether a flag is sent.
  abbrev pub later : Bool
  later = list_any (λ e. not (e.1.inode.flags == 0)) (map listed_at (paths_of s))

  pub all_known : AllByRecursion (Known later) (map listed_at (paths_of s))
  all_known = known_all later (paths_of s)
      (λ e a. path_found_walks s sendable.lawful e.0 e.1 (entry_found bytes_cmp nat_list_cmp_total exact_bytes e (paths_of s) (paths_ordered s) a))
      (λ e a f. flags_seen (map listed_at (paths_of s)) (listed_at e) (among_listing (paths_of s) e a) f)

  edits_said : AllByRecursion (IsSpellable (sent_version s)) (sent_edits s)
  unfolding sent_edits sent_version listing
  edits_said = says_all later (map listed_at (paths_of s)) all_known

-- Edits that can be said can be so between a head and END.
pub between_said : (name : List ℕ) (key : Key) (s : Subvolume Cell) (edits : List Command) → CanBeTold name key s → AllByRecursion (IsSpellable (sent_version s)) edits
    → AllByRecursion (IsSpellable (sent_version s)) (Subvol key.uuid key.ctransid name ∷ (edits ++ End ∷ []))
unfolding sent_version row kind_of_number
between_said name key s edits told said = (
  says (list_any (λ e. not (e.1.inode.flags == 0)) (listing s)) (Subvol key.uuid key.ctransid name) refl refl (told.uuid, (told.ctransid, (told.name_told, tt))),
  all_both (IsSpellable (sent_version s)) edits (End ∷ []) said (says (list_any (λ e. not (e.1.inode.flags == 0)) (listing s)) End refl refl tt, tt),
)

pub sent_is_spellable : SentIsSpellable
unfolding sent
sent_is_spellable name key s sendable told = between_said name key s (sent_edits s) told (edits_said s sendable told.names told.inodes)
