-- The commands of the pieces of a redirected clone can be spelled, and are neither heads nor END.
use Rattle.std.specs.Prelude.{◌≡◌, ℕ, zero, suc, ◌+◌, ◌-◌, ◌^◌, ◌<◌, ◌≤◌, ◌==◌, Bool, true, false, List, [], ◌∷◌, map, length, take, drop, Option, None, Some, Ok, nat_le, is_some, if◌then◌else◌}
use Rattle.std.specs.List.{AllByRecursion, flat_map}
use Rattle.std.specs.Option.{unwrap_or}
use Rattle.std.specs.Ordering.{nat_cmp}
use Rattle.std.proofs.Common.{refl, sym, ap, subst, ◌∙◌, arith, zero-le, length-append, ⊎_elim}
use Rattle.std.proofs.lemmas.Bool.{leb-true}
use Rattle.std.proofs.lemmas.List.{length-take, length-drop, length-map}
use Rattle.send_model.specs.Attribute.{UUID, CTRANSID, PATH, DATA, Identifier, Number, Bytes, FieldFits, IsBytes}
use Rattle.send_model.specs.Command.{Command, WRITE, CLONE, Write, Clone, row, kind_of_number}
use Rattle.send_model.specs.Spelling.{IsKnown, IsSpellable}
use Rattle.send_model.specs.Map.{Map}
use Rattle.send_model.specs.Path.{slash, path_names, longest_path}
use Rattle.send_model.specs.Subvolume.{Inode, Subvolume, inode_at, root, path_below, Reached, one_further, all_further, paths_from, all_paths, first_path, is_nameable, IsLawful}
use Rattle.send_model.specs.Edit.{greatest_end}
use Rattle.send_model.specs.Clone.{cells_of, Cloned, cloned, clone_values}
use Rattle.send_model.specs.Store.{Key, Store, Part, head_of, find, edit_part}
use Rattle.send_model.specs.Outside.{IsAmong, FindsSayable}
use Rattle.send_model.specs.Counts.{is_end}
use Rattle.send_model.specs.Provenance.{Place, Traced, fresh, Piece, Carried, Literal, is_redirected, pieces_of}
use Rattle.send_model.specs.Composed.{write_len, writes_from, path_of, piece_commands, clone_commands}
use Rattle.send_model.specs.Cells.{Holds}
use Rattle.send_model.proofs.ElementLaws.{all_both, all_first, all_rest, all_take, all_drop}
use Rattle.send_model.proofs.Keeping.{all_found}
use Rattle.send_model.proofs.Sound.{bytes_take, bytes_drop}
use Rattle.send_model.proofs.Versions.{IsVersion, not_rest}
use Rattle.send_model.proofs.Canonical.{spellable_first}
use Rattle.send_model.proofs.PathLaws.{path_names_short}
use Rattle.send_model.proofs.FirstPaths.{least_is}
use Rattle.send_model.proofs.Held.{cells_hold}
use Rattle.send_model.proofs.Tracing.{byte_of}
use Rattle.send_model.proofs.Carrying.{InPlace, Serves, bytes_at, Covers, range_covered}
use Rattle.send_model.proofs.LawfulPaths.{path_leads}
use Rattle.send_model.proofs.Redirected.{cloned_facts, range_placed, redirection}

-- ---- the bytes of first paths

-- The names of a subvolume are bytes.
abbrev pub HasByteNames : {C : Type 0} → Subvolume C → Type 0
HasByteNames s = AllByRecursion (λ e. IsBytes e.0.1) s.names

abbrev AreBytePaths : List Reached → Type 0
AreBytePaths rs = AllByRecursion (λ r. IsBytes r.path) rs

below_bytes : (path name : List ℕ) → IsBytes path → IsBytes name → IsBytes (path_below path name)
below_bytes [] name p n = n
below_bytes (b ∷ path) name p n = all_both (λ c. c < 256) (b ∷ path) (slash ∷ name) p (omega arith, n)

one_further_bytes : (m : Map (ℕ × List ℕ) ℕ) → AllByRecursion (λ e. IsBytes e.0.1) m → (from : Reached) → IsBytes from.path → AreBytePaths (one_further m from)
one_further_bytes [] all from h = tt
one_further_bytes (e ∷ m) all from h = one (e.0.0 == from.ino) (nat_le (length (path_below from.path e.0.1)) longest_path) (one_further_bytes m all.1 from h)
  where
    one : (b t : Bool) → AreBytePaths (one_further m from)
        → AreBytePaths (if b then (if t then record { path = path_below from.path e.0.1; ino = e.1 } ∷ one_further m from else one_further m from) else one_further m from)
    one true true more = (below_bytes from.path e.0.1 h all.0, more)
    one true false more = more
    one false t more = more

all_further_bytes : (m : Map (ℕ × List ℕ) ℕ) → AllByRecursion (λ e. IsBytes e.0.1) m → (froms : List Reached) → AreBytePaths froms → AreBytePaths (all_further m froms)
all_further_bytes m names [] all = tt
all_further_bytes m names (from ∷ froms) all = all_both (λ r. IsBytes r.path) (one_further m from) (all_further m froms) (one_further_bytes m names from all.0) (all_further_bytes m names froms all.1)

paths_bytes : (m : Map (ℕ × List ℕ) ℕ) → AllByRecursion (λ e. IsBytes e.0.1) m → (depth : ℕ) (froms : List Reached) → AreBytePaths froms → AreBytePaths (paths_from depth m froms)
unfolding paths_from
paths_bytes m names depth [] all = tt
paths_bytes m names zero (from ∷ froms) all = all
paths_bytes m names (suc depth) (from ∷ froms) all =
    all_both (λ r. IsBytes r.path) (from ∷ froms) _ all (paths_bytes m names depth (all_further m (from ∷ froms)) (all_further_bytes m names (from ∷ froms) all))

pub first_path_bytes : {C : Type 0} (s : Subvolume C) → HasByteNames s → (ino : ℕ) (path : List ℕ) → first_path s ino ≡ Some path → IsBytes path
unfolding first_path all_paths
first_path_bytes s names ino path e = least_is (λ p i. IsBytes p) ino (all_paths s) (paths_bytes s.names names 2048 (record { path = []; ino = root } ∷ []) (tt, tt)) path e

-- A path with names is short enough for an attribute.
path_short : (path : List ℕ) → is_some (path_names path) ≡ true → length path < 2 ^ 16
path_short path some = one (path_names path) refl some
  where
    one : (o : Option (List (List ℕ))) → path_names path ≡ o → is_some o ≡ true → length path < 2 ^ 16
    one None e q = cc
    one (Some names) e q = let l = path_names_short path names e in omega (arith, l)

-- A path that either version can say.
abbrev pub PathFits : List ℕ → Type 0
PathFits path = FieldFits 1 PATH (Bytes path)

-- The path that a carried piece names can be spelled.
pub path_of_fits : (store : Store ℕ) (place : Place) (s : Subvolume ℕ) → IsLawful s → HasByteNames s → find store place.key ≡ Some s → is_nameable s place.ino ≡ true → PathFits (path_of store place)
path_of_fits store place s p names f n =
    let at : path_of store place ≡ unwrap_or (first_path s place.ino) [] = ap (λ (o : Option (Subvolume ℕ)). elim o as (λ x. List ℕ) [ None ↦ [] | Some t ↦ unwrap_or (first_path t place.ino) [] ]) f in
    let way = path_leads store place s p f n in
    (λ e. path_short (path_of store place) way.1, subst IsBytes (sym at) (one (first_path s place.ino) refl))
  where
    one : (o : Option (List ℕ)) → first_path s place.ino ≡ o → IsBytes (unwrap_or o [])
    one None e = tt
    one (Some path) e = first_path_bytes s names place.ino path e

-- ---- pieces

-- A command inside a part that a version can say.
abbrev pub IsInside : ℕ → Command → Type 0
IsInside version c = IsSpellable version c × (is_end c ≡ false) × (head_of c ≡ None)

-- Both versions have WRITE and CLONE.
write_known : (version : ℕ) → IsVersion version → IsKnown version WRITE
unfolding kind_of_number row
write_known version is = ⊎_elim (λ e. subst (λ (v : ℕ). IsKnown v WRITE) (sym e) refl) (λ e. subst (λ (v : ℕ). IsKnown v WRITE) (sym e) refl) is

clone_known : (version : ℕ) → IsVersion version → IsKnown version CLONE
unfolding kind_of_number row
clone_known version is = ⊎_elim (λ e. subst (λ (v : ℕ). IsKnown v CLONE) (sym e) refl) (λ e. subst (λ (v : ℕ). IsKnown v CLONE) (sym e) refl) is

-- A path that a version says in an attribute other than DATA.
pub path_first : (version kind : ℕ) (path : List ℕ) → (kind == DATA) ≡ false → FieldFits version kind (Bytes path) → PathFits path
path_first version kind path other fits = (λ e. fits.0 (not_rest version kind other), fits.1)

module _ (version : ℕ) (is : IsVersion version) (path : List ℕ) (path_fits : PathFits path) where
  -- WRITE commands of at most so many bytes each.
  abbrev chunks : ℕ → ℕ → ℕ → List ℕ → List Command
  chunks w zero at bytes = []
  chunks w (suc n) at [] = []
  chunks w (suc n) at (b ∷ bytes) = Write path at (take (suc w) (b ∷ bytes)) ∷ chunks w n (at + suc w) (drop (suc w) (b ∷ bytes))

  chunked : (w n at : ℕ) (bytes : List ℕ) → write_len ≡ suc w → writes_from n path at bytes ≡ chunks w n at bytes
  chunked w zero at bytes e = refl
  chunked w (suc n) at [] e = refl
  chunked w (suc n) at (b ∷ bytes) e =
      let rest : ℕ → List Command = λ m. Write path at (take m (b ∷ bytes)) ∷ writes_from n path (at + m) (drop m (b ∷ bytes)) in
      ap rest e ∙ ap (λ (cs : List Command). Write path at (take (suc w) (b ∷ bytes)) ∷ cs) (chunked w n (at + suc w) (drop (suc w) (b ∷ bytes)) e)

  -- Bytes from a place on end below a bound, or there are none.
  abbrev EndsBelow : ℕ → List ℕ → ℕ → Type 0
  EndsBelow at [] top = Unit {0}
  EndsBelow at (b ∷ bytes) top = at + length (b ∷ bytes) < top

  ends_rest : (w at top : ℕ) (bytes : List ℕ) → at + suc (length bytes) < top → EndsBelow (at + suc w) (drop w bytes) top
  ends_rest w at top bytes l = one (drop w bytes) (length-drop w bytes)
    where
      one : (rest : List ℕ) → length rest ≡ length bytes - w → EndsBelow (at + suc w) rest top
      one [] e = tt
      one (x ∷ rest) e = omega (arith, e, l)

  write_inside : (at : ℕ) (bytes : List ℕ) → at < 2 ^ 64 → length bytes < 2 ^ 16 → IsBytes bytes → IsInside version (Write path at bytes)
  unfolding row
  write_inside at bytes a l b = (spellable_first version (Write path at bytes) (write_known version is) (path_fits, (a, ((λ e. l, b), tt))), refl, refl)

  chunks_inside : (w n at : ℕ) (bytes : List ℕ) → suc w < 2 ^ 16 → IsBytes bytes → EndsBelow at bytes (2 ^ 64) → AllByRecursion (IsInside version) (chunks w n at bytes)
  chunks_inside w zero at bytes short b e = tt
  chunks_inside w (suc n) at [] short b e = tt
  chunks_inside w (suc n) at (x ∷ bytes) short b e =
      let long = length-take w bytes in (
        write_inside at (x ∷ take w bytes) (omega (arith, e)) (omega (arith, long, short)) (b.0, bytes_take w bytes b.1),
        chunks_inside w n (at + suc w) (drop w bytes) short (bytes_drop w bytes b.1) (ends_rest w at (2 ^ 64) bytes e),
      )

  pub writes_inside : (n at : ℕ) (bytes : List ℕ) → IsBytes bytes → at + length bytes < 2 ^ 64 → AllByRecursion (IsInside version) (writes_from n path at bytes)
  writes_inside n at bytes b l = subst (λ (cs : List Command). AllByRecursion (IsInside version) cs) (sym (chunked 49151 n at bytes refl)) (chunks_inside 49151 n at bytes (omega arith) b (one bytes l))
    where
      one : (bs : List ℕ) → at + length bs < 2 ^ 64 → EndsBelow at bs (2 ^ 64)
      one [] l = tt
      one (x ∷ bs) l = l

-- No file of a subvolume that can be said is too big.
cells_short : (s : Subvolume ℕ) → AllByRecursion (λ e. length e.1.cells ≤ greatest_end) s.inodes → (ino : ℕ) → length (cells_of s ino) ≤ greatest_end
unfolding cells_of
cells_short s all ino = one (inode_at s ino) refl
  where
    one : (o : Option (Inode ℕ)) → inode_at s ino ≡ o → length (elim o as (λ x. List ℕ) [ None ↦ [] | Some inode ↦ inode.cells ]) ≤ greatest_end
    one None e = zero-le
    one (Some inode) e = all_found nat_cmp (λ (i : Inode ℕ). length i.cells ≤ greatest_end) ino inode s.inodes all e

-- A key that a command can name.
abbrev pub KeyFits : Key → Type 0
KeyFits key = FieldFits 1 UUID (Identifier key.uuid) × FieldFits 1 CTRANSID (Number key.ctransid)

module _ (version : ℕ) (is : IsVersion version) (store : Store ℕ) (keys : List Key) (key_fits : (key : Key) → IsAmong key keys → KeyFits key)
    (sayable : FindsSayable store keys)
    (path : List ℕ) (path_fits : PathFits path) (offset : ℕ) where
  carried_inside : (at : ℕ) (place : Place) (len : ℕ) → Serves store keys place len → offset + at < 2 ^ 64
      → IsInside version (Clone path (offset + at) place.key.uuid place.key.ctransid (path_of store place) place.offset len)
  unfolding row
  carried_inside at place len h l =
      let s = sayable place.key h.source h.among h.found in
      let key = key_fits place.key h.among in
      let size = cells_short h.source s.sizes place.ino in
      let within = h.within in (
        spellable_first version (Clone path (offset + at) place.key.uuid place.key.ctransid (path_of store place) place.offset len) (clone_known version is)
            (path_fits, (l, (key.0, (key.1, (path_of_fits store place h.source s.lawful s.byte_names h.found h.nameable, (omega (arith, size, within), (omega (arith, size, within), tt))))))),
        refl,
        refl,
      )

  pub pieces_inside : (at : ℕ) (ps : List Piece) (bytes : List ℕ) → Covers store keys at ps bytes → IsBytes bytes → offset + at + length bytes < 2 ^ 64 → AllByRecursion (IsInside version) (flat_map (piece_commands store path offset) ps)
  pieces_inside at [] bytes c b l = tt
  pieces_inside at (Literal here own ∷ ps) bytes c b l =
      let split = subst IsBytes c.2 b in
      let long = ap length c.2 ∙ length-append own c.1 in
      all_both (IsInside version) (writes_from (length own) path (offset + here) own) (flat_map (piece_commands store path offset) ps)
      (writes_inside version is path path_fits (length own) (offset + here) own (all_first (λ x. x < 256) own c.1 split) (let e = c.0 in omega (arith, e, long, l)))
      (pieces_inside (at + length own) ps c.1 c.3 (all_rest (λ x. x < 256) own c.1 split) (omega (arith, long, l)))
  pieces_inside at (Carried here place len ∷ ps) bytes c b l =
      let own : List ℕ = bytes_at store keys place len c.2 in
      let split = subst IsBytes c.4 b in
      let long = ap length c.4 ∙ length-append own c.3 in
      let within = c.2.within in
      let size : length own ≡ len = (let t = length-take len (drop place.offset (cells_of c.2.source place.ino)) in let d = length-drop place.offset (cells_of c.2.source place.ino) in let some = c.2.some in omega (arith, t, d, within, some)) in
      (carried_inside here place len c.2 (let e = c.0 in omega (arith, e, l)), pieces_inside (at + len) ps c.3 c.5 (all_rest (λ x. x < 256) own c.3 split) (omega (arith, long, size, l)))

  -- The commands of a clone's range.
  pub range_inside : (part source : Subvolume Traced) (clone_path : List ℕ) (from len : ℕ) (range : Cloned Traced)
      → cloned part (Some source) false (clone_values path offset clone_path from len) ≡ Ok range → Holds (InPlace store keys) source → Holds (λ c. c.byte < 256) source
      → AllByRecursion (IsInside version) (flat_map (piece_commands store path offset) (pieces_of store range.cells))
  range_inside part source clone_path from len range e placed small =
      let facts = cloned_facts part source false path offset clone_path from len range e in
      let covered = range_covered store keys range.cells (range_placed store keys part source path offset clone_path from len range facts placed) in
      let IsByte : Traced → Type 0 = λ c. c.byte < 256 in
      let cells : AllByRecursion IsByte range.cells = subst (λ (cs : List Traced). AllByRecursion IsByte cs) (sym facts.cells_are)
      (all_take IsByte len _ (all_drop IsByte from _ (cells_hold IsByte source facts.source_ino small))) in
      let long = length-map range.cells byte_of ∙ facts.length_is in
      let end = leb-true (offset + len) greatest_end facts.fits in
      pieces_inside 0 (pieces_of store range.cells) (map byte_of range.cells) covered (bytes_small range.cells cells) (omega (arith, long, end))
    where
      bytes_small : (cells : List Traced) → AllByRecursion (λ c. c.byte < 256) cells → IsBytes (map byte_of cells)
      bytes_small [] all = tt
      bytes_small (c ∷ cells) all = (all.0, bytes_small cells all.1)

-- The same of a redirected CLONE command that was taken.
pub redirected_inside : (version : ℕ) → IsVersion version → (base : Store ℕ) (keys : List Key) → ((key : Key) → IsAmong key keys → KeyFits key) → FindsSayable base keys
    → (parts : List (List ℕ)) (last : Key) (store : Store Traced) (part : Part Traced) (current : Option (List ℕ)) (put : List Traced)
    (path : List ℕ) (offset : ℕ) (clone_uuid : List ℕ) (clone_ctransid : ℕ) (clone_path : List ℕ) (clone_offset clone_len : ℕ) (after : Subvolume Traced)
    → current ≡ Some part.key.uuid → is_redirected parts current (Clone path offset clone_uuid clone_ctransid clone_path clone_offset clone_len) ≡ true
    → ((s : Subvolume Traced) → find store (record { uuid = clone_uuid; ctransid = clone_ctransid }) ≡ Some s → Holds (InPlace base keys) s × Holds (λ c. c.byte < 256) s)
    → edit_part (fresh 0) put store part (Clone path offset clone_uuid clone_ctransid clone_path clone_offset clone_len) ≡ Ok after
    → IsSpellable version (Clone path offset clone_uuid clone_ctransid clone_path clone_offset clone_len)
    → AllByRecursion (IsInside version) (clone_commands base parts last (record { store = store; part = Some part }) current (Clone path offset clone_uuid clone_ctransid clone_path clone_offset clone_len))
unfolding row
redirected_inside version is base keys key_fits sayable parts last store part current put path offset clone_uuid clone_ctransid clone_path clone_offset clone_len after own redirected holds e spellable =
    let r = redirection base parts last store part current put path offset clone_uuid clone_ctransid clone_path clone_offset clone_len after own redirected e in
    let h = holds r.source r.there in
    let spelled = spellable.values in
    subst (λ (cs : List Command). AllByRecursion (IsInside version) cs) (sym r.commands_are)
    (range_inside version is base keys key_fits sayable path (path_first version PATH path refl spelled.0) offset part.subvolume r.source clone_path clone_offset clone_len r.range r.made h.0 h.1)
