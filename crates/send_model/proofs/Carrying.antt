-- The pieces of a range stand for its bytes.
use Rattle.std.specs.Prelude.{◌≡◌, ◌⊎◌, ℕ, zero, suc, ◌+◌, ◌%◌, ◌≤◌, ◌==◌, Bool, true, false, ◌&&◌, ◌||◌, List, [], ◌∷◌, ◌++◌, map, length, take, drop, Option, None, Some, if◌then◌else◌}
use Rattle.std.specs.List.{AllByRecursion}
use Rattle.std.proofs.Common.{refl, sym, ap, subst, ◌∙◌, arith, eqb-true, inl, inr, append_assoc, length-append}
use Rattle.std.proofs.lemmas.Bool.{false≢true}
use Rattle.std.proofs.lemmas.List.{take-append-drop, length-take, length-drop, length-map, map-append}
use Rattle.send_model.specs.Subvolume.{Subvolume, is_file, is_nameable}
use Rattle.send_model.specs.Clone.{block_len, cells_of}
use Rattle.send_model.specs.Store.{Key, same_key, Store, find}
use Rattle.send_model.specs.Outside.{IsAmong}
use Rattle.send_model.specs.Provenance.{Place, Traced, same_place, is_at, next_place, come_from, can_serve, carried_from, Piece, Carried, Literal, piece_by, place_after, join_piece, pieces_by, pieces_of, blocks_from, blocks}
use Rattle.send_model.proofs.ElementLaws.{all_take, all_drop}
use Rattle.send_model.proofs.Sorts.{same_inside}
use Rattle.send_model.proofs.Stores.{same_key_true}
use Rattle.send_model.proofs.Overwriting.{drop_twice}

both : (a b : Bool) → a && b ≡ true → (a ≡ true) × (b ≡ true)
both true b e = (refl, e)
both false b e = absurd (false≢true e)

either : (a b : Bool) → a || b ≡ true → (a ≡ true) ⊎ (b ≡ true)
either true b e = inl refl
either false b e = inr e

pub same_place_true : (a b : Place) → same_place a b ≡ true → a ≡ b
same_place_true a b e =
    let p = both (same_key a.key b.key && (a.ino == b.ino)) (a.offset == b.offset) e in
    let q = both (same_key a.key b.key) (a.ino == b.ino) p.0 in
    λ i. record { key = same_key_true a.key b.key q.0 i; ino = eqb-true a.ino b.ino q.1 i; offset = eqb-true a.offset b.offset p.1 i }

module _ (store : Store ℕ) (keys : List Key) where
  -- ---- where cells come from

  -- A byte stands at a place of an outside subvolume.
  pub record Stays (place : Place) (byte : ℕ) : Type 0 where
    pub among : IsAmong place.key keys
    pub source : Subvolume ℕ
    pub found : find store place.key ≡ Some source
    pub rest : List ℕ
    pub at : drop place.offset (cells_of source place.ino) ≡ byte ∷ rest

  abbrev pub Placed : Option Place → ℕ → Type 0
  Placed None byte = Unit {0}
  Placed (Some place) byte = Stays place byte

  abbrev pub InPlace : Traced → Type 0
  InPlace c = Placed c.place c.byte

  placed_at : (o : Option Place) (byte : ℕ) (place : Place) → is_at o place ≡ true → Placed o byte → Stays place byte
  placed_at None byte place e h = absurd (false≢true e)
  placed_at (Some own) byte place e h = subst (λ (p : Place). Stays p byte) (same_place_true own place e) h

  source_same : (place : Place) (byte : ℕ) (s : Subvolume ℕ) → find store place.key ≡ Some s → (h : Stays place byte) → h.source ≡ s
  source_same place byte s f h = same_inside (sym h.found ∙ f)

  -- Cells that come from successive places are the bytes there.
  come_bytes : (cells : List Traced) (place : Place) (s : Subvolume ℕ) → find store place.key ≡ Some s → come_from place cells ≡ true → AllByRecursion InPlace cells
      → take (length cells) (drop place.offset (cells_of s place.ino)) ≡ map (λ c. c.byte) cells
  come_bytes [] place s f e all = refl
  come_bytes (c ∷ cells) place s f e all =
      let two = both (is_at c.place place) (come_from (next_place place) cells) e in
      let h = placed_at c.place c.byte place two.0 all.0 in
      let xs : List ℕ = cells_of s place.ino in
      let here : drop place.offset xs ≡ c.byte ∷ h.rest = subst (λ (u : Subvolume ℕ). drop place.offset (cells_of u place.ino) ≡ c.byte ∷ h.rest) (source_same place c.byte s f h) h.at in
      let next : drop (place.offset + 1) xs ≡ h.rest = sym (drop_twice place.offset 1 xs) ∙ ap (drop 1) here in
      let more : take (length cells) (drop (place.offset + 1) xs) ≡ map (λ (d : Traced). d.byte) cells = come_bytes cells (next_place place) s f two.1 all.1 in
      ap (take (length (c ∷ cells))) here ∙ ap (λ (r : List ℕ). c.byte ∷ r) (ap (take (length cells)) (sym next) ∙ more)

  -- ---- pieces

  -- A run of bytes can be cloned from a place.
  pub record Serves (place : Place) (len : ℕ) : Type 0 where
    pub among : IsAmong place.key keys
    pub source : Subvolume ℕ
    pub found : find store place.key ≡ Some source
    pub file : is_file source place.ino ≡ true
    pub nameable : is_nameable source place.ino ≡ true
    pub start : place.offset % 4096 ≡ 0
    pub some : 1 ≤ len
    pub within : place.offset + len ≤ length (cells_of source place.ino)
    pub ends : (len % 4096 ≡ 0) ⊎ (place.offset + len ≡ length (cells_of source place.ino))

  abbrev pub bytes_at : (place : Place) (len : ℕ) → Serves place len → List ℕ
  bytes_at place len h = take len (drop place.offset (cells_of h.source place.ino))

  -- Pieces from a place of the range on stand for bytes.
  abbrev pub Covers : ℕ → List Piece → List ℕ → Type 0
  Covers at [] bytes = bytes ≡ []
  Covers at (Literal here own ∷ pieces) bytes = (here ≡ at) × (rest : List ℕ) × (bytes ≡ own ++ rest) × Covers (at + length own) pieces rest
  Covers at (Carried here place len ∷ pieces) bytes = (here ≡ at) × (at % 4096 ≡ 0) × (h : Serves place len) × (rest : List ℕ) × (bytes ≡ bytes_at place len h ++ rest) × Covers (at + len) pieces rest

  take_split : (n m : ℕ) (xs : List ℕ) → take (n + m) xs ≡ take n xs ++ take m (drop n xs)
  take_split zero m xs = let e : 0 + m ≡ m = omega arith in ap (λ (k : ℕ). take k xs) e
  take_split (suc n) m [] = take_none (suc n + m) ∙ sym (take_none m)
    where
      take_none : (k : ℕ) → take {A = ℕ} k [] ≡ []
      take_none zero = refl
      take_none (suc k) = refl
  take_split (suc n) m (x ∷ xs) = (let e : suc n + m ≡ suc (n + m) = omega arith in ap (λ (k : ℕ). take k (x ∷ xs)) e) ∙ ap (λ (r : List ℕ). x ∷ r) (take_split n m xs)

  -- Two runs that follow each other are one.
  module _ (place : Place) (len len' : ℕ) (h : Serves place len) (h' : Serves (place_after place len) len') where
    one_source : h'.source ≡ h.source
    one_source = same_inside (sym h'.found ∙ h.found)

    joined : len % 4096 ≡ 0 → Serves place (len + len')
    joined whole = record {
      among = h.among;
      source = h.source;
      found = h.found;
      file = h.file;
      nameable = h.nameable;
      start = h.start;
      some = omega (arith, h.some);
      within = let w : place.offset + len + len' ≤ length (cells_of h.source place.ino) = subst (λ (u : Subvolume ℕ). place.offset + len + len' ≤ length (cells_of u place.ino)) one_source h'.within in omega (arith, w);
      ends = elim h'.ends [
        | inl even ↦ inl (omega (arith, whole, even))
        | inr end ↦ inr (let w : place.offset + len + len' ≡ length (cells_of h.source place.ino) = subst (λ (u : Subvolume ℕ). place.offset + len + len' ≡ length (cells_of u place.ino)) one_source end in omega (arith, w))
      ];
    }

    joined_bytes : (whole : len % 4096 ≡ 0) → bytes_at place (len + len') (joined whole) ≡ bytes_at place len h ++ bytes_at (place_after place len) len' h'
    unfolding joined
    joined_bytes whole =
        let xs : List ℕ = cells_of h.source place.ino in
        take_split len len' (drop place.offset xs)
        ∙ ap (λ (r : List ℕ). take len (drop place.offset xs) ++ r) (ap (take len') (drop_twice place.offset len xs) ∙ ap (λ (u : Subvolume ℕ). take len' (drop (place.offset + len) (cells_of u place.ino))) (sym one_source))

  join_covers : (at : ℕ) (p : Piece) (ps : List Piece) (bytes : List ℕ) → ((here : ℕ) (place : Place) (len : ℕ) → p ≡ Carried here place len → (ps ≡ []) ⊎ (len % 4096 ≡ 0)) → Covers at (p ∷ ps) bytes → Covers at (join_piece p ps) bytes
  join_covers at (Literal here own) (Literal here' own' ∷ ps) bytes whole c =
      let n = c.3 in
      let all : bytes ≡ (own ++ own') ++ n.1 = c.2 ∙ ap (λ (r : List ℕ). own ++ r) n.2 ∙ sym (append_assoc own own' n.1) in
      let e : at + length own + length own' ≡ at + length (own ++ own') = omega (arith, length-append own own') in
      (c.0, n.1, all, subst (λ (k : ℕ). Covers k ps n.1) e n.3)
  join_covers at (Literal here own) (Carried here' place' len' ∷ ps) bytes whole c = c
  join_covers at (Literal here own) [] bytes whole c = c
  join_covers at (Carried here place len) [] bytes whole c = c
  join_covers at (Carried here place len) (Literal here' own' ∷ ps) bytes whole c = c
  join_covers at (Carried here place len) (Carried here' place' len' ∷ ps) bytes whole c = one (same_place (place_after place len) place') refl (elim (whole here place len refl) [ inl none ↦ cc | inr w ↦ w ])
    where
      one : (b : Bool) → same_place (place_after place len) place' ≡ b → len % 4096 ≡ 0
          → Covers at (if b then Carried here place (len + len') ∷ ps else Carried here place len ∷ Carried here' place' len' ∷ ps) bytes
      one false s w = c
      one true s w =
          let n : Covers (at + len) (Carried here' (place_after place len) len' ∷ ps) c.3 = subst (λ (q : Place). Covers (at + len) (Carried here' q len' ∷ ps) c.3) (sym (same_place_true (place_after place len) place' s)) c.5 in
          let all : bytes ≡ bytes_at place (len + len') (joined place len len' c.2 n.2 w) ++ n.3 =
          c.4 ∙ ap (λ (r : List ℕ). bytes_at place len c.2 ++ r) n.4 ∙ sym (append_assoc (bytes_at place len c.2) (bytes_at (place_after place len) len' n.2) n.3) ∙ ap (λ (r : List ℕ). r ++ n.3) (sym (joined_bytes place len len' c.2 n.2 w)) in
          let e : at + len + len' ≡ at + (len + len') = omega arith in
          (c.0, c.1, joined place len len' c.2 n.2 w, n.3, all, subst (λ (k : ℕ). Covers k ps n.3) e n.5)

  -- ---- pieces of any cells

  -- Cells with bytes, a property of each, and the place from which a block can be cloned: its bytes
  -- stand there.
  module _ {C : Type 0} (byte_in : C → ℕ) (P : C → Type 0) (source : List C → Option Place)
      (serves : (block : List C) (place : Place) → 1 ≤ length block → source block ≡ Some place → AllByRecursion P block → (h : Serves place (length block)) × (bytes_at place (length block) h ≡ map byte_in block)) where
    -- Every block but the last is whole, and none is empty.
    abbrev pub AreBlocks : List (List C) → Type 0
    AreBlocks [] = Unit {0}
    AreBlocks (b ∷ []) = (1 ≤ length b) × AllByRecursion P b
    AreBlocks (b ∷ d ∷ more) = (length b ≡ 4096) × AllByRecursion P b × AreBlocks (d ∷ more)

    abbrev pub flat : List (List C) → List C
    flat [] = []
    flat (b ∷ more) = b ++ flat more

    one_piece : (at : ℕ) (block : List C) (ps : List Piece) (rest : List ℕ) → at % 4096 ≡ 0 → 1 ≤ length block → AllByRecursion P block → Covers (at + length block) ps rest → Covers at (piece_by byte_in source at block ∷ ps) (map byte_in block ++ rest)
    one_piece at block ps rest even some all more = one (source block) refl
      where
        one : (o : Option Place) → source block ≡ o → Covers at ((elim o as (λ x. Piece) [ None ↦ Literal at (map byte_in block) | Some place ↦ Carried at place (length block) ]) ∷ ps) (map byte_in block ++ rest)
        one None e = (refl, rest, refl, subst (λ (k : ℕ). Covers (at + k) ps rest) (sym (length-map block byte_in)) more)
        one (Some place) e = let s = serves block place some e all in (refl, even, s.0, rest, ap (λ (r : List ℕ). r ++ rest) (sym s.1), more)

    carried_len : (at : ℕ) (block : List C) (here : ℕ) (place : Place) (len : ℕ) → piece_by byte_in source at block ≡ Carried here place len → length block ≡ len
    carried_len at block here place len e = one (source block) e
      where
        len_of : Piece → ℕ
        len_of (Carried a p n) = n
        len_of (Literal a bs) = 0

        one : (o : Option Place) → (elim o as (λ x. Piece) [ None ↦ Literal at (map byte_in block) | Some p ↦ Carried at p (length block) ]) ≡ Carried here place len → length block ≡ len
        one None q = cc
        one (Some p) q = ap len_of q

    pieces_cover : (at : ℕ) (bs : List (List C)) → at % 4096 ≡ 0 → AreBlocks bs → Covers at (pieces_by byte_in source at bs) (map byte_in (flat bs))
    pieces_cover at [] even bs = refl
    pieces_cover at (b ∷ []) even bs =
        subst (λ (r : List ℕ). Covers at (join_piece (piece_by byte_in source at b) []) r) (sym (map-append byte_in b []))
        (join_covers at (piece_by byte_in source at b) [] (map byte_in b ++ []) (λ here place len e. inl refl) (one_piece at b [] [] even bs.0 bs.1 refl))
    pieces_cover at (b ∷ d ∷ more) even bs =
        let rest = pieces_cover (at + length b) (d ∷ more) (omega (arith, even, bs.0)) bs.2 in
        subst (λ (r : List ℕ). Covers at (join_piece (piece_by byte_in source at b) (pieces_by byte_in source (at + length b) (d ∷ more))) r) (sym (map-append byte_in b (flat (d ∷ more))))
        (join_covers at (piece_by byte_in source at b) (pieces_by byte_in source (at + length b) (d ∷ more)) (map byte_in b ++ map byte_in (flat (d ∷ more)))
        (λ here place len e. let n = carried_len at b here place len e in inr (omega (arith, n, bs.0)))
        (one_piece at b (pieces_by byte_in source (at + length b) (d ∷ more)) (map byte_in (flat (d ∷ more))) even (let l = bs.0 in omega (arith, l)) bs.1 rest))

    -- ---- the blocks of a range

    -- Blocks of any length above 0.
    abbrev cut : ℕ → ℕ → List C → List (List C)
    cut w zero cells = []
    cut w (suc n) [] = []
    cut w (suc n) (c ∷ cells) = take (suc w) (c ∷ cells) ∷ cut w n (drop (suc w) (c ∷ cells))

    cut_is : (w : ℕ) → block_len ≡ suc w → (n : ℕ) (cells : List C) → blocks_from n cells ≡ cut w n cells
    cut_is w e zero cells = refl
    cut_is w e (suc n) [] = refl
    cut_is w e (suc n) (c ∷ cells) =
        let more : ℕ → List (List C) = λ m. take m (c ∷ cells) ∷ blocks_from n (drop m (c ∷ cells)) in
        ap more e ∙ ap (λ (r : List (List C)). take (suc w) (c ∷ cells) ∷ r) (cut_is w e n (drop (suc w) (c ∷ cells)))

    cut_flat : (w n : ℕ) (cells : List C) → length cells ≤ n → flat (cut w n cells) ≡ cells
    cut_flat w zero [] l = refl
    cut_flat w zero (c ∷ cells) l = absurd (omega (arith, l))
    cut_flat w (suc n) [] l = refl
    cut_flat w (suc n) (c ∷ cells) l =
        let d = length-drop w cells in
        ap (λ (r : List C). take (suc w) (c ∷ cells) ++ r) (cut_flat w n (drop w cells) (omega (arith, l, d))) ∙ ap (λ (r : List C). c ∷ r) (take-append-drop w cells)

    cut_blocks : (w n : ℕ) (cells : List C) → suc w ≡ 4096 → AllByRecursion P cells → AreBlocks (cut w n cells)
    cut_blocks w zero cells e all = tt
    cut_blocks w (suc n) [] e all = tt
    cut_blocks w (suc n) (c ∷ cells) e all = one n (drop w cells) refl (cut_blocks w n (drop w cells) e (all_drop P w cells all.1))
      where
        first : AllByRecursion P (c ∷ take w cells)
        first = (all.0, all_take P w cells all.1)

        one : (m : ℕ) (rest : List C) → rest ≡ drop w cells → AreBlocks (cut w m rest) → AreBlocks ((c ∷ take w cells) ∷ cut w m rest)
        one zero rest r more = (omega arith, first)
        one (suc m) [] r more = (omega arith, first)
        one (suc m) (d ∷ rest) r more = (omega (arith, e, ap length r, length-drop w cells, length-take w cells), first, more)

    -- The pieces of a range of cells that have the property stand for its bytes.
    pub all_covered : (range : List C) → AllByRecursion P range → Covers 0 (pieces_by byte_in source 0 (blocks range)) (map byte_in range)
    unfolding blocks
    all_covered range all =
        let bs : List (List C) = cut 4095 (length range) range in
        let same : blocks_from (length range) range ≡ bs = cut_is 4095 refl (length range) range in
        let c = pieces_cover 0 bs refl (cut_blocks 4095 (length range) range refl all) in
        subst (λ (b : List (List C)). Covers 0 (pieces_by byte_in source 0 b) (map byte_in range)) (sym same)
        (subst (λ (r : List C). Covers 0 (pieces_by byte_in source 0 bs) (map byte_in r)) (cut_flat 4095 (length range) range (omega arith)) c)

  serving : (o : Option (Subvolume ℕ)) (place : Place) (block : List Traced) → find store place.key ≡ o → IsAmong place.key keys → come_from place block ≡ true → can_serve o place (length block) ≡ true → 1 ≤ length block → AllByRecursion InPlace block
      → (h : Serves place (length block)) × (bytes_at place (length block) h ≡ map (λ c. c.byte) block)
  serving None place block f among come can some all = absurd (false≢true can)
  serving (Some s) place block f among come can some all =
      let xs : List ℕ = cells_of s place.ino in
      let a = both ((place.offset % block_len == 0) && (is_file s place.ino && is_nameable s place.ino)) ((length block == block_len) || (place.offset + length block == length xs)) can in
      let b = both (place.offset % block_len == 0) (is_file s place.ino && is_nameable s place.ino) a.0 in
      let d = both (is_file s place.ino) (is_nameable s place.ino) b.1 in
      let bytes = come_bytes block place s f come all in
      let long = ap length bytes ∙ length-map block (λ c. c.byte) in
      let start : place.offset % 4096 ≡ 0 = eqb-true (place.offset % block_len) 0 b.0 in (
        record {
          among = among;
          source = s;
          found = f;
          file = d.0;
          nameable = d.1;
          start = start;
          some = some;
          within = omega (arith, long, some, length-take (length block) (drop place.offset xs), length-drop place.offset xs);
          ends = elim (either (length block == block_len) (place.offset + length block == length xs) a.1) [
            | inl whole ↦ inl (let e : length block ≡ 4096 = eqb-true (length block) block_len whole in omega (arith, e))
            | inr end ↦ inr (eqb-true (place.offset + length block) (length xs) end)
          ];
        },
        bytes,
      )

  -- ---- blocks that are carried

  pub carried_serves : (block : List Traced) (place : Place) → carried_from store block ≡ Some place → AllByRecursion InPlace block → (h : Serves place (length block)) × (bytes_at place (length block) h ≡ map (λ c. c.byte) block)
  unfolding carried_from
  carried_serves [] place e all = cc
  carried_serves (c ∷ cells) place e all = one c.place refl e all.0
    where
      one : (o : Option Place) → c.place ≡ o → (elim o as (λ x. Option Place) [ None ↦ None | Some p ↦ if come_from p (c ∷ cells) && can_serve (find store p.key) p (length (c ∷ cells)) then Some p else None ]) ≡ Some place → Placed o c.byte
          → (h : Serves place (length (c ∷ cells))) × (bytes_at place (length (c ∷ cells)) h ≡ map (λ d. d.byte) (c ∷ cells))
      one None at q in_place = cc
      one (Some p) at q in_place = two (come_from p (c ∷ cells) && can_serve (find store p.key) p (length (c ∷ cells))) refl q
        where
          two : (b : Bool) → come_from p (c ∷ cells) && can_serve (find store p.key) p (length (c ∷ cells)) ≡ b → (if b then Some p else None) ≡ Some place
              → (h : Serves place (length (c ∷ cells))) × (bytes_at place (length (c ∷ cells)) h ≡ map (λ d. d.byte) (c ∷ cells))
          two false t r = cc
          two true t r =
              let bs = both (come_from p (c ∷ cells)) (can_serve (find store p.key) p (length (c ∷ cells))) t in
              subst (λ (x : Place). (h : Serves x (length (c ∷ cells))) × (bytes_at x (length (c ∷ cells)) h ≡ map (λ (d : Traced). d.byte) (c ∷ cells))) (same_inside r)
              (serving (find store p.key) p (c ∷ cells) refl in_place.among bs.0 bs.1 (omega arith) all)

  -- The pieces of a range stand for its bytes.
  pub range_covered : (range : List Traced) → AllByRecursion InPlace range → Covers 0 (pieces_of store range) (map (λ c. c.byte) range)
  unfolding pieces_of
  range_covered range all = all_covered (λ c. c.byte) InPlace (carried_from store) (λ block place some e a. carried_serves block place e a) range all
