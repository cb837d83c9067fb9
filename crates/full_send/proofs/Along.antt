-- How far the pieces of a file's contents are passed.
use Rattle.std.specs.Prelude.{◌≡◌, ◌<◌, ◌≤◌, ℕ, zero, suc, ◌+◌, ◌*◌, ◌-◌, Bool, true, false, List, [], ◌∷◌, ◌++◌, map, length, take, drop, get_or, Option, None, Some, if◌then◌else◌}
use Rattle.std.specs.List.{range_with_len}
use Rattle.std.proofs.Common.{refl, sym, ap, ◌∙◌, arith, append_assoc, append-nil, length-append}
use Rattle.std.proofs.Math.Seq.{take-append_seam, drop-append_seam}
use Rattle.std.proofs.lemmas.List.{map-append, length-map, take_all, take-append-drop, length-take, length-drop}
use Rattle.send_model.specs.Command.{Command, Truncate}
use Rattle.extent_map.specs.Cells.{cells_between}
use Rattle.extent_map.specs.Pieces.{zero_cells, run_cells, piece_cells}
use Rattle.extent_map.proofs.Layouts.{length-piece}
use Rattle.inode_commands.specs.Spelled.{spelled_all}
use Rattle.inode_commands.proofs.Joined.{all_joined}
use Rattle.group_replay.specs.declared.place.Place.{Place}
use Rattle.group_replay.specs.Placing.{further}
use Rattle.store_journal.specs.Standing.{place_byte}
use Rattle.snapshot_model.specs.Listing.{held}
use Rattle.snapshot_model.specs.Sent.{stretch_commands, ends_in_hole}
use Rattle.full_send.specs.Held.{held_cell}
use Rattle.full_send.proofs.Parts.{stretch_of}
use Rattle.full_send.proofs.HeldStretches.{written, hole_next, end_next, ends_zero, ends_held}
use Rattle.full_send.proofs.WholePieces.{pieces_next}

abbrev Cells : Type 0
Cells = List (Option Place)

-- No cell from the start of a stretch up to a place is a hole, and these cells follow.
pub record Along (cells : List (Option Place)) (start at : ℕ) (rest : List (Option Place)) : Type 0 where
  pub before : List (Option Place)
  pub places : List Place
  pub parts : before ++ (map (λ p. Some p) places ++ rest) ≡ cells
  pub start_is : length before ≡ start
  pub at_is : start + length places ≡ at

places_of : Cells → List Place → Cells
places_of rest places = map (λ p. Some p) places ++ rest

zeros_long : (len : ℕ) → length (zero_cells {O = Place} len) ≡ len
unfolding zero_cells
zeros_long zero = refl
zeros_long (suc len) = ap suc (zeros_long len)

module _ (cells : Cells) where
  pub along_first : (rest : List (Option Place)) → rest ≡ cells → Along cells 0 0 rest
  along_first rest is = record { before = []; places = []; parts = is; start_is = refl; at_is = refl }

  module _ (start at : ℕ) (rest : Cells) (a : Along cells start at rest) where
    pub in_order : start ≤ at
    in_order = omega (arith, a.at_is)

    all_long : length cells ≡ at + length rest
    all_long =
        let whole : length (a.before ++ (map (λ p. Some p) a.places ++ rest)) ≡ length cells = ap length a.parts in
        let one = length-append a.before (map (λ p. Some p) a.places ++ rest) in
        let two = length-append (map (λ p. Some p) a.places) rest in
        let three = length-map a.places (λ p. Some p) in
        omega (arith, whole, one, two, three, a.start_is, a.at_is)

    pub within : at ≤ length cells
    within = omega (arith, all_long)

    pub at_end : rest ≡ [] → at ≡ length cells
    at_end none = let e : length rest ≡ 0 = ap length none in omega (arith, all_long, e)

    pub next_within : (origin : Option Place) (len : ℕ) (more : List (Option Place)) → rest ≡ piece_cells further origin len ++ more → at + len ≤ length cells
    next_within origin len more is =
        let whole : length rest ≡ length (piece_cells further origin len ++ more) = ap length is in
        let one = length-append (piece_cells further origin len) more in
        let two = length-piece further origin len in
        omega (arith, all_long, whole, one, two)

    -- A hole follows.
    pub along_hole : (len : ℕ) (more : Cells) → rest ≡ zero_cells len ++ more → Along cells (at + len) (at + len) more
    along_hole len more is = record {
      before = a.before ++ (map (λ p. Some p) a.places ++ zero_cells len);
      places = [];
      parts = append_assoc a.before (map (λ p. Some p) a.places ++ zero_cells len) more ∙ ap (λ (l : Cells). a.before ++ l) (append_assoc (map (λ p. Some p) a.places) (zero_cells len) more ∙ ap (places_of' a.places) (sym is)) ∙ a.parts;
      start_is =
          let one = length-append a.before (map (λ p. Some p) a.places ++ zero_cells len) in
          let two = length-append (map (λ p. Some p) a.places) (zero_cells len) in
          let three = length-map a.places (λ p. Some p) in
          let four = zeros_long len in
          omega (arith, one, two, three, four, a.start_is, a.at_is);
      at_is = omega arith;
    }
      where
        places_of' : List Place → Cells → Cells
        places_of' places rest = map (λ p. Some p) places ++ rest

    -- Places follow.
    pub along_run : (more : Cells) (places : List Place) (len : ℕ) → rest ≡ map (λ p. Some p) places ++ more → length places ≡ len → Along cells start (at + len) more
    along_run more places len is long = record {
      before = a.before;
      places = a.places ++ places;
      parts = ap (λ (l : Cells). a.before ++ (l ++ more)) (map-append (λ p. Some p) a.places places)
          ∙ ap (λ (l : Cells). a.before ++ l) (append_assoc (map (λ p. Some p) a.places) (map (λ p. Some p) places) more ∙ ap (λ (l : Cells). map (λ p. Some p) a.places ++ l) (sym is)) ∙ a.parts;
      start_is = a.start_is;
      at_is = let both = length-append a.places places in omega (arith, both, long, a.at_is);
    }

    -- What follows.
    rest_is : drop at cells ≡ rest
    rest_is =
        let front : List (Option Place) = a.before ++ map (λ p. Some p) a.places in
        let size : length front ≡ at =
        let one = length-append a.before (map (λ p. Some p) a.places) in let two = length-map a.places (λ p. Some p) in omega (arith, one, two, a.start_is, a.at_is) in
        ap (λ (n : ℕ). drop n cells) (sym size) ∙ ap (drop (length front)) (sym (append_assoc a.before (map (λ p. Some p) a.places) rest ∙ a.parts)) ∙ drop-append_seam front rest

    -- Up to a place in the stretch, and from there on.
    module _ (to : ℕ) (low : start ≤ to) (high : to ≤ at) where
      abbrev pub last_places : List Place
      last_places = drop (to - start) a.places

      abbrev first_places : List Place
      first_places = take (to - start) a.places

      first_long : start + length first_places ≡ to
      first_long = let own = length-take (to - start) a.places in omega (arith, own, low, high, a.at_is)

      places_split : map (λ p. Some p) first_places ++ (map (λ p. Some p) last_places ++ rest) ≡ map (λ p. Some p) a.places ++ rest
      places_split =
          sym (append_assoc (map (λ p. Some p) first_places) (map (λ p. Some p) last_places) rest)
          ∙ ap (λ (l : Cells). l ++ rest) (sym (map-append (λ p. Some p) first_places last_places) ∙ ap (map (λ p. Some p)) (take-append-drop (to - start) a.places))

      pub along_part : Along cells start to (map (λ p. Some p) last_places ++ rest)
      along_part = record {
        before = a.before;
        places = first_places;
        parts = ap (λ (l : Cells). a.before ++ l) places_split ∙ a.parts;
        start_is = a.start_is;
        at_is = first_long;
      }

      pub along_rest : Along cells to at rest
      along_rest = record {
        before = a.before ++ map (λ p. Some p) first_places;
        places = last_places;
        parts = append_assoc a.before (map (λ p. Some p) first_places) (map (λ p. Some p) last_places ++ rest) ∙ ap (λ (l : Cells). a.before ++ l) places_split ∙ a.parts;
        start_is =
            let one = length-append a.before (map (λ p. Some p) first_places) in
            let two = length-map first_places (λ p. Some p) in omega (arith, one, two, a.start_is, first_long);
        at_is = let own = length-drop (to - start) a.places in omega (arith, own, low, high, a.at_is);
      }

    -- ---- with the bytes of an image

    module _ (image path : List ℕ) where
      abbrev bytes : List ℕ
      bytes = map (λ p. get_or image p.at 0) a.places

      held_are : (places : List Place) → map (held_cell image) (map (λ p. Some p) places) ≡ held (map (λ p. get_or image p.at 0) places)
      held_are [] = refl
      held_are (p ∷ places) = ap (λ (l : List (Option ℕ)). Some (get_or image p.at 0) ∷ l) (held_are places)

      bytes_are : (places : List Place) → map (place_byte image) (map (λ p. Some p) places) ≡ map (λ p. get_or image p.at 0) places
      bytes_are [] = refl
      bytes_are (p ∷ places) = ap (λ (l : List ℕ). get_or image p.at 0 ∷ l) (bytes_are places)

      left_is : drop start cells ≡ map (λ p. Some p) a.places ++ rest
      left_is = ap (λ (n : ℕ). drop n cells) (sym a.start_is) ∙ ap (drop (length a.before)) (sym a.parts) ∙ drop-append_seam a.before (map (λ p. Some p) a.places ++ rest)

      left_held : map (held_cell image) (drop start cells) ≡ held bytes ++ map (held_cell image) rest
      left_held = ap (map (held_cell image)) left_is ∙ map-append (held_cell image) (map (λ p. Some p) a.places) rest ∙ ap (λ (l : List (Option ℕ)). l ++ map (held_cell image) rest) (held_are a.places)

      -- The bytes of the stretch, as they are read.
      pub pending : (all : List ℕ) → all ≡ map (place_byte image) cells → stretch_of path start at all ≡ stretch_commands path (record { at = start; bytes = bytes })
      pending all is =
          let tail : drop start all ≡ map (place_byte image) (drop start cells) = ap (drop start) is ∙ dropped start cells in
          let split : drop start all ≡ bytes ++ map (place_byte image) rest =
          tail ∙ ap (map (place_byte image)) left_is ∙ map-append (place_byte image) (map (λ p. Some p) a.places) rest ∙ ap (λ (l : List ℕ). l ++ map (place_byte image) rest) (bytes_are a.places) in
          let long : at - start ≡ length bytes = let own = length-map a.places (λ p. get_or image p.at 0) in omega (arith, own, a.at_is) in
          ap (λ (l : List ℕ). stretch_commands path (record { at = start; bytes = l })) (ap (λ (n : ℕ). take n (drop start all)) long ∙ ap (take (length bytes)) split ∙ take-append_seam bytes (map (place_byte image) rest))
        where
          dropped : (n : ℕ) (xs : Cells) → drop n (map (place_byte image) xs) ≡ map (place_byte image) (drop n xs)
          dropped zero xs = refl
          dropped (suc n) [] = refl
          dropped (suc n) (x ∷ xs) = dropped n xs

      zeros_held : (len : ℕ) → map (held_cell image) (zero_cells len) ≡ zero_cells len
      unfolding zero_cells
      zeros_held zero = refl
      zeros_held (suc len) = ap (λ (l : List (Option ℕ)). None ∷ l) (zeros_held len)

      -- What is to be written, where a hole follows the stretch.
      pub hole_written : (all : List ℕ) (len : ℕ) (more : Cells) → all ≡ map (place_byte image) cells → 0 < len → (is : rest ≡ zero_cells len ++ more)
          → written path start (map (held_cell image) (drop start cells)) ≡ stretch_of path start at all ++ written path (at + len) (map (held_cell image) (drop (at + len) cells))
      unfolding along_hole
      hole_written all len more is some follows =
          let after : Along cells (at + len) (at + len) more = along_hole len more follows in
          let rest_is : drop (at + len) cells ≡ more = ap (λ (n : ℕ). drop n cells) (sym after.start_is) ∙ ap (drop (length after.before)) (sym after.parts) ∙ drop-append_seam after.before more in
          let place : (start + length bytes) + len ≡ at + len = let own = length-map a.places (λ p. get_or image p.at 0) in omega (arith, own, a.at_is) in
          ap (written path start) (left_held ∙ ap (λ (l : List (Option ℕ)). held bytes ++ l) (ap (map (held_cell image)) follows ∙ map-append (held_cell image) (zero_cells len) more ∙ ap (λ (l : List (Option ℕ)). l ++ map (held_cell image) more) (zeros_held len)))
          ∙ hole_next path start len bytes (map (held_cell image) more) some
          ∙ (λ i. sym (pending all is) i ++ written path (place i) (map (held_cell image) (sym rest_is i)))

      -- And where so many whole pieces were passed.
      pub pieces_written : (n : ℕ) (all : List ℕ) → all ≡ map (place_byte image) cells → at ≡ start + n * 49_152
          → written path start (map (held_cell image) (drop start cells)) ≡ stretch_of path start at all ++ written path at (map (held_cell image) (drop at cells))
      pieces_written n all is pieces =
          let own = length-map a.places (λ p. get_or image p.at 0) in
          let long : length bytes ≡ n * 49_152 = omega (arith, own, a.at_is, pieces) in
          let place : start + length bytes ≡ at = omega (arith, own, a.at_is) in
          ap (written path start) left_held
          ∙ pieces_next path n start bytes (map (held_cell image) rest) long
          ∙ (λ i. sym (pending all is) i ++ written path (place i) (map (held_cell image) (sym rest_is i)))

      -- And at the end.
      pub end_written : (all : List ℕ) → all ≡ map (place_byte image) cells → rest ≡ [] → written path start (map (held_cell image) (drop start cells)) ≡ stretch_of path start at all
      end_written all is none =
          ap (written path start) (left_held ∙ ap (λ (l : Cells). held bytes ++ map (held_cell image) l) none ∙ append-nil (held bytes)) ∙ end_next path start bytes ∙ sym (pending all is)

      -- The last cell so far.
      pub hole_ends : (len : ℕ) (more : Cells) → 0 < len → rest ≡ zero_cells len ++ more → ends_in_hole (map (held_cell image) (take (at + len) cells)) ≡ true
      unfolding along_hole
      hole_ends len more some follows =
          let after : Along cells (at + len) (at + len) more = along_hole len more follows in
          let front : take (at + len) cells ≡ (a.before ++ map (λ p. Some p) a.places) ++ zero_cells len =
          ap (λ (n : ℕ). take n cells) (sym after.start_is) ∙ ap (take (length after.before)) (sym after.parts) ∙ take-append_seam after.before more ∙ sym (append_assoc a.before (map (λ p. Some p) a.places) (zero_cells len)) in
          ap (λ (l : Cells). ends_in_hole (map (held_cell image) l)) front
          ∙ ap ends_in_hole (map-append (held_cell image) (a.before ++ map (λ p. Some p) a.places) (zero_cells len) ∙ ap (λ (l : List (Option ℕ)). map (held_cell image) (a.before ++ map (λ p. Some p) a.places) ++ l) (zeros_held len))
          ∙ ends_zero (map (held_cell image) (a.before ++ map (λ p. Some p) a.places)) len some

      pub run_ends : (more : Cells) (places : List Place) (len : ℕ) → 0 < len → rest ≡ map (λ p. Some p) places ++ more → length places ≡ len → ends_in_hole (map (held_cell image) (take (at + len) cells)) ≡ false
      run_ends more places len some follows long =
          let front : List (Option Place) = a.before ++ map (λ p. Some p) a.places in
          let whole : (front ++ map (λ p. Some p) places) ++ more ≡ cells =
          append_assoc front (map (λ p. Some p) places) more ∙ append_assoc a.before (map (λ p. Some p) a.places) (map (λ p. Some p) places ++ more)
          ∙ ap (λ (l : Cells). a.before ++ (map (λ p. Some p) a.places ++ l)) (sym follows) ∙ a.parts in
          let one = length-append front (map (λ p. Some p) places) in
          let two = length-append a.before (map (λ p. Some p) a.places) in
          let three = length-map a.places (λ p. Some p) in
          let four = length-map places (λ p. Some p) in
          let size : length (front ++ map (λ p. Some p) places) ≡ at + len = omega (arith, one, two, three, four, long, a.start_is, a.at_is) in
          ap (λ (l : Cells). ends_in_hole (map (held_cell image) l)) (ap (λ (n : ℕ). take n cells) (sym size) ∙ ap (take (length (front ++ map (λ p. Some p) places))) (sym whole) ∙ take-append_seam (front ++ map (λ p. Some p) places) more)
          ∙ ap ends_in_hole (map-append (held_cell image) front (map (λ p. Some p) places) ∙ ap (λ (l : List (Option ℕ)). map (held_cell image) front ++ l) (held_are places))
          ∙ ends_held (map (held_cell image) front) (map (λ p. get_or image p.at 0) places) (let own = length-map places (λ p. get_or image p.at 0) in omega (arith, own, long, some))

-- ---- one piece

pub follows_hole : (origin : Option Place) (len : ℕ) (left more : List (Option Place)) → origin ≡ None → left ≡ piece_cells further origin len ++ more → left ≡ zero_cells len ++ more
unfolding piece_cells
follows_hole origin len left more none is = is ∙ ap (λ (o : Option Place). piece_cells further o len ++ more) none

-- ---- what is left to be written

abbrev pub cut_off : List ℕ → List ℕ → List (Option Place) → List Command
cut_off image path cells = if ends_in_hole (map (held_cell image) cells) then Truncate (length (map (held_cell image) cells)) path ∷ [] else []

abbrev pub left_commands : List ℕ → List ℕ → List (Option Place) → ℕ → List Command
left_commands image path cells start = written path start (map (held_cell image) (drop start cells)) ++ cut_off image path cells

-- The places of a run.
pub run_places : (place : Place) (len : ℕ) → (places : List Place) × (run_cells further place len ≡ map (λ p. Some p) places) × (length places ≡ len)
unfolding run_cells
run_places place len = (map (further place) (range_with_len 0 len), twice (range_with_len 0 len), length-map (range_with_len 0 len) (further place) ∙ range_long 0 len)
  where
    twice : (ks : List ℕ) → map (λ k. Some (further place k)) ks ≡ map (λ p. Some p) (map (further place) ks)
    twice [] = refl
    twice (k ∷ ks) = ap (λ (l : Cells). Some (further place k) ∷ l) (twice ks)

    range_long : (from len : ℕ) → length (range_with_len from len) ≡ len
    range_long from zero = refl
    range_long from (suc len) = ap suc (range_long (from + 1) len)

pub record FollowsRun (len : ℕ) (left more : List (Option Place)) : Type 0 where
  pub places : List Place
  pub follows : left ≡ map (λ p. Some p) places ++ more
  pub long : length places ≡ len

pub follows_run : (origin : Option Place) (place : Place) (len : ℕ) (left more : List (Option Place)) → origin ≡ Some place → left ≡ piece_cells further origin len ++ more → FollowsRun len left more
unfolding piece_cells
follows_run origin place len left more some is =
    let r = run_places place len in record {
      places = r.0;
      follows = is ∙ ap (λ (o : Option Place). piece_cells further o len ++ more) some ∙ ap (λ (l : Cells). l ++ more) r.1;
      long = r.2;
    }

-- ---- as they are spelled

module _ (spelled : ℕ → Command → List ℕ) (version : ℕ) (image path all : List ℕ) (cells : List (Option Place)) (is : all ≡ map (place_byte image) cells) where
  abbrev spells : List Command → List ℕ
  spells cs = spelled_all spelled version cs

  module _ (start at : ℕ) (rest : List (Option Place)) (a : Along cells start at rest) where
    pub step_hole : (len : ℕ) (more : List (Option Place)) → 0 < len → rest ≡ zero_cells len ++ more
        → spells (left_commands image path cells start) ≡ spells (stretch_of path start at all) ++ spells (left_commands image path cells (at + len))
    step_hole len more some follows =
        ap (λ (l : List Command). spells (l ++ cut_off image path cells)) (hole_written cells start at rest a image path all len more is some follows)
        ∙ ap spells (append_assoc (stretch_of path start at all) (written path (at + len) (map (held_cell image) (drop (at + len) cells))) (cut_off image path cells))
        ∙ all_joined spelled version (stretch_of path start at all) (left_commands image path cells (at + len))

    pub step_pieces : (n : ℕ) → at ≡ start + n * 49_152 → spells (left_commands image path cells start) ≡ spells (stretch_of path start at all) ++ spells (left_commands image path cells at)
    step_pieces n pieces =
        ap (λ (l : List Command). spells (l ++ cut_off image path cells)) (pieces_written cells start at rest a image path n all is pieces)
        ∙ ap spells (append_assoc (stretch_of path start at all) (written path at (map (held_cell image) (drop at cells))) (cut_off image path cells))
        ∙ all_joined spelled version (stretch_of path start at all) (left_commands image path cells at)

    pub step_end : rest ≡ [] → spells (left_commands image path cells start) ≡ spells (stretch_of path start at all) ++ spells (cut_off image path cells)
    step_end none =
        ap (λ (l : List Command). spells (l ++ cut_off image path cells)) (end_written cells start at rest a image path all is none)
        ∙ all_joined spelled version (stretch_of path start at all) (cut_off image path cells)

    -- All cells were passed.
    pub last_is : rest ≡ [] → (hole : Bool) → hole ≡ ends_in_hole (map (held_cell image) (take at cells)) → ends_in_hole (map (held_cell image) cells) ≡ hole
    last_is none hole so_far =
        ap (λ (l : List (Option Place)). ends_in_hole (map (held_cell image) l)) (sym (ap (λ (n : ℕ). take n cells) (at_end cells start at rest a none) ∙ take_all (length cells) cells (omega arith))) ∙ sym so_far

  pub cut_here : (size : ℕ) → size ≡ length cells → ends_in_hole (map (held_cell image) cells) ≡ true → spells (cut_off image path cells) ≡ spelled version (Truncate size path) ++ []
  cut_here size long ends =
      ap (λ (b : Bool). spells (if b then Truncate (length (map (held_cell image) cells)) path ∷ [] else [])) ends
      ∙ ap (λ (n : ℕ). spelled version (Truncate n path) ++ []) (length-map cells (held_cell image) ∙ sym long)

  pub cut_nowhere : ends_in_hole (map (held_cell image) cells) ≡ false → spells (cut_off image path cells) ≡ []
  cut_nowhere ends = ap (λ (b : Bool). spells (if b then Truncate (length (map (held_cell image) cells)) path ∷ [] else [])) ends

-- The cells of all pieces.
pub all_of : (cells : List (Option Place)) (size : ℕ) → size ≡ length cells → cells_between 0 size cells ≡ cells
unfolding cells_between
all_of cells size is = take_all size cells (omega (arith, is))
