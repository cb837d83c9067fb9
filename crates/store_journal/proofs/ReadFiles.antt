-- The bytes of files that are read piece by piece.
use Rattle.std.specs.Prelude.{◌≡◌, ℕ, zero, suc, ◌+◌, ◌-◌, ◌<◌, ◌≤◌, Bool, true, false, List, [], ◌∷◌, ◌++◌, map, length, take, drop, get_or, Option, Some, None, IfSome, Result, Ok, Err, OnOk, if◌then◌else◌}
use Rattle.std.specs.List.{AllByRecursion, range_with_len}
use Rattle.std.specs.Option.{option_map}
use Rattle.std.proofs.Common.{refl, sym, ap, ap₂, subst, ◌∙◌, arith}
use Rattle.std.proofs.lemmas.List.{length-take, length-drop, get_or-take, get_or-drop, take-map, drop-map}
use Rattle.std.proofs.lemmas.List.FromFn.{fill_by_all}
use lib.ListN.{replicate}
use Rattle.send_model.specs.Subvolume.{Inode, Subvolume, inode_at}
use Rattle.send_model.specs.Clone.{cells_of}
use Rattle.send_model.specs.Store.{Key, Store, same_key, find}
use Rattle.send_model.specs.Cells.{recelled, recelled_store}
use Rattle.send_model.proofs.CellSteps.{find-cells}
use Rattle.send_model.proofs.CellClones.{cells_of-cells}
use Rattle.send_model.proofs.Held.{cells_hold}
use Rattle.send_model.proofs.ElementLaws.{all_first, all_drop, all_take}
use Rattle.store_model.specs.Stored.{byte_of}
use Rattle.extent_map.specs.Cells.{cells_between}
use Rattle.extent_map.specs.Pieces.{piece_cells}
use Rattle.extent_map.proofs.Layouts.{length-piece, get_or-run}
use Rattle.extent_map.proofs.PieceByPiece.{run_bytes, hole_bytes}
use Rattle.group_replay.specs.declared.place.Place.{Place}
use Rattle.group_replay.specs.Placing.{further}
use Rattle.group_replay.specs.Kept.{StandsBefore, IsKept, AreKept}
use Rattle.store_journal.specs.Standing.{place_byte, with_bytes}
use Rattle.store_journal.specs.Reading.{file_cells}

abbrev Cell : Type 0
Cell = Option Place

abbrev number : Cell → Option ℕ
number cell = option_map (λ p. p.at) cell

-- ---- the cells of a file

module _ {C : Type 0} (store : Store C) (key : Key) (ino : ℕ) where
  pub some_there : (s : Subvolume C) (cells : List C) → Some s ≡ find store key → cells_of s ino ≡ cells → file_cells store key ino ≡ cells
  some_there s cells e c = ap (λ (o : Option (Subvolume C)). elim o as (λ x. List C) [ None ↦ [] | Some t ↦ cells_of t ino ]) (sym e) ∙ c

-- the cells of an inode, if there is one
pub inode_cells : {C : Type 0} (t s : Subvolume C) (ino : ℕ) (o : Option (Inode C)) → t ≡ s → o ≡ inode_at t ino → cells_of s ino ≡ elim o as (λ x. List C) [ None ↦ [] | Some j ↦ j.cells ]
unfolding cells_of
inode_cells {C} t s ino o same e =
    ap (λ (u : Subvolume C). cells_of u ino) (sym same) ∙ ap (λ (x : Option (Inode C)). elim x as (λ y. List C) [ None ↦ [] | Some j ↦ j.cells ]) (sym e)

-- over other cells they are the others
recelled_cells : {C D : Type 0} (f : C → D) (store : Store C) (key : Key) (ino : ℕ) → file_cells (recelled_store f store) key ino ≡ map f (file_cells store key ino)
recelled_cells {C} {D} f store key ino =
    ap (λ (o : Option (Subvolume D)). elim o as (λ x. List D) [ None ↦ [] | Some t ↦ cells_of t ino ]) (find-cells f store key) ∙ one (find store key)
  where
    one : (o : Option (Subvolume C)) → (elim (option_map (recelled f) o) as (λ x. List D) [ None ↦ [] | Some t ↦ cells_of t ino ]) ≡ map f (elim o as (λ x. List C) [ None ↦ [] | Some t ↦ cells_of t ino ])
    one None = refl
    one (Some s) = cells_of-cells f s ino

map_twice : {A B C : Type 0} (f : B → C) (g : A → B) (xs : List A) → map f (map g xs) ≡ map (λ x. f (g x)) xs
map_twice f g [] = refl
map_twice {A} {B} {C} f g (x ∷ xs) = ap (λ (l : List C). f (g x) ∷ l) (map_twice f g xs)

pub file_bytes : (image : List ℕ) (core : Store Cell) (key : Key) (ino : ℕ) → file_cells (with_bytes image core) key ino ≡ map (place_byte image) (file_cells core key ino)
file_bytes image core key ino =
    recelled_cells (byte_of image) (recelled_store number core) key ino ∙ ap (map (byte_of image)) (recelled_cells number core key ino) ∙ map_twice (byte_of image) number (file_cells core key ino)

-- all stand before the end
found_kept : (end : ℕ) (core : Store Cell) (key : Key) → AreKept end core → IfSome (find core key) (IsKept end)
unfolding find
found_kept end [] key all = tt
found_kept end (e ∷ core) key all = one (same_key e.key key) e.contents (find core key) all.0 (found_kept end core key all.1)
  where
    one : (b : Bool) (o more : Option (Subvolume Cell)) → IfSome o (IsKept end) → IfSome more (IsKept end)
        → IfSome (if b then (elim o as (λ x. Option (Subvolume Cell)) [ None ↦ more | Some s ↦ Some s ]) else more) (IsKept end)
    one true None more own others = others
    one true (Some s) more own others = own
    one false o more own others = others

pub file_before : (end size : ℕ) (core : Store Cell) (key : Key) (ino : ℕ) → end ≤ size → AreKept end core → AllByRecursion (StandsBefore size) (file_cells core key ino)
file_before end size core key ino fits all = one (find core key) (found_kept end core key all)
  where
    further_all : (cells : List Cell) → AllByRecursion (StandsBefore end) cells → AllByRecursion (StandsBefore size) cells
    further_all [] a = tt
    further_all (None ∷ cells) a = (tt, further_all cells a.1)
    further_all (Some place ∷ cells) a = (omega (arith, a.0, fits), further_all cells a.1)

    one : (o : Option (Subvolume Cell)) → IfSome o (IsKept end) → AllByRecursion (StandsBefore size) (elim o as (λ x. List Cell) [ None ↦ [] | Some t ↦ cells_of t ino ])
    one None k = tt
    one (Some s) k = further_all (cells_of s ino) (cells_hold (StandsBefore end) s ino k.places)

-- ---- a buffer

-- some bytes of the cells of a file are those of its bytes from the same place on
range_bytes : (image : List ℕ) (cells : List Cell) (bytes new : List ℕ) (at n : ℕ) → bytes ≡ map (place_byte image) cells → length new ≡ n → new ≡ map (place_byte image) (cells_between at n cells) → new ≡ take (length new) (drop at bytes)
unfolding cells_between
range_bytes image cells bytes new at n b long e =
    e ∙ sym (take-map (place_byte image) n (drop at cells)) ∙ ap (take n) (sym (drop-map (place_byte image) at cells)) ∙ ap₂ (λ (m : ℕ) (x : List ℕ). take m (drop at x)) (sym long) (sym b)

pub range_read : {E : Type 0} (image : List ℕ) (cells : List Cell) (bytes new : List ℕ) (at n : ℕ) (result : Result (Unit {0}) E) → bytes ≡ map (place_byte image) cells → length new ≡ n
    → OnOk result (new ≡ map (place_byte image) (cells_between at n cells)) → OnOk result (new ≡ take (length new) (drop at bytes))
range_read image cells bytes new at n (Ok done) b long e = range_bytes image cells bytes new at n b long e
range_read image cells bytes new at n (Err stop) b long e = tt

read_range : (image : List ℕ) (at len : ℕ) → at + len ≤ length image → take len (drop at image) ≡ map (λ k. get_or image (at + k) 0) (range_with_len 0 len)
read_range image at len fits = fill_by_all (λ k. get_or image (at + k) 0) (take len (drop at image)) len 0
    (let l = length-take len (drop at image) in let d = length-drop at image in omega (arith, l, d, fits))
    (λ k lt. get_or-take len (drop at image) k 0 lt ∙ get_or-drop at image k 0)

pub hole_filled : (image : List ℕ) (origin : Cell) (len : ℕ) (new : List ℕ) → origin ≡ None → new ≡ replicate len 0 → new ≡ map (place_byte image) (piece_cells further origin len)
hole_filled image origin len new is zeros = zeros ∙ sym (hole_bytes further (place_byte image) refl len) ∙ ap (λ (o : Cell). map (place_byte image) (piece_cells further o len)) (sym is)

run_filled : (image : List ℕ) (origin : Cell) (place : Place) (len : ℕ) (new : List ℕ) → origin ≡ Some place → place.at + len ≤ length image → length new ≡ len → new ≡ take (length new) (drop place.at image) → new ≡ map (place_byte image) (piece_cells further origin len)
run_filled image origin place len new is fits long filled =
    filled ∙ ap (λ (n : ℕ). take n (drop place.at image)) long ∙ read_range image place.at len fits ∙ sym (run_bytes further (place_byte image) place len)
    ∙ ap (λ (o : Cell). map (place_byte image) (piece_cells further o len)) (sym is)

-- so it is of a disk that gives the same
pub same_filled : (cells : List Cell) (new seen image : List ℕ) → seen ≡ image → new ≡ map (place_byte seen) cells → new ≡ map (place_byte image) cells
same_filled cells new seen image same filled = filled ∙ ap (λ (l : List ℕ). map (place_byte l) cells) same

-- or the read stopped
pub piece_filled : {E : Type 0} (image : List ℕ) (origin : Cell) (place : Place) (len : ℕ) (new : List ℕ) (result : Result (Unit {0}) E) → origin ≡ Some place → place.at + len ≤ length image → length new ≡ len
    → OnOk result (new ≡ take (length new) (drop place.at image)) → OnOk result (new ≡ map (place_byte image) (piece_cells further origin len))
piece_filled image origin place len new (Ok done) is fits long filled = run_filled image origin place len new is fits long filled
piece_filled image origin place len new (Err stop) is fits long filled = tt

-- a piece stands before the end, as its last cell does
all_at : {A : Type 0} (P : A → Type 0) (xs : List A) (k : ℕ) (d : A) → k < length xs → AllByRecursion P xs → P (get_or xs k d)
all_at P [] k d lt all = absurd (omega (arith, lt))
all_at P (x ∷ xs) zero d lt all = all.0
all_at P (x ∷ xs) (suc k) d lt all = all_at P xs k d (omega (arith, lt)) all.1

pub piece_before : (size : ℕ) (cells : List Cell) (at len have n : ℕ) (origin : Cell) (rest : List Cell) → AllByRecursion (StandsBefore size) cells → drop have (cells_between at len cells) ≡ piece_cells further origin n ++ rest → 0 < n
    → (k : ℕ) → k ≡ n → IfSome origin (λ place. place.at + k ≤ size)
unfolding cells_between
piece_before size cells at len have n None rest all is some k same = tt
piece_before size cells at len have n (Some place) rest all is some k same =
    let run : List Cell = piece_cells further (Some place) n in
    let left : AllByRecursion (StandsBefore size) (drop have (take len (drop at cells))) = all_drop (StandsBefore size) have (take len (drop at cells)) (all_take (StandsBefore size) len (drop at cells) (all_drop (StandsBefore size) at cells all)) in
    let front : AllByRecursion (StandsBefore size) run = all_first (StandsBefore size) run rest (subst (λ (l : List Cell). AllByRecursion (StandsBefore size) l) is left) in
    let last : StandsBefore size (Some (further place (n - 1))) =
    subst (StandsBefore size) (get_or-run further place n (n - 1) (omega (arith, some))) (all_at (StandsBefore size) run (n - 1) None (let l = length-piece further (Some place) n in omega (arith, some, l)) front) in
    omega (arith, last, some, same)
