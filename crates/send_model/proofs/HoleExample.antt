-- A worked example of too much: a file that was made longer by 2^41 zero bytes, and a clone of all
-- of it into the next part. Its cells are more than can be computed, so they stay unopened, and all
-- that is known of them is how many there are.
use Rattle.std.specs.Prelude.{◌≡◌, ℕ, zero, suc, ◌+◌, ◌-◌, ◌≤◌, ◌==◌, Bool, true, false, ◌&&◌, ◌||◌, List, [], ◌∷◌, ◌++◌, map, length, take, drop, replicate, Option, None, Some, Result, Ok, Err, nat_lt, nat_le, codes, if◌then◌else◌}
use Rattle.std.specs.List.{sum_by}
use Rattle.std.proofs.Common.{refl, ap, ◌∙◌, arith}
use Rattle.std.proofs.lemmas.List.{length-append, length-take, length-drop, length-map, length-replicate}
use Rattle.std.proofs.lemmas.List.Sums.{sum_by-cons}
use Rattle.send_model.specs.Refusal.{Refusal, BadRange, Unaligned, FileTooBig, Overlap}
use Rattle.send_model.specs.Chain.{◌>>=◌, ◌>>◌, require, refuse_if}
use Rattle.send_model.specs.Path.{path_names, between_slashes, is_name}
use Rattle.send_model.specs.Command.{Command, Subvol, Snapshot, MkFile, Truncate, Clone, End}
use Rattle.send_model.specs.Spelling.{stream_header, canonical_all}
use Rattle.send_model.specs.Reading.{Item, Whole, input}
use Rattle.send_model.specs.Lengths.{is_too_long, too_long, too_long_from}
use Rattle.send_model.specs.Subvolume.{Subvolume, root_alone, is_directory, is_file, walk_names, walk, spot}
use Rattle.send_model.specs.Edit.{greatest_end, resized, overwritten, change_inode, set_cells, add_inode, make, change_contents, edit}
use Rattle.send_model.specs.Clone.{block_len, cells_of, is_aligned, overlap, Cloned, cloned, clone, clone_values}
use Rattle.send_model.specs.Store.{Store, State, find, with_contents, completed, begun, edited, step_head, edit_part, step_edit, step}
use Rattle.send_model.specs.Receive.{start_of}
use Rattle.send_model.specs.Order.{heads, heads_of}
use Rattle.send_model.specs.Provenance.{Place, Traced, fresh, inode_with, traced_store, traced_step, come_from, can_serve, carried_from, Piece, Carried, Literal, piece_of, join_piece, pieces_from, pieces_of, literal_len, blocks_from, blocks, clone_range, uncarried_in}
use Rattle.send_model.specs.Composed.{first_head, last_head, composed_from, composed_edits, composed_with, composed_of, composed_part}
use Rattle.send_model.specs.Due.{Due, TooMuch, uncarried_of, then_due, come_to, due_from, reading_due, or_due, refused_due, compose_due_of, compose_due}
use Rattle.send_model.proofs.ExampleWords.{hexadecimal, uuid, key, directory, file, reading_words}

-- ---- over a store with nothing in it

abbrev pub nothing : Store ℕ
nothing = []

-- No block is carried.
none_carried : (block : List Traced) → carried_from nothing block ≡ None
unfolding carried_from find
none_carried [] = refl
none_carried (c ∷ cells) = one c.place
  where
    two : (place : Place) (b : Bool) → (if b && false then Some place else None) ≡ None
    two place true = refl
    two place false = refl

    one : (o : Option Place) → (elim o as (λ x. Option Place) [ None ↦ None | Some place ↦ if come_from place (c ∷ cells) && can_serve {C = ℕ} None place (length (c ∷ cells)) then Some place else None ]) ≡ None
    one None = refl
    one (Some place) = two place (come_from place (c ∷ cells))

abbrev bytes_in : List Traced → List ℕ
bytes_in cells = map (λ c. c.byte) cells

-- So each block is a piece of bytes.
bytes_alone : (at : ℕ) (block : List Traced) → piece_of nothing at block ≡ Literal at (bytes_in block)
bytes_alone at block = ap (λ (o : Option Place). elim o as (λ x. Piece) [ None ↦ Literal at (bytes_in block) | Some place ↦ Carried at place (length block) ]) (none_carried block)

abbrev pub bytes_of_pieces : List Piece → ℕ
bytes_of_pieces pieces = sum_by literal_len pieces

-- Pieces of bytes join to one of as many bytes.
pub bytes_joined : (at : ℕ) (bytes : List ℕ) (pieces : List Piece) → bytes_of_pieces (join_piece (Literal at bytes) pieces) ≡ length bytes + bytes_of_pieces pieces
bytes_joined at bytes [] = sum_by-cons literal_len (Literal at bytes) []
bytes_joined at bytes (Literal at' more ∷ pieces) =
    let both = sum_by-cons literal_len (Literal at (bytes ++ more)) pieces in
    let second = sum_by-cons literal_len (Literal at' more) pieces in
    let size = length-append bytes more in
    omega (arith, both, second, size)
bytes_joined at bytes (Carried at' place len ∷ pieces) = sum_by-cons literal_len (Literal at bytes) (Carried at' place len ∷ pieces)

blocks_bytes : (n at : ℕ) (cells : List Traced) → length cells ≤ n → bytes_of_pieces (pieces_from nothing at (blocks_from n cells)) ≡ length cells
blocks_bytes zero at [] l = refl
blocks_bytes zero at (c ∷ cells) l = absurd (omega (arith, l))
blocks_bytes (suc n) at [] l = refl
blocks_bytes (suc n) at (c ∷ cells) l =
    let block : List Traced = take block_len (c ∷ cells) in
    let rest : List Traced = drop block_len (c ∷ cells) in
    let others : List Piece = pieces_from nothing (at + length block) (blocks_from n rest) in
    let first = length-take block_len (c ∷ cells) in
    let left = length-drop block_len (c ∷ cells) in
    let bytes = length-map block (λ c. c.byte) in
    let more : bytes_of_pieces others ≡ length rest = blocks_bytes n (at + length block) rest (omega (arith, l, left)) in
    let all : bytes_of_pieces (join_piece (piece_of nothing at block) others) ≡ length (bytes_in block) + bytes_of_pieces others =
    ap (λ (p : Piece). bytes_of_pieces (join_piece p others)) (bytes_alone at block) ∙ bytes_joined at (bytes_in block) others in
    omega (arith, all, more, bytes, first, left)

-- All cells of a range are uncarried.
all_uncarried : (range : List Traced) → uncarried_in nothing (range ∷ []) ≡ length range
unfolding pieces_of blocks
all_uncarried range =
    let all : bytes_of_pieces (pieces_of nothing range) ≡ length range = blocks_bytes (length range) 0 range (omega arith) in
    let one = sum_by-cons (λ (ps : List Piece). bytes_of_pieces ps) (pieces_of nothing range) [] in
    omega (arith, all, one)

-- ---- the two files

-- What the example computes by. The words for cells that are made longer, put or cut into blocks
-- are not among them.
unfoldable pub hole_words : Unit {0}
unfolding reading_words is_too_long too_long too_long_from due_from edit make change_contents change_inode add_inode clone cloned cells_of root_alone spot walk walk_names path_names between_slashes is_name is_directory is_file step step_head step_edit edit_part begun completed with_contents find heads_of traced_store clone_range composed_edits composed_from
hole_words = tt

abbrev pub size : ℕ
size = 2_199_023_255_552

-- A line for the header and one for each frame.
unfoldable pub hole_stream : List ℕ
hole_stream =
    hexadecimal (codes "62747266732d73747265616d0001000000")
    ++ hexadecimal (codes "250000000100333343ee01001000111111111111111111111111111111110200080001000000000000000f00010061")
    ++ hexadecimal (codes "050000000300404d68630f00010068")
    ++ hexadecimal (codes "1100000011002474e8670400080000000000000200000f00010068")
    ++ hexadecimal (codes "000000001500506cc99d")

unfoldable pub clone_stream : List ℕ
clone_stream =
    hexadecimal (codes "62747266732d73747265616d0001000000")
    ++ hexadecimal (codes "450000000200ca93bfed01001000222222222222222222222222222222220200080002000000000000000f000100621400100011111111111111111111111111111111150008000100000000000000")
    ++ hexadecimal (codes "050000000300b4be38700f0001006b")
    ++ hexadecimal (codes "4e0000001000fbdaaaf50f0001006b12000800000000000000000014001000111111111111111111111111111111111500080001000000000000001600010068170008000000000000000000180008000000000000020000")
    ++ hexadecimal (codes "000000001500506cc99d")

abbrev pub hole_files : List (List ℕ)
hole_files = hole_stream ∷ clone_stream ∷ []

-- Their commands up to the clone, the clone, and END.
abbrev pub before : List Item
before =
    record { file = 1; number = 1; offset = 17; version = 1; data_at = 0; command = Subvol (uuid 0x11) 1 (codes "a") }
    ∷ record { file = 1; number = 2; offset = 64; version = 1; data_at = 0; command = MkFile (codes "h") }
    ∷ record { file = 1; number = 3; offset = 79; version = 1; data_at = 0; command = Truncate size (codes "h") }
    ∷ record { file = 1; number = 4; offset = 106; version = 1; data_at = 0; command = End }
    ∷ record { file = 2; number = 1; offset = 17; version = 1; data_at = 0; command = Snapshot (uuid 0x22) 2 (codes "b") (uuid 0x11) 1 }
    ∷ record { file = 2; number = 2; offset = 96; version = 1; data_at = 0; command = MkFile (codes "k") }
    ∷ []

abbrev pub the_clone : Item
the_clone = record { file = 2; number = 3; offset = 111; version = 1; data_at = 0; command = Clone (codes "k") 0 (uuid 0x11) 1 (codes "h") 0 size }

abbrev pub the_end : Item
the_end = record { file = 2; number = 4; offset = 199; version = 1; data_at = 0; command = End }

abbrev pub from_clone : List Item
from_clone = the_clone ∷ the_end ∷ []

-- They are read as these items, and none is too long.
pub hole_read : input hole_files ≡ record { items = before ++ from_clone; end = Whole }
unfolding hole_stream clone_stream hole_words
hole_read = refl

pub none_long : too_long hole_files ≡ None
unfolding hole_stream clone_stream hole_words
none_long = refl

-- ---- up to the clone

abbrev pub parts : List (List ℕ)
parts = uuid 0x11 ∷ uuid 0x22 ∷ []

-- The first part, whose one file has some cells; and the second, with an empty file beside it.
abbrev first_part : List Traced → Subvolume Traced
first_part cells = record {
  inodes = (256, inode_with directory []) ∷ (257, inode_with (file []) cells) ∷ [];
  names = ((256, codes "h"), 257) ∷ [];
  next = 258;
}

abbrev second_part : List Traced → Subvolume Traced
second_part cells = record {
  inodes = (256, inode_with directory []) ∷ (257, inode_with (file []) cells) ∷ (258, inode_with (file []) []) ∷ [];
  names = ((256, codes "h"), 257) ∷ ((256, codes "k"), 258) ∷ [];
  next = 259;
}

-- What stands before the clone.
abbrev state_with : List Traced → State Traced
state_with cells = record {
  store =
      record { name = codes "a"; key = key 0x11 1; parent = None; contents = Some (first_part cells) }
      ∷ record { name = codes "b"; key = key 0x22 2; parent = Some (key 0x11 1); contents = None }
      ∷ [];
  part = Some (record { key = key 0x22 2; subvolume = second_part cells });
}

abbrev due_with : List Traced → List Item → Option Due
due_with cells items = due_from nothing parts (come_to (state_with cells) (Some (key 0x22 2)) (Some (uuid 0x22)) 0) items

abbrev hole : List Traced
hole = resized (fresh 0) size []

up_to_clone : (items : List Item) → due_from nothing parts (come_to (start_of (traced_store nothing)) None None 0) (before ++ items) ≡ due_with hole items
unfolding hole_words
up_to_clone items = refl

-- ---- the clone

-- So many cells of so many, and the cells of the hole.
pub taken_len : (n : ℕ) (cells : List Traced) → length cells ≡ n → length (take n cells) ≡ n
taken_len n cells long = let first = length-take n cells in omega (arith, long, first)

resized_len : (n : ℕ) → length (resized (fresh 0) n []) ≡ n
unfolding resized
resized_len n = let zeros = length-replicate (n - 0) (fresh 0) in taken_len n (replicate (n - 0) (fresh 0)) (omega (arith, zeros))

abbrev cloned_with : List Traced → Result (Cloned Traced) Refusal
cloned_with cells = cloned (second_part cells) (Some (first_part cells)) false (clone_values (codes "k") 0 (codes "h") 0 size)

-- The clone is taken, and puts all of them.
clone_taken : (cells : List Traced) → length cells ≡ size → cloned_with cells ≡ Ok (record { ino = 258; cells = take size cells })
unfolding hole_words
clone_taken cells long =
    ap (λ (n : ℕ). refuse_if ((size == 0) || nat_lt n (0 + size)) BadRange >> (
    require (is_aligned 0 0 size n) Unaligned >> (
    require (nat_le (0 + size) greatest_end) FileTooBig >> (
    refuse_if (false && (257 == 258) && overlap 0 0 size) Overlap >> Ok (record { ino = 258; cells = take size cells }))))) long

range_is : (cells : List Traced) → length cells ≡ size → clone_range (state_with cells) the_clone.command ≡ take size cells
unfolding hole_words
range_is cells long = ap (λ (r : Result (Cloned Traced) Refusal). elim r as (λ x. List Traced) [ Err refusal ↦ [] | Ok range ↦ range.cells ]) (clone_taken cells long)

not_refused : (cells : List Traced) → length cells ≡ size → (traced_step (state_with cells) the_clone).refusal ≡ None
unfolding hole_words
not_refused cells long =
    ap (λ (r : Result (Cloned Traced) Refusal).
    (edited (state_with cells).store (record { key = key 0x22 2; subvolume = second_part cells }) (r >>= (λ range. Ok (change_inode range.ino (set_cells (overwritten (fresh 0) 0 range.cells)) (second_part cells))))).refusal) (clone_taken cells long)

uncarried_is : (cells : List Traced) → length cells ≡ size → uncarried_of nothing parts (state_with cells) (Some (uuid 0x22)) the_clone ≡ size
uncarried_is cells long = ap (λ (range : List Traced). uncarried_in nothing (range ∷ [])) (range_is cells long) ∙ all_uncarried (take size cells) ∙ taken_len size cells long

-- Whatever so many cells are, they are too many.
too_much_with : (cells : List Traced) (rest : List Item) → length cells ≡ size → due_with cells (the_clone ∷ rest) ≡ Some (TooMuch size)
unfolding due_from
too_much_with cells rest long =
    let state : State Traced = (traced_step (state_with cells) the_clone).state in
    let others : ℕ → Option Due = λ sum. due_from nothing parts (come_to state (Some (key 0x22 2)) (Some (uuid 0x22)) sum) rest in
    let own : ℕ = uncarried_of nothing parts (state_with cells) (Some (uuid 0x22)) the_clone in
    ap (λ (o : Option Refusal). then_due the_clone o false (0 + own) (others (0 + own))) (not_refused cells long)
    ∙ ap (λ (n : ℕ). then_due the_clone None false (0 + n) (others (0 + n))) (uncarried_is cells long)

-- ---- the answer

read_due : reading_due nothing (record { items = before ++ from_clone; end = Whole }) ≡ TooMuch size
unfolding hole_words
read_due = ap (λ (due : Option Due). or_due due (refused_due None)) (up_to_clone from_clone ∙ too_much_with hole (the_end ∷ []) (resized_len size))

-- All of the clone is uncarried, and that is more than is written.
too_much : compose_due [] hole_files ≡ TooMuch 2_199_023_255_552
too_much = ap (λ (long : Option ℕ). compose_due_of long nothing (input hole_files)) none_long ∙ ap (reading_due nothing) hole_read ∙ read_due

-- ---- what was written before

-- What stands for the commands before the clone; the last of them makes the empty file.
abbrev composed_before_clone : List Command
composed_before_clone = composed_part nothing (first_head (heads before)) (last_head (heads (before ++ from_clone))) before

before_composed : composed_before_clone ≡ Subvol (uuid 0x22) 2 (codes "b") ∷ MkFile (codes "h") ∷ Truncate size (codes "h") ∷ MkFile (codes "k") ∷ []
unfolding hole_words
before_composed = refl

-- A line for the header and one for each frame.
unfoldable written_stream : List ℕ
written_stream =
    hexadecimal (codes "62747266732d73747265616d0001000000")
    ++ hexadecimal (codes "2500000001009d83eef801001000222222222222222222222222222222220200080002000000000000000f00010062")
    ++ hexadecimal (codes "050000000300404d68630f00010068")
    ++ hexadecimal (codes "1100000011002474e8670400080000000000000200000f00010068")
    ++ hexadecimal (codes "050000000300b4be38700f0001006b")

written_len : length written_stream ≡ 121
unfolding written_stream
written_len = refl

-- Spelled, the commands before the clone are this stream.
before_spelled : stream_header 1 ++ canonical_all 1 composed_before_clone ≡ written_stream
unfolding written_stream hole_words
before_spelled = refl

-- It is the first bytes of all that would stand for both files.
written_first : take 121 (stream_header 1 ++ canonical_all 1 (composed_of nothing (before ++ from_clone))) ≡ written_stream
unfolding written_stream hole_words composed_with
written_first = refl
