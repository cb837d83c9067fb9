-- A worked example of too much: 2^41 zero bytes that a command made, cloned into the next part. They have no tags, so they stand nowhere, though
-- the file is there; they are more than can be computed, so they stay unopened.
use Rattle.std.specs.Prelude.{◌≡◌, ℕ, zero, suc, ◌+◌, ◌-◌, ◌≤◌, ◌==◌, Bool, true, false, not, ◌&&◌, ◌||◌, List, [], ◌∷◌, ◌++◌, map, length, take, drop, replicate, Option, None, Some, Result, Ok, Err, nat_lt, nat_le, codes, if◌then◌else◌}
use Rattle.std.specs.List.{AllByRecursion}
use Rattle.std.proofs.Common.{refl, ap, ◌∙◌, arith}
use Rattle.std.proofs.lemmas.List.{length-take, length-drop, length-map, length-replicate}
use Rattle.std.proofs.lemmas.List.Sums.{sum_by-cons}
use Rattle.send_model.specs.Refusal.{Refusal, BadRange, Unaligned, FileTooBig, Overlap}
use Rattle.send_model.specs.Chain.{◌>>=◌, ◌>>◌, require, refuse_if}
use Rattle.send_model.specs.Reading.{Item, Whole, input}
use Rattle.send_model.specs.Lengths.{too_long}
use Rattle.send_model.specs.Subvolume.{Subvolume}
use Rattle.send_model.specs.Edit.{greatest_end, resized, overwritten, change_inode, set_cells}
use Rattle.send_model.specs.Clone.{block_len, cells_of, is_aligned, overlap, Cloned, cloned, clone_values}
use Rattle.send_model.specs.Store.{Key, Store, State, edited}
use Rattle.send_model.specs.Receive.{start_of}
use Rattle.send_model.specs.Provenance.{Place, inode_with, can_serve, carried_from, Piece, Carried, Literal, join_piece, piece_by, pieces_by, blocks_from, blocks, clone_range, literal_in}
use Rattle.send_model.specs.Due.{Due, TooMuch, then_due, come_by, due_by, or_due, refused_due}
use Rattle.send_model.proofs.ExampleWords.{uuid, key, directory, file}
use Rattle.send_model.proofs.ElementLaws.{all_take, all_drop}
use Rattle.send_model.proofs.HoleExample.{nothing, bytes_of_pieces, bytes_joined, hole_words, size, hole_files, before, the_clone, the_end, from_clone, hole_read, none_long, parts}
use Rattle.standing_model.specs.Births.{Tagged, byte_in, untagged, traced_of, tagged_store, tagged_step}
use Rattle.standing_model.specs.Standing.{begin_with, stands_at, block_places, first_such, stand_of, source_of, standing_pieces}
use Rattle.standing_model.specs.Promises.{unstanding_of, self_due, self_due_of}

-- ---- cells without tags stand nowhere

abbrev HasNone : Tagged → Type 0
HasNone c = c.tag ≡ None

and_false : (b : Bool) → b && false ≡ false
and_false true = refl
and_false false = refl

begins_never : (cells : List Tagged) (c : Tagged) (block : List Tagged) → HasNone c → begin_with cells (c ∷ block) ≡ false
begins_never [] c block n = refl
begins_never (d ∷ cells) c block n = rw n refl

none_such : (test : Place → Bool) (places : List Place) → ((p : Place) → test p ≡ false) → first_such test places ≡ None
none_such test [] f = refl
none_such test (p ∷ places) f = ap (λ (b : Bool). if b then Some p else first_such test places) (f p) ∙ none_such test places f

module _ (last : Key) (s : Subvolume Tagged) (target : ℕ) where
  stands_never : (c : Tagged) (block : List Tagged) → HasNone c → stand_of last s target (c ∷ block) ≡ None
  unfolding stand_of
  stands_never c block n = none_such (stands_at s target (c ∷ block)) (block_places last s)
      (λ p. ap (λ (b : Bool). can_serve (Some s) p (length (c ∷ block)) && not (p.ino == target) && b) (begins_never (drop p.offset (cells_of s p.ino)) c block n) ∙ and_false (can_serve (Some s) p (length (c ∷ block)) && not (p.ino == target)))

  carried_never : (base : Store ℕ) (c : Tagged) (block : List Tagged) → HasNone c → carried_from base (map traced_of (c ∷ block)) ≡ None
  unfolding carried_from
  carried_never base c block n = rw n refl

  sourceless : (base : Store ℕ) (block : List Tagged) → 1 ≤ length block → AllByRecursion HasNone block → source_of base last s target block ≡ None
  sourceless base [] some n = absurd (omega (arith, some))
  sourceless base (c ∷ block) some n = rw (carried_never base c block n.0) (stands_never c block n.0)

  -- So all of them are written.
  blocks_bytes : (base : Store ℕ) (n at : ℕ) (cells : List Tagged) → length cells ≤ n → AllByRecursion HasNone cells → bytes_of_pieces (pieces_by byte_in (source_of base last s target) at (blocks_from n cells)) ≡ length cells
  blocks_bytes base zero at [] l t = refl
  blocks_bytes base zero at (c ∷ cells) l t = absurd (omega (arith, l))
  blocks_bytes base (suc n) at [] l t = refl
  blocks_bytes base (suc n) at (c ∷ cells) l t =
      let block : List Tagged = take block_len (c ∷ cells) in
      let rest : List Tagged = drop block_len (c ∷ cells) in
      let others : List Piece = pieces_by byte_in (source_of base last s target) (at + length block) (blocks_from n rest) in
      let first = length-take block_len (c ∷ cells) in
      let left = length-drop block_len (c ∷ cells) in
      let bytes = length-map block byte_in in
      let alone : piece_by byte_in (source_of base last s target) at block ≡ Literal at (map byte_in block) =
      ap (λ (o : Option Place). elim o as (λ x. Piece) [ None ↦ Literal at (map byte_in block) | Some place ↦ Carried at place (length block) ]) (sourceless base block (omega (arith, first)) (all_take HasNone block_len (c ∷ cells) t)) in
      let more : bytes_of_pieces others ≡ length rest = blocks_bytes base n (at + length block) rest (omega (arith, l, left)) (all_drop HasNone block_len (c ∷ cells) t) in
      let all : bytes_of_pieces (join_piece (piece_by byte_in (source_of base last s target) at block) others) ≡ length (map byte_in block) + bytes_of_pieces others =
      ap (λ (p : Piece). bytes_of_pieces (join_piece p others)) alone ∙ bytes_joined at (map byte_in block) others in
      omega (arith, all, more, bytes, first, left)

  pub untagged_are_written : (base : Store ℕ) (range : List Tagged) → AllByRecursion HasNone range → literal_in (pieces_by byte_in (source_of base last s target) 0 (blocks range) ∷ []) ≡ length range
  unfolding blocks
  untagged_are_written base range t =
      let all = blocks_bytes base (length range) 0 range (omega arith) t in
      let one = sum_by-cons (λ (ps : List Piece). bytes_of_pieces ps) (pieces_by byte_in (source_of base last s target) 0 (blocks range)) [] in
      omega (arith, all, one)

-- ---- up to the clone

abbrev first_part : List Tagged → Subvolume Tagged
first_part cells = record {
  inodes = (256, inode_with directory []) ∷ (257, inode_with (file []) cells) ∷ [];
  names = ((256, codes "h"), 257) ∷ [];
  next = 258;
}

abbrev second_part : List Tagged → Subvolume Tagged
second_part cells = record {
  inodes = (256, inode_with directory []) ∷ (257, inode_with (file []) cells) ∷ (258, inode_with (file []) []) ∷ [];
  names = ((256, codes "h"), 257) ∷ ((256, codes "k"), 258) ∷ [];
  next = 259;
}

abbrev state_with : List Tagged → State Tagged
state_with cells = record {
  store =
      record { name = codes "a"; key = key 0x11 1; parent = None; contents = Some (first_part cells) }
      ∷ record { name = codes "b"; key = key 0x22 2; parent = Some (key 0x11 1); contents = None }
      ∷ [];
  part = Some (record { key = key 0x22 2; subvolume = second_part cells });
}

abbrev due_with : List Tagged → List Item → Option Due
due_with cells items = due_by tagged_step (unstanding_of nothing parts (key 0x22 2)) (come_by (state_with cells) (Some (key 0x22 2)) (Some (uuid 0x22)) 0) items

abbrev hole : List Tagged
hole = resized (untagged 0) size []

up_to_clone : (items : List Item) → due_by tagged_step (unstanding_of nothing parts (key 0x22 2)) (come_by (start_of (tagged_store nothing)) None None 0) (before ++ items) ≡ due_with hole items
unfolding hole_words due_by
up_to_clone items = refl

-- ---- the clone

resized_len : (n : ℕ) → length (resized (untagged 0) n []) ≡ n
unfolding resized
resized_len n = let zeros = length-replicate (n - 0) (untagged 0) in let first = length-take n (replicate (n - 0) (untagged 0)) in omega (arith, zeros, first)

all_zeros : (n : ℕ) → AllByRecursion HasNone (replicate n (untagged 0))
all_zeros zero = tt
all_zeros (suc n) = (refl, all_zeros n)

resized_none : (n : ℕ) → AllByRecursion HasNone (resized (untagged 0) n [])
unfolding resized
resized_none n = all_take HasNone n (replicate (n - 0) (untagged 0)) (all_zeros (n - 0))

abbrev cloned_with : List Tagged → Result (Cloned Tagged) Refusal
cloned_with cells = cloned (second_part cells) (Some (first_part cells)) false (clone_values (codes "k") 0 (codes "h") 0 size)

clone_taken : (cells : List Tagged) → length cells ≡ size → cloned_with cells ≡ Ok (record { ino = 258; cells = take size cells })
unfolding hole_words
clone_taken cells long =
    ap (λ (n : ℕ). refuse_if ((size == 0) || nat_lt n (0 + size)) BadRange >> (
    require (is_aligned 0 0 size n) Unaligned >> (
    require (nat_le (0 + size) greatest_end) FileTooBig >> (
    refuse_if (false && (257 == 258) && overlap 0 0 size) Overlap >> Ok (record { ino = 258; cells = take size cells }))))) long

range_is : (cells : List Tagged) → length cells ≡ size → clone_range (state_with cells) the_clone.command ≡ take size cells
unfolding hole_words
range_is cells long = ap (λ (r : Result (Cloned Tagged) Refusal). elim r as (λ x. List Tagged) [ Err refusal ↦ [] | Ok range ↦ range.cells ]) (clone_taken cells long)

not_refused : (cells : List Tagged) → length cells ≡ size → (tagged_step (state_with cells) the_clone).refusal ≡ None
unfolding hole_words
not_refused cells long =
    ap (λ (r : Result (Cloned Tagged) Refusal).
    (edited (state_with cells).store (record { key = key 0x22 2; subvolume = second_part cells }) (r >>= (λ range. Ok (change_inode range.ino (set_cells (overwritten (untagged 0) 0 range.cells)) (second_part cells))))).refusal) (clone_taken cells long)

unstanding_is : (cells : List Tagged) → length cells ≡ size → AllByRecursion HasNone cells → unstanding_of nothing parts (key 0x22 2) (state_with cells) (Some (uuid 0x22)) the_clone ≡ size
unfolding standing_pieces hole_words
unstanding_is cells long none =
    ap (λ (range : List Tagged). literal_in (pieces_by byte_in (source_of nothing (key 0x22 2) (second_part cells) 258) 0 (blocks range) ∷ [])) (range_is cells long)
    ∙ untagged_are_written (key 0x22 2) (second_part cells) 258 nothing (take size cells) (all_take HasNone size cells none) ∙ taken_len' size cells long
  where
    taken_len' : (n : ℕ) (xs : List Tagged) → length xs ≡ n → length (take n xs) ≡ n
    taken_len' n xs l = let first = length-take n xs in omega (arith, l, first)

too_much_with : (cells : List Tagged) (rest : List Item) → length cells ≡ size → AllByRecursion HasNone cells → due_with cells (the_clone ∷ rest) ≡ Some (TooMuch size)
unfolding due_by
too_much_with cells rest long none =
    let state : State Tagged = (tagged_step (state_with cells) the_clone).state in
    let others : ℕ → Option Due = λ sum. due_by tagged_step (unstanding_of nothing parts (key 0x22 2)) (come_by state (Some (key 0x22 2)) (Some (uuid 0x22)) sum) rest in
    let own : ℕ = unstanding_of nothing parts (key 0x22 2) (state_with cells) (Some (uuid 0x22)) the_clone in
    ap (λ (o : Option Refusal). then_due the_clone o false (0 + own) (others (0 + own))) (not_refused cells long)
    ∙ ap (λ (n : ℕ). then_due the_clone None false (0 + n) (others (0 + n))) (unstanding_is cells long none)

-- ---- the answer

read_due : self_due nothing (record { items = before ++ from_clone; end = Whole }) ≡ TooMuch size
unfolding hole_words
read_due = ap (λ (due : Option Due). or_due due (refused_due None)) (up_to_clone from_clone ∙ too_much_with hole (the_end ∷ []) (resized_len size) (resized_none size))

-- It is the answer of composing without the part as a source.
too_much : self_due_of (too_long hole_files) nothing (input hole_files) ≡ TooMuch 2_199_023_255_552
too_much = ap (λ (long : Option ℕ). self_due_of long nothing (input hole_files)) none_long ∙ ap (self_due nothing) hole_read ∙ read_due
