-- How long a chain is, how many bytes its clones put, and how many commands stand for it where it
-- is composed.
use Rattle.std.specs.Prelude.{◌≡◌, ℕ, zero, suc, ◌+◌, ◌*◌, ◌≤◌, Bool, true, false, List, [], ◌∷◌, ◌++◌, map, length, take, drop, Option, None, Some, Result, Ok, Err, if◌then◌else◌}
use Rattle.std.specs.List.{sum_by, flat_map, AllByRecursion}
use Rattle.std.proofs.Common.{refl, sym, ap, ◌∙◌, arith, length-append, zero-le}
use Rattle.std.proofs.lemmas.List.{length-drop, length-take, length-map}
use Rattle.std.proofs.lemmas.List.Sums.{sum_by-cons, sum_by-append}
use Rattle.send_model.specs.Command.{Command, Subvol, Snapshot, Clone, End}
use Rattle.send_model.specs.Spelling.{canonical, canonical_all, frame_of, IsSpellable}
use Rattle.send_model.specs.Reading.{Item}
use Rattle.send_model.specs.Subvolume.{Subvolume}
use Rattle.send_model.specs.Clone.{block_len, Cloned, cloned, clone_values}
use Rattle.send_model.specs.Refusal.{Refusal}
use Rattle.send_model.specs.Store.{Key, Part, Store, State, clone_source}
use Rattle.send_model.specs.Order.{commands_of}
use Rattle.send_model.specs.Provenance.{Place, Traced, Piece, Carried, Literal, place_after, same_place, carried_from, piece_of, join_piece, pieces_from, pieces_of, blocks_from, blocks, literal_len, clone_range, is_redirected, is_own, traced_step, uuid_after, ranges_from, uncarried_in}
use Rattle.send_model.specs.Composed.{write_len, writes_from, piece_commands, commands_for, composed_from}
use Rattle.send_model.specs.Generated.{first_part, later_part, parts_of}
use Rattle.std.specs.Str.{bytes_eq}
use Rattle.send_model.proofs.ElementLaws.{all_both}
use Rattle.send_model.proofs.Redirected.{cloned_facts, source_there}
use Rattle.send_model.proofs.UncarriedSums.{uncarried_split}

-- ---- the pieces of a range

-- A piece has no more bytes and no more commands than this.
abbrev weight : Piece → ℕ
weight (Literal at bytes) = length bytes
weight (Carried at place len) = 1

abbrev weights : List Piece → ℕ
weights pieces = sum_by weight pieces

joined_weight : (p : Piece) (ps : List Piece) → weights (join_piece p ps) ≤ weight p + weights ps
joined_weight (Literal at bytes) [] = let s = sum_by-cons weight (Literal at bytes) [] in omega (arith, s)
joined_weight (Literal at bytes) (Literal at' more ∷ ps) =
    let both = sum_by-cons weight (Literal at (bytes ++ more)) ps in
    let second = sum_by-cons weight (Literal at' more) ps in
    let size = length-append bytes more in
    omega (arith, both, second, size)
joined_weight (Literal at bytes) (Carried at' place len ∷ ps) = let s = sum_by-cons weight (Literal at bytes) (Carried at' place len ∷ ps) in omega (arith, s)
joined_weight (Carried at place len) [] = let s = sum_by-cons weight (Carried at place len) [] in omega (arith, s)
joined_weight (Carried at place len) (Literal at' bytes ∷ ps) = let s = sum_by-cons weight (Carried at place len) (Literal at' bytes ∷ ps) in omega (arith, s)
joined_weight (Carried at place len) (Carried at' place' len' ∷ ps) = one (same_place (place_after place len) place')
  where
    one : (b : Bool) → weights (if b then Carried at place (len + len') ∷ ps else Carried at place len ∷ Carried at' place' len' ∷ ps) ≤ 1 + weights (Carried at' place' len' ∷ ps)
    one true =
        let joined = sum_by-cons weight (Carried at place (len + len')) ps in
        let second = sum_by-cons weight (Carried at' place' len') ps in
        omega (arith, joined, second)
    one false = let s = sum_by-cons weight (Carried at place len) (Carried at' place' len' ∷ ps) in omega (arith, s)

piece_weight : (store : Store ℕ) (at : ℕ) (block : List Traced) → 1 ≤ length block → weight (piece_of store at block) ≤ length block
piece_weight store at block some = one (carried_from store block)
  where
    one : (o : Option Place) → weight (elim o [ None ↦ Literal at (map (λ c. c.byte) block) | Some place ↦ Carried at place (length block) ]) ≤ length block
    one None = let l = length-map block (λ (c : Traced). c.byte) in omega (arith, l)
    one (Some place) = some

blocks_weight : (store : Store ℕ) (n at : ℕ) (cells : List Traced) → weights (pieces_from store at (blocks_from n cells)) ≤ length cells
blocks_weight store zero at cells = zero-le
blocks_weight store (suc n) at [] = zero-le
blocks_weight store (suc n) at (c ∷ cells) =
    let block : List Traced = take block_len (c ∷ cells) in
    let rest : List Traced = drop block_len (c ∷ cells) in
    let others : List Piece = pieces_from store (at + length block) (blocks_from n rest) in
    let first = length-take block_len (c ∷ cells) in
    let left = length-drop block_len (c ∷ cells) in
    let one = piece_weight store at block (omega (arith, first)) in
    let more = blocks_weight store n (at + length block) rest in
    let joined = joined_weight (piece_of store at block) others in
    omega (arith, first, left, one, more, joined)

range_weight : (store : Store ℕ) (range : List Traced) → weights (pieces_of store range) ≤ length range
unfolding pieces_of blocks
range_weight store range = blocks_weight store (length range) 0 range

literal_weight : (ps : List Piece) → sum_by literal_len ps ≤ weights ps
literal_weight [] = zero-le
literal_weight (Literal at bytes ∷ ps) =
    let a = sum_by-cons literal_len (Literal at bytes) ps in
    let b = sum_by-cons weight (Literal at bytes) ps in
    let more = literal_weight ps in
    omega (arith, a, b, more)
literal_weight (Carried at place len ∷ ps) =
    let a = sum_by-cons literal_len (Carried at place len) ps in
    let b = sum_by-cons weight (Carried at place len) ps in
    let more = literal_weight ps in
    omega (arith, a, b, more)

writes_few : (n : ℕ) (path : List ℕ) (offset : ℕ) (bytes : List ℕ) → length (writes_from n path offset bytes) ≤ n
writes_few zero path offset bytes = zero-le
writes_few (suc n) path offset [] = zero-le
writes_few (suc n) path offset (b ∷ bytes) = let more = writes_few n path (offset + write_len) (drop write_len (b ∷ bytes)) in omega (arith, more)

piece_few : (store : Store ℕ) (path : List ℕ) (offset : ℕ) (p : Piece) → length (piece_commands store path offset p) ≤ weight p
piece_few store path offset (Literal at bytes) = writes_few (length bytes) path (offset + at) bytes
piece_few store path offset (Carried at place len) = omega arith

pieces_few : (store : Store ℕ) (path : List ℕ) (offset : ℕ) (ps : List Piece) → length (flat_map (piece_commands store path offset) ps) ≤ weights ps
pieces_few store path offset [] = zero-le
pieces_few store path offset (p ∷ ps) =
    let a = length-append (piece_commands store path offset p) (flat_map (piece_commands store path offset) ps) in
    let b = sum_by-cons weight p ps in
    let one = piece_few store path offset p in
    let more = pieces_few store path offset ps in
    omega (arith, a, b, one, more)

-- ---- clones

-- The bytes that a command clones.
abbrev pub cloned_by : Command → ℕ
cloned_by (Clone path offset clone_uuid clone_ctransid clone_path clone_offset clone_len) = clone_len
cloned_by c = 0

abbrev pub cloned_in : List Command → ℕ
cloned_in cs = sum_by cloned_by cs

cells_few : (part : Subvolume Traced) (source : Option (Subvolume Traced)) (own : Bool) (path : List ℕ) (offset : ℕ) (clone_path : List ℕ) (from len : ℕ) (r : Result (Cloned Traced) Refusal)
    → cloned part source own (clone_values path offset clone_path from len) ≡ r → length (elim r as (λ x. List Traced) [ Err refusal ↦ [] | Ok range ↦ range.cells ]) ≤ len
cells_few part source own path offset clone_path from len (Err refusal) e = zero-le
cells_few part source own path offset clone_path from len (Ok range) e =
    let s = source_there part source own path offset clone_path from len range e in
    let f = cloned_facts part s.0 own path offset clone_path from len range (ap (λ (o : Option (Subvolume Traced)). cloned part o own (clone_values path offset clone_path from len)) (sym s.1) ∙ e) in
    let l = f.length_is in
    omega (arith, l)

range_few : (state : State Traced) (c : Command) → length (clone_range state c) ≤ cloned_by c
unfolding clone_range
range_few state (Clone path offset clone_uuid clone_ctransid clone_path clone_offset clone_len) = one state.part
  where
    one : (o : Option (Part Traced)) → length (elim o as (λ x. List Traced) [
      | None ↦ []
      | Some part ↦ elim (cloned part.subvolume (clone_source state.store part (record { uuid = clone_uuid; ctransid = clone_ctransid }))
          (bytes_eq clone_uuid part.key.uuid) (clone_values path offset clone_path clone_offset clone_len)) as (λ x. List Traced) [
            | Err refusal ↦ []
            | Ok range ↦ range.cells
          ]
    ]) ≤ clone_len
    one None = zero-le
    one (Some part) = cells_few part.subvolume (clone_source state.store part (record { uuid = clone_uuid; ctransid = clone_ctransid })) (bytes_eq clone_uuid part.key.uuid) path offset clone_path clone_offset clone_len _ refl
range_few state c = zero-le

-- The uncarried bytes of redirected clones are no more than what is cloned.
pub uncarried_few : (base : Store ℕ) (parts : List (List ℕ)) (items : List Item) (state : State Traced) (current : Option (List ℕ)) → uncarried_in base (ranges_from parts state current items) ≤ cloned_in (commands_of items)
unfolding ranges_from
uncarried_few base parts [] state current = zero-le
uncarried_few base parts (item ∷ items) state current =
    let split = uncarried_split base parts state current item items in
    let more = uncarried_few base parts items (traced_step state item).state (uuid_after current item.command) in
    let all = sum_by-cons cloned_by item.command (commands_of items) in
    let here = one (is_redirected parts current item.command) in
    omega (arith, split, more, all, here)
  where
    one : (b : Bool) → (if b then uncarried_in base (clone_range state item.command ∷ []) else 0) ≤ cloned_by item.command
    one true =
        let range : List Traced = clone_range state item.command in
        let alone = sum_by-cons (λ (ps : List Piece). sum_by literal_len ps) (pieces_of base range) [] in
        let a = literal_weight (pieces_of base range) in
        let b = range_weight base range in
        let c = range_few state item.command in
        omega (arith, alone, a, b, c)
    one false = zero-le

-- ---- commands that stand for others

chosen_few : (o r : Bool) (a b : Command) (ps : List Command) (n : ℕ) → length ps ≤ n → length (if o then a ∷ [] else (if r then ps else b ∷ [])) ≤ 1 + n
chosen_few true r a b ps n few = omega arith
chosen_few false true a b ps n few = omega (arith, few)
chosen_few false false a b ps n few = omega arith

stands_few : (base : Store ℕ) (parts : List (List ℕ)) (last : Key) (state : State Traced) (current : Option (List ℕ)) (c : Command) → length (commands_for base parts last state current c) ≤ 1 + cloned_by c
stands_few base parts last state current (Clone path offset clone_uuid clone_ctransid clone_path clone_offset clone_len) =
    let c : Command = Clone path offset clone_uuid clone_ctransid clone_path clone_offset clone_len in
    let pieces = pieces_few base path offset (pieces_of base (clone_range state c)) in
    let range = range_weight base (clone_range state c) in
    let cells = range_few state c in
    chosen_few (is_own current clone_uuid) (is_redirected parts current c) (Clone path offset last.uuid last.ctransid clone_path clone_offset clone_len) c (flat_map (piece_commands base path offset) (pieces_of base (clone_range state c))) clone_len (omega (arith, pieces, range, cells))
stands_few base parts last state current End = omega arith
stands_few base parts last state current (Subvol uuid ctransid path) = omega arith
stands_few base parts last state current (Snapshot uuid ctransid path clone_uuid clone_ctransid) = omega arith
stands_few base parts last state current c = omega arith

-- What is composed has no more commands than it stands for, and bytes that are cloned.
pub composed_few : (base : Store ℕ) (parts : List (List ℕ)) (last : Key) (items : List Item) (state : State Traced) (current : Option (List ℕ))
    → length (composed_from base parts last state current items) ≤ length items + cloned_in (commands_of items)
unfolding composed_from
composed_few base parts last [] state current = zero-le
composed_few base parts last (item ∷ items) state current =
    let here = stands_few base parts last state current item.command in
    let more = composed_few base parts last items (traced_step state item).state (uuid_after current item.command) in
    let all = sum_by-cons cloned_by item.command (commands_of items) in
    let both = length-append (commands_for base parts last state current item.command) (composed_from base parts last (traced_step state item).state (uuid_after current item.command) items) in
    omega (arith, here, more, all, both)

-- ---- bytes of commands

command_short : (version : ℕ) (c : Command) → IsSpellable version c → length (canonical version c) ≤ 262_154
unfolding canonical frame_of
command_short version c s = let short = s.short in omega (arith, short)

pub commands_short : (version : ℕ) (cs : List Command) → AllByRecursion (IsSpellable version) cs → length (canonical_all version cs) ≤ 262_154 * length cs
unfolding canonical_all
commands_short version [] all = zero-le
commands_short version (c ∷ cs) all =
    let both = length-append (canonical version c) (canonical_all version cs) in
    let one = command_short version c all.0 in
    let more = commands_short version cs all.1 in
    omega (arith, both, one, more)

-- ---- the parts of a chain

-- A part has few commands and clones few bytes, and its writes are short.
pub record IsFew (part : List Command) : Type 0 where
  pub commands : length part ≤ 18
  pub clones : cloned_in part ≤ 4_096

first_few : (seed : ℕ) → IsFew (first_part seed)
unfolding first_part
first_few seed = record { commands = omega arith; clones = omega arith }

later_few : (seed part : ℕ) → IsFew (later_part seed part)
unfolding later_part
later_few seed part = record { commands = omega arith; clones = omega arith }

pub parts_few : (seed count : ℕ) → AllByRecursion IsFew (parts_of seed count)
unfolding parts_of
parts_few seed zero = tt
parts_few seed (suc zero) = (first_few seed, tt)
parts_few seed (suc (suc count)) = all_both IsFew (parts_of seed (suc count)) (later_part seed (suc (suc count)) ∷ []) (parts_few seed (suc count)) (later_few seed (suc (suc count)), tt)

pub parts_counted : (seed count : ℕ) → length (parts_of seed count) ≡ count
unfolding parts_of
parts_counted seed zero = refl
parts_counted seed (suc zero) = refl
parts_counted seed (suc (suc count)) =
    let both = length-append (parts_of seed (suc count)) (later_part seed (suc (suc count)) ∷ []) in
    let more = parts_counted seed (suc count) in
    omega (arith, both, more)

abbrev all_of : List (List Command) → List Command
all_of parts = flat_map (λ part. part) parts

few_commands : (parts : List (List Command)) → AllByRecursion IsFew parts → length (all_of parts) ≤ 18 * length parts
few_commands [] all = zero-le
few_commands (part ∷ parts) all =
    let both = length-append part (all_of parts) in
    let one = all.0.commands in
    let more = few_commands parts all.1 in
    omega (arith, both, one, more)

few_clones : (parts : List (List Command)) → AllByRecursion IsFew parts → cloned_in (all_of parts) ≤ 4_096 * length parts
few_clones [] all = zero-le
few_clones (part ∷ parts) all =
    let both = sum_by-append cloned_by part (all_of parts) in
    let one = all.0.clones in
    let more = few_clones parts all.1 in
    omega (arith, both, one, more)

pub chain_commands : (seed count : ℕ) → count ≤ 4_096 → length (all_of (parts_of seed count)) ≤ 73_728
chain_commands seed count few = let n = parts_counted seed count in let l = few_commands (parts_of seed count) (parts_few seed count) in omega (arith, few, n, l)

pub chain_clones : (seed count : ℕ) → count ≤ 4_096 → cloned_in (all_of (parts_of seed count)) ≤ 16_777_216
chain_clones seed count few = let n = parts_counted seed count in let l = few_clones (parts_of seed count) (parts_few seed count) in omega (arith, few, n, l)
