-- Buffers with the bytes of cells.
use Rattle.std.specs.Prelude.{◌≡◌, ℕ, zero, suc, ◌+◌, ◌-◌, ◌<◌, ◌≤◌, List, [], ◌∷◌, ◌++◌, map, length, take, drop, get_or, slice_index_or, Option, Some, None, Result, Ok, Err, String}
use Rattle.std.specs.List.{AllByRecursion, range_with_len}
use Rattle.std.specs.String.{string_bytes}
use Rattle.std.proofs.Common.{refl, sym, ap, subst, ◌∙◌, arith}
use Rattle.std.proofs.lemmas.List.{length-take, length-drop, get_or-take, get_or-drop}
use Rattle.std.proofs.lemmas.List.FromFn.{fill_by_all}
use borrow.Rule.Slice.PartMut.{put_mid}
use lib.ListN.{replicate}
use Rattle.send_model.specs.Store as meant
use Rattle.send_model.proofs.ElementLaws.{all_first, all_drop}
use Rattle.sx_base.specs.Again.{LiesIn, EarlyEnd}
use Rattle.sx_base.specs.Asks.{IsData, AreData}
use Rattle.sx_base.specs.Outside.{file_at}
use Rattle.sx_base.specs.Calls.{contents, IfAllTold}
use Rattle.subvol_catalog.specs.declared.key.Key.{Key}
use Rattle.subvol_catalog.specs.Entries.{key_of}
use Rattle.extent_map.specs.Pieces.{piece_cells}
use Rattle.extent_map.proofs.Layouts.{length-piece, get_or-run}
use Rattle.extent_map.proofs.PieceByPiece as by_piece
use Rattle.extent_map.proofs.PieceByPiece.{run_bytes, hole_bytes}
use Rattle.provenance.specs.declared.trace.Trace.{Trace}
use Rattle.provenance.specs.declared.trace.Trace.TheVariants.{Fresh, Outside}
use Rattle.provenance.specs.Traces.{advanced_by}
use Rattle.clone_pieces.specs.Origins.{IsInInput, AreAsLong}
use Rattle.clone_pieces.specs.Filling.{byte_in, IsHadIn, PieceHad, PieceThere, FillEnd, AgainEnd}
use Rattle.clone_pieces.specs.Redirecting.{RedirectChanged}
use Rattle.clone_pieces.specs.declared.stops.SendStop.{SendStop}
use Rattle.clone_pieces.specs.declared.stops.SendStop.TheVariants as stop
use Rattle.clone_pieces.proofs.Told.{all_always, all_map, all_two, told_moved, name_at, count_names, told_file}
use Rattle.clone_pieces.proofs.Lengths.{piece_as_long}

-- ---- the cells of a piece

all_at : {A : Type 0} (P : A → Type 0) (xs : List A) (k : ℕ) (d : A) → k < length xs → AllByRecursion P xs → P (get_or xs k d)
all_at P [] k d lt all = absurd (omega (arith, lt))
all_at P (x ∷ xs) zero d lt all = all.0
all_at P (x ∷ xs) (suc k) d lt all = all_at P xs k d (omega (arith, lt)) all.1

module _ (whole : List (Option Trace)) (have n : ℕ) (rest : List (Option Trace)) (some : 0 < n) where
  -- A cell of a run, and its last.
  piece_at : (P : Option Trace → Type 0) (t : Trace) → drop have whole ≡ piece_cells advanced_by (Some t) n ++ rest → AllByRecursion P whole → (k : ℕ) → k < n → P (Some (advanced_by t k))
  piece_at P t is all k less =
      let cells : List (Option Trace) = piece_cells advanced_by (Some t) n in
      let front : AllByRecursion P cells = all_first P cells rest (subst (λ (l : List (Option Trace)). AllByRecursion P l) is (all_drop P have whole all)) in
      subst P (get_or-run advanced_by t n k less) (all_at P cells k None (let l = length-piece advanced_by (Some t) n in omega (arith, less, l)) front)

  piece_cell : (P : Option Trace → Type 0) (t : Trace) → drop have whole ≡ piece_cells advanced_by (Some t) n ++ rest → AllByRecursion P whole → P (Some (advanced_by t (n - 1)))
  piece_cell P t is all = piece_at P t is all (n - 1) (omega (arith, some))

  pub piece_had : (count : ℕ) (held : meant.Key → ℕ → List ℕ) (origin : Option Trace) → drop have whole ≡ piece_cells advanced_by origin n ++ rest → AllByRecursion (IsHadIn count held) whole → PieceHad count held origin n
  piece_had count held None is all = tt
  piece_had count held (Some (Fresh file at)) is all = piece_cell (IsHadIn count held) (Fresh file at) is all
  piece_had count held (Some (Outside key ino at)) is all = let last = piece_cell (IsHadIn count held) (Outside key ino at) is all in omega (arith, last, some)

  pub piece_there : (origin : Option Trace) → drop have whole ≡ piece_cells advanced_by origin n ++ rest → (files : List (List ℕ)) → AllByRecursion (IsInInput files) whole → PieceThere origin n files
  piece_there None is files all = tt
  piece_there (Some (Fresh file at)) is files all =
      let last = (piece_cell (IsInInput files) (Fresh file at) is all).0 in
      (omega (arith, last, some), (λ k less. (piece_at (IsInInput files) (Fresh file at) is all k less).1))
  piece_there (Some (Outside key ino at)) is files all = tt

-- ---- the bytes of a piece

file_bytes : (xs : List ℕ) (at len : ℕ) → at + len ≤ length xs → take len (drop at xs) ≡ map (λ k. get_or xs (at + k) 0) (range_with_len 0 len)
file_bytes xs at len fits = fill_by_all (λ k. get_or xs (at + k) 0) (take len (drop at xs)) len 0
    (let l = length-take len (drop at xs) in let d = length-drop at xs in omega (arith, l, d, fits))
    (λ k lt. get_or-take len (drop at xs) k 0 lt ∙ get_or-drop at xs k 0)

module _ (held : meant.Key → ℕ → List ℕ) (files : List (List ℕ)) where
  fresh_bytes : (file at len : ℕ) → at + len ≤ length (get_or files file []) → map (byte_in held files) (piece_cells advanced_by (Some (Fresh file at)) len) ≡ take len (drop at (get_or files file []))
  fresh_bytes file at len fits = run_bytes advanced_by (byte_in held files) (Fresh file at) len ∙ sym (file_bytes (get_or files file []) at len fits)

  outside_bytes : (key : Key) (ino at len : ℕ) → at + len ≤ length (held (key_of key) ino) → map (byte_in held files) (piece_cells advanced_by (Some (Outside key ino at)) len) ≡ take len (drop at (held (key_of key) ino))
  outside_bytes key ino at len fits = run_bytes advanced_by (byte_in held files) (Outside key ino at) len ∙ sym (file_bytes (held (key_of key) ino) at len fits)

-- Zero bytes.
pub zeroed : (told : Option (List (List ℕ × List ℕ))) (names : List (List ℕ)) (held : meant.Key → ℕ → List ℕ) (origin : Option Trace) (len : ℕ) (new : List ℕ) → origin ≡ None → new ≡ replicate len 0
    → IfAllTold told names (FillEnd held (piece_cells advanced_by origin len) new (Ok tt))
zeroed told names held origin len new is zeros = all_always told names (FillEnd held (piece_cells advanced_by origin len) new (Ok tt))
    (λ files. zeros ∙ sym (hole_bytes advanced_by (byte_in held files) refl len) ∙ ap (λ (o : Option Trace). map (byte_in held files) (piece_cells advanced_by o len)) (sym is))

-- Bytes of a file that is held.
pub held_filled : (told : Option (List (List ℕ × List ℕ))) (names : List (List ℕ)) (count : ℕ) (held : meant.Key → ℕ → List ℕ) (origin : Option Trace) (key : Key) (ino at len : ℕ) (new : List ℕ) → origin ≡ Some (Outside key ino at)
    → PieceHad count held origin len → length new ≡ len → new ≡ take (length new) (drop at (held (key_of key) ino)) → IfAllTold told names (FillEnd held (piece_cells advanced_by origin len) new (Ok tt))
held_filled told names count held origin key ino at len new is had long filled =
    let fits : at + len ≤ length (held (key_of key) ino) = subst (λ (o : Option Trace). PieceHad count held o len) is had in
    all_always told names (FillEnd held (piece_cells advanced_by origin len) new (Ok tt))
    (λ files. filled ∙ ap (λ (n : ℕ). take n (drop at (held (key_of key) ino))) long ∙ sym (outside_bytes held files key ino at len fits)
    ∙ ap (λ (o : Option Trace). map (byte_in held files) (piece_cells advanced_by o len)) (sym is))

-- Bytes of an input file: which they are, and that they can be read again.
module _ {Z : Type 0} (names : List (String Z)) (held : meant.Key → ℕ → List ℕ) (origin : Option Trace) (file at len : ℕ) (name : String Z) (spelled : List ℕ)
    (origin_is : origin ≡ Some (Fresh file at)) (had : PieceHad (length names) held origin len) (name_is : name ≡ slice_index_or names file name) (spelling : spelled ≡ string_bytes name) where
  pub file_less : file < length names
  file_less = subst (λ (o : Option Trace). PieceHad (length names) held o len) origin_is had

  there_is : (table : List (List ℕ × List ℕ)) → PieceThere origin len (contents table (map string_bytes names)) → at + len ≤ length (get_or (contents table (map string_bytes names)) file [])
  there_is table there = (subst (λ (o : Option Trace). PieceThere o len (contents table (map string_bytes names))) origin_is there).0

  named_bytes : (table : List (List ℕ × List ℕ)) → get_or (contents table (map string_bytes names)) file [] ≡ file_at table spelled
  named_bytes table = told_file table names file name file_less name_is ∙ ap (file_at table) (sym spelling)

  pub lies_again : (told : Option (List (List ℕ × List ℕ))) → IfAllTold told (map string_bytes names) (PieceThere origin len) → LiesIn told spelled at len
  lies_again None there = tt
  lies_again (Some table) there = subst (λ (l : List ℕ). at + len ≤ length l) (named_bytes table) (there_is table there)

  pub data_again : (told : Option (List (List ℕ × List ℕ))) → IfAllTold told (map string_bytes names) (PieceThere origin len) → AreData told (file + 1) spelled at len
  data_again None there = tt
  data_again (Some table) there =
      let own = (subst (λ (o : Option Trace). PieceThere o len (contents table (map string_bytes names))) origin_is there).1 in
      λ k less. subst (λ (bytes : List ℕ). IsData (file + 1) bytes (at + k)) (named_bytes table) (own k less)

  pub again_filled : (told : Option (List (List ℕ × List ℕ))) (new : List ℕ) (result : Result (Unit {0}) SendStop) → IfAllTold told (map string_bytes names) (PieceThere origin len) → length new ≡ len → AgainEnd told spelled at new result
      → IfAllTold told (map string_bytes names) (FillEnd held (piece_cells advanced_by origin len) new result)
  again_filled None new result there long filled = tt
  again_filled (Some table) new (Ok done) there long filled =
      let files : List (List ℕ) = contents table (map string_bytes names) in
      filled ∙ ap (λ (n : ℕ). take n (drop at (file_at table spelled))) long ∙ ap (λ (l : List ℕ). take len (drop at l)) (sym (named_bytes table))
      ∙ sym (fresh_bytes held files file at len (there_is table there)) ∙ ap (λ (o : Option Trace). map (byte_in held files) (piece_cells advanced_by o len)) (sym origin_is)
  again_filled (Some table) new (Err stop.InputFault) there long filled = tt
  again_filled (Some table) new (Err (stop.InputChanged file' place)) there long filled = absurd (let e : Some table ≡ None = filled in cc)
  again_filled (Some table) new (Err stop.OutputFault) there long filled = absurd filled
  again_filled (Some table) new (Err stop.NoMemory) there long filled = absurd filled

  -- What holds of each list in which the file has this name holds of the names.
  pub again_named : (P : List (List ℕ) → Type 0) → ((spellings : List (List ℕ)) → file < length spellings → spelled ≡ get_or spellings file [] → P spellings) → P (map string_bytes names)
  again_named P found = found (map string_bytes names) (count_names names file file_less) (name_at names file name spelled file_less name_is spelling)

  -- A file that was found changed is one of the names.
  pub again_changed : (last : EarlyEnd) (result : Result (Unit {0}) SendStop) → ((spellings : List (List ℕ)) → file < length spellings → spelled ≡ get_or spellings file [] → RedirectChanged spellings last result)
      → RedirectChanged (map string_bytes names) last result
  again_changed last result found = again_named (λ spellings. RedirectChanged spellings last result) found

-- ---- piece by piece

-- The front of a buffer has the bytes of the front of the cells.
abbrev pub FilledTo : (meant.Key → ℕ → List ℕ) → List (Option Trace) → ℕ → List ℕ → List (List ℕ) → Type 0
FilledTo held whole have buf files = by_piece.FilledTo (byte_in held files) whole have buf

-- ---- a turn of the loop

module _ (told now : Option (List (List ℕ × List ℕ))) (names : List (List ℕ)) (held held' : meant.Key → ℕ → List ℕ) (same : now ≡ told)
    (whole : List (Option Trace)) (have n : ℕ) (origin : Option Trace) (rest : List (Option Trace)) (is : drop have whole ≡ piece_cells advanced_by origin n ++ rest) (some : 0 < n) (size : ℕ) (size_is : size ≡ n) where
  pub turn_had : AreAsLong held' held → (count : ℕ) → AllByRecursion (IsHadIn count held) whole → PieceHad count held' origin size
  turn_had long count all = piece_as_long count held' held long origin size (subst (λ (m : ℕ). PieceHad count held origin m) (sym size_is) (piece_had whole have n rest some count held origin is all))

  pub turn_there : IfAllTold told names (λ files. AllByRecursion (IsInInput files) whole) → IfAllTold now names (PieceThere origin size)
  turn_there there = told_moved now told names (PieceThere origin size) (sym same)
      (all_map told names (λ files. AllByRecursion (IsInInput files) whole) (PieceThere origin size) (λ files all. subst (λ (m : ℕ). PieceThere origin m files) (sym size_is) (piece_there whole have n rest some origin is files all)) there)

  pub turn_filled : held' ≡ held → (k : ℕ) → k ≡ n → (old new : List ℕ) → have ≤ length old → IfAllTold told names (FilledTo held whole have old) → IfAllTold now names (FillEnd held' (piece_cells advanced_by origin size) new (Ok tt))
      → IfAllTold told names (FilledTo held whole (have + n) (put_mid have k old new))
  turn_filled kept k k_is old new within so_far filled =
      all_two told names (FilledTo held whole have old) (FillEnd held' (piece_cells advanced_by origin size) new (Ok tt)) (FilledTo held whole (have + n) (put_mid have k old new))
      (λ files before here. by_piece.filled_more advanced_by whole have n origin rest is (byte_in held files) old new k size k_is size_is within before
      (here ∙ ap (λ (h : meant.Key → ℕ → List ℕ). map (byte_in h files) (piece_cells advanced_by origin size)) kept))
      so_far (told_moved told now names (FillEnd held' (piece_cells advanced_by origin size) new (Ok tt)) same filled)
