-- Fates, from the places that live in a range, up to those of a whole log.
use Rattle.std.specs.Prelude.{◌≡◌, ℕ, zero, suc, ◌+◌, ◌-◌, ◌<◌, ◌≤◌, Bool, true, false, not, ◌&&◌, List, [], ◌∷◌, ◌++◌, length, drop, min, Option, None, Some, nat_lt, is_some, if◌then◌else◌, ◌⊎◌}
use Rattle.std.specs.List.{list_all, range_with_len}
use Rattle.std.specs.Option.{option_to_list}
use Rattle.std.specs.BTreeMap.{BTreeMap, get}
use Rattle.std.specs.Ordering.{nat_cmp}
use Rattle.std.proofs.Common.{refl, sym, ap, ap₂, ◌∙◌, arith, append_assoc, length-append, inl, inr}
use Rattle.std.proofs.lemmas.Bool.{cases_eq, cases_lt}
use Rattle.std.proofs.lemmas.List.{append-nil, take_all}
use Rattle.extent_map.specs.Cells.{cells_between}
use Rattle.extent_map.specs.Pieces.{piece_cells}
use Rattle.extent_map.specs.declared.nowhere.Nowhere.{Nowhere}
use Rattle.extent_map.proofs.CellLists.{length-between}
use Rattle.extent_map.proofs.PieceByPiece.{reaches, all_had}
use Rattle.squash_model.specs.Liveness.{Living}
use Rattle.squash_log.specs.declared.change.FileRange.{FileRange}
use Rattle.squash_log.specs.declared.change.Change.{Change}
use Rattle.squash_log.specs.declared.fate.Span.{Span}
use Rattle.squash_log.specs.declared.fates.Mark.TheVariants as mark
use Rattle.squash_log.specs.Changes.{before, before_all}
use Rattle.squash_log.specs.Cells.{Cells, cell_lives, lives_from, lives_by, lives_in, IsSameLiving}
use Rattle.squash_log.specs.Fates.{Fate, Whole, Parts, spans, fate_by, fate_in, own_fate, fates_of}
use Rattle.squash_log.specs.Stacks.{grown, IsMarked}
use Rattle.squash_log.proofs.KeptCells.{piece_at, between_read, past_dead}
use Rattle.squash_log.proofs.SpanRuns.{left_spans, spans_from_start, left_run, left_hole, left_dead}

-- ---- all bytes of a range

all_yes_from : (f : ℕ → Bool) (n at : ℕ) → ((k : ℕ) → at ≤ k → k < at + n → f k ≡ true) → list_all f (range_with_len at n) ≡ true
all_yes_from f zero at h = refl
all_yes_from f (suc n) at h = ap (λ (b : Bool). b && list_all f (range_with_len (at + 1) n)) (h at (omega arith) (omega arith)) ∙ all_yes_from f n (at + 1) (λ k low high. h k (omega (arith, low)) (omega (arith, high)))

all_no_from : (f : ℕ → Bool) (n at k : ℕ) → at ≤ k → k < at + n → f k ≡ false → list_all f (range_with_len at n) ≡ false
all_no_from f zero at k low high dead = absurd (omega (arith, low, high))
all_no_from f (suc n) at k low high dead = elim (cases_eq at k) [
  | inl e ↦ ap (λ (b : Bool). b && list_all f (range_with_len (at + 1) n)) (ap f e ∙ dead)
  | inr ne ↦ ap (λ (b : Bool). f at && b) (all_no_from f n (at + 1) k (omega (arith, low, ne)) (omega (arith, high)) dead) ∙ none (f at)
]
  where
    none : (b : Bool) → (b && false) ≡ false
    none true = refl
    none false = refl

pub all_yes : (f : ℕ → Bool) (n : ℕ) → ((k : ℕ) → k < n → f k ≡ true) → list_all f (range_with_len 0 n) ≡ true
all_yes f n h = all_yes_from f n 0 (λ k low high. h k (omega (arith, high)))

pub all_no : (f : ℕ → Bool) (n k : ℕ) → k < n → f k ≡ false → list_all f (range_with_len 0 n) ≡ false
all_no f n k h dead = all_no_from f n 0 k (omega arith) (omega (arith, h)) dead

-- An empty range lives as a whole.
pub some_left : (f : ℕ → Bool) (n : ℕ) → list_all f (range_with_len 0 n) ≡ false → 0 < n
some_left f zero e = cc
some_left f (suc n) e = omega arith

-- ---- pieces of a range

-- Behind the cells nothing lives.
pub behind_dead : (cells : Cells) (at k : ℕ) → length cells ≤ at + k → lives_from cells at k ≡ false
behind_dead cells at k h = past_dead cells (at + k) h

-- A place of a piece.
pub place_in : (advanced : Nowhere → ℕ → Nowhere) (cells : Cells) (at len have n : ℕ) (origin : Option Nowhere) (rest : Cells)
    → drop have (cells_between at len cells) ≡ piece_cells advanced origin n ++ rest → (k : ℕ) → have ≤ k → k < have + n → k < len
    → lives_from cells at k ≡ is_some origin
place_in advanced cells at len have n origin rest is k low high within =
    ap (λ (o : Option Nowhere). is_some o) (sym (between_read at len k cells within)) ∙ piece_at advanced (cells_between at len cells) have n origin rest is k low high

pub piece_ends : (advanced : Nowhere → ℕ → Nowhere) (cells : Cells) (at len have n : ℕ) (origin : Option Nowhere) (rest : Cells) → at + len ≤ length cells
    → drop have (cells_between at len cells) ≡ piece_cells advanced origin n ++ rest → 0 < n → have + n ≤ len
piece_ends advanced cells at len have n origin rest within is some =
    let r = reaches advanced (cells_between at len cells) have n origin rest is some in
    let l = length-between at len cells within in
    omega (arith, r, l)

pub pieces_end : (cells : Cells) (at len have : ℕ) → at + len ≤ length cells → drop have (cells_between at len cells) ≡ [] → len ≤ have
pieces_end cells at len have within none =
    let r = all_had (cells_between at len cells) have none in
    let l = length-between at len cells within in
    omega (arith, r, l)

-- A piece at one place.
pub one_piece : (advanced : Nowhere → ℕ → Nowhere) (cells : Cells) (at k n : ℕ) (origin : Option Nowhere) (rest : Cells)
    → cells_between (at + k) 1 cells ≡ piece_cells advanced origin n ++ rest → 0 < n → lives_from cells at k ≡ is_some origin
one_piece advanced cells at k n origin rest is some =
    let e : at + k + 0 ≡ at + k = omega arith in
    ap (λ (p : ℕ). cell_lives cells p) (sym e) ∙ place_in advanced cells (at + k) 1 0 n origin rest is 0 (omega arith) (omega (arith, some)) (omega arith)

-- A piece that lives, and one that does not.
pub run_left : (advanced : Nowhere → ℕ → Nowhere) (cells : Cells) (at len have n whole : ℕ) (origin : Option Nowhere) (rest : Cells) (begun : Option Span) → at + len ≤ length cells → len ≤ whole
    → drop have (cells_between at len cells) ≡ piece_cells advanced origin n ++ rest → 0 < n → is_some origin ≡ true
    → left_spans (lives_from cells at) begun have (whole - have) ≡ left_spans (lives_from cells at) (Some (grown begun have n)) (have + n) (whole - (have + n))
run_left advanced cells at len have n whole origin rest begun within fits is some lives =
    let ends = piece_ends advanced cells at len have n origin rest within is some in
    let e : whole - have ≡ n + (whole - (have + n)) = omega (arith, ends, fits) in
    ap (λ (k : ℕ). left_spans (lives_from cells at) begun have k) e
    ∙ left_run (lives_from cells at) n begun have (whole - (have + n)) (λ k low high. place_in advanced cells at len have n origin rest is k low high (omega (arith, high, ends)) ∙ lives) some

pub hole_left : (advanced : Nowhere → ℕ → Nowhere) (cells : Cells) (at len have n whole : ℕ) (origin : Option Nowhere) (rest : Cells) (begun : Option Span) → at + len ≤ length cells → len ≤ whole
    → drop have (cells_between at len cells) ≡ piece_cells advanced origin n ++ rest → 0 < n → is_some origin ≡ false
    → left_spans (lives_from cells at) begun have (whole - have) ≡ option_to_list begun ++ left_spans (lives_from cells at) None (have + n) (whole - (have + n))
hole_left advanced cells at len have n whole origin rest begun within fits is some dead =
    let ends = piece_ends advanced cells at len have n origin rest within is some in
    let e : whole - have ≡ n + (whole - (have + n)) = omega (arith, ends, fits) in
    ap (λ (k : ℕ). left_spans (lives_from cells at) begun have k) e
    ∙ left_hole (lives_from cells at) n begun have (whole - (have + n)) (λ k low high. place_in advanced cells at len have n origin rest is k low high (omega (arith, high, ends)) ∙ dead) some

-- What is left behind the pieces does not live.
pub end_left : (cells : Cells) (at len have whole : ℕ) (begun : Option Span) → len ≡ min whole (length cells - at) → at < length cells → len ≤ have → have ≤ len
    → left_spans (lives_from cells at) begun have (whole - have) ≡ option_to_list begun
end_left cells at len have whole begun len_is some low high = elim (cases_lt whole (length cells - at)) [
  | inl lt ↦
      let e : whole - have ≡ 0 = omega (arith, lt, len_is, low) in
      ap (λ (k : ℕ). left_spans (lives_from cells at) begun have k) e
  | inr le ↦ left_dead (lives_from cells at) (whole - have) begun have (λ k h. behind_dead cells at k (omega (arith, h, le, len_is, low, some)))
]

-- Nothing of a range behind the cells lives.
pub none_left : (cells : Cells) (at len : ℕ) → length cells ≤ at → spans (lives_from cells at) 0 len ≡ []
none_left cells at len h = sym (spans_from_start (lives_from cells at) len) ∙ left_dead (lives_from cells at) len None 0 (λ k low. behind_dead cells at k (omega (arith, h)))

-- ---- marks

pub whole_mark : (f : ℕ → Bool) (r : FileRange) (old new : List Span) → list_all f (range_with_len 0 r.len) ≡ true → new ≡ old → IsMarked (fate_by f r) old new mark.Whole
whole_mark f r old new all same = record {
  added = [];
  new_is = same ∙ sym (append-nil old);
  count_is = refl;
  fate_is = sym (ap (λ (b : Bool). if b then Whole else Parts (spans f 0 r.len) (nat_lt r.size (r.at + r.len) && not (f (r.len - 1)))) all);
}

pub parts_mark : (f : ℕ → Bool) (r : FileRange) (old new : List Span) (count : ℕ) (lengthens : Bool) → list_all f (range_with_len 0 r.len) ≡ false → new ≡ old ++ spans f 0 r.len
    → count ≡ length new - length old → lengthens ≡ (nat_lt r.size (r.at + r.len) && not (f (r.len - 1))) → IsMarked (fate_by f r) old new (mark.Parts count lengthens)
parts_mark f r old new count lengthens all new_is count_is longer =
    let n : count ≡ length (spans f 0 r.len) = let e = ap length new_is in omega (arith, count_is, e, length-append old (spans f 0 r.len)) in
    record {
      added = spans f 0 r.len;
      new_is = new_is;
      count_is = n;
      fate_is = ap₂ (λ (l : List Span) (b : Bool). Parts l b) (take_all count (spans f 0 r.len) (omega (arith, n))) longer
          ∙ sym (ap (λ (b : Bool). if b then Whole else Parts (spans f 0 r.len) (nat_lt r.size (r.at + r.len) && not (f (r.len - 1)))) all);
    }

-- Of a file of which nothing is known, all lives or nothing.
pub unknown_mark : (f : ℕ → Bool) (there : Bool) → ((k : ℕ) → f k ≡ there) → (r : FileRange) (old new : List Span) → (r.len ≡ 0) ⊎ (there ≡ true) → new ≡ old → IsMarked (fate_by f r) old new mark.Whole
unknown_mark f there is r old new (inl none) same = whole_mark f r old new (ap (λ (n : ℕ). list_all f (range_with_len 0 n)) none) same
unknown_mark f there is r old new (inr alive) same = whole_mark f r old new (all_yes f r.len (λ k h. is k ∙ alive)) same

pub dead_mark : (f : ℕ → Bool) → ((k : ℕ) → f k ≡ false) → (r : FileRange) (old new : List Span) (lengthens : Bool) → 0 < r.len → new ≡ old → lengthens ≡ nat_lt r.size (r.at + r.len)
    → IsMarked (fate_by f r) old new (mark.Parts 0 lengthens)
dead_mark f dead r old new lengthens some same longer =
    let none : spans f 0 r.len ≡ [] = sym (spans_from_start f r.len) ∙ left_dead f r.len None 0 (λ k low. dead k) in
    parts_mark f r old new 0 lengthens (all_no f r.len 0 some (dead 0)) (same ∙ sym (ap (λ (l : List Span). old ++ l) none ∙ append-nil old))
    (let e = ap length same in omega (arith, e))
    (longer ∙ sym (ap (λ (b : Bool). nat_lt r.size (r.at + r.len) && not b) (dead (r.len - 1)) ∙ and_true (nat_lt r.size (r.at + r.len))))
  where
    and_true : (b : Bool) → (b && true) ≡ b
    and_true true = refl
    and_true false = refl

pub unknown : (there : ℕ → Bool) (files : BTreeMap ℕ Cells) (i : ℕ) → get nat_cmp files i ≡ None → (p : ℕ) → lives_in there files i p ≡ there i
unknown there files i none p = ap (λ (o : Option Cells). lives_by (there i) o p) none

pub known_fate : (there : ℕ → Bool) (files : BTreeMap ℕ Cells) (r : FileRange) (cells : Cells) → get nat_cmp files r.ino ≡ Some cells
    → fate_by (lives_from cells r.at) r ≡ fate_in r (lives_in there files)
known_fate there files r cells found = sym (ap (λ (o : Option Cells). fate_by (λ k. lives_by (there r.ino) o (r.at + k)) r) found)

-- ---- a log

before_last : (log : List Change) (c : Change) (end : Living) → before_all (log ++ c ∷ []) end ≡ before_all log (before c end)
before_last [] c end = refl
before_last (x ∷ log) c end = ap (λ (l : Living). before x l) (before_last log c end)

-- The fates of a log, by what lives before its last change.
pub fates_last : (log : List Change) (c : Change) (end : Living) → fates_of (log ++ c ∷ []) end ≡ fates_of log (before c end) ++ own_fate c end
fates_last [] c end = append-nil (own_fate c end)
fates_last (x ∷ log) c end =
    ap₂ (λ (l : Living) (fs : List Fate). own_fate x l ++ fs) (before_last log c end) (fates_last log c end)
    ∙ sym (append_assoc (own_fate x (before_all log (before c end))) (fates_of log (before c end)) (own_fate c end))

-- A turn.
pub fates_turn : (log rest : List Change) (c : Change) (now next : Living) (done more due : List Fate) → log ≡ rest ++ c ∷ [] → IsSameLiving next (before c now) → more ≡ own_fate c now ++ done
    → fates_of log now ++ done ≡ due → fates_of rest next ++ more ≡ due
fates_turn log rest c now next done more due log_is next_is more_is is =
    let same : next ≡ before c now = λ k i p. next_is i p k in
    ap₂ (λ (l : Living) (fs : List Fate). fates_of rest l ++ fs) same more_is
    ∙ sym (append_assoc (fates_of rest (before c now)) (own_fate c now) done)
    ∙ ap (λ (fs : List Fate). fs ++ done) (sym (fates_last rest c now))
    ∙ ap (λ (l : List Change). fates_of l now ++ done) (sym log_is)
    ∙ is

-- Before the first turn nothing is known.
pub fates_start : (there : ℕ → Bool) (files : BTreeMap ℕ Cells) (log : List Change) → ((i : ℕ) → get nat_cmp files i ≡ None)
    → fates_of log (lives_in there files) ≡ fates_of log (λ i place. there i)
fates_start there files log none =
    let same : lives_in there files ≡ (λ i p. there i) = λ k i p. unknown there files i (none i) p k in
    ap (λ (l : Living). fates_of log l) same
