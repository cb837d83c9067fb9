-- What the code keeps of changes and of fates. This program's own.
use Rattle.std.specs.Prelude.{◌≡◌, ℕ, ◌+◌, ◌<◌, List, [], ◌∷◌, ◌++◌, length, take, drop, reverse, Option, None, Some}
use Rattle.std.specs.List.{AllByRecursion}
use Rattle.std.specs.Global.{Vec}
use Rattle.squash_log.specs.declared.change.Change.{Change}
use Rattle.squash_log.specs.declared.fate.Span.{Span}
use Rattle.squash_log.specs.declared.fates.Mark.{Mark}
use Rattle.squash_log.specs.declared.fates.Mark.TheVariants as mark
use Rattle.squash_log.specs.Changes.{Fits}
use Rattle.squash_log.specs.Fates.{Fate, Whole, Parts}

-- The changes of blocks, one block after the other.
abbrev pub in_blocks : List (Vec Change) → List Change
in_blocks [] = []
in_blocks (block ∷ blocks) = block.items ++ in_blocks blocks

-- The changes of full blocks, and behind them those of the last block.
abbrev pub logged : List (Vec Change) → List Change → List Change
logged full last = in_blocks full ++ last

-- A full block has changes.
abbrev pub HasSome : Vec Change → Type 0
HasSome block = 0 < length block.items

pub record AreLogged (full : List (Vec Change)) (last : List Change) : Type 0 where
  pub some : AllByRecursion HasSome full
  pub fit : AllByRecursion Fits (logged full last)

-- How many stretches a mark has.
abbrev pub count_of : Mark → ℕ
count_of mark.Whole = 0
count_of (mark.Parts count lengthens) = count

-- The fate of a mark, whose stretches are the first of some.
abbrev pub marked : Mark → List Span → Fate
marked mark.Whole spans = Whole
marked (mark.Parts count lengthens) spans = Parts (take count spans) lengthens

-- The fates of marks, each with its stretches in the order of the marks.
abbrev pub all_marked : List Mark → List Span → List Fate
all_marked [] spans = []
all_marked (m ∷ marks) spans = marked m spans ∷ all_marked marks (drop (count_of m) spans)

abbrev pub all_counts : List Mark → ℕ
all_counts [] = 0
all_counts (m ∷ marks) = count_of m + all_counts marks

-- The fates that are left: the last mark is the first fate.
abbrev pub unstacked : List Mark → List Span → List Fate
unstacked marks spans = reverse (all_marked marks spans)

-- A mark stands for a fate, whose stretches were put behind others.
pub record IsMarked (fate : Fate) (old new : List Span) (m : Mark) : Type 0 where
  pub added : List Span
  pub new_is : new ≡ old ++ added
  pub count_is : count_of m ≡ length added
  pub fate_is : marked m added ≡ fate

-- Marks and stretches stand for the fates that they stood for, and some in front of them.
abbrev pub AreMarked : List Fate → (marks new_marks : List Mark) → (spans new_spans : List Span)
    → Type 0
AreMarked fates marks new_marks spans new_spans =
    all_counts marks ≡ length spans
    → (all_counts new_marks ≡ length new_spans)
    × (unstacked new_marks new_spans ≡ fates ++ unstacked marks spans)

-- A stretch with more bytes behind it, or a new one at a place.
abbrev pub grown : Option Span → (place count : ℕ) → Span
grown None place count = record { at = place; len = count }
grown (Some span) place count = record { at = span.at; len = span.len + count }
