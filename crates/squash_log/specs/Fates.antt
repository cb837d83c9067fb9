-- What lives of each WRITE, by what lives in the end. This program's own.
use Rattle.std.specs.Prelude.{ℕ, zero, suc, ◌+◌, ◌-◌, ◌==◌, Bool, not, ◌&&◌, List, [], ◌∷◌, ◌++◌, nat_lt, if◌then◌else◌}
use Rattle.std.specs.List.{list_all, range_with_len}
use Rattle.squash_model.specs.Liveness.{Living}
use Rattle.squash_log.specs.declared.change.FileRange.{FileRange}
use Rattle.squash_log.specs.declared.change.Change.{Change}
use Rattle.squash_log.specs.declared.change.Change.TheVariants as made
use Rattle.squash_log.specs.declared.fate.Span.{Span}
use Rattle.squash_log.specs.declared.fate.Fate as code
use Rattle.squash_log.specs.declared.fate.Fate.TheVariants as coded
use Rattle.squash_log.specs.Changes.{before_all}

-- A byte that lives, in front of the stretches behind it.
abbrev pub span_before : ℕ → List Span → List Span
span_before at [] = record { at = at; len = 1 } ∷ []
span_before at (first ∷ rest) =
    if first.at == at + 1 then record { at = at; len = first.len + 1 } ∷ rest
    else record { at = at; len = 1 } ∷ first ∷ rest

-- The longest stretches of bytes that live, of so many from a place on.
abbrev pub spans : (ℕ → Bool) → (at len : ℕ) → List Span
spans lives at zero = []
spans lives at (suc len) =
    let rest = spans lives (at + 1) len in if lives at then span_before at rest else rest

-- What lives of a WRITE: all of its bytes, or some stretches of them; and whether its file has to
-- be made longer beside them, since it was shorter and the last byte does not live.
pub data Fate : Type 0 where
  Whole : Fate
  Parts : List Span → Bool → Fate

-- By which of its bytes live.
abbrev pub fate_by : (ℕ → Bool) → FileRange → Fate
fate_by lives r =
    if list_all lives (range_with_len 0 r.len) then Whole
    else Parts (spans lives 0 r.len) (nat_lt r.size (r.at + r.len) && not (lives (r.len - 1)))

-- By what lives after it.
abbrev pub fate_in : FileRange → Living → Fate
fate_in r after = fate_by (λ k. after r.ino (r.at + k)) r

-- The fate of a change that is a WRITE; other changes have none.
abbrev pub own_fate : Change → Living → List Fate
own_fate (made.Wrote r) after = fate_in r after ∷ []
own_fate (made.Replaced r) after = []
own_fate (made.Cloned to source from) after = []
own_fate (made.Resized ino size new) after = []

-- The fates of the WRITE commands among changes, in their order.
abbrev pub fates_of : List Change → Living → List Fate
fates_of [] end = []
fates_of (change ∷ changes) end =
    own_fate change (before_all changes end) ++ fates_of changes end

-- A fate as the code hands it out.
abbrev pub fate_meant : code.Fate → Fate
fate_meant coded.Whole = Whole
fate_meant (coded.Parts spans lengthens) = Parts spans.now lengthens
