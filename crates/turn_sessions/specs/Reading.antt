-- What one turn reads of its session's file. This program's own.
use Rattle.std.specs.Prelude.{◌≡◌, ⊤, ℕ, List, [], ◌∷◌}
use Rattle.send_model.specs.Reading.{Item, Verdict, Whole, Faulty}
use Rattle.cmd_reader.specs.Left.{Reader, left}
use Rattle.cmd_reader.specs.Fronts.{IsRefused, IsLongAt}
use Rattle.cmd_reader.specs.Next.{GoesOn, HasEnded, OnlyEnds}
use Rattle.store_model.specs.Turns as meant
use Rattle.turn_sessions.specs.Standing.{Blank}

-- A command; the end; a fault; the limit of the file's length; or nothing.
pub data Next : Type 0 where
  Command : (item : Item) → Next
  AtEnd : Next
  AtFault : (verdict : Verdict) → Next
  AtLimit : Next
  Nothing : Next

-- What was left of a file to a reader.
abbrev pub WasLeft : Reader → Reader → Next → List ℕ → Type 0
WasLeft old new (Command item) bytes = GoesOn old new item bytes
WasLeft old new AtEnd bytes = HasEnded old bytes
WasLeft old new (AtFault verdict) bytes =
    IsRefused
    (λ refusal bytes. left old bytes
    ≡ record { items = []; end = Faulty verdict }) verdict.refusal bytes
WasLeft old new AtLimit bytes = IsLongAt old.offset (OnlyEnds old) bytes
WasLeft old new Nothing bytes = ⊤

-- A session has this to read next.
abbrev pub HasNext : meant.Session Blank → Next → Type 0
HasNext s (Command item) = (items : List Item) × (s.items ≡ item ∷ items)
HasNext s AtEnd = (s.items ≡ []) × (s.end ≡ Whole)
HasNext s (AtFault verdict) = (s.items ≡ []) × (s.end ≡ Faulty verdict)
HasNext s AtLimit = ⊤
HasNext s Nothing = ⊤
