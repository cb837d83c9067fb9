-- Bytes that are added to those that wait: what of them is written, and how that stops. This
-- program's own.
use Rattle.std.specs.Prelude.{◌≡◌, ⊤, ℕ, List, [], ◌++◌, Option, Result, Ok, Err}
use Rattle.std.specs.Io.KnownBytes.{Appends}
use Rattle.send_model.specs.Headline.{IsFrontOf, IsProperFrontOf}
use Rattle.sx_base.specs.Calls.{Wrote}
use Rattle.sx_base.specs.Outside.{AppendsPart}
use Rattle.sx_base.specs.declared.outcome.Outcome.TheVariants as ended
use Rattle.store_commands.specs.declared.ends.StoreEnd.{StoreEnd}
use Rattle.store_commands.specs.declared.ends.StoreEnd.TheVariants as made

-- A text came behind the bytes that waited; some of all is written, and the rest waits.
pub record TextAdded (text old new : List ℕ) (taken_old taken_now : Option (List ℕ)) : Type 0 where
  pub sent : List ℕ
  pub appends : Appends taken_old taken_now sent
  pub bytes_are : sent ++ new ≡ old ++ text

-- What is written of some bytes where it stops so: a front part, and not all where the output
-- failed.
abbrev pub IsCutBy : StoreEnd → List ℕ → List ℕ → Type 0
IsCutBy (made.Ends ended.OutputFault) all written = IsProperFrontOf all written
IsCutBy (made.Ends ended.NoMemory) all written = IsFrontOf all written
IsCutBy (made.Ends ended.Done) all written = ⊥
IsCutBy (made.Ends (ended.Refused verdict)) all written = ⊥
IsCutBy (made.Ends ended.InputFault) all written = ⊥
IsCutBy (made.Ends (ended.InputTooLong file)) all written = ⊥
IsCutBy (made.Ends (ended.TooMuch sum)) all written = ⊥
IsCutBy (made.Ends (ended.InputChanged file place)) all written = ⊥
IsCutBy made.StoreFault all written = IsFrontOf all written
IsCutBy (made.NotStore group) all written = ⊥
IsCutBy made.NoName all written = ⊥
IsCutBy made.NoFile all written = ⊥
IsCutBy (made.LogFull end wanted limit) all written = ⊥
IsCutBy (made.StoreThere size) all written = ⊥
IsCutBy (made.Damaged group stored computed) all written = ⊥

-- The text was added, or it stopped, and a front part of all that there was is written.
abbrev pub Adds : (text old new : List ℕ) (taken_old taken_now : Option (List ℕ))
    → Result (Unit {0}) StoreEnd → Type 0
Adds text old new taken_old taken_now (Ok done) = TextAdded text old new taken_old taken_now
Adds text old new taken_old taken_now (Err end) =
    Wrote taken_old taken_now (IsCutBy end (old ++ text))

-- Of what waits some is written and the rest is kept, or the output failed.
abbrev pub SomeSent : (old new : List ℕ) (taken_old taken_now : Option (List ℕ))
    → Result (Unit {0}) StoreEnd → Type 0
SomeSent old new taken_old taken_now (Ok done) = TextAdded [] old new taken_old taken_now
SomeSent old new taken_old taken_now (Err end) =
    (end ≡ made.Ends ended.OutputFault) × AppendsPart taken_old taken_now old

-- What was to be added was, and some is written. Or there was no memory for it, and nothing is.
abbrev pub GoesOn : {E : Type 0} → Result (Unit {0}) E
    → (old new : List ℕ) (taken_old taken_now : Option (List ℕ)) → Result (Unit {0}) StoreEnd
    → Type 0
GoesOn (Ok added) old new taken_old taken_now result = SomeSent old new taken_old taken_now result
GoesOn (Err failed) old new taken_old taken_now (Ok done) = ⊥
GoesOn (Err failed) old new taken_old taken_now (Err end) =
    (end ≡ made.Ends ended.NoMemory) × Appends taken_old taken_now []

-- Why it stops: there is no memory, or the output or the store's device failed, for which there is
-- this cause.
abbrev pub StopCaused : (store_rose out_rose : Type 0) → StoreEnd → Type 0
StopCaused store_rose out_rose (made.Ends ended.OutputFault) = out_rose
StopCaused store_rose out_rose (made.Ends ended.NoMemory) = ⊤
StopCaused store_rose out_rose (made.Ends ended.Done) = ⊥
StopCaused store_rose out_rose (made.Ends (ended.Refused verdict)) = ⊥
StopCaused store_rose out_rose (made.Ends ended.InputFault) = ⊥
StopCaused store_rose out_rose (made.Ends (ended.InputTooLong file)) = ⊥
StopCaused store_rose out_rose (made.Ends (ended.TooMuch sum)) = ⊥
StopCaused store_rose out_rose (made.Ends (ended.InputChanged file place)) = ⊥
StopCaused store_rose out_rose made.StoreFault = store_rose
StopCaused store_rose out_rose (made.NotStore group) = ⊥
StopCaused store_rose out_rose made.NoName = ⊥
StopCaused store_rose out_rose made.NoFile = ⊥
StopCaused store_rose out_rose (made.LogFull end wanted limit) = ⊥
StopCaused store_rose out_rose (made.StoreThere size) = ⊥
StopCaused store_rose out_rose (made.Damaged group stored computed) = ⊥
