-- What a call over named files answers: which files these are, what it wrote, when it may say that
-- an object of the outside failed, and what each answer says of the files. This program's own.
use Rattle.std.specs.Prelude.{◌≡◌, ⊤, ℕ, ◌-◌, ◌≤◌, List, [], map, length, get_or, Option, None, Some, Result, Ok, Err}
use Rattle.std.specs.Io.KnownBytes.{Appends}
use Rattle.send_model.specs.Store.{Store}
use Rattle.send_model.specs.Due.{Due, DoneWhole, RefusedAt, TooLong, TooMuch}
use Rattle.send_model.specs.Words.{Request, due, EndSays, StandsBefore, StandsCut}
use Rattle.sx_base.specs.Again.{EarlyEnd}
use Rattle.sx_base.specs.Causes.{Rose, Counts}
use Rattle.sx_base.specs.Outside.{file_at}
use Rattle.sx_base.specs.Refusals.{verdict_meant}
use Rattle.sx_base.specs.declared.outcome.Outcome.{Outcome}
use Rattle.sx_base.specs.declared.outcome.Outcome.TheVariants as ended

-- ---- files and what is written

-- The bytes of the files with these names.
abbrev pub contents : List (List ℕ × List ℕ) → List (List ℕ) → List (List ℕ)
contents table names = map (file_at table) names

-- A fact about named files, where the inputs tell their files.
abbrev pub IfAllTold : Option (List (List ℕ × List ℕ)) → List (List ℕ) → (List (List ℕ) → Type 0)
    → Type 0
IfAllTold None names P = ⊤
IfAllTold (Some table) names P = P (contents table names)

-- What a call added to a sink says so, where the sink tells what it took.
abbrev pub Wrote : Option (List ℕ) → Option (List ℕ) → (List ℕ → Type 0) → Type 0
Wrote old new P = (written : List ℕ) × Appends old new written × P written

-- ---- causes

-- A fault is the outcome only where the count of its object rose. A call that reads no byte twice,
-- and composes nothing, finds no input changed and never too much to write.
abbrev pub Caused : (inputs_before inputs_now out_before out_now : ℕ) → Outcome → Type 0
Caused inputs_before inputs_now out_before out_now ended.InputFault = Rose inputs_before inputs_now
Caused inputs_before inputs_now out_before out_now ended.OutputFault = Rose out_before out_now
Caused inputs_before inputs_now out_before out_now ended.Done = ⊤
Caused inputs_before inputs_now out_before out_now (ended.Refused verdict) = ⊤
Caused inputs_before inputs_now out_before out_now ended.NoMemory = ⊤
Caused inputs_before inputs_now out_before out_now (ended.InputTooLong file) = ⊤
Caused inputs_before inputs_now out_before out_now (ended.TooMuch sum) = ⊥
Caused inputs_before inputs_now out_before out_now (ended.InputChanged file place) = ⊥

-- The same of a call that reads bytes again: an input is found changed only where the count of ends
-- rose.
abbrev pub CausedAgain : (before now : Counts) → Outcome → Type 0
CausedAgain before now (ended.InputChanged file place) = Rose before.ends now.ends
CausedAgain before now ended.InputFault = Rose before.reads now.reads
CausedAgain before now ended.OutputFault = Rose before.writes now.writes
CausedAgain before now ended.Done = ⊤
CausedAgain before now (ended.Refused verdict) = ⊤
CausedAgain before now ended.NoMemory = ⊤
CausedAgain before now (ended.InputTooLong file) = ⊤
CausedAgain before now (ended.TooMuch sum) = ⊤

abbrev pub ErrCaused : {T : Type 0} → (inputs_before inputs_now out_before out_now : ℕ)
    → Result T Outcome → Type 0
ErrCaused inputs_before inputs_now out_before out_now (Ok x) = ⊤
ErrCaused inputs_before inputs_now out_before out_now (Err outcome) =
    Caused inputs_before inputs_now out_before out_now outcome

-- ---- where all was done

-- A call that ends so has not done all.
abbrev pub IsStop : Outcome → Type 0
IsStop ended.Done = ⊥
IsStop (ended.Refused verdict) = ⊤
IsStop ended.InputFault = ⊤
IsStop ended.OutputFault = ⊤
IsStop ended.NoMemory = ⊤
IsStop (ended.InputTooLong file) = ⊤
IsStop (ended.TooMuch sum) = ⊤
IsStop (ended.InputChanged file place) = ⊤

-- Where all was done, a count is as it was.
abbrev pub SteadyIfDone : (before now : ℕ) → Outcome → Type 0
SteadyIfDone before now ended.Done = now ≡ before
SteadyIfDone before now (ended.Refused verdict) = ⊤
SteadyIfDone before now ended.InputFault = ⊤
SteadyIfDone before now ended.OutputFault = ⊤
SteadyIfDone before now ended.NoMemory = ⊤
SteadyIfDone before now (ended.InputTooLong file) = ⊤
SteadyIfDone before now (ended.TooMuch sum) = ⊤
SteadyIfDone before now (ended.InputChanged file place) = ⊤

-- ---- files that were changed

-- The end that the inputs answered last is that of the file with this number among these names,
-- counted from 1, at this place.
pub record IsEndOf (names : List (List ℕ)) (last : EarlyEnd) (file place : ℕ) : Type 0 where
  pub first : 1 ≤ file
  pub within : file ≤ length names
  pub met : last ≡ record { name = get_or names (file - 1) []; place = place }

-- An input that was found changed is the file of the last end, with the place where it ended.
abbrev pub FoundChanged : (names : List (List ℕ)) (last : EarlyEnd) → Outcome → Type 0
FoundChanged names last (ended.InputChanged file place) = IsEndOf names last file place
FoundChanged names last ended.Done = ⊤
FoundChanged names last (ended.Refused verdict) = ⊤
FoundChanged names last ended.InputFault = ⊤
FoundChanged names last ended.OutputFault = ⊤
FoundChanged names last ended.NoMemory = ⊤
FoundChanged names last (ended.InputTooLong file) = ⊤
FoundChanged names last (ended.TooMuch sum) = ⊤

abbrev pub ErrFoundChanged : {T : Type 0} → (names : List (List ℕ)) (last : EarlyEnd)
    → Result T Outcome → Type 0
ErrFoundChanged names last (Ok x) = ⊤
ErrFoundChanged names last (Err outcome) = FoundChanged names last outcome

-- ---- the one answer

-- An outcome that the files decide is the one answer that is due, and what was written stands as it
-- says. Where the inputs failed or were changed, or there was no memory, what was written stands as
-- before an end, and where the output failed, it is cut.
abbrev pub EndsAs : Due → (stands : Due → List ℕ → Type 0) (before cut : List ℕ → Type 0) → Outcome
    → List ℕ → Type 0
EndsAs the_due stands before cut ended.Done written =
    (the_due ≡ DoneWhole) × stands DoneWhole written
EndsAs the_due stands before cut (ended.Refused verdict) written =
    (the_due ≡ RefusedAt (verdict_meant verdict))
    × stands (RefusedAt (verdict_meant verdict)) written
EndsAs the_due stands before cut (ended.InputTooLong file) written =
    (the_due ≡ TooLong file) × stands (TooLong file) written
EndsAs the_due stands before cut (ended.TooMuch sum) written =
    (the_due ≡ TooMuch sum) × stands (TooMuch sum) written
EndsAs the_due stands before cut ended.InputFault written = before written
EndsAs the_due stands before cut (ended.InputChanged file place) written = before written
EndsAs the_due stands before cut ended.OutputFault written = cut written
EndsAs the_due stands before cut ended.NoMemory written = before written

-- The same of a request over a base.
abbrev pub Ends : Request → Store ℕ → List (List ℕ) → Outcome → List ℕ → Type 0
Ends request base files outcome written =
    EndsAs (due request base files) (EndSays request base files) (StandsBefore request base files)
    (StandsCut request base files) outcome written
