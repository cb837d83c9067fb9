-- How composing over a store ends, and what is said of each end whether or not anything tells. This
-- program's own.
use Rattle.std.specs.Prelude.{⊤, ℕ, ◌==◌, Bool, true, false, List, if◌then◌else◌}
use Rattle.send_model.specs.Reading.{input}
use Rattle.send_model.specs.Store.{Store}
use Rattle.send_model.specs.Outside.{base_of}
use Rattle.send_model.specs.Overridden.{Overrides, overridden}
use Rattle.sx_base.specs.Again.{EarlyEnd}
use Rattle.sx_base.specs.Calls.{FoundChanged}
use Rattle.sx_base.specs.declared.outcome.Outcome.{Outcome}
use Rattle.sx_base.specs.declared.outcome.Outcome.TheVariants as ended
use Rattle.composer.specs.Files.{ComposeEnds}
use Rattle.store_commands.specs.declared.ends.StoreEnd.{StoreEnd}
use Rattle.store_commands.specs.declared.ends.StoreEnd.TheVariants as made

abbrev pub is_input_fault : Outcome → Bool
is_input_fault ended.InputFault = true
is_input_fault ended.Done = false
is_input_fault (ended.Refused verdict) = false
is_input_fault ended.OutputFault = false
is_input_fault ended.NoMemory = false
is_input_fault (ended.InputTooLong file) = false
is_input_fault (ended.TooMuch sum) = false
is_input_fault (ended.InputChanged file place) = false

-- An input fault is a fault of the store's device where so many of its reads failed.
abbrev pub end_over : Outcome → ℕ → StoreEnd
end_over outcome failures =
    if failures == 0 then made.Ends outcome
    else (if is_input_fault outcome then made.StoreFault else made.Ends outcome)

-- What of a store is no part of files, whatever is said in front of them.
abbrev pub beside : Store ℕ → Overrides → List (List ℕ) → Store ℕ
beside store given files = base_of store (overridden given (input files)).items

-- What stands where composing over a base ends so, with what is said in front of the files. Where
-- the device failed, that is what stands where an input fails.
abbrev pub EndsOver : Store ℕ → Overrides → List (List ℕ) → StoreEnd → List ℕ → Type 0
EndsOver base given files (made.Ends outcome) written = ComposeEnds base given files outcome written
EndsOver base given files made.StoreFault written =
    ComposeEnds base given files ended.InputFault written
EndsOver base given files (made.NotStore group) written = ⊥
EndsOver base given files made.NoName written = ⊥
EndsOver base given files made.NoFile written = ⊥
EndsOver base given files (made.LogFull end wanted limit) written = ⊥
EndsOver base given files (made.StoreThere size) written = ⊥
EndsOver base given files (made.Damaged group stored computed) written = ⊥

-- All was done, of which this is said; or the device, the inputs or the output failed, or an input
-- was found changed, which is the answer only for this cause.
abbrev pub ComposeCaused : (done store_rose inputs_rose ends_rose out_rose : Type 0) → StoreEnd
    → Type 0
ComposeCaused done store_rose inputs_rose ends_rose out_rose (made.Ends ended.Done) = done
ComposeCaused done store_rose inputs_rose ends_rose out_rose (made.Ends ended.InputFault) =
    inputs_rose
ComposeCaused done store_rose inputs_rose ends_rose out_rose (made.Ends ended.OutputFault) =
    out_rose
ComposeCaused done store_rose inputs_rose ends_rose out_rose
    (made.Ends (ended.InputChanged file place)) = ends_rose
ComposeCaused done store_rose inputs_rose ends_rose out_rose (made.Ends ended.NoMemory) = ⊤
ComposeCaused done store_rose inputs_rose ends_rose out_rose (made.Ends (ended.Refused verdict)) = ⊤
ComposeCaused done store_rose inputs_rose ends_rose out_rose
    (made.Ends (ended.InputTooLong file)) = ⊤
ComposeCaused done store_rose inputs_rose ends_rose out_rose (made.Ends (ended.TooMuch sum)) = ⊤
ComposeCaused done store_rose inputs_rose ends_rose out_rose made.StoreFault = store_rose
ComposeCaused done store_rose inputs_rose ends_rose out_rose (made.NotStore group) = ⊤
ComposeCaused done store_rose inputs_rose ends_rose out_rose made.NoName = ⊥
ComposeCaused done store_rose inputs_rose ends_rose out_rose made.NoFile = ⊥
ComposeCaused done store_rose inputs_rose ends_rose out_rose (made.LogFull end wanted limit) = ⊥
ComposeCaused done store_rose inputs_rose ends_rose out_rose (made.StoreThere size) = ⊥
ComposeCaused done store_rose inputs_rose ends_rose out_rose
    (made.Damaged group stored computed) = ⊥

-- An input that was found changed is the file of the last end.
abbrev pub ChangeFound : (names : List (List ℕ)) (last : EarlyEnd) → StoreEnd → Type 0
ChangeFound names last (made.Ends outcome) = FoundChanged names last outcome
ChangeFound names last made.StoreFault = ⊤
ChangeFound names last (made.NotStore group) = ⊤
ChangeFound names last made.NoName = ⊤
ChangeFound names last made.NoFile = ⊤
ChangeFound names last (made.LogFull end wanted limit) = ⊤
ChangeFound names last (made.StoreThere size) = ⊤
ChangeFound names last (made.Damaged group stored computed) = ⊤
