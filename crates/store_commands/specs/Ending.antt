-- How a word over a store ends, as the answer that it gives; and what is said of each end whether
-- or not anything tells.
use Rattle.std.specs.Prelude.{◌≢◌, ◌≡◌, ⊤, ℕ, List}
use Rattle.send_model.specs.Answer as answers
use Rattle.sx_base.specs.Causes.{Rose}
use Rattle.sx_base.specs.Refusals.{verdict_meant}
use Rattle.sx_base.specs.declared.outcome.Outcome.{Outcome}
use Rattle.sx_base.specs.declared.outcome.Outcome.TheVariants as ended
use Rattle.store_model.specs.Answers.{Answer, OfAnyWord, StoreFault, NotStore, Missing, LogFull, StoreThere, Damaged}
use Rattle.group_log.specs.declared.stops.LogStop.{LogStop}
use Rattle.group_log.specs.declared.stops.LogStop.TheVariants as log
use Rattle.group_replay.specs.declared.stops.StoreStop.{StoreStop}
use Rattle.group_replay.specs.declared.stops.StoreStop.TheVariants as stop
use Rattle.store_scrub.specs.declared.stops.ScrubStop.{ScrubStop}
use Rattle.store_scrub.specs.declared.stops.ScrubStop.TheVariants as scrub
use Rattle.receiver.specs.declared.outcome.Received.{Received}
use Rattle.receiver.specs.declared.outcome.Received.TheVariants as how
use Rattle.store_commands.specs.declared.ends.StoreEnd.{StoreEnd}
use Rattle.store_commands.specs.declared.ends.StoreEnd.TheVariants as made

abbrev pub outcome_meant : Outcome → answers.Answer
outcome_meant ended.Done = answers.Done
outcome_meant (ended.Refused verdict) = answers.Refused (verdict_meant verdict)
outcome_meant ended.InputFault = answers.InputFault
outcome_meant ended.OutputFault = answers.OutputFault
outcome_meant ended.NoMemory = answers.NoMemory
outcome_meant (ended.InputTooLong file) = answers.InputTooLong file
outcome_meant (ended.TooMuch sum) = answers.TooMuch sum
outcome_meant (ended.InputChanged file place) = answers.InputChanged file place

-- The answer of an end, of a word that asks for this name and this path.
abbrev pub answer_of : (name path : List ℕ) → StoreEnd → Answer
answer_of name path (made.Ends outcome) = OfAnyWord (outcome_meant outcome)
answer_of name path made.StoreFault = StoreFault
answer_of name path (made.NotStore group) = NotStore group
answer_of name path made.NoName = Missing name
answer_of name path made.NoFile = Missing path
answer_of name path (made.LogFull end wanted limit) = LogFull end wanted limit
answer_of name path (made.StoreThere size) = StoreThere size
answer_of name path (made.Damaged group stored computed) = Damaged group stored computed

-- Where the journal or the store stopped.
abbrev pub end_at : LogStop → StoreEnd
end_at log.DiskFault = made.StoreFault
end_at (log.NotStore group) = made.NotStore group
end_at (log.LogFull end wanted limit) = made.LogFull end wanted limit
end_at (log.StoreThere size) = made.StoreThere size

abbrev pub end_by : StoreStop → StoreEnd
end_by (stop.Refused refusal) = made.StoreFault
end_by stop.NoMemory = made.Ends ended.NoMemory
end_by (stop.Log why) = end_at why

abbrev pub end_received : Received → StoreEnd
end_received (how.Files outcome) = made.Ends outcome
end_received how.StoreFault = made.StoreFault
end_received (how.LogFull end wanted limit) = made.LogFull end wanted limit

abbrev pub end_scrub : ScrubStop → StoreEnd
end_scrub (scrub.Log why) = end_at why
end_scrub (scrub.Damaged group stored computed) = made.Damaged group stored computed

-- For which reasons a word ends that are no fault of an object of the outside: there is no memory;
-- a command is refused; a file is too long; there is no store; no complete subvolume of the name;
-- no file; no room; a store already; a group is damaged.
pub record Ways : Type 1 where
  pub memory : Type 0
  pub refused : Type 0
  pub too_long : Type 0
  pub not_store : Type 0
  pub no_name : Type 0
  pub no_file : Type 0
  pub log_full : Type 0
  pub store_there : Type 0
  pub damaged : Type 0

abbrev pub no_ways : Ways
no_ways = record {
  memory = ⊥;
  refused = ⊥;
  too_long = ⊥;
  not_store = ⊥;
  no_name = ⊥;
  no_file = ⊥;
  log_full = ⊥;
  store_there = ⊥;
  damaged = ⊥;
}

-- The ways of each word. Only making a store does not open one, and takes no memory.
abbrev pub init_ways : Ways
init_ways = record no_ways { store_there = ⊤ }

abbrev pub list_ways : Ways
list_ways = record no_ways { memory = ⊤; not_store = ⊤ }

abbrev pub show_ways : Ways
show_ways = record list_ways { no_name = ⊤ }

abbrev pub cat_ways : Ways
cat_ways = record show_ways { no_file = ⊤ }

abbrev pub drop_ways : Ways
drop_ways = record show_ways { log_full = ⊤ }

abbrev pub audit_ways : Ways
audit_ways = record list_ways { refused = ⊤; too_long = ⊤ }

abbrev pub receive_ways : Ways
receive_ways = record audit_ways { log_full = ⊤ }

abbrev pub scrub_ways : Ways
scrub_ways = record list_ways { damaged = ⊤ }

-- A word ends in its ways, or all was done, of which this is said; or the store's device, the
-- inputs or the output failed, which is the answer only for this cause.
abbrev pub EndCaused : Ways → (done store_rose inputs_rose out_rose : Type 0) → StoreEnd → Type 0
EndCaused ways done store_rose inputs_rose out_rose (made.Ends ended.Done) = done
EndCaused ways done store_rose inputs_rose out_rose (made.Ends ended.InputFault) = inputs_rose
EndCaused ways done store_rose inputs_rose out_rose (made.Ends ended.OutputFault) = out_rose
EndCaused ways done store_rose inputs_rose out_rose (made.Ends ended.NoMemory) = ways.memory
EndCaused ways done store_rose inputs_rose out_rose (made.Ends (ended.Refused verdict)) =
    ways.refused
EndCaused ways done store_rose inputs_rose out_rose (made.Ends (ended.InputTooLong file)) =
    ways.too_long
EndCaused ways done store_rose inputs_rose out_rose (made.Ends (ended.TooMuch sum)) = ⊥
EndCaused ways done store_rose inputs_rose out_rose (made.Ends (ended.InputChanged file place)) = ⊥
EndCaused ways done store_rose inputs_rose out_rose made.StoreFault = store_rose
EndCaused ways done store_rose inputs_rose out_rose (made.NotStore group) = ways.not_store
EndCaused ways done store_rose inputs_rose out_rose made.NoName = ways.no_name
EndCaused ways done store_rose inputs_rose out_rose made.NoFile = ways.no_file
EndCaused ways done store_rose inputs_rose out_rose (made.LogFull end wanted limit) = ways.log_full
EndCaused ways done store_rose inputs_rose out_rose (made.StoreThere size) = ways.store_there
EndCaused ways done store_rose inputs_rose out_rose (made.Damaged group stored computed) =
    ways.damaged × (stored ≢ computed)

-- So does a word that prints and reads no file.
abbrev pub PrintingCaused : Ways → (store_before store_now out_before out_now : ℕ) → StoreEnd
    → Type 0
PrintingCaused ways store_before store_now out_before out_now end =
    EndCaused ways ((store_now ≡ store_before) × (out_now ≡ out_before))
    (Rose store_before store_now) ⊥ (Rose out_before out_now) end
