-- Why an answer comes: each outcome and each end as an answer that is allowed and has its cause.
use Rattle.std.specs.Prelude.{◌≡◌, ℕ, true, List, [], ◌∷◌, ◌++◌}
use Rattle.std.proofs.Common.{refl, sym, ◌∙◌, arith}
use Rattle.sx_base.specs.Calls.{Caused, CausedAgain, SteadyIfDone, FoundChanged}
use Rattle.sx_base.specs.declared.outcome.Outcome.{Outcome}
use Rattle.sx_base.specs.declared.outcome.Outcome.TheVariants as ended
use Rattle.store_model.specs.Answers as said
use Rattle.store_commands.specs.Ending as ending
use Rattle.store_commands.specs.Ending.{outcome_meant, Ways, EndCaused, PrintingCaused, init_ways, list_ways, show_ways, cat_ways, drop_ways, audit_ways, receive_ways, scrub_ways}
use Rattle.store_commands.specs.declared.ends.StoreEnd.{StoreEnd}
use Rattle.store_commands.specs.declared.ends.StoreEnd.TheVariants as made
use Rattle.store_compose.specs.Ending.{ComposeCaused, ChangeFound}
use Rattle.program_model.specs.Answers.{flat}
use Rattle.send_model.specs.Words as streams
use Rattle.send_model.specs.Words.{due}
use Rattle.send_model.specs.Reading.{Verdict}
use Rattle.send_model.specs.Due.{DoneWhole, RefusedAt, TooLong}
use Rattle.sx_base.specs.Calls.{Ends}
use Rattle.program_model.specs.Requests.{Request}
use Rattle.program_model.specs.Profiles.{profile}
use Rattle.program_model.specs.Answers.{Answer, status_of}
use Rattle.request_answers.specs.Objects.{Objects, IsSteady, HasRisen}
use Rattle.request_answers.specs.Promises.{is_one_of, HasCause, Details}

-- An outcome as an answer, and an end of a request that asks for this name and this path.
abbrev pub of_outcome : Outcome → Answer
of_outcome outcome = flat (said.OfAnyWord (outcome_meant outcome))

abbrev pub of_end : (name path : List ℕ) → StoreEnd → Answer
of_end name path end = flat (ending.answer_of name path end)

refused_done : {verdict : Verdict} → DoneWhole ≡ RefusedAt verdict → ⊥
refused_done e = cc

long_done : {file : ℕ} → DoneWhole ≡ TooLong file → ⊥
long_done e = cc

-- ---- which answers are allowed

-- The statuses of a row are enough for the ways in which a request ends.
pub record Suffice (ways : Ways) (inputs_rose out_rose : Type 0) (statuses : List ℕ) : Type 0 where
  pub done : is_one_of 0 statuses ≡ true
  pub refused : ways.refused → is_one_of 1 statuses ≡ true
  pub inputs : inputs_rose → is_one_of 3 statuses ≡ true
  pub output : out_rose → is_one_of 4 statuses ≡ true
  pub store : is_one_of 5 statuses ≡ true
  pub no_store : ways.not_store → is_one_of 6 statuses ≡ true
  pub memory : ways.memory → is_one_of 7 statuses ≡ true
  pub no_name : ways.no_name → is_one_of 8 statuses ≡ true
  pub no_file : ways.no_file → is_one_of 8 statuses ≡ true
  pub full : ways.log_full → is_one_of 10 statuses ≡ true
  pub long : ways.too_long → is_one_of 11 statuses ≡ true
  pub there : ways.store_there → is_one_of 12 statuses ≡ true
  pub damaged : ways.damaged → is_one_of 14 statuses ≡ true

module _ (ways : Ways) (done store_rose inputs_rose out_rose : Type 0) (statuses : List ℕ)
    (row : Suffice ways inputs_rose out_rose statuses) (name path : List ℕ) where
  pub allowed_end : (end : StoreEnd) → EndCaused ways done store_rose inputs_rose out_rose end
      → is_one_of (status_of (of_end name path end)) statuses ≡ true
  unfolding status_of
  allowed_end (made.Ends ended.Done) why = row.done
  allowed_end (made.Ends (ended.Refused verdict)) why = row.refused why
  allowed_end (made.Ends ended.InputFault) why = row.inputs why
  allowed_end (made.Ends ended.OutputFault) why = row.output why
  allowed_end (made.Ends ended.NoMemory) why = row.memory why
  allowed_end (made.Ends (ended.InputTooLong file)) why = row.long why
  allowed_end (made.Ends (ended.TooMuch sum)) why = absurd why
  allowed_end (made.Ends (ended.InputChanged file place)) why = absurd why
  allowed_end made.StoreFault why = row.store
  allowed_end (made.NotStore group) why = row.no_store why
  allowed_end made.NoName why = row.no_name why
  allowed_end made.NoFile why = row.no_file why
  allowed_end (made.LogFull end wanted limit) why = row.full why
  allowed_end (made.StoreThere size) why = row.there why
  allowed_end (made.Damaged group stored computed) why = row.damaged why.0

-- Each row.
module _ where
  pub audit_row : (inputs_rose out_rose : Type 0) → Suffice audit_ways inputs_rose out_rose ((0 ∷ 1 ∷ 3 ∷ 4 ∷ 7 ∷ 11 ∷ []) ++ 5 ∷ 6 ∷ [])
  unfolding is_one_of
  audit_row inputs_rose out_rose = record {
    done = refl;
    refused = λ why. refl;
    inputs = λ why. refl;
    output = λ why. refl;
    store = refl;
    no_store = λ why. refl;
    memory = λ why. refl;
    no_name = λ why. absurd why;
    no_file = λ why. absurd why;
    full = λ why. absurd why;
    long = λ why. refl;
    there = λ why. absurd why;
    damaged = λ why. absurd why;
  }

  pub list_row : (out_rose : Type 0) → Suffice list_ways ⊥ out_rose (0 ∷ 4 ∷ 5 ∷ 6 ∷ 7 ∷ [])
  unfolding is_one_of
  list_row out_rose = record {
    done = refl;
    refused = λ why. absurd why;
    inputs = λ why. absurd why;
    output = λ why. refl;
    store = refl;
    no_store = λ why. refl;
    memory = λ why. refl;
    no_name = λ why. absurd why;
    no_file = λ why. absurd why;
    full = λ why. absurd why;
    long = λ why. absurd why;
    there = λ why. absurd why;
    damaged = λ why. absurd why;
  }

  pub show_row : (out_rose : Type 0) → Suffice show_ways ⊥ out_rose (0 ∷ 4 ∷ 5 ∷ 6 ∷ 7 ∷ 8 ∷ [])
  unfolding is_one_of
  show_row out_rose = record {
    done = refl;
    refused = λ why. absurd why;
    inputs = λ why. absurd why;
    output = λ why. refl;
    store = refl;
    no_store = λ why. refl;
    memory = λ why. refl;
    no_name = λ why. refl;
    no_file = λ why. absurd why;
    full = λ why. absurd why;
    long = λ why. absurd why;
    there = λ why. absurd why;
    damaged = λ why. absurd why;
  }

  pub cat_row : (out_rose : Type 0) → Suffice cat_ways ⊥ out_rose (0 ∷ 4 ∷ 5 ∷ 6 ∷ 7 ∷ 8 ∷ [])
  unfolding is_one_of
  cat_row out_rose = record {
    done = refl;
    refused = λ why. absurd why;
    inputs = λ why. absurd why;
    output = λ why. refl;
    store = refl;
    no_store = λ why. refl;
    memory = λ why. refl;
    no_name = λ why. refl;
    no_file = λ why. refl;
    full = λ why. absurd why;
    long = λ why. absurd why;
    there = λ why. absurd why;
    damaged = λ why. absurd why;
  }

  pub scrub_row : (out_rose : Type 0) → Suffice scrub_ways ⊥ out_rose (0 ∷ 4 ∷ 5 ∷ 6 ∷ 7 ∷ 14 ∷ [])
  unfolding is_one_of
  scrub_row out_rose = record {
    done = refl;
    refused = λ why. absurd why;
    inputs = λ why. absurd why;
    output = λ why. refl;
    store = refl;
    no_store = λ why. refl;
    memory = λ why. refl;
    no_name = λ why. absurd why;
    no_file = λ why. absurd why;
    full = λ why. absurd why;
    long = λ why. absurd why;
    there = λ why. absurd why;
    damaged = λ why. refl;
  }

  pub init_row : Suffice init_ways ⊥ ⊥ (0 ∷ 5 ∷ 12 ∷ [])
  unfolding is_one_of
  init_row = record {
    done = refl;
    refused = λ why. absurd why;
    inputs = λ why. absurd why;
    output = λ why. absurd why;
    store = refl;
    no_store = λ why. absurd why;
    memory = λ why. absurd why;
    no_name = λ why. absurd why;
    no_file = λ why. absurd why;
    full = λ why. absurd why;
    long = λ why. absurd why;
    there = λ why. refl;
    damaged = λ why. absurd why;
  }

  pub drop_row : Suffice drop_ways ⊥ ⊥ (0 ∷ 5 ∷ 6 ∷ 7 ∷ 8 ∷ 10 ∷ [])
  unfolding is_one_of
  drop_row = record {
    done = refl;
    refused = λ why. absurd why;
    inputs = λ why. absurd why;
    output = λ why. absurd why;
    store = refl;
    no_store = λ why. refl;
    memory = λ why. refl;
    no_name = λ why. refl;
    no_file = λ why. absurd why;
    full = λ why. refl;
    long = λ why. absurd why;
    there = λ why. absurd why;
    damaged = λ why. absurd why;
  }

  pub receive_row : (inputs_rose out_rose : Type 0) → Suffice receive_ways inputs_rose out_rose (0 ∷ 1 ∷ 3 ∷ 4 ∷ 5 ∷ 6 ∷ 7 ∷ 10 ∷ 11 ∷ [])
  unfolding is_one_of
  receive_row inputs_rose out_rose = record {
    done = refl;
    refused = λ why. refl;
    inputs = λ why. refl;
    output = λ why. refl;
    store = refl;
    no_store = λ why. refl;
    memory = λ why. refl;
    no_name = λ why. absurd why;
    no_file = λ why. absurd why;
    full = λ why. refl;
    long = λ why. refl;
    there = λ why. absurd why;
    damaged = λ why. absurd why;
  }

  pub compose_over : (done store_rose inputs_rose ends_rose out_rose : Type 0) (end : StoreEnd)
      → ComposeCaused done store_rose inputs_rose ends_rose out_rose end
      → is_one_of (status_of (of_end [] [] end)) ((0 ∷ 1 ∷ 3 ∷ 4 ∷ 7 ∷ 9 ∷ 11 ∷ 13 ∷ []) ++ 5 ∷ 6 ∷ []) ≡ true
  unfolding is_one_of status_of
  compose_over done store_rose inputs_rose ends_rose out_rose (made.Ends ended.Done) why = refl
  compose_over done store_rose inputs_rose ends_rose out_rose (made.Ends (ended.Refused verdict)) why = refl
  compose_over done store_rose inputs_rose ends_rose out_rose (made.Ends ended.InputFault) why = refl
  compose_over done store_rose inputs_rose ends_rose out_rose (made.Ends ended.OutputFault) why = refl
  compose_over done store_rose inputs_rose ends_rose out_rose (made.Ends ended.NoMemory) why = refl
  compose_over done store_rose inputs_rose ends_rose out_rose (made.Ends (ended.InputTooLong file)) why = refl
  compose_over done store_rose inputs_rose ends_rose out_rose (made.Ends (ended.TooMuch sum)) why = refl
  compose_over done store_rose inputs_rose ends_rose out_rose (made.Ends (ended.InputChanged file place)) why = refl
  compose_over done store_rose inputs_rose ends_rose out_rose made.StoreFault why = refl
  compose_over done store_rose inputs_rose ends_rose out_rose (made.NotStore group) why = refl
  compose_over done store_rose inputs_rose ends_rose out_rose made.NoName why = absurd why
  compose_over done store_rose inputs_rose ends_rose out_rose made.NoFile why = absurd why
  compose_over done store_rose inputs_rose ends_rose out_rose (made.LogFull end wanted limit) why = absurd why
  compose_over done store_rose inputs_rose ends_rose out_rose (made.StoreThere size) why = absurd why
  compose_over done store_rose inputs_rose ends_rose out_rose (made.Damaged group stored computed) why = absurd why

  pub compose_alone : (outcome : Outcome) → is_one_of (status_of (of_outcome outcome)) (0 ∷ 1 ∷ 3 ∷ 4 ∷ 7 ∷ 9 ∷ 11 ∷ 13 ∷ []) ≡ true
  unfolding is_one_of status_of
  compose_alone ended.Done = refl
  compose_alone (ended.Refused verdict) = refl
  compose_alone ended.InputFault = refl
  compose_alone ended.OutputFault = refl
  compose_alone ended.NoMemory = refl
  compose_alone (ended.InputTooLong file) = refl
  compose_alone (ended.TooMuch sum) = refl
  compose_alone (ended.InputChanged file place) = refl

  pub read_alone : (reads read_now writes wrote_now : ℕ) (outcome : Outcome)
      → Caused reads read_now writes wrote_now outcome
      → is_one_of (status_of (of_outcome outcome)) (0 ∷ 1 ∷ 3 ∷ 4 ∷ 7 ∷ 11 ∷ []) ≡ true
  unfolding is_one_of status_of
  read_alone reads read_now writes wrote_now ended.Done why = refl
  read_alone reads read_now writes wrote_now (ended.Refused verdict) why = refl
  read_alone reads read_now writes wrote_now ended.InputFault why = refl
  read_alone reads read_now writes wrote_now ended.OutputFault why = refl
  read_alone reads read_now writes wrote_now ended.NoMemory why = refl
  read_alone reads read_now writes wrote_now (ended.InputTooLong file) why = refl
  read_alone reads read_now writes wrote_now (ended.TooMuch sum) why = absurd why
  read_alone reads read_now writes wrote_now (ended.InputChanged file place) why = absurd why

  -- What is made of numbers is all done, unless the output failed or there was no memory.
  pub made_alone : (request : streams.Request) (outcome : Outcome) (written : List ℕ) → due request [] [] ≡ DoneWhole
      → Ends request [] [] outcome written → (before now : ℕ) → Caused 0 0 before now outcome
      → is_one_of (status_of (of_outcome outcome)) (0 ∷ 4 ∷ 7 ∷ []) ≡ true
  unfolding is_one_of status_of
  made_alone request ended.Done written is ends before now why = refl
  made_alone request ended.OutputFault written is ends before now why = refl
  made_alone request ended.NoMemory written is ends before now why = refl
  made_alone request (ended.Refused verdict) written is ends before now why = absurd (refused_done (sym is ∙ ends.0))
  made_alone request (ended.InputTooLong file) written is ends before now why = absurd (long_done (sym is ∙ ends.0))
  made_alone request ended.InputFault written is ends before now why = absurd (omega (arith, why))
  made_alone request (ended.TooMuch sum) written is ends before now why = absurd why
  made_alone request (ended.InputChanged file place) written is ends before now why = absurd why

-- ---- causes

module _ (o : Objects) where
  pub cause_end : (ways : Ways) (done store_rose inputs_rose out_rose : Type 0) (name path : List ℕ)
      → (done → HasCause o (of_outcome ended.Done)) → (store_rose → HasRisen o.disk_faults)
      → (inputs_rose → HasRisen o.input_faults) → (out_rose → HasRisen o.output_faults)
      → (end : StoreEnd) → EndCaused ways done store_rose inputs_rose out_rose end
      → HasCause o (of_end name path end)
  cause_end ways done store_rose inputs_rose out_rose name path all store inputs output (made.Ends ended.Done) why = all why
  cause_end ways done store_rose inputs_rose out_rose name path all store inputs output (made.Ends (ended.Refused verdict)) why = tt
  cause_end ways done store_rose inputs_rose out_rose name path all store inputs output (made.Ends ended.InputFault) why = inputs why
  cause_end ways done store_rose inputs_rose out_rose name path all store inputs output (made.Ends ended.OutputFault) why = output why
  cause_end ways done store_rose inputs_rose out_rose name path all store inputs output (made.Ends ended.NoMemory) why = tt
  cause_end ways done store_rose inputs_rose out_rose name path all store inputs output (made.Ends (ended.InputTooLong file)) why = tt
  cause_end ways done store_rose inputs_rose out_rose name path all store inputs output (made.Ends (ended.TooMuch sum)) why = absurd why
  cause_end ways done store_rose inputs_rose out_rose name path all store inputs output (made.Ends (ended.InputChanged file place)) why = absurd why
  cause_end ways done store_rose inputs_rose out_rose name path all store inputs output made.StoreFault why = store why
  cause_end ways done store_rose inputs_rose out_rose name path all store inputs output (made.NotStore group) why = tt
  cause_end ways done store_rose inputs_rose out_rose name path all store inputs output made.NoName why = tt
  cause_end ways done store_rose inputs_rose out_rose name path all store inputs output made.NoFile why = tt
  cause_end ways done store_rose inputs_rose out_rose name path all store inputs output (made.LogFull end wanted limit) why = tt
  cause_end ways done store_rose inputs_rose out_rose name path all store inputs output (made.StoreThere size) why = tt
  cause_end ways done store_rose inputs_rose out_rose name path all store inputs output (made.Damaged group stored computed) why = tt

  pub cause_compose : (done store_rose inputs_rose ends_rose out_rose : Type 0)
      → (done → HasCause o (of_outcome ended.Done)) → (store_rose → HasRisen o.disk_faults)
      → (inputs_rose → HasRisen o.input_faults) → (ends_rose → HasRisen o.early_ends)
      → (out_rose → HasRisen o.output_faults) → (end : StoreEnd)
      → ComposeCaused done store_rose inputs_rose ends_rose out_rose end
      → HasCause o (of_end [] [] end)
  cause_compose done store_rose inputs_rose ends_rose out_rose all store inputs ends output (made.Ends ended.Done) why = all why
  cause_compose done store_rose inputs_rose ends_rose out_rose all store inputs ends output (made.Ends (ended.Refused verdict)) why = tt
  cause_compose done store_rose inputs_rose ends_rose out_rose all store inputs ends output (made.Ends ended.InputFault) why = inputs why
  cause_compose done store_rose inputs_rose ends_rose out_rose all store inputs ends output (made.Ends ended.OutputFault) why = output why
  cause_compose done store_rose inputs_rose ends_rose out_rose all store inputs ends output (made.Ends ended.NoMemory) why = tt
  cause_compose done store_rose inputs_rose ends_rose out_rose all store inputs ends output (made.Ends (ended.InputTooLong file)) why = tt
  cause_compose done store_rose inputs_rose ends_rose out_rose all store inputs ends output (made.Ends (ended.TooMuch sum)) why = tt
  cause_compose done store_rose inputs_rose ends_rose out_rose all store inputs ends output (made.Ends (ended.InputChanged file place)) why = ends why
  cause_compose done store_rose inputs_rose ends_rose out_rose all store inputs ends output made.StoreFault why = store why
  cause_compose done store_rose inputs_rose ends_rose out_rose all store inputs ends output (made.NotStore group) why = tt
  cause_compose done store_rose inputs_rose ends_rose out_rose all store inputs ends output made.NoName why = absurd why
  cause_compose done store_rose inputs_rose ends_rose out_rose all store inputs ends output made.NoFile why = absurd why
  cause_compose done store_rose inputs_rose ends_rose out_rose all store inputs ends output (made.LogFull end wanted limit) why = absurd why
  cause_compose done store_rose inputs_rose ends_rose out_rose all store inputs ends output (made.StoreThere size) why = absurd why
  cause_compose done store_rose inputs_rose ends_rose out_rose all store inputs ends output (made.Damaged group stored computed) why = absurd why

  pub cause_alone : (outcome : Outcome) → SteadyIfDone o.input_faults.before o.input_faults.after outcome
      → SteadyIfDone o.early_ends.before o.early_ends.after outcome
      → SteadyIfDone o.output_faults.before o.output_faults.after outcome → IsSteady o.disk_faults
      → Caused o.input_faults.before o.input_faults.after o.output_faults.before o.output_faults.after outcome
      → HasCause o (of_outcome outcome)
  cause_alone ended.Done inputs ends output disk why = (inputs, (ends, (output, disk)))
  cause_alone (ended.Refused verdict) inputs ends output disk why = tt
  cause_alone ended.InputFault inputs ends output disk why = why
  cause_alone ended.OutputFault inputs ends output disk why = why
  cause_alone ended.NoMemory inputs ends output disk why = tt
  cause_alone (ended.InputTooLong file) inputs ends output disk why = tt
  cause_alone (ended.TooMuch sum) inputs ends output disk why = absurd why
  cause_alone (ended.InputChanged file place) inputs ends output disk why = absurd why

  pub cause_made : (outcome : Outcome) → SteadyIfDone o.input_faults.before o.input_faults.after outcome
      → SteadyIfDone o.early_ends.before o.early_ends.after outcome
      → SteadyIfDone o.output_faults.before o.output_faults.after outcome → IsSteady o.disk_faults
      → Caused 0 0 o.output_faults.before o.output_faults.after outcome → HasCause o (of_outcome outcome)
  cause_made ended.Done inputs ends output disk why = (inputs, (ends, (output, disk)))
  cause_made (ended.Refused verdict) inputs ends output disk why = tt
  cause_made ended.InputFault inputs ends output disk why = absurd (omega (arith, why))
  cause_made ended.OutputFault inputs ends output disk why = why
  cause_made ended.NoMemory inputs ends output disk why = tt
  cause_made (ended.InputTooLong file) inputs ends output disk why = tt
  cause_made (ended.TooMuch sum) inputs ends output disk why = absurd why
  cause_made (ended.InputChanged file place) inputs ends output disk why = absurd why

  pub cause_again : (outcome : Outcome) → SteadyIfDone o.input_faults.before o.input_faults.after outcome
      → SteadyIfDone o.early_ends.before o.early_ends.after outcome
      → SteadyIfDone o.output_faults.before o.output_faults.after outcome → IsSteady o.disk_faults
      → CausedAgain (record { ends = o.early_ends.before; reads = o.input_faults.before; writes = o.output_faults.before })
      (record { ends = o.early_ends.after; reads = o.input_faults.after; writes = o.output_faults.after }) outcome
      → HasCause o (of_outcome outcome)
  cause_again ended.Done inputs ends output disk why = (inputs, (ends, (output, disk)))
  cause_again (ended.Refused verdict) inputs ends output disk why = tt
  cause_again ended.InputFault inputs ends output disk why = why
  cause_again ended.OutputFault inputs ends output disk why = why
  cause_again ended.NoMemory inputs ends output disk why = tt
  cause_again (ended.InputTooLong file) inputs ends output disk why = tt
  cause_again (ended.TooMuch sum) inputs ends output disk why = tt
  cause_again (ended.InputChanged file place) inputs ends output disk why = why

  -- ---- details

  module _ (request : Request) where
    pub details_end : (ways : Ways) (done store_rose inputs_rose out_rose : Type 0) (name path : List ℕ)
        (end : StoreEnd) → EndCaused ways done store_rose inputs_rose out_rose end
        → Details o request (of_end name path end)
    details_end ways done store_rose inputs_rose out_rose name path (made.Ends ended.Done) why = tt
    details_end ways done store_rose inputs_rose out_rose name path (made.Ends (ended.Refused verdict)) why = tt
    details_end ways done store_rose inputs_rose out_rose name path (made.Ends ended.InputFault) why = tt
    details_end ways done store_rose inputs_rose out_rose name path (made.Ends ended.OutputFault) why = tt
    details_end ways done store_rose inputs_rose out_rose name path (made.Ends ended.NoMemory) why = tt
    details_end ways done store_rose inputs_rose out_rose name path (made.Ends (ended.InputTooLong file)) why = tt
    details_end ways done store_rose inputs_rose out_rose name path (made.Ends (ended.TooMuch sum)) why = tt
    details_end ways done store_rose inputs_rose out_rose name path (made.Ends (ended.InputChanged file place)) why = absurd why
    details_end ways done store_rose inputs_rose out_rose name path made.StoreFault why = tt
    details_end ways done store_rose inputs_rose out_rose name path (made.NotStore group) why = tt
    details_end ways done store_rose inputs_rose out_rose name path made.NoName why = tt
    details_end ways done store_rose inputs_rose out_rose name path made.NoFile why = tt
    details_end ways done store_rose inputs_rose out_rose name path (made.LogFull end wanted limit) why = tt
    details_end ways done store_rose inputs_rose out_rose name path (made.StoreThere size) why = tt
    details_end ways done store_rose inputs_rose out_rose name path (made.Damaged group stored computed) why = why.1

    pub details_compose : (done store_rose inputs_rose ends_rose out_rose : Type 0) (end : StoreEnd)
        → ComposeCaused done store_rose inputs_rose ends_rose out_rose end
        → ChangeFound (profile request).files.files o.last_end end → Details o request (of_end [] [] end)
    details_compose done store_rose inputs_rose ends_rose out_rose (made.Ends ended.Done) why found = tt
    details_compose done store_rose inputs_rose ends_rose out_rose (made.Ends (ended.Refused verdict)) why found = tt
    details_compose done store_rose inputs_rose ends_rose out_rose (made.Ends ended.InputFault) why found = tt
    details_compose done store_rose inputs_rose ends_rose out_rose (made.Ends ended.OutputFault) why found = tt
    details_compose done store_rose inputs_rose ends_rose out_rose (made.Ends ended.NoMemory) why found = tt
    details_compose done store_rose inputs_rose ends_rose out_rose (made.Ends (ended.InputTooLong file)) why found = tt
    details_compose done store_rose inputs_rose ends_rose out_rose (made.Ends (ended.TooMuch sum)) why found = tt
    details_compose done store_rose inputs_rose ends_rose out_rose (made.Ends (ended.InputChanged file place)) why found = found
    details_compose done store_rose inputs_rose ends_rose out_rose made.StoreFault why found = tt
    details_compose done store_rose inputs_rose ends_rose out_rose (made.NotStore group) why found = tt
    details_compose done store_rose inputs_rose ends_rose out_rose made.NoName why found = tt
    details_compose done store_rose inputs_rose ends_rose out_rose made.NoFile why found = tt
    details_compose done store_rose inputs_rose ends_rose out_rose (made.LogFull end wanted limit) why found = tt
    details_compose done store_rose inputs_rose ends_rose out_rose (made.StoreThere size) why found = tt
    details_compose done store_rose inputs_rose ends_rose out_rose (made.Damaged group stored computed) why found = absurd why

    pub details_alone : (reads read_now writes wrote_now : ℕ) (outcome : Outcome)
        → Caused reads read_now writes wrote_now outcome → Details o request (of_outcome outcome)
    details_alone reads read_now writes wrote_now ended.Done why = tt
    details_alone reads read_now writes wrote_now (ended.Refused verdict) why = tt
    details_alone reads read_now writes wrote_now ended.InputFault why = tt
    details_alone reads read_now writes wrote_now ended.OutputFault why = tt
    details_alone reads read_now writes wrote_now ended.NoMemory why = tt
    details_alone reads read_now writes wrote_now (ended.InputTooLong file) why = tt
    details_alone reads read_now writes wrote_now (ended.TooMuch sum) why = tt
    details_alone reads read_now writes wrote_now (ended.InputChanged file place) why = absurd why

    pub details_again : (outcome : Outcome) → FoundChanged (profile request).files.files o.last_end outcome
        → Details o request (of_outcome outcome)
    details_again ended.Done found = tt
    details_again (ended.Refused verdict) found = tt
    details_again ended.InputFault found = tt
    details_again ended.OutputFault found = tt
    details_again ended.NoMemory found = tt
    details_again (ended.InputTooLong file) found = tt
    details_again (ended.TooMuch sum) found = tt
    details_again (ended.InputChanged file place) found = found
