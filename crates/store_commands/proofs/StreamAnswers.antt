-- What a word on streams answers over a store, from how the same request ends over the subvolumes
-- that the image stands for.
use Rattle.std.specs.Prelude.{◌≡◌, ℕ, Bool, true, List, [], map, Option, None, Some, Err}
use Rattle.std.proofs.Common.{refl, sym, ap, subst}
use Rattle.send_model.specs.Guards.{GuardSpec}
use Rattle.send_model.specs.Store.{Store}
use Rattle.send_model.specs.Due.{Due, DoneWhole, RefusedAt, TooLong, TooMuch}
use Rattle.send_model.specs.Overridden.{Overrides}
use Rattle.send_model.specs.Sources.{Sources, due_of, EndSaysOf, StandsBeforeOf, StandsCutOf}
use Rattle.send_model.specs.Words as streams
use Rattle.send_model.specs.Words.{Compose, Audit, Export, new_guards}
use Rattle.sx_base.specs.Outside.{file_at}
use Rattle.sx_base.specs.Calls.{IfAllTold}
use Rattle.sx_base.specs.Refusals.{verdict_meant}
use Rattle.sx_base.specs.declared.outcome.Outcome.{Outcome}
use Rattle.sx_base.specs.declared.outcome.Outcome.TheVariants as ended
use Rattle.store_model.specs.Stored.{StandsFor, StandsForNone}
use Rattle.store_model.specs.Dues as dues
use Rattle.store_model.specs.NamedFiles.{NamedFiles, read_of}
use Rattle.store_model.specs.Requests.{OfStreams, store_of, reads_store, base_over, StreamsWrite, IsStreamsDue, StreamsSay, at_entry}
use Rattle.store_model.specs.Answers.{StreamsInput, StandsInput, Answers, OfAnyWord, DueSays, StandsBefore, StandsFault, StreamsBefore, StreamsCut, StreamsFault}
use Rattle.part_names.specs.Overriding.{sources_with, EndsOf}
use Rattle.auditor.specs.Answers.{AuditEnds}
use Rattle.group_replay.specs.declared.stops.StoreStop.{StoreStop}
use Rattle.group_replay.specs.Stopping.{IfLog, IsNoRefusal}
use Rattle.store_journal.specs.Shown.{StoreState}
use Rattle.store_journal.specs.Opening.{OpenSays, IsOpenStop}
use Rattle.store_commands.specs.declared.ends.StoreEnd.{StoreEnd}
use Rattle.store_commands.specs.Ending.{outcome_meant, answer_of, end_by}
use Rattle.store_commands.proofs.Opened.{by_store, by_none, not_opened}

-- ---- how a request ends, whatever the places of its words

module _ (base : Store ℕ) (written : List ℕ) (store at : ℕ) where
  pub compose_ends : (read : Sources) (outcome : Outcome) → EndsOf (Compose 1 2) base read outcome written → EndsOf (Compose store at) base read outcome written
  compose_ends read ended.Done w = w
  compose_ends read (ended.Refused verdict) w = w
  compose_ends read (ended.InputTooLong file) w = w
  compose_ends read (ended.TooMuch sum) w = w
  compose_ends read (ended.InputChanged file place) w = w
  compose_ends read ended.InputFault w = w
  compose_ends read ended.OutputFault w = w
  compose_ends read ended.NoMemory w = w

  -- Under guards that are new ones of their kinds.
  pub audit_ends : (names : Overrides) (files : List (List ℕ)) (specs : List GuardSpec) (outcome : Outcome) → AuditEnds base (new_guards specs) names files outcome written
      → EndsOf (Audit specs store at) base (sources_with names files) outcome written
  audit_ends names files specs ended.Done w = w
  audit_ends names files specs (ended.Refused verdict) w = w
  audit_ends names files specs (ended.InputTooLong file) w = w
  audit_ends names files specs (ended.TooMuch sum) w = w
  audit_ends names files specs (ended.InputChanged file place) w = w
  audit_ends names files specs ended.InputFault w = w
  audit_ends names files specs ended.OutputFault w = w
  audit_ends names files specs ended.NoMemory w = w

  pub export_ends : (read : Sources) (outcome : Outcome) → EndsOf (Export 0 0) base read outcome written → EndsOf (Export store at) base read outcome written
  export_ends read ended.Done w = w
  export_ends read (ended.Refused verdict) w = w
  export_ends read (ended.InputTooLong file) w = w
  export_ends read (ended.TooMuch sum) w = w
  export_ends read (ended.InputChanged file place) w = w
  export_ends read ended.InputFault w = w
  export_ends read ended.OutputFault w = w
  export_ends read ended.NoMemory w = w

-- ---- the answers

module _ (request : streams.Request) (words : List (List ℕ)) (image : List ℕ) (files : NamedFiles) (reads : reads_store words (store_of request) ≡ true) where
  abbrev read : Sources
  read = read_of files

  says : (the_due : dues.Due) (written : List ℕ) → IsStreamsDue true request image read the_due → StreamsSay true request image read the_due written → DueSays (OfStreams request) (at_entry words image files) the_due written image
  says the_due written is_due say =
      (subst (λ (b : Bool). IsStreamsDue b request image read the_due) (sym reads) is_due, (refl, subst (λ (b : Bool). StreamsSay b request image read the_due written) (sym reads) say))

  before : (written : List ℕ) → StreamsBefore true request image read written → StandsBefore (OfStreams request) words image files written image
  before written stands = (refl, subst (λ (b : Bool). StreamsBefore b request image read written) (sym reads) stands)

  pub at_fault : (written : List ℕ) → StreamsBefore true request image read written → StandsFault (OfStreams request) words image files written image
  at_fault written stands = (refl, subst (λ (b : Bool). StreamsFault b request image read written) (sym reads) stands)

  of_none : (group : ℕ) → StandsForNone image group → DueSays (OfStreams request) (at_entry words image files) (dues.NotStore group) [] image
  of_none group fails = says (dues.NotStore group) [] fails (by_none image group (λ s. StreamsWrite request (base_over request read s) read (dues.NotStore group) []) ([] ≡ []) fails refl)

  -- Where the store does not open, for a request that may have written nothing.
  pub stopped_answers : ((s : Store ℕ) → StandsBeforeOf request (base_over request read s) read [])
      → (cause : Type 0) (why : StoreStop) (end : StoreEnd) → end ≡ end_by why → IsNoRefusal why → IfLog {T = StoreState} (Err why) (IsOpenStop cause) → OpenSays image (Err why)
      → Answers (OfStreams request) (at_entry words image files) (answer_of [] [] end) [] image
  stopped_answers none cause why end is kind stops opened =
      let nothing : StreamsBefore true request image read [] = ((λ s stands. none s), (λ group fails. refl)) in
      subst (λ (e : StoreEnd). Answers (OfStreams request) (at_entry words image files) (answer_of [] [] e) [] image) (sym is)
      (not_opened (OfStreams request) words image files [] [] cause why (before [] nothing) (at_fault [] nothing) of_none kind stops opened)

  module _ (s : Store ℕ) (stands : StandsFor image s) (written : List ℕ) where
    due_is : (the_due : Due) → due_of request (base_over request read s) read ≡ the_due → EndSaysOf request (base_over request read s) read the_due written → DueSays (OfStreams request) (at_entry words image files) (dues.Ends the_due) written image
    due_is the_due is say =
        says (dues.Ends the_due) written (s, stands, ap (λ (d : Due). dues.Ends d) (sym is))
        (by_store image s (λ t. StreamsWrite request (base_over request read t) read (dues.Ends the_due) written) (written ≡ []) stands say)

    pub stood : StandsBeforeOf request (base_over request read s) read written → StreamsBefore true request image read written
    stood p = by_store image s (λ t. StandsBeforeOf request (base_over request read t) read written) (written ≡ []) stands p

    from_input : StandsBeforeOf request (base_over request read s) read written → StandsInput (OfStreams request) words image files written image
    from_input p = (refl, subst (λ (b : Bool). StreamsInput b request image read written) (sym reads) (by_store image s (λ t. StandsBeforeOf request (base_over request read t) read written) ⊥ stands p))

    -- Where it opens.
    pub ends_answer : (outcome : Outcome) → EndsOf request (base_over request read s) read outcome written → Answers (OfStreams request) (at_entry words image files) (OfAnyWord (outcome_meant outcome)) written image
    ends_answer ended.Done p = due_is DoneWhole p.0 p.1
    ends_answer (ended.Refused verdict) p = due_is (RefusedAt (verdict_meant verdict)) p.0 p.1
    ends_answer (ended.InputTooLong file) p = due_is (TooLong file) p.0 p.1
    ends_answer (ended.TooMuch sum) p = due_is (TooMuch sum) p.0 p.1
    ends_answer ended.InputFault p = (tt, from_input p)
    ends_answer (ended.InputChanged file place) p = (tt, from_input p)
    ends_answer ended.OutputFault p =
        (refl, subst (λ (b : Bool). StreamsCut b request image read written) (sym reads) (by_store image s (λ t. StandsCutOf request (base_over request read t) read written) ⊥ stands p))
    ends_answer ended.NoMemory p = before written (stood p)

-- ---- files that are told

pub always_told : (told : Option (List (List ℕ × List ℕ))) (names : List (List ℕ)) (P : List (List ℕ) → Type 0) → ((files : List (List ℕ)) → P files) → IfAllTold told names P
always_told None names P holds = tt
always_told (Some table) names P holds = holds (map (file_at table) names)

pub then_told : (told : Option (List (List ℕ × List ℕ))) (names : List (List ℕ)) (P Q : List (List ℕ) → Type 0) → ((files : List (List ℕ)) → P files → Q files) → IfAllTold told names P → IfAllTold told names Q
then_told None names P Q follows holds = tt
then_told (Some table) names P Q follows holds = follows (map (file_at table) names) holds
