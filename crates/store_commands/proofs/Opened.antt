-- The store that an image stands for is one, so what is said of it is said of each; and what stands
-- where a store does not open.
use Rattle.std.specs.Prelude.{◌≡◌, ℕ, List, [], Err}
use Rattle.std.proofs.Common.{refl, subst}
use Rattle.send_model.specs.Store.{Store}
use Rattle.send_model.specs.Headline.{IsFrontOf}
use Rattle.send_model.proofs.Fronts.{is_front}
use Rattle.store_model.specs.Stored.{as_bytes, StandsFor, StandsForNone}
use Rattle.store_model.specs.NamedFiles.{NamedFiles}
use Rattle.store_model.specs.Requests.{Request, ByImage, at_entry}
use Rattle.store_model.specs.Dues as dues
use Rattle.store_model.specs.Answers.{Answers, PrintsBefore, StandsBefore, StandsFault, DueSays}
use Rattle.store_model.proofs.OneStore.{one_store, never_both}
use Rattle.group_log.specs.declared.stops.LogStop.TheVariants as log
use Rattle.group_replay.specs.declared.stops.StoreStop.{StoreStop}
use Rattle.group_replay.specs.declared.stops.StoreStop.TheVariants as stop
use Rattle.group_replay.specs.Stopping.{IfLog, IsNoRefusal}
use Rattle.store_journal.specs.Shown.{StoreState}
use Rattle.store_journal.specs.Opening.{OpenSays, IsOpenStop}
use Rattle.sx_base.specs.declared.outcome.Outcome.TheVariants as ended
use Rattle.sx_base.specs.declared.outcome.Verdict.{Verdict}
use Rattle.store_commands.specs.declared.ends.StoreEnd.TheVariants as made
use Rattle.store_commands.specs.Ending.{answer_of, end_by, Ways, EndCaused}

pub by_store : (image : List ℕ) (s : Store ℕ) (P : Store ℕ → Type 0) (none : Type 0) → StandsFor image s → P s → ByImage image P none
by_store image s P none stands p = ((λ t other. subst P (one_store 0 as_bytes image s t stands other) p), (λ group fails. absurd (never_both image s group stands fails)))

pub by_none : (image : List ℕ) (group : ℕ) (P : Store ℕ → Type 0) (none : Type 0) → StandsForNone image group → none → ByImage image P none
by_none image group P none fails n = ((λ t stands. absurd (never_both image t group stands fails)), (λ other more. n))

pub nothing_in_front : (all : List ℕ) → IsFrontOf all []
nothing_in_front all = is_front all [] all refl

pub nothing_printed : (image : List ℕ) (whole : Store ℕ → List ℕ) → PrintsBefore image whole [] image
nothing_printed image whole = (refl, ((λ s stands. nothing_in_front (whole s)), (λ group fails. refl)))

-- Where opening stops, nothing is written or changed, and the word answers so.
pub not_opened : (request : Request) (words : List (List ℕ)) (image : List ℕ) (files : NamedFiles) (name path : List ℕ) (cause : Type 0) (why : StoreStop)
    → StandsBefore request words image files [] image → StandsFault request words image files [] image
    → ((group : ℕ) → StandsForNone image group → DueSays request (at_entry words image files) (dues.NotStore group) [] image)
    → IsNoRefusal why → IfLog {T = StoreState} (Err why) (IsOpenStop cause) → OpenSays image (Err why) → Answers request (at_entry words image files) (answer_of name path (end_by why)) [] image
not_opened request words image files name path cause (stop.Refused refusal) before fault none kind stops says = absurd kind
not_opened request words image files name path cause stop.NoMemory before fault none kind stops says = before
not_opened request words image files name path cause (stop.Log log.DiskFault) before fault none kind stops says = fault
not_opened request words image files name path cause (stop.Log (log.NotStore group)) before fault none kind stops says = none group says
not_opened request words image files name path cause (stop.Log (log.LogFull end wanted limit)) before fault none kind stops says = absurd stops
not_opened request words image files name path cause (stop.Log (log.StoreThere size)) before fault none kind stops says = absurd stops

-- What is said of it whether or not anything tells.
pub opening_stops : (ways : Ways) (done store_rose inputs_rose out_rose : Type 0) (why : StoreStop) → ways.memory → ways.not_store → IsNoRefusal why → IfLog {T = StoreState} (Err why) (IsOpenStop store_rose)
    → EndCaused ways done store_rose inputs_rose out_rose (end_by why)
opening_stops ways done store_rose inputs_rose out_rose (stop.Refused refusal) memory none kind stops = absurd kind
opening_stops ways done store_rose inputs_rose out_rose stop.NoMemory memory none kind stops = memory
opening_stops ways done store_rose inputs_rose out_rose (stop.Log log.DiskFault) memory none kind stops = stops
opening_stops ways done store_rose inputs_rose out_rose (stop.Log (log.NotStore group)) memory none kind stops = none
opening_stops ways done store_rose inputs_rose out_rose (stop.Log (log.LogFull end wanted limit)) memory none kind stops = absurd stops
opening_stops ways done store_rose inputs_rose out_rose (stop.Log (log.StoreThere size)) memory none kind stops = absurd stops

-- A store that does not open is no word that is done.
pub no_end : (why : StoreStop) → IsNoRefusal why → end_by why ≡ made.Ends ended.Done → ⊥
no_end (stop.Refused refusal) kind e = kind
no_end stop.NoMemory kind e = cc
no_end (stop.Log log.DiskFault) kind e = cc
no_end (stop.Log (log.NotStore group)) kind e = cc
no_end (stop.Log (log.LogFull wanted size limit)) kind e = cc
no_end (stop.Log (log.StoreThere size)) kind e = cc

-- Nor does it refuse a command.
pub no_refusal : (why : StoreStop) (verdict : Verdict) → IsNoRefusal why → end_by why ≡ made.Ends (ended.Refused verdict) → ⊥
no_refusal (stop.Refused refusal) verdict kind e = kind
no_refusal stop.NoMemory verdict kind e = cc
no_refusal (stop.Log log.DiskFault) verdict kind e = cc
no_refusal (stop.Log (log.NotStore group)) verdict kind e = cc
no_refusal (stop.Log (log.LogFull wanted size limit)) verdict kind e = cc
no_refusal (stop.Log (log.StoreThere size)) verdict kind e = cc
