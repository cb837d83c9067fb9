-- What scrubbing answers.
use Rattle.std.specs.Prelude.{◌≡◌, ℕ, ◌<◌, List, [], length, take}
use Rattle.std.proofs.Common.{refl, subst}
use Rattle.send_model.specs.Answer.{Done, OutputFault}
use Rattle.send_model.specs.Headline.{IsProperFrontOf}
use Rattle.store_model.specs.Scrub.{IsScrubbed, scrub_line}
use Rattle.store_model.specs.NamedFiles.{unnamed}
use Rattle.store_model.specs.Requests.{ScrubStore, at_entry}
use Rattle.store_model.specs.Answers.{Answers, OfAnyWord}
use Rattle.group_log.specs.declared.stops.LogStop.TheVariants as log
use Rattle.store_scrub.specs.declared.stops.ScrubStop.{ScrubStop}
use Rattle.store_scrub.specs.declared.stops.ScrubStop.TheVariants as stop
use Rattle.store_scrub.specs.Found.{IsStopAt, IsStop}
use Rattle.store_commands.specs.Ending.{answer_of, end_scrub, scrub_ways, EndCaused}

pub scrub_done : (words : List (List ℕ)) (store : ℕ) (image : List ℕ) (groups plain : ℕ) (written : List ℕ) → IsScrubbed image groups plain → written ≡ scrub_line groups plain → Answers (ScrubStore store) (at_entry words image (unnamed [])) (OfAnyWord Done) written image
scrub_done words store image groups plain written is all = ((written, (refl, (groups, plain, is, all))), (refl, (refl, (groups, plain, is, all))))

pub scrub_cut : (words : List (List ℕ)) (store : ℕ) (image : List ℕ) (groups plain : ℕ) (line : List ℕ) (count : ℕ) → IsScrubbed image groups plain → line ≡ scrub_line groups plain → count < length line
    → Answers (ScrubStore store) (at_entry words image (unnamed [])) (OfAnyWord OutputFault) (take count line) image
scrub_cut words store image groups plain line count is whole less =
    (refl, (groups, plain, is, subst (λ (l : List ℕ). IsProperFrontOf l (take count line)) whole (record { count = count; within = less; written_is = refl })))

pub scrub_stops : (words : List (List ℕ)) (store : ℕ) (image : List ℕ) (cause : Type 0) (why : ScrubStop) → IsStopAt image why → IsStop cause why → Answers (ScrubStore store) (at_entry words image (unnamed [])) (answer_of [] [] (end_scrub why)) [] image
scrub_stops words store image cause (stop.Log log.DiskFault) says stops = (refl, refl)
scrub_stops words store image cause (stop.Log (log.NotStore group)) says stops = (([], (says, refl)), (refl, (says, refl)))
scrub_stops words store image cause (stop.Log (log.LogFull end wanted limit)) says stops = absurd stops
scrub_stops words store image cause (stop.Log (log.StoreThere size)) says stops = absurd stops
scrub_stops words store image cause (stop.Damaged group stored computed) says stops = (([], (says, refl)), (refl, (says, refl)))

pub scrub_caused : (done rose out_rose : Type 0) (why : ScrubStop) → IsStop rose why → EndCaused scrub_ways done rose ⊥ out_rose (end_scrub why)
scrub_caused done rose out_rose (stop.Log log.DiskFault) stops = stops
scrub_caused done rose out_rose (stop.Log (log.NotStore group)) stops = tt
scrub_caused done rose out_rose (stop.Log (log.LogFull end wanted limit)) stops = absurd stops
scrub_caused done rose out_rose (stop.Log (log.StoreThere size)) stops = absurd stops
scrub_caused done rose out_rose (stop.Damaged group stored computed) stops = (tt, stops)
