-- What composing over a store answers, from how it ends over the store that the image stands for.
use Rattle.std.specs.Prelude.{◌≡◌, ℕ, true, List, [], Option, Some, Err}
use Rattle.std.proofs.Common.{sym, subst, ◌∙◌}
use Rattle.std.proofs.KnownBytes.{Appends-nil}
use Rattle.send_model.specs.Store.{Store}
use Rattle.send_model.specs.Headline.{IsComposedOf, whole_output_of}
use Rattle.send_model.specs.Reading.{input}
use Rattle.send_model.specs.Overridden.{Overrides, overridden}
use Rattle.send_model.specs.Words.{Compose}
use Rattle.sx_base.specs.Again.{EarlyEnd}
use Rattle.sx_base.specs.Calls.{IfAllTold, Wrote}
use Rattle.sx_base.specs.declared.outcome.Outcome.TheVariants as ended
use Rattle.sx_base.specs.declared.outcome.Verdict.{Verdict}
use Rattle.store_model.specs.Stored.{as_bytes, StandsFor}
use Rattle.store_model.specs.NamedFiles.{NamedFiles}
use Rattle.store_model.specs.Requests.{OfStreams, reads_store, at_entry}
use Rattle.store_model.specs.Answers.{Answers}
use Rattle.store_model.proofs.OneStore.{one_store}
use Rattle.clone_pieces.proofs.Told.{all_always, all_map}
use Rattle.composer.proofs.OverBaseAnswers.{nothing_stopped}
use Rattle.group_replay.specs.declared.stops.StoreStop.{StoreStop}
use Rattle.group_replay.specs.declared.stops.StoreStop.TheVariants as stop
use Rattle.group_replay.specs.Stopping.{IfLog, IsNoRefusal}
use Rattle.group_log.specs.declared.stops.LogStop.TheVariants as log
use Rattle.store_journal.specs.Shown.{StoreState}
use Rattle.store_journal.specs.Opening.{OpenSays, IsOpenStop}
use Rattle.store_commands.specs.declared.ends.StoreEnd.{StoreEnd}
use Rattle.store_commands.specs.declared.ends.StoreEnd.TheVariants as made
use Rattle.store_commands.specs.Ending.{answer_of, end_by}
use Rattle.store_commands.proofs.Opened.{no_end, no_refusal}
use Rattle.store_commands.proofs.StreamAnswers.{compose_ends, at_fault, stopped_answers, stood, ends_answer}
use Rattle.part_names.specs.Overriding.{sources_with}
use Rattle.store_compose.specs.Ending.{beside, EndsOver, ComposeCaused, ChangeFound}

-- ---- one request

abbrev with_names : Overrides → List (List ℕ) → NamedFiles
with_names given files = record { bytes = files; overrides = given }

module _ (words : List (List ℕ)) (store at : ℕ) (image : List ℕ) (given : Overrides) (files : List (List ℕ)) (reads : reads_store words (Some store) ≡ true) (s : Store ℕ) (stands : StandsFor image s) (written : List ℕ) where
  compose_answers : (end : StoreEnd) → EndsOver (beside s given files) given files end written → Answers (OfStreams (Compose store at)) (at_entry words image (record { bytes = files; overrides = given })) (answer_of [] [] end) written image
  compose_answers (made.Ends outcome) p = ends_answer (Compose store at) words image (with_names given files) reads s stands written outcome (compose_ends (beside s given files) written store at (sources_with given files) outcome p.ends)
  compose_answers made.StoreFault p = at_fault (Compose store at) words image (with_names given files) reads written (stood (Compose store at) words image (with_names given files) reads s stands written p.ends)
  compose_answers (made.NotStore group) p = absurd p
  compose_answers made.NoName p = absurd p
  compose_answers made.NoFile p = absurd p
  compose_answers (made.LogFull end wanted limit) p = absurd p
  compose_answers (made.StoreThere size) p = absurd p
  compose_answers (made.Damaged group stored computed) p = absurd p

-- ---- files that are told

-- What was written is what an answer says, of all words that ask for it.
abbrev ComposeSays : (seen left : List ℕ) (given : Overrides) → StoreEnd → List (List ℕ) → List ℕ → Type 0
ComposeSays seen left given end files written = (words : List (List ℕ)) (store at : ℕ) → reads_store words (Some store) ≡ true → Answers (OfStreams (Compose store at)) (at_entry words seen (with_names given files)) (answer_of [] [] end) written left

-- Where all was done it is the composed stream, over each store that the image stands for.
abbrev IsHeadline : (seen : List ℕ) (given : Overrides) → StoreEnd → List (List ℕ) → List ℕ → Type 0
IsHeadline seen given end files written = end ≡ made.Ends ended.Done → (store : Store ℕ) → StandsFor seen store → IsComposedOf (beside store given files) (overridden given (input files)) written

-- Where a command is refused it is all that stands for those before it.
abbrev IsFront : (seen : List ℕ) (given : Overrides) → StoreEnd → List (List ℕ) → List ℕ → Type 0
IsFront seen given end files written = (verdict : Verdict) → end ≡ made.Ends (ended.Refused verdict) → (store : Store ℕ) → StandsFor seen store
    → written ≡ whole_output_of (beside store given files) (overridden given (input files))

module _ (told : Option (List (List ℕ × List ℕ))) (names : List (List ℕ)) (seen left : List ℕ) (given : Overrides) (same : left ≡ seen) where
  -- The store does not open.
  pub not_composed : (taken : Option (List ℕ)) (cause : Type 0) (why : StoreStop) (end : StoreEnd) → end ≡ end_by why → IsNoRefusal why → IfLog {T = StoreState} (Err why) (IsOpenStop cause) → OpenSays seen (Err why)
      → IfAllTold told names (λ files. Wrote taken taken (ComposeSays seen left given end files))
  not_composed taken cause why end is kind stops opened = all_always told names (λ files. Wrote taken taken (ComposeSays seen left given end files)) (λ files. by_files files)
    where
      by_files : (files : List (List ℕ)) → Wrote taken taken (ComposeSays seen left given end files)
      by_files files = (
        [],
        Appends-nil taken,
        (λ words store at reads.
            subst (λ (l : List ℕ). Answers (OfStreams (Compose store at)) (at_entry words seen (with_names given files)) (answer_of [] [] end) [] l) (sym same)
            (stopped_answers (Compose store at) words seen (with_names given files) reads (λ s. nothing_stopped (beside s given files) (overridden given (input files))) cause why end is kind stops opened)),
      )

  -- It opens, and is composed over.
  pub is_composed : (old new : Option (List ℕ)) (s : Store ℕ) (end : StoreEnd) → StandsFor seen s → IfAllTold told names (λ files. Wrote old new (EndsOver (beside s given files) given files end))
      → IfAllTold told names (λ files. Wrote old new (ComposeSays seen left given end files))
  is_composed old new s end stands composed = all_map told names (λ files. Wrote old new (EndsOver (beside s given files) given files end)) (λ files. Wrote old new (ComposeSays seen left given end files)) (λ files wrote. by_files files wrote) composed
    where
      by_files : (files : List (List ℕ)) → Wrote old new (EndsOver (beside s given files) given files end) → Wrote old new (ComposeSays seen left given end files)
      by_files files wrote = (
        wrote.0,
        wrote.1,
        (λ words store at reads.
            subst (λ (l : List ℕ). Answers (OfStreams (Compose store at)) (at_entry words seen (with_names given files)) (answer_of [] [] end) wrote.0 l) (sym same)
            (compose_answers words store at seen given files reads s stands wrote.0 end wrote.2)),
      )

-- The headline, where the store did not open and where it did.
module _ (told : Option (List (List ℕ × List ℕ))) (names : List (List ℕ)) (seen : List ℕ) (given : Overrides) where
  pub no_headline : (taken : Option (List ℕ)) (why : StoreStop) (end : StoreEnd) → end ≡ end_by why → IsNoRefusal why → IfAllTold told names (λ files. Wrote taken taken (IsHeadline seen given end files))
  no_headline taken why end is kind = all_always told names (λ files. Wrote taken taken (IsHeadline seen given end files)) (λ files. ([], Appends-nil taken, λ done store stands. absurd (no_end why kind (sym is ∙ done))))

  pub is_headline : (old new : Option (List ℕ)) (s : Store ℕ) (end : StoreEnd) → StandsFor seen s → IfAllTold told names (λ files. Wrote old new (EndsOver (beside s given files) given files end))
      → IfAllTold told names (λ files. Wrote old new (IsHeadline seen given end files))
  is_headline old new s end stands composed =
      all_map told names (λ files. Wrote old new (EndsOver (beside s given files) given files end)) (λ files. Wrote old new (IsHeadline seen given end files))
      (λ files wrote. (wrote.0, wrote.1, λ done store other. subst (λ (t : Store ℕ). IsComposedOf (beside t given files) (overridden given (input files)) wrote.0) (one_store 0 as_bytes seen s store stands other) (by_end files wrote.0 end wrote.2 done))) composed
    where
      by_end : (files : List (List ℕ)) (written : List ℕ) (e : StoreEnd) → EndsOver (beside s given files) given files e written → e ≡ made.Ends ended.Done → IsComposedOf (beside s given files) (overridden given (input files)) written
      by_end files written (made.Ends outcome) p is = let same : outcome ≡ ended.Done = cc in p.composed same
      by_end files written made.StoreFault p is = cc
      by_end files written (made.NotStore group) p is = absurd p
      by_end files written made.NoName p is = absurd p
      by_end files written made.NoFile p is = absurd p
      by_end files written (made.LogFull wanted size limit) p is = absurd p
      by_end files written (made.StoreThere size) p is = absurd p
      by_end files written (made.Damaged group stored computed) p is = absurd p

  -- What stands where a command is refused.
  pub no_front : (taken : Option (List ℕ)) (why : StoreStop) (end : StoreEnd) → end ≡ end_by why → IsNoRefusal why → IfAllTold told names (λ files. Wrote taken taken (IsFront seen given end files))
  no_front taken why end is kind = all_always told names (λ files. Wrote taken taken (IsFront seen given end files)) (λ files. ([], Appends-nil taken, λ verdict refused store stands. absurd (no_refusal why verdict kind (sym is ∙ refused))))

  pub is_front : (old new : Option (List ℕ)) (s : Store ℕ) (end : StoreEnd) → StandsFor seen s → IfAllTold told names (λ files. Wrote old new (EndsOver (beside s given files) given files end))
      → IfAllTold told names (λ files. Wrote old new (IsFront seen given end files))
  is_front old new s end stands composed =
      all_map told names (λ files. Wrote old new (EndsOver (beside s given files) given files end)) (λ files. Wrote old new (IsFront seen given end files))
      (λ files wrote. (
        wrote.0,
        wrote.1,
        λ verdict refused store other. subst (λ (t : Store ℕ). wrote.0 ≡ whole_output_of (beside t given files) (overridden given (input files))) (one_store 0 as_bytes seen s store stands other)
            (by_end files wrote.0 end wrote.2 verdict refused),
      )) composed
    where
      by_end : (files : List (List ℕ)) (written : List ℕ) (e : StoreEnd) → EndsOver (beside s given files) given files e written → (verdict : Verdict) → e ≡ made.Ends (ended.Refused verdict)
          → written ≡ whole_output_of (beside s given files) (overridden given (input files))
      by_end files written (made.Ends outcome) p verdict is = let same : outcome ≡ ended.Refused verdict = cc in p.refused verdict same
      by_end files written made.StoreFault p verdict is = cc
      by_end files written (made.NotStore group) p verdict is = absurd p
      by_end files written made.NoName p verdict is = absurd p
      by_end files written made.NoFile p verdict is = absurd p
      by_end files written (made.LogFull wanted size limit) p verdict is = absurd p
      by_end files written (made.StoreThere size) p verdict is = absurd p
      by_end files written (made.Damaged group stored computed) p verdict is = absurd p

-- ---- where it does not open

pub opening_caused : (done store_rose inputs_rose ends_rose out_rose : Type 0) (why : StoreStop) → IsNoRefusal why → IfLog {T = StoreState} (Err why) (IsOpenStop store_rose) → ComposeCaused done store_rose inputs_rose ends_rose out_rose (end_by why)
opening_caused done store_rose inputs_rose ends_rose out_rose (stop.Refused refusal) kind stops = absurd kind
opening_caused done store_rose inputs_rose ends_rose out_rose stop.NoMemory kind stops = tt
opening_caused done store_rose inputs_rose ends_rose out_rose (stop.Log log.DiskFault) kind stops = stops
opening_caused done store_rose inputs_rose ends_rose out_rose (stop.Log (log.NotStore group)) kind stops = tt
opening_caused done store_rose inputs_rose ends_rose out_rose (stop.Log (log.LogFull end wanted limit)) kind stops = absurd stops
opening_caused done store_rose inputs_rose ends_rose out_rose (stop.Log (log.StoreThere size)) kind stops = absurd stops

pub opening_unchanged : (names : List (List ℕ)) (last : EarlyEnd) (why : StoreStop) → ChangeFound names last (end_by why)
opening_unchanged names last (stop.Refused refusal) = tt
opening_unchanged names last stop.NoMemory = tt
opening_unchanged names last (stop.Log log.DiskFault) = tt
opening_unchanged names last (stop.Log (log.NotStore group)) = tt
opening_unchanged names last (stop.Log (log.LogFull end wanted limit)) = tt
opening_unchanged names last (stop.Log (log.StoreThere size)) = tt
