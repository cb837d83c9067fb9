-- What is said of ends and answers, as what is said of requests.
use Rattle.std.specs.Prelude.{◌≡◌, ⊤, ℕ, ◌<◌, true, Option, Some, List, [], ◌∷◌, ◌++◌, length}
use Rattle.std.proofs.Common.{refl, sym, ap, subst, ◌∙◌, ⊎_elim, arith}
use Rattle.send_model.specs.Store.{Store}
use Rattle.send_model.specs.Reading.{Verdict}
use Rattle.send_model.specs.Guards.{GuardSpec}
use Rattle.send_model.specs.Due as files_due
use Rattle.send_model.specs.Due.{DoneWhole, RefusedAt, TooLong, file_due}
use Rattle.send_model.specs.Sources.{Sources, due_of, EndSaysOf, StandsBeforeOf, StandsCutOf}
use Rattle.send_model.specs.Answer as answers
use Rattle.send_model.specs.Words as streams
use Rattle.send_model.specs.Words.{first_file}
use Rattle.send_model.specs.Headline.{IsFrontOf}
use Rattle.send_model.specs.Lines.{dump_of}
use Rattle.send_model.specs.Generated.{chain_of, trial_line}
use Rattle.store_model.specs.NamedFiles.{NamedFiles, read_of}
use Rattle.store_model.specs.Dues as dues
use Rattle.store_model.specs.Dues.{Due, OverStore, NotStore, Missing, LogFull, StoreThere, Damaged}
use Rattle.store_model.specs.Answers as said
use Rattle.store_model.specs.Answers.{DueSays, StandsInput, StandsCut, StandsBefore, StandsFault, ReadsAgain, StreamsInput, StreamsCut, StreamsBefore, StreamsFault}
use Rattle.store_model.specs.Requests as stored
use Rattle.store_model.specs.Requests.{AtEntry, at_entry, base_over, IsStreamsDue, StreamsSay, StreamsWrite, ByImage}
use Rattle.store_model.proofs.AnswerLaws.{nothing_stands_before}
use Rattle.program_model.specs.Answers.{flat}
use Rattle.program_model.specs.Answers.{Meaning, Says, NoMemory, OfFiles, Stands, Writes, of_files, of_store, read_again, composed_over, audited_over, exported_over, dumped, made, only}
use Rattle.part_names.specs.Overriding.{EndsOf}
use Rattle.sx_base.specs.Refusals.{verdict_meant}
use Rattle.snapshot_model.specs.HeldStores.{Form, SendAnswers, SendBefore, formed}
use Rattle.snapshot_model.specs.Promises.{IsUnfinished}
use Rattle.snapshot_model.specs.Sent.{sent_stream, sent_version}
use Rattle.snapshot_model.specs.Restored.{restored_stream}
use Rattle.store_model.specs.TurnDues.{InTurns}
use Rattle.store_model.specs.TurnAnswers.{TurnsAnswer}
use Rattle.std.specs.List.{flat_map}
use Rattle.std.proofs.lemmas.List.{length-replicate}
use Rattle.archive_model.specs.Ustar.{zeros}
use Rattle.archive_model.specs.Archive.{member_bytes, archived, archive, archived_form}
use Rattle.stream_model.specs.OwnStream.{Edits, own_stream}
use Rattle.stream_model.specs.StreamDues.{StreamAnswers, StreamBefore, IsUnfinishedStream}
use Rattle.program_model.specs.Answers.{sent_as, streamed, received_in_turns}
use Rattle.send_model.specs.Sources.{sources, SaysOfFiles}
use Rattle.send_model.proofs.SourceLaws.{says_of_files, no_overrides_change_nothing}
use Rattle.send_model.specs.Spelling.{stream_header}
use Rattle.send_model.specs.Store.{Entry}
use Rattle.send_model.specs.Subvolume.{Subvolume}
use Rattle.store_model.specs.NamedFiles.{unnamed}
use Rattle.send_model.specs.Words.{due}
use Rattle.sx_base.specs.Calls.{Caused, Ends}
use Rattle.sx_base.specs.declared.outcome.Outcome.{Outcome}
use Rattle.sx_base.specs.declared.outcome.Outcome.TheVariants as ended
use Rattle.request_answers.proofs.Causes.{of_outcome}

-- ---- requests over a store, answer by answer

-- Where a file was found changed, this is known.
abbrev pub IfChanged : Type 0 → said.Answer → Type 0
IfChanged known (said.OfAnyWord (answers.InputChanged file place)) = known
IfChanged known (said.OfAnyWord answers.Done) = ⊤
IfChanged known (said.OfAnyWord (answers.Refused verdict)) = ⊤
IfChanged known (said.OfAnyWord answers.Usage) = ⊤
IfChanged known (said.OfAnyWord answers.InputFault) = ⊤
IfChanged known (said.OfAnyWord answers.OutputFault) = ⊤
IfChanged known (said.OfAnyWord answers.NoMemory) = ⊤
IfChanged known (said.OfAnyWord (answers.InputTooLong file)) = ⊤
IfChanged known (said.OfAnyWord (answers.TooMuch sum)) = ⊤
IfChanged known said.StoreFault = ⊤
IfChanged known (said.NotStore group) = ⊤
IfChanged known (said.Missing what) = ⊤
IfChanged known (said.LogFull end wanted limit) = ⊤
IfChanged known (said.StoreThere size) = ⊤
IfChanged known (said.Damaged group stored computed) = ⊤

-- What is said of a request is said by a meaning, field by field.
pub record Covers (request : stored.Request) (met : AtEntry) (known : Type 0) (meaning : Meaning) : Type 0 where
  pub due : (due : Due) (written left : List ℕ) → DueSays request met due written left → meaning.due due written left
  pub input : (written left : List ℕ) → StandsInput request met.words met.image met.files written left → meaning.input written left
  pub changed : (written left : List ℕ) → known → ReadsAgain request × StandsInput request met.words met.image met.files written left → meaning.changed written left
  pub output : (written left : List ℕ) → StandsCut request met.words met.image met.files written left → meaning.output written left
  pub memory : (written left : List ℕ) → StandsBefore request met.words met.image met.files written left → meaning.memory written left
  pub device : (written left : List ℕ) → StandsFault request met.words met.image met.files written left → meaning.device written left

module _ (request : stored.Request) (met : AtEntry) (known : Type 0) (meaning : Meaning) (c : Covers request met known meaning) (written left : List ℕ) where
  unfoldable pub covered : (answer : said.Answer) → IfChanged known answer → said.Answers request met answer written left → Says meaning (flat answer) written left
  unfolding Says
  covered (said.OfAnyWord answers.Done) again h = c.due (dues.Ends DoneWhole) written left h
  covered (said.OfAnyWord (answers.Refused verdict)) again h = c.due (dues.Ends (RefusedAt verdict)) written left h
  covered (said.OfAnyWord answers.Usage) again h = h
  covered (said.OfAnyWord answers.InputFault) again h = c.input written left h.1
  covered (said.OfAnyWord answers.OutputFault) again h = c.output written left h
  covered (said.OfAnyWord answers.NoMemory) again h = c.memory written left h
  covered (said.OfAnyWord (answers.InputTooLong file)) again h = c.due (dues.Ends (TooLong file)) written left h
  covered (said.OfAnyWord (answers.TooMuch sum)) again h = c.due (dues.Ends (files_due.TooMuch sum)) written left h
  covered (said.OfAnyWord (answers.InputChanged file place)) again h = c.changed written left again h
  covered said.StoreFault again h = c.device written left h
  covered (said.NotStore group) again h = c.due (NotStore group) written left h
  covered (said.Missing what) again h = c.due (Missing what) written left h
  covered (said.LogFull end wanted limit) again h = c.due (LogFull end wanted limit) written left h
  covered (said.StoreThere size) again h = c.due (StoreThere size) written left h
  covered (said.Damaged group stored computed) again h = c.due (Damaged group stored computed) written left h

-- Before anything was done there may be no memory.
pub nothing_said : (request : stored.Request) (met : AtEntry) (known : Type 0) (meaning : Meaning) → Covers request met known meaning
    → ((store : ℕ) → request ≡ stored.InitStore store → ⊥) → Says meaning NoMemory [] met.image
unfolding Says
nothing_said request met known meaning c no_init = c.memory [] met.image
    (⊎_elim (λ other. absurd (no_init other.0 other.1)) (λ stands. stands) (nothing_stands_before request met.words met.image met.files))

-- ---- streams

-- What is said of a request on streams over a base, as what files decide.
pub record SameFiles (request : streams.Request) (base : Store ℕ) (read : Sources) (of : OfFiles) : Type 0 where
  pub due : due_of request base read ≡ of.due
  pub done : (written : List ℕ) → EndSaysOf request base read DoneWhole written → written ≡ of.whole
  pub refused : (verdict : Verdict) (written : List ℕ) → EndSaysOf request base read (RefusedAt verdict) written → of.refused written
  pub before : (written : List ℕ) → StandsBeforeOf request base read written → of.before written
  pub cut : (written : List ℕ) → StandsCutOf request base read written → of.cut written

module _ (request : streams.Request) (base : Store ℕ) (read : Sources) (of : OfFiles) (same : SameFiles request base read of) (written : List ℕ) where
  stands : (due : files_due.Due) → EndSaysOf request base read due written → Stands of due written
  stands DoneWhole h = same.done written h
  stands (RefusedAt verdict) h = same.refused verdict written h
  stands (TooLong file) h = same.before written h
  stands (files_due.TooMuch sum) h = same.before written h

  writes : (due : Due) → StreamsWrite request base read due written → Writes of due written
  writes (dues.Ends due) h = stands due h
  writes (NotStore group) h = h
  writes (Missing what) h = h
  writes (LogFull end wanted limit) h = h
  writes (StoreThere size) h = h
  writes (Damaged group stored computed) h = h

-- ---- over no store

module _ (request : streams.Request) (read : Sources) (of : OfFiles) (same : SameFiles request [] read of) (image written : List ℕ) where
  -- What files decide is due.
  decided : (due : files_due.Due) → due_of request [] read ≡ due → EndSaysOf request [] read due written → (of_files image of).due (dues.Ends due) written image
  decided due is says = (ap (λ (d : files_due.Due). dues.Ends d) (sym is ∙ same.due), (refl, stands request [] read of same written due says))

  pub alone_again : (outcome : Outcome) → EndsOf request [] read outcome written → Says (read_again (of_files image of)) (of_outcome outcome) written image
  unfolding Says
  alone_again ended.Done h = decided DoneWhole h.0 h.1
  alone_again (ended.Refused verdict) h = decided (RefusedAt (verdict_meant verdict)) h.0 h.1
  alone_again (ended.InputTooLong file) h = decided (TooLong file) h.0 h.1
  alone_again (ended.TooMuch sum) h = decided (files_due.TooMuch sum) h.0 h.1
  alone_again ended.InputFault before = (refl, same.before written before)
  alone_again (ended.InputChanged file place) before = (refl, same.before written before)
  alone_again ended.OutputFault cut = (refl, same.cut written cut)
  alone_again ended.NoMemory before = (refl, same.before written before)

  pub alone_once : (reads read_now writes wrote_now : ℕ) (outcome : Outcome) → Caused reads read_now writes wrote_now outcome
      → EndsOf request [] read outcome written → Says (of_files image of) (of_outcome outcome) written image
  unfolding Says
  alone_once reads read_now writes wrote_now ended.Done why h = decided DoneWhole h.0 h.1
  alone_once reads read_now writes wrote_now (ended.Refused verdict) why h = decided (RefusedAt (verdict_meant verdict)) h.0 h.1
  alone_once reads read_now writes wrote_now (ended.InputTooLong file) why h = decided (TooLong file) h.0 h.1
  alone_once reads read_now writes wrote_now (ended.TooMuch sum) why h = absurd why
  alone_once reads read_now writes wrote_now ended.InputFault why before = (refl, same.before written before)
  alone_once reads read_now writes wrote_now (ended.InputChanged file place) why before = absurd why
  alone_once reads read_now writes wrote_now ended.OutputFault why cut = (refl, same.cut written cut)
  alone_once reads read_now writes wrote_now ended.NoMemory why before = (refl, same.before written before)

-- ---- over a store

-- What holds over the store of an image, where something else holds over it.
by_image : (image : List ℕ) (P Q : Store ℕ → Type 0) (none : Type 0) → ((s : Store ℕ) → P s → Q s) → ByImage image P none → ByImage image Q none
by_image image P Q none more h = (λ s is. more s (h.0 s is), h.1)

over_store : (image : List ℕ) (P Q : Store ℕ → Due → Type 0) → ((s : Store ℕ) (due : Due) → P s due → Q s due) → (due : Due) → OverStore image P due → OverStore image Q due
over_store image P Q more (NotStore group) h = h
over_store image P Q more (dues.Ends due) h = (h.0, h.1, more h.0 (dues.Ends due) h.2)
over_store image P Q more (Missing what) h = (h.0, h.1, more h.0 (Missing what) h.2)
over_store image P Q more (LogFull end wanted limit) h = (h.0, h.1, more h.0 (LogFull end wanted limit) h.2)
over_store image P Q more (StoreThere size) h = h
over_store image P Q more (Damaged group stored computed) h = h

-- The clauses of a request on streams over a store.
record StreamsCover (request : streams.Request) (image : List ℕ) (read : Sources) (meaning : Meaning) : Type 0 where
  due : (due : Due) (written left : List ℕ) → IsStreamsDue true request image read due × ((left ≡ image) × StreamsSay true request image read due written) → meaning.due due written left
  input : (written left : List ℕ) → (left ≡ image) × StreamsInput true request image read written → meaning.input written left
  output : (written left : List ℕ) → (left ≡ image) × StreamsCut true request image read written → meaning.output written left
  memory : (written left : List ℕ) → (left ≡ image) × StreamsBefore true request image read written → meaning.memory written left
  device : (written left : List ℕ) → (left ≡ image) × StreamsFault true request image read written → meaning.device written left

module _ (request : streams.Request) (image : List ℕ) (read : Sources) (over : Store ℕ → OfFiles) where
  over_one : ((s : Store ℕ) → SameFiles request (base_over request read s) read (over s)) → StreamsCover request image read (of_store image over)
  over_one same =
      let before : (none : Type 0) (written : List ℕ) → ByImage image (λ s. StandsBeforeOf request (base_over request read s) read written) none
      → ByImage image (λ s. (over s).before written) none
      = λ none written. by_image image (λ s. StandsBeforeOf request (base_over request read s) read written) (λ s. (over s).before written) none (λ s. (same s).before written) in
      record {
        due = λ due written left h. (
          over_store image (λ s d. d ≡ dues.Ends (due_of request (base_over request read s) read)) (λ s d. d ≡ dues.Ends (over s).due)
              (λ s d e. e ∙ ap (λ (x : files_due.Due). dues.Ends x) (same s).due) due h.0,
          (
            h.1.0,
            by_image image (λ s. StreamsWrite request (base_over request read s) read due written) (λ s. Writes (over s) due written) (written ≡ [])
                (λ s. writes request (base_over request read s) read (over s) (same s) written due) h.1.1,
          ),
        );
        input = λ written left h. (h.0, before ⊥ written h.1);
        output = λ written left h. (h.0, by_image image (λ s. StandsCutOf request (base_over request read s) read written) (λ s. (over s).cut written) ⊥ (λ s. (same s).cut written) h.1);
        memory = λ written left h. (h.0, before (written ≡ []) written h.1);
        device = λ written left h. (h.0, before (written ≡ []) written h.1);
      }

-- Words in which a store stands at the front.
abbrev pub a_store : List (List ℕ)
a_store = [] ∷ []

module _ (image : List ℕ) (files : NamedFiles) where
  abbrev pub over : AtEntry
  over = at_entry a_store image files

  pub compose_covers : Covers (stored.OfStreams (streams.Compose 0 0)) over ⊤ (read_again (of_store image (composed_over (read_of files))))
  compose_covers = let c : StreamsCover (streams.Compose 0 0) image (read_of files) (of_store image (composed_over (read_of files)))
      = over_one (streams.Compose 0 0) image (read_of files) (composed_over (read_of files))
      (λ s. record { due = refl; done = λ written h. h; refused = λ verdict written h. h; before = λ written h. h; cut = λ written h. h }) in
      record {
        due = c.due;
        input = c.input;
        changed = λ written left known h. c.input written left h.1;
        output = c.output;
        memory = c.memory;
        device = c.device;
      }

  pub audit_covers : (guards : List GuardSpec) → Covers (stored.OfStreams (streams.Audit guards 0 0)) over ⊥ (of_store image (audited_over guards (read_of files)))
  audit_covers guards = let c : StreamsCover (streams.Audit guards 0 0) image (read_of files) (of_store image (audited_over guards (read_of files)))
      = over_one (streams.Audit guards 0 0) image (read_of files) (audited_over guards (read_of files))
      (λ s. record { due = refl; done = λ written h. h; refused = λ verdict written h. h; before = λ written h. h; cut = λ written h. h }) in
      record {
        due = c.due;
        input = c.input;
        changed = λ written left known h. absurd known;
        output = c.output;
        memory = c.memory;
        device = c.device;
      }

  pub export_covers : Covers (stored.OfStreams (streams.Export 0 0)) over ⊥ (of_store image (exported_over (read_of files)))
  export_covers = let c : StreamsCover (streams.Export 0 0) image (read_of files) (of_store image (exported_over (read_of files)))
      = over_one (streams.Export 0 0) image (read_of files) (exported_over (read_of files))
      (λ s. record { due = refl; done = λ written h. h; refused = λ verdict written h. h; before = λ written h. h; cut = λ written h. h }) in
      record {
        due = c.due;
        input = c.input;
        changed = λ written left known h. absurd known;
        output = c.output;
        memory = c.memory;
        device = c.device;
      }

-- ---- what files decide over nothing

module _ (read : Sources) where
  pub composed_same : SameFiles (streams.Compose 0 0) [] read (composed_over read [])
  composed_same = record { due = refl; done = λ written h. h; refused = λ verdict written h. h; before = λ written h. h; cut = λ written h. h }

  pub audited_same : (guards : List GuardSpec) → SameFiles (streams.Audit guards 0 0) [] read (audited_over guards read [])
  audited_same guards = record { due = refl; done = λ written h. h; refused = λ verdict written h. h; before = λ written h. h; cut = λ written h. h }

  pub exported_same : SameFiles (streams.Export 0 0) [] read (exported_over read [])
  exported_same = record { due = refl; done = λ written h. h; refused = λ verdict written h. h; before = λ written h. h; cut = λ written h. h }

  pub gen_same : (count seed : ℕ) → SameFiles (streams.Gen count seed) [] read (made (chain_of seed count))
  gen_same count seed = record { due = refl; done = λ written h. h; refused = λ verdict written h. h; before = λ written h. h; cut = λ written h. h }

  pub trial_same : (count seed : ℕ) → SameFiles (streams.Trial count seed) [] read (made (trial_line seed count))
  trial_same count seed = record { due = refl; done = λ written h. h; refused = λ verdict written h. h; before = λ written h. h; cut = λ written h. h }

-- The first of some files is the only one.
pub first_is_only : (bytes : List (List ℕ)) → first_file bytes ≡ only bytes
first_is_only [] = refl
first_is_only (file ∷ more) = refl

pub dumped_same : (files : NamedFiles) → SameFiles (streams.Dump 1) [] (read_of files) (dumped (only files.bytes))
dumped_same files = record {
  due = ap file_due (first_is_only files.bytes);
  done = λ written h. h ∙ ap dump_of (first_is_only files.bytes);
  refused = λ verdict written h. h ∙ ap dump_of (first_is_only files.bytes);
  before = λ written h. subst (λ (file : List ℕ). IsFrontOf (dump_of file) written) (first_is_only files.bytes) h;
  cut = λ written h. subst (λ (file : List ℕ). IsFrontOf (dump_of file) written) (first_is_only files.bytes) h;
}

-- ---- how a request ends over files, as over what was read of them

module _ (request : streams.Request) (base : Store ℕ) (files : List (List ℕ)) (written : List ℕ) where
  law : SaysOfFiles request base files
  law = says_of_files request base files

  of_read : (outcome : Outcome) → Ends request base files outcome written → EndsOf request base (sources files) outcome written
  of_read ended.Done h = (law.due ∙ h.0, (law.says DoneWhole written).1 h.1)
  of_read (ended.Refused verdict) h = (law.due ∙ h.0, (law.says (RefusedAt (verdict_meant verdict)) written).1 h.1)
  of_read (ended.InputTooLong file) h = (law.due ∙ h.0, (law.says (TooLong file) written).1 h.1)
  of_read (ended.TooMuch sum) h = (law.due ∙ h.0, (law.says (files_due.TooMuch sum) written).1 h.1)
  of_read ended.InputFault before = (law.before written).1 before
  of_read (ended.InputChanged file place) before = (law.before written).1 before
  of_read ended.OutputFault cut = (law.cut written).1 cut
  of_read ended.NoMemory before = (law.before written).1 before

  pub ends_unnamed : (outcome : Outcome) → Ends request base files outcome written → EndsOf request base (read_of (unnamed files)) outcome written
  ends_unnamed outcome h = subst (λ (read : Sources). EndsOf request base read outcome written) (sym (no_overrides_change_nothing (sources files))) (of_read outcome h)

-- What is made of numbers is all done.
module _ where
  pub gen_due : (count seed : ℕ) → due (streams.Gen count seed) [] [] ≡ DoneWhole
  unfolding due
  gen_due count seed = refl

  pub trial_due : (count seed : ℕ) → due (streams.Trial count seed) [] [] ≡ DoneWhole
  unfolding due
  trial_due count seed = refl

-- ---- snapshots that are written as streams, and files in turns

module _ (form : Form) (image name : List ℕ) (written left : List ℕ) where
  unfoldable pub sent_says : (answer : said.Answer) → SendAnswers form image name answer written left → Says (sent_as form image name) (flat answer) written left
  unfolding Says
  sent_says (said.OfAnyWord answers.Done) h = h
  sent_says (said.OfAnyWord (answers.Refused verdict)) h = absurd h.1
  sent_says (said.OfAnyWord answers.Usage) h = h.1
  sent_says (said.OfAnyWord answers.InputFault) h = h.1
  sent_says (said.OfAnyWord answers.OutputFault) h = h
  sent_says (said.OfAnyWord answers.NoMemory) h = h
  sent_says (said.OfAnyWord (answers.InputTooLong file)) h = absurd h.1
  sent_says (said.OfAnyWord (answers.TooMuch sum)) h = absurd h.1
  sent_says (said.OfAnyWord (answers.InputChanged file place)) h = h.1
  sent_says said.StoreFault h = h
  sent_says (said.NotStore group) h = h
  sent_says (said.Missing what) h = h
  sent_says (said.LogFull end wanted limit) h = h
  sent_says (said.StoreThere size) h = h
  sent_says (said.Damaged group stored computed) h = h

module _ (image name : List ℕ) (written left : List ℕ) where
  unfoldable pub streamed_says : (answer : said.Answer) → StreamAnswers image name answer written left → Says (streamed image name) (flat answer) written left
  unfolding Says
  streamed_says (said.OfAnyWord answers.Done) h = h
  streamed_says (said.OfAnyWord (answers.Refused verdict)) h = absurd h.1
  streamed_says (said.OfAnyWord answers.Usage) h = h.1
  streamed_says (said.OfAnyWord answers.InputFault) h = h.1
  streamed_says (said.OfAnyWord answers.OutputFault) h = h
  streamed_says (said.OfAnyWord answers.NoMemory) h = h
  streamed_says (said.OfAnyWord (answers.InputTooLong file)) h = absurd h.1
  streamed_says (said.OfAnyWord (answers.TooMuch sum)) h = absurd h.1
  streamed_says (said.OfAnyWord (answers.InputChanged file place)) h = h.1
  streamed_says said.StoreFault h = h
  streamed_says (said.NotStore group) h = h
  streamed_says (said.Missing what) h = h
  streamed_says (said.LogFull end wanted limit) h = h
  streamed_says (said.StoreThere size) h = h
  streamed_says (said.Damaged group stored computed) h = h

module _ (turns : InTurns) (image written left : List ℕ) where
  unfoldable pub turns_say : (answer : said.Answer) → TurnsAnswer turns image answer written left → Says (received_in_turns turns image) (flat answer) written left
  unfolding Says
  turns_say (said.OfAnyWord answers.Done) h = h
  turns_say (said.OfAnyWord (answers.Refused verdict)) h = h
  turns_say (said.OfAnyWord answers.Usage) h = h
  turns_say (said.OfAnyWord answers.InputFault) h = h
  turns_say (said.OfAnyWord answers.OutputFault) h = h
  turns_say (said.OfAnyWord answers.NoMemory) h = h
  turns_say (said.OfAnyWord (answers.InputTooLong file)) h = h
  turns_say (said.OfAnyWord (answers.TooMuch sum)) h = absurd h
  turns_say (said.OfAnyWord (answers.InputChanged file place)) h = h
  turns_say said.StoreFault h = h
  turns_say (said.NotStore group) h = h
  turns_say (said.Missing what) h = h
  turns_say (said.LogFull end wanted limit) h = h
  turns_say (said.StoreThere size) h = h
  turns_say (said.Damaged group stored computed) h = h

-- Before anything was done no stream is whole.
pub nothing_sent : (form : Form) (image name : List ℕ) → SendBefore form image name []
nothing_sent form image name = (λ store stands. record { count = 0; within = omega arith; written_is = refl }, λ group none. refl)

-- A stream has its header at the least, so nothing is less than a whole one.
header_some : (version : ℕ) (rest : List ℕ) → 0 < length (stream_header version ++ rest)
unfolding stream_header
header_some version rest = omega arith

abbrev Found : Type 0
Found = Entry (Subvolume (Option ℕ)) × Subvolume (Option ℕ)

sent_some : (found : Found) → 0 < length (formed sent_stream (Some found))
unfolding sent_stream
sent_some found = header_some (sent_version found.1) _

restored_some : (found : Found) → 0 < length (formed restored_stream (Some found))
unfolding restored_stream
restored_some found = header_some (sent_version found.1) _

unfinished : (form : Form) (image name : List ℕ) → ((found : Found) → 0 < length (formed form (Some found))) → IsUnfinished form image name []
unfinished form image name some store stands found here = record { count = 0; within = some found; written_is = refl }

pub sent_unfinished : (image name : List ℕ) → IsUnfinished sent_stream image name []
sent_unfinished image name = unfinished sent_stream image name sent_some

pub restored_unfinished : (image name : List ℕ) → IsUnfinished restored_stream image name []
restored_unfinished image name = unfinished restored_stream image name restored_some

-- An archive ends with two blocks.
behind_some : (xs ys : List ℕ) → 0 < length ys → 0 < length (xs ++ ys)
behind_some [] ys some = some
behind_some (x ∷ xs) ys some = omega arith

archived_some : (found : Found) → 0 < length (formed archived_form (Some found))
unfolding archive
archived_some found =
    behind_some (flat_map member_bytes (archived found.1)) (zeros 1_024) (omega (arith, length-replicate {A = ℕ} 1_024 0))

pub archived_unfinished : (image name : List ℕ) → IsUnfinished archived_form image name []
archived_unfinished image name = unfinished archived_form image name archived_some

-- Nothing of the stream that was received is written, and it is not empty.
pub nothing_streamed : (image name : List ℕ) → StreamBefore image name []
nothing_streamed image name due whole is = record { count = 0; within = omega arith; written_is = refl }

own_some : (e : Entry (Subvolume ℕ)) (edits : Edits) → 0 < length (own_stream e edits)
unfolding own_stream
own_some e edits = header_some edits.version _

pub streamed_unfinished : (image name : List ℕ) → IsUnfinishedStream image name []
streamed_unfinished image name whole own =
    record { count = 0; within = subst (λ (bytes : List ℕ). 0 < length bytes) (sym own.is) (own_some own.found.0 own.edits); written_is = refl }
