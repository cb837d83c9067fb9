-- What answers of words on streams mean, over the store that they read or over none.
use Rattle.std.specs.Prelude.{◌≡◌, ◌≢◌, ℕ, Bool, true, false, List, [], length, Some}
use Rattle.std.proofs.Common.{inl, inr, refl, sym, ap, subst, ◌∙◌, arith}
use Rattle.std.proofs.Math.Seq.{take-length}
use Rattle.send_model.specs.Store.{Store}
use Rattle.send_model.specs.Headline.{IsUnfinished, IsStoppedOf, IsFrontOf, whole_output_of}
use Rattle.send_model.specs.Exported.{exported_of}
use Rattle.send_model.specs.Lines.{dump_of}
use Rattle.send_model.specs.Generated.{chain_of, trial_line}
use Rattle.send_model.specs.Sources.{Sources, due_of, EndSaysOf, StandsBeforeOf, StandsCutOf}
use Rattle.send_model.specs.Due.{DoneWhole, RefusedAt, TooLong}
use Rattle.send_model.specs.Due as stream_dues
use Rattle.send_model.specs.Answer.{Done, Refused, Usage, InputFault, OutputFault, NoMemory, InputTooLong, TooMuch, InputChanged}
use Rattle.send_model.specs.Words as streams
use Rattle.send_model.specs.Words.{Compose, Audit, Dump, Export, Gen, Trial}
use Rattle.store_model.specs.NamedFiles.{NamedFiles, read_of}
use Rattle.store_model.specs.Stored.{as_bytes}
use Rattle.store_model.specs.Dues as dues
use Rattle.store_model.specs.Dues.{Due, Ends}
use Rattle.store_model.specs.Requests.{OfStreams, store_of, reads_store, base_over, IsStreamsDue, StreamsSay, at_entry}
use Rattle.store_model.specs.Answers.{Answer, OfAnyWord, StoreFault, NotStore, Missing, LogFull, StoreThere, Damaged, answered, StreamsBefore, StreamsInput, StreamsCut, StreamsFault, Answers}
use Rattle.store_model.specs.Meanings.{IsOver, ComposeIsDone, ComposeIsUnfinished, ComposeIsInFront, AuditIsDone, AuditIsCut, AuditIsSilent, ComposeIsDue, AuditIsDue, ExportIsDue, DumpIsDue, ExportIsDone, ExportIsRefused, ExportIsInFront, DumpIsDone, DumpIsRefused, DumpIsInFront, GenIsDone, TrialIsDone, GenIsInFront, TrialIsInFront, NothingIsRefused}
use Rattle.send_model.proofs.Writing.{nothing_unfinished}
use Rattle.store_model.proofs.OneStore.{one_store}
use Rattle.store_model.proofs.Decided.{image_decided}
use Rattle.store_model.proofs.NoStoreMeanings.{nothing_is_done_over_none}

-- ---- fronts

own_front : (all written : List ℕ) → written ≡ all → IsFrontOf all written
own_front all written e = record { count = length all; within = omega arith; written_is = e ∙ sym (take-length all) }

-- ---- what an answer says over the store that is read

-- Without a store the base has no entries.
over_nothing : (request : streams.Request) (read : Sources) → base_over request read [] ≡ []
over_nothing (Compose store at) read = refl
over_nothing (Audit guards store at) read = refl
over_nothing (Export store at) read = refl
over_nothing (Dump at) read = refl
over_nothing (Gen count seed) read = refl
over_nothing (Trial count seed) read = refl

-- What is said over a base.
abbrev Over : streams.Request → Store ℕ → Sources → Answer → List ℕ → Type 0
Over request base read (OfAnyWord Done) written = (due_of request base read ≡ DoneWhole) × EndSaysOf request base read DoneWhole written
Over request base read (OfAnyWord (Refused verdict)) written = (due_of request base read ≡ RefusedAt verdict) × EndSaysOf request base read (RefusedAt verdict) written
Over request base read (OfAnyWord (InputTooLong file)) written = (due_of request base read ≡ TooLong file) × EndSaysOf request base read (TooLong file) written
Over request base read (OfAnyWord (TooMuch sum)) written = (due_of request base read ≡ stream_dues.TooMuch sum) × EndSaysOf request base read (stream_dues.TooMuch sum) written
Over request base read (OfAnyWord Usage) written = ⊥
Over request base read (OfAnyWord InputFault) written = StandsBeforeOf request base read written
Over request base read (OfAnyWord (InputChanged file place)) written = StandsBeforeOf request base read written
Over request base read (OfAnyWord NoMemory) written = StandsBeforeOf request base read written
Over request base read (OfAnyWord OutputFault) written = StandsCutOf request base read written
Over request base read StoreFault written = StandsBeforeOf request base read written
Over request base read (NotStore group) written = ⊥
Over request base read (Missing what) written = ⊥
Over request base read (LogFull end wanted limit) written = ⊥
Over request base read (StoreThere size) written = ⊥
Over request base read (Damaged group stored computed) written = ⊥

module _ (request : streams.Request) (image : List ℕ) (read : Sources) (store : Store ℕ) (written : List ℕ) where
  ends : (reads : Bool) (due : stream_dues.Due) → IsOver reads image store → IsStreamsDue reads request image read (Ends due) → StreamsSay reads request image read (Ends due) written
      → (due_of request (base_over request read store) read ≡ due) × EndSaysOf request (base_over request read store) read due written
  ends true due over is says = (
    same (ap (λ (s : Store ℕ). due_of request (base_over request read s) read) (one_store 0 as_bytes image store is.0 over is.1)) is.2,
    says.0 store over,
  )
    where
      same : {x y : stream_dues.Due} → x ≡ y → Ends due ≡ Ends y → x ≡ due
      same e q = cc
  ends false due over is says =
      let none : base_over request read store ≡ [] = ap (λ (s : Store ℕ). base_over request read s) over ∙ over_nothing request read in
      subst (λ (b : Store ℕ). (due_of request b read ≡ due) × EndSaysOf request b read due written) (sym none) (cc, says)

  -- no other answer than one that files decide is due over a store
  never_none : (reads : Bool) (due : Due) → ((d : stream_dues.Due) → due ≡ Ends d → ⊥) → IsOver reads image store → IsStreamsDue reads request image read due → StreamsSay reads request image read due written → ⊥
  never_none true (Ends due) not over is says = not due refl
  never_none true (dues.NotStore group) not over is says = says.0 store over
  never_none true (dues.Missing what) not over is says = says.0 store over
  never_none true (dues.LogFull end wanted limit) not over is says = says.0 store over
  never_none true (dues.StoreThere size) not over is says = says.0 store over
  never_none true (dues.Damaged group stored computed) not over is says = says.0 store over
  never_none false due not over is says = not (due_of request [] read) is

  before : (reads : Bool) → IsOver reads image store → StreamsBefore reads request image read written → StandsBeforeOf request (base_over request read store) read written
  before true over h = h.0 store over
  before false over h = subst (λ (b : Store ℕ). StandsBeforeOf request b read written) (sym (ap (λ (s : Store ℕ). base_over request read s) over ∙ over_nothing request read)) h

  input : (reads : Bool) → IsOver reads image store → StreamsInput reads request image read written → StandsBeforeOf request (base_over request read store) read written
  input true over h = h.0 store over
  input false over h = before false over h

  cut : (reads : Bool) → IsOver reads image store → StreamsCut reads request image read written → StandsCutOf request (base_over request read store) read written
  cut true over h = h.0 store over
  cut false over h = subst (λ (b : Store ℕ). StandsCutOf request b read written) (sym (ap (λ (s : Store ℕ). base_over request read s) over ∙ over_nothing request read)) h

  fault : (reads : Bool) → IsOver reads image store → StreamsFault reads request image read written → StandsBeforeOf request (base_over request read store) read written
  fault true over h = before true over h
  fault false over h = absurd h

over_it : (request : streams.Request) (words : List (List ℕ)) (image : List ℕ) (files : NamedFiles) (store : Store ℕ) (answer : Answer) (written left : List ℕ)
    → IsOver (reads_store words (store_of request)) image store → Answers (OfStreams request) (at_entry words image files) answer written left
    → Over request (base_over request (read_of files) store) (read_of files) answer written × (left ≡ image)
over_it request words image files store (OfAnyWord Done) written left over h = (ends request image (read_of files) store written (reads_store words (store_of request)) DoneWhole over h.0 h.1.1, h.1.0)
over_it request words image files store (OfAnyWord (Refused verdict)) written left over h = (ends request image (read_of files) store written (reads_store words (store_of request)) (RefusedAt verdict) over h.0 h.1.1, h.1.0)
over_it request words image files store (OfAnyWord (InputTooLong file)) written left over h = (ends request image (read_of files) store written (reads_store words (store_of request)) (TooLong file) over h.0 h.1.1, h.1.0)
over_it request words image files store (OfAnyWord (TooMuch sum)) written left over h = (ends request image (read_of files) store written (reads_store words (store_of request)) (stream_dues.TooMuch sum) over h.0 h.1.1, h.1.0)
over_it request words image files store (OfAnyWord Usage) written left over h = absurd h
over_it request words image files store (OfAnyWord InputFault) written left over h = (input request image (read_of files) store written (reads_store words (store_of request)) over h.1.1, h.1.0)
over_it request words image files store (OfAnyWord (InputChanged file place)) written left over h = (input request image (read_of files) store written (reads_store words (store_of request)) over h.1.1, h.1.0)
over_it request words image files store (OfAnyWord NoMemory) written left over h = (before request image (read_of files) store written (reads_store words (store_of request)) over h.1, h.0)
over_it request words image files store (OfAnyWord OutputFault) written left over h = (cut request image (read_of files) store written (reads_store words (store_of request)) over h.1, h.0)
over_it request words image files store StoreFault written left over h = (fault request image (read_of files) store written (reads_store words (store_of request)) over h.1, h.0)
over_it request words image files store (NotStore group) written left over h =
    absurd (never_none request image (read_of files) store written (reads_store words (store_of request)) (dues.NotStore group) (λ d e. cc) over h.0 h.1.1)
over_it request words image files store (Missing what) written left over h =
    absurd (never_none request image (read_of files) store written (reads_store words (store_of request)) (dues.Missing what) (λ d e. cc) over h.0 h.1.1)
over_it request words image files store (LogFull end wanted limit) written left over h =
    absurd (never_none request image (read_of files) store written (reads_store words (store_of request)) (dues.LogFull end wanted limit) (λ d e. cc) over h.0 h.1.1)
over_it request words image files store (StoreThere size) written left over h =
    absurd (never_none request image (read_of files) store written (reads_store words (store_of request)) (dues.StoreThere size) (λ d e. cc) over h.0 h.1.1)
over_it request words image files store (Damaged group stored computed) written left over h =
    absurd (never_none request image (read_of files) store written (reads_store words (store_of request)) (dues.Damaged group stored computed) (λ d e. cc) over h.0 h.1.1)

-- what files decide is what is due over the base
due_over : (request : streams.Request) (base : Store ℕ) (read : Sources) (due : stream_dues.Due) (written : List ℕ) → Over request base read (OfAnyWord (answered due)) written → due_of request base read ≡ due
due_over request base read DoneWhole written h = h.0
due_over request base read (RefusedAt verdict) written h = h.0
due_over request base read (TooLong file) written h = h.0
due_over request base read (stream_dues.TooMuch sum) written h = h.0

pub compose_is_due : ComposeIsDue
compose_is_due place at words image files store due written left over h =
    due_over (Compose place at) (base_over (Compose place at) (read_of files) store) (read_of files) due written (over_it (Compose place at) words image files store (OfAnyWord (answered due)) written left over h).0

pub audit_is_due : AuditIsDue
audit_is_due guards place at words image files store due written left over h =
    due_over (Audit guards place at) store (read_of files) due written (over_it (Audit guards place at) words image files store (OfAnyWord (answered due)) written left over h).0

pub export_is_due : ExportIsDue
export_is_due place at words image files store due written left over h =
    due_over (Export place at) store (read_of files) due written (over_it (Export place at) words image files store (OfAnyWord (answered due)) written left over h).0

pub dump_is_due : DumpIsDue
dump_is_due at words image files due written left h =
    due_over (Dump at) [] (read_of files) due written (over_it (Dump at) words image files [] (OfAnyWord (answered due)) written left refl h).0

-- ---- compose

pub compose_is_done : ComposeIsDone
compose_is_done place at words image files store written left over h =
    let o = over_it (Compose place at) words image files store (OfAnyWord Done) written left over h in (o.0.0, o.0.1, o.1)

stopped : (place at : ℕ) (base : Store ℕ) (read : Sources) (answer : Answer) (written : List ℕ) → Over (Compose place at) base read answer written → answer ≢ OfAnyWord Done → IsStoppedOf base read.reading written
stopped place at base read (OfAnyWord Done) written h not_done = absurd (not_done refl)
stopped place at base read (OfAnyWord (Refused verdict)) written h not_done = h.1
stopped place at base read (OfAnyWord (InputTooLong file)) written h not_done = h.1
stopped place at base read (OfAnyWord (TooMuch sum)) written h not_done = h.1
stopped place at base read (OfAnyWord Usage) written h not_done = absurd h
stopped place at base read (OfAnyWord InputFault) written h not_done = h
stopped place at base read (OfAnyWord (InputChanged file at_place)) written h not_done = h
stopped place at base read (OfAnyWord NoMemory) written h not_done = h
stopped place at base read (OfAnyWord OutputFault) written h not_done = h
stopped place at base read StoreFault written h not_done = h
stopped place at base read (NotStore group) written h not_done = absurd h
stopped place at base read (Missing what) written h not_done = absurd h
stopped place at base read (LogFull end wanted limit) written h not_done = absurd h
stopped place at base read (StoreThere size) written h not_done = absurd h
stopped place at base read (Damaged group stored computed) written h not_done = absurd h

-- words read a store, over which nothing is done if there is none, or they read none
pub compose_is_unfinished : ComposeIsUnfinished
compose_is_unfinished place at words image files answer written left are h not_done = one (reads_store words (Some place)) refl
  where
    over : (store : Store ℕ) → IsOver (reads_store words (Some place)) image store → IsUnfinished written
    over store is = (stopped place at _ (read_of files) answer written (over_it (Compose place at) words image files store answer written left is h).0 not_done).unfinished

    one : (reads : Bool) → reads_store words (Some place) ≡ reads → IsUnfinished written
    one false e = over [] (subst (λ (b : Bool). IsOver b image []) (sym e) refl)
    one true e = elim (image_decided image are) [
      | inl stands ↦ over stands.0 (subst (λ (b : Bool). IsOver b image stands.0) (sym e) stands.1)
      | inr none ↦ subst IsUnfinished (sym (nothing_is_done_over_none (OfStreams (Compose place at)) words image files none.0 answer written left e none.1 h).0) (nothing_unfinished 0)
    ]

pub compose_is_in_front : ComposeIsInFront
compose_is_in_front place at words image files store answer written left over h = one answer (over_it (Compose place at) words image files store answer written left over h).0
  where
    base : Store ℕ
    base = base_over (Compose place at) (read_of files) store

    one : (answer : Answer) → Over (Compose place at) base (read_of files) answer written → IsFrontOf (whole_output_of base (read_of files).reading) written
    one (OfAnyWord Done) o = own_front _ written o.1
    one (OfAnyWord (Refused verdict)) o = o.1.front
    one (OfAnyWord (InputTooLong file)) o = o.1.front
    one (OfAnyWord (TooMuch sum)) o = o.1.front
    one (OfAnyWord Usage) o = absurd o
    one (OfAnyWord InputFault) o = o.front
    one (OfAnyWord (InputChanged file at_place)) o = o.front
    one (OfAnyWord NoMemory) o = o.front
    one (OfAnyWord OutputFault) o = o.front
    one StoreFault o = o.front
    one (NotStore group) o = absurd o
    one (Missing what) o = absurd o
    one (LogFull end wanted limit) o = absurd o
    one (StoreThere size) o = absurd o
    one (Damaged group stored computed) o = absurd o

-- ---- audit

pub audit_is_done : AuditIsDone
audit_is_done guards place at words image files store written left over h =
    let o = over_it (Audit guards place at) words image files store (OfAnyWord Done) written left over h in (o.0.0, o.0.1, o.1)

pub audit_is_cut : AuditIsCut
audit_is_cut guards place at words image files store written left over h =
    (over_it (Audit guards place at) words image files store (OfAnyWord OutputFault) written left over h).0

pub audit_is_silent : AuditIsSilent
audit_is_silent guards place at words image files store answer written left over h not_done not_cut =
    one answer (over_it (Audit guards place at) words image files store answer written left over h).0 not_done not_cut
  where
    one : (answer : Answer) → Over (Audit guards place at) store (read_of files) answer written → answer ≢ OfAnyWord Done → answer ≢ OfAnyWord OutputFault → written ≡ []
    one (OfAnyWord Done) o not_done not_cut = absurd (not_done refl)
    one (OfAnyWord OutputFault) o not_done not_cut = absurd (not_cut refl)
    one (OfAnyWord (Refused verdict)) o not_done not_cut = o.1
    one (OfAnyWord (InputTooLong file)) o not_done not_cut = o.1
    one (OfAnyWord (TooMuch sum)) o not_done not_cut = o.1
    one (OfAnyWord Usage) o not_done not_cut = absurd o
    one (OfAnyWord InputFault) o not_done not_cut = o
    one (OfAnyWord (InputChanged file at_place)) o not_done not_cut = o
    one (OfAnyWord NoMemory) o not_done not_cut = o
    one StoreFault o not_done not_cut = o
    one (NotStore group) o not_done not_cut = absurd o
    one (Missing what) o not_done not_cut = absurd o
    one (LogFull end wanted limit) o not_done not_cut = absurd o
    one (StoreThere size) o not_done not_cut = absurd o
    one (Damaged group stored computed) o not_done not_cut = absurd o

-- ---- export, dump, gen and trial

pub export_is_done : ExportIsDone
export_is_done place at words image files store written left over h =
    let o = over_it (Export place at) words image files store (OfAnyWord Done) written left over h in (o.0.0, o.0.1, o.1)

pub export_is_refused : ExportIsRefused
export_is_refused place at words image files store verdict written left over h =
    (over_it (Export place at) words image files store (OfAnyWord (Refused verdict)) written left over h).0

pub dump_is_done : DumpIsDone
dump_is_done at words image files written left h =
    let o = over_it (Dump at) words image files [] (OfAnyWord Done) written left refl h in (o.0.0, o.0.1, o.1)

pub dump_is_refused : DumpIsRefused
dump_is_refused at words image files verdict written left h = (over_it (Dump at) words image files [] (OfAnyWord (Refused verdict)) written left refl h).0

pub gen_is_done : GenIsDone
gen_is_done count seed words image files written left h =
    let o = over_it (Gen count seed) words image files [] (OfAnyWord Done) written left refl h in (o.0.1, o.1)

pub trial_is_done : TrialIsDone
trial_is_done count seed words image files written left h =
    let o = over_it (Trial count seed) words image files [] (OfAnyWord Done) written left refl h in (o.0.1, o.1)

pub nothing_is_refused : NothingIsRefused
nothing_is_refused count seed words image files verdict written left = (
  λ h. (over_it (Gen count seed) words image files [] (OfAnyWord (Refused verdict)) written left refl h).0.1,
  λ h. (over_it (Trial count seed) words image files [] (OfAnyWord (Refused verdict)) written left refl h).0.1,
)

pub export_is_in_front : ExportIsInFront
export_is_in_front place at words image files store answer written left over h = one answer (over_it (Export place at) words image files store answer written left over h).0
  where
    one : (answer : Answer) → Over (Export place at) store (read_of files) answer written → IsFrontOf (exported_of store (read_of files).limited.items) written
    one (OfAnyWord Done) o = own_front _ written o.1
    one (OfAnyWord OutputFault) o = o
    one (OfAnyWord (Refused verdict)) o = own_front _ written o.1
    one (OfAnyWord (InputTooLong file)) o = o.1
    one (OfAnyWord (TooMuch sum)) o = o.1
    one (OfAnyWord Usage) o = absurd o
    one (OfAnyWord InputFault) o = o
    one (OfAnyWord (InputChanged file at_place)) o = o
    one (OfAnyWord NoMemory) o = o
    one StoreFault o = o
    one (NotStore group) o = absurd o
    one (Missing what) o = absurd o
    one (LogFull end wanted limit) o = absurd o
    one (StoreThere size) o = absurd o
    one (Damaged group stored computed) o = absurd o

pub dump_is_in_front : DumpIsInFront
dump_is_in_front at words image files answer written left h = one answer (over_it (Dump at) words image files [] answer written left refl h).0
  where
    one : (answer : Answer) → Over (Dump at) [] (read_of files) answer written → IsFrontOf (dump_of (read_of files).first) written
    one (OfAnyWord Done) o = own_front _ written o.1
    one (OfAnyWord OutputFault) o = o
    one (OfAnyWord (Refused verdict)) o = own_front _ written o.1
    one (OfAnyWord (InputTooLong file)) o = o.1
    one (OfAnyWord (TooMuch sum)) o = o.1
    one (OfAnyWord Usage) o = absurd o
    one (OfAnyWord InputFault) o = o
    one (OfAnyWord (InputChanged file at_place)) o = o
    one (OfAnyWord NoMemory) o = o
    one StoreFault o = o
    one (NotStore group) o = absurd o
    one (Missing what) o = absurd o
    one (LogFull end wanted limit) o = absurd o
    one (StoreThere size) o = absurd o
    one (Damaged group stored computed) o = absurd o

pub gen_is_in_front : GenIsInFront
gen_is_in_front count seed words image files answer written left h = one answer (over_it (Gen count seed) words image files [] answer written left refl h).0
  where
    one : (answer : Answer) → Over (Gen count seed) [] (read_of files) answer written → IsFrontOf (chain_of seed count) written
    one (OfAnyWord Done) o = own_front _ written o.1
    one (OfAnyWord OutputFault) o = o
    one (OfAnyWord (Refused verdict)) o = absurd o.1
    one (OfAnyWord (InputTooLong file)) o = o.1
    one (OfAnyWord (TooMuch sum)) o = o.1
    one (OfAnyWord Usage) o = absurd o
    one (OfAnyWord InputFault) o = o
    one (OfAnyWord (InputChanged file at_place)) o = o
    one (OfAnyWord NoMemory) o = o
    one StoreFault o = o
    one (NotStore group) o = absurd o
    one (Missing what) o = absurd o
    one (LogFull end wanted limit) o = absurd o
    one (StoreThere size) o = absurd o
    one (Damaged group stored computed) o = absurd o

pub trial_is_in_front : TrialIsInFront
trial_is_in_front count seed words image files answer written left h = one answer (over_it (Trial count seed) words image files [] answer written left refl h).0
  where
    one : (answer : Answer) → Over (Trial count seed) [] (read_of files) answer written → IsFrontOf (trial_line seed count) written
    one (OfAnyWord Done) o = own_front _ written o.1
    one (OfAnyWord OutputFault) o = o
    one (OfAnyWord (Refused verdict)) o = absurd o.1
    one (OfAnyWord (InputTooLong file)) o = o.1
    one (OfAnyWord (TooMuch sum)) o = o.1
    one (OfAnyWord Usage) o = absurd o
    one (OfAnyWord InputFault) o = o
    one (OfAnyWord (InputChanged file at_place)) o = o
    one (OfAnyWord NoMemory) o = o
    one StoreFault o = o
    one (NotStore group) o = absurd o
    one (Missing what) o = absurd o
    one (LogFull end wanted limit) o = absurd o
    one (StoreThere size) o = absurd o
    one (Damaged group stored computed) o = absurd o
