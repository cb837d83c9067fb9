-- What the calls that read files over nothing answer.
use Rattle.std.specs.Prelude.{◌≡◌, ◌≢◌, ℕ, List, [], ◌∷◌, Option}
use Rattle.std.specs.List.{AllByRecursion}
use Rattle.std.proofs.Common.{refl, sym, subst}
use Rattle.send_model.specs.Attribute.{IsBytes}
use Rattle.send_model.specs.Guards.{GuardSpec}
use Rattle.send_model.specs.Outside.{base_of}
use Rattle.send_model.specs.Overridden.{overridden}
use Rattle.send_model.specs.Reading.{Verdict, input}
use Rattle.send_model.specs.Store.{Store}
use Rattle.send_model.specs.Headline.{IsComposedOf, whole_output_of}
use Rattle.send_model.specs.ExportPromises.{IsExportedOf}
use Rattle.send_model.specs.Words as streams
use Rattle.send_model.specs.Words.{new_guards}
use Rattle.store_model.specs.NamedFiles.{read_of, unnamed}
use Rattle.part_names.specs.Overriding.{EndsOf, sources_with}
use Rattle.composer.specs.Files.{ComposeEnds}
use Rattle.auditor.specs.Answers.{AuditEnds}
use Rattle.sx_base.specs.Calls.{IfAllTold, Wrote, Caused, CausedAgain, SteadyIfDone, FoundChanged, Ends}
use Rattle.sx_base.specs.Disk.{IsImage}
use Rattle.sx_base.specs.declared.outcome.Outcome.{Outcome}
use Rattle.sx_base.specs.declared.outcome.Outcome.TheVariants as ended
use Rattle.sx_base.specs.declared.outcome.Verdict as sx
use Rattle.store_commands.proofs.StreamAnswers.{compose_ends, audit_ends, then_told}
use Rattle.program_model.specs.FileWords.{GivenFiles}
use Rattle.program_model.specs.Requests.{Nothing, Compose, Audit, Dump, Export, Gen, Trial}
use Rattle.program_model.specs.Profiles.{profile, How, NoFiles, Once, Twice}
use Rattle.program_model.specs.Answers.{Done, Refused, Says, meaning_of, read_as}
use Rattle.request_answers.specs.Objects.{Objects, objects_of, IsSteady}
use Rattle.request_answers.proofs.Still.{stays}
use Rattle.sx_base.specs.declared.disk.Disk as keeping
use Rattle.sx_base.specs.declared.inputs.Inputs as reading
use Rattle.sx_base.specs.declared.sink.Sink as writing
use Rattle.request_answers.specs.Promises.{Answers, AreRead, IfKnown}
use Rattle.request_answers.proofs.Causes as why
use Rattle.request_answers.proofs.Causes.{of_outcome, of_end}
use Rattle.request_answers.proofs.Saying as saying
use Rattle.request_answers.proofs.Saying.{IfChanged, a_store, covered}

-- A disk that was not used.
pub record Unused (o : Objects) : Type 0 where
  pub disk : o.DiskSame
  pub contents : o.contents_after ≡ o.contents
  pub moment : o.IsFaithful → o.CrashesLeave (IsImage o.crash_states)
  pub faults : IsSteady o.disk_faults

module _ {I O D : Type 0} (inputs : reading.Ghosts I) (i j : I) (out : writing.Ghosts O) (x y : O) (disk : keeping.Ghosts D) (d : D)
    (now : disk.tells → (image : List ℕ) → disk.left_since d (disk.moment d) image → IsImage (disk.pending d) image) where
  pub unused : Unused (objects_of inputs i j out x y disk d d)
  unused = record {
    disk = refl;
    contents = refl;
    moment = λ faithful. stays disk.moment disk.left_since d (IsImage (disk.pending d)) (now faithful);
    faults = refl;
  }

-- What every call says that reads files and no store.
pub record Alone (o : Objects) (how : How) (names : List (List ℕ)) (outcome : Outcome) : Type 0 where
  pub known : o.known_after ≡ o.known_files
  pub asked : o.AskedInputs (AreRead how o.known_files names)
  pub inputs : SteadyIfDone o.input_faults.before o.input_faults.after outcome
  pub ends : SteadyIfDone o.early_ends.before o.early_ends.after outcome
  pub output : SteadyIfDone o.output_faults.before o.output_faults.after outcome
  pub disk : Unused o

-- Some files are known where they are told.
pub told_known : (known : Option (List (List ℕ × List ℕ))) (names : List (List ℕ)) (P : List (List ℕ) → Type 0) → names ≢ [] → IfAllTold known names P → IfKnown known names P
told_known known [] P some h = absurd (some refl)
told_known known (name ∷ names) P some h = h

-- An outcome that is answered so.
module _ where
  pub outcome_done : (outcome : Outcome) → of_outcome outcome ≡ Done → outcome ≡ ended.Done
  outcome_done ended.Done e = refl
  outcome_done (ended.Refused verdict) e = cc
  outcome_done (ended.InputTooLong file) e = cc
  outcome_done (ended.TooMuch sum) e = cc
  outcome_done (ended.InputChanged file place) e = cc
  outcome_done ended.InputFault e = cc
  outcome_done ended.OutputFault e = cc
  outcome_done ended.NoMemory e = cc

  pub outcome_refused : (outcome : Outcome) (verdict : Verdict) → of_outcome outcome ≡ Refused verdict → (found : sx.Verdict) × (outcome ≡ ended.Refused found)
  outcome_refused (ended.Refused found) verdict e = (found, refl)
  outcome_refused ended.Done verdict e = cc
  outcome_refused (ended.InputTooLong file) verdict e = cc
  outcome_refused (ended.TooMuch sum) verdict e = cc
  outcome_refused (ended.InputChanged file place) verdict e = cc
  outcome_refused ended.InputFault verdict e = cc
  outcome_refused ended.OutputFault verdict e = cc
  outcome_refused ended.NoMemory verdict e = cc

twice_some : Twice ≡ NoFiles → ⊥
twice_some e = cc

once_some : Once ≡ NoFiles → ⊥
once_some e = cc

module _ (o : Objects) (files : GivenFiles) (some : files.files ≢ []) (outcome : Outcome) where
  pub compose_meets : Alone o Twice files.files outcome
      → CausedAgain (record { ends = o.early_ends.before; reads = o.input_faults.before; writes = o.output_faults.before })
      (record { ends = o.early_ends.after; reads = o.input_faults.after; writes = o.output_faults.after }) outcome
      → FoundChanged files.files o.last_end outcome
      → IfAllTold o.known_files files.files (λ bytes. Wrote o.output o.output_after (ComposeEnds [] files.overrides bytes outcome))
      → Answers o (Compose Nothing files) (of_outcome outcome)
  unfolding profile
  compose_meets a caused found told = record {
    known = a.known;
    reads = a.asked;
    unread = λ e. absurd (twice_some e);
    unprinted = λ e. cc;
    unused = λ e. a.disk.disk;
    unharmed = λ faithful reads. a.disk.contents;
    allowed = why.compose_alone outcome;
    caused = why.cause_again o outcome a.inputs a.ends a.output a.disk.faults caused;
    says = told_known o.known_files files.files _ some (then_told o.known_files files.files
        (λ bytes. Wrote o.output o.output_after (ComposeEnds [] files.overrides bytes outcome))
        (λ bytes. Wrote o.output o.output_after (λ written. Says (meaning_of (Compose Nothing files) o.contents bytes) (of_outcome outcome) written o.contents_after))
        (λ bytes w. (
          w.0,
          w.1,
          subst (λ (left : List ℕ). Says (meaning_of (Compose Nothing files) o.contents bytes) (of_outcome outcome) w.0 left) (sym a.disk.contents)
              (saying.alone_again (streams.Compose 0 0) (read_as files bytes) _ (saying.composed_same (read_as files bytes)) o.contents w.0 outcome
              (compose_ends [] w.0 0 0 (read_as files bytes) outcome w.2.ends)),
        )) told);
    details = why.details_again o (Compose Nothing files) outcome found;
    promised = record {
      whole = λ done. then_told o.known_files files.files
          (λ bytes. Wrote o.output o.output_after (ComposeEnds [] files.overrides bytes outcome)) _
          (λ bytes w. (
            w.0,
            w.1,
            λ s is. subst (λ (base : Store ℕ). IsComposedOf (base_of base (overridden files.overrides (input bytes)).items) (overridden files.overrides (input bytes)) w.0) (sym is)
                (w.2.composed (outcome_done outcome done)),
          )) told;
      front = λ verdict refused. let found = outcome_refused outcome verdict refused in then_told o.known_files files.files
          (λ bytes. Wrote o.output o.output_after (ComposeEnds [] files.overrides bytes outcome)) _
          (λ bytes w. (
            w.0,
            w.1,
            λ s is. subst (λ (base : Store ℕ). w.0 ≡ whole_output_of (base_of base (overridden files.overrides (input bytes)).items) (overridden files.overrides (input bytes))) (sym is)
                (w.2.refused found.0 found.1),
          )) told;
    };
    any_moment = a.disk.moment;
    durable = λ done faithful e. cc;
    acknowledged = λ faithful e. tt;
  }

  pub audit_meets : (guards : List GuardSpec) → Alone o Once files.files outcome → Caused o.input_faults.before o.input_faults.after o.output_faults.before o.output_faults.after outcome
      → IfAllTold o.known_files files.files (λ bytes. Wrote o.output o.output_after (λ written. AuditEnds [] (new_guards guards) files.overrides bytes outcome written))
      → Answers o (Audit guards Nothing files) (of_outcome outcome)
  unfolding profile
  audit_meets guards a caused told = record {
    known = a.known;
    reads = a.asked;
    unread = λ e. absurd (once_some e);
    unprinted = λ e. cc;
    unused = λ e. a.disk.disk;
    unharmed = λ faithful reads. a.disk.contents;
    allowed = why.read_alone o.input_faults.before o.input_faults.after o.output_faults.before o.output_faults.after outcome caused;
    caused = why.cause_alone o outcome a.inputs a.ends a.output a.disk.faults caused;
    says = told_known o.known_files files.files _ some (then_told o.known_files files.files
        (λ bytes. Wrote o.output o.output_after (λ written. AuditEnds [] (new_guards guards) files.overrides bytes outcome written))
        (λ bytes. Wrote o.output o.output_after (λ written. Says (meaning_of (Audit guards Nothing files) o.contents bytes) (of_outcome outcome) written o.contents_after))
        (λ bytes w. (
          w.0,
          w.1,
          subst (λ (left : List ℕ). Says (meaning_of (Audit guards Nothing files) o.contents bytes) (of_outcome outcome) w.0 left) (sym a.disk.contents)
              (saying.alone_once (streams.Audit guards 0 0) (read_as files bytes) _ (saying.audited_same (read_as files bytes) guards) o.contents w.0 o.input_faults.before o.input_faults.after o.output_faults.before o.output_faults.after outcome caused (audit_ends [] w.0 0 0 files.overrides bytes guards outcome w.2)),
        )) told);
    details = why.details_alone o (Audit guards Nothing files) o.input_faults.before o.input_faults.after o.output_faults.before o.output_faults.after outcome caused;
    promised = tt;
    any_moment = a.disk.moment;
    durable = λ done faithful e. cc;
    acknowledged = λ faithful e. tt;
  }

  pub export_meets : Alone o Once files.files outcome → Caused o.input_faults.before o.input_faults.after o.output_faults.before o.output_faults.after outcome
      → IfAllTold o.known_files files.files (λ bytes. Wrote o.output o.output_after (λ written. EndsOf (streams.Export 0 0) [] (sources_with files.overrides bytes) outcome written))
      → (outcome ≡ ended.Done → IfAllTold o.known_files files.files (λ bytes. Wrote o.output o.output_after (λ written. AllByRecursion IsBytes bytes → IsExportedOf [] (overridden files.overrides (input bytes)) written)))
      → Answers o (Export Nothing files) (of_outcome outcome)
  unfolding profile
  export_meets a caused told promised = record {
    known = a.known;
    reads = a.asked;
    unread = λ e. absurd (once_some e);
    unprinted = λ e. cc;
    unused = λ e. a.disk.disk;
    unharmed = λ faithful reads. a.disk.contents;
    allowed = why.read_alone o.input_faults.before o.input_faults.after o.output_faults.before o.output_faults.after outcome caused;
    caused = why.cause_alone o outcome a.inputs a.ends a.output a.disk.faults caused;
    says = told_known o.known_files files.files _ some (then_told o.known_files files.files
        (λ bytes. Wrote o.output o.output_after (λ written. EndsOf (streams.Export 0 0) [] (sources_with files.overrides bytes) outcome written))
        (λ bytes. Wrote o.output o.output_after (λ written. Says (meaning_of (Export Nothing files) o.contents bytes) (of_outcome outcome) written o.contents_after))
        (λ bytes w. (
          w.0,
          w.1,
          subst (λ (left : List ℕ). Says (meaning_of (Export Nothing files) o.contents bytes) (of_outcome outcome) w.0 left) (sym a.disk.contents)
              (saying.alone_once (streams.Export 0 0) (read_as files bytes) _ (saying.exported_same (read_as files bytes)) o.contents w.0 o.input_faults.before o.input_faults.after o.output_faults.before o.output_faults.after outcome caused (w.2)),
        )) told);
    details = why.details_alone o (Export Nothing files) o.input_faults.before o.input_faults.after o.output_faults.before o.output_faults.after outcome caused;
    promised = λ done. then_told o.known_files files.files
        (λ bytes. Wrote o.output o.output_after (λ written. AllByRecursion IsBytes bytes → IsExportedOf [] (overridden files.overrides (input bytes)) written)) _
        (λ bytes w. (w.0, w.1, λ s is are. subst (λ (base : Store ℕ). IsExportedOf base (overridden files.overrides (input bytes)) w.0) (sym is) (w.2 are)))
        (promised (outcome_done outcome done));
    any_moment = a.disk.moment;
    durable = λ done faithful e. cc;
    acknowledged = λ faithful e. tt;
  }

module _ (o : Objects) (file : List ℕ) (outcome : Outcome) where
  some : file ∷ [] ≢ []
  some e = cc

  pub dump_meets : Alone o Once (file ∷ []) outcome → Caused o.input_faults.before o.input_faults.after o.output_faults.before o.output_faults.after outcome
      → IfAllTold o.known_files (file ∷ []) (λ bytes. Wrote o.output o.output_after (λ written. Ends (streams.Dump 1) [] bytes outcome written))
      → Answers o (Dump file) (of_outcome outcome)
  unfolding profile
  dump_meets a caused told = record {
    known = a.known;
    reads = a.asked;
    unread = λ e. absurd (once_some e);
    unprinted = λ e. cc;
    unused = λ e. a.disk.disk;
    unharmed = λ faithful reads. a.disk.contents;
    allowed = why.read_alone o.input_faults.before o.input_faults.after o.output_faults.before o.output_faults.after outcome caused;
    caused = why.cause_alone o outcome a.inputs a.ends a.output a.disk.faults caused;
    says = told_known o.known_files (file ∷ []) _ some (then_told o.known_files (file ∷ [])
        (λ bytes. Wrote o.output o.output_after (λ written. Ends (streams.Dump 1) [] bytes outcome written))
        (λ bytes. Wrote o.output o.output_after (λ written. Says (meaning_of (Dump file) o.contents bytes) (of_outcome outcome) written o.contents_after))
        (λ bytes w. (
          w.0,
          w.1,
          subst (λ (left : List ℕ). Says (meaning_of (Dump file) o.contents bytes) (of_outcome outcome) w.0 left) (sym a.disk.contents)
              (saying.alone_once (streams.Dump 1) (read_of (unnamed bytes)) _ (saying.dumped_same (unnamed bytes)) o.contents w.0 o.input_faults.before o.input_faults.after o.output_faults.before o.output_faults.after outcome caused (saying.ends_unnamed (streams.Dump 1) [] bytes w.0 outcome w.2)),
        )) told);
    details = why.details_alone o (Dump file) o.input_faults.before o.input_faults.after o.output_faults.before o.output_faults.after outcome caused;
    promised = tt;
    any_moment = a.disk.moment;
    durable = λ done faithful e. cc;
    acknowledged = λ faithful e. tt;
  }

pub gen_meets : (o : Objects) (count seed : ℕ) (outcome : Outcome) → Alone o NoFiles [] outcome → o.InputsSame
    → Caused 0 0 o.output_faults.before o.output_faults.after outcome
    → Wrote o.output o.output_after (λ written. Ends (streams.Gen count seed) [] [] outcome written)
    → Answers o (Gen count seed) (of_outcome outcome)
unfolding profile
gen_meets o count seed outcome a unread caused w = let due = saying.ends_unnamed (streams.Gen count seed) [] [] w.0 outcome w.2 in record {
  known = a.known;
  reads = a.asked;
  unread = λ e. unread;
  unprinted = λ e. cc;
  unused = λ e. a.disk.disk;
  unharmed = λ faithful reads. a.disk.contents;
  allowed = why.made_alone (streams.Gen count seed) outcome w.0 (saying.gen_due count seed) w.2 o.output_faults.before o.output_faults.after caused;
  caused = why.cause_made o outcome a.inputs a.ends a.output a.disk.faults caused;
  says = (
    w.0,
    w.1,
    subst (λ (left : List ℕ). Says (meaning_of (Gen count seed) o.contents []) (of_outcome outcome) w.0 left) (sym a.disk.contents)
        (saying.alone_once (streams.Gen count seed) (read_of (unnamed [])) _ (saying.gen_same (read_of (unnamed [])) count seed) o.contents w.0 0 0 o.output_faults.before o.output_faults.after outcome caused due),
  );
  details = why.details_alone o (Gen count seed) 0 0 o.output_faults.before o.output_faults.after outcome caused;
  promised = tt;
  any_moment = a.disk.moment;
  durable = λ done faithful e. cc;
  acknowledged = λ faithful e. tt;
}

pub trial_meets : (o : Objects) (count seed : ℕ) (outcome : Outcome) → Alone o NoFiles [] outcome → o.InputsSame
    → Caused 0 0 o.output_faults.before o.output_faults.after outcome
    → Wrote o.output o.output_after (λ written. Ends (streams.Trial count seed) [] [] outcome written)
    → Answers o (Trial count seed) (of_outcome outcome)
unfolding profile
trial_meets o count seed outcome a unread caused w = let due = saying.ends_unnamed (streams.Trial count seed) [] [] w.0 outcome w.2 in record {
  known = a.known;
  reads = a.asked;
  unread = λ e. unread;
  unprinted = λ e. cc;
  unused = λ e. a.disk.disk;
  unharmed = λ faithful reads. a.disk.contents;
  allowed = why.made_alone (streams.Trial count seed) outcome w.0 (saying.trial_due count seed) w.2 o.output_faults.before o.output_faults.after caused;
  caused = why.cause_made o outcome a.inputs a.ends a.output a.disk.faults caused;
  says = (
    w.0,
    w.1,
    subst (λ (left : List ℕ). Says (meaning_of (Trial count seed) o.contents []) (of_outcome outcome) w.0 left) (sym a.disk.contents)
        (saying.alone_once (streams.Trial count seed) (read_of (unnamed [])) _ (saying.trial_same (read_of (unnamed [])) count seed) o.contents w.0 0 0 o.output_faults.before o.output_faults.after outcome caused due),
  );
  details = why.details_alone o (Trial count seed) 0 0 o.output_faults.before o.output_faults.after outcome caused;
  promised = tt;
  any_moment = a.disk.moment;
  durable = λ done faithful e. cc;
  acknowledged = λ faithful e. tt;
}
