-- What the calls over a store answer.
use Rattle.std.specs.Prelude.{◌≡◌, ◌≢◌, ⊤, ℕ, true, ◌<◌, suc, drop, List, [], ◌∷◌, length, None, Some}
use Rattle.std.specs.List.{AllByRecursion}
use Rattle.std.proofs.Common.{subst, refl, ap, inl, inr, arith}
use Rattle.send_model.specs.Attribute.{IsBytes}
use Rattle.send_model.specs.Guards.{Guard, GuardSpec}
use Rattle.store_model.specs.TurnDues.{shared}
use Rattle.send_model.specs.Overridden.{overridden}
use Rattle.send_model.specs.Reading.{Verdict, input}
use Rattle.send_model.specs.Store.{Store}
use Rattle.send_model.specs.Headline.{IsComposedOf, whole_output_of}
use Rattle.send_model.specs.ExportPromises.{IsExportedOf}
use Rattle.send_model.specs.Words as streams
use Rattle.send_model.specs.Words.{new_guards}
use Rattle.send_model.specs.Answer as answers
use Rattle.store_model.specs.NamedFiles.{unnamed}
use Rattle.store_model.specs.Requests as stored
use Rattle.store_model.specs.Requests.{at_entry, word_at, reads_store}
use Rattle.store_model.specs.Stored.{StandsFor}
use Rattle.store_model.specs.Answers as said
use Rattle.sx_base.specs.Calls.{IfAllTold, Wrote}
use Rattle.sx_base.specs.Crash.{LeavesOnly}
use Rattle.sx_base.specs.Disk.{IsImage, settled}
use Rattle.sx_base.specs.declared.outcome.Outcome.TheVariants as ended
use Rattle.sx_base.specs.declared.outcome.Verdict as sx
use Rattle.store_commands.proofs.StreamAnswers.{then_told}
use Rattle.store_commands.specs.Ending as ending
use Rattle.store_commands.specs.Ending.{Ways, EndCaused, PrintingCaused, audit_ways, list_ways, show_ways, cat_ways, scrub_ways, init_ways, drop_ways, receive_ways}
use Rattle.store_commands.specs.declared.ends.StoreEnd.{StoreEnd}
use Rattle.store_commands.specs.declared.ends.StoreEnd.TheVariants as made
use Rattle.store_compose.specs.Ending.{ComposeCaused, ChangeFound, beside}
use Rattle.program_model.specs.FileWords.{GivenFiles}
use Rattle.program_model.specs.Requests.{InStore, Compose, Audit, Export, Init, Drop, Receive, ListAll, Show, Cat, Scrub, Send, Restore, Stream, Tar, Interleave}
use Rattle.program_model.specs.Profiles.{profile, How, NoFiles, Once, Twice, InTurns, StoreAccess}
use Rattle.program_model.specs.Answers.{Done, Refused, status_of, Says, meaning_of, as_said}
use Rattle.request_answers.specs.Objects.{Objects, HasRisen}
use Rattle.request_answers.specs.Promises.{Answers, AreRead, HasCause, IsLeft, is_one_of}
use Rattle.request_answers.proofs.Causes as why
use Rattle.request_answers.proofs.Causes.{of_outcome, of_end}
use Rattle.request_answers.proofs.Saying as saying
use Rattle.request_answers.proofs.Saying.{IfChanged, a_store, covered}
use Rattle.std.proofs.Common.{⊎_elim}
use Rattle.std.specs.Io.KnownBytes.{Appends}
use Rattle.snapshot_model.specs.HeldStores.{SendAnswers}
use Rattle.snapshot_model.specs.Sent.{sent_stream}
use Rattle.snapshot_model.specs.Restored.{restored_stream}
use Rattle.snapshot_model.specs.Promises.{IsReceivedAnew, IsUnfinished}
use Rattle.archive_model.specs.Archive.{archived_form}
use Rattle.stream_model.specs.StreamDues.{StreamAnswers, IsStreamedBack, IsUnfinishedStream}
use Rattle.store_model.specs.TurnAnswers.{TurnsAnswer}
use Rattle.store_commands.specs.Dropping.{LeftByDrop}
use Rattle.store_commands.specs.Receiving.{LeftByReceive}
use Rattle.turn_sessions.specs.Leaving.{LeftByTurns}
use Rattle.program_model.specs.TurnWords.{TurnFiles}
use Rattle.program_model.specs.Answers.{turns_of}
use Rattle.request_answers.proofs.MeetingAlone.{told_known}

-- ---- ends

module _ where
  pub end_done : (name path : List ℕ) (end : StoreEnd) → of_end name path end ≡ Done → end ≡ made.Ends ended.Done
  end_done name path (made.Ends ended.Done) e = refl
  end_done name path (made.Ends (ended.Refused verdict)) e = cc
  end_done name path (made.Ends ended.InputFault) e = cc
  end_done name path (made.Ends ended.OutputFault) e = cc
  end_done name path (made.Ends ended.NoMemory) e = cc
  end_done name path (made.Ends (ended.InputTooLong file)) e = cc
  end_done name path (made.Ends (ended.TooMuch sum)) e = cc
  end_done name path (made.Ends (ended.InputChanged file place)) e = cc
  end_done name path made.StoreFault e = cc
  end_done name path (made.NotStore group) e = cc
  end_done name path made.NoName e = cc
  end_done name path made.NoFile e = cc
  end_done name path (made.LogFull end wanted limit) e = cc
  end_done name path (made.StoreThere size) e = cc
  end_done name path (made.Damaged group stored computed) e = cc

  pub end_refused : (end : StoreEnd) (verdict : Verdict) → of_end [] [] end ≡ Refused verdict → (found : sx.Verdict) × (end ≡ made.Ends (ended.Refused found))
  end_refused (made.Ends ended.Done) verdict e = cc
  end_refused (made.Ends (ended.Refused found)) verdict e = (found, refl)
  end_refused (made.Ends ended.InputFault) verdict e = cc
  end_refused (made.Ends ended.OutputFault) verdict e = cc
  end_refused (made.Ends ended.NoMemory) verdict e = cc
  end_refused (made.Ends (ended.InputTooLong file)) verdict e = cc
  end_refused (made.Ends (ended.TooMuch sum)) verdict e = cc
  end_refused (made.Ends (ended.InputChanged file place)) verdict e = cc
  end_refused made.StoreFault verdict e = cc
  end_refused (made.NotStore group) verdict e = cc
  end_refused made.NoName verdict e = cc
  end_refused made.NoFile verdict e = cc
  end_refused (made.LogFull end wanted limit) verdict e = cc
  end_refused (made.StoreThere size) verdict e = cc
  end_refused (made.Damaged group stored computed) verdict e = cc

  -- No file is found changed by what reads none twice.
  pub not_changed : (ways : Ways) (done store_rose inputs_rose out_rose : Type 0) (name path : List ℕ) (end : StoreEnd)
      → EndCaused ways done store_rose inputs_rose out_rose end → IfChanged ⊥ (ending.answer_of name path end)
  not_changed ways done store_rose inputs_rose out_rose name path (made.Ends ended.Done) why = tt
  not_changed ways done store_rose inputs_rose out_rose name path (made.Ends (ended.Refused verdict)) why = tt
  not_changed ways done store_rose inputs_rose out_rose name path (made.Ends ended.InputFault) why = tt
  not_changed ways done store_rose inputs_rose out_rose name path (made.Ends ended.OutputFault) why = tt
  not_changed ways done store_rose inputs_rose out_rose name path (made.Ends ended.NoMemory) why = tt
  not_changed ways done store_rose inputs_rose out_rose name path (made.Ends (ended.InputTooLong file)) why = tt
  not_changed ways done store_rose inputs_rose out_rose name path (made.Ends (ended.TooMuch sum)) why = tt
  not_changed ways done store_rose inputs_rose out_rose name path (made.Ends (ended.InputChanged file place)) why = absurd why
  not_changed ways done store_rose inputs_rose out_rose name path made.StoreFault why = tt
  not_changed ways done store_rose inputs_rose out_rose name path (made.NotStore group) why = tt
  not_changed ways done store_rose inputs_rose out_rose name path made.NoName why = tt
  not_changed ways done store_rose inputs_rose out_rose name path made.NoFile why = tt
  not_changed ways done store_rose inputs_rose out_rose name path (made.LogFull end wanted limit) why = tt
  not_changed ways done store_rose inputs_rose out_rose name path (made.StoreThere size) why = tt
  not_changed ways done store_rose inputs_rose out_rose name path (made.Damaged group stored computed) why = tt

  -- Where it is no matter.
  pub any_change : (answer : said.Answer) → IfChanged ⊤ answer
  any_change (said.OfAnyWord answers.Done) = tt
  any_change (said.OfAnyWord (answers.Refused verdict)) = tt
  any_change (said.OfAnyWord answers.Usage) = tt
  any_change (said.OfAnyWord answers.InputFault) = tt
  any_change (said.OfAnyWord answers.OutputFault) = tt
  any_change (said.OfAnyWord answers.NoMemory) = tt
  any_change (said.OfAnyWord (answers.InputTooLong file)) = tt
  any_change (said.OfAnyWord (answers.TooMuch sum)) = tt
  any_change (said.OfAnyWord (answers.InputChanged file place)) = tt
  any_change said.StoreFault = tt
  any_change (said.NotStore group) = tt
  any_change (said.Missing what) = tt
  any_change (said.LogFull end wanted limit) = tt
  any_change (said.StoreThere size) = tt
  any_change (said.Damaged group stored computed) = tt

twice_some : Twice ≡ NoFiles → ⊥
twice_some e = cc

once_some : Once ≡ NoFiles → ⊥
once_some e = cc

turns_some : InTurns ≡ NoFiles → ⊥
turns_some e = cc

-- A store is there.
pub some_store : (store : StoreAccess) → Some store ≡ None → ⊥
some_store store e = cc

-- What every call says that reads a store and does not change it.
pub record OnlyRead (o : Objects) (how : How) (names : List (List ℕ)) : Type 0 where
  pub known : o.known_after ≡ o.known_files
  pub asked : o.AskedInputs (AreRead how o.known_files names)
  pub contents : o.IsFaithful → o.contents_after ≡ o.contents
  pub moment : o.IsFaithful → o.CrashesLeave (IsImage o.crash_states)

-- That nothing failed.
abbrev pub AllSteady : Objects → Type 0
AllSteady o = (o.disk_faults.after ≡ o.disk_faults.before) × (o.input_faults.after ≡ o.input_faults.before)
    × (o.early_ends.after ≡ o.early_ends.before) × (o.output_faults.after ≡ o.output_faults.before)

pub all_steady : (o : Objects) → AllSteady o → HasCause o (of_outcome ended.Done)
all_steady o s = (s.1, (s.2, (s.3, s.0)))

-- ---- chains over a store

module _ (o : Objects) (store : List ℕ) (files : GivenFiles) (some : files.files ≢ []) (end : StoreEnd) where
  pub compose_meets : OnlyRead o Twice files.files → ComposeCaused (AllSteady o) (HasRisen o.disk_faults) (HasRisen o.input_faults) (HasRisen o.early_ends) (HasRisen o.output_faults) end
      → ChangeFound files.files o.last_end end
      → (o.IsFaithful → IfAllTold o.known_files files.files (λ bytes. Wrote o.output o.output_after (λ written. (words : List (List ℕ)) (front at : ℕ) → reads_store words (Some front) ≡ true
      → said.Answers (stored.OfStreams (streams.Compose front at)) (at_entry words o.contents (as_said files bytes)) (ending.answer_of [] [] end) written o.contents_after)))
      → (o.IsFaithful → IfAllTold o.known_files files.files (λ bytes. Wrote o.output o.output_after (λ written. end ≡ made.Ends ended.Done → (s : Store ℕ) → StandsFor o.contents s
      → IsComposedOf (beside s files.overrides bytes) (overridden files.overrides (input bytes)) written)))
      → (o.IsFaithful → IfAllTold o.known_files files.files (λ bytes. Wrote o.output o.output_after (λ written. (verdict : sx.Verdict) → end ≡ made.Ends (ended.Refused verdict) → (s : Store ℕ) → StandsFor o.contents s
      → written ≡ whole_output_of (beside s files.overrides bytes) (overridden files.overrides (input bytes)))))
      → Answers o (Compose (InStore store) files) (of_end [] [] end)
  unfolding profile
  compose_meets r caused found answered composed refused = record {
    known = r.known;
    reads = r.asked;
    unread = λ e. absurd (twice_some e);
    unprinted = λ e. cc;
    unused = λ e. absurd (some_store _ e);
    unharmed = λ faithful reads. r.contents faithful;
    allowed = why.compose_over (AllSteady o) (HasRisen o.disk_faults) (HasRisen o.input_faults) (HasRisen o.early_ends) (HasRisen o.output_faults) end caused;
    caused = why.cause_compose o (AllSteady o) (HasRisen o.disk_faults) (HasRisen o.input_faults) (HasRisen o.early_ends) (HasRisen o.output_faults) (all_steady o) (λ h. h) (λ h. h) (λ h. h) (λ h. h) end caused;
    says = λ faithful. told_known o.known_files files.files _ some (then_told o.known_files files.files
        (λ bytes. Wrote o.output o.output_after (λ written. (words : List (List ℕ)) (front at : ℕ) → reads_store words (Some front) ≡ true →
        said.Answers (stored.OfStreams (streams.Compose front at)) (at_entry words o.contents (as_said files bytes)) (ending.answer_of [] [] end) written o.contents_after))
        (λ bytes. Wrote o.output o.output_after (λ written. Says (meaning_of (Compose (InStore store) files) o.contents bytes) (of_end [] [] end) written o.contents_after))
        (λ bytes w. (
          w.0,
          w.1,
          covered (stored.OfStreams (streams.Compose 0 0)) (at_entry a_store o.contents (as_said files bytes)) ⊤ (meaning_of (Compose (InStore store) files) o.contents bytes)
              (saying.compose_covers o.contents (as_said files bytes)) w.0 o.contents_after (ending.answer_of [] [] end) (any_change (ending.answer_of [] [] end)) (w.2 a_store 0 0 refl),
        )) (answered faithful));
    details = why.details_compose o (Compose (InStore store) files) (AllSteady o) (HasRisen o.disk_faults) (HasRisen o.input_faults) (HasRisen o.early_ends) (HasRisen o.output_faults) end caused found;
    promised = record {
      whole = λ done faithful. then_told o.known_files files.files _ _ (λ bytes w. (w.0, w.1, λ s stands. w.2 (end_done [] [] end done) s stands)) (composed faithful);
      front = λ verdict is faithful. let found = end_refused end verdict is in then_told o.known_files files.files _ _ (λ bytes w. (w.0, w.1, λ s stands. w.2 found.0 found.1 s stands)) (refused faithful);
    };
    any_moment = r.moment;
    durable = λ done faithful e. cc;
    acknowledged = λ faithful e. tt;
  }

  pub audit_meets : (guards : List GuardSpec) → OnlyRead o Once files.files → EndCaused audit_ways (AllSteady o) (HasRisen o.disk_faults) (HasRisen o.input_faults) (HasRisen o.output_faults) end
      → (o.IsFaithful → IfAllTold o.known_files files.files (λ bytes. Wrote o.output o.output_after (λ written. (words : List (List ℕ)) (front at : ℕ) → reads_store words (Some front) ≡ true
      → said.Answers (stored.OfStreams (streams.Audit guards front at)) (at_entry words o.contents (as_said files bytes)) (ending.answer_of [] [] end) written o.contents_after)))
      → Answers o (Audit guards (InStore store) files) (of_end [] [] end)
  unfolding profile
  audit_meets guards r caused answered = record {
    known = r.known;
    reads = r.asked;
    unread = λ e. absurd (once_some e);
    unprinted = λ e. cc;
    unused = λ e. absurd (some_store _ e);
    unharmed = λ faithful reads. r.contents faithful;
    allowed = why.allowed_end audit_ways (AllSteady o) (HasRisen o.disk_faults) (HasRisen o.input_faults) (HasRisen o.output_faults) _ (why.audit_row (HasRisen o.input_faults) (HasRisen o.output_faults)) [] [] end caused;
    caused = why.cause_end o audit_ways (AllSteady o) (HasRisen o.disk_faults) (HasRisen o.input_faults) (HasRisen o.output_faults) [] [] (all_steady o) (λ h. h) (λ h. h) (λ h. h) end caused;
    says = λ faithful. told_known o.known_files files.files _ some (then_told o.known_files files.files
        (λ bytes. Wrote o.output o.output_after (λ written. (words : List (List ℕ)) (front at : ℕ) → reads_store words (Some front) ≡ true →
        said.Answers (stored.OfStreams (streams.Audit guards front at)) (at_entry words o.contents (as_said files bytes)) (ending.answer_of [] [] end) written o.contents_after))
        (λ bytes. Wrote o.output o.output_after (λ written. Says (meaning_of (Audit guards (InStore store) files) o.contents bytes) (of_end [] [] end) written o.contents_after))
        (λ bytes w. (
          w.0,
          w.1,
          covered (stored.OfStreams (streams.Audit guards 0 0)) (at_entry a_store o.contents (as_said files bytes)) ⊥ (meaning_of (Audit guards (InStore store) files) o.contents bytes)
              (saying.audit_covers o.contents (as_said files bytes) guards) w.0 o.contents_after (ending.answer_of [] [] end) (not_changed audit_ways (AllSteady o) (HasRisen o.disk_faults) (HasRisen o.input_faults) (HasRisen o.output_faults) [] [] end caused) (w.2 a_store 0 0 refl),
        )) (answered faithful));
    details = why.details_end o (Audit guards (InStore store) files) audit_ways (AllSteady o) (HasRisen o.disk_faults) (HasRisen o.input_faults) (HasRisen o.output_faults) [] [] end caused;
    promised = tt;
    any_moment = r.moment;
    durable = λ done faithful e. cc;
    acknowledged = λ faithful e. tt;
  }

  pub export_meets : OnlyRead o Once files.files → EndCaused audit_ways (AllSteady o) (HasRisen o.disk_faults) (HasRisen o.input_faults) (HasRisen o.output_faults) end
      → (o.IsFaithful → IfAllTold o.known_files files.files (λ bytes. Wrote o.output o.output_after (λ written. (words : List (List ℕ)) (front at : ℕ) → reads_store words (Some front) ≡ true
      → said.Answers (stored.OfStreams (streams.Export front at)) (at_entry words o.contents (as_said files bytes)) (ending.answer_of [] [] end) written o.contents_after)))
      → (o.IsFaithful → IfAllTold o.known_files files.files (λ bytes. Wrote o.output o.output_after (λ written. end ≡ made.Ends ended.Done → (s : Store ℕ) → StandsFor o.contents s → AllByRecursion IsBytes bytes
      → IsExportedOf s (overridden files.overrides (input bytes)) written)))
      → Answers o (Export (InStore store) files) (of_end [] [] end)
  unfolding profile
  export_meets r caused answered exported = record {
    known = r.known;
    reads = r.asked;
    unread = λ e. absurd (once_some e);
    unprinted = λ e. cc;
    unused = λ e. absurd (some_store _ e);
    unharmed = λ faithful reads. r.contents faithful;
    allowed = why.allowed_end audit_ways (AllSteady o) (HasRisen o.disk_faults) (HasRisen o.input_faults) (HasRisen o.output_faults) _ (why.audit_row (HasRisen o.input_faults) (HasRisen o.output_faults)) [] [] end caused;
    caused = why.cause_end o audit_ways (AllSteady o) (HasRisen o.disk_faults) (HasRisen o.input_faults) (HasRisen o.output_faults) [] [] (all_steady o) (λ h. h) (λ h. h) (λ h. h) end caused;
    says = λ faithful. told_known o.known_files files.files _ some (then_told o.known_files files.files
        (λ bytes. Wrote o.output o.output_after (λ written. (words : List (List ℕ)) (front at : ℕ) → reads_store words (Some front) ≡ true →
        said.Answers (stored.OfStreams (streams.Export front at)) (at_entry words o.contents (as_said files bytes)) (ending.answer_of [] [] end) written o.contents_after))
        (λ bytes. Wrote o.output o.output_after (λ written. Says (meaning_of (Export (InStore store) files) o.contents bytes) (of_end [] [] end) written o.contents_after))
        (λ bytes w. (
          w.0,
          w.1,
          covered (stored.OfStreams (streams.Export 0 0)) (at_entry a_store o.contents (as_said files bytes)) ⊥ (meaning_of (Export (InStore store) files) o.contents bytes)
              (saying.export_covers o.contents (as_said files bytes)) w.0 o.contents_after (ending.answer_of [] [] end) (not_changed audit_ways (AllSteady o) (HasRisen o.disk_faults) (HasRisen o.input_faults) (HasRisen o.output_faults) [] [] end caused) (w.2 a_store 0 0 refl),
        )) (answered faithful));
    details = why.details_end o (Export (InStore store) files) audit_ways (AllSteady o) (HasRisen o.disk_faults) (HasRisen o.input_faults) (HasRisen o.output_faults) [] [] end caused;
    promised = λ done faithful. then_told o.known_files files.files _ _ (λ bytes w. (w.0, w.1, λ s stands are. w.2 (end_done [] [] end done) s stands are)) (exported faithful);
    any_moment = r.moment;
    durable = λ done faithful e. cc;
    acknowledged = λ faithful e. tt;
  }

-- ---- what prints of a store

-- What every call says that prints of a store and reads no file.
pub record Printing (o : Objects) : Type 0 where
  pub reading : OnlyRead o NoFiles []
  pub inputs : o.InputsSame
  pub steady : (o.input_faults.after ≡ o.input_faults.before) × (o.early_ends.after ≡ o.early_ends.before)

abbrev pub PrintCaused : Objects → Ways → StoreEnd → Type 0
PrintCaused o ways end = PrintingCaused ways o.disk_faults.before o.disk_faults.after o.output_faults.before o.output_faults.after end

print_cause : (o : Objects) (ways : Ways) (name path : List ℕ) (p : Printing o) (end : StoreEnd) → PrintCaused o ways end → HasCause o (of_end name path end)
print_cause o ways name path p end caused = why.cause_end o ways _ _ ⊥ _ name path (λ s. (p.steady.0, (p.steady.1, (s.1, s.0)))) (λ h. h) (λ h. absurd h) (λ h. h) end caused

pub list_meets : (o : Objects) (store : List ℕ) (end : StoreEnd) → Printing o → PrintCaused o list_ways end
    → (o.IsFaithful → Wrote o.output o.output_after (λ written. (words : List (List ℕ)) (front : ℕ) → said.Answers (stored.ListStore front) (at_entry words o.contents (unnamed [])) (ending.answer_of [] [] end) written o.contents_after))
    → Answers o (ListAll store) (of_end [] [] end)
unfolding profile
list_meets o store end p caused answered = record {
  known = p.reading.known;
  reads = p.reading.asked;
  unread = λ e. p.inputs;
  unprinted = λ e. cc;
  unused = λ e. absurd (some_store _ e);
  unharmed = λ faithful reads. p.reading.contents faithful;
  allowed = why.allowed_end list_ways _ _ ⊥ _ _ (why.list_row (HasRisen o.output_faults)) [] [] end caused;
  caused = print_cause o list_ways [] [] p end caused;
  says = λ faithful. let w = answered faithful in (
    w.0,
    w.1,
    covered (stored.ListStore 0) (at_entry [] o.contents (unnamed [])) ⊤ (meaning_of (ListAll store) o.contents [])
        (record { due = λ due written left h. h; input = λ written left h. h; changed = λ written left known h. h.1; output = λ written left h. h; memory = λ written left h. h; device = λ written left h. h })
        w.0 o.contents_after (ending.answer_of [] [] end) (any_change _) (w.2 [] 0),
  );
  details = why.details_end o (ListAll store) list_ways _ _ ⊥ _ [] [] end caused;
  promised = tt;
  any_moment = p.reading.moment;
  durable = λ done faithful e. cc;
  acknowledged = λ faithful e. tt;
}

pub scrub_meets : (o : Objects) (store : List ℕ) (end : StoreEnd) → Printing o → PrintCaused o scrub_ways end
    → (o.IsFaithful → Wrote o.output o.output_after (λ written. (words : List (List ℕ)) (front : ℕ) → said.Answers (stored.ScrubStore front) (at_entry words o.contents (unnamed [])) (ending.answer_of [] [] end) written o.contents_after))
    → Answers o (Scrub store) (of_end [] [] end)
unfolding profile
scrub_meets o store end p caused answered = record {
  known = p.reading.known;
  reads = p.reading.asked;
  unread = λ e. p.inputs;
  unprinted = λ e. cc;
  unused = λ e. absurd (some_store _ e);
  unharmed = λ faithful reads. p.reading.contents faithful;
  allowed = why.allowed_end scrub_ways _ _ ⊥ _ _ (why.scrub_row (HasRisen o.output_faults)) [] [] end caused;
  caused = print_cause o scrub_ways [] [] p end caused;
  says = λ faithful. let w = answered faithful in (
    w.0,
    w.1,
    covered (stored.ScrubStore 0) (at_entry [] o.contents (unnamed [])) ⊤ (meaning_of (Scrub store) o.contents [])
        (record { due = λ due written left h. h; input = λ written left h. h; changed = λ written left known h. h.1; output = λ written left h. h; memory = λ written left h. h; device = λ written left h. h })
        w.0 o.contents_after (ending.answer_of [] [] end) (any_change _) (w.2 [] 0),
  );
  details = why.details_end o (Scrub store) scrub_ways _ _ ⊥ _ [] [] end caused;
  promised = tt;
  any_moment = p.reading.moment;
  durable = λ done faithful e. cc;
  acknowledged = λ faithful e. tt;
}

pub show_meets : (o : Objects) (store name : List ℕ) (end : StoreEnd) → Printing o → PrintCaused o show_ways end
    → (o.IsFaithful → Wrote o.output o.output_after (λ written. (words : List (List ℕ)) (front at : ℕ) → word_at words at ≡ name → said.Answers (stored.ShowEntry front at) (at_entry words o.contents (unnamed [])) (ending.answer_of name [] end) written o.contents_after))
    → Answers o (Show store name) (of_end name [] end)
unfolding profile
show_meets o store name end p caused answered = record {
  known = p.reading.known;
  reads = p.reading.asked;
  unread = λ e. p.inputs;
  unprinted = λ e. cc;
  unused = λ e. absurd (some_store _ e);
  unharmed = λ faithful reads. p.reading.contents faithful;
  allowed = why.allowed_end show_ways _ _ ⊥ _ _ (why.show_row (HasRisen o.output_faults)) name [] end caused;
  caused = print_cause o show_ways name [] p end caused;
  says = λ faithful. let w = answered faithful in (
    w.0,
    w.1,
    covered (stored.ShowEntry 0 0) (at_entry (name ∷ []) o.contents (unnamed [])) ⊤ (meaning_of (Show store name) o.contents [])
        (record { due = λ due written left h. h; input = λ written left h. h; changed = λ written left known h. h.1; output = λ written left h. h; memory = λ written left h. h; device = λ written left h. h })
        w.0 o.contents_after (ending.answer_of name [] end) (any_change _) (w.2 (name ∷ []) 0 0 refl),
  );
  details = why.details_end o (Show store name) show_ways _ _ ⊥ _ name [] end caused;
  promised = tt;
  any_moment = p.reading.moment;
  durable = λ done faithful e. cc;
  acknowledged = λ faithful e. tt;
}

pub cat_meets : (o : Objects) (store name path : List ℕ) (end : StoreEnd) → Printing o → PrintCaused o cat_ways end
    → (o.IsFaithful → Wrote o.output o.output_after (λ written. (words : List (List ℕ)) (front at to : ℕ) → word_at words at ≡ name → word_at words to ≡ path → said.Answers (stored.CatFile front at to) (at_entry words o.contents (unnamed [])) (ending.answer_of name path end) written o.contents_after))
    → Answers o (Cat store name path) (of_end name path end)
unfolding profile
cat_meets o store name path end p caused answered = record {
  known = p.reading.known;
  reads = p.reading.asked;
  unread = λ e. p.inputs;
  unprinted = λ e. cc;
  unused = λ e. absurd (some_store _ e);
  unharmed = λ faithful reads. p.reading.contents faithful;
  allowed = why.allowed_end cat_ways _ _ ⊥ _ _ (why.cat_row (HasRisen o.output_faults)) name path end caused;
  caused = print_cause o cat_ways name path p end caused;
  says = λ faithful. let w = answered faithful in (
    w.0,
    w.1,
    covered (stored.CatFile 0 0 1) (at_entry (name ∷ path ∷ []) o.contents (unnamed [])) ⊤ (meaning_of (Cat store name path) o.contents [])
        (record { due = λ due written left h. h; input = λ written left h. h; changed = λ written left known h. h.1; output = λ written left h. h; memory = λ written left h. h; device = λ written left h. h })
        w.0 o.contents_after (ending.answer_of name path end) (any_change _) (w.2 (name ∷ path ∷ []) 0 0 1 refl refl),
  );
  details = why.details_end o (Cat store name path) cat_ways _ _ ⊥ _ name path end caused;
  promised = tt;
  any_moment = p.reading.moment;
  durable = λ done faithful e. cc;
  acknowledged = λ faithful e. tt;
}

pub send_meets : (o : Objects) (store name : List ℕ) (end : StoreEnd) → Printing o → PrintCaused o show_ways end
    → (o.IsFaithful → Wrote o.output o.output_after (λ written. SendAnswers sent_stream o.contents name (ending.answer_of name [] end) written o.contents_after))
    → (o.IsFaithful → Wrote o.output o.output_after (λ written. end ≡ made.Ends ended.Done → IsReceivedAnew o.contents name written))
    → (o.IsFaithful → Wrote o.output o.output_after (λ written. end ≢ made.Ends ended.Done → IsUnfinished sent_stream o.contents name written))
    → Answers o (Send store name) (of_end name [] end)
unfolding profile
send_meets o store name end p caused answered received unfinished = record {
  known = p.reading.known;
  reads = p.reading.asked;
  unread = λ e. p.inputs;
  unprinted = λ e. cc;
  unused = λ e. absurd (some_store _ e);
  unharmed = λ faithful reads. p.reading.contents faithful;
  allowed = why.allowed_end show_ways _ _ ⊥ _ _ (why.show_row (HasRisen o.output_faults)) name [] end caused;
  caused = print_cause o show_ways name [] p end caused;
  says = λ faithful. let w = answered faithful in (w.0, w.1, saying.sent_says sent_stream o.contents name w.0 o.contents_after (ending.answer_of name [] end) w.2);
  details = why.details_end o (Send store name) show_ways _ _ ⊥ _ name [] end caused;
  promised = record {
    whole = λ done faithful. let w = received faithful in (w.0, w.1, w.2 (end_done name [] end done));
    in_part = λ other faithful. let w = unfinished faithful in (w.0, w.1, w.2 (λ is. other (ap (of_end name []) is)));
  };
  any_moment = p.reading.moment;
  durable = λ done faithful e. cc;
  acknowledged = λ faithful e. tt;
}

pub restore_meets : (o : Objects) (store name : List ℕ) (end : StoreEnd) → Printing o → PrintCaused o show_ways end
    → (o.IsFaithful → Wrote o.output o.output_after (λ written. SendAnswers restored_stream o.contents name (ending.answer_of name [] end) written o.contents_after))
    → (o.IsFaithful → Wrote o.output o.output_after (λ written. end ≡ made.Ends ended.Done → IsReceivedAnew o.contents name written))
    → (o.IsFaithful → Wrote o.output o.output_after (λ written. end ≢ made.Ends ended.Done → IsUnfinished restored_stream o.contents name written))
    → Answers o (Restore store name) (of_end name [] end)
unfolding profile
restore_meets o store name end p caused answered received unfinished = record {
  known = p.reading.known;
  reads = p.reading.asked;
  unread = λ e. p.inputs;
  unprinted = λ e. cc;
  unused = λ e. absurd (some_store _ e);
  unharmed = λ faithful reads. p.reading.contents faithful;
  allowed = why.allowed_end show_ways _ _ ⊥ _ _ (why.show_row (HasRisen o.output_faults)) name [] end caused;
  caused = print_cause o show_ways name [] p end caused;
  says = λ faithful. let w = answered faithful in (w.0, w.1, saying.sent_says restored_stream o.contents name w.0 o.contents_after (ending.answer_of name [] end) w.2);
  details = why.details_end o (Restore store name) show_ways _ _ ⊥ _ name [] end caused;
  promised = record {
    whole = λ done faithful. let w = received faithful in (w.0, w.1, w.2 (end_done name [] end done));
    in_part = λ other faithful. let w = unfinished faithful in (w.0, w.1, w.2 (λ is. other (ap (of_end name []) is)));
  };
  any_moment = p.reading.moment;
  durable = λ done faithful e. cc;
  acknowledged = λ faithful e. tt;
}

pub stream_meets : (o : Objects) (store name : List ℕ) (end : StoreEnd) → Printing o → PrintCaused o show_ways end
    → (o.IsFaithful → Wrote o.output o.output_after (λ written. StreamAnswers o.contents name (ending.answer_of name [] end) written o.contents_after))
    → (o.IsFaithful → Wrote o.output o.output_after (λ written. end ≡ made.Ends ended.Done → IsStreamedBack o.contents name written))
    → (o.IsFaithful → Wrote o.output o.output_after (λ written. end ≢ made.Ends ended.Done → IsUnfinishedStream o.contents name written))
    → Answers o (Stream store name) (of_end name [] end)
unfolding profile
stream_meets o store name end p caused answered received unfinished = record {
  known = p.reading.known;
  reads = p.reading.asked;
  unread = λ e. p.inputs;
  unprinted = λ e. cc;
  unused = λ e. absurd (some_store _ e);
  unharmed = λ faithful reads. p.reading.contents faithful;
  allowed = why.allowed_end show_ways _ _ ⊥ _ _ (why.show_row (HasRisen o.output_faults)) name [] end caused;
  caused = print_cause o show_ways name [] p end caused;
  says = λ faithful. let w = answered faithful in (w.0, w.1, saying.streamed_says o.contents name w.0 o.contents_after (ending.answer_of name [] end) w.2);
  details = why.details_end o (Stream store name) show_ways _ _ ⊥ _ name [] end caused;
  promised = record {
    whole = λ done faithful. let w = received faithful in (w.0, w.1, w.2 (end_done name [] end done));
    in_part = λ other faithful. let w = unfinished faithful in (w.0, w.1, w.2 (λ is. other (ap (of_end name []) is)));
  };
  any_moment = p.reading.moment;
  durable = λ done faithful e. cc;
  acknowledged = λ faithful e. tt;
}

pub tar_meets : (o : Objects) (store name : List ℕ) (end : StoreEnd) → Printing o → PrintCaused o show_ways end
    → (o.IsFaithful → Wrote o.output o.output_after (λ written. SendAnswers archived_form o.contents name (ending.answer_of name [] end) written o.contents_after))
    → (o.IsFaithful → Wrote o.output o.output_after (λ written. end ≢ made.Ends ended.Done → IsUnfinished archived_form o.contents name written))
    → Answers o (Tar store name) (of_end name [] end)
unfolding profile
tar_meets o store name end p caused answered unfinished = record {
  known = p.reading.known;
  reads = p.reading.asked;
  unread = λ e. p.inputs;
  unprinted = λ e. cc;
  unused = λ e. absurd (some_store _ e);
  unharmed = λ faithful reads. p.reading.contents faithful;
  allowed = why.allowed_end show_ways _ _ ⊥ _ _ (why.show_row (HasRisen o.output_faults)) name [] end caused;
  caused = print_cause o show_ways name [] p end caused;
  says = λ faithful. let w = answered faithful in (w.0, w.1, saying.sent_says archived_form o.contents name w.0 o.contents_after (ending.answer_of name [] end) w.2);
  details = why.details_end o (Tar store name) show_ways _ _ ⊥ _ name [] end caused;
  promised = record {
    whole = λ done faithful. let w = answered faithful in (
      w.0,
      w.1,
      (subst (λ (e : StoreEnd). SendAnswers archived_form o.contents name (ending.answer_of name [] e) w.0 o.contents_after) (end_done name [] end done) w.2).1.1,
    );
    in_part = λ other faithful. let w = unfinished faithful in (w.0, w.1, w.2 (λ is. other (ap (of_end name []) is)));
  };
  any_moment = p.reading.moment;
  durable = λ done faithful e. cc;
  acknowledged = λ faithful e. tt;
}

-- What a disk has is some bytes where its size is not 0.
pub some_len : (seen : List ℕ) (len : ℕ) → len ≡ length seen → seen ≢ [] → 0 < len
some_len [] len is some = absurd (some refl)
some_len (byte ∷ seen) len is some = omega (arith, is)

-- What a crash leaves at every moment has also what follows from it.
pub leaves_more : {D : Type 0} (moment : D → ℕ) (left_since : D → ℕ → List ℕ → Type 0) (old new : D) (P Q : List ℕ → Type 0)
    → ((image : List ℕ) → P image → Q image) → LeavesOnly moment left_since old new P → LeavesOnly moment left_since old new Q
leaves_more moment left_since old new P Q more leaves = record {
  later = leaves.later;
  each = λ image since. more image (leaves.each image since);
  earlier = λ t image before since. ⊎_elim (λ was. inl was) (λ p. inr (more image p)) (leaves.earlier t image before since);
}

-- ---- making and dropping

-- What every call says that changes a store and uses no other object.
pub record Changing (o : Objects) : Type 0 where
  pub known : o.known_after ≡ o.known_files
  pub asked : o.AskedInputs (AreRead NoFiles o.known_files [])
  pub inputs : o.InputsSame
  pub output : o.OutputSame
  pub nothing : Appends o.output o.output_after []
  pub steady : (o.input_faults.after ≡ o.input_faults.before) × ((o.early_ends.after ≡ o.early_ends.before) × (o.output_faults.after ≡ o.output_faults.before))

abbrev pub ChangeCaused : Objects → Ways → StoreEnd → Type 0
ChangeCaused o ways end = EndCaused ways (o.disk_faults.after ≡ o.disk_faults.before) (HasRisen o.disk_faults) ⊥ ⊥ end

pub init_meets : (o : Objects) (store : List ℕ) (end : StoreEnd) → Changing o → ChangeCaused o init_ways end
    → (o.IsFaithful → (words : List (List ℕ)) (front : ℕ) → said.Answers (stored.InitStore front) (at_entry words o.contents (unnamed [])) (ending.answer_of [] [] end) [] o.contents_after)
    → (o.IsFaithful → end ≡ made.Ends ended.Done → o.crash_states_after ≡ settled o.contents_after)
    → (o.IsFaithful → o.contents ≢ [] → o.CrashesLeave (IsImage o.crash_states))
    → Answers o (Init store) (of_end [] [] end)
unfolding profile
init_meets o store end p caused answered durable moment = record {
  known = p.known;
  reads = p.asked;
  unread = λ e. p.inputs;
  unprinted = λ e. p.output;
  unused = λ e. absurd (some_store _ e);
  unharmed = λ faithful reads. absurd reads;
  allowed = why.allowed_end init_ways _ _ ⊥ ⊥ _ why.init_row [] [] end caused;
  caused = why.cause_end o init_ways _ _ ⊥ ⊥ [] [] (λ s. (p.steady.0, (p.steady.1.0, (p.steady.1.1, s)))) (λ h. h) (λ h. absurd h) (λ h. absurd h) end caused;
  says = λ faithful. (
    [],
    p.nothing,
    covered (stored.InitStore 0) (at_entry [] o.contents (unnamed [])) ⊤ (meaning_of (Init store) o.contents [])
        (record { due = λ due written left h. h; input = λ written left h. h; changed = λ written left known h. h.1; output = λ written left h. h; memory = λ written left h. h; device = λ written left h. h })
        [] o.contents_after (ending.answer_of [] [] end) (any_change _) (answered faithful [] 0),
  );
  details = why.details_end o (Init store) init_ways _ _ ⊥ ⊥ [] [] end caused;
  promised = tt;
  any_moment = λ faithful some. moment faithful some;
  durable = λ done faithful e. durable faithful (end_done [] [] end done);
  acknowledged = λ faithful e. cc;
}

pub drop_meets : (o : Objects) (store name : List ℕ) (end : StoreEnd) → Changing o → ChangeCaused o drop_ways end
    → (o.IsFaithful → (words : List (List ℕ)) (front at : ℕ) → word_at words at ≡ name → said.Answers (stored.DropEntry front at) (at_entry words o.contents (unnamed [])) (ending.answer_of name [] end) [] o.contents_after)
    → (o.IsFaithful → end ≡ made.Ends ended.Done → o.crash_states_after ≡ settled o.contents_after)
    → (o.IsFaithful → o.CrashesLeave (LeftByDrop o.crash_states o.contents name))
    → ((P Q : List ℕ → Type 0) → ((image : List ℕ) → P image → Q image) → o.CrashesLeave P → o.CrashesLeave Q)
    → Answers o (Drop store name) (of_end name [] end)
unfolding profile
drop_meets o store name end p caused answered durable moment leaves = record {
  known = p.known;
  reads = p.asked;
  unread = λ e. p.inputs;
  unprinted = λ e. p.output;
  unused = λ e. absurd (some_store _ e);
  unharmed = λ faithful reads. absurd reads;
  allowed = why.allowed_end drop_ways _ _ ⊥ ⊥ _ why.drop_row name [] end caused;
  caused = why.cause_end o drop_ways _ _ ⊥ ⊥ name [] (λ s. (p.steady.0, (p.steady.1.0, (p.steady.1.1, s)))) (λ h. h) (λ h. absurd h) (λ h. absurd h) end caused;
  says = λ faithful. (
    [],
    p.nothing,
    λ are. covered (stored.DropEntry 0 0) (at_entry (name ∷ []) o.contents (unnamed [])) ⊤ (meaning_of (Drop store name) o.contents [])
        (record { due = λ due written left h. h; input = λ written left h. h; changed = λ written left known h. h.1; output = λ written left h. h; memory = λ written left h. h; device = λ written left h. h })
        [] o.contents_after (ending.answer_of name [] end) (any_change _) (answered faithful (name ∷ []) 0 0 refl),
  );
  details = why.details_end o (Drop store name) drop_ways _ _ ⊥ ⊥ name [] end caused;
  promised = tt;
  any_moment = λ faithful are. leaves (LeftByDrop o.crash_states o.contents name) (IsLeft o (Drop store name) [] [])
      (λ image. ⊎_elim (λ before. inl (before, refl)) (λ dropped. inr dropped)) (moment faithful);
  durable = λ done faithful e. durable faithful (end_done name [] end done);
  acknowledged = λ faithful e. cc;
}

-- As many lists of guards as shares.
module _ where
  pub shared_len : (guards : List Guard) (shares : List ℕ) → length (shared guards shares) ≡ length shares
  unfolding shared
  shared_len guards [] = refl
  shared_len guards (share ∷ shares) = ap (λ (n : ℕ). suc n) (shared_len (drop share guards) shares)

-- ---- receiving

-- What every call says that puts files into a store.
pub record Putting (o : Objects) (how : How) (names : List (List ℕ)) (end : StoreEnd) : Type 0 where
  pub known : o.known_after ≡ o.known_files
  pub asked : o.AskedInputs (AreRead how o.known_files names)
  pub caused : EndCaused receive_ways (AllSteady o) (HasRisen o.disk_faults) (HasRisen o.input_faults) (HasRisen o.output_faults) end

module _ (o : Objects) (store : List ℕ) (end : StoreEnd) where
  put_allowed : {how : How} {names : List (List ℕ)} → Putting o how names end
      → is_one_of (status_of (of_end [] [] end)) (0 ∷ 1 ∷ 3 ∷ 4 ∷ 5 ∷ 6 ∷ 7 ∷ 10 ∷ 11 ∷ []) ≡ true
  put_allowed p = why.allowed_end receive_ways (AllSteady o) (HasRisen o.disk_faults) (HasRisen o.input_faults) (HasRisen o.output_faults) _ (why.receive_row (HasRisen o.input_faults) (HasRisen o.output_faults)) [] [] end p.caused

  put_caused : {how : How} {names : List (List ℕ)} → Putting o how names end → HasCause o (of_end [] [] end)
  put_caused p = why.cause_end o receive_ways (AllSteady o) (HasRisen o.disk_faults) (HasRisen o.input_faults) (HasRisen o.output_faults) [] [] (all_steady o) (λ h. h) (λ h. h) (λ h. h) end p.caused

  pub receive_meets : (guards : List GuardSpec) (files : GivenFiles) → files.files ≢ [] → Putting o Once files.files end
      → (o.IsFaithful → IfAllTold o.known_files files.files (λ bytes. Wrote o.output o.output_after (λ written. (words : List (List ℕ)) (front at : ℕ) → AllByRecursion IsBytes bytes
      → said.Answers (stored.ReceiveFiles guards front at) (at_entry words o.contents (as_said files bytes)) (ending.answer_of [] [] end) written o.contents_after)))
      → (o.IsFaithful → IfAllTold o.known_files files.files (λ bytes. AllByRecursion IsBytes bytes → o.CrashesLeave (LeftByReceive o.crash_states o.contents (new_guards guards) (as_said files bytes) [])))
      → (o.IsFaithful → IfAllTold o.known_files files.files (λ bytes. Wrote o.output o.output_after (λ written. AllByRecursion IsBytes bytes → (image : List ℕ) → IsImage o.crash_states_after image
      → LeftByReceive o.crash_states o.contents (new_guards guards) (as_said files bytes) written image)))
      → Answers o (Receive guards store files) (of_end [] [] end)
  unfolding profile
  receive_meets guards files some p answered moment lines = record {
    known = p.known;
    reads = p.asked;
    unread = λ e. absurd (once_some e);
    unprinted = λ e. cc;
    unused = λ e. absurd (some_store _ e);
    unharmed = λ faithful reads. absurd reads;
    allowed = put_allowed p;
    caused = put_caused p;
    says = λ faithful. told_known o.known_files files.files _ some (then_told o.known_files files.files _ _
        (λ bytes w. (
          w.0,
          w.1,
          λ are. covered (stored.ReceiveFiles guards 0 0) (at_entry [] o.contents (as_said files bytes)) ⊤ (meaning_of (Receive guards store files) o.contents bytes)
              (record { due = λ due written left h. h; input = λ written left h. h; changed = λ written left known h. absurd h.0; output = λ written left h. h; memory = λ written left h. h; device = λ written left h. h })
              w.0 o.contents_after (ending.answer_of [] [] end) (any_change _) (w.2 [] 0 0 are),
        )) (answered faithful));
    details = why.details_end o (Receive guards store files) receive_ways (AllSteady o) (HasRisen o.disk_faults) (HasRisen o.input_faults) (HasRisen o.output_faults) [] [] end p.caused;
    promised = tt;
    any_moment = λ faithful. told_known o.known_files files.files _ some (moment faithful);
    durable = λ done faithful e. cc;
    acknowledged = λ faithful e. told_known o.known_files files.files _ some (then_told o.known_files files.files _ _
        (λ bytes w are. (w.0, w.1, λ image is. w.2 are image is)) (lines faithful));
  }

  pub interleave_meets : (schedule : List ℕ) (turns : TurnFiles) → turns.files ≢ [] → Putting o InTurns turns.files end
      → (o.IsFaithful → IfAllTold o.known_files turns.files (λ bytes. Wrote o.output o.output_after (λ written. AllByRecursion IsBytes bytes
      → TurnsAnswer (turns_of schedule turns bytes) o.contents (ending.answer_of [] [] end) written o.contents_after)))
      → (o.IsFaithful → IfAllTold o.known_files turns.files (λ bytes. AllByRecursion IsBytes bytes → o.CrashesLeave (LeftByTurns o.crash_states o.contents (turns_of schedule turns bytes) [])))
      → (o.IsFaithful → IfAllTold o.known_files turns.files (λ bytes. Wrote o.output o.output_after (λ written. AllByRecursion IsBytes bytes → (image : List ℕ) → IsImage o.crash_states_after image
      → LeftByTurns o.crash_states o.contents (turns_of schedule turns bytes) written image)))
      → Answers o (Interleave store schedule turns) (of_end [] [] end)
  unfolding profile
  interleave_meets schedule turns some p answered moment lines = record {
    known = p.known;
    reads = p.asked;
    unread = λ e. absurd (turns_some e);
    unprinted = λ e. cc;
    unused = λ e. absurd (some_store _ e);
    unharmed = λ faithful reads. absurd reads;
    allowed = put_allowed p;
    caused = put_caused p;
    says = λ faithful. told_known o.known_files turns.files _ some (then_told o.known_files turns.files _ _
        (λ bytes w. (w.0, w.1, λ are. saying.turns_say (turns_of schedule turns bytes) o.contents w.0 o.contents_after (ending.answer_of [] [] end) (w.2 are))) (answered faithful));
    details = why.details_end o (Interleave store schedule turns) receive_ways (AllSteady o) (HasRisen o.disk_faults) (HasRisen o.input_faults) (HasRisen o.output_faults) [] [] end p.caused;
    promised = tt;
    any_moment = λ faithful. told_known o.known_files turns.files _ some (moment faithful);
    durable = λ done faithful e. cc;
    acknowledged = λ faithful e. told_known o.known_files turns.files _ some (then_told o.known_files turns.files _ _
        (λ bytes w are. (w.0, w.1, λ image is. w.2 are image is)) (lines faithful));
  }
