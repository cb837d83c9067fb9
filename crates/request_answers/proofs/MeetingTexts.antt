-- What the calls on texts of streams answer.
use Rattle.std.specs.Prelude.{◌≡◌, ℕ, List, [], ◌∷◌}
use Rattle.std.proofs.Common.{refl, sym, ap, subst}
use Rattle.send_model.specs.Due as files_due
use Rattle.send_model.specs.Words.{first_file}
use Rattle.store_model.specs.Dues as dues
use Rattle.store_commands.proofs.StreamAnswers.{then_told}
use Rattle.sx_base.specs.Calls.{IfAllTold, Wrote, Caused}
use Rattle.sx_base.specs.declared.outcome.Outcome.{Outcome}
use Rattle.sx_base.specs.declared.outcome.Outcome.TheVariants as ended
use Rattle.stream_text.specs.TextAnswers.{TextEnds}
use Rattle.stream_text.specs.Packed.{PackEnds}
use Rattle.program_model.specs.Requests.{Text, Pack}
use Rattle.program_model.specs.Profiles.{profile, NoFiles, Once}
use Rattle.program_model.specs.Answers.{Says, of_files, texted, packed_from, only, meaning_of}
use Rattle.request_answers.specs.Objects.{Objects}
use Rattle.request_answers.specs.Promises.{Answers}
use Rattle.request_answers.proofs.Causes as why
use Rattle.request_answers.proofs.Causes.{of_outcome}
use Rattle.request_answers.proofs.Saying.{first_is_only}
use Rattle.request_answers.proofs.MeetingAlone.{Alone, told_known}

-- Files that are read once are read.
once_some : Once ≡ NoFiles → ⊥
once_some e = cc

-- ---- printing as a text

module _ (image written : List ℕ) (reads read_now writes wrote_now : ℕ) where
  text_of_one : (file : List ℕ) (outcome : Outcome) → Caused reads read_now writes wrote_now outcome → TextEnds file outcome written
      → Says (of_files image (texted file)) (of_outcome outcome) written image
  unfolding Says
  text_of_one file ended.Done why h = (ap (λ (d : files_due.Due). dues.Ends d) (sym h.0), (refl, h.1))
  text_of_one file (ended.Refused verdict) why h = (ap (λ (d : files_due.Due). dues.Ends d) (sym h.0), (refl, h.1))
  text_of_one file (ended.InputTooLong number) why h = (ap (λ (d : files_due.Due). dues.Ends d) (sym h.0), (refl, h.1))
  text_of_one file (ended.TooMuch sum) why h = absurd why
  text_of_one file (ended.InputChanged number place) why h = absurd why
  text_of_one file ended.InputFault why h = (refl, h)
  text_of_one file ended.OutputFault why h = (refl, h)
  text_of_one file ended.NoMemory why h = (refl, h)

  text_says : (bytes : List (List ℕ)) (outcome : Outcome) → Caused reads read_now writes wrote_now outcome → TextEnds (first_file bytes) outcome written
      → Says (of_files image (texted (only bytes))) (of_outcome outcome) written image
  text_says bytes outcome why h =
      text_of_one (only bytes) outcome why (subst (λ (file : List ℕ). TextEnds file outcome written) (first_is_only bytes) h)

pub text_meets : (o : Objects) (file : List ℕ) (outcome : Outcome) → Alone o Once (file ∷ []) outcome
    → Caused o.input_faults.before o.input_faults.after o.output_faults.before o.output_faults.after outcome
    → IfAllTold o.known_files (file ∷ []) (λ bytes. Wrote o.output o.output_after (λ written. TextEnds (first_file bytes) outcome written))
    → Answers o (Text file) (of_outcome outcome)
unfolding profile
text_meets o file outcome a caused told = record {
  known = a.known;
  reads = a.asked;
  unread = λ e. absurd (once_some e);
  unprinted = λ e. cc;
  unused = λ e. a.disk.disk;
  unharmed = λ faithful reads. a.disk.contents;
  allowed = why.read_alone o.input_faults.before o.input_faults.after o.output_faults.before o.output_faults.after outcome caused;
  caused = why.cause_alone o outcome a.inputs a.ends a.output a.disk.faults caused;
  says = told_known o.known_files (file ∷ []) _ (λ e. cc) (then_told o.known_files (file ∷ [])
      (λ bytes. Wrote o.output o.output_after (λ written. TextEnds (first_file bytes) outcome written))
      (λ bytes. Wrote o.output o.output_after (λ written. Says (meaning_of (Text file) o.contents bytes) (of_outcome outcome) written o.contents_after))
      (λ bytes w. (
        w.0,
        w.1,
        subst (λ (left : List ℕ). Says (meaning_of (Text file) o.contents bytes) (of_outcome outcome) w.0 left) (sym a.disk.contents)
            (text_says o.contents w.0 o.input_faults.before o.input_faults.after o.output_faults.before o.output_faults.after bytes outcome caused w.2),
      )) told);
  details = why.details_alone o (Text file) o.input_faults.before o.input_faults.after o.output_faults.before o.output_faults.after outcome caused;
  promised = tt;
  any_moment = a.disk.moment;
  durable = λ done faithful e. cc;
  acknowledged = λ faithful e. tt;
}

-- ---- making streams of a text

module _ (image written : List ℕ) (reads read_now writes wrote_now : ℕ) where
  pack_of_one : (file : List ℕ) (outcome : Outcome) → PackEnds file outcome written
      → Says (packed_from image file) (of_outcome outcome) written image
  unfolding Says
  pack_of_one file ended.Done h = (refl, h)
  pack_of_one file (ended.Refused verdict) h = (refl, h)
  pack_of_one file (ended.InputTooLong number) h = (refl, h)
  pack_of_one file (ended.TooMuch sum) h = absurd h
  pack_of_one file (ended.InputChanged number place) h = absurd h
  pack_of_one file ended.InputFault h = (refl, h)
  pack_of_one file ended.OutputFault h = (refl, h)
  pack_of_one file ended.NoMemory h = (refl, h)

  pack_says : (bytes : List (List ℕ)) (outcome : Outcome) → Caused reads read_now writes wrote_now outcome → PackEnds (first_file bytes) outcome written
      → Says (packed_from image (only bytes)) (of_outcome outcome) written image
  pack_says bytes outcome why h =
      pack_of_one (only bytes) outcome (subst (λ (file : List ℕ). PackEnds file outcome written) (first_is_only bytes) h)

pub pack_meets : (o : Objects) (file : List ℕ) (outcome : Outcome) → Alone o Once (file ∷ []) outcome
    → Caused o.input_faults.before o.input_faults.after o.output_faults.before o.output_faults.after outcome
    → IfAllTold o.known_files (file ∷ []) (λ bytes. Wrote o.output o.output_after (λ written. PackEnds (first_file bytes) outcome written))
    → Answers o (Pack file) (of_outcome outcome)
unfolding profile
pack_meets o file outcome a caused told = record {
  known = a.known;
  reads = a.asked;
  unread = λ e. absurd (once_some e);
  unprinted = λ e. cc;
  unused = λ e. a.disk.disk;
  unharmed = λ faithful reads. a.disk.contents;
  allowed = why.read_alone o.input_faults.before o.input_faults.after o.output_faults.before o.output_faults.after outcome caused;
  caused = why.cause_alone o outcome a.inputs a.ends a.output a.disk.faults caused;
  says = told_known o.known_files (file ∷ []) _ (λ e. cc) (then_told o.known_files (file ∷ [])
      (λ bytes. Wrote o.output o.output_after (λ written. PackEnds (first_file bytes) outcome written))
      (λ bytes. Wrote o.output o.output_after (λ written. Says (meaning_of (Pack file) o.contents bytes) (of_outcome outcome) written o.contents_after))
      (λ bytes w. (
        w.0,
        w.1,
        subst (λ (left : List ℕ). Says (meaning_of (Pack file) o.contents bytes) (of_outcome outcome) w.0 left) (sym a.disk.contents)
            (pack_says o.contents w.0 o.input_faults.before o.input_faults.after o.output_faults.before o.output_faults.after bytes outcome caused w.2),
      )) told);
  details = why.details_alone o (Pack file) o.input_faults.before o.input_faults.after o.output_faults.before o.output_faults.after outcome caused;
  promised = tt;
  any_moment = a.disk.moment;
  durable = λ done faithful e. cc;
  acknowledged = λ faithful e. tt;
}
