-- What the calls that squash a file answer.
use Rattle.std.specs.Prelude.{◌≡◌, ℕ, ◌<◌, ◌≤◌, List, [], ◌∷◌, length, get_or, map, Option, None, Some}
use Rattle.std.proofs.Common.{refl, sym, ap, subst, ◌∙◌, arith}
use Rattle.send_model.specs.Due.{Limited}
use Rattle.send_model.specs.Outside.{keys_outside, FindsLawful}
use Rattle.send_model.specs.Overridden.{Override, Overrides, override_for, overridden}
use Rattle.send_model.specs.Reading.{Item, Reading, input}
use Rattle.send_model.specs.Store.{Store, find}
use Rattle.store_model.specs.Stored.{StandsFor}
use Rattle.squash_model.specs.SquashedStreams.{IsSquashedOf}
use Rattle.squash_model.specs.SquashDues.{own_base}
use Rattle.squasher.specs.Judging.{read_with}
use Rattle.squasher.specs.Squashing.{SquashEnds}
use Rattle.store_compose.specs.Squashing.{squashed_in}
use Rattle.store_compose.proofs.SquashAnswers.{limited_any, reading_once, alone_says, promised, told_once}
use Rattle.store_commands.specs.Ending as ending
use Rattle.store_commands.specs.Ending.{EndCaused, audit_ways}
use Rattle.store_commands.specs.declared.ends.StoreEnd.{StoreEnd}
use Rattle.store_commands.specs.declared.ends.StoreEnd.TheVariants as made
use Rattle.store_commands.proofs.StreamAnswers.{then_told}
use Rattle.cmd_reader.specs.Places.{IfTold}
use Rattle.sx_base.specs.Calls.{IfAllTold, Wrote, Caused}
use Rattle.sx_base.specs.Outside.{file_at}
use Rattle.sx_base.specs.declared.outcome.Outcome.{Outcome}
use Rattle.sx_base.specs.declared.outcome.Outcome.TheVariants as ended
use Rattle.program_model.specs.FileWords.{GivenFiles}
use Rattle.program_model.specs.Requests.{Nothing, InStore, Squash}
use Rattle.program_model.specs.Profiles.{profile, NoFiles, Twice}
use Rattle.program_model.specs.Answers.{Says, of_store, squashed_over, read_as, meaning_of}
use Rattle.request_answers.specs.Objects.{Objects, HasRisen}
use Rattle.request_answers.specs.Promises.{Answers}
use Rattle.request_answers.proofs.Causes as why
use Rattle.request_answers.proofs.Causes.{of_outcome, of_end}
use Rattle.request_answers.proofs.MeetingAlone.{Alone, told_known, outcome_done}
use Rattle.request_answers.proofs.MeetingStore.{OnlyRead, AllSteady, end_done, all_steady, some_store}

twice_some : Twice ≡ NoFiles → ⊥
twice_some e = cc

-- A list of one is its first.
pub only_first : {A : Type 0} (list : List A) (first : A) → 1 ≤ length list → length list < 2 → first ≡ get_or list 0 first → list ≡ first ∷ []
only_first [] first some few is = absurd (omega (arith, some))
only_first (item ∷ []) first some few is = ap (λ (x : _). x ∷ []) (sym is)
only_first (item ∷ more ∷ items) first some few is = absurd (omega (arith, few))

-- A store of nothing finds nothing.
finds_nothing : (items : List Item) → FindsLawful (own_base [] items) (keys_outside items)
unfolding find
finds_nothing items key s among is = cc

-- What is known of one file, told or not.
told_one : (told : Option (List (List ℕ × List ℕ))) (name : List ℕ) (P Q : List (List ℕ) → Type 0) → ((bytes : List ℕ) → P (bytes ∷ []) → Q (bytes ∷ [])) → IfAllTold told (name ∷ []) P → IfAllTold told (name ∷ []) Q
told_one None name P Q more known = tt
told_one (Some table) name P Q more known = more (file_at table name) known

module _ (o : Objects) (name : List ℕ) (overrides : Overrides) where
  abbrev said : Override
  said = override_for overrides 1

  abbrev files : GivenFiles
  files = record { files = name ∷ []; overrides = overrides }

  -- What is promised of the file with what is said in front of it is promised of the files.
  as_given : (s : Store ℕ) (bytes written : List ℕ) → IsSquashedOf (own_base s (overridden (said ∷ []) (input (bytes ∷ []))).items) (overridden (said ∷ []) (input (bytes ∷ []))) written
      → IsSquashedOf (own_base s (overridden overrides (input (bytes ∷ []))).items) (overridden overrides (input (bytes ∷ []))) written
  as_given s bytes written p = subst (λ (r : Reading). IsSquashedOf (own_base s r.items) r written) (sym (reading_once overrides bytes)) p

  module _ (outcome : Outcome) where
    pub squash_meets : Alone o Twice (name ∷ []) outcome → Caused o.input_faults.before o.input_faults.after o.output_faults.before o.output_faults.after outcome
        → IfTold o.known_files name (λ bytes. FindsLawful (own_base [] (read_with said 1 bytes).items) (keys_outside (read_with said 1 bytes).items)
        → Wrote o.output o.output_after (SquashEnds (own_base [] (read_with said 1 bytes).items) (read_with said 1 bytes) outcome))
        → Answers o (Squash Nothing files) (of_outcome outcome)
    unfolding profile
    squash_meets a caused told = record {
      known = a.known;
      reads = a.asked;
      unread = λ e. absurd (twice_some e);
      unprinted = λ e. cc;
      unused = λ e. a.disk.disk;
      unharmed = λ faithful reads. a.disk.contents;
      allowed = why.read_alone o.input_faults.before o.input_faults.after o.output_faults.before o.output_faults.after outcome caused;
      caused = why.cause_alone o outcome a.inputs a.ends a.output a.disk.faults caused;
      says = told_known o.known_files (name ∷ []) _ (λ e. cc) (told_once o.known_files name _ (λ bytes. Wrote o.output o.output_after (λ written. Says (meaning_of (Squash Nothing files) o.contents bytes) (of_outcome outcome) written o.contents_after))
          (λ bytes p. let w = p (finds_nothing (read_with said 1 bytes).items) in (
            w.0,
            w.1,
            subst (λ (left : List ℕ). Says (meaning_of (Squash Nothing files) o.contents (bytes ∷ [])) (of_outcome outcome) w.0 left) (sym a.disk.contents)
                (alone_says (read_as files (bytes ∷ [])) o.contents w.0 o.input_faults.before o.input_faults.after o.output_faults.before o.output_faults.after outcome caused
                (subst (λ (l : Limited). SquashEnds (own_base [] l.items) l outcome w.0) (sym (limited_any overrides bytes)) w.2)),
          )) told);
      details = why.details_alone o (Squash Nothing files) o.input_faults.before o.input_faults.after o.output_faults.before o.output_faults.after outcome caused;
      promised = λ done. told_once o.known_files name _ _ (λ bytes p. let w = p (finds_nothing (read_with said 1 bytes).items) in (
        w.0,
        w.1,
        λ s is. subst (λ (t : Store ℕ). IsSquashedOf (own_base t (overridden overrides (input (bytes ∷ []))).items) (overridden overrides (input (bytes ∷ []))) w.0) (sym is)
            (as_given [] bytes w.0 (promised name said [] bytes w.0 (subst (λ (x : Outcome). SquashEnds (own_base [] (read_with said 1 bytes).items) (read_with said 1 bytes) x w.0) (outcome_done outcome done) w.2))),
      )) told;
      any_moment = a.disk.moment;
      durable = λ done faithful e. cc;
      acknowledged = λ faithful e. tt;
    }

  module _ (store : List ℕ) (end : StoreEnd) where
    pub squash_over_meets : OnlyRead o Twice (name ∷ []) → EndCaused audit_ways (AllSteady o) (HasRisen o.disk_faults) (HasRisen o.input_faults) (HasRisen o.output_faults) end
        → (o.IsFaithful → IfAllTold o.known_files (name ∷ []) (λ bytes. Wrote o.output o.output_after (λ written. Says (squashed_in o.contents name said bytes) (of_end [] [] end) written o.contents_after)))
        → (o.IsFaithful → IfAllTold o.known_files (name ∷ []) (λ bytes. Wrote o.output o.output_after (λ written. end ≡ made.Ends ended.Done → (s : Store ℕ) → StandsFor o.contents s
        → IsSquashedOf (own_base s (overridden (said ∷ []) (input bytes)).items) (overridden (said ∷ []) (input bytes)) written)))
        → Answers o (Squash (InStore store) files) (of_end [] [] end)
    unfolding profile
    squash_over_meets r caused answered squashed = record {
      known = r.known;
      reads = r.asked;
      unread = λ e. absurd (twice_some e);
      unprinted = λ e. cc;
      unused = λ e. absurd (some_store _ e);
      unharmed = λ faithful reads. r.contents faithful;
      allowed = why.allowed_end audit_ways (AllSteady o) (HasRisen o.disk_faults) (HasRisen o.input_faults) (HasRisen o.output_faults) _ (why.audit_row (HasRisen o.input_faults) (HasRisen o.output_faults)) [] [] end caused;
      caused = why.cause_end o audit_ways (AllSteady o) (HasRisen o.disk_faults) (HasRisen o.input_faults) (HasRisen o.output_faults) [] [] (all_steady o) (λ h. h) (λ h. h) (λ h. h) end caused;
      says = λ faithful. told_known o.known_files (name ∷ []) _ (λ e. cc) (told_one o.known_files name _ (λ bytes. Wrote o.output o.output_after (λ written. Says (meaning_of (Squash (InStore store) files) o.contents bytes) (of_end [] [] end) written o.contents_after))
          (λ bytes w. (
            w.0,
            w.1,
            subst (λ (l : Limited). Says (of_store o.contents (λ s. squashed_over (record (read_as files (bytes ∷ [])) { limited = l }) s)) (of_end [] [] end) w.0 o.contents_after)
                (limited_any (said ∷ []) bytes ∙ sym (limited_any overrides bytes)) w.2,
          )) (answered faithful));
      details = why.details_end o (Squash (InStore store) files) audit_ways (AllSteady o) (HasRisen o.disk_faults) (HasRisen o.input_faults) (HasRisen o.output_faults) [] [] end caused;
      promised = λ done faithful. told_one o.known_files name _ _ (λ bytes w. (w.0, w.1, λ s stands. as_given s bytes w.0 (w.2 (end_done [] [] end done) s stands))) (squashed faithful);
      any_moment = r.moment;
      durable = λ done faithful e. cc;
      acknowledged = λ faithful e. tt;
    }
