-- The clauses of a run, from what its request is answered.
use Rattle.std.specs.Prelude.{◌≡◌, ◌⊎◌, ℕ, true}
use Rattle.std.specs.Io.KnownBytes.{Appends}
use Rattle.std.proofs.Common.{sym, ap, subst, ◌∙◌, ⊎_elim}
use Rattle.send_model.proofs.Sorts.{same_inside}
use Rattle.program_model.specs.Requests.{Request, Compose, Export, Squash, Send, Restore, Stream, Tar}
use Rattle.program_model.specs.Profiles.{profile}
use Rattle.program_model.specs.Answers.{Answer, Done, Usage, status_of, note_of}
use Rattle.sx_base.specs.Outside.{AppendsPart}
use Rattle.request_answers.specs.Objects.{Objects, HasRisen}
use Rattle.request_answers.specs.Promises as promised
use Rattle.request_answers.specs.Promises.{HasCause, Promised, is_one_of}
use Rattle.send_top.specs.Asked.{AskNothing, AskFor, IsAnswered}
use Rattle.send_top.specs.Clauses.{Run, Asks, ForAsked, MeansNothing, Touches, IsCaused, Answers, IsMerged, IsExported, IsSent, IsCrashSafe, IsAcknowledged}
use Rattle.send_top.proofs.Statuses.{zero-of_done, two-of_usage, done-of_zero, usage-of_two, refused-of_one, inputs-of_three, output-of_four, disk-of_five, ends-of_thirteen}

-- What is known of a run and its answer.
pub record Before (run : Run) (answer : Answer) : Type 0 where
  pub status : run.status ≡ status_of answer
  pub answered : IsAnswered run.objects run.words run.guards answer
  pub note : Appends run.notes run.notes_after (note_of answer) ⊎
      (AppendsPart run.notes run.notes_after (note_of answer) × HasRisen run.note_faults)
  pub quiet : answer ≡ Done → run.NotesSame

-- Nothing that is asked for is answered as what means nothing.
asked_some : (o : Objects) (request : Request) (answer : Answer) → promised.Answers o request answer → answer ≡ Usage → ⊥
asked_some o request answer a is = subst (HasCause o) is a.caused

not_done : Usage ≡ Done → ⊥
not_done e = cc

module _ (run : Run) (answer : Answer) (b : Before run answer) where
  -- The request that is asked for is the one that was answered.
  one : (f : AskFor run.objects run.words run.guards answer) (request : Request) → Asks run request → f.request ≡ request
  one f request asks = same_inside (sym f.meant ∙ asks.meant)

  asks : (f : AskFor run.objects run.words run.guards answer) → Asks run f.request
  asks f = record { meant = f.meant; fits = f.fits }

  nothing : (n : AskNothing run.objects run.words run.guards answer) (request : Request) → Asks run request → ⊥
  nothing n request asks = n.nothing request asks.meant asks.fits

  -- What the answer to each request says is said of the one that is asked for.
  each : (P : Request → Type 0) → ((request : Request) → promised.Answers run.objects request answer → P request) → ForAsked run P
  each P says request asks = ⊎_elim (λ n. absurd (nothing n request asks)) (λ f. subst P (one f request asks) (says f.request f.answers)) b.answered

  -- What holds where nothing is asked for, and where the request that was answered has something.
  either : (P : Request → Type 0) (Q : Type 0) → (AskNothing run.objects run.words run.guards answer → Q)
      → ((request : Request) → promised.Answers run.objects request answer → P request → Q) → ForAsked run P → Q
  either P Q none some has = ⊎_elim none (λ f. some f.request f.answers (has f.request (asks f))) b.answered

  zero : run.status ≡ 0 → answer ≡ Done
  zero e = done-of_zero answer (sym b.status ∙ e)

  not_zero : (run.status ≡ 0 → ⊥) → answer ≡ Done → ⊥
  not_zero other done = other (b.status ∙ ap status_of done ∙ zero-of_done)

  cause : (Q : Type 0) → (HasCause run.objects answer → Q) → (answer ≡ Usage → Q) → Q
  cause Q of usage = ⊎_elim (λ n. usage n.usage) (λ f. of f.answers.caused) b.answered

  pub means_nothing : MeansNothing run
  means_nothing = record {
    exactly = (
      λ two request asks. ⊎_elim (λ n. nothing n request asks)
          (λ f. asked_some run.objects f.request answer f.answers (usage-of_two answer (sym b.status ∙ two))) b.answered,
      λ none. ⊎_elim (λ n. b.status ∙ ap status_of n.usage ∙ two-of_usage) (λ f. absurd (none f.request (asks f))) b.answered,
    );
    untouched = λ two. ⊎_elim (λ n. (n.inputs, (n.output, n.disk)))
        (λ f. absurd (asked_some run.objects f.request answer f.answers (usage-of_two answer (sym b.status ∙ two)))) b.answered;
  }

  pub touches : Touches run
  touches = record {
    known = ⊎_elim (λ n. n.known) (λ f. f.answers.known) b.answered;
    reads = each _ (λ request a. a.reads);
    unread = either _ run.objects.InputsSame (λ n. n.inputs) (λ request a none. a.unread none);
    unprinted = either _ run.objects.OutputSame (λ n. n.output) (λ request a none. a.unprinted none);
    unused = either _ run.objects.DiskSame (λ n. n.disk) (λ request a none. a.unused none);
    unharmed = λ faithful. either _ (run.objects.contents_after ≡ run.objects.contents) (λ n. n.contents) (λ request a reads. a.unharmed faithful reads);
  }

  pub is_caused : IsCaused run
  is_caused = record {
    allowed = each _ (λ request a. subst (λ (status : ℕ). is_one_of status (profile request).statuses ≡ true) (sym b.status) a.allowed);
    nothing_failed = λ e. cause _ (subst (HasCause run.objects) (zero e)) (λ usage. absurd (not_done (sym usage ∙ zero e)));
    inputs = λ e. cause _ (inputs-of_three run.objects answer (sym b.status ∙ e)) (λ usage. absurd (other 3 usage e (λ (t : 2 ≡ 3). cc)));
    output = λ e. cause _ (output-of_four run.objects answer (sym b.status ∙ e)) (λ usage. absurd (other 4 usage e (λ (t : 2 ≡ 4). cc)));
    disk = λ e. cause _ (disk-of_five run.objects answer (sym b.status ∙ e)) (λ usage. absurd (other 5 usage e (λ (t : 2 ≡ 5). cc)));
    changed = λ e. cause _ (ends-of_thirteen run.objects answer (sym b.status ∙ e)) (λ usage. absurd (other 13 usage e (λ (t : 2 ≡ 13). cc)));
  }
    where
      other : (n : ℕ) → answer ≡ Usage → run.status ≡ n → (2 ≡ n → ⊥) → ⊥
      other n usage e differ = differ (sym (b.status ∙ ap status_of usage ∙ two-of_usage) ∙ e)

  pub is_answered : Answers run
  is_answered = record {
    answer = answer;
    is = record {
      status = b.status;
      note = b.note;
      says = each _ (λ request a. a.says);
      details = each _ (λ request a. a.details);
    };
    quiet = λ e. b.quiet (zero e);
  }

  -- What is promised of the request that is asked for.
  promise : (request : Request) → Asks run request → Promised run.objects request answer
  promise = each (λ request. Promised run.objects request answer) (λ request a. a.promised)

  pub is_merged : IsMerged run
  is_merged = record {
    whole = λ e base files asks. (promise (Compose base files) asks).whole (zero e);
    front = λ e base files asks. let found = refused-of_one answer (sym b.status ∙ e) in (promise (Compose base files) asks).front found.0 found.1;
    squashed = λ e base files asks. promise (Squash base files) asks (zero e);
  }

  pub is_exported : IsExported run
  is_exported = record { whole = λ e base files asks. promise (Export base files) asks (zero e) }

  pub is_sent : IsSent run
  is_sent = record {
    whole = λ e faithful store name. ⊎_elim (λ asks. (promise (Send store name) asks).whole (zero e) faithful)
        (λ asks. (promise (Restore store name) asks).whole (zero e) faithful);
    sent_in_part = λ other faithful store name asks. (promise (Send store name) asks).in_part (not_zero other) faithful;
    restored_in_part = λ other faithful store name asks. (promise (Restore store name) asks).in_part (not_zero other) faithful;
    streamed = λ e faithful store name asks. (promise (Stream store name) asks).whole (zero e) faithful;
    streamed_in_part = λ other faithful store name asks. (promise (Stream store name) asks).in_part (not_zero other) faithful;
    archived = λ e faithful store name asks. (promise (Tar store name) asks).whole (zero e) faithful;
    archived_in_part = λ other faithful store name asks. (promise (Tar store name) asks).in_part (not_zero other) faithful;
  }

  pub is_crash_safe : IsCrashSafe run
  is_crash_safe = record {
    any_moment = λ faithful. each _ (λ request a. a.any_moment faithful);
    durable = λ e faithful. each _ (λ request a. a.durable (zero e) faithful);
  }

  pub is_acknowledged : IsAcknowledged run
  is_acknowledged = record { lines = λ faithful. each _ (λ request a. a.acknowledged faithful) }
