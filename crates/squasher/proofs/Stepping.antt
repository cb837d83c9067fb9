-- One step of the core, as what is kept sees it.
use Rattle.std.specs.Prelude.{◌≡◌, ℕ, ◌++◌, ◌||◌, ◌&&◌, Bool, true, false, List, [], ◌∷◌, Option, None, Some, Result, Ok, Err, is_some, if◌then◌else◌}
use Rattle.std.specs.Option.{option_map, option_to_list}
use Rattle.std.proofs.Common.{refl, sym, ap, ap₂, subst, ◌∙◌, append-nil}
use Rattle.send_model.specs.Refusal as meant
use Rattle.send_model.specs.Reading.{Item, Verdict}
use Rattle.send_model.specs.Store.{Part, Store, State, Stepped, head_of, step}
use Rattle.send_model.specs.Receive.{verdict_of}
use Rattle.send_model.specs.Order.{then_judge}
use Rattle.send_model.specs.Counts.{is_end}
use Rattle.send_model.specs.Cells.{recelled_state}
use Rattle.send_commands.specs.declared.command.Command as code
use Rattle.send_commands.specs.declared.command.Command.TheVariants as made
use Rattle.send_commands.specs.Meaning.{meaning_of}
use Rattle.sx_base.specs.declared.refusal.Refusal as coded
use Rattle.sx_base.specs.declared.refusal.Refusal.TheVariants as coded_as
use Rattle.sx_base.specs.declared.stop.Stop.{Stop}
use Rattle.sx_base.specs.declared.stop.Stop.TheVariants as stopped
use Rattle.sx_base.specs.Refusals.{refusal_of}
use Rattle.clone_resolve.specs.Steps.{cells_put, Answers}
use Rattle.auditor.proofs.Steps.{answers_blank}
use Rattle.sx_base.specs.declared.outcome.Outcome.{Outcome}
use Rattle.sx_base.specs.declared.outcome.Outcome.TheVariants as ended
use Rattle.squash_model.specs.SquashJudge as due
use Rattle.squash_model.specs.SquashJudge.{is_second}
use Rattle.squash_log.specs.declared.change.Change.{Change}
use Rattle.squash_log.specs.Fates.{Fate}
use Rattle.squash_log.specs.Resolved.{blank_step, changes_at}
use Rattle.squasher.specs.declared.judging.Passed.{Passed}
use Rattle.squasher.specs.Judging.{passed_meant, Sight, IsClosing, IsStepped, IsTaken, ItemStops, Steps, Takes}
use Rattle.squasher.proofs.Keeping.{Blank}

-- ---- refusals

pub refused_stops : (before after : State Blank) (item : Item) (b : Bool) (refusal : meant.Refusal) → blank_step before item.command ≡ record { state = after; refusal = Some refusal } → (rest : Option Verdict)
    → then_judge item (blank_step before item.command) b rest ≡ Some (verdict_of item refusal)
refused_stops before after item b refusal e rest = ap (λ (x : Stepped Blank). then_judge item x b rest) e

pub second_stops : (before after : State Blank) (item : Item) (b : Bool) → blank_step before item.command ≡ record { state = after; refusal = None } → b ≡ true → (rest : Option Verdict)
    → then_judge item (blank_step before item.command) b rest ≡ Some (verdict_of item meant.NotConsecutive)
second_stops before after item b e second rest =
    ap (λ (x : Stepped Blank). then_judge item x b rest) e ∙ ap (λ (t : Bool). if t then Some (verdict_of item meant.NotConsecutive) else rest) second

-- ---- heads and END

pub there_mapped : {A B : Type 0} (f : A → B) (o : Option A) (p : Option B) → option_map f o ≡ p → is_some o ≡ is_some p
there_mapped {B = B} f None p e = ap (λ (x : Option B). is_some x) e
there_mapped {B = B} f (Some a) p e = ap (λ (x : Option B). is_some x) e

pub no_end : (c : code.Command) → (c ≡ made.End → ⊥) → is_end (meaning_of c) ≡ false
no_end made.End h = absurd (h refl)
no_end c h = refl

pub second_is : (passed : Passed) (item : Item) (b r : Bool) → b ≡ is_some (head_of item.command) → r ≡ (passed.closed || (passed.begun && b)) → is_second (passed_meant passed) item ≡ r
second_is passed item b r head is = sym (is ∙ ap (λ (x : Bool). passed.closed || (passed.begun && x)) head)

pub passed_is : (old new : Passed) (item : Item) (b : Bool) → b ≡ is_some (head_of item.command) → new.begun ≡ (old.begun || b) → new.closed ≡ (old.closed || is_end item.command)
    → passed_meant new ≡ due.passed_with (passed_meant old) item
passed_is old new item b head begun closed =
    let of : Bool → Bool → due.Passed = λ x y. record { begun = x; closed = y } in
    ap₂ of (begun ∙ ap (λ (x : Bool). old.begun || x) head) closed

-- ---- one step, over any cells

-- What is seen of the subvolumes, the part and all else.
abbrev pub sight : {C : Type 0} → Store C → Option (Part C) → List Change → Option (List Fate) → Passed → Sight
sight core part log fates passed = record { state = recelled_state {D = Unit {0}} (λ _. tt) (record { store = core; part = part }); log = log; fates = fates; passed = passed }

module _ {O A : Type 0} (advanced : O → ℕ → O) (origin : O) (old new : State (Option O)) (now : Sight) (log : List Change) (fates : Option (List Fate)) (passed : Passed) (item : Item) (r : Result A Stop)
    (view : sight old.store old.part log fates passed ≡ now) (said : Answers r new (step None (cells_put advanced origin item.command) old item.command)) where
  answers : Answers r (recelled_state (λ _. tt) new) (blank_step now.state item.command)
  answers = subst (λ (s : Sight). Answers r (recelled_state (λ _. tt) new) (blank_step s.state item.command)) view (answers_blank advanced origin item.command old new r said)

  taken : (x : A) → r ≡ Ok x → blank_step now.state item.command ≡ record { state = recelled_state (λ _. tt) new; refusal = None }
  taken x was = subst (λ (q : Result A Stop). Answers q (recelled_state (λ _. tt) new) (blank_step now.state item.command)) was answers

  -- It is refused.
  pub step_refused : (why : Stop) (refusal : coded.Refusal) (outcome : Outcome) → r ≡ Err why → why ≡ stopped.Refused refusal
      → outcome ≡ ended.Refused (record { file = item.file; command = item.number; offset = item.offset; refusal = refusal }) → ItemStops now item outcome
  step_refused why refusal outcome was why_is is =
      let e : Answers {A = A} (Err (stopped.Refused refusal)) (recelled_state (λ _. tt) new) (blank_step now.state item.command) =
      subst (λ (q : Result A Stop). Answers q (recelled_state (λ _. tt) new) (blank_step now.state item.command)) (was ∙ ap (λ (w : Stop). Err w) why_is) answers in
      subst (λ (x : Outcome). ItemStops now item x) (sym is) (refused_stops now.state (recelled_state (λ _. tt) new) item (is_second (passed_meant now.passed) item) (refusal_of refusal) e)

  module _ (x : A) (was : r ≡ Ok x) (b second : Bool) (head : b ≡ is_some (head_of item.command)) (is : second ≡ (passed.closed || (passed.begun && b))) where
    is_second_now : is_second (passed_meant now.passed) item ≡ second
    is_second_now = ap (λ (s : Sight). is_second (passed_meant s.passed) item) (sym view) ∙ second_is passed item b second head is

    -- It is taken, but is a second head or stands behind END.
    pub step_second : (outcome : Outcome) → second ≡ true → outcome ≡ ended.Refused (record { file = item.file; command = item.number; offset = item.offset; refusal = coded_as.NotConsecutive }) → ItemStops now item outcome
    step_second outcome so named =
        subst (λ (o : Outcome). ItemStops now item o) (sym named) (second_stops now.state (recelled_state (λ _. tt) new) item (is_second (passed_meant now.passed) item) (taken x was) (is_second_now ∙ so))

    -- It is taken.
    pub step_taken : (next : Passed) → second ≡ false → next.begun ≡ (passed.begun || b) → next.closed ≡ (passed.closed || is_end item.command)
        → next.version ≡ item.version → next.number ≡ item.number → next.offset ≡ item.offset
        → IsStepped now (sight new.store new.part log fates next) item × (log ≡ now.log) × (fates ≡ now.fates)
    step_taken next so begun closed version number offset = (
      record {
        stepped = taken x was;
        first = is_second_now ∙ so;
        passed = passed_is passed next item b head begun closed ∙ ap (λ (s : Sight). due.passed_with (passed_meant s.passed) item) view;
        version = version;
        number = number;
        offset = offset;
      },
      ap (λ (s : Sight). s.log) view,
      ap (λ (s : Sight). s.fates) view,
    )

-- ---- END

-- Where the fates were found and then END was taken.
pub end_taken : (old mid new : Sight) (item : Item) (r : Result (Unit {0}) Outcome) → IsClosing old mid → is_end item.command ≡ true → Steps mid new item r → Takes old new item r
end_taken old mid new item r closing last steps = by_result r steps
  where
    by_outcome : (x : Outcome) → ItemStops mid item x → ItemStops old item x
    by_outcome (ended.Refused verdict) stops = λ rest.
        ap₂ (λ (s : State Blank) (p : Passed). then_judge item (blank_step s item.command) (is_second (passed_meant p) item) rest) (sym closing.state) (sym closing.passed) ∙ stops rest
    by_outcome (ended.InputTooLong number) stops = stops
    by_outcome (ended.TooMuch sum) stops = stops
    by_outcome (ended.InputChanged number place) stops = stops
    by_outcome ended.InputFault stops = stops
    by_outcome ended.NoMemory stops = stops
    by_outcome ended.OutputFault stops = stops
    by_outcome ended.Done stops = stops

    by_result : (x : Result (Unit {0}) Outcome) → Steps mid new item x → Takes old new item x
    by_result (Ok done) (s, log, fates) = record {
      step = record {
        stepped = ap (λ (x : State Blank). blank_step x item.command) (sym closing.state) ∙ s.stepped;
        first = ap (λ (p : Passed). is_second (passed_meant p) item) (sym closing.passed) ∙ s.first;
        passed = s.passed ∙ ap (λ (p : Passed). due.passed_with (passed_meant p) item) closing.passed;
        version = s.version;
        number = s.number;
        offset = s.offset;
      };
      at_end = λ e. fates ∙ closing.fates;
      before_end = λ e. let clash : true ≡ false = sym last ∙ e in cc;
      logged = λ e. let clash : true ≡ false = sym last ∙ e in cc;
    }
    by_result (Err outcome) stops = by_outcome outcome stops

-- ---- other commands

-- A command that did nothing to contents.
pub inner_quiet : (old new : Sight) (item : Item) (o : Option Change) → is_end item.command ≡ false → o ≡ None → option_to_list o ≡ changes_at old.state.part item.command
    → IsStepped old new item × (new.log ≡ old.log) × (new.fates ≡ old.fates) → IsTaken old new item
inner_quiet old new item o inner none changes (s, log, fates) = record {
  step = s;
  at_end = λ e. let clash : false ≡ true = sym inner ∙ e in cc;
  before_end = λ e. fates;
  logged = λ e. log ∙ sym (append-nil old.log) ∙ ap (λ (cs : List Change). old.log ++ cs) (sym (ap option_to_list none) ∙ changes);
}

-- One that did something.
pub inner_logged : (old mid new : Sight) (item : Item) (o : Option Change) (change : Change) → is_end item.command ≡ false → o ≡ Some change → option_to_list o ≡ changes_at old.state.part item.command
    → IsStepped old mid item × (mid.log ≡ old.log) × (mid.fates ≡ old.fates) → new.state ≡ mid.state → new.passed ≡ mid.passed → new.fates ≡ mid.fates → new.log ≡ mid.log ++ change ∷ [] → IsTaken old new item
inner_logged old mid new item o change inner some changes (s, log, fates) state passed kept pushed = record {
  step = record {
    stepped = s.stepped ∙ ap (λ (x : State Blank). record { state = x; refusal = None }) (sym state);
    first = s.first;
    passed = ap passed_meant passed ∙ s.passed;
    version = ap (λ (p : Passed). p.version) passed ∙ s.version;
    number = ap (λ (p : Passed). p.number) passed ∙ s.number;
    offset = ap (λ (p : Passed). p.offset) passed ∙ s.offset;
  };
  at_end = λ e. let clash : false ≡ true = sym inner ∙ e in cc;
  before_end = λ e. kept ∙ fates;
  logged = λ e. pushed ∙ ap₂ (λ (l : List Change) (cs : List Change). l ++ cs) log (sym (ap option_to_list some) ∙ changes);
}
