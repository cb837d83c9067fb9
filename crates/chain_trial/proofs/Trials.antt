-- A trial: what its calls wrote and counted are its numbers, and its line.
use Rattle.std.specs.Prelude.{◌≡◌, ℕ, suc, ◌-◌, ◌≤◌, List, [], ◌∷◌, ◌++◌, length, take, codes, Option, None, Some}
use Rattle.std.specs.Fmt.{decimal}
use Rattle.std.specs.Io.KnownBytes.{Appends}
use Rattle.std.proofs.Common.{refl, sym, ap, subst, ◌∙◌, arith}
use Rattle.send_model.specs.Reading.{Item, reads}
use Rattle.send_model.specs.Order.{commands_of}
use Rattle.send_model.specs.Counts.{literal}
use Rattle.send_model.specs.Generated.{chain_of, trial_line}
use Rattle.send_model.specs.Headline.{IsComposed, IsComposedOf, whole_output}
use Rattle.send_model.specs.Due.{Due, DoneWhole, RefusedAt, TooLong, TooMuch, compose_due}
use Rattle.send_model.specs.Words.{Compose, Gen, Trial, due, whole_of, EndSays, StandsBefore, StandsCut}
use Rattle.send_model.specs.Overridden.{Overrides}
use Rattle.send_model.specs.Sources.{Sources, sources, due_of, whole_from, EndSaysOf, StandsBeforeOf, StandsCutOf}
use Rattle.send_model.proofs.SourceLaws.{no_overrides_change_nothing}
use Rattle.sx_base.specs.Outside.{AppendsPart, file_at}
use Rattle.sx_base.specs.Causes.{counts}
use Rattle.sx_base.specs.Refusals.{verdict_meant}
use Rattle.sx_base.specs.Calls.{IfAllTold, Wrote, Ends, EndsAs, Caused, CausedAgain}
use Rattle.sx_base.specs.declared.outcome.Outcome.{Outcome}
use Rattle.sx_base.specs.declared.outcome.Outcome.TheVariants as ended
use Rattle.part_names.specs.Overriding.{sources_with}
use Rattle.composer.specs.Files.{ComposeEnds}
use Rattle.chain_trial.specs.declared.counting.Counted.{Counted}
use Rattle.chain_trial.specs.declared.trying.Numbers.{Numbers}
use Rattle.chain_trial.specs.Counting.{FileCounted, IsCountable}
use Rattle.chain_trial.specs.Trying.{AreNumbers, EndsInMemory, line_text}
use Rattle.chain_trial.proofs.Numbers.{AreDue, numbers_are_due}
use Rattle.chain_trial.proofs.DueChains.{chain_due}
use Rattle.chain_trial.proofs.ComposedChains.{chain_counts, composed_counts}

-- ---- what the calls made

-- The chain stands in the output that was empty.
pub chain_written : (seed count : ℕ) (old new : List ℕ) (outcome : Outcome) → old ≡ [] → outcome ≡ ended.Done → Wrote (Some old) (Some new) (λ written. Ends (Gen count seed) [] [] outcome written) → new ≡ chain_of seed count
unfolding due whole_of
chain_written seed count old new outcome none done wrote =
    let w : Wrote (Some old) (Some new) (λ written. Ends (Gen count seed) [] [] ended.Done written) = subst (λ (o : Outcome). Wrote (Some old) (Some new) (λ written. Ends (Gen count seed) [] [] o written)) done wrote in
    w.1 ∙ ap (λ (l : List ℕ). l ++ w.0) none ∙ w.2.1

-- The one file of a table.
abbrev pub alone : List ℕ → List (List ℕ × List ℕ)
alone bytes = (codes "chain", bytes) ∷ []

found : (bytes : List ℕ) → file_at (alone bytes) (codes "chain") ≡ bytes
unfolding file_at
found bytes = refl

-- The stream stands in the output that was empty, and it is composed of the chain.
pub record IsDone (chain written : List ℕ) : Type 0 where
  pub due_is : compose_due [] (chain ∷ []) ≡ DoneWhole
  pub all : written ≡ whole_output [] (chain ∷ [])
  pub composed : IsComposed [] (chain ∷ []) written

-- What is said of the one file.
told_alone : (table : List (List ℕ × List ℕ)) (names : List (List ℕ)) (chain : List ℕ) (P : List (List ℕ) → Type 0) → table ≡ alone chain → names ≡ codes "chain" ∷ [] → IfAllTold (Some table) names P → P (chain ∷ [])
told_alone table names chain P table_is names_are told =
    let at : IfAllTold (Some (alone chain)) (codes "chain" ∷ []) P =
    subst (λ (ns : List (List ℕ)). IfAllTold (Some (alone chain)) ns P) names_are
    (subst (λ (t : List (List ℕ × List ℕ)). IfAllTold (Some t) names P) table_is told) in
    subst (λ (bytes : List ℕ). P (bytes ∷ [])) (found chain) at

-- The chain's parts keep their names.
read_plain : (given : Overrides) (chain : List ℕ) → given ≡ [] → sources_with given (chain ∷ []) ≡ sources (chain ∷ [])
read_plain given chain no_names = ap (λ (ns : Overrides). sources_with ns (chain ∷ [])) no_names ∙ no_overrides_change_nothing (sources (chain ∷ []))

pub composed_written : (table : List (List ℕ × List ℕ)) (names : List (List ℕ)) (given : Overrides) (chain old new : List ℕ) (outcome : Outcome) → table ≡ alone chain → names ≡ codes "chain" ∷ [] → given ≡ [] → old ≡ [] → outcome ≡ ended.Done
    → IfAllTold (Some table) names (λ told. Wrote (Some old) (Some new) (ComposeEnds [] given told outcome)) → IsDone chain new
composed_written table names given chain old new outcome table_is names_are no_names none done wrote =
    let Here : List (List ℕ) → List ℕ → Outcome → Type 0 = λ told o x. Wrote (Some o) (Some new) (ComposeEnds [] given told x) in
    let named : Here (chain ∷ []) old outcome = told_alone table names chain (λ told. Here told old outcome) table_is names_are wrote in
    let w : Here (chain ∷ []) [] ended.Done = subst (λ (x : Outcome). Here (chain ∷ []) [] x) done (subst (λ (o : List ℕ). Here (chain ∷ []) o outcome) none named) in
    let is : new ≡ w.0 = w.1 in
    let read : sources_with given (chain ∷ []) ≡ sources (chain ∷ []) = read_plain given chain no_names in
    record {
      due_is = subst (λ (r : Sources). due_of (Compose 1 2) [] r ≡ DoneWhole) read w.2.ends.0;
      all = is ∙ subst (λ (r : Sources). w.0 ≡ whole_from (Compose 1 2) [] r) read w.2.ends.1;
      composed = subst (λ (l : List ℕ). IsComposed [] (chain ∷ []) l) (sym is) (subst (λ (r : Sources). IsComposedOf [] r.reading w.0) read (w.2.composed refl));
    }

-- ---- that nothing stops them but want of memory

-- Where all is due, and no input failed or was changed.
ends_in_memory : (the_due : Due) (stands : Due → List ℕ → Type 0) (before cut : List ℕ → Type 0) (f0 f1 : ℕ) (outcome : Outcome) (written : List ℕ) → the_due ≡ DoneWhole → CausedAgain (counts 0 0 f0) (counts 0 0 f1) outcome
    → EndsAs the_due stands before cut outcome written → EndsInMemory outcome
ends_in_memory the_due stands before cut f0 f1 ended.Done written whole cause ends = tt
ends_in_memory the_due stands before cut f0 f1 ended.NoMemory written whole cause ends = tt
ends_in_memory the_due stands before cut f0 f1 ended.OutputFault written whole cause ends = tt
ends_in_memory the_due stands before cut f0 f1 ended.InputFault written whole cause ends = omega (arith, cause)
ends_in_memory the_due stands before cut f0 f1 (ended.InputChanged file place) written whole cause ends = omega (arith, cause)
ends_in_memory the_due stands before cut f0 f1 (ended.Refused verdict) written whole cause ends = never (sym whole ∙ ends.0)
  where
    never : DoneWhole ≡ RefusedAt (verdict_meant verdict) → ⊥
    never q = cc
ends_in_memory the_due stands before cut f0 f1 (ended.InputTooLong file) written whole cause ends = never (sym whole ∙ ends.0)
  where
    never : DoneWhole ≡ TooLong file → ⊥
    never q = cc
ends_in_memory the_due stands before cut f0 f1 (ended.TooMuch sum) written whole cause ends = never (sym whole ∙ ends.0)
  where
    never : DoneWhole ≡ TooMuch sum → ⊥
    never q = cc

once_again : (f0 f1 : ℕ) (outcome : Outcome) → Caused 0 0 f0 f1 outcome → CausedAgain (counts 0 0 f0) (counts 0 0 f1) outcome
once_again f0 f1 ended.Done cause = cause
once_again f0 f1 ended.NoMemory cause = cause
once_again f0 f1 ended.OutputFault cause = cause
once_again f0 f1 ended.InputFault cause = cause
once_again f0 f1 (ended.InputChanged file place) cause = absurd cause
once_again f0 f1 (ended.Refused verdict) cause = cause
once_again f0 f1 (ended.InputTooLong file) cause = cause
once_again f0 f1 (ended.TooMuch sum) cause = absurd cause

pub chain_in_memory : (seed count : ℕ) (old new : List ℕ) (f0 f1 : ℕ) (outcome : Outcome) → Caused 0 0 f0 f1 outcome → Wrote (Some old) (Some new) (λ written. Ends (Gen count seed) [] [] outcome written) → EndsInMemory outcome
unfolding due
chain_in_memory seed count old new f0 f1 outcome cause wrote =
    ends_in_memory (due (Gen count seed) [] []) (EndSays (Gen count seed) [] []) (StandsBefore (Gen count seed) [] []) (StandsCut (Gen count seed) [] []) f0 f1 outcome wrote.0 refl (once_again f0 f1 outcome cause) wrote.2

pub composed_in_memory : (seed count : ℕ) → 1 ≤ count → count ≤ 4_096 → (table : List (List ℕ × List ℕ)) (names : List (List ℕ)) (given : Overrides) (chain old new : List ℕ) (f0 f1 : ℕ) (outcome : Outcome) → chain ≡ chain_of seed count
    → table ≡ alone chain → names ≡ codes "chain" ∷ [] → given ≡ [] → CausedAgain (counts 0 0 f0) (counts 0 0 f1) outcome
    → IfAllTold (Some table) names (λ told. Wrote (Some old) (Some new) (ComposeEnds [] given told outcome)) → EndsInMemory outcome
composed_in_memory seed count some few table names given chain old new f0 f1 outcome is table_is names_are no_names cause wrote =
    let w : Wrote (Some old) (Some new) (ComposeEnds [] given (chain ∷ []) outcome) = told_alone table names chain (λ told. Wrote (Some old) (Some new) (ComposeEnds [] given told outcome)) table_is names_are wrote in
    let whole : due_of (Compose 1 2) [] (sources_with given (chain ∷ [])) ≡ DoneWhole =
    ap (due_of (Compose 1 2) []) (read_plain given chain no_names) ∙ ap (λ (c : List ℕ). compose_due [] (c ∷ [])) is ∙ chain_due seed count some few in
    let read : Sources = sources_with given (chain ∷ []) in
    ends_in_memory (due_of (Compose 1 2) [] read) (EndSaysOf (Compose 1 2) [] read) (StandsBeforeOf (Compose 1 2) [] read) (StandsCutOf (Compose 1 2) [] read) f0 f1 outcome w.0 whole cause w.2.ends

-- The file was counted.
pub file_counted : (table : List (List ℕ × List ℕ)) (bytes : List ℕ) (counted : Counted) → table ≡ alone bytes → FileCounted counted (file_at table (codes "chain")) → FileCounted counted bytes
file_counted table bytes counted table_is c = subst (λ (file : List ℕ). FileCounted counted file) (ap (λ (t : List (List ℕ × List ℕ)). file_at t (codes "chain")) table_is ∙ found bytes) c

-- It can be counted.
pub file_countable : (table : List (List ℕ × List ℕ)) (bytes : List ℕ) → table ≡ alone bytes → IsCountable bytes → IsCountable (file_at table (codes "chain"))
file_countable table bytes table_is c = subst IsCountable (sym (ap (λ (t : List (List ℕ × List ℕ)). file_at t (codes "chain")) table_is ∙ found bytes)) c

pub same_table : (old new : List (List ℕ × List ℕ)) (bytes : List ℕ) → Some new ≡ Some old → old ≡ alone bytes → new ≡ alone bytes
same_table old new bytes same is = ap (λ (o : Option (List (List ℕ × List ℕ))). elim o [ None ↦ old | Some table ↦ table ]) same ∙ is

-- ---- the numbers

count_commands : (items : List Item) → length (commands_of items) ≡ length items
count_commands [] = refl
count_commands (item ∷ items) = ap suc (count_commands items)

module _ (seed count : ℕ) (some : 1 ≤ count) (few : count ≤ 4_096) (chain written : List ℕ) where
  due_here : chain ≡ chain_of seed count → IsDone chain written → AreDue seed count written
  due_here is done =
      let d : IsDone (chain_of seed count) written = subst (λ (c : List ℕ). IsDone c written) is done in
      numbers_are_due seed count some few written d.due_is d.all d.composed

  -- Both files can be counted.
  pub chain_countable : chain ≡ chain_of seed count → IsCountable chain
  chain_countable is = subst IsCountable (sym is) (chain_counts seed count some few)

  pub stream_countable : chain ≡ chain_of seed count → IsDone chain written → IsCountable written
  stream_countable is done =
      let d : IsDone (chain_of seed count) written = subst (λ (c : List ℕ). IsDone c written) is done in
      composed_counts seed count some few written d.composed (due_here is done)

module _ (seed count : ℕ) (some : 1 ≤ count) (few : count ≤ 4_096) (chain written : List ℕ) (read wrote : Counted) where
  literal_here : chain ≡ chain_of seed count → FileCounted read chain → read.literal ≡ literal (commands_of (reads 1 (chain_of seed count)).items)
  literal_here is counted = counted.counts.literal_is ∙ ap (λ (c : List ℕ). literal (commands_of (reads 1 c).items)) is

  -- The stream has the bytes of the chain, and those of redirected clones.
  pub no_fewer : chain ≡ chain_of seed count → IsDone chain written → FileCounted read chain → FileCounted wrote written → read.literal ≤ wrote.literal
  no_fewer is done counted counted_after =
      let d = due_here seed count some few chain written is done in
      let l = literal_here is counted in
      omega (arith, d.literal_is, l, counted_after.counts.literal_is)

  pub are_numbers : chain ≡ chain_of seed count → IsDone chain written → FileCounted read chain → FileCounted wrote written
      → AreNumbers seed count (record { commands = read.commands; input = length chain; output = length written; clones = wrote.clones; redirected = wrote.literal - read.literal })
  are_numbers is done counted counted_after =
      let d = due_here seed count some few chain written is done in
      let l = literal_here is counted in
      let len = counted.counts.commands_are ∙ count_commands (reads 1 chain).items ∙ ap (λ (c : List ℕ). length (reads 1 c).items) is in
      record {
        commands = len ∙ d.commands;
        input = ap length is;
        output = ap length d.output;
        clones_are = counted_after.counts.clones_are ∙ d.clones_are;
        redirected = omega (arith, d.literal_is, l, counted_after.counts.literal_is);
      }

-- ---- the line

line_is : (seed count : ℕ) (n : Numbers) → AreNumbers seed count n → line_text count n ≡ trial_line seed count
unfolding trial_line
line_is seed count n a =
    λ i. codes "trial " ++ decimal count ++ 0x20 ∷ decimal (a.commands i) ++ 0x20 ∷ decimal (a.input i) ++ 0x20 ∷ decimal (a.output i)
    ++ 0x20 ∷ decimal (a.clones_are i) ++ 0x20 ∷ decimal (a.redirected i) ++ 0x0a ∷ []

-- The line is written, or a part of it.
pub line_written : (seed count : ℕ) (n : Numbers) (line : List ℕ) (old new : Option (List ℕ)) → line ≡ line_text count n → AreNumbers seed count n → Appends old new line
    → Wrote old new (λ written. Ends (Trial count seed) [] [] ended.Done written)
unfolding due whole_of
line_written seed count n line old new is numbers wrote = (line, wrote, (refl, is ∙ line_is seed count n numbers))

pub line_cut : (seed count : ℕ) (n : Numbers) (line : List ℕ) (old new : Option (List ℕ)) → line ≡ line_text count n → AreNumbers seed count n → AppendsPart old new line
    → Wrote old new (λ written. Ends (Trial count seed) [] [] ended.OutputFault written)
line_cut seed count n line old new is numbers (some, less, wrote) =
    let all = is ∙ line_is seed count n numbers in
    (take some line, wrote, record { count = some; within = omega (arith, less, ap length all); written_is = ap (take some) all })
