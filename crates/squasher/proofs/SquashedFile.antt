-- Squashing a file: the answer that is due, and what was written.
use Rattle.std.specs.Prelude.{◌≡◌, ℕ, List, [], ◌∷◌, ◌++◌, Option, None, Some, Result, Ok, Err}
use Rattle.std.proofs.Common.{refl, sym, ap, ap₂, subst, ◌∙◌, inl, inr, append-nil}
use Rattle.std.proofs.KnownBytes.{Appends-nil}
use Rattle.send_model.specs.Command.{Command}
use Rattle.send_model.specs.Spelling.{stream_header, canonical_all}
use Rattle.send_model.specs.Reading.{Verdict, Reading, Whole}
use Rattle.send_model.specs.Order.{heads, without_parts}
use Rattle.send_model.specs.Outside.{keys_outside, FindsLawful}
use Rattle.send_model.specs.Store.{Store}
use Rattle.send_model.specs.Receive.{start_of, first_of}
use Rattle.send_model.specs.Headline.{IsProperFrontOf}
use Rattle.send_model.specs.Due.{DoneWhole, Limited, Stop, AtEnd, AtFault, AtLimit, refused_due}
use Rattle.send_model.specs.Overridden.{Override}
use Rattle.sx_base.specs.Asks.{Ask, IsReadOnce, AreReadOnce, AreReadTwice, AreReadWithRanges}
use Rattle.sx_base.specs.Calls.{Wrote}
use Rattle.sx_base.specs.declared.outcome.Outcome.{Outcome}
use Rattle.sx_base.specs.declared.outcome.Outcome.TheVariants as ended
use Rattle.sx_base.proofs.Asking.{read_first, read_no_range, once_none, once_one}
use Rattle.cmd_reader.specs.Places.{IfTold}
use Rattle.cmd_reader.proofs.Told.{told_map, told_both}
use Rattle.squash_model.specs.SquashedStreams.{squashed_output, IsSquashedOf}
use Rattle.squash_model.specs.SquashJudge.{nothing_passed, judge_one, squash_judge, squash_output_for}
use Rattle.squash_model.proofs.Judged.{judged_is_squashed}
use Rattle.squash_log.specs.Resolved.{by_fates}
use Rattle.squasher.specs.declared.judging.Judged.{Judged}
use Rattle.squash_model.specs.SquashDues.{own_base, IsPartlySquashed, squash_due, stop_or, verdict_or}
use Rattle.squasher.specs.Judging.{HaveSameShape, read_with}
use Rattle.squasher.specs.Squashing.{Stops, IsFound, JudgeEnds, SquashEnds}
use Rattle.squasher.specs.Writing.{output_by, WriteEnds, IsOfOutside}
use Rattle.squasher.proofs.WrittenFile.{fates_end}

-- ---- what is asked

-- A file that is read once is read without ranges.
once_ranges : (told : Option (List (List ℕ × List ℕ))) (name : List ℕ) (asks : List Ask) → IsReadOnce name asks → AreReadWithRanges told (name ∷ []) asks
once_ranges told name asks (to, on) = record {
  once = subst (AreReadOnce (name ∷ [])) (sym (read_first name 0 asks to on)) (once_one name asks (to, on));
  ranges = read_no_range told (name ∷ []) name 0 asks to on;
}

pub read_twice : (told : Option (List (List ℕ × List ℕ))) (name : List ℕ) (xs ys : List Ask) → IsReadOnce name xs → IsReadOnce name ys → AreReadTwice told (name ∷ []) (xs ++ ys)
read_twice told name xs ys first then = (xs, ys, refl, once_one name xs first, once_ranges told name ys then)

pub read_one_time : (told : Option (List (List ℕ × List ℕ))) (name : List ℕ) (xs : List Ask) → IsReadOnce name xs → AreReadTwice told (name ∷ []) xs
read_one_time told name xs first = (xs, [], sym (append-nil xs), once_one name xs first, record { once = once_none (name ∷ []); ranges = tt })

-- ---- where all is due

record IsClean (base : Store ℕ) (l : Limited) : Type 0 where
  judged : judge_one (start_of base) nothing_passed l.items ≡ None
  some : without_parts l.items (heads l.items) ≡ None

clean : (base : Store ℕ) (l : Limited) → squash_due base l ≡ DoneWhole → IsClean base l
clean base l e = one (judge_one (start_of base) nothing_passed l.items) refl l.stop (without_parts l.items (heads l.items)) refl e
  where
    one : (o : Option Verdict) → judge_one (start_of base) nothing_passed l.items ≡ o → (s : Stop) (p : Option Verdict) → without_parts l.items (heads l.items) ≡ p → verdict_or o (stop_or s (refused_due p)) ≡ DoneWhole → IsClean base l
    one (Some v) q s p h f = cc
    one None q AtEnd None h f = record { judged = q; some = h }
    one None q AtEnd (Some v) h f = cc
    one None q (AtFault v) p h f = cc
    one None q (AtLimit file) p h f = cc

module _ (base : Store ℕ) (l : Limited) (found : Judged) (f : IsFound base l found) where
  output_is : output_by found l.items ≡ squashed_output base l.items
  output_is =
      ap₂ (λ (v : ℕ) (cs : List Command). stream_header v ++ canonical_all v cs) f.version
      (ap (by_fates found.fates) f.front_is ∙ fates_end found.fates f.front ∙ f.squashed)

  promised : FindsLawful base (keys_outside l.items) → IsSquashedOf base (record { items = l.items; end = Whole }) (squashed_output base l.items)
  promised lawful =
      let reading : Reading = record { items = l.items; end = Whole } in
      let c = clean base l f.done in
      let none : squash_judge base reading ≡ None = ap₂ (λ (o p : Option Verdict). first_of o (first_of None p)) c.judged c.some in
      subst (λ (v : Option Verdict). IsSquashedOf base reading (squash_output_for v base l.items)) none
      (judged_is_squashed base reading (record { whole = refl; others = f.front; ends = f.front_is; writable = f.writable }) none lawful)

  pub all_written : FindsLawful base (keys_outside l.items) → (written : List ℕ) → written ≡ output_by found l.items → SquashEnds base l ended.Done written
  all_written lawful written is = record {
    ends = (f.done, is ∙ output_is);
    squashed = λ e. subst (IsSquashedOf base (record { items = l.items; end = Whole })) (sym (is ∙ output_is)) (promised lawful);
  }

  pub some_written : (outcome : Outcome) (written : List ℕ) → WriteEnds found l.items (Err outcome) written → SquashEnds base l outcome written
  some_written outcome written (outside, front) = one outcome outside
    where
      unfinished : IsPartlySquashed base l written
      unfinished = inr (f.done, subst (λ (all : List ℕ). IsProperFrontOf all written) output_is front)

      one : (x : Outcome) → IsOfOutside x → SquashEnds base l x written
      one ended.InputFault o = record { ends = unfinished; squashed = λ e. cc }
      one ended.OutputFault o = record { ends = unfinished; squashed = λ e. cc }
      one ended.NoMemory o = record { ends = unfinished; squashed = λ e. cc }
      one ended.Done o = absurd o
      one (ended.Refused verdict) o = absurd o
      one (ended.InputTooLong file) o = absurd o
      one (ended.TooMuch sum) o = absurd o
      one (ended.InputChanged file place) o = absurd o

-- Nothing was written where it was not judged to its end.
none_written : (base : Store ℕ) (l : Limited) (outcome : Outcome) → Stops (squash_due base l) outcome → SquashEnds base l outcome []
none_written base l (ended.Refused verdict) stops = record { ends = (stops, refl); squashed = λ e. cc }
none_written base l (ended.InputTooLong file) stops = record { ends = (stops, refl); squashed = λ e. cc }
none_written base l ended.InputFault stops = record { ends = inl refl; squashed = λ e. cc }
none_written base l ended.NoMemory stops = record { ends = inl refl; squashed = λ e. cc }
none_written base l (ended.TooMuch sum) stops = absurd stops
none_written base l (ended.InputChanged file place) stops = absurd stops
none_written base l ended.OutputFault stops = absurd stops
none_written base l ended.Done stops = absurd stops

-- ---- the call

-- What is squashed over.
abbrev Over : Store ℕ → Override → ℕ → List ℕ → Store ℕ
Over store said file bytes = own_base store (read_with said file bytes).items

-- What is known over each base is known at once over all of them.
told_each : (told : Option (List (List ℕ × List ℕ))) (name : List ℕ) (P : Store ℕ → List ℕ → Type 0) → ((base : Store ℕ) → IfTold told name (P base)) → IfTold told name (λ bytes. (base : Store ℕ) → P base bytes)
told_each None name P known = tt
told_each (Some files) name P known = λ file same base. known base file same

pub squash_stops : {C : Type 0} (told : Option (List (List ℕ × List ℕ))) (name : List ℕ) (core : Store C) (said : Override) (file : ℕ) (taken : Option (List ℕ)) (r : Result Judged Outcome) (outcome : Outcome) → r ≡ Err outcome
    → IfTold told name (JudgeEnds core said file r) → (store : Store ℕ) → HaveSameShape core store
    → IfTold told name (λ bytes. FindsLawful (Over store said file bytes) (keys_outside (read_with said file bytes).items) → Wrote taken taken (SquashEnds (Over store said file bytes) (read_with said file bytes) outcome))
squash_stops told name core said file taken r outcome e judged store shape =
    told_map told name (JudgeEnds core said file (Err outcome)) (λ bytes. FindsLawful (Over store said file bytes) (keys_outside (read_with said file bytes).items) → Wrote taken taken (SquashEnds (Over store said file bytes) (read_with said file bytes) outcome))
    (λ bytes stops lawful. ([], Appends-nil taken, none_written (Over store said file bytes) (read_with said file bytes) outcome (stops store shape)))
    (subst (λ (x : Result Judged Outcome). IfTold told name (JudgeEnds core said file x)) e judged)

pub squash_ends : {C : Type 0} (told now : Option (List (List ℕ × List ℕ))) (name : List ℕ) (core : Store C) (said : Override) (file : ℕ) (old new : Option (List ℕ)) (r : Result Judged Outcome) (found : Judged) (w : Result (Unit {0}) Outcome) (outcome : Outcome) → r ≡ Ok found → now ≡ told
    → IfTold told name (JudgeEnds core said file r)
    → ((base : Store ℕ) → IfTold now name (λ bytes. IsFound base (read_with said file bytes) found → Wrote old new (WriteEnds found (read_with said file bytes).items w)))
    → ((base : Store ℕ) (l : Limited) (written : List ℕ) → IsFound base l found → FindsLawful base (keys_outside l.items) → WriteEnds found l.items w written → SquashEnds base l outcome written)
    → (store : Store ℕ) → HaveSameShape core store
    → IfTold told name (λ bytes. FindsLawful (Over store said file bytes) (keys_outside (read_with said file bytes).items) → Wrote old new (SquashEnds (Over store said file bytes) (read_with said file bytes) outcome))
squash_ends told now name core said file old new r found w outcome e same judged written ends store shape =
    told_both told name (JudgeEnds core said file (Ok found)) (λ bytes. (base : Store ℕ) → IsFound base (read_with said file bytes) found → Wrote old new (WriteEnds found (read_with said file bytes).items w))
    (λ bytes. FindsLawful (Over store said file bytes) (keys_outside (read_with said file bytes).items) → Wrote old new (SquashEnds (Over store said file bytes) (read_with said file bytes) outcome))
    (λ bytes finds writes lawful.
    let f = finds store shape lawful in
    let x = writes (Over store said file bytes) f in
    (x.0, x.1, ends (Over store said file bytes) (read_with said file bytes) x.0 f lawful x.2))
    (subst (λ (x : Result Judged Outcome). IfTold told name (JudgeEnds core said file x)) e judged)
    (told_each told name (λ base bytes. IsFound base (read_with said file bytes) found → Wrote old new (WriteEnds found (read_with said file bytes).items w))
    (λ base. subst (λ (t : Option (List (List ℕ × List ℕ))). IfTold t name (λ bytes. IsFound base (read_with said file bytes) found → Wrote old new (WriteEnds found (read_with said file bytes).items w))) same (written base)))

-- All was written, or not.
pub squash_done : {C : Type 0} (told now : Option (List (List ℕ × List ℕ))) (name : List ℕ) (core : Store C) (said : Override) (file : ℕ) (old new : Option (List ℕ)) (r : Result Judged Outcome) (found : Judged) (w : Result (Unit {0}) Outcome) (done : Unit {0}) → r ≡ Ok found → now ≡ told → w ≡ Ok done
    → IfTold told name (JudgeEnds core said file r)
    → ((base : Store ℕ) → IfTold now name (λ bytes. IsFound base (read_with said file bytes) found → Wrote old new (WriteEnds found (read_with said file bytes).items w)))
    → (store : Store ℕ) → HaveSameShape core store
    → IfTold told name (λ bytes. FindsLawful (Over store said file bytes) (keys_outside (read_with said file bytes).items) → Wrote old new (SquashEnds (Over store said file bytes) (read_with said file bytes) ended.Done))
squash_done told now name core said file old new r found w done e same is judged written =
    squash_ends told now name core said file old new r found w ended.Done e same judged written
    (λ base l bytes f lawful ends. all_written base l found f lawful bytes (subst (λ (x : Result (Unit {0}) Outcome). WriteEnds found l.items x bytes) is ends))

pub squash_cut : {C : Type 0} (told now : Option (List (List ℕ × List ℕ))) (name : List ℕ) (core : Store C) (said : Override) (file : ℕ) (old new : Option (List ℕ)) (r : Result Judged Outcome) (found : Judged) (w : Result (Unit {0}) Outcome) (outcome : Outcome) → r ≡ Ok found → now ≡ told → w ≡ Err outcome
    → IfTold told name (JudgeEnds core said file r)
    → ((base : Store ℕ) → IfTold now name (λ bytes. IsFound base (read_with said file bytes) found → Wrote old new (WriteEnds found (read_with said file bytes).items w)))
    → (store : Store ℕ) → HaveSameShape core store
    → IfTold told name (λ bytes. FindsLawful (Over store said file bytes) (keys_outside (read_with said file bytes).items) → Wrote old new (SquashEnds (Over store said file bytes) (read_with said file bytes) outcome))
squash_cut told now name core said file old new r found w outcome e same is judged written =
    squash_ends told now name core said file old new r found w outcome e same judged written
    (λ base l bytes f lawful ends. some_written base l found f outcome bytes (subst (λ (x : Result (Unit {0}) Outcome). WriteEnds found l.items x bytes) is ends))
