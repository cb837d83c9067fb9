use Rattle.std.specs.Prelude.{◌≡◌, ℕ, ◌+◌, List, map, drop, length}
use Rattle.std.specs.Option.{option_map}
use Rattle.std.specs.String.{string_bytes}
use Rattle.std.proofs.Common.{sym, ap, ◌∙◌, arith, subst}
use Rattle.std.proofs.lemmas.Bool.{false≢true, eqb-true, eq-eqb}
use Rattle.std.proofs.lemmas.List.{drop_all, length-map, length-drop}
use Rattle.send_model.specs.Guards.{Guard, guard_of}
use Rattle.send_model.specs.Words.{new_guards}
use Rattle.guard_rules.specs.Meaning.{spec_meant}
use Rattle.command_line.specs.Given.{guards_in}
use Rattle.command_line.proofs.GuardsBeside.{Fit, fit_start, fit_other, fit_guard, fit_not, fit_ended, fit_end}
use Rattle.command_line.proofs.Places.{word_here}
use Rattle.command_line.proofs.guard_arguments.are_those_among.Goals.{in-Some+else-at-guards+else-not-is_new, in_default}
use Rattle.command_line.proofs.guard_arguments.are_those_among.Goals as goal

pub loop-place-init : goal.loop-place-init
loop-place-init g c =
    (fit_start (map (λ b. (goal.Guard-dyn g (b.vtable, b.value)).kept b.value) c.args.guards.now) (map string_bytes c.args.words.now), omega arith)

pub returns-then-at-guards : goal.returns-then-at-guards
returns-then-at-guards g c =
    let guards : List Guard = map (λ b. (goal.Guard-dyn g (b.vtable, b.value)).kept b.value) c.args.guards.now in
    let words : List (List ℕ) = map string_bytes c.args.words.now in
    let full = c.if-at-guards.true in
    let here = word_here string_bytes c.args.words.now c.loop-place.place c.index-words-place.result c.loop-place-test.true c.index-words-place.is in (
      (λ e. absurd (false≢true e)),
      (λ those. absurd (fit_ended guards (new_guards (guards_in words)) c.loop-place.at (drop c.loop-place.place words) (drop (c.loop-place.place + 1) words) (string_bytes c.index-words-place.result) (spec_meant c.in-Some.spec)
          here
          (ap (λ (w : List ℕ). guard_of w) (sym c.as_str.ensures.value) ∙ sym c.parse_guard.ensures ∙ ap (option_map spec_meant) c.in-Some.is)
          (drop_all c.loop-place.at guards (omega (arith, full, length-map c.args.guards.now (λ b. (goal.Guard-dyn g (b.vtable, b.value)).kept b.value))))
          c.loop-place.invariant.0 those)),
    )

pub returns-then-not-is_new : goal.returns-then-not-is_new
returns-then-not-is_new g c =
    let guards : List Guard = map (λ b. (goal.Guard-dyn g (b.vtable, b.value)).kept b.value) c.args.guards.now in
    let words : List (List ℕ) = map string_bytes c.args.words.now in
    let some = c.if-at-guards.false in
    let most = c.loop-place.invariant.1 in
    let here = word_here string_bytes c.args.words.now c.loop-place.place c.index-words-place.result c.loop-place-test.true c.index-words-place.is in (
      (λ e. absurd (false≢true e)),
      (λ those. absurd (fit_not guards (new_guards (guards_in words)) c.loop-place.at (drop c.loop-place.place words) (drop (c.loop-place.place + 1) words) (string_bytes c.index-words-place.result) (spec_meant c.in-Some.spec)
          ((goal.Guard-dyn g (c.index-guards-at.result.vtable, c.index-guards-at.result.value)).kept c.index-guards-at.result.value)
          here
          (ap (λ (w : List ℕ). guard_of w) (sym c.as_str.ensures.value) ∙ sym c.parse_guard.ensures ∙ ap (option_map spec_meant) c.in-Some.is)
          (word_here (λ b. (goal.Guard-dyn g (b.vtable, b.value)).kept b.value) c.args.guards.now c.loop-place.at c.index-guards-at.result (omega (arith, some, most)) c.index-guards-at.is)
          (λ e. absurd (false≢true (sym c.if-not-is_new.true ∙ c.is_new.ensures.1 e)))
          c.loop-place.invariant.0 those)),
    )

pub loop-place-preserved : goal.loop-place-preserved
loop-place-preserved g c =
    let guards : List Guard = map (λ b. (goal.Guard-dyn g (b.vtable, b.value)).kept b.value) c.args.guards.now in
    let words : List (List ℕ) = map string_bytes c.args.words.now in
    let all : List Guard = new_guards (guards_in words) in
    let text : List ℕ = string_bytes c.index-words-place.result in
    let left : List (List ℕ) = drop c.loop-place.place words in
    let rest : List (List ℕ) = drop (c.loop-place.place + 1) words in
    let most = c.loop-place.invariant.1 in
    let here = word_here string_bytes c.args.words.now c.loop-place.place c.index-words-place.result c.loop-place-test.true c.index-words-place.is in
    let said : guard_of text ≡ option_map spec_meant c.parse_guard.result = ap (λ (word : List ℕ). guard_of word) (sym c.as_str.ensures.value) ∙ sym c.parse_guard.ensures in
    elim c.match-parse_guard.branch [
      | in-Some+else-at-guards+else-not-is_new w ↦
          let some = w.if-at-guards.false in (
            subst (λ (n : ℕ). Fit guards n rest all) (sym w.at-is)
                (fit_guard guards all c.loop-place.at left rest text (spec_meant w.in-Some.spec)
                ((goal.Guard-dyn g (w.index-guards-at.result.vtable, w.index-guards-at.result.value)).kept w.index-guards-at.result.value)
                here
                (said ∙ ap (option_map spec_meant) w.in-Some.is)
                (word_here (λ b. (goal.Guard-dyn g (b.vtable, b.value)).kept b.value) c.args.guards.now c.loop-place.at w.index-guards-at.result (omega (arith, some, most)) w.index-guards-at.is)
                (w.is_new.ensures.0 w.if-not-is_new.false)
                c.loop-place.invariant.0),
            let at = w.at-is in omega (arith, some, most, at),
          )
      | in_default w ↦ (
        subst (λ (n : ℕ). Fit guards n rest all) (sym w.at-is)
            (fit_other guards all c.loop-place.at left rest text here (said ∙ ap (option_map spec_meant) w.in_default.is) c.loop-place.invariant.0),
        let at = w.at-is in omega (arith, most, at),
      )
    ]

pub returns : goal.returns
returns g c =
    let guards : List Guard = map (λ b. (goal.Guard-dyn g (b.vtable, b.value)).kept b.value) c.args.guards.now in
    let words : List (List ℕ) = map string_bytes c.args.words.now in
    let count = length-map c.args.guards.now (λ b. (goal.Guard-dyn g (b.vtable, b.value)).kept b.value) in
    let most = c.loop-place.invariant.1 in
    let past = c.loop-place-test.false in
    let fits = fit_end guards (new_guards (guards_in words)) c.loop-place.at (drop c.loop-place.place words)
    (drop_all c.loop-place.place words (omega (arith, past, length-map c.args.words.now string_bytes))) c.loop-place.invariant.0 in (
      (λ e. fits.1 (drop_all c.loop-place.at guards (omega (arith, count, eqb-true c.loop-place.at (length c.args.guards.now) e)))),
      (λ those. eq-eqb c.loop-place.at (length c.args.guards.now) (omega (arith, most, count, length-drop c.loop-place.at guards, ap (λ (l : List Guard). length l) (fits.0 those)))),
    )
