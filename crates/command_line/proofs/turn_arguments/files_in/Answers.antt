use Rattle.std.specs.Prelude.{◌≡◌, ℕ, List, ◌+◌, ◌-◌, ◌<◌, map, length, None, Some}
use Rattle.std.specs.Option.{option_map}
use Rattle.std.specs.String.{string_bytes}
use Rattle.std.proofs.Common.{sym, ap, subst, ◌∙◌, arith}
use Rattle.std.proofs.lemmas.List.{drop_all, length-map}
use Rattle.send_model.specs.Guards.{guard_of, is_guard_word}
use Rattle.guard_rules.specs.Meaning.{spec_meant}
use Rattle.program_model.specs.TurnWords.{TurnFiles, turn_files}
use Rattle.program_model.proofs.TurnGuards.{Counted, counted_none, counted_file, counted_guard, unsaid, no_file_behind}
use Rattle.command_line.proofs.Places.{word_here}
use Rattle.command_line.proofs.turn_arguments.files_in.Goals as goal

back : (place : ℕ) → 0 < place → place - 1 + 1 ≡ place
back place some = omega (arith, some)

counted_back : {words : List (List ℕ)} {count : ℕ} (place : ℕ) → 0 < place → Counted words place count → Counted words (place - 1 + 1) count
counted_back {words} {count} place some c = subst (λ (n : ℕ). Counted words n count) (sym (back place some)) c

none_counted : (words : List (List ℕ)) → turn_files words ≡ None → None ≡ option_map (λ (turns : TurnFiles). length turns.files) (turn_files words)
none_counted words none = sym (ap (option_map (λ (turns : TurnFiles). length turns.files)) none)

pub loop-place-init : goal.loop-place-init
loop-place-init c =
    (counted_none (map string_bytes c.args.words.now) _ (drop_all _ (map string_bytes c.args.words.now) (omega (arith, length-map c.args.words.now string_bytes))), omega arith)

pub loop-place-preserved-then-not-is_guard_word : goal.loop-place-preserved-then-not-is_guard_word
loop-place-preserved-then-not-is_guard_word c =
    let words : List (List ℕ) = map string_bytes c.args.words.now in
    let within = c.loop-place.invariant.1 in
    let some = c.loop-place-test.true in (
      counted_file words (c.loop-place.place - 1) c.loop-place.files (string_bytes c.index-words-place.result)
          (word_here string_bytes c.args.words.now (c.loop-place.place - 1) c.index-words-place.result (omega (arith, within, some)) c.index-words-place.is)
          (ap (λ (w : List ℕ). is_guard_word w) (sym c.as_str-word.ensures.value) ∙ sym c.is_guard_word.ensures ∙ c.if-not-is_guard_word.true)
          (counted_back c.loop-place.place some c.loop-place.invariant.0),
      omega (arith, within, some),
    )

pub returns-in_err-parse_guard : goal.returns-in_err-parse_guard
returns-in_err-parse_guard c =
    let words : List (List ℕ) = map string_bytes c.args.words.now in
    let within = c.loop-place.invariant.1 in
    let some = c.loop-place-test.true in
    c.from_residual.ensures ∙ none_counted words
    (unsaid words (c.loop-place.place - 1) c.loop-place.files (string_bytes c.index-words-place.result)
    (word_here string_bytes c.args.words.now (c.loop-place.place - 1) c.index-words-place.result (omega (arith, within, some)) c.index-words-place.is)
    (ap (λ (w : List ℕ). is_guard_word w) (sym c.as_str-word.ensures.value) ∙ sym c.is_guard_word.ensures ∙ c.if-not-is_guard_word.false)
    (ap (λ (w : List ℕ). guard_of w) (sym c.as_str-word.ensures.value) ∙ sym c.parse_guard.ensures ∙ ap (option_map spec_meant) c.in_err-parse_guard.was)
    (counted_back c.loop-place.place some c.loop-place.invariant.0))

pub returns-then-files-eq0 : goal.returns-then-files-eq0
returns-then-files-eq0 c =
    let words : List (List ℕ) = map string_bytes c.args.words.now in
    let within = c.loop-place.invariant.1 in
    let some = c.loop-place-test.true in
    none_counted words
    (no_file_behind words (c.loop-place.place - 1) (string_bytes c.index-words-place.result) (spec_meant c.in_ok-parse_guard.field-0)
    (word_here string_bytes c.args.words.now (c.loop-place.place - 1) c.index-words-place.result (omega (arith, within, some)) c.index-words-place.is)
    (ap (λ (w : List ℕ). is_guard_word w) (sym c.as_str-word.ensures.value) ∙ sym c.is_guard_word.ensures ∙ c.if-not-is_guard_word.false)
    (ap (λ (w : List ℕ). guard_of w) (sym c.as_str-word.ensures.value) ∙ sym c.parse_guard.ensures ∙ ap (option_map spec_meant) c.in_ok-parse_guard.was)
    (subst (λ (n : ℕ). Counted words (c.loop-place.place - 1 + 1) n) c.if-files-eq0.true (counted_back c.loop-place.place some c.loop-place.invariant.0)))

pub loop-place-preserved : goal.loop-place-preserved
loop-place-preserved c =
    let words : List (List ℕ) = map string_bytes c.args.words.now in
    let within = c.loop-place.invariant.1 in
    let some = c.loop-place-test.true in
    let any = c.if-files-eq0.false in (
      counted_guard words (c.loop-place.place - 1) c.loop-place.files (string_bytes c.index-words-place.result) (spec_meant c.in_ok-parse_guard.field-0)
          (word_here string_bytes c.args.words.now (c.loop-place.place - 1) c.index-words-place.result (omega (arith, within, some)) c.index-words-place.is)
          (ap (λ (w : List ℕ). is_guard_word w) (sym c.as_str-word.ensures.value) ∙ sym c.is_guard_word.ensures ∙ c.if-not-is_guard_word.false)
          (ap (λ (w : List ℕ). guard_of w) (sym c.as_str-word.ensures.value) ∙ sym c.parse_guard.ensures ∙ ap (option_map spec_meant) c.in_ok-parse_guard.was)
          (omega (arith, any))
          (counted_back c.loop-place.place some c.loop-place.invariant.0),
      omega (arith, within, some),
    )

pub returns : goal.returns
returns c =
    let words : List (List ℕ) = map string_bytes c.args.words.now in
    let over = c.loop-place-test.false in
    let all : Counted words 0 c.loop-place.files = subst (λ (n : ℕ). Counted words n c.loop-place.files) (omega (arith, over)) c.loop-place.invariant.0 in
    sym (ap (option_map (λ (turns : TurnFiles). length turns.files)) all.is ∙ ap (λ (n : ℕ). Some n) (sym all.many))
