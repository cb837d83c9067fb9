use Rattle.std.specs.Prelude.{◌≡◌, ℕ, ◌+◌, List, map, drop, Option, None, Some, true, false, is_some}
use Rattle.std.specs.Option.{option_map}
use Rattle.std.specs.String.{string_bytes}
use Rattle.std.proofs.Common.{refl, sym, ap, ◌∙◌}
use Rattle.send_model.specs.Guards.{guard_of, is_guard_word}
use Rattle.guard_rules.specs.Meaning.{spec_meant}
use Rattle.command_line.proofs.Places.{word_here}
use Rattle.command_line.proofs.Splitting.{passed_guard, split_wrong, split_here}
use Rattle.command_line.proofs.arguments.guards_end.Goals as goal

pub returns-then-not-is_guard_word-clause-split : goal.returns-then-not-is_guard_word-clause-split
returns-then-not-is_guard_word-clause-split c =
    let words : List (List ℕ) = map string_bytes c.args.words.now in
    sym (split_here words (drop (c.loop-place.place + 1) words) c.loop-place.place (string_bytes c.index-words-place.result)
    (word_here string_bytes c.args.words.now c.loop-place.place c.index-words-place.result c.loop-place-test.true c.index-words-place.is)
    (ap (λ (w : List ℕ). is_guard_word w) (sym c.as_str-word.ensures.value) ∙ sym c.is_guard_word.ensures ∙ c.if-not-is_guard_word.true)
    c.loop-place.invariant)

means_none : {S T : Type 0} (meant : S → T) (o : Option S) → is_some o ≡ false → option_map meant o ≡ None
means_none meant None is = refl
means_none meant (Some said) is = cc

means_some : {S T : Type 0} (meant : S → T) (o : Option S) → is_some o ≡ true → (one : T) × (option_map meant o ≡ Some one)
means_some meant None is = cc
means_some meant (Some said) is = (meant said, refl)

pub returns-then-is_none-clause-split : goal.returns-then-is_none-clause-split
returns-then-is_none-clause-split c =
    let words : List (List ℕ) = map string_bytes c.args.words.now in
    sym (split_wrong words (drop (c.loop-place.place + 1) words) c.loop-place.place (string_bytes c.index-words-place.result)
    (word_here string_bytes c.args.words.now c.loop-place.place c.index-words-place.result c.loop-place-test.true c.index-words-place.is)
    (ap (λ (w : List ℕ). is_guard_word w) (sym c.as_str-word.ensures.value) ∙ sym c.is_guard_word.ensures ∙ c.if-not-is_guard_word.false)
    (ap (λ (w : List ℕ). guard_of w) (sym c.as_str-word.ensures.value) ∙ sym c.parse_guard.ensures ∙ means_none spec_meant c.parse_guard.result c.if-is_none.ensures)
    c.loop-place.invariant)

pub loop-place-preserved : goal.loop-place-preserved
loop-place-preserved c =
    let words : List (List ℕ) = map string_bytes c.args.words.now in
    let guard = means_some spec_meant c.parse_guard.result c.if-is_none.ensures in
    passed_guard words (drop (c.loop-place.place + 1) words) c.loop-place.place (string_bytes c.index-words-place.result) guard.0
    (word_here string_bytes c.args.words.now c.loop-place.place c.index-words-place.result c.loop-place-test.true c.index-words-place.is)
    refl
    (ap (λ (w : List ℕ). is_guard_word w) (sym c.as_str-word.ensures.value) ∙ sym c.is_guard_word.ensures ∙ c.if-not-is_guard_word.false)
    (ap (λ (w : List ℕ). guard_of w) (sym c.as_str-word.ensures.value) ∙ sym c.parse_guard.ensures ∙ guard.1)
    c.loop-place.invariant
