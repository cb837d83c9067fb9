use Rattle.std.specs.Prelude.{◌≡◌, ◌∷◌, ◌++◌, []}
use Rattle.std.specs.Option.{option_map}
use Rattle.std.specs.String.{string_bytes}
use Rattle.std.proofs.Common.{ℕ, List, ◌+◌, map, drop, sym, ap, ◌∙◌, arith}
use Rattle.std.proofs.lemmas.List.{map-append, drop_all, length-map}
use Rattle.send_model.specs.Guards.{Guard, guard_of}
use Rattle.send_model.specs.Words.{new_guards}
use Rattle.guard_rules.specs.AnyKind.{any_kept}
use Rattle.guard_rules.specs.Meaning.{spec_meant}
use Rattle.command_line.specs.Given.{guards_in}
use Rattle.command_line.proofs.Places.{word_here}
use Rattle.command_line.proofs.GuardsBeside.{made_one, made_none, made_all}
use Rattle.command_line.proofs.guard_arguments.guards_among.Goals.{in-Some+in_ok-push, in_default}
use Rattle.command_line.proofs.guard_arguments.guards_among.Goals as goal

pub loop-place-preserved : goal.loop-place-preserved
loop-place-preserved c =
    let words : List (List ℕ) = map string_bytes c.args.words.now in
    let all : List Guard = new_guards (guards_in words) in
    let made : List Guard = map any_kept c.loop-place.guards.items in
    let text : List ℕ = string_bytes c.index-words-place.result in
    let left : List (List ℕ) = drop c.loop-place.place words in
    let rest : List (List ℕ) = drop (c.loop-place.place + 1) words in
    let here = word_here string_bytes c.args.words.now c.loop-place.place c.index-words-place.result c.loop-place-test.true c.index-words-place.is in
    let said : guard_of text ≡ option_map spec_meant c.parse_guard.result = ap (λ (word : List ℕ). guard_of word) (sym c.as_str.ensures.value) ∙ sym c.parse_guard.ensures in
    elim c.match-parse_guard.branch [
      | in-Some+in_ok-push w ↦
          ap (λ (l : List Guard). l ++ new_guards (guards_in rest))
          (ap (λ v. map any_kept v.items) w.guards-is ∙ ap (map any_kept) w.in_ok-push.ensures.items ∙ map-append any_kept c.loop-place.guards.items (w.new.result ∷ [])
          ∙ ap (λ (guard : Guard). made ++ guard ∷ []) w.new.ensures)
          ∙ made_one made all left rest text (spec_meant w.in-Some.spec) here (said ∙ ap (option_map spec_meant) w.in-Some.is) c.loop-place.invariant
      | in_default w ↦
          ap (λ v. map any_kept v.items ++ new_guards (guards_in rest)) w.guards-is
          ∙ made_none made all left rest text here (said ∙ ap (option_map spec_meant) w.in_default.is) c.loop-place.invariant
    ]

pub returns : goal.returns
returns c =
    let words : List (List ℕ) = map string_bytes c.args.words.now in
    let past = c.loop-place-test.false in
    made_all (map any_kept c.loop-place.guards.items) (new_guards (guards_in words)) (drop c.loop-place.place words)
    (drop_all c.loop-place.place words (omega (arith, past, length-map c.args.words.now string_bytes))) c.loop-place.invariant
