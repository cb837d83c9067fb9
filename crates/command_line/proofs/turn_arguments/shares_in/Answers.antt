use Rattle.std.specs.Prelude.{◌≡◌, ℕ, ◌+◌, List, ◌∷◌, map, drop}
use Rattle.std.specs.String.{string_bytes}
use Rattle.std.proofs.Common.{sym, ap, subst, ◌∙◌, arith}
use Rattle.std.proofs.lemmas.List.{drop_all, length-map}
use Rattle.send_model.specs.Guards.{is_guard_word}
use Rattle.command_line.specs.Given.{turns_among}
use Rattle.command_line.proofs.Places.{word_here}
use Rattle.command_line.proofs.TurnsAmong.{AreShared, shared_file, shared_guard, shared_end}
use Rattle.command_line.proofs.turn_arguments.shares_in.Goals.{then-is_guard_word, else-is_guard_word+in_ok-push}
use Rattle.command_line.proofs.turn_arguments.shares_in.Goals as goal

same_shares : (words : List (List ℕ)) {done others : List ℕ} {own mine : ℕ} {left : List (List ℕ)} → done ≡ others → own ≡ mine
    → AreShared done own left (turns_among words) → AreShared others mine left (turns_among words)
same_shares words {done} {others} {own} {mine} {left} d o s =
    subst (λ (x : List ℕ). AreShared x mine left (turns_among words)) d (subst (λ (x : ℕ). AreShared done x left (turns_among words)) o s)

pub loop-place-preserved : goal.loop-place-preserved
loop-place-preserved c =
    let words : List (List ℕ) = map string_bytes c.args.words.now in
    let text : List ℕ = string_bytes c.index-words-place.result in
    let left : List (List ℕ) = drop (c.loop-place.place + 1) words in
    let most = c.loop-place.invariant.1 in
    let here : AreShared c.loop-place.shares.items c.loop-place.own (text ∷ left) (turns_among words) =
    subst (λ (ws : List (List ℕ)). AreShared c.loop-place.shares.items c.loop-place.own ws (turns_among words))
    (word_here string_bytes c.args.words.now c.loop-place.place c.index-words-place.result c.loop-place-test.true c.index-words-place.is) c.loop-place.invariant.0 in
    elim c.if-is_guard_word.branch [
      | then-is_guard_word w ↦
          let own = w.own-is in (
            same_shares words (ap (λ v. v.items) (sym w.shares-is)) (sym w.own-is)
                (shared_guard c.loop-place.shares.items c.loop-place.own text left (turns_among words)
                (ap (λ (word : List ℕ). is_guard_word word) (sym c.as_str.ensures.value) ∙ sym c.is_guard_word.ensures ∙ w.if-is_guard_word.true) here),
            omega (arith, own, most),
          )
      | else-is_guard_word+in_ok-push w ↦
          let own = w.own-is in (
            same_shares words (sym (ap (λ v. v.items) w.shares-is ∙ w.in_ok-push.ensures.items)) (sym w.own-is)
                (shared_file c.loop-place.shares.items c.loop-place.own text left (turns_among words)
                (ap (λ (word : List ℕ). is_guard_word word) (sym c.as_str.ensures.value) ∙ sym c.is_guard_word.ensures ∙ w.if-is_guard_word.false) here),
            omega (arith, own),
          )
    ]

pub returns : goal.returns
returns c =
    let words : List (List ℕ) = map string_bytes c.args.words.now in
    let past = c.loop-place-test.false in
    shared_end c.loop-place.shares.items c.loop-place.own (turns_among words)
    (subst (λ (ws : List (List ℕ)). AreShared c.loop-place.shares.items c.loop-place.own ws (turns_among words))
    (drop_all c.loop-place.place words (omega (arith, past, length-map c.args.words.now string_bytes))) c.loop-place.invariant.0)
