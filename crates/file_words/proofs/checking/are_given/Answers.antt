use Rattle.std.specs.Prelude.{◌≡◌, ◌+◌, ◌==◌, ℕ, Bool, true, false, is_some, List, map, drop, length}
use Rattle.std.specs.String.{string_bytes}
use Rattle.std.proofs.Common.{refl, sym, ap, subst, ◌∙◌, arith}
use Rattle.send_model.specs.Overridden.{Override}
use Rattle.program_model.specs.FileWords.{stands_in_front, said_too}
use Rattle.file_words.proofs.Standing.{AreRead, word_there, none_left, between, between_more, none_between, none_in_front, starts, one_file, one_front, wrong_front, at_end}
use Rattle.file_words.proofs.checking.are_given.Goals.{then-not-stands_in_front, else-not-stands_in_front+else-not-says_more}
use Rattle.file_words.proofs.checking.are_given.Goals as goal

pub loop-place-init : goal.loop-place-init
loop-place-init c = record { read = starts (map string_bytes c.args.words.now); within = omega (arith) }

pub returns-then-not-says_more : goal.returns-then-not-says_more
returns-then-not-says_more c =
    let words : List (List ℕ) = map string_bytes c.args.words.now in
    let text : List ℕ = string_bytes c.index-words-place.result in
    let here = word_there string_bytes c.args.words.now c.loop-place.place c.index-words-place.result c.loop-place-test.true c.index-words-place.is in
    let front : stands_in_front text ≡ true = ap stands_in_front (sym c.as_str-word.ensures.value) ∙ sym c.stands_in_front.ensures ∙ c.if-not-stands_in_front.false in
    wrong_front words _ _ (between string_bytes c.args.words.now c.loop-place.front c.loop-place.place) text here front
    (λ said s. sym c.if-not-says_more.true ∙ c.says_more.ensures said s ∙ ap (λ (bytes : List ℕ). is_some (said_too said bytes)) c.as_str-word.ensures.value) c.loop-place.invariant.read

pub loop-place-preserved : goal.loop-place-preserved
loop-place-preserved c =
    let words : List (List ℕ) = map string_bytes c.args.words.now in
    let left : List (List ℕ) = drop (c.loop-place.place + 1) words in
    let text : List ℕ = string_bytes c.index-words-place.result in
    let here = word_there string_bytes c.args.words.now c.loop-place.place c.index-words-place.result c.loop-place-test.true c.index-words-place.is in
    let i = c.loop-place.invariant in
    elim c.if-not-stands_in_front.branch [
      | then-not-stands_in_front w ↦ record {
        read = subst (λ (front : ℕ). AreRead words left (between string_bytes c.args.words.now front (c.loop-place.place + 1))) (sym w.front-is)
            (subst (λ (fronts : List (List ℕ)). AreRead words left fronts) (sym (none_between string_bytes c.args.words.now (c.loop-place.place + 1)))
            (one_file words _ left (between string_bytes c.args.words.now c.loop-place.front c.loop-place.place) text here
            (ap stands_in_front (sym c.as_str-word.ensures.value) ∙ sym c.stands_in_front.ensures ∙ w.if-not-stands_in_front.true) i.read));
        within = omega (arith, w.front-is);
      }
      | else-not-stands_in_front+else-not-says_more w ↦ record {
        read = subst (λ (front : ℕ). AreRead words left (between string_bytes c.args.words.now front (c.loop-place.place + 1))) (sym w.front-is)
            (subst (λ (fronts : List (List ℕ)). AreRead words left fronts) (sym (between_more string_bytes c.args.words.now c.loop-place.front c.loop-place.place c.index-words-place.result i.within c.loop-place-test.true c.index-words-place.is))
            (one_front words _ left (between string_bytes c.args.words.now c.loop-place.front c.loop-place.place) text here
            (ap stands_in_front (sym c.as_str-word.ensures.value) ∙ sym c.stands_in_front.ensures ∙ w.if-not-stands_in_front.false)
            (λ said s. sym w.if-not-says_more.false ∙ w.says_more.ensures said s ∙ ap (λ (bytes : List ℕ). is_some (said_too said bytes)) c.as_str-word.ensures.value) i.read));
        within = omega (arith, w.front-is, i.within);
      }
    ]

pub returns : goal.returns
returns c =
    let words : List (List ℕ) = map string_bytes c.args.words.now in
    none_in_front string_bytes c.args.words.now c.loop-place.front c.loop-place.place c.loop-place.invariant.within c.loop-place-test.false c.loop-place.auto.place-end
    ∙ at_end words _ (between string_bytes c.args.words.now c.loop-place.front c.loop-place.place) (none_left string_bytes c.args.words.now c.loop-place.place c.loop-place-test.false) c.loop-place.invariant.read
