use Rattle.std.specs.Prelude.{◌≡◌, ◌+◌, ◌++◌, ◌∷◌, [], ℕ, true, false, List, map, drop, is_some}
use Rattle.std.specs.String.{string_bytes}
use Rattle.std.proofs.Common.{sym, ap, subst, ◌∙◌}
use Rattle.std.proofs.lemmas.List.{map-append}
use Rattle.send_model.specs.Overridden.{Override, Overrides}
use Rattle.program_model.specs.FileWords.{stands_in_front, said_too}
use Rattle.program_model.proofs.GivenWords.{IsRead, read_none, read_front, read_file, files_stand}
use Rattle.file_words.proofs.Standing.{word_there, none_left, seen_some, says_more_there, ended}
use Rattle.file_words.proofs.given.GivenFiles.of.Goals.{then-stands_in_front+in_ok-say_more, else-stands_in_front+in_ok-push+in_ok-from_str+in_ok-push-2}
use Rattle.file_words.proofs.given.GivenFiles.of.Goals as goal

same_read : {all files others left : List (List ℕ)} {overrides more : Overrides} {said next : Override} → files ≡ others → overrides ≡ more → said ≡ next → IsRead all files overrides said left → IsRead all others more next left
same_read {all} {files} {others} {left} {overrides} {more} {said} {next} f n o r =
    subst (λ (x : List (List ℕ)). IsRead all x more next left) f (subst (λ (x : Overrides). IsRead all files x next left) n (subst (λ (x : Override). IsRead all files overrides x left) o r))

pub loop-place-init : goal.loop-place-init
loop-place-init c = same_read (ap (map string_bytes) (sym c.new-files.ensures.items)) (sym c.none-overrides.ensures.none) (sym c.none-said.ensures.none) (read_none (map string_bytes c.args.words.now))

pub say_more-requires : goal.say_more-requires
say_more-requires c =
    let words : List (List ℕ) = map string_bytes c.args.words.now in
    let left : List (List ℕ) = drop (c.loop-place.place + 1) words in
    let files : List (List ℕ) = map string_bytes c.loop-place.files.items in
    let text : List ℕ = string_bytes c.index-words-place.result in
    let here = word_there string_bytes c.args.words.now c.loop-place.place c.index-words-place.result c.loop-place-test.true c.index-words-place.is in
    let front : stands_in_front text ≡ true = ap stands_in_front (sym c.as_str-word.ensures.value) ∙ sym c.stands_in_front.ensures ∙ c.if-stands_in_front.true in
    let read : IsRead words files c.loop-place.overrides c.loop-place.said (text ∷ left) = subst (λ (ws : List (List ℕ)). IsRead words files c.loop-place.overrides c.loop-place.said ws) here c.loop-place.invariant in
    record { more = ap (λ (bytes : List ℕ). is_some (said_too c.loop-place.said bytes)) c.as_str-word.ensures.value ∙ says_more_there words files c.loop-place.overrides c.loop-place.said text left front c.requires.given read }

pub loop-place-preserved : goal.loop-place-preserved
loop-place-preserved c =
    let words : List (List ℕ) = map string_bytes c.args.words.now in
    let left : List (List ℕ) = drop (c.loop-place.place + 1) words in
    let files : List (List ℕ) = map string_bytes c.loop-place.files.items in
    let overrides : Overrides = c.loop-place.overrides in
    let said : Override = c.loop-place.said in
    let text : List ℕ = string_bytes c.index-words-place.result in
    let here = word_there string_bytes c.args.words.now c.loop-place.place c.index-words-place.result c.loop-place-test.true c.index-words-place.is in
    let read : IsRead words files overrides said (text ∷ left) = subst (λ (ws : List (List ℕ)). IsRead words files overrides said ws) here c.loop-place.invariant in
    elim c.if-stands_in_front.branch [
      | then-stands_in_front+in_ok-say_more w ↦
          same_read (ap (λ v. map string_bytes v.items) (sym w.files-is)) (sym w.overrides-is) (sym w.said-is)
          (read_front words files overrides said _ text left (ap stands_in_front (sym c.as_str-word.ensures.value) ∙ sym c.stands_in_front.ensures ∙ w.if-stands_in_front.true)
          (ap (said_too said) (sym c.as_str-word.ensures.value) ∙ w.in_ok-say_more.ensures.said) read)
      | else-stands_in_front+in_ok-push+in_ok-from_str+in_ok-push-2 w ↦
          same_read
          (sym (ap (λ v. map string_bytes v.items) w.files-is ∙ ap (map string_bytes) w.in_ok-push-2.ensures.items ∙ map-append string_bytes c.loop-place.files.items (w.in_ok-from_str.field-0 ∷ [])
          ∙ ap (λ (file : List ℕ). files ++ file ∷ []) (w.in_ok-from_str.ensures.ok ∙ c.as_str-word.ensures.value)))
          (sym (w.overrides-is ∙ w.in_ok-push.ensures.pushed)) (sym (w.said-is ∙ w.none-said-else-stands_in_front.ensures.none))
          (read_file words files overrides said text left (ap stands_in_front (sym c.as_str-word.ensures.value) ∙ sym c.stands_in_front.ensures ∙ w.if-stands_in_front.false) read)
    ]

pub returns-clause-given : goal.returns-clause-given
returns-clause-given c =
    let words : List (List ℕ) = map string_bytes c.args.words.now in
    let files : List (List ℕ) = map string_bytes c.loop-place.files.items in
    ended words files c.loop-place.overrides c.loop-place.said c.requires.given
    (subst (λ (ws : List (List ℕ)). IsRead words files c.loop-place.overrides c.loop-place.said ws) (none_left string_bytes c.args.words.now c.loop-place.place c.loop-place-test.false) c.loop-place.invariant)

pub returns-clause-some : goal.returns-clause-some
returns-clause-some c some =
    let words : List (List ℕ) = map string_bytes c.args.words.now in
    let files : List (List ℕ) = map string_bytes c.loop-place.files.items in
    files_stand words (record { files = files; overrides = c.loop-place.overrides }) (seen_some string_bytes c.args.words.now some)
    (ended words files c.loop-place.overrides c.loop-place.said c.requires.given
    (subst (λ (ws : List (List ℕ)). IsRead words files c.loop-place.overrides c.loop-place.said ws) (none_left string_bytes c.args.words.now c.loop-place.place c.loop-place-test.false) c.loop-place.invariant))
