use Rattle.std.specs.Prelude.{◌≡◌, ℕ, ◌+◌, List, [], ◌∷◌, ◌++◌, map, drop, Some}
use Rattle.std.specs.Option.{option_map}
use Rattle.std.specs.String.{string_bytes}
use Rattle.std.proofs.Common.{sym, ap, ◌∙◌, arith, subst}
use Rattle.std.proofs.lemmas.List.{drop_all, length-map, map-append}
use Rattle.send_model.specs.Guards.{Guard, new_guard, guard_of}
use Rattle.send_model.proofs.Sorts.{same_inside}
use Rattle.guard_rules.specs.AnyKind.{any_kept}
use Rattle.guard_rules.specs.Meaning.{spec_meant}
use Rattle.program_model.specs.TurnWords.{TurnFiles}
use Rattle.program_model.proofs.TurnWords.{Split, split_file, split_guard, split_end}
use Rattle.command_line.specs.Given.{turns_among}
use Rattle.command_line.proofs.GuardWords.{means_guard}
use Rattle.command_line.proofs.Places.{word_here}
use Rattle.command_line.proofs.TurnsAmong.{is_file}
use Rattle.command_line.proofs.turn_arguments.sessions_in.Goals.{in-Some+in_ok-push-in-Some, in-None+in_ok-from_str-in-None+in_ok-push-in-None+in_ok-push-in-None-2}
use Rattle.command_line.proofs.turn_arguments.sessions_in.Goals as goal

same_split : {files others : List (List ℕ)} {done all : List (List Guard)} {own mine : List Guard} {left : List (List ℕ)} {turns : TurnFiles}
    → files ≡ others → done ≡ all → own ≡ mine → Split files done own left turns → Split others all mine left turns
same_split {files} {others} {done} {all} {own} {mine} {left} {turns} f d o s =
    subst (λ (x : List (List ℕ)). Split x all mine left turns) f (subst (λ (x : List (List Guard)). Split files x mine left turns) d (subst (λ (x : List Guard). Split files done x left turns) o s))

pub loop-place-preserved : goal.loop-place-preserved
loop-place-preserved c =
    let words : List (List ℕ) = map string_bytes c.args.words.now in
    let text : List ℕ = string_bytes c.index-words-place.result in
    let left : List (List ℕ) = drop (c.loop-place.place + 1) words in
    let files : List (List ℕ) = map string_bytes c.loop-place.files.items in
    let done : List (List Guard) = map (λ own. map any_kept own.items) c.loop-place.guards.items in
    let own : List Guard = map any_kept c.loop-place.own.items in
    let here : Split files done own (text ∷ left) (turns_among words) = subst (λ (ws : List (List ℕ)). Split files done own ws (turns_among words))
    (word_here string_bytes c.args.words.now c.loop-place.place c.index-words-place.result c.loop-place-test.true c.index-words-place.is) c.loop-place.invariant in
    let said : guard_of text ≡ option_map spec_meant c.parse_guard.result = ap (λ (word : List ℕ). guard_of word) (sym c.as_str-word.ensures.value) ∙ sym c.parse_guard.ensures in
    elim c.match-parse_guard.branch [
      | in-Some+in_ok-push-in-Some w ↦
          let means : guard_of text ≡ Some (spec_meant w.in-Some.spec) = said ∙ ap (option_map spec_meant) w.in-Some.is in
          let s = split_guard files done own text left (turns_among words) (means_guard text (spec_meant w.in-Some.spec) means) here in
          let spec : spec_meant w.in-Some.spec ≡ s.0 = same_inside (sym means ∙ s.1) in
          same_split (ap (λ v. map string_bytes v.items) (sym w.files-is)) (ap (λ v. map (λ own. map any_kept own.items) v.items) (sym w.guards-is))
          (sym (ap (λ v. map any_kept v.items) w.own-is ∙ ap (map any_kept) w.in_ok-push-in-Some.ensures.items ∙ map-append any_kept c.loop-place.own.items (w.new.result ∷ [])
          ∙ ap (λ (guard : Guard). own ++ guard ∷ []) (w.new.ensures ∙ ap new_guard spec)))
          s.2
      | in-None+in_ok-from_str-in-None+in_ok-push-in-None+in_ok-push-in-None-2 w ↦
          same_split
          (sym (ap (λ v. map string_bytes v.items) w.files-is ∙ ap (map string_bytes) w.in_ok-push-in-None.ensures.items ∙ map-append string_bytes c.loop-place.files.items (w.in_ok-from_str-in-None.field-0 ∷ [])
          ∙ ap (λ (word : List ℕ). files ++ word ∷ []) (w.in_ok-from_str-in-None.ensures.ok ∙ c.as_str-word.ensures.value)))
          (sym (ap (λ v. map (λ own. map any_kept own.items) v.items) w.guards-is ∙ ap (map (λ own. map any_kept own.items)) w.in_ok-push-in-None-2.ensures.items
          ∙ map-append (λ own. map any_kept own.items) c.loop-place.guards.items (w.replace.result ∷ [])
          ∙ ap (λ (guards : List Guard). done ++ guards ∷ []) (ap (λ v. map any_kept v.items) w.replace.ensures.value)))
          (sym (ap (λ v. map any_kept v.items) (w.own-is ∙ w.replace.ensures.after) ∙ ap (map any_kept) w.new-in-None.ensures.items))
          (split_file files done own text left (turns_among words) (is_file files done own text left (turns_among words) (said ∙ ap (option_map spec_meant) w.in-None.is) here) here)
    ]

pub returns-clause-files : goal.returns-clause-files
returns-clause-files c =
    let words : List (List ℕ) = map string_bytes c.args.words.now in
    let past = c.loop-place-test.false in
    (split_end (map string_bytes c.loop-place.files.items) (map (λ own. map any_kept own.items) c.loop-place.guards.items) (map any_kept c.loop-place.own.items) (turns_among words)
    (subst (λ (ws : List (List ℕ)). Split (map string_bytes c.loop-place.files.items) (map (λ own. map any_kept own.items) c.loop-place.guards.items) (map any_kept c.loop-place.own.items) ws (turns_among words))
    (drop_all c.loop-place.place words (omega (arith, past, length-map c.args.words.now string_bytes))) c.loop-place.invariant)).0

pub returns-clause-guards : goal.returns-clause-guards
returns-clause-guards c =
    let words : List (List ℕ) = map string_bytes c.args.words.now in
    let past = c.loop-place-test.false in
    (split_end (map string_bytes c.loop-place.files.items) (map (λ own. map any_kept own.items) c.loop-place.guards.items) (map any_kept c.loop-place.own.items) (turns_among words)
    (subst (λ (ws : List (List ℕ)). Split (map string_bytes c.loop-place.files.items) (map (λ own. map any_kept own.items) c.loop-place.guards.items) (map any_kept c.loop-place.own.items) ws (turns_among words))
    (drop_all c.loop-place.place words (omega (arith, past, length-map c.args.words.now string_bytes))) c.loop-place.invariant)).1
