use Rattle.std.specs.Prelude.{◌≡◌, ℕ, ◌-◌, ◌<◌, ◌≤◌, List, [], ◌∷◌, map, take, drop, length, Option, None, Some, slice_index_or}
use Rattle.std.specs.Option.{option_map}
use Rattle.std.specs.String.{string_bytes}
use Rattle.std.proofs.Common.{refl, sym, ap, ◌∙◌, arith}
use Rattle.std.proofs.lemmas.List.{take_rest}
use Rattle.send_model.specs.Guards.{GuardSpec}
use Rattle.program_model.specs.FileWords.{GivenFiles}
use Rattle.program_model.specs.Requests as requests
use Rattle.program_model.specs.Requests.{Arguments, some_files, a_store_and_files}
use Rattle.command_line.specs.Given.{guards_in, some_given}
use Rattle.command_line.specs.Meaning.{request_meant}
use Rattle.command_line.proofs.Splitting.{guarded_none, guarded_some}
use Rattle.command_line.proofs.Places.{words_behind, words_in_front}
use Rattle.command_line.proofs.parsing.read_receive.Goals as goal

abbrev receive : List GuardSpec → Arguments
receive guards = a_store_and_files (requests.Receive guards)

no_store : {S : Type 0} (text : S → List ℕ) (request : List ℕ → GivenFiles → requests.Request) (left : List S) → length left < 1 → None ≡ a_store_and_files request (map text left)
no_store text request [] short = refl
no_store text request (word ∷ left) short = absurd (omega (arith, short))

pub returns-in_err-end : goal.returns-in_err-end
returns-in_err-end c =
    let words : List (List ℕ) = map string_bytes c.args.words.now in
    ap (option_map request_meant) c.from_residual.ensures ∙ sym (guarded_none receive words c.guards_end.result c.guards_end.ensures.split c.in_err-end.was)

pub returns-in_default : goal.returns-in_default
returns-in_default c =
    let words : List (List ℕ) = map string_bytes c.args.words.now in
    let guards : List GuardSpec = guards_in (take c.in_ok-end.end words) in
    no_store string_bytes (requests.Receive guards) (take (length c.args.words.now - c.in_ok-end.end) (drop c.in_ok-end.end c.args.words.now)) c.in_default.len_below
    ∙ ap (λ (left : List (List ℕ)). receive guards left) (words_behind string_bytes c.args.words.now c.in_ok-end.end)
    ∙ sym (guarded_some receive words c.guards_end.result c.in_ok-end.end c.guards_end.ensures.split c.in_ok-end.was)

some_are : (request : GivenFiles → requests.Request) (words : List (List ℕ)) → some_files request words ≡ option_map request (some_given words)
some_are request [] = refl
some_are request (word ∷ words) = refl

-- The first word is the store, and the others are the files.
store_first : {S : Type 0} (text : S → List ℕ) (request : List ℕ → GivenFiles → requests.Request) (left : List S) (store : S) → 1 ≤ length left → store ≡ slice_index_or left 0 store
    → a_store_and_files request (map text left) ≡ option_map (request (text store)) (some_given (map text (take (length left - 1) (drop 1 left))))
store_first text request [] store some is = absurd (omega (arith, some))
store_first text request (word ∷ left) store some is =
    some_are (request (text word)) (map text left)
    ∙ ap (λ (first : _). option_map (request (text first)) (some_given (map text left))) (sym is)
    ∙ ap (λ (rest : List _). option_map (request (text store)) (some_given (map text rest))) (sym (take_rest (word ∷ left) 1))

pub returns-in_err-files : goal.returns-in_err-files
returns-in_err-files c =
    let words : List (List ℕ) = map string_bytes c.args.words.now in
    let guards : List GuardSpec = guards_in (take c.in_ok-end.end words) in
    let left : List _ = take (length c.args.words.now - c.in_ok-end.end) (drop c.in_ok-end.end c.args.words.now) in
    ap (option_map request_meant) c.from_residual-in_err-files.ensures
    ∙ sym (ap (λ (files : Option GivenFiles). option_map (requests.Receive guards (string_bytes c.store-item.result)) files) (sym c.of.ensures ∙ c.in_err-files.was))
    ∙ sym (store_first string_bytes (requests.Receive guards) left c.store-item.result c.in-len1-up.len_at_least c.store-item.is)
    ∙ ap (λ (behind : List (List ℕ)). receive guards behind) (words_behind string_bytes c.args.words.now c.in_ok-end.end)
    ∙ sym (guarded_some receive words c.guards_end.result c.in_ok-end.end c.guards_end.ensures.split c.in_ok-end.was)

pub returns : goal.returns
returns c =
    let words : List (List ℕ) = map string_bytes c.args.words.now in
    let guards : List GuardSpec = guards_in (take c.in_ok-end.end words) in
    let left : List _ = take (length c.args.words.now - c.in_ok-end.end) (drop c.in_ok-end.end c.args.words.now) in
    ap (λ (those : List GuardSpec). Some (requests.Receive those c.as_str.result.now c.in_ok-files.files))
    (c.among-guards.ensures ∙ ap guards_in (words_in_front string_bytes c.args.words.now c.in_ok-end.end))
    ∙ ap (λ (store : List ℕ). Some (requests.Receive guards store c.in_ok-files.files)) c.as_str.ensures.value
    ∙ sym (ap (λ (files : Option GivenFiles). option_map (requests.Receive guards (string_bytes c.store-item.result)) files) (sym c.of.ensures ∙ c.in_ok-files.was))
    ∙ sym (store_first string_bytes (requests.Receive guards) left c.store-item.result c.in-len1-up.len_at_least c.store-item.is)
    ∙ ap (λ (behind : List (List ℕ)). receive guards behind) (words_behind string_bytes c.args.words.now c.in_ok-end.end)
    ∙ sym (guarded_some receive words c.guards_end.result c.in_ok-end.end c.guards_end.ensures.split c.in_ok-end.was)
