use Rattle.std.specs.Prelude.{ℕ, List, map, take, drop, Option}
use Rattle.std.specs.Option.{option_map}
use Rattle.std.specs.String.{string_bytes}
use Rattle.std.proofs.Common.{sym, ap, ◌∙◌}
use Rattle.send_model.specs.Guards.{GuardSpec}
use Rattle.program_model.specs.Requests as requests
use Rattle.program_model.specs.Requests.{Arguments, a_base_and_files}
use Rattle.command_line.specs.declared.arguments.OverBase.{OverBase}
use Rattle.command_line.specs.Given.{guards_in}
use Rattle.command_line.specs.Meaning.{base_meant, request_meant}
use Rattle.command_line.proofs.Splitting.{guarded_none, guarded_some}
use Rattle.command_line.proofs.Places.{words_behind, words_in_front}
use Rattle.command_line.proofs.parsing.read_audit.Goals as goal

abbrev audit : List GuardSpec → Arguments
audit guards = a_base_and_files (requests.Audit guards)

-- The request over a base, with these guards.
abbrev made : List GuardSpec → Option OverBase → Option requests.Request
made guards over = option_map (λ over. requests.Audit guards (base_meant over.base) over.files) over

pub returns-in_err-end : goal.returns-in_err-end
returns-in_err-end c =
    let words : List (List ℕ) = map string_bytes c.args.words.now in
    ap (option_map request_meant) c.from_residual.ensures ∙ sym (guarded_none audit words c.guards_end.result c.guards_end.ensures.split c.in_err-end.was)

pub returns-in_default : goal.returns-in_default
returns-in_default c =
    let words : List (List ℕ) = map string_bytes c.args.words.now in
    let guards : List GuardSpec = guards_in (take c.in_ok-end.end words) in
    sym (ap (λ (over : Option OverBase). made guards over) c.in_default.is)
    ∙ c.over_base_in.ensures (requests.Audit guards)
    ∙ ap (λ (left : List (List ℕ)). audit guards left) (words_behind string_bytes c.args.words.now c.in_ok-end.end)
    ∙ sym (guarded_some audit words c.guards_end.result c.in_ok-end.end c.guards_end.ensures.split c.in_ok-end.was)

pub returns : goal.returns
returns c =
    let words : List (List ℕ) = map string_bytes c.args.words.now in
    sym (ap (λ (over : Option OverBase). made c.among-guards.result over) c.in-Some.is)
    ∙ c.over_base_in.ensures (requests.Audit c.among-guards.result)
    ∙ ap (λ (left : List (List ℕ)). audit c.among-guards.result left) (words_behind string_bytes c.args.words.now c.in_ok-end.end)
    ∙ ap (λ (guards : List GuardSpec). audit guards (drop c.in_ok-end.end words)) (c.among-guards.ensures ∙ ap guards_in (words_in_front string_bytes c.args.words.now c.in_ok-end.end))
    ∙ sym (guarded_some audit words c.guards_end.result c.in_ok-end.end c.guards_end.ensures.split c.in_ok-end.was)
