use Rattle.std.specs.Prelude.{◌≡◌, List, ℕ, None, Some, codes}
use Rattle.std.specs.Option.{option_copied}
use Rattle.std.specs.Fmt.{decimal}
use Rattle.std.specs.Str.{bytes_eq}
use Rattle.std.proofs.Common.{sym, ap, ◌∙◌}
use Rattle.uuid.specs.Text.{hyphenated_text, lower}
use Rattle.send_model.specs.Guards.{after_text}
use Rattle.part_names.specs.Overriding.{key_of}
use Rattle.file_words.proofs.ParentSteps.{no_uuid, no_colon, whole_word}
use Rattle.file_words.proofs.parents.says.Goals as goal

pub returns-in_default-behind_text : goal.returns-in_default-behind_text
returns-in_default-behind_text c =
    let text : c.as_bytes.result.now ≡ hyphenated_text lower c.args.parent.now.uuid = c.as_bytes.ensures.value ∙ c.encode_lower-uuid.ensures.text ∙ ap (hyphenated_text lower) c.hyphenated.ensures in
    no_uuid c.args.word.now (key_of c.args.parent.now) c.in-Some.rest.now (sym c.behind_text.ensures ∙ ap option_copied c.in-Some.is)
    (ap (λ (t : List ℕ). after_text t c.in-Some.rest.now) (sym text) ∙ sym c.behind_text-2.ensures ∙ ap option_copied c.in_default-behind_text.is)

pub returns-in_default-behind_text-2 : goal.returns-in_default-behind_text-2
returns-in_default-behind_text-2 c =
    let text : c.as_bytes.result.now ≡ hyphenated_text lower c.args.parent.now.uuid = c.as_bytes.ensures.value ∙ c.encode_lower-uuid.ensures.text ∙ ap (hyphenated_text lower) c.hyphenated.ensures in
    no_colon c.args.word.now (key_of c.args.parent.now) c.in-Some.rest.now c.in-Some-behind_text.rest.now (sym c.behind_text.ensures ∙ ap option_copied c.in-Some.is)
    (ap (λ (t : List ℕ). after_text t c.in-Some.rest.now) (sym text) ∙ sym c.behind_text-2.ensures ∙ ap option_copied c.in-Some-behind_text.is)
    (sym c.behind_text-3.ensures ∙ ap option_copied c.in_default-behind_text-2.is)

pub returns : goal.returns
returns c =
    let text : c.as_bytes.result.now ≡ hyphenated_text lower c.args.parent.now.uuid = c.as_bytes.ensures.value ∙ c.encode_lower-uuid.ensures.text ∙ ap (hyphenated_text lower) c.hyphenated.ensures in
    let number : c.as_bytes-2.result.now ≡ decimal c.args.parent.now.ctransid = c.as_bytes-2.ensures.value ∙ c.format-number.ensures.text in
    c.eq.ensures ∙ ap (λ (d : List ℕ). bytes_eq c.in-Some-behind_text-2.rest.now d) number
    ∙ whole_word c.args.word.now (key_of c.args.parent.now) c.in-Some.rest.now c.in-Some-behind_text.rest.now c.in-Some-behind_text-2.rest.now (sym c.behind_text.ensures ∙ ap option_copied c.in-Some.is)
    (ap (λ (t : List ℕ). after_text t c.in-Some.rest.now) (sym text) ∙ sym c.behind_text-2.ensures ∙ ap option_copied c.in-Some-behind_text.is)
    (sym c.behind_text-3.ensures ∙ ap option_copied c.in-Some-behind_text-2.is)
