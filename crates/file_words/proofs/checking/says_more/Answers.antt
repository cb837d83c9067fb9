use Rattle.std.specs.Prelude.{Bool, ◌&&◌, not, map}
use Rattle.std.specs.List.{list_any}
use Rattle.std.specs.String.{string_bytes}
use Rattle.std.proofs.Common.{sym, ap, ◌∙◌}
use Rattle.send_model.specs.NamedWords.{is_name_word}
use Rattle.file_words.proofs.Standing.{name_says}
use Rattle.file_words.proofs.checking.says_more.Goals as goal

pub returns-then-gives_name : goal.returns-then-gives_name
returns-then-gives_name c said s =
    ap (λ (b : Bool). not b) c.say_name.ensures
    ∙ sym (ap (λ (b : Bool). b && not (list_any is_name_word (map string_bytes c.args.front.now))) (sym c.gives_name.ensures ∙ c.if-gives_name.true))
    ∙ name_says (map string_bytes c.args.front.now) c.args.word.now said s (sym c.is_name_word.ensures ∙ c.if-is_name_word.true)

pub returns-else-gives_name : goal.returns-else-gives_name
returns-else-gives_name c said s =
    c.if-gives_name.false ∙ sym (ap (λ (b : Bool). b && not (list_any is_name_word (map string_bytes c.args.front.now))) (sym c.gives_name.ensures ∙ c.if-gives_name.false))
    ∙ name_says (map string_bytes c.args.front.now) c.args.word.now said s (sym c.is_name_word.ensures ∙ c.if-is_name_word.true)
