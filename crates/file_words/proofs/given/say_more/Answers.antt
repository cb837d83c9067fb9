use Rattle.std.specs.Prelude.{◌≡◌, Result, Ok, Err, Some, OnOk}
use Rattle.std.specs.Option.{option_map}
use Rattle.std.proofs.Common.{sym, ap, ◌∙◌}
use Rattle.send_model.specs.Overridden.{Override}
use Rattle.part_names.specs.Overriding.{key_of}
use Rattle.file_words.proofs.Standing.{gives_one, said_parent}
use Rattle.file_words.proofs.given.say_more.Goals as goal

weaker : {T E : Type 0} (r : Result T E) (A B : Type 0) → (A → B) → OnOk r A → OnOk r B
weaker (Ok x) A B f a = f a
weaker (Err e) A B f a = a

pub name_given-requires-clause-gives : goal.name_given-requires-clause-gives
name_given-requires-clause-gives c = gives_one c.args.word.now c.args.said.now (sym c.is_name_word.ensures ∙ c.if-is_name_word.true) c.requires.more

pub returns : goal.returns
returns c =
    record {
      said = weaker c.say_parent.result _ _
          (λ new. said_parent c.args.word.now (key_of c.in-Some.parent) c.args.said.now (sym c.is_name_word.ensures ∙ c.if-is_name_word.false) c.requires.more
          (sym c.parent_given.ensures ∙ ap (option_map key_of) c.in-Some.is) ∙ ap (λ (o : Override). Some o) (sym new))
          c.say_parent.ensures.said;
    }
