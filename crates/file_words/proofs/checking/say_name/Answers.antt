use Rattle.std.proofs.Common.{map, sym, ap, ◌∙◌}
use Rattle.std.specs.String.{string_bytes}
use Rattle.send_model.specs.NamedWords.{is_name_word}
use Rattle.file_words.proofs.Standing.{word_there, none_left, unmet_next, met, unmet_end}
use Rattle.file_words.proofs.checking.say_name.Goals as goal

pub returns-then-is_name_word : goal.returns-then-is_name_word
returns-then-is_name_word c =
    met is_name_word (map string_bytes c.args.words.now) c.loop-place.place (string_bytes c.index-words-place.result)
    (word_there string_bytes c.args.words.now c.loop-place.place c.index-words-place.result c.loop-place-test.true c.index-words-place.is)
    (ap is_name_word (sym c.as_str.ensures.value) ∙ sym c.is_name_word.ensures ∙ c.if-is_name_word.true) c.loop-place.invariant

pub loop-place-preserved : goal.loop-place-preserved
loop-place-preserved c =
    unmet_next is_name_word (map string_bytes c.args.words.now) c.loop-place.place (string_bytes c.index-words-place.result)
    (word_there string_bytes c.args.words.now c.loop-place.place c.index-words-place.result c.loop-place-test.true c.index-words-place.is)
    (ap is_name_word (sym c.as_str.ensures.value) ∙ sym c.is_name_word.ensures ∙ c.if-is_name_word.false) c.loop-place.invariant

pub returns : goal.returns
returns c =
    unmet_end is_name_word (map string_bytes c.args.words.now) c.loop-place.place (none_left string_bytes c.args.words.now c.loop-place.place c.loop-place-test.false) c.loop-place.invariant
