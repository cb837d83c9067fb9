use Rattle.std.proofs.Common.{map, sym, ap, ◌∙◌}
use Rattle.std.specs.String.{string_bytes}
use Rattle.file_words.specs.Fronts.{says_uuid}
use Rattle.file_words.proofs.Standing.{word_there, none_left, unmet_next, met, unmet_end}
use Rattle.file_words.proofs.checking.say_uuid.Goals as goal

pub returns-then-says_uuid : goal.returns-then-says_uuid
returns-then-says_uuid c =
    met (says_uuid c.args.uuid) (map string_bytes c.args.words.now) c.loop-place.place (string_bytes c.index-words-place.result)
    (word_there string_bytes c.args.words.now c.loop-place.place c.index-words-place.result c.loop-place-test.true c.index-words-place.is)
    (ap (says_uuid c.args.uuid) (sym c.as_str.ensures.value) ∙ sym c.says_uuid.ensures ∙ c.if-says_uuid.true) c.loop-place.invariant

pub loop-place-preserved : goal.loop-place-preserved
loop-place-preserved c =
    unmet_next (says_uuid c.args.uuid) (map string_bytes c.args.words.now) c.loop-place.place (string_bytes c.index-words-place.result)
    (word_there string_bytes c.args.words.now c.loop-place.place c.index-words-place.result c.loop-place-test.true c.index-words-place.is)
    (ap (says_uuid c.args.uuid) (sym c.as_str.ensures.value) ∙ sym c.says_uuid.ensures ∙ c.if-says_uuid.false) c.loop-place.invariant

pub returns : goal.returns
returns c =
    unmet_end (says_uuid c.args.uuid) (map string_bytes c.args.words.now) c.loop-place.place (none_left string_bytes c.args.words.now c.loop-place.place c.loop-place-test.false) c.loop-place.invariant
