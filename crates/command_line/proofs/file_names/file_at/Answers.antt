use Rattle.std.specs.Prelude.{ℕ, ◌+◌, List, map, drop}
use Rattle.std.specs.String.{string_bytes}
use Rattle.std.proofs.Common.{sym, ap, ◌∙◌}
use Rattle.command_line.specs.Names.{names_file, names_in}
use Rattle.command_line.proofs.NamesAmong.{no_name_more}
use Rattle.command_line.proofs.Places.{word_here}
use Rattle.command_line.proofs.file_names.file_at.Goals as goal

pub loop-place-preserved : goal.loop-place-preserved
loop-place-preserved c =
    let words : List (List ℕ) = map string_bytes c.args.words.now in
    let text : List ℕ = string_bytes c.index-words-place.result in
    c.loop-place.invariant
    ∙ ap (λ (left : List (List ℕ)). names_in c.args.among left)
    (word_here string_bytes c.args.words.now c.loop-place.place c.index-words-place.result c.loop-place-test.true c.index-words-place.is)
    ∙ no_name_more c.args.among text (drop (c.loop-place.place + 1) words)
    (ap (λ (w : List ℕ). names_file c.args.among w) (sym c.as_str.ensures.value) ∙ sym c.names_file.ensures ∙ c.if-names_file.false)
