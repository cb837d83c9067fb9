-- What is ahead of a loop over named files, a whole file at a time.
use Rattle.std.specs.Prelude.{◌≡◌, ℕ, ◌+◌, List, ◌∷◌, ◌++◌}
use Rattle.std.proofs.Common.{sym, ap, ◌∙◌, refl, append_assoc}
use Rattle.send_model.specs.Reading.{Item, Ending, Whole, Faulty, Reading, ended, joined, reads, input_from}
use Rattle.file_survey.specs.Ahead.{IsAhead, then_reading}
use Rattle.file_survey.proofs.AheadSteps.{ahead_next}

joined_then : (items rest : List Item) (ending : Ending) (others : Reading) → joined (then_reading items (record { items = rest; end = ending })) others ≡ then_reading items (joined (record { items = rest; end = ending }) others)
joined_then items rest Whole others = ap (λ (is : List Item). record { items = is; end = others.end }) (append_assoc items rest others.items)
joined_then items rest (Faulty verdict) others = refl

-- Items, and then more of them.
pub then_then : (items more : List Item) (r : Reading) → then_reading items (then_reading more r) ≡ then_reading (items ++ more) r
then_then items more r = ap (λ (is : List Item). record { items = is; end = r.end }) (sym (append_assoc items more r.items))

-- Commands of the next file were read, up to some rest of it.
pub ahead_file : (files : List (List ℕ)) (items : List Item) (number : ℕ) (bytes : List ℕ) (after : List (List ℕ)) (more : List Item) (rest : Reading)
    → IsAhead files items ended number (bytes ∷ after) → reads (number + 1) bytes ≡ then_reading more rest → IsAhead files (items ++ more) rest (number + 1) after
ahead_file files items number bytes after more rest is read =
    let others : Reading = input_from (number + 1 + 1) after in
    ahead_next files items ended number bytes after is refl
    ∙ ap (λ (r : Reading). then_reading items (joined r others)) read
    ∙ ap (then_reading items) (joined_then more rest.items rest.end others)
    ∙ then_then items more (joined rest others)
