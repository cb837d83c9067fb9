-- The text of a file is the file written in lines.
use Rattle.std.specs.Prelude.{◌≡◌, ℕ, Bool, true, List, [], ◌∷◌, ◌++◌, Option, None, Some}
use Rattle.std.proofs.Common.{refl, ap, subst}
use Rattle.send_model.specs.Reading.{Item, reads}
use Rattle.send_model.specs.Counts.{is_end}
use Rattle.send_model.specs.Due.{file_due}
use Rattle.send_model.specs.Headline.{IsFrontOf}
use Rattle.send_model.specs.Words.{first_file}
use Rattle.sx_base.specs.Calls.{IfAllTold, Wrote, EndsAs}
use Rattle.sx_base.specs.declared.outcome.Outcome.{Outcome}
use Rattle.stream_dump.specs.Written.{pieces_from, written_of, StandsAs, WritesFile}
use Rattle.text_model.specs.Texts.{item_lines, text_from, text_in}
use Rattle.stream_text.specs.TextAnswers.{TextEnds}

lines_are : (begins : Bool) (items : List Item) → pieces_from item_lines begins items ≡ text_from begins items
unfolding pieces_from text_from
lines_are begins [] = refl
lines_are begins (item ∷ items) = ap (λ (l : List ℕ). item_lines begins item ++ l) (lines_are (is_end item.command) items)

text_is : (bytes : List ℕ) → written_of item_lines bytes ≡ text_in bytes
unfolding written_of text_in
text_is bytes = lines_are true (reads 1 bytes).items

ends_as : (bytes : List ℕ) (outcome : Outcome) (written : List ℕ) → WritesFile item_lines bytes outcome written → TextEnds bytes outcome written
ends_as bytes outcome written says = subst (λ (l : List ℕ). EndsAs (file_due bytes) (StandsAs l) (IsFrontOf l) (IsFrontOf l) outcome written) (text_is bytes) says

-- The answer of `text` is that of a file written in lines.
pub printed : (told : Option (List (List ℕ × List ℕ))) (name : List ℕ) (old new : Option (List ℕ)) (outcome : Outcome)
    → IfAllTold told (name ∷ []) (λ files. Wrote old new (WritesFile item_lines (first_file files) outcome))
    → IfAllTold told (name ∷ []) (λ files. Wrote old new (TextEnds (first_file files) outcome))
printed None name old new outcome wrote = tt
printed (Some table) name old new outcome (written, appends, says) = (written, appends, ends_as _ outcome written says)
