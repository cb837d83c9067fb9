-- A dump is a file written in lines.
use Rattle.std.specs.Prelude.{◌≡◌, ℕ, Bool, true, List, [], ◌∷◌, ◌++◌, Option, None, Some}
use Rattle.std.proofs.Common.{refl, ap, subst, ◌∙◌}
use Rattle.send_model.specs.Reading.{Item, reads}
use Rattle.send_model.specs.Counts.{is_end}
use Rattle.send_model.specs.Lines.{lines_from, dump_of}
use Rattle.send_model.specs.Headline.{IsFrontOf}
use Rattle.send_model.specs.Words.{Dump, first_file, due, whole_of}
use Rattle.sx_base.specs.Calls.{IfAllTold, Wrote, Ends}
use Rattle.sx_base.specs.declared.outcome.Outcome.{Outcome}
use Rattle.sx_base.specs.declared.outcome.Outcome.TheVariants as ended
use Rattle.stream_dump.specs.Written.{pieces_from, written_of, WritesFile, dump_lines}

lines_are : (begins : Bool) (items : List Item) → pieces_from dump_lines begins items ≡ lines_from begins items
unfolding pieces_from lines_from
lines_are begins [] = refl
lines_are begins (item ∷ items) = ap (λ (l : List ℕ). dump_lines begins item ++ l) (lines_are (is_end item.command) items)

dump_is : (bytes : List ℕ) → written_of dump_lines bytes ≡ dump_of bytes
unfolding written_of dump_of
dump_is bytes = lines_are true (reads 1 bytes).items

front_is : (bytes written : List ℕ) → IsFrontOf (written_of dump_lines bytes) written → IsFrontOf (dump_of bytes) written
front_is bytes written front = subst (λ (l : List ℕ). IsFrontOf l written) (dump_is bytes) front

one_ends : (bytes : List ℕ) (outcome : Outcome) (written : List ℕ) → WritesFile dump_lines bytes outcome written → Ends (Dump 1) [] (bytes ∷ []) outcome written
unfolding due whole_of
one_ends bytes ended.Done written (is, all) = (is, all ∙ dump_is bytes)
one_ends bytes (ended.Refused verdict) written (is, all) = (is, all ∙ dump_is bytes)
one_ends bytes (ended.InputTooLong file) written (is, front) = (is, front_is bytes written front)
one_ends bytes (ended.TooMuch sum) written (is, front) = (is, front_is bytes written front)
one_ends bytes (ended.InputChanged file place) written front = front_is bytes written front
one_ends bytes ended.InputFault written front = front_is bytes written front
one_ends bytes ended.OutputFault written front = front_is bytes written front
one_ends bytes ended.NoMemory written front = front_is bytes written front

-- The answer of a dump is that of a file written in lines.
pub dumped : (told : Option (List (List ℕ × List ℕ))) (name : List ℕ) (old new : Option (List ℕ)) (outcome : Outcome)
    → IfAllTold told (name ∷ []) (λ files. Wrote old new (WritesFile dump_lines (first_file files) outcome))
    → IfAllTold told (name ∷ []) (λ files. Wrote old new (λ written. Ends (Dump 1) [] files outcome written))
dumped None name old new outcome wrote = tt
dumped (Some table) name old new outcome (written, appends, says) = (written, appends, one_ends _ outcome written says)
