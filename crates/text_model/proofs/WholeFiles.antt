-- A file that is read whole has a lawful text, which stands for its canonical bytes.
use Rattle.std.specs.Prelude.{◌≡◌, ◌≢◌, ℕ, Bool, true, false, List, [], ◌∷◌, ◌++◌, Option, None, Some, if◌then◌else◌}
use Rattle.std.proofs.Common.{refl, sym, ap, subst, ◌∙◌, append_assoc, append-nil}
use Rattle.send_model.specs.Command.{Command}
use Rattle.send_model.specs.Spelling.{stream_header, canonical}
use Rattle.send_model.specs.Reading.{Item, Reading, Ending, Whole, HeaderDue, reads, input, input_from, joined, ended}
use Rattle.send_model.specs.Counts.{is_end}
use Rattle.send_model.specs.Lines.{stream_line}
use Rattle.send_model.specs.Laws.{CanWrite}
use Rattle.send_model.proofs.Exporting.{StandsIn, due_by, input_stands, input_some}
use Rattle.text_model.specs.Texts.{Line, Header, Says, text_of_lines, bytes_of_lines, text_from, text_in, canonical_from, canonical_in, text_line}
use Rattle.text_model.specs.TextLaws.{WholeHasText}
use Rattle.text_model.specs.LineOrder.{Runs, due_after, due_behind}
use Rattle.text_model.proofs.LineRuns.{whole, Whole as WholeLines}

-- The lines of items, of which the first begins a stream or does not.
abbrev header : Bool → ℕ → List Line
header begins version = if begins then Header version ∷ [] else []

abbrev item_lines : Bool → List Item → List Line
item_lines begins [] = []
item_lines begins (item ∷ items) = header begins item.version ++ Says item.version item.command ∷ item_lines (is_end item.command) items

text_is : (begins : Bool) (items : List Item) → text_from begins items ≡ text_of_lines (item_lines begins items)
unfolding text_from
text_is begins [] = refl
text_is true (item ∷ items) =
    append_assoc (stream_line item.version) (text_line item.command) (text_from (is_end item.command) items)
    ∙ ap (λ (l : List ℕ). stream_line item.version ++ (text_line item.command ++ l)) (text_is (is_end item.command) items)
text_is false (item ∷ items) = ap (λ (l : List ℕ). text_line item.command ++ l) (text_is (is_end item.command) items)

canonical_is : (begins : Bool) (items : List Item) → canonical_from begins items ≡ bytes_of_lines (item_lines begins items)
unfolding canonical_from
canonical_is begins [] = refl
canonical_is true (item ∷ items) =
    append_assoc (stream_header item.version) (canonical item.version item.command) (canonical_from (is_end item.command) items)
    ∙ ap (λ (l : List ℕ). stream_header item.version ++ (canonical item.version item.command ++ l)) (canonical_is (is_end item.command) items)
canonical_is false (item ∷ items) = ap (λ (l : List ℕ). canonical item.version item.command ++ l) (canonical_is (is_end item.command) items)

-- What is due where items stand, and whether the first begins a stream.
abbrev state_of : ℕ → Bool → Option ℕ
state_of version true = None
state_of version false = Some version

record Stand (version : ℕ) (begins : Bool) (items : List Item) : Type 0 where
  runs : Runs (state_of version begins) (item_lines begins items)
  ends : due_after (state_of version begins) (item_lines begins items) ≡ None

state_same : (version : ℕ) (c : Command) (b : Bool) → is_end c ≡ b → due_behind version c ≡ state_of version b
state_same version c true e = ap (λ (t : Bool). if t then None else Some version) e
state_same version c false e = ap (λ (t : Bool). if t then None else Some version) e

stand : (version : ℕ) (begins : Bool) (items : List Item) → StandsIn (due_by version begins) items → Stand version begins items
stand version true [] s = record { runs = tt; ends = refl }
stand version false [] s = absurd s
stand version true (item ∷ items) (d, r, s) =
    let more = stand item.version (is_end item.command) items s in
    let same : due_behind item.version item.command ≡ state_of item.version (is_end item.command) = state_same item.version item.command (is_end item.command) refl in
    record {
      runs = (r.1, ((refl, r.0), subst (λ (due : Option ℕ). Runs due (item_lines (is_end item.command) items)) (sym same) more.runs));
      ends = ap (λ (due : Option ℕ). due_after due (item_lines (is_end item.command) items)) same ∙ more.ends;
    }
stand version false (item ∷ items) (d, r, s) =
    let more = stand item.version (is_end item.command) items s in
    let same : due_behind item.version item.command ≡ state_of item.version (is_end item.command) = state_same item.version item.command (is_end item.command) refl in
    record {
      runs = ((d, subst (λ (v : ℕ). CanWrite v item.command) d r.0), subst (λ (due : Option ℕ). Runs due (item_lines (is_end item.command) items)) (sym same) more.runs);
      ends = ap (λ (due : Option ℕ). due_after due (item_lines (is_end item.command) items)) same ∙ more.ends;
    }

some_lines : (items : List Item) → items ≢ [] → item_lines true items ≢ []
some_lines [] some e = some refl
some_lines (item ∷ items) some e = absurd cc

-- A whole file as the one file of an input.
one_file : (r : Reading) → r.end ≡ Whole → joined r ended ≡ record { items = r.items ++ []; end = Whole }
one_file r is = ap (λ (e : Ending). joined (record { items = r.items; end = e }) ended) is

input_is : (bytes : List ℕ) → (reads 1 bytes).end ≡ Whole → input (bytes ∷ []) ≡ record { items = (reads 1 bytes).items; end = Whole }
unfolding input input_from
input_is bytes is = one_file (reads 1 bytes) is ∙ ap (λ (items : List Item). record { items = items; end = Whole }) (append-nil (reads 1 bytes).items)

pub whole_has_text : WholeHasText
unfolding text_in canonical_in
whole_has_text bytes are is =
    let items : List Item = (reads 1 bytes).items in
    let same : input (bytes ∷ []) ≡ record { items = items; end = Whole } = input_is bytes is in
    let ends : (input (bytes ∷ [])).end ≡ Whole = ap (λ (r : Reading). r.end) same in
    let stands : StandsIn HeaderDue items = subst (λ (r : Reading). StandsIn HeaderDue r.items) same (input_stands (bytes ∷ []) (are, tt) ends) in
    let some : items ≢ [] = subst (λ (r : Reading). r.items ≢ []) same (input_some (bytes ∷ []) (λ e. cc) (are, tt) ends) in
    let st = stand 0 true items stands in
    let w : WholeLines (item_lines true items) = whole (item_lines true items) st.runs st.ends (some_lines items some) in (
      record { streams = w.streams; lawful = w.lawful; text = text_is true items ∙ ap (λ (l : List Line). text_of_lines l) w.are },
      ap (λ (l : List Line). bytes_of_lines l) (sym w.are) ∙ sym (canonical_is true items),
    )
