-- What words say of files of bytes is what they say of what was read of them; that this is so
-- without names; and what compose says over a base with fewer contents.
use Rattle.std.specs.Prelude.{◌≡◌, ◌↔◌, ℕ, List, [], ◌∷◌}
use Rattle.std.proofs.Common.{refl, sym, ap, ap₂, subst, ◌∙◌}
use Rattle.send_model.specs.Reading.{Item}
use Rattle.send_model.specs.Store.{Store}
use Rattle.send_model.specs.Due.{Due, DoneWhole, RefusedAt, TooLong, TooMuch, audit_due, accepted_line}
use Rattle.send_model.specs.Words.{Request, Compose, Audit, Dump, Export, Gen, Trial, due, whole_of, EndSays, StandsBefore, StandsRefused, StandsCut}
use Rattle.send_model.specs.Exported.{exported}
use Rattle.send_model.specs.Command.{Command}
use Rattle.send_model.specs.Thinned.{thinned}
use Rattle.send_model.specs.Headline.{IsStoppedOf, whole_output_of}
use Rattle.send_model.specs.Overridden.{overridden_items}
use Rattle.send_model.specs.Sources.{Sources, sources, due_of, whole_from, StandsBeforeOf, StandsRefusedOf, StandsCutOf, EndSaysOf, SaysOfFiles, NoOverridesChangeNothing, ThinnedEnds}
use Rattle.send_model.proofs.ThinnedLaws.{looks_outside}
use Rattle.send_model.proofs.Overriding.{with_none}

due_same : (request : Request) (base : Store ℕ) (files : List (List ℕ)) → due_of request base (sources files) ≡ due request base files
unfolding due audit_due
due_same (Compose store at) base files = refl
due_same (Audit guards store at) base files = refl
due_same (Dump at) base files = refl
due_same (Export store at) base files = refl
due_same (Gen count seed) base files = refl
due_same (Trial count seed) base files = refl

whole_same : (request : Request) (base : Store ℕ) (files : List (List ℕ)) → whole_from request base (sources files) ≡ whole_of request base files
unfolding whole_of accepted_line exported
whole_same (Compose store at) base files = refl
whole_same (Audit guards store at) base files = refl
whole_same (Dump at) base files = refl
whole_same (Export store at) base files = refl
whole_same (Gen count seed) base files = refl
whole_same (Trial count seed) base files = refl

before_same : (request : Request) (base : Store ℕ) (files : List (List ℕ)) (written : List ℕ) → StandsBeforeOf request base (sources files) written ↔ StandsBefore request base files written
unfolding exported
before_same (Compose store at) base files written = (λ s. s, λ s. s)
before_same (Audit guards store at) base files written = (λ s. s, λ s. s)
before_same (Dump at) base files written = (λ s. s, λ s. s)
before_same (Export store at) base files written = (λ s. s, λ s. s)
before_same (Gen count seed) base files written = (λ s. s, λ s. s)
before_same (Trial count seed) base files written = (λ s. s, λ s. s)

refused_same : (request : Request) (base : Store ℕ) (files : List (List ℕ)) (written : List ℕ) → StandsRefusedOf request base (sources files) written ↔ StandsRefused request base files written
unfolding exported
refused_same (Compose store at) base files written = (λ s. s, λ s. s)
refused_same (Audit guards store at) base files written = (λ s. s, λ s. s)
refused_same (Dump at) base files written = (λ s. s, λ s. s)
refused_same (Export store at) base files written = (λ s. s, λ s. s)
refused_same (Gen count seed) base files written = (λ s. s, λ s. s)
refused_same (Trial count seed) base files written = (λ s. s, λ s. s)

cut_same : (request : Request) (base : Store ℕ) (files : List (List ℕ)) (written : List ℕ) → StandsCutOf request base (sources files) written ↔ StandsCut request base files written
unfolding audit_due accepted_line exported
cut_same (Compose store at) base files written = (λ s. s, λ s. s)
cut_same (Audit guards store at) base files written = (λ s. s, λ s. s)
cut_same (Dump at) base files written = (λ s. s, λ s. s)
cut_same (Export store at) base files written = (λ s. s, λ s. s)
cut_same (Gen count seed) base files written = (λ s. s, λ s. s)
cut_same (Trial count seed) base files written = (λ s. s, λ s. s)

says_same : (request : Request) (base : Store ℕ) (files : List (List ℕ)) (answer : Due) (written : List ℕ) → EndSaysOf request base (sources files) answer written ↔ EndSays request base files answer written
says_same request base files DoneWhole written =
    (λ s. subst (λ (all : List ℕ). written ≡ all) (whole_same request base files) s, λ s. subst (λ (all : List ℕ). written ≡ all) (sym (whole_same request base files)) s)
says_same request base files (RefusedAt verdict) written = refused_same request base files written
says_same request base files (TooLong file) written = before_same request base files written
says_same request base files (TooMuch sum) written = before_same request base files written

pub says_of_files : (request : Request) (base : Store ℕ) (files : List (List ℕ)) → SaysOfFiles request base files
says_of_files request base files = record {
  due = due_same request base files;
  whole = whole_same request base files;
  says = λ answer written. says_same request base files answer written;
  before = λ written. before_same request base files written;
  cut = λ written. cut_same request base files written;
}

-- ---- without overrides

same_items : (items : List Item) → overridden_items [] items ≡ items
same_items [] = refl
same_items (item ∷ items) = ap₂ (λ (x : Item) (r : List Item). x ∷ r) (ap (λ (c : Command). record item { command = c }) (with_none item.command)) (same_items items)

pub no_overrides_change_nothing : NoOverridesChangeNothing
no_overrides_change_nothing read =
    let at : List Item → List Item → Sources = λ all some. record {
      reading = record { items = all; end = read.reading.end };
      first_long = read.first_long;
      limited = record { items = some; stop = read.limited.stop };
      first = read.first;
    } in
    ap₂ at (same_items read.reading.items) (same_items read.limited.items)

-- ---- compose over a thinner base

pub thinned_ends : ThinnedEnds
thinned_ends keep base read apart kept =
    let enough = looks_outside keep base read.reading apart kept in
    record {
      due = λ store first. sym (enough.same.due read.first_long);
      says = λ store first answer written. one answer written enough.same.output enough.stopped;
      before = λ store first written. enough.stopped written;
      cut = λ store first written. enough.stopped written;
      composed = λ written. enough.composed written;
    }
  where
    one : (answer : Due) (written : List ℕ) → whole_output_of base read.reading ≡ whole_output_of (thinned keep base) read.reading
        → ((bytes : List ℕ) → IsStoppedOf (thinned keep base) read.reading bytes ↔ IsStoppedOf base read.reading bytes)
        → EndSaysOf (Compose 0 0) (thinned keep base) read answer written ↔ EndSaysOf (Compose 0 0) base read answer written
    one DoneWhole written same stopped = (λ s. s ∙ sym same, λ s. s ∙ same)
    one (RefusedAt verdict) written same stopped = stopped written
    one (TooLong file) written same stopped = stopped written
    one (TooMuch sum) written same stopped = stopped written
