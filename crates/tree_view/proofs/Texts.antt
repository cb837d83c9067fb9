-- Text that is added part by part, and where that stops.
use Rattle.std.specs.Prelude.{◌≡◌, ℕ, ◌+◌, ◌<◌, List, [], ◌∷◌, ◌++◌, Option, Result, Ok, Err, IsErrAnd, length, take}
use Rattle.std.specs.List.{flat_map}
use Rattle.std.proofs.Common.{sym, ap, subst, ◌∙◌, append_assoc, append-nil, length-append, length-take, arith, inl, inr}
use Rattle.std.proofs.lemmas.Result.{err_from_is_err_and}
use Rattle.std.proofs.KnownBytes.{Appends-nil, Appends-trans}
use Rattle.send_model.specs.Headline.{IsFrontOf, IsProperFrontOf}
use Rattle.send_model.proofs.Fronts.{part_front}
use Rattle.sx_base.specs.Calls.{Wrote}
use Rattle.sx_base.specs.Causes.{Rose}
use Rattle.sx_base.specs.declared.outcome.Outcome.{Outcome}
use Rattle.sx_base.specs.declared.outcome.Outcome.TheVariants as ended
use Rattle.stream_dump.specs.Steps.{StopsWriting}
use Rattle.stream_dump.proofs.Unpacked.{EndsWith}
use Rattle.tree_view.specs.Printing.{TextAdded, IsCut, Prints, PrintCaused}
use Rattle.tree_view.proofs.Unpacked.{AddsText}

-- ---- front parts

proper_part : (all sent text rest : List ℕ) (count : ℕ) → count < length text → all ≡ (sent ++ text) ++ rest → IsProperFrontOf all (sent ++ take count text)
proper_part all sent text rest count less e =
    let front : IsFrontOf all (sent ++ take count text) = part_front all sent text rest count e in
    let whole : length all ≡ length sent + length text + length rest = ap length e ∙ length-append (sent ++ text) rest ∙ ap (λ (n : ℕ). n + length rest) (length-append sent text) in
    let some : length (sent ++ take count text) ≡ length sent + length (take count text) = length-append sent (take count text) in
    let own : length (sent ++ take count text) ≡ length (take front.count all) = ap length front.written_is in
    record {
      count = front.count;
      within = omega (arith, less, whole, some, own, front.within, length-take count text, length-take front.count all);
      written_is = front.written_is;
    }

-- What is cut off of some bytes is cut off of all, behind what was written before them.
pub cut_part : (all sent text rest written : List ℕ) (outcome : Outcome) → all ≡ (sent ++ text) ++ rest → IsCut outcome text written → IsCut outcome all (sent ++ written)
cut_part all sent text rest written ended.OutputFault e cut = subst (λ (w : List ℕ). IsProperFrontOf all (sent ++ w)) (sym cut.written_is) (proper_part all sent text rest cut.count cut.within e)
cut_part all sent text rest written ended.NoMemory e cut = subst (λ (w : List ℕ). IsFrontOf all (sent ++ w)) (sym cut.written_is) (part_front all sent text rest cut.count e)
cut_part all sent text rest written ended.Done e cut = absurd cut
cut_part all sent text rest written (ended.Refused verdict) e cut = absurd cut
cut_part all sent text rest written ended.InputFault e cut = absurd cut
cut_part all sent text rest written (ended.InputTooLong file) e cut = absurd cut
cut_part all sent text rest written (ended.TooMuch sum) e cut = absurd cut
cut_part all sent text rest written (ended.InputChanged file place) e cut = absurd cut

-- ---- two parts

-- No text.
pub none_added : (old : List ℕ) (taken : Option (List ℕ)) → TextAdded [] old old taken taken
none_added old taken = record { sent = []; appends = Appends-nil taken; bytes_are = sym (append-nil old) }

pub added_then : (a b old mid new : List ℕ) (first then last : Option (List ℕ)) → TextAdded a old mid first then → TextAdded b mid new then last → TextAdded (a ++ b) old new first last
added_then a b old mid new first then last x y = record {
  sent = x.sent ++ y.sent;
  appends = Appends-trans first then last x.sent y.sent x.appends y.appends;
  bytes_are = append_assoc x.sent y.sent new ∙ ap (λ (l : List ℕ). x.sent ++ l) y.bytes_are ∙ sym (append_assoc x.sent mid b) ∙ ap (λ (l : List ℕ). l ++ b) x.bytes_are ∙ append_assoc old a b;
}

-- The first part stops.
pub stops_early : (a b old new : List ℕ) (first last : Option (List ℕ)) (before now : ℕ) (outcome : Outcome) → AddsText a old new first last before now (Err outcome) → AddsText (a ++ b) old new first last before now (Err outcome)
stops_early a b old new first last before now outcome (why, (written, appends, front)) =
    (why, (written, appends, cut_part (old ++ (a ++ b)) [] (old ++ a) b written outcome (sym (append_assoc old a b)) front))

-- The same of a text that begins with it.
pub stops_whole : (all part rest old new : List ℕ) (first last : Option (List ℕ)) (before now : ℕ) (outcome : Outcome) → part ++ rest ≡ all → AddsText part old new first last before now (Err outcome)
    → AddsText all old new first last before now (Err outcome)
stops_whole all part rest old new first last before now outcome whole stops =
    subst (λ (l : List ℕ). AddsText l old new first last before now (Err outcome)) whole (stops_early part rest old new first last before now outcome stops)

-- The second does, or is added too.
pub then_adds : (a b old mid new : List ℕ) (first then last : Option (List ℕ)) (before now late : ℕ) (result : Result (Unit {0}) Outcome) → TextAdded a old mid first then → now ≡ before
    → AddsText b mid new then last now late result → AddsText (a ++ b) old new first last before late result
then_adds a b old mid new first then last before now late (Ok done) x steady y = added_then a b old mid new first then last x y
then_adds a b old mid new first then last before now late (Err outcome) x steady (why, (written, appends, front)) =
    let same : (old ++ (a ++ b)) ≡ (x.sent ++ (mid ++ b)) ++ [] = sym (append_assoc old a b) ∙ ap (λ (l : List ℕ). l ++ b) (sym x.bytes_are) ∙ append_assoc x.sent mid b ∙ sym (append-nil (x.sent ++ (mid ++ b))) in (
      subst (λ (n : ℕ). StopsWriting n late outcome) steady why,
      (x.sent ++ written, Appends-trans first then last x.sent written x.appends appends, cut_part (old ++ (a ++ b)) x.sent (mid ++ b) [] written outcome same front),
    )

pub then_stops : (a b old mid new : List ℕ) (first then last : Option (List ℕ)) (before now late : ℕ) (outcome : Outcome) → TextAdded a old mid first then → now ≡ before
    → AddsText b mid new then last now late (Err outcome) → AddsText (a ++ b) old new first last before late (Err outcome)
then_stops a b old mid new first then last before now late outcome x steady stops = then_adds a b old mid new first then last before now late (Err outcome) x steady stops

-- A line was gathered, and then what was gathered is written where it is much.
pub line_added : (text old mid new : List ℕ) (first last : Option (List ℕ)) (before now : ℕ) (result : Result (Unit {0}) Outcome) → mid ≡ old ++ text → AddsText [] mid new first last before now result
    → AddsText text old new first last before now result
line_added text old mid new first last before now (Ok done) is x = record { sent = x.sent; appends = x.appends; bytes_are = x.bytes_are ∙ append-nil mid ∙ is }
line_added text old mid new first last before now (Err outcome) is (why, (written, appends, front)) =
    (why, (written, appends, subst (λ (l : List ℕ). IsCut outcome l written) (append-nil mid ∙ is) front))

-- A stop that is handed on.
pub handed_on : (text old new : List ℕ) (first last : Option (List ℕ)) (before now : ℕ) (answer : Result (Unit {0}) Outcome) (outcome : Outcome) → IsErrAnd answer (λ o. o ≡ outcome)
    → AddsText text old new first last before now (Err outcome) → AddsText text old new first last before now answer
handed_on text old new first last before now answer outcome is stops =
    let e = err_from_is_err_and answer is in
    subst (λ (r : Result (Unit {0}) Outcome). AddsText text old new first last before now r) (sym (e.1 ∙ ap (λ (o : Outcome). Err o) e.2)) stops

-- ---- part by part

-- The text of a list, its first element in front.
pub lines_next : {A : Type 0} (text : A → List ℕ) (xs left : List A) (x : A) → xs ≡ x ∷ left → flat_map text xs ≡ text x ++ flat_map text left
lines_next text xs left x is = ap (flat_map text) is

-- Some of a text is added, and the rest is left.
pub record Printed (all rest old now : List ℕ) (first last : Option (List ℕ)) : Type 0 where
  pub done : List ℕ
  pub added : TextAdded done old now first last
  pub whole : done ++ rest ≡ all

pub printed_first : (all rest old : List ℕ) (taken : Option (List ℕ)) → rest ≡ all → Printed all rest old old taken taken
printed_first all rest old taken is = record { done = []; added = none_added old taken; whole = is }

pub printed_next : (all rest piece left old mid new : List ℕ) (first then last : Option (List ℕ)) → rest ≡ piece ++ left → TextAdded piece mid new then last → Printed all rest old mid first then
    → Printed all left old new first last
printed_next all rest piece left old mid new first then last is more p = record {
  done = p.done ++ piece;
  added = added_then p.done piece old mid new first then last p.added more;
  whole = append_assoc p.done piece left ∙ ap (λ (l : List ℕ). p.done ++ l) (sym is) ∙ p.whole;
}

pub printed_stops : (all rest piece left old mid new : List ℕ) (first then last : Option (List ℕ)) (before now late : ℕ) (outcome : Outcome) → rest ≡ piece ++ left → now ≡ before
    → AddsText piece mid new then last now late (Err outcome) → Printed all rest old mid first then → AddsText all old new first last before late (Err outcome)
printed_stops all rest piece left old mid new first then last before now late outcome is steady stops p =
    subst (λ (l : List ℕ). AddsText l old new first last before late (Err outcome)) (append_assoc p.done piece left ∙ ap (λ (l : List ℕ). p.done ++ l) (sym is) ∙ p.whole)
    (stops_early (p.done ++ piece) left old new first last before late outcome (then_adds p.done piece old mid new first then last before now late (Err outcome) p.added steady stops))

pub printed_all : (all rest old now : List ℕ) (first last : Option (List ℕ)) → rest ≡ [] → Printed all rest old now first last → TextAdded all old now first last
printed_all all rest old now first last is p =
    subst (λ (l : List ℕ). TextAdded l old now first last) (sym (append-nil p.done) ∙ ap (λ (l : List ℕ). p.done ++ l) (sym is) ∙ p.whole) p.added

-- ---- the end

-- All was gathered, and the last of it is written.
pub text_ends : (text start gathered : List ℕ) (first then last : Option (List ℕ)) (before now : ℕ) (result : Outcome) → start ≡ [] → TextAdded text start gathered first then
    → EndsWith gathered ended.Done then last before now result → Wrote first last (Prints text result)
text_ends text start gathered first then last before now result none x (inl (is, appends)) =
    subst (λ (o : Outcome). Wrote first last (Prints text o)) (sym is)
    (x.sent ++ gathered, Appends-trans first then last x.sent gathered x.appends appends, x.bytes_are ∙ ap (λ (l : List ℕ). l ++ text) none)
text_ends text start gathered first then last before now result none x (inr (is, rose, (count, less, appends))) =
    subst (λ (o : Outcome). Wrote first last (Prints text o)) (sym is) (
      x.sent ++ take count gathered,
      Appends-trans first then last x.sent (take count gathered) x.appends appends,
      proper_part text x.sent gathered [] count less (sym (ap (λ (l : List ℕ). l ++ text) none) ∙ sym x.bytes_are ∙ sym (append-nil (x.sent ++ gathered))),
    )

pub text_caused : (gathered : List ℕ) (then last : Option (List ℕ)) (before now late : ℕ) (result : Outcome) → now ≡ before → EndsWith gathered ended.Done then last now late result → PrintCaused before late result
text_caused gathered then last before now late result steady (inl (is, appends)) = subst (λ (o : Outcome). PrintCaused before late o) (sym is) tt
text_caused gathered then last before now late result steady (inr (is, rose, part)) =
    subst (λ (o : Outcome). PrintCaused before late o) (sym is) (subst (λ (n : ℕ). Rose n late) steady rose)

-- Not all could be gathered.
pub text_stops : (text new : List ℕ) (first last : Option (List ℕ)) (before now : ℕ) (outcome : Outcome) → AddsText text [] new first last before now (Err outcome) → Wrote first last (Prints text outcome)
text_stops text new first last before now ended.NoMemory (why, wrote) = wrote
text_stops text new first last before now ended.OutputFault (why, wrote) = wrote
text_stops text new first last before now ended.Done (why, wrote) = absurd why
text_stops text new first last before now (ended.Refused verdict) (why, wrote) = absurd why
text_stops text new first last before now ended.InputFault (why, wrote) = absurd why
text_stops text new first last before now (ended.InputTooLong file) (why, wrote) = absurd why
text_stops text new first last before now (ended.TooMuch sum) (why, wrote) = absurd why
text_stops text new first last before now (ended.InputChanged file place) (why, wrote) = absurd why

pub stop_caused : (text new : List ℕ) (first last : Option (List ℕ)) (before now : ℕ) (outcome : Outcome) → AddsText text [] new first last before now (Err outcome) → PrintCaused before now outcome
stop_caused text new first last before now ended.NoMemory (why, wrote) = tt
stop_caused text new first last before now ended.OutputFault (why, wrote) = why
stop_caused text new first last before now ended.Done (why, wrote) = absurd why
stop_caused text new first last before now (ended.Refused verdict) (why, wrote) = absurd why
stop_caused text new first last before now ended.InputFault (why, wrote) = absurd why
stop_caused text new first last before now (ended.InputTooLong file) (why, wrote) = absurd why
stop_caused text new first last before now (ended.TooMuch sum) (why, wrote) = absurd why
stop_caused text new first last before now (ended.InputChanged file place) (why, wrote) = absurd why
