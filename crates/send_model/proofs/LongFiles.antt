-- Which file is too long, which one is named, and what is read of files up to it.
use Rattle.std.specs.Prelude.{◌≡◌, ℕ, ◌+◌, Bool, true, false, List, [], ◌∷◌, ◌++◌, length, take, Option, None, Some, if◌then◌else◌}
use Rattle.std.proofs.Common.{refl, sym, ap, subst, ◌∙◌, arith, append-nil}
use Rattle.send_model.specs.Refusal.{Refusal, Truncated}
use Rattle.send_model.specs.Reading.{Item, Ending, Whole, Faulty, Reading, reads, joined, input_from}
use Rattle.send_model.specs.Lengths.{limit, is_truncated, only_ends, is_too_long, unless_faulty, too_long_from}
use Rattle.send_model.specs.Due.{Stop, AtEnd, AtFault, AtLimit, Limited, then_limited, limited_from}
use Rattle.send_model.specs.LengthLaws.{FilesAreMeasured, AreWithin, IsFirstLong, NamedIsFirstLong, FirstLongIsNamed, NoneIsLong, UnnamedIsWithin, WithinIsUnnamed, NamedStopsReading, StoppedIsNamed, ReadToTheLimit}
use Rattle.send_model.proofs.Sorts.{same_inside}
use Rattle.send_model.proofs.TooLong.{short_fits, fault_fits, long_is}

-- ---- one file

truncated_is : (r : Refusal) → is_truncated r ≡ true → r ≡ Truncated
truncated_is Truncated e = refl
truncated_is r e = cc

pub files_are_measured : FilesAreMeasured
files_are_measured number bytes = record {
  whole = λ long end. long_is number bytes long (ap only_ends end);
  cut = λ verdict long end r. long_is number bytes long (ap only_ends end ∙ ap is_truncated r);
  short = λ less. short_fits number bytes less;
  broken = λ verdict end other. fault_fits number bytes verdict (λ t. absurd (other (truncated_is verdict.refusal t))) end;
}

-- ---- the file that is named

abbrev Named : ℕ → Bool → Ending → Option ℕ → Option ℕ
Named number b ending rest = if b then Some number else unless_faulty ending rest

pub named_is_first_long : NamedIsFirstLong
unfolding too_long_from
named_is_first_long number n [] e = cc
named_is_first_long number n (bytes ∷ files) e = one (is_too_long number bytes) refl (reads number bytes).end refl e (λ q. named_is_first_long (number + 1) n files q)
  where
    one : (b : Bool) → is_too_long number bytes ≡ b → (ending : Ending) → (reads number bytes).end ≡ ending
        → Named number b ending (too_long_from (number + 1) files) ≡ Some n
        → (too_long_from (number + 1) files ≡ Some n → IsFirstLong (number + 1) n files)
        → IsFirstLong number n (bytes ∷ files)
    one true q ending w f more =
        let k : number ≡ n = same_inside f in
        record { before = []; bytes = bytes; after = files; parts = refl; place = omega (arith, k); within = tt; long = subst (λ (m : ℕ). is_too_long m bytes ≡ true) k q }
    one false q Whole w f more =
        let r = more f in
        let p = r.place in
        record { before = bytes ∷ r.before; bytes = r.bytes; after = r.after; parts = ap (λ (l : List (List ℕ)). bytes ∷ l) r.parts; place = omega (arith, p); within = (q, w, r.within); long = r.long }
    one false q (Faulty verdict) w f more = cc

named_at : (number n : ℕ) (before : List (List ℕ)) (bytes : List ℕ) (after : List (List ℕ)) → n ≡ number + length before → AreWithin number before → is_too_long n bytes ≡ true
    → too_long_from number (before ++ bytes ∷ after) ≡ Some n
unfolding too_long_from
named_at number n [] bytes after place w long =
    let k : n ≡ number = omega (arith, place) in
    ap (λ (b : Bool). Named number b (reads number bytes).end (too_long_from (number + 1) after)) (subst (λ (m : ℕ). is_too_long m bytes ≡ true) k long) ∙ ap Some (sym k)
named_at number n (x ∷ before) bytes after place w long =
    let k : n ≡ number + 1 + length before = omega (arith, place) in
    let rest : Option ℕ = too_long_from (number + 1) (before ++ bytes ∷ after) in
    ap (λ (b : Bool). Named number b (reads number x).end rest) w.0 ∙ ap (λ (e : Ending). unless_faulty e rest) w.1 ∙ named_at (number + 1) n before bytes after k w.2 long

pub first_long_is_named : FirstLongIsNamed
first_long_is_named number n files first =
    ap (too_long_from number) first.parts ∙ named_at number n first.before first.bytes first.after first.place first.within first.long

pub unnamed_is_within : UnnamedIsWithin
unfolding too_long_from
unnamed_is_within number [] e = tt
unnamed_is_within number (bytes ∷ files) e = one (is_too_long number bytes) refl (reads number bytes).end refl e (λ q. unnamed_is_within (number + 1) files q)
  where
    one : (b : Bool) → is_too_long number bytes ≡ b → (ending : Ending) → (reads number bytes).end ≡ ending
        → Named number b ending (too_long_from (number + 1) files) ≡ None
        → (too_long_from (number + 1) files ≡ None → NoneIsLong (number + 1) files)
        → NoneIsLong number (bytes ∷ files)
    one true q ending w f more = cc
    one false q Whole w f more = (q, λ x. more f)
    one false q (Faulty verdict) w f more = (q, λ x. cc)

pub within_is_unnamed : WithinIsUnnamed
unfolding too_long_from
within_is_unnamed number [] w = refl
within_is_unnamed number (bytes ∷ files) w =
    ap (λ (b : Bool). Named number b (reads number bytes).end (too_long_from (number + 1) files)) w.0
    ∙ one (reads number bytes).end refl (λ x. within_is_unnamed (number + 1) files (w.1 x))
  where
    one : (ending : Ending) → (reads number bytes).end ≡ ending → ((reads number bytes).end ≡ Whole → too_long_from (number + 1) files ≡ None)
        → unless_faulty ending (too_long_from (number + 1) files) ≡ None
    one Whole e more = more e
    one (Faulty verdict) e more = refl

-- ---- what is read

-- What is read of a file and of those after it, by whether it is too long and by how its reading
-- ends.
abbrev pub limited_by : Bool → List Item → ℕ → List Item → Ending → Limited → Limited
limited_by b cut number items ending rest = if b then record { items = cut; stop = AtLimit number } else then_limited items ending rest

pub named_stops_reading : NamedStopsReading
unfolding too_long_from limited_from
named_stops_reading number n [] e = cc
named_stops_reading number n (bytes ∷ files) e = one (is_too_long number bytes) (reads number bytes).items (reads number bytes).end e (λ q. named_stops_reading (number + 1) n files q)
  where
    one : (b : Bool) (items : List Item) (ending : Ending) → Named number b ending (too_long_from (number + 1) files) ≡ Some n
        → (too_long_from (number + 1) files ≡ Some n → (limited_from (number + 1) files).stop ≡ AtLimit n)
        → (limited_by b (reads number (take limit bytes)).items number items ending (limited_from (number + 1) files)).stop ≡ AtLimit n
    one true items ending f more = ap AtLimit (same_inside f)
    one false items Whole f more = more f
    one false items (Faulty verdict) f more = cc

at_limit_is : (a b : ℕ) → AtLimit a ≡ AtLimit b → a ≡ b
at_limit_is a b e = ap file_of e
  where
    file_of : Stop → ℕ
    file_of AtEnd = 0
    file_of (AtFault verdict) = 0
    file_of (AtLimit file) = file

pub stopped_is_named : StoppedIsNamed
unfolding too_long_from limited_from
stopped_is_named number n [] e = cc
stopped_is_named number n (bytes ∷ files) e = one (is_too_long number bytes) (reads number bytes).items (reads number bytes).end e (λ q. stopped_is_named (number + 1) n files q)
  where
    one : (b : Bool) (items : List Item) (ending : Ending)
        → (limited_by b (reads number (take limit bytes)).items number items ending (limited_from (number + 1) files)).stop ≡ AtLimit n
        → ((limited_from (number + 1) files).stop ≡ AtLimit n → too_long_from (number + 1) files ≡ Some n)
        → Named number b ending (too_long_from (number + 1) files) ≡ Some n
    one true items ending f more = ap Some (at_limit_is number n f)
    one false items Whole f more = more f
    one false items (Faulty verdict) f more = cc

-- ---- the commands before the limit

-- The items of a file alone.
alone_items : (r : Reading) (number : ℕ) → (joined r (input_from number [])).items ≡ r.items
unfolding input_from
alone_items r number = one r.items r.end
  where
    one : (items : List Item) (ending : Ending) → (joined (record { items = items; end = ending }) (input_from number [])).items ≡ items
    one items Whole = append-nil items
    one items (Faulty verdict) = refl

items_at : (number n : ℕ) (before : List (List ℕ)) (bytes : List ℕ) (after : List (List ℕ)) → n ≡ number + length before → AreWithin number before → is_too_long n bytes ≡ true
    → (limited_from number (before ++ bytes ∷ after)).items ≡ (input_from number (before ++ take limit bytes ∷ [])).items
unfolding limited_from input_from
items_at number n [] bytes after place w long =
    let k : n ≡ number = omega (arith, place) in
    let cut : Reading = reads number (take limit bytes) in
    ap (λ (b : Bool). (limited_by b cut.items number (reads number bytes).items (reads number bytes).end (limited_from (number + 1) after)).items) (subst (λ (m : ℕ). is_too_long m bytes ≡ true) k long)
    ∙ sym (alone_items cut (number + 1))
items_at number n (x ∷ before) bytes after place w long =
    let k : n ≡ number + 1 + length before = omega (arith, place) in
    let rest : Limited = limited_from (number + 1) (before ++ bytes ∷ after) in
    let others : Reading = input_from (number + 1) (before ++ take limit bytes ∷ []) in
    let r : Reading = reads number x in
    ap (λ (b : Bool). (limited_by b (reads number (take limit x)).items number r.items r.end rest).items) w.0
    ∙ ap (λ (e : Ending). (then_limited r.items e rest).items) w.1
    ∙ ap (λ (l : List Item). r.items ++ l) (items_at (number + 1) n before bytes after k w.2 long)
    ∙ sym (ap (λ (e : Ending). (joined (record { items = r.items; end = e }) others).items) w.1)

pub read_to_the_limit : ReadToTheLimit
read_to_the_limit number n files first =
    ap (λ (l : List (List ℕ)). (limited_from number l).items) first.parts
    ∙ items_at number n first.before first.bytes first.after first.place first.within first.long
