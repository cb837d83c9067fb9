-- Calls that ask inputs, one list of them after another.
use Rattle.std.proofs.Common.{◌≡◌, ℕ, ◌+◌, ◌<◌, Bool, true, false, not, if◌then◌else◌, List, [], ◌∷◌, ◌++◌, length, take, drop, set, get_or, Option, refl, sym, ap, subst, ◌∙◌, append_assoc, append-nil, take-append-drop, length-set}
use Rattle.std.proofs.lemmas.Bool.{false≢true}
use Rattle.std.proofs.lemmas.Grind.{take_at_read}
use Rattle.std.proofs.lemmas.List.{get_or-set_same, set-get_or, set-set}
use Rattle.std.proofs.lemmas.List.Elements.{filter-append}
use Rattle.std.specs.List.{AllByRecursion, filter}
use Rattle.sx_base.specs.Asks.{Ask, ask, IsReadOn, IsReadOnce, AreReadOnce, first_asks, IsIfAgain, IsAgain, IsReadOnWithRanges, IsReadWithRanges, AreReadWithRanges, ReadTo, nowhere, AreReadInTurn}
use Rattle.sx_base.specs.Later.{AskedOnly}
use Rattle.sx_base.specs.declared.inputs.Inputs as reading

-- ---- between moments

module _ {I : Type 0} (inputs : reading.Ghosts I) where
  -- where nothing was asked
  pub asked_nothing : {P : List Ask → Type 0} (at : I) → P [] → AskedOnly inputs at at P
  asked_nothing at none before was = ([], subst (inputs.asked at) (sym (append-nil before)) was, none)

  -- first this and then that
  pub asked_then : {P Q R : List Ask → Type 0} {old middle new : I} → ((xs ys : List Ask) → P xs → Q ys → R (xs ++ ys))
      → AskedOnly inputs old middle P → AskedOnly inputs middle new Q → AskedOnly inputs old new R
  asked_then {new = new} joined first second before was =
      let one = first before was in
      let two = second (before ++ one.0) one.1 in
      (one.0 ++ two.0, subst (inputs.asked new) (append_assoc before one.0 two.0) two.1, joined one.0 two.0 one.2 two.2)

  -- and what follows
  pub asked_so : {P Q : List Ask → Type 0} {old new : I} → ((asks : List Ask) → P asks → Q asks) → AskedOnly inputs old new P → AskedOnly inputs old new Q
  asked_so follows only before was = let one = only before was in (one.0, one.1, follows one.0 one.2)

-- ---- one file

pub read_none : (name : List ℕ) (from : ℕ) → IsReadOn name from [] from
unfolding IsReadOn
read_none name from = refl

pub read_then : (name : List ℕ) (from middle to : ℕ) (xs ys : List Ask) → IsReadOn name from xs middle → IsReadOn name middle ys to → IsReadOn name from (xs ++ ys) to
unfolding IsReadOn
read_then name from middle to [] ys first second = subst (λ n. IsReadOn name n ys to) first second
read_then name from middle to (x ∷ xs) ys first second = (first.0, read_then name (from + x.count) middle to xs ys first.1 second)

pub read_one : (name : List ℕ) (from count : ℕ) → IsReadOn name from (ask name from count ∷ []) (from + count)
unfolding IsReadOn
read_one name from count = (refl, refl)

-- What is read on is not read again.
pub read_first : (name : List ℕ) (from : ℕ) (asks : List Ask) (to : ℕ) → IsReadOn name from asks to → first_asks asks ≡ asks
unfolding IsReadOn
read_first name from [] to on = refl
read_first name from (a ∷ asks) to on =
    let rest = read_first name (from + a.count) asks to on.1 in
    ap (λ (x : Ask). filter (λ y. not y.again) (x ∷ asks)) on.0 ∙ ap (λ (l : List Ask). ask name from a.count ∷ l) rest ∙ ap (λ (x : Ask). x ∷ asks) (sym on.0)

pub read_no_range : (told : Option (List (List ℕ × List ℕ))) (names : List (List ℕ)) (name : List ℕ) (from : ℕ) (asks : List Ask) (to : ℕ)
    → IsReadOn name from asks to → AllByRecursion (IsIfAgain told names) asks
unfolding IsReadOn
read_no_range told names name from [] to on = tt
read_no_range told names name from (a ∷ asks) to on =
    ((λ again. absurd (false≢true (sym (ap (λ (x : Ask). x.again) on.0) ∙ again))), read_no_range told names name (from + a.count) asks to on.1)

-- ---- files once

pub once_none : (names : List (List ℕ)) → AreReadOnce names []
unfolding AreReadOnce
once_none [] = refl
once_none (name ∷ names) = ([], [], refl, (0, read_none name 0), once_none names)

pub once_then : (front back : List (List ℕ)) (xs ys : List Ask) → AreReadOnce front xs → AreReadOnce back ys → AreReadOnce (front ++ back) (xs ++ ys)
unfolding AreReadOnce
once_then [] back xs ys first second = subst (λ (l : List Ask). AreReadOnce back (l ++ ys)) (sym first) second
once_then (name ∷ front) back xs ys (one, rest, are, read, once) second =
    (one, rest ++ ys, ap (λ (l : List Ask). l ++ ys) are ∙ append_assoc one rest ys, read, once_then front back rest ys once second)

pub once_one : (name : List ℕ) (asks : List Ask) → IsReadOnce name asks → AreReadOnce (name ∷ []) asks
unfolding AreReadOnce
once_one name asks read = (asks, [], sym (append-nil asks), read, refl)

-- One more of the first files.
pub once_more : (names : List (List ℕ)) (n : ℕ) (xs ys : List Ask) → n < length names → AreReadOnce (take n names) xs → IsReadOnce (get_or names n []) ys
    → AreReadOnce (take (n + 1) names) (xs ++ ys)
once_more names n xs ys less first read =
    subst (λ (l : List (List ℕ)). AreReadOnce l (xs ++ ys)) (sym (take_at_read names n [] less).1) (once_then (take n names) (get_or names n [] ∷ []) xs ys first (once_one (get_or names n []) ys read))

-- Where only the first files were read.
pub once_front : (names : List (List ℕ)) (n : ℕ) (xs : List Ask) → AreReadOnce (take n names) xs → AreReadOnce names xs
once_front names n xs first =
    subst (λ (l : List (List ℕ)). AreReadOnce l xs) (take-append-drop n names)
    (subst (λ (l : List Ask). AreReadOnce (take n names ++ drop n names) l) (append-nil xs) (once_then (take n names) (drop n names) xs [] first (once_none (drop n names))))

-- ---- ranges that are read again

pub every_append : {X : Type 0} (P : X → Type 0) (xs ys : List X) → AllByRecursion P xs → AllByRecursion P ys → AllByRecursion P (xs ++ ys)
every_append P [] ys first second = second
every_append P (x ∷ xs) ys first second = (first.0, every_append P xs ys first.1 second)

module _ (told : Option (List (List ℕ × List ℕ))) (names : List (List ℕ)) where
  pub again_no_first : (asks : List Ask) → AllByRecursion (IsAgain told names) asks → first_asks asks ≡ []
  again_no_first [] each = refl
  again_no_first (a ∷ asks) each = ap (λ (b : Bool). if not b then a ∷ first_asks asks else first_asks asks) each.0.0 ∙ again_no_first asks each.1

  pub again_ranges : (asks : List Ask) → AllByRecursion (IsAgain told names) asks → AllByRecursion (IsIfAgain told names) asks
  again_ranges [] each = tt
  again_ranges (a ∷ asks) each = ((λ is. each.0.1), again_ranges asks each.1)

-- ---- a file with ranges

module _ (told : Option (List (List ℕ × List ℕ))) (names : List (List ℕ)) where
  pub ranges_none : (name : List ℕ) (from : ℕ) → IsReadOnWithRanges told names name from [] from
  ranges_none name from = record { on = read_none name from; ranges = tt }

  pub ranges_read : (name : List ℕ) (from middle to : ℕ) (xs ys : List Ask) → IsReadOnWithRanges told names name from xs middle → IsReadOn name middle ys to
      → IsReadOnWithRanges told names name from (xs ++ ys) to
  ranges_read name from middle to xs ys first second = record {
    on = subst (λ (l : List Ask). IsReadOn name from l to) (sym (filter-append (λ a. not a.again) xs ys)) (read_then name from middle to (first_asks xs) (first_asks ys) first.on
        (subst (λ (l : List Ask). IsReadOn name middle l to) (sym (read_first name middle ys to second)) second));
    ranges = every_append (IsIfAgain told names) xs ys first.ranges (read_no_range told names name middle ys to second);
  }

  pub ranges_again : (name : List ℕ) (from to : ℕ) (xs ys : List Ask) → IsReadOnWithRanges told names name from xs to → AllByRecursion (IsAgain told names) ys
      → IsReadOnWithRanges told names name from (xs ++ ys) to
  ranges_again name from to xs ys first second = record {
    on = subst (λ (l : List Ask). IsReadOn name from l to)
        (sym (filter-append (λ a. not a.again) xs ys ∙ ap (λ (l : List Ask). first_asks xs ++ l) (again_no_first told names ys second) ∙ append-nil (first_asks xs))) first.on;
    ranges = every_append (IsIfAgain told names) xs ys first.ranges (again_ranges told names ys second);
  }

  -- The first files were read once, and ranges of any of them again.
  abbrev pub FrontWithRanges : (n : ℕ) (asks : List Ask) → Type 0
  FrontWithRanges n asks = AreReadOnce (take n names) (first_asks asks) × AllByRecursion (IsIfAgain told names) asks

  pub front_none : FrontWithRanges 0 []
  front_none = (once_none [], tt)

  pub front_more : (n : ℕ) (xs ys : List Ask) → n < length names → FrontWithRanges n xs → IsReadWithRanges told names (get_or names n []) ys → FrontWithRanges (n + 1) (xs ++ ys)
  front_more n xs ys less first second = (
    subst (λ (l : List Ask). AreReadOnce (take (n + 1) names) l) (sym (filter-append (λ a. not a.again) xs ys)) (once_more names n (first_asks xs) (first_asks ys) less first.0 (second.0, second.1.on)),
    every_append (IsIfAgain told names) xs ys first.1 second.1.ranges,
  )

  pub front_all : (n : ℕ) (xs : List Ask) → FrontWithRanges n xs → AreReadWithRanges told names xs
  front_all n xs front = record { once = once_front names n (first_asks xs) front.0; ranges = front.1 }

-- ---- files in turn

pub turn_none : (from : List ReadTo) → AreReadInTurn from [] from
unfolding AreReadInTurn
turn_none from = refl

pub turn_then : (from middle to : List ReadTo) (xs ys : List Ask) → AreReadInTurn from xs middle → AreReadInTurn middle ys to → AreReadInTurn from (xs ++ ys) to
unfolding AreReadInTurn
turn_then from middle to [] ys first second = subst (λ (l : List ReadTo). AreReadInTurn l ys to) first second
turn_then from middle to (x ∷ xs) ys (n, less, is, first) second = (n, less, is, turn_then (set from n (record { name = x.name; place = x.place + x.count })) middle to xs ys first second)

-- One of them is read on.
pub turn_one : (from : List ReadTo) (n : ℕ) (asks : List Ask) (to : ℕ) → n < length from → IsReadOn (get_or from n nowhere).name (get_or from n nowhere).place asks to
    → AreReadInTurn from asks (set from n (record { name = (get_or from n nowhere).name; place = to }))
unfolding AreReadInTurn IsReadOn
turn_one from n [] to less on = ap (λ (p : ℕ). set from n (record { name = (get_or from n nowhere).name; place = p })) on ∙ set-get_or from n nowhere
turn_one from n (a ∷ asks) to less on =
    let here : ReadTo = get_or from n nowhere in
    let next : ReadTo = record { name = a.name; place = a.place + a.count } in
    let name_is : a.name ≡ here.name = ap (λ (x : Ask). x.name) on.0 in
    let next_is : next ≡ record { name = here.name; place = here.place + a.count } = (λ i. record { name = name_is i; place = ap (λ (x : Ask). x.place) on.0 i + a.count }) in
    let there : get_or (set from n next) n nowhere ≡ next = get_or-set_same from n next nowhere less in
    let rest = turn_one (set from n next) n asks to (subst (λ (m : ℕ). n < m) (sym (length-set from n next)) less)
    (subst (λ (r : ReadTo). IsReadOn r.name r.place asks to) (sym (there ∙ next_is)) on.1) in (
      n,
      less,
      on.0,
      subst (λ (l : List ReadTo). AreReadInTurn (set from n next) asks l)
          ((λ i. set (set from n next) n (record { name = (ap (λ (r : ReadTo). r.name) there ∙ name_is) i; place = to })) ∙ set-set from n next (record { name = here.name; place = to })) rest,
    )
