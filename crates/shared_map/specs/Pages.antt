-- How pages hold the entries of a map, and where a key stands among them.
use Rattle.std.specs.Prelude.{◌≡◌, ◌⊎◌, ℕ, ◌+◌, ◌<◌, ◌≤◌, Bool, true, not, List, [], ◌∷◌, ◌++◌, length, take, drop, slice_index_or}
use Rattle.std.specs.List.{AllByRecursion}
use Rattle.std.specs.Ordering.{is_gt}
use Rattle.std.specs.declared.cmp.Ordering.{Ordering}
use Rattle.std.specs.declared.cmp.Ordering.TheVariants.{Less, Equal, Greater}
use Rattle.send_model.specs.Map.{Map}
use Rattle.shared_map.specs.Sought.{entry_after}

-- The keys rise, so no key comes twice.
abbrev pub Rises : {K V : Type 0} → (K → K → Ordering) → Map K V → Type 0
Rises order [] = Unit {0}
Rises order (e ∷ es) = AllByRecursion (λ f. order e.0 f.0 ≡ Less) es × Rises order es

-- The entries of pages, one page after the other.
abbrev pub joined : {X : Type 0} → List (List X) → List X
joined [] = []
joined (p ∷ ps) = p ++ joined ps

-- No page is empty.
abbrev pub AreFilled : {X : Type 0} → List (List X) → Type 0
AreFilled pages = AllByRecursion (λ p. 0 < length p) pages

-- There are entries, and the first has this key.
abbrev pub BeginsWith : {K V : Type 0} → K → Map K V → Type 0
BeginsWith first [] = ⊥
BeginsWith first (e ∷ es) = e.0 ≡ first

-- What a map keeps of its pages.
pub record AreKept {K V : Type 0} (order : K → K → Ordering) (pages : List (Map K V))
    (len : ℕ) : Type 0 where
  pub rises : Rises order (joined pages)
  pub filled : AreFilled pages
  pub counted : len ≡ length (joined pages)

-- The entry at place i has the key.
pub record IsAt {K V : Type 0} (order : K → K → Ordering) (key : K) (es : Map K V)
    (i : ℕ) : Type 0 where
  pub in_range : i < length es
  pub below : AllByRecursion (λ e. order e.0 key ≡ Less) (take i es)
  pub here : (d : K × V) → order (slice_index_or es i d).0 key ≡ Equal
  pub after : AllByRecursion (λ e. order e.0 key ≡ Greater) (drop (i + 1) es)

-- The key would go to place i.
pub record IsGap {K V : Type 0} (order : K → K → Ordering) (key : K) (es : Map K V)
    (i : ℕ) : Type 0 where
  pub in_range : i ≤ length es
  pub below : AllByRecursion (λ e. order e.0 key ≡ Less) (take i es)
  pub after : AllByRecursion (λ e. order e.0 key ≡ Greater) (drop i es)

-- The key's place is in page i, if it is anywhere.
pub record IsHome {K V : Type 0} (order : K → K → Ordering) (key : K) (pages : List (Map K V))
    (i : ℕ) : Type 0 where
  pub in_range : 0 < length pages → i < length pages
  pub below : AllByRecursion (λ e. order e.0 key ≡ Less) (joined (take i pages))
  pub after : AllByRecursion (λ e. order e.0 key ≡ Greater) (joined (drop (i + 1) pages))

-- The entry of the key stands at a place of a page.
pub record IsThere {K V : Type 0} (order : K → K → Ordering) (key : K) (pages : List (Map K V))
    (page place : ℕ) : Type 0 where
  pub home : IsHome order key pages page
  pub in_range : page < length pages
  pub here : IsAt order key (slice_index_or pages page []) place

-- The key has no entry, and a new one would go to a place of a page. Where there are no pages, it
-- would begin the first.
pub record IsFree {K V : Type 0} (order : K → K → Ordering) (key : K) (pages : List (Map K V))
    (page place : ℕ) : Type 0 where
  pub home : IsHome order key pages page
  pub gap : page < length pages → IsGap order key (slice_index_or pages page []) place

-- A page begins with a key that is not above this one.
abbrev pub starts_by : {K V : Type 0} → (K → K → Ordering) → K → Map K V → Bool
starts_by order key [] = true
starts_by order key (e ∷ es) = not (is_gt (order e.0 key))

-- Among the entries, those from place i on are above the key, and those before it are not.
pub record IsPast {K V : Type 0} (order : K → K → Ordering) (key : K) (es : Map K V)
    (i : ℕ) : Type 0 where
  pub in_range : i ≤ length es
  pub skips : (zs : Map K V)
      → entry_after order key (es ++ zs) ≡ entry_after order key (drop i es ++ zs)
  pub after : AllByRecursion (λ e. order e.0 key ≡ Greater) (drop i es)

-- Page i has become another one.
abbrev pub replaced : {X : Type 0} → List X → ℕ → X → List X
replaced ps i p = take i ps ++ p ∷ drop (i + 1) ps

-- Page i has become two, the second of which begins at its place `cut`.
abbrev pub in_two : {X : Type 0} → List (List X) → ℕ → ℕ → List (List X)
in_two ps i cut =
    take i ps
    ++ take cut (slice_index_or ps i []) ∷ drop cut (slice_index_or ps i []) ∷ drop (i + 1) ps

-- Page i and the one behind it have become one.
abbrev pub in_one : {X : Type 0} → List (List X) → ℕ → List (List X)
in_one ps i =
    take i ps ++ (slice_index_or ps i [] ++ slice_index_or ps (i + 1) []) ∷ drop (i + 2) ps

-- The value of the entry at place i is written over, and its key stays.
pub record IsSetAt {K V : Type 0} (old new : Map K V) (i : ℕ) (value : V) : Type 0 where
  pub key : K
  pub was : V
  pub before : old ≡ take i old ++ (key, was) ∷ drop (i + 1) old
  pub made : new ≡ take i old ++ (key, value) ∷ drop (i + 1) old

-- The value of the entry at place i becomes another one, its key stays, and the edit is what it
-- becomes by the value that was there.
pub record IsEditedAt {K V E : Type 0} (become : V → V) (left : V → E) (old new : Map K V)
    (after : E) (i : ℕ) : Type 0 where
  pub key : K
  pub was : V
  pub before : old ≡ take i old ++ (key, was) ∷ drop (i + 1) old
  pub made : new ≡ take i old ++ (key, become was) ∷ drop (i + 1) old
  pub edit : after ≡ left was

-- Nothing changes but the value of the entry at place i, if anything.
abbrev pub KeepsKeyAt : {K V : Type 0} → Map K V → Map K V → ℕ → Type 0
KeepsKeyAt {V = V} old new i = (new ≡ old) ⊎ ((value : V) × IsSetAt old new i value)

-- The entry at place i is taken out.
pub record IsTakenAt {K V : Type 0} (old new : Map K V) (i : ℕ) (entry : K × V) : Type 0 where
  pub before : old ≡ take i old ++ entry ∷ drop (i + 1) old
  pub made : new ≡ take i old ++ drop (i + 1) old
