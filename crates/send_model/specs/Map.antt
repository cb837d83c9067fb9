-- A finite map is the list of its entries in rising order of their keys; two maps are equal where
-- their entries are. This program's own; the entries are those of std's maps.
use Rattle.std.specs.Prelude.{ℕ, not, T, List, map, Option}
use Rattle.std.specs.declared.cmp.Ordering.{Ordering}
use Rattle.std.specs.Ordering.{nat_cmp, ordering_then, eq_by_cmp}
use Rattle.std.specs.Cmp.Lexicographic.{slice_cmp}
use Rattle.std.specs.FinMap.Entries.{find, put, where_key, is_sorted}

abbrev pub Map : Type 0 → Type 0 → Type 0
Map K X = List (K × X)

-- Numbers by size, bytes by the first that differs, a number and bytes by the number first.
abbrev pub bytes_cmp : List ℕ → List ℕ → Ordering
bytes_cmp a b = slice_cmp nat_cmp a b

abbrev pub named_cmp : ℕ × List ℕ → ℕ × List ℕ → Ordering
named_cmp a b = ordering_then (nat_cmp a.0 b.0) (bytes_cmp a.1 b.1)

-- The value at a key; the map with a value at a key; the map without a key; the keys rise.
abbrev pub value_at : {K X : Type 0} → (K → K → Ordering) → K → Map K X → Option X
value_at order key m = find order key m

abbrev pub with_value : {K X : Type 0} → (K → K → Ordering) → K → X → Map K X → Map K X
with_value order key value m = put order key value m

abbrev pub without : {K X : Type 0} → (K → K → Ordering) → K → Map K X → Map K X
without order key m = where_key order (λ k. not (eq_by_cmp order key k)) m

abbrev pub IsMap : {K X : Type 0} → (K → K → Ordering) → Map K X → Type 0
IsMap order m = T (is_sorted order m)

abbrev pub keys : {K X : Type 0} → Map K X → List K
keys m = map (λ e. e.0) m

abbrev pub values : {K X : Type 0} → Map K X → List X
values m = map (λ e. e.1) m
