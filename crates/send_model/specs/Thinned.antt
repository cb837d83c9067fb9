-- Stores of which only some entries have their contents. Composing looks at the contents of those
-- entries alone that the commands name, so over a store without the other contents it is the same.
-- This program's own.
use Rattle.std.specs.Prelude.{◌≡◌, ◌↔◌, ℕ, Bool, true, List, [], ◌∷◌, map, Option, None, if◌then◌else◌}
use Rattle.std.specs.List.{AllByRecursion, list_any}
use Rattle.send_model.specs.Reading.{Item, Reading}
use Rattle.send_model.specs.Store.{Key, same_key, Head, Entry, Store, has_name, has_uuid, find}
use Rattle.send_model.specs.Order.{commands_of, judge_of}
use Rattle.send_model.specs.Outside.{part_uuids, store_without, all_keys_named, keys_outside, IsAmong}
use Rattle.send_model.specs.Provenance.{uncarried_cells, carried_runs}
use Rattle.send_model.specs.Composed.{composed_of, composed_before_of}
use Rattle.send_model.specs.Headline.{IsComposedOf, IsStoppedOf, whole_output_of}
use Rattle.send_model.specs.Due.{compose_due_of}

-- ---- stores

-- An entry keeps its contents where its key passes a test; else it stands as an unfinished one
-- does.
abbrev pub thinned_entry : {S : Type 0} → (Key → Bool) → Entry S → Entry S
thinned_entry keep e =
    record {
      name = e.name;
      key = e.key;
      parent = e.parent;
      contents = if keep e.key then e.contents else None;
    }

-- The same entries, by name, key and parent, in the same order; with the contents of those alone
-- whose keys pass the test.
abbrev pub thinned : {S : Type 0} → (Key → Bool) → List (Entry S) → List (Entry S)
thinned keep store = map (thinned_entry keep) store

-- A test keeps each key that the items name, as a parent or as the source of a clone: parts among
-- them, or those outside alone.
abbrev pub KeepsNamed : (Key → Bool) → List Item → Type 0
KeepsNamed keep items = AllByRecursion (λ key. keep key ≡ true) (all_keys_named (commands_of items))

abbrev pub KeepsOutside : (Key → Bool) → List Item → Type 0
KeepsOutside keep items = AllByRecursion (λ key. keep key ≡ true) (keys_outside items)

-- The least such test: a key is one of some keys.
abbrev pub is_key_of : List Key → Key → Bool
is_key_of keys key = list_any (λ k. same_key k key) keys

-- Two stores have the same entries by name, key and parent, in the same order, with the same
-- contents where the key is one of these.
abbrev pub AreAlike : {S : Type 0} → List Key → List (Entry S) → List (Entry S) → Type 0
AreAlike keys [] [] = Unit {0}
AreAlike keys [] (f ∷ other) = ⊥
AreAlike keys (e ∷ store) [] = ⊥
AreAlike keys (e ∷ store) (f ∷ other) =
    (e.name ≡ f.name) × (e.key ≡ f.key) × (e.parent ≡ f.parent)
    × (IsAmong e.key keys → e.contents ≡ f.contents) × AreAlike keys store other

-- An entry's name, key and parent.
abbrev pub head_in : {S : Type 0} → Entry S → Head
head_in e = record { name = e.name; key = e.key; parent = e.parent }

-- What is left out is contents alone: each entry is still there in its place, and so are each name
-- and each uuid; a key finds what it found where the test keeps it, and else nothing.
pub record LeavesOutContents {S : Type 0} (keep : Key → Bool)
    (store : List (Entry S)) : Type 0 where
  pub entries : map head_in (thinned keep store) ≡ map head_in store
  pub names : (name : List ℕ) → has_name name (thinned keep store) ≡ has_name name store
  pub uuids : (uuid : List ℕ) → has_uuid uuid (thinned keep store) ≡ has_uuid uuid store
  pub finds : (key : Key)
      → find (thinned keep store) key ≡ (if keep key then find store key else None)

-- ---- what composing makes of them

-- Over two bases all that composing decides is the same: the verdict, the answer that is due, the
-- composed commands, those before the verdict, all that may be written, and the counts.
pub record IsSameOver (base other : Store ℕ) (reading : Reading) : Type 0 where
  pub judged : judge_of base reading ≡ judge_of other reading
  pub due : (long : Option ℕ) → compose_due_of long base reading ≡ compose_due_of long other reading
  pub composed : composed_of base reading.items ≡ composed_of other reading.items
  pub before : composed_before_of base reading.items ≡ composed_before_of other reading.items
  pub output : whole_output_of base reading ≡ whole_output_of other reading
  pub uncarried : uncarried_cells base reading.items ≡ uncarried_cells other reading.items
  pub runs : carried_runs base reading.items ≡ carried_runs other reading.items

-- Composing does not look at the contents of an entry that no command names.
abbrev pub LooksAtNamed : Type 0
LooksAtNamed =
    (keep : Key → Bool) (base : Store ℕ) (reading : Reading) → KeepsNamed keep reading.items
    → IsSameOver base (thinned keep base) reading

-- So it is the same over two bases that are alike at the keys that are named.
abbrev pub AlikeIsSame : Type 0
AlikeIsSame =
    (base other : Store ℕ) (reading : Reading)
    → AreAlike (all_keys_named (commands_of reading.items)) base other
    → IsSameOver base other reading

-- A base has no part of some items.
abbrev pub IsApart : Store ℕ → List Item → Type 0
IsApart base items = store_without (part_uuids items) base ≡ base

-- Over a base without the parts, the keys outside are enough, and what is promised of a composed
-- stream is the same too.
pub record OutsideIsEnough (keep : Key → Bool) (base : Store ℕ) (reading : Reading) : Type 0 where
  pub same : IsSameOver base (thinned keep base) reading
  pub composed : (written : List ℕ)
      → IsComposedOf (thinned keep base) reading written ↔ IsComposedOf base reading written
  pub stopped : (written : List ℕ)
      → IsStoppedOf (thinned keep base) reading written ↔ IsStoppedOf base reading written

abbrev pub LooksOutside : Type 0
LooksOutside =
    (keep : Key → Bool) (base : Store ℕ) (reading : Reading) → IsApart base reading.items
    → KeepsOutside keep reading.items
    → OutsideIsEnough keep base reading

-- So the contents of every entry may go whose key no command names.
abbrev pub LeastIsEnough : Type 0
LeastIsEnough = (base : Store ℕ) (reading : Reading) → IsApart base reading.items
    → OutsideIsEnough (is_key_of (keys_outside reading.items)) base reading

-- Two bases without the parts that are alike at the keys outside: all is the same over both, and
-- what is promised over one is promised over the other.
abbrev pub AlikeOutside : Type 0
AlikeOutside =
    (base other : Store ℕ) (reading : Reading) → IsApart base reading.items
    → IsApart other reading.items
    → AreAlike (keys_outside reading.items) base other
    → IsSameOver base other reading
    × ((written : List ℕ) → IsComposedOf base reading written
    → IsComposedOf other reading written)
