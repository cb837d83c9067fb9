-- What holds of the indexes of a catalogue: the number of each entry is found by its UUID, and its
-- UUID by its name, and no other entry has that number or that UUID.
use Rattle.std.specs.Prelude.{◌≡◌, ℕ, ◌==◌, ◌<◌, false, List, [], ◌∷◌, map, Option, Some, None, Vec, IsTrue, if◌then◌else◌}
use Rattle.std.specs.Ordering.{nat_cmp, is_eq}
use Rattle.std.specs.Cmp.Lexicographic.{slice_cmp}
use Rattle.std.specs.Map.{lookup}
use Rattle.std.specs.Str.{bytes_eq}
use Rattle.send_model.specs.Path.{is_name}
use Rattle.send_model.specs.Store.{has_uuid}
use Rattle.subvol_catalog.specs.declared.entry.Entry.{Entry}
use Rattle.subvol_catalog.specs.Entries.{listed}

-- What bytes lead to in an index that is ordered by the bytes of its keys.
abbrev pub led_by : {K X : Type 0} → (K → List ℕ) → List (K × X) → List ℕ → Option X
led_by bytes rows sought = lookup (λ k. is_eq (slice_cmp nat_cmp sought (bytes k))) rows

-- The UUID to which a name leads.
abbrev pub led_to : {A : Type 0} → List (Vec ℕ A × List ℕ) → List ℕ → Option (List ℕ)
led_to names name = led_by (λ k. k.items) names name

-- The number to which a UUID leads.
abbrev pub number_led_to : List (List ℕ × ℕ) → List ℕ → Option ℕ
number_led_to uuids uuid = led_by (λ k. k) uuids uuid

-- A number, where the entry that is found under it has the UUID.
abbrev pub if_its : {V : Type 0} → List ℕ → ℕ → Option (Entry V) → Option ℕ
if_its uuid n None = None
if_its uuid n (Some e) = if bytes_eq e.key.uuid uuid then Some n else None

-- The same of a number that may be missing.
abbrev pub if_led : {V : Type 0} → List (ℕ × Entry V) → List ℕ → Option ℕ → Option ℕ
if_led entries uuid None = None
if_led entries uuid (Some n) = if_its uuid n (lookup (λ k. n == k) entries)

-- The number of the entry that has a UUID: the one to which the UUID leads, where the entry of that
-- number has it.
abbrev pub numbered : {V : Type 0} → List (List ℕ × ℕ) → List (ℕ × Entry V) → List ℕ → Option ℕ
numbered uuids entries uuid = if_led entries uuid (number_led_to uuids uuid)

-- The UUID of each entry leads to its number, which is below the next one and no other entry's.
abbrev pub AreNumbered : {V : Type 0} → List (List ℕ × ℕ) → ℕ → List (ℕ × Entry V) → Type 0
AreNumbered uuids next [] = Unit {0}
AreNumbered uuids next (p ∷ entries) =
    (number_led_to uuids p.1.key.uuid ≡ Some p.0) × (p.0 < next)
    × (lookup (λ k. p.0 == k) entries ≡ None) × AreNumbered uuids next entries

-- The entries, each under its UUID in place of its number.
abbrev pub under_uuids : {V : Type 0} → List (ℕ × Entry V) → List (List ℕ × Entry V)
under_uuids entries = map (λ p. (p.1.key.uuid, p.1)) entries

-- An entry stands under its UUID, and its name, which is lawful, leads there.
pub record IsListed {A V : Type 0} (names : List (Vec ℕ A × List ℕ)) (uuid : List ℕ)
    (e : Entry V) : Type 0 where
  pub keyed : e.key.uuid ≡ uuid
  pub named : led_to names e.name ≡ Some uuid
  pub lawful : IsTrue (is_name e.name)

-- So does each entry, and no other entry has its UUID.
abbrev pub AreListed : {A V : Type 0} → List (Vec ℕ A × List ℕ) → List (List ℕ × Entry V) → Type 0
AreListed names [] = Unit {0}
AreListed names (p ∷ pairs) =
    IsListed names p.0 p.1 × (has_uuid p.0 (listed pairs) ≡ false) × AreListed names pairs

-- Each entry is found by its name and by its UUID.
pub record AreFound {A V : Type 0} (names : List (Vec ℕ A × List ℕ)) (uuids : List (List ℕ × ℕ))
    (next : ℕ) (entries : List (ℕ × Entry V)) : Type 0 where
  pub by_name : AreListed names (under_uuids entries)
  pub by_uuid : AreNumbered uuids next entries
