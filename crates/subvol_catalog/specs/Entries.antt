-- The code's entries as those of the definitions.
use Rattle.std.specs.Prelude.{ℕ, List, [], ◌∷◌, Option, Some, None, IsTrue, map, if◌then◌else◌}
use Rattle.std.specs.List.{AllByRecursion, filter_map}
use Rattle.std.specs.Str.{bytes_eq}
use Rattle.send_model.specs.Path.{is_name}
use Rattle.std.specs.Option.{option_map}
use Rattle.send_model.specs.Store as meant
use Rattle.subvol_catalog.specs.declared.key.Key.{Key}
use Rattle.subvol_catalog.specs.declared.entry.Entry.{Entry}

abbrev pub key_of : Key → meant.Key
key_of key = record { uuid = key.uuid; ctransid = key.ctransid }

abbrev pub entry_of : {V : Type 0} → Entry V → meant.Entry V
entry_of e = record {
  name = e.name;
  key = key_of e.key;
  parent = option_map key_of e.parent;
  contents = e.value;
}

-- The entries of pairs of a number or a UUID and an entry.
abbrev pub listed : {K V : Type 0} → List (K × Entry V) → List (meant.Entry V)
listed pairs = map (λ p. entry_of p.1) pairs

-- The entries in slots, of which some may be empty.
abbrev pub occupants : {V : Type 0} → List (Option (Entry V)) → List (meant.Entry V)
occupants slots = filter_map (option_map entry_of) slots

abbrev pub head_with : List ℕ → Key → Option Key → meant.Head
head_with name key parent =
    record { name = name; key = key_of key; parent = option_map key_of parent }

-- The first entry of a UUID; in a store there is one at most.
abbrev pub of_uuid : {S : Type 0} → List ℕ → List (meant.Entry S) → Option (meant.Entry S)
of_uuid uuid [] = None
of_uuid uuid (e ∷ entries) = if bytes_eq e.key.uuid uuid then Some e else of_uuid uuid entries

-- The first entry of a name; in a store there is one at most.
unfoldable pub named : {S : Type 0} → List ℕ → List (meant.Entry S) → Option (meant.Entry S)
named name [] = None
named name (e ∷ entries) = if bytes_eq e.name name then Some e else named name entries

-- Each entry has a lawful name, so one of at most 255 bytes.
abbrev pub AreNamed : {S : Type 0} → List (meant.Entry S) → Type 0
AreNamed entries = AllByRecursion (λ e. IsTrue (is_name e.name)) entries
