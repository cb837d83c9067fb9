-- When an entry may be added to some entries, what is then there, and what is there without an
-- entry.
use Rattle.std.specs.Prelude.{◌≡◌, ℕ, not, List, [], ◌∷◌, ◌++◌, Option, None, Some, Result, Ok, Err}
use Rattle.std.specs.List.{filter}
use Rattle.std.specs.Str.{bytes_eq}
use Rattle.send_model.specs.Refusal.{Refusal, BadName, NameThere, UuidThere, NoParent}
use Rattle.send_model.specs.Chain.{◌>>=◌, ◌>>◌, require, refuse_if, found}
use Rattle.send_model.specs.Path.{is_name}
use Rattle.send_model.specs.Store.{Key, Head, Entry, has_name, has_uuid, find}
use Rattle.sx_base.specs.Refusals.{refusal_of}
use Rattle.sx_base.specs.declared.stop.Stop.{Stop}
use Rattle.sx_base.specs.declared.stop.Stop.TheVariants as stop

-- An entry of this name and UUID may be added: a bad name, a name or a UUID that is there.
unfoldable pub is_new : {S : Type 0} → List (Entry S) → List ℕ → List ℕ → Result (Unit {0}) Refusal
is_new entries name uuid = do
  require (is_name name) BadName
  refuse_if (has_name name entries) NameThere
  refuse_if (has_uuid uuid entries) UuidThere

-- A parent that is named is found.
unfoldable pub has_parent : {S : Type 0} → List (Entry S) → Option Key → Result (Unit {0}) Refusal
has_parent entries None = Ok tt
has_parent entries (Some parent) = found (find entries parent) NoParent >>= λ s. Ok tt

-- A head may begin an entry: it is new, and its parent is found.
unfoldable pub admitted : {S : Type 0} → List (Entry S) → Head → Result (Unit {0}) Refusal
admitted entries head = is_new entries head.name head.key.uuid >> has_parent entries head.parent

-- An entry was added behind the others where it may be, or it may not and nothing changed, or there
-- was no memory and nothing changed.
abbrev pub Adds : {S : Type 0} → Result (Unit {0}) Stop → Result (Unit {0}) Refusal → Entry S
    → List (Entry S) → List (Entry S) → Type 0
Adds (Ok done) due entry old new = (due ≡ Ok tt) × (new ≡ old ++ entry ∷ [])
Adds (Err (stop.Refused refusal)) due entry old new = (due ≡ Err (refusal_of refusal)) × (new ≡ old)
Adds (Err stop.NoMemory) due entry old new = new ≡ old

-- A test passed, or was refused.
abbrev pub IsRefusedBy : Result (Unit {0}) Stop → Result (Unit {0}) Refusal → Type 0
IsRefusedBy (Ok done) due = due ≡ Ok tt
IsRefusedBy (Err (stop.Refused refusal)) due = due ≡ Err (refusal_of refusal)
IsRefusedBy (Err stop.NoMemory) due = ⊥

abbrev pub without_name : {S : Type 0} → List ℕ → List (Entry S) → List (Entry S)
without_name name entries = filter (λ e. not (bytes_eq e.name name)) entries

abbrev pub without_uuid : {S : Type 0} → List ℕ → List (Entry S) → List (Entry S)
without_uuid uuid entries = filter (λ e. not (bytes_eq e.key.uuid uuid)) entries
