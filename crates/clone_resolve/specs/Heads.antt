-- The heads of the code as those of the definitions, what they begin, and what an entry is taken up
-- from again. Source: this program's own.
use Rattle.std.specs.Prelude.{◌≡◌, ℕ, Bool, ◌&&◌, List, [], ◌∷◌, ◌++◌, Option, None, Some, Result, Ok, Err, is_none, if◌then◌else◌}
use Rattle.std.specs.Str.{bytes_eq}
use Rattle.send_model.specs.Subvolume.{Subvolume}
use Rattle.send_model.specs.Store as meant
use Rattle.send_model.specs.Store.{Store, begun, start_from, unfinished}
use Rattle.subvol_catalog.specs.Entries.{head_with}
use Rattle.sx_base.specs.declared.stop.Stop.{Stop}
use Rattle.sx_base.specs.declared.stop.Stop.TheVariants as stop
use Rattle.sx_base.specs.Refusals.{refusal_of}
use Rattle.clone_resolve.specs.declared.head.Head.{Head}

-- The head of a command, as the definitions have it.
abbrev pub head_meant : Head → meant.Head
head_meant h = head_with h.name.now h.key h.parent

-- A head begins an entry and its part, or it is refused, or there was no memory; after either
-- nothing is changed.
abbrev pub Begins : {C : Type 0} → Result (meant.Part C) Stop → meant.Head → Store C → Store C
    → Type 0
Begins (Ok part) head old new =
    (begun old head ≡ Ok part.subvolume) × (part.key ≡ head.key)
    × (new ≡ old ++ unfinished head ∷ [])
Begins (Err (stop.Refused refusal)) head old new =
    (begun old head ≡ Err (refusal_of refusal)) × (new ≡ old)
Begins (Err stop.NoMemory) head old new = new ≡ old

-- An unfinished entry of a UUID.
abbrev pub is_unfinished : {S : Type 0} → List ℕ → meant.Entry S → Bool
is_unfinished uuid e = bytes_eq e.key.uuid uuid && is_none e.contents

-- The first unfinished entry of a UUID; in a store there is one at most.
abbrev pub unfinished_at : {S : Type 0} → List ℕ → List (meant.Entry S) → Option (meant.Entry S)
unfinished_at uuid [] = None
unfinished_at uuid (e ∷ entries) =
    if is_unfinished uuid e then Some e else unfinished_at uuid entries

-- A part of an entry's key that starts as a head with its parent starts now, or the refusal of
-- that.
abbrev pub Resumes : {C : Type 0} → Result (meant.Part C) Stop → meant.Entry (Subvolume C) → Store C
    → Type 0
Resumes (Ok part) entry store =
    (part.key ≡ entry.key) × (start_from store entry.parent ≡ Ok part.subvolume)
Resumes (Err (stop.Refused refusal)) entry store =
    start_from store entry.parent ≡ Err (refusal_of refusal)
Resumes (Err stop.NoMemory) entry store = Unit {0}
