-- The stream of a complete subvolume of a store, as it was received: the head with the name, the
-- key and the parent that the store has, the edits of its group, and END. This program's own.
use Rattle.std.specs.Prelude.{◌≡◌, ℕ, false, not, List, [], ◌∷◌, ◌++◌, Option, None, Some, if◌then◌else◌}
use Rattle.std.specs.List.{filter}
use Rattle.std.specs.Str.{bytes_eq}
use Rattle.send_model.specs.Command.{Command, End}
use Rattle.send_model.specs.Spelling.{stream_header, canonical_all}
use Rattle.send_model.specs.Reading.{reads, Whole}
use Rattle.send_model.specs.Subvolume.{Subvolume}
use Rattle.send_model.specs.Store.{Key, Entry, Store, has_name, has_uuid}
use Rattle.send_model.specs.Receive.{start_of, receive}
use Rattle.send_model.specs.Outside.{keys_named, all_keys_named, SameOn}
use Rattle.send_model.specs.Composed.{head_command}
use Rattle.send_model.specs.Headline.{commands_in}
use Rattle.store_model.specs.Stored.{Content, Mark, Body, Drop, Group, as_bytes, made_all, first_gate}

-- ---- the stream

-- The edits of an entry, and the version that spells them.
pub record Edits : Type 0 where
  pub version : ℕ
  pub commands : List Command

-- The edits that a group says of the entry of a uuid, if it says any.
abbrev pub edits_in : List ℕ → Content → Option Edits
edits_in uuid (Mark head) = None
edits_in uuid (Body other version commands) =
    if bytes_eq other uuid then Some (record { version = version; commands = commands }) else None
edits_in uuid (Drop name) = None

-- The last edits that groups say of it. A complete entry has these: those before them were of an
-- entry that was dropped.
unfoldable pub last_edits : List ℕ → List Group → Option Edits
last_edits uuid [] = None
last_edits uuid (group ∷ groups) = elim (last_edits uuid groups) [
  | None ↦ edits_in uuid group.content
  | Some edits ↦ Some edits
]

-- The commands of its stream.
abbrev pub own_commands : {S : Type 0} → Entry S → Edits → List Command
own_commands e edits = head_command e.name e.key e.parent ∷ (edits.commands ++ End ∷ [])

-- Their bytes, in their version and the canonical spelling.
unfoldable pub own_stream : {S : Type 0} → Entry S → Edits → List ℕ
own_stream e edits =
    stream_header edits.version ++ canonical_all edits.version (own_commands e edits)

-- ---- who takes it

-- The store that stood when the edits were made: that of the groups in front of them.
pub record IsBeforeEdits (groups : List Group) (uuid : List ℕ) (edits : Edits)
    (was : Store ℕ) : Type 0 where
  pub before : List Group
  pub group : Group
  pub behind : List Group
  pub are : groups ≡ before ++ group ∷ behind
  pub says : edits_in uuid group.content ≡ Some edits
  pub last : last_edits uuid behind ≡ None
  pub makes : made_all 0 as_bytes first_gate [] before ≡ Some was

-- The keys that its commands name: its parent's, and those of other subvolumes from which it
-- clones.
abbrev pub keys_asked : {S : Type 0} → Entry S → Edits → List Key
keys_asked e edits =
    keys_named (head_command e.name e.key e.parent)
    ++ filter (λ key. not (bytes_eq key.uuid e.key.uuid)) (all_keys_named edits.commands)

-- A store that can take it: it finds under these keys what was found when the edits were made, and
-- has neither the name nor the uuid.
pub record CanTake (was : Store ℕ) (e : Entry (Subvolume ℕ)) (edits : Edits)
    (other : Store ℕ) : Type 0 where
  pub same : SameOn was other (keys_asked e edits)
  pub no_name : has_name e.name other ≡ false
  pub no_uuid : has_uuid e.key.uuid other ≡ false

-- What was written reads whole, as these commands; and each such store takes it, keeps what it had,
-- and gets exactly this entry, its parent and its inode numbers included.
pub record IsTakenAgain (was : Store ℕ) (e : Entry (Subvolume ℕ)) (edits : Edits)
    (written : List ℕ) : Type 0 where
  pub whole : (reads 1 written).end ≡ Whole
  pub commands : commands_in written ≡ own_commands e edits
  pub gets : (other : Store ℕ) → CanTake was e edits other
      → receive other (written ∷ [])
      ≡ record { state = start_of (other ++ e ∷ []); refused = None }
