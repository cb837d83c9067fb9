-- What a group says, by its kind, and what that makes of a store.
use Rattle.std.specs.Prelude.{◌≡◌, ℕ, ◌-◌, Bool, true, false, List, length, take, drop, Option, None, Some, if◌then◌else◌}
use Rattle.std.specs.Int.{w32, to_le_bytes}
use Rattle.send_model.specs.Checksum.{crc_of}
use Rattle.send_model.specs.Store.{Store}
use Rattle.store_model.specs.Stored.{Content, Mark, Body, Drop, Group, IsContent, IsGroup, number_of, content_bytes, made}
use Rattle.group_replay.specs.declared.place.Place.{Place}
use Rattle.group_replay.specs.declared.kinds.Kind.{Kind}
use Rattle.group_replay.specs.declared.kinds.Kind.TheVariants as kind
use Rattle.group_replay.specs.declared.kinds.Tag.{Tag}
use Rattle.group_replay.specs.Taking.{as_runs}

-- The kind of what a group says.
abbrev pub kind_meant : Content → Kind
kind_meant (Mark head) = kind.Mark
kind_meant (Body uuid version commands) = kind.Body
kind_meant (Drop name) = kind.Drop

-- The number of a kind, with a checksum or without.
abbrev pub number_for : Bool → Kind → ℕ
number_for is_sealed kind.Mark = if is_sealed then 4 else 1
number_for is_sealed kind.Body = if is_sealed then 5 else 2
number_for is_sealed kind.Drop = if is_sealed then 6 else 3

-- What a first byte says in a journal of a format; or no group of the format begins so.
abbrev pub FindsKind : ℕ → ℕ → Option Tag → Type 0
FindsKind format byte (Some tag) =
    (byte ≡ number_for tag.is_sealed tag.kind) × (tag.is_sealed ≡ false → format ≡ 1)
FindsKind format byte None =
    (group : Group) → IsGroup format group → number_of group.is_sealed group.content ≡ byte → ⊥

-- How many bytes a group ends with behind what it says: those of its checksum.
abbrev pub seal_len : Bool → ℕ
seal_len is_sealed = if is_sealed then 4 else 0

-- What a body has in front of its checksum, and the bytes of its checksum, which are none where it
-- has none.
abbrev pub in_front : Bool → List ℕ → List ℕ
in_front is_sealed body = take (length body - seal_len is_sealed) body

abbrev pub behind : Bool → List ℕ → List ℕ
behind is_sealed body = drop (length body - seal_len is_sealed) body

-- A checksum that is there is that of the bytes in front of it.
abbrev pub SealIsRight : Bool → List ℕ → Type 0
SealIsRight is_sealed body =
    is_sealed ≡ true → behind is_sealed body ≡ to_le_bytes w32 (crc_of 0 (in_front is_sealed body))

-- These bytes say what makes one store of another.
pub record MakesContent (sort : Kind) (at : ℕ) (bytes : List ℕ)
    (old new : Store (Option Place)) : Type 0 where
  pub content : Content
  pub sort_is : kind_meant content ≡ sort
  pub lawful : IsContent content
  pub spelled : content_bytes content ≡ bytes
  pub makes : made None as_runs at old content ≡ Some new

-- They say nothing that makes anything of the store.
abbrev pub IsBadContent : Kind → ℕ → List ℕ → Store (Option Place) → Type 0
IsBadContent sort at bytes old =
    (content : Content) → kind_meant content ≡ sort → IsContent content
    → content_bytes content ≡ bytes → made None as_runs at old content ≡ None

-- What bytes say was taken, or it is at fault.
abbrev pub TakesContent : Kind → ℕ → List ℕ → Store (Option Place) → Store (Option Place) → Bool
    → Type 0
TakesContent sort at bytes old new true = MakesContent sort at bytes old new
TakesContent sort at bytes old new false = IsBadContent sort at bytes old

-- What a body says between its first byte and its checksum was taken, and the checksum is right; or
-- one of these is at fault.
abbrev pub TakesBehind : Tag → ℕ → List ℕ → Store (Option Place) → Store (Option Place) → Bool
    → Type 0
TakesBehind tag at body old new true =
    SealIsRight tag.is_sealed body
    × MakesContent tag.kind at (drop 1 (in_front tag.is_sealed body)) old new
TakesBehind tag at body old new false =
    SealIsRight tag.is_sealed body
    → IsBadContent tag.kind at (drop 1 (in_front tag.is_sealed body)) old
