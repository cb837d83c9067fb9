-- Groups of edits while they are gone through.
use Rattle.std.specs.Prelude.{◌≡◌, ℕ, ◌+◌, ◌-◌, Bool, true, false, List, [], ◌∷◌, ◌++◌, length, take, drop, Option, None, Some}
use Rattle.std.specs.Int.{w32, to_le_bytes}
use Rattle.send_model.specs.Checksum.{crc_of}
use Rattle.send_model.specs.Reading.{is_version}
use Rattle.send_model.specs.Store.{State}
use Rattle.group_replay.specs.declared.place.Place.{Place}
use Rattle.group_replay.specs.declared.window.Ahead.{Ahead}
use Rattle.group_replay.specs.declared.body.Frames.{Frames}
use Rattle.group_replay.specs.declared.body.BodyHead.{BodyHead}
use Rattle.group_replay.specs.Aheads.{Shows}
use Rattle.group_replay.specs.Edits.{AreEdits, AreBadEdits}

-- Bytes are a UUID and a version, or those of none.
abbrev pub FindsHead : List ℕ → Option BodyHead → Type 0
FindsHead bytes (Some head) =
    (bytes ≡ head.uuid ++ head.version ∷ []) × (length head.uuid ≡ 16)
    × (is_version head.version ≡ true)
FindsHead bytes None =
    (uuid : List ℕ) (version : ℕ) → length uuid ≡ 16 → is_version version ≡ true
    → bytes ≡ uuid ++ version ∷ [] → ⊥

-- The bytes from a place to the end of the frames, where a read gives these.
abbrev pub frames_from : Frames → ℕ → List ℕ → List ℕ
frames_from frames at seen = take (frames.end - at) (drop at seen)

-- The bytes that a read of the disk gives, and the window that keeps some of them.
pub record Showing : Type 0 where
  pub seen : List ℕ
  pub window : List ℕ

-- The next edit was taken, and the checksum goes on over its frame.
pub record TookShown (version : ℕ) (before now : Ahead) (showing : Showing)
    (old new : State (Option Place)) : Type 0 where
  pub shows : Shows showing.seen showing.window now
  pub edits : AreEdits version before.at
      (take (now.at - before.at) (drop before.at showing.seen)) old new
  pub sum : now.sum ≡ crc_of before.sum (take (now.at - before.at) (drop before.at showing.seen))

-- The next edit was taken, or the frames that are left are those of no edits that make anything.
abbrev pub TakesShown : Frames → Ahead → Showing → State (Option Place) → State (Option Place)
    → Option Ahead → Type 0
TakesShown frames ahead showing old new (Some next) =
    TookShown frames.version ahead next showing old new
TakesShown frames ahead showing old new None =
    AreBadEdits frames.version ahead.at (frames_from frames ahead.at showing.seen) old

-- A checksum that stands behind frames is this one.
abbrev pub SumStands : Frames → ℕ → List ℕ → Type 0
SumStands frames sum seen =
    frames.stop ≡ frames.end + 4 → take 4 (drop frames.end seen) ≡ to_le_bytes w32 sum

-- All frames from a place on were taken, and the checksum behind them is right; or one of these is
-- at fault.
abbrev pub TakesFrames : Frames → Ahead → List ℕ → State (Option Place) → State (Option Place)
    → Bool → Type 0
TakesFrames frames first seen old new true =
    AreEdits frames.version first.at (frames_from frames first.at seen) old new
    × SumStands frames (crc_of first.sum (frames_from frames first.at seen)) seen
TakesFrames frames first seen old new false =
    SumStands frames (crc_of first.sum (frames_from frames first.at seen)) seen
    → AreBadEdits frames.version first.at (frames_from frames first.at seen) old
