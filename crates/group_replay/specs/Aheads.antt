-- The bytes of a group that a window keeps.
use Rattle.std.specs.Prelude.{◌≡◌, ◌⊎◌, ℕ, ◌+◌, ◌-◌, ◌<◌, ◌≤◌, List, take, drop}
use Rattle.group_replay.specs.declared.window.Ahead.{Ahead}

-- How many bytes are kept at once.
abbrev pub window_len : ℕ
window_len = 524_288

-- The greatest frame has ten bytes and the greatest body.
abbrev pub greatest_frame : ℕ
greatest_frame = 262_154

-- A window of this size keeps bytes of a group that ends at a place: all that are left of it, or
-- else the window is a great one.
pub record IsAhead (end size : ℕ) (ahead : Ahead) : Type 0 where
  pub begun : ahead.used ≤ ahead.have
  pub fits : ahead.have ≤ size
  pub within : ahead.at + (ahead.have - ahead.used) ≤ end
  pub room : (end ≤ ahead.at + (ahead.have - ahead.used)) ⊎ (window_len ≤ size)

-- It keeps all bytes that are left of the group, or a frame is whole in it.
abbrev pub IsFilled : ℕ → Ahead → Type 0
IsFilled end ahead =
    (end ≤ ahead.at + (ahead.have - ahead.used)) ⊎ (greatest_frame ≤ ahead.have - ahead.used)

-- The bytes that it keeps are those that stand at the place on a disk where a read gives these.
abbrev pub Shows : List ℕ → List ℕ → Ahead → Type 0
Shows seen window ahead =
    take (ahead.have - ahead.used) (drop ahead.used window)
    ≡ take (ahead.have - ahead.used) (drop ahead.at seen)

-- It was filled up, from the same place on.
pub record Refills (end size : ℕ) (before now : Ahead) : Type 0 where
  pub same : now.at ≡ before.at
  pub sum : now.sum ≡ before.sum
  pub ahead : IsAhead end size now
  pub filled : IsFilled end now

-- What it keeps begins further on, and not behind the end of the frames.
pub record GoesPast (end stop size : ℕ) (before now : Ahead) : Type 0 where
  pub later : before.at < now.at
  pub within : now.at ≤ end
  pub ahead : IsAhead stop size now
