-- The guards of the code as those of the definitions.
use Rattle.std.specs.Prelude.{◌≡◌, ℕ, List, Option, slice_index_or, if◌then◌else◌}
use Rattle.std.specs.Option.{option_map}
use Rattle.send_model.specs.Refusal.{Guarded}
use Rattle.send_model.specs.Command.{Command}
use Rattle.send_model.specs.Guards as meant
use Rattle.send_model.specs.Guards.{Guard, new_guard, guard_refuses, guard_after, guarded}
use Rattle.guard_rules.specs.declared.kinds.GuardSpec.{GuardSpec}
use Rattle.guard_rules.specs.declared.kinds.GuardSpec.TheVariants as made

abbrev pub spec_meant : GuardSpec → meant.GuardSpec
spec_meant (made.Bytes most) = meant.MostBytes most
spec_meant (made.Commands most) = meant.MostCommands most
spec_meant made.NoDevices = meant.NoDevices
spec_meant (made.End most) = meant.MostEnd most

-- A guard after it looked at a command: it has counted a command that it allows, and is as before
-- after one that it refuses.
abbrev pub after_look : Guard → Command → Guard
after_look guard command = if guard_refuses guard command then guard else guard_after guard command

-- What the guard at a place has counted.
abbrev pub used_at : List Guard → ℕ → ℕ
used_at guards place = (slice_index_or guards place (new_guard meant.NoDevices)).used

-- The place of the first guard that refuses a command, or none: with what that guard has counted,
-- which the command does not change, this is the refusal of the definitions.
abbrev pub IsRefusedAt : List Guard → List Guard → Command → Option ℕ → Type 0
IsRefusedAt before now command result =
    guarded before command ≡ option_map (λ place. Guarded place (used_at now place)) result
