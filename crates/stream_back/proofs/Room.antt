-- Heads and END have room in each version.
use Rattle.std.specs.Prelude.{ℕ, ◌≤◌, ◌==◌, Bool, true, false, List, length}
use Rattle.std.proofs.Common.{arith, zero-le}
use Rattle.send_model.specs.Command.{Command, Subvol, Snapshot, End, row}
use Rattle.send_model.specs.Spelling.{attributes_of, body_of, greatest_body}
use Rattle.send_commands.specs.Writing.{IsWritable, IsShortEnough, IfSecond}
use Rattle.receivable_form.proofs.Frames.{room_of, room_len}
use Rattle.stream_back.specs.Writing.{HasLength}

by_version : (b : Bool) (P : Type 0) → P → IfSecond b P
by_version true P p = p
by_version false P p = tt

short_by : (version : ℕ) (c : Command) → room_of (attributes_of c) ≤ greatest_body → IsShortEnough version c
short_by version c room = let l = room_len version (attributes_of c) in by_version (version == 2) (length (body_of version (attributes_of c)) ≤ greatest_body) (omega (arith, l, room))

abbrev pub CanPush : ℕ → Command → Type 0
CanPush version command = IsWritable version command × IsShortEnough version command

pub full_can : (version : ℕ) (uuid : List ℕ) (ctransid : ℕ) (name : List ℕ) → length uuid ≤ 16 → HasLength name → CanPush version (Subvol uuid ctransid name)
unfolding IsWritable attributes_of row
full_can version uuid ctransid name u n = ((tt, (tt, ((λ e. n), tt))), short_by version (Subvol uuid ctransid name) (omega (arith, u, n)))

pub snapshot_can : (version : ℕ) (uuid : List ℕ) (ctransid : ℕ) (name parent : List ℕ) (parent_ctransid : ℕ) → length uuid ≤ 16 → length parent ≤ 16 → HasLength name → CanPush version (Snapshot uuid ctransid name parent parent_ctransid)
unfolding IsWritable attributes_of row
snapshot_can version uuid ctransid name parent parent_ctransid u p n = ((tt, (tt, ((λ e. n), (tt, (tt, tt))))), short_by version (Snapshot uuid ctransid name parent parent_ctransid) (omega (arith, u, p, n)))

pub end_can : (version : ℕ) → CanPush version End
unfolding IsWritable attributes_of row
end_can version = (tt, short_by version End zero-le)
