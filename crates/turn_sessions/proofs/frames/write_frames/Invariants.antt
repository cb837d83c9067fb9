-- The edits so far were done, and the frames of the others are left.
use Rattle.std.specs.Prelude.{◌≡◌, ◌+◌, ◌-◌, ◌≤◌, List, length}
use Rattle.sx_base.specs.Crash.{LeavesOnly}
use Rattle.send_model.specs.Command.{Command}
use Rattle.store_model.specs.Image.{Header}
use Rattle.store_model.specs.Stored.{Group}
use Rattle.store_journal.specs.Shown.{IsOpen}
use Rattle.store_journal.specs.Holding.{HasThese}
use Rattle.store_journal.proofs.Unpacked.{Builds}
use Rattle.turn_sessions.specs.Edits.{AreFrames}
use Rattle.turn_sessions.proofs.FramesLeft.{HasRest}
use Rattle.turn_sessions.proofs.frames.write_frames.Given as goal

abbrev pub invariant-loop-at : goal.invariant-loop-at
invariant-loop-at g l = record {
  within : l.at ≤ length l.fn.frames;
  key : l.part.key ≡ l.fn.part.key;
  core : l.store.core ≡ l.fn.store.core;
  gate : l.store.log.gate ≡ l.fn.store.log.gate;
  limit : l.store.log.limit ≡ l.fn.store.log.limit;
  size : l.store.log.size ≡ l.fn.store.log.size + l.at;
  is_open : IsOpen (g.D.Disk.len l.disk) l.part l.store;
  rest : (commands : List Command) → AreFrames l.fn.version l.fn.frames commands
      → HasRest g.D.Disk.tells g.D.Disk.seen g.D.Disk.pending l.fn.disk l.disk l.fn.version l.fn.frames l.at l.fn.store l.store l.fn.part l.part commands;
  any_moment : g.D.Disk.tells → (header : Header) (groups : List Group) (before : List Command) → Builds header groups l.fn.version before l.fn.part l.fn.store (g.D.Disk.seen l.fn.disk) (g.D.Disk.pending l.fn.disk)
      → LeavesOnly g.D.Disk.moment g.D.Disk.left_since l.fn.disk l.disk (HasThese header groups);
  later : g.D.Disk.faults l.fn.disk ≤ g.D.Disk.faults l.disk;
  steady : g.D.Disk.faults l.disk ≡ g.D.Disk.faults l.fn.disk;
}

abbrev pub decreases-loop-at : goal.decreases-loop-at
decreases-loop-at g l = length l.frames - l.at
