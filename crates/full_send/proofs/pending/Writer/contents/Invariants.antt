use Rattle.std.specs.Prelude.{◌≡◌, take, map}
use Rattle.sx_base.specs.Crash.{LeavesOnly}
use Rattle.sx_base.specs.Disk.{IsAsBefore, IsImage}
use Rattle.snapshot_model.specs.Sent.{contents_commands, ends_in_hole}
use Rattle.inode_commands.specs.Spelled.{spelled_all}
use Rattle.full_send.specs.Held.{held_cell}
use Rattle.full_send.proofs.Along.{Along, left_commands}
use Rattle.full_send.proofs.Parts.{PartAdded}
use Rattle.full_send.proofs.pending.Writer.contents.Given as goal

-- All stretches were added but the one that is passed, and no count rose.
abbrev pub invariant-loop-origin : goal.invariant-loop-origin
invariant-loop-origin g l =
    let D = g.D.Disk in
    let O = g.O.Sink in
    let F = g.F.Form in
    record {
      can : (goal.iterator-loop-origin g).can_next l.origin-iterator;
      finite : (goal.iterator-loop-origin g).is_finite l.origin-iterator;
      along : Along l.contents l.start l.at l.origin-iterator;
      len : D.len l.disk ≡ D.len l.fn.disk;
      same : D.tells → IsAsBefore D.seen D.pending l.fn.disk l.disk;
      any_moment : D.tells → LeavesOnly D.moment D.left_since l.fn.disk l.disk (IsImage (D.pending l.fn.disk));
      steady : D.faults l.disk ≡ D.faults l.fn.disk;
      out_steady : O.faults l.out ≡ O.faults l.fn.out;
      hole : D.tells → l.ends_in_hole ≡ ends_in_hole (map (held_cell (D.seen l.fn.disk)) (take l.at l.contents));
      added : D.tells → PartAdded (spelled_all F.spelled l.fn.self.spelling.version (contents_commands l.fn.file.path.now (map (held_cell (D.seen l.fn.disk)) l.contents)))
          (spelled_all F.spelled l.fn.self.spelling.version (left_commands (D.seen l.fn.disk) l.fn.file.path.now l.contents l.start))
          l.fn.bytes l.bytes (O.taken l.fn.out) (O.taken l.out);
    }
