use Rattle.std.proofs.Common.{◌≡◌, map, take}
use Rattle.send_model.specs.Spelling.{canonical_all}
use Rattle.clone_pieces.specs.Sending.{GoesOut}
use Rattle.squash_log.specs.Resolved.{span_write}
use Rattle.squasher.proofs.writing.write_spans.Given as goal

-- The WRITE commands of the stretches so far went out, and no count rose.
abbrev pub invariant-loop-span : goal.invariant-loop-span
invariant-loop-span g l = record {
  steady : g.O.Sink.faults l.out ≡ g.O.Sink.faults l.fn.out;
  goes : GoesOut (g.O.Sink.taken l.fn.out) (g.O.Sink.taken l.out) l.fn.pending l.pending
      (canonical_all l.fn.version (map (span_write l.fn.written.path.now l.fn.written.offset l.fn.written.bytes.now) (take l.span-index l.fn.spans)));
}
