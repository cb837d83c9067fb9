use Rattle.std.specs.Prelude.{◌≡◌, ℕ, List, length, take, drop}
use Rattle.std.proofs.Common.{rules, ap, ◌∙◌, arith}
use Rattle.std.proofs.lemmas.List.{length-map}
use Rattle.subvol_catalog.specs.Entries.{key_of}
use Rattle.store_journal.specs.Reading.{file_cells}
use Rattle.store_journal.specs.Standing.{with_bytes}
use Rattle.store_journal.proofs.ReadFiles.{file_bytes}
use Rattle.store_commands.proofs.CatBytes.{next_written, piece_stops, all_written}
use Rattle.store_commands.proofs.cat.write_file.Goals as goal

pub loop-at-preserved : goal.loop-at-preserved
loop-at-preserved g c =
    let core = c.args.file.now.store.now.core in
    let key = key_of c.args.file.now.key in
    let image : List ℕ = g.D.Disk.seen c.args.disk.now in
    record {
      within = search rules;
      room = search rules;
      len = search rules;
      same = search rules;
      any_moment = search rules;
      steady = search rules;
      out_steady = search rules;
      written = λ tells.
          next_written (file_cells (with_bytes image core) key c.args.file.now.ino) _ c.loop-at.at c.min-count.result _ _ _
          (ap (λ (l : List ℕ). take c.min-count.result (drop c.loop-at.at (file_cells (with_bytes l core) key c.args.file.now.ino))) ((c.loop-at.invariant.same tells).seen)) (c.loop-at.invariant.written tells)
          (c.in-Ok.ensures.written tells);
    }

pub returns-in-Err-clause-written : goal.returns-in-Err-clause-written
returns-in-Err-clause-written g c tells =
    let core = c.args.file.now.store.now.core in
    let key = key_of c.args.file.now.key in
    let image : List ℕ = g.D.Disk.seen c.args.disk.now in
    piece_stops (file_cells (with_bytes image core) key c.args.file.now.ino) _ c.loop-at.at c.min-count.result _ _ _ c.in-Err.end
    (ap (λ (l : List ℕ). take c.min-count.result (drop c.loop-at.at (file_cells (with_bytes l core) key c.args.file.now.ino))) ((c.loop-at.invariant.same tells).seen)) (c.loop-at.invariant.written tells)
    (c.in-Err.ensures.written tells)

pub returns-clause-written : goal.returns-clause-written
returns-clause-written g c tells =
    let core = c.args.file.now.store.now.core in
    let key = key_of c.args.file.now.key in
    let image : List ℕ = g.D.Disk.seen c.args.disk.now in
    let long : length (file_cells (with_bytes image core) key c.args.file.now.ino) ≡ length (file_cells core key c.args.file.now.ino) = ap length (file_bytes image core key c.args.file.now.ino) ∙ length-map (file_cells core key c.args.file.now.ino) _ in
    all_written (file_cells (with_bytes image core) key c.args.file.now.ino) c.loop-at.at _ _ (omega (arith, long, c.file_len-size.ensures, c.loop-at-test.false)) (c.loop-at.invariant.written tells)
