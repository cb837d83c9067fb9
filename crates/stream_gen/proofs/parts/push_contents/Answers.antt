use Rattle.std.proofs.Common.{map, take, replicate}
use Rattle.send_model.specs.Command.{Write}
use Rattle.send_model.specs.Spelling.{canonical_all}
use Rattle.send_model.specs.Generated.{files, file_name}
use Rattle.stream_gen.proofs.EachFile.{each_first, each_next, each_done}
use Rattle.sx_base.proofs.KeptFronts.{kept_then}
use Rattle.stream_gen.proofs.parts.push_contents.Goals as goal

pub loop-file-init : goal.loop-file-init
loop-file-init c = record { so_far = each_first (λ file. Write (file_name file) 0 (replicate 12_288 file)) c.args.to.now }

pub loop-file-preserved : goal.loop-file-preserved
loop-file-preserved c =
    record { so_far = each_next (λ file. Write (file_name file) 0 (replicate 12_288 file)) c.args.to.now c.loop-file.to c.push_write.new.to c.loop-file.file c.loop-file-test.true c.loop-file.invariant.so_far c.in_ok-push_write.ensures.appended }

pub returns-in_err-push_write-clause-kept : goal.returns-in_err-push_write-clause-kept
returns-in_err-push_write-clause-kept c =
    kept_then c.args.to.now c.loop-file.to c.push_write.new.to (canonical_all 1 (map (λ file. Write (file_name file) 0 (replicate 12_288 file)) (take c.loop-file.file files)), c.loop-file.invariant.so_far) c.push_write.ensures.kept

pub returns : goal.returns
returns c =
    let all = each_done (λ file. Write (file_name file) 0 (replicate 12_288 file)) c.args.to.now c.loop-file.to c.loop-file.file c.loop-file-test.false c.loop-file.invariant.so_far in
    record {
      appended = all;
      kept = (canonical_all 1 (map (λ file. Write (file_name file) 0 (replicate 12_288 file)) files), all);
    }
