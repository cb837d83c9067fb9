use Rattle.std.proofs.Common.{◌≡◌, ◌++◌, OnOk, ℕ, List, map, replicate, ap, subst, ◌∙◌}
use Rattle.send_model.specs.Command.{Subvol, MkFile, Write, End}
use Rattle.send_model.specs.Spelling.{stream_header, canonical, canonical_all}
use Rattle.send_model.specs.Generated.{part_name, file_name, files}
use Rattle.stream_gen.proofs.EachFile.{first_spelled}
use Rattle.sx_base.proofs.KeptFronts.{kept_then}
use Rattle.stream_gen.proofs.parts.push_first_part.Goals as goal

pub returns-in_err-push_subvol-clause-kept : goal.returns-in_err-push_subvol-clause-kept
returns-in_err-push_subvol-clause-kept c = kept_then c.args.to.now c.push_header.new.to c.push_subvol.new.to c.push_header.ensures.kept c.push_subvol.ensures.kept

pub returns-in_err-push_files-clause-kept : goal.returns-in_err-push_files-clause-kept
returns-in_err-push_files-clause-kept c =
    kept_then c.args.to.now c.push_header.new.to c.push_files.new.to c.push_header.ensures.kept
    (kept_then c.push_header.new.to c.push_subvol.new.to c.push_files.new.to c.push_subvol.ensures.kept c.push_files.ensures.kept)

pub returns-in_err-push_contents-clause-kept : goal.returns-in_err-push_contents-clause-kept
returns-in_err-push_contents-clause-kept c =
    kept_then c.args.to.now c.push_header.new.to c.push_contents.new.to c.push_header.ensures.kept
    (kept_then c.push_header.new.to c.push_subvol.new.to c.push_contents.new.to c.push_subvol.ensures.kept
    (kept_then c.push_subvol.new.to c.push_files.new.to c.push_contents.new.to c.push_files.ensures.kept c.push_contents.ensures.kept))

pub returns : goal.returns
returns c =
    record {
      appended = subst (λ (l : List ℕ). OnOk c.push_end.result (c.push_end.new.to ≡ l))
          (ap (λ (l : List ℕ). l ++ canonical 1 End) (c.in_ok-push_contents.ensures.appended
          ∙ ap (λ (l : List ℕ). l ++ canonical_all 1 (map (λ file. Write (file_name file) 0 (replicate 12_288 file)) files)) (c.in_ok-push_files.ensures.appended
          ∙ ap (λ (l : List ℕ). l ++ canonical_all 1 (map (λ file. MkFile (file_name file)) files)) (c.in_ok-push_subvol.ensures.appended
          ∙ ap (λ (l : List ℕ). l ++ canonical 1 (Subvol c.args.uuid 1 (part_name 1))) c.in_ok-push_header.ensures.appended)))
          ∙ first_spelled c.args.to.now (stream_header 1) (Subvol c.args.uuid 1 (part_name 1)) (map (λ file. MkFile (file_name file)) files) (map (λ file. Write (file_name file) 0 (replicate 12_288 file)) files))
          c.push_end.ensures.appended;
      kept = kept_then c.args.to.now c.push_header.new.to c.push_end.new.to c.push_header.ensures.kept
          (kept_then c.push_header.new.to c.push_subvol.new.to c.push_end.new.to c.push_subvol.ensures.kept
          (kept_then c.push_subvol.new.to c.push_files.new.to c.push_end.new.to c.push_files.ensures.kept
          (kept_then c.push_files.new.to c.push_contents.new.to c.push_end.new.to c.push_contents.ensures.kept c.push_end.ensures.kept)));
    }
