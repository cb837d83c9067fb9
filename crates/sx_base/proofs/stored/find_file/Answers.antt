use Rattle.std.proofs.Common.{◌≡◌, sym, ◌∙◌, true, false}
use Rattle.std.specs.Prelude.{bytes_eq}
use Rattle.std.specs.String.{string_bytes}
use Rattle.sx_base.proofs.FileSteps.{file_found, file_passed, no_file}
use Rattle.sx_base.proofs.stored.find_file.Goals as goal

pub returns-then-eq : goal.returns-then-eq
returns-then-eq c =
    let test : bytes_eq (string_bytes c.file-item.result.name) c.args.name.now ≡ true = cc in
    c.as_slice.ensures.value
    ∙ sym (file_found c.args.files.now c.loop-file.file-index c.args.name.now c.file-item.result c.loop-file-test.true c.file-item.is test)
    ∙ c.loop-file.invariant

pub loop-file-preserved : goal.loop-file-preserved
loop-file-preserved c =
    let test : bytes_eq (string_bytes c.file-item.result.name) c.args.name.now ≡ false = cc in
    sym (file_passed c.args.files.now c.loop-file.file-index c.args.name.now c.file-item.result c.loop-file-test.true c.file-item.is test)
    ∙ c.loop-file.invariant

pub returns : goal.returns
returns c = sym (no_file c.args.files.now c.loop-file.file-index c.args.name.now c.loop-file-test.false) ∙ c.loop-file.invariant
