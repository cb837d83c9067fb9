use Rattle.std.proofs.Common.{length, sym, ap, ◌∙◌}
use Rattle.send_model.specs.Subvolume.{is_file_kind}
use Rattle.store_journal.specs.Standing.{place_byte}
use Rattle.store_compose.proofs.FileAnswers.{end_none, end_other, end_unnamed, end_there}
use Rattle.store_compose.proofs.standing.file_size.Goals as goal

pub returns-in_default : goal.returns-in_default
returns-in_default c = λ image. end_none (place_byte image) c.tree.result.now c.args.index.now (c.tree.ensures ∙ c.sub.ensures.same) c.args.ino c.in_default.ensures

pub returns-then-not-is_file : goal.returns-then-not-is_file
returns-then-not-is_file c = λ image.
    end_other (place_byte image) c.tree.result.now c.args.index.now (c.tree.ensures ∙ c.sub.ensures.same) c.args.ino c.in-Some.inode.now c.in-Some.ensures
    (ap is_file_kind (sym c.kind.ensures) ∙ sym c.is_file.ensures ∙ c.if-not-is_file.true)

pub returns-then-not-is_nameable : goal.returns-then-not-is_nameable
returns-then-not-is_nameable c = λ image.
    end_unnamed (place_byte image) c.tree.result.now c.args.index.now (c.tree.ensures ∙ c.sub.ensures.same) c.args.ino c.in-Some.inode.now c.in-Some.ensures
    (ap is_file_kind (sym c.kind.ensures) ∙ sym c.is_file.ensures ∙ c.if-not-is_file.false) (sym c.if-not-is_nameable.true ∙ c.is_nameable.ensures)

pub returns : goal.returns
returns c = λ image.
    end_there (place_byte image) c.tree.result.now c.args.index.now (c.tree.ensures ∙ c.sub.ensures.same) c.args.ino c.in-Some.inode.now c.size.result c.in-Some.ensures
    (ap is_file_kind (sym c.kind.ensures) ∙ sym c.is_file.ensures ∙ c.if-not-is_file.false) (sym c.if-not-is_nameable.false ∙ c.is_nameable.ensures) (c.size.ensures.count ∙ ap length c.contents.ensures)
