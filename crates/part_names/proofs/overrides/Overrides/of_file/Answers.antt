use Rattle.std.proofs.Common.{sym, ◌∙◌, arith}
use Rattle.std.specs.Prelude.{◌≤◌, ◌-◌}
use Rattle.std.proofs.lemmas.List.{get_or_read_under}
use Rattle.send_model.specs.Overridden.{no_override}
use Rattle.part_names.proofs.Places.{no_first, no_last, at_place}
use Rattle.part_names.proofs.overrides.Overrides.of_file.Goals.{then-file-eq0-via-then-file-eq0, then-file-eq0-via-else-file-eq0+then-file-len}
use Rattle.part_names.proofs.overrides.Overrides.of_file.Goals as goal

pub returns-then-file-eq0-clause-said : goal.returns-then-file-eq0-clause-said
returns-then-file-eq0-clause-said c = c.self.invariant.0 ∙ elim c.then-file-eq0.branch [
  | then-file-eq0-via-then-file-eq0 w ↦ no_first c.args.self.now c.args.file (omega (arith, w.if-file-eq0.true))
  | then-file-eq0-via-else-file-eq0+then-file-len w ↦ rw (← c.self.view_is) (no_last c.self.inside.files.items c.args.file (omega (arith, w.if-file-len.true, w.len.ensures)))
]

pub returns-clause-said : goal.returns-clause-said
returns-clause-said c =
    let some : 1 ≤ c.args.file = omega (arith, c.if-file-eq0.false) in
    rw (← c.self.view_is)
    (get_or_read_under c.self.inside.files.items (c.args.file - 1) c.len.result c.index-said.result.now no_override c.index-said.ensures (omega (arith, some, c.if-file-len.false, c.len.ensures)) (omega (arith, c.len.ensures))
    ∙ sym (at_place c.self.inside.files.items c.args.file some))
