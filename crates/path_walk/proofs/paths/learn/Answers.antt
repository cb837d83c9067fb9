use Rattle.std.proofs.Common.{sym, ◌∙◌}
use Rattle.path_walk.proofs.Passes.{learns_new}
use Rattle.path_walk.proofs.paths.learn.Goals as goal

pub returns-in_ok-insert_new-clause-learns : goal.returns-in_ok-insert_new-clause-learns
returns-in_ok-insert_new-clause-learns g c =
    (learns_new c.args.tree.now c.args.ino c.args.path c.args.firsts.now c.insert_new.new.self c.in_ok-insert_new.field-0 (sym c.is_directory.ensures ∙ c.if-not-is_directory.true) c.in_ok-insert_new.ensures.ok).0

pub returns-in_ok-insert_new-clause-known : goal.returns-in_ok-insert_new-clause-known
returns-in_ok-insert_new-clause-known g c =
    (learns_new c.args.tree.now c.args.ino c.args.path c.args.firsts.now c.insert_new.new.self c.in_ok-insert_new.field-0 (sym c.is_directory.ensures ∙ c.if-not-is_directory.true) c.in_ok-insert_new.ensures.ok).1
