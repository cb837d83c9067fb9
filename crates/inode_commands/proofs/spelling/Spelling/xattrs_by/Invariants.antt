use Rattle.std.proofs.Common.{◌≡◌, ◌++◌, map}
use Rattle.std.specs.List.{AllByRecursion}
use Rattle.send_model.specs.Command.{SetXattr}
use Rattle.inode_commands.specs.Spelled.{spelled_all, kept_by, HasLength}
use Rattle.inode_commands.proofs.spelling.Spelling.xattrs_by.Given as goal

-- The commands so far and those that are left are all, and those that are left fit.
abbrev pub invariant-loop-name : goal.invariant-loop-name
invariant-loop-name g l = record {
  added : l.to ++ spelled_all g.F.Form.spelled l.self.version (map (λ e. SetXattr e.0 e.1 l.path) (kept_by l.capabilities l.name-iterator))
      ≡ l.fn.to ++ spelled_all g.F.Form.spelled l.self.version (map (λ e. SetXattr e.0 e.1 l.path) (kept_by l.fn.capabilities l.fn.xattrs));
  said : AllByRecursion (λ x. HasLength x.0 × HasLength x.1) l.name-iterator;
}
