use Rattle.std.specs.Prelude.{◌≡◌, ◌++◌, ℕ, List, map, OnOk}
use Rattle.std.proofs.Common.{subst}
use Rattle.send_model.specs.Command.{SetXattr}
use Rattle.send_model.specs.Map.{Map}
use Rattle.inode_commands.specs.Spelled.{spelled_all}
use Rattle.full_send.proofs.Added.{adds_after}
use Rattle.full_send.proofs.pending.Writer.attributes.Goals as goal

pub returns-clause-adds : goal.returns-clause-adds
returns-clause-adds g c =
    adds_after _ _ _ _ _ _ c.xattrs-added.result c.go_on.result
    (subst (λ (m : Map (List ℕ) (List ℕ)). OnOk c.xattrs-added.result (c.xattrs-added.new.to ≡ c.args.bytes.now
    ++ spelled_all g.F.Form.spelled c.args.self.now.spelling.version (map (λ e. SetXattr e.0 e.1 c.args.path.now) m))) c.xattrs.ensures c.xattrs-added.ensures.added)
    c.go_on.ensures.goes
