use Rattle.std.proofs.Common.{◌≡◌, ◌++◌, [], List, ℕ, ap₂, subst, OnOk}
use Rattle.send_model.specs.Attribute.{Time}
use Rattle.send_model.specs.Command.{Utimes}
use Rattle.send_model.specs.Receivable.{receivable}
use Rattle.stream_export.proofs.separators.push_root_times.Goals as goal

pub returns-clause-added : goal.returns-clause-added
returns-clause-added g c =
    subst (λ (frame : List ℕ). OnOk c.push_times.result (c.push_times.new.to ≡ c.args.to.now ++ frame)) (ap₂ (λ (m a : Time). receivable c.args.version (Utimes m a [])) c.root_times.ensures.mtime c.root_times.ensures.atime) c.push_times.ensures.added
