use Rattle.std.proofs.Common.{◌≡◌, ℕ, ◌∙◌, ap, max, length, rules}
use Rattle.sx_base.specs.Disk.{Pending}
use Rattle.disk_model.specs.Stretch.{known_of}
use Rattle.disk_model.proofs.Known.{after_cut}
use Rattle.disk_model.proofs.stretch.Stretch.cut.Goals as goal

pub returns-clause-pending : goal.returns-clause-pending
returns-clause-pending c =
    let most : c.max-self.result ≡ max c.args.self.now.greatest (length c.args.self.now.bytes.items) = search rules in
    let P : ℕ → Pending = λ n. record { known = known_of c.truncate.new.self.items c.truncate-2.new.self.items; greatest = max n (length c.truncate-2.new.self.items) } in
    ap P most ∙ after_cut c.args.size c.args.self.now.greatest c.args.self.now.touched.items c.truncate.new.self.items c.args.self.now.bytes.items c.truncate-2.new.self.items c.truncate.ensures.items c.truncate-2.ensures.items
