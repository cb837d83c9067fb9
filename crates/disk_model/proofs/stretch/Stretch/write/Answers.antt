use Rattle.std.proofs.Common.{◌≡◌, ℕ, ◌+◌, ◌∙◌, ap, min, max, length, rules}
use Rattle.sx_base.specs.Disk.{Pending}
use Rattle.disk_model.specs.Stretch.{known_of}
use Rattle.disk_model.proofs.Known.{after_write, marked}
use Rattle.disk_model.proofs.stretch.Stretch.write.Goals as goal

pub returns-clause-pending : goal.returns-clause-pending
returns-clause-pending c =
    let from : c.min.result ≡ min c.args.at (length c.args.self.now.touched.items) = search rules in
    let to : c.min-2.result ≡ min (c.args.at + length c.args.piece.now) (length c.args.self.now.touched.items) = search rules in
    let marks : c.mark.new.touched.items ≡ marked c.min.result c.min-2.result c.args.self.now.touched.items = search rules in
    let P : ℕ → Pending = λ n. record { known = known_of c.mark.new.touched.items c.overwrite.new.bytes.items; greatest = max n (length c.overwrite.new.bytes.items) } in
    ap P c.max-self.ensures
    ∙ after_write c.overwrite.result c.args.at c.min.result c.min-2.result c.args.self.now.greatest c.args.piece.now c.args.self.now.bytes.items c.overwrite.new.bytes.items
    c.args.self.now.touched.items c.mark.new.touched.items c.requires.place c.args.self.now.covers from to marks c.overwrite.ensures.ok c.overwrite.ensures.err
