use Rattle.std.proofs.Common.{◌≡◌, sym, ◌∙◌, subst}
use Rattle.std.proofs.lemmas.Result.{IfOk-weaker}
use Rattle.sx_base.specs.Disk.{IsImage}
use Rattle.disk_model.specs.declared.mem_disk.MemDisk.{MemDisk}
use Rattle.disk_model.specs.History.{bytes_are_image}
use Rattle.disk_model.specs.MemDisk.{seen_of, pending_of}
use Rattle.disk_model.proofs.mem_disk.MemDisk.crash.Goals as goal

pub returns-then-choice-eq0-clause-image : goal.returns-then-choice-eq0-clause-image
returns-then-choice-eq0-clause-image c =
    let s = c.args.self.now.current in
    let Same : MemDisk → Type 0 = λ disk. seen_of disk ≡ c.deref.result.now in
    let Image : MemDisk → Type 0 = λ disk. IsImage (pending_of c.args.self.now) (seen_of disk) in
    IfOk-weaker c.new.result Same Image (λ disk is. subst (IsImage (pending_of c.args.self.now)) (sym (is ∙ c.deref.ensures.value)) (bytes_are_image s.touched.items s.bytes.items s.greatest)) c.new.ensures.seen
