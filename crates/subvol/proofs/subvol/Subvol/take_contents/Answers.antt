-- It is still a file.
use Rattle.std.proofs.Common.{◌≡◌, [], ◌∙◌, ap, rules}
use Rattle.send_model.specs.Subvolume.{is_file}
use Rattle.send_model.specs.Edit.{change_inode, set_cells}
use Rattle.send_model.proofs.Rewriting.{cells_file, file_there}
use Rattle.subvol.proofs.subvol.Subvol.take_contents.Goals as goal

pub returns-clause-file : goal.returns-clause-file
returns-clause-file g c =
    let found = file_there c.args.self.now c.args.ino c.requires in
    let empty : c.swap_contents.new.self ≡ change_inode c.args.ino (set_cells (λ _. [])) c.args.self.now = search rules in
    ap (λ t. is_file t c.args.ino) empty ∙ cells_file c.args.ino (λ _. []) c.args.self.now found.0 found.1 c.args.ino ∙ c.requires
