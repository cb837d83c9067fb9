-- What the changes of an inode leave.
use Rattle.std.specs.Prelude.{◌≡◌}
use Rattle.std.proofs.Common.{refl}
use Rattle.send_model.specs.Subvolume as meant
use Rattle.inode_tree.specs.declared.change.Change.{Change}
use Rattle.inode_tree.specs.declared.change.Change.TheVariants as made
use Rattle.inode_tree.specs.Changes.{changed}

pub same_kind : {C : Type 0} (change : Change) (inode : meant.Inode C) → (changed change inode).kind ≡ inode.kind
same_kind (made.Mode mode) inode = refl
same_kind (made.Owner uid gid) inode = refl
same_kind (made.Times atime mtime) inode = refl
same_kind (made.Flags flags) inode = refl
same_kind (made.SetXattr name value) inode = refl
same_kind (made.RemoveXattr name) inode = refl
