-- What a change makes of an inode. Source: the edits of the definitions.
use Rattle.std.specs.Prelude.{◌%◌}
use Rattle.send_model.specs.Map.{bytes_cmp, with_value, without}
use Rattle.send_model.specs.Attribute.{Time}
use Rattle.send_model.specs.Subvolume as meant
use Rattle.inode_tree.specs.Kinds.{time_of}
use Rattle.inode_tree.specs.declared.change.Change.{Change}
use Rattle.inode_tree.specs.declared.change.Change.TheVariants as made

-- Other times: of the last reading, and of the last writing.
abbrev pub with_times : {C : Type 0} → Time → Time → meant.Inode C → meant.Inode C
with_times atime mtime inode = record inode { atime = atime; mtime = mtime }

abbrev pub changed : {C : Type 0} → Change → meant.Inode C → meant.Inode C
changed (made.Mode mode) inode = record inode { mode = mode % 0o10_000 }
changed (made.Owner uid gid) inode = record inode { uid = uid; gid = gid }
changed (made.Times atime mtime) inode = with_times (time_of atime) (time_of mtime) inode
changed (made.Flags flags) inode = record inode { flags = flags }
changed (made.SetXattr name value) inode =
    record inode { xattrs = with_value bytes_cmp name.now value.now inode.xattrs }
changed (made.RemoveXattr name) inode =
    record inode { xattrs = without bytes_cmp name.now inode.xattrs }
