-- The commands of the code as those of the definitions.
use Rattle.send_model.specs.Attribute as attribute
use Rattle.send_model.specs.Command as meant
use Rattle.send_commands.specs.declared.command.Time.{Time}
use Rattle.send_commands.specs.declared.form.Form.{Form}
use Rattle.send_commands.specs.declared.form.Form.TheVariants as form
use Rattle.send_commands.specs.declared.command.Command.{Command}
use Rattle.send_commands.specs.declared.command.Command.TheVariants as made
use Rattle.send_commands.specs.declared.kind.Kind.{Kind}
use Rattle.send_commands.specs.declared.kind.Kind.TheVariants as named

abbrev pub time_of : Time → attribute.Time
time_of t = record { secs = t.secs; nanos = t.nanos }

-- A command with its values.
abbrev pub meaning_of : Command → meant.Command
meaning_of (made.Subvol uuid ctransid path) = meant.Subvol uuid ctransid path.now
meaning_of (made.Snapshot uuid ctransid path clone_uuid clone_ctransid) =
    meant.Snapshot uuid ctransid path.now clone_uuid clone_ctransid
meaning_of (made.MkFile path) = meant.MkFile path.now
meaning_of (made.MkDir path) = meant.MkDir path.now
meaning_of (made.MkNod mode rdev path) = meant.MkNod mode rdev path.now
meaning_of (made.MkFifo path) = meant.MkFifo path.now
meaning_of (made.MkSock path) = meant.MkSock path.now
meaning_of (made.Symlink path path_link) = meant.Symlink path.now path_link.now
meaning_of (made.Rename path path_to) = meant.Rename path.now path_to.now
meaning_of (made.Link path path_link) = meant.Link path.now path_link.now
meaning_of (made.Unlink path) = meant.Unlink path.now
meaning_of (made.Rmdir path) = meant.Rmdir path.now
meaning_of (made.SetXattr name value path) = meant.SetXattr name.now value.now path.now
meaning_of (made.RemoveXattr name path) = meant.RemoveXattr name.now path.now
meaning_of (made.Write path offset bytes) = meant.Write path.now offset bytes.now
meaning_of (made.Clone path offset clone_uuid clone_ctransid clone_path clone_offset clone_len) =
    meant.Clone path.now offset clone_uuid clone_ctransid clone_path.now clone_offset clone_len
meaning_of (made.Truncate size path) = meant.Truncate size path.now
meaning_of (made.Chmod mode path) = meant.Chmod mode path.now
meaning_of (made.Chown uid gid path) = meant.Chown uid gid path.now
meaning_of (made.Utimes mtime atime path) = meant.Utimes (time_of mtime) (time_of atime) path.now
meaning_of made.End = meant.End
meaning_of (made.UpdateExtent size path offset) = meant.UpdateExtent size path.now offset
meaning_of (made.Fallocate size path offset mode) = meant.Fallocate size path.now offset mode
meaning_of (made.FileAttr path flags) = meant.FileAttr path.now flags

-- A command's name.
abbrev pub kind_meant : Kind → meant.Kind
kind_meant named.Subvol = meant.SUBVOL
kind_meant named.Snapshot = meant.SNAPSHOT
kind_meant named.MkFile = meant.MKFILE
kind_meant named.MkDir = meant.MKDIR
kind_meant named.MkNod = meant.MKNOD
kind_meant named.MkFifo = meant.MKFIFO
kind_meant named.MkSock = meant.MKSOCK
kind_meant named.Symlink = meant.SYMLINK
kind_meant named.Rename = meant.RENAME
kind_meant named.Link = meant.LINK
kind_meant named.Unlink = meant.UNLINK
kind_meant named.Rmdir = meant.RMDIR
kind_meant named.SetXattr = meant.SET_XATTR
kind_meant named.RemoveXattr = meant.REMOVE_XATTR
kind_meant named.Write = meant.WRITE
kind_meant named.Clone = meant.CLONE
kind_meant named.Truncate = meant.TRUNCATE
kind_meant named.Chmod = meant.CHMOD
kind_meant named.Chown = meant.CHOWN
kind_meant named.Utimes = meant.UTIMES
kind_meant named.End = meant.END
kind_meant named.UpdateExtent = meant.UPDATE_EXTENT
kind_meant named.Fallocate = meant.FALLOCATE
kind_meant named.FileAttr = meant.FILEATTR

-- The form of an attribute.
abbrev pub form_meant : Form → attribute.Form
form_meant form.Identifier = attribute.AnIdentifier
form_meant form.Number = attribute.ANumber
form_meant form.ShortNumber = attribute.AShortNumber
form_meant form.Moment = attribute.AMoment
form_meant form.Bytes = attribute.AnyBytes
form_meant form.None = attribute.NoForm
