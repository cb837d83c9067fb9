-- What `list` prints of a store and `show` of one of its subvolumes. These forms are this program's
-- own.
use Rattle.std.specs.Prelude.{ℕ, List, ◌++◌, length, Option, None, Some, codes}
use Rattle.std.specs.List.{flat_map}
use Rattle.std.specs.Fmt.{decimal}
use Rattle.send_model.specs.Subvolume.{NodeKind, File, Directory, SymbolicLink, CharacterDevice, BlockDevice, Fifo, Socket, Inode, Subvolume}
use Rattle.send_model.specs.Store.{Key, Entry}
use Rattle.send_model.specs.Printed.{hex_bytes, escaped, uuid_text, octal, time_text}
use Rattle.send_model.specs.Answer.{and_field, and_number, line}

-- ---- list

abbrev pub state_text : {S : Type 0} → Option S → List ℕ
state_text None = codes "unfinished"
state_text (Some contents) = codes "complete"

abbrev pub parent_text : Option Key → List ℕ
parent_text None = codes "-"
parent_text (Some key) = uuid_text key.uuid ++ codes ":" ++ decimal key.ctransid

-- An entry: its name, its key, whether it is complete, and its parent.
unfoldable pub entry_line : {S : Type 0} → Entry S → List ℕ
entry_line e =
    line (escaped e.name ++ and_field (uuid_text e.key.uuid) ++ and_number e.key.ctransid
    ++ and_field (state_text e.contents)
    ++ and_field (parent_text e.parent))

-- All entries in order.
unfoldable pub listed : {S : Type 0} → List (Entry S) → List ℕ
listed store = flat_map entry_line store

-- ---- show

abbrev pub kind_text : NodeKind → List ℕ
kind_text File = codes "file"
kind_text Directory = codes "dir"
kind_text SymbolicLink = codes "symlink"
kind_text CharacterDevice = codes "chr"
kind_text BlockDevice = codes "blk"
kind_text Fifo = codes "fifo"
kind_text Socket = codes "socket"

-- The size of a file, the target of a symbolic link, or the number of a device.
abbrev pub extra_text : {C : Type 0} → NodeKind → Inode C → List ℕ
extra_text File inode = decimal (length inode.cells)
extra_text Directory inode = codes "-"
extra_text SymbolicLink inode = escaped inode.target
extra_text CharacterDevice inode = decimal inode.rdev
extra_text BlockDevice inode = decimal inode.rdev
extra_text Fifo inode = codes "-"
extra_text Socket inode = codes "-"

-- An inode: its number, kind, mode, owners, times, flags, and what its kind has beside these.
unfoldable pub inode_line : {C : Type 0} → ℕ → Inode C → List ℕ
inode_line ino inode =
    line (codes "inode" ++ and_number ino ++ and_field (kind_text inode.kind)
    ++ and_field (octal inode.mode)
    ++ and_number inode.uid ++ and_number inode.gid ++ and_field (time_text inode.atime)
    ++ and_field (time_text inode.mtime)
    ++ and_number inode.flags ++ and_field (extra_text inode.kind inode))

-- An extended attribute of an inode.
unfoldable pub xattr_line : ℕ → (List ℕ × List ℕ) → List ℕ
xattr_line ino xattr =
    line (codes "xattr" ++ and_number ino ++ and_field (escaped xattr.0)
    ++ and_field (hex_bytes xattr.1))

-- An inode with its extended attributes, by the bytes of their names.
abbrev pub inode_lines : {C : Type 0} → (ℕ × Inode C) → List ℕ
inode_lines entry = inode_line entry.0 entry.1 ++ flat_map (xattr_line entry.0) entry.1.xattrs

-- A name in a directory and the inode that it leads to.
unfoldable pub name_line : ((ℕ × List ℕ) × ℕ) → List ℕ
name_line name =
    line (codes "name" ++ and_number name.0.0 ++ and_field (escaped name.0.1) ++ and_number name.1)

-- A subvolume with its name and key, and the number that its next inode would get; its inodes by
-- number; its names by directory and then by bytes.
unfoldable pub shown : {C : Type 0} → List ℕ → Key → Subvolume C → List ℕ
shown name key s =
    line (codes "subvol" ++ and_field (escaped name) ++ and_field (uuid_text key.uuid)
    ++ and_number key.ctransid ++ and_number s.next)
    ++ (flat_map inode_lines s.inodes ++ flat_map name_line s.names)
