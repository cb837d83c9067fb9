-- A whole subvolume as a full stream: its inodes by their first paths, in order of the listing, and
-- its other names by LINK. Holes are not sent: a WRITE behind one makes it again, and TRUNCATE one
-- at the end. The order is this program's own; the kernel's differs, and so do the commands that it
-- needs.
use Rattle.std.specs.Prelude.{ℕ, ◌+◌, ◌==◌, Bool, true, false, not, List, [], ◌∷◌, ◌++◌, map, length, Option, None, Some, Result, Ok, if◌then◌else◌}
use Rattle.std.specs.List.{flat_map, list_any}
use Rattle.std.specs.Str.{bytes_eq}
use Rattle.send_model.specs.Refusal.{Refusal}
use Rattle.send_model.specs.Chain.{◌>>=◌}
use Rattle.send_model.specs.Command.{Command, Subvol, MkFile, MkDir, MkNod, MkFifo, MkSock, Symlink, Link, SetXattr, Truncate, Chmod, Chown, Utimes, FileAttr, End}
use Rattle.send_model.specs.Spelling.{stream_header, canonical_all}
use Rattle.send_model.specs.Subvolume.{NodeKind, File, Directory, SymbolicLink, CharacterDevice, BlockDevice, Fifo, Socket, Inode, Subvolume}
use Rattle.send_model.specs.Edit.{edit}
use Rattle.send_model.specs.Store.{Key}
use Rattle.send_model.specs.Receive.{bytes_of}
use Rattle.send_model.specs.Composed.{writes_from}
use Rattle.snapshot_model.specs.Listing.{held, Listed, listing}

-- ---- contents

-- Bytes that stand one behind the other from a place on.
pub record Stretch : Type 0 where
  pub at : ℕ
  pub bytes : List ℕ

-- A byte in front of the stretches behind it: it joins the first of them where that begins at the
-- next place.
abbrev pub onto_stretches : ℕ → ℕ → List Stretch → List Stretch
onto_stretches at byte [] = record { at = at; bytes = byte ∷ [] } ∷ []
onto_stretches at byte (first ∷ rest) =
    if first.at == at + 1 then record { at = at; bytes = byte ∷ first.bytes } ∷ rest
    else record { at = at; bytes = byte ∷ [] } ∷ first ∷ rest

-- The maximal stretches of cells that are no zero cells, from a place on.
abbrev pub stretches : ℕ → List (Option ℕ) → List Stretch
stretches at [] = []
stretches at (None ∷ cells) = stretches (at + 1) cells
stretches at (Some byte ∷ cells) = onto_stretches at byte (stretches (at + 1) cells)

-- The last of some cells is a zero cell.
abbrev pub ends_in_hole : List (Option ℕ) → Bool
ends_in_hole [] = false
ends_in_hole (None ∷ []) = true
ends_in_hole (Some byte ∷ []) = false
ends_in_hole (cell ∷ more ∷ cells) = ends_in_hole (more ∷ cells)

abbrev pub stretch_commands : List ℕ → Stretch → List Command
stretch_commands path stretch = writes_from (length stretch.bytes) path stretch.at stretch.bytes

abbrev pub contents_commands : List ℕ → List (Option ℕ) → List Command
contents_commands path cells =
    flat_map (stretch_commands path) (stretches 0 cells)
    ++ (if ends_in_hole cells then Truncate (length cells) path ∷ [] else [])

-- ---- an inode

-- The command that makes an inode. The mode of MKNOD is its type alone.
abbrev pub making : {C : Type 0} → List ℕ → NodeKind → Inode C → Command
making path File inode = MkFile path
making path Directory inode = MkDir path
making path SymbolicLink inode = Symlink path inode.target
making path CharacterDevice inode = MkNod 0o020_000 inode.rdev path
making path BlockDevice inode = MkNod 0o060_000 inode.rdev path
making path Fifo inode = MkFifo path
making path Socket inode = MkSock path

-- The root is there.
abbrev pub making_commands : {C : Type 0} → List ℕ → Inode C → List Command
making_commands [] inode = []
making_commands (b ∷ path) inode = making (b ∷ path) inode.kind inode ∷ []

abbrev pub flags_commands : List ℕ → ℕ → List Command
flags_commands path flags = if flags == 0 then [] else FileAttr path flags ∷ []

abbrev pub setting_commands : {C : Type 0} → List ℕ → Inode C → List Command
setting_commands path inode =
    Chown inode.uid inode.gid path ∷ Chmod inode.mode path
    ∷ (flags_commands path inode.flags ++ Utimes inode.mtime inode.atime path ∷ [])

abbrev pub inode_commands : List ℕ → Inode (Option ℕ) → List Command
inode_commands path inode =
    making_commands path inode
    ++ (map (λ e. SetXattr e.0 e.1 path) inode.xattrs
    ++ (contents_commands path inode.cells ++ setting_commands path inode))

-- ---- the subvolume

-- A path that is not its inode's first is one more name for it.
abbrev pub listed_commands : List ℕ × Listed (Option ℕ) → List Command
listed_commands e =
    if bytes_eq e.0 e.1.first then inode_commands e.0 e.1.inode else Link e.0 e.1.first ∷ []

unfoldable pub sent_edits : Subvolume (Option ℕ) → List Command
sent_edits s = flat_map listed_commands (listing s)

unfoldable pub sent : List ℕ → Key → Subvolume (Option ℕ) → List Command
sent name key s = Subvol key.uuid key.ctransid name ∷ (sent_edits s ++ End ∷ [])

-- Version 1 has no FILEATTR.
unfoldable pub sent_version : Subvolume (Option ℕ) → ℕ
sent_version s = if list_any (λ e. not (e.1.inode.flags == 0)) (listing s) then 2 else 1

unfoldable pub sent_stream : List ℕ → Key → Subvolume (Option ℕ) → List ℕ
sent_stream name key s =
    stream_header (sent_version s) ++ canonical_all (sent_version s) (sent name key s)

-- ---- edits one after the other

-- What commands leave of a subvolume, or the first refusal.
unfoldable pub edit_all : List Command → Subvolume (Option ℕ)
    → Result (Subvolume (Option ℕ)) Refusal
edit_all [] s = Ok s
edit_all (command ∷ commands) s =
    edit None (held (bytes_of command)) command s >>= edit_all commands
