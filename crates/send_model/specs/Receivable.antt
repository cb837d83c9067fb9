-- The receivable spelling: the one that the real `btrfs receive` takes. It stops at the first
-- command that lacks an attribute it asks for, though it never uses the value: the inode number
-- where something is made, and the time of the last change of an inode in UTIMES. Source:
-- process_.. in send-stream.c of btrfs-progs. What stands there is this program's own: number 0,
-- and the time of the last change of the contents.
use Rattle.std.specs.Prelude.{◌≡◌, ℕ, Bool, true, false, ◌&&◌, List, [], ◌∷◌, ◌++◌, map, nat_lt}
use Rattle.send_model.specs.Attribute.{INO, CTIME, Number, Moment, field_bytes}
use Rattle.send_model.specs.Command.{Command, Subvol, Snapshot, MkFile, MkDir, MkNod, MkFifo, MkSock, Symlink, Rename, Link, Unlink, Rmdir, SetXattr, RemoveXattr, Write, Clone, Truncate, Chmod, Chown, Utimes, End, UpdateExtent, Fallocate, FileAttr, row, kind_of}
use Rattle.send_model.specs.Spelling.{Attribute, stream_header, body_of, frame_of, attributes_of, Spells, IsSpellable}
use Rattle.send_model.specs.Reading.{Item}
use Rattle.send_model.specs.Counts.{is_end}

abbrev pub number_zero : Attribute
number_zero = record { kind = INO; bytes = field_bytes (Number 0) }

-- What is asked for beyond the wanted attributes.
abbrev pub asked_for : Command → List Attribute
asked_for (Subvol uuid ctransid path) = []
asked_for (Snapshot uuid ctransid path clone_uuid clone_ctransid) = []
asked_for (MkFile path) = number_zero ∷ []
asked_for (MkDir path) = number_zero ∷ []
asked_for (MkNod mode rdev path) = number_zero ∷ []
asked_for (MkFifo path) = number_zero ∷ []
asked_for (MkSock path) = number_zero ∷ []
asked_for (Symlink path path_link) = number_zero ∷ []
asked_for (Rename path path_to) = []
asked_for (Link path path_link) = []
asked_for (Unlink path) = []
asked_for (Rmdir path) = []
asked_for (SetXattr name value path) = []
asked_for (RemoveXattr name path) = []
asked_for (Write path offset bytes) = []
asked_for (Clone path offset clone_uuid clone_ctransid clone_path clone_offset clone_len) = []
asked_for (Truncate size path) = []
asked_for (Chmod mode path) = []
asked_for (Chown uid gid path) = []
asked_for (Utimes mtime atime path) =
    record { kind = CTIME; bytes = field_bytes (Moment mtime) } ∷ []
asked_for End = []
asked_for (UpdateExtent size path offset) = []
asked_for (Fallocate size path offset mode) = []
asked_for (FileAttr path flags) = []

-- It and the wanted attributes, in rising order of their numbers.
unfoldable pub receivable_attributes : Command → List Attribute
receivable_attributes command = asked_for command ++ attributes_of command

unfoldable pub receivable : ℕ → Command → List ℕ
receivable version command =
    frame_of (row (kind_of command)).number (body_of version (receivable_attributes command))

-- ---- files in this spelling

abbrev pub header_before : Bool → ℕ → List ℕ
header_before true version = stream_header version
header_before false version = []

-- Items in the receivable spelling, of which the first begins a stream or does not; each stream has
-- its own version.
unfoldable pub exported_from : Bool → List Item → List ℕ
exported_from begins [] = []
exported_from begins (item ∷ items) =
    header_before begins item.version
    ++ (receivable item.version item.command ++ exported_from (is_end item.command) items)

-- ---- laws

-- The receivable spelling spells its command.
abbrev pub ReceivableSpells : Type 0
ReceivableSpells =
    (version : ℕ) (c : Command) → IsSpellable version c → Spells version (receivable version c) c

abbrev pub rise : List ℕ → Bool
rise [] = true
rise (a ∷ []) = true
rise (a ∷ b ∷ rest) = nat_lt a b && rise (b ∷ rest)

-- Its attributes stand in rising order.
abbrev pub ReceivableRises : Type 0
ReceivableRises = (c : Command) → rise (map (λ a. a.kind) (receivable_attributes c)) ≡ true

-- What an item says, wherever it stands: its command, in a stream of a version.
abbrev pub said : Item → ℕ × Command
said item = (item.version, item.command)
