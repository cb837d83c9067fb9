-- What a whole subvolume that is sent needs, and what it promises. This program's own.
use Rattle.std.specs.Prelude.{◌≡◌, ℕ, ◌+◌, ◌^◌, ◌<◌, ◌≤◌, ◌%◌, Bool, true, false, List, [], ◌∷◌, ◌++◌, length, Option, None, Some, Ok}
use Rattle.std.specs.List.{AllByRecursion, filter}
use Rattle.std.specs.Str.{bytes_eq}
use Rattle.send_model.specs.Path.{is_name}
use Rattle.send_model.specs.Subvolume.{NodeKind, File, Directory, SymbolicLink, CharacterDevice, BlockDevice, Fifo, Socket, is_file_kind, Inode, Subvolume, IsLawful, new_inode, new_directory, root, root_alone}
use Rattle.send_model.specs.Edit.{greatest_end, greatest_number, is_xattr_name, edit}
use Rattle.send_model.specs.Clone.{CloneValues, clone}
use Rattle.send_model.specs.Command.{Command}
use Rattle.send_model.specs.Attribute.{Identifier, Moment, Bytes, FieldFits, IsBytes, UUID, ATIME, MTIME, PATH, PATH_LINK, XATTR_NAME, XATTR_DATA}
use Rattle.send_model.specs.Spelling.{IsSpellable}
use Rattle.send_model.specs.Reading.{Item}
use Rattle.send_model.specs.Store.{Key, Store, has_name, has_uuid}
use Rattle.send_model.specs.Receive.{bytes_of, run_items, byte_cells, start_of, receive}
use Rattle.send_model.specs.Order.{commands_of}
use Rattle.send_model.specs.Cells.{recelled}
use Rattle.snapshot_model.specs.Listing.{byte_of, held, held_cells, Listed, listing}
use Rattle.snapshot_model.specs.Sent.{sent_edits, sent, sent_version, sent_stream, edit_all}
use Rattle.snapshot_model.specs.Restored.{restored_edits, restored, restored_stream}

-- An inode as its making command leaves it.
abbrev pub made : {C : Type 0} → NodeKind → Inode C → Inode C
made File inode = new_inode File 0o600 0 []
made Directory inode = new_directory
made SymbolicLink inode = new_inode SymbolicLink 0o777 0 inode.target
made CharacterDevice inode = new_inode CharacterDevice 0o600 inode.rdev []
made BlockDevice inode = new_inode BlockDevice 0o600 inode.rdev []
made Fifo inode = new_inode Fifo 0o600 0 []
made Socket inode = new_inode Socket 0o600 0 []

-- What each inode has that edits made: only a file has cells, only a symbolic link a target, only a
-- device a number; modes have twelve bits, names of extended attributes are lawful, and no file is
-- too big.
pub record IsMade {C : Type 0} (inode : Inode C) : Type 0 where
  pub rdev : (made inode.kind inode).rdev ≡ inode.rdev
  pub target : (made inode.kind inode).target ≡ inode.target
  pub contents : is_file_kind inode.kind ≡ false → inode.cells ≡ []
  pub mode : inode.mode % 0o10_000 ≡ inode.mode
  pub attributes : AllByRecursion (λ e. is_xattr_name e.0 ≡ true) inode.xattrs
  pub size : length inode.cells ≤ greatest_end

-- How many inodes are sent: one for each path that is its inode's first.
abbrev pub is_first : {C : Type 0} → List ℕ × Listed C → Bool
is_first e = bytes_eq e.0 e.1.first

-- A subvolume that can be sent: a lawful one with inodes as edits make them, and not more of them
-- than a new subvolume has numbers.
pub record IsSendable {C : Type 0} (s : Subvolume C) : Type 0 where
  pub lawful : IsLawful s
  pub inodes : AllByRecursion (λ e. IsMade e.1) s.inodes
  pub numbers : root + length (filter is_first (listing s)) ≤ greatest_number

-- Edits are taken from a root alone on, and leave a lawful subvolume with the same listing, holes
-- among the cells.
pub record MakesAgain (edits : List Command) (s t : Subvolume (Option ℕ)) : Type 0 where
  pub taken : edit_all edits root_alone ≡ Ok t
  pub lawful : IsLawful t
  pub same : listing t ≡ listing s

-- So are those that are sent.
abbrev pub SentEditsAreTaken : Type 0
SentEditsAreTaken =
    (s : Subvolume (Option ℕ)) → IsSendable s
    → (t : Subvolume (Option ℕ)) × MakesAgain (sent_edits s) s t

-- And those that are restored, where inodes have numbers.
abbrev pub RestoredEditsAreTaken : Type 0
RestoredEditsAreTaken =
    (s : Subvolume (Option ℕ)) → IsSendable s → s.next ≤ greatest_number
    → (t : Subvolume (Option ℕ)) × MakesAgain (restored_edits s) s t

-- ---- over stores

-- A whole subvolume, with the name and the key that it is sent with.
pub record Named (C : Type 0) : Type 0 where
  pub name : List ℕ
  pub key : Key
  pub contents : Subvolume C

abbrev pub named : {C : Type 0} → (name : List ℕ) (key : Key) → Subvolume C → Named C
named name key s = record { name = name; key = key; contents = s }

-- Items are received into a store as a new entry at its end, with the name, the key and the listing
-- of a given subvolume.
pub record IsReceivedAs {C : Type 0} (zero_cell : C) (cells : Item → List C) (whole : Named C)
    (store : Store C) (items : List Item) : Type 0 where
  pub after : Subvolume C
  pub run : run_items zero_cell cells (start_of store) items
      ≡ record {
        state = start_of
            (store ++ record {
              name = whole.name;
              key = whole.key;
              parent = None;
              contents = Some after;
            } ∷ []);
        refused = None;
      }
  pub same : listing after ≡ listing whole.contents

-- A store has neither the name nor the uuid.
abbrev pub IsNew : {C : Type 0} → List ℕ → Key → Store C → Type 0
IsNew name key store = (has_name name store ≡ false) × (has_uuid key.uuid store ≡ false)

-- What is sent of a subvolume is accepted by every such store, over cells that are a byte or zero
-- and over bytes.
pub record AreReceived (name : List ℕ) (key : Key) (s : Subvolume (Option ℕ))
    (items : List Item) : Type 0 where
  pub cells : (store : Store (Option ℕ)) → IsNew name key store
      → IsReceivedAs None held_cells (named name key s) store items
  pub bytes : (store : Store ℕ) → IsNew name key store
      → IsReceivedAs 0 byte_cells (named name key (recelled byte_of s)) store items

abbrev pub SentIsReceived : Type 0
SentIsReceived =
    (name : List ℕ) (key : Key) (s : Subvolume (Option ℕ)) (items : List Item) → IsSendable s
    → is_name name ≡ true
    → commands_of items ≡ sent name key s → AreReceived name key s items

-- So is what is restored.
abbrev pub RestoredIsReceived : Type 0
RestoredIsReceived =
    (name : List ℕ) (key : Key) (s : Subvolume (Option ℕ)) (items : List Item) → IsSendable s
    → s.next ≤ greatest_number → is_name name ≡ true
    → commands_of items ≡ restored name key s → AreReceived name key s items

-- ---- as bytes

-- What the format can say of an inode.
pub record IsTold (inode : Inode (Option ℕ)) : Type 0 where
  pub owners : (inode.uid < 2 ^ 64) × (inode.gid < 2 ^ 64)
  pub device : inode.rdev < 2 ^ 64
  pub flags : inode.flags < 2 ^ 64
  pub atime : FieldFits 1 ATIME (Moment inode.atime)
  pub mtime : FieldFits 1 MTIME (Moment inode.mtime)
  pub target : FieldFits 1 PATH_LINK (Bytes inode.target)
  pub attribute_names : AllByRecursion (λ e. FieldFits 1 XATTR_NAME (Bytes e.0)) inode.xattrs
  pub attribute_values : AllByRecursion (λ e. FieldFits 1 XATTR_DATA (Bytes e.1)) inode.xattrs
  pub cells : AllByRecursion (λ cell. byte_of cell < 256) inode.cells

-- What it can say of a subvolume, its name and its key.
pub record CanBeTold (name : List ℕ) (key : Key) (s : Subvolume (Option ℕ)) : Type 0 where
  pub uuid : FieldFits 1 UUID (Identifier key.uuid)
  pub ctransid : key.ctransid < 2 ^ 64
  pub name_told : FieldFits 1 PATH (Bytes name)
  pub inodes : AllByRecursion (λ e. IsTold e.1) s.inodes
  pub names : AllByRecursion (λ e. IsBytes e.0.1) s.names

-- The version of the stream can say each command.
abbrev pub SentIsSpellable : Type 0
SentIsSpellable =
    (name : List ℕ) (key : Key) (s : Subvolume (Option ℕ)) → IsSendable s → CanBeTold name key s
    → AllByRecursion (IsSpellable (sent_version s)) (sent name key s)

abbrev pub RestoredIsSpellable : Type 0
RestoredIsSpellable =
    (name : List ℕ) (key : Key) (s : Subvolume (Option ℕ)) → IsSendable s → s.next ≤ greatest_number
    → CanBeTold name key s
    → AllByRecursion (IsSpellable (sent_version s)) (restored name key s)

-- A file is received into a store as a new entry with the same listing.
abbrev pub FileIsReceivedAs : List ℕ → Key → Subvolume (Option ℕ) → Store ℕ → List ℕ → Type 0
FileIsReceivedAs name key s store file = (after : Subvolume ℕ)
    × (receive store (file ∷ [])
    ≡ record {
      state = start_of
          (store ++ record { name = name; key = key; parent = None; contents = Some after } ∷ []);
      refused = None;
    })
    × (listing after ≡ listing (recelled byte_of s))

-- So both streams are received by every store of bytes that has neither the name nor the uuid.
abbrev pub SentStreamIsReceived : Type 0
SentStreamIsReceived =
    (name : List ℕ) (key : Key) (s : Subvolume (Option ℕ)) (store : Store ℕ) → IsSendable s
    → is_name name ≡ true
    → CanBeTold name key s → IsNew name key store
    → FileIsReceivedAs name key s store (sent_stream name key s)

abbrev pub RestoredStreamIsReceived : Type 0
RestoredStreamIsReceived =
    (name : List ℕ) (key : Key) (s : Subvolume (Option ℕ)) (store : Store ℕ) → IsSendable s
    → s.next ≤ greatest_number → is_name name ≡ true
    → CanBeTold name key s → IsNew name key store
    → FileIsReceivedAs name key s store (restored_stream name key s)

-- Enough numbers are there where no subvolume has more inodes than numbers from the root's on.
abbrev pub MadeIsSendable : Type 0
MadeIsSendable =
    (s : Subvolume (Option ℕ)) → IsLawful s → AllByRecursion (λ e. IsMade e.1) s.inodes
    → root + length s.inodes ≤ greatest_number → IsSendable s

-- There is a number for each inode, from the root's on, and none is above the greatest.
pub record HasNumbers {C : Type 0} (s : Subvolume C) : Type 0 where
  pub each : root + length s.inodes ≤ s.next
  pub next : s.next ≤ greatest_number

-- ---- what stands

-- What sending asks of a subvolume, and what edits keep.
pub record IsKept (s : Subvolume (Option ℕ)) : Type 0 where
  pub lawful : IsLawful s
  pub made : AllByRecursion (λ e. IsMade e.1) s.inodes
  pub numbers : HasNumbers s
  pub told : AllByRecursion (λ e. IsTold e.1) s.inodes
  pub names : AllByRecursion (λ e. IsBytes e.0.1) s.names

-- A root alone has it; so has what an edit makes of one that has it, by a command that a version
-- can say; and what a clone does, from a source that has it.
pub record EditsKeepIt : Type 0 where
  pub start : IsKept root_alone
  pub edits : (version : ℕ) (c : Command) (s t : Subvolume (Option ℕ)) → IsSpellable version c
      → IsKept s → edit None (held (bytes_of c)) c s ≡ Ok t → IsKept t
  pub clones : (part source t : Subvolume (Option ℕ)) (is_own : Bool) (values : CloneValues)
      → IsKept part → IsKept source
      → clone None part (Some source) is_own values ≡ Ok t → IsKept t

-- All of it can be sent.
abbrev pub KeptIsSendable : Type 0
KeptIsSendable = (s : Subvolume (Option ℕ)) → IsKept s → IsSendable s
