-- The commands of a stream and the one table of them: each command's number, name and wanted
-- attributes. The last three came with version 2. Source: enum btrfs_send_cmd in send.h of
-- btrfs-progs, and process_.. in send-stream.c for the attributes.
use Rattle.std.specs.Prelude.{ℕ, ◌==◌, ◌&&◌, Bool, List, [], ◌∷◌, ◌++◌, take, drop, Option, codes, if◌then◌else◌}
use Rattle.std.specs.List.{find}
use Rattle.std.specs.Int.{w32, w64, from_le_bytes}
use Rattle.send_model.specs.Attribute.{Time, Field, Identifier, Number, ShortNumber, Moment, Bytes, UUID, CTRANSID, SIZE, MODE, UID, GID, RDEV, MTIME, ATIME, XATTR_NAME, XATTR_DATA, PATH, PATH_TO, PATH_LINK, FILE_OFFSET, DATA, CLONE_UUID, CLONE_CTRANSID, CLONE_PATH, CLONE_OFFSET, CLONE_LEN, FALLOCATE_MODE, FILE_FLAGS}

-- The commands by name.
pub data Kind : Type 0 where
  SUBVOL : Kind
  SNAPSHOT : Kind
  MKFILE : Kind
  MKDIR : Kind
  MKNOD : Kind
  MKFIFO : Kind
  MKSOCK : Kind
  SYMLINK : Kind
  RENAME : Kind
  LINK : Kind
  UNLINK : Kind
  RMDIR : Kind
  SET_XATTR : Kind
  REMOVE_XATTR : Kind
  WRITE : Kind
  CLONE : Kind
  TRUNCATE : Kind
  CHMOD : Kind
  CHOWN : Kind
  UTIMES : Kind
  END : Kind
  UPDATE_EXTENT : Kind
  FALLOCATE : Kind
  FILEATTR : Kind

-- A row of the table. The wanted attributes stand in rising order of their numbers.
pub record Row : Type 0 where
  pub number : ℕ
  pub name : List ℕ
  pub wanted : List ℕ

unfoldable pub row : Kind → Row
row SUBVOL = record { number = 1; name = codes "SUBVOL"; wanted = UUID ∷ CTRANSID ∷ PATH ∷ [] }
row SNAPSHOT =
    record {
      number = 2;
      name = codes "SNAPSHOT";
      wanted = UUID ∷ CTRANSID ∷ PATH ∷ CLONE_UUID ∷ CLONE_CTRANSID ∷ [];
    }
row MKFILE = record { number = 3; name = codes "MKFILE"; wanted = PATH ∷ [] }
row MKDIR = record { number = 4; name = codes "MKDIR"; wanted = PATH ∷ [] }
row MKNOD = record { number = 5; name = codes "MKNOD"; wanted = MODE ∷ RDEV ∷ PATH ∷ [] }
row MKFIFO = record { number = 6; name = codes "MKFIFO"; wanted = PATH ∷ [] }
row MKSOCK = record { number = 7; name = codes "MKSOCK"; wanted = PATH ∷ [] }
row SYMLINK = record { number = 8; name = codes "SYMLINK"; wanted = PATH ∷ PATH_LINK ∷ [] }
row RENAME = record { number = 9; name = codes "RENAME"; wanted = PATH ∷ PATH_TO ∷ [] }
row LINK = record { number = 10; name = codes "LINK"; wanted = PATH ∷ PATH_LINK ∷ [] }
row UNLINK = record { number = 11; name = codes "UNLINK"; wanted = PATH ∷ [] }
row RMDIR = record { number = 12; name = codes "RMDIR"; wanted = PATH ∷ [] }
row SET_XATTR =
    record { number = 13; name = codes "SET_XATTR"; wanted = XATTR_NAME ∷ XATTR_DATA ∷ PATH ∷ [] }
row REMOVE_XATTR =
    record { number = 14; name = codes "REMOVE_XATTR"; wanted = XATTR_NAME ∷ PATH ∷ [] }
row WRITE = record { number = 15; name = codes "WRITE"; wanted = PATH ∷ FILE_OFFSET ∷ DATA ∷ [] }
row CLONE = record {
  number = 16;
  name = codes "CLONE";
  wanted = PATH ∷ FILE_OFFSET ∷ CLONE_UUID ∷ CLONE_CTRANSID ∷ CLONE_PATH ∷ CLONE_OFFSET ∷ CLONE_LEN
      ∷ [];
}
row TRUNCATE = record { number = 17; name = codes "TRUNCATE"; wanted = SIZE ∷ PATH ∷ [] }
row CHMOD = record { number = 18; name = codes "CHMOD"; wanted = MODE ∷ PATH ∷ [] }
row CHOWN = record { number = 19; name = codes "CHOWN"; wanted = UID ∷ GID ∷ PATH ∷ [] }
row UTIMES = record { number = 20; name = codes "UTIMES"; wanted = MTIME ∷ ATIME ∷ PATH ∷ [] }
row END = record { number = 21; name = codes "END"; wanted = [] }
row UPDATE_EXTENT =
    record { number = 22; name = codes "UPDATE_EXTENT"; wanted = SIZE ∷ PATH ∷ FILE_OFFSET ∷ [] }
row FALLOCATE =
    record {
      number = 23;
      name = codes "FALLOCATE";
      wanted = SIZE ∷ PATH ∷ FILE_OFFSET ∷ FALLOCATE_MODE ∷ [];
    }
row FILEATTR = record { number = 24; name = codes "FILEATTR"; wanted = PATH ∷ FILE_FLAGS ∷ [] }

-- Version 2 has one command more, ENCODED_WRITE, which is never taken: it writes bytes that are
-- still compressed.
abbrev pub is_encoded : ℕ → ℕ → Bool
is_encoded version number = (version == 2) && (number == 25)

abbrev pub first_kinds : List Kind
first_kinds =
    SUBVOL ∷ SNAPSHOT ∷ MKFILE ∷ MKDIR ∷ MKNOD ∷ MKFIFO ∷ MKSOCK ∷ SYMLINK ∷ RENAME ∷ LINK ∷ UNLINK
    ∷ RMDIR ∷ SET_XATTR
    ∷ REMOVE_XATTR ∷ WRITE ∷ CLONE ∷ TRUNCATE ∷ CHMOD ∷ CHOWN ∷ UTIMES ∷ END ∷ UPDATE_EXTENT ∷ []

abbrev pub all_kinds : List Kind
all_kinds = first_kinds ++ FALLOCATE ∷ FILEATTR ∷ []

-- The commands of a version.
abbrev pub kinds_of : ℕ → List Kind
kinds_of version = if version == 1 then first_kinds else (if version == 2 then all_kinds else [])

-- The command of a number, if the version has one.
unfoldable pub kind_of_number : ℕ → ℕ → Option Kind
kind_of_number version number = find (λ kind. (row kind).number == number) (kinds_of version)

-- A command with its values, in the order of its wanted attributes. A path, a name and data are
-- bytes; sizes and offsets count bytes; an identifier is its 16 bytes.
pub data Command : Type 0 where
  Subvol : (uuid : List ℕ) (ctransid : ℕ) (path : List ℕ) → Command
  Snapshot : (uuid : List ℕ) (ctransid : ℕ) (path : List ℕ) (clone_uuid : List ℕ)
      (clone_ctransid : ℕ) → Command
  MkFile : (path : List ℕ) → Command
  MkDir : (path : List ℕ) → Command
  MkNod : (mode : ℕ) (rdev : ℕ) (path : List ℕ) → Command
  MkFifo : (path : List ℕ) → Command
  MkSock : (path : List ℕ) → Command
  Symlink : (path : List ℕ) (path_link : List ℕ) → Command
  Rename : (path : List ℕ) (path_to : List ℕ) → Command
  Link : (path : List ℕ) (path_link : List ℕ) → Command
  Unlink : (path : List ℕ) → Command
  Rmdir : (path : List ℕ) → Command
  SetXattr : (name : List ℕ) (value : List ℕ) (path : List ℕ) → Command
  RemoveXattr : (name : List ℕ) (path : List ℕ) → Command
  Write : (path : List ℕ) (offset : ℕ) (bytes : List ℕ) → Command
  Clone : (path : List ℕ) (offset : ℕ) (clone_uuid : List ℕ) (clone_ctransid : ℕ)
      (clone_path : List ℕ) (clone_offset : ℕ) (clone_len : ℕ) → Command
  Truncate : (size : ℕ) (path : List ℕ) → Command
  Chmod : (mode : ℕ) (path : List ℕ) → Command
  Chown : (uid : ℕ) (gid : ℕ) (path : List ℕ) → Command
  Utimes : (mtime : Time) (atime : Time) (path : List ℕ) → Command
  End : Command
  UpdateExtent : (size : ℕ) (path : List ℕ) (offset : ℕ) → Command
  Fallocate : (size : ℕ) (path : List ℕ) (offset : ℕ) (mode : ℕ) → Command
  FileAttr : (path : List ℕ) (flags : ℕ) → Command

abbrev pub kind_of : Command → Kind
kind_of (Subvol uuid ctransid path) = SUBVOL
kind_of (Snapshot uuid ctransid path clone_uuid clone_ctransid) = SNAPSHOT
kind_of (MkFile path) = MKFILE
kind_of (MkDir path) = MKDIR
kind_of (MkNod mode rdev path) = MKNOD
kind_of (MkFifo path) = MKFIFO
kind_of (MkSock path) = MKSOCK
kind_of (Symlink path path_link) = SYMLINK
kind_of (Rename path path_to) = RENAME
kind_of (Link path path_link) = LINK
kind_of (Unlink path) = UNLINK
kind_of (Rmdir path) = RMDIR
kind_of (SetXattr name value path) = SET_XATTR
kind_of (RemoveXattr name path) = REMOVE_XATTR
kind_of (Write path offset bytes) = WRITE
kind_of (Clone path offset clone_uuid clone_ctransid clone_path clone_offset clone_len) = CLONE
kind_of (Truncate size path) = TRUNCATE
kind_of (Chmod mode path) = CHMOD
kind_of (Chown uid gid path) = CHOWN
kind_of (Utimes mtime atime path) = UTIMES
kind_of End = END
kind_of (UpdateExtent size path offset) = UPDATE_EXTENT
kind_of (Fallocate size path offset mode) = FALLOCATE
kind_of (FileAttr path flags) = FILEATTR

-- Its values, in the order of the wanted attributes.
abbrev pub fields_of : Command → List Field
fields_of (Subvol uuid ctransid path) = Identifier uuid ∷ Number ctransid ∷ Bytes path ∷ []
fields_of (Snapshot uuid ctransid path clone_uuid clone_ctransid) =
    Identifier uuid ∷ Number ctransid ∷ Bytes path ∷ Identifier clone_uuid ∷ Number clone_ctransid
    ∷ []
fields_of (MkFile path) = Bytes path ∷ []
fields_of (MkDir path) = Bytes path ∷ []
fields_of (MkNod mode rdev path) = Number mode ∷ Number rdev ∷ Bytes path ∷ []
fields_of (MkFifo path) = Bytes path ∷ []
fields_of (MkSock path) = Bytes path ∷ []
fields_of (Symlink path path_link) = Bytes path ∷ Bytes path_link ∷ []
fields_of (Rename path path_to) = Bytes path ∷ Bytes path_to ∷ []
fields_of (Link path path_link) = Bytes path ∷ Bytes path_link ∷ []
fields_of (Unlink path) = Bytes path ∷ []
fields_of (Rmdir path) = Bytes path ∷ []
fields_of (SetXattr name value path) = Bytes name ∷ Bytes value ∷ Bytes path ∷ []
fields_of (RemoveXattr name path) = Bytes name ∷ Bytes path ∷ []
fields_of (Write path offset bytes) = Bytes path ∷ Number offset ∷ Bytes bytes ∷ []
fields_of (Clone path offset clone_uuid clone_ctransid clone_path clone_offset clone_len) =
    Bytes path ∷ Number offset ∷ Identifier clone_uuid ∷ Number clone_ctransid ∷ Bytes clone_path
    ∷ Number clone_offset ∷ Number clone_len ∷ []
fields_of (Truncate size path) = Number size ∷ Bytes path ∷ []
fields_of (Chmod mode path) = Number mode ∷ Bytes path ∷ []
fields_of (Chown uid gid path) = Number uid ∷ Number gid ∷ Bytes path ∷ []
fields_of (Utimes mtime atime path) = Moment mtime ∷ Moment atime ∷ Bytes path ∷ []
fields_of End = []
fields_of (UpdateExtent size path offset) = Number size ∷ Bytes path ∷ Number offset ∷ []
fields_of (Fallocate size path offset mode) =
    Number size ∷ Bytes path ∷ Number offset ∷ ShortNumber mode ∷ []
fields_of (FileAttr path flags) = Bytes path ∷ Number flags ∷ []

-- The number, the short number and the moment that bytes say.
abbrev pub number_in : List ℕ → ℕ
number_in bytes = from_le_bytes w64 bytes

abbrev pub short_number_in : List ℕ → ℕ
short_number_in bytes = from_le_bytes w32 bytes

abbrev pub time_in : List ℕ → Time
time_in bytes =
    record { secs = from_le_bytes w64 (take 8 bytes); nanos = from_le_bytes w32 (drop 8 bytes) }

-- The command of a kind whose wanted attributes have the given values.
abbrev pub command_with : Kind → (ℕ → List ℕ) → Command
command_with SUBVOL values = Subvol (values UUID) (number_in (values CTRANSID)) (values PATH)
command_with SNAPSHOT values =
    Snapshot (values UUID) (number_in (values CTRANSID)) (values PATH) (values CLONE_UUID)
    (number_in (values CLONE_CTRANSID))
command_with MKFILE values = MkFile (values PATH)
command_with MKDIR values = MkDir (values PATH)
command_with MKNOD values = MkNod (number_in (values MODE)) (number_in (values RDEV)) (values PATH)
command_with MKFIFO values = MkFifo (values PATH)
command_with MKSOCK values = MkSock (values PATH)
command_with SYMLINK values = Symlink (values PATH) (values PATH_LINK)
command_with RENAME values = Rename (values PATH) (values PATH_TO)
command_with LINK values = Link (values PATH) (values PATH_LINK)
command_with UNLINK values = Unlink (values PATH)
command_with RMDIR values = Rmdir (values PATH)
command_with SET_XATTR values = SetXattr (values XATTR_NAME) (values XATTR_DATA) (values PATH)
command_with REMOVE_XATTR values = RemoveXattr (values XATTR_NAME) (values PATH)
command_with WRITE values = Write (values PATH) (number_in (values FILE_OFFSET)) (values DATA)
command_with CLONE values =
    Clone (values PATH) (number_in (values FILE_OFFSET)) (values CLONE_UUID)
    (number_in (values CLONE_CTRANSID))
    (values CLONE_PATH) (number_in (values CLONE_OFFSET)) (number_in (values CLONE_LEN))
command_with TRUNCATE values = Truncate (number_in (values SIZE)) (values PATH)
command_with CHMOD values = Chmod (number_in (values MODE)) (values PATH)
command_with CHOWN values = Chown (number_in (values UID)) (number_in (values GID)) (values PATH)
command_with UTIMES values = Utimes (time_in (values MTIME)) (time_in (values ATIME)) (values PATH)
command_with END values = End
command_with UPDATE_EXTENT values =
    UpdateExtent (number_in (values SIZE)) (values PATH) (number_in (values FILE_OFFSET))
command_with FALLOCATE values =
    Fallocate (number_in (values SIZE)) (values PATH) (number_in (values FILE_OFFSET))
    (short_number_in (values FALLOCATE_MODE))
command_with FILEATTR values = FileAttr (values PATH) (number_in (values FILE_FLAGS))
