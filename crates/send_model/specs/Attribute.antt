-- The attributes of protocol versions 1 and 2, and the form that each one's bytes have. Source: the
-- attribute numbers BTRFS_SEND_A_.. in send.h of btrfs-progs, and the tlv_get_.. of send-stream.c
-- for the forms.
use Rattle.std.specs.Prelude.{ℕ, ◌^◌, ◌<◌, ◌≡◌, ◌==◌, ◌&&◌, if◌then◌else◌, Bool, false, List, [], ◌∷◌, ◌++◌, length}
use Rattle.std.specs.List.{list_any, AllByRecursion}
use Rattle.std.specs.Int.{w32, w64, to_le_bytes}

abbrev pub UUID : ℕ
UUID = 1

abbrev pub CTRANSID : ℕ
CTRANSID = 2

abbrev pub INO : ℕ
INO = 3

abbrev pub SIZE : ℕ
SIZE = 4

abbrev pub MODE : ℕ
MODE = 5

abbrev pub UID : ℕ
UID = 6

abbrev pub GID : ℕ
GID = 7

abbrev pub RDEV : ℕ
RDEV = 8

abbrev pub CTIME : ℕ
CTIME = 9

abbrev pub MTIME : ℕ
MTIME = 10

abbrev pub ATIME : ℕ
ATIME = 11

abbrev pub OTIME : ℕ
OTIME = 12

abbrev pub XATTR_NAME : ℕ
XATTR_NAME = 13

abbrev pub XATTR_DATA : ℕ
XATTR_DATA = 14

abbrev pub PATH : ℕ
PATH = 15

abbrev pub PATH_TO : ℕ
PATH_TO = 16

abbrev pub PATH_LINK : ℕ
PATH_LINK = 17

abbrev pub FILE_OFFSET : ℕ
FILE_OFFSET = 18

abbrev pub DATA : ℕ
DATA = 19

abbrev pub CLONE_UUID : ℕ
CLONE_UUID = 20

abbrev pub CLONE_CTRANSID : ℕ
CLONE_CTRANSID = 21

abbrev pub CLONE_PATH : ℕ
CLONE_PATH = 22

abbrev pub CLONE_OFFSET : ℕ
CLONE_OFFSET = 23

abbrev pub CLONE_LEN : ℕ
CLONE_LEN = 24

-- From version 2 on. The number 26 is BTRFS_SEND_A_FILEATTR: the flags of an inode.
abbrev pub FALLOCATE_MODE : ℕ
FALLOCATE_MODE = 25

abbrev pub FILE_FLAGS : ℕ
FILE_FLAGS = 26

abbrev pub UNENCODED_FILE_LEN : ℕ
UNENCODED_FILE_LEN = 27

abbrev pub UNENCODED_LEN : ℕ
UNENCODED_LEN = 28

abbrev pub UNENCODED_OFFSET : ℕ
UNENCODED_OFFSET = 29

abbrev pub COMPRESSION : ℕ
COMPRESSION = 30

abbrev pub ENCRYPTION : ℕ
ENCRYPTION = 31

-- The greatest attribute number of a version. No command wants INO, CTIME, OTIME or one above 26.
abbrev pub last_attribute : ℕ → ℕ
last_attribute version = if version == 1 then CLONE_LEN else ENCRYPTION

-- In version 2 DATA has no length: its bytes are the rest of the body, in whatever command it
-- stands.
abbrev pub takes_rest : ℕ → ℕ → Bool
takes_rest version kind = (version == 2) && (kind == DATA)

-- A moment: seconds, and nanoseconds below a second.
pub record Time : Type 0 where
  pub secs : ℕ
  pub nanos : ℕ

abbrev pub second : ℕ
second = 1_000_000_000

-- What an attribute's bytes say: an identifier of 16 bytes, a number of 8, a short number of 4, a
-- moment of 12 (seconds in 8, nanoseconds in 4), or any bytes. A number that is no attribute's has
-- no form.
pub data Form : Type 0 where
  AnIdentifier : Form
  ANumber : Form
  AShortNumber : Form
  AMoment : Form
  AnyBytes : Form
  NoForm : Form

abbrev pub is_one_of : ℕ → List ℕ → Bool
is_one_of kind kinds = list_any (λ k. k == kind) kinds

abbrev pub identifiers : List ℕ
identifiers = UUID ∷ CLONE_UUID ∷ []

abbrev pub moments : List ℕ
moments = CTIME ∷ MTIME ∷ ATIME ∷ OTIME ∷ []

abbrev pub byte_strings : List ℕ
byte_strings = XATTR_NAME ∷ XATTR_DATA ∷ PATH ∷ PATH_TO ∷ PATH_LINK ∷ DATA ∷ CLONE_PATH ∷ []

abbrev pub short_numbers : List ℕ
short_numbers = FALLOCATE_MODE ∷ COMPRESSION ∷ ENCRYPTION ∷ []

abbrev pub numbers : List ℕ
numbers = CTRANSID ∷ INO ∷ SIZE ∷ MODE ∷ UID ∷ GID ∷ RDEV ∷ FILE_OFFSET ∷ CLONE_CTRANSID
    ∷ CLONE_OFFSET ∷ CLONE_LEN
    ∷ FILE_FLAGS ∷ UNENCODED_FILE_LEN ∷ UNENCODED_LEN ∷ UNENCODED_OFFSET ∷ []

-- The form of each attribute.
unfoldable pub form_of : ℕ → Form
form_of kind =
    if is_one_of kind identifiers then AnIdentifier
    else (if is_one_of kind moments then AMoment
    else (if is_one_of kind byte_strings then AnyBytes
    else (if is_one_of kind short_numbers then AShortNumber
    else (if is_one_of kind numbers then ANumber else NoForm))))

-- A value that a command keeps for an attribute.
pub data Field : Type 0 where
  Identifier : List ℕ → Field
  Number : ℕ → Field
  ShortNumber : ℕ → Field
  Moment : Time → Field
  Bytes : List ℕ → Field

-- Its bytes, as a stream has them.
abbrev pub field_bytes : Field → List ℕ
field_bytes (Identifier bytes) = bytes
field_bytes (Number n) = to_le_bytes w64 n
field_bytes (ShortNumber n) = to_le_bytes w32 n
field_bytes (Moment t) = to_le_bytes w64 t.secs ++ to_le_bytes w32 t.nanos
field_bytes (Bytes bytes) = bytes

abbrev pub IsBytes : List ℕ → Type 0
IsBytes bytes = AllByRecursion (λ b. b < 256) bytes

-- Bytes of this many are short enough for the length field of an attribute, where it has one.
abbrev pub HasRoom : ℕ → ℕ → ℕ → Type 0
HasRoom version kind len = takes_rest version kind ≡ false → len < 2 ^ 16

-- A value that a version can say as an attribute of a number.
abbrev pub FieldFits : ℕ → ℕ → Field → Type 0
FieldFits version kind (Identifier bytes) = (length bytes ≡ 16) × IsBytes bytes
FieldFits version kind (Number n) = n < 2 ^ 64
FieldFits version kind (ShortNumber n) = n < 2 ^ 32
FieldFits version kind (Moment t) = (t.secs < 2 ^ 64) × (t.nanos < second)
FieldFits version kind (Bytes bytes) = HasRoom version kind (length bytes) × IsBytes bytes

-- The same of the values of attributes, in their order.
abbrev pub FieldsFit : ℕ → List ℕ → List Field → Type 0
FieldsFit version (kind ∷ kinds) (field ∷ fields) =
    FieldFits version kind field × FieldsFit version kinds fields
FieldsFit version [] [] = Unit {0}
FieldsFit version [] (field ∷ fields) = ⊥
FieldsFit version (kind ∷ kinds) [] = ⊥
