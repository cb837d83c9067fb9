-- Reading a file of streams, of either version, from the front: its commands, and how the reading
-- ends. The first rule that is broken ends it, with the refusal of that rule. Source:
-- read_and_process_cmd in send-stream.c of btrfs-progs.
use Rattle.std.specs.Prelude.{ℕ, zero, suc, ◌+◌, ◌-◌, Bool, true, false, ◌&&◌, ◌||◌, not, List, [], ◌∷◌, ◌++◌, length, take, drop, Option, None, Some, Result, Ok, Err, nat_lt, nat_le, ◌==◌, if◌then◌else◌}
use Rattle.std.specs.List.{list_all}
use Rattle.std.specs.Option.{unwrap_or}
use Rattle.std.specs.Str.{bytes_eq}
use Rattle.std.specs.Int.{w16, w32, from_le_bytes}
use Rattle.send_model.specs.Refusal.{Refusal, BadMagic, BadVersion, Truncated, LongCommand, BadChecksum, UnknownCommand, BadAttribute, MissingAttribute, BadTime, Encoded}
use Rattle.send_model.specs.Chain.{◌>>=◌, ◌>>◌, require, refuse_if, found}
use Rattle.send_model.specs.Attribute.{Form, AnIdentifier, ANumber, AShortNumber, AMoment, AnyBytes, NoForm, form_of, second, last_attribute, takes_rest, DATA, is_one_of}
use Rattle.send_model.specs.Command.{Command, Subvol, Snapshot, MkFile, MkDir, MkNod, MkFifo, MkSock, Symlink, Rename, Link, Unlink, Rmdir, SetXattr, RemoveXattr, Write, Clone, Truncate, Chmod, Chown, Utimes, End, UpdateExtent, Fallocate, FileAttr, row, is_encoded, kind_of_number, command_with, time_in}
use Rattle.send_model.specs.Spelling.{Attribute, magic, value_of, frame_checksum, greatest_body}

-- Numbers of two and four bytes at the front of a list.
unfoldable pub number16 : List ℕ → ℕ
number16 bytes = from_le_bytes w16 (take 2 bytes)

unfoldable pub number32 : List ℕ → ℕ
number32 bytes = from_le_bytes w32 (take 4 bytes)

-- ---- the stream header

abbrev pub header_len : ℕ
header_len = 17

-- The versions that are read.
abbrev pub is_version : ℕ → Bool
is_version version = (version == 1) || (version == 2)

-- The version of the stream whose header stands in front: too few bytes, another text, another
-- version.
unfoldable pub stream_version : List ℕ → Result ℕ Refusal
stream_version bytes = do
  require (nat_le header_len (length bytes)) Truncated
  require (bytes_eq (take 13 bytes) magic) BadMagic
  require (is_version (number32 (drop 13 bytes))) (BadVersion (number32 (drop 13 bytes)))
  Ok (number32 (drop 13 bytes))

-- ---- the frame

abbrev pub frame_header_len : ℕ
frame_header_len = 10

-- A frame whose checksum is right: its command's number, its body, and the bytes after it.
pub record Frame : Type 0 where
  pub number : ℕ
  pub body : List ℕ
  pub rest : List ℕ

-- The frame whose header says a length, a number and a checksum, before the bytes after the header:
-- too long a body, too few bytes for it, another checksum.
unfoldable pub frame_with : ℕ → ℕ → ℕ → List ℕ → Result Frame Refusal
frame_with len number stored after = do
  refuse_if (nat_lt greatest_body len) (LongCommand len)
  require (nat_le len (length after)) Truncated
  require (stored == frame_checksum len number (take len after))
      (BadChecksum stored (frame_checksum len number (take len after)))
  Ok (record { number = number; body = take len after; rest = drop len after })

-- The frame in front of bytes, which are too few for a header or begin with one.
unfoldable pub frame_at : List ℕ → Result Frame Refusal
frame_at bytes = do
  require (nat_le frame_header_len (length bytes)) Truncated
  frame_with (number32 bytes) (number16 (drop 4 bytes)) (number32 (drop 6 bytes))
      (drop frame_header_len bytes)

-- ---- the attributes

-- The number of the attribute in front, 0 where it is not there whole.
abbrev pub attribute_number : List ℕ → ℕ
attribute_number body = if nat_lt (length body) 2 then 0 else number16 body

-- How many bytes stand before those of an attribute: its number, and its length, if it has one.
abbrev pub attribute_head : ℕ → ℕ → ℕ
attribute_head version kind = if takes_rest version kind then 2 else 4

-- The length of the attribute in front: what it says, or, where it has no length, all that follows.
abbrev pub attribute_len : ℕ → List ℕ → ℕ
attribute_len version body =
    if takes_rest version (number16 body) then length body - 2 else number16 (drop 2 body)

-- Where the attribute in front ends.
abbrev pub attribute_end : ℕ → List ℕ → ℕ
attribute_end version body = attribute_head version (number16 body) + attribute_len version body

-- The attribute in front is of a known number, not one of those seen before, and whole.
abbrev pub attribute_lawful : ℕ → List ℕ → List ℕ → Bool
attribute_lawful version seen body =
    nat_le 2 (length body)
    && nat_lt 0 (number16 body)
    && nat_le (number16 body) (last_attribute version)
    && not (is_one_of (number16 body) seen)
    && nat_le (attribute_end version body) (length body)

-- The attribute in front of a body.
abbrev pub attribute_in : ℕ → List ℕ → Attribute
attribute_in version body =
    record {
      kind = number16 body;
      bytes = take (attribute_len version body) (drop (attribute_head version (number16 body)) body);
    }

-- The attributes of a body from the front on, the first breach of these rules being BadAttribute
-- with its number. The first number bounds how many there are; the body's length is always enough.
unfoldable pub attributes_from : ℕ → ℕ → List ℕ → List ℕ → Result (List Attribute) Refusal
attributes_from zero version seen body = Ok []
attributes_from (suc n) version seen [] = Ok []
attributes_from (suc n) version seen (b ∷ bs) = let body : List ℕ = b ∷ bs in
    if attribute_lawful version seen body
    then (attributes_from n version (number16 body ∷ seen)
    (drop (attribute_end version body) body) >>= λ rest.
    Ok (attribute_in version body ∷ rest))
    else Err (BadAttribute (attribute_number body))

unfoldable pub attributes_at : ℕ → List ℕ → Result (List Attribute) Refusal
attributes_at version body = attributes_from (length body) version [] body

-- ---- the command

-- The attribute's bytes have the length of its form.
abbrev pub form_fits : Form → List ℕ → Bool
form_fits AnIdentifier bytes = length bytes == 16
form_fits ANumber bytes = length bytes == 8
form_fits AShortNumber bytes = length bytes == 4
form_fits AMoment bytes = length bytes == 12
form_fits AnyBytes bytes = true
form_fits NoForm bytes = false

-- Wanted attribute by wanted attribute: it is missing, or has another length than its form.
unfoldable pub wanted_there : List ℕ → List Attribute → Result (Unit {0}) Refusal
wanted_there [] attributes = Ok tt
wanted_there (kind ∷ kinds) attributes = do
  bytes ← found (value_of kind attributes) (MissingAttribute kind)
  require (form_fits (form_of kind) bytes) (BadAttribute kind)
  wanted_there kinds attributes

-- The bytes of an attribute that is there.
abbrev pub bytes_at : List Attribute → ℕ → List ℕ
bytes_at attributes kind = unwrap_or (value_of kind attributes) []

-- A moment among the wanted attributes has less than a second of nanoseconds.
abbrev pub nanos_lawful : Form → List ℕ → Bool
nanos_lawful AMoment bytes = nat_lt (time_in bytes).nanos second
nanos_lawful AnIdentifier bytes = true
nanos_lawful ANumber bytes = true
nanos_lawful AShortNumber bytes = true
nanos_lawful AnyBytes bytes = true
nanos_lawful NoForm bytes = true

abbrev pub moment_lawful : List Attribute → ℕ → Bool
moment_lawful attributes kind = nanos_lawful (form_of kind) (bytes_at attributes kind)

-- The command of a number with these attributes. Its refusals in order: the number of
-- ENCODED_WRITE, no such number, the first wanted attribute that is missing or has a wrong length,
-- a bad time.
unfoldable pub command_of : ℕ → ℕ → List Attribute → Result Command Refusal
command_of version number attributes = do
  refuse_if (is_encoded version number) Encoded
  kind ← found (kind_of_number version number) (UnknownCommand number)
  wanted_there (row kind).wanted attributes
  require (list_all (moment_lawful attributes) (row kind).wanted) BadTime
  Ok (command_with kind (bytes_at attributes))

-- ---- a file

-- A command with the file that it stands in, counted from 1, its number there, counted from 1, the
-- place of its frame's first byte, the stream's version, and the place of the first byte of its
-- attribute DATA, 0 where it has none. Only a WRITE wants this attribute; any other command may
-- have it and it is skipped.
pub record Item : Type 0 where
  pub file : ℕ
  pub number : ℕ
  pub offset : ℕ
  pub version : ℕ
  pub data_at : ℕ
  pub command : Command

-- Where a refusal stands.
pub record Verdict : Type 0 where
  pub file : ℕ
  pub command : ℕ
  pub offset : ℕ
  pub refusal : Refusal

-- How reading ends: whole, or at the first fault.
pub data Ending : Type 0 where
  Whole : Ending
  Faulty : Verdict → Ending

pub record Reading : Type 0 where
  pub items : List Item
  pub end : Ending

-- The place in a body of the bytes of the attribute of a number, if it is there.
abbrev pub place_of : ℕ → ℕ → List Attribute → Option ℕ
place_of version kind [] = None
place_of version kind (a ∷ rest) = if a.kind == kind then Some (attribute_head version kind)
    else elim (place_of version kind rest) [
      | None ↦ None
      | Some place ↦
          Some (attribute_head version a.kind + length a.bytes + place)
    ]

abbrev pub data_place : ℕ → ℕ → List Attribute → ℕ
data_place version offset attributes =
    elim (place_of version DATA attributes) [
      | None ↦ 0
      | Some place ↦
          offset + frame_header_len + place
    ]

-- The command in front of the bytes, as the item of the given number at the given offset, and what
-- follows its frame.
pub record Front : Type 0 where
  pub item : Item
  pub rest : List ℕ

-- An item, from its command's attributes.
abbrev pub item_at : (file version number offset : ℕ) (attributes : List Attribute)
    (command : Command) → Item
item_at file version number offset attributes command = record {
  file = file;
  number = number;
  offset = offset;
  version = version;
  data_at = data_place version offset attributes;
  command = command;
}

unfoldable pub front_of : ℕ → ℕ → ℕ → ℕ → List ℕ → Result Front Refusal
front_of file version number offset bytes = do
  frame ← frame_at bytes
  attributes ← attributes_at version frame.body
  command ← command_of version frame.number attributes
  Ok (record { item = item_at file version number offset attributes command; rest = frame.rest })

-- What is due: a stream's header, or a command of a stream of a version.
pub data Due : Type 0 where
  HeaderDue : Due
  CommandDue : ℕ → Due

-- What is due after a command.
abbrev pub due_after : ℕ → Command → Due
due_after version End = HeaderDue
due_after version (Subvol uuid ctransid path) = CommandDue version
due_after version (Snapshot uuid ctransid path clone_uuid clone_ctransid) = CommandDue version
due_after version (MkFile path) = CommandDue version
due_after version (MkDir path) = CommandDue version
due_after version (MkNod mode rdev path) = CommandDue version
due_after version (MkFifo path) = CommandDue version
due_after version (MkSock path) = CommandDue version
due_after version (Symlink path path_link) = CommandDue version
due_after version (Rename path path_to) = CommandDue version
due_after version (Link path path_link) = CommandDue version
due_after version (Unlink path) = CommandDue version
due_after version (Rmdir path) = CommandDue version
due_after version (SetXattr name value path) = CommandDue version
due_after version (RemoveXattr name path) = CommandDue version
due_after version (Write path offset bytes) = CommandDue version
due_after version (Clone path offset clone_uuid clone_ctransid clone_path clone_offset clone_len) =
    CommandDue version
due_after version (Truncate size path) = CommandDue version
due_after version (Chmod mode path) = CommandDue version
due_after version (Chown uid gid path) = CommandDue version
due_after version (Utimes mtime atime path) = CommandDue version
due_after version (UpdateExtent size path offset) = CommandDue version
due_after version (Fallocate size path offset mode) = CommandDue version
due_after version (FileAttr path flags) = CommandDue version

abbrev pub with_item : Item → Reading → Reading
with_item item r = record { items = item ∷ r.items; end = r.end }

abbrev pub faulty : ℕ → ℕ → ℕ → Refusal → Reading
faulty file number offset refusal =
    record {
      items = [];
      end = Faulty (record { file = file; command = number; offset = offset; refusal = refusal });
    }

-- The file may end after an END.
abbrev pub may_end : Due → List ℕ → Bool
may_end HeaderDue [] = true
may_end HeaderDue (byte ∷ rest) = false
may_end (CommandDue version) rest = false

-- Nothing more is due, and nothing more is there.
abbrev pub ended : Reading
ended = record { items = []; end = Whole }

-- Reading goes on with a value, or stops at a refusal.
abbrev pub go_on : {A : Type 0} → (A → Reading) → (Refusal → Reading) → Result A Refusal → Reading
go_on more stop (Ok x) = more x
go_on more stop (Err refusal) = stop refusal

-- The items of the bytes from a place on, where the next command has the given number. The first
-- number bounds how many headers and commands there are; one more than the length of the bytes is
-- always enough.
unfoldable pub reads_from : ℕ → ℕ → Due → ℕ → ℕ → List ℕ → Reading
reads_from zero file due number offset bytes = faulty file number offset Truncated
reads_from (suc n) file HeaderDue number offset bytes =
    go_on (λ version. reads_from n file (CommandDue version) number (offset + header_len)
    (drop header_len bytes))
    (faulty file number offset) (stream_version bytes)
reads_from (suc n) file (CommandDue version) number offset bytes =
    go_on (λ front. with_item front.item (
    if may_end (due_after version front.item.command) front.rest then ended
    else reads_from n file (due_after version front.item.command) (number + 1)
    (offset + (length bytes - length front.rest)) front.rest))
    (faulty file number offset) (front_of file version number offset bytes)

-- A whole file, which is the given one of several.
unfoldable pub reads : ℕ → List ℕ → Reading
reads file bytes = reads_from (suc (length bytes)) file HeaderDue 1 0 bytes

-- The items of one file and those of the files after it, unless the first ends in a fault.
abbrev pub joined : Reading → Reading → Reading
joined first others = elim first.end [
  | Faulty verdict ↦ first
  | Whole ↦ record { items = first.items ++ others.items; end = others.end }
]

-- Files one after the other, counted from the given number, up to the first fault.
unfoldable pub input_from : ℕ → List (List ℕ) → Reading
input_from file [] = ended
input_from file (bytes ∷ files) = joined (reads file bytes) (input_from (file + 1) files)

unfoldable pub input : List (List ℕ) → Reading
input files = input_from 1 files
