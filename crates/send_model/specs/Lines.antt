-- What `dump` prints of a file: a line for each stream that has a command, and one for each
-- command. The lines are this program's own.
use Rattle.std.specs.Prelude.{ℕ, ◌==◌, Bool, true, List, [], ◌∷◌, ◌++◌, length, codes, if◌then◌else◌}
use Rattle.std.specs.Fmt.{decimal}
use Rattle.std.specs.Ordering.{nat_cmp}
use Rattle.std.specs.Option.{unwrap_or}
use Rattle.send_model.specs.Attribute.{UUID, CTRANSID, SIZE, MODE, UID, GID, RDEV, MTIME, ATIME, XATTR_NAME, XATTR_DATA, PATH, PATH_TO, PATH_LINK, FILE_OFFSET, DATA, CLONE_UUID, CLONE_CTRANSID, CLONE_PATH, CLONE_OFFSET, CLONE_LEN, FALLOCATE_MODE, FILE_FLAGS, is_one_of, Field, Identifier, Number, ShortNumber, Moment, Bytes}
use Rattle.send_model.specs.Command.{row, kind_of, fields_of}
use Rattle.send_model.specs.Reading.{Item, reads}
use Rattle.send_model.specs.Map.{Map, value_at}
use Rattle.send_model.specs.Printed.{escaped, uuid_text, octal, time_text}
use Rattle.send_model.specs.Counts.{is_end}

-- The names under which the values of attributes are printed.
abbrev pub value_names : Map ℕ (List ℕ)
value_names =
    (UUID, codes "uuid") ∷ (CTRANSID, codes "ctransid") ∷ (SIZE, codes "size")
    ∷ (MODE, codes "mode") ∷ (UID, codes "uid")
    ∷ (GID, codes "gid") ∷ (RDEV, codes "rdev") ∷ (MTIME, codes "mtime") ∷ (ATIME, codes "atime")
    ∷ (XATTR_NAME, codes "xattr")
    ∷ (XATTR_DATA, codes "value") ∷ (PATH, codes "path") ∷ (PATH_TO, codes "to")
    ∷ (PATH_LINK, codes "link")
    ∷ (FILE_OFFSET, codes "offset") ∷ (DATA, codes "data") ∷ (CLONE_UUID, codes "clone_uuid")
    ∷ (CLONE_CTRANSID, codes "clone_ctransid") ∷ (CLONE_PATH, codes "clone_path")
    ∷ (CLONE_OFFSET, codes "clone_offset")
    ∷ (CLONE_LEN, codes "clone_len") ∷ (FALLOCATE_MODE, codes "fmode") ∷ (FILE_FLAGS, codes "flags")
    ∷ []

-- A value: the mode of a file in octal, other numbers in decimal; names and paths escaped; the
-- contents of a file or of an extended attribute in a form that is given.
abbrev pub value_with : (List ℕ → List ℕ) → ℕ → Field → List ℕ
value_with contents kind (Identifier bytes) = uuid_text bytes
value_with contents kind (Number n) = if kind == MODE then octal n else decimal n
value_with contents kind (ShortNumber n) = decimal n
value_with contents kind (Moment t) = time_text t
value_with contents kind (Bytes bytes) =
    if is_one_of kind (XATTR_DATA ∷ DATA ∷ []) then contents bytes else escaped bytes

-- Each value after a space, with its name.
abbrev pub values_with : (List ℕ → List ℕ) → List ℕ → List Field → List ℕ
values_with contents (kind ∷ kinds) (field ∷ fields) =
    0x20 ∷ unwrap_or (value_at nat_cmp kind value_names) [] ++ 0x3d ∷ value_with contents kind field
    ++ values_with contents kinds fields
values_with contents [] [] = []
values_with contents [] (field ∷ fields) = []
values_with contents (kind ∷ kinds) [] = []

-- `dump` prints of contents how many bytes they have.
abbrev pub count_text : List ℕ → List ℕ
count_text bytes = decimal (length bytes)

abbrev pub value_text : ℕ → Field → List ℕ
value_text kind field = value_with count_text kind field

abbrev pub values_text : List ℕ → List Field → List ℕ
values_text kinds fields = values_with count_text kinds fields

-- A command's line: its number, the place of its frame, its name, and its values in the order of
-- its wanted attributes.
unfoldable pub command_line : Item → List ℕ
command_line item =
    decimal item.number ++ 0x20 ∷ decimal item.offset ++ 0x20 ∷ (row (kind_of item.command)).name
    ++ values_text (row (kind_of item.command)).wanted (fields_of item.command) ++ 0x0a ∷ []

-- The line before the first command of a stream.
abbrev pub stream_line : ℕ → List ℕ
stream_line version = codes "stream " ++ decimal version ++ 0x0a ∷ []

-- The lines of items, of which the first begins a stream or does not.
unfoldable pub lines_from : Bool → List Item → List ℕ
lines_from begins [] = []
lines_from begins (item ∷ items) =
    (if begins then stream_line item.version else []) ++ command_line item
    ++ lines_from (is_end item.command) items

-- What is printed of a file: the lines of all that is read of it.
unfoldable pub dump_of : List ℕ → List ℕ
dump_of bytes = lines_from true (reads 1 bytes).items
