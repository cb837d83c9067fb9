-- Worked examples of the tables: the numbers and names of refusals, the numbers, names and wanted
-- attributes of commands, statuses and notes, and the bounds of names, paths, frames and headers.
-- Commands and attributes are those of send.h; the rest is this program's own.
use Rattle.std.specs.Prelude.{◌≡◌, ℕ, true, false, List, [], ◌∷◌, ◌++◌, Option, None, Some, Err, map, flat_map, replicate, codes, is_some, refl}
use Rattle.std.specs.Fmt.{digits}
use Rattle.send_model.specs.Refusal.{Refusal, refusal_number, refusal_name, BadMagic, BadVersion, Truncated, LongCommand, BadChecksum, UnknownCommand, BadAttribute, MissingAttribute, NoSubvolume, BadName, NameThere, UuidThere, NoParent, BadPath, NoEntry, NotDirectory, EntryThere, IsDirectory, NotEmpty, IntoItself, NotFile, BadXattr, NoXattr, BadDevice, BadTime, IsRoot, FileTooBig, NoSource, BadRange, Unaligned, Overlap, Encoded, Guarded, BadFallocate, NotConsecutive, NotBuilt, BadText, NoNumber}
use Rattle.send_model.specs.Path.{is_name, between_slashes, path_names}
use Rattle.send_model.specs.Command.{Kind, row, SUBVOL, SNAPSHOT, MKFILE, MKDIR, MKNOD, MKFIFO, MKSOCK, SYMLINK, RENAME, LINK, UNLINK, RMDIR, SET_XATTR, REMOVE_XATTR, WRITE, CLONE, TRUNCATE, CHMOD, CHOWN, UTIMES, END, UPDATE_EXTENT, FALLOCATE, FILEATTR, Subvol, Snapshot, Utimes, Rename, Link, Chown}
use Rattle.send_model.specs.Spelling.{stream_header, canonical_all, Attribute, attributes_of}
use Rattle.send_model.specs.Reading.{Ending, Faulty, Verdict, stream_version, frame_with, reads, command_of}
use Rattle.send_model.specs.Store.{step}
use Rattle.send_model.specs.Receive.{start_of}
use Rattle.send_model.specs.Lines.{command_line, lines_from, dump_of}
use Rattle.send_model.specs.Printed.{is_plain, hex_digit, escaped_byte, escaped, uuid_text, time_text}
use Rattle.send_model.specs.Answer.{Done, Refused, Usage, InputFault, OutputFault, NoMemory, InputTooLong, TooMuch, InputChanged, status_of, eight_digits, kept_values, verdict_text, note_of}
use Rattle.send_model.specs.Words.{Export, Trial, request_of}
use Rattle.send_model.specs.Attribute.{UID, GID, PATH, PATH_TO, PATH_LINK, MTIME, ATIME, Number, field_bytes}
use Rattle.send_model.proofs.ExampleWords.{uuid, reading_words, composing_words}
use Rattle.send_model.proofs.ReadingExamples.{first_stream, second_stream}

-- ---- refusals

abbrev all_refusals : List Refusal
all_refusals =
    BadMagic ∷ (BadVersion 0) ∷ Truncated ∷ (LongCommand 0) ∷ (BadChecksum 0 0) ∷ (UnknownCommand 0) ∷ (BadAttribute 0) ∷ (MissingAttribute 0)
    ∷ NoSubvolume ∷ BadName ∷ NameThere ∷ UuidThere ∷ NoParent ∷ BadPath ∷ NoEntry ∷ NotDirectory
    ∷ EntryThere ∷ IsDirectory ∷ NotEmpty ∷ IntoItself ∷ NotFile ∷ BadXattr ∷ NoXattr ∷ BadDevice
    ∷ BadTime ∷ IsRoot ∷ FileTooBig ∷ NoSource ∷ BadRange ∷ Unaligned ∷ Overlap ∷ Encoded
    ∷ (Guarded 0 0) ∷ (BadFallocate 0) ∷ NotConsecutive ∷ (NotBuilt 0) ∷ BadText ∷ NoNumber ∷ []

numbered : map refusal_number all_refusals ≡
    1 ∷ 2 ∷ 3 ∷ 4 ∷ 5 ∷ 6 ∷ 7 ∷ 8 ∷ 9 ∷ 10 ∷ 11 ∷ 12 ∷ 13 ∷ 14 ∷ 15 ∷ 16 ∷ 17 ∷ 18 ∷ 19 ∷ 20
    ∷ 21 ∷ 22 ∷ 23 ∷ 24 ∷ 25 ∷ 26 ∷ 27 ∷ 28 ∷ 29 ∷ 30 ∷ 31 ∷ 32 ∷ 33 ∷ 34 ∷ 35 ∷ 36 ∷ 37 ∷ 38 ∷ []
unfolding refusal_number
numbered = refl

called : map refusal_name all_refusals ≡
    codes "BadMagic" ∷ codes "BadVersion" ∷ codes "Truncated" ∷ codes "LongCommand" ∷ codes "BadChecksum"
    ∷ codes "UnknownCommand" ∷ codes "BadAttribute" ∷ codes "MissingAttribute" ∷ codes "NoSubvolume" ∷ codes "BadName"
    ∷ codes "NameThere" ∷ codes "UuidThere" ∷ codes "NoParent" ∷ codes "BadPath" ∷ codes "NoEntry"
    ∷ codes "NotDirectory" ∷ codes "EntryThere" ∷ codes "IsDirectory" ∷ codes "NotEmpty" ∷ codes "IntoItself"
    ∷ codes "NotFile" ∷ codes "BadXattr" ∷ codes "NoXattr" ∷ codes "BadDevice" ∷ codes "BadTime"
    ∷ codes "IsRoot" ∷ codes "FileTooBig" ∷ codes "NoSource" ∷ codes "BadRange" ∷ codes "Unaligned"
    ∷ codes "Overlap" ∷ codes "Encoded" ∷ codes "Guarded" ∷ codes "BadFallocate" ∷ codes "NotConsecutive"
    ∷ codes "NotBuilt" ∷ codes "BadText" ∷ codes "NoNumber" ∷ []
unfolding refusal_name
called = refl

-- ---- commands

-- The number, the name and the wanted attributes of a command.
abbrev row_of : Kind → ℕ × (List ℕ × List ℕ)
row_of kind = ((row kind).number, ((row kind).name, (row kind).wanted))

row_subvol : row_of SUBVOL ≡ (1, (codes "SUBVOL", 1 ∷ 2 ∷ 15 ∷ []))
unfolding row
row_subvol = refl

row_snapshot : row_of SNAPSHOT ≡ (2, (codes "SNAPSHOT", 1 ∷ 2 ∷ 15 ∷ 20 ∷ 21 ∷ []))
unfolding row
row_snapshot = refl

row_mkfile : row_of MKFILE ≡ (3, (codes "MKFILE", 15 ∷ []))
unfolding row
row_mkfile = refl

row_mkdir : row_of MKDIR ≡ (4, (codes "MKDIR", 15 ∷ []))
unfolding row
row_mkdir = refl

row_mknod : row_of MKNOD ≡ (5, (codes "MKNOD", 5 ∷ 8 ∷ 15 ∷ []))
unfolding row
row_mknod = refl

row_mkfifo : row_of MKFIFO ≡ (6, (codes "MKFIFO", 15 ∷ []))
unfolding row
row_mkfifo = refl

row_mksock : row_of MKSOCK ≡ (7, (codes "MKSOCK", 15 ∷ []))
unfolding row
row_mksock = refl

row_symlink : row_of SYMLINK ≡ (8, (codes "SYMLINK", 15 ∷ 17 ∷ []))
unfolding row
row_symlink = refl

row_rename : row_of RENAME ≡ (9, (codes "RENAME", 15 ∷ 16 ∷ []))
unfolding row
row_rename = refl

row_link : row_of LINK ≡ (10, (codes "LINK", 15 ∷ 17 ∷ []))
unfolding row
row_link = refl

row_unlink : row_of UNLINK ≡ (11, (codes "UNLINK", 15 ∷ []))
unfolding row
row_unlink = refl

row_rmdir : row_of RMDIR ≡ (12, (codes "RMDIR", 15 ∷ []))
unfolding row
row_rmdir = refl

row_set_xattr : row_of SET_XATTR ≡ (13, (codes "SET_XATTR", 13 ∷ 14 ∷ 15 ∷ []))
unfolding row
row_set_xattr = refl

row_remove_xattr : row_of REMOVE_XATTR ≡ (14, (codes "REMOVE_XATTR", 13 ∷ 15 ∷ []))
unfolding row
row_remove_xattr = refl

row_write : row_of WRITE ≡ (15, (codes "WRITE", 15 ∷ 18 ∷ 19 ∷ []))
unfolding row
row_write = refl

row_clone : row_of CLONE ≡ (16, (codes "CLONE", 15 ∷ 18 ∷ 20 ∷ 21 ∷ 22 ∷ 23 ∷ 24 ∷ []))
unfolding row
row_clone = refl

row_truncate : row_of TRUNCATE ≡ (17, (codes "TRUNCATE", 4 ∷ 15 ∷ []))
unfolding row
row_truncate = refl

row_chmod : row_of CHMOD ≡ (18, (codes "CHMOD", 5 ∷ 15 ∷ []))
unfolding row
row_chmod = refl

row_chown : row_of CHOWN ≡ (19, (codes "CHOWN", 6 ∷ 7 ∷ 15 ∷ []))
unfolding row
row_chown = refl

row_utimes : row_of UTIMES ≡ (20, (codes "UTIMES", 10 ∷ 11 ∷ 15 ∷ []))
unfolding row
row_utimes = refl

row_end : row_of END ≡ (21, (codes "END", []))
unfolding row
row_end = refl

row_update_extent : row_of UPDATE_EXTENT ≡ (22, (codes "UPDATE_EXTENT", 4 ∷ 15 ∷ 18 ∷ []))
unfolding row
row_update_extent = refl

row_fallocate : row_of FALLOCATE ≡ (23, (codes "FALLOCATE", 4 ∷ 15 ∷ 18 ∷ 25 ∷ []))
unfolding row
row_fallocate = refl

row_fileattr : row_of FILEATTR ≡ (24, (codes "FILEATTR", 15 ∷ 26 ∷ []))
unfolding row
row_fileattr = refl

-- Which value each attribute has, where two of a command have the same form.
abbrev number : ℕ → ℕ → Attribute
number kind n = record { kind = kind; bytes = field_bytes (Number n) }

abbrev text : ℕ → List ℕ → Attribute
text kind bytes = record { kind = kind; bytes = bytes }

owner_spelled : attributes_of (Chown 1 2 (codes "x")) ≡ number UID 1 ∷ number GID 2 ∷ text PATH (codes "x") ∷ []
unfolding reading_words
owner_spelled = refl

rename_spelled : attributes_of (Rename (codes "x") (codes "y")) ≡ text PATH (codes "x") ∷ text PATH_TO (codes "y") ∷ []
unfolding reading_words
rename_spelled = refl

link_spelled : attributes_of (Link (codes "x") (codes "y")) ≡ text PATH (codes "x") ∷ text PATH_LINK (codes "y") ∷ []
unfolding reading_words
link_spelled = refl

-- ---- statuses and notes

abbrev verdict : ℕ → ℕ → ℕ → Refusal → Verdict
verdict file command offset refusal = record { file = file; command = command; offset = offset; refusal = refusal }

statuses : map status_of (Done ∷ Refused (verdict 1 1 0 BadMagic) ∷ Usage ∷ InputFault ∷ OutputFault ∷ NoMemory ∷ TooMuch 0 ∷ InputTooLong 1 ∷ InputChanged 1 0 ∷ []) ≡
    0 ∷ 1 ∷ 2 ∷ 3 ∷ 4 ∷ 7 ∷ 9 ∷ 11 ∷ 13 ∷ []
unfolding status_of
statuses = refl

-- A line, and its newline.
abbrev said : List ℕ → List ℕ
said text = text ++ 10 ∷ []

plain_notes : map note_of (Done ∷ Usage ∷ InputFault ∷ OutputFault ∷ NoMemory ∷ []) ≡
    [] ∷ said (codes "usage") ∷ said (codes "input fault") ∷ said (codes "output fault") ∷ said (codes "no memory") ∷ []
unfolding note_of
plain_notes = refl

too_much_said : note_of (TooMuch 2_199_023_255_552) ≡ said (codes "too much 2199023255552")
unfolding note_of digits
too_much_said = refl

long_said : note_of (InputTooLong 2) ≡ said (codes "input too long 2")
unfolding note_of digits
long_said = refl

changed_said : note_of (InputChanged 2 141) ≡ said (codes "input changed 2 141")
unfolding note_of digits
changed_said = refl

guard_said : note_of (Refused (verdict 1 4 112 (Guarded 0 3))) ≡ said (codes "refused 1 4 112 33 Guarded 0 3")
unfolding note_of digits verdict_text kept_values refusal_number refusal_name
guard_said = refl

-- Every other refusal that keeps a value says it.
values_said : map (λ refusal. note_of (Refused (verdict 1 2 3 refusal)))
    (BadVersion 3 ∷ LongCommand 262_145 ∷ UnknownCommand 25 ∷ BadAttribute 15 ∷ MissingAttribute 16 ∷ BadFallocate 2 ∷ []) ≡
    map said (
    codes "refused 1 2 3 2 BadVersion 3"
    ∷ codes "refused 1 2 3 4 LongCommand 262145"
    ∷ codes "refused 1 2 3 6 UnknownCommand 25"
    ∷ codes "refused 1 2 3 7 BadAttribute 15"
    ∷ codes "refused 1 2 3 8 MissingAttribute 16"
    ∷ codes "refused 1 2 3 34 BadFallocate 2" ∷ [])
unfolding note_of digits verdict_text kept_values refusal_number refusal_name
values_said = refl

-- Checksums have eight digits, zeros in front among them.
checksum_said : note_of (Refused (verdict 1 1 17 (BadChecksum 0 0x9dc96c50))) ≡ said (codes "refused 1 1 17 5 BadChecksum 00000000 9dc96c50")
unfolding note_of digits eight_digits verdict_text kept_values refusal_number refusal_name
checksum_said = refl

-- ---- names and paths

names : map is_name (replicate 255 97 ∷ replicate 256 97 ∷ [] ∷ codes "." ∷ codes ".." ∷ codes "..." ∷ codes "a/b" ∷ (97 ∷ 0 ∷ []) ∷ (255 ∷ []) ∷ []) ≡
    true ∷ false ∷ false ∷ false ∷ false ∷ true ∷ false ∷ false ∷ true ∷ []
unfolding is_name
names = refl

-- A path of 4,095 bytes, and of one more.
abbrev long_path : List ℕ → List ℕ
long_path last = flat_map (λ name. name) (replicate 2_047 (codes "a/")) ++ last

longest : is_some (path_names (long_path (codes "b"))) ≡ true
unfolding path_names between_slashes is_name
longest = refl

one_longer : path_names (long_path (codes "bc")) ≡ None
unfolding path_names between_slashes is_name
one_longer = refl

-- ---- headers and frames

few_bytes : stream_version (replicate 16 0) ≡ Err Truncated
unfolding stream_version
few_bytes = refl

other_text : stream_version (replicate 17 0) ≡ Err BadMagic
unfolding stream_version
other_text = refl

-- The greatest body, and one that is longer, which is told before it is found to be cut short.
greatest : frame_with 262_144 21 0 [] ≡ Err Truncated
unfolding frame_with
greatest = refl

too_great : frame_with 262_145 21 0 [] ≡ Err (LongCommand 262_145)
unfolding frame_with
too_great = refl

-- A second has fewer than 1,000,000,000 nanoseconds.
abbrev with_nanos : ℕ → Ending
with_nanos nanos = (reads 1 (stream_header 1 ++ canonical_all 1 (Utimes (record { secs = 0; nanos = 0 }) (record { secs = 0; nanos = nanos }) (codes "x") ∷ []))).end

whole_second : with_nanos 1_000_000_000 ≡ Faulty (verdict 1 1 17 BadTime)
unfolding reading_words
whole_second = refl

last_nanosecond : with_nanos 999_999_999 ≡ Faulty (verdict 1 2 64 Truncated)
unfolding reading_words
last_nanosecond = refl

-- A time has twelve bytes; and an attribute that is missing is told before one that is no lawful
-- time.
short_time : command_of 1 20 (text MTIME [] ∷ []) ≡ Err (BadAttribute MTIME)
unfolding reading_words
short_time = refl

missing_before_time : command_of 1 20 (text MTIME (replicate 12 255) ∷ text ATIME (replicate 12 0) ∷ []) ≡ Err (MissingAttribute PATH)
unfolding reading_words
missing_before_time = refl

-- ---- parts, lines, words

-- A head completes the part before it, with no END between.
abbrev second_head : Option Refusal
second_head = (step {C = ℕ} 0 [] (step {C = ℕ} 0 [] (start_of []) (Subvol (uuid 0x11) 1 (codes "a"))).state (Snapshot (uuid 0x22) 2 (codes "b") (uuid 0x11) 1)).refusal

completed_by_head : second_head ≡ None
unfolding composing_words is_name
completed_by_head = refl

unfoldable line_words : Unit {0}
unfolding digits reading_words row dump_of lines_from command_line escaped escaped_byte is_plain hex_digit uuid_text time_text first_stream second_stream
line_words = tt

-- A line for each stream of a file; commands and places go on.
two_streams : dump_of (first_stream ++ second_stream) ≡
    flat_map said (
    codes "stream 1"
    ∷ codes "1 17 SUBVOL uuid=11111111-1111-1111-1111-111111111111 ctransid=1 path=a"
    ∷ codes "2 64 MKFILE path=x"
    ∷ codes "3 79 WRITE path=x offset=0 data=2"
    ∷ codes "4 112 END"
    ∷ codes "stream 1"
    ∷ codes "5 139 SNAPSHOT uuid=22222222-2222-2222-2222-222222222222 ctransid=2 path=b clone_uuid=11111111-1111-1111-1111-111111111111 clone_ctransid=1"
    ∷ codes "6 218 WRITE path=x offset=2 data=1"
    ∷ codes "7 250 END" ∷ [])
unfolding line_words
two_streams = refl

export_words : request_of (codes "export" ∷ codes "none" ∷ codes "f" ∷ []) ≡ Some (Export 1 2)
unfolding request_of
export_words = refl

most_parts : request_of (codes "trial" ∷ codes "4096" ∷ codes "7" ∷ []) ≡ Some (Trial 4_096 7)
unfolding request_of
most_parts = refl
