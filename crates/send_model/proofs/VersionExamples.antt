-- Worked examples of version 2: its frames, as an assembler independent of this program makes them;
-- its rules of reading, beside those of version 1; and the stream that stands for one of version 1
-- and one of version 2.
use Rattle.std.specs.Prelude.{◌≡◌, ℕ, List, [], ◌∷◌, ◌++◌, Result, Ok, Err, codes, refl, map, Some}
use Rattle.send_model.specs.Refusal.{Refusal, BadVersion, BadAttribute, MissingAttribute, UnknownCommand, Encoded, NoEntry}
use Rattle.send_model.specs.Attribute.{SIZE, PATH, DATA}
use Rattle.send_model.specs.Command.{Command, Subvol, Snapshot, MkFile, Write, Clone, End, Fallocate, FileAttr, Unlink}
use Rattle.send_model.specs.Spelling.{canonical, canonical_all, stream_header}
use Rattle.send_model.specs.Reading.{Item, stream_version, front_of, frame_at, attributes_at, command_of, Verdict}
use Rattle.send_model.specs.Chain.{◌>>=◌}
use Rattle.send_model.specs.Composed.{version_of, composed_of}
use Rattle.send_model.specs.Order.{lawful_items}
use Rattle.send_model.specs.Headline.{output_of}
use Rattle.send_model.proofs.ExampleWords.{hexadecimal, uuid, reading_words, composing_words}

-- ---- spelling

written : canonical 2 (Write (codes "x") 0 (codes "hi")) ≡ hexadecimal (codes "150000000f00e791de330f0001007812000800000000000000000013006869")
unfolding reading_words
written = refl

punched : canonical 2 (Fallocate 1 (codes "x") 0 3) ≡ hexadecimal (codes "2500000017005aa40a4a0400080001000000000000000f000100781200080000000000000000001900040003000000")
unfolding reading_words
punched = refl

flagged : canonical 2 (FileAttr (codes "x") 16) ≡ hexadecimal (codes "110000001800ce7fa5ff0f000100781a0008001000000000000000")
unfolding reading_words
flagged = refl

-- ---- reading

-- The command of a frame.
abbrev command_at : ℕ → List ℕ → Result Command Refusal
command_at version bytes = frame_at bytes >>= (λ frame. attributes_at version frame.body >>= (λ attributes. command_of version frame.number attributes))

-- The two bytes of a WRITE stand at place 29 of its frame, two after the place where their
-- attribute begins.
written_read : front_of 1 2 3 79 (hexadecimal (codes "150000000f00e791de330f0001007812000800000000000000000013006869")) ≡ Ok (record { item = record { file = 1; number = 3; offset = 79; version = 2; data_at = 108; command = Write (codes "x") 0 (codes "hi") }; rest = [] })
unfolding reading_words
written_read = refl

punched_read : command_at 2 (hexadecimal (codes "2500000017005aa40a4a0400080001000000000000000f000100781200080000000000000000001900040003000000")) ≡ Ok (Fallocate 1 (codes "x") 0 3)
unfolding reading_words
punched_read = refl

flagged_read : command_at 2 (hexadecimal (codes "110000001800ce7fa5ff0f000100781a0008001000000000000000")) ≡ Ok (FileAttr (codes "x") 16)
unfolding reading_words
flagged_read = refl

-- Version 1 has none of these numbers, and their attributes come first.
not_in_first : command_at 1 (hexadecimal (codes "00000000180021280aa0")) ≡ Err (UnknownCommand 24)
unfolding reading_words
not_in_first = refl

attribute_first : command_at 1 (hexadecimal (codes "110000001800ce7fa5ff0f000100781a0008001000000000000000")) ≡ Err (BadAttribute 26)
unfolding reading_words
attribute_first = refl

-- 25 is refused in version 2 whatever it wants, and is no number of version 1; a bad attribute
-- comes before that.
encoded : command_at 2 (hexadecimal (codes "00000000190038433a4f")) ≡ Err Encoded
unfolding reading_words
encoded = refl

encoded_first : command_at 1 (hexadecimal (codes "00000000190038433a4f")) ≡ Err (UnknownCommand 25)
unfolding reading_words
encoded_first = refl

encoded_bad : command_at 2 (hexadecimal (codes "060000001900390c3e04200000000000")) ≡ Err (BadAttribute 32)
unfolding reading_words
encoded_bad = refl

encoded_in_front : front_of 1 2 3 79 (hexadecimal (codes "00000000190038433a4f")) ≡ Err Encoded
unfolding reading_words
encoded_in_front = refl

-- Only 25 is refused so: the numbers before the first command and after the last are unknown.
no_such_number : map (λ n. command_of 2 n []) (0 ∷ 25 ∷ 26 ∷ []) ≡ Err (UnknownCommand 0) ∷ Err Encoded ∷ Err (UnknownCommand 26) ∷ []
unfolding reading_words
no_such_number = refl

-- The commands of version 2 alone are in front as any other is, and so is a CLONE, in either
-- version.
punched_in_front : front_of 1 2 3 79 (hexadecimal (codes "2500000017005aa40a4a0400080001000000000000000f000100781200080000000000000000001900040003000000"))
    ≡ Ok (record { item = record { file = 1; number = 3; offset = 79; version = 2; data_at = 0; command = Fallocate 1 (codes "x") 0 3 }; rest = [] })
unfolding reading_words
punched_in_front = refl

flagged_in_front : front_of 1 2 3 79 (hexadecimal (codes "110000001800ce7fa5ff0f000100781a0008001000000000000000"))
    ≡ Ok (record { item = record { file = 1; number = 3; offset = 79; version = 2; data_at = 0; command = FileAttr (codes "x") 16 }; rest = [] })
unfolding reading_words
flagged_in_front = refl

cloned_in_front : front_of 1 1 3 79 (hexadecimal (codes "4e00000010009298155b0f0001007812000800001000000000000014001000111111111111111111111111111111111500080001000000000000001600010079170008000000000000000000180008000020000000000000"))
    ≡ Ok (record { item = record { file = 1; number = 3; offset = 79; version = 1; data_at = 0; command = Clone (codes "x") 4_096 (uuid 0x11) 1 (codes "y") 0 8_192 }; rest = [] })
unfolding reading_words
cloned_in_front = refl

cloned_in_second : front_of 1 2 3 79 (hexadecimal (codes "4e00000010009298155b0f0001007812000800001000000000000014001000111111111111111111111111111111111500080001000000000000001600010079170008000000000000000000180008000020000000000000"))
    ≡ Ok (record { item = record { file = 1; number = 3; offset = 79; version = 2; data_at = 0; command = Clone (codes "x") 4_096 (uuid 0x11) 1 (codes "y") 0 8_192 }; rest = [] })
unfolding reading_words
cloned_in_second = refl

-- What a command wants is asked of each.
nothing_there : front_of 1 2 3 79 (hexadecimal (codes "00000000170093cc4546")) ≡ Err (MissingAttribute SIZE)
unfolding reading_words
nothing_there = refl

-- A number of version 2 alone is that of no command of version 1.
unknown_in_first : front_of 1 1 3 79 (hexadecimal (codes "00000000170093cc4546")) ≡ Err (UnknownCommand 23)
unfolding reading_words
unknown_in_first = refl

-- Streams of versions 1 and 2 are read, and of no other.
first_header : stream_version (hexadecimal (codes "62747266732d73747265616d0001000000")) ≡ Ok 1
unfolding reading_words
first_header = refl

second_header : stream_version (hexadecimal (codes "62747266732d73747265616d0002000000")) ≡ Ok 2
unfolding reading_words
second_header = refl

third_header : stream_version (hexadecimal (codes "62747266732d73747265616d0003000000")) ≡ Err (BadVersion 3)
unfolding reading_words
third_header = refl

zeroth_header : stream_version (hexadecimal (codes "62747266732d73747265616d0000000000")) ≡ Err (BadVersion 0)
unfolding reading_words
zeroth_header = refl

-- DATA swallows the rest of a body in any command of version 2, what looks like an attribute too.
-- In version 1 it has a length.
swallowed : attributes_at 2 (hexadecimal (codes "0f0001007813000f00010079")) ≡ Ok (record { kind = PATH; bytes = codes "x" } ∷ record { kind = DATA; bytes = hexadecimal (codes "0f00010079") } ∷ [])
unfolding reading_words
swallowed = refl

in_first : attributes_at 1 (hexadecimal (codes "0f0001007813000f00010079")) ≡ Err (BadAttribute 19)
unfolding reading_words
in_first = refl

no_data : attributes_at 2 (hexadecimal (codes "1300")) ≡ Ok (record { kind = DATA; bytes = [] } ∷ [])
unfolding reading_words
no_data = refl

no_data_first : attributes_at 1 (hexadecimal (codes "1300")) ≡ Err (BadAttribute 19)
unfolding reading_words
no_data_first = refl

-- An attribute that is not whole keeps its number, if that is there.
one_byte : attributes_at 2 (hexadecimal (codes "0f")) ≡ Err (BadAttribute 0)
unfolding reading_words
one_byte = refl

two_bytes : attributes_at 2 (hexadecimal (codes "0f00")) ≡ Err (BadAttribute 15)
unfolding reading_words
two_bytes = refl

three_bytes : attributes_at 1 (hexadecimal (codes "0f0001")) ≡ Err (BadAttribute 15)
unfolding reading_words
three_bytes = refl

too_long : attributes_at 2 (hexadecimal (codes "0f00020078")) ≡ Err (BadAttribute 15)
unfolding reading_words
too_long = refl

twice : attributes_at 2 (hexadecimal (codes "0f000100780f00010079")) ≡ Err (BadAttribute 15)
unfolding reading_words
twice = refl

number_zero : attributes_at 2 (hexadecimal (codes "00000000")) ≡ Err (BadAttribute 0)
unfolding reading_words
number_zero = refl

last_number : attributes_at 2 (hexadecimal (codes "1f000000")) ≡ Ok (record { kind = 31; bytes = [] } ∷ [])
unfolding reading_words
last_number = refl

above_last : attributes_at 2 (hexadecimal (codes "20000000")) ≡ Err (BadAttribute 32)
unfolding reading_words
above_last = refl

above_first : attributes_at 1 (hexadecimal (codes "19000000")) ≡ Err (BadAttribute 25)
unfolding reading_words
above_first = refl

-- ---- composing

-- A stream of version 1, and one of version 2 after it.
abbrev of_version : ℕ → Command → Item
of_version version command = record { file = 1; number = 1; offset = 0; version = version; data_at = 0; command = command }

abbrev two_versions : List Item
two_versions =
    of_version 1 (Subvol (uuid 0x11) 1 (codes "a")) ∷ of_version 1 (MkFile (codes "x")) ∷ of_version 1 (Write (codes "x") 0 (codes "hi")) ∷ of_version 1 End
    ∷ of_version 2 (Snapshot (uuid 0x22) 2 (codes "b") (uuid 0x11) 1) ∷ of_version 2 (FileAttr (codes "x") 16) ∷ of_version 2 End ∷ []

unfoldable merged_stream : List ℕ
merged_stream =
    hexadecimal (codes "62747266732d73747265616d0002000000")
    ++ hexadecimal (codes "2500000001009d83eef801001000222222222222222222222222222222220200080002000000000000000f00010062")
    ++ hexadecimal (codes "0500000003002f8a36730f00010078")
    ++ hexadecimal (codes "150000000f00e791de330f0001007812000800000000000000000013006869")
    ++ hexadecimal (codes "110000001800ce7fa5ff0f000100781a0008001000000000000000")
    ++ hexadecimal (codes "000000001500506cc99d")

-- They are composed to a stream of version 2.
two_versions_composed : stream_header (version_of two_versions) ++ canonical_all (version_of two_versions) (composed_of [] two_versions) ≡ merged_stream
unfolding merged_stream reading_words composing_words version_of
two_versions_composed = refl

-- Streams of version 1 alone are composed to one of version 1.
first_alone : version_of (of_version 1 (Subvol (uuid 0x11) 1 (codes "a")) ∷ of_version 1 End ∷ []) ≡ 1
unfolding version_of
first_alone = refl

-- Where a command is refused, the version and the name are still those of all that was read.
abbrev refused_before : List Item
refused_before =
    of_version 1 (Subvol (uuid 0x11) 1 (codes "a")) ∷ of_version 1 (Unlink (codes "q")) ∷ of_version 1 End
    ∷ of_version 2 (Snapshot (uuid 0x22) 2 (codes "b") (uuid 0x11) 1) ∷ of_version 2 End ∷ []

abbrev at_unlink : Verdict
at_unlink = record { file = 1; command = 1; offset = 0; refusal = NoEntry }

front_of_two_versions : output_of (Some at_unlink) [] refused_before ≡ stream_header 2 ++ canonical_all 2 (Subvol (uuid 0x22) 2 (codes "b") ∷ [])
unfolding reading_words composing_words version_of lawful_items
front_of_two_versions = refl
