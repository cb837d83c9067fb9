-- Worked examples of printed lines, and of a chain from a number: its parts, and what a trial of it
-- prints. The lines and the trial are those of another program; the numbers that are drawn were
-- computed by hand.
use Rattle.std.specs.Prelude.{◌≡◌, ℕ, List, [], ◌∷◌, ◌++◌, replicate, codes, refl, map, take, drop}
use Rattle.std.specs.Fmt.{digits}
use Rattle.send_model.specs.Command.{Command, Snapshot, MkNod, SetXattr, Rename, Write, Clone, Chmod, Utimes, End, Fallocate, FileAttr, row, Chown, Symlink}
use Rattle.send_model.specs.Spelling.{canonical, canonical_all, frame_of, stream_header, attributes_of, attribute_bytes, body_of}
use Rattle.send_model.specs.Printed.{is_plain, hex_digit, escaped_byte, escaped, uuid_text, time_text}
use Rattle.send_model.specs.Lines.{command_line, lines_from, dump_of}
use Rattle.send_model.specs.Generated.{number_after, first_part, later_part, parts_of, chain_of, trial_composed, trial_line}
use Rattle.send_model.specs.Counts.{clones}
use Rattle.send_model.specs.Receive.{bytes_of}
use Rattle.send_model.proofs.ExampleWords.{reading_words, composing_words}
use Rattle.send_model.proofs.ReadingExamples.{first_stream}

unfoldable line_words : Unit {0}
unfolding digits reading_words row dump_of lines_from command_line escaped escaped_byte is_plain hex_digit uuid_text time_text
line_words = tt

-- The lines of a small file.
dumped : dump_of first_stream ≡
    codes "stream 1" ++ 10 ∷ codes "1 17 SUBVOL uuid=11111111-1111-1111-1111-111111111111 ctransid=1 path=a"
    ++ 10 ∷ codes "2 64 MKFILE path=x" ++ 10 ∷ codes "3 79 WRITE path=x offset=0 data=2" ++ 10 ∷ codes "4 112 END" ++ 10 ∷ []
unfolding first_stream line_words
dumped = refl

-- The line of a command.
abbrev line_of : ℕ → ℕ → Command → List ℕ
line_of number offset command = command_line (record { file = 1; number = number; offset = offset; version = 2; data_at = 0; command = command })

punched : line_of 4 110 (Fallocate 1 (codes "x") 0 3) ≡ codes "4 110 FALLOCATE size=1 path=x offset=0 fmode=3" ++ 10 ∷ []
unfolding line_words
punched = refl

flagged : line_of 5 9 (FileAttr (codes "x") 16) ≡ codes "5 9 FILEATTR path=x flags=16" ++ 10 ∷ []
unfolding line_words
flagged = refl

-- A rename's two paths, and an owner's two numbers, stand in this order, and a symbolic link's
-- target behind its path.
renamed : line_of 2 64 (Rename (codes "x") (codes "y")) ≡ codes "2 64 RENAME path=x to=y" ++ 10 ∷ []
unfolding line_words
renamed = refl

owned : line_of 2 64 (Chown 1 2 (codes "x")) ≡ codes "2 64 CHOWN uid=1 gid=2 path=x" ++ 10 ∷ []
unfolding line_words
owned = refl

pointed : line_of 2 64 (Symlink (codes "x") (codes "y")) ≡ codes "2 64 SYMLINK path=x link=y" ++ 10 ∷ []
unfolding line_words
pointed = refl

-- The line of a stream says its own version.
second_version : dump_of (stream_header 2 ++ canonical_all 2 (End ∷ [])) ≡ codes "stream 2" ++ 10 ∷ codes "1 17 END" ++ 10 ∷ []
unfolding line_words
second_version = refl

-- The bytes of a uuid are printed in their order, in groups of four, two, two, two and six.
uuid_printed : uuid_text (0 ∷ 1 ∷ 2 ∷ 3 ∷ 4 ∷ 5 ∷ 6 ∷ 7 ∷ 8 ∷ 9 ∷ 10 ∷ 11 ∷ 12 ∷ 13 ∷ 14 ∷ 15 ∷ []) ≡ codes "00010203-0405-0607-0809-0a0b0c0d0e0f"
unfolding line_words
uuid_printed = refl

-- The first and the last byte that is printed as it is are 0x21 and 0x7e; a blank and 0x7f are
-- escaped.
bounds_of_plain : escaped (0x20 ∷ 0x21 ∷ 0x5c ∷ 0x7e ∷ 0x7f ∷ []) ≡ 0x5c ∷ codes "x20!" ++ 0x5c ∷ codes "x5c~" ++ 0x5c ∷ codes "x7f"
unfolding line_words
bounds_of_plain = refl

-- A mode is octal, zero too; a path with a blank, a backslash and a byte that is no text is
-- escaped.
in_octal : line_of 2 64 (Chmod 0o755 (codes "a b" ++ 0x5c ∷ 0xff ∷ [])) ≡ codes "2 64 CHMOD mode=755 path=a" ++ 0x5c ∷ codes "x20b" ++ 0x5c ∷ codes "x5c" ++ 0x5c ∷ codes "xff" ++ 10 ∷ []
unfolding line_words
in_octal = refl

zero_mode : line_of 2 64 (Chmod 0 []) ≡ codes "2 64 CHMOD mode=0 path=" ++ 10 ∷ []
unfolding line_words
zero_mode = refl

device : line_of 3 5 (MkNod 0o20644 259 (codes "d")) ≡ codes "3 5 MKNOD mode=20644 rdev=259 path=d" ++ 10 ∷ []
unfolding line_words
device = refl

-- The time of a change stands before that of an access.
times : line_of 7 100 (Utimes (record { secs = 18_446_744_073_709_551_615; nanos = 5 }) (record { secs = 0; nanos = 999_999_999 }) (codes "x")) ≡ codes "7 100 UTIMES mtime=18446744073709551615.000000005 atime=0.999999999 path=x" ++ 10 ∷ []
unfolding line_words
times = refl

attribute : line_of 7 100 (SetXattr (codes "user.a") (1 ∷ 2 ∷ 3 ∷ []) (codes "x")) ≡ codes "7 100 SET_XATTR xattr=user.a value=3 path=x" ++ 10 ∷ []
unfolding line_words
attribute = refl

-- ---- a chain

unfoldable generated_words : Unit {0}
unfolding digits composing_words canonical canonical_all frame_of stream_header attributes_of attribute_bytes body_of row number_after first_part later_part parts_of chain_of trial_composed trial_line clones
generated_words = tt

greatest_second : later_part 18446744073709551615 2 ≡
    Snapshot (255 ∷ 255 ∷ 255 ∷ 255 ∷ 255 ∷ 255 ∷ 255 ∷ 255 ∷ 2 ∷ 0 ∷ 0 ∷ 0 ∷ 0 ∷ 0 ∷ 0 ∷ 0 ∷ []) 2 (codes "g2") (255 ∷ 255 ∷ 255 ∷ 255 ∷ 255 ∷ 255 ∷ 255 ∷ 255 ∷ 1 ∷ 0 ∷ 0 ∷ 0 ∷ 0 ∷ 0 ∷ 0 ∷ 0 ∷ []) 1
    ∷ Write (codes "f0") 8192 (replicate 4_096 85)
    ∷ Clone (codes "f3") 0 (255 ∷ 255 ∷ 255 ∷ 255 ∷ 255 ∷ 255 ∷ 255 ∷ 255 ∷ 1 ∷ 0 ∷ 0 ∷ 0 ∷ 0 ∷ 0 ∷ 0 ∷ 0 ∷ []) 1 (codes "f2") 0 4_096
    ∷ Rename (codes "f0") (codes "t") ∷ Rename (codes "t") (codes "f0") ∷ End ∷ []
unfolding generated_words
greatest_second = refl

seventh_third : later_part 7 3 ≡
    Snapshot (7 ∷ 0 ∷ 0 ∷ 0 ∷ 0 ∷ 0 ∷ 0 ∷ 0 ∷ 3 ∷ 0 ∷ 0 ∷ 0 ∷ 0 ∷ 0 ∷ 0 ∷ 0 ∷ []) 3 (codes "g3") (7 ∷ 0 ∷ 0 ∷ 0 ∷ 0 ∷ 0 ∷ 0 ∷ 0 ∷ 2 ∷ 0 ∷ 0 ∷ 0 ∷ 0 ∷ 0 ∷ 0 ∷ 0 ∷ []) 2
    ∷ Write (codes "f4") 4096 (replicate 4_096 118)
    ∷ Clone (codes "f0") 8192 (7 ∷ 0 ∷ 0 ∷ 0 ∷ 0 ∷ 0 ∷ 0 ∷ 0 ∷ 2 ∷ 0 ∷ 0 ∷ 0 ∷ 0 ∷ 0 ∷ 0 ∷ 0 ∷ []) 2 (codes "f3") 0 4_096
    ∷ Rename (codes "f4") (codes "t") ∷ Rename (codes "t") (codes "f4") ∷ End ∷ []
unfolding generated_words
seventh_third = refl

zeroth_fourth : later_part 0 4 ≡
    Snapshot (0 ∷ 0 ∷ 0 ∷ 0 ∷ 0 ∷ 0 ∷ 0 ∷ 0 ∷ 4 ∷ 0 ∷ 0 ∷ 0 ∷ 0 ∷ 0 ∷ 0 ∷ 0 ∷ []) 4 (codes "g4") (0 ∷ 0 ∷ 0 ∷ 0 ∷ 0 ∷ 0 ∷ 0 ∷ 0 ∷ 3 ∷ 0 ∷ 0 ∷ 0 ∷ 0 ∷ 0 ∷ 0 ∷ 0 ∷ []) 3
    ∷ Write (codes "f4") 0 (replicate 4_096 73)
    ∷ Clone (codes "f3") 4096 (0 ∷ 0 ∷ 0 ∷ 0 ∷ 0 ∷ 0 ∷ 0 ∷ 0 ∷ 3 ∷ 0 ∷ 0 ∷ 0 ∷ 0 ∷ 0 ∷ 0 ∷ 0 ∷ []) 3 (codes "f2") 8192 4_096
    ∷ Rename (codes "f4") (codes "t") ∷ Rename (codes "t") (codes "f4") ∷ End ∷ []
unfolding generated_words
zeroth_fourth = refl

-- Each file of the first part has its own byte, from 0 on.
first_bytes : map (λ c. take 1 (bytes_of c)) (take 3 (drop 9 (first_part 7))) ≡ (0 ∷ []) ∷ (1 ∷ []) ∷ (2 ∷ []) ∷ []
unfolding generated_words
first_bytes = refl

-- One part is composed to itself.
trial_of_one : trial_line 7 1 ≡ codes "trial 1 18 98763 98763 0 0" ++ 10 ∷ []
unfolding generated_words
trial_of_one = refl

-- The clone of the second part is redirected, and no block of it is outside.
trial_of_two : trial_line 7 2 ≡ codes "trial 2 24 103130 107061 0 4096" ++ 10 ∷ []
unfolding generated_words
trial_of_two = refl
