-- Worked examples of texts.
use Rattle.std.specs.Prelude.{◌≡◌, [], ◌∷◌, ◌++◌, codes, refl}
use Rattle.std.specs.Fmt.{digits}
use Rattle.send_model.specs.Command.{Subvol, MkFile, MkNod, Write, SetXattr, Utimes, row}
use Rattle.send_model.specs.Printed.{is_plain, hex_digit, escaped_byte, escaped, uuid_text, time_text}
use Rattle.send_model.proofs.ExampleWords.{uuid, reading_words}
use Rattle.send_model.proofs.ReadingExamples.{first_stream}
use Rattle.text_model.specs.Texts.{Stream, text_line, text_of, text_from, text_in}
use Rattle.text_model.specs.Packing.{lines_of}

unfoldable text_words : Unit {0}
unfolding digits row text_line text_from text_in escaped escaped_byte is_plain hex_digit uuid_text time_text lines_of
text_words = tt

-- A stream of a subvolume with one file, which has two bytes.
abbrev small : Stream
small = record { version = 1; commands = Subvol (uuid 0x11) 1 (codes "a") ∷ MkFile (codes "x") ∷ Write (codes "x") 0 (codes "hi") ∷ [] }

small_text : text_of (small ∷ []) ≡
    codes "stream 1" ++ 10 ∷ codes "SUBVOL uuid=11111111-1111-1111-1111-111111111111 ctransid=1 path=a"
    ++ 10 ∷ codes "MKFILE path=x" ++ 10 ∷ codes "WRITE path=x offset=0 data=6869" ++ 10 ∷ codes "END" ++ 10 ∷ []
unfolding text_words
small_text = refl

-- Its file has this text.
small_read : text_in first_stream ≡ text_of (small ∷ [])
unfolding first_stream text_words reading_words
small_read = refl

-- Contents are digits, a mode is octal, a moment has nine digits of nanoseconds, and what is not
-- visible in a name is escaped.
valued : text_line (SetXattr (codes "user.k") (0 ∷ 0xff ∷ []) (codes "a b")) ≡ codes "SET_XATTR xattr=user.k value=00ff path=a\\x20b" ++ 10 ∷ []
unfolding text_words
valued = refl

of_device : text_line (MkNod 8_624 5 (codes "n")) ≡ codes "MKNOD mode=20660 rdev=5 path=n" ++ 10 ∷ []
unfolding text_words
of_device = refl

of_times : text_line (Utimes (record { secs = 7; nanos = 5 }) (record { secs = 0; nanos = 0 }) []) ≡ codes "UTIMES mtime=7.000000005 atime=0.000000000 path=" ++ 10 ∷ []
unfolding text_words
of_times = refl

-- Nothing at all has no lines; a line needs its newline; a carriage return is a byte like others.
no_lines : lines_of [] ≡ []
unfolding text_words
no_lines = refl

cut_off : lines_of (codes "END" ++ 10 ∷ codes "EN") ≡ (codes "END" ++ 10 ∷ []) ∷ codes "EN" ∷ []
unfolding text_words
cut_off = refl

returned : lines_of (codes "END" ++ 13 ∷ 10 ∷ []) ≡ (codes "END" ++ 13 ∷ 10 ∷ []) ∷ []
unfolding text_words
returned = refl
