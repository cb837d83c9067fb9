-- Worked examples of the receivable spelling, as an assembler independent of this program makes the
-- frames; and of a stream in it.
use Rattle.std.specs.Prelude.{◌≡◌, ℕ, true, List, ◌++◌, codes, refl, [], ◌∷◌, map, replicate, take}
use Rattle.send_model.specs.Command.{MkFile, MkNod, Symlink, Write, Utimes, MkDir, MkFifo, MkSock}
use Rattle.send_model.specs.Reading.{reads}
use Rattle.send_model.specs.Receivable.{receivable_attributes, receivable, exported_from}
use Rattle.send_model.specs.Attribute.{INO}
use Rattle.send_model.specs.Spelling.{Attribute}
use Rattle.send_model.proofs.ExampleWords.{hexadecimal, reading_words}
use Rattle.send_model.proofs.ReadingExamples.{first_stream}

unfoldable receivable_words : Unit {0}
unfolding reading_words receivable_attributes receivable exported_from
receivable_words = tt

-- What is made has the inode number 0.
file_made : receivable 1 (MkFile (codes "x")) ≡ hexadecimal (codes "1100000003004e8981d00300080000000000000000000f00010078")
unfolding receivable_words
file_made = refl

link_made : receivable 1 (Symlink (codes "s") (codes "t")) ≡ hexadecimal (codes "16000000080068891eaf0300080000000000000000000f000100731100010074")
unfolding receivable_words
link_made = refl

device_made : receivable 1 (MkNod 0o20644 259 (codes "d")) ≡ hexadecimal (codes "2900000005004a1bd6e303000800000000000000000005000800a4210000000000000800080003010000000000000f00010064")
unfolding receivable_words
device_made = refl

-- So have directories, fifos and sockets, and it comes first.
abbrev no_number : Attribute
no_number = record { kind = INO; bytes = replicate 8 0 }

others_made : map (λ c. take 1 (receivable_attributes c)) (MkDir (codes "x") ∷ MkFifo (codes "x") ∷ MkSock (codes "x") ∷ [])
    ≡ (no_number ∷ []) ∷ (no_number ∷ []) ∷ (no_number ∷ []) ∷ []
unfolding receivable_words
others_made = refl

-- The time of the inode's change is that of its contents.
times_set : receivable 1 (Utimes (record { secs = 1; nanos = 2 }) (record { secs = 3; nanos = 4 }) (codes "x")) ≡ hexadecimal (codes "3500000014001b2a3d7509000c000100000000000000020000000a000c000100000000000000020000000b000c000300000000000000040000000f00010078")
unfolding receivable_words
times_set = refl

-- A WRITE is as ever.
written : receivable 1 (Write (codes "x") 0 (codes "hi")) ≡ hexadecimal (codes "170000000f00437eee5f0f00010078120008000000000000000000130002006869")
unfolding receivable_words
written = refl

-- A whole stream: only its MKFILE is another.
unfoldable first_exported : List ℕ
first_exported =
    hexadecimal (codes "62747266732d73747265616d0001000000")
    ++ hexadecimal (codes "250000000100333343ee01001000111111111111111111111111111111110200080001000000000000000f00010061")
    ++ hexadecimal (codes "1100000003004e8981d00300080000000000000000000f00010078")
    ++ hexadecimal (codes "170000000f00437eee5f0f00010078120008000000000000000000130002006869")
    ++ hexadecimal (codes "000000001500506cc99d")

stream_exported : exported_from true (reads 1 first_stream).items ≡ first_exported
unfolding first_stream first_exported receivable_words
stream_exported = refl
