-- Worked examples of reading: two small streams and the one stream that stands for both, byte by
-- byte as an assembler independent of this program makes them, and the commands that they hold.
use Rattle.std.specs.Prelude.{◌≡◌, List, ℕ, [], ◌∷◌, ◌++◌, codes, refl}
use Rattle.send_model.specs.Command.{Subvol, Snapshot, MkFile, Write, End}
use Rattle.send_model.specs.Spelling.{canonical}
use Rattle.send_model.specs.Reading.{Whole, reads}
use Rattle.send_model.proofs.ExampleWords.{hexadecimal, uuid, reading_words}

-- The streams, a line for the header and one for each frame.
unfoldable pub first_stream : List ℕ
first_stream =
    hexadecimal (codes "62747266732d73747265616d0001000000")
    ++ hexadecimal (codes "250000000100333343ee01001000111111111111111111111111111111110200080001000000000000000f00010061")
    ++ hexadecimal (codes "0500000003002f8a36730f00010078")
    ++ hexadecimal (codes "170000000f00437eee5f0f00010078120008000000000000000000130002006869")
    ++ hexadecimal (codes "000000001500506cc99d")

unfoldable pub second_stream : List ℕ
second_stream =
    hexadecimal (codes "62747266732d73747265616d0001000000")
    ++ hexadecimal (codes "450000000200ca93bfed01001000222222222222222222222222222222220200080002000000000000000f000100621400100011111111111111111111111111111111150008000100000000000000")
    ++ hexadecimal (codes "160000000f0095b74b770f000100781200080002000000000000001300010021")
    ++ hexadecimal (codes "000000001500506cc99d")

unfoldable pub merged_stream : List ℕ
merged_stream =
    hexadecimal (codes "62747266732d73747265616d0001000000")
    ++ hexadecimal (codes "2500000001009d83eef801001000222222222222222222222222222222220200080002000000000000000f00010062")
    ++ hexadecimal (codes "0500000003002f8a36730f00010078")
    ++ hexadecimal (codes "170000000f00437eee5f0f00010078120008000000000000000000130002006869")
    ++ hexadecimal (codes "160000000f0095b74b770f000100781200080002000000000000001300010021")
    ++ hexadecimal (codes "000000001500506cc99d")

-- The END command is the ten bytes 00000000 1500 506cc99d.
end_frame : canonical 1 End ≡ hexadecimal (codes "000000001500506cc99d")
unfolding reading_words
end_frame = refl

-- A full stream of one small file: its four commands, with the places of their frames and of the
-- data.
first_read : reads 1 first_stream ≡ record {
  items =
      record { file = 1; number = 1; offset = 17; version = 1; data_at = 0; command = Subvol (uuid 0x11) 1 (codes "a") }
      ∷ record { file = 1; number = 2; offset = 64; version = 1; data_at = 0; command = MkFile (codes "x") }
      ∷ record { file = 1; number = 3; offset = 79; version = 1; data_at = 110; command = Write (codes "x") 0 (codes "hi") }
      ∷ record { file = 1; number = 4; offset = 112; version = 1; data_at = 0; command = End }
      ∷ [];
  end = Whole;
}
unfolding first_stream reading_words
first_read = refl

-- A snapshot of it with one more write, as the second file.
second_read : reads 2 second_stream ≡ record {
  items =
      record { file = 2; number = 1; offset = 17; version = 1; data_at = 0; command = Snapshot (uuid 0x22) 2 (codes "b") (uuid 0x11) 1 }
      ∷ record { file = 2; number = 2; offset = 96; version = 1; data_at = 127; command = Write (codes "x") 2 (codes "!") }
      ∷ record { file = 2; number = 3; offset = 128; version = 1; data_at = 0; command = End }
      ∷ [];
  end = Whole;
}
unfolding second_stream reading_words
second_read = refl

-- The one stream for both: the first one's commands under the second one's name and key, and then
-- the second one's.
pub merged_read : reads 1 merged_stream ≡ record {
  items =
      record { file = 1; number = 1; offset = 17; version = 1; data_at = 0; command = Subvol (uuid 0x22) 2 (codes "b") }
      ∷ record { file = 1; number = 2; offset = 64; version = 1; data_at = 0; command = MkFile (codes "x") }
      ∷ record { file = 1; number = 3; offset = 79; version = 1; data_at = 110; command = Write (codes "x") 0 (codes "hi") }
      ∷ record { file = 1; number = 4; offset = 112; version = 1; data_at = 143; command = Write (codes "x") 2 (codes "!") }
      ∷ record { file = 1; number = 5; offset = 144; version = 1; data_at = 0; command = End }
      ∷ [];
  end = Whole;
}
unfolding merged_stream reading_words
merged_read = refl
