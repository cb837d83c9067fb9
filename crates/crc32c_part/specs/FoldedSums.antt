-- Checksums of words that are moved: a word of eight bytes may be exclusive-ored into the words 65,
-- 155, 170, 195 and 209 places behind it, and counts as zero from then on. The source of all
-- definitions here: this program's own.
use Rattle.std.specs.Prelude.{ℕ, ◌-◌, ◌*◌, List, [], ◌∷◌, length, drop, slice_index, bit_xor}
use Rattle.send_model.specs.Checksum.{shifts, crc_of}

-- How many places behind a word it is taken in.
abbrev pub distances : List ℕ
distances = 65 ∷ 155 ∷ 170 ∷ 195 ∷ 209 ∷ []

-- What comes to the word behind moved words: the exclusive-or of those at each distance.
unfoldable pub arriving : List ℕ → List ℕ → ℕ
arriving [] moved = 0
arriving (distance ∷ more) moved =
    bit_xor (slice_index moved (length moved - distance)) (arriving more moved)

-- The part that words have in a checksum which ends `left` bytes behind the beginning of the first.
unfoldable pub part_of : ℕ → List ℕ → ℕ
part_of left [] = 0
part_of left (word ∷ words) = bit_xor (shifts (8 * left) word) (part_of (left - 8) words)

-- What moved words still bring into a checksum which ends `left` bytes behind the end of the last:
-- for each distance, the last so many words are taken in from there on, one after the other.
unfoldable pub owed : List ℕ → List ℕ → ℕ → ℕ
owed [] moved left = 0
owed (distance ∷ more) moved left =
    bit_xor (part_of left (drop (length moved - distance) moved)) (owed more moved left)

-- The checksum `crc`, gone on with over bytes which take in what the words moved before them bring.
unfoldable pub folded_sum : ℕ → List ℕ → List ℕ → ℕ
folded_sum crc moved bytes = bit_xor (owed distances moved (length bytes)) (crc_of crc bytes)
