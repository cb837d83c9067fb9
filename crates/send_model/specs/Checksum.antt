-- The checksum of a frame: CRC-32C with the reflected polynomial, taken bit by bit and with no
-- inversion at either end. Source: btrfs_crc32c in send-stream.c of btrfs-progs, and the Castagnoli
-- polynomial of RFC 3720.
use Rattle.std.specs.Prelude.{ℕ, zero, suc, ◌/◌, ◌%◌, ◌==◌, if◌then◌else◌, bit_xor, List, [], ◌∷◌}

-- One bit: shift right by one and, if the bit shifted out was 1, exclusive-or with the polynomial.
unfoldable pub shift : ℕ → ℕ
shift n = if n % 2 == 1 then bit_xor (n / 2) 0x82F63B78 else n / 2

-- Several bits.
unfoldable pub shifts : ℕ → ℕ → ℕ
shifts zero n = n
shifts (suc k) n = shifts k (shift n)

-- One byte: exclusive-or it into the low eight bits, and shift eight times.
unfoldable pub crc_byte : ℕ → ℕ → ℕ
crc_byte crc byte = shifts 8 (bit_xor crc byte)

-- The checksum of a list of bytes that goes on from the checksum crc; a whole frame starts from 0.
unfoldable pub crc_of : ℕ → List ℕ → ℕ
crc_of crc [] = crc
crc_of crc (byte ∷ rest) = crc_of (crc_byte crc byte) rest
