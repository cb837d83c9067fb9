-- Checksums that go on over frames. This program's own.
use Rattle.std.specs.Prelude.{◌≡◌, ◌≤◌, ℕ, length, ◌*◌, ◌/◌, ◌%◌, bit_xor, List, [], ◌∷◌}
use Rattle.send_model.specs.Spelling.{frame_of, greatest_body}

-- The numbers of a list whose bits are set, the first of them by the last bit, taken together.
unfoldable pub by_bits : List ℕ → ℕ → ℕ
by_bits [] n = 0
by_bits (x ∷ row) n = bit_xor (x * (n % 2)) (by_bits row (n / 2))

-- Bytes are a frame, which has its own checksum.
pub record IsSummed (bytes : List ℕ) : Type 0 where
  pub number : ℕ
  pub body : List ℕ
  pub short : length body ≤ greatest_body
  pub spelled : bytes ≡ frame_of number body
