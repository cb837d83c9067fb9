-- A frame that was spelled is read back, whatever follows it.
use Rattle.std.specs.Prelude.{◌≡◌, ℕ, ◌^◌, ◌<◌, ◌≤◌, true, false, List, ◌++◌, length, drop, Ok, nat_le, nat_lt, ◌==◌}
use Rattle.std.specs.Int.{w16, w32, to_le_bytes}
use Rattle.std.proofs.Common.{refl, ◌∙◌, arith, length-append, le-leb, eq-eqb, le-ltb}
use Rattle.std.proofs.Math.Seq.{take-append_seam, drop-append_seam}
use Rattle.std.proofs.lemmas.Nat.{from_le_bytes-to_le_bytes_2, from_le_bytes-to_le_bytes_4}
use Rattle.send_model.specs.Spelling.{frame_of, frame_checksum, greatest_body}
use Rattle.send_model.specs.Reading.{frame_at, frame_with, number16, number32, frame_header_len}

-- What the header says of a frame that is there decides what is read.
pub frame_with_body : (body rest : List ℕ) (number : ℕ) → length body ≤ greatest_body
    → frame_with (length body) number (frame_checksum (length body) number body) (body ++ rest) ≡ Ok (record { number = number; body = body; rest = rest })
unfolding frame_with
frame_with_body body rest number short =
    let fits : nat_lt greatest_body (length body) ≡ false = le-ltb _ _ short in
    let there : nat_le (length body) (length (body ++ rest)) ≡ true = le-leb _ _ (rw length-append (omega arith)) in
    let sum : ℕ = frame_checksum (length body) number body in
    let same : (sum == sum) ≡ true = eq-eqb sum sum refl in
    rw (fits, there, take-append_seam body rest, drop-append_seam body rest) (rw same refl)

pub frame_at_by : (bytes after : List ℕ) (len number sum : ℕ) → 10 ≤ length bytes → number32 bytes ≡ len → number16 (drop 4 bytes) ≡ number → number32 (drop 6 bytes) ≡ sum → drop 10 bytes ≡ after → frame_at bytes ≡ frame_with len number sum after
unfolding frame_at
frame_at_by bytes after len number sum long a b c d = let there : nat_le frame_header_len (length bytes) ≡ true = le-leb _ _ long in rw (there, a, b, c, d) refl

-- The header of a frame says its numbers.
pub header_says : (len number sum : ℕ) (tail : List ℕ) → len < 2 ^ 32 → number < 2 ^ 16 → sum < 2 ^ 32
    → let bytes = to_le_bytes w32 len ++ to_le_bytes w16 number ++ to_le_bytes w32 sum ++ tail in
    (number32 bytes ≡ len) × (number16 (drop 4 bytes) ≡ number) × (number32 (drop 6 bytes) ≡ sum) × (drop 10 bytes ≡ tail) × (10 ≤ length bytes)
unfolding number16 number32
header_says len number sum tail l n s = (from_le_bytes-to_le_bytes_4 len l, from_le_bytes-to_le_bytes_2 number n, from_le_bytes-to_le_bytes_4 sum s, refl, omega arith)

-- A frame that was spelled is read back, whatever follows it.
pub frame_read_back : (body rest : List ℕ) (number : ℕ) → number < 2 ^ 16 → length body ≤ greatest_body → frame_checksum (length body) number body < 2 ^ 32
    → frame_at (frame_of number body ++ rest) ≡ Ok (record { number = number; body = body; rest = rest })
unfolding frame_at frame_of
frame_read_back body rest number small short sum_small =
    let sum : ℕ = frame_checksum (length body) number body in
    let says = header_says (length body) number sum (body ++ rest) (omega (arith, short)) small sum_small in
    frame_at_by (frame_of number body ++ rest) (body ++ rest) (length body) number sum says.4 says.0 says.1 says.2 says.3 ∙ frame_with_body body rest number short
