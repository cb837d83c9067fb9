-- Worked examples of the checksum, which the checker computes.
use Rattle.std.proofs.Common.{◌≡◌, refl, [], ◌∷◌}
use Rattle.send_model.specs.Checksum.{shift, shifts, crc_byte, crc_of}

-- The nine digits "123456789" from all ones: the published check value of CRC-32C, 0xE3069283,
-- before its last inversion.
pub check_value : crc_of 0xFFFFFFFF (49 ∷ 50 ∷ 51 ∷ 52 ∷ 53 ∷ 54 ∷ 55 ∷ 56 ∷ 57 ∷ []) ≡ 0x1CF96D7C
unfolding shift shifts crc_byte crc_of
check_value = refl

-- With no inversion at the start, zero bytes keep the checksum at zero.
pub ten_zeros : crc_of 0 (0 ∷ 0 ∷ 0 ∷ 0 ∷ 0 ∷ 0 ∷ 0 ∷ 0 ∷ 0 ∷ 0 ∷ []) ≡ 0
unfolding shift shifts crc_byte crc_of
ten_zeros = refl

-- END, command 21 with no attributes, is the frame 00000000 1500 506cc99d: the checksum of its ten
-- header bytes, with the field of the checksum taken as zero.
pub end_frame : crc_of 0 (0 ∷ 0 ∷ 0 ∷ 0 ∷ 0x15 ∷ 0 ∷ 0 ∷ 0 ∷ 0 ∷ 0 ∷ []) ≡ 0x9dc96c50
unfolding shift shifts crc_byte crc_of
end_frame = refl
