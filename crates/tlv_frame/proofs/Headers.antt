-- Headers and the frames that they begin.
use Rattle.std.proofs.Common.{◌≡◌, ℕ, ◌+◌, List, ◌++◌, length, take, drop, refl, sym, ap, ◌∙◌, append_assoc}
use Rattle.std.specs.Int.{w16, w32, to_le_bytes}
use Rattle.send_model.specs.Checksum.{crc_of}
use Rattle.send_model.specs.Spelling.{frame_checksum, frame_of}
use Rattle.send_model.proofs.ChecksumLaws.{crc_of-append}
use Rattle.sx_base.specs.Bytes.{put_at}
use Rattle.tlv_frame.specs.Frame.{Head, head_bytes}

-- The checksum goes on from the header, whose own checksum is zero, over the body.
pub checksum_in_two : (len number : ℕ) (body : List ℕ) →
    crc_of (crc_of 0 (head_bytes (record { len = len; number = number; stored = 0 }))) body ≡ frame_checksum len number body
unfolding head_bytes frame_checksum
checksum_in_two len number body = sym (crc_of-append 0 (to_le_bytes w32 len ++ to_le_bytes w16 number ++ to_le_bytes w32 0) body)

head_len : (head : Head) → length (head_bytes head) ≡ 10
unfolding head_bytes
head_len head = refl

abbrev head_for : ℕ → List ℕ → Head
head_for number body = record { len = length body; number = number; stored = frame_checksum (length body) number body }

head_and_body : (number : ℕ) (body : List ℕ) → head_bytes (head_for number body) ++ body ≡ frame_of number body
unfolding head_bytes frame_of
head_and_body number body = refl

-- A header that is put into its room makes the frame.
pub header_frames : (start number : ℕ) (old body head : List ℕ) → body ≡ drop (start + 10) old
    → head ≡ head_bytes (record { len = length body; number = number; stored = frame_checksum (length body) number body })
    → put_at start head old ≡ take start old ++ frame_of number (drop (start + 10) old)
header_frames start number old body head b e =
    ap (λ (h : List ℕ). put_at start h old) e
    ∙ ap (λ (n : ℕ). take start old ++ head_bytes (head_for number body) ++ drop (start + n) old) (head_len (head_for number body))
    ∙ ap (λ (x : List ℕ). take start old ++ head_bytes (head_for number body) ++ x) (sym b)
    ∙ append_assoc (take start old) (head_bytes (head_for number body)) body
    ∙ ap (λ (x : List ℕ). take start old ++ x) (head_and_body number body)
    ∙ ap (λ (x : List ℕ). take start old ++ frame_of number x) b
