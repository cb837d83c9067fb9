-- A frame that is read in its parts: its header, its body, and the checksum over both.
use Rattle.std.specs.Prelude.{◌≡◌, ℕ, Bool, true, false, List, [], ◌∷◌, length, take, drop, Ok, nat_le, nat_lt}
use Rattle.std.proofs.Common.{refl}
use Rattle.send_model.specs.Refusal.{Truncated}
use Rattle.send_model.specs.Chain.{◌>>=◌, ◌>>◌, require}
use Rattle.send_model.specs.Spelling.{greatest_body}
use Rattle.send_model.specs.Reading.{frame_at, frame_with, frame_header_len, number16, number32}
use Rattle.tlv_frame.specs.Frame.{head_at, checksum_holds}

-- The frame in front of bytes: its header, then its body, then their checksum.
pub frame_in_parts : (bytes : List ℕ) → frame_at bytes ≡
    (require (nat_le frame_header_len (length bytes)) Truncated >> (head_at bytes >>= λ head.
    require (nat_le head.len (length (drop frame_header_len bytes))) Truncated >> (checksum_holds head (take head.len (drop frame_header_len bytes)) >>
    Ok (record { number = head.number; body = take head.len (drop frame_header_len bytes); rest = drop head.len (drop frame_header_len bytes) }))))
unfolding frame_at frame_with head_at checksum_holds
frame_in_parts bytes = go (nat_le frame_header_len (length bytes)) (nat_lt greatest_body (number32 bytes)) refl refl
  where
    go : (p q : Bool) → nat_le frame_header_len (length bytes) ≡ p → nat_lt greatest_body (number32 bytes) ≡ q → frame_at bytes ≡
        (require (nat_le frame_header_len (length bytes)) Truncated >> (head_at bytes >>= λ head.
        require (nat_le head.len (length (drop frame_header_len bytes))) Truncated >> (checksum_holds head (take head.len (drop frame_header_len bytes)) >>
        Ok (record { number = head.number; body = take head.len (drop frame_header_len bytes); rest = drop head.len (drop frame_header_len bytes) }))))
    go false q e f = rw e refl
    go true true e f = rw (e, f) refl
    go true false e f = rw (e, f) refl

-- The header is the first ten bytes.
pub head_of_ten : (bytes : List ℕ) → head_at (take 10 bytes) ≡ head_at bytes
unfolding head_at number16 number32
head_of_ten [] = refl
head_of_ten (a ∷ []) = refl
head_of_ten (a ∷ b ∷ []) = refl
head_of_ten (a ∷ b ∷ c ∷ []) = refl
head_of_ten (a ∷ b ∷ c ∷ d ∷ []) = refl
head_of_ten (a ∷ b ∷ c ∷ d ∷ e ∷ []) = refl
head_of_ten (a ∷ b ∷ c ∷ d ∷ e ∷ f ∷ []) = refl
head_of_ten (a ∷ b ∷ c ∷ d ∷ e ∷ f ∷ g ∷ []) = refl
head_of_ten (a ∷ b ∷ c ∷ d ∷ e ∷ f ∷ g ∷ h ∷ []) = refl
head_of_ten (a ∷ b ∷ c ∷ d ∷ e ∷ f ∷ g ∷ h ∷ i ∷ []) = refl
head_of_ten (a ∷ b ∷ c ∷ d ∷ e ∷ f ∷ g ∷ h ∷ i ∷ j ∷ rest) = refl
