-- The header of a frame, and the frame that is being written. Source: struct btrfs_cmd_header in
-- send.h of btrfs-progs.
use Rattle.std.specs.Prelude.{ℕ, ◌==◌, List, [], ◌∷◌, ◌++◌, drop, Result, Ok, nat_lt}
use Rattle.std.specs.Int.{w16, w32, to_le_bytes}
use Rattle.send_model.specs.Refusal.{Refusal, LongCommand, BadChecksum}
use Rattle.send_model.specs.Chain.{◌>>◌, require, refuse_if}
use Rattle.send_model.specs.Spelling.{frame_checksum, greatest_body}
use Rattle.send_model.specs.Reading.{number16, number32}

-- The length of the body, the command's number and the checksum that the frame has.
pub record Head : Type 0 where
  pub len : ℕ
  pub number : ℕ
  pub stored : ℕ

-- The header in front of bytes: too long a body is refused.
unfoldable pub head_at : List ℕ → Result Head Refusal
head_at bytes = do
  refuse_if (nat_lt greatest_body (number32 bytes)) (LongCommand (number32 bytes))
  Ok (record {
    len = number32 bytes;
    number = number16 (drop 4 bytes);
    stored = number32 (drop 6 bytes);
  })

-- The body has the checksum of its header.
unfoldable pub checksum_holds : Head → List ℕ → Result (Unit {0}) Refusal
checksum_holds head body =
    require (head.stored == frame_checksum head.len head.number body)
    (BadChecksum head.stored (frame_checksum head.len head.number body))

-- A header's ten bytes.
unfoldable pub head_bytes : Head → List ℕ
head_bytes head =
    to_le_bytes w32 head.len ++ to_le_bytes w16 head.number ++ to_le_bytes w32 head.stored

-- The room that a header is written into once its frame is whole.
abbrev pub head_room : List ℕ
head_room = 0 ∷ 0 ∷ 0 ∷ 0 ∷ 0 ∷ 0 ∷ 0 ∷ 0 ∷ 0 ∷ 0 ∷ []

-- A frame that is being written: the place where it begins, its command's number, and its stream's
-- version.
pub record Begun : Type 0 where
  pub start : ℕ
  pub number : ℕ
  pub version : ℕ
