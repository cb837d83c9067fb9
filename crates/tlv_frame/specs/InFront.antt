-- What stands in front of the bytes that a feed keeps.
use Rattle.std.specs.Prelude.{◌≡◌, ℕ, ◌+◌, ◌≤◌, true, List, length, take, drop, Option, None, Some, Result, Ok, Err}
use Rattle.send_model.specs.Spelling.{frame_checksum, greatest_body}
use Rattle.send_model.specs.Reading.{stream_version, frame_at, is_version}
use Rattle.sx_base.specs.declared.refusal.Refusal.{Refusal}
use Rattle.sx_base.specs.Refusals.{refusal_of}
use Rattle.tlv_frame.specs.declared.frame_head.FrameHead.{FrameHead}
use Rattle.tlv_frame.specs.declared.stream_head.StreamHead.{StreamHead}
use Rattle.tlv_frame.specs.Feeding.{unless_more}

-- The header in front is whole, and its version is known.
pub record IsHead (left : List ℕ) (head : StreamHead) : Type 0 where
  pub whole : 17 ≤ length left
  pub version : stream_version left ≡ Ok head.version
  pub known : is_version head.version ≡ true

abbrev pub FindsHead : List ℕ → Result (Option StreamHead) Refusal → Type 0
FindsHead left (Ok None) = unless_more (stream_version left) ≡ Ok None
FindsHead left (Ok (Some head)) = IsHead left head
FindsHead left (Err refusal) = unless_more (stream_version left) ≡ Err (refusal_of refusal)

-- The frame in front has this header, and its body is there.
pub record IsFrame (left : List ℕ) (head : FrameHead) : Type 0 where
  pub whole : 10 + head.len ≤ length left
  pub short : head.len ≤ greatest_body
  pub frame : frame_at left
      ≡ Ok (record {
        number = head.cmd;
        body = take head.len (drop 10 left);
        rest = drop head.len (drop 10 left);
      })
  pub sum : head.crc ≡ frame_checksum head.len head.cmd (take head.len (drop 10 left))

abbrev pub FindsFrame : List ℕ → Result (Option FrameHead) Refusal → Type 0
FindsFrame left (Ok None) = unless_more (frame_at left) ≡ Ok None
FindsFrame left (Ok (Some head)) = IsFrame left head
FindsFrame left (Err refusal) = unless_more (frame_at left) ≡ Err (refusal_of refusal)
