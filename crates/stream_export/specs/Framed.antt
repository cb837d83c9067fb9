-- Frames that were read.
use Rattle.std.specs.Prelude.{◌≡◌, ℕ, List, Ok}
use Rattle.send_model.specs.Reading.{Frame, frame_at}

-- A frame whose checksum is right, and maybe bytes behind it.
abbrev pub IsFramed : List ℕ → Type 0
IsFramed bytes = (frame : Frame) × (frame_at bytes ≡ Ok frame)
