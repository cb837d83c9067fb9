use Rattle.std.proofs.Common.{◌≡◌, ℕ, ◌*◌, ◌<◌, ◌≤◌, take, get_or}
use Rattle.send_model.specs.Attribute.{IsBytes}
use Rattle.send_model.specs.Printed.{hex_bytes}
use Rattle.stream_text.specs.ValueReading.{digit_in}
use Rattle.stream_text.proofs.glyphs.fill_bytes.Given as goal

-- the bytes of the pairs so far, unless one of their bytes is no digit
abbrev pub invariant-loop-place : goal.invariant-loop-place
invariant-loop-place l = record {
  few : l.worst ≤ 16;
  bytes : IsBytes (take l.place l.bytes);
  right : l.worst < 16 → hex_bytes (take l.place l.bytes) ≡ take (2 * l.place) l.text;
  wrong : 16 ≤ l.worst → (k : ℕ) × (k < 2 * l.place) × (digit_in (get_or l.text k 0) ≡ 16);
}
