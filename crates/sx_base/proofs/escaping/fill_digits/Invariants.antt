use Rattle.std.proofs.Common.{◌≡◌, ◌*◌, length, take}
use Rattle.send_model.specs.Printed.{hex_bytes}
use Rattle.sx_base.proofs.escaping.fill_digits.Given as goal

-- the digits of the bytes so far
abbrev pub invariant-loop-place : goal.invariant-loop-place
invariant-loop-place l = record { filled : take (2 * l.place) l.digits ≡ hex_bytes (take l.place l.bytes) }
