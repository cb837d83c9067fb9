-- Worked examples of the escaped form: a target with a blank, a backslash, bytes outside ASCII, and
-- both ends of the bytes that stand for themselves.
use Rattle.std.proofs.Common.{◌≡◌, [], ◌∷◌, refl}
use Rattle.std.specs.Prelude.{codes}
use Rattle.send_model.specs.Printed.{escaped, escaped_byte, is_plain, hex_digit}

pub target_with_blank : escaped (codes "../x y") ≡ codes "../x\\x20y"
unfolding escaped escaped_byte is_plain hex_digit
target_with_blank = refl

pub backslash : escaped (codes "a\\b") ≡ codes "a\\x5cb"
unfolding escaped escaped_byte is_plain hex_digit
backslash = refl

pub outside_ascii : escaped (0 ∷ 0xc3 ∷ 0xaf ∷ 0xff ∷ []) ≡ codes "\\x00\\xc3\\xaf\\xff"
unfolding escaped escaped_byte is_plain hex_digit
outside_ascii = refl

pub ends_of_plain : escaped (0x20 ∷ 0x21 ∷ 0x7e ∷ 0x7f ∷ []) ≡ codes "\\x20!~\\x7f"
unfolding escaped escaped_byte is_plain hex_digit
ends_of_plain = refl

pub nothing : escaped [] ≡ []
unfolding escaped
nothing = refl
