-- The first sixteen bytes of a name as two numbers, which compare as the bytes do. Source: this
-- program's own.
use Rattle.std.specs.Prelude.{◌≡◌, ℕ, ◌+◌, ◌*◌, ◌<◌, ◌≤◌, List, take}
use Rattle.std.specs.Rc.{rc_slice_items}
use Rattle.std.proofs.Math.ListN.{get_or}
use Rattle.inode_tree.specs.declared.name.Rest.{Rest}
use Rattle.inode_tree.specs.declared.name.Rest.TheVariants.{Short, Long}

-- The byte at a place, or zero where there is none; two, four and eight bytes from a place on, the
-- first the highest.
abbrev pub byte_at : List ℕ → ℕ → ℕ
byte_at bytes place = get_or bytes place 0

unfoldable pub two_at : List ℕ → ℕ → ℕ
two_at bytes place = byte_at bytes place * 256 + byte_at bytes (place + 1)

unfoldable pub four_at : List ℕ → ℕ → ℕ
four_at bytes place = two_at bytes place * 65_536 + two_at bytes (place + 2)

unfoldable pub eight_at : List ℕ → ℕ → ℕ
eight_at bytes place = four_at bytes place * 4_294_967_296 + four_at bytes (place + 4)

-- Bytes with their first eight, and the eight after these.
pub record IsOpened (bytes : List ℕ) (first next : ℕ) : Type 0 where
  pub first_is : first ≡ eight_at bytes 0
  pub next_is : next ≡ eight_at bytes 8
  pub small : (place : ℕ) → byte_at bytes place < 256

-- Sixteen bytes that begin as a list does, with zero bytes behind its end; and how many of them are
-- of it, if all are.
pub record IsOpening (bytes opening : List ℕ) (len : ℕ) : Type 0 where
  pub same : (place : ℕ) → place < 16 → byte_at opening place ≡ byte_at bytes place
  pub small : (place : ℕ) → byte_at bytes place < 256
  pub fits : len ≤ 16

-- A name by its first sixteen bytes and what stands beside them.
abbrev pub whole : Rest → List ℕ → List ℕ
whole (Short len) opening = take len opening
whole (Long bytes) opening = rc_slice_items bytes

-- How many bytes a name has, if all of them are among its first sixteen.
abbrev pub within : Rest → ℕ
within (Short len) = len
within (Long bytes) = 0
