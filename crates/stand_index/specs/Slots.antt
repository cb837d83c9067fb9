-- Blocks as entries of an ordered map. A source is cut into stretches of one width, and an entry
-- has blocks that begin in one of them: so those that may begin with a cell lie together. This
-- program's own.
use Rattle.std.specs.Prelude.{◌≡◌, ℕ, ◌+◌, ◌-◌, ◌*◌, ◌/◌, ◌%◌, ◌^◌, ◌<◌, ◌≤◌, ◌==◌, Bool, ◌&&◌, nat_le, nat_lt, List, [], ◌∷◌, map, Option, None, Some, if◌then◌else◌}
use Rattle.std.specs.List.{AllByRecursion}
use Rattle.send_model.specs.Clone.{block_len}
use Rattle.stand_index.specs.declared.blocks.Blocks.{Blocks}
use Rattle.stand_index.specs.declared.slot.Slot.{Slot}

-- Where the stretch begins that has a cell.
abbrev pub start_of : ℕ → ℕ → ℕ
start_of width cell = cell - cell % width

-- The blocks of an entry.
abbrev pub blocks_of : {S : Type 0} → ℕ → Slot S × ℕ → Blocks S
blocks_of width e = record {
  source = e.0.source;
  first = e.0.first;
  ino = e.0.ino;
  at = (e.0.shift + e.0.first) - (e.0.start + width);
  count = e.1;
}

abbrev pub all_blocks : {S : Type 0} → ℕ → List (Slot S × ℕ) → List (Blocks S)
all_blocks width entries = map (blocks_of width) entries

-- The numbers of an entry are numbers of the code.
pub record AreSmall {S : Type 0} (slot : Slot S) : Type 0 where
  pub ino : slot.ino < 2 ^ 64
  pub shift : slot.shift < 2 ^ 64
  pub first : slot.first < 2 ^ 64

-- An entry has blocks, all of which begin in its stretch.
pub record IsSlot {S : Type 0} (width : ℕ) (e : Slot S × ℕ) : Type 0 where
  pub some : 0 < e.1
  pub start_is : start_of width e.0.first ≡ e.0.start
  pub within : e.0.first + block_len * (e.1 - 1) < e.0.start + width
  pub low : e.0.start + width ≤ e.0.shift + e.0.first
  pub small : AreSmall e.0

abbrev pub AreSlots : {S : Type 0} → ℕ → List (Slot S × ℕ) → Type 0
AreSlots width entries = AllByRecursion (IsSlot width) entries

-- A width that stretches may have.
pub record IsWidth (width : ℕ) : Type 0 where
  pub some : 0 < width
  pub most : width ≤ 2 ^ 63

-- ---- look-ups

-- One of so many blocks begins with a cell of the same source.
abbrev pub has_cell : {S : Type 0} → Slot S → ℕ → ℕ → Bool
has_cell slot count cell =
    nat_le slot.first cell
    && (((cell - slot.first) % block_len == 0) && nat_lt ((cell - slot.first) / block_len) count)

-- The place of that block.
abbrev pub place_of : {S : Type 0} → ℕ → ℕ → Slot S → ℕ × ℕ
place_of width cell slot = (slot.ino, slot.shift - (width - (cell - slot.start)))

-- The first entry that passes a test.
abbrev pub first_where : {A : Type 0} → (A → Bool) → List A → Option A
first_where test [] = None
first_where test (x ∷ xs) = if test x then Some x else first_where test xs

-- The first entry that has such a block.
abbrev pub sought : {S : Type 0} → ℕ → List (Slot S × ℕ) → Option (Slot S × ℕ)
sought cell entries = first_where (λ e. has_cell e.0 e.1 cell) entries
