-- Trees of runs, all of whose leaves are at one height.
use Rattle.std.specs.Prelude.{◌≡◌, ℕ, ◌<◌, Bool, false, [], List}
use Rattle.std.specs.List.{sum_by}
use Rattle.extent_map.specs.Pieces.{have_foreign}
use Rattle.extent_map.specs.Leaves.{all_cells, ArePieces}
use Rattle.extent_map.specs.Seen.{Seen, joined, IsFork}
use Rattle.extent_map.specs.declared.piece.Piece.{Piece}
use Rattle.extent_map.specs.declared.tree.Shape.{Shape}
use Rattle.extent_map.specs.declared.tree.Shape.TheVariants.{Empty, Leaf, Fork}

-- The number of cells and the height that a tree says it has.
abbrev pub count_of : {O : Type 0} → Shape O → ℕ
count_of Empty = 0
count_of (Leaf foreign len pieces) = len
count_of (Fork height foreign len kids) = len

abbrev pub height_of : {O : Type 0} → Shape O → ℕ
height_of Empty = 0
height_of (Leaf foreign len pieces) = 1
height_of (Fork height foreign len kids) = height

-- Whether a tree says that one of its cells is foreign.
abbrev pub says_foreign : {O : Type 0} → Shape O → Bool
says_foreign Empty = false
says_foreign (Leaf foreign len pieces) = foreign
says_foreign (Fork height foreign len kids) = foreign

-- The cells of a tree and its height.
abbrev pub seen : {O : Type 0} → (O → ℕ → O) → Shape O → Seen O
seen advanced Empty = record { cells = []; height = 0 }
seen advanced (Leaf foreign len pieces) =
    record { cells = all_cells advanced pieces.value.items; height = 1 }
seen advanced (Fork height foreign len kids) =
    record { cells = joined kids.value.items; height = height }

-- What a leaf keeps: its pieces have cells, which are counted.
pub record IsLeaf {O : Type 0} (reach : O → ℕ) (len : ℕ) (pieces : List (Piece O)) : Type 0 where
  pub each : ArePieces reach pieces
  pub counted : len ≡ sum_by (λ p. p.len) pieces
  pub some : 0 < len

-- What holds of the parts of a tree.
abbrev pub HasParts : {O : Type 0} → (O → ℕ) → Shape O → Type 0
HasParts reach Empty = Unit {0}
HasParts reach (Leaf foreign len pieces) = IsLeaf reach len pieces.value.items
HasParts reach (Fork height foreign len kids) = IsFork height len kids.value.items

-- What holds of a tree.
pub record IsTree {O : Type 0} (advanced : O → ℕ → O) (foreign : O → Bool) (reach : O → ℕ)
    (tree : Shape O) : Type 0 where
  pub parts : HasParts reach tree
  pub says : says_foreign tree ≡ have_foreign foreign (seen advanced tree).cells
