-- Groups whose bodies are made of pieces, and what a crash may leave while they are published one
-- after the other.
use Rattle.std.specs.Prelude.{ℕ, List, ◌++◌, take, map, flat_map, Vec}
use Rattle.std.specs.declared.alloc.Global.{Global}
use Rattle.store_model.specs.Image.{Header, HasGroups, sealed}

-- the bytes of the pieces
abbrev pub joined : List (Vec ℕ Global) → List ℕ
joined pieces = flat_map (λ (piece : Vec ℕ Global). piece.items) pieces

-- the body that a group of these pieces has
abbrev pub body_of : Vec (Vec ℕ Global) Global → List ℕ
body_of pieces = sealed (joined pieces.items)

abbrev pub bodies_of : List (Vec (Vec ℕ Global) Global) → List (List ℕ)
bodies_of groups = map body_of groups

-- The image has the groups that there were, and the first of the new ones, however many.
pub record HasFirst (header : Header) (bodies news : List (List ℕ)) (image : List ℕ) : Type 0 where
  pub count : ℕ
  pub has : HasGroups header (bodies ++ take count news) image
