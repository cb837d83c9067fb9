-- What the iterator over a path's names has left.
use Rattle.std.specs.Prelude.{ℕ, List, [], Option, None, Some}
use denote.Ref.{Bor}
use Rattle.send_model.specs.Path.{between_slashes}

-- The pieces between the slashes of the bytes that are left; none where the last piece was given.
abbrev pub pieces_left : Option (Bor (List ℕ)) → List (List ℕ)
pieces_left None = []
pieces_left (Some left) = between_slashes left.now
