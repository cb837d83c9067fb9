-- Each of the trees that a tree is over is lower than it.
use Rattle.std.specs.Prelude.{ℕ, ◌+◌, ◌≤◌, max, List, [], ◌∷◌}
use Rattle.std.proofs.Common.{arith}
use Rattle.std.proofs.lemmas.List.Elements.{All-head, All-tail}
use denote.Param.Weighed.{most}
use Rattle.extent_map.specs.Seen.{Seen, IsKid, AreKids}
use Rattle.extent_map.specs.declared.origin.Origin.{Ghosts}
use Rattle.extent_map.specs.declared.tree.Shape.{Shape}
use Rattle.extent_map.specs.declared.tree.Shape.TheVariants.{Empty, Leaf, Fork}
use Rattle.extent_map.specs.declared.tree.Tree.TheDeep.{deep-Shape}
use Rattle.extent_map.specs.Trees.{seen, HasParts}

pub most_kids : {O : Type 0} (steps : ℕ) (kids : List (Seen O)) → AreKids steps kids
    → most (λ k. k.height + 1) kids ≤ steps + 1
most_kids steps [] h = omega arith
most_kids steps (k ∷ ks) h =
    let kid = All-head (IsKid steps) k ks h in
    omega (arith, kid.height, most_kids steps ks (All-tail (IsKid steps) k ks h))

pub kids_lower : (O : Type 0) (g : Ghosts O) (t : Shape O) → HasParts g.reach t
    → max (deep-Shape O g t) 0 ≤ (seen g.advanced t).height
kids_lower O g Empty h = omega arith
kids_lower O g (Leaf foreign len pieces) h = omega arith
kids_lower O g (Fork height foreign len kids) h =
    omega (arith, h.below.height, most_kids h.below.steps kids.value.items h.below.each)
