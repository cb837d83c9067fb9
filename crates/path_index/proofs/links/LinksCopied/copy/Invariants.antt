use Rattle.std.proofs.Common.{◌≡◌, take}
use Rattle.path_index.proofs.links.LinksCopied.copy.Given as goal

-- The first names are copied.
abbrev pub invariant-loop-link : goal.invariant-loop-link
invariant-loop-link l = l.links.items ≡ take l.link-index l.self
