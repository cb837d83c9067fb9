-- Bytes that are appended to in turns.
use Rattle.std.specs.Prelude.{ℕ, List, ◌++◌}
use Rattle.std.proofs.Common.{ap, ◌∙◌, append_assoc}
use Rattle.sx_base.specs.Bytes.{IsFront}

-- What stands in front stays there, however much comes behind it.
pub kept_then : (first now last : List ℕ) → IsFront first now → IsFront now last → IsFront first last
kept_then first now last front more = (front.0 ++ more.0, more.1 ∙ ap (λ (l : List ℕ). l ++ more.0) front.1 ∙ append_assoc first front.0 more.0)
