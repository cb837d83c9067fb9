-- A line that is made field by field.
use Rattle.std.specs.Prelude.{◌≡◌, ℕ, List, ◌++◌}
use Rattle.std.proofs.Common.{ap, ◌∙◌, append_assoc}

-- One field more behind those that stand there.
pub more : (to done field meant mid now : List ℕ) → field ≡ meant → mid ≡ to ++ done → now ≡ mid ++ field → now ≡ to ++ (done ++ meant)
more to done field meant mid now same is next = next ∙ ap (λ (l : List ℕ). l ++ field) is ∙ append_assoc to done field ∙ ap (λ (l : List ℕ). to ++ (done ++ l)) same
