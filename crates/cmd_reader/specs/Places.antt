-- What is found out of a file that is read.
use Rattle.std.specs.Prelude.{◌≡◌, List, ℕ, take, Option, None, Some, ⊤}
use Rattle.send_model.specs.Lengths.{limit}
use Rattle.sx_base.specs.Outside.{file_at}

-- What a reader finds out about a named file, where the inputs tell their files. It looks at no
-- byte behind the limit, so it finds the same of each file that has the same bytes before it.
abbrev pub IfTold : Option (List (List ℕ × List ℕ)) → List ℕ → (List ℕ → Type 0) → Type 0
IfTold None name P = ⊤
IfTold (Some files) name P =
    (file : List ℕ) → take limit file ≡ take limit (file_at files name) → P file
