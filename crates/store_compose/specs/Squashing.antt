-- What squashing a file over a store means. This program's own.
use Rattle.std.specs.Prelude.{ℕ, List, [], ◌∷◌}
use Rattle.send_model.specs.Overridden.{Override}
use Rattle.program_model.specs.FileWords.{GivenFiles}
use Rattle.program_model.specs.Answers.{Meaning, of_store, squashed_over, read_as}

-- One file, with what is said in front of it.
abbrev pub given_once : (name : List ℕ) → Override → GivenFiles
given_once name said = record { files = name ∷ []; overrides = said ∷ [] }

-- What each answer says, over the image of the store and the bytes of the file.
abbrev pub squashed_in : (image name : List ℕ) → Override → (bytes : List (List ℕ)) → Meaning
squashed_in image name said bytes = of_store image (squashed_over (read_as (given_once name said) bytes))
