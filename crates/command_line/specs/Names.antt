-- The names of files among words.
use Rattle.std.specs.Prelude.{ℕ, zero, suc, Bool, not, List, [], ◌∷◌, Option, None, Some}
use Rattle.std.specs.List.{filter, slice_get}
use denote.Ref.{Bor}
use Rattle.send_model.specs.Guards.{is_guard_word}
use Rattle.program_model.specs.FileWords.{stands_in_front}
use Rattle.command_line.specs.declared.file_names.Among.{Among}
use Rattle.command_line.specs.declared.file_names.Among.TheVariants as among

-- Whether a word names a file: it does not stand in front of one.
abbrev pub names_file : Among → List ℕ → Bool
names_file among.Sayings word = not (stands_in_front word)
names_file among.Guards word = not (is_guard_word word)

abbrev pub names_in : Among → List (List ℕ) → List (List ℕ)
names_in among words = filter (names_file among) words

abbrev pub lone_name : Option (Bor (List ℕ)) → List (List ℕ)
lone_name None = []
lone_name (Some name) = name.now ∷ []

-- The name of a number, which is counted from 1.
abbrev pub numbered : List (List ℕ) → ℕ → Option (List ℕ)
numbered names zero = None
numbered names (suc number) = slice_get names number
