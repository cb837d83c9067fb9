-- What is asked of inputs while files are composed.
use Rattle.std.specs.Prelude.{◌≡◌, ℕ, ◌+◌, ◌<◌, List, [], length, get_or, Option}
use Rattle.std.specs.List.{AllByRecursion}
use Rattle.std.proofs.Common.{refl, sym, subst, append-nil}
use Rattle.sx_base.specs.Asks.{IsAgain, AreReadOnce, IsReadOnWithRanges, IsReadWithRanges, AreReadWithRanges, AreReadTwice}
use Rattle.sx_base.specs.Later.{AskedOnly, ReadsOn}
use Rattle.sx_base.specs.declared.inputs.Inputs as reading
use Rattle.sx_base.proofs.Asking.{asked_nothing, asked_then, asked_so, once_none, ranges_none, ranges_read, ranges_again, FrontWithRanges, front_none, front_more, front_all}
use Rattle.cmd_reader.specs.Left.{Reader, at_start, read_to}

module _ {I : Type 0} (inputs : reading.Ghosts I) (names : List (List ℕ)) where
  -- ---- a file

  -- The file with this number was read as far as the reader was given it, and ranges again.
  abbrev pub FileAsked : (number : ℕ) (reader : Reader) (old now : I) → Type 0
  FileAsked number reader old now = AskedOnly inputs old now (λ asks. IsReadOnWithRanges (inputs.told old) names (get_or names number []) 0 asks (read_to reader))

  pub file_none : (number file : ℕ) (name : List ℕ) (reader : Reader) (at : I) → reader ≡ at_start file name → FileAsked number reader at at
  file_none number file name reader at fresh =
      subst (λ (r : Reader). FileAsked number r at at) (sym fresh) (asked_nothing inputs at (ranges_none (inputs.told at) names (get_or names number []) 0))

  pub file_read : (number : ℕ) (reader next : Reader) (old now new : I) → reader.name ≡ get_or names number [] → FileAsked number reader old now → ReadsOn inputs now new reader.name (read_to reader) (read_to next)
      → FileAsked number next old new
  file_read number reader next old now new name_is first on =
      asked_then inputs (λ xs ys one two. ranges_read (inputs.told old) names (get_or names number []) 0 (read_to reader) (read_to next) xs ys one two) first
      (subst (λ (name : List ℕ). ReadsOn inputs now new name (read_to reader) (read_to next)) name_is on)

  pub file_again : (number : ℕ) (reader : Reader) (old now new : I) → inputs.told now ≡ inputs.told old → FileAsked number reader old now → AskedOnly inputs now new (AllByRecursion (IsAgain (inputs.told now) names))
      → FileAsked number reader old new
  file_again number reader old now new same first again =
      asked_then inputs (λ xs ys one two. ranges_again (inputs.told old) names (get_or names number []) 0 (read_to reader) xs ys one two) first
      (subst (λ (t : Option (List (List ℕ × List ℕ))). AskedOnly inputs now new (AllByRecursion (IsAgain t names))) same again)

  pub file_all : (number : ℕ) (reader : Reader) (old now : I) → FileAsked number reader old now → AskedOnly inputs old now (IsReadWithRanges (inputs.told old) names (get_or names number []))
  file_all number reader old now asked = asked_so inputs (λ asks on. (read_to reader, on)) asked

  pub file_unread : (number : ℕ) (at : I) → AskedOnly inputs at at (IsReadWithRanges (inputs.told at) names (get_or names number []))
  file_unread number at = asked_nothing inputs at (0, ranges_none (inputs.told at) names (get_or names number []) 0)

  -- ---- the files

  -- So many of the files were read, and ranges of any of them again.
  abbrev pub FilesAsked : (number : ℕ) (old now : I) → Type 0
  FilesAsked number old now = AskedOnly inputs old now (FrontWithRanges (inputs.told old) names number)

  pub files_none : (at : I) → FilesAsked 0 at at
  files_none at = asked_nothing inputs at (front_none (inputs.told at) names)

  pub files_more : (number : ℕ) (old now new : I) → number < length names → inputs.told now ≡ inputs.told old → FilesAsked number old now → AskedOnly inputs now new (IsReadWithRanges (inputs.told now) names (get_or names number []))
      → FilesAsked (number + 1) old new
  files_more number old now new less same first asked =
      asked_then inputs (λ xs ys one two. front_more (inputs.told old) names number xs ys less one two) first
      (subst (λ (t : Option (List (List ℕ × List ℕ))). AskedOnly inputs now new (IsReadWithRanges t names (get_or names number []))) same asked)

  pub files_all : (number : ℕ) (old now : I) → FilesAsked number old now → AskedOnly inputs old now (AreReadWithRanges (inputs.told old) names)
  files_all number old now asked = asked_so inputs (λ asks front. front_all (inputs.told old) names number asks front) asked

  -- ---- once for their heads, and once more

  pub heads_none : (at : I) → AskedOnly inputs at at (AreReadTwice (inputs.told at) names)
  heads_none at = asked_nothing inputs at ([], [], refl, once_none names, record { once = once_none names; ranges = tt })

  pub heads_alone : (old now : I) → AskedOnly inputs old now (AreReadOnce names) → AskedOnly inputs old now (AreReadTwice (inputs.told old) names)
  heads_alone old now asked = asked_so inputs (λ asks once. (asks, [], sym (append-nil asks), once, record { once = once_none names; ranges = tt })) asked

  pub heads_and_all : (old now new : I) → inputs.told now ≡ inputs.told old → AskedOnly inputs old now (AreReadOnce names) → AskedOnly inputs now new (AreReadWithRanges (inputs.told now) names)
      → AskedOnly inputs old new (AreReadTwice (inputs.told old) names)
  heads_and_all old now new same first asked =
      asked_then inputs (λ xs ys one two. (xs, ys, refl, one, two)) first
      (subst (λ (t : Option (List (List ℕ × List ℕ))). AskedOnly inputs now new (AreReadWithRanges t names)) same asked)
