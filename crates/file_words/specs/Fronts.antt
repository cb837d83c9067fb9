-- What the words in front of a file say, as far as one more word has to know it. Of the definitions
-- of `program_model` alone.
use Rattle.std.specs.Prelude.{◌≡◌, ℕ, ◌==◌, Bool, false, List, length, Option, None, Some, is_some, if◌then◌else◌}
use Rattle.std.specs.List.{list_any}
use Rattle.std.specs.Str.{bytes_eq}
use Rattle.send_model.specs.Store.{Key}
use Rattle.send_model.specs.Outside.{is_among}
use Rattle.send_model.specs.NamedWords.{is_name_word}
use Rattle.send_model.specs.Overridden.{Override, says_nothing, uuids_of}
use Rattle.program_model.specs.FileWords.{given_parent}

-- A word says a parent with this UUID.
abbrev pub has_uuid : List ℕ → Option Key → Bool
has_uuid uuid None = false
has_uuid uuid (Some key) = bytes_eq key.uuid uuid

abbrev pub says_uuid : List ℕ → List ℕ → Bool
says_uuid uuid word = if is_name_word word then false else has_uuid uuid (given_parent word)

-- What some words say: a name if one of them gives one, and a UUID if one of them says it; and
-- nothing if there are none.
pub record IsSaid (words : List (List ℕ)) (said : Override) : Type 0 where
  pub name : is_some said.name ≡ list_any is_name_word words
  pub parents : (uuid : List ℕ)
      → is_among (uuids_of said.parents) uuid ≡ list_any (says_uuid uuid) words
  pub nothing : says_nothing said ≡ (length words == 0)
