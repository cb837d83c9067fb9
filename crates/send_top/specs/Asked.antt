-- What words and guards ask for is answered. This program's own.
use Rattle.std.specs.Prelude.{◌≡◌, ◌⊎◌, List, ℕ, Some}
use Rattle.send_model.specs.Guards.{Guard}
use Rattle.send_model.specs.Words.{new_guards}
use Rattle.program_model.specs.Answers.{Answer, Usage}
use Rattle.program_model.specs.Profiles.{profile}
use Rattle.program_model.specs.Requests.{Request, request_in}
use Rattle.request_answers.specs.Objects.{Objects}
use Rattle.request_answers.specs.Promises.{Answers}

-- Words and guards ask for nothing, and nothing was asked of any object.
pub record AskNothing (objects : Objects) (words : List (List ℕ)) (guards : List Guard)
    (answer : Answer) : Type 0 where
  pub usage : answer ≡ Usage
  pub nothing : (request : Request) → request_in words ≡ Some request
      → guards ≡ new_guards (profile request).guards → ⊥
  pub known : objects.known_after ≡ objects.known_files
  pub contents : objects.contents_after ≡ objects.contents
  pub inputs : objects.InputsSame
  pub output : objects.OutputSame
  pub disk : objects.DiskSame

-- Words and guards ask for a request, and this is what it is answered.
pub record AskFor (objects : Objects) (words : List (List ℕ)) (guards : List Guard)
    (answer : Answer) : Type 0 where
  pub request : Request
  pub meant : request_in words ≡ Some request
  pub fits : guards ≡ new_guards (profile request).guards
  pub answers : Answers objects request answer

abbrev pub IsAnswered : Objects → List (List ℕ) → List Guard → Answer → Type 0
IsAnswered objects words guards answer =
    AskNothing objects words guards answer ⊎ AskFor objects words guards answer
