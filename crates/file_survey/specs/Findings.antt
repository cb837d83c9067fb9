-- What is found out of files that are read for their heads and versions, and why they can not be
-- read on.
use Rattle.std.specs.Prelude.{◌≡◌, ◌⊎◌, ⊤, ℕ, ◌==◌, Bool, true, false, List, [], ◌∷◌, ◌++◌, map, Option, None, Some, Result, Ok, Err, if◌then◌else◌}
use Rattle.std.specs.List.{AllByRecursion, list_any, flat_map}
use Rattle.send_model.specs.Command.{Command}
use Rattle.send_model.specs.Reading as reading
use Rattle.send_model.specs.Reading.{Item, Whole, Faulty, is_version, reads, input}
use Rattle.send_model.specs.Store.{Head, head_of}
use Rattle.send_model.specs.Receive.{first_of}
use Rattle.send_model.specs.Order.{heads, commands_of}
use Rattle.send_model.specs.Outside.{part_uuids, is_among, keys_named}
use Rattle.send_model.specs.Composed.{last_head, version_of}
use Rattle.send_model.specs.Laws.{CanWrite}
use Rattle.send_model.specs.Lengths.{is_too_long, too_long}
use Rattle.send_model.specs.Overridden.{Override, Overrides, overridden_as, overridden}
use Rattle.send_commands.specs.declared.command.Command as made
use Rattle.send_commands.specs.Meaning.{meaning_of}
use Rattle.sx_base.specs.declared.outcome.Outcome.{Outcome}
use Rattle.sx_base.specs.declared.outcome.Outcome.TheVariants as ended

-- ---- what is known

-- The uuids of the parts, in the order of their heads; the uuids that the commands name as those of
-- parents and of sources of clones, each once, in the order in which each is first named; the
-- version of the stream that stands for the parts; and the head of the last part, where there is
-- one.
pub record Surveyed : Type 0 where
  pub parts : List (List ℕ)
  pub named : List (List ℕ)
  pub version : ℕ
  pub last : Option Head

-- Before the first command.
abbrev pub nothing_seen : Surveyed
nothing_seen = record { parts = []; named = []; version = 1; last = None }

-- The versions that are written.
abbrev pub IsOutput : ℕ → Type 0
IsOutput version = (version ≡ 1) ⊎ (version ≡ 2)

-- Where there is no last head there are no parts.
abbrev pub KnowsParts : Option Head → List (List ℕ) → Type 0
KnowsParts None parts = parts ≡ []
KnowsParts (Some head) parts = ⊤

-- The uuid of a head, where there is one.
abbrev pub uuid_in : Option Head → List (List ℕ)
uuid_in None = []
uuid_in (Some head) = head.key.uuid ∷ []

-- Uuids, and then those of others that are not among them yet.
abbrev pub joined_by : List (List ℕ) → List (List ℕ) → List (List ℕ)
joined_by known [] = known
joined_by known (uuid ∷ uuids) =
    joined_by (if is_among known uuid then known else (known ++ uuid ∷ [])) uuids

-- The uuids of the keys that a command names, and that commands name.
abbrev pub uuids_named : Command → List (List ℕ)
uuids_named command = map (λ key. key.uuid) (keys_named command)

abbrev pub all_uuids_named : List Command → List (List ℕ)
all_uuids_named commands = flat_map uuids_named commands

-- What there is of an option, as a list.
abbrev pub in_list : {A : Type 0} → Option A → List A
in_list None = []
in_list (Some x) = x ∷ []

-- With a head, if there is one, with uuids that are named, and with a version.
abbrev pub with_head : Surveyed → Option Head → Surveyed
with_head now head = record now { parts = now.parts ++ uuid_in head; last = first_of head now.last }

abbrev pub with_named : Surveyed → List (List ℕ) → Surveyed
with_named now uuids = record now { named = joined_by now.named uuids }

abbrev pub with_version : Surveyed → ℕ → Surveyed
with_version now version = record now { version = if version == 2 then 2 else now.version }

-- After a command of a stream of this version.
abbrev pub after_command : Surveyed → ℕ → Command → Surveyed
after_command now version command =
    with_version (with_named (with_head now (head_of command)) (uuids_named command)) version

-- The same where the command was made only if it is a head or names a key.
abbrev pub seen_head : Option made.Command → Option Head
seen_head None = None
seen_head (Some command) = head_of (meaning_of command)

abbrev pub seen_named : Option made.Command → List (List ℕ)
seen_named None = []
seen_named (Some command) = uuids_named (meaning_of command)

abbrev pub after_glance : Surveyed → ℕ → Option made.Command → Surveyed
after_glance now version mention =
    with_version (with_named (with_head now (seen_head mention)) (seen_named mention)) version

-- After items.
abbrev pub after_items : Surveyed → List Item → Surveyed
after_items now items = record {
  parts = now.parts ++ part_uuids items;
  named = joined_by now.named (all_uuids_named (commands_of items));
  version = if list_any (λ item. item.version == 2) items then 2 else now.version;
  last = first_of (last_head (heads items)) now.last;
}

-- Each item has a version that is read, which can say its command.
abbrev pub AreReadable : List Item → Type 0
AreReadable items =
    AllByRecursion
    (λ item. CanWrite item.version item.command × (is_version item.version ≡ true)) items

-- ---- one file

-- A reading ends whole, or at a fault.
abbrev pub EndIs : Bool → reading.Ending → Type 0
EndIs true ending = ending ≡ Whole
EndIs false ending = (verdict : reading.Verdict) × (ending ≡ Faulty verdict)

-- All commands of a file were read, up to its end or to a fault, and it is not too long. What is
-- known is what they say with what is said in front of the file.
pub record FileRead (file : ℕ) (said : Override) (whole : Bool) (old new : Surveyed)
    (bytes : List ℕ) : Type 0 where
  pub items : List Item
  pub ending : reading.Ending
  pub read : reads file bytes ≡ record { items = items; end = ending }
  pub end_is : EndIs whole ending
  pub writable : AreReadable (map (overridden_as said) items)
  pub seen : new ≡ after_items old (map (overridden_as said) items)
  pub fits : is_too_long file bytes ≡ false

-- Why a file could not be read.
abbrev pub FileStop : ℕ → Outcome → List ℕ → Type 0
FileStop file ended.NoMemory bytes = ⊤
FileStop file ended.InputFault bytes = ⊤
FileStop file (ended.InputTooLong number) bytes = (number ≡ file) × (is_too_long file bytes ≡ true)
FileStop file ended.Done bytes = ⊥
FileStop file (ended.Refused verdict) bytes = ⊥
FileStop file ended.OutputFault bytes = ⊥
FileStop file (ended.TooMuch sum) bytes = ⊥
FileStop file (ended.InputChanged number place) bytes = ⊥

abbrev pub FileEnd : ℕ → Override → Surveyed → Surveyed → Result Bool Outcome → List ℕ → Type 0
FileEnd file said old new (Ok whole) bytes = FileRead file said whole old new bytes
FileEnd file said old new (Err outcome) bytes = FileStop file outcome bytes

-- ---- all files

-- What is known is what holds of all that the files are read as, with what is said in front of
-- them, and none of them is too long.
pub record AllRead (names : Overrides) (seen : Surveyed) (files : List (List ℕ)) : Type 0 where
  pub last : seen.last ≡ last_head (heads (overridden names (input files)).items)
  pub parts : seen.parts ≡ part_uuids (overridden names (input files)).items
  pub named : seen.named
      ≡ joined_by [] (all_uuids_named (commands_of (overridden names (input files)).items))
  pub version : seen.version ≡ version_of (overridden names (input files)).items
  pub writable : AreReadable (overridden names (input files)).items
  pub fits : too_long files ≡ None

-- Why files could not be read. InputTooLong gives the first that is too long.
abbrev pub SurveyStop : Outcome → List (List ℕ) → Type 0
SurveyStop ended.NoMemory files = ⊤
SurveyStop ended.InputFault files = ⊤
SurveyStop (ended.InputTooLong number) files = too_long files ≡ Some number
SurveyStop ended.Done files = ⊥
SurveyStop (ended.Refused verdict) files = ⊥
SurveyStop ended.OutputFault files = ⊥
SurveyStop (ended.TooMuch sum) files = ⊥
SurveyStop (ended.InputChanged number place) files = ⊥

abbrev pub SurveyEnd : Overrides → Result Surveyed Outcome → List (List ℕ) → Type 0
SurveyEnd names (Ok seen) files = AllRead names seen files
SurveyEnd names (Err outcome) files = SurveyStop outcome files
