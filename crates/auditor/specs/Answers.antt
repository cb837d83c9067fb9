-- What the calls of an audit answer: of one command, of one file and of all files.
use Rattle.std.specs.Prelude.{◌≡◌, ⊤, ℕ, List, [], ◌∷◌, ◌++◌, length, codes, None, Some, Option, Result, Ok, Err}
use Rattle.std.specs.Io.KnownBytes.{Appends}
use Rattle.std.specs.Fmt.{decimal}
use Rattle.send_model.specs.Reading.{Item, input}
use Rattle.send_model.specs.Store.{Store, After}
use Rattle.send_model.specs.Guards.{Guard}
use Rattle.send_model.specs.Order.{heads}
use Rattle.send_model.specs.Headline.{IsProperFrontOf}
use Rattle.send_model.specs.Due.{Due, DoneWhole, RefusedAt, TooLong, limited_from, audit_due_of, accepted_line_of}
use Rattle.send_model.specs.Words.{Audit}
use Rattle.send_model.specs.Overridden.{Override, Overrides, overridden, overridden_limited}
use Rattle.send_model.specs.Sources.{EndSaysOf}
use Rattle.part_names.specs.Overriding.{sources_with}
use Rattle.sx_base.specs.Causes.{Rose}
use Rattle.sx_base.specs.Outside.{AppendsPart}
use Rattle.sx_base.specs.Calls.{EndsAs}
use Rattle.sx_base.specs.declared.outcome.Outcome.{Outcome}
use Rattle.sx_base.specs.declared.outcome.Outcome.TheVariants as ended
use Rattle.sx_base.specs.declared.stop.Stop.{Stop}
use Rattle.sx_base.specs.declared.stop.Stop.TheVariants as why
use Rattle.sx_base.specs.Refusals.{refusal_of, verdict_meant}
use Rattle.clone_resolve.specs.Steps.{done_by}
use Rattle.clone_resolve.specs.declared.done.Done.{Done}
use Rattle.clone_resolve.specs.declared.done.Done.TheVariants as did
use Rattle.auditor.specs.declared.counts.Counts.{Counts}
use Rattle.auditor.specs.declared.counts.Totals.{Totals}
use Rattle.auditor.specs.Following.{Followed, follow, AreAccepted, due_from_here, read_with, file_read, read_whole}

-- An outcome that ends an audit early is the answer that is due. Nothing is said where the inputs
-- failed or there is no memory.
abbrev pub Stops : Due → Outcome → Type 0
Stops the_due (ended.Refused verdict) = the_due ≡ RefusedAt (verdict_meant verdict)
Stops the_due (ended.InputTooLong file) = the_due ≡ TooLong file
Stops the_due (ended.TooMuch sum) = ⊥
Stops the_due (ended.InputChanged file place) = ⊥
Stops the_due ended.InputFault = ⊤
Stops the_due ended.NoMemory = ⊤
Stops the_due ended.OutputFault = ⊥
Stops the_due ended.Done = ⊥

-- ---- one command

-- A command is accepted, or refused for the reason that is due. Nothing is said where there is no
-- memory.
abbrev pub Follows : Result Done Stop → Followed → Item → After Followed → Type 0
Follows (Ok done) new item after =
    (after ≡ record { state = new; refusal = None }) × (done ≡ done_by item.command)
Follows (Err (why.Refused refusal)) new item after = after.refusal ≡ Some (refusal_of refusal)
Follows (Err why.NoMemory) new item after = ⊤

-- An outcome that ends an audit at a command is its refusal, or there is no memory.
abbrev pub ItemStops : Due → Outcome → Type 0
ItemStops the_due (ended.Refused verdict) = the_due ≡ RefusedAt (verdict_meant verdict)
ItemStops the_due ended.NoMemory = ⊤
ItemStops the_due (ended.InputTooLong file) = ⊥
ItemStops the_due (ended.TooMuch sum) = ⊥
ItemStops the_due (ended.InputChanged file place) = ⊥
ItemStops the_due ended.InputFault = ⊥
ItemStops the_due ended.OutputFault = ⊥
ItemStops the_due ended.Done = ⊥

-- A command is accepted, or it is refused with the verdict at its place.
abbrev pub ItemEnds : Followed → Followed → Item → Result Done Outcome → Type 0
ItemEnds old new item (Ok done) =
    (follow old item ≡ record { state = new; refusal = None }) × (done ≡ done_by item.command)
ItemEnds old new item (Err outcome) = ItemStops (due_from_here old (read_whole (item ∷ []))) outcome

-- ---- one file

-- How many parts a command begins.
abbrev pub parts_begun : Done → ℕ
parts_begun did.Began = 1
parts_begun did.Edited = 0
parts_begun did.Ended = 0

-- So many heads and commands.
pub record AreCounted (parts commands : ℕ) (items : List Item) : Type 0 where
  pub parts_are : parts ≡ length (heads items)
  pub commands_are : commands ≡ length items

-- All commands of a file are accepted, and counted, with what is said in front of it.
pub record FileAccepted (said : Override) (file : ℕ) (old new : Followed) (counts : Counts)
    (bytes : List ℕ) : Type 0 where
  pub items : List Item
  pub read : read_with said (file_read file bytes) ≡ read_whole items
  pub all : AreAccepted old items new
  pub counted : AreCounted counts.parts counts.commands items

abbrev pub FileEnds : Override → ℕ → Followed → Followed → Result Counts Outcome → List ℕ → Type 0
FileEnds said file old new (Ok counts) bytes = FileAccepted said file old new counts bytes
FileEnds said file old new (Err outcome) bytes =
    Stops (due_from_here old (read_with said (file_read file bytes))) outcome

-- ---- all files

-- All commands of the files, with what is said in front of them, are accepted, and counted.
pub record AllAccepted (overrides : Overrides) (start : Followed) (totals : Totals)
    (files : List (List ℕ)) : Type 0 where
  pub done : due_from_here start (overridden_limited overrides (limited_from 1 files)) ≡ DoneWhole
  pub counted : AreCounted totals.parts totals.commands (overridden overrides (input files)).items

abbrev pub AllEnd : Overrides → Followed → Result Totals Outcome → List (List ℕ) → Type 0
AllEnd overrides start (Ok totals) files = AllAccepted overrides start totals files
AllEnd overrides start (Err outcome) files =
    Stops (due_from_here start (overridden_limited overrides (limited_from 1 files))) outcome

-- ---- the line

-- `accepted PARTS COMMANDS`.
abbrev pub accepted_text : ℕ → ℕ → List ℕ
accepted_text parts commands =
    codes "accepted " ++ decimal parts ++ 0x20 ∷ decimal commands ++ 0x0a ∷ []

-- All of a text was written, or a part of it where the output failed, or none where there is no
-- memory.
abbrev pub WritesLine : List ℕ → Option (List ℕ) → Option (List ℕ) → ℕ → ℕ → Outcome → Type 0
WritesLine text old new before now ended.Done = Appends old new text
WritesLine text old new before now ended.OutputFault = Rose before now × AppendsPart old new text
WritesLine text old new before now ended.NoMemory = Appends old new []
WritesLine text old new before now ended.InputFault = ⊥
WritesLine text old new before now (ended.Refused verdict) = ⊥
WritesLine text old new before now (ended.InputTooLong file) = ⊥
WritesLine text old new before now (ended.TooMuch sum) = ⊥
WritesLine text old new before now (ended.InputChanged file place) = ⊥

-- ---- the whole call

-- The outcome is the answer that is due to an audit of the files, with the overrides that are
-- given, over a store, under guards, and what was written stands with it: the line where all is
-- accepted, a proper front part of it where the output failed then, and else nothing.
abbrev pub AuditEnds : Store ℕ → List Guard → Overrides → List (List ℕ) → Outcome → List ℕ → Type 0
AuditEnds store guards overrides files outcome written =
    EndsAs (audit_due_of store guards (overridden_limited overrides (limited_from 1 files)))
    (EndSaysOf (Audit [] 0 0) store (sources_with overrides files)) (λ w. w ≡ [])
    (λ w. (audit_due_of store guards (overridden_limited overrides (limited_from 1 files))
    ≡ DoneWhole)
    × IsProperFrontOf (accepted_line_of (overridden overrides (input files)).items) w)
    outcome written
