-- The words of contracts unpacked: what they speak of part by part, as the lemmas name it.
use Rattle.std.specs.Prelude.{ℕ, List, Option, Result}
use Rattle.send_model.specs.Overridden.{Override}
use Rattle.send_model.specs.Command.{Command}
use Rattle.send_model.specs.Store.{Key, Store}
use Rattle.send_model.specs.Provenance.{Traced}
use Rattle.send_model.specs.Reading.{Item, Reading}
use Rattle.sx_base.specs.declared.outcome.Outcome.{Outcome}
use Rattle.sx_base.specs.Causes.{counts}
use Rattle.clone_pieces.specs.Sending as sending
use Rattle.clone_pieces.specs.Redirecting as redirecting
use Rattle.clone_pieces.specs.declared.stops.SendStop.{SendStop}
use Rattle.file_survey.specs.Findings.{Surveyed}
use Rattle.file_survey.specs.declared.places.Place.{Place}
use Rattle.composer.specs.OverBase.{Plan, Composing}
use Rattle.composer.specs.Kept.{Kept}
use Rattle.composer.specs.Reached.{over, one_file, reached}
use Rattle.composer.specs.Adding as adding
use Rattle.composer.specs.Taking as taking
use Rattle.composer.specs.Files as filing

abbrev output : Option (List ℕ) → List ℕ → ℕ → sending.Output
output taken pending faults = record { taken = taken; pending = pending; faults = faults }

abbrev pub PutEnd : (out_old out_new : Option (List ℕ)) (old new bytes : List ℕ) (before now : ℕ) → Result (Unit {0}) SendStop → Type 0
PutEnd out_old out_new old new bytes before now result = sending.PutEnd (output out_old old before) (output out_new new now) bytes result

abbrev pub RedirectCaused : (e0 e1 i0 i1 before now : ℕ) → Result (Unit {0}) SendStop → Type 0
RedirectCaused e0 e1 i0 i1 before now result = redirecting.RedirectCaused (counts e0 i0 before) (counts e1 i1 now) result

abbrev pub ErrCausedAgain : {T : Type 0} → (e0 e1 i0 i1 before now : ℕ) → Result T Outcome → Type 0
ErrCausedAgain e0 e1 i0 i1 before now result = taking.ErrCausedAgain (counts e0 i0 before) (counts e1 i1 now) result

-- ---- what a command adds

abbrev pub Adds : (more : ℕ) (bytes : List ℕ) (old new : Kept) (out_old out_new : Option (List ℕ)) → Result (Unit {0}) Outcome → Type 0
Adds more bytes old new out_old out_new result = adding.Adds (record { uncarried = more; bytes = bytes }) (reached old out_old) (reached new out_new) result

abbrev pub AddsCommand : (base : Store ℕ) (survey : Surveyed) (last : Key) (now : Composing) (command : Command) (old new : Kept) (out_old out_new : Option (List ℕ)) → Result (Unit {0}) Outcome → Type 0
AddsCommand base survey last now command old new out_old out_new result = adding.Adds (adding.addition (filing.plan_with base survey) last now command) (reached old out_old) (reached new out_new) result

abbrev pub AddEnd : (files : List (List ℕ)) (base : Store ℕ) (survey : Surveyed) (last : Key) (old new : Kept) (command : Command) (out_old out_new : Option (List ℕ)) → Result (Unit {0}) Outcome → Type 0
AddEnd files base survey last old new command out_old out_new result = adding.AddEnd (over files (filing.plan_with base survey)) last command (reached old out_old) (reached new out_new) result

abbrev pub AddsRange : (base : Store ℕ) (version : ℕ) (path : List ℕ) (offset : ℕ) (range : List Traced) (old new : Kept) (out_old out_new : Option (List ℕ)) → Result (Unit {0}) Outcome → Type 0
AddsRange base version path offset range old new out_old out_new result = adding.Adds (adding.range_addition base version path offset range) (reached old out_old) (reached new out_new) result

-- ---- how an item, and a run, ends

abbrev pub ItemEnd : (files : List (List ℕ)) (plan : Plan) (old new : Kept) (item : Item) (out_old out_new : Option (List ℕ)) → Result (Unit {0}) Outcome → Type 0
ItemEnd files plan old new item out_old out_new result = taking.ItemEnd (over files plan) item (reached old out_old) (reached new out_new) result

abbrev pub AllOut : (pending left : List ℕ) (out_old out_new : Option (List ℕ)) (before now : ℕ) → Type 0
AllOut pending left out_old out_new before now = taking.AllOut (output out_old pending before) (output out_new left now)

abbrev pub StopEnd : (pending left : List ℕ) (out_old out_new : Option (List ℕ)) (before now : ℕ) (outcome result : Outcome) → Type 0
StopEnd pending left out_old out_new before now outcome result = taking.StopEnd (output out_old pending before) (output out_new left now) outcome result

-- ---- how a file ends

abbrev pub FileTaken : (files : List (List ℕ)) (plan : Plan) (file : ℕ) (given : Override) (old new : Kept) (out_old out_new : Option (List ℕ)) (before place : Place) (bytes : List ℕ) → Type 0
FileTaken files plan file given old new out_old out_new before place bytes = filing.FileTaken (over files plan) (one_file file given bytes) (reached old out_old) (reached new out_new) before place

abbrev pub FileWhy : (plan : Plan) (file : ℕ) (given : Override) (now : Composing) (rest : Reading) (outcome : Outcome) (bytes : List ℕ) → Type 0
FileWhy plan file given now rest outcome bytes = filing.FileWhy plan (one_file file given bytes) now rest outcome

abbrev pub FileStops : (files : List (List ℕ)) (plan : Plan) (file : ℕ) (given : Override) (old : Kept) (out_old out_new : Option (List ℕ)) (outcome : Outcome) (bytes : List ℕ) → Type 0
FileStops files plan file given old out_old out_new outcome bytes = filing.FileStops (over files plan) (one_file file given bytes) (reached old out_old) out_new outcome
