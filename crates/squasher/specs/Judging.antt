-- What is judged of a file before anything is written, and what is kept of its commands. This
-- program's own.
use Rattle.std.specs.Prelude.{◌≡◌, ⊤, ℕ, ◌<◌, ◌^◌, ◌++◌, true, false, List, [], ◌∷◌, map, Option, None, Some, Result, Ok, Err}
use Rattle.send_model.specs.Subvolume.{Subvolume, walk}
use Rattle.send_model.specs.Reading.{Item, Verdict}
use Rattle.send_model.specs.Store.{Store, State, Part}
use Rattle.send_model.specs.Command.{Command}
use Rattle.send_model.specs.Order.{heads_of, then_judge}
use Rattle.send_model.specs.Outside.{store_without}
use Rattle.send_model.specs.Counts.{is_end}
use Rattle.send_model.specs.Due.{Limited, limited_from}
use Rattle.send_model.specs.Cells.{recelled_store}
use Rattle.send_model.specs.Overridden.{Override, overridden_as}
use Rattle.sx_base.specs.declared.refusal.Refusal.TheVariants as reason
use Rattle.sx_base.specs.declared.outcome.Outcome.{Outcome}
use Rattle.sx_base.specs.declared.outcome.Outcome.TheVariants as ended
use Rattle.sx_base.specs.Refusals.{verdict_meant}
use Rattle.squash_model.specs.Liveness.{size_of, all_live}
use Rattle.squash_model.specs.SquashJudge as due
use Rattle.squash_model.specs.SquashJudge.{passed_with, is_second}
use Rattle.squash_log.specs.declared.change.Change.{Change}
use Rattle.squash_log.specs.declared.change.Change.TheVariants as made
use Rattle.squash_log.specs.Fates.{Fate, fates_of}
use Rattle.squash_log.specs.Resolved.{blank_step, changes_at}
use Rattle.squasher.specs.declared.judging.Judged.{Judged}
use Rattle.squasher.specs.declared.judging.Passed.{Passed}

-- The inode that a path leads to, if it leads to one.
abbrev pub walked : {C : Type 0} → Subvolume C → List ℕ → Option ℕ
walked s path = elim (walk s path) [ Err refusal ↦ None | Ok ino ↦ Some ino ]

-- Two stores that differ in their cells alone.
abbrev pub HaveSameShape : {C D : Type 0} → Store C → Store D → Type 0
HaveSameShape a b = recelled_store {D = Unit {0}} (λ c. tt) a ≡ recelled_store (λ c. tt) b

-- What is read of a file of this number, up to its end, a fault or the limit, with what is said in
-- front of it.
abbrev pub read_with : Override → ℕ → List ℕ → Limited
read_with said number bytes = record {
  items = map (overridden_as said) (limited_from number (bytes ∷ [])).items;
  stop = (limited_from number (bytes ∷ [])).stop;
}

-- ---- what a command is about to do

-- The files of a part of which a change speaks are as long as they can be.
abbrev pub IsSized : {C : Type 0} → Subvolume C → Change → Type 0
IsSized s (made.Wrote r) = r.size < 2 ^ 63
IsSized s (made.Replaced r) = r.size < 2 ^ 63
IsSized s (made.Cloned to source from) = (to.size < 2 ^ 63) × (size_of s source < 2 ^ 63)
IsSized s (made.Resized ino size new) = size < 2 ^ 63

-- ---- what is kept while a file is judged

-- What was passed, as the verdict looks at it.
abbrev pub passed_meant : Passed → due.Passed
passed_meant p = record { begun = p.begun; closed = p.closed }

abbrev pub nothing_yet : Passed
nothing_yet = record { begun = false; closed = false; version = 1; number = 0; offset = 0 }

-- What is kept: the subvolumes and the part so far without their cells, what the commands did to
-- contents, the fates once they were found, and what was passed.
pub record Sight : Type 0 where
  pub state : State (Unit {0})
  pub log : List Change
  pub fates : Option (List Fate)
  pub passed : Passed

-- The fates that are known where the part is complete.
abbrev pub fates_by : Option (Part (Unit {0})) → List Change → Option (List Fate)
    → Option (List Fate)
fates_by None log known = known
fates_by (Some part) log known = Some (fates_of log (all_live (Some part)))

abbrev pub fates_at_end : Sight → Option (List Fate)
fates_at_end s = fates_by s.state.part s.log s.fates

-- The part is complete with what comes next: its fates were found.
pub record IsClosing (old new : Sight) : Type 0 where
  pub state : new.state ≡ old.state
  pub passed : new.passed ≡ old.passed
  pub fates : new.fates ≡ fates_at_end old

-- The UUID of the subvolume that a command begins, if it is a head.
abbrev pub uuids_of : Command → List (List ℕ)
uuids_of command = map (λ head. head.key.uuid) (heads_of (command ∷ []))

-- The subvolumes of these UUIDs were taken out, and nothing else changed.
pub record IsHidden (uuids : List (List ℕ)) (old new : Sight) (own : List (List ℕ)) : Type 0 where
  pub own_is : own ≡ uuids
  pub hidden : new
      ≡ record old { state = record old.state { store = store_without uuids old.state.store } }

-- A command is taken by its step, and is no second head, nor behind END.
pub record IsStepped (old new : Sight) (item : Item) : Type 0 where
  pub stepped : blank_step old.state item.command ≡ record { state = new.state; refusal = None }
  pub first : is_second (passed_meant old.passed) item ≡ false
  pub passed : passed_meant new.passed ≡ passed_with (passed_meant old.passed) item
  pub version : new.passed.version ≡ item.version
  pub number : new.passed.number ≡ item.number
  pub offset : new.passed.offset ≡ item.offset

-- It is refused, whatever comes behind it; or there is no memory.
abbrev pub ItemStops : Sight → Item → Outcome → Type 0
ItemStops old item (ended.Refused verdict) =
    (rest : Option Verdict)
    → then_judge item (blank_step old.state item.command)
    (is_second (passed_meant old.passed) item) rest
    ≡ Some (verdict_meant verdict)
ItemStops old item ended.NoMemory = ⊤
ItemStops old item (ended.InputTooLong file) = ⊥
ItemStops old item (ended.TooMuch sum) = ⊥
ItemStops old item (ended.InputChanged file place) = ⊥
ItemStops old item ended.InputFault = ⊥
ItemStops old item ended.OutputFault = ⊥
ItemStops old item ended.Done = ⊥

abbrev pub Steps : Sight → Sight → Item → Result (Unit {0}) Outcome → Type 0
Steps old new item (Ok done) =
    IsStepped old new item × (new.log ≡ old.log) × (new.fates ≡ old.fates)
Steps old new item (Err outcome) = ItemStops old item outcome

-- And what it did is logged, or with END the fates were found.
pub record IsTaken (old new : Sight) (item : Item) : Type 0 where
  pub step : IsStepped old new item
  pub at_end : is_end item.command ≡ true → new.fates ≡ fates_at_end old
  pub before_end : is_end item.command ≡ false → new.fates ≡ old.fates
  pub logged : is_end item.command ≡ false
      → new.log ≡ old.log ++ changes_at old.state.part item.command

abbrev pub Takes : Sight → Sight → Item → Result (Unit {0}) Outcome → Type 0
Takes old new item (Ok done) = IsTaken old new item
Takes old new item (Err outcome) = ItemStops old item outcome

-- What was found out of a file that was read to its end: what is kept, or else that it has no part.
abbrev pub JudgedBy : ℕ → Sight → Result Judged Outcome → Type 0
JudgedBy file s (Ok found) =
    (s.fates ≡ Some found.fates) × (found.version ≡ s.passed.version)
    × (found.commands ≡ s.passed.number)
JudgedBy file s (Err outcome) =
    (s.fates ≡ None)
    × (outcome
    ≡ ended.Refused (record {
      file = file;
      command = s.passed.number;
      offset = s.passed.offset;
      refusal = reason.NotConsecutive;
    }))
