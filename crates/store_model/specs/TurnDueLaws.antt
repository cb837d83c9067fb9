-- What is due to turns, against the turns themselves. This program's own.
use Rattle.std.specs.Prelude.{◌≡◌, ◌⊎◌, ℕ, false, List, ◌++◌, map}
use Rattle.std.specs.List.{AllByRecursion}
use Rattle.send_model.specs.Attribute.{IsBytes}
use Rattle.send_model.specs.Store.{Store}
use Rattle.send_model.specs.Due as files_due
use Rattle.send_model.specs.Due.{TooLong, refused_due}
use Rattle.store_model.specs.Image.{HasGroups}
use Rattle.store_model.specs.Stored.{body_bytes, StandsFor}
use Rattle.store_model.specs.Dues.{Ends, LogFull}
use Rattle.store_model.specs.Turns.{Event, lines_of, turn_groups}
use Rattle.store_model.specs.TurnLaws.{AreInTurn}
use Rattle.store_model.specs.TurnDues.{InTurns, files_read, which_long, sessions_of, Room, interleave_end}
use Rattle.store_model.specs.TurnAnswers.{taken_turns, IsMadeBy, TurnsDue}

-- The events until the end that is due are the first of all turns.
abbrev pub EndIsFront : Type 0
EndIsFront = (room : Room) (store : Store ℕ) (turns : InTurns)
    → (more : List Event)
    × ((taken_turns turns store).events ≡ (interleave_end room store turns).events ++ more)

-- The answer is what the turns leave: the verdict on the session that was refused first, or that
-- all was done; unless there is no room, or a file is too long.
abbrev pub EndIsTaken : Type 0
EndIsTaken = (room : Room) (store : Store ℕ) (turns : InTurns) → let end =
    interleave_end room store turns in let taken = taken_turns turns store in
    ((end.due ≡ Ends (refused_due taken.refused)) × (end.events ≡ taken.events))
    ⊎ (((file : ℕ) × (end.due ≡ Ends (TooLong file)))
    ⊎ ((place : ℕ) × (wanted : ℕ) × (end.due ≡ LogFull place wanted room.most)))

-- Where no file is too long, all of them are read.
abbrev pub ShortAreRead : Type 0
ShortAreRead =
    (number : ℕ) (files : List (List ℕ))
    → AllByRecursion (λ long. long ≡ false) (which_long number files)
    → files_read number files ≡ files

-- An image that has the groups of some first events behind those of a store stands for what they
-- make.
abbrev pub FirstEventsStand : Type 0
FirstEventsStand =
    (before image : List ℕ) (store : Store ℕ) (turns : InTurns) (first more : List Event)
    → AllByRecursion IsBytes turns.files → (stands : StandsFor before store)
    → (taken_turns turns store).events ≡ first ++ more
    → HasGroups stands.header (map body_bytes (stands.groups ++ turn_groups first)) image
    → IsMadeBy turns before store first image

-- After the answer that all was done, or that a session was refused, all turns were taken: all
-- their lines were written, the image stands for the store that they leave, and the files were
-- received in turn.
pub record HasTaken (turns : InTurns) (before : List ℕ) (due : files_due.Due)
    (written image : List ℕ) : Type 0 where
  pub store : Store ℕ
  pub stood : StandsFor before store
  pub answer : due ≡ refused_due (taken_turns turns store).refused
  pub lines : written ≡ lines_of (taken_turns turns store).events
  pub stands : StandsFor image (taken_turns turns store).store
  pub order : AreInTurn store (sessions_of turns.files turns.guards turns.shares)
      (taken_turns turns store)

abbrev pub EndsAreTaken : Type 0
EndsAreTaken = (before written image : List ℕ) (turns : InTurns) (due : files_due.Due)
    → AllByRecursion IsBytes turns.files → ((file : ℕ) → due ≡ TooLong file → ⊥)
    → TurnsDue turns before (Ends due) written image
    → HasTaken turns before due written image
