-- How files that take turns into the store of a disk are answered. This program's own.
use Rattle.std.specs.Prelude.{◌≡◌, ℕ, List, [], ◌++◌, length, map}
use Rattle.send_model.specs.Store.{Store}
use Rattle.send_model.specs.Receive.{byte_cells}
use Rattle.send_model.specs.Headline.{IsProperFrontOf}
use Rattle.send_model.specs.Due.{DoneWhole, RefusedAt}
use Rattle.send_model.specs.Due as files_due
use Rattle.send_model.specs.Answer.{Done, Refused, Usage, InputFault, OutputFault, NoMemory, InputTooLong, TooMuch, InputChanged}
use Rattle.store_model.specs.Image.{limit_of, front_of, HasGroups}
use Rattle.store_model.specs.Stored.{body_bytes, StandsFor, StandsForNone}
use Rattle.store_model.specs.Dues as dues
use Rattle.store_model.specs.Dues.{Due, Ends}
use Rattle.store_model.specs.Requests.{ByImage}
use Rattle.store_model.specs.Answers.{Answer, OfAnyWord, StoreFault, NotStore, Missing, LogFull, StoreThere, Damaged}
use Rattle.store_model.specs.Turns.{Event, Turns, at_entry, lines_of, turn_groups, turns_of}
use Rattle.store_model.specs.TurnLaws.{IsTurnState, AreOneByOne}
use Rattle.store_model.specs.TurnDues.{InTurns, files_read, sessions_of, room_of, TurnsEnd, all_turns, interleave_end}

module _ (turns : InTurns) where
  -- All turns, up to the limit of the files' lengths.
  abbrev pub taken_turns : Store ℕ → Turns ℕ
  taken_turns store =
      turns_of store turns.schedule (files_read 1 turns.files) turns.guards turns.shares

  -- The end that is due over an image that stands for a store.
  abbrev pub end_over : (before : List ℕ) (store : Store ℕ) → StandsFor before store → TurnsEnd
  end_over before store stands =
      interleave_end
      (room_of (limit_of stands.header)
      (length (front_of stands.header (map body_bytes stands.groups)))) store turns

  -- Behind the groups that were there stand those of some first events, and the image stands for
  -- the store that they make: it is one after some first turns, or after these and the completion
  -- of the next one; and the parts that completed are there as if they had been received one after
  -- the other.
  pub record IsMadeBy (before : List ℕ) (store : Store ℕ) (events : List Event)
      (image : List ℕ) : Type 0 where
    pub stands : StandsFor before store
    pub groups : HasGroups stands.header
        (map body_bytes (stands.groups ++ turn_groups events)) image
    pub now : Store ℕ
    pub is : StandsFor image now
    pub state : let sessions =
        sessions_of turns.files turns.guards turns.shares in
        IsTurnState 0 byte_cells (at_entry store sessions) (all_turns turns.schedule sessions) now
    pub order : AreOneByOne 0 byte_cells store events now

  -- The turns are on the way: some first events were done, and each part is complete of whose line
  -- something was written.
  pub record IsOnTurnWay (before : List ℕ) (store : Store ℕ) (written image : List ℕ) : Type 0 where
    pub first : List Event
    pub more : List Event
    pub all : (taken_turns store).events ≡ first ++ more
    pub made : IsMadeBy before store first image
    pub unwritten : List ℕ
    pub lines : lines_of first ≡ written ++ unwritten

  -- All lines that the turns print.
  abbrev pub taken_lines : Store ℕ → List ℕ
  taken_lines store = lines_of (taken_turns store).events

  -- What is due, with its lines, and the image with its groups.
  pub record IsEndDue (before : List ℕ) (store : Store ℕ) (due : Due)
      (written image : List ℕ) : Type 0 where
    pub stands : StandsFor before store
    pub is : (end_over before store stands).due ≡ due
    pub lines : written ≡ lines_of (end_over before store stands).events
    pub made : IsMadeBy before store (end_over before store stands).events image

  abbrev pub TurnsDue : (before : List ℕ) → Due → (written image : List ℕ) → Type 0
  TurnsDue before due written image =
      (store : Store ℕ) × StandsFor before store × IsEndDue before store due written image

  abbrev pub TurnsBefore : (before written image : List ℕ) → Type 0
  TurnsBefore before written image =
      ByImage before (λ store. IsOnTurnWay before store written image)
      ((written ≡ []) × (image ≡ before))

  -- The store is opened before a file is read, so there is one where an input failed.
  abbrev pub TurnsInput : (before written image : List ℕ) → Type 0
  TurnsInput before written image =
      ByImage before (λ store. IsOnTurnWay before store written image) ⊥

  abbrev pub TurnsCut : (before written image : List ℕ) → Type 0
  TurnsCut before written image =
      ByImage before
      (λ store. IsOnTurnWay before store written image
      × IsProperFrontOf (taken_lines store) written) ⊥

  -- An answer that words, files and image decide is the one that is due. Else an object of the
  -- outside failed, or there was no memory.
  abbrev pub TurnsAnswer : (before : List ℕ) → Answer → (written image : List ℕ) → Type 0
  TurnsAnswer before (OfAnyWord Done) written image = TurnsDue before (Ends DoneWhole) written image
  TurnsAnswer before (OfAnyWord (Refused verdict)) written image =
      TurnsDue before (Ends (RefusedAt verdict)) written image
  TurnsAnswer before (OfAnyWord (InputTooLong file)) written image =
      TurnsDue before (Ends (files_due.TooLong file)) written image
  TurnsAnswer before (LogFull end wanted limit) written image =
      TurnsDue before (dues.LogFull end wanted limit) written image
  TurnsAnswer before (NotStore group) written image =
      StandsForNone before group × (written ≡ []) × (image ≡ before)
  TurnsAnswer before (OfAnyWord InputFault) written image = TurnsInput before written image
  TurnsAnswer before (OfAnyWord NoMemory) written image = TurnsBefore before written image
  TurnsAnswer before StoreFault written image = TurnsBefore before written image
  TurnsAnswer before (OfAnyWord OutputFault) written image = TurnsCut before written image
  TurnsAnswer before (OfAnyWord (TooMuch sum)) written image = ⊥
  TurnsAnswer before (OfAnyWord (InputChanged file place)) written image = ⊥
  TurnsAnswer before (OfAnyWord Usage) written image = ⊥
  TurnsAnswer before (Missing what) written image = ⊥
  TurnsAnswer before (StoreThere size) written image = ⊥
  TurnsAnswer before (Damaged group stored computed) written image = ⊥
