pub mod OneJournal
pub mod OneSaying
pub mod CellRuns
pub mod PlacedBytes
pub mod Growing
pub mod OneStore
pub mod LawfulGroups
mod StoredExamples
pub mod PassedStates
pub mod CompleteLines
mod DueExamples
mod AnswerExamples
mod NameExamples
mod RoomExamples
mod GroupExamples
mod SessionExamples
pub mod WordMeanings
pub mod NoStoreMeanings
pub mod StreamMeanings
pub mod ReceiveMeanings
pub mod TurnMeanings
mod MeaningExamples
pub mod SaidBodies
pub mod Decided
pub mod ScrubLaws
pub mod StoreAnswers
pub mod AnswerLaws
pub mod WrittenGroups
pub mod WrittenLawful
pub mod ScrubDecided
pub mod LeftStores
pub mod Numbers
pub mod Betweens
pub mod ReadFronts
pub mod OnTheWay
pub mod Entries
pub mod Replay
pub mod TurnGroups
pub mod Moves
pub mod TurnOrder
pub mod Origins
pub mod PartFiles
pub mod OneSession
pub mod AllOver
pub mod FilesInTurn
pub mod TurnStates
pub mod LawfulTurns
pub mod NoneOpen
mod TurnExamples
pub mod TurnEnds
pub mod TurnStanding
pub mod TurnCells
pub mod TurnOvers
pub mod TurnHelds
pub mod TurnJoining
pub mod TurnMaking
pub mod TurnTaken
pub mod MeantByTurns
mod TurnEndExamples
