pub mod ChecksumLaws
pub mod ChecksumExamples
pub mod ExampleWords
pub mod ReadingExamples
mod VersionExamples
mod EditExamples
mod DueExamples
pub mod HoleExample
mod CommandExamples
mod GuardExamples
mod LineExamples
mod TableExamples
mod ComposingExamples
mod ProvenanceExamples
pub mod ElementLaws
pub mod Sorts
pub mod Runs
pub mod Guarding
mod Guarded
pub mod Stores
pub mod Merging
pub mod Composing
pub mod Frames
pub mod Attributes
pub mod Commands
pub mod Versions
pub mod Canonical
pub mod Streams
pub mod Prefixes
pub mod Endings
pub mod Headlines
pub mod CellMaps
pub mod CellEdits
pub mod PathLaws
pub mod CellSteps
pub mod CellClones
pub mod Held
pub mod Tracing
pub mod Counting
pub mod CountLaws
pub mod CountAny
pub mod PieceRuns
pub mod Redirected
pub mod SpelledPieces
pub mod Rewriting
pub mod Carrying
pub mod FirstPaths
pub mod LeastPaths
pub mod LawfulPaths
pub mod Overwriting
pub mod Fuel
pub mod Judging
pub mod Writing
pub mod Composed
pub mod Sound
pub mod ReadSpelled
pub mod DataPlaces
pub mod MapLaws
pub mod WalkLaws
pub mod Soundness
pub mod SoundRemovals
pub mod SoundChanges
pub mod SoundEdits
pub mod SoundRenames
pub mod Keeping
pub mod Fronts
pub mod TracedBase
pub mod Naming
pub mod Elsewhere
pub mod MergingClones
pub mod MergingAny
pub mod TracedCells
pub mod ComposingAny
pub mod ComposedClones
pub mod SpelledRuns
pub mod ReadCommands
pub mod HeadlineClones
pub mod HeadlineLaw
pub mod LawfulEdits
pub mod LawfulStores
mod BaseReceives
pub mod UncarriedSums
pub mod Dues
pub mod DuesAny
mod HeadlineExample
pub mod Thinning
pub mod ThinnedRuns
pub mod ThinnedTraces
pub mod ThinnedLaws
mod ThinnedExamples
pub mod SourceLaws
pub mod Overriding
pub mod OverriddenFiles
mod OverriddenAudits
pub mod OverriddenByFile
mod OverrideExamples
mod NamedFiles
pub mod Exporting
mod ReceivableExamples
pub mod EightFiles
pub mod GeneratedChains
pub mod TooLong
mod LongFiles
mod Audited
pub mod Separators
pub mod OpenFiles
pub mod SeparatedRuns
pub mod SeparatedCounts
pub mod FreeNames
pub mod SeparatedCells
pub mod SameStores
pub mod Moments
pub mod ExportedItems
pub mod ExportedStreams
mod SeparatedExamples
pub mod OutputMeanings
pub mod NamedStreams
pub mod ComposedAgain
pub mod ExportedReadings
mod StoreExamples
