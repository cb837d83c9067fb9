-- What a run of the program promises, clause by clause: whoever reads these, and what they name,
-- need read no code. They are this program's own.
use Rattle.std.specs.Prelude.{◌≡◌, ◌⊎◌, ◌↔◌, ℕ, true, false, List, Option, None, Some}
use Rattle.std.specs.List.{AllByRecursion}
use Rattle.std.specs.Io.KnownBytes.{Appends}
use Rattle.send_model.specs.Attribute.{IsBytes}
use Rattle.send_model.specs.Guards.{Guard}
use Rattle.send_model.specs.Words.{new_guards}
use Rattle.send_model.specs.Outside.{base_of}
use Rattle.send_model.specs.Reading.{Reading}
use Rattle.send_model.specs.Headline.{IsComposedOf, whole_output_of}
use Rattle.send_model.specs.ExportPromises.{IsExportedOf}
use Rattle.snapshot_model.specs.Sent.{sent_stream}
use Rattle.snapshot_model.specs.Restored.{restored_stream}
use Rattle.snapshot_model.specs.Promises.{IsReceivedAnew, IsUnfinished}
use Rattle.squash_model.specs.SquashedStreams.{IsSquashedOf}
use Rattle.squash_model.specs.SquashDues.{own_base}
use Rattle.archive_model.specs.Archive.{archived_form}
use Rattle.program_model.specs.AnswerMeanings.{IsArchivedOf}
use Rattle.stream_model.specs.StreamDues.{IsStreamedBack, IsUnfinishedStream}
use Rattle.program_model.specs.FileWords.{GivenFiles}
use Rattle.program_model.specs.Requests.{Base, Request, Compose, Export, Squash, Send, Restore, Stream, Tar, request_in}
use Rattle.program_model.specs.Profiles.{profile, NoFiles, OnlyReads}
use Rattle.program_model.specs.Answers.{Answer, status_of, note_of, Says, meaning_of}
use Rattle.sx_base.specs.Calls.{Wrote}
use Rattle.sx_base.specs.Disk.{settled}
use Rattle.sx_base.specs.Outside.{AppendsPart}
use Rattle.sx_base.specs.declared.disk.Disk as keeping
use Rattle.sx_base.specs.declared.inputs.Inputs as reading
use Rattle.sx_base.specs.declared.sink.Sink as writing
use Rattle.request_answers.specs.Objects.{Count, HasRisen, IsSteady, Objects, objects_of}
use Rattle.request_answers.specs.Promises.{Acknowledges, AreRead, AtAnyMoment, Details, IfBytes, IfFaithful, IfKnown, OverBase, is_one_of, reading_of}

-- ---- a run

-- The words, guards and objects outside that a run is given, before and after it, and its status.
pub record Run : Type 1 where
  -- the words after the program's name, the guards, and the exit status
  pub words : List (List ℕ)
  pub guards : List Guard
  pub status : ℕ
  -- the inputs, standard output and the disk
  pub objects : Objects
  -- all that standard error has taken, where it says so, how often it failed, and that it is just
  -- as it was
  pub notes : Option (List ℕ)
  pub notes_after : Option (List ℕ)
  pub note_faults : Count
  pub NotesSame : Type 0

-- The run over such objects.
abbrev pub run_of : {I O N D : Type 0} (words : List (List ℕ)) (guards : List Guard) (status : ℕ)
    (inputs : reading.Ghosts I) (was_inputs is_inputs : I)
    (out : writing.Ghosts O) (was_out is_out : O) (notes : writing.Ghosts N)
    (was_notes is_notes : N) (disk : keeping.Ghosts D) (was_disk is_disk : D) → Run
run_of words guards status inputs was_inputs is_inputs out was_out is_out notes was_notes is_notes
    disk was_disk is_disk = record {
      words = words;
      guards = guards;
      status = status;
      objects = objects_of inputs was_inputs is_inputs out was_out is_out disk was_disk is_disk;
      notes = notes.taken was_notes;
      notes_after = notes.taken is_notes;
      note_faults = record { before = notes.faults was_notes; after = notes.faults is_notes };
      NotesSame = is_notes ≡ was_notes;
    }

-- ---- words used below

-- Words and guards ask for a request: the words mean it, and the guards are those that it gives, in
-- their order, of which none has counted anything yet.
pub record Asks (run : Run) (request : Request) : Type 0 where
  pub meant : request_in run.words ≡ Some request
  pub fits : run.guards ≡ new_guards (profile request).guards

-- A property of whatever request is asked for.
abbrev pub ForAsked : Run → (Request → Type 0) → Type 0
ForAsked run P = (request : Request) → Asks run request → P request

-- ---- 1. words that mean nothing

-- The status is 2 exactly where words and guards ask for nothing; then nothing is asked of any
-- object but standard error.
pub record MeansNothing (run : Run) : Type 0 where
  pub exactly : (run.status ≡ 2) ↔ ForAsked run (λ request. ⊥)
  pub untouched : run.status ≡ 2
      → run.objects.InputsSame × (run.objects.OutputSame × run.objects.DiskSame)

-- ---- 2. what is touched

pub record Touches (run : Run) : Type 0 where
  -- no call changes what is known of files; they are read as the table of requests says, and no
  -- others are
  pub known : run.objects.known_after ≡ run.objects.known_files
  pub reads : ForAsked run
      (λ request. run.objects.AskedInputs
      (AreRead (profile request).how run.objects.known_files (profile request).files.files))
  -- a request that reads no file, prints nothing, or uses no store, asks nothing of that object
  pub unread : ForAsked run (λ request. (profile request).how ≡ NoFiles) → run.objects.InputsSame
  pub unprinted : ForAsked run (λ request. (profile request).prints ≡ false)
      → run.objects.OutputSame
  pub unused : ForAsked run (λ request. (profile request).store ≡ None) → run.objects.DiskSame
  -- a store that is only read holds what it held
  pub unharmed : run.objects.IsFaithful → ForAsked run (λ request. OnlyReads (profile request).store)
      → run.objects.contents_after ≡ run.objects.contents

-- ---- 3. why a status comes

pub record IsCaused (run : Run) : Type 0 where
  -- a request ends with a status of its row in the table
  pub allowed : ForAsked run (λ request. is_one_of run.status (profile request).statuses ≡ true)
  -- with 0 nothing failed, and no file ended too early
  pub nothing_failed : run.status ≡ 0 → IsSteady run.objects.input_faults ×
      (IsSteady run.objects.early_ends × (IsSteady run.objects.output_faults
      × IsSteady run.objects.disk_faults))
  -- with 3 the inputs failed, with 4 standard output, with 5 the disk; with 13 a file ended early
  pub inputs : run.status ≡ 3 → HasRisen run.objects.input_faults
  pub output : run.status ≡ 4 → HasRisen run.objects.output_faults
  pub disk : run.status ≡ 5 → HasRisen run.objects.disk_faults
  pub changed : run.status ≡ 13 → HasRisen run.objects.early_ends

-- ---- 4. the answer

-- The answer of a run: its status, and its line on standard error, of which a front part alone is
-- written where standard error failed. Where the files and the store are known, what was written
-- and what is left are what the answer says.
pub record IsAnswer (run : Run) (answer : Answer) : Type 0 where
  pub status : run.status ≡ status_of answer
  pub note : Appends run.notes run.notes_after (note_of answer) ⊎
      (AppendsPart run.notes run.notes_after (note_of answer) × HasRisen run.note_faults)
  pub says : ForAsked run
      (λ request. IfFaithful run.objects.IsFaithful (profile request).store
      (IfKnown run.objects.known_files (profile request).files.files (λ bytes.
      Wrote run.objects.output run.objects.output_after
      (λ written. IfBytes (profile request).store bytes
      (Says (meaning_of request run.objects.contents bytes) answer written
      run.objects.contents_after)))))
  pub details : ForAsked run (λ request. Details run.objects request answer)

pub record Answers (run : Run) : Type 0 where
  pub answer : Answer
  pub is : IsAnswer run answer
  -- with status 0 nothing is written to standard error
  pub quiet : run.status ≡ 0 → run.NotesSame

-- ---- 5. the headline

pub record IsMerged (run : Run) : Type 0 where
  -- with status 0 `compose` wrote one stream that stands for the chain
  pub whole : run.status ≡ 0 → (base : Base) (files : GivenFiles) → Asks run (Compose base files)
      → OverBase run.objects base files
      (λ s bytes written. let reading : Reading = reading_of files bytes in IsComposedOf
      (base_of s reading.items) reading written)
  -- with status 1 it wrote all that stands for the commands before the one that is refused
  pub front : run.status ≡ 1 → (base : Base) (files : GivenFiles) → Asks run (Compose base files)
      → OverBase run.objects base files
      (λ s bytes written. let reading : Reading = reading_of files bytes in written
      ≡ whole_output_of (base_of s reading.items) reading)
  -- with status 0 `squash` wrote one stream that leads to the same, of which the literal bytes are
  -- those that the snapshot has at its end
  pub squashed : run.status ≡ 0 → (base : Base) (files : GivenFiles)
      → Asks run (Squash base files)
      → OverBase run.objects base files
      (λ s bytes written. let reading : Reading = reading_of files bytes in IsSquashedOf
      (own_base s reading.items) reading written)

-- ---- 6. what is exported

-- With status 0 `export` wrote streams that every receiver of the files takes, the real one among
-- them, and of which the headline holds as it does of the files.
pub record IsExported (run : Run) : Type 0 where
  pub whole : run.status ≡ 0 → (base : Base) (files : GivenFiles) → Asks run (Export base files)
      → OverBase run.objects base files
      (λ s bytes written. AllByRecursion IsBytes bytes → IsExportedOf s
      (reading_of files bytes) written)

-- ---- 7. what is sent, restored, streamed and archived

pub record IsSent (run : Run) : Type 0 where
  -- with status 0 the stream makes the snapshot anew, in every store without its name and UUID
  pub whole : run.status ≡ 0 → run.objects.IsFaithful → (store name : List ℕ)
      → (Asks run (Send store name)) ⊎ (Asks run (Restore store name))
      → Wrote run.objects.output run.objects.output_after
      (λ written. IsReceivedAnew run.objects.contents name written)
  -- with any other some of it is missing
  pub sent_in_part : (run.status ≡ 0 → ⊥) → run.objects.IsFaithful → (store name : List ℕ)
      → Asks run (Send store name)
      → Wrote run.objects.output run.objects.output_after
      (λ written. IsUnfinished sent_stream run.objects.contents name written)
  pub restored_in_part : (run.status ≡ 0 → ⊥) → run.objects.IsFaithful → (store name : List ℕ)
      → Asks run (Restore store name)
      → Wrote run.objects.output run.objects.output_after
      (λ written. IsUnfinished restored_stream run.objects.contents name written)
  -- with status 0 `stream` wrote the snapshot's own stream: each store that finds what was there
  -- when it was received takes it, and gets an entry equal to the one that is stored
  pub streamed : run.status ≡ 0 → run.objects.IsFaithful → (store name : List ℕ)
      → Asks run (Stream store name)
      → Wrote run.objects.output run.objects.output_after
      (λ written. IsStreamedBack run.objects.contents name written)
  pub streamed_in_part : (run.status ≡ 0 → ⊥) → run.objects.IsFaithful → (store name : List ℕ)
      → Asks run (Stream store name)
      → Wrote run.objects.output run.objects.output_after
      (λ written. IsUnfinishedStream run.objects.contents name written)
  -- with status 0 `tar` wrote the archive of the snapshot, byte for byte
  pub archived : run.status ≡ 0 → run.objects.IsFaithful → (store name : List ℕ)
      → Asks run (Tar store name)
      → Wrote run.objects.output run.objects.output_after
      (λ written. IsArchivedOf run.objects.contents name written)
  pub archived_in_part : (run.status ≡ 0 → ⊥) → run.objects.IsFaithful → (store name : List ℕ)
      → Asks run (Tar store name)
      → Wrote run.objects.output run.objects.output_after
      (λ written. IsUnfinished archived_form run.objects.contents name written)

-- ---- 8. crashes

pub record IsCrashSafe (run : Run) : Type 0 where
  pub any_moment : run.objects.IsFaithful → ForAsked run
      (λ request. AtAnyMoment run.objects request (profile request).store)
  -- with status 0 a store that was made, or from which something was dropped, stays as it is
  pub durable : run.status ≡ 0 → run.objects.IsFaithful → ForAsked run
      (λ request. (profile request).prints ≡ false → run.objects.crash_states_after
      ≡ settled run.objects.contents_after)

-- ---- 9. acknowledged snapshots

pub record IsAcknowledged (run : Run) : Type 0 where
  pub lines : run.objects.IsFaithful → ForAsked run
      (λ request. (profile request).prints ≡ true → Acknowledges run.objects request
      (profile request).store)
