-- How the program answers: the exit status, the line on standard error, and what an answer says of
-- what was written and of the store. They are this program's own.
use Rattle.std.specs.Prelude.{◌≡◌, ℕ, List, [], ◌∷◌, ◌++◌, codes}
use Rattle.send_model.specs.Guards.{GuardSpec}
use Rattle.send_model.specs.Words.{new_guards}
use Rattle.send_model.specs.Reading.{Verdict}
use Rattle.send_model.specs.Store.{Store}
use Rattle.send_model.specs.Outside.{base_of}
use Rattle.send_model.specs.Due as files_due
use Rattle.send_model.specs.Due.{DoneWhole, RefusedAt, TooLong, compose_due_of, audit_due_of, accepted_line_of, file_due}
use Rattle.send_model.specs.Sources.{Sources}
use Rattle.send_model.specs.Headline.{IsFrontOf, IsProperFrontOf, IsStoppedOf, whole_output_of}
use Rattle.send_model.specs.Lines.{dump_of}
use Rattle.send_model.specs.Exported.{exported_of}
use Rattle.send_model.specs.Generated.{chain_of, trial_line}
use Rattle.send_model.specs.Printed.{escaped}
use Rattle.send_model.specs.Answer as answers
use Rattle.send_model.specs.Answer.{and_field, and_number, line, eight_digits, verdict_text}
use Rattle.text_model.specs.Texts.{text_in}
use Rattle.text_model.specs.Packing.{IsPackDue, IsPackedPart, PackSays}
use Rattle.store_model.specs.NamedFiles.{NamedFiles, read_of}
use Rattle.store_model.specs.Stored.{StandsFor, StandsForNone}
use Rattle.store_model.specs.States.{received_lines}
use Rattle.store_model.specs.StoreLines.{listed}
use Rattle.store_model.specs.Scrub.{IsScrubbed, scrub_line}
use Rattle.store_model.specs.Stops.{IsOnTheWay}
use Rattle.store_model.specs.Dues.{Due, Ends, NotStore, Missing, LogFull, StoreThere, Damaged, OverStore, list_due, show_due, cat_due, show_output, cat_output, init_due, IsReceiveDue, IsDropDue, IsScrubDue, ReceiveSays}
use Rattle.store_model.specs.Requests.{ByImage, Printed, InitLeaves, DropLeaves}
use Rattle.store_model.specs.Answers as stored_answers
use Rattle.store_model.specs.Answers.{InitFault, DropFault, PrintsBefore, PrintsCut, ReceiveBefore}
use Rattle.store_model.specs.TurnDues.{InTurns, in_turns}
use Rattle.store_model.specs.TurnAnswers.{TurnsDue, TurnsBefore, TurnsInput, TurnsCut}
use Rattle.snapshot_model.specs.Sent.{sent_stream}
use Rattle.snapshot_model.specs.Restored.{restored_stream}
use Rattle.snapshot_model.specs.HeldStores.{Form, IsSendDue, SendBefore, SendCut}
use Rattle.archive_model.specs.Archive.{archived_form}
use Rattle.stream_model.specs.StreamDues.{IsStreamDue, StreamBefore, StreamCut}
use Rattle.squash_model.specs.SquashedStreams.{squashed_output}
use Rattle.squash_model.specs.SquashDues.{own_base, squash_due, IsPartlySquashed}
use Rattle.program_model.specs.FileWords.{GivenFiles}
use Rattle.program_model.specs.TurnWords.{TurnFiles}
use Rattle.program_model.specs.Requests.{Base, Nothing, InStore, Request, Compose, Audit, Dump, Text, Pack, Export, Squash, Gen, Trial, Init, Drop, Receive, ListAll, Show, Cat, Scrub, Send, Restore, Stream, Tar, Interleave}

-- ---- the answers

pub data Answer : Type 0 where
  -- all was done
  Done : Answer
  -- a command of a stream is refused
  Refused : Verdict → Answer
  -- the words mean nothing
  Usage : Answer
  -- the inputs, standard output or the store's device failed, or there was no memory
  InputFault : Answer
  OutputFault : Answer
  StoreFault : Answer
  NoMemory : Answer
  -- the store's file is none, up to this group; it has no such snapshot or file; it has no room; a
  -- store is there already; the checksum of a group is that of other bytes
  NoStore : (group : ℕ) → Answer
  IsMissing : (what : List ℕ) → Answer
  IsFull : (end wanted limit : ℕ) → Answer
  IsThere : (size : ℕ) → Answer
  IsDamaged : (group stored computed : ℕ) → Answer
  -- too many cloned bytes would be written; a file is too long; it was changed at a place
  IsTooMuch : (sum : ℕ) → Answer
  IsTooLong : (file : ℕ) → Answer
  InputChanged : (file place : ℕ) → Answer

-- An answer over a store as one of these.
abbrev pub flat : stored_answers.Answer → Answer
flat (stored_answers.OfAnyWord answers.Done) = Done
flat (stored_answers.OfAnyWord (answers.Refused verdict)) = Refused verdict
flat (stored_answers.OfAnyWord answers.Usage) = Usage
flat (stored_answers.OfAnyWord answers.InputFault) = InputFault
flat (stored_answers.OfAnyWord answers.OutputFault) = OutputFault
flat (stored_answers.OfAnyWord answers.NoMemory) = NoMemory
flat (stored_answers.OfAnyWord (answers.InputTooLong file)) = IsTooLong file
flat (stored_answers.OfAnyWord (answers.TooMuch sum)) = IsTooMuch sum
flat (stored_answers.OfAnyWord (answers.InputChanged file place)) = InputChanged file place
flat stored_answers.StoreFault = StoreFault
flat (stored_answers.NotStore group) = NoStore group
flat (stored_answers.Missing what) = IsMissing what
flat (stored_answers.LogFull end wanted limit) = IsFull end wanted limit
flat (stored_answers.StoreThere size) = IsThere size
flat (stored_answers.Damaged group stored computed) = IsDamaged group stored computed

-- The exit status.
unfoldable pub status_of : Answer → ℕ
status_of Done = 0
status_of (Refused verdict) = 1
status_of Usage = 2
status_of InputFault = 3
status_of OutputFault = 4
status_of StoreFault = 5
status_of (NoStore group) = 6
status_of NoMemory = 7
status_of (IsMissing what) = 8
status_of (IsTooMuch sum) = 9
status_of (IsFull end wanted limit) = 10
status_of (IsTooLong file) = 11
status_of (IsThere size) = 12
status_of (InputChanged file place) = 13
status_of (IsDamaged group stored computed) = 14

-- The line on standard error: nothing where all was done.
unfoldable pub note_of : Answer → List ℕ
note_of Done = []
note_of (Refused verdict) = line (verdict_text verdict)
note_of Usage = line (codes "usage")
note_of InputFault = line (codes "input fault")
note_of OutputFault = line (codes "output fault")
note_of StoreFault = line (codes "store fault")
note_of (NoStore group) = line (codes "not a store" ++ and_number group)
note_of NoMemory = line (codes "no memory")
note_of (IsMissing what) = line (codes "missing" ++ and_field (escaped what))
note_of (IsTooMuch sum) = line (codes "too much" ++ and_number sum)
note_of (IsFull end wanted limit) =
    line (codes "log full" ++ and_number end ++ and_number wanted ++ and_number limit)
note_of (IsTooLong file) = line (codes "input too long" ++ and_number file)
note_of (IsThere size) = line (codes "store there" ++ and_number size)
note_of (InputChanged file place) =
    line (codes "input changed" ++ and_number file ++ and_number place)
note_of (IsDamaged group stored computed) =
    line (codes "damaged" ++ and_number group ++ and_field (eight_digits stored) ++ and_field
    (eight_digits computed))

-- ---- what answers say

-- A fact about what was written to standard output, and about the store's image that is left.
abbrev pub Leaves : Type 1
Leaves = (written left : List ℕ) → Type 0

-- What each answer to a request says.
pub record Meaning : Type 1 where
  -- where it is the one that request, image and files decide: that it is, and what is left
  pub due : Due → Leaves
  -- where the inputs failed; where a file was found changed; where standard output failed; where
  -- there was no memory; where the store's device failed
  pub input : Leaves
  pub changed : Leaves
  pub output : Leaves
  pub memory : Leaves
  pub device : Leaves
  -- which images a crash may leave of a store that is changed, beside those that it could leave
  -- before, where so much was written
  pub crash : Leaves

-- An answer that is not given.
abbrev pub never : Leaves
never written left = ⊥

unfoldable pub Says : Meaning → Answer → Leaves
Says meaning Done written left = meaning.due (Ends DoneWhole) written left
Says meaning (Refused verdict) written left = meaning.due (Ends (RefusedAt verdict)) written left
Says meaning (IsTooLong file) written left = meaning.due (Ends (TooLong file)) written left
Says meaning (IsTooMuch sum) written left = meaning.due (Ends (files_due.TooMuch sum)) written left
Says meaning (NoStore group) written left = meaning.due (NotStore group) written left
Says meaning (IsMissing what) written left = meaning.due (Missing what) written left
Says meaning (IsFull end wanted limit) written left =
    meaning.due (LogFull end wanted limit) written left
Says meaning (IsThere size) written left = meaning.due (StoreThere size) written left
Says meaning (IsDamaged group stored computed) written left =
    meaning.due (Damaged group stored computed) written left
Says meaning InputFault written left = meaning.input written left
Says meaning (InputChanged file place) written left = meaning.changed written left
Says meaning OutputFault written left = meaning.output written left
Says meaning NoMemory written left = meaning.memory written left
Says meaning StoreFault written left = meaning.device written left
Says meaning Usage written left = ⊥

-- ---- streams over a base

-- What files decide over a store: the answer; all that is written where all is done; and what was
-- written where a command is refused, before the end of the answer, and where standard output
-- failed.
pub record OfFiles : Type 1 where
  pub due : files_due.Due
  pub whole : List ℕ
  pub refused : List ℕ → Type 0
  pub before : List ℕ → Type 0
  pub cut : List ℕ → Type 0

-- What was written where files alone decide the answer. Where they do not, a store is missing, and
-- nothing of this is said.
abbrev pub Stands : OfFiles → files_due.Due → List ℕ → Type 0
Stands of DoneWhole written = written ≡ of.whole
Stands of (RefusedAt verdict) written = of.refused written
Stands of (TooLong file) written = of.before written
Stands of (files_due.TooMuch sum) written = of.before written

abbrev pub Writes : OfFiles → Due → List ℕ → Type 0
Writes of (Ends due) written = Stands of due written
Writes of (NotStore group) written = ⊥
Writes of (Missing what) written = ⊥
Writes of (LogFull end wanted limit) written = ⊥
Writes of (StoreThere size) written = ⊥
Writes of (Damaged group stored computed) written = ⊥

-- Composing is over the store without the parts that are composed. What stands before an end, or
-- was cut, is no whole stream.
abbrev pub composed_over : Sources → Store ℕ → OfFiles
composed_over read s = let base = base_of s read.reading.items in record {
  due = compose_due_of read.first_long base read.reading;
  whole = whole_output_of base read.reading;
  refused = IsStoppedOf base read.reading;
  before = IsStoppedOf base read.reading;
  cut = IsStoppedOf base read.reading;
}

-- An audit writes its line at the end, where all is accepted.
abbrev pub audited_over : List GuardSpec → Sources → Store ℕ → OfFiles
audited_over guards read s = record {
  due = audit_due_of s (new_guards guards) read.limited;
  whole = accepted_line_of read.reading.items;
  refused = λ written. written ≡ [];
  before = λ written. written ≡ [];
  cut = λ written. (audit_due_of s (new_guards guards) read.limited ≡ DoneWhole) × IsProperFrontOf
      (accepted_line_of read.reading.items) written;
}

-- What is exported goes out as it is read, up to a command that is refused.
abbrev pub exported_over : Sources → Store ℕ → OfFiles
exported_over read s = record {
  due = audit_due_of s [] read.limited;
  whole = exported_of s read.limited.items;
  refused = λ written. written ≡ exported_of s read.limited.items;
  before = IsFrontOf (exported_of s read.limited.items);
  cut = IsFrontOf (exported_of s read.limited.items);
}

-- So do the lines of a file, in short or in full, and bytes that two numbers give, of which none is
-- refused.
abbrev pub dumped : List ℕ → OfFiles
dumped file = record {
  due = file_due file;
  whole = dump_of file;
  refused = λ written. written ≡ dump_of file;
  before = IsFrontOf (dump_of file);
  cut = IsFrontOf (dump_of file);
}

abbrev pub texted : List ℕ → OfFiles
texted file = record {
  due = file_due file;
  whole = text_in file;
  refused = λ written. written ≡ text_in file;
  before = IsFrontOf (text_in file);
  cut = IsFrontOf (text_in file);
}

abbrev pub made : List ℕ → OfFiles
made bytes = record {
  due = DoneWhole;
  whole = bytes;
  refused = λ written. ⊥;
  before = IsFrontOf bytes;
  cut = IsFrontOf bytes;
}

-- Squashing is over the store without the subvolume of the file. Nothing is written before all of
-- the file is judged.
abbrev pub squashed_over : Sources → Store ℕ → OfFiles
squashed_over read s = let base = own_base s read.limited.items in record {
  due = squash_due base read.limited;
  whole = squashed_output base read.limited.items;
  refused = λ written. written ≡ [];
  before = IsPartlySquashed base read.limited;
  cut = IsPartlySquashed base read.limited;
}

-- Without a store this is what is said. The image is as it was, here and below.
abbrev pub of_files : (image : List ℕ) → OfFiles → Meaning
of_files image of = record {
  due = λ due written left. (due ≡ Ends of.due) × ((left ≡ image) × Writes of due written);
  input = λ written left. (left ≡ image) × of.before written;
  changed = never;
  output = λ written left. (left ≡ image) × of.cut written;
  memory = λ written left. (left ≡ image) × of.before written;
  device = never;
  crash = never;
}

-- Over a store, opening it comes first: where the image stands for none, that is the answer, no
-- file is read, and nothing is written.
abbrev pub of_store : (image : List ℕ) → (Store ℕ → OfFiles) → Meaning
of_store image over = record {
  due = λ due written left. OverStore image (λ s d. d ≡ Ends (over s).due) due
      × ((left ≡ image) × ByImage image (λ s. Writes (over s) due written) (written ≡ []));
  input = λ written left. (left ≡ image) × ByImage image (λ s. (over s).before written) ⊥;
  changed = never;
  output = λ written left. (left ≡ image) × ByImage image (λ s. (over s).cut written) ⊥;
  memory = λ written left. (left ≡ image) × ByImage image (λ s. (over s).before written)
      (written ≡ []);
  device = λ written left. (left ≡ image) × ByImage image (λ s. (over s).before written)
      (written ≡ []);
  crash = never;
}

abbrev pub of_base : Base → (image : List ℕ) → (Store ℕ → OfFiles) → Meaning
of_base Nothing image over = of_files image (over [])
of_base (InStore store) image over = of_store image over

-- A request that reads bytes again may find a file changed. It stands then as where the inputs
-- failed.
abbrev pub read_again : Meaning → Meaning
read_again meaning = record meaning { changed = meaning.input }

-- ---- texts

-- What is packed is the streams of a text. Of a text that is not lawful the line that is wrong is
-- named, and the lines before it are packed; where something else ends the call, some of that is
-- missing.
abbrev pub Packs : (text : List ℕ) → Due → (written : List ℕ) → Type 0
Packs text (Ends due) written = IsPackDue text due × PackSays text due written
Packs text (NotStore group) written = ⊥
Packs text (Missing what) written = ⊥
Packs text (LogFull end wanted limit) written = ⊥
Packs text (StoreThere size) written = ⊥
Packs text (Damaged group stored computed) written = ⊥

abbrev pub packed_from : (image text : List ℕ) → Meaning
packed_from image text = record {
  due = λ due written left. (left ≡ image) × Packs text due written;
  input = λ written left. (left ≡ image) × IsPackedPart text written;
  changed = never;
  output = λ written left. (left ≡ image) × IsPackedPart text written;
  memory = λ written left. (left ≡ image) × IsPackedPart text written;
  device = never;
  crash = never;
}

-- ---- stores

-- What is printed of a store.
abbrev pub prints : (image : List ℕ) → (due : Store ℕ → Due) → (whole : Store ℕ → List ℕ) → Meaning
prints image due_over whole = record {
  due = λ due written left. OverStore image (λ s d. d ≡ due_over s) due
      × ((left ≡ image) × ByImage image (λ s. Printed due (whole s) written) (written ≡ []));
  input = never;
  changed = never;
  output = PrintsCut image whole;
  memory = PrintsBefore image whole;
  device = PrintsBefore image whole;
  crash = never;
}

-- A store is made where there is nothing. It takes no memory; of a store that was being made when
-- the device failed nothing is said.
abbrev pub made_new : (image : List ℕ) → Meaning
made_new image = record {
  due = λ due written left. (due ≡ init_due image) × ((written ≡ []) × InitLeaves due image left);
  input = never;
  changed = never;
  output = never;
  memory = never;
  device = λ written left. (written ≡ []) × InitFault image left;
  crash = never;
}

-- A snapshot is dropped, or the store is as it was.
abbrev pub dropped_of : (image name : List ℕ) → Meaning
dropped_of image name = record {
  due = λ due written left. OverStore image (IsDropDue image name) due
      × ((written ≡ []) × ByImage image (λ s. DropLeaves due name s left) (left ≡ image));
  input = never;
  changed = never;
  output = never;
  memory = λ written left. (written ≡ []) × ByImage image (λ s. StandsFor left s) (left ≡ image);
  device = λ written left. (written ≡ []) × ByImage image (λ s. DropFault image name s left)
      (left ≡ image);
  crash = λ written left. ByImage image (λ s. DropFault image name s left) (left ≡ image);
}

-- Files are received: the store is one on the way, with the lines of its complete snapshots.
abbrev pub received_under : (image : List ℕ) → List GuardSpec → NamedFiles → Meaning
received_under image guards files = record {
  due = λ due written left. OverStore image (IsReceiveDue image (new_guards guards) files) due
      × ByImage image (λ s. ReceiveSays image (new_guards guards) files s written left)
      ((written ≡ []) × (left ≡ image));
  input = λ written left. ByImage image
      (λ s. IsOnTheWay image (new_guards guards) files s written left) ⊥;
  changed = never;
  output = λ written left. ByImage image
      (λ s. IsOnTheWay image (new_guards guards) files s written left × IsProperFrontOf
      (received_lines s (new_guards guards) files) written) ⊥;
  memory = ReceiveBefore image (new_guards guards) files;
  device = ReceiveBefore image (new_guards guards) files;
  crash = λ written left. ByImage image
      (λ s. IsOnTheWay image (new_guards guards) files s written left) ⊥;
}

-- Scrub writes its line at the end.
abbrev pub scrubbed : (image : List ℕ) → Meaning
scrubbed image = record {
  due = λ due written left. ((line : List ℕ) × IsScrubDue image due line) ×
      ((left ≡ image) × IsScrubDue image due written);
  input = never;
  changed = never;
  output = λ written left. (left ≡ image) ×
      ((groups : ℕ) × (plain : ℕ) × IsScrubbed image groups plain × IsProperFrontOf
      (scrub_line groups plain) written);
  memory = λ written left. (left ≡ image) × (written ≡ []);
  device = λ written left. (left ≡ image) × (written ≡ []);
  crash = never;
}

-- A snapshot is written as a stream of a form.
abbrev pub sent_as : Form → (image name : List ℕ) → Meaning
sent_as form image name = record {
  due = λ due written left. (left ≡ image) × IsSendDue form image name due written;
  input = never;
  changed = never;
  output = λ written left. (left ≡ image) × SendCut form image name written;
  memory = λ written left. (left ≡ image) × SendBefore form image name written;
  device = λ written left. (left ≡ image) × SendBefore form image name written;
  crash = never;
}

-- A snapshot is written as the stream that was received.
abbrev pub streamed : (image name : List ℕ) → Meaning
streamed image name = record {
  due = λ due written left. (left ≡ image) × IsStreamDue image name due written;
  input = never;
  changed = never;
  output = λ written left. (left ≡ image) × StreamCut image name written;
  memory = λ written left. (left ≡ image) × StreamBefore image name written;
  device = λ written left. (left ≡ image) × StreamBefore image name written;
  crash = never;
}

-- Files are received in turns.
abbrev pub TurnsSay : InTurns → (image : List ℕ) → Due → Leaves
TurnsSay turns image (Ends due) written left = TurnsDue turns image (Ends due) written left
TurnsSay turns image (LogFull end wanted limit) written left =
    TurnsDue turns image (LogFull end wanted limit) written left
TurnsSay turns image (NotStore group) written left =
    StandsForNone image group × (written ≡ []) × (left ≡ image)
TurnsSay turns image (Missing what) written left = ⊥
TurnsSay turns image (StoreThere size) written left = ⊥
TurnsSay turns image (Damaged group stored computed) written left = ⊥

abbrev pub received_in_turns : InTurns → (image : List ℕ) → Meaning
received_in_turns turns image = record {
  due = TurnsSay turns image;
  input = TurnsInput turns image;
  changed = never;
  output = TurnsCut turns image;
  memory = TurnsBefore turns image;
  device = TurnsBefore turns image;
  crash = TurnsInput turns image;
}

-- ---- requests

-- The bytes of files, with what is said in front of each.
abbrev pub as_said : GivenFiles → (bytes : List (List ℕ)) → NamedFiles
as_said files bytes = record { bytes = bytes; overrides = files.overrides }

abbrev pub read_as : GivenFiles → (bytes : List (List ℕ)) → Sources
read_as files bytes = read_of (as_said files bytes)

-- The turns of files, under their guards.
abbrev pub turns_of : (schedule : List ℕ) → TurnFiles → (bytes : List (List ℕ)) → InTurns
turns_of schedule turns bytes = in_turns schedule bytes (new_guards turns.guards) turns.shares

-- The bytes of the one file of a request.
abbrev pub only : List (List ℕ) → List ℕ
only [] = []
only (bytes ∷ more) = bytes

-- What each answer to a request says, over the image of its store at entry and the bytes of its
-- files.
abbrev pub meaning_of : Request → (image : List ℕ) → (bytes : List (List ℕ)) → Meaning
meaning_of (Compose base files) image bytes =
    read_again (of_base base image (composed_over (read_as files bytes)))
meaning_of (Audit guards base files) image bytes =
    of_base base image (audited_over guards (read_as files bytes))
meaning_of (Export base files) image bytes =
    of_base base image (exported_over (read_as files bytes))
meaning_of (Squash base files) image bytes =
    of_base base image (squashed_over (read_as files bytes))
meaning_of (Dump file) image bytes = of_files image (dumped (only bytes))
meaning_of (Text file) image bytes = of_files image (texted (only bytes))
meaning_of (Pack file) image bytes = packed_from image (only bytes)
meaning_of (Gen count seed) image bytes = of_files image (made (chain_of seed count))
meaning_of (Trial count seed) image bytes = of_files image (made (trial_line seed count))
meaning_of (Init store) image bytes = made_new image
meaning_of (Receive guards store files) image bytes =
    received_under image guards (as_said files bytes)
meaning_of (Interleave store schedule turns) image bytes =
    received_in_turns (turns_of schedule turns bytes) image
meaning_of (Drop store name) image bytes = dropped_of image name
meaning_of (ListAll store) image bytes = prints image list_due listed
meaning_of (Show store name) image bytes = prints image (show_due name) (show_output name)
meaning_of (Cat store name path) image bytes =
    prints image (cat_due name path) (cat_output name path)
meaning_of (Scrub store) image bytes = scrubbed image
meaning_of (Send store name) image bytes = sent_as sent_stream image name
meaning_of (Restore store name) image bytes = sent_as restored_stream image name
meaning_of (Stream store name) image bytes = streamed image name
meaning_of (Tar store name) image bytes = sent_as archived_form image name
