-- What an answer means to whoever reads it, for each word on streams and over a store. Each law
-- begins with an answer and ends in plain words: what was written, and what the image is or stands
-- for. This program's own.
use Rattle.std.specs.Prelude.{◌≡◌, ◌≢◌, ◌⊎◌, ⊤, ◌≤◌, ◌<◌, ℕ, ◌+◌, Bool, true, false, not, List, [], ◌∷◌, ◌++◌, length, take, drop, map, None, Some}
use Rattle.std.specs.List.{AllByRecursion, filter, flat_map}
use Rattle.std.specs.Str.{bytes_eq}
use Rattle.send_model.specs.Attribute.{IsBytes}
use Rattle.send_model.specs.Reading.{Verdict}
use Rattle.send_model.specs.Subvolume.{Subvolume}
use Rattle.send_model.specs.Store.{Entry, Store, has_name, head_of}
use Rattle.send_model.specs.Guards.{Guard, GuardSpec}
use Rattle.send_model.specs.Lines.{dump_of}
use Rattle.send_model.specs.Generated.{chain_of, trial_line}
use Rattle.send_model.specs.Outside.{base_of}
use Rattle.send_model.specs.Exported.{exported_of}
use Rattle.send_model.specs.Headline.{IsUnfinished, IsFrontOf, IsProperFrontOf, whole_output_of}
use Rattle.send_model.specs.Due as stream_dues
use Rattle.send_model.specs.Due.{DoneWhole, RefusedAt, compose_due_of, audit_due_of, accepted_line_of, file_due}
use Rattle.send_model.specs.Answer.{Done, Refused, InputFault, OutputFault, InputChanged}
use Rattle.send_model.specs.Words as streams
use Rattle.send_model.specs.Words.{Compose, Audit, Dump, Export, Gen, Trial, new_guards}
use Rattle.store_model.specs.NamedFiles.{NamedFiles, read_of, AreGiven}
use Rattle.store_model.specs.Image.{HasGroups, header_of, usual_header, limit_of, front_of, reserve}
use Rattle.store_model.specs.Stored.{Group, body_bytes, StandsFor, StandsForNone}
use Rattle.store_model.specs.States.{is_complete, left_by, complete_line, lines_behind, received_lines, lines_in}
use Rattle.store_model.specs.Written.{groups_of}
use Rattle.store_model.specs.StoreLines.{listed, shown}
use Rattle.store_model.specs.Scrub.{IsScrubbed, IsNoStoreAt, IsDamagedAt, scrub_line}
use Rattle.store_model.specs.Stops.{IsOnTheWay}
use Rattle.store_model.specs.Turns.{Taken, part_line}
use Rattle.store_model.specs.TurnLaws.{AreEntriesOf}
use Rattle.store_model.specs.Dues.{complete_named, file_at, receive_due, receive_left}
use Rattle.store_model.specs.Requests.{Request, OfStreams, InitStore, DropEntry, ReceiveFiles, ListStore, ShowEntry, CatFile, ScrubStore, word_at, store_of, reads_store, at_entry}
use Rattle.store_model.specs.Answers.{Answer, OfAnyWord, StoreFault, NotStore, Missing, LogFull, StoreThere, Damaged, answered, answer_of, Answers}

-- ---- list, show and cat

-- What `show` writes of a name is of its complete subvolume, and what `cat` writes of a name and a
-- path is what that file has.
abbrev pub IsShown : List ℕ → Store ℕ → (written : List ℕ) → Type 0
IsShown name store written =
    (found : Entry (Subvolume ℕ) × Subvolume ℕ) × (complete_named name store ≡ Some found)
    × (written ≡ shown found.0.name found.0.key found.1)

abbrev pub IsFileOf : (name path : List ℕ) → Store ℕ → (written : List ℕ) → Type 0
IsFileOf name path store written =
    (found : Entry (Subvolume ℕ) × Subvolume ℕ) × (complete_named name store ≡ Some found)
    × (file_at path found.1 ≡ Some written)

-- With status 0 they wrote all of it.
abbrev pub ListIsDone : Type 0
ListIsDone = (place : ℕ) (words : List (List ℕ)) (image : List ℕ) (files : NamedFiles)
    (store : Store ℕ) (written left : List ℕ) → StandsFor image store
    → Answers (ListStore place) (at_entry words image files) (OfAnyWord Done) written left
    → (written ≡ listed store) × (left ≡ image)

abbrev pub ShowIsDone : Type 0
ShowIsDone = (place name : ℕ) (words : List (List ℕ)) (image : List ℕ) (files : NamedFiles)
    (store : Store ℕ) (written left : List ℕ) → StandsFor image store
    → Answers (ShowEntry place name) (at_entry words image files) (OfAnyWord Done) written left
    → IsShown (word_at words name) store written × (left ≡ image)

abbrev pub CatIsDone : Type 0
CatIsDone = (place name path : ℕ) (words : List (List ℕ)) (image : List ℕ) (files : NamedFiles)
    (store : Store ℕ) (written left : List ℕ) → StandsFor image store
    → Answers (CatFile place name path) (at_entry words image files) (OfAnyWord Done) written left
    → IsFileOf (word_at words name) (word_at words path) store written × (left ≡ image)

-- What is missing is not in the store, and then nothing was written.
abbrev pub ShowMisses : Type 0
ShowMisses = (place name : ℕ) (words : List (List ℕ)) (image : List ℕ) (files : NamedFiles)
    (store : Store ℕ) (what written left : List ℕ) → StandsFor image store
    → Answers (ShowEntry place name) (at_entry words image files) (Missing what) written left
    → (what ≡ word_at words name) × (complete_named (word_at words name) store ≡ None)
    × (written ≡ []) × (left ≡ image)

abbrev pub CatMisses : Type 0
CatMisses = (place name path : ℕ) (words : List (List ℕ)) (image : List ℕ) (files : NamedFiles)
    (store : Store ℕ) (what written left : List ℕ) → StandsFor image store
    → Answers (CatFile place name path) (at_entry words image files) (Missing what) written left
    → (((what ≡ word_at words name) × (complete_named (word_at words name) store ≡ None))
    ⊎ ((what ≡ word_at words path)
    × ((found : Entry (Subvolume ℕ) × Subvolume ℕ)
    × (complete_named (word_at words name) store ≡ Some found)
    × (file_at (word_at words path) found.1 ≡ None))))
    × (written ≡ []) × (left ≡ image)

-- ---- scrub

-- With status 0 all groups are whole, and the line has their numbers.
abbrev pub ScrubIsDone : Type 0
ScrubIsDone =
    (place : ℕ) (words : List (List ℕ)) (image : List ℕ) (files : NamedFiles)
    (written left : List ℕ)
    → Answers (ScrubStore place) (at_entry words image files) (OfAnyWord Done) written left
    → ((groups : ℕ) × (plain : ℕ) × IsScrubbed image groups plain
    × (written ≡ scrub_line groups plain)) × (left ≡ image)

-- With status 4 they are whole too, and some of that line is missing.
abbrev pub ScrubIsCut : Type 0
ScrubIsCut = (place : ℕ) (words : List (List ℕ)) (image : List ℕ) (files : NamedFiles)
    (written left : List ℕ)
    → Answers (ScrubStore place) (at_entry words image files) (OfAnyWord OutputFault) written left
    → ((groups : ℕ) × (plain : ℕ) × IsScrubbed image groups plain
    × IsProperFrontOf (scrub_line groups plain) written) × (left ≡ image)

-- With any other it wrote nothing.
abbrev pub ScrubIsSilent : Type 0
ScrubIsSilent =
    (place : ℕ) (words : List (List ℕ)) (image : List ℕ) (files : NamedFiles) (answer : Answer)
    (written left : List ℕ)
    → Answers (ScrubStore place) (at_entry words image files) answer written left
    → answer ≢ OfAnyWord Done → answer ≢ OfAnyWord OutputFault
    → (written ≡ []) × (left ≡ image)

-- ---- init

-- With status 0 there was nothing, and there is a new store. With status 12 the file has so many
-- bytes, and is as it was. With status 5 it is as it was, if there was anything.
abbrev pub InitIsDone : Type 0
InitIsDone = (place : ℕ) (words : List (List ℕ)) (image : List ℕ) (files : NamedFiles)
    (written left : List ℕ)
    → Answers (InitStore place) (at_entry words image files) (OfAnyWord Done) written left
    → (image ≡ []) × (written ≡ []) × (left ≡ header_of usual_header ++ 0 ∷ [])

abbrev pub InitIsThere : Type 0
InitIsThere =
    (place : ℕ) (words : List (List ℕ)) (image : List ℕ) (files : NamedFiles) (size : ℕ)
    (written left : List ℕ)
    → Answers (InitStore place) (at_entry words image files) (StoreThere size) written left
    → (size ≡ length image) × (image ≢ []) × (written ≡ []) × (left ≡ image)

abbrev pub InitIsAtFault : Type 0
InitIsAtFault =
    (place : ℕ) (words : List (List ℕ)) (image : List ℕ) (files : NamedFiles)
    (written left : List ℕ)
    → Answers (InitStore place) (at_entry words image files) StoreFault written left
    → (written ≡ []) × (image ≢ [] → left ≡ image)

-- And no other comes.
abbrev pub InitIsAnswered : Type 0
InitIsAnswered =
    (place : ℕ) (words : List (List ℕ)) (image : List ℕ) (files : NamedFiles) (answer : Answer)
    (written left : List ℕ)
    → Answers (InitStore place) (at_entry words image files) answer written left
    → (answer ≡ OfAnyWord Done) ⊎ ((answer ≡ StoreThere (length image)) ⊎ (answer ≡ StoreFault))

-- ---- drop

-- A store without the entry of a name, which it had.
abbrev pub IsWithout : List ℕ → (store next : Store ℕ) → Type 0
IsWithout name store next =
    (has_name name store ≡ true) × (next ≡ filter (λ e. not (bytes_eq e.name name)) store)

-- With status 0 the image stands for the store without the entry.
abbrev pub DropIsDone : Type 0
DropIsDone = (place name : ℕ) (words : List (List ℕ)) (image : List ℕ) (files : NamedFiles)
    (store : Store ℕ) (written left : List ℕ) → StandsFor image store
    → Answers (DropEntry place name) (at_entry words image files) (OfAnyWord Done) written left
    → ((next : Store ℕ) × IsWithout (word_at words name) store next × StandsFor left next)
    × (written ≡ [])

-- With any other, unless the device failed, it stands for the store as it was.
abbrev pub DropIsNotDone : Type 0
DropIsNotDone =
    (place name : ℕ) (words : List (List ℕ)) (image : List ℕ) (files : NamedFiles) (store : Store ℕ)
    (answer : Answer) (written left : List ℕ) → StandsFor image store
    → Answers (DropEntry place name) (at_entry words image files) answer written left
    → answer ≢ OfAnyWord Done → answer ≢ StoreFault
    → StandsFor left store × (written ≡ [])

-- Then it stands for one of the two.
abbrev pub DropIsAtFault : Type 0
DropIsAtFault =
    (place name : ℕ) (words : List (List ℕ)) (image : List ℕ) (files : NamedFiles) (store : Store ℕ)
    (written left : List ℕ) → StandsFor image store
    → Answers (DropEntry place name) (at_entry words image files) StoreFault written left
    → (StandsFor left store
    ⊎ ((next : Store ℕ) × IsWithout (word_at words name) store next × StandsFor left next))
    × (written ≡ [])

-- What is missing is not in the store.
abbrev pub DropMisses : Type 0
DropMisses = (place name : ℕ) (words : List (List ℕ)) (image : List ℕ) (files : NamedFiles)
    (store : Store ℕ) (what written left : List ℕ) → StandsFor image store
    → Answers (DropEntry place name) (at_entry words image files) (Missing what) written left
    → (what ≡ word_at words name) × (has_name (word_at words name) store ≡ false)

-- What has no room goes past the limit of the image's header.
abbrev pub DropIsFull : Type 0
DropIsFull = (place name : ℕ) (words : List (List ℕ)) (image : List ℕ) (files : NamedFiles)
    (end wanted limit : ℕ) (written left : List ℕ)
    → Answers (DropEntry place name) (at_entry words image files)
    (LogFull end wanted limit) written left
    → (store : Store ℕ) × (stands : StandsFor image store) × (limit ≡ limit_of stands.header)
    × (limit < end + wanted + reserve)

-- ---- receive

-- The complete entries that a store has behind those of another, in order.
abbrev pub completed_behind : (start store : Store ℕ) → Store ℕ
completed_behind start store = filter is_complete (drop (length start) store)

-- Behind the entries that were there, as they were, a store has an entry that is complete for each
-- whole line: these are the lines of the first of them. Behind the last whole line at most a part
-- of one more was written.
pub record HasWhatIsTold (start : Store ℕ) (written : List ℕ) (store : Store ℕ) : Type 0 where
  pub begins : store ≡ start ++ drop (length start) store
  pub enough : lines_in written ≤ length (completed_behind start store)
  pub part : List ℕ
  pub lines : written
      ≡ flat_map complete_line (take (lines_in written) (completed_behind start store)) ++ part
  pub part_is : lines_in part ≡ 0

abbrev pub StandsForWhatIsTold : Store ℕ → (written image : List ℕ) → Type 0
StandsForWhatIsTold start written image =
    (now : Store ℕ) × StandsFor image now × HasWhatIsTold start written now

-- An image on the way stands for such a store.
abbrev pub OnTheWayIsTold : Type 0
OnTheWayIsTold =
    (before image : List ℕ) (guards : List Guard) (files : NamedFiles) (store : Store ℕ)
    (written : List ℕ) → AreGiven files
    → IsOnTheWay before guards files store written image → StandsForWhatIsTold store written image

-- What was written is in front of all lines.
abbrev pub OnTheWayIsInFront : Type 0
OnTheWayIsInFront =
    (before image : List ℕ) (guards : List Guard) (files : NamedFiles) (store : Store ℕ)
    (written : List ℕ)
    → IsOnTheWay before guards files store written image
    → (unwritten : List ℕ) × (received_lines store guards files ≡ written ++ unwritten)

-- It has the groups that were there, and behind them the first of those that receiving writes.
abbrev pub OnTheWayHasGroups : Type 0
OnTheWayHasGroups =
    (before image : List ℕ) (guards : List Guard) (files : NamedFiles) (store : Store ℕ)
    (written : List ℕ)
    → IsOnTheWay before guards files store written image
    → (stands : StandsFor before store) × ((first more : List Group)
    × (groups_of store guards (read_of files).reading.items ≡ first ++ more)
    × HasGroups stands.header (map body_bytes (stands.groups ++ first)) image)

-- Whatever the status, the image stands for a store that has an entry for each whole line.
abbrev pub ReceiveIsTold : Type 0
ReceiveIsTold =
    (guards : List GuardSpec) (place at : ℕ) (words : List (List ℕ)) (image : List ℕ)
    (files : NamedFiles) (store : Store ℕ) (answer : Answer) (written left : List ℕ)
    → StandsFor image store → AreGiven files
    → Answers (ReceiveFiles guards place at) (at_entry words image files) answer written left
    → StandsForWhatIsTold store written left

-- And it has the groups that were there, and behind them the first of those that receiving writes.
abbrev pub ReceiveHasGroups : Type 0
ReceiveHasGroups =
    (guards : List GuardSpec) (place at : ℕ) (words : List (List ℕ)) (image : List ℕ)
    (files : NamedFiles) (store : Store ℕ) (answer : Answer) (written left : List ℕ)
    → StandsFor image store
    → Answers (ReceiveFiles guards place at) (at_entry words image files) answer written left
    → (stands : StandsFor image store) × ((first more : List Group)
    × (groups_of store (new_guards guards) (read_of files).reading.items ≡ first ++ more)
    × HasGroups stands.header (map body_bytes (stands.groups ++ first)) left)

-- With status 0, and where a command is refused, all lines were written, and the image stands for
-- the store that receiving leaves.
abbrev pub ReceiveIsDone : Type 0
ReceiveIsDone =
    (guards : List GuardSpec) (place at : ℕ) (words : List (List ℕ)) (image : List ℕ)
    (files : NamedFiles) (store : Store ℕ) (written left : List ℕ)
    → StandsFor image store → AreGiven files
    → Answers (ReceiveFiles guards place at) (at_entry words image files)
    (OfAnyWord Done) written left
    → (written ≡ received_lines store (new_guards guards) files)
    × StandsFor left (left_by store (new_guards guards) files)

abbrev pub ReceiveIsRefused : Type 0
ReceiveIsRefused =
    (guards : List GuardSpec) (place at : ℕ) (words : List (List ℕ)) (image : List ℕ)
    (files : NamedFiles) (store : Store ℕ) (verdict : Verdict) (written left : List ℕ)
    → StandsFor image store → AreGiven files
    → Answers (ReceiveFiles guards place at) (at_entry words image files)
    (OfAnyWord (Refused verdict)) written left
    → (written ≡ received_lines store (new_guards guards) files)
    × StandsFor left (left_by store (new_guards guards) files)

-- What files decide is what an audit of them over the store says.
abbrev pub ReceiveIsDue : Type 0
ReceiveIsDue =
    (guards : List GuardSpec) (place at : ℕ) (words : List (List ℕ)) (image : List ℕ)
    (files : NamedFiles) (store : Store ℕ) (due : stream_dues.Due) (written left : List ℕ)
    → StandsFor image store
    → Answers (ReceiveFiles guards place at) (at_entry words image files)
    (OfAnyWord (answered due)) written left
    → audit_due_of store (new_guards guards) (read_of files).limited ≡ due

-- What has no room goes past the limit of the image's header, behind the groups that are there; and
-- what was written, and what the image stands for, is what is left there.
abbrev pub ReceiveIsFull : Type 0
ReceiveIsFull =
    (guards : List GuardSpec) (place at : ℕ) (words : List (List ℕ)) (image : List ℕ)
    (files : NamedFiles) (store : Store ℕ) (end wanted limit : ℕ) (written left : List ℕ)
    → StandsFor image store
    → Answers (ReceiveFiles guards place at) (at_entry words image files)
    (LogFull end wanted limit) written left
    → (stands : StandsFor image store) × (limit ≡ limit_of stands.header)
    × (limit < end + wanted + reserve)
    × (let gate = length (front_of stands.header (map body_bytes stands.groups)) in
    let kept = receive_left limit gate store (new_guards guards) files in
    (LogFull end wanted limit ≡ answer_of (receive_due limit gate store (new_guards guards) files))
    × (written ≡ lines_behind store kept) × StandsFor left kept)

-- ---- parts that take turns

-- The entries of completed parts are complete, and have the names, the keys and the parents of
-- their heads, in order.
abbrev pub EntriesHaveTheirHeads : Type 0 → Type 0
EntriesHaveTheirHeads S =
    (parts : List Taken) (entries : List (Entry S)) → AreEntriesOf parts entries
    → (map (λ part. head_of part.head.command) parts
    ≡ map (λ e. Some (record { name = e.name; key = e.key; parent = e.parent })) entries)
    × AllByRecursion (λ e. is_complete e ≡ true) entries

-- So the lines of these parts are those of the entries.
abbrev pub LinesAreOfEntries : Type 0 → Type 0
LinesAreOfEntries S =
    (parts : List Taken) (entries : List (Entry S)) → AreEntriesOf parts entries
    → flat_map part_line parts ≡ flat_map complete_line entries

-- ---- words on streams

-- The store that words are over: the one that the image stands for, or one without entries where
-- the word is `none`.
abbrev pub IsOver : (reads : Bool) → (image : List ℕ) → Store ℕ → Type 0
IsOver true image s = StandsFor image s
IsOver false image s = s ≡ []

-- What files decide is what is due to them: of compose over the store without their parts.
abbrev pub ComposeIsDue : Type 0
ComposeIsDue =
    (place at : ℕ) (words : List (List ℕ)) (image : List ℕ) (files : NamedFiles) (store : Store ℕ)
    (due : stream_dues.Due) (written left : List ℕ)
    → IsOver (reads_store words (Some place)) image store
    → Answers (OfStreams (Compose place at)) (at_entry words image files)
    (OfAnyWord (answered due)) written left
    → compose_due_of (read_of files).first_long (base_of store (read_of files).reading.items)
    (read_of files).reading ≡ due

abbrev pub AuditIsDue : Type 0
AuditIsDue = (guards : List GuardSpec) (place at : ℕ) (words : List (List ℕ)) (image : List ℕ)
    (files : NamedFiles) (store : Store ℕ) (due : stream_dues.Due) (written left : List ℕ)
    → IsOver (reads_store words (Some place)) image store
    → Answers (OfStreams (Audit guards place at)) (at_entry words image files)
    (OfAnyWord (answered due)) written left
    → audit_due_of store (new_guards guards) (read_of files).limited ≡ due

abbrev pub ExportIsDue : Type 0
ExportIsDue =
    (place at : ℕ) (words : List (List ℕ)) (image : List ℕ) (files : NamedFiles) (store : Store ℕ)
    (due : stream_dues.Due) (written left : List ℕ)
    → IsOver (reads_store words (Some place)) image store
    → Answers (OfStreams (Export place at)) (at_entry words image files)
    (OfAnyWord (answered due)) written left
    → audit_due_of store [] (read_of files).limited ≡ due

abbrev pub DumpIsDue : Type 0
DumpIsDue = (at : ℕ) (words : List (List ℕ)) (image : List ℕ) (files : NamedFiles)
    (due : stream_dues.Due) (written left : List ℕ)
    → Answers (OfStreams (Dump at)) (at_entry words image files)
    (OfAnyWord (answered due)) written left → file_due (read_of files).first ≡ due

-- With status 0, and with no other, compose wrote all of a stream.
abbrev pub ComposeIsDone : Type 0
ComposeIsDone =
    (place at : ℕ) (words : List (List ℕ)) (image : List ℕ) (files : NamedFiles) (store : Store ℕ)
    (written left : List ℕ)
    → IsOver (reads_store words (Some place)) image store
    → Answers (OfStreams (Compose place at)) (at_entry words image files)
    (OfAnyWord Done) written left
    → (compose_due_of (read_of files).first_long (base_of store (read_of files).reading.items)
    (read_of files).reading ≡ DoneWhole)
    × (written ≡ whole_output_of (base_of store (read_of files).reading.items)
    (read_of files).reading) × (left ≡ image)

abbrev pub ComposeIsUnfinished : Type 0
ComposeIsUnfinished =
    (place at : ℕ) (words : List (List ℕ)) (image : List ℕ) (files : NamedFiles) (answer : Answer)
    (written left : List ℕ)
    → IsBytes image
    → Answers (OfStreams (Compose place at)) (at_entry words image files) answer written left
    → answer ≢ OfAnyWord Done → IsUnfinished written

abbrev pub ComposeIsInFront : Type 0
ComposeIsInFront =
    (place at : ℕ) (words : List (List ℕ)) (image : List ℕ) (files : NamedFiles) (store : Store ℕ)
    (answer : Answer) (written left : List ℕ)
    → IsOver (reads_store words (Some place)) image store
    → Answers (OfStreams (Compose place at)) (at_entry words image files) answer written left
    → IsFrontOf (whole_output_of (base_of store (read_of files).reading.items)
    (read_of files).reading) written

-- With status 0 audit accepted all, and wrote its line; with status 4 some of the line is missing;
-- with any other nothing was written.
abbrev pub AuditIsDone : Type 0
AuditIsDone =
    (guards : List GuardSpec) (place at : ℕ) (words : List (List ℕ)) (image : List ℕ)
    (files : NamedFiles) (store : Store ℕ) (written left : List ℕ)
    → IsOver (reads_store words (Some place)) image store
    → Answers (OfStreams (Audit guards place at)) (at_entry words image files)
    (OfAnyWord Done) written left
    → (audit_due_of store (new_guards guards) (read_of files).limited ≡ DoneWhole)
    × (written ≡ accepted_line_of (read_of files).reading.items) × (left ≡ image)

abbrev pub AuditIsCut : Type 0
AuditIsCut = (guards : List GuardSpec) (place at : ℕ) (words : List (List ℕ)) (image : List ℕ)
    (files : NamedFiles) (store : Store ℕ) (written left : List ℕ)
    → IsOver (reads_store words (Some place)) image store
    → Answers (OfStreams (Audit guards place at)) (at_entry words image files)
    (OfAnyWord OutputFault) written left
    → (audit_due_of store (new_guards guards) (read_of files).limited ≡ DoneWhole)
    × IsProperFrontOf (accepted_line_of (read_of files).reading.items) written

abbrev pub AuditIsSilent : Type 0
AuditIsSilent =
    (guards : List GuardSpec) (place at : ℕ) (words : List (List ℕ)) (image : List ℕ)
    (files : NamedFiles) (store : Store ℕ) (answer : Answer) (written left : List ℕ)
    → IsOver (reads_store words (Some place)) image store
    → Answers (OfStreams (Audit guards place at))
    (at_entry words image files) answer written left
    → answer ≢ OfAnyWord Done → answer ≢ OfAnyWord OutputFault → written ≡ []

-- With status 0, and where a command is refused, export and dump wrote all of theirs; with any
-- other a front part of it.
abbrev pub ExportIsDone : Type 0
ExportIsDone =
    (place at : ℕ) (words : List (List ℕ)) (image : List ℕ) (files : NamedFiles) (store : Store ℕ)
    (written left : List ℕ)
    → IsOver (reads_store words (Some place)) image store
    → Answers (OfStreams (Export place at)) (at_entry words image files)
    (OfAnyWord Done) written left
    → (audit_due_of store [] (read_of files).limited ≡ DoneWhole)
    × (written ≡ exported_of store (read_of files).limited.items) × (left ≡ image)

abbrev pub ExportIsRefused : Type 0
ExportIsRefused =
    (place at : ℕ) (words : List (List ℕ)) (image : List ℕ) (files : NamedFiles) (store : Store ℕ)
    (verdict : Verdict) (written left : List ℕ)
    → IsOver (reads_store words (Some place)) image store
    → Answers (OfStreams (Export place at)) (at_entry words image files)
    (OfAnyWord (Refused verdict)) written left
    → (audit_due_of store [] (read_of files).limited ≡ RefusedAt verdict)
    × (written ≡ exported_of store (read_of files).limited.items)

abbrev pub ExportIsInFront : Type 0
ExportIsInFront =
    (place at : ℕ) (words : List (List ℕ)) (image : List ℕ) (files : NamedFiles) (store : Store ℕ)
    (answer : Answer) (written left : List ℕ)
    → IsOver (reads_store words (Some place)) image store
    → Answers (OfStreams (Export place at)) (at_entry words image files) answer written left
    → IsFrontOf (exported_of store (read_of files).limited.items) written

abbrev pub DumpIsDone : Type 0
DumpIsDone = (at : ℕ) (words : List (List ℕ)) (image : List ℕ) (files : NamedFiles)
    (written left : List ℕ)
    → Answers (OfStreams (Dump at)) (at_entry words image files) (OfAnyWord Done) written left
    → (file_due (read_of files).first ≡ DoneWhole) × (written ≡ dump_of (read_of files).first)
    × (left ≡ image)

abbrev pub DumpIsRefused : Type 0
DumpIsRefused =
    (at : ℕ) (words : List (List ℕ)) (image : List ℕ) (files : NamedFiles) (verdict : Verdict)
    (written left : List ℕ)
    → Answers (OfStreams (Dump at)) (at_entry words image files)
    (OfAnyWord (Refused verdict)) written left
    → (file_due (read_of files).first ≡ RefusedAt verdict)
    × (written ≡ dump_of (read_of files).first)

abbrev pub DumpIsInFront : Type 0
DumpIsInFront =
    (at : ℕ) (words : List (List ℕ)) (image : List ℕ) (files : NamedFiles) (answer : Answer)
    (written left : List ℕ)
    → Answers (OfStreams (Dump at)) (at_entry words image files) answer written left
    → IsFrontOf (dump_of (read_of files).first) written

-- With status 0 a chain, and the line of a trial, were written whole; with any other a front part.
abbrev pub GenIsDone : Type 0
GenIsDone = (count seed : ℕ) (words : List (List ℕ)) (image : List ℕ) (files : NamedFiles)
    (written left : List ℕ)
    → Answers (OfStreams (Gen count seed)) (at_entry words image files)
    (OfAnyWord Done) written left → (written ≡ chain_of seed count) × (left ≡ image)

abbrev pub TrialIsDone : Type 0
TrialIsDone =
    (count seed : ℕ) (words : List (List ℕ)) (image : List ℕ) (files : NamedFiles)
    (written left : List ℕ)
    → Answers (OfStreams (Trial count seed)) (at_entry words image files)
    (OfAnyWord Done) written left → (written ≡ trial_line seed count) × (left ≡ image)

abbrev pub GenIsInFront : Type 0
GenIsInFront =
    (count seed : ℕ) (words : List (List ℕ)) (image : List ℕ) (files : NamedFiles) (answer : Answer)
    (written left : List ℕ)
    → Answers (OfStreams (Gen count seed)) (at_entry words image files) answer written left
    → IsFrontOf (chain_of seed count) written

abbrev pub TrialIsInFront : Type 0
TrialIsInFront =
    (count seed : ℕ) (words : List (List ℕ)) (image : List ℕ) (files : NamedFiles) (answer : Answer)
    (written left : List ℕ)
    → Answers (OfStreams (Trial count seed)) (at_entry words image files) answer written left
    → IsFrontOf (trial_line seed count) written

-- Nothing is refused to them, for no command is read.
abbrev pub NothingIsRefused : Type 0
NothingIsRefused =
    (count seed : ℕ) (words : List (List ℕ)) (image : List ℕ) (files : NamedFiles)
    (verdict : Verdict) (written left : List ℕ)
    → (Answers (OfStreams (Gen count seed)) (at_entry words image files)
    (OfAnyWord (Refused verdict)) written left → ⊥)
    × (Answers (OfStreams (Trial count seed)) (at_entry words image files)
    (OfAnyWord (Refused verdict)) written left → ⊥)

-- ---- where there is no store

-- The words that open a store.
abbrev pub OpensStore : Request → List (List ℕ) → Type 0
OpensStore (OfStreams request) words = reads_store words (store_of request) ≡ true
OpensStore (InitStore store) words = ⊥
OpensStore (DropEntry store name) words = ⊤
OpensStore (ReceiveFiles guards store at) words = ⊤
OpensStore (ListStore store) words = ⊤
OpensStore (ShowEntry store name) words = ⊤
OpensStore (CatFile store name path) words = ⊤
OpensStore (ScrubStore store) words = ⊥

-- What has no store is one that the image stands for none of, with this group at fault; and so
-- scrub finds it, by kinds and checksums alone.
abbrev pub NoStoreIsNone : Type 0
NoStoreIsNone =
    (request : Request) (words : List (List ℕ)) (image : List ℕ) (files : NamedFiles) (group : ℕ)
    (written left : List ℕ)
    → OpensStore request words
    → Answers request (at_entry words image files) (NotStore group) written left
    → StandsForNone image group

abbrev pub ScrubFinds : Type 0
ScrubFinds = (place : ℕ) (words : List (List ℕ)) (image : List ℕ) (files : NamedFiles)
    (group stored computed : ℕ) (written left : List ℕ)
    → (Answers (ScrubStore place) (at_entry words image files) (NotStore group) written left
    → IsNoStoreAt image group)
    × (Answers (ScrubStore place) (at_entry words image files)
    (Damaged group stored computed) written left → IsDamagedAt image group stored computed)

-- Where the image stands for none, they write nothing and change nothing, and so standard output
-- does not fail.
abbrev pub NothingIsDoneOverNone : Type 0
NothingIsDoneOverNone =
    (request : Request) (words : List (List ℕ)) (image : List ℕ) (files : NamedFiles) (group : ℕ)
    (answer : Answer) (written left : List ℕ)
    → OpensStore request words → StandsForNone image group
    → Answers request (at_entry words image files) answer written left
    → (written ≡ []) × (left ≡ image) × (answer ≢ OfAnyWord OutputFault)

-- And no input fails, since none was read.
abbrev pub NoInputFailsOverNone : Type 0
NoInputFailsOverNone =
    (request : Request) (words : List (List ℕ)) (image : List ℕ) (files : NamedFiles) (group : ℕ)
    (written left : List ℕ)
    → OpensStore request words → StandsForNone image group
    → (Answers request (at_entry words image files) (OfAnyWord InputFault) written left → ⊥)
    × ((file place : ℕ)
    → Answers request (at_entry words image files)
    (OfAnyWord (InputChanged file place)) written left → ⊥)

-- ---- words and what they read

-- Only words that are given files can answer that an input failed, and only words on streams that
-- one was changed.
abbrev pub InputsAreOfFiles : Type 0
InputsAreOfFiles =
    (request : Request) (words : List (List ℕ)) (image : List ℕ) (files : NamedFiles)
    (written left : List ℕ)
    → Answers request (at_entry words image files) (OfAnyWord InputFault) written left
    → ((of_streams : streams.Request) × (request ≡ OfStreams of_streams))
    ⊎ ((guards : List GuardSpec) × (place : ℕ) × (at : ℕ)
    × (request ≡ ReceiveFiles guards place at))

abbrev pub ChangesAreOfStreams : Type 0
ChangesAreOfStreams =
    (request : Request) (words : List (List ℕ)) (image : List ℕ) (files : NamedFiles)
    (file place : ℕ) (written left : List ℕ)
    → Answers request (at_entry words image files)
    (OfAnyWord (InputChanged file place)) written left
    → (of_streams : streams.Request) × (request ≡ OfStreams of_streams)
