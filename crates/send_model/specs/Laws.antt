-- What the definitions mean together: laws that every later promise leans on. This program's own.
use Rattle.std.specs.Prelude.{◌≡◌, ◌≢◌, ℕ, ◌+◌, ◌-◌, ◌<◌, ◌≤◌, true, false, List, [], ◌∷◌, ◌++◌, map, length, take, drop, Option, None, Some, Ok}
use Rattle.std.specs.declared.cmp.Ordering.TheVariants.{Greater}
use Rattle.std.specs.List.{AllByRecursion}
use Rattle.send_model.specs.Attribute.{IsBytes}
use Rattle.send_model.specs.Command.{Command, Write, End, row, kind_of}
use Rattle.send_model.specs.Spelling.{Attribute, body_of, Spells, IsSpellable, stream_header, canonical, canonical_all}
use Rattle.send_model.specs.Reading.{Item, Reading, Frame, Front, Whole, is_version, frame_at, attributes_at, command_of, reads, input, item_at, front_of}
use Rattle.send_model.specs.Map.{bytes_cmp}
use Rattle.send_model.specs.Subvolume.{Subvolume, IsNameable, walk, first_path, is_nameable}
use Rattle.send_model.specs.Edit.{edit}
use Rattle.send_model.specs.Store.{Key, Head, Store, Part, State, step, edit_part, head_of, IsStore}
use Rattle.send_model.specs.Receive.{IsAccepted, run_items, byte_cells, start_of, receive_of, receive}
use Rattle.send_model.specs.Order.{heads, commands_of, IsConsecutive, judge_of}
use Rattle.send_model.specs.Outside.{part_uuids, base_of, base, keys_outside, outside, FindsLawful, FindsSayable}
use Rattle.send_model.specs.Provenance.{Traced, traced_store, ranges_from, uncarried_in, runs_in}
use Rattle.send_model.specs.Counts.{literal, clones, is_clone, is_end, kept_from}
use Rattle.send_model.specs.Composed.{first_head, last_head, head_command, version_of, composed_from, composed_of}
use Rattle.send_model.specs.Generated.{chain_items}
use Rattle.send_model.specs.Cells.{recelled_state, recelled_step}
use Rattle.send_model.specs.Headline.{AreComposed, IsComposedOf, IsComposed, IsUnfinished, output_of, output_for, CanReceiveOf, last_entry}

-- A command that a version can say.
pub record CanWrite (version : ℕ) (c : Command) : Type 0 where
  pub spellable : IsSpellable version c

-- The bytes in front are read, rule by rule, as one frame of a command, and after it others follow.
pub record IsReadAs (version : ℕ) (bytes rest : List ℕ) (attributes : List Attribute)
    (c : Command) : Type 0 where
  pub frame : frame_at (bytes ++ rest)
      ≡ Ok (record {
        number = (row (kind_of c)).number;
        body = body_of version attributes;
        rest = rest;
      })
  pub body : attributes_at version (body_of version attributes) ≡ Ok attributes
  pub command : command_of version (row (kind_of c)).number attributes ≡ Ok c

-- Whatever spells a command is read as that command, whatever follows it: every command of either
-- version.
abbrev pub SpelledIsRead : Type 0
SpelledIsRead =
    (version : ℕ) (bytes rest : List ℕ) (c : Command) (s : Spells version bytes c)
    → IsReadAs version bytes rest s.attributes c

-- So it is the item in front.
abbrev pub SpelledIsFront : Type 0
SpelledIsFront =
    (file version number offset : ℕ) (bytes rest : List ℕ) (c : Command)
    (s : Spells version bytes c)
    → front_of file version number offset (bytes ++ rest)
    ≡ Ok (record { item = item_at file version number offset s.attributes c; rest = rest })

-- What is in front was spelled: one frame for the item's command, and then what follows it.
pub record WasSpelled (file version number offset : ℕ) (bytes : List ℕ)
    (front : Front) : Type 0 where
  pub frame : List ℕ
  pub spells : Spells version frame front.item.command
  pub whole : bytes ≡ frame ++ front.rest
  pub item_is : front.item ≡ item_at file version number offset spells.attributes front.item.command

-- Where bytes are read as a command, they spell it.
abbrev pub ReadWasSpelled : Type 0
ReadWasSpelled = (file version number offset : ℕ) (bytes : List ℕ) (front : Front) → IsBytes bytes
    → front_of file version number offset bytes ≡ Ok front
    → WasSpelled file version number offset bytes front

-- Frame, attributes and command, rule by rule.
abbrev pub RulesWereSpelled : Type 0
RulesWereSpelled =
    (version : ℕ) (bytes : List ℕ) (frame : Frame) (attributes : List Attribute) (c : Command)
    → IsBytes bytes
    → frame_at bytes ≡ Ok frame
    → attributes_at version frame.body ≡ Ok attributes
    → command_of version frame.number attributes ≡ Ok c
    → (front : List ℕ) × (spells : Spells version front c) × (bytes ≡ front ++ frame.rest)
    × (spells.attributes ≡ attributes)

-- Where a WRITE is read, its data stand at the place that the item says.
abbrev pub DataIsThere : Type 0
DataIsThere =
    (file version number offset : ℕ) (bytes : List ℕ) (front : Front) (path : List ℕ) (at : ℕ)
    (written : List ℕ)
    → IsBytes bytes → front_of file version number offset bytes ≡ Ok front
    → front.item.command ≡ Write path at written
    → (offset ≤ front.item.data_at)
    × (take (length written) (drop (front.item.data_at - offset) bytes) ≡ written)

-- A frame has one reading: bytes that spell a command spell no other.
abbrev pub FrameHasOneReading : Type 0
FrameHasOneReading =
    (version : ℕ) (bytes : List ℕ) (c d : Command) → Spells version bytes c → Spells version bytes d
    → c ≡ d

-- The canonical spelling of a command spells it; and what is spelled in any way can be spelled
-- canonically.
abbrev pub CanonicalSpells : Type 0
CanonicalSpells =
    (version : ℕ) (c : Command) → IsSpellable version c → Spells version (canonical version c) c

abbrev pub SpelledIsSpellable : Type 0
SpelledIsSpellable =
    (version : ℕ) (bytes : List ℕ) (c : Command) → Spells version bytes c → IsSpellable version c

-- What version 1 can say, version 2 can.
abbrev pub SecondSaysMore : Type 0
SecondSaysMore = (c : Command) → IsSpellable 1 c → IsSpellable 2 c

-- One stream of commands, END last and only there.
abbrev pub stream_of : ℕ → List Command → List ℕ
stream_of version cs = stream_header version ++ canonical_all version (cs ++ End ∷ [])

abbrev pub AreInner : ℕ → List Command → Type 0
AreInner version cs = AllByRecursion (λ c. CanWrite version c × (is_end c ≡ false)) cs

-- A stream that was spelled is read whole, with its commands.
pub record StreamIsRead (file version : ℕ) (cs : List Command) : Type 0 where
  pub commands : commands_of (reads file (stream_of version cs)).items ≡ cs ++ End ∷ []
  pub whole : (reads file (stream_of version cs)).end ≡ Whole

-- A stream cut short is not read as whole.
abbrev pub CutIsUnfinished : Type 0
CutIsUnfinished =
    (version : ℕ) (cs : List Command) (k : ℕ) → is_version version ≡ true → AreInner version cs
    → k < length (stream_of version cs) → IsUnfinished (take k (stream_of version cs))

-- A command that is neither a head nor END nor a clone looks at nothing but the part's own
-- subvolume.
abbrev pub EditLooksAtItsPart : Type 0
EditLooksAtItsPart =
    (put : List ℕ) (store : Store ℕ) (part : Part ℕ) (c : Command) → is_clone c ≡ false
    → is_end c ≡ false → head_of c ≡ None
    → edit_part 0 put store part c ≡ edit 0 put c part.subvolume

-- A step does not look at cells: over other cells, of whatever type, it is the same step.
abbrev pub StepKeepsCells : Type 0 → Type 0 → Type 0
StepKeepsCells C D = (f : C → D) (zero_cell : C) (put : List C) (state : State C) (c : Command)
    → step (f zero_cell) (map f put) (recelled_state f state) c
    ≡ recelled_step f (step zero_cell put state c)

-- Items that a base takes in order, all commands among them and whatever of them can be read: their
-- composed commands do what the headline says, where each subvolume of the base that they name is
-- lawful.
abbrev pub ItemsHold : Type 0
ItemsHold = (store : Store ℕ) (items : List Item) → IsConsecutive items
    → IsAccepted (run_items 0 byte_cells (start_of (base_of store items)) items)
    → FindsLawful (base_of store items) (keys_outside items)
    → AreComposed (base_of store items) items (composed_of (base_of store items) items)

-- Where the items' own versions can say their commands, and each subvolume of the base that they
-- name can be said, the version of the composed stream can say the composed ones.
abbrev pub ItemsSpelled : Type 0
ItemsSpelled = (store : Store ℕ) (items : List Item) → IsConsecutive items
    → IsAccepted (run_items 0 byte_cells (start_of (base_of store items)) items)
    → FindsSayable (base_of store items) (keys_outside items)
    → AllByRecursion (λ item. IsSpellable item.version item.command) items
    → AllByRecursion (IsSpellable (version_of items)) (composed_of (base_of store items) items)

-- What stands for first items that a base takes, as the part of the last head of all, can be
-- written in the version of the whole stream, where the items' own versions can say all of them,
-- and the format each subvolume of the base that they name.
abbrev pub FrontsAreWritable : Type 0
FrontsAreWritable =
    (store : Store ℕ) (all items more : List Item) (first last : Head) → all ≡ items ++ more
    → IsAccepted (run_items 0 byte_cells (start_of (base_of store all)) items)
    → FindsSayable (base_of store all) (keys_outside all)
    → AllByRecursion
    (λ item. CanWrite item.version item.command × (is_version item.version ≡ true)) all
    → first_head (heads items) ≡ Some first → last_head (heads all) ≡ Some last
    → AreInner (version_of all) (head_command last.name last.key first.parent
    ∷ composed_from (base_of store all) (part_uuids all) last.key
    (start_of (traced_store (base_of store all))) None items)

-- A whole reading, as a file of bytes gives it and whatever of it is renamed: the last command is
-- END, and each command can be said in its own version, which is one that is read.
pub record IsWhole (reading : Reading) : Type 0 where
  pub whole : reading.end ≡ Whole
  pub others : List Command
  pub ends : commands_of reading.items ≡ others ++ End ∷ []
  pub writable : AllByRecursion
      (λ item. CanWrite item.version item.command × (is_version item.version ≡ true)) reading.items

-- A whole reading that a base takes in order: the stream of its composed commands is what the
-- headline says, where each subvolume of the base that it names can be said.
abbrev pub ReadingsHold : Type 0
ReadingsHold = (store : Store ℕ) (reading : Reading) → IsWhole reading → IsConsecutive reading.items
    → IsAccepted (receive_of (base_of store reading.items) reading)
    → FindsSayable (base_of store reading.items) (keys_outside reading.items)
    → IsComposedOf (base_of store reading.items) reading
    (output_of None (base_of store reading.items) reading.items)

-- Where it has no clones, the base may find subvolumes of any kind.
abbrev pub PlainReadingsHold : Type 0
PlainReadingsHold =
    (store : Store ℕ) (reading : Reading) → IsWhole reading → IsConsecutive reading.items
    → IsAccepted (receive_of (base_of store reading.items) reading)
    → AllByRecursion (λ c. is_clone c ≡ false) (commands_of reading.items)
    → IsComposedOf (base_of store reading.items) reading
    (output_of None (base_of store reading.items) reading.items)

-- Files of bytes that hold a part and are read to a whole end are a whole reading.
abbrev pub FilesAreWhole : Type 0
FilesAreWhole = (files : List (List ℕ)) → AllByRecursion IsBytes files → (input files).end ≡ Whole
    → heads (input files).items ≢ [] → IsWhole (input files)

-- So it is of files of bytes that a base takes in order.
abbrev pub FilesHold : Type 0
FilesHold = (store : Store ℕ) (files : List (List ℕ)) → AllByRecursion IsBytes files
    → (input files).end ≡ Whole
    → IsConsecutive (input files).items → IsAccepted (receive (base store files) files)
    → FindsSayable (base store files) (outside files)
    → IsComposed (base store files) files (output_for None (base store files) files)

-- Where they have no clones, the base may find subvolumes of any kind.
abbrev pub PlainFilesHold : Type 0
PlainFilesHold =
    (store : Store ℕ) (files : List (List ℕ)) → AllByRecursion IsBytes files
    → (input files).end ≡ Whole
    → IsConsecutive (input files).items → IsAccepted (receive (base store files) files)
    → AllByRecursion (λ c. is_clone c ≡ false) (commands_of (input files).items)
    → IsComposed (base store files) files (output_for None (base store files) files)

-- A base that takes items can itself receive what is composed from them: so the headline speaks of
-- one store at the least, which is not empty where the base is not.
abbrev pub BaseCanReceive : Type 0
BaseCanReceive = (base : Store ℕ) (items : List Item) (last : Head) → IsStore base
    → IsAccepted (run_items 0 byte_cells (start_of base) items)
    → last_head (heads items) ≡ Some last → CanReceiveOf base items last base

-- So it takes what was written, keeps what it had, and gets the last part's subvolume.
abbrev pub BaseReceives : Type 0
BaseReceives =
    (base : Store ℕ) (reading : Reading) (written : List ℕ) (c : IsComposedOf base reading written)
    → IsStore base
    → IsAccepted (receive base (written ∷ []))
    × ((receive base (written ∷ [])).state.store ≡ base
    ++ last_entry c.first c.last c.subvolume ∷ [])

-- ---- paths

-- A path leads to an inode, and is not after any other path that does, by bytes. No path of more
-- than 4,095 bytes leads anywhere.
pub record IsLeastPath {C : Type 0} (s : Subvolume C) (ino : ℕ) (path : List ℕ) : Type 0 where
  pub leads : walk s path ≡ Ok ino
  pub least : (other : List ℕ) → walk s other ≡ Ok ino → bytes_cmp path other ≢ Greater

-- The first path of an inode is the least of all that lead to it, and there is none exactly where
-- none does; and it can be named exactly where a path names it.
pub record FirstPathsAreLeast {C : Type 0} (s : Subvolume C) : Type 0 where
  pub some : (ino : ℕ) (path : List ℕ) → first_path s ino ≡ Some path → IsLeastPath s ino path
  pub only : (ino : ℕ) (path : List ℕ) → IsLeastPath s ino path → first_path s ino ≡ Some path
  pub none : (ino : ℕ) → first_path s ino ≡ None → (path : List ℕ) → walk s path ≢ Ok ino
  pub nowhere : (ino : ℕ) → ((path : List ℕ) → walk s path ≢ Ok ino) → first_path s ino ≡ None
  pub nameable : (ino : ℕ) → is_nameable s ino ≡ true → IsNameable s ino
  pub named : (ino : ℕ) → IsNameable s ino → is_nameable s ino ≡ true

-- ---- counts

-- From every state, the commands that stand for items carry the items' own bytes and the uncarried
-- cells of the redirected ranges, and have the clones that are not redirected and one for each run
-- of carried blocks.
pub record AreCounted (store : Store ℕ) (parts : List (List ℕ)) (last : Key) (state : State Traced)
    (current : Option (List ℕ))
    (items : List Item) : Type 0 where
  pub bytes : literal (composed_from store parts last state current items)
      ≡ literal (commands_of items) + uncarried_in store (ranges_from parts state current items)
  pub clone_count : clones (composed_from store parts last state current items)
      ≡ kept_from parts current (commands_of items) + runs_in store
      (ranges_from parts state current items)

-- ---- generated chains

-- The chain that a number gives is lawful: over no store, its commands are taken, and its parts
-- follow each other.
abbrev pub ChainIsLawful : Type 0
ChainIsLawful =
    (seed count : ℕ) → 1 ≤ count → count ≤ 4_096
    → judge_of [] (record { items = chain_items seed count; end = Whole }) ≡ None
