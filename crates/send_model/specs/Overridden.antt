-- What is said in front of files: whoever gives a file to this program may give a name with it,
-- which then stands in place of the name that its heads have; and for a UUID the CTRANSID that is
-- meant wherever the file names that UUID as a parent or as the source of a clone. Nothing else of
-- what was read changes. This program's own.
use Rattle.std.specs.Prelude.{◌≡◌, ◌<◌, ℕ, ◌+◌, ◌==◌, ◌^◌, ◌↔◌, Bool, true, false, ◌&&◌, List, [], ◌∷◌, map, length, Option, None, Some, IfSome, is_none, if◌then◌else◌}
use Rattle.std.specs.List.{AllByRecursion}
use Rattle.std.specs.Option.{option_map}
use Rattle.std.specs.Str.{bytes_eq}
use Rattle.send_model.specs.Refusal.{BadName}
use Rattle.send_model.specs.Attribute.{IsBytes}
use Rattle.send_model.specs.Command.{Command, Subvol, Snapshot, MkFile, MkDir, MkNod, MkFifo, MkSock, Symlink, Rename, Link, Unlink, Rmdir, SetXattr, RemoveXattr, Write, Clone, Truncate, Chmod, Chown, Utimes, End, UpdateExtent, Fallocate, FileAttr}
use Rattle.send_model.specs.Reading.{Item, Reading, Whole, reads, joined, input, is_version}
use Rattle.send_model.specs.Path.{is_name}
use Rattle.send_model.specs.Store.{Key, Head, head_of, Store, State, completed, step}
use Rattle.send_model.specs.Receive.{receive_of, IsAccepted}
use Rattle.send_model.specs.Order.{heads, commands_of, IsConsecutive}
use Rattle.send_model.specs.Outside.{part_uuids, base_of, is_among, keys_named, all_keys_named, keys_outside, FindsSayable}
use Rattle.send_model.specs.Counts.{literal, kept_of}
use Rattle.send_model.specs.Composed.{version_of}
use Rattle.send_model.specs.Headline.{IsComposedOf, output_of}
use Rattle.send_model.specs.Due.{Limited, accepted_line_of}
use Rattle.send_model.specs.Lawful.{IsLawfulStore}
use Rattle.send_model.specs.Laws.{CanWrite, IsWhole}

-- ---- what is overridden

-- A head with another name in place of its own, whose key and parent stay; any other command as it
-- is.
abbrev pub with_name : List ℕ → Command → Command
with_name new (Subvol uuid ctransid path) = Subvol uuid ctransid new
with_name new (Snapshot uuid ctransid path clone_uuid clone_ctransid) =
    Snapshot uuid ctransid new clone_uuid clone_ctransid
with_name new (MkFile path) = MkFile path
with_name new (MkDir path) = MkDir path
with_name new (MkNod mode rdev path) = MkNod mode rdev path
with_name new (MkFifo path) = MkFifo path
with_name new (MkSock path) = MkSock path
with_name new (Symlink path path_link) = Symlink path path_link
with_name new (Rename path path_to) = Rename path path_to
with_name new (Link path path_link) = Link path path_link
with_name new (Unlink path) = Unlink path
with_name new (Rmdir path) = Rmdir path
with_name new (SetXattr name value path) = SetXattr name value path
with_name new (RemoveXattr name path) = RemoveXattr name path
with_name new (Write path offset bytes) = Write path offset bytes
with_name new (Clone path offset clone_uuid clone_ctransid clone_path clone_offset clone_len) =
    Clone path offset clone_uuid clone_ctransid clone_path clone_offset clone_len
with_name new (Truncate size path) = Truncate size path
with_name new (Chmod mode path) = Chmod mode path
with_name new (Chown uid gid path) = Chown uid gid path
with_name new (Utimes mtime atime path) = Utimes mtime atime path
with_name new End = End
with_name new (UpdateExtent size path offset) = UpdateExtent size path offset
with_name new (Fallocate size path offset mode) = Fallocate size path offset mode
with_name new (FileAttr path flags) = FileAttr path flags

-- A command with the name that is given for its file, if one is.
abbrev pub command_named : Option (List ℕ) → Command → Command
command_named None command = command
command_named (Some name) command = with_name name command

-- The CTRANSID that is meant where a command names a UUID with its own CTRANSID: that of the first
-- key of this UUID, if there is one.
abbrev pub meant_ctransid : List Key → List ℕ → ℕ → ℕ
meant_ctransid [] uuid ctransid = ctransid
meant_ctransid (key ∷ keys) uuid ctransid =
    if bytes_eq key.uuid uuid then key.ctransid else meant_ctransid keys uuid ctransid

-- The key that is meant where a command names one. Its UUID stays.
abbrev pub meant_key : List Key → Key → Key
meant_key keys key =
    record { uuid = key.uuid; ctransid = meant_ctransid keys key.uuid key.ctransid }

-- A snapshot's parent and a clone's source with the CTRANSID that is meant. All else of them stays,
-- and any other command is as it is.
abbrev pub with_parents : List Key → Command → Command
with_parents keys (Subvol uuid ctransid path) = Subvol uuid ctransid path
with_parents keys (Snapshot uuid ctransid path clone_uuid clone_ctransid) =
    Snapshot uuid ctransid path clone_uuid (meant_ctransid keys clone_uuid clone_ctransid)
with_parents keys (MkFile path) = MkFile path
with_parents keys (MkDir path) = MkDir path
with_parents keys (MkNod mode rdev path) = MkNod mode rdev path
with_parents keys (MkFifo path) = MkFifo path
with_parents keys (MkSock path) = MkSock path
with_parents keys (Symlink path path_link) = Symlink path path_link
with_parents keys (Rename path path_to) = Rename path path_to
with_parents keys (Link path path_link) = Link path path_link
with_parents keys (Unlink path) = Unlink path
with_parents keys (Rmdir path) = Rmdir path
with_parents keys (SetXattr name value path) = SetXattr name value path
with_parents keys (RemoveXattr name path) = RemoveXattr name path
with_parents keys (Write path offset bytes) = Write path offset bytes
with_parents keys (Clone path offset clone_uuid clone_ctransid clone_path clone_offset clone_len) =
    Clone path offset clone_uuid
    (meant_ctransid keys clone_uuid clone_ctransid) clone_path clone_offset clone_len
with_parents keys (Truncate size path) = Truncate size path
with_parents keys (Chmod mode path) = Chmod mode path
with_parents keys (Chown uid gid path) = Chown uid gid path
with_parents keys (Utimes mtime atime path) = Utimes mtime atime path
with_parents keys End = End
with_parents keys (UpdateExtent size path offset) = UpdateExtent size path offset
with_parents keys (Fallocate size path offset mode) = Fallocate size path offset mode
with_parents keys (FileAttr path flags) = FileAttr path flags

-- What is said in front of a file: a name for its parts, and keys of subvolumes that it names, each
-- with the CTRANSID that is meant.
pub record Override : Type 0 where
  pub name : Option (List ℕ)
  pub parents : List Key

-- Nothing is said.
abbrev pub no_override : Override
no_override = record { name = None; parents = [] }

-- Whether nothing is said.
abbrev pub says_nothing : Override → Bool
says_nothing override = is_none override.name && (length override.parents == 0)

abbrev pub command_as : Override → Command → Command
command_as override command = with_parents override.parents (command_named override.name command)

-- What is said in front of files, in their order. In front of a file behind the last of these
-- nothing is said.
abbrev pub Overrides : Type 0
Overrides = List Override

-- What is said in front of a file, where the first of the overrides is for the file of the given
-- number.
abbrev pub override_from : ℕ → Overrides → ℕ → Override
override_from number [] file = no_override
override_from number (override ∷ overrides) file =
    if number == file then override else override_from (number + 1) overrides file

abbrev pub override_for : Overrides → ℕ → Override
override_for overrides file = override_from 1 overrides file

-- An item with what is said in front of its file. Its file, its number, its offset, its version and
-- the place of its data stay.
abbrev pub overridden_as : Override → Item → Item
overridden_as override item = record item { command = command_as override item.command }

-- Each item, by what is said in front of its file.
abbrev pub overridden_item : Overrides → Item → Item
overridden_item overrides item = overridden_as (override_for overrides item.file) item

abbrev pub overridden_items : Overrides → List Item → List Item
overridden_items overrides items = map (overridden_item overrides) items

-- What was read, with these overrides. It ends as it ended.
abbrev pub overridden : Overrides → Reading → Reading
overridden overrides reading =
    record { items = overridden_items overrides reading.items; end = reading.end }

-- The same of what is read up to the limit of a file.
abbrev pub overridden_limited : Overrides → Limited → Limited
overridden_limited overrides read =
    record { items = overridden_items overrides read.items; stop = read.stop }

-- ---- lawful overrides

-- Names that an attribute has room for: bytes, fewer than 2^16. Whether they are lawful names of a
-- subvolume is for the head to say.
pub record IsNewName (name : List ℕ) : Type 0 where
  pub bytes : IsBytes name
  pub short : length name < 2 ^ 16

-- Keys whose CTRANSIDs an attribute has room for.
abbrev pub AreNumbered : List Key → Type 0
AreNumbered keys = AllByRecursion (λ key. key.ctransid < 2 ^ 64) keys

-- What can be said in commands.
pub record IsLawfulOverride (override : Override) : Type 0 where
  pub name : IfSome override.name IsNewName
  pub parents : AreNumbered override.parents

abbrev pub AreLawfulOverrides : Overrides → Type 0
AreLawfulOverrides overrides = AllByRecursion IsLawfulOverride overrides

-- The same with names of bytes, whatever their length.
pub record IsByteOverride (override : Override) : Type 0 where
  pub name : IfSome override.name IsBytes
  pub parents : AreNumbered override.parents

abbrev pub AreByteOverrides : Overrides → Type 0
AreByteOverrides overrides = AllByRecursion IsByteOverride overrides

-- Names alone are said.
abbrev pub HaveNoParents : Overrides → Type 0
HaveNoParents overrides = AllByRecursion (λ override. override.parents ≡ []) overrides

-- ---- laws

abbrev pub uuids_of : List Key → List (List ℕ)
uuids_of keys = map (λ key. key.uuid) keys

-- Overrides change neither how many items and parts there are, nor the UUIDs of parts and of what
-- they name, nor the version that is written, nor any count.
pub record KeepsAllElse (overrides : Overrides) (items : List Item) : Type 0 where
  pub items_count : length (overridden_items overrides items) ≡ length items
  pub heads_count : length (heads (overridden_items overrides items)) ≡ length (heads items)
  pub parts : part_uuids (overridden_items overrides items) ≡ part_uuids items
  pub part_keys : map (λ head. head.key) (heads (overridden_items overrides items))
      ≡ map (λ head. head.key) (heads items)
  pub named_uuids : uuids_of (all_keys_named (commands_of (overridden_items overrides items)))
      ≡ uuids_of (all_keys_named (commands_of items))
  pub outside_uuids : uuids_of (keys_outside (overridden_items overrides items))
      ≡ uuids_of (keys_outside items)
  pub version : version_of (overridden_items overrides items) ≡ version_of items
  pub bytes : literal (commands_of (overridden_items overrides items)) ≡ literal (commands_of items)
  pub kept : kept_of (overridden_items overrides items) ≡ kept_of items
  pub accepted : accepted_line_of (overridden_items overrides items) ≡ accepted_line_of items

-- And names alone change no key that is named, nor the order of parts.
pub record NamesKeepKeys (overrides : Overrides) (items : List Item) : Type 0 where
  pub named : all_keys_named (commands_of (overridden_items overrides items))
      ≡ all_keys_named (commands_of items)
  pub outside : keys_outside (overridden_items overrides items) ≡ keys_outside items
  pub follow : IsConsecutive (overridden_items overrides items) ↔ IsConsecutive items

abbrev pub NamesAloneKeepKeys : Type 0
NamesAloneKeepKeys =
    (overrides : Overrides) (items : List Item) → HaveNoParents overrides
    → NamesKeepKeys overrides items

-- An item with the name alone that is given for its file.
abbrev pub named_item : Overrides → Item → Item
named_item overrides item =
    record item { command = command_named (override_for overrides item.file).name item.command }

-- None of the UUIDs that a command names has another CTRANSID here.
abbrev pub NamesNone : List Key → Command → Type 0
NamesNone keys command =
    AllByRecursion (λ named. is_among (uuids_of keys) named.uuid ≡ false) (keys_named command)

-- An item keeps its place. The keys that it names are those that are meant. Where no name is said
-- it is as it was if it names no UUID with another CTRANSID; and so it is where it is no head.
-- Where no key is said, its name alone is another.
pub record ChangesNamesAndParents (overrides : Overrides) (item : Item) : Type 0 where
  pub place : record (overridden_item overrides item) { command = item.command } ≡ item
  pub keys : keys_named (overridden_item overrides item).command
      ≡ map (meant_key (override_for overrides item.file).parents) (keys_named item.command)
  pub other : head_of item.command ≡ None
      → NamesNone (override_for overrides item.file).parents item.command
      → overridden_item overrides item ≡ item
  pub unnamed : (override_for overrides item.file).name ≡ None
      → NamesNone (override_for overrides item.file).parents item.command
      → overridden_item overrides item ≡ item
  pub parentless : (override_for overrides item.file).parents ≡ []
      → overridden_item overrides item ≡ named_item overrides item

-- Where names alone are said, the reading has these names in place of those of its heads, and
-- nothing else is another.
abbrev pub NamesAloneRename : Type 0
NamesAloneRename = (overrides : Overrides) (reading : Reading) → HaveNoParents overrides
    → overridden overrides reading
    ≡ record { items = map (named_item overrides) reading.items; end = reading.end }

-- So files may be overridden one after the other, each by what is said in front of it.
abbrev pub OverriddenOneByOne : Type 0
OverriddenOneByOne =
    (overrides : Overrides) (first others : Reading)
    → overridden overrides (joined first others)
    ≡ joined (overridden overrides first) (overridden overrides others)

-- All items of a file have its one override.
abbrev pub FileHasOneOverride : Type 0
FileHasOneOverride = (overrides : Overrides) (file : ℕ) (bytes : List ℕ)
    → overridden overrides (reads file bytes)
    ≡ record {
      items = map (overridden_as (override_for overrides file))
          (reads file bytes).items;
      end = (reads file bytes).end;
    }

-- A head keeps its own key. Its name is the one that is given, if one is, and its parent the one
-- that is meant.
abbrev pub head_as : Override → Head → Head
head_as override head = record {
  name = elim override.name [ None ↦ head.name | Some name ↦ name ];
  key = head.key;
  parent = option_map (meant_key override.parents) head.parent;
}

abbrev pub HasNewHead : Type 0
HasNewHead = (overrides : Overrides) (item : Item) (head : Head) → head_of item.command ≡ Some head
    → head_of (overridden_item overrides item).command
    ≡ Some (head_as (override_for overrides item.file) head)

-- A head of a file for which a name is given and no key has this name, its own key and its own
-- parent.
abbrev pub HasNewName : Type 0
HasNewName = (overrides : Overrides) (item : Item) (name : List ℕ) (head : Head)
    → (override_for overrides item.file).name ≡ Some name
    → (override_for overrides item.file).parents ≡ [] → head_of item.command ≡ Some head
    → head_of (overridden_item overrides item).command
    ≡ Some (record { name = name; key = head.key; parent = head.parent })

-- A name that is no lawful one is refused at the head.
abbrev pub BadNameStands : Type 0 → Type 0
BadNameStands C =
    (overrides : Overrides) (item : Item) (name : List ℕ) (head : Head) (x : C) (put : List C)
    (state : State C)
    → (override_for overrides item.file).name ≡ Some name → head_of item.command ≡ Some head
    → is_name name ≡ false
    → (step x put state (overridden_item overrides item).command).refusal ≡ Some BadName

-- Commands that their versions can say are such ones with what is said in front of files; so a
-- whole reading stays one.
abbrev pub OverriddenIsWritable : Type 0
OverriddenIsWritable = (overrides : Overrides) (items : List Item) → AreLawfulOverrides overrides
    → AllByRecursion
    (λ item. CanWrite item.version item.command × (is_version item.version ≡ true)) items
    → AllByRecursion (λ item. CanWrite item.version item.command × (is_version item.version ≡ true))
    (overridden_items overrides items)

abbrev pub OverriddenIsWhole : Type 0
OverriddenIsWhole =
    (overrides : Overrides) (reading : Reading) → AreLawfulOverrides overrides → IsWhole reading
    → IsWhole (overridden overrides reading)

-- The headline for files with names of bytes, of whatever length, and with keys in front of them:
-- where the base takes the parts of this reading in order, the stream of their composed commands is
-- what the headline says of this reading.
abbrev pub OverriddenFilesHold : Type 0
OverriddenFilesHold =
    (store : Store ℕ) (overrides : Overrides) (files : List (List ℕ)) → AllByRecursion IsBytes files
    → AreByteOverrides overrides
    → let reading = overridden overrides (input files) in let base = base_of store reading.items in
    reading.end ≡ Whole → IsConsecutive reading.items → IsAccepted (receive_of base reading)
    → FindsSayable base (keys_outside reading.items)
    → IsComposedOf base reading (output_of None base reading.items)

-- What is received into a lawful store, with lawful overrides, leaves a lawful one, wherever it
-- ends.
abbrev pub OverriddenLeaveLawful : Type 0
OverriddenLeaveLawful =
    (overrides : Overrides) (store : Store ℕ) (files : List (List ℕ)) → IsLawfulStore store
    → AllByRecursion IsBytes files → AreLawfulOverrides overrides
    → let received =
    receive_of store (overridden overrides (input files)) in
    IsLawfulStore (completed received.state) × IsLawfulStore received.state.store
