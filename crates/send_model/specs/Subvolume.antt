-- A subvolume over any type of cell: its inodes, its names, and the number that the next inode
-- gets. A cell is what stands at one place of a file: a byte, or a byte with where it came from.
-- Source: the btrfs-receive manual, inode(7).
use Rattle.std.specs.Prelude.{◌≡◌, ◌≢◌, ℕ, zero, suc, ◌+◌, ◌<◌, ◌≤◌, ◌==◌, Bool, true, false, List, [], ◌∷◌, ◌++◌, length, Option, None, Some, Result, Ok, nat_le, IsTrue, is_some, if◌then◌else◌}
use Rattle.std.specs.declared.cmp.Ordering.TheVariants.{Less, Equal, Greater}
use Rattle.std.specs.Ordering.{nat_cmp}
use Rattle.std.specs.List.{AllByRecursion, filter}
use Rattle.send_model.specs.Refusal.{Refusal, BadPath, NoEntry, NotDirectory, IsRoot}
use Rattle.send_model.specs.Chain.{◌>>=◌, ◌>>◌, require, found}
use Rattle.send_model.specs.Attribute.{Time}
use Rattle.send_model.specs.Path.{slash, is_name, path_names, longest_path}
use Rattle.send_model.specs.Map.{Map, IsMap, bytes_cmp, named_cmp, value_at}

pub data NodeKind : Type 0 where
  File : NodeKind
  Directory : NodeKind
  SymbolicLink : NodeKind
  CharacterDevice : NodeKind
  BlockDevice : NodeKind
  Fifo : NodeKind
  Socket : NodeKind

abbrev pub is_directory_kind : NodeKind → Bool
is_directory_kind Directory = true
is_directory_kind File = false
is_directory_kind SymbolicLink = false
is_directory_kind CharacterDevice = false
is_directory_kind BlockDevice = false
is_directory_kind Fifo = false
is_directory_kind Socket = false

abbrev pub is_file_kind : NodeKind → Bool
is_file_kind File = true
is_file_kind Directory = false
is_file_kind SymbolicLink = false
is_file_kind CharacterDevice = false
is_file_kind BlockDevice = false
is_file_kind Fifo = false
is_file_kind Socket = false

-- An inode. The target is a symbolic link's, rdev a device's, the cells a file's.
pub record Inode (C : Type 0) : Type 0 where
  pub kind : NodeKind
  pub mode : ℕ
  pub uid : ℕ
  pub gid : ℕ
  pub atime : Time
  pub mtime : Time
  pub rdev : ℕ
  pub flags : ℕ
  pub target : List ℕ
  pub xattrs : Map (List ℕ) (List ℕ)
  pub cells : List C

-- Inodes by number; the inode number behind each name in each directory.
pub record Subvolume (C : Type 0) : Type 0 where
  pub inodes : Map ℕ (Inode C)
  pub names : Map (ℕ × List ℕ) ℕ
  pub next : ℕ

abbrev pub root : ℕ
root = 256

abbrev pub epoch : Time
epoch = record { secs = 0; nanos = 0 }

-- A new inode: nothing set but its kind, mode, device number and target.
abbrev pub new_inode : {C : Type 0} → NodeKind → ℕ → ℕ → List ℕ → Inode C
new_inode kind mode rdev target = record {
  kind = kind;
  mode = mode;
  uid = 0;
  gid = 0;
  atime = epoch;
  mtime = epoch;
  rdev = rdev;
  flags = 0;
  target = target;
  xattrs = [];
  cells = [];
}

abbrev pub new_directory : {C : Type 0} → Inode C
new_directory = new_inode Directory 0o700 0 []

-- A root alone, with which a full stream starts.
unfoldable pub root_alone : {C : Type 0} → Subvolume C
root_alone = record { inodes = (root, new_directory) ∷ []; names = []; next = root + 1 }

-- ---- walks

abbrev pub inode_at : {C : Type 0} → Subvolume C → ℕ → Option (Inode C)
inode_at s ino = value_at nat_cmp ino s.inodes

-- The inode number behind a name in a directory.
abbrev pub named : {C : Type 0} → Subvolume C → ℕ → List ℕ → Option ℕ
named s directory name = value_at named_cmp (directory, name) s.names

abbrev pub passes_inode : {C : Type 0} → (Inode C → Bool) → Option (Inode C) → Bool
passes_inode test None = false
passes_inode test (Some inode) = test inode

unfoldable pub is_directory : {C : Type 0} → Subvolume C → ℕ → Bool
is_directory s ino = passes_inode (λ inode. is_directory_kind inode.kind) (inode_at s ino)

unfoldable pub is_file : {C : Type 0} → Subvolume C → ℕ → Bool
is_file s ino = passes_inode (λ inode. is_file_kind inode.kind) (inode_at s ino)

-- Name by name from an inode down: the inode so far is no directory, or has no such name.
unfoldable pub walk_names : {C : Type 0} → Subvolume C → ℕ → List (List ℕ) → Result ℕ Refusal
walk_names s ino [] = Ok ino
walk_names s ino (name ∷ rest) =
    require (is_directory s ino) NotDirectory >>
    (found (named s ino name) NoEntry >>= λ below. walk_names s below rest)

-- What a path leads to from the root. The empty path is the root; a symbolic link is not followed.
unfoldable pub walk : {C : Type 0} → Subvolume C → List ℕ → Result ℕ Refusal
walk s path = found (path_names path) BadPath >>= λ names. walk_names s root names

-- A place for a name: a directory and a name in it.
pub record Spot : Type 0 where
  pub directory : ℕ
  pub name : List ℕ

-- The last of some names and those before it.
abbrev pub all_but_last : List (List ℕ) → List (List ℕ)
all_but_last [] = []
all_but_last (name ∷ []) = []
all_but_last (name ∷ more ∷ rest) = name ∷ all_but_last (more ∷ rest)

abbrev pub last_name : List (List ℕ) → Option (List ℕ)
last_name [] = None
last_name (name ∷ []) = Some name
last_name (name ∷ more ∷ rest) = last_name (more ∷ rest)

-- The place that a path names: the walk of all its names but the last leads to a directory.
unfoldable pub spot : {C : Type 0} → Subvolume C → List ℕ → Result Spot Refusal
spot s path = do
  names ← found (path_names path) BadPath
  name ← found (last_name names) IsRoot
  directory ← walk_names s root (all_but_last names)
  require (is_directory s directory) NotDirectory
  Ok (record { directory = directory; name = name })

-- The inodes that a walk passes, its start and its end among them.
unfoldable pub inodes_on_way : {C : Type 0} → Subvolume C → ℕ → List (List ℕ) → List ℕ
inodes_on_way s ino [] = ino ∷ []
inodes_on_way s ino (name ∷ rest) =
    elim (named s ino name) [ None ↦ ino ∷ [] | Some below ↦ ino ∷ inodes_on_way s below rest ]

-- ---- names of an inode

-- How many names an inode has.
unfoldable pub name_count : {C : Type 0} → Subvolume C → ℕ → ℕ
name_count s ino = length (filter (λ e. e.1 == ino) s.names)

-- A directory has no names in it.
unfoldable pub is_empty_directory : {C : Type 0} → Subvolume C → ℕ → Bool
is_empty_directory s ino = elim (filter (λ e. e.0.0 == ino) s.names) [ [] ↦ true | e ∷ es ↦ false ]

-- A path names the inode. No path of more than 4,095 bytes leads anywhere.
unfoldable pub IsNameable : {C : Type 0} → Subvolume C → ℕ → Type 0
IsNameable s ino = (path : List ℕ) × (walk s path ≡ Ok ino)

abbrev pub path_below : List ℕ → List ℕ → List ℕ
path_below [] name = name
path_below (b ∷ path) name = (b ∷ path) ++ slash ∷ name

-- A path with the inode that it leads to.
pub record Reached : Type 0 where
  pub path : List ℕ
  pub ino : ℕ

-- One name further down from a path, for each name in its directory, where the path stays short
-- enough.
abbrev pub one_further : Map (ℕ × List ℕ) ℕ → Reached → List Reached
one_further [] from = []
one_further (e ∷ names) from =
    if (e.0.0 == from.ino) then (if nat_le (length (path_below from.path e.0.1)) longest_path
    then record { path = path_below from.path e.0.1; ino = e.1 }
    ∷ one_further names from else one_further names from)
    else one_further names from

abbrev pub all_further : Map (ℕ × List ℕ) ℕ → List Reached → List Reached
all_further names [] = []
all_further names (from ∷ others) = one_further names from ++ all_further names others

-- All paths of at most so many names below those given, these among them.
unfoldable pub paths_from : ℕ → Map (ℕ × List ℕ) ℕ → List Reached → List Reached
paths_from depth names [] = []
paths_from zero names (from ∷ others) = from ∷ others
paths_from (suc depth) names (from ∷ others) =
    (from ∷ others) ++ paths_from depth names (all_further names (from ∷ others))

-- All paths of a subvolume. One of at most 4,095 bytes has at most 2,048 names.
unfoldable pub all_paths : {C : Type 0} → Subvolume C → List Reached
all_paths s = paths_from 2_048 s.names (record { path = []; ino = root } ∷ [])

-- The lesser path by bytes.
abbrev pub lesser : List ℕ → Option (List ℕ) → Option (List ℕ)
lesser path None = Some path
lesser path (Some other) =
    elim (bytes_cmp path other) [ Less ↦ Some path | Equal ↦ Some path | Greater ↦ Some other ]

abbrev pub least_path : ℕ → List Reached → Option (List ℕ)
least_path ino [] = None
least_path ino (r ∷ rest) =
    if r.ino == ino then lesser r.path (least_path ino rest) else least_path ino rest

-- The least path by bytes that names an inode, if there is one.
unfoldable pub first_path : {C : Type 0} → Subvolume C → ℕ → Option (List ℕ)
first_path s ino = least_path ino (all_paths s)

unfoldable pub is_nameable : {C : Type 0} → Subvolume C → ℕ → Bool
is_nameable s ino = is_some (first_path s ino)

-- ---- soundness

-- What every subvolume has that edits made: its inodes and names make one tree of directories.
pub record IsSound {C : Type 0} (s : Subvolume C) : Type 0 where
  pub inodes_in_order : IsMap nat_cmp s.inodes
  pub names_in_order : IsMap named_cmp s.names
  -- the root is a directory
  pub root_there : IsTrue (is_directory s root)
  -- a name stands in a directory and leads to an inode that is there, and never to the root (which
  -- is more than a tree needs, and kept by every edit)
  pub in_directory : (directory : ℕ) (name : List ℕ) (ino : ℕ) → named s directory name ≡ Some ino
      → IsTrue (is_directory s directory)
  pub leads_somewhere : (directory : ℕ) (name : List ℕ) (ino : ℕ)
      → named s directory name ≡ Some ino → IsTrue (is_some (inode_at s ino))
  pub root_unnamed : (directory : ℕ) (name : List ℕ) → named s directory name ≢ Some root
  -- each inode but the root has a name, and a directory just one
  pub has_name : (ino : ℕ) → IsTrue (is_some (inode_at s ino)) → ino ≢ root → 1 ≤ name_count s ino
  pub one_name : (ino : ℕ) → IsTrue (is_directory s ino) → name_count s ino ≤ 1
  -- from the root some names lead to each directory, so the way up from it ends at the root
  pub from_root : (directory : ℕ) → IsTrue (is_directory s directory)
      → (names : List (List ℕ)) × (walk_names s root names ≡ Ok directory)
  -- all numbers are below the next
  pub below_next : (ino : ℕ) → IsTrue (is_some (inode_at s ino)) → ino < s.next

-- All names of a subvolume are names that a path can have.
abbrev pub HasLawfulNames : {C : Type 0} → Subvolume C → Type 0
HasLawfulNames s = AllByRecursion (λ e. is_name e.0.1 ≡ true) s.names

-- The extended attributes of each inode are a map.
abbrev pub HasOrderedAttributes : {C : Type 0} → Subvolume C → Type 0
HasOrderedAttributes s = AllByRecursion (λ e. IsMap bytes_cmp e.1.xattrs) s.inodes

-- A lawful subvolume: a sound one with lawful names and ordered attributes.
pub record IsLawful {C : Type 0} (s : Subvolume C) : Type 0 where
  pub sound : IsSound s
  pub lawful_names : HasLawfulNames s
  pub ordered_attributes : HasOrderedAttributes s
