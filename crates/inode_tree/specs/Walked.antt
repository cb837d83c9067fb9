-- What a tree remembers of the last paths that were walked. Source: this program's own.
use Rattle.std.specs.Prelude.{◌≡◌, ℕ, ◌<◌, ◌≤◌, Bool, true, false, List, [], ◌∷◌, ◌++◌, length, Option, None, Some, Result, Ok, Err, IsTrue, ◌⊎◌}
use Rattle.std.specs.List.{list_all}
use Rattle.send_model.specs.Refusal as meant
use Rattle.send_model.specs.Path.{slash, is_name, longest_path}
use Rattle.send_model.specs.Subvolume.{Subvolume, Spot, root, is_directory, walk_names, walk, spot}
use Rattle.sx_base.specs.declared.refusal.Refusal.{Refusal}
use Rattle.sx_base.specs.Refusals.{refusal_of}
use Rattle.inode_tree.specs.Places.{spot_from}

-- The bytes in front of the last name of a path, and the directory that they lead to; a path, and
-- where it is known what it leads to.
pub record Walked : Type 0 where
  pub front : List ℕ
  pub directory : ℕ
  pub path : List ℕ
  pub ino : Option ℕ

-- Nothing but the root, which no bytes lead to.
abbrev pub nothing : Walked
nothing = record { front = []; directory = root; path = []; ino = None }

-- Names with a slash behind each.
abbrev pub front_of : List (List ℕ) → List ℕ
front_of [] = []
front_of (name ∷ names) = name ++ slash ∷ front_of names

-- Bytes that are names with a slash behind each, which lead to a directory.
pub record IsFront {C : Type 0} (s : Subvolume C) (front : List ℕ) (directory : ℕ) : Type 0 where
  pub names : List (List ℕ)
  pub lawful : list_all is_name names ≡ true
  pub spelled : front ≡ front_of names
  pub leads : walk_names s root names ≡ Ok directory
  pub there : IsTrue (is_directory s directory)

-- A path leads to an inode, where one is given.
abbrev pub LeadsTo : {C : Type 0} → Subvolume C → List ℕ → Option ℕ → Type 0
LeadsTo s path None = Unit {0}
LeadsTo s path (Some ino) = walk s path ≡ Ok ino

-- What is remembered is so.
pub record IsKnown {C : Type 0} (s : Subvolume C) (last : Walked) : Type 0 where
  pub front : IsFront s last.front last.directory
  pub path : LeadsTo s last.path last.ino

-- Nothing is said of a tree for which memory ran out in the middle of a change.
abbrev pub IsRemembered : {C : Type 0} → Bool → Subvolume C → Walked → Type 0
IsRemembered true s last = IsKnown s last
IsRemembered false s last = Unit {0}

-- ---- what becomes of it

-- The front and its directory are remembered, or as before, or forgotten.
abbrev pub LearnsFront : Walked → Walked → List ℕ → ℕ → Type 0
LearnsFront old new front directory =
    (new ≡ record old { front = front; directory = directory })
    ⊎ ((new ≡ old) ⊎ (new ≡ record old { front = []; directory = root }))

-- The path and its inode are remembered, or it is forgotten what the path leads to.
abbrev pub LearnsPath : Walked → Walked → List ℕ → ℕ → Type 0
LearnsPath old new path ino =
    (new ≡ record old { path = path; ino = Some ino })
    ⊎ (new ≡ record old { path = []; ino = None })

-- A name goes or moves: what a path leads to is forgotten, and where the name was a directory's,
-- the front is too.
abbrev pub without_name : Bool → Walked → Walked
without_name true last = record last { front = []; directory = root; ino = None }
without_name false last = record last { ino = None }

-- ---- what it is used for

-- A path begins with a front and goes on behind it.
pub record GoesOn (front path rest : List ℕ) : Type 0 where
  pub is : path ≡ front ++ rest
  pub some : 0 < length rest
  pub short : length path ≤ longest_path

-- The place that names give from a directory on. With no name it is the root, which has no place.
abbrev pub spot_below : {C : Type 0} → Subvolume C → ℕ → List (List ℕ) → Result Spot meant.Refusal
spot_below s directory [] = Err meant.IsRoot
spot_below s directory (name ∷ rest) = spot_from s directory name rest

-- The names that are left of a path from a directory on give the place that the path names, or the
-- path is refused.
abbrev pub Begins : {C : Type 0} → Subvolume C → List ℕ → Result (ℕ × List (List ℕ)) Refusal
    → Type 0
Begins s path (Ok begin) = spot s path ≡ spot_below s begin.0 begin.1
Begins s path (Err refusal) = spot s path ≡ Err (refusal_of refusal)
