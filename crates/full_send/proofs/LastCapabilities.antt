-- The capabilities of a subvolume that is restored, path by path.
use Rattle.std.specs.Prelude.{◌≡◌, ℕ, Bool, true, false, List, [], ◌∷◌, ◌++◌, Option, None, Some, if◌then◌else◌}
use Rattle.std.specs.List.{flat_map}
use Rattle.std.specs.Option.{unwrap_or}
use Rattle.std.specs.Str.{bytes_eq}
use Rattle.std.proofs.Common.{refl, sym, ap, ◌∙◌}
use Rattle.send_model.specs.Command.{Command}
use Rattle.send_model.specs.Map.{Map}
use Rattle.send_model.specs.Subvolume.{Inode, Subvolume, inode_at, new_directory, first_path, all_paths}
use Rattle.snapshot_model.specs.Listing.{listed, paths_of}
use Rattle.snapshot_model.specs.Restored.{capability_commands, capabilities}
use Rattle.inode_commands.specs.Spelled.{spelled_all}
use Rattle.inode_commands.proofs.Joined.{all_joined}
use Rattle.path_walk.specs.Passing.{Passed, earlier}
use Rattle.group_replay.specs.declared.place.Place.{Place}
use Rattle.full_send.specs.Held.{with_holes}
use Rattle.full_send.proofs.LastDirectories.{seen, listed_seen}
use Rattle.full_send.proofs.SentPaths.{root_first}
use Rattle.full_send.proofs.Walking.{Reached, so_far, Goes, all_paths_are}

-- ---- with the bytes of an image

module _ (image : List ℕ) (s : Subvolume (Option Place)) where
  first_same : (ino : ℕ) → (listed (with_holes image s) ino).first ≡ (listed s ino).first
  unfolding listed first_path all_paths
  first_same ino = refl

  commands_by : (path : List ℕ) (o : Option (Inode (Option Place))) → capability_commands path (unwrap_or (seen image s o) new_directory) ≡ capability_commands path (unwrap_or o new_directory)
  commands_by path None = refl
  commands_by path (Some inode) = refl

  commands_same : (path : List ℕ) (ino : ℕ) → capability_commands path (listed (with_holes image s) ino).inode ≡ capability_commands path (listed s ino).inode
  unfolding listed
  commands_same path ino = ap (capability_commands path) (listed_seen image s ino) ∙ commands_by path (inode_at s ino)

  one_same : (e : List ℕ × ℕ) → capabilities (with_holes image s) e ≡ capabilities s e
  one_same e = λ i. if bytes_eq e.0 (first_same e.1 i) then commands_same e.0 e.1 i else []

  pub all_same : (m : Map (List ℕ) ℕ) → flat_map (capabilities (with_holes image s)) m ≡ flat_map (capabilities s) m
  all_same [] = refl
  all_same (e ∷ m) = λ i. one_same e i ++ all_same m i

-- ---- a path

module _ (s : Subvolume (Option Place)) (p : Passed (Option Place)) (passed : p.subvolume ≡ s) (ino : ℕ) where
  abbrev by_first : Bool → List Command
  by_first b = if b then capability_commands p.at (listed s ino).inode else []

  by_earlier : capabilities s (p.at, ino) ≡ by_first (bytes_eq p.at (listed p.subvolume ino).first)
  by_earlier = ap (λ (t : Subvolume (Option Place)). by_first (bytes_eq p.at (listed t ino).first)) (sym passed)

  -- Another path is the first.
  pub none_here : (first : List ℕ) → earlier p ino ≡ Some first → capabilities s (p.at, ino) ≡ []
  none_here first is = by_earlier ∙ one (bytes_eq p.at (listed p.subvolume ino).first) (listed p.subvolume ino).first is
    where
      one : (b : Bool) (found : List ℕ) → (if b then None else Some found) ≡ Some first → by_first b ≡ []
      one true found same = cc
      one false found same = refl

  -- It is the first itself.
  pub its_own : earlier p ino ≡ None → capabilities s (p.at, ino) ≡ capability_commands p.at (listed s ino).inode
  its_own is = by_earlier ∙ one (bytes_eq p.at (listed p.subvolume ino).first) (listed p.subvolume ino).first is
    where
      one : (b : Bool) (found : List ℕ) → (if b then None else Some found) ≡ None → by_first b ≡ capability_commands p.at (listed s ino).inode
      one true found none = refl
      one false found none = cc

-- ---- all paths

module _ (s : Subvolume (Option Place)) where
  abbrev pub comes : Map (List ℕ) ℕ → List Command
  comes m = flat_map (capabilities s) m

  root_own : capabilities s ([], 256) ≡ capability_commands [] (listed s 256).inode
  root_own = ap (λ (first : List ℕ). if bytes_eq [] first then capability_commands [] (listed s 256).inode else []) (root_first [] s)

  module _ (spelled : ℕ → Command → List ℕ) (version : ℕ) where
    abbrev spells : List Command → List ℕ
    spells cs = spelled_all spelled version cs

    -- The root in front.
    pub comes_begin : (p : Passed (Option Place)) (r : Reached s p) → so_far r ≡ ([], 256) ∷ [] → spells (comes (paths_of s)) ≡ spells (capability_commands [] (listed s 256).inode) ++ spells (comes r.rest)
    comes_begin p r is =
        ap (λ (m : Map (List ℕ) ℕ). spells (comes m)) (all_paths_are s p r ∙ ap (λ (m : Map (List ℕ) ℕ). m ++ r.rest) is)
        ∙ ap (λ (l : List Command). spells (l ++ comes r.rest)) root_own
        ∙ all_joined spelled version (capability_commands [] (listed s 256).inode) (comes r.rest)

    -- One path, and those behind it.
    pub next_comes : (p q : Passed (Option Place)) (r : Reached s p) (ino : ℕ) (goes : Goes s p r q ino)
        → spells (comes r.rest) ≡ spells (capabilities s (q.at, ino)) ++ spells (comes goes.reached.rest)
    next_comes p q r ino goes = ap (λ (m : Map (List ℕ) ℕ). spells (comes m)) goes.rest_is ∙ all_joined spelled version (capabilities s (q.at, ino)) (comes goes.reached.rest)
