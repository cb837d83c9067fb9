-- The commands of a subvolume that is sent, path by path.
use Rattle.std.specs.Prelude.{◌≡◌, ℕ, List, [], ◌∷◌, ◌++◌, map, Option, None, Some, if◌then◌else◌}
use Rattle.std.specs.List.{flat_map}
use Rattle.std.specs.Option.{unwrap_or}
use Rattle.std.specs.Str.{bytes_eq}
use Rattle.std.proofs.Common.{refl, ap, ◌∙◌}
use Rattle.send_model.specs.Command.{Command}
use Rattle.send_model.specs.Map.{Map}
use Rattle.send_model.specs.Subvolume.{Subvolume, IsLawful, all_paths}
use Rattle.send_model.proofs.LeastPaths.{NotAfter, first_path_there}
use Rattle.snapshot_model.specs.Listing.{listed, listing, paths_of}
use Rattle.snapshot_model.specs.Sent.{listed_commands, inode_commands, sent_edits}
use Rattle.inode_commands.specs.Spelled.{spelled_all}
use Rattle.inode_commands.proofs.Joined.{all_joined}
use Rattle.path_walk.specs.Passing.{Passed}
use Rattle.path_walk.proofs.Passes.{root_walks}
use Rattle.group_replay.specs.declared.place.Place.{Place}
use Rattle.full_send.specs.Held.{with_holes}
use Rattle.full_send.proofs.HeldInodes.{listed_own}
use Rattle.full_send.proofs.Walking.{Reached, so_far, Goes, all_paths_are}

module _ (image : List ℕ) (s : Subvolume (Option Place)) where
  abbrev pub path_commands : List ℕ × ℕ → List Command
  path_commands e = listed_commands (e.0, listed (with_holes image s) e.1)

  abbrev pub sends : Map (List ℕ) ℕ → List Command
  sends m = flat_map path_commands m

  over_map : (m : Map (List ℕ) ℕ) → flat_map listed_commands (map (λ e. (e.0, listed (with_holes image s) e.1)) m) ≡ sends m
  over_map [] = refl
  over_map (e ∷ m) = ap (λ (l : List Command). path_commands e ++ l) (over_map m)

  pub edits_are : sent_edits (with_holes image s) ≡ sends (paths_of s)
  unfolding sent_edits listing paths_of all_paths
  edits_are = over_map (paths_of s)

  only_root : (p : List ℕ) → NotAfter p [] → p ≡ []
  only_root [] h = refl
  only_root (b ∷ p) h = absurd (h refl)

  pub root_first : (listed s 256).first ≡ []
  unfolding listed
  root_first = let there = first_path_there s 256 [] (root_walks s) in ap (λ (o : Option (List ℕ)). unwrap_or o []) there.1 ∙ only_root there.0 there.2

  pub root_sends : IsLawful s → path_commands ([], 256) ≡ inode_commands [] (listed (with_holes image s) 256).inode
  root_sends lawful =
      listed_own s lawful (record { subvolume = s; at = [] }) refl 256 (root_walks s) image (ap (λ (f : List ℕ). if bytes_eq [] f then None else Some f) root_first)

  module _ (spelled : ℕ → Command → List ℕ) (version : ℕ) where
    abbrev spells : List Command → List ℕ
    spells cs = spelled_all spelled version cs

    -- All of it, the root in front.
    pub begins_with_root : IsLawful s → (p : Passed (Option Place)) (r : Reached s p) → so_far r ≡ ([], 256) ∷ []
        → spells (sent_edits (with_holes image s)) ≡ spells (inode_commands [] (listed (with_holes image s) 256).inode) ++ spells (sends r.rest)
    begins_with_root lawful p r is =
        ap spells (edits_are ∙ ap sends (all_paths_are s p r ∙ ap (λ (m : Map (List ℕ) ℕ). m ++ r.rest) is) ∙ ap (λ (l : List Command). l ++ sends r.rest) (root_sends lawful))
        ∙ all_joined spelled version (inode_commands [] (listed (with_holes image s) 256).inode) (sends r.rest)

    -- One path, and those behind it.
    pub next_sends : (p q : Passed (Option Place)) (r : Reached s p) (ino : ℕ) (goes : Goes s p r q ino)
        → spells (sends r.rest) ≡ spells (listed_commands (q.at, listed (with_holes image s) ino)) ++ spells (sends goes.reached.rest)
    next_sends p q r ino goes = ap (λ (m : Map (List ℕ) ℕ). spells (sends m)) goes.rest_is ∙ all_joined spelled version (path_commands (q.at, ino)) (sends goes.reached.rest)
