-- What directories have, from the last that was passed to the first.
use Rattle.std.specs.Prelude.{◌≡◌, ℕ, Bool, true, false, cond, List, [], ◌∷◌, ◌++◌, map, take, ◌-◌, Option, None, Some, Ok, if◌then◌else◌}
use Rattle.std.specs.List.{AllByRecursion}
use Rattle.std.specs.Option.{option_map, unwrap_or}
use Rattle.std.proofs.Common.{refl, sym, ap, subst, ◌∙◌, append_assoc, append-nil}
use Rattle.std.proofs.lemmas.List.{map-append}
use Rattle.send_model.specs.Command.{Command}
use Rattle.send_model.specs.Map.{Map}
use Rattle.send_model.specs.Cells.{recelled}
use Rattle.send_model.specs.Provenance.{inode_with}
use Rattle.send_model.specs.Subvolume.{Inode, Subvolume, walk, inode_at, is_directory_kind, new_directory}
use Rattle.send_model.proofs.CellMaps.{inode_at-cells}
use Rattle.send_model.proofs.ElementLaws.{all_first, all_rest}
use Rattle.snapshot_model.specs.Listing.{listed}
use Rattle.snapshot_model.specs.HeldStores.{held_at}
use Rattle.snapshot_model.specs.Restored.{finishing, directories_back}
use Rattle.group_replay.specs.declared.place.Place.{Place}
use Rattle.full_send.specs.Held.{with_holes}
use Rattle.full_send.specs.Directories.{path_passed, paths_passed, directories_in}
use Rattle.full_send.specs.declared.restoring.Passed.{Passed}
use Rattle.inode_commands.specs.Spelled.{spelled_all}
use Rattle.inode_commands.proofs.Joined.{all_joined}

-- Each directory behind those that come after it.
abbrev pub ends_back : {C : Type 0} → Subvolume C → Map (List ℕ) ℕ → List Command
ends_back s [] = []
ends_back s (e ∷ m) = ends_back s m ++ finishing e.0 (listed s e.1).inode

pub ends_last : {C : Type 0} (s : Subvolume C) (m : Map (List ℕ) ℕ) (e : List ℕ × ℕ) → ends_back s (m ++ e ∷ []) ≡ finishing e.0 (listed s e.1).inode ++ ends_back s m
ends_last s [] e = sym (append-nil (finishing e.0 (listed s e.1).inode))
ends_last s (f ∷ m) e = ap (λ (l : List Command). l ++ finishing f.0 (listed s f.1).inode) (ends_last s m e) ∙ append_assoc (finishing e.0 (listed s e.1).inode) (ends_back s m) (finishing f.0 (listed s f.1).inode)

-- ---- with the bytes of an image

module _ (image : List ℕ) (s : Subvolume (Option Place)) where
  abbrev once : Subvolume (Option ℕ)
  once = recelled (option_map (λ place. place.at)) s

  abbrev pub seen : Option (Inode (Option Place)) → Option (Inode (Option ℕ))
  seen o = option_map (λ j. inode_with j (map (held_at image) j.cells)) (option_map (λ j. inode_with j (map (option_map (λ place. place.at)) j.cells)) o)

  pub listed_seen : (ino : ℕ) → (listed (with_holes image s) ino).inode ≡ unwrap_or (seen (inode_at s ino)) new_directory
  unfolding listed
  listed_seen ino =
      ap (λ (o : Option (Inode (Option ℕ))). unwrap_or o new_directory)
      (inode_at-cells (held_at image) once ino ∙ ap (option_map (λ j. inode_with j (map (held_at image) j.cells))) (inode_at-cells (option_map (λ place. place.at)) s ino))

  kind_by : (o : Option (Inode (Option Place))) → is_directory_kind (unwrap_or (seen o) new_directory).kind ≡ is_directory_kind (unwrap_or o new_directory).kind
  kind_by None = refl
  kind_by (Some inode) = refl

  finishing_by : (path : List ℕ) (o : Option (Inode (Option Place))) → finishing path (unwrap_or (seen o) new_directory) ≡ finishing path (unwrap_or o new_directory)
  finishing_by path None = refl
  finishing_by path (Some inode) = refl

  same_kind : (ino : ℕ) → is_directory_kind (listed (with_holes image s) ino).inode.kind ≡ is_directory_kind (listed s ino).inode.kind
  unfolding listed
  same_kind ino = ap (λ (j : Inode (Option ℕ)). is_directory_kind j.kind) (listed_seen ino) ∙ kind_by (inode_at s ino)

  same_finishing : (path : List ℕ) (ino : ℕ) → finishing path (listed (with_holes image s) ino).inode ≡ finishing path (listed s ino).inode
  unfolding listed
  same_finishing path ino = ap (finishing path) (listed_seen ino) ∙ finishing_by path (inode_at s ino)

  pub back_is : (m : Map (List ℕ) ℕ) → directories_back (with_holes image s) m ≡ ends_back s (directories_in s m)
  back_is [] = refl
  back_is (e ∷ m) =
      ap (λ (l : List Command). l ++ (if is_directory_kind (listed (with_holes image s) e.1).inode.kind then finishing e.0 (listed (with_holes image s) e.1).inode else [])) (back_is m)
      ∙ ap (λ (l : List Command). ends_back s (directories_in s m) ++ (if is_directory_kind (listed (with_holes image s) e.1).inode.kind then l else [])) (same_finishing e.0 e.1)
      ∙ ap (λ (b : Bool). ends_back s (directories_in s m) ++ (if b then finishing e.0 (listed s e.1).inode else [])) (same_kind e.1)
      ∙ one (is_directory_kind (listed s e.1).inode.kind)
    where
      one : (b : Bool) → ends_back s (directories_in s m) ++ (if b then finishing e.0 (listed s e.1).inode else []) ≡ ends_back s (cond b (e ∷ directories_in s m) (directories_in s m))
      one true = refl
      one false = append-nil (ends_back s (directories_in s m))

-- ---- the last of those that are left

module _ {C : Type 0} (s : Subvolume C) (ds rest : List Passed) (d : Passed) (is : ds ≡ rest ++ d ∷ []) where
  paths_are : paths_passed ds ≡ paths_passed rest ++ (d.path, d.ino) ∷ []
  paths_are = ap paths_passed is ∙ map-append path_passed rest (d ∷ [])

  -- What it has comes in front of what those before it have, and of what comes behind all of them.
  pub last_ends : (spelled : ℕ → Command → List ℕ) (version : ℕ) (more : List ℕ)
      → spelled_all spelled version (ends_back s (paths_passed ds)) ++ more ≡ spelled_all spelled version (finishing d.path (listed s d.ino).inode) ++ (spelled_all spelled version (ends_back s (paths_passed rest)) ++ more)
  last_ends spelled version more =
      ap (λ (l : List ℕ). l ++ more)
      (ap (λ (m : Map (List ℕ) ℕ). spelled_all spelled version (ends_back s m)) paths_are ∙ ap (spelled_all spelled version) (ends_last s (paths_passed rest) (d.path, d.ino))
      ∙ all_joined spelled version (finishing d.path (listed s d.ino).inode) (ends_back s (paths_passed rest)))
      ∙ append_assoc (spelled_all spelled version (finishing d.path (listed s d.ino).inode)) (spelled_all spelled version (ends_back s (paths_passed rest))) more

  abbrev Leads : Map (List ℕ) ℕ → Type 0
  Leads m = AllByRecursion (λ e. walk s e.0 ≡ Ok e.1) m

  all_lead : Leads (paths_passed ds) → Leads (paths_passed rest ++ (d.path, d.ino) ∷ [])
  all_lead all = subst Leads paths_are all

  pub last_leads : Leads (paths_passed ds) → walk s d.path ≡ Ok d.ino
  last_leads all = (all_rest (λ e. walk s e.0 ≡ Ok e.1) (paths_passed rest) ((d.path, d.ino) ∷ []) (all_lead all)).0

  pub rest_lead : Leads (paths_passed ds) → Leads (paths_passed rest)
  rest_lead all = all_first (λ e. walk s e.0 ≡ Ok e.1) (paths_passed rest) ((d.path, d.ino) ∷ []) (all_lead all)

-- None is left.
pub none_left : (ds rest : List Passed) (n : ℕ) → ds ≡ rest ++ [] → rest ≡ take (n - 1) ds → n ≡ 0 → ds ≡ []
none_left ds rest n is front none = is ∙ append-nil rest ∙ front ∙ ap (λ (k : ℕ). take (k - 1) ds) none
