-- The one part that composed commands make elsewhere, the stores in which it can be made, and the
-- law of redirected clones.
use Rattle.std.specs.Prelude.{◌≡◌, ℕ, false, List, Some, Ok}
use Rattle.std.specs.List.{flat_map}
use Rattle.std.specs.Ordering.{nat_cmp}
use Rattle.std.specs.Str.{bytes_eq}
use Rattle.send_model.specs.Map.{IsMap}
use Rattle.send_model.specs.Subvolume.{Subvolume}
use Rattle.send_model.specs.Edit.{overwritten, change_inode, set_cells}
use Rattle.send_model.specs.Clone.{Cloned, cloned, clone_values}
use Rattle.send_model.specs.Store.{Key, Store, State, find}
use Rattle.send_model.specs.Outside.{IsAmong, FindsLawful}
use Rattle.send_model.specs.Provenance.{Traced, fresh, pieces_of}
use Rattle.send_model.specs.Composed.{piece_commands}
use Rattle.send_model.specs.Cells.{recelled, Holds}
use Rattle.send_model.proofs.Runs.{Takes}
use Rattle.send_model.proofs.Carrying.{InPlace}
use Rattle.send_model.proofs.Tracing.{byte_of}
use Rattle.send_model.proofs.Redirected.{range_taken}

abbrev pub plain : Subvolume Traced → Subvolume ℕ
plain s = recelled byte_of s

-- A store finds what the base finds under each of the keys.
abbrev pub Agrees : Store ℕ → List Key → Store ℕ → Type 0
Agrees base keys u = (k : Key) → IsAmong k keys → find u k ≡ find base k

-- None of the keys has the uuid of the one part.
abbrev pub AreApart : List Key → Key → Type 0
AreApart keys last = (k : Key) → IsAmong k keys → bytes_eq k.uuid last.uuid ≡ false

-- What the base finds under the keys has its inodes in order.
abbrev pub AreOrdered : Store ℕ → List Key → Type 0
AreOrdered base keys = (k : Key) (s : Subvolume ℕ) → IsAmong k keys → find base k ≡ Some s → IsMap nat_cmp s.inodes

-- The one part, as far as a traced part has come.
abbrev pub there : Key → Store ℕ → Subvolume Traced → State ℕ
there last u s = record { store = u; part = Some (record { key = last; subvolume = plain s }) }

-- The law of redirected clones: the commands of the pieces do what the clone does.
abbrev pub RedirectedLaw : Store ℕ → List Key → Key → Type 0
RedirectedLaw base keys last = (u : Store ℕ) (s source : Subvolume Traced) (path : List ℕ) (offset : ℕ) (clone_path : List ℕ) (from len : ℕ) (range : Cloned Traced)
    → Agrees base keys u → AreApart keys last → Holds (InPlace base keys) s → Holds (InPlace base keys) source
    → cloned s (Some source) false (clone_values path offset clone_path from len) ≡ Ok range
    → Takes (there last u s) (flat_map (piece_commands base path offset) (pieces_of base range.cells)) (there last u (change_inode range.ino (set_cells (overwritten (fresh 0) offset range.cells)) s))

pub lawful_ordered : (base : Store ℕ) (keys : List Key) → FindsLawful base keys → AreOrdered base keys
lawful_ordered base keys lawful k s among f = let l = lawful k s among f in l.sound.inodes_in_order

pub redirected_law : (base : Store ℕ) (keys : List Key) (last : Key) → FindsLawful base keys → RedirectedLaw base keys last
redirected_law base keys last lawful u s source path offset clone_path from len range agrees apart held source_held made =
    range_taken base keys lawful u last (λ k among. (agrees k among, apart k among)) s source path offset clone_path from len range made source_held
