-- The traced subvolumes of a base: each cell stands at its place, and without places they are what
-- the base finds.
use Rattle.std.specs.Prelude.{◌≡◌, ℕ, ◌+◌, List, [], ◌∷◌, map, drop, Option, None, Some}
use Rattle.std.specs.Option.{option_map}
use Rattle.std.specs.Ordering.{nat_cmp}
use Rattle.std.specs.Cmp.{nat_cmp_total}
use Rattle.std.specs.List.{AllByRecursion}
use Rattle.std.proofs.Common.{refl, sym, ap, subst, ◌∙◌}
use Rattle.std.proofs.lemmas.Map.Lookups.{exact_unsigned}
use Rattle.send_model.specs.Map.{Map, IsMap}
use Rattle.send_model.specs.Subvolume.{Inode, Subvolume, inode_at}
use Rattle.send_model.specs.Clone.{cells_of}
use Rattle.send_model.specs.Store.{Key, Store, find}
use Rattle.send_model.specs.Outside.{IsAmong}
use Rattle.send_model.specs.Provenance.{Traced, traced_from, inode_with, traced_subvolume, traced_store}
use Rattle.send_model.specs.Cells.{recelled, Holds}
use Rattle.send_model.proofs.CellSteps.{find-cells}
use Rattle.send_model.proofs.Sorts.{same_inside}
use Rattle.send_model.proofs.LeastPaths.{each_found}
use Rattle.send_model.proofs.Overwriting.{drop_twice}
use Rattle.send_model.proofs.Carrying.{InPlace}
use Rattle.send_model.proofs.Tracing.{byte_of, untraced_store, find_traced, holds_from}

cells_there : (s : Subvolume ℕ) (ino : ℕ) (inode : Inode ℕ) → inode_at s ino ≡ Some inode → cells_of s ino ≡ inode.cells
unfolding cells_of
cells_there s ino inode e = ap (λ (o : Option (Inode ℕ)). elim o as (λ x. List ℕ) [ None ↦ [] | Some i ↦ i.cells ]) e

module _ (base : Store ℕ) (keys : List Key) where
  places_from : (key : Key) (ino : ℕ) (s : Subvolume ℕ) → IsAmong key keys → find base key ≡ Some s → (offset : ℕ) (bytes : List ℕ) → drop offset (cells_of s ino) ≡ bytes
      → AllByRecursion (InPlace base keys) (traced_from key ino offset bytes)
  places_from key ino s among f offset [] e = tt
  places_from key ino s among f offset (b ∷ bytes) e =
      (record { among = among; source = s; found = f; rest = bytes; at = e }, places_from key ino s among f (offset + 1) bytes (sym (drop_twice offset 1 (cells_of s ino)) ∙ ap (drop 1) e))

  places_of : (key : Key) (s : Subvolume ℕ) → IsAmong key keys → find base key ≡ Some s → (m : Map ℕ (Inode ℕ)) → AllByRecursion (λ (e : ℕ × Inode ℕ). inode_at s e.0 ≡ Some e.1) m
      → AllByRecursion (λ (e : ℕ × Inode Traced). AllByRecursion (InPlace base keys) e.1.cells) (map (λ (e : ℕ × Inode ℕ). (e.0, inode_with e.1 (traced_from key e.0 0 e.1.cells))) m)
  places_of key s among f [] h = tt
  places_of key s among f (e ∷ m) h = (places_from key e.0 s among f 0 e.1.cells (cells_there s e.0 e.1 h.0), places_of key s among f m h.1)

  -- A subvolume that the base finds, traced, has each cell at its place.
  pub traced_holds : (key : Key) (s : Subvolume ℕ) → IsAmong key keys → find base key ≡ Some s → IsMap nat_cmp s.inodes → Holds (InPlace base keys) (traced_subvolume key s)
  unfolding traced_subvolume
  traced_holds key s among f sorted = holds_from (InPlace base keys) (traced_subvolume key s) (places_of key s among f s.inodes (each_found nat_cmp nat_cmp_total exact_unsigned s.inodes sorted))

  -- So has what the traced base finds.
  pub found_holds : ((k : Key) (s : Subvolume ℕ) → IsAmong k keys → find base k ≡ Some s → IsMap nat_cmp s.inodes)
      → (key : Key) (t : Subvolume Traced) → IsAmong key keys → find (traced_store base) key ≡ Some t → Holds (InPlace base keys) t
  found_holds ordered key t among f = one (find base key) refl (sym (find_traced base key) ∙ f)
    where
      one : (o : Option (Subvolume ℕ)) → find base key ≡ o → option_map (traced_subvolume key) o ≡ Some t → Holds (InPlace base keys) t
      one None e g = cc
      one (Some s) e g = subst (λ (x : Subvolume Traced). Holds (InPlace base keys) x) (same_inside g) (traced_holds key s among e (ordered key s among e))

-- What the base finds is what the traced base finds, without places.
pub found_untraced : (base : Store ℕ) (key : Key) → find base key ≡ option_map (recelled byte_of) (find (traced_store base) key)
found_untraced base key = ap (λ (x : Store ℕ). find x key) (sym (untraced_store base)) ∙ find-cells byte_of (traced_store base) key
