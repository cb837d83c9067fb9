-- One redirected clone, with the part that is being composed as a source: the commands of its pieces, one after the other in the part of any
-- store that finds the same outside, are taken and make what the clone makes.
use Rattle.std.specs.Prelude.{◌≡◌, ◌≢◌, ℕ, ◌+◌, ◌%◌, ◌==◌, Bool, true, false, List, [], ◌∷◌, map, Option, None, Some, Ok, nat_le, is_some, if◌then◌else◌}
use Rattle.std.specs.List.{AllByRecursion, flat_map}
use Rattle.std.specs.Str.{bytes_eq}
use Rattle.std.specs.Ordering.{nat_cmp}
use Rattle.std.specs.Cmp.{nat_cmp_total}
use Rattle.std.proofs.Common.{refl, sym, ap, subst, ◌∙◌, arith, eqb-true, inl, inr}
use Rattle.std.proofs.lemmas.Map.Lookups.{exact_unsigned}
use Rattle.std.proofs.lemmas.List.{length-map}
use Rattle.send_model.specs.Command.{Clone}
use Rattle.send_model.specs.Path.{path_names}
use Rattle.send_model.specs.Subvolume.{Inode, Subvolume, inode_at, is_file, walk, IsLawful}
use Rattle.send_model.specs.Edit.{greatest_end, overwritten, written_at, change_inode, set_cells}
use Rattle.send_model.specs.Clone.{cells_of, Cloned, cloned, clone_values}
use Rattle.send_model.specs.Store.{Key, Store, find, clone_source}
use Rattle.send_model.specs.Outside.{FindsLawful}
use Rattle.send_model.specs.Provenance.{Place, Piece, blocks, pieces_by}
use Rattle.send_model.specs.Composed.{piece_commands, path_of}
use Rattle.send_model.specs.Cells.{recelled, Holds}
use Rattle.send_model.proofs.Sorts.{same_inside}
use Rattle.send_model.proofs.Runs.{Takes}
use Rattle.send_model.proofs.Stores.{bytes_eq_same}
use Rattle.send_model.proofs.MapLaws.{with_value-other}
use Rattle.send_model.proofs.Rewriting.{changed, cells_walk, cells_file, file_there}
use Rattle.send_model.proofs.CellMaps.{walk-cells, is_file-cells}
use Rattle.send_model.proofs.Held.{cloned_holds}
use Rattle.send_model.proofs.Carrying.{Serves, bytes_at}
use Rattle.send_model.proofs.PieceRuns.{state_of, put_bytes, IsPlace, Fits, fits_part, any_run, own_run, pieces_run}
use Rattle.send_model.proofs.Redirected.{cloned_facts, after_clone, holding, below_top}
use Rattle.send_model.proofs.LawfulPaths.{path_leads}
use Rattle.send_model.proofs.Elsewhere.{Agrees, AreApart}
use Rattle.standing_model.specs.Births.{Tagged, byte_in, untagged}
use Rattle.standing_model.specs.Standing.{source_of, with_part}
use Rattle.standing_model.proofs.Told.{IsTold}
use Rattle.standing_model.proofs.Sources.{plain, around, keys_around, finds_outside, finds_part, standing_covered, Avoids, all_avoid}

-- ---- what stays where one file is written to

pub cells_other : {C : Type 0} (x i : ℕ) (g : List C → List C) (s : Subvolume C) (old : Inode C) → inode_at s x ≡ Some old → i ≢ x → cells_of (change_inode x (set_cells g) s) i ≡ cells_of s i
unfolding cells_of
cells_other {C} x i g s old at n =
    ap (λ (t : Subvolume C). cells_of t i) (changed x (set_cells g) s old at)
    ∙ ap (λ (o : Option (Inode C)). elim o as (λ e. List C) [ None ↦ [] | Some inode ↦ inode.cells ]) (with_value-other nat_cmp nat_cmp_total exact_unsigned i x (set_cells g old) s.inodes n)

not_same : (a b : ℕ) → a ≢ b → (a == b) ≡ false
not_same a b n = one (a == b) refl
  where
    one : (t : Bool) → (a == b) ≡ t → t ≡ false
    one true e = absurd (n (eqb-true a b e))
    one false e = refl

-- The part is as it was but for the cells of one file.
pub record IsStill (ino : ℕ) (before s : Subvolume ℕ) : Type 0 where
  pub cells : (i : ℕ) → i ≢ ino → cells_of s i ≡ cells_of before i
  pub walks : (path : List ℕ) → walk s path ≡ walk before path
  pub files : (i : ℕ) → is_file s i ≡ is_file before i

still_put : (u : Store ℕ) (new : Key) (path : List ℕ) (ino : ℕ) (before : Subvolume ℕ) (at : ℕ) (bytes : List ℕ) (s : Subvolume ℕ) → IsPlace u new path ino s → IsStill ino before s → IsStill ino before (put_bytes u new path ino at bytes s)
still_put u new path ino before at [] s p h = h
still_put u new path ino before at (b ∷ bytes) s p h = let there = file_there s ino p.file in
    let g : List ℕ → List ℕ = written_at 0 at (b ∷ bytes) in
    record {
      cells = λ i n. cells_other ino i g s there.0 there.1 n ∙ h.cells i n;
      walks = λ way. cells_walk ino g s there.0 there.1 way ∙ h.walks way;
      files = λ i. cells_file ino g s there.0 there.1 i ∙ h.files i;
    }

-- ---- one clone

module _ (files : List (List ℕ)) (base : Store ℕ) (keys : List Key) (last : Key) (apart : AreApart keys last) (none : find base last ≡ None) (lawful : FindsLawful base keys) (u : Store ℕ) (agrees : Agrees base keys u) where
  module _ (part : Subvolume Tagged) (sound : IsLawful (recelled byte_in part)) (held : Holds (IsTold files base keys) part)
      (path : List ℕ) (ino offset : ℕ) (even : offset % 4096 ≡ 0) (is_path : is_some (path_names path) ≡ true) where
    abbrev before : Subvolume ℕ
    before = plain files base keys last apart part ino

    abbrev store : Store ℕ
    store = around files base keys last apart part ino

    abbrev all_keys : List Key
    all_keys = keys_around files base keys last apart part ino

    one_taken : (at : ℕ) (place : Place) (len : ℕ) (s : Subvolume ℕ) (h : Serves store all_keys place len) → Avoids files base keys last apart part ino place → at % 4096 ≡ 0 → IsPlace u last path ino s → IsStill ino before s
        → nat_le (offset + at + len) greatest_end ≡ true
        → Takes (state_of u last path ino s) (Clone path (offset + at) place.key.uuid place.key.ctransid (path_of store place) place.offset len ∷ [])
        (state_of u last path ino (put_bytes u last path ino (offset + at) (bytes_at store all_keys place len h) s))
    one_taken at place len s h avoids even_at p still fits = elim h.among [
      | inl own ↦
          let source : h.source ≡ before = same_inside (sym h.found ∙ subst (λ (k : Key). find store k ≡ Some before) own (finds_part files base keys last apart part ino)) in
          let way = path_leads store place h.source (subst IsLawful (sym source) sound) h.found h.nameable in
          own_run u last path ino store all_keys offset even is_path at place len s h
          (ap (λ (k : Key). bytes_eq k.uuid last.uuid) (sym own) ∙ bytes_eq_same last.uuid)
          (not_same place.ino ino (avoids own))
          (still.walks (path_of store place) ∙ ap (λ (t : Subvolume ℕ). walk t (path_of store place)) (sym source) ∙ way.0)
          way.1
          (still.files place.ino ∙ ap (λ (t : Subvolume ℕ). is_file t place.ino) (sym source) ∙ h.file)
          (still.cells place.ino (avoids own) ∙ ap (λ (t : Subvolume ℕ). cells_of t place.ino) (sym source))
          even_at p fits
      | inr among ↦
          let found : find base place.key ≡ Some h.source = sym (finds_outside files base keys last apart part ino place.key among) ∙ h.found in
          let way = path_leads store place h.source (lawful place.key h.source among found) h.found h.nameable in
          let other : bytes_eq place.key.uuid last.uuid ≡ false = apart place.key among in
          let from : clone_source u (record { key = last; subvolume = s }) place.key ≡ Some h.source = ap (λ (b : Bool). if b then Some s else find u place.key) other ∙ agrees place.key among ∙ found in
          any_run u last path ino store all_keys offset even is_path at place len s h.source false h from other refl way.0 way.1 h.file refl even_at p fits
    ]

  -- What stands for a redirected clone is taken, and makes what the clone makes.
  pub standing_taken : (part source : Subvolume Tagged) (path : List ℕ) (offset : ℕ) (clone_path : List ℕ) (from len : ℕ) (range : Cloned Tagged)
      → cloned part (Some source) false (clone_values path offset clone_path from len) ≡ Ok range
      → IsLawful (recelled byte_in part) → Holds (IsTold files base keys) part → Holds (IsTold files base keys) source
      → Takes (holding u last (recelled byte_in part)) (flat_map (piece_commands (with_part last part base) path offset) (pieces_by byte_in (source_of base last part range.ino) 0 (blocks range.cells)))
      (holding u last (recelled byte_in (change_inode range.ino (set_cells (overwritten (untagged 0) offset range.cells)) part)))
  standing_taken part source path offset clone_path from len range e sound held source_held =
      let facts = cloned_facts part source false path offset clone_path from len range e in
      let ino : ℕ = range.ino in
      let bytes : List ℕ = map byte_in range.cells in
      let before : Subvolume ℕ = recelled byte_in part in
      let pieces : List Piece = pieces_by byte_in (source_of base last part ino) 0 (blocks range.cells) in
      let told : AllByRecursion (IsTold files base keys) range.cells = cloned_holds (IsTold files base keys) part (Some source) false path offset clone_path from len range held
      (λ v q. subst (λ (x : Subvolume Tagged). Holds (IsTold files base keys) x) (same_inside q) source_held) e in
      let place : IsPlace u last path ino before = record { walked = walk-cells byte_in part path ∙ facts.walked; file = is_file-cells byte_in part ino ∙ facts.file } in
      let long = length-map range.cells byte_in ∙ facts.length_is in
      let fits : Fits u last path ino (offset + 0) bytes = fits_part u last path ino (offset + 0) (offset + len) bytes (λ k l. below_top k (offset + len) greatest_end facts.fits l) (inr (omega (arith, long))) in
      let covered = standing_covered files base keys last apart part ino held range.cells told in
      let still : IsStill ino before before = record { cells = λ i n. refl; walks = λ p. refl; files = λ i. refl } in
      let run = pieces_run u last path ino (with_part last part base) (last ∷ keys) offset facts.even facts.is_path (IsStill ino before) (λ at bs s p q. still_put u last path ino before at bs s p q)
      (Avoids files base keys last apart part ino) (one_taken part sound held path ino offset facts.even facts.is_path)
      0 pieces bytes before covered (all_avoid files base keys last apart part ino none 0 (blocks range.cells)) place still fits in
      let start : offset + 0 ≡ offset = omega arith in
      let some = facts.some in
      let ended : put_bytes u last path ino (offset + 0) bytes before ≡ recelled byte_in (change_inode ino (set_cells (overwritten (untagged 0) offset range.cells)) part) =
      ap (λ (k : ℕ). put_bytes u last path ino k bytes before) start ∙ sym (after_clone byte_in (untagged 0) refl u last path part ino offset range.cells (let l = facts.length_is in omega (arith, some, l))) in
      subst (λ (t : Subvolume ℕ). Takes (holding u last before) (flat_map (piece_commands (with_part last part base) path offset) pieces) (holding u last t)) ended run
