-- What is answered of files: their ends and their first paths.
use Rattle.std.specs.Prelude.{◌≡◌, ℕ, Bool, true, false, ◌&&◌, List, [], length, Option, None, Some, Result, Ok, Err, IfOk, IfSome, is_some, is_none, if◌then◌else◌}
use Rattle.std.specs.Option.{option_map, unwrap_or}
use Rattle.std.proofs.Common.{refl, sym, ap, ap₂, ◌∙◌}
use Rattle.std.proofs.lemmas.List.{length-map}
use Rattle.send_model.specs.Subvolume.{Inode, Subvolume, inode_at, passes_inode, is_file, is_file_kind, is_nameable, all_paths, first_path}
use Rattle.send_model.specs.Clone.{cells_of}
use Rattle.send_model.specs.Store.{Key, Store, find}
use Rattle.send_model.specs.Composed.{path_of}
use Rattle.send_model.specs.Cells.{recelled, recelled_store}
use Rattle.send_model.proofs.CellMaps.{is_file-cells}
use Rattle.send_model.proofs.CellSteps.{find-cells}
use Rattle.send_model.proofs.CellClones.{cells_of-cells}
use Rattle.provenance.specs.Cuts.{file_end}

-- ---- one subvolume and its bytes

module _ {C D : Type 0} (f : C → D) (s : Subvolume C) where
  same_first : (ino : ℕ) → first_path (recelled f s) ino ≡ first_path s ino
  unfolding first_path all_paths
  same_first ino = refl

  same_nameable : (ino : ℕ) → is_nameable (recelled f s) ino ≡ is_nameable s ino
  unfolding is_nameable
  same_nameable ino = ap (λ (o : Option (List ℕ)). is_some o) (same_first ino)

-- What is answered of the size of a file.
module _ {C : Type 0} (f : C → ℕ) (t s : Subvolume C) (same : t ≡ s) (ino : ℕ) where
  abbrev sized_as : Bool → Bool → Option ℕ
  sized_as b n = if b && n then Some (length (cells_of (recelled f s) ino)) else None

  file_is : (o : Option (Inode C)) → o ≡ inode_at t ino → is_file (recelled f s) ino ≡ passes_inode (λ inode. is_file_kind inode.kind) o
  unfolding is_file
  file_is o e = is_file-cells f s ino ∙ ap (λ (u : Subvolume C). passes_inode (λ inode. is_file_kind inode.kind) (inode_at u ino)) (sym same) ∙ ap (passes_inode (λ inode. is_file_kind inode.kind)) (sym e)

  pub end_none : None ≡ inode_at t ino → None ≡ file_end (Some (recelled f s)) ino
  end_none e = sym (ap (λ (b : Bool). sized_as b (is_nameable (recelled f s) ino)) (file_is None e))

  pub end_other : (i : Inode C) → Some i ≡ inode_at t ino → is_file_kind i.kind ≡ false → None ≡ file_end (Some (recelled f s)) ino
  end_other i e n = sym (ap (λ (b : Bool). sized_as b (is_nameable (recelled f s) ino)) (file_is (Some i) e ∙ n))

  pub end_unnamed : (i : Inode C) → Some i ≡ inode_at t ino → is_file_kind i.kind ≡ true → false ≡ is_nameable s ino → None ≡ file_end (Some (recelled f s)) ino
  end_unnamed i e y n = sym (ap₂ sized_as (file_is (Some i) e ∙ y) (same_nameable f s ino ∙ sym n))

  pub end_there : (i : Inode C) (size : ℕ) → Some i ≡ inode_at t ino → is_file_kind i.kind ≡ true → true ≡ is_nameable s ino → size ≡ length i.cells → Some size ≡ file_end (Some (recelled f s)) ino
  unfolding cells_of
  end_there i size e y n l =
      let cells : cells_of s ino ≡ i.cells = ap (λ (u : Subvolume C). cells_of u ino) (sym same) ∙ ap (λ (o : Option (Inode C)). elim o as (λ x. List C) [ None ↦ [] | Some j ↦ j.cells ]) (sym e) in
      let long : length (cells_of (recelled f s) ino) ≡ size = ap length (cells_of-cells f s ino) ∙ length-map (cells_of s ino) f ∙ ap length cells ∙ sym l in
      sym (ap₂ sized_as (file_is (Some i) e ∙ y) (same_nameable f s ino ∙ sym n) ∙ ap (λ (k : ℕ). Some k) long)

-- ---- what a store answers

module _ {C : Type 0} (f : C → ℕ) (store : Store C) (key : Key) where
  found_bytes : (o : Option (Subvolume C)) → o ≡ find store key → find (recelled_store f store) key ≡ option_map (recelled f) o
  found_bytes o e = find-cells f store key ∙ ap (option_map (recelled f)) (sym e)

  pub end_at : (o : Option (Subvolume C)) (ino : ℕ) → o ≡ find store key → file_end (option_map (recelled f) o) ino ≡ file_end (find (recelled_store f store) key) ino
  end_at o ino e = ap (λ (x : Option (Subvolume ℕ)). file_end x ino) (sym (found_bytes o e))

  pub path_at : (s : Subvolume C) (ino : ℕ) (path : List ℕ) → Some s ≡ find store key → Some path ≡ first_path s ino → path ≡ path_of (recelled_store f store) (record { key = key; ino = ino; offset = 0 })
  path_at s ino path e p = sym (
      ap (λ (o : Option (Subvolume ℕ)). elim o as (λ x. List ℕ) [ None ↦ [] | Some t ↦ unwrap_or (first_path t ino) [] ]) (found_bytes (Some s) e)
      ∙ ap (λ (o : Option (List ℕ)). unwrap_or o []) (same_first f s ino ∙ sym p))

-- ---- results

module _ {C E : Type 0} (s : Subvolume C) (ino : ℕ) (r : Result (Option (List ℕ)) E) where
  pub named_ok : (b : Bool) → IfOk r (λ found. found ≡ first_path s ino) → is_some (first_path s ino) ≡ b → IfOk r (λ found. is_some found ≡ b)
  named_ok b h e = one r h
    where
      one : (x : Result (Option (List ℕ)) E) → IfOk x (λ found. found ≡ first_path s ino) → IfOk x (λ found. is_some found ≡ b)
      one (Ok found) q = ap (λ (o : Option (List ℕ)). is_some o) q ∙ e
      one (Err why) q = tt

  pub path_ok : (wanted : List ℕ) → IfOk r (λ found. found ≡ first_path s ino) → ((path : List ℕ) → Some path ≡ first_path s ino → path ≡ wanted) → IfOk r (λ found. IfSome found (λ path. path ≡ wanted))
  path_ok wanted h f = one r h
    where
      two : (o : Option (List ℕ)) → o ≡ first_path s ino → IfSome o (λ path. path ≡ wanted)
      two None q = tt
      two (Some path) q = f path q

      one : (x : Result (Option (List ℕ)) E) → IfOk x (λ found. found ≡ first_path s ino) → IfOk x (λ found. IfSome found (λ path. path ≡ wanted))
      one (Ok found) q = two found q
      one (Err why) q = tt

pub some_of : {A : Type 0} (o : Option A) → is_none o ≡ false → is_some o ≡ true
some_of None e = cc
some_of (Some x) e = refl

pub none_of : {A : Type 0} (o : Option A) → is_none o ≡ true → is_some o ≡ false
none_of None e = refl
none_of (Some x) e = cc

-- A file with an end has a first path.
pub end_named : {C : Type 0} (f : C → ℕ) (s : Subvolume C) (ino : ℕ) → is_some (file_end (Some (recelled f s)) ino) ≡ true → is_some (first_path s ino) ≡ true
unfolding is_nameable
end_named f s ino e = one (is_file (recelled f s) ino) (is_nameable (recelled f s) ino) refl e
  where
    one : (b n : Bool) → is_nameable (recelled f s) ino ≡ n → is_some (if b && n then Some (length (cells_of (recelled f s) ino)) else None) ≡ true → is_some (first_path s ino) ≡ true
    one true true q h = sym (same_nameable f s ino) ∙ q
    one true false q h = cc
    one false n q h = cc
