-- The base with tags: without them it is the base, and each of its cells is told; and what is told stays told through edits and clones.
use Rattle.std.specs.Prelude.{◌≡◌, ℕ, ◌+◌, Bool, List, [], ◌∷◌, map, Option, None, Some, Ok}
use Rattle.std.specs.Option.{option_map}
use Rattle.std.proofs.Common.{refl, sym, ap, ap₂, subst, ◌∙◌}
use Rattle.send_model.specs.Map.{Map}
use Rattle.send_model.specs.Spelling.{IsSpellable}
use Rattle.send_model.specs.Reading.{Item}
use Rattle.send_model.specs.Subvolume.{Inode, Subvolume, root_alone, IsLawful}
use Rattle.send_model.specs.Edit.{edit}
use Rattle.send_model.specs.Clone.{clone, clone_values}
use Rattle.send_model.specs.Store.{Key, Entry, Store, find}
use Rattle.send_model.specs.Receive.{bytes_of}
use Rattle.send_model.specs.Outside.{IsAmong, FindsLawful, IsSayable, FindsSayable}
use Rattle.send_model.specs.Provenance.{Place, Traced, inode_with, traced_store}
use Rattle.send_model.specs.Cells.{recelled, recelled_store, recelled_result, Good, cell_of, Holds}
use Rattle.send_model.proofs.Sorts.{same_inside}
use Rattle.send_model.proofs.CellEdits.{edit-cells}
use Rattle.send_model.proofs.CellSteps.{find-cells}
use Rattle.send_model.proofs.CellClones.{clone-cells}
use Rattle.send_model.proofs.Held.{edit_holds, clone_holds}
use Rattle.send_model.proofs.LawfulEdits.{edit_keeps_lawful, clone_keeps_lawful, root_alone_is_lawful, edits_keep_sayable, clone_keeps_sayable, root_alone_is_sayable}
use Rattle.send_model.proofs.Carrying.{InPlace, Placed}
use Rattle.send_model.proofs.Tracing.{byte_of, untraced_store}
use Rattle.send_model.proofs.TracedBase.{found_holds, found_untraced}
use Rattle.send_model.proofs.Elsewhere.{lawful_ordered}
use Rattle.send_model.proofs.MergingAny.{Celled, Keeps}
use Rattle.standing_model.specs.Births.{CameFrom, Tagged, byte_in, untagged, tagged_of, tagged_store, born_from, born_cells}
use Rattle.standing_model.specs.Promises.{IsThere}
use Rattle.standing_model.proofs.Told.{Told, IsTold, item_told}

-- ---- other cells twice

abbrev other_inodes : {A B : Type 0} → (A → B) → Map ℕ (Inode A) → Map ℕ (Inode B)
other_inodes g m = map (λ e. (e.0, inode_with e.1 (map g e.1.cells))) m

module _ {A B C : Type 0} (f : B → C) (g : A → B) where
  cells_twice : (xs : List A) → map f (map g xs) ≡ map (λ x. f (g x)) xs
  cells_twice [] = refl
  cells_twice (x ∷ xs) = ap (λ (r : List C). f (g x) ∷ r) (cells_twice xs)

  inodes_twice : (m : Map ℕ (Inode A)) → other_inodes f (other_inodes g m) ≡ other_inodes (λ x. f (g x)) m
  inodes_twice [] = refl
  inodes_twice (e ∷ m) = let one : List C → ℕ × Inode C = λ xs. (e.0, inode_with e.1 xs) in λ i. one (cells_twice e.1.cells i) ∷ inodes_twice m i

  pub recelled_twice : (s : Subvolume A) → recelled f (recelled g s) ≡ recelled (λ x. f (g x)) s
  recelled_twice s = let at : Map ℕ (Inode C) → Subvolume C = λ m. record { inodes = m; names = s.names; next = s.next } in ap at (inodes_twice s.inodes)

  contents_twice : (o : Option (Subvolume A)) → option_map (recelled f) (option_map (recelled g) o) ≡ option_map (recelled (λ x. f (g x))) o
  contents_twice None = refl
  contents_twice (Some s) = ap (λ (x : Subvolume C). Some x) (recelled_twice s)

  store_twice : (store : Store A) → recelled_store f (recelled_store g store) ≡ recelled_store (λ x. f (g x)) store
  store_twice [] = refl
  store_twice (e ∷ store) =
      let at : Option (Subvolume C) → Entry (Subvolume C) = λ c. record { name = e.name; key = e.key; parent = e.parent; contents = c } in
      ap₂ (λ (a : Entry (Subvolume C)) (r : Store C). a ∷ r) (ap at (contents_twice e.contents)) (store_twice store)

-- What holds of each cell holds, said of what a function makes of it.
holds_map : {A B : Type 0} (P : A → Type 0) (Q : B → Type 0) (g : A → B) → ((a : A) → P a → Q (g a)) → (s : Subvolume A) → Holds P s → Holds Q (recelled g s)
holds_map {A} {B} P Q g h s (t, e) =
    let φ : Good P → Good Q = λ x. (g x.0, h x.0 x.1) in
    (recelled φ t, recelled_twice (cell_of Q) φ t ∙ sym (recelled_twice g (cell_of P) t) ∙ ap (recelled g) e)

-- ---- the base

pub tagged_is : (base : Store ℕ) → recelled_store byte_in (tagged_store base) ≡ base
tagged_is base = store_twice byte_in tagged_of (traced_store base) ∙ untraced_store base

pub born_bytes : (file at : ℕ) (bytes : List ℕ) → map byte_in (born_from file at bytes) ≡ bytes
born_bytes file at [] = refl
born_bytes file at (b ∷ bytes) = ap (λ (r : List ℕ). b ∷ r) (born_bytes file (at + 1) bytes)

-- Cells with tags, for the induction over any cells.
abbrev pub celled : Celled Tagged
celled = record { zero_cell = untagged 0; byte_in = byte_in; is_zero = refl; cells = born_cells; same_bytes = λ item. born_bytes item.file item.data_at (bytes_of item.command) }

module _ (files : List (List ℕ)) (base : Store ℕ) (keys : List Key) where
  told_of : (o : Option Place) (byte : ℕ) → Placed base keys o byte → Told files base keys (option_map CameFrom o) byte
  told_of None byte h = tt
  told_of (Some place) byte h = h

  -- What is said of subvolumes of bytes, from which it follows that they are lawful, and which the base, edits and clones keep.
  pub record KeepsSaid (Said : Subvolume ℕ → Type 0) (ItemSaid : Item → Type 0) : Type 0 where
    pub lawful : (s : Subvolume ℕ) → Said s → IsLawful s
    pub found : (key : Key) (s : Subvolume ℕ) → IsAmong key keys → find base key ≡ Some s → Said s
    pub edits : (item : Item) (s t : Subvolume ℕ) → ItemSaid item → Said s → edit 0 (bytes_of item.command) item.command s ≡ Ok t → Said t
    pub clones : (s : Subvolume ℕ) (source : Option (Subvolume ℕ)) (own : Bool) (path : List ℕ) (offset : ℕ) (clone_path : List ℕ) (from len : ℕ) (t : Subvolume ℕ)
        → Said s → ((v : Subvolume ℕ) → source ≡ Some v → Said v) → clone 0 s source own (clone_values path offset clone_path from len) ≡ Ok t → Said t
    pub root : Said root_alone

  module _ (lawful : FindsLawful base keys) (Said : Subvolume ℕ → Type 0) (ItemSaid : Item → Type 0) (said : KeepsSaid Said ItemSaid) where
    -- What is known of a subvolume: each cell is told, and what is said of it with bytes alone. And of an item: its data stand in its file.
    abbrev pub IsKnown : Subvolume Tagged → Type 0
    IsKnown s = Holds (IsTold files base keys) s × Said (recelled byte_in s)

    abbrev pub IsGoodItem : Item → Type 0
    IsGoodItem item = IsThere files item × ItemSaid item

    found_known : (key : Key) (s : Subvolume Tagged) → IsAmong key keys → find (tagged_store base) key ≡ Some s → IsKnown s
    found_known key s among f = one (find (traced_store base) key) refl (sym (find-cells tagged_of (traced_store base) key) ∙ f)
      where
        one : (o : Option (Subvolume Traced)) → find (traced_store base) key ≡ o → option_map (recelled tagged_of) o ≡ Some s → IsKnown s
        one None e g = cc
        one (Some t) e g =
            let held : Holds (InPlace base keys) t = found_holds base keys (lawful_ordered base keys lawful) key t among e in
            let bytes : find base key ≡ Some (recelled byte_of t) = found_untraced base key ∙ ap (option_map (recelled byte_of)) e in
            subst IsKnown (same_inside g) (
              holds_map (InPlace base keys) (IsTold files base keys) tagged_of (λ c h. told_of c.place c.byte h) t held,
              subst Said (sym (recelled_twice byte_in tagged_of t)) (said.found key (recelled byte_of t) among bytes),
            )

    edit_known : (item : Item) (s t : Subvolume Tagged) → IsGoodItem item → IsKnown s → edit (untagged 0) (born_cells item) item.command s ≡ Ok t → IsKnown t
    edit_known item s t good known e =
        let put : List Tagged = born_cells item in
        let same : edit 0 (bytes_of item.command) item.command (recelled byte_in s) ≡ Ok (recelled byte_in t) =
        ap (λ (bs : List ℕ). edit 0 bs item.command (recelled byte_in s)) (sym (born_bytes item.file item.data_at (bytes_of item.command))) ∙ edit-cells byte_in (untagged 0) put item.command s ∙ ap (recelled_result byte_in) e in (
          edit_holds (IsTold files base keys) (untagged 0) put item.command s t tt (item_told files base keys item good.0) known.0 e,
          said.edits item (recelled byte_in s) (recelled byte_in t) good.1 known.1 same,
        )

    clone_known : (s : Subvolume Tagged) (source : Option (Subvolume Tagged)) (own : Bool) (path : List ℕ) (offset : ℕ) (clone_path : List ℕ) (from len : ℕ) (t : Subvolume Tagged)
        → IsKnown s → ((v : Subvolume Tagged) → source ≡ Some v → IsKnown v) → clone (untagged 0) s source own (clone_values path offset clone_path from len) ≡ Ok t → IsKnown t
    clone_known s source own path offset clone_path from len t known others e =
        let same : clone 0 (recelled byte_in s) (option_map (recelled byte_in) source) own (clone_values path offset clone_path from len) ≡ Ok (recelled byte_in t) =
        clone-cells byte_in (untagged 0) s source own path offset clone_path from len ∙ ap (recelled_result byte_in) e in (
          clone_holds (IsTold files base keys) (untagged 0) s source own path offset clone_path from len t tt known.0 (λ v q. let o = others v q in o.0) e,
          said.clones (recelled byte_in s) (option_map (recelled byte_in) source) own path offset clone_path from len (recelled byte_in t) known.1 (one source others) same,
        )
      where
        one : (o : Option (Subvolume Tagged)) → ((v : Subvolume Tagged) → o ≡ Some v → IsKnown v) → (u : Subvolume ℕ) → option_map (recelled byte_in) o ≡ Some u → Said u
        one None h u q = cc
        one (Some v) h u q = subst Said (same_inside q) (let k = h v refl in k.1)

    pub keeps : Keeps celled base (tagged_store base) keys IsKnown IsGoodItem
    keeps = record {
      start_is = tagged_is base;
      found = found_known;
      edits = edit_known;
      clones = clone_known;
    }

    pub root_known : IsKnown root_alone
    unfolding root_alone
    root_known = ((root_alone, refl), said.root)

  -- That they are lawful is such a thing, of any items.
  pub lawful_said : FindsLawful base keys → KeepsSaid (λ s. IsLawful s) (λ item. Unit {0})
  lawful_said lawful = record {
    lawful = λ s h. h;
    found = lawful;
    edits = λ item s t u h e. edit_keeps_lawful 0 (bytes_of item.command) item.command s t h e;
    clones = λ s source own path offset clone_path from len t h hs e. clone_keeps_lawful 0 source own path offset clone_path from len s t h e;
    root = root_alone_is_lawful;
  }

  -- That they can be said is another, of items that a version can say.
  pub sayable_said : (version : ℕ) → FindsSayable base keys → KeepsSaid (λ s. IsSayable s) (λ item. IsSpellable version item.command)
  sayable_said version sayable = record {
    lawful = λ s h. h.lawful;
    found = sayable;
    edits = λ item s t spelled h e. edits_keep_sayable version item.command s t spelled h e;
    clones = λ s source own path offset clone_path from len t h hs e. clone_keeps_sayable s source own path offset clone_path from len t h hs e;
    root = root_alone_is_sayable;
  }
