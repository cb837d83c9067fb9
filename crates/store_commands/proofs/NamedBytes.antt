-- The complete subvolume of a name, over places and with the bytes that an image has there.
use Rattle.std.specs.Prelude.{◌≡◌, ℕ, Bool, T, ◌&&◌, List, [], ◌∷◌, map, Option, None, Some, is_some}
use Rattle.std.specs.Option.{option_map}
use Rattle.std.specs.Ordering.{nat_cmp, is_lt}
use Rattle.std.specs.List.{AllByRecursion}
use Rattle.std.specs.FinMap.Entries.{below_all, is_sorted}
use Rattle.std.proofs.Common.{refl, sym, ap, subst, ◌∙◌}
use Rattle.send_model.specs.Map.{Map, IsMap, bytes_cmp}
use Rattle.send_model.specs.Subvolume.{Inode, Subvolume, IsSound, IsLawful, root, inode_at, name_count}
use Rattle.send_model.specs.Clone.{cells_of}
use Rattle.send_model.specs.Store.{Entry, Store, find}
use Rattle.send_model.specs.Provenance.{inode_with}
use Rattle.send_model.specs.Cells.{recelled, recelled_entry, recelled_store}
use Rattle.send_model.specs.Lawful.{IsLawfulEntry, HasSayable}
use Rattle.send_model.proofs.CellMaps.{inode_at-cells, is_directory-cells, walk_names-cells}
use Rattle.store_model.specs.Stored.{byte_of, StandsFor}
use Rattle.store_model.specs.Dues.{complete_named, file_at}
use Rattle.store_model.proofs.LawfulGroups.{stands_lawful}
use Rattle.group_replay.specs.declared.place.Place.{Place}
use Rattle.store_journal.specs.Standing.{with_bytes}
use Rattle.store_journal.specs.Reading.{file_cells}
use Rattle.store_commands.specs.Files.{found_file}
use Rattle.subvol_catalog.specs.Entries.{named}
use Rattle.store_commands.proofs.FoundFiles.{file_is, no_file, same_file, IsFoundIn, all_found}
use Rattle.store_commands.proofs.Named.{named_same, named_holds, complete_there, not_there, not_complete}

-- ---- lawful with bytes, and without

module _ {C D : Type 0} (f : C → D) where
  abbrev changed : ℕ × Inode C → ℕ × Inode D
  changed e = (e.0, inode_with e.1 (map f e.1.cells))

  same_below : (k : ℕ) (m : Map ℕ (Inode C)) → below_all nat_cmp k (map changed m) ≡ below_all nat_cmp k m
  same_below k [] = refl
  same_below k (e ∷ m) = ap (λ (b : Bool). is_lt (nat_cmp k e.0) && b) (same_below k m)

  same_sorted : (m : Map ℕ (Inode C)) → is_sorted nat_cmp (map changed m) ≡ is_sorted nat_cmp m
  same_sorted [] = refl
  same_sorted (e ∷ m) = ap (λ (b : Bool). b && is_sorted nat_cmp (map changed m)) (same_below e.0 m) ∙ ap (λ (b : Bool). below_all nat_cmp e.0 m && b) (same_sorted m)

  same_there : (s : Subvolume C) (ino : ℕ) → is_some (inode_at (recelled f s) ino) ≡ is_some (inode_at s ino)
  same_there s ino = ap (λ (o : Option (Inode D)). is_some o) (inode_at-cells f s ino) ∙ some_map (inode_at s ino)
    where
      some_map : (o : Option (Inode C)) → is_some (option_map (λ (i : Inode C). inode_with i (map f i.cells)) o) ≡ is_some o
      some_map None = refl
      some_map (Some i) = refl

  sound_back : (s : Subvolume C) → IsSound (recelled f s) → IsSound s
  unfolding name_count
  sound_back s h = record {
    inodes_in_order = subst T (same_sorted s.inodes) h.inodes_in_order;
    names_in_order = h.names_in_order;
    root_there = sym (is_directory-cells f s root) ∙ h.root_there;
    in_directory = λ directory name ino e. sym (is_directory-cells f s directory) ∙ h.in_directory directory name ino e;
    leads_somewhere = λ directory name ino e. sym (same_there s ino) ∙ h.leads_somewhere directory name ino e;
    root_unnamed = h.root_unnamed;
    has_name = λ ino there n. h.has_name ino (same_there s ino ∙ there) n;
    one_name = λ ino is. h.one_name ino (is_directory-cells f s ino ∙ is);
    from_root = λ directory is. let w = h.from_root directory (is_directory-cells f s directory ∙ is) in (w.0, sym (walk_names-cells f s root w.0) ∙ w.1);
    below_next = λ ino there. h.below_next ino (same_there s ino ∙ there);
  }

  ordered_back : (m : Map ℕ (Inode C)) → AllByRecursion (λ e. IsMap bytes_cmp e.1.xattrs) (map changed m) → AllByRecursion (λ e. IsMap bytes_cmp e.1.xattrs) m
  ordered_back [] h = tt
  ordered_back (e ∷ m) h = (h.0, ordered_back m h.1)

  pub lawful_back : (s : Subvolume C) → IsLawful (recelled f s) → IsLawful s
  lawful_back s h = record { sound = sound_back s h.sound; lawful_names = h.lawful_names; ordered_attributes = ordered_back s.inodes h.ordered_attributes }

-- ---- the entry of a name

module _ (image : List ℕ) (core : Store (Option Place)) (name : List ℕ) where
  abbrev of_bytes : Subvolume (Option Place) → Subvolume ℕ
  of_bytes s = recelled (byte_of image) (recelled (option_map (λ place. place.at)) s)

  abbrev entry_with : Entry (Subvolume (Option Place)) → Entry (Subvolume ℕ)
  entry_with e = recelled_entry (byte_of image) (recelled_entry (option_map (λ place. place.at)) e)

  named_with : named name (with_bytes image core) ≡ option_map (recelled_entry (byte_of image)) (option_map (recelled_entry (option_map (λ place. place.at))) (named name core))
  named_with = named_same (byte_of image) name (recelled_store (option_map (λ place. place.at)) core) ∙ ap (option_map (recelled_entry (byte_of image))) (named_same (option_map (λ place. place.at)) name core)

  abbrev entry_of_place : Option (Entry (Subvolume (Option Place))) → Option (Entry (Subvolume ℕ))
  entry_of_place o = option_map (recelled_entry (byte_of image)) (option_map (recelled_entry (option_map (λ place. place.at))) o)

  abbrev contents_with : Option (Subvolume (Option Place)) → Option (Subvolume ℕ)
  contents_with o = option_map (recelled (byte_of image)) (option_map (recelled (option_map (λ place. place.at))) o)

  pub gone : named name core ≡ None → complete_named name (with_bytes image core) ≡ None
  gone is = not_there name (with_bytes image core) (named_with ∙ ap entry_of_place is)

  pub unfinished_one : (e : Entry (Subvolume (Option Place))) → named name core ≡ Some e → e.contents ≡ None → complete_named name (with_bytes image core) ≡ None
  unfinished_one e is none = not_complete name (with_bytes image core) (entry_with e) (named_with ∙ ap entry_of_place is) (ap contents_with none)

  pub complete_one_there : (e : Entry (Subvolume (Option Place))) (s : Subvolume (Option Place)) → named name core ≡ Some e → e.contents ≡ Some s → complete_named name (with_bytes image core) ≡ Some (entry_with e, of_bytes s)
  complete_one_there e s is holds = complete_there name (with_bytes image core) (entry_with e) (of_bytes s) (named_with ∙ ap entry_of_place is) (ap contents_with holds)

  -- It is lawful.
  pub named_lawful : (e : Entry (Subvolume (Option Place))) (s : Subvolume (Option Place)) → StandsFor image (with_bytes image core) → named name core ≡ Some e → e.contents ≡ Some s → IsLawful s
  named_lawful e s stands is holds =
      let all = (stands_lawful image (with_bytes image core) stands).entries in
      let one : IsLawfulEntry (entry_with e) = named_holds name IsLawfulEntry (with_bytes image core) (entry_with e) all (named_with ∙ ap entry_of_place is) in
      let sayable = subst HasSayable (ap contents_with holds) one.contents in
      lawful_back (option_map (λ place. place.at)) s (lawful_back (byte_of image) (recelled (option_map (λ place. place.at)) s) sayable.lawful)

  -- It is found by its key, so its files are those that are read by it.
  pub found_by_key : (e : Entry (Subvolume (Option Place))) (s : Subvolume (Option Place)) → StandsFor image (with_bytes image core) → named name core ≡ Some e → e.contents ≡ Some s → find (with_bytes image core) e.key ≡ Some (of_bytes s)
  found_by_key e s stands is holds =
      named_holds name (IsFoundIn (with_bytes image core)) (with_bytes image core) (entry_with e) (all_found (with_bytes image core) (stands_lawful image (with_bytes image core) stands).distinct) (named_with ∙ ap entry_of_place is) (of_bytes s)
      (ap contents_with holds)

  same_path : (path : List ℕ) (s : Subvolume (Option Place)) → found_file path (of_bytes s) ≡ found_file path s
  same_path path s = same_file (byte_of image) path (recelled (option_map (λ place. place.at)) s) ∙ same_file (option_map (λ place. place.at)) path s

  pub file_there : (path : List ℕ) (e : Entry (Subvolume (Option Place))) (s : Subvolume (Option Place)) (ino : ℕ) → StandsFor image (with_bytes image core) → named name core ≡ Some e → e.contents ≡ Some s → found_file path s ≡ Some ino
      → file_at path (of_bytes s) ≡ Some (file_cells (with_bytes image core) e.key ino)
  file_there path e s ino stands is holds found =
      file_is path (of_bytes s) ino (same_path path s ∙ found)
      ∙ sym (ap (λ (o : Option (Subvolume ℕ)). Some (elim o as (λ x. List ℕ) [ None ↦ [] | Some t ↦ cells_of t ino ])) (found_by_key e s stands is holds))

  pub no_file_there : (path : List ℕ) (s : Subvolume (Option Place)) → found_file path s ≡ None → file_at path (of_bytes s) ≡ None
  no_file_there path s none = no_file path (of_bytes s) (same_path path s ∙ none)
