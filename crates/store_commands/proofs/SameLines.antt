-- What is printed of a store and of a subvolume does not look at cells.
use Rattle.std.specs.Prelude.{◌≡◌, ℕ, List, [], ◌∷◌, ◌++◌, map, Option, None, Some, codes}
use Rattle.std.specs.List.{flat_map}
use Rattle.std.specs.Option.{option_map}
use Rattle.std.specs.Fmt.{decimal}
use Rattle.std.proofs.Common.{refl, ap, ◌∙◌}
use Rattle.std.proofs.lemmas.List.{length-map}
use Rattle.send_model.specs.Map.{Map}
use Rattle.send_model.specs.Subvolume.{NodeKind, File, Directory, SymbolicLink, CharacterDevice, BlockDevice, Fifo, Socket, Inode, Subvolume}
use Rattle.send_model.specs.Store.{Key, Entry, Store}
use Rattle.send_model.specs.Provenance.{inode_with}
use Rattle.send_model.specs.Printed.{escaped, uuid_text, octal, time_text}
use Rattle.send_model.specs.Answer.{and_field, and_number, line}
use Rattle.send_model.specs.Cells.{recelled, recelled_entry, recelled_store}
use Rattle.group_replay.specs.declared.place.Place.{Place}
use Rattle.store_journal.specs.Standing.{with_bytes}
use Rattle.store_model.specs.Stored.{byte_of}
use Rattle.store_model.specs.StoreLines.{state_text, parent_text, kind_text, entry_line, listed, extra_text, inode_line, inode_lines, xattr_line, name_line, shown}

module _ {C D : Type 0} (f : C → D) where
  same_state : (contents : Option (Subvolume C)) → state_text (option_map (recelled f) contents) ≡ state_text contents
  same_state None = refl
  same_state (Some s) = refl

  same_entry : (e : Entry (Subvolume C)) → entry_line (recelled_entry f e) ≡ entry_line e
  unfolding entry_line
  same_entry e = ap (λ (text : List ℕ). line (escaped e.name ++ and_field (uuid_text e.key.uuid) ++ and_number e.key.ctransid ++ and_field text ++ and_field (parent_text e.parent))) (same_state e.contents)

  pub same_list : (store : Store C) → listed (recelled_store f store) ≡ listed store
  unfolding listed
  same_list [] = refl
  same_list (e ∷ store) = ap (λ (text : List ℕ). text ++ listed (recelled_store f store)) (same_entry e) ∙ ap (λ (text : List ℕ). entry_line e ++ text) (same_list store)

  same_extra : (kind : NodeKind) (inode : Inode C) → extra_text kind (inode_with inode (map f inode.cells)) ≡ extra_text kind inode
  same_extra File inode = ap decimal (length-map inode.cells f)
  same_extra Directory inode = refl
  same_extra SymbolicLink inode = refl
  same_extra CharacterDevice inode = refl
  same_extra BlockDevice inode = refl
  same_extra Fifo inode = refl
  same_extra Socket inode = refl

  same_inode : (ino : ℕ) (inode : Inode C) → inode_line ino (inode_with inode (map f inode.cells)) ≡ inode_line ino inode
  unfolding inode_line
  same_inode ino inode = ap
      (λ (text : List ℕ).
      line (codes "inode" ++ and_number ino ++ and_field (kind_text inode.kind) ++ and_field (octal inode.mode) ++ and_number inode.uid ++ and_number inode.gid ++ and_field (time_text inode.atime)
      ++ and_field (time_text inode.mtime) ++ and_number inode.flags ++ and_field text))
      (same_extra inode.kind inode)

  same_inodes : (m : Map ℕ (Inode C)) → flat_map inode_lines (map (λ e. (e.0, inode_with e.1 (map f e.1.cells))) m) ≡ flat_map inode_lines m
  same_inodes [] = refl
  same_inodes (e ∷ m) =
      ap (λ (text : List ℕ). (text ++ flat_map (xattr_line e.0) e.1.xattrs) ++ flat_map inode_lines (map (λ e. (e.0, inode_with e.1 (map f e.1.cells))) m)) (same_inode e.0 e.1)
      ∙ ap (λ (text : List ℕ). inode_lines e ++ text) (same_inodes m)

  pub same_shown : (name : List ℕ) (key : Key) (s : Subvolume C) → shown name key (recelled f s) ≡ shown name key s
  unfolding shown
  same_shown name key s = ap
      (λ (text : List ℕ).
      line (codes "subvol" ++ and_field (escaped name) ++ and_field (uuid_text key.uuid) ++ and_number key.ctransid ++ and_number s.next) ++ (text ++ flat_map name_line s.names))
      (same_inodes s.inodes)

-- Over the places of bytes, and with the bytes that an image has there.
pub same_bytes : (image : List ℕ) (core : Store (Option Place)) → listed (with_bytes image core) ≡ listed core
same_bytes image core = same_list (byte_of image) (recelled_store (option_map (λ place. place.at)) core) ∙ same_list (option_map (λ place. place.at)) core

pub same_bytes_shown : (image name : List ℕ) (key : Key) (s : Subvolume (Option Place)) → shown name key (recelled (byte_of image) (recelled (option_map (λ place. place.at)) s)) ≡ shown name key s
same_bytes_shown image name key s = same_shown (byte_of image) name key (recelled (option_map (λ place. place.at)) s) ∙ same_shown (option_map (λ place. place.at)) name key s
