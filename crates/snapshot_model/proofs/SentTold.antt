-- What sending asks of a subvolume, edits by commands that can be said keep, and clones.
use Rattle.std.specs.Prelude.{◌≡◌, ℕ, ◌^◌, ◌<◌, Bool, List, [], ◌∷◌, Option, None, Some, Ok}
use Rattle.std.specs.List.{AllByRecursion}
use Rattle.std.specs.Ordering.{nat_cmp}
use Rattle.std.proofs.Common.{refl, sym, subst, arith}
use Rattle.send_model.specs.Attribute.{Bytes, FieldFits, IsBytes, PATH_LINK, XATTR_NAME, XATTR_DATA}
use Rattle.send_model.specs.Command.{Command, MkFile, MkDir, MkNod, MkFifo, MkSock, Symlink, Rename, Link, Unlink, Rmdir, SetXattr, RemoveXattr, Write, Truncate, Chmod, Chown, Utimes, Fallocate, FileAttr, row}
use Rattle.send_model.specs.Spelling.{IsSpellable}
use Rattle.send_model.specs.Map.{bytes_cmp}
use Rattle.send_model.specs.Subvolume.{NodeKind, Inode, Subvolume, IsLawful, new_inode, root_alone, inode_at}
use Rattle.send_model.specs.Edit.{written_at, overwritten, resized, fallocated, edit}
use Rattle.send_model.specs.Clone.{cells_of, clone, clone_values}
use Rattle.send_model.specs.Receive.{bytes_of}
use Rattle.snapshot_model.specs.Listing.{byte_of, held}
use Rattle.snapshot_model.specs.SentLaws.{IsTold, HasNumbers, IsKept, EditsKeepIt, KeptIsSendable}
use Rattle.send_model.proofs.Fuel.{ok_same}
use Rattle.send_model.proofs.ElementLaws.{all_take, all_drop}
use Rattle.send_model.proofs.Canonical.{first_fits}
use Rattle.send_model.proofs.Versions.{not_rest}
use Rattle.send_model.proofs.Keeping.{all_filtered, all_keys_with, all_values_with, all_found, Has, made_keeps, device_keeps, link_keeps, unlink_keeps, rmdir_keeps, rename_keeps, changed_at, xattr_set_keeps, xattr_removed_keeps, contents_keep, fallocate_keeps, clone_keeps}
use Rattle.send_model.proofs.LawfulEdits.{IsByteName, byte_names, new_bytes, all_written, all_resized, all_overwritten, all_fallocated, edit_keeps_lawful, clone_keeps_lawful, root_alone_is_lawful}
use Rattle.send_model.proofs.Redirected.{cloned_facts}
use Rattle.snapshot_model.proofs.SentKept.{AreMade, edit_keeps_made, clone_keeps_made, root_alone_made, all_any_names}
use Rattle.snapshot_model.proofs.SentNumbers.{made_is_sendable}
use Rattle.snapshot_model.proofs.SentNext.{edit_keeps_numbers, clone_keeps_numbers, root_alone_numbers}

abbrev Cell : Type 0
Cell = Option ℕ

abbrev IsLow : Cell → Type 0
IsLow cell = byte_of cell < 256

no_byte : IsLow None
no_byte = omega arith

held_low : (bytes : List ℕ) → IsBytes bytes → AllByRecursion IsLow (held bytes)
held_low [] h = tt
held_low (b ∷ bytes) h = (h.0, held_low bytes h.1)

new_told : (kind : NodeKind) (mode rdev : ℕ) (target : List ℕ) → rdev < 2 ^ 64 → FieldFits 1 PATH_LINK (Bytes target) → IsTold (new_inode kind mode rdev target)
new_told kind mode rdev target device link = record {
  owners = (small, small);
  device = device;
  flags = small;
  atime = (small, low);
  mtime = (small, low);
  target = link;
  attribute_names = tt;
  attribute_values = tt;
  cells = tt;
}
  where
    small : 0 < 2 ^ 64
    small = omega arith

    low : 0 < 1_000_000_000
    low = omega arith

no_target : FieldFits 1 PATH_LINK (Bytes [])
no_target = ((λ e. let k : 0 < 2 ^ 16 = omega arith in k), tt)

zero_device : 0 < 2 ^ 64
zero_device = omega arith

abbrev Told : Subvolume Cell → Type 0
Told s = Has IsByteName IsTold s

with_told_cells : (inode : Inode Cell) (cells : List Cell) → IsTold inode → AllByRecursion IsLow cells → IsTold (record inode { cells = cells })
with_told_cells inode cells h low = record {
  owners = h.owners;
  device = h.device;
  flags = h.flags;
  atime = h.atime;
  mtime = h.mtime;
  target = h.target;
  attribute_names = h.attribute_names;
  attribute_values = h.attribute_values;
  cells = low;
}

edit_told : (version : ℕ) (c : Command) (s t : Subvolume Cell) → IsSpellable version c → Told s → edit None (held (bytes_of c)) c s ≡ Ok t → Told t
unfolding edit row
edit_told version (MkFile path) s t sp h e = made_keeps IsByteName IsTold _ path s t (byte_names path (new_bytes version (MkFile path) sp)) (new_told _ _ 0 [] zero_device no_target) h e
edit_told version (MkDir path) s t sp h e = made_keeps IsByteName IsTold _ path s t (byte_names path (new_bytes version (MkDir path) sp)) (new_told _ _ 0 [] zero_device no_target) h e
edit_told version (MkNod mode rdev path) s t sp h e = let v = sp.values in
    device_keeps IsByteName IsTold mode rdev path s t (byte_names path (new_bytes version (MkNod mode rdev path) sp)) (λ kind. new_told kind _ rdev [] v.1.0 no_target) h e
edit_told version (MkFifo path) s t sp h e = made_keeps IsByteName IsTold _ path s t (byte_names path (new_bytes version (MkFifo path) sp)) (new_told _ _ 0 [] zero_device no_target) h e
edit_told version (MkSock path) s t sp h e = made_keeps IsByteName IsTold _ path s t (byte_names path (new_bytes version (MkSock path) sp)) (new_told _ _ 0 [] zero_device no_target) h e
edit_told version (Symlink path link) s t sp h e = let v = sp.values in
    made_keeps IsByteName IsTold _ path s t (byte_names path (new_bytes version (Symlink path link) sp)) (new_told _ _ 0 link zero_device (first_fits version 17 (Bytes link) (not_rest version 17 refl) v.1.0)) h e
edit_told version (Rename path path_to) s t sp h e = rename_keeps IsByteName IsTold path path_to s t (byte_names path_to (new_bytes version (Rename path path_to) sp)) h e
edit_told version (Link path link) s t sp h e = link_keeps IsByteName IsTold path link s t (byte_names path (new_bytes version (Link path link) sp)) h e
edit_told version (Unlink path) s t sp h e = unlink_keeps IsByteName IsTold path s t h e
edit_told version (Rmdir path) s t sp h e = rmdir_keeps IsByteName IsTold path s t h e
edit_told version (SetXattr name value path) s t sp h e = let v = sp.values in
    xattr_set_keeps IsByteName IsTold path name value s t (λ inode is. record {
      owners = is.owners;
      device = is.device;
      flags = is.flags;
      atime = is.atime;
      mtime = is.mtime;
      target = is.target;
      attribute_names = all_keys_with bytes_cmp (λ k. FieldFits 1 XATTR_NAME (Bytes k)) name value inode.xattrs (first_fits version 13 (Bytes name) (not_rest version 13 refl) v.0) is.attribute_names;
      attribute_values = all_values_with bytes_cmp (λ x. FieldFits 1 XATTR_DATA (Bytes x)) name value inode.xattrs (first_fits version 14 (Bytes value) (not_rest version 14 refl) v.1.0) is.attribute_values;
      cells = is.cells;
    }) h e
edit_told version (RemoveXattr name path) s t sp h e =
    xattr_removed_keeps IsByteName IsTold path name s t (λ inode is. record {
      owners = is.owners;
      device = is.device;
      flags = is.flags;
      atime = is.atime;
      mtime = is.mtime;
      target = is.target;
      attribute_names = all_filtered (λ x. FieldFits 1 XATTR_NAME (Bytes x.0)) _ inode.xattrs is.attribute_names;
      attribute_values = all_filtered (λ x. FieldFits 1 XATTR_DATA (Bytes x.1)) _ inode.xattrs is.attribute_values;
      cells = is.cells;
    }) h e
edit_told version (Write path offset bytes) s t sp h e = let v = sp.values in
    contents_keep IsByteName IsTold path _ (written_at None offset (held bytes)) s t (λ fits inode is. with_told_cells inode (written_at None offset (held bytes) inode.cells) is (all_written IsLow None no_byte offset (held bytes) inode.cells (held_low bytes v.1.1.0.1) is.cells)) h e
edit_told version (Truncate size path) s t sp h e =
    contents_keep IsByteName IsTold path _ (resized None size) s t (λ fits inode is. with_told_cells inode (resized None size inode.cells) is (all_resized IsLow None no_byte size inode.cells is.cells)) h e
edit_told version (Chmod mode path) s t sp h e = changed_at IsByteName IsTold path _ s t (λ inode is. record {
  owners = is.owners;
  device = is.device;
  flags = is.flags;
  atime = is.atime;
  mtime = is.mtime;
  target = is.target;
  attribute_names = is.attribute_names;
  attribute_values = is.attribute_values;
  cells = is.cells;
}) h e
edit_told version (Chown uid gid path) s t sp h e = let v = sp.values in
    changed_at IsByteName IsTold path _ s t (λ inode is. record {
      owners = (v.0, v.1.0);
      device = is.device;
      flags = is.flags;
      atime = is.atime;
      mtime = is.mtime;
      target = is.target;
      attribute_names = is.attribute_names;
      attribute_values = is.attribute_values;
      cells = is.cells;
    }) h e
edit_told version (Utimes mtime atime path) s t sp h e = let v = sp.values in
    changed_at IsByteName IsTold path _ s t (λ inode is. record {
      owners = is.owners;
      device = is.device;
      flags = is.flags;
      atime = v.1.0;
      mtime = v.0;
      target = is.target;
      attribute_names = is.attribute_names;
      attribute_values = is.attribute_values;
      cells = is.cells;
    }) h e
edit_told version (Fallocate size path offset mode) s t sp h e =
    fallocate_keeps IsByteName IsTold None path offset size mode s t (λ allocation fits inode is. with_told_cells inode (fallocated None allocation offset size inode.cells) is (all_fallocated IsLow None no_byte allocation offset size inode.cells is.cells)) h e
edit_told version (FileAttr path flags) s t sp h e = let v = sp.values in
    changed_at IsByteName IsTold path _ s t (λ inode is. record {
      owners = is.owners;
      device = is.device;
      flags = v.1.0;
      atime = is.atime;
      mtime = is.mtime;
      target = is.target;
      attribute_names = is.attribute_names;
      attribute_values = is.attribute_values;
      cells = is.cells;
    }) h e
edit_told version c s t sp h e = subst (λ (u : Subvolume Cell). Told u) (ok_same e) h

source_cells : (s : Subvolume Cell) (ino : ℕ) → Told s → AllByRecursion IsLow (cells_of s ino)
unfolding cells_of
source_cells s ino h = one (inode_at s ino) refl
  where
    one : (o : Option (Inode Cell)) → inode_at s ino ≡ o → AllByRecursion IsLow (elim o as (λ x. List Cell) [ None ↦ [] | Some inode ↦ inode.cells ])
    one None e = tt
    one (Some inode) e = (all_found nat_cmp (λ (i : Inode Cell). IsTold i) ino inode s.inodes h.inodes e).cells

clone_told : (part source t : Subvolume Cell) (is_own : Bool) (path : List ℕ) (offset : ℕ) (clone_path : List ℕ) (from len : ℕ) → Told part → Told source
    → clone None part (Some source) is_own (clone_values path offset clone_path from len) ≡ Ok t → Told t
clone_told part source t is_own path offset clone_path from len h g e =
    clone_keeps IsByteName IsTold None part (Some source) is_own path offset clone_path from len t (λ range made inode is.
    let f = cloned_facts part source is_own path offset clone_path from len range made in
    let low : AllByRecursion IsLow range.cells = subst (λ (cells : List Cell). AllByRecursion IsLow cells) (sym f.cells_are) (all_take IsLow len _ (all_drop IsLow from _ (source_cells source f.source_ino g))) in
    with_told_cells inode (overwritten None offset range.cells inode.cells) is (all_overwritten IsLow None no_byte offset range.cells inode.cells low is.cells)) h e

told_of : (s : Subvolume Cell) → IsKept s → Told s
told_of s h = record { names = h.names; inodes = h.told }

made_of : (s : Subvolume Cell) → IsKept s → AreMade s
made_of s h = record { names = all_any_names s.names; inodes = h.made }

kept_from : (s : Subvolume Cell) → IsLawful s → AreMade s → HasNumbers s → Told s → IsKept s
kept_from s lawful made numbers told = record { lawful = lawful; made = made.inodes; numbers = numbers; told = told.inodes; names = told.names }

pub edits_keep_it : EditsKeepIt
unfolding root_alone
edits_keep_it = record {
  start = kept_from root_alone root_alone_is_lawful root_alone_made root_alone_numbers (record { names = tt; inodes = (new_told _ _ 0 [] zero_device no_target, tt) });
  edits = λ version c s t sp h e.
      kept_from t (edit_keeps_lawful None (held (bytes_of c)) c s t h.lawful e) (edit_keeps_made None (held (bytes_of c)) c s t (made_of s h) e)
      (edit_keeps_numbers None (held (bytes_of c)) c s t h.lawful.sound h.numbers e) (edit_told version c s t sp (told_of s h) e);
  clones = λ part source t is_own values h g e.
      let path : List ℕ = values.path in
      let offset : ℕ = values.offset in
      let clone_path : List ℕ = values.clone_path in
      let from : ℕ = values.from in
      let len : ℕ = values.len in
      kept_from t (clone_keeps_lawful None (Some source) is_own path offset clone_path from len part t h.lawful e) (clone_keeps_made None part source is_own path offset clone_path from len t (made_of part h) e)
      (clone_keeps_numbers None part (Some source) is_own path offset clone_path from len t h.lawful.sound h.numbers e) (clone_told part source t is_own path offset clone_path from len (told_of part h) (told_of source g) e);
}

pub kept_is_sendable : KeptIsSendable
kept_is_sendable s h = made_is_sendable s h.lawful h.made (omega (arith, h.numbers.each, h.numbers.next))
