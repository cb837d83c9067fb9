-- A store with one subvolume of one inode, of which two bytes are held. No path names it.
use Rattle.std.specs.Prelude.{◌≡◌, ℕ, Bool, true, false, ◌&&◌, [], ◌∷◌, length, None, Some, if◌then◌else◌}
use Rattle.std.proofs.Common.{refl, sym, ap}
use Rattle.std.specs.Ordering.{nat_cmp, eq_by_cmp}
use Rattle.send_model.specs.Subvolume.{Subvolume, Inode, Directory, new_inode, is_file, is_nameable}
use Rattle.send_model.specs.Clone.{cells_of}
use Rattle.send_model.specs.Store.{Key, Store, find, same_key}
use Rattle.provenance.specs.Cuts.{AreEndsOf, file_end}

abbrev pub held_inode : Inode ℕ
held_inode = record (new_inode Directory 0 0 []) { cells = 0 ∷ 0 ∷ [] }

abbrev pub held_subvolume : Subvolume ℕ
held_subvolume = record { inodes = (257, held_inode) ∷ []; names = []; next = 258 }

abbrev pub held_store : Key → Store ℕ
held_store key = record { name = []; key = key; parent = None; contents = Some held_subvolume } ∷ []

-- So no file has an end.
no_file : (ino : ℕ) → is_file held_subvolume ino ≡ false
unfolding is_file
no_file ino = one (eq_by_cmp nat_cmp ino 257) refl
  where
    one : (b : Bool) → eq_by_cmp nat_cmp ino 257 ≡ b → is_file held_subvolume ino ≡ false
    one true e = rw e refl
    one false e = rw e refl

pub no_ends : (held : Key) → AreEndsOf (held_store held) (λ key ino. None)
unfolding find
no_ends held key ino = one (same_key held key)
  where
    one : (b : Bool) → None ≡ file_end (if b then Some held_subvolume else None) ino
    one true = sym
        (ap (λ (f : Bool). if f
        && is_nameable held_subvolume ino then Some
        (length (cells_of held_subvolume ino)) else None) (no_file ino))
    one false = refl
