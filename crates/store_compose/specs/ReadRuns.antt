-- Laws of a disk that is only read, and of a store that is read from it. Source: this program's
-- own.
use Rattle.std.specs.Prelude.{◌≡◌, ℕ, List, length}
use Rattle.std.proofs.Common.{refl, sym, ap, ap₂, subst, ◌∙◌, arith}
use Rattle.std.proofs.lemmas.List.{length-map}
use Rattle.send_model.specs.Store.{Key}
use Rattle.sx_base.specs.Disk.{Pending, IsImage}
use Rattle.sx_base.specs.declared.disk.Disk as keeping
use Rattle.sx_base.proofs.DiskMoments.{begins, joins, weakens}
use Rattle.clone_pieces.specs.Origins.{AreAsLong}
use Rattle.store_journal.specs.Reading.{file_cells, HasSize}
use Rattle.store_journal.specs.Shown.{StoreState}
use Rattle.store_journal.specs.Standing.{place_byte, with_bytes}
use Rattle.store_journal.proofs.ReadFiles.{file_bytes}
use Rattle.store_compose.specs.Reading.{IsRead, StoreOn, IsReadOn}

-- A file has as many bytes as cells.
pub as_many : (image : List ℕ) (store : StoreState) (key : Key) (ino : ℕ)
    → length (file_cells (with_bytes image store.core) key ino)
    ≡ length (file_cells store.core key ino)
as_many image store key ino =
    ap length (file_bytes image store.core key ino)
    ∙ length-map (file_cells store.core key ino) (place_byte image)

module _ {D : Type 0} (disk : keeping.Ghosts D) where
  -- Before the first read.
  pub not_read : ((d : D) (image : List ℕ) → disk.tells → disk.left_since d (disk.moment d) image
      → IsImage (disk.pending d) image) → (d : D) → IsRead disk d d
  not_read only d = record {
    sized = refl;
    same = λ t. record { seen = refl; pending = refl };
    any_moment = λ t. begins d (λ image left. only d image t left) (λ image is. is);
    later = omega arith;
  }

  -- One run of reads after another.
  pub read_more : {start middle new : D} → IsRead disk start middle → IsRead disk middle new
      → IsRead disk start new
  read_more first second = record {
    sized = second.sized ∙ first.sized;
    same = λ t. record {
      seen = (second.same t).seen ∙ (first.same t).seen;
      pending = (second.same t).pending ∙ (first.same t).pending;
    };
    any_moment = λ t.
        joins (first.any_moment t) (weakens (second.any_moment t)
        (λ image is. subst (λ (p : Pending). IsImage p image) (first.same t).pending is));
    later = omega (arith, first.later, second.later);
  }

  -- The same of a store on the disk.
  pub read_none : ((d : D) (image : List ℕ) → disk.tells → disk.left_since d (disk.moment d) image
      → IsImage (disk.pending d) image) → (store : StoreOn D) → IsReadOn disk store store
  read_none only store = record { store_is = refl; name_is = refl; read = not_read only store.disk }

  pub read_both : {start middle new : StoreOn D} → IsReadOn disk start middle
      → IsReadOn disk middle new → IsReadOn disk start new
  read_both first second = record {
    store_is = second.store_is ∙ first.store_is;
    name_is = second.name_is ∙ first.name_is;
    read = read_more first.read second.read;
  }

  -- It can still be read, and each file is as long and has the same bytes.
  pub read_sized : {start new : StoreOn D} → IsReadOn disk start new
      → HasSize (disk.len start.disk) start.store → HasSize (disk.len new.disk) new.store
  read_sized {start} {new} on ready =
      subst (λ (s : StoreState). HasSize (disk.len new.disk) s) (sym on.store_is)
      (subst (λ (k : ℕ). HasSize k start.store) (sym on.read.sized) ready)

  pub read_long : {start new : StoreOn D} → IsReadOn disk start new
      → AreAsLong (file_cells (with_bytes (disk.seen new.disk) new.store.core))
      (file_cells (with_bytes (disk.seen start.disk) start.store.core))
  read_long {start} {new} on key ino =
      as_many (disk.seen new.disk) new.store key ino
      ∙ ap (λ (s : StoreState). length (file_cells s.core key ino)) on.store_is
      ∙ sym (as_many (disk.seen start.disk) start.store key ino)

  pub read_held : {start new : StoreOn D} → disk.tells → IsReadOn disk start new
      → file_cells (with_bytes (disk.seen new.disk) new.store.core)
      ≡ file_cells (with_bytes (disk.seen start.disk) start.store.core)
  read_held t on =
      ap₂ (λ (image : List ℕ) (s : StoreState). file_cells (with_bytes image s.core))
      (on.read.same t).seen on.store_is
