-- What a disk that is a file keeps, and what each call leaves of it. Of the file's bytes nothing is
-- said.
use Rattle.std.specs.Prelude.{◌≡◌, ℕ, ◌+◌, ◌-◌, ◌^◌, ◌<◌, ◌≤◌, ◌==◌, Bool, true, false, ◌&&◌, nat_lt, nat_le, if◌then◌else◌, List, [], ◌++◌, length, min, max}
use Rattle.sx_base.specs.Causes.{Rose}
use Rattle.sx_base.specs.Disk.{Pending, Rises, settled}

-- The size; the bytes that are gathered, and where the first of them goes; whether there is memory
-- to gather bytes in; whether a write, a cut or a sync failed; whether the file was opened to be
-- written; whether the file's name may be new; the calls that failed; the clock.
pub record FileState : Type 0 where
  pub size : ℕ
  pub from : ℕ
  pub gathered : List ℕ
  pub roomy : Bool
  pub broken : Bool
  pub writable : Bool
  pub fresh : Bool
  pub faults : ℕ
  pub moment : ℕ

-- There is room for 1 MiB, or none.
abbrev pub HasRoom : Bool → List ℕ → Type 0
HasRoom true room = length room ≡ 2 ^ 20
HasRoom false room = room ≡ []

-- The gathered bytes lie in the file, and there is room for them.
pub record IsHeld (roomy : Bool) (size from filled : ℕ) (room : List ℕ) : Type 0 where
  pub small : size < 2 ^ 63
  pub room_is : HasRoom roomy room
  pub fits : filled ≤ length room
  pub within : from + filled ≤ size

-- A file that was opened. Nothing is gathered, and no memory is taken.
abbrev pub opened : (size : ℕ) (writable fresh : Bool) → FileState
opened size writable fresh =
    record {
      size = size;
      from = 0;
      gathered = [];
      roomy = false;
      broken = false;
      writable = writable;
      fresh = fresh;
      faults = 0;
      moment = 0;
    }

-- One more, up to the greatest u64.
abbrev pub one_more : ℕ → ℕ
one_more count = min (count + 1) (2 ^ 64 - 1)

-- A call more, and a call more that failed.
abbrev pub passed : FileState → FileState
passed d = record d { moment = one_more d.moment }

abbrev pub failed : FileState → FileState
failed d = record d { faults = one_more d.faults; moment = one_more d.moment }

-- A call failed: both counts rose.
pub record IsCounted (old new : FileState) : Type 0 where
  pub clock : Rises old.moment new.moment
  pub later : old.faults ≤ new.faults
  pub rose : Rose old.faults new.faults

-- What a contract sees of it as a disk: the size, the clock and the calls that failed, and nothing
-- of bytes.
abbrev pub size_of : FileState → ℕ
size_of d = d.size

abbrev pub moment_of : FileState → ℕ
moment_of d = d.moment

abbrev pub faults_of : FileState → ℕ
faults_of d = d.faults

abbrev pub unseen : FileState → List ℕ
unseen d = []

abbrev pub unknown : FileState → Pending
unknown d = settled []

abbrev pub never : FileState → ℕ → List ℕ → Type 0
never d t image = ⊥

-- What was gathered is sent.
abbrev pub sent : FileState → FileState
sent d = record d { from = 0; gathered = [] }

-- A write, a cut or a sync failed.
abbrev pub broken_down : FileState → FileState
broken_down d = record d { broken = true }

-- So many bytes at a place follow those that are gathered, and there is room for them.
abbrev pub follows : ℕ → ℕ → FileState → Bool
follows at count d =
    nat_lt 0 (length d.gathered) && (at == d.from + length d.gathered)
    && nat_le (length d.gathered + count) (2 ^ 20)

-- After a write: the piece is gathered behind the others where it follows them, it is gathered
-- alone where it does not, and where it is longer than 1 MiB or there is no room it is sent.
abbrev pub after_write : ℕ → List ℕ → FileState → FileState
after_write at piece d =
    if follows at
    (length piece) d then record d {
      size = max d.size (at + length piece);
      gathered = d.gathered ++ piece;
    }
    else if (d.roomy
    && nat_le (length piece) (2 ^ 20)) then record d {
      size = max d.size (at + length piece);
      from = at;
      gathered = piece;
    }
    else record d { size = max d.size (at + length piece); from = 0; gathered = [] }

-- A call failed, and nothing is tried from then on.
pub record IsBroken (old new : FileState) : Type 0 where
  pub broken : new.broken ≡ true
  pub size : new.size ≡ old.size
  pub writable : new.writable ≡ old.writable
  pub fresh : new.fresh ≡ old.fresh
  pub faults : new.faults ≡ one_more old.faults
  pub moment : new.moment ≡ one_more old.moment
