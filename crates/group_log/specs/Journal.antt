-- When a disk fits what a log keeps of it. Of a disk that tells nothing only the size has to fit.
-- The limit of a log is a size that a disk can have, and so is each place in a group.
use Rattle.std.specs.Prelude.{◌≡◌, ◌≢◌, ℕ, ◌+◌, ◌^◌, ◌<◌, ◌≤◌, Option, Some, None, List, [], ◌∷◌, ◌++◌, length}
use Rattle.std.specs.List.{AllByRecursion}
use Rattle.std.specs.Int.{w64, to_le_bytes}
use Rattle.sx_base.specs.Disk.{Pending, settled}
use Rattle.sx_base.specs.Crash.{IsStableFront}
use Rattle.send_model.specs.Checksum.{crc_of}
use Rattle.store_model.specs.Image.{Header, IsHeader, front_of, limit_of, reserve, IsShort}
use Rattle.group_log.specs.State.{LogState, resting, past_group}
use Rattle.group_log.specs.declared.journal.GroupPlace.{GroupPlace}
use Rattle.group_log.specs.declared.journal.Stage.TheVariants.{Reading, AtRest, InProgress, Prepared}

-- The disk has the size that the log keeps, and there may be groups that were not read.
pub record IsReading (len : ℕ) (log : LogState) : Type 0 where
  pub size : len ≡ log.size
  pub stage : log.stage ≡ Reading
  pub whole : log.gate ≤ log.size
  pub bounded : log.limit < 2 ^ 63

-- All groups were read, and none is in progress.
pub record IsAtRest (len : ℕ) (log : LogState) : Type 0 where
  pub size : len ≡ log.size
  pub stage : log.stage ≡ AtRest
  pub whole : log.gate < log.size
  pub bounded : log.limit < 2 ^ 63

-- A group is in progress and not prepared. The next append writes at the end of the disk, and there
-- is room for the checksum and the next gate.
pub record IsInProgress (len : ℕ) (log : LogState) : Type 0 where
  pub size : len ≡ log.size
  pub stage : log.stage ≡ InProgress
  pub begun : log.gate + 9 ≤ log.size
  pub room : log.size + reserve ≤ log.limit
  pub bounded : log.limit < 2 ^ 63

-- A group is prepared: its checksum and the next gate stand behind it.
pub record IsPrepared (len : ℕ) (log : LogState) : Type 0 where
  pub size : len ≡ log.size
  pub stage : log.stage ≡ Prepared
  pub begun : log.gate + 9 + reserve ≤ log.size
  pub room : log.size ≤ log.limit
  pub bounded : log.limit < 2 ^ 63

-- The log stands behind this header and these groups.
pub record IsBehind (header : Header) (bodies : List (List ℕ)) (log : LogState) : Type 0 where
  pub place : log.gate ≡ length (front_of header bodies)
  pub count : log.groups ≡ length bodies
  pub format : log.format ≡ header.format
  pub limit : log.limit ≡ limit_of header
  pub lawful : IsHeader header
  pub lengths_fit : AllByRecursion IsShort bodies

-- The bytes go on behind the groups that were read, and all of them are stable.
pub record Reads (header : Header) (bodies : List (List ℕ)) (log : LogState) (seen : List ℕ)
    (pending : Pending) : Type 0 where
  pub behind : IsBehind header bodies log
  pub stage : log.stage ≡ Reading
  pub rest : List ℕ
  pub bytes : seen ≡ front_of header bodies ++ rest
  pub stable : pending ≡ settled seen

-- Behind the groups stands a closed gate, and every image that a crash may leave has the groups and
-- this gate.
pub record Rests (header : Header) (bodies : List (List ℕ)) (log : LogState) (seen : List ℕ)
    (pending : Pending) : Type 0 where
  pub behind : IsBehind header bodies log
  pub gate : ℕ
  pub closed : gate ≢ 1
  pub rest : List ℕ
  pub bytes : seen ≡ front_of header bodies ++ gate ∷ rest
  pub stable : IsStableFront (front_of header bodies ++ gate ∷ []) pending

-- So too while a group is in progress into which these bytes were put, behind eight bytes for its
-- length. The log keeps their checksum.
pub record Grows (header : Header) (bodies : List (List ℕ)) (body : List ℕ) (log : LogState)
    (seen : List ℕ) (pending : Pending) : Type 0 where
  pub behind : IsBehind header bodies log
  pub sum : log.sum ≡ crc_of 0 body
  pub gate : ℕ
  pub closed : gate ≢ 1
  pub space : List ℕ
  pub eight : length space ≡ 8
  pub bytes : seen ≡ front_of header bodies ++ gate ∷ (space ++ body)
  pub stable : IsStableFront (front_of header bodies ++ gate ∷ []) pending

-- A group with this body stands whole behind its closed gate, with a closed gate behind it, and all
-- is stable.
pub record IsReady (header : Header) (bodies : List (List ℕ)) (body : List ℕ) (log : LogState)
    (seen : List ℕ) (pending : Pending) : Type 0 where
  pub behind : IsBehind header bodies log
  pub gate : ℕ
  pub closed : gate ≢ 1
  pub short : IsShort body
  pub bytes : seen ≡ front_of header bodies
      ++ gate ∷ (to_le_bytes w64 (length body) ++ body ++ 0 ∷ [])
  pub stable : pending ≡ settled seen

-- One group more was read, and this is its place.
pub record IsNext (header : Header) (bodies : List (List ℕ)) (log : LogState) (seen : List ℕ)
    (pending : Pending) (place : GroupPlace) : Type 0 where
  pub body : List ℕ
  pub reads : Reads header (bodies ++ body ∷ []) log seen pending
  pub group : place.number ≡ length bodies + 1
  pub at : place.at ≡ length (front_of header bodies) + 9
  pub len : place.len ≡ length body

-- What is found behind the groups that were read: a closed gate, or one group more.
abbrev pub Finds : Header → List (List ℕ) → LogState → List ℕ → Pending → Option GroupPlace → Type 0
Finds header bodies log seen pending None = Rests header bodies log seen pending
Finds header bodies log seen pending (Some place) = IsNext header bodies log seen pending place

-- At the closed gate the log rests, and else it goes on behind the group that it found, which has
-- the next number.
abbrev pub GoesOn : ℕ → LogState → LogState → Option GroupPlace → Type 0
GoesOn len old new None = (new ≡ resting old) × IsAtRest len new
GoesOn len old new (Some place) =
    (new ≡ past_group old place.len) × IsReading len new × (place.number ≡ old.groups + 1)
    × (place.at ≡ old.gate + 9)

-- A log that has just been opened on these bytes.
pub record IsOpened (seen : List ℕ) (pending : Pending) (log : LogState) : Type 0 where
  pub header : Header
  pub reads : Reads header [] log seen pending
