-- What a disk that tells has while commands are received: the groups that there were and those that
-- were written since. This program's own.
use Rattle.std.specs.Prelude.{◌≡◌, ⊤, ℕ, ◌+◌, List, [], ◌∷◌, ◌++◌, length, Option, None, Some, Result, if◌then◌else◌}
use Rattle.sx_base.specs.Disk.{Pending, IsImage}
use Rattle.sx_base.specs.declared.outcome.Outcome.{Outcome}
use Rattle.sx_base.specs.declared.outcome.Outcome.TheVariants as ended
use Rattle.sx_base.specs.Crash.{LeavesOnly}
use Rattle.sx_base.specs.declared.disk.Disk as keeping
use Rattle.store_model.specs.Image.{Header}
use Rattle.send_model.specs.Command.{Command}
use Rattle.send_model.specs.Spelling.{canonical}
use Rattle.store_model.specs.Stored.{Group, is_edit}
use Rattle.store_model.specs.Dues.{first_full, pieces_from}
use Rattle.store_model.specs.Written.{Begun, begun_by, closed}
use Rattle.store_journal.specs.Shown.{StoreState}
use Rattle.store_journal.specs.Holding.{HasThese, Holds, Builds, in_progress}
use Rattle.receiver.specs.declared.opened.Opened.{Opened}
use Rattle.receiver.specs.declared.outcome.Received.{Received}
use Rattle.receiver.specs.declared.outcome.Received.TheVariants as how
use Rattle.receiver.specs.Answers.{GroupsBehind, KeepsSays}

-- A store, and what its disk has: what a read gives, and which images a crash may leave.
pub record Shown : Type 0 where
  pub store : StoreState
  pub seen : List ℕ
  pub pending : Pending

abbrev pub shown : {D : Type 0} → keeping.Ghosts D → D → StoreState → Shown
shown ghosts disk store =
    record { store = store; seen = ghosts.seen disk; pending = ghosts.pending disk }

-- The commands of the open part are those that its Body would say now.
pub record IsBuilt (header : Header) (groups : List Group) (begun : Begun) (current : Opened)
    (now : Shown) : Type 0 where
  pub uuid : begun.uuid ≡ current.part.key.uuid
  pub builds : Builds header groups
      (in_progress begun.version begun.commands current.part) now.store now.seen now.pending

-- The disk has these groups, and so has each image that a crash may leave, whether or not a part is
-- open.
abbrev pub Keeps : Header → List Group → Option Begun → Option Opened → Shown → Type 0
Keeps header groups None None now = Holds header groups now.store now.seen now.pending
Keeps header groups None (Some current) now = ⊥
Keeps header groups (Some begun) None now = ⊥
Keeps header groups (Some begun) (Some current) now = IsBuilt header groups begun current now

-- Behind an item it has the groups that the answer says.
abbrev pub ItemKeeps : Result (Unit {0}) Received → Header → Option Opened → Shown → GroupsBehind
    → Type 0
ItemKeeps result header current now behind =
    KeepsSays result (λ groups begun. Keeps header groups begun current now)
    (λ groups. (image : List ℕ) → IsImage now.pending image
    → HasThese header groups image) behind

-- An image has the groups that there were and the first of some others.
pub record HasFront (header : Header) (groups due : List Group) (image : List ℕ) : Type 0 where
  pub first : List Group
  pub more : List Group
  pub all : due ≡ first ++ more
  pub has : HasThese header (groups ++ first) image

-- The part that is open, if there is one, is of this version.
abbrev pub HasVersion : ℕ → Option Begun → Type 0
HasVersion version None = ⊤
HasVersion version (Some begun) = begun.version ≡ version

-- The group of the part that a command completes, where no guard refuses it.
abbrev pub closing : Command → Option Begun → List Group
closing command begun = if is_edit command then [] else closed begun

-- What receiving works on: the disk, the store that is there, and the part that is open, if there
-- is one.
pub record Work (D : Type 0) : Type 0 where
  pub disk : D
  pub store : StoreState
  pub current : Option Opened

abbrev pub work : {D : Type 0} → D → StoreState → Option Opened → Work D
work disk store current = record { disk = disk; store = store; current = current }

-- A run of calls of a disk that tells: it has some groups more, and at each moment a crash leaves
-- those that there were and the first of these.
abbrev pub RunsOn : {D : Type 0} → keeping.Ghosts D → (old new : Work D) → Option Begun → List Group
    → Option Begun → Type 0
RunsOn ghosts old new begun groups next =
    ghosts.tells → (header : Header) (there : List Group)
    → Keeps header there begun old.current (shown ghosts old.disk old.store)
    → Keeps header (there ++ groups) next new.current (shown ghosts new.disk new.store)
    × LeavesOnly ghosts.moment ghosts.left_since old.disk new.disk
    (HasFront header there groups)

-- At each moment it leaves those that there were and the first of some others.
abbrev pub LeavesOn : {D : Type 0} → keeping.Ghosts D → Work D → D → Option Begun → List Group
    → Type 0
LeavesOn ghosts old new begun due =
    ghosts.tells → (header : Header) (there : List Group)
    → Keeps header there begun old.current (shown ghosts old.disk old.store)
    → LeavesOnly ghosts.moment ghosts.left_since old.disk new (HasFront header there due)

-- The group of a head for which there is room at a place.
abbrev pub marked : ℕ → ℕ → Command → List Group
marked limit place command =
    elim (first_full limit
    (pieces_from place (9 ∷ (1 + length (canonical 1 command)) ∷ []))) [
      | Some full ↦ []
      | None ↦
          begun_by command
    ]

-- After some calls of a disk that tells each image that a crash may leave has the groups that there
-- were, those that were completed, and the first of some others.
abbrev pub HasNow : {D : Type 0} → keeping.Ghosts D → Work D → D → ℕ → (Option Begun → List Group)
    → List Group → Type 0
HasNow ghosts old new version done more =
    ghosts.tells → (header : Header) (there : List Group) (begun : Option Begun)
    → HasVersion version begun
    → Keeps header there begun old.current (shown ghosts old.disk old.store)
    → (image : List ℕ) → IsImage (ghosts.pending new) image
    → HasFront header (there ++ done begun) more image

-- ---- where receiving ends

-- W holds of the groups behind those that were there: of these in each image that a crash may
-- leave, or in the store, which can be used again.
abbrev pub EachHas : Header → List Group → Pending → ((List Group → Type 0) → Type 0) → Type 0
EachHas header there pending W =
    (image : List ℕ) → IsImage pending image → W (λ first. HasThese header (there ++ first) image)

abbrev pub StillKeeps : Header → List Group → Option Opened → Shown
    → ((List Group → Type 0) → Type 0) → Type 0
StillKeeps header there current now W =
    W (λ first. (begun : Option Begun) × Keeps header (there ++ first) begun current now)

-- What is said where the store can be used again, and what where it may not.
abbrev pub OutcomeLeaves : Outcome → (usable spent : Type 0) → Type 0
OutcomeLeaves ended.NoMemory usable spent = spent
OutcomeLeaves ended.InputFault usable spent = usable
OutcomeLeaves ended.OutputFault usable spent = usable
OutcomeLeaves ended.Done usable spent = usable
OutcomeLeaves (ended.Refused verdict) usable spent = usable
OutcomeLeaves (ended.InputTooLong file) usable spent = usable
OutcomeLeaves (ended.TooMuch sum) usable spent = usable
OutcomeLeaves (ended.InputChanged file place) usable spent = usable

abbrev pub EndLeaves : Received → (usable spent : Type 0) → Type 0
EndLeaves (how.Files outcome) usable spent = OutcomeLeaves outcome usable spent
EndLeaves how.StoreFault usable spent = spent
EndLeaves (how.LogFull end wanted limit) usable spent = spent

abbrev pub EndHas : Received → Header → List Group → Option Opened → Shown
    → ((List Group → Type 0) → Type 0) → Type 0
EndHas why header there current now W =
    EndLeaves why (StillKeeps header there current now W) (EachHas header there now.pending W)

-- A run of calls of a disk that tells, which ends early.
abbrev pub StopsOn : {D : Type 0} → keeping.Ghosts D → (old new : Work D) → Received
    → ((List Group → Type 0) → Type 0) → Type 0
StopsOn ghosts old new why W =
    ghosts.tells → (header : Header) (there : List Group)
    → Keeps header there None old.current (shown ghosts old.disk old.store)
    → EndHas why header there new.current (shown ghosts new.disk new.store) W

-- What a disk says of a run of calls: where all was taken, at each moment, and where it ended
-- early.
pub record DiskSays : Type 1 where
  pub runs : List Group → Option Begun → Type 0
  pub leaves : List Group → Type 0
  pub stops : Received → ((List Group → Type 0) → Type 0) → Type 0

-- Where no part was open before the run.
abbrev pub disk_says : {D : Type 0} → keeping.Ghosts D → (old new : Work D) → DiskSays
disk_says ghosts old new =
    record {
      runs = RunsOn ghosts old new None;
      leaves = LeavesOn ghosts old new.disk None;
      stops = StopsOn ghosts old new;
    }
