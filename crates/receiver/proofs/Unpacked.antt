-- The words of contracts unpacked: what they speak of part by part, as the lemmas name it.
use Rattle.std.specs.Prelude.{ℕ, List, Option, Result}
use Rattle.sx_base.specs.Disk.{Pending}
use Rattle.send_model.specs.Reading.{Item}
use Rattle.send_model.specs.Store.{Store}
use Rattle.send_model.specs.Guards.{Guard}
use Rattle.send_model.specs.Due.{Limited, limited_from}
use Rattle.send_model.specs.Overridden.{Override, Overrides, overridden_limited}
use Rattle.auditor.specs.Following.{file_read}
use Rattle.store_model.specs.Image.{Header}
use Rattle.store_model.specs.NamedFiles.{NamedFiles}
use Rattle.store_model.specs.Stored.{Group}
use Rattle.store_model.specs.Written.{Begun}
use Rattle.group_replay.specs.declared.place.Place.{Place}
use Rattle.store_journal.specs.Shown.{StoreState}
use Rattle.receiver.specs.declared.opened.Opened.{Opened}
use Rattle.receiver.specs.declared.outcome.Received.{Received}
use Rattle.receiver.specs.Answers as answers
use Rattle.receiver.specs.Answers.{fault_counts, groups_behind}
use Rattle.receiver.specs.Disks as disks
use Rattle.receiver.specs.Running as running
use Rattle.receiver.specs.Running.{Spot, start}
use Rattle.receiver.specs.FileEnds as files
use Rattle.receiver.specs.FileEnds.{read_with, reached}
use Rattle.receiver.specs.ReceiveEnds as ends
use Rattle.receiver.specs.ReceiveEnds.{to_receive}

-- ---- counts of faults

abbrev pub Caused : (inputs_before inputs_now out_before out_now disk_before disk_now : ℕ) → Received → Type 0
Caused inputs_before inputs_now out_before out_now disk_before disk_now why = answers.Caused (fault_counts inputs_before out_before disk_before) (fault_counts inputs_now out_now disk_now) why

abbrev pub ErrCaused : (inputs_before inputs_now out_before out_now disk_before disk_now : ℕ) → Result (Unit {0}) Received → Type 0
ErrCaused inputs_before inputs_now out_before out_now disk_before disk_now result = answers.ErrCaused (fault_counts inputs_before out_before disk_before) (fault_counts inputs_now out_now disk_now) result

-- ---- what a disk has

abbrev pub KeepsSays : Result (Unit {0}) Received → (List Group → Option Begun → Type 0) → (List Group → Type 0) → (done full all : List Group) → Option Begun → Type 0
KeepsSays result K L done full all begun = answers.KeepsSays result K L (groups_behind done full all begun)

abbrev shown_by : StoreState → List ℕ → Pending → disks.Shown
shown_by store seen pending = record { store = store; seen = seen; pending = pending }

abbrev pub IsBuilt : Header → List Group → Begun → Opened → StoreState → List ℕ → Pending → Type 0
IsBuilt header groups begun current store seen pending = disks.IsBuilt header groups begun current (shown_by store seen pending)

abbrev pub Keeps : Header → List Group → Option Begun → Option Opened → StoreState → List ℕ → Pending → Type 0
Keeps header groups begun current store seen pending = disks.Keeps header groups begun current (shown_by store seen pending)

abbrev pub EndHas : Received → Header → List Group → Option Opened → StoreState → List ℕ → Pending → ((List Group → Type 0) → Type 0) → Type 0
EndHas why header there current store seen pending W = disks.EndHas why header there current (shown_by store seen pending) W

-- ---- from a spot on

abbrev pub Leads : ℕ → Store ℕ → (old new : Spot) → List Item → List Group → List ℕ → Type 0
Leads limit base old new items groups lines = running.Leads (start limit base old) new items groups lines

abbrev pub Stops : Received → ℕ → Store ℕ → Spot → Limited → List ℕ → Store (Option Place) → Type 0
Stops why limit base spot read lines core = running.Stops why (start limit base spot) read lines core

abbrev pub IsLeft : Received → ℕ → Store ℕ → Spot → Limited → List ℕ → (List Group → Type 0) → Type 0
IsLeft why limit base spot read lines H = running.IsLeft why (start limit base spot) read lines H

-- ---- how files end

abbrev pub FileTaken : Override → (file limit : ℕ) → Store ℕ → Spot → List Guard → StoreState → (old new : Option (List ℕ)) → (List Group → Option Begun → Type 0) → List ℕ → Type 0
FileTaken override file limit base spot guards store old new K bytes = files.Taken (start limit base spot) (read_with override (file_read file bytes)) guards (reached store old new) K

abbrev pub FileStopped : Override → (file limit : ℕ) → Store ℕ → Spot → StoreState → (old new : Option (List ℕ)) → (List Group → Type 0) → (((List Group → Type 0) → Type 0) → Type 0) → Received → List ℕ → Type 0
FileStopped override file limit base spot store old new M J why bytes = files.FileStopped (start limit base spot) (read_with override (file_read file bytes)) (reached store old new) M J why

abbrev pub FileEnds : Override → (file limit : ℕ) → Store ℕ → Spot → List Guard → StoreState → (old new : Option (List ℕ)) → (List Group → Option Begun → Type 0) → (List Group → Type 0) → (Received → ((List Group → Type 0) → Type 0) → Type 0) → Result (Unit {0}) Received → List ℕ → Type 0
FileEnds override file limit base spot guards store old new K M J result = λ bytes.
    files.FileEnds (start limit base spot) (read_with override (file_read file bytes)) guards (reached store old new) (record { runs = K; leaves = M; stops = J }) result

-- What is read of all files.
abbrev all_read : Overrides → List (List ℕ) → Limited
all_read names bytes = overridden_limited names (limited_from 1 bytes)

abbrev pub AllTaken : Overrides → ℕ → Store ℕ → Spot → List Guard → StoreState → (old new : Option (List ℕ)) → (List Group → Option Begun → Type 0) → List (List ℕ) → Type 0
AllTaken names limit base spot guards store old new K bytes = files.Taken (start limit base spot) (all_read names bytes) guards (reached store old new) K

abbrev pub AllEnds : Overrides → ℕ → Store ℕ → Spot → List Guard → StoreState → (old new : Option (List ℕ)) → (List Group → Option Begun → Type 0) → (List Group → Type 0) → (Received → ((List Group → Type 0) → Type 0) → Type 0) → Result (Unit {0}) Received → List (List ℕ) → Type 0
AllEnds names limit base spot guards store old new K M J result = λ bytes.
    files.AllEnds (start limit base spot) (all_read names bytes) guards (reached store old new) (record { runs = K; leaves = M; stops = J }) result

-- ---- how receiving ends

abbrev pub ReceiveEnds : (limit gate : ℕ) → Store ℕ → List Guard → NamedFiles → Received → Store (Option Place) → List ℕ → Type 0
ReceiveEnds limit gate base guards given why core written = ends.ReceiveEnds (to_receive limit gate base guards given) why core written

abbrev pub AreLeft : (limit gate : ℕ) → Store ℕ → List Guard → NamedFiles → Received → List ℕ → (List Group → Type 0) → Type 0
AreLeft limit gate base guards given why written = ends.AreLeft (to_receive limit gate base guards given) why written

abbrev pub LeavesMore : {D : Type 0} → Type 0 → (D → List ℕ) → (D → Pending) → (old new : D) → (was now : StoreState) → Received → ((List Group → Type 0) → Type 0) → Type 0
LeavesMore tells seen pending old new was now why W = ends.LeavesMore tells (shown_by was (seen old) (pending old)) (shown_by now (seen new) (pending new)) why W
