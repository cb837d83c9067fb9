-- A disk in memory, as its contracts speak of it.
use Rattle.std.specs.Prelude.{◌⊎◌, ℕ, List, length, map}
use Rattle.sx_base.specs.Disk.{Pending, IsImage}
use Rattle.disk_model.specs.declared.stretch.Stretch.{Stretch}
use Rattle.disk_model.specs.declared.mem_disk.MemDisk.{MemDisk}
use Rattle.disk_model.specs.Stretch.{pending_in}
use Rattle.disk_model.specs.History.{Ended, time, Left}

-- what a read gives
abbrev pub seen_of : MemDisk → List ℕ
seen_of disk = disk.current.bytes.items

-- which images a crash now may leave
abbrev pub pending_of : MemDisk → Pending
pending_of disk = pending_in disk.current

-- how often memory was wanting
abbrev pub refused_of : MemDisk → ℕ
refused_of disk = disk.refused

abbrev pub end_of : Stretch → Ended
end_of s = record { pending = pending_in s; calls = s.calls }

-- the times that have ended
abbrev pub past_of : MemDisk → List Ended
past_of disk = map end_of disk.past.items

abbrev pub moment_of : MemDisk → ℕ
moment_of disk = time (length (map end_of disk.past.items)) disk.current.calls

abbrev pub left_of : MemDisk → ℕ → List ℕ → Type 0
left_of disk t image =
    Left 0 (map end_of disk.past.items) t image ⊎ IsImage (pending_in disk.current) image
