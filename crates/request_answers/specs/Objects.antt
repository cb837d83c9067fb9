-- The objects outside that a call is given, before and after it, as far as they say what they have.
-- This program's own.
use Rattle.std.specs.Prelude.{◌≡◌, ℕ, List, Option}
use Rattle.sx_base.specs.Again.{EarlyEnd}
use Rattle.sx_base.specs.Asks.{Ask}
use Rattle.sx_base.specs.Causes.{Rose}
use Rattle.sx_base.specs.Crash.{LeavesOnly}
use Rattle.sx_base.specs.Disk.{Pending}
use Rattle.sx_base.specs.Later.{AskedOnly}
use Rattle.sx_base.specs.declared.disk.Disk as keeping
use Rattle.sx_base.specs.declared.inputs.Inputs as reading
use Rattle.sx_base.specs.declared.sink.Sink as writing

-- How often something had happened before the call, and how often after it.
pub record Count : Type 0 where
  pub before : ℕ
  pub after : ℕ

-- A count is as it was.
abbrev pub IsSteady : Count → Type 0
IsSteady count = count.after ≡ count.before

-- A count rose.
abbrev pub HasRisen : Count → Type 0
HasRisen count = Rose count.before count.after

pub record Objects : Type 1 where
  -- the files by their names, where the inputs say what these hold; what was asked of the inputs;
  -- how often they failed, how often a file ended too early, and the last such end
  pub known_files : Option (List (List ℕ × List ℕ))
  pub known_after : Option (List (List ℕ × List ℕ))
  pub AskedInputs : (List Ask → Type 0) → Type 0
  pub input_faults : Count
  pub early_ends : Count
  pub last_end : EarlyEnd
  -- all that standard output has taken, where it says so, and how often it failed
  pub output : Option (List ℕ)
  pub output_after : Option (List ℕ)
  pub output_faults : Count
  -- the disk: whether it says what it holds; what it holds; which images a crash may leave; and
  -- that at every moment of the call a crash leaves only images that have a property
  pub IsFaithful : Type 0
  pub contents : List ℕ
  pub contents_after : List ℕ
  pub crash_states : Pending
  pub crash_states_after : Pending
  pub CrashesLeave : (List ℕ → Type 0) → Type 0
  pub disk_faults : Count
  -- that each object is just as it was
  pub InputsSame : Type 0
  pub OutputSame : Type 0
  pub DiskSame : Type 0

-- Such objects, before and after a call.
abbrev pub objects_of : {I O D : Type 0} (inputs : reading.Ghosts I) (was_inputs is_inputs : I)
    (out : writing.Ghosts O) (was_out is_out : O) (disk : keeping.Ghosts D) (was_disk is_disk : D)
    → Objects
objects_of inputs was_inputs is_inputs out was_out is_out disk was_disk is_disk = record {
  known_files = inputs.told was_inputs;
  known_after = inputs.told is_inputs;
  AskedInputs = AskedOnly inputs was_inputs is_inputs;
  input_faults = record { before = inputs.faults was_inputs; after = inputs.faults is_inputs };
  early_ends = record { before = inputs.ends was_inputs; after = inputs.ends is_inputs };
  last_end = inputs.last_end is_inputs;
  output = out.taken was_out;
  output_after = out.taken is_out;
  output_faults = record { before = out.faults was_out; after = out.faults is_out };
  IsFaithful = disk.tells;
  contents = disk.seen was_disk;
  contents_after = disk.seen is_disk;
  crash_states = disk.pending was_disk;
  crash_states_after = disk.pending is_disk;
  CrashesLeave = LeavesOnly disk.moment disk.left_since was_disk is_disk;
  disk_faults = record { before = disk.faults was_disk; after = disk.faults is_disk };
  InputsSame = is_inputs ≡ was_inputs;
  OutputSame = is_out ≡ was_out;
  DiskSame = is_disk ≡ was_disk;
}
