-- Guards: limits that whoever receives streams sets on them. Each looks at every command that was
-- read, heads and END among them, before the command does anything. The first that refuses a
-- command ends the run. They are this program's own.
use Rattle.std.specs.Prelude.{ℕ, zero, suc, ◌+◌, ◌^◌, Bool, true, false, ◌&&◌, max, List, [], ◌∷◌, length, take, drop, Option, None, Some, codes, nat_lt, nat_le, if◌then◌else◌}
use Rattle.std.specs.Option.{option_map}
use Rattle.std.specs.Str.{bytes_eq, all_ascii_digits}
use Rattle.std.specs.Str.Parse.{digits_value}
use Rattle.send_model.specs.Refusal.{Refusal, Guarded}
use Rattle.send_model.specs.Command.{Command, Subvol, Snapshot, MkFile, MkDir, MkNod, MkFifo, MkSock, Symlink, Rename, Link, Unlink, Rmdir, SetXattr, RemoveXattr, Write, Clone, Truncate, Chmod, Chown, Utimes, End, UpdateExtent, Fallocate, FileAttr}
use Rattle.send_model.specs.Reading.{Item, Reading, input}
use Rattle.send_model.specs.Store.{Store, State, After, step}
use Rattle.send_model.specs.Receive.{Ran, run_by, first_of, with_fault, byte_cells, start_of}

-- ---- what they are and what they look at

-- The four kinds: at most so many bytes in WRITE commands; at most so many commands; no MKNOD,
-- whatever its mode; no WRITE of some bytes, CLONE or TRUNCATE whose end is above a place. A
-- FALLOCATE is not looked at, though it may lengthen a file.
pub data GuardSpec : Type 0 where
  MostBytes : (most : ℕ) → GuardSpec
  MostCommands : (most : ℕ) → GuardSpec
  NoDevices : GuardSpec
  MostEnd : (most : ℕ) → GuardSpec

-- A guard with what it has counted so far: bytes, commands, or the greatest end. It begins with 0.
pub record Guard : Type 0 where
  pub spec : GuardSpec
  pub used : ℕ

abbrev pub new_guard : GuardSpec → Guard
new_guard spec = record { spec = spec; used = 0 }

-- What a guard sees of a command: a WRITE at an offset of so many bytes, a CLONE that ends at a
-- place, a TRUNCATE to a size, an MKNOD, or another one.
pub data Seen : Type 0 where
  Writes : (offset len : ℕ) → Seen
  ClonesTo : (end : ℕ) → Seen
  CutsTo : (size : ℕ) → Seen
  MakesDevice : Seen
  Another : Seen

abbrev pub seen : Command → Seen
seen (Subvol uuid ctransid path) = Another
seen (Snapshot uuid ctransid path clone_uuid clone_ctransid) = Another
seen (MkFile path) = Another
seen (MkDir path) = Another
seen (MkNod mode rdev path) = MakesDevice
seen (MkFifo path) = Another
seen (MkSock path) = Another
seen (Symlink path path_link) = Another
seen (Rename path path_to) = Another
seen (Link path path_link) = Another
seen (Unlink path) = Another
seen (Rmdir path) = Another
seen (SetXattr name value path) = Another
seen (RemoveXattr name path) = Another
seen (Write path offset bytes) = Writes offset (length bytes)
seen (Clone path offset clone_uuid clone_ctransid clone_path clone_offset clone_len) =
    ClonesTo (offset + clone_len)
seen (Truncate size path) = CutsTo size
seen (Chmod mode path) = Another
seen (Chown uid gid path) = Another
seen (Utimes mtime atime path) = Another
seen End = Another
seen (UpdateExtent size path offset) = Another
seen (Fallocate size path offset mode) = Another
seen (FileAttr path flags) = Another

-- The bytes that a WRITE carries, and nothing of another command.
abbrev pub written_len : Seen → Option ℕ
written_len (Writes offset len) = Some len
written_len (ClonesTo end) = None
written_len (CutsTo size) = None
written_len MakesDevice = None
written_len Another = None

-- Where a WRITE of some bytes, a CLONE or a TRUNCATE ends, and nothing of another command.
abbrev pub write_end : ℕ → ℕ → Option ℕ
write_end offset zero = None
write_end offset (suc len) = Some (offset + suc len)

abbrev pub end_of : Seen → Option ℕ
end_of (Writes offset len) = write_end offset len
end_of (ClonesTo end) = Some end
end_of (CutsTo size) = Some size
end_of MakesDevice = None
end_of Another = None

abbrev pub is_device : Seen → Bool
is_device (Writes offset len) = false
is_device (ClonesTo end) = false
is_device (CutsTo size) = false
is_device MakesDevice = true
is_device Another = false

-- ---- one guard and one command

abbrev pub is_above : ℕ → Option ℕ → Bool
is_above most None = false
is_above most (Some n) = nat_lt most n

-- Where a guard with what it has counted refuses.
abbrev pub refuses : GuardSpec → ℕ → Seen → Bool
refuses (MostBytes most) used c = is_above most (option_map (λ len. used + len) (written_len c))
refuses (MostCommands most) used c = nat_lt most (used + 1)
refuses NoDevices used c = is_device c
refuses (MostEnd most) used c = is_above most (end_of c)

abbrev pub sum_after : ℕ → Option ℕ → ℕ
sum_after used None = used
sum_after used (Some n) = used + n

abbrev pub greater_after : ℕ → Option ℕ → ℕ
greater_after used None = used
greater_after used (Some n) = max used n

-- What it has counted after a command that it allows.
abbrev pub used_after : GuardSpec → ℕ → Seen → ℕ
used_after (MostBytes most) used c = sum_after used (written_len c)
used_after (MostCommands most) used c = used + 1
used_after NoDevices used c = 0
used_after (MostEnd most) used c = greater_after used (end_of c)

unfoldable pub guard_refuses : Guard → Command → Bool
guard_refuses guard command = refuses guard.spec guard.used (seen command)

unfoldable pub guard_after : Guard → Command → Guard
guard_after guard command =
    record { spec = guard.spec; used = used_after guard.spec guard.used (seen command) }

-- ---- the guards in order

-- The place of the first guard that refuses a command, counted from the given number, and what it
-- had counted.
unfoldable pub refused_from : ℕ → List Guard → Command → Option Refusal
refused_from place [] command = None
refused_from place (guard ∷ guards) command =
    if guard_refuses guard command then Some (Guarded place guard.used) else refused_from
    (place + 1) guards command

-- The refusal of the first guard that refuses, with its place from 0 on.
abbrev pub guarded : List Guard → Command → Option Refusal
guarded guards command = refused_from 0 guards command

-- The guards after they looked at a command: those before the first that refuses it have gone on,
-- and it and those after it are as before.
unfoldable pub looked : List Guard → Command → List Guard
looked [] command = []
looked (guard ∷ guards) command =
    if guard_refuses guard command then guard ∷ guards else guard_after guard command
    ∷ looked guards command

-- ---- receiving with guards

-- Guards beside a state.
pub record Watched (S : Type 0) : Type 0 where
  pub guards : List Guard
  pub state : S

abbrev pub watched : {S : Type 0} → List Guard → After S → After (Watched S)
watched guards after =
    record { state = record { guards = guards; state = after.state }; refusal = after.refusal }

-- An item under guards: one that a guard refuses changes nothing of the state; else it does what it
-- does.
abbrev pub watched_step : {S : Type 0} → (S → Item → After S) → Watched S → Item → After (Watched S)
watched_step does w item = elim (guarded w.guards item.command) [
  | Some refusal ↦
      record {
        state = record { guards = looked w.guards item.command; state = w.state };
        refusal = Some refusal;
      }
  | None ↦ watched (looked w.guards item.command) (does w.state item)
]

-- Receiving what was read into a store under guards.
unfoldable pub receive_watched : {C : Type 0} → C → (Item → List C) → Store C → List Guard → Reading
    → Ran (Watched (State C))
receive_watched zero_cell cells store guards reading =
    let start : Watched (State _) = record { guards = guards; state = start_of store } in
    with_fault (run_by
    (watched_step
    (λ s item. step zero_cell (cells item) s item.command)) start reading.items) reading.end

-- Receiving files into a store of bytes under guards.
unfoldable pub receive_under : Store ℕ → List Guard → List (List ℕ) → Ran (Watched (State ℕ))
receive_under store guards files = receive_watched 0 byte_cells store guards (input files)

-- ---- words

-- What follows a text in front of a word, if the word begins with it.
abbrev pub after_text : List ℕ → List ℕ → Option (List ℕ)
after_text text word =
    if bytes_eq (take (length text) word) text then Some (drop (length text) word) else None

-- The number that one to twenty decimal digits say, where it has 64 bits. Zeros in front are
-- lawful.
abbrev pub number_word : List ℕ → Option ℕ
number_word word =
    if nat_le 1 (length word) && nat_le (length word) 20 && all_ascii_digits word
    && nat_lt (digits_value 10 word) (2 ^ 64)
    then Some (digits_value 10 word) else None

-- The guard of a text with a number after it.
abbrev pub numbered_guard : List ℕ → (ℕ → GuardSpec) → List ℕ → Option GuardSpec
numbered_guard text guard word =
    elim (after_text text word) [ None ↦ None | Some rest ↦ option_map guard (number_word rest) ]

-- The words `guard:bytes=N`, `guard:commands=N`, `guard:nodev` and `guard:end=N`; no other word is
-- a guard's.
unfoldable pub guard_of : List ℕ → Option GuardSpec
guard_of word =
    first_of (if bytes_eq word (codes "guard:nodev") then Some NoDevices else None)
    (first_of (numbered_guard (codes "guard:bytes=") MostBytes word)
    (first_of (numbered_guard (codes "guard:commands=") MostCommands word)
    (numbered_guard (codes "guard:end=") MostEnd word)))

-- Guard words begin with this, whether or not they mean a guard.
abbrev pub is_guard_word : List ℕ → Bool
is_guard_word word = bytes_eq (take 6 word) (codes "guard:")
