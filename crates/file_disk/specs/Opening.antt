-- How a file is opened as a disk: with which options, what the system says of it, and the folder of
-- a path.
use Rattle.std.specs.Prelude.{ℕ, Bool, true, ◌==◌, if◌then◌else◌, Option, None, Some, List, [], ◌∷◌, Result, Ok, Err}
use Rattle.std.specs.declared.fs.locks.TryLockError.{TryLockError}
use Rattle.std.specs.declared.fs.locks.TryLockError.TheVariants as lock
use Rattle.std.specs.declared.fs.options.OpenOptions.{OpenOptions}
use Rattle.std.specs.Fs.{new_options, with_read, with_write, with_create_new}
use Rattle.std.specs.Path.{slash, dot}
use Rattle.file_disk.specs.declared.opening.OpenStop.{OpenStop}
use Rattle.file_disk.specs.declared.opening.OpenStop.TheVariants as stop

-- The options to open a file: to be read, to be written too, and to be made where it may not be
-- there before. With none of them the system makes a file shorter.
abbrev pub opening : (writable new : Bool) → OpenOptions
opening writable new = with_create_new (with_write (with_read new_options true) writable) new

-- What the answer to a lock says: the file is held if the system says that it locked it, in use if
-- another program has it, and else the system refused.
abbrev pub held : {T : Type 0} → Result T TryLockError → Result T OpenStop
held (Ok done) = Ok done
held (Err lock.WouldBlock) = Err stop.InUse
held (Err (lock.Error reason)) = Err (stop.System reason)

-- What is before the last slash of a byte and what follows it, from what is before the last slash
-- of what follows it.
abbrev pub with_byte : ℕ → Option (List ℕ) → Option (List ℕ)
with_byte byte (Some front) = Some (byte ∷ front)
with_byte byte None = if byte == slash then Some [] else None

-- What is before the last slash of a path, if it has a slash.
abbrev pub before_last_slash : List ℕ → Option (List ℕ)
before_last_slash [] = None
before_last_slash (byte ∷ path) = with_byte byte (before_last_slash path)

-- The folder in which the name of a path stands, from what is before its last slash: that, or the
-- root if nothing is before it, or if there is no slash, the folder in which the program runs.
-- POSIX, 4.16 Pathname Resolution.
abbrev pub folder : Option (List ℕ) → List ℕ
folder None = dot ∷ []
folder (Some []) = slash ∷ []
folder (Some (byte ∷ front)) = byte ∷ front

-- The folder in which the name of a path stands.
abbrev pub folder_of : List ℕ → List ℕ
folder_of path = folder (before_last_slash path)
