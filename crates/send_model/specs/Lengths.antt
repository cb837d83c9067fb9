-- How much of a file is read, and which file is too long. The limit is this program's own.
use Rattle.std.specs.Prelude.{ℕ, ◌+◌, ◌^◌, Bool, true, false, ◌&&◌, List, [], ◌∷◌, length, take, Option, None, Some, nat_le, if◌then◌else◌}
use Rattle.send_model.specs.Refusal.{Refusal, BadVersion, LongCommand, BadChecksum, UnknownCommand, BadAttribute, MissingAttribute, NotBuilt, Guarded, BadFallocate, BadMagic, Truncated, NoSubvolume, BadName, NameThere, UuidThere, NoParent, BadPath, NoEntry, NotDirectory, EntryThere, IsDirectory, NotEmpty, IntoItself, NotFile, BadXattr, NoXattr, BadDevice, BadTime, IsRoot, FileTooBig, NoSource, BadRange, Unaligned, Overlap, Encoded, NotConsecutive, BadText, NoNumber}
use Rattle.send_model.specs.Reading.{Ending, Whole, Faulty, reads}

-- How many bytes of a file are read at the most.
abbrev pub limit : ℕ
limit = 2 ^ 62

abbrev pub is_truncated : Refusal → Bool
is_truncated Truncated = true
is_truncated (BadVersion version) = false
is_truncated (LongCommand len) = false
is_truncated (BadChecksum stored computed) = false
is_truncated (UnknownCommand number) = false
is_truncated (BadAttribute kind) = false
is_truncated (MissingAttribute kind) = false
is_truncated (NotBuilt number) = false
is_truncated (Guarded guard used) = false
is_truncated (BadFallocate mode) = false
is_truncated BadMagic = false
is_truncated NoSubvolume = false
is_truncated BadName = false
is_truncated NameThere = false
is_truncated UuidThere = false
is_truncated NoParent = false
is_truncated BadPath = false
is_truncated NoEntry = false
is_truncated NotDirectory = false
is_truncated EntryThere = false
is_truncated IsDirectory = false
is_truncated NotEmpty = false
is_truncated IntoItself = false
is_truncated NotFile = false
is_truncated BadXattr = false
is_truncated NoXattr = false
is_truncated BadDevice = false
is_truncated BadTime = false
is_truncated IsRoot = false
is_truncated FileTooBig = false
is_truncated NoSource = false
is_truncated BadRange = false
is_truncated Unaligned = false
is_truncated Overlap = false
is_truncated Encoded = false
is_truncated NotConsecutive = false
is_truncated BadText = false
is_truncated NoNumber = false

-- Bytes that break no rule, but that there are no more of them.
abbrev pub only_ends : Ending → Bool
only_ends Whole = true
only_ends (Faulty verdict) = is_truncated verdict.refusal

-- A file, which is the given one of several, is too long where it has as many bytes as are read at
-- the most, and these bytes are read whole or are cut short.
unfoldable pub is_too_long : ℕ → List ℕ → Bool
is_too_long number bytes =
    nat_le limit (length bytes) && only_ends (reads number (take limit bytes)).end

-- What comes after a file, unless its reading ends in a fault.
abbrev pub unless_faulty : Ending → Option ℕ → Option ℕ
unless_faulty Whole after = after
unless_faulty (Faulty verdict) after = None

-- The number of the first file that is too long, of files counted from the given number, where all
-- files before it are read whole.
unfoldable pub too_long_from : ℕ → List (List ℕ) → Option ℕ
too_long_from number [] = None
too_long_from number (bytes ∷ files) =
    if is_too_long number bytes then Some number else unless_faulty (reads number bytes).end
    (too_long_from (number + 1) files)

unfoldable pub too_long : List (List ℕ) → Option ℕ
too_long files = too_long_from 1 files
