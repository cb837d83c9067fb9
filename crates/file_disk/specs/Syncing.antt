-- When what was written is stable.
use Rattle.std.specs.Prelude.{◌≡◌, ◌⊎◌, Bool, true, false, Result, IsOk, IsErrAnd}
use Rattle.std.specs.IoError.{error_kind}
use Rattle.std.specs.declared.io.Error.{Error}
use Rattle.std.specs.declared.io.ErrorKind.{ErrorKind}
use Rattle.std.specs.declared.io.ErrorKind.TheVariants.{InvalidInput, ReadOnlyFilesystem}

-- A sync that fails with this kind of error left nothing undone: the file is only read, and its
-- medium takes no sync. See fsync(2), EROFS and EINVAL.
abbrev pub needs_no_sync : (writable : Bool) → ErrorKind → Bool
needs_no_sync false InvalidInput = true
needs_no_sync false ReadOnlyFilesystem = true
needs_no_sync writable kind = false

-- The answer to a sync says that all is stable.
abbrev pub IsStable : {T : Type 0} (writable : Bool) → Result T Error → Type 0
IsStable writable answer =
    IsOk answer ⊎ IsErrAnd answer (λ error. needs_no_sync writable (error_kind error) ≡ true)
