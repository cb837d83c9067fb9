-- The refusals of the code as those of the definitions, each with the values that it keeps; and so
-- its verdicts.
use Rattle.send_model.specs.Refusal as meant
use Rattle.send_model.specs.Reading as reading
use Rattle.sx_base.specs.declared.refusal.Refusal.{Refusal}
use Rattle.sx_base.specs.declared.refusal.Refusal.TheVariants as made
use Rattle.sx_base.specs.declared.outcome.Verdict.{Verdict}

abbrev pub refusal_of : Refusal → meant.Refusal
refusal_of made.BadMagic = meant.BadMagic
refusal_of (made.BadVersion kept) = meant.BadVersion kept
refusal_of made.Truncated = meant.Truncated
refusal_of (made.LongCommand kept) = meant.LongCommand kept
refusal_of (made.BadChecksum stored computed) = meant.BadChecksum stored computed
refusal_of (made.UnknownCommand kept) = meant.UnknownCommand kept
refusal_of (made.BadAttribute kept) = meant.BadAttribute kept
refusal_of (made.MissingAttribute kept) = meant.MissingAttribute kept
refusal_of made.NoSubvolume = meant.NoSubvolume
refusal_of made.BadName = meant.BadName
refusal_of made.NameThere = meant.NameThere
refusal_of made.UuidThere = meant.UuidThere
refusal_of made.NoParent = meant.NoParent
refusal_of made.BadPath = meant.BadPath
refusal_of made.NoEntry = meant.NoEntry
refusal_of made.NotDirectory = meant.NotDirectory
refusal_of made.EntryThere = meant.EntryThere
refusal_of made.IsDirectory = meant.IsDirectory
refusal_of made.NotEmpty = meant.NotEmpty
refusal_of made.IntoItself = meant.IntoItself
refusal_of made.NotFile = meant.NotFile
refusal_of made.BadXattr = meant.BadXattr
refusal_of made.NoXattr = meant.NoXattr
refusal_of made.BadDevice = meant.BadDevice
refusal_of made.BadTime = meant.BadTime
refusal_of made.IsRoot = meant.IsRoot
refusal_of made.FileTooBig = meant.FileTooBig
refusal_of made.NoSource = meant.NoSource
refusal_of made.BadRange = meant.BadRange
refusal_of made.Unaligned = meant.Unaligned
refusal_of made.Overlap = meant.Overlap
refusal_of made.Encoded = meant.Encoded
refusal_of (made.Guarded guard used) = meant.Guarded guard used
refusal_of (made.BadFallocate mode) = meant.BadFallocate mode
refusal_of made.NotConsecutive = meant.NotConsecutive
refusal_of (made.NotBuilt kept) = meant.NotBuilt kept
refusal_of made.BadText = meant.BadText
refusal_of made.NoNumber = meant.NoNumber

-- A verdict of the code as that of the definitions.
abbrev pub verdict_meant : Verdict → reading.Verdict
verdict_meant v =
    record { file = v.file; command = v.command; offset = v.offset; refusal = refusal_of v.refusal }
