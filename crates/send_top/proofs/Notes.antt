-- The lengths of the parts of a note.
use Rattle.std.proofs.Common.{◌≤◌, length, arith}
use Rattle.send_model.specs.Refusal as meant
use Rattle.send_model.specs.Refusal.{refusal_name}

-- A refusal's name has at most sixteen letters.
pub short_name : (refusal : meant.Refusal) → length (refusal_name refusal) ≤ 16
unfolding refusal_name
short_name meant.BadMagic = omega arith
short_name (meant.BadVersion kept) = omega arith
short_name meant.Truncated = omega arith
short_name (meant.LongCommand kept) = omega arith
short_name (meant.BadChecksum stored computed) = omega arith
short_name (meant.UnknownCommand kept) = omega arith
short_name (meant.BadAttribute kept) = omega arith
short_name (meant.MissingAttribute kept) = omega arith
short_name meant.NoSubvolume = omega arith
short_name meant.BadName = omega arith
short_name meant.NameThere = omega arith
short_name meant.UuidThere = omega arith
short_name meant.NoParent = omega arith
short_name meant.BadPath = omega arith
short_name meant.NoEntry = omega arith
short_name meant.NotDirectory = omega arith
short_name meant.EntryThere = omega arith
short_name meant.IsDirectory = omega arith
short_name meant.NotEmpty = omega arith
short_name meant.IntoItself = omega arith
short_name meant.NotFile = omega arith
short_name meant.BadXattr = omega arith
short_name meant.NoXattr = omega arith
short_name meant.BadDevice = omega arith
short_name meant.BadTime = omega arith
short_name meant.IsRoot = omega arith
short_name meant.FileTooBig = omega arith
short_name meant.NoSource = omega arith
short_name meant.BadRange = omega arith
short_name meant.Unaligned = omega arith
short_name meant.Overlap = omega arith
short_name meant.Encoded = omega arith
short_name (meant.Guarded guard used) = omega arith
short_name (meant.BadFallocate mode) = omega arith
short_name meant.NotConsecutive = omega arith
short_name (meant.NotBuilt kept) = omega arith
short_name meant.BadText = omega arith
short_name meant.NoNumber = omega arith
