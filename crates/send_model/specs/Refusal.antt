-- Why a command is refused, with the values that a refusal keeps, and the number and name of each
-- refusal, as notes print them. Faults of reading a stream's bytes are the first eight, BadTime and
-- Encoded; Guarded is what a guard answers, and NotConsecutive what compose asks of the order of
-- parts; BadText is what `pack` answers to a text; NotBuilt is kept for commands that are not
-- taken, of which there are none; the others are faults of what a command asks for. The numbers are
-- this program's own.
use Rattle.std.specs.Prelude.{ℕ, List, codes}

pub data Refusal : Type 0 where
  BadMagic : Refusal
  BadVersion : ℕ → Refusal
  Truncated : Refusal
  LongCommand : ℕ → Refusal
  BadChecksum : ℕ → ℕ → Refusal
  UnknownCommand : ℕ → Refusal
  BadAttribute : ℕ → Refusal
  MissingAttribute : ℕ → Refusal
  NoSubvolume : Refusal
  BadName : Refusal
  NameThere : Refusal
  UuidThere : Refusal
  NoParent : Refusal
  BadPath : Refusal
  NoEntry : Refusal
  NotDirectory : Refusal
  EntryThere : Refusal
  IsDirectory : Refusal
  NotEmpty : Refusal
  IntoItself : Refusal
  NotFile : Refusal
  BadXattr : Refusal
  NoXattr : Refusal
  BadDevice : Refusal
  BadTime : Refusal
  IsRoot : Refusal
  FileTooBig : Refusal
  NoSource : Refusal
  BadRange : Refusal
  Unaligned : Refusal
  Overlap : Refusal
  Encoded : Refusal
  Guarded : ℕ → ℕ → Refusal
  BadFallocate : ℕ → Refusal
  NotConsecutive : Refusal
  NotBuilt : ℕ → Refusal
  BadText : Refusal
  NoNumber : Refusal

-- The number that a note prints.
unfoldable pub refusal_number : Refusal → ℕ
refusal_number BadMagic = 1
refusal_number (BadVersion _) = 2
refusal_number Truncated = 3
refusal_number (LongCommand _) = 4
refusal_number (BadChecksum _ _) = 5
refusal_number (UnknownCommand _) = 6
refusal_number (BadAttribute _) = 7
refusal_number (MissingAttribute _) = 8
refusal_number NoSubvolume = 9
refusal_number BadName = 10
refusal_number NameThere = 11
refusal_number UuidThere = 12
refusal_number NoParent = 13
refusal_number BadPath = 14
refusal_number NoEntry = 15
refusal_number NotDirectory = 16
refusal_number EntryThere = 17
refusal_number IsDirectory = 18
refusal_number NotEmpty = 19
refusal_number IntoItself = 20
refusal_number NotFile = 21
refusal_number BadXattr = 22
refusal_number NoXattr = 23
refusal_number BadDevice = 24
refusal_number BadTime = 25
refusal_number IsRoot = 26
refusal_number FileTooBig = 27
refusal_number NoSource = 28
refusal_number BadRange = 29
refusal_number Unaligned = 30
refusal_number Overlap = 31
refusal_number Encoded = 32
refusal_number (Guarded _ _) = 33
refusal_number (BadFallocate _) = 34
refusal_number NotConsecutive = 35
refusal_number (NotBuilt _) = 36
refusal_number BadText = 37
refusal_number NoNumber = 38

-- The name that a note prints.
unfoldable pub refusal_name : Refusal → List ℕ
refusal_name BadMagic = codes "BadMagic"
refusal_name (BadVersion _) = codes "BadVersion"
refusal_name Truncated = codes "Truncated"
refusal_name (LongCommand _) = codes "LongCommand"
refusal_name (BadChecksum _ _) = codes "BadChecksum"
refusal_name (UnknownCommand _) = codes "UnknownCommand"
refusal_name (BadAttribute _) = codes "BadAttribute"
refusal_name (MissingAttribute _) = codes "MissingAttribute"
refusal_name NoSubvolume = codes "NoSubvolume"
refusal_name BadName = codes "BadName"
refusal_name NameThere = codes "NameThere"
refusal_name UuidThere = codes "UuidThere"
refusal_name NoParent = codes "NoParent"
refusal_name BadPath = codes "BadPath"
refusal_name NoEntry = codes "NoEntry"
refusal_name NotDirectory = codes "NotDirectory"
refusal_name EntryThere = codes "EntryThere"
refusal_name IsDirectory = codes "IsDirectory"
refusal_name NotEmpty = codes "NotEmpty"
refusal_name IntoItself = codes "IntoItself"
refusal_name NotFile = codes "NotFile"
refusal_name BadXattr = codes "BadXattr"
refusal_name NoXattr = codes "NoXattr"
refusal_name BadDevice = codes "BadDevice"
refusal_name BadTime = codes "BadTime"
refusal_name IsRoot = codes "IsRoot"
refusal_name FileTooBig = codes "FileTooBig"
refusal_name NoSource = codes "NoSource"
refusal_name BadRange = codes "BadRange"
refusal_name Unaligned = codes "Unaligned"
refusal_name Overlap = codes "Overlap"
refusal_name Encoded = codes "Encoded"
refusal_name (Guarded _ _) = codes "Guarded"
refusal_name (BadFallocate _) = codes "BadFallocate"
refusal_name NotConsecutive = codes "NotConsecutive"
refusal_name (NotBuilt _) = codes "NotBuilt"
refusal_name BadText = codes "BadText"
refusal_name NoNumber = codes "NoNumber"
