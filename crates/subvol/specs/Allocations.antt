-- What FALLOCATE does, in the code and in the definitions. Source: fallocate(2).
use Rattle.send_model.specs.Edit as meant
use Rattle.subvol.specs.declared.allocation.Allocation.{Allocation}
use Rattle.subvol.specs.declared.allocation.Allocation.TheVariants as made

abbrev pub meant_by : Allocation → meant.Allocation
meant_by made.Lengthen = meant.Lengthen
meant_by made.KeepSize = meant.KeepSize
meant_by made.PunchHole = meant.PunchHole
meant_by made.ZeroRange = meant.ZeroRange
meant_by made.ZeroWithin = meant.ZeroWithin
