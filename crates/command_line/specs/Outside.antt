-- What a request does outside, as the definitions have it.
use Rattle.program_model.specs.Profiles as profiles
use Rattle.command_line.specs.declared.profile.How.{How}
use Rattle.command_line.specs.declared.profile.How.TheVariants as how
use Rattle.command_line.specs.declared.profile.Access.{Access}
use Rattle.command_line.specs.declared.profile.Access.TheVariants as access
use Rattle.command_line.specs.declared.profile.StoreAccess.{StoreAccess}

abbrev pub how_meant : How → profiles.How
how_meant how.NoFiles = profiles.NoFiles
how_meant how.Once = profiles.Once
how_meant how.Twice = profiles.Twice
how_meant how.InTurns = profiles.InTurns

abbrev pub access_meant : Access → profiles.Access
access_meant access.Makes = profiles.Makes
access_meant access.Changes = profiles.Changes
access_meant access.Reads = profiles.Reads

abbrev pub store_meant : StoreAccess → profiles.StoreAccess
store_meant store = record { file = store.file.now; access = access_meant store.access }
