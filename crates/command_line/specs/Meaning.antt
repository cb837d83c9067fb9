-- The requests of the code as those of the definitions.
use Rattle.program_model.specs.Requests as requests
use Rattle.command_line.specs.declared.request.Base.{Base}
use Rattle.command_line.specs.declared.request.Base.TheVariants as based
use Rattle.command_line.specs.declared.request.Request.{Request}
use Rattle.command_line.specs.declared.request.Request.TheVariants as made

abbrev pub base_meant : Base → requests.Base
base_meant based.Nothing = requests.Nothing
base_meant (based.InStore store) = requests.InStore store.now

-- Arguments are seen as what they mean.
abbrev pub request_meant : Request → requests.Request
request_meant (made.Compose base files) = requests.Compose (base_meant base) files
request_meant (made.Audit guards base files) = requests.Audit guards (base_meant base) files
request_meant (made.Dump file) = requests.Dump file.now
request_meant (made.Text file) = requests.Text file.now
request_meant (made.Pack file) = requests.Pack file.now
request_meant (made.Export base files) = requests.Export (base_meant base) files
request_meant (made.Squash base file) = requests.Squash (base_meant base) file
request_meant (made.Gen count seed) = requests.Gen count seed
request_meant (made.Trial count seed) = requests.Trial count seed
request_meant (made.Init store) = requests.Init store.now
request_meant (made.Drop store name) = requests.Drop store.now name
request_meant (made.Receive guards store files) = requests.Receive guards store.now files
request_meant (made.List store) = requests.ListAll store.now
request_meant (made.Show store name) = requests.Show store.now name
request_meant (made.Cat store name path) = requests.Cat store.now name path
request_meant (made.Scrub store) = requests.Scrub store.now
request_meant (made.Send store name) = requests.Send store.now name
request_meant (made.Restore store name) = requests.Restore store.now name
request_meant (made.Stream store name) = requests.Stream store.now name
request_meant (made.Tar store name) = requests.Tar store.now name
request_meant (made.Interleave store turns) =
    requests.Interleave store.now turns.schedule turns.files
