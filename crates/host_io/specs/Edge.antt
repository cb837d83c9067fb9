-- What the edge decides: how the file of a store is opened, and when standard output may not be
-- written. This program's own.
use Rattle.std.specs.Prelude.{Bool, true, false, Option, None, Some, if◌then◌else◌}
use Rattle.program_model.specs.Requests.{Request, Compose, Audit, Dump, Text, Pack, Export, Squash, Gen, Trial, Init, Drop, Receive, ListAll, Show, Cat, Scrub, Send, Restore, Stream, Tar, Interleave}
use Rattle.command_line.specs.declared.profile.Access.{Access}
use Rattle.command_line.specs.declared.profile.Access.TheVariants.{Makes, Changes, Reads}
use Rattle.host_io.specs.declared.barred_output.BarredOutput.{BarredOutput}
use Rattle.host_io.specs.declared.barred_output.BarredOutput.TheVariants as barred

-- ---- the file of a store

-- Only a file that is made may be new.
abbrev pub is_made : Access → Bool
is_made Makes = true
is_made Changes = false
is_made Reads = false

-- A file that is only read is not open to be written to.
abbrev pub is_written : Access → Bool
is_written Makes = true
is_written Changes = true
is_written Reads = false

-- ---- standard output

-- Requests that write a stream, which a terminal does not take.
abbrev pub writes_stream : Request → Bool
writes_stream (Compose base files) = true
writes_stream (Export base files) = true
writes_stream (Squash base files) = true
writes_stream (Pack file) = true
writes_stream (Send store name) = true
writes_stream (Restore store name) = true
writes_stream (Stream store name) = true
writes_stream (Tar store name) = true
writes_stream (Audit guards base files) = false
writes_stream (Dump file) = false
writes_stream (Text file) = false
writes_stream (Gen count seed) = false
writes_stream (Trial count seed) = false
writes_stream (Init store) = false
writes_stream (Drop store name) = false
writes_stream (Receive guards store files) = false
writes_stream (ListAll store) = false
writes_stream (Show store name) = false
writes_stream (Cat store name path) = false
writes_stream (Scrub store) = false
writes_stream (Interleave store schedule turns) = false

-- Why standard output may not be written: it is the store, or one of the files that are read, or a
-- terminal that would get a stream.
abbrev pub barred_for : (is_store is_input is_stream_to_terminal : Bool) → Option BarredOutput
barred_for is_store is_input is_stream_to_terminal =
    if is_store then Some barred.Store
    else if is_input then Some barred.Input
    else if is_stream_to_terminal then Some barred.Terminal
    else None
