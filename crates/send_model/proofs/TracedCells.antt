-- Traced cells, for what is proved over any cells.
use Rattle.std.proofs.Common.{refl}
use Rattle.send_model.specs.Receive.{bytes_of}
use Rattle.send_model.specs.Provenance.{Traced, fresh, fresh_cells}
use Rattle.send_model.proofs.Tracing.{byte_of, bytes_fresh}
use Rattle.send_model.proofs.MergingAny.{Celled}

abbrev pub traced : Celled Traced
traced = record { zero_cell = fresh 0; byte_in = byte_of; is_zero = refl; cells = fresh_cells; same_bytes = λ item. bytes_fresh (bytes_of item.command) }
