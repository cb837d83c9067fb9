-- In which order and spelling a subvolume is written, and how writing it ends. This program's own.
use Rattle.std.specs.Prelude.{◌≡◌, List, ℕ, Result, Ok, Err}
use Rattle.send_model.specs.Headline.{IsProperFrontOf}
use Rattle.snapshot_model.specs.HeldStores.{Form}
use Rattle.snapshot_model.specs.Sent.{sent_stream}
use Rattle.snapshot_model.specs.Restored.{restored_stream}
use Rattle.store_commands.specs.declared.ends.StoreEnd.{StoreEnd}
use Rattle.full_send.specs.Adding.{IsCutBy}
use Rattle.full_send.specs.declared.entries.Order.{Order}
use Rattle.full_send.specs.declared.entries.Order.TheVariants as order

abbrev pub form_of : Order → Form
form_of order.Sent = sent_stream
form_of order.Restored = restored_stream

-- All of a stream is written, or a front part of it that is not all.
abbrev pub StreamEnds : List ℕ → Result (Unit {0}) StoreEnd → List ℕ → Type 0
StreamEnds stream (Ok done) written = written ≡ stream
StreamEnds stream (Err end) written = IsCutBy end stream written × IsProperFrontOf stream written
