-- Files that were read once over are ready to be composed over a base without their parts, whose
-- subvolumes the format can say.
use Rattle.std.specs.Prelude.{◌≡◌, ℕ, true, List}
use Rattle.std.specs.List.{AllByRecursion}
use Rattle.std.proofs.Common.{ap}
use Rattle.send_model.specs.Reading.{Item, is_version, input}
use Rattle.send_model.specs.Store.{Store}
use Rattle.send_model.specs.Receive.{Run, start_of}
use Rattle.send_model.specs.Outside.{part_uuids, base_of, keys_outside, FindsSayable}
use Rattle.send_model.specs.Cells.{recelled_state}
use Rattle.send_model.specs.Laws.{CanWrite, FrontsAreWritable}
use Rattle.send_model.specs.Overridden.{Overrides, overridden}
use Rattle.send_model.proofs.Runs.{runs_taken}
use Rattle.send_model.proofs.Headlines.{without_finds}
use Rattle.send_model.proofs.ReadCommands.{output_is_read}
use Rattle.composer.specs.OverBase.{AreReady}
use Rattle.send_model.proofs.Tracing.{byte_of}
use Rattle.composer.proofs.OverBaseEnds.{taken_bytes}

pub are_ready : FrontsAreWritable → (store : Store ℕ) (given : Overrides) (files : List (List ℕ))
    → FindsSayable (base_of store (overridden given (input files)).items) (keys_outside (overridden given (input files)).items)
    → AllByRecursion (λ item. CanWrite item.version item.command × (is_version item.version ≡ true)) (overridden given (input files)).items
    → AreReady (base_of store (overridden given (input files)).items) given files
are_ready law store given files sayable writable =
    let all : List Item = (overridden given (input files)).items in
    let base : Store ℕ = base_of store all in
    record {
      none = λ k e. without_finds (part_uuids all) store k e;
      version = output_is_read all writable;
      writable = λ items more end is taken first last f l.
          law store all items more first last is (ap (λ (r : Run ℕ). r.refused) (runs_taken items (start_of base) (recelled_state byte_of end) (taken_bytes base items end taken))) sayable writable f l;
    }
