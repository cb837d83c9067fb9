use Rattle.store_model.proofs.NoStoreMeanings.{no_store_is_none, nothing_is_done_over_none, no_input_fails_over_none, inputs_are_of_files, changes_are_of_streams}
use Rattle.store_model.proofs.meanings.nothing_is_done_over_no_store.Goals as goal

pub returns : goal.returns
returns c = record {
  is_none = no_store_is_none;
  none = nothing_is_done_over_none;
  no_input = no_input_fails_over_none;
  inputs = inputs_are_of_files;
  changes = changes_are_of_streams;
}
