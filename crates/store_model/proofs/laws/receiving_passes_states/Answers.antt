use Rattle.std.proofs.Common.{refl}
use Rattle.send_model.specs.Guards.{receive_watched}
use Rattle.store_model.specs.States.{received}
use Rattle.store_model.specs.StateLaws.{FilesAreItems}
use Rattle.store_model.proofs.PassedStates.{more_states, first_state, own_state, completed_state}
use Rattle.store_model.proofs.CompleteLines.{lines_are_counted, first_lines}
use Rattle.store_model.proofs.Numbers.{received_has_numbers, printed_are_parts}
use Rattle.store_model.proofs.Betweens.{between_has_them}
use Rattle.store_model.proofs.ReadFronts.{limited_is_front}
use Rattle.store_model.proofs.laws.receiving_passes_states.Goals as goal

files : FilesAreItems
unfolding receive_watched received
files store guards fs = refl

pub returns : goal.returns
returns c s = record {
  more = λ zero_cell cells least store guards items more now b. more_states zero_cell cells least store guards items more now b;
  first = λ zero_cell cells store guards items. first_state zero_cell cells store guards items;
  own = λ zero_cell cells store guards items. own_state zero_cell cells store guards items;
  completed = λ zero_cell cells store guards items item taken free ends. completed_state zero_cell cells store guards items item taken free ends;
  between = λ least start end now b. between_has_them least start end now b;
  files = files;
  limited = limited_is_front;
  lines = λ parts small. lines_are_counted parts small;
  numbers = received_has_numbers;
  printed = printed_are_parts;
  whole = λ parts written rest small is. first_lines parts written rest small is;
}
