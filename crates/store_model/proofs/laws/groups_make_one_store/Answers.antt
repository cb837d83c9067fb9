use Rattle.store_model.proofs.OneStore.{one_store}
use Rattle.store_model.proofs.CellRuns.{made_all-cells, all_put_same}
use Rattle.store_model.proofs.Growing.{makes_more}
use Rattle.store_model.proofs.Numbers.{stored_has_numbers}
use Rattle.store_model.proofs.laws.groups_make_one_store.Goals as goal

pub returns : goal.returns
returns c s = record {
  one = λ zero_cell put image x y left right. one_store zero_cell put image x y left right;
  cells = λ f zero_cell put other same gate store groups. made_all-cells f zero_cell put other gate store groups (all_put_same f zero_cell put other same gate groups);
  numbers = λ zero_cell put image store stands. stored_has_numbers zero_cell put image store stands;
  more = λ zero_cell put header groups group store next makes is then. makes_more zero_cell put header groups group store next makes is then;
}
