use Rattle.standing_model.proofs.SelfHeadline.{self_items_hold}
use Rattle.standing_model.proofs.SelfReadings.{self_readings_hold, self_files_hold}
use Rattle.standing_model.proofs.SelfFronts.{self_fronts}
use Rattle.standing_model.proofs.FilesThere.{files_there, overridden_there}
use Rattle.standing_model.proofs.SelfDues.{self_judges}
use Rattle.standing_model.proofs.laws.selves_hold.Goals as goal

pub returns : goal.returns
returns c = record {
  items = self_items_hold;
  readings = self_readings_hold;
  files = self_files_hold;
  fronts = self_fronts;
  there = files_there;
  overridden = overridden_there;
  judged = self_judges;
}
