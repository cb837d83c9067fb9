use Rattle.squash_model.proofs.PlacedBirths.{places_squash_the_same}
use Rattle.squash_model.proofs.PlacedFiles.{files_are_placed}
use Rattle.squash_model.proofs.laws.places_stand_for_births.Goals as goal

pub returns : goal.returns
returns c = record { same = places_squash_the_same; placed = files_are_placed }
