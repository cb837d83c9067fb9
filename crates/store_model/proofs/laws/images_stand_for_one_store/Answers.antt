use Rattle.store_model.proofs.OneSaying.{body_one}
use Rattle.store_model.proofs.OneStore.{never_both, one_fault_group}
use Rattle.store_model.proofs.Decided.{image_decided}
use Rattle.store_model.proofs.LawfulGroups.{stands_lawful}
use Rattle.store_model.proofs.PlacedBytes.{places_stand, bytes_stand}
use Rattle.store_model.proofs.laws.images_stand_for_one_store.Goals as goal

pub returns : goal.returns
returns c = record { body = body_one; not_both = never_both; fault = one_fault_group; decided = image_decided; lawful = stands_lawful; places = places_stand; bytes = bytes_stand }
