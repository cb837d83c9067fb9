use Rattle.send_model.proofs.LeastPaths.{first_paths_are_least}
use Rattle.send_model.proofs.laws.first_paths_are_least.Goals as goal

pub returns : goal.returns
returns c k = record { least = λ s lawful. first_paths_are_least s lawful }
