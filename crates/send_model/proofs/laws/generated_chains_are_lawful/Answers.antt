use Rattle.send_model.proofs.GeneratedChains.{chain_is_lawful}
use Rattle.send_model.proofs.laws.generated_chains_are_lawful.Goals as goal

pub returns : goal.returns
returns c = record { lawful = chain_is_lawful }
