use Rattle.store_model.proofs.TurnMeanings.{entries_have_their_heads, lines_are_of_entries}
use Rattle.store_model.proofs.meanings.parts_in_turn_have_their_entries.Goals as goal

pub returns-clause-heads : goal.returns-clause-heads
returns-clause-heads g c = entries_have_their_heads

pub returns-clause-lines : goal.returns-clause-lines
returns-clause-lines g c = lines_are_of_entries
