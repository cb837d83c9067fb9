use Rattle.squash_model.proofs.SquashProved.{squashed_leads_the_same, squashed_is_the_same, squashed_carries_what_stands, squashed_keeps_all_else, what_stands_stays, squashed_twice_is_once}
use Rattle.squash_model.proofs.KeptBytes.{squashed_puts_what_stands}
use Rattle.squash_model.proofs.StandingLast.{stands_in_last}
use Rattle.squash_model.proofs.laws.squashed_commands_make_the_same.Goals as goal

pub returns : goal.returns
returns c = record {
  leads = squashed_leads_the_same;
  same = squashed_is_the_same;
  carries = squashed_carries_what_stands;
  puts = squashed_puts_what_stands;
  keeps = squashed_keeps_all_else;
  stays = what_stands_stays;
  once = squashed_twice_is_once;
  last = stands_in_last;
}
