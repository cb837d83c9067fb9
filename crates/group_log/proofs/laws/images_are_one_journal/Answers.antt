use Rattle.store_model.proofs.OneJournal.{one_header, one_journal, no_fault, one_fault}
use Rattle.group_log.proofs.laws.images_are_one_journal.Goals as goal

pub returns : goal.returns
returns c = record {
  one = λ image m n xs ys left right. (one_header image m n xs ys left right, one_journal image m n xs ys left right);
  no_fault = no_fault;
  one_fault = one_fault;
}
