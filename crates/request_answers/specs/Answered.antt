-- The code's answers as those of the definitions.
use Rattle.std.specs.Prelude.{ℕ, List}
use Rattle.store_model.specs.Answers as stored
use Rattle.store_commands.specs.Ending as ending
use Rattle.store_commands.specs.declared.ends.StoreEnd.{StoreEnd}
use Rattle.program_model.specs.Answers.{flat}
use Rattle.program_model.specs.Answers as meant
use Rattle.program_model.specs.Answers.{Usage, StoreFault, NoStore, IsMissing, IsFull, IsThere, IsDamaged}
use Rattle.request_answers.specs.declared.endings.Answer.{Answer}
use Rattle.request_answers.specs.declared.endings.Answer.TheVariants as made

abbrev pub answer_of : Answer → meant.Answer
answer_of made.Usage = Usage
answer_of (made.Ended outcome) = flat (stored.OfAnyWord (ending.outcome_meant outcome))
answer_of made.StoreFault = StoreFault
answer_of (made.NotStore group) = NoStore group
answer_of (made.Missing what) = IsMissing what
answer_of (made.LogFull end wanted limit) = IsFull end wanted limit
answer_of (made.StoreThere size) = IsThere size
answer_of (made.Damaged group stored computed) = IsDamaged group stored computed

-- What an end of a request for this name and this path is.
abbrev pub end_meant : (name path : List ℕ) → StoreEnd → stored.Answer
end_meant name path end = ending.answer_of name path end
