use Rattle.squash_log.proofs.KeptCells.{all_lives, all_long}
use Rattle.squash_log.proofs.file_lives.all_below.Goals as goal

pub returns-clause-lives : goal.returns-clause-lives
returns-clause-lives c =
    all_lives _ _ c.args.size c.new-cells.result c.put_run.new.self c.new-cells.ensures c.in_ok-put_run.ensures

pub returns-clause-count : goal.returns-clause-count
returns-clause-count c =
    all_long _ _ c.args.size c.new-cells.result c.put_run.new.self c.new-cells.ensures c.in_ok-put_run.ensures
