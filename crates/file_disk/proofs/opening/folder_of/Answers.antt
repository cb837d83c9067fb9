use Rattle.std.proofs.Common.{rules}
use Rattle.file_disk.proofs.Folders.{before_split}
use Rattle.file_disk.proofs.opening.folder_of.Goals as goal

pub returns-in-None : goal.returns-in-None
returns-in-None c =
    let split = before_split c.args.path.now _ c.rsplit_once.ensures.cases in
    rw (← split) (grind rules)

pub returns-in-Some-empty-default : goal.returns-in-Some-empty-default
returns-in-Some-empty-default c =
    let split = before_split c.args.path.now _ c.rsplit_once.ensures.cases in
    rw (← split) (grind rules)

pub returns-in-Some : goal.returns-in-Some
returns-in-Some c =
    let split = before_split c.args.path.now _ c.rsplit_once.ensures.cases in
    rw (← split) (grind rules)
