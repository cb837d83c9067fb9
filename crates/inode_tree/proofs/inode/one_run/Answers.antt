-- Contents that began empty are the run.
use Rattle.std.proofs.Common.{None, ap, ◌∙◌}
use Rattle.extent_map.specs.Cells.{put_cells}
use Rattle.extent_map.specs.Pieces.{run_cells}
use Rattle.extent_map.proofs.CellLists.{put_first}
use Rattle.inode_tree.proofs.inode.one_run.Goals as goal

pub returns : goal.returns
returns g c =
    let run = run_cells g.P.Origin.advanced c.args.start c.args.len in
    c.in_ok-put_run.ensures ∙ ap (put_cells None 0 run) c.new-contents.ensures ∙ put_first None run
