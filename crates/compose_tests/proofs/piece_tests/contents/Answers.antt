use Rattle.std.specs.Prelude.{None}
use Rattle.std.proofs.Common.{ap, ◌∙◌}
use Rattle.extent_map.specs.Cells.{put_cells}
use Rattle.extent_map.specs.Pieces.{zero_cells}
use Rattle.compose_tests.proofs.Made.{made_had}
use Rattle.compose_tests.proofs.piece_tests.contents.Goals as goal

pub returns : goal.returns
returns c = made_had c.zero_run.new.self c.put_run.new.self 4 0 7 4 99_996 (c.in_ok-zero_run.ensures ∙ ap (put_cells None 0 (zero_cells 4)) c.new-contents.ensures) c.in_ok-put_run.ensures
