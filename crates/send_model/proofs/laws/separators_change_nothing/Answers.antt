use Rattle.send_model.proofs.Separators.{neutral_changes_nothing, touch_is_neutral, detour_is_neutral}
use Rattle.send_model.proofs.FreeNames.{free_name_is_free}
use Rattle.send_model.proofs.OpenFiles.{steady_is_plain}
use Rattle.send_model.proofs.SeparatedRuns.{separated_is_received}
use Rattle.send_model.proofs.SeparatedCounts.{separated_counts_same}
use Rattle.send_model.proofs.ExportedStreams.{exported_is_same, none_can}
use Rattle.send_model.proofs.Moments.{received_can_export}
use Rattle.send_model.proofs.laws.separators_change_nothing.Goals as goal

pub returns-clause-neutral : goal.returns-clause-neutral
returns-clause-neutral c = neutral_changes_nothing

pub returns-clause-touch : goal.returns-clause-touch
returns-clause-touch c = touch_is_neutral

pub returns-clause-detour : goal.returns-clause-detour
returns-clause-detour c = detour_is_neutral

pub returns-clause-free : goal.returns-clause-free
returns-clause-free c = free_name_is_free

pub returns-clause-steady : goal.returns-clause-steady
returns-clause-steady c = steady_is_plain

pub returns-clause-separated : goal.returns-clause-separated
returns-clause-separated c = separated_is_received

pub returns-clause-counts : goal.returns-clause-counts
returns-clause-counts c = separated_counts_same

pub returns-clause-exported : goal.returns-clause-exported
returns-clause-exported c = exported_is_same

pub returns-clause-over_none : goal.returns-clause-over_none
returns-clause-over_none c = none_can

pub returns-clause-over_received : goal.returns-clause-over_received
returns-clause-over_received c = received_can_export
