use Rattle.send_model.proofs.Thinning.{leaves_out_contents}
use Rattle.send_model.proofs.ThinnedLaws.{looks_at_named, alike_is_same, looks_outside, least_is_enough, alike_outside}
use Rattle.send_model.proofs.SourceLaws.{thinned_ends}
use Rattle.send_model.proofs.laws.composing_looks_at_what_is_named.Goals as goal

pub returns : goal.returns
returns c k = record {
  contents = leaves_out_contents;
  named = looks_at_named;
  alike = alike_is_same;
  outside = looks_outside;
  least = least_is_enough;
  alike_outside = alike_outside;
  ends = thinned_ends;
}
