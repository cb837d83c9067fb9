use Rattle.std.specs.Prelude.{Option}
use Rattle.std.specs.Option.{option_map}
use Rattle.std.proofs.Common.{sym, ap, ◌∙◌}
use Rattle.send_model.specs.Store.{Part}
use Rattle.send_model.specs.Cells.{recelled_part}
use Rattle.squasher.specs.Judging.{Sight, fates_by, fates_at_end}
use Rattle.squasher.proofs.Keeping.{Blank}
use Rattle.squasher.proofs.Blanks.{fates_blank}
use Rattle.squasher.proofs.judging.Keeper.close.Goals as goal

pub returns : goal.returns
returns g c =
    let Seen : Type 0 = Option (Part Blank) in
    record {
      state = ap (λ (s : Sight). s.state) c.self.view_is;
      passed = ap (λ (s : Sight). s.passed) c.self.view_is;
      fates = fates_blank c.in-Some.part c.tree.result.now c.replace-log.result c.self.inside.log c.self.inside.fates c.in_ok-find_fates.field-0 (c.tree.ensures ∙ c.sub.ensures) c.replace-log.ensures.value c.in_ok-find_fates.ensures
          ∙ ap (λ (p : Seen). fates_by p c.self.inside.log c.self.inside.fates) (ap (option_map (recelled_part {D = Blank} (λ _. tt))) (sym c.in-Some.is))
          ∙ ap (λ (s : Sight). fates_at_end s) c.self.view_is;
    }
