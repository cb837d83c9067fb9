use Rattle.std.specs.Prelude.{Option, Some, IfSome, ◌≡◌}
use Rattle.std.specs.Option.{option_map}
use Rattle.std.proofs.Common.{sym, ap, subst, ◌∙◌}
use Rattle.send_commands.specs.Meaning.{meaning_of}
use Rattle.send_model.specs.Store.{Part}
use Rattle.send_model.specs.Cells.{recelled_part}
use Rattle.squash_log.specs.Resolved.{changes_at}
use Rattle.squasher.specs.Judging.{Sight, IsSized}
use Rattle.squasher.proofs.Keeping.{Blank}
use Rattle.squasher.proofs.Blanks.{change_blank, sized_at}
use Rattle.squasher.proofs.judging.Keeper.change_at.Goals as goal

pub returns-in-Some-clause-change : goal.returns-in-Some-clause-change
returns-in-Some-clause-change g c =
    let there : option_map (recelled_part {D = Blank} (λ _. tt)) (Some c.in-Some.part) ≡ c.args.self.now.state.part =
    ap (option_map (recelled_part {D = Blank} (λ _. tt))) (sym c.in-Some.is) ∙ ap (λ (s : Sight). s.state.part) c.self.view_is in
    change_blank {D = Blank} (λ _. tt) c.in-Some.part (meaning_of c.args.command.now) c.change_of.result c.change_of.ensures.change
    ∙ ap (λ (p : Option (Part Blank)). changes_at p (meaning_of c.args.command.now)) there

pub returns-in-Some-clause-sized : goal.returns-in-Some-clause-sized
returns-in-Some-clause-sized g c =
    let there : option_map (recelled_part {D = Blank} (λ _. tt)) (Some c.in-Some.part) ≡ c.args.self.now.state.part =
    ap (option_map (recelled_part {D = Blank} (λ _. tt))) (sym c.in-Some.is) ∙ ap (λ (s : Sight). s.state.part) c.self.view_is in
    subst (λ (p : Option (Part Blank)). IfSome c.change_of.result (λ change. IfSome p (λ part. IsSized part.subvolume change))) there (sized_at {D = Blank} (λ _. tt) c.in-Some.part c.change_of.result c.change_of.ensures.sized)
