use Rattle.std.proofs.Common.{Bor, List, ℕ, sym, ap, ◌∙◌}
use Rattle.std.specs.Option.{option_map}
use Rattle.send_commands.specs.Meaning.{meaning_of}
use Rattle.stream_export.specs.Exporting.{opened_by}
use Rattle.stream_export.proofs.Separating.{taken_opening}
use Rattle.stream_export.proofs.exporter.Exporter.take.Goals as goal

pub returns-in-Ok-open_anew-clause-taken : goal.returns-in-Ok-open_anew-clause-taken
returns-in-Ok-open_anew-clause-taken g c file =
    let (stepped, after) = taken_opening c.args.self.now c.push_item.new.self c.open_anew.new.self c.self.inside.follower c.step.new.self (option_map (λ ino. opened_by c.self.inside.path ino) c.self.inside.ino) c.self.inside.other
    (meaning_of c.args.item.now.command) c.in-Some.path.now c.find-found.result (ap (option_map (λ (p : Bor (List ℕ)). p.now)) (sym c.in-Some.is) ∙ c.in-Ok.ensures.opens) c.self.view_is c.in-Ok.ensures.ready
    c.in-Ok-step.ensures.stepped c.find-found.ensures c.in-Ok-open_anew.ensures.opened in
    (stepped, after, c.in-Ok.ensures.added)
