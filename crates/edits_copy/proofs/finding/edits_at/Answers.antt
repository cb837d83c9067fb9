use Rattle.std.specs.Prelude.{ℕ, List, take, drop}
use Rattle.std.proofs.Common.{rules, sym, ◌∙◌}
use Rattle.edits_copy.proofs.Groups.{head_of_body, body_len}
use Rattle.edits_copy.proofs.finding.edits_at.Goals as goal

pub returns-clause-found : goal.returns-clause-found
returns-clause-found g c tells format group is own =
    let seen : List ℕ = g.D.Disk.seen c.args.disk.now in
    c.place_by.ensures.found (take c.args.group.len (drop c.args.group.at seen))
    (body_len c.args.group.at c.args.group.len c.args.log.now.size seen c.requires.within (sym c.requires.fits ∙ g.met.D.Disk.sized c.args.disk.now tells))
    (head_of_body c.args.group.at c.args.group.len seen _ (search rules) (c.in_ok-read.ensures.bytes tells) (search rules)) format group is own
