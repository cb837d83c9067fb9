-- What is left behind the front.
use Rattle.std.proofs.Common.{◌≡◌, Some, ◌++◌, rules, subst}
use Rattle.std.proofs.lemmas.Bool.Decides.{Decides-eqb}
use Rattle.std.proofs.lemmas.Slice.Eq.{strip_prefix_is}
use Rattle.inode_tree.proofs.walked.LastWalks.rest.Goals as goal

pub returns : goal.returns
returns c =
    let front : c.as_slice.result.now ≡ c.args.self.now.front = search rules in
    record {
      is = subst (λ f. c.args.path.now ≡ f ++ c.in_ok-rest.rest.now) front (strip_prefix_is Decides-eqb c.args.path.now c.as_slice.result.now (Some c.in_ok-rest.rest) c.in_ok-rest.ensures.cases);
      some = search rules;
      short = search rules;
    }
