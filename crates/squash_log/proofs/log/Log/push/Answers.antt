use Rattle.std.proofs.Common.{◌≡◌, List, [], ◌∷◌, ◌++◌, ◌∙◌, ap, arith, rules}
use Rattle.squash_log.specs.declared.change.Change.{Change}
use Rattle.squash_log.proofs.StackLaws.{lost_logged, pushed_logged, pushed_same}
use Rattle.squash_log.proofs.log.Log.push.Goals as goal

pub invariant_of-self-in_err-push-2 : goal.invariant_of-self-in_err-push-2
invariant_of-self-in_err-push-2 c =
    let n : c.replace-block.new.dest.items ≡ [] = search rules in
    lost_logged c.self.inside.full.items c.push-2.new.self.items c.self.inside.last.items c.replace-block.new.dest.items c.in_err-push-2.ensures.items n c.self.invariant

pub invariant_of-self-2 : goal.invariant_of-self-2
invariant_of-self-2 c =
    let n : c.replace-block.new.dest.items ≡ [] = search rules in
    let b : c.replace-block.result.items ≡ c.self.inside.last.items = search rules in
    pushed_logged c.self.inside.full.items c.push-2.new.self.items c.replace-block.result c.self.inside.last.items c.replace-block.new.dest.items c.push-3.new.self.items c.args.change
    b n (omega (arith, c.if-len-lt-BLOCK.false, c.len.ensures, c.self.inside.last.ok.0)) c.in_ok-push-2.ensures.items c.in_ok-push-3.ensures.items c.self.invariant c.requires.fits

pub returns : goal.returns
returns c =
    let n : c.replace-block.new.dest.items ≡ [] = search rules in
    let b : c.replace-block.result.items ≡ c.self.inside.last.items = search rules in
    pushed_same c.self.inside.full.items c.push-2.new.self.items c.replace-block.result c.self.inside.last.items c.replace-block.new.dest.items c.push-3.new.self.items c.args.change
    b n c.in_ok-push-2.ensures.items c.in_ok-push-3.ensures.items ∙ ap (λ (l : List Change). l ++ c.args.change ∷ []) c.self.view_is
