use Rattle.std.proofs.Common.{◌≡◌, ◌<◌, ◌∙◌, ap, sym, subst, length, rules}
use Rattle.shared_map.specs.Pages.{joined, AreFilled, in_two}
use Rattle.shared_map.proofs.Parts.{split_is, split_joined, split_filled}
use Rattle.shared_map.proofs.map.split.Given.{Over}
use Rattle.shared_map.proofs.map.split.Goals.{In_ok-insert}
use Rattle.shared_map.proofs.map.split.Goals as goal

-- The page is there, and has become two.
halves : (g : Over) (c : In_ok-insert g) → (c.args.at < length c.args.pages.now.items) × (c.insert.new.self.items ≡ in_two c.args.pages.now.items c.args.at c.args.cut)
halves g c =
    let ps = c.args.pages.now.items in
    let same : c.reserve.new.self.items ≡ ps = search rules in
    let lt : c.args.at < length ps = search rules in
    let read = rw same at c.index_mut-page.ensures.value in
    let made = rw same at c.in_ok-insert.ensures.items in
    (lt, made ∙ split_is ps c.args.at c.args.cut lt c.index_mut-page.result.now _ _ read c.in_ok-high.ensures.low c.in_ok-high.ensures.high)

pub returns-clause-ok : goal.returns-clause-ok
returns-clause-ok g c = (halves g c).1

pub returns-clause-same : goal.returns-clause-same
returns-clause-same g c = let (lt, is) = halves g c in ap joined is ∙ split_joined c.args.pages.now.items c.args.at c.args.cut lt

pub returns-clause-filled : goal.returns-clause-filled
returns-clause-filled g c filled = let (lt, is) = halves g c in subst AreFilled (sym is) (split_filled c.args.pages.now.items c.args.at c.args.cut lt c.requires.low c.requires.high filled)
