use Rattle.std.proofs.Common.{◌≡◌, sym, ap, ◌∙◌, true, false, Some}
use Rattle.std.specs.Option.{option_map}
use Rattle.std.specs.Str.{bytes_eq}
use Rattle.path_walk.proofs.Passes.{not_known, known_by}
use Rattle.path_walk.proofs.paths.Paths.earlier.Goals as goal

pub returns-in_err-get : goal.returns-in_err-get
returns-in_err-get g c =
    ap (option_map (λ first. first.now)) c.from_residual.ensures
    ∙ sym (not_known c.args.self.now c.self.inside.tree.now c.self.invariant.lawful c.self.inside.at c.self.inside.firsts c.self.invariant.firsts_are c.args.ino c.self.view_is c.requires.there (sym c.in_err-get.ensures))

pub returns-then-eq : goal.returns-then-eq
returns-then-eq g c =
    let same : bytes_eq c.self.inside.at c.in_ok-get.field-0.now ≡ true = (λ i. bytes_eq (sym c.as_slice.ensures.bytes i) (sym c.as_slice-first.ensures i)) ∙ sym c.if-eq.ensures in
    sym (known_by c.args.self.now c.self.inside.tree.now c.self.invariant.lawful c.self.inside.at c.self.inside.firsts c.self.invariant.firsts_are c.args.ino c.self.view_is c.requires.there c.in_ok-get.field-0.now true (sym c.in_ok-get.ensures) same)

pub returns : goal.returns
returns g c =
    let same : bytes_eq c.self.inside.at c.in_ok-get.field-0.now ≡ false = (λ i. bytes_eq (sym c.as_slice.ensures.bytes i) (sym c.as_slice-first.ensures i)) ∙ sym c.if-eq.ensures in
    ap Some c.as_slice-first.ensures
    ∙ sym (known_by c.args.self.now c.self.inside.tree.now c.self.invariant.lawful c.self.inside.at c.self.inside.firsts c.self.invariant.firsts_are c.args.ino c.self.view_is c.requires.there c.in_ok-get.field-0.now false (sym c.in_ok-get.ensures) same)
