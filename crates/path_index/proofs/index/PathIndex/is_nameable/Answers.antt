use Rattle.std.proofs.Common.{arith, subst}
use Rattle.send_model.specs.Subvolume.{IsLawful}
use Rattle.path_index.proofs.Lookups.{place_there, none_more, some_nameable, none_at_all, root_nameable, nothing_nameable}
use Rattle.path_index.proofs.index.PathIndex.is_nameable.Goals as goal

pub returns-then-ino-eq-ROOT : goal.returns-then-ino-eq-ROOT
returns-then-ino-eq-ROOT g c =
    let law = c.first_paths_are_least.ensures.least c.args.self.now (subst (λ t. IsLawful t) c.self.view_is c.self.invariant.lawful) in
    root_nameable c.self.inside.sub c.args.self.now c.self.inside.names c.self.view_is c.self.invariant law c.args.ino c.if-ino-eq-ROOT.true

pub returns-in_default : goal.returns-in_default
returns-in_default g c =
    let law = c.first_paths_are_least.ensures.least c.args.self.now (subst (λ t. IsLawful t) c.self.view_is c.self.invariant.lawful) in
    nothing_nameable c.self.inside.sub c.args.self.now c.self.inside.names c.self.view_is c.self.invariant law c.args.ino c.if-ino-eq-ROOT.false c.in_default.ensures

pub has_path-requires : goal.has_path-requires
has_path-requires g c = record {
  there = place_there c.self.inside.sub c.args.self.now c.self.inside.names c.self.view_is c.self.invariant c.args.ino c.in-Some.links.now c.in-Some.ensures c.as_slice-link-items.result.now c.as_slice-link-items.ensures
      c.loop-link.link-index c.link-item.result c.link-item.is c.loop-link-test.true;
}

pub returns-then-has_path : goal.returns-then-has_path
returns-then-has_path g c =
    let law = c.first_paths_are_least.ensures.least c.args.self.now (subst (λ t. IsLawful t) c.self.view_is c.self.invariant.lawful) in
    some_nameable c.self.inside.sub c.args.self.now c.self.inside.names c.self.view_is c.self.invariant c.args.ino c.in-Some.links.now c.in-Some.ensures c.as_slice-link-items.result.now c.as_slice-link-items.ensures
    c.loop-link.link-index c.link-item.result c.link-item.is c.loop-link-test.true law c.has_path.result c.if-has_path.true c.has_path.ensures

pub loop-link-preserved : goal.loop-link-preserved
loop-link-preserved g c =
    none_more c.self.inside.sub c.args.self.now c.self.inside.names c.self.view_is c.self.invariant c.args.ino c.in-Some.links.now c.in-Some.ensures c.as_slice-link-items.result.now c.as_slice-link-items.ensures
    c.loop-link.link-index c.link-item.result c.link-item.is c.loop-link-test.true c.has_path.result c.if-has_path.false c.has_path.ensures c.loop-link.invariant

pub returns : goal.returns
returns g c =
    let law = c.first_paths_are_least.ensures.least c.args.self.now (subst (λ t. IsLawful t) c.self.view_is c.self.invariant.lawful) in
    none_at_all c.self.inside.sub c.args.self.now c.self.inside.names c.self.view_is c.self.invariant c.args.ino c.in-Some.links.now c.in-Some.ensures c.as_slice-link-items.result.now c.as_slice-link-items.ensures
    law c.if-ino-eq-ROOT.false c.loop-link.link-index (omega (arith, c.loop-link-test.false)) c.loop-link.invariant
