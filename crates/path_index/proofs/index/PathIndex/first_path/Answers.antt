use Rattle.std.proofs.Common.{take, arith, rules, subst}
use Rattle.send_model.specs.Subvolume.{IsLawful}
use Rattle.path_index.specs.Places.{places_of}
use Rattle.path_index.proofs.Lookups.{place_there, least_more, least_at_all, root_path, no_path, least_short}
use Rattle.path_index.proofs.index.PathIndex.first_path.Goals as goal

pub returns-then-ino-eq-ROOT-clause-first : goal.returns-then-ino-eq-ROOT-clause-first
returns-then-ino-eq-ROOT-clause-first g c =
    let law = c.first_paths_are_least.ensures.least c.args.self.now (subst (λ t. IsLawful t) c.self.view_is c.self.invariant.lawful) in
    root_path c.self.inside.sub c.args.self.now c.self.inside.names c.self.view_is c.self.invariant law c.args.ino c.if-ino-eq-ROOT.true c.new.result c.new.ensures.empty

pub returns-in_default-clause-first : goal.returns-in_default-clause-first
returns-in_default-clause-first g c =
    let law = c.first_paths_are_least.ensures.least c.args.self.now (subst (λ t. IsLawful t) c.self.view_is c.self.invariant.lawful) in
    no_path c.self.inside.sub c.args.self.now c.self.inside.names c.self.view_is c.self.invariant law c.args.ino c.if-ino-eq-ROOT.false c.in_default.ensures

pub lesser_by-requires-clause-there : goal.lesser_by-requires-clause-there
lesser_by-requires-clause-there g c =
    place_there c.self.inside.sub c.args.self.now c.self.inside.names c.self.view_is c.self.invariant c.args.ino c.in-Some.links.now c.in-Some.ensures c.as_slice-link-items.result.now c.as_slice-link-items.ensures
    c.loop-link.link-index c.link-item.result c.link-item.is c.loop-link-test.true

pub loop-link-preserved : goal.loop-link-preserved
loop-link-preserved g c = record {
  room = search rules;
  least = least_more c.self.inside.sub c.args.self.now c.self.inside.names c.self.view_is c.self.invariant c.args.ino c.in-Some.links.now c.in-Some.ensures c.as_slice-link-items.result.now c.as_slice-link-items.ensures
      c.loop-link.link-index c.link-item.result c.link-item.is c.loop-link-test.true c.loop-link.least c.in_ok-least.least c.in_ok-least.ensures c.loop-link.invariant.least;
}

pub returns-clause-first : goal.returns-clause-first
returns-clause-first g c =
    let law = c.first_paths_are_least.ensures.least c.args.self.now (subst (λ t. IsLawful t) c.self.view_is c.self.invariant.lawful) in
    least_at_all c.self.inside.sub c.args.self.now c.self.inside.names c.self.view_is c.self.invariant c.args.ino c.in-Some.links.now c.in-Some.ensures c.as_slice-link-items.result.now c.as_slice-link-items.ensures
    law c.if-ino-eq-ROOT.false c.loop-link.link-index (omega (arith, c.loop-link-test.false)) c.loop-link.least c.loop-link.invariant.least

pub returns-clause-short : goal.returns-clause-short
returns-clause-short g c = least_short c.args.self.now c.args.ino (take c.loop-link.link-index (places_of c.args.self.now.names c.args.ino)) c.loop-link.least c.loop-link.invariant.least
