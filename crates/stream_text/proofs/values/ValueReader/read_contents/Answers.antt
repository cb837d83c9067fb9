use Rattle.std.proofs.Common.{Bool, true, false, subst}
use Rattle.stream_text.specs.ValueReading.{ReadsHex, AddsAttribute}
use Rattle.stream_text.proofs.Contents.{hex_end}
use Rattle.stream_text.proofs.values.ValueReader.read_contents.Goals as goal

pub returns-then-not-branch-2-clause-read : goal.returns-then-not-branch-2-clause-read
returns-then-not-branch-2-clause-read c =
    hex_end c.args.frame.now.version c.args.kind c.args.text.now c.clear.new.self c.unhex_into.new.to c.as_slice.result.now c.args.to.now c.add.new.to c.requires.form c.requires.contents c.clear.ensures.empty c.as_slice.ensures.bytes
    (subst (λ (b : Bool). ReadsHex c.args.text.now c.clear.new.self c.unhex_into.new.to b) c.if-not-branch.false c.in_ok-unhex_into.ensures.read) false
    (subst (λ (b : Bool). AddsAttribute c.args.frame.now.version c.args.kind c.as_slice.result.now c.args.to.now c.add.new.to b) c.if-not-branch-2.true c.in_ok-add.ensures.added)

pub returns-clause-read : goal.returns-clause-read
returns-clause-read c =
    hex_end c.args.frame.now.version c.args.kind c.args.text.now c.clear.new.self c.unhex_into.new.to c.as_slice.result.now c.args.to.now c.add.new.to c.requires.form c.requires.contents c.clear.ensures.empty c.as_slice.ensures.bytes
    (subst (λ (b : Bool). ReadsHex c.args.text.now c.clear.new.self c.unhex_into.new.to b) c.if-not-branch.false c.in_ok-unhex_into.ensures.read) true
    (subst (λ (b : Bool). AddsAttribute c.args.frame.now.version c.args.kind c.as_slice.result.now c.args.to.now c.add.new.to b) c.if-not-branch-2.false c.in_ok-add.ensures.added)
