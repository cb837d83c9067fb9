use Rattle.std.proofs.Common.{rules, ◌≡◌, ◌%◌, ◌≤◌, length, [], refl, sym, append-nil}
use Rattle.sx_base.proofs.KeptFronts.{kept_then}
use Rattle.stream_text.proofs.HexTexts.{odd_is_none, piece_is_none, hex_next}
use Rattle.stream_text.proofs.glyphs.unhex_into.Goals as goal

pub returns-then-text-ne0-clause-read : goal.returns-then-text-ne0-clause-read
returns-then-text-ne0-clause-read c = odd_is_none c.args.text.now c.if-text-ne0.true

pub loop-at-init : goal.loop-at-init
loop-at-init c = record {
  within = search rules;
  even = refl;
  read = record { bytes = []; are = tt; says = refl; added = sym (append-nil c.args.to.now) };
  kept = ([], sym (append-nil c.args.to.now));
}

pub returns-then-not-fill_bytes-clause-read : goal.returns-then-not-fill_bytes-clause-read
returns-then-not-fill_bytes-clause-read c =
    let low : c.loop-at.at ≤ c.min.result = search rules in
    let last : c.min.result % 2 ≡ 0 = search rules in
    piece_is_none c.args.text.now [] c.loop-at.at c.min.result low c.loop-at.invariant.even last c.if-not-fill_bytes.ensures.read

pub loop-at-preserved : goal.loop-at-preserved
loop-at-preserved c =
    let low : c.loop-at.at ≤ c.min.result = search rules in
    let within : c.min.result ≤ length c.args.text.now = search rules in
    record {
      within = search rules;
      even = search rules;
      read = hex_next c.args.text.now c.args.to.now c.loop-at.to c.push_all.new.self _ c.loop-at.at c.min.result low within c.loop-at.invariant.read c.if-not-fill_bytes.ensures.read c.in_ok-push_all.ensures.appended;
      kept = kept_then c.args.to.now c.loop-at.to c.push_all.new.self c.loop-at.invariant.kept (_, c.in_ok-push_all.ensures.appended);
    }
