use Rattle.std.proofs.Common.{rules, ◌≡◌, ◌+◌, ◌*◌, ◌/◌, ◌%◌, ◌<◌, ◌≤◌, length, max, arith}
use Rattle.stream_text.proofs.Digits.{fill_next, bytes_next, wrong_next, filled}
use Rattle.stream_text.proofs.glyphs.fill_bytes.Goals as goal

pub loop-place-preserved : goal.loop-place-preserved
loop-place-preserved c =
    let within : 2 * c.loop-place.place + 1 < length c.args.text.now = search rules in
    let room : c.loop-place.place < length c.loop-place.bytes = search rules in
    let most : c.max-worst.result ≡ max (max c.loop-place.worst c.digit_of-high.result) c.digit_of-low.result = search rules in
    record {
      few = search rules;
      bytes = bytes_next c.loop-place.place (c.digit_of-high.result % 16 * 16 + c.digit_of-low.result % 16) c.loop-place.bytes room (omega arith) c.loop-place.invariant.bytes;
      right = λ small.
          fill_next c.loop-place.place c.digit_of-high.result c.digit_of-low.result c.args.text.now c.loop-place.bytes room within c.digit_of-high.ensures.value c.digit_of-low.ensures.value
          (omega (arith, most, small)) (omega (arith, most, small)) (c.loop-place.invariant.right (omega (arith, most, small)));
      wrong = λ great. wrong_next c.loop-place.place c.loop-place.worst c.digit_of-high.result c.digit_of-low.result c.max-worst.result c.args.text.now c.digit_of-high.ensures.few c.digit_of-low.ensures.few most c.digit_of-high.ensures.value c.digit_of-low.ensures.value c.loop-place.invariant.wrong great;
    }

pub returns : goal.returns
returns c =
    let past : length c.args.text.now / 2 ≤ c.loop-place.place = search rules in
    let end : c.loop-place.place ≤ length c.args.text.now / 2 = search rules in
    record {
      read = filled c.args.text.now c.loop-place.bytes c.loop-place.place c.loop-place.worst (omega (arith, past, end)) c.requires.even
          c.loop-place.invariant.bytes c.loop-place.invariant.right c.loop-place.invariant.wrong;
    }
