use Rattle.std.specs.Prelude.{◌≡◌, ℕ, ◌+◌, ◌-◌, List, length, take, drop}
use Rattle.std.proofs.Common.{rules, sym, ap, ◌∙◌, arith}
use borrow.Rule.Slice.PartMut.{put_mid}
use Rattle.group_replay.proofs.Refilled.{moved_front, filled_up}
use Rattle.group_replay.proofs.window.refill.Goals as goal

pub returns-clause-shows : goal.returns-clause-shows
returns-clause-shows g c tells shows =
    let D = g.D.Disk in
    let window = c.args.window.now in
    let moved = c.copy_within.new.self in
    let bytes = c.read.new.buf in
    let more = c.min-more.result in
    let kept : ℕ = c.args.ahead.have - c.args.ahead.used in
    let part : ℕ = kept + more - kept in
    let at = c.args.ahead.at in
    let begun = c.requires.ahead.begun in
    let fits = c.requires.ahead.fits in
    let same = (c.read.ensures.same tells).seen in
    let size : length bytes ≡ more = search rules in
    let front : take kept moved ≡ take kept (drop at (D.seen c.args.disk.now)) = moved_front window moved c.args.ahead.used kept (omega (arith, begun, fits)) c.copy_within.ensures.after ∙ shows in
    let read : bytes ≡ take more (drop (at + kept) (D.seen c.args.disk.now)) = c.in_ok-read.ensures.bytes tells ∙ ap (λ (n : ℕ). take n (drop (at + kept) (D.seen c.args.disk.now))) size in
    let whole : ℕ = kept + more - 0 in
    let all : whole ≡ kept + more = omega arith in
    let up : take (kept + more) (put_mid kept part moved bytes) ≡ take (kept + more) (drop at (D.seen c.read.new.disk)) =
    filled_up moved bytes (D.seen c.args.disk.now) kept part more at (omega (arith, begun, fits, c.copy_within.ensures.len)) size front read
    ∙ ap (λ (l : List ℕ). take (kept + more) (drop at l)) (sym same) in
    ap (λ (n : ℕ). take n (put_mid kept part moved bytes)) all ∙ up ∙ ap (λ (n : ℕ). take n (drop at (D.seen c.read.new.disk))) (sym all)
