-- Past the bytes of one bit of their number.
use Rattle.std.proofs.Common.{◌≡◌, ℕ, ◌+◌, ◌*◌, ◌/◌, ◌^◌, ◌<◌, rules, refl, sym, ap, subst, ◌∙◌, arith, pow-suc, add-one}
use Rattle.send_model.specs.Checksum.{shifts}
use Rattle.group_replay.proofs.RowLaws.{past_set, past_clear, few_left, none_few}
use Rattle.group_replay.proofs.RowRule.{row_rule}
use Rattle.group_replay.proofs.sums.moved.Goals.{then-left-eq1, else-left-eq1}
use Rattle.group_replay.proofs.sums.moved.Goals as goal

pub loop-row-init : goal.loop-row-init
loop-row-init c = record { so_far = refl; word = search rules; few = c.requires }

pub loop-row-preserved : goal.loop-row-preserved
loop-row-preserved c =
    let i = c.loop-row.row-index in
    let left = c.loop-row.left in
    let out = c.loop-row.out in
    let so_far = c.loop-row.invariant.so_far in
    let few = few_left i left c.loop-row-test.true c.loop-row.invariant.few in
    let twice : 2 ^ (i + 1) ≡ 2 ^ i * 2 = rw (add-one, pow-suc) (omega arith) in
    elim c.if-left-eq1.branch [
      | then-left-eq1 w ↦ record {
        so_far = ap (shifts (8 * 2 ^ (i + 1) * (left / 2))) (w.out-is ∙ w.by_bits-out.ensures ∙ row_rule i out c.loop-row-test.true c.loop-row.invariant.word) ∙ past_set (2 ^ i) (2 ^ (i + 1)) out left twice w.if-left-eq1.true ∙ so_far;
        word = subst (λ (n : ℕ). n < 2 ^ 32) (sym w.out-is) w.by_bits-out.type_inv;
        few = few;
      }
      | else-left-eq1 w ↦ record {
        so_far = ap (shifts (8 * 2 ^ (i + 1) * (left / 2))) w.out-is ∙ past_clear (2 ^ i) (2 ^ (i + 1)) out left twice w.if-left-eq1.false ∙ so_far;
        word = subst (λ (n : ℕ). n < 2 ^ 32) (sym w.out-is) c.loop-row.invariant.word;
        few = few;
      }
    ]

pub returns : goal.returns
returns c = none_few c.loop-row.row-index c.loop-row.left c.loop-row.out c.loop-row-test.false c.loop-row.auto.row-index-end c.loop-row.invariant.few ∙ c.loop-row.invariant.so_far
