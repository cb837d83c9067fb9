-- A block more is moved.
use Rattle.std.proofs.Common.{arith, ◌+◌, ◌-◌, ◌*◌, ◌/◌, ◌++◌, length, take, drop, get_or, [], ◌∙◌, sym, ap, ℕ, List, length-drop, length-append}
use Rattle.std.proofs.lemmas.List.{take_rest, length-take-le}
use Rattle.std.specs.List.{concat}
use Rattle.crc32c_part.specs.FoldedSums.{folded_sum}
use Rattle.crc32c_part.proofs.Pieces.{blocks_and_rest, piece_first, no_piece}
use Rattle.crc32c_part.proofs.folding.by_folding.Goals as goal

pub loop-block-init : goal.loop-block-init
loop-block-init c =
    let some : ℕ = length c.args.bytes.now - 1672 in
    let front : List ℕ = take some c.args.bytes.now in
    record {
      low = omega arith;
      high = omega arith;
      same =
          ap (folded_sum 0 (take 209 c.begin.new.words))
          (blocks_and_rest c.as_chunks.result.0.now c.args.bytes.now (length front / 512) some c.as_chunks.ensures.front c.as_chunks.ensures.front_len
          (omega (arith, length-take-le some c.args.bytes.now (omega arith))))
          ∙ c.begin.ensures c.args.bytes.now;
    }

pub loop-block-preserved : goal.loop-block-preserved
loop-block-preserved c =
    let blocks : List (List ℕ) = c.as_chunks.result.0.now in
    let last : List ℕ = drop (512 * length blocks) c.args.bytes.now in
    let rest : List ℕ = concat (drop (c.loop-block.block-index + 1) blocks) ++ last in
    record {
      low = omega arith;
      high = omega arith;
      same =
          c.move_block.ensures rest
          (omega (arith, length-append (concat (drop (c.loop-block.block-index + 1) blocks)) last, length-drop (512 * length blocks) c.args.bytes.now, c.as_chunks.ensures.front_len, length-take-le (length c.args.bytes.now - 1672) c.args.bytes.now (omega arith)))
          ∙ c.with_room-start.ensures.same (get_or blocks c.loop-block.block-index [] ++ rest)
          ∙ ap (folded_sum 0 (take c.loop-block.end c.loop-block.words)) (sym (piece_first blocks c.loop-block.block-index last c.loop-block-test.true))
          ∙ c.loop-block.invariant.same;
    }

pub returns : goal.returns
returns c =
    let blocks : List (List ℕ) = c.as_chunks.result.0.now in
    let last : List ℕ = drop (512 * length blocks) c.args.bytes.now in
    c.sum_rest.ensures
    ∙ ap (folded_sum 0 (take c.with_room-start-2.result c.with_room-start-2.new.words)) (take_rest c.args.bytes.now (512 * length blocks))
    ∙ c.with_room-start-2.ensures.same last
    ∙ ap (folded_sum 0 (take c.loop-block.end c.loop-block.words)) (sym (no_piece blocks c.loop-block.block-index last c.loop-block-test.false))
    ∙ c.loop-block.invariant.same
