-- A word more is moved.
use Rattle.std.proofs.Common.{length, get_or, [], ◌/◌, ◌∙◌, arith, List, ℕ}
use Rattle.crc32c_part.proofs.Pieces.{eight_at}
use Rattle.crc32c_part.proofs.FoldSteps.{IsNext, moved_more}
use Rattle.crc32c_part.proofs.folding.move_block.Goals as goal

pub loop-k-preserved : goal.loop-k-preserved
loop-k-preserved c = λ rest long.
    let words : List ℕ = c.loop-k.words in
    let bytes : List ℕ = c.args.block.now in
    let eight : List ℕ = get_or c.as_chunks.result.0.now c.loop-k.k [] in
    let next : IsNext words bytes eight c.args.start c.loop-k.k c.from_le_bytes.result c.arriving_at.result = record {
      enough = c.requires.low;
      within = omega arith;
      cut = eight_at c.as_chunks.result.0.now (length bytes / 8) c.loop-k.k bytes c.as_chunks.ensures.front (omega arith);
      in_bytes = omega arith;
      are_bytes = c.fits-block;
      read = c.from_le_bytes.ensures;
      comes = c.arriving_at.ensures;
      small = (c.from_le_bytes.type_inv, c.arriving_at.type_inv);
    } in
    moved_more words bytes eight c.args.start c.loop-k.k c.from_le_bytes.result c.arriving_at.result next rest long
    ∙ c.loop-k.invariant rest long
