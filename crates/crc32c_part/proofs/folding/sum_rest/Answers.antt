-- A word more is summed.
use Rattle.std.proofs.Common.{◌≡◌, arith, ◌+◌, ◌-◌, ◌*◌, ◌/◌, length, take, drop, get_or, [], ◌∙◌, refl, sym, ap, ℕ, List}
use Rattle.send_model.specs.Checksum.{crc_of}
use Rattle.send_model.proofs.ChecksumLaws.{crc_of-end}
use Rattle.std.proofs.lemmas.List.{take_rest, length-set}
use Rattle.crc32c_part.specs.FoldedSums.{folded_sum}
use Rattle.crc32c_part.proofs.Pieces.{eight_at}
use Rattle.crc32c_part.proofs.FoldSteps.{IsNext, summed_more, summed_all}
use Rattle.crc32c_part.proofs.folding.sum_rest.Goals as goal

pub loop-k-init : goal.loop-k-init
loop-k-init c =
    let place : c.args.start + 0 ≡ c.args.start = omega arith in
    record {
      long = refl;
      same =
          ap (λ (n : ℕ). folded_sum (crc_of 0 []) (take n c.clear_behind.new.words) c.args.bytes.now) place
          ∙ ap (λ (x : ℕ). folded_sum x (take c.args.start c.clear_behind.new.words) c.args.bytes.now) (crc_of-end 0 [] 0 (omega arith))
          ∙ ap (λ (moved : List ℕ). folded_sum 0 moved c.args.bytes.now) c.clear_behind.ensures.same;
    }

pub loop-k-preserved : goal.loop-k-preserved
loop-k-preserved c =
    let words : List ℕ = c.clear_behind.new.words in
    let bytes : List ℕ = c.args.bytes.now in
    let eight : List ℕ = get_or c.as_chunks.result.0.now c.loop-k.k [] in
    let next : IsNext words bytes eight c.args.start c.loop-k.k c.from_le_bytes.result c.arriving_at.result = record {
      enough = c.requires.low;
      within = omega arith;
      cut = eight_at c.as_chunks.result.0.now (length bytes / 8) c.loop-k.k bytes c.as_chunks.ensures.front (omega arith);
      in_bytes = omega arith;
      are_bytes = λ i. (c.type_inv.bytes i).fits;
      read = c.from_le_bytes.ensures;
      comes = c.arriving_at.ensures;
      small = (c.from_le_bytes.type_inv, c.arriving_at.type_inv);
    } in
    record {
      long = length-set c.loop-k.spelled c.loop-k.k c.to_le_bytes.result ∙ c.loop-k.invariant.long;
      same =
          summed_more words bytes eight c.args.start c.loop-k.k c.from_le_bytes.result c.arriving_at.result next
          (c.clear_behind.ensures.zeros c.loop-k.k c.loop-k-test.true) c.loop-k.spelled c.to_le_bytes.result (omega arith) c.to_le_bytes.ensures
          ∙ c.loop-k.invariant.same;
    }

pub returns : goal.returns
returns c =
    let words : List ℕ = c.clear_behind.new.words in
    let bytes : List ℕ = c.args.bytes.now in
    let all : c.loop-k.k ≡ 209 = omega arith in
    let place : 1672 ≡ 8 * c.loop-k.k = omega arith in
    let last : take (length bytes - 1672) (drop 1672 bytes) ≡ drop (8 * c.loop-k.k) bytes =
    take_rest bytes 1672 ∙ ap (λ (n : ℕ). drop n bytes) place in
    c.by_tables-2.ensures
    ∙ ap (crc_of c.by_tables.result) last
    ∙ ap (λ (sum : ℕ). crc_of sum (drop (8 * c.loop-k.k) bytes)) (c.by_tables.ensures ∙ ap (crc_of 0) c.as_flattened.ensures.value)
    ∙ sym (summed_all words bytes c.loop-k.spelled c.args.start c.loop-k.k all (c.loop-k.invariant.long ∙ sym all) (omega arith)
    (λ k below. c.clear_behind.ensures.zeros k (omega arith)))
    ∙ c.loop-k.invariant.same
