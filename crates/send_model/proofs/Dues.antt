-- The answer of compose is the verdict on the files, unless a file is too long or there is too
-- much.
use Rattle.std.specs.Prelude.{ℕ, List, Option}
use Rattle.send_model.specs.Reading.{Reading, input}
use Rattle.send_model.specs.Lengths.{too_long}
use Rattle.send_model.specs.Store.{Store}
use Rattle.send_model.specs.Outside.{part_uuids}
use Rattle.send_model.specs.Provenance.{traced_store, ranges_from, uncarried_in}
use Rattle.send_model.specs.Due.{uncarried_of, due_from, IsJudgedOf, IsJudged}
use Rattle.send_model.proofs.Tracing.{untraced_store}
use Rattle.send_model.proofs.UncarriedSums.{nothing_uncarried, uncarried_split}
use Rattle.send_model.proofs.TracedCells.{traced}
use Rattle.send_model.proofs.DuesAny.{judged_by}

pub is_judged_of : (long : Option ℕ) (base : Store ℕ) (reading : Reading) → IsJudgedOf long base reading
unfolding due_from
is_judged_of long base reading =
    let parts : List (List ℕ) = part_uuids reading.items in
    judged_by traced (uncarried_of base parts) (λ state current items. uncarried_in base (ranges_from parts state current items)) (nothing_uncarried base parts) (uncarried_split base parts) base (traced_store base) (untraced_store base) long reading

-- And of files.
pub is_judged : (base : Store ℕ) (files : List (List ℕ)) → IsJudged base files
is_judged base files = is_judged_of (too_long files) base (input files)
