-- The opening of a long name, and of a short one.
use Rattle.std.proofs.Common.{ℕ, ◌<◌, ◌≤◌, List, length, ◌++◌, drop, replicate, refl, sym, ap, subst, rules}
use Rattle.inode_tree.specs.Openings.{byte_at, IsOpening}
use Rattle.inode_tree.proofs.OpeningLaws.{long_opening, short_opening, short_taken}
use Rattle.inode_tree.proofs.name.Name.new.Goals as goal

pub invariant_of-result : goal.invariant_of-result
invariant_of-result c =
    let name = c.args.name.now in
    let opening = c.copy_from_slice.new.self in
    let small : (place : ℕ) → byte_at name place < 256 = search rules in
    subst (λ b. IsOpening b opening 0) (sym c.in_ok-bytes.ensures.ok) (long_opening name opening small c.copy_from_slice.ensures.after)

pub invariant_of-result-2 : goal.invariant_of-result-2
invariant_of-result-2 c =
    let name = c.args.name.now in
    let rest : List ℕ = drop (length name) (replicate 16 0) in
    let opening = c.copy_from_slice-2.new.self ++ rest in
    let small : (place : ℕ) → byte_at name place < 256 = search rules in
    let short : length name ≤ 16 = search rules in
    let is = ap (λ (n : List ℕ). n ++ rest) c.copy_from_slice-2.ensures.after in
    subst (λ b. IsOpening b opening (length name)) (sym (short_taken name opening (length name) refl is)) (short_opening name opening (length name) small refl short is)
