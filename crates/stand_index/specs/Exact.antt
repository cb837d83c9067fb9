-- Sources that compare as equal are the same.
use Rattle.std.proofs.Common.{◌≡◌, ℕ, List, [], ◌∷◌, ap, arith, refl, ◌∙◌}
use Rattle.std.specs.declared.cmp.Ordering.{Ordering}
use Rattle.std.specs.declared.cmp.Ordering.TheVariants.{Less, Equal, Greater}
use Rattle.std.specs.Cmp.Lexicographic.{slice_cmp}
use Rattle.std.specs.Ordering.{nat_cmp, ordering_then}
use Rattle.stand_index.specs.declared.source.OutsideFile.{OutsideFile}

pub numbers_exact : (a b : ℕ) → nat_cmp a b ≡ Equal → a ≡ b
numbers_exact a b e = grind arith

apart : {A : Type 0} (o : Ordering) → o ≡ Equal → (o ≡ Less → A) × (o ≡ Greater → A)
apart o is = (λ less. cc, λ more. cc)

both_equal : (o r : Ordering) → ordering_then o r ≡ Equal → (o ≡ Equal) × (r ≡ Equal)
both_equal Less r e = cc
both_equal Equal r e = (refl, e)
both_equal Greater r e = cc

bytes_exact : (a b : List ℕ) → slice_cmp nat_cmp a b ≡ Equal → a ≡ b
bytes_exact [] [] e = refl
bytes_exact [] (y ∷ ys) e = cc
bytes_exact (x ∷ xs) [] e = cc
bytes_exact (x ∷ xs) (y ∷ ys) e =
    let p = both_equal (nat_cmp x y) (slice_cmp nat_cmp xs ys) e in
    ap (λ (n : ℕ). n ∷ xs) (numbers_exact x y p.0) ∙ ap (λ (ns : List ℕ). y ∷ ns) (bytes_exact xs ys p.1)

abbrev file_cmp : OutsideFile → OutsideFile → Ordering
file_cmp a b = ordering_then (slice_cmp nat_cmp a.uuid b.uuid) (ordering_then (nat_cmp a.ctransid b.ctransid) (nat_cmp a.ino b.ino))

pub files_exact : (a b : OutsideFile) → file_cmp a b ≡ Equal → a ≡ b
files_exact a b e =
    let p = both_equal (slice_cmp nat_cmp a.uuid b.uuid) _ e in
    let q = both_equal (nat_cmp a.ctransid b.ctransid) _ p.1 in
    ap (λ (u : List ℕ). made u a.ctransid a.ino) (bytes_exact a.uuid b.uuid p.0)
    ∙ ap (λ (n : ℕ). made b.uuid n a.ino) (numbers_exact a.ctransid b.ctransid q.0) ∙ ap (λ (n : ℕ). made b.uuid b.ctransid n) (numbers_exact a.ino b.ino q.1)
  where
    made : List ℕ → ℕ → ℕ → OutsideFile
    made uuid ctransid ino = record { uuid = uuid; ctransid = ctransid; ino = ino }
