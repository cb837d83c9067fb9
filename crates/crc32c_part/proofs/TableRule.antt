-- What stands in the tables, which the checker computes.
use Rattle.std.proofs.Common.{◌≡◌, ℕ, zero, suc, ◌+◌, ◌*◌, ◌<◌, List, [], ◌∷◌, map, length, get_or, refl, sym, ap, ◌∙◌, arith}
use Rattle.send_model.specs.Checksum.{shift, shifts}
use Rattle.send_model.proofs.ChecksumLaws.{shifts-add}
use Rattle.crc32c_part.specs.declared.tables.TheConstants.{TABLES}

-- `count` numbers from `first` on.
numbers : ℕ → ℕ → List ℕ
numbers zero first = []
numbers (suc count) first = first ∷ numbers count (suc first)

-- `count` rows, each the one before it after eight steps more.
rows : ℕ → List ℕ → List (List ℕ)
rows zero row = []
rows (suc count) row = map (shifts 8) row ∷ rows count (map (shifts 8) row)

tables_are : TABLES ≡ rows 16 (numbers 256 0)
unfolding shift shifts rows numbers
tables_are = refl

numbers_at : (count first n : ℕ) → n < count → get_or (numbers count first) n 0 ≡ first + n
unfolding numbers
numbers_at zero first n below = absurd (omega arith)
numbers_at (suc count) first zero below = omega arith
numbers_at (suc count) first (suc n) below = numbers_at count (suc first) n (omega arith) ∙ omega arith

numbers_long : (count first : ℕ) → length (numbers count first) ≡ count
unfolding numbers
numbers_long zero first = refl
numbers_long (suc count) first = ap (λ (n : ℕ). suc n) (numbers_long count (suc first))

map_long : (f : ℕ → ℕ) (row : List ℕ) → length (map f row) ≡ length row
map_long f [] = refl
map_long f (x ∷ row) = ap (λ (n : ℕ). suc n) (map_long f row)

map_at : (f : ℕ → ℕ) (row : List ℕ) (n : ℕ) → n < length row → get_or (map f row) n 0 ≡ f (get_or row n 0)
map_at f [] n below = absurd (omega arith)
map_at f (x ∷ row) zero below = refl
map_at f (x ∷ row) (suc n) below = map_at f row n (omega arith)

rows_at : (count : ℕ) (row : List ℕ) (k n : ℕ) → k < count → n < length row →
    get_or (get_or (rows count row) k []) n 0 ≡ shifts (8 * suc k) (get_or row n 0)
unfolding rows
rows_at zero row k n in_rows in_row = absurd (omega arith)
rows_at (suc count) row zero n in_rows in_row = map_at (shifts 8) row n in_row
rows_at (suc count) row (suc k) n in_rows in_row =
    rows_at count (map (shifts 8) row) k n (omega arith) (rw map_long in_row)
    ∙ ap (shifts (8 * suc k)) (map_at (shifts 8) row n in_row)
    ∙ sym (shifts-add 8 (8 * suc k) (get_or row n 0))
    ∙ ap (λ (steps : ℕ). shifts steps (get_or row n 0)) (omega arith)

-- The rule of the tables.
pub table_rule : (k n : ℕ) → k < 16 → n < 256 → get_or (get_or TABLES k []) n 0 ≡ shifts (8 * suc k) n
table_rule k n in_rows is_byte =
    ap (λ (tables : List (List ℕ)). get_or (get_or tables k []) n 0) tables_are
    ∙ rows_at 16 (numbers 256 0) k n in_rows (rw numbers_long is_byte)
    ∙ ap (shifts (8 * suc k)) (numbers_at 256 0 n is_byte ∙ omega arith)
