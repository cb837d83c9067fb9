-- The objects of the outside that stand in memory.
use Rattle.std.specs.Prelude.{ℕ, ◌+◌, ◌-◌, ◌^◌, ◌==◌, min, Bool, List}
use Rattle.std.specs.List.{list_any}

-- A count that ends at the greatest u64.
abbrev pub next_count : ℕ → ℕ
next_count n = min (n + 1) (2 ^ 64 - 1)

-- The call of this number is one of those that are to fail.
abbrev pub is_listed : List ℕ → ℕ → Bool
is_listed failing call = list_any (λ n. n == call) failing

-- Inputs in memory: their files, the numbers of the calls that are to fail, and how many calls and
-- faults there were.
pub record Files : Type 0 where
  pub files : List (List ℕ × List ℕ)
  pub failing : List ℕ
  pub calls : ℕ
  pub faults : ℕ

-- A sink in memory: the bytes that it took, the numbers of the calls that are to fail, and how many
-- calls, calls without memory, and faults there were.
pub record Taken : Type 0 where
  pub bytes : List ℕ
  pub failing : List ℕ
  pub calls : ℕ
  pub refused : ℕ
  pub faults : ℕ
