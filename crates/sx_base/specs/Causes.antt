-- When an object of the outside may say that it failed: a count of its faults never falls, and it
-- answers Failed only where this count rose in the call. A count that stands at the greatest u64
-- counts as risen.
use Rattle.std.specs.Prelude.{◌≡◌, ℕ, ◌+◌, ◌-◌, ◌^◌, ◌≤◌, min, Result, OnOk, OnErr}

abbrev pub Rose : ℕ → ℕ → Type 0
Rose before now = min (before + 1) (2 ^ 64 - 1) ≤ now

-- The count did not fall, and an error has its cause in it.
pub record HasCause {T E : Type 0} (before now : ℕ) (result : Result T E) : Type 0 where
  pub later : before ≤ now
  pub failed : OnErr result (Rose before now)

-- A call that did what it was asked leaves a count as it was: no object may fail in it, and be
-- asked again.
abbrev pub Steady : {T E : Type 0} → ℕ → ℕ → Result T E → Type 0
Steady before now result = OnOk result (now ≡ before)

-- How often a file ended too early, how often what is read failed, and how often the output failed.
pub record Counts : Type 0 where
  pub ends : ℕ
  pub reads : ℕ
  pub writes : ℕ

abbrev pub counts : (ends reads writes : ℕ) → Counts
counts ends reads writes = record { ends = ends; reads = reads; writes = writes }
