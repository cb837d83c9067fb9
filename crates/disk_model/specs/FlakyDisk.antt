-- What a disk that fails now and then is seen as.
use Rattle.std.specs.Prelude.{◌≡◌, ℕ, Bool, ◌+◌, ◌-◌, ◌^◌, ◌==◌, min, List}
use Rattle.std.specs.List.{list_any}

-- The disk inside, the numbers of the calls that are to fail, counted from 1, how many calls there
-- were, and how many of these failed because they were to.
pub record Flaky (D : Type 0) : Type 0 where
  pub disk : D
  pub failing : List ℕ
  pub calls : ℕ
  pub stopped : ℕ

-- a call of this number is to fail
abbrev pub is_listed : List ℕ → ℕ → Bool
is_listed failing call = list_any (λ number. number == call) failing

-- One call more was made. A count that stands at the greatest u64 stays.
pub record CountsCall {D : Type 0} (old new : Flaky D) : Type 0 where
  pub calls : new.calls ≡ min (old.calls + 1) (2 ^ 64 - 1)
  pub failing : new.failing ≡ old.failing

-- what is said of the disk inside
abbrev pub within : {D X : Type 0} → (D → X) → Flaky D → X
within word flaky = word flaky.disk

-- what a crash since some moment may have left of the disk inside
abbrev pub left_within : {D : Type 0} → (D → ℕ → List ℕ → Type 0) → Flaky D → ℕ → List ℕ → Type 0
left_within left_since flaky = left_since flaky.disk

-- how often a call failed: because it was to, or in the disk inside
abbrev pub faults_within : {D : Type 0} → (D → ℕ) → Flaky D → ℕ
faults_within faults flaky = flaky.stopped + faults flaky.disk
