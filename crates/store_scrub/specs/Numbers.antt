-- The numbers of the kinds of groups, their first bytes, as `number_of` of `store_model` has them
-- for what groups say.
use Rattle.std.specs.Prelude.{◌≡◌, ℕ, Bool, false, if◌then◌else◌}
use Rattle.store_scrub.specs.declared.kinds.GroupKind.{GroupKind}
use Rattle.store_scrub.specs.declared.kinds.GroupKind.TheVariants.{Mark, Edits, Drop}

-- Groups with a checksum have numbers of their own.
abbrev pub number : Bool → GroupKind → ℕ
number is_sealed Mark = if is_sealed then 4 else 1
number is_sealed Edits = if is_sealed then 5 else 2
number is_sealed Drop = if is_sealed then 6 else 3

-- In a journal of a format this first byte says this kind, and whether the group ends with a
-- checksum. Groups without one stand in format 1 alone.
pub record Names (format first : ℕ) (kind : GroupKind) (is_sealed : Bool) : Type 0 where
  pub is : first ≡ number is_sealed kind
  pub old : is_sealed ≡ false → format ≡ 1
