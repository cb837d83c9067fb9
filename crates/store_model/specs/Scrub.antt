-- What `scrub` finds in an image: it goes through the groups and looks at their kinds and
-- checksums, and not at what they say. This program's own.
use Rattle.std.specs.Prelude.{◌≡◌, ◌≢◌, ◌⊎◌, ◌<◌, ℕ, zero, suc, List, [], ◌∷◌, ◌++◌, length, get_or, nat_lt, codes, if◌then◌else◌}
use Rattle.std.specs.List.{AllByRecursion, count_by}
use Rattle.std.specs.Int.{w32, from_le_bytes}
use Rattle.send_model.specs.Checksum.{crc_of}
use Rattle.send_model.specs.Answer.{and_number, line}
use Rattle.store_model.specs.Image.{Header, IsHeader, HasHeader, HasGroups, IsCutShort, IsShort, front_of, group_of, sealed}

-- The kinds that groups of an image of a format have: 1 to 6, and 1 to 3 in format 1 alone.
abbrev pub IsKind : ℕ → ℕ → Type 0
IsKind format kind = (0 < kind) × (kind < 7) × (kind < 4 → format ≡ 1)

-- The body of a group of a kind: those of kind 4 to 6 have a checksum.
abbrev pub body_with : ℕ → List ℕ → List ℕ
body_with kind rest = if nat_lt 3 kind then sealed (kind ∷ rest) else kind ∷ rest

abbrev pub IsWhole : ℕ → List ℕ → Type 0
IsWhole format body =
    (kind : ℕ) × (rest : List ℕ) × IsKind format kind × (body ≡ body_with kind rest)

-- How many of some bodies have no checksum.
abbrev pub unsealed : List (List ℕ) → ℕ
unsealed bodies = count_by (λ body. nat_lt (get_or body 0 0) 4) bodies

-- All groups are whole: so many, and so many without a checksum.
pub record IsScrubbed (image : List ℕ) (groups plain : ℕ) : Type 0 where
  pub header : Header
  pub bodies : List (List ℕ)
  pub has : HasGroups header bodies image
  pub whole : AllByRecursion (IsWhole header.format) bodies
  pub count : length bodies ≡ groups
  pub plain_count : unsealed bodies ≡ plain

-- A checksum stands behind a body, and is that of other bytes.
pub record IsDamaged (body : List ℕ) (stored computed : ℕ) : Type 0 where
  pub kind : ℕ
  pub rest : List ℕ
  pub sum : List ℕ
  pub new : (3 < kind) × (kind < 7)
  pub four : length sum ≡ 4
  pub bytes : body ≡ (kind ∷ rest) ++ sum
  pub stored_is : stored ≡ from_le_bytes w32 sum
  pub computed_is : computed ≡ crc_of 0 (kind ∷ rest)
  pub differs : stored ≢ computed

-- The body of no group: without a kind, of none that the format has, or too short for a checksum.
abbrev pub IsNone : ℕ → List ℕ → Type 0
IsNone format [] = Unit {0}
IsNone format (kind ∷ rest) = (IsKind format kind → ⊥) ⊎ (3 < kind) × (length rest < 4)

-- Behind so many whole groups stands a fault.
pub record FailsWith (fault : ℕ → List ℕ → Type 0) (image : List ℕ) (count : ℕ) : Type 0 where
  pub header : Header
  pub lawful : IsHeader header
  pub bodies : List (List ℕ)
  pub are : length bodies ≡ count
  pub lengths_fit : AllByRecursion IsShort bodies
  pub whole : AllByRecursion (IsWhole header.format) bodies
  pub rest : List ℕ
  pub bytes : image ≡ front_of header bodies ++ rest
  pub is : fault header.format rest

-- A group stands whole in front, and its body has a fault.
pub record HasBody (fault : List ℕ → Type 0) (rest : List ℕ) : Type 0 where
  pub body : List ℕ
  pub others : List ℕ
  pub short : IsShort body
  pub bytes : rest ≡ group_of body ++ others
  pub is : fault body

-- The first fault is that of this group: its checksum, or another one. The header counts as group
-- 0.
abbrev pub IsDamagedAt : List ℕ → ℕ → ℕ → ℕ → Type 0
IsDamagedAt image zero stored computed = ⊥
IsDamagedAt image (suc count) stored computed =
    FailsWith (λ format rest. HasBody (λ body. IsDamaged body stored computed) rest) image count

abbrev pub IsNoStoreAt : List ℕ → ℕ → Type 0
IsNoStoreAt image zero = HasHeader image → ⊥
IsNoStoreAt image (suc count) =
    FailsWith (λ format rest. IsCutShort rest ⊎ HasBody (IsNone format) rest) image count

-- What is printed where there is none.
unfoldable pub scrub_line : ℕ → ℕ → List ℕ
scrub_line groups plain = line (codes "scrub" ++ and_number groups ++ and_number plain)
