-- The image of a store: a header, and behind it a journal of groups, each behind a gate byte. A
-- group counts if its gate stands open, which is the byte 1; at any other byte the journal ends,
-- and what lies behind means nothing. Numbers stand least byte first. The format is this program's
-- own.
use Rattle.std.specs.Prelude.{◌≡◌, ◌≢◌, ◌⊎◌, ℕ, zero, suc, ◌+◌, ◌-◌, ◌^◌, ◌<◌, min, List, [], ◌∷◌, ◌++◌, length, take, flat_map, codes, refl}
use Rattle.std.specs.List.{AllByRecursion}
use Rattle.std.specs.Int.{w32, w64, to_le_bytes, from_le_bytes}
use Rattle.std.proofs.Common.{lit<, inr}
use Rattle.send_model.specs.Checksum.{shift, shifts, crc_byte, crc_of}

-- What a header says: the number of the format, and a number that limits the size.
pub record Header : Type 0 where
  pub format : ℕ
  pub number : ℕ

-- There are two formats, and new images have format 2. Whether a group ends with a checksum of its
-- body is said by the body's first byte: 1 to 3 have none, and stand in images of format 1 alone; 4
-- to 6 have one, and stand in images of both. That is a rule for bodies, which are the store's:
-- nothing is asked of them here.
pub record IsHeader (header : Header) : Type 0 where
  pub format : (header.format ≡ 1) ⊎ (header.format ≡ 2)
  pub number_fits : header.number < 2 ^ 64

-- A header's bytes: a text and the number of the format in four bytes, and in eight bytes the
-- number that limits the size.
abbrev pub start_of : ℕ → List ℕ
start_of format = codes "sndstore" ++ to_le_bytes w32 format

abbrev pub header_of : Header → List ℕ
header_of header = start_of header.format ++ to_le_bytes w64 header.number

-- The greatest size of a store with this header.
abbrev pub limit_of : Header → ℕ
limit_of header = min header.number (2 ^ 63 - 1)

-- The header that a new store has.
abbrev pub usual_header : Header
usual_header = record { format = 2; number = 2 ^ 40 }

-- A group with this body: an open gate, the length of the body in eight bytes, and the body.
abbrev pub group_of : List ℕ → List ℕ
group_of body = (1 ∷ to_le_bytes w64 (length body)) ++ body

-- What a new group has as its body: bytes, and behind them in four bytes the checksum of all of
-- them.
abbrev pub sealed : List ℕ → List ℕ
sealed bytes = bytes ++ to_le_bytes w32 (crc_of 0 bytes)

-- The room that stays free behind what was put into a group: for its checksum, four bytes, and for
-- the next gate.
abbrev pub reserve : ℕ
reserve = 5

-- A header and groups: all that stands before the first closed gate.
abbrev pub front_of : Header → List (List ℕ) → List ℕ
front_of header bodies = header_of header ++ flat_map group_of bodies

abbrev pub IsShort : List ℕ → Type 0
IsShort body = length body < 2 ^ 64

-- The image of a store with this header and exactly the groups that have these bodies.
pub record HasGroups (header : Header) (bodies : List (List ℕ)) (image : List ℕ) : Type 0 where
  pub gate : ℕ
  pub rest : List ℕ
  pub closed : gate ≢ 1
  pub bytes : image ≡ front_of header bodies ++ gate ∷ rest
  pub lawful : IsHeader header
  pub lengths_fit : AllByRecursion IsShort bodies

-- What is no group and no closed gate: no byte at all, or an open gate with a length or a body that
-- is cut short.
abbrev pub IsCutShort : List ℕ → Type 0
IsCutShort [] = Unit {0}
IsCutShort (gate ∷ rest) = (gate ≡ 1) × (length rest < 8 + from_le_bytes w64 (take 8 rest))

-- A header, whole and right.
pub record HasHeader (image : List ℕ) : Type 0 where
  pub header : Header
  pub rest : List ℕ
  pub bytes : image ≡ header_of header ++ rest
  pub lawful : IsHeader header

-- After whole groups something that is cut short.
pub record IsTorn (image : List ℕ) (groups : ℕ) : Type 0 where
  pub header : Header
  pub bodies : List (List ℕ)
  pub rest : List ℕ
  pub bytes : image ≡ front_of header bodies ++ rest
  pub count : length bodies ≡ groups
  pub torn : IsCutShort rest
  pub lawful : IsHeader header
  pub lengths_fit : AllByRecursion IsShort bodies

-- The bytes are no image of a store, and the fault is that of this group; the header counts as
-- group 0, and groups are numbered from 1.
abbrev pub HasFault : List ℕ → ℕ → Type 0
HasFault image zero = HasHeader image → ⊥
HasFault image (suc groups) = IsTorn image groups

-- A new store: 736e6473746f7265 02000000 0000000000010000 00.
new_store : List ℕ
new_store =
    0x73 ∷ 0x6e ∷ 0x64 ∷ 0x73 ∷ 0x74 ∷ 0x6f ∷ 0x72 ∷ 0x65 ∷ 0x02 ∷ 0 ∷ 0 ∷ 0 ∷ 0 ∷ 0 ∷ 0 ∷ 0 ∷ 0
    ∷ 0x01 ∷ 0 ∷ 0 ∷ 0 ∷ []

example_new : header_of usual_header ++ 0 ∷ [] ≡ new_store
unfolding new_store
example_new = refl

-- its first 20 bytes alone lack the gate of the first group
example_no_gate : IsTorn (take 20 new_store) 0
unfolding new_store
example_no_gate = record {
  header = usual_header;
  bodies = [];
  rest = [];
  bytes = refl;
  count = refl;
  torn = tt;
  lawful = record { format = inr refl; number_fits = lit< tt };
  lengths_fit = tt;
}

example_fault : HasFault (take 20 new_store) 1
example_fault = example_no_gate

-- a limit that no file can have is the greatest that one can
example_limit : limit_of (record { format = 2; number = 2 ^ 64 - 1 }) ≡ 2 ^ 63 - 1
example_limit = refl

-- a group of two bytes without a checksum, published, and then a closed gate
example_group : front_of (record { format = 1; number = 2 ^ 40 }) ((7 ∷ 8 ∷ []) ∷ []) ++ 0 ∷ []
    ≡ header_of (record { format = 1; number = 2 ^ 40 })
    ++ 1 ∷ 2 ∷ 0 ∷ 0 ∷ 0 ∷ 0 ∷ 0 ∷ 0 ∷ 0 ∷ 7 ∷ 8 ∷ 0 ∷ []
example_group = refl

-- the nine digits, of which the checksum with no inversion is 58e3fa20, as a new group
nine_digits : List ℕ
nine_digits = 0x31 ∷ 0x32 ∷ 0x33 ∷ 0x34 ∷ 0x35 ∷ 0x36 ∷ 0x37 ∷ 0x38 ∷ 0x39 ∷ []

example_sealed : group_of (sealed nine_digits)
    ≡ 1 ∷ 13 ∷ 0 ∷ 0 ∷ 0 ∷ 0 ∷ 0 ∷ 0 ∷ 0 ∷ (nine_digits ++ 0x20 ∷ 0xfa ∷ 0xe3 ∷ 0x58 ∷ [])
unfolding nine_digits shift shifts crc_byte crc_of
example_sealed = refl

-- without its last byte the image with the group of two lacks the gate of group 2, and without the
-- next the body of group 1 is cut short
example_cut : IsCutShort (1 ∷ 2 ∷ 0 ∷ 0 ∷ 0 ∷ 0 ∷ 0 ∷ 0 ∷ 0 ∷ 7 ∷ [])
example_cut = (refl, lit< tt)

-- behind what was put there is room for a checksum of four bytes and for the next gate
example_reserve : reserve ≡ 5
example_reserve = refl

-- a gate that is neither open nor 0 is closed too
example_other_gate : HasGroups usual_header [] (header_of usual_header ++ 7 ∷ [])
example_other_gate =
    record {
      gate = 7;
      rest = [];
      closed = λ e. cc;
      bytes = refl;
      lawful = record { format = inr refl; number_fits = lit< tt };
      lengths_fit = tt;
    }
