-- What the definitions of a journal's image and of its faults mean. This program's own.
use Rattle.std.specs.Prelude.{◌≡◌, ℕ, List}
use Rattle.store_model.specs.Image.{Header, HasGroups, HasFault}

-- Bytes are the image of one journal: there are not two headers, or two lists of groups, whose
-- image they are.
abbrev pub ImageIsOneJournal : Type 0
ImageIsOneJournal =
    (image : List ℕ) (m n : Header) (xs ys : List (List ℕ)) → HasGroups m xs image
    → HasGroups n ys image → (m ≡ n) × (xs ≡ ys)

-- Bytes that are the image of a journal have no fault.
abbrev pub ImageHasNoFault : Type 0
ImageHasNoFault =
    (image : List ℕ) (header : Header) (bodies : List (List ℕ)) (group : ℕ)
    → HasGroups header bodies image → HasFault image group → ⊥

-- Bytes have a fault in one group at most.
abbrev pub FaultIsOfOneGroup : Type 0
FaultIsOfOneGroup = (image : List ℕ) (g h : ℕ) → HasFault image g → HasFault image h → g ≡ h
