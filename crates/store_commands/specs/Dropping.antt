-- What a crash may leave while an entry is dropped. This program's own.
use Rattle.std.specs.Prelude.{◌≡◌, ◌⊎◌, ℕ, List}
use Rattle.sx_base.specs.Disk.{Pending, IsImage}
use Rattle.store_model.specs.Requests.{ByImage}
use Rattle.store_model.specs.Answers.{DropFault}

-- An image that a crash could leave before; or, where the bytes at entry stand for a store, one
-- that stands for this store, or for the store without the entry where this is due; or, where they
-- stand for none, these bytes.
abbrev pub LeftByDrop : Pending → (seen name : List ℕ) → List ℕ → Type 0
LeftByDrop pending seen name image =
    IsImage pending image ⊎ ByImage seen (λ s. DropFault seen name s image) (image ≡ seen)
