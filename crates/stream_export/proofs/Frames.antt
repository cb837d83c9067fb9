-- The commands of separators, as frames of their attributes.
use Rattle.std.specs.Prelude.{◌≡◌, ℕ, List, [], ◌∷◌}
use Rattle.std.proofs.Common.{refl}
use Rattle.send_model.specs.Attribute.{Number, field_bytes, PATH, PATH_LINK, FILE_OFFSET, DATA}
use Rattle.send_model.specs.Command.{Write, Link, Unlink, row}
use Rattle.send_model.specs.Spelling.{attributes_of, body_of, frame_of}
use Rattle.send_model.specs.Receivable.{receivable, receivable_attributes}
use Rattle.receivable_form.proofs.Frames.{text_of}

pub unlink_is : (version : ℕ) (path : List ℕ) → frame_of 11 (body_of version (text_of PATH path ∷ [])) ≡ receivable version (Unlink path)
unfolding receivable receivable_attributes attributes_of row
unlink_is version path = refl

pub link_is : (version : ℕ) (name path : List ℕ) → frame_of 10 (body_of version (text_of PATH name ∷ text_of PATH_LINK path ∷ [])) ≡ receivable version (Link name path)
unfolding receivable receivable_attributes attributes_of row
link_is version name path = refl

pub touch_is : (version : ℕ) (path : List ℕ) → frame_of 15 (body_of version (text_of PATH path ∷ text_of FILE_OFFSET (field_bytes (Number 0)) ∷ text_of DATA [] ∷ [])) ≡ receivable version (Write path 0 [])
unfolding receivable receivable_attributes attributes_of row
touch_is version path = refl
