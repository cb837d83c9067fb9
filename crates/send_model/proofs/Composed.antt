-- The headline in terms of the composed list of commands.
use Rattle.std.specs.Prelude.{◌≡◌, ◌≢◌, ℕ, List, [], ◌∷◌, ◌++◌, Option, None, Some}
use Rattle.std.proofs.Common.{refl, ap, ap₂, ◌∙◌}
use Rattle.send_model.specs.Command.{Command, End}
use Rattle.send_model.specs.Reading.{Item}
use Rattle.send_model.specs.Store.{Head, Store}
use Rattle.send_model.specs.Receive.{start_of}
use Rattle.send_model.specs.Order.{heads, commands_of}
use Rattle.send_model.specs.Outside.{part_uuids}
use Rattle.send_model.specs.Provenance.{traced_store}
use Rattle.send_model.specs.Composed.{first_head, last_head, head_command, composed_edits, composed_with, composed_for, composed_of}
use Rattle.send_model.proofs.Merging.{NoClones, edits_of}
use Rattle.send_model.proofs.Headlines.{plain_composed}

pub items_with_heads : (store : Store ℕ) (items : List Item) (first last : Head) → first_head (heads items) ≡ Some first → last_head (heads items) ≡ Some last
    → composed_of store items ≡ composed_with store first last items
items_with_heads store items first last f l = ap₂ (λ (a b : Option Head). composed_for store a b items) f l

composed_plain : (store : Store ℕ) (items : List Item) (first last : Head) → NoClones (commands_of items)
    → composed_with store first last items ≡ head_command last.name last.key first.parent ∷ (edits_of (commands_of items) ++ End ∷ [])
unfolding composed_with composed_edits
composed_plain store items first last n =
    ap (λ (es : List Command). head_command last.name last.key first.parent ∷ (es ++ End ∷ [])) (plain_composed store (part_uuids items) last.key items (start_of (traced_store store)) None n)

-- What items without clones are composed to, and files: a head, all edits, END.
pub composed_items : (store : Store ℕ) (items : List Item) (first last : Head) → first_head (heads items) ≡ Some first → last_head (heads items) ≡ Some last → NoClones (commands_of items)
    → composed_of store items ≡ head_command last.name last.key first.parent ∷ (edits_of (commands_of items) ++ End ∷ [])
composed_items store items first last f l n = items_with_heads store items first last f l ∙ composed_plain store items first last n

pub first_there : (hs : List Head) → hs ≢ [] → (h : Head) × (first_head hs ≡ Some h)
first_there [] some = absurd (some refl)
first_there (h ∷ hs) some = (h, refl)

pub last_there : (h : Head) (hs : List Head) → (l : Head) × (last_head (h ∷ hs) ≡ Some l)
last_there h [] = (h, refl)
last_there h (next ∷ hs) = last_there next hs

pub last_of_some : (hs : List Head) → hs ≢ [] → (l : Head) × (last_head hs ≡ Some l)
last_of_some [] some = absurd (some refl)
last_of_some (h ∷ hs) some = last_there h hs
