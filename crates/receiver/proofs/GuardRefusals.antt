-- The refusal of the first guard that refuses.
use Rattle.std.specs.Prelude.{◌≡◌, ℕ, ◌<◌, List, map, length, Some, slice_index_or}
use Rattle.std.proofs.Common.{ap, sym, ◌∙◌}
use Rattle.std.proofs.lemmas.List.{get_or-map}
use Rattle.send_model.specs.Refusal.{Guarded}
use Rattle.send_model.specs.Command.{Command}
use Rattle.send_model.specs.Guards.{Guard, NoDevices, new_guard, guarded}
use Rattle.guard_rules.specs.Meaning.{IsRefusedAt}

pub refusal_at : {B : Type 0} (kept : B → Guard) (before : List Guard) (bs : List B) (c : Command) (place used : ℕ) (d : B) → IsRefusedAt before (map kept bs) c (Some place) → place < length bs → used ≡ (kept (slice_index_or bs place d)).used
    → guarded before c ≡ Some (Guarded place used)
refusal_at kept before bs c place used d refused within is =
    refused ∙ ap (λ (n : ℕ). Some (Guarded place n)) (ap (λ (g : Guard). g.used) (get_or-map kept bs place d (new_guard NoDevices) within) ∙ sym is)
