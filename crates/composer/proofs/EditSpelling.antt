-- What END and clones have to be that are written.
use Rattle.std.specs.Prelude.{ℕ, ◌<◌, ◌≤◌, ◌^◌, ◌==◌, Bool, true, false, List, length}
use Rattle.std.proofs.Common.{refl, arith}
use Rattle.send_model.specs.Command.{Clone, End, row}
use Rattle.send_model.specs.Spelling.{attributes_of, body_of, greatest_body}
use Rattle.send_model.proofs.Versions.{not_rest}
use Rattle.send_commands.specs.Writing.{IsWritable, IsShortEnough, IfSecond}

by_version : (b : Bool) (P : Type 0) → P → IfSecond b P
by_version true P p = p
by_version false P p = tt

no_body : (version : ℕ) → length (body_of version (attributes_of End)) ≤ greatest_body
unfolding body_of attributes_of row
no_body version = omega arith

-- END has no body.
pub end_short : (version : ℕ) → IsShortEnough version End
end_short version = by_version (version == 2) (length (body_of version (attributes_of End)) ≤ greatest_body) (no_body version)

-- The paths of a clone that can be written are short.
pub paths_short : (version : ℕ) (path : List ℕ) (offset : ℕ) (uuid : List ℕ) (ctransid : ℕ) (clone_path : List ℕ) (from len : ℕ) → IsWritable version (Clone path offset uuid ctransid clone_path from len)
    → (length path < 2 ^ 16) × (length clone_path < 2 ^ 16)
unfolding IsWritable row
paths_short version path offset uuid ctransid clone_path from len w = (w.0 (not_rest version 15 refl), w.1.1.1.1.0 (not_rest version 22 refl))
