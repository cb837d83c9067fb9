-- A body that has wanted attributes one after the other, and nothing else.
use Rattle.std.specs.Prelude.{ℕ, ◌+◌, ◌==◌, ◌&&◌, Bool, false, List, [], ◌∷◌, length, Option, None, Some, nat_le, if◌then◌else◌}
use Rattle.send_model.specs.Command.{Kind, row}
use Rattle.send_model.specs.Reading.{attribute_head}
use Rattle.tlv_frame.specs.Table.{Table, Slot, slot_at}

-- Where an attribute ends whose number and length begin at a place, if it stands there and ends
-- within a length.
abbrev pub end_at : ℕ → ℕ → ℕ → ℕ → Option Slot → Option ℕ
end_at version kind len at None = None
end_at version kind len at (Some slot) =
    if (slot.place == at + attribute_head version kind)
    && nat_le (slot.place + length slot.bytes) len then Some
    (slot.place + length slot.bytes) else None

-- The attributes of these numbers stand one after the other from a place on up to a length.
abbrev pub stand : Table → ℕ → List ℕ → ℕ → Bool
stand table len [] at = at == len
stand table len (kind ∷ kinds) at =
    elim (end_at table.version kind len at (slot_at table.slots kind)) [
      | None ↦ false
      | Some end ↦
          stand table len kinds end
    ]

-- A body of this length has the wanted attributes of a command and nothing else.
abbrev pub stand_of : Table → ℕ → Option Kind → Bool
stand_of table len None = false
stand_of table len (Some kind) = stand table len (row kind).wanted 0
