-- The first piece that has no room, for the journal's calls and for the definitions.
use Rattle.std.specs.Prelude.{◌≡◌, ℕ, ◌+◌, Bool, true, false, List, [], ◌∷◌, map, Some, nat_lt, if◌then◌else◌}
use Rattle.std.specs.Option.{option_map}
use Rattle.std.proofs.Common.{refl}
use Rattle.store_model.specs.Image.{reserve}
use Rattle.store_model.specs.Dues as dues
use Rattle.store_model.specs.Dues.{Due}
use Rattle.store_journal.specs.Filling.{Asked, first_full}

abbrev pub as_piece : Asked → ℕ × ℕ
as_piece a = (a.place, a.wanted)

abbrev pub as_due : ℕ → Asked → Due
as_due limit a = dues.LogFull a.place a.wanted limit

pub same_full : (limit : ℕ) (asks : List Asked) → dues.first_full limit (map as_piece asks) ≡ option_map (as_due limit) (first_full limit asks)
unfolding dues.first_full
same_full limit [] = refl
same_full limit (a ∷ asks) = one (nat_lt limit (a.place + a.wanted + reserve)) (same_full limit asks)
  where
    one : (b : Bool) → dues.first_full limit (map as_piece asks) ≡ option_map (as_due limit) (first_full limit asks)
        → (if b then Some (as_due limit a) else dues.first_full limit (map as_piece asks)) ≡ option_map (as_due limit) (if b then Some a else first_full limit asks)
    one true more = refl
    one false more = more
