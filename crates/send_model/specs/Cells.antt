-- The same subvolumes, stores and steps over other cells: each cell is replaced by what a function
-- makes of it. This program's own, as all that speaks of where cells come from.
use Rattle.std.specs.Prelude.{map, Result, Ok, Err, ◌≡◌, IfSome}
use Rattle.std.specs.Option.{option_map}
use Rattle.send_model.specs.Refusal.{Refusal}
use Rattle.send_model.specs.Subvolume.{Subvolume}
use Rattle.send_model.specs.Store.{Entry, Store, Part, State, Stepped}
use Rattle.send_model.specs.Provenance.{with_cells}
use Rattle.std.specs.List.{AllByRecursion}

abbrev pub recelled : {C D : Type 0} → (C → D) → Subvolume C → Subvolume D
recelled f s = with_cells (λ ino cells. map f cells) s

abbrev pub recelled_result : {C D : Type 0} → (C → D) → Result (Subvolume C) Refusal
    → Result (Subvolume D) Refusal
recelled_result f (Ok s) = Ok (recelled f s)
recelled_result f (Err refusal) = Err refusal

abbrev pub recelled_entry : {C D : Type 0} → (C → D) → Entry (Subvolume C) → Entry (Subvolume D)
recelled_entry f e =
    record {
      name = e.name;
      key = e.key;
      parent = e.parent;
      contents = option_map (recelled f) e.contents;
    }

abbrev pub recelled_store : {C D : Type 0} → (C → D) → Store C → Store D
recelled_store f store = map (recelled_entry f) store

abbrev pub recelled_part : {C D : Type 0} → (C → D) → Part C → Part D
recelled_part f part = record { key = part.key; subvolume = recelled f part.subvolume }

abbrev pub recelled_state : {C D : Type 0} → (C → D) → State C → State D
recelled_state f state =
    record { store = recelled_store f state.store; part = option_map (recelled_part f) state.part }

abbrev pub recelled_step : {C D : Type 0} → (C → D) → Stepped C → Stepped D
recelled_step f stepped =
    record { state = recelled_state f stepped.state; refusal = stepped.refusal }

-- ---- what holds of each cell

module _ {C : Type 0} (P : C → Type 0) where
  -- A cell with a property.
  abbrev pub Good : Type 0
  Good = (c : C) × P c

  abbrev pub cell_of : Good → C
  cell_of g = g.0

  -- All cells of a subvolume have the property: it is one over cells that carry it.
  abbrev pub Holds : Subvolume C → Type 0
  Holds s = (t : Subvolume ((c : C) × P c)) × (recelled cell_of t ≡ s)

-- A property of all cells of a state: of those of each complete subvolume, and of the part.
pub record AllCells {C : Type 0} (P : C → Type 0) (state : State C) : Type 0 where
  pub complete : AllByRecursion (λ e. IfSome e.contents (Holds P)) state.store
  pub part : IfSome state.part (λ p. Holds P p.subvolume)
