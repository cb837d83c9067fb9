-- Events behind others: their lines, their groups and their room.
use Rattle.std.specs.Prelude.{◌≡◌, ℕ, List, [], ◌∷◌, ◌++◌, Option, None, Some}
use Rattle.std.specs.List.{flat_map}
use Rattle.std.proofs.Common.{refl, sym, ap, ◌∙◌}
use Rattle.std.proofs.lemmas.List.Concat.{flat_map-append}
use Rattle.store_model.specs.Dues.{Due, first_full}
use Rattle.store_model.specs.Turns.{Event, completed_parts, part_line, lines_of}
use Rattle.store_model.proofs.Origins.{parts_joined}
use Rattle.store_model.specs.TurnDues.{event_pieces, gate_behind, gate_after, Fitting, fitting}
use Rattle.store_model.proofs.TurnEnds.{by_full, fitting_next}

pub lines_joined : (a b : List Event) → lines_of (a ++ b) ≡ lines_of a ++ lines_of b
unfolding lines_of
lines_joined a b = ap (flat_map part_line) (parts_joined a b) ∙ flat_map-append part_line (completed_parts a) (completed_parts b)

pub gates_joined : (gate : ℕ) (a b : List Event) → gate_after gate (a ++ b) ≡ gate_after (gate_after gate a) b
gates_joined gate [] b = refl
gates_joined gate (event ∷ a) b = gates_joined (gate_behind gate event) a b

abbrev behind_all : List Event → Fitting → Fitting
behind_all a f = record { events = a ++ f.events; full = f.full }

-- where the first ones have room, it is asked of the others
pub fits_behind : (most gate : ℕ) (a b : List Event) → (fitting most gate a).full ≡ None → fitting most gate (a ++ b) ≡ behind_all a (fitting most (gate_after gate a) b)
fits_behind most gate [] b e = refl
fits_behind most gate (event ∷ a) b e =
    fitting_next most gate event (a ++ b)
    ∙ one (first_full most (event_pieces gate event)) (sym (ap (λ (f : Fitting). f.full) (fitting_next most gate event a)) ∙ e) (λ q. fits_behind most (gate_behind gate event) a b q)
  where
    one : (o : Option Due) → (by_full o event (fitting most (gate_behind gate event) a)).full ≡ None
        → ((fitting most (gate_behind gate event) a).full ≡ None → fitting most (gate_behind gate event) (a ++ b) ≡ behind_all a (fitting most (gate_after (gate_behind gate event) a) b))
        → by_full o event (fitting most (gate_behind gate event) (a ++ b)) ≡ behind_all (event ∷ a) (fitting most (gate_after (gate_behind gate event) a) b)
    one (Some full) q more = cc
    one None q more = ap (by_full None event) (more q)

-- and where they have none, it is not
pub fits_first : (most gate : ℕ) (a b done : List Event) (full : Due) → fitting most gate a ≡ record { events = done; full = Some full } → fitting most gate (a ++ b) ≡ record { events = done; full = Some full }
unfolding fitting
fits_first most gate [] b done full e = absurd (no_full (ap (λ (f : Fitting). f.full) e))
  where
    no_full : ◌≡◌ {A = Option Due} None (Some full) → ⊥
    no_full q = cc
fits_first most gate (event ∷ a) b done full e =
    fitting_next most gate event (a ++ b) ∙ one (first_full most (event_pieces gate event)) (sym (fitting_next most gate event a) ∙ e)
    (λ rest q. fits_first most (gate_behind gate event) a b rest full q)
  where
    one : (o : Option Due) → by_full o event (fitting most (gate_behind gate event) a) ≡ record { events = done; full = Some full }
        → ((rest : List Event) → fitting most (gate_behind gate event) a ≡ record { events = rest; full = Some full } → fitting most (gate_behind gate event) (a ++ b) ≡ record { events = rest; full = Some full })
        → by_full o event (fitting most (gate_behind gate event) (a ++ b)) ≡ record { events = done; full = Some full }
    one (Some other) q more = q
    one None q more =
        let f : Fitting = fitting most (gate_behind gate event) a in
        let full_is : f.full ≡ Some full = ap (λ (x : Fitting). x.full) q in
        ap (by_full None event) (more f.events (λ i. record { events = f.events; full = full_is i }))
        ∙ (λ i. record { events = (ap (λ (x : Fitting). x.events) q) i; full = Some full })
