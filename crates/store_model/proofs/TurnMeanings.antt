-- What it means that entries are those of completed parts.
use Rattle.std.specs.Prelude.{List, [], ◌∷◌, Option, None, Some, ℕ, ◌++◌}
use Rattle.std.proofs.Common.{refl, ap, ap₂}
use Rattle.send_model.specs.Subvolume.{Subvolume}
use Rattle.send_model.specs.Store.{Head, unfinished}
use Rattle.store_model.specs.States.{complete_line}
use Rattle.store_model.specs.Turns.{part_line}
use Rattle.store_model.specs.Meanings.{EntriesHaveTheirHeads, LinesAreOfEntries}

pub entries_have_their_heads : {S : Type 0} → EntriesHaveTheirHeads S
entries_have_their_heads [] [] h = (refl, tt)
entries_have_their_heads [] (e ∷ entries) h = absurd h
entries_have_their_heads (part ∷ parts) [] h = absurd h
entries_have_their_heads (part ∷ parts) (e ∷ entries) h =
    let more = entries_have_their_heads parts entries h.2 in
    (ap₂ (λ (o : Option Head) (os : List (Option Head)). o ∷ os) h.0 more.0, (h.1, more.1))

line_of_head : Option Head → List ℕ
line_of_head None = []
line_of_head (Some h) = complete_line (unfinished {S = Subvolume ℕ} h)

pub lines_are_of_entries : {S : Type 0} → LinesAreOfEntries S
unfolding part_line complete_line line_of_head
lines_are_of_entries [] [] h = refl
lines_are_of_entries [] (e ∷ entries) h = absurd h
lines_are_of_entries (part ∷ parts) [] h = absurd h
lines_are_of_entries (part ∷ parts) (e ∷ entries) h = ap₂ (λ (x y : List ℕ). x ++ y) (ap line_of_head h.0) (lines_are_of_entries parts entries h.2)
