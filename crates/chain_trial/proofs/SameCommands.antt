-- What is composed from items, and which ranges their redirected clones put, is decided by their
-- commands alone.
use Rattle.std.specs.Prelude.{◌≡◌, ℕ, suc, List, [], ◌∷◌, ◌++◌, map, length, Option, None, Some, if◌then◌else◌}
use Rattle.std.proofs.Common.{refl, ap, ◌∙◌}
use Rattle.send_model.specs.Command.{Command, End}
use Rattle.send_model.specs.Reading.{Item}
use Rattle.send_model.specs.Store.{Key, Head, Store, State}
use Rattle.send_model.specs.Receive.{start_of}
use Rattle.send_model.specs.Order.{heads, heads_of, commands_of}
use Rattle.send_model.specs.Outside.{part_uuids}
use Rattle.send_model.specs.Provenance.{Traced, traced_store, traced_step, uuid_after, is_redirected, clone_range, ranges_from, ranges_of}
use Rattle.send_model.specs.Composed.{first_head, last_head, head_command, commands_for, composed_from, composed_edits, composed_with, composed_for, composed_of}

-- The commands as items that all stand at one place.
abbrev pub placed : Command → Item
placed command = record { file = 1; number = 1; offset = 0; version = 1; data_at = 0; command = command }

abbrev pub placed_all : List Item → List Item
placed_all items = map placed (commands_of items)

commands_placed : (cs : List Command) → commands_of (map placed cs) ≡ cs
commands_placed [] = refl
commands_placed (c ∷ cs) = ap (λ (ds : List Command). c ∷ ds) (commands_placed cs)

pub heads_placed : (items : List Item) → heads (placed_all items) ≡ heads items
heads_placed items = ap heads_of (commands_placed (commands_of items))

uuids_placed : (items : List Item) → part_uuids (placed_all items) ≡ part_uuids items
uuids_placed items = ap (λ (hs : List Head). map (λ head. head.key.uuid) hs) (heads_placed items)

pub count_placed : (items : List Item) → length (placed_all items) ≡ length items
count_placed [] = refl
count_placed (item ∷ items) = ap suc (count_placed items)

from_placed : (store : Store ℕ) (parts : List (List ℕ)) (last : Key) (items : List Item) (state : State Traced) (current : Option (List ℕ))
    → composed_from store parts last state current (placed_all items) ≡ composed_from store parts last state current items
unfolding composed_from
from_placed store parts last [] state current = refl
from_placed store parts last (item ∷ items) state current =
    ap (λ (cs : List Command). commands_for store parts last state current item.command ++ cs) (from_placed store parts last items (traced_step state item).state (uuid_after current item.command))

edits_placed : (store : Store ℕ) (last : Key) (items : List Item) → composed_edits store last (placed_all items) ≡ composed_edits store last items
unfolding composed_edits
edits_placed store last items =
    ap (λ (parts : List (List ℕ)). composed_from store parts last (start_of (traced_store store)) None (placed_all items)) (uuids_placed items)
    ∙ from_placed store (part_uuids items) last items (start_of (traced_store store)) None

with_placed : (store : Store ℕ) (first last : Option Head) (items : List Item) → composed_for store first last (placed_all items) ≡ composed_for store first last items
unfolding composed_with
with_placed store None last items = refl
with_placed store (Some first) None items = refl
with_placed store (Some first) (Some last) items =
    ap (λ (edits : List Command). head_command last.name last.key first.parent ∷ (edits ++ End ∷ [])) (edits_placed store last.key items)

pub composed_placed : (store : Store ℕ) (items : List Item) → composed_of store (placed_all items) ≡ composed_of store items
composed_placed store items =
    ap (λ (hs : List Head). composed_for store (first_head hs) (last_head hs) (placed_all items)) (heads_placed items)
    ∙ with_placed store (first_head (heads items)) (last_head (heads items)) items

ranges_placed : (parts : List (List ℕ)) (items : List Item) (state : State Traced) (current : Option (List ℕ))
    → ranges_from parts state current (placed_all items) ≡ ranges_from parts state current items
unfolding ranges_from
ranges_placed parts [] state current = refl
ranges_placed parts (item ∷ items) state current =
    ap (λ (others : List (List Traced)). if is_redirected parts current item.command then clone_range state item.command ∷ others else others)
    (ranges_placed parts items (traced_step state item).state (uuid_after current item.command))

pub all_ranges_placed : (store : Store ℕ) (items : List Item) → ranges_of store (placed_all items) ≡ ranges_of store items
all_ranges_placed store items =
    ap (λ (parts : List (List ℕ)). ranges_from parts (start_of (traced_store store)) None (placed_all items)) (uuids_placed items)
    ∙ ranges_placed (part_uuids items) items (start_of (traced_store store)) None
