-- How many bytes and clones the composed commands carry, for all commands and from every state:
-- those of the commands themselves, and those that stand for redirected clones.
use Rattle.std.specs.Prelude.{◌≡◌, ℕ, ◌+◌, Bool, true, false, List, [], ◌∷◌, map, Option, None, if◌then◌else◌}
use Rattle.std.specs.List.{count_by}
use Rattle.std.proofs.Common.{refl, sym, ap, ◌∙◌}
use Rattle.std.proofs.lemmas.Bool.{false≢true}
use Rattle.send_model.specs.Command.{Command, Clone}
use Rattle.send_model.specs.Reading.{Item}
use Rattle.send_model.specs.Store.{Key, Head, Store, State}
use Rattle.send_model.specs.Receive.{start_of}
use Rattle.send_model.specs.Order.{commands_of}
use Rattle.send_model.specs.Outside.{part_uuids}
use Rattle.send_model.specs.Provenance.{Traced, Piece, traced_store, traced_after, uuid_after, is_redirected, redirected_by, clone_range, ranges_from, ranges_of, pieces_of, literal_in, runs_among, uncarried_in, runs_in}
use Rattle.send_model.specs.Counts.{literal, is_clone, clones, kept_from}
use Rattle.send_model.specs.Composed.{redirected_commands, composed_from, composed_edits, composed_with}
use Rattle.send_model.specs.Laws.{AreCounted}
use Rattle.send_model.proofs.Counting.{written}
use Rattle.send_model.proofs.CountAny.{left_over, run_count, pieces_written, pieces_clones, AsMuch, list_literal, list_clones, whole_literal_of, whole_clones_of}

-- What is asked of each redirected clone, and then made of the answers.
redirected_map : {S R Q : Type 0} (f : R → Q) (does : S → Item → S) (asked : S → Command → R) (parts : List (List ℕ)) (items : List Item) (state : S) (current : Option (List ℕ))
    → map f (redirected_by does asked parts state current items) ≡ redirected_by does (λ s c. f (asked s c)) parts state current items
unfolding redirected_by
redirected_map f does asked parts [] state current = refl
redirected_map {S} {R} {Q} f does asked parts (item ∷ items) state current = one (is_redirected parts current item.command) (asked state item.command) (redirected_by does asked parts (does state item) (uuid_after current item.command) items)
    (redirected_by does (λ s c. f (asked s c)) parts (does state item) (uuid_after current item.command) items) (redirected_map f does asked parts items (does state item) (uuid_after current item.command))
  where
    one : (b : Bool) (x : R) (others : List R) (others' : List Q) → map f others ≡ others' → map f (if b then x ∷ others else others) ≡ (if b then f x ∷ others' else others')
    one true x others others' e = ap (λ (r : List Q). f x ∷ r) e
    one false x others others' e = e

module _ (store : Store ℕ) where
  -- The pieces of a redirected clone.
  abbrev pieces : State Traced → Command → List Piece
  pieces state c = pieces_of store (clone_range state c)

  much_bytes : (state : State Traced) (c : Command) → is_clone c ≡ true → written (redirected_commands store state c) ≡ left_over (pieces state c)
  much_bytes state (Clone path offset clone_uuid clone_ctransid clone_path clone_offset clone_len) h =
      pieces_written store path offset (pieces state (Clone path offset clone_uuid clone_ctransid clone_path clone_offset clone_len))
  much_bytes state c h = absurd (false≢true h)

  much_count : (state : State Traced) (c : Command) → is_clone c ≡ true → count_by is_clone (redirected_commands store state c) ≡ run_count (pieces state c)
  much_count state (Clone path offset clone_uuid clone_ctransid clone_path clone_offset clone_len) h =
      pieces_clones store path offset (pieces state (Clone path offset clone_uuid clone_ctransid clone_path clone_offset clone_len))
  much_count state c h = absurd (false≢true h)

  much : AsMuch (redirected_commands store) pieces
  much = record { bytes = much_bytes; count = much_count }

  module _ (parts : List (List ℕ)) (last : Key) (items : List Item) (state : State Traced) (current : Option (List ℕ)) where
    asked_is : map (pieces_of store) (ranges_from parts state current items) ≡ redirected_by traced_after pieces parts state current items
    unfolding ranges_from
    asked_is = redirected_map (pieces_of store) traced_after clone_range parts items state current

    composed_literal : literal (composed_from store parts last state current items) ≡ literal (commands_of items) + uncarried_in store (ranges_from parts state current items)
    unfolding composed_from
    composed_literal = list_literal traced_after (redirected_commands store) pieces much parts last items state current ∙ ap (λ (ps : List (List Piece)). literal (commands_of items) + literal_in ps) (sym asked_is)

    composed_clones : clones (composed_from store parts last state current items) ≡ kept_from parts current (commands_of items) + runs_in store (ranges_from parts state current items)
    unfolding composed_from
    composed_clones = list_clones traced_after (redirected_commands store) pieces much parts last items state current ∙ ap (λ (ps : List (List Piece)). kept_from parts current (commands_of items) + runs_among ps) (sym asked_is)

  pub are_counted : (parts : List (List ℕ)) (last : Key) (state : State Traced) (current : Option (List ℕ)) (items : List Item) → AreCounted store parts last state current items
  are_counted parts last state current items = record { bytes = composed_literal parts last items state current; clone_count = composed_clones parts last items state current }

-- Of items received into a base: the cells that no outside subvolume carries, and the runs of
-- carried blocks.
pub whole_literal : (store : Store ℕ) (first last : Head) (items : List Item)
    → literal (composed_with store first last items) ≡ literal (commands_of items) + uncarried_in store (ranges_of store items)
unfolding composed_with composed_edits
whole_literal store first last items =
    whole_literal_of first last (composed_edits store last.key items) ∙ composed_literal store (part_uuids items) last.key items (start_of (traced_store store)) None

pub whole_clones : (store : Store ℕ) (first last : Head) (items : List Item)
    → clones (composed_with store first last items) ≡ kept_from (part_uuids items) None (commands_of items) + runs_in store (ranges_of store items)
unfolding composed_with composed_edits
whole_clones store first last items =
    whole_clones_of first last (composed_edits store last.key items) ∙ composed_clones store (part_uuids items) last.key items (start_of (traced_store store)) None
