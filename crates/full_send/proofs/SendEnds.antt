-- What a word that writes a subvolume of a store as a stream answers.
use Rattle.std.specs.Prelude.{◌≡◌, ℕ, List, [], ◌∷◌, map, length, Option, None, Some, Ok, Err}
use Rattle.std.specs.Option.{option_map}
use Rattle.std.specs.List.{range_with_len}
use Rattle.std.proofs.Common.{refl, sym, ap, subst, ◌∙◌}
use Rattle.extent_map.specs.Pieces.{run_cells}
use Rattle.send_model.specs.Headline.{IsFrontOf, IsProperFrontOf}
use Rattle.send_model.specs.Subvolume.{Subvolume}
use Rattle.send_model.specs.Store.{Entry, Store}
use Rattle.send_model.specs.Cells.{recelled, recelled_entry, recelled_store}
use Rattle.store_model.specs.Stored.{Group, as_places, first_gate, made_all}
use Rattle.store_model.proofs.CellRuns.{made_all-cells, all_put_same}
use Rattle.store_model.specs.Dues.{complete_named}
use Rattle.store_model.specs.Answers.{Missing}
use Rattle.store_model.proofs.OneStore.{never_both}
use Rattle.snapshot_model.specs.Listing as listing
use Rattle.snapshot_model.specs.HeldStores.{StandsHeld, held_at, ByHeld, Form, formed, send_output, SendBefore, SendAnswers}
use Rattle.snapshot_model.proofs.Holes.{held_are_bytes, image_is_one_held, places_are_held}
use Rattle.sx_base.specs.Disk.{Pending}
use Rattle.sx_base.specs.declared.outcome.Outcome.TheVariants as ended
use Rattle.group_log.specs.declared.stops.LogStop.TheVariants as log
use Rattle.group_log.proofs.GatedGroups.{has_closed}
use Rattle.group_replay.specs.declared.place.Place.{Place}
use Rattle.group_replay.specs.declared.stops.StoreStop.{StoreStop}
use Rattle.group_replay.specs.declared.stops.StoreStop.TheVariants as stop
use Rattle.group_replay.specs.Stopping.{IfLog, IsNoRefusal}
use Rattle.store_journal.specs.Shown.{StoreState}
use Rattle.store_journal.specs.Opening.{OpenSays, IsOpenStop, HoldsSome}
use Rattle.store_journal.specs.Holding.{bodies_of}
use Rattle.group_replay.specs.Placing.{further}
use Rattle.group_replay.specs.Taking.{as_runs}
use Rattle.store_commands.specs.declared.ends.StoreEnd.{StoreEnd}
use Rattle.store_commands.specs.declared.ends.StoreEnd.TheVariants as made
use Rattle.store_commands.specs.Ending.{answer_of, end_by}
use Rattle.subvol_catalog.specs.Entries.{named}
use Rattle.store_commands.proofs.Named.{complete_there, not_there, not_complete, named_same}
use Rattle.store_commands.proofs.Opened.{nothing_in_front}
use Rattle.full_send.specs.Adding.{IsCutBy}
use Rattle.full_send.specs.Held.{with_holes, store_with_holes}
use Rattle.full_send.specs.Orders.{StreamEnds}

Cell : Type 0
Cell = Option ℕ

-- ---- the store that a disk holds

map-map : {A B C : Type 0} (f : B → C) (g : A → B) (xs : List A) → map f (map g xs) ≡ map (λ x. f (g x)) xs
map-map f g [] = refl
map-map f g (x ∷ xs) = ap (λ (l : List _). f (g x) ∷ l) (map-map f g xs)

runs_are_places : (place : ℕ) (bytes : List ℕ) → map (option_map (λ p. p.at)) (as_runs place bytes) ≡ as_places place bytes
unfolding run_cells
runs_are_places place bytes = map-map (option_map (λ p. p.at)) (λ (k : ℕ). Some (further (record { at = place }) k)) (range_with_len 0 (length bytes))

made_in_places : (groups : List Group) (core : Store (Option Place)) → made_all None as_runs first_gate [] groups ≡ Some core
    → made_all None as_places first_gate [] groups ≡ Some (recelled_store (option_map (λ place. place.at)) core)
made_in_places groups core e =
    made_all-cells (option_map (λ place. place.at)) None as_runs as_places first_gate [] groups (all_put_same (option_map (λ place. place.at)) None as_runs as_places runs_are_places first_gate groups)
    ∙ ap (option_map (recelled_store (option_map (λ place. place.at)))) e

pub holds_held : (image : List ℕ) (pending : Pending) (store : StoreState) → HoldsSome image pending store → StandsHeld image (store_with_holes image store.core)
holds_held image pending store h = places_are_held image (recelled_store (option_map (λ place. place.at)) store.core) (record {
  header = h.header;
  groups = h.groups;
  has = has_closed h.header (bodies_of h.groups) store.log h.holds.rests.gate h.holds.rests.rest image h.holds.rests.behind h.holds.rests.closed h.holds.rests.bytes;
  makes = record { lawful = h.holds.makes.lawful; made = made_in_places h.groups store.core h.holds.makes.made };
})

-- It is the only one.
pub by_held : (image : List ℕ) (s : Store (Option ℕ)) (P : Store (Option ℕ) → Type 0) (none : Type 0) → StandsHeld image s → P s → ByHeld image P none
by_held image s P none stands p =
    ((λ t other. subst P (image_is_one_held image s t stands other) p), (λ group fails. absurd (never_both image (recelled_store listing.byte_of s) group (held_are_bytes image s stands) fails)))

-- ---- the entry of a name

module _ (image : List ℕ) (core : Store (Option Place)) (name : List ℕ) where
  abbrev entry_with : Entry (Subvolume (Option Place)) → Entry (Subvolume (Option ℕ))
  entry_with e = recelled_entry (held_at image) (recelled_entry (option_map (λ place. place.at)) e)

  abbrev entry_of_place : Option (Entry (Subvolume (Option Place))) → Option (Entry (Subvolume (Option ℕ)))
  entry_of_place o = option_map (recelled_entry (held_at image)) (option_map (recelled_entry (option_map (λ place. place.at))) o)

  abbrev contents_with : Option (Subvolume (Option Place)) → Option (Subvolume (Option ℕ))
  contents_with o = option_map (recelled (held_at image)) (option_map (recelled (option_map (λ place. place.at))) o)

  named_with : named name (store_with_holes image core) ≡ entry_of_place (named name core)
  named_with = named_same (held_at image) name (recelled_store (option_map (λ place. place.at)) core) ∙ ap (option_map (recelled_entry (held_at image))) (named_same (option_map (λ place. place.at)) name core)

  pub gone : named name core ≡ None → complete_named name (store_with_holes image core) ≡ None
  gone is = not_there name (store_with_holes image core) (named_with ∙ ap entry_of_place is)

  pub unfinished : (e : Entry (Subvolume (Option Place))) → named name core ≡ Some e → e.contents ≡ None → complete_named name (store_with_holes image core) ≡ None
  unfinished e is none = not_complete name (store_with_holes image core) (entry_with e) (named_with ∙ ap entry_of_place is) (ap contents_with none)

  pub complete_one : (e : Entry (Subvolume (Option Place))) (s : Subvolume (Option Place)) → named name core ≡ Some e → e.contents ≡ Some s
      → complete_named name (store_with_holes image core) ≡ Some (entry_with e, with_holes image s)
  complete_one e s is holds = complete_there name (store_with_holes image core) (entry_with e) (with_holes image s) (named_with ∙ ap entry_of_place is) (ap contents_with holds)

-- ---- answers

module _ (form : Form) (image name : List ℕ) where
  -- The store does not open.
  pub not_opened : (cause : Type 0) (why : StoreStop) (end : StoreEnd) → end ≡ end_by why → IsNoRefusal why → IfLog {T = StoreState} (Err why) (IsOpenStop cause) → OpenSays image (Err why)
      → SendAnswers form image name (answer_of name [] end) [] image
  not_opened cause why end is kind stops says = subst (λ (e : StoreEnd). SendAnswers form image name (answer_of name [] e) [] image) (sym is) (one why kind stops says)
    where
      before : SendBefore form image name []
      before = ((λ store stands. nothing_in_front (send_output form name store)), (λ group fails. refl))

      one : (why : StoreStop) → IsNoRefusal why → IfLog {T = StoreState} (Err why) (IsOpenStop cause) → OpenSays image (Err why) → SendAnswers form image name (answer_of name [] (end_by why)) [] image
      one (stop.Refused refusal) kind stops says = absurd kind
      one stop.NoMemory kind stops says = (refl, before)
      one (stop.Log log.DiskFault) kind stops says = (refl, before)
      one (stop.Log (log.NotStore group)) kind stops says = (refl, (refl, says))
      one (stop.Log (log.LogFull wanted size limit)) kind stops says = absurd stops
      one (stop.Log (log.StoreThere size)) kind stops says = absurd stops

  module _ (s : Store (Option ℕ)) (stands : StandsHeld image s) where
    -- Nothing complete has the name.
    pub send_missing : complete_named name s ≡ None → SendAnswers form image name (Missing name) [] image
    send_missing none = (refl, (refl, refl, (s, stands, none)))

    -- It is written, or a part of it is.
    module _ (found : Entry (Subvolume (Option ℕ)) × Subvolume (Option ℕ)) (here : complete_named name s ≡ Some found) where
      abbrev stream : List ℕ
      stream = formed form (Some found)

      whole : send_output form name s ≡ stream
      whole = ap (λ (o : Option (Entry (Subvolume (Option ℕ)) × Subvolume (Option ℕ))). formed form o) here

      pub send_done : (done : Unit {0}) (written : List ℕ) → StreamEnds stream (Ok done) written → SendAnswers form image name (answer_of name [] (made.Ends ended.Done)) written image
      send_done done written is = (refl, (refl, (s, stands, (found, here, is))))

      before : (written : List ℕ) → IsFrontOf stream written → ByHeld image (λ store. IsFrontOf (send_output form name store) written) (written ≡ [])
      before written front = by_held image s (λ store. IsFrontOf (send_output form name store) written) (written ≡ []) stands (subst (λ (l : List ℕ). IsFrontOf l written) (sym whole) front)

      pub send_stops : (end : StoreEnd) (written : List ℕ) → IsCutBy end stream written → SendAnswers form image name (answer_of name [] end) written image
      send_stops (made.Ends ended.OutputFault) written cut =
          (refl, by_held image s (λ store. IsProperFrontOf (send_output form name store) written) ⊥ stands (subst (λ (l : List ℕ). IsProperFrontOf l written) (sym whole) cut))
      send_stops (made.Ends ended.NoMemory) written cut = (refl, before written cut)
      send_stops (made.Ends ended.Done) written cut = absurd cut
      send_stops (made.Ends (ended.Refused verdict)) written cut = absurd cut
      send_stops (made.Ends ended.InputFault) written cut = absurd cut
      send_stops (made.Ends (ended.InputTooLong file)) written cut = absurd cut
      send_stops (made.Ends (ended.TooMuch sum)) written cut = absurd cut
      send_stops (made.Ends (ended.InputChanged file place)) written cut = absurd cut
      send_stops made.StoreFault written cut = (refl, before written cut)
      send_stops (made.NotStore group) written cut = absurd cut
      send_stops made.NoName written cut = absurd cut
      send_stops made.NoFile written cut = absurd cut
      send_stops (made.LogFull end wanted limit) written cut = absurd cut
      send_stops (made.StoreThere size) written cut = absurd cut
      send_stops (made.Damaged group stored computed) written cut = absurd cut
