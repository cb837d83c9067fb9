-- Items that lead from one spot to another: what is due, what is left, which groups are written and
-- which lines printed.
use Rattle.std.specs.Prelude.{◌≡◌, ℕ, Bool, true, false, List, [], ◌∷◌, ◌++◌, Option, None, Some, Ok, if◌then◌else◌}
use Rattle.std.specs.Option.{option_map}
use Rattle.std.proofs.Common.{refl, sym, ap, subst, ◌∙◌, append_assoc, append-nil}
use Rattle.std.proofs.lemmas.List.{map-append}
use Rattle.send_model.specs.Refusal as meant
use Rattle.send_model.specs.Command.{Command}
use Rattle.send_model.specs.Reading.{Item}
use Rattle.send_model.specs.Store.{Store, Part, State, After, step}
use Rattle.send_model.specs.Receive.{run_by, byte_cells}
use Rattle.send_model.specs.Guards.{Guard, Watched, guarded, looked, watched}
use Rattle.send_model.specs.Cells.{recelled_entry, recelled_store, recelled_part, recelled_state, recelled_step}
use Rattle.send_model.proofs.CellClones.{all_steps-cells}
use Rattle.store_model.specs.Stored.{Group, is_edit}
use Rattle.store_model.specs.States.{complete_line, lines_behind}
use Rattle.store_model.specs.Dues.{first_full, end_behind, item_pieces, place_after, receive_from, left_from}
use Rattle.store_model.specs.Written.{closed_by, begun_by, begun_after, groups_from}
use Rattle.store_model.proofs.PassedStates.{IsOn, item_on}
use Rattle.auditor.specs.Following.{Followed, blank_step, beside, follow}
use Rattle.store_journal.specs.Shown.{StoreState}
use Rattle.receiver.specs.declared.opened.Opened.{Opened}
use Rattle.receiver.specs.Standing.{line_due, behind_close, place_of, IsLastLine, IsReady}
use Rattle.receiver.specs.Answers.{PiecesSay}
use Rattle.receiver.specs.Steps.{blank_of, line_under}
use Rattle.receiver.specs.Running.{byte_step, Spot, without_cells, IsAt}
use Rattle.receiver.proofs.Unpacked.{Leads}
use Rattle.receiver.proofs.Spots.{due_taken, left_taken, run_taken, groups_taken}
use Rattle.receiver.proofs.PrintedLines.{blank_entries, PartLine, item_lines}

pub leads_none : (limit : ℕ) (base : Store ℕ) (spot : Spot) → IsOn base spot.watched.state.store spot.watched.state.part → Leads limit base spot spot [] [] []
leads_none limit base spot on = record {
  due = λ rest. refl;
  left = λ rest. refl;
  ran = λ rest. refl;
  written = λ rest. refl;
  printed = sym (append-nil (lines_behind base spot.watched.state.store));
  on = on;
}

pub leads_on : (limit : ℕ) (base : Store ℕ) (a b c : Spot) (xs ys : List Item) (gs hs : List Group) (ls ms : List ℕ) → Leads limit base a b xs gs ls → Leads limit base b c ys hs ms → Leads limit base a c (xs ++ ys) (gs ++ hs) (ls ++ ms)
leads_on limit base a b c xs ys gs hs ls ms f g = record {
  due = λ rest. ap (receive_from limit a.place a.watched) (append_assoc xs ys rest) ∙ f.due (ys ++ rest) ∙ g.due rest;
  left = λ rest. ap (left_from limit a.place a.watched) (append_assoc xs ys rest) ∙ f.left (ys ++ rest) ∙ g.left rest;
  ran = λ rest. ap (run_by byte_step a.watched) (append_assoc xs ys rest) ∙ f.ran (ys ++ rest) ∙ g.ran rest;
  written = λ rest. ap (groups_from a.watched a.begun) (append_assoc xs ys rest) ∙ f.written (ys ++ rest) ∙ ap (λ (l : List Group). gs ++ l) (g.written rest) ∙ sym (append_assoc gs hs (groups_from c.watched c.begun rest));
  printed = g.printed ∙ ap (λ (l : List ℕ). l ++ ms) f.printed ∙ append_assoc (lines_behind base a.watched.state.store) ls ms;
  on = g.on;
}

-- ---- cells that carry nothing

abbrev pub after_without : After (Watched (State ℕ)) → After Followed
after_without after = record { state = without_cells after.state; refusal = after.refusal }

pub same_follow : (w : Watched (State ℕ)) (item : Item) → follow (without_cells w) item ≡ after_without (byte_step w item)
same_follow w item = one (guarded w.guards item.command)
  where
    stepped : blank_step (recelled_state (λ _. tt) w.state) item.command ≡ recelled_step (λ _. tt) (step 0 (byte_cells item) w.state item.command)
    stepped = all_steps-cells (λ _. tt) item.command 0 (byte_cells item) w.state

    one : (o : Option meant.Refusal) → (elim o as (λ x. After Followed) [
      | Some refusal ↦ record { state = record { guards = looked w.guards item.command; state = recelled_state (λ _. tt) w.state }; refusal = Some refusal }
      | None ↦ watched (looked w.guards item.command) (blank_step (recelled_state (λ _. tt) w.state) item.command)
    ]) ≡ after_without (elim o as (λ x. After (Watched (State ℕ))) [
      | Some refusal ↦ record { state = record { guards = looked w.guards item.command; state = w.state }; refusal = Some refusal }
      | None ↦ watched (looked w.guards item.command) (step 0 (byte_cells item) w.state item.command)
    ])
    one None = ap (watched (looked w.guards item.command)) stepped
    one (Some refusal) = refl

abbrev pub blank_part : {C : Type 0} → Option (Part C) → Option (Part (Unit {0}))
blank_part part = option_map (recelled_part (λ _. tt)) part

-- A part is open in both or in none.
pub same_place : (part : Option (Part ℕ)) (current : Option Opened) (c : Command) (place : ℕ) → blank_part part ≡ blank_part (option_map (λ (o : Opened). o.part) current) → place_after part c place ≡ behind_close current c place
same_place None None c place e = one (is_edit c)
  where
    one : (b : Bool) → place ≡ (if b then place else place)
    one true = refl
    one false = refl
same_place None (Some o) c place e = cc
same_place (Some p) None c place e = cc
same_place (Some p) (Some o) c place e = refl

recelled_last : {C D : Type 0} (f : C → D) (line : List ℕ) (store : Store C) → IsLastLine line store → IsLastLine line (recelled_store f store)
unfolding complete_line
recelled_last f line store l = record {
  before = recelled_store f l.before;
  last = recelled_entry f l.last;
  is = ap (recelled_store f) l.is ∙ map-append (recelled_entry f) l.before (l.last ∷ []);
  line_is = l.line_is;
}

pub part_line : (len : ℕ) (part : Option (Part ℕ)) (store : Store ℕ) (current : Option Opened) (now : StoreState) → blank_part part ≡ blank_part (option_map (λ (o : Opened). o.part) current)
    → blank_entries store ≡ recelled_store (λ _. tt) now.core → IsReady len current now → PartLine part store (line_due current)
part_line len None store None now e same ready = refl
part_line len None store (Some o) now e same ready = cc
part_line len (Some p) store None now e same ready = cc
part_line len (Some p) store (Some o) now e same ready = subst (λ (s : Store (Unit {0})). IsLastLine o.line s) (sym same) (recelled_last (λ _. tt) o.line now.core ready.last)

-- ---- one item

module _ (limit : ℕ) (base : Store ℕ) (old : Spot) (item : Item) (guards : List Guard) (len : ℕ) (store : StoreState) (current : Option Opened) (at : IsAt old guards store current) (on : IsOn base old.watched.state.store old.watched.state.part) (ready : IsReady len current store) where
  same_parts : blank_part old.watched.state.part ≡ blank_part (option_map (λ (o : Opened). o.part) current)
  same_parts = ap (λ (w : Followed). w.state.part) at.seen

  pub the_guards : old.watched.guards ≡ guards
  the_guards = ap (λ (w : Followed). w.guards) at.seen

  pub the_place : place_after old.watched.state.part item.command old.place ≡ behind_close current item.command (place_of store current)
  the_place = same_place old.watched.state.part current item.command old.place same_parts ∙ ap (λ (n : ℕ). behind_close current item.command n) at.place

  pub the_line : PartLine old.watched.state.part old.watched.state.store (line_due current)
  the_line = part_line len old.watched.state.part old.watched.state.store current store same_parts (ap (λ (w : Followed). w.state.store) at.seen) ready

  pub the_step : (after : After Followed) → follow (beside guards (blank_of store current)) item ≡ after → after_without (byte_step old.watched item) ≡ after
  the_step after is = sym (same_follow old.watched item) ∙ ap (λ (w : Followed). follow w item) at.seen ∙ is

  pub the_lines : lines_behind base (byte_step old.watched item).state.state.store ≡ lines_behind base old.watched.state.store ++ line_under guards current item.command
  the_lines = item_lines base old.watched item (line_due current) on the_line
      ∙ ap (λ (gs : List Guard). lines_behind base old.watched.state.store ++ line_under gs current item.command) the_guards

  pub the_rest : IsOn base (byte_step old.watched item).state.state.store (byte_step old.watched item).state.state.part
  the_rest = (item_on 0 byte_cells base old.watched item on).0

  -- It is taken.
  module _ (next_guards : List Guard) (next_store : StoreState) (next_current : Option Opened)
      (taken : follow (beside guards (blank_of store current)) item ≡ record { state = beside next_guards (blank_of next_store next_current); refusal = None })
      (room : PiecesSay (Ok tt) limit (behind_close current item.command (place_of store current)) (place_of next_store next_current) item) where
    pub next_at : IsAt (record { watched = (byte_step old.watched item).state; place = place_of next_store next_current; begun = begun_after old.begun item }) next_guards next_store next_current
    next_at = record { seen = ap (λ (a : After Followed). a.state) (the_step (record { state = beside next_guards (blank_of next_store next_current); refusal = None }) taken); place = refl }

    is_taken : (byte_step old.watched item).refusal ≡ None
    is_taken = ap (λ (a : After Followed). a.refusal) (the_step (record { state = beside next_guards (blank_of next_store next_current); refusal = None }) taken)

    has_room : first_full limit (item_pieces (place_after old.watched.state.part item.command old.place) item) ≡ None
    has_room = ap (λ (n : ℕ). first_full limit (item_pieces n item)) the_place ∙ room.0

    next_place : end_behind (place_after old.watched.state.part item.command old.place) (item_pieces (place_after old.watched.state.part item.command old.place) item) ≡ place_of next_store next_current
    next_place = ap (λ (n : ℕ). end_behind n (item_pieces n item)) the_place ∙ sym room.1

    pub leads_one : Leads limit base old (record { watched = (byte_step old.watched item).state; place = place_of next_store next_current; begun = begun_after old.begun item }) (item ∷ [])
        (closed_by guards item.command old.begun ++ begun_by item.command) (line_under guards current item.command)
    leads_one = record {
      due = λ rest. due_taken limit old.place old.watched item rest is_taken has_room ∙ ap (λ (n : ℕ). receive_from limit n (byte_step old.watched item).state rest) next_place;
      left = λ rest. left_taken limit old.place old.watched item rest is_taken has_room ∙ ap (λ (n : ℕ). left_from limit n (byte_step old.watched item).state rest) next_place;
      ran = λ rest. run_taken old.watched item rest is_taken;
      written = λ rest. groups_taken old.watched item old.begun rest is_taken
          ∙ ap (λ (gs : List Guard). (closed_by gs item.command old.begun ++ begun_by item.command) ++ groups_from (byte_step old.watched item).state (begun_after old.begun item) rest) the_guards;
      printed = the_lines;
      on = the_rest;
    }
