-- The part of a head begins, or it does not.
use Rattle.std.specs.Prelude.{◌≡◌, ℕ, ◌+◌, Bool, true, false, ◌&&◌, List, [], ◌∷◌, ◌++◌, length, map, Option, None, Some, Result, Ok, Err, IfSome, IsErr, is_some, if◌then◌else◌}
use Rattle.std.specs.Io.KnownBytes.{Appends}
use Rattle.std.proofs.KnownBytes.{Appends-nil}
use Rattle.std.proofs.Common.{inl, inr, refl, sym, ap, subst, ◌∙◌}
use Rattle.std.proofs.lemmas.List.{map-append}
use Rattle.sx_base.specs.Crash.{LeavesOnly}
use Rattle.sx_base.specs.declared.disk.Disk as keeping
use Rattle.sx_base.specs.Refusals.{refusal_of}
use Rattle.sx_base.proofs.DiskMoments.{weakens}
use Rattle.sx_base.specs.declared.refusal.Refusal as code
use Rattle.sx_base.specs.declared.outcome.Outcome.TheVariants as ended
use Rattle.send_model.specs.Refusal.{Refusal}
use Rattle.send_model.specs.Spelling.{canonical, canonical_all}
use Rattle.send_model.specs.Reading.{Item, is_version}
use Rattle.send_model.specs.Subvolume.{Subvolume}
use Rattle.send_model.specs.Store.{Head, Store, Part, Stepped, head_of, begun, entered, unfinished}
use Rattle.send_model.specs.Cells.{recelled, recelled_result, recelled_entry}
use Rattle.send_model.proofs.CellSteps.{begun-cells}
use Rattle.store_model.specs.Image.{Header}
use Rattle.store_model.specs.Stored.{Group, Mark}
use Rattle.store_model.specs.States.{complete_line}
use Rattle.store_model.specs.Turns.{Event, Begins, beginnings, completed_parts, part_line, lines_of, group_of_event, turn_groups}
use Rattle.store_model.specs.TurnDues.{event_pieces}
use Rattle.auditor.specs.Following.{blank}
use Rattle.group_log.specs.declared.stops.LogStop.{LogStop}
use Rattle.group_log.specs.declared.stops.LogStop.TheVariants as log
use Rattle.group_replay.specs.declared.place.Place.{Place}
use Rattle.group_replay.specs.declared.stops.StoreStop.TheVariants as stop
use Rattle.store_journal.specs.Answers.{BeginsIn}
use Rattle.store_journal.specs.Filling as fill
use Rattle.store_journal.specs.Filling.{Asked, group_asks, IsStopOf}
use Rattle.store_journal.specs.Shown.{StoreState}
use Rattle.store_journal.proofs.Rooms.{as_piece}
use Rattle.store_journal.specs.Holding.{new_group, HasThese, HasOneMore, Holds}
use Rattle.receiver.specs.declared.outcome.Received.{Received}
use Rattle.receiver.specs.declared.outcome.Received.TheVariants as how
use Rattle.receiver.specs.Answers.{ended_log}
use Rattle.receiver.specs.Disks.{HasFront}
use Rattle.receiver.proofs.ClosedParts.{one_front, no_more}
use Rattle.turn_sessions.specs.declared.part.OpenPart.{OpenPart}
use Rattle.turn_sessions.specs.Standing.{Blank, IsPart}
use Rattle.turn_sessions.proofs.Unpacked.{HasDone, HasStopped, ItemSays}
use Rattle.turn_sessions.proofs.Nothings.{OnlyNow, CountsNow, nothing_done, unsure_stopped}
use Rattle.turn_sessions.proofs.Rooms.{head_pieces_are, head_gate, has_room, no_room}

of_head : (P : Head → Type 0) (o : Option Head) (head : Head) → o ≡ Some head → IfSome o P → P head
of_head P o head e p = subst (λ (x : Option Head). IfSome x P) e p

-- what a head begins over cells that carry nothing
begun_blank : (core : Store (Option Place)) (head : Head) (r : Result (Subvolume (Option Place)) Refusal) → begun core head ≡ r → begun (blank core) head ≡ recelled_result (λ _. tt) r
begun_blank core head r e = begun-cells (λ _. tt) core head ∙ ap (recelled_result (λ _. tt)) e

begins_event : (item : Item) (head : Head) → head_of item.command ≡ Some head → beginnings item None ≡ Begins item ∷ []
begins_event item head is = ap (λ (o : Option Head). if is_some o && true then Begins item ∷ [] else []) is

no_event : (item : Item) (refusal : Refusal) → beginnings item (Some refusal) ≡ []
no_event item refusal = one (is_some (head_of item.command))
  where
    one : (b : Bool) → (if b && false then Begins item ∷ [] else []) ≡ []
    one true = refl
    one false = refl

no_line : (item : Item) → lines_of (Begins item ∷ []) ≡ []
unfolding lines_of completed_parts
no_line item = refl

first_part : (item : Item) (head : Head) (part : Part (Option Place)) (current : OpenPart) → head_of item.command ≡ Some head → part.key ≡ head.key → current.part ≡ part → current.version ≡ item.version → current.frames ≡ []
    → is_version item.version ≡ true → current.line ≡ complete_line (unfinished {S = Unit {0}} head)
    → IsPart (record { taken = record { head = item; edits = [] }; part = record { key = head.key; subvolume = recelled (λ _. tt) part.subvolume } }) current
unfolding part_line complete_line canonical_all
first_part item head part current is key own version frames known line = record {
  part = λ i. record { key = (sym key ∙ ap (λ (p : Part (Option Place)). p.key) (sym own)) i; subvolume = recelled (λ _. tt) (sym own i).subvolume };
  uuid = ap (λ (o : Option Head). elim o as (λ x. List ℕ) [ None ↦ [] | Some h ↦ h.key.uuid ]) is;
  line = line ∙ sym (ap (λ (o : Option Head). elim o as (λ x. List ℕ) [ None ↦ [] | Some h ↦ complete_line (unfinished {S = Subvolume ℕ} h) ]) is);
  version = sym version;
  known = subst (λ (v : ℕ). is_version v ≡ true) (sym version) known;
  lawful = tt;
  frames = frames;
}

module _ {D : Type 0} (ghosts : keeping.Ghosts D) (old new : D) (was now : StoreState) (written : Option (List ℕ)) (item : Item) (head : Head) (is : head_of item.command ≡ Some head) where
  abbrev after : Stepped Blank
  after = entered (blank was.core) head (begun (blank was.core) head)

  abbrev pub asks : List Asked
  asks = group_asks was.log.gate (1 + length (canonical 1 item.command))

  pieces : event_pieces was.log.gate (Begins item) ≡ map as_piece asks
  pieces = head_pieces_are was.log.gate item

  abbrev Says : Option OpenPart → Result (Option code.Refusal) Received → Type 0
  Says current result = ItemSays ghosts old new was now written written item None (entered (blank was.core) head (begun (blank was.core) head))
      (beginnings item (entered (blank was.core) head (begun (blank was.core) head)).refusal) current result

  abbrev pub Marked : Type 0
  Marked = ghosts.tells → (header : Header) (groups : List Group) → Holds header groups was (ghosts.seen old) (ghosts.pending old) → LeavesOnly ghosts.moment ghosts.left_since old new (HasOneMore header groups (new_group (Mark item.command)))

  marks : (header : Header) (groups : List Group) → LeavesOnly ghosts.moment ghosts.left_since old new (HasOneMore header groups (new_group (Mark item.command))) → LeavesOnly ghosts.moment ghosts.left_since old new (HasFront header groups (turn_groups (Begins item ∷ [])))
  unfolding turn_groups
  marks header groups run = weakens run (λ image has. one_front header groups (group_of_event (Begins item)) image has)

  -- It begins.
  pub begun_ok : (part : Part (Option Place)) (current : OpenPart) → IfSome (head_of item.command) (λ h. BeginsIn (Ok part) h was.core now.core)
      → current.part ≡ part → current.version ≡ item.version → current.frames ≡ [] → is_version item.version ≡ true → current.line ≡ complete_line (unfinished {S = Unit {0}} head)
      → fill.first_full was.log.limit asks ≡ None → now.log.gate ≡ fill.gate_behind was.log.gate (1 + length (canonical 1 item.command)) → now.log.limit ≡ was.log.limit
      → (ghosts.tells → (header : Header) (groups : List Group) → Holds header groups was (ghosts.seen old) (ghosts.pending old) → Holds header (groups ++ new_group (Mark item.command) ∷ []) now (ghosts.seen new) (ghosts.pending new)) → Marked
      → Says (Some current) (Ok None)
  unfolding turn_groups
  begun_ok part current said own version frames known line fits gate limit holds marked =
      let b = of_head (λ h. BeginsIn (Ok part) h was.core now.core) (head_of item.command) head is said in
      subst (λ (r : Result (Subvolume Blank) Refusal). ItemSays ghosts old new was now written written item None (entered (blank was.core) head r) (beginnings item (entered (blank was.core) head r).refusal) (Some current) (Ok None))
      (sym (begun_blank was.core head (Ok part.subvolume) b.0)) (record {
        refused = refl;
        store = ap (λ (c : Store (Option Place)). blank c) b.2 ∙ map-append (recelled_entry (λ (c : Option Place). tt)) was.core (unfinished head ∷ []);
        part = first_part item head part current is b.1 own version frames known line;
        done = subst (λ (l : List Event). HasDone ghosts old new was now written written l) (sym (begins_event item head is)) (record {
          wrote = subst (λ (l : List ℕ). Appends written written l) (sym (no_line item)) (Appends-nil written);
          room = has_room was.log.limit was.log.gate (Begins item) asks pieces fits;
          gate = gate ∙ sym (head_gate was.log.gate item);
          limit = limit;
          disk = λ is_told header groups h. (holds is_told header groups h, marks header groups (marked is_told header groups h));
        });
      })

  -- It is refused.
  pub begun_refused : (refusal : code.Refusal) → IfSome (head_of item.command) (λ h. BeginsIn {C = Option Place} (Err (stop.Refused refusal)) h was.core now.core) → now ≡ was → new ≡ old → OnlyNow ghosts old
      → (current : Option OpenPart) → Says current (Ok (Some refusal))
  begun_refused refusal said same same_disk only current =
      let b = of_head (λ h. BeginsIn {C = Option Place} (Err (stop.Refused refusal)) h was.core now.core) (head_of item.command) head is said in
      subst (λ (r : Result (Subvolume Blank) Refusal). ItemSays ghosts old new was now written written item None (entered (blank was.core) head r) (beginnings item (entered (blank was.core) head r).refusal) current (Ok (Some refusal)))
      (sym (begun_blank was.core head (Err (refusal_of refusal)) b)) (record {
        refused = refl;
        store = ap (λ (s : StoreState). blank s.core) same;
        part = tt;
        done = subst (λ (l : List Event). HasDone ghosts old new was now written written l) (sym (no_event item (refusal_of refusal)))
            (subst (λ (s : StoreState). HasDone ghosts old new was s written written []) (sym same)
            (subst (λ (d : D). HasDone ghosts old d was was written written []) (sym same_disk) (nothing_done ghosts old was written only)));
      })

  abbrev Leaves : Result (Subvolume Blank) Refusal → Type 0
  Leaves r = ghosts.tells → (header : Header) (groups : List Group) → Holds header groups was (ghosts.seen old) (ghosts.pending old) → LeavesOnly ghosts.moment ghosts.left_since old new (HasFront header groups (turn_groups (beginnings item (entered (blank was.core) head r).refusal)))

  -- There was no memory.
  pub begun_without : Marked → (ghosts.tells → (header : Header) (groups : List Group) → Holds header groups was (ghosts.seen old) (ghosts.pending old) → IfSome (head_of item.command) (λ h. IsErr (begun was.core h) → LeavesOnly ghosts.moment ghosts.left_since old new (HasThese header groups)))
      → CountsNow ghosts old new → (current : Option OpenPart) → Says current (Err (how.Files ended.NoMemory))
  unfolding turn_groups
  begun_without marked unmarked counts current =
      unsure_stopped ghosts old new was now written written (how.Files ended.NoMemory) (beginnings item after.refusal) tt (Appends-nil written) counts tt
      (by_result (begun was.core head) refl (λ is_err is_told header groups h. of_head (λ x. IsErr (begun was.core x) → LeavesOnly ghosts.moment ghosts.left_since old new (HasThese header groups)) (head_of item.command) head is (unmarked is_told header groups h) is_err))
    where
      by_result : (r : Result (Subvolume (Option Place)) Refusal) → begun was.core head ≡ r
          → (IsErr (begun was.core head) → (ghosts.tells → (header : Header) (groups : List Group) → Holds header groups was (ghosts.seen old) (ghosts.pending old) → LeavesOnly ghosts.moment ghosts.left_since old new (HasThese header groups)))
          → Leaves (begun (blank was.core) head)
      by_result (Ok s) e none = subst Leaves (sym (begun_blank was.core head (Ok s) e)) (λ is_told header groups h. subst (λ (l : List Event). LeavesOnly ghosts.moment ghosts.left_since old new (HasFront header groups (turn_groups l))) (sym (begins_event item head is)) (marks header groups (marked is_told header groups h)))
      by_result (Err refusal) e none =
          let f = none (subst (λ (r : Result (Subvolume (Option Place)) Refusal). IsErr r) (sym e) refl) in
          subst Leaves (sym (begun_blank was.core head (Err refusal) e)) (λ is_told header groups h. subst (λ (l : List Event). LeavesOnly ghosts.moment ghosts.left_since old new (HasFront header groups (turn_groups l))) (sym (no_event item refusal)) (weakens (f is_told header groups h) (λ image has. no_more header groups image has)))

  -- The journal stopped.
  pub begun_stopped : (cause : Type 0) (why : LogStop) → IfSome (head_of item.command) (λ h. BeginsIn {C = Option Place} (Err (stop.Log why)) h was.core now.core) → IsStopOf cause was.log.limit (fill.first_full was.log.limit asks) why → Marked
      → (ghosts.tells → (header : Header) (groups : List Group) → Holds header groups was (ghosts.seen old) (ghosts.pending old) → IfSome (fill.first_full was.log.limit asks) (λ _. LeavesOnly ghosts.moment ghosts.left_since old new (HasThese header groups)))
      → CountsNow ghosts old new → (current : Option OpenPart) → Says current (Err (ended_log why))
  unfolding turn_groups
  begun_stopped cause why said stops marked none counts current =
      let b = of_head (λ h. BeginsIn {C = Option Place} (Err (stop.Log why)) h was.core now.core) (head_of item.command) head is said in
      subst (λ (r : Result (Subvolume Blank) Refusal). HasStopped ghosts old new was now written written (ended_log why) (beginnings item (entered (blank was.core) head r).refusal))
      (sym (begun_blank was.core head (Ok b.0) b.1))
      (subst (λ (l : List Event). HasStopped ghosts old new was now written written (ended_log why) l) (sym (begins_event item head is)) (by_stop why stops))
    where
      all : ghosts.tells → (header : Header) (groups : List Group) → Holds header groups was (ghosts.seen old) (ghosts.pending old) → LeavesOnly ghosts.moment ghosts.left_since old new (HasFront header groups (turn_groups (Begins item ∷ [])))
      all is_told header groups h = marks header groups (marked is_told header groups h)

      full_there : (o : Option Asked) (P : Type 0) (end wanted limit : ℕ) → IsStopOf cause was.log.limit o (log.LogFull end wanted limit) → IfSome o (λ _. P) → P
      full_there None P end wanted limit (inl f) p = absurd f
      full_there None P end wanted limit (inr f) p = absurd f
      full_there (Some a) P end wanted limit s p = p

      by_stop : (w : LogStop) → IsStopOf cause was.log.limit (fill.first_full was.log.limit asks) w → HasStopped ghosts old new was now written written (ended_log w) (Begins item ∷ [])
      by_stop log.DiskFault s = unsure_stopped ghosts old new was now written written how.StoreFault (Begins item ∷ []) tt (Appends-nil written) counts tt all
      by_stop (log.NotStore group) s = unsure_stopped ghosts old new was now written written how.StoreFault (Begins item ∷ []) tt (Appends-nil written) counts tt all
      by_stop (log.StoreThere size) s = unsure_stopped ghosts old new was now written written how.StoreFault (Begins item ∷ []) tt (Appends-nil written) counts tt all
      by_stop (log.LogFull end wanted limit) s =
          unsure_stopped ghosts old new was now written written (how.LogFull end wanted limit) (Begins item ∷ []) tt (Appends-nil written) counts (refl, no_room was.log.limit was.log.gate (Begins item) asks pieces cause end wanted limit s)
          (λ is_told header groups h. weakens (full_there (fill.first_full was.log.limit asks) (LeavesOnly ghosts.moment ghosts.left_since old new (HasThese header groups)) end wanted limit s (none is_told header groups h)) (λ image has. no_more header groups image has))
