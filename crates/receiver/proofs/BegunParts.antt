-- The part of a head begins, or it is refused, or there is no room for its groups.
use Rattle.std.specs.Prelude.{◌≡◌, ℕ, ◌+◌, List, [], ◌∷◌, ◌++◌, length, Option, None, Some, Result, Ok, Err, IfSome, IsErr}
use Rattle.std.specs.Option.{option_map}
use Rattle.std.proofs.Common.{refl, sym, ap, subst, ◌∙◌, append-nil}
use Rattle.sx_base.specs.Disk.{Pending, IsImage}
use Rattle.sx_base.specs.Crash.{LeavesOnly}
use Rattle.sx_base.proofs.DiskMoments.{begins, weakens}
use Rattle.sx_base.specs.Refusals.{refusal_of}
use Rattle.send_model.specs.Refusal as meant
use Rattle.send_model.specs.Subvolume.{Subvolume}
use Rattle.send_model.specs.Command.{Command, Subvol, Snapshot, row, kind_of, fields_of, kind_of_number}
use Rattle.send_model.specs.Spelling.{canonical, IsSpellable}
use Rattle.send_model.specs.Reading.{Item}
use Rattle.send_model.specs.Store.{Head, Store, State, head_of, begun, entered, unfinished}
use Rattle.send_model.proofs.Canonical.{fields_first, spellable_first}
use Rattle.store_model.specs.Image.{Header}
use Rattle.store_model.specs.Stored.{Group, Mark}
use Rattle.store_model.specs.States.{complete_line}
use Rattle.store_model.specs.Dues.{Due}
use Rattle.store_model.specs.Written.{Begun, mark_of, begun_by}
use Rattle.group_log.proofs.GatedGroups.{rests_has}
use Rattle.group_log.specs.declared.stops.LogStop.TheVariants as log
use Rattle.group_replay.specs.declared.place.Place.{Place}
use Rattle.group_replay.specs.declared.stops.StoreStop.{StoreStop}
use Rattle.group_replay.specs.declared.stops.StoreStop.TheVariants as stop
use Rattle.group_replay.specs.Stopping.{IfRefused}
use Rattle.store_journal.specs.Filling as fill
use Rattle.store_journal.specs.Filling.{Asked, gate_behind, group_asks, head_asks}
use Rattle.store_journal.specs.Shown.{StoreState, IsOpen}
use Rattle.store_journal.specs.Holding.{bodies_of, new_group, HasThese, HasOneMore, Holds}
use Rattle.store_journal.specs.Answers.{BeginsIn, IfHeadShort}
use Rattle.store_journal.proofs.Rooms.{as_due, same_full}
use Rattle.receiver.specs.declared.opened.Opened.{Opened}
use Rattle.receiver.specs.declared.outcome.Received.{Received}
use Rattle.receiver.specs.Standing.{state_of, IsReceiving}
use Rattle.receiver.specs.Disks.{HasFront, marked}
use Rattle.receiver.specs.Answers.{ended_by, StepSays, PiecesSay}
use Rattle.receiver.specs.Steps.{begun_if}
use Rattle.receiver.proofs.Unpacked.{Keeps, KeepsSays}
use Rattle.receiver.proofs.ClosedParts.{one_front}
use Rattle.receiver.proofs.RoomLaws.{head_item, head_end, has_room}

-- A head that a version can say, version 1 can.
pub head_first : (version : ℕ) (c : Command) (head : Head) → head_of c ≡ Some head → IsSpellable version c → IsSpellable 1 c
unfolding row kind_of_number
head_first version (Subvol uuid ctransid path) head is s = let c : Command = Subvol uuid ctransid path in spellable_first 1 c refl (fields_first version (row (kind_of c)).wanted (fields_of c) refl s.values)
head_first version (Snapshot uuid ctransid path clone_uuid clone_ctransid) head is s = let c : Command = Snapshot uuid ctransid path clone_uuid clone_ctransid in spellable_first 1 c refl (fields_first version (row (kind_of c)).wanted (fields_of c) refl s.values)
head_first version c head is s = cc

-- What is said of the head.
abbrev Said : Option Head → (Head → Type 0) → Type 0
Said o P = IfSome o P

of_head : (P : Head → Type 0) (o : Option Head) (head : Head) → o ≡ Some head → IfSome o P → P head
of_head P o head e p = subst (λ (x : Option Head). IfSome x P) e p

-- ---- it begins

pub begun_ready : (len : ℕ) (current : Opened) (head : Head) (o : Option Head) (old : Store (Option Place)) (new : StoreState) → o ≡ Some head → current.line ≡ complete_line (unfinished {S = Unit {0}} head)
    → IfSome o (λ h. BeginsIn (Ok current.part) h old new.core) → IsOpen len current.part new → IsReceiving len current new
unfolding complete_line
begun_ready len current head o old new e line begins is_open =
    let said = of_head (λ h. BeginsIn (Ok current.part) h old new.core) o head e begins in
    record { is_open = is_open; last = record { before = old; last = unfinished head; is = said.2; line_is = line } }

pub begun_room : (limit gate next : ℕ) (item : Item) (head : Head) → head_of item.command ≡ Some head → fill.first_full limit (head_asks gate (1 + length (canonical 1 item.command))) ≡ None
    → next ≡ gate_behind gate (1 + length (canonical 1 item.command)) + 27 → PiecesSay (Ok tt) limit gate next item
begun_room limit gate next item head is fits at =
    (has_room limit gate item (head_asks gate (1 + length (canonical 1 item.command))) (head_item gate item head is) fits, at ∙ sym (head_end gate item head is))

-- ---- or it does not

by_refusal : (item : Item) (head : Head) (old : Store (Option Place)) (new : State (Option Place)) (refusal : meant.Refusal) → begun old head ≡ Err refusal → new ≡ record { store = old; part = None }
    → entered old head (begun old head) ≡ record { state = new; refusal = Some refusal }
by_refusal item head old new refusal e same = ap (entered old head) e ∙ ap (λ (s : State (Option Place)). record { state = s; refusal = Some refusal }) (sym same)

pub not_begun : (same_disk : Type 0) (item : Item) (head : Head) (o : Option Head) (old new : StoreState) (current : Option Opened) (why : StoreStop) (r : Received) → o ≡ Some head → current ≡ None → r ≡ ended_by item why
    → IfSome o (λ h. BeginsIn (Err why) h old.core new.core) → IfRefused {T = Unit {0}} (Err why) (λ _. (new ≡ old) × same_disk)
    → StepSays (Err r) item (state_of new current) (entered old.core head (begun old.core head))
not_begun same_disk item head o old new current why r e none is begins same =
    subst (λ (x : Received). StepSays (Err x) item (state_of new current) (entered old.core head (begun old.core head))) (sym is)
    (by_stop why (of_head (λ h. BeginsIn (Err why) h old.core new.core) o head e begins) same)
  where
    by_stop : (w : StoreStop) → BeginsIn (Err w) head old.core new.core → IfRefused {T = Unit {0}} (Err w) (λ _. (new ≡ old) × same_disk) → StepSays (Err (ended_by item w)) item (state_of new current) (entered old.core head (begun old.core head))
    by_stop (stop.Refused refusal) said kept = record {
      refusal = refusal_of refusal;
      verdict_is = refl;
      after_is = by_refusal item head old.core (state_of new current) (refusal_of refusal) said (ap (state_of new) none ∙ ap (λ (s : StoreState). state_of s None) kept.0);
    }
    by_stop stop.NoMemory said kept = tt
    by_stop (stop.Log (log.LogFull end wanted limit)) said kept = ap (λ (x : Result (Subvolume (Option Place)) meant.Refusal). (entered old.core head x).refusal) said.1
    by_stop (stop.Log log.DiskFault) said kept = tt
    by_stop (stop.Log (log.NotStore group)) said kept = tt
    by_stop (stop.Log (log.StoreThere size)) said kept = tt

-- ---- of a disk that tells

module _ (header : Header) (groups : List Group) where
  pub none_yet : (due : List Group) (image : List ℕ) → HasThese header groups image → HasFront header groups due image
  none_yet due image has = record { first = []; more = due; all = refl; has = subst (λ (l : List Group). HasThese header l image) (sym (append-nil groups)) has }

  pub holds_now : {D : Type 0} {moment : D → ℕ} {left_since : D → ℕ → List ℕ → Type 0} {pending : Pending} (disk : D) (due : List Group) (store : StoreState) (seen : List ℕ)
      → Holds header groups store seen pending → ((image : List ℕ) → left_since disk (moment disk) image → IsImage pending image) → LeavesOnly moment left_since disk disk (HasFront header groups due)
  holds_now disk due store seen holds only = begins disk only (λ image is. none_yet due image (rests_has header (bodies_of groups) _ _ _ holds.rests image is))

  pub mark_moments : {D : Type 0} {moment : D → ℕ} {left_since : D → ℕ → List ℕ → Type 0} {old new : D} (c : Command) (head : Head) → head_of c ≡ Some head → LeavesOnly moment left_since old new (HasOneMore header groups (new_group (Mark c)))
      → LeavesOnly moment left_since old new (HasFront header groups (begun_by c))
  mark_moments {D} {moment} {left_since} {old} {new} c head is run =
      let shown : Option Head → List Group = λ o. elim o as (λ x. List Group) [ None ↦ [] | Some h ↦ mark_of c ∷ [] ] in
      subst (λ (o : Option Head). LeavesOnly moment left_since old new (HasFront header groups (shown o))) (sym is) (weakens run (λ image has. one_front header groups (mark_of c) image has))

  -- Where it is refused, there is no group of it.
  pub begin_moments : {D : Type 0} {moment : D → ℕ} {left_since : D → ℕ → List ℕ → Type 0} {old new : D} (c : Command) (head : Head) (core : Store (Option Place)) → head_of c ≡ Some head
      → LeavesOnly moment left_since old new (HasOneMore header groups (new_group (Mark c))) → IfSome (head_of c) (λ h. IsErr (begun core h) → LeavesOnly moment left_since old new (HasThese header groups))
      → LeavesOnly moment left_since old new (HasFront header groups (begun_if (entered core head (begun core head)) c))
  begin_moments {D} {moment} {left_since} {old} {new} c head core is run unmarked =
      let none = of_head (λ h. IsErr (begun core h) → LeavesOnly moment left_since old new (HasThese header groups)) (head_of c) head is unmarked in
      by_result (begun core head) none
    where
      by_result : (r : Result (Subvolume (Option Place)) meant.Refusal) → (IsErr r → LeavesOnly moment left_since old new (HasThese header groups)) → LeavesOnly moment left_since old new (HasFront header groups (begun_if (entered core head r) c))
      by_result (Ok start) none = mark_moments c head is run
      by_result (Err refusal) none = weakens (none refl) (λ image has. none_yet [] image has)

  -- Where there is no room, it has the groups for which there was room.
  full_marks : (limit gate : ℕ) (c : Command) (head : Head) (old new : StoreState) (seen image : List ℕ) (pending : Pending) (end wanted most : ℕ) → head_of c ≡ Some head
      → IfHeadShort {T = Unit {0}} (Err (stop.Log (log.LogFull end wanted most))) (fill.first_full limit (group_asks gate (1 + length (canonical 1 c)))) (Holds header groups old seen pending) (Holds header (groups ++ new_group (Mark c) ∷ []) new seen pending)
      → IsImage pending image → HasThese header (groups ++ marked limit gate c) image
  full_marks limit gate c head old new seen image pending end wanted most is held i =
      subst (λ (o : Option Due). HasThese header (groups ++ shown o (head_of c)) image) (sym (same_full limit (group_asks gate (1 + length (canonical 1 c)))))
      (subst (λ (o : Option Head). HasThese header (groups ++ shown (option_map (as_due limit) (fill.first_full limit (group_asks gate (1 + length (canonical 1 c))))) o) image) (sym is)
      (by_room (fill.first_full limit (group_asks gate (1 + length (canonical 1 c)))) held))
    where
      shown : Option Due → Option Head → List Group
      shown full o = elim full as (λ x. List Group) [ Some due ↦ [] | None ↦ elim o as (λ x. List Group) [ None ↦ [] | Some h ↦ mark_of c ∷ [] ] ]

      by_room : (o : Option Asked) → IfHeadShort {T = Unit {0}} (Err (stop.Log (log.LogFull end wanted most))) o (Holds header groups old seen pending) (Holds header (groups ++ new_group (Mark c) ∷ []) new seen pending)
          → HasThese header (groups ++ shown (option_map (as_due limit) o) (Some head)) image
      by_room None h = rests_has header (bodies_of (groups ++ new_group (Mark c) ∷ [])) _ _ _ h.rests image i
      by_room (Some asked) h = subst (λ (l : List Group). HasThese header l image) (sym (append-nil groups)) (rests_has header (bodies_of groups) _ _ _ h.rests image i)

  pub not_begun_keeps : {D : Type 0} (seen : D → List ℕ) (pending : D → Pending) (was now : D) (item : Item) (head : Head) (old new : StoreState) (current : Option Opened) (why : StoreStop) (r : Received) (all : List Group) (after : Option Begun)
      → head_of item.command ≡ Some head → current ≡ None → r ≡ ended_by item why → Holds header groups old (seen was) (pending was) → IfRefused {T = Unit {0}} (Err why) (λ _. (new ≡ old) × (now ≡ was))
      → IfHeadShort {T = Unit {0}} (Err why) (fill.first_full old.log.limit (group_asks old.log.gate (1 + length (canonical 1 item.command)))) (Holds header groups old (seen now) (pending now)) (Holds header (groups ++ new_group (Mark item.command) ∷ []) new (seen now) (pending now))
      → KeepsSays (Err r) (λ gs b. Keeps header gs b current new (seen now) (pending now)) (λ gs. (image : List ℕ) → IsImage (pending now) image → HasThese header gs image) groups (groups ++ marked old.log.limit old.log.gate item.command) all after
  not_begun_keeps {D} seen pending was now item head old new current why r all after is none e holds same held =
      subst (λ (x : Received). KeepsSays (Err x) (λ gs b. Keeps header gs b current new (seen now) (pending now)) (λ gs. (image : List ℕ) → IsImage (pending now) image → HasThese header gs image) groups (groups ++ marked old.log.limit old.log.gate item.command) all after) (sym e)
      (by_stop why same held)
    where
      by_stop : (w : StoreStop) → IfRefused {T = Unit {0}} (Err w) (λ _. (new ≡ old) × (now ≡ was))
          → IfHeadShort {T = Unit {0}} (Err w) (fill.first_full old.log.limit (group_asks old.log.gate (1 + length (canonical 1 item.command)))) (Holds header groups old (seen now) (pending now)) (Holds header (groups ++ new_group (Mark item.command) ∷ []) new (seen now) (pending now))
          → KeepsSays (Err (ended_by item w)) (λ gs b. Keeps header gs b current new (seen now) (pending now)) (λ gs. (image : List ℕ) → IsImage (pending now) image → HasThese header gs image) groups (groups ++ marked old.log.limit old.log.gate item.command) all after
      by_stop (stop.Refused refusal) kept short = (None, subst (λ (c : Option Opened). Keeps header groups None c new (seen now) (pending now)) (sym none) short_held)
        where
          short_held : Holds header groups new (seen now) (pending now)
          short_held = subst (λ (x : StoreState). Holds header groups x (seen now) (pending now)) (sym kept.0) short
      by_stop stop.NoMemory kept short = tt
      by_stop (stop.Log (log.LogFull end wanted limit)) kept short = λ image i. full_marks old.log.limit old.log.gate item.command head old new (seen now) image (pending now) end wanted limit is short i
      by_stop (stop.Log log.DiskFault) kept short = tt
      by_stop (stop.Log (log.NotStore group)) kept short = tt
      by_stop (stop.Log (log.StoreThere size)) kept short = tt
