-- The open part is edited, or the edit is refused, or there is no room for it.
use Rattle.std.specs.Prelude.{◌≡◌, ℕ, ◌+◌, Bool, true, false, List, [], ◌∷◌, ◌++◌, length, Option, None, Some, Result, Ok, Err, if◌then◌else◌}
use Rattle.std.proofs.Common.{inr, refl, sym, ap, subst, ◌∙◌}
use Rattle.sx_base.specs.Disk.{Pending, IsImage}
use Rattle.sx_base.specs.Crash.{LeavesOnly}
use Rattle.sx_base.proofs.DiskMoments.{begins, weakens}
use Rattle.sx_base.specs.Refusals.{refusal_of}
use Rattle.sx_base.specs.declared.outcome.Verdict.{Verdict}
use Rattle.sx_base.specs.declared.refusal.Refusal.TheVariants as made
use Rattle.send_model.specs.Refusal as meant
use Rattle.send_model.specs.Subvolume.{Subvolume}
use Rattle.send_model.specs.Command.{Command}
use Rattle.send_model.specs.Spelling.{canonical}
use Rattle.send_model.specs.Reading.{Item}
use Rattle.send_model.specs.Store.{Head, Part, edited, edit_part, step_edit}
use Rattle.clone_resolve.specs.Steps.{cells_put}
use Rattle.store_model.specs.Image.{Header}
use Rattle.store_model.specs.Stored.{Group, is_edit}
use Rattle.store_model.specs.Written.{Begun, and_command, begun_after}
use Rattle.store_model.proofs.WrittenGroups.{edit_facts}
use Rattle.group_log.proofs.GatedGroups.{rests_has}
use Rattle.group_log.specs.declared.stops.LogStop.TheVariants as log
use Rattle.group_replay.specs.declared.place.Place.{Place}
use Rattle.group_replay.specs.Placing.{further}
use Rattle.group_replay.specs.declared.stops.StoreStop.{StoreStop}
use Rattle.group_replay.specs.declared.stops.StoreStop.TheVariants as stop
use Rattle.group_replay.specs.Stopping.{IfRefused, IfEnded, IfLog}
use Rattle.store_journal.specs.Filling as fill
use Rattle.store_journal.specs.Filling.{piece_asks}
use Rattle.store_journal.specs.Shown.{StoreState, IsOpen}
use Rattle.store_journal.specs.Holding.{bodies_of, HasThese}
use Rattle.store_journal.proofs.Unpacked.{Builds}
use Rattle.store_journal.specs.Answers.{EditsIn, IfShort}
use Rattle.receiver.specs.declared.opened.Opened.{Opened}
use Rattle.receiver.specs.declared.outcome.Received.{Received}
use Rattle.receiver.specs.Standing.{state_of, place_of, IsReceiving, IsReady}
use Rattle.receiver.specs.Disks.{HasVersion, HasFront}
use Rattle.receiver.specs.Answers.{ended_by, IsRefusedWith, StepSays, PiecesSay, ReadySays}
use Rattle.receiver.proofs.Unpacked.{Keeps, KeepsSays}
use Rattle.receiver.proofs.ClosedParts.{none_held, one_built}
use Rattle.receiver.proofs.RoomLaws.{edit_item, edit_end, has_room, no_room}
use Rattle.receiver.proofs.BegunParts.{none_yet}
use Rattle.receiver.proofs.FollowedItems.{keeps_has}

-- The part and its line again.
abbrev pub with_part : Part (Option Place) → Opened → Opened
with_part part o = record { part = part; line = o.line }

-- ---- no part is open

abbrev pub no_part : ℕ → Item → Verdict
no_part file item = record { file = file; command = item.number; offset = item.offset; refusal = made.NoSubvolume }

pub none_edited : (item : Item) (verdict : Verdict) (store : StoreState) (current after : Option Opened) → None ≡ current → after ≡ None → verdict ≡ no_part item.file item
    → (place : Place) × IsRefusedWith verdict item (state_of store after) (step_edit None (cells_put further place item.command) (state_of store current) item.command)
unfolding step_edit
none_edited item verdict store current after e taken is = (
  record { at = 0 },
  subst (λ (a : Option Opened). IsRefusedWith verdict item (state_of store a) (step_edit None (cells_put further (record { at = 0 }) item.command) (state_of store current) item.command)) (sym taken)
      (subst (λ (c : Option Opened). IsRefusedWith verdict item (state_of store None) (step_edit None (cells_put further (record { at = 0 }) item.command) (state_of store c) item.command)) e (record {
        refusal = meant.NoSubvolume;
        verdict_is = ap (λ (v : Verdict). record { file = v.file; command = v.command; offset = v.offset; refusal = refusal_of v.refusal }) is;
        after_is = refl;
      })),
)

-- ---- a part is open

same_part : (part : Part (Option Place)) (o : Opened) → part.key ≡ o.part.key → part.subvolume ≡ o.part.subvolume → with_part part o ≡ o
same_part part o key sub = λ i. record { part = record { key = key i; subvolume = sub i }; line = o.line }

pub one_edited : (c : Command) (place : Place) (old new : StoreState) (current : Option Opened) (o : Opened) (part : Part (Option Place)) → Some o ≡ current → part.key ≡ o.part.key → new.core ≡ old.core
    → edit_part None (cells_put further place c) old.core o.part c ≡ Ok part.subvolume
    → step_edit None (cells_put further place c) (state_of old current) c ≡ record { state = state_of new (Some (with_part part o)); refusal = None }
unfolding step_edit
one_edited c place old new current o part e key core is =
    subst (λ (x : Option Opened). step_edit None (cells_put further place c) (state_of old x) c ≡ record { state = state_of new (Some (with_part part o)); refusal = None }) e
    (ap (λ (r : Result (Subvolume (Option Place)) meant.Refusal). edited old.core o.part r) is
    ∙ (λ i. record { state = record { store = sym core i; part = Some (record { key = sym key i; subvolume = part.subvolume }) }; refusal = None }))

pub not_edited : (same_disk : Type 0) (item : Item) (place : Place) (old new : StoreState) (current : Option Opened) (o : Opened) (part : Part (Option Place)) (why : StoreStop) (r : Received) → Some o ≡ current → part.key ≡ o.part.key → r ≡ ended_by item why
    → EditsIn {A = Unit {0}} (Err why) o.part part (edit_part None (cells_put further place item.command) old.core o.part item.command) → IfRefused {T = Unit {0}} (Err why) (λ _. (new ≡ old) × same_disk)
    → StepSays (Err r) item (state_of new (Some (with_part part o))) (step_edit None (cells_put further place item.command) (state_of old current) item.command)
unfolding step_edit
not_edited same_disk item place old new current o part why r e key is says same =
    subst (λ (x : Received). StepSays (Err x) item (state_of new (Some (with_part part o))) (step_edit None put (state_of old current) item.command)) (sym is)
    (subst (λ (x : Option Opened). StepSays (Err (ended_by item why)) item (state_of new (Some (with_part part o))) (step_edit None put (state_of old x) item.command)) e (by_stop why says same))
  where
    put : List (Option Place)
    put = cells_put further place item.command

    by_stop : (w : StoreStop) → EditsIn {A = Unit {0}} (Err w) o.part part (edit_part None put old.core o.part item.command) → IfRefused {T = Unit {0}} (Err w) (λ _. (new ≡ old) × same_disk)
        → StepSays (Err (ended_by item w)) item (state_of new (Some (with_part part o))) (step_edit None put (state_of old (Some o)) item.command)
    by_stop (stop.Refused refusal) said kept = record {
      refusal = refusal_of refusal;
      verdict_is = refl;
      after_is = ap (λ (x : Result (Subvolume (Option Place)) meant.Refusal). edited old.core o.part x) said.0
          ∙ (λ i. record { state = state_of (sym kept.0 i) (Some (sym (same_part part o key said.1) i)); refusal = Some (refusal_of refusal) });
    }
    by_stop stop.NoMemory said kept = tt
    by_stop (stop.Log (log.LogFull end wanted limit)) said kept = ap (λ (x : Result (Subvolume (Option Place)) meant.Refusal). (edited old.core o.part x).refusal) said
    by_stop (stop.Log log.DiskFault) said kept = tt
    by_stop (stop.Log (log.NotStore group)) said kept = tt
    by_stop (stop.Log (log.StoreThere size)) said kept = tt

-- ---- the room

pub edit_room : (limit next : ℕ) (item : Item) (old : StoreState) (current : Option Opened) (o : Opened) → Some o ≡ current → is_edit item.command ≡ true
    → fill.first_full limit (piece_asks old.log.size (length (canonical item.version item.command))) ≡ None → next ≡ old.log.size + length (canonical item.version item.command) → PiecesSay (Ok tt) limit (place_of old current) next item
edit_room limit next item old current o e edits fits at =
    let facts = edit_facts item.command edits in
    subst (λ (c : Option Opened). PiecesSay (Ok tt) limit (place_of old c) next item) e
    (has_room limit old.log.size item (piece_asks old.log.size (length (canonical item.version item.command))) (edit_item old.log.size item facts.0 facts.1) fits, at ∙ sym (edit_end old.log.size item facts.0 facts.1))

pub no_edit_room : (cause : Type 0) (limit next : ℕ) (item : Item) (old : StoreState) (current : Option Opened) (o : Opened) (why : StoreStop) (r : Received) → Some o ≡ current → r ≡ ended_by item why → is_edit item.command ≡ true
    → IfLog {T = Unit {0}} (Err why) (fill.IsStopOf cause limit (fill.first_full limit (piece_asks old.log.size (length (canonical item.version item.command))))) → PiecesSay (Err r) limit (place_of old current) next item
no_edit_room cause limit next item old current o why r e is edits stops =
    let facts = edit_facts item.command edits in
    subst (λ (x : Received). PiecesSay (Err x) limit (place_of old current) next item) (sym is)
    (subst (λ (c : Option Opened). PiecesSay (Err (ended_by item why)) limit (place_of old c) next item) e
    (no_room cause limit old.log.size next item (piece_asks old.log.size (length (canonical item.version item.command))) why (edit_item old.log.size item facts.0 facts.1) stops))

-- ---- what stands then

received_of : (len : ℕ) (current : Option Opened) (o : Opened) (store : StoreState) → Some o ≡ current → IsReady len current store → IsReceiving len o store
received_of len current o store e ready = subst (λ (c : Option Opened). IsReady len c store) (sym e) ready

pub edit_ready : (before len : ℕ) (old new : StoreState) (current : Option Opened) (o : Opened) (part : Part (Option Place)) → Some o ≡ current → IsReady before current old → new.core ≡ old.core → IsOpen len part new
    → IsReceiving len (with_part part o) new
edit_ready before len old new current o part e ready core is_open =
    let was = received_of before current o old e ready in
    record { is_open = is_open; last = record { before = was.last.before; last = was.last.last; is = core ∙ was.last.is; line_is = was.last.line_is } }

pub not_edit_ready : {D : Type 0} (size : D → ℕ) (was now : D) (item : Item) (old new : StoreState) (current : Option Opened) (o : Opened) (part : Part (Option Place)) (said : Result (Subvolume (Option Place)) meant.Refusal) (why : StoreStop) (r : Received)
    → Some o ≡ current → part.key ≡ o.part.key → r ≡ ended_by item why → IsReady (size was) current old → EditsIn {A = Unit {0}} (Err why) o.part part said → IfRefused {T = Unit {0}} (Err why) (λ _. (new ≡ old) × (now ≡ was))
    → IfEnded {T = Unit {0}} (Err why) (new.is_live ≡ false) → ReadySays (Err r) (size now) (Some (with_part part o)) new
not_edit_ready {D} size was now item old new current o part said why r e key is ready says same dead =
    subst (λ (x : Received). ReadySays (Err x) (size now) (Some (with_part part o)) new) (sym is) (by_stop why says same dead)
  where
    by_stop : (w : StoreStop) → EditsIn {A = Unit {0}} (Err w) o.part part said → IfRefused {T = Unit {0}} (Err w) (λ _. (new ≡ old) × (now ≡ was)) → IfEnded {T = Unit {0}} (Err w) (new.is_live ≡ false)
        → ReadySays (Err (ended_by item w)) (size now) (Some (with_part part o)) new
    by_stop (stop.Refused refusal) edits kept ended =
        let before = received_of (size was) current o old e ready in
        subst (λ (x : Opened). IsReceiving (size now) x new) (sym (same_part part o key edits.1))
        (subst (λ (x : StoreState). IsReceiving (size now) o x) (sym kept.0) (subst (λ (d : D). IsReceiving (size d) o old) (sym kept.1) before))
    by_stop stop.NoMemory edits kept ended = inr ended
    by_stop (stop.Log (log.LogFull end wanted limit)) edits kept ended = ended
    by_stop (stop.Log log.DiskFault) edits kept ended = ended
    by_stop (stop.Log (log.NotStore group)) edits kept ended = ended
    by_stop (stop.Log (log.StoreThere size)) edits kept ended = ended

-- ---- of a disk that tells

pub after_edit : (b : Begun) (item : Item) → is_edit item.command ≡ true → begun_after (Some b) item ≡ Some (and_command item.command b)
after_edit b item edits =
    let facts = edit_facts item.command edits in
    let shown : Option Head → Bool → Option Begun = λ o ends. elim o as (λ x. Option Begun) [
      | Some head ↦ Some (record { uuid = head.key.uuid; version = item.version; commands = [] })
      | None ↦ if ends then None else Some (and_command item.command b)
    ] in
    λ i. shown (facts.0 i) (facts.1 i)

module _ (header : Header) (groups : List Group) where
  pub edit_keeps : (item : Item) (begun : Option Begun) (old new : StoreState) (current : Option Opened) (o : Opened) (part : Part (Option Place)) (seen now : List ℕ) (pending known : Pending) → Some o ≡ current → part.key ≡ o.part.key
      → is_edit item.command ≡ true → HasVersion item.version begun → Keeps header groups begun current old seen pending
      → ((commands : List Command) → Builds header groups item.version commands o.part old seen pending → Builds header groups item.version (commands ++ item.command ∷ []) part new now known)
      → Keeps header groups (begun_after begun item) (Some (with_part part o)) new now known
  edit_keeps item begun old new current o part seen now pending known e key edits same keeps builds =
      let b = one_built header groups begun current o old seen pending e keeps in
      let version : b.0.version ≡ item.version = subst (λ (x : Option Begun). HasVersion item.version x) b.1 same in
      let was : Builds header groups item.version b.0.commands o.part old seen pending = subst (λ (n : ℕ). Builds header groups n b.0.commands o.part old seen pending) version b.2.builds in
      let more : Builds header groups b.0.version (b.0.commands ++ item.command ∷ []) part new now known = subst (λ (n : ℕ). Builds header groups n (b.0.commands ++ item.command ∷ []) part new now known) (sym version) (builds b.0.commands was) in
      subst (λ (x : Option Begun). Keeps header groups x (Some (with_part part o)) new now known) (sym (ap (λ (x : Option Begun). begun_after x item) b.1 ∙ after_edit b.0 item edits))
      (record { uuid = b.2.uuid ∙ ap (λ k. k.uuid) (sym key); builds = more })

  pub edit_moments : {D : Type 0} {moment : D → ℕ} {left_since : D → ℕ → List ℕ → Type 0} {old new : D} (item : Item) (begun : Option Begun) (store : StoreState) (current : Option Opened) (o : Opened) (seen : List ℕ) (pending : Pending) → Some o ≡ current
      → HasVersion item.version begun → Keeps header groups begun current store seen pending
      → ((commands : List Command) → Builds header groups item.version commands o.part store seen pending → LeavesOnly moment left_since old new (HasThese header groups))
      → LeavesOnly moment left_since old new (HasFront header groups [])
  edit_moments item begun store current o seen pending e same keeps run =
      let b = one_built header groups begun current o store seen pending e keeps in
      let version : b.0.version ≡ item.version = subst (λ (x : Option Begun). HasVersion item.version x) b.1 same in
      weakens (run b.0.commands (subst (λ (n : ℕ). Builds header groups n b.0.commands o.part store seen pending) version b.2.builds)) (λ image has. none_yet header groups [] image has)

  pub not_edit_keeps : {D : Type 0} (seen : D → List ℕ) (pending : D → Pending) (was now : D) (item : Item) (begun : Option Begun) (old new : StoreState) (current : Option Opened) (o : Opened) (part : Part (Option Place)) (said : Result (Subvolume (Option Place)) meant.Refusal) (why : StoreStop) (r : Received) (after : Option Begun)
      → Some o ≡ current → part.key ≡ o.part.key → r ≡ ended_by item why → Keeps header groups begun current old (seen was) (pending was) → EditsIn {A = Unit {0}} (Err why) o.part part said
      → IfRefused {T = Unit {0}} (Err why) (λ _. (new ≡ old) × (now ≡ was)) → IfShort {T = Unit {0}} (Err why) (now ≡ was)
      → KeepsSays (Err r) (λ groups b. Keeps header groups b (Some (with_part part o)) new (seen now) (pending now)) (λ gs. (image : List ℕ) → IsImage (pending now) image → HasThese header gs image) groups groups groups after
  not_edit_keeps {D} seen pending was now item begun old new current o part said why r after e key is keeps says same short =
      subst (λ (x : Received). KeepsSays (Err x) (λ groups b. Keeps header groups b (Some (with_part part o)) new (seen now) (pending now)) (λ gs. (image : List ℕ) → IsImage (pending now) image → HasThese header gs image) groups groups groups after) (sym is) (by_stop why says same short)
    where
      by_stop : (w : StoreStop) → EditsIn {A = Unit {0}} (Err w) o.part part said → IfRefused {T = Unit {0}} (Err w) (λ _. (new ≡ old) × (now ≡ was)) → IfShort {T = Unit {0}} (Err w) (now ≡ was)
          → KeepsSays (Err (ended_by item w)) (λ groups b. Keeps header groups b (Some (with_part part o)) new (seen now) (pending now)) (λ gs. (image : List ℕ) → IsImage (pending now) image → HasThese header gs image) groups groups groups after
      by_stop (stop.Refused refusal) edits kept same_disk =
          let here : Keeps header groups begun (Some o) old (seen was) (pending was) = subst (λ (c : Option Opened). Keeps header groups begun c old (seen was) (pending was)) (sym e) keeps in (
            begun,
            subst (λ (x : Opened). Keeps header groups begun (Some x) new (seen now) (pending now)) (sym (same_part part o key edits.1))
                (subst (λ (x : StoreState). Keeps header groups begun (Some o) x (seen now) (pending now)) (sym kept.0)
                (subst (λ (d : D). Keeps header groups begun (Some o) old (seen d) (pending d)) (sym kept.1) here)),
          )
      by_stop stop.NoMemory edits kept same_disk = tt
      by_stop (stop.Log (log.LogFull end wanted limit)) edits kept same_disk = λ image i. keeps_has header groups begun current old (seen was) (pending was) image keeps (subst (λ (d : D). IsImage (pending d) image) same_disk i)
      by_stop (stop.Log log.DiskFault) edits kept same_disk = tt
      by_stop (stop.Log (log.NotStore group)) edits kept same_disk = tt
      by_stop (stop.Log (log.StoreThere size)) edits kept same_disk = tt

  -- before any call
  pub none_edit_moments : {D : Type 0} {moment : D → ℕ} {left_since : D → ℕ → List ℕ → Type 0} {pending : Pending} (disk : D) (begun : Option Begun) (current : Option Opened) (store : StoreState) (seen : List ℕ) → None ≡ current
      → Keeps header groups begun current store seen pending → ((image : List ℕ) → left_since disk (moment disk) image → IsImage pending image)
      → LeavesOnly moment left_since disk disk (HasFront header groups [])
  none_edit_moments disk begun current store seen e keeps only =
      let held = none_held header groups begun current store seen _ e keeps in
      begins disk only (λ image is. none_yet header groups [] image (rests_has header (bodies_of groups) _ _ _ held.1.rests image is))
