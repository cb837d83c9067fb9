-- The open part is completed.
use Rattle.std.specs.Prelude.{◌≡◌, ℕ, true, List, [], ◌∷◌, ◌++◌, map, take, drop, Option, None, Some, Ok, Err}
use Rattle.std.specs.Io.KnownBytes.{Appends}
use Rattle.std.proofs.Common.{refl, sym, ap, subst, ◌∙◌, arith, append-nil, length-drop}
use Rattle.std.proofs.lemmas.List.{take-append-drop}
use Rattle.sx_base.specs.Crash.{LeavesOnly}
use Rattle.sx_base.specs.declared.disk.Disk as keeping
use Rattle.sx_base.specs.Outside.{AppendsPart}
use Rattle.sx_base.proofs.DiskMoments.{weakens}
use Rattle.sx_base.specs.declared.outcome.Outcome.TheVariants as ended
use Rattle.send_model.specs.Store.{Store, Part, with_contents, completed}
use Rattle.store_model.specs.Image.{Header}
use Rattle.store_model.specs.Stored.{Group, Body, body_at, made}
use Rattle.store_model.specs.Turns.{Receiving, Taken, Event, Completes, completed_parts, part_uuid, part_of, part_line, lines_of, group_of_event, turn_groups}
use Rattle.store_model.specs.TurnDues.{event_pieces}
use Rattle.store_model.proofs.TurnMaking.{made_back}
use Rattle.auditor.specs.Following.{blank}
use Rattle.group_log.specs.declared.stops.LogStop.TheVariants as log
use Rattle.group_replay.specs.declared.place.Place.{Place}
use Rattle.group_replay.specs.declared.stops.StoreStop.{StoreStop}
use Rattle.group_replay.specs.declared.stops.StoreStop.TheVariants as stop
use Rattle.group_replay.specs.Stopping.{IfLog, IsNoRefusal}
use Rattle.group_replay.specs.Taking.{as_runs}
use Rattle.store_journal.specs.Filling as fill
use Rattle.store_journal.specs.Filling.{Asked, IsStopOf}
use Rattle.store_journal.specs.Shown.{StoreState}
use Rattle.store_journal.proofs.Rooms.{as_piece}
use Rattle.store_journal.specs.Holding.{new_group, HasThese, HasOneMore, Holds}
use Rattle.receiver.specs.declared.outcome.Received.TheVariants as how
use Rattle.receiver.specs.Disks.{HasFront}
use Rattle.receiver.proofs.ClosedParts.{one_front}
use Rattle.receiver.proofs.BegunParts.{none_yet}
use Rattle.turn_sessions.specs.declared.part.OpenPart.{OpenPart}
use Rattle.turn_sessions.specs.Edits.{AreFrames, IsCompletedBy, body_asks, body_end, IfLogFull}
use Rattle.turn_sessions.specs.Standing.{Blank, blank_put, edits_of, IsPart, AreParts, IsHeld}
use Rattle.turn_sessions.specs.Doing.{stopped_as}
use Rattle.turn_sessions.specs.Turning.{closing}
use Rattle.turn_sessions.proofs.Unpacked.{HasDone, HasStopped, IsClosed, CloseSays}
use Rattle.turn_sessions.proofs.Nothings.{OnlyNow, CountsNow, nothing_done, unsure_stopped}
use Rattle.turn_sessions.proofs.Blanks.{runs_blank}
use Rattle.turn_sessions.proofs.Rooms.{body_pieces, body_gate, has_room, no_room}

-- ---- the part that is open

pub none_is : (p : Option (Receiving Blank)) (current : Option OpenPart) → None ≡ current → AreParts p current → p ≡ None
none_is None current e a = refl
none_is (Some r) None e a = absurd a
none_is (Some r) (Some o) e a = cc

-- the part of the definitions
pub record IsOf (p : Option (Receiving Blank)) (o : OpenPart) : Type 0 where
  pub r : Receiving Blank
  pub is : p ≡ Some r
  pub part : IsPart r o

pub one_is : (p : Option (Receiving Blank)) (current : Option OpenPart) (o : OpenPart) → Some o ≡ current → AreParts p current → IsOf p o
one_is None current o e a = absurd (nothing current e a)
  where
    nothing : (c : Option OpenPart) → Some o ≡ c → AreParts None c → ⊥
    nothing None q a = cc
    nothing (Some x) q a = a
one_is (Some r) current o e a = record { r = r; is = refl; part = subst (λ (c : Option OpenPart). AreParts (Some r) c) (sym e) a }

-- ---- its group

pub record IsWritten (r : Receiving Blank) (o : OpenPart) (store : StoreState) (uuid : List ℕ) : Type 0 where
  pub new : Store (Option Place)
  pub frames : AreFrames o.version o.frames (edits_of r)
  pub completes : IsCompletedBy o.version uuid store (edits_of r) new
  pub blank_is : blank new ≡ with_contents r.part.key.uuid r.part.subvolume (blank store.core)
  pub group_is : new_group (Body uuid o.version (edits_of r)) ≡ group_of_event (Completes r.taken)

pub own_uuid : (r : Receiving Blank) (o : OpenPart) → IsPart r o → part_uuid r.taken ≡ o.part.key.uuid
own_uuid r o is = is.uuid ∙ ap (λ (p : Part Blank). p.key.uuid) is.part

pub body_written : (r : Receiving Blank) (o : OpenPart) (store : StoreState) (uuid : List ℕ) → IsPart r o → uuid ≡ o.part.key.uuid → IsHeld (blank store.core) r → IsWritten r o store uuid
body_written r o store uuid is own held =
    let real = made_back (λ (c : Option Place). tt) None as_runs blank_put runs_blank store.log.gate store.core (group_of_event (Completes r.taken)) (with_contents r.part.key.uuid r.part.subvolume (blank store.core)) (held (body_at store.log.gate)) in
    let uuid_is : part_uuid r.taken ≡ uuid = own_uuid r o is ∙ sym own in
    record {
      new = real.0;
      frames = record { lawful = is.lawful; spelled = is.frames };
      completes = subst (λ (v : ℕ). made None as_runs (body_at store.log.gate) store.core (Body uuid v (edits_of r)) ≡ Some real.0) is.version
          (subst (λ (u : List ℕ). made None as_runs (body_at store.log.gate) store.core (Body u r.taken.head.version (edits_of r)) ≡ Some real.0) uuid_is real.1);
      blank_is = real.2;
      group_is = λ i. record { content = Body (sym uuid_is i) (sym is.version i) (edits_of r); is_sealed = true };
    }

-- ---- it is complete

one_line : (t : Taken) → lines_of (Completes t ∷ []) ≡ part_line t
unfolding lines_of completed_parts
one_line t = append-nil (part_line t)

module _ {D : Type 0} (ghosts : keeping.Ghosts D) where
  pub none_closed : (disk : D) (store : StoreState) (out : Option (List ℕ)) (p : Option (Receiving Blank)) → OnlyNow ghosts disk → p ≡ None
      → CloseSays ghosts disk disk store store out out p (Ok tt)
  unfolding completed
  none_closed disk store out p only none =
      subst (λ (q : Option (Receiving Blank)). IsClosed ghosts disk disk store store out out q) (sym none) (record { store = refl; done = nothing_done ghosts disk store out only })

  module _ (old new : D) (was now : StoreState) (out next : Option (List ℕ)) (o : OpenPart) (uuid : List ℕ) (r : Receiving Blank) (is : IsPart r o) (own : uuid ≡ o.part.key.uuid) (held : IsHeld (blank was.core) r) where
    abbrev pub w : IsWritten r o was uuid
    w = body_written r o was uuid is own held

    abbrev pub event : Event
    event = Completes r.taken

    abbrev pub asks : List Asked
    asks = body_asks o.version was.log.gate (edits_of r)

    asks_are : body_asks r.taken.head.version was.log.gate (edits_of r) ≡ asks
    asks_are = ap (λ (v : ℕ). body_asks v was.log.gate (edits_of r)) is.version

    groups_are : (groups : List Group) → groups ++ new_group (Body uuid o.version (edits_of r)) ∷ [] ≡ groups ++ turn_groups (event ∷ [])
    unfolding turn_groups
    groups_are groups = ap (λ (g : Group). groups ++ g ∷ []) w.group_is

    pieces : event_pieces was.log.gate event ≡ map as_piece asks
    pieces = body_pieces was.log.gate r.taken ∙ ap (λ (l : List Asked). map as_piece l) asks_are

    moments_are : (header : Header) (groups : List Group) → LeavesOnly ghosts.moment ghosts.left_since old new (HasOneMore header groups (new_group (Body uuid o.version (edits_of r)))) → LeavesOnly ghosts.moment ghosts.left_since old new (HasFront header groups (turn_groups (event ∷ [])))
    unfolding turn_groups
    moments_are header groups run = weakens run (λ image has. one_front header groups (group_of_event event) image (subst (λ (g : Group). HasOneMore header groups g image) w.group_is has))

    abbrev pub Moments : Type 0
    Moments = ghosts.tells → (header : Header) (groups : List Group) → Holds header groups was (ghosts.seen old) (ghosts.pending old) → LeavesOnly ghosts.moment ghosts.left_since old new (HasOneMore header groups (new_group (Body uuid o.version (edits_of r))))

    abbrev pub HoldsMore : Type 0
    HoldsMore = ghosts.tells → (header : Header) (groups : List Group) → Holds header groups was (ghosts.seen old) (ghosts.pending old) → Holds header (groups ++ new_group (Body uuid o.version (edits_of r)) ∷ []) now (ghosts.seen new) (ghosts.pending new)

    pub closed_core : (p : Option (Receiving Blank)) → p ≡ Some r → now.core ≡ w.new → blank now.core ≡ completed (record { store = blank was.core; part = part_of p })
    unfolding completed
    closed_core p own core = ap (λ (c : Store (Option Place)). blank c) core ∙ w.blank_is ∙ ap (λ (q : Option (Receiving Blank)). completed (record { store = blank was.core; part = part_of q })) (sym own)

    done_one : now.log.gate ≡ body_end o.version was.log.gate (edits_of r) → now.log.limit ≡ was.log.limit → fill.first_full was.log.limit asks ≡ None → HoldsMore → Moments → Appends out next o.line
        → HasDone ghosts old new was now out next (event ∷ [])
    done_one gate limit fits holds moments wrote = record {
      wrote = subst (λ (l : List ℕ). Appends out next l) (is.line ∙ sym (one_line r.taken)) wrote;
      room = has_room was.log.limit was.log.gate event asks pieces fits;
      gate = gate ∙ ap (λ (v : ℕ). body_end v was.log.gate (edits_of r)) (sym is.version) ∙ sym (body_gate was.log.gate r.taken);
      limit = limit;
      disk = λ is_told header groups h. (
        subst (λ (l : List Group). Holds header l now (ghosts.seen new) (ghosts.pending new)) (groups_are groups) (holds is_told header groups h),
        moments_are header groups (moments is_told header groups h),
      );
    }

    pub closed_ok : (p : Option (Receiving Blank)) → p ≡ Some r → now.core ≡ w.new → now.log.gate ≡ body_end o.version was.log.gate (edits_of r) → now.log.limit ≡ was.log.limit
        → fill.first_full was.log.limit asks ≡ None → HoldsMore → Moments → Appends out next o.line → CloseSays ghosts old new was now out next p (Ok tt)
    closed_ok p own core gate limit fits holds moments wrote = record {
      store = closed_core p own core;
      done = subst (λ (q : Option (Receiving Blank)). HasDone ghosts old new was now out next (closing q)) (sym own) (done_one gate limit fits holds moments wrote);
    }

    -- The line could not be written, or not all of it.
    pub closed_cut : (p : Option (Receiving Blank)) → p ≡ Some r → HoldsMore → Moments → AppendsPart out next o.line → CloseSays ghosts old new was now out next p (Err (how.Files ended.OutputFault))
    closed_cut p own holds moments part =
        subst (λ (q : Option (Receiving Blank)). HasStopped ghosts old new was now out next (how.Files ended.OutputFault) (closing q)) (sym own) (record {
          done = event ∷ [];
          more = [];
          all = refl;
          lines = take part.0 o.line;
          unwritten = drop part.0 o.line;
          printed = one_line r.taken ∙ sym is.line ∙ sym (take-append-drop part.0 o.line);
          wrote = part.2;
          reason = let some = part.1 in omega (arith, some, length-drop part.0 o.line);
          disk = λ is_told header groups h. (
            subst (λ (l : List Group). Holds header l now (ghosts.seen new) (ghosts.pending new)) (groups_are groups) (holds is_told header groups h),
            moments_are header groups (moments is_told header groups h),
          );
        })

    -- The group could not be written.
    pub closed_stopped : (cause : Type 0) (p : Option (Receiving Blank)) (why : StoreStop) → p ≡ Some r → IsNoRefusal why → CountsNow ghosts old new
        → IfLog {T = Unit {0}} (Err why) (IsStopOf cause was.log.limit (fill.first_full was.log.limit asks)) → Moments
        → (ghosts.tells → (header : Header) (groups : List Group) → Holds header groups was (ghosts.seen old) (ghosts.pending old) → IfLogFull {T = Unit {0}} (Err why) (LeavesOnly ghosts.moment ghosts.left_since old new (HasThese header groups)))
        → Appends out next [] → CloseSays ghosts old new was now out next p (Err (stopped_as why))
    unfolding turn_groups
    closed_stopped cause p why own refuses counts stops moments none wrote =
        subst (λ (q : Option (Receiving Blank)). HasStopped ghosts old new was now out next (stopped_as why) (closing q)) (sym own) (by_stop why refuses stops none)
      where
        all : ghosts.tells → (header : Header) (groups : List Group) → Holds header groups was (ghosts.seen old) (ghosts.pending old) → LeavesOnly ghosts.moment ghosts.left_since old new (HasFront header groups (turn_groups (event ∷ [])))
        all is_told header groups h = moments_are header groups (moments is_told header groups h)

        by_stop : (x : StoreStop) → IsNoRefusal x → IfLog {T = Unit {0}} (Err x) (IsStopOf cause was.log.limit (fill.first_full was.log.limit asks))
            → (ghosts.tells → (header : Header) (groups : List Group) → Holds header groups was (ghosts.seen old) (ghosts.pending old) → IfLogFull {T = Unit {0}} (Err x) (LeavesOnly ghosts.moment ghosts.left_since old new (HasThese header groups)))
            → HasStopped ghosts old new was now out next (stopped_as x) (event ∷ [])
        by_stop (stop.Refused refusal) n s f = absurd n
        by_stop stop.NoMemory n s f = unsure_stopped ghosts old new was now out next (how.Files ended.NoMemory) (event ∷ []) tt wrote counts tt all
        by_stop (stop.Log log.DiskFault) n s f = unsure_stopped ghosts old new was now out next how.StoreFault (event ∷ []) tt wrote counts tt all
        by_stop (stop.Log (log.NotStore group)) n s f = unsure_stopped ghosts old new was now out next how.StoreFault (event ∷ []) tt wrote counts tt all
        by_stop (stop.Log (log.StoreThere size)) n s f = unsure_stopped ghosts old new was now out next how.StoreFault (event ∷ []) tt wrote counts tt all
        by_stop (stop.Log (log.LogFull end wanted limit)) n s f =
            unsure_stopped ghosts old new was now out next (how.LogFull end wanted limit) (event ∷ []) tt wrote counts (refl, no_room was.log.limit was.log.gate event asks pieces cause end wanted limit s)
            (λ is_told header groups h. weakens (f is_told header groups h) (λ image has. none_yet header groups [] image has))
