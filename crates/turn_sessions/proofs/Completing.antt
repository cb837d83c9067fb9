-- The group of a part is written and published.
use Rattle.std.specs.Prelude.{◌≡◌, ℕ, ◌+◌, Bool, true, false, List, [], ◌∷◌, ◌++◌, length, Option, None, Some, Err, nat_lt, if◌then◌else◌}
use Rattle.std.proofs.Common.{inl, inr, refl, sym, ap, subst, ◌∙◌, arith, length-append}
use Rattle.send_model.specs.Command.{Command}
use Rattle.send_model.specs.Spelling.{canonical, canonical_all}
use Rattle.send_model.specs.Store.{Store, Part, State, with_contents, completed}
use Rattle.send_model.proofs.Sorts.{same_inside}
use Rattle.store_model.specs.Image.{reserve}
use Rattle.store_model.specs.Stored.{body_at, frames_at, resumed, edits_made}
use Rattle.store_model.proofs.TurnMaking.{body_makes}
use Rattle.group_log.specs.Stopping.{IsFault}
use Rattle.group_log.specs.declared.stops.LogStop.{LogStop}
use Rattle.group_log.specs.declared.stops.LogStop.TheVariants as log
use Rattle.group_replay.specs.declared.place.Place.{Place}
use Rattle.group_replay.specs.declared.stops.StoreStop.{StoreStop}
use Rattle.group_replay.specs.declared.stops.StoreStop.TheVariants as stop
use Rattle.group_replay.specs.Stopping.{IfLog}
use Rattle.group_replay.specs.Taking.{as_runs, open_state}
use Rattle.store_journal.specs.Filling.{Asked, first_full, group_asks, IsStopOf}
use Rattle.store_journal.specs.Shown.{StoreState}
use Rattle.receiver.specs.Answers.{IsUsualLog}
use Rattle.turn_sessions.specs.Edits.{AreMade, IsCompletedBy, frame_asks, body_asks, frames_end, IfStopped, IfLogFull}

-- ---- room

pub full_front : (limit : ℕ) (a b : List Asked) (x : Asked) → first_full limit a ≡ Some x → first_full limit (a ++ b) ≡ Some x
full_front limit [] b x e = cc
full_front limit (y ∷ a) b x e = one (nat_lt limit (y.place + y.wanted + reserve)) e (full_front limit a b x)
  where
    one : (t : Bool) → (if t then Some y else first_full limit a) ≡ Some x → (first_full limit a ≡ Some x → first_full limit (a ++ b) ≡ Some x) → (if t then Some y else first_full limit (a ++ b)) ≡ Some x
    one true q more = q
    one false q more = more q

pub none_front : (limit : ℕ) (a b : List Asked) → first_full limit a ≡ None → first_full limit (a ++ b) ≡ first_full limit b
none_front limit [] b e = refl
none_front limit (y ∷ a) b e = one (nat_lt limit (y.place + y.wanted + reserve)) e (none_front limit a b)
  where
    one : (t : Bool) → (if t then Some y else first_full limit a) ≡ None → (first_full limit a ≡ None → first_full limit (a ++ b) ≡ first_full limit b) → (if t then Some y else first_full limit (a ++ b)) ≡ first_full limit b
    one true q more = cc
    one false q more = more q

stop_front : (cause : Type 0) (limit : ℕ) (a b : List Asked) (why : LogStop) → IsStopOf cause limit (first_full limit a) why → IsStopOf cause limit (first_full limit (a ++ b)) why
stop_front cause limit a b why says = one (first_full limit a) refl says
  where
    one : (o : Option Asked) → first_full limit a ≡ o → IsStopOf cause limit o why → IsStopOf cause limit (first_full limit (a ++ b)) why
    one None e (inl full) = absurd full
    one None e (inr fault) = inr fault
    one (Some x) e s = subst (λ (o : Option Asked). IsStopOf cause limit o why) (sym (full_front limit a b x e)) s

pub reopen_stops : (cause : Type 0) (limit version gate : ℕ) (commands : List Command) (why : StoreStop) → IfLog {T = Unit {0}} (Err why) (IsStopOf cause limit (first_full limit (group_asks gate 18)))
    → IfLog {T = Unit {0}} (Err why) (IsStopOf cause limit (first_full limit (body_asks version gate commands)))
reopen_stops cause limit version gate commands (stop.Refused refusal) says = tt
reopen_stops cause limit version gate commands stop.NoMemory says = tt
reopen_stops cause limit version gate commands (stop.Log why) says = stop_front cause limit (group_asks gate 18) (frame_asks version (gate + 27) commands) why says

pub frames_stop : (early late : Type 0) (limit version gate size : ℕ) (commands : List Command) (why : StoreStop) → (early → late) → first_full limit (group_asks gate 18) ≡ None → size ≡ gate + 27
    → IfLog {T = Unit {0}} (Err why) (IsStopOf early limit (first_full limit (frame_asks version size commands))) → IfLog {T = Unit {0}} (Err why) (IsStopOf late limit (first_full limit (body_asks version gate commands)))
frames_stop early late limit version gate size commands (stop.Refused refusal) cause fits at says = tt
frames_stop early late limit version gate size commands stop.NoMemory cause fits at says = tt
frames_stop early late limit version gate size commands (stop.Log why) cause fits at says =
    subst (λ (o : Option Asked). IsStopOf late limit o why) (ap (λ (n : ℕ). first_full limit (frame_asks version n commands)) at ∙ sym (none_front limit (group_asks gate 18) (frame_asks version (gate + 27) commands) fits)) (later says)
  where
    fault_later : (w : LogStop) → IsFault early w → IsFault late w
    fault_later log.DiskFault f = cause f
    fault_later (log.NotStore group) f = absurd f
    fault_later (log.LogFull end wanted most) f = absurd f
    fault_later (log.StoreThere n) f = absurd f

    later : IsStopOf early limit (first_full limit (frame_asks version size commands)) why → IsStopOf late limit (first_full limit (frame_asks version size commands)) why
    later (inl full) = inl full
    later (inr fault) = inr (fault_later why fault)

pub publish_stops : (early late : Type 0) (limit : ℕ) (full : Option Asked) (why : LogStop) → (early → late) → IsFault early why → IsStopOf late limit full why
publish_stops early late limit full log.DiskFault cause f = inr (cause f)
publish_stops early late limit full (log.NotStore group) cause f = absurd f
publish_stops early late limit full (log.LogFull end wanted most) cause f = absurd f
publish_stops early late limit full (log.StoreThere n) cause f = absurd f

pub all_fit : (limit version gate size : ℕ) (commands : List Command) → first_full limit (group_asks gate 18) ≡ None → size ≡ gate + 27 → first_full limit (frame_asks version size commands) ≡ None → first_full limit (body_asks version gate commands) ≡ None
all_fit limit version gate size commands fits at frames = none_front limit (group_asks gate 18) (frame_asks version (gate + 27) commands) fits ∙ ap (λ (n : ℕ). first_full limit (frame_asks version n commands)) (sym at) ∙ frames

-- The stops are the usual ones.
pub usual_stop : (cause : Type 0) (limit : ℕ) (full : Option Asked) (why : StoreStop) → IfLog {T = Unit {0}} (Err why) (IsStopOf cause limit full) → IfLog {T = Unit {0}} (Err why) IsUsualLog
usual_stop cause limit full (stop.Refused refusal) says = tt
usual_stop cause limit full stop.NoMemory says = tt
usual_stop cause limit full (stop.Log log.DiskFault) says = tt
usual_stop cause limit full (stop.Log (log.LogFull end wanted most)) says = tt
usual_stop cause limit full (stop.Log (log.NotStore group)) says = one full says
  where
    one : (o : Option Asked) → IsStopOf cause limit o (log.NotStore group) → ⊥
    one None (inl f) = f
    one None (inr f) = f
    one (Some a) (inl f) = cc
    one (Some a) (inr f) = f
usual_stop cause limit full (stop.Log (log.StoreThere size)) says = one full says
  where
    one : (o : Option Asked) → IsStopOf cause limit o (log.StoreThere size) → ⊥
    one None (inl f) = f
    one None (inr f) = f
    one (Some a) (inl f) = cc
    one (Some a) (inr f) = f

-- ---- where the frames end

pub frames_length : (version place : ℕ) (commands : List Command) → frames_end version place commands ≡ place + length (canonical_all version commands)
unfolding canonical_all
frames_length version place [] = omega arith
frames_length version place (c ∷ commands) = frames_length version (place + length (canonical version c)) commands ∙ omega (arith, length-append (canonical version c) (canonical_all version commands))

-- ---- what they make

-- The part that is taken up again is that of the definitions, so its edits come next.
pub body_next : (version : ℕ) (uuid : List ℕ) (was during : StoreState) (part : Part (Option Place)) (commands : List Command) (new : Store (Option Place)) → IsCompletedBy version uuid was commands new
    → resumed was.core uuid ≡ Some (open_state was.core part) → during.core ≡ was.core → during.log.size ≡ was.log.gate + 27
    → (end : State (Option Place)) × AreMade version during part commands end × (completed end ≡ new)
body_next version uuid was during part commands new is begins core size =
    let b = body_makes None as_runs (body_at was.log.gate) was.core uuid version commands new is in
    let same : open_state was.core b.part ≡ open_state was.core part = same_inside (sym b.begins ∙ begins) in
    let place : frames_at (body_at was.log.gate) ≡ during.log.size = omega (arith, size) in (
      b.end,
      subst (λ (s : State (Option Place)). edits_made None as_runs version during.log.size s commands ≡ Some b.end) (same ∙ ap (λ (c : Store (Option Place)). open_state c part) (sym core))
          (subst (λ (n : ℕ). edits_made None as_runs version n (open_state was.core b.part) commands ≡ Some b.end) place b.becomes),
      b.ends,
    )

pub body_there : (version : ℕ) (uuid : List ℕ) (was : StoreState) (commands : List Command) (new : Store (Option Place)) → IsCompletedBy version uuid was commands new → (part : Part (Option Place)) × (resumed was.core uuid ≡ Some (open_state was.core part))
body_there version uuid was commands new is = let b = body_makes None as_runs (body_at was.log.gate) was.core uuid version commands new is in (b.part, b.begins)

pub completed_open : (core : Store (Option Place)) (part : Part (Option Place)) (end : State (Option Place)) → open_state core part ≡ end → with_contents part.key.uuid part.subvolume core ≡ completed end
unfolding completed
completed_open core part end e = ap completed e

-- ---- where it stops

pub if_full : (why : StoreStop) (P : Type 0) → P → IfLogFull {T = Unit {0}} (Err why) P
if_full (stop.Refused refusal) P p = tt
if_full stop.NoMemory P p = tt
if_full (stop.Log (log.LogFull end wanted limit)) P p = p
if_full (stop.Log log.DiskFault) P p = tt
if_full (stop.Log (log.NotStore group)) P p = tt
if_full (stop.Log (log.StoreThere size)) P p = tt

pub fault_no_room : (cause : Type 0) (why : LogStop) (P : Type 0) → IsFault cause why → IfLogFull {T = Unit {0}} (Err (stop.Log why)) P
fault_no_room cause log.DiskFault P f = tt
fault_no_room cause (log.NotStore group) P f = tt
fault_no_room cause (log.LogFull end wanted limit) P f = absurd f
fault_no_room cause (log.StoreThere n) P f = tt

pub stopped_later : (why : StoreStop) (was now : StoreState) (P Q : Type 0) → (P → Q) → now.is_live ≡ was.is_live → IfStopped {T = Unit {0}} (Err why) was P → IfStopped {T = Unit {0}} (Err why) now Q
stopped_later (stop.Refused refusal) was now P Q f live s = s
stopped_later stop.NoMemory was now P Q f live (inl p) = inl (f p)
stopped_later stop.NoMemory was now P Q f live (inr e) = inr (live ∙ e)
stopped_later (stop.Log why) was now P Q f live s = live ∙ s

pub stopped_log : (why : StoreStop) (cause : Type 0) (limit : ℕ) (full other : Option Asked) → full ≡ other → IfLog {T = Unit {0}} (Err why) (IsStopOf cause limit full) → IfLog {T = Unit {0}} (Err why) (IsStopOf cause limit other)
stopped_log why cause limit full other e s = subst (λ (o : Option Asked). IfLog {T = Unit {0}} (Err why) (IsStopOf cause limit o)) e s
