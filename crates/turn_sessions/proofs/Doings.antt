-- Events that were done, one after the other, and where they stopped.
use Rattle.std.specs.Prelude.{◌≡◌, ℕ, List, ◌++◌, Option, None}
use Rattle.std.specs.Io.KnownBytes.{Appends}
use Rattle.std.proofs.KnownBytes.{Appends-trans}
use Rattle.std.proofs.Common.{refl, sym, ap, subst, ◌∙◌, append_assoc}
use Rattle.sx_base.specs.Crash.{LeavesOnly}
use Rattle.sx_base.specs.Disk.{IsImage}
use Rattle.sx_base.specs.declared.disk.Disk as keeping
use Rattle.sx_base.proofs.DiskMoments.{joins, weakens}
use Rattle.sx_base.specs.declared.outcome.Outcome.TheVariants as ended
use Rattle.store_model.specs.Image.{Header}
use Rattle.store_model.specs.Stored.{Group}
use Rattle.store_model.specs.Dues as dues
use Rattle.store_model.specs.Turns.{Event, lines_of, turn_groups}
use Rattle.store_model.specs.TurnDues.{gate_after, Fitting, fitting}
use Rattle.store_model.proofs.TurnJoining.{lines_joined, gates_joined, fits_behind, fits_first}
use Rattle.store_model.proofs.TurnStanding.{groups_joined}
use Rattle.store_journal.specs.Shown.{StoreState}
use Rattle.store_journal.specs.Holding.{Holds}
use Rattle.receiver.specs.declared.outcome.Received.{Received}
use Rattle.receiver.specs.declared.outcome.Received.TheVariants as how
use Rattle.receiver.specs.Disks.{HasFront, EndLeaves}
use Rattle.receiver.proofs.TakenItems.{front_first, front_behind}
use Rattle.turn_sessions.specs.Doing.{reached, StopReason}
use Rattle.turn_sessions.proofs.Unpacked.{HasDone, HasStopped}

pub ends_map : (why : Received) {A B C D : Type 0} → (A → C) → (B → D) → EndLeaves why A B → EndLeaves why C D
ends_map (how.Files ended.NoMemory) f g e = g e
ends_map (how.Files ended.InputFault) f g e = f e
ends_map (how.Files ended.OutputFault) f g e = f e
ends_map (how.Files ended.Done) f g e = f e
ends_map (how.Files (ended.Refused verdict)) f g e = f e
ends_map (how.Files (ended.InputTooLong file)) f g e = f e
ends_map (how.Files (ended.TooMuch sum)) f g e = f e
ends_map (how.Files (ended.InputChanged file place)) f g e = f e
ends_map how.StoreFault f g e = g e
ends_map (how.LogFull end wanted limit) f g e = g e

reason_behind : (why : Received) (most gate : ℕ) (a events done : List Event) (unwritten : List ℕ) → (fitting most gate a).full ≡ None → StopReason why most (gate_after gate a) events done unwritten
    → StopReason why most gate (a ++ events) (a ++ done) unwritten
reason_behind (how.Files outcome) most gate a events done unwritten room r = r
reason_behind how.StoreFault most gate a events done unwritten room r = tt
reason_behind (how.LogFull end wanted limit) most gate a events done unwritten room r =
    (r.0, fits_behind most gate a events room ∙ ap (λ (f : Fitting). record { events = a ++ f.events; full = f.full }) r.1)

reason_first : (why : Received) (most gate : ℕ) (a b done : List Event) (unwritten : List ℕ) → StopReason why most gate a done unwritten → StopReason why most gate (a ++ b) done unwritten
reason_first (how.Files outcome) most gate a b done unwritten r = r
reason_first how.StoreFault most gate a b done unwritten r = tt
reason_first (how.LogFull end wanted limit) most gate a b done unwritten r = (r.0, fits_first most gate a b done (dues.LogFull end wanted limit) r.1)

module _ {D : Type 0} (ghosts : keeping.Ghosts D) where
  pub done_done : (old middle new : D) (was during now : StoreState) (out mid next : Option (List ℕ)) (a b : List Event) → HasDone ghosts old middle was during out mid a
      → HasDone ghosts middle new during now mid next b → HasDone ghosts old new was now out next (a ++ b)
  done_done old middle new was during now out mid next a b x y = record {
    wrote = subst (λ (l : List ℕ). Appends out next l) (sym (lines_joined a b)) (Appends-trans out mid next (lines_of a) (lines_of b) x.wrote y.wrote);
    room = ap (λ (f : Fitting). f.full) (fits_behind was.log.limit was.log.gate a b x.room) ∙ (λ i. (fitting (sym x.limit i) (sym x.gate i) b).full) ∙ y.room;
    gate = y.gate ∙ ap (λ (g : ℕ). gate_after g b) x.gate ∙ sym (gates_joined was.log.gate a b);
    limit = y.limit ∙ x.limit;
    disk = λ is_told header groups holds.
        let first = x.disk is_told header groups holds in
        let second = y.disk is_told header (groups ++ turn_groups a) first.0 in
        let joined : turn_groups (a ++ b) ≡ turn_groups a ++ turn_groups b = groups_joined a b in (
          subst (λ (l : List Group). Holds header l now (ghosts.seen new) (ghosts.pending new)) (append_assoc groups (turn_groups a) (turn_groups b) ∙ ap (λ (l : List Group). groups ++ l) (sym joined)) second.0,
          subst (λ (l : List Group). LeavesOnly ghosts.moment ghosts.left_since old new (HasFront header groups l)) (sym joined)
              (joins (weakens first.1 (λ image f. front_first header groups (turn_groups a) (turn_groups b) image f)) (weakens second.1 (λ image f. front_behind header groups (turn_groups a) (turn_groups b) image f))),
        );
  }

  pub done_stopped : (old middle new : D) (was during now : StoreState) (out mid next : Option (List ℕ)) (why : Received) (a b : List Event) → HasDone ghosts old middle was during out mid a
      → HasStopped ghosts middle new during now mid next why b → HasStopped ghosts old new was now out next why (a ++ b)
  done_stopped old middle new was during now out mid next why a b x y = record {
    done = a ++ y.done;
    more = y.more;
    all = ap (λ (l : List Event). a ++ l) y.all ∙ sym (append_assoc a y.done y.more);
    lines = lines_of a ++ y.lines;
    unwritten = y.unwritten;
    printed = lines_joined a y.done ∙ ap (λ (l : List ℕ). lines_of a ++ l) y.printed ∙ sym (append_assoc (lines_of a) y.lines y.unwritten);
    wrote = Appends-trans out mid next (lines_of a) y.lines x.wrote y.wrote;
    reason = reason_behind why was.log.limit was.log.gate a b y.done y.unwritten x.room
        (subst (λ (g : ℕ). StopReason why was.log.limit g b y.done y.unwritten) x.gate (subst (λ (m : ℕ). StopReason why m during.log.gate b y.done y.unwritten) x.limit y.reason));
    disk = λ is_told header groups holds.
        let first = x.disk is_told header groups holds in
        let second = y.disk is_told header (groups ++ turn_groups a) first.0 in
        let joined : turn_groups (a ++ b) ≡ turn_groups a ++ turn_groups b = groups_joined a b in
        let behind : (groups ++ turn_groups a) ++ turn_groups y.done ≡ groups ++ turn_groups (a ++ y.done) =
        append_assoc groups (turn_groups a) (turn_groups y.done) ∙ ap (λ (l : List Group). groups ++ l) (sym (groups_joined a y.done)) in (
          subst (λ (l : List Group). EndLeaves why (Holds header l now (ghosts.seen new) (ghosts.pending new)) ((image : List ℕ) → IsImage (ghosts.pending new) image → HasFront header l (turn_groups (reached why y.more)) image)) behind second.0,
          subst (λ (l : List Group). LeavesOnly ghosts.moment ghosts.left_since old new (HasFront header groups l)) (sym joined)
              (joins (weakens first.1 (λ image f. front_first header groups (turn_groups a) (turn_groups b) image f)) (weakens second.1 (λ image f. front_behind header groups (turn_groups a) (turn_groups b) image f))),
        );
  }

  reach_more : (why : Received) (header : Header) (groups : List Group) (more b : List Event) (image : List ℕ) → HasFront header groups (turn_groups (reached why more)) image → HasFront header groups (turn_groups (reached why (more ++ b))) image
  reach_more (how.Files outcome) header groups more b image f = subst (λ (l : List Group). HasFront header groups l image) (sym (groups_joined more b)) (front_first header groups (turn_groups more) (turn_groups b) image f)
  reach_more how.StoreFault header groups more b image f = subst (λ (l : List Group). HasFront header groups l image) (sym (groups_joined more b)) (front_first header groups (turn_groups more) (turn_groups b) image f)
  reach_more (how.LogFull end wanted limit) header groups more b image f = f

  -- whatever events were to follow
  pub stopped_first : (old new : D) (was now : StoreState) (out next : Option (List ℕ)) (why : Received) (a b : List Event) → HasStopped ghosts old new was now out next why a
      → HasStopped ghosts old new was now out next why (a ++ b)
  stopped_first old new was now out next why a b x = record {
    done = x.done;
    more = x.more ++ b;
    all = ap (λ (l : List Event). l ++ b) x.all ∙ append_assoc x.done x.more b;
    lines = x.lines;
    unwritten = x.unwritten;
    printed = x.printed;
    wrote = x.wrote;
    reason = reason_first why was.log.limit was.log.gate a b x.done x.unwritten x.reason;
    disk = λ is_told header groups holds.
        let first = x.disk is_told header groups holds in (
          ends_map why (λ h. h) (λ f image is. reach_more why header (groups ++ turn_groups x.done) x.more b image (f image is)) first.0,
          subst (λ (l : List Group). LeavesOnly ghosts.moment ghosts.left_since old new (HasFront header groups l)) (sym (groups_joined a b)) (weakens first.1 (λ image f. front_first header groups (turn_groups a) (turn_groups b) image f)),
        );
  }

  -- What was done then, and what is unwritten.
  abbrev pub Stops : (old new : D) (was now : StoreState) (out next : Option (List ℕ)) (why : Received) (events done : List Event) (unwritten : List ℕ) → Type 0
  Stops old new was now out next why events done unwritten = (z : HasStopped ghosts old new was now out next why events) × (z.done ≡ done) × (z.unwritten ≡ unwritten)

  pub done_stopped_is : (old middle new : D) (was during now : StoreState) (out mid next : Option (List ℕ)) (why : Received) (a b : List Event) (x : HasDone ghosts old middle was during out mid a)
      → (y : HasStopped ghosts middle new during now mid next why b) → Stops old new was now out next why (a ++ b) (a ++ y.done) y.unwritten
  unfolding done_stopped
  done_stopped_is old middle new was during now out mid next why a b x y = (done_stopped old middle new was during now out mid next why a b x y, refl, refl)

  pub stopped_first_is : (old new : D) (was now : StoreState) (out next : Option (List ℕ)) (why : Received) (a b done : List Event) (unwritten : List ℕ) → Stops old new was now out next why a done unwritten
      → Stops old new was now out next why (a ++ b) done unwritten
  unfolding stopped_first
  stopped_first_is old new was now out next why a b done unwritten x = (stopped_first old new was now out next why a b x.0, x.1, x.2)
