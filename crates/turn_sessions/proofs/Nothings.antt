-- Where nothing is done.
use Rattle.std.specs.Prelude.{◌≡◌, ◌≤◌, ⊤, ℕ, List, [], ◌++◌, Option}
use Rattle.std.specs.Io.KnownBytes.{Appends}
use Rattle.std.proofs.KnownBytes.{Appends-nil}
use Rattle.std.proofs.Common.{refl, sym, subst, append-nil}
use Rattle.sx_base.specs.Crash.{LeavesOnly}
use Rattle.sx_base.specs.Disk.{IsImage}
use Rattle.sx_base.specs.declared.disk.Disk as keeping
use Rattle.sx_base.proofs.DiskMoments.{weakens, leaves_now}
use Rattle.sx_base.specs.declared.outcome.Outcome.{Outcome}
use Rattle.sx_base.specs.declared.outcome.Outcome.TheVariants as ended
use Rattle.store_model.specs.Image.{Header}
use Rattle.store_model.specs.Stored.{Group}
use Rattle.store_model.specs.Turns.{Event, completed_parts, lines_of, turn_groups}
use Rattle.store_model.specs.TurnDues.{fitting}
use Rattle.group_log.proofs.GatedGroups.{rests_has}
use Rattle.store_journal.specs.Shown.{StoreState}
use Rattle.store_journal.specs.Holding.{bodies_of, Holds}
use Rattle.receiver.specs.declared.outcome.Received.{Received}
use Rattle.receiver.specs.declared.outcome.Received.TheVariants as how
use Rattle.receiver.specs.Disks.{HasFront, EndLeaves}
use Rattle.receiver.proofs.BegunParts.{none_yet, holds_now}
use Rattle.receiver.proofs.TakenItems.{front_first}
use Rattle.turn_sessions.specs.Doing.{reached, StopReason}
use Rattle.turn_sessions.proofs.Unpacked.{HasDone, HasStopped}

pub either_leaves : (why : Received) {A B : Type 0} → A → B → EndLeaves why A B
either_leaves (how.Files ended.NoMemory) a b = b
either_leaves (how.Files ended.InputFault) a b = a
either_leaves (how.Files ended.OutputFault) a b = a
either_leaves (how.Files ended.Done) a b = a
either_leaves (how.Files (ended.Refused verdict)) a b = a
either_leaves (how.Files (ended.InputTooLong file)) a b = a
either_leaves (how.Files (ended.TooMuch sum)) a b = a
either_leaves (how.Files (ended.InputChanged file place)) a b = a
either_leaves how.StoreFault a b = b
either_leaves (how.LogFull end wanted limit) a b = b

-- The store may not be used again.
abbrev pub OutcomeSpent : Outcome → Type 0
OutcomeSpent ended.NoMemory = ⊤
OutcomeSpent ended.InputFault = ⊥
OutcomeSpent ended.OutputFault = ⊥
OutcomeSpent ended.Done = ⊥
OutcomeSpent (ended.Refused verdict) = ⊥
OutcomeSpent (ended.InputTooLong file) = ⊥
OutcomeSpent (ended.TooMuch sum) = ⊥
OutcomeSpent (ended.InputChanged file place) = ⊥

abbrev pub IsSpent : Received → Type 0
IsSpent (how.Files outcome) = OutcomeSpent outcome
IsSpent how.StoreFault = ⊤
IsSpent (how.LogFull end wanted limit) = ⊤

spent_leaves : (why : Received) (A : Type 0) {B : Type 0} → IsSpent why → B → EndLeaves why A B
spent_leaves (how.Files ended.NoMemory) A s b = b
spent_leaves (how.Files ended.InputFault) A s b = absurd s
spent_leaves (how.Files ended.OutputFault) A s b = absurd s
spent_leaves (how.Files ended.Done) A s b = absurd s
spent_leaves (how.Files (ended.Refused verdict)) A s b = absurd s
spent_leaves (how.Files (ended.InputTooLong file)) A s b = absurd s
spent_leaves (how.Files (ended.TooMuch sum)) A s b = absurd s
spent_leaves (how.Files (ended.InputChanged file place)) A s b = absurd s
spent_leaves how.StoreFault A s b = b
spent_leaves (how.LogFull end wanted limit) A s b = b

all_reached : (why : Received) (header : Header) (groups : List Group) (events : List Event) (image : List ℕ) → HasFront header groups (turn_groups (reached why events)) image → HasFront header groups (turn_groups events) image
unfolding turn_groups
all_reached (how.Files outcome) header groups events image f = f
all_reached how.StoreFault header groups events image f = f
all_reached (how.LogFull end wanted limit) header groups events image f = front_first header groups [] (turn_groups events) image f

module _ {D : Type 0} (ghosts : keeping.Ghosts D) where
  -- That a disk leaves at this moment only what it may.
  abbrev pub OnlyNow : D → Type 0
  OnlyNow disk = ghosts.tells → (image : List ℕ) → ghosts.left_since disk (ghosts.moment disk) image → IsImage (ghosts.pending disk) image

  -- That each image which a crash may leave now is one of those since an earlier moment.
  abbrev pub CountsNow : D → D → Type 0
  CountsNow old new = ghosts.tells → (image : List ℕ) → ghosts.moment old ≤ ghosts.moment new → IsImage (ghosts.pending new) image → ghosts.left_since new (ghosts.moment old) image

  pub nothing_done : (disk : D) (store : StoreState) (out : Option (List ℕ)) → OnlyNow disk → HasDone ghosts disk disk store store out out []
  unfolding lines_of completed_parts turn_groups fitting
  nothing_done disk store out only = record {
    wrote = Appends-nil out;
    room = refl;
    gate = refl;
    limit = refl;
    disk = λ is_told header groups holds. (
      subst (λ (l : List Group). Holds header l store (ghosts.seen disk) (ghosts.pending disk)) (sym (append-nil groups)) holds,
      holds_now header groups disk [] store (ghosts.seen disk) holds (only is_told),
    );
  }

  -- Nothing is done where nothing was called.
  pub nothing_stopped : (disk : D) (store now : StoreState) (out : Option (List ℕ)) (why : Received) (events : List Event) → OnlyNow disk → ((header : Header) (groups : List Group) → Holds header groups store (ghosts.seen disk) (ghosts.pending disk) → Holds header groups now (ghosts.seen disk) (ghosts.pending disk))
      → StopReason why store.log.limit store.log.gate events [] [] → HasStopped ghosts disk disk store now out out why events
  unfolding lines_of completed_parts turn_groups
  nothing_stopped disk store now out why events only still reason = record {
    done = [];
    more = events;
    all = refl;
    lines = [];
    unwritten = [];
    printed = refl;
    wrote = Appends-nil out;
    reason = reason;
    disk = λ is_told header groups holds.
        let none : groups ++ [] ≡ groups = append-nil groups in (
          either_leaves why (subst (λ (l : List Group). Holds header l now (ghosts.seen disk) (ghosts.pending disk)) (sym none) (still header groups holds))
              (λ image is. subst (λ (l : List Group). HasFront header l (turn_groups (reached why events)) image) (sym none) (none_yet header groups (turn_groups (reached why events)) image (rests_has header (bodies_of groups) _ _ _ holds.rests image is))),
          holds_now header groups disk (turn_groups events) store (ghosts.seen disk) holds (only is_told),
        );
  }

  -- Nothing is sure where some calls were made: whatever a crash may leave at each moment stands
  -- then too.
  pub unsure_stopped : (old new : D) (was now : StoreState) (out next : Option (List ℕ)) (why : Received) (events : List Event) → IsSpent why → Appends out next [] → CountsNow old new
      → StopReason why was.log.limit was.log.gate events [] []
      → (ghosts.tells → (header : Header) (groups : List Group) → Holds header groups was (ghosts.seen old) (ghosts.pending old) → LeavesOnly ghosts.moment ghosts.left_since old new (HasFront header groups (turn_groups (reached why events))))
      → HasStopped ghosts old new was now out next why events
  unfolding lines_of completed_parts turn_groups
  unsure_stopped old new was now out next why events spent wrote counts reason moments = record {
    done = [];
    more = events;
    all = refl;
    lines = [];
    unwritten = [];
    printed = refl;
    wrote = wrote;
    reason = reason;
    disk = λ is_told header groups holds.
        let none : groups ++ [] ≡ groups = append-nil groups in
        let run = moments is_told header groups holds in (
          spent_leaves why (Holds header (groups ++ turn_groups []) now (ghosts.seen new) (ghosts.pending new)) spent (λ image is. subst (λ (l : List Group). HasFront header l (turn_groups (reached why events)) image) (sym none) (leaves_now ghosts.pending run (λ i later k. counts is_told i later k) image is)),
          weakens run (λ image f. all_reached why header groups events image f),
        );
  }
