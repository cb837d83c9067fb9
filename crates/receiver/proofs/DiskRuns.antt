-- A disk that tells, over the commands of a file.
use Rattle.std.specs.Prelude.{◌≡◌, ℕ, Bool, true, List, [], ◌++◌, Option, None, Some}
use Rattle.std.proofs.Common.{refl, sym, ap, subst, ◌∙◌, append_assoc, append-nil}
use Rattle.sx_base.specs.declared.disk.Disk as keeping
use Rattle.sx_base.specs.Disk.{Pending, IsImage}
use Rattle.sx_base.specs.Crash.{LeavesOnly}
use Rattle.sx_base.specs.declared.outcome.Outcome.{Outcome}
use Rattle.sx_base.specs.declared.outcome.Outcome.TheVariants as ended
use Rattle.sx_base.proofs.DiskMoments.{weakens}
use Rattle.send_model.specs.Command.{Command}
use Rattle.send_model.specs.Reading.{Due, HeaderDue, due_after}
use Rattle.send_model.specs.Command.{End, row}
use Rattle.send_model.specs.Counts.{is_end}
use Rattle.send_model.specs.Store.{After}
use Rattle.send_model.specs.Guards.{Guard}
use Rattle.cmd_reader.specs.Next.{is_last}
use Rattle.auditor.specs.Following.{Followed}
use Rattle.store_model.specs.Image.{Header}
use Rattle.store_model.specs.Stored.{Group}
use Rattle.store_model.specs.Written.{Begun, closed_by, begun_by}
use Rattle.store_journal.specs.Shown.{StoreState}
use Rattle.receiver.specs.declared.opened.Opened.{Opened}
use Rattle.receiver.specs.declared.outcome.Received.{Received}
use Rattle.receiver.specs.declared.outcome.Received.TheVariants as how
use Rattle.receiver.specs.Disks.{HasFront, work, RunsOn, LeavesOn, OutcomeLeaves, EndLeaves, StopsOn}
use Rattle.receiver.specs.Steps.{begun_if}
use Rattle.receiver.proofs.Unpacked.{Keeps, EndHas}
use Rattle.store_journal.specs.Holding.{HasThese, Holds}
use Rattle.store_journal.proofs.Unpacked.{Builds}
use Rattle.receiver.proofs.FollowedItems.{keeps_has, kept_moments}
use Rattle.receiver.proofs.TakenItems.{front_first, both_moments}

module _ {D : Type 0} (ghosts : keeping.Ghosts D) where
  -- before the first call
  pub run_starts : (disk : D) (store : StoreState) (current : Option Opened) → current ≡ None → (ghosts.tells → (image : List ℕ) → ghosts.left_since disk (ghosts.moment disk) image → IsImage (ghosts.pending disk) image)
      → RunsOn ghosts (work disk store None) (work disk store current) None [] None
  run_starts disk store current none only told header there keeps = (
    subst (λ (l : List Group). Keeps header l None current store (ghosts.seen disk) (ghosts.pending disk)) (sym (append-nil there)) (subst (λ (c : Option Opened). Keeps header there None c store (ghosts.seen disk) (ghosts.pending disk)) (sym none) keeps),
    kept_moments header there disk [] None None store (ghosts.seen disk) keeps (only told),
  )

  pub none_leaves : (disk : D) (store : StoreState) → (ghosts.tells → (image : List ℕ) → ghosts.left_since disk (ghosts.moment disk) image → IsImage (ghosts.pending disk) image) → (due : List Group) → LeavesOn ghosts (work disk store None) disk None due
  none_leaves disk store only due told header there keeps = kept_moments header there disk due None None store (ghosts.seen disk) keeps (only told)

  -- no more calls
  pub run_leaves : (old new : D) (was now : StoreState) (current : Option Opened) (groups more : List Group) (begun : Option Begun) → RunsOn ghosts (work old was None) (work new now current) None groups begun
      → LeavesOn ghosts (work old was None) new None (groups ++ more)
  run_leaves old new was now current groups more begun run told header there keeps = weakens (run told header there keeps).1 (λ image f. front_first header there groups more image f)

  -- a command that ends it
  pub run_item : (old mid new : D) (was now : StoreState) (current : Option Opened) (groups due more : List Group) (begun : Option Begun) → RunsOn ghosts (work old was None) (work mid now current) None groups begun
      → (ghosts.tells → (header : Header) (there : List Group) → Keeps header there begun current now (ghosts.seen mid) (ghosts.pending mid) → LeavesOnly ghosts.moment ghosts.left_since mid new (HasFront header there due))
      → LeavesOn ghosts (work old was None) new None (groups ++ (due ++ more))
  run_item old mid new was now current groups due more begun run item told header there keeps =
      let r = run told header there keeps in
      both_moments header there groups (due ++ more) r.1 (weakens (item told header (there ++ groups) r.0) (λ image f. front_first header (there ++ groups) due more image f))

  -- a command that is taken
  pub run_goes : (old mid new : D) (was now next : StoreState) (current after : Option Opened) (groups due all : List Group) (begun then_begun : Option Begun) → due ≡ all → RunsOn ghosts (work old was None) (work mid now current) None groups begun
      → (ghosts.tells → (header : Header) (there : List Group) → Keeps header there begun current now (ghosts.seen mid) (ghosts.pending mid) → Keeps header (there ++ all) then_begun after next (ghosts.seen new) (ghosts.pending new))
      → (ghosts.tells → (header : Header) (there : List Group) → Keeps header there begun current now (ghosts.seen mid) (ghosts.pending mid) → LeavesOnly ghosts.moment ghosts.left_since mid new (HasFront header there due))
      → RunsOn ghosts (work old was None) (work new next after) None (groups ++ all) then_begun
  run_goes old mid new was now next current after groups due all begun then_begun same run kept moments told header there keeps =
      let r = run told header there keeps in (
        subst (λ (l : List Group). Keeps header l then_begun after next (ghosts.seen new) (ghosts.pending new)) (append_assoc there groups all) (kept told header (there ++ groups) r.0),
        both_moments header there groups all r.1 (subst (λ (l : List Group). LeavesOnly ghosts.moment ghosts.left_since mid new (HasFront header (there ++ groups) l)) same (moments told header (there ++ groups) r.0)),
      )

-- A command that was taken was not refused.
pub taken_due : (guards : List Guard) (c : Command) (begun : Option Begun) (after : After Followed) (next : Followed) → after ≡ record { state = next; refusal = None } → closed_by guards c begun ++ begun_if after c ≡ closed_by guards c begun ++ begun_by c
taken_due guards c begun after next is = ap (λ (a : After Followed). closed_by guards c begun ++ begun_if a c) is

-- The last command of a stream is END, and a header is due then.
last_is_end : (c : Command) → is_last c ≡ true → is_end c ≡ true
unfolding row
last_is_end End e = refl
last_is_end c e = cc

end_due : (version : ℕ) (c : Command) → is_end c ≡ true → due_after version c ≡ HeaderDue
end_due version End e = refl
end_due version c e = cc

pub at_stream_end : (ended : Bool) (due : Due) (version : ℕ) (c : Command) (current : Option Opened) → ended ≡ is_last c → due ≡ due_after version c → (is_end c ≡ true → current ≡ None) → ended ≡ true → (current ≡ None) × (due ≡ HeaderDue)
at_stream_end ended due version c current last is closes e =
    let ends = last_is_end c (sym last ∙ e) in
    (closes ends, is ∙ end_due version c ends)

module _ {D : Type 0} (ghosts : keeping.Ghosts D) where
  -- file by file
  pub run_both : (old mid new : D) (was now next : StoreState) (groups more : List Group) → RunsOn ghosts (work old was None) (work mid now None) None groups None → RunsOn ghosts (work mid now None) (work new next None) None more None
      → RunsOn ghosts (work old was None) (work new next None) None (groups ++ more) None
  run_both old mid new was now next groups more first second told header there keeps =
      let a = first told header there keeps in
      let b = second told header (there ++ groups) a.0 in (
        subst (λ (l : List Group). Keeps header l None None next (ghosts.seen new) (ghosts.pending new)) (append_assoc there groups more) b.0,
        both_moments header there groups more a.1 b.1,
      )

  pub run_ends : (old mid new : D) (was now : StoreState) (groups more : List Group) → RunsOn ghosts (work old was None) (work mid now None) None groups None → LeavesOn ghosts (work mid now None) new None more
      → LeavesOn ghosts (work old was None) new None (groups ++ more)
  run_ends old mid new was now groups more first second told header there keeps =
      let a = first told header there keeps in
      both_moments header there groups more a.1 (second told header (there ++ groups) a.0)

-- ---- where receiving ends

outcome_then : {P Q R S : Type 0} (outcome : Outcome) → (P → R) → (Q → S) → OutcomeLeaves outcome P Q → OutcomeLeaves outcome R S
outcome_then ended.NoMemory f g l = g l
outcome_then ended.InputFault f g l = f l
outcome_then ended.OutputFault f g l = f l
outcome_then ended.Done f g l = f l
outcome_then (ended.Refused verdict) f g l = f l
outcome_then (ended.InputTooLong file) f g l = f l
outcome_then (ended.TooMuch sum) f g l = f l
outcome_then (ended.InputChanged file place) f g l = f l

pub leaves_then : {P Q R S : Type 0} (why : Received) → (P → R) → (Q → S) → EndLeaves why P Q → EndLeaves why R S
leaves_then (how.Files outcome) f g l = outcome_then outcome f g l
leaves_then how.StoreFault f g l = g l
leaves_then (how.LogFull end wanted limit) f g l = g l

outcome_both : {P Q : Type 0} (outcome : Outcome) → P → Q → OutcomeLeaves outcome P Q
outcome_both ended.NoMemory p q = q
outcome_both ended.InputFault p q = p
outcome_both ended.OutputFault p q = p
outcome_both ended.Done p q = p
outcome_both (ended.Refused verdict) p q = p
outcome_both (ended.InputTooLong file) p q = p
outcome_both (ended.TooMuch sum) p q = p
outcome_both (ended.InputChanged file place) p q = p

outcome_either : {P Q R : Type 0} (outcome : Outcome) → (P → R) → (Q → R) → OutcomeLeaves outcome P Q → R
outcome_either ended.NoMemory f g l = g l
outcome_either ended.InputFault f g l = f l
outcome_either ended.OutputFault f g l = f l
outcome_either ended.Done f g l = f l
outcome_either (ended.Refused verdict) f g l = f l
outcome_either (ended.InputTooLong file) f g l = f l
outcome_either (ended.TooMuch sum) f g l = f l
outcome_either (ended.InputChanged file place) f g l = f l

-- What follows from both follows.
pub leaves_either : {P Q R : Type 0} (why : Received) → (P → R) → (Q → R) → EndLeaves why P Q → R
leaves_either (how.Files outcome) f g l = outcome_either outcome f g l
leaves_either how.StoreFault f g l = g l
leaves_either (how.LogFull end wanted limit) f g l = g l

-- What W says behind more groups is what V says behind those that were there.
has_from : (why : Received) (header : Header) (there groups : List Group) (current : Option Opened) (store : StoreState) (seen : List ℕ) (pending : Pending) (W V : (List Group → Type 0) → Type 0)
    → ((H G : List Group → Type 0) → ((first : List Group) → H first → G (groups ++ first)) → W H → V G) → EndHas why header (there ++ groups) current store seen pending W → EndHas why header there current store seen pending V
has_from why header there groups current store seen pending W V moved has =
    leaves_then why
    (λ w. moved (λ first. (begun : Option Begun) × Keeps header ((there ++ groups) ++ first) begun current store seen pending) (λ first. (begun : Option Begun) × Keeps header (there ++ first) begun current store seen pending)
    (λ first k. (k.0, subst (λ (l : List Group). Keeps header l k.0 current store seen pending) (append_assoc there groups first) k.1)) w)
    (λ each image is. moved (λ first. HasThese header ((there ++ groups) ++ first) image) (λ first. HasThese header (there ++ first) image) (λ first h. subst (λ (l : List Group). HasThese header l image) (append_assoc there groups first) h) (each image is))
    has

module _ {D : Type 0} (ghosts : keeping.Ghosts D) where
  -- a command that ends it
  pub run_stopped : (old mid new : D) (was now next : StoreState) (current after : Option Opened) (groups : List Group) (begun : Option Begun) (why : Received) (W V : (List Group → Type 0) → Type 0)
      → RunsOn ghosts (work old was None) (work mid now current) None groups begun
      → (ghosts.tells → (header : Header) (there : List Group) → Keeps header there begun current now (ghosts.seen mid) (ghosts.pending mid) → EndHas why header there after next (ghosts.seen new) (ghosts.pending new) W)
      → ((H G : List Group → Type 0) → ((first : List Group) → H first → G (groups ++ first)) → W H → V G) → StopsOn ghosts (work old was None) (work new next after) why V
  run_stopped old mid new was now next current after groups begun why W V run item moved told header there keeps =
      has_from why header there groups after next (ghosts.seen new) (ghosts.pending new) W V moved (item told header (there ++ groups) (run told header there keeps).0)

  -- no more calls
  pub run_rests : (old new : D) (was now : StoreState) (current : Option Opened) (groups : List Group) (begun : Option Begun) (outcome : Outcome) (V : (List Group → Type 0) → Type 0)
      → RunsOn ghosts (work old was None) (work new now current) None groups begun
      → ((G : List Group → Type 0) → G groups → V G) → StopsOn ghosts (work old was None) (work new now current) (how.Files outcome) V
  run_rests old new was now current groups begun outcome V run is told header there keeps =
      let r = (run told header there keeps).0 in
      outcome_both outcome (is (λ first. (b : Option Begun) × Keeps header (there ++ first) b current now (ghosts.seen new) (ghosts.pending new)) (begun, r))
      (λ image i. is (λ first. HasThese header (there ++ first) image) (keeps_has header (there ++ groups) begun current now (ghosts.seen new) (ghosts.pending new) image r i))

  -- files that were received, and then one in which it ends
  pub run_files : (old mid new : D) (was now next : StoreState) (groups : List Group) (why : Received) (W V : (List Group → Type 0) → Type 0) → RunsOn ghosts (work old was None) (work mid now None) None groups None
      → ((H G : List Group → Type 0) → ((first : List Group) → H first → G (groups ++ first)) → W H → V G) → StopsOn ghosts (work mid now None) (work new next None) why W → StopsOn ghosts (work old was None) (work new next None) why V
  run_files old mid new was now next groups why W V run moved stops told header there keeps =
      has_from why header there groups None next (ghosts.seen new) (ghosts.pending new) W V moved (stops told header (there ++ groups) (run told header there keeps).0)

  -- The part that is open stays unfinished.
  pub run_abandons : (old new : D) (before : Option Opened) (was now next : StoreState) (current : Option Opened) (o : Opened) (why : Received) (W : (List Group → Type 0) → Type 0) → current ≡ Some o
      → ((header : Header) (groups : List Group) (version : ℕ) (commands : List Command) (shows : List ℕ) (known : Pending) → Builds header groups version commands o.part now shows known → Holds header groups next shows known)
      → ((H G : List Group → Type 0) → ((first : List Group) → H first → G first) → W H → W G) → StopsOn ghosts (work old was before) (work new now current) why W → StopsOn ghosts (work old was before) (work new next None) why W
  run_abandons old new before was now next current o why W e holds follows stops told header there keeps =
      leaves_then why
      (λ w. follows (λ first. (b : Option Begun) × Keeps header (there ++ first) b current now (ghosts.seen new) (ghosts.pending new)) (λ first. (b : Option Begun) × Keeps header (there ++ first) b None next (ghosts.seen new) (ghosts.pending new))
      (λ first k. (None, by_begun (there ++ first) k.0 (subst (λ (c : Option Opened). Keeps header (there ++ first) k.0 c now (ghosts.seen new) (ghosts.pending new)) e k.1))) w)
      (λ each. each) (stops told header there keeps)
    where
      by_begun : (groups : List Group) (b : Option Begun) → Keeps header groups b (Some o) now (ghosts.seen new) (ghosts.pending new) → Holds header groups next (ghosts.seen new) (ghosts.pending new)
      by_begun groups None k = absurd k
      by_begun groups (Some b) k = holds header groups b.version b.commands (ghosts.seen new) (ghosts.pending new) k.builds
