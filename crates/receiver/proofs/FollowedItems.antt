-- One command under guards.
use Rattle.std.specs.Prelude.{◌≡◌, ℕ, Bool, true, false, List, [], ◌∷◌, ◌++◌, map, Option, None, Some, Result, Ok, Err, if◌then◌else◌}
use Rattle.std.proofs.Common.{inl, inr, refl, sym, ap, subst, ◌∙◌, append-nil}
use Rattle.sx_base.specs.declared.disk.Disk as keeping
use Rattle.sx_base.specs.Disk.{Pending, IsImage}
use Rattle.sx_base.specs.Crash.{LeavesOnly}
use Rattle.sx_base.proofs.DiskMoments.{begins}
use Rattle.sx_base.specs.Refusals.{refusal_of}
use Rattle.sx_base.specs.declared.stop.Stop.TheVariants as why
use Rattle.sx_base.specs.declared.outcome.Outcome.TheVariants as ended
use Rattle.send_model.specs.Refusal as meant
use Rattle.send_model.specs.Command.{Command}
use Rattle.send_model.specs.Reading as reading
use Rattle.send_model.specs.Reading.{Item}
use Rattle.send_model.specs.Receive.{bytes_of}
use Rattle.send_model.specs.Store.{Head, State, After, Stepped, head_of, step}
use Rattle.send_model.proofs.Sorts.{head_step}
use Rattle.send_model.proofs.CellClones.{all_steps-cells}
use Rattle.send_model.specs.Guards.{Guard, guarded, looked, watched}
use Rattle.send_model.specs.Cells.{recelled_state}
use Rattle.clone_resolve.specs.Steps.{cells_put}
use Rattle.auditor.specs.Following.{Followed, blank_step, beside, follow}
use Rattle.auditor.proofs.Steps.{answers_blank}
use Rattle.store_model.specs.Image.{Header}
use Rattle.store_model.specs.Stored.{Group, is_edit}
use Rattle.store_model.specs.Written.{Begun, mark_of, closed, closed_by}
use Rattle.group_log.proofs.GatedGroups.{rests_has, grows_has}
use Rattle.group_replay.specs.declared.place.Place.{Place}
use Rattle.group_replay.specs.Placing.{further}
use Rattle.store_journal.specs.Shown.{StoreState}
use Rattle.store_journal.specs.Holding.{bodies_of, HasThese}
use Rattle.receiver.specs.declared.opened.Opened.{Opened}
use Rattle.receiver.specs.declared.outcome.Received.{Received}
use Rattle.receiver.specs.declared.outcome.Received.TheVariants as how
use Rattle.receiver.specs.Standing.{state_of, line_by}
use Rattle.receiver.specs.Disks.{HasFront, work, HasNow, closing}
use Rattle.receiver.specs.Answers.{StepSays, ItemWrites}
use Rattle.receiver.specs.Steps.{TakesAs, line_under, begun_if}
use Rattle.receiver.proofs.Unpacked.{Keeps, KeepsSays}
use Rattle.receiver.proofs.BegunParts.{none_yet}

-- ---- a guard refuses the command

refused_closes : (guards : List Guard) (c : Command) (begun : Option Begun) (refusal : meant.Refusal) → guarded guards c ≡ Some refusal → closed_by guards c begun ≡ []
refused_closes guards c begun refusal is =
    ap (λ (o : Option meant.Refusal). if is_edit c then [] else (elim o as (λ x. List Group) [ Some refusal ↦ [] | None ↦ closed begun ])) is ∙ one (is_edit c)
  where
    one : (b : Bool) → ◌≡◌ {A = List Group} (if b then [] else []) []
    one true = refl
    one false = refl

pub refused_keeps : (K : List Group → Option Begun → Type 0) (groups : List Group) (guards : List Guard) (c : Command) (begun : Option Begun) (refusal : meant.Refusal) → guarded guards c ≡ Some refusal → K groups begun
    → (b : Option Begun) × K (groups ++ closed_by guards c begun) b
refused_keeps K groups guards c begun refusal is keeps =
    (begun, subst (λ (l : List Group). K l begun) (sym (ap (λ (l : List Group). groups ++ l) (refused_closes guards c begun refusal is) ∙ append-nil groups)) keeps)

module _ (header : Header) (groups : List Group) where
  -- Each image that a crash may leave has the groups.
  pub keeps_has : (begun : Option Begun) (current : Option Opened) (store : StoreState) (seen : List ℕ) (pending : Pending) (image : List ℕ) → Keeps header groups begun current store seen pending → IsImage pending image → HasThese header groups image
  keeps_has None None store seen pending image keeps is = rests_has header (bodies_of groups) _ _ _ keeps.rests image is
  keeps_has None (Some o) store seen pending image keeps is = absurd keeps
  keeps_has (Some b) None store seen pending image keeps is = absurd keeps
  keeps_has (Some b) (Some o) store seen pending image keeps is = grows_has header (bodies_of groups) _ _ _ _ keeps.builds.grows image is

  pub kept_moments : {D : Type 0} {moment : D → ℕ} {left_since : D → ℕ → List ℕ → Type 0} {pending : Pending} (disk : D) (due : List Group) (begun : Option Begun) (current : Option Opened) (store : StoreState) (seen : List ℕ)
      → Keeps header groups begun current store seen pending → ((image : List ℕ) → left_since disk (moment disk) image → IsImage pending image) → LeavesOnly moment left_since disk disk (HasFront header groups due)
  kept_moments disk due begun current store seen keeps only = begins disk only (λ image is. none_yet header groups due image (keeps_has begun current store seen _ image keeps is))

-- ---- none does

follow_allowed : (now : Followed) (item : Item) → guarded now.guards item.command ≡ None → follow now item ≡ watched (looked now.guards item.command) (blank_step now.state item.command)
follow_allowed now item e =
    ap (λ (o : Option meant.Refusal). elim o as (λ y. After Followed) [
      | Some refusal ↦ record { state = record { guards = looked now.guards item.command; state = now.state }; refusal = Some refusal }
      | None ↦ watched (looked now.guards item.command) (blank_step now.state item.command)
    ]) e

abbrev Blank : Type 0
Blank = Unit {0}

abbrev blank : State (Option Place) → State Blank
blank state = recelled_state (λ _. tt) state

-- What a step says over cells that carry nothing.
blank_says : (r : Result (Unit {0}) Received) (item : Item) (place : Place) (old new : State (Option Place)) → StepSays r item new (step None (cells_put further place item.command) old item.command) → StepSays r item (blank new) (blank_step (blank old) item.command)
blank_says (Ok u) item place old new says = answers_blank {A = Unit {0}} further place item.command old new (Ok tt) says
blank_says (Err (how.Files (ended.Refused verdict))) item place old new says =
    let refusal : refusal_of verdict.refusal ≡ says.refusal = ap (λ (v : reading.Verdict). v.refusal) says.verdict_is in
    let same : step None (cells_put further place item.command) old item.command ≡ record { state = new; refusal = Some (refusal_of verdict.refusal) } = says.after_is ∙ ap (λ (x : meant.Refusal). record { state = new; refusal = Some x }) (sym refusal) in
    record {
      refusal = says.refusal;
      verdict_is = says.verdict_is;
      after_is = answers_blank {A = Unit {0}} further place item.command old new (Err (why.Refused verdict.refusal)) same ∙ ap (λ (x : meant.Refusal). record { state = blank new; refusal = Some x }) refusal;
    }
blank_says (Err (how.Files ended.NoMemory)) item place old new says = tt
blank_says (Err (how.Files ended.OutputFault)) item place old new says = tt
blank_says (Err (how.Files ended.InputFault)) item place old new says = absurd says
blank_says (Err (how.Files ended.Done)) item place old new says = absurd says
blank_says (Err (how.Files (ended.InputTooLong file))) item place old new says = absurd says
blank_says (Err (how.Files (ended.TooMuch sum))) item place old new says = absurd says
blank_says (Err (how.Files (ended.InputChanged file at))) item place old new says = absurd says
blank_says (Err how.StoreFault) item place old new says = tt
blank_says (Err (how.LogFull end wanted limit)) item place old new says =
    let stepped : Stepped (Option Place) = step None (cells_put further place item.command) old item.command in
    let same : stepped ≡ record { state = stepped.state; refusal = None } = λ i. record { state = stepped.state; refusal = says i } in
    ap (λ (a : Stepped Blank). a.refusal) (answers_blank {A = Unit {0}} further place item.command old stepped.state (Ok tt) same)

watched_says : (r : Result (Unit {0}) Received) (item : Item) (guards : List Guard) (new : State Blank) (after : Stepped Blank) → StepSays r item new after → StepSays r item (beside guards new) (watched guards after)
watched_says (Ok u) item guards new after says = ap (watched guards) says
watched_says (Err (how.Files (ended.Refused verdict))) item guards new after says = record { refusal = says.refusal; verdict_is = says.verdict_is; after_is = ap (watched guards) says.after_is }
watched_says (Err (how.Files ended.NoMemory)) item guards new after says = tt
watched_says (Err (how.Files ended.OutputFault)) item guards new after says = tt
watched_says (Err (how.Files ended.InputFault)) item guards new after says = absurd says
watched_says (Err (how.Files ended.Done)) item guards new after says = absurd says
watched_says (Err (how.Files (ended.InputTooLong file))) item guards new after says = absurd says
watched_says (Err (how.Files (ended.TooMuch sum))) item guards new after says = absurd says
watched_says (Err (how.Files (ended.InputChanged file at))) item guards new after says = absurd says
watched_says (Err how.StoreFault) item guards new after says = tt
watched_says (Err (how.LogFull end wanted limit)) item guards new after says = says

pub allowed_says : (r : Result (Unit {0}) Received) (item : Item) (old_guards new_guards : List Guard) (old new : State (Option Place)) → guarded old_guards item.command ≡ None → new_guards ≡ looked old_guards item.command → TakesAs r item old new
    → StepSays r item (beside new_guards (blank new)) (follow (beside old_guards (blank old)) item)
allowed_says r item old_guards new_guards old new none counted says =
    subst (λ (a : After Followed). StepSays r item (beside new_guards (blank new)) a) (sym (follow_allowed (beside old_guards (blank old)) item none))
    (subst (λ (gs : List Guard). StepSays r item (beside gs (blank new)) (watched (looked old_guards item.command) (blank_step (blank old) item.command))) (sym counted)
    (watched_says r item (looked old_guards item.command) (blank new) (blank_step (blank old) item.command) (blank_says r item says.0 old new says.1)))

-- ---- the groups that are due

allowed_closes : (guards : List Guard) (c : Command) (begun : Option Begun) → guarded guards c ≡ None → closed_by guards c begun ≡ closing c begun
allowed_closes guards c begun is = ap (λ (o : Option meant.Refusal). if is_edit c then [] else (elim o as (λ x. List Group) [ Some refusal ↦ [] | None ↦ closed begun ])) is

-- A head looks at no cells.
head_blank : (place : Place) (old : State (Option Place)) (c : Command) (head : Head) → head_of c ≡ Some head → (blank_step (blank old) c).refusal ≡ (step None (cells_put further place c) old c).refusal
head_blank place old c head is =
    ap (λ (a : Stepped Blank). a.refusal) (head_step tt (map (λ _. tt) (bytes_of c)) (blank old) c head is ∙ sym (head_step tt (map (λ _. tt) (cells_put further place c)) (blank old) c head is) ∙ all_steps-cells (λ _. tt) c None (cells_put further place c) old)

begun_alike : (place : Place) (old : State (Option Place)) (c : Command) (guards : List Guard) → begun_if (step None (cells_put further place c) old c) c ≡ begun_if (watched guards (blank_step (blank old) c)) c
begun_alike place old c guards = one (head_of c) refl
  where
    shown : Option Head → Option meant.Refusal → List Group
    shown o refusal = elim refusal as (λ x. List Group) [ Some r ↦ [] | None ↦ elim o as (λ x. List Group) [ None ↦ [] | Some head ↦ mark_of c ∷ [] ] ]

    nothing : (r : Option meant.Refusal) → shown None r ≡ []
    nothing None = refl
    nothing (Some refusal) = refl

    before : Option meant.Refusal
    before = (step None (cells_put further place c) old c).refusal

    after : Option meant.Refusal
    after = (blank_step (blank old) c).refusal

    one : (o : Option Head) → head_of c ≡ o → shown (head_of c) before ≡ shown (head_of c) after
    one None is = ap (λ (o : Option Head). shown o before) is ∙ nothing before ∙ sym (nothing after) ∙ ap (λ (o : Option Head). shown o after) (sym is)
    one (Some head) is = ap (shown (head_of c)) (sym (head_blank place old c head is))

allowed_begins : (guards : List Guard) (item : Item) (place : Place) (old : State (Option Place)) → guarded guards item.command ≡ None
    → begun_if (step None (cells_put further place item.command) old item.command) item.command ≡ begun_if (follow (beside guards (blank old)) item) item.command
allowed_begins guards item place old none =
    begun_alike place old item.command (looked guards item.command) ∙ ap (λ (a : After Followed). begun_if a item.command) (sym (follow_allowed (beside guards (blank old)) item none))

pub allowed_due : (guards : List Guard) (item : Item) (begun : Option Begun) (place : Place) (old : State (Option Place)) → guarded guards item.command ≡ None
    → closing item.command begun ++ begun_if (step None (cells_put further place item.command) old item.command) item.command
    ≡ closed_by guards item.command begun ++ begun_if (follow (beside guards (blank old)) item) item.command
allowed_due guards item begun place old none = λ i. sym (allowed_closes guards item.command begun none) i ++ allowed_begins guards item place old none i

-- ---- what stands then

writes_then : (r : Result (Unit {0}) Received) (Sure Sure_now : Type 0) (line : List ℕ) (old new : Option (List ℕ)) → (Sure → Sure_now) → ItemWrites r Sure line old new → ItemWrites r Sure_now line old new
writes_then (Ok u) Sure Sure_now line old new f w = w
writes_then (Err (how.Files (ended.Refused verdict))) Sure Sure_now line old new f w = w
writes_then (Err (how.Files ended.NoMemory)) Sure Sure_now line old new f w = (w.0, f w.1)
writes_then (Err (how.Files ended.OutputFault)) Sure Sure_now line old new f w = w
writes_then (Err (how.Files ended.InputFault)) Sure Sure_now line old new f w = w
writes_then (Err (how.Files ended.Done)) Sure Sure_now line old new f w = w
writes_then (Err (how.Files (ended.InputTooLong file))) Sure Sure_now line old new f w = w
writes_then (Err (how.Files (ended.TooMuch sum))) Sure Sure_now line old new f w = w
writes_then (Err (how.Files (ended.InputChanged file at))) Sure Sure_now line old new f w = w
writes_then (Err how.StoreFault) Sure Sure_now line old new f (inl none) = inl none
writes_then (Err how.StoreFault) Sure Sure_now line old new f (inr sure) = inr (sure.0, f sure.1)
writes_then (Err (how.LogFull end wanted limit)) Sure Sure_now line old new f w = w

module _ {D : Type 0} (ghosts : keeping.Ghosts D) (old new : D) (guards : List Guard) (item : Item) (current : Option Opened) (store : StoreState) (none : guarded guards item.command ≡ None) where
  pub allowed_writes : (r : Result (Unit {0}) Received) (old_out new_out : Option (List ℕ))
      → ItemWrites r ((place : Place) → HasNow ghosts (work old store current) new item.version (closing item.command) (begun_if (step None (cells_put further place item.command) (state_of store current) item.command) item.command)) (line_by current item.command) old_out new_out
      → ItemWrites r (HasNow ghosts (work old store current) new item.version (closed_by guards item.command) (begun_if (follow (beside guards (blank (state_of store current))) item) item.command)) (line_under guards current item.command) old_out new_out
  allowed_writes r old_out new_out w =
      let place : Place = record { at = 0 } in
      let begins : List Group = begun_if (follow (beside guards (blank (state_of store current))) item) item.command in
      subst (λ (o : Option meant.Refusal). ItemWrites r (HasNow ghosts (work old store current) new item.version (closed_by guards item.command) begins) (elim o as (λ x. List ℕ) [ Some refusal ↦ [] | None ↦ line_by current item.command ]) old_out new_out) (sym none)
      (writes_then r ((place : Place) → HasNow ghosts (work old store current) new item.version (closing item.command) (begun_if (step None (cells_put further place item.command) (state_of store current) item.command) item.command))
      (HasNow ghosts (work old store current) new item.version (closed_by guards item.command) begins) (line_by current item.command) old_out new_out
      (λ sure told header there begun version keeps image is.
      subst (λ (l : List Group). HasFront header (there ++ l) begins image) (sym (allowed_closes guards item.command begun none))
      (subst (λ (l : List Group). HasFront header (there ++ closing item.command begun) l image) (allowed_begins guards item place (state_of store current) none) (sure place told header there begun version keeps image is))) w)

-- The part that a command closes which no guard refuses.
pub allowed_keeps : (r : Result (Unit {0}) Received) (K : List Group → Option Begun → Type 0) (L : List Group → Type 0) (groups marks begins : List Group) (guards : List Guard) (c : Command) (begun after : Option Begun) → guarded guards c ≡ None
    → KeepsSays r K L (groups ++ closing c begun) (groups ++ (closing c begun ++ marks)) (groups ++ (closing c begun ++ begins)) after
    → KeepsSays r K L (groups ++ closed_by guards c begun) (groups ++ (closed_by guards c begun ++ marks)) (groups ++ (closed_by guards c begun ++ begins)) after
allowed_keeps r K L groups marks begins guards c begun after none says =
    subst (λ (l : List Group). KeepsSays r K L (groups ++ l) (groups ++ (l ++ marks)) (groups ++ (l ++ begins)) after) (sym (allowed_closes guards c begun none)) says
