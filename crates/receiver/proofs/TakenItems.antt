-- One command: a head, END or an edit, by the calls that do it.
use Rattle.std.specs.Prelude.{◌≡◌, ℕ, ◌+◌, Bool, true, false, not, ◌&&◌, List, [], ◌∷◌, ◌++◌, length, Option, None, Some, Result, Ok, Err, is_none, if◌then◌else◌}
use Rattle.std.specs.Io.KnownBytes.{Appends}
use Rattle.std.proofs.Common.{inl, inr, refl, sym, ap, subst, ◌∙◌, append_assoc, append-nil, arith}
use Rattle.sx_base.specs.declared.disk.Disk as keeping
use Rattle.sx_base.specs.Causes.{Rose}
use Rattle.sx_base.specs.Disk.{Pending, IsImage}
use Rattle.sx_base.specs.Crash.{LeavesOnly}
use Rattle.sx_base.specs.Outside.{AppendsPart}
use Rattle.sx_base.proofs.DiskMoments.{joins, weakens}
use Rattle.sx_base.specs.declared.outcome.Outcome.{Outcome}
use Rattle.sx_base.specs.declared.outcome.Outcome.TheVariants as ended
use Rattle.send_model.specs.Refusal as meant
use Rattle.send_model.specs.Command.{Command, End}
use Rattle.send_model.specs.Reading.{Item}
use Rattle.send_model.specs.Spelling.{canonical}
use Rattle.send_model.specs.Store.{Head, Store, State, After, head_of, begun, entered, completed, step_head, step}
use Rattle.send_model.specs.Counts.{is_end}
use Rattle.send_model.proofs.Sorts.{head_step}
use Rattle.clone_resolve.specs.Steps.{cells_put}
use Rattle.store_model.specs.Image.{Header}
use Rattle.store_model.specs.Stored.{Group, is_edit}
use Rattle.store_model.specs.Written.{Begun, mark_of, begun_by, begun_after, closed}
use Rattle.store_model.specs.Dues.{Due, first_full, pieces_from}
use Rattle.store_model.proofs.LawfulGroups.{edit_step}
use Rattle.store_model.proofs.WrittenGroups.{head_fact, edit_facts}
use Rattle.group_replay.specs.declared.place.Place.{Place}
use Rattle.group_replay.specs.Placing.{further}
use Rattle.store_journal.specs.Shown.{StoreState}
use Rattle.store_journal.specs.Holding.{HasThese, Holds}
use Rattle.receiver.specs.declared.opened.Opened.{Opened}
use Rattle.receiver.specs.declared.outcome.Received.{Received}
use Rattle.receiver.specs.declared.outcome.Received.TheVariants as how
use Rattle.receiver.specs.Standing.{state_of, place_of, behind_part, behind_close, line_due, line_by, IsClosedAs}
use Rattle.receiver.specs.Disks.{HasVersion, HasFront, work, HasNow, closing, marked}
use Rattle.receiver.specs.Answers.{IfClosed, WritesLine, StepSays, PiecesSay, ItemWrites}
use Rattle.receiver.specs.Steps.{EditsAs, TakesAs, begun_if}
use Rattle.receiver.proofs.Unpacked.{Keeps, KeepsSays, ErrCaused}

-- ---- the part before could not be completed, or its line not be written

pub unclosed_step : {S : Type 0} (line : List ℕ) (old_out new_out : Option (List ℕ)) (before now : ℕ) (why : Received) (item : Item) (new : S) (after : After S) → WritesLine line old_out new_out before now (Err why) → StepSays (Err why) item new after
unclosed_step line old_out new_out before now (how.Files outcome) item new after w = subst (λ (o : Outcome). StepSays (Err (how.Files o)) item new after) (sym w.0) tt
unclosed_step line old_out new_out before now how.StoreFault item new after w = tt
unclosed_step line old_out new_out before now (how.LogFull end wanted limit) item new after w = absurd w

pub unclosed_takes : (line : List ℕ) (old_out new_out : Option (List ℕ)) (before now : ℕ) (why : Received) (item : Item) (old new : State (Option Place)) → WritesLine line old_out new_out before now (Err why) → TakesAs (Err why) item old new
unclosed_takes line old_out new_out before now why item old new w =
    (record { at = 0 }, unclosed_step line old_out new_out before now why item new (step None (cells_put further (record { at = 0 }) item.command) old item.command) w)

pub unclosed_writes : (Sure : Type 0) (line due : List ℕ) (old_out new_out : Option (List ℕ)) (before now : ℕ) (why : Received) → line ≡ due → WritesLine line old_out new_out before now (Err why) → ItemWrites (Err why) Sure due old_out new_out
unclosed_writes Sure line due old_out new_out before now (how.Files outcome) is w =
    subst (λ (o : Outcome). ItemWrites (Err (how.Files o)) Sure due old_out new_out) (sym w.0) (subst (λ (l : List ℕ). AppendsPart old_out new_out l) is w.2)
unclosed_writes Sure line due old_out new_out before now how.StoreFault is w = inl w
unclosed_writes Sure line due old_out new_out before now (how.LogFull end wanted limit) is w = absurd w

pub unclosed_keeps : (K : List Group → Option Begun → Type 0) (L : List Group → Type 0) (done full all : List Group) (after : Option Begun) (line : List ℕ) (old_out new_out : Option (List ℕ)) (before now : ℕ) (why : Received) → WritesLine line old_out new_out before now (Err why)
    → IfClosed (Err why) (K done None) → KeepsSays (Err why) K L done full all after
unclosed_keeps K L done full all after line old_out new_out before now (how.Files outcome) w closed = subst (λ (o : Outcome). KeepsSays (Err (how.Files o)) K L done full all after) (sym w.0) (None, closed)
unclosed_keeps K L done full all after line old_out new_out before now how.StoreFault w closed = tt
unclosed_keeps K L done full all after line old_out new_out before now (how.LogFull end wanted limit) w closed = absurd w

-- The part was completed, or it could not be.
pub closed_writes : (Sure : Type 0) (line due : List ℕ) (old_out new_out : Option (List ℕ)) (before now : ℕ) (r : Result (Unit {0}) Received) → line ≡ due → WritesLine line old_out new_out before now r → ItemWrites r Sure due old_out new_out
closed_writes Sure line due old_out new_out before now (Ok u) is w = subst (λ (l : List ℕ). Appends old_out new_out l) is w
closed_writes Sure line due old_out new_out before now (Err why) is w = unclosed_writes Sure line due old_out new_out before now why is w

pub closed_keeps : (K : List Group → Option Begun → Type 0) (L : List Group → Type 0) (done full all : List Group) (after : Option Begun) (line : List ℕ) (old_out new_out : Option (List ℕ)) (before now : ℕ) (r : Result (Unit {0}) Received) → WritesLine line old_out new_out before now r
    → IfClosed r (K done None) → all ≡ done → after ≡ None → KeepsSays r K L done full all after
closed_keeps K L done full all after line old_out new_out before now (Ok u) w closed same none = subst (λ (b : Option Begun). K all b) (sym none) (subst (λ (l : List Group). K l None) (sym same) closed)
closed_keeps K L done full all after line old_out new_out before now (Err why) w closed same none = unclosed_keeps K L done full all after line old_out new_out before now why w closed

-- Its line was written, and then no more.
never_rose : Rose 0 0 → ⊥
never_rose rose = omega (arith, rose)

pub line_stands : (Sure : Type 0) (line due : List ℕ) (old_out new_out : Option (List ℕ)) (before now : ℕ) (r : Result (Unit {0}) Received) → ErrCaused 0 0 0 0 before now r → Sure → line ≡ due → Appends old_out new_out line → ItemWrites r Sure due old_out new_out
line_stands Sure line due old_out new_out before now (Ok u) cause sure is wrote = subst (λ (l : List ℕ). Appends old_out new_out l) is wrote
line_stands Sure line due old_out new_out before now (Err (how.Files (ended.Refused verdict))) cause sure is wrote = subst (λ (l : List ℕ). Appends old_out new_out l) is wrote
line_stands Sure line due old_out new_out before now (Err (how.Files ended.NoMemory)) cause sure is wrote = (subst (λ (l : List ℕ). Appends old_out new_out l) is wrote, sure)
line_stands Sure line due old_out new_out before now (Err (how.Files ended.OutputFault)) cause sure is wrote = absurd (never_rose cause)
line_stands Sure line due old_out new_out before now (Err (how.Files ended.InputFault)) cause sure is wrote = subst (λ (l : List ℕ). Appends old_out new_out l) is wrote
line_stands Sure line due old_out new_out before now (Err (how.Files ended.Done)) cause sure is wrote = subst (λ (l : List ℕ). Appends old_out new_out l) is wrote
line_stands Sure line due old_out new_out before now (Err (how.Files (ended.InputTooLong file))) cause sure is wrote = subst (λ (l : List ℕ). Appends old_out new_out l) is wrote
line_stands Sure line due old_out new_out before now (Err (how.Files (ended.TooMuch sum))) cause sure is wrote = subst (λ (l : List ℕ). Appends old_out new_out l) is wrote
line_stands Sure line due old_out new_out before now (Err (how.Files (ended.InputChanged file place))) cause sure is wrote = subst (λ (l : List ℕ). Appends old_out new_out l) is wrote
line_stands Sure line due old_out new_out before now (Err how.StoreFault) cause sure is wrote = inr (subst (λ (l : List ℕ). Appends old_out new_out l) is wrote, sure)
line_stands Sure line due old_out new_out before now (Err (how.LogFull end wanted limit)) cause sure is wrote = subst (λ (l : List ℕ). Appends old_out new_out l) is wrote

-- ---- a head

-- Over the part before it, complete.
pub head_takes : (r : Result (Unit {0}) Received) (item : Item) (head : Head) (len : ℕ) (current : Option Opened) (old mid : StoreState) (new : State (Option Place)) → head_of item.command ≡ Some head → IsClosedAs len current old mid
    → StepSays r item new (entered mid.core head (begun mid.core head)) → TakesAs r item (state_of old current) new
unfolding step_head
head_takes r item head len current old mid new is closed says =
    let place : Place = record { at = 0 } in (
      place,
      subst (λ (a : After (State (Option Place))). StepSays r item new a) (ap (λ (core : Store (Option Place)). entered core head (begun core head)) closed.core ∙ sym (head_step None (cells_put further place item.command) (state_of old current) item.command head is)) says,
    )

-- It completes the part.
pub head_closes : (c : Command) (head : Head) (begun : Option Begun) → head_of c ≡ Some head → closing c begun ≡ closed begun
head_closes c head begun is = ap (λ (b : Bool). if b then [] else closed begun) (head_fact c head is)

-- The groups of the head stand behind that of the part.
pub head_keeps : (r : Result (Unit {0}) Received) (K : List Group → Option Begun → Type 0) (L : List Group → Type 0) (groups marks marks_now more : List Group) (c : Command) (head : Head) (begun after : Option Begun) → head_of c ≡ Some head → marks ≡ marks_now
    → KeepsSays r K L (groups ++ closed begun) ((groups ++ closed begun) ++ marks) ((groups ++ closed begun) ++ more) after → KeepsSays r K L (groups ++ closing c begun) (groups ++ (closing c begun ++ marks_now)) (groups ++ (closing c begun ++ more)) after
head_keeps r K L groups marks marks_now more c head begun after is same_marks says =
    let same = head_closes c head begun is in
    subst (λ (l : List Group). KeepsSays r K L (groups ++ l) (groups ++ (l ++ marks_now)) (groups ++ (l ++ more)) after) (sym same)
    (subst (λ (l : List Group). KeepsSays r K L (groups ++ closed begun) l (groups ++ (closed begun ++ more)) after) (append_assoc groups (closed begun) marks ∙ ap (λ (l : List Group). groups ++ (closed begun ++ l)) same_marks)
    (subst (λ (l : List Group). KeepsSays r K L (groups ++ closed begun) ((groups ++ closed begun) ++ marks) l after) (append_assoc groups (closed begun) more) says))

-- What was completed before it, where its line could not be written.
pub unclosed_held : (header : Header) (groups : List Group) (why : Received) (c : Command) (head : Head) (begun : Option Begun) (current : Option Opened) (store : StoreState) (seen : List ℕ) (pending : Pending) → head_of c ≡ Some head → current ≡ None
    → IfClosed (Err why) (Holds header (groups ++ closed begun) store seen pending) → IfClosed (Err why) (Keeps header (groups ++ closing c begun) None current store seen pending)
unclosed_held header groups why c head begun current store seen pending is none closed =
    subst (λ (o : Option Opened). IfClosed (Err why) (Keeps header (groups ++ closing c begun) None o store seen pending)) (sym none)
    (subst (λ (l : List Group). IfClosed (Err why) (Holds header (groups ++ l) store seen pending)) (sym (head_closes c head begun is)) closed)

-- There is room for it behind the part.
pub marks_alike : (c : Command) (head : Head) (len : ℕ) (current : Option Opened) (old mid : StoreState) → head_of c ≡ Some head → IsClosedAs len current old mid → mid.log.limit ≡ old.log.limit
    → marked mid.log.limit mid.log.gate c ≡ marked old.log.limit (behind_close current c (place_of old current)) c
marks_alike c head len current old mid is whole limit =
    let place : mid.log.gate ≡ behind_close current c (place_of old current) = whole.gate ∙ ap (λ (b : Bool). if b then place_of old current else behind_part current (place_of old current)) (sym (head_fact c head is)) in
    λ i. marked (limit i) (place i) c

pub head_lines : (c : Command) (head : Head) (current : Option Opened) → head_of c ≡ Some head → line_due current ≡ line_by current c
head_lines c head current is = ap (λ (b : Bool). if b then [] else line_due current) (sym (head_fact c head is))

-- ---- images with some of the groups

module _ (header : Header) (groups : List Group) where
  -- the first of some groups are the first of these and others
  pub front_first : (a b : List Group) (image : List ℕ) → HasFront header groups a image → HasFront header groups (a ++ b) image
  front_first a b image f = record { first = f.first; more = f.more ++ b; all = ap (λ (l : List Group). l ++ b) f.all ∙ append_assoc f.first f.more b; has = f.has }

  -- and so are those of the others behind all of these
  pub front_behind : (a b : List Group) (image : List ℕ) → HasFront header (groups ++ a) b image → HasFront header groups (a ++ b) image
  front_behind a b image f = record {
    first = a ++ f.first;
    more = f.more;
    all = ap (λ (l : List Group). a ++ l) f.all ∙ sym (append_assoc a f.first f.more);
    has = subst (λ (l : List Group). HasThese header l image) (append_assoc groups a f.first) f.has;
  }

  -- two runs of calls
  pub both_moments : {D : Type 0} {moment : D → ℕ} {left_since : D → ℕ → List ℕ → Type 0} {old middle new : D} (a b : List Group) → LeavesOnly moment left_since old middle (HasFront header groups a)
      → LeavesOnly moment left_since middle new (HasFront header (groups ++ a) b) → LeavesOnly moment left_since old new (HasFront header groups (a ++ b))
  both_moments a b first second = joins (weakens first (λ image f. front_first a b image f)) (weakens second (λ image f. front_behind a b image f))

-- ---- END, and an edit

end_command : (c : Command) → true ≡ is_end c → c ≡ End
end_command End e = refl
end_command c e = cc

pub end_takes : (r : Result (Unit {0}) Received) (item : Item) (len : ℕ) (current after : Option Opened) (old new : StoreState) (line : List ℕ) (old_out new_out : Option (List ℕ)) (before now : ℕ) → true ≡ is_end item.command → after ≡ None
    → WritesLine line old_out new_out before now r → IfClosed r (IsClosedAs len current old new) → TakesAs r item (state_of old current) (state_of new after)
unfolding step
end_takes (Err why) item len current after old new line old_out new_out before now ends none w closed = unclosed_takes line old_out new_out before now why item (state_of old current) (state_of new after) w
end_takes (Ok u) item len current after old new line old_out new_out before now ends none w closed =
    let put : List (Option Place) = cells_put further (record { at = 0 }) item.command in (
      record { at = 0 },
      ap (λ (c : Command). step None put (state_of old current) c) (end_command item.command ends)
          ∙ (λ i. record { state = record { store = sym closed.core i; part = None }; refusal = None })
          ∙ ap (λ (a : Option Opened). record { state = state_of new a; refusal = None }) (sym none),
    )

end_room : (limit : ℕ) (part : Option Opened) (item : Item) (place next : ℕ) → true ≡ is_end item.command → next ≡ behind_part part place → PiecesSay (Ok tt) limit (behind_close part item.command place) next item
unfolding first_full
end_room limit part item place next ends is =
    subst (λ (c : Command). PiecesSay (Ok tt) limit (behind_close part c place) next (record item { command = c })) (sym (end_command item.command ends)) (refl, is)

pub end_pieces : (r : Result (Unit {0}) Received) (limit : ℕ) (item : Item) (len : ℕ) (current after : Option Opened) (old new : StoreState) (line : List ℕ) (old_out new_out : Option (List ℕ)) (before now : ℕ) → true ≡ is_end item.command → after ≡ None
    → WritesLine line old_out new_out before now r → IfClosed r (IsClosedAs len current old new) → PiecesSay r limit (behind_close current item.command (place_of old current)) (place_of new after) item
end_pieces (Ok u) limit item len current after old new line old_out new_out before now ends none w closed =
    subst (λ (a : Option Opened). PiecesSay (Ok tt) limit (behind_close current item.command (place_of old current)) (place_of new a) item) (sym none) (end_room limit current item (place_of old current) new.log.gate ends closed.gate)
end_pieces (Err (how.Files outcome)) limit item len current after old new line old_out new_out before now ends none w closed = tt
end_pieces (Err how.StoreFault) limit item len current after old new line old_out new_out before now ends none w closed = tt
end_pieces (Err (how.LogFull end wanted most)) limit item len current after old new line old_out new_out before now ends none w closed = absurd w

-- What is neither a head nor END is an edit.
pub is_edited : (c : Command) → None ≡ head_of c → false ≡ is_end c → is_edit c ≡ true
is_edited c head ends = λ i. is_none (sym head i) && not (sym ends i)

pub edit_takes : (r : Result (Unit {0}) Received) (item : Item) (old new : State (Option Place)) → is_edit item.command ≡ true → EditsAs r item old new → TakesAs r item old new
edit_takes r item old new edits says = (says.0, subst (λ (a : After (State (Option Place))). StepSays r item new a) (sym (edit_step None (cells_put further says.0 item.command) old item.command edits)) says.1)

-- ---- the groups that are due

no_head : {S : Type 0} (after : After S) (c : Command) → head_of c ≡ None → begun_if after c ≡ []
no_head after c is =
    ap (λ (o : Option Head). elim after.refusal as (λ x. List Group) [ Some refusal ↦ [] | None ↦ elim o as (λ x. List Group) [ None ↦ [] | Some head ↦ mark_of c ∷ [] ] ]) is ∙ one after.refusal
  where
    one : (o : Option meant.Refusal) → ◌≡◌ {A = List Group} (elim o as (λ x. List Group) [ Some refusal ↦ [] | None ↦ [] ]) []
    one None = refl
    one (Some refusal) = refl

head_entered : (place : Place) (state : State (Option Place)) (c : Command) (head : Head) → head_of c ≡ Some head → step None (cells_put further place c) state c ≡ entered (completed state) head (begun (completed state) head)
unfolding step_head
head_entered place state c head is = head_step None (cells_put further place c) state c head is

module _ (header : Header) (groups : List Group) where
  pub due_same : {D : Type 0} {moment : D → ℕ} {left_since : D → ℕ → List ℕ → Type 0} {old new : D} (a b : List Group) → a ≡ b → LeavesOnly moment left_since old new (HasFront header groups a) → LeavesOnly moment left_since old new (HasFront header groups b)
  due_same {D} {moment} {left_since} {old} {new} a b e run = subst (λ (l : List Group). LeavesOnly moment left_since old new (HasFront header groups l)) e run

  pub enter_moments : {D : Type 0} {moment : D → ℕ} {left_since : D → ℕ → List ℕ → Type 0} {old new : D} (c : Command) (head : Head) (begun_part : Option Begun) (place : Place) (len : ℕ) (current : Option Opened) (store mid : StoreState) → head_of c ≡ Some head
      → IsClosedAs len current store mid
      → LeavesOnly moment left_since old new (HasFront header groups (closed begun_part ++ begun_if (entered mid.core head (begun mid.core head)) c))
      → LeavesOnly moment left_since old new (HasFront header groups (closing c begun_part ++ begun_if (step None (cells_put further place c) (state_of store current) c) c))
  enter_moments c head begun_part place len current store mid is whole run =
      let same : step None (cells_put further place c) (state_of store current) c ≡ entered mid.core head (begun mid.core head) =
      head_entered place (state_of store current) c head is ∙ ap (λ (core : Store (Option Place)). entered core head (begun core head)) (sym whole.core) in
      due_same (closed begun_part ++ begun_if (entered mid.core head (begun mid.core head)) c) (closing c begun_part ++ begun_if (step None (cells_put further place c) (state_of store current) c) c)
      (λ i. sym (head_closes c head begun_part is) i ++ begun_if (sym same i) c) run

  -- the part before the head was to be completed
  pub close_moments : {D : Type 0} {moment : D → ℕ} {left_since : D → ℕ → List ℕ → Type 0} {old new : D} (c : Command) (begun_part : Option Begun) (more : List Group) → is_edit c ≡ false → LeavesOnly moment left_since old new (HasFront header groups (closed begun_part))
      → LeavesOnly moment left_since old new (HasFront header groups (closing c begun_part ++ more))
  close_moments c begun_part more ends run =
      weakens run (λ image f. subst (λ (b : Bool). HasFront header groups ((if b then [] else closed begun_part) ++ more) image) (sym ends) (front_first header groups (closed begun_part) more image f))

  pub edits_moments : {D : Type 0} {moment : D → ℕ} {left_since : D → ℕ → List ℕ → Type 0} {old new : D} {S : Type 0} (c : Command) (begun_part : Option Begun) (after : After S) → is_edit c ≡ true → LeavesOnly moment left_since old new (HasFront header groups [])
      → LeavesOnly moment left_since old new (HasFront header groups (closing c begun_part ++ begun_if after c))
  edits_moments c begun_part after edits run =
      due_same [] (closing c begun_part ++ begun_if after c) (λ i. (if sym edits i then [] else closed begun_part) ++ sym (no_head after c (edit_facts c edits).0) i) run

-- ---- what each image has now

module _ {D : Type 0} (ghosts : keeping.Ghosts D) (old mid new : D) where
  -- the part before a head is complete, and the group of the head may be there
  pub enter_sure : (version : ℕ) (c : Command) (head : Head) (len : ℕ) (current : Option Opened) (store now : StoreState) → head_of c ≡ Some head → IsClosedAs len current store now
      → (ghosts.tells → (header : Header) (groups : List Group) (part : Option Begun) → Keeps header groups part current store (ghosts.seen old) (ghosts.pending old) → Holds header (groups ++ closed part) now (ghosts.seen mid) (ghosts.pending mid))
      → (ghosts.tells → (header : Header) (groups : List Group) → Holds header groups now (ghosts.seen mid) (ghosts.pending mid) → (image : List ℕ) → IsImage (ghosts.pending new) image → HasFront header groups (begun_if (entered now.core head (begun now.core head)) c) image)
      → (place : Place) → HasNow ghosts (work old store current) new version (closing c) (begun_if (step None (cells_put further place c) (state_of store current) c) c)
  enter_sure version c head len current store now is whole holds fronts place told header there part same keeps image i =
      let step_is : step None (cells_put further place c) (state_of store current) c ≡ entered now.core head (begun now.core head) =
      head_entered place (state_of store current) c head is ∙ ap (λ (core : Store (Option Place)). entered core head (begun core head)) (sym whole.core) in
      subst (λ (l : List Group). HasFront header (there ++ l) (begun_if (step None (cells_put further place c) (state_of store current) c) c) image) (sym (head_closes c head part is))
      (subst (λ (a : After (State (Option Place))). HasFront header (there ++ closed part) (begun_if a c) image) (sym step_is)
      (fronts told header (there ++ closed part) (holds told header there part keeps) image i))

  -- an edit brings no group
  pub edit_sure : {S : Type 0} (version : ℕ) (c : Command) (current : Option Opened) (store : StoreState) (after : After S) → is_edit c ≡ true
      → (ghosts.tells → (header : Header) (groups : List Group) (part : Option Begun) → HasVersion version part → Keeps header groups part current store (ghosts.seen old) (ghosts.pending old) → (image : List ℕ) → IsImage (ghosts.pending new) image → HasFront header groups [] image)
      → HasNow ghosts (work old store current) new version (closing c) (begun_if after c)
  edit_sure version c current store after edits fronts told header there part same keeps image i =
      subst (λ (l : List Group). HasFront header (there ++ l) (begun_if after c) image) (ap (λ (b : Bool). if b then [] else closed part) (sym edits))
      (subst (λ (l : List Group). HasFront header (there ++ []) l image) (sym (no_head after c (edit_facts c edits).0))
      (subst (λ (l : List Group). HasFront header l [] image) (sym (append-nil there)) (fronts told header there part same keeps image i)))

-- An edit keeps the groups that there were.
pub edit_keeps_all : (r : Result (Unit {0}) Received) (K : List Group → Option Begun → Type 0) (L : List Group → Type 0) (groups : List Group) (limit place : ℕ) (c : Command) (begun after : Option Begun) → is_edit c ≡ true → KeepsSays r K L groups groups groups after
    → KeepsSays r K L (groups ++ closing c begun) (groups ++ (closing c begun ++ marked limit place c)) (groups ++ (closing c begun ++ begun_by c)) after
edit_keeps_all r K L groups limit place c begun after edits says =
    let closes : closing c begun ≡ [] = ap (λ (b : Bool). if b then [] else closed begun) edits in
    let begins : begun_by c ≡ [] = ap (λ (o : Option Head). elim o as (λ x. List Group) [ None ↦ [] | Some head ↦ mark_of c ∷ [] ]) (edit_facts c edits).0 in
    let marks : marked limit place c ≡ [] = ap (λ (l : List Group). elim (first_full limit (pieces_from place (9 ∷ (1 + length (canonical 1 c)) ∷ []))) as (λ x. List Group) [ Some full ↦ [] | None ↦ l ]) begins ∙ nothing (first_full limit (pieces_from place (9 ∷ (1 + length (canonical 1 c)) ∷ []))) in
    subst (λ (l : List Group). KeepsSays r K L (groups ++ closing c begun) (groups ++ (closing c begun ++ marked limit place c)) l after) (sym ((λ i. groups ++ (closes i ++ begins i)) ∙ append-nil groups))
    (subst (λ (l : List Group). KeepsSays r K L (groups ++ closing c begun) l groups after) (sym ((λ i. groups ++ (closes i ++ marks i)) ∙ append-nil groups))
    (subst (λ (l : List Group). KeepsSays r K L l groups groups after) (sym (ap (λ (l : List Group). groups ++ l) closes ∙ append-nil groups)) says))
  where
    nothing : (o : Option Due) → ◌≡◌ {A = List Group} (elim o as (λ x. List Group) [ Some full ↦ [] | None ↦ [] ]) []
    nothing None = refl
    nothing (Some full) = refl

end_edits : (c : Command) → true ≡ is_end c → is_edit c ≡ false
end_edits c ends = ap is_edit (end_command c ends)

module _ (header : Header) (groups : List Group) where
  pub end_moments : {D : Type 0} {moment : D → ℕ} {left_since : D → ℕ → List ℕ → Type 0} {old new : D} (c : Command) (begun_part : Option Begun) (more : List Group) → true ≡ is_end c → LeavesOnly moment left_since old new (HasFront header groups (closed begun_part))
      → LeavesOnly moment left_since old new (HasFront header groups (closing c begun_part ++ more))
  end_moments c begun_part more ends run = close_moments header groups c begun_part more (end_edits c ends) run

-- END brings the line of the part and its group, and no other.
pub end_lines : (c : Command) (current : Option Opened) → true ≡ is_end c → line_due current ≡ line_by current c
end_lines c current ends = ap (λ (b : Bool). if b then [] else line_due current) (sym (end_edits c ends))

pub end_groups : (groups : List Group) (c : Command) (begun : Option Begun) → true ≡ is_end c → (closing c begun ≡ closed begun) × (groups ++ (closing c begun ++ begun_by c) ≡ groups ++ closing c begun)
end_groups groups c begun ends = (
  ap (λ (b : Bool). if b then [] else closed begun) (end_edits c ends),
  ap (λ (d : Command). groups ++ (closing d begun ++ begun_by d)) (end_command c ends) ∙ ap (λ (l : List Group). groups ++ l) (append-nil (closed begun)) ∙ ap (λ (d : Command). groups ++ closing d begun) (sym (end_command c ends)),
)

pub end_begun : (item : Item) (begun : Option Begun) → true ≡ is_end item.command → begun_after begun item ≡ None
end_begun item begun ends = ap (λ (c : Command). begun_after begun (record item { command = c })) (end_command item.command ends)

pub end_held : (header : Header) (groups : List Group) (r : Result (Unit {0}) Received) (c : Command) (begun : Option Begun) (current : Option Opened) (store : StoreState) (seen : List ℕ) (pending : Pending) → true ≡ is_end c → current ≡ None
    → IfClosed r (Holds header (groups ++ closed begun) store seen pending) → IfClosed r (Keeps header (groups ++ closing c begun) None current store seen pending)
end_held header groups r c begun current store seen pending ends none closed =
    subst (λ (o : Option Opened). IfClosed r (Keeps header (groups ++ closing c begun) None o store seen pending)) (sym none)
    (subst (λ (l : List Group). IfClosed r (Holds header (groups ++ l) store seen pending)) (sym (end_groups groups c begun ends).0) closed)

pub edit_lines : (c : Command) (current : Option Opened) → is_edit c ≡ true → [] ≡ line_by current c
edit_lines c current edits = ap (λ (b : Bool). if b then [] else line_due current) (sym edits)
