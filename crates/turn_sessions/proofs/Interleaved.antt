-- The whole call: from the first turn, and in the words of its contract.
use Rattle.std.specs.Prelude.{◌≡◌, ℕ, List, [], ◌∷◌, ◌++◌, length, map, Option, None, Some, Result}
use Rattle.std.specs.List.{AllByRecursion}
use Rattle.std.specs.Option.{option_map}
use Rattle.std.proofs.Common.{refl, sym, ap, subst, ◌∙◌, append-nil, append_assoc}
use Rattle.std.proofs.lemmas.List.{length-map}
use Rattle.sx_base.specs.declared.disk.Disk as keeping
use Rattle.sx_base.specs.Crash.{LeavesOnly}
use Rattle.sx_base.specs.Calls.{IfAllTold, Wrote, contents}
use Rattle.sx_base.specs.Outside.{file_at}
use Rattle.sx_base.specs.Refusals.{verdict_meant}
use Rattle.sx_base.specs.declared.outcome.Outcome.TheVariants as ended
use Rattle.sx_base.specs.declared.outcome.Verdict.{Verdict}
use Rattle.send_model.specs.Reading as reading
use Rattle.send_model.specs.Store.{Store, IsStore}
use Rattle.send_model.specs.Receive.{byte_cells}
use Rattle.send_model.specs.Guards.{Guard}
use Rattle.send_model.specs.Due.{refused_due}
use Rattle.send_model.proofs.CellSteps.{has_name-cells, has_uuid-cells}
use Rattle.send_model.proofs.Sorts.{same_inside}
use Rattle.store_model.specs.Image.{Header}
use Rattle.store_model.specs.Stored.{Group, as_bytes, made_all}
use Rattle.store_model.specs.Dues.{Ends}
use Rattle.store_model.specs.Turns as meant
use Rattle.store_model.specs.Turns.{Event, Turns, at_entry, after_turns, interleaved, to_the_end, turns_of, lines_of, turn_groups}
use Rattle.store_model.specs.TurnLaws.{AreOneByOne}
use Rattle.store_model.proofs.CellRuns.{made_all-cells, all_put_same}
use Rattle.store_model.proofs.FilesInTurn.{all_new}
use Rattle.store_model.proofs.TurnOrder.{entry_kept}
use Rattle.store_model.proofs.TurnStates.{lines_are_complete}
use Rattle.store_model.specs.TurnCells.{recelled_receiving, recelled_session}
use Rattle.store_model.specs.TurnDues.{in_turns, files_read, shared, which_long, sessions_of, all_turns, room_of, TurnsEnd, turns_end, interleave_end}
use Rattle.store_model.proofs.TurnCells.{turns_cells, end_cells, ends_cells}
use Rattle.store_model.proofs.TurnJoining.{lines_joined}
use Rattle.store_model.proofs.TurnStanding.{groups_joined}
use Rattle.auditor.specs.Following.{HaveSameShape, blank}
use Rattle.group_replay.specs.declared.place.Place.{Place}
use Rattle.store_journal.specs.Shown.{StoreState}
use Rattle.store_journal.specs.Holding.{HasThese, Holds}
use Rattle.receiver.specs.declared.outcome.Received.{Received}
use Rattle.receiver.specs.declared.outcome.Received.TheVariants as how
use Rattle.receiver.specs.Disks.{HasFront, EndLeaves}
use Rattle.receiver.proofs.Unpacked.{LeavesMore}
use Rattle.turn_sessions.specs.declared.session.Session.{Session}
use Rattle.turn_sessions.specs.Standing.{Blank, blank_cells, blank_put}
use Rattle.turn_sessions.specs.Doing.{reached, StopReason}
use Rattle.turn_sessions.specs.Turning.{IfTooLong}
use Rattle.turn_sessions.specs.Going.{AreNew, AreShorter, DueIs, AreTaking}
use Rattle.turn_sessions.specs.Ends.{IfStands, end_of}
use Rattle.turn_sessions.proofs.Unpacked.{IsGoing, HasEnded, GoingSays, AnswerIs, AreDone}
use Rattle.turn_sessions.proofs.Nothings.{IsSpent, OnlyNow, nothing_done, nothing_stopped}
use Rattle.turn_sessions.proofs.Opening.{as_short, same_count, are_sessions, have_left, plain, plain_sessions, plain_have_none}

abbrev to_blank : ℕ → Blank
to_blank cell = tt

-- ---- that no name and no uuid stands twice does not look at cells

pub blank_distinct : {C : Type 0} (store : Store C) → IsStore store → IsStore (blank store)
blank_distinct [] d = tt
blank_distinct (e ∷ store) d = (has_name-cells (λ _. tt) e.name store ∙ d.0, has_uuid-cells (λ _. tt) e.key.uuid store ∙ d.1, blank_distinct store d.2)

pub distinct_blank : {C : Type 0} (store : Store C) → IsStore (blank store) → IsStore store
distinct_blank [] d = tt
distinct_blank (e ∷ store) d = (sym (has_name-cells (λ _. tt) e.name store) ∙ d.0, sym (has_uuid-cells (λ _. tt) e.key.uuid store) ∙ d.1, distinct_blank store d.2)

pub same_distinct : {C B : Type 0} (core : Store C) (base : Store B) → HaveSameShape core base → IsStore core → IsStore base
same_distinct core base same d = distinct_blank base (subst (λ (s : Store Blank). IsStore s) same (blank_distinct core d))

no_parts : (sessions : List (meant.Session ℕ)) → AllByRecursion (λ s. s.part ≡ None) sessions → AllByRecursion (λ s. s.part ≡ None) (map (recelled_session to_blank) sessions)
no_parts [] a = tt
no_parts (s ∷ sessions) a = (ap (option_map (recelled_receiving to_blank)) a.0, no_parts sessions a.1)

-- The events of the first groups.
pub split_events : (events : List Event) (first rest : List Group) → turn_groups events ≡ first ++ rest → (a b : List Event) × (events ≡ a ++ b) × (turn_groups a ≡ first)
unfolding turn_groups
split_events events [] rest e = ([], events, refl, refl)
split_events [] (g ∷ first) rest e = cc
split_events (x ∷ events) (g ∷ first) rest e = let r = split_events events first rest (tails e) in (x ∷ r.0, r.1, ap (λ (l : List Event). x ∷ l) r.2, (λ i. heads e i ∷ r.3 i))
  where
    heads : {A : Type 0} {x y : A} {xs ys : List A} → x ∷ xs ≡ y ∷ ys → x ≡ y
    heads q = cc

    tails : {A : Type 0} {x y : A} {xs ys : List A} → x ∷ xs ≡ y ∷ ys → xs ≡ ys
    tails q = cc

-- ---- what is taken before the first turn, whether or not the inputs tell

pub taking_plain : {G : Type 0} (kept : G → List Guard) (core : Store (Option Place)) (sessions : List (Session G)) (number : ℕ) (names : List (List ℕ)) (guards : List G) → IsStore core → AreNew number names guards sessions
    → (w : Turns Blank) × AreTaking kept sessions (blank core) w
taking_plain kept core sessions number names guards distinct new = (
  at_entry (blank core) (map (plain kept) sessions),
  record {
    store_is = refl;
    sessions_are = plain_sessions kept number names guards sessions new;
    base = blank core;
    kept_are = (blank core, entry_kept tt blank_cells (blank core) (map (plain kept) sessions) (blank_distinct core distinct) (plain_have_none kept sessions));
  },
)

-- ---- files

module _ (base : Store ℕ) (places : List ℕ) (files : List (List ℕ)) (all : List Guard) (shares : List ℕ) where
  abbrev pub of_files : List (meant.Session ℕ)
  of_files = sessions_of files all shares

  abbrev pub blank_sessions : List (meant.Session Blank)
  blank_sessions = map (recelled_session to_blank) (sessions_of files all shares)

  -- Before the first turn, and the turns that are taken.
  abbrev pub first_turns : Turns Blank
  first_turns = at_entry (blank base) (map (recelled_session to_blank) (sessions_of files all shares))

  abbrev pub turns_left : List ℕ
  turns_left = places ++ to_the_end 0 (map (recelled_session to_blank) (sessions_of files all shares))

  abbrev pub last_turns : Turns Blank
  last_turns = after_turns tt blank_cells first_turns turns_left

  turns_same : turns_left ≡ all_turns places of_files
  turns_same = ap (λ (l : List ℕ). places ++ l) (ends_cells to_blank 0 of_files)

  -- They do what the turns of bytes do.
  pub all_are : (turns_of base places (files_read 1 files) all shares).events ≡ last_turns.events
  unfolding turns_of interleaved
  all_are =
      sym (ap (λ (w : Turns Blank). w.events) (turns_cells to_blank 0 byte_cells (all_turns places of_files) (at_entry base of_files)))
      ∙ ap (λ (l : List ℕ). (after_turns tt blank_cells first_turns l).events) (sym turns_same)

  pub end_is : (most gate : ℕ) → interleave_end (room_of most gate) base (in_turns places files all shares) ≡ turns_end tt blank_cells (room_of most gate) (which_long 1 files) first_turns turns_left
  unfolding interleave_end
  end_is most gate =
      sym (end_cells to_blank 0 byte_cells most (which_long 1 files) (all_turns places of_files) gate (at_entry base of_files))
      ∙ ap (turns_end tt blank_cells (room_of most gate) (which_long 1 files) first_turns) (sym turns_same)

  module _ (most gate : ℕ) (distinct : IsStore base) where
    -- Some first events were done.
    pub are_done : (why : Received) (core : Store (Option Place)) (written : List ℕ) (H : List Group → Type 0) (first more : List Event) (unwritten : List ℕ) → last_turns.events ≡ first ++ more → H (turn_groups first) → lines_of first ≡ written ++ unwritten
        → AnswerIs most gate base places files all shares why first unwritten → IfStands why (made_all tt blank_put 0 (blank base) (turn_groups first) ≡ Some (blank core))
        → AreDone most gate base places files all shares why core written H
    unfolding turns_of interleaved
    are_done why core written H first more unwritten is has printed answer stands =
        let events = all_are ∙ is in
        let state = lines_are_complete 0 byte_cells base of_files (all_turns places of_files) first more distinct (all_new 1 (files_read 1 files) all shares) events in
        let order = subst (λ (l : List Event). AreOneByOne 0 byte_cells base l state.0) state.2 state.1.made in
        let made : (place : ℕ) → made_all 0 as_bytes place base (turn_groups first) ≡ Some state.0 = λ place. order.groups as_bytes (λ place item. refl) place in
        let blanked : made_all tt blank_put 0 (blank base) (turn_groups first) ≡ Some (blank state.0) =
        made_all-cells to_blank 0 as_bytes blank_put 0 base (turn_groups first) (all_put_same to_blank 0 as_bytes blank_put (λ place bytes. refl) 0 (turn_groups first)) ∙ ap (option_map (λ s. blank s)) (made 0) in
        record {
          first = first;
          more = more;
          all = events;
          has = has;
          now = state.0;
          made = made;
          state = state.1.state;
          order = order;
          unwritten = unwritten;
          printed = printed;
          answer = answer;
          core_is = stands_map why (λ m. same_inside (sym m ∙ blanked)) stands;
        }
      where
        stands_map : (z : Received) {P Q : Type 0} → (P → Q) → IfStands z P → IfStands z Q
        stands_map (how.Files ended.Done) f p = f p
        stands_map (how.Files (ended.Refused verdict)) f p = f p
        stands_map (how.Files (ended.InputTooLong file)) f p = f p
        stands_map (how.Files ended.InputFault) f p = tt
        stands_map (how.Files ended.NoMemory) f p = tt
        stands_map (how.Files ended.OutputFault) f p = tt
        stands_map (how.Files (ended.TooMuch sum)) f p = tt
        stands_map (how.Files (ended.InputChanged file place)) f p = tt
        stands_map how.StoreFault f p = tt
        stands_map (how.LogFull end wanted limit) f p = tt

    abbrev pub Done_so : Received → Store (Option Place) → List ℕ → (List Group → Type 0) → Type 0
    Done_so why core written H = AreDone most gate base places files all shares why core written H

    -- More of the groups may stand in an image, unless there was no room.
    more_done : (why : Received) (core : Store (Option Place)) (written : List ℕ) (H : List Group → Type 0) (done more : List Event) (unwritten : List ℕ) (first rest : List Group)
        → ((f : List Event) (u : List ℕ) → AnswerIs most gate base places files all shares why f u) → last_turns.events ≡ done ++ more → lines_of done ≡ written ++ unwritten
        → turn_groups more ≡ first ++ rest → H (turn_groups done ++ first) → ((Q : Type 0) → IfStands why Q) → Done_so why core written H
    more_done why core written H done more unwritten first rest any is printed front has none =
        let split = split_events more first rest front in
        let groups : turn_groups done ++ first ≡ turn_groups (done ++ split.0) = ap (λ (l : List Group). turn_groups done ++ l) (sym split.3) ∙ sym (groups_joined done split.0) in
        are_done why core written H (done ++ split.0) split.1 (unwritten ++ lines_of split.0)
        (is ∙ ap (λ (l : List Event). done ++ l) split.2 ∙ sym (append_assoc done split.0 split.1))
        (subst H groups has)
        (lines_joined done split.0 ∙ ap (λ (l : List ℕ). l ++ lines_of split.0) printed ∙ append_assoc written unwritten (lines_of split.0))
        (any (done ++ split.0) (unwritten ++ lines_of split.0))
        (none (made_all tt blank_put 0 (blank base) (turn_groups (done ++ split.0)) ≡ Some (blank core)))

    further : (why : Received) (core : Store (Option Place)) (written : List ℕ) (H : List Group → Type 0) (done more : List Event) (unwritten : List ℕ) (first rest : List Group) → IsSpent why → last_turns.events ≡ done ++ more → lines_of done ≡ written ++ unwritten
        → AnswerIs most gate base places files all shares why done unwritten → turn_groups (reached why more) ≡ first ++ rest → H (turn_groups done ++ first) → Done_so why core written H
    unfolding turn_groups
    further (how.Files ended.NoMemory) core written H done more unwritten first rest spent is printed answer front has = more_done (how.Files ended.NoMemory) core written H done more unwritten first rest (λ f u. tt) is printed front has (λ Q. tt)
    further how.StoreFault core written H done more unwritten first rest spent is printed answer front has = more_done how.StoreFault core written H done more unwritten first rest (λ f u. tt) is printed front has (λ Q. tt)
    further (how.LogFull end wanted limit) core written H done more unwritten [] rest spent is printed answer front has =
        are_done (how.LogFull end wanted limit) core written H done more unwritten is (subst H (append-nil (turn_groups done)) has) printed answer tt
    further (how.LogFull end wanted limit) core written H done more unwritten (g ∷ first) rest spent is printed answer front has = cc
    further (how.Files ended.InputFault) core written H done more unwritten first rest spent is printed answer front has = absurd spent
    further (how.Files ended.OutputFault) core written H done more unwritten first rest spent is printed answer front has = absurd spent
    further (how.Files ended.Done) core written H done more unwritten first rest spent is printed answer front has = absurd spent
    further (how.Files (ended.Refused verdict)) core written H done more unwritten first rest spent is printed answer front has = absurd spent
    further (how.Files (ended.InputTooLong file)) core written H done more unwritten first rest spent is printed answer front has = absurd spent
    further (how.Files (ended.TooMuch sum)) core written H done more unwritten first rest spent is printed answer front has = absurd spent
    further (how.Files (ended.InputChanged file place)) core written H done more unwritten first rest spent is printed answer front has = absurd spent

leaves_by : (why : Received) {P Q R S : Type 0} → (P → R) → (IsSpent why → Q → S) → EndLeaves why P Q → EndLeaves why R S
leaves_by (how.Files ended.NoMemory) f g l = g tt l
leaves_by (how.Files ended.InputFault) f g l = f l
leaves_by (how.Files ended.OutputFault) f g l = f l
leaves_by (how.Files ended.Done) f g l = f l
leaves_by (how.Files (ended.Refused verdict)) f g l = f l
leaves_by (how.Files (ended.InputTooLong file)) f g l = f l
leaves_by (how.Files (ended.TooMuch sum)) f g l = f l
leaves_by (how.Files (ended.InputChanged file place)) f g l = f l
leaves_by how.StoreFault f g l = g tt l
leaves_by (how.LogFull end wanted limit) f g l = g tt l

-- ---- the ends

module _ {D : Type 0} (ghosts : keeping.Ghosts D)
    (old new : D) (was now : StoreState) (old_out new_out : Option (List ℕ)) (base : Store ℕ) (places : List ℕ) (all : List Guard) (shares : List ℕ) (distinct : IsStore base) (shape : HaveSameShape was.core base) where
  -- The end that is due, and all turns.
  abbrev pub due_end : List (List ℕ) → TurnsEnd
  due_end files = interleave_end (room_of was.log.limit was.log.gate) base (in_turns places files all shares)

  abbrev pub DoneAs : List (List ℕ) → Received → List ℕ → (List Group → Type 0) → Type 0
  DoneAs files why written H = AreDone was.log.limit was.log.gate base places files all shares why now.core written H

  abbrev pub Says : List (List ℕ) → Received → List ℕ → Type 0
  Says files why written = LeavesMore ghosts.tells ghosts.seen ghosts.pending old new was now why (DoneAs files why written) × DoneAs files why written (λ groups. Unit {0})

  -- They stopped.
  module _ (files : List (List ℕ)) (why : Received) (z : HasEnded ghosts old new was now old_out new_out why (due_end files) (last_turns base places files all shares)) where
    answer_at : (r : Received) → DueIs r (due_end files) z.stopped.done z.stopped.unwritten → StopReason r was.log.limit was.log.gate (last_turns base places files all shares).events z.stopped.done z.stopped.unwritten
        → AnswerIs was.log.limit was.log.gate base places files all shares r z.stopped.done z.stopped.unwritten
    answer_at (how.Files (ended.InputTooLong file)) due reason = ((ap (λ (e : TurnsEnd). e.due) due.0, sym (ap (λ (e : TurnsEnd). e.events) due.0)), due.1)
    answer_at (how.LogFull end wanted limit) due reason = ((ap (λ (e : TurnsEnd). e.due) due.0, sym (ap (λ (e : TurnsEnd). e.events) due.0)), due.1)
    answer_at (how.Files ended.InputFault) due reason = tt
    answer_at (how.Files ended.OutputFault) due reason = reason
    answer_at (how.Files ended.NoMemory) due reason = tt
    answer_at (how.Files ended.Done) due reason = absurd due
    answer_at (how.Files (ended.Refused verdict)) due reason = absurd due
    answer_at (how.Files (ended.TooMuch sum)) due reason = absurd due
    answer_at (how.Files (ended.InputChanged file place)) due reason = absurd due
    answer_at how.StoreFault due reason = tt

    answer : AnswerIs was.log.limit was.log.gate base places files all shares why z.stopped.done z.stopped.unwritten
    answer = answer_at why z.due z.stopped.reason

    stands_at : (r : Received) → DueIs r (due_end files) z.stopped.done z.stopped.unwritten → IfTooLong r (made_all tt blank_put 0 (blank was.core) (turn_groups z.stopped.done) ≡ Some (blank now.core))
        → IfStands r (made_all tt blank_put 0 (blank base) (turn_groups z.stopped.done) ≡ Some (blank now.core))
    stands_at (how.Files (ended.InputTooLong file)) due made = ap (λ (s : Store Blank). made_all tt blank_put 0 s (turn_groups z.stopped.done)) (sym shape) ∙ made
    stands_at (how.Files ended.Done) due made = absurd due
    stands_at (how.Files (ended.Refused verdict)) due made = absurd due
    stands_at (how.Files ended.InputFault) due made = tt
    stands_at (how.Files ended.OutputFault) due made = tt
    stands_at (how.Files ended.NoMemory) due made = tt
    stands_at (how.Files (ended.TooMuch sum)) due made = tt
    stands_at (how.Files (ended.InputChanged file place)) due made = tt
    stands_at how.StoreFault due made = tt
    stands_at (how.LogFull end wanted limit) due made = tt

    end_done : (H : List Group → Type 0) → H (turn_groups z.stopped.done) → DoneAs files why z.stopped.lines H
    end_done H has = are_done base places files all shares was.log.limit was.log.gate distinct why now.core z.stopped.lines H z.stopped.done z.stopped.more z.stopped.unwritten z.stopped.all has z.stopped.printed answer (stands_at why z.due z.made)

    pub ended_says : Wrote old_out new_out (Says files why)
    ended_says = (
      z.stopped.lines,
      z.stopped.wrote,
      (
        (λ is_told header groups holds.
            leaves_by why
            (λ h. end_done (λ first. Holds header (groups ++ first) now (ghosts.seen new) (ghosts.pending new)) h)
            (λ spent each image is.
            let f = each image is in
            further base places files all shares was.log.limit was.log.gate distinct why now.core z.stopped.lines (λ first. HasThese header (groups ++ first) image) z.stopped.done z.stopped.more z.stopped.unwritten f.first f.more spent z.stopped.all z.stopped.printed answer f.all
            (subst (λ (l : List Group). HasThese header l image) (append_assoc groups (turn_groups z.stopped.done) f.first) f.has))
            (z.stopped.disk is_told header groups holds).0),
        end_done (λ groups. Unit {0}) tt,
      ),
    )

    pub ended_moments : ghosts.tells → (header : Header) (groups : List Group) → Holds header groups was (ghosts.seen old) (ghosts.pending old) → LeavesOnly ghosts.moment ghosts.left_since old new (HasFront header groups (turn_groups (turns_of base places (files_read 1 files) all shares).events))
    ended_moments is_told header groups holds = subst (λ (l : List Event). LeavesOnly ghosts.moment ghosts.left_since old new (HasFront header groups (turn_groups l))) (sym (all_are base places files all shares)) (z.stopped.disk is_told header groups holds).1

  -- All turns were taken.
  module _ {G : Type 0} (kept : G → List Guard) (files : List (List ℕ)) (w : Turns Blank) (refused : Option Verdict) (sessions : List (Session G))
      (x : IsGoing ghosts old new was now old_out new_out kept files w (due_end files) (last_turns base places files all shares) [] refused sessions) where
    all_taken : (last_turns base places files all shares).events ≡ w.events ++ []
    unfolding after_turns
    all_taken = ap (λ (v : Turns Blank). v.events) x.runs ∙ sym (append-nil w.events)

    due_is : due_end files ≡ record { due = Ends (refused_due (option_map verdict_meant refused)); events = w.events }
    unfolding turns_end
    due_is = x.ends ∙ ap (λ (o : Option reading.Verdict). record { due = Ends (refused_due o); events = w.events }) x.refused_is

    answer_of : (o : Option Verdict) → due_end files ≡ record { due = Ends (refused_due (option_map verdict_meant o)); events = w.events } → AnswerIs was.log.limit was.log.gate base places files all shares (end_of o) w.events []
    answer_of None e = ((ap (λ (t : TurnsEnd). t.due) e, sym (ap (λ (t : TurnsEnd). t.events) e)), refl)
    answer_of (Some verdict) e = ((ap (λ (t : TurnsEnd). t.due) e, sym (ap (λ (t : TurnsEnd). t.events) e)), refl)

    made_here : made_all tt blank_put 0 (blank base) (turn_groups w.events) ≡ Some (blank now.core)
    made_here =
        ap (λ (s : Store Blank). made_all tt blank_put 0 s (turn_groups w.events)) (sym (x.from ∙ shape))
        ∙ x.taking.kept_are.1.groups blank_put (λ place item. refl) 0 ∙ ap (λ (k : Store Blank). Some k) (sym x.taking.store_is)

    stands_of : (o : Option Verdict) → IfStands (end_of o) (made_all tt blank_put 0 (blank base) (turn_groups w.events) ≡ Some (blank now.core))
    stands_of None = made_here
    stands_of (Some verdict) = made_here

    all_done : (H : List Group → Type 0) → H (turn_groups w.events) → DoneAs files (end_of refused) (lines_of w.events) H
    all_done H has = are_done base places files all shares was.log.limit was.log.gate distinct (end_of refused) now.core (lines_of w.events) H w.events [] [] all_taken has (sym (append-nil (lines_of w.events))) (answer_of refused due_is) (stands_of refused)

    usable : (o : Option Verdict) (P Q : Type 0) → P → EndLeaves (end_of o) P Q
    usable None P Q p = p
    usable (Some verdict) P Q p = p

    pub done_says : Wrote old_out new_out (Says files (end_of refused))
    done_says = (
      lines_of w.events,
      x.done.wrote,
      (
        (λ is_told header groups holds. usable refused _ _ (all_done (λ first. Holds header (groups ++ first) now (ghosts.seen new) (ghosts.pending new)) (x.done.disk is_told header groups holds).0)),
        all_done (λ groups. Unit {0}) tt,
      ),
    )

    pub done_moments : ghosts.tells → (header : Header) (groups : List Group) → Holds header groups was (ghosts.seen old) (ghosts.pending old) → LeavesOnly ghosts.moment ghosts.left_since old new (HasFront header groups (turn_groups (turns_of base places (files_read 1 files) all shares).events))
    done_moments is_told header groups holds = subst (λ (l : List Event). LeavesOnly ghosts.moment ghosts.left_since old new (HasFront header groups (turn_groups l))) (sym (all_are base places files all shares ∙ all_taken ∙ append-nil w.events)) (x.done.disk is_told header groups holds).1

-- ---- the start

module _ {D : Type 0} (ghosts : keeping.Ghosts D)
    (disk : D) (store : StoreState) (out : Option (List ℕ)) (base : Store ℕ) (places : List ℕ) (all : List Guard) (shares : List ℕ) (distinct : IsStore base) (shape : HaveSameShape store.core base) (only : OnlyNow ghosts disk) where
  -- Nothing was done.
  pub unbegun : (files : List (List ℕ)) → HasEnded ghosts disk disk store store out out (how.Files ended.NoMemory) (interleave_end (room_of store.log.limit store.log.gate) base (in_turns places files all shares)) (last_turns base places files all shares)
  unbegun files = record {
    stopped = nothing_stopped ghosts disk store store out (how.Files ended.NoMemory) (last_turns base places files all shares).events only (λ header groups h. h) tt;
    due = tt;
    made = tt;
  }

  pub begins : {G : Type 0} (kept : G → List Guard) (names files : List (List ℕ)) (guards : List G) (sessions : List (Session G)) → length files ≡ length names → AreNew 1 names guards sessions → map kept guards ≡ shared all shares
      → IsGoing ghosts disk disk store store out out kept files (first_turns base places files all shares) (interleave_end (room_of store.log.limit store.log.gate) base (in_turns places files all shares)) (last_turns base places files all shares) (turns_left base places files all shares) None sessions
  begins kept names files guards sessions long new own = record {
    taking = record {
      store_is = shape;
      sessions_are = are_sessions kept 1 names files guards sessions all shares long new own;
      base = blank base;
      kept_are = (
        blank base,
        entry_kept tt blank_cells (blank base) (blank_sessions base places files all shares) (blank_distinct base distinct) (no_parts (of_files base places files all shares) (all_new 1 (files_read 1 files) all shares)),
      );
    };
    from = sym shape;
    refused_is = refl;
    have_left = have_left kept 1 names files guards sessions all shares long new own;
    ends = end_is base places files all shares store.log.limit store.log.gate;
    runs = refl;
    done = nothing_done ghosts disk store out only;
  }

pub all_then : (told : Option (List (List ℕ × List ℕ))) (names : List (List ℕ)) (P Q : List (List ℕ) → Type 0) → ((files : List (List ℕ)) → P files → Q files) → IfAllTold told names P → IfAllTold told names Q
all_then None names P Q f p = tt
all_then (Some table) names P Q f p = f (contents table names) p

pub told_always : (told : Option (List (List ℕ × List ℕ))) (names : List (List ℕ)) (P : List (List ℕ) → Type 0) → ((files : List (List ℕ)) → P files) → IfAllTold told names P
told_always None names P f = tt
told_always (Some table) names P f = f (contents table names)

module _ {D : Type 0} (ghosts : keeping.Ghosts D)
    (old new : D) (was now : StoreState) (old_out new_out : Option (List ℕ)) (base : Store ℕ) (places : List ℕ) (all : List Guard) (shares : List ℕ) (distinct : IsStore base) (shape : HaveSameShape was.core base) (only : OnlyNow ghosts old)
    {G : Type 0} (kept : G → List Guard) (guards : List G) (sessions after : List (Session G)) (names : List (List ℕ)) (fresh : AreNew 1 names guards sessions) (own : map kept guards ≡ shared all shares) (result : Result (Option Verdict) Received) where
  abbrev pub Ends_so : List (List ℕ) → Type 0
  Ends_so files = GoingSays ghosts old new was now old_out new_out kept files
      (after_turns tt blank_cells (after_turns tt blank_cells (first_turns base places files all shares) places) (to_the_end 0 (blank_sessions base places files all shares))) (interleave_end (room_of was.log.limit was.log.gate) base (in_turns places files all shares)) (last_turns base places files all shares) [] after result

  -- From the first turn on.
  pub told_ends : (told : Option (List (List ℕ × List ℕ)))
      → ((at_first : List (meant.Session Blank)) (w : Turns Blank) (end : TurnsEnd) (last : Turns Blank) → length at_first ≡ length sessions → AreShorter at_first w.sessions
      → IfAllTold told names (λ files. IsGoing ghosts old old was was old_out old_out kept files w end last (places ++ to_the_end 0 at_first) None sessions
      → GoingSays ghosts old new was now old_out new_out kept files (after_turns tt blank_cells (after_turns tt blank_cells w places) (to_the_end 0 at_first)) end last [] after result))
      → IfAllTold told names Ends_so
  told_ends None run = tt
  told_ends (Some table) run =
      let files : List (List ℕ) = contents table names in
      let long : length files ≡ length names = length-map names (file_at table) in
      let at_first : List (meant.Session Blank) = blank_sessions base places files all shares in
      run at_first (first_turns base places files all shares) (interleave_end (room_of was.log.limit was.log.gate) base (in_turns places files all shares)) (last_turns base places files all shares)
      (same_count kept at_first sessions (are_sessions kept 1 names files guards sessions all shares long fresh own)) (as_short at_first)
      (begins ghosts old was old_out base places all shares distinct shape only kept names files guards sessions long fresh own)
