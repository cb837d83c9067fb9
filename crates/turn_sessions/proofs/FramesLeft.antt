-- Frames that are left, and the edits that they are.
use Rattle.std.specs.Prelude.{◌≡◌, ℕ, ◌+◌, ◌-◌, ◌<◌, ◌≤◌, true, List, [], ◌∷◌, ◌++◌, length, take, drop, Option, None, Some, Result, Ok, Err, nat_lt, if◌then◌else◌, Bool, false}
use Rattle.std.specs.List.{AllByRecursion}
use Rattle.std.proofs.Common.{inl, inr, refl, sym, ap, subst, ◌∙◌, arith, append_assoc, append-nil, length-append, length-drop, length-take, drop-drop}
use Rattle.std.proofs.lemmas.List.{take-append-drop, take_all, drop_at}
use Rattle.sx_base.specs.Disk.{Pending}
use Rattle.send_model.specs.Command.{Command}
use Rattle.send_model.specs.Spelling.{canonical, canonical_all, attributes_of}
use Rattle.send_model.specs.Reading.{data_place}
use Rattle.send_model.specs.Receive.{bytes_of}
use Rattle.send_model.specs.Subvolume.{Subvolume}
use Rattle.send_model.specs.Store.{Part, State, edit_part}
use Rattle.send_model.proofs.Streams.{canonical_long}
use Rattle.store_model.specs.Image.{Header, reserve}
use Rattle.store_model.specs.Stored.{Group, IsEdit, edits_made}
use Rattle.store_model.proofs.OneSaying.{frame_one}
use Rattle.store_model.proofs.TurnMaking.{edits_go}
use Rattle.group_replay.specs.declared.place.Place.{Place}
use Rattle.group_replay.specs.declared.stops.StoreStop.{StoreStop}
use Rattle.group_replay.specs.declared.stops.StoreStop.TheVariants as stop
use Rattle.group_replay.specs.Stopping.{IfLog, IfEnded, IsNoRefusal}
use Rattle.group_replay.specs.Taking.{as_runs}
use Rattle.store_journal.specs.Answers.{EditsIn}
use Rattle.store_journal.specs.Filling.{Asked, first_full, piece_asks, IsStopOf}
use Rattle.store_journal.specs.Shown.{StoreState}
use Rattle.store_journal.proofs.Unpacked.{Builds}
use Rattle.turn_sessions.specs.Fronts.{IsInFront}
use Rattle.turn_sessions.specs.Edits.{AreFrames, AreMade, IsFront, IsTaken, frame_asks, frames_end, IfStopped}

-- Of these edits the first are done, and the frames of the others are left.
pub record HasRest {D : Type 0} (tells : Type 0) (seen : D → List ℕ) (pending : D → Pending) (before after : D) (version : ℕ) (frames : List ℕ) (at : ℕ) (was now : StoreState) (old new : Part (Option Place)) (commands : List Command) : Type 0 where
  pub done : List Command
  pub rest : List Command
  pub all : commands ≡ done ++ rest
  pub lawful : AllByRecursion (IsEdit version) rest
  pub spelled : drop at frames ≡ canonical_all version rest
  pub made : (end : State (Option Place)) → AreMade version was old commands end → AreMade version now new rest end
  pub builds : tells → (header : Header) (groups : List Group) (first : List Command) → Builds header groups version first old was (seen before) (pending before)
      → Builds header groups version (first ++ done) new now (seen after) (pending after)
  pub room : first_full was.log.limit (frame_asks version was.log.size commands) ≡ first_full was.log.limit (frame_asks version now.log.size rest)
  pub ends : frames_end version was.log.size commands ≡ frames_end version now.log.size rest

pub all_rest : {D : Type 0} (tells : Type 0) (seen : D → List ℕ) (pending : D → Pending) (disk : D) (version : ℕ) (frames : List ℕ) (store : StoreState) (part : Part (Option Place)) (commands : List Command) → AreFrames version frames commands
    → HasRest tells seen pending disk disk version frames 0 store store part part commands
all_rest tells seen pending disk version frames store part commands are = record {
  done = [];
  rest = commands;
  all = refl;
  lawful = are.lawful;
  spelled = are.spelled;
  made = λ end m. m;
  builds = λ is_told header groups first b. subst (λ (l : List Command). Builds header groups version l part store (seen disk) (pending disk)) (sym (append-nil first)) b;
  room = refl;
  ends = refl;
}

-- The command that stands in front is the one whose frame it is, and so long.
pub front_same : (version : ℕ) (bytes : List ℕ) (c d : Command) (len : ℕ) (more : List ℕ) → IsInFront version bytes c len → IsFront version bytes d more → (c ≡ d) × (len ≡ length (canonical version d))
front_same version bytes c d len more f is =
    let one = frame_one version c d (drop len bytes) more f.spellable is.edit.1 (sym (sym (take-append-drop len bytes) ∙ ap (λ (l : List ℕ). l ++ drop len bytes) f.spelled) ∙ is.is) in
    let size : len ≡ length (canonical version c) = sym (length-take len bytes ∙ let within = f.within in omega (arith, within)) ∙ ap length f.spelled in
    (one.0, size ∙ ap (λ (x : Command). length (canonical version x)) one.0)

-- It is not refused.
pub taken_stays : (version : ℕ) (store : StoreState) (part new : Part (Option Place)) (c : Command) (middle : Subvolume (Option Place)) (refusal : _) → IsTaken version store part c middle
    → EditsIn {A = Unit {0}} (Err (stop.Refused refusal)) part new (edit_part None (as_runs (data_place version store.log.size (attributes_of c)) (bytes_of c)) store.core part c) → ⊥
taken_stays version store part new c middle refusal t said = apart (sym t ∙ said.0)
  where
    apart : {A B : Type 0} {x : A} {y : B} → ◌≡◌ {A = Result A B} (Ok x) (Err y) → ⊥
    apart q = cc

-- Where bytes are left there is one.
pub front_there : (version : ℕ) (bytes : List ℕ) (rest : List Command) → 0 < length bytes → AllByRecursion (IsEdit version) rest → bytes ≡ canonical_all version rest
    → (c : Command) × (others : List Command) × (rest ≡ c ∷ others) × IsFront version bytes c (canonical_all version others)
unfolding canonical_all
front_there version bytes [] some are is = absurd (omega (arith, some, ap length is))
front_there version bytes (c ∷ cs) some are is = (c, cs, refl, record { edit = are.0; is = is })

asked_next : (limit place len : ℕ) (more : List Asked) → first_full limit (piece_asks place len) ≡ None → first_full limit (record { place = place; wanted = len } ∷ more) ≡ first_full limit more
asked_next limit place len more none = one (nat_lt limit (place + len + reserve)) none
  where
    one : (b : Bool) → (if b then Some (record { place = place; wanted = len }) else first_full limit []) ≡ None → (if b then Some (record { place = place; wanted = len }) else first_full limit more) ≡ first_full limit more
    one true q = cc
    one false q = refl

module _ {D : Type 0} (tells : Type 0) (seen : D → List ℕ) (pending : D → Pending) (before middle after : D) (version : ℕ) (frames : List ℕ) (at : ℕ) (was during now : StoreState) (old part new : Part (Option Place)) (commands : List Command) where
  -- One edit more was done.
  pub rest_next : (len : ℕ) (x : HasRest tells seen pending before middle version frames at was during old part commands) → 0 < length (drop at frames) → new.key ≡ part.key → now.core ≡ during.core
      → ((c : Command) (more : List ℕ) → IsFront version (drop at frames) c more → len ≡ length (canonical version c))
      → ((c : Command) (more : List ℕ) → IsFront version (drop at frames) c more → now.log.size ≡ during.log.size + length (canonical version c))
      → ((c : Command) (more : List ℕ) (m : Subvolume (Option Place)) → IsFront version (drop at frames) c more → IsTaken version during part c m → new.subvolume ≡ m)
      → ((c : Command) (more : List ℕ) → IsFront version (drop at frames) c more → first_full was.log.limit (piece_asks during.log.size (length (canonical version c))) ≡ None)
      → (tells → (header : Header) (groups : List Group) (first : List Command) (c : Command) (more : List ℕ) → IsFront version (drop at frames) c more
      → Builds header groups version first part during (seen middle) (pending middle) → Builds header groups version (first ++ c ∷ []) new now (seen after) (pending after))
      → HasRest tells seen pending before after version frames (at + len) was now old new commands
  rest_next len x some key core lens sizes edits fits builds =
      let n = front_there version (drop at frames) x.rest some x.lawful x.spelled in
      let c : Command = n.0 in
      let others : List Command = n.1 in
      let more : List ℕ = canonical_all version others in
      let front : IsFront version (drop at frames) c more = n.3 in
      let size = sizes c more front in
      let left : drop len (drop at frames) ≡ more = ap (drop len) front.is ∙ ap (λ (k : ℕ). drop k (canonical version c ++ more)) (lens c more front) ∙ drop_at (canonical version c) more (length (canonical version c)) refl in
      record {
        done = x.done ++ c ∷ [];
        rest = others;
        all = x.all ∙ ap (λ (l : List Command). x.done ++ l) n.2 ∙ sym (append_assoc x.done (c ∷ []) others);
        lawful = (subst (λ (l : List Command). AllByRecursion (IsEdit version) l) n.2 x.lawful).1;
        spelled = sym (drop-drop len at frames) ∙ left;
        made = λ end m.
            let go = edits_go None as_runs version during.log.size during.core part c others end (subst (λ (l : List Command). AreMade version during part l end) n.2 (x.made end m)) in
            let sub : go.middle ≡ new.subvolume = sym (edits c more go.middle front go.edit) in
            subst (λ (s : State (Option Place)). edits_made None as_runs version now.log.size s others ≡ Some end) (λ i. record { store = sym core i; part = Some (record { key = sym key i; subvolume = sub i }) })
            (subst (λ (k : ℕ). edits_made None as_runs version k (record { store = during.core; part = Some (record { key = part.key; subvolume = go.middle }) }) others ≡ Some end) (sym size) go.rest);
        builds = λ is_told header groups first b.
            subst (λ (l : List Command). Builds header groups version l new now (seen after) (pending after)) (append_assoc first x.done (c ∷ [])) (builds is_told header groups (first ++ x.done) c more front (x.builds is_told header groups first b));
        room = x.room
            ∙ ap (λ (l : List Command). first_full was.log.limit (frame_asks version during.log.size l)) n.2
            ∙ asked_next was.log.limit during.log.size (length (canonical version c)) (frame_asks version (during.log.size + length (canonical version c)) others) (fits c more front)
            ∙ ap (λ (k : ℕ). first_full was.log.limit (frame_asks version k others)) (sym size);
        ends = x.ends ∙ ap (λ (l : List Command). frames_end version during.log.size l) n.2 ∙ ap (λ (k : ℕ). frames_end version k others) (sym size);
      }

  -- What the next call wants.
  pub next_wants : (end : State (Option Place)) → HasRest tells seen pending before middle version frames at was during old part commands → 0 < length (drop at frames) → AreMade version was old commands end
      → (c : Command) × (more : List ℕ) × (m : Subvolume (Option Place)) × IsFront version (drop at frames) c more × IsTaken version during part c m
  next_wants end x some made =
      let n = front_there version (drop at frames) x.rest some x.lawful x.spelled in
      let go = edits_go None as_runs version during.log.size during.core part n.0 n.1 end (subst (λ (l : List Command). AreMade version during part l end) n.2 (x.made end made)) in
      (n.0, canonical_all version n.1, go.middle, n.3, go.edit)

-- ---- the end of the frames

pub none_left : (version at : ℕ) (frames : List ℕ) (rest : List Command) → length frames ≤ at → AllByRecursion (IsEdit version) rest → drop at frames ≡ canonical_all version rest → rest ≡ []
unfolding canonical_all
none_left version at frames [] end are is = refl
none_left version at frames (c ∷ cs) end are is =
    absurd (omega (arith, canonical_long version c, ap length is, length-append (canonical version c) (canonical_all version cs), length-drop at frames, end))

-- Where the journal stopped at an edit.
pub stop_rest : (cause : Type 0) (limit : ℕ) (version : ℕ) (commands others : List Command) (was_size size : ℕ) (c : Command) (why : StoreStop) → first_full limit (frame_asks version was_size commands) ≡ first_full limit (frame_asks version size (c ∷ others))
    → IfLog {T = Unit {0}} (Err why) (IsStopOf cause limit (first_full limit (piece_asks size (length (canonical version c))))) → IfLog {T = Unit {0}} (Err why) (IsStopOf cause limit (first_full limit (frame_asks version was_size commands)))
stop_rest cause limit version commands others was_size size c (stop.Refused refusal) room says = tt
stop_rest cause limit version commands others was_size size c stop.NoMemory room says = tt
stop_rest cause limit version commands others was_size size c (stop.Log why) room says =
    subst (λ (o : Option Asked). IsStopOf cause limit o why) (sym room) (one (nat_lt limit (size + length (canonical version c) + reserve)) says)
  where
    a : Asked
    a = record { place = size; wanted = length (canonical version c) }

    one : (b : Bool) → IsStopOf cause limit (if b then Some a else first_full limit []) why → IsStopOf cause limit (if b then Some a else first_full limit (frame_asks version (size + length (canonical version c)) others)) why
    one true says = says
    one false (inl full) = absurd full
    one false (inr fault) = inr fault

-- ---- why an edit stopped

pub no_refusal : (version : ℕ) (store : StoreState) (part new : Part (Option Place)) (c d : Command) (middle : Subvolume (Option Place)) (why : StoreStop) → c ≡ d → IsTaken version store part d middle
    → EditsIn {A = Unit {0}} (Err why) part new (edit_part None (as_runs (data_place version store.log.size (attributes_of c)) (bytes_of c)) store.core part c) → IsNoRefusal why
no_refusal version store part new c d middle (stop.Refused refusal) e t said =
    absurd (taken_stays version store part new c middle refusal (subst (λ (x : Command). IsTaken version store part x middle) (sym e) t) said)
no_refusal version store part new c d middle stop.NoMemory e t said = tt
no_refusal version store part new c d middle (stop.Log why) e t said = tt

pub stopped_so : (T : Type 0) (why : StoreStop) (store : StoreState) (P : Type 0) → IsNoRefusal why → IfEnded {T = Unit {0}} (Err why) (store.is_live ≡ false) → IfStopped {T = T} (Err why) store P
stopped_so T (stop.Refused refusal) store P n e = n
stopped_so T stop.NoMemory store P n e = inr e
stopped_so T (stop.Log why) store P n e = e

-- ---- what is shown to the next call

pub shown : (at : ℕ) (frames : List ℕ) → take (length frames - at) (drop at frames) ≡ drop at frames
shown at frames = take_all (length frames - at) (drop at frames) (omega (arith, length-drop at frames))

pub front_shown : (version at : ℕ) (frames : List ℕ) (c : Command) (more : List ℕ) → IsFront version (drop at frames) c more → IsFront version (take (length frames - at) (drop at frames)) c more
front_shown version at frames c more f = subst (λ (l : List ℕ). IsFront version l c more) (sym (shown at frames)) f

-- The frame in front is no longer than what is left.
pub front_fits : (version at len : ℕ) (frames : List ℕ) (c : Command) (more : List ℕ) → at ≤ length frames → IsFront version (drop at frames) c more → len ≡ length (canonical version c) → (at + len ≤ length frames) × (0 < len)
front_fits version at len frames c more within f e = (omega (arith, within, e, ap length f.is, length-append (canonical version c) more, length-drop at frames), omega (arith, e, canonical_long version c))

pub some_left : (at : ℕ) (frames : List ℕ) → at < length frames → 0 < length (drop at frames)
some_left at frames lt = omega (arith, lt, length-drop at frames)
