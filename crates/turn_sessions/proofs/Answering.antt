-- What receiving in turns answers over the store of a disk, from what it says over the store that
-- opened.
use Rattle.std.specs.Prelude.{◌≡◌, ℕ, ◌<◌, List, [], ◌++◌, length, map, take, Option, Err}
use Rattle.std.specs.List.{AllByRecursion}
use Rattle.std.proofs.Common.{inl, inr, refl, sym, ap, subst, ◌∙◌, append-nil, append_assoc, arith, length-append}
use Rattle.std.proofs.KnownBytes.{Appends-nil}
use Rattle.std.proofs.Math.Seq.{take-append_seam}
use Rattle.sx_base.specs.Disk.{Pending, IsImage}
use Rattle.sx_base.specs.Crash.{LeavesOnly}
use Rattle.sx_base.specs.Calls.{IfAllTold, Wrote}
use Rattle.sx_base.specs.Refusals.{verdict_meant}
use Rattle.sx_base.specs.declared.outcome.Outcome.TheVariants as ended
use Rattle.sx_base.proofs.DiskMoments.{joins, weakens}
use Rattle.send_model.specs.Attribute.{IsBytes}
use Rattle.send_model.specs.Store.{Store}
use Rattle.send_model.specs.Guards.{Guard}
use Rattle.send_model.specs.Due.{DoneWhole, RefusedAt, TooLong}
use Rattle.send_model.specs.Headline.{IsProperFrontOf}
use Rattle.store_model.specs.Image.{HasGroups}
use Rattle.store_model.specs.Stored.{Group, body_bytes, StandsFor}
use Rattle.store_model.specs.StateLaws.{LinesAreParts}
use Rattle.store_model.specs.Dues as dues
use Rattle.store_model.specs.Dues.{Due, Ends}
use Rattle.store_model.specs.Turns.{Event, completed_parts, lines_of, turn_groups, turns_of}
use Rattle.store_model.specs.TurnDues.{in_turns, files_read, room_of, TurnsEnd, interleave_end}
use Rattle.store_model.specs.TurnAnswers.{end_over, IsMadeBy, IsOnTurnWay, taken_lines, IsEndDue, TurnsBefore, TurnsAnswer}
use Rattle.store_model.proofs.TurnJoining.{lines_joined}
use Rattle.store_model.proofs.TurnStanding.{first_events_stand}
use Rattle.group_log.specs.declared.stops.LogStop.TheVariants as log
use Rattle.group_log.proofs.GatedGroups.{rests_has}
use Rattle.group_replay.specs.declared.place.Place.{Place}
use Rattle.group_replay.specs.declared.stops.StoreStop.{StoreStop}
use Rattle.group_replay.specs.declared.stops.StoreStop.TheVariants as stop
use Rattle.group_replay.specs.Stopping.{IfLog, IsNoRefusal}
use Rattle.store_journal.specs.Shown.{StoreState}
use Rattle.store_journal.specs.Holding.{bodies_of, HasThese}
use Rattle.store_journal.specs.Opening.{OpenSays, IsOpenStop, HoldsSome}
use Rattle.store_journal.specs.Standing.{with_bytes}
use Rattle.receiver.specs.declared.outcome.Received.{Received}
use Rattle.receiver.specs.declared.outcome.Received.TheVariants as how
use Rattle.receiver.specs.Disks.{HasFront}
use Rattle.receiver.proofs.Unpacked.{LeavesMore}
use Rattle.receiver.proofs.DiskRuns.{leaves_either}
use Rattle.store_commands.specs.declared.ends.StoreEnd.{StoreEnd}
use Rattle.store_commands.specs.Ending.{answer_of, end_by, end_received}
use Rattle.store_commands.proofs.StreamAnswers.{always_told, then_told}
use Rattle.store_commands.proofs.Opened.{by_store}
use Rattle.store_commands.proofs.ReceiveAnswers.{stands}
use Rattle.turn_sessions.proofs.Unpacked.{AreDone, LeftByTurns}
use Rattle.turn_sessions.proofs.Interleaved.{split_events}

module _ (places : List ℕ) (files : List (List ℕ)) (all : List Guard) (shares : List ℕ) where
  -- ---- there is no store, or nothing was done

  no_lines : lines_of [] ≡ []
  unfolding lines_of completed_parts
  no_lines = refl

  no_groups : (seen : List ℕ) (store : Store ℕ) (stands : StandsFor seen store) → AllByRecursion IsBytes files → IsMadeBy (in_turns places files all shares) seen store [] seen
  unfolding turn_groups
  no_groups seen store stands are =
      first_events_stand seen seen store (in_turns places files all shares) [] (turns_of store places (files_read 1 files) all shares).events are stands refl
      (subst (λ (l : List Group). HasGroups stands.header (map body_bytes l) seen) (sym (append-nil stands.groups)) stands.has)

  -- Nothing was written, and the image is as it was.
  pub unmoved : (seen : List ℕ) → AllByRecursion IsBytes files → TurnsBefore (in_turns places files all shares) seen [] seen
  unmoved seen are = (
    λ store stands. record {
      first = [];
      more = (turns_of store places (files_read 1 files) all shares).events;
      all = refl;
      made = no_groups seen store stands are;
      unwritten = [];
      lines = no_lines;
    },
    λ group fails. (refl, refl),
  )

  pub unopened : (seen : List ℕ) (cause : Type 0) (why : StoreStop) → AllByRecursion IsBytes files → IsNoRefusal why → IfLog {T = StoreState} (Err why) (IsOpenStop cause) → OpenSays seen (Err why)
      → TurnsAnswer (in_turns places files all shares) seen (answer_of [] [] (end_by why)) [] seen
  unopened seen cause (stop.Refused refusal) are kind stops says = absurd kind
  unopened seen cause stop.NoMemory are kind stops says = unmoved seen are
  unopened seen cause (stop.Log log.DiskFault) are kind stops says = unmoved seen are
  unopened seen cause (stop.Log (log.NotStore group)) are kind stops says = (says, refl, refl)
  unopened seen cause (stop.Log (log.LogFull end wanted limit)) are kind stops says = absurd stops
  unopened seen cause (stop.Log (log.StoreThere size)) are kind stops says = absurd stops

  -- ---- a store that opened, with its bytes

  module _ (counts : LinesAreParts ℕ) (seen : List ℕ) (pending : Pending) (opened : StoreState) (h : HoldsSome seen pending opened) (are : AllByRecursion IsBytes files) where
    abbrev base : Store ℕ
    base = with_bytes seen opened.core

    abbrev there : StandsFor seen base
    there = stands counts seen pending opened h

    -- Some first turns were done, whose groups an image has.
    abbrev pub Done_in : Received → Store (Option Place) → List ℕ → List ℕ → Type 0
    Done_in why core written image = AreDone opened.log.limit opened.log.gate (with_bytes seen opened.core) places files all shares why core written (λ first. HasThese h.header (h.groups ++ first) image)

    module _ (why : Received) (core : Store (Option Place)) (written image : List ℕ) (d : Done_in why core written image) where
      made_by : IsMadeBy (in_turns places files all shares) seen base d.first image
      made_by = first_events_stand seen image base (in_turns places files all shares) d.first d.more are there d.all d.has

      pub on_way : IsOnTurnWay (in_turns places files all shares) seen base written image
      on_way = record { first = d.first; more = d.more; all = d.all; made = made_by; unwritten = d.unwritten; lines = d.printed }

      goes : TurnsBefore (in_turns places files all shares) seen written image
      goes = by_store seen base (λ s. IsOnTurnWay (in_turns places files all shares) seen s written image) ((written ≡ []) × (image ≡ seen)) there on_way

      end_same : interleave_end (room_of opened.log.limit opened.log.gate) base (in_turns places files all shares) ≡ end_over (in_turns places files all shares) seen base there
      end_same = λ i. interleave_end (room_of (h.holds.rests.behind.limit i) (h.holds.rests.behind.place i)) base (in_turns places files all shares)

      -- The answer is due.
      says : (due : Due) → ((interleave_end (room_of opened.log.limit opened.log.gate) base (in_turns places files all shares)).due ≡ due) × (d.first ≡ (interleave_end (room_of opened.log.limit opened.log.gate) base (in_turns places files all shares)).events) → d.unwritten ≡ []
          → (store : Store ℕ) × StandsFor seen store × IsEndDue (in_turns places files all shares) seen store due written image
      says due is none =
          let events : d.first ≡ (end_over (in_turns places files all shares) seen base there).events = is.1 ∙ ap (λ (e : TurnsEnd). e.events) end_same in (
            base,
            there,
            record {
              stands = there;
              is = sym (ap (λ (e : TurnsEnd). e.due) end_same) ∙ is.0;
              lines = sym (append-nil written) ∙ ap (λ (l : List ℕ). written ++ l) (sym none) ∙ sym d.printed ∙ ap lines_of events;
              made = subst (λ (l : List Event). IsMadeBy (in_turns places files all shares) seen base l image) events made_by;
            },
          )

      -- Some of the lines are missing.
      cut : 0 < length d.unwritten → IsProperFrontOf (taken_lines (in_turns places files all shares) base) written
      cut some =
          let whole : taken_lines (in_turns places files all shares) base ≡ written ++ (d.unwritten ++ lines_of d.more) =
          ap lines_of d.all ∙ lines_joined d.first d.more ∙ ap (λ (l : List ℕ). l ++ lines_of d.more) d.printed ∙ append_assoc written d.unwritten (lines_of d.more) in
          record {
            count = length written;
            within = omega (arith, ap length whole, length-append written (d.unwritten ++ lines_of d.more), length-append d.unwritten (lines_of d.more), some);
            written_is = sym (ap (take (length written)) whole ∙ take-append_seam written (d.unwritten ++ lines_of d.more));
          }

    pub by_end : (why : Received) (core : Store (Option Place)) (written image : List ℕ) → Done_in why core written image → TurnsAnswer (in_turns places files all shares) seen (answer_of [] [] (end_received why)) written image
    by_end (how.Files ended.Done) core written image d = says (how.Files ended.Done) core written image d (Ends DoneWhole) d.answer.0 d.answer.1
    by_end (how.Files (ended.Refused verdict)) core written image d = says (how.Files (ended.Refused verdict)) core written image d (Ends (RefusedAt (verdict_meant verdict))) d.answer.0 d.answer.1
    by_end (how.Files (ended.InputTooLong file)) core written image d = says (how.Files (ended.InputTooLong file)) core written image d (Ends (TooLong file)) d.answer.0 d.answer.1
    by_end (how.LogFull end wanted most) core written image d = says (how.LogFull end wanted most) core written image d (dues.LogFull end wanted most) d.answer.0 d.answer.1
    by_end (how.Files ended.InputFault) core written image d =
        by_store seen base (λ s. IsOnTurnWay (in_turns places files all shares) seen s written image) ⊥ there (on_way (how.Files ended.InputFault) core written image d)
    by_end (how.Files ended.NoMemory) core written image d = goes (how.Files ended.NoMemory) core written image d
    by_end how.StoreFault core written image d = goes how.StoreFault core written image d
    by_end (how.Files ended.OutputFault) core written image d =
        by_store seen base (λ s. IsOnTurnWay (in_turns places files all shares) seen s written image × IsProperFrontOf (taken_lines (in_turns places files all shares) s) written) ⊥ there
        (on_way (how.Files ended.OutputFault) core written image d, cut (how.Files ended.OutputFault) core written image d d.answer)
    by_end (how.Files (ended.TooMuch sum)) core written image d = absurd d.answer
    by_end (how.Files (ended.InputChanged file place)) core written image d = absurd d.answer

    pub left_by : (early : Pending) (why : Received) (core : Store (Option Place)) (written image : List ℕ) → Done_in why core written image → LeftByTurns early seen places files all shares written image
    left_by early why core written image d = inr (by_store seen base (λ s. IsOnTurnWay (in_turns places files all shares) seen s written image) ⊥ there (on_way why core written image d))

    -- With nothing written.
    pub front_left : (early : Pending) (image : List ℕ) → HasFront h.header h.groups (turn_groups (turns_of base places (files_read 1 files) all shares).events) image → LeftByTurns early seen places files all shares [] image
    front_left early image f =
        let split = split_events (turns_of base places (files_read 1 files) all shares).events f.first f.more f.all in
        let has : HasGroups h.header (map body_bytes (h.groups ++ turn_groups split.0)) image = subst (λ (l : List Group). HasGroups h.header (map body_bytes (h.groups ++ l)) image) (sym split.3) f.has in
        inr (by_store seen base (λ s. IsOnTurnWay (in_turns places files all shares) seen s [] image) ⊥ there (record {
          first = split.0;
          more = split.1;
          all = split.2;
          made = first_events_stand seen image base (in_turns places files all shares) split.0 split.1 are there split.2 has;
          unwritten = lines_of split.0;
          lines = refl;
        }))

-- ---- of files that are told

module _ (places : List ℕ) (all : List Guard) (shares : List ℕ) where
  abbrev pub TurnsSaid : (seen left : List ℕ) → StoreEnd → List (List ℕ) → List ℕ → Type 0
  TurnsSaid seen left end files written = AllByRecursion IsBytes files → TurnsAnswer (in_turns places files all shares) seen (answer_of [] [] end) written left

  -- What is said of each image that a crash may leave then, and of each that it may leave
  -- meanwhile.
  abbrev pub TurnsLeave : (early pending : Pending) → List ℕ → List (List ℕ) → List ℕ → Type 0
  TurnsLeave early pending seen files written = AllByRecursion IsBytes files → (image : List ℕ) → IsImage pending image → LeftByTurns early seen places files all shares written image

  abbrev pub MomentsLeave : {D : Type 0} → (D → ℕ) → (D → ℕ → List ℕ → Type 0) → (entry now : D) → Pending → List ℕ → List (List ℕ) → Type 0
  MomentsLeave moment left_since entry now early seen files = AllByRecursion IsBytes files → LeavesOnly moment left_since entry now (LeftByTurns early seen places files all shares [])

  module _ (told : Option (List (List ℕ × List ℕ))) (names : List (List ℕ)) (seen left : List ℕ) where
    -- The store does not open.
    pub not_turned : (taken : Option (List ℕ)) (cause : Type 0) (why : StoreStop) (end : StoreEnd) → left ≡ seen → end ≡ end_by why → IsNoRefusal why → IfLog {T = StoreState} (Err why) (IsOpenStop cause) → OpenSays seen (Err why)
        → IfAllTold told names (λ files. Wrote taken taken (TurnsSaid seen left end files))
    not_turned taken cause why end same is kind stops opened = always_told told names (λ files. Wrote taken taken (TurnsSaid seen left end files)) (λ files. (
      [],
      Appends-nil taken,
      (λ are.
          subst (λ (l : List ℕ). TurnsAnswer (in_turns places files all shares) seen (answer_of [] [] end) [] l) (sym same)
          (subst (λ (e : StoreEnd). TurnsAnswer (in_turns places files all shares) seen (answer_of [] [] e) [] seen) (sym is) (unopened places files all shares seen cause why are kind stops opened))),
    ))

    pub none_left : (early pending : Pending) (taken : Option (List ℕ)) → ((image : List ℕ) → IsImage pending image → IsImage early image)
        → IfAllTold told names (λ files. Wrote taken taken (TurnsLeave early pending seen files))
    none_left early pending taken only = always_told told names (λ files. Wrote taken taken (TurnsLeave early pending seen files)) (λ files. ([], Appends-nil taken, (λ are image is. inl (only image is, refl))))

    pub none_moments : {D : Type 0} {moment : D → ℕ} {left_since : D → ℕ → List ℕ → Type 0} {entry now : D} (early : Pending) → LeavesOnly moment left_since entry now (IsImage early)
        → IfAllTold told names (MomentsLeave moment left_since entry now early seen)
    none_moments {D} {moment} {left_since} {entry} {now} early run =
        always_told told names (MomentsLeave moment left_since entry now early seen) (λ files are. weakens run (λ image is. inl (is, refl)))

  -- It opens.
  module _ (counts : LinesAreParts ℕ) {D : Type 0} (tells : Type 0) (told_it : tells) (seen : D → List ℕ) (pending : D → Pending) (first last : D) (opened after : StoreState) (h : HoldsSome (seen first) (pending first) opened)
      (told : Option (List (List ℕ × List ℕ))) (names : List (List ℕ)) where
    abbrev Done_so : Received → List (List ℕ) → List ℕ → Type 0
    Done_so why files written = LeavesMore tells seen pending first last opened after why (AreDone opened.log.limit opened.log.gate (with_bytes (seen first) opened.core) places files all shares why after.core written)
        × AreDone opened.log.limit opened.log.gate (with_bytes (seen first) opened.core) places files all shares why after.core written (λ groups. Unit {0})

    -- Each image that a crash may leave then has what was done.
    each_left : (why : Received) (files : List (List ℕ)) (written : List ℕ) → Done_so why files written → (image : List ℕ) → IsImage (pending last) image
        → AreDone opened.log.limit opened.log.gate (with_bytes (seen first) opened.core) places files all shares why after.core written (λ groups. HasThese h.header (h.groups ++ groups) image)
    each_left why files written r image is =
        leaves_either why
        (λ d. record {
          first = d.first;
          more = d.more;
          all = d.all;
          has = rests_has h.header (bodies_of (h.groups ++ turn_groups d.first)) after.log (seen last) (pending last) d.has.rests image is;
          now = d.now;
          made = d.made;
          state = d.state;
          order = d.order;
          unwritten = d.unwritten;
          printed = d.printed;
          answer = d.answer;
          core_is = d.core_is;
        })
        (λ each. each image is)
        (r.0 told_it h.header h.groups h.holds)

    pub is_turned : (why : Received) (end : StoreEnd) (old new : Option (List ℕ)) → end ≡ end_received why → IsImage (pending last) (seen last) → IfAllTold told names (λ files. Wrote old new (Done_so why files))
        → IfAllTold told names (λ files. Wrote old new (TurnsSaid (seen first) (seen last) end files))
    is_turned why end old new same is_image turned = then_told told names (λ files. Wrote old new (Done_so why files)) (λ files. Wrote old new (TurnsSaid (seen first) (seen last) end files)) (λ files wrote. (
      wrote.0,
      wrote.1,
      (λ are.
          subst (λ (e : StoreEnd). TurnsAnswer (in_turns places files all shares) (seen first) (answer_of [] [] e) wrote.0 (seen last)) (sym same)
          (by_end places files all shares counts (seen first) (pending first) opened h are why after.core wrote.0 (seen last) (each_left why files wrote.0 wrote.2 (seen last) is_image))),
    )) turned

    pub is_left : (early : Pending) (why : Received) (old new : Option (List ℕ)) → IfAllTold told names (λ files. Wrote old new (Done_so why files))
        → IfAllTold told names (λ files. Wrote old new (TurnsLeave early (pending last) (seen first) files))
    is_left early why old new turned = then_told told names (λ files. Wrote old new (Done_so why files)) (λ files. Wrote old new (TurnsLeave early (pending last) (seen first) files)) (λ files wrote. (
      wrote.0,
      wrote.1,
      (λ are image is. left_by places files all shares counts (seen first) (pending first) opened h are early why after.core wrote.0 image (each_left why files wrote.0 wrote.2 image is)),
    )) turned

    -- At each moment it leaves a store on the way.
    pub its_moments : {moment : D → ℕ} {left_since : D → ℕ → List ℕ → Type 0} {entry : D} (early : Pending) → LeavesOnly moment left_since entry first (IsImage early)
        → IfAllTold told names (λ files. LeavesOnly moment left_since first last (HasFront h.header h.groups (turn_groups (turns_of (with_bytes (seen first) opened.core) places (files_read 1 files) all shares).events)))
        → IfAllTold told names (MomentsLeave moment left_since entry last early (seen first))
    its_moments {moment} {left_since} {entry} early before run = then_told told names (λ files. LeavesOnly moment left_since first last (HasFront h.header h.groups (turn_groups (turns_of (with_bytes (seen first) opened.core) places (files_read 1 files) all shares).events)))
        (MomentsLeave moment left_since entry last early (seen first))
        (λ files leaves are. joins (weakens before (λ image is. inl (is, refl))) (weakens leaves (λ image f. front_left places files all shares counts (seen first) (pending first) opened h are early image f))) run
