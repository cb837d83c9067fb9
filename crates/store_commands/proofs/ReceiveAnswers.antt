-- What receiving into a store answers, from what receiving over the store that opened says.
use Rattle.std.specs.Prelude.{◌≡◌, ℕ, ◌<◌, List, [], ◌∷◌, ◌++◌, length, take, Option, Err}
use Rattle.std.specs.List.{AllByRecursion}
use Rattle.std.proofs.Common.{inl, inr, refl, sym, ap, subst, ◌∙◌, append_assoc, arith, length-append}
use Rattle.std.proofs.KnownBytes.{Appends-nil}
use Rattle.std.proofs.Math.Seq.{take-append_seam}
use Rattle.sx_base.specs.Disk.{Pending, IsImage}
use Rattle.sx_base.specs.Causes.{Rose}
use Rattle.sx_base.specs.Crash.{LeavesOnly}
use Rattle.sx_base.specs.Calls.{IfAllTold, Wrote}
use Rattle.sx_base.specs.Refusals.{verdict_meant}
use Rattle.sx_base.specs.declared.outcome.Outcome.TheVariants as ended
use Rattle.sx_base.proofs.DiskMoments.{joins, weakens}
use Rattle.send_model.specs.Attribute.{IsBytes}
use Rattle.send_model.specs.Store.{Store}
use Rattle.send_model.specs.Guards.{Guard, GuardSpec}
use Rattle.send_model.specs.Words.{new_guards}
use Rattle.send_model.specs.Due.{DoneWhole, RefusedAt, TooLong, limited_from}
use Rattle.send_model.specs.Overridden.{Overrides, AreLawfulOverrides, overridden_limited}
use Rattle.send_model.specs.Headline.{IsProperFrontOf}
use Rattle.store_model.specs.NamedFiles.{NamedFiles, read_of, AreGiven}
use Rattle.store_model.specs.Image.{limit_of, front_of}
use Rattle.store_model.specs.Stored.{StandsFor, StandsForNone}
use Rattle.store_model.specs.StateLaws.{LinesAreParts}
use Rattle.send_model.specs.Receive.{byte_cells}
use Rattle.store_model.specs.States.{lines_behind, received, received_lines}
use Rattle.store_model.specs.Stops.{IsOnTheWay}
use Rattle.store_model.specs.Written.{groups_of}
use Rattle.store_model.specs.Dues as dues
use Rattle.store_model.specs.Dues.{Due, Ends, receive_due, receive_left, IsReceiveDue, ReceiveSays}
use Rattle.store_model.specs.Requests.{ReceiveFiles, ByImage, at_entry}
use Rattle.store_model.specs.Answers.{Answers, StandsBefore, DueSays}
use Rattle.store_model.proofs.OnTheWay.{nothing_is_on_the_way}
use Rattle.group_log.proofs.GatedGroups.{rests_has}
use Rattle.group_replay.specs.declared.place.Place.{Place}
use Rattle.group_replay.specs.declared.stops.StoreStop.{StoreStop}
use Rattle.group_replay.specs.Stopping.{IfLog, IsNoRefusal}
use Rattle.store_journal.specs.Shown.{StoreState}
use Rattle.store_journal.specs.Holding.{bodies_of, HasThese}
use Rattle.store_journal.specs.Opening.{OpenSays, IsOpenStop, HoldsSome}
use Rattle.store_journal.specs.Standing.{with_bytes}
use Rattle.store_journal.proofs.StandingGroups.{front_makes}
use Rattle.receiver.specs.declared.outcome.Received.{Received}
use Rattle.receiver.specs.declared.outcome.Received.TheVariants as how
use Rattle.receiver.specs.Disks.{HasFront}
use Rattle.receiver.proofs.Unpacked.{ReceiveEnds, AreLeft, LeavesMore, Caused}
use Rattle.receiver.proofs.DiskRuns.{leaves_either}
use Rattle.receiver.specs.ReceiveEnds.{SteadyIfReceived}
use Rattle.store_commands.specs.Ending.{answer_of, end_by, end_received, receive_ways, EndCaused}
use Rattle.store_commands.specs.Receiving.{LeftByReceive}
use Rattle.store_commands.specs.declared.ends.StoreEnd.{StoreEnd}
use Rattle.store_commands.proofs.StreamAnswers.{always_told, then_told}
use Rattle.store_commands.proofs.Opened.{by_store, by_none, not_opened}
use Rattle.store_commands.proofs.Dropped.{has_seen}
use Rattle.store_commands.proofs.ReceivedWays.{limited_groups, limited_lines, stands_made, on_the_way, on_the_way_at_all}

-- ---- there is no store

pub receive_of_none : (specs : List GuardSpec) (store at : ℕ) (words : List (List ℕ)) (seen : List ℕ) (files : NamedFiles) (group : ℕ) → StandsForNone seen group → DueSays (ReceiveFiles specs store at) (at_entry words seen files) (dues.NotStore group) [] seen
receive_of_none specs store at words seen files group fails =
    (fails, by_none seen group (λ s. ReceiveSays seen (new_guards specs) files s [] seen) (([] ≡ []) × (seen ≡ seen)) fails (refl, refl))

pub nothing_received : (specs : List GuardSpec) (store at : ℕ) (words : List (List ℕ)) (seen : List ℕ) (files : NamedFiles) → StandsBefore (ReceiveFiles specs store at) words seen files [] seen
nothing_received specs store at words seen files = ((λ s stands. nothing_is_on_the_way seen (new_guards specs) files s stands), (λ group fails. (refl, refl)))

-- ---- a store that opened, with its bytes

module _ (counts : LinesAreParts ℕ) (seen : List ℕ) (pending : Pending) (opened : StoreState) (h : HoldsSome seen pending opened) where
  abbrev pub base : Store ℕ
  base = with_bytes seen opened.core

  abbrev pub stands : StandsFor seen base
  stands = record {
    header = h.header;
    groups = h.groups;
    has = has_seen h.header h.groups opened seen pending h.holds;
    makes = front_makes h.header h.groups opened.core seen (h.holds.rests.gate ∷ h.holds.rests.rest) h.holds.makes h.holds.rests.bytes;
  }

  module _ (guards : List Guard) (files : NamedFiles) (are : AreGiven files) where
    -- What is left has these groups in an image.
    abbrev pub Left : Received → List ℕ → List ℕ → Type 0
    Left why written image = AreLeft opened.log.limit opened.log.gate (with_bytes seen opened.core) guards files why written (λ first. HasThese h.header (h.groups ++ first) image)

    pub its_way : (why : Received) (written image : List ℕ) → Left why written image → IsOnTheWay seen guards files (with_bytes seen opened.core) written image
    its_way why written image l = on_the_way seen base stands guards files are image l.first l.more l.all l.has counts l.now written l.unwritten l.made l.printed

    left_is : receive_left opened.log.limit opened.log.gate base guards files ≡ receive_left (limit_of h.header) (length (front_of h.header (bodies_of h.groups))) base guards files
    left_is = λ i. receive_left (h.holds.rests.behind.limit i) (h.holds.rests.behind.place i) base guards files

    its_due : (due : Due) → receive_due opened.log.limit opened.log.gate base guards files ≡ due → IsReceiveDue seen guards files base due
    its_due due is = (stands, sym is ∙ (λ i. receive_due (h.holds.rests.behind.limit i) (h.holds.rests.behind.place i) base guards files))

    its_store : (why : Received) (written image : List ℕ) (l : Left why written image) → l.now ≡ receive_left opened.log.limit opened.log.gate base guards files
        → written ≡ lines_behind base (receive_left opened.log.limit opened.log.gate base guards files) → ReceiveSays seen guards files base written image
    its_store why written image l same lines =
        let others = limited_groups seen base stands guards files are l.first l.more l.all in (
          stands,
          (
            lines ∙ ap (lines_behind base) left_is,
            subst (StandsFor image) (same ∙ left_is) (stands_made seen base stands guards files are image l.first l.more l.all l.has l.now l.made),
          ),
          (l.first, others.0, others.1, l.has),
        )

  module _ (specs : List GuardSpec) (files : NamedFiles) (are : AreGiven files) (store at : ℕ) (words : List (List ℕ)) (written left : List ℕ) where
    abbrev Said : Received → Store (Option Place) → Type 0
    Said why core = ReceiveEnds opened.log.limit opened.log.gate (with_bytes seen opened.core) (new_guards specs) files why core written

    -- What the store and the lines are.
    says : (why : Received) (due : Due) (l : Left (new_guards specs) files are why written left) → receive_due opened.log.limit opened.log.gate base (new_guards specs) files ≡ due
        → written ≡ lines_behind base (receive_left opened.log.limit opened.log.gate base (new_guards specs) files) → l.now ≡ receive_left opened.log.limit opened.log.gate base (new_guards specs) files
        → IsReceiveDue seen (new_guards specs) files base due × ByImage seen (λ s. ReceiveSays seen (new_guards specs) files s written left) ((written ≡ []) × (left ≡ seen))
    says why due l is lines same = (
      its_due (new_guards specs) files are due is,
      by_store seen base (λ s. ReceiveSays seen (new_guards specs) files s written left) ((written ≡ []) × (left ≡ seen)) stands (its_store (new_guards specs) files are why written left l same lines),
    )

    -- Receiving is on the way.
    goes : (why : Received) → Left (new_guards specs) files are why written left → StandsBefore (ReceiveFiles specs store at) words seen files written left
    goes why l = by_store seen base (λ s. IsOnTheWay seen (new_guards specs) files s written left) ((written ≡ []) × (left ≡ seen)) stands (its_way (new_guards specs) files are why written left l)

    -- Some of the lines are missing.
    cut : (unwritten : List ℕ) → lines_behind base (received 0 byte_cells base (new_guards specs) (read_of files).limited.items).state.state.store ≡ written ++ unwritten → 0 < length unwritten
        → IsProperFrontOf (received_lines base (new_guards specs) files) written
    cut unwritten front some =
        let more = limited_lines seen base stands (new_guards specs) files are in
        let all : received_lines base (new_guards specs) files ≡ written ++ (unwritten ++ more.0) = more.1 ∙ ap (λ (l : List ℕ). l ++ more.0) front ∙ append_assoc written unwritten more.0 in
        record {
          count = length written;
          within = omega (arith, ap length all, length-append written (unwritten ++ more.0), length-append unwritten more.0, some);
          written_is = sym (ap (take (length written)) all ∙ take-append_seam written (unwritten ++ more.0));
        }

    by_end : (why : Received) (core : Store (Option Place)) → Said why core → Left (new_guards specs) files are why written left
        → Answers (ReceiveFiles specs store at) (at_entry words seen files) (answer_of [] [] (end_received why)) written left
    by_end (how.Files ended.Done) core e l = let s = says (how.Files ended.Done) (Ends DoneWhole) l e.0.0 e.0.1 l.left in ((base, stands, s.0), s.1)
    by_end (how.Files (ended.Refused verdict)) core e l = let s = says (how.Files (ended.Refused verdict)) (Ends (RefusedAt (verdict_meant verdict))) l e.0.0 e.0.1 l.left in ((base, stands, s.0), s.1)
    by_end (how.Files (ended.InputTooLong file)) core e l = let s = says (how.Files (ended.InputTooLong file)) (Ends (TooLong file)) l e.0.0 e.0.1 l.left in ((base, stands, s.0), s.1)
    by_end (how.Files ended.InputFault) core e l =
        (tt, by_store seen base (λ s. IsOnTheWay seen (new_guards specs) files s written left) ⊥ stands (its_way (new_guards specs) files are (how.Files ended.InputFault) written left l))
    by_end (how.Files ended.NoMemory) core e l = goes (how.Files ended.NoMemory) l
    by_end (how.Files ended.OutputFault) core e l =
        by_store seen base (λ s. IsOnTheWay seen (new_guards specs) files s written left × IsProperFrontOf (received_lines s (new_guards specs) files) written) ⊥ stands
        (its_way (new_guards specs) files are (how.Files ended.OutputFault) written left l, cut e.0 e.1 e.2)
    by_end (how.Files (ended.TooMuch sum)) core e l = absurd e
    by_end (how.Files (ended.InputChanged file place)) core e l = absurd e
    by_end how.StoreFault core e l = goes how.StoreFault l
    by_end (how.LogFull end wanted most) core e l = let s = says (how.LogFull end wanted most) (dues.LogFull end wanted most) l e.0 e.1 l.left in ((base, stands, s.0), s.1)

-- ---- of files that are told

-- Files, with what is said in front of them.
abbrev pub with_names : Overrides → List (List ℕ) → NamedFiles
with_names names files = record { bytes = files; overrides = names }

-- What is said of all words that ask for it under these guards.
abbrev pub ReceiveSaid : (seen left : List ℕ) → List Guard → Overrides → StoreEnd → List (List ℕ) → List ℕ → Type 0
ReceiveSaid seen left guards given end files written = (words : List (List ℕ)) (specs : List GuardSpec) (store at : ℕ) → AllByRecursion IsBytes files → guards ≡ new_guards specs
    → Answers (ReceiveFiles specs store at) (at_entry words seen (with_names given files)) (answer_of [] [] end) written left

-- And of each image that a crash may leave then.
abbrev pub ReceiveLeaves : (early pending : Pending) → List ℕ → List Guard → Overrides → List (List ℕ) → List ℕ → Type 0
ReceiveLeaves early pending seen guards given files written = (specs : List GuardSpec) → AllByRecursion IsBytes files → guards ≡ new_guards specs
    → (image : List ℕ) → IsImage pending image → LeftByReceive early seen (new_guards specs) (with_names given files) written image

-- And of each that it may leave meanwhile.
abbrev pub MomentsLeave : {D : Type 0} → (D → ℕ) → (D → ℕ → List ℕ → Type 0) → (entry now : D) → Pending → List ℕ → List Guard → Overrides → List (List ℕ) → Type 0
MomentsLeave moment left_since entry now early seen guards given files = (specs : List GuardSpec) → AllByRecursion IsBytes files → guards ≡ new_guards specs
    → LeavesOnly moment left_since entry now (LeftByReceive early seen (new_guards specs) (with_names given files) [])

module _ (told : Option (List (List ℕ × List ℕ))) (names : List (List ℕ)) (seen left : List ℕ) (guards : List Guard) (given : Overrides) where
  -- The store does not open.
  pub not_received : (taken : Option (List ℕ)) (cause : Type 0) (why : StoreStop) (end : StoreEnd) → left ≡ seen → end ≡ end_by why → IsNoRefusal why → IfLog {T = StoreState} (Err why) (IsOpenStop cause) → OpenSays seen (Err why)
      → IfAllTold told names (λ files. Wrote taken taken (ReceiveSaid seen left guards given end files))
  not_received taken cause why end same is kind stops opened = always_told told names (λ files. Wrote taken taken (ReceiveSaid seen left guards given end files)) (λ files. (
    [],
    Appends-nil taken,
    (λ words specs store at are fits.
        subst (λ (l : List ℕ). Answers (ReceiveFiles specs store at) (at_entry words seen (with_names given files)) (answer_of [] [] end) [] l) (sym same)
        (subst (λ (e : StoreEnd). Answers (ReceiveFiles specs store at) (at_entry words seen (with_names given files)) (answer_of [] [] e) [] seen) (sym is)
        (not_opened (ReceiveFiles specs store at) words seen (with_names given files) [] [] cause why (nothing_received specs store at words seen (with_names given files)) (nothing_received specs store at words seen (with_names given files))
        (receive_of_none specs store at words seen (with_names given files)) kind stops opened))),
  ))

  pub none_left : (early pending : Pending) (taken : Option (List ℕ)) → ((image : List ℕ) → IsImage pending image → IsImage early image)
      → IfAllTold told names (λ files. Wrote taken taken (ReceiveLeaves early pending seen guards given files))
  none_left early pending taken only = always_told told names (λ files. Wrote taken taken (ReceiveLeaves early pending seen guards given files)) (λ files. ([], Appends-nil taken, (λ specs are fits image is. inl (only image is, refl))))

  pub none_moments : {D : Type 0} {moment : D → ℕ} {left_since : D → ℕ → List ℕ → Type 0} {entry now : D} (early : Pending) → LeavesOnly moment left_since entry now (IsImage early)
      → IfAllTold told names (MomentsLeave moment left_since entry now early seen guards given)
  none_moments {D} {moment} {left_since} {entry} {now} early run =
      always_told told names (MomentsLeave moment left_since entry now early seen guards given) (λ files specs are fits. weakens run (λ image is. inl (is, refl)))

-- It opens, and files are received into it.
module _ (counts : LinesAreParts ℕ) {D : Type 0} (tells : Type 0) (told_it : tells) (seen : D → List ℕ) (pending : D → Pending) (first last : D) (opened after : StoreState) (h : HoldsSome (seen first) (pending first) opened)
    (told : Option (List (List ℕ × List ℕ))) (names : List (List ℕ)) (guards : List Guard) (given : Overrides) (all_new : AreLawfulOverrides given) where
  abbrev Received_so : Received → List (List ℕ) → List ℕ → Type 0
  Received_so why files written = ReceiveEnds opened.log.limit opened.log.gate (with_bytes (seen first) opened.core) guards (with_names given files) why after.core written
      × LeavesMore tells seen pending first last opened after why (AreLeft opened.log.limit opened.log.gate (with_bytes (seen first) opened.core) guards (with_names given files) why written)

  -- Each image that a crash may leave then has what is left.
  each_left : (why : Received) (files : List (List ℕ)) (are : AllByRecursion IsBytes files) (written : List ℕ) → Received_so why files written → (image : List ℕ) → IsImage (pending last) image
      → AreLeft opened.log.limit opened.log.gate (with_bytes (seen first) opened.core) guards (with_names given files) why written (λ groups. HasThese h.header (h.groups ++ groups) image)
  each_left why files are written r image is =
      leaves_either why
      (λ l. record {
        first = l.first;
        more = l.more;
        all = l.all;
        has = rests_has h.header (bodies_of (h.groups ++ l.first)) after.log (seen last) (pending last) l.has.rests image is;
        now = l.now;
        made = l.made;
        unwritten = l.unwritten;
        printed = l.printed;
        left = l.left;
        whole = l.whole;
      })
      (λ each. each image is)
      (r.1 told_it h.header h.groups h.holds)

  pub is_received : (why : Received) (end : StoreEnd) (old new : Option (List ℕ)) → end ≡ end_received why → IsImage (pending last) (seen last) → IfAllTold told names (λ files. Wrote old new (Received_so why files))
      → IfAllTold told names (λ files. Wrote old new (ReceiveSaid (seen first) (seen last) guards given end files))
  is_received why end old new same is_image received = then_told told names (λ files. Wrote old new (Received_so why files)) (λ files. Wrote old new (ReceiveSaid (seen first) (seen last) guards given end files)) (λ files wrote. (
    wrote.0,
    wrote.1,
    (λ words specs store at are fits.
        subst (λ (e : StoreEnd). Answers (ReceiveFiles specs store at) (at_entry words (seen first) (with_names given files)) (answer_of [] [] e) wrote.0 (seen last)) (sym same)
        (by_end counts (seen first) (pending first) opened h specs (with_names given files) (record { bytes = are; overrides = all_new }) store at words wrote.0 (seen last) why after.core
        (subst (λ (gs : List Guard). ReceiveEnds opened.log.limit opened.log.gate (with_bytes (seen first) opened.core) gs (with_names given files) why after.core wrote.0) fits wrote.2.0)
        (subst (λ (gs : List Guard). AreLeft opened.log.limit opened.log.gate (with_bytes (seen first) opened.core) gs (with_names given files) why wrote.0 (λ groups. HasThese h.header (h.groups ++ groups) (seen last))) fits
        (each_left why files are wrote.0 wrote.2 (seen last) is_image)))),
  )) received

  pub is_left : (early : Pending) (why : Received) (old new : Option (List ℕ)) → IfAllTold told names (λ files. Wrote old new (Received_so why files))
      → IfAllTold told names (λ files. Wrote old new (ReceiveLeaves early (pending last) (seen first) guards given files))
  is_left early why old new received = then_told told names (λ files. Wrote old new (Received_so why files)) (λ files. Wrote old new (ReceiveLeaves early (pending last) (seen first) guards given files)) (λ files wrote. (
    wrote.0,
    wrote.1,
    (λ specs are fits image is.
        inr (by_store (seen first) (with_bytes (seen first) opened.core) (λ s. IsOnTheWay (seen first) (new_guards specs) (with_names given files) s wrote.0 image) ⊥ (stands counts (seen first) (pending first) opened h)
        (its_way counts (seen first) (pending first) opened h (new_guards specs) (with_names given files) (record { bytes = are; overrides = all_new }) why wrote.0 image
        (subst (λ (gs : List Guard). AreLeft opened.log.limit opened.log.gate (with_bytes (seen first) opened.core) gs (with_names given files) why wrote.0 (λ groups. HasThese h.header (h.groups ++ groups) image)) fits
        (each_left why files are wrote.0 wrote.2 image is))))),
  )) received

  -- At each moment it leaves a store on the way.
  pub its_moments : {moment : D → ℕ} {left_since : D → ℕ → List ℕ → Type 0} {entry : D} (early : Pending) → LeavesOnly moment left_since entry first (IsImage early)
      → IfAllTold told names (λ files. LeavesOnly moment left_since first last (HasFront h.header h.groups (groups_of (with_bytes (seen first) opened.core) guards (overridden_limited given (limited_from 1 files)).items)))
      → IfAllTold told names (MomentsLeave moment left_since entry last early (seen first) guards given)
  its_moments {moment} {left_since} {entry} early before run = then_told told names (λ files. LeavesOnly moment left_since first last (HasFront h.header h.groups (groups_of (with_bytes (seen first) opened.core) guards (overridden_limited given (limited_from 1 files)).items)))
      (MomentsLeave moment left_since entry last early (seen first) guards given)
      (λ files leaves specs are fits.
      joins (weakens before (λ image is. inl (is, refl)))
      (weakens (subst (λ (gs : List Guard). LeavesOnly moment left_since first last (HasFront h.header h.groups (groups_of (with_bytes (seen first) opened.core) gs (overridden_limited given (limited_from 1 files)).items))) fits leaves)
      (λ image f. inr (by_store (seen first) (with_bytes (seen first) opened.core) (λ s. IsOnTheWay (seen first) (new_guards specs) (with_names given files) s [] image) ⊥ (stands counts (seen first) (pending first) opened h)
      (on_the_way_at_all (seen first) (with_bytes (seen first) opened.core) (stands counts (seen first) (pending first) opened h) (new_guards specs) (with_names given files) (record { bytes = are; overrides = all_new }) image f.first f.more f.all f.has))))) run

-- ---- whether or not anything tells

pub receive_caused : (store_entry store_first store_now inputs_before inputs_now ends_before ends_now out_before out_now : ℕ) (why : Received) → store_first ≡ store_entry → Caused inputs_before inputs_now out_before out_now store_first store_now why
    → SteadyIfReceived inputs_before inputs_now why → SteadyIfReceived ends_before ends_now why → SteadyIfReceived out_before out_now why → SteadyIfReceived store_first store_now why
    → EndCaused receive_ways ((store_now ≡ store_entry) × (inputs_now ≡ inputs_before) × (ends_now ≡ ends_before) × (out_now ≡ out_before)) (Rose store_entry store_now) (Rose inputs_before inputs_now) (Rose out_before out_now) (end_received why)
receive_caused store_entry store_first store_now inputs_before inputs_now ends_before ends_now out_before out_now (how.Files ended.Done) same cause inputs ends out store = (store ∙ same, inputs, ends, out)
receive_caused store_entry store_first store_now inputs_before inputs_now ends_before ends_now out_before out_now (how.Files (ended.Refused verdict)) same cause inputs ends out store = tt
receive_caused store_entry store_first store_now inputs_before inputs_now ends_before ends_now out_before out_now (how.Files (ended.InputTooLong file)) same cause inputs ends out store = tt
receive_caused store_entry store_first store_now inputs_before inputs_now ends_before ends_now out_before out_now (how.Files ended.InputFault) same cause inputs ends out store = cause
receive_caused store_entry store_first store_now inputs_before inputs_now ends_before ends_now out_before out_now (how.Files ended.OutputFault) same cause inputs ends out store = cause
receive_caused store_entry store_first store_now inputs_before inputs_now ends_before ends_now out_before out_now (how.Files ended.NoMemory) same cause inputs ends out store = tt
receive_caused store_entry store_first store_now inputs_before inputs_now ends_before ends_now out_before out_now (how.Files (ended.TooMuch sum)) same cause inputs ends out store = absurd cause
receive_caused store_entry store_first store_now inputs_before inputs_now ends_before ends_now out_before out_now (how.Files (ended.InputChanged file place)) same cause inputs ends out store = absurd cause
receive_caused store_entry store_first store_now inputs_before inputs_now ends_before ends_now out_before out_now how.StoreFault same cause inputs ends out store = subst (λ (n : ℕ). Rose n store_now) same cause
receive_caused store_entry store_first store_now inputs_before inputs_now ends_before ends_now out_before out_now (how.LogFull end wanted limit) same cause inputs ends out store = tt
