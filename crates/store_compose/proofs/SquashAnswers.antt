-- What squashing a file over a store answers, from what it says over each base.
use Rattle.std.specs.Prelude.{◌≡◌, ⊤, ℕ, List, [], ◌∷◌, map, take, Option, None, Some, Result, Err}
use Rattle.std.proofs.Common.{refl, sym, ap, subst, ◌∙◌, inl, append-nil}
use Rattle.std.proofs.KnownBytes.{Appends-nil}
use Rattle.send_model.specs.Due as files_due
use Rattle.send_model.specs.Due.{DoneWhole, RefusedAt, TooLong, AtEnd, Limited, limited_from}
use Rattle.send_model.specs.Lengths.{limit}
use Rattle.send_model.specs.Outside.{keys_outside, FindsLawful}
use Rattle.send_model.specs.Overridden.{Override, Overrides, override_for, overridden, overridden_as, overridden_items, overridden_limited}
use Rattle.send_model.specs.Reading.{Item, Ending, Whole, Faulty, Reading, reads, joined, input_from, input}
use Rattle.send_model.specs.Sources.{Sources}
use Rattle.send_model.specs.Store.{Store}
use Rattle.send_model.proofs.LawfulStores.{lawful_all_sayable}
use Rattle.send_model.proofs.NamedStreams.{read_to_end}
use Rattle.send_model.proofs.OverriddenByFile.{file_has_one_override}
use Rattle.store_model.specs.Dues as dues
use Rattle.store_model.specs.Requests.{ByImage}
use Rattle.store_model.specs.Stored.{StandsFor, as_bytes}
use Rattle.store_model.proofs.LawfulGroups.{stands_lawful}
use Rattle.store_model.proofs.OneStore.{one_store}
use Rattle.squash_model.specs.SquashedStreams.{IsSquashedOf}
use Rattle.squash_model.specs.SquashDues.{own_uuids, own_base, squash_due, IsPartlySquashed}
use Rattle.squash_model.proofs.JudgedDues.{done_has_no_verdict}
use Rattle.program_model.specs.Answers.{OfFiles, Says, Writes, flat, of_files, of_store, squashed_over, read_as}
use Rattle.sx_base.specs.Calls.{Caused, EndsAs, IfAllTold, Wrote}
use Rattle.sx_base.specs.Outside.{file_at}
use Rattle.sx_base.specs.Refusals.{verdict_meant}
use Rattle.sx_base.specs.declared.outcome.Outcome.{Outcome}
use Rattle.sx_base.specs.declared.outcome.Outcome.TheVariants as ended
use Rattle.cmd_reader.specs.Places.{IfTold}
use Rattle.auditor.proofs.TooLong.{read_either}
use Rattle.group_log.specs.declared.stops.LogStop.TheVariants as log
use Rattle.group_replay.specs.declared.stops.StoreStop.{StoreStop}
use Rattle.group_replay.specs.declared.stops.StoreStop.TheVariants as stop
use Rattle.group_replay.specs.Stopping.{IfLog, IsNoRefusal}
use Rattle.store_journal.specs.Shown.{StoreState}
use Rattle.store_journal.specs.Opening.{OpenSays, IsOpenStop}
use Rattle.store_commands.specs.declared.ends.StoreEnd.{StoreEnd}
use Rattle.store_commands.specs.declared.ends.StoreEnd.TheVariants as made
use Rattle.store_commands.specs.Ending.{answer_of, audit_ways, end_by, EndCaused}
use Rattle.store_commands.proofs.Opened.{by_store, by_none, no_end}
use Rattle.store_commands.proofs.StreamAnswers.{always_told}
use Rattle.squasher.specs.Judging.{read_with}
use Rattle.squasher.specs.Squashing.{SquashSays, SquashEnds}
use Rattle.store_compose.specs.Squashing.{given_once, squashed_in}

-- ---- what is read of one file

-- All items of the first file have what is said in front of it.
pub limited_any : (overrides : Overrides) (bytes : List ℕ) → overridden_limited overrides (limited_from 1 (bytes ∷ [])) ≡ read_with (override_for overrides 1) 1 bytes
limited_any overrides bytes =
    let items_of : Reading → List Item = λ r. r.items in
    ap (λ (items : List Item). record { items = items; stop = (limited_from 1 (bytes ∷ [])).stop })
    (read_either (λ items. overridden_items overrides items ≡ map (overridden_as (override_for overrides 1)) items) 1 bytes
    (ap items_of (file_has_one_override overrides 1 bytes)) (ap items_of (file_has_one_override overrides 1 (take limit bytes))))

limited_once : (name : List ℕ) (said : Override) (bytes : List ℕ) → (read_as (given_once name said) (bytes ∷ [])).limited ≡ read_with said 1 bytes
limited_once name said bytes = limited_any (said ∷ []) bytes

-- Where it was read to its end, that is all of it.
whole_once : (name : List ℕ) (said : Override) (bytes : List ℕ) → (read_as (given_once name said) (bytes ∷ [])).limited.stop ≡ AtEnd
    → record { items = (read_as (given_once name said) (bytes ∷ [])).limited.items; end = Whole } ≡ overridden (said ∷ []) (input (bytes ∷ []))
unfolding input_from input
whole_once name said bytes end =
    let whole = read_to_end 1 (bytes ∷ []) end in
    ap (λ (r : Reading). overridden (said ∷ []) r) (ap (λ (items : List Item). record { items = items; end = Whole }) whole.0 ∙ ap (λ (e : _). record { items = (input (bytes ∷ [])).items; end = e }) (sym whole.1))

-- It is read as the first file with what is said in front of it alone.
pub reading_once : (overrides : Overrides) (bytes : List ℕ) → overridden overrides (input (bytes ∷ [])) ≡ overridden (override_for overrides 1 ∷ []) (input (bytes ∷ []))
unfolding input_from input reads
reading_once overrides bytes =
    let at : List Item → Reading = λ items. record { items = items; end = (input (bytes ∷ [])).end } in
    ap at (all overrides ∙ sym (all (override_for overrides 1 ∷ [])))
  where
    alike : Overrides → List Item → Type 0
    alike said items = overridden_items said items ≡ map (overridden_as (override_for said 1)) items

    one : (said : Overrides) (items : List Item) (ending : Ending) → alike said items → alike said (joined (record { items = items; end = ending }) (input_from 2 [])).items
    one said items Whole p = subst (alike said) (sym (append-nil items)) p
    one said items (Faulty verdict) p = p

    all : (said : Overrides) → alike said (input (bytes ∷ [])).items
    all said = one said (reads 1 bytes).items (reads 1 bytes).end (ap (λ (r : Reading). r.items) (file_has_one_override said 1 bytes))

-- ---- what a squashed file answers

abbrev Base : Sources → Store ℕ → Store ℕ
Base read s = own_base s read.limited.items

abbrev Ends : Store ℕ → Limited → Outcome → List ℕ → Type 0
Ends base read outcome written = EndsAs (squash_due base read) (SquashSays base read) (IsPartlySquashed base read) (IsPartlySquashed base read) outcome written

-- The outcome of an end.
outcome_inside : {x y : Outcome} → made.Ends x ≡ made.Ends y → x ≡ y
outcome_inside {x = x} e = ap (λ (end : StoreEnd). elim end [
  | made.Ends outcome ↦ outcome
  | made.StoreFault ↦ x
  | made.NotStore group ↦ x
  | made.NoName ↦ x
  | made.NoFile ↦ x
  | made.LogFull end wanted most ↦ x
  | made.StoreThere size ↦ x
  | made.Damaged group stored computed ↦ x
]) e

-- Over nothing.
pub alone_says : (read : Sources) (image written : List ℕ) (reads read_now writes wrote_now : ℕ) (outcome : Outcome) → Caused reads read_now writes wrote_now outcome → SquashEnds (Base read []) read.limited outcome written
    → Says (of_files image (squashed_over read [])) (flat (answer_of [] [] (made.Ends outcome))) written image
unfolding Says
alone_says read image written reads read_now writes wrote_now outcome why h = one outcome why h.ends
  where
    one : (x : Outcome) → Caused reads read_now writes wrote_now x → Ends (Base read []) read.limited x written → Says (of_files image (squashed_over read [])) (flat (answer_of [] [] (made.Ends x))) written image
    one ended.Done why h = (ap (λ (d : files_due.Due). dues.Ends d) (sym h.0), (refl, h.1))
    one (ended.Refused verdict) why h = (ap (λ (d : files_due.Due). dues.Ends d) (sym h.0), (refl, h.1))
    one (ended.InputTooLong file) why h = (ap (λ (d : files_due.Due). dues.Ends d) (sym h.0), (refl, inl h.1))
    one (ended.TooMuch sum) why h = absurd why
    one (ended.InputChanged file place) why h = absurd why
    one ended.InputFault why h = (refl, h)
    one ended.OutputFault why h = (refl, h)
    one ended.NoMemory why h = (refl, h)

-- Over the store that an image stands for.
stored_says : (read : Sources) (image written : List ℕ) (s : Store ℕ) → StandsFor image s → (reads read_now writes wrote_now : ℕ) (outcome : Outcome) → Caused reads read_now writes wrote_now outcome
    → SquashEnds (Base read s) read.limited outcome written
    → Says (of_store image (squashed_over read)) (flat (answer_of [] [] (made.Ends outcome))) written image
unfolding Says
stored_says read image written s stands reads read_now writes wrote_now outcome why h = one outcome why h.ends
  where
    over : Store ℕ → OfFiles
    over = squashed_over read

    due_is : (d : files_due.Due) → squash_due (Base read s) read.limited ≡ d → Writes (over s) (dues.Ends d) written
        → ((t : Store ℕ) × StandsFor image t × (dues.Ends d ≡ dues.Ends (squash_due (Base read t) read.limited))) × ((image ≡ image) × ByImage image (λ t. Writes (over t) (dues.Ends d) written) (written ≡ []))
    due_is d is writes = ((s, stands, ap (λ (x : files_due.Due). dues.Ends x) (sym is)), (refl, by_store image s (λ t. Writes (over t) (dues.Ends d) written) (written ≡ []) stands writes))

    one : (x : Outcome) → Caused reads read_now writes wrote_now x → Ends (Base read s) read.limited x written → Says (of_store image (squashed_over read)) (flat (answer_of [] [] (made.Ends x))) written image
    one ended.Done why h = due_is DoneWhole h.0 h.1
    one (ended.Refused verdict) why h = due_is (RefusedAt (verdict_meant verdict)) h.0 h.1
    one (ended.InputTooLong file) why h = due_is (TooLong file) h.0 (inl h.1)
    one (ended.TooMuch sum) why h = absurd why
    one (ended.InputChanged file place) why h = absurd why
    one ended.InputFault why h = (refl, by_store image s (λ t. (over t).before written) ⊥ stands h)
    one ended.OutputFault why h = (refl, by_store image s (λ t. (over t).cut written) ⊥ stands h)
    one ended.NoMemory why h = (refl, by_store image s (λ t. (over t).before written) (written ≡ []) stands h)

-- Where the store does not open.
stopped_says : (read : Sources) (image : List ℕ) (cause : Type 0) (why : StoreStop) → IsNoRefusal why → IfLog {T = StoreState} (Err why) (IsOpenStop cause) → OpenSays image (Err why)
    → Says (of_store image (squashed_over read)) (flat (answer_of [] [] (end_by why))) [] image
unfolding Says
stopped_says read image cause (stop.Refused refusal) kind stops opened = absurd kind
stopped_says read image cause stop.NoMemory kind stops opened = (refl, (λ s stands. inl refl, λ group none. refl))
stopped_says read image cause (stop.Log log.DiskFault) kind stops opened = (refl, (λ s stands. inl refl, λ group none. refl))
stopped_says read image cause (stop.Log (log.NotStore group)) kind stops opened =
    (opened, (refl, by_none image group (λ t. Writes (squashed_over read t) (dues.NotStore group) []) ([] ≡ []) opened refl))
stopped_says read image cause (stop.Log (log.LogFull end wanted most)) kind stops opened = absurd stops
stopped_says read image cause (stop.Log (log.StoreThere size)) kind stops opened = absurd stops

-- ---- what is promised

-- Where all is done, the promise is about all that the file holds.
pub promised : (name : List ℕ) (said : Override) (s : Store ℕ) (bytes written : List ℕ) → SquashEnds (own_base s (read_with said 1 bytes).items) (read_with said 1 bytes) ended.Done written
    → IsSquashedOf (own_base s (overridden (said ∷ []) (input (bytes ∷ []))).items) (overridden (said ∷ []) (input (bytes ∷ []))) written
promised name said s bytes written h =
    let read : Limited = (read_as (given_once name said) (bytes ∷ [])).limited in
    let here : SquashEnds (own_base s read.items) read ended.Done written = subst (λ (l : Limited). SquashEnds (own_base s l.items) l ended.Done written) (sym (limited_once name said bytes)) h in
    let all : record { items = read.items; end = Whole } ≡ overridden (said ∷ []) (input (bytes ∷ [])) = whole_once name said bytes (done_has_no_verdict (own_base s read.items) read here.ends.0).0 in
    subst (λ (r : Reading). IsSquashedOf (own_base s r.items) r written) all (here.squashed refl)

-- ---- over a store

-- What the store finds outside is lawful.
pub finds_lawful : (image : List ℕ) (s : Store ℕ) (items : List Item) → StandsFor image s → FindsLawful (own_base s items) (keys_outside items)
finds_lawful image s items stands = λ key found among is. ((lawful_all_sayable s (stands_lawful image s stands)).1 (own_uuids items) key found is).lawful

-- What is known of a file as it is told is known of it alone.
pub told_once : (told : Option (List (List ℕ × List ℕ))) (name : List ℕ) (P : List ℕ → Type 0) (Q : List (List ℕ) → Type 0) → ((bytes : List ℕ) → P bytes → Q (bytes ∷ [])) → IfTold told name P → IfAllTold told (name ∷ []) Q
told_once None name P Q more known = tt
told_once (Some table) name P Q more known = more (file_at table name) (known (file_at table name) refl)

module _ (told : Option (List (List ℕ × List ℕ))) (name seen left : List ℕ) (said : Override) (same : left ≡ seen) where
  -- The store does not open.
  pub not_squashed : (taken : Option (List ℕ)) (cause : Type 0) (why : StoreStop) (end : StoreEnd) → end ≡ end_by why → IsNoRefusal why → IfLog {T = StoreState} (Err why) (IsOpenStop cause) → OpenSays seen (Err why)
      → IfAllTold told (name ∷ []) (λ bytes. Wrote taken taken (λ written. Says (squashed_in seen name said bytes) (flat (answer_of [] [] end)) written left))
  not_squashed taken cause why end is kind stops opened =
      always_told told (name ∷ []) (λ bytes. Wrote taken taken (λ written. Says (squashed_in seen name said bytes) (flat (answer_of [] [] end)) written left)) (λ bytes. (
        [],
        Appends-nil taken,
        subst (λ (l : List ℕ). Says (squashed_in seen name said bytes) (flat (answer_of [] [] end)) [] l) (sym same)
            (subst (λ (e : StoreEnd). Says (squashed_in seen name said bytes) (flat (answer_of [] [] e)) [] seen) (sym is) (stopped_says (read_as (given_once name said) bytes) seen cause why kind stops opened)),
      ))

  pub nothing_squashed : (taken : Option (List ℕ)) (why : StoreStop) (end : StoreEnd) → end ≡ end_by why → IsNoRefusal why
      → IfAllTold told (name ∷ []) (λ bytes. Wrote taken taken (λ written. end ≡ made.Ends ended.Done → (s : Store ℕ) → StandsFor seen s
      → IsSquashedOf (own_base s (overridden (said ∷ []) (input bytes)).items) (overridden (said ∷ []) (input bytes)) written))
  nothing_squashed taken why end is kind =
      always_told told (name ∷ []) _ (λ bytes. ([], Appends-nil taken, λ done. absurd (no_end why kind (sym is ∙ done))))

  module _ (old new : Option (List ℕ)) (s : Store ℕ) (stands : StandsFor seen s) (outcome : Outcome)
      (ends : IfTold told name (λ bytes. FindsLawful (own_base s (read_with said 1 bytes).items) (keys_outside (read_with said 1 bytes).items) → Wrote old new (SquashEnds (own_base s (read_with said 1 bytes).items) (read_with said 1 bytes) outcome))) where
    -- It opens, and the file is squashed over its subvolumes.
    pub is_squashed : (reads read_now writes wrote_now : ℕ) → Caused reads read_now writes wrote_now outcome
        → IfAllTold told (name ∷ []) (λ bytes. Wrote old new (λ written. Says (squashed_in seen name said bytes) (flat (answer_of [] [] (made.Ends outcome))) written left))
    is_squashed reads read_now writes wrote_now why = told_once told name _ _ (λ bytes p. let w = p (finds_lawful seen s (read_with said 1 bytes).items stands) in (
      w.0,
      w.1,
      subst (λ (l : List ℕ). Says (squashed_in seen name said (bytes ∷ [])) (flat (answer_of [] [] (made.Ends outcome))) w.0 l) (sym same)
          (stored_says (read_as (given_once name said) (bytes ∷ [])) seen w.0 s stands reads read_now writes wrote_now outcome why
          (subst (λ (l : Limited). SquashEnds (own_base s l.items) l outcome w.0) (sym (limited_once name said bytes)) w.2)),
    )) ends

    pub is_promised : IfAllTold told (name ∷ []) (λ bytes. Wrote old new (λ written. made.Ends outcome ≡ made.Ends ended.Done → (t : Store ℕ) → StandsFor seen t
        → IsSquashedOf (own_base t (overridden (said ∷ []) (input bytes)).items) (overridden (said ∷ []) (input bytes)) written))
    is_promised = told_once told name _ _ (λ bytes p. let w = p (finds_lawful seen s (read_with said 1 bytes).items stands) in (
      w.0,
      w.1,
      λ done t other. subst (λ (u : Store ℕ). IsSquashedOf (own_base u (overridden (said ∷ []) (input (bytes ∷ []))).items) (overridden (said ∷ []) (input (bytes ∷ []))) w.0) (one_store 0 as_bytes seen s t stands other)
          (promised name said s bytes w.0 (subst (λ (x : Outcome). SquashEnds (own_base s (read_with said 1 bytes).items) (read_with said 1 bytes) x w.0) (outcome_inside done) w.2)),
    )) ends
