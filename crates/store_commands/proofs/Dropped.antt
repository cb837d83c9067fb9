-- What dropping an entry of a store answers, and what a crash leaves of it, by the groups that the
-- disk has.
use Rattle.std.specs.Prelude.{◌≡◌, ℕ, ◌+◌, Bool, true, false, not, List, [], ◌∷◌, ◌++◌, length, Option, None, Some, Err, IfSome, if◌then◌else◌}
use Rattle.std.specs.Option.{option_map}
use Rattle.std.specs.List.{filter}
use Rattle.std.specs.Str.{bytes_eq}
use Rattle.std.proofs.Common.{refl, sym, ap, subst, ◌∙◌, inl, inr}
use Rattle.sx_base.specs.Disk.{Pending, IsImage, settled}
use Rattle.sx_base.specs.Crash.{LeavesOnly}
use Rattle.sx_base.proofs.DiskMoments.{joins, weakens}
use Rattle.sx_base.proofs.DiskImages.{only_settled}
use Rattle.send_model.specs.Answer.{Done}
use Rattle.send_model.specs.Due.{DoneWhole}
use Rattle.send_model.specs.Cells.{recelled_store}
use Rattle.send_model.specs.Store.{Store, has_name}
use Rattle.send_model.proofs.CellSteps.{has_name-cells}
use Rattle.store_model.specs.Image.{Header, limit_of}
use Rattle.store_model.specs.Stored.{Group, Drop, as_bytes, byte_of, dropped, made, Makes, StandsFor, StandsForNone}
use Rattle.store_model.specs.Dues as dues
use Rattle.store_model.specs.Dues.{Due, Ends, pieces_from, or_due, drop_due, IsDropDue}
use Rattle.store_model.specs.NamedFiles.{unnamed}
use Rattle.store_model.specs.Requests.{DropEntry, DropLeaves, word_at, at_entry}
use Rattle.store_model.specs.Answers.{Answers, OfAnyWord, Missing, LogFull, DueSays, StandsBefore, StandsFault, DropFault}
use Rattle.group_log.specs.Stopping.{IsFault}
use Rattle.group_log.specs.declared.stops.LogStop.{LogStop}
use Rattle.group_log.specs.declared.stops.LogStop.TheVariants as log
use Rattle.group_log.proofs.GatedGroups.{has_closed}
use Rattle.group_replay.specs.declared.stops.StoreStop.{StoreStop}
use Rattle.group_replay.specs.declared.stops.StoreStop.TheVariants as stop
use Rattle.group_replay.specs.Stopping.{IfLog, IsNoRefusal}
use Rattle.store_journal.specs.Filling.{Asked, first_full, group_asks, IsStopOf}
use Rattle.store_journal.specs.Holding.{bodies_of, new_group, HasThese, HasOneMore, Holds}
use Rattle.store_journal.specs.Shown.{StoreState}
use Rattle.store_journal.specs.Standing.{with_bytes}
use Rattle.store_journal.specs.Opening.{HoldsSome}
use Rattle.store_journal.specs.Answers.{IfShort}
use Rattle.store_journal.proofs.Rooms.{as_due, same_full}
use Rattle.store_journal.proofs.Pushes.{makes_push}
use Rattle.store_journal.proofs.Keeping.{new_is}
use Rattle.store_journal.proofs.StandingGroups.{front_makes}
use Rattle.store_commands.specs.Dropping.{LeftByDrop}
use Rattle.store_commands.specs.Ending.{answer_of, end_by}
use Rattle.store_commands.proofs.Opened.{by_store, by_none}

-- ---- why the journal stops

stop_by : (Q cause : Type 0) (limit : ℕ) (o : Option Asked) (why : LogStop) → IsStopOf cause limit o why → ((a : Asked) → why ≡ log.LogFull a.place a.wanted limit → Q) → (IsFault cause why → Q) → Q
stop_by Q cause limit None why (inl fits) full fault = absurd fits
stop_by Q cause limit None why (inr f) full fault = fault f
stop_by Q cause limit (Some a) why (inl e) full fault = full a e
stop_by Q cause limit (Some a) why (inr f) full fault = fault f

-- ---- there is no store

pub drop_of_none : (words : List (List ℕ)) (store at : ℕ) (seen : List ℕ) (group : ℕ) → StandsForNone seen group → DueSays (DropEntry store at) (at_entry words seen (unnamed [])) (dues.NotStore group) [] seen
drop_of_none words store at seen group fails = (fails, (refl, by_none seen group (λ s. DropLeaves (dues.NotStore group) (word_at words at) s seen) (seen ≡ seen) fails refl))

pub nothing_dropped : (words : List (List ℕ)) (store at : ℕ) (seen : List ℕ) → StandsBefore (DropEntry store at) words seen (unnamed []) [] seen
nothing_dropped words store at seen = (refl, ((λ s stands. stands), (λ group fails. refl)))

pub nothing_at_fault : (words : List (List ℕ)) (store at : ℕ) (seen : List ℕ) → StandsFault (DropEntry store at) words seen (unnamed []) [] seen
nothing_at_fault words store at seen = (refl, ((λ s stands. inl stands), (λ group fails. refl)))

-- ---- a store that opened, with its bytes

pub has_seen : (header : Header) (groups : List Group) (store : StoreState) (seen : List ℕ) (pending : Pending) → Holds header groups store seen pending → HasThese header groups seen
has_seen header groups store seen pending holds = has_closed header (bodies_of groups) store.log holds.rests.gate holds.rests.rest seen holds.rests.behind holds.rests.closed holds.rests.bytes

module _ (seen name : List ℕ) (pending : Pending) (opened : StoreState) (h : HoldsSome seen pending opened) where
  abbrev s : Store ℕ
  s = with_bytes seen opened.core

  abbrev full : Option Asked
  full = first_full opened.log.limit (group_asks opened.log.gate (1 + length name))

  makes : Makes 0 as_bytes h.header.format h.groups s
  makes = front_makes h.header h.groups opened.core seen (h.holds.rests.gate ∷ h.holds.rests.rest) h.holds.makes h.holds.rests.bytes

  abbrev stands_so : (image : List ℕ) → HasThese h.header h.groups image → StandsFor image s
  stands_so image here = record { header = h.header; groups = h.groups; has = here; makes = makes }

  abbrev stands : StandsFor seen s
  stands = stands_so seen (has_seen h.header h.groups opened seen pending h.holds)

  -- Where all is stable, nothing else is left.
  pub unchanged : pending ≡ settled seen → (image : List ℕ) → IsImage pending image → DropFault seen name s image
  unchanged stable image is = inl (subst (λ (l : List ℕ). StandsFor l s) (sym (only_settled seen image (subst (λ (p : Pending). IsImage p image) stable is))) stands)

  named_so : (there : Bool) → has_name name opened.core ≡ there → has_name name s ≡ there
  named_so there is = has_name-cells (byte_of seen) name (recelled_store (option_map (λ place. place.at)) opened.core) ∙ has_name-cells (option_map (λ place. place.at)) name opened.core ∙ is

  -- What is due.
  due_so : (due : Due) → drop_due opened.log.limit opened.log.gate name s ≡ due → IsDropDue seen name s due
  due_so due is = (
    stands,
    sym is ∙ ap (λ (n : ℕ). drop_due n opened.log.gate name s) h.holds.rests.behind.limit ∙ ap (λ (n : ℕ). drop_due (limit_of h.header) n name s) h.holds.rests.behind.place,
  )

  abbrev due_by : Bool → Due
  due_by b = if b then or_due (dues.first_full opened.log.limit (pieces_from opened.log.gate (9 ∷ (1 + length name) ∷ []))) (Ends DoneWhole) else dues.Missing name

  due_gone : has_name name opened.core ≡ false → drop_due opened.log.limit opened.log.gate name s ≡ dues.Missing name
  unfolding drop_due
  due_gone gone = ap due_by (named_so false gone)

  due_there : has_name name opened.core ≡ true → drop_due opened.log.limit opened.log.gate name s ≡ or_due (option_map (as_due opened.log.limit) full) (Ends DoneWhole)
  unfolding drop_due
  due_there there = ap due_by (named_so true there) ∙ ap (λ (o : Option Due). or_due o (Ends DoneWhole)) (same_full opened.log.limit (group_asks opened.log.gate (1 + length name)))

  due_done : has_name name opened.core ≡ true → full ≡ None → IsDropDue seen name s (Ends DoneWhole)
  due_done there fits = due_so (Ends DoneWhole) (due_there there ∙ ap (λ (o : Option Asked). or_due (option_map (as_due opened.log.limit) o) (Ends DoneWhole)) fits)

  -- What is left.
  abbrev next : Store ℕ
  next = filter (λ e. not (bytes_eq e.name name)) s

  leaves : has_name name opened.core ≡ true → (image : List ℕ) → HasThese h.header (h.groups ++ new_group (Drop name) ∷ []) image → DropLeaves (Ends DoneWhole) name s image
  unfolding made dropped
  leaves there image here =
      let gone : (if has_name name s then Some next else None) ≡ Some next = ap (λ (b : Bool). if b then Some next else None) (named_so true there) in (
        next,
        gone,
        record {
          header = h.header;
          groups = h.groups ++ new_group (Drop name) ∷ [];
          has = here;
          makes = makes_push 0 as_bytes h.header h.groups s next (new_group (Drop name)) opened.log.gate makes h.holds.rests.behind.place (new_is (Drop name) tt) gone;
        },
      )

  -- What a crash leaves: the store without the entry only where that is due.
  left_by : has_name name opened.core ≡ true → full ≡ None → (image : List ℕ) → HasOneMore h.header h.groups (new_group (Drop name)) image → DropFault seen name s image
  left_by there fits image (inl here) = inl (stands_so image here)
  left_by there fits image (inr here) = inr (due_done there fits, leaves there image here)

  pub drop_moments : {D : Type 0} {moment : D → ℕ} {left_since : D → ℕ → List ℕ → Type 0} {before after : D} → has_name name opened.core ≡ true
      → IfSome full (λ a. LeavesOnly moment left_since before after (HasThese h.header h.groups)) → LeavesOnly moment left_since before after (HasOneMore h.header h.groups (new_group (Drop name)))
      → LeavesOnly moment left_since before after (DropFault seen name s)
  drop_moments {D} {moment} {left_since} {before} {after} there no_room any = by_room full refl no_room
    where
      by_room : (o : Option Asked) → full ≡ o → IfSome o (λ a. LeavesOnly moment left_since before after (HasThese h.header h.groups)) → LeavesOnly moment left_since before after (DropFault seen name s)
      by_room None fits none = weakens any (λ image has. left_by there fits image has)
      by_room (Some a) is less = weakens less (λ image here. inl (stands_so image here))

  -- Behind the opening, which leaves what could be left before.
  pub left_behind : {D : Type 0} {moment : D → ℕ} {left_since : D → ℕ → List ℕ → Type 0} {first before after : D} (early : Pending) (old : List ℕ) → seen ≡ old
      → LeavesOnly moment left_since first before (IsImage early) → LeavesOnly moment left_since before after (DropFault seen name s) → LeavesOnly moment left_since first after (LeftByDrop early old name)
  left_behind {D} {moment} {left_since} {first} {before} {after} early old same opening run =
      subst (λ (l : List ℕ). LeavesOnly moment left_since first after (LeftByDrop early l name)) same
      (joins (weakens opening (λ image is. inl is)) (weakens run (λ image fault. inr (by_store seen s (λ t. DropFault seen name t image) (image ≡ seen) stands fault))))

  -- ---- the answers

  module _ (words : List (List ℕ)) (store at : ℕ) (asks : word_at words at ≡ name) (left : List ℕ) where
    asked_due : (due : Due) → IsDropDue seen name s due → IsDropDue seen (word_at words at) s due
    asked_due due is = subst (λ (n : List ℕ). IsDropDue seen n s due) (sym asks) is

    pub drop_done : has_name name opened.core ≡ true → full ≡ None → HasThese h.header (h.groups ++ new_group (Drop name) ∷ []) left → Answers (DropEntry store at) (at_entry words seen (unnamed [])) (OfAnyWord Done) [] left
    drop_done there fits here = (
      (s, stands, asked_due (Ends DoneWhole) (due_done there fits)),
      (refl, by_store seen s (λ t. DropLeaves (Ends DoneWhole) (word_at words at) t left) (left ≡ seen) stands (subst (λ (n : List ℕ). DropLeaves (Ends DoneWhole) n s left) (sym asks) (leaves there left here))),
    )

    pub drop_missing : has_name name opened.core ≡ false → left ≡ seen → Answers (DropEntry store at) (at_entry words seen (unnamed [])) (Missing name) [] left
    drop_missing gone same = (
      (s, stands, asked_due (dues.Missing name) (due_so (dues.Missing name) (due_gone gone))),
      (refl, by_store seen s (λ t. StandsFor left t) (left ≡ seen) stands (subst (λ (l : List ℕ). StandsFor l s) (sym same) stands)),
    )

    drop_full : (end wanted limit : ℕ) (a : Asked) → has_name name opened.core ≡ true → full ≡ Some a → log.LogFull end wanted limit ≡ log.LogFull a.place a.wanted opened.log.limit → HasThese h.header h.groups left
        → Answers (DropEntry store at) (at_entry words seen (unnamed [])) (LogFull end wanted limit) [] left
    drop_full end wanted limit a there is why here =
        let same : as_due opened.log.limit a ≡ dues.LogFull end wanted limit =
        ap (λ (p : LogStop). elim p as (λ x. Due) [ log.LogFull x y z ↦ dues.LogFull x y z | log.DiskFault ↦ dues.StoreThere 0 | log.NotStore group ↦ dues.StoreThere 0 | log.StoreThere size ↦ dues.StoreThere 0 ]) (sym why) in
        let due : drop_due opened.log.limit opened.log.gate name s ≡ dues.LogFull end wanted limit =
        due_there there ∙ ap (λ (o : Option Asked). or_due (option_map (as_due opened.log.limit) o) (Ends DoneWhole)) is ∙ same in (
          (s, stands, asked_due (dues.LogFull end wanted limit) (due_so (dues.LogFull end wanted limit) due)),
          (refl, by_store seen s (λ t. StandsFor left t) (left ≡ seen) stands (stands_so left here)),
        )

    -- Where it stops, by why: for a fault of the device by what a crash may leave.
    pub drop_stops : (cause : Type 0) (why : StoreStop) → has_name name opened.core ≡ true → IsNoRefusal why → IfLog {T = Unit {0}} (Err why) (IsStopOf cause opened.log.limit full) → (known : Pending) → IfShort {T = Unit {0}} (Err why) (Holds h.header h.groups opened left known)
        → DropFault seen name s left → Answers (DropEntry store at) (at_entry words seen (unnamed [])) (answer_of name [] (end_by why)) [] left
    drop_stops cause (stop.Refused refusal) there kind stops known held fault = absurd kind
    drop_stops cause stop.NoMemory there kind stops known held fault = (refl, by_store seen s (λ t. StandsFor left t) (left ≡ seen) stands (stands_so left (has_seen h.header h.groups opened left known held)))
    drop_stops cause (stop.Log log.DiskFault) there kind stops known held fault =
        (refl, by_store seen s (λ t. DropFault seen (word_at words at) t left) (left ≡ seen) stands (subst (λ (n : List ℕ). DropFault seen n s left) (sym asks) fault))
    drop_stops cause (stop.Log (log.LogFull end wanted limit)) there kind stops known held fault = by_room full refl stops
      where
        by_room : (o : Option Asked) → full ≡ o → IsStopOf cause opened.log.limit o (log.LogFull end wanted limit) → Answers (DropEntry store at) (at_entry words seen (unnamed [])) (LogFull end wanted limit) [] left
        by_room None is (inl fits) = absurd fits
        by_room None is (inr f) = absurd f
        by_room (Some a) is (inl why) = drop_full end wanted limit a there is why (has_seen h.header h.groups opened left known held)
        by_room (Some a) is (inr f) = absurd f
    drop_stops cause (stop.Log (log.NotStore group)) there kind stops known held fault = absurd (stop_by ⊥ cause opened.log.limit full (log.NotStore group) stops (λ a e. cc) (λ f. f))
    drop_stops cause (stop.Log (log.StoreThere size)) there kind stops known held fault = absurd (stop_by ⊥ cause opened.log.limit full (log.StoreThere size) stops (λ a e. cc) (λ f. f))
