-- The whole call: from the first spot, and in the words of its contract.
use Rattle.std.specs.Prelude.{◌≡◌, ℕ, List, [], ◌++◌, Option, None, Some, Result, Ok, Err}
use Rattle.std.specs.List.{filter, flat_map}
use Rattle.std.proofs.Common.{sym, ap, subst, ◌∙◌, append-nil}
use Rattle.sx_base.specs.declared.disk.Disk as keeping
use Rattle.sx_base.specs.Crash.{LeavesOnly}
use Rattle.sx_base.specs.Calls.{IfAllTold, Wrote}
use Rattle.sx_base.proofs.Ended.{stopped_steady}
use Rattle.sx_base.specs.declared.outcome.Outcome.TheVariants as ended
use Rattle.send_model.specs.Store.{Store}
use Rattle.send_model.specs.Receive.{byte_cells, start_of}
use Rattle.send_model.specs.Guards.{Guard, Watched}
use Rattle.send_model.specs.Due.{Limited, AtEnd, DoneWhole, limited_from, stop_due}
use Rattle.send_model.specs.Overridden.{Overrides, overridden_limited}
use Rattle.store_model.specs.Image.{Header}
use Rattle.store_model.specs.NamedFiles.{NamedFiles}
use Rattle.store_model.specs.Stored.{Group}
use Rattle.store_model.specs.States.{is_complete, complete_line, received, lines_behind}
use Rattle.store_model.specs.Dues.{Due, Ends, receive_from, left_from, or_due, receive_due, receive_left}
use Rattle.store_model.specs.Written.{Begun, groups_from, groups_of}
use Rattle.store_model.proofs.PassedStates.{IsOn, drop_start, start_closed}
use Rattle.store_model.proofs.WrittenGroups.{written_is_received}
use Rattle.auditor.specs.Following.{Followed, HaveSameShape, blank}
use Rattle.group_replay.specs.declared.place.Place.{Place}
use Rattle.store_journal.specs.Shown.{StoreState}
use Rattle.store_journal.specs.Holding.{HasThese, Holds}
use Rattle.receiver.specs.declared.outcome.Received.{Received}
use Rattle.receiver.specs.declared.outcome.Received.TheVariants as how
use Rattle.receiver.specs.Answers.{IsEnd}
use Rattle.receiver.specs.Disks.{shown, HasFront, work, RunsOn, LeavesOn, StopsOn}
use Rattle.receiver.specs.Running.{first_spot, IsAt, IsLineFront}
use Rattle.receiver.specs.ReceiveEnds.{LeavesMore, SteadyIfReceived}
use Rattle.receiver.proofs.Unpacked.{Keeps, Stops, IsLeft, AllTaken, AllEnds, ReceiveEnds, AreLeft}
use Rattle.receiver.proofs.TakenItems.{due_same}
use Rattle.receiver.proofs.DiskRuns.{leaves_then}
use Rattle.receiver.proofs.LeftGroups.{left_then, left_all}

pub at_first : (gate : ℕ) (base : Store ℕ) (guards : List Guard) (store : StoreState) → store.log.gate ≡ gate → HaveSameShape store.core base → IsAt (first_spot gate base guards) guards store None
at_first gate base guards store at same = record { seen = λ i. record { guards = guards; state = record { store = sym same i; part = None } }; place = sym at }

pub on_first : (base : Store ℕ) → IsOn base base None
on_first base = start_closed 0 byte_cells base

no_lines : (base : Store ℕ) → lines_behind base base ≡ []
unfolding lines_behind
no_lines base = ap (λ (l : Store ℕ). flat_map complete_line (filter is_complete l)) (drop_start base base [] (sym (append-nil base)))

-- What is read of files up to their limit, with names.
abbrev read_with : Overrides → List (List ℕ) → Limited
read_with names files = overridden_limited names (limited_from 1 files)

abbrev pub with_names : Overrides → List (List ℕ) → NamedFiles
with_names names files = record { bytes = files; overrides = names }

module _ (limit gate : ℕ) (base : Store ℕ) (guards : List Guard) (names : Overrides) where
  all_lines : (files : List (List ℕ)) (lines : List ℕ) (left : Store ℕ) → lines_behind base left ≡ lines_behind base base ++ lines → lines ≡ lines_behind base left
  all_lines files lines left is = sym (is ∙ ap (λ (l : List ℕ). l ++ lines) (no_lines base))

  front : (files : List (List ℕ)) (lines unwritten : List ℕ) → IsLineFront base (first_spot gate base guards) (read_with names files) lines unwritten
      → lines_behind base (received 0 byte_cells base guards (read_with names files).items).state.state.store ≡ lines ++ unwritten
  unfolding received
  front files lines unwritten f = f.all ∙ ap (λ (l : List ℕ). l ++ (lines ++ unwritten)) (no_lines base)

  ends_early : (why : Received) (files : List (List ℕ)) (lines : List ℕ) (core : Store (Option Place)) → Stops why limit base (first_spot gate base guards) (read_with names files) lines core → ReceiveEnds limit gate base guards (with_names names files) why core lines
  unfolding receive_due receive_left
  ends_early (how.Files (ended.Refused verdict)) files lines core s = ((s.0, all_lines files lines (left_from limit gate (record { guards = guards; state = start_of base }) (read_with names files).items) s.1), s.2)
  ends_early (how.Files (ended.InputTooLong file)) files lines core s = ((s.0, all_lines files lines (left_from limit gate (record { guards = guards; state = start_of base }) (read_with names files).items) s.1), s.2)
  ends_early (how.Files ended.InputFault) files lines core s = (s.0, front files lines s.0 s.1)
  ends_early (how.Files ended.NoMemory) files lines core s = (s.0, front files lines s.0 s.1)
  ends_early (how.Files ended.OutputFault) files lines core s = (s.0, front files lines s.0 s.1, s.2)
  ends_early (how.Files ended.Done) files lines core s = absurd s
  ends_early (how.Files (ended.TooMuch sum)) files lines core s = absurd s
  ends_early (how.Files (ended.InputChanged file place)) files lines core s = absurd s
  ends_early how.StoreFault files lines core s = (s.0, front files lines s.0 s.1)
  ends_early (how.LogFull end wanted most) files lines core s = (s.0, all_lines files lines (left_from limit gate (record { guards = guards; state = start_of base }) (read_with names files).items) s.1)

  ends_whole : (files : List (List ℕ)) (next_guards : List Guard) (store : StoreState) (old new : Option (List ℕ)) (K : List Group → Option Begun → Type 0) (t : AllTaken names limit base (first_spot gate base guards) next_guards store old new K files)
      → ReceiveEnds limit gate base guards (with_names names files) (how.Files ended.Done) store.core t.lines
  unfolding receive_due receive_left receive_from left_from
  ends_whole files next_guards store old new K t =
      let first : Watched _ = record { guards = guards; state = start_of base } in
      let due : receive_from limit gate first t.items ≡ None = ap (receive_from limit gate first) (sym (append-nil t.items)) ∙ t.leads.due [] in
      let left : left_from limit gate first t.items ≡ t.now.watched.state.store = ap (left_from limit gate first) (sym (append-nil t.items)) ∙ t.leads.left [] in
      let all_left : left_from limit gate first (read_with names files).items ≡ t.now.watched.state.store = ap (λ (l : Limited). left_from limit gate first l.items) t.read ∙ left in (
        (
          ap (λ (l : Limited). or_due (receive_from limit gate first l.items) (Ends (stop_due l.stop))) t.read ∙ ap (λ (o : Option Due). or_due o (Ends DoneWhole)) due,
          all_lines files t.lines t.now.watched.state.store t.leads.printed ∙ ap (lines_behind base) (sym all_left),
        ),
        sym (ap (λ (w : Followed). w.state.store) t.at.seen) ∙ ap blank (sym all_left),
      )

  -- The groups that are due are those that were written.
  whole_groups : (files : List (List ℕ)) (next_guards : List Guard) (store : StoreState) (old new : Option (List ℕ)) (K : List Group → Option Begun → Type 0) (t : AllTaken names limit base (first_spot gate base guards) next_guards store old new K files)
      → t.groups ≡ groups_of base guards (read_with names files).items
  unfolding groups_from
  whole_groups files next_guards store old new K t =
      let first : Watched _ = record { guards = guards; state = start_of base } in
      sym (ap (λ (l : Limited). groups_from first None l.items) t.read ∙ ap (groups_from first None) (sym (append-nil t.items)) ∙ t.leads.written [] ∙ append-nil t.groups)

  -- ---- what a disk that tells has

  first_left : (why : Received) (files : List (List ℕ)) (lines : List ℕ) (H : List Group → Type 0) → IsLeft why limit base (first_spot gate base guards) (read_with names files) lines H → AreLeft limit gate base guards (with_names names files) why lines H
  unfolding received receive_left
  first_left why files lines H s = record {
    first = groups_of base guards s.items;
    more = s.more;
    all = s.all;
    has = s.has;
    now = (received 0 byte_cells base guards s.items).state.state.store;
    made = λ place. written_is_received place base guards s.items;
    unwritten = s.unwritten;
    printed = s.printed ∙ ap (λ (l : List ℕ). l ++ (lines ++ s.unwritten)) (no_lines base);
    left = s.left;
    whole = s.whole;
  }

  module _ {D : Type 0} (ghosts : keeping.Ghosts D) (was now : D) (next_guards : List Guard) (before store : StoreState) (old new : Option (List ℕ)) where
    abbrev pub Says : List (List ℕ) → Received → List ℕ → Type 0
    Says files why written = ReceiveEnds limit gate base guards (with_names names files) why store.core written × LeavesMore ghosts.tells (shown ghosts was before) (shown ghosts now store) why (AreLeft limit gate base guards (with_names names files) why written)

    abbrev EndsAs : Result (Unit {0}) Received → List (List ℕ) → Type 0
    EndsAs r files = AllEnds names limit base (first_spot gate base guards) next_guards store old new (RunsOn ghosts (work was before None) (work now store None) None) (LeavesOn ghosts (work was before None) now None)
        (StopsOn ghosts (work was before None) (work now store None)) r files

    whole_left : (files : List (List ℕ)) (t : AllTaken names limit base (first_spot gate base guards) next_guards store old new (RunsOn ghosts (work was before None) (work now store None) None) files)
        → LeavesMore ghosts.tells (shown ghosts was before) (shown ghosts now store) (how.Files ended.Done) (AreLeft limit gate base guards (with_names names files) (how.Files ended.Done) t.lines)
    whole_left files t told header groups holds =
        let H : List Group → Type 0 = λ first. Holds header (groups ++ first) store (ghosts.seen now) (ghosts.pending now) in
        first_left (how.Files ended.Done) files t.lines H
        (subst (λ (l : Limited). IsLeft (how.Files ended.Done) limit base (first_spot gate base guards) l t.lines H) (sym t.read)
        (left_all ended.Done limit base (first_spot gate base guards) t.now t.items t.groups t.lines AtEnd H t.leads (t.disk told header groups holds).0))

    early_left : (why : Received) (files : List (List ℕ)) (lines : List ℕ) → StopsOn ghosts (work was before None) (work now store None) why (λ H. IsLeft why limit base (first_spot gate base guards) (read_with names files) lines H)
        → LeavesMore ghosts.tells (shown ghosts was before) (shown ghosts now store) why (AreLeft limit gate base guards (with_names names files) why lines)
    early_left why files lines stops told header groups holds =
        leaves_then why
        (λ w. first_left why files lines (λ first. Holds header (groups ++ first) store (ghosts.seen now) (ghosts.pending now))
        (left_then why limit base (first_spot gate base guards) (read_with names files) lines (λ first. (b : Option Begun) × Keeps header (groups ++ first) b None store (ghosts.seen now) (ghosts.pending now)) (λ first. Holds header (groups ++ first) store (ghosts.seen now) (ghosts.pending now))
        (λ first k. by_begun (groups ++ first) k.0 k.1) w))
        (λ each image is. first_left why files lines (λ first. HasThese header (groups ++ first) image) (each image is))
        (stops told header groups holds)
      where
        by_begun : (gs : List Group) (b : Option Begun) → Keeps header gs b None store (ghosts.seen now) (ghosts.pending now) → Holds header gs store (ghosts.seen now) (ghosts.pending now)
        by_begun gs None k = k
        by_begun gs (Some b) k = absurd k

    -- ---- of files that are told

    pub told_done : (told : Option (List (List ℕ × List ℕ))) (spelled : List (List ℕ)) (r : Result (Unit {0}) Received) (u : Unit {0}) → r ≡ Ok u
        → IfAllTold told spelled (EndsAs r) → IfAllTold told spelled (λ files. Wrote old new (Says files (how.Files ended.Done)))
    told_done None spelled r u is all = tt
    told_done (Some table) spelled r u is all =
        let t = subst (λ (x : Result (Unit {0}) Received). IfAllTold (Some table) spelled (EndsAs x)) is all in
        (t.lines, t.wrote, (ends_whole _ next_guards store old new (RunsOn ghosts (work was before None) (work now store None) None) t, whole_left _ t))

    pub told_ended : (told : Option (List (List ℕ × List ℕ))) (spelled : List (List ℕ)) (r : Result (Unit {0}) Received) (why : Received) → r ≡ Err why
        → IfAllTold told spelled (EndsAs r) → IfAllTold told spelled (λ files. Wrote old new (Says files why))
    told_ended None spelled r why is all = tt
    told_ended (Some table) spelled r why is all =
        let s = subst (λ (x : Result (Unit {0}) Received). IfAllTold (Some table) spelled (EndsAs x)) is all in
        (s.lines, s.wrote, (ends_early why _ s.lines store.core s.stops, early_left why _ s.lines s.disk))

    -- What a crash leaves.
    pub told_moments : (told : Option (List (List ℕ × List ℕ))) (spelled : List (List ℕ)) (r : Result (Unit {0}) Received)
        → ghosts.tells → (header : Header) (groups : List Group) → Holds header groups before (ghosts.seen was) (ghosts.pending was)
        → IfAllTold told spelled (EndsAs r) → IfAllTold told spelled (λ files. LeavesOnly ghosts.moment ghosts.left_since was now (HasFront header groups (groups_of base guards (read_with names files).items)))
    told_moments None spelled r told_too header groups holds all = tt
    told_moments (Some table) spelled (Ok u) told_too header groups holds all =
        due_same header groups all.groups (groups_of base guards _) (whole_groups _ next_guards store old new (RunsOn ghosts (work was before None) (work now store None) None) all) (all.disk told_too header groups holds).1
    told_moments (Some table) spelled (Err why) told_too header groups holds all = all.moments told_too header groups holds

pub early_steady : (before now : ℕ) (why : Received) → IsEnd why → SteadyIfReceived before now why
early_steady before now (how.Files outcome) stops = stopped_steady before now outcome stops
early_steady before now how.StoreFault stops = tt
early_steady before now (how.LogFull end wanted limit) stops = tt
