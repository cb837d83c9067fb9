-- What is due goes on by one turn.
use Rattle.std.specs.Prelude.{◌≡◌, ℕ, zero, suc, ◌+◌, ◌≤◌, Bool, true, false, not, ◌&&◌, List, [], ◌∷◌, ◌++◌, length, take, Option, None, Some, Ok, Err, if◌then◌else◌, slice_get, slice_set}
use Rattle.std.specs.Option.{option_map}
use Rattle.std.proofs.Common.{refl, sym, ap, subst, ◌∙◌, arith, append_assoc, append-nil, length-take}
use Rattle.std.proofs.lemmas.List.{take_all}
use Rattle.std.proofs.lemmas.Option.{slice_get-map}
use Rattle.sx_base.specs.Calls.{IfAllTold, contents}
use Rattle.sx_base.specs.Outside.{file_at}
use Rattle.cmd_reader.specs.Places.{IfTold}
use Rattle.sx_base.specs.declared.disk.Disk as keeping
use Rattle.sx_base.specs.Refusals.{verdict_meant}
use Rattle.sx_base.specs.declared.outcome.Outcome.TheVariants as ended
use Rattle.sx_base.specs.declared.outcome.Verdict.{Verdict}
use Rattle.send_model.specs.Lengths.{limit, only_ends, is_too_long}
use Rattle.send_model.specs.Reading.{Item, Reading, Faulty, reads}
use Rattle.send_model.specs.Receive.{first_of}
use Rattle.send_model.specs.Refusal.{Refusal}
use Rattle.send_model.specs.Store.{Store}
use Rattle.send_model.specs.Guards.{Guard, guarded}
use Rattle.send_model.specs.Due as files_due
use Rattle.send_model.proofs.TooLong.{short_fits, fault_fits, long_is}
use Rattle.store_model.specs.Stored.{made_all}
use Rattle.store_model.specs.Dues as dues
use Rattle.store_model.specs.Dues.{Ends}
use Rattle.store_model.specs.Turns as meant
use Rattle.store_model.specs.Turns.{Event, Turn, Turns, after_turn, one_turn, after_turns, session_turn, lines_of, turn_groups, completed_parts}
use Rattle.store_model.proofs.TurnOrder.{held_of, turn_kept}
use Rattle.store_model.specs.TurnDues.{bytes_read, which_long, is_long, is_empty, at_limit, Fitting, fitting, gate_after, room_of, TurnsEnd, turn_events, turns_end}
use Rattle.store_model.proofs.TurnEnds.{turn_adds, end_goes, end_full, end_long}
use Rattle.store_model.proofs.TurnOvers.{turn_at, events_at, over_does, going_does}
use Rattle.cmd_reader.specs.Left.{Reader, left}
use Rattle.cmd_reader.specs.Next.{GoesOn}
use Rattle.auditor.specs.Following.{blank}
use Rattle.store_journal.specs.Shown.{StoreState}
use Rattle.receiver.specs.declared.outcome.Received.{Received}
use Rattle.receiver.specs.Answers.{IsEnd}
use Rattle.receiver.specs.declared.outcome.Received.TheVariants as how
use Rattle.turn_sessions.specs.declared.session.Session.{Session}
use Rattle.turn_sessions.specs.Standing.{Blank, blank_cells, blank_put, IsSession, AreSessions, AreHeld}
use Rattle.turn_sessions.specs.Doing.{StopReason}
use Rattle.turn_sessions.specs.Reading.{Next, Command, AtEnd, AtFault, AtLimit, Nothing, WasLeft, HasNext}
use Rattle.turn_sessions.specs.Turning.{ReadsNext, IsCommand, StopsAt, IfTooLong}
use Rattle.turn_sessions.specs.Going.{AreReading, HasRead, HasLeft, HaveLeft, DueIs}
use Rattle.turn_sessions.proofs.Unpacked.{HasDone, HasStopped, IsTurn, TakesTurn, IsGoing, HasEnded}
use Rattle.turn_sessions.proofs.Doings.{done_done, Stops, done_stopped_is, stopped_first_is}
use Rattle.turn_sessions.proofs.OneTurn.{turn_is, look_turn}
use Rattle.turn_sessions.proofs.Sessions.{session_at, sessions_with, reading_at, left_at, left_with}
use Rattle.turn_sessions.proofs.Turnings.{session_held}

-- ---- what was left of a file

module _ (number : ℕ) (file : List ℕ) where
  take_twice : take limit (take limit file) ≡ take limit file
  take_twice = take_all limit (take limit file) (omega (arith, length-take limit file))

  pub seen_read : take limit (bytes_read number file) ≡ take limit file
  seen_read = one (is_too_long number file)
    where
      one : (b : Bool) → take limit (if b then take limit file else file) ≡ take limit file
      one true = take_twice
      one false = refl

  module _ (old new : Reader) (item : Item) where
    read_on : (bytes : List ℕ) → HasRead number old bytes → GoesOn old new item bytes → HasRead number new bytes
    read_on bytes h g = record {
      done = h.done ++ item ∷ [];
      read = h.read ∙ (λ i. record { items = h.done ++ (g.left_is i).items; end = (g.left_is i).end })
          ∙ ap (λ (l : List Item). record { items = l; end = (left new bytes).end }) (sym (append_assoc h.done (item ∷ []) (left new bytes).items));
      reached = g.reached h.reached;
    }

    pub command_left : (s y : meant.Session Blank) → HasLeft number file s old → ((bytes : List ℕ) → take limit bytes ≡ take limit file → GoesOn old new item bytes)
        → y.items ≡ (left new (bytes_read number file)).items → y.end ≡ s.end → HasLeft number file y new
    command_left s y x tell items end = record {
      items = items;
      end = end ∙ x.end ∙ ap (λ (r : Reading). r.end) (tell (bytes_read number file) seen_read).left_is;
      whole = read_on file x.whole (tell file refl);
      front = read_on (take limit file) x.front (tell (take limit file) take_twice);
    }

-- What a session has next, and whether its file is too long there.
pub record IsNextOf (number : ℕ) (file : List ℕ) (s : meant.Session Blank) (old new : Reader) (next : Next) : Type 0 where
  pub has : HasNext s next
  pub limited : (next ≡ AtLimit → ⊥) → (is_too_long number file && is_empty s.items) ≡ false
  pub long : next ≡ AtLimit → (is_too_long number file ≡ true) × (s.items ≡ [])

no_limit : (b : Bool) → (b && false) ≡ false
no_limit true = refl
no_limit false = refl

pub next_of : (number : ℕ) (file : List ℕ) (s : meant.Session Blank) (old new : Reader) (next : Next) → HasLeft number file s old → ((bytes : List ℕ) → take limit bytes ≡ take limit file → WasLeft old new next bytes) → (next ≡ Nothing → ⊥)
    → IsNextOf number file s old new next
next_of number file s old new (Command item) x tell some =
    let g = tell (bytes_read number file) (seen_read number file) in
    let items : s.items ≡ item ∷ (left new (bytes_read number file)).items = x.items ∙ ap (λ (r : Reading). r.items) g.left_is in
    record {
      has = ((left new (bytes_read number file)).items, items);
      limited = λ n. ap (λ (l : List Item). is_too_long number file && is_empty l) items ∙ no_limit (is_too_long number file);
      long = λ e. cc;
    }
next_of number file s old new AtEnd x tell some =
    let g = tell (bytes_read number file) (seen_read number file) in
    record {
      has = (x.items ∙ ap (λ (r : Reading). r.items) g.0, x.end ∙ ap (λ (r : Reading). r.end) g.0);
      limited = λ n. ap (λ (b : Bool). b && is_empty s.items) (short_fits number file (tell file refl).1);
      long = λ e. cc;
    }
next_of number file s old new (AtFault verdict) x tell some =
    let g = tell (bytes_read number file) (seen_read number file) in
    let f = tell (take limit file) (take_twice number file) in
    let ends : (reads number (take limit file)).end ≡ Faulty verdict = ap (λ (r : Reading). r.end) x.front.read ∙ ap (λ (r : Reading). r.end) f.0 in
    record {
      has = (x.items ∙ ap (λ (r : Reading). r.items) g.0, x.end ∙ ap (λ (r : Reading). r.end) g.0);
      limited = λ n. ap (λ (b : Bool). b && is_empty s.items) (fault_fits number file verdict (tell file refl).1 ends);
      long = λ e. cc;
    }
next_of number file s old new AtLimit x tell some =
    let l = tell file refl x.whole.reached in
    let ends : (reads number (take limit file)).end ≡ (left old (take limit file)).end = ap (λ (r : Reading). r.end) x.front.read in
    let long = long_is number file l.0 (ap only_ends ends ∙ l.1.1) in
    record {
      has = tt;
      limited = λ n. absurd (n refl);
      long = λ e. (long, x.items ∙ ap (λ (b : Bool). (left old (if b then take limit file else file)).items) long ∙ l.1.0);
    }
next_of number file s old new Nothing x tell some = absurd (some refl)

-- ---- what a turn leaves to read

pub no_both : (b : Bool) → b ≡ true → b ≡ false → ⊥
no_both b t f = apart (sym t ∙ f)
  where
    apart : true ≡ false → ⊥
    apart q = cc

module _ (store : Store Blank) (s : meant.Session Blank) where
  pub turn_items : (item : Item) (items : List Item) → s.is_over ≡ false → s.items ≡ item ∷ items → ((session_turn tt blank_cells store s).session.items ≡ items) × ((session_turn tt blank_cells store s).session.end ≡ s.end)
  turn_items item items going is = one (guarded s.guards item.command) (turn_is store s item items is going)
    where
      one : (o : Option Refusal) → session_turn tt blank_cells store s ≡ look_turn store s item items o → ((session_turn tt blank_cells store s).session.items ≡ items) × ((session_turn tt blank_cells store s).session.end ≡ s.end)
      one None e = (ap (λ t. t.session.items) e, ap (λ t. t.session.end) e)
      one (Some refusal) e = (ap (λ t. t.session.items) e, ap (λ t. t.session.end) e)

  pub turn_shorter : length (session_turn tt blank_cells store s).session.items ≤ length s.items
  turn_shorter = by_over s.is_over refl
    where
      by_items : (l : List Item) → s.items ≡ l → s.is_over ≡ false → length (session_turn tt blank_cells store s).session.items ≤ length s.items
      by_items [] e going =
          let t = going_does tt blank_cells store s going ∙ ap (meant.next_turn tt blank_cells store s) e in
          omega (arith, ap (λ x. length x.session.items) t)
      by_items (item ∷ items) e going = let t = turn_items item items going e in omega (arith, ap length t.0, ap length e)

      by_over : (b : Bool) → s.is_over ≡ b → length (session_turn tt blank_cells store s).session.items ≤ length s.items
      by_over true e = omega (arith, ap (λ x. length x.session.items) (over_does tt blank_cells store s e))
      by_over false e = by_items s.items refl e

  -- One that goes on has one item less.
  pub turn_less : s.is_over ≡ false → (session_turn tt blank_cells store s).session.is_over ≡ false → suc (length (session_turn tt blank_cells store s).session.items) ≡ length s.items
  turn_less going still = by_items s.items refl
    where
      by_items : (l : List Item) → s.items ≡ l → suc (length (session_turn tt blank_cells store s).session.items) ≡ length s.items
      by_items [] e = absurd (no_both true refl (ap (λ t. t.session.is_over) (sym (going_does tt blank_cells store s going ∙ ap (meant.next_turn tt blank_cells store s) e)) ∙ still))
      by_items (item ∷ items) e = ap (λ (l : List Item). suc (length l)) (turn_items item items going e).0 ∙ ap length (sym e)

  pub none_done : s.is_over ≡ false → s.items ≡ [] → (session_turn tt blank_cells store s).events ≡ []
  none_done going none = ap (λ t. t.events) (going_does tt blank_cells store s going ∙ ap (meant.next_turn tt blank_cells store s) none)

-- ---- whether a turn comes to a limit

pub long_at : (number : ℕ) (files : List (List ℕ)) (n : ℕ) (file : List ℕ) → slice_get files n ≡ Some file → slice_get (which_long number files) n ≡ Some (is_too_long (number + n) file)
unfolding which_long
long_at number [] n file e = cc
long_at number (f ∷ files) zero file e =
    let same : number ≡ number + 0 = omega arith in
    ap (λ (x : List ℕ). Some (is_too_long number x)) (inside e) ∙ ap (λ (k : ℕ). Some (is_too_long k file)) same
  where
    inside : {A : Type 0} {x y : A} → Some x ≡ Some y → x ≡ y
    inside q = cc
long_at number (f ∷ files) (suc n) file e =
    let same : number + 1 + n ≡ number + suc n = omega arith in
    long_at (number + 1) files n file e ∙ ap (λ (k : ℕ). Some (is_too_long k file)) same

pub limit_is : (long : List Bool) (w : Turns Blank) (n : ℕ) (s : meant.Session Blank) (b : Bool) → slice_get w.sessions n ≡ Some s → slice_get long n ≡ Some b → at_limit long w n ≡ (b && (not s.is_over && is_empty s.items))
limit_is long w n s b at is =
    ap (λ (o : Option (meant.Session Blank)). elim o as (λ x. Bool) [ None ↦ false | Some y ↦ is_long (slice_get long n) && (not y.is_over && is_empty y.items) ]) at
    ∙ ap (λ (o : Option Bool). is_long o && (not s.is_over && is_empty s.items)) is

-- ---- what turns add

adds : (turns : List ℕ) (w : Turns Blank) → (more : List Event) × ((after_turns tt blank_cells w turns).events ≡ w.events ++ more)
unfolding after_turns
adds [] w = ([], sym (append-nil w.events))
adds (n ∷ turns) w =
    let r = adds turns (one_turn tt blank_cells w n) in
    (turn_events tt blank_cells w n ++ r.0, r.1 ∙ ap (λ (l : List Event). l ++ r.0) (turn_adds tt blank_cells w n) ∙ append_assoc w.events (turn_events tt blank_cells w n) r.0)

front_none : (a b : List Event) → [] ≡ a ++ b → a ≡ []
front_none [] b e = refl
front_none (x ∷ a) b e = cc

behind_none : (a b : List ℕ) → [] ≡ a ++ b → b ≡ []
behind_none [] b e = sym e
behind_none (x ∷ a) b e = cc

same_some : {A : Type 0} {x y : A} → Some x ≡ Some y → x ≡ y
same_some q = cc

ok_no_limit : (next : Next) (over : Bool) → ReadsNext next over → next ≡ AtLimit → ⊥
ok_no_limit (Command item) over r e = cc
ok_no_limit AtEnd over r e = cc
ok_no_limit (AtFault v) over r e = cc
ok_no_limit AtLimit over r e = r
ok_no_limit Nothing over r e = cc

ok_some : (next : Next) (over : Bool) → ReadsNext next over → over ≡ false → next ≡ Nothing → ⊥
ok_some (Command item) over r f e = cc
ok_some AtEnd over r f e = cc
ok_some (AtFault v) over r f e = cc
ok_some AtLimit over r f e = cc
ok_some Nothing over r f e = no_both over r f

command_no_limit : (next : Next) → IsCommand next → next ≡ AtLimit → ⊥
command_no_limit (Command item) c e = cc
command_no_limit AtEnd c e = c
command_no_limit (AtFault v) c e = c
command_no_limit AtLimit c e = c
command_no_limit Nothing c e = c

command_some : (next : Next) → IsCommand next → next ≡ Nothing → ⊥
command_some (Command item) c e = cc
command_some AtEnd c e = c
command_some (AtFault v) c e = c
command_some AtLimit c e = c
command_some Nothing c e = c

-- A turn that stops has not done all.
pub stop_is_end : {G : Type 0} (why : Received) (next : Next) (before : Session G) → StopsAt why next before → IsEnd why
stop_is_end (how.Files (ended.InputTooLong file)) next before s = tt
stop_is_end (how.Files ended.InputFault) next before s = tt
stop_is_end (how.Files ended.OutputFault) next before s = tt
stop_is_end (how.Files ended.NoMemory) next before s = tt
stop_is_end (how.Files ended.Done) next before s = s
stop_is_end (how.Files (ended.Refused verdict)) next before s = absurd s
stop_is_end (how.Files (ended.TooMuch sum)) next before s = absurd s
stop_is_end (how.Files (ended.InputChanged file place)) next before s = absurd s
stop_is_end how.StoreFault next before s = tt
stop_is_end (how.LogFull end wanted most) next before s = tt

module _ {D : Type 0} (ghosts : keeping.Ghosts D)
    (start old new : D) (store0 was now : StoreState) (begun out next_out : Option (List ℕ)) {G : Type 0} (kept : G → List Guard) (files : List (List ℕ)) (w : Turns Blank) (end : TurnsEnd) (last : Turns Blank) (n : ℕ) (rest : List ℕ) (refused : Option Verdict)
    (sessions : List (Session G)) (session after : Session G) (at : slice_get sessions n ≡ Some session)
    (x : IsGoing ghosts start old store0 was begun out kept files w end last (n ∷ rest) refused sessions) (told : Option (List (List ℕ × List ℕ)))
    (file : List ℕ) (file_there : slice_get files n ≡ Some file) where
  a : (s : meant.Session Blank) × (slice_get w.sessions n ≡ Some s) × IsSession kept s session
  a = session_at kept w.sessions sessions n session x.taking.sessions_are at

  abbrev t : Turn Blank
  t = session_turn tt blank_cells (blank was.core) a.0

  left_here : session.is_over ≡ false → HasLeft (1 + n) file a.0 session.reader
  left_here going =
      let l = left_at 1 files w.sessions sessions n session x.have_left at in
      subst (λ (f : List ℕ). HasLeft (1 + n) f a.0 session.reader) (same_some (sym l.there ∙ file_there))
      (subst (λ (y : meant.Session Blank). HasLeft (1 + n) l.file y session.reader) (same_some (sym l.is ∙ a.1)) (l.left_is going))

  hold : AreHeld (blank was.core) (held_of a.0)
  hold = session_held kept sessions n session at (blank was.core) w x.taking a.0 a.1

  limit_at : at_limit (which_long 1 files) w n ≡ (is_too_long (1 + n) file && (not a.0.is_over && is_empty a.0.items))
  limit_at = limit_is (which_long 1 files) w n a.0 (is_too_long (1 + n) file) a.1 (long_at 1 files n file file_there)

  limit_off : (session.is_over ≡ false → (is_too_long (1 + n) file && is_empty a.0.items) ≡ false) → at_limit (which_long 1 files) w n ≡ false
  limit_off f = limit_at ∙ one a.0.is_over refl
    where
      one : (b : Bool) → a.0.is_over ≡ b → (is_too_long (1 + n) file && (not b && is_empty a.0.items)) ≡ false
      one true e = no_limit (is_too_long (1 + n) file)
      one false e = f (sym a.2.over ∙ e)

  turned : one_turn tt blank_cells w n ≡ after_turn w n (session_turn tt blank_cells w.store a.0)
  turned = turn_at tt blank_cells w n a.0 a.1

  same_turn : session_turn tt blank_cells w.store a.0 ≡ t
  same_turn = ap (λ (k : Store Blank). session_turn tt blank_cells k a.0) (sym x.taking.store_is)

  events_here : turn_events tt blank_cells w n ≡ t.events
  events_here = events_at tt blank_cells w n a.0 a.1 ∙ ap (λ (y : Turn Blank). y.events) same_turn

  -- ---- where the turn is taken

  after_left : (next : Next) → ReadsNext next session.is_over → ((bytes : List ℕ) → take limit bytes ≡ take limit file → WasLeft session.reader after.reader next bytes) → (session.is_over ≡ false → HasNext a.0 next) → t.session.is_over ≡ after.is_over
      → after.is_over ≡ false → HasLeft (1 + n) file t.session after.reader
  after_left (Command item) going tell has over still =
      let s_going : a.0.is_over ≡ false = a.2.over ∙ going in
      let items = (left_here going).items ∙ ap (λ (r : Reading). r.items) (tell (bytes_read (1 + n) file) (seen_read (1 + n) file)).left_is in
      let ti = turn_items (blank was.core) a.0 item (left after.reader (bytes_read (1 + n) file)).items s_going items in
      command_left (1 + n) file session.reader after.reader item a.0 t.session (left_here going) tell ti.0 ti.1
  after_left AtEnd going tell has over still =
      let g = going_does tt blank_cells (blank was.core) a.0 (a.2.over ∙ going) ∙ ap (meant.next_turn tt blank_cells (blank was.core) a.0) (has going).0 in
      absurd (no_both after.is_over (sym over ∙ ap (λ (y : Turn Blank). y.session.is_over) g) still)
  after_left (AtFault v) going tell has over still =
      let g = going_does tt blank_cells (blank was.core) a.0 (a.2.over ∙ going) ∙ ap (meant.next_turn tt blank_cells (blank was.core) a.0) (has going).0 in
      absurd (no_both after.is_over (sym over ∙ ap (λ (y : Turn Blank). y.session.is_over) g) still)
  after_left AtLimit going tell has over still = absurd going
  after_left Nothing is_over tell has over still =
      let g = over_does tt blank_cells (blank was.core) a.0 (a.2.over ∙ is_over) in
      absurd (no_both after.is_over (sym over ∙ ap (λ (y : Turn Blank). y.session.is_over) g ∙ a.2.over ∙ is_over) still)

  pub going_on : (now_refused all_refused : Option Verdict) (takes : TakesTurn ghosts old new was now out next_out kept told session after (Ok now_refused))
      → ((bytes : List ℕ) → take limit bytes ≡ take limit file → WasLeft session.reader after.reader takes.next bytes)
      → option_map verdict_meant all_refused ≡ first_of (option_map verdict_meant refused) (option_map verdict_meant now_refused)
      → IsGoing ghosts start new store0 now begun next_out kept files (one_turn tt blank_cells w n) end last rest all_refused (slice_set sessions n after)
  unfolding after_turns
  going_on now_refused all_refused takes tell firsts =
      let facts : session.is_over ≡ false → IsNextOf (1 + n) file a.0 session.reader after.reader takes.next = λ going. next_of (1 + n) file a.0 session.reader after.reader takes.next (left_here going) tell (ok_some takes.next session.is_over takes.reads going) in
      let turn : IsTurn ghosts old new was now out next_out kept t after now_refused = takes.says a.0 a.2 hold (λ g. (facts (sym a.2.over ∙ g)).has) in
      let off = limit_off (λ going. (facts going).limited (ok_no_limit takes.next session.is_over takes.reads)) in
      let room : (fitting store0.log.limit was.log.gate (turn_events tt blank_cells w n)).full ≡ None = (λ i. (fitting (sym x.done.limit i) was.log.gate (events_here i)).full) ∙ turn.done.room in
      let gate : gate_after was.log.gate (turn_events tt blank_cells w n) ≡ now.log.gate = ap (gate_after was.log.gate) events_here ∙ sym turn.done.gate in
      let both : one_turn tt blank_cells w n ≡ after_turn w n t = turned ∙ ap (after_turn w n) same_turn in
      record {
        taking = record {
          store_is = turn.store ∙ sym (ap (λ (y : Turns Blank). y.store) both);
          sessions_are = subst (λ (l : List (meant.Session Blank)). AreSessions kept l (slice_set sessions n after)) (sym (ap (λ (y : Turns Blank). y.sessions) both)) (sessions_with kept w.sessions sessions n t.session after x.taking.sessions_are turn.session_is);
          base = x.taking.base;
          kept_are = turn_kept tt blank_cells x.taking.base w n x.taking.kept_are;
        };
        from = x.from;
        refused_is = ap (λ (y : Turns Blank). y.refused) both ∙ (λ i. first_of (x.refused_is i) (turn.refused_is i)) ∙ sym firsts;
        have_left = subst (λ (l : List (meant.Session Blank)). HaveLeft 1 files l (slice_set sessions n after)) (sym (ap (λ (y : Turns Blank). y.sessions) both))
            (left_with 1 files w.sessions sessions n file t.session after x.have_left file_there (after_left takes.next takes.reads tell (λ going. (facts going).has) turn.session_is.over));
        ends = x.ends ∙ end_goes tt blank_cells store0.log.limit (which_long 1 files) was.log.gate w n rest off room ∙ ap (λ (g : ℕ). turns_end tt blank_cells (room_of store0.log.limit g) (which_long 1 files) (one_turn tt blank_cells w n) rest) gate;
        runs = x.runs;
        done = subst (λ (l : List Event). HasDone ghosts start new store0 now begun next_out l) (sym (ap (λ (y : Turns Blank). y.events) both))
            (done_done ghosts start old new store0 was now begun out next_out w.events t.events x.done turn.done);
      }

  -- ---- where all turns stop

  has_at : (next : Next) → (session.is_over ≡ false → (next ≡ Nothing → ⊥) → HasNext a.0 next) → session.is_over ≡ false → HasNext a.0 next
  has_at (Command item) f going = f going (λ e. cc)
  has_at AtEnd f going = f going (λ e. cc)
  has_at (AtFault v) f going = f going (λ e. cc)
  has_at AtLimit f going = tt
  has_at Nothing f going = tt

  module _ (why : Received) (takes : TakesTurn ghosts old new was now out next_out kept told session after (Err why)) (tell : (bytes : List ℕ) → take limit bytes ≡ take limit file → WasLeft session.reader after.reader takes.next bytes)
      (number : session.file ≡ 1 + n) (still : IfTooLong why (now ≡ was)) where
    facts_at : session.is_over ≡ false → (takes.next ≡ Nothing → ⊥) → IsNextOf (1 + n) file a.0 session.reader after.reader takes.next
    facts_at going some = next_of (1 + n) file a.0 session.reader after.reader takes.next (left_here going) tell some

    y : HasStopped ghosts old new was now out next_out why t.events
    y = takes.says a.0 a.2 hold (λ g. has_at takes.next (λ going some. (facts_at going some).has) (sym a.2.over ∙ g))

    due_at : (z : Received) → StopsAt z takes.next session → StopReason z was.log.limit was.log.gate t.events y.done y.unwritten → DueIs z end (w.events ++ y.done) y.unwritten
    unfolding lines_of completed_parts
    due_at (how.Files (ended.InputTooLong f)) s r =
        let facts = facts_at s.2 (λ e. limit_some (sym s.0 ∙ e)) in
        let l = facts.long s.0 in
        let on : at_limit (which_long 1 files) w n ≡ true = limit_at ∙ (λ i. l.0 i && (not ((a.2.over ∙ s.2) i) && is_empty (l.1 i))) in
        let none : y.done ≡ [] = front_none y.done y.more (sym (none_done (blank was.core) a.0 (a.2.over ∙ s.2) l.1) ∙ y.all) in
        let file_is : n + 1 ≡ f = omega (arith, s.1, number) in (
          x.ends ∙ end_long tt blank_cells store0.log.limit (which_long 1 files) was.log.gate w n rest on ∙ (λ i. record { due = Ends (files_due.TooLong (file_is i)); events = (sym (append-nil w.events) ∙ ap (λ (k : List Event). w.events ++ k) (sym none)) i }),
          behind_none y.lines y.unwritten (sym (ap lines_of none) ∙ y.printed),
        )
      where
        limit_some : AtLimit ≡ Nothing → ⊥
        limit_some q = cc
    due_at (how.LogFull place wanted most) s r =
        let facts = facts_at s.1 (command_some takes.next s.0) in
        let off = limit_off (λ going. facts.limited (command_no_limit takes.next s.0)) in
        let fit : fitting store0.log.limit was.log.gate (turn_events tt blank_cells w n) ≡ record { events = y.done; full = Some (dues.LogFull place wanted most) } = (λ i. fitting (sym x.done.limit i) was.log.gate (events_here i)) ∙ r.1 in (
          x.ends ∙ end_full tt blank_cells store0.log.limit (which_long 1 files) was.log.gate w n rest (dues.LogFull place wanted most) off (ap (λ (f : Fitting). f.full) fit) ∙ (λ i. record { due = dues.LogFull place wanted most; events = w.events ++ (fit i).events }),
          r.0,
        )
    due_at (how.Files ended.InputFault) s r = tt
    due_at (how.Files ended.OutputFault) s r = tt
    due_at (how.Files ended.NoMemory) s r = tt
    due_at (how.Files ended.Done) s r = s
    due_at (how.Files (ended.Refused verdict)) s r = s
    due_at (how.Files (ended.TooMuch sum)) s r = s
    due_at (how.Files (ended.InputChanged f place)) s r = s
    due_at how.StoreFault s r = tt

    -- At a limit the store is what the events before it made.
    made_at : (z : Received) → StopsAt z takes.next session → IfTooLong z (now ≡ was) → IfTooLong z (made_all tt blank_put 0 (blank store0.core) (turn_groups (w.events ++ y.done)) ≡ Some (blank now.core))
    made_at (how.Files (ended.InputTooLong f)) s e =
        let l = (facts_at s.2 (λ e. limit_some (sym s.0 ∙ e))).long s.0 in
        let none : y.done ≡ [] = front_none y.done y.more (sym (none_done (blank was.core) a.0 (a.2.over ∙ s.2) l.1) ∙ y.all) in
        (λ i. made_all tt blank_put 0 (sym x.from i) (turn_groups ((ap (λ (k : List Event). w.events ++ k) none ∙ append-nil w.events) i)))
        ∙ x.taking.kept_are.1.groups blank_put (λ place item. refl) 0
        ∙ ap (λ (k : Store Blank). Some k) (sym x.taking.store_is ∙ ap (λ (k : StoreState). blank k.core) (sym e))
      where
        limit_some : AtLimit ≡ Nothing → ⊥
        limit_some q = cc
    made_at (how.Files ended.InputFault) s e = tt
    made_at (how.Files ended.OutputFault) s e = tt
    made_at (how.Files ended.NoMemory) s e = tt
    made_at (how.Files ended.Done) s e = tt
    made_at (how.Files (ended.Refused verdict)) s e = tt
    made_at (how.Files (ended.TooMuch sum)) s e = tt
    made_at (how.Files (ended.InputChanged f place)) s e = tt
    made_at how.StoreFault s e = tt
    made_at (how.LogFull place wanted most) s e = tt

    pub going_stopped : HasEnded ghosts start new store0 now begun next_out why end last
    unfolding after_turns
    going_stopped =
        let more = adds rest (one_turn tt blank_cells w n) in
        let all : (w.events ++ t.events) ++ more.0 ≡ last.events = ap (λ (l : List Event). l ++ more.0) (sym (ap (λ (v : Turns Blank). v.events) (turned ∙ ap (after_turn w n) same_turn))) ∙ sym more.1 ∙ sym (ap (λ (v : Turns Blank). v.events) x.runs) in
        let z = subst (λ (l : List Event). Stops ghosts start new store0 now begun next_out why l (w.events ++ y.done) y.unwritten) all
        (stopped_first_is ghosts start new store0 now begun next_out why (w.events ++ t.events) more.0 (w.events ++ y.done) y.unwritten
        (done_stopped_is ghosts start old new store0 was now begun out next_out why w.events t.events x.done y)) in
        record {
          stopped = z.0;
          due = subst (λ (k : List Event). DueIs why end k z.0.unwritten) (sym z.1)
              (subst (λ (u : List ℕ). DueIs why end (w.events ++ y.done) u) (sym z.2) (due_at why takes.reads y.reason));
          made = subst (λ (k : List Event). IfTooLong why (made_all tt blank_put 0 (blank store0.core) (turn_groups k) ≡ Some (blank now.core))) (sym z.1) (made_at why takes.reads still);
        }

-- ---- whether or not the inputs tell

module _ {D : Type 0} (ghosts : keeping.Ghosts D)
    (start old new : D) (store0 was now : StoreState) (begun out next_out : Option (List ℕ)) {G : Type 0} (kept : G → List Guard) (w : Turns Blank) (end : TurnsEnd) (last : Turns Blank) (n : ℕ) (rest : List ℕ) (refused : Option Verdict)
    (sessions : List (Session G)) (session after : Session G) (at : slice_get sessions n ≡ Some session) (names : List (List ℕ)) where
  abbrev pub Before : List (List ℕ) → Type 0
  Before files = IsGoing ghosts start old store0 was begun out kept files w end last (n ∷ rest) refused sessions

  tell_at : (table : List (List ℕ × List ℕ)) (name : List ℕ) (next : Next) → session.reader.name ≡ name → IfTold (Some table) session.reader.name (WasLeft session.reader after.reader next)
      → (bytes : List ℕ) → take limit bytes ≡ take limit (file_at table name) → WasLeft session.reader after.reader next bytes
  tell_at table name next named told bytes e = told bytes (e ∙ ap (λ (l : List ℕ). take limit (file_at table l)) (sym named))

  pub told_ok : (told : Option (List (List ℕ × List ℕ))) (now_refused all_refused : Option Verdict) → AreReading told 1 names sessions → TakesTurn ghosts old new was now out next_out kept told session after (Ok now_refused)
      → option_map verdict_meant all_refused ≡ first_of (option_map verdict_meant refused) (option_map verdict_meant now_refused)
      → IfAllTold told names (λ files. Before files → IsGoing ghosts start new store0 now begun next_out kept files (one_turn tt blank_cells w n) end last rest all_refused (slice_set sessions n after))
  told_ok None now_refused all_refused are takes firsts = tt
  told_ok (Some table) now_refused all_refused are takes firsts = λ x.
      let f = reading_at (Some table) 1 names sessions n session are at in
      going_on ghosts start old new store0 was now begun out next_out kept (contents table names) w end last n rest refused sessions session after at x (Some table) (file_at table f.name) (slice_get-map (file_at table) names n ∙ ap (option_map (file_at table)) f.there)
      now_refused all_refused takes (tell_at table f.name takes.next f.reading.named takes.read) firsts

  pub told_err : (told : Option (List (List ℕ × List ℕ))) (why : Received) → AreReading told 1 names sessions → TakesTurn ghosts old new was now out next_out kept told session after (Err why) → IfTooLong why (now ≡ was)
      → IfAllTold told names (λ files. Before files → HasEnded ghosts start new store0 now begun next_out why end last)
  told_err None why are takes still = tt
  told_err (Some table) why are takes still = λ x.
      let f = reading_at (Some table) 1 names sessions n session are at in
      going_stopped ghosts start old new store0 was now begun out next_out kept (contents table names) w end last n rest refused sessions session after at x (Some table) (file_at table f.name) (slice_get-map (file_at table) names n ∙ ap (option_map (file_at table)) f.there)
      why takes (tell_at table f.name takes.next f.reading.named takes.read) f.reading.file still
