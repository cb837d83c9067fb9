-- One turn of a session.
use Rattle.std.specs.Prelude.{◌≡◌, ⊤, ℕ, ◌+◌, ◌-◌, ◌<◌, ◌≤◌, Bool, true, false, List, [], ◌∷◌, Option, None, Some, Result, Ok, Err, IfErr, OnOk, is_some, if◌then◌else◌}
use Rattle.cmd_reader.specs.Places.{IfTold}
use Rattle.std.specs.Option.{option_map}
use Rattle.std.proofs.Common.{refl, sym, ap, subst, ◌∙◌, arith}
use Rattle.sx_base.specs.declared.disk.Disk as keeping
use Rattle.sx_base.specs.Refusals.{refusal_of, verdict_meant}
use Rattle.sx_base.specs.declared.outcome.Verdict.{Verdict}
use Rattle.sx_base.specs.declared.refusal.Refusal as code
use Rattle.sx_base.specs.declared.outcome.Outcome.{Outcome}
use Rattle.sx_base.specs.declared.outcome.Outcome.TheVariants as ended
use Rattle.send_model.specs.Refusal.{Refusal}
use Rattle.send_model.specs.Reading.{Item}
use Rattle.send_model.specs.Reading as reading
use Rattle.send_model.specs.Receive.{verdict_of, fault_of}
use Rattle.send_model.specs.Guards.{Guard, guarded, looked}
use Rattle.send_model.specs.Store.{Store}
use Rattle.send_model.specs.Lengths as lengths
use Rattle.store_model.specs.Turns.{Receiving, Session, Turn, receiving_after, turned, next_turn, session_turn}
use Rattle.store_model.proofs.TurnOrder.{held_of}
use Rattle.store_model.proofs.TurnOvers.{over_does, going_does}
use Rattle.auditor.specs.Following.{blank}
use Rattle.store_journal.specs.Shown.{StoreState}
use Rattle.receiver.specs.declared.outcome.Received.{Received}
use Rattle.receiver.specs.declared.outcome.Received.TheVariants as how
use Rattle.turn_sessions.specs.declared.part.OpenPart.{OpenPart}
use Rattle.turn_sessions.specs.declared.session.Session as code_session
use Rattle.turn_sessions.specs.Standing.{Blank, blank_cells, AreParts, IsSession}
use Rattle.turn_sessions.specs.Doing.{OutcomeReason, IsItemStop}
use Rattle.turn_sessions.specs.Reading.{Next, Command, AtLimit}
use Rattle.turn_sessions.specs.Turning.{step_at, StopsAt, IfTooLong, ReadsAs, HasVersion, HasVersionOf, bytes_left}
use Rattle.send_model.specs.Command as model
use Rattle.send_model.specs.Counts.{is_end}
use Rattle.cmd_reader.specs.Left.{Reader}
use Rattle.turn_sessions.proofs.Unpacked.{LookSays, TurnSays}
use Rattle.turn_sessions.proofs.Nothings.{OnlyNow, nothing_done, nothing_stopped}

-- The part of a session that is not over is the one that it has.
pub going_held : (s : Session Blank) → s.is_over ≡ false → held_of s ≡ s.part
going_held s going = ap (λ (b : Bool). if b then None else s.part) going

module _ (store : Store Blank) (s : Session Blank) (item : Item) (items : List Item) where
  abbrev pub look_turn : Option Refusal → Turn Blank
  look_turn (Some refusal) = record {
    store = store;
    session = record s { items = items; guards = looked s.guards item.command; is_over = true };
    refused = Some (verdict_of item refusal);
    events = [];
  }
  look_turn None = turned s item items (step_at store item s.part)

  pub turn_is : s.items ≡ item ∷ items → s.is_over ≡ false → session_turn tt blank_cells store s ≡ look_turn (guarded s.guards item.command)
  turn_is is going = going_does tt blank_cells store s going ∙ ap (next_turn tt blank_cells store s) is ∙ one (guarded s.guards item.command)
    where
      one : (o : Option Refusal) → (elim o as (λ x. Turn Blank) [
        | Some refusal ↦ record {
          store = store;
          session = record s { items = items; guards = looked s.guards item.command; is_over = true };
          refused = Some (verdict_of item refusal);
          events = [];
        }
        | None ↦ turned s item items (step_at store item s.part)
      ]) ≡ look_turn o
      one None = refl
      one (Some refusal) = refl

module _ {D : Type 0} (ghosts : keeping.Ghosts D)
    (old new : D) (was now : StoreState) (out next_out : Option (List ℕ)) {G : Type 0} (kept : G → List Guard) where
  module _ (s : Session Blank) (session after : code_session.Session G) (item : Item) (items : List Item) (is : s.items ≡ item ∷ items) (of : IsSession kept s session) (going : session.is_over ≡ false)
      (guards_are : kept after.guards ≡ looked (kept session.guards) item.command) where
    s_going : s.is_over ≡ false
    s_going = of.over ∙ going

    looks_are : guarded s.guards item.command ≡ guarded (kept session.guards) item.command
    looks_are = ap (λ (g : List Guard). guarded g item.command) of.guards

    abbrev next_part : Option (Receiving Blank)
    next_part = receiving_after item s.part (step_at (blank was.core) item s.part).state.part

    new_guards : looked s.guards item.command ≡ kept after.guards
    new_guards = ap (λ (g : List Guard). looked g item.command) of.guards ∙ sym guards_are

    abbrev Says : Turn Blank → Result (Option Verdict) Received → Type 0
    Says t result = TurnSays ghosts old new was now out next_out kept t after result

    by_turn : (o : Option Refusal) (result : Result (Option Verdict) Received) → guarded (kept session.guards) item.command ≡ o → Says (look_turn (blank was.core) s item items o) result → Says (session_turn tt blank_cells (blank was.core) s) result
    by_turn o result e says = subst (λ (t : Turn Blank). Says t result) (sym (turn_is (blank was.core) s item items is s_going ∙ ap (look_turn (blank was.core) s item items) (looks_are ∙ e))) says

    -- The command is taken.
    pub turn_taken : after.is_over ≡ false → LookSays ghosts old new was now out next_out item s.part (guarded (kept session.guards) item.command) after.current (Ok None)
        → Says (session_turn tt blank_cells (blank was.core) s) (Ok None)
    turn_taken still says = one (guarded (kept session.guards) item.command) refl says
      where
        one : (o : Option Refusal) → guarded (kept session.guards) item.command ≡ o → LookSays ghosts old new was now out next_out item s.part o after.current (Ok None) → Says (session_turn tt blank_cells (blank was.core) s) (Ok None)
        one (Some refusal) e l = cc
        one None e d = by_turn None (Ok None) e (record {
          refused_is = ap (option_map (verdict_of item)) d.refused;
          store = d.store;
          session_is = record {
            guards = new_guards;
            over = ap is_some d.refused ∙ sym still;
            part = subst (λ (o : Option Refusal). AreParts (if is_some o then None else next_part) after.current) (sym d.refused) d.part;
          };
          done = d.done;
        })

    -- It is refused.
    pub turn_refused : (refusal : code.Refusal) (verdict : Verdict) → after.is_over ≡ true → after.current ≡ None → verdict_meant verdict ≡ verdict_of item (refusal_of refusal)
        → (current : Option OpenPart) → LookSays ghosts old new was now out next_out item s.part (guarded (kept session.guards) item.command) current (Ok (Some refusal))
        → Says (session_turn tt blank_cells (blank was.core) s) (Ok (Some verdict))
    turn_refused refusal verdict over none v current says = one (guarded (kept session.guards) item.command) refl says
      where
        one : (o : Option Refusal) → guarded (kept session.guards) item.command ≡ o → LookSays ghosts old new was now out next_out item s.part o current (Ok (Some refusal))
            → Says (session_turn tt blank_cells (blank was.core) s) (Ok (Some verdict))
        one (Some r) e l = by_turn (Some r) (Ok (Some verdict)) e (record {
          refused_is = ap (option_map (verdict_of item)) (sym l.0) ∙ ap (λ (x : reading.Verdict). Some x) (sym v);
          store = l.1;
          session_is = record { guards = new_guards; over = sym over; part = subst (λ (c : Option OpenPart). AreParts None c) (sym none) tt };
          done = l.2;
        })
        one None e d = by_turn None (Ok (Some verdict)) e (record {
          refused_is = ap (option_map (verdict_of item)) d.refused ∙ ap (λ (x : reading.Verdict). Some x) (sym v);
          store = d.store;
          session_is = record {
            guards = new_guards;
            over = ap is_some d.refused ∙ sym over;
            part = subst (λ (o : Option Refusal). AreParts (if is_some o then None else next_part) after.current) (sym d.refused) (subst (λ (c : Option OpenPart). AreParts None c) (sym none) tt);
          };
          done = d.done;
        })

    -- All turns stop.
    pub turn_stopped : (why : Received) (current : Option OpenPart) → LookSays ghosts old new was now out next_out item s.part (guarded (kept session.guards) item.command) current (Err why)
        → Says (session_turn tt blank_cells (blank was.core) s) (Err why)
    turn_stopped why current says = one (guarded (kept session.guards) item.command) refl says
      where
        one : (o : Option Refusal) → guarded (kept session.guards) item.command ≡ o → LookSays ghosts old new was now out next_out item s.part o current (Err why) → Says (session_turn tt blank_cells (blank was.core) s) (Err why)
        one (Some refusal) e l = absurd l
        one None e d = by_turn None (Err why) e d
        -- ---- where no command is read

module _ {D : Type 0} (ghosts : keeping.Ghosts D)
    (disk : D) (store : StoreState) (out : Option (List ℕ)) {G : Type 0} (kept : G → List Guard) (only : OnlyNow ghosts disk) (s : Session Blank) (session : code_session.Session G) (of : IsSession kept s session) where
  abbrev Ends : code_session.Session G → Result (Option Verdict) Received → Type 0
  Ends after result = TurnSays ghosts disk disk store store out out kept (session_turn tt blank_cells (blank store.core) s) after result

  -- It is over already.
  pub turn_over : session.is_over ≡ true → Ends session (Ok None)
  turn_over over = subst (λ (t : Turn Blank). TurnSays ghosts disk disk store store out out kept t session (Ok None)) (sym (over_does tt blank_cells (blank store.core) s (of.over ∙ over)))
      (record { refused_is = refl; store = refl; session_is = of; done = nothing_done ghosts disk store out only })

  no_items : s.items ≡ [] → session.is_over ≡ false → session_turn tt blank_cells (blank store.core) s ≡ record { store = blank store.core; session = record s { is_over = true }; refused = fault_of s.end; events = [] }
  no_items none going = going_does tt blank_cells (blank store.core) s (of.over ∙ going) ∙ ap (next_turn tt blank_cells (blank store.core) s) none

  -- Its file ends, whole or with a fault.
  pub turn_ended : (after : code_session.Session G) (refused : Option Verdict) → s.items ≡ [] → session.is_over ≡ false → kept after.guards ≡ kept session.guards → after.is_over ≡ true → after.current ≡ None
      → fault_of s.end ≡ option_map verdict_meant refused → Ends after (Ok refused)
  turn_ended after refused none going guards over current fault =
      subst (λ (t : Turn Blank). TurnSays ghosts disk disk store store out out kept t after (Ok refused)) (sym (no_items none going)) (record {
        refused_is = fault;
        store = refl;
        session_is = record { guards = of.guards ∙ sym guards; over = sym over; part = subst (λ (c : Option OpenPart). AreParts None c) (sym current) tt };
        done = nothing_done ghosts disk store out only;
      })

  -- It could not be read.
  pub turn_unread : (after : code_session.Session G) (outcome : Outcome) → OutcomeReason outcome [] → Ends after (Err (how.Files outcome))
  turn_unread after outcome reason = nothing_stopped ghosts disk store store out (how.Files outcome) (session_turn tt blank_cells (blank store.core) s).events only (λ header groups h. h) reason

-- ---- what is told of a file

pub told_any : (told : Option (List (List ℕ × List ℕ))) (name : List ℕ) → IfTold told name (λ _. ⊤)
told_any None name = tt
told_any (Some files) name = λ file e. tt

-- ---- why a turn stops

pub stops_at : {G : Type 0} (why : Received) (item : Item) (before : code_session.Session G) → before.is_over ≡ false → IsItemStop why → StopsAt why (Command item) before
stops_at (how.Files ended.OutputFault) item before going s = tt
stops_at (how.Files ended.NoMemory) item before going s = tt
stops_at (how.Files ended.InputFault) item before going s = absurd s
stops_at (how.Files ended.Done) item before going s = absurd s
stops_at (how.Files (ended.Refused verdict)) item before going s = absurd s
stops_at (how.Files (ended.InputTooLong file)) item before going s = absurd s
stops_at (how.Files (ended.TooMuch sum)) item before going s = absurd s
stops_at (how.Files (ended.InputChanged file place)) item before going s = absurd s
stops_at how.StoreFault item before going s = tt
stops_at (how.LogFull end wanted limit) item before going s = (tt, going)

pub stops_there : {G T : Type 0} (result : Result T Received) (item : Item) (before : code_session.Session G) → before.is_over ≡ false → IfErr result IsItemStop → IfErr result (λ why. StopsAt why (Command item) before)
stops_there (Ok x) item before going s = tt
stops_there (Err why) item before going s = stops_at why item before going s

-- It does not look at what the session has of its file and its part.
pub stops_same : {G : Type 0} (why : Received) (next : Next) (a b : code_session.Session G) → a.file ≡ b.file → a.is_over ≡ b.is_over → StopsAt why next a → StopsAt why next b
stops_same (how.Files ended.OutputFault) next a b file over s = tt
stops_same (how.Files ended.NoMemory) next a b file over s = tt
stops_same (how.Files ended.InputFault) next a b file over s = tt
stops_same (how.Files ended.Done) next a b file over s = s
stops_same (how.Files (ended.Refused verdict)) next a b file over s = s
stops_same (how.Files (ended.InputTooLong n)) next a b file over s = (s.0, s.1 ∙ file, sym over ∙ s.2)
stops_same (how.Files (ended.TooMuch sum)) next a b file over s = s
stops_same (how.Files (ended.InputChanged n place)) next a b file over s = s
stops_same how.StoreFault next a b file over s = tt
stops_same (how.LogFull end wanted limit) next a b file over s = (s.0, sym over ∙ s.1)

pub reads_as : {G : Type 0} (result : Result (Option Verdict) Received) (item : Item) (a b : code_session.Session G) → a.file ≡ b.file → a.is_over ≡ b.is_over → b.is_over ≡ false → IfErr result (λ why. StopsAt why (Command item) a) → ReadsAs result (Command item) b
reads_as (Ok refused) item a b file over going s = going
reads_as (Err why) item a b file over going s = stops_same why (Command item) a b file over s

-- It does not stop at a limit.
pub no_long : {G T : Type 0} (result : Result T Received) (item : Item) (before : code_session.Session G) (P : Type 0) → IfErr result (λ why. StopsAt why (Command item) before) → IfErr result (λ why. IfTooLong why P)
no_long (Ok x) item before P s = tt
no_long (Err (how.Files ended.OutputFault)) item before P s = tt
no_long (Err (how.Files ended.NoMemory)) item before P s = tt
no_long (Err (how.Files ended.InputFault)) item before P s = tt
no_long (Err (how.Files ended.Done)) item before P s = tt
no_long (Err (how.Files (ended.Refused verdict))) item before P s = tt
no_long (Err (how.Files (ended.InputTooLong file))) item before P s = absurd (apart s.0)
  where
    apart : Command item ≡ AtLimit → ⊥
    apart q = cc
no_long (Err (how.Files (ended.TooMuch sum))) item before P s = tt
no_long (Err (how.Files (ended.InputChanged file place))) item before P s = tt
no_long (Err how.StoreFault) item before P s = tt
no_long (Err (how.LogFull end wanted limit)) item before P s = tt

pub on_ok : {T E : Type 0} (result : Result T E) (P : Type 0) → P → OnOk result P
on_ok (Ok x) P p = p
on_ok (Err e) P p = tt

pub ok_map : {T E : Type 0} (result : Result T E) (P Q : Type 0) → (P → Q) → OnOk result P → OnOk result Q
ok_map (Ok x) P Q f p = f p
ok_map (Err e) P Q f p = tt

pub ok_both : {T E : Type 0} (result : Result T E) (P Q R : Type 0) → (P → Q → R) → OnOk result P → OnOk result Q → OnOk result R
ok_both (Ok x) P Q R f p q = f p q
ok_both (Err e) P Q R f p q = tt

-- The part has the version of what is due next, unless it ended.
pub due_goes : (version : ℕ) (c : model.Command) → is_end c ≡ false → reading.due_after version c ≡ reading.CommandDue version
due_goes version model.End e = cc
due_goes version c e = refl

pub due_next : (reader : Reader) (version : ℕ) (command : model.Command) (current : Option OpenPart) → reader.fed.due ≡ reading.due_after version command → HasVersionOf version current → (is_end command ≡ true → current ≡ None) → HasVersion reader current
due_next reader version command None is v closed = tt
due_next reader version command (Some current) is v closed = one (is_end command) refl
  where
    one : (b : Bool) → is_end command ≡ b → reader.fed.due ≡ reading.CommandDue current.version
    one true e = absurd (apart (closed e))
      where
        apart : {A : Type 0} {x : A} → Some x ≡ None → ⊥
        apart q = cc
    one false e = is ∙ due_goes version command e ∙ ap reading.CommandDue (sym v)

pub same_next : {T E : Type 0} (result : Result T E) (reader : Reader) (version : ℕ) (command : model.Command) (current : Option OpenPart) → reader.fed.due ≡ reading.due_after version command → OnOk result (HasVersionOf version current)
    → (is_end command ≡ true → OnOk result (current ≡ None)) → OnOk result (HasVersion reader current)
same_next (Ok x) reader version command current due v closed = due_next reader version command current due v closed
same_next (Err e) reader version command current due v closed = tt

-- The command that was read has the version of the open part.
pub read_alike : (reader : Reader) (current : Option OpenPart) (version : ℕ) → HasVersion reader current → ((v : ℕ) → reader.fed.due ≡ reading.CommandDue v → version ≡ v) → HasVersionOf version current
read_alike reader None version has same = tt
read_alike reader (Some current) version has same = sym (same current.version has)

-- A session that read a command has fewer bytes left.
pub fewer_left : {G : Type 0} (before after : code_session.Session G) → before.is_over ≡ false → before.reader.offset < after.reader.offset → after.reader.offset ≤ lengths.limit → bytes_left after < bytes_left before
fewer_left before after going further within = by_over after.is_over
  where
    were : bytes_left before ≡ lengths.limit + 1 - before.reader.offset
    were = ap (λ (b : Bool). if b then 0 else lengths.limit + 1 - before.reader.offset) going

    by_over : (b : Bool) → (if b then 0 else lengths.limit + 1 - after.reader.offset) < bytes_left before
    by_over true = omega (arith, were, further, within)
    by_over false = omega (arith, were, further, within)
