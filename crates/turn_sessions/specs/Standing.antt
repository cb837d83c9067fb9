-- What stands between two turns: the store, and the sessions with their open parts, against those
-- of the definitions over cells that carry nothing. This program's own.
use Rattle.std.specs.Prelude.{◌≡◌, ⊤, ℕ, Bool, true, List, [], ◌∷◌, map, Option, None, Some}
use Rattle.std.specs.List.{AllByRecursion}
use Rattle.send_model.specs.Command.{Command}
use Rattle.send_model.specs.Spelling.{canonical_all}
use Rattle.send_model.specs.Reading.{Item, is_version}
use Rattle.send_model.specs.Receive.{bytes_of}
use Rattle.send_model.specs.Store.{Store, with_contents}
use Rattle.send_model.specs.Guards.{Guard}
use Rattle.send_model.specs.Cells.{recelled_part}
use Rattle.store_model.specs.Stored.{Putting, IsEdit, made}
use Rattle.store_model.specs.Turns.{Completes, Receiving, part_uuid, part_line, group_of_event}
use Rattle.store_model.specs.Turns as meant
use Rattle.store_model.proofs.TurnOrder.{held_of}
use Rattle.cmd_reader.specs.Left.{Reader}
use Rattle.turn_sessions.specs.declared.part.OpenPart.{OpenPart}
use Rattle.turn_sessions.specs.declared.session.Session.{Session}

-- Cells that carry nothing: as many as a command has bytes.
abbrev pub Blank : Type 0
Blank = Unit {0}

abbrev pub blank_put : Putting Blank
blank_put place bytes = map (λ _. tt) bytes

abbrev pub blank_cells : Item → List Blank
blank_cells item = blank_put 0 (bytes_of item.command)

-- The commands of a part's edits.
abbrev pub edits_of : Receiving Blank → List Command
edits_of r = map (λ item. item.command) r.taken.edits

-- The part of a session, but for what its cells carry: with its line, and the frames of its edits
-- in the version of its head.
pub record IsPart (r : Receiving Blank) (current : OpenPart) : Type 0 where
  pub part : r.part ≡ recelled_part (λ _. tt) current.part
  pub uuid : part_uuid r.taken ≡ r.part.key.uuid
  pub line : current.line ≡ part_line r.taken
  pub version : r.taken.head.version ≡ current.version
  pub known : is_version current.version ≡ true
  pub lawful : AllByRecursion (IsEdit current.version) (edits_of r)
  pub frames : current.frames ≡ canonical_all current.version (edits_of r)

abbrev pub AreParts : Option (Receiving Blank) → Option OpenPart → Type 0
AreParts None None = ⊤
AreParts None (Some current) = ⊥
AreParts (Some r) None = ⊥
AreParts (Some r) (Some current) = IsPart r current

-- It can be completed over a store: its group makes of the store what its completion makes.
abbrev pub IsHeld : Store Blank → Receiving Blank → Type 0
IsHeld store r =
    (place : ℕ)
    → made tt blank_put place store (group_of_event (Completes r.taken)).content
    ≡ Some (with_contents r.part.key.uuid r.part.subvolume store)

abbrev pub AreHeld : Store Blank → Option (Receiving Blank) → Type 0
AreHeld store None = ⊤
AreHeld store (Some r) = IsHeld store r

-- A session with this file, reader, guards and part, which is over or not.
abbrev pub session_with : {G : Type 0} → ℕ → Reader → G → Option OpenPart → Bool → Session G
session_with file reader guards current is_over =
    record { file = file; reader = reader; guards = guards; current = current; is_over = is_over }

-- A session of the definitions is this one, but for what it has not read yet and what cells carry.
pub record IsSession {G : Type 0} (kept : G → List Guard) (s : meant.Session Blank)
    (session : Session G) : Type 0 where
  pub guards : s.guards ≡ kept session.guards
  pub over : s.is_over ≡ session.is_over
  pub part : AreParts (held_of s) session.current

abbrev pub AreSessions : {G : Type 0} → (G → List Guard) → List (meant.Session Blank)
    → List (Session G) → Type 0
AreSessions kept [] [] = ⊤
AreSessions kept [] (session ∷ sessions) = ⊥
AreSessions kept (s ∷ ss) [] = ⊥
AreSessions kept (s ∷ ss) (session ∷ sessions) =
    IsSession kept s session × AreSessions kept ss sessions
