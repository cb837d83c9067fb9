-- Which files are asked for that take turns, and up to where. This program's own.
use Rattle.std.specs.Prelude.{ℕ, List, map}
use Rattle.sx_base.specs.Asks.{Ask, ReadTo, AreReadInTurn}
use Rattle.cmd_reader.specs.Left.{Reader, read_to}
use Rattle.turn_sessions.specs.declared.session.Session.{Session}

-- A reader's file, up to where it was given.
abbrev pub file_of : Reader → ReadTo
file_of reader = record { name = reader.name; place = read_to reader }

-- The file of each session.
abbrev pub read_by : {G : Type 0} → List (Session G) → List ReadTo
read_by sessions = map (λ session. file_of session.reader) sessions

-- A file of which nothing was read.
abbrev pub unread : List ℕ → ReadTo
unread name = record { name = name; place = 0 }

-- Files are read in turn, each once, from its front on, as far as it is read at all.
abbrev pub AreReadInTurns : (names : List (List ℕ)) (asks : List Ask) → Type 0
AreReadInTurns names asks = (to : List ReadTo) × AreReadInTurn (map unread names) asks to
