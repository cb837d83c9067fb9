-- A file in pieces, however it is cut, and however often a feed is asked between them. The law is
-- this program's own.
use Rattle.std.specs.Prelude.{◌≡◌, ◌<◌, ℕ, List, [], ◌∷◌, ◌++◌, length, drop, Option, None, Some, Result, Ok, Err}
use Rattle.send_model.specs.Refusal.{Refusal, Truncated}
use Rattle.send_model.specs.Reading.{Due, HeaderDue}
use Rattle.tlv_frame.specs.Feeding.{Fed, Handed, unfed, handed, next_of, fed_after, fed_with, room}

-- What is done with a feed: it takes a piece, or is asked for what is next, and answers.
pub data Turn : Type 0 where
  Given : (piece : List ℕ) → Turn
  Asked : (answer : Result (Option Handed) Refusal) → Turn

-- Turns lead from one feed to another.
abbrev pub LeadTo : Fed → List Turn → Fed → Type 0
LeadTo old [] new = old ≡ new
LeadTo old (Given piece ∷ turns) new = LeadTo (fed_with piece old) turns new
LeadTo old (Asked answer ∷ turns) new = (answer ≡ next_of old) × LeadTo (fed_after old) turns new

-- All pieces that were given, one after the other.
abbrev pub all_given : List Turn → List ℕ
all_given [] = []
all_given (Given piece ∷ turns) = piece ++ all_given turns
all_given (Asked answer ∷ turns) = all_given turns

-- The header or frame of an answer, with those after it.
abbrev pub with_handed : Result (Option Handed) Refusal → List Handed → List Handed
with_handed (Ok (Some h)) more = h ∷ more
with_handed (Ok None) more = more
with_handed (Err refusal) more = more

-- All headers and frames that were handed out.
abbrev pub all_handed : List Turn → List Handed
all_handed [] = []
all_handed (Given piece ∷ turns) = all_handed turns
all_handed (Asked answer ∷ turns) = with_handed answer (all_handed turns)

-- The definitions read these headers and frames, one after the other, in front of bytes; then this
-- is due, in front of the rest.
abbrev pub AreRead : Due → List ℕ → List Handed → Due → List ℕ → Type 0
AreRead due bytes [] last rest = (due ≡ last) × (bytes ≡ rest)
AreRead due bytes (h ∷ units) last rest =
    (handed due bytes ≡ Ok h) × AreRead h.due (drop h.taken bytes) units last rest

-- Whatever bytes follow those that were given, the headers and frames that were handed out are the
-- first ones of all the bytes. Where the feed refuses, the definitions refuse what is left, for the
-- same reason; where it waits, what is left is cut short; and what it hands out next is what they
-- read next.
pub record IsOneReading (turns : List Turn) (fed : Fed) (more : List ℕ) : Type 0 where
  pub units : AreRead HeaderDue (all_given turns ++ more) (all_handed turns) fed.due
      (fed.left ++ more)
  pub next : (h : Handed) → next_of fed ≡ Ok (Some h) → handed fed.due (fed.left ++ more) ≡ Ok h
  pub refused : (refusal : Refusal) → next_of fed ≡ Err refusal
      → handed fed.due (fed.left ++ more) ≡ Err refusal
  pub waits : next_of fed ≡ Ok None → handed fed.due fed.left ≡ Err Truncated

abbrev pub CutsAreOneReading : Type 0
CutsAreOneReading =
    (turns : List Turn) (fed : Fed) (more : List ℕ) → LeadTo unfed turns fed
    → IsOneReading turns fed more

-- A feed that waits has room for at least one byte more.
abbrev pub WaitsWithRoom : Type 0
WaitsWithRoom = (fed : Fed) → next_of fed ≡ Ok None → length fed.left < room
