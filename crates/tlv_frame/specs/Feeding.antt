-- A file that comes in pieces: what is handed out of the bytes that were given, and what is kept of
-- them. The headers and frames are those of the definitions; that they are handed out one by one is
-- this program's own.
use Rattle.std.specs.Prelude.{◌≡◌, ℕ, ◌+◌, ◌-◌, ◌≤◌, ◌==◌, Bool, true, false, ◌&&◌, ⊤, List, [], ◌++◌, length, take, drop, Option, None, Some, Result, Ok, Err, if◌then◌else◌}
use Rattle.send_model.specs.Refusal as meant
use Rattle.send_model.specs.Chain.{◌>>=◌}
use Rattle.send_model.specs.Command.{END, row}
use Rattle.send_model.specs.Spelling.{frame_checksum, greatest_body}
use Rattle.send_model.specs.Reading.{Due, HeaderDue, CommandDue, header_len, frame_header_len, is_version, stream_version, frame_at}
use Rattle.send_model.specs.Lengths.{is_truncated}
use Rattle.sx_base.specs.declared.refusal.Refusal.{Refusal}
use Rattle.sx_base.specs.Refusals.{refusal_of}
use Rattle.tlv_frame.specs.declared.feed.Unit.{Unit}
use Rattle.tlv_frame.specs.declared.feed.Unit.TheVariants as made
use Rattle.tlv_frame.specs.declared.feed.Passed.{Passed}
use Rattle.tlv_frame.specs.declared.feed.Passed.TheVariants as passed

-- How many bytes a feed keeps at the most.
abbrev pub room : ℕ
room = 524_288

-- The version of a stream, or a frame whose checksum is right: its command's number and its body.
pub data Piece : Type 0 where
  HeadPiece : (version : ℕ) → Piece
  FramePiece : (number : ℕ) (body : List ℕ) → Piece

-- A piece with how many bytes it has, what is due after it, and whether it is an END.
pub record Handed : Type 0 where
  pub piece : Piece
  pub taken : ℕ
  pub due : Due
  pub ended : Bool

-- The bytes that were given and not handed out, those of the piece that was handed out last if
-- nothing was given since, what is due, whether the last piece was an END, and the refusal if the
-- bytes were refused.
pub record Fed : Type 0 where
  pub left : List ℕ
  pub last : List ℕ
  pub due : Due
  pub ended : Bool
  pub refused : Option meant.Refusal

abbrev pub unfed : Fed
unfed = record { left = []; last = []; due = HeaderDue; ended = false; refused = None }

abbrev pub is_end : ℕ → Bool
is_end number = number == (row END).number

abbrev pub due_past : ℕ → ℕ → Due
due_past version number = if is_end number then HeaderDue else CommandDue version

abbrev pub head_handed : ℕ → Handed
head_handed version =
    record {
      piece = HeadPiece version;
      taken = header_len;
      due = CommandDue version;
      ended = false;
    }

abbrev pub frame_handed : ℕ → ℕ → List ℕ → Handed
frame_handed version number body = record {
  piece = FramePiece number body;
  taken = frame_header_len + length body;
  due = due_past version number;
  ended = is_end number;
}

-- The piece in front of bytes, or the refusal of these.
abbrev pub handed : Due → List ℕ → Result Handed meant.Refusal
handed HeaderDue bytes = stream_version bytes >>= λ version. Ok (head_handed version)
handed (CommandDue version) bytes =
    frame_at bytes >>= λ frame. Ok (frame_handed version frame.number frame.body)

-- Bytes that are only cut short may go on: there is none yet.
abbrev pub unless_more : {A : Type 0} → Result A meant.Refusal → Result (Option A) meant.Refusal
unless_more (Ok x) = Ok (Some x)
unless_more (Err refusal) = if is_truncated refusal then Ok None else Err refusal

-- What is handed out next. A refusal stays.
abbrev pub next_of : Fed → Result (Option Handed) meant.Refusal
next_of fed =
    elim fed.refused [ None ↦ unless_more (handed fed.due fed.left) | Some refusal ↦ Err refusal ]

-- What is kept once that was handed out.
abbrev pub after : Fed → Result (Option Handed) meant.Refusal → Fed
after fed (Ok None) = fed
after fed (Ok (Some h)) =
    record {
      left = drop h.taken fed.left;
      last = take h.taken fed.left;
      due = h.due;
      ended = h.ended;
      refused = None;
    }
after fed (Err refusal) = record fed { refused = Some refusal }

abbrev pub fed_after : Fed → Fed
fed_after fed = after fed (next_of fed)

-- What is kept once more bytes were given.
abbrev pub fed_with : List ℕ → Fed → Fed
fed_with more fed = record fed { left = fed.left ++ more; last = [] }

-- An END was the last piece, and nothing follows it.
abbrev pub is_whole : Fed → Bool
is_whole fed = fed.ended && (length fed.left == 0)

-- A unit of the code as a piece.
abbrev pub piece_of : Unit → Piece
piece_of (made.Head head) = HeadPiece head.version
piece_of (made.Frame head body) = FramePiece head.cmd body.now

-- The version of a header is known, and the header of a frame says the frame's length and checksum.
abbrev pub UnitFits : Unit → Type 0
UnitFits (made.Head head) = is_version head.version ≡ true
UnitFits (made.Frame head body) =
    (head.len ≡ length body.now)
    × ((head.len ≤ greatest_body) × (head.crc ≡ frame_checksum (length body.now) head.cmd body.now))

-- The answer is exactly what is handed out next.
abbrev pub Hands : Result (Option Handed) meant.Refusal → Result (Option Unit) Refusal → Type 0
Hands next (Ok None) = next ≡ Ok None
Hands next (Ok (Some unit)) =
    (h : Handed) × ((next ≡ Ok (Some h)) × ((h.piece ≡ piece_of unit) × UnitFits unit))
Hands next (Err refusal) = next ≡ Err (refusal_of refusal)

-- What a feed has gone past, whose bytes it has as the last ones.
abbrev pub passed_piece : Fed → Passed → Piece
passed_piece fed (passed.Head head) = HeadPiece head.version
passed_piece fed (passed.Frame head version) = FramePiece head.cmd (drop frame_header_len fed.last)

abbrev pub PassedFits : Fed → Passed → Type 0
PassedFits fed (passed.Head head) = is_version head.version ≡ true
PassedFits fed (passed.Frame head version) =
    (length fed.last ≡ frame_header_len + head.len)
    × ((head.len ≤ greatest_body)
    × (head.crc ≡ frame_checksum head.len head.cmd (drop frame_header_len fed.last)))

abbrev pub Passes : Fed → Result (Option Handed) meant.Refusal → Result (Option Passed) Refusal
    → Type 0
Passes fed next (Ok None) = next ≡ Ok None
Passes fed next (Ok (Some unit)) =
    (h : Handed)
    × ((next ≡ Ok (Some h)) × ((h.piece ≡ passed_piece fed unit) × PassedFits fed unit))
Passes fed next (Err refusal) = next ≡ Err (refusal_of refusal)

-- What was due where a unit was gone past: the header of a stream, or a frame of a stream of the
-- version.
abbrev pub PassedDue : Due → Passed → Type 0
PassedDue due (passed.Head head) = due ≡ HeaderDue
PassedDue due (passed.Frame head version) = (due ≡ CommandDue version) × (is_version version ≡ true)

-- The same where a unit was gone past.
abbrev pub IfPassed : Result (Option Passed) Refusal → (Passed → Type 0) → Type 0
IfPassed (Ok (Some unit)) P = P unit
IfPassed (Ok None) P = ⊤
IfPassed (Err refusal) P = ⊤

-- What is due, as the code keeps it.
abbrev pub due_of : Option ℕ → Due
due_of None = HeaderDue
due_of (Some version) = CommandDue version

abbrev pub VersionIs : Option ℕ → Type 0
VersionIs None = ⊤
VersionIs (Some version) = is_version version ≡ true

-- The places of a feed lie in its bytes, which have room for as many as it keeps.
pub record IsFeed (capacity len last start : ℕ) (due : Option ℕ) : Type 0 where
  pub last_first : last ≤ start
  pub within : start ≤ len
  pub few : len - start ≤ room
  pub enough : room ≤ capacity
  pub known : VersionIs due
