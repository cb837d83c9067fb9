-- The bytes of the last frame, which was read, as the spelling of its command.
use Rattle.std.specs.Prelude.{◌≡◌, ℕ, ◌+◌, ◌≤◌, ◌==◌, true, false, List, [], length, take, drop, Result, Ok, nat_lt, nat_le}
use Rattle.std.proofs.Common.{refl, sym, ap, subst, ◌∙◌, arith, append-nil, length-take, length-drop, drop_of_length-le}
use Rattle.std.proofs.lemmas.Bool.{leb-true, le-leb}
use Rattle.std.proofs.lemmas.List.{take_all, drop-take}
use Rattle.send_model.specs.Refusal.{Truncated, LongCommand, BadChecksum}
use Rattle.send_model.specs.Chain.{◌>>◌, require}
use Rattle.send_model.specs.Attribute.{IsBytes}
use Rattle.send_model.specs.Command.{Command, row, kind_of}
use Rattle.send_model.specs.Spelling.{Attribute, AreAttributes, body_of, frame_of, frame_checksum, greatest_body, attributes_of, canonical}
use Rattle.send_model.specs.Reading.{Frame, number16, number32, frame_with, frame_at, frame_header_len, attributes_at, command_of}
use Rattle.send_model.specs.Refusal as meant
use Rattle.send_model.proofs.Fuel.{required, not_refused, ok_same}
use Rattle.send_model.proofs.Attributes.{attributes_read_back}
use Rattle.send_model.proofs.Canonical.{attributes_lawful}
use Rattle.send_model.proofs.ReadSpelled.{rules_were_spelled}
use Rattle.tlv_frame.proofs.Fronts.{front16, front32}

abbrev whole : ℕ → List ℕ → Frame
whole number body = record { number = number; body = body; rest = [] }

-- The frame in front of bytes is read of its own bytes alone.
pub own_bytes : (front : List ℕ) (frame : Frame) → frame_at front ≡ Ok frame → frame_at (take (10 + length frame.body) front) ≡ Ok (whole frame.number frame.body)
unfolding frame_at frame_with
own_bytes front frame e = by_frame
  where
    len : ℕ
    len = number32 front

    number : ℕ
    number = number16 (drop 4 front)

    stored : ℕ
    stored = number32 (drop 6 front)

    behind : List ℕ
    behind = drop 10 front

    body : List ℕ
    body = take len behind

    made : Frame
    made = record { number = number; body = body; rest = drop len behind }

    checked : Result Frame meant.Refusal
    checked = require (stored == frame_checksum len number body) (BadChecksum stored (frame_checksum len number body)) >> Ok made

    a : (nat_le 10 (length front) ≡ true) × (frame_with len number stored behind ≡ Ok frame)
    a = required (nat_le frame_header_len (length front)) Truncated (frame_with len number stored behind) frame e

    b : (nat_lt greatest_body len ≡ false) × ((require (nat_le len (length behind)) Truncated >> checked) ≡ Ok frame)
    b = not_refused (nat_lt greatest_body len) (LongCommand len) (require (nat_le len (length behind)) Truncated >> checked) frame a.1

    c : (nat_le len (length behind) ≡ true) × (checked ≡ Ok frame)
    c = required (nat_le len (length behind)) Truncated checked frame b.1

    d : ((stored == frame_checksum len number body) ≡ true) × (◌≡◌ {A = Result Frame meant.Refusal} (Ok made) (Ok frame))
    d = required (stored == frame_checksum len number body) (BadChecksum stored (frame_checksum len number body)) (Ok made) frame c.1

    long : 10 ≤ length front
    long = leb-true 10 (length front) a.0

    few : len ≤ length behind
    few = leb-true len (length behind) c.0

    size : length body ≡ len
    size = length-take len behind ∙ omega (arith, few)

    own : List ℕ
    own = take (10 + len) front

    own_size : length own ≡ 10 + len
    own_size = length-take (10 + len) front ∙ omega (arith, few, long, length-drop 10 front)

    own_behind : drop 10 own ≡ body
    own_behind = drop-take 10 len front

    same32 : number32 own ≡ len
    same32 = ap (λ (n : ℕ). number32 (take n front)) (omega arith) ∙ front32 front 0 (10 + len) (omega arith)

    at_four : take (10 + len) front ≡ take (4 + (6 + len)) front
    at_four = ap (λ (n : ℕ). take n front) (omega arith)

    same16 : number16 (drop 4 own) ≡ number
    same16 = ap (λ (l : List ℕ). number16 (drop 4 l)) at_four ∙ front16 front 4 (6 + len) (omega arith)

    at_six : take (10 + len) front ≡ take (6 + (4 + len)) front
    at_six = ap (λ (n : ℕ). take n front) (omega arith)

    same_sum : number32 (drop 6 own) ≡ stored
    same_sum = ap (λ (l : List ℕ). number32 (drop 6 l)) at_six ∙ front32 front 6 (4 + len) (omega arith)

    none : drop len body ≡ []
    none = drop_of_length-le body (omega (arith, size))

    all : take len body ≡ body
    all = take_all len body (omega (arith, size))

    -- The rules of a frame, over its body.
    alone : frame_with len number stored body ≡ Ok (whole number body)
    alone = rw (b.0, le-leb len (length body) (omega (arith, size)), all, none, d.0) refl

    read : frame_at own ≡ Ok (whole number body)
    read = rw (le-leb 10 (length own) (omega (arith, own_size)), same32, same16, same_sum, own_behind) alone

    same : made ≡ frame
    same = ok_same d.1

    by_frame : frame_at (take (10 + length frame.body) front) ≡ Ok (whole frame.number frame.body)
    by_frame = subst (λ (f : Frame). frame_at (take (10 + length f.body) front) ≡ Ok (whole f.number f.body)) same (ap (λ (n : ℕ). frame_at (take (10 + n) front)) size ∙ read)

-- A frame of the attributes of a command is its canonical spelling.
pub own_canonical : (version number : ℕ) (bytes body : List ℕ) (attributes : List Attribute) (c : Command) → IsBytes bytes → frame_at bytes ≡ Ok (whole number body) → attributes_at version body ≡ Ok attributes → command_of version number attributes ≡ Ok c
    → attributes ≡ attributes_of c → bytes ≡ canonical version c
unfolding canonical
own_canonical version number bytes body attributes c are f a d same =
    let s = rules_were_spelled version bytes (whole number body) attributes c are f a d in
    s.2 ∙ append-nil s.0 ∙ s.1.frame ∙ ap (λ (l : List Attribute). frame_of (row (kind_of c)).number (body_of version l)) (s.3 ∙ same)

-- And only such a frame is.
pub own_attributes : (version number : ℕ) (bytes body : List ℕ) (attributes : List Attribute) (c : Command) → IsBytes bytes → frame_at bytes ≡ Ok (whole number body) → attributes_at version body ≡ Ok attributes → command_of version number attributes ≡ Ok c
    → bytes ≡ canonical version c → attributes ≡ attributes_of c
unfolding canonical frame_of
own_attributes version number bytes body attributes c are f a d same =
    let s = rules_were_spelled version bytes (whole number body) attributes c are f a d in
    let n : ℕ = (row (kind_of c)).number in
    let spelled : bytes ≡ frame_of n (body_of version attributes) = s.2 ∙ append-nil s.0 ∙ s.1.frame ∙ ap (λ (l : List Attribute). frame_of n (body_of version l)) s.3 in
    let framed : frame_of n (body_of version attributes) ≡ frame_of n (body_of version (attributes_of c)) = sym spelled ∙ same in
    let bodies : body_of version attributes ≡ body_of version (attributes_of c) = ap (λ (l : List ℕ). drop 10 l) framed in
    let lawful = attributes_lawful version c s.1.known s.1.values in
    let own = subst (λ (l : List Attribute). AreAttributes version l) s.3 s.1.lawful in
    ok_same (sym (attributes_read_back version attributes own) ∙ ap (λ (l : List ℕ). attributes_at version l) bodies ∙ attributes_read_back version (attributes_of c) lawful)
