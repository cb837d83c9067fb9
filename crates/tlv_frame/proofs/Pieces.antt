-- What is found in front of the bytes of a feed, and what it keeps then.
use Rattle.std.specs.Prelude.{◌≡◌, ℕ, ◌+◌, ◌-◌, ◌<◌, ◌≤◌, ◌==◌, Bool, true, false, List, length, take, drop, Option, None, Some, Result, Ok, Err, nat_le, if◌then◌else◌}
use Rattle.std.proofs.Common.{refl, sym, ap, subst, ◌∙◌, arith, eqb-true, le-leb, drop-drop, length-drop, length-take}
use Rattle.std.proofs.lemmas.List.{drop-take}
use Rattle.std.proofs.lemmas.Bool.{lt-leb}
use Rattle.send_model.specs.Refusal as meant
use Rattle.send_model.specs.Chain.{◌>>=◌, require}
use Rattle.send_model.specs.Command.{row}
use Rattle.send_model.specs.Spelling.{frame_checksum}
use Rattle.send_model.specs.Reading.{Due, HeaderDue, CommandDue, Frame, stream_version, frame_at, frame_header_len}
use Rattle.send_model.specs.Lengths.{is_truncated}
use Rattle.tlv_frame.specs.Frame.{Head, head_at, checksum_holds}
use Rattle.tlv_frame.specs.Feeding.{Fed, unless_more, next_of, after, fed_after, head_handed, frame_handed, due_past, is_end}
use Rattle.tlv_frame.specs.declared.frame_head.FrameHead.{FrameHead}
use Rattle.tlv_frame.specs.declared.stream_head.StreamHead.{StreamHead}
use Rattle.tlv_frame.specs.InFront.{IsHead, IsFrame}
use Rattle.tlv_frame.proofs.Fronts.{short_version, short_frame, version_front, version_known, head_refused, head_short, same_error}
use Rattle.tlv_frame.proofs.Parts.{frame_in_parts, head_of_ten}
use Rattle.tlv_frame.proofs.Uncut.{header_uncut, head_uncut, checksum_uncut}

-- ---- what is found

refused_still : {A : Type 0} (r : Result A meant.Refusal) (refusal : meant.Refusal) → r ≡ Err refusal → is_truncated refusal ≡ false → unless_more r ≡ Err refusal
refused_still r refusal e whole = ap unless_more e ∙ rw whole refl

pub no_head : (left : List ℕ) → length left < 17 → unless_more (stream_version left) ≡ Ok None
no_head left few = ap unless_more (short_version left few)

pub head_found : (left bytes : List ℕ) (head : StreamHead) → 17 ≤ length left → bytes ≡ take 17 left → stream_version bytes ≡ Ok head.version → IsHead left head
head_found left bytes head long same read =
    let here : stream_version left ≡ Ok head.version = sym (version_front left long) ∙ ap stream_version (sym same) ∙ read in
    record { whole = long; version = here; known = version_known left head.version here }

pub head_bad : (left bytes : List ℕ) (refusal : meant.Refusal) → 17 ≤ length left → bytes ≡ take 17 left → stream_version bytes ≡ Err refusal → unless_more (stream_version left) ≡ Err refusal
head_bad left bytes refusal long same read =
    let here : stream_version left ≡ Err refusal = sym (version_front left long) ∙ ap stream_version (sym same) ∙ read in
    refused_still (stream_version left) refusal here (header_uncut left refusal long here)

pub no_frame : (left : List ℕ) → length left < 10 → unless_more (frame_at left) ≡ Ok None
no_frame left few = ap unless_more (short_frame left few)

-- The header is that of all the bytes.
pub ten_same : (left bytes : List ℕ) (r : Result Head meant.Refusal) → bytes ≡ take 10 left → head_at bytes ≡ r → head_at left ≡ r
ten_same left bytes r same read = sym (head_of_ten left) ∙ ap head_at (sym same) ∙ read

pub frame_bad : (left bytes : List ℕ) (refusal : meant.Refusal) → 10 ≤ length left → bytes ≡ take 10 left → head_at bytes ≡ Err refusal → unless_more (frame_at left) ≡ Err refusal
frame_bad left bytes refusal long same read =
    refused_still (frame_at left) refusal (head_refused left refusal (ten_same left bytes (Err refusal) same read) long) (head_uncut bytes refusal read)

abbrev head_of : FrameHead → Head
head_of head = record { len = head.len; number = head.cmd; stored = head.crc }

pub body_cut : (left bytes : List ℕ) (head : FrameHead) → 10 ≤ length left → bytes ≡ take 10 left → head_at bytes ≡ Ok (head_of head) → length (drop 10 left) < head.len → unless_more (frame_at left) ≡ Ok None
body_cut left bytes head long same read few =
    let there : nat_le frame_header_len (length left) ≡ true = le-leb _ _ long in
    let here : head_at left ≡ Ok (head_of head) = ten_same left bytes _ same read in
    let cut : nat_le head.len (length (drop frame_header_len left)) ≡ false = lt-leb _ _ few in
    let e : frame_at left ≡ Err meant.Truncated = frame_in_parts left ∙ rw (there, here, cut) refl in
    ap unless_more e

pub body_bad : (left bytes : List ℕ) (head : FrameHead) (refusal : meant.Refusal) (behind : List ℕ) → behind ≡ drop 10 left → 10 ≤ length left → bytes ≡ take 10 left → head_at bytes ≡ Ok (head_of head) → head.len ≤ length behind
    → checksum_holds (head_of head) (take head.len behind) ≡ Err refusal → unless_more (frame_at left) ≡ Err refusal
body_bad left bytes head refusal behind is long same read full_there sum_there =
    let full : head.len ≤ length (drop 10 left) = subst (λ (rest : List ℕ). head.len ≤ length rest) is full_there in
    let sum : checksum_holds (head_of head) (take head.len (drop 10 left)) ≡ Err refusal = subst (λ (rest : List ℕ). checksum_holds (head_of head) (take head.len rest) ≡ Err refusal) is sum_there in
    let there : nat_le frame_header_len (length left) ≡ true = le-leb _ _ long in
    let here : head_at left ≡ Ok (head_of head) = ten_same left bytes _ same read in
    let fits : nat_le head.len (length (drop frame_header_len left)) ≡ true = le-leb _ _ full in
    let e : frame_at left ≡ Err refusal = frame_in_parts left ∙ rw (there, here, fits, sum) refl in
    refused_still (frame_at left) refusal e (checksum_uncut (head_of head) _ refusal sum)

sum_right : (head : FrameHead) (body : List ℕ) → checksum_holds (head_of head) body ≡ Ok tt → head.crc ≡ frame_checksum head.len head.cmd body
unfolding checksum_holds
sum_right head body holds = go (head.crc == frame_checksum head.len head.cmd body) refl holds
  where
    go : (b : Bool) → (head.crc == frame_checksum head.len head.cmd body) ≡ b → require b (meant.BadChecksum head.crc (frame_checksum head.len head.cmd body)) ≡ Ok tt → head.crc ≡ frame_checksum head.len head.cmd body
    go true e h = eqb-true _ _ e
    go false e h = cc

pub frame_found : (left bytes : List ℕ) (head : FrameHead) (behind : List ℕ) → behind ≡ drop 10 left → 10 ≤ length left → bytes ≡ take 10 left → head_at bytes ≡ Ok (head_of head) → head.len ≤ length behind
    → checksum_holds (head_of head) (take head.len behind) ≡ Ok tt → IsFrame left head
frame_found left bytes head behind is long same read full_there sum_there =
    let full : head.len ≤ length (drop 10 left) = subst (λ (rest : List ℕ). head.len ≤ length rest) is full_there in
    let sum : checksum_holds (head_of head) (take head.len (drop 10 left)) ≡ Ok tt = subst (λ (rest : List ℕ). checksum_holds (head_of head) (take head.len rest) ≡ Ok tt) is sum_there in
    let there : nat_le frame_header_len (length left) ≡ true = le-leb _ _ long in
    let here : head_at left ≡ Ok (head_of head) = ten_same left bytes _ same read in
    let fits : nat_le head.len (length (drop frame_header_len left)) ≡ true = le-leb _ _ full in
    record {
      whole = omega (arith, full, length-drop 10 left, long);
      short = (head_short left (head_of head) here).0;
      frame = frame_in_parts left ∙ rw (there, here, fits, sum) refl;
      sum = sum_right head (take head.len (drop 10 left)) sum;
    }

-- ---- what is kept

-- A feed whose bytes and places are these.
abbrev fed_at : List ℕ → ℕ → ℕ → Due → Bool → Option meant.Refusal → Fed
fed_at items last start due ended refused = record { left = drop start items; last = drop last (take start items); due = due; ended = ended; refused = refused }

next_head : (fed : Fed) (version : ℕ) → fed.due ≡ HeaderDue → fed.refused ≡ None → stream_version fed.left ≡ Ok version → next_of fed ≡ Ok (Some (head_handed version))
next_head fed version due good read = rw (good, due, read) refl

next_frame : (fed : Fed) (version : ℕ) (frame : Frame) → fed.due ≡ CommandDue version → fed.refused ≡ None → frame_at fed.left ≡ Ok frame → next_of fed ≡ Ok (Some (frame_handed version frame.number frame.body))
next_frame fed version frame due good read = rw (good, due, read) refl

carried : {A B : Type 0} (r : Result A meant.Refusal) (k : A → B) (refusal : meant.Refusal) → unless_more r ≡ Err refusal → unless_more (r >>= λ x. Ok (k x)) ≡ Err refusal
carried (Ok x) k refusal e = cc
carried {A = A} {B = B} (Err r) k refusal e = by_cut (is_truncated r) e
  where
    by_cut : (b : Bool) → ◌≡◌ {A = Result (Option A) meant.Refusal} (if b then Ok None else Err r) (Err refusal) → ◌≡◌ {A = Result (Option B) meant.Refusal} (if b then Ok None else Err r) (Err refusal)
    by_cut true e = cc
    by_cut false e = same_error e

none_carried : {A B : Type 0} (r : Result A meant.Refusal) (k : A → B) → unless_more r ≡ Ok None → unless_more (r >>= λ x. Ok (k x)) ≡ Ok None
none_carried (Ok x) k e = cc
none_carried {A = A} {B = B} (Err r) k e = by_cut (is_truncated r) e
  where
    by_cut : (b : Bool) → ◌≡◌ {A = Result (Option A) meant.Refusal} (if b then Ok None else Err r) (Ok None) → ◌≡◌ {A = Result (Option B) meant.Refusal} (if b then Ok None else Err r) (Ok None)
    by_cut true e = refl
    by_cut false e = cc

-- What is kept then.
pub none_kept : (fed : Fed) → next_of fed ≡ Ok None → fed ≡ fed_after fed
none_kept fed e = sym (ap (after fed) e)

-- Further on by so many bytes.
further : (items : List ℕ) (start count : ℕ) (due : Due) (ended : Bool) (refused : Option meant.Refusal) → refused ≡ None
    → fed_at items start (start + count) due ended refused ≡ record { left = drop count (drop start items); last = take count (drop start items); due = due; ended = ended; refused = None }
further items start count due ended refused none = rw (none, drop-drop count start items, drop-take start count items) refl

pub head_next : (fed : Fed) (left : List ℕ) (head : StreamHead) → left ≡ fed.left → fed.due ≡ HeaderDue → fed.refused ≡ None → IsHead left head → next_of fed ≡ Ok (Some (head_handed head.version))
head_next fed left head same due good h = next_head fed head.version due good (ap stream_version (sym same) ∙ h.version)

pub head_passed : (items : List ℕ) (last start : ℕ) (due : Due) (ended : Bool) (refused : Option meant.Refusal) (version : ℕ) → refused ≡ None → next_of (fed_at items last start due ended refused) ≡ Ok (Some (head_handed version))
    → fed_at items start (start + 17) (CommandDue version) false refused ≡ fed_after (fed_at items last start due ended refused)
head_passed items last start due ended refused version good e = further items start 17 (CommandDue version) false refused good ∙ sym (ap (after (fed_at items last start due ended refused)) e)

abbrev pub body_in : List ℕ → FrameHead → List ℕ
body_in left head = take head.len (drop 10 left)

pub frame_next : (fed : Fed) (left : List ℕ) (version : ℕ) (head : FrameHead) → left ≡ fed.left → fed.due ≡ CommandDue version → fed.refused ≡ None → IsFrame left head → next_of fed ≡ Ok (Some (frame_handed version head.cmd (body_in fed.left head)))
frame_next fed left version head same due good f =
    next_frame fed version (record { number = head.cmd; body = body_in fed.left head; rest = drop head.len (drop 10 fed.left) }) due good
    (ap frame_at (sym same) ∙ f.frame ∙ (let F : List ℕ → Result Frame meant.Refusal = λ l. Ok (record { number = head.cmd; body = body_in l head; rest = drop head.len (drop 10 l) }) in ap F same))

body_size : (left : List ℕ) (head : FrameHead) → 10 + head.len ≤ length left → length (body_in left head) ≡ head.len
body_size left head whole = length-take head.len (drop 10 left) ∙ omega (arith, whole, length-drop 10 left)

pub frame_passed : (items : List ℕ) (last start : ℕ) (due : Due) (ended : Bool) (refused : Option meant.Refusal) (version : ℕ) (head : FrameHead) → 10 + head.len ≤ length (drop start items) → refused ≡ None
    → next_of (fed_at items last start due ended refused) ≡ Ok (Some (frame_handed version head.cmd (body_in (drop start items) head)))
    → fed_at items start (start + (10 + head.len)) (due_past version head.cmd) (is_end head.cmd) refused ≡ fed_after (fed_at items last start due ended refused)
frame_passed items last start due ended refused version head whole good e =
    further items start (10 + head.len) (due_past version head.cmd) (is_end head.cmd) refused good
    ∙ (let F : ℕ → Fed = λ n. record { left = drop (10 + n) (drop start items); last = take (10 + n) (drop start items); due = due_past version head.cmd; ended = is_end head.cmd; refused = None } in ap F (sym (body_size (drop start items) head whole)))
    ∙ sym (ap (after (fed_at items last start due ended refused)) e)

-- The number of END.
pub end_is : (number : ℕ) → (number == 21) ≡ is_end number
unfolding row
end_is number = refl

-- The bytes of a frame that was gone past.
pub last_size : (items : List ℕ) (start len : ℕ) → 10 + len ≤ length (drop start items) → length (drop start (take (start + (10 + len)) items)) ≡ 10 + len
last_size items start len whole = ap (λ (l : List ℕ). length l) (drop-take start (10 + len) items) ∙ length-take (10 + len) (drop start items) ∙ omega (arith, whole)

pub last_body : (items : List ℕ) (start len : ℕ) → take len (drop 10 (drop start items)) ≡ drop 10 (drop start (take (start + (10 + len)) items))
last_body items start len = sym (ap (drop 10) (drop-take start (10 + len) items) ∙ drop-take 10 len (drop start items))

-- The body of the last frame, as a slice of all bytes.
pub frame_slice : (items row : List ℕ) (last start len : ℕ) → row ≡ items → length (drop last (take start items)) ≡ 10 + len → take (start - (last + 10)) (drop (last + 10) row) ≡ drop 10 (drop last (take start items))
frame_slice items row last start len same size =
    let fits : last + 10 ≤ start = omega (arith, size, length-drop last (take start items), length-take start items) in
    let whole : start ≡ (last + 10) + (start - (last + 10)) = omega (arith, fits) in
    ap (λ (l : List ℕ). take (start - (last + 10)) (drop (last + 10) l)) same
    ∙ sym (drop-drop 10 last (take start items) ∙ ap (λ (n : ℕ). drop (last + 10) (take n items)) whole ∙ drop-take (last + 10) (start - (last + 10)) items)
