-- Bytes behind those that a feed has change nothing of what stands whole in front of them.
use Rattle.std.specs.Prelude.{◌≡◌, ℕ, ◌+◌, ◌<◌, ◌≤◌, Bool, true, false, List, ◌++◌, length, take, drop, Option, None, Some, Result, Ok, Err, nat_le, if◌then◌else◌}
use Rattle.std.proofs.Common.{refl, sym, ap, subst, ◌∙◌, arith, le-leb, length-append, length-take, length-drop, drop-drop}
use Rattle.std.proofs.lemmas.List.{take-append-le, drop-append-le}
use Rattle.std.proofs.lemmas.Bool.{leb-true, leb-false, true≢false}
use Rattle.send_model.specs.Refusal as meant
use Rattle.send_model.specs.Chain.{◌>>=◌, ◌>>◌}
use Rattle.send_model.specs.Spelling.{greatest_body}
use Rattle.send_model.specs.Reading.{Due, HeaderDue, CommandDue, Frame, stream_version, frame_at, frame_header_len}
use Rattle.send_model.specs.Lengths.{is_truncated}
use Rattle.send_model.proofs.Fuel.{header_there, required, bound, tested, ok_same}
use Rattle.tlv_frame.specs.Frame.{Head, head_at, checksum_holds}
use Rattle.tlv_frame.specs.Feeding.{Handed, Fed, handed, head_handed, frame_handed, unless_more, next_of}
use Rattle.tlv_frame.proofs.Fronts.{short_version, short_frame, version_front, head_refused, head_short, same_error}
use Rattle.tlv_frame.proofs.Parts.{frame_in_parts, head_of_ten}
use Rattle.tlv_frame.proofs.Uncut.{header_uncut, head_uncut, checksum_uncut}

-- Refused as cut short.
abbrev pub is_cut : {A : Type 0} → Result A meant.Refusal → Bool
is_cut (Ok x) = false
is_cut (Err refusal) = is_truncated refusal

not_cut : {A : Type 0} {B : Type 0} (r : Result A meant.Refusal) → r ≡ Err meant.Truncated → is_cut r ≡ false → B
not_cut r e whole = absurd (true≢false (sym (ap is_cut e) ∙ whole))

-- ---- the header of a stream

version_same : (left more : List ℕ) → 17 ≤ length left → stream_version (left ++ more) ≡ stream_version left
version_same left more long =
    sym (version_front (left ++ more) (omega (arith, long, length-append left more)))
    ∙ ap stream_version (take-append-le 17 left more long)
    ∙ version_front left long

pub version_grows : (left more : List ℕ) → is_cut (stream_version left) ≡ false → stream_version (left ++ more) ≡ stream_version left
version_grows left more whole = by_length (nat_le 17 (length left)) refl
  where
    by_length : (b : Bool) → nat_le 17 (length left) ≡ b → stream_version (left ++ more) ≡ stream_version left
    by_length true q = version_same left more (leb-true 17 (length left) q)
    by_length false q = not_cut (stream_version left) (short_version left (leb-false 17 (length left) q)) whole

-- ---- a frame

head_same : (left more : List ℕ) → 10 ≤ length left → head_at (left ++ more) ≡ head_at left
head_same left more long = sym (head_of_ten (left ++ more)) ∙ ap head_at (take-append-le 10 left more long) ∙ head_of_ten left

-- The frame of a header whose body is there.
abbrev with_body : Head → List ℕ → Result Frame meant.Refusal
with_body head behind = checksum_holds head (take head.len behind) >> Ok (record { number = head.number; body = take head.len behind; rest = drop head.len behind })

body_there : (left : List ℕ) (head : Head) → 10 ≤ length left → head_at left ≡ Ok head → head.len ≤ length (drop 10 left) → frame_at left ≡ with_body head (drop 10 left)
body_there left head long here full =
    let there : nat_le frame_header_len (length left) ≡ true = le-leb _ _ long in
    let fits : nat_le head.len (length (drop frame_header_len left)) ≡ true = le-leb _ _ full in
    frame_in_parts left ∙ rw (there, here, fits) refl

body_cut : (left : List ℕ) (head : Head) → 10 ≤ length left → head_at left ≡ Ok head → nat_le head.len (length (drop 10 left)) ≡ false → frame_at left ≡ Err meant.Truncated
body_cut left head long here few =
    let there : nat_le frame_header_len (length left) ≡ true = le-leb _ _ long in
    frame_in_parts left ∙ rw (there, here, few) refl

-- The same frame, with more behind it.
abbrev pub with_more : List ℕ → Result Frame meant.Refusal → Result Frame meant.Refusal
with_more more (Ok frame) = Ok (record { number = frame.number; body = frame.body; rest = frame.rest ++ more })
with_more more (Err refusal) = Err refusal

more_behind : (head : Head) (behind more : List ℕ) → head.len ≤ length behind → with_body head (behind ++ more) ≡ with_more more (with_body head behind)
more_behind head behind more full =
    let bytes : take head.len (behind ++ more) ≡ take head.len behind = take-append-le head.len behind more full in
    let rest : drop head.len (behind ++ more) ≡ drop head.len behind ++ more = drop-append-le head.len behind more full in
    rw (bytes, rest) (by_sum (checksum_holds head (take head.len behind)))
  where
    by_sum : (t : Result (Unit {0}) meant.Refusal)
        → (t >> Ok (record { number = head.number; body = take head.len behind; rest = drop head.len behind ++ more })) ≡ with_more more (t >> Ok (record { number = head.number; body = take head.len behind; rest = drop head.len behind }))
    by_sum (Ok u) = refl
    by_sum (Err refusal) = refl

pub frame_grows : (left more : List ℕ) → is_cut (frame_at left) ≡ false → frame_at (left ++ more) ≡ with_more more (frame_at left)
frame_grows left more whole = by_length (nat_le 10 (length left)) refl
  where
    longer : 10 ≤ length left → 10 ≤ length (left ++ more)
    longer long = omega (arith, long, length-append left more)

    by_body : (head : Head) → 10 ≤ length left → head_at left ≡ Ok head → (b : Bool) → nat_le head.len (length (drop 10 left)) ≡ b → frame_at (left ++ more) ≡ with_more more (frame_at left)
    by_body head long here false q = not_cut (frame_at left) (body_cut left head long here q) whole
    by_body head long here true q =
        let full : head.len ≤ length (drop 10 left) = leb-true head.len (length (drop 10 left)) q in
        let dropped : drop 10 (left ++ more) ≡ drop 10 left ++ more = drop-append-le 10 left more long in
        let full_more : head.len ≤ length (drop 10 (left ++ more)) = subst (λ (l : List ℕ). head.len ≤ length l) (sym dropped) (omega (arith, full, length-append (drop 10 left) more)) in
        body_there (left ++ more) head (longer long) (head_same left more long ∙ here) full_more
        ∙ ap (with_body head) dropped
        ∙ more_behind head (drop 10 left) more full
        ∙ sym (ap (with_more more) (body_there left head long here full))

    by_head : (r : Result Head meant.Refusal) → 10 ≤ length left → head_at left ≡ r → frame_at (left ++ more) ≡ with_more more (frame_at left)
    by_head (Err refusal) long e = head_refused (left ++ more) refusal (head_same left more long ∙ e) (longer long) ∙ sym (ap (with_more more) (head_refused left refusal e long))
    by_head (Ok head) long e = by_body head long e (nat_le head.len (length (drop 10 left))) refl

    by_length : (b : Bool) → nat_le 10 (length left) ≡ b → frame_at (left ++ more) ≡ with_more more (frame_at left)
    by_length false q = not_cut (frame_at left) (short_frame left (leb-false 10 (length left) q)) whole
    by_length true q = by_head (head_at left) (leb-true 10 (length left) q) refl

-- A frame lies in the bytes, and what follows it is what follows so many bytes.
pub frame_within : (left : List ℕ) (frame : Frame) → frame_at left ≡ Ok frame → (10 + length frame.body ≤ length left) × (frame.rest ≡ drop (10 + length frame.body) left)
frame_within left frame e =
    let one = required (nat_le frame_header_len (length left)) meant.Truncated _ frame (sym (frame_in_parts left) ∙ e) in
    let two = bound (head_at left) _ frame one.1 in
    let head : Head = two.0 in
    let three = required (nat_le head.len (length (drop frame_header_len left))) meant.Truncated _ frame two.2 in
    let four = tested (checksum_holds head (take head.len (drop frame_header_len left))) _ frame three.1 in
    let made : Frame = record { number = head.number; body = take head.len (drop 10 left); rest = drop head.len (drop 10 left) } in
    let same : made ≡ frame = ok_same four.1 in
    let long : 10 ≤ length left = leb-true 10 (length left) one.0 in
    let full : head.len ≤ length (drop 10 left) = leb-true head.len (length (drop 10 left)) three.0 in
    let size : length (take head.len (drop 10 left)) ≡ head.len = length-take head.len (drop 10 left) ∙ omega (arith, full) in
    let T : Frame → Type 0 = λ f. (10 + length f.body ≤ length left) × (f.rest ≡ drop (10 + length f.body) left) in
    subst T same (omega (arith, size, full, length-drop 10 left, long), drop-drop head.len 10 left ∙ ap (λ (n : ℕ). drop (10 + n) left) (sym size))

-- ---- either

uncut_bound : {A B : Type 0} (r : Result A meant.Refusal) (k : A → B) → is_cut (r >>= λ x. Ok (k x)) ≡ false → is_cut r ≡ false
uncut_bound (Ok x) k e = refl
uncut_bound (Err refusal) k e = e

frame_kept : (version : ℕ) (more : List ℕ) (r : Result Frame meant.Refusal) → (with_more more r >>= λ frame. Ok (frame_handed version frame.number frame.body)) ≡ (r >>= λ frame. Ok (frame_handed version frame.number frame.body))
frame_kept version more (Ok frame) = refl
frame_kept version more (Err refusal) = refl

-- What is handed out of bytes, or refused of them, is so of more bytes.
pub handed_grows : (due : Due) (left more : List ℕ) → is_cut (handed due left) ≡ false → handed due (left ++ more) ≡ handed due left
handed_grows HeaderDue left more whole = ap (λ (r : Result ℕ meant.Refusal). r >>= λ version. Ok (head_handed version)) (version_grows left more (uncut_bound (stream_version left) head_handed whole))
handed_grows (CommandDue version) left more whole =
    ap (λ (r : Result Frame meant.Refusal). r >>= λ frame. Ok (frame_handed version frame.number frame.body)) (frame_grows left more (uncut_bound (frame_at left) (λ frame. frame_handed version frame.number frame.body) whole))
    ∙ frame_kept version more (frame_at left)

-- It lies in the bytes.
pub handed_within : (due : Due) (left : List ℕ) (h : Handed) → handed due left ≡ Ok h → h.taken ≤ length left
handed_within HeaderDue left h e =
    let a = bound (stream_version left) (λ version. Ok (head_handed version)) h e in
    let T : Handed → Type 0 = λ x. x.taken ≤ length left in
    subst T (ok_same a.2) (header_there left a.0 a.1)
handed_within (CommandDue version) left h e =
    let a = bound (frame_at left) (λ frame. Ok (frame_handed version frame.number frame.body)) h e in
    let T : Handed → Type 0 = λ x. x.taken ≤ length left in
    subst T (ok_same a.2) (frame_within left a.0 a.1).0

-- ---- what a feed hands out next

-- Where a feed hands out, its bytes stand in front; where it refuses or waits, they are refused or
-- cut short.
pub handed_next : (fed : Fed) (h : Handed) → next_of fed ≡ Ok (Some h) → (fed.refused ≡ None) × (handed fed.due fed.left ≡ Ok h)
handed_next fed h e = by_refused fed.refused refl e
  where
    some : (r : Result Handed meant.Refusal) → unless_more r ≡ Ok (Some h) → r ≡ Ok h
    some (Ok x) q = let inner : Result (Option Handed) meant.Refusal → Handed = λ o. elim o [ Ok y ↦ elim y [ None ↦ h | Some z ↦ z ] | Err refusal ↦ h ] in ap (λ (x : Handed). Ok x) (ap inner q)
    some (Err refusal) q = by_cut (is_truncated refusal) q
      where
        by_cut : (b : Bool) → ◌≡◌ {A = Result (Option Handed) meant.Refusal} (if b then Ok None else Err refusal) (Ok (Some h)) → Err refusal ≡ Ok h
        by_cut true q = cc
        by_cut false q = cc

    by_refused : (o : Option meant.Refusal) → fed.refused ≡ o → elim o as (λ x. Result (Option Handed) meant.Refusal) [ None ↦ unless_more (handed fed.due fed.left) | Some refusal ↦ Err refusal ] ≡ Ok (Some h) → (o ≡ None) × (handed fed.due fed.left ≡ Ok h)
    by_refused None is q = (refl, some (handed fed.due fed.left) q)
    by_refused (Some refusal) is q = cc

pub refused_next : (fed : Fed) (refusal : meant.Refusal) → fed.refused ≡ None → next_of fed ≡ Err refusal → (handed fed.due fed.left ≡ Err refusal) × (is_truncated refusal ≡ false)
refused_next fed refusal good e = by_next (handed fed.due fed.left) (sym (ap (λ (o : Option meant.Refusal). elim o as (λ x. Result (Option Handed) meant.Refusal) [ None ↦ unless_more (handed fed.due fed.left) | Some r ↦ Err r ]) good) ∙ e)
  where
    by_cut : (b : Bool) (kept : meant.Refusal) → is_truncated kept ≡ b → ◌≡◌ {A = Result (Option Handed) meant.Refusal} (if b then Ok None else Err kept) (Err refusal)
        → (◌≡◌ {A = Result Handed meant.Refusal} (Err kept) (Err refusal)) × (is_truncated refusal ≡ false)
    by_cut true kept is q = cc
    by_cut false kept is q =
        let same : ◌≡◌ {A = Result Handed meant.Refusal} (Err kept) (Err refusal) = same_error q in
        (same, sym (ap is_cut same) ∙ is)

    by_next : (r : Result Handed meant.Refusal) → unless_more r ≡ Err refusal → (r ≡ Err refusal) × (is_truncated refusal ≡ false)
    by_next (Ok h) q = cc
    by_next (Err kept) q = by_cut (is_truncated kept) kept refl q

truncated_is : (refusal : meant.Refusal) → is_truncated refusal ≡ true → refusal ≡ meant.Truncated
truncated_is meant.Truncated e = refl
truncated_is _ e = cc

pub waits_next : (fed : Fed) → next_of fed ≡ Ok None → (fed.refused ≡ None) × (handed fed.due fed.left ≡ Err meant.Truncated)
waits_next fed e = by_refused fed.refused e
  where
    by_cut : (b : Bool) (kept : meant.Refusal) → is_truncated kept ≡ b → ◌≡◌ {A = Result (Option Handed) meant.Refusal} (if b then Ok None else Err kept) (Ok None) → ◌≡◌ {A = Result Handed meant.Refusal} (Err kept) (Err meant.Truncated)
    by_cut true kept is q = ap (λ (r : meant.Refusal). Err r) (truncated_is kept is)
    by_cut false kept is q = cc

    by_next : (r : Result Handed meant.Refusal) → unless_more r ≡ Ok None → r ≡ Err meant.Truncated
    by_next (Ok h) q = cc
    by_next (Err kept) q = by_cut (is_truncated kept) kept refl q

    by_refused : (o : Option meant.Refusal) → elim o as (λ x. Result (Option Handed) meant.Refusal) [ None ↦ unless_more (handed fed.due fed.left) | Some refusal ↦ Err refusal ] ≡ Ok None → (o ≡ None) × (handed fed.due fed.left ≡ Err meant.Truncated)
    by_refused None q = (refl, by_next (handed fed.due fed.left) q)
    by_refused (Some refusal) q = cc

-- ---- room

cut_bound : {A B : Type 0} (r : Result A meant.Refusal) (k : A → B) → (r >>= λ x. Ok (k x)) ≡ Err meant.Truncated → r ≡ Err meant.Truncated
cut_bound (Ok x) k e = cc
cut_bound (Err refusal) k e = same_error e

few_for_header : (left : List ℕ) → stream_version left ≡ Err meant.Truncated → length left < 17
few_for_header left e = by_length (nat_le 17 (length left)) refl
  where
    by_length : (b : Bool) → nat_le 17 (length left) ≡ b → length left < 17
    by_length false q = leb-false 17 (length left) q
    by_length true q = absurd (true≢false (header_uncut left meant.Truncated (leb-true 17 (length left) q) e))

few_for_frame : (left : List ℕ) → frame_at left ≡ Err meant.Truncated → length left < 10 + greatest_body
few_for_frame left e = by_length (nat_le (10 + greatest_body) (length left)) refl
  where
    by_sum : (head : Head) (frame : Frame) (t : Result (Unit {0}) meant.Refusal) → checksum_holds head (take head.len (drop 10 left)) ≡ t → (t >> Ok frame) ≡ Err meant.Truncated → length left < 10 + greatest_body
    by_sum head frame (Ok u) s q = cc
    by_sum head frame (Err refusal) s q = absurd (true≢false (sym (ap is_cut q) ∙ checksum_uncut head (take head.len (drop 10 left)) refusal s))

    by_head : (r : Result Head meant.Refusal) → 10 + greatest_body ≤ length left → head_at left ≡ r → length left < 10 + greatest_body
    by_head (Err refusal) long q =
        let same = sym (head_refused left refusal q (omega (arith, long))) ∙ e in
        absurd (true≢false (sym (ap is_cut same) ∙ head_uncut left refusal q))
    by_head (Ok head) long q =
        let full : head.len ≤ length (drop 10 left) = omega (arith, (head_short left head q).0, long, length-drop 10 left) in
        by_sum head (record { number = head.number; body = take head.len (drop 10 left); rest = drop head.len (drop 10 left) }) (checksum_holds head (take head.len (drop 10 left))) refl (sym (body_there left head (omega (arith, long)) q full) ∙ e)

    by_length : (b : Bool) → nat_le (10 + greatest_body) (length left) ≡ b → length left < 10 + greatest_body
    by_length false q = leb-false (10 + greatest_body) (length left) q
    by_length true q = by_head (head_at left) (leb-true (10 + greatest_body) (length left) q) refl

-- A feed that waits for more has room for more.
pub waits_short : (fed : Fed) → next_of fed ≡ Ok None → length fed.left < 10 + greatest_body
waits_short fed e = by_due fed.due (waits_next fed e).1
  where
    by_due : (due : Due) → handed due fed.left ≡ Err meant.Truncated → length fed.left < 10 + greatest_body
    by_due HeaderDue q = let few = few_for_header fed.left (cut_bound (stream_version fed.left) head_handed q) in omega (arith, few)
    by_due (CommandDue version) q = few_for_frame fed.left (cut_bound (frame_at fed.left) (λ frame. frame_handed version frame.number frame.body) q)
