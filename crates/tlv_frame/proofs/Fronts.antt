-- What the bytes in front of a list say of all of it: the header of a stream, the header of a
-- frame, its body.
use Rattle.std.specs.Prelude.{◌≡◌, ℕ, ◌+◌, ◌<◌, ◌≤◌, Bool, true, false, List, length, take, drop, Result, Ok, Err, nat_le, nat_lt}
use Rattle.std.proofs.Common.{refl, ap, subst, ◌∙◌, arith, length-take, le-leb, ltb-false, lit≤}
use Rattle.std.specs.Str.{bytes_eq}
use Rattle.std.specs.Int.{w16, w32, from_le_bytes}
use Rattle.std.proofs.lemmas.List.{take-take, drop-take}
use Rattle.std.proofs.lemmas.Bool.{lt-leb}
use Rattle.send_model.specs.Refusal as meant
use Rattle.send_model.specs.Chain.{◌>>◌, refuse_if}
use Rattle.send_model.specs.Spelling.{magic, greatest_body}
use Rattle.send_model.specs.Reading.{stream_version, header_len, frame_header_len, number16, number32, is_version, frame_at, frame_with}
use Rattle.send_model.proofs.Fuel.{not_refused, required, ok_same}
use Rattle.tlv_frame.specs.Frame.{Head, head_at}

abbrev pub error_or : {X : Type 0} → meant.Refusal → Result X meant.Refusal → meant.Refusal
error_or d (Ok x) = d
error_or d (Err r) = r

abbrev IsOk : {X : Type 0} → Result X meant.Refusal → Type 0
IsOk (Ok x) = Unit {0}
IsOk (Err r) = ⊥

pub short_version : (bytes : List ℕ) → length bytes < 17 → stream_version bytes ≡ Err meant.Truncated
unfolding stream_version
short_version bytes h = let no : nat_le header_len (length bytes) ≡ false = lt-leb _ _ h in rw no refl

pub short_frame : (bytes : List ℕ) → length bytes < 10 → frame_at bytes ≡ Err meant.Truncated
unfolding frame_at
short_frame bytes h = let no : nat_le frame_header_len (length bytes) ≡ false = lt-leb _ _ h in rw no refl

pub front16 : (bytes : List ℕ) (m n : ℕ) → 2 ≤ n → number16 (drop m (take (m + n) bytes)) ≡ number16 (drop m bytes)
unfolding number16
front16 bytes m n h = ap (λ (r : List ℕ). from_le_bytes w16 (take 2 r)) (drop-take m n bytes) ∙ ap (from_le_bytes w16) (take-take 2 n (drop m bytes) h)

pub front32 : (bytes : List ℕ) (m n : ℕ) → 4 ≤ n → number32 (drop m (take (m + n) bytes)) ≡ number32 (drop m bytes)
unfolding number32
front32 bytes m n h = ap (λ (r : List ℕ). from_le_bytes w32 (take 4 r)) (drop-take m n bytes) ∙ ap (from_le_bytes w32) (take-take 4 n (drop m bytes) h)

-- The header of a stream is read from its 17 bytes alone.
pub version_front : (bytes : List ℕ) → 17 ≤ length bytes → stream_version (take 17 bytes) ≡ stream_version bytes
unfolding stream_version
version_front bytes h =
    let long : nat_le header_len (length bytes) ≡ true = le-leb _ _ h in
    let short : nat_le header_len (length (take 17 bytes)) ≡ true = le-leb _ _ (rw length-take (omega (arith, h))) in
    let text : take 13 (take 17 bytes) ≡ take 13 bytes = take-take 13 17 bytes (lit≤ tt) in
    let version : number32 (drop 13 (take 17 bytes)) ≡ number32 (drop 13 bytes) = front32 bytes 13 4 (lit≤ tt) in
    rw (long, short, text, version) refl

pub same_error : {X Y : Type 0} {a b : meant.Refusal} → ◌≡◌ {A = Result X meant.Refusal} (Err a) (Err b) → ◌≡◌ {A = Result Y meant.Refusal} (Err a) (Err b)
same_error {a = a} e = let f : Result _ meant.Refusal → Result _ meant.Refusal = λ r. Err (error_or a r) in ap f e

-- ---- the frame

pub head_short : (bytes : List ℕ) (head : Head) → head_at bytes ≡ Ok head → (head.len ≤ greatest_body) × (number32 bytes ≡ head.len) × (number16 (drop 4 bytes) ≡ head.number) × (number32 (drop 6 bytes) ≡ head.stored)
unfolding head_at
head_short bytes head e =
    let made : Head = record { len = number32 bytes; number = number16 (drop 4 bytes); stored = number32 (drop 6 bytes) } in
    let a = not_refused (nat_lt greatest_body (number32 bytes)) (meant.LongCommand (number32 bytes)) (Ok made) head e in
    let same : made ≡ head = ok_same a.1 in
    let len : number32 bytes ≡ head.len = ap (λ (h : Head). h.len) same in
    (subst (λ (n : ℕ). n ≤ greatest_body) len (ltb-false _ _ a.0), len, ap (λ (h : Head). h.number) same, ap (λ (h : Head). h.stored) same)

pub refused_first : {X Y : Type 0} (b : Bool) (refusal refusal' : meant.Refusal) (x : Result X meant.Refusal) (rest : Result Y meant.Refusal) → IsOk x → (refuse_if b refusal >> x) ≡ Err refusal' → (refuse_if b refusal >> rest) ≡ Err refusal'
refused_first true refusal refusal' x rest ok e = same_error e
refused_first false refusal refusal' (Ok x) rest ok e = cc
refused_first false refusal refusal' (Err r) rest ok e = absurd ok

pub head_refused : (bytes : List ℕ) (refusal : meant.Refusal) → head_at bytes ≡ Err refusal → 10 ≤ length bytes → frame_at bytes ≡ Err refusal
unfolding head_at frame_at frame_with
head_refused bytes refusal e long =
    let there : nat_le frame_header_len (length bytes) ≡ true = le-leb _ _ long in
    let made : Head = record { len = number32 bytes; number = number16 (drop 4 bytes); stored = number32 (drop 6 bytes) } in
    rw there (refused_first (nat_lt greatest_body (number32 bytes)) (meant.LongCommand (number32 bytes)) refusal (Ok made) _ tt e)

-- A version that was read is known.
pub version_known : (bytes : List ℕ) (version : ℕ) → stream_version bytes ≡ Ok version → is_version version ≡ true
unfolding stream_version
version_known bytes version e =
    let n = number32 (drop 13 bytes) in
    let one = required (nat_le header_len (length bytes)) meant.Truncated _ version e in
    let two = required (bytes_eq (take 13 bytes) magic) meant.BadMagic _ version one.1 in
    let three = required (is_version n) (meant.BadVersion n) (Ok n) version two.1 in
    subst (λ (v : ℕ). is_version v ≡ true) (ok_same three.1) three.0
