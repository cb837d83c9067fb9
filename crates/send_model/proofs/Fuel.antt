-- Reading depends on its bound for the number of commands no more than that it is large enough.
use Rattle.std.specs.Prelude.{◌≡◌, ℕ, zero, suc, ◌+◌, ◌-◌, ◌<◌, ◌≤◌, Bool, true, false, List, length, take, drop, Result, Ok, Err, nat_le, nat_lt, ◌==◌, if◌then◌else◌}
use Rattle.std.proofs.Common.{refl, sym, ap, ◌∙◌, arith, length-drop}
use Rattle.std.proofs.lemmas.Bool.{leb-true}
use Rattle.send_model.specs.Refusal.{Refusal, Truncated, LongCommand, BadChecksum}
use Rattle.send_model.specs.Chain.{◌>>=◌, ◌>>◌, require, refuse_if}
use Rattle.send_model.specs.Command.{Command}
use Rattle.send_model.specs.Spelling.{frame_checksum, greatest_body, Attribute}
use Rattle.send_model.specs.Reading.{Reading, Due, HeaderDue, CommandDue, due_after, may_end, with_item, go_on, ended, faulty, Frame, Front, frame_at, frame_with, front_of, attributes_at, command_of, data_place, stream_version, header_len, frame_header_len, reads_from, number16, number32}

-- A test that passed lets the chain go on.
pub required : {B : Type 0} (b : Bool) (refusal : Refusal) (rest : Result B Refusal) (x : B) → (require b refusal >> rest) ≡ Ok x → (b ≡ true) × (rest ≡ Ok x)
required true refusal rest x e = (refl, e)
required false refusal rest x e = cc

pub not_refused : {B : Type 0} (b : Bool) (refusal : Refusal) (rest : Result B Refusal) (x : B) → (refuse_if b refusal >> rest) ≡ Ok x → (b ≡ false) × (rest ≡ Ok x)
not_refused true refusal rest x e = cc
not_refused false refusal rest x e = (refl, e)

pub tested : {B : Type 0} (t : Result (Unit {0}) Refusal) (rest : Result B Refusal) (x : B) → (t >> rest) ≡ Ok x → (t ≡ Ok tt) × (rest ≡ Ok x)
tested (Ok u) rest x e = (refl, e)
tested (Err refusal) rest x e = cc

pub bound : {A B : Type 0} (r : Result A Refusal) (k : A → Result B Refusal) (x : B) → (r >>= k) ≡ Ok x → (a : A) × (r ≡ Ok a) × (k a ≡ Ok x)
bound (Ok a) k x e = (a, refl, e)
bound (Err refusal) k x e = cc

pub ok_same : {A : Type 0} {x y : A} → ◌≡◌ {A = Result A Refusal} (Ok x) (Ok y) → x ≡ y
ok_same {x = x} e = ap (λ r. ok_or_else r x) e
  where
    ok_or_else : {A : Type 0} → Result A Refusal → A → A
    ok_or_else (Ok a) d = a
    ok_or_else (Err refusal) d = d

-- A header that reads has its bytes, and so has a frame.
pub header_there : (bytes : List ℕ) (version : ℕ) → stream_version bytes ≡ Ok version → header_len ≤ length bytes
unfolding stream_version
header_there bytes version e = leb-true _ _ (required (nat_le header_len (length bytes)) _ _ version e).0

frame_rest : (len number stored : ℕ) (after : List ℕ) (frame : Frame) → frame_with len number stored after ≡ Ok frame → frame.rest ≡ drop len after
unfolding frame_with
frame_rest len number stored after frame e =
    let made : Frame = record { number = number; body = take len after; rest = drop len after } in
    let checked : Result Frame Refusal = require (stored == frame_checksum len number (take len after)) (BadChecksum stored (frame_checksum len number (take len after))) >> Ok made in
    let a = not_refused (nat_lt greatest_body len) (LongCommand len) (require (nat_le len (length after)) Truncated >> checked) frame e in
    let b = required (nat_le len (length after)) Truncated checked frame a.1 in
    let c = required (stored == frame_checksum len number (take len after)) (BadChecksum stored (frame_checksum len number (take len after))) (Ok made) frame b.1 in
    let same : made ≡ frame = ok_same c.1 in
    sym (ap (λ (f : Frame). f.rest) same)

pub frame_shorter : (bytes : List ℕ) (frame : Frame) → frame_at bytes ≡ Ok frame → length frame.rest + frame_header_len ≤ length bytes
unfolding frame_at
frame_shorter bytes frame e =
    let after : List ℕ = drop frame_header_len bytes in
    let a = required (nat_le frame_header_len (length bytes)) Truncated (frame_with (number32 bytes) (number16 (drop 4 bytes)) (number32 (drop 6 bytes)) after) frame e in
    let long = leb-true frame_header_len (length bytes) a.0 in
    let rest = ap (λ (r : List ℕ). length r) (frame_rest (number32 bytes) (number16 (drop 4 bytes)) (number32 (drop 6 bytes)) after frame a.1) ∙ length-drop (number32 bytes) after in
    omega (arith, long, rest, length-drop frame_header_len bytes)

pub front_shorter : (file version number offset : ℕ) (bytes : List ℕ) (front : Front) → front_of file version number offset bytes ≡ Ok front → length front.rest + frame_header_len ≤ length bytes
unfolding front_of
front_shorter file version number offset bytes front e =
    let made : Frame → List Attribute → Command → Front = λ frame attributes command. record {
      item = record { file = file; number = number; offset = offset; version = version; data_at = data_place version offset attributes; command = command };
      rest = frame.rest;
    } in
    let last : Frame → List Attribute → Result Front Refusal = λ frame attributes. command_of version frame.number attributes >>= λ command. Ok (made frame attributes command) in
    let a = bound (frame_at bytes) (λ frame. attributes_at version frame.body >>= last frame) front e in
    let b = bound (attributes_at version a.0.body) (last a.0) front a.2 in
    let d = bound (command_of version a.0.number b.0) (λ command. Ok (made a.0 b.0 command)) front b.2 in
    let same : made a.0 b.0 d.0 ≡ front = ok_same d.2 in
    let rest = sym (ap (λ (f : Front). length f.rest) same) in
    omega (arith, rest, frame_shorter bytes a.0 a.1)

-- ---- enough is enough

go_on_same : {A : Type 0} (more more' : A → Reading) (stop : Refusal → Reading) (r : Result A Refusal) → ((x : A) → r ≡ Ok x → more x ≡ more' x) → go_on more stop r ≡ go_on more' stop r
go_on_same more more' stop (Ok x) same = same x refl
go_on_same more more' stop (Err refusal) same = refl

pub same_fuel : (n m file : ℕ) (due : Due) (number offset : ℕ) (bytes : List ℕ) → length bytes < n → length bytes < m → reads_from n file due number offset bytes ≡ reads_from m file due number offset bytes
unfolding reads_from
same_fuel zero m file due number offset bytes a b = absurd (omega (arith, a))
same_fuel (suc n) zero file due number offset bytes a b = absurd (omega (arith, b))
same_fuel (suc n) (suc m) file HeaderDue number offset bytes a b =
    go_on_same _ _ (faulty file number offset) (stream_version bytes) (λ version e.
    let long = header_there bytes version e in
    let rest = length-drop header_len bytes in
    same_fuel n m file (CommandDue version) number (offset + header_len) (drop header_len bytes) (omega (arith, a, long, rest)) (omega (arith, b, long, rest)))
same_fuel (suc n) (suc m) file (CommandDue version) number offset bytes a b =
    go_on_same _ _ (faulty file number offset) (front_of file version number offset bytes) (λ front e.
    let shorter = front_shorter file version number offset bytes front e in
    ap (λ (r : Reading). with_item front.item (if may_end (due_after version front.item.command) front.rest then ended else r))
    (same_fuel n m file (due_after version front.item.command) (number + 1) (offset + (length bytes - length front.rest)) front.rest (omega (arith, a, shorter)) (omega (arith, b, shorter))))
