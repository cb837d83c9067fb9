-- The lines of a file, as it is read piece by piece.
use Rattle.std.specs.Prelude.{◌≡◌, ◌≢◌, ℕ, suc, ◌+◌, ◌-◌, ◌<◌, ◌≤◌, List, [], ◌∷◌, ◌++◌, length, take, drop, Option, None, Some}
use Rattle.std.proofs.Common.{refl, sym, ap, ap₂, subst, ◌∙◌, arith, get_or, drop-drop, length-append, eqb-true, eq-eqb}
use Rattle.std.proofs.Math.Seq.{take-add, take-suc, take-append-add, take-append_seam}
use Rattle.std.proofs.lemmas.List.{length-take-le, length-drop, drop-take, drop-append-le, take-append-drop, get_or-take, get_or-drop, take_all, take-append-le}
use Rattle.send_model.proofs.ElementLaws.{all_both}
use Rattle.send_model.specs.Lengths.{limit}
use Rattle.sx_base.specs.Outside.{file_at, GivesAt}
use Rattle.memchr.specs.Find.{NoneBefore, Nowhere, Passes, is_byte}
use Rattle.stream_text.specs.declared.line_reader.LineReader.{LineReader}
use Rattle.stream_text.specs.Lines.{HasNoLine, IsHeld, IsLineIn, LineEnd, IfFile}
use Rattle.stream_text.specs.Reading.{held, fed, IsReader, EndsAt}

-- ---- what is held

pub held_len : (r : LineReader) → IsReader r → length (held r) ≡ r.end - r.from
held_len r is = length-take-le (r.end - r.from) (drop r.from r.room.items) (omega (arith, length-drop r.from r.room.items, is.room, is.high))

pub fed_is : (r : LineReader) → IsReader r → fed r ≡ r.at + length (held r)
fed_is r is = omega (arith, held_len r is)

-- A line was passed.
pub held_behind : (room : List ℕ) (from end len : ℕ) → len ≤ end - from → take (end - (from + len)) (drop (from + len) room) ≡ drop len (take (end - from) (drop from room))
held_behind room from end len few =
    let count : end - from ≡ len + (end - (from + len)) = omega (arith, few) in
    sym (ap (λ (n : ℕ). drop len (take n (drop from room))) count ∙ drop-take len (end - (from + len)) (drop from room)
    ∙ ap (take (end - (from + len))) (drop-drop len from room))

pub held_passed : (at len : ℕ) (held file : List ℕ) → len ≤ length held → IsHeld at held file → IsHeld (at + len) (drop len held) file
held_passed at len held file few h =
    let rest : length (drop len held) ≡ length held - len = length-drop len held in
    let count : length held ≡ len + (length held - len) = omega (arith, few) in
    record {
      within = omega (arith, h.within, rest, few);
      here =
          ap (λ (n : ℕ). take n (drop (at + len) file)) rest
          ∙ ap (take (length held - len)) (sym (drop-drop len at file))
          ∙ sym (drop-take len (length held - len) (drop at file))
          ∙ ap (λ (n : ℕ). drop len (take n (drop at file))) (sym count)
          ∙ ap (drop len) h.here;
    }

-- Bytes came behind those that are there.
pub grown : (room piece rest : List ℕ) (from end count : ℕ) → from ≤ end → end ≤ length room → count ≤ length piece
    → take (end + count - from) (drop from (take end room ++ (piece ++ rest))) ≡ take (end - from) (drop from room) ++ take count piece
grown room piece rest from end count low high few =
    let room_len : length (take end room) ≡ end = length-take-le end room high in
    let count_is : end + count - from ≡ (end - from) + count = omega (arith, low) in
    let end_is : end ≡ from + (end - from) = omega (arith, low) in
    let front : drop from (take end room) ≡ take (end - from) (drop from room) =
    ap (λ (n : ℕ). drop from (take n room)) end_is ∙ drop-take from (end - from) room in
    let front_len : length (take (end - from) (drop from room)) ≡ end - from = length-take-le (end - from) (drop from room) (omega (arith, length-drop from room, high)) in
    let both : drop from (take end room ++ (piece ++ rest)) ≡ take (end - from) (drop from room) ++ (piece ++ rest) =
    drop-append-le from (take end room) (piece ++ rest) (omega (arith, room_len, low)) ∙ ap (λ (l : List ℕ). l ++ (piece ++ rest)) front in
    ap₂ (λ (n : ℕ) (l : List ℕ). take n l) (count_is ∙ ap (λ (n : ℕ). n + count) (sym front_len)) both
    ∙ take-append-add (take (end - from) (drop from room)) (piece ++ rest) count
    ∙ ap (λ (l : List ℕ). take (end - from) (drop from room) ++ l) (take-append-le count piece rest few)

-- They are those of the file.
pub more_held : (told : Option (List (List ℕ × List ℕ))) (name : List ℕ) (at place count : ℕ) (held piece : List ℕ) → place ≡ at + length held → count ≤ length piece
    → GivesAt told name place piece count → IfFile told name (IsHeld at held) → IfFile told name (IsHeld at (held ++ take count piece))
more_held None name at place count held piece is few gives h = tt
more_held (Some files) name at place count held piece is few gives h =
    let file : List ℕ = file_at files name in
    let part : List ℕ = take count piece in
    let part_len : length part ≡ count = length-take-le count piece few in
    let all : length (held ++ part) ≡ length held + count = length-append held part ∙ ap (λ (n : ℕ). length held + n) part_len in
    record {
      within = omega (arith, all, h.within, gives.within, is);
      here =
          ap (λ (n : ℕ). take n (drop at file)) all ∙ take-add (length held) count (drop at file)
          ∙ ap₂ (λ (a b : List ℕ). a ++ b) h.here
          (ap (take count) (drop-drop (length held) at file ∙ ap (λ (n : ℕ). drop n file) (sym is)) ∙ sym gives.bytes);
    }

pub none_came : (told : Option (List (List ℕ × List ℕ))) (name : List ℕ) (at place count : ℕ) (held piece : List ℕ) → place ≡ at + length held → place < limit → 0 < length piece
    → GivesAt told name place piece count → IfFile told name (IsHeld at held) → count ≡ 0 → EndsAt told name place
none_came None name at place count held piece is early some gives h none = (early, tt)
none_came (Some files) name at place count held piece is early some gives h none =
    let past : length (file_at files name) ≤ place = gives.at_end none some in
    (early, (omega (arith, past, h.within, is)))

pub of_room : (a b : List ℕ) (told : Option (List (List ℕ × List ℕ))) (name : List ℕ) (at : ℕ) → a ≡ b → IfFile told name (IsHeld at a) → IfFile told name (IsHeld at b)
of_room a b told name at is h = subst (λ (l : List ℕ). IfFile told name (IsHeld at l)) is h

-- ---- the end of a line

all_from : (bytes : List ℕ) → ((k : ℕ) → k < length bytes → get_or bytes k 0 ≢ 0x0a) → HasNoLine bytes
all_from [] each = tt
all_from (b ∷ bytes) each = (each 0 (omega arith), all_from bytes (λ k less. each (suc k) (omega (arith, less))))

abbrev ahead : List ℕ → ℕ → List ℕ
ahead bytes seen = take (length bytes - seen) (drop seen bytes)

ahead_is : (bytes : List ℕ) (seen : ℕ) → ahead bytes seen ≡ drop seen bytes
ahead_is bytes seen = take_all (length bytes - seen) (drop seen bytes) (omega (arith, length-drop seen bytes))

-- A newline was found behind the bytes that have none.
pub line_some : (bytes : List ℕ) (seen len : ℕ) → seen ≤ length bytes → HasNoLine (take seen bytes)
    → NoneBefore (Passes (is_byte 0x0a) (ahead bytes seen)) 0 (length (ahead bytes seen)) len × Passes (is_byte 0x0a) (ahead bytes seen) len → IsLineIn bytes (seen + len + 1)
line_some bytes seen len few none m =
    let rest : List ℕ = drop seen bytes in
    let same : ahead bytes seen ≡ rest = ahead_is bytes seen in
    let count : length (ahead bytes seen) ≡ length bytes - seen = ap length same ∙ length-drop seen bytes in
    let less : len < length rest = omega (arith, m.0.high, count, length-drop seen bytes) in
    let newline : get_or rest len 0 ≡ 0x0a = sym (ap (λ (l : List ℕ). get_or l len 0) same) ∙ eqb-true _ 0x0a m.1 in
    let part_len : length (take len rest) ≡ len = length-take-le len rest (omega (arith, less)) in
    let other : HasNoLine (take len rest) =
    all_from (take len rest)
    (λ k below e. m.0.before k (omega arith) (omega (arith, below, part_len))
    (eq-eqb _ 0x0a (ap (λ (l : List ℕ). get_or l k 0) same ∙ sym (get_or-take len rest k 0 (omega (arith, below, part_len))) ∙ e))) in
    let front : take (seen + len) bytes ≡ take seen bytes ++ take len rest = take-add seen len bytes in
    let before : seen + len + 1 - 1 ≡ seen + len = omega arith in
    let next : suc (seen + len) ≡ seen + len + 1 = omega arith in
    let here : get_or bytes (seen + len) 0 ≡ 0x0a = sym (get_or-drop seen bytes len 0) ∙ newline in
    let within : seen + len < length bytes = omega (arith, less, length-drop seen bytes, few) in
    record {
      some = omega arith;
      within = omega (arith, within);
      text = subst (λ (n : ℕ). HasNoLine (take n bytes)) (sym before)
          (subst (λ (l : List ℕ). HasNoLine l) (sym front) (all_both (λ b. b ≢ 0x0a) (take seen bytes) (take len rest) none other));
      line = sym (ap (λ (n : ℕ). take n bytes) next) ∙ take-suc bytes (seen + len) 0 within
          ∙ ap₂ (λ (n b : ℕ). take n bytes ++ b ∷ []) (sym before) here;
    }

pub line_none : (bytes : List ℕ) (seen : ℕ) → seen ≤ length bytes → HasNoLine (take seen bytes) → Nowhere (Passes (is_byte 0x0a) (ahead bytes seen)) 0 (length (ahead bytes seen)) → HasNoLine bytes
line_none bytes seen few none m =
    let rest : List ℕ = drop seen bytes in
    let same : ahead bytes seen ≡ rest = ahead_is bytes seen in
    let other : HasNoLine rest =
    all_from rest (λ k below e. m k (omega arith) (omega (arith, below, ap length same)) (eq-eqb _ 0x0a (ap (λ (l : List ℕ). get_or l k 0) same ∙ e))) in
    subst (λ (l : List ℕ). HasNoLine l) (take-append-drop seen bytes) (all_both (λ b. b ≢ 0x0a) (take seen bytes) rest none other)

-- ---- looking for the end of a line

pub no_end_found : (bytes : List ℕ) (found : Option ℕ) → LineEnd bytes found → ((len : ℕ) → found ≡ Some len → ⊥) → HasNoLine bytes
no_end_found bytes None end none = end
no_end_found bytes (Some len) end none = absurd (none len refl)

pub seen_none : (old new piece : List ℕ) (seen : ℕ) → seen ≡ length old → new ≡ old ++ piece → HasNoLine old → HasNoLine (take seen new)
seen_none old new piece seen is more none =
    subst (λ (l : List ℕ). HasNoLine l) (sym (ap₂ (λ (n : ℕ) (l : List ℕ). take n l) is more ∙ take-append_seam old piece)) none

pub moved : (told now : Option (List (List ℕ × List ℕ))) (name other : List ℕ) (at place : ℕ) (bytes : List ℕ) → told ≡ now → name ≡ other → at ≡ place
    → IfFile told name (IsHeld at bytes) → IfFile now other (IsHeld place bytes)
moved told now name other at place bytes t n a h =
    subst (λ (o : Option (List (List ℕ × List ℕ))). IfFile o other (IsHeld place bytes)) t
    (subst (λ (l : List ℕ). IfFile told l (IsHeld place bytes)) n (subst (λ (k : ℕ). IfFile told name (IsHeld k bytes)) a h))
