-- The line of a complete part has one line end, its last byte: so as many lines stand whole as line
-- ends.
use Rattle.std.specs.Prelude.{◌≡◌, ◌⊎◌, ℕ, zero, suc, ◌+◌, ◌/◌, ◌%◌, ◌<◌, ◌≤◌, ◌^◌, ◌==◌, Bool, true, false, cond, List, [], ◌∷◌, ◌++◌, length, take, drop, codes, nat_lt, if◌then◌else◌}
use Rattle.std.specs.List.{AllByRecursion, filter, flat_map}
use Rattle.std.specs.Fmt.{decimal}
use Rattle.std.proofs.Common.{inl, inr, subst, length-append, append_assoc, refl, sym, ap, ap₂, ◌∙◌, arith, eqb-true}
use Rattle.std.proofs.Math.Seq.{take-append_seam, drop-append_seam}
use Rattle.std.proofs.lemmas.List.{take-append-le, drop-append-le, take-append-drop}
use Rattle.std.proofs.lemmas.Bool.{cases_lt, false≢true}
use Rattle.std.proofs.lemmas.List.Sums.{length-filter, sum_by-append}
use Rattle.std.proofs.lemmas.Fmt.{decimal_by_steps}
use Rattle.send_model.specs.Store.{Entry}
use Rattle.send_model.specs.Printed.{is_plain, hex_digit, hex_byte, hex_bytes, escaped_byte, escaped, uuid_text}
use Rattle.store_model.specs.States.{complete_line, HasNumbers, lines_in}
use Rattle.send_model.proofs.ElementLaws.{all_both}

-- ---- bytes that end no line

abbrev EndsNone : List ℕ → Type 0
EndsNone bytes = AllByRecursion (λ b. (b == 10) ≡ false) bytes

pub lines_both : (xs ys : List ℕ) → lines_in (xs ++ ys) ≡ lines_in xs + lines_in ys
lines_both xs ys = sum_by-append (λ b. cond (b == 10) 1 0) xs ys

none_left : (xs : List ℕ) → EndsNone xs → filter (λ b. b == 10) xs ≡ []
none_left [] h = refl
none_left (x ∷ xs) h = rw h.0 (none_left xs h.1)

none_counted : (xs : List ℕ) → EndsNone xs → lines_in xs ≡ 0
none_counted xs h = sym (length-filter (λ b. b == 10) xs) ∙ ap length (none_left xs h)

both : (xs ys : List ℕ) → EndsNone xs → EndsNone ys → EndsNone (xs ++ ys)
both xs ys a b = all_both (λ b. (b == 10) ≡ false) xs ys a b

above : (n : ℕ) → 11 ≤ n → (n == 10) ≡ false
above n h = one (n == 10) refl
  where
    one : (b : Bool) → (n == 10) ≡ b → b ≡ false
    one true e = absurd (omega (arith, eqb-true n 10 e, h))
    one false e = refl

-- ---- what is printed

digit_none : (n : ℕ) → (hex_digit n == 10) ≡ false
unfolding hex_digit
digit_none n = one (nat_lt n 10)
  where
    one : (b : Bool) → ((if b then 0x30 + n else 0x57 + n) == 10) ≡ false
    one true = above (0x30 + n) (omega arith)
    one false = above (0x57 + n) (omega arith)

hex_none : (bytes : List ℕ) → EndsNone (hex_bytes bytes)
hex_none [] = tt
hex_none (b ∷ bytes) = (digit_none (b / 16), (digit_none (b % 16), hex_none bytes))

uuid_none : (bytes : List ℕ) → EndsNone (uuid_text bytes)
unfolding uuid_text
uuid_none bytes =
    let p0 : List ℕ = hex_bytes (take 4 bytes) in
    let p1 : List ℕ = 0x2d ∷ hex_bytes (take 2 (drop 4 bytes)) in
    let p2 : List ℕ = 0x2d ∷ hex_bytes (take 2 (drop 6 bytes)) in
    let p3 : List ℕ = 0x2d ∷ hex_bytes (take 2 (drop 8 bytes)) in
    let p4 : List ℕ = 0x2d ∷ hex_bytes (drop 10 bytes) in
    both (((p0 ++ p1) ++ p2) ++ p3) p4
    (both ((p0 ++ p1) ++ p2) p3
    (both (p0 ++ p1) p2 (both p0 p1 (hex_none (take 4 bytes)) (refl, hex_none (take 2 (drop 4 bytes)))) (refl, hex_none (take 2 (drop 6 bytes))))
    (refl, hex_none (take 2 (drop 8 bytes))))
    (refl, hex_none (drop 10 bytes))

byte_none : (b : ℕ) → EndsNone (escaped_byte b)
unfolding escaped_byte is_plain
byte_none b = one (is_plain b) refl
  where
    one : (t : Bool) → is_plain b ≡ t → EndsNone (if t then b ∷ [] else 0x5c ∷ 0x78 ∷ hex_byte b)
    one true e = (two (b == 10) refl, tt)
      where
        two : (s : Bool) → (b == 10) ≡ s → s ≡ false
        two true q = absurd (false≢true (sym (ap is_plain (eqb-true b 10 q)) ∙ e))
        two false q = refl
    one false e = (refl, (refl, (digit_none (b / 16), (digit_none (b % 16), tt))))

escaped_none : (bytes : List ℕ) → EndsNone (escaped bytes)
unfolding escaped
escaped_none [] = tt
escaped_none (b ∷ bytes) = both (escaped_byte b) (escaped bytes) (byte_none b) (escaped_none bytes)

decimal_none : (n : ℕ) → n < 2 ^ 64 → EndsNone (decimal n)
decimal_none n h =
    decimal_by_steps (λ n ds. EndsNone ds) (λ d small. (above (48 + d) (omega arith), tt)) (λ m ds big more. both ds ((48 + m % 10) ∷ []) more (above (48 + m % 10) (omega arith), tt)) n h

-- ---- lines

line_end : lines_in (10 ∷ []) ≡ 1
line_end = refl

-- a line is bytes that end none, and then its end
abbrev text_of : {S : Type 0} → Entry S → List ℕ
text_of e = ((codes "complete" ++ (32 ∷ escaped e.name)) ++ (32 ∷ uuid_text e.key.uuid)) ++ (32 ∷ decimal e.key.ctransid)

line_is : {S : Type 0} (e : Entry S) → complete_line e ≡ text_of e ++ 10 ∷ []
unfolding complete_line
line_is e = refl

text_none : {S : Type 0} (e : Entry S) → e.key.ctransid < 2 ^ 64 → EndsNone (text_of e)
text_none e small =
    let name : List ℕ = 32 ∷ escaped e.name in
    let uuid : List ℕ = 32 ∷ uuid_text e.key.uuid in
    both ((codes "complete" ++ name) ++ uuid) (32 ∷ decimal e.key.ctransid)
    (both (codes "complete" ++ name) uuid (both (codes "complete") name (refl, (refl, (refl, (refl, (refl, (refl, (refl, (refl, tt)))))))) (refl, escaped_none e.name)) (refl, uuid_none e.key.uuid))
    (refl, decimal_none e.key.ctransid small)

one_line : {S : Type 0} (e : Entry S) → e.key.ctransid < 2 ^ 64 → lines_in (complete_line e) ≡ 1
one_line e small = ap (λ (l : List ℕ). lines_in l) (line_is e) ∙ lines_both (text_of e) (10 ∷ []) ∙ omega (arith, none_counted (text_of e) (text_none e small), line_end)

pub lines_are_counted : {S : Type 0} (es : List (Entry S)) → HasNumbers es → lines_in (flat_map complete_line es) ≡ length es
lines_are_counted [] small = refl
lines_are_counted (e ∷ es) small = lines_both (complete_line e) (flat_map complete_line es) ∙ ap₂ (λ (a b : ℕ). a + b) (one_line e small.0) (lines_are_counted es small.1) ∙ omega arith

-- ---- lines of which some stand whole

front_none : (n : ℕ) (bytes : List ℕ) → EndsNone bytes → EndsNone (take n bytes)
front_none zero bytes h = tt
front_none (suc n) [] h = tt
front_none (suc n) (b ∷ bytes) h = (h.0, front_none n bytes h.1)

-- The first lines stand whole, as many as there are line ends, and what follows them has no line
-- end.
pub first_lines : {S : Type 0} (es : List (Entry S)) (written rest : List ℕ) → HasNumbers es → flat_map complete_line es ≡ written ++ rest
    → (part : List ℕ) × (written ≡ flat_map complete_line (take (lines_in written) es) ++ part) × (lines_in part ≡ 0)
first_lines [] [] rest small is = ([], refl, refl)
first_lines [] (b ∷ written) rest small is = absurd (omega (arith, ap length is))
first_lines (e ∷ es) written rest small is = one (cases_lt (length written) (length (complete_line e))) (λ others q. first_lines es others rest small.1 q)
  where
    size : length (complete_line e) ≡ length (text_of e) + 1
    size = ap length (line_is e) ∙ length-append (text_of e) (10 ∷ [])

    all : complete_line e ++ flat_map complete_line es ≡ written ++ rest
    all = is

    -- too short for the first line
    short : length written < length (complete_line e) → (part : List ℕ) × (written ≡ flat_map complete_line (take (lines_in written) (e ∷ es)) ++ part) × (lines_in part ≡ 0)
    short less =
        let within : length written ≤ length (text_of e) = omega (arith, less, size) in
        let front : written ≡ take (length written) (text_of e) =
        sym (take-append_seam written rest) ∙ ap (take (length written)) (sym all ∙ ap (λ (l : List ℕ). l ++ flat_map complete_line es) (line_is e) ∙ append_assoc (text_of e) (10 ∷ []) (flat_map complete_line es))
        ∙ take-append-le (length written) (text_of e) ((10 ∷ []) ++ flat_map complete_line es) within in
        let none : lines_in written ≡ 0 = none_counted written (subst EndsNone (sym front) (front_none (length written) (text_of e) (text_none e small.0))) in
        (written, ap (λ (n : ℕ). flat_map complete_line (take n (e ∷ es)) ++ written) (sym none), none)

    -- the first line, and what follows it
    long : length (complete_line e) ≤ length written → ((others : List ℕ) → flat_map complete_line es ≡ others ++ rest → (part : List ℕ) × (others ≡ flat_map complete_line (take (lines_in others) es) ++ part) × (lines_in part ≡ 0))
        → (part : List ℕ) × (written ≡ flat_map complete_line (take (lines_in written) (e ∷ es)) ++ part) × (lines_in part ≡ 0)
    long enough more =
        let n : ℕ = length (complete_line e) in
        let others : List ℕ = drop n written in
        let front : complete_line e ≡ take n written = sym (take-append_seam (complete_line e) (flat_map complete_line es)) ∙ ap (take n) all ∙ take-append-le n written rest enough in
        let whole : written ≡ complete_line e ++ others = sym (take-append-drop n written) ∙ ap (λ (l : List ℕ). l ++ others) (sym front) in
        let left : flat_map complete_line es ≡ others ++ rest = sym (drop-append_seam (complete_line e) (flat_map complete_line es)) ∙ ap (drop n) all ∙ drop-append-le n written rest enough in
        let m = more others left in
        let count : lines_in written ≡ suc (lines_in others) = ap (λ (l : List ℕ). lines_in l) whole ∙ lines_both (complete_line e) others ∙ omega (arith, one_line e small.0) in (
          m.0,
          whole ∙ ap (λ (l : List ℕ). complete_line e ++ l) m.1 ∙ sym (append_assoc (complete_line e) (flat_map complete_line (take (lines_in others) es)) m.0)
              ∙ ap (λ (k : ℕ). flat_map complete_line (take k (e ∷ es)) ++ m.0) (sym count),
          m.2,
        )

    one : (length written < length (complete_line e)) ⊎ (length (complete_line e) ≤ length written) → ((others : List ℕ) → flat_map complete_line es ≡ others ++ rest → (part : List ℕ) × (others ≡ flat_map complete_line (take (lines_in others) es) ++ part) × (lines_in part ≡ 0))
        → (part : List ℕ) × (written ≡ flat_map complete_line (take (lines_in written) (e ∷ es)) ++ part) × (lines_in part ≡ 0)
    one (inl less) more = short less
    one (inr enough) more = long enough more
