-- The words that say a parent: each key has one, and no other word says it.
use Rattle.std.specs.Prelude.{◌≡◌, ℕ, zero, suc, ◌+◌, ◌<◌, ◌^◌, ◌&&◌, Bool, true, false, List, [], ◌∷◌, ◌++◌, length, take, drop, Option, None, Some, codes, nat_lt, nat_le, if◌then◌else◌}
use Rattle.std.specs.List.{All}
use Rattle.std.specs.Fmt.{decimal}
use Rattle.std.specs.Str.{bytes_eq, all_ascii_digits}
use Rattle.std.specs.Str.Parse.{digits_value}
use Rattle.std.proofs.Common.{refl, sym, ap, subst, ◌∙◌, arith, inl, append_assoc}
use Rattle.std.proofs.lemmas.Bool.{lt-ltb, le-leb, ltb-true}
use Rattle.std.proofs.lemmas.Fmt.{digits_decimal, digits_value-decimal, decimal_nonempty, length-decimal-le}
use Rattle.std.proofs.lemmas.List.{take_at, drop_at, length-append}
use Rattle.std.proofs.lemmas.Str.Parse.{numerals_by_value, tells_all_ascii_digits}
use Rattle.uuid.specs.Text.{parsed, hyphenated_text, lower}
use Rattle.uuid.proofs.RoundTrips.{parses_hyphenated}
use Rattle.uuid.proofs.TextLemmas.{by_index_length}
use Rattle.send_model.specs.Attribute.{IsBytes}
use Rattle.send_model.specs.Store.{Key}
use Rattle.send_model.specs.Guards.{number_word}
use Rattle.send_model.proofs.Sorts.{same_inside}
use Rattle.send_model.proofs.Stores.{bytes_eq_same, bytes_eq_true}
use Rattle.program_model.specs.FileWords.{parent_word, with_number, given_parent, ParentsAreRead, ReadIsSpelled}

-- ---- a number

number_where : (word : List ℕ) → (nat_le 1 (length word) && nat_le (length word) 20 && all_ascii_digits word && nat_lt (digits_value 10 word) (2 ^ 64)) ≡ true → number_word word ≡ Some (digits_value 10 word)
number_where word e = ap (λ (b : Bool). if b then Some (digits_value 10 word) else None) e

all_four : (a b c d : Bool) → a ≡ true → b ≡ true → c ≡ true → d ≡ true → (a && b && c && d) ≡ true
all_four a b c d p q r s = rw (p, q, r, s) refl

number_is_read : (n : ℕ) → n < 2 ^ 64 → number_word (decimal n) ≡ Some n
number_is_read n fits =
    let value : digits_value 10 (decimal n) ≡ n = digits_value-decimal (numerals_by_value _ tells_all_ascii_digits) n fits in
    let some : ℕ → Option ℕ = λ m. Some m in
    number_where (decimal n)
    (all_four _ _ _ _ (le-leb 1 (length (decimal n)) (omega (arith, decimal_nonempty n fits)))
    (le-leb (length (decimal n)) 20 (length-decimal-le 20 n (omega arith) (omega (arith, fits)) fits))
    (digits_decimal (numerals_by_value _ tells_all_ascii_digits) n fits)
    (lt-ltb (digits_value 10 (decimal n)) (2 ^ 64) (omega (arith, value, fits))))
    ∙ ap some value

-- A number that is read has 64 bits.
pub number_fits : (word : List ℕ) (n : ℕ) → number_word word ≡ Some n → n < 2 ^ 64
number_fits word n e = one (nat_le 1 (length word)) (nat_le (length word) 20) (all_ascii_digits word) (nat_lt (digits_value 10 word) (2 ^ 64)) refl e
  where
    one : (a b c d : Bool) → nat_lt (digits_value 10 word) (2 ^ 64) ≡ d → (if a && b && c && d then Some (digits_value 10 word) else None) ≡ Some n → n < 2 ^ 64
    one true true true true less e = subst (λ (m : ℕ). m < 2 ^ 64) (same_inside e) (ltb-true (digits_value 10 word) (2 ^ 64) less)
    one true true true false less e = cc
    one true true false d less e = cc
    one true false c d less e = cc
    one false b c d less e = cc

-- ---- a key

all_bytes : (xs : List ℕ) → IsBytes xs → All (λ b. b < 256) xs
all_bytes [] are k d less = absurd (omega (arith, less))
all_bytes (x ∷ xs) are zero d less = are.0
all_bytes (x ∷ xs) are (suc k) d less = all_bytes xs are.1 k d (omega (arith, less))

text_length : (uuid : List ℕ) → length (hyphenated_text lower uuid) ≡ 36
text_length uuid = by_index_length 36 _

pub parents_are_read : ParentsAreRead
parents_are_read key len bytes fits =
    let text : List ℕ = hyphenated_text lower key.uuid in
    let word : List ℕ = parent_word key in
    let behind : drop 7 word ≡ text ++ (codes ":" ++ decimal key.ctransid) = refl in
    let uuid_is : parsed (take 36 (drop 7 word)) ≡ Some key.uuid =
    ap (λ (l : List ℕ). parsed (take 36 l)) behind ∙ ap parsed (take_at text (codes ":" ++ decimal key.ctransid) 36 (text_length key.uuid))
    ∙ sym (parses_hyphenated lower key.uuid (inl refl) len (all_bytes key.uuid bytes)) in
    let to_colon : length (text ++ codes ":") ≡ 37 = length-append text (codes ":") ∙ ap (λ (n : ℕ). n + 1) (text_length key.uuid) in
    let digits : drop 44 word ≡ decimal key.ctransid =
    ap (λ (l : List ℕ). drop 37 l) (sym (append_assoc text (codes ":") (decimal key.ctransid))) ∙ drop_at (text ++ codes ":") (decimal key.ctransid) 37 to_colon in
    ap (λ (o : Option (List ℕ)). elim o as (λ x. Option Key) [ None ↦ None | Some uuid ↦ with_number word uuid (number_word (drop 44 word)) ]) uuid_is
    ∙ ap (λ (o : Option ℕ). with_number word key.uuid o) (ap number_word digits ∙ number_is_read key.ctransid fits)
    ∙ ap (λ (b : Bool). if b then Some key else None) (bytes_eq_same word)

-- What is read is spelled so, and has a number of 64 bits.
read_with : (word : List ℕ) (key : Key) (o : Option (List ℕ)) → elim o as (λ x. Option Key) [ None ↦ None | Some uuid ↦ with_number word uuid (number_word (drop 44 word)) ] ≡ Some key
    → (word ≡ parent_word key) × (key.ctransid < 2 ^ 64)
read_with word key None e = cc
read_with word key (Some uuid) e = one (number_word (drop 44 word)) refl e
  where
    two : (made : Key) (b : Bool) → bytes_eq word (parent_word made) ≡ b → made.ctransid < 2 ^ 64 → (if b then Some made else None) ≡ Some key → (word ≡ parent_word key) × (key.ctransid < 2 ^ 64)
    two made true same fits e = subst (λ (k : Key). (word ≡ parent_word k) × (k.ctransid < 2 ^ 64)) (same_inside e) (bytes_eq_true word (parent_word made) same, fits)
    two made false same fits e = cc

    one : (n : Option ℕ) → number_word (drop 44 word) ≡ n → with_number word uuid n ≡ Some key → (word ≡ parent_word key) × (key.ctransid < 2 ^ 64)
    one None is e = cc
    one (Some n) is e = let made : Key = record { uuid = uuid; ctransid = n } in two made (bytes_eq word (parent_word made)) refl (number_fits (drop 44 word) n is) e

pub read_is_spelled : ReadIsSpelled
read_is_spelled word key e = (read_with word key (parsed (take 36 (drop 7 word))) e).0

pub parent_fits : (word : List ℕ) (key : Key) → given_parent word ≡ Some key → key.ctransid < 2 ^ 64
parent_fits word key e = (read_with word key (parsed (take 36 (drop 7 word))) e).1
