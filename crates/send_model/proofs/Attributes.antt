-- Attributes that were spelled are read back, in their order.
use Rattle.std.specs.Prelude.{◌≡◌, ℕ, zero, suc, ◌+◌, ◌-◌, ◌^◌, ◌<◌, ◌≤◌, Bool, true, false, List, [], ◌∷◌, ◌++◌, length, take, drop, None, Some, Ok, nat_le, nat_lt, ◌==◌, if◌then◌else◌}
use Rattle.std.specs.List.{AllByRecursion}
use Rattle.std.specs.Int.{w16, to_le_bytes}
use Rattle.std.proofs.Common.{refl, sym, ap, subst, ◌∙◌, arith, append-nil, length-append, le-leb, lt-ltb, eq-eqb, eqb-true, drop-drop, le_refl}
use Rattle.std.proofs.Math.Seq.{take-append_seam, drop-append_seam}
use Rattle.std.proofs.lemmas.List.{take_all, drop_all}
use Rattle.std.proofs.lemmas.Bool.{false_from_ne_true, true≢false}
use Rattle.std.proofs.lemmas.Nat.{from_le_bytes-to_le_bytes_2}
use Rattle.send_model.specs.Attribute.{is_one_of, last_attribute, takes_rest}
use Rattle.send_model.specs.Spelling.{Attribute, attribute_bytes, body_of, value_of, IsAttribute, AreAttributes}
use Rattle.send_model.specs.Reading.{number16, attribute_end, attribute_in, attribute_lawful, attributes_from, attributes_at}

-- The attribute in front of bytes says its number, its length and its bytes.
front_says : (kind len : ℕ) (tail : List ℕ) → kind < 2 ^ 16 → len < 2 ^ 16
    → let bytes = to_le_bytes w16 kind ++ to_le_bytes w16 len ++ tail in
    (number16 bytes ≡ kind) × (number16 (drop 2 bytes) ≡ len) × (drop 4 bytes ≡ tail) × (length bytes ≡ 4 + length tail)
unfolding number16
front_says kind len tail k l = (from_le_bytes-to_le_bytes_2 kind k, from_le_bytes-to_le_bytes_2 len l, refl, omega arith)

abbrev pub NotSeen : List ℕ → List Attribute → Type 0
NotSeen seen attributes = AllByRecursion (λ a. is_one_of a.kind seen ≡ false) attributes

pub differ_back : (a b : ℕ) → (a == b) ≡ false → (b == a) ≡ false
differ_back a b h = false_from_ne_true (b == a) (λ e. true≢false (sym (eq-eqb a b (sym (eqb-true b a e))) ∙ h))

-- What is not among the rest may be seen first.
not_again : (kind : ℕ) (seen : List ℕ) (attributes : List Attribute) → value_of kind attributes ≡ None → NotSeen seen attributes → NotSeen (kind ∷ seen) attributes
not_again kind seen [] v n = tt
not_again kind seen (a ∷ rest) v n = one (λ w. not_again kind seen rest w n.1) (a.kind == kind) refl v
  where
    one : (value_of kind rest ≡ None → NotSeen (kind ∷ seen) rest) → (b : Bool) → (a.kind == kind) ≡ b → (if b then Some a.bytes else value_of kind rest) ≡ None → NotSeen (kind ∷ seen) (a ∷ rest)
    one more true e w = cc
    one more false e w = (rw (differ_back a.kind kind e) n.0, more w)

none_seen : (attributes : List Attribute) → NotSeen [] attributes
none_seen [] = tt
none_seen (a ∷ rest) = (refl, none_seen rest)

-- Numbers of attributes are small.
last_small : (version : ℕ) → last_attribute version < 2 ^ 16
last_small version = one (version == 1)
  where
    one : (b : Bool) → (if b then 24 else 31) < 2 ^ 16
    one true = omega arith
    one false = omega arith

-- ---- an attribute in front

-- What the front of a body says, by whether the attribute there takes the rest.
abbrev pub head_by : Bool → ℕ
head_by b = if b then 2 else 4

abbrev pub len_by : Bool → List ℕ → ℕ
len_by b body = if b then length body - 2 else number16 (drop 2 body)

pub end_by : (version : ℕ) (body : List ℕ) (b : Bool) → takes_rest version (number16 body) ≡ b → attribute_end version body ≡ head_by b + len_by b body
end_by version body b e = ap (λ (t : Bool). head_by t + len_by t body) e

pub in_by : (version : ℕ) (body : List ℕ) (b : Bool) → takes_rest version (number16 body) ≡ b → attribute_in version body ≡ record { kind = number16 body; bytes = take (len_by b body) (drop (head_by b) body) }
in_by version body b e = ap (λ (t : Bool). record { kind = number16 body; bytes = take (len_by t body) (drop (head_by t) body) }) e

abbrev pub length_by : Bool → List ℕ → List ℕ
length_by b bytes = if b then [] else to_le_bytes w16 (length bytes)

pub bytes_by : (version : ℕ) (a : Attribute) (b : Bool) → takes_rest version a.kind ≡ b → attribute_bytes version a ≡ to_le_bytes w16 a.kind ++ length_by b a.bytes ++ a.bytes
unfolding attribute_bytes
bytes_by version a b e = ap (λ (t : Bool). to_le_bytes w16 a.kind ++ length_by t a.bytes ++ a.bytes) e

record Says (version : ℕ) (body : List ℕ) (a : Attribute) (others : List ℕ) : Type 0 where
  two : 2 ≤ length body
  kind : number16 body ≡ a.kind
  within : attribute_end version body ≤ length body
  is : attribute_in version body ≡ a
  left : drop (attribute_end version body) body ≡ others
  shorter : 2 + length others ≤ length body

front_lawful : (version : ℕ) (seen body : List ℕ) (a : Attribute) (others : List ℕ) → Says version body a others → IsAttribute version a → is_one_of a.kind seen ≡ false → attribute_lawful version seen body ≡ true
front_lawful version seen body a others says is new =
    let whole : nat_le 2 (length body) ≡ true = le-leb _ _ says.two in
    let above : nat_lt 0 a.kind ≡ true = lt-ltb _ _ is.known.0 in
    let below : nat_le a.kind (last_attribute version) ≡ true = le-leb _ _ is.known.1 in
    let room : nat_le (attribute_end version body) (length body) ≡ true = le-leb _ _ says.within in
    rw (room, whole, says.kind, above, below, new) refl

attribute_in_front : (n version : ℕ) (seen : List ℕ) (b : ℕ) (bs : List ℕ) (a : Attribute) (others : List ℕ) (rest : List Attribute)
    → Says version (b ∷ bs) a others → IsAttribute version a → is_one_of a.kind seen ≡ false → attributes_from n version (a.kind ∷ seen) others ≡ Ok rest
    → attributes_from (suc n) version seen (b ∷ bs) ≡ Ok (a ∷ rest)
unfolding attributes_from
attribute_in_front n version seen b bs a others rest says is new more =
    let lawful = front_lawful version seen (b ∷ bs) a others says is new in
    rw (lawful, says.is, says.left, says.kind, more) refl

says_rest : (version : ℕ) (a : Attribute) (body : List ℕ) → a.kind < 2 ^ 16 → takes_rest version a.kind ≡ true → body ≡ to_le_bytes w16 a.kind ++ a.bytes → Says version body a []
unfolding number16
says_rest version a body small e is =
    let kind : number16 body ≡ a.kind = ap number16 is ∙ from_le_bytes-to_le_bytes_2 a.kind small in
    let rest : takes_rest version (number16 body) ≡ true = ap (takes_rest version) kind ∙ e in
    let after : drop 2 body ≡ a.bytes = ap (drop 2) is in
    let long : length body ≡ 2 + length a.bytes = ap length is ∙ omega arith in
    let len : length body - 2 ≡ length a.bytes = omega (arith, long) in
    let end : attribute_end version body ≡ length body = end_by version body true rest ∙ omega (arith, long) in
    record {
      two = omega (arith, long);
      kind = kind;
      within = omega (arith, end);
      is = in_by version body true rest ∙ (λ i. record { kind = kind i; bytes = take (len i) (after i) }) ∙ ap (λ (bs : List ℕ). record { kind = a.kind; bytes = bs }) (take_all (length a.bytes) a.bytes (le_refl _));
      left = ap (λ (k : ℕ). drop k body) end ∙ drop_all (length body) body (le_refl _);
      shorter = omega (arith, long);
    }

says_length : (version : ℕ) (a : Attribute) (others body : List ℕ) → a.kind < 2 ^ 16 → length a.bytes < 2 ^ 16 → takes_rest version a.kind ≡ false
    → body ≡ to_le_bytes w16 a.kind ++ to_le_bytes w16 (length a.bytes) ++ (a.bytes ++ others) → Says version body a others
says_length version a others body small short e is =
    let says = front_says a.kind (length a.bytes) (a.bytes ++ others) small short in
    let kind : number16 body ≡ a.kind = ap number16 is ∙ says.0 in
    let own : takes_rest version (number16 body) ≡ false = ap (takes_rest version) kind ∙ e in
    let len : number16 (drop 2 body) ≡ length a.bytes = ap (λ (x : List ℕ). number16 (drop 2 x)) is ∙ says.1 in
    let after : drop 4 body ≡ a.bytes ++ others = ap (drop 4) is ∙ says.2 in
    let long : length body ≡ 4 + length (a.bytes ++ others) = ap length is ∙ says.3 in
    let parts = length-append a.bytes others in
    let end : attribute_end version body ≡ 4 + length a.bytes = end_by version body false own ∙ ap (λ (k : ℕ). 4 + k) len in
    record {
      two = omega (arith, long);
      kind = kind;
      within = omega (arith, end, long, parts);
      is = in_by version body false own ∙ (λ i. record { kind = kind i; bytes = take (len i) (after i) }) ∙ ap (λ (bs : List ℕ). record { kind = a.kind; bytes = bs }) (take-append_seam a.bytes others);
      left = ap (λ (k : ℕ). drop k body) end ∙ sym (drop-drop (length a.bytes) 4 body) ∙ ap (drop (length a.bytes)) after ∙ drop-append_seam a.bytes others;
      shorter = omega (arith, long, parts);
    }

attribute_says : (version : ℕ) (a : Attribute) (others : List ℕ) → IsAttribute version a → (takes_rest version a.kind ≡ true → others ≡ []) → Says version (attribute_bytes version a ++ others) a others
attribute_says version a others is last = one (takes_rest version a.kind) refl
  where
    small : a.kind < 2 ^ 16
    small = let k = is.known.1 in let l = last_small version in omega (arith, k, l)

    one : (b : Bool) → takes_rest version a.kind ≡ b → Says version (attribute_bytes version a ++ others) a others
    one true e = let none = last e in
        subst (λ (os : List ℕ). Says version (attribute_bytes version a ++ os) a os) (sym none)
        (says_rest version a (attribute_bytes version a ++ []) small e (append-nil (attribute_bytes version a) ∙ bytes_by version a true e))
    one false e = says_length version a others (attribute_bytes version a ++ others) small (is.short e) e (ap (λ (bs : List ℕ). bs ++ others) (bytes_by version a false e))

first_read : (n version : ℕ) (seen : List ℕ) (a : Attribute) (rest : List Attribute) (body : List ℕ) → Says version body a (body_of version rest) → IsAttribute version a → is_one_of a.kind seen ≡ false
    → attributes_from n version (a.kind ∷ seen) (body_of version rest) ≡ Ok rest → attributes_from (suc n) version seen body ≡ Ok (a ∷ rest)
first_read n version seen a rest [] says is new more = absurd (let two = says.two in omega (arith, two))
first_read n version seen a rest (b ∷ bs) says is new more = attribute_in_front n version seen b bs a (body_of version rest) rest says is new more

attributes_read : (attributes : List Attribute) (n version : ℕ) (seen : List ℕ) → AreAttributes version attributes → NotSeen seen attributes → length (body_of version attributes) ≤ n → attributes_from n version seen (body_of version attributes) ≡ Ok attributes
unfolding body_of attributes_from
attributes_read [] zero version seen are new long = refl
attributes_read [] (suc n) version seen are new long = refl
attributes_read (a ∷ rest) zero version seen are new long = absurd (let two = (attribute_says version a (body_of version rest) are.0 (λ e. ap (body_of version) (are.2 e))).two in omega (arith, two, long))
attributes_read (a ∷ rest) (suc n) version seen are new long =
    let says = attribute_says version a (body_of version rest) are.0 (λ e. ap (body_of version) (are.2 e)) in
    let fewer = says.shorter in
    let more = attributes_read rest n version (a.kind ∷ seen) are.3 (not_again a.kind seen rest are.1 new.1) (omega (arith, long, fewer)) in
    first_read n version seen a rest (attribute_bytes version a ++ body_of version rest) says are.0 new.0 more

-- Lawful attributes that were spelled are read back.
pub attributes_read_back : (version : ℕ) (attributes : List Attribute) → AreAttributes version attributes → attributes_at version (body_of version attributes) ≡ Ok attributes
unfolding attributes_at
attributes_read_back version attributes are = attributes_read attributes (length (body_of version attributes)) version [] are (none_seen attributes) (le_refl _)
