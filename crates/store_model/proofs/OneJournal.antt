-- An image has one header and one list of groups, and no fault; a fault is of one group.
use Rattle.std.proofs.Common.{◌≡◌, ◌≢◌, ◌⊎◌, inl, inr, get_or, arith, ℕ, zero, suc, ◌+◌, ◌^◌, ◌<◌, List, [], ◌∷◌, ◌++◌, length, take, drop, flat_map, refl, sym, ◌∙◌, ap, subst, length-append, append_assoc}
use Rattle.std.specs.List.{AllByRecursion}
use Rattle.std.specs.Int.{w64, to_le_bytes, from_le_bytes}
use Rattle.std.proofs.lemmas.Nat.{from_le_bytes-to_le_bytes_8}
use Rattle.std.proofs.lemmas.List.{take_at, drop_at}
use Rattle.store_model.specs.Image.{Header, HasGroups, HasHeader, IsHeader, HasFault, IsTorn, IsCutShort, start_of, header_of, group_of, front_of, IsShort}

pub length-le : (n : ℕ) → length (to_le_bytes w64 n) ≡ 8
length-le n = refl

le_one : (m n : ℕ) → m < 2 ^ 64 → n < 2 ^ 64 → to_le_bytes w64 m ≡ to_le_bytes w64 n → m ≡ n
le_one m n small_m small_n same =
    sym (from_le_bytes-to_le_bytes_8 m small_m) ∙ ap (λ (l : List ℕ). from_le_bytes w64 l) same ∙ from_le_bytes-to_le_bytes_8 n small_n

-- two lists with fronts of one length
pub front_one : (a b x y : List ℕ) → length a ≡ length b → a ++ x ≡ b ++ y → a ≡ b
front_one a b x y same is = sym (take_at a x (length b) same) ∙ ap (λ (l : List ℕ). take (length b) l) is ∙ take_at b y (length b) refl

pub back_one : (a b x y : List ℕ) → length a ≡ length b → a ++ x ≡ b ++ y → x ≡ y
back_one a b x y same is = sym (drop_at a x (length b) same) ∙ ap (λ (l : List ℕ). drop (length b) l) is ∙ drop_at b y (length b) refl

pub opened : (body rest : List ℕ) → group_of body ++ rest ≡ (1 ∷ to_le_bytes w64 (length body)) ++ (body ++ rest)
opened body rest = append_assoc (1 ∷ to_le_bytes w64 (length body)) body rest

pub group_one : (a b x y : List ℕ) → IsShort a → IsShort b → group_of a ++ x ≡ group_of b ++ y → (a ≡ b) × (x ≡ y)
group_one a b x y short_a short_b is =
    let whole : (1 ∷ to_le_bytes w64 (length a)) ++ (a ++ x) ≡ (1 ∷ to_le_bytes w64 (length b)) ++ (b ++ y) = sym (opened a x) ∙ is ∙ opened b y in
    let heads : 1 ∷ to_le_bytes w64 (length a) ≡ 1 ∷ to_le_bytes w64 (length b) = front_one (1 ∷ to_le_bytes w64 (length a)) (1 ∷ to_le_bytes w64 (length b)) (a ++ x) (b ++ y) refl whole in
    let sizes : length a ≡ length b = le_one (length a) (length b) short_a short_b (ap (λ (l : List ℕ). drop 1 l) heads) in
    let bodies : a ++ x ≡ b ++ y = back_one (1 ∷ to_le_bytes w64 (length a)) (1 ∷ to_le_bytes w64 (length b)) (a ++ x) (b ++ y) refl whole in
    (front_one a b x y sizes bodies, back_one a b x y sizes bodies)

-- What stands behind the last group: no whole group begins there.
abbrev pub IsEnd : List ℕ → Type 0
IsEnd rest = (body others : List ℕ) → IsShort body → rest ≡ group_of body ++ others → ⊥

pub closed_ends : (gate : ℕ) (rest : List ℕ) → gate ≢ 1 → IsEnd (gate ∷ rest)
closed_ends gate rest closed body others short is = closed (cc (is ∙ opened body others))

pub cut_ends : (rest : List ℕ) → IsCutShort rest → IsEnd rest
cut_ends rest cut body others short is =
    let there : IsCutShort ((1 ∷ to_le_bytes w64 (length body)) ++ (body ++ others)) = subst IsCutShort (is ∙ opened body others) cut in
    let stands : from_le_bytes w64 (take 8 (to_le_bytes w64 (length body) ++ (body ++ others))) ≡ length body =
    ap (λ (l : List ℕ). from_le_bytes w64 l) (take_at (to_le_bytes w64 (length body)) (body ++ others) 8 refl) ∙ from_le_bytes-to_le_bytes_8 (length body) short in
    let long : length (to_le_bytes w64 (length body) ++ (body ++ others)) < 8 + length body =
    subst (λ (n : ℕ). length (to_le_bytes w64 (length body) ++ (body ++ others)) < 8 + n) stands there.1 in
    absurd (omega (arith, long, length-append (to_le_bytes w64 (length body)) (body ++ others), length-append body others, length-le (length body)))

pub one_not_two : start_of 1 ≡ start_of 2 → ⊥
one_not_two is = absurd (omega (arith, ap (λ (l : List ℕ). get_or (drop 8 l) 0 0) is))

-- what stands before such an end are the same groups, and it is the same end
pub groups_one : (xs ys : List (List ℕ)) (x y : List ℕ) → IsEnd x → IsEnd y → AllByRecursion IsShort xs → AllByRecursion IsShort ys → flat_map group_of xs ++ x ≡ flat_map group_of ys ++ y → (xs ≡ ys) × (x ≡ y)
groups_one [] [] x y ends_x ends_y fits_a fits_b is = (refl, is)
groups_one [] (b ∷ ys) x y ends_x ends_y fits_a fits_b is = absurd (ends_x b (flat_map group_of ys ++ y) fits_b.0 (is ∙ append_assoc (group_of b) (flat_map group_of ys) y))
groups_one (a ∷ xs) [] x y ends_x ends_y fits_a fits_b is = absurd (ends_y a (flat_map group_of xs ++ x) fits_a.0 (sym is ∙ append_assoc (group_of a) (flat_map group_of xs) x))
groups_one (a ∷ xs) (b ∷ ys) x y ends_x ends_y fits_a fits_b is =
    let split = group_one a b (flat_map group_of xs ++ x) (flat_map group_of ys ++ y) fits_a.0 fits_b.0
    (sym (append_assoc (group_of a) (flat_map group_of xs) x) ∙ is ∙ append_assoc (group_of b) (flat_map group_of ys) y) in
    let rest = groups_one xs ys x y ends_x ends_y fits_a.1 fits_b.1 split.1 in
    (λ i. split.0 i ∷ rest.0 i, rest.1)

-- headers have one length
pub behind_one : (m n : Header) (xs ys : List (List ℕ)) (x y : List ℕ) → front_of m xs ++ x ≡ front_of n ys ++ y → flat_map group_of xs ++ x ≡ flat_map group_of ys ++ y
behind_one m n xs ys x y is =
    back_one (header_of m) (header_of n) _ _ refl (sym (append_assoc (header_of m) (flat_map group_of xs) x) ∙ is ∙ append_assoc (header_of n) (flat_map group_of ys) y)

pub format_one : (m n : ℕ) → (m ≡ 1) ⊎ (m ≡ 2) → (n ≡ 1) ⊎ (n ≡ 2) → start_of m ≡ start_of n → m ≡ n
format_one m n (inl a) (inl b) is = a ∙ sym b
format_one m n (inl a) (inr b) is = absurd (one_not_two (ap start_of (sym a) ∙ is ∙ ap start_of b))
format_one m n (inr a) (inl b) is = absurd (one_not_two (ap start_of (sym b) ∙ sym is ∙ ap start_of a))
format_one m n (inr a) (inr b) is = a ∙ sym b

pub header_one : (m n : Header) (x y : List ℕ) → IsHeader m → IsHeader n → header_of m ++ x ≡ header_of n ++ y → m ≡ n
header_one m n x y left right is =
    let same : header_of m ≡ header_of n = front_one (header_of m) (header_of n) x y refl is in
    let number : m.number ≡ n.number = le_one m.number n.number left.number_fits right.number_fits (ap (λ (l : List ℕ). drop 12 l) same) in
    let format : m.format ≡ n.format = format_one m.format n.format left.format right.format (ap (λ (l : List ℕ). take 12 l) same) in
    λ i. record { format = format i; number = number i }

pub front_header : (m n : Header) (xs ys : List (List ℕ)) (x y : List ℕ) → IsHeader m → IsHeader n → front_of m xs ++ x ≡ front_of n ys ++ y → m ≡ n
front_header m n xs ys x y left right is =
    header_one m n (flat_map group_of xs ++ x) (flat_map group_of ys ++ y) left right
    (sym (append_assoc (header_of m) (flat_map group_of xs) x) ∙ is ∙ append_assoc (header_of n) (flat_map group_of ys) y)

pub one_header : (image : List ℕ) (m n : Header) (xs ys : List (List ℕ)) → HasGroups m xs image → HasGroups n ys image → m ≡ n
one_header image m n xs ys left right = front_header m n xs ys (left.gate ∷ left.rest) (right.gate ∷ right.rest) left.lawful right.lawful (sym left.bytes ∙ right.bytes)

pub one_journal : (image : List ℕ) (m n : Header) (xs ys : List (List ℕ)) → HasGroups m xs image → HasGroups n ys image → xs ≡ ys
one_journal image m n xs ys left right =
    let whole = behind_one m n xs ys (left.gate ∷ left.rest) (right.gate ∷ right.rest) (sym left.bytes ∙ right.bytes) in
    let one = groups_one xs ys (left.gate ∷ left.rest) (right.gate ∷ right.rest) (closed_ends left.gate left.rest left.closed) (closed_ends right.gate right.rest right.closed) left.lengths_fit right.lengths_fit whole in
    one.0

-- an end is not both closed and cut short
pub no_fault : (image : List ℕ) (header : Header) (bodies : List (List ℕ)) (group : ℕ) → HasGroups header bodies image → HasFault image group → ⊥
no_fault image header bodies zero has fault =
    fault (record { header = header; rest = flat_map group_of bodies ++ has.gate ∷ has.rest; bytes = has.bytes ∙ append_assoc (header_of header) (flat_map group_of bodies) (has.gate ∷ has.rest); lawful = has.lawful })
no_fault image header bodies (suc groups) has fault =
    let whole = behind_one header fault.header bodies fault.bodies (has.gate ∷ has.rest) fault.rest (sym has.bytes ∙ fault.bytes) in
    let one = groups_one bodies fault.bodies (has.gate ∷ has.rest) fault.rest (closed_ends has.gate has.rest has.closed) (cut_ends fault.rest fault.torn) has.lengths_fit fault.lengths_fit whole in
    let cut : IsCutShort (has.gate ∷ has.rest) = subst IsCutShort (sym one.1) fault.torn in
    has.closed cut.0

pub torn_header : (image : List ℕ) (groups : ℕ) → IsTorn image groups → HasHeader image
torn_header image groups torn =
    record { header = torn.header; rest = flat_map group_of torn.bodies ++ torn.rest; bytes = torn.bytes ∙ append_assoc (header_of torn.header) (flat_map group_of torn.bodies) torn.rest; lawful = torn.lawful }

pub one_fault : (image : List ℕ) (g h : ℕ) → HasFault image g → HasFault image h → g ≡ h
one_fault image zero zero left right = refl
one_fault image zero (suc h) left right = absurd (left (torn_header image h right))
one_fault image (suc g) zero left right = absurd (right (torn_header image g left))
one_fault image (suc g) (suc h) left right =
    let whole = behind_one left.header right.header left.bodies right.bodies left.rest right.rest (sym left.bytes ∙ right.bytes) in
    let one = groups_one left.bodies right.bodies left.rest right.rest (cut_ends left.rest left.torn) (cut_ends right.rest right.torn) left.lengths_fit right.lengths_fit whole in
    ap suc (sym left.count ∙ ap length one.0 ∙ right.count)
