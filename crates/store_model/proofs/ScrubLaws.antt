-- What scrub finds is one thing: all groups whole, or one fault of one group. Where an image stands
-- for a store, all are whole.
use Rattle.std.specs.Prelude.{◌≡◌, ◌≢◌, ◌⊎◌, ℕ, zero, suc, ◌<◌, ◌^◌, Bool, true, false, List, [], ◌∷◌, ◌++◌, length, map, get_or, nat_lt, if◌then◌else◌}
use Rattle.std.specs.List.{AllByRecursion}
use Rattle.std.specs.Int.{w32, w64, to_le_bytes, from_le_bytes}
use Rattle.std.proofs.Common.{inl, inr, refl, sym, ap, subst, ◌∙◌, arith, lit<, append_assoc, length-append, flat_map}
use Rattle.std.proofs.lemmas.Bool.{ltb-true, lt-ltb}
use Rattle.std.proofs.lemmas.Nat.{from_le_bytes-to_le_bytes_4}
use Rattle.send_model.specs.Attribute.{IsBytes}
use Rattle.send_model.specs.Checksum.{crc_of}
use Rattle.store_model.specs.Image.{Header, IsHeader, HasHeader, IsCutShort, IsShort, header_of, front_of, group_of, sealed}
use Rattle.store_model.specs.Stored.{Content, Mark, Body, Drop, Group, number_of, content_bytes, body_bytes, IsGroup}
use Rattle.store_model.specs.StoreLaws.{OneScrub, StoredIsWhole}
use Rattle.store_model.specs.Dues.{Ends, NotStore, Missing, LogFull, StoreThere, Damaged}
use Rattle.store_model.specs.Scrub.{scrub_line, IsKind, body_with, IsWhole, unsealed, IsScrubbed, IsDamaged, IsNone, FailsWith, HasBody, IsDamagedAt, IsNoStoreAt}
use Rattle.send_model.proofs.ChecksumLaws.{crc_of-below}
use Rattle.send_model.proofs.Canonical.{bytes_at as byte_at}
use Rattle.store_model.proofs.OneJournal.{group_one, closed_ends, cut_ends, behind_one, front_header, front_one, back_one}
use Rattle.store_model.proofs.OneStore.{Parts, Same, Longer, Shorter, parts}
use Rattle.store_model.proofs.OneSaying.{number_known, plain_by}

-- ---- whole bodies

-- by whether the kind is one with a checksum
pub with_seal : (kind : ℕ) (rest : List ℕ) → 3 < kind → body_with kind rest ≡ sealed (kind ∷ rest)
with_seal kind rest above = ap (λ (b : Bool). if b then sealed (kind ∷ rest) else kind ∷ rest) (lt-ltb 3 kind above)

pub without_seal : (kind : ℕ) (rest : List ℕ) → kind < 4 → body_with kind rest ≡ kind ∷ rest
without_seal kind rest below = one (nat_lt 3 kind) refl
  where
    one : (b : Bool) → nat_lt 3 kind ≡ b → (if b then sealed (kind ∷ rest) else kind ∷ rest) ≡ kind ∷ rest
    one true e = absurd (omega (arith, ltb-true 3 kind e, below))
    one false e = refl

first_kind : (kind : ℕ) (rest : List ℕ) → get_or (body_with kind rest) 0 0 ≡ kind
first_kind kind rest = one (nat_lt 3 kind)
  where
    one : (b : Bool) → get_or (if b then sealed (kind ∷ rest) else kind ∷ rest) 0 0 ≡ kind
    one true = refl
    one false = refl

-- a whole body is not damaged, where it has bytes
whole_not_damaged : (format : ℕ) (body : List ℕ) (stored computed : ℕ) → IsBytes body → IsWhole format body → IsDamaged body stored computed → ⊥
whole_not_damaged format body stored computed are (kind, rest, known, is) d =
    let same : kind ≡ d.kind = sym (first_kind kind rest) ∙ ap (λ (l : List ℕ). get_or l 0 0) (sym is ∙ d.bytes) in
    let whole : (kind ∷ rest) ++ to_le_bytes w32 (crc_of 0 (kind ∷ rest)) ≡ (d.kind ∷ d.rest) ++ d.sum = sym (with_seal kind rest (omega (arith, same, d.new))) ∙ sym is ∙ d.bytes in
    let size : length (kind ∷ rest) ≡ length (d.kind ∷ d.rest) =
    omega (arith, ap length whole, length-append (kind ∷ rest) (to_le_bytes w32 (crc_of 0 (kind ∷ rest))), length-append (d.kind ∷ d.rest) d.sum, d.four) in
    let front : kind ∷ rest ≡ d.kind ∷ d.rest = front_one (kind ∷ rest) (d.kind ∷ d.rest) (to_le_bytes w32 (crc_of 0 (kind ∷ rest))) d.sum size whole in
    let back : to_le_bytes w32 (crc_of 0 (kind ∷ rest)) ≡ d.sum = back_one (kind ∷ rest) (d.kind ∷ d.rest) (to_le_bytes w32 (crc_of 0 (kind ∷ rest))) d.sum size whole in
    let small : crc_of 0 (kind ∷ rest) < 2 ^ 32 = crc_of-below 0 (kind ∷ rest) (lit< tt) (byte_at (kind ∷ rest) (in_front (kind ∷ rest) (to_le_bytes w32 (crc_of 0 (kind ∷ rest))) (subst IsBytes (is ∙ with_seal kind rest (omega (arith, same, d.new))) are))) in
    d.differs (d.stored_is ∙ ap (λ (l : List ℕ). from_le_bytes w32 l) (sym back) ∙ from_le_bytes-to_le_bytes_4 (crc_of 0 (kind ∷ rest)) small ∙ ap (λ (l : List ℕ). crc_of 0 l) front ∙ sym d.computed_is)
  where
    in_front : (xs ys : List ℕ) → IsBytes (xs ++ ys) → IsBytes xs
    in_front [] ys h = tt
    in_front (x ∷ xs) ys h = (h.0, in_front xs ys h.1)

whole_not_none : (format : ℕ) (body : List ℕ) → IsWhole format body → IsNone format body → ⊥
whole_not_none format [] (kind, rest, known, is) none = one (nat_lt 3 kind) is
  where
    one : (b : Bool) → [] ≡ (if b then sealed (kind ∷ rest) else kind ∷ rest) → ⊥
    one true q = absurd (omega (arith, ap length q))
    one false q = absurd (omega (arith, ap length q))
whole_not_none format (n ∷ behind) (kind, rest, known, is) none =
    let same : kind ≡ n = sym (first_kind kind rest) ∙ ap (λ (l : List ℕ). get_or l 0 0) (sym is) in
    elim none [
      | inl not ↦ not (subst (λ (k : ℕ). IsKind format k) same known)
      | inr short ↦ absurd (omega (arith, ap length (is ∙ with_seal kind rest (omega (arith, same, short.0))), length-append (kind ∷ rest) (to_le_bytes w32 (crc_of 0 (kind ∷ rest))), short.1))
    ]

damaged_not_none : (format : ℕ) (body : List ℕ) (stored computed : ℕ) → IsDamaged body stored computed → IsNone format body → ⊥
damaged_not_none format [] stored computed d none = absurd (omega (arith, ap length d.bytes))
damaged_not_none format (n ∷ behind) stored computed d none =
    let same : n ≡ d.kind = ap (λ (l : List ℕ). get_or l 0 0) d.bytes in
    elim none [
      | inl not ↦ not (omega (arith, same, d.new), omega (arith, same, d.new), λ h. absurd (omega (arith, same, d.new, h)))
      | inr short ↦ absurd (omega (arith, ap length d.bytes, length-append (d.kind ∷ d.rest) d.sum, d.four, short.1))
    ]

-- one checksum stands there, and one is computed
damaged_once : (body : List ℕ) (s c t d : ℕ) → IsDamaged body s c → IsDamaged body t d → (s ≡ t) × (c ≡ d)
damaged_once body s c t d x y =
    let whole : (x.kind ∷ x.rest) ++ x.sum ≡ (y.kind ∷ y.rest) ++ y.sum = sym x.bytes ∙ y.bytes in
    let size : length (x.kind ∷ x.rest) ≡ length (y.kind ∷ y.rest) = omega (arith, ap length whole, length-append (x.kind ∷ x.rest) x.sum, length-append (y.kind ∷ y.rest) y.sum, x.four, y.four) in (
      x.stored_is ∙ ap (λ (l : List ℕ). from_le_bytes w32 l) (back_one (x.kind ∷ x.rest) (y.kind ∷ y.rest) x.sum y.sum size whole) ∙ sym y.stored_is,
      x.computed_is ∙ ap (λ (l : List ℕ). crc_of 0 l) (front_one (x.kind ∷ x.rest) (y.kind ∷ y.rest) x.sum y.sum size whole) ∙ sym y.computed_is,
    )

-- ---- where whole groups end

-- No whole group begins here.
abbrev Stops : ℕ → List ℕ → Type 0
Stops format rest = (body others : List ℕ) → IsShort body → rest ≡ group_of body ++ others → IsWhole format body → ⊥

record Ended (image : List ℕ) : Type 0 where
  header : Header
  lawful : IsHeader header
  bodies : List (List ℕ)
  fits : AllByRecursion IsShort bodies
  whole : AllByRecursion (IsWhole header.format) bodies
  rest : List ℕ
  bytes : image ≡ front_of header bodies ++ rest
  stops : Stops header.format rest

one_end : (image : List ℕ) (a b : Ended image) → (a.header ≡ b.header) × (a.bodies ≡ b.bodies) × (a.rest ≡ b.rest)
one_end image a b =
    let all : front_of a.header a.bodies ++ a.rest ≡ front_of b.header b.bodies ++ b.rest = sym a.bytes ∙ b.bytes in
    let header : a.header ≡ b.header = front_header a.header b.header a.bodies b.bodies a.rest b.rest a.lawful b.lawful all in
    let same = one (ap (λ (h : Header). h.format) header) (parts a.bodies b.bodies a.rest b.rest a.fits b.fits (behind_one a.header b.header a.bodies b.bodies a.rest b.rest all)) in
    (header, same.0, same.1)
  where
    found : (format : ℕ) (xs : List (List ℕ)) (body : List ℕ) (more : List (List ℕ)) → AllByRecursion (IsWhole format) (xs ++ body ∷ more) → IsWhole format body
    found format [] body more h = h.0
    found format (x ∷ xs) body more h = found format xs body more h.1

    one : a.header.format ≡ b.header.format → Parts a.bodies b.bodies a.rest b.rest → (a.bodies ≡ b.bodies) × (a.rest ≡ b.rest)
    one format (Same same rest) = (same, rest)
    one format (Longer body more is short goes) =
        let whole : IsWhole b.header.format body = found b.header.format a.bodies body more (subst (λ (l : List (List ℕ)). AllByRecursion (IsWhole b.header.format) l) is b.whole) in
        absurd (a.stops body (flat_map group_of more ++ b.rest) short goes (subst (λ (f : ℕ). IsWhole f body) (sym format) whole))
    one format (Shorter body more is short goes) =
        let whole : IsWhole a.header.format body = found a.header.format b.bodies body more (subst (λ (l : List (List ℕ)). AllByRecursion (IsWhole a.header.format) l) is a.whole) in
        absurd (b.stops body (flat_map group_of more ++ a.rest) short goes (subst (λ (f : ℕ). IsWhole f body) format whole))

scrubbed_ended : (image : List ℕ) (groups plain : ℕ) → IsScrubbed image groups plain → Ended image
scrubbed_ended image groups plain s = record {
  header = s.header;
  lawful = s.has.lawful;
  bodies = s.bodies;
  fits = s.has.lengths_fit;
  whole = s.whole;
  rest = s.has.gate ∷ s.has.rest;
  bytes = s.has.bytes;
  stops = λ body others short is whole. closed_ends s.has.gate s.has.rest s.has.closed body others short is;
}

-- the bytes of a body in an image
body_bytes_are : (header : Header) (bodies : List (List ℕ)) (body others rest image : List ℕ) → IsBytes image → image ≡ front_of header bodies ++ rest → rest ≡ group_of body ++ others → IsBytes body
body_bytes_are header bodies body others rest image are is goes =
    let tail : IsBytes rest = behind (front_of header bodies) rest (subst IsBytes is are) in
    let head : List ℕ = 1 ∷ to_le_bytes w64 (length body) in
    front body others (behind head (body ++ others) (subst IsBytes (goes ∙ append_assoc head body others) tail))
  where
    behind : (xs ys : List ℕ) → IsBytes (xs ++ ys) → IsBytes ys
    behind [] ys h = h
    behind (x ∷ xs) ys h = behind xs ys h.1

    front : (xs ys : List ℕ) → IsBytes (xs ++ ys) → IsBytes xs
    front [] ys h = tt
    front (x ∷ xs) ys h = (h.0, front xs ys h.1)

fails_ended : (fault : ℕ → List ℕ → Type 0) (image : List ℕ) (count : ℕ) (f : FailsWith fault image count) → Stops f.header.format f.rest → Ended image
fails_ended fault image count f stops = record { header = f.header; lawful = f.lawful; bodies = f.bodies; fits = f.lengths_fit; whole = f.whole; rest = f.rest; bytes = f.bytes; stops = stops }

damaged_stops : (image : List ℕ) (count stored computed : ℕ) → IsBytes image → (f : FailsWith (λ format rest. HasBody (λ body. IsDamaged body stored computed) rest) image count) → Stops f.header.format f.rest
damaged_stops image count stored computed are f body others short is whole =
    let same : body ≡ f.is.body = (group_one body f.is.body others f.is.others short f.is.short (sym is ∙ f.is.bytes)).0 in
    whole_not_damaged f.header.format body stored computed (body_bytes_are f.header f.bodies body others f.rest image are f.bytes is) whole (subst (λ (b : List ℕ). IsDamaged b stored computed) (sym same) f.is.is)

none_stops : (image : List ℕ) (count : ℕ) (f : FailsWith (λ format rest. IsCutShort rest ⊎ HasBody (IsNone format) rest) image count) → Stops f.header.format f.rest
none_stops image count f body others short is whole = one f.is
  where
    one : IsCutShort f.rest ⊎ HasBody (IsNone f.header.format) f.rest → ⊥
    one (inl cut) = cut_ends f.rest cut body others short is
    one (inr has) =
        let same : body ≡ has.body = (group_one body has.body others has.others short has.short (sym is ∙ has.bytes)).0 in
        whole_not_none f.header.format body whole (subst (IsNone f.header.format) (sym same) has.is)

-- ---- one answer

ended_header : (image : List ℕ) → Ended image → HasHeader image
ended_header image e = record { header = e.header; rest = flat_map group_of e.bodies ++ e.rest; bytes = e.bytes ∙ append_assoc (header_of e.header) (flat_map group_of e.bodies) e.rest; lawful = e.lawful }

pub scrubbed_once : (image : List ℕ) (g p h q : ℕ) → IsScrubbed image g p → IsScrubbed image h q → (g ≡ h) × (p ≡ q)
unfolding scrubbed_ended
scrubbed_once image g p h q x y =
    let same = one_end image (scrubbed_ended image g p x) (scrubbed_ended image h q y) in
    (sym x.count ∙ ap length same.1 ∙ y.count, sym x.plain_count ∙ ap unsealed same.1 ∙ y.plain_count)

-- a closed gate is no group
closed_has_none : (byte : ℕ) (others rest : List ℕ) (fault : List ℕ → Type 0) → byte ≢ 1 → byte ∷ others ≡ rest → HasBody fault rest → ⊥
closed_has_none byte others rest fault closed is has = closed_ends byte others closed has.body has.others has.short (is ∙ has.bytes)

pub scrubbed_not_damaged : (image : List ℕ) (g p group stored computed : ℕ) → IsBytes image → IsScrubbed image g p → IsDamagedAt image group stored computed → ⊥
unfolding scrubbed_ended fails_ended
scrubbed_not_damaged image g p zero stored computed are x d = absurd d
scrubbed_not_damaged image g p (suc count) stored computed are x d =
    let same = one_end image (scrubbed_ended image g p x) (fails_ended (λ format rest. HasBody (λ body. IsDamaged body stored computed) rest) image count d (damaged_stops image count stored computed are d)) in
    closed_has_none x.has.gate x.has.rest d.rest (λ body. IsDamaged body stored computed) x.has.closed same.2 d.is

pub scrubbed_not_none : (image : List ℕ) (g p group : ℕ) → IsScrubbed image g p → IsNoStoreAt image group → ⊥
unfolding scrubbed_ended fails_ended
scrubbed_not_none image g p zero x none = none (ended_header image (scrubbed_ended image g p x))
scrubbed_not_none image g p (suc count) x none =
    let same = one_end image (scrubbed_ended image g p x) (fails_ended (λ format rest. IsCutShort rest ⊎ HasBody (IsNone format) rest) image count none (none_stops image count none)) in
    one same.2 none.is
  where
    one : x.has.gate ∷ x.has.rest ≡ none.rest → IsCutShort none.rest ⊎ HasBody (IsNone none.header.format) none.rest → ⊥
    one is (inl cut) = x.has.closed (subst IsCutShort (sym is) cut).0
    one is (inr has) = closed_has_none x.has.gate x.has.rest none.rest (IsNone none.header.format) x.has.closed is has

pub damaged_not_store : (image : List ℕ) (g group stored computed : ℕ) → IsBytes image → IsDamagedAt image g stored computed → IsNoStoreAt image group → ⊥
unfolding fails_ended
damaged_not_store image zero group stored computed are d none = absurd d
damaged_not_store image (suc count) zero stored computed are d none =
    none (ended_header image (fails_ended (λ format rest. HasBody (λ body. IsDamaged body stored computed) rest) image count d (damaged_stops image count stored computed are d)))
damaged_not_store image (suc m) (suc n) stored computed are d none =
    let same = one_end image (fails_ended (λ format rest. HasBody (λ body. IsDamaged body stored computed) rest) image m d (damaged_stops image m stored computed are d))
    (fails_ended (λ format rest. IsCutShort rest ⊎ HasBody (IsNone format) rest) image n none (none_stops image n none)) in
    one same.2 none.is
  where
    one : d.rest ≡ none.rest → IsCutShort none.rest ⊎ HasBody (IsNone none.header.format) none.rest → ⊥
    one is (inl cut) = cut_ends none.rest cut d.is.body d.is.others d.is.short (sym is ∙ d.is.bytes)
    one is (inr has) =
        let body : d.is.body ≡ has.body = (group_one d.is.body has.body d.is.others has.others d.is.short has.short (sym d.is.bytes ∙ is ∙ has.bytes)).0 in
        damaged_not_none none.header.format has.body stored computed (subst (λ (b : List ℕ). IsDamaged b stored computed) body d.is.is) has.is

pub damaged_at_once : (image : List ℕ) (g h s c t d : ℕ) → IsBytes image → IsDamagedAt image g s c → IsDamagedAt image h t d → (g ≡ h) × (s ≡ t) × (c ≡ d)
unfolding fails_ended
damaged_at_once image zero h s c t d are x y = absurd x
damaged_at_once image (suc m) zero s c t d are x y = absurd y
damaged_at_once image (suc m) (suc n) s c t d are x y =
    let same = one_end image (fails_ended (λ format rest. HasBody (λ body. IsDamaged body s c) rest) image m x (damaged_stops image m s c are x))
    (fails_ended (λ format rest. HasBody (λ body. IsDamaged body t d) rest) image n y (damaged_stops image n t d are y)) in
    let body : x.is.body ≡ y.is.body = (group_one x.is.body y.is.body x.is.others y.is.others x.is.short y.is.short (sym x.is.bytes ∙ same.2 ∙ y.is.bytes)).0 in
    let once = damaged_once y.is.body s c t d (subst (λ (b : List ℕ). IsDamaged b s c) body x.is.is) y.is.is in
    (ap suc (sym x.are ∙ ap length same.1 ∙ y.are), once.0, once.1)

pub no_store_once : (image : List ℕ) (g h : ℕ) → IsNoStoreAt image g → IsNoStoreAt image h → g ≡ h
unfolding fails_ended
no_store_once image zero zero x y = refl
no_store_once image zero (suc n) x y = absurd (x (ended_header image (fails_ended (λ format rest. IsCutShort rest ⊎ HasBody (IsNone format) rest) image n y (none_stops image n y))))
no_store_once image (suc m) zero x y = absurd (y (ended_header image (fails_ended (λ format rest. IsCutShort rest ⊎ HasBody (IsNone format) rest) image m x (none_stops image m x))))
no_store_once image (suc m) (suc n) x y =
    let same = one_end image (fails_ended (λ format rest. IsCutShort rest ⊎ HasBody (IsNone format) rest) image m x (none_stops image m x))
    (fails_ended (λ format rest. IsCutShort rest ⊎ HasBody (IsNone format) rest) image n y (none_stops image n y)) in
    ap suc (sym x.are ∙ ap length same.1 ∙ y.are)

pub one_scrub : OneScrub
one_scrub image (Ends d) (Ends e) w v are x y =
    let once = scrubbed_once image x.1.0 x.1.1 y.1.0 y.1.1 x.1.2 y.1.2 in
    (ap Ends (x.0 ∙ sym y.0), x.1.3 ∙ (λ i. scrub_line (once.0 i) (once.1 i)) ∙ sym y.1.3)
one_scrub image (Ends d) (NotStore g) w v are x y = absurd (scrubbed_not_none image x.1.0 x.1.1 g x.1.2 y.0)
one_scrub image (Ends d) (Damaged g s c) w v are x y = absurd (scrubbed_not_damaged image x.1.0 x.1.1 g s c are x.1.2 y.0)
one_scrub image (NotStore g) (Ends e) w v are x y = absurd (scrubbed_not_none image y.1.0 y.1.1 g y.1.2 x.0)
one_scrub image (NotStore g) (NotStore h) w v are x y = (ap NotStore (no_store_once image g h x.0 y.0), x.1 ∙ sym y.1)
one_scrub image (NotStore g) (Damaged h s c) w v are x y = absurd (damaged_not_store image h g s c are y.0 x.0)
one_scrub image (Damaged g s c) (Ends e) w v are x y = absurd (scrubbed_not_damaged image y.1.0 y.1.1 g s c are y.1.2 x.0)
one_scrub image (Damaged g s c) (NotStore h) w v are x y = absurd (damaged_not_store image g h s c are x.0 y.0)
one_scrub image (Damaged g s c) (Damaged h t d) w v are x y =
    let once = damaged_at_once image g h s c t d are x.0 y.0 in
    ((λ i. Damaged (once.0 i) (once.1 i) (once.2 i)), x.1 ∙ sym y.1)
one_scrub image (Missing what) e w v are x y = absurd x
one_scrub image (LogFull end wanted limit) e w v are x y = absurd x
one_scrub image (StoreThere size) e w v are x y = absurd x
one_scrub image d (Missing what) w v are x y = absurd y
one_scrub image d (LogFull end wanted limit) w v are x y = absurd y
one_scrub image d (StoreThere size) w v are x y = absurd y

-- ---- where an image stands for a store

group_whole : (format : ℕ) (g : Group) → IsGroup format g → IsWhole format (body_bytes g)
group_whole format g is =
    let known = number_known g in
    (number_of g.is_sealed g.content, content_bytes g.content, (known.0, known.1, λ below. is.old (plain_by g below)), one g.is_sealed g.content)
  where
    one : (s : Bool) (c : Content) → body_bytes (record { content = c; is_sealed = s }) ≡ body_with (number_of s c) (content_bytes c)
    one true (Mark head) = refl
    one true (Body uuid version commands) = refl
    one true (Drop name) = refl
    one false (Mark head) = refl
    one false (Body uuid version commands) = refl
    one false (Drop name) = refl

all_whole : (format : ℕ) (gs : List Group) → AllByRecursion (IsGroup format) gs → AllByRecursion (IsWhole format) (map body_bytes gs)
all_whole format [] are = tt
all_whole format (g ∷ gs) are = (group_whole format g are.0, all_whole format gs are.1)

pub stands_scrubbed : StoredIsWhole
stands_scrubbed image store stands =
    let bodies : List (List ℕ) = map body_bytes stands.groups in
    (length bodies, unsealed bodies, record { header = stands.header; bodies = bodies; has = stands.has; whole = all_whole stands.header.format stands.groups stands.makes.lawful; count = refl; plain_count = refl })
