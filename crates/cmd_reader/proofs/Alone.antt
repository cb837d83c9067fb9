-- A body that has wanted attributes alone is that of the canonical spelling.
use Rattle.std.specs.Prelude.{◌≡◌, ℕ, ◌+◌, ◌≤◌, Bool, true, false, ◌&&◌, ◌==◌, List, [], ◌∷◌, map, length, Option, None, Some, nat_le, if◌then◌else◌}
use Rattle.std.specs.List.{AllByRecursion}
use Rattle.std.proofs.Common.{refl, sym, ap, subst, ◌∙◌, arith, eqb-true, length-append}
use Rattle.std.proofs.lemmas.Bool.{eqb-false, ne_eqb, eq-eqb, le-leb}
use Rattle.send_model.specs.Attribute.{Field, FieldsFit, takes_rest}
use Rattle.send_model.specs.Spelling.{Attribute, attribute_bytes, body_of, value_of, with_fields, AreAttributes}
use Rattle.send_model.specs.Reading.{attribute_head, place_of}
use Rattle.send_model.proofs.Attributes.{bytes_by}
use Rattle.send_model.proofs.Sound.{and_both}
use Rattle.tlv_frame.specs.Table.{Table, Slot, slot_at, value_in, place_in, StandsFor}
use Rattle.tlv_frame.proofs.Progress.{head_at_least_two}
use Rattle.cmd_reader.specs.Alone.{end_at, stand}

-- How many bytes an attribute takes.
abbrev size : ℕ → Attribute → ℕ
size version a = attribute_head version a.kind + length a.bytes

abbrev pub total : ℕ → List Attribute → ℕ
total version [] = 0
total version (a ∷ rest) = size version a + total version rest

attribute_size : (version : ℕ) (a : Attribute) → length (attribute_bytes version a) ≡ size version a
attribute_size version a = by (takes_rest version a.kind) refl
  where
    by : (b : Bool) → takes_rest version a.kind ≡ b → length (attribute_bytes version a) ≡ size version a
    by true e =
        let l = ap length (bytes_by version a true e) in
        let head : attribute_head version a.kind ≡ 2 = ap (λ (t : Bool). if t then 2 else 4) e in
        omega (arith, l, head)
    by false e =
        let l = ap length (bytes_by version a false e) in
        let head : attribute_head version a.kind ≡ 4 = ap (λ (t : Bool). if t then 2 else 4) e in
        omega (arith, l, head)

pub body_size : (version : ℕ) (xs : List Attribute) → length (body_of version xs) ≡ total version xs
unfolding body_of
body_size version [] = refl
body_size version (a ∷ xs) = length-append (attribute_bytes version a) (body_of version xs) ∙ omega (arith, attribute_size version a, body_size version xs)

pub some_is : {A : Type 0} (x y : A) → Some x ≡ Some y → x ≡ y
some_is {A = A} x y e = ap (λ (o : Option A). elim o [ None ↦ x | Some z ↦ z ]) e

-- The bytes of an attribute stand behind its head.
place_least : (version kind : ℕ) (xs : List Attribute) (p : ℕ) → place_of version kind xs ≡ Some p → attribute_head version kind ≤ p
place_least version kind [] p e = cc
place_least version kind (a ∷ xs) p e = by (a.kind == kind) (place_of version kind xs) (place_least version kind xs) e
  where
    by : (b : Bool) (o : Option ℕ) → ((q : ℕ) → o ≡ Some q → attribute_head version kind ≤ q)
        → (if b then Some (attribute_head version kind) else elim o [ None ↦ None | Some place ↦ Some (attribute_head version a.kind + length a.bytes + place) ]) ≡ Some p → attribute_head version kind ≤ p
    by true o f q = omega (arith, some_is (attribute_head version kind) p q)
    by false None f q = cc
    by false (Some place) f q = let least = f place refl in omega (arith, least, some_is (attribute_head version a.kind + length a.bytes + place) p q)

-- Some attributes stand one after the other among all of them, from a place on up to a length.
abbrev pub Follow : ℕ → List Attribute → ℕ → List Attribute → ℕ → Type 0
Follow version all len [] at = at ≡ len
Follow version all len (y ∷ ys) at =
    ((value_of y.kind all ≡ Some y.bytes) × (place_of version y.kind all ≡ Some (at + attribute_head version y.kind))) × Follow version all len ys (at + attribute_head version y.kind + length y.bytes)

-- Without the first of all.
behind : (version : ℕ) (a : Attribute) (rest : List Attribute) (len : ℕ) (ys : List Attribute) (at : ℕ) → Follow version (a ∷ rest) (size version a + len) ys (size version a + at) → Follow version rest len ys at
behind version a rest len [] at e = omega (arith, e)
behind version a rest len (y ∷ ys) at f = (
  here (a.kind == y.kind) f.0.0 f.0.1,
  behind version a rest len ys (at + attribute_head version y.kind + length y.bytes) (subst (λ (n : ℕ). Follow version (a ∷ rest) (size version a + len) ys n) place f.1),
)
  where
    place : (size version a + at) + attribute_head version y.kind + length y.bytes ≡ size version a + (at + attribute_head version y.kind + length y.bytes)
    place = omega arith

    moved : (o : Option ℕ) → elim o as (λ x. Option ℕ) [ None ↦ None | Some q ↦ Some (attribute_head version a.kind + length a.bytes + q) ] ≡ Some ((size version a + at) + attribute_head version y.kind) → o ≡ Some (at + attribute_head version y.kind)
    moved None e = cc
    moved (Some q) e = ap (λ (n : ℕ). Some n) (omega (arith, some_is (attribute_head version a.kind + length a.bytes + q) ((size version a + at) + attribute_head version y.kind) e))

    here : (b : Bool) → (if b then Some a.bytes else value_of y.kind rest) ≡ Some y.bytes
        → (if b then Some (attribute_head version y.kind) else elim (place_of version y.kind rest) [ None ↦ None | Some place ↦ Some (attribute_head version a.kind + length a.bytes + place) ]) ≡ Some ((size version a + at) + attribute_head version y.kind)
        → (value_of y.kind rest ≡ Some y.bytes) × (place_of version y.kind rest ≡ Some (at + attribute_head version y.kind))
    here true v p = absurd (omega (arith, some_is (attribute_head version y.kind) ((size version a + at) + attribute_head version y.kind) p, head_at_least_two version a.kind))
    here false v p = (v, moved (place_of version y.kind rest) p)

-- So they are all, where they begin at the front and end at the end.
pub follow_same : (version : ℕ) (xs ys : List Attribute) → Follow version xs (total version xs) ys 0 → xs ≡ ys
follow_same version [] [] f = refl
follow_same version [] (y ∷ ys) f = let v = f.0.0 in cc
follow_same version (a ∷ xs) [] f = absurd (omega (arith, f, head_at_least_two version a.kind))
follow_same version (a ∷ xs) (y ∷ ys) f = by (a.kind == y.kind) refl f.0.0 f.0.1 (λ rest. follow_same version xs ys rest)
  where
    far : (o : Option ℕ) → ((q : ℕ) → o ≡ Some q → attribute_head version y.kind ≤ q)
        → elim o as (λ x. Option ℕ) [ None ↦ None | Some q ↦ Some (attribute_head version a.kind + length a.bytes + q) ] ≡ Some (0 + attribute_head version y.kind) → ⊥
    far None least e = cc
    far (Some q) least e = let more = least q refl in omega (arith, more, head_at_least_two version a.kind, some_is (attribute_head version a.kind + length a.bytes + q) (0 + attribute_head version y.kind) e)

    first : a.kind ≡ y.kind → a.bytes ≡ y.bytes → (Follow version xs (total version xs) ys 0 → xs ≡ ys) → (a ∷ xs) ≡ (y ∷ ys)
    first k b same_rest =
        let same : a ≡ y = ap (λ (n : ℕ). record { kind = n; bytes = a.bytes }) k ∙ ap (λ (l : List ℕ). record { kind = y.kind; bytes = l }) b in
        let place : 0 + attribute_head version y.kind + length y.bytes ≡ size version a + 0 = ap (λ (z : Attribute). 0 + attribute_head version z.kind + length z.bytes) (sym same) ∙ omega arith in
        let rest = behind version a xs (total version xs) ys 0 (subst (λ (n : ℕ). Follow version (a ∷ xs) (total version (a ∷ xs)) ys n) place f.1) in
        ap (λ (z : Attribute). z ∷ xs) same ∙ ap (λ (l : List Attribute). y ∷ l) (same_rest rest)

    by : (b : Bool) → (a.kind == y.kind) ≡ b → (if b then Some a.bytes else value_of y.kind xs) ≡ Some y.bytes
        → (if b then Some (attribute_head version y.kind) else elim (place_of version y.kind xs) [ None ↦ None | Some place ↦ Some (attribute_head version a.kind + length a.bytes + place) ]) ≡ Some (0 + attribute_head version y.kind)
        → (Follow version xs (total version xs) ys 0 → xs ≡ ys) → (a ∷ xs) ≡ (y ∷ ys)
    by true q v p same_rest = first (eqb-true a.kind y.kind q) (some_is a.bytes y.bytes v) same_rest
    by false q v p same_rest = absurd (far (place_of version y.kind xs) (place_least version y.kind xs) p)

-- What was tried of a table says so of the attributes that it stands for.
pub stand_follow : (table : Table) (xs : List Attribute) → StandsFor table xs → (len : ℕ) (ys : List Attribute) (at : ℕ) → AllByRecursion (λ y. value_of y.kind xs ≡ Some y.bytes) ys → stand table len (map (λ y. y.kind) ys) at ≡ true → Follow table.version xs len ys at
stand_follow table xs sf len [] at all e = eqb-true at len e
stand_follow table xs sf len (y ∷ ys) at all e =
    let found = by (slot_at table.slots y.kind) (sf.values y.kind ∙ all.0) e in
    ((all.0, sym (sf.places y.kind) ∙ found.0), stand_follow table xs sf len ys (at + attribute_head table.version y.kind + length y.bytes) all.1 found.1)
  where
    head : ℕ
    head = attribute_head table.version y.kind

    more : ℕ → Bool
    more end = stand table len (map (λ (z : Attribute). z.kind) ys) end

    ends : (b : Bool) (end : ℕ) → (elim (if b then Some end else None) as (λ x. Bool) [ None ↦ false | Some n ↦ more n ]) ≡ true → (b ≡ true) × (more end ≡ true)
    ends true end q = (refl, q)
    ends false end q = cc

    by : (o : Option Slot) → value_in o ≡ Some y.bytes → (elim (end_at table.version y.kind len at o) as (λ x. Bool) [ None ↦ false | Some n ↦ more n ]) ≡ true → (place_in o ≡ Some (at + head)) × (more (at + head + length y.bytes) ≡ true)
    by None v q = cc
    by (Some slot) v q =
        let there = ends ((slot.place == at + head) && nat_le (slot.place + length slot.bytes) len) (slot.place + length slot.bytes) q in
        let place : slot.place ≡ at + head = eqb-true slot.place (at + head) (and_both (slot.place == at + head) (nat_le (slot.place + length slot.bytes) len) there.0).0 in
        let bytes : slot.bytes ≡ y.bytes = some_is slot.bytes y.bytes v in
        (ap (λ (n : ℕ). Some n) place, subst (λ (n : ℕ). more n ≡ true) (omega (arith, place, ap (λ (l : List ℕ). length l) bytes)) there.1)

-- The wanted attributes have the wanted numbers.
pub kinds_with : (version : ℕ) (kinds : List ℕ) (fields : List Field) → FieldsFit version kinds fields → map (λ (a : Attribute). a.kind) (with_fields kinds fields) ≡ kinds
kinds_with version [] [] fits = refl
kinds_with version [] (field ∷ fields) fits = absurd fits
kinds_with version (kind ∷ kinds) [] fits = absurd fits
kinds_with version (kind ∷ kinds) (field ∷ fields) fits = ap (λ (l : List ℕ). kind ∷ l) (kinds_with version kinds fields fits.1)

-- ---- the other way

-- Attributes among others of other numbers.
ahead : (version : ℕ) (a : Attribute) (rest : List Attribute) (len : ℕ) (ys : List Attribute) (at : ℕ) → AllByRecursion (λ (y : Attribute). (a.kind == y.kind) ≡ false) ys → Follow version rest len ys at → Follow version (a ∷ rest) (size version a + len) ys (size version a + at)
ahead version a rest len [] at new f = ap (λ (n : ℕ). size version a + n) f
ahead version a rest len (y ∷ ys) at new f = (
  here (a.kind == y.kind) new.0,
  subst (λ (n : ℕ). Follow version (a ∷ rest) (size version a + len) ys n) place (ahead version a rest len ys (at + attribute_head version y.kind + length y.bytes) new.1 f.1),
)
  where
    place : size version a + (at + attribute_head version y.kind + length y.bytes) ≡ (size version a + at) + attribute_head version y.kind + length y.bytes
    place = omega arith

    moved : ℕ → Option ℕ
    moved q = Some (attribute_head version a.kind + length a.bytes + q)

    here : (b : Bool) → b ≡ false → ((if b then Some a.bytes else value_of y.kind rest) ≡ Some y.bytes)
        × ((if b then Some (attribute_head version y.kind) else elim (place_of version y.kind rest) [ None ↦ None | Some q ↦ Some (attribute_head version a.kind + length a.bytes + q) ]) ≡ Some ((size version a + at) + attribute_head version y.kind))
    here true e = cc
    here false e = (f.0.0, ap (λ (o : Option ℕ). elim o as (λ x. Option ℕ) [ None ↦ None | Some q ↦ Some (attribute_head version a.kind + length a.bytes + q) ]) f.0.1 ∙ ap (λ (n : ℕ). Some n) (omega arith))

others_differ : (kind : ℕ) (ys : List Attribute) → value_of kind ys ≡ None → AllByRecursion (λ (y : Attribute). (kind == y.kind) ≡ false) ys
others_differ kind [] e = tt
others_differ kind (y ∷ ys) e = let b = by (y.kind == kind) refl e in (b.0, others_differ kind ys b.1)
  where
    by : (b : Bool) → (y.kind == kind) ≡ b → (if b then Some y.bytes else value_of kind ys) ≡ None → ((kind == y.kind) ≡ false) × (value_of kind ys ≡ None)
    by true q r = cc
    by false q r = (ne_eqb kind y.kind (λ same. eqb-false y.kind kind q (sym same)), r)

-- All attributes of a body stand one after the other.
all_follow : (version : ℕ) (xs : List Attribute) → AreAttributes version xs → Follow version xs (total version xs) xs 0
all_follow version [] are = refl
all_follow version (a ∷ xs) are = (
  here (a.kind == a.kind) (eq-eqb a.kind a.kind refl),
  subst (λ (n : ℕ). Follow version (a ∷ xs) (size version a + total version xs) xs n) (omega arith) (ahead version a xs (total version xs) xs 0 (others_differ a.kind xs are.1) (all_follow version xs are.3)),
)
  where
    here : (b : Bool) → b ≡ true → ((if b then Some a.bytes else value_of a.kind xs) ≡ Some a.bytes)
        × ((if b then Some (attribute_head version a.kind) else elim (place_of version a.kind xs) [ None ↦ None | Some q ↦ Some (attribute_head version a.kind + length a.bytes + q) ]) ≡ Some (0 + attribute_head version a.kind))
    here true e = (refl, ap (λ (n : ℕ). Some n) (omega arith))
    here false e = cc

follow_within : (version : ℕ) (all : List Attribute) (len : ℕ) (ys : List Attribute) (at : ℕ) → Follow version all len ys at → at ≤ len
follow_within version all len [] at f = omega (arith, f)
follow_within version all len (y ∷ ys) at f = let more = follow_within version all len ys (at + attribute_head version y.kind + length y.bytes) f.1 in omega (arith, more)

-- A table that stands for them says so.
follow_stand : (table : Table) (xs : List Attribute) → StandsFor table xs → (len : ℕ) (ys : List Attribute) (at : ℕ) → Follow table.version xs len ys at → stand table len (map (λ (y : Attribute). y.kind) ys) at ≡ true
follow_stand table xs sf len [] at f = eq-eqb at len f
follow_stand table xs sf len (y ∷ ys) at f =
    by (slot_at table.slots y.kind) (sf.values y.kind ∙ f.0.0) (sf.places y.kind ∙ f.0.1) (follow_within table.version xs len ys (at + attribute_head table.version y.kind + length y.bytes) f.1)
    (follow_stand table xs sf len ys (at + attribute_head table.version y.kind + length y.bytes) f.1)
  where
    head : ℕ
    head = attribute_head table.version y.kind

    more : ℕ → Bool
    more end = stand table len (map (λ (z : Attribute). z.kind) ys) end

    go : Option ℕ → Bool
    go o = elim o as (λ x. Bool) [ None ↦ false | Some n ↦ more n ]

    E : ℕ → List ℕ → Bool
    E place bytes = go (if (place == at + head) && nat_le (place + length bytes) len then Some (place + length bytes) else None)

    by : (o : Option Slot) → value_in o ≡ Some y.bytes → place_in o ≡ Some (at + head) → at + head + length y.bytes ≤ len → more (at + head + length y.bytes) ≡ true → go (end_at table.version y.kind len at o) ≡ true
    by None v p within rest = cc
    by (Some slot) v p within rest =
        ap (λ (n : ℕ). E n slot.bytes) (some_is slot.place (at + head) p) ∙ ap (E (at + head)) (some_is slot.bytes y.bytes v)
        ∙ rw (eq-eqb (at + head) (at + head) refl, le-leb (at + head + length y.bytes) len within) rest

pub alone_stand : (table : Table) (xs : List Attribute) → StandsFor table xs → AreAttributes table.version xs → stand table (total table.version xs) (map (λ (y : Attribute). y.kind) xs) 0 ≡ true
alone_stand table xs sf are = follow_stand table xs sf (total table.version xs) xs 0 (all_follow table.version xs are)
