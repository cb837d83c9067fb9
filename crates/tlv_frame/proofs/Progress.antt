-- Reading a body attribute by attribute: what was read, and what is left, are all that is read.
use Rattle.std.proofs.Common.{◌≡◌, ℕ, zero, suc, ◌+◌, ◌-◌, ◌<◌, ◌≤◌, Bool, true, false, not, ◌&&◌, List, [], ◌∷◌, ◌++◌, length, map, take, drop, set, replicate, Option, None, Some, Result, Ok, Err, refl, sym, ap, subst, ◌∙◌, arith, append_assoc, inl, inr, if◌then◌else◌, ◌==◌, nat_le, nat_lt}
use Rattle.std.specs.Option.{is_some}
use Rattle.std.proofs.lemmas.Bool.{cases_eq, eqb-true, leb-true, false_from_ne_true, eq-eqb, le-ltb}
use Rattle.std.proofs.lemmas.List.{append-nil, drop-drop, length-set, get_or-set_same, get_or-set_other, length-take, length-drop, take_all}
use Rattle.std.proofs.Math.ListN.{drop_of_length-le}
use Rattle.send_model.specs.Refusal as meant
use Rattle.send_model.specs.Chain.{◌>>=◌, ◌>>◌, require}
use Rattle.send_model.specs.Attribute.{is_one_of, last_attribute, takes_rest, HasRoom}
use Rattle.send_model.specs.Spelling.{Attribute, value_of}
use Rattle.send_model.specs.Reading.{number16, attribute_head, attribute_len, attribute_end, attribute_in, attribute_number, attribute_lawful, attributes_from, attributes_at, place_of}
use Rattle.tlv_frame.specs.Table.{Slot, absent, slot_in, slot_at, value_in, place_in, IsShort, IsWhole, StandsFor}
use Rattle.tlv_frame.proofs.Slots.{has_bytes, none_absent}
use Rattle.tlv_frame.specs.Front.{front_lawful, front_at}

-- ---- lists with one attribute more

value_same : (read : List Attribute) (a : Attribute) → value_of a.kind read ≡ None → value_of a.kind (read ++ a ∷ []) ≡ Some a.bytes
value_same [] a none = rw (eq-eqb a.kind a.kind refl) refl
value_same (b ∷ read) a none = go (value_same read a) (b.kind == a.kind) refl none
  where
    go : (value_of a.kind read ≡ None → value_of a.kind (read ++ a ∷ []) ≡ Some a.bytes) → (t : Bool) → (b.kind == a.kind) ≡ t → (if t then Some b.bytes else value_of a.kind read) ≡ None → value_of a.kind ((b ∷ read) ++ a ∷ []) ≡ Some a.bytes
    go more true e n = absurd cc
    go more false e n = rw e (more n)

value_other : (kind : ℕ) (read : List Attribute) (a : Attribute) → (a.kind == kind) ≡ false → value_of kind (read ++ a ∷ []) ≡ value_of kind read
value_other kind [] a other = rw other refl
value_other kind (b ∷ read) a other = rw (value_other kind read a other) refl

-- The place after an attribute, from its own.
abbrev pub long : ℕ → Attribute → ℕ
long version a = attribute_head version a.kind + length a.bytes

abbrev pub size_of : ℕ → List Attribute → ℕ
size_of version [] = 0
size_of version (a ∷ read) = attribute_head version a.kind + length a.bytes + size_of version read

size_more : (version : ℕ) (read : List Attribute) (a : Attribute) → size_of version (read ++ a ∷ []) ≡ size_of version read + long version a
size_more version [] a = omega arith
size_more version (b ∷ read) a = rw (size_more version read a) (omega arith)

place_same : (version : ℕ) (read : List Attribute) (a : Attribute) → value_of a.kind read ≡ None → place_of version a.kind (read ++ a ∷ []) ≡ Some (size_of version read + attribute_head version a.kind)
place_same version [] a none = let z : attribute_head version a.kind ≡ 0 + attribute_head version a.kind = omega arith in rw (eq-eqb a.kind a.kind refl) (ap (λ (n : ℕ). Some n) z)
place_same version (b ∷ read) a none = go (place_same version read a) (b.kind == a.kind) refl none
  where
    go : (value_of a.kind read ≡ None → place_of version a.kind (read ++ a ∷ []) ≡ Some (size_of version read + attribute_head version a.kind)) → (t : Bool) → (b.kind == a.kind) ≡ t → (if t then Some b.bytes else value_of a.kind read) ≡ None
        → place_of version a.kind ((b ∷ read) ++ a ∷ []) ≡ Some (size_of version (b ∷ read) + attribute_head version a.kind)
    go more true e n = absurd cc
    go more false e n = rw (e, more n) (ap (λ (n : ℕ). Some n) (omega arith))

place_other : (version kind : ℕ) (read : List Attribute) (a : Attribute) → (a.kind == kind) ≡ false → place_of version kind (read ++ a ∷ []) ≡ place_of version kind read
place_other version kind [] a other = rw other refl
place_other version kind (b ∷ read) a other = rw (place_other version kind read a other) refl

-- ---- one step of reading

abbrev pub with_front : List Attribute → Result (List Attribute) meant.Refusal → Result (List Attribute) meant.Refusal
with_front read (Ok rest) = Ok (read ++ rest)
with_front read (Err refusal) = Err refusal

one_more : (a : Attribute) (r : Result (List Attribute) meant.Refusal) → (r >>= λ rest. Ok (a ∷ rest)) ≡ with_front (a ∷ []) r
one_more a (Ok rest) = refl
one_more a (Err refusal) = refl

regroup : (read : List Attribute) (a : Attribute) (r : Result (List Attribute) meant.Refusal) → with_front read (with_front (a ∷ []) r) ≡ with_front (read ++ a ∷ []) r
regroup read a (Ok rest) = ap (λ (l : List Attribute). Ok l) (sym (append_assoc read (a ∷ []) rest))
regroup read a (Err refusal) = refl

record Fronted (version : ℕ) (body : List ℕ) (a : Attribute) : Type 0 where
  whole : nat_le 2 (length body) ≡ true
  above : nat_lt 0 (number16 body) ≡ true
  below : nat_le (number16 body) (last_attribute version) ≡ true
  room : nat_le (attribute_end version body) (length body) ≡ true
  is : attribute_in version body ≡ a

fronted : (version : ℕ) (body : List ℕ) (a : Attribute) → front_at version body ≡ Ok a → Fronted version body a
unfolding front_at
fronted version body a e = go (nat_le 2 (length body)) (nat_lt 0 (number16 body)) (nat_le (number16 body) (last_attribute version)) (nat_le (attribute_end version body) (length body)) refl refl refl refl e
  where
    go : (p q r s : Bool) → nat_le 2 (length body) ≡ p → nat_lt 0 (number16 body) ≡ q → nat_le (number16 body) (last_attribute version) ≡ r → nat_le (attribute_end version body) (length body) ≡ s
        → (require (p && q && r && s) (meant.BadAttribute (attribute_number body)) >> Ok (attribute_in version body)) ≡ Ok a → Fronted version body a
    go true true true true p q r s e = record { whole = p; above = q; below = r; room = s; is = cc }
    go true true true false p q r s e = absurd cc
    go true true false t p q r s e = absurd cc
    go true false t u p q r s e = absurd cc
    go false t u v p q r s e = absurd cc

not_fronted : (version : ℕ) (body : List ℕ) (refusal : meant.Refusal) → front_at version body ≡ Err refusal → (front_lawful version body ≡ false) × (refusal ≡ meant.BadAttribute (attribute_number body))
unfolding front_at
not_fronted version body refusal e = go (front_lawful version body) refl e
  where
    go : (t : Bool) → front_lawful version body ≡ t → (require t (meant.BadAttribute (attribute_number body)) >> Ok (attribute_in version body)) ≡ Err refusal → (front_lawful version body ≡ false) × (refusal ≡ meant.BadAttribute (attribute_number body))
    go true f e = absurd cc
    go false f e = (f, cc)

-- A breach in front is one whatever was seen.
unlawful : (p q r t s : Bool) → (p && q && r && s) ≡ false → (p && q && r && t && s) ≡ false
unlawful false q r t s e = refl
unlawful true false r t s e = refl
unlawful true true false t s e = refl
unlawful true true true false s e = refl
unlawful true true true true s e = e

step_err : (n version : ℕ) (seen : List ℕ) (b : ℕ) (bs : List ℕ) (refusal : meant.Refusal) → front_at version (b ∷ bs) ≡ Err refusal
    → attributes_from (suc n) version seen (b ∷ bs) ≡ Err refusal
unfolding attributes_from
step_err n version seen b bs refusal e =
    let body : List ℕ = b ∷ bs in
    let not_lawful = not_fronted version body refusal e in
    let fails : attribute_lawful version seen body ≡ false = unlawful (nat_le 2 (length body)) (nat_lt 0 (number16 body)) (nat_le (number16 body) (last_attribute version)) (not (is_one_of (number16 body) seen)) (nat_le (attribute_end version body) (length body)) not_lawful.0 in
    rw fails (ap (λ (r : meant.Refusal). Err r) (sym not_lawful.1))

kind_of_front : (version : ℕ) (body : List ℕ) (a : Attribute) → Fronted version body a → number16 body ≡ a.kind
kind_of_front version body a f = ap (λ (x : Attribute). x.kind) f.is

number_of_front : (version : ℕ) (body : List ℕ) (a : Attribute) → Fronted version body a → attribute_number body ≡ a.kind
number_of_front version body a f = let long : nat_lt (length body) 2 ≡ false = le-ltb _ _ (leb-true _ _ f.whole) in rw long (kind_of_front version body a f)

len_of_front : (version : ℕ) (body : List ℕ) (a : Attribute) → Fronted version body a → attribute_len version body ≡ length a.bytes
len_of_front version body a f = len (attribute_head version (number16 body)) (attribute_len version body) (leb-true _ _ f.room) f.is
  where
    len : (head len : ℕ) → head + len ≤ length body → ◌≡◌ {A = Attribute} (record { kind = number16 body; bytes = take len (drop head body) }) a → len ≡ length a.bytes
    len head n room is = sym (ap (λ (x : Attribute). length x.bytes) (sym is) ∙ length-take n (drop head body) ∙ omega (arith, room, length-drop head body))

end_of_front : (version : ℕ) (body : List ℕ) (a : Attribute) → Fronted version body a → attribute_end version body ≡ long version a
end_of_front version body a f = ap (λ (k : ℕ). attribute_head version k + attribute_len version body) (kind_of_front version body a f) ∙ ap (λ (n : ℕ). attribute_head version a.kind + n) (len_of_front version body a f)

step_seen : (n version : ℕ) (seen : List ℕ) (b : ℕ) (bs : List ℕ) (a : Attribute) → front_at version (b ∷ bs) ≡ Ok a → is_one_of a.kind seen ≡ true
    → attributes_from (suc n) version seen (b ∷ bs) ≡ Err (meant.BadAttribute a.kind)
unfolding attributes_from
step_seen n version seen b bs a e again =
    let body : List ℕ = b ∷ bs in
    let f = fronted version body a e in
    let there : is_one_of (number16 body) seen ≡ true = rw (kind_of_front version body a f) again in
    let fails : attribute_lawful version seen body ≡ false = rw (f.whole, f.above, f.below, there) refl in
    rw fails (ap (λ (k : ℕ). Err (meant.BadAttribute k)) (number_of_front version body a f))

step_ok : (n version : ℕ) (seen : List ℕ) (b : ℕ) (bs : List ℕ) (a : Attribute) → front_at version (b ∷ bs) ≡ Ok a → is_one_of a.kind seen ≡ false
    → attributes_from (suc n) version seen (b ∷ bs) ≡ with_front (a ∷ []) (attributes_from n version (a.kind ∷ seen) (drop (long version a) (b ∷ bs)))
unfolding attributes_from
step_ok n version seen b bs a e new =
    let body : List ℕ = b ∷ bs in
    let f = fronted version body a e in
    let there : is_one_of (number16 body) seen ≡ false = rw (kind_of_front version body a f) new in
    let holds : attribute_lawful version seen body ≡ true = rw (f.whole, f.above, f.below, there, f.room) refl in
    rw holds (ap (λ (x : Attribute). attributes_from n version (x.kind ∷ seen) (drop (attribute_end version body) body) >>= λ rest. Ok (x ∷ rest)) f.is
    ∙ one_more a (attributes_from n version (a.kind ∷ seen) (drop (attribute_end version body) body))
    ∙ ap (λ (k : ℕ). with_front (a ∷ []) (attributes_from n version (a.kind ∷ seen) (drop k body))) (end_of_front version body a f))

-- ---- progress

-- So much of a body was read: the attributes that were read, their numbers, how many more there may
-- be at most, and that what is left gives, after these, what the whole body gives.
pub record Read (version : ℕ) (body : List ℕ) (at : ℕ) (read : List Attribute) (seen : List ℕ) (fuel : ℕ) : Type 0 where
  pub within : at ≤ length body
  pub enough : length body ≤ at + fuel
  pub total : with_front read (attributes_from fuel version seen (drop at body)) ≡ attributes_at version body
  pub spent : size_of version read ≡ at

-- The slots are those of the attributes that were read.
pub record Kept (version : ℕ) (slots : List (Option Slot)) (read : List Attribute) (seen : List ℕ) : Type 0 where
  pub known : (kind : ℕ) → is_one_of kind seen ≡ is_some (slot_at slots kind)
  pub values : (kind : ℕ) → value_in (slot_at slots kind) ≡ value_of kind read
  pub places : (kind : ℕ) → place_in (slot_at slots kind) ≡ place_of version kind read
  pub whole : IsWhole version slots

pub record Progress (version : ℕ) (body : List ℕ) (at : ℕ) (slots : List (Option Slot)) : Type 0 where
  pub read : List Attribute
  pub seen : List ℕ
  pub fuel : ℕ
  pub bytes : Read version body at read seen fuel
  pub kept : Kept version slots read seen

with_nothing : (r : Result (List Attribute) meant.Refusal) → with_front [] r ≡ r
with_nothing (Ok rest) = refl
with_nothing (Err refusal) = refl

begins : (version : ℕ) (body : List ℕ) (slots : List (Option Slot)) → length slots ≡ 32 → ((kind : ℕ) → slot_at slots kind ≡ None) → Progress version body 0 slots
unfolding attributes_at
begins version body slots count none = record {
  read = [];
  seen = [];
  fuel = length body;
  bytes = record { within = omega arith; enough = omega arith; total = with_nothing (attributes_from (length body) version [] body); spent = refl };
  kept = record {
    known = λ kind. sym (ap (λ (s : Option Slot). is_some s) (none kind));
    values = λ kind. ap value_in (none kind);
    places = λ kind. ap place_in (none kind);
    whole = record { count = count; short = λ kind. subst (IsShort version kind) (sym (none kind)) tt };
  };
}

-- An attribute has two bytes at the least before its own.
pub head_at_least_two : (version kind : ℕ) → 2 ≤ attribute_head version kind
head_at_least_two version kind = go (takes_rest version kind)
  where
    go : (b : Bool) → 2 ≤ (if b then 2 else 4)
    go true = omega arith
    go false = omega arith

last_below : (version : ℕ) → last_attribute version ≤ 31
last_below version = go (version == 1)
  where
    go : (b : Bool) → (if b then 24 else 31) ≤ 31
    go true = omega arith
    go false = omega arith

reads_on : (version : ℕ) (body : List ℕ) (at : ℕ) (read : List Attribute) (seen : List ℕ) (fuel : ℕ) (a : Attribute) → Read version body at read seen fuel → at < length body
    → front_at version (drop at body) ≡ Ok a → is_one_of a.kind seen ≡ false → (n : ℕ) × Read version body (at + long version a) (read ++ a ∷ []) (a.kind ∷ seen) n
reads_on version body at read seen fuel a so_far more e new = go fuel (drop at body) refl so_far e
  where
    go : (fuel : ℕ) (left : List ℕ) → drop at body ≡ left → Read version body at read seen fuel → front_at version left ≡ Ok a → (n : ℕ) × Read version body (at + long version a) (read ++ a ∷ []) (a.kind ∷ seen) n
    go zero left is r e = absurd (omega (arith, r.enough, more))
    go (suc n) [] is r e = absurd (omega (arith, more, length-drop at body, ap (λ (l : List ℕ). length l) is))
    go (suc n) (b ∷ bs) is r e =
        let f = fronted version (b ∷ bs) a e in
        let len = end_of_front version (b ∷ bs) a f in
        let size : length body - at ≡ length (b ∷ bs) = sym (length-drop at body) ∙ ap (λ (l : List ℕ). length l) is in
        let rest : drop (long version a) (b ∷ bs) ≡ drop (at + long version a) body = ap (drop (long version a)) (sym is) ∙ drop-drop (long version a) at body in (
          n,
          record {
            within = omega (arith, leb-true _ _ f.room, size, len, more);
            enough = omega (arith, r.enough, head_at_least_two version a.kind);
            total = sym (regroup read a (attributes_from n version (a.kind ∷ seen) (drop (at + long version a) body)))
                ∙ ap (λ (l : List ℕ). with_front read (with_front (a ∷ []) (attributes_from n version (a.kind ∷ seen) l))) (sym rest)
                ∙ ap (with_front read) (sym (step_ok n version seen b bs a e new))
                ∙ ap (λ (l : List ℕ). with_front read (attributes_from (suc n) version seen l)) (sym is)
                ∙ r.total;
            spent = size_more version read a ∙ ap (λ (k : ℕ). k + (long version a)) r.spent;
          },
        )

none_of : (slot : Option Slot) → is_some slot ≡ false → slot ≡ None
none_of None e = refl
none_of (Some s) e = absurd cc

keeps_on : (version : ℕ) (slots : List (Option Slot)) (read : List Attribute) (seen : List ℕ) (a : Attribute) → Kept version slots read seen → a.kind < 32 → HasRoom version a.kind (length a.bytes) → is_some (slot_at slots a.kind) ≡ false
    → Kept version (set slots a.kind (Some (record { place = size_of version read + attribute_head version a.kind; bytes = a.bytes }))) (read ++ a ∷ []) (a.kind ∷ seen)
keeps_on version slots read seen a k known short free = record {
  known = λ kind. at_kind kind (λ s. is_one_of kind (a.kind ∷ seen) ≡ is_some s) (λ e. rw (eq-eqb a.kind kind (sym e)) refl) (λ other. rw other (k.known kind));
  values = λ kind. at_kind kind (λ s. value_in s ≡ value_of kind (read ++ a ∷ []))
      (λ e. sym (ap (λ (j : ℕ). value_of j (read ++ a ∷ [])) e ∙ value_same read a new))
      (λ other. k.values kind ∙ sym (value_other kind read a other));
  places = λ kind. at_kind kind (λ s. place_in s ≡ place_of version kind (read ++ a ∷ []))
      (λ e. sym (ap (λ (j : ℕ). place_of version j (read ++ a ∷ [])) e ∙ place_same version read a new))
      (λ other. k.places kind ∙ sym (place_other version kind read a other));
  whole = record {
    count = length-set slots a.kind (Some slot) ∙ k.whole.count;
    short = λ kind. at_kind kind (IsShort version kind) (λ e. subst (λ (j : ℕ). HasRoom version j (length a.bytes)) (sym e) short) (λ other. k.whole.short kind);
  };
}
  where
    slot : Slot
    slot = record { place = size_of version read + attribute_head version a.kind; bytes = a.bytes }

    new : value_of a.kind read ≡ None
    new = sym (k.values a.kind) ∙ ap value_in (none_of (slot_at slots a.kind) free)

    within : a.kind < length slots
    within = omega (arith, k.whole.count, known)

    at_kind : (kind : ℕ) (P : Option Slot → Type 0) → (kind ≡ a.kind → P (Some slot)) → ((a.kind == kind) ≡ false → P (slot_at slots kind)) → P (slot_at (set slots a.kind (Some slot)) kind)
    at_kind kind P here there = elim (cases_eq kind a.kind) [
      | inl e ↦ subst P (sym (ap (λ (j : ℕ). slot_at (set slots a.kind (Some slot)) j) e ∙ get_or-set_same slots a.kind (Some slot) None within)) (here e)
      | inr ne ↦ subst P (sym (get_or-set_other slots a.kind kind (Some slot) None ne)) (there (false_from_ne_true (a.kind == kind) (λ t. ne (sym (eqb-true a.kind kind t)))))
    ]

-- One attribute more.
pub goes_on : (version : ℕ) (body : List ℕ) (at : ℕ) (slots : List (Option Slot)) (a : Attribute) → Progress version body at slots → at < length body → front_at version (drop at body) ≡ Ok a
    → is_some (slot_at slots a.kind) ≡ false → HasRoom version a.kind (length a.bytes) → Progress version body (at + long version a) (set slots a.kind (Some (record { place = at + attribute_head version a.kind; bytes = a.bytes })))
goes_on version body at slots a p more e free short =
    let next = reads_on version body at p.read p.seen p.fuel a p.bytes more e (p.kept.known a.kind ∙ free) in
    let f = fronted version (drop at body) a e in
    let below : a.kind ≤ last_attribute version = subst (λ (k : ℕ). k ≤ last_attribute version) (kind_of_front version (drop at body) a f) (leb-true _ _ f.below) in
    let kept = keeps_on version slots p.read p.seen a p.kept (omega (arith, below, last_below version)) short free in
    record { read = p.read ++ a ∷ []; seen = a.kind ∷ p.seen; fuel = next.0; bytes = next.1; kept = subst (λ (n : ℕ). Kept version (set slots a.kind (Some (record { place = n + attribute_head version a.kind; bytes = a.bytes }))) (p.read ++ a ∷ []) (a.kind ∷ p.seen)) p.bytes.spent kept }

-- The slot of an attribute in front is seen as that attribute.
pub slot_made : (version : ℕ) (body : List ℕ) (at : ℕ) (a : Attribute) → front_at version (drop at body) ≡ Ok a
    → slot_in body (record { place = at + attribute_head version a.kind; len = length a.bytes }) ≡ Some (record { place = at + attribute_head version a.kind; bytes = a.bytes })
slot_made version body at a e = has_bytes body (at + head) (length a.bytes) a.bytes (omega (arith, head_at_least_two version a.kind)) bytes
  where
    head : ℕ
    head = attribute_head version a.kind

    rest : List ℕ
    rest = drop at body

    f : Fronted version rest a
    f = fronted version rest a e

    bytes : take (length a.bytes) (drop (at + head) body) ≡ a.bytes
    bytes = ap (take (length a.bytes)) (sym (drop-drop head at body)) ∙ ap (λ (n : ℕ). take n (drop head rest)) (sym (len_of_front version rest a f))
        ∙ ap (λ (k : ℕ). take (attribute_len version rest) (drop (attribute_head version k) rest)) (sym (kind_of_front version rest a f)) ∙ ap (λ (x : Attribute). x.bytes) f.is

-- The number of an attribute in front has a slot.
pub has_slot : (version : ℕ) (body : List ℕ) (at : ℕ) (slots : List (Option Slot)) (a : Attribute) → Progress version body at slots → front_at version (drop at body) ≡ Ok a → a.kind < 32
has_slot version body at slots a p e =
    let f = fronted version (drop at body) a e in
    let below : a.kind ≤ last_attribute version = subst (λ (k : ℕ). k ≤ last_attribute version) (kind_of_front version (drop at body) a f) (leb-true _ _ f.below) in
    omega (arith, below, last_below version)

-- The first breach is what the whole body gives.
breaks : (version : ℕ) (body : List ℕ) (at : ℕ) (slots : List (Option Slot)) (refusal : meant.Refusal) → (p : Progress version body at slots) → at < length body
    → ((n b : ℕ) (bs : List ℕ) → drop at body ≡ b ∷ bs → attributes_from (suc n) version p.seen (b ∷ bs) ≡ Err refusal) → attributes_at version body ≡ Err refusal
breaks version body at slots refusal p more e = go p.fuel (drop at body) refl p.bytes
  where
    go : (fuel : ℕ) (left : List ℕ) → drop at body ≡ left → Read version body at p.read p.seen fuel → attributes_at version body ≡ Err refusal
    go zero left is r = absurd (omega (arith, r.enough, more))
    go (suc n) [] is r = absurd (omega (arith, more, length-drop at body, ap (λ (l : List ℕ). length l) is))
    go (suc n) (b ∷ bs) is r = sym r.total ∙ ap (λ (l : List ℕ). with_front p.read (attributes_from (suc n) version p.seen l)) is ∙ ap (with_front p.read) (e n b bs is)

pub breaks_off : (version : ℕ) (body : List ℕ) (at : ℕ) (slots : List (Option Slot)) (refusal : meant.Refusal) → Progress version body at slots → at < length body → front_at version (drop at body) ≡ Err refusal
    → attributes_at version body ≡ Err refusal
breaks_off version body at slots refusal p more e =
    breaks version body at slots refusal p more (λ n b bs is. step_err n version p.seen b bs refusal (ap (front_at version) (sym is) ∙ e))

pub stands_twice : (version : ℕ) (body : List ℕ) (at : ℕ) (slots : List (Option Slot)) (a : Attribute) → Progress version body at slots → at < length body → front_at version (drop at body) ≡ Ok a
    → is_some (slot_at slots a.kind) ≡ true → attributes_at version body ≡ Err (meant.BadAttribute a.kind)
stands_twice version body at slots a p more e there =
    breaks version body at slots (meant.BadAttribute a.kind) p more (λ n b bs is. step_seen n version p.seen b bs a (ap (front_at version) (sym is) ∙ e) (p.kept.known a.kind ∙ there))

nothing_left : (fuel version : ℕ) (seen : List ℕ) → attributes_from fuel version seen [] ≡ Ok []
unfolding attributes_from
nothing_left zero version seen = refl
nothing_left (suc n) version seen = refl

-- At the end the slots are those of all that is read.
pub is_done : (version : ℕ) (body : List ℕ) (at : ℕ) (slots : List (Option Slot)) → Progress version body at slots → length body ≤ at
    → (attributes : List Attribute) × (attributes_at version body ≡ Ok attributes) × StandsFor (record { version = version; slots = slots }) attributes
is_done version body at slots p past = (p.read, all, record { values = p.kept.values; places = p.kept.places })
  where
    empty : drop at body ≡ []
    empty = drop_of_length-le body past

    all : attributes_at version body ≡ Ok p.read
    all = sym p.bytes.total ∙ ap (λ (l : List ℕ). with_front p.read (attributes_from p.fuel version p.seen l)) empty ∙ ap (with_front p.read) (nothing_left p.fuel version p.seen) ∙ ap (λ (l : List Attribute). Ok l) (append-nil p.read)

-- Before any attribute there is no slot with one.
pub begins_absent : (version : ℕ) (body : List ℕ) → Progress version body 0 (map (slot_in body) (replicate 32 absent))
begins_absent version body = begins version body (map (slot_in body) (replicate 32 absent)) refl (none_absent body 32)

-- A slice from a place on is what is left there.
pub left_at : (body : List ℕ) (at : ℕ) → take (length body - at) (drop at body) ≡ drop at body
left_at body at = take_all (length body - at) (drop at body) (omega (arith, length-drop at body))

-- The attribute in front of a slice from a place on.
pub front_there : {A : Type 0} (body : List ℕ) (at : ℕ) (x : A) → (front : List ℕ → A) → front (take (length body - at) (drop at body)) ≡ x → front (drop at body) ≡ x
front_there body at x front e = ap front (sym (left_at body at)) ∙ e
