-- Slots of a table, as the code has them and as the definitions see them.
use Rattle.std.specs.Prelude.{nat_lt}
use Rattle.std.specs.Option.{is_some}
use Rattle.std.proofs.Common.{◌≡◌, ℕ, zero, suc, ◌+◌, ◌-◌, ◌<◌, ◌≤◌, ◌==◌, true, false, List, [], ◌∷◌, length, take, drop, set, replicate, map, Option, None, Some, refl, sym, ap, subst, ◌∙◌, arith, get_or, length-drop}
use Rattle.std.proofs.lemmas.Bool.{false_from_ne_true, eqb-true, le-ltb, lt-ltb}
use Rattle.std.proofs.lemmas.List.{length-take-le}
use Rattle.std.proofs.Math.ListN.{get_or-map}
use Rattle.send_model.specs.Attribute.{HasRoom}
use Rattle.tlv_frame.specs.declared.attribute_table.Slot as made
use Rattle.tlv_frame.specs.Table.{Slot, absent, slot_in, slot_at, AreIn, IsShort, IsWhole}

pub all_absent : (body : List ℕ) (count : ℕ) → AreIn body (replicate count absent)
all_absent body zero = tt
all_absent body (suc count) = (omega arith, all_absent body count)

-- No slot of these has an attribute.
pub none_absent : (body : List ℕ) (count kind : ℕ) → slot_at (map (slot_in body) (replicate count absent)) kind ≡ None
none_absent body zero kind = refl
none_absent body (suc count) zero = refl
none_absent body (suc count) (suc kind) = none_absent body count kind

-- So they are whole.
pub whole_absent : (version : ℕ) (body : List ℕ) → IsWhole version (map (slot_in body) (replicate 32 absent))
whole_absent version body = record { count = refl; short = λ kind. subst (IsShort version kind) (sym (none_absent body 32 kind)) tt }

pub place_there : (place : ℕ) → 0 < place → nat_lt 0 place ≡ true
place_there place less = lt-ltb 0 place less

pub no_place : (place : ℕ) → place ≤ 0 → nat_lt 0 place ≡ false
no_place place none = le-ltb 0 place none

not_none : (place : ℕ) → 0 < place → (place == 0) ≡ false
not_none place less = false_from_ne_true (place == 0) (λ t. absurd (omega (arith, less, eqb-true place 0 t)))

-- What is seen of a slot.
pub seen_at : (body : List ℕ) (slots : List made.Slot) (kind : ℕ) → slot_at (map (slot_in body) slots) kind ≡ slot_in body (get_or slots kind absent)
seen_at body slots kind = get_or-map (slot_in body) slots kind absent

some_seen : (body : List ℕ) (place len : ℕ) → is_some (slot_in body (record { place = place; len = len })) ≡ nat_lt 0 place
some_seen body zero len = refl
some_seen body (suc place) len = let there : 0 < suc place = omega arith in rw (not_none (suc place) there, place_there (suc place) there) refl

-- A slot with a place has the bytes that stand there.
pub has_bytes : (body : List ℕ) (place len : ℕ) (bytes : List ℕ) → 0 < place → take len (drop place body) ≡ bytes → slot_in body (record { place = place; len = len }) ≡ Some (record { place = place; bytes = bytes })
has_bytes body zero len bytes there e = absurd (omega (arith, there))
has_bytes body (suc place) len bytes there e = let some : List ℕ → Option Slot = λ b. Some (record { place = suc place; bytes = b }) in rw (not_none (suc place) there) (ap some e)

-- A slot has an attribute exactly where the code's slot has a place.
pub there_in_code : (body : List ℕ) (slots : List made.Slot) (kind : ℕ) → is_some (slot_at (map (slot_in body) slots) kind) ≡ nat_lt 0 (get_or slots kind absent).place
there_in_code body slots kind = ap (λ (s : Option Slot). is_some s) (seen_at body slots kind) ∙ some_seen body (get_or slots kind absent).place (get_or slots kind absent).len

-- The bytes of a slot stand in the body.
pub stands_in : (body : List ℕ) (slots : List made.Slot) (kind : ℕ) → AreIn body slots → (get_or slots kind absent).place + (get_or slots kind absent).len ≤ length body
stands_in body [] kind all = omega arith
stands_in body (s ∷ slots) zero all = all.0
stands_in body (s ∷ slots) (suc kind) all = stands_in body slots kind all.1

-- So they do where one of them is set to such a slot.
pub set_in : (body : List ℕ) (slots : List made.Slot) (kind : ℕ) (s : made.Slot) → AreIn body slots → s.place + s.len ≤ length body → AreIn body (set slots kind s)
set_in body [] kind s all within = all
set_in body (t ∷ slots) zero s all within = (within, all.1)
set_in body (t ∷ slots) (suc kind) s all within = (all.0, set_in body slots kind s all.1 within)

-- The bytes of a slot are short.
pub short_slot : (version : ℕ) (body : List ℕ) (slots : List made.Slot) (kind : ℕ) (s : made.Slot) → IsWhole version (map (slot_in body) slots) → AreIn body slots → get_or slots kind absent ≡ s → 0 < s.place → HasRoom version kind s.len
short_slot version body slots kind s whole all e there = go s.place s.len there (subst (λ (t : made.Slot). t.place + t.len ≤ length body) e (stands_in body slots kind all))
    (subst (IsShort version kind) (seen_at body slots kind ∙ ap (slot_in body) e) (whole.short kind))
  where
    go : (place len : ℕ) → 0 < place → place + len ≤ length body → IsShort version kind (slot_in body (record { place = place; len = len })) → HasRoom version kind len
    go place len there within short =
        let room : IsShort version kind (Some (record { place = place; bytes = take len (drop place body) })) = subst (IsShort version kind) (has_bytes body place len (take len (drop place body)) there refl) short in
        subst (HasRoom version kind) (length-take-le len (drop place body) (omega (arith, within, length-drop place body))) room

-- As many bytes stand at the place of a slot as it says.
pub slice_room : (body : List ℕ) (place len : ℕ) → place + len ≤ length body → length (take (place + len - place) (drop place body)) ≡ len
slice_room body place len within = length-take-le (place + len - place) (drop place body) (omega (arith, within, length-drop place body)) ∙ omega arith
