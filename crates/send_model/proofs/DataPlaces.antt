-- The data of a WRITE stand at the place that its item says.
use Rattle.std.specs.Prelude.{◌≡◌, ℕ, ◌+◌, ◌-◌, ◌≤◌, ◌==◌, Bool, true, false, List, [], ◌∷◌, ◌++◌, length, take, drop, Option, None, Some, if◌then◌else◌}
use Rattle.std.specs.List.{AllByRecursion}
use Rattle.std.specs.Int.{w16, to_le_bytes}
use Rattle.std.proofs.Common.{refl, sym, ap, subst, ◌∙◌, arith, eqb-true, append_assoc, length-append, drop-drop}
use Rattle.std.proofs.lemmas.List.{drop-append-le}
use Rattle.std.proofs.Math.Seq.{take-append_seam, drop-append_seam}
use Rattle.send_model.specs.Attribute.{DATA, takes_rest}
use Rattle.send_model.specs.Command.{Command, Write, row, kind_of}
use Rattle.send_model.specs.Spelling.{Attribute, attribute_bytes, body_of, value_of, frame_of, attributes_of}
use Rattle.send_model.specs.Reading.{Item, attribute_head, place_of, frame_header_len}
use Rattle.send_model.specs.Laws.{DataIsThere}
use Rattle.send_model.proofs.Sorts.{same_inside}
use Rattle.send_model.proofs.Attributes.{bytes_by}
use Rattle.send_model.proofs.ReadSpelled.{read_was_spelled}

-- What stands before the bytes of an attribute.
head_of_attribute : (version : ℕ) (a : Attribute) → (head : List ℕ) × (length head ≡ attribute_head version a.kind) × (attribute_bytes version a ≡ head ++ a.bytes)
head_of_attribute version a = one (takes_rest version a.kind) refl
  where
    one : (b : Bool) → takes_rest version a.kind ≡ b → (head : List ℕ) × (length head ≡ attribute_head version a.kind) × (attribute_bytes version a ≡ head ++ a.bytes)
    one true e = (to_le_bytes w16 a.kind, sym (ap (λ (t : Bool). if t then 2 else 4) e), bytes_by version a true e)
    one false e = (to_le_bytes w16 a.kind ++ to_le_bytes w16 (length a.bytes), sym (ap (λ (t : Bool). if t then 2 else 4) e), bytes_by version a false e)

-- The bytes of an attribute that is there stand at its place in the body.
record Stands (version kind : ℕ) (attributes : List Attribute) (bytes : List ℕ) : Type 0 where
  place : ℕ
  place_is : place_of version kind attributes ≡ Some place
  tail : List ℕ
  there : drop place (body_of version attributes) ≡ bytes ++ tail
  within : place ≤ length (body_of version attributes)

stands : (version kind : ℕ) (attributes : List Attribute) (bytes : List ℕ) → value_of kind attributes ≡ Some bytes → Stands version kind attributes bytes
unfolding body_of
stands version kind [] bytes e = cc
stands version kind (a ∷ rest) bytes e = one (a.kind == kind) refl e (λ q. stands version kind rest bytes q)
  where
    h : (head : List ℕ) × (length head ≡ attribute_head version a.kind) × (attribute_bytes version a ≡ head ++ a.bytes)
    h = head_of_attribute version a

    one : (b : Bool) → (a.kind == kind) ≡ b → (if b then Some a.bytes else value_of kind rest) ≡ Some bytes → (value_of kind rest ≡ Some bytes → Stands version kind rest bytes) → Stands version kind (a ∷ rest) bytes
    one true q f more =
        let own : a.bytes ≡ bytes = same_inside f in
        let whole : attribute_bytes version a ++ body_of version rest ≡ h.0 ++ (a.bytes ++ body_of version rest) = ap (λ (x : List ℕ). x ++ body_of version rest) h.2 ∙ append_assoc h.0 a.bytes (body_of version rest) in
        record {
          place = length h.0;
          place_is = ap (λ (b : Bool). if b then Some (attribute_head version kind) else elim (place_of version kind rest) as (λ x. Option ℕ) [ None ↦ None | Some place ↦ Some (attribute_head version a.kind + length a.bytes + place) ]) q
              ∙ ap Some (ap (attribute_head version) (sym (eqb-true a.kind kind q)) ∙ sym h.1);
          tail = body_of version rest;
          there = ap (drop (length h.0)) whole ∙ drop-append_seam h.0 (a.bytes ++ body_of version rest) ∙ ap (λ (x : List ℕ). x ++ body_of version rest) own;
          within = let l = ap length whole in omega (arith, l, length-append h.0 (a.bytes ++ body_of version rest));
        }
    one false q f more =
        let m = more f in
        let size : length (attribute_bytes version a) ≡ attribute_head version a.kind + length a.bytes = ap length h.2 ∙ length-append h.0 a.bytes ∙ ap (λ (n : ℕ). n + length a.bytes) h.1 in
        let steps : ℕ → Option ℕ → Option ℕ = λ n o. elim o as (λ x. Option ℕ) [ None ↦ None | Some place ↦ Some (n + place) ] in
        record {
          place = length (attribute_bytes version a) + m.place;
          place_is = ap (λ (b : Bool). if b then Some (attribute_head version kind) else steps (attribute_head version a.kind + length a.bytes) (place_of version kind rest)) q
              ∙ ap (steps (attribute_head version a.kind + length a.bytes)) m.place_is ∙ ap (λ (n : ℕ). Some (n + m.place)) (sym size);
          tail = m.tail;
          there = sym (drop-drop m.place (length (attribute_bytes version a)) (attribute_bytes version a ++ body_of version rest))
              ∙ ap (drop m.place) (drop-append_seam (attribute_bytes version a) (body_of version rest)) ∙ m.there;
          within = let k = m.within in omega (arith, k, length-append (attribute_bytes version a) (body_of version rest));
        }

-- The wanted DATA of a WRITE.
data_wanted : (c : Command) (path : List ℕ) (at : ℕ) (written : List ℕ) (attributes : List Attribute) → c ≡ Write path at written → AllByRecursion (λ (a : Attribute). value_of a.kind attributes ≡ Some a.bytes) (attributes_of c) → value_of DATA attributes ≡ Some written
unfolding attributes_of row
data_wanted c path at written attributes e all = (subst (λ (d : Command). AllByRecursion (λ (a : Attribute). value_of a.kind attributes ≡ Some a.bytes) (attributes_of d)) e all).1.1.0

body_behind : (number : ℕ) (body rest : List ℕ) → drop 10 (frame_of number body ++ rest) ≡ body ++ rest
unfolding frame_of
body_behind number body rest = refl

pub data_is_there : DataIsThere
data_is_there file version number offset bytes front path at written is e said =
    let w = read_was_spelled file version number offset bytes front is e in
    let s = w.spells in
    let c : Command = front.item.command in
    let n : ℕ = (row (kind_of c)).number in
    let body : List ℕ = body_of version s.attributes in
    let st = stands version DATA s.attributes written (data_wanted c path at written s.attributes said s.wanted) in
    let place : front.item.data_at ≡ offset + 10 + st.place =
    ap (λ (i : Item). i.data_at) w.item_is ∙ ap (λ (o : Option ℕ). elim o as (λ x. ℕ) [ None ↦ 0 | Some p ↦ offset + frame_header_len + p ]) st.place_is in
    let whole : bytes ≡ frame_of n body ++ front.rest = w.whole ∙ ap (λ (f : List ℕ). f ++ front.rest) s.frame in
    let there : drop (10 + st.place) bytes ≡ written ++ (st.tail ++ front.rest) =
    sym (drop-drop st.place 10 bytes) ∙ ap (λ (bs : List ℕ). drop st.place (drop 10 bs)) whole ∙ ap (drop st.place) (body_behind n body front.rest)
    ∙ drop-append-le st.place body front.rest st.within ∙ ap (λ (bs : List ℕ). bs ++ front.rest) st.there ∙ append_assoc written st.tail front.rest in
    let gap : front.item.data_at - offset ≡ 10 + st.place = omega (arith, place) in
    (omega (arith, place), ap (λ (k : ℕ). take (length written) (drop k bytes)) gap ∙ ap (take (length written)) there ∙ take-append_seam written (st.tail ++ front.rest))
