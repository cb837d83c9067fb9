-- A frame that is spelled value by value.
use Rattle.std.proofs.Common.{◌≡◌, ℕ, zero, suc, ◌+◌, ◌*◌, ◌^◌, ◌<◌, ◌≤◌, ◌==◌, Bool, true, false, if◌then◌else◌, List, [], ◌∷◌, ◌++◌, length, take, drop, get_or, refl, sym, ap, ◌∙◌, arith, append_assoc, length-append, add-one}
use Rattle.std.proofs.lemmas.List.{append-nil, take_all}
use Rattle.std.proofs.Math.Seq.{take-append_seam, drop-append_seam}
use Rattle.std.specs.Int.{w16, to_le_bytes}
use Rattle.send_model.specs.Attribute.{Field, field_bytes, HasRoom, takes_rest}
use Rattle.send_model.specs.Command.{Kind, row}
use Rattle.send_model.specs.Spelling.{attribute_bytes, body_of, with_fields, frame_of, greatest_body}
use Rattle.tlv_frame.specs.Frame.{Begun, head_room}
use Rattle.send_commands.specs.Writing.{FieldShort, FieldsShort, IfSecond}

-- An attribute more with bytes that are short.
pub attribute_grows : (version : ℕ) (old new bytes : List ℕ) (kind : ℕ) → new ≡ old ++ attribute_bytes version (record { kind = kind; bytes = bytes }) → length bytes < 2 ^ 16 → length new < length old + 65540
unfolding attribute_bytes
attribute_grows version old new bytes kind e short = rw e (omega (arith, short, length-append old (attribute_bytes version (record { kind = kind; bytes = bytes })), grows (takes_rest version kind)))
  where
    grows : (b : Bool) → length (to_le_bytes w16 kind ++ (if b then [] else to_le_bytes w16 (length bytes)) ++ bytes) ≤ 4 + length bytes
    grows true = omega arith
    grows false = omega arith

-- Bytes that have room in another version than the second are short.
pub room_is_short : (version kind len : ℕ) → HasRoom version kind len → (version == 2) ≡ false → len < 2 ^ 16
room_is_short version kind len room first = room (rw first refl)

-- So many values of a command's frame are written behind the room for its header.
pub record Written (old to : List ℕ) (writer : Begun) (kind : Kind) (version : ℕ) (fields : List Field) (i : ℕ) : Type 0 where
  pub begun : writer ≡ record { start = length old; number = (row kind).number; version = version }
  pub body : List ℕ
  pub bytes : to ≡ (old ++ head_room) ++ body
  pub spelled : body ≡ body_of version (with_fields (take i (row kind).wanted) (take i fields))
  pub short : (version == 2) ≡ false → length to ≤ length old + 10 + i * 65540

pub none_written : (old to : List ℕ) (writer : Begun) (kind : Kind) (version : ℕ) (fields : List Field) → writer ≡ record { start = length old; number = (row kind).number; version = version }
    → to ≡ old ++ head_room → Written old to writer kind version fields 0
unfolding body_of
none_written old to writer kind version fields w e = record {
  begun = w;
  body = [];
  bytes = e ∙ sym (append-nil (old ++ head_room));
  spelled = refl;
  short = λ first. rw e (omega (arith, length-append old head_room));
}

next_spelled : (version : ℕ) (kinds : List ℕ) (fields : List Field) (i : ℕ) (d : Field) → i < length kinds → i < length fields →
    body_of version (with_fields (take (suc i) kinds) (take (suc i) fields)) ≡ body_of version (with_fields (take i kinds) (take i fields)) ++ attribute_bytes version (record { kind = get_or kinds i 0; bytes = field_bytes (get_or fields i d) })
unfolding body_of
next_spelled version [] fields i d k f = absurd (omega (arith, k))
next_spelled version (kind ∷ kinds) [] i d k f = absurd (omega (arith, f))
next_spelled version (kind ∷ kinds) (field ∷ fields) zero d k f = append-nil (attribute_bytes version (record { kind = kind; bytes = field_bytes field }))
next_spelled version (kind ∷ kinds) (field ∷ fields) (suc i) d k f =
    ap (λ (l : List ℕ). attribute_bytes version (record { kind = kind; bytes = field_bytes field }) ++ l) (next_spelled version kinds fields i d (omega (arith, k)) (omega (arith, f)))
    ∙ sym (append_assoc (attribute_bytes version (record { kind = kind; bytes = field_bytes field })) (body_of version (with_fields (take i kinds) (take i fields))) (attribute_bytes version (record { kind = get_or kinds i 0; bytes = field_bytes (get_or fields i d) })))

pub one_written : (old to new : List ℕ) (writer writer2 : Begun) (kind : Kind) (version : ℕ) (fields : List Field) (i : ℕ) (d : Field) → Written old to writer kind version fields i → writer2 ≡ writer
    → i < length (row kind).wanted → i < length fields → new ≡ to ++ attribute_bytes version (record { kind = get_or (row kind).wanted i 0; bytes = field_bytes (get_or fields i d) })
    → ((version == 2) ≡ false → length new < length to + 65540) → Written old new writer2 kind version fields (i + 1)
one_written old to new writer writer2 kind version fields i d p same k f e more =
    let a : List ℕ = attribute_bytes version (record { kind = get_or (row kind).wanted i 0; bytes = field_bytes (get_or fields i d) }) in
    record {
      begun = same ∙ p.begun;
      body = p.body ++ a;
      bytes = e ∙ ap (λ (l : List ℕ). l ++ a) p.bytes ∙ append_assoc (old ++ head_room) p.body a;
      spelled = rw (add-one i) (ap (λ (l : List ℕ). l ++ a) p.spelled ∙ sym (next_spelled version (row kind).wanted fields i d k f));
      short = λ first. let before = p.short first in let now = more first in omega (arith, before, now);
    }

-- All values are written: the body is that of all attributes.
all_spelled : (to old : List ℕ) (writer : Begun) (kind : Kind) (version : ℕ) (fields : List Field) (i : ℕ) → (p : Written old to writer kind version fields i) → length (row kind).wanted ≤ i → length fields ≤ i → p.body ≡ body_of version (with_fields (row kind).wanted fields)
all_spelled to old writer kind version fields i p k f =
    p.spelled ∙ ap (λ (l : List ℕ). body_of version (with_fields l (take i fields))) (take_all i (row kind).wanted k) ∙ ap (λ (l : List Field). body_of version (with_fields (row kind).wanted l)) (take_all i fields f)

-- What the writer makes of it is the frame.
pub all_written : (old to new : List ℕ) (writer : Begun) (kind : Kind) (version : ℕ) (fields : List Field) (i : ℕ) → Written old to writer kind version fields i → length (row kind).wanted ≤ i → length fields ≤ i
    → new ≡ take writer.start to ++ frame_of writer.number (drop (writer.start + 10) to) → new ≡ old ++ frame_of (row kind).number (body_of version (with_fields (row kind).wanted fields))
all_written old to new writer kind version fields i p k f e =
    let n : ℕ = (row kind).number in
    let front : take (length old) to ≡ old = ap (take (length old)) (p.bytes ∙ append_assoc old head_room p.body) ∙ take-append_seam old (head_room ++ p.body) in
    let behind : drop (length old + 10) to ≡ p.body = ap (λ (m : ℕ). drop m to) (sym (length-append old head_room)) ∙ ap (drop (length (old ++ head_room))) p.bytes ∙ drop-append_seam (old ++ head_room) p.body in
    let whole = all_spelled to old writer kind version fields i p k f in
    e ∙ ap (λ (w : Begun). take w.start to ++ frame_of w.number (drop (w.start + 10) to)) p.begun
    ∙ ap (λ (l : List ℕ). l ++ frame_of n (drop (length old + 10) to)) front
    ∙ ap (λ (l : List ℕ). old ++ frame_of n l) (behind ∙ whole)

-- There is room for its header, and the body is short.
pub room_written : (old to : List ℕ) (writer : Begun) (kind : Kind) (version : ℕ) (fields : List Field) (i : ℕ) → Written old to writer kind version fields i → length (row kind).wanted ≤ i → length fields ≤ i → i ≤ 7
    → IfSecond (version == 2) (length (body_of version (with_fields (row kind).wanted fields)) ≤ greatest_body) → (writer.start + 10 ≤ length to) × (length to < writer.start + 10 + 2 ^ 32)
room_written old to writer kind version fields i p k f seven few = (omega (arith, start, whole), by_version (version == 2) refl few)
  where
    start : writer.start ≡ length old
    start = ap (λ (w : Begun). w.start) p.begun

    whole : length to ≡ length old + 10 + length p.body
    whole = ap (λ (l : List ℕ). length l) p.bytes ∙ length-append (old ++ head_room) p.body ∙ ap (λ (m : ℕ). m + length p.body) (length-append old head_room)

    body : length p.body ≡ length (body_of version (with_fields (row kind).wanted fields))
    body = ap (λ (l : List ℕ). length l) (all_spelled to old writer kind version fields i p k f)

    by_version : (b : Bool) → (version == 2) ≡ b → IfSecond b (length (body_of version (with_fields (row kind).wanted fields)) ≤ greatest_body) → length to < writer.start + 10 + 2 ^ 32
    by_version true e few = omega (arith, start, whole, body, few)
    by_version false e few = let short = p.short e in omega (arith, start, short, seven)

-- The value at a place is short.
pub short_at : (version : ℕ) (kinds : List ℕ) (fields : List Field) (i : ℕ) (d : Field) → FieldsShort version kinds fields → i < length fields → FieldShort version (get_or kinds i 0) (get_or fields i d)
short_at version [] [] i d all within = absurd (omega (arith, within))
short_at version [] (f ∷ fields) i d all within = absurd all
short_at version (kind ∷ kinds) [] i d all within = absurd all
short_at version (kind ∷ kinds) (f ∷ fields) zero d all within = all.0
short_at version (kind ∷ kinds) (f ∷ fields) (suc i) d all within = short_at version kinds fields i d all.1 (omega (arith, within))
