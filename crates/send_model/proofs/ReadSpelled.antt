-- What is read was spelled: the bytes in front of a reading are one frame that spells its command,
-- and what follows it.
use Rattle.std.specs.Prelude.{◌≡◌, ℕ, zero, suc, ◌+◌, ◌-◌, ◌^◌, ◌<◌, ◌≤◌, Bool, true, false, ◌&&◌, not, ◌==◌, List, [], ◌∷◌, ◌++◌, length, take, drop, Option, None, Some, Result, Ok, Err, nat_le, nat_lt, if◌then◌else◌}
use Rattle.std.specs.List.{AllByRecursion, list_all, find}
use Rattle.std.specs.Option.{unwrap_or}
use Rattle.std.specs.Int.{w16, w32, w64, to_le_bytes, from_le_bytes}
use Rattle.std.proofs.Common.{refl, sym, ap, subst, ◌∙◌, arith, append-nil, eqb-true, length-take, length-drop, drop-drop}
use Rattle.std.proofs.lemmas.Bool.{leb-true, ltb-true, ltb-false, not-true, and_parts, true≢false}
use Rattle.std.proofs.lemmas.List.{take-append-drop, take_all, drop_all}
use Rattle.std.proofs.lemmas.Nat.{le_bytes_2, le_bytes_4, le_bytes_8}
use Rattle.send_model.specs.Refusal.{Refusal, Truncated, LongCommand, BadChecksum, UnknownCommand, Encoded, BadTime, MissingAttribute, BadAttribute}
use Rattle.send_model.specs.Chain.{◌>>=◌, ◌>>◌, require, found}
use Rattle.send_model.specs.Attribute.{ANumber, AShortNumber, AMoment, form_of, Number, ShortNumber, Moment, field_bytes, FieldsFit, IsBytes, is_one_of, last_attribute, takes_rest}
use Rattle.send_model.specs.Command.{Kind, SUBVOL, SNAPSHOT, MKFILE, MKDIR, MKNOD, MKFIFO, MKSOCK, SYMLINK, RENAME, LINK, UNLINK, RMDIR, SET_XATTR, REMOVE_XATTR, WRITE, CLONE, TRUNCATE, CHMOD, CHOWN, UTIMES, END, UPDATE_EXTENT, FALLOCATE, FILEATTR, Command, row, is_encoded, kinds_of, kind_of, kind_of_number, fields_of, command_with, number_in, short_number_in, time_in}
use Rattle.send_model.specs.Spelling.{Attribute, attribute_bytes, body_of, value_of, AreAttributes, frame_checksum, frame_of, greatest_body, attributes_of, IsKnown, Spells}
use Rattle.send_model.specs.Reading.{number16, number32, Frame, frame_with, frame_at, frame_header_len, attribute_number, attribute_end, attribute_in, attribute_lawful, attributes_from, attributes_at, form_fits, wanted_there, bytes_at, moment_lawful, command_of, data_place, Front, front_of}
use Rattle.send_model.specs.Laws.{WasSpelled, ReadWasSpelled, RulesWereSpelled}
use Rattle.send_model.proofs.Stores.{or_parts}
use Rattle.send_model.proofs.Canonical.{bytes_at as byte_at}
use Rattle.send_model.proofs.Fuel.{required, not_refused, tested, bound, ok_same}
use Rattle.send_model.proofs.Attributes.{NotSeen, differ_back, end_by, in_by, bytes_by}
use Rattle.send_model.proofs.Sound.{bytes_take, bytes_drop, small16, IsShort, AreShort, are_short, if_ok, Good, AreGood, good, found_is, all_fit}

-- ---- numbers at the front

pub two_back : (bytes : List ℕ) → IsBytes bytes → 2 ≤ length bytes → to_le_bytes w16 (number16 bytes) ≡ take 2 bytes
unfolding number16
two_back bytes b long = le_bytes_2 (take 2 bytes) (from_le_bytes w16 (take 2 bytes)) (omega (arith, length-take 2 bytes, long)) (byte_at (take 2 bytes) (bytes_take 2 bytes b)) refl

pub four_back : (bytes : List ℕ) → IsBytes bytes → 4 ≤ length bytes → to_le_bytes w32 (number32 bytes) ≡ take 4 bytes
unfolding number32
four_back bytes b long = le_bytes_4 (take 4 bytes) (from_le_bytes w32 (take 4 bytes)) (omega (arith, length-take 4 bytes, long)) (byte_at (take 4 bytes) (bytes_take 4 bytes b)) refl

-- ---- the frame

record WasFramed (bytes : List ℕ) (frame : Frame) : Type 0 where
  framed : bytes ≡ frame_of frame.number frame.body ++ frame.rest
  short : length frame.body ≤ greatest_body
  is_bytes : IsBytes frame.body

pub ten_in_parts : (bytes : List ℕ) → bytes ≡ take 4 bytes ++ (take 2 (drop 4 bytes) ++ (take 4 (drop 6 bytes) ++ drop 10 bytes))
ten_in_parts bytes =
    sym (take-append-drop 4 bytes)
    ∙ ap (λ (r : List ℕ). take 4 bytes ++ r) (sym (take-append-drop 2 (drop 4 bytes)) ∙ ap (λ (r : List ℕ). take 2 (drop 4 bytes) ++ r) (drop-drop 2 4 bytes ∙ sym (take-append-drop 4 (drop 6 bytes)) ∙ ap (λ (r : List ℕ). take 4 (drop 6 bytes) ++ r) (drop-drop 4 6 bytes)))

frame_with_framed : (len number stored : ℕ) (after : List ℕ) (frame : Frame) → IsBytes after → frame_with len number stored after ≡ Ok frame
    → (to_le_bytes w32 len ++ to_le_bytes w16 number ++ to_le_bytes w32 stored ++ after ≡ frame_of frame.number frame.body ++ frame.rest) × (length frame.body ≤ greatest_body) × IsBytes frame.body
unfolding frame_with frame_of
frame_with_framed len number stored after frame b e =
    let body : List ℕ = take len after in
    let made : Frame = record { number = number; body = body; rest = drop len after } in
    let checked : Result Frame Refusal = require (stored == frame_checksum len number body) (BadChecksum stored (frame_checksum len number body)) >> Ok made in
    let a = not_refused (nat_lt greatest_body len) (LongCommand len) (require (nat_le len (length after)) Truncated >> checked) frame e in
    let c = required (nat_le len (length after)) Truncated checked frame a.1 in
    let d = required (stored == frame_checksum len number body) (BadChecksum stored (frame_checksum len number body)) (Ok made) frame c.1 in
    let same : made ≡ frame = ok_same d.1 in
    let size : length body ≡ len = omega (arith, length-take len after, leb-true len (length after) c.0) in
    let sum : stored ≡ frame_checksum len number body = eqb-true stored (frame_checksum len number body) d.0 in
    let front : List ℕ = to_le_bytes w32 len ++ to_le_bytes w16 number in
    let P : Frame → Type 0 = λ f. (to_le_bytes w32 len ++ to_le_bytes w16 number ++ to_le_bytes w32 stored ++ after ≡ frame_of f.number f.body ++ f.rest) × (length f.body ≤ greatest_body) × IsBytes f.body in
    let parts : ℕ → ℕ → List ℕ → List ℕ = λ l s r. to_le_bytes w32 l ++ to_le_bytes w16 number ++ to_le_bytes w32 s ++ r in
    let whole : parts len stored after ≡ parts (length body) (frame_checksum (length body) number body) (body ++ drop len after) =
    ap (λ (s : ℕ). parts len s after) sum ∙ ap (λ (l : ℕ). parts l (frame_checksum l number body) after) (sym size) ∙ ap (λ (r : List ℕ). parts (length body) (frame_checksum (length body) number body) r) (sym (take-append-drop len after)) in
    let at : P made = (whole, omega (arith, size, ltb-false greatest_body len a.0), bytes_take len after b) in
    subst P same at

frame_was_spelled : (bytes : List ℕ) (frame : Frame) → IsBytes bytes → frame_at bytes ≡ Ok frame → WasFramed bytes frame
unfolding frame_at
frame_was_spelled bytes frame b e =
    let after : List ℕ = drop 10 bytes in
    let a = required (nat_le frame_header_len (length bytes)) Truncated (frame_with (number32 bytes) (number16 (drop 4 bytes)) (number32 (drop 6 bytes)) after) frame e in
    let long : 10 ≤ length bytes = leb-true 10 (length bytes) a.0 in
    let made = frame_with_framed (number32 bytes) (number16 (drop 4 bytes)) (number32 (drop 6 bytes)) after frame (bytes_drop 10 bytes b) a.1 in
    let len = four_back bytes b (omega (arith, long)) in
    let number = two_back (drop 4 bytes) (bytes_drop 4 bytes b) (omega (arith, long, length-drop 4 bytes)) in
    let sum = four_back (drop 6 bytes) (bytes_drop 6 bytes b) (omega (arith, long, length-drop 6 bytes)) in
    let parts : bytes ≡ to_le_bytes w32 (number32 bytes) ++ (to_le_bytes w16 (number16 (drop 4 bytes)) ++ (to_le_bytes w32 (number32 (drop 6 bytes)) ++ after)) =
    ten_in_parts bytes ∙ (λ i. sym len i ++ (sym number i ++ (sym sum i ++ after))) in
    record { framed = parts ∙ made.0; short = made.1; is_bytes = made.2 }

-- ---- the attributes

record WasAttributes (version : ℕ) (seen body : List ℕ) (attributes : List Attribute) : Type 0 where
  body_is : body ≡ body_of version attributes
  are : AreAttributes version attributes
  new : NotSeen seen attributes

if_true : {A : Type 0} (b : Bool) (x : Result A Refusal) (refusal : Refusal) (y : A) → (if b then x else Err refusal) ≡ Ok y → b ≡ true
if_true true x refusal y e = refl
if_true false x refusal y e = cc

-- What the front of a body is, where its attribute is lawful.
record IsFront (version : ℕ) (seen body : List ℕ) : Type 0 where
  two : 2 ≤ length body
  above : 0 < number16 body
  below : number16 body ≤ last_attribute version
  unseen : is_one_of (number16 body) seen ≡ false
  within : attribute_end version body ≤ length body

front_is : (version : ℕ) (seen body : List ℕ) → attribute_lawful version seen body ≡ true → IsFront version seen body
front_is version seen body e =
    let p : Bool = nat_le 2 (length body) in
    let q : Bool = nat_lt 0 (number16 body) in
    let r : Bool = nat_le (number16 body) (last_attribute version) in
    let s : Bool = not (is_one_of (number16 body) seen) in
    let t : Bool = nat_le (attribute_end version body) (length body) in
    let a : (p && q && r && s ≡ true) × (t ≡ true) = and_parts (p && q && r && s) t e in
    let b : (p && q && r ≡ true) × (s ≡ true) = and_parts (p && q && r) s a.0 in
    let c : (p && q ≡ true) × (r ≡ true) = and_parts (p && q) r b.0 in
    let d : (p ≡ true) × (q ≡ true) = and_parts p q c.0 in
    record {
      two = leb-true 2 (length body) d.0;
      above = ltb-true 0 (number16 body) d.1;
      below = leb-true (number16 body) (last_attribute version) c.1;
      unseen = not-true (is_one_of (number16 body) seen) b.1;
      within = leb-true (attribute_end version body) (length body) a.1;
    }

-- The attribute in front of a body and what follows it, by whether it takes the rest.
record FrontParts (version : ℕ) (body : List ℕ) : Type 0 where
  spelled : body ≡ attribute_bytes version (attribute_in version body) ++ drop (attribute_end version body) body
  short : IsShort version (number16 body) (attribute_in version body).bytes
  last : takes_rest version (number16 body) ≡ true → drop (attribute_end version body) body ≡ []
  fewer : length (drop (attribute_end version body) body) + 2 ≤ length body

-- One that takes the rest.
rest_parts : (version : ℕ) (body : List ℕ) → IsBytes body → 2 ≤ length body → takes_rest version (number16 body) ≡ true → FrontParts version body
rest_parts version body b two e =
    let own : List ℕ = drop 2 body in
    let bytes : take (length body - 2) own ≡ own = take_all (length body - 2) own (omega (arith, length-drop 2 body)) in
    let in_front : attribute_in version body ≡ record { kind = number16 body; bytes = own } = in_by version body true e ∙ ap (λ (bs : List ℕ). record { kind = number16 body; bytes = bs }) bytes in
    let end : attribute_end version body ≡ length body = end_by version body true e ∙ omega (arith, two) in
    let left : drop (attribute_end version body) body ≡ [] = drop_all (attribute_end version body) body (omega (arith, end)) in
    let kind_back = two_back body b two in
    let whole : body ≡ to_le_bytes w16 (number16 body) ++ own = sym (take-append-drop 2 body) ∙ ap (λ (r : List ℕ). r ++ own) (sym kind_back) in
    let spelled : attribute_bytes version (record { kind = number16 body; bytes = own }) ≡ to_le_bytes w16 (number16 body) ++ own = bytes_by version (record { kind = number16 body; bytes = own }) true e in
    record {
      spelled = whole ∙ sym (append-nil (to_le_bytes w16 (number16 body) ++ own)) ∙ (λ i. sym spelled i ++ sym left i) ∙ ap (λ (a : Attribute). attribute_bytes version a ++ drop (attribute_end version body) body) (sym in_front);
      short = subst (λ (a : Attribute). IsShort version (number16 body) a.bytes) (sym in_front) (λ f. absurd (true≢false (sym e ∙ f)), bytes_drop 2 body b);
      last = λ f. left;
      fewer = let none = ap length left in omega (arith, none, two);
    }

-- One that says its length.
length_parts : (version : ℕ) (body : List ℕ) → IsBytes body → 2 ≤ length body → attribute_end version body ≤ length body → takes_rest version (number16 body) ≡ false → FrontParts version body
unfolding number16
length_parts version body b two within e =
    let len : ℕ = number16 (drop 2 body) in
    let own : List ℕ = take len (drop 4 body) in
    let one : Attribute = record { kind = number16 body; bytes = own } in
    let in_front : attribute_in version body ≡ one = in_by version body false e in
    let end : attribute_end version body ≡ 4 + len = end_by version body false e in
    let after : List ℕ = drop (4 + len) body in
    let left : drop (attribute_end version body) body ≡ after = ap (λ (k : ℕ). drop k body) end in
    let long : 4 + len ≤ length body = omega (arith, end, within) in
    let kind_back = two_back body b two in
    let len_back = two_back (drop 2 body) (bytes_drop 2 body b) (omega (arith, long, length-drop 2 body)) in
    let parts : body ≡ take 2 body ++ (take 2 (drop 2 body) ++ drop 4 body) =
    sym (take-append-drop 2 body) ∙ ap (λ (r : List ℕ). take 2 body ++ r) (sym (take-append-drop 2 (drop 2 body)) ∙ ap (λ (r : List ℕ). take 2 (drop 2 body) ++ r) (drop-drop 2 2 body)) in
    let tail : drop 4 body ≡ own ++ after = sym (take-append-drop len (drop 4 body)) ∙ ap (λ (r : List ℕ). own ++ r) (drop-drop len 4 body) in
    let size : len ≡ length own = omega (arith, length-take len (drop 4 body), length-drop 4 body, long) in
    let short : len < 2 ^ 16 = small16 (take 2 (drop 2 body)) (bytes_take 2 (drop 2 body) (bytes_drop 2 body b)) in
    let spelled : attribute_bytes version one ≡ to_le_bytes w16 (number16 body) ++ to_le_bytes w16 (length own) ++ own = bytes_by version one false e in
    record {
      spelled = parts ∙ (λ i. sym kind_back i ++ (sym len_back i ++ tail i)) ∙ ap (λ (l : ℕ). to_le_bytes w16 (number16 body) ++ (to_le_bytes w16 l ++ (own ++ after))) size
          ∙ (λ i. sym spelled i ++ sym left i) ∙ ap (λ (a : Attribute). attribute_bytes version a ++ drop (attribute_end version body) body) (sym in_front);
      short = subst (λ (a : Attribute). IsShort version (number16 body) a.bytes) (sym in_front) (λ f. omega (arith, size, short), bytes_take len (drop 4 body) (bytes_drop 4 body b));
      last = λ f. absurd (true≢false (sym f ∙ e));
      fewer = let l = ap length left in let d = length-drop (4 + len) body in omega (arith, l, d, long);
    }

front_parts : (version : ℕ) (seen body : List ℕ) → IsBytes body → IsFront version seen body → FrontParts version body
front_parts version seen body b f = one (takes_rest version (number16 body)) refl
  where
    one : (t : Bool) → takes_rest version (number16 body) ≡ t → FrontParts version body
    one true e = rest_parts version body b f.two e
    one false e = length_parts version body b f.two f.within e

-- No attributes stand in no bytes.
none_in : (version : ℕ) (attributes : List Attribute) → [] ≡ body_of version attributes → attributes ≡ []
unfolding body_of attribute_bytes
none_in version [] e = refl
none_in version (a ∷ rest) e = cc

-- What was not seen after a number is not that number, and was not seen before.
unseen_after : (kind : ℕ) (seen : List ℕ) (attributes : List Attribute) → NotSeen (kind ∷ seen) attributes → (value_of kind attributes ≡ None) × NotSeen seen attributes
unseen_after kind seen [] n = (refl, tt)
unseen_after kind seen (a ∷ rest) n =
    let p = or_parts (kind == a.kind) (is_one_of a.kind seen) n.0 in
    let more = unseen_after kind seen rest n.1 in
    (rw (differ_back kind a.kind p.0) more.0, (p.1, more.1))

spelled_from : (n version : ℕ) (seen body : List ℕ) (attributes : List Attribute) → length body ≤ n → IsBytes body → attributes_from n version seen body ≡ Ok attributes → WasAttributes version seen body attributes
unfolding attributes_from body_of
spelled_from zero version seen [] attributes l b e = let P : List Attribute → Type 0 = λ list. WasAttributes version seen [] list in let at : P [] = record { body_is = refl; are = tt; new = tt } in subst P (ok_same e) at
spelled_from zero version seen (x ∷ xs) attributes l b e = absurd (omega (arith, l))
spelled_from (suc n) version seen [] attributes l b e = let P : List Attribute → Type 0 = λ list. WasAttributes version seen [] list in let at : P [] = record { body_is = refl; are = tt; new = tt } in subst P (ok_same e) at
spelled_from (suc n) version seen (x ∷ xs) attributes l b e =
    let body : List ℕ = x ∷ xs in
    let one : Attribute = attribute_in version body in
    let left : List ℕ = drop (attribute_end version body) body in
    let rest = attributes_from n version (number16 body ∷ seen) left in
    let k : List Attribute → Result (List Attribute) Refusal = λ more. Ok (one ∷ more) in
    let f = front_is version seen body (if_true (attribute_lawful version seen body) (rest >>= k) (BadAttribute (attribute_number body)) attributes e) in
    let a = bound rest k attributes (if_ok (attribute_lawful version seen body) (rest >>= k) (BadAttribute (attribute_number body)) attributes e) in
    let parts = front_parts version seen body b f in
    let fewer = parts.fewer in
    let more = spelled_from n version (number16 body ∷ seen) left a.0 (omega (arith, fewer, l)) (bytes_drop (attribute_end version body) body b) a.1 in
    let after = unseen_after (number16 body) seen a.0 more.new in
    let P : List Attribute → Type 0 = λ list. WasAttributes version seen body list in
    let at : P (one ∷ a.0) = record {
      body_is = parts.spelled ∙ ap (λ (r : List ℕ). attribute_bytes version one ++ r) more.body_is;
      are = (record { known = (f.above, f.below); short = parts.short.0; bytes = parts.short.1 }, after.0, λ t. none_in version a.0 (sym (parts.last t) ∙ more.body_is), more.are);
      new = (f.unseen, after.1);
    } in
    subst P (ok_same a.2) at

attributes_were_spelled : (version : ℕ) (body : List ℕ) (attributes : List Attribute) → IsBytes body → attributes_at version body ≡ Ok attributes → WasAttributes version [] body attributes
unfolding attributes_at
attributes_were_spelled version body attributes b e = spelled_from (length body) version [] body attributes (omega arith) b e

-- ---- the command

abbrev There : List Attribute → ℕ → Type 0
There attributes kind = value_of kind attributes ≡ Some (bytes_at attributes kind)

there : (attributes : List Attribute) (kinds : List ℕ) → wanted_there kinds attributes ≡ Ok tt → AllByRecursion (λ kind. There attributes kind) kinds
unfolding wanted_there
there attributes [] e = tt
there attributes (kind ∷ kinds) e =
    let a = bound (found (value_of kind attributes) (MissingAttribute kind)) (λ bytes. require (form_fits (form_of kind) bytes) (BadAttribute kind) >> wanted_there kinds attributes) tt e in
    let b = required (form_fits (form_of kind) a.0) (BadAttribute kind) (wanted_there kinds attributes) tt a.2 in
    let v = found_is (value_of kind attributes) (MissingAttribute kind) a.0 a.1 in
    (v ∙ ap Some (sym (ap (λ o. unwrap_or o []) v)), there attributes kinds b.1)

number_there : (version : ℕ) (attributes : List Attribute) (kind : ℕ) → form_of kind ≡ ANumber → There attributes kind → Good version attributes kind → value_of kind attributes ≡ Some (field_bytes (Number (number_in (bytes_at attributes kind))))
number_there version attributes kind f t g =
    let bytes : List ℕ = bytes_at attributes kind in
    let size : length bytes ≡ 8 = eqb-true (length bytes) 8 (ap (λ form. form_fits form bytes) (sym f) ∙ g.fits) in
    t ∙ ap Some (sym (le_bytes_8 bytes (number_in bytes) size (byte_at bytes g.short.1) refl))

short_number_there : (version : ℕ) (attributes : List Attribute) (kind : ℕ) → form_of kind ≡ AShortNumber → There attributes kind → Good version attributes kind → value_of kind attributes ≡ Some (field_bytes (ShortNumber (short_number_in (bytes_at attributes kind))))
short_number_there version attributes kind f t g =
    let bytes : List ℕ = bytes_at attributes kind in
    let size : length bytes ≡ 4 = eqb-true (length bytes) 4 (ap (λ form. form_fits form bytes) (sym f) ∙ g.fits) in
    t ∙ ap Some (sym (le_bytes_4 bytes (short_number_in bytes) size (byte_at bytes g.short.1) refl))

moment_there : (version : ℕ) (attributes : List Attribute) (kind : ℕ) → form_of kind ≡ AMoment → There attributes kind → Good version attributes kind → value_of kind attributes ≡ Some (field_bytes (Moment (time_in (bytes_at attributes kind))))
moment_there version attributes kind f t g =
    let bytes : List ℕ = bytes_at attributes kind in
    let size : length bytes ≡ 12 = eqb-true (length bytes) 12 (ap (λ form. form_fits form bytes) (sym f) ∙ g.fits) in
    let secs = le_bytes_8 (take 8 bytes) (from_le_bytes w64 (take 8 bytes)) (omega (arith, size, length-take 8 bytes)) (byte_at (take 8 bytes) (bytes_take 8 bytes g.short.1)) refl in
    let nanos = le_bytes_4 (drop 8 bytes) (from_le_bytes w32 (drop 8 bytes)) (omega (arith, size, length-drop 8 bytes)) (byte_at (drop 8 bytes) (bytes_drop 8 bytes g.short.1)) refl in
    t ∙ ap Some (sym (take-append-drop 8 bytes) ∙ (λ i. sym secs i ++ sym nanos i))

all_there : (version : ℕ) (attributes : List Attribute) (kind : Kind) → AllByRecursion (λ k. There attributes k) (row kind).wanted → AreGood version attributes (row kind).wanted
    → AllByRecursion (λ (a : Attribute). value_of a.kind attributes ≡ Some a.bytes) (attributes_of (command_with kind (bytes_at attributes)))
unfolding attributes_of row form_of
all_there version attributes SUBVOL t g = (t.0, (number_there version attributes _ refl t.1.0 g.1.0, (t.1.1.0, tt)))
all_there version attributes SNAPSHOT t g = (t.0, (number_there version attributes _ refl t.1.0 g.1.0, (t.1.1.0, (t.1.1.1.0, (number_there version attributes _ refl t.1.1.1.1.0 g.1.1.1.1.0, tt)))))
all_there version attributes MKFILE t g = (t.0, tt)
all_there version attributes MKDIR t g = (t.0, tt)
all_there version attributes MKNOD t g = (number_there version attributes _ refl t.0 g.0, (number_there version attributes _ refl t.1.0 g.1.0, (t.1.1.0, tt)))
all_there version attributes MKFIFO t g = (t.0, tt)
all_there version attributes MKSOCK t g = (t.0, tt)
all_there version attributes SYMLINK t g = (t.0, (t.1.0, tt))
all_there version attributes RENAME t g = (t.0, (t.1.0, tt))
all_there version attributes LINK t g = (t.0, (t.1.0, tt))
all_there version attributes UNLINK t g = (t.0, tt)
all_there version attributes RMDIR t g = (t.0, tt)
all_there version attributes SET_XATTR t g = (t.0, (t.1.0, (t.1.1.0, tt)))
all_there version attributes REMOVE_XATTR t g = (t.0, (t.1.0, tt))
all_there version attributes WRITE t g = (t.0, (number_there version attributes _ refl t.1.0 g.1.0, (t.1.1.0, tt)))
all_there version attributes CLONE t g = (t.0, (number_there version attributes _ refl t.1.0 g.1.0, (t.1.1.0, (number_there version attributes _ refl t.1.1.1.0 g.1.1.1.0, (t.1.1.1.1.0, (number_there version attributes _ refl t.1.1.1.1.1.0 g.1.1.1.1.1.0, (number_there version attributes _ refl t.1.1.1.1.1.1.0 g.1.1.1.1.1.1.0, tt)))))))
all_there version attributes TRUNCATE t g = (number_there version attributes _ refl t.0 g.0, (t.1.0, tt))
all_there version attributes CHMOD t g = (number_there version attributes _ refl t.0 g.0, (t.1.0, tt))
all_there version attributes CHOWN t g = (number_there version attributes _ refl t.0 g.0, (number_there version attributes _ refl t.1.0 g.1.0, (t.1.1.0, tt)))
all_there version attributes UTIMES t g = (moment_there version attributes _ refl t.0 g.0, (moment_there version attributes _ refl t.1.0 g.1.0, (t.1.1.0, tt)))
all_there version attributes END t g = tt
all_there version attributes UPDATE_EXTENT t g = (number_there version attributes _ refl t.0 g.0, (t.1.0, (number_there version attributes _ refl t.1.1.0 g.1.1.0, tt)))
all_there version attributes FALLOCATE t g = (number_there version attributes _ refl t.0 g.0, (t.1.0, (number_there version attributes _ refl t.1.1.0 g.1.1.0, (short_number_there version attributes _ refl t.1.1.1.0 g.1.1.1.0, tt))))
all_there version attributes FILEATTR t g = (t.0, (number_there version attributes _ refl t.1.0 g.1.0, tt))

pub kind_with : (kind : Kind) (values : ℕ → List ℕ) → kind_of (command_with kind values) ≡ kind
kind_with SUBVOL values = refl
kind_with SNAPSHOT values = refl
kind_with MKFILE values = refl
kind_with MKDIR values = refl
kind_with MKNOD values = refl
kind_with MKFIFO values = refl
kind_with MKSOCK values = refl
kind_with SYMLINK values = refl
kind_with RENAME values = refl
kind_with LINK values = refl
kind_with UNLINK values = refl
kind_with RMDIR values = refl
kind_with SET_XATTR values = refl
kind_with REMOVE_XATTR values = refl
kind_with WRITE values = refl
kind_with CLONE values = refl
kind_with TRUNCATE values = refl
kind_with CHMOD values = refl
kind_with CHOWN values = refl
kind_with UTIMES values = refl
kind_with END values = refl
kind_with UPDATE_EXTENT values = refl
kind_with FALLOCATE values = refl
kind_with FILEATTR values = refl

kind_inside : {x y : Kind} → Some x ≡ Some y → x ≡ y
kind_inside {x = x} q = ap (λ o. unwrap_or o x) q

numbered_on : (number : ℕ) (kind k : Kind) (b : Bool) (rest : Option Kind) → (row k).number == number ≡ b → (rest ≡ Some kind → (row kind).number ≡ number) → (if b then Some k else rest) ≡ Some kind → (row kind).number ≡ number
numbered_on number kind k true rest same more q = ap (λ (x : Kind). (row x).number) (sym (kind_inside q)) ∙ eqb-true ((row k).number) number same
numbered_on number kind k false rest same more q = more q

found_number : (number : ℕ) (kind : Kind) (kinds : List Kind) → find (λ k. (row k).number == number) kinds ≡ Some kind → (row kind).number ≡ number
found_number number kind [] q = cc
found_number number kind (k ∷ kinds) q = numbered_on number kind k ((row k).number == number) (find (λ x. (row x).number == number) kinds) refl (λ r. found_number number kind kinds r) q

pub numbered : (version number : ℕ) (kind : Kind) → kind_of_number version number ≡ Some kind → (row kind).number ≡ number
unfolding kind_of_number
numbered version number kind e = found_number number kind (kinds_of version) e

record WasCommand (version number : ℕ) (attributes : List Attribute) (c : Command) : Type 0 where
  numbered : number ≡ (row (kind_of c)).number
  known : IsKnown version (kind_of c)
  wanted : AllByRecursion (λ (a : Attribute). value_of a.kind attributes ≡ Some a.bytes) (attributes_of c)
  values : FieldsFit version (row (kind_of c)).wanted (fields_of c)

command_was_spelled : (version number : ℕ) (attributes : List Attribute) (c : Command) → AreShort version attributes → command_of version number attributes ≡ Ok c → WasCommand version number attributes c
unfolding command_of
command_was_spelled version number attributes c are e =
    let last : Kind → Result Command Refusal = λ kind. require (list_all (moment_lawful attributes) (row kind).wanted) BadTime >> Ok (command_with kind (bytes_at attributes)) in
    let middle : Kind → Result Command Refusal = λ kind. wanted_there (row kind).wanted attributes >> last kind in
    let plain = not_refused (is_encoded version number) Encoded (found (kind_of_number version number) (UnknownCommand number) >>= middle) c e in
    let a = bound (found (kind_of_number version number) (UnknownCommand number)) middle c plain.1 in
    let b = tested (wanted_there (row a.0).wanted attributes) (last a.0) c a.2 in
    let d = required (list_all (moment_lawful attributes) (row a.0).wanted) BadTime (Ok (command_with a.0 (bytes_at attributes))) c b.1 in
    let has : kind_of_number version number ≡ Some a.0 = found_is (kind_of_number version number) (UnknownCommand number) a.0 a.1 in
    let own : (row a.0).number ≡ number = numbered version number a.0 has in
    let kind = kind_with a.0 (bytes_at attributes) in
    let are_good = good version attributes (row a.0).wanted are b.0 in
    let P : Command → Type 0 = λ x. WasCommand version number attributes x in
    let at : P (command_with a.0 (bytes_at attributes)) = record {
      numbered = sym own ∙ ap (λ (k : Kind). (row k).number) (sym kind);
      known = subst (IsKnown version) (sym kind) (ap (kind_of_number version) own ∙ has);
      wanted = all_there version attributes a.0 (there attributes (row a.0).wanted b.0) are_good;
      values = all_fit version attributes a.0 are_good d.0;
    } in
    subst P (ok_same d.1) at

-- ---- the whole front

-- Frame, attributes and command were spelled.
record WereSpelled (version : ℕ) (bytes : List ℕ) (frame : Frame) (attributes : List Attribute) (c : Command) : Type 0 where
  numbered : frame.number ≡ (row (kind_of c)).number
  spells : Spells version (frame_of frame.number frame.body) c
  whole : bytes ≡ frame_of frame.number frame.body ++ frame.rest
  attributes_are : spells.attributes ≡ attributes

were_spelled : (version : ℕ) (bytes : List ℕ) (frame : Frame) (attributes : List Attribute) (c : Command) → IsBytes bytes → frame_at bytes ≡ Ok frame → attributes_at version frame.body ≡ Ok attributes
    → command_of version frame.number attributes ≡ Ok c → WereSpelled version bytes frame attributes c
were_spelled version bytes frame attributes c is f a d =
    let framed = frame_was_spelled bytes frame is f in
    let are = attributes_were_spelled version frame.body attributes framed.is_bytes a in
    let command = command_was_spelled version frame.number attributes c (are_short version attributes are.are) d in
    record {
      numbered = command.numbered;
      spells = record {
        known = command.known;
        attributes = attributes;
        lawful = are.are;
        frame = ap (λ (n : ℕ). frame_of n frame.body) command.numbered ∙ ap (frame_of (row (kind_of c)).number) are.body_is;
        short = subst (λ (body : List ℕ). length body ≤ greatest_body) are.body_is framed.short;
        wanted = command.wanted;
        values = command.values;
      };
      whole = framed.framed;
      attributes_are = refl;
    }

pub rules_were_spelled : RulesWereSpelled
rules_were_spelled version bytes frame attributes c is f a d =
    let w = were_spelled version bytes frame attributes c is f a d in
    (frame_of frame.number frame.body, w.spells, w.whole, w.attributes_are)

pub read_was_spelled : ReadWasSpelled
unfolding front_of
read_was_spelled file version number offset bytes front is e =
    let made : Frame → List Attribute → Command → Front = λ frame attributes command. record {
      item = record { file = file; number = number; offset = offset; version = version; data_at = data_place version offset attributes; command = command };
      rest = frame.rest;
    } in
    let last : Frame → List Attribute → Result Front Refusal = λ frame attributes. command_of version frame.number attributes >>= λ command. Ok (made frame attributes command) in
    let a = bound (frame_at bytes) (λ frame. attributes_at version frame.body >>= last frame) front e in
    let b = bound (attributes_at version a.0.body) (last a.0) front a.2 in
    let d = bound (command_of version a.0.number b.0) (λ command. Ok (made a.0 b.0 command)) front b.2 in
    let w = were_spelled version bytes a.0 b.0 d.0 is a.1 b.1 d.1 in
    let P : Front → Type 0 = λ x. WasSpelled file version number offset bytes x in
    let at : P (made a.0 b.0 d.0) = record {
      frame = frame_of a.0.number a.0.body;
      spells = w.spells;
      whole = w.whole;
      item_is = ap (λ (attributes : List Attribute). (made a.0 attributes d.0).item) (sym w.attributes_are);
    } in
    subst P (ok_same d.2) at
