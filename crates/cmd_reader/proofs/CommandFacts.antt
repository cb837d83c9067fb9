-- Facts of a command that was read from a body.
use Rattle.std.specs.Prelude.{◌≡◌, ⊤, map, slice_index_or, ℕ, zero, suc, ◌+◌, ◌-◌, ◌^◌, ◌≤◌, ◌<◌, Bool, true, false, min, ◌==◌, List, [], ◌∷◌, ◌++◌, length, drop, Option, None, Some, Result, Ok, Err, if◌then◌else◌}
use Rattle.std.proofs.Common.{w8, Fits}
use Rattle.std.proofs.Math.Facts.{Fits-lt-pow}
use Rattle.std.specs.Option.{unwrap_or}
use Rattle.std.specs.List.{list_all, AllByRecursion}
use Rattle.std.specs.Int.{w16, w32, to_le_bytes}
use Rattle.std.proofs.Common.{refl, sym, ap, subst, ◌∙◌, arith, length-take, length-drop, length-append, leb-true, zero-le, le_refl, eqb-true}
use Rattle.send_model.specs.Refusal.{Refusal, BadAttribute, UnknownCommand, BadTime, Encoded}
use Rattle.send_model.specs.Chain.{◌>>=◌, ◌>>◌, found, require}
use Rattle.send_model.specs.Attribute.{DATA, IsBytes}
use Rattle.send_model.specs.Command.{Kind, SUBVOL, WRITE, is_encoded, Command, row, kind_of, kind_of_number, command_with, fields_of}
use Rattle.send_model.specs.Spelling.{Attribute, value_of, frame_of, frame_checksum, greatest_body, attributes_of, body_of, AreAttributes}
use Rattle.send_model.specs.Receive.{bytes_of}
use Rattle.send_model.specs.Reading.{Frame, number16, attribute_head, attribute_len, attribute_end, attribute_in, attribute_lawful, attribute_number, attributes_from, attributes_at, bytes_at, command_of, place_of, data_place, frame_header_len, wanted_there, moment_lawful}
use Rattle.send_model.specs.Laws.{CanWrite}
use Rattle.send_model.proofs.Sound.{found_is, and_both}
use Rattle.send_model.proofs.Sorts.{same_inside}
use Rattle.send_model.proofs.Canonical.{bytes_append, le2_bytes, le4_bytes, checksum_small, spelled_spellable}
use Rattle.send_model.proofs.Frames.{frame_read_back}
use Rattle.send_model.proofs.ReadSpelled.{kind_with, numbered, rules_were_spelled}
use Rattle.sx_base.specs.declared.refusal.Refusal as code
use Rattle.tlv_frame.specs.Table.{Table, StandsFor, ReadsTable, TakesBody, no_attributes}
use Rattle.cmd_reader.specs.Alone.{stand, stand_of}
use Rattle.cmd_reader.proofs.Alone.{Follow, follow_same, stand_follow, alone_stand, kinds_with, body_size, total as size_of}
use Rattle.send_model.proofs.Fuel.{bound, tested, required, not_refused, ok_same}

-- How many bytes attributes take.
abbrev total : ℕ → List Attribute → ℕ
total version [] = 0
total version (a ∷ rest) = (attribute_head version a.kind + length a.bytes) + total version rest

Within : ℕ → Type 0
Within n = (version : ℕ) (seen body : List ℕ) (attributes : List Attribute) → attributes_from n version seen body ≡ Ok attributes → total version attributes ≤ length body

lawful_len : (version : ℕ) (seen body : List ℕ) → attribute_lawful version seen body ≡ true → attribute_end version body ≤ length body
lawful_len version seen body e = leb-true _ _ (and_both _ _ e).1

if_true : {A : Type 0} (b : Bool) (x : Result A Refusal) (refusal : Refusal) (y : A) → (if b then x else Err refusal) ≡ Ok y → (b ≡ true) × (x ≡ Ok y)
if_true true x refusal y e = (refl, e)
if_true false x refusal y e = cc

-- Of a body that is not empty the first attribute fits into it, and the others were read behind it.
pub record FirstRead (n version : ℕ) (seen body : List ℕ) (attributes : List Attribute) : Type 0 where
  pub others : List Attribute
  pub fits : attribute_end version body ≤ length body
  pub read : attributes_from n version (number16 body ∷ seen) (drop (attribute_end version body) body) ≡ Ok others
  pub are : attribute_in version body ∷ others ≡ attributes

pub first_read : (n version : ℕ) (seen : List ℕ) (x : ℕ) (xs : List ℕ) (attributes : List Attribute) → attributes_from (suc n) version seen (x ∷ xs) ≡ Ok attributes → FirstRead n version seen (x ∷ xs) attributes
unfolding attributes_from
first_read n version seen x xs attributes e =
    let body : List ℕ = x ∷ xs in
    let rest = attributes_from n version (number16 body ∷ seen) (drop (attribute_end version body) body) in
    let k : List Attribute → Result (List Attribute) Refusal = λ more. Ok (attribute_in version body ∷ more) in
    let w = if_true (attribute_lawful version seen body) (rest >>= k) (BadAttribute (attribute_number body)) attributes e in
    let a = bound rest k attributes w.1 in
    record { others = a.0; fits = lawful_len version seen body w.0; read = a.1; are = ok_same a.2 }

withins : (n : ℕ) → Within n
unfolding Within attributes_from
withins zero version seen body attributes e = let T : List Attribute → Type 0 = λ list. total version list ≤ length body in subst T (ok_same e) zero-le
withins (suc n) version seen [] attributes e = let T : List Attribute → Type 0 = λ list. total version list ≤ 0 in subst T (ok_same e) zero-le
withins (suc n) version seen (x ∷ xs) attributes e =
    let body : List ℕ = x ∷ xs in
    let head : ℕ = attribute_head version (number16 body) in
    let len : ℕ = attribute_len version body in
    let one : Attribute = attribute_in version body in
    let first = first_read n version seen x xs attributes e in
    let more = withins n version (number16 body ∷ seen) (drop (attribute_end version body) body) first.others first.read in
    let size : length one.bytes ≤ len = at_most len (length (drop head body)) (length one.bytes) (length-take len (drop head body)) in
    let T : List Attribute → Type 0 = λ list. total version list ≤ length body in
    subst T first.are (sums head (length one.bytes) len (total version first.others) (length (drop (attribute_end version body) body)) (length body) size first.fits more (length-drop (attribute_end version body) body))
  where
    at_most : (m k n : ℕ) → n ≡ min m k → n ≤ m
    at_most m k n e = omega (arith, e)

    sums : (h b l t d n : ℕ) → b ≤ l → h + l ≤ n → t ≤ d → d ≡ n - (h + l) → (h + b) + t ≤ n
    sums h b l t d n p q s u = omega (arith, p, q, s, u)

-- The place and the bytes of an attribute lie in the body.
placed : (version kind : ℕ) (attributes : List Attribute) (place : ℕ) → place_of version kind attributes ≡ Some place → place + length (bytes_at attributes kind) ≤ total version attributes
placed version kind [] place e = cc
placed version kind (a ∷ rest) place e =
    placed_on (a.kind == kind) (attribute_head version kind) (attribute_head version a.kind) (λ same. ap (attribute_head version) (sym (eqb-true a.kind kind same)))
    a.bytes (value_of kind rest) (place_of version kind rest) (total version rest) place (λ p q. placed version kind rest p q) e
  where
    placed_on : (b : Bool) (own head : ℕ) → (b ≡ true → own ≡ head) → (bytes : List ℕ) (value : Option (List ℕ)) (there : Option ℕ) (t place : ℕ) → ((p : ℕ) → there ≡ Some p → p + length (unwrap_or value []) ≤ t)
        → (if b then Some own else (elim there as (λ x. Option ℕ) [ None ↦ None | Some p ↦ Some (head + length bytes + p) ])) ≡ Some place → place + length (unwrap_or (if b then Some bytes else value) []) ≤ (head + length bytes) + t
    placed_on true own head same bytes value there t place more q = let is = same_inside q in let s = same refl in omega (arith, is, s)
    placed_on false own head same bytes value None t place more q = cc
    placed_on false own head same bytes value (Some p) t place more q = let is = same_inside q in let m = more p refl in omega (arith, is, m)

-- The place of an attribute lies in the body.
pub place_in_body : (version : ℕ) (body : List ℕ) (attributes : List Attribute) (place : ℕ) → attributes_at version body ≡ Ok attributes → place_of version DATA attributes ≡ Some place → place ≤ length body
unfolding attributes_at Within
place_in_body version body attributes place read there = let whole = withins (length body) version [] body attributes read in let p = placed version DATA attributes place there in omega (arith, whole, p)

-- Where there is no such attribute there are no bytes.
pub unplaced : (version kind : ℕ) (attributes : List Attribute) → place_of version kind attributes ≡ None → bytes_at attributes kind ≡ []
unplaced version kind [] e = refl
unplaced version kind (a ∷ rest) e = unplaced_on (a.kind == kind) (attribute_head version kind) (attribute_head version a.kind) a.bytes (value_of kind rest) (place_of version kind rest) (λ q. unplaced version kind rest q) e
  where
    unplaced_on : (b : Bool) (own head : ℕ) (bytes : List ℕ) (value : Option (List ℕ)) (there : Option ℕ) → (there ≡ None → unwrap_or value [] ≡ [])
        → (if b then Some own else (elim there as (λ x. Option ℕ) [ None ↦ None | Some p ↦ Some (head + length bytes + p) ])) ≡ None → unwrap_or (if b then Some bytes else value) [] ≡ []
    unplaced_on true own head bytes value there more q = cc
    unplaced_on false own head bytes value None more q = more refl
    unplaced_on false own head bytes value (Some p) more q = cc

-- A command that was read is the one of its number's kind, with the bytes of the attributes.
pub made_with : (version number : ℕ) (attributes : List Attribute) (c : Command) → command_of version number attributes ≡ Ok c
    → (kind : Kind) × (kind_of_number version number ≡ Some kind) × (command_with kind (bytes_at attributes) ≡ c)
unfolding command_of
made_with version number attributes c e =
    let last : Kind → Result Command Refusal = λ kind. require (list_all (moment_lawful attributes) (row kind).wanted) BadTime >> Ok (command_with kind (bytes_at attributes)) in
    let plain = not_refused (is_encoded version number) Encoded (found (kind_of_number version number) (UnknownCommand number) >>= λ kind. wanted_there (row kind).wanted attributes >> last kind) c e in
    let a = bound (found (kind_of_number version number) (UnknownCommand number)) (λ kind. wanted_there (row kind).wanted attributes >> last kind) c plain.1 in
    let b = tested (wanted_there (row a.0).wanted attributes) (last a.0) c a.2 in
    let d = required (list_all (moment_lawful attributes) (row a.0).wanted) BadTime (Ok (command_with a.0 (bytes_at attributes))) c b.1 in
    (a.0, found_is (kind_of_number version number) (UnknownCommand number) a.0 a.1, ok_same d.1)

data_with : (kind : Kind) (values : ℕ → List ℕ) → length (bytes_of (command_with kind values)) ≤ length (values DATA)
data_with WRITE values = le_refl _
data_with SUBVOL values = zero-le
data_with _ values = zero-le

data_within : (version at : ℕ) (attributes : List Attribute) (size payload : ℕ) (o : Option ℕ) → place_of version DATA attributes ≡ o → total version attributes ≤ size → payload ≤ length (bytes_at attributes DATA) → (elim o as (λ x. ℕ) [ None ↦ 0 | Some place ↦ at + frame_header_len + place ]) + payload ≤ at + frame_header_len + size
data_within version at attributes size payload None e t d = let none = ap (λ (b : List ℕ). length b) (unplaced version DATA attributes e) in omega (arith, none, d)
data_within version at attributes size payload (Some place) e t d = let p = placed version DATA attributes place e in omega (arith, p, t, d)

-- The data of a command that was read lies in its frame.
pub data_place_within : (at version number : ℕ) (body : List ℕ) (attributes : List Attribute) (c : Command) → attributes_at version body ≡ Ok attributes → command_of version number attributes ≡ Ok c → data_place version at attributes + length (bytes_of c) ≤ at + frame_header_len + length body
unfolding attributes_at Within
data_place_within at version number body attributes c read e =
    let made = made_with version number attributes c e in
    let P : Command → Type 0 = λ x. length (bytes_of x) ≤ length (bytes_at attributes DATA) in
    data_within version at attributes (length body) (length (bytes_of c)) (place_of version DATA attributes) refl (withins (length body) version [] body attributes read) (subst P made.2 (data_with made.0 (bytes_at attributes)))

-- The kind of a command that was read is the one of its number, so it is taken where that number
-- is.
pub kind_is : (version number : ℕ) (attributes : List Attribute) (c : Command) → command_of version number attributes ≡ Ok c → (row (kind_of c)).number ≡ number
kind_is version number attributes c e =
    let made = made_with version number attributes c e in
    let kind : kind_of c ≡ made.0 = ap kind_of (sym made.2) ∙ kind_with made.0 (bytes_at attributes) in
    ap (λ (k : Kind). (row k).number) kind ∙ numbered version number made.0 made.1

-- A slice of bytes is bytes.
pub slice_bytes : (bytes : List ℕ) → ((i : ℕ) → Fits w8 (slice_index_or bytes i 0)) → IsBytes bytes
slice_bytes [] f = tt
slice_bytes (b ∷ bytes) f = (fits_byte b (f 0), slice_bytes bytes (λ i. f (suc i)))
  where
    fits_byte : (b : ℕ) → Fits w8 b → b < 256
    fits_byte b q = Fits-lt-pow q

frame_bytes : (number : ℕ) (body : List ℕ) → IsBytes body → IsBytes (frame_of number body)
unfolding frame_of
frame_bytes number body are =
    let len : List ℕ = to_le_bytes w32 (length body) in
    let cmd : List ℕ = to_le_bytes w16 number in
    let sum : List ℕ = to_le_bytes w32 (frame_checksum (length body) number body) in
    bytes_append len (cmd ++ sum ++ body) (le4_bytes (length body)) (bytes_append cmd (sum ++ body) (le2_bytes number) (bytes_append sum body (le4_bytes (frame_checksum (length body) number body)) are))

-- A command that was read can be written in the version that it was read in.
pub read_can_write : (version number : ℕ) (body : List ℕ) (attributes : List Attribute) (c : Command) → number < 2 ^ 16 → length body ≤ greatest_body → IsBytes body → attributes_at version body ≡ Ok attributes
    → command_of version number attributes ≡ Ok c → CanWrite version c
read_can_write version number body attributes c small short are read e =
    let back = frame_read_back body [] number small short (checksum_small number body are) in
    let frame : Frame = record { number = number; body = body; rest = [] } in
    let spelled = rules_were_spelled version (frame_of number body ++ []) frame attributes c (bytes_append (frame_of number body) [] (frame_bytes number body are) tt) back read e in
    record { spellable = spelled_spellable version spelled.0 c spelled.1 }

-- Attributes that stand alone are those of the command.
pub stands_alone : (version number : ℕ) (body : List ℕ) (attributes : List Attribute) (c : Command) (table : Table) → number < 2 ^ 16 → length body ≤ greatest_body → IsBytes body → attributes_at version body ≡ Ok attributes
    → command_of version number attributes ≡ Ok c → table.version ≡ version → StandsFor table attributes → stand_of table (length body) (kind_of_number version number) ≡ true → attributes ≡ attributes_of c
unfolding attributes_of frame_of
stands_alone version number body attributes c table small short are read e same_version sf alone =
    let back = frame_read_back body [] number small short (checksum_small number body are) in
    let frame : Frame = record { number = number; body = body; rest = [] } in
    let s = rules_were_spelled version (frame_of number body ++ []) frame attributes c (bytes_append (frame_of number body) [] (frame_bytes number body are) tt) back read e in
    let all = subst (λ (l : List Attribute). AllByRecursion (λ (a : Attribute). value_of a.kind l ≡ Some a.bytes) (attributes_of c)) s.3 s.1.wanted in
    let kinds = kinds_with version (row (kind_of c)).wanted (fields_of c) s.1.values in
    let known : kind_of_number version number ≡ Some (kind_of c) = ap (kind_of_number version) (sym (kind_is version number attributes c e)) ∙ s.1.known in
    let here : stand table (length body) (row (kind_of c)).wanted 0 ≡ true = subst (λ (o : Option Kind). stand_of table (length body) o ≡ true) known alone in
    let tried = subst (λ (l : List ℕ). stand table (length body) l 0 ≡ true) (sym kinds) here in
    let follow = stand_follow table attributes sf (length body) (attributes_of c) 0 all tried in
    let framed : frame_of number body ++ [] ≡ frame_of (row (kind_of c)).number (body_of version attributes) ++ [] =
    s.2 ∙ ap (λ (l : List ℕ). l ++ []) (s.1.frame ∙ ap (λ (l : List Attribute). frame_of (row (kind_of c)).number (body_of version l)) s.3) in
    let size : length body ≡ size_of version attributes = omega (arith, ap (λ (l : List ℕ). length l) framed, length-append body [], length-append (body_of version attributes) [], body_size version attributes) in
    follow_same version attributes (attributes_of c) (subst (λ (n : ℕ). Follow version attributes n (attributes_of c) 0) size (subst (λ (v : ℕ). Follow v attributes (length body) (attributes_of c) 0) same_version follow))

-- And those of the command stand alone.
pub alone_stands : (version number : ℕ) (body : List ℕ) (attributes : List Attribute) (c : Command) (table : Table) → number < 2 ^ 16 → length body ≤ greatest_body → IsBytes body → attributes_at version body ≡ Ok attributes
    → command_of version number attributes ≡ Ok c → table.version ≡ version → StandsFor table attributes → attributes ≡ attributes_of c → stand_of table (length body) (kind_of_number version number) ≡ true
unfolding attributes_of frame_of
alone_stands version number body attributes c table small short are read e same_version sf same =
    let back = frame_read_back body [] number small short (checksum_small number body are) in
    let frame : Frame = record { number = number; body = body; rest = [] } in
    let s = rules_were_spelled version (frame_of number body ++ []) frame attributes c (bytes_append (frame_of number body) [] (frame_bytes number body are) tt) back read e in
    let lawful : AreAttributes table.version attributes = subst (λ (v : ℕ). AreAttributes v attributes) (sym same_version) (subst (λ (l : List Attribute). AreAttributes version l) s.3 s.1.lawful) in
    let known : kind_of_number version number ≡ Some (kind_of c) = ap (kind_of_number version) (sym (kind_is version number attributes c e)) ∙ s.1.known in
    let kinds : map (λ (a : Attribute). a.kind) attributes ≡ (row (kind_of c)).wanted = ap (λ (l : List Attribute). map (λ (a : Attribute). a.kind) l) same ∙ kinds_with version (row (kind_of c)).wanted (fields_of c) s.1.values in
    let framed : frame_of number body ++ [] ≡ frame_of (row (kind_of c)).number (body_of version attributes) ++ [] =
    s.2 ∙ ap (λ (l : List ℕ). l ++ []) (s.1.frame ∙ ap (λ (l : List Attribute). frame_of (row (kind_of c)).number (body_of version l)) s.3) in
    let size : length body ≡ size_of version attributes = omega (arith, ap (λ (l : List ℕ). length l) framed, length-append body [], length-append (body_of version attributes) [], body_size version attributes) in
    let here = alone_stand table attributes sf lawful in
    let sized = subst (λ (n : ℕ). stand table n (map (λ (a : Attribute). a.kind) attributes) 0 ≡ true) (ap (λ (v : ℕ). size_of v attributes) same_version ∙ sym size) here in
    subst (λ (o : Option Kind). stand_of table (length body) o ≡ true) (sym known) (subst (λ (l : List ℕ). stand table (length body) l 0 ≡ true) kinds sized)

-- A new table that took the attributes of a body.
pub table_read : (version : ℕ) (first table : Table) (answer : Result ⊤ code.Refusal) (body : List ℕ) → first ≡ no_attributes version → answer ≡ Ok tt
    → TakesBody first.version table answer (attributes_at first.version body) → (table.version ≡ version) × ReadsTable (Ok table) (attributes_at version body)
table_read version first table answer body new is takes =
    subst (λ (t : Table). TakesBody t.version table (Ok tt) (attributes_at t.version body)) new
    (subst (λ (r : Result ⊤ code.Refusal). TakesBody first.version table r (attributes_at first.version body)) is takes)
