-- What the bytes of a line are: a newline stands at its end and nowhere else, and it is short.
use Rattle.std.specs.Prelude.{◌≡◌, ℕ, zero, suc, ◌+◌, ◌-◌, ◌*◌, ◌/◌, ◌%◌, ◌<◌, ◌≤◌, ◌==◌, ◌&&◌, Bool, true, false, nat_lt, nat_le, List, [], ◌∷◌, ◌++◌, map, length, take, drop, replicate, Option, None, Some, codes, if◌then◌else◌}
use Rattle.std.specs.List.{flat_map, AllByRecursion, list_all}
use Rattle.std.specs.Option.{unwrap_or}
use Rattle.std.specs.Ordering.{nat_cmp}
use Rattle.std.specs.Fmt.{decimal, digits, digits_onto, digit_glyph}
use Rattle.std.specs.Int.{w16, to_le_bytes}
use Rattle.std.proofs.Common.{refl, sym, ap, ◌∙◌, arith, append_assoc}
use Rattle.std.proofs.lemmas.Bool.{ltb-true, leb-true, eqb-true, and_parts}
use Rattle.std.proofs.lemmas.List.{length-append, length-take, length-drop, length-replicate}
use Rattle.send_model.proofs.ElementLaws.{all_both}
use Rattle.send_model.proofs.Streams.{read_version}
use Rattle.send_model.specs.Map.{value_at}
use Rattle.send_model.specs.Attribute.{Field, Identifier, Number, ShortNumber, Moment, Bytes, FieldFits, FieldsFit, field_bytes, Time, MODE, DATA, XATTR_DATA, is_one_of}
use Rattle.send_model.specs.Command.{Kind, SUBVOL, SNAPSHOT, MKFILE, MKDIR, MKNOD, MKFIFO, MKSOCK, SYMLINK, RENAME, LINK, UNLINK, RMDIR, SET_XATTR, REMOVE_XATTR, WRITE, CLONE, TRUNCATE, CHMOD, CHOWN, UTIMES, END, UPDATE_EXTENT, FALLOCATE, FILEATTR, Command, row, kind_of, fields_of}
use Rattle.send_model.specs.Spelling.{Attribute, IsSpellable, attribute_bytes, length_bytes, attributes_of, with_fields, body_of}
use Rattle.send_model.specs.Reading.{is_version}
use Rattle.send_model.specs.Printed.{hex_byte, hex_bytes, escaped, escaped_byte, is_plain, uuid_text, octal, time_text}
use Rattle.send_model.specs.Lines.{value_names, values_with, stream_line}
use Rattle.text_model.specs.Texts.{Line, Header, Says, line_text, text_line, text_of_lines}
use Rattle.text_model.specs.Packing.{lines_of, onto_first, longest_line}
use Rattle.text_model.proofs.Glyphs.{IsWord, digits_word, decimal_small, hex_len, uuid_is}
use Rattle.text_model.proofs.OneReading.{text, value_word, name_word}
use Rattle.text_model.specs.LineOrder.{IsDueLine, Runs, due_after_line}
use Rattle.text_model.proofs.LineRuns.{versions_small}

-- ---- bytes above those that end lines

abbrev pub IsHigh : List ℕ → Type 0
IsHigh bytes = AllByRecursion (λ b. 0x1f < b) bytes

pub word_high : (bytes : List ℕ) → IsWord bytes → IsHigh bytes
word_high [] all = tt
word_high (b ∷ bytes) all = (omega (arith, all.0), word_high bytes all.1)

high_from : (bytes : List ℕ) → list_all (λ b. nat_lt 0x1f b) bytes ≡ true → IsHigh bytes
high_from [] all = tt
high_from (b ∷ bytes) all = let parts = and_parts (nat_lt 0x1f b) (list_all (λ b. nat_lt 0x1f b) bytes) all in (ltb-true 0x1f b parts.0, high_from bytes parts.1)

-- The name of an attribute's values.
abbrev name_of : ℕ → List ℕ
name_of kind = unwrap_or (value_at nat_cmp kind value_names) []

-- A name's bytes are high, and it is short.
abbrev is_good_name : List ℕ → Bool
is_good_name name = list_all (λ b. nat_lt 0x1f b) name && nat_le (length name) 16

abbrev are_good : List ℕ → Bool
are_good kinds = list_all (λ kind. is_good_name (name_of kind)) kinds

-- The names of a command's attributes are good, and so is its own; and it has seven attributes at
-- the most.
abbrev is_good_row : Kind → Bool
is_good_row kind = are_good (row kind).wanted && (is_good_name (row kind).name && nat_le (length (row kind).wanted) 7)

good_row : (kind : Kind) → is_good_row kind ≡ true
unfolding row
good_row SUBVOL = refl
good_row SNAPSHOT = refl
good_row MKFILE = refl
good_row MKDIR = refl
good_row MKNOD = refl
good_row MKFIFO = refl
good_row MKSOCK = refl
good_row SYMLINK = refl
good_row RENAME = refl
good_row LINK = refl
good_row UNLINK = refl
good_row RMDIR = refl
good_row SET_XATTR = refl
good_row REMOVE_XATTR = refl
good_row WRITE = refl
good_row CLONE = refl
good_row TRUNCATE = refl
good_row CHMOD = refl
good_row CHOWN = refl
good_row UTIMES = refl
good_row END = refl
good_row UPDATE_EXTENT = refl
good_row FALLOCATE = refl
good_row FILEATTR = refl

values_high : (version : ℕ) (kinds : List ℕ) (fields : List Field) → are_good kinds ≡ true → FieldsFit version kinds fields → IsHigh (values_with hex_bytes kinds fields)
values_high version [] [] good fits = tt
values_high version [] (f ∷ fs) good fits = tt
values_high version (k ∷ ks) [] good fits = tt
values_high version (k ∷ ks) (f ∷ fs) good fits =
    let parts = and_parts (is_good_name (name_of k)) (are_good ks) good in
    let name : IsHigh (name_of k) = high_from (name_of k) (and_parts (list_all (λ b. nat_lt 0x1f b) (name_of k)) (nat_le (length (name_of k)) 16) parts.0).0 in
    let value : IsHigh (text k f) = word_high (text k f) (value_word version k f fits.0) in (
      (omega arith),
      all_both (λ b. 0x1f < b) (name_of k ++ 0x3d ∷ text k f) (values_with hex_bytes ks fs)
          (all_both (λ b. 0x1f < b) (name_of k) (0x3d ∷ text k f) name ((omega arith), value)) (values_high version ks fs parts.1 fits.1),
    )

-- ---- a line's shape

pub record IsWholeLine (line : List ℕ) : Type 0 where
  pub body : List ℕ
  pub high : IsHigh body
  pub is : line ≡ body ++ 0x0a ∷ []

header_whole : (version : ℕ) → is_version version ≡ true → IsWholeLine (stream_line version)
header_whole version is = record {
  body = codes "stream " ++ decimal version;
  high = all_both (λ b. 0x1f < b) (codes "stream ") (decimal version) (high_from (codes "stream ") refl) (word_high (decimal version) (digits_word 10 version (omega arith) (omega arith) (decimal_small version (versions_small version (read_version version is)))));
  is = refl;
}

pub command_whole : (version : ℕ) (c : Command) → IsSpellable version c → IsWholeLine (text_line c)
unfolding text_line
command_whole version c s =
    let good = and_parts (are_good (row (kind_of c)).wanted) (is_good_name (row (kind_of c)).name && nat_le (length (row (kind_of c)).wanted) 7) (good_row (kind_of c)) in
    record {
      body = (row (kind_of c)).name ++ values_with hex_bytes (row (kind_of c)).wanted (fields_of c);
      high = all_both (λ b. 0x1f < b) (row (kind_of c)).name (values_with hex_bytes (row (kind_of c)).wanted (fields_of c)) (word_high (row (kind_of c)).name (name_word (kind_of c)))
          (values_high version (row (kind_of c)).wanted (fields_of c) good.0 s.values);
      is = refl;
    }

pub line_whole : (due : Option ℕ) (line : Line) → IsDueLine due line → IsWholeLine (line_text line)
line_whole None (Header version) is = header_whole version is
line_whole None (Says version c) is = absurd is
line_whole (Some due) (Header version) is = absurd is
line_whole (Some due) (Says version c) is = command_whole due c is.1.spellable

-- ---- cutting

pub line_cut : (body bytes : List ℕ) → IsHigh body → lines_of (body ++ 0x0a ∷ bytes) ≡ (body ++ 0x0a ∷ []) ∷ lines_of bytes
unfolding lines_of
line_cut [] bytes high = refl
line_cut (b ∷ body) bytes high =
    ap (λ (t : Bool). if t then (0x0a ∷ []) ∷ lines_of (body ++ 0x0a ∷ bytes) else onto_first b (lines_of (body ++ 0x0a ∷ bytes))) (other b high.0)
    ∙ ap (onto_first b) (line_cut body bytes high.1)
  where
    other : (b : ℕ) → 0x1f < b → (b == 0x0a) ≡ false
    other b above = one (b == 0x0a) refl
      where
        one : (t : Bool) → (b == 0x0a) ≡ t → t ≡ false
        one true e = absurd (omega (arith, above, eqb-true b 0x0a e))
        one false e = refl

pub whole_cut : (line bytes : List ℕ) → IsWholeLine line → lines_of (line ++ bytes) ≡ line ∷ lines_of bytes
whole_cut line bytes w =
    ap (λ (l : List ℕ). lines_of (l ++ bytes)) w.is ∙ ap lines_of (append_assoc w.body (0x0a ∷ []) bytes) ∙ line_cut w.body bytes w.high ∙ ap (λ (l : List ℕ). l ∷ lines_of bytes) (sym w.is)

pub lines_cut : (due : Option ℕ) (lines : List Line) (rest : List ℕ) → Runs due lines → lines_of (text_of_lines lines ++ rest) ≡ map line_text lines ++ lines_of rest
lines_cut due [] rest runs = refl
lines_cut due (line ∷ lines) rest runs =
    ap lines_of (append_assoc (line_text line) (text_of_lines lines) rest)
    ∙ whole_cut (line_text line) (text_of_lines lines ++ rest) (line_whole due line runs.0)
    ∙ ap (λ (l : List (List ℕ)). line_text line ∷ l) (lines_cut (due_after_line line) lines rest runs.1)

-- ---- lengths

onto_len : (k base n : ℕ) (acc : List ℕ) → length (digits_onto k base false n acc) ≤ k + length acc
onto_len zero base n acc = omega arith
onto_len (suc k) base n acc = one (onto_len k base (n / base) (digit_glyph false (n % base) ∷ acc)) (n / base == 0)
  where
    one : length (digits_onto k base false (n / base) (digit_glyph false (n % base) ∷ acc)) ≤ k + length (digit_glyph false (n % base) ∷ acc) → (b : Bool) → length (if b then digit_glyph false (n % base) ∷ acc else digits_onto k base false (n / base) (digit_glyph false (n % base) ∷ acc)) ≤ suc k + length acc
    one rest true = omega arith
    one rest false = omega (arith, rest)

digits_len : (base n : ℕ) → length (digits base false n) ≤ 64
unfolding digits
digits_len base n = omega (arith, onto_len 64 base n [])

number_len : (mode : Bool) (n : ℕ) → length (if mode then octal n else decimal n) ≤ 64
number_len true n = digits_len 8 n
number_len false n = digits_len 10 n

escaped_len : (bytes : List ℕ) → length (escaped bytes) ≤ 4 * length bytes
unfolding escaped escaped_byte
escaped_len [] = omega arith
escaped_len (b ∷ bytes) = one (is_plain b) (escaped_len bytes)
  where
    one : (t : Bool) → length (escaped bytes) ≤ 4 * length bytes → length ((if t then b ∷ [] else 0x5c ∷ 0x78 ∷ hex_byte b) ++ escaped bytes) ≤ 4 * length (b ∷ bytes)
    one true rest = omega (arith, rest)
    one false rest = omega (arith, rest)

bytes_len : (contents : Bool) (bytes : List ℕ) → length (if contents then hex_bytes bytes else escaped bytes) ≤ 4 * length bytes
bytes_len true bytes = omega (arith, hex_len bytes)
bytes_len false bytes = escaped_len bytes

piece_len : (count : ℕ) (bytes : List ℕ) → length (hex_bytes (take count bytes)) ≤ 2 * count
piece_len count bytes = omega (arith, hex_len (take count bytes), length-take count bytes)

uuid_len : (bytes : List ℕ) → length bytes ≡ 16 → length (uuid_text bytes) ≤ 64
uuid_len bytes sixteen =
    let a : List ℕ = hex_bytes (take 4 bytes) in
    let b : List ℕ = hex_bytes (take 2 (drop 4 bytes)) in
    let c : List ℕ = hex_bytes (take 2 (drop 6 bytes)) in
    let d : List ℕ = hex_bytes (take 2 (drop 8 bytes)) in
    let e : List ℕ = hex_bytes (drop 10 bytes) in
    omega (
      arith,
      ap length (uuid_is bytes),
      length-append a (0x2d ∷ (b ++ 0x2d ∷ (c ++ 0x2d ∷ (d ++ 0x2d ∷ e)))),
      length-append b (0x2d ∷ (c ++ 0x2d ∷ (d ++ 0x2d ∷ e))),
      length-append c (0x2d ∷ (d ++ 0x2d ∷ e)),
      length-append d (0x2d ∷ e),
      piece_len 4 bytes,
      piece_len 2 (drop 4 bytes),
      piece_len 2 (drop 6 bytes),
      piece_len 2 (drop 8 bytes),
      hex_len (drop 10 bytes),
      length-drop 10 bytes,
      sixteen,
    )

time_len : (t : Time) → length (time_text t) ≤ 150
unfolding time_text
time_len t =
    let a : List ℕ = decimal t.secs in
    let z : List ℕ = replicate (9 - length (decimal t.nanos)) 0x30 in
    let b : List ℕ = decimal t.nanos in
    omega (arith, length-append (a ++ 0x2e ∷ z) b, length-append a (0x2e ∷ z), length-replicate {A = ℕ} (9 - length b) 0x30, digits_len 10 t.secs, digits_len 10 t.nanos)

value_len : (version kind : ℕ) (field : Field) → FieldFits version kind field → length (text kind field) ≤ 4 * length (field_bytes field) + 150
value_len version kind (Identifier bytes) fits = omega (arith, uuid_len bytes fits.0)
value_len version kind (Number n) fits = omega (arith, number_len (kind == MODE) n)
value_len version kind (ShortNumber n) fits = omega (arith, digits_len 10 n)
value_len version kind (Moment t) fits = omega (arith, time_len t)
value_len version kind (Bytes bytes) fits = omega (arith, bytes_len (is_one_of kind (XATTR_DATA ∷ DATA ∷ [])) bytes)

attribute_len : (version : ℕ) (a : Attribute) → length a.bytes ≤ length (attribute_bytes version a)
unfolding attribute_bytes
attribute_len version a = omega (arith, length-append (to_le_bytes w16 a.kind ++ length_bytes version a) a.bytes)

values_len : (version : ℕ) (kinds : List ℕ) (fields : List Field) → are_good kinds ≡ true → FieldsFit version kinds fields
    → length (values_with hex_bytes kinds fields) ≤ 4 * length (body_of version (with_fields kinds fields)) + 200 * length kinds
unfolding body_of
values_len version [] [] good fits = omega arith
values_len version [] (f ∷ fs) good fits = absurd fits
values_len version (k ∷ ks) [] good fits = absurd fits
values_len version (k ∷ ks) (f ∷ fs) good fits =
    let parts = and_parts (is_good_name (name_of k)) (are_good ks) good in
    let name : length (name_of k) ≤ 16 = leb-true (length (name_of k)) 16 (and_parts (list_all (λ b. nat_lt 0x1f b) (name_of k)) (nat_le (length (name_of k)) 16) parts.0).1 in
    let a : Attribute = record { kind = k; bytes = field_bytes f } in
    omega (
      arith,
      name,
      length-append (name_of k ++ 0x3d ∷ text k f) (values_with hex_bytes ks fs),
      length-append (name_of k) (0x3d ∷ text k f),
      value_len version k f fits.0,
      attribute_len version a,
      length-append (attribute_bytes version a) (flat_map (attribute_bytes version) (with_fields ks fs)),
      values_len version ks fs parts.1 fits.1,
    )

pub command_len : (version : ℕ) (c : Command) → IsSpellable version c → length (text_line c) ≤ longest_line
unfolding text_line attributes_of
command_len version c s =
    let name : List ℕ = (row (kind_of c)).name in
    let kinds : List ℕ = (row (kind_of c)).wanted in
    let values : List ℕ = values_with hex_bytes kinds (fields_of c) in
    let good = and_parts (are_good kinds) (is_good_name name && nat_le (length kinds) 7) (good_row (kind_of c)) in
    let own = and_parts (is_good_name name) (nat_le (length kinds) 7) good.1 in
    let few : length kinds ≤ 7 = leb-true (length kinds) 7 own.1 in
    let short : length name ≤ 16 = leb-true (length name) 16 (and_parts (list_all (λ b. nat_lt 0x1f b) name) (nat_le (length name) 16) own.0).1 in
    let all : length values ≤ 4 * length (body_of version (with_fields kinds (fields_of c))) + 200 * length kinds = values_len version kinds (fields_of c) good.0 s.values in
    omega (arith, few, short, all, s.short, length-append (name ++ values) (0x0a ∷ []), length-append name values)

header_len : (version : ℕ) → length (stream_line version) ≤ longest_line
header_len version = omega (arith, digits_len 10 version, length-append (codes "stream " ++ decimal version) (0x0a ∷ []), length-append (codes "stream ") (decimal version))

pub line_len : (due : Option ℕ) (line : Line) → IsDueLine due line → length (line_text line) ≤ longest_line
line_len None (Header version) is = header_len version
line_len None (Says version c) is = absurd is
line_len (Some due) (Header version) is = absurd is
line_len (Some due) (Says version c) is = command_len due c is.1.spellable
