-- The canonical spelling of a command is one lawful frame, and is read back as that command,
-- whatever follows it.
use Rattle.std.specs.Prelude.{◌≡◌, ℕ, Option, zero, suc, ◌+◌, ◌%◌, ◌^◌, ◌<◌, ◌≤◌, ◌==◌, Bool, true, false, ◌&&◌, ◌||◌, not, nat_lt, nat_le, List, [], ◌∷◌, ◌++◌, length, None, Some, if◌then◌else◌}
use Rattle.std.specs.List.{AllByRecursion}
use Rattle.std.specs.Option.{unwrap_or}
use Rattle.std.specs.Int.{w16, w32, w64, to_le_bytes}
use Rattle.std.proofs.Common.{refl, sym, ap, subst, ◌∙◌, eqb-true, arith, length-append, le_trans, lit<, lit≤, get_or, zero-le}
use Rattle.std.proofs.Math.Nat.{mod-lt}
use Rattle.std.proofs.lemmas.Bool.{and_parts, leb-true, ltb-true, not-true, true≢false}
use Rattle.send_model.specs.Attribute.{Field, Identifier, Number, ShortNumber, Moment, Bytes, field_bytes, FieldFits, FieldsFit, HasRoom, IsBytes, DATA, is_one_of, last_attribute, takes_rest}
use Rattle.send_model.specs.Command.{Command, Subvol, Snapshot, MkFile, MkDir, MkNod, MkFifo, MkSock, Symlink, Rename, Link, Unlink, Rmdir, SetXattr, RemoveXattr, Write, Clone, Truncate, Chmod, Chown, Utimes, End, UpdateExtent, Fallocate, FileAttr, row, kind_of, fields_of}
use Rattle.send_model.specs.Spelling.{Attribute, attribute_bytes, body_of, value_of, AreAttributes, frame_checksum, greatest_body, with_fields, attributes_of, IsKnown, IsSpellable, canonical}
use Rattle.send_model.specs.Reading.{Frame, frame_at, attributes_at, command_of, front_of}
use Rattle.send_model.specs.Laws.{SpelledIsRead, SpelledIsFront, FrameHasOneReading, CanonicalSpells, SpelledIsSpellable, SecondSaysMore}
use Rattle.send_model.proofs.ChecksumLaws.{crc_of-below}
use Rattle.send_model.proofs.Stores.{or_parts}
use Rattle.send_model.proofs.Frames.{frame_read_back}
use Rattle.send_model.proofs.Fuel.{ok_same}
use Rattle.send_model.proofs.Attributes.{differ_back, bytes_by, attributes_read_back}
use Rattle.send_model.proofs.Commands.{command_read_back, known_second, number_small}
use Rattle.send_model.proofs.Versions.{not_rest, is_no_list, are_kinds, wanted_lawful}

-- ---- the wanted attributes are there

pub wanted_there : (c : Command) → AllByRecursion (λ (a : Attribute). value_of a.kind (attributes_of c) ≡ Some a.bytes) (attributes_of c)
unfolding attributes_of row
wanted_there (Subvol uuid ctransid path) = (refl, (refl, (refl, tt)))
wanted_there (Snapshot uuid ctransid path clone_uuid clone_ctransid) = (refl, (refl, (refl, (refl, (refl, tt)))))
wanted_there (MkFile path) = (refl, tt)
wanted_there (MkDir path) = (refl, tt)
wanted_there (MkNod mode rdev path) = (refl, (refl, (refl, tt)))
wanted_there (MkFifo path) = (refl, tt)
wanted_there (MkSock path) = (refl, tt)
wanted_there (Symlink path path_link) = (refl, (refl, tt))
wanted_there (Rename path path_to) = (refl, (refl, tt))
wanted_there (Link path path_link) = (refl, (refl, tt))
wanted_there (Unlink path) = (refl, tt)
wanted_there (Rmdir path) = (refl, tt)
wanted_there (SetXattr name value path) = (refl, (refl, (refl, tt)))
wanted_there (RemoveXattr name path) = (refl, (refl, tt))
wanted_there (Write path offset bytes) = (refl, (refl, (refl, tt)))
wanted_there (Clone path offset clone_uuid clone_ctransid clone_path clone_offset clone_len) = (refl, (refl, (refl, (refl, (refl, (refl, (refl, tt)))))))
wanted_there (Truncate size path) = (refl, (refl, tt))
wanted_there (Chmod mode path) = (refl, (refl, tt))
wanted_there (Chown uid gid path) = (refl, (refl, (refl, tt)))
wanted_there (Utimes mtime atime path) = (refl, (refl, (refl, tt)))
wanted_there End = tt
wanted_there (UpdateExtent size path offset) = (refl, (refl, (refl, tt)))
wanted_there (Fallocate size path offset mode) = (refl, (refl, (refl, (refl, tt))))
wanted_there (FileAttr path flags) = (refl, (refl, tt))

-- ---- bytes

pub bytes_append : (a b : List ℕ) → IsBytes a → IsBytes b → IsBytes (a ++ b)
bytes_append [] b p q = q
bytes_append (x ∷ a) b p q = (p.0, bytes_append a b p.1 q)

byte_small : (n : ℕ) → n % 256 < 256
byte_small n = mod-lt n (lit< tt)

pub le2_bytes : (n : ℕ) → IsBytes (to_le_bytes w16 n)
le2_bytes n = (byte_small n, (byte_small _, tt))

pub le4_bytes : (n : ℕ) → IsBytes (to_le_bytes w32 n)
le4_bytes n = (byte_small n, (byte_small _, (byte_small _, (byte_small _, tt))))

pub le8_bytes : (n : ℕ) → IsBytes (to_le_bytes w64 n)
le8_bytes n = (byte_small n, (byte_small _, (byte_small _, (byte_small _, (byte_small _, (byte_small _, (byte_small _, (byte_small _, tt))))))))

pub bytes_at : (bytes : List ℕ) → IsBytes bytes → (i : ℕ) → get_or bytes i 0 < 256
bytes_at [] p i = lit< tt
bytes_at (b ∷ bytes) p zero = p.0
bytes_at (b ∷ bytes) p (suc i) = bytes_at bytes p.1 i

-- ---- fields

field_is_bytes : (version kind : ℕ) (field : Field) → FieldFits version kind field → IsBytes (field_bytes field)
field_is_bytes version kind (Identifier bytes) fits = fits.1
field_is_bytes version kind (Number n) fits = le8_bytes n
field_is_bytes version kind (ShortNumber n) fits = le4_bytes n
field_is_bytes version kind (Moment t) fits = bytes_append (to_le_bytes w64 t.secs) (to_le_bytes w32 t.nanos) (le8_bytes t.secs) (le4_bytes t.nanos)
field_is_bytes version kind (Bytes bytes) fits = fits.1

field_short : (version kind : ℕ) (field : Field) → FieldFits version kind field → HasRoom version kind (length (field_bytes field))
field_short version kind (Identifier bytes) fits rest = omega (arith, fits.0)
field_short version kind (Number n) fits rest = lit< tt
field_short version kind (ShortNumber n) fits rest = lit< tt
field_short version kind (Moment t) fits rest = lit< tt
field_short version kind (Bytes bytes) fits rest = fits.0 rest

-- ---- the wanted attributes are lawful

none_of : (kind : ℕ) (kinds : List ℕ) (fields : List Field) → is_one_of kind kinds ≡ false → value_of kind (with_fields kinds fields) ≡ None
none_of kind [] fields e = refl
none_of kind (k ∷ kinds) [] e = refl
none_of kind (k ∷ kinds) (field ∷ fields) e = one (λ q. none_of kind kinds fields q) (k == kind) e
  where
    one : (is_one_of kind kinds ≡ false → value_of kind (with_fields kinds fields) ≡ None) → (b : Bool) → b || is_one_of kind kinds ≡ false → (if b then Some (field_bytes field) else value_of kind (with_fields kinds fields)) ≡ None
    one more true q = absurd (true≢false q)
    one more false q = more q

last_alone : (rest : Bool) (kinds : List ℕ) (fields : List Field) → not rest || is_no_list kinds ≡ true → rest ≡ true → with_fields kinds fields ≡ []
last_alone true [] fields e r = refl
last_alone true (kind ∷ kinds) fields e r = absurd (true≢false (sym e))
last_alone false kinds fields e r = absurd (true≢false (sym r))

are_lawful : (version : ℕ) (kinds : List ℕ) (fields : List Field) → are_kinds version kinds ≡ true → FieldsFit version kinds fields → AreAttributes version (with_fields kinds fields)
are_lawful version [] fields k fits = tt
are_lawful version (kind ∷ kinds) [] k fits = tt
are_lawful version (kind ∷ kinds) (field ∷ fields) k fits =
    let rest : Bool = not (takes_rest version kind) || is_no_list kinds in
    let a = and_parts (nat_lt 0 kind && nat_le kind (last_attribute version)) (not (is_one_of kind kinds) && (rest && are_kinds version kinds)) k in
    let b = and_parts (nat_lt 0 kind) (nat_le kind (last_attribute version)) a.0 in
    let c = and_parts (not (is_one_of kind kinds)) (rest && are_kinds version kinds) a.1 in
    let d = and_parts rest (are_kinds version kinds) c.1 in (
      record { known = (ltb-true 0 kind b.0, leb-true kind (last_attribute version) b.1); short = field_short version kind field fits.0; bytes = field_is_bytes version kind field fits.0 },
      none_of kind kinds fields (not-true (is_one_of kind kinds) c.0),
      last_alone (takes_rest version kind) kinds fields d.0,
      are_lawful version kinds fields d.1 fits.1,
    )

pub attributes_lawful : (version : ℕ) (c : Command) → IsKnown version (kind_of c) → FieldsFit version (row (kind_of c)).wanted (fields_of c) → AreAttributes version (attributes_of c)
unfolding attributes_of
attributes_lawful version c known fits = are_lawful version (row (kind_of c)).wanted (fields_of c) (wanted_lawful version (kind_of c) known) fits

-- ---- what version 1 can say has a short body in either version

-- The greatest length of a field's bytes.
abbrev pub room : Field → ℕ
room (Identifier bytes) = 16
room (Number n) = 8
room (ShortNumber n) = 4
room (Moment t) = 12
room (Bytes bytes) = 65_535

field_len : (kind : ℕ) (field : Field) → FieldFits 1 kind field → length (field_bytes field) ≤ room field
field_len kind (Identifier bytes) fits = omega (arith, fits.0)
field_len kind (Number n) fits = lit≤ tt
field_len kind (ShortNumber n) fits = lit≤ tt
field_len kind (Moment t) fits = lit≤ tt
field_len kind (Bytes bytes) fits = let short = fits.0 refl in omega (arith, short)

field_later : (version kind : ℕ) (field : Field) → FieldFits 1 kind field → FieldFits version kind field
field_later version kind (Identifier bytes) fits = fits
field_later version kind (Number n) fits = fits
field_later version kind (ShortNumber n) fits = fits
field_later version kind (Moment t) fits = fits
field_later version kind (Bytes bytes) fits = (λ e. fits.0 refl, fits.1)

fields_later : (version : ℕ) (kinds : List ℕ) (fields : List Field) → FieldsFit 1 kinds fields → FieldsFit version kinds fields
fields_later version [] [] fits = tt
fields_later version [] (field ∷ fields) fits = absurd fits
fields_later version (kind ∷ kinds) [] fits = absurd fits
fields_later version (kind ∷ kinds) (field ∷ fields) fits = (field_later version kind field fits.0, fields_later version kinds fields fits.1)

-- Where no value is that of DATA, version 1 can say the values that a version can.
pub first_fits : (version kind : ℕ) (field : Field) → takes_rest version kind ≡ false → FieldFits version kind field → FieldFits 1 kind field
first_fits version kind (Identifier bytes) own fits = fits
first_fits version kind (Number n) own fits = fits
first_fits version kind (ShortNumber n) own fits = fits
first_fits version kind (Moment t) own fits = fits
first_fits version kind (Bytes bytes) own fits = (λ e. fits.0 own, fits.1)

pub fields_first : (version : ℕ) (kinds : List ℕ) (fields : List Field) → is_one_of DATA kinds ≡ false → FieldsFit version kinds fields → FieldsFit 1 kinds fields
fields_first version [] [] none fits = tt
fields_first version [] (field ∷ fields) none fits = absurd fits
fields_first version (kind ∷ kinds) [] none fits = absurd fits
fields_first version (kind ∷ kinds) (field ∷ fields) none fits =
    let parts = or_parts (kind == DATA) (is_one_of DATA kinds) none in
    (first_fits version kind field (not_rest version kind parts.0) fits.0, fields_first version kinds fields parts.1 fits.1)

abbrev pub rooms : List Field → ℕ
rooms [] = 0
rooms (field ∷ fields) = (4 + room field) + rooms fields

pub attribute_len : (version : ℕ) (a : Attribute) → length (attribute_bytes version a) ≤ 4 + length a.bytes
attribute_len version a = one (takes_rest version a.kind) refl
  where
    one : (b : Bool) → takes_rest version a.kind ≡ b → length (attribute_bytes version a) ≤ 4 + length a.bytes
    one true e = let l = ap length (bytes_by version a true e) in omega (arith, l)
    one false e = let l = ap length (bytes_by version a false e) in omega (arith, l)

pub body_len : (version : ℕ) (kinds : List ℕ) (fields : List Field) → FieldsFit 1 kinds fields → length (body_of version (with_fields kinds fields)) ≤ rooms fields
unfolding body_of
body_len version [] fields fits = zero-le
body_len version (kind ∷ kinds) [] fits = zero-le
body_len version (kind ∷ kinds) (field ∷ fields) fits =
    let a : Attribute = record { kind = kind; bytes = field_bytes field } in
    omega (arith, length-append (attribute_bytes version a) (body_of version (with_fields kinds fields)), attribute_len version a, field_len kind field fits.0, body_len version kinds fields fits.1)

rooms_short : (c : Command) → rooms (fields_of c) ≤ greatest_body
rooms_short (Subvol uuid ctransid path) = lit≤ tt
rooms_short (Snapshot uuid ctransid path clone_uuid clone_ctransid) = lit≤ tt
rooms_short (MkFile path) = lit≤ tt
rooms_short (MkDir path) = lit≤ tt
rooms_short (MkNod mode rdev path) = lit≤ tt
rooms_short (MkFifo path) = lit≤ tt
rooms_short (MkSock path) = lit≤ tt
rooms_short (Symlink path path_link) = lit≤ tt
rooms_short (Rename path path_to) = lit≤ tt
rooms_short (Link path path_link) = lit≤ tt
rooms_short (Unlink path) = lit≤ tt
rooms_short (Rmdir path) = lit≤ tt
rooms_short (SetXattr name value path) = lit≤ tt
rooms_short (RemoveXattr name path) = lit≤ tt
rooms_short (Write path offset bytes) = lit≤ tt
rooms_short (Clone path offset clone_uuid clone_ctransid clone_path clone_offset clone_len) = lit≤ tt
rooms_short (Truncate size path) = lit≤ tt
rooms_short (Chmod mode path) = lit≤ tt
rooms_short (Chown uid gid path) = lit≤ tt
rooms_short (Utimes mtime atime path) = lit≤ tt
rooms_short End = lit≤ tt
rooms_short (UpdateExtent size path offset) = lit≤ tt
rooms_short (Fallocate size path offset mode) = lit≤ tt
rooms_short (FileAttr path flags) = lit≤ tt

-- What version 1 can say of a command that a version has, that version can say.
pub spellable_first : (version : ℕ) (c : Command) → IsKnown version (kind_of c) → FieldsFit 1 (row (kind_of c)).wanted (fields_of c) → IsSpellable version c
unfolding attributes_of
spellable_first version c known fits = record {
  known = known;
  values = fields_later version (row (kind_of c)).wanted (fields_of c) fits;
  short = le_trans (body_len version (row (kind_of c)).wanted (fields_of c) fits) (rooms_short c);
}

pub second_says_more : SecondSaysMore
second_says_more c s = spellable_first 2 c (known_second (kind_of c)) s.values

-- ---- bodies

attribute_is_bytes : (version : ℕ) (a : Attribute) → IsBytes a.bytes → IsBytes (attribute_bytes version a)
attribute_is_bytes version a are = one (takes_rest version a.kind) refl
  where
    one : (b : Bool) → takes_rest version a.kind ≡ b → IsBytes (attribute_bytes version a)
    one true e = subst IsBytes (sym (bytes_by version a true e)) (bytes_append (to_le_bytes w16 a.kind) a.bytes (le2_bytes a.kind) are)
    one false e = subst IsBytes (sym (bytes_by version a false e))
        (bytes_append (to_le_bytes w16 a.kind) (to_le_bytes w16 (length a.bytes) ++ a.bytes) (le2_bytes a.kind) (bytes_append (to_le_bytes w16 (length a.bytes)) a.bytes (le2_bytes _) are))

pub body_is_bytes : (version : ℕ) (attributes : List Attribute) → AreAttributes version attributes → IsBytes (body_of version attributes)
unfolding body_of
body_is_bytes version [] are = tt
body_is_bytes version (a ∷ rest) are = bytes_append (attribute_bytes version a) (body_of version rest) (attribute_is_bytes version a are.0.bytes) (body_is_bytes version rest are.3)

pub checksum_small : (number : ℕ) (body : List ℕ) → IsBytes body → frame_checksum (length body) number body < 2 ^ 32
unfolding frame_checksum
checksum_small number body b =
    let last : List ℕ = to_le_bytes w32 0 ++ body in
    let middle : List ℕ = to_le_bytes w16 number ++ last in
    let whole : List ℕ = to_le_bytes w32 (length body) ++ middle in
    crc_of-below 0 whole (lit< tt) (bytes_at whole (bytes_append (to_le_bytes w32 (length body)) middle (le4_bytes _) (bytes_append (to_le_bytes w16 number) last (le2_bytes _) (bytes_append (to_le_bytes w32 0) body (le4_bytes 0) b))))

-- ---- the canonical spelling

-- The canonical spelling spells the command.
pub canonical_spells : CanonicalSpells
unfolding canonical
canonical_spells version c s = record {
  known = s.known;
  attributes = attributes_of c;
  lawful = attributes_lawful version c s.known s.values;
  frame = refl;
  short = s.short;
  wanted = wanted_there c;
  values = s.values;
}

-- Whatever spells a command is read as that command, whatever follows it.
pub spelled_read : SpelledIsRead
spelled_read version bytes rest c s =
    let body : List ℕ = body_of version s.attributes in
    let n : ℕ = (row (kind_of c)).number in
    record {
      frame = ap (λ (b : List ℕ). frame_at (b ++ rest)) s.frame ∙ frame_read_back body rest n (number_small (kind_of c)) s.short (checksum_small n body (body_is_bytes version s.attributes s.lawful));
      body = attributes_read_back version s.attributes s.lawful;
      command = command_read_back version c s.attributes s.known s.values s.wanted;
    }

-- So it is the item in front.
pub spelled_front : SpelledIsFront
unfolding front_of
spelled_front file version number offset bytes rest c s =
    let read = spelled_read version bytes rest c s in
    rw (read.frame, read.body, read.command) refl

-- ---- one reading

-- Bytes that spell a command spell no other.
pub spelled_once : FrameHasOneReading
spelled_once version bytes c d s t =
    let a = spelled_read version bytes [] c s in
    let b = spelled_read version bytes [] d t in
    let frames : record { number = (row (kind_of c)).number; body = body_of version s.attributes; rest = [] } ≡ record { number = (row (kind_of d)).number; body = body_of version t.attributes; rest = [] } =
    ok_same (sym a.frame ∙ b.frame) in
    let attributes : s.attributes ≡ t.attributes = ok_same (sym a.body ∙ ap (λ (f : Frame). attributes_at version f.body) frames ∙ b.body) in
    ok_same (sym a.command ∙ ap (λ (f : Frame). command_of version f.number s.attributes) frames ∙ ap (command_of version (row (kind_of d)).number) attributes ∙ b.command)

-- ---- what is spelled in any way can be spelled canonically

-- The attributes without the first of a number.
abbrev removed : ℕ → List Attribute → List Attribute
removed kind [] = []
removed kind (a ∷ rest) = if a.kind == kind then rest else a ∷ removed kind rest

removed_len : (version : ℕ) (kind : ℕ) (bytes : List ℕ) (attributes : List Attribute) → value_of kind attributes ≡ Some bytes
    → length (attribute_bytes version (record { kind = kind; bytes = bytes })) + length (body_of version (removed kind attributes)) ≤ length (body_of version attributes)
unfolding body_of
removed_len version kind bytes [] e = cc
removed_len version kind bytes (a ∷ rest) e = one (λ f. removed_len version kind bytes rest f) (a.kind == kind) refl e
  where
    one : (value_of kind rest ≡ Some bytes → length (attribute_bytes version (record { kind = kind; bytes = bytes })) + length (body_of version (removed kind rest)) ≤ length (body_of version rest)) → (b : Bool) → (a.kind == kind) ≡ b → (if b then Some a.bytes else value_of kind rest) ≡ Some bytes
        → length (attribute_bytes version (record { kind = kind; bytes = bytes })) + length (body_of version (if b then rest else a ∷ removed kind rest)) ≤ length (body_of version (a ∷ rest))
    one more true q f =
        let same : a ≡ record { kind = kind; bytes = bytes } = λ i. record { kind = eqb-true a.kind kind q i; bytes = ap (λ (o : Option (List ℕ)). unwrap_or o []) f i } in
        let own = ap (λ (x : Attribute). length (attribute_bytes version x)) same in
        omega (arith, own, length-append (attribute_bytes version a) (body_of version rest))
    one more false q f = omega (arith, more f, length-append (attribute_bytes version a) (body_of version rest), length-append (attribute_bytes version a) (body_of version (removed kind rest)))

removed_keeps : (kind k : ℕ) (attributes : List Attribute) → (kind == k) ≡ false → value_of k (removed kind attributes) ≡ value_of k attributes
removed_keeps kind k [] other = refl
removed_keeps kind k (a ∷ rest) other = one (removed_keeps kind k rest other) (a.kind == kind) refl
  where
    one : value_of k (removed kind rest) ≡ value_of k rest → (b : Bool) → (a.kind == kind) ≡ b → value_of k (if b then rest else a ∷ removed kind rest) ≡ value_of k (a ∷ rest)
    one more true q = let e : (a.kind == k) ≡ false = ap (λ (n : ℕ). n == k) (eqb-true a.kind kind q) ∙ other in rw e refl
    one more false q = ap (λ (o : Option (List ℕ)). if a.kind == k then Some a.bytes else o) more

abbrev AreAmong : List Attribute → List Attribute → Type 0
AreAmong attributes wanted = AllByRecursion (λ (a : Attribute). value_of a.kind attributes ≡ Some a.bytes) wanted

still_among : (kind : ℕ) (wanted attributes : List Attribute) → value_of kind wanted ≡ None → AreAmong attributes wanted → AreAmong (removed kind attributes) wanted
still_among kind [] attributes none are = tt
still_among kind (w ∷ wanted) attributes none are = one (λ n. still_among kind wanted attributes n are.1) (w.kind == kind) refl none
  where
    one : (value_of kind wanted ≡ None → AreAmong (removed kind attributes) wanted) → (b : Bool) → (w.kind == kind) ≡ b → (if b then Some w.bytes else value_of kind wanted) ≡ None → AreAmong (removed kind attributes) (w ∷ wanted)
    one more true q n = cc
    one more false q n = (removed_keeps kind w.kind attributes (differ_back w.kind kind q) ∙ are.0, more n)

-- Wanted attributes that stand among others have no longer a body than these.
wanted_len : (version : ℕ) (wanted attributes : List Attribute) → AreAttributes version wanted → AreAmong attributes wanted → length (body_of version wanted) ≤ length (body_of version attributes)
unfolding body_of
wanted_len version [] attributes lawful are = zero-le
wanted_len version (w ∷ wanted) attributes lawful are =
    let more = wanted_len version wanted (removed w.kind attributes) lawful.3 (still_among w.kind wanted attributes lawful.1 are.1) in
    let own = removed_len version w.kind w.bytes attributes are.0 in
    omega (arith, more, own, length-append (attribute_bytes version w) (body_of version wanted))

pub spelled_spellable : SpelledIsSpellable
spelled_spellable version bytes c s = record {
  known = s.known;
  values = s.values;
  short = le_trans (wanted_len version (attributes_of c) s.attributes (attributes_lawful version c s.known s.values) s.wanted) s.short;
}
