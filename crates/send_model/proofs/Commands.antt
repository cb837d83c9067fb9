-- A command is read back from the attributes that it wants, in whatever order they stand and
-- whatever stands beside them.
use Rattle.std.specs.Prelude.{◌≡◌, ℕ, ◌^◌, ◌<◌, ◌==◌, ◌&&◌, Bool, true, false, List, [], ◌∷◌, length, Some, Ok, nat_lt}
use Rattle.std.specs.List.{AllByRecursion, list_all}
use Rattle.std.proofs.Common.{refl, ap, ◌∙◌, arith, lt-ltb, eq-eqb}
use Rattle.std.proofs.lemmas.Nat.{from_le_bytes-to_le_bytes_4, from_le_bytes-to_le_bytes_8}
use Rattle.send_model.specs.Attribute.{Form, AnIdentifier, ANumber, AShortNumber, AMoment, AnyBytes, form_of, Time, second, Field, Identifier, Number, ShortNumber, Moment, Bytes, field_bytes, FieldFits, FieldsFit}
use Rattle.send_model.specs.Command.{Kind, SUBVOL, SNAPSHOT, MKFILE, MKDIR, MKNOD, MKFIFO, MKSOCK, SYMLINK, RENAME, LINK, UNLINK, RMDIR, SET_XATTR, REMOVE_XATTR, WRITE, CLONE, TRUNCATE, CHMOD, CHOWN, UTIMES, END, UPDATE_EXTENT, FALLOCATE, FILEATTR, Command, Subvol, Snapshot, MkFile, MkDir, MkNod, MkFifo, MkSock, Symlink, Rename, Link, Unlink, Rmdir, SetXattr, RemoveXattr, Write, Clone, Truncate, Chmod, Chown, Utimes, End, UpdateExtent, Fallocate, FileAttr, row, is_encoded, kind_of_number, kind_of, fields_of, command_with, number_in, short_number_in, time_in}
use Rattle.send_model.specs.Spelling.{Attribute, value_of, with_fields, attributes_of, IsKnown}
use Rattle.send_model.specs.Reading.{form_fits, wanted_there, bytes_at, nanos_lawful, moment_lawful, command_of}

-- ---- the table

-- No command is ENCODED_WRITE.
pub not_encoded : (version : ℕ) (kind : Kind) → is_encoded version (row kind).number ≡ false
unfolding row
not_encoded version kind = ap (λ (b : Bool). (version == 2) && b) (other kind) ∙ never (version == 2)
  where
    never : (b : Bool) → b && false ≡ false
    never true = refl
    never false = refl

    other : (kind : Kind) → ((row kind).number == 25) ≡ false
    other SUBVOL = refl
    other SNAPSHOT = refl
    other MKFILE = refl
    other MKDIR = refl
    other MKNOD = refl
    other MKFIFO = refl
    other MKSOCK = refl
    other SYMLINK = refl
    other RENAME = refl
    other LINK = refl
    other UNLINK = refl
    other RMDIR = refl
    other SET_XATTR = refl
    other REMOVE_XATTR = refl
    other WRITE = refl
    other CLONE = refl
    other TRUNCATE = refl
    other CHMOD = refl
    other CHOWN = refl
    other UTIMES = refl
    other END = refl
    other UPDATE_EXTENT = refl
    other FALLOCATE = refl
    other FILEATTR = refl

-- The numbers of all kinds differ, so that version 2 has each under its number.
pub known_second : (kind : Kind) → IsKnown 2 kind
unfolding kind_of_number row
known_second SUBVOL = refl
known_second SNAPSHOT = refl
known_second MKFILE = refl
known_second MKDIR = refl
known_second MKNOD = refl
known_second MKFIFO = refl
known_second MKSOCK = refl
known_second SYMLINK = refl
known_second RENAME = refl
known_second LINK = refl
known_second UNLINK = refl
known_second RMDIR = refl
known_second SET_XATTR = refl
known_second REMOVE_XATTR = refl
known_second WRITE = refl
known_second CLONE = refl
known_second TRUNCATE = refl
known_second CHMOD = refl
known_second CHOWN = refl
known_second UTIMES = refl
known_second END = refl
known_second UPDATE_EXTENT = refl
known_second FALLOCATE = refl
known_second FILEATTR = refl

pub number_small : (kind : Kind) → (row kind).number < 2 ^ 16
unfolding row
number_small SUBVOL = omega arith
number_small SNAPSHOT = omega arith
number_small MKFILE = omega arith
number_small MKDIR = omega arith
number_small MKNOD = omega arith
number_small MKFIFO = omega arith
number_small MKSOCK = omega arith
number_small SYMLINK = omega arith
number_small RENAME = omega arith
number_small LINK = omega arith
number_small UNLINK = omega arith
number_small RMDIR = omega arith
number_small SET_XATTR = omega arith
number_small REMOVE_XATTR = omega arith
number_small WRITE = omega arith
number_small CLONE = omega arith
number_small TRUNCATE = omega arith
number_small CHMOD = omega arith
number_small CHOWN = omega arith
number_small UTIMES = omega arith
number_small END = omega arith
number_small UPDATE_EXTENT = omega arith
number_small FALLOCATE = omega arith
number_small FILEATTR = omega arith

abbrev form_of_field : Field → Form
form_of_field (Identifier bytes) = AnIdentifier
form_of_field (Number n) = ANumber
form_of_field (ShortNumber n) = AShortNumber
form_of_field (Moment t) = AMoment
form_of_field (Bytes bytes) = AnyBytes

-- As many fields as wanted attributes, each of its attribute's form.
abbrev FormsMatch : List ℕ → List Field → Type 0
FormsMatch [] [] = Unit {0}
FormsMatch [] (field ∷ fields) = ⊥
FormsMatch (kind ∷ kinds) [] = ⊥
FormsMatch (kind ∷ kinds) (field ∷ fields) = (form_of kind ≡ form_of_field field) × FormsMatch kinds fields

forms_match : (c : Command) → FormsMatch (row (kind_of c)).wanted (fields_of c)
unfolding row form_of
forms_match (Subvol uuid ctransid path) = (refl, (refl, (refl, tt)))
forms_match (Snapshot uuid ctransid path clone_uuid clone_ctransid) = (refl, (refl, (refl, (refl, (refl, tt)))))
forms_match (MkFile path) = (refl, tt)
forms_match (MkDir path) = (refl, tt)
forms_match (MkNod mode rdev path) = (refl, (refl, (refl, tt)))
forms_match (MkFifo path) = (refl, tt)
forms_match (MkSock path) = (refl, tt)
forms_match (Symlink path path_link) = (refl, (refl, tt))
forms_match (Rename path path_to) = (refl, (refl, tt))
forms_match (Link path path_link) = (refl, (refl, tt))
forms_match (Unlink path) = (refl, tt)
forms_match (Rmdir path) = (refl, tt)
forms_match (SetXattr name value path) = (refl, (refl, (refl, tt)))
forms_match (RemoveXattr name path) = (refl, (refl, tt))
forms_match (Write path offset bytes) = (refl, (refl, (refl, tt)))
forms_match (Clone path offset clone_uuid clone_ctransid clone_path clone_offset clone_len) = (refl, (refl, (refl, (refl, (refl, (refl, (refl, tt)))))))
forms_match (Truncate size path) = (refl, (refl, tt))
forms_match (Chmod mode path) = (refl, (refl, tt))
forms_match (Chown uid gid path) = (refl, (refl, (refl, tt)))
forms_match (Utimes mtime atime path) = (refl, (refl, (refl, tt)))
forms_match End = tt
forms_match (UpdateExtent size path offset) = (refl, (refl, (refl, tt)))
forms_match (Fallocate size path offset mode) = (refl, (refl, (refl, (refl, tt))))
forms_match (FileAttr path flags) = (refl, (refl, tt))

-- ---- values

-- The values of the wanted attributes are the fields' bytes.
abbrev pub At : (ℕ → List ℕ) → List ℕ → List Field → Type 0
At values [] fields = Unit {0}
At values (kind ∷ kinds) [] = Unit {0}
At values (kind ∷ kinds) (field ∷ fields) = (values kind ≡ field_bytes field) × At values kinds fields

number_back : (bytes : List ℕ) (n : ℕ) → bytes ≡ field_bytes (Number n) → n < 2 ^ 64 → number_in bytes ≡ n
number_back bytes n e h = ap number_in e ∙ from_le_bytes-to_le_bytes_8 n h

short_number_back : (bytes : List ℕ) (n : ℕ) → bytes ≡ field_bytes (ShortNumber n) → n < 2 ^ 32 → short_number_in bytes ≡ n
short_number_back bytes n e h = ap short_number_in e ∙ from_le_bytes-to_le_bytes_4 n h

time_back : (bytes : List ℕ) (t : Time) → bytes ≡ field_bytes (Moment t) → (t.secs < 2 ^ 64) × (t.nanos < second) → time_in bytes ≡ t
time_back bytes t e (s, n) = ap time_in e ∙ (λ i. record { secs = from_le_bytes-to_le_bytes_8 t.secs s i; nanos = from_le_bytes-to_le_bytes_4 t.nanos (omega (arith, n)) i })

command_back : (version : ℕ) (c : Command) (values : ℕ → List ℕ) → At values (row (kind_of c)).wanted (fields_of c) → FieldsFit version (row (kind_of c)).wanted (fields_of c) → command_with (kind_of c) values ≡ c
unfolding row
command_back version (Subvol uuid ctransid path) values h fits = λ i. Subvol (h.0 i) (number_back _ ctransid h.1.0 fits.1.0 i) (h.1.1.0 i)
command_back version (Snapshot uuid ctransid path clone_uuid clone_ctransid) values h fits = λ i. Snapshot (h.0 i) (number_back _ ctransid h.1.0 fits.1.0 i) (h.1.1.0 i) (h.1.1.1.0 i) (number_back _ clone_ctransid h.1.1.1.1.0 fits.1.1.1.1.0 i)
command_back version (MkFile path) values h fits = λ i. MkFile (h.0 i)
command_back version (MkDir path) values h fits = λ i. MkDir (h.0 i)
command_back version (MkNod mode rdev path) values h fits = λ i. MkNod (number_back _ mode h.0 fits.0 i) (number_back _ rdev h.1.0 fits.1.0 i) (h.1.1.0 i)
command_back version (MkFifo path) values h fits = λ i. MkFifo (h.0 i)
command_back version (MkSock path) values h fits = λ i. MkSock (h.0 i)
command_back version (Symlink path path_link) values h fits = λ i. Symlink (h.0 i) (h.1.0 i)
command_back version (Rename path path_to) values h fits = λ i. Rename (h.0 i) (h.1.0 i)
command_back version (Link path path_link) values h fits = λ i. Link (h.0 i) (h.1.0 i)
command_back version (Unlink path) values h fits = λ i. Unlink (h.0 i)
command_back version (Rmdir path) values h fits = λ i. Rmdir (h.0 i)
command_back version (SetXattr name value path) values h fits = λ i. SetXattr (h.0 i) (h.1.0 i) (h.1.1.0 i)
command_back version (RemoveXattr name path) values h fits = λ i. RemoveXattr (h.0 i) (h.1.0 i)
command_back version (Write path offset bytes) values h fits = λ i. Write (h.0 i) (number_back _ offset h.1.0 fits.1.0 i) (h.1.1.0 i)
command_back version (Clone path offset clone_uuid clone_ctransid clone_path clone_offset clone_len) values h fits = λ i. Clone (h.0 i) (number_back _ offset h.1.0 fits.1.0 i) (h.1.1.0 i) (number_back _ clone_ctransid h.1.1.1.0 fits.1.1.1.0 i) (h.1.1.1.1.0 i) (number_back _ clone_offset h.1.1.1.1.1.0 fits.1.1.1.1.1.0 i) (number_back _ clone_len h.1.1.1.1.1.1.0 fits.1.1.1.1.1.1.0 i)
command_back version (Truncate size path) values h fits = λ i. Truncate (number_back _ size h.0 fits.0 i) (h.1.0 i)
command_back version (Chmod mode path) values h fits = λ i. Chmod (number_back _ mode h.0 fits.0 i) (h.1.0 i)
command_back version (Chown uid gid path) values h fits = λ i. Chown (number_back _ uid h.0 fits.0 i) (number_back _ gid h.1.0 fits.1.0 i) (h.1.1.0 i)
command_back version (Utimes mtime atime path) values h fits = λ i. Utimes (time_back _ mtime h.0 fits.0 i) (time_back _ atime h.1.0 fits.1.0 i) (h.1.1.0 i)
command_back version End values h fits = refl
command_back version (UpdateExtent size path offset) values h fits = λ i. UpdateExtent (number_back _ size h.0 fits.0 i) (h.1.0 i) (number_back _ offset h.1.1.0 fits.1.1.0 i)
command_back version (Fallocate size path offset mode) values h fits = λ i. Fallocate (number_back _ size h.0 fits.0 i) (h.1.0 i) (number_back _ offset h.1.1.0 fits.1.1.0 i) (short_number_back _ mode h.1.1.1.0 fits.1.1.1.0 i)
command_back version (FileAttr path flags) values h fits = λ i. FileAttr (h.0 i) (number_back _ flags h.1.0 fits.1.0 i)

-- ---- the rules

abbrev Wanted : List Attribute → List ℕ → List Field → Type 0
Wanted attributes kinds fields = AllByRecursion (λ (a : Attribute). value_of a.kind attributes ≡ Some a.bytes) (with_fields kinds fields)

form_holds : (version kind : ℕ) (field : Field) → form_of kind ≡ form_of_field field → FieldFits version kind field → form_fits (form_of kind) (field_bytes field) ≡ true
form_holds version kind (Identifier bytes) e fits = rw e (eq-eqb (length bytes) 16 fits.0)
form_holds version kind (Number n) e fits = rw e refl
form_holds version kind (ShortNumber n) e fits = rw e refl
form_holds version kind (Moment t) e fits = rw e refl
form_holds version kind (Bytes bytes) e fits = rw e refl

wanted_holds : (version : ℕ) (attributes : List Attribute) (kinds : List ℕ) (fields : List Field) → FormsMatch kinds fields → FieldsFit version kinds fields → Wanted attributes kinds fields → wanted_there kinds attributes ≡ Ok tt
unfolding wanted_there
wanted_holds version attributes [] fields m fits w = refl
wanted_holds version attributes (kind ∷ kinds) [] m fits w = absurd m
wanted_holds version attributes (kind ∷ kinds) (field ∷ fields) m fits w = rw (w.0, form_holds version kind field m.0 fits.0) (wanted_holds version attributes kinds fields m.1 fits.1 w.1)

values_at : (attributes : List Attribute) (kinds : List ℕ) (fields : List Field) → Wanted attributes kinds fields → At (bytes_at attributes) kinds fields
values_at attributes [] fields w = tt
values_at attributes (kind ∷ kinds) [] w = tt
values_at attributes (kind ∷ kinds) (field ∷ fields) w = (rw w.0 refl, values_at attributes kinds fields w.1)

moment_holds : (version : ℕ) (attributes : List Attribute) (kind : ℕ) (field : Field) → form_of kind ≡ form_of_field field → FieldFits version kind field → bytes_at attributes kind ≡ field_bytes field → moment_lawful attributes kind ≡ true
moment_holds version attributes kind (Identifier bytes) e fits v = rw e refl
moment_holds version attributes kind (Number n) e fits v = rw e refl
moment_holds version attributes kind (ShortNumber n) e fits v = rw e refl
moment_holds version attributes kind (Bytes bytes) e fits v = rw e refl
moment_holds version attributes kind (Moment t) e fits v = ap (λ (form : Form). nanos_lawful form (bytes_at attributes kind)) e ∙ ap (λ (x : Time). nat_lt x.nanos second) (time_back (bytes_at attributes kind) t v fits) ∙ lt-ltb _ _ fits.1

moments_hold : (version : ℕ) (attributes : List Attribute) (kinds : List ℕ) (fields : List Field) → FormsMatch kinds fields → FieldsFit version kinds fields → At (bytes_at attributes) kinds fields → list_all (moment_lawful attributes) kinds ≡ true
moments_hold version attributes [] fields m fits at = refl
moments_hold version attributes (kind ∷ kinds) [] m fits at = absurd m
moments_hold version attributes (kind ∷ kinds) (field ∷ fields) m fits at = rw (moment_holds version attributes kind field m.0 fits.0 at.0) (moments_hold version attributes kinds fields m.1 fits.1 at.1)

-- A command is read from attributes that have its wanted ones.
pub command_read_back : (version : ℕ) (c : Command) (attributes : List Attribute) → IsKnown version (kind_of c) → FieldsFit version (row (kind_of c)).wanted (fields_of c)
    → AllByRecursion (λ (a : Attribute). value_of a.kind attributes ≡ Some a.bytes) (attributes_of c) → command_of version (row (kind_of c)).number attributes ≡ Ok c
unfolding command_of attributes_of
command_read_back version c attributes known fits w =
    let at = values_at attributes (row (kind_of c)).wanted (fields_of c) w in
    rw (not_encoded version (kind_of c), known, wanted_holds version attributes (row (kind_of c)).wanted (fields_of c) (forms_match c) fits w, moments_hold version attributes (row (kind_of c)).wanted (fields_of c) (forms_match c) fits at, command_back version c (bytes_at attributes) at fits) refl
