-- The name of a command is that of one kind, and its values are of its attributes' forms; so a line
-- has one reading.
use Rattle.std.specs.Prelude.{◌≡◌, ℕ, ◌^◌, ◌<◌, ◌≤◌, ◌==◌, Bool, true, false, nat_lt, List, [], ◌∷◌, ◌++◌, Option, Some, if◌then◌else◌}
use Rattle.std.specs.List.{find, list_all}
use Rattle.std.specs.Str.{bytes_eq}
use Rattle.std.specs.Option.{unwrap_or}
use Rattle.std.specs.Ordering.{nat_cmp}
use Rattle.std.specs.Fmt.{digits}
use Rattle.std.proofs.Common.{refl, sym, ap, ap₂, subst, ◌∙◌, arith, append_assoc}
use Rattle.std.proofs.lemmas.Bool.{ltb-true, and_parts}
use Rattle.std.proofs.lemmas.List.{append_cancel_left}
use Rattle.send_model.specs.Map.{value_at}
use Rattle.send_model.specs.Attribute.{form_of, Field, Identifier, Number, ShortNumber, Moment, Bytes, FieldFits, FieldsFit, IsBytes, MODE, DATA, XATTR_DATA, is_one_of}
use Rattle.send_model.specs.Command.{Kind, SUBVOL, SNAPSHOT, MKFILE, MKDIR, MKNOD, MKFIFO, MKSOCK, SYMLINK, RENAME, LINK, UNLINK, RMDIR, SET_XATTR, REMOVE_XATTR, WRITE, CLONE, TRUNCATE, CHMOD, CHOWN, UTIMES, END, UPDATE_EXTENT, FALLOCATE, FILEATTR, Command, Subvol, Snapshot, MkFile, MkDir, MkNod, MkFifo, MkSock, Symlink, Rename, Link, Unlink, Rmdir, SetXattr, RemoveXattr, Write, Clone, Truncate, Chmod, Chown, Utimes, End, UpdateExtent, Fallocate, FileAttr, row, kind_of, fields_of, all_kinds}
use Rattle.send_model.specs.Spelling.{IsSpellable, Spells, canonical, attributes_of, with_fields, body_of, frame_of}
use Rattle.send_model.specs.Printed.{hex_bytes, escaped, octal}
use Rattle.send_model.specs.Lines.{value_names, value_with, values_with}
use Rattle.send_model.proofs.Canonical.{canonical_spells, spelled_once}
use Rattle.text_model.specs.FieldForms.{form_of_field, AreFormed}
use Rattle.text_model.specs.Texts.{text_line}
use Rattle.text_model.proofs.Glyphs.{IsWord, parted, digits_word, digits_once, decimal_small, octal_small, time_word, time_once, hex_word, hex_bytes_once, uuid_word, uuid_once, escaped_word, escaped_once}

-- ---- kinds by their names

kind_named : List ℕ → Option Kind
kind_named name = find (λ (k : Kind). bytes_eq (row k).name name) all_kinds

named_back : (kind : Kind) → kind_named (row kind).name ≡ Some kind
unfolding row kind_named
named_back SUBVOL = refl
named_back SNAPSHOT = refl
named_back MKFILE = refl
named_back MKDIR = refl
named_back MKNOD = refl
named_back MKFIFO = refl
named_back MKSOCK = refl
named_back SYMLINK = refl
named_back RENAME = refl
named_back LINK = refl
named_back UNLINK = refl
named_back RMDIR = refl
named_back SET_XATTR = refl
named_back REMOVE_XATTR = refl
named_back WRITE = refl
named_back CLONE = refl
named_back TRUNCATE = refl
named_back CHMOD = refl
named_back CHOWN = refl
named_back UTIMES = refl
named_back END = refl
named_back UPDATE_EXTENT = refl
named_back FALLOCATE = refl
named_back FILEATTR = refl

some_same : {A : Type 0} {x y : A} → Some x ≡ Some y → x ≡ y
some_same {A} {x} {y} e = ap (λ (o : Option A). unwrap_or o x) e

pub names_once : (k l : Kind) → (row k).name ≡ (row l).name → k ≡ l
names_once k l e = some_same (sym (named_back k) ∙ ap kind_named e ∙ named_back l)

words_from : (bytes : List ℕ) → list_all (λ b. nat_lt 0x20 b) bytes ≡ true → IsWord bytes
words_from [] all = tt
words_from (b ∷ bytes) all = let parts = and_parts (nat_lt 0x20 b) (list_all (λ b. nat_lt 0x20 b) bytes) all in (ltb-true 0x20 b parts.0, words_from bytes parts.1)

pub name_word : (kind : Kind) → IsWord (row kind).name
unfolding row
name_word SUBVOL = words_from (row SUBVOL).name refl
name_word SNAPSHOT = words_from (row SNAPSHOT).name refl
name_word MKFILE = words_from (row MKFILE).name refl
name_word MKDIR = words_from (row MKDIR).name refl
name_word MKNOD = words_from (row MKNOD).name refl
name_word MKFIFO = words_from (row MKFIFO).name refl
name_word MKSOCK = words_from (row MKSOCK).name refl
name_word SYMLINK = words_from (row SYMLINK).name refl
name_word RENAME = words_from (row RENAME).name refl
name_word LINK = words_from (row LINK).name refl
name_word UNLINK = words_from (row UNLINK).name refl
name_word RMDIR = words_from (row RMDIR).name refl
name_word SET_XATTR = words_from (row SET_XATTR).name refl
name_word REMOVE_XATTR = words_from (row REMOVE_XATTR).name refl
name_word WRITE = words_from (row WRITE).name refl
name_word CLONE = words_from (row CLONE).name refl
name_word TRUNCATE = words_from (row TRUNCATE).name refl
name_word CHMOD = words_from (row CHMOD).name refl
name_word CHOWN = words_from (row CHOWN).name refl
name_word UTIMES = words_from (row UTIMES).name refl
name_word END = words_from (row END).name refl
name_word UPDATE_EXTENT = words_from (row UPDATE_EXTENT).name refl
name_word FALLOCATE = words_from (row FALLOCATE).name refl
name_word FILEATTR = words_from (row FILEATTR).name refl

-- ---- forms

pub formed : (c : Command) → AreFormed (row (kind_of c)).wanted (fields_of c)
unfolding row form_of
formed (Subvol uuid ctransid path) = (refl, (refl, (refl, tt)))
formed (Snapshot uuid ctransid path clone_uuid clone_ctransid) = (refl, (refl, (refl, (refl, (refl, tt)))))
formed (MkFile path) = (refl, tt)
formed (MkDir path) = (refl, tt)
formed (MkNod mode rdev path) = (refl, (refl, (refl, tt)))
formed (MkFifo path) = (refl, tt)
formed (MkSock path) = (refl, tt)
formed (Symlink path path_link) = (refl, (refl, tt))
formed (Rename path path_to) = (refl, (refl, tt))
formed (Link path path_link) = (refl, (refl, tt))
formed (Unlink path) = (refl, tt)
formed (Rmdir path) = (refl, tt)
formed (SetXattr name value path) = (refl, (refl, (refl, tt)))
formed (RemoveXattr name path) = (refl, (refl, tt))
formed (Write path offset bytes) = (refl, (refl, (refl, tt)))
formed (Clone path offset clone_uuid clone_ctransid clone_path clone_offset clone_len) = (refl, (refl, (refl, (refl, (refl, (refl, (refl, tt)))))))
formed (Truncate size path) = (refl, (refl, tt))
formed (Chmod mode path) = (refl, (refl, tt))
formed (Chown uid gid path) = (refl, (refl, (refl, tt)))
formed (Utimes mtime atime path) = (refl, (refl, (refl, tt)))
formed End = tt
formed (UpdateExtent size path offset) = (refl, (refl, (refl, tt)))
formed (Fallocate size path offset mode) = (refl, (refl, (refl, (refl, tt))))
formed (FileAttr path flags) = (refl, (refl, tt))

-- ---- values

-- A value's text.
abbrev pub text : ℕ → Field → List ℕ
text kind field = value_with hex_bytes kind field

number_word : (mode : Bool) (n : ℕ) → n < 2 ^ 64 → IsWord (if mode then octal n else digits 10 false n)
number_word true n small = digits_word 8 n (omega arith) (omega arith) (octal_small n small)
number_word false n small = digits_word 10 n (omega arith) (omega arith) (decimal_small n small)

bytes_word : (contents : Bool) (bytes : List ℕ) → IsWord (if contents then hex_bytes bytes else escaped bytes)
bytes_word true bytes = hex_word bytes
bytes_word false bytes = escaped_word bytes

pub value_word : (version kind : ℕ) (field : Field) → FieldFits version kind field → IsWord (text kind field)
value_word version kind (Identifier bytes) fits = uuid_word bytes
value_word version kind (Number n) fits = number_word (kind == MODE) n fits
value_word version kind (ShortNumber n) fits = digits_word 10 n (omega arith) (omega arith) (decimal_small n (omega (arith, fits)))
value_word version kind (Moment t) fits = time_word t fits.0 fits.1
value_word version kind (Bytes bytes) fits = bytes_word (is_one_of kind (XATTR_DATA ∷ DATA ∷ [])) bytes

number_once : (mode : Bool) (n m : ℕ) → n < 2 ^ 64 → m < 2 ^ 64 → (if mode then octal n else digits 10 false n) ≡ (if mode then octal m else digits 10 false m) → n ≡ m
number_once true n m small other e = digits_once 8 n m (omega arith) (omega arith) (octal_small n small) (octal_small m other) e
number_once false n m small other e = digits_once 10 n m (omega arith) (omega arith) (decimal_small n small) (decimal_small m other) e

bytes_once : (contents : Bool) (a b : List ℕ) → IsBytes a → IsBytes b → (if contents then hex_bytes a else escaped a) ≡ (if contents then hex_bytes b else escaped b) → a ≡ b
bytes_once true a b p q e = hex_bytes_once a b p q e
bytes_once false a b p q e = escaped_once a b p q e

-- A text is that of one value of a form.
pub value_once : (version kind : ℕ) (f g : Field) → form_of_field f ≡ form_of_field g → FieldFits version kind f → FieldFits version kind g → text kind f ≡ text kind g → f ≡ g
value_once version kind (Identifier a) (Identifier b) same p q e = ap Identifier (uuid_once a b p.0 q.0 p.1 q.1 e)
value_once version kind (Identifier a) (Number m) same p q e = absurd cc
value_once version kind (Identifier a) (ShortNumber m) same p q e = absurd cc
value_once version kind (Identifier a) (Moment u) same p q e = absurd cc
value_once version kind (Identifier a) (Bytes b) same p q e = absurd cc
value_once version kind (Number n) (Identifier b) same p q e = absurd cc
value_once version kind (Number n) (Number m) same p q e = ap Number (number_once (kind == MODE) n m p q e)
value_once version kind (Number n) (ShortNumber m) same p q e = absurd cc
value_once version kind (Number n) (Moment u) same p q e = absurd cc
value_once version kind (Number n) (Bytes b) same p q e = absurd cc
value_once version kind (ShortNumber n) (Identifier b) same p q e = absurd cc
value_once version kind (ShortNumber n) (Number m) same p q e = absurd cc
value_once version kind (ShortNumber n) (ShortNumber m) same p q e = ap ShortNumber (digits_once 10 n m (omega arith) (omega arith) (decimal_small n (omega (arith, p))) (decimal_small m (omega (arith, q))) e)
value_once version kind (ShortNumber n) (Moment u) same p q e = absurd cc
value_once version kind (ShortNumber n) (Bytes b) same p q e = absurd cc
value_once version kind (Moment t) (Identifier b) same p q e = absurd cc
value_once version kind (Moment t) (Number m) same p q e = absurd cc
value_once version kind (Moment t) (ShortNumber m) same p q e = absurd cc
value_once version kind (Moment t) (Moment u) same p q e = ap Moment (time_once t u p.0 p.1 q.0 q.1 e)
value_once version kind (Moment t) (Bytes b) same p q e = absurd cc
value_once version kind (Bytes a) (Identifier b) same p q e = absurd cc
value_once version kind (Bytes a) (Number m) same p q e = absurd cc
value_once version kind (Bytes a) (ShortNumber m) same p q e = absurd cc
value_once version kind (Bytes a) (Moment u) same p q e = absurd cc
value_once version kind (Bytes a) (Bytes b) same p q e = ap Bytes (bytes_once (is_one_of kind (XATTR_DATA ∷ DATA ∷ [])) a b p.1 q.1 e)

-- ---- values in a line

-- What stands in front of a value.
abbrev pub lead : ℕ → List ℕ
lead kind = 0x20 ∷ unwrap_or (value_at nat_cmp kind value_names) [] ++ 0x3d ∷ []

-- The values and the end of the line.
abbrev pub tail : List ℕ → List Field → List ℕ
tail kinds fields = values_with hex_bytes kinds fields ++ 0x0a ∷ []

pub first_value : (kind : ℕ) (kinds : List ℕ) (field : Field) (fields : List Field) → tail (kind ∷ kinds) (field ∷ fields) ≡ lead kind ++ (text kind field ++ tail kinds fields)
first_value kind kinds field fields =
    let name : List ℕ = unwrap_or (value_at nat_cmp kind value_names) [] in
    let value : List ℕ = text kind field in
    let rest : List ℕ = values_with hex_bytes kinds fields in
    ap (λ (l : List ℕ). 0x20 ∷ l)
    (append_assoc (name ++ 0x3d ∷ value) rest (0x0a ∷ [])
    ∙ append_assoc name (0x3d ∷ value) (rest ++ 0x0a ∷ [])
    ∙ sym (append_assoc name (0x3d ∷ []) (value ++ (rest ++ 0x0a ∷ []))))

-- The end of the values begins with a space or a newline.
pub record IsEnd (bytes : List ℕ) : Type 0 where
  pub first : ℕ
  pub rest : List ℕ
  pub low : first ≤ 0x20
  pub is : bytes ≡ first ∷ rest

pub tail_end : (kinds : List ℕ) (fields : List Field) → IsEnd (tail kinds fields)
tail_end (kind ∷ kinds) (field ∷ fields) = record { first = 0x20; rest = _; low = omega arith; is = refl }
tail_end [] [] = record { first = 0x0a; rest = []; low = omega arith; is = refl }
tail_end [] (field ∷ fields) = record { first = 0x0a; rest = []; low = omega arith; is = refl }
tail_end (kind ∷ kinds) [] = record { first = 0x0a; rest = []; low = omega arith; is = refl }

-- Words with such ends are parted in one way.
pub ends_parted : (a b x y : List ℕ) → IsWord a → IsWord b → IsEnd x → IsEnd y → a ++ x ≡ b ++ y → (a ≡ b) × (x ≡ y)
ends_parted a b x y p q i j e =
    let parts = parted a b i.rest j.rest i.first j.first p q i.low j.low (ap (λ (l : List ℕ). a ++ l) (sym i.is) ∙ e ∙ ap (λ (l : List ℕ). b ++ l) j.is) in
    (parts.0, i.is ∙ parts.1 ∙ sym j.is)

pub values_once : (version : ℕ) (kinds : List ℕ) (fs gs : List Field) → AreFormed kinds fs → AreFormed kinds gs → FieldsFit version kinds fs → FieldsFit version kinds gs
    → tail kinds fs ≡ tail kinds gs → fs ≡ gs
values_once version [] [] [] i j p q e = refl
values_once version [] [] (g ∷ gs) i j p q e = absurd j
values_once version [] (f ∷ fs) gs i j p q e = absurd i
values_once version (k ∷ ks) [] gs i j p q e = absurd i
values_once version (k ∷ ks) (f ∷ fs) [] i j p q e = absurd j
values_once version (k ∷ ks) (f ∷ fs) (g ∷ gs) i j p q e =
    let same : lead k ++ (text k f ++ tail ks fs) ≡ lead k ++ (text k g ++ tail ks gs) = sym (first_value k ks f fs) ∙ e ∙ first_value k ks g gs in
    let parts = ends_parted (text k f) (text k g) (tail ks fs) (tail ks gs) (value_word version k f p.0) (value_word version k g q.0) (tail_end ks fs) (tail_end ks gs) (append_cancel_left (lead k) (text k f ++ tail ks fs) (text k g ++ tail ks gs) same) in
    ap₂ (λ (x : Field) (l : List Field). x ∷ l) (value_once version k f g (sym i.0 ∙ j.0) p.0 q.0 parts.0) (values_once version ks fs gs i.1 j.1 p.1 q.1 parts.1)

-- ---- commands

-- A command's line is its name and what follows.
pub line_is : (c : Command) → text_line c ≡ (row (kind_of c)).name ++ tail (row (kind_of c)).wanted (fields_of c)
unfolding text_line
line_is c = append_assoc (row (kind_of c)).name (values_with hex_bytes (row (kind_of c)).wanted (fields_of c)) (0x0a ∷ [])

-- A command is its kind and its values.
pub command_once : (version : ℕ) (c d : Command) → IsSpellable version c → IsSpellable version d → kind_of c ≡ kind_of d → fields_of c ≡ fields_of d → c ≡ d
unfolding canonical attributes_of
command_once version c d s t kinds fields =
    spelled_once version (canonical version d) c d
    (subst (λ (l : List ℕ). Spells version l c) (ap₂ (λ (k : Kind) (fs : List Field). frame_of (row k).number (body_of version (with_fields (row k).wanted fs))) kinds fields) (canonical_spells version c s))
    (canonical_spells version d t)

pub kinds_same : (c d : Command) → text_line c ≡ text_line d → (kind_of c ≡ kind_of d) × (tail (row (kind_of c)).wanted (fields_of c) ≡ tail (row (kind_of d)).wanted (fields_of d))
kinds_same c d e =
    let parts = ends_parted (row (kind_of c)).name (row (kind_of d)).name (tail (row (kind_of c)).wanted (fields_of c)) (tail (row (kind_of d)).wanted (fields_of d))
    (name_word (kind_of c)) (name_word (kind_of d)) (tail_end (row (kind_of c)).wanted (fields_of c)) (tail_end (row (kind_of d)).wanted (fields_of d)) (sym (line_is c) ∙ e ∙ line_is d) in
    (names_once (kind_of c) (kind_of d) parts.0, parts.1)

-- A line is that of one command of a version.
pub line_once : (version : ℕ) (c d : Command) → IsSpellable version c → IsSpellable version d → text_line c ≡ text_line d → c ≡ d
line_once version c d s t e =
    let same = kinds_same c d e in
    let back : (row (kind_of d)).wanted ≡ (row (kind_of c)).wanted = ap (λ (k : Kind). (row k).wanted) (sym same.0) in
    let fields : fields_of c ≡ fields_of d = values_once version (row (kind_of c)).wanted (fields_of c) (fields_of d) (formed c)
    (subst (λ (ks : List ℕ). AreFormed ks (fields_of d)) back (formed d)) s.values (subst (λ (ks : List ℕ). FieldsFit version ks (fields_of d)) back t.values)
    (same.1 ∙ ap (λ (ks : List ℕ). tail ks (fields_of d)) back) in
    command_once version c d s t same.0 fields
