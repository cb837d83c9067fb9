-- What is read can be spelled: its numbers, times and lengths are those that the format can say.
use Rattle.std.specs.Prelude.{◌≡◌, ℕ, zero, suc, ◌^◌, ◌<◌, Bool, true, false, ◌&&◌, ◌==◌, List, [], ◌∷◌, length, take, drop, Option, None, Some, Result, Ok, Err, if◌then◌else◌}
use Rattle.std.specs.List.{AllByRecursion, list_all}
use Rattle.std.specs.Option.{unwrap_or}
use Rattle.std.specs.Int.{w16, w32, w64, from_le_bytes}
use Rattle.std.proofs.Common.{refl, sym, ap, subst, ◌∙◌, arith, eqb-true, ltb-true}
use Rattle.send_model.specs.Refusal.{Refusal, MissingAttribute, BadAttribute}
use Rattle.send_model.specs.Chain.{◌>>◌, require, found}
use Rattle.send_model.specs.Attribute.{AnIdentifier, AMoment, form_of, Identifier, Number, ShortNumber, Moment, Bytes, FieldFits, FieldsFit, HasRoom, IsBytes}
use Rattle.send_model.specs.Command.{Kind, SUBVOL, SNAPSHOT, MKFILE, MKDIR, MKNOD, MKFIFO, MKSOCK, SYMLINK, RENAME, LINK, UNLINK, RMDIR, SET_XATTR, REMOVE_XATTR, WRITE, CLONE, TRUNCATE, CHMOD, CHOWN, UTIMES, END, UPDATE_EXTENT, FALLOCATE, FILEATTR, row, kind_of, fields_of, command_with, number_in, short_number_in, time_in}
use Rattle.send_model.specs.Spelling.{Attribute, value_of, AreAttributes}
use Rattle.send_model.specs.Reading.{form_fits, wanted_there, bytes_at, nanos_lawful, moment_lawful}
use Rattle.send_model.proofs.Canonical.{bytes_at as byte_at}
use Rattle.send_model.proofs.Fuel.{required, bound, ok_same}

-- ---- bytes

pub bytes_take : (n : ℕ) (bytes : List ℕ) → IsBytes bytes → IsBytes (take n bytes)
bytes_take zero bytes b = tt
bytes_take (suc n) [] b = tt
bytes_take (suc n) (x ∷ bytes) b = (b.0, bytes_take n bytes b.1)

pub bytes_drop : (n : ℕ) (bytes : List ℕ) → IsBytes bytes → IsBytes (drop n bytes)
bytes_drop zero bytes b = b
bytes_drop (suc n) [] b = tt
bytes_drop (suc n) (x ∷ bytes) b = bytes_drop n bytes b.1

pub small16 : (bytes : List ℕ) → IsBytes bytes → from_le_bytes w16 bytes < 2 ^ 16
small16 bytes b = let a0 = byte_at bytes b 0 in let a1 = byte_at bytes b 1 in omega (arith, a0, a1)

small32 : (bytes : List ℕ) → IsBytes bytes → from_le_bytes w32 bytes < 2 ^ 32
small32 bytes b =
    let a0 = byte_at bytes b 0 in let a1 = byte_at bytes b 1 in let a2 = byte_at bytes b 2 in let a3 = byte_at bytes b 3 in
    omega (arith, a0, a1, a2, a3)

pub small64 : (bytes : List ℕ) → IsBytes bytes → from_le_bytes w64 bytes < 2 ^ 64
small64 bytes b =
    let a0 = byte_at bytes b 0 in let a1 = byte_at bytes b 1 in let a2 = byte_at bytes b 2 in let a3 = byte_at bytes b 3 in
    let a4 = byte_at bytes b 4 in let a5 = byte_at bytes b 5 in let a6 = byte_at bytes b 6 in let a7 = byte_at bytes b 7 in
    omega (arith, a0, a1, a2, a3, a4, a5, a6, a7)

-- ---- attributes

-- The bytes of an attribute of a number that was read.
abbrev pub IsShort : ℕ → ℕ → List ℕ → Type 0
IsShort version kind bytes = HasRoom version kind (length bytes) × IsBytes bytes

abbrev pub AreShort : ℕ → List Attribute → Type 0
AreShort version attributes = AllByRecursion (λ (a : Attribute). IsShort version a.kind a.bytes) attributes

pub are_short : (version : ℕ) (attributes : List Attribute) → AreAttributes version attributes → AreShort version attributes
are_short version [] are = tt
are_short version (a ∷ rest) are = ((are.0.short, are.0.bytes), are_short version rest are.3)

pub if_ok : {A : Type 0} (b : Bool) (x : Result A Refusal) (refusal : Refusal) (y : A) → (if b then x else Err refusal) ≡ Ok y → x ≡ Ok y
if_ok true x refusal y e = e
if_ok false x refusal y e = cc

-- ---- the wanted attributes

some_same : {x y : List ℕ} → Some x ≡ Some y → x ≡ y
some_same {x = x} q = ap (λ o. unwrap_or o x) q

found_on : (version k kind : ℕ) (b : Bool) (own bytes : List ℕ) (rest : Option (List ℕ)) → (k == kind) ≡ b → IsShort version k own → (rest ≡ Some bytes → IsShort version kind bytes) → (if b then Some own else rest) ≡ Some bytes → IsShort version kind bytes
found_on version k kind true own bytes rest same short more q = subst (IsShort version kind) (some_same q) (subst (λ (n : ℕ). IsShort version n own) (eqb-true k kind same) short)
found_on version k kind false own bytes rest same short more q = more q

found_short : (version : ℕ) (attributes : List Attribute) (kind : ℕ) (bytes : List ℕ) → AreShort version attributes → value_of kind attributes ≡ Some bytes → IsShort version kind bytes
found_short version [] kind bytes are e = cc
found_short version (a ∷ rest) kind bytes are e = found_on version a.kind kind (a.kind == kind) a.bytes bytes (value_of kind rest) refl are.0 (λ q. found_short version rest kind bytes are.1 q) e

-- An attribute that is wanted has bytes of its form.
pub record Good (version : ℕ) (attributes : List Attribute) (kind : ℕ) : Type 0 where
  pub short : IsShort version kind (bytes_at attributes kind)
  pub fits : form_fits (form_of kind) (bytes_at attributes kind) ≡ true

abbrev pub AreGood : ℕ → List Attribute → List ℕ → Type 0
AreGood version attributes kinds = AllByRecursion (λ kind. Good version attributes kind) kinds

good_one : (version : ℕ) (attributes : List Attribute) (kind : ℕ) (bytes : List ℕ) → AreShort version attributes → value_of kind attributes ≡ Some bytes → form_fits (form_of kind) bytes ≡ true → Good version attributes kind
good_one version attributes kind bytes are v f =
    let at : bytes_at attributes kind ≡ bytes = ap (λ o. unwrap_or o []) v in
    record { short = subst (IsShort version kind) (sym at) (found_short version attributes kind bytes are v); fits = ap (form_fits (form_of kind)) at ∙ f }

pub found_is : {A : Type 0} (o : Option A) (refusal : Refusal) (x : A) → found o refusal ≡ Ok x → o ≡ Some x
found_is None refusal x e = cc
found_is (Some y) refusal x e = ap Some (ok_same e)

pub good : (version : ℕ) (attributes : List Attribute) (kinds : List ℕ) → AreShort version attributes → wanted_there kinds attributes ≡ Ok tt → AreGood version attributes kinds
unfolding wanted_there
good version attributes [] are e = tt
good version attributes (kind ∷ kinds) are e =
    let a = bound (found (value_of kind attributes) (MissingAttribute kind)) (λ bytes. require (form_fits (form_of kind) bytes) (BadAttribute kind) >> wanted_there kinds attributes) tt e in
    let b = required (form_fits (form_of kind) a.0) (BadAttribute kind) (wanted_there kinds attributes) tt a.2 in
    (good_one version attributes kind a.0 are (found_is _ _ a.0 a.1) b.0, good version attributes kinds are b.1)

identifier_fits : (version : ℕ) (attributes : List Attribute) (kind : ℕ) → form_of kind ≡ AnIdentifier → Good version attributes kind → FieldFits version kind (Identifier (bytes_at attributes kind))
identifier_fits version attributes kind f g = (eqb-true (length (bytes_at attributes kind)) 16 (ap (λ form. form_fits form (bytes_at attributes kind)) (sym f) ∙ g.fits), g.short.1)

number_fits : (version : ℕ) (attributes : List Attribute) (kind : ℕ) → Good version attributes kind → FieldFits version kind (Number (number_in (bytes_at attributes kind)))
number_fits version attributes kind g = small64 (bytes_at attributes kind) g.short.1

short_number_fits : (version : ℕ) (attributes : List Attribute) (kind : ℕ) → Good version attributes kind → FieldFits version kind (ShortNumber (short_number_in (bytes_at attributes kind)))
short_number_fits version attributes kind g = small32 (bytes_at attributes kind) g.short.1

text_fits : (version : ℕ) (attributes : List Attribute) (kind : ℕ) → Good version attributes kind → FieldFits version kind (Bytes (bytes_at attributes kind))
text_fits version attributes kind g = g.short

moment_fits : (version : ℕ) (attributes : List Attribute) (kind : ℕ) → form_of kind ≡ AMoment → Good version attributes kind → moment_lawful attributes kind ≡ true → FieldFits version kind (Moment (time_in (bytes_at attributes kind)))
moment_fits version attributes kind f g lawful = (small64 (take 8 (bytes_at attributes kind)) (bytes_take 8 (bytes_at attributes kind) g.short.1), ltb-true _ _ (ap (λ form. nanos_lawful form (bytes_at attributes kind)) (sym f) ∙ lawful))

pub and_both : (a b : Bool) → a && b ≡ true → (a ≡ true) × (b ≡ true)
and_both true b e = (refl, e)
and_both false b e = cc

pub all_fit : (version : ℕ) (attributes : List Attribute) (kind : Kind) → AreGood version attributes (row kind).wanted → list_all (moment_lawful attributes) (row kind).wanted ≡ true → FieldsFit version (row (kind_of (command_with kind (bytes_at attributes)))).wanted (fields_of (command_with kind (bytes_at attributes)))
unfolding row form_of
all_fit version attributes SUBVOL g l = (identifier_fits version attributes _ refl g.0, (number_fits version attributes _ g.1.0, (text_fits version attributes _ g.1.1.0, tt)))
all_fit version attributes SNAPSHOT g l = (identifier_fits version attributes _ refl g.0, (number_fits version attributes _ g.1.0, (text_fits version attributes _ g.1.1.0, (identifier_fits version attributes _ refl g.1.1.1.0, (number_fits version attributes _ g.1.1.1.1.0, tt)))))
all_fit version attributes MKFILE g l = (text_fits version attributes _ g.0, tt)
all_fit version attributes MKDIR g l = (text_fits version attributes _ g.0, tt)
all_fit version attributes MKNOD g l = (number_fits version attributes _ g.0, (number_fits version attributes _ g.1.0, (text_fits version attributes _ g.1.1.0, tt)))
all_fit version attributes MKFIFO g l = (text_fits version attributes _ g.0, tt)
all_fit version attributes MKSOCK g l = (text_fits version attributes _ g.0, tt)
all_fit version attributes SYMLINK g l = (text_fits version attributes _ g.0, (text_fits version attributes _ g.1.0, tt))
all_fit version attributes RENAME g l = (text_fits version attributes _ g.0, (text_fits version attributes _ g.1.0, tt))
all_fit version attributes LINK g l = (text_fits version attributes _ g.0, (text_fits version attributes _ g.1.0, tt))
all_fit version attributes UNLINK g l = (text_fits version attributes _ g.0, tt)
all_fit version attributes RMDIR g l = (text_fits version attributes _ g.0, tt)
all_fit version attributes SET_XATTR g l = (text_fits version attributes _ g.0, (text_fits version attributes _ g.1.0, (text_fits version attributes _ g.1.1.0, tt)))
all_fit version attributes REMOVE_XATTR g l = (text_fits version attributes _ g.0, (text_fits version attributes _ g.1.0, tt))
all_fit version attributes WRITE g l = (text_fits version attributes _ g.0, (number_fits version attributes _ g.1.0, (text_fits version attributes _ g.1.1.0, tt)))
all_fit version attributes CLONE g l = (text_fits version attributes _ g.0, (number_fits version attributes _ g.1.0, (identifier_fits version attributes _ refl g.1.1.0, (number_fits version attributes _ g.1.1.1.0, (text_fits version attributes _ g.1.1.1.1.0, (number_fits version attributes _ g.1.1.1.1.1.0, (number_fits version attributes _ g.1.1.1.1.1.1.0, tt)))))))
all_fit version attributes TRUNCATE g l = (number_fits version attributes _ g.0, (text_fits version attributes _ g.1.0, tt))
all_fit version attributes CHMOD g l = (number_fits version attributes _ g.0, (text_fits version attributes _ g.1.0, tt))
all_fit version attributes CHOWN g l = (number_fits version attributes _ g.0, (number_fits version attributes _ g.1.0, (text_fits version attributes _ g.1.1.0, tt)))
all_fit version attributes UTIMES g l = (moment_fits version attributes _ refl g.0 (and_both _ _ l).0, (moment_fits version attributes _ refl g.1.0 (and_both _ _ (and_both _ _ l).1).0, (text_fits version attributes _ g.1.1.0, tt)))
all_fit version attributes END g l = tt
all_fit version attributes UPDATE_EXTENT g l = (number_fits version attributes _ g.0, (text_fits version attributes _ g.1.0, (number_fits version attributes _ g.1.1.0, tt)))
all_fit version attributes FALLOCATE g l = (number_fits version attributes _ g.0, (text_fits version attributes _ g.1.0, (number_fits version attributes _ g.1.1.0, (short_number_fits version attributes _ g.1.1.1.0, tt))))
all_fit version attributes FILEATTR g l = (text_fits version attributes _ g.0, (number_fits version attributes _ g.1.0, tt))
