-- Commands by their lines: a kind and values of its attributes make a command, and a line without
-- one is no command's.
use Rattle.std.specs.Prelude.{◌≡◌, ℕ, zero, suc, ◌+◌, ◌-◌, ◌<◌, ◌≤◌, Bool, true, false, nat_lt, List, [], ◌∷◌, ◌++◌, length, take, drop, None}
use Rattle.std.proofs.Common.{refl, sym, ap, ap₂, subst, ◌∙◌, arith, length-append, get_or}
use Rattle.std.proofs.Math.Seq.{take-append_seam, drop-append_seam}
use Rattle.std.proofs.lemmas.Bool.{ltb-true, ltb-false}
use Rattle.std.proofs.lemmas.List.{append_cancel_right, get_or_append_left, get_or-append_right, take-append-drop}
use Rattle.send_model.specs.Attribute.{Form, AnIdentifier, ANumber, AShortNumber, AMoment, AnyBytes, form_of, Field, Identifier, Number, ShortNumber, Moment, Bytes, Time, FieldsFit, ATIME, CLONE_CTRANSID, CLONE_LEN, CLONE_OFFSET, CLONE_PATH, CLONE_UUID, CTRANSID, DATA, FALLOCATE_MODE, FILE_FLAGS, FILE_OFFSET, GID, MODE, MTIME, PATH, PATH_LINK, PATH_TO, RDEV, SIZE, UID, UUID, XATTR_DATA, XATTR_NAME}
use Rattle.send_model.specs.Command.{Kind, SUBVOL, SNAPSHOT, MKFILE, MKDIR, MKNOD, MKFIFO, MKSOCK, SYMLINK, RENAME, LINK, UNLINK, RMDIR, SET_XATTR, REMOVE_XATTR, WRITE, CLONE, TRUNCATE, CHMOD, CHOWN, UTIMES, END, UPDATE_EXTENT, FALLOCATE, FILEATTR, Command, Subvol, Snapshot, MkFile, MkDir, MkNod, MkFifo, MkSock, Symlink, Rename, Link, Unlink, Rmdir, SetXattr, RemoveXattr, Write, Clone, Truncate, Chmod, Chown, Utimes, End, UpdateExtent, Fallocate, FileAttr, row, kind_of, fields_of}
use Rattle.send_model.specs.Spelling.{IsKnown, canonical, attributes_of, with_fields, body_of, frame_of, greatest_body}
use Rattle.send_model.specs.Laws.{CanWrite}
use Rattle.send_model.specs.Lines.{values_with}
use Rattle.send_model.specs.Printed.{hex_bytes}
use Rattle.text_model.specs.FieldForms.{AreFormed}
use Rattle.text_model.specs.Texts.{text_line}
use Rattle.text_model.proofs.Glyphs.{IsWord}
use Rattle.text_model.proofs.OneReading.{names_once, name_word, formed}
use Rattle.stream_text.specs.ValueReading.{IsWordEnd}
use Rattle.stream_text.specs.LineTaking.{KindNamed, AddsFrame}

-- ---- values of one form after the other

pub record BytesFirst (kinds : List ℕ) (fields : List Field) : Type 0 where
  pub value : List ℕ
  pub rest : List Field
  pub are : fields ≡ Bytes value ∷ rest
  pub more : AreFormed kinds rest

pub record NumberFirst (kinds : List ℕ) (fields : List Field) : Type 0 where
  pub value : ℕ
  pub rest : List Field
  pub are : fields ≡ Number value ∷ rest
  pub more : AreFormed kinds rest

pub record ShortFirst (kinds : List ℕ) (fields : List Field) : Type 0 where
  pub value : ℕ
  pub rest : List Field
  pub are : fields ≡ ShortNumber value ∷ rest
  pub more : AreFormed kinds rest

pub record MomentFirst (kinds : List ℕ) (fields : List Field) : Type 0 where
  pub value : Time
  pub rest : List Field
  pub are : fields ≡ Moment value ∷ rest
  pub more : AreFormed kinds rest

pub record IdentifierFirst (kinds : List ℕ) (fields : List Field) : Type 0 where
  pub value : List ℕ
  pub rest : List Field
  pub are : fields ≡ Identifier value ∷ rest
  pub more : AreFormed kinds rest

clash : {A : Type 0} {f g h : Form} → f ≡ g → f ≡ h → (g ≡ h → ⊥) → A
clash e i other = absurd (other (sym e ∙ i))

bytes_first : (kind : ℕ) (kinds : List ℕ) (fields : List Field) → form_of kind ≡ AnyBytes → AreFormed (kind ∷ kinds) fields → BytesFirst kinds fields
bytes_first kind kinds [] form f = absurd f
bytes_first kind kinds (Bytes a ∷ fs) form f = record { value = a; rest = fs; are = refl; more = f.1 }
bytes_first kind kinds (Identifier a ∷ fs) form f = clash form f.0 (λ e. absurd cc)
bytes_first kind kinds (Number a ∷ fs) form f = clash form f.0 (λ e. absurd cc)
bytes_first kind kinds (ShortNumber a ∷ fs) form f = clash form f.0 (λ e. absurd cc)
bytes_first kind kinds (Moment a ∷ fs) form f = clash form f.0 (λ e. absurd cc)

number_first : (kind : ℕ) (kinds : List ℕ) (fields : List Field) → form_of kind ≡ ANumber → AreFormed (kind ∷ kinds) fields → NumberFirst kinds fields
number_first kind kinds [] form f = absurd f
number_first kind kinds (Number a ∷ fs) form f = record { value = a; rest = fs; are = refl; more = f.1 }
number_first kind kinds (Identifier a ∷ fs) form f = clash form f.0 (λ e. absurd cc)
number_first kind kinds (Bytes a ∷ fs) form f = clash form f.0 (λ e. absurd cc)
number_first kind kinds (ShortNumber a ∷ fs) form f = clash form f.0 (λ e. absurd cc)
number_first kind kinds (Moment a ∷ fs) form f = clash form f.0 (λ e. absurd cc)

short_first : (kind : ℕ) (kinds : List ℕ) (fields : List Field) → form_of kind ≡ AShortNumber → AreFormed (kind ∷ kinds) fields → ShortFirst kinds fields
short_first kind kinds [] form f = absurd f
short_first kind kinds (ShortNumber a ∷ fs) form f = record { value = a; rest = fs; are = refl; more = f.1 }
short_first kind kinds (Identifier a ∷ fs) form f = clash form f.0 (λ e. absurd cc)
short_first kind kinds (Bytes a ∷ fs) form f = clash form f.0 (λ e. absurd cc)
short_first kind kinds (Number a ∷ fs) form f = clash form f.0 (λ e. absurd cc)
short_first kind kinds (Moment a ∷ fs) form f = clash form f.0 (λ e. absurd cc)

moment_first : (kind : ℕ) (kinds : List ℕ) (fields : List Field) → form_of kind ≡ AMoment → AreFormed (kind ∷ kinds) fields → MomentFirst kinds fields
moment_first kind kinds [] form f = absurd f
moment_first kind kinds (Moment a ∷ fs) form f = record { value = a; rest = fs; are = refl; more = f.1 }
moment_first kind kinds (Identifier a ∷ fs) form f = clash form f.0 (λ e. absurd cc)
moment_first kind kinds (Bytes a ∷ fs) form f = clash form f.0 (λ e. absurd cc)
moment_first kind kinds (Number a ∷ fs) form f = clash form f.0 (λ e. absurd cc)
moment_first kind kinds (ShortNumber a ∷ fs) form f = clash form f.0 (λ e. absurd cc)

identifier_first : (kind : ℕ) (kinds : List ℕ) (fields : List Field) → form_of kind ≡ AnIdentifier → AreFormed (kind ∷ kinds) fields → IdentifierFirst kinds fields
identifier_first kind kinds [] form f = absurd f
identifier_first kind kinds (Identifier a ∷ fs) form f = record { value = a; rest = fs; are = refl; more = f.1 }
identifier_first kind kinds (Moment a ∷ fs) form f = clash form f.0 (λ e. absurd cc)
identifier_first kind kinds (Bytes a ∷ fs) form f = clash form f.0 (λ e. absurd cc)
identifier_first kind kinds (Number a ∷ fs) form f = clash form f.0 (λ e. absurd cc)
identifier_first kind kinds (ShortNumber a ∷ fs) form f = clash form f.0 (λ e. absurd cc)

none_first : (fields : List Field) → AreFormed [] fields → fields ≡ []
none_first [] f = refl
none_first (x ∷ fs) f = absurd f

-- ---- a command of a kind

pub record Made (kind : Kind) (fields : List Field) : Type 0 where
  pub command : Command
  pub kind_is : kind_of command ≡ kind
  pub fields_are : fields_of command ≡ fields

pub command_of : (kind : Kind) (fields : List Field) → AreFormed (row kind).wanted fields → Made kind fields
unfolding row form_of
command_of SUBVOL fields f =
    let a = identifier_first UUID (CTRANSID ∷ PATH ∷ []) fields refl f in
    let b = number_first CTRANSID (PATH ∷ []) a.rest refl a.more in
    let c = bytes_first PATH [] b.rest refl b.more in
    let last : c.rest ≡ [] = none_first c.rest c.more in
    record { command = Subvol a.value b.value c.value; kind_is = refl; fields_are = sym (a.are ∙ ap (λ (l : List Field). Identifier a.value ∷ l) (b.are ∙ ap (λ (l : List Field). Number b.value ∷ l) (c.are ∙ ap (λ (l : List Field). Bytes c.value ∷ l) last))) }
command_of SNAPSHOT fields f =
    let a = identifier_first UUID (CTRANSID ∷ PATH ∷ CLONE_UUID ∷ CLONE_CTRANSID ∷ []) fields refl f in
    let b = number_first CTRANSID (PATH ∷ CLONE_UUID ∷ CLONE_CTRANSID ∷ []) a.rest refl a.more in
    let c = bytes_first PATH (CLONE_UUID ∷ CLONE_CTRANSID ∷ []) b.rest refl b.more in
    let d = identifier_first CLONE_UUID (CLONE_CTRANSID ∷ []) c.rest refl c.more in
    let e = number_first CLONE_CTRANSID [] d.rest refl d.more in
    let last : e.rest ≡ [] = none_first e.rest e.more in
    record { command = Snapshot a.value b.value c.value d.value e.value; kind_is = refl; fields_are = sym (a.are ∙ ap (λ (l : List Field). Identifier a.value ∷ l) (b.are ∙ ap (λ (l : List Field). Number b.value ∷ l) (c.are ∙ ap (λ (l : List Field). Bytes c.value ∷ l) (d.are ∙ ap (λ (l : List Field). Identifier d.value ∷ l) (e.are ∙ ap (λ (l : List Field). Number e.value ∷ l) last))))) }
command_of MKFILE fields f =
    let a = bytes_first PATH [] fields refl f in
    let last : a.rest ≡ [] = none_first a.rest a.more in
    record { command = MkFile a.value; kind_is = refl; fields_are = sym (a.are ∙ ap (λ (l : List Field). Bytes a.value ∷ l) last) }
command_of MKDIR fields f =
    let a = bytes_first PATH [] fields refl f in
    let last : a.rest ≡ [] = none_first a.rest a.more in
    record { command = MkDir a.value; kind_is = refl; fields_are = sym (a.are ∙ ap (λ (l : List Field). Bytes a.value ∷ l) last) }
command_of MKNOD fields f =
    let a = number_first MODE (RDEV ∷ PATH ∷ []) fields refl f in
    let b = number_first RDEV (PATH ∷ []) a.rest refl a.more in
    let c = bytes_first PATH [] b.rest refl b.more in
    let last : c.rest ≡ [] = none_first c.rest c.more in
    record { command = MkNod a.value b.value c.value; kind_is = refl; fields_are = sym (a.are ∙ ap (λ (l : List Field). Number a.value ∷ l) (b.are ∙ ap (λ (l : List Field). Number b.value ∷ l) (c.are ∙ ap (λ (l : List Field). Bytes c.value ∷ l) last))) }
command_of MKFIFO fields f =
    let a = bytes_first PATH [] fields refl f in
    let last : a.rest ≡ [] = none_first a.rest a.more in
    record { command = MkFifo a.value; kind_is = refl; fields_are = sym (a.are ∙ ap (λ (l : List Field). Bytes a.value ∷ l) last) }
command_of MKSOCK fields f =
    let a = bytes_first PATH [] fields refl f in
    let last : a.rest ≡ [] = none_first a.rest a.more in
    record { command = MkSock a.value; kind_is = refl; fields_are = sym (a.are ∙ ap (λ (l : List Field). Bytes a.value ∷ l) last) }
command_of SYMLINK fields f =
    let a = bytes_first PATH (PATH_LINK ∷ []) fields refl f in
    let b = bytes_first PATH_LINK [] a.rest refl a.more in
    let last : b.rest ≡ [] = none_first b.rest b.more in
    record { command = Symlink a.value b.value; kind_is = refl; fields_are = sym (a.are ∙ ap (λ (l : List Field). Bytes a.value ∷ l) (b.are ∙ ap (λ (l : List Field). Bytes b.value ∷ l) last)) }
command_of RENAME fields f =
    let a = bytes_first PATH (PATH_TO ∷ []) fields refl f in
    let b = bytes_first PATH_TO [] a.rest refl a.more in
    let last : b.rest ≡ [] = none_first b.rest b.more in
    record { command = Rename a.value b.value; kind_is = refl; fields_are = sym (a.are ∙ ap (λ (l : List Field). Bytes a.value ∷ l) (b.are ∙ ap (λ (l : List Field). Bytes b.value ∷ l) last)) }
command_of LINK fields f =
    let a = bytes_first PATH (PATH_LINK ∷ []) fields refl f in
    let b = bytes_first PATH_LINK [] a.rest refl a.more in
    let last : b.rest ≡ [] = none_first b.rest b.more in
    record { command = Link a.value b.value; kind_is = refl; fields_are = sym (a.are ∙ ap (λ (l : List Field). Bytes a.value ∷ l) (b.are ∙ ap (λ (l : List Field). Bytes b.value ∷ l) last)) }
command_of UNLINK fields f =
    let a = bytes_first PATH [] fields refl f in
    let last : a.rest ≡ [] = none_first a.rest a.more in
    record { command = Unlink a.value; kind_is = refl; fields_are = sym (a.are ∙ ap (λ (l : List Field). Bytes a.value ∷ l) last) }
command_of RMDIR fields f =
    let a = bytes_first PATH [] fields refl f in
    let last : a.rest ≡ [] = none_first a.rest a.more in
    record { command = Rmdir a.value; kind_is = refl; fields_are = sym (a.are ∙ ap (λ (l : List Field). Bytes a.value ∷ l) last) }
command_of SET_XATTR fields f =
    let a = bytes_first XATTR_NAME (XATTR_DATA ∷ PATH ∷ []) fields refl f in
    let b = bytes_first XATTR_DATA (PATH ∷ []) a.rest refl a.more in
    let c = bytes_first PATH [] b.rest refl b.more in
    let last : c.rest ≡ [] = none_first c.rest c.more in
    record { command = SetXattr a.value b.value c.value; kind_is = refl; fields_are = sym (a.are ∙ ap (λ (l : List Field). Bytes a.value ∷ l) (b.are ∙ ap (λ (l : List Field). Bytes b.value ∷ l) (c.are ∙ ap (λ (l : List Field). Bytes c.value ∷ l) last))) }
command_of REMOVE_XATTR fields f =
    let a = bytes_first XATTR_NAME (PATH ∷ []) fields refl f in
    let b = bytes_first PATH [] a.rest refl a.more in
    let last : b.rest ≡ [] = none_first b.rest b.more in
    record { command = RemoveXattr a.value b.value; kind_is = refl; fields_are = sym (a.are ∙ ap (λ (l : List Field). Bytes a.value ∷ l) (b.are ∙ ap (λ (l : List Field). Bytes b.value ∷ l) last)) }
command_of WRITE fields f =
    let a = bytes_first PATH (FILE_OFFSET ∷ DATA ∷ []) fields refl f in
    let b = number_first FILE_OFFSET (DATA ∷ []) a.rest refl a.more in
    let c = bytes_first DATA [] b.rest refl b.more in
    let last : c.rest ≡ [] = none_first c.rest c.more in
    record { command = Write a.value b.value c.value; kind_is = refl; fields_are = sym (a.are ∙ ap (λ (l : List Field). Bytes a.value ∷ l) (b.are ∙ ap (λ (l : List Field). Number b.value ∷ l) (c.are ∙ ap (λ (l : List Field). Bytes c.value ∷ l) last))) }
command_of CLONE fields f =
    let a = bytes_first PATH (FILE_OFFSET ∷ CLONE_UUID ∷ CLONE_CTRANSID ∷ CLONE_PATH ∷ CLONE_OFFSET ∷ CLONE_LEN ∷ []) fields refl f in
    let b = number_first FILE_OFFSET (CLONE_UUID ∷ CLONE_CTRANSID ∷ CLONE_PATH ∷ CLONE_OFFSET ∷ CLONE_LEN ∷ []) a.rest refl a.more in
    let c = identifier_first CLONE_UUID (CLONE_CTRANSID ∷ CLONE_PATH ∷ CLONE_OFFSET ∷ CLONE_LEN ∷ []) b.rest refl b.more in
    let d = number_first CLONE_CTRANSID (CLONE_PATH ∷ CLONE_OFFSET ∷ CLONE_LEN ∷ []) c.rest refl c.more in
    let e = bytes_first CLONE_PATH (CLONE_OFFSET ∷ CLONE_LEN ∷ []) d.rest refl d.more in
    let f = number_first CLONE_OFFSET (CLONE_LEN ∷ []) e.rest refl e.more in
    let g = number_first CLONE_LEN [] f.rest refl f.more in
    let last : g.rest ≡ [] = none_first g.rest g.more in
    record { command = Clone a.value b.value c.value d.value e.value f.value g.value; kind_is = refl; fields_are = sym (a.are ∙ ap (λ (l : List Field). Bytes a.value ∷ l) (b.are ∙ ap (λ (l : List Field). Number b.value ∷ l) (c.are ∙ ap (λ (l : List Field). Identifier c.value ∷ l) (d.are ∙ ap (λ (l : List Field). Number d.value ∷ l) (e.are ∙ ap (λ (l : List Field). Bytes e.value ∷ l) (f.are ∙ ap (λ (l : List Field). Number f.value ∷ l) (g.are ∙ ap (λ (l : List Field). Number g.value ∷ l) last))))))) }
command_of TRUNCATE fields f =
    let a = number_first SIZE (PATH ∷ []) fields refl f in
    let b = bytes_first PATH [] a.rest refl a.more in
    let last : b.rest ≡ [] = none_first b.rest b.more in
    record { command = Truncate a.value b.value; kind_is = refl; fields_are = sym (a.are ∙ ap (λ (l : List Field). Number a.value ∷ l) (b.are ∙ ap (λ (l : List Field). Bytes b.value ∷ l) last)) }
command_of CHMOD fields f =
    let a = number_first MODE (PATH ∷ []) fields refl f in
    let b = bytes_first PATH [] a.rest refl a.more in
    let last : b.rest ≡ [] = none_first b.rest b.more in
    record { command = Chmod a.value b.value; kind_is = refl; fields_are = sym (a.are ∙ ap (λ (l : List Field). Number a.value ∷ l) (b.are ∙ ap (λ (l : List Field). Bytes b.value ∷ l) last)) }
command_of CHOWN fields f =
    let a = number_first UID (GID ∷ PATH ∷ []) fields refl f in
    let b = number_first GID (PATH ∷ []) a.rest refl a.more in
    let c = bytes_first PATH [] b.rest refl b.more in
    let last : c.rest ≡ [] = none_first c.rest c.more in
    record { command = Chown a.value b.value c.value; kind_is = refl; fields_are = sym (a.are ∙ ap (λ (l : List Field). Number a.value ∷ l) (b.are ∙ ap (λ (l : List Field). Number b.value ∷ l) (c.are ∙ ap (λ (l : List Field). Bytes c.value ∷ l) last))) }
command_of UTIMES fields f =
    let a = moment_first MTIME (ATIME ∷ PATH ∷ []) fields refl f in
    let b = moment_first ATIME (PATH ∷ []) a.rest refl a.more in
    let c = bytes_first PATH [] b.rest refl b.more in
    let last : c.rest ≡ [] = none_first c.rest c.more in
    record { command = Utimes a.value b.value c.value; kind_is = refl; fields_are = sym (a.are ∙ ap (λ (l : List Field). Moment a.value ∷ l) (b.are ∙ ap (λ (l : List Field). Moment b.value ∷ l) (c.are ∙ ap (λ (l : List Field). Bytes c.value ∷ l) last))) }
command_of END fields f =
    let last : fields ≡ [] = none_first fields f in
    record { command = End; kind_is = refl; fields_are = sym last }
command_of UPDATE_EXTENT fields f =
    let a = number_first SIZE (PATH ∷ FILE_OFFSET ∷ []) fields refl f in
    let b = bytes_first PATH (FILE_OFFSET ∷ []) a.rest refl a.more in
    let c = number_first FILE_OFFSET [] b.rest refl b.more in
    let last : c.rest ≡ [] = none_first c.rest c.more in
    record { command = UpdateExtent a.value b.value c.value; kind_is = refl; fields_are = sym (a.are ∙ ap (λ (l : List Field). Number a.value ∷ l) (b.are ∙ ap (λ (l : List Field). Bytes b.value ∷ l) (c.are ∙ ap (λ (l : List Field). Number c.value ∷ l) last))) }
command_of FALLOCATE fields f =
    let a = number_first SIZE (PATH ∷ FILE_OFFSET ∷ FALLOCATE_MODE ∷ []) fields refl f in
    let b = bytes_first PATH (FILE_OFFSET ∷ FALLOCATE_MODE ∷ []) a.rest refl a.more in
    let c = number_first FILE_OFFSET (FALLOCATE_MODE ∷ []) b.rest refl b.more in
    let d = short_first FALLOCATE_MODE [] c.rest refl c.more in
    let last : d.rest ≡ [] = none_first d.rest d.more in
    record { command = Fallocate a.value b.value c.value d.value; kind_is = refl; fields_are = sym (a.are ∙ ap (λ (l : List Field). Number a.value ∷ l) (b.are ∙ ap (λ (l : List Field). Bytes b.value ∷ l) (c.are ∙ ap (λ (l : List Field). Number c.value ∷ l) (d.are ∙ ap (λ (l : List Field). ShortNumber d.value ∷ l) last)))) }
command_of FILEATTR fields f =
    let a = bytes_first PATH (FILE_FLAGS ∷ []) fields refl f in
    let b = number_first FILE_FLAGS [] a.rest refl a.more in
    let last : b.rest ≡ [] = none_first b.rest b.more in
    record { command = FileAttr a.value b.value; kind_is = refl; fields_are = sym (a.are ∙ ap (λ (l : List Field). Bytes a.value ∷ l) (b.are ∙ ap (λ (l : List Field). Number b.value ∷ l) last)) }

-- ---- the first word of a line

word_at : (name : List ℕ) (k : ℕ) → IsWord name → k < length name → 0x20 < get_or name k 0
word_at [] k word less = absurd (omega (arith, less))
word_at (b ∷ name) zero word less = word.0
word_at (b ∷ name) (suc k) word less = word_at name k word.1 (omega (arith, less))

-- Bytes that are none, or begin with a space.
abbrev pub IsSpaced : List ℕ → Type 0
IsSpaced [] = Unit {0}
IsSpaced (b ∷ bytes) = b ≡ 0x20

pub values_spaced : (kinds : List ℕ) (fields : List Field) → IsSpaced (values_with hex_bytes kinds fields)
values_spaced [] [] = tt
values_spaced [] (f ∷ fs) = tt
values_spaced (k ∷ ks) [] = tt
values_spaced (k ∷ ks) (f ∷ fs) = refl

-- A space stands behind a word, if anything does.
spaced_first : (behind : List ℕ) → IsSpaced behind → 0 < length behind → get_or behind 0 0 ≡ 0x20
spaced_first [] s some = absurd (omega (arith, some))
spaced_first (b ∷ behind) s some = s

module _ (text : List ℕ) (end : ℕ) (w : IsWordEnd text 0 end) (name behind : List ℕ) (word : IsWord name) (spaced : IsSpaced behind) (is : text ≡ name ++ behind) where
  text_len : length text ≡ length name + length behind
  text_len = ap length is ∙ length-append name behind

  not_less : end < length name → ⊥
  not_less less =
      let here : get_or text end 0 ≡ get_or name end 0 = ap (λ (l : List ℕ). get_or l end 0) is ∙ get_or_append_left name behind 0 end less in
      let space : get_or text end 0 ≡ 0x20 = w.space (omega (arith, text_len, less)) in
      omega (arith, here, space, word_at name end word less)

  not_more : length name < end → ⊥
  not_more more =
      let some : 0 < length behind = omega (arith, text_len, more, w.high) in
      let first : length name - length name ≡ 0 = omega arith in
      let here : get_or text (length name) 0 ≡ 0x20 =
      ap (λ (l : List ℕ). get_or l (length name) 0) is ∙ get_or-append_right name behind (length name) (length name) 0 refl (omega arith) ∙ ap (λ (n : ℕ). get_or behind n 0) first ∙ spaced_first behind spaced some in
      w.word (length name) (omega arith) more here

  word_len : end ≡ length name
  word_len = one (nat_lt end (length name)) (nat_lt (length name) end) refl refl
    where
      one : (a b : Bool) → nat_lt end (length name) ≡ a → nat_lt (length name) end ≡ b → end ≡ length name
      one true b e f = absurd (not_less (ltb-true end (length name) e))
      one false true e f = absurd (not_more (ltb-true (length name) end f))
      one false false e f = omega (arith, ltb-false end (length name) e, ltb-false (length name) end f)

  pub word_of : (take end text ≡ name) × (drop end text ≡ behind)
  word_of = (
    ap₂ (λ (n : ℕ) (l : List ℕ). take n l) word_len is ∙ take-append_seam name behind,
    ap₂ (λ (n : ℕ) (l : List ℕ). drop n l) word_len is ∙ drop-append_seam name behind,
  )

-- ---- lines and commands

-- The first word of a command's line is its name, and its values follow.
pub command_words : (text : List ℕ) (end : ℕ) (c : Command) → IsWordEnd text 0 end → text_line c ≡ text ++ 0x0a ∷ []
    → (take end text ≡ (row (kind_of c)).name) × (drop end text ≡ values_with hex_bytes (row (kind_of c)).wanted (fields_of c))
unfolding text_line
command_words text end c w says =
    let name : List ℕ = (row (kind_of c)).name in
    let values : List ℕ = values_with hex_bytes (row (kind_of c)).wanted (fields_of c) in
    word_of text end w name values (name_word (kind_of c)) (values_spaced (row (kind_of c)).wanted (fields_of c)) (sym (append_cancel_right (name ++ values) text (0x0a ∷ []) says))

-- No command has this name.
pub no_name : (version : ℕ) (text : List ℕ) (end : ℕ) → IsWordEnd text 0 end → KindNamed version (take end text) None
    → (c : Command) → CanWrite version c → text_line c ≡ text ++ 0x0a ∷ [] → ⊥
no_name version text end w none c can says = none (kind_of c) can.spellable.known (sym (command_words text end c w says).0)

-- A command of this name has its kind.
named_kind : (version : ℕ) (text : List ℕ) (end : ℕ) (kind : Kind) → IsWordEnd text 0 end → (row kind).name ≡ take end text → (c : Command) → text_line c ≡ text ++ 0x0a ∷ [] → kind_of c ≡ kind
named_kind version text end kind w named c says = names_once (kind_of c) kind (sym (command_words text end c w says).0 ∙ sym named)

-- The values behind the name are no values with which a frame of its command is short enough.
pub no_frame : (version : ℕ) (text old new : List ℕ) (end : ℕ) (kind : Kind) → IsWordEnd text 0 end → (row kind).name ≡ take end text
    → AddsFrame version kind (drop end text) old new false → (c : Command) → CanWrite version c → text_line c ≡ text ++ 0x0a ∷ [] → ⊥
unfolding attributes_of
no_frame version text old new end kind w named none c can says =
    let same : kind_of c ≡ kind = named_kind version text end kind w named c says in
    let values : values_with hex_bytes (row (kind_of c)).wanted (fields_of c) ≡ drop end text = sym (command_words text end c w says).1 in
    none.0 (fields_of c)
    (subst (λ (k : Kind). AreFormed (row k).wanted (fields_of c)) same (formed c))
    (subst (λ (k : Kind). FieldsFit version (row k).wanted (fields_of c)) same can.spellable.values)
    (subst (λ (k : Kind). values_with hex_bytes (row k).wanted (fields_of c) ≡ drop end text) same values)
    (subst (λ (k : Kind). length (body_of version (with_fields (row k).wanted (fields_of c))) ≤ greatest_body) same can.spellable.short)

-- A command was said.
pub record Said (version : ℕ) (text : List ℕ) (kind : Kind) (body : List ℕ) : Type 0 where
  pub command : Command
  pub can : CanWrite version command
  pub says : text_line command ≡ text ++ 0x0a ∷ []
  pub kind_is : kind_of command ≡ kind
  pub bytes : canonical version command ≡ frame_of (row kind).number body

pub command_said : (version : ℕ) (text : List ℕ) (end : ℕ) (kind : Kind) (fields : List Field) → IsKnown version kind → (row kind).name ≡ take end text
    → AreFormed (row kind).wanted fields → FieldsFit version (row kind).wanted fields → values_with hex_bytes (row kind).wanted fields ≡ drop end text
    → length (body_of version (with_fields (row kind).wanted fields)) ≤ greatest_body → Said version text kind (body_of version (with_fields (row kind).wanted fields))
unfolding text_line canonical attributes_of
command_said version text end kind fields known named are fit values short =
    let m : Made kind fields = command_of kind fields are in
    record {
      command = m.command;
      can = record {
        spellable = record {
          known = subst (λ (k : Kind). IsKnown version k) (sym m.kind_is) known;
          values = subst (λ (fs : List Field). FieldsFit version (row (kind_of m.command)).wanted fs) (sym m.fields_are) (subst (λ (k : Kind). FieldsFit version (row k).wanted fields) (sym m.kind_is) fit);
          short = subst (λ (fs : List Field). length (body_of version (with_fields (row (kind_of m.command)).wanted fs)) ≤ greatest_body) (sym m.fields_are)
              (subst (λ (k : Kind). length (body_of version (with_fields (row k).wanted fields)) ≤ greatest_body) (sym m.kind_is) short);
        };
      };
      says = (λ i. ((row (m.kind_is i)).name ++ values_with hex_bytes (row (m.kind_is i)).wanted (m.fields_are i)) ++ 0x0a ∷ [])
          ∙ ap (λ (l : List ℕ). l ++ 0x0a ∷ []) (ap₂ (λ (a b : List ℕ). a ++ b) named values ∙ take-append-drop end text);
      kind_is = m.kind_is;
      bytes = λ i. frame_of (row (m.kind_is i)).number (body_of version (with_fields (row (m.kind_is i)).wanted (m.fields_are i)));
    }
