-- A line that may stand where it does, and one that may not.
use Rattle.std.specs.Prelude.{◌≡◌, ◌≢◌, ℕ, ◌+◌, ◌-◌, ◌<◌, ◌≤◌, Bool, true, false, nat_lt, List, [], ◌∷◌, ◌++◌, length, take, drop, Option, None, Some, codes}
use Rattle.std.specs.Fmt.{decimal, digits}
use Rattle.std.proofs.Common.{⊎_elim, refl, sym, ap, ap₂, subst, ◌∙◌, arith, append_assoc, length-append}
use Rattle.std.proofs.Math.Seq.{take-append_seam, drop-append_seam, drop-append-add}
use Rattle.std.proofs.lemmas.List.{append_cancel_right}
use Rattle.std.proofs.lemmas.Bool.{ltb-true, ltb-false}
use Rattle.send_model.specs.Attribute.{Field, FieldsFit}
use Rattle.send_model.specs.Command.{Kind, SUBVOL, SNAPSHOT, MKFILE, MKDIR, MKNOD, MKFIFO, MKSOCK, SYMLINK, RENAME, LINK, UNLINK, RMDIR, SET_XATTR, REMOVE_XATTR, WRITE, CLONE, TRUNCATE, CHMOD, CHOWN, UTIMES, END, UPDATE_EXTENT, FALLOCATE, FILEATTR, Command, Subvol, Snapshot, MkFile, MkDir, MkNod, MkFifo, MkSock, Symlink, Rename, Link, Unlink, Rmdir, SetXattr, RemoveXattr, Write, Clone, Truncate, Chmod, Chown, Utimes, End, UpdateExtent, Fallocate, FileAttr, row, kind_of, kind_of_number}
use Rattle.send_model.specs.Lines.{stream_line, values_with}
use Rattle.send_model.specs.Printed.{hex_bytes}
use Rattle.send_model.specs.Spelling.{stream_header, with_fields, body_of, frame_of, greatest_body}
use Rattle.send_model.proofs.Streams.{read_version}
use Rattle.send_model.proofs.ReadSpelled.{numbered}
use Rattle.text_model.specs.FieldForms.{AreFormed}
use Rattle.text_model.specs.Texts.{Line, Header, Says, line_text}
use Rattle.text_model.specs.LineOrder.{IsDueLine, due_behind}
use Rattle.text_model.proofs.OneReading.{values_once}
use Rattle.stream_text.specs.ValueReading.{IsWordEnd, ReadsValues}
use Rattle.stream_text.specs.LineTaking.{KindNamed, HeaderRead, due_of, AddsFrame, TakesLine}
use Rattle.stream_text.proofs.CommandTexts.{no_name, no_frame, command_said, Said}

-- ---- the line of a stream

first_line : (version : ℕ) (text : List ℕ) → version ≡ 1 → stream_line version ≡ text ++ 0x0a ∷ [] → text ≡ codes "stream 1"
unfolding digits
first_line version text is says = sym (append_cancel_right (codes "stream " ++ decimal 1) text (0x0a ∷ []) (ap stream_line (sym is) ∙ says))

second_line : (version : ℕ) (text : List ℕ) → version ≡ 2 → stream_line version ≡ text ++ 0x0a ∷ [] → text ≡ codes "stream 2"
unfolding digits
second_line version text is says = sym (append_cancel_right (codes "stream " ++ decimal 2) text (0x0a ∷ []) (ap stream_line (sym is) ∙ says))

pub no_header : (text : List ℕ) → text ≢ codes "stream 1" → text ≢ codes "stream 2" → HeaderRead text None
no_header text one two version is says =
    ⊎_elim (λ e. one (first_line version text e says)) (λ e. two (second_line version text e says)) (read_version version is)

pub first_header : (text : List ℕ) → text ≡ codes "stream 1" → HeaderRead text (Some 1)
unfolding digits
first_header text is = (refl, ap (λ (l : List ℕ). l ++ 0x0a ∷ []) (sym is))

pub second_header : (text : List ℕ) → text ≡ codes "stream 2" → HeaderRead text (Some 2)
unfolding digits
second_header text is = (refl, ap (λ (l : List ℕ). l ++ 0x0a ∷ []) (sym is))

pub header_taken : (version : ℕ) (text old new : List ℕ) → HeaderRead text (Some version) → new ≡ old ++ stream_header version → TakesLine None text old new (Some version) true
header_taken version text old new read added = (Header version, read.0, read.1, added, refl)

none_due : (text : List ℕ) → HeaderRead text None → (line : Line) → IsDueLine None line → line_text line ≡ text ++ 0x0a ∷ [] → ⊥
none_due text none (Header version) is says = none version is says
none_due text none (Says version c) is says = is

pub header_refused : (text old : List ℕ) (due : Option ℕ) → due ≡ None → HeaderRead text None → TakesLine None text old old due false
header_refused text old due is none = (none_due text none, refl, is)

-- ---- the line of a command

kind_numbers : (kind : Kind) → (1 ≤ (row kind).number) × ((row kind).number < 25)
unfolding row
kind_numbers SUBVOL = (omega arith, omega arith)
kind_numbers SNAPSHOT = (omega arith, omega arith)
kind_numbers MKFILE = (omega arith, omega arith)
kind_numbers MKDIR = (omega arith, omega arith)
kind_numbers MKNOD = (omega arith, omega arith)
kind_numbers MKFIFO = (omega arith, omega arith)
kind_numbers MKSOCK = (omega arith, omega arith)
kind_numbers SYMLINK = (omega arith, omega arith)
kind_numbers RENAME = (omega arith, omega arith)
kind_numbers LINK = (omega arith, omega arith)
kind_numbers UNLINK = (omega arith, omega arith)
kind_numbers RMDIR = (omega arith, omega arith)
kind_numbers SET_XATTR = (omega arith, omega arith)
kind_numbers REMOVE_XATTR = (omega arith, omega arith)
kind_numbers WRITE = (omega arith, omega arith)
kind_numbers CLONE = (omega arith, omega arith)
kind_numbers TRUNCATE = (omega arith, omega arith)
kind_numbers CHMOD = (omega arith, omega arith)
kind_numbers CHOWN = (omega arith, omega arith)
kind_numbers UTIMES = (omega arith, omega arith)
kind_numbers END = (omega arith, omega arith)
kind_numbers UPDATE_EXTENT = (omega arith, omega arith)
kind_numbers FALLOCATE = (omega arith, omega arith)
kind_numbers FILEATTR = (omega arith, omega arith)

-- No command with one of the first numbers has the name.
abbrev pub NoneBelow : (version : ℕ) (name : List ℕ) → ℕ → Type 0
NoneBelow version name upto = (k : ℕ) (kind : Kind) → k < upto → kind_of_number version k ≡ Some kind → (row kind).name ≢ name

pub none_named : (version upto : ℕ) (name : List ℕ) → 25 ≤ upto → NoneBelow version name upto → KindNamed version name None
none_named version upto name all none kind known is = none (row kind).number kind (omega (arith, all, (kind_numbers kind).1)) known is

pub kind_found : (version number : ℕ) (name : List ℕ) (kind : Kind) → kind_of_number version number ≡ Some kind → (row kind).name ≡ name → KindNamed version name (Some kind)
kind_found version number name kind found is = (subst (λ (n : ℕ). kind_of_number version n ≡ Some kind) (sym (numbered version number kind found)) found, is)

-- The next number is none.
pub none_more : (version upto : ℕ) (name : List ℕ) → NoneBelow version name upto → ((kind : Kind) → kind_of_number version upto ≡ Some kind → (row kind).name ≢ name) → NoneBelow version name (upto + 1)
none_more version upto name none here k kind less found = one (nat_lt k upto) refl
  where
    one : (b : Bool) → nat_lt k upto ≡ b → (row kind).name ≢ name
    one true e = none k kind (ltb-true k upto e) found
    one false e = here kind (subst (λ (n : ℕ). kind_of_number version n ≡ Some kind) (let same : k ≡ upto = omega (arith, less, ltb-false k upto e) in same) found)

pub due_is : (version : ℕ) (c : Command) → due_of version (kind_of c) ≡ due_behind version c
due_is version (Subvol uuid ctransid path) = refl
due_is version (Snapshot uuid ctransid path clone_uuid clone_ctransid) = refl
due_is version (MkFile path) = refl
due_is version (MkDir path) = refl
due_is version (MkNod mode rdev path) = refl
due_is version (MkFifo path) = refl
due_is version (MkSock path) = refl
due_is version (Symlink path path_link) = refl
due_is version (Rename path path_to) = refl
due_is version (Link path path_link) = refl
due_is version (Unlink path) = refl
due_is version (Rmdir path) = refl
due_is version (SetXattr name value path) = refl
due_is version (RemoveXattr name path) = refl
due_is version (Write path offset bytes) = refl
due_is version (Clone path offset clone_uuid clone_ctransid clone_path clone_offset clone_len) = refl
due_is version (Truncate size path) = refl
due_is version (Chmod mode path) = refl
due_is version (Chown uid gid path) = refl
due_is version (Utimes mtime atime path) = refl
due_is version End = refl
due_is version (UpdateExtent size path offset) = refl
due_is version (Fallocate size path offset mode) = refl
due_is version (FileAttr path flags) = refl

-- The line of a stream is not due within one.
no_line_named : (version : ℕ) (text : List ℕ) (end : ℕ) → IsWordEnd text 0 end → KindNamed version (take end text) None → (line : Line) → IsDueLine (Some version) line → line_text line ≡ text ++ 0x0a ∷ [] → ⊥
no_line_named version text end w none (Header v) is says = is
no_line_named version text end w none (Says v c) is says = no_name version text end w none c is.1 says

pub name_refused : (version : ℕ) (text old : List ℕ) (end : ℕ) (due : Option ℕ) → due ≡ Some version → IsWordEnd text 0 end → KindNamed version (take end text) None → TakesLine (Some version) text old old due false
name_refused version text old end due is w none = (no_line_named version text end w none, refl, is)

no_line_framed : (version : ℕ) (text old new : List ℕ) (end : ℕ) (kind : Kind) → IsWordEnd text 0 end → (row kind).name ≡ take end text → AddsFrame version kind (drop end text) old new false
    → (line : Line) → IsDueLine (Some version) line → line_text line ≡ text ++ 0x0a ∷ [] → ⊥
no_line_framed version text old new end kind w named none (Header v) is says = is
no_line_framed version text old new end kind w named none (Says v c) is says = no_frame version text old new end kind w named none c is.1 says

pub frame_refused : (version : ℕ) (text old new : List ℕ) (end : ℕ) (kind : Kind) (due : Option ℕ) → due ≡ Some version → IsWordEnd text 0 end → KindNamed version (take end text) (Some kind)
    → AddsFrame version kind (drop end text) old new false → TakesLine (Some version) text old new due false
frame_refused version text old new end kind due is w named none = (no_line_framed version text old new end kind w named.1 none, none.1, is)

pub frame_taken : (version : ℕ) (text old new : List ℕ) (end : ℕ) (kind : Kind) (due : Option ℕ) → due ≡ due_of version kind → KindNamed version (take end text) (Some kind)
    → AddsFrame version kind (drop end text) old new true → TakesLine (Some version) text old new due true
frame_taken version text old new end kind due is named added =
    let s : Said version text kind (body_of version (with_fields (row kind).wanted added.0)) =
    command_said version text end kind added.0 named.0 named.1 added.1 added.2 added.3 added.4 in (
      Says version s.command,
      (refl, s.can),
      s.says,
      added.5 ∙ ap (λ (l : List ℕ). old ++ l) (sym s.bytes),
      is ∙ ap (due_of version) (sym s.kind_is) ∙ due_is version s.command,
    )

-- ---- a frame

-- The values were read, and the frame is too long.
pub frame_long : (version : ℕ) (kinds text old head new : List ℕ) → length head ≡ 10 → ReadsValues version kinds text (old ++ head) new true → 10 + greatest_body < length new - length old
    → (fields : List Field) → AreFormed kinds fields → FieldsFit version kinds fields → values_with hex_bytes kinds fields ≡ text → length (body_of version (with_fields kinds fields)) ≤ greatest_body → ⊥
frame_long version kinds text old head new ten r long fields are fit says short =
    let same : fields ≡ r.0 = values_once version kinds fields r.0 are r.1 fit r.2 (ap (λ (l : List ℕ). l ++ 0x0a ∷ []) (says ∙ sym r.3)) in
    let body : List ℕ = body_of version (with_fields kinds r.0) in
    let own : length body ≤ greatest_body = subst (λ (fs : List Field). length (body_of version (with_fields kinds fs)) ≤ greatest_body) same short in
    omega (arith, own, long, ten, ap length r.4, length-append (old ++ head) body, length-append old head)

-- The bytes that were there before the frame.
pub cut_back : (old head begun new start : List ℕ) → start ≡ old → begun ≡ old ++ head → (rest : List ℕ) × (new ≡ begun ++ rest) → take (length start) new ≡ old
cut_back old head begun new start is room (rest, more) =
    ap₂ (λ (a b : List ℕ). take (length a) b) is (more ∙ ap (λ (l : List ℕ). l ++ rest) room ∙ append_assoc old head rest) ∙ take-append_seam old (head ++ rest)

-- The values were read, and the frame is short enough.
pub frame_added : (version : ℕ) (kind : Kind) (text old head filled new : List ℕ) (start number : ℕ) → length head ≡ 10 → ReadsValues version (row kind).wanted text (old ++ head) filled true
    → length filled - length old ≤ 10 + greatest_body → start ≡ length old → number ≡ (row kind).number → new ≡ take start filled ++ frame_of number (drop (start + 10) filled) → AddsFrame version kind text old new true
frame_added version kind text old head filled new start number ten r short begins numbered framed =
    let body : List ℕ = body_of version (with_fields (row kind).wanted r.0) in
    let is : filled ≡ old ++ (head ++ body) = r.4 ∙ append_assoc old head body in
    let front : take start filled ≡ old = ap₂ (λ (n : ℕ) (l : List ℕ). take n l) begins is ∙ take-append_seam old (head ++ body) in
    let behind : drop (start + 10) filled ≡ body =
    ap₂ (λ (n : ℕ) (l : List ℕ). drop n l) (ap₂ (λ (n m : ℕ). n + m) begins (sym ten)) is ∙ drop-append-add old (head ++ body) (length head) ∙ drop-append_seam head body in (
      r.0,
      r.1,
      r.2,
      r.3,
      omega (arith, short, ten, ap length is, length-append old (head ++ body), length-append head body),
      framed ∙ ap₂ (λ (a b : List ℕ). a ++ b) front (ap₂ (λ (n : ℕ) (l : List ℕ). frame_of n l) numbered behind),
    )

pub none_first : (version : ℕ) (name : List ℕ) → NoneBelow version name 1
none_first version name k kind less found is =
    let zero_is : k ≡ 0 = omega (arith, less) in
    omega (arith, zero_is, (kind_numbers kind).0, numbered version k kind found)
