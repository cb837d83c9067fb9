-- A frame that is written attribute by attribute, and the canonical one of a command of which
-- nothing more is asked.
use Rattle.std.specs.Prelude.{◌≡◌, ℕ, ◌+◌, ◌^◌, ◌<◌, ◌≤◌, ◌==◌, false, List, [], ◌∷◌, ◌++◌, length, take, drop}
use Rattle.std.proofs.Common.{refl, sym, ap, ◌∙◌, arith, append_assoc, append-nil, length-append}
use Rattle.std.proofs.lemmas.Bool.{and_right}
use Rattle.std.proofs.Math.Seq.{take-append_seam, drop-append_seam}
use Rattle.send_model.specs.Attribute.{HasRoom, Time, Moment, Number, field_bytes, MODE, RDEV, CTIME, MTIME, ATIME, PATH, PATH_LINK, DATA}
use Rattle.send_model.specs.Command.{Command, kind_of, MkNod, Symlink, Utimes, row}
use Rattle.send_model.specs.Spelling.{Attribute, attribute_bytes, attributes_of, body_of, frame_of, canonical}
use Rattle.send_model.specs.Receivable.{number_zero, asked_for, receivable, receivable_attributes}
use Rattle.send_model.proofs.Canonical.{attribute_len}
use Rattle.tlv_frame.specs.Frame.{head_room}

-- ---- attributes one after the other

pub one_body : (version : ℕ) (to : List ℕ) (a : Attribute) (at1 : List ℕ) → at1 ≡ (to ++ head_room) ++ attribute_bytes version a → at1 ≡ (to ++ head_room) ++ body_of version (a ∷ [])
unfolding body_of
one_body version to a at1 e = e ∙ ap (λ (l : List ℕ). (to ++ head_room) ++ l) (sym (append-nil (attribute_bytes version a)))

joined : (version : ℕ) (before : List Attribute) (a : Attribute) → body_of version before ++ attribute_bytes version a ≡ body_of version (before ++ a ∷ [])
unfolding body_of
joined version [] a = sym (append-nil (attribute_bytes version a))
joined version (x ∷ before) a =
    append_assoc (attribute_bytes version x) (body_of version before) (attribute_bytes version a) ∙ ap (λ (l : List ℕ). attribute_bytes version x ++ l) (joined version before a)

further : (version : ℕ) (front : List ℕ) (before : List Attribute) (a : Attribute) (now next : List ℕ) → now ≡ front ++ body_of version before → next ≡ now ++ attribute_bytes version a
    → next ≡ front ++ body_of version (before ++ a ∷ [])
further version front before a now next e f =
    f ∙ ap (λ (l : List ℕ). l ++ attribute_bytes version a) e ∙ append_assoc front (body_of version before) (attribute_bytes version a)
    ∙ ap (λ (l : List ℕ). front ++ l) (joined version before a)

pub two_body : (version : ℕ) (to : List ℕ) (a b : Attribute) (at1 at2 : List ℕ) → at1 ≡ (to ++ head_room) ++ attribute_bytes version a → at2 ≡ at1 ++ attribute_bytes version b
    → at2 ≡ (to ++ head_room) ++ body_of version (a ∷ b ∷ [])
two_body version to a b at1 at2 e f = further version (to ++ head_room) (a ∷ []) b at1 at2 (one_body version to a at1 e) f

pub three_body : (version : ℕ) (to : List ℕ) (a b c : Attribute) (at1 at2 at3 : List ℕ) → at1 ≡ (to ++ head_room) ++ attribute_bytes version a → at2 ≡ at1 ++ attribute_bytes version b → at3 ≡ at2 ++ attribute_bytes version c
    → at3 ≡ (to ++ head_room) ++ body_of version (a ∷ b ∷ c ∷ [])
three_body version to a b c at1 at2 at3 e f g = further version (to ++ head_room) (a ∷ b ∷ []) c at2 at3 (two_body version to a b at1 at2 e f) g

pub four_body : (version : ℕ) (to : List ℕ) (a b c d : Attribute) (at1 at2 at3 at4 : List ℕ) → at1 ≡ (to ++ head_room) ++ attribute_bytes version a → at2 ≡ at1 ++ attribute_bytes version b → at3 ≡ at2 ++ attribute_bytes version c
    → at4 ≡ at3 ++ attribute_bytes version d → at4 ≡ (to ++ head_room) ++ body_of version (a ∷ b ∷ c ∷ d ∷ [])
four_body version to a b c d at1 at2 at3 at4 e f g h = further version (to ++ head_room) (a ∷ b ∷ c ∷ []) d at3 at4 (three_body version to a b c at1 at2 at3 e f g) h

-- The room that attributes take.
abbrev pub room_of : List Attribute → ℕ
room_of [] = 0
room_of (a ∷ others) = (4 + length a.bytes) + room_of others

pub room_len : (version : ℕ) (attributes : List Attribute) → length (body_of version attributes) ≤ room_of attributes
unfolding body_of
room_len version [] = omega (arith)
room_len version (a ∷ others) = omega (arith, length-append (attribute_bytes version a) (body_of version others), attribute_len version a, room_len version others)

-- ---- the frame around them

-- It can be finished.
pub can_finish : (version start : ℕ) (attributes : List Attribute) (to now : List ℕ) → start ≡ length to → now ≡ (to ++ head_room) ++ body_of version attributes → room_of attributes < 2 ^ 32
    → (start + 10 ≤ length now) × (length now < start + 10 + 2 ^ 32)
can_finish version start attributes to now at is short =
    let body : List ℕ = body_of version attributes in
    let whole : length now ≡ length to + 10 + length body = ap length is ∙ length-append (to ++ head_room) body ∙ ap (λ (n : ℕ). n + length body) (length-append to head_room) in
    let few = room_len version attributes in
    (omega (arith, at, whole), omega (arith, at, whole, few, short))

pub finished : (number start : ℕ) (to body now written : List ℕ) → start ≡ length to → now ≡ (to ++ head_room) ++ body → written ≡ take start now ++ frame_of number (drop (start + 10) now) → written ≡ to ++ frame_of number body
finished number start to body now written at is framed =
    let front : take (length to) now ≡ to = ap (take (length to)) (is ∙ append_assoc to head_room body) ∙ take-append_seam to (head_room ++ body) in
    let place : length to + 10 ≡ length (to ++ head_room) = sym (length-append to head_room) in
    let back : drop (length to + 10) now ≡ body = ap (λ (n : ℕ). drop n now) place ∙ ap (drop (length (to ++ head_room))) is ∙ drop-append_seam (to ++ head_room) body in
    framed ∙ ap (λ (n : ℕ). take n now ++ frame_of number (drop (n + 10) now)) at
    ∙ ap (λ (l : List ℕ). l ++ frame_of number (drop (length to + 10) now)) front ∙ ap (λ (l : List ℕ). to ++ frame_of number l) back

-- ---- attributes by their values

-- A path, or another of a command's texts, as an attribute.
abbrev pub text_of : ℕ → List ℕ → Attribute
text_of kind bytes = record { kind = kind; bytes = bytes }

-- A number as an attribute.
abbrev pub count_of : ℕ → ℕ → Attribute
count_of kind n = record { kind = kind; bytes = field_bytes (Number n) }

-- A moment as an attribute.
abbrev pub moment_of : ℕ → Time → Attribute
moment_of kind time = record { kind = kind; bytes = field_bytes (Moment time) }

-- ---- the commands of which more is asked

-- The attributes of each, by its values.
abbrev pub made_attributes : List ℕ → List Attribute
made_attributes path = number_zero ∷ text_of PATH path ∷ []

abbrev pub device_attributes : ℕ → ℕ → List ℕ → List Attribute
device_attributes mode rdev path = number_zero ∷ count_of MODE mode ∷ count_of RDEV rdev ∷ text_of PATH path ∷ []

abbrev pub symlink_attributes : List ℕ → List ℕ → List Attribute
symlink_attributes path path_link = number_zero ∷ text_of PATH path ∷ text_of PATH_LINK path_link ∷ []

abbrev pub times_attributes : Time → Time → List ℕ → List Attribute
times_attributes mtime atime path = moment_of CTIME mtime ∷ moment_of MTIME mtime ∷ moment_of ATIME atime ∷ text_of PATH path ∷ []

pub device_is : (version mode rdev : ℕ) (path : List ℕ) → frame_of 5 (body_of version (device_attributes mode rdev path)) ≡ receivable version (MkNod mode rdev path)
unfolding receivable receivable_attributes attributes_of row
device_is version mode rdev path = refl

pub symlink_is : (version : ℕ) (path path_link : List ℕ) → frame_of 8 (body_of version (symlink_attributes path path_link)) ≡ receivable version (Symlink path path_link)
unfolding receivable receivable_attributes attributes_of row
symlink_is version path path_link = refl

pub times_are : (version : ℕ) (mtime atime : Time) (path : List ℕ) → frame_of 20 (body_of version (times_attributes mtime atime path)) ≡ receivable version (Utimes mtime atime path)
unfolding receivable receivable_attributes attributes_of row
times_are version mtime atime path = refl

-- An attribute that is not DATA has a length, so its bytes have room for it.
pub short_text : (version kind len : ℕ) → (kind == DATA) ≡ false → HasRoom version kind len → len < 2 ^ 16
short_text version kind len other room = room (and_right (version == 2) (kind == DATA) other)

-- ---- a command of which nothing more is asked

pub plain_is : (version : ℕ) (c : Command) → asked_for c ≡ [] → canonical version c ≡ receivable version c
unfolding canonical receivable receivable_attributes
plain_is version c none = sym (ap (λ (more : List Attribute). frame_of (row (kind_of c)).number (body_of version (more ++ attributes_of c))) none)

-- ---- the writer

-- One attribute more, by a writer of a version.
pub by_writer : (version said : ℕ) (to now : List ℕ) (a : Attribute) → said ≡ version → now ≡ to ++ attribute_bytes said a → now ≡ to ++ attribute_bytes version a
by_writer version said to now a e is = is ∙ ap (λ (v : ℕ). to ++ attribute_bytes v a) e

-- The same of an attribute whose bytes are those of another word.
pub with_bytes : (version said kind : ℕ) (to now bytes other : List ℕ) → said ≡ version → bytes ≡ other → now ≡ to ++ attribute_bytes said (text_of kind bytes) → now ≡ to ++ attribute_bytes version (text_of kind other)
with_bytes version said kind to now bytes other e same is =
    by_writer version said to now (text_of kind bytes) e is ∙ ap (λ (b : List ℕ). to ++ attribute_bytes version (text_of kind b)) same
