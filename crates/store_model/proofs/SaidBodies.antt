-- Whether a body is that of a group, and of which one: each body of bytes says something, or it
-- says nothing.
use Rattle.std.specs.Prelude.{◌≡◌, ◌⊎◌, ℕ, zero, suc, ◌-◌, ◌<◌, ◌≤◌, Bool, true, false, List, [], ◌∷◌, ◌++◌, length, take, drop, get_or, Result, Ok, Err}
use Rattle.std.specs.List.{AllByRecursion}
use Rattle.std.specs.Int.{w32, to_le_bytes}
use Rattle.std.specs.Str.{bytes_eq}
use Rattle.std.proofs.Common.{inl, inr, refl, sym, ap, subst, ◌∙◌, arith, length-append, length-take, length-drop, append-nil, get_or-drop, drop-drop}
use Rattle.std.proofs.lemmas.Bool.{true≢false, cases_lt, cases_eq}
use Rattle.std.proofs.lemmas.List.{take-append-drop, drop_at}
use Rattle.std.proofs.Math.Seq.{drop-cons}
use Rattle.send_model.specs.Refusal.{Refusal}
use Rattle.send_model.specs.Attribute.{IsBytes}
use Rattle.send_model.specs.Checksum.{crc_of}
use Rattle.send_model.specs.Command.{Command, End}
use Rattle.send_model.specs.Spelling.{canonical, canonical_all, IsSpellable}
use Rattle.send_model.specs.Reading.{Front, is_version, item_at, front_of}
use Rattle.store_model.specs.Image.{sealed}
use Rattle.store_model.specs.Stored.{Content, Mark, Body, Drop, Group, number_of, content_bytes, body_bytes, is_edit, IsEdit, IsContent, IsGroup}
use Rattle.send_model.proofs.Stores.{bytes_eq_same, bytes_eq_true}
use Rattle.send_model.proofs.Sound.{bytes_take, bytes_drop}
use Rattle.send_model.proofs.Canonical.{canonical_spells, spelled_front, spelled_spellable}
use Rattle.send_model.proofs.ReadSpelled.{read_was_spelled}
use Rattle.send_model.proofs.Streams.{canonical_long}
use Rattle.send_model.proofs.Fuel.{ok_same}
use Rattle.store_model.proofs.OneSaying.{frame_one, number_in, number_known, sealed_by, plain_by, seal_is, plain_is}

-- bytes are those, or others
pub same_bytes : (xs ys : List ℕ) → (xs ≡ ys) ⊎ (xs ≡ ys → ⊥)
same_bytes xs ys = one (bytes_eq xs ys) refl
  where
    one : (b : Bool) → bytes_eq xs ys ≡ b → (xs ≡ ys) ⊎ (xs ≡ ys → ⊥)
    one true e = inl (bytes_eq_true xs ys e)
    one false e = inr (λ same. true≢false (sym (bytes_eq_same xs) ∙ ap (bytes_eq xs) same ∙ e))

-- ---- a frame in front

-- A command whose canonical frame stands in front, and what follows it; or there is none.
abbrev Frames : ℕ → List ℕ → Type 0
Frames version bytes = (c : Command) × (rest : List ℕ) × IsSpellable version c × (bytes ≡ canonical version c ++ rest)

frame_in_front : (version : ℕ) (bytes : List ℕ) → IsBytes bytes → Frames version bytes ⊎ (Frames version bytes → ⊥)
frame_in_front version bytes are = one (front_of 1 version 1 0 bytes) refl
  where
    read : (f : Frames version bytes) → front_of 1 version 1 0 bytes ≡ Ok (record { item = item_at 1 version 1 0 (canonical_spells version f.0 f.2).attributes f.0; rest = f.1 })
    read f = ap (front_of 1 version 1 0) f.3 ∙ spelled_front 1 version 1 0 (canonical version f.0) f.1 f.0 (canonical_spells version f.0 f.2)

    two : (front : Front) → front_of 1 version 1 0 bytes ≡ Ok front → (bytes ≡ canonical version front.item.command ++ front.rest) ⊎ (bytes ≡ canonical version front.item.command ++ front.rest → ⊥)
        → Frames version bytes ⊎ (Frames version bytes → ⊥)
    two front e (inl is) = inl (front.item.command, front.rest, spelled_spellable version _ front.item.command (read_was_spelled 1 version 1 0 bytes front are e).spells, is)
    two front e (inr not) = inr (λ f.
        let same : record { item = item_at 1 version 1 0 (canonical_spells version f.0 f.2).attributes f.0; rest = f.1 } ≡ front = ok_same (sym (read f) ∙ e) in
        not (f.3 ∙ ap (λ (x : Front). canonical version x.item.command ++ x.rest) same))

    one : (r : Result Front Refusal) → front_of 1 version 1 0 bytes ≡ r → Frames version bytes ⊎ (Frames version bytes → ⊥)
    one (Ok front) e = two front e (same_bytes bytes (canonical version front.item.command ++ front.rest))
    one (Err refusal) e = inr (λ f. not_both (sym (read f) ∙ e))
      where
        not_both : {x : Front} → ◌≡◌ {A = Result Front Refusal} (Ok x) (Err refusal) → ⊥
        not_both q = cc

-- ---- frames up to the end

abbrev AreFrames : ℕ → List ℕ → Type 0
AreFrames version bytes = (cs : List Command) × AllByRecursion (IsEdit version) cs × (bytes ≡ canonical_all version cs)

-- the first of them
first_frame : (version b : ℕ) (bytes : List ℕ) → AreFrames version (b ∷ bytes) → (c : Command) × (cs : List Command) × IsEdit version c × AllByRecursion (IsEdit version) cs × (b ∷ bytes ≡ canonical version c ++ canonical_all version cs)
unfolding canonical_all
first_frame version b bytes ([], are, is) = absurd (omega (arith, ap length is))
first_frame version b bytes ((c ∷ cs), are, is) = (c, cs, are.0, are.1, is)

frames_to_end : (fuel version : ℕ) (bytes : List ℕ) → length bytes ≤ fuel → IsBytes bytes → AreFrames version bytes ⊎ (AreFrames version bytes → ⊥)
unfolding canonical_all
frames_to_end fuel version [] enough are = inl ([], tt, refl)
frames_to_end zero version (b ∷ bytes) enough are = absurd (omega (arith, enough))
frames_to_end (suc fuel) version (b ∷ bytes) enough are = one (frame_in_front version (b ∷ bytes) are) (λ rest less small. frames_to_end fuel version rest less small)
  where
    three : (f : Frames version (b ∷ bytes)) → is_edit f.0 ≡ true → AreFrames version f.1 ⊎ (AreFrames version f.1 → ⊥) → AreFrames version (b ∷ bytes) ⊎ (AreFrames version (b ∷ bytes) → ⊥)
    three f edit (inl more) = inl (f.0 ∷ more.0, ((edit, f.2), more.1), f.3 ∙ ap (λ (l : List ℕ). canonical version f.0 ++ l) more.2)
    three f edit (inr none) = inr (λ all.
        let first = first_frame version b bytes all in
        let same = frame_one version f.0 first.0 f.1 (canonical_all version first.1) f.2 first.2.1 (sym f.3 ∙ first.4) in
        none (first.1, first.3, same.1))

    two : (f : Frames version (b ∷ bytes)) → (t : Bool) → is_edit f.0 ≡ t → AreFrames version f.1 ⊎ (AreFrames version f.1 → ⊥) → AreFrames version (b ∷ bytes) ⊎ (AreFrames version (b ∷ bytes) → ⊥)
    two f true e rest = three f e rest
    two f false e rest = inr (λ all.
        let first = first_frame version b bytes all in
        let same = frame_one version f.0 first.0 f.1 (canonical_all version first.1) f.2 first.2.1 (sym f.3 ∙ first.4) in
        true≢false (sym first.2.0 ∙ ap is_edit (sym same.0) ∙ e))

    one : Frames version (b ∷ bytes) ⊎ (Frames version (b ∷ bytes) → ⊥) → ((rest : List ℕ) → length rest ≤ fuel → IsBytes rest → AreFrames version rest ⊎ (AreFrames version rest → ⊥))
        → AreFrames version (b ∷ bytes) ⊎ (AreFrames version (b ∷ bytes) → ⊥)
    one (inl f) more =
        let size = ap length f.3 in
        let less : length f.1 ≤ fuel = omega (arith, size, length-append (canonical version f.0) f.1, canonical_long version f.0, enough) in
        let small : IsBytes f.1 = bytes_behind (canonical version f.0) f.1 (subst IsBytes f.3 are) in
        two f (is_edit f.0) refl (more f.1 less small)
      where
        bytes_behind : (xs ys : List ℕ) → IsBytes (xs ++ ys) → IsBytes ys
        bytes_behind [] ys h = h
        bytes_behind (x ∷ xs) ys h = bytes_behind xs ys h.1
    one (inr none) more = inr (λ all. let first = first_frame version b bytes all in none (first.0, canonical_all version first.1, first.2.1, first.4))

-- ---- what stands behind the number of a kind

abbrev Said : List ℕ → (Content → Type 0) → Type 0
Said bytes P = (c : Content) × IsContent c × P c × (content_bytes c ≡ bytes)

pub data IsMark : Content → Type 0 where
  a_mark : {head : Command} → IsMark (Mark head)

pub data IsBody : Content → Type 0 where
  a_body : {uuid : List ℕ} {version : ℕ} {commands : List Command} → IsBody (Body uuid version commands)

pub data IsDrop : Content → Type 0 where
  a_drop : {name : List ℕ} → IsDrop (Drop name)

mark_said : (bytes : List ℕ) → IsBytes bytes → Said bytes IsMark ⊎ (Said bytes IsMark → ⊥)
mark_said bytes are = one (frame_in_front 1 bytes are)
  where
    alone : (f : Frames 1 bytes) → (rest : List ℕ) → f.1 ≡ rest → Said bytes IsMark ⊎ (Said bytes IsMark → ⊥)
    alone f [] e = inl (Mark f.0, f.2, a_mark, sym (f.3 ∙ ap (λ (l : List ℕ). canonical 1 f.0 ++ l) e ∙ append-nil (canonical 1 f.0)))
    alone f (b ∷ rest) e = inr (λ s. none s.0 s.1 s.2 s.3)
      where
        none : (c : Content) → IsContent c → IsMark c → content_bytes c ≡ bytes → ⊥
        none (Mark head) said m is =
            let same = frame_one 1 head f.0 [] f.1 said f.2 (append-nil (canonical 1 head) ∙ is ∙ f.3) in
            absurd (omega (arith, ap length (same.1 ∙ e)))
        none (Body uuid version commands) said m is = elim m [ ]
        none (Drop name) said m is = elim m [ ]

    one : Frames 1 bytes ⊎ (Frames 1 bytes → ⊥) → Said bytes IsMark ⊎ (Said bytes IsMark → ⊥)
    one (inl f) = alone f f.1 refl
    one (inr no_frame) = inr (λ s. none s.0 s.1 s.2 s.3)
      where
        none : (c : Content) → IsContent c → IsMark c → content_bytes c ≡ bytes → ⊥
        none (Mark head) said m is = no_frame (head, [], said, sym is ∙ sym (append-nil (canonical 1 head)))
        none (Body uuid version commands) said m is = elim m [ ]
        none (Drop name) said m is = elim m [ ]

-- the uuid, the version and the frames of a Body
body_parts : (bytes : List ℕ) → 17 ≤ length bytes → bytes ≡ take 16 bytes ++ get_or bytes 16 0 ∷ drop 17 bytes
body_parts bytes long = sym (take-append-drop 16 bytes) ∙ ap (λ (l : List ℕ). take 16 bytes ++ l) (drop-cons bytes 16 0 (omega (arith, long)))

pub parts_of_body : (uuid : List ℕ) (version : ℕ) (frames bytes : List ℕ) → length uuid ≡ 16 → uuid ++ version ∷ frames ≡ bytes → (17 ≤ length bytes) × (version ≡ get_or bytes 16 0) × (frames ≡ drop 17 bytes)
parts_of_body uuid version frames bytes size is =
    let rest : drop 16 bytes ≡ version ∷ frames = ap (drop 16) (sym is) ∙ drop_at uuid (version ∷ frames) 16 size in (
      omega (arith, ap length is, length-append uuid (version ∷ frames), size),
      sym (sym (get_or-drop 16 bytes 0 0) ∙ ap (λ (l : List ℕ). get_or l 0 0) rest),
      sym (sym (drop-drop 1 16 bytes) ∙ ap (λ (l : List ℕ). drop 1 l) rest),
    )

body_said : (bytes : List ℕ) → IsBytes bytes → Said bytes IsBody ⊎ (Said bytes IsBody → ⊥)
body_said bytes are = long (cases_lt (length bytes) 17)
  where
    version : ℕ
    version = get_or bytes 16 0

    none_by : ((uuid : List ℕ) (cs : List Command) → 17 ≤ length bytes → is_version version ≡ true → AllByRecursion (IsEdit version) cs → drop 17 bytes ≡ canonical_all version cs → ⊥) → Said bytes IsBody → ⊥
    none_by refutes s = none s.0 s.1 s.2 s.3
      where
        none : (c : Content) → IsContent c → IsBody c → content_bytes c ≡ bytes → ⊥
        none (Body uuid v cs) said b is =
            let p = parts_of_body uuid v (canonical_all v cs) bytes said.0 is in
            refutes uuid cs p.0 (subst (λ (n : ℕ). is_version n ≡ true) p.1 said.1) (subst (λ (n : ℕ). AllByRecursion (IsEdit n) cs) p.1 said.2) (sym p.2 ∙ ap (λ (n : ℕ). canonical_all n cs) p.1)
        none (Mark head) said b is = elim b [ ]
        none (Drop name) said b is = elim b [ ]

    frames : 17 ≤ length bytes → is_version version ≡ true → AreFrames version (drop 17 bytes) ⊎ (AreFrames version (drop 17 bytes) → ⊥) → Said bytes IsBody ⊎ (Said bytes IsBody → ⊥)
    frames enough known (inl all) =
        inl (Body (take 16 bytes) version all.0, (omega (arith, length-take 16 bytes, enough), known, all.1), a_body, ap (λ (l : List ℕ). take 16 bytes ++ version ∷ l) (sym all.2) ∙ sym (body_parts bytes enough))
    frames enough known (inr not) = inr (none_by (λ uuid cs more v edits is. not (cs, edits, is)))

    read : 17 ≤ length bytes → (b : Bool) → is_version version ≡ b → Said bytes IsBody ⊎ (Said bytes IsBody → ⊥)
    read enough true known = frames enough known (frames_to_end (length (drop 17 bytes)) version (drop 17 bytes) (omega arith) (bytes_drop 17 bytes are))
    read enough false known = inr (none_by (λ uuid cs more v edits is. true≢false (sym v ∙ known)))

    long : (length bytes < 17) ⊎ (17 ≤ length bytes) → Said bytes IsBody ⊎ (Said bytes IsBody → ⊥)
    long (inl short) = inr (none_by (λ uuid cs enough v edits is. absurd (omega (arith, short, enough))))
    long (inr enough) = read enough (is_version version) refl

drop_said : (bytes : List ℕ) → Said bytes IsDrop
drop_said bytes = (Drop bytes, tt, a_drop, refl)

-- ---- by the number of the kind

-- What has this number and stands behind it.
abbrev OfNumber : Bool → ℕ → List ℕ → Type 0
OfNumber s n bytes = (c : Content) × IsContent c × (number_of s c ≡ n) × (content_bytes c ≡ bytes)

is_mark : (s : Bool) (c : Content) → number_of s c ≡ number_of s (Mark End) → IsMark c
is_mark s (Mark head) e = a_mark
is_mark true (Body uuid version commands) e = absurd (omega (arith, e))
is_mark false (Body uuid version commands) e = absurd (omega (arith, e))
is_mark true (Drop name) e = absurd (omega (arith, e))
is_mark false (Drop name) e = absurd (omega (arith, e))

is_body : (s : Bool) (c : Content) → number_of s c ≡ number_of s (Body [] 1 []) → IsBody c
is_body s (Body uuid version commands) e = a_body
is_body true (Mark head) e = absurd (omega (arith, e))
is_body false (Mark head) e = absurd (omega (arith, e))
is_body true (Drop name) e = absurd (omega (arith, e))
is_body false (Drop name) e = absurd (omega (arith, e))

mark_number : (s : Bool) (c : Content) → IsMark c → number_of s c ≡ number_of s (Mark End)
mark_number s (Mark head) m = refl
mark_number s (Body uuid version commands) m = elim m [ ]
mark_number s (Drop name) m = elim m [ ]

body_number : (s : Bool) (c : Content) → IsBody c → number_of s c ≡ number_of s (Body [] 1 [])
body_number s (Body uuid version commands) m = refl
body_number s (Mark head) m = elim m [ ]
body_number s (Drop name) m = elim m [ ]

-- one of three
other_number : (s : Bool) (c : Content) (n : ℕ) → number_of s c ≡ n → (n ≡ number_of s (Mark End) → ⊥) → (n ≡ number_of s (Body [] 1 []) → ⊥) → (n ≡ number_of s (Drop []) → ⊥) → ⊥
other_number s (Mark head) n e a b d = a (sym e)
other_number s (Body uuid version commands) n e a b d = b (sym e)
other_number s (Drop name) n e a b d = d (sym e)

by_number : (s : Bool) (n : ℕ) (bytes : List ℕ) → IsBytes bytes → OfNumber s n bytes ⊎ (OfNumber s n bytes → ⊥)
by_number s n bytes are = first (cases_eq n (number_of s (Mark End))) (cases_eq n (number_of s (Body [] 1 []))) (cases_eq n (number_of s (Drop [])))
  where
    mark : n ≡ number_of s (Mark End) → Said bytes IsMark ⊎ (Said bytes IsMark → ⊥) → OfNumber s n bytes ⊎ (OfNumber s n bytes → ⊥)
    mark e (inl said) = inl (said.0, said.1, mark_number s said.0 said.2 ∙ sym e, said.3)
    mark e (inr not) = inr (λ o. not (o.0, o.1, is_mark s o.0 (o.2 ∙ e), o.3))

    body : n ≡ number_of s (Body [] 1 []) → Said bytes IsBody ⊎ (Said bytes IsBody → ⊥) → OfNumber s n bytes ⊎ (OfNumber s n bytes → ⊥)
    body e (inl said) = inl (said.0, said.1, body_number s said.0 said.2 ∙ sym e, said.3)
    body e (inr not) = inr (λ o. not (o.0, o.1, is_body s o.0 (o.2 ∙ e), o.3))

    first : (n ≡ number_of s (Mark End)) ⊎ (n ≡ number_of s (Mark End) → ⊥) → (n ≡ number_of s (Body [] 1 [])) ⊎ (n ≡ number_of s (Body [] 1 []) → ⊥) → (n ≡ number_of s (Drop [])) ⊎ (n ≡ number_of s (Drop []) → ⊥)
        → OfNumber s n bytes ⊎ (OfNumber s n bytes → ⊥)
    first (inl e) b d = mark e (mark_said bytes are)
    first (inr a) (inl e) d = body e (body_said bytes are)
    first (inr a) (inr b) (inl e) = inl (Drop bytes, tt, sym e, refl)
    first (inr a) (inr b) (inr d) = inr (λ o. other_number s o.0 n o.2 a b d)

-- ---- the body of a group

abbrev pub OfGroup : ℕ → List ℕ → Type 0
OfGroup format body = (g : Group) × IsGroup format g × (body_bytes g ≡ body)

plain_said : (format n : ℕ) (rest : List ℕ) → n < 4 → IsBytes rest → (format ≡ 1) ⊎ (format ≡ 1 → ⊥) → OfGroup format (n ∷ rest) ⊎ (OfGroup format (n ∷ rest) → ⊥)
plain_said format n rest below are (inr not) = inr (λ g. not (g.1.old (plain_by g.0 (omega (arith, number_in g.0 (n ∷ rest) g.2, below)))))
plain_said format n rest below are (inl old) = one (by_number false n rest are)
  where
    one : OfNumber false n rest ⊎ (OfNumber false n rest → ⊥) → OfGroup format (n ∷ rest) ⊎ (OfGroup format (n ∷ rest) → ⊥)
    one (inl o) = inl (record { content = o.0; is_sealed = false }, record { content = o.1; old = λ e. old }, λ i. o.2 i ∷ o.3 i)
    one (inr not) = inr (λ g.
        let own : g.0.is_sealed ≡ false = plain_by g.0 (omega (arith, number_in g.0 (n ∷ rest) g.2, below)) in
        let is = plain_is g.0 (n ∷ rest) own g.2 in
        not (g.0.content, g.1.content, ap (λ (l : List ℕ). get_or l 0 0) is, ap (λ (l : List ℕ). drop 1 l) is))

-- with a checksum behind it
sealed_said : (format n : ℕ) (rest sum : List ℕ) → 3 < n → length sum ≡ 4 → IsBytes rest → OfGroup format (n ∷ rest ++ sum) ⊎ (OfGroup format (n ∷ rest ++ sum) → ⊥)
sealed_said format n rest sum above four are = two (same_bytes sum (to_le_bytes w32 (crc_of 0 (n ∷ rest))))
  where
    seal : (g : OfGroup format (n ∷ rest ++ sum)) → (number_of true g.0.content ∷ content_bytes g.0.content ≡ n ∷ rest) × (sum ≡ to_le_bytes w32 (crc_of 0 (n ∷ rest)))
    seal g = seal_is g.0 (n ∷ rest) sum four (sealed_by g.0 (omega (arith, number_in g.0 (n ∷ rest ++ sum) g.2, above))) g.2

    one : sum ≡ to_le_bytes w32 (crc_of 0 (n ∷ rest)) → OfNumber true n rest ⊎ (OfNumber true n rest → ⊥) → OfGroup format (n ∷ rest ++ sum) ⊎ (OfGroup format (n ∷ rest ++ sum) → ⊥)
    one e (inl o) =
        let said : number_of true o.0 ∷ content_bytes o.0 ≡ n ∷ rest = λ i. o.2 i ∷ o.3 i in
        inl (record { content = o.0; is_sealed = true }, record { content = o.1; old = λ q. absurd (true≢false q) }, ap sealed said ∙ ap (λ (l : List ℕ). (n ∷ rest) ++ l) (sym e))
    one e (inr not) = inr (λ g. let is = (seal g).0 in not (g.0.content, g.1.content, ap (λ (l : List ℕ). get_or l 0 0) is, ap (λ (l : List ℕ). drop 1 l) is))

    two : (sum ≡ to_le_bytes w32 (crc_of 0 (n ∷ rest))) ⊎ (sum ≡ to_le_bytes w32 (crc_of 0 (n ∷ rest)) → ⊥) → OfGroup format (n ∷ rest ++ sum) ⊎ (OfGroup format (n ∷ rest ++ sum) → ⊥)
    two (inl e) = one e (by_number true n rest are)
    two (inr not) = inr (λ g. not (seal g).1)

-- a body with a checksum is longer than that
sealed_long : (g : Group) → g.is_sealed ≡ true → 5 ≤ length (body_bytes g)
sealed_long g own = subst (λ (s : Bool). 5 ≤ length (body_bytes (record { content = g.content; is_sealed = s }))) (sym own)
    (omega (arith, length-append (number_of true g.content ∷ content_bytes g.content) (to_le_bytes w32 (crc_of 0 (number_of true g.content ∷ content_bytes g.content)))))

-- Each body of bytes is that of a group, or of none.
pub body_decided : (format : ℕ) (body : List ℕ) → IsBytes body → OfGroup format body ⊎ (OfGroup format body → ⊥)
body_decided format [] are = inr (λ g. absurd (omega (arith, number_in g.0 [] g.2, number_known g.0)))
body_decided format (n ∷ rest) are = one (cases_lt n 4) (cases_lt (length rest) 4)
  where
    one : (n < 4) ⊎ (4 ≤ n) → (length rest < 4) ⊎ (4 ≤ length rest) → OfGroup format (n ∷ rest) ⊎ (OfGroup format (n ∷ rest) → ⊥)
    one (inl below) size = plain_said format n rest below are.1 (cases_eq format 1)
    one (inr above) (inl short) =
        inr (λ g. absurd (omega (arith, sealed_long g.0 (sealed_by g.0 (omega (arith, number_in g.0 (n ∷ rest) g.2, above))), ap length g.2, short)))
    one (inr above) (inr enough) =
        let k : ℕ = length rest - 4 in
        let split : take k rest ++ drop k rest ≡ rest = take-append-drop k rest in
        subst (λ (l : List ℕ). OfGroup format (n ∷ l) ⊎ (OfGroup format (n ∷ l) → ⊥)) split
        (sealed_said format n (take k rest) (drop k rest) (omega (arith, above)) (omega (arith, length-drop k rest, enough)) (bytes_take k rest are.1))
