-- Bodies that have edits, and where these are in them.
use Rattle.std.specs.Prelude.{◌≡◌, ℕ, ◌+◌, ◌-◌, ◌<◌, ◌≤◌, Bool, true, false, not, List, [], ◌∷◌, ◌++◌, length, take, drop, get_or, Option, None, Some, if◌then◌else◌}
use Rattle.std.specs.Str.{bytes_eq}
use Rattle.std.proofs.Common.{refl, sym, ap, subst, ◌∙◌, arith, length-append, append_assoc, append-nil, drop-drop, get_or-drop, lit<, lit≤, ⊎_elim}
use Rattle.std.proofs.lemmas.Bool.{true≢false}
use Rattle.std.proofs.lemmas.List.{take_at, get_or-take, drop-take, take-take}
use Rattle.std.specs.Int.{w32, to_le_bytes}
use Rattle.send_model.specs.Checksum.{crc_of}
use Rattle.send_model.specs.Command.{Command}
use Rattle.send_model.specs.Spelling.{canonical_all}
use Rattle.send_model.specs.Reading.{is_version}
use Rattle.send_model.proofs.Stores.{bytes_eq_same, bytes_eq_true}
use Rattle.send_model.proofs.Streams.{read_version}
use Rattle.store_model.specs.Stored.{Content, Mark, Body, Drop, Group, IsContent, IsGroup, body_bytes}
use Rattle.store_model.proofs.SaidBodies.{parts_of_body}
use Rattle.stream_model.specs.OwnStream.{Edits, edits_in}
use Rattle.edits_copy.specs.Finding.{seal_by, IsPlaceIn}

-- What the body of a group with edits is.
pub record IsEditsBody (content : Content) (body : List ℕ) (seal : ℕ) : Type 0 where
  pub uuid : List ℕ
  pub version : ℕ
  pub commands : List Command
  pub is : content ≡ Body uuid version commands
  pub sixteen : length uuid ≡ 16
  pub known : is_version version ≡ true
  pub first : ℕ
  pub sum : List ℕ
  pub size : length sum ≡ seal
  pub bytes : body ≡ first ∷ ((uuid ++ version ∷ canonical_all version commands) ++ sum)

some_is : {a b : ℕ} → ◌≡◌ {A = Option ℕ} (Some a) (Some b) → a ≡ b
some_is {a} e = ap (λ (o : Option ℕ). elim o as (λ x. ℕ) [ None ↦ a | Some x ↦ x ]) e

edits_body : (content : Content) (is_sealed : Bool) (seal : ℕ) → IsContent content → seal_by (get_or (body_bytes (record { content = content; is_sealed = is_sealed })) 0 0) ≡ Some seal
    → IsEditsBody content (body_bytes (record { content = content; is_sealed = is_sealed })) seal
edits_body (Mark head) true seal said e = cc
edits_body (Mark head) false seal said e = cc
edits_body (Drop name) true seal said e = cc
edits_body (Drop name) false seal said e = cc
edits_body (Body uuid version commands) true seal said e = record {
  uuid = uuid;
  version = version;
  commands = commands;
  is = refl;
  sixteen = said.0;
  known = said.1;
  first = 5;
  sum = to_le_bytes w32 (crc_of 0 (5 ∷ (uuid ++ version ∷ canonical_all version commands)));
  size = some_is e;
  bytes = refl;
}
edits_body (Body uuid version commands) false seal said e = record {
  uuid = uuid;
  version = version;
  commands = commands;
  is = refl;
  sixteen = said.0;
  known = said.1;
  first = 2;
  sum = [];
  size = some_is e;
  bytes = ap (λ (l : List ℕ). 2 ∷ l) (sym (append-nil (uuid ++ version ∷ canonical_all version commands)));
}

-- ---- by the first bytes

module _ (content : Content) (body : List ℕ) (seal len : ℕ) (b : IsEditsBody content body seal) (size : length body ≡ len) where
  said : List ℕ
  said = b.uuid ++ b.version ∷ canonical_all b.version b.commands

  behind : drop 1 body ≡ b.uuid ++ b.version ∷ (canonical_all b.version b.commands ++ b.sum)
  behind = ap (λ (l : List ℕ). drop 1 l) b.bytes ∙ append_assoc b.uuid (b.version ∷ canonical_all b.version b.commands) b.sum

  parts : (17 ≤ length (drop 1 body)) × (b.version ≡ get_or (drop 1 body) 16 0) × (canonical_all b.version b.commands ++ b.sum ≡ drop 17 (drop 1 body))
  parts = parts_of_body b.uuid b.version (canonical_all b.version b.commands ++ b.sum) (drop 1 body) b.sixteen (sym behind)

  pub version_is : get_or body 17 0 ≡ b.version
  version_is = sym (get_or-drop 1 body 16 0) ∙ sym parts.1

  pub uuid_is : take 16 (drop 1 body) ≡ b.uuid
  uuid_is = ap (λ (l : List ℕ). take 16 l) behind ∙ take_at b.uuid (b.version ∷ (canonical_all b.version b.commands ++ b.sum)) 16 b.sixteen

  frames : drop 18 body ≡ canonical_all b.version b.commands ++ b.sum
  frames = sym (drop-drop 17 1 body) ∙ sym parts.2

  pub frames_are : take (len - seal - 18) (drop 18 body) ≡ canonical_all b.version b.commands
  frames_are =
      let long : len ≡ 18 + length (canonical_all b.version b.commands) + seal =
      omega (arith, size, ap length b.bytes, length-append (b.uuid ++ b.version ∷ canonical_all b.version b.commands) b.sum, length-append b.uuid (b.version ∷ canonical_all b.version b.commands), b.sixteen, b.size) in
      ap (λ (l : List ℕ). take (len - seal - 18) l) frames
      ∙ take_at (canonical_all b.version b.commands) b.sum (len - seal - 18) (omega (arith, long))

-- The place of the edits of a uuid in such a body.
pub place_found : (format at len seal : ℕ) (uuid body : List ℕ) (g : Group) (version : ℕ) → IsGroup format g → body_bytes g ≡ body → length body ≡ len → 18 + seal ≤ len → seal_by (get_or body 0 0) ≡ Some seal
    → get_or body 17 0 ≡ version → take 16 (drop 1 body) ≡ uuid → IsPlaceIn at body (edits_in uuid g.content) (Some (record { version = version; from = at + 18; to = at + len - seal }))
place_found format at len seal uuid body g version is own size long sealed v u =
    let b : IsEditsBody g.content body seal = subst (λ (l : List ℕ). IsEditsBody g.content l seal) own (edits_body g.content g.is_sealed seal is.content (ap (λ (l : List ℕ). seal_by (get_or l 0 0)) own ∙ sealed)) in
    let mine : b.uuid ≡ uuid = sym (uuid_is g.content body seal len b size) ∙ u in
    let says : edits_in uuid g.content ≡ Some (record { version = b.version; commands = b.commands }) =
    ap (edits_in uuid) b.is ∙ ap (λ (t : Bool). if t then Some (record { version = b.version; commands = b.commands }) else None) (ap (λ (l : List ℕ). bytes_eq l uuid) mine ∙ bytes_eq_same uuid) in
    subst (λ (o : Option Edits). IsPlaceIn at body o (Some (record { version = version; from = at + 18; to = at + len - seal }))) (sym says) (
      sym v ∙ version_is g.content body seal len b size,
      omega arith,
      ap (λ (n : ℕ). take n (drop (at + 18 - at) body)) (let e : at + len - seal - (at + 18) ≡ len - seal - 18 = omega (arith, long) in e)
          ∙ ap (λ (n : ℕ). take (len - seal - 18) (drop n body)) (let e : at + 18 - at ≡ 18 = omega arith in e) ∙ frames_are g.content body seal len b size,
    )

-- ---- by its first bytes

module _ (format at len seal : ℕ) (uuid body head : List ℕ) (g : Group) (is : IsGroup format g) (own : body_bytes g ≡ body) (size : length body ≡ len) (front : take 18 body ≡ head) (sealed : seal_by (get_or head 0 0) ≡ Some seal) where
  same_byte : (k : ℕ) → k < 18 → get_or body k 0 ≡ get_or head k 0
  same_byte k less = sym (get_or-take 18 body k 0 less) ∙ ap (λ (l : List ℕ). get_or l k 0) front

  same_uuid : take 16 (drop 1 body) ≡ take 16 (drop 1 head)
  same_uuid = sym (take-take 16 17 (drop 1 body) (lit≤ tt)) ∙ ap (λ (l : List ℕ). take 16 l) (sym (drop-take 1 17 body) ∙ ap (λ (l : List ℕ). drop 1 l) front)

  body_seal : seal_by (get_or body 0 0) ≡ Some seal
  body_seal = ap seal_by (same_byte 0 (lit< tt)) ∙ sealed

  own_body : IsEditsBody g.content body seal
  own_body = subst (λ (l : List ℕ). IsEditsBody g.content l seal) own (edits_body g.content g.is_sealed seal is.content (ap (λ (l : List ℕ). seal_by (get_or l 0 0)) own ∙ body_seal))

  pub found_by_head : 18 + seal ≤ len → take 16 (drop 1 head) ≡ uuid → IsPlaceIn at body (edits_in uuid g.content) (Some (record { version = get_or head 17 0; from = at + 18; to = at + len - seal }))
  found_by_head long u = place_found format at len seal uuid body g (get_or head 17 0) is own size long body_seal (same_byte 17 (lit< tt)) (same_uuid ∙ u)

  -- a body of edits is long enough, and its version is known
  pub long_enough : 18 + seal ≤ len
  long_enough =
      let b = own_body in
      omega (arith, size, ap length b.bytes, length-append (b.uuid ++ b.version ∷ canonical_all b.version b.commands) b.sum, length-append b.uuid (b.version ∷ canonical_all b.version b.commands), b.sixteen, b.size)

  pub version_known : is_version (get_or head 17 0) ≡ true
  version_known = ap is_version (sym (same_byte 17 (lit< tt)) ∙ version_is g.content body seal len own_body size) ∙ own_body.known

  -- it may be that of another uuid
  pub other_uuid : bytes_eq (take 16 (drop 1 head)) uuid ≡ false → IsPlaceIn at body (edits_in uuid g.content) None
  other_uuid apart =
      let b = own_body in
      let says : edits_in uuid g.content ≡ None =
      ap (edits_in uuid) b.is
      ∙ ap (λ (t : Bool). if t then Some (record { version = b.version; commands = b.commands }) else None) (ap (λ (l : List ℕ). bytes_eq l uuid) (sym (uuid_is g.content body seal len b size) ∙ same_uuid) ∙ apart) in
      subst (λ (o : Option Edits). IsPlaceIn at body o None) (sym says) tt

pub not_known : (n : ℕ) → (n ≡ 1 → ⊥) → (n ≡ 2 → ⊥) → is_version n ≡ true → ⊥
not_known n first second known = ⊎_elim first second (read_version n known)

-- A body of another number has no edits.
no_edits : (at : ℕ) (uuid : List ℕ) (content : Content) (is_sealed : Bool) → seal_by (get_or (body_bytes (record { content = content; is_sealed = is_sealed })) 0 0) ≡ None → IsPlaceIn at (body_bytes (record { content = content; is_sealed = is_sealed })) (edits_in uuid content) None
no_edits at uuid (Mark head) is_sealed e = tt
no_edits at uuid (Drop name) is_sealed e = tt
no_edits at uuid (Body other version commands) true e = cc
no_edits at uuid (Body other version commands) false e = cc

pub none_by_head : (at : ℕ) (uuid body head : List ℕ) (g : Group) → body_bytes g ≡ body → take 18 body ≡ head → seal_by (get_or head 0 0) ≡ None → IsPlaceIn at body (edits_in uuid g.content) None
none_by_head at uuid body head g own front none =
    let byte : get_or body 0 0 ≡ get_or head 0 0 = sym (get_or-take 18 body 0 0 (lit< tt)) ∙ ap (λ (l : List ℕ). get_or l 0 0) front in
    subst (λ (l : List ℕ). IsPlaceIn at l (edits_in uuid g.content) None) own (no_edits at uuid g.content g.is_sealed (ap (λ (l : List ℕ). seal_by (get_or l 0 0)) own ∙ ap seal_by byte ∙ none))

-- Nor has a short one.
pub none_in_short : (format at : ℕ) (uuid body : List ℕ) (g : Group) → IsGroup format g → body_bytes g ≡ body → length body < 18 → IsPlaceIn at body (edits_in uuid g.content) None
none_in_short format at uuid body g is own short = subst (λ (l : List ℕ). IsPlaceIn at l (edits_in uuid g.content) None) own (one g.content g.is_sealed is.content (subst (λ (l : List ℕ). length l < 18) (sym own) short))
  where
    one : (content : Content) (is_sealed : Bool) → IsContent content → length (body_bytes (record { content = content; is_sealed = is_sealed })) < 18 → IsPlaceIn at (body_bytes (record { content = content; is_sealed = is_sealed })) (edits_in uuid content) None
    one (Mark head) is_sealed said less = tt
    one (Drop name) is_sealed said less = tt
    one (Body other version commands) true said less =
        absurd (omega (arith, less, said.0, length-append other (version ∷ canonical_all version commands), length-append (5 ∷ (other ++ version ∷ canonical_all version commands)) (to_le_bytes w32 (crc_of 0 (5 ∷ (other ++ version ∷ canonical_all version commands))))))
    one (Body other version commands) false said less = absurd (omega (arith, less, said.0, length-append other (version ∷ canonical_all version commands)))

-- Bytes that are not told apart are the same.
pub same_bytes : (bytes other uuid : List ℕ) → bytes ≡ other → not (bytes_eq other uuid) ≡ false → bytes ≡ uuid
same_bytes bytes other uuid is same = is ∙ bytes_eq_true other uuid (one (bytes_eq other uuid) same)
  where
    one : (b : Bool) → not b ≡ false → b ≡ true
    one true e = refl
    one false e = absurd (true≢false e)
