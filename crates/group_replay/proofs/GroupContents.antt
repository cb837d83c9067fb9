-- What a group says, told by its first byte, its length and its checksum.
use Rattle.std.specs.Prelude.{◌≡◌, ℕ, suc, ◌+◌, ◌-◌, ◌<◌, ◌≤◌, ◌==◌, Bool, true, false, not, ◌||◌, List, [], ◌∷◌, ◌++◌, length, take, drop, nat_le, slice_index_or, Option, None, Some, if◌then◌else◌}
use Rattle.std.specs.List.{filter}
use Rattle.std.specs.Str.{bytes_eq}
use Rattle.std.specs.Int.{w32, to_le_bytes}
use Rattle.std.proofs.Common.{refl, sym, ap, subst, ◌∙◌, arith, length-append, length-take}
use Rattle.std.proofs.lemmas.List.{take_all, take_at, drop_at, take-append-drop}
use Rattle.send_model.specs.Checksum.{crc_of}
use Rattle.send_model.specs.Store.{Entry, Store, has_name}
use Rattle.send_model.proofs.PathLaws.{is_name_length}
use Rattle.send_model.proofs.Stores.{bytes_eq_true}
use Rattle.store_model.specs.Image.{sealed}
use Rattle.store_model.specs.Stored.{Content, Mark, Body, Drop, Group, number_of, content_bytes, body_bytes, dropped, made}
use Rattle.subvol_catalog.specs.Entries.{AreNamed}
use Rattle.subvol_catalog.specs.Admission.{without_name}
use Rattle.group_replay.specs.declared.place.Place.{Place}
use Rattle.group_replay.specs.declared.kinds.Kind.{Kind}
use Rattle.group_replay.specs.declared.kinds.Kind.TheVariants as kind
use Rattle.group_replay.specs.declared.kinds.Tag.{Tag}
use Rattle.group_replay.specs.Taking.{TakesGroup}
use Rattle.group_replay.specs.Aheads.{greatest_frame}
use Rattle.group_replay.specs.Contents.{kind_meant, number_for, FindsKind, seal_len, in_front, SealIsRight, IsBadContent, TakesContent, TakesBehind}
use Rattle.group_replay.proofs.EditRuns.{canonical_short}

-- ---- a name that is dropped

module _ (at : ℕ) (name : List ℕ) (old new : Store (Option Place)) where
  bad_drop : has_name name old ≡ false → IsBadContent kind.Drop at name old
  unfolding made dropped
  bad_drop none (Mark head) same lawful spelled = cc
  bad_drop none (Body uuid version commands) same lawful spelled = cc
  bad_drop none (Drop other) same lawful spelled =
      ap (λ (n : List ℕ). if has_name n old then Some (filter (λ e. not (bytes_eq e.name n)) old) else None) spelled
      ∙ ap (λ (b : Bool). if b then Some (filter (λ e. not (bytes_eq e.name name)) old) else None) none

  pub drop_taken : (t : Bool) → t ≡ has_name name old → new ≡ without_name name old → TakesContent kind.Drop at name old new t
  unfolding made dropped
  drop_taken true there is = record {
    content = Drop name;
    sort_is = refl;
    lawful = tt;
    spelled = refl;
    makes = ap (λ (b : Bool). if b then Some (filter (λ e. not (bytes_eq e.name name)) old) else None) (sym there) ∙ ap (λ (s : Store (Option Place)). Some s) (sym is);
  }
  drop_taken false there is = bad_drop (sym there)

-- ---- what is longer than each head and each name

named_short : {S : Type 0} (name : List ℕ) (store : List (Entry S)) → AreNamed store → has_name name store ≡ true → length name ≤ 255
named_short name [] named there = cc
named_short {S = S} name (e ∷ store) named there = one (bytes_eq e.name name) refl (named_short name store named.1) there
  where
    one : (b : Bool) → bytes_eq e.name name ≡ b → (has_name name store ≡ true → length name ≤ 255) → b || has_name name store ≡ true → length name ≤ 255
    one true same more h = subst (λ (n : List ℕ). length n ≤ 255) (bytes_eq_true e.name name same) (is_name_length e.name named.0).1
    one false same more h = more h

pub long_bad : (sort : Kind) (at : ℕ) (bytes : List ℕ) (old : Store (Option Place)) → (sort ≡ kind.Body → ⊥) → AreNamed old → greatest_frame < length bytes → IsBadContent sort at bytes old
unfolding made dropped
long_bad sort at bytes old other named long (Mark head) same lawful spelled = absurd (omega (arith, long, ap length spelled, canonical_short 1 head lawful))
long_bad sort at bytes old other named long (Body uuid version commands) same lawful spelled = absurd (other (sym same))
long_bad sort at bytes old other named long (Drop name) same lawful spelled = by_test (has_name name old) refl
  where
    by_test : (b : Bool) → has_name name old ≡ b → (if b then Some (filter (λ e. not (bytes_eq e.name name)) old) else None) ≡ None
    by_test true there = absurd (omega (arith, long, ap length spelled, named_short name old named there))
    by_test false none = refl

-- ---- the first byte

number_meant : (is_sealed : Bool) (content : Content) → number_of is_sealed content ≡ number_for is_sealed (kind_meant content)
number_meant is_sealed (Mark head) = refl
number_meant is_sealed (Body uuid version commands) = refl
number_meant is_sealed (Drop name) = refl

abbrev sealed_in : ℕ → Bool
sealed_in n = nat_le 4 n

abbrev kind_in : ℕ → Kind
kind_in n = if (n == 1) || (n == 4) then kind.Mark else (if (n == 2) || (n == 5) then kind.Body else kind.Drop)

sealed_back : (is_sealed : Bool) (sort : Kind) → sealed_in (number_for is_sealed sort) ≡ is_sealed
sealed_back true kind.Mark = refl
sealed_back true kind.Body = refl
sealed_back true kind.Drop = refl
sealed_back false kind.Mark = refl
sealed_back false kind.Body = refl
sealed_back false kind.Drop = refl

kind_back : (is_sealed : Bool) (sort : Kind) → kind_in (number_for is_sealed sort) ≡ sort
kind_back true kind.Mark = refl
kind_back true kind.Body = refl
kind_back true kind.Drop = refl
kind_back false kind.Mark = refl
kind_back false kind.Body = refl
kind_back false kind.Drop = refl

one_number : (a b : Bool) (j k : Kind) → number_for a j ≡ number_for b k → (a ≡ b) × (j ≡ k)
one_number a b j k same =
    (sym (sealed_back a j) ∙ ap (λ (n : ℕ). sealed_in n) same ∙ sealed_back b k, sym (kind_back a j) ∙ ap (λ (n : ℕ). kind_in n) same ∙ kind_back b k)

abbrev pub first_of : List ℕ → ℕ
first_of [] = 0
first_of (x ∷ xs) = x

first_is : (is_sealed : Bool) (n : ℕ) (bytes : List ℕ) → first_of (if is_sealed then sealed (n ∷ bytes) else n ∷ bytes) ≡ n
first_is true n bytes = refl
first_is false n bytes = refl

-- ---- the checksum

right_parts : (is_sealed : Bool) (bytes body : List ℕ) → bytes ≡ in_front is_sealed body → SealIsRight is_sealed body → (if is_sealed then sealed bytes else bytes) ≡ body
right_parts true bytes body is right =
    ap (λ (l : List ℕ). l ++ to_le_bytes w32 (crc_of 0 l)) is ∙ ap (λ (l : List ℕ). in_front true body ++ l) (sym (right refl)) ∙ take-append-drop (length body - 4) body
right_parts false bytes body is right = is ∙ take_all (length body - 0) body (omega arith)

parts_are : (is_sealed : Bool) (bytes body : List ℕ) → (if is_sealed then sealed bytes else bytes) ≡ body → (bytes ≡ in_front is_sealed body) × SealIsRight is_sealed body
parts_are true bytes body is =
    let sum : List ℕ = to_le_bytes w32 (crc_of 0 bytes) in
    let size : length bytes ≡ length body - 4 = omega (arith, ap length is, length-append bytes sum) in
    let front : bytes ≡ in_front true body = sym (take_at bytes sum (length body - 4) size) ∙ ap (take (length body - 4)) is in
    (front, λ e. ap (drop (length body - 4)) (sym is) ∙ drop_at bytes sum (length body - 4) size ∙ ap (λ (l : List ℕ). to_le_bytes w32 (crc_of 0 l)) front)
parts_are false bytes body is = (is ∙ sym (take_all (length body - 0) body (omega arith)), λ e. cc)

-- ---- a group

front_first : (byte n : ℕ) (body : List ℕ) → body ≡ byte ∷ drop 1 body → 1 ≤ n → take n body ≡ byte ∷ drop 1 (take n body)
front_first byte n body is some =
    let whole : take n body ≡ byte ∷ take (n - 1) (drop 1 body) =
    ap (take n) is ∙ ap (λ (k : ℕ). take k (byte ∷ drop 1 body)) (let e : n ≡ suc (n - 1) = omega (arith, some) in e) in
    whole ∙ ap (λ (l : List ℕ). byte ∷ drop 1 l) (sym whole)

module _ (format at byte : ℕ) (body : List ℕ) (old new : Store (Option Place)) (is : body ≡ byte ∷ drop 1 body) where
  number_is : (group : Group) → body_bytes group ≡ body → number_of group.is_sealed group.content ≡ byte
  number_is group same = sym (first_is group.is_sealed (number_of group.is_sealed group.content) (content_bytes group.content)) ∙ ap first_of (same ∙ is)

  -- no group of the format begins so
  pub no_kind : FindsKind format byte None → TakesGroup format at body old new false
  no_kind none group lawful same = absurd (none group lawful (number_is group same))

  module _ (tag : Tag) (found : FindsKind format byte (Some tag)) where
    tag_is : (group : Group) → body_bytes group ≡ body → (group.is_sealed ≡ tag.is_sealed) × (kind_meant group.content ≡ tag.kind)
    tag_is group same =
        one_number group.is_sealed tag.is_sealed (kind_meant group.content) tag.kind (sym (number_meant group.is_sealed group.content) ∙ number_is group same ∙ found.0)

    -- a group that is too short for its checksum
    pub short_group : length body < 1 + seal_len tag.is_sealed → TakesGroup format at body old new false
    short_group few group lawful same =
        let parts = parts_are group.is_sealed (number_of group.is_sealed group.content ∷ content_bytes group.content) body same in
        let size : length body - seal_len tag.is_sealed ≡ 0 = omega (arith, few) in
        let none : in_front group.is_sealed body ≡ [] = ap (λ (b : Bool). in_front b body) (tag_is group same).0 ∙ ap (λ (n : ℕ). take n body) size in
        absurd (omega (arith, ap length (parts.0 ∙ none)))

    pub group_taken : (t : Bool) → 1 + seal_len tag.is_sealed ≤ length body → TakesBehind tag at body old new t → TakesGroup format at body old new t
    group_taken true long took =
        let m = took.1 in
        let number : number_of tag.is_sealed m.content ≡ byte = number_meant tag.is_sealed m.content ∙ ap (number_for tag.is_sealed) m.sort_is ∙ sym found.0 in
        let front : number_of tag.is_sealed m.content ∷ content_bytes m.content ≡ in_front tag.is_sealed body =
        (λ i. number i ∷ m.spelled i) ∙ sym (front_first byte (length body - seal_len tag.is_sealed) body is (omega (arith, long))) in
        record {
          group = record { content = m.content; is_sealed = tag.is_sealed };
          lawful = record { content = m.lawful; old = found.1 };
          body_is = right_parts tag.is_sealed (number_of tag.is_sealed m.content ∷ content_bytes m.content) body front took.0;
          makes = m.makes;
        }
    group_taken false long bad = λ group lawful same.
        let tags = tag_is group same in
        let parts = parts_are group.is_sealed (number_of group.is_sealed group.content ∷ content_bytes group.content) body same in
        let front : number_of group.is_sealed group.content ∷ content_bytes group.content ≡ in_front tag.is_sealed body = parts.0 ∙ ap (λ (b : Bool). in_front b body) tags.0 in
        bad (subst (λ (b : Bool). SealIsRight b body) tags.0 parts.1) group.content tags.1 lawful.content (ap (λ (l : List ℕ). drop 1 l) front)

-- no bytes at all
pub empty_group : (format at : ℕ) (old new : Store (Option Place)) → TakesGroup format at [] old new false
empty_group format at old new group lawful same =
    let parts = parts_are group.is_sealed (number_of group.is_sealed group.content ∷ content_bytes group.content) [] same in
    absurd (omega (arith, ap length parts.0, length-take {A = ℕ} (0 - seal_len group.is_sealed) []))

-- what is said in front of a checksum that is right
pub behind_taken : (tag : Tag) (at : ℕ) (body : List ℕ) (old new : Store (Option Place)) (t : Bool) → SealIsRight tag.is_sealed body → TakesContent tag.kind at (drop 1 (in_front tag.is_sealed body)) old new t → TakesBehind tag at body old new t
behind_taken tag at body old new true right made = (right, made)
behind_taken tag at body old new false right bad = λ _. bad

-- the first byte, in a window that begins with a group's first bytes
pub byte_first : (window other bytes : List ℕ) (count len : ℕ) → window ≡ take count bytes → 0 < count → 0 < len → len ≤ length bytes → take len bytes ≡ slice_index_or (window ++ other) 0 0 ∷ drop 1 (take len bytes)
byte_first window other [] count len is some more fits = absurd (omega (arith, more, fits))
byte_first window other (x ∷ bytes) count len is some more fits =
    let front : window ≡ x ∷ take (count - 1) bytes = is ∙ ap (λ (n : ℕ). take n (x ∷ bytes)) (let e : count ≡ suc (count - 1) = omega (arith, some) in e) in
    let whole : take len (x ∷ bytes) ≡ x ∷ take (len - 1) bytes = ap (λ (n : ℕ). take n (x ∷ bytes)) (let e : len ≡ suc (len - 1) = omega (arith, more) in e) in
    let byte : slice_index_or (window ++ other) 0 0 ≡ x = ap (λ (l : List ℕ). slice_index_or (l ++ other) 0 0) front in
    whole ∙ (λ i. sym byte i ∷ drop 1 (sym whole i))
