-- An image stands for one store at most, and where it stands for one it stands not for none; where
-- it stands for none, it does so by one group. All of it by what stands behind the last of the
-- groups that make a store: nothing that goes on.
use Rattle.std.specs.Prelude.{◌≡◌, ◌≢◌, ◌⊎◌, ℕ, zero, suc, List, [], ◌∷◌, ◌++◌, length, map, get_or, drop, Option, None, Some}
use Rattle.std.specs.List.{AllByRecursion}
use Rattle.std.proofs.Common.{inl, inr, refl, sym, ap, subst, ◌∙◌, arith, append_assoc, flat_map}
use Rattle.send_model.specs.Store.{Store}
use Rattle.store_model.specs.Image.{Header, IsHeader, HasHeader, IsCutShort, IsShort, header_of, front_of, group_of}
use Rattle.send_model.proofs.Sorts.{same_inside}
use Rattle.store_model.specs.Stored.{Group, body_bytes, IsGroup, as_bytes, Putting, made, body_at, made_all, first_gate, Makes, Stands, StandsFor, IsBadGroup, FailsBehind, StandsForNone}
use Rattle.store_model.proofs.OneJournal.{one_header, one_journal, group_one, closed_ends, cut_ends, behind_one, front_header}
use Rattle.store_model.proofs.OneSaying.{bodies_one}
use Rattle.store_model.proofs.Growing.{gate_in_image, none_made}

-- ---- one store

pub one_store : {C : Type 0} (zero_cell : C) (put : Putting C) (image : List ℕ) (s t : Store C) → Stands zero_cell put image s → Stands zero_cell put image t → s ≡ t
one_store zero_cell put image s t left right =
    let header : left.header ≡ right.header = one_header image left.header right.header (map body_bytes left.groups) (map body_bytes right.groups) left.has right.has in
    let bodies : map body_bytes left.groups ≡ map body_bytes right.groups = one_journal image left.header right.header (map body_bytes left.groups) (map body_bytes right.groups) left.has right.has in
    let lawful : AllByRecursion (IsGroup right.header.format) left.groups = subst (λ (h : Header). AllByRecursion (IsGroup h.format) left.groups) header left.makes.lawful in
    let groups : left.groups ≡ right.groups = bodies_one right.header.format left.groups right.groups lawful right.makes.lawful bodies in
    same_inside (sym left.makes.made ∙ ap (made_all zero_cell put first_gate []) groups ∙ right.makes.made)

-- ---- where two lists of groups part

-- They are the same, or one goes on with a body where the other has come to its end.
pub data Parts (xs ys : List (List ℕ)) (x y : List ℕ) : Type 0 where
  Same : xs ≡ ys → x ≡ y → Parts xs ys x y
  Longer : (body : List ℕ) (more : List (List ℕ)) → ys ≡ xs ++ body ∷ more → IsShort body → x ≡ group_of body ++ (flat_map group_of more ++ y) → Parts xs ys x y
  Shorter : (body : List ℕ) (more : List (List ℕ)) → xs ≡ ys ++ body ∷ more → IsShort body → y ≡ group_of body ++ (flat_map group_of more ++ x) → Parts xs ys x y

pub parts : (xs ys : List (List ℕ)) (x y : List ℕ) → AllByRecursion IsShort xs → AllByRecursion IsShort ys → flat_map group_of xs ++ x ≡ flat_map group_of ys ++ y → Parts xs ys x y
parts [] [] x y fits_a fits_b is = Same refl is
parts [] (b ∷ ys) x y fits_a fits_b is = Longer b ys refl fits_b.0 (is ∙ append_assoc (group_of b) (flat_map group_of ys) y)
parts (a ∷ xs) [] x y fits_a fits_b is = Shorter a xs refl fits_a.0 (sym is ∙ append_assoc (group_of a) (flat_map group_of xs) x)
parts (a ∷ xs) (b ∷ ys) x y fits_a fits_b is =
    let split = group_one a b (flat_map group_of xs ++ x) (flat_map group_of ys ++ y) fits_a.0 fits_b.0
    (sym (append_assoc (group_of a) (flat_map group_of xs) x) ∙ is ∙ append_assoc (group_of b) (flat_map group_of ys) y) in
    one split.0 (parts xs ys x y fits_a.1 fits_b.1 split.1)
  where
    one : a ≡ b → Parts xs ys x y → Parts (a ∷ xs) (b ∷ ys) x y
    one first (Same same rest) = Same (λ i. first i ∷ same i) rest
    one first (Longer body more same short rest) = Longer body more (λ i. sym first i ∷ same i) short rest
    one first (Shorter body more same short rest) = Shorter body more (λ i. first i ∷ same i) short rest

-- ---- ends

-- Behind groups that make a store nothing goes on: a closed gate, or a group that is at fault.
abbrev IsStop : ℕ → ℕ → Store ℕ → List ℕ → Type 0
IsStop format gate store rest = ((byte : ℕ) × (others : List ℕ) × (rest ≡ byte ∷ others) × (byte ≢ 1)) ⊎ (IsCutShort rest ⊎ IsBadGroup format gate store rest)

record Ended (image : List ℕ) : Type 0 where
  header : Header
  lawful : IsHeader header
  groups : List Group
  lengths_fit : AllByRecursion IsShort (map body_bytes groups)
  store : Store ℕ
  makes : Makes 0 as_bytes header.format groups store
  rest : List ℕ
  bytes : image ≡ front_of header (map body_bytes groups) ++ rest
  stop : IsStop header.format (length (front_of header (map body_bytes groups))) store rest

stands_ended : (image : List ℕ) (store : Store ℕ) → StandsFor image store → Ended image
stands_ended image store stands = record {
  header = stands.header;
  lawful = stands.has.lawful;
  groups = stands.groups;
  lengths_fit = stands.has.lengths_fit;
  store = store;
  makes = stands.makes;
  rest = stands.has.gate ∷ stands.has.rest;
  bytes = stands.has.bytes;
  stop = inl (stands.has.gate, stands.has.rest, refl, stands.has.closed);
}

fails_ended : (image : List ℕ) (count : ℕ) → FailsBehind image count → Ended image
fails_ended image count fails = record {
  header = fails.header;
  lawful = fails.lawful;
  groups = fails.groups;
  lengths_fit = fails.lengths_fit;
  store = fails.store;
  makes = fails.makes;
  rest = fails.rest;
  bytes = fails.bytes;
  stop = inr fails.fault;
}

-- what goes on behind a stop is no group that can make anything
stop_refuses : (format gate : ℕ) (store : Store ℕ) (rest : List ℕ) (group : Group) (others : List ℕ) → IsStop format gate store rest → IsGroup format group → IsShort (body_bytes group) → rest ≡ group_of (body_bytes group) ++ others
    → made 0 as_bytes (body_at gate) store group.content ≡ None
stop_refuses format gate store rest group others (inl (byte, more, is, closed)) lawful short goes = absurd (closed_ends byte more closed (body_bytes group) others short (sym is ∙ goes))
stop_refuses format gate store rest group others (inr (inl cut)) lawful short goes = absurd (cut_ends rest cut (body_bytes group) others short goes)
stop_refuses format gate store rest group others (inr (inr bad)) lawful short goes =
    bad.refused group lawful (group_one (body_bytes group) bad.body others bad.others short bad.short (sym goes ∙ bad.bytes)).0

-- the group of a body among the bodies of groups
record Found (groups : List Group) (xs : List (List ℕ)) (body : List ℕ) (more : List (List ℕ)) : Type 0 where
  before : List Group
  group : Group
  after : List Group
  whole : groups ≡ before ++ group ∷ after
  fronts : map body_bytes before ≡ xs
  own : body_bytes group ≡ body

found : (groups : List Group) (xs : List (List ℕ)) (body : List ℕ) (more : List (List ℕ)) → map body_bytes groups ≡ xs ++ body ∷ more → Found groups xs body more
found [] [] body more is = absurd (omega (arith, ap length is))
found [] (x ∷ xs) body more is = absurd (omega (arith, ap length is))
found (g ∷ groups) [] body more is = record { before = []; group = g; after = groups; whole = refl; fronts = refl; own = ap (λ (l : List (List ℕ)). get_or l 0 []) is }
found (g ∷ groups) (x ∷ xs) body more is =
    let rest = found groups xs body more (ap (λ (l : List (List ℕ)). drop 1 l) is) in
    let first : body_bytes g ≡ x = ap (λ (l : List (List ℕ)). get_or l 0 []) is in
    record {
      before = g ∷ rest.before;
      group = rest.group;
      after = rest.after;
      whole = ap (λ (l : List Group). g ∷ l) rest.whole;
      fronts = λ i. first i ∷ rest.fronts i;
      own = rest.own;
    }

-- groups do not go on where others have stopped
module _ (format : ℕ) (header : Header) (is_format : header.format ≡ format) (groups others : List Group) (store end : Store ℕ) (rest : List ℕ)
    (makes : Makes 0 as_bytes format groups store) (ends : Makes 0 as_bytes format others end)
    (stop : IsStop format (length (front_of header (map body_bytes groups))) store rest) where
  never_longer : (body : List ℕ) (more : List (List ℕ)) (y : List ℕ) → map body_bytes others ≡ map body_bytes groups ++ body ∷ more → IsShort body → rest ≡ group_of body ++ y → ⊥
  never_longer body more y is short goes =
      let f = found others (map body_bytes groups) body more is in
      let split = all_parts_of f.before (f.group ∷ f.after) (subst (λ (l : List Group). AllByRecursion (IsGroup format) l) f.whole ends.lawful) in
      let before : f.before ≡ groups = bodies_one format f.before groups split.0 makes.lawful f.fronts in
      let whole : others ≡ groups ++ f.group ∷ f.after = f.whole ∙ ap (λ (l : List Group). l ++ f.group ∷ f.after) before in
      let none : made 0 as_bytes (body_at (length (front_of header (map body_bytes groups)))) store f.group.content ≡ None =
      stop_refuses format (length (front_of header (map body_bytes groups))) store rest f.group y stop split.1.0 (subst IsShort (sym f.own) short) (goes ∙ ap (λ (b : List ℕ). group_of b ++ y) (sym f.own)) in
      let nothing : made_all 0 as_bytes first_gate [] others ≡ None =
      ap (made_all 0 as_bytes first_gate []) whole
      ∙ none_made 0 as_bytes first_gate [] store groups f.after f.group makes.made (ap (λ (n : ℕ). made 0 as_bytes (body_at n) store f.group.content) (gate_in_image header groups) ∙ none) in
      some_not_none end (sym ends.made ∙ nothing)
    where
      all_parts_of : (xs ys : List Group) → AllByRecursion (IsGroup format) (xs ++ ys) → AllByRecursion (IsGroup format) xs × AllByRecursion (IsGroup format) ys
      all_parts_of [] ys all = (tt, all)
      all_parts_of (x ∷ xs) ys all = let r = all_parts_of xs ys all.1 in ((all.0, r.0), r.1)

      some_not_none : (s : Store ℕ) → ◌≡◌ {A = Option (Store ℕ)} (Some s) None → ⊥
      some_not_none s e = cc

-- ---- one end

one_end : (image : List ℕ) (a b : Ended image) → (a.groups ≡ b.groups) × (a.rest ≡ b.rest)
one_end image a b =
    let whole : front_of a.header (map body_bytes a.groups) ++ a.rest ≡ front_of b.header (map body_bytes b.groups) ++ b.rest = sym a.bytes ∙ b.bytes in
    let header : a.header ≡ b.header = front_header a.header b.header (map body_bytes a.groups) (map body_bytes b.groups) a.rest b.rest a.lawful b.lawful whole in
    let format : a.header.format ≡ b.header.format = ap (λ (h : Header). h.format) header in
    let makes : Makes 0 as_bytes b.header.format a.groups a.store = subst (λ (f : ℕ). Makes 0 as_bytes f a.groups a.store) format a.makes in
    let stop : IsStop b.header.format (length (front_of a.header (map body_bytes a.groups))) a.store a.rest = subst (λ (f : ℕ). IsStop f (length (front_of a.header (map body_bytes a.groups))) a.store a.rest) format a.stop in
    one makes stop format (parts (map body_bytes a.groups) (map body_bytes b.groups) a.rest b.rest a.lengths_fit b.lengths_fit (behind_one a.header b.header (map body_bytes a.groups) (map body_bytes b.groups) a.rest b.rest whole))
  where
    one : Makes 0 as_bytes b.header.format a.groups a.store → IsStop b.header.format (length (front_of a.header (map body_bytes a.groups))) a.store a.rest → a.header.format ≡ b.header.format
        → Parts (map body_bytes a.groups) (map body_bytes b.groups) a.rest b.rest → (a.groups ≡ b.groups) × (a.rest ≡ b.rest)
    one makes stop format (Same same rest) = (bodies_one b.header.format a.groups b.groups makes.lawful b.makes.lawful same, rest)
    one makes stop format (Longer body more is short goes) =
        absurd (never_longer b.header.format a.header format a.groups b.groups a.store b.store a.rest makes b.makes stop body more (flat_map group_of more ++ b.rest) is short goes)
    one makes stop format (Shorter body more is short goes) =
        absurd (never_longer b.header.format b.header refl b.groups a.groups b.store a.store b.rest b.makes makes b.stop body more (flat_map group_of more ++ a.rest) is short goes)

-- ---- one fault

-- a closed gate is no fault
no_fault_here : (format gate : ℕ) (store : Store ℕ) (byte : ℕ) (others rest : List ℕ) → byte ≢ 1 → byte ∷ others ≡ rest → IsCutShort rest ⊎ IsBadGroup format gate store rest → ⊥
no_fault_here format gate store byte others rest closed is (inl cut) = closed (subst IsCutShort (sym is) cut).0
no_fault_here format gate store byte others rest closed is (inr bad) = closed_ends byte others closed bad.body bad.others bad.short (is ∙ bad.bytes)

ended_header : (image : List ℕ) → Ended image → HasHeader image
ended_header image e =
    record { header = e.header; rest = flat_map group_of (map body_bytes e.groups) ++ e.rest; bytes = e.bytes ∙ append_assoc (header_of e.header) (flat_map group_of (map body_bytes e.groups)) e.rest; lawful = e.lawful }

-- what stands for a store stands not for none
pub never_both : (image : List ℕ) (store : Store ℕ) (group : ℕ) → StandsFor image store → StandsForNone image group → ⊥
unfolding stands_ended fails_ended
never_both image store zero stands none = none (ended_header image (stands_ended image store stands))
never_both image store (suc count) stands none =
    let one = one_end image (stands_ended image store stands) (fails_ended image count none) in
    no_fault_here none.header.format (length (front_of none.header (map body_bytes none.groups))) none.store stands.has.gate stands.has.rest none.rest stands.has.closed one.1 none.fault

-- and by one group
pub one_fault_group : (image : List ℕ) (g h : ℕ) → StandsForNone image g → StandsForNone image h → g ≡ h
unfolding fails_ended
one_fault_group image zero zero left right = refl
one_fault_group image zero (suc count) left right = absurd (left (ended_header image (fails_ended image count right)))
one_fault_group image (suc count) zero left right = absurd (right (ended_header image (fails_ended image count left)))
one_fault_group image (suc m) (suc n) left right =
    let one = one_end image (fails_ended image m left) (fails_ended image n right) in
    ap suc (sym left.are ∙ ap length one.0 ∙ right.are)
