-- Each image of bytes stands for a store, or for none by one of its groups.
use Rattle.std.specs.Prelude.{◌≡◌, ◌⊎◌, ℕ, zero, suc, ◌+◌, ◌<◌, ◌≤◌, ◌^◌, List, [], ◌∷◌, ◌++◌, length, map, take, drop, Option, None, Some}
use Rattle.std.specs.List.{AllByRecursion, flat_map}
use Rattle.std.specs.Int.{w64, to_le_bytes, from_le_bytes}
use Rattle.std.proofs.Common.{inl, inr, refl, sym, ap, subst, ◌∙◌, arith, length-append, length-take, length-drop, append-nil, append_assoc}
use Rattle.std.proofs.lemmas.Bool.{cases_lt, cases_eq}
use Rattle.std.proofs.lemmas.List.{take-append-drop, take_at}
use Rattle.std.proofs.lemmas.Nat.{le_bytes_8}
use Rattle.send_model.specs.Attribute.{IsBytes}
use Rattle.send_model.specs.Store.{Store}
use Rattle.store_model.specs.Image.{Header, IsHeader, HasHeader, IsCutShort, IsShort, start_of, header_of, front_of, group_of}
use Rattle.store_model.specs.Stored.{Group, body_bytes, as_bytes, made, body_at, made_all, Makes, StandsFor, IsBadGroup, StandsForNone}
use Rattle.send_model.proofs.Canonical.{bytes_at as byte_at}
use Rattle.send_model.proofs.Sound.{bytes_take, bytes_drop, small64}
use Rattle.store_model.proofs.OneSaying.{body_one}
use Rattle.store_model.proofs.Growing.{makes_more}
use Rattle.store_model.proofs.SaidBodies.{same_bytes, OfGroup, body_decided}

-- ---- the header

number_back : (bytes : List ℕ) → IsBytes bytes → 8 ≤ length bytes → to_le_bytes w64 (from_le_bytes w64 (take 8 bytes)) ≡ take 8 bytes
number_back bytes are long = le_bytes_8 (take 8 bytes) (from_le_bytes w64 (take 8 bytes)) (omega (arith, length-take 8 bytes, long)) (byte_at (take 8 bytes) (bytes_take 8 bytes are)) refl

header_with : (format : ℕ) (image : List ℕ) → (format ≡ 1) ⊎ (format ≡ 2) → IsBytes image → 20 ≤ length image → take 12 image ≡ start_of format → HasHeader image
header_with format image known are long is =
    let behind : List ℕ = drop 12 image in
    let number : ℕ = from_le_bytes w64 (take 8 behind) in
    let back : to_le_bytes w64 number ≡ take 8 behind = number_back behind (bytes_drop 12 image are) (omega (arith, length-drop 12 image, long)) in
    let tail : behind ≡ to_le_bytes w64 number ++ drop 8 behind = sym (take-append-drop 8 behind) ∙ ap (λ (l : List ℕ). l ++ drop 8 behind) (sym back) in
    record {
      header = record { format = format; number = number };
      rest = drop 8 behind;
      bytes = sym (take-append-drop 12 image) ∙ (λ i. is i ++ tail i) ∙ sym (append_assoc (start_of format) (to_le_bytes w64 number) (drop 8 behind));
      lawful = record { format = known; number_fits = small64 (take 8 behind) (bytes_take 8 behind (bytes_drop 12 image are)) };
    }

start_is : (image : List ℕ) (has : HasHeader image) → take 12 image ≡ start_of has.header.format
start_is image has =
    ap (take 12) (has.bytes ∙ append_assoc (start_of has.header.format) (to_le_bytes w64 has.header.number) has.rest) ∙ take_at (start_of has.header.format) (to_le_bytes w64 has.header.number ++ has.rest) 12 refl

pub header_decided : (image : List ℕ) → IsBytes image → HasHeader image ⊎ (HasHeader image → ⊥)
header_decided image are = one (cases_lt (length image) 20)
  where
    two : 20 ≤ length image → (take 12 image ≡ start_of 1) ⊎ (take 12 image ≡ start_of 1 → ⊥) → (take 12 image ≡ start_of 2) ⊎ (take 12 image ≡ start_of 2 → ⊥) → HasHeader image ⊎ (HasHeader image → ⊥)
    two long (inl is) other = inl (header_with 1 image (inl refl) are long is)
    two long (inr not) (inl is) = inl (header_with 2 image (inr refl) are long is)
    two long (inr not) (inr other) = inr (λ has. elim has.lawful.format [
      | inl e ↦ not (start_is image has ∙ ap start_of e)
      | inr e ↦ other (start_is image has ∙ ap start_of e)
    ])

    one : (length image < 20) ⊎ (20 ≤ length image) → HasHeader image ⊎ (HasHeader image → ⊥)
    one (inl short) = inr (λ has. absurd (omega (arith, ap length has.bytes, length-append (header_of has.header) has.rest, short)))
    one (inr long) = two long (same_bytes (take 12 image) (start_of 1)) (same_bytes (take 12 image) (start_of 2))

-- ---- groups

-- one group more
groups_more : (groups : List Group) (group : Group) → flat_map group_of (map body_bytes (groups ++ group ∷ [])) ≡ flat_map group_of (map body_bytes groups) ++ group_of (body_bytes group)
groups_more [] group = append-nil (group_of (body_bytes group))
groups_more (g ∷ groups) group =
    ap (λ (l : List ℕ). group_of (body_bytes g) ++ l) (groups_more groups group) ∙ sym (append_assoc (group_of (body_bytes g)) (flat_map group_of (map body_bytes groups)) (group_of (body_bytes group)))

pub front_more : (header : Header) (groups : List Group) (group : Group) (rest : List ℕ)
    → front_of header (map body_bytes (groups ++ group ∷ [])) ++ rest ≡ front_of header (map body_bytes groups) ++ (group_of (body_bytes group) ++ rest)
front_more header groups group rest =
    ap (λ (l : List ℕ). (header_of header ++ l) ++ rest) (groups_more groups group)
    ∙ ap (λ (l : List ℕ). l ++ rest) (sym (append_assoc (header_of header) (flat_map group_of (map body_bytes groups)) (group_of (body_bytes group))))
    ∙ append_assoc (front_of header (map body_bytes groups)) (group_of (body_bytes group)) rest

fits_more : (groups : List Group) (group : Group) → AllByRecursion IsShort (map body_bytes groups) → IsShort (body_bytes group) → AllByRecursion IsShort (map body_bytes (groups ++ group ∷ []))
fits_more [] group fits short = (short, tt)
fits_more (g ∷ groups) group fits short = (fits.0, fits_more groups group fits.1 short)

-- an open gate with all that its length says behind it
pub whole_group : (r : List ℕ) → IsBytes r → 8 + from_le_bytes w64 (take 8 r) ≤ length r
    → (body : List ℕ) × (others : List ℕ) × IsShort body × IsBytes body × IsBytes others × (1 ∷ r ≡ group_of body ++ others)
whole_group r are enough =
    let len : ℕ = from_le_bytes w64 (take 8 r) in
    let behind : List ℕ = drop 8 r in
    let body : List ℕ = take len behind in
    let others : List ℕ = drop len behind in
    let size : length body ≡ len = omega (arith, length-take len behind, length-drop 8 r, enough) in
    let small : len < 2 ^ 64 = small64 (take 8 r) (bytes_take 8 r are) in
    let said : to_le_bytes w64 (length body) ≡ take 8 r = ap (λ (n : ℕ). to_le_bytes w64 n) size ∙ number_back r are (omega (arith, enough)) in
    let whole : r ≡ to_le_bytes w64 (length body) ++ (body ++ others) =
    sym (take-append-drop 8 r) ∙ (λ i. sym said i ++ sym (take-append-drop len behind) i) in (
      body,
      others,
      omega (arith, size, small),
      bytes_take len behind (bytes_drop 8 r are),
      bytes_drop len behind (bytes_drop 8 r are),
      ap (λ (l : List ℕ). 1 ∷ l) whole ∙ sym (append_assoc (1 ∷ to_le_bytes w64 (length body)) body others),
    )

abbrev pub IsDecided : List ℕ → Type 0
IsDecided image = ((store : Store ℕ) × StandsFor image store) ⊎ ((group : ℕ) × StandsForNone image group)

module _ (image : List ℕ) (header : Header) (lawful : IsHeader header) where
  -- groups that make a store stand in front, and behind them the rest
  record Stands_at (groups : List Group) (store : Store ℕ) (rest : List ℕ) : Type 0 where
    fits : AllByRecursion IsShort (map body_bytes groups)
    makes : Makes 0 as_bytes header.format groups store
    bytes : image ≡ front_of header (map body_bytes groups) ++ rest
    are : IsBytes rest

  fails : (groups : List Group) (store : Store ℕ) (rest : List ℕ) → Stands_at groups store rest → IsCutShort rest ⊎ IsBadGroup header.format (length (front_of header (map body_bytes groups))) store rest → IsDecided image
  fails groups store rest at fault = inr (
    suc (length groups),
    record {
      header = header;
      lawful = lawful;
      groups = groups;
      are = refl;
      lengths_fit = at.fits;
      store = store;
      makes = at.makes;
      rest = rest;
      bytes = at.bytes;
      fault = fault;
    },
  )

  groups_decided : (fuel : ℕ) (groups : List Group) (store : Store ℕ) (rest : List ℕ) → length rest ≤ fuel → Stands_at groups store rest → IsDecided image
  groups_decided fuel groups store [] enough at = fails groups store [] at (inl tt)
  groups_decided zero groups store (b ∷ r) enough at = absurd (omega (arith, enough))
  groups_decided (suc fuel) groups store (b ∷ r) enough at = gate (cases_eq b 1) (cases_lt (length r) (8 + from_le_bytes w64 (take 8 r))) (λ gs next others less more. groups_decided fuel gs next others less more)
    where
      place : ℕ
      place = body_at (length (front_of header (map body_bytes groups)))

      taken : (body others : List ℕ) → IsShort body → IsBytes others → b ∷ r ≡ group_of body ++ others → (g : OfGroup header.format body) → (o : Option (Store ℕ)) → made 0 as_bytes place store g.0.content ≡ o
          → ((gs : List Group) (next : Store ℕ) (left : List ℕ) → length left ≤ fuel → Stands_at gs next left → IsDecided image) → IsDecided image
      taken body others short small is g None m go_on = fails groups store (b ∷ r) at (inr (record {
        body = body;
        others = others;
        short = short;
        bytes = is;
        refused = λ other said own. ap (λ (x : Group). made 0 as_bytes place store x.content) (body_one header.format other g.0 said g.1 (own ∙ sym g.2)) ∙ m;
      }))
      taken body others short small is g (Some next) m go_on =
          let behind : b ∷ r ≡ group_of (body_bytes g.0) ++ others = is ∙ ap (λ (l : List ℕ). group_of l ++ others) (sym g.2) in
          go_on (groups ++ g.0 ∷ []) next others (omega (arith, ap length behind, length-append (group_of (body_bytes g.0)) others, enough))
          (record {
            fits = fits_more groups g.0 at.fits (subst IsShort (sym g.2) short);
            makes = makes_more 0 as_bytes header groups g.0 store next at.makes g.1 m;
            bytes = at.bytes ∙ ap (λ (l : List ℕ). front_of header (map body_bytes groups) ++ l) behind ∙ sym (front_more header groups g.0 others);
            are = small;
          })

      whole : (body others : List ℕ) → IsShort body → IsBytes others → b ∷ r ≡ group_of body ++ others → OfGroup header.format body ⊎ (OfGroup header.format body → ⊥)
          → ((gs : List Group) (next : Store ℕ) (left : List ℕ) → length left ≤ fuel → Stands_at gs next left → IsDecided image) → IsDecided image
      whole body others short small is (inl g) go_on = taken body others short small is g (made 0 as_bytes place store g.0.content) refl go_on
      whole body others short small is (inr not) go_on =
          fails groups store (b ∷ r) at (inr (record { body = body; others = others; short = short; bytes = is; refused = λ group said own. absurd (not (group, said, own)) }))

      gate : (b ≡ 1) ⊎ (b ≡ 1 → ⊥) → (length r < 8 + from_le_bytes w64 (take 8 r)) ⊎ (8 + from_le_bytes w64 (take 8 r) ≤ length r)
          → ((gs : List Group) (next : Store ℕ) (left : List ℕ) → length left ≤ fuel → Stands_at gs next left → IsDecided image) → IsDecided image
      gate (inr closed) size go_on = inl (
        store,
        record {
          header = header;
          groups = groups;
          has = record { gate = b; rest = r; closed = closed; bytes = at.bytes; lawful = lawful; lengths_fit = at.fits };
          makes = at.makes;
        },
      )
      gate (inl is) (inl cut) go_on = fails groups store (b ∷ r) at (inl (is, cut))
      gate (inl is) (inr long) go_on =
          let w = whole_group r at.are.1 long in
          whole w.0 w.1 w.2 w.4 (ap (λ (n : ℕ). n ∷ r) is ∙ w.5) (body_decided header.format w.0 w.3) go_on

pub image_decided : (image : List ℕ) → IsBytes image → IsDecided image
unfolding made_all
image_decided image are = one (header_decided image are)
  where
    one : HasHeader image ⊎ (HasHeader image → ⊥) → IsDecided image
    one (inr none) = inr (0, none)
    one (inl has) = groups_decided image has.header has.lawful (length has.rest) [] [] has.rest (omega arith) (record {
      fits = tt;
      makes = record { lawful = tt; made = refl };
      bytes = has.bytes ∙ ap (λ (l : List ℕ). l ++ has.rest) (sym (append-nil (header_of has.header)));
      are = behind (header_of has.header) has.rest (subst IsBytes has.bytes are);
    })
      where
        behind : (xs ys : List ℕ) → IsBytes (xs ++ ys) → IsBytes ys
        behind [] ys h = h
        behind (x ∷ xs) ys h = behind xs ys h.1
