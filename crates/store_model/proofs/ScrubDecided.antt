-- Scrub has an answer for each image of bytes.
use Rattle.std.specs.Prelude.{◌≡◌, ◌⊎◌, ℕ, zero, suc, ◌+◌, ◌-◌, ◌<◌, ◌≤◌, List, [], ◌∷◌, ◌++◌, length, take, drop}
use Rattle.std.specs.List.{AllByRecursion, flat_map}
use Rattle.std.specs.Int.{w32, w64, to_le_bytes, from_le_bytes}
use Rattle.std.proofs.Common.{inl, inr, refl, sym, ap, subst, ◌∙◌, arith, length-append, length-drop, append-nil, append_assoc}
use Rattle.std.proofs.lemmas.Bool.{cases_lt, cases_eq}
use Rattle.std.proofs.lemmas.List.{take-append-drop}
use Rattle.std.proofs.lemmas.Nat.{le_bytes_4}
use Rattle.send_model.specs.Attribute.{IsBytes}
use Rattle.send_model.specs.Checksum.{crc_of}
use Rattle.store_model.specs.Image.{Header, IsHeader, HasHeader, IsCutShort, IsShort, header_of, front_of, group_of}
use Rattle.send_model.specs.Due.{DoneWhole}
use Rattle.store_model.specs.Scrub.{IsKind, IsWhole, unsealed, IsDamaged, IsNone, FailsWith, HasBody, scrub_line}
use Rattle.store_model.specs.Dues.{Due, Ends, NotStore, Damaged, IsScrubDue}
use Rattle.store_model.specs.StoreLaws.{EachImageIsScrubbed}
use Rattle.send_model.proofs.Canonical.{bytes_at as byte_at}
use Rattle.send_model.proofs.Sound.{bytes_drop}
use Rattle.send_model.proofs.ElementLaws.{all_both}
use Rattle.store_model.proofs.SaidBodies.{same_bytes}
use Rattle.store_model.proofs.Decided.{header_decided, whole_group}
use Rattle.store_model.proofs.ScrubLaws.{with_seal, without_seal}

-- ---- a body

abbrev Found : ℕ → List ℕ → Type 0
Found format body = IsWhole format body ⊎ (((stored : ℕ) × (computed : ℕ) × IsDamaged body stored computed) ⊎ IsNone format body)

-- the kinds of a format
kind_decided : (format kind : ℕ) → IsKind format kind ⊎ (IsKind format kind → ⊥)
kind_decided format kind = one (cases_lt kind 1) (cases_lt kind 7) (cases_lt kind 4) (cases_eq format 1)
  where
    one : (kind < 1) ⊎ (1 ≤ kind) → (kind < 7) ⊎ (7 ≤ kind) → (kind < 4) ⊎ (4 ≤ kind) → (format ≡ 1) ⊎ (format ≡ 1 → ⊥) → IsKind format kind ⊎ (IsKind format kind → ⊥)
    one (inl none) b c d = inr (λ k. absurd (omega (arith, k.0, none)))
    one (inr some) (inr above) c d = inr (λ k. absurd (omega (arith, k.1, above)))
    one (inr some) (inl known) c (inl old) = inl (omega (arith, some), known, λ h. old)
    one (inr some) (inl known) (inr new) (inr not) = inl (omega (arith, some), known, λ h. absurd (omega (arith, h, new)))
    one (inr some) (inl known) (inl plain) (inr not) = inr (λ k. not (k.2 plain))

-- with four bytes behind it
summed : (format kind : ℕ) (rest sum : List ℕ) → IsKind format kind → 3 < kind → length sum ≡ 4 → IsBytes sum → Found format ((kind ∷ rest) ++ sum)
summed format kind rest sum known above four are = one (same_bytes sum (to_le_bytes w32 (crc_of 0 (kind ∷ rest))))
  where
    one : (sum ≡ to_le_bytes w32 (crc_of 0 (kind ∷ rest))) ⊎ (sum ≡ to_le_bytes w32 (crc_of 0 (kind ∷ rest)) → ⊥) → Found format ((kind ∷ rest) ++ sum)
    one (inl is) = inl (kind, rest, known, ap (λ (l : List ℕ). (kind ∷ rest) ++ l) is ∙ sym (with_seal kind rest above))
    one (inr not) = inr (inl (
      from_le_bytes w32 sum,
      crc_of 0 (kind ∷ rest),
      record {
        kind = kind;
        rest = rest;
        sum = sum;
        new = (above, known.1);
        four = four;
        bytes = refl;
        stored_is = refl;
        computed_is = refl;
        differs = λ same. not (sym (le_bytes_4 sum (from_le_bytes w32 sum) four (byte_at sum are) refl) ∙ ap (λ (n : ℕ). to_le_bytes w32 n) same);
      },
    ))

body_found : (format : ℕ) (body : List ℕ) → IsBytes body → Found format body
body_found format [] are = inr (inr tt)
body_found format (kind ∷ rest) are = one (kind_decided format kind) (cases_lt kind 4) (cases_lt (length rest) 4)
  where
    one : IsKind format kind ⊎ (IsKind format kind → ⊥) → (kind < 4) ⊎ (4 ≤ kind) → (length rest < 4) ⊎ (4 ≤ length rest) → Found format (kind ∷ rest)
    one (inr not) b c = inr (inr (inl not))
    one (inl known) (inl plain) c = inl (kind, rest, known, sym (without_seal kind rest plain))
    one (inl known) (inr new) (inl short) = inr (inr (inr (omega (arith, new), short)))
    one (inl known) (inr new) (inr enough) =
        let k : ℕ = length rest - 4 in
        subst (λ (l : List ℕ). Found format (kind ∷ l)) (take-append-drop k rest)
        (summed format kind (take k rest) (drop k rest) known (omega (arith, new)) (omega (arith, length-drop k rest, enough)) (bytes_drop k rest are.1))

-- ---- groups

abbrev IsFound : List ℕ → Type 0
IsFound image = (due : Due) × (written : List ℕ) × IsScrubDue image due written

-- one body more
bodies_more : (bodies : List (List ℕ)) (body : List ℕ) → flat_map group_of (bodies ++ body ∷ []) ≡ flat_map group_of bodies ++ group_of body
bodies_more [] body = append-nil (group_of body)
bodies_more (b ∷ bodies) body = ap (λ (l : List ℕ). group_of b ++ l) (bodies_more bodies body) ∙ sym (append_assoc (group_of b) (flat_map group_of bodies) (group_of body))

front_more : (header : Header) (bodies : List (List ℕ)) (body rest : List ℕ) → front_of header (bodies ++ body ∷ []) ++ rest ≡ front_of header bodies ++ (group_of body ++ rest)
front_more header bodies body rest =
    ap (λ (l : List ℕ). (header_of header ++ l) ++ rest) (bodies_more bodies body) ∙ ap (λ (l : List ℕ). l ++ rest) (sym (append_assoc (header_of header) (flat_map group_of bodies) (group_of body)))
    ∙ append_assoc (front_of header bodies) (group_of body) rest

module _ (image : List ℕ) (header : Header) (lawful : IsHeader header) where
  record At (bodies : List (List ℕ)) (rest : List ℕ) : Type 0 where
    fits : AllByRecursion IsShort bodies
    whole : AllByRecursion (IsWhole header.format) bodies
    bytes : image ≡ front_of header bodies ++ rest
    are : IsBytes rest

  fails : (fault : ℕ → List ℕ → Type 0) (bodies : List (List ℕ)) (rest : List ℕ) → At bodies rest → fault header.format rest → FailsWith fault image (length bodies)
  fails fault bodies rest at is = record { header = header; lawful = lawful; bodies = bodies; are = refl; lengths_fit = at.fits; whole = at.whole; rest = rest; bytes = at.bytes; is = is }

  no_store : (bodies : List (List ℕ)) (rest : List ℕ) → At bodies rest → IsCutShort rest ⊎ HasBody (IsNone header.format) rest → IsFound image
  no_store bodies rest at is = (NotStore (suc (length bodies)), [], (fails (λ format r. IsCutShort r ⊎ HasBody (IsNone format) r) bodies rest at is, refl))

  groups_found : (fuel : ℕ) (bodies : List (List ℕ)) (rest : List ℕ) → length rest ≤ fuel → At bodies rest → IsFound image
  groups_found fuel bodies [] enough at = no_store bodies [] at (inl tt)
  groups_found zero bodies (b ∷ r) enough at = absurd (omega (arith, enough))
  groups_found (suc fuel) bodies (b ∷ r) enough at = gate (cases_eq b 1) (cases_lt (length r) (8 + from_le_bytes w64 (take 8 r))) (λ more left less now. groups_found fuel more left less now)
    where
      body_there : (body others : List ℕ) → IsShort body → IsBytes others → b ∷ r ≡ group_of body ++ others → Found header.format body → ((more : List (List ℕ)) (left : List ℕ) → length left ≤ fuel → At more left → IsFound image) → IsFound image
      body_there body others short small is (inl whole) go_on = go_on (bodies ++ body ∷ []) others (omega (arith, ap length is, length-append (group_of body) others, enough)) (record {
        fits = all_both IsShort bodies (body ∷ []) at.fits (short, tt);
        whole = all_both (IsWhole header.format) bodies (body ∷ []) at.whole (whole, tt);
        bytes = at.bytes ∙ ap (λ (l : List ℕ). front_of header bodies ++ l) is ∙ sym (front_more header bodies body others);
        are = small;
      })
      body_there body others short small is (inr (inl damaged)) go_on =
          (Damaged (suc (length bodies)) damaged.0 damaged.1, [], (fails (λ format rest. HasBody (λ x. IsDamaged x damaged.0 damaged.1) rest) bodies (b ∷ r) at (record { body = body; others = others; short = short; bytes = is; is = damaged.2 }), refl))
      body_there body others short small is (inr (inr none)) go_on = no_store bodies (b ∷ r) at (inr (record { body = body; others = others; short = short; bytes = is; is = none }))

      gate : (b ≡ 1) ⊎ (b ≡ 1 → ⊥) → (length r < 8 + from_le_bytes w64 (take 8 r)) ⊎ (8 + from_le_bytes w64 (take 8 r) ≤ length r) → ((more : List (List ℕ)) (left : List ℕ) → length left ≤ fuel → At more left → IsFound image) → IsFound image
      gate (inr closed) size go_on = (
        Ends DoneWhole,
        scrub_line (length bodies) (unsealed bodies),
        (
          refl,
          (
            length bodies,
            unsealed bodies,
            record {
              header = header;
              bodies = bodies;
              has = record { gate = b; rest = r; closed = closed; bytes = at.bytes; lawful = lawful; lengths_fit = at.fits };
              whole = at.whole;
              count = refl;
              plain_count = refl;
            },
            refl,
          ),
        ),
      )
      gate (inl is) (inl cut) go_on = no_store bodies (b ∷ r) at (inl (is, cut))
      gate (inl is) (inr long) go_on =
          let w = whole_group r at.are.1 long in
          body_there w.0 w.1 w.2 w.4 (ap (λ (n : ℕ). n ∷ r) is ∙ w.5) (body_found header.format w.0 w.3) go_on

pub image_scrubbed : EachImageIsScrubbed
image_scrubbed image are = one (header_decided image are)
  where
    behind : (xs ys : List ℕ) → IsBytes (xs ++ ys) → IsBytes ys
    behind [] ys h = h
    behind (x ∷ xs) ys h = behind xs ys h.1

    one : HasHeader image ⊎ (HasHeader image → ⊥) → IsFound image
    one (inr none) = (NotStore 0, [], (none, refl))
    one (inl has) = groups_found image has.header has.lawful (length has.rest) [] has.rest (omega arith) (record {
      fits = tt;
      whole = tt;
      bytes = has.bytes ∙ ap (λ (l : List ℕ). l ++ has.rest) (sym (append-nil (header_of has.header)));
      are = behind (header_of has.header) has.rest (subst IsBytes has.bytes are);
    })
