-- A chain, part by part, and what stands of it before its end.
use Rattle.std.specs.Prelude.{◌≡◌, ℕ, zero, suc, ◌+◌, ◌-◌, ◌<◌, ◌≤◌, Bool, List, [], ◌∷◌, ◌++◌, take, Option, if◌then◌else◌}
use Rattle.std.specs.List.{flat_map}
use Rattle.std.specs.Io.KnownBytes.{Appends}
use Rattle.std.proofs.Common.{refl, sym, ap, subst, ◌∙◌, arith, append_assoc, append-nil, add-one}
use Rattle.std.proofs.KnownBytes.{Appends-nil, Appends-trans}
use Rattle.send_model.specs.Command.{Command}
use Rattle.send_model.specs.Spelling.{stream_header, canonical_all}
use Rattle.send_model.specs.Generated.{first_part, later_part, parts_of, chain_of}
use Rattle.send_model.specs.Headline.{IsFrontOf}
use Rattle.send_model.specs.Words.{Gen, due, whole_of}
use Rattle.send_model.proofs.Fronts.{is_front, part_front}
use Rattle.sx_base.specs.Calls.{Wrote, Ends}
use Rattle.sx_base.specs.Outside.{AppendsPart}
use Rattle.sx_base.specs.declared.outcome.Outcome.TheVariants as ended
use Rattle.stream_gen.specs.Parts.{part_bytes}
use Rattle.stream_gen.proofs.DrawnNumbers.{not_first}

abbrev stream_of : List Command → List ℕ
stream_of part = stream_header 1 ++ canonical_all 1 part

streams_last : (parts : List (List Command)) (part : List Command) → flat_map stream_of (parts ++ part ∷ []) ≡ flat_map stream_of parts ++ stream_of part
streams_last [] part = append-nil (stream_of part)
streams_last (p ∷ parts) part = ap (λ (l : List ℕ). stream_of p ++ l) (streams_last parts part) ∙ sym (append_assoc (stream_of p) (flat_map stream_of parts) (stream_of part))

-- One part more.
pub chain_next : (seed parts : ℕ) → chain_of seed (suc parts) ≡ chain_of seed parts ++ part_bytes seed (suc parts)
unfolding chain_of parts_of part_bytes
chain_next seed zero = append-nil (stream_of (first_part seed))
chain_next seed (suc parts) =
    streams_last (parts_of seed (suc parts)) (later_part seed (suc (suc parts)))
    ∙ sym (ap (λ (b : Bool). flat_map stream_of (parts_of seed (suc parts)) ++ stream_of (if b then first_part seed else later_part seed (suc (suc parts)))) (not_first (suc (suc parts)) (omega arith)))

-- More parts only add bytes.
chain_grows : (seed parts more : ℕ) → (rest : List ℕ) × (chain_of seed (more + parts) ≡ chain_of seed parts ++ rest)
chain_grows seed parts zero = let same : 0 + parts ≡ parts = omega arith in ([], ap (chain_of seed) same ∙ sym (append-nil (chain_of seed parts)))
chain_grows seed parts (suc more) =
    let before = chain_grows seed parts more in
    let same : suc more + parts ≡ suc (more + parts) = omega arith in (
      before.0 ++ part_bytes seed (suc (more + parts)),
      ap (chain_of seed) same ∙ chain_next seed (more + parts) ∙ ap (λ (l : List ℕ). l ++ part_bytes seed (suc (more + parts))) before.1 ∙ append_assoc (chain_of seed parts) before.0 (part_bytes seed (suc (more + parts))),
    )

parts_front : (seed parts count : ℕ) → parts ≤ count → IsFrontOf (chain_of seed count) (chain_of seed parts)
parts_front seed parts count few =
    let grown = chain_grows seed parts (count - parts) in
    let same : count ≡ count - parts + parts = omega (arith, few) in
    is_front (chain_of seed count) (chain_of seed parts) grown.0 (ap (chain_of seed) same ∙ grown.1)

chain_front : (seed parts count some : ℕ) → parts < count → IsFrontOf (chain_of seed count) (chain_of seed parts ++ take some (part_bytes seed (parts + 1)))
chain_front seed parts count some few =
    let part : List ℕ = part_bytes seed (suc parts) in
    let grown = chain_grows seed (suc parts) (count - suc parts) in
    let same : count ≡ count - suc parts + suc parts = omega (arith, few) in
    subst (λ (n : ℕ). IsFrontOf (chain_of seed count) (chain_of seed parts ++ take some (part_bytes seed n))) (sym (add-one parts))
    (part_front (chain_of seed count) (chain_of seed parts) part grown.0 some (ap (chain_of seed) same ∙ grown.1 ∙ ap (λ (l : List ℕ). l ++ grown.0) (chain_next seed parts)))

-- ---- what a call has written

pub none_written : (seed : ℕ) (taken : Option (List ℕ)) → Appends taken taken (chain_of seed 0)
unfolding chain_of parts_of
none_written seed taken = Appends-nil taken

pub part_written : (seed parts : ℕ) (old now new : Option (List ℕ)) (part : List ℕ) → Appends old now (chain_of seed parts) → part ≡ part_bytes seed (parts + 1) → Appends now new part
    → Appends old new (chain_of seed (parts + 1))
part_written seed parts old now new part before is more =
    let chain : chain_of seed parts ++ part ≡ chain_of seed (parts + 1) =
    ap (λ (l : List ℕ). chain_of seed parts ++ l) (is ∙ ap (part_bytes seed) (add-one parts)) ∙ sym (chain_next seed parts) ∙ ap (chain_of seed) (sym (add-one parts)) in
    subst (λ (l : List ℕ). Appends old new l) chain (Appends-trans old now new (chain_of seed parts) part before more)

pub all_written : (seed parts count : ℕ) (old new : Option (List ℕ)) → parts ≡ count → Appends old new (chain_of seed parts)
    → Wrote old new (λ written. Ends (Gen count seed) [] [] ended.Done written)
unfolding due whole_of
all_written seed parts count old new is before = (chain_of seed parts, before, (refl, ap (chain_of seed) is))

pub unmade : (seed parts count : ℕ) (old new : Option (List ℕ)) → parts ≤ count → Appends old new (chain_of seed parts)
    → Wrote old new (λ written. Ends (Gen count seed) [] [] ended.NoMemory written)
unmade seed parts count old new few before = (chain_of seed parts, before, parts_front seed parts count few)

pub unwritten : (seed parts count : ℕ) (old now new : Option (List ℕ)) (part : List ℕ) → parts < count → Appends old now (chain_of seed parts) → part ≡ part_bytes seed (parts + 1) → AppendsPart now new part
    → Wrote old new (λ written. Ends (Gen count seed) [] [] ended.OutputFault written)
unwritten seed parts count old now new part few before is (some, less, more) = (
  chain_of seed parts ++ take some part,
  Appends-trans old now new (chain_of seed parts) (take some part) before more,
  subst (λ (l : List ℕ). IsFrontOf (chain_of seed count) (chain_of seed parts ++ take some l)) (sym is) (chain_front seed parts count some few),
)
