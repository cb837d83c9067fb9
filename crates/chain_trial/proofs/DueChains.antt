-- A chain that is composed over no base comes to a whole end: it is short, nothing of it is
-- refused, and its clones put few bytes.
use Rattle.std.specs.Prelude.{◌≡◌, ℕ, ◌*◌, ◌<◌, ◌≤◌, Bool, true, false, ◌&&◌, List, [], ◌∷◌, ◌++◌, length, take, Option, None, Some, if◌then◌else◌}
use Rattle.std.specs.List.{flat_map, AllByRecursion}
use Rattle.std.proofs.Common.{refl, sym, ap, subst, ◌∙◌, arith, length-append, zero-le}
use Rattle.std.proofs.lemmas.Bool.{lt-leb}
use Rattle.send_model.specs.Refusal.{Refusal, NotConsecutive}
use Rattle.send_model.specs.Command.{Command, End}
use Rattle.send_model.specs.Spelling.{stream_header, canonical_all, IsSpellable}
use Rattle.send_model.specs.Reading.{Item, Verdict, Ending, Whole, Faulty, Reading, reads, input}
use Rattle.send_model.specs.Lengths.{limit, only_ends, is_too_long, unless_faulty, too_long, too_long_from}
use Rattle.send_model.specs.Store.{Key, Head, State, head_of, step}
use Rattle.send_model.specs.Receive.{byte_cells, start_of, first_of, fault_of, verdict_of}
use Rattle.send_model.specs.Order.{commands_of, heads, breaks_order, part_after, then_judge, judge_items, judge_reading, judge_of, without_parts, last_item}
use Rattle.send_model.specs.Outside.{part_uuids}
use Rattle.send_model.specs.Provenance.{traced_store, uncarried_cells}
use Rattle.send_model.specs.Laws.{AreInner}
use Rattle.send_model.specs.Generated.{chain_of, parts_of}
use Rattle.send_model.specs.Due.{Due, DoneWhole, RefusedAt, TooLong, TooMuch, most_literal, compose_due, compose_due_of, IsJudgedOf}
use Rattle.send_model.proofs.ElementLaws.{all_both}
use Rattle.send_model.proofs.Dues.{is_judged}
use Rattle.send_model.proofs.Streams.{read_version, end_writable}
use Rattle.send_model.proofs.GeneratedChains.{chain_is_lawful}
use Rattle.chain_trial.proofs.SpelledChains.{IsPart, all_are_parts}
use Rattle.chain_trial.proofs.ReadChains.{ReadsFirst, chain_read}
use Rattle.chain_trial.proofs.SameCommands.{placed, placed_all, heads_placed}
use Rattle.chain_trial.proofs.Numbers.{read_alone, are_placed}
use Rattle.chain_trial.proofs.ChainSizes.{cloned_in, uncarried_few, commands_short, IsFew, parts_few, parts_counted, chain_clones}

-- ---- how long it is

inner_spelled : (cs : List Command) → AreInner 1 cs → AllByRecursion (IsSpellable 1) cs
inner_spelled [] all = tt
inner_spelled (c ∷ cs) all = (all.0.0.spellable, inner_spelled cs all.1)

part_spelled : (part : List Command) → IsPart part → AllByRecursion (IsSpellable 1) part
part_spelled part (inner, is, all) =
    subst (λ (cs : List Command). AllByRecursion (IsSpellable 1) cs) (sym is)
    (all_both (IsSpellable 1) inner (End ∷ []) (inner_spelled inner all) ((end_writable 1 (read_version 1 refl)).spellable, tt))

pub parts_spelled : (parts : List (List Command)) → AllByRecursion IsPart parts → AllByRecursion (IsSpellable 1) (flat_map (λ part. part) parts)
parts_spelled [] all = tt
parts_spelled (part ∷ parts) all = all_both (IsSpellable 1) part (flat_map (λ p. p) parts) (part_spelled part all.0) (parts_spelled parts all.1)

abbrev stream_of : List Command → List ℕ
stream_of part = stream_header 1 ++ canonical_all 1 part

pub header_is : length (stream_header 1) ≡ 17
unfolding stream_header
header_is = refl

streams_short : (parts : List (List Command)) → AllByRecursion IsPart parts → AllByRecursion IsFew parts → length (flat_map stream_of parts) ≤ 4_718_789 * length parts
streams_short [] all few = zero-le
streams_short (part ∷ parts) all few =
    let both = length-append (stream_of part) (flat_map stream_of parts) in
    let stream = length-append (stream_header 1) (canonical_all 1 part) in
    let header = header_is in
    let one = commands_short 1 part (part_spelled part all.0) in
    let commands = few.0.commands in
    let more = streams_short parts all.1 few.1 in
    omega (arith, both, stream, header, one, commands, more)

pub chain_short : (seed count : ℕ) → count ≤ 4_096 → length (chain_of seed count) < limit
unfolding chain_of
chain_short seed count few =
    let n = parts_counted seed count in
    let l = streams_short (parts_of seed count) (all_are_parts seed count few) (parts_few seed count) in
    omega (arith, few, n, l)

not_long : (number : ℕ) (bytes : List ℕ) → length bytes < limit → is_too_long number bytes ≡ false
unfolding is_too_long
not_long number bytes short = ap (λ (b : Bool). b && only_ends (reads number (take limit bytes)).end) (lt-leb limit (length bytes) short)

after_none : (e : Ending) → unless_faulty e None ≡ None
after_none Whole = refl
after_none (Faulty verdict) = refl

none_long : (bytes : List ℕ) → length bytes < limit → too_long (bytes ∷ []) ≡ None
unfolding too_long too_long_from
none_long bytes short =
    ap (λ (b : Bool). if b then Some 1 else unless_faulty (reads 1 bytes).end None) (not_long 1 bytes short) ∙ after_none (reads 1 bytes).end

-- ---- that nothing of it is refused

-- The verdict looks at the commands alone.
then_none : (a b : Item) (state : State ℕ) (o : Option Refusal) (breaks : Bool) (rest other : Option Verdict) → (rest ≡ None → other ≡ None)
    → then_judge a (record { state = state; refusal = o }) breaks rest ≡ None → then_judge b (record { state = state; refusal = o }) breaks other ≡ None
then_none a b state None false rest other more e = more e
then_none a b state None true rest other more e = cc
then_none a b state (Some refusal) breaks rest other more e = cc

judged_placed : (items : List Item) (state : State ℕ) (previous : Option Key) → judge_items 0 byte_cells state previous (placed_all items) ≡ None → judge_items 0 byte_cells state previous items ≡ None
unfolding judge_items
judged_placed [] state previous e = refl
judged_placed (item ∷ items) state previous e =
    let stepped = step 0 (byte_cells item) state item.command in
    let next : Option Key = part_after previous (head_of item.command) in
    then_none (placed item.command) item stepped.state stepped.refusal (breaks_order previous (head_of item.command)) (judge_items 0 byte_cells stepped.state next (placed_all items)) (judge_items 0 byte_cells stepped.state next items)
    (λ more. judged_placed items stepped.state next more) e

some_last : (item : Item) (items : List Item) → (last : Item) × (last_item (item ∷ items) ≡ Some last)
some_last item [] = (item, refl)
some_last item (more ∷ items) = some_last more items

parts_placed : (items : List Item) (hs : List Head) → without_parts (placed_all items) hs ≡ None → without_parts items hs ≡ None
parts_placed items (head ∷ hs) e = refl
parts_placed [] [] e = refl
parts_placed (item ∷ items) [] e =
    let last = some_last (placed item.command) (placed_all items) in
    absurd (never (sym (ap (λ (o : Option Item). elim o as (λ x. Option Verdict) [ None ↦ None | Some x ↦ Some (verdict_of x NotConsecutive) ]) last.1) ∙ e))
  where
    never : {v : Verdict} → Some v ≡ None → ⊥
    never q = cc

first_both : (a b : Option Verdict) → first_of a b ≡ None → (a ≡ None) × (b ≡ None)
first_both None b e = (refl, e)
first_both (Some v) b e = cc

both_first : (a b : Option Verdict) → a ≡ None → b ≡ None → first_of a b ≡ None
both_first a b x y = ap (λ (o : Option Verdict). first_of o b) x ∙ y

reading_judged : (r : Reading) → r.end ≡ Whole → judge_of [] (record { items = placed_all r.items; end = Whole }) ≡ None → judge_of [] r ≡ None
unfolding judge_reading
reading_judged r whole e =
    let both = first_both (judge_items 0 byte_cells (start_of []) None (placed_all r.items)) (without_parts (placed_all r.items) (heads (placed_all r.items))) e in
    let parts : without_parts (placed_all r.items) (heads r.items) ≡ None = ap (without_parts (placed_all r.items)) (sym (heads_placed r.items)) ∙ both.1 in
    both_first (judge_items 0 byte_cells (start_of []) None r.items) (first_of (fault_of r.end) (without_parts r.items (heads r.items))) (judged_placed r.items (start_of []) None both.0)
    (both_first (fault_of r.end) (without_parts r.items (heads r.items)) (ap fault_of whole) (parts_placed r.items (heads r.items) parts))

-- ---- the answer

-- The answer that is due, of each that there is.
done_alone : (long : Option ℕ) (reading : Reading) → long ≡ None → judge_of [] reading ≡ None → uncarried_cells [] reading.items ≤ most_literal → IsJudgedOf long [] reading
    → (d : Due) → compose_due_of long [] reading ≡ d → d ≡ DoneWhole
done_alone long reading none judged few j DoneWhole e = refl
done_alone long reading none judged few j (RefusedAt v) e = absurd (never (sym judged ∙ j.refused v e))
  where
    never : None ≡ Some v → ⊥
    never q = cc
done_alone long reading none judged few j (TooLong file) e = absurd (never (sym none ∙ j.long file e))
  where
    never : None ≡ Some file → ⊥
    never q = cc
done_alone long reading none judged few j (TooMuch sum) e = let m = j.much sum e in absurd (omega (arith, few, m.0, m.1))

module _ (seed count : ℕ) (some : 1 ≤ count) (few : count ≤ 4_096) where
  read : ReadsFirst (reads 1 (chain_of seed count)) (flat_map (λ part. part) (parts_of seed count))
  read = chain_read seed count some few

  pub cloned_few : cloned_in (commands_of (reads 1 (chain_of seed count)).items) ≤ 16_777_216
  cloned_few = let l = chain_clones seed count few in let c = ap cloned_in read.commands in omega (arith, l, c)

  pub uncarried_low : uncarried_cells [] (reads 1 (chain_of seed count)).items ≤ 16_777_216
  uncarried_low =
      let items : List Item = (reads 1 (chain_of seed count)).items in
      let u = uncarried_few [] (part_uuids items) items (start_of (traced_store [])) None in
      let c = cloned_few in
      omega (arith, u, c)

  judged : judge_of [] (reads 1 (chain_of seed count)) ≡ None
  judged =
      reading_judged (reads 1 (chain_of seed count)) read.whole
      (ap (λ (items : List Item). judge_of [] (record { items = items; end = Whole })) (sym (are_placed seed count some few)) ∙ chain_is_lawful seed count some few)

  -- Composing the chain is done.
  pub chain_due : compose_due [] (chain_of seed count ∷ []) ≡ DoneWhole
  chain_due =
      let r : Reading = reads 1 (chain_of seed count) in
      let same : input (chain_of seed count ∷ []) ≡ r = read_alone seed count some few in
      let none : too_long (chain_of seed count ∷ []) ≡ None = none_long (chain_of seed count) (chain_short seed count few) in
      let low = uncarried_low in
      done_alone (too_long (chain_of seed count ∷ [])) (input (chain_of seed count ∷ [])) none (ap (judge_of []) same ∙ judged)
      (subst (λ (x : Reading). uncarried_cells [] x.items ≤ most_literal) (sym same) (omega (arith, low)))
      (is_judged [] (chain_of seed count ∷ [])) (compose_due [] (chain_of seed count ∷ [])) refl
