-- What a chain is composed to: it is short, and its writes carry few bytes.
use Rattle.std.specs.Prelude.{◌≡◌, ℕ, suc, ◌+◌, ◌*◌, ◌≤◌, List, [], ◌∷◌, ◌++◌, length, Option, None, Some}
use Rattle.std.specs.List.{flat_map, AllByRecursion}
use Rattle.std.proofs.Common.{refl, sym, ap, subst, ◌∙◌, arith, length-append, zero-le}
use Rattle.std.proofs.lemmas.List.Sums.{sum_by-cons}
use Rattle.send_model.specs.Command.{Command, Write, End, row}
use Rattle.send_model.specs.Spelling.{stream_header, canonical_all, IsSpellable}
use Rattle.send_model.specs.Reading.{Item, Reading, reads}
use Rattle.send_model.specs.Store.{Head, find}
use Rattle.send_model.specs.Receive.{bytes_of, run_items, receive_items, byte_cells, start_of, fault_of}
use Rattle.send_model.specs.Order.{commands_of, heads}
use Rattle.send_model.specs.Outside.{keys_outside, part_uuids, FindsSayable}
use Rattle.send_model.specs.Provenance.{traced_store}
use Rattle.send_model.specs.Counts.{literal}
use Rattle.send_model.specs.Composed.{first_head, last_head, composed_edits, composed_with, composed_for, composed_of}
use Rattle.send_model.specs.Generated.{chain_of, parts_of}
use Rattle.send_model.specs.Headline.{IsComposedOf, IsComposed}
use Rattle.send_model.proofs.Headlines.{first_none}
use Rattle.send_model.proofs.HeadlineLaw.{items_spelled}
use Rattle.chain_trial.specs.Counting.{IsCountable}
use Rattle.chain_trial.proofs.SpelledChains.{all_are_parts}
use Rattle.chain_trial.proofs.ReadChains.{ReadsFirst, chain_read}
use Rattle.chain_trial.proofs.Numbers.{read_alone, composed_are, version_is, AreDue}
use Rattle.chain_trial.proofs.ChainSizes.{cloned_in, composed_few, commands_short, chain_commands}
use Rattle.chain_trial.proofs.DueChains.{header_is, parts_spelled, chain_short, cloned_few, uncarried_low}

-- ---- commands

for_few : (first last : Option Head) (items : List Item) → length (composed_for [] first last items) ≤ 2 + length items + cloned_in (commands_of items)
unfolding composed_with composed_edits
for_few (Some first) (Some last) items =
    let edits = composed_few [] (part_uuids items) last.key items (start_of (traced_store [])) None in
    let end = length-append (composed_edits [] last.key items) (End ∷ []) in
    omega (arith, edits, end)
for_few None last items = zero-le
for_few (Some first) None items = zero-le

data_short : (c : Command) → IsSpellable 1 c → length (bytes_of c) ≤ 65_536
unfolding row
data_short (Write path offset bytes) s = let short = s.values.1.1.0.0 refl in omega (arith, short)
data_short c s = zero-le

literal_few : (cs : List Command) → AllByRecursion (IsSpellable 1) cs → literal cs ≤ 65_536 * length cs
unfolding literal
literal_few [] all = zero-le
literal_few (c ∷ cs) all =
    let sum = sum_by-cons (λ (d : Command). length (bytes_of d)) c cs in
    let one = data_short c all.0 in
    let more = literal_few cs all.1 in
    omega (arith, sum, one, more)

items_spellable : (items : List Item) → AllByRecursion (λ item. item.version ≡ 1) items → AllByRecursion (IsSpellable 1) (commands_of items) → AllByRecursion (λ item. IsSpellable item.version item.command) items
items_spellable [] first all = tt
items_spellable (item ∷ items) first all = (subst (λ (v : ℕ). IsSpellable v item.command) (sym first.0) all.0, items_spellable items first.1 all.1)

none_said : (items : List Item) → FindsSayable [] (keys_outside items)
unfolding find
none_said items = λ key s among f. cc

count_commands : (items : List Item) → length (commands_of items) ≡ length items
count_commands [] = refl
count_commands (item ∷ items) = ap suc (count_commands items)

-- ---- files that can be counted

module _ (seed count : ℕ) (some : 1 ≤ count) (few : count ≤ 4_096) where
  read : ReadsFirst (reads 1 (chain_of seed count)) (flat_map (λ part. part) (parts_of seed count))
  read = chain_read seed count some few

  spelled : AllByRecursion (IsSpellable 1) (commands_of (reads 1 (chain_of seed count)).items)
  spelled = subst (λ (cs : List Command). AllByRecursion (IsSpellable 1) cs) (sym read.commands) (parts_spelled (parts_of seed count) (all_are_parts seed count few))

  commands_low : length (commands_of (reads 1 (chain_of seed count)).items) ≤ 73_728
  commands_low = let l = chain_commands seed count few in let c = ap length read.commands in omega (arith, l, c)

  literal_low : literal (commands_of (reads 1 (chain_of seed count)).items) ≤ 4_831_838_208
  literal_low = let l = literal_few (commands_of (reads 1 (chain_of seed count)).items) spelled in let n = commands_low in omega (arith, l, n)

  pub chain_counts : IsCountable (chain_of seed count)
  chain_counts = let l = literal_low in record { whole = read.whole; short = chain_short seed count few; few = omega (arith, l) }

  composed_spelled : (written : List ℕ) → IsComposedOf [] (reads 1 (chain_of seed count)) written → AllByRecursion (IsSpellable 1) (composed_of [] (reads 1 (chain_of seed count)).items)
  unfolding receive_items
  composed_spelled written c =
      let items : List Item = (reads 1 (chain_of seed count)).items in
      let accepted = first_none (run_items 0 byte_cells (start_of []) items).refused (fault_of (reads 1 (chain_of seed count)).end) c.accepted in
      subst (λ (v : ℕ). AllByRecursion (IsSpellable v) (composed_of [] items)) (version_is seed count some few)
      (items_spelled [] items c.consecutive accepted (none_said items) (items_spellable items read.first spelled))

  pub composed_counts : (written : List ℕ) → IsComposed [] (chain_of seed count ∷ []) written → AreDue seed count written → IsCountable written
  composed_counts written composed due =
      let items : List Item = (reads 1 (chain_of seed count)).items in
      let c : IsComposedOf [] (reads 1 (chain_of seed count)) written = subst (λ (r : Reading). IsComposedOf [] r written) (read_alone seed count some few) composed in
      let cs : List Command = composed_of [] items in
      let all : AllByRecursion (IsSpellable 1) cs = composed_spelled written c in
      let short = commands_short 1 cs all in
      let number = for_few (first_head (heads items)) (last_head (heads items)) items in
      let same = count_commands items in
      let low = commands_low in
      let clones = cloned_few seed count some few in
      let is : length written ≡ length (stream_header 1 ++ canonical_all 1 cs) = ap length (due.output ∙ ap (λ (ds : List Command). stream_header 1 ++ canonical_all 1 ds) (composed_are seed count some few)) in
      let both = length-append (stream_header 1) (canonical_all 1 cs) in
      let header = header_is in
      let bytes = c.literal_bytes in
      let own = literal_low in
      let others = uncarried_low seed count some few in
      record {
        whole = c.whole;
        short = omega (arith, short, number, same, low, clones, is, both, header);
        few = omega (arith, bytes, own, others);
      }
