-- What is counted of a chain as one file, and of the stream that it is composed to, are the numbers
-- of its trial.
use Rattle.std.specs.Prelude.{◌≡◌, ℕ, ◌+◌, ◌≤◌, ◌==◌, Bool, false, List, [], ◌∷◌, ◌++◌, map, length, Option, None, if◌then◌else◌}
use Rattle.std.specs.List.{list_any, flat_map, AllByRecursion}
use Rattle.std.proofs.Common.{refl, sym, ap, ap₂, subst, ◌∙◌, append-nil}
use Rattle.send_model.specs.Command.{Command}
use Rattle.send_model.specs.Spelling.{stream_header, canonical_all}
use Rattle.send_model.specs.Reading.{Item, Verdict, Ending, Whole, Faulty, Reading, ended, joined, reads, input_from, input}
use Rattle.send_model.specs.Store.{find}
use Rattle.send_model.specs.Receive.{run_items, receive_items, byte_cells, start_of, fault_of}
use Rattle.send_model.specs.Order.{commands_of}
use Rattle.send_model.specs.Outside.{keys_outside, FindsLawful}
use Rattle.send_model.specs.Provenance.{Traced, uncarried_in, ranges_of}
use Rattle.send_model.specs.Counts.{literal, clones}
use Rattle.send_model.specs.Composed.{version_of, composed_of}
use Rattle.send_model.specs.Generated.{chain_of, chain_items, parts_of, trial_composed}
use Rattle.send_model.specs.Headline.{commands_in, IsComposedOf, IsComposed, output_of, whole_output}
use Rattle.send_model.specs.Due.{DoneWhole, compose_due}
use Rattle.send_model.proofs.Dues.{is_judged}
use Rattle.send_model.proofs.Headlines.{first_none}
use Rattle.send_model.proofs.HeadlineLaw.{items_hold}
use Rattle.chain_trial.proofs.ReadChains.{ReadsFirst, chain_read}
use Rattle.chain_trial.proofs.SameCommands.{placed, placed_all, count_placed, composed_placed, all_ranges_placed}

-- One file that is read whole is all that is read.
alone : (r : Reading) → r.end ≡ Whole → joined r ended ≡ r
alone r whole =
    ap (λ (e : Ending). elim e as (λ x. Reading) [ Faulty verdict ↦ r | Whole ↦ record { items = r.items ++ []; end = Whole } ]) whole
    ∙ (λ i. record { items = append-nil r.items i; end = sym whole i })

first_version : (items : List Item) → AllByRecursion (λ item. item.version ≡ 1) items → list_any (λ item. item.version == 2) items ≡ false
first_version [] all = refl
first_version (item ∷ items) all = rw (all.0) (first_version items all.1)

-- A store without subvolumes finds none.
none_found : (items : List Item) → FindsLawful [] (keys_outside items)
unfolding find
none_found items = λ key s among f. cc

-- The clones of what is composed, as the headline counts them.
clones_counted : (r : Reading) (written : List ℕ) → IsComposedOf [] r written → clones (composed_of [] r.items) ≡ clones (commands_in written)
unfolding receive_items
clones_counted r written c =
    let accepted = first_none (run_items 0 byte_cells (start_of []) r.items).refused (fault_of r.end) c.accepted in
    let a = items_hold [] r.items c.consecutive accepted (none_found r.items) in
    a.clone_count ∙ sym c.clone_count

-- The numbers, where composing was done.
pub record AreDue (seed count : ℕ) (written : List ℕ) : Type 0 where
  pub commands : length (reads 1 (chain_of seed count)).items ≡ length (chain_items seed count)
  pub output : written ≡ stream_header 1 ++ canonical_all 1 (trial_composed seed count)
  pub clones_are : clones (commands_in written) ≡ clones (trial_composed seed count)
  pub literal_is : literal (commands_in written) ≡ literal (commands_of (reads 1 (chain_of seed count)).items) + uncarried_in [] (ranges_of [] (chain_items seed count))

module _ (seed count : ℕ) (some : 1 ≤ count) (few : count ≤ 4_096) where
  files : List (List ℕ)
  files = chain_of seed count ∷ []

  read : ReadsFirst (reads 1 (chain_of seed count)) (flat_map (λ part. part) (parts_of seed count))
  read = chain_read seed count some few

  items : List Item
  items = (reads 1 (chain_of seed count)).items

  pub read_alone : input (chain_of seed count ∷ []) ≡ reads 1 (chain_of seed count)
  unfolding input input_from
  read_alone = alone (reads 1 (chain_of seed count)) read.whole

  pub are_placed : chain_items seed count ≡ placed_all (reads 1 (chain_of seed count)).items
  are_placed = ap (map placed) (sym read.commands)

  pub composed_are : trial_composed seed count ≡ composed_of [] (reads 1 (chain_of seed count)).items
  unfolding trial_composed
  composed_are = ap (composed_of []) are_placed ∙ composed_placed [] (reads 1 (chain_of seed count)).items

  pub version_is : version_of (reads 1 (chain_of seed count)).items ≡ 1
  unfolding version_of
  version_is = ap (λ (b : Bool). if b then 2 else 1) (first_version (reads 1 (chain_of seed count)).items read.first)

  written_is : (written : List ℕ) → compose_due [] (chain_of seed count ∷ []) ≡ DoneWhole → written ≡ whole_output [] (chain_of seed count ∷ []) → written ≡ stream_header 1 ++ canonical_all 1 (trial_composed seed count)
  written_is written due all =
      let judged = (is_judged [] (chain_of seed count ∷ [])).done due in
      all ∙ ap (λ (v : Option Verdict). output_of v [] (input (chain_of seed count ∷ [])).items) judged.0
      ∙ ap (λ (r : Reading). output_of None [] r.items) read_alone
      ∙ ap₂ (λ (v : ℕ) (cs : List Command). stream_header v ++ canonical_all v cs) version_is (sym composed_are)

  pub numbers_are_due : (written : List ℕ) → compose_due [] (chain_of seed count ∷ []) ≡ DoneWhole → written ≡ whole_output [] (chain_of seed count ∷ []) → IsComposed [] (chain_of seed count ∷ []) written → AreDue seed count written
  numbers_are_due written due all composed =
      let is : List Item = (reads 1 (chain_of seed count)).items in
      let c : IsComposedOf [] (reads 1 (chain_of seed count)) written = subst (λ (r : Reading). IsComposedOf [] r written) read_alone composed in
      record {
        commands = sym (count_placed is) ∙ ap length (sym are_placed);
        output = written_is written due all;
        clones_are = sym (ap clones composed_are ∙ clones_counted (reads 1 (chain_of seed count)) written c);
        literal_is = c.literal_bytes ∙ ap (λ (ranges : List (List Traced)). literal (commands_of is) + uncarried_in [] ranges) (sym (ap (ranges_of []) are_placed ∙ all_ranges_placed [] is));
      }
