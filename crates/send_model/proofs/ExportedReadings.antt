-- What export promises of what it wrote of what was read: all of it follows from the commands, and
-- from what they do over each store that finds the same. So it is of files with overrides, and of
-- files.
use Rattle.std.specs.Prelude.{◌≡◌, ◌≢◌, ℕ, ◌↔◌, Bool, true, false, not, List, [], ◌∷◌, map, None}
use Rattle.std.proofs.Common.{refl, sym, ap, subst, ◌∙◌, lit<}
use Rattle.send_model.specs.Command.{Command}
use Rattle.send_model.specs.Reading.{Item, Reading, HeaderDue, reads, input}
use Rattle.send_model.specs.Store.{Key, Store, State, find}
use Rattle.send_model.specs.Receive.{Run, IsAccepted, run_items, byte_cells, start_of, receive_of, receive}
use Rattle.send_model.specs.Order.{commands_of}
use Rattle.send_model.specs.Outside.{IsAmong, is_among, part_uuids, keys_outside, all_keys_named, SameOn}
use Rattle.send_model.specs.Headline.{commands_in}
use Rattle.send_model.specs.Due.{limited_from, Limited}
use Rattle.send_model.specs.Separated.{LeadTo, ReceiverTakes, separated, with_all, AreFit}
use Rattle.send_model.specs.Receivable.{said}
use Rattle.send_model.specs.Exported.{exporting, byte_step, separated_items, exported_of, CanExportOver, AreSmallBy, IsExported}
use Rattle.send_model.specs.Overridden.{overridden, overridden_items, overridden_limited}
use Rattle.send_model.proofs.Runs.{Takes, takes_run}
use Rattle.send_model.proofs.Headlines.{among_all, among_kept, one_input, received_one}
use Rattle.send_model.proofs.ReadCommands.{AreWritable, input_writable}
use Rattle.send_model.proofs.Overriding.{overridden_is_writable}
use Rattle.send_model.proofs.LawfulStores.{IsLawfulState, items_spelled_as}
use Rattle.send_model.proofs.SeparatedRuns.{separated_is_received}
use Rattle.send_model.proofs.SameStores.{AreAlike, absent_finds_none, same_led, same_fit, came}
use Rattle.send_model.proofs.Exporting.{Same, StandsIn, exported_back, input_stands, input_some}
use Rattle.send_model.proofs.ExportedItems.{IsReady, separated_stands, separated_commands, separated_some, items_fit}
use Rattle.send_model.specs.ExportPromises.{IsExportedOf, NamedExportHolds, FilesArePromisedTheSame}
use Rattle.send_model.proofs.NamedStreams.{read_to_end, done_is_taken, overridden_stand, overridden_some}
use Rattle.send_model.proofs.ComposedAgain.{reaches, composed_again}

lead_is : (cs : List Command) (state end : State ℕ) → Takes state cs end ↔ LeadTo state cs end
lead_is [] state end = (λ t. t, λ t. t)
lead_is (c ∷ cs) state end = let more = lead_is cs _ end in (λ t. (t.0, more.0 t.1), λ t. (t.0, more.1 t.1))

-- The commands among what items say.
commands_said : (items : List Item) → commands_of items ≡ map (λ s. s.1) (map said items)
commands_said [] = refl
commands_said (item ∷ items) = ap (λ (cs : List Command). item.command ∷ cs) (commands_said items)

-- ---- of a reading

-- What was read is whole streams, all of whose commands are taken over a store, with few names
-- before each.
pub record IsTaken (base : Store ℕ) (reading : Reading) : Type 0 where
  pub some : reading.items ≢ []
  pub stands : StandsIn HeaderDue reading.items
  pub writable : AreWritable reading.items
  pub runs : IsAccepted (run_items 0 byte_cells (start_of base) reading.items)
  pub small : AreSmallBy byte_step (start_of base) reading.items

module _ (base : Store ℕ) (reading : Reading) (can : CanExportOver base) (t : IsTaken base reading) where
  abbrev items : List Item
  items = reading.items

  abbrev cs : List Command
  cs = commands_of items

  abbrev end : State ℕ
  end = (run_items 0 byte_cells (start_of base) items).state

  abbrev written : List ℕ
  written = exported_of base items

  takes : Takes (start_of base) cs end
  takes = takes_run items (start_of base) t.runs

  lawful : IsLawfulState (start_of base)
  lawful = record { store = can.lawful; part = tt }

  back : Same (reads 1 written) (separated_items base items)
  back =
      let ready : IsReady (exporting base) = record { lawful = lawful; timed = record { store = can.times; part = tt }; other = ((λ e. lit< tt), tt); opened = tt } in
      exported_back (separated_items base items) (separated_some items (exporting base) end takes t.some)
      (separated_stands items (exporting base) HeaderDue end ready t.stands t.small takes)

  commands_are : commands_in written ≡ separated (start_of base) cs
  unfolding separated
  commands_are =
      commands_said (reads 1 written).items ∙ ap (λ (ss : List (ℕ × Command)). map (λ s. s.1) ss) back.same ∙ sym (commands_said (separated_items base items))
      ∙ separated_commands items (exporting base) end takes

  fit : AreFit (start_of base) cs
  fit = items_fit items (start_of base) lawful (items_spelled_as items t.writable) t.small

  -- Another store that finds the same outside, and takes them to some state.
  module _ (store : Store ℕ) (same : SameOn base store (keys_outside items)) (last : State ℕ) (took : Takes (start_of store) cs last) where
    finds : (k : Key) → IsAmong k (all_keys_named cs) → find base k ≡ find store k
    finds k m = one (is_among (part_uuids items) k.uuid) refl
      where
        one : (b : Bool) → is_among (part_uuids items) k.uuid ≡ b → find base k ≡ find store k
        one true e =
            let here = came k.uuid cs (start_of base) end takes e in
            let there = came k.uuid cs (start_of store) last took e in
            absent_finds_none base k here.before ∙ sym (absent_finds_none store k there.before)
        one false e = among_all (λ q. find base q ≡ find store q) k (keys_outside items) same (among_kept (λ q. not (is_among (part_uuids items) q.uuid)) k (all_keys_named cs) (ap not e) m)

    both_take : Takes (start_of store) (commands_in written) last × ReceiverTakes (record { state = start_of store; opened = None }) (commands_in written) last
    unfolding separated
    both_take =
        let keys : List Key = all_keys_named cs in
        let a : AreAlike keys (start_of base) (start_of store) = record { store = base; other = store; part = None; first = refl; second = refl; finds = finds; owns = tt; owns_there = tt } in
        let one : separated (start_of base) cs ≡ separated (start_of store) cs = ap with_all (same_led keys cs (start_of base) (start_of store) end last a (λ k m. m) takes took None []) in
        let s = separated_is_received (start_of store) last cs (same_fit keys cs (start_of base) (start_of store) end last a (λ k m. m) takes took fit) ((lead_is cs (start_of store) last).0 took) in
        let is : separated (start_of store) cs ≡ commands_in written = sym one ∙ sym commands_are in (
          (lead_is (commands_in written) (start_of store) last).1 (subst (λ (ds : List Command). LeadTo (start_of store) ds last) is s.plain),
          subst (λ (ds : List Command). ReceiverTakes (record { state = start_of store; opened = None }) ds last) is s.received,
        )

  taken_there : (store : Store ℕ) → SameOn base store (keys_outside items) → IsAccepted (receive_of store reading) → receive store (written ∷ []) ≡ receive_of store reading
  taken_there store same accepted =
      let r = reaches store reading accepted in
      received_one store written (commands_in written) r.last (record { commands = refl; whole = back.whole }) (both_take store same r.last r.took).0 ∙ sym r.is

  received_there : (store : Store ℕ) → SameOn base store (keys_outside items) → IsAccepted (receive_of store reading)
      → ReceiverTakes (record { state = start_of store; opened = None }) (commands_in written) (receive_of store reading).state
  received_there store same accepted =
      let r = reaches store reading accepted in
      subst (λ (run : Run ℕ). ReceiverTakes (record { state = start_of store; opened = None }) (commands_in written) run.state) (sym r.is) (both_take store same r.last r.took).1

  pub reading_is_exported : IsExportedOf base reading written
  reading_is_exported = record {
    whole = back.whole;
    same = back.same;
    commands_are = commands_are;
    taken = λ store lawful_store same accepted. taken_there store same accepted;
    received = λ store lawful_store same accepted. received_there store same accepted;
    composed = composed_again base reading written back.whole commands_are (λ store lawful_store same accepted. taken_there store same accepted);
  }

-- ---- of files

pub named_export_holds : NamedExportHolds
unfolding input
named_export_holds base overrides files some can are new done small =
    let reading : Reading = overridden overrides (input files) in
    let read : Limited = limited_from 1 files in
    let ended = done_is_taken base (overridden_limited overrides read) done in
    let whole = read_to_end 1 files ended.1 in
    let Runs : List Item → Type 0 = λ is. IsAccepted (run_items 0 byte_cells (start_of base) (overridden_items overrides is)) in
    let writable : AreWritable (input files).items = input_writable files are in
    let taken : IsTaken base reading = record {
      some = overridden_some overrides (input files).items (input_some files some are whole.1);
      stands = overridden_stand overrides new HeaderDue (input files).items (input_stands files are whole.1);
      writable = overridden_is_writable overrides (input files).items new writable;
      runs = subst Runs whole.0 ended.0;
      small = small;
    } in
    subst (λ (is : List Item). IsExportedOf base reading (exported_of base (overridden_items overrides is))) (sym whole.0) (reading_is_exported base reading can taken)

pub files_are_promised_the_same : FilesArePromisedTheSame
files_are_promised_the_same base files written = (of_reading, of_files)
  where
    of_reading : IsExportedOf base (input files) written → IsExported base files written
    of_reading x = record {
      whole = x.whole;
      same = x.same;
      commands_are = x.commands_are;
      taken = x.taken;
      received = x.received;
      composed = λ other parts stream one_file k same.
          let read = ap input one_file ∙ one_input stream k.whole in
          x.composed other (input parts) stream (ap (λ (r : Reading). r.end) read) (ap (λ (r : Reading). commands_of r.items) read) k same;
    }

    of_files : IsExported base files written → IsExportedOf base (input files) written
    of_files x = record {
      whole = x.whole;
      same = x.same;
      commands_are = x.commands_are;
      taken = x.taken;
      received = x.received;
      composed = composed_again base (input files) written x.whole x.commands_are x.taken;
    }
