-- What export promises of what it wrote: all of it follows from the commands that are read, and
-- from what they do over each store that finds the same.
use Rattle.std.specs.Prelude.{◌≡◌, ◌≢◌, ◌⊎◌, ℕ, Bool, true, false, not, ◌||◌, List, [], ◌∷◌, ◌++◌, map, length, Option, None, Some, if◌then◌else◌}
use Rattle.std.specs.Option.{option_map}
use Rattle.std.specs.List.{AllByRecursion, filter}
use Rattle.std.specs.Str.{bytes_eq}
use Rattle.std.proofs.Common.{refl, sym, ap, subst, ◌∙◌, lit<, inl, inr, ⊎_elim}
use Rattle.std.proofs.lemmas.Bool.{true≢false}
use Rattle.send_model.specs.Attribute.{IsBytes}
use Rattle.send_model.specs.Command.{Command}
use Rattle.send_model.specs.Reading.{Item, Verdict, Ending, Whole, Faulty, Reading, HeaderDue, reads, input}
use Rattle.send_model.specs.Lengths.{too_long}
use Rattle.send_model.specs.Store.{Key, Head, Store, State, has_uuid, find}
use Rattle.send_model.specs.Receive.{Run, IsAccepted, run_items, byte_cells, start_of, receive_items, receive, fault_of}
use Rattle.send_model.specs.Order.{heads_of, commands_of}
use Rattle.send_model.specs.Outside.{IsAmong, is_among, part_uuids, outside, all_keys_named, SameOn}
use Rattle.send_model.specs.Counts.{literal, clones, streams}
use Rattle.send_model.specs.Headline.{CanReceiveOf, IsComposed, commands_in, last_entry}
use Rattle.send_model.specs.Due.{DoneWhole, RefusedAt, TooLong, refused_due, or_due, Limited, limited_from, audit_due}
use Rattle.send_model.specs.Guards.{receive_under, receive_watched}
use Rattle.send_model.specs.Separated.{LeadTo, ReceiverTakes, separated, with_all, AreFit}
use Rattle.send_model.specs.Receivable.{said, exported_from}
use Rattle.send_model.specs.Exported.{exporting, byte_step, separated_items, exported, IsExported, CanExportOver, AreSmallBy, ExportedIsSame}
use Rattle.send_model.proofs.Guarding.{no_fault, no_guards_change_nothing}
use Rattle.send_model.proofs.LongFiles.{named_is_first_long}
use Rattle.send_model.proofs.Audited.{limited_is, audit_is_receiving, audit_stops_at_limit}
use Rattle.send_model.proofs.Stores.{bytes_eq_same, bytes_eq_true}
use Rattle.send_model.proofs.Runs.{Takes, takes_run}
use Rattle.send_model.proofs.Headlines.{among_all, among_kept, one_input, received_all, received_one}
use Rattle.send_model.proofs.ReadCommands.{input_writable}
use Rattle.send_model.proofs.LawfulStores.{IsLawfulState, items_spelled_as}
use Rattle.send_model.proofs.SeparatedRuns.{separated_is_received}
use Rattle.send_model.proofs.SeparatedCounts.{separated_counts_same}
use Rattle.send_model.proofs.SameStores.{AreAlike, absent_finds_none, same_led, same_fit, came, last_uuid}
use Rattle.send_model.proofs.Exporting.{Same, exported_back, input_stands, input_some}
use Rattle.send_model.proofs.ExportedItems.{IsReady, separated_stands, separated_commands, separated_some, items_fit}

-- ---- what an audit without guards says

pub record IsTaken (base : Store ℕ) (files : List (List ℕ)) : Type 0 where
  pub limited : (limited_from 1 files).items ≡ (input files).items
  pub whole : (input files).end ≡ Whole
  pub runs : IsAccepted (run_items 0 byte_cells (start_of base) (input files).items)

fault_none : (end : Ending) → fault_of end ≡ None → end ≡ Whole
fault_none Whole e = refl
fault_none (Faulty verdict) e = cc

done_none : (o : Option Verdict) → refused_due o ≡ DoneWhole → o ≡ None
done_none None e = refl
done_none (Some verdict) e = cc

never_done : (o : Option Verdict) (n : ℕ) → or_due (option_map RefusedAt o) (TooLong n) ≡ DoneWhole → ⊥
never_done None n e = cc
never_done (Some verdict) n e = cc

-- Files that are accepted are whole, and their commands are all taken.
accepted_whole : (store : Store ℕ) (files : List (List ℕ)) → IsAccepted (receive store files)
    → (IsAccepted (run_items 0 byte_cells (start_of store) (input files).items)) × ((input files).end ≡ Whole)
unfolding receive_items
accepted_whole store files e =
    let parts = no_fault (run_items 0 byte_cells (start_of store) (input files).items).refused (fault_of (input files).end) e in
    (parts.0, fault_none (input files).end parts.1)

taken_by : (base : Store ℕ) (files : List (List ℕ)) → audit_due base [] files ≡ DoneWhole → IsTaken base files
unfolding too_long input
taken_by base files done = one (too_long files) refl
  where
    one : (o : Option ℕ) → too_long files ≡ o → IsTaken base files
    one (Some n) e = absurd (never_done (receive_watched 0 byte_cells base [] _).refused n (sym (audit_stops_at_limit base [] files n (named_is_first_long 1 n files e)) ∙ done))
    one None e =
        let none : (receive_under base [] files).refused ≡ None = done_none (receive_under base [] files).refused (sym (audit_is_receiving base [] files e) ∙ done) in
        let plain : IsAccepted (receive base files) = sym (ap (λ r. r.refused) (no_guards_change_nothing base files)) ∙ none in
        let parts = accepted_whole base files plain in
        record { limited = ap (λ (l : Limited). l.items) (limited_is 1 files e); whole = parts.1; runs = parts.0 }

-- ---- the same commands over the same or another store

takes_lead : (cs : List Command) (state end : State ℕ) → Takes state cs end → LeadTo state cs end
takes_lead [] state end t = t
takes_lead (c ∷ cs) state end (h, t) = (h, takes_lead cs _ end t)

lead_takes : (cs : List Command) (state end : State ℕ) → LeadTo state cs end → Takes state cs end
lead_takes [] state end t = t
lead_takes (c ∷ cs) state end (h, t) = (h, lead_takes cs _ end t)

-- The commands among what items say.
commands_said : (items : List Item) → commands_of items ≡ map (λ s. s.1) (map said items)
commands_said [] = refl
commands_said (item ∷ items) = ap (λ (cs : List Command). item.command ∷ cs) (commands_said items)

all_kept : (P : Key → Type 0) (test : Key → Bool) (keys : List Key) → ((k : Key) → IsAmong k keys → test k ≡ true → P k) → AllByRecursion P (filter test keys)
all_kept P test [] h = tt
all_kept P test (k ∷ keys) h = one (test k) refl (all_kept P test keys (λ q m t. h q (inr m) t))
  where
    one : (b : Bool) → test k ≡ b → AllByRecursion P (filter test keys) → AllByRecursion P (if b then k ∷ filter test keys else filter test keys)
    one true e more = (h k (inl refl) e, more)
    one false e more = more

module _ (base : Store ℕ) (files : List (List ℕ)) (some : files ≢ []) (can : CanExportOver base) (are : AllByRecursion IsBytes files) (t : IsTaken base files)
    (small : AreSmallBy byte_step (start_of base) (input files).items) where
  abbrev items : List Item
  items = (input files).items

  abbrev cs : List Command
  cs = commands_of items

  abbrev end : State ℕ
  end = (run_items 0 byte_cells (start_of base) items).state

  abbrev written : List ℕ
  written = exported base files

  takes : Takes (start_of base) cs end
  takes = takes_run items (start_of base) t.runs

  lawful : IsLawfulState (start_of base)
  lawful = record { store = can.lawful; part = tt }

  ready : IsReady (exporting base)
  ready = record { lawful = lawful; timed = record { store = can.times; part = tt }; other = ((λ e. lit< tt), tt); opened = tt }

  back : Same (reads 1 written) (separated_items base items)
  unfolding exported
  back =
      let sep : List Item = separated_items base items in
      subst (λ (is : List Item). Same (reads 1 (exported_from true (separated_items base is))) sep) (sym t.limited)
      (exported_back sep (separated_some items (exporting base) end takes (input_some files some are t.whole))
      (separated_stands items (exporting base) HeaderDue end ready (input_stands files are t.whole) small takes))

  commands_are : commands_in written ≡ separated (start_of base) cs
  unfolding separated
  commands_are =
      commands_said (reads 1 written).items ∙ ap (λ (ss : List (ℕ × Command)). map (λ s. s.1) ss) back.same ∙ sym (commands_said (separated_items base items))
      ∙ separated_commands items (exporting base) end takes

  fit : AreFit (start_of base) cs
  fit = items_fit items (start_of base) lawful (items_spelled_as items (input_writable files are)) small

  -- ---- another store that takes them

  pub record Reaches (store : Store ℕ) : Type 0 where
    pub last : State ℕ
    pub took : Takes (start_of store) cs last
    pub is : receive store files ≡ record { state = last; refused = None }

  reaches : (store : Store ℕ) → IsAccepted (receive store files) → Reaches store
  reaches store accepted =
      let parts = accepted_whole store files accepted in
      let last : State ℕ = (run_items 0 byte_cells (start_of store) items).state in
      let took = takes_run items (start_of store) parts.0 in
      record { last = last; took = took; is = received_all store (input files) last parts.1 took }

  alike : (store : Store ℕ) → SameOn base store (outside files) → (last : State ℕ) → Takes (start_of store) cs last
      → AreAlike (all_keys_named cs) (start_of base) (start_of store)
  alike store same last took = record { store = base; other = store; part = None; first = refl; second = refl; finds = finds; owns = tt; owns_there = tt }
    where
      finds : (k : Key) → IsAmong k (all_keys_named cs) → find base k ≡ find store k
      finds k m = one (is_among (part_uuids items) k.uuid) refl
        where
          one : (b : Bool) → is_among (part_uuids items) k.uuid ≡ b → find base k ≡ find store k
          one true e =
              let here = came k.uuid cs (start_of base) end takes e in
              let there = came k.uuid cs (start_of store) last took e in
              absent_finds_none base k here.before ∙ sym (absent_finds_none store k there.before)
          one false e = among_all (λ q. find base q ≡ find store q) k (outside files) same (among_kept (λ q. not (is_among (part_uuids items) q.uuid)) k (all_keys_named cs) (ap not e) m)

  there : (store : Store ℕ) → SameOn base store (outside files) → (last : State ℕ) → Takes (start_of store) cs last
      → LeadTo (start_of store) (commands_in written) last × ReceiverTakes (record { state = start_of store; opened = None }) (commands_in written) last
  unfolding separated
  there store same last took =
      let keys : List Key = all_keys_named cs in
      let a = alike store same last took in
      let one : separated (start_of base) cs ≡ separated (start_of store) cs = ap with_all (same_led keys cs (start_of base) (start_of store) end last a (λ k m. m) takes took None []) in
      let s = separated_is_received (start_of store) last cs (same_fit keys cs (start_of base) (start_of store) end last a (λ k m. m) takes took fit) (takes_lead cs (start_of store) last took) in
      let is : separated (start_of store) cs ≡ commands_in written = sym one ∙ sym commands_are in (
        subst (λ (ds : List Command). LeadTo (start_of store) ds last) is s.plain,
        subst (λ (ds : List Command). ReceiverTakes (record { state = start_of store; opened = None }) ds last) is s.received,
      )

  taken_there : (store : Store ℕ) → SameOn base store (outside files) → IsAccepted (receive store files) → receive store (written ∷ []) ≡ receive store files
  taken_there store same accepted =
      let r = reaches store accepted in
      let both = there store same r.last r.took in
      received_one store written (commands_in written) r.last (record { commands = refl; whole = back.whole }) (lead_takes (commands_in written) (start_of store) r.last both.0) ∙ sym r.is

  received_there : (store : Store ℕ) → SameOn base store (outside files) → IsAccepted (receive store files)
      → ReceiverTakes (record { state = start_of store; opened = None }) (commands_in written) (receive store files).state
  received_there store same accepted =
      let r = reaches store accepted in
      let both = there store same r.last r.took in
      subst (λ (run : Run ℕ). ReceiverTakes (record { state = start_of store; opened = None }) (commands_in written) run.state) (sym r.is) both.1

  -- ---- a composed stream

  module _ (other : Store ℕ) (parts : List (List ℕ)) (stream : List ℕ) (one_file : files ≡ stream ∷ []) (k : IsComposed other parts stream) (same_base : SameOn other base (outside parts)) where
    items_are : items ≡ (reads 1 stream).items
    items_are = ap (λ (fs : List (List ℕ)). (input fs).items) one_file ∙ ap (λ (r : Reading). r.items) (one_input stream k.whole)

    stream_commands : cs ≡ commands_in stream
    stream_commands = ap commands_of items_are

    -- The one part of the stream is the last one.
    last_among : (store : Store ℕ) → CanReceiveOf other (input parts).items k.last store → IsAccepted (receive store files)
        → is_among (part_uuids items) k.last.key.uuid ≡ true
    last_among store c accepted = by_heads (heads_of cs) refl (ap (λ (ds : List Command). length (heads_of ds)) stream_commands ∙ k.one_part)
      where
        by_heads : (hs : List Head) → heads_of cs ≡ hs → length hs ≡ 1 → is_among (part_uuids items) k.last.key.uuid ≡ true
        by_heads [] e n = cc
        by_heads (h ∷ x ∷ hs) e n = cc
        by_heads (h ∷ []) e n =
            let r = reaches store accepted in
            let here : is_among (part_uuids items) h.key.uuid ≡ true = ap (λ (hs : List Head). is_among (map (λ head. head.key.uuid) hs) h.key.uuid) e ∙ ap (λ (b : Bool). b || false) (bytes_eq_same h.key.uuid) in
            let w = came h.key.uuid cs (start_of store) r.last r.took here in
            let gets : r.last.store ≡ store ++ last_entry k.first k.last k.subvolume ∷ [] =
            sym (ap (λ (run : Run ℕ). run.state.store) r.is) ∙ ap (λ (fs : List (List ℕ)). (receive store fs).state.store) one_file ∙ k.gets store c in
            let same : bytes_eq k.last.key.uuid h.key.uuid ≡ true = last_uuid h.key.uuid store (last_entry k.first k.last k.subvolume) w.before (subst (λ (s : Store ℕ). has_uuid h.key.uuid s ≡ true) gets w.after) in
            subst (λ (u : List ℕ). is_among (part_uuids items) u ≡ true) (sym (bytes_eq_true k.last.key.uuid h.key.uuid same)) here

    accepted_there : (store : Store ℕ) → CanReceiveOf other (input parts).items k.last store → IsAccepted (receive store files)
    accepted_there store c = ap (λ (fs : List (List ℕ)). (receive store fs).refused) one_file ∙ k.accepted_by store c

    same_there : (store : Store ℕ) → CanReceiveOf other (input parts).items k.last store → SameOn base store (outside files)
    same_there store c = all_kept (λ q. find base q ≡ find store q) (λ q. not (is_among (part_uuids items) q.uuid)) (all_keys_named cs) one
      where
        one : (q : Key) → IsAmong q (all_keys_named cs) → not (is_among (part_uuids items) q.uuid) ≡ true → find base q ≡ find store q
        one q m test = ⊎_elim
            (λ out. sym (among_all (λ x. find other x ≡ find base x) q (outside parts) same_base out) ∙ among_all (λ x. find other x ≡ find store x) q (outside parts) c.same out)
            (λ own. absurd (true≢false (sym test ∙ ap (λ (x : Key). not (is_among (part_uuids items) x.uuid)) own ∙ ap not (last_among store c (accepted_there store c)))))
            (among_all (λ key. IsAmong key (outside parts) ⊎ (key ≡ k.last.key)) q (all_keys_named (commands_in stream)) k.names_only (subst (λ (ds : List Command). IsAmong q (all_keys_named ds)) stream_commands m))

    goes_there : (store : Store ℕ) → CanReceiveOf other (input parts).items k.last store → receive store (written ∷ []) ≡ receive store (stream ∷ [])
    goes_there store c = taken_there store (same_there store c) (accepted_there store c) ∙ ap (λ (fs : List (List ℕ)). receive store fs) one_file

    composed_there : IsComposed other parts written
    composed_there =
        let counts = separated_counts_same (start_of base) cs in
        let is : commands_in written ≡ separated (start_of base) cs = commands_are in
        let Named : List Key → Type 0 = λ ks. AllByRecursion (λ key. IsAmong key (outside parts) ⊎ (key ≡ k.last.key)) ks in
        record {
          read_whole = k.read_whole;
          accepted = k.accepted;
          consecutive = k.consecutive;
          first = k.first;
          last = k.last;
          subvolume = k.subvolume;
          first_is = k.first_is;
          last_is = k.last_is;
          subvolume_is = k.subvolume_is;
          whole = back.whole;
          one_part = ap (λ (ds : List Command). length (heads_of ds)) is ∙ ap length (counts.same_heads ∙ ap heads_of stream_commands) ∙ k.one_part;
          one_stream = ap streams is ∙ counts.same_streams ∙ ap streams stream_commands ∙ k.one_stream;
          accepted_by = λ store c. ap (λ (r : Run ℕ). r.refused) (goes_there store c) ∙ k.accepted_by store c;
          gets = λ store c. ap (λ (r : Run ℕ). r.state.store) (goes_there store c) ∙ k.gets store c;
          names_only = subst Named (sym (ap all_keys_named is ∙ counts.same_keys ∙ ap all_keys_named stream_commands)) k.names_only;
          literal_bytes = ap literal is ∙ counts.literal_bytes ∙ ap literal stream_commands ∙ k.literal_bytes;
          clone_count = ap clones is ∙ counts.clone_count ∙ ap clones stream_commands ∙ k.clone_count;
        }

  is_exported : IsExported base files written
  is_exported = record {
    whole = back.whole;
    same = back.same;
    commands_are = commands_are;
    taken = λ store lawful_store same accepted. taken_there store same accepted;
    received = λ store lawful_store same accepted. received_there store same accepted;
    composed = λ other parts stream one_file k same_base. composed_there other parts stream one_file k same_base;
  }

pub exported_is_same : ExportedIsSame
exported_is_same base files some can are done small = is_exported base files some can are (taken_by base files done) small

-- Over no store files can be exported.
pub none_can : CanExportOver []
unfolding find
none_can = record { lawful = record { distinct = tt; entries = tt }; times = λ key s e. cc }
