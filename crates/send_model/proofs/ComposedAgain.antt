-- What has the commands of a composed stream, but for separators, and is taken as they are, is
-- composed as well as that stream.
use Rattle.std.specs.Prelude.{◌≡◌, ◌⊎◌, ℕ, Bool, true, false, not, ◌||◌, List, [], ◌∷◌, ◌++◌, map, length, None, if◌then◌else◌}
use Rattle.std.specs.List.{AllByRecursion, filter}
use Rattle.std.specs.Str.{bytes_eq}
use Rattle.std.proofs.Common.{refl, sym, ap, subst, ◌∙◌, inl, inr, ⊎_elim}
use Rattle.std.proofs.lemmas.Bool.{true≢false}
use Rattle.send_model.specs.Command.{Command}
use Rattle.send_model.specs.Reading.{Ending, Whole, Faulty, Reading, reads, input}
use Rattle.send_model.specs.Store.{Key, Head, Store, State, IsStore, has_uuid, find}
use Rattle.send_model.specs.Receive.{Run, IsAccepted, run_items, byte_cells, start_of, receive_items, receive_of, receive, fault_of}
use Rattle.send_model.specs.Order.{heads_of, commands_of}
use Rattle.send_model.specs.Outside.{IsAmong, is_among, part_uuids, keys_outside, all_keys_named, SameOn}
use Rattle.send_model.specs.Counts.{literal, clones, streams}
use Rattle.send_model.specs.Headline.{CanReceiveOf, IsComposedOf, commands_in, last_entry}
use Rattle.send_model.specs.Separated.{separated}
use Rattle.send_model.proofs.Guarding.{no_fault}
use Rattle.send_model.proofs.Stores.{bytes_eq_same, bytes_eq_true}
use Rattle.send_model.proofs.Runs.{Takes, takes_run}
use Rattle.send_model.proofs.Headlines.{among_all, one_input, received_all}
use Rattle.send_model.proofs.SeparatedCounts.{separated_counts_same}
use Rattle.send_model.proofs.SameStores.{came, last_uuid}

fault_none : (end : Ending) → fault_of end ≡ None → end ≡ Whole
fault_none Whole e = refl
fault_none (Faulty verdict) e = cc

-- Where a store that accepts what was read comes to.
pub record Reaches (store : Store ℕ) (reading : Reading) : Type 0 where
  pub last : State ℕ
  pub took : Takes (start_of store) (commands_of reading.items) last
  pub is : receive_of store reading ≡ record { state = last; refused = None }

pub reaches : (store : Store ℕ) (reading : Reading) → IsAccepted (receive_of store reading) → Reaches store reading
unfolding receive_items
reaches store reading accepted =
    let ran : Run ℕ = run_items 0 byte_cells (start_of store) reading.items in
    let parts = no_fault ran.refused (fault_of reading.end) accepted in
    let took = takes_run reading.items (start_of store) parts.0 in
    record { last = ran.state; took = took; is = received_all store reading ran.state (fault_none reading.end parts.1) took }

all_kept : (P : Key → Type 0) (test : Key → Bool) (keys : List Key) → ((k : Key) → IsAmong k keys → test k ≡ true → P k) → AllByRecursion P (filter test keys)
all_kept P test [] h = tt
all_kept P test (k ∷ keys) h = one (test k) refl (all_kept P test keys (λ q m t. h q (inr m) t))
  where
    one : (b : Bool) → test k ≡ b → AllByRecursion P (filter test keys) → AllByRecursion P (if b then k ∷ filter test keys else filter test keys)
    one true e more = (h k (inl refl) e, more)
    one false e more = more

-- Every store that finds the same outside, and takes what was read, takes what was written and
-- comes to the same state.
abbrev pub IsTakenAlike : Store ℕ → Reading → List ℕ → Type 0
IsTakenAlike base reading written = (store : Store ℕ) → IsStore store → SameOn base store (keys_outside reading.items) → IsAccepted (receive_of store reading)
    → receive store (written ∷ []) ≡ receive_of store reading

module _ (base : Store ℕ) (reading : Reading) (written : List ℕ) (whole : (reads 1 written).end ≡ Whole)
    (commands_are : commands_in written ≡ separated (start_of base) (commands_of reading.items)) (taken : IsTakenAlike base reading written)
    (other : Store ℕ) (parts : Reading) (stream : List ℕ) (read_whole : reading.end ≡ Whole) (says : commands_of reading.items ≡ commands_in stream)
    (k : IsComposedOf other parts stream) (same_base : SameOn other base (keys_outside parts.items)) where
  abbrev cs : List Command
  cs = commands_of reading.items

  abbrev uuids : List (List ℕ)
  uuids = part_uuids reading.items

  module _ (store : Store ℕ) (c : CanReceiveOf other parts.items k.last store) where
    -- Where the stream leads, its commands do.
    there : Reaches store (input (stream ∷ []))
    there = reaches store (input (stream ∷ [])) (k.accepted_by store c)

    took : Takes (start_of store) cs there.last
    took = subst (λ (ds : List Command). Takes (start_of store) ds there.last) (ap (λ (r : Reading). commands_of r.items) (one_input stream k.whole) ∙ sym says) there.took

    is : receive_of store reading ≡ record { state = there.last; refused = None }
    is = received_all store reading there.last read_whole took

    accepted : IsAccepted (receive_of store reading)
    accepted = ap (λ (run : Run ℕ). run.refused) is

    -- The one part of the stream is the last one.
    last_among : (hs : List Head) → heads_of cs ≡ hs → length hs ≡ 1 → is_among uuids k.last.key.uuid ≡ true
    last_among [] e n = cc
    last_among (h ∷ x ∷ hs) e n = cc
    last_among (h ∷ []) e n =
        let here : is_among uuids h.key.uuid ≡ true = ap (λ (hs : List Head). is_among (map (λ head. head.key.uuid) hs) h.key.uuid) e ∙ ap (λ (b : Bool). b || false) (bytes_eq_same h.key.uuid) in
        let w = came h.key.uuid cs (start_of store) there.last took here in
        let gets : there.last.store ≡ store ++ last_entry k.first k.last k.subvolume ∷ [] = ap (λ (run : Run ℕ). run.state.store) (sym there.is) ∙ k.gets store c in
        let same : bytes_eq k.last.key.uuid h.key.uuid ≡ true = last_uuid h.key.uuid store (last_entry k.first k.last k.subvolume) w.before (subst (λ (s : Store ℕ). has_uuid h.key.uuid s ≡ true) gets w.after) in
        subst (λ (u : List ℕ). is_among uuids u ≡ true) (sym (bytes_eq_true k.last.key.uuid h.key.uuid same)) here

    own_part : is_among uuids k.last.key.uuid ≡ true
    own_part = last_among (heads_of cs) refl (ap (λ (ds : List Command). length (heads_of ds)) says ∙ k.one_part)

    -- What the stream names outside is outside of the parts that it is composed of.
    same_outside : SameOn base store (keys_outside reading.items)
    same_outside = all_kept (λ q. find base q ≡ find store q) (λ q. not (is_among uuids q.uuid)) (all_keys_named cs) one
      where
        one : (q : Key) → IsAmong q (all_keys_named cs) → not (is_among uuids q.uuid) ≡ true → find base q ≡ find store q
        one q m test = ⊎_elim
            (λ out. sym (among_all (λ x. find other x ≡ find base x) q (keys_outside parts.items) same_base out) ∙ among_all (λ x. find other x ≡ find store x) q (keys_outside parts.items) c.same out)
            (λ own. absurd (true≢false (sym test ∙ ap (λ (x : Key). not (is_among uuids x.uuid)) own ∙ ap not own_part)))
            (among_all (λ key. IsAmong key (keys_outside parts.items) ⊎ (key ≡ k.last.key)) q (all_keys_named (commands_in stream)) k.names_only (subst (λ (ds : List Command). IsAmong q (all_keys_named ds)) says m))

    goes_there : receive store (written ∷ []) ≡ receive store (stream ∷ [])
    goes_there = taken store c.lawful same_outside accepted ∙ is ∙ sym there.is

  pub composed_again : IsComposedOf other parts written
  composed_again =
      let counts = separated_counts_same (start_of base) cs in
      let Named : List Key → Type 0 = λ ks. AllByRecursion (λ key. IsAmong key (keys_outside parts.items) ⊎ (key ≡ k.last.key)) ks in
      record {
        read_whole = k.read_whole;
        accepted = k.accepted;
        consecutive = k.consecutive;
        first = k.first;
        last = k.last;
        subvolume = k.subvolume;
        first_is = k.first_is;
        last_is = k.last_is;
        subvolume_is = k.subvolume_is;
        whole = whole;
        one_part = ap (λ (ds : List Command). length (heads_of ds)) commands_are ∙ ap length (counts.same_heads ∙ ap heads_of says) ∙ k.one_part;
        one_stream = ap streams commands_are ∙ counts.same_streams ∙ ap streams says ∙ k.one_stream;
        accepted_by = λ store c. ap (λ (run : Run ℕ). run.refused) (goes_there store c) ∙ k.accepted_by store c;
        gets = λ store c. ap (λ (run : Run ℕ). run.state.store) (goes_there store c) ∙ k.gets store c;
        names_only = subst Named (sym (ap all_keys_named commands_are ∙ counts.same_keys ∙ ap all_keys_named says)) k.names_only;
        literal_bytes = ap literal commands_are ∙ counts.literal_bytes ∙ ap literal says ∙ k.literal_bytes;
        clone_count = ap clones commands_are ∙ counts.clone_count ∙ ap clones says ∙ k.clone_count;
      }
