-- Composing looks at no contents of a base but those that its items name.
use Rattle.std.specs.Prelude.{◌≡◌, ℕ, ◌+◌, Bool, true, false, not, ◌||◌, List, [], ◌∷◌, ◌++◌, map, cond, Option, None, Some, if◌then◌else◌}
use Rattle.std.specs.List.{AllByRecursion, filter}
use Rattle.std.specs.Str.{bytes_eq}
use Rattle.std.proofs.Common.{refl, sym, ap, ap₂, subst, ◌∙◌, inl, inr}
use Rattle.std.proofs.lemmas.Bool.{false≢true}
use Rattle.send_model.specs.Command.{Command, End}
use Rattle.send_model.specs.Spelling.{stream_header, canonical_all}
use Rattle.send_model.specs.Reading.{Item, Verdict, Reading}
use Rattle.send_model.specs.Subvolume.{Subvolume}
use Rattle.send_model.specs.Store.{Key, same_key, Head, Entry, Store, find}
use Rattle.send_model.specs.Receive.{Run, receive_items, receive_of, byte_cells, start_of, first_of, fault_of, with_fault}
use Rattle.send_model.specs.Order.{heads, commands_of, judge_reading, judge_of, lawful_of, without_parts}
use Rattle.send_model.specs.Outside.{part_uuids, is_among, store_without, all_keys_named, keys_outside, IsAmong, SameOn}
use Rattle.send_model.specs.Provenance.{ranges_of, uncarried_in, runs_in, uncarried_cells, carried_runs}
use Rattle.send_model.specs.Counts.{literal, kept_of}
use Rattle.send_model.specs.Composed.{first_head, last_head, head_command, version_of, composed_edits, composed_with, composed_for, composed_part, composed_before_of}
use Rattle.send_model.specs.Headline.{CanReceiveOf, IsComposedOf, IsFrontOf, stream_front, output_of}
use Rattle.send_model.specs.Due.{Due, or_due, refused_due, compose_due_of}
use Rattle.send_model.proofs.Stores.{bytes_eq_same, same_key_same, same_key_true}
use Rattle.send_model.proofs.Sorts.{same_inside}
use Rattle.send_model.specs.Thinned.{thinned_entry, thinned, KeepsNamed, is_key_of, AreAlike, IsSameOver, LooksAtNamed, AlikeIsSame, LooksOutside, LeastIsEnough, AlikeOutside}
use Rattle.send_model.proofs.Thinning.{thinned_state, thinned_twice, find-kept}
use Rattle.send_model.proofs.ThinnedRuns.{judge-thinned, lawful-thinned, lawful_keeps, thinned_run, run-thinned}
use Rattle.send_model.proofs.ThinnedTraces.{start_holds, start_alike, composed-thinned, ranges-thinned, ranges_kept, uncarried_alike, runs_alike, due-thinned}

-- ---- what composing decides

module _ (keep : Key → Bool) (base : Store ℕ) where
  plain_start : thinned_state keep (start_of base) ≡ thinned_state keep (start_of (thinned keep base))
  plain_start = ap (λ (s : Store ℕ). start_of s) (sym (thinned_twice keep base))

  edits_alike : (last : Key) (items : List Item) → KeepsNamed keep items → composed_edits base last items ≡ composed_edits (thinned keep base) last items
  unfolding composed_edits
  edits_alike last items kept = sym (composed-thinned keep base (part_uuids items) last items _ _ None kept (start_holds keep base) (start_alike keep base))

  all_alike : (first last : Option Head) (items : List Item) → KeepsNamed keep items → composed_for base first last items ≡ composed_for (thinned keep base) first last items
  unfolding composed_with
  all_alike (Some first) (Some last) items kept = ap (λ (cs : List Command). head_command last.name last.key first.parent ∷ (cs ++ End ∷ [])) (edits_alike last.key items kept)
  all_alike None last items kept = refl
  all_alike (Some first) None items kept = refl

  part_alike : (first last : Option Head) (items : List Item) → KeepsNamed keep items → composed_part base first last items ≡ composed_part (thinned keep base) first last items
  part_alike (Some first) (Some last) items kept = ap (λ (cs : List Command). head_command last.name last.key first.parent ∷ cs) (edits_alike last.key items kept)
  part_alike None last items kept = refl
  part_alike (Some first) None items kept = refl

  before_alike : (items : List Item) → KeepsNamed keep items → composed_before_of base items ≡ composed_before_of (thinned keep base) items
  before_alike items kept =
      part_alike (first_head (heads (lawful_of base items))) (last_head (heads items)) (lawful_of base items) (lawful_keeps keep 0 byte_cells items (start_of base) None kept)
      ∙ ap (λ (some : List Item). composed_part (thinned keep base) (first_head (heads some)) (last_head (heads items)) some) (lawful-thinned keep 0 byte_cells items (start_of base) (start_of (thinned keep base)) None kept plain_start)

  judged_alike : (reading : Reading) → KeepsNamed keep reading.items → judge_of base reading ≡ judge_of (thinned keep base) reading
  unfolding judge_reading
  judged_alike reading kept =
      ap (λ (o : Option Verdict). first_of o (first_of (fault_of reading.end) (without_parts reading.items (heads reading.items)))) (judge-thinned keep 0 byte_cells reading.items (start_of base) (start_of (thinned keep base)) None kept plain_start)

  due_alike : (long : Option ℕ) (reading : Reading) → KeepsNamed keep reading.items → compose_due_of long base reading ≡ compose_due_of long (thinned keep base) reading
  due_alike (Some file) reading kept = refl
  due_alike None reading kept =
      ap (λ (o : Option Due). or_due o (refused_due (first_of (fault_of reading.end) (without_parts reading.items (heads reading.items)))))
      (sym (due-thinned keep base (part_uuids reading.items) reading.items _ _ None None 0 0 kept (start_holds keep base) (start_alike keep base) refl))

  output_alike : (a b : Option Verdict) → a ≡ b → (items : List Item) → KeepsNamed keep items → output_of a base items ≡ output_of b (thinned keep base) items
  output_alike a b same items kept = ap (λ (v : Option Verdict). output_of v base items) same ∙ one b
    where
      one : (v : Option Verdict) → output_of v base items ≡ output_of v (thinned keep base) items
      one None = ap (λ (cs : List Command). stream_header (version_of items) ++ canonical_all (version_of items) cs) (all_alike (first_head (heads items)) (last_head (heads items)) items kept)
      one (Some verdict) = ap (stream_front (version_of items)) (before_alike items kept)

  ranges_alike : (items : List Item) → KeepsNamed keep items → ranges_of base items ≡ ranges_of (thinned keep base) items
  ranges_alike items kept = sym (ranges-thinned keep base (part_uuids items) items _ _ None kept (start_alike keep base))

  uncarried_same : (items : List Item) → KeepsNamed keep items → uncarried_cells base items ≡ uncarried_cells (thinned keep base) items
  uncarried_same items kept = ap (uncarried_in base) (ranges_alike items kept) ∙ sym (uncarried_alike keep base (ranges_of (thinned keep base) items) (ranges_kept keep base (part_uuids items) items _ None (start_holds keep base)))

  runs_same : (items : List Item) → KeepsNamed keep items → carried_runs base items ≡ carried_runs (thinned keep base) items
  runs_same items kept = ap (runs_in base) (ranges_alike items kept) ∙ sym (runs_alike keep base (ranges_of (thinned keep base) items) (ranges_kept keep base (part_uuids items) items _ None (start_holds keep base)))

  pub looks_at : (reading : Reading) → KeepsNamed keep reading.items → IsSameOver base (thinned keep base) reading
  looks_at reading kept = record {
    judged = judged_alike reading kept;
    due = λ long. due_alike long reading kept;
    composed = all_alike (first_head (heads reading.items)) (last_head (heads reading.items)) reading.items kept;
    before = before_alike reading.items kept;
    output = output_alike (judge_of base reading) (judge_of (thinned keep base) reading) (judged_alike reading kept) reading.items kept;
    uncarried = uncarried_same reading.items kept;
    runs = runs_same reading.items kept;
  }

pub looks_at_named : LooksAtNamed
looks_at_named keep base reading kept = looks_at keep base reading kept

-- ---- two bases that are alike

same_trans : (a b c : Store ℕ) (reading : Reading) → IsSameOver a b reading → IsSameOver b c reading → IsSameOver a c reading
same_trans a b c reading p q = record {
  judged = p.judged ∙ q.judged;
  due = λ long. p.due long ∙ q.due long;
  composed = p.composed ∙ q.composed;
  before = p.before ∙ q.before;
  output = p.output ∙ q.output;
  uncarried = p.uncarried ∙ q.uncarried;
  runs = p.runs ∙ q.runs;
}

same_turned : (a b : Store ℕ) (reading : Reading) → IsSameOver a b reading → IsSameOver b a reading
same_turned a b reading p = record {
  judged = sym p.judged;
  due = λ long. sym (p.due long);
  composed = sym p.composed;
  before = sym p.before;
  output = sym p.output;
  uncarried = sym p.uncarried;
  runs = sym p.runs;
}

key_among : (keys : List Key) (key : Key) → is_key_of keys key ≡ true → IsAmong key keys
key_among [] key e = absurd (false≢true e)
key_among (k ∷ keys) key e = one (same_key k key) refl e (key_among keys key)
  where
    one : (b : Bool) → same_key k key ≡ b → b || is_key_of keys key ≡ true → (is_key_of keys key ≡ true → IsAmong key keys) → IsAmong key (k ∷ keys)
    one true s q more = inl (same_key_true k key s)
    one false s q more = inr (more q)

or_true : (b : Bool) → b || true ≡ true
or_true true = refl
or_true false = refl

keeps_all : (keys more : List Key) → ((k : Key) → IsAmong k keys → is_key_of more k ≡ true) → AllByRecursion (λ key. is_key_of more key ≡ true) keys
keeps_all [] more each = tt
keeps_all (k ∷ keys) more each = (each k (inl refl), keeps_all keys more (λ q a. each q (inr a)))

among_key : (keys : List Key) (key : Key) → IsAmong key keys → is_key_of keys key ≡ true
among_key [] key a = absurd a
among_key (k ∷ keys) key (inl e) = ap (λ (q : Key). same_key q key || is_key_of keys key) e ∙ ap (λ (b : Bool). b || is_key_of keys key) (same_key_same key)
among_key (k ∷ keys) key (inr a) = ap (λ (b : Bool). same_key k key || b) (among_key keys key a) ∙ or_true (same_key k key)

-- Two bases that are alike at some keys have the same entries with the contents of these alone.
alike_thinned : (keys : List Key) (base other : Store ℕ) → AreAlike keys base other → thinned (is_key_of keys) base ≡ thinned (is_key_of keys) other
alike_thinned keys [] [] a = refl
alike_thinned keys [] (f ∷ other) a = absurd a
alike_thinned keys (e ∷ base) [] a = absurd a
alike_thinned keys (e ∷ base) (f ∷ other) a =
    ap₂ (λ (x : Entry (Subvolume ℕ)) (r : Store ℕ). x ∷ r) (same_entry (contents (is_key_of keys e.key) refl)) (alike_thinned keys base other a.4)
  where
    contents : (b : Bool) → is_key_of keys e.key ≡ b → ◌≡◌ {A = Option (Subvolume ℕ)} (if b then e.contents else None) (if b then f.contents else None)
    contents true named = a.3 (key_among keys e.key named)
    contents false named = refl

    same_entry : ◌≡◌ {A = Option (Subvolume ℕ)} (if is_key_of keys e.key then e.contents else None) (if is_key_of keys e.key then f.contents else None)
        → thinned_entry (is_key_of keys) e ≡ thinned_entry (is_key_of keys) f
    same_entry same =
        let c : ◌≡◌ {A = Option (Subvolume ℕ)} (if is_key_of keys e.key then e.contents else None) (if is_key_of keys f.key then f.contents else None) = same ∙ ap (λ (k : Key). if is_key_of keys k then f.contents else None) a.1 in
        λ i. record { name = a.0 i; key = a.1 i; parent = a.2 i; contents = c i }

pub alike_is_same : AlikeIsSame
alike_is_same base other reading alike =
    let keys : List Key = all_keys_named (commands_of reading.items) in
    let keep : Key → Bool = is_key_of keys in
    let kept : KeepsNamed keep reading.items = keeps_all keys keys (λ k a. among_key keys k a) in
    let left = looks_at keep base reading kept in
    let right = looks_at keep other reading kept in
    same_trans base (thinned keep base) other reading left
    (subst (λ (s : Store ℕ). IsSameOver s other reading) (sym (alike_thinned keys base other alike)) (same_turned other (thinned keep other) reading right))

-- ---- a base without the parts

-- The test that keeps the parts too, which such a base has not.
abbrev widened : List (List ℕ) → (Key → Bool) → Key → Bool
widened parts keep key = is_among parts key.uuid || keep key

module _ (keep : Key → Bool) where
  widened_same : (parts : List (List ℕ)) (store : Store ℕ) → thinned (widened parts keep) (store_without parts store) ≡ thinned keep (store_without parts store)
  widened_same parts [] = refl
  widened_same parts (e ∷ store) = one (is_among parts e.key.uuid) refl (widened_same parts store)
    where
      rest : Store ℕ
      rest = store_without parts store

      one : (b : Bool) → is_among parts e.key.uuid ≡ b → thinned (widened parts keep) (store_without parts store) ≡ thinned keep (store_without parts store)
          → thinned (widened parts keep) (cond (not b) (e ∷ store_without parts store) (store_without parts store)) ≡ thinned keep (cond (not b) (e ∷ store_without parts store) (store_without parts store))
      one true same more = more
      one false same more =
          let at : Bool → Entry (Subvolume ℕ) = λ b. record { name = e.name; key = e.key; parent = e.parent; contents = if b then e.contents else None } in
          ap₂ (λ (x : Entry (Subvolume ℕ)) (r : Store ℕ). x ∷ r) (ap at (ap (λ (b : Bool). b || keep e.key) same)) more

  widened_keeps : (parts : List (List ℕ)) (keys : List Key) → AllByRecursion (λ key. keep key ≡ true) (filter (λ key. not (is_among parts key.uuid)) keys)
      → AllByRecursion (λ key. widened parts keep key ≡ true) keys
  widened_keeps parts [] kept = tt
  widened_keeps parts (k ∷ keys) kept = one (is_among parts k.uuid) refl kept (widened_keeps parts keys)
    where
      some : List Key
      some = filter (λ key. not (is_among parts key.uuid)) keys

      one : (b : Bool) → is_among parts k.uuid ≡ b → AllByRecursion (λ key. keep key ≡ true) (cond (not b) (k ∷ some) some)
          → (AllByRecursion (λ key. keep key ≡ true) some → AllByRecursion (λ key. widened parts keep key ≡ true) keys)
          → AllByRecursion (λ key. widened parts keep key ≡ true) (k ∷ keys)
      one true e q more = (ap (λ (b : Bool). b || keep k) e, more q)
      one false e q more = (ap (λ (b : Bool). b || keep k) e ∙ q.0, more q.1)

  outside_kept : (p : Key → Bool) (keys : List Key) → AllByRecursion (λ key. keep key ≡ true) keys → AllByRecursion (λ key. keep key ≡ true) (filter p keys)
  outside_kept p [] kept = tt
  outside_kept p (k ∷ keys) kept = one (p k) (outside_kept p keys kept.1)
    where
      one : (b : Bool) → AllByRecursion (λ key. keep key ≡ true) (filter p keys) → AllByRecursion (λ key. keep key ≡ true) (cond b (k ∷ filter p keys) (filter p keys))
      one true more = (kept.0, more)
      one false more = more

-- The last part is one of the parts.
last_is_part : (hs : List Head) (last : Head) → last_head hs ≡ Some last → is_among (map (λ head. head.key.uuid) hs) last.key.uuid ≡ true
last_is_part [] last e = cc
last_is_part (h ∷ []) last e =
    ap (λ (x : Head). bytes_eq x.key.uuid last.key.uuid || false) (same_inside e) ∙ ap (λ (b : Bool). b || false) (bytes_eq_same last.key.uuid)
last_is_part (h ∷ more ∷ hs) last e = ap (λ (b : Bool). bytes_eq h.key.uuid last.key.uuid || b) (last_is_part (more ∷ hs) last e) ∙ or_true (bytes_eq h.key.uuid last.key.uuid)

-- What is promised over one base is promised over the other, where both have the same entries with
-- the contents that a test keeps, which keeps the named keys and the parts.
module _ (keep : Key → Bool) (base other : Store ℕ) (reading : Reading) (bare : thinned keep base ≡ thinned keep other) (kept : KeepsNamed keep reading.items)
    (parts : (k : Key) → is_among (part_uuids reading.items) k.uuid ≡ true → keep k ≡ true) where
  run_alike : thinned_run keep 0 byte_cells (receive_of base reading) ≡ thinned_run keep 0 byte_cells (receive_of other reading)
  unfolding receive_items
  run_alike = ap (λ (r : Run ℕ). with_fault r reading.end) (run-thinned keep 0 byte_cells reading.items (start_of base) (start_of other) kept (ap (λ (s : Store ℕ). start_of s) bare))

  found_alike : (key : Key) → keep key ≡ true → find base key ≡ find other key
  found_alike key k = sym (find-kept keep base key k) ∙ ap (λ (s : Store ℕ). find s key) bare ∙ find-kept keep other key k

  left_alike : (key : Key) → keep key ≡ true → find (receive_of base reading).state.store key ≡ find (receive_of other reading).state.store key
  left_alike key k =
      sym (find-kept keep (receive_of base reading).state.store key k)
      ∙ ap (λ (r : Run ℕ). find r.state.store key) run_alike
      ∙ find-kept keep (receive_of other reading).state.store key k

  same_on : (store : Store ℕ) (keys : List Key) → AllByRecursion (λ key. keep key ≡ true) keys → SameOn other store keys → SameOn base store keys
  same_on store [] ks same = tt
  same_on store (k ∷ keys) ks same = (found_alike k ks.0 ∙ same.0, same_on store keys ks.1 same.1)

  can_receive : (last : Head) (store : Store ℕ) → CanReceiveOf other reading.items last store → CanReceiveOf base reading.items last store
  can_receive last store can = record {
    lawful = can.lawful;
    same = same_on store (keys_outside reading.items) (outside_kept keep (λ key. not (is_among (part_uuids reading.items) key.uuid)) (all_keys_named (commands_of reading.items)) kept) can.same;
    no_name = can.no_name;
    no_uuid = can.no_uuid;
  }

  pub composed_over : IsSameOver base other reading → (written : List ℕ) → IsComposedOf base reading written → IsComposedOf other reading written
  composed_over same written c = record {
    read_whole = c.read_whole;
    accepted = sym (ap (λ (r : Run ℕ). r.refused) run_alike) ∙ c.accepted;
    consecutive = c.consecutive;
    first = c.first;
    last = c.last;
    subvolume = c.subvolume;
    first_is = c.first_is;
    last_is = c.last_is;
    subvolume_is = sym (left_alike c.last.key (parts c.last.key (last_is_part (heads reading.items) c.last c.last_is))) ∙ c.subvolume_is;
    whole = c.whole;
    one_part = c.one_part;
    one_stream = c.one_stream;
    accepted_by = λ store can. c.accepted_by store (can_receive c.last store can);
    gets = λ store can. c.gets store (can_receive c.last store can);
    names_only = c.names_only;
    literal_bytes = c.literal_bytes ∙ ap (λ (n : ℕ). literal (commands_of reading.items) + n) same.uncarried;
    clone_count = c.clone_count ∙ ap (λ (n : ℕ). kept_of reading.items + n) same.runs;
  }

pub looks_outside : LooksOutside
looks_outside keep base reading apart kept =
    let parts : List (List ℕ) = part_uuids reading.items in
    let wide : Key → Bool = widened parts keep in
    let bare : thinned wide base ≡ thinned keep base = subst (λ (s : Store ℕ). thinned wide s ≡ thinned keep s) apart (widened_same keep parts base) in
    let named : KeepsNamed wide reading.items = widened_keeps keep parts (all_keys_named (commands_of reading.items)) kept in
    let same : IsSameOver base (thinned keep base) reading = subst (λ (s : Store ℕ). IsSameOver base s reading) bare (looks_at wide base reading named) in
    let twice : thinned wide base ≡ thinned wide (thinned keep base) = sym (thinned_twice wide base) ∙ ap (thinned wide) bare in
    let ours : (k : Key) → is_among parts k.uuid ≡ true → wide k ≡ true = λ k a. ap (λ (b : Bool). b || keep k) a in
    record {
      same = same;
      composed = λ written. (
        λ c. composed_over wide (thinned keep base) base reading (sym twice) named ours (same_turned base (thinned keep base) reading same) written c,
        λ c. composed_over wide base (thinned keep base) reading twice named ours same written c,
      );
      stopped = λ written. (
        λ s. record { unfinished = s.unfinished; front = subst (λ all. IsFrontOf all written) (sym same.output) s.front },
        λ s. record { unfinished = s.unfinished; front = subst (λ all. IsFrontOf all written) same.output s.front },
      );
    }

pub least_is_enough : LeastIsEnough
least_is_enough base reading apart =
    let keys : List Key = keys_outside reading.items in
    looks_outside (is_key_of keys) base reading apart (keeps_all keys keys (λ k a. among_key keys k a))

pub alike_outside : AlikeOutside
alike_outside base other reading apart other_apart alike =
    let keys : List Key = keys_outside reading.items in
    let keep : Key → Bool = is_key_of keys in
    let left = least_is_enough base reading apart in
    let right = least_is_enough other reading other_apart in
    let bare : thinned keep base ≡ thinned keep other = alike_thinned keys base other alike in (
      same_trans base (thinned keep base) other reading left.same
          (subst (λ (s : Store ℕ). IsSameOver s other reading) (sym bare) (same_turned other (thinned keep other) reading right.same)),
      λ written c. (right.composed written).0 (subst (λ (s : Store ℕ). IsComposedOf s reading written) bare ((left.composed written).1 c)),
    )
