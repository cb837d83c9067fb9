-- Commands over two stores that find the same: they are taken in lockstep, with the same part, so
-- separators are the same.
use Rattle.std.specs.Prelude.{◌≡◌, ◌⊎◌, ℕ, Bool, true, false, ◌&&◌, ◌||◌, ◌==◌, List, [], ◌∷◌, ◌++◌, map, Option, None, Some, Result, Ok, Err, if◌then◌else◌}
use Rattle.std.specs.List.{AllByRecursion}
use Rattle.std.specs.Str.{bytes_eq}
use Rattle.std.proofs.Common.{refl, sym, ap, ap₂, subst, ◌∙◌, inl, inr}
use Rattle.std.proofs.lemmas.Bool.{true≢false}
use Rattle.send_model.specs.Refusal.{Refusal, NoSubvolume, NoParent}
use Rattle.send_model.specs.Chain.{found}
use Rattle.send_model.specs.Command.{Command, Subvol, Snapshot, End}
use Rattle.send_model.specs.Subvolume.{Subvolume}
use Rattle.send_model.specs.Store.{Key, same_key, Head, head_of, Entry, Store, has_uuid, find, Part, State, Stepped, with_contents, completed, unfinished, begun, start_from, entered, step_head, edit_part, edited, step_edit, step}
use Rattle.send_model.specs.Receive.{bytes_of}
use Rattle.send_model.specs.Order.{onto_heads, heads_of}
use Rattle.send_model.specs.Outside.{IsAmong, is_among, keys_named, all_keys_named}
use Rattle.send_model.specs.Counts.{is_end}
use Rattle.send_model.specs.Opened.{Opened, written_path, is_astray}
use Rattle.send_model.specs.Separated.{Led, led_from, separator, open_anew, other_path, IsFit, AreFit}
use Rattle.send_model.proofs.Sorts.{same_inside, head_step}
use Rattle.send_model.proofs.Fuel.{ok_same}
use Rattle.send_model.proofs.Stores.{key_with, bytes_eq_same, bytes_eq_true, same_key_true, or_parts, key_of_new, finds_unfinished}
use Rattle.send_model.proofs.Runs.{Takes, step_of}
use Rattle.send_model.proofs.Merging.{begun_begins, entered_taken, edited_taken}
use Rattle.send_model.proofs.MergingClones.{turned_false}
use Rattle.send_model.proofs.SeparatedCounts.{inner_step, same_edit}

-- ---- what a store finds

-- What an entry finds, or what others find.
abbrev under : Bool → Option (Subvolume ℕ) → Option (Subvolume ℕ) → Option (Subvolume ℕ)
under b here rest = if b then (elim here as (λ x. Option (Subvolume ℕ)) [ None ↦ rest | Some t ↦ Some t ]) else rest

-- After a part is complete, its key finds it, and each other key what it found before.
pub finds_complete : (key : Key) (s : Subvolume ℕ) (store : Store ℕ) (k : Key) → key_with key.uuid store ≡ Some key
    → find (with_contents key.uuid s store) k ≡ (if same_key key k then Some s else find store k)
unfolding find with_contents
finds_complete key s [] k own = cc
finds_complete key s (e ∷ store) k own = one (bytes_eq e.key.uuid key.uuid) refl own (finds_complete key s store k)
  where
    mine : (b : Bool) → (if b then Some s else find store k) ≡ (if b then Some s else under b e.contents (find store k))
    mine true = refl
    mine false = refl

    other : (b : Bool) → same_key e.key k ≡ b → bytes_eq e.key.uuid key.uuid ≡ false
        → find (with_contents key.uuid s store) k ≡ (if same_key key k then Some s else find store k)
        → under b e.contents (find (with_contents key.uuid s store) k) ≡ (if same_key key k then Some s else under b e.contents (find store k))
    other true h differ more =
        let apart : same_key key k ≡ false = ap (λ (t : Bool). t && (key.ctransid == k.ctransid)) (turned_false k.uuid key.uuid (ap (λ (q : Key). bytes_eq q.uuid key.uuid) (sym (same_key_true e.key k h)) ∙ differ)) in
        let plain : find (with_contents key.uuid s store) k ≡ find store k = more ∙ ap (λ (t : Bool). if t then Some s else find store k) apart in
        ap (λ (o : Option (Subvolume ℕ)). under true e.contents o) plain ∙ sym (ap (λ (t : Bool). if t then Some s else under true e.contents (find store k)) apart)
    other false h differ more = more

    one : (b : Bool) → bytes_eq e.key.uuid key.uuid ≡ b → (if b then Some e.key else key_with key.uuid store) ≡ Some key
        → (key_with key.uuid store ≡ Some key → find (with_contents key.uuid s store) k ≡ (if same_key key k then Some s else find store k))
        → find (if b then record e { contents = Some s } ∷ store else e ∷ with_contents key.uuid s store) k ≡ (if same_key key k then Some s else find (e ∷ store) k)
    one true h is more =
        let same : e.key ≡ key = same_inside is in
        ap (λ (q : Key). if same_key q k then Some s else find store k) same ∙ mine (same_key key k)
        ∙ ap (λ (q : Key). if same_key key k then Some s else under (same_key q k) e.contents (find store k)) (sym same)
    one false h is more = other (same_key e.key k) refl h (more is)

pub absent_finds_none : (store : Store ℕ) (key : Key) → has_uuid key.uuid store ≡ false → find store key ≡ None
unfolding find
absent_finds_none [] key h = refl
absent_finds_none (e ∷ store) key h =
    let p = or_parts (bytes_eq e.key.uuid key.uuid) (has_uuid key.uuid store) h in
    ap (λ (b : Bool). if b && (e.key.ctransid == key.ctransid) then (elim e.contents as (λ x. Option (Subvolume ℕ)) [ None ↦ find store key | Some t ↦ Some t ]) else find store key) p.0
    ∙ absent_finds_none store key p.1

-- ---- two states with the same part

-- The part's key is that of the first entry with its uuid.
abbrev pub Owns : Store ℕ → Option (Part ℕ) → Type 0
Owns store None = Unit {0}
Owns store (Some part) = key_with part.key.uuid store ≡ Some part.key

abbrev pub Finds : List Key → Store ℕ → Store ℕ → Type 0
Finds keys store other = (k : Key) → IsAmong k keys → find store k ≡ find other k

abbrev pub state_of : Store ℕ → Option (Part ℕ) → State ℕ
state_of store part = record { store = store; part = part }

pub record AreAlike (keys : List Key) (a b : State ℕ) : Type 0 where
  pub store : Store ℕ
  pub other : Store ℕ
  pub part : Option (Part ℕ)
  pub first : a ≡ state_of store part
  pub second : b ≡ state_of other part
  pub finds : Finds keys store other
  pub owns : Owns store part
  pub owns_there : Owns other part

completed_finds : (keys : List Key) (store other : Store ℕ) (part : Option (Part ℕ)) → Finds keys store other → Owns store part → Owns other part
    → Finds keys (completed (state_of store part)) (completed (state_of other part))
unfolding completed
completed_finds keys store other None f o p k m = f k m
completed_finds keys store other (Some part) f o p k m =
    finds_complete part.key part.subvolume store k o ∙ ap (λ (x : Option (Subvolume ℕ)). if same_key part.key k then Some part.subvolume else x) (f k m)
    ∙ sym (finds_complete part.key part.subvolume other k p)

-- ---- one command

same_start : (keys : List Key) (store other : Store ℕ) (parent : Option Key) → Finds keys store other → ((k : Key) → parent ≡ Some k → IsAmong k keys)
    → start_from store parent ≡ start_from other parent
same_start keys store other None f n = refl
same_start keys store other (Some k) f n = ap (λ (o : Option (Subvolume ℕ)). found o NoParent) (f k (n k refl))

entered_alike : (keys : List Key) (store other : Store ℕ) (head : Head) → Finds keys store other → ((k : Key) → head.parent ≡ Some k → IsAmong k keys)
    → (entered store head (begun store head)).refusal ≡ None → (entered other head (begun other head)).refusal ≡ None
    → AreAlike keys (entered store head (begun store head)).state (entered other head (begun other head)).state
entered_alike keys store other head f n t u =
    let a = entered_taken store head (begun store head) t in
    let b = entered_taken other head (begun other head) u in
    let x = begun_begins store head a.0 a.1 in
    let y = begun_begins other head b.0 b.1 in
    let same : b.0 ≡ a.0 = ok_same (sym y.from ∙ sym (same_start keys store other head.parent f n) ∙ x.from) in
    let part : Subvolume ℕ → Option (Part ℕ) = λ s. Some (record { key = head.key; subvolume = s }) in
    record {
      store = store ++ unfinished head ∷ [];
      other = other ++ unfinished head ∷ [];
      part = part a.0;
      first = ap (λ (r : Result (Subvolume ℕ) Refusal). (entered store head r).state) a.1;
      second = ap (λ (r : Result (Subvolume ℕ) Refusal). (entered other head r).state) b.1 ∙ ap (λ (s : Subvolume ℕ). state_of (other ++ unfinished head ∷ []) (part s)) same;
      finds = λ k m. finds_unfinished head store k ∙ f k m ∙ sym (finds_unfinished head other k);
      owns = key_of_new head store x.new_uuid;
      owns_there = key_of_new head other y.new_uuid;
    }

parent_named : (c : Command) (head : Head) → head_of c ≡ Some head → (k : Key) → head.parent ≡ Some k → IsAmong k (keys_named c)
parent_named (Subvol uuid ctransid path) head h k e = let x = ap (λ (q : Head). q.parent) (same_inside h) ∙ e in cc
parent_named (Snapshot uuid ctransid path clone_uuid clone_ctransid) head h k e = inl (same_inside (ap (λ (q : Head). q.parent) (same_inside h) ∙ e))
parent_named c head h k e = cc

all_found : (keys ks : List Key) (uuid : List ℕ) (store other : Store ℕ) → Finds keys store other → ((k : Key) → IsAmong k ks → IsAmong k keys)
    → AllByRecursion (λ k. (bytes_eq k.uuid uuid ≡ true) ⊎ (find store k ≡ find other k)) ks
all_found keys [] uuid store other f n = tt
all_found keys (k ∷ ks) uuid store other f n = (inr (f k (n k (inl refl))), all_found keys ks uuid store other f (λ q m. n q (inr m)))

Steps : List Key → Command → Type 0
Steps keys c = (store other : Store ℕ) (part : Option (Part ℕ)) → Finds keys store other → Owns store part → Owns other part → ((k : Key) → IsAmong k (keys_named c) → IsAmong k keys)
    → (step_of (state_of store part) c).refusal ≡ None → (step_of (state_of other part) c).refusal ≡ None
    → AreAlike keys (step_of (state_of store part) c).state (step_of (state_of other part) c).state

inner_refused : (c : Command) (store : Store ℕ) → is_end c ≡ false → head_of c ≡ None → (step_of (state_of store None) c).refusal ≡ Some NoSubvolume
unfolding step step_edit
inner_refused (Subvol uuid ctransid path) store e h = cc
inner_refused (Snapshot uuid ctransid path clone_uuid clone_ctransid) store e h = cc
inner_refused End store e h = cc
inner_refused c store e h = refl

inner_alike : (keys : List Key) (c : Command) → is_end c ≡ false → head_of c ≡ None → Steps keys c
unfolding Steps
inner_alike keys c e h store other (Some part) f o p n t u =
    let put : List ℕ = bytes_of c in
    let x = inner_step put store part c e h in
    let y = inner_step put other part c e h in
    let same = same_edit put store other part c (record { no_end = e; no_head = h; sources = all_found keys (keys_named c) part.key.uuid store other f n }) in
    let ok = edited_taken store part (edit_part 0 put store part c) (ap (λ (z : Stepped ℕ). z.refusal) (sym x) ∙ t) in
    record {
      store = store;
      other = other;
      part = Some (record { key = part.key; subvolume = ok.0 });
      first = ap (λ (z : Stepped ℕ). z.state) x ∙ ap (λ (r : Result (Subvolume ℕ) Refusal). (edited store part r).state) ok.1;
      second = ap (λ (z : Stepped ℕ). z.state) y ∙ ap (λ (r : Result (Subvolume ℕ) Refusal). (edited other part r).state) (sym same ∙ ok.1);
      finds = f;
      owns = o;
      owns_there = p;
    }
inner_alike keys c e h store other None f o p n t u = let x = sym (inner_refused c store e h) ∙ t in cc

head_alike : (keys : List Key) (c : Command) (head : Head) → head_of c ≡ Some head → Steps keys c
unfolding Steps step_head
head_alike keys c head h store other part f o p n t u =
    let a : State ℕ = state_of store part in
    let b : State ℕ = state_of other part in
    let x = head_step 0 (bytes_of c) a c head h in
    let y = head_step 0 (bytes_of c) b c head h in
    let there = entered_alike keys (completed a) (completed b) head (completed_finds keys store other part f o p) (λ k e. n k (parent_named c head h k e))
    (ap (λ (z : Stepped ℕ). z.refusal) (sym x) ∙ t) (ap (λ (z : Stepped ℕ). z.refusal) (sym y) ∙ u) in
    record {
      store = there.store;
      other = there.other;
      part = there.part;
      first = ap (λ (z : Stepped ℕ). z.state) x ∙ there.first;
      second = ap (λ (z : Stepped ℕ). z.state) y ∙ there.second;
      finds = there.finds;
      owns = there.owns;
      owns_there = there.owns_there;
    }

end_alike : (keys : List Key) → Steps keys End
unfolding Steps step
end_alike keys store other part f o p n t u =
    record { store = completed (state_of store part); other = completed (state_of other part); part = None; first = refl; second = refl; finds = completed_finds keys store other part f o p; owns = tt; owns_there = tt }

by_head : (keys : List Key) (c : Command) → is_end c ≡ false → (o : Option Head) → head_of c ≡ o → Steps keys c
by_head keys c e (Some head) h = head_alike keys c head h
by_head keys c e None h = inner_alike keys c e h

step_alike : (keys : List Key) (c : Command) → Steps keys c
step_alike keys End = end_alike keys
step_alike keys c = by_head keys c refl (head_of c) refl

-- ---- commands in order

first_among : (k : Key) (c : Command) (cs : List Command) → IsAmong k (keys_named c) → IsAmong k (all_keys_named (c ∷ cs))
first_among k c cs m = one (keys_named c) m
  where
    one : (ks : List Key) → IsAmong k ks → IsAmong k (ks ++ all_keys_named cs)
    one [] a = absurd a
    one (q ∷ ks) (inl e) = inl e
    one (q ∷ ks) (inr more) = inr (one ks more)

rest_among : (k : Key) (c : Command) (cs : List Command) → IsAmong k (all_keys_named cs) → IsAmong k (all_keys_named (c ∷ cs))
rest_among k c cs m = one (keys_named c)
  where
    one : (ks : List Key) → IsAmong k (ks ++ all_keys_named cs)
    one [] = m
    one (q ∷ ks) = inr (one ks)

-- What goes before a command looks at the part alone.
part_leads : (store other : Store ℕ) (part : Option (Part ℕ)) (o : Option Opened) (path : List ℕ) (c : Command)
    → separator o path (state_of store part) c ≡ separator o path (state_of other part) c
unfolding separator is_astray
part_leads store other part o path c = refl

part_opens : (store other : Store ℕ) (part : Option (Part ℕ)) (o : Option Opened) (c : Command)
    → open_anew o (state_of store part) c ≡ open_anew o (state_of other part) c
unfolding is_astray
part_opens store other part o c = refl

pub same_led : (keys : List Key) (cs : List Command) (a b end end' : State ℕ) → AreAlike keys a b
    → ((k : Key) → IsAmong k (all_keys_named cs) → IsAmong k keys) → Takes a cs end → Takes b cs end'
    → (o : Option Opened) (path : List ℕ) → led_from o path a cs ≡ led_from o path b cs
unfolding led_from Steps
same_led keys [] a b end end' s n t u o path = refl
same_led keys (c ∷ cs) a b end end' s n (r, t) (q, u) o path =
    let x : State ℕ = state_of s.store s.part in
    let y : State ℕ = state_of s.other s.part in
    let P : State ℕ → State ℕ → Type 0 = λ v w. AreAlike keys (step_of v c).state (step_of w c).state in
    let next : AreAlike keys (step_of a c).state (step_of b c).state =
    subst (λ (v : State ℕ). P v b) (sym s.first) (subst (λ (w : State ℕ). P x w) (sym s.second)
    (step_alike keys c s.store s.other s.part s.finds s.owns s.owns_there (λ k m. n k (first_among k c cs m))
    (subst (λ (v : State ℕ). (step_of v c).refusal ≡ None) s.first r) (subst (λ (v : State ℕ). (step_of v c).refusal ≡ None) s.second q))) in
    let lead : separator o path a c ≡ separator o path b c =
    ap (λ (v : State ℕ). separator o path v c) s.first ∙ part_leads s.store s.other s.part o path c ∙ ap (λ (v : State ℕ). separator o path v c) (sym s.second) in
    let opens : open_anew o a c ≡ open_anew o b c =
    ap (λ (v : State ℕ). open_anew o v c) s.first ∙ part_opens s.store s.other s.part o c ∙ ap (λ (v : State ℕ). open_anew o v c) (sym s.second) in
    let p : List ℕ = other_path path o (written_path c) in
    let put : List Command → Led = λ before. record { before = before; command = c } in
    ap₂ (λ (before : List Command) (w : Option Opened). put before ∷ led_from w p (step_of a c).state cs) lead opens
    ∙ ap (λ (ls : List Led). put (separator o path b c) ∷ ls) (same_led keys cs (step_of a c).state (step_of b c).state end end' next (λ k m. n k (rest_among k c cs m)) t u (open_anew o b c) p)

pub same_fit : (keys : List Key) (cs : List Command) (a b end end' : State ℕ) → AreAlike keys a b
    → ((k : Key) → IsAmong k (all_keys_named cs) → IsAmong k keys) → Takes a cs end → Takes b cs end'
    → AreFit a cs → AreFit b cs
unfolding AreFit Steps
same_fit keys [] a b end end' s n t u f = tt
same_fit keys (c ∷ cs) a b end end' s n (r, t) (q, u) (f, fs) =
    let x : State ℕ = state_of s.store s.part in
    let P : State ℕ → State ℕ → Type 0 = λ v w. AreAlike keys (step_of v c).state (step_of w c).state in
    let next : AreAlike keys (step_of a c).state (step_of b c).state =
    subst (λ (v : State ℕ). P v b) (sym s.first) (subst (λ (w : State ℕ). P x w) (sym s.second)
    (step_alike keys c s.store s.other s.part s.finds s.owns s.owns_there (λ k m. n k (first_among k c cs m))
    (subst (λ (v : State ℕ). (step_of v c).refusal ≡ None) s.first r) (subst (λ (v : State ℕ). (step_of v c).refusal ≡ None) s.second q))) in
    let parts : a.part ≡ b.part = ap (λ (v : State ℕ). v.part) s.first ∙ ap (λ (v : State ℕ). v.part) (sym s.second) in
    (subst IsFit parts f, same_fit keys cs (step_of a c).state (step_of b c).state end end' next (λ k m. n k (rest_among k c cs m)) t u fs)

-- ---- uuids come and stay

same_uuids : (uuid own : List ℕ) (s : Subvolume ℕ) (store : Store ℕ) → has_uuid uuid (with_contents own s store) ≡ has_uuid uuid store
unfolding with_contents
same_uuids uuid own s [] = refl
same_uuids uuid own s (e ∷ store) = one (bytes_eq e.key.uuid own) (same_uuids uuid own s store)
  where
    one : (b : Bool) → has_uuid uuid (with_contents own s store) ≡ has_uuid uuid store
        → has_uuid uuid (if b then record e { contents = Some s } ∷ store else e ∷ with_contents own s store) ≡ has_uuid uuid (e ∷ store)
    one true more = refl
    one false more = ap (λ (b : Bool). bytes_eq e.key.uuid uuid || b) more

pub completed_uuids : (uuid : List ℕ) (store : Store ℕ) (part : Option (Part ℕ)) → has_uuid uuid (completed (state_of store part)) ≡ has_uuid uuid store
unfolding completed
completed_uuids uuid store None = refl
completed_uuids uuid store (Some part) = same_uuids uuid part.key.uuid part.subvolume store

first_uuids : (uuid : List ℕ) (store more : Store ℕ) → has_uuid uuid store ≡ true → has_uuid uuid (store ++ more) ≡ true
first_uuids uuid [] more h = cc
first_uuids uuid (e ∷ store) more h = one (bytes_eq e.key.uuid uuid) h (first_uuids uuid store more)
  where
    one : (b : Bool) → b || has_uuid uuid store ≡ true → (has_uuid uuid store ≡ true → has_uuid uuid (store ++ more) ≡ true)
        → b || has_uuid uuid (store ++ more) ≡ true
    one true h more = refl
    one false h more = more h

pub last_uuid : (uuid : List ℕ) (store : Store ℕ) (e : Entry (Subvolume ℕ)) → has_uuid uuid store ≡ false → has_uuid uuid (store ++ e ∷ []) ≡ true
    → bytes_eq e.key.uuid uuid ≡ true
last_uuid uuid [] e h t = one (bytes_eq e.key.uuid uuid) t
  where
    one : (b : Bool) → b || false ≡ true → b ≡ true
    one true q = refl
    one false q = cc
last_uuid uuid (x ∷ store) e h t =
    let p = or_parts (bytes_eq x.key.uuid uuid) (has_uuid uuid store) h in
    last_uuid uuid store e p.1 (subst (λ (b : Bool). b || has_uuid uuid (store ++ e ∷ []) ≡ true) p.0 t)

entered_uuids : (uuid : List ℕ) (store : Store ℕ) (head : Head) (r : Result (Subvolume ℕ) Refusal) → has_uuid uuid store ≡ true
    → has_uuid uuid (entered store head r).state.store ≡ true
entered_uuids uuid store head (Ok s) h = first_uuids uuid store (unfinished head ∷ []) h
entered_uuids uuid store head (Err refusal) h = h

Keeps : Command → Type 0
Keeps c = (uuid : List ℕ) (store : Store ℕ) (part : Option (Part ℕ)) → has_uuid uuid store ≡ true → has_uuid uuid (step_of (state_of store part) c).state.store ≡ true

inner_keeps : (c : Command) → is_end c ≡ false → head_of c ≡ None → Keeps c
unfolding Keeps step step_edit
inner_keeps (Subvol uuid ctransid path) e h = cc
inner_keeps (Snapshot uuid ctransid path clone_uuid clone_ctransid) e h = cc
inner_keeps End e h = cc
inner_keeps c e h = λ uuid store part there. one c uuid store part there
  where
    two : (uuid : List ℕ) (store : Store ℕ) (part : Part ℕ) (r : Result (Subvolume ℕ) Refusal) → has_uuid uuid store ≡ true
        → has_uuid uuid (edited store part r).state.store ≡ true
    two uuid store part (Ok s) t = t
    two uuid store part (Err refusal) t = t

    one : (c : Command) (uuid : List ℕ) (store : Store ℕ) (part : Option (Part ℕ)) → has_uuid uuid store ≡ true
        → has_uuid uuid (step_edit 0 (bytes_of c) (state_of store part) c).state.store ≡ true
    one c uuid store None t = t
    one c uuid store (Some part) t = two uuid store part (edit_part 0 (bytes_of c) store part c) t

head_keeps : (c : Command) (head : Head) → head_of c ≡ Some head → Keeps c
unfolding Keeps step_head
head_keeps c head h uuid store part there =
    let a : State ℕ = state_of store part in
    subst (λ (z : Stepped ℕ). has_uuid uuid z.state.store ≡ true) (sym (head_step 0 (bytes_of c) a c head h))
    (entered_uuids uuid (completed a) head (begun (completed a) head) (completed_uuids uuid store part ∙ there))

keeps_by : (c : Command) → is_end c ≡ false → (o : Option Head) → head_of c ≡ o → Keeps c
keeps_by c e (Some head) h = head_keeps c head h
keeps_by c e None h = inner_keeps c e h

end_keeps : Keeps End
unfolding Keeps step
end_keeps uuid store part there = completed_uuids uuid store part ∙ there

keeps : (c : Command) → Keeps c
keeps End = end_keeps
keeps c = keeps_by c refl (head_of c) refl

pub stays : (uuid : List ℕ) (cs : List Command) (a end : State ℕ) → Takes a cs end → has_uuid uuid a.store ≡ true → has_uuid uuid end.store ≡ true
unfolding Keeps
stays uuid [] a end t h = subst (λ (s : State ℕ). has_uuid uuid s.store ≡ true) t h
stays uuid (c ∷ cs) a end (r, t) h = stays uuid cs (step_of a c).state end t (keeps c uuid a.store a.part h)

-- The uuids of the parts of commands.
abbrev pub uuids_of : List Command → List (List ℕ)
uuids_of cs = map (λ head. head.key.uuid) (heads_of cs)

-- A part's uuid was not there before, and is there in the end.
pub record Came (uuid : List ℕ) (a end : State ℕ) : Type 0 where
  pub before : has_uuid uuid a.store ≡ false
  pub after : has_uuid uuid end.store ≡ true

was_not : (uuid : List ℕ) (c : Command) (a : State ℕ) → has_uuid uuid (step_of a c).state.store ≡ false → has_uuid uuid a.store ≡ false
unfolding Keeps
was_not uuid c a h = one (has_uuid uuid a.store) refl
  where
    one : (b : Bool) → has_uuid uuid a.store ≡ b → b ≡ false
    one true e = absurd (true≢false (sym (keeps c uuid a.store a.part e) ∙ h))
    one false e = refl

new_there : (head : Head) (store : Store ℕ) → has_uuid head.key.uuid (store ++ unfinished head ∷ []) ≡ true
new_there head [] = rw (bytes_eq_same head.key.uuid) refl
new_there head (e ∷ store) = one (bytes_eq e.key.uuid head.key.uuid) (new_there head store)
  where
    one : (b : Bool) → has_uuid head.key.uuid (store ++ unfinished head ∷ []) ≡ true → b || has_uuid head.key.uuid (store ++ unfinished head ∷ []) ≡ true
    one true more = refl
    one false more = more

head_came : (c : Command) (head : Head) → head_of c ≡ Some head → (cs : List Command) (a end : State ℕ) → (step_of a c).refusal ≡ None
    → Takes (step_of a c).state cs end → Came head.key.uuid a end
unfolding step_head
head_came c head h cs a end r t =
    let x = head_step 0 (bytes_of c) a c head h in
    let ok = entered_taken (completed a) head (begun (completed a) head) (ap (λ (z : Stepped ℕ). z.refusal) (sym x) ∙ r) in
    let b = begun_begins (completed a) head ok.0 ok.1 in
    let is : (step_of a c).state ≡ (entered (completed a) head (Ok ok.0)).state = ap (λ (z : Stepped ℕ). z.state) x ∙ ap (λ (q : Result (Subvolume ℕ) Refusal). (entered (completed a) head q).state) ok.1 in
    record {
      before = sym (completed_uuids head.key.uuid a.store a.part) ∙ b.new_uuid;
      after = stays head.key.uuid cs (step_of a c).state end t (subst (λ (s : State ℕ). has_uuid head.key.uuid s.store ≡ true) (sym is) (new_there head (completed a)));
    }

pub came : (uuid : List ℕ) (cs : List Command) (a end : State ℕ) → Takes a cs end → is_among (uuids_of cs) uuid ≡ true → Came uuid a end
unfolding heads_of
came uuid [] a end t m = cc
came uuid (c ∷ cs) a end (r, t) m =
    one (head_of c) refl m (λ q. let w = came uuid cs (step_of a c).state end t q in record { before = was_not uuid c a w.before; after = w.after })
  where
    two : (head : Head) → head_of c ≡ Some head → (b : Bool) → bytes_eq head.key.uuid uuid ≡ b → b || is_among (uuids_of cs) uuid ≡ true
        → (is_among (uuids_of cs) uuid ≡ true → Came uuid a end) → Came uuid a end
    two head h true e q later = subst (λ (u : List ℕ). Came u a end) (bytes_eq_true head.key.uuid uuid e) (head_came c head h cs a end r t)
    two head h false e q later = later q

    one : (o : Option Head) → head_of c ≡ o → is_among (map (λ head. head.key.uuid) (onto_heads o (heads_of cs))) uuid ≡ true
        → (is_among (uuids_of cs) uuid ≡ true → Came uuid a end) → Came uuid a end
    one None h q later = later q
    one (Some head) h q later = two head h (bytes_eq head.key.uuid uuid) refl q later
