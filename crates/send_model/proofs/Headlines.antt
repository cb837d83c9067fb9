-- The headline for files without clones: what compose writes for consecutive parts is accepted by
-- every store that finds the same outside subvolumes, and gives it the last part's subvolume.
use Rattle.std.specs.Prelude.{◌≡◌, ◌≢◌, ◌⊎◌, ℕ, ◌+◌, Bool, true, false, cond, not, List, [], ◌∷◌, ◌++◌, length, Option, None, Some, Ok}
use Rattle.std.specs.List.{AllByRecursion, filter, sum_by, count_by}
use Rattle.std.proofs.Common.{refl, sym, ap, ap₂, subst, subst₂, ◌∙◌, inl, inr, arith, append-nil, append_assoc}
use Rattle.std.proofs.lemmas.Bool.{true≢false}
use Rattle.std.proofs.lemmas.List.Sums.{sum_by-cons, sum_by-append}
use Rattle.send_model.specs.Refusal.{NoParent}
use Rattle.send_model.specs.Chain.{found}
use Rattle.send_model.specs.Command.{Command, Subvol, Snapshot, Clone, End}
use Rattle.send_model.specs.Spelling.{stream_header, canonical_all}
use Rattle.send_model.specs.Reading.{is_version, Item, Reading, Ending, Whole, Faulty, reads, input, input_from, joined}
use Rattle.send_model.specs.Subvolume.{Subvolume}
use Rattle.send_model.specs.Store.{Key, Head, head_of, Store, Part, State, same_key, find, start_from, unfinished}
use Rattle.send_model.specs.Receive.{Run, receive_items, receive_of, receive, byte_cells, bytes_of, start_of, first_of, with_fault, run_items}
use Rattle.send_model.specs.Order.{heads, heads_of, commands_of, IsConsecutive}
use Rattle.send_model.specs.Outside.{IsAmong, is_among, part_uuids, store_without, base_of, base, keys_named, all_keys_named, keys_outside, SameOn}
use Rattle.send_model.specs.Provenance.{Traced, uuid_after, is_redirected, traced_step, traced_store, ranges_from, uncarried_cells, carried_runs}
use Rattle.send_model.specs.Counts.{literal, clones, streams, is_clone, is_end, kept_of, kept_from}
use Rattle.send_model.specs.Composed.{first_head, last_head, head_command, commands_for, composed_from}
use Rattle.send_model.specs.Headline.{CanReceiveOf, IsComposedOf, IsComposed, last_entry}
use Rattle.send_model.proofs.Sorts.{same_inside}
use Rattle.send_model.proofs.Stores.{same_key_true}
use Rattle.send_model.proofs.Runs.{Takes, runs_taken}
use Rattle.send_model.proofs.Merging.{NoClones, edit_in, edits_of, last_key, Stands}
use Rattle.send_model.proofs.Composing.{AreNamed, last_of, last_named, names, Comes, comes, received_anywhere}
use Rattle.send_model.proofs.Streams.{IsInner, ReadsAs, stream_read}
use Rattle.send_model.proofs.Endings.{EndsWell, input_ends, no_part_left}

-- ---- the composed commands are the edits

plain_commands_for : (store : Store ℕ) (parts : List (List ℕ)) (last : Key) (state : State Traced) (current : Option (List ℕ)) (c : Command) → is_clone c ≡ false → commands_for store parts last state current c ≡ edit_in (head_of c) c
plain_commands_for store parts last state current (Clone path offset clone_uuid clone_ctransid clone_path clone_offset clone_len) h = absurd (true≢false h)
plain_commands_for store parts last state current End h = refl
plain_commands_for store parts last state current c h = refl

pub plain_composed : (store : Store ℕ) (parts : List (List ℕ)) (last : Key) (items : List Item) (state : State Traced) (current : Option (List ℕ)) → NoClones (commands_of items) → composed_from store parts last state current items ≡ edits_of (commands_of items)
unfolding composed_from
plain_composed store parts last [] state current n = refl
plain_composed store parts last (item ∷ items) state current n =
    ap₂ (λ (a b : List Command). a ++ b) (plain_commands_for store parts last state current item.command n.0)
    (plain_composed store parts last items (traced_step state item).state (uuid_after current item.command) n.1)

-- No clone is redirected.
plain_not_redirected : (parts : List (List ℕ)) (current : Option (List ℕ)) (c : Command) → is_clone c ≡ false → is_redirected parts current c ≡ false
plain_not_redirected parts current (Clone path offset clone_uuid clone_ctransid clone_path clone_offset clone_len) h = absurd (true≢false h)
plain_not_redirected parts current c h = refl

no_ranges : (parts : List (List ℕ)) (items : List Item) (state : State Traced) (current : Option (List ℕ)) → NoClones (commands_of items) → ranges_from parts state current items ≡ []
unfolding ranges_from
no_ranges parts [] state current n = refl
no_ranges parts (item ∷ items) state current n =
    rw (plain_not_redirected parts current item.command n.0) (no_ranges parts items (traced_step state item).state (uuid_after current item.command) n.1)

no_uncarried : (store : Store ℕ) (items : List Item) → NoClones (commands_of items) → uncarried_cells store items ≡ 0
no_uncarried store items n = rw (no_ranges (part_uuids items) items (start_of (traced_store store)) None n) refl

no_runs : (store : Store ℕ) (items : List Item) → NoClones (commands_of items) → carried_runs store items ≡ 0
no_runs store items n = rw (no_ranges (part_uuids items) items (start_of (traced_store store)) None n) refl

none_kept : (parts : List (List ℕ)) (current : Option (List ℕ)) (cs : List Command) → NoClones cs → kept_from parts current cs ≡ 0
unfolding kept_from
none_kept parts current [] n = refl
none_kept parts current (c ∷ cs) n = rw (n.0, none_kept parts (uuid_after current c) cs n.1) refl

no_kept : (items : List Item) → NoClones (commands_of items) → kept_of items ≡ 0
no_kept items n = none_kept (part_uuids items) None (commands_of items) n

-- ---- counts

-- Heads and END write nothing.
edit_literal : (c : Command) → sum_by (λ (d : Command). length (bytes_of d)) (edit_in (head_of c) c) ≡ length (bytes_of c)
edit_literal (Subvol uuid ctransid path) = refl
edit_literal (Snapshot uuid ctransid path clone_uuid clone_ctransid) = refl
edit_literal End = refl
edit_literal c = omega arith

edits_literal : (cs : List Command) → literal (edits_of cs) ≡ literal cs
unfolding literal
edits_literal [] = refl
edits_literal (c ∷ cs) =
    let f : Command → ℕ = λ d. length (bytes_of d) in
    sum_by-append f (edit_in (head_of c) c) (edits_of cs) ∙ ap₂ (λ (a b : ℕ). a + b) (edit_literal c) (edits_literal cs) ∙ sym (sum_by-cons f c cs)

head_literal : (name : List ℕ) (key : Key) (parent : Option Key) → length (bytes_of (head_command name key parent)) ≡ 0
head_literal name key None = refl
head_literal name key (Some k) = refl

literal_composed : (name : List ℕ) (key : Key) (parent : Option Key) (cs : List Command) → literal (head_command name key parent ∷ (edits_of cs ++ End ∷ [])) ≡ literal cs
unfolding literal
literal_composed name key parent cs =
    let f : Command → ℕ = λ d. length (bytes_of d) in
    let a = sum_by-cons f (head_command name key parent) (edits_of cs ++ End ∷ []) in
    let b = sum_by-append f (edits_of cs) (End ∷ []) in
    omega (arith, a, b, head_literal name key parent, edits_literal cs)

-- The edits have no heads, no clones, no END, and name nothing.
edit_heads : (c : Command) (rest : List Command) → heads_of (edit_in (head_of c) c ++ rest) ≡ heads_of rest
unfolding heads_of
edit_heads (Subvol uuid ctransid path) rest = refl
edit_heads (Snapshot uuid ctransid path clone_uuid clone_ctransid) rest = refl
edit_heads End rest = refl
edit_heads c rest = refl

edits_heads : (cs rest : List Command) → heads_of (edits_of cs ++ rest) ≡ heads_of rest
edits_heads [] rest = refl
edits_heads (c ∷ cs) rest = ap heads_of (append_assoc (edit_in (head_of c) c) (edits_of cs) rest) ∙ edit_heads c (edits_of cs ++ rest) ∙ edits_heads cs rest

edit_clones : (c : Command) → is_clone c ≡ false → count_by is_clone (edit_in (head_of c) c) ≡ 0
edit_clones (Clone path offset clone_uuid clone_ctransid clone_path clone_offset clone_len) h = absurd (true≢false h)
edit_clones (Subvol uuid ctransid path) h = refl
edit_clones (Snapshot uuid ctransid path clone_uuid clone_ctransid) h = refl
edit_clones End h = refl
edit_clones c h = refl

edits_clones : (cs : List Command) → NoClones cs → count_by is_clone (edits_of cs) ≡ 0
edits_clones [] n = refl
edits_clones (c ∷ cs) n =
    let f : Command → ℕ = λ x. cond (is_clone x) 1 0 in
    let a = sum_by-append f (edit_in (head_of c) c) (edits_of cs) in
    omega (arith, a, edit_clones c n.0, edits_clones cs n.1)

abbrev one_if : Bool → ℕ
one_if b = cond b 1 0

head_clones : (name : List ℕ) (key : Key) (parent : Option Key) → one_if (is_clone (head_command name key parent)) ≡ 0
head_clones name key None = refl
head_clones name key (Some k) = refl

clones_composed : (name : List ℕ) (key : Key) (parent : Option Key) (cs : List Command) → NoClones cs → clones (head_command name key parent ∷ (edits_of cs ++ End ∷ [])) ≡ 0
unfolding clones
clones_composed name key parent cs n =
    let f : Command → ℕ = λ x. cond (is_clone x) 1 0 in
    let a = sum_by-cons f (head_command name key parent) (edits_of cs ++ End ∷ []) in
    let b = sum_by-append f (edits_of cs) (End ∷ []) in
    omega (arith, a, b, head_clones name key parent, edits_clones cs n)

edit_keys : (c : Command) → is_clone c ≡ false → all_keys_named (edit_in (head_of c) c) ≡ []
edit_keys (Clone path offset clone_uuid clone_ctransid clone_path clone_offset clone_len) h = absurd (true≢false h)
edit_keys (Subvol uuid ctransid path) h = refl
edit_keys (Snapshot uuid ctransid path clone_uuid clone_ctransid) h = refl
edit_keys End h = refl
edit_keys c h = refl

keys_append : (cs ds : List Command) → all_keys_named (cs ++ ds) ≡ all_keys_named cs ++ all_keys_named ds
keys_append [] ds = refl
keys_append (c ∷ cs) ds = ap (λ (ks : List Key). keys_named c ++ ks) (keys_append cs ds) ∙ sym (append_assoc (keys_named c) (all_keys_named cs) (all_keys_named ds))

edits_keys : (cs : List Command) → NoClones cs → all_keys_named (edits_of cs) ≡ []
edits_keys [] n = refl
edits_keys (c ∷ cs) n = keys_append (edit_in (head_of c) c) (edits_of cs) ∙ ap₂ (λ (a b : List Key). a ++ b) (edit_keys c n.0) (edits_keys cs n.1)

keys_composed : (name : List ℕ) (key : Key) (parent : Option Key) (cs : List Command) → NoClones cs → all_keys_named (head_command name key parent ∷ (edits_of cs ++ End ∷ [])) ≡ all_keys_named (head_command name key parent ∷ [])
keys_composed name key parent cs n = ap (λ (ks : List Key). keys_named (head_command name key parent) ++ ks) (keys_append (edits_of cs) (End ∷ []) ∙ ap (λ (ks : List Key). ks ++ []) (edits_keys cs n))

pub inner_streams : (version : ℕ) (cs : List Command) → AllByRecursion (IsInner version) cs → streams (cs ++ End ∷ []) ≡ 1
unfolding streams
inner_streams version [] inner = refl
inner_streams version (c ∷ cs) inner =
    let f : Command → ℕ = λ x. cond (is_end x) 1 0 in
    let a = sum_by-cons f c (cs ++ End ∷ []) in
    let b : one_if (is_end c) ≡ 0 = ap one_if inner.0.1 in
    omega (arith, a, b, inner_streams version cs inner.1)

-- ---- keys

among_more : (b : Bool) (key k : Key) (keys : List Key) → IsAmong key keys → IsAmong key (cond b (k ∷ keys) keys)
among_more true key k keys a = inr a
among_more false key k keys a = a

pub among_kept : (p : Key → Bool) (key : Key) (keys : List Key) → p key ≡ true → IsAmong key keys → IsAmong key (filter p keys)
among_kept p key [] h a = a
among_kept p key (k ∷ keys) h (inl e) = let at : p k ≡ true = ap p e ∙ h in rw at (inl e)
among_kept p key (k ∷ keys) h (inr more) = among_more (p k) key k (filter p keys) (among_kept p key keys h more)

pub among_all : (P : Key → Type 0) (key : Key) (keys : List Key) → AllByRecursion P keys → IsAmong key keys → P key
among_all P key [] all a = absurd a
among_all P key (k ∷ keys) all (inl e) = subst P e all.0
among_all P key (k ∷ keys) all (inr more) = among_all P key keys all.1 more

-- A store without some uuids finds none of them.
pub without_finds : (uuids : List (List ℕ)) (store : Store ℕ) (key : Key) → is_among uuids key.uuid ≡ true → find (store_without uuids store) key ≡ None
unfolding find
without_finds uuids [] key h = refl
without_finds uuids (e ∷ store) key h = one (is_among uuids e.key.uuid) refl (without_finds uuids store key h)
  where
    one : (b : Bool) → is_among uuids e.key.uuid ≡ b → find (store_without uuids store) key ≡ None → find (store_without uuids (e ∷ store)) key ≡ None
    one true i more = rw i more
    one false i more = rw i (other (same_key e.key key) refl)
      where
        other : (b : Bool) → same_key e.key key ≡ b → find (e ∷ store_without uuids store) key ≡ None
        other true s = absurd (true≢false (sym h ∙ ap (λ (k : Key). is_among uuids k.uuid) (sym (same_key_true e.key key s)) ∙ i))
        other false s = rw s more

-- ---- receiving one stream

joined_whole : (items : List Item) (ending : Ending) → ending ≡ Whole → joined (record { items = items; end = ending }) (record { items = []; end = Whole }) ≡ record { items = items ++ []; end = Whole }
joined_whole items Whole h = refl
joined_whole items (Faulty verdict) h = cc

pub one_input : (bytes : List ℕ) → (reads 1 bytes).end ≡ Whole → input (bytes ∷ []) ≡ record { items = (reads 1 bytes).items; end = Whole }
unfolding input input_from
one_input bytes h = joined_whole (reads 1 bytes).items (reads 1 bytes).end h ∙ (let f : List Item → Reading = λ is. record { items = is; end = Whole } in ap f (append-nil (reads 1 bytes).items))

pub received_as : (store : Store ℕ) (bytes : List ℕ) (end : State ℕ) → (reads 1 bytes).end ≡ Whole → run_items 0 byte_cells (start_of store) (reads 1 bytes).items ≡ record { state = end; refused = None }
    → receive store (bytes ∷ []) ≡ record { state = end; refused = None }
unfolding receive_items
received_as store bytes end whole ran =
    let f : Reading → Run ℕ = λ x. receive_items 0 byte_cells store x in
    let g : Run ℕ → Run ℕ = λ x. record { state = x.state; refused = first_of x.refused None } in
    ap f (one_input bytes whole) ∙ ap g ran

-- Receiving one whole file is running its items.
pub received_run : (store : Store ℕ) (bytes : List ℕ) → (reads 1 bytes).end ≡ Whole → receive store (bytes ∷ []) ≡ with_fault (run_items 0 byte_cells (start_of store) (reads 1 bytes).items) Whole
unfolding receive_items
received_run store bytes whole = let f : Reading → Run ℕ = λ x. receive_items 0 byte_cells store x in ap f (one_input bytes whole)

pub received_one : (store : Store ℕ) (bytes : List ℕ) (cs : List Command) (end : State ℕ) → ReadsAs (reads 1 bytes) cs → Takes (start_of store) cs end → receive store (bytes ∷ []) ≡ record { state = end; refused = None }
received_one store bytes cs end r t =
    let P : List Command → Type 0 = λ ds. Takes (start_of store) ds end in
    received_as store bytes end r.whole (runs_taken (reads 1 bytes).items (start_of store) end (subst P (sym r.commands) t))

-- ---- the headline

pub first_none : {A : Type 0} (a b : Option A) → first_of a b ≡ None → a ≡ None
first_none None b e = refl
first_none (Some x) b e = e

-- Everything that is known of what was read, and of files, where compose took it in order.
pub record AcceptsOf (store : Store ℕ) (reading : Reading) (end : State ℕ) : Type 0 where
  pub whole : reading.end ≡ Whole
  pub ends : EndsWell (commands_of reading.items)
  pub no_clones : NoClones (commands_of reading.items)
  pub consecutive : IsConsecutive reading.items
  pub taken : Takes (start_of (base_of store reading.items)) (commands_of reading.items) end

pub record Accepts (store : Store ℕ) (files : List (List ℕ)) (end : State ℕ) : Type 0 where
  pub whole : (input files).end ≡ Whole
  pub no_clones : NoClones (commands_of (input files).items)
  pub consecutive : IsConsecutive (input files).items
  pub taken : Takes (start_of (base store files)) (commands_of (input files).items) end

-- What a part starts from is found outside the items.
outside_parent : (store : Store ℕ) (items : List Item) (name name' : List ℕ) (key key' : Key) (parent : Option Key) (start : Subvolume ℕ) → start_from (base_of store items) parent ≡ Ok start
    → AllByRecursion (λ k. IsAmong k (all_keys_named (commands_of items))) (all_keys_named (head_command name key parent ∷ []))
    → AllByRecursion (λ k. IsAmong k (keys_outside items)) (all_keys_named (head_command name' key' parent ∷ []))
outside_parent store items name name' key key' None start from named = tt
outside_parent store items name name' key key' (Some k) start from named = by_test (is_among (part_uuids items) k.uuid) refl
  where
    parts : List (List ℕ)
    parts = part_uuids items

    by_test : (b : Bool) → is_among (part_uuids items) k.uuid ≡ b → AllByRecursion (λ q. IsAmong q (keys_outside items)) (k ∷ [])
    by_test true e = absurd (let none : find (store_without parts store) k ≡ None = without_finds parts store k e in let at : found None NoParent ≡ Ok start = subst (λ (o : Option (Subvolume ℕ)). found o NoParent ≡ Ok start) none from in cc)
    by_test false e = (among_kept (λ q. not (is_among parts q.uuid)) k (all_keys_named (commands_of items)) (ap not e) named.0, tt)

same_start : (base_store store : Store ℕ) (outside_keys : List Key) (name : List ℕ) (key : Key) (parent : Option Key) (start : Subvolume ℕ) → SameOn base_store store outside_keys
    → AllByRecursion (λ k. IsAmong k outside_keys) (all_keys_named (head_command name key parent ∷ [])) → start_from base_store parent ≡ Ok start → start_from store parent ≡ Ok start
same_start base_store store outside_keys name key None start same named from = from
same_start base_store store outside_keys name key (Some k) start same named from =
    subst (λ (o : Option (Subvolume ℕ)). found o NoParent ≡ Ok start) (among_all (λ q. find base_store q ≡ find store q) k outside_keys same named.0) from

stands_none : (store : Store ℕ) (part : Option (Part ℕ)) (key : Key) (s : Subvolume ℕ) → part ≡ None → Stands store part key s → find store key ≡ Some s
stands_none store None key s e h = h
stands_none store (Some part) key s e h = cc

pub no_part_at_end : (cs : List Command) (state end : State ℕ) → EndsWell cs → heads_of cs ≢ [] → Takes state cs end → end.part ≡ None
unfolding heads_of
no_part_at_end cs state end (inl none) some t = absurd (some (ap heads_of none))
no_part_at_end cs state end (inr ends) some t = no_part_left cs state end ends t

pub received_all : (store : Store ℕ) (reading : Reading) (end : State ℕ) → reading.end ≡ Whole → Takes (start_of store) (commands_of reading.items) end → receive_of store reading ≡ record { state = end; refused = None }
unfolding receive_items
received_all store reading end whole t =
    let g : Run ℕ → Ending → Run ℕ = λ x e. with_fault x e in
    ap₂ g (runs_taken reading.items (start_of store) end t) whole

head_alone : (name : List ℕ) (key : Key) (parent : Option Key) (cs : List Command) → length (heads_of (head_command name key parent ∷ (edits_of cs ++ End ∷ []))) ≡ 1
unfolding heads_of
head_alone name key None cs = rw (edits_heads cs (End ∷ [])) refl
head_alone name key (Some k) cs = rw (edits_heads cs (End ∷ [])) refl

all_left : (P Q : Key → Type 0) (keys : List Key) → AllByRecursion P keys → AllByRecursion (λ k. P k ⊎ Q k) keys
all_left P Q [] a = tt
all_left P Q (k ∷ keys) a = (inl a.0, all_left P Q keys a.1)

-- The composed commands of files that were taken in order, for the last of their heads.
abbrev pub written_for : ℕ → Head → Head → List Command → List ℕ
written_for version first last cs = stream_header version ++ canonical_all version (head_command last.name last.key first.parent ∷ (edits_of cs ++ End ∷ []))

-- The headline, for what was taken in order and holds no clone.
module _ (store : Store ℕ) (reading : Reading) (end : State ℕ) (a : AcceptsOf store reading end) where
  cs : List Command
  cs = commands_of reading.items

  c : Comes (base_of store reading.items) (commands_of reading.items) end
  c = comes (commands_of reading.items) (base_of store reading.items) end a.no_clones a.consecutive.0 a.consecutive.1 a.taken

  last' : (last : Head) × (last_head (c.first ∷ c.rest) ≡ Some last) × (last.key ≡ last_key c.first.key c.rest)
  last' = last_of c.first c.rest

  composed_written : (version : ℕ) (written : List ℕ) → is_version version ≡ true → AllByRecursion (IsInner version) (head_command last'.0.name last'.0.key c.first.parent ∷ edits_of (commands_of reading.items)) → written ≡ written_for version c.first last'.0 (commands_of reading.items)
      → IsComposedOf (base_of store reading.items) reading written
  unfolding c last'
  composed_written version written read inner is =
      let items : List Item = reading.items in
      let b : Store ℕ = base_of store items in
      let ds : List Command = commands_of items in
      let first : Head = c.first in
      let last : Head = last'.0 in
      let new : Head = record { name = last.name; key = last.key; parent = first.parent } in
      let hc : Command = head_command last.name last.key first.parent in
      let list : List Command = hc ∷ (edits_of ds ++ End ∷ []) in
      let R : List ℕ → Type 0 = λ w. ReadsAs (reads 1 w) list in
      let ra : ReadsAs (reads 1 written) list = subst R (sym is) (stream_read 1 version (hc ∷ edits_of ds) read inner) in
      let A : List Head → Type 0 = λ hs. AreNamed hs in
      let named = last_named first c.rest (subst A c.heads_are (names ds (start_of b) end a.taken)) last last'.1 in
      let received = received_all b reading end a.whole a.taken in
      let none = no_part_at_end ds (start_of b) end a.ends a.consecutive.0 a.taken in
      let found_last : find end.store last.key ≡ Some c.merged.last = ap (find end.store) last'.2 ∙ stands_none end.store end.part (last_key first.key c.rest) c.merged.last none c.merged.stands in
      let parent_out = outside_parent store items first.name last.name first.key last.key first.parent c.start c.from c.first_named in
      let one : (t : Store ℕ) → CanReceiveOf b items last t → receive t (written ∷ []) ≡ record { state = record { store = t ++ last_entry first last c.merged.last ∷ []; part = None }; refused = None } =
      λ t can. received_one t written list _ ra (received_anywhere new c.start c.merged.last (edits_of ds) t named can.no_name can.no_uuid (same_start b t (keys_outside items) last.name last.key first.parent c.start can.same parent_out c.from) (c.merged.merged (t ++ unfinished new ∷ []) new.key)) in
      let keys : List Key → Type 0 = λ ks. AllByRecursion (λ key. IsAmong key (keys_outside items) ⊎ (key ≡ last.key)) ks in
      let no_extra = no_uncarried b items a.no_clones in
      let kept_is : kept_of items ≡ 0 = no_kept items a.no_clones in
      record {
        read_whole = a.whole;
        accepted = ap (λ (r : Run ℕ). r.refused) received;
        consecutive = a.consecutive;
        first = first;
        last = last;
        subvolume = c.merged.last;
        first_is = ap first_head c.heads_are;
        last_is = ap last_head c.heads_are ∙ last'.1;
        subvolume_is = ap (λ (r : Run ℕ). find r.state.store last.key) received ∙ found_last;
        whole = ra.whole;
        one_part = ap (λ (es : List Command). length (heads_of es)) ra.commands ∙ head_alone last.name last.key first.parent ds;
        one_stream = ap streams ra.commands ∙ inner_streams version (hc ∷ edits_of ds) inner;
        accepted_by = λ t can. ap (λ (r : Run ℕ). r.refused) (one t can);
        gets = λ t can. ap (λ (r : Run ℕ). r.state.store) (one t can);
        names_only = subst keys (sym (ap all_keys_named ra.commands ∙ keys_composed last.name last.key first.parent ds a.no_clones)) (all_left (λ k. IsAmong k (keys_outside items)) (λ k. k ≡ last.key) _ parent_out);
        literal_bytes = ap literal ra.commands ∙ literal_composed last.name last.key first.parent ds ∙ (omega (arith, no_extra));
        clone_count = ap clones ra.commands ∙ clones_composed last.name last.key first.parent ds a.no_clones ∙ (omega (arith, kept_is, no_runs b items a.no_clones));
      }

-- What compose writes for what was taken in order: the stream of its one list of commands.
pub headline_of : (version : ℕ) (store : Store ℕ) (reading : Reading) (end : State ℕ) (written : List ℕ) (first last : Head) → is_version version ≡ true → AcceptsOf store reading end
    → first_head (heads reading.items) ≡ Some first → last_head (heads reading.items) ≡ Some last
    → AllByRecursion (IsInner version) (head_command last.name last.key first.parent ∷ edits_of (commands_of reading.items)) → written ≡ written_for version first last (commands_of reading.items)
    → IsComposedOf (base_of store reading.items) reading written
unfolding c last'
headline_of version store reading end written first last read a first_is last_is inner is =
    let ds : List Command = commands_of reading.items in
    let k = c store reading end a in
    let l = last' store reading end a in
    let same_first : first ≡ k.first = same_inside (sym first_is ∙ ap first_head k.heads_are) in
    let same_last : last ≡ l.0 = same_inside (sym last_is ∙ ap last_head k.heads_are ∙ l.1) in
    let Q : Head → Head → Type 0 = λ f g. AllByRecursion (IsInner version) (head_command g.name g.key f.parent ∷ edits_of ds) × (written ≡ written_for version f g ds) in
    let q = subst₂ Q same_first same_last (inner, is) in
    composed_written store reading end a version written read q.0 q.1

-- And for files.
pub headline : (version : ℕ) (store : Store ℕ) (files : List (List ℕ)) (end : State ℕ) (written : List ℕ) (first last : Head) → is_version version ≡ true → Accepts store files end
    → first_head (heads (input files).items) ≡ Some first → last_head (heads (input files).items) ≡ Some last
    → AllByRecursion (IsInner version) (head_command last.name last.key first.parent ∷ edits_of (commands_of (input files).items)) → written ≡ written_for version first last (commands_of (input files).items)
    → IsComposed (base store files) files written
headline version store files end written first last read a =
    headline_of version store (input files) end written first last read
    (record { whole = a.whole; ends = input_ends files a.whole; no_clones = a.no_clones; consecutive = a.consecutive; taken = a.taken })
