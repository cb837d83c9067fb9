-- What groups make keeps what sending asks of each subvolume, so all has it that an image stands
-- for.
use Rattle.std.specs.Prelude.{◌≡◌, ℕ, ◌+◌, ◌^◌, ◌<◌, Bool, true, false, not, List, [], ◌∷◌, length, Option, None, Some, Result, Ok, Err, IfSome, is_some, if◌then◌else◌}
use Rattle.std.specs.List.{AllByRecursion, filter}
use Rattle.std.specs.Option.{option_map}
use Rattle.std.specs.Str.{bytes_eq}
use Rattle.std.proofs.Common.{refl, sym, ap, subst, ◌∙◌}
use Rattle.send_model.specs.Refusal.{Refusal, BadPath, NoSource, NoSubvolume, NoParent}
use Rattle.send_model.specs.Chain.{found}
use Rattle.send_model.specs.Attribute.{Identifier, Bytes, FieldFits, UUID, PATH}
use Rattle.send_model.specs.Command.{Command, Subvol, Snapshot, Clone, End, row}
use Rattle.send_model.specs.Spelling.{IsSpellable, canonical}
use Rattle.send_model.specs.Path.{path_names}
use Rattle.send_model.specs.Subvolume.{Subvolume}
use Rattle.send_model.specs.Store.{Key, same_key, Head, head_of, Entry, Store, find, has_name, Part, State, Stepped, with_contents, completed, unfinished, begun, start_from, entered, step_head, clone_source, edit_part, edited, step_edit}
use Rattle.send_model.specs.Clone.{cloned, clone, clone_values}
use Rattle.send_model.specs.Receive.{bytes_of, start_of}
use Rattle.send_model.specs.Counts.{is_clone}
use Rattle.store_model.specs.Stored.{Content, Mark, Body, Drop, Group, body_bytes, is_edit, IsEdit, IsContent, IsGroup, taken, marked, unfinished_at, started, resumed, edits_made, dropped, frames_at, made, body_at, made_all, first_gate}
use Rattle.snapshot_model.specs.Listing.{held}
use Rattle.snapshot_model.specs.HeldStores.{as_held}
use Rattle.snapshot_model.specs.SentLaws.{IsKept}
use Rattle.snapshot_model.specs.StoredLaws.{IsStored, StoredIsKept}
use Rattle.send_model.proofs.Sorts.{is_plain, same_inside, plain_edit_part}
use Rattle.send_model.proofs.Fuel.{ok_same, bound, required}
use Rattle.send_model.proofs.Merging.{begun_begins}
use Rattle.send_model.proofs.ElementLaws.{all_both}
use Rattle.send_model.proofs.Keeping.{all_filtered}
use Rattle.snapshot_model.proofs.SentTold.{edits_keep_it}

abbrev Cell : Type 0
Cell = Option ℕ

abbrev Kept : Subvolume Cell → Type 0
Kept s = IsKept s

abbrev AllStored : Store Cell → Type 0
AllStored store = AllByRecursion IsStored store

-- ---- entries

find_kept : (store : Store Cell) (key : Key) (s : Subvolume Cell) → AllStored store → find store key ≡ Some s → IsKept s
unfolding find
find_kept [] key s all f = cc
find_kept (e ∷ store) key s all f = one (same_key e.key key) (λ q. find_kept store key s all.1 q) f
  where
    two : (o : Option (Subvolume Cell)) → IfSome o IsKept → (find store key ≡ Some s → IsKept s) → (elim o as (λ x. Option (Subvolume Cell)) [ None ↦ find store key | Some t ↦ Some t ]) ≡ Some s → IsKept s
    two None h more q = more q
    two (Some t) h more q = subst Kept (same_inside q) h

    one : (b : Bool) → (find store key ≡ Some s → IsKept s) → (if b then elim e.contents as (λ x. Option (Subvolume Cell)) [ None ↦ find store key | Some t ↦ Some t ] else find store key) ≡ Some s → IsKept s
    one true more q = two e.contents all.0.contents more q
    one false more q = more q

contents_kept : (uuid : List ℕ) (s : Subvolume Cell) (store : Store Cell) → IsKept s → AllStored store → AllStored (with_contents uuid s store)
unfolding with_contents
contents_kept uuid s [] h all = tt
contents_kept uuid s (e ∷ store) h all = one (bytes_eq e.key.uuid uuid) (contents_kept uuid s store h all.1)
  where
    one : (b : Bool) → AllStored (with_contents uuid s store) → AllStored (if b then record e { contents = Some s } ∷ store else e ∷ with_contents uuid s store)
    one true more = (record { name = all.0.name; name_told = all.0.name_told; uuid = all.0.uuid; ctransid = all.0.ctransid; contents = h }, all.1)
    one false more = (all.0, more)

-- ---- states

abbrev PartKept : Option (Part Cell) → Type 0
PartKept None = Unit {0}
PartKept (Some part) = IsKept part.subvolume

record IsKeptState (state : State Cell) : Type 0 where
  store : AllStored state.store
  part : PartKept state.part

completed_kept : (state : State Cell) → IsKeptState state → AllStored (completed state)
unfolding completed
completed_kept state h = one state.part h.part
  where
    one : (o : Option (Part Cell)) → PartKept o → AllStored (elim o as (λ x. Store Cell) [ None ↦ state.store | Some part ↦ with_contents part.key.uuid part.subvolume state.store ])
    one None p = h.store
    one (Some part) p = contents_kept part.key.uuid part.subvolume state.store p h.store

start_kept : (store : Store Cell) (parent : Option Key) (start : Subvolume Cell) → AllStored store → start_from store parent ≡ Ok start → IsKept start
start_kept store None start h e = subst Kept (ok_same e) edits_keep_it.start
start_kept store (Some parent) start h e = one (find store parent) refl e
  where
    one : (o : Option (Subvolume Cell)) → find store parent ≡ o → found o NoParent ≡ Ok start → IsKept start
    one None f q = cc
    one (Some s) f q = subst Kept (ok_same q) (find_kept store parent s h f)

-- ---- a head

record HeadTold (head : Head) : Type 0 where
  name : FieldFits 1 PATH (Bytes head.name)
  uuid : FieldFits 1 UUID (Identifier head.key.uuid)
  ctransid : head.key.ctransid < 2 ^ 64

head_told : (c : Command) (head : Head) → head_of c ≡ Some head → IsSpellable 1 c → HeadTold head
unfolding row
head_told (Subvol uuid ctransid path) head e s = let v = s.values in subst (λ (h : Head). HeadTold h) (same_inside e) (record { name = v.1.1.0; uuid = v.0; ctransid = v.1.0 })
head_told (Snapshot uuid ctransid path clone_uuid clone_ctransid) head e s = let v = s.values in subst (λ (h : Head). HeadTold h) (same_inside e) (record { name = v.1.1.0; uuid = v.0; ctransid = v.1.0 })
head_told c head e s = cc

entered_kept : (store : Store Cell) (head : Head) (r : Result (Subvolume Cell) Refusal) → begun store head ≡ r → AllStored store → HeadTold head → AllStored (entered store head r).state.store
entered_kept store head (Err refusal) e h told = h
entered_kept store head (Ok start) e h told =
    all_both IsStored store (unfinished head ∷ []) h (record { name = (begun_begins store head start e).named; name_told = told.name; uuid = told.uuid; ctransid = told.ctransid; contents = tt }, tt)

taken_state : (s : Stepped Cell) (state : State Cell) → taken s ≡ Some state → s.state ≡ state
taken_state s state is = one s.refusal is
  where
    one : (o : Option Refusal) → (elim o as (λ x. Option (State Cell)) [ None ↦ Some s.state | Some refusal ↦ None ]) ≡ Some state → s.state ≡ state
    one None q = same_inside q
    one (Some refusal) q = cc

marked_kept : (store next : Store Cell) (command : Command) → IsSpellable 1 command → AllStored store → marked store command ≡ Some next → AllStored next
unfolding marked step_head
marked_kept store next command s h is = one (head_of command) refl is
  where
    two : (head : Head) → head_of command ≡ Some head → (o : Option (State Cell)) → taken (step_head (start_of store) head) ≡ o → option_map (λ state. state.store) o ≡ Some next → AllStored next
    two head of None t q = cc
    two head of (Some state) t q =
        let before : AllStored (completed (start_of store)) = completed_kept (start_of store) (record { store = h; part = tt }) in
        let after : AllStored (step_head (start_of store) head).state.store = entered_kept (completed (start_of store)) head (begun (completed (start_of store)) head) refl before (head_told command head of s) in
        subst AllStored (ap (λ (x : State Cell). x.store) (taken_state (step_head (start_of store) head) state t) ∙ same_inside q) after

    one : (o : Option Head) → head_of command ≡ o → (elim o as (λ x. Option (Store Cell)) [ None ↦ None | Some head ↦ option_map (λ state. state.store) (taken (step_head (start_of store) head)) ]) ≡ Some next → AllStored next
    one None of q = cc
    one (Some head) of q = two head of (taken (step_head (start_of store) head)) refl q

-- ---- edits

resumed_kept : (store : Store Cell) (uuid : List ℕ) (state : State Cell) → AllStored store → resumed store uuid ≡ Some state → IsKeptState state
unfolding resumed
resumed_kept store uuid state h is = one (unfinished_at uuid store) is
  where
    two : (e : Entry (Subvolume Cell)) (r : Result (Subvolume Cell) Refusal) → start_from store e.parent ≡ r
        → (elim r as (λ x. Option (State Cell)) [ Err refusal ↦ None | Ok start ↦ Some (record { store = store; part = Some (record { key = e.key; subvolume = start }) }) ]) ≡ Some state → IsKeptState state
    two e (Err refusal) f q = cc
    two e (Ok start) f q = subst (λ (x : State Cell). IsKeptState x) (same_inside q) (record { store = h; part = start_kept store e.parent start h f })

    one : (o : Option (Entry (Subvolume Cell))) → (elim o as (λ x. Option (State Cell)) [ None ↦ None | Some e ↦ started store e ]) ≡ Some state → IsKeptState state
    one None q = cc
    one (Some e) q = two e (start_from store e.parent) refl q

edited_kept : (store : Store Cell) (part : Part Cell) (r : Result (Subvolume Cell) Refusal) → AllStored store → IsKept part.subvolume → ((s : Subvolume Cell) → r ≡ Ok s → IsKept s) → IsKeptState (edited store part r).state
edited_kept store part (Err refusal) h own f = record { store = h; part = own }
edited_kept store part (Ok s) h own f = record { store = h; part = f s refl }

source_kept : (store : Store Cell) (part : Part Cell) (key : Key) (u : Subvolume Cell) → AllStored store → IsKept part.subvolume → clone_source store part key ≡ Some u → IsKept u
source_kept store part key u h own e = one (bytes_eq key.uuid part.key.uuid) e
  where
    one : (b : Bool) → (if b then Some part.subvolume else find store key) ≡ Some u → IsKept u
    one true q = subst Kept (same_inside q) own
    one false q = find_kept store key u h q

-- A clone without a source is refused.
no_source : (part : Subvolume Cell) (own : Bool) (path : List ℕ) (offset : ℕ) (clone_path : List ℕ) (from len : ℕ) (t : Subvolume Cell) → clone None part None own (clone_values path offset clone_path from len) ≡ Ok t → ⊥
unfolding clone cloned
no_source part own path offset clone_path from len t made =
    let range = bound (cloned part None own (clone_values path offset clone_path from len)) _ t made in
    let a = required (is_some (path_names path)) BadPath _ range.0 range.1 in
    let b = required (is_some (path_names clone_path)) BadPath _ range.0 a.1 in
    let none : Err NoSource ≡ Ok range.0 = b.1 in cc

-- A command that edits a part is a clone or a plain edit.
edit_sort : (c : Command) → is_edit c ≡ true → is_clone c ≡ false → is_plain c ≡ true
edit_sort (Subvol uuid ctransid path) h n = cc
edit_sort (Snapshot uuid ctransid path clone_uuid clone_ctransid) h n = cc
edit_sort (Clone path offset uuid ctransid clone_path from len) h n = cc
edit_sort End h n = cc
edit_sort c h n = refl

part_kept : (version : ℕ) (store : Store Cell) (part : Part Cell) (c : Command) → IsEdit version c → AllStored store → IsKept part.subvolume
    → (t : Subvolume Cell) → edit_part None (held (bytes_of c)) store part c ≡ Ok t → IsKept t
unfolding edit_part
part_kept version store part (Clone path offset uuid ctransid clone_path from len) said h own t made = one (clone_source store part key) refl made
  where
    key : Key
    key = record { uuid = uuid; ctransid = ctransid }

    one : (o : Option (Subvolume Cell)) → clone_source store part key ≡ o → clone None part.subvolume o (bytes_eq uuid part.key.uuid) (clone_values path offset clone_path from len) ≡ Ok t → IsKept t
    one None is q = absurd (no_source part.subvolume (bytes_eq uuid part.key.uuid) path offset clone_path from len t q)
    one (Some u) is q = edits_keep_it.clones part.subvolume u t (bytes_eq uuid part.key.uuid) (clone_values path offset clone_path from len) own (source_kept store part key u h own is) q
part_kept version store part c said h own t made = by_plain (is_clone c) refl
  where
    by_plain : (b : Bool) → is_clone c ≡ b → IsKept t
    by_plain true is = cc
    by_plain false is = edits_keep_it.edits version c part.subvolume t said.1 own (sym (plain_edit_part None (held (bytes_of c)) store part c (edit_sort c said.0 is)) ∙ made)

step_kept : (version : ℕ) (state : State Cell) (c : Command) → IsEdit version c → IsKeptState state → IsKeptState (step_edit None (held (bytes_of c)) state c).state
unfolding step_edit
step_kept version state c said h = one state.part h.part
  where
    one : (o : Option (Part Cell)) → PartKept o
        → IsKeptState (elim o as (λ x. Stepped Cell) [ None ↦ record { state = state; refusal = Some NoSubvolume } | Some part ↦ edited state.store part (edit_part None (held (bytes_of c)) state.store part c) ]).state
    one None p = h
    one (Some part) p = edited_kept state.store part (edit_part None (held (bytes_of c)) state.store part c) h.store p (part_kept version state.store part c said h.store p)

edits_kept : (version place : ℕ) (state end : State Cell) (cs : List Command) → AllByRecursion (IsEdit version) cs → IsKeptState state → edits_made None as_held version place state cs ≡ Some end → IsKeptState end
unfolding edits_made
edits_kept version place state end [] are h is = subst (λ (x : State Cell). IsKeptState x) (same_inside is) h
edits_kept version place state end (c ∷ cs) are h is =
    let after : Stepped Cell = step_edit None (held (bytes_of c)) state c in
    one after (step_kept version state c are.0 h) (taken after) refl (λ next kept q. edits_kept version (place + length (canonical version c)) next end cs are.1 kept q) is
  where
    one : (after : Stepped Cell) → IsKeptState after.state → (o : Option (State Cell)) → taken after ≡ o
        → ((next : State Cell) → IsKeptState next → edits_made None as_held version (place + length (canonical version c)) next cs ≡ Some end → IsKeptState end)
        → (elim o as (λ x. Option (State Cell)) [ None ↦ None | Some next ↦ edits_made None as_held version (place + length (canonical version c)) next cs ]) ≡ Some end → IsKeptState end
    one after kept None t more q = cc
    one after kept (Some next) t more q = more next (subst (λ (x : State Cell). IsKeptState x) (taken_state after next t) kept) q

-- ---- groups

body_kept : (place : ℕ) (store next : Store Cell) (uuid : List ℕ) (version : ℕ) (cs : List Command) → AllByRecursion (IsEdit version) cs → AllStored store → made None as_held place store (Body uuid version cs) ≡ Some next → AllStored next
unfolding made
body_kept place store next uuid version cs are h is = one (resumed store uuid) refl is
  where
    two : (state : State Cell) → IsKeptState state → (o : Option (State Cell)) → edits_made None as_held version (frames_at place) state cs ≡ o → option_map completed o ≡ Some next → AllStored next
    two state kept None e q = cc
    two state kept (Some end) e q = subst AllStored (same_inside q) (completed_kept end (edits_kept version (frames_at place) state end cs are kept e))

    one : (o : Option (State Cell)) → resumed store uuid ≡ o → (elim o as (λ x. Option (Store Cell)) [ None ↦ None | Some state ↦ option_map completed (edits_made None as_held version (frames_at place) state cs) ]) ≡ Some next → AllStored next
    one None r q = cc
    one (Some state) r q = two state (resumed_kept store uuid state h r) (edits_made None as_held version (frames_at place) state cs) refl q

dropped_kept : (store next : Store Cell) (name : List ℕ) → AllStored store → dropped store name ≡ Some next → AllStored next
unfolding dropped
dropped_kept store next name h is = one (has_name name store) is
  where
    one : (b : Bool) → (if b then Some (filter (λ e. not (bytes_eq e.name name)) store) else None) ≡ Some next → AllStored next
    one true q = subst AllStored (same_inside q) (all_filtered IsStored (λ e. not (bytes_eq e.name name)) store h)
    one false q = cc

made_kept : (place : ℕ) (store next : Store Cell) (content : Content) → IsContent content → AllStored store → made None as_held place store content ≡ Some next → AllStored next
unfolding made
made_kept place store next (Mark head) said h is = marked_kept store next head said h is
made_kept place store next (Body uuid version cs) said h is = body_kept place store next uuid version cs said.2 h is
made_kept place store next (Drop name) said h is = dropped_kept store next name h is

all_kept : (format gate : ℕ) (store end : Store Cell) (groups : List Group) → AllByRecursion (IsGroup format) groups → AllStored store → made_all None as_held gate store groups ≡ Some end → AllStored end
unfolding made_all
all_kept format gate store end [] are h is = subst AllStored (same_inside is) h
all_kept format gate store end (g ∷ groups) are h is =
    one (made None as_held (body_at gate) store g.content) refl (λ next kept q. all_kept format (body_at gate + length (body_bytes g)) next end groups are.1 kept q) is
  where
    one : (o : Option (Store Cell)) → made None as_held (body_at gate) store g.content ≡ o
        → ((next : Store Cell) → AllStored next → made_all None as_held (body_at gate + length (body_bytes g)) next groups ≡ Some end → AllStored end)
        → (elim o as (λ x. Option (Store Cell)) [ None ↦ None | Some next ↦ made_all None as_held (body_at gate + length (body_bytes g)) next groups ]) ≡ Some end → AllStored end
    one None m more q = cc
    one (Some next) m more q = more next (made_kept (body_at gate) store next g.content are.0.content h m) q

pub stored_is_kept : StoredIsKept
stored_is_kept image store stands = all_kept stands.header.format first_gate [] store stands.groups stands.makes.lawful tt stands.makes.made
