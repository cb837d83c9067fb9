-- Whatever is received into a lawful store leaves a lawful one; and such a store is a base for the
-- headline.
use Rattle.std.specs.Prelude.{◌≡◌, ℕ, Bool, true, false, ◌||◌, not, List, [], ◌∷◌, ◌++◌, length, Option, None, Some, Result, Ok, Err, if◌then◌else◌}
use Rattle.std.specs.List.{AllByRecursion, list_any}
use Rattle.std.specs.Str.{bytes_eq}
use Rattle.std.proofs.Common.{refl, sym, ap, subst, ◌∙◌}
use Rattle.std.proofs.lemmas.Bool.{true≢false}
use Rattle.send_model.specs.Refusal.{Refusal, NoParent}
use Rattle.send_model.specs.Chain.{found}
use Rattle.send_model.specs.Attribute.{IsBytes}
use Rattle.send_model.specs.Command.{Command, Subvol, Snapshot, Clone, End, row}
use Rattle.send_model.specs.Spelling.{IsSpellable}
use Rattle.send_model.specs.Reading.{Item, input}
use Rattle.send_model.specs.Subvolume.{Subvolume}
use Rattle.send_model.specs.Store.{Key, same_key, Head, head_of, Entry, Store, IsStore, has_name, has_uuid, find, Part, State, Stepped, with_contents, completed, unfinished, begun, start_from, entered, step_head, clone_source, edit_part, edited, step_edit, step}
use Rattle.send_model.specs.Receive.{bytes_of, byte_cells, start_of, Ran, run_by, then_run, run_items, receive_items}
use Rattle.send_model.specs.Counts.{is_clone}
use Rattle.send_model.specs.Outside.{IsSayable, is_among, outside, base, part_uuids, store_without}
use Rattle.send_model.specs.Lawful.{HasSayable, IsLawfulEntry, IsLawfulStore, ReceivedIsLawful, FilesLeaveLawful, LawfulFindsSayable, LawfulStoresHold, LawfulAllSayable}
use Rattle.send_model.proofs.Sorts.{by_sort, is_plain, same_inside, head_step, plain_edit_part, plain_step_edit}
use Rattle.send_model.proofs.Fuel.{ok_same}
use Rattle.send_model.proofs.Stores.{or_parts}
use Rattle.send_model.proofs.Merging.{begun_begins}
use Rattle.send_model.proofs.MergingClones.{turned_false}
use Rattle.send_model.proofs.ElementLaws.{all_both}
use Rattle.send_model.proofs.Keeping.{all_filtered}
use Rattle.send_model.proofs.ReadCommands.{input_writable, AreWritable}
use Rattle.send_model.proofs.LawfulEdits.{edits_keep_sayable, clone_keeps_sayable, root_alone_is_sayable}
use Rattle.send_model.proofs.HeadlineLaw.{files_hold}

-- ---- entries

-- A subvolume that entries find can be said.
pub find_sayable : (store : Store ℕ) (key : Key) (s : Subvolume ℕ) → AllByRecursion IsLawfulEntry store → find store key ≡ Some s → IsSayable s
unfolding find
find_sayable [] key s all f = cc
find_sayable (e ∷ store) key s all f = one (same_key e.key key) (λ q. find_sayable store key s all.1 q) f
  where
    two : (o : Option (Subvolume ℕ)) → HasSayable o → (find store key ≡ Some s → IsSayable s) → (elim o as (λ x. Option (Subvolume ℕ)) [ None ↦ find store key | Some t ↦ Some t ]) ≡ Some s → IsSayable s
    two None h more q = more q
    two (Some t) h more q = subst (λ (u : Subvolume ℕ). IsSayable u) (same_inside q) h

    one : (b : Bool) → (find store key ≡ Some s → IsSayable s) → (if b then elim e.contents as (λ x. Option (Subvolume ℕ)) [ None ↦ find store key | Some t ↦ Some t ] else find store key) ≡ Some s → IsSayable s
    one true more q = two e.contents all.0.contents more q
    one false more q = more q

-- Contents change neither names nor uuids.
pub same_entries : (test : Entry (Subvolume ℕ) → Bool) → ((e : Entry (Subvolume ℕ)) (o : Option (Subvolume ℕ)) → test (record e { contents = o }) ≡ test e) → (uuid : List ℕ) (s : Subvolume ℕ) (store : Store ℕ) → list_any test (with_contents uuid s store) ≡ list_any test store
unfolding with_contents
same_entries test same uuid s [] = refl
same_entries test same uuid s (e ∷ store) = one (bytes_eq e.key.uuid uuid) (same_entries test same uuid s store)
  where
    one : (b : Bool) → list_any test (with_contents uuid s store) ≡ list_any test store → list_any test (if b then record e { contents = Some s } ∷ store else e ∷ with_contents uuid s store) ≡ list_any test (e ∷ store)
    one true more = ap (λ (b : Bool). b || list_any test store) (same e (Some s))
    one false more = ap (λ (b : Bool). test e || b) more

distinct_contents : (uuid : List ℕ) (s : Subvolume ℕ) (store : Store ℕ) → IsStore store → IsStore (with_contents uuid s store)
unfolding with_contents
distinct_contents uuid s [] h = tt
distinct_contents uuid s (e ∷ store) h = one (bytes_eq e.key.uuid uuid) (distinct_contents uuid s store h.2)
  where
    one : (b : Bool) → IsStore (with_contents uuid s store) → IsStore (if b then record e { contents = Some s } ∷ store else e ∷ with_contents uuid s store)
    one true more = h
    one false more = (same_entries (λ x. bytes_eq x.name e.name) (λ x o. refl) uuid s store ∙ h.0, same_entries (λ x. bytes_eq x.key.uuid e.key.uuid) (λ x o. refl) uuid s store ∙ h.1, more)

entries_contents : (uuid : List ℕ) (s : Subvolume ℕ) (store : Store ℕ) → IsSayable s → AllByRecursion IsLawfulEntry store → AllByRecursion IsLawfulEntry (with_contents uuid s store)
unfolding with_contents
entries_contents uuid s [] h all = tt
entries_contents uuid s (e ∷ store) h all = one (bytes_eq e.key.uuid uuid) (entries_contents uuid s store h all.1)
  where
    one : (b : Bool) → AllByRecursion IsLawfulEntry (with_contents uuid s store) → AllByRecursion IsLawfulEntry (if b then record e { contents = Some s } ∷ store else e ∷ with_contents uuid s store)
    one true more = (record { name = all.0.name; uuid = all.0.uuid; contents = h }, all.1)
    one false more = (all.0, more)

-- One entry more, of a new name and a new uuid.
pub none_last : (test : Entry (Subvolume ℕ) → Bool) (store : Store ℕ) (last : Entry (Subvolume ℕ)) → list_any test store ≡ false → test last ≡ false → list_any test (store ++ last ∷ []) ≡ false
none_last test [] last none own = ap (λ (b : Bool). b || false) own
none_last test (e ∷ store) last none own =
    let p = or_parts (test e) (list_any test store) none in
    ap (λ (b : Bool). b || list_any test (store ++ last ∷ [])) p.0 ∙ none_last test store last p.1 own

distinct_last : (store : Store ℕ) (last : Entry (Subvolume ℕ)) → IsStore store → has_name last.name store ≡ false → has_uuid last.key.uuid store ≡ false → IsStore (store ++ last ∷ [])
distinct_last [] last h n u = (refl, refl, tt)
distinct_last (e ∷ store) last h n u =
    let a = or_parts (bytes_eq e.name last.name) (has_name last.name store) n in
    let b = or_parts (bytes_eq e.key.uuid last.key.uuid) (has_uuid last.key.uuid store) u in (
      none_last (λ x. bytes_eq x.name e.name) store last h.0 (turned_false e.name last.name a.0),
      none_last (λ x. bytes_eq x.key.uuid e.key.uuid) store last h.1 (turned_false e.key.uuid last.key.uuid b.0),
      distinct_last store last h.2 a.1 b.1,
    )

-- ---- states

abbrev pub PartSayable : Option (Part ℕ) → Type 0
PartSayable None = Unit {0}
PartSayable (Some part) = IsSayable part.subvolume

pub record IsLawfulState (state : State ℕ) : Type 0 where
  pub store : IsLawfulStore state.store
  pub part : PartSayable state.part

pub completed_lawful : (store : Store ℕ) (part : Option (Part ℕ)) → IsLawfulStore store → PartSayable part → IsLawfulStore (completed (record { store = store; part = part }))
unfolding completed
completed_lawful store None h p = h
completed_lawful store (Some part) h p = record { distinct = distinct_contents part.key.uuid part.subvolume store h.distinct; entries = entries_contents part.key.uuid part.subvolume store p h.entries }

-- ---- steps

pub started : (store : Store ℕ) (parent : Option Key) (start : Subvolume ℕ) → IsLawfulStore store → start_from store parent ≡ Ok start → IsSayable start
started store None start h e = subst (λ (s : Subvolume ℕ). IsSayable s) (ok_same e) root_alone_is_sayable
started store (Some parent) start h e = one (find store parent) refl e
  where
    one : (o : Option (Subvolume ℕ)) → find store parent ≡ o → found o NoParent ≡ Ok start → IsSayable start
    one None f q = cc
    one (Some s) f q = subst (λ (u : Subvolume ℕ). IsSayable u) (ok_same q) (find_sayable store parent s h.entries f)

-- The uuid of a head that a version can say.
pub head_uuid_fits : (version : ℕ) (c : Command) (head : Head) → head_of c ≡ Some head → IsSpellable version c → (length head.key.uuid ≡ 16) × IsBytes head.key.uuid
unfolding row
head_uuid_fits version (Subvol uuid ctransid path) head e s = let v = s.values in subst (λ (h : Head). (length h.key.uuid ≡ 16) × IsBytes h.key.uuid) (same_inside e) v.0
head_uuid_fits version (Snapshot uuid ctransid path clone_uuid clone_ctransid) head e s = let v = s.values in subst (λ (h : Head). (length h.key.uuid ≡ 16) × IsBytes h.key.uuid) (same_inside e) v.0
head_uuid_fits version c head e s = cc

entered_lawful : (store : Store ℕ) (head : Head) (r : Result (Subvolume ℕ) Refusal) → begun store head ≡ r → IsLawfulStore store → (length head.key.uuid ≡ 16) × IsBytes head.key.uuid → IsLawfulState (entered store head r).state
entered_lawful store head (Err refusal) e h fits = record { store = h; part = tt }
entered_lawful store head (Ok start) e h fits =
    let b = begun_begins store head start e in
    record {
      store = record {
        distinct = distinct_last store (unfinished head) h.distinct b.new_name b.new_uuid;
        entries = all_both IsLawfulEntry store (unfinished head ∷ []) h.entries (record { name = b.named; uuid = fits; contents = tt }, tt);
      };
      part = started store head.parent start h b.from;
    }

edited_lawful : (store : Store ℕ) (part : Part ℕ) (r : Result (Subvolume ℕ) Refusal) → IsLawfulStore store → IsSayable part.subvolume → ((s : Subvolume ℕ) → r ≡ Ok s → IsSayable s) → IsLawfulState (edited store part r).state
edited_lawful store part (Err refusal) h own f = record { store = h; part = own }
edited_lawful store part (Ok s) h own f = record { store = h; part = f s refl }

-- The source of a clone can be said.
source_sayable : (store : Store ℕ) (part : Part ℕ) (key : Key) (u : Subvolume ℕ) → IsLawfulStore store → IsSayable part.subvolume → clone_source store part key ≡ Some u → IsSayable u
source_sayable store part key u h own e = one (bytes_eq key.uuid part.key.uuid) e
  where
    one : (b : Bool) → (if b then Some part.subvolume else find store key) ≡ Some u → IsSayable u
    one true q = subst (λ (s : Subvolume ℕ). IsSayable s) (same_inside q) own
    one false q = find_sayable store key u h.entries q

abbrev pub StepsLawfully : Command → Type 0
StepsLawfully c = (version : ℕ) (store : Store ℕ) (part : Option (Part ℕ)) → IsSpellable version c → IsLawfulStore store → PartSayable part → IsLawfulState (step 0 (bytes_of c) (record { store = store; part = part }) c).state

end_lawful : StepsLawfully End
unfolding step
end_lawful version store part s h p = record { store = completed_lawful store part h p; part = tt }

head_lawful : (c : Command) (head : Head) → head_of c ≡ Some head → StepsLawfully c
unfolding step_head
head_lawful c head e version store part s h p =
    let state : State ℕ = record { store = store; part = part } in
    subst (λ (x : Stepped ℕ). IsLawfulState x.state) (sym (head_step 0 (bytes_of c) state c head e))
    (entered_lawful (completed state) head (begun (completed state) head) refl (completed_lawful store part h p) (head_uuid_fits version c head e s))

plain_lawful : (c : Command) → is_plain c ≡ true → StepsLawfully c
unfolding step_edit
plain_lawful c e version store None s h p = subst (λ (x : Stepped ℕ). IsLawfulState x.state) (sym (plain_step_edit 0 (bytes_of c) (record { store = store; part = None }) c e)) (record { store = h; part = tt })
plain_lawful c e version store (Some part) s h p =
    subst (λ (x : Stepped ℕ). IsLawfulState x.state) (sym (plain_step_edit 0 (bytes_of c) (record { store = store; part = Some part }) c e))
    (edited_lawful store part (edit_part 0 (bytes_of c) store part c) h p
    (λ t made. edits_keep_sayable version c part.subvolume t s p (sym (plain_edit_part 0 (bytes_of c) store part c e) ∙ made)))

clone_lawful : (c : Command) → is_clone c ≡ true → StepsLawfully c
unfolding step step_edit edit_part
clone_lawful (Clone path offset uuid ctransid clone_path from len) e version store None s h p = record { store = h; part = tt }
clone_lawful (Clone path offset uuid ctransid clone_path from len) e version store (Some part) s h p =
    let key : Key = record { uuid = uuid; ctransid = ctransid } in
    edited_lawful store part (edit_part 0 [] store part (Clone path offset uuid ctransid clone_path from len)) h p
    (λ t made. clone_keeps_sayable part.subvolume (clone_source store part key) (bytes_eq uuid part.key.uuid) path offset clone_path from len t p (λ u is. source_sayable store part key u h p is) made)
clone_lawful c e version store part s h p = absurd (true≢false (sym e))

pub step_lawful : (c : Command) → StepsLawfully c
step_lawful c = by_sort {P = λ c. StepsLawfully c} head_lawful end_lawful clone_lawful plain_lawful c

-- ---- runs

ran_lawful : (item : Item) (state : State ℕ) (o : Option Refusal) (rest : Ran (State ℕ)) → IsLawfulState state → IsLawfulState rest.state → IsLawfulState (then_run item (record { state = state; refusal = o }) rest).state
ran_lawful item state None rest h more = more
ran_lawful item state (Some refusal) rest h more = h

pub run_lawful : (items : List Item) (state : State ℕ) → AllByRecursion (λ item. IsSpellable item.version item.command) items → IsLawfulState state → IsLawfulState (run_items 0 byte_cells state items).state
unfolding run_items run_by
run_lawful [] state s h = h
run_lawful (item ∷ items) state s h =
    let after : Stepped ℕ = step 0 (bytes_of item.command) state item.command in
    let next = step_lawful item.command item.version state.store state.part s.0 h.store h.part in
    ran_lawful item after.state after.refusal (run_items 0 byte_cells after.state items) next (run_lawful items after.state s.1 next)

pub received_is_lawful : ReceivedIsLawful
received_is_lawful store items h s =
    let end = run_lawful items (start_of store) s (record { store = h; part = tt }) in
    let state : State ℕ = (run_items 0 byte_cells (start_of store) items).state in
    (completed_lawful state.store state.part end.store end.part, end.store)

pub items_spelled_as : (items : List Item) → AreWritable items → AllByRecursion (λ item. IsSpellable item.version item.command) items
items_spelled_as [] w = tt
items_spelled_as (item ∷ items) w = (w.0.0.spellable, items_spelled_as items w.1)

pub files_leave_lawful : FilesLeaveLawful
unfolding receive_items
files_leave_lawful store files h bytes = received_is_lawful store (input files).items h (items_spelled_as (input files).items (input_writable files bytes))

pub lawful_finds_sayable : LawfulFindsSayable
lawful_finds_sayable store files keys h k s among f = find_sayable (base store files) k s (all_filtered IsLawfulEntry (λ e. not (is_among (part_uuids (input files).items) e.key.uuid)) store h.entries) f

pub lawful_all_sayable : LawfulAllSayable
lawful_all_sayable store h = (
  λ key s f. find_sayable store key s h.entries f,
  λ uuids key s f. find_sayable (store_without uuids store) key s (all_filtered IsLawfulEntry (λ e. not (is_among uuids e.key.uuid)) store h.entries) f,
)

pub lawful_stores_hold : LawfulStoresHold
lawful_stores_hold store files h bytes whole consecutive accepted = files_hold store files bytes whole consecutive accepted (lawful_finds_sayable store files (outside files) h)
