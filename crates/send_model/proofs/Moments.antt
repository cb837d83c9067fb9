-- The times of inodes can be said wherever commands lead that can be said.
use Rattle.std.specs.Prelude.{◌≡◌, ℕ, Bool, true, List, [], ◌∷◌, Option, None, Some, Result, Ok, Err}
use Rattle.std.specs.List.{AllByRecursion}
use Rattle.std.specs.Ordering.{nat_cmp}
use Rattle.std.specs.Str.{bytes_eq}
use Rattle.std.proofs.Common.{refl, sym, subst, ◌∙◌, lit<, ⊎_elim}
use Rattle.std.proofs.lemmas.Bool.{true≢false}
use Rattle.send_model.specs.Refusal.{Refusal, NoParent}
use Rattle.send_model.specs.Chain.{found}
use Rattle.send_model.specs.Attribute.{Time}
use Rattle.send_model.specs.Command.{Command, Clone, Utimes, End, row}
use Rattle.send_model.specs.Spelling.{IsSpellable}
use Rattle.send_model.specs.Subvolume.{Inode, Subvolume, root, epoch, inode_at, root_alone}
use Rattle.send_model.specs.Edit.{edit}
use Rattle.send_model.specs.Clone.{clone, clone_values}
use Rattle.send_model.specs.Store.{Key, Head, head_of, Store, Part, State, Stepped, find, completed, begun, start_from, entered, step_head, clone_source, edit_part, edited, step_edit, step}
use Rattle.send_model.specs.Reading.{Item, input}
use Rattle.send_model.specs.Receive.{bytes_of, byte_cells, start_of, Ran, run_by, then_run, run_items, receive_items}
use Rattle.send_model.specs.Counts.{is_clone}
use Rattle.send_model.specs.Separated.{mtime_of_root, atime_of_root}
use Rattle.send_model.specs.Exported.{IsMoment, HasTimes, ReceivedCanExport}
use Rattle.send_model.proofs.Sorts.{by_sort, is_plain, head_step, plain_edit_part, plain_step_edit}
use Rattle.send_model.proofs.Fuel.{ok_same}
use Rattle.send_model.proofs.Stores.{finds_one_of, finds_unfinished}
use Rattle.send_model.proofs.Runs.{step_of}
use Rattle.send_model.proofs.Merging.{begun_begins}
use Rattle.send_model.proofs.ReadCommands.{input_writable}
use Rattle.send_model.proofs.LawfulStores.{items_spelled_as, files_leave_lawful}
use Rattle.send_model.proofs.Keeping.{all_found, KeepsInodes, edit_keeps, clone_keeps}
use Rattle.send_model.proofs.SameStores.{state_of}

-- ---- one subvolume

abbrev AnyName : List ℕ → Type 0
AnyName name = Unit {0}

abbrev HasMoments : Inode ℕ → Type 0
HasMoments inode = IsMoment inode.mtime × IsMoment inode.atime

all_any : {A : Type 0} (xs : List A) → AllByRecursion (λ x. Unit {0}) xs
all_any [] = tt
all_any (x ∷ xs) = (tt, all_any xs)

epoch_said : IsMoment epoch
epoch_said = (lit< tt, lit< tt)

set_said : (version : ℕ) (mtime atime : Time) (path : List ℕ) → IsSpellable version (Utimes mtime atime path) → IsMoment mtime × IsMoment atime
unfolding row
set_said version mtime atime path s = let v = s.values in (v.0, v.1.0)

times_kept : (version : ℕ) (put : List ℕ) (c : Command) → IsSpellable version c → KeepsInodes AnyName HasMoments 0 put c
times_kept version put c s = record {
  made = λ kind mode rdev target. (epoch_said, epoch_said);
  xattr_set = λ name value inode h. h;
  xattr_removed = λ name inode h. h;
  written = λ offset inode fits h. h;
  cut = λ size inode fits h. h;
  allocated = λ allocation offset size inode fits h. h;
  mode_set = λ mode inode h. h;
  owner_set = λ uid gid inode h. h;
  times_set = λ mtime atime path is inode h. set_said version mtime atime path (subst (λ (x : Command). IsSpellable version x) is s);
  flags_set = λ flags inode h. h;
}

edit_times : (version : ℕ) (c : Command) (s t : Subvolume ℕ) → IsSpellable version c → HasTimes s → edit 0 (bytes_of c) c s ≡ Ok t → HasTimes t
edit_times version c s t spelled h e =
    let k = edit_keeps AnyName HasMoments 0 (bytes_of c) c s t (times_kept version (bytes_of c) c spelled) (λ names q. all_any names) (record { names = all_any s.names; inodes = h }) e in
    k.inodes

clone_times : (s : Subvolume ℕ) (source : Option (Subvolume ℕ)) (is_own : Bool) (path : List ℕ) (offset : ℕ) (clone_path : List ℕ) (from len : ℕ) (t : Subvolume ℕ)
    → HasTimes s
    → clone 0 s source is_own (clone_values path offset clone_path from len) ≡ Ok t → HasTimes t
clone_times s source is_own path offset clone_path from len t h e =
    let k = clone_keeps AnyName HasMoments 0 s source is_own path offset clone_path from len t (λ range is inode own. own) (record { names = all_any s.names; inodes = h }) e in
    k.inodes

alone_times : HasTimes root_alone
unfolding root_alone
alone_times = ((epoch_said, epoch_said), tt)

-- The times of the root.
pub root_said : (s : Subvolume ℕ) → HasTimes s → IsMoment (mtime_of_root s) × IsMoment (atime_of_root s)
root_said s h = one (inode_at s root) refl
  where
    one : (o : Option (Inode ℕ)) → inode_at s root ≡ o
        → IsMoment (elim o as (λ x. Time) [ None ↦ epoch | Some inode ↦ inode.mtime ]) × IsMoment (elim o as (λ x. Time) [ None ↦ epoch | Some inode ↦ inode.atime ])
    one None e = (epoch_said, epoch_said)
    one (Some inode) e = all_found nat_cmp HasMoments root inode s.inodes h e

-- ---- states

abbrev pub FindsTimes : Store ℕ → Type 0
FindsTimes store = (key : Key) (s : Subvolume ℕ) → find store key ≡ Some s → HasTimes s

abbrev pub PartTimes : Option (Part ℕ) → Type 0
PartTimes None = Unit {0}
PartTimes (Some part) = HasTimes part.subvolume

pub record IsTimed (state : State ℕ) : Type 0 where
  pub store : FindsTimes state.store
  pub part : PartTimes state.part

completed_timed : (store : Store ℕ) (part : Option (Part ℕ)) → FindsTimes store → PartTimes part → FindsTimes (completed (state_of store part))
unfolding completed
completed_timed store None h p key t e = h key t e
completed_timed store (Some part) h p key t e =
    ⊎_elim (λ same. subst (λ (s : Subvolume ℕ). HasTimes s) (sym same) p) (λ f. h key t f) (finds_one_of part.key.uuid part.subvolume store key t e)

started_timed : (store : Store ℕ) (parent : Option Key) (start : Subvolume ℕ) → FindsTimes store → start_from store parent ≡ Ok start → HasTimes start
started_timed store None start h e = subst (λ (s : Subvolume ℕ). HasTimes s) (ok_same e) alone_times
started_timed store (Some parent) start h e = one (find store parent) refl e
  where
    one : (o : Option (Subvolume ℕ)) → find store parent ≡ o → found o NoParent ≡ Ok start → HasTimes start
    one None f q = cc
    one (Some s) f q = subst (λ (u : Subvolume ℕ). HasTimes u) (ok_same q) (h parent s f)

entered_timed : (store : Store ℕ) (head : Head) (r : Result (Subvolume ℕ) Refusal) → begun store head ≡ r → FindsTimes store
    → IsTimed (entered store head r).state
entered_timed store head (Err refusal) e h = record { store = h; part = tt }
entered_timed store head (Ok start) e h =
    let b = begun_begins store head start e in
    record { store = λ key t f. h key t (sym (finds_unfinished head store key) ∙ f); part = started_timed store head.parent start h b.from }

edited_timed : (store : Store ℕ) (part : Part ℕ) (r : Result (Subvolume ℕ) Refusal) → FindsTimes store → HasTimes part.subvolume
    → ((s : Subvolume ℕ) → r ≡ Ok s → HasTimes s) → IsTimed (edited store part r).state
edited_timed store part (Err refusal) h own f = record { store = h; part = own }
edited_timed store part (Ok s) h own f = record { store = h; part = f s refl }

abbrev StepsTimely : Command → Type 0
StepsTimely c = (version : ℕ) (store : Store ℕ) (part : Option (Part ℕ)) → IsSpellable version c → FindsTimes store → PartTimes part → IsTimed (step_of (state_of store part) c).state

end_timed : StepsTimely End
unfolding step
end_timed version store part s h p = record { store = completed_timed store part h p; part = tt }

head_timed : (c : Command) (head : Head) → head_of c ≡ Some head → StepsTimely c
unfolding step_head
head_timed c head e version store part s h p =
    let state : State ℕ = state_of store part in
    subst (λ (x : Stepped ℕ). IsTimed x.state) (sym (head_step 0 (bytes_of c) state c head e))
    (entered_timed (completed state) head (begun (completed state) head) refl (completed_timed store part h p))

plain_timed : (c : Command) → is_plain c ≡ true → StepsTimely c
unfolding step_edit
plain_timed c e version store None s h p = subst (λ (x : Stepped ℕ). IsTimed x.state) (sym (plain_step_edit 0 (bytes_of c) (state_of store None) c e)) (record { store = h; part = tt })
plain_timed c e version store (Some part) s h p =
    subst (λ (x : Stepped ℕ). IsTimed x.state) (sym (plain_step_edit 0 (bytes_of c) (state_of store (Some part)) c e))
    (edited_timed store part (edit_part 0 (bytes_of c) store part c) h p
    (λ t made. edit_times version c part.subvolume t s p (sym (plain_edit_part 0 (bytes_of c) store part c e) ∙ made)))

clone_timed : (c : Command) → is_clone c ≡ true → StepsTimely c
unfolding step step_edit edit_part
clone_timed (Clone path offset uuid ctransid clone_path from len) e version store None s h p = record { store = h; part = tt }
clone_timed (Clone path offset uuid ctransid clone_path from len) e version store (Some part) s h p =
    let key : Key = record { uuid = uuid; ctransid = ctransid } in
    edited_timed store part (edit_part 0 [] store part (Clone path offset uuid ctransid clone_path from len)) h p
    (λ t made. clone_times part.subvolume (clone_source store part key) (bytes_eq uuid part.key.uuid) path offset clone_path from len t p made)
clone_timed c e version store part s h p = absurd (true≢false (sym e))

pub step_timed : (version : ℕ) (c : Command) (state : State ℕ) → IsSpellable version c → IsTimed state → IsTimed (step_of state c).state
step_timed version c state s t = by_sort {P = λ x. StepsTimely x} head_timed end_timed clone_timed plain_timed c version state.store state.part s t.store t.part

-- ---- runs

ran_timed : (item : Item) (state : State ℕ) (o : Option Refusal) (rest : Ran (State ℕ)) → IsTimed state → IsTimed rest.state
    → IsTimed (then_run item (record { state = state; refusal = o }) rest).state
ran_timed item state None rest t more = more
ran_timed item state (Some refusal) rest t more = t

run_timed : (items : List Item) (state : State ℕ) → AllByRecursion (λ item. IsSpellable item.version item.command) items → IsTimed state
    → IsTimed (run_items 0 byte_cells state items).state
unfolding run_items run_by
run_timed [] state s t = t
run_timed (item ∷ items) state s t =
    let after : Stepped ℕ = step_of state item.command in
    let next = step_timed item.version item.command state s.0 t in
    ran_timed item after.state after.refusal (run_items 0 byte_cells after.state items) next (run_timed items after.state s.1 next)

pub received_can_export : ReceivedCanExport
unfolding receive_items
received_can_export store files can bytes =
    let items : List Item = (input files).items in
    let state : State ℕ = (run_items 0 byte_cells (start_of store) items).state in
    let end = run_timed items (start_of store) (items_spelled_as items (input_writable files bytes)) (record { store = can.times; part = tt }) in
    record { lawful = (files_leave_lawful store files can.lawful bytes).0; times = completed_timed state.store state.part end.store end.part }
