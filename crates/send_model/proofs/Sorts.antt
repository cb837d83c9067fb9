-- The four sorts of command: a head, END, a CLONE, and a plain edit, which looks at nothing but its
-- part's subvolume.
use Rattle.std.specs.Prelude.{◌≡◌, Bool, true, false, List, [], None, Some}
use Rattle.std.proofs.Common.{refl, ap, unwrap_or}
use Rattle.std.proofs.lemmas.Bool.{false≢true}
use Rattle.send_model.specs.Refusal.{NoSubvolume}
use Rattle.send_model.specs.Command.{Command, Subvol, Snapshot, Clone, End}
use Rattle.send_model.specs.Edit.{edit}
use Rattle.send_model.specs.Store.{Head, head_of, Store, Part, State, step, step_head, step_edit, edit_part, edited}
use Rattle.send_model.specs.Outside.{keys_named}
use Rattle.send_model.specs.Counts.{is_clone, is_end}

abbrev pub is_plain : Command → Bool
is_plain (Subvol uuid ctransid path) = false
is_plain (Snapshot uuid ctransid path clone_uuid clone_ctransid) = false
is_plain (Clone path offset clone_uuid clone_ctransid clone_path clone_offset clone_len) = false
is_plain End = false
is_plain _ = true

-- What holds of heads, of END, of clones and of plain edits holds of all commands.
pub by_sort : {P : Command → Type 0} → ((c : Command) (h : Head) → head_of c ≡ Some h → P c) → P End → ((c : Command) → is_clone c ≡ true → P c) → ((c : Command) → is_plain c ≡ true → P c) → (c : Command) → P c
by_sort head end clone plain (Subvol uuid ctransid path) = head (Subvol uuid ctransid path) _ refl
by_sort head end clone plain (Snapshot uuid ctransid path clone_uuid clone_ctransid) = head (Snapshot uuid ctransid path clone_uuid clone_ctransid) _ refl
by_sort head end clone plain (Clone path offset clone_uuid clone_ctransid clone_path clone_offset clone_len) = clone (Clone path offset clone_uuid clone_ctransid clone_path clone_offset clone_len) refl
by_sort head end clone plain End = end
by_sort head end clone plain c = plain c refl

-- A plain edit depends on nothing but the part's own subvolume.
pub plain_edit_part : {C : Type 0} (zero_cell : C) (put : List C) (store : Store C) (part : Part C) (c : Command) → is_plain c ≡ true → edit_part zero_cell put store part c ≡ edit zero_cell put c part.subvolume
unfolding edit_part
plain_edit_part zero_cell put store part (Subvol uuid ctransid path) h = absurd (false≢true h)
plain_edit_part zero_cell put store part (Snapshot uuid ctransid path clone_uuid clone_ctransid) h = absurd (false≢true h)
plain_edit_part zero_cell put store part (Clone path offset clone_uuid clone_ctransid clone_path clone_offset clone_len) h = absurd (false≢true h)
plain_edit_part zero_cell put store part End h = absurd (false≢true h)
plain_edit_part zero_cell put store part c h = refl

pub plain_step_edit : {C : Type 0} (zero_cell : C) (put : List C) (state : State C) (c : Command) → is_plain c ≡ true → step zero_cell put state c ≡ step_edit zero_cell put state c
unfolding step
plain_step_edit zero_cell put state (Subvol uuid ctransid path) h = absurd (false≢true h)
plain_step_edit zero_cell put state (Snapshot uuid ctransid path clone_uuid clone_ctransid) h = absurd (false≢true h)
plain_step_edit zero_cell put state (Clone path offset clone_uuid clone_ctransid clone_path clone_offset clone_len) h = absurd (false≢true h)
plain_step_edit zero_cell put state End h = absurd (false≢true h)
plain_step_edit zero_cell put state c h = refl

pub plain_step : {C : Type 0} (zero_cell : C) (put : List C) (store : Store C) (part : Part C) (c : Command) → is_plain c ≡ true → step zero_cell put (record { store = store; part = Some part }) c ≡ edited store part (edit zero_cell put c part.subvolume)
unfolding step_edit
plain_step zero_cell put store part c h = rw (plain_step_edit zero_cell put (record { store = store; part = Some part }) c h) (ap (edited store part) (plain_edit_part zero_cell put store part c h))

pub plain_step_without : {C : Type 0} (zero_cell : C) (put : List C) (store : Store C) (c : Command) → is_plain c ≡ true → (step zero_cell put (record { store = store; part = None }) c).refusal ≡ Some NoSubvolume
unfolding step_edit
plain_step_without zero_cell put store c h = rw (plain_step_edit zero_cell put (record { store = store; part = None }) c h) refl

pub same_inside : {A : Type 0} {x y : A} → Some x ≡ Some y → x ≡ y
same_inside {x = x} e = ap (λ o. unwrap_or o x) e

pub head_step : {C : Type 0} (zero_cell : C) (put : List C) (state : State C) (c : Command) (h : Head) → head_of c ≡ Some h → step zero_cell put state c ≡ step_head state h
unfolding step
head_step zero_cell put state (Subvol uuid ctransid path) h e = ap (step_head state) (same_inside e)
head_step zero_cell put state (Snapshot uuid ctransid path clone_uuid clone_ctransid) h e = ap (step_head state) (same_inside e)
head_step zero_cell put state c h e = cc

-- A plain edit is no head, names no key, and leaves the part's uuid.
pub plain_is_no_head : (c : Command) → is_plain c ≡ true → head_of c ≡ None
plain_is_no_head (Subvol uuid ctransid path) h = absurd (false≢true h)
plain_is_no_head (Snapshot uuid ctransid path clone_uuid clone_ctransid) h = absurd (false≢true h)
plain_is_no_head c h = refl

pub plain_names_nothing : (c : Command) → is_plain c ≡ true → keys_named c ≡ []
plain_names_nothing (Snapshot uuid ctransid path clone_uuid clone_ctransid) h = absurd (false≢true h)
plain_names_nothing (Clone path offset clone_uuid clone_ctransid clone_path clone_offset clone_len) h = absurd (false≢true h)
plain_names_nothing c h = refl

-- What is no head, no END and no clone is a plain edit.
pub plain_from : (c : Command) → is_clone c ≡ false → is_end c ≡ false → head_of c ≡ None → is_plain c ≡ true
plain_from (Subvol uuid ctransid path) clone end head = cc
plain_from (Snapshot uuid ctransid path clone_uuid clone_ctransid) clone end head = cc
plain_from (Clone path offset clone_uuid clone_ctransid clone_path clone_offset clone_len) clone end head = cc
plain_from End clone end head = cc
plain_from c clone end head = refl
