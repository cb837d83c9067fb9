-- What is due to squashing, and over which base.
use Rattle.std.specs.Prelude.{◌≡◌, ℕ, Bool, true, false, ◌||◌, List, [], ◌∷◌, Option, None, Some, is_some}
use Rattle.std.proofs.Common.{refl, sym, ap, subst, ◌∙◌}
use Rattle.send_model.specs.Command.{Command, Subvol, Snapshot, MkFile, MkDir, MkNod, MkFifo, MkSock, Symlink, Rename, Link, Unlink, Rmdir, SetXattr, RemoveXattr, Write, Clone, Truncate, Chmod, Chown, Utimes, End, UpdateExtent, Fallocate, FileAttr}
use Rattle.send_model.specs.Refusal.{NotConsecutive}
use Rattle.send_model.specs.Reading.{Item, Verdict, Whole}
use Rattle.send_model.specs.Store.{Head, Store, Stepped, head_of, step, step_edit}
use Rattle.send_model.specs.Receive.{byte_cells, first_of, start_of, verdict_of}
use Rattle.send_model.specs.Order.{heads, heads_of, onto_heads, commands_of, last_item, without_parts}
use Rattle.send_model.specs.Counts.{is_end}
use Rattle.send_model.specs.Outside.{part_uuids, store_without, base_of}
use Rattle.send_model.specs.Due.{Due, DoneWhole, Stop, AtEnd, AtFault, AtLimit, Limited, refused_due}
use Rattle.squash_model.specs.SquashJudge.{nothing_passed, passed_with, judge_one}
use Rattle.squash_model.specs.SquashDues.{own_uuids, own_base, verdict_or, stop_or, squash_due, DoneHasNoVerdict, DoneIsOverTheSameBase}
use Rattle.squash_model.proofs.Judged.{allowed, nothing_behind, no_head}

-- What is due where all is done.
record AllDone (judged : Option Verdict) (stop : Stop) (parts : Option Verdict) : Type 0 where
  judged_is : judged ≡ None
  stop_is : stop ≡ AtEnd
  parts_are : parts ≡ None

all_done : (judged : Option Verdict) (stop : Stop) (parts : Option Verdict) → verdict_or judged (stop_or stop (refused_due parts)) ≡ DoneWhole → AllDone judged stop parts
all_done None AtEnd None e = record { judged_is = refl; stop_is = refl; parts_are = refl }
all_done None AtEnd (Some verdict) e = cc
all_done None (AtFault verdict) parts e = cc
all_done None (AtLimit file) parts e = cc
all_done (Some verdict) stop parts e = cc

of_due : (base : Store ℕ) (read : Limited) → squash_due base read ≡ DoneWhole → AllDone (judge_one (start_of base) nothing_passed read.items) read.stop (without_parts read.items (heads read.items))
of_due base read e = all_done (judge_one (start_of base) nothing_passed read.items) read.stop (without_parts read.items (heads read.items)) e

pub done_has_no_verdict : DoneHasNoVerdict
done_has_no_verdict base read e =
    let all = of_due base read e in
    (all.stop_is, subst (λ (judged : Option Verdict). first_of judged (without_parts read.items (heads read.items)) ≡ None) (sym all.judged_is) all.parts_are)

-- Outside of a part nothing but a head is taken, and END.
outside_part : (base : Store ℕ) (item : Item) → (step 0 (byte_cells item) (start_of base) item.command).refusal ≡ None → head_of item.command ≡ None → is_end item.command ≡ true
unfolding step step_edit
outside_part base item = one item.command
  where
    one : (c : Command) → (step 0 (byte_cells item) (start_of base) c).refusal ≡ None → head_of c ≡ None → is_end c ≡ true
    one (Subvol uuid ctransid path) taken none = cc
    one (Snapshot uuid ctransid path clone_uuid clone_ctransid) taken none = cc
    one (MkFile path) taken none = cc
    one (MkDir path) taken none = cc
    one (MkNod mode rdev path) taken none = cc
    one (MkFifo path) taken none = cc
    one (MkSock path) taken none = cc
    one (Symlink path path_link) taken none = cc
    one (Rename path path_to) taken none = cc
    one (Link path path_link) taken none = cc
    one (Unlink path) taken none = cc
    one (Rmdir path) taken none = cc
    one (SetXattr name value path) taken none = cc
    one (RemoveXattr name path) taken none = cc
    one (Write path offset bytes) taken none = cc
    one (Clone path offset clone_uuid clone_ctransid clone_path clone_offset clone_len) taken none = cc
    one (Truncate size path) taken none = cc
    one (Chmod mode path) taken none = cc
    one (Chown uid gid path) taken none = cc
    one (Utimes mtime atime path) taken none = cc
    one End taken none = refl
    one (UpdateExtent size path offset) taken none = cc
    one (Fallocate size path offset mode) taken none = cc
    one (FileAttr path flags) taken none = cc

-- A lone command has a part where it is a head.
lone_head : (item : Item) → without_parts (item ∷ []) (heads (item ∷ [])) ≡ None → head_of item.command ≡ None → ⊥
unfolding heads_of
lone_head item parts none = never (subst (λ (o : Option Head). without_parts (item ∷ []) (onto_heads o []) ≡ None) none parts)
  where
    never : Some (verdict_of item NotConsecutive) ≡ None → ⊥
    never e = cc

-- The uuids of the parts are those of the first command where no other is a head.
same_uuids : (item : Item) (items : List Item) → heads items ≡ [] → own_uuids (item ∷ items) ≡ part_uuids (item ∷ items)
unfolding heads_of
same_uuids item items none = sym (ap (λ (hs : List Head). onto_uuids (onto_heads (head_of item.command) hs)) none)
  where
    onto_uuids : List Head → List (List ℕ)
    onto_uuids [] = []
    onto_uuids (h ∷ hs) = h.key.uuid ∷ onto_uuids hs

pub done_is_over_the_same_base : DoneIsOverTheSameBase
unfolding judge_one heads_of
done_is_over_the_same_base store read e =
    ap (λ (uuids : List (List ℕ)). store_without uuids store) (of_items read.items (of_due (own_base store read.items) read e).judged_is (of_due (own_base store read.items) read e).parts_are)
  where
    of_items : (items : List Item) → judge_one (start_of (own_base store read.items)) nothing_passed items ≡ None → without_parts items (heads items) ≡ None → own_uuids items ≡ part_uuids items
    of_items [] judged parts = refl
    of_items (item ∷ items) judged parts =
        let next : Stepped ℕ = step 0 (byte_cells item) (start_of (own_base store read.items)) item.command in
        let a = allowed item (start_of (own_base store read.items)) nothing_passed (judge_one next.state (passed_with nothing_passed item) items) judged in
        by (head_of item.command) refl (λ h. no_head items next.state (passed_with nothing_passed item) h a.later)
        (λ none. outside_part (own_base store read.items) item a.taken none) (λ closed. nothing_behind items next.state (passed_with nothing_passed item) closed a.later) parts
      where
        by : (o : Option Head) → head_of item.command ≡ o → (is_some (head_of item.command) ≡ true → heads items ≡ []) → (head_of item.command ≡ None → is_end item.command ≡ true) → (is_end item.command ≡ true → items ≡ []) → without_parts (item ∷ items) (heads (item ∷ items)) ≡ None → own_uuids (item ∷ items) ≡ part_uuids (item ∷ items)
        by (Some head) is none ends nothing alone = same_uuids item items (none (ap (λ (o : Option Head). is_some o) is))
        by None is none ends nothing alone =
            absurd (lone_head item (subst (λ (is : List Item). without_parts (item ∷ is) (heads (item ∷ is)) ≡ None) (nothing (ends is)) alone) is)
