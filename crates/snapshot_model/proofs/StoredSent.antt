-- Each complete subvolume of what an image stands for can be sent and restored; and one answer is
-- due.
use Rattle.std.specs.Prelude.{◌≡◌, ◌⊎◌, ℕ, Bool, true, false, List, [], ◌∷◌, Option, None, Some, IfSome, if◌then◌else◌}
use Rattle.std.specs.List.{AllByRecursion}
use Rattle.std.specs.Str.{bytes_eq}
use Rattle.std.proofs.Common.{refl, sym, ap, subst, ◌∙◌, inl, inr}
use Rattle.send_model.specs.Due.{DoneWhole}
use Rattle.send_model.specs.Subvolume.{Subvolume}
use Rattle.send_model.specs.Store.{Entry, Store}
use Rattle.send_model.specs.Cells.{recelled_store}
use Rattle.store_model.specs.Stored.{StandsFor, StandsForNone}
use Rattle.store_model.specs.Dues.{Due, Ends, NotStore, Missing, LogFull, StoreThere, Damaged, complete_named}
use Rattle.store_model.specs.Answers.{answer_of}
use Rattle.snapshot_model.specs.Listing.{byte_of}
use Rattle.snapshot_model.specs.HeldStores.{StandsHeld, Form, formed, IsSendDue, SendSays}
use Rattle.snapshot_model.specs.SentLaws.{IsKept, CanBeTold}
use Rattle.snapshot_model.specs.StoredLaws.{IsStored, SentOfStores, RestoredOfStores, OneSendDue, EachSendIsDue, SendIsAnswered}
use Rattle.send_model.proofs.Sorts.{same_inside}
use Rattle.store_model.proofs.OneStore.{never_both, one_fault_group}
use Rattle.store_model.proofs.Decided.{image_decided}
use Rattle.snapshot_model.proofs.SentReceived.{sent_stream_is_received}
use Rattle.snapshot_model.proofs.RestoredReceived.{restored_stream_is_received}
use Rattle.snapshot_model.proofs.SentTold.{kept_is_sendable}
use Rattle.snapshot_model.proofs.Holes.{held_are_bytes, bytes_are_held, image_is_one_held}
use Rattle.snapshot_model.proofs.StoredKept.{stored_is_kept}

abbrev Cell : Type 0
Cell = Option ℕ

abbrev Found : Type 0
Found = Entry (Subvolume Cell) × Subvolume Cell

record IsThere (found : Found) : Type 0 where
  entry : IsStored found.0
  contents : IsKept found.1

-- The complete subvolume of a name is one of the entries.
found_there : (name : List ℕ) (store : Store Cell) (found : Found) → AllByRecursion IsStored store → complete_named name store ≡ Some found → IsThere found
unfolding complete_named
found_there name [] found all is = cc
found_there name (e ∷ store) found all is = one (bytes_eq e.name name) (λ q. found_there name store found all.1 q) is
  where
    two : (o : Option (Subvolume Cell)) → IfSome o IsKept → (elim o as (λ x. Option Found) [ None ↦ None | Some s ↦ Some (e, s) ]) ≡ Some found → IsThere found
    two None h q = cc
    two (Some s) h q = subst (λ (f : Found). IsThere f) (same_inside q) (record { entry = all.0; contents = h })

    one : (b : Bool) → (complete_named name store ≡ Some found → IsThere found)
        → (if b then elim e.contents as (λ x. Option Found) [ None ↦ None | Some s ↦ Some (e, s) ] else complete_named name store) ≡ Some found → IsThere found
    one true more q = two e.contents all.0.contents q
    one false more q = more q

told : (found : Found) → IsThere found → CanBeTold found.0.name found.0.key found.1
told found h = record { uuid = h.entry.uuid; ctransid = h.entry.ctransid; name_told = h.entry.name_told; inodes = h.contents.told; names = h.contents.names }

pub sent_of_stores : SentOfStores
sent_of_stores image name store found other stands is new =
    let h = found_there name store found (stored_is_kept image store stands) is in
    sent_stream_is_received found.0.name found.0.key found.1 other (kept_is_sendable found.1 h.contents) h.entry.name (told found h) new

pub restored_of_stores : RestoredOfStores
restored_of_stores image name store found other stands is new =
    let h = found_there name store found (stored_is_kept image store stands) is in
    restored_stream_is_received found.0.name found.0.key found.1 other (kept_is_sendable found.1 h.contents) h.contents.numbers.next h.entry.name (told found h) new

-- ---- one answer

none_stands : (image : List ℕ) (store : Store Cell) (group : ℕ) → StandsHeld image store → StandsForNone image group → ⊥
none_stands image store group stands none = never_both image (recelled_store byte_of store) group (held_are_bytes image store stands) none

-- Which answer is due.
data View (form : Form) (image name : List ℕ) (due : Due) (written : List ℕ) : Type 0 where
  IsDone : (store : Store Cell) → StandsHeld image store → (found : Found) → complete_named name store ≡ Some found → due ≡ Ends DoneWhole → written ≡ formed form (Some found) → View form image name due written
  IsMissing : (store : Store Cell) → StandsHeld image store → complete_named name store ≡ None → due ≡ Missing name → written ≡ [] → View form image name due written
  IsNone : (group : ℕ) → StandsForNone image group → due ≡ NotStore group → written ≡ [] → View form image name due written

view : (form : Form) (image name : List ℕ) (due : Due) (written : List ℕ) → IsSendDue form image name due written → View form image name due written
view form image name (Ends due) written h = IsDone h.1.0 h.1.1 h.1.2.0 h.1.2.1 (ap Ends h.0) h.1.2.2
view form image name (Missing what) written h = IsMissing h.2.0 h.2.1 h.2.2 (ap Missing h.0) h.1
view form image name (NotStore group) written h = IsNone group h.1 refl h.0
view form image name (LogFull end wanted limit) written h = absurd h
view form image name (StoreThere size) written h = absurd h
view form image name (Damaged group stored computed) written h = absurd h

pub one_send_due : OneSendDue
one_send_due form image name due other written output left right = one (view form image name due written left) (view form image name other output right)
  where
    moved : (s t : Store Cell) (o : Option Found) → StandsHeld image s → StandsHeld image t → complete_named name s ≡ o → complete_named name t ≡ o
    moved s t o a b is = subst (λ (x : Store Cell). complete_named name x ≡ o) (image_is_one_held image s t a b) is

    one : View form image name due written → View form image name other output → (due ≡ other) × (written ≡ output)
    one (IsDone s a f is d w) (IsDone t b g as_is e v) = (d ∙ sym e, w ∙ ap (λ (o : Option Found). formed form o) (sym (moved s t (Some f) a b is) ∙ as_is) ∙ sym v)
    one (IsDone s a f is d w) (IsMissing t b none e v) = let there = moved s t (Some f) a b is in cc (there, none)
    one (IsDone s a f is d w) (IsNone group none e v) = absurd (none_stands image s group a none)
    one (IsMissing s a none d w) (IsDone t b g is e v) = let there = moved t s (Some g) b a is in cc (there, none)
    one (IsMissing s a none d w) (IsMissing t b none' e v) = (d ∙ sym e, w ∙ sym v)
    one (IsMissing s a none d w) (IsNone group none' e v) = absurd (none_stands image s group a none')
    one (IsNone group none d w) (IsDone t b g is e v) = absurd (none_stands image t group b none)
    one (IsNone group none d w) (IsMissing t b none' e v) = absurd (none_stands image t group b none)
    one (IsNone group none d w) (IsNone more none' e v) = (d ∙ ap NotStore (one_fault_group image group more none none') ∙ sym e, w ∙ sym v)

pub each_send_is_due : EachSendIsDue
each_send_is_due form image name bytes = one (image_decided image bytes)
  where
    two : (store : Store Cell) → StandsHeld image store → (o : Option Found) → complete_named name store ≡ o → (due : Due) × (written : List ℕ) × IsSendDue form image name due written
    two store stands None is = (Missing name, [], (refl, refl, (store, stands, is)))
    two store stands (Some found) is = (Ends DoneWhole, formed form (Some found), (refl, (store, stands, (found, is, refl))))

    one : (((store : Store ℕ) × StandsFor image store) ⊎ ((group : ℕ) × StandsForNone image group)) → (due : Due) × (written : List ℕ) × IsSendDue form image name due written
    one (inl stands) = let h = bytes_are_held image stands.0 stands.1 in two h.0 h.1 (complete_named name h.0) refl
    one (inr none) = (NotStore none.0, [], (refl, none.1))

pub send_is_answered : SendIsAnswered
send_is_answered form image name (Ends due) written h = subst (λ (d : _). SendSays form image name (answer_of (Ends d)) written) (sym h.0) (refl, h.1)
send_is_answered form image name (Missing what) written h = h
send_is_answered form image name (NotStore group) written h = h
send_is_answered form image name (LogFull end wanted limit) written h = absurd h
send_is_answered form image name (StoreThere size) written h = absurd h
send_is_answered form image name (Damaged group stored computed) written h = absurd h
