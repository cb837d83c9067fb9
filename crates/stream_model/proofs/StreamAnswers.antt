-- One answer is due, there is one for each image of bytes, and it is answered as it says.
use Rattle.std.specs.Prelude.{◌≡◌, ◌⊎◌, ℕ, List, [], Option, None, Some}
use Rattle.std.proofs.Common.{refl, sym, ap, subst, ◌∙◌, inl, inr}
use Rattle.send_model.specs.Due.{DoneWhole}
use Rattle.send_model.specs.Store.{Store}
use Rattle.store_model.specs.Stored.{as_bytes, StandsFor, StandsForNone}
use Rattle.store_model.specs.Dues.{Due, Ends, NotStore, Missing, LogFull, StoreThere, Damaged, complete_named}
use Rattle.store_model.specs.Answers.{answer_of}
use Rattle.store_model.proofs.OneStore.{one_store, never_both, one_fault_group}
use Rattle.store_model.proofs.Decided.{image_decided}
use Rattle.stream_model.specs.OwnStream.{own_stream}
use Rattle.stream_model.specs.StreamDues.{Found, IsStreamOf, IsWithout, IsStreamDue, StreamSays}
use Rattle.stream_model.specs.StreamLaws.{OneStreamDue, EachStreamIsDue, StreamIsAnswered}
use Rattle.stream_model.proofs.TakenAgain.{own_stream_is_taken, same_stream}

-- Which answer is due.
data View (image name : List ℕ) (due : Due) (written : List ℕ) : Type 0 where
  IsDone : IsStreamOf image name written → due ≡ Ends DoneWhole → View image name due written
  IsMissing : IsWithout image name → due ≡ Missing name → written ≡ [] → View image name due written
  IsNone : (group : ℕ) → StandsForNone image group → due ≡ NotStore group → written ≡ [] → View image name due written

view : (image name : List ℕ) (due : Due) (written : List ℕ) → IsStreamDue image name due written → View image name due written
view image name (Ends due) written h = IsDone h.1 (ap Ends h.0)
view image name (Missing what) written h = IsMissing h.2 (ap Missing h.0) h.1
view image name (NotStore group) written h = IsNone group h.1 refl h.0
view image name (LogFull end wanted limit) written h = absurd h
view image name (StoreThere size) written h = absurd h
view image name (Damaged group stored computed) written h = absurd h

not_without : (image name written : List ℕ) → IsStreamOf image name written → IsWithout image name → ⊥
not_without image name written own without =
    let both : Some own.found ≡ None = sym own.here ∙ ap (complete_named name) (one_store 0 as_bytes image own.store without.store own.stands without.stands) ∙ without.none in cc

pub one_stream_due : OneStreamDue
one_stream_due image name due other written output left right = one (view image name due written left) (view image name other output right)
  where
    one : View image name due written → View image name other output → (due ≡ other) × (written ≡ output)
    one (IsDone own d) (IsDone more e) = (d ∙ sym e, same_stream image name written own more.store more.stands more.found more.here more.edits more.has ∙ sym more.is)
    one (IsDone own d) (IsMissing without e v) = absurd (not_without image name written own without)
    one (IsDone own d) (IsNone group none e v) = absurd (never_both image own.store group own.stands none)
    one (IsMissing without d w) (IsDone own e) = absurd (not_without image name output own without)
    one (IsMissing without d w) (IsMissing more e v) = (d ∙ sym e, w ∙ sym v)
    one (IsMissing without d w) (IsNone group none e v) = absurd (never_both image without.store group without.stands none)
    one (IsNone group none d w) (IsDone own e) = absurd (never_both image own.store group own.stands none)
    one (IsNone group none d w) (IsMissing without e v) = absurd (never_both image without.store group without.stands none)
    one (IsNone group none d w) (IsNone more none' e v) = (d ∙ ap NotStore (one_fault_group image group more none none') ∙ sym e, w ∙ sym v)

pub each_stream_is_due : EachStreamIsDue
each_stream_is_due image name bytes = one (image_decided image bytes)
  where
    two : (store : Store ℕ) → StandsFor image store → (o : Option Found) → complete_named name store ≡ o → (due : Due) × (written : List ℕ) × IsStreamDue image name due written
    two store stands None is = (Missing name, [], (refl, refl, record { store = store; stands = stands; none = is }))
    two store stands (Some found) is =
        let t = own_stream_is_taken image name store stands found is in
        (Ends DoneWhole, own_stream found.0 t.0, (refl, record { store = store; stands = stands; found = found; here = is; edits = t.0; has = t.2; is = refl }))

    one : (((store : Store ℕ) × StandsFor image store) ⊎ ((group : ℕ) × StandsForNone image group)) → (due : Due) × (written : List ℕ) × IsStreamDue image name due written
    one (inl stands) = two stands.0 stands.1 (complete_named name stands.0) refl
    one (inr none) = (NotStore none.0, [], (refl, none.1))

pub stream_is_answered : StreamIsAnswered
stream_is_answered image name (Ends due) written h = subst (λ (d : _). StreamSays image name (answer_of (Ends d)) written) (sym h.0) (refl, h.1)
stream_is_answered image name (Missing what) written h = h
stream_is_answered image name (NotStore group) written h = h
stream_is_answered image name (LogFull end wanted limit) written h = absurd h
stream_is_answered image name (StoreThere size) written h = absurd h
stream_is_answered image name (Damaged group stored computed) written h = absurd h
