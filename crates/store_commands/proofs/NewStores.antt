-- What making a store answers.
use Rattle.std.proofs.Math.Dec.{eqb-suc-zero}
use Rattle.send_model.specs.Due.{DoneWhole}
use Rattle.std.specs.Prelude.{◌≡◌, ℕ, zero, suc, Bool, if◌then◌else◌, ◌<◌, List, [], ◌∷◌, ◌++◌, length}
use Rattle.std.proofs.Common.{refl, sym, ap, ◌∙◌, inl, inr, arith}
use Rattle.store_model.specs.Image.{header_of, usual_header}
use Rattle.store_model.specs.Dues as dues
use Rattle.store_model.specs.Dues.{init_due}
use Rattle.store_model.specs.NamedFiles.{unnamed}
use Rattle.store_model.specs.Requests.{InitStore, at_entry}
use Rattle.store_model.specs.Answers.{Answers, OfAnyWord}
use Rattle.send_model.specs.Answer.{Done}
use Rattle.group_log.specs.declared.stops.LogStop.{LogStop}
use Rattle.group_log.specs.declared.stops.LogStop.TheVariants as log
use Rattle.group_log.specs.Stopping.{IsFault, IsFaultOr}
use Rattle.store_commands.specs.Ending.{answer_of, end_at, init_ways, EndCaused}

pub init_done : (words : List (List ℕ)) (store : ℕ) (seen left : List ℕ) (len : ℕ) → len ≡ length seen → (0 < len → ⊥) → left ≡ header_of usual_header ++ 0 ∷ [] → Answers (InitStore store) (at_entry words seen (unnamed [])) (OfAnyWord Done) [] left
unfolding init_due
init_done words store [] left len sized none made = (refl, (refl, made))
init_done words store (byte ∷ seen) left len sized none made = absurd (none (omega (arith, sized)))

pub init_stops : (words : List (List ℕ)) (store : ℕ) (seen left : List ℕ) (len : ℕ) (cause : Type 0) (why : LogStop) → len ≡ length seen → (len ≡ 0 → IsFault cause why) → (0 < len → IsFaultOr cause (log.StoreThere len) why) → (0 < len → left ≡ seen)
    → Answers (InitStore store) (at_entry words seen (unnamed [])) (answer_of [] [] (end_at why)) [] left
unfolding init_due
init_stops words store [] left len cause log.DiskFault sized empty there kept = (refl, tt)
init_stops words store [] left len cause (log.NotStore group) sized empty there kept = absurd (empty sized)
init_stops words store [] left len cause (log.LogFull end wanted limit) sized empty there kept = absurd (empty sized)
init_stops words store [] left len cause (log.StoreThere size) sized empty there kept = absurd (empty sized)
init_stops words store (byte ∷ seen) left len cause why sized empty there kept = some why (there long)
  where
    long : 0 < len
    long = omega (arith, sized)

    some : (why : LogStop) → IsFaultOr cause (log.StoreThere len) why → Answers (InitStore store) (at_entry words (byte ∷ seen) (unnamed [])) (answer_of [] [] (end_at why)) [] left
    some log.DiskFault p = (refl, kept long)
    some (log.NotStore group) (inl e) = cc
    some (log.NotStore group) (inr f) = absurd f
    some (log.LogFull end wanted limit) (inl e) = cc
    some (log.LogFull end wanted limit) (inr f) = absurd f
    some (log.StoreThere size) (inl e) = let same : size ≡ len = cc in (ap (λ (n : ℕ). dues.StoreThere n) (same ∙ sized) ∙ sym (ap (λ (b : Bool). if b then dues.Ends DoneWhole else dues.StoreThere (length (byte ∷ seen))) (eqb-suc-zero (length seen))), (refl, kept long))
    some (log.StoreThere size) (inr f) = absurd f

pub making_stops : (done rose : Type 0) (len : ℕ) (why : LogStop) → (len ≡ 0 → IsFault rose why) → (0 < len → IsFaultOr rose (log.StoreThere len) why) → EndCaused init_ways done rose ⊥ ⊥ (end_at why)
making_stops done rose zero why empty there = by_fault why (empty refl)
  where
    by_fault : (why : LogStop) → IsFault rose why → EndCaused init_ways done rose ⊥ ⊥ (end_at why)
    by_fault log.DiskFault f = f
    by_fault (log.NotStore group) f = absurd f
    by_fault (log.LogFull end wanted limit) f = absurd f
    by_fault (log.StoreThere size) f = absurd f
making_stops done rose (suc len) why empty there = some why (there (omega arith))
  where
    some : (why : LogStop) → IsFaultOr rose (log.StoreThere (suc len)) why → EndCaused init_ways done rose ⊥ ⊥ (end_at why)
    some log.DiskFault (inl e) = cc
    some log.DiskFault (inr f) = f
    some (log.NotStore group) (inl e) = cc
    some (log.NotStore group) (inr f) = absurd f
    some (log.LogFull end wanted limit) (inl e) = cc
    some (log.LogFull end wanted limit) (inr f) = absurd f
    some (log.StoreThere size) p = tt
