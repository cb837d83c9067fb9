-- How composing over a store ends, from how composing did, while so many reads of the store's
-- device failed.
use Rattle.std.specs.Prelude.{◌≡◌, ◌==◌, ℕ, Bool, true, false, List, Option, if◌then◌else◌}
use Rattle.std.proofs.Common.{sym, subst}
use Rattle.send_model.specs.Store.{Store}
use Rattle.send_model.specs.Overridden.{Overrides}
use Rattle.sx_base.specs.Calls.{IfAllTold, Wrote}
use Rattle.sx_base.specs.declared.outcome.Outcome.{Outcome}
use Rattle.sx_base.specs.declared.outcome.Outcome.TheVariants as ended
use Rattle.clone_pieces.proofs.Told.{all_map}
use Rattle.composer.specs.Files.{ComposeEnds}
use Rattle.store_commands.specs.declared.ends.StoreEnd.{StoreEnd}
use Rattle.store_commands.specs.declared.ends.StoreEnd.TheVariants as made
use Rattle.store_compose.specs.Ending.{is_input_fault, end_over, EndsOver}

module _ (base : Store ℕ) (given : Overrides) where
  by_failures : (files : List (List ℕ)) (none : Bool) (outcome : Outcome) (written : List ℕ) → ComposeEnds base given files outcome written
      → EndsOver base given files (if none then made.Ends outcome else (if is_input_fault outcome then made.StoreFault else made.Ends outcome)) written
  by_failures files true outcome written p = p
  by_failures files false ended.InputFault written p = p
  by_failures files false ended.Done written p = p
  by_failures files false (ended.Refused verdict) written p = p
  by_failures files false ended.OutputFault written p = p
  by_failures files false ended.NoMemory written p = p
  by_failures files false (ended.InputTooLong file) written p = p
  by_failures files false (ended.TooMuch sum) written p = p
  by_failures files false (ended.InputChanged file place) written p = p

  pub ends_so : (told : Option (List (List ℕ × List ℕ))) (names : List (List ℕ)) (old new : Option (List ℕ)) (outcome : Outcome) (failures : ℕ) (end : StoreEnd) → end ≡ end_over outcome failures
      → IfAllTold told names (λ files. Wrote old new (ComposeEnds base given files outcome)) → IfAllTold told names (λ files. Wrote old new (EndsOver base given files end))
  ends_so told names old new outcome failures end is composed =
      all_map told names (λ files. Wrote old new (ComposeEnds base given files outcome)) (λ files. Wrote old new (EndsOver base given files end))
      (λ files wrote. (wrote.0, wrote.1, subst (λ (e : StoreEnd). EndsOver base given files e wrote.0) (sym is) (by_failures files (failures == 0) outcome wrote.0 wrote.2))) composed
