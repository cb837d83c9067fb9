-- What an audit without guards says of what was read that is done; and items with overrides stand
-- as whole streams, as they stood.
use Rattle.std.specs.Prelude.{◌≡◌, ◌≢◌, ℕ, ◌+◌, Bool, true, false, List, [], ◌∷◌, ◌++◌, take, Option, None, Some, if◌then◌else◌}
use Rattle.std.proofs.Common.{refl, sym, ap, ap₂, subst, ◌∙◌}
use Rattle.send_model.specs.Command.{Command, Subvol, Snapshot}
use Rattle.send_model.specs.Reading.{Item, Verdict, Ending, Whole, Faulty, Reading, Due, HeaderDue, CommandDue, reads, joined, input_from}
use Rattle.send_model.specs.Lengths.{limit, is_too_long}
use Rattle.send_model.specs.Store.{Store}
use Rattle.send_model.specs.Receive.{IsAccepted, run_items, byte_cells, start_of, first_of, receive_items}
use Rattle.send_model.specs.Counts.{is_end}
use Rattle.send_model.specs.Guards.{receive_watched}
use Rattle.send_model.specs.Due as dues
use Rattle.send_model.specs.Due.{DoneWhole, RefusedAt, Stop, AtEnd, AtFault, AtLimit, Limited, then_limited, limited_from, stop_due, audit_due_of}
use Rattle.send_model.specs.Overridden.{Overrides, override_for, overridden_item, overridden_items, AreLawfulOverrides}
use Rattle.send_model.proofs.Guarding.{no_fault, no_guards_on_readings}
use Rattle.send_model.proofs.Exporting.{due_by, IsDue, StandsIn}
use Rattle.send_model.proofs.Overriding.{same_end, changes_names_and_parents, overridden_is_writable}

-- ---- what an audit without guards says

-- What is read up to the limit is all that is read, and to its end.
abbrev IsReadWhole : Limited → Reading → Type 0
IsReadWhole read reading = (read.items ≡ reading.items) × (reading.end ≡ Whole)

pub read_to_end : (number : ℕ) (files : List (List ℕ)) → (limited_from number files).stop ≡ AtEnd → IsReadWhole (limited_from number files) (input_from number files)
unfolding limited_from input_from
read_to_end number [] e = (refl, refl)
read_to_end number (bytes ∷ files) e = one (is_too_long number bytes) (reads number bytes).items (reads number bytes).end e (read_to_end (number + 1) files)
  where
    one : (b : Bool) (items : List Item) (ending : Ending) → let rest : Limited = limited_from (number + 1) files in
        let read : Limited = if b then record { items = (reads number (take limit bytes)).items; stop = AtLimit number } else then_limited items ending rest in
        read.stop ≡ AtEnd → (rest.stop ≡ AtEnd → IsReadWhole rest (input_from (number + 1) files))
        → IsReadWhole read (joined (record { items = items; end = ending }) (input_from (number + 1) files))
    one true items ending e more = cc
    one false items Whole e more = (ap (λ (is : List Item). items ++ is) (more e).0, (more e).1)
    one false items (Faulty verdict) e more = cc

done_at_end : (refused : Option Verdict) (stop : Stop) → (elim refused as (λ x. dues.Due) [ Some verdict ↦ RefusedAt verdict | None ↦ stop_due stop ]) ≡ DoneWhole → (refused ≡ None) × (stop ≡ AtEnd)
done_at_end (Some verdict) stop e = cc
done_at_end None AtEnd e = (refl, refl)
done_at_end None (AtFault verdict) e = cc
done_at_end None (AtLimit file) e = cc

-- All is taken, and nothing stops the reading.
pub done_is_taken : (base : Store ℕ) (read : Limited) → audit_due_of base [] read ≡ DoneWhole
    → IsAccepted (run_items 0 byte_cells (start_of base) read.items) × (read.stop ≡ AtEnd)
unfolding receive_items receive_watched
done_is_taken base read done =
    let reading : Reading = record { items = read.items; end = Whole } in
    let ended = done_at_end _ read.stop done in
    let plain = sym (ap (λ r. r.refused) (no_guards_on_readings base reading)) ∙ ap (λ (o : Option Verdict). first_of o None) ended.0 in
    ((no_fault (run_items 0 byte_cells (start_of base) read.items).refused None plain).0, ended.1)

-- ---- items with overrides

still_due : (due : Due) (item other : Item) → other.version ≡ item.version → IsDue due item → IsDue due other
still_due HeaderDue item other v d = tt
still_due (CommandDue version) item other v d = v ∙ d

pub overridden_stand : (overrides : Overrides) → AreLawfulOverrides overrides → (due : Due) (items : List Item) → StandsIn due items → StandsIn due (overridden_items overrides items)
overridden_stand overrides new HeaderDue [] s = tt
overridden_stand overrides new (CommandDue version) [] s = absurd s
overridden_stand overrides new due (item ∷ items) (d, r, s) =
    let meant : Item = overridden_item overrides item in
    let v : meant.version ≡ item.version = ap (λ (i : Item). i.version) (changes_names_and_parents overrides item).place in
    let e : is_end meant.command ≡ is_end item.command = same_end (override_for overrides item.file) item.command in (
      still_due due item meant v d,
      (overridden_is_writable overrides (item ∷ []) new (r, tt)).0,
      subst (λ (x : Due). StandsIn x (overridden_items overrides items)) (sym (ap₂ due_by v e)) (overridden_stand overrides new (due_by item.version (is_end item.command)) items s),
    )

pub overridden_some : (overrides : Overrides) (items : List Item) → items ≢ [] → overridden_items overrides items ≢ []
overridden_some overrides [] some = absurd (some refl)
overridden_some overrides (item ∷ items) some = λ e. cc
