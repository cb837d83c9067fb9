-- The items of a file have its number, so they have one override.
use Rattle.std.specs.Prelude.{◌≡◌, ℕ, zero, suc, ◌+◌, ◌-◌, Bool, true, false, List, [], ◌∷◌, map, drop, length, Result, Ok, Err, if◌then◌else◌}
use Rattle.std.specs.List.{AllByRecursion}
use Rattle.std.proofs.Common.{refl, sym, ap, ap₂}
use Rattle.std.proofs.lemmas.List.{map-append}
use Rattle.send_model.specs.Refusal.{Refusal}
use Rattle.send_model.specs.Reading.{Item, Reading, Ending, Whole, Faulty, Front, Due, HeaderDue, CommandDue, due_after, with_item, faulty, may_end, ended, go_on, header_len, stream_version, frame_at, attributes_at, command_of, front_of, reads_from, reads, joined}
use Rattle.send_model.specs.Overridden.{Overrides, override_for, overridden_as, overridden_item, overridden_items, overridden, OverriddenOneByOne, FileHasOneOverride}
use Rattle.send_model.proofs.Fuel.{bound, ok_same}

abbrev AreOf : ℕ → List Item → Type 0
AreOf file items = AllByRecursion (λ item. item.file ≡ file) items

front_file : (file version number offset : ℕ) (bytes : List ℕ) (front : Front) → front_of file version number offset bytes ≡ Ok front → front.item.file ≡ file
unfolding front_of
front_file file version number offset bytes front e =
    let a = bound (frame_at bytes) _ front e in
    let b = bound (attributes_at version a.0.body) _ front a.2 in
    let c = bound (command_of version a.0.number b.0) _ front b.2 in
    ap (λ (x : Front). x.item.file) (sym (ok_same c.2))

went : {A : Type 0} (file : ℕ) (more : A → Reading) (stop : Refusal → Reading) (r : Result A Refusal) → ((x : A) → r ≡ Ok x → AreOf file (more x).items) → ((refusal : Refusal) → AreOf file (stop refusal).items)
    → AreOf file (go_on more stop r).items
went file more stop (Ok x) m s = m x refl
went file more stop (Err refusal) m s = s refusal

then_item : (file : ℕ) (item : Item) (r : Reading) (b : Bool) → item.file ≡ file → AreOf file r.items → AreOf file (with_item item (if b then ended else r)).items
then_item file item r true own more = (own, tt)
then_item file item r false own more = (own, more)

reads_of : (n file : ℕ) (due : Due) (number offset : ℕ) (bytes : List ℕ) → AreOf file (reads_from n file due number offset bytes).items
unfolding reads_from
reads_of zero file due number offset bytes = tt
reads_of (suc n) file HeaderDue number offset bytes =
    went file _ (faulty file number offset) (stream_version bytes) (λ version e. reads_of n file (CommandDue version) number (offset + header_len) (drop header_len bytes)) (λ refusal. tt)
reads_of (suc n) file (CommandDue version) number offset bytes =
    went file _ (faulty file number offset) (front_of file version number offset bytes)
    (λ front e. then_item file front.item (reads_from n file (due_after version front.item.command) (number + 1) (offset + (length bytes - length front.rest)) front.rest) (may_end (due_after version front.item.command) front.rest)
    (front_file file version number offset bytes front e)
    (reads_of n file (due_after version front.item.command) (number + 1) (offset + (length bytes - length front.rest)) front.rest)) (λ refusal. tt)

one_override : (overrides : Overrides) (file : ℕ) (items : List Item) → AreOf file items → overridden_items overrides items ≡ map (overridden_as (override_for overrides file)) items
one_override overrides file [] own = refl
one_override overrides file (item ∷ items) own =
    ap₂ (λ (x : Item) (xs : List Item). x ∷ xs) (ap (λ (n : ℕ). overridden_as (override_for overrides n) item) own.0) (one_override overrides file items own.1)

pub file_has_one_override : FileHasOneOverride
unfolding reads
file_has_one_override overrides file bytes =
    let at : List Item → Reading = λ items. record { items = items; end = (reads file bytes).end } in
    ap at (one_override overrides file (reads file bytes).items (reads_of (suc (length bytes)) file HeaderDue 1 0 bytes))

pub overridden_one_by_one : OverriddenOneByOne
overridden_one_by_one overrides first others = one first.items first.end
  where
    one : (items : List Item) (end : Ending) → overridden overrides (joined (record { items = items; end = end }) others) ≡ joined (overridden overrides (record { items = items; end = end })) (overridden overrides others)
    one items (Faulty verdict) = refl
    one items Whole = let at : List Item → Reading = λ xs. record { items = xs; end = others.end } in ap at (map-append (overridden_item overrides) items others.items)
