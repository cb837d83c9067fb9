-- The headline for files with overrides.
use Rattle.std.specs.Prelude.{◌≡◌, ◌≢◌, ◌<◌, ℕ, ◌^◌, Bool, true, false, List, [], ◌∷◌, length, Option, None, Some, IfSome}
use Rattle.std.specs.List.{AllByRecursion}
use Rattle.std.proofs.Common.{refl, subst, arith}
use Rattle.send_model.specs.Attribute.{IsBytes}
use Rattle.send_model.specs.Spelling.{IsSpellable}
use Rattle.send_model.specs.Reading.{Item, Reading, input}
use Rattle.send_model.specs.Path.{is_name}
use Rattle.send_model.specs.Store.{Head, head_of, Store, State}
use Rattle.send_model.specs.Receive.{Run, bytes_of, byte_cells, start_of, run_items, receive_items, fault_of}
use Rattle.send_model.specs.Order.{heads, commands_of}
use Rattle.send_model.specs.Outside.{base_of}
use Rattle.send_model.specs.Laws.{IsWhole}
use Rattle.send_model.proofs.Runs.{Takes, takes_run, step_of}
use Rattle.send_model.proofs.LawfulStores.{received_is_lawful}
use Rattle.send_model.proofs.ReadCommands.{input_writable}
use Rattle.send_model.proofs.PathLaws.{is_name_length}
use Rattle.send_model.proofs.Headlines.{first_none}
use Rattle.send_model.proofs.HeadlineLaw.{readings_hold, files_are_whole}
use Rattle.send_model.specs.Overridden.{no_override, Overrides, override_for, overridden_item, overridden_items, overridden, IsByteOverride, AreByteOverrides, OverriddenFilesHold, OverriddenLeaveLawful}
use Rattle.send_model.proofs.Overriding.{bad_name_stands, keeps_all_else, FitsItem, IsWritten, given_holds, all_written, whole_with, overridden_is_writable}

-- A lawful name is a short one.
named_short : (name : List ℕ) → is_name name ≡ true → length name < 2 ^ 16
named_short name e = let l = is_name_length name e in omega (arith, l.1)

-- Each head of items that are taken has a lawful name.
abbrev HasName : Overrides → Item → Type 0
HasName overrides item = (name : List ℕ) (head : Head) → (override_for overrides item.file).name ≡ Some name → head_of item.command ≡ Some head → is_name name ≡ true

one_named : (overrides : Overrides) (item : Item) (state : State ℕ) → (step_of state (overridden_item overrides item).command).refusal ≡ None → HasName overrides item
one_named overrides item state taken name head given is = one (is_name name) refl
  where
    one : (b : Bool) → is_name name ≡ b → is_name name ≡ true
    one true e = e
    one false e = let bad = bad_name_stands overrides item name head 0 (bytes_of (overridden_item overrides item).command) state given is e in cc

taken_named : (overrides : Overrides) (items : List Item) (state end : State ℕ) → Takes state (commands_of (overridden_items overrides items)) end → AllByRecursion (HasName overrides) items
taken_named overrides [] state end t = tt
taken_named overrides (item ∷ items) state end t =
    (one_named overrides item state t.0, taken_named overrides items (step_of state (overridden_item overrides item).command).state end t.1)

byte_override : IsByteOverride no_override
byte_override = record { name = tt; parents = tt }

overrides_fit : (overrides : Overrides) → AreByteOverrides overrides → (items : List Item) → AllByRecursion (HasName overrides) items → AllByRecursion (FitsItem overrides) items
overrides_fit overrides bytes [] named = tt
overrides_fit overrides bytes (item ∷ items) named =
    let o = given_holds IsByteOverride byte_override 1 overrides item.file bytes in (
      record {
        name = λ name head given is. (named_short name (named.0 name head given is), subst (λ (n : Option (List ℕ)). IfSome n IsBytes) given o.name);
        parents = o.parents;
      },
      overrides_fit overrides bytes items named.1,
    )

-- As many heads as some are some.
as_many_some : (hs ks : List Head) → length hs ≡ length ks → hs ≢ [] → ks ≢ []
as_many_some [] ks e some = absurd (some refl)
as_many_some (h ∷ hs) [] e some = cc
as_many_some (h ∷ hs) (k ∷ ks) e some = λ n. cc

pub overridden_files_hold : OverriddenFilesHold
unfolding receive_items
overridden_files_hold store overrides files bytes said whole consecutive accepted sayable =
    let items : List Item = (input files).items in
    let reading : Reading = overridden overrides (input files) in
    let b : Store ℕ = base_of store reading.items in
    let else' = keeps_all_else overrides items in
    let w : IsWhole (input files) = files_are_whole files bytes whole (as_many_some (heads reading.items) (heads items) else'.heads_count consecutive.0) in
    let ran : Run ℕ = run_items 0 byte_cells (start_of b) reading.items in
    let taken = takes_run reading.items (start_of b) (first_none ran.refused (fault_of reading.end) accepted) in
    let fit = overrides_fit overrides said items (taken_named overrides items (start_of b) ran.state taken) in
    readings_hold store reading (whole_with overrides (input files) (all_written overrides items fit w.writable) w) consecutive accepted sayable

spelled_all : (items : List Item) → AllByRecursion IsWritten items → AllByRecursion (λ item. IsSpellable item.version item.command) items
spelled_all [] w = tt
spelled_all (item ∷ items) w = (w.0.0.spellable, spelled_all items w.1)

pub overridden_leave_lawful : OverriddenLeaveLawful
unfolding receive_items
overridden_leave_lawful overrides store files lawful bytes new =
    let items : List Item = (input files).items in
    received_is_lawful store (overridden_items overrides items) lawful (spelled_all (overridden_items overrides items) (overridden_is_writable overrides items new (input_writable files bytes)))
