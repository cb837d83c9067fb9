-- The headline for all commands, as the laws have it: over items; and over what was read, and
-- files, in terms of the stream that is written.
use Rattle.std.specs.Prelude.{◌≢◌, ℕ, List, [], ◌∷◌, ◌++◌, Option, None, Some}
use Rattle.std.specs.List.{AllByRecursion}
use Rattle.std.proofs.Common.{refl, sym, ap, subst, inl, inr}
use Rattle.send_model.specs.Command.{Command, End}
use Rattle.send_model.specs.Spelling.{IsSpellable, stream_header, canonical_all}
use Rattle.send_model.specs.Reading.{input}
use Rattle.send_model.specs.Store.{Head, head_of, Store}
use Rattle.send_model.specs.Receive.{Run, run_items, receive_items, byte_cells, start_of, fault_of}
use Rattle.send_model.specs.Order.{heads, heads_of, commands_of}
use Rattle.send_model.specs.Outside.{base_of}
use Rattle.send_model.specs.Composed.{version_of}
use Rattle.send_model.specs.Headline.{AreComposed, output_of}
use Rattle.send_model.specs.Laws.{CanWrite, AreInner, ItemsHold, ItemsSpelled, FrontsAreWritable, ReadingsHold, PlainReadingsHold, FilesAreWhole, FilesHold, PlainFilesHold}
use Rattle.send_model.proofs.Runs.{takes_run}
use Rattle.send_model.proofs.Merging.{edit_in, edits_of}
use Rattle.send_model.proofs.Headlines.{first_none, headline_of}
use Rattle.send_model.proofs.Composed.{items_with_heads, composed_items, first_there, last_of_some}
use Rattle.send_model.proofs.ElementLaws.{all_both}
use Rattle.send_model.proofs.ReadCommands.{input_writable, is_output, spelled_in_output, writable_in_output, output_is_read}
use Rattle.send_model.proofs.SpelledRuns.{are_spelled, head_inner, heads_spelled, composed_spelled, composed_inner, front_inner}
use Rattle.send_model.proofs.HeadlineClones.{headline_items, headline_reading}
use Rattle.send_model.proofs.Endings.{EndsWithEnd, EndsWell, input_ends}

pub items_hold : ItemsHold
items_hold store items consecutive accepted lawful =
    let b : Store ℕ = base_of store items in
    let first = first_there (heads items) consecutive.0 in
    let last = last_of_some (heads items) consecutive.0 in
    subst (λ (cs : List Command). AreComposed b items cs) (sym (items_with_heads b items first.0 last.0 first.1 last.1)) (headline_items store items first.0 last.0 first.1 last.1 consecutive accepted lawful)

pub items_spelled : ItemsSpelled
items_spelled store items consecutive accepted sayable spelled =
    let first = first_there (heads items) consecutive.0 in
    let last = last_of_some (heads items) consecutive.0 in
    subst (λ (cs : List Command). AllByRecursion (IsSpellable (version_of items)) cs) (sym (items_with_heads (base_of store items) items first.0 last.0 first.1 last.1)) (composed_spelled (version_of items) (is_output items) store items first.0 last.0 first.1 last.1 (spelled_in_output items spelled) accepted sayable)

pub fronts_are_writable : FrontsAreWritable
fronts_are_writable store all items more first last same accepted sayable writable first_is last_is =
    front_inner (version_of all) (is_output all) store all items more (run_items 0 byte_cells (start_of (base_of store all)) items).state first last same first_is last_is
    (writable_in_output all writable) (takes_run items (start_of (base_of store all)) accepted) sayable

pub readings_hold : ReadingsHold
unfolding receive_items
readings_hold store reading w consecutive accepted sayable =
    let items = reading.items in
    let b : Store ℕ = base_of store items in
    let first = first_there (heads items) consecutive.0 in
    let last = last_of_some (heads items) consecutive.0 in
    let ran : Run ℕ = run_items 0 byte_cells (start_of b) items in
    let version : ℕ = version_of items in
    headline_reading version store reading first.0 last.0 (output_of None b items)
    (record {
      whole = w.whole;
      ends = inr (w.others, w.ends);
      consecutive = consecutive;
      accepted = accepted;
      first_is = first.1;
      last_is = last.1;
      lawful = λ k s among f. let y = sayable k s among f in y.lawful;
      read = output_is_read items w.writable;
      inner = composed_inner version (is_output items) store items first.0 last.0 first.1 last.1 (writable_in_output items w.writable) (first_none ran.refused (fault_of reading.end) accepted) sayable;
    })
    (ap (λ (cs : List Command). stream_header version ++ canonical_all version cs) (items_with_heads b items first.0 last.0 first.1 last.1))

end_there : (cs : List Command) → heads_of cs ≢ [] → EndsWell cs → EndsWithEnd cs
unfolding heads_of
end_there cs some (inl none) = absurd (some (ap heads_of none))
end_there cs some (inr ends) = ends

pub files_are_whole : FilesAreWhole
files_are_whole files bytes whole some =
    let e = end_there (commands_of (input files).items) some (input_ends files whole) in
    record { whole = whole; others = e.0; ends = e.1; writable = input_writable files bytes }

pub files_hold : FilesHold
files_hold store files bytes whole consecutive = readings_hold store (input files) (files_are_whole files bytes whole consecutive.0) consecutive

-- ---- files without clones

edit_inner : (version : ℕ) (o : Option Head) (c : Command) → CanWrite version c → AreInner version (edit_in o c)
edit_inner version (Some head) c w = tt
edit_inner version None End w = tt
edit_inner version None c w = ((w, refl), tt)

edits_inner : (version : ℕ) (cs : List Command) → AllByRecursion (CanWrite version) cs → AreInner version (edits_of cs)
edits_inner version [] w = tt
edits_inner version (c ∷ cs) w = all_both _ (edit_in (head_of c) c) (edits_of cs) (edit_inner version (head_of c) c w.0) (edits_inner version cs w.1)

pub plain_readings_hold : PlainReadingsHold
unfolding receive_items
plain_readings_hold store reading w consecutive accepted n =
    let items = reading.items in
    let b : Store ℕ = base_of store items in
    let cs : List Command = commands_of items in
    let ran : Run ℕ = run_items 0 byte_cells (start_of b) items in
    let refused = first_none ran.refused (fault_of reading.end) accepted in
    let first = first_there (heads items) consecutive.0 in
    let last = last_of_some (heads items) consecutive.0 in
    let version : ℕ = version_of items in
    let is = is_output items in
    let writable = writable_in_output items w.writable in
    headline_of version store reading ran.state (output_of None b items) first.0 last.0 (output_is_read items w.writable)
    (record { whole = w.whole; ends = inr (w.others, w.ends); no_clones = n; consecutive = consecutive; taken = takes_run items (start_of b) refused }) first.1 last.1
    ((record { spellable = heads_spelled version is cs first.0 last.0 first.1 last.1 (are_spelled version cs writable) }, head_inner last.0.name last.0.key first.0.parent), edits_inner version cs writable)
    (ap (λ (ds : List Command). stream_header version ++ canonical_all version ds) (composed_items b items first.0 last.0 first.1 last.1 n))

pub plain_files_hold : PlainFilesHold
plain_files_hold store files bytes whole consecutive = plain_readings_hold store (input files) (files_are_whole files bytes whole consecutive.0) consecutive
