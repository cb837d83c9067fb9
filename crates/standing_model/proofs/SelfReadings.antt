-- The headline with the part as a source, over what was read and over files: as one stream that is written.
use Rattle.std.specs.Prelude.{ℕ, List, [], ◌∷◌, ◌++◌, Option, None}
use Rattle.std.specs.List.{AllByRecursion}
use Rattle.std.proofs.Common.{ap, ap₂, inr}
use Rattle.send_model.specs.Command.{Command}
use Rattle.send_model.specs.Spelling.{stream_header, canonical_all}
use Rattle.send_model.specs.Reading.{input}
use Rattle.send_model.specs.Store.{Head, Store}
use Rattle.send_model.specs.Receive.{Run, run_items, receive_items, byte_cells, start_of, fault_of}
use Rattle.send_model.specs.Order.{heads, commands_of}
use Rattle.send_model.specs.Outside.{base_of, keys_outside, FindsLawful}
use Rattle.send_model.specs.Composed.{head_command, version_of, for_parts}
use Rattle.send_model.specs.Headline.{output_by}
use Rattle.send_model.proofs.Composed.{first_there, last_of_some}
use Rattle.send_model.proofs.Streams.{IsInner}
use Rattle.send_model.proofs.Headlines.{first_none}
use Rattle.send_model.proofs.ReadCommands.{is_output, writable_in_output, output_is_read}
use Rattle.send_model.proofs.SpelledRuns.{are_spelled, are_inner, head_inner, heads_spelled}
use Rattle.send_model.proofs.HeadlineClones.{composed_reading}
use Rattle.send_model.proofs.HeadlineLaw.{files_are_whole}
use Rattle.standing_model.specs.Standing.{unstanding_cells, standing_runs, selfed_edits, selfed_with, selfed_of}
use Rattle.standing_model.specs.Promises.{SelfReadingsHold, SelfFilesHold}
use Rattle.standing_model.proofs.SelfHeadline.{self_items}
use Rattle.standing_model.proofs.SelfSpelled.{self_inside}
use Rattle.standing_model.proofs.FilesThere.{files_there}

pub self_readings_hold : SelfReadingsHold
unfolding receive_items selfed_with
self_readings_hold files store reading w consecutive accepted sayable there =
    let items = reading.items in
    let b : Store ℕ = base_of store items in
    let cs : List Command = commands_of items in
    let first = first_there (heads items) consecutive.0 in
    let last = last_of_some (heads items) consecutive.0 in
    let ran : Run ℕ = run_items 0 byte_cells (start_of b) items in
    let refused = first_none ran.refused (fault_of reading.end) accepted in
    let version : ℕ = version_of items in
    let spelled = are_spelled version cs (writable_in_output items w.writable) in
    let es : List Command = selfed_edits b last.0.key items in
    let inside = self_inside files version (is_output items) store items first.0 last.0 first.1 last.1 consecutive spelled refused sayable there in
    let inner : AllByRecursion (IsInner version) (head_command last.0.name last.0.key first.0.parent ∷ es) = ((record { spellable = heads_spelled version (is_output items) cs first.0 last.0 first.1 last.1 spelled }, head_inner last.0.name last.0.key first.0.parent), are_inner version es inside) in
    let lawful : FindsLawful b (keys_outside items) = λ k s among f. let y = sayable k s among f in y.lawful in
    let list : Option Head → Option Head → List Command = λ f l. for_parts (λ x y. selfed_with b x y items) f l in
    composed_reading (unstanding_cells b items) (standing_runs b items) version b reading first.0 last.0 es (output_by None (selfed_of b items) [] items)
    w.whole (inr (w.others, w.ends)) consecutive accepted (output_is_read items w.writable) inner
    (self_items files store items first.0 last.0 first.1 last.1 consecutive refused lawful there)
    (ap (λ (ds : List Command). stream_header version ++ canonical_all version ds) (ap₂ list first.1 last.1))

pub self_files_hold : SelfFilesHold
self_files_hold store files bytes whole consecutive accepted sayable =
    self_readings_hold files store (input files) (files_are_whole files bytes whole consecutive.0) consecutive accepted sayable (files_there files bytes)
