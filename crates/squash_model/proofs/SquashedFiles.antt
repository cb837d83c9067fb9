-- What is written for a file is read as the squashed commands, and every store that takes the file
-- takes it and comes to the same.
use Rattle.std.specs.Prelude.{◌≡◌, ℕ, List, [], ◌∷◌, ◌++◌, Option, None}
use Rattle.std.specs.List.{AllByRecursion}
use Rattle.std.proofs.Common.{sym, ap, subst, ◌∙◌}
use Rattle.send_model.specs.Command.{Command, End}
use Rattle.send_model.specs.Spelling.{stream_header, canonical_all}
use Rattle.send_model.specs.Reading.{Item, Verdict, Ending, Whole, reads, input}
use Rattle.send_model.specs.Store.{Store, State}
use Rattle.send_model.specs.Receive.{IsAccepted, start_of, byte_cells, run_items, receive_items, fault_of, first_of}
use Rattle.send_model.specs.Order.{heads_of, commands_of}
use Rattle.send_model.specs.Outside.{all_keys_named}
use Rattle.send_model.specs.Counts.{literal, clones, streams}
use Rattle.send_model.specs.Composed.{version_of}
use Rattle.send_model.specs.Laws.{CanWrite}
use Rattle.send_model.proofs.Runs.{Takes, takes_run}
use Rattle.send_model.proofs.Streams.{ReadsAs, stream_read}
use Rattle.send_model.proofs.Headlines.{received_as, first_none}
use Rattle.send_model.proofs.HeadlineLaw.{files_are_whole}
use Rattle.send_model.proofs.ReadCommands.{is_output, output_is_read, writable_in_output}
use Rattle.squash_model.specs.Squashed.{stands, unborn, squashed_from, squashed, all_bytes}
use Rattle.squash_model.specs.SquashedStreams.{squashed_output, SquashedReadingsHold, SquashedFilesHold}
use Rattle.squash_model.proofs.SameSquash.{BornTakes, starts_born}
use Rattle.squash_model.proofs.SpelledSquash.{IsInside, squashed_inside, squashed_end, none_ends}
use Rattle.squash_model.proofs.KeptBytes.{squashed_puts_what_stands}
use Rattle.squash_model.proofs.SquashProved.{takes_lead, squashed_leads_the_same, squashed_carries_what_stands, squashed_keeps_all_else, squashed_twice_is_once}

all_front : {A : Type 0} (P : A → Type 0) (xs ys : List A) → AllByRecursion P (xs ++ ys) → AllByRecursion P xs
all_front P [] ys all = tt
all_front P (x ∷ xs) ys all = (all.0, all_front P xs ys all.1)

-- A reading to a whole end that is accepted is a run of its items.
whole_run : (store : Store ℕ) (items : List Item) (ending : Ending) → ending ≡ Whole → IsAccepted (receive_items 0 byte_cells store (record { items = items; end = ending }))
    → (run_items 0 byte_cells (start_of store) items).refused ≡ None
unfolding receive_items
whole_run store items ending whole accepted = first_none (run_items 0 byte_cells (start_of store) items).refused (fault_of ending) accepted

received_is : (store : Store ℕ) (items : List Item) (ending : Ending) → ending ≡ Whole → (run_items 0 byte_cells (start_of store) items).refused ≡ None
    → receive_items 0 byte_cells store (record { items = items; end = ending }) ≡ record { state = (run_items 0 byte_cells (start_of store) items).state; refused = None }
unfolding receive_items
received_is store items ending whole none =
    let state : State ℕ = (run_items 0 byte_cells (start_of store) items).state in
    ap (λ (o : Option Verdict). record { state = state; refused = o })
    (ap (λ (o : Option Verdict). first_of o (fault_of ending)) none ∙ ap fault_of whole)

pub squashed_readings_hold : SquashedReadingsHold
squashed_readings_hold base reading w one accepted lawful =
    let items : List Item = reading.items in
    let cs : List Command = commands_of items in
    let version : ℕ = version_of items in
    let ran : (run_items 0 byte_cells (start_of base) items).refused ≡ None = whole_run base items reading.end w.whole accepted in
    let end : State ℕ = (run_items 0 byte_cells (start_of base) items).state in
    let takes : Takes (start_of base) cs end = takes_run items (start_of base) ran in
    let born : BornTakes 0 (unborn base) (w.others ++ End ∷ []) = subst (λ (ds : List Command). BornTakes 0 (unborn base) ds) w.ends (starts_born base cs end (takes_lead cs (start_of base) end takes)) in
    let writable : AllByRecursion (CanWrite version) (w.others ++ End ∷ []) = subst (λ (ds : List Command). AllByRecursion (CanWrite version) ds) w.ends (writable_in_output items w.writable) in
    let only : streams (w.others ++ End ∷ []) ≡ 1 = ap streams (sym w.ends) ∙ one in
    let inside : AllByRecursion (IsInside version) w.others = none_ends version w.others (all_front (CanWrite version) w.others (End ∷ []) writable) only in
    let standing = stands base cs in
    let front : List Command = squashed_from standing 0 (unborn base) w.others in
    let all : squashed base cs ≡ front ++ End ∷ [] =
    ap (λ (ds : List Command). squashed_from standing 0 (unborn base) ds) w.ends ∙ squashed_end standing version (is_output items) w.others 0 (unborn base) in
    let read : ReadsAs (reads 1 (squashed_output base items)) (front ++ End ∷ []) =
    subst (λ (ds : List Command). ReadsAs (reads 1 (stream_header version ++ canonical_all version ds)) (front ++ End ∷ [])) (sym all)
    (stream_read 1 version front (output_is_read items w.writable) (squashed_inside standing version (is_output items) w.others (End ∷ []) 0 (unborn base) inside born)) in
    let are : commands_of (reads 1 (squashed_output base items)).items ≡ squashed base cs = read.commands ∙ sym all in
    let kept = squashed_keeps_all_else base cs in
    record {
      whole = read.whole;
      commands_are = are;
      gets = λ store same taken.
          let here = whole_run store items reading.end w.whole taken in
          let ends : State ℕ = (run_items 0 byte_cells (start_of store) items).state in
          let ran_here : run_items 0 byte_cells (start_of store) items ≡ record { state = ends; refused = None } = ap (λ (o : Option Verdict). record { state = ends; refused = o }) here in
          received_as store (squashed_output base items) ends read.whole (squashed_leads_the_same base store items (reads 1 (squashed_output base items)).items lawful same ran here are ∙ ran_here)
          ∙ sym (received_is store items reading.end w.whole here);
      bytes_are = ap all_bytes are ∙ squashed_puts_what_stands base cs;
      literal_bytes = ap literal are ∙ squashed_carries_what_stands base cs;
      same_heads = ap heads_of are ∙ kept.same_heads;
      same_streams = ap streams are ∙ kept.same_streams;
      same_clones = ap clones are ∙ kept.same_clones;
      same_keys = ap all_keys_named are ∙ kept.same_keys;
      once = ap (squashed base) are ∙ squashed_twice_is_once base items lawful ran ∙ sym are;
    }

pub squashed_files_hold : SquashedFilesHold
squashed_files_hold base file are whole some one accepted lawful =
    squashed_readings_hold base (input (file ∷ [])) (files_are_whole (file ∷ []) (are, tt) whole some) one accepted lawful
