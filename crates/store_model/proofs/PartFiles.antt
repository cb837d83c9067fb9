-- The completed parts as files of their own: each is read as its part's commands, and so they are
-- received one after the other.
use Rattle.std.specs.Prelude.{◌≡◌, ℕ, zero, suc, ◌+◌, false, List, [], ◌∷◌, ◌++◌, map, None, Some}
use Rattle.std.specs.List.{AllByRecursion, flat_map, slice_get}
use Rattle.std.proofs.Common.{refl, sym, ap, subst, ◌∙◌, inl, inr}
use Rattle.send_model.specs.Command.{Command, Subvol, Snapshot, End}
use Rattle.send_model.specs.Spelling.{IsSpellable}
use Rattle.send_model.specs.Reading.{Item, Ending, Whole, Reading, joined, reads, input, input_from}
use Rattle.send_model.specs.Store.{Head, head_of, State}
use Rattle.send_model.specs.Receive.{Run, run_items, receive_items, byte_cells, start_of, with_fault}
use Rattle.send_model.specs.Order.{commands_of}
use Rattle.send_model.specs.Counts.{is_end}
use Rattle.send_model.proofs.Sorts.{same_inside}
use Rattle.send_model.proofs.Runs.{Takes, takes_run, runs_taken}
use Rattle.send_model.proofs.Streams.{IsInner, stream_read}
use Rattle.send_model.proofs.ElementLaws.{all_first, all_rest}
use Rattle.store_model.specs.Turns.{Taken, Session, Turns, at_entry, after_turns, completed_parts, as_stream, one_by_one}
use Rattle.store_model.specs.TurnLaws.{IsIn, IsPart, IsReadBy, part_file, FilesAreOneByOne}
use Rattle.store_model.proofs.TurnOrder.{turns_are_one_by_one}
use Rattle.store_model.proofs.Origins.{parts_are_read}

-- The commands of a part, END behind them.
abbrev part_commands : Taken → List Command
part_commands part = part.head.command ∷ (map (λ item. item.command) part.edits ++ End ∷ [])

commands_joined : (xs ys : List Item) → commands_of (xs ++ ys) ≡ commands_of xs ++ commands_of ys
commands_joined [] ys = refl
commands_joined (x ∷ xs) ys = ap (λ (l : List Command). x.command ∷ l) (commands_joined xs ys)

streams_say : (parts : List Taken) → commands_of (flat_map as_stream parts) ≡ flat_map part_commands parts
streams_say [] = refl
streams_say (part ∷ parts) =
    commands_joined (as_stream part) (flat_map as_stream parts)
    ∙ (λ i. (part.head.command ∷ commands_joined part.edits (record part.head { command = End } ∷ []) i) ++ streams_say parts i)

-- Files that are each read as a part's commands are read as those of all parts.
IsReadAsPart : Taken → Type 0
IsReadAsPart part = (file : ℕ) → (commands_of (reads file (part_file part)).items ≡ part_commands part) × ((reads file (part_file part)).end ≡ Whole)

joined_whole : (first others : Reading) → first.end ≡ Whole → joined first others ≡ record { items = first.items ++ others.items; end = others.end }
joined_whole first others e = one first.items first.end e
  where
    one : (items : List Item) (end : Ending) → end ≡ Whole → joined (record { items = items; end = end }) others ≡ record { items = items ++ others.items; end = others.end }
    one items Whole e = refl
    one items end e = cc

files_say : (file : ℕ) (parts : List Taken) → AllByRecursion IsReadAsPart parts → (commands_of (input_from file (map part_file parts)).items ≡ flat_map part_commands parts) × ((input_from file (map part_file parts)).end ≡ Whole)
unfolding input_from IsReadAsPart
files_say file [] a = (refl, refl)
files_say file (part ∷ parts) a =
    let first : Reading = reads file (part_file part) in
    let others : Reading = input_from (file + 1) (map part_file parts) in
    let is : joined first others ≡ record { items = first.items ++ others.items; end = others.end } = joined_whole first others (a.0 file).1 in
    let more = files_say (file + 1) parts a.1 in
    (ap (λ (r : Reading). commands_of r.items) is ∙ commands_joined first.items others.items ∙ (λ i. (a.0 file).0 i ++ more.0 i), ap (λ (r : Reading). r.end) is ∙ more.1)

-- ---- parts that can be said

head_no_end : (c : Command) (head : Head) → head_of c ≡ Some head → is_end c ≡ false
head_no_end (Subvol uuid ctransid path) head e = refl
head_no_end (Snapshot uuid ctransid path clone_uuid clone_ctransid) head e = refl
head_no_end c head e = cc

edits_inner : (items : List Item) → AllByRecursion (λ item. (head_of item.command ≡ None) × (is_end item.command ≡ false)) items → AllByRecursion (λ item. IsSpellable 2 item.command) items
    → AllByRecursion (IsInner 2) (map (λ item. item.command) items)
edits_inner [] a s = tt
edits_inner (item ∷ items) a s = ((record { spellable = s.0 }, a.0.1), edits_inner items a.1 s.1)

part_read : (part : Taken) → IsPart part → AllByRecursion (λ item. IsSpellable 2 item.command) (part.head ∷ part.edits) → IsReadAsPart part
unfolding IsReadAsPart
part_read part is s file =
    let r = stream_read file 2 (part.head.command ∷ map (λ item. item.command) part.edits) refl ((record { spellable = s.0 }, head_no_end part.head.command is.head is.is_head), edits_inner part.edits is.edits s.1) in
    (r.commands, r.whole)

session_items : (sessions : List (Session ℕ)) (n : ℕ) (s : Session ℕ) → AllByRecursion (λ s. AllByRecursion (λ item. IsSpellable 2 item.command) s.items) sessions → slice_get sessions n ≡ Some s
    → AllByRecursion (λ item. IsSpellable 2 item.command) s.items
session_items [] n s a e = cc
session_items (x ∷ sessions) zero s a e = subst (λ (y : Session ℕ). AllByRecursion (λ item. IsSpellable 2 item.command) y.items) (same_inside e) a.0
session_items (x ∷ sessions) (suc n) s a e = session_items sessions n s a.1 e

read_spelled : (sessions : List (Session ℕ)) (part : Taken) → AllByRecursion (λ s. AllByRecursion (λ item. IsSpellable 2 item.command) s.items) sessions → IsReadBy sessions part
    → AllByRecursion (λ item. IsSpellable 2 item.command) (part.head ∷ part.edits)
read_spelled sessions part a r =
    let P : Item → Type 0 = λ item. IsSpellable 2 item.command in
    all_first P (part.head ∷ part.edits) (r.next ∷ r.after)
    (all_rest P r.before ((part.head ∷ part.edits) ++ r.next ∷ r.after) (subst (λ (l : List Item). AllByRecursion P l) r.items (session_items sessions r.number r.session a r.there)))

all_parts : (parts : List Taken) → AllByRecursion IsPart parts → ((part : Taken) → IsIn part parts → AllByRecursion (λ item. IsSpellable 2 item.command) (part.head ∷ part.edits)) → AllByRecursion IsReadAsPart parts
all_parts [] a f = tt
all_parts (part ∷ parts) a f = (part_read part a.0 (f part (inl refl)), all_parts parts a.1 (λ p h. f p (inr h)))

pub files_are_one_by_one : FilesAreOneByOne
unfolding one_by_one receive_items input
files_are_one_by_one store sessions turns d a s =
    let end : Turns ℕ = after_turns 0 byte_cells (at_entry store sessions) turns in
    let is = turns_are_one_by_one 0 byte_cells store sessions turns d a in
    let parts : List Taken = completed_parts end.events in
    let last : State ℕ = start_of (store ++ is.new) in
    let items : List Item = flat_map as_stream parts in
    let taken : Takes (start_of store) (commands_of items) last =
    subst (λ (r : Run ℕ). Takes (start_of store) (commands_of items) r.state) is.accepted (takes_run items (start_of store) (ap (λ (r : Run ℕ). r.refused) is.accepted)) in
    let read = files_say 1 parts (all_parts parts is.shaped (λ part h. read_spelled sessions part s ((parts_are_read 0 byte_cells store sessions turns a).0 part h))) in
    let reading : Reading = input_from 1 (map part_file parts) in
    let run : run_items 0 byte_cells (start_of store) reading.items ≡ record { state = last; refused = None } =
    runs_taken reading.items (start_of store) last (subst (λ (cs : List Command). Takes (start_of store) cs last) (streams_say parts ∙ sym read.0) taken) in
    (is, (λ i. with_fault (run i) (read.1 i)))
