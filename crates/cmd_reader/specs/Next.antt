-- What a reader gives at a call: the next command, the end, or the reason why there is none.
use Rattle.std.specs.Prelude.{◌≡◌, ◌≢◌, ℕ, ◌+◌, ◌<◌, ◌≤◌, Bool, true, false, List, [], length, Option, None, Some, Result, Ok, Err, ⊤}
use Rattle.send_model.specs.Command.{Command, row, kind_of}
use Rattle.send_model.specs.Receive.{bytes_of}
use Rattle.send_model.specs.Reading as reading
use Rattle.send_model.specs.Reading.{CommandDue, due_after, ended, with_item, is_version}
use Rattle.send_model.specs.Spelling.{canonical}
use Rattle.send_model.specs.Laws.{CanWrite}
use Rattle.send_model.specs.Lengths.{limit, only_ends}
use Rattle.sx_base.specs.Causes.{Rose}
use Rattle.sx_base.specs.Refusals.{refusal_of, verdict_meant}
use Rattle.sx_base.specs.declared.outcome.Verdict.{Verdict}
use Rattle.send_commands.specs.Meaning.{meaning_of}
use Rattle.send_commands.specs.Writing.{IsWritable}
use Rattle.tlv_frame.specs.Feeding.{is_end}
use Rattle.cmd_reader.specs.declared.item.Item.{Item}
use Rattle.cmd_reader.specs.declared.item.ReadStop.{ReadStop}
use Rattle.cmd_reader.specs.declared.item.ReadStop.TheVariants as stop
use Rattle.cmd_reader.specs.Places.{IfTold}
use Rattle.cmd_reader.specs.Fronts.{IsRefused, IsLongAt}
use Rattle.cmd_reader.specs.Left.{Reader, left, HasAhead}

-- An item of a file as the definitions see it.
abbrev pub item_of : ℕ → Item → reading.Item
item_of file item = record {
  file = file;
  number = item.number;
  offset = item.offset;
  version = item.version;
  data_at = item.data_at;
  command = meaning_of item.command;
}

-- A command ends its stream.
abbrev pub is_last : Command → Bool
is_last command = is_end (row (kind_of command)).number

-- ---- the header, where one is due

-- A header was passed: nothing but the place and what is due has changed.
pub record HasBegun (old new : Reader) : Type 0 where
  pub later : old.offset ≤ new.offset
  pub file : new.file ≡ old.file
  pub name : new.name ≡ old.name
  pub number : new.number ≡ old.number
  pub due : (version : ℕ) → old.fed.due ≡ CommandDue version → new.fed.due ≡ CommandDue version
  pub at_end : new.fed.ended ≡ true → old.fed.ended ≡ true

-- Nothing was read between, and the file is as long as the place.
pub record BeginsAt (old new : Reader) (file : List ℕ) : Type 0 where
  pub left_is : left old file ≡ left new file
  pub reached : old.offset ≤ length file → new.offset ≤ length file
  pub ahead : HasAhead new file

-- Nothing is left, and the file ends before the limit.
abbrev pub HasEnded : Reader → List ℕ → Type 0
HasEnded r file = (left r file ≡ ended) × (length file < limit)

-- What is left ends at once, and breaks no rule but that there is no more.
abbrev pub OnlyEnds : Reader → List ℕ → Type 0
OnlyEnds r file = ((left r file).items ≡ []) × (only_ends (left r file).end ≡ true)

-- ---- a call

-- A command was read: what was left is this item and what is left now.
pub record GoesOn (old new : Reader) (item : reading.Item) (file : List ℕ) : Type 0 where
  pub left_is : left old file ≡ with_item item (left new file)
  pub reached : old.offset ≤ length file → new.offset ≤ length file
  pub ahead : HasAhead new file

abbrev pub IsNext : Reader → Reader → Item → List ℕ → Type 0
IsNext old new item file = GoesOn old new (item_of old.file item) file

-- What is left breaks a rule at once, with this verdict.
abbrev pub IsFaulty : Reader → Verdict → List ℕ → Type 0
IsFaulty r verdict file =
    left r file ≡ record { items = []; end = reading.Faulty (verdict_meant verdict) }

-- What was asked for; or the end, or a verdict; or that the file is too long. An end, and a verdict
-- that the file is cut short, are given only of a file that ends before the limit.
abbrev pub Says : {T : Type 0} → (T → Type 0) → Option (List (List ℕ × List ℕ)) → Reader → ℕ → ℕ
    → Result (Option T) ReadStop → Type 0
Says given told old before now (Ok (Some x)) = given x
Says given told old before now (Ok None) = IfTold told old.name (HasEnded old)
Says given told old before now (Err (stop.Refused verdict)) =
    IfTold told old.name (IsRefused (λ refusal. IsFaulty old verdict) (refusal_of verdict.refusal))
Says given told old before now (Err stop.InputFault) = Rose before now
Says given told old before now (Err stop.InputTooLong) =
    IfTold told old.name (IsLongAt old.offset (OnlyEnds old))

-- What is read of a frame, or its refusal, as the answer of a call that may also end.
abbrev pub as_some : {T : Type 0} → Result T Verdict → Result (Option T) ReadStop
as_some (Ok x) = Ok (Some x)
as_some (Err verdict) = Err (stop.Refused verdict)

-- The next command, or why there is none.
abbrev pub NextSays : Option (List (List ℕ × List ℕ)) → Reader → Reader → ℕ → ℕ
    → Result (Option Item) ReadStop → Type 0
NextSays told old new before now result =
    Says (λ (item : Item). IfTold told old.name (IsNext old new item)) told old before now result

-- What holds of an item, whether or not the inputs tell.
pub record ItemFits (old new : Reader) (item : Item) : Type 0 where
  pub number : item.number ≡ old.number
  pub next_number : new.number ≡ old.number + 1
  pub further : old.offset < new.offset
  pub within : new.offset ≤ limit
  pub version : is_version item.version ≡ true
  pub writable : IsWritable item.version (meaning_of item.command)
  pub can_write : CanWrite item.version (meaning_of item.command)
  pub payload : item.data_at + length (bytes_of (meaning_of item.command)) ≤ limit
  pub same_stream : (version : ℕ) → old.fed.due ≡ CommandDue version → item.version ≡ version
  pub due : new.fed.due ≡ due_after item.version (meaning_of item.command)
  pub at_end : new.fed.ended ≡ is_last (meaning_of item.command)
  pub spelled : item.canonical ≡ true
      → new.fed.last ≡ canonical item.version (meaning_of item.command)
  pub unlike : item.canonical ≡ false
      → new.fed.last ≢ canonical item.version (meaning_of item.command)

-- The same where something was given.
abbrev pub IfItem : {T : Type 0} → Result (Option T) ReadStop → (T → Type 0) → Type 0
IfItem (Ok (Some x)) P = P x
IfItem (Ok None) P = ⊤
IfItem (Err why) P = ⊤

-- A file ends only where its last command was END.
abbrev pub EndsAfterEnd : {T : Type 0} → Reader → Result (Option T) ReadStop → Type 0
EndsAfterEnd old (Ok None) = old.fed.ended ≡ true
EndsAfterEnd old (Ok (Some x)) = ⊤
EndsAfterEnd old (Err why) = ⊤

-- ---- a command that was read and not made

-- What an item of the definitions is to a reader that has gone past it, whether or not the inputs
-- tell; where they tell, it is the next one.
pub record HasRead (told : Option (List (List ℕ × List ℕ))) (old new : Reader)
    (item : reading.Item) : Type 0 where
  pub file : item.file ≡ old.file
  pub number : item.number ≡ old.number
  pub next_number : new.number ≡ old.number + 1
  pub further : old.offset < new.offset
  pub within : new.offset ≤ limit
  pub version : is_version item.version ≡ true
  pub can_write : CanWrite item.version item.command
  pub payload : item.data_at + length (bytes_of item.command) ≤ limit
  pub same_stream : (version : ℕ) → old.fed.due ≡ CommandDue version → item.version ≡ version
  pub due : new.fed.due ≡ due_after item.version item.command
  pub at_end : new.fed.ended ≡ is_last item.command
  pub next : IfTold told old.name (GoesOn old new item)
