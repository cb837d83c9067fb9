-- What the composer answers to one item: what it keeps then and what it has written, or why it
-- stops.
use Rattle.std.specs.Prelude.{◌≡◌, ◌≢◌, ◌⊎◌, ⊤, ℕ, ◌+◌, ◌-◌, ◌<◌, ◌≤◌, Bool, false, ◌&&◌, List, [], ◌++◌, length, take, drop, get_or, Option, None, Some, Result, Ok, Err}
use Rattle.std.specs.Io.KnownBytes.{Appends}
use Rattle.send_model.specs.Refusal as meant
use Rattle.send_model.specs.Command.{End}
use Rattle.send_model.specs.Spelling.{canonical}
use Rattle.send_model.specs.Reading.{Item}
use Rattle.std.specs.Str.{bytes_eq}
use Rattle.send_model.specs.Store.{Head, head_of, same_key}
use Rattle.send_model.specs.Receive.{bytes_of, first_of, verdict_of}
use Rattle.sx_base.specs.Asks.{IsData}
use Rattle.sx_base.specs.Causes.{Rose}
use Rattle.sx_base.specs.Outside.{AppendsPart}
use Rattle.sx_base.specs.Calls.{CausedAgain}
use Rattle.sx_base.specs.Refusals.{verdict_meant}
use Rattle.sx_base.specs.declared.outcome.Verdict.{Verdict}
use Rattle.sx_base.specs.declared.outcome.Outcome.{Outcome}
use Rattle.sx_base.specs.declared.outcome.Outcome.TheVariants as ended
use Rattle.sx_base.specs.Causes.{Counts}
use Rattle.clone_pieces.specs.Sending.{AppendsFront, GoesPart, BreaksOff, Output}
use Rattle.clone_pieces.specs.declared.stops.SendStop.{SendStop}
use Rattle.clone_pieces.specs.declared.stops.SendStop.TheVariants as stop
use Rattle.composer.specs.OverBase.{Plan, Composing, Refuses, Exceeds, advance, unsent}
use Rattle.composer.specs.Kept.{Kept, composing_of}
use Rattle.composer.specs.Reached.{Over, Reached}

-- The data of an item stand at its place in its file.
pub record DataStand (files : List (List ℕ)) (item : Item) : Type 0 where
  pub there : take (length (bytes_of item.command))
      (drop item.data_at (get_or files (item.file - 1) [])) ≡ bytes_of item.command
  pub within : item.data_at + length (bytes_of item.command) ≤ length
      (get_or files (item.file - 1) [])
  pub are_data : (k : ℕ) → k < length (bytes_of item.command)
      → IsData (item.file - 1 + 1) (get_or files (item.file - 1) []) (item.data_at + k)

-- The item was taken, and of the bytes that are then to be written some were.
pub record ItemTaken (plan : Plan) (old new : Composing) (item : Item)
    (out_old out_new : Option (List ℕ)) : Type 0 where
  pub next : Composing
  pub sent : List ℕ
  pub taken : advance plan old item ≡ Ok next
  pub rest : next ≡ unsent sent new
  pub appends : Appends out_old out_new sent

-- The item is refused with a verdict at its place.
pub record ItemRefused (plan : Plan) (now : Composing) (item : Item)
    (verdict : Verdict) : Type 0 where
  pub refusal : meant.Refusal
  pub refused : advance plan now item ≡ Err (Refuses refusal)
  pub verdict_is : verdict_meant verdict ≡ verdict_of item refusal

-- Why nothing follows an item: it is refused, or with it there is too much, or there is no memory,
-- or an object of the outside failed. Inputs that tell are not found changed.
abbrev pub ItemWhy : Plan → Composing → Composing → Item → Outcome → Type 0
ItemWhy plan old next item (ended.Refused verdict) =
    (next ≡ old) × ItemRefused plan old item verdict
ItemWhy plan old next item (ended.TooMuch sum) =
    (next ≡ old) × (advance plan old item ≡ Err (Exceeds sum))
ItemWhy plan old next item ended.NoMemory = (next ≡ old) ⊎ (advance plan old item ≡ Ok next)
ItemWhy plan old next item ended.InputFault = (next ≡ old) ⊎ (advance plan old item ≡ Ok next)
ItemWhy plan old next item ended.OutputFault = (next ≡ old) ⊎ (advance plan old item ≡ Ok next)
ItemWhy plan old next item (ended.InputChanged file place) = ⊥
ItemWhy plan old next item (ended.InputTooLong file) = ⊥
ItemWhy plan old next item ended.Done = ⊥

-- Where a command is refused, or there is too much, or a file is too long or found changed, all
-- bytes were written that were then to be written.
abbrev pub AllWhereEnded : Outcome → Option (List ℕ) → Option (List ℕ) → List ℕ → Type 0
AllWhereEnded (ended.Refused verdict) out_old out_new bytes = Appends out_old out_new bytes
AllWhereEnded (ended.TooMuch sum) out_old out_new bytes = Appends out_old out_new bytes
AllWhereEnded (ended.InputTooLong file) out_old out_new bytes = Appends out_old out_new bytes
AllWhereEnded (ended.InputChanged file place) out_old out_new bytes = Appends out_old out_new bytes
AllWhereEnded ended.NoMemory out_old out_new bytes = ⊤
AllWhereEnded ended.InputFault out_old out_new bytes = ⊤
AllWhereEnded ended.OutputFault out_old out_new bytes = ⊤
AllWhereEnded ended.Done out_old out_new bytes = ⊤

-- What became of the bytes that were then to be written. Where the item is refused, or there is too
-- much, all of them were written, and nothing is pending. Where an object of the outside failed or
-- there was no memory, a front part of them had come; of that a front part was written, and the
-- rest is pending.
abbrev pub LeftBy : Outcome → (out_old out_new : Option (List ℕ)) → (left bytes : List ℕ) → Type 0
LeftBy (ended.Refused verdict) out_old out_new left bytes =
    Appends out_old out_new bytes × (left ≡ [])
LeftBy (ended.TooMuch sum) out_old out_new left bytes = Appends out_old out_new bytes × (left ≡ [])
LeftBy ended.OutputFault out_old out_new left bytes = BreaksOff out_old out_new [] left bytes
LeftBy ended.InputFault out_old out_new left bytes = GoesPart out_old out_new [] left bytes
LeftBy ended.NoMemory out_old out_new left bytes = GoesPart out_old out_new [] left bytes
LeftBy (ended.InputTooLong file) out_old out_new left bytes = ⊥
LeftBy (ended.InputChanged file place) out_old out_new left bytes = ⊥
LeftBy ended.Done out_old out_new left bytes = ⊥

-- The item is not taken, or nothing follows it; what became of the bytes that were then to be
-- written.
pub record ItemStops (plan : Plan) (old : Composing) (item : Item) (outcome : Outcome)
    (out_old out_new : Option (List ℕ)) (left : List ℕ) : Type 0 where
  pub next : Composing
  pub why : ItemWhy plan old next item outcome
  pub goes : LeftBy outcome out_old out_new left next.pending

-- After an item that is taken the head that came last is the item's, if it is one.
abbrev pub ItemKept : Kept → Kept → Item → Type 0
ItemKept old new item = new.latest ≡ first_of (head_of item.command) old.latest

abbrev pub ItemEnd : Over → Item → (old new : Reached) → Result (Unit {0}) Outcome → Type 0
ItemEnd o item old new (Ok done) =
    ItemTaken o.plan (composing_of o.files o.plan.base old.kept)
    (composing_of o.files o.plan.base new.kept) item old.taken new.taken
    × ItemKept old.kept new.kept item
ItemEnd o item old new (Err outcome) =
    ItemStops o.plan
    (composing_of o.files o.plan.base old.kept) item outcome old.taken new.taken new.kept.pending

-- ---- causes

-- An error has its cause.
abbrev pub ErrCausedAgain : {T : Type 0} → (before now : Counts) → Result T Outcome → Type 0
ErrCausedAgain before now (Ok x) = ⊤
ErrCausedAgain before now (Err outcome) = CausedAgain before now outcome

-- ---- where composing ends

-- All that was pending was written, and nothing is pending any more.
pub record AllOut (old new : Output) : Type 0 where
  pub appends : Appends old.taken new.taken old.pending
  pub none : new.pending ≡ []
  pub steady : new.faults ≡ old.faults

-- The outcome stays, or what is pending was to be written first and the output failed; but where
-- the inputs have failed, or there is no memory, nothing was, and nothing is asked of the output.
-- Else a front part of what is pending was written: all of it, where the output did not fail then.
pub record StopEnd (old new : Output) (outcome result : Outcome) : Type 0 where
  pub outcome_is : (result ≡ outcome)
      ⊎ ((result ≡ ended.OutputFault) × (outcome ≢ ended.InputFault) × (outcome ≢ ended.NoMemory)
      × Rose old.faults new.faults)
  pub front : AppendsFront old.taken new.taken old.pending
  pub sent : outcome ≢ ended.InputFault → outcome ≢ ended.NoMemory
      → ((result ≡ outcome) × AllOut old new)
      ⊎ ((result ≡ ended.OutputFault) × (new.pending ≡ old.pending) × Rose old.faults new.faults
      × AppendsPart old.taken new.taken old.pending)
  pub quiet : (outcome ≡ ended.InputFault) ⊎ (outcome ≡ ended.NoMemory)
      → (result ≡ outcome) × (new.pending ≡ old.pending) × (new.faults ≡ old.faults)
      × Appends old.taken new.taken []

-- All that was pending with END was written, or a proper front part of it, where the output failed.
abbrev pub EndEnd : List ℕ → Option (List ℕ) → Option (List ℕ) → ℕ → ℕ → Result (Unit {0}) SendStop
    → Type 0
EndEnd bytes out_old out_new before now (Ok done) = Appends out_old out_new bytes
EndEnd bytes out_old out_new before now (Err stop.OutputFault) =
    Rose before now × AppendsPart out_old out_new bytes
EndEnd bytes out_old out_new before now (Err stop.NoMemory) = Appends out_old out_new []
EndEnd bytes out_old out_new before now (Err stop.InputFault) = ⊥
EndEnd bytes out_old out_new before now (Err (stop.InputChanged file place)) = ⊥

-- Where END did not go out, all else stays: END is pending where the output failed, and not where
-- there was no memory for it.
abbrev pub EndStands : ℕ → Kept → Kept → Result (Unit {0}) SendStop → Type 0
EndStands version old new (Ok done) = ⊤
EndStands version old new (Err stop.OutputFault) =
    new ≡ record old { pending = old.pending ++ canonical version End }
EndStands version old new (Err stop.NoMemory) = new ≡ old
EndStands version old new (Err stop.InputFault) = ⊥
EndStands version old new (Err (stop.InputChanged file place)) = ⊥

-- The head that came last is the last of all: it has its name and its key.
abbrev pub is_at_last : Option Head → Option Head → Bool
is_at_last None last = false
is_at_last (Some head) None = false
is_at_last (Some head) (Some last) = same_key last.key head.key && bytes_eq last.name head.name
