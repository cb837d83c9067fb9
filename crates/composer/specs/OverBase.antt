-- What composing keeps between two commands over any base, with redirected clones and in either
-- version; what one command does to it; and what it has written then, by the items so far.
use Rattle.std.specs.Prelude.{◌≡◌, ℕ, ◌+◌, Bool, true, false, ◌||◌, List, [], ◌∷◌, ◌++◌, Option, None, Some, Result, Ok, Err, is_some, nat_lt, if◌then◌else◌}
use Rattle.send_model.specs.Refusal.{Refusal, NotConsecutive}
use Rattle.send_model.specs.Command.{Command}
use Rattle.send_model.specs.Spelling.{stream_header, canonical, canonical_all}
use Rattle.send_model.specs.Reading.{Item, is_version, input}
use Rattle.send_model.specs.Store.{Key, Head, head_of, Store, State, find}
use Rattle.send_model.specs.Receive.{start_of, verdict_of}
use Rattle.send_model.specs.Order.{heads, breaks_order, part_after}
use Rattle.send_model.specs.Outside.{is_among, part_uuids}
use Rattle.send_model.specs.Provenance.{Traced, traced_store, traced_step, uuid_after}
use Rattle.send_model.specs.Composed.{first_head, last_head, head_command, version_of, commands_for, composed_from}
use Rattle.send_model.specs.Headline.{stream_front}
use Rattle.send_model.specs.Laws.{AreInner}
use Rattle.send_model.specs.Due.{Due, RefusedAt, TooMuch, most_literal, uncarried_of}
use Rattle.send_model.specs.Overridden.{Overrides, overridden}

-- What is known before the first command: the base, which is the store without the parts; the
-- parts' uuids; the version of the stream that is written; and the last part's head, where there is
-- a part.
pub record Plan : Type 0 where
  pub base : Store ℕ
  pub parts : List (List ℕ)
  pub version : ℕ
  pub last : Option Head

-- The plan for all items of what is read.
abbrev pub plan_of : Store ℕ → List Item → Plan
plan_of base items =
    record {
      base = base;
      parts = part_uuids items;
      version = version_of items;
      last = last_head (heads items);
    }

-- What is kept between two commands: the store and the part so far, with where their bytes come
-- from; the part that the next head has to follow; the uuid of the part so far; whether the stream
-- has begun; how many bytes of redirected clones came from no outside subvolume; and the bytes that
-- are to be written.
pub record Composing : Type 0 where
  pub state : State Traced
  pub previous : Option Key
  pub current : Option (List ℕ)
  pub begun : Bool
  pub sum : ℕ
  pub pending : List ℕ

-- Before the first command.
abbrev pub at_start : Plan → Composing
at_start plan =
    record {
      state = start_of (traced_store plan.base);
      previous = None;
      current = None;
      begun = false;
      sum = 0;
      pending = [];
    }

-- Why a command is not taken: it is refused, or with it too many bytes come from no outside
-- subvolume.
pub data Halt : Type 0 where
  Refuses : Refusal → Halt
  Exceeds : (sum : ℕ) → Halt

-- The answer that is due where an item is not taken.
abbrev pub halt_due : Item → Halt → Due
halt_due item (Refuses refusal) = RefusedAt (verdict_of item refusal)
halt_due item (Exceeds sum) = TooMuch sum

-- ---- one command

-- The first head begins the stream, in the name and with the key of the last.
abbrev pub begin_bytes : ℕ → Bool → Head → Option Head → List ℕ
begin_bytes version begun last None = []
begin_bytes version true last (Some head) = []
begin_bytes version false last (Some head) =
    stream_header version ++ canonical version (head_command last.name last.key head.parent)

-- The bytes that a command adds, where the last head is given.
abbrev pub added_with : Plan → Composing → Option Head → Command → List ℕ
added_with plan now None command = []
added_with plan now (Some last) command =
    begin_bytes plan.version now.begun last (head_of command)
    ++ canonical_all plan.version
    (commands_for plan.base plan.parts last.key now.state now.current command)

-- What is kept after an item that is taken.
abbrev pub after_item : Plan → Composing → Item → Composing
after_item plan now item = record {
  state = (traced_step now.state item).state;
  previous = part_after now.previous (head_of item.command);
  current = uuid_after now.current item.command;
  begun = now.begun || is_some (head_of item.command);
  sum = now.sum + uncarried_of plan.base plan.parts now.state now.current item;
  pending = now.pending ++ added_with plan now plan.last item.command;
}

-- A head comes where no head was read before.
abbrev pub is_unforeseen : Option Head → Option Head → Bool
is_unforeseen last None = false
is_unforeseen None (Some head) = true
is_unforeseen (Some last) (Some head) = false

-- The refusal of the step; or else a head out of order; or else too many bytes; or what is kept
-- then.
abbrev pub then_kept : Option Refusal → Bool → Composing → Result Composing Halt
then_kept (Some refusal) unordered next = Err (Refuses refusal)
then_kept None true next = Err (Refuses NotConsecutive)
then_kept None false next = if nat_lt most_literal next.sum then Err (Exceeds next.sum) else Ok next

-- One item: its step, the order of its head, the sum of bytes, and the bytes that it adds.
unfoldable pub advance : Plan → Composing → Item → Result Composing Halt
advance plan now item =
    then_kept (traced_step now.state item).refusal
    (breaks_order now.previous (head_of item.command)
    || is_unforeseen plan.last (head_of item.command))
    (after_item plan now item)

-- Nothing follows an item that is not taken.
abbrev pub then_items : Result Composing Halt → (Composing → Result Composing Halt)
    → Result Composing Halt
then_items (Ok now) rest = rest now
then_items (Err halt) rest = Err halt

-- Items in order, up to the first that is not taken.
unfoldable pub advance_all : Plan → Composing → List Item → Result Composing Halt
advance_all plan now [] = Ok now
advance_all plan now (item ∷ items) =
    then_items (advance plan now item) (λ next. advance_all plan next items)

-- What composing would keep if these bytes were not sent yet.
abbrev pub unsent : List ℕ → Composing → Composing
unsent sent now = record now { pending = sent ++ now.pending }

-- ---- the items so far

-- The commands that stand for the items so far, where their first head and the last head of all are
-- given; nothing before the first head.
abbrev pub composed_up_to : Plan → Option Head → Head → List Item → List Command
composed_up_to plan None last items = []
composed_up_to plan (Some first) last items =
    head_command last.name last.key first.parent
    ∷ composed_from plan.base plan.parts last.key (start_of (traced_store plan.base)) None items

-- Their bytes, with the header of the stream, where there is a last head.
abbrev pub written_with : Plan → Option Head → List Item → List ℕ
written_with plan None items = []
written_with plan (Some last) items =
    stream_front plan.version (composed_up_to plan (first_head (heads items)) last items)

-- The bytes of the stream up to the last of the items.
abbrev pub written_up_to : Plan → List Item → List ℕ
written_up_to plan items = written_with plan plan.last items

-- The uuid of the part after items.
abbrev pub current_after : Option (List ℕ) → List Item → Option (List ℕ)
current_after current [] = current
current_after current (item ∷ items) = current_after (uuid_after current item.command) items

-- Items are all taken, and lead from one state to another.
abbrev pub AreTaken : State Traced → List Item → State Traced → Type 0
AreTaken state [] end = state ≡ end
AreTaken state (item ∷ items) end =
    ((traced_step state item).refusal ≡ None) × AreTaken (traced_step state item).state items end

-- Each command that stands for the items so far can be written in the version of the stream, and
-- none of them is END.
abbrev pub AreWritable : Plan → List Item → Type 0
AreWritable plan items =
    (first last : Head) → first_head (heads items) ≡ Some first → plan.last ≡ Some last
    → AreInner plan.version (composed_up_to plan (Some first) last items)

-- ---- files

-- The plan for files with the names that are given: what reading them once over finds.
abbrev pub plan_for : Store ℕ → Overrides → List (List ℕ) → Plan
plan_for base given files = plan_of base (overridden given (input files)).items

-- A base finds none of the uuids.
abbrev pub HasNone : Store ℕ → List (List ℕ) → Type 0
HasNone base uuids = (k : Key) → is_among uuids k.uuid ≡ true → find base k ≡ None

-- What is known once the files were read for their heads: the base has none of their parts, the
-- version of the stream is one that is read, and what stands for items that are taken can be
-- written in it.
pub record AreReady (base : Store ℕ) (given : Overrides) (files : List (List ℕ)) : Type 0 where
  pub none : HasNone base (part_uuids (overridden given (input files)).items)
  pub version : is_version (version_of (overridden given (input files)).items) ≡ true
  pub writable : (items more : List Item) (end : State Traced)
      → (overridden given (input files)).items ≡ items ++ more
      → AreTaken (start_of (traced_store base)) items end
      → AreWritable (plan_for base given files) items
