-- The one answer that is due where no device fails and memory is there: for each word, over a base
-- that is given, and the files. The order of answers is this program's own.
use Rattle.std.specs.Prelude.{◌≡◌, ◌<◌, ◌≤◌, ℕ, ◌+◌, ◌^◌, Bool, true, false, List, [], ◌∷◌, ◌++◌, length, take, Option, None, Some, nat_lt, codes, if◌then◌else◌}
use Rattle.std.specs.Fmt.{decimal}
use Rattle.send_model.specs.Refusal.{Refusal, NotConsecutive}
use Rattle.send_model.specs.Reading.{Item, Verdict, Ending, Whole, Faulty, Reading, reads, input}
use Rattle.send_model.specs.Lengths.{limit, is_too_long, too_long}
use Rattle.send_model.specs.Store.{Key, Store, State, After, head_of, step}
use Rattle.send_model.specs.Receive.{Ran, run_by, verdict_of, first_of, fault_of, byte_cells, start_of}
use Rattle.send_model.specs.Guards.{Guard, Watched, watched_step}
use Rattle.send_model.specs.Order.{heads, breaks_order, part_after, judge_items, without_parts, judge_of}
use Rattle.send_model.specs.Outside.{part_uuids}
use Rattle.send_model.specs.Provenance.{Traced, traced_store, traced_step, uuid_after, is_redirected, clone_range, ranges_from, uncarried_in}

-- An answer that the files decide: all was done, a command is refused, a file is too long, or the
-- bytes of redirected clones that no outside subvolume carries are too many.
pub data Due : Type 0 where
  DoneWhole : Due
  RefusedAt : Verdict → Due
  TooLong : (file : ℕ) → Due
  TooMuch : (sum : ℕ) → Due

-- ---- compose

-- The most bytes of redirected clones that are written.
abbrev pub most_literal : ℕ
most_literal = 2 ^ 40

-- The uncarried bytes of a command: those of a redirected clone.
abbrev pub uncarried_of : Store ℕ → List (List ℕ) → State Traced → Option (List ℕ) → Item → ℕ
uncarried_of base parts state current item =
    if is_redirected parts current item.command then uncarried_in base
    (clone_range state item.command ∷ []) else 0

-- What follows an item: its refusal, its breach of the order of parts, too many bytes up to it, or
-- the rest.
abbrev pub then_due : Item → Option Refusal → Bool → ℕ → Option Due → Option Due
then_due item (Some refusal) breaks sum rest = Some (RefusedAt (verdict_of item refusal))
then_due item None true sum rest = Some (RefusedAt (verdict_of item NotConsecutive))
then_due item None false sum rest = if nat_lt most_literal sum then Some (TooMuch sum) else rest

-- How far composing has come: the store and the part so far, the part that the next head has to
-- follow, the uuid of the part so far, and how many bytes of redirected clones were written.
pub record SoFarBy (S : Type 0) : Type 0 where
  pub state : S
  pub previous : Option Key
  pub current : Option (List ℕ)
  pub sum : ℕ

abbrev pub come_by : {S : Type 0}
    → (state : S) (previous : Option Key) (current : Option (List ℕ)) (sum : ℕ) → SoFarBy S
come_by state previous current sum =
    record { state = state; previous = previous; current = current; sum = sum }

abbrev pub SoFar : Type 0
SoFar = SoFarBy (State Traced)

abbrev pub come_to : (state : State Traced) (previous : Option Key) (current : Option (List ℕ))
    (sum : ℕ) → SoFar
come_to state previous current sum = come_by state previous current sum

-- The first item that ends composing, where it has come so far before them; it is given what an
-- item does to a state, and how many bytes are written for it.
unfoldable pub due_by : {S : Type 0} → (S → Item → After S) → (S → Option (List ℕ) → Item → ℕ)
    → SoFarBy S → List Item → Option Due
due_by does much so_far [] = None
due_by does much so_far (item ∷ items) =
    let stepped = does so_far.state item in
    let sum : ℕ = so_far.sum + much so_far.state so_far.current item in
    then_due item stepped.refusal (breaks_order so_far.previous (head_of item.command)) sum
    (due_by does much
    (come_by stepped.state (part_after so_far.previous (head_of item.command))
    (uuid_after so_far.current item.command) sum) items)

unfoldable pub due_from : Store ℕ → List (List ℕ) → SoFar → List Item → Option Due
unfolding due_by
due_from base parts so_far items = due_by traced_step (uncarried_of base parts) so_far items

abbrev pub refused_due : Option Verdict → Due
refused_due None = DoneWhole
refused_due (Some verdict) = RefusedAt verdict

abbrev pub or_due : Option Due → Due → Due
or_due None other = other
or_due (Some due) other = due

-- Of what was read: the commands in order, with what ends composing among them; then the fault that
-- ended the reading; and last, that there is no part.
abbrev pub reading_by : Option Due → Reading → Due
reading_by among reading =
    or_due among
    (refused_due
    (first_of (fault_of reading.end) (without_parts reading.items (heads reading.items))))

abbrev pub reading_due : Store ℕ → Reading → Due
reading_due base reading =
    reading_by
    (due_from base (part_uuids reading.items)
    (come_to (start_of (traced_store base)) None None 0) reading.items) reading

-- All files are read for their heads before a command is looked at, up to the first fault. So the
-- first among these that is too long, if there is one, comes before all else; a file behind the
-- fault is not looked at.
abbrev pub unless_long : Option ℕ → Due → Due
unless_long (Some file) due = TooLong file
unless_long None due = due

abbrev pub compose_due_of : Option ℕ → Store ℕ → Reading → Due
compose_due_of first_long base reading = unless_long first_long (reading_due base reading)

abbrev pub compose_due : Store ℕ → List (List ℕ) → Due
compose_due base files = compose_due_of (too_long files) base (input files)

-- ---- what it means that too much would be written

-- The uncarried bytes of commands in front, where all parts of all items count as parts of the same
-- files.
abbrev pub uncarried_up_to : Store ℕ → List Item → List Item → ℕ
uncarried_up_to base items front =
    uncarried_in base (ranges_from (part_uuids items) (start_of (traced_store base)) None front)

-- A command is the first with which too much would be written: it and all before it are accepted,
-- and in order; up to it so many bytes of redirected clones would be written, more than are; and
-- without it they are not more. How many there are up to a command is given.
pub record IsFirstMuchBy (up_to : List Item → ℕ) (base : Store ℕ) (items : List Item)
    (sum : ℕ) : Type 0 where
  pub before : List Item
  pub item : Item
  pub after : List Item
  pub parts : items ≡ before ++ item ∷ after
  pub accepted : judge_items 0 byte_cells (start_of base) None (before ++ item ∷ []) ≡ None
  pub within : up_to before ≤ most_literal
  pub sum_is : sum ≡ up_to (before ++ item ∷ [])
  pub much : most_literal < sum

-- Written are the bytes that no outside subvolume carries.
abbrev pub IsFirstMuch : (base : Store ℕ) (items : List Item) (sum : ℕ) → Type 0
IsFirstMuch base items sum = IsFirstMuchBy (uncarried_up_to base items) base items sum

-- ---- audit

-- How far files are read: to the end of the last, to a fault, or to the limit of one that is too
-- long.
pub data Stop : Type 0 where
  AtEnd : Stop
  AtFault : Verdict → Stop
  AtLimit : (file : ℕ) → Stop

pub record Limited : Type 0 where
  pub items : List Item
  pub stop : Stop

abbrev pub then_limited : List Item → Ending → Limited → Limited
then_limited items Whole rest = record { items = items ++ rest.items; stop = rest.stop }
then_limited items (Faulty verdict) rest = record { items = items; stop = AtFault verdict }

-- Files in order, of which the first has the given number; of one that is too long, what stands
-- before the limit.
unfoldable pub limited_from : ℕ → List (List ℕ) → Limited
limited_from number [] = record { items = []; stop = AtEnd }
limited_from number (bytes ∷ files) =
    if is_too_long number bytes then record {
      items = (reads number (take limit bytes)).items;
      stop = AtLimit number;
    }
    else then_limited (reads number bytes).items (reads number bytes).end
    (limited_from (number + 1) files)

abbrev pub stop_due : Stop → Due
stop_due AtEnd = DoneWhole
stop_due (AtFault verdict) = RefusedAt verdict
stop_due (AtLimit file) = TooLong file

-- Each command as it is read, under guards; so a refusal comes before a later file that is too
-- long.
abbrev pub audit_due_of : Store ℕ → List Guard → Limited → Due
audit_due_of store guards read =
    let start : Watched (State ℕ) = record { guards = guards; state = start_of store } in
    let ran : Ran (Watched (State ℕ)) =
    run_by (watched_step
    (λ s item. step 0 (byte_cells item) s item.command)) start read.items in
    elim ran.refused [ Some verdict ↦ RefusedAt verdict | None ↦ stop_due read.stop ]

unfoldable pub audit_due : Store ℕ → List Guard → List (List ℕ) → Due
audit_due store guards files = audit_due_of store guards (limited_from 1 files)

-- What it prints where all is accepted: the parts and the commands of all files.
abbrev pub accepted_line_of : List Item → List ℕ
accepted_line_of items =
    codes "accepted " ++ decimal (length (heads items)) ++ 0x20 ∷ decimal (length items)
    ++ 0x0a ∷ []

unfoldable pub accepted_line : List (List ℕ) → List ℕ
accepted_line files = accepted_line_of (input files).items

-- ---- dump and export

-- One file, whose commands are looked at by nobody.
unfoldable pub file_due : List ℕ → Due
file_due bytes =
    if is_too_long 1 bytes then TooLong 1 else refused_due (fault_of (reads 1 bytes).end)

-- ---- laws

-- The answer of compose is the verdict on what was read, unless a file is too long or there is too
-- much: then more bytes than are written are uncarried, up to the first command with which they
-- are; and where there is such a command, that is the answer.
pub record IsJudgedBy (due : Due) (up_to : List Item → ℕ) (first_long : Option ℕ) (base : Store ℕ)
    (reading : Reading) : Type 0 where
  pub done : due ≡ DoneWhole → (judge_of base reading ≡ None) × (up_to reading.items ≤ most_literal)
  pub refused : (verdict : Verdict) → due ≡ RefusedAt verdict → judge_of base reading ≡ Some verdict
  pub long : (file : ℕ) → due ≡ TooLong file → first_long ≡ Some file
  pub much : (sum : ℕ) → due ≡ TooMuch sum → (most_literal < sum) × (sum ≤ up_to reading.items)
  pub first : (sum : ℕ) → due ≡ TooMuch sum → IsFirstMuchBy up_to base reading.items sum
  pub answered : (sum : ℕ) → first_long ≡ None → IsFirstMuchBy up_to base reading.items sum
      → due ≡ TooMuch sum

abbrev pub IsJudgedOf : (first_long : Option ℕ) (base : Store ℕ) (reading : Reading) → Type 0
IsJudgedOf first_long base reading =
    IsJudgedBy (compose_due_of first_long base reading)
    (uncarried_up_to base reading.items) first_long base reading

-- So it is of files.
abbrev pub IsJudged : (base : Store ℕ) (files : List (List ℕ)) → Type 0
IsJudged base files = IsJudgedOf (too_long files) base (input files)
