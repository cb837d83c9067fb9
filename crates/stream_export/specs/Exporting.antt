-- What is exported over subvolumes whose cells carry nothing: no separator and no step looks at
-- cells. This program's own.
use Rattle.std.specs.Prelude.{is_some, ◌||◌, ◌≡◌, ℕ, Bool, List, [], ◌∷◌, ◌++◌, Option, None, Some}
use Rattle.std.specs.Option.{option_map}
use Rattle.send_model.specs.Command.{Command}
use Rattle.send_model.specs.Reading.{Item}
use Rattle.send_model.specs.Counts.{is_end}
use Rattle.send_model.specs.Store.{head_of, State, After}
use Rattle.send_model.specs.Opened.{Opened, written_path, kept_at}
use Rattle.send_model.specs.Separated.{separator, open_anew, other_path}
use Rattle.send_model.specs.Exported.{Exporting, separated_by, AreSmallBy}
use Rattle.send_model.specs.Receivable.{receivable, header_before, exported_from}
use Rattle.auditor.specs.Following.{blank_step, beside, AreAccepted}

-- A cell that carries nothing.
abbrev pub Blank : Type 0
Blank = Unit {0}

-- What an item does to a state whose cells carry nothing.
abbrev pub blank_does : State Blank → Item → After (State Blank)
blank_does state item = blank_step state item.command

-- ---- one command

-- A head and END close the file that is open.
abbrev pub closes : Command → Bool
closes command = is_some (head_of command) || is_end command

-- Commands in the receivable spelling, one after the other.
abbrev pub all_receivable : ℕ → List Command → List ℕ
all_receivable version [] = []
all_receivable version (c ∷ cs) = receivable version c ++ all_receivable version cs

-- What goes before a command.
abbrev pub before : Exporting Blank → Command → List Command
before now c = separator now.opened now.other now.state c

-- What is known after what goes before a command: the file that is open then, and the path before
-- it.
abbrev pub opened_for : Exporting Blank → Command → Exporting Blank
opened_for now c =
    record now {
      opened = open_anew now.opened now.state c;
      other = other_path now.other now.opened (written_path c);
    }

-- The path that is opened to write to it, if it is not open yet.
abbrev pub opening : Option Opened → Option (List ℕ) → Option (List ℕ)
opening opened None = None
opening opened (Some path) =
    elim (kept_at opened (Some path)) [ None ↦ Some path | Some ino ↦ None ]

-- What is known right before a command is taken: the same, where it opens a file; else what is
-- known after what goes before it.
abbrev pub ready_for : Exporting Blank → Command → Exporting Blank
ready_for now c =
    elim (opening now.opened (written_path c)) [ None ↦ opened_for now c | Some path ↦ now ]

-- A file that is open.
abbrev pub opened_by : List ℕ → ℕ → Opened
opened_by path ino = record { path = path; ino = ino }

-- A path that was not open is opened, if it leads to an inode; the one that was open is the one
-- before it.
abbrev pub opened_anew : Exporting Blank → List ℕ → Option ℕ → Exporting Blank
opened_anew now path ino = record now {
  opened = option_map (λ i. opened_by path i) ino;
  other = elim now.opened [ None ↦ now.other | Some opened ↦ opened.path ];
}

-- The header of a stream where the command begins one, what goes before it, and the command.
abbrev pub export_bytes : Bool → Exporting Blank → ℕ → Command → List ℕ
export_bytes begins now version c =
    header_before begins version ++ (all_receivable version (before now c) ++ receivable version c)

-- ---- commands one after the other

-- What is known between two commands, and whether the next one begins a stream.
pub record Point : Type 0 where
  pub now : Exporting Blank
  pub begins : Bool

-- All that is written of items from a point on.
abbrev pub written_from : Point → List Item → List ℕ
written_from point items = exported_from point.begins (separated_by blank_does point.now items)

-- Before each of the items the part is small.
abbrev pub SmallFrom : Point → List Item → Type 0
SmallFrom point items = AreSmallBy blank_does point.now.state items

-- Items are all taken and lead from one point to another, and these bytes are written of them; what
-- else is read comes after.
pub record Goes (old : Point) (items : List Item) (new : Point) (text : List ℕ) : Type 0 where
  pub accepted : AreAccepted (beside [] old.now.state) items (beside [] new.now.state)
  pub written : (more : List Item)
      → written_from old (items ++ more) ≡ text ++ written_from new more
  pub small : (more : List Item) → SmallFrom new more → SmallFrom old (items ++ more)
