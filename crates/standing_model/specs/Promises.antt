-- What `compose-self` promises, and its answer: that of composing, with the blocks that stand
-- counted out. This program's own.
use Rattle.std.specs.Prelude.{◌≡◌, ℕ, true, List, [], ◌∷◌, ◌++◌, length, take, drop, Option, None, Some, if◌then◌else◌}
use Rattle.std.specs.List.{AllByRecursion}
use Rattle.send_model.specs.Command.{Command}
use Rattle.send_model.specs.Attribute.{IsBytes}
use Rattle.send_model.specs.Reading.{Item, Reading, Whole, input, is_version}
use Rattle.send_model.specs.Store.{Key, Head, Store, State}
use Rattle.send_model.specs.Receive.{bytes_of, byte_cells, start_of, run_items, IsAccepted, receive_of, receive}
use Rattle.send_model.specs.Order.{heads, IsConsecutive, judge_of}
use Rattle.send_model.specs.Outside.{part_uuids, base_of, base, keys_outside, outside, FindsLawful, FindsSayable}
use Rattle.send_model.specs.Provenance.{is_redirected, redirected_by, literal_in}
use Rattle.send_model.specs.Headline.{AreComposedBy, IsComposedBy, output_by, IsStoppedBy}
use Rattle.send_model.specs.Due.{Due, due_by, come_by, reading_by, unless_long, IsJudgedBy}
use Rattle.send_model.specs.Overridden.{Overrides, overridden_items}
use Rattle.send_model.specs.Composed.{first_head, last_head, head_command, version_of}
use Rattle.send_model.specs.Laws.{CanWrite, AreInner, IsWhole}
use Rattle.standing_model.specs.Births.{Tagged, tagged_store, tagged_step, tagged_after}
use Rattle.standing_model.specs.Standing.{standing_pieces, unstanding_cells, standing_runs, last_key_of, selfed_from, selfed_of, selfed_before_of}

-- ---- the answer

-- The bytes that are written for a command: those of a redirected clone that are neither carried
-- nor stand.
abbrev pub unstanding_of : Store ℕ → List (List ℕ) → Key → State Tagged → Option (List ℕ) → Item → ℕ
unstanding_of base parts last state current item =
    if is_redirected parts current item.command then literal_in
    (standing_pieces base last state item.command ∷ []) else 0

abbrev pub self_due : Store ℕ → Reading → Due
self_due base reading =
    reading_by
    (due_by tagged_step (unstanding_of base (part_uuids reading.items) (last_key_of reading.items))
    (come_by (start_of (tagged_store base)) None None 0) reading.items) reading

abbrev pub self_due_of : Option ℕ → Store ℕ → Reading → Due
self_due_of first_long base reading = unless_long first_long (self_due base reading)

-- How many bytes are written for the redirected clones among items in front, where all parts of all
-- items count as parts of the same files.
abbrev pub unstanding_up_to : Store ℕ → List Item → List Item → ℕ
unstanding_up_to base items front =
    literal_in
    (redirected_by tagged_after (standing_pieces base (last_key_of items)) (part_uuids items)
    (start_of (tagged_store base)) None front)

-- The answer is the verdict on what was read, unless a file is too long or there is too much, up to
-- the first command with which there is.
abbrev pub IsSelfJudged : (first_long : Option ℕ) (base : Store ℕ) (reading : Reading) → Type 0
IsSelfJudged first_long base reading =
    IsJudgedBy (self_due_of first_long base reading)
    (unstanding_up_to base reading.items) first_long base reading

-- ---- the promise

abbrev pub AreSelfComposed : (base : Store ℕ) (items : List Item) (commands : List Command) → Type 0
AreSelfComposed base items commands =
    AreComposedBy (unstanding_cells base items) (standing_runs base items) base items commands

abbrev pub IsSelfComposedOf : (base : Store ℕ) (reading : Reading) (written : List ℕ) → Type 0
IsSelfComposedOf base reading written =
    IsComposedBy (unstanding_cells base reading.items)
    (standing_runs base reading.items) base reading written

abbrev pub whole_self_output : Store ℕ → Reading → List ℕ
whole_self_output base reading =
    output_by (judge_of base reading) (selfed_of base reading.items)
    (selfed_before_of base reading.items) reading.items

abbrev pub IsSelfStoppedOf : (base : Store ℕ) (reading : Reading) (written : List ℕ) → Type 0
IsSelfStoppedOf base reading written = IsStoppedBy (whole_self_output base reading) written

-- ---- the data of items

-- The file of a number, of files that are counted from 1; none before the first and behind the
-- last.
abbrev pub file_bytes : List (List ℕ) → ℕ → List ℕ
file_bytes files number = elim (drop number ([] ∷ files)) [ [] ↦ [] | bytes ∷ others ↦ bytes ]

-- What an item writes stands at its place in its file.
abbrev pub IsThere : List (List ℕ) → Item → Type 0
IsThere files item =
    take (length (bytes_of item.command)) (drop item.data_at (file_bytes files item.file))
    ≡ bytes_of item.command

abbrev pub AreThere : List (List ℕ) → List Item → Type 0
AreThere files items = AllByRecursion (IsThere files) items

-- ---- laws

-- What is composed from items that a base takes in order, with the part as a source, keeps the
-- promise, where their data stand in files.
abbrev pub SelfItemsHold : Type 0
SelfItemsHold = (files : List (List ℕ)) (store : Store ℕ) (items : List Item) → IsConsecutive items
    → IsAccepted (run_items 0 byte_cells (start_of (base_of store items)) items)
    → FindsLawful (base_of store items) (keys_outside items) → AreThere files items
    → AreSelfComposed (base_of store items) items (selfed_of (base_of store items) items)

-- The data of whatever is read of files stand there.
abbrev pub FilesAreThere : Type 0
FilesAreThere =
    (files : List (List ℕ)) → AllByRecursion IsBytes files → AreThere files (input files).items

-- So it is under whatever is said in front of files, which changes no data.
abbrev pub OverriddenAreThere : Type 0
OverriddenAreThere =
    (files : List (List ℕ)) (overrides : Overrides) (items : List Item) → AreThere files items
    → AreThere files (overridden_items overrides items)

abbrev pub SelfJudges : Type 0
SelfJudges = (first_long : Option ℕ) (base : Store ℕ) (reading : Reading)
    → IsSelfJudged first_long base reading

-- What stands for consecutive first items that a base takes, as the part of the last head of all,
-- can be written in the version of the whole stream, as it is of composing.
abbrev pub SelfFrontsAreWritable : Type 0
SelfFrontsAreWritable =
    (files : List (List ℕ)) (store : Store ℕ) (all items more : List Item) (first last : Head)
    → all ≡ items ++ more → IsConsecutive items
    → IsAccepted (run_items 0 byte_cells (start_of (base_of store all)) items)
    → FindsSayable (base_of store all) (keys_outside all) → AreThere files items
    → AllByRecursion
    (λ item. CanWrite item.version item.command × (is_version item.version ≡ true)) all
    → first_head (heads items) ≡ Some first → last_head (heads all) ≡ Some last
    → AreInner (version_of all) (head_command last.name last.key first.parent
    ∷ selfed_from (base_of store all) (part_uuids all) last.key
    (start_of (tagged_store (base_of store all))) None items)

-- A whole reading that a base takes in order: the stream of what is composed keeps the promise,
-- where each subvolume of the base that it names can be said, and where the data of its items stand
-- in files. So it is of files of bytes.
abbrev pub SelfReadingsHold : Type 0
SelfReadingsHold =
    (files : List (List ℕ)) (store : Store ℕ) (reading : Reading) → IsWhole reading
    → IsConsecutive reading.items
    → IsAccepted (receive_of (base_of store reading.items) reading)
    → FindsSayable (base_of store reading.items) (keys_outside reading.items)
    → AreThere files reading.items
    → IsSelfComposedOf (base_of store reading.items) reading
    (output_by None (selfed_of (base_of store reading.items) reading.items) [] reading.items)

abbrev pub SelfFilesHold : Type 0
SelfFilesHold =
    (store : Store ℕ) (files : List (List ℕ)) → AllByRecursion IsBytes files
    → (input files).end ≡ Whole
    → IsConsecutive (input files).items → IsAccepted (receive (base store files) files)
    → FindsSayable (base store files) (outside files)
    → IsSelfComposedOf (base store files) (input files)
    (output_by None (selfed_of (base store files) (input files).items) [] (input files).items)
