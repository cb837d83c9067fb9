-- The headline: for every store and every list of consecutive streams that it accepts in order,
-- compose writes one stream that names only the first stream's parent and subvolumes outside the
-- list; every store holding these same subvolumes, and neither the last name nor uuid, accepts it
-- and gets exactly the last stream's subvolume; and it writes literally only the streams' own bytes
-- and cloned blocks that no outside subvolume carries. This program's own promise.
use Rattle.std.specs.Prelude.{◌≡◌, ◌≢◌, ℕ, ◌+◌, ◌≤◌, List, [], ◌∷◌, ◌++◌, length, take, Option, None, Some, false, ◌⊎◌, ◌<◌}
use Rattle.std.specs.List.{AllByRecursion}
use Rattle.send_model.specs.Command.{Command}
use Rattle.send_model.specs.Spelling.{stream_header, canonical_all}
use Rattle.send_model.specs.Reading.{Item, Verdict, Reading, Whole, reads, input}
use Rattle.send_model.specs.Subvolume.{Subvolume}
use Rattle.send_model.specs.Store.{Head, Entry, Store, IsStore, has_name, has_uuid, find, completed}
use Rattle.send_model.specs.Receive.{IsAccepted, run_items, byte_cells, start_of, receive_of, receive}
use Rattle.send_model.specs.Order.{heads, heads_of, commands_of, IsConsecutive, judge_of}
use Rattle.send_model.specs.Outside.{keys_outside, all_keys_named, IsAmong, SameOn}
use Rattle.send_model.specs.Provenance.{uncarried_cells, carried_runs}
use Rattle.send_model.specs.Counts.{literal, clones, streams, kept_of}
use Rattle.send_model.specs.Composed.{first_head, last_head, version_of, composed_of, composed_before_of}

-- The commands of a stream that was written.
abbrev pub commands_in : List ℕ → List Command
commands_in written = commands_of (reads 1 written).items

-- A store that the composed stream can be received into: it finds the same outside subvolumes as
-- the base, and has neither the last part's name nor its uuid.
pub record CanReceiveOf (base : Store ℕ) (items : List Item) (last : Head)
    (store : Store ℕ) : Type 0 where
  pub lawful : IsStore store
  pub same : SameOn base store (keys_outside items)
  pub no_name : has_name last.name store ≡ false
  pub no_uuid : has_uuid last.key.uuid store ≡ false

-- The entry that such a store gets: the last part's name, key and subvolume, with the first part's
-- parent.
abbrev pub last_entry : Head → Head → Subvolume ℕ → Entry (Subvolume ℕ)
last_entry first last subvolume =
    record { name = last.name; key = last.key; parent = first.parent; contents = Some subvolume }

-- What the composed commands of items promise over a base, which is a store without the items' own
-- parts. Nothing is said here of how commands stand in streams, so this speaks of all commands,
-- those that no stream is read for among them. How many bytes of redirected clones are written, and
-- how many clones stand for them, is given.
pub record AreComposedBy (written_bytes runs : ℕ) (base : Store ℕ) (items : List Item)
    (commands : List Command) : Type 0 where
  -- the first and the last part, and the subvolume that the last one makes
  pub first : Head
  pub last : Head
  pub subvolume : Subvolume ℕ
  pub first_is : first_head (heads items) ≡ Some first
  pub last_is : last_head (heads items) ≡ Some last
  pub subvolume_is : find (completed (run_items 0 byte_cells (start_of base) items).state) last.key
      ≡ Some subvolume
  -- one stream with one part
  pub one_part : length (heads_of commands) ≡ 1
  pub one_stream : streams commands ≡ 1
  -- in whatever items they stand, each store that finds the same outside subvolumes, and has
  -- neither the last name nor uuid, takes them all, keeps what it had, and gets exactly the last
  -- part's subvolume
  pub gets : (store : Store ℕ) → SameOn base store (keys_outside items)
      → has_name last.name store ≡ false → has_uuid last.key.uuid store ≡ false
      → (written : List Item) → commands_of written ≡ commands
      → run_items 0 byte_cells (start_of store) written
      ≡ record {
        state = start_of (store ++ last_entry first last subvolume ∷ []);
        refused = None;
      }
  -- they name outside subvolumes and their own part alone
  pub names_only : AllByRecursion (λ key. IsAmong key (keys_outside items) ⊎ (key ≡ last.key))
      (all_keys_named commands)
  -- they carry the items' own bytes and those of cloned blocks that are written; their clones are
  -- those that are not redirected, and one for each run
  pub literal_bytes : literal commands ≡ literal (commands_of items) + written_bytes
  pub clone_count : clones commands ≡ kept_of items + runs

-- Written are the blocks that no outside subvolume carries, and the runs are those of carried
-- blocks.
abbrev pub AreComposed : (base : Store ℕ) (items : List Item) (commands : List Command) → Type 0
AreComposed base items commands =
    AreComposedBy (uncarried_cells base items) (carried_runs base items) base items commands

-- What compose promises of what it wrote for what was read, over a base, which is the store without
-- the parts that were read.
pub record IsComposedBy (written_bytes runs : ℕ) (base : Store ℕ) (reading : Reading)
    (written : List ℕ) : Type 0 where
  -- reading came to a whole end, and the parts are accepted in order, each after the first a
  -- snapshot of the one before
  pub read_whole : reading.end ≡ Whole
  pub accepted : IsAccepted (receive_of base reading)
  pub consecutive : IsConsecutive reading.items
  -- the first and the last part, and the subvolume that the last one makes
  pub first : Head
  pub last : Head
  pub subvolume : Subvolume ℕ
  pub first_is : first_head (heads reading.items) ≡ Some first
  pub last_is : last_head (heads reading.items) ≡ Some last
  pub subvolume_is : find (receive_of base reading).state.store last.key ≡ Some subvolume
  -- one stream with one part
  pub whole : (reads 1 written).end ≡ Whole
  pub one_part : length (heads_of (commands_in written)) ≡ 1
  pub one_stream : streams (commands_in written) ≡ 1
  -- every such store accepts it, keeps what it had, and gets exactly the last part's subvolume
  pub accepted_by : (store : Store ℕ) → CanReceiveOf base reading.items last store
      → IsAccepted (receive store (written ∷ []))
  pub gets : (store : Store ℕ) → CanReceiveOf base reading.items last store
      → (receive store (written ∷ [])).state.store ≡ store ++ last_entry first last subvolume ∷ []
  -- it names only the outside subvolumes, beside itself
  pub names_only : AllByRecursion
      (λ key. IsAmong key (keys_outside reading.items) ⊎ (key ≡ last.key))
      (all_keys_named (commands_in written))
  -- its literal bytes are those that were read and those of cloned blocks that are written
  pub literal_bytes : literal (commands_in written)
      ≡ literal (commands_of reading.items) + written_bytes
  pub clone_count : clones (commands_in written) ≡ kept_of reading.items + runs

-- Written are the blocks that no outside subvolume carries, and the runs are those of carried
-- blocks.
abbrev pub IsComposedOf : (base : Store ℕ) (reading : Reading) (written : List ℕ) → Type 0
IsComposedOf base reading written =
    IsComposedBy (uncarried_cells base reading.items)
    (carried_runs base reading.items) base reading written

-- So it is of files.
abbrev pub IsComposed : (base : Store ℕ) (files : List (List ℕ)) (written : List ℕ) → Type 0
IsComposed base files written = IsComposedOf base (input files) written

-- What stands on standard output does not read as a whole stream.
abbrev pub IsUnfinished : List ℕ → Type 0
IsUnfinished written = (reads 1 written).end ≢ Whole

-- ---- what stands on standard output where compose stops before its end

-- The header of a stream of a version and commands; nothing where there are no commands.
abbrev pub stream_front : ℕ → List Command → List ℕ
stream_front version [] = []
stream_front version (c ∷ cs) = stream_header version ++ canonical_all version (c ∷ cs)

-- All that compose may write for items, by the verdict on what was read: what they are composed to;
-- or, where a command is unlawful or reading ended at a fault, what the commands before that place
-- are composed to, without END. And so for files.
abbrev pub output_by : Option Verdict → (whole before : List Command) → List Item → List ℕ
output_by None whole before items =
    stream_header (version_of items) ++ canonical_all (version_of items) whole
output_by (Some verdict) whole before items = stream_front (version_of items) before

abbrev pub output_of : Option Verdict → Store ℕ → List Item → List ℕ
output_of verdict base items =
    output_by verdict (composed_of base items) (composed_before_of base items) items

abbrev pub output_for : Option Verdict → Store ℕ → List (List ℕ) → List ℕ
output_for verdict base files = output_of verdict base (input files).items

abbrev pub whole_output_of : Store ℕ → Reading → List ℕ
whole_output_of base reading = output_of (judge_of base reading) base reading.items

abbrev pub whole_output : Store ℕ → List (List ℕ) → List ℕ
whole_output base files = whole_output_of base (input files)

-- Bytes are a front part of others.
pub record IsFrontOf (all written : List ℕ) : Type 0 where
  pub count : ℕ
  pub within : count ≤ length all
  pub written_is : written ≡ take count all

-- And not all of them.
pub record IsProperFrontOf (all written : List ℕ) : Type 0 where
  pub count : ℕ
  pub within : count < length all
  pub written_is : written ≡ take count all

-- What was written before compose stopped: no whole stream, and nothing but a front part of what
-- was to be written.
pub record IsStoppedBy (whole written : List ℕ) : Type 0 where
  pub unfinished : IsUnfinished written
  pub front : IsFrontOf whole written

abbrev pub IsStoppedOf : (base : Store ℕ) (reading : Reading) (written : List ℕ) → Type 0
IsStoppedOf base reading written = IsStoppedBy (whole_output_of base reading) written

abbrev pub IsStopped : (base : Store ℕ) (files : List (List ℕ)) (written : List ℕ) → Type 0
IsStopped base files written = IsStoppedOf base (input files) written
