-- What `squash` writes for the commands of one stream, and what it promises of it. This program's
-- own promise.
use Rattle.std.specs.Prelude.{◌≡◌, ◌≢◌, ℕ, List, [], ◌∷◌, ◌++◌}
use Rattle.std.specs.List.{count_by, range_with_len}
use Rattle.send_model.specs.Attribute.{IsBytes}
use Rattle.send_model.specs.Spelling.{stream_header, canonical_all}
use Rattle.send_model.specs.Reading.{Item, Reading, Whole, reads, input}
use Rattle.send_model.specs.Store.{Store}
use Rattle.send_model.specs.Receive.{IsAccepted, receive_of, receive}
use Rattle.send_model.specs.Order.{heads, heads_of, commands_of}
use Rattle.send_model.specs.Outside.{all_keys_named, keys_outside, SameOn, FindsLawful}
use Rattle.send_model.specs.Counts.{literal, clones, streams}
use Rattle.send_model.specs.Composed.{version_of}
use Rattle.send_model.specs.Headline.{commands_in}
use Rattle.send_model.specs.Laws.{IsWhole}
use Rattle.squash_model.specs.Squashed.{stands, squashed_of, all_bytes, standing_bytes}

-- All that is written.
abbrev pub squashed_output : Store ℕ → List Item → List ℕ
squashed_output base items =
    stream_header (version_of items) ++ canonical_all (version_of items) (squashed_of base items)

-- What squash promises of what it wrote for what was read, over a store that took it.
pub record IsSquashedOf (base : Store ℕ) (reading : Reading) (written : List ℕ) : Type 0 where
  -- it is read to a whole end, as the squashed commands
  pub whole : (reads 1 written).end ≡ Whole
  pub commands_are : commands_in written ≡ squashed_of base reading.items
  -- every store that finds the same subvolumes outside, and takes what was read, takes it and comes
  -- to exactly the same state
  pub gets : (store : Store ℕ) → SameOn base store (keys_outside reading.items)
      → IsAccepted (receive_of store reading)
      → receive store (written ∷ []) ≡ receive_of store reading
  -- it carries the bytes that stand in the end, of those that were read, in their order, and no
  -- others; so many
  pub bytes_are : all_bytes (commands_in written)
      ≡ standing_bytes (stands base (commands_of reading.items)) 0
      (all_bytes (commands_of reading.items))
  pub literal_bytes : literal (commands_in written)
      ≡ count_by (stands base (commands_of reading.items))
      (range_with_len 0 (literal (commands_of reading.items)))
  -- it has the same heads, ends and clones, and names the same keys
  pub same_heads : heads_of (commands_in written) ≡ heads reading.items
  pub same_streams : streams (commands_in written) ≡ streams (commands_of reading.items)
  pub same_clones : clones (commands_in written) ≡ clones (commands_of reading.items)
  pub same_keys : all_keys_named (commands_in written) ≡ all_keys_named (commands_of reading.items)
  -- nothing of it is left to squash
  pub once : squashed_of base (reads 1 written).items ≡ commands_in written

-- ---- laws

-- So it is of a whole reading of one stream that a base takes, where each subvolume of the base
-- that it names is lawful.
abbrev pub SquashedReadingsHold : Type 0
SquashedReadingsHold =
    (base : Store ℕ) (reading : Reading) → IsWhole reading → streams (commands_of reading.items) ≡ 1
    → IsAccepted (receive_of base reading) → FindsLawful base (keys_outside reading.items)
    → IsSquashedOf base reading (squashed_output base reading.items)

-- So it is of a file of bytes that holds a part and is read to a whole end.
abbrev pub SquashedFilesHold : Type 0
SquashedFilesHold =
    (base : Store ℕ) (file : List ℕ) → IsBytes file → (input (file ∷ [])).end ≡ Whole
    → heads (input (file ∷ [])).items ≢ []
    → streams (commands_of (input (file ∷ [])).items) ≡ 1 → IsAccepted (receive base (file ∷ []))
    → FindsLawful base (keys_outside (input (file ∷ [])).items)
    → IsSquashedOf base (input (file ∷ [])) (squashed_output base (input (file ∷ [])).items)
