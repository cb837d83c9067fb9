-- What squashed commands mean: they lead where the commands lead, and carry the bytes that stand
-- and no others.
use Rattle.std.specs.Prelude.{◌≡◌, ℕ, ◌<◌, ◌==◌, true, List, [], ◌∷◌, Some}
use Rattle.std.specs.List.{count_by, list_any, range_with_len}
use Rattle.send_model.specs.Command.{Command}
use Rattle.send_model.specs.Reading.{Item}
use Rattle.send_model.specs.Subvolume.{Subvolume}
use Rattle.send_model.specs.Store.{Head, Store, find, completed}
use Rattle.send_model.specs.Receive.{start_of, byte_cells, run_items, IsAccepted}
use Rattle.send_model.specs.Order.{heads, heads_of, commands_of}
use Rattle.send_model.specs.Outside.{all_keys_named, keys_outside, SameOn, FindsLawful}
use Rattle.send_model.specs.Counts.{literal, clones, streams}
use Rattle.send_model.specs.Cells.{recelled}
use Rattle.squash_model.specs.Squashed.{Birth, births_in, born_by, unborn, stands, squashed, squashed_of, all_bytes, standing_bytes}

-- In whatever items they stand, squashed commands are all taken by each store that takes the items
-- and finds the same subvolumes outside them as the store that they were squashed for, and leave
-- exactly the same.
abbrev pub SquashedLeadsTheSame : Type 0
SquashedLeadsTheSame =
    (base store : Store ℕ) (items written : List Item) → FindsLawful base (keys_outside items)
    → SameOn base store (keys_outside items)
    → IsAccepted (run_items 0 byte_cells (start_of base) items)
    → IsAccepted (run_items 0 byte_cells (start_of store) items)
    → commands_of written ≡ squashed_of base items
    → run_items 0 byte_cells (start_of store) written
    ≡ run_items 0 byte_cells (start_of store) items

-- They are the same for each such store.
abbrev pub SquashedIsTheSame : Type 0
SquashedIsTheSame =
    (base store : Store ℕ) (items : List Item) → SameOn base store (keys_outside items)
    → IsAccepted (run_items 0 byte_cells (start_of base) items)
    → IsAccepted (run_items 0 byte_cells (start_of store) items)
    → squashed_of store items ≡ squashed_of base items

-- They carry as many bytes as stand, of those that are numbered from 0 on.
abbrev pub SquashedCarriesWhatStands : Type 0
SquashedCarriesWhatStands = (store : Store ℕ) (commands : List Command)
    → literal (squashed store commands)
    ≡ count_by (stands store commands) (range_with_len 0 (literal commands))

-- They have the same heads, ends and clones, and name the same keys.
pub record KeepsAllElse (store : Store ℕ) (commands : List Command) : Type 0 where
  pub same_heads : heads_of (squashed store commands) ≡ heads_of commands
  pub same_streams : streams (squashed store commands) ≡ streams commands
  pub same_clones : clones (squashed store commands) ≡ clones commands
  pub same_keys : all_keys_named (squashed store commands) ≡ all_keys_named commands

abbrev pub SquashedKeepsAllElse : Type 0
SquashedKeepsAllElse = (store : Store ℕ) (commands : List Command) → KeepsAllElse store commands

-- Where all bytes stand they are the commands.
abbrev pub WhatStandsStays : Type 0
WhatStandsStays =
    (store : Store ℕ) (commands : List Command)
    → ((birth : ℕ) → birth < literal commands → stands store commands birth ≡ true)
    → squashed store commands ≡ commands

-- Squashing twice is squashing once.
abbrev pub SquashedTwiceIsOnce : Type 0
SquashedTwiceIsOnce = (base : Store ℕ) (items : List Item) → FindsLawful base (keys_outside items)
    → IsAccepted (run_items 0 byte_cells (start_of base) items)
    → squashed base (squashed_of base items) ≡ squashed_of base items

-- The last part's subvolume, over births and over bytes.
pub record StandsIn (base : Store ℕ) (items : List Item) (last : Head) : Type 0 where
  pub subvolume : Subvolume ℕ
  pub subvolume_is : find (completed (run_items 0 byte_cells (start_of base) items).state) last.key
      ≡ Some subvolume
  pub births : Subvolume Birth
  pub births_are : find (completed (born_by 0 (unborn base) (commands_of items))) last.key
      ≡ Some births
  -- they are the same but for their cells
  pub same : recelled {D = ℕ} (λ birth. 0) births ≡ recelled (λ byte. 0) subvolume
  -- and what stands is what some cell of it has
  pub stands_is : (birth : ℕ)
      → stands base (commands_of items) birth ≡ list_any (λ b. b == birth) (births_in births)

-- Where items hold one part, a byte stands where a cell of the part's subvolume has its birth in
-- the end.
abbrev pub StandsInLast : Type 0
StandsInLast = (base : Store ℕ) (items : List Item) (last : Head) → heads items ≡ last ∷ []
    → IsAccepted (run_items 0 byte_cells (start_of base) items) → StandsIn base items last

-- Squashed commands put the bytes that stand, in their order, and no others.
abbrev pub SquashedPutsWhatStands : Type 0
SquashedPutsWhatStands = (store : Store ℕ) (commands : List Command)
    → all_bytes (squashed store commands)
    ≡ standing_bytes (stands store commands) 0 (all_bytes commands)
