-- The cells of a store's files as bytes that stand at their places in an image, and holes. This
-- program's own.
use Rattle.std.specs.Prelude.{ℕ, List, ◌++◌, map, Option}
use Rattle.std.specs.Option.{option_map}
use Rattle.send_model.specs.Command.{Command, SetXattr}
use Rattle.send_model.specs.Subvolume.{Inode, Subvolume}
use Rattle.send_model.specs.Store.{Store}
use Rattle.send_model.specs.Cells.{recelled, recelled_store}
use Rattle.group_replay.specs.declared.place.Place.{Place}
use Rattle.snapshot_model.specs.HeldStores.{held_at}
use Rattle.snapshot_model.specs.Sent.{contents_commands, setting_commands}

-- A cell: the byte at its place, or a zero cell.
abbrev pub held_cell : List ℕ → Option Place → Option ℕ
held_cell image cell = held_at image (option_map (λ place. place.at) cell)

abbrev pub with_holes : List ℕ → Subvolume (Option Place) → Subvolume (Option ℕ)
with_holes image s = recelled (held_at image) (recelled (option_map (λ place. place.at)) s)

abbrev pub store_with_holes : List ℕ → Store (Option Place) → Store (Option ℕ)
store_with_holes image core =
    recelled_store (held_at image) (recelled_store (option_map (λ place. place.at)) core)

-- All that an inode has, by commands at a path, with the bytes of an image.
abbrev pub field_commands : List ℕ → List ℕ → Inode (Option Place) → List Command
field_commands image path inode =
    map (λ e. SetXattr e.0 e.1 path) inode.xattrs
    ++ (contents_commands path (map (held_cell image) inode.cells) ++ setting_commands path inode)
