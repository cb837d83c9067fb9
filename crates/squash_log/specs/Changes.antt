-- Which places of the files of a part live before changes of contents, by what lives after them. A
-- change says of a command what the command was resolved to: files by their inode numbers, and
-- sizes. This program's own.
use Rattle.std.specs.Prelude.{ℕ, ◌+◌, ◌^◌, ◌<◌, ◌||◌, List, [], ◌∷◌}
use Rattle.squash_model.specs.Liveness.{Living, live_beside, live_cut, live_copied}
use Rattle.squash_log.specs.declared.change.FileRange.{FileRange}
use Rattle.squash_log.specs.declared.change.Change.{Change}
use Rattle.squash_log.specs.declared.change.Change.TheVariants as made

-- A range was replaced.
abbrev pub before_range : FileRange → Living → Living
before_range r after = live_beside r.ino r.size r.at r.len after

-- Cells of a file, from a place on, were copied into a range.
abbrev pub before_clone : FileRange → (source from : ℕ) → Living → Living
before_clone to source from after i place =
    before_range to after i place
    || live_copied to.ino to.at source from to.len after i place

-- What lives before a change.
abbrev pub before : Change → Living → Living
before (made.Wrote r) after = before_range r after
before (made.Replaced r) after = before_range r after
before (made.Cloned to source from) after = before_clone to source from after
before (made.Resized ino size new) after = live_cut ino size new after

-- What lives before changes that come one after the other.
abbrev pub before_all : List Change → Living → Living
before_all [] end = end
before_all (change ∷ changes) end = before change (before_all changes end)

-- No file is longer than 2^63 - 1: what a change speaks of ends before.
abbrev pub Fits : Change → Type 0
Fits (made.Wrote r) = r.size < 2 ^ 63
Fits (made.Replaced r) = r.size < 2 ^ 63
Fits (made.Cloned to source from) = (to.size < 2 ^ 63) × (from + to.len < 2 ^ 63)
Fits (made.Resized ino size new) = size < 2 ^ 63
