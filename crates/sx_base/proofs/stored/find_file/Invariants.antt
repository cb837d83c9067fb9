use Rattle.std.proofs.Common.{◌≡◌, drop}
use Rattle.sx_base.specs.Outside.{file_at}
use Rattle.sx_base.specs.Stored.{as_files}
use Rattle.sx_base.proofs.stored.find_file.Given as goal

-- the files that are left give what all of them give
abbrev pub invariant-loop-file : goal.invariant-loop-file
invariant-loop-file l = file_at (as_files (drop l.file-index l.files)) l.name ≡ file_at (as_files l.files) l.name
