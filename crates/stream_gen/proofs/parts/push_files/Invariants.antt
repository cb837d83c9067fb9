use Rattle.std.proofs.Common.{◌≡◌, ◌++◌, map, take}
use Rattle.send_model.specs.Command.{MkFile}
use Rattle.send_model.specs.Spelling.{canonical_all}
use Rattle.send_model.specs.Generated.{files, file_name}
use Rattle.stream_gen.proofs.parts.push_files.Given as goal

-- The commands of the files so far.
abbrev pub invariant-loop-file : goal.invariant-loop-file
invariant-loop-file l = record { so_far : l.to ≡ l.fn.to ++ canonical_all 1 (map (λ file. MkFile (file_name file)) (take l.file files)) }
