use Rattle.std.proofs.Common.{◌≡◌, ◌++◌, map, take, replicate}
use Rattle.send_model.specs.Command.{Write}
use Rattle.send_model.specs.Spelling.{canonical_all}
use Rattle.send_model.specs.Generated.{files, file_name}
use Rattle.stream_gen.proofs.parts.push_contents.Given as goal

-- The commands of the files so far.
abbrev pub invariant-loop-file : goal.invariant-loop-file
invariant-loop-file l = record { so_far : l.to ≡ l.fn.to ++ canonical_all 1 (map (λ file. Write (file_name file) 0 (replicate 12_288 file)) (take l.file files)) }
