use Rattle.std.specs.Prelude.{map}
use Rattle.std.specs.String.{string_bytes}
use Rattle.std.proofs.Common.{ap, ◌∙◌}
use Rattle.program_model.specs.FileWords.{GivenFiles}
use Rattle.command_line.proofs.NamesAmong.{names_of_files}
use Rattle.command_line.proofs.file_arguments.FileArguments.names.Goals as goal

pub returns : goal.returns
returns c =
    c.among.ensures ∙ names_of_files (map string_bytes c.self.inside.words.now) c.self.invariant
    ∙ ap (λ (given : GivenFiles). given.files) c.self.view_is
