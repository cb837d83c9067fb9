use Rattle.std.specs.Option.{option_map}
use Rattle.subvol_catalog.specs.Entries.{key_of}
use Rattle.file_survey.proofs.HeadSpelling.{begins}
use Rattle.file_survey.proofs.part_head.PartHead.begin_stream.Goals as goal

pub returns-in-Ok-clause-begun : goal.returns-in-Ok-clause-begun
returns-in-Ok-clause-begun c =
    begins c.args.version c.args.to.now _ _ c.bytes.result _ c.args.self.now.name c.args.self.now.key (option_map key_of c.args.parent) c.in-Ok.ensures.appended c.in_ok-push_all.ensures.appended c.bytes.ensures.bytes c.command-head.ensures.command
