use Rattle.std.proofs.Common.{sym, subst, ◌∙◌}
use Rattle.send_commands.specs.Meaning.{meaning_of}
use Rattle.clone_resolve.specs.Heads.{head_meant}
use Rattle.file_survey.specs.Names.{IsShort}
use Rattle.file_survey.proofs.HeadSpelling.{short_name}
use Rattle.file_survey.proofs.part_head.PartHead.of.Goals as goal

pub invariant_of-result : goal.invariant_of-result
invariant_of-result c =
    subst IsShort (sym (c.from-name.ensures ∙ c.in_ok-from_slice.ensures.items))
    (short_name c.args.version (meaning_of c.args.c.now) (head_meant c.in-Some.head) (sym c.in-Some.ensures) c.requires.writable)
