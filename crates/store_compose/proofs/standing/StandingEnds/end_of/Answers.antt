use Rattle.std.specs.Prelude.{None, Some}
use Rattle.std.proofs.Common.{◌∙◌}
use Rattle.subvol_catalog.specs.Entries.{key_of}
use Rattle.store_journal.specs.Standing.{place_byte}
use Rattle.store_compose.proofs.FileAnswers.{end_at}
use Rattle.store_compose.proofs.standing.StandingEnds.end_of.Goals as goal

pub returns-in_default : goal.returns-in_default
returns-in_default g c = end_at (place_byte g.K.Anchor.image) c.args.self.now.indexes (key_of c.args.key) None c.args.ino c.in_default.ensures.found

pub returns : goal.returns
returns g c = c.file_size.ensures g.K.Anchor.image ∙ end_at (place_byte g.K.Anchor.image) c.args.self.now.indexes (key_of c.args.key) (Some c.in-Some.index.now) c.args.ino c.in-Some.ensures.found
