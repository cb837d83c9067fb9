use Rattle.std.specs.Prelude.{None, Some, is_some}
use Rattle.std.proofs.Common.{sym, ap, ◌∙◌, rules}
use Rattle.send_model.specs.Composed.{path_of}
use Rattle.subvol_catalog.specs.Entries.{key_of}
use Rattle.store_journal.specs.Standing.{place_byte}
use Rattle.store_compose.specs.Standing.{bytes_in}
use Rattle.store_compose.proofs.FileAnswers.{end_at, path_at, named_ok, path_ok, some_of, none_of, end_named}
use Rattle.store_compose.proofs.standing.StandingKnown.first_path.Goals as goal

pub returns-in_default-clause-named : goal.returns-in_default-clause-named
returns-in_default-clause-named g c = ap is_some (end_at (place_byte g.K.Anchor.image) c.args.self.now.indexes (key_of c.args.key) None c.args.ino c.in_default.ensures.found)

pub returns-then-is_none-clause-named : goal.returns-then-is_none-clause-named
returns-then-is_none-clause-named g c =
    sym (none_of c.file_size.result (search rules))
    ∙ ap is_some (c.file_size.ensures g.K.Anchor.image ∙ end_at (place_byte g.K.Anchor.image) c.args.self.now.indexes (key_of c.args.key) (Some c.in-Some.index.now) c.args.ino c.in-Some.ensures.found)

pub returns-clause-named : goal.returns-clause-named
returns-clause-named g c =
    let image = g.K.Anchor.image in
    let some = some_of c.file_size.result (search rules) in
    let here = end_named (place_byte image) c.in-Some.index.now c.args.ino (ap is_some (sym (c.file_size.ensures image)) ∙ some) in
    let there = ap is_some (sym (end_at (place_byte image) c.args.self.now.indexes (key_of c.args.key) (Some c.in-Some.index.now) c.args.ino c.in-Some.ensures.found)) ∙ ap is_some (sym (c.file_size.ensures image)) ∙ some in
    named_ok c.in-Some.index.now c.args.ino c.first_path.result _ c.first_path.ensures.first (here ∙ sym there)

pub returns-clause-path : goal.returns-clause-path
returns-clause-path g c =
    path_ok c.in-Some.index.now c.args.ino c.first_path.result (path_of (bytes_in g.K.Anchor.image c.args.self.now.indexes) (record { key = key_of c.args.key; ino = c.args.ino; offset = 0 })) c.first_path.ensures.first
    (λ path e. path_at (place_byte g.K.Anchor.image) c.args.self.now.indexes (key_of c.args.key) c.in-Some.index.now c.args.ino path c.in-Some.ensures.found e)
