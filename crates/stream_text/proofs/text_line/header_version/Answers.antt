use Rattle.std.specs.Prelude.{◌≡◌, ◌≢◌, codes}
use Rattle.std.proofs.Common.{rules}
use Rattle.stream_text.proofs.TakenLines.{first_header, second_header, no_header}
use Rattle.stream_text.proofs.text_line.header_version.Goals as goal

pub returns-then-eq : goal.returns-then-eq
returns-then-eq c =
    let same : c.args.line.now ≡ codes "stream 1" = search rules in
    record { read = first_header c.args.line.now same }

pub returns-then-eq-2 : goal.returns-then-eq-2
returns-then-eq-2 c =
    let same : c.args.line.now ≡ codes "stream 2" = search rules in
    record { read = second_header c.args.line.now same }

pub returns : goal.returns
returns c =
    let one : c.args.line.now ≢ codes "stream 1" = search rules in
    let two : c.args.line.now ≢ codes "stream 2" = search rules in
    record { read = no_header c.args.line.now one two }
