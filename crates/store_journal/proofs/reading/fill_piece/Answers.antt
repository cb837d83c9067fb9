use Rattle.std.specs.Prelude.{◌+◌, ◌≤◌, Option, IfSome}
use Rattle.std.proofs.Common.{length, subst, arith}
use Rattle.group_replay.specs.declared.place.Place.{Place}
use Rattle.store_journal.proofs.ReadFiles.{hole_filled, piece_filled}
use Rattle.store_journal.proofs.reading.fill_piece.Goals as goal

pub returns-in-None-clause-filled : goal.returns-in-None-clause-filled
returns-in-None-clause-filled g c tells = hole_filled (g.D.Disk.seen c.args.disk.now) c.args.origin (length c.args.buf.now) c.fill.new.self c.in-None.is (c.fill.ensures.after (λ y e. e))

pub returns-in-Some-clause-filled : goal.returns-in-Some-clause-filled
returns-in-Some-clause-filled g c tells =
    let seen = g.D.Disk.seen c.args.disk.now in
    let before : c.in-Some.place.at + length c.args.buf.now ≤ c.args.log.now.size = subst (λ (o : Option Place). IfSome o (λ place. place.at + length c.args.buf.now ≤ c.args.log.now.size)) c.in-Some.is c.requires.before in
    piece_filled seen c.args.origin c.in-Some.place (length c.args.buf.now) c.read.new.buf c.read.result c.in-Some.is (omega (arith, before, c.requires.size, g.met.D.Disk.sized c.args.disk.now tells)) c.read.auto.buf (c.read.ensures.bytes tells)
