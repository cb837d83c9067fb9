use Rattle.std.specs.Prelude.{◌≡◌, ℕ, List, length}
use Rattle.std.proofs.Common.{refl, ap, ◌∙◌, arith}
use Rattle.std.proofs.lemmas.List.{take_at}
use Rattle.std.proofs.lemmas.Result.{err_from_is_err_and}
use Rattle.send_model.specs.Checksum.{crc_of}
use Rattle.store_scrub.proofs.Groups.{plain_found, short_found, sealed_found, stop_found}
use Rattle.store_scrub.proofs.scrubbing.scrub_group.Goals as goal

pub returns-then-not-sealed-clause-whole : goal.returns-then-not-sealed-clause-whole
returns-then-not-sealed-clause-whole g c tells =
    let seen : List ℕ = g.D.Disk.seen c.args.disk.now in
    let sized : g.D.Disk.len c.args.disk.now ≡ length seen = g.met.D.Disk.sized c.args.disk.now tells in
    let first = c.first_piece-first.ensures in
    plain_found c.args.log.now.format seen c.args.group.at c.args.group.len (omega (arith, c.requires.within, c.requires.fits, sized)) (omega (arith, c.if-group-eq0.false))
    c.read.new.buf _ (c.in_ok-read.ensures.bytes tells) (omega (arith, c.read.auto.buf, first.least)) c.format.result c.format.ensures c.in-Some.field-0-0 c.in-Some.sealed c.in-Some.ensures.some c.if-not-sealed.true

pub returns-then-group-le-CHECKSUM-clause-stopped : goal.returns-then-group-le-CHECKSUM-clause-stopped
returns-then-group-le-CHECKSUM-clause-stopped g c tells =
    let seen : List ℕ = g.D.Disk.seen c.args.disk.now in
    let sized : g.D.Disk.len c.args.disk.now ≡ length seen = g.met.D.Disk.sized c.args.disk.now tells in
    let first = c.first_piece-first.ensures in
    let none = short_found c.args.log.now.format seen c.args.group.at c.args.group.len (omega (arith, c.requires.within, c.requires.fits, sized)) (omega (arith, c.if-group-eq0.false))
    c.read.new.buf _ (c.in_ok-read.ensures.bytes tells) (omega (arith, c.read.auto.buf, first.least)) c.format.result c.format.ensures c.in-Some.field-0-0 c.in-Some.sealed c.in-Some.ensures.some c.if-not-sealed.false c.if-group-le-CHECKSUM.true in
    rw c.none_at-then-group-le-CHECKSUM.ensures (refl, none)

pub returns-in_err-compare-clause-stopped : goal.returns-in_err-compare-clause-stopped
returns-in_err-compare-clause-stopped g c tells =
    let seen : List ℕ = g.D.Disk.seen c.args.disk.now in
    let sized : g.D.Disk.len c.args.disk.now ≡ length seen = g.met.D.Disk.sized c.args.disk.now tells in
    let first = c.first_piece-first.ensures in
    let size : length c.read.new.buf ≡ c.first_piece-first.result = omega (arith, c.read.auto.buf) in
    let p = err_from_is_err_and c.from_residual-in_err-compare.result c.from_residual-in_err-compare.ensures.1 in
    rw (p.1, p.2) (stop_found c.args.log.now.format seen c.args.group.at c.args.group.len (omega (arith, c.requires.within, c.requires.fits, sized)) (omega (arith, c.if-group-eq0.false))
    c.read.new.buf _ (c.in_ok-read.ensures.bytes tells) (omega (arith, size, first.least)) c.format.result c.format.ensures c.in-Some.field-0-0 c.in-Some.sealed c.in-Some.ensures.some c.if-not-sealed.false
    (omega (arith, c.if-group-le-CHECKSUM.false)) (g.D.Disk.seen c.read.new.disk) (c.read.ensures.same tells).seen c.update-sum.result _ _ (c.update-sum.ensures ∙ ap (crc_of 0) (take_at c.read.new.buf _ c.first_piece-first.result size)) (omega (arith, size)) refl (omega (arith, size, first.short, c.if-group-le-CHECKSUM.false)) _ c.args.group.number c.in_err-compare.field-0.0 c.in_err-compare.ensures.stops (c.in_err-compare.ensures.damaged tells))

pub returns-clause-whole : goal.returns-clause-whole
returns-clause-whole g c tells =
    let seen : List ℕ = g.D.Disk.seen c.args.disk.now in
    let sized : g.D.Disk.len c.args.disk.now ≡ length seen = g.met.D.Disk.sized c.args.disk.now tells in
    let first = c.first_piece-first.ensures in
    let size : length c.read.new.buf ≡ c.first_piece-first.result = omega (arith, c.read.auto.buf) in
    sealed_found c.args.log.now.format seen c.args.group.at c.args.group.len (omega (arith, c.requires.within, c.requires.fits, sized)) (omega (arith, c.if-group-eq0.false))
    c.read.new.buf _ (c.in_ok-read.ensures.bytes tells) (omega (arith, size, first.least)) c.format.result c.format.ensures c.in-Some.field-0-0 c.in-Some.sealed c.in-Some.ensures.some c.if-not-sealed.false
    (omega (arith, c.if-group-le-CHECKSUM.false)) (g.D.Disk.seen c.read.new.disk) (c.read.ensures.same tells).seen c.update-sum.result _ _ (c.update-sum.ensures ∙ ap (crc_of 0) (take_at c.read.new.buf _ c.first_piece-first.result size)) (omega (arith, size)) refl (omega (arith, size, first.short, c.if-group-le-CHECKSUM.false)) (c.in_ok-compare.ensures.right tells)
