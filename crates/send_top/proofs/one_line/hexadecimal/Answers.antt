use Rattle.std.proofs.Common.{sym}
use Rattle.send_top.proofs.Hexadecimal.{eight_last_digits}
use Rattle.send_top.proofs.one_line.hexadecimal.Goals as goal

pub returns : goal.returns
returns c = rw (c.digit.ensures, c.digit-2.ensures, c.digit-3.ensures, c.digit-4.ensures, c.digit-5.ensures, c.digit-6.ensures, c.digit-7.ensures, c.digit-8.ensures) (sym (eight_last_digits c.args.n c.ranges.n.fits))
