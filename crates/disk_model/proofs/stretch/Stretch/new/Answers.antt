use Rattle.std.proofs.Common.{◌≡◌, false, length, replicate, rules}
use Rattle.disk_model.proofs.Known.{when_new}
use Rattle.disk_model.proofs.stretch.Stretch.new.Goals as goal

pub returns-clause-settled : goal.returns-clause-settled
returns-clause-settled c =
    let same : c.in_ok-bytes.bytes.items ≡ c.args.bytes.now = search rules in
    let most : c.len-greatest.result ≡ length c.args.bytes.now = search rules in
    let untouched : c.in_ok-touched.touched.items ≡ replicate (length c.args.bytes.now) false = search rules in
    when_new c.len-greatest.result c.in_ok-touched.touched.items c.in_ok-bytes.bytes.items c.args.bytes.now same most untouched
