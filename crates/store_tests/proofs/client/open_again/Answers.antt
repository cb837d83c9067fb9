use Rattle.store_tests.proofs.Reopened.{again_same, again_sound}
use Rattle.store_tests.proofs.client.open_again.Goals as goal

pub returns-clause-same : goal.returns-clause-same
returns-clause-same g c tells header groups holds =
    let D = g.D.Disk in
    again_same header groups c.args.store.now (D.seen c.args.disk.now) (D.pending c.args.disk.now) holds c.open.result (D.seen c.open.new.disk) (D.pending c.open.new.disk) (c.open.ensures.seen tells) (c.open.ensures.holds tells)

pub returns-clause-fault : goal.returns-clause-fault
returns-clause-fault g c tells header groups holds =
    let D = g.D.Disk in
    again_sound header groups c.args.store.now (D.seen c.args.disk.now) (D.pending c.args.disk.now) holds _ c.open.result (g.met.D.Disk.seen_is_image c.args.disk.now tells) (c.open.ensures.says tells) c.open.ensures.stops
