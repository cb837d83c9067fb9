use Rattle.std.specs.Prelude.{ℕ, List, []}
use Rattle.std.proofs.Common.{sym, subst}
use Rattle.store_model.specs.NamedFiles.{unnamed}
use Rattle.store_model.specs.Requests.{InitStore, at_entry}
use Rattle.store_model.specs.Answers.{Answers}
use Rattle.store_commands.specs.declared.ends.StoreEnd.{StoreEnd}
use Rattle.store_commands.specs.Ending.{answer_of, init_ways, EndCaused}
use Rattle.store_commands.proofs.NewStores.{init_done, init_stops, making_stops}
use Rattle.store_commands.proofs.making.init_store.Goals as goal

pub returns-in-Ok-clause-answered : goal.returns-in-Ok-clause-answered
returns-in-Ok-clause-answered g c tells words store =
    init_done words store (g.D.Disk.seen c.args.disk.now) (g.D.Disk.seen c.create.new.disk) (g.D.Disk.len c.args.disk.now) (g.met.D.Disk.sized c.args.disk.now tells) (λ long. c.in-Ok.ensures.there long)
    (c.in-Ok.ensures.made tells)

pub returns-in-Err-clause-answered : goal.returns-in-Err-clause-answered
returns-in-Err-clause-answered g c tells words store =
    let seen : List ℕ = g.D.Disk.seen c.args.disk.now in
    subst (λ (e : StoreEnd). Answers (InitStore store) (at_entry words seen (unnamed [])) (answer_of [] [] e) [] (g.D.Disk.seen c.create.new.disk)) (sym c.ended_at.ensures)
    (init_stops words store seen (g.D.Disk.seen c.create.new.disk) (g.D.Disk.len c.args.disk.now) _ c.in-Err.stop (g.met.D.Disk.sized c.args.disk.now tells) c.in-Err.ensures.empty c.in-Err.ensures.there
    (λ long. (c.in-Err.ensures.kept tells long).seen))

pub returns-in-Err-clause-cause : goal.returns-in-Err-clause-cause
returns-in-Err-clause-cause g c = subst (EndCaused init_ways _ _ _ _) (sym c.ended_at.ensures) (making_stops _ _ (g.D.Disk.len c.args.disk.now) c.in-Err.stop c.in-Err.ensures.empty c.in-Err.ensures.there)
