use Rattle.std.specs.Prelude.{ℕ, List, []}
use Rattle.std.proofs.Common.{sym, subst}
use Rattle.std.proofs.KnownBytes.{Appends-nil}
use Rattle.store_model.specs.NamedFiles.{unnamed}
use Rattle.store_model.specs.Requests.{ScrubStore, at_entry}
use Rattle.store_model.specs.Answers.{Answers}
use Rattle.store_commands.specs.declared.ends.StoreEnd.{StoreEnd}
use Rattle.store_commands.specs.Ending.{answer_of, scrub_ways, EndCaused}
use Rattle.store_commands.proofs.Scrubbed.{scrub_stops, scrub_caused}
use Rattle.store_commands.proofs.scrubbing.scrub_store.Goals as goal

pub returns-in-Err-clause-answered : goal.returns-in-Err-clause-answered
returns-in-Err-clause-answered g c tells =
    let seen : List ℕ = g.D.Disk.seen c.args.disk.now in (
      [],
      Appends-nil (g.O.Sink.taken c.args.out.now),
      (λ words store.
          subst (λ (l : List ℕ). Answers (ScrubStore store) (at_entry words seen (unnamed [])) (answer_of [] [] c.ended_scrub.result) [] l) (sym (c.scrub.ensures.seen tells))
          (subst (λ (e : StoreEnd). Answers (ScrubStore store) (at_entry words seen (unnamed [])) (answer_of [] [] e) [] seen) (sym c.ended_scrub.ensures)
          (scrub_stops words store seen _ c.in-Err.stop (c.in-Err.ensures.stopped tells) c.in-Err.ensures.stops))),
    )

pub returns-in-Err-clause-cause : goal.returns-in-Err-clause-cause
returns-in-Err-clause-cause g c = subst (EndCaused scrub_ways _ _ _ _) (sym c.ended_scrub.ensures) (scrub_caused _ _ _ c.in-Err.stop c.in-Err.ensures.stops)
