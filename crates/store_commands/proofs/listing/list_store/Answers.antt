use Rattle.std.specs.Prelude.{◌≡◌, ℕ, List, []}
use Rattle.std.proofs.Common.{sym, ap, subst, ◌∙◌}
use Rattle.std.proofs.KnownBytes.{Appends-nil}
use Rattle.store_model.specs.NamedFiles.{unnamed}
use Rattle.store_model.specs.Requests.{ListStore, at_entry}
use Rattle.store_model.specs.Answers.{Answers}
use Rattle.store_model.specs.StoreLines.{listed}
use Rattle.store_commands.specs.declared.ends.StoreEnd.{StoreEnd}
use Rattle.store_commands.specs.declared.ends.StoreEnd.TheVariants as made
use Rattle.store_journal.specs.Standing.{with_bytes}
use Rattle.store_commands.specs.Ending.{answer_of, list_ways, EndCaused}
use Rattle.store_commands.proofs.Opened.{not_opened, nothing_printed, opening_stops}
use Rattle.store_commands.proofs.Printed.{list_answers, list_of_none}
use Rattle.store_commands.proofs.SameLines.{same_bytes}
use Rattle.store_commands.proofs.listing.list_store.Goals as goal

pub returns-in-Err-clause-answered : goal.returns-in-Err-clause-answered
returns-in-Err-clause-answered g c tells =
    let seen : List ℕ = g.D.Disk.seen c.args.disk.now in (
      [],
      Appends-nil (g.O.Sink.taken c.args.out.now),
      (λ words store.
          subst (λ (l : List ℕ). Answers (ListStore store) (at_entry words seen (unnamed [])) (answer_of [] [] c.ended_by.result) [] l) (sym (c.open.ensures.seen tells))
          (subst (λ (e : StoreEnd). Answers (ListStore store) (at_entry words seen (unnamed [])) (answer_of [] [] e) [] seen) (sym c.ended_by.ensures)
          (not_opened (ListStore store) words seen (unnamed []) [] [] _ c.in-Err.stop (nothing_printed seen listed) (nothing_printed seen listed) (list_of_none words store seen) c.in-Err.ensures.not_refused
          c.in-Err.ensures.stops (c.in-Err.ensures.says tells)))),
    )

pub returns-in-Err-clause-cause : goal.returns-in-Err-clause-cause
returns-in-Err-clause-cause g c = subst (EndCaused list_ways _ _ _ _) (sym c.ended_by.ensures) (opening_stops list_ways _ _ _ _ c.in-Err.stop tt tt c.in-Err.ensures.not_refused c.in-Err.ensures.stops)

pub returns-clause-answered : goal.returns-clause-answered
returns-clause-answered g c tells =
    let seen : List ℕ = g.D.Disk.seen c.args.disk.now in
    let wrote = c.list.ensures.listed in
    let same : listed (with_bytes seen c.in-Ok.store.core) ≡ listed c.catalog.result.now = same_bytes seen c.in-Ok.store.core ∙ ap listed (sym (c.catalog.ensures.core ∙ c.core.ensures.core)) in (
      wrote.0,
      wrote.1,
      (λ words store.
          subst (λ (l : List ℕ). Answers (ListStore store) (at_entry words seen (unnamed [])) (answer_of [] [] (made.Ends c.list.result)) wrote.0 l) (sym (c.open.ensures.seen tells))
          (list_answers words store seen (with_bytes seen c.in-Ok.store.core) (listed c.catalog.result.now) c.list.result wrote.0 (c.in-Ok.ensures.says tells) same wrote.2)),
    )
