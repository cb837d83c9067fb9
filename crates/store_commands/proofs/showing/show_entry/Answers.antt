use Rattle.std.specs.Prelude.{◌≡◌, ℕ, List, [], Some, None}
use Rattle.std.proofs.Common.{sym, ap, subst, ◌∙◌}
use Rattle.std.proofs.KnownBytes.{Appends-nil}
use Rattle.store_model.specs.Dues.{show_output}
use Rattle.store_model.specs.StoreLines.{shown}
use Rattle.store_model.specs.NamedFiles.{unnamed}
use Rattle.store_model.specs.Requests.{ShowEntry, word_at, at_entry}
use Rattle.store_model.specs.Answers.{Answers}
use Rattle.subvol_catalog.specs.Entries.{entry_of, named}
use Rattle.store_commands.specs.declared.ends.StoreEnd.{StoreEnd}
use Rattle.store_commands.specs.declared.ends.StoreEnd.TheVariants as made
use Rattle.store_commands.specs.Ending.{answer_of, show_ways, EndCaused}
use Rattle.store_journal.specs.Standing.{with_bytes}
use Rattle.store_commands.proofs.Opened.{not_opened, nothing_printed, opening_stops}
use Rattle.store_commands.proofs.NamedBytes.{gone, unfinished_one, complete_one_there, named_lawful}
use Rattle.store_commands.proofs.Printed.{show_missing, show_answers, show_of_none}
use Rattle.store_commands.proofs.SameLines.{same_bytes_shown}
use Rattle.store_commands.proofs.showing.show_entry.Goals as goal

pub returns-in-Err-clause-answered : goal.returns-in-Err-clause-answered
returns-in-Err-clause-answered g c tells =
    let seen : List ℕ = g.D.Disk.seen c.args.disk.now in
    let name : List ℕ = c.args.name.now in (
      [],
      Appends-nil (g.O.Sink.taken c.args.out.now),
      (λ words store at asks.
          subst (λ (l : List ℕ). Answers (ShowEntry store at) (at_entry words seen (unnamed [])) (answer_of name [] c.ended_by.result) [] l) (sym (c.open.ensures.seen tells))
          (subst (λ (e : StoreEnd). Answers (ShowEntry store at) (at_entry words seen (unnamed [])) (answer_of name [] e) [] seen) (sym c.ended_by.ensures)
          (not_opened (ShowEntry store at) words seen (unnamed []) name [] _ c.in-Err.stop (nothing_printed seen (show_output (word_at words at))) (nothing_printed seen (show_output (word_at words at))) (show_of_none words store at seen)
          c.in-Err.ensures.not_refused c.in-Err.ensures.stops (c.in-Err.ensures.says tells)))),
    )

pub returns-in-Err-clause-cause : goal.returns-in-Err-clause-cause
returns-in-Err-clause-cause g c = subst (EndCaused show_ways _ _ _ _) (sym c.ended_by.ensures) (opening_stops show_ways _ _ _ _ c.in-Err.stop tt tt c.in-Err.ensures.not_refused c.in-Err.ensures.stops)

pub returns-in_default-clause-answered : goal.returns-in_default-clause-answered
returns-in_default-clause-answered g c tells =
    let seen : List ℕ = g.D.Disk.seen c.args.disk.now in
    let name : List ℕ = c.args.name.now in
    let none : named name c.in-Ok.store.core ≡ None = ap (named name) (sym (c.catalog.ensures.core ∙ c.core.ensures.core)) ∙ sym c.in_default.ensures.entry in (
      [],
      Appends-nil (g.O.Sink.taken c.args.out.now),
      (λ words store at asks.
          subst (λ (l : List ℕ). Answers (ShowEntry store at) (at_entry words seen (unnamed [])) (answer_of name [] made.NoName) [] l) (sym (c.open.ensures.seen tells))
          (show_missing words store at seen (with_bytes seen c.in-Ok.store.core) name asks (c.in-Ok.ensures.says tells) (gone seen c.in-Ok.store.core name none))),
    )

pub returns-in-Some-value-clause-answered : goal.returns-in-Some-value-clause-answered
returns-in-Some-value-clause-answered g c tells =
    let seen : List ℕ = g.D.Disk.seen c.args.disk.now in
    let name : List ℕ = c.args.name.now in
    let core = c.in-Ok.store.core in
    let e = entry_of c.in-Some.entry.now in
    let sub = c.in-Some-value.sub in
    let there : named name core ≡ Some e = ap (named name) (sym (c.catalog.ensures.core ∙ c.core.ensures.core)) ∙ sym c.in-Some.ensures.entry in
    let stands = c.in-Ok.ensures.says tells in
    let wrote = c.show.ensures.shown (named_lawful seen core name e sub stands there c.in-Some-value.is) in
    let same = same_bytes_shown seen e.name e.key sub ∙ ap (λ (l : List ℕ). shown l e.key sub) (sym c.as_slice.ensures.bytes) in (
      wrote.0,
      wrote.1,
      (λ words store at asks.
          subst (λ (l : List ℕ). Answers (ShowEntry store at) (at_entry words seen (unnamed [])) (answer_of name [] (made.Ends c.show.result)) wrote.0 l) (sym (c.open.ensures.seen tells))
          (show_answers words store at seen (with_bytes seen core) name (shown c.as_slice.result.now e.key sub) _ c.show.result wrote.0 asks stands (complete_one_there seen core name e sub there c.in-Some-value.is) same wrote.2)),
    )

pub returns-clause-answered : goal.returns-clause-answered
returns-clause-answered g c tells =
    let seen : List ℕ = g.D.Disk.seen c.args.disk.now in
    let name : List ℕ = c.args.name.now in
    let core = c.in-Ok.store.core in
    let e = entry_of c.in-Some.entry.now in
    let there : named name core ≡ Some e = ap (named name) (sym (c.catalog.ensures.core ∙ c.core.ensures.core)) ∙ sym c.in-Some.ensures.entry in (
      [],
      Appends-nil (g.O.Sink.taken c.args.out.now),
      (λ words store at asks.
          subst (λ (l : List ℕ). Answers (ShowEntry store at) (at_entry words seen (unnamed [])) (answer_of name [] made.NoName) [] l) (sym (c.open.ensures.seen tells))
          (show_missing words store at seen (with_bytes seen core) name asks (c.in-Ok.ensures.says tells) (unfinished_one seen core name e there c.in-None.is))),
    )
