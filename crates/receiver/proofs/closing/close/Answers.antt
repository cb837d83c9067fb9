use Rattle.std.proofs.Common.{sym, ◌∙◌}
use Rattle.receiver.proofs.ClosedParts.{none_closed, one_closed, one_built, none_moments, one_moments, one_held}
use Rattle.receiver.proofs.closing.close.Goals as goal

pub returns-in_default-clause-is_closed : goal.returns-in_default-clause-is_closed
returns-in_default-clause-is_closed g c = none_closed _ c.args.current.now c.args.store.now (sym c.in_default.is ∙ c.take.ensures.value) c.requires.ready

pub returns-in_default-clause-any_moment : goal.returns-in_default-clause-any_moment
returns-in_default-clause-any_moment g c tells header groups begun keeps =
    none_moments header groups c.args.disk.now begun c.args.current.now c.args.store.now _ (sym c.in_default.is ∙ c.take.ensures.value) keeps (λ image. g.met.D.Disk.only_now c.args.disk.now image tells)

pub returns-in_default-complete-clause-any_moment : goal.returns-in_default-complete-clause-any_moment
returns-in_default-complete-clause-any_moment g c tells header groups begun keeps =
    let b = one_built header groups begun c.args.current.now c.in-Some.opened c.args.store.now _ _ (sym c.in-Some.is ∙ c.take.ensures.value) keeps in
    one_moments header groups b.0 begun c.in-Some.opened.part.key.uuid b.1 b.2.uuid (c.complete.ensures.any_moment tells header groups b.0.version b.0.commands b.2.builds)

pub returns-in_default-write_whole-clause-is_closed : goal.returns-in_default-write_whole-clause-is_closed
returns-in_default-write_whole-clause-is_closed g c =
    one_closed _ c.args.current.now c.in-Some.opened c.args.store.now c.complete.new.self (sym c.in-Some.is ∙ c.take.ensures.value) c.in-Ok.ensures.core c.in-Ok.ensures.idle c.in-Ok.ensures.gate

pub returns-in_default-write_whole-clause-holds : goal.returns-in_default-write_whole-clause-holds
returns-in_default-write_whole-clause-holds g c tells header groups begun keeps =
    let b = one_built header groups begun c.args.current.now c.in-Some.opened c.args.store.now _ _ (sym c.in-Some.is ∙ c.take.ensures.value) keeps in
    one_held header groups b.0 begun c.in-Some.opened.part.key.uuid c.complete.new.self _ _ b.1 b.2.uuid (c.in-Ok.ensures.holds tells header groups b.0.version b.0.commands b.2.builds)

pub returns-in_default-write_whole-clause-any_moment : goal.returns-in_default-write_whole-clause-any_moment
returns-in_default-write_whole-clause-any_moment g c tells header groups begun keeps =
    let b = one_built header groups begun c.args.current.now c.in-Some.opened c.args.store.now _ _ (sym c.in-Some.is ∙ c.take.ensures.value) keeps in
    one_moments header groups b.0 begun c.in-Some.opened.part.key.uuid b.1 b.2.uuid (c.complete.ensures.any_moment tells header groups b.0.version b.0.commands b.2.builds)

pub returns-clause-is_closed : goal.returns-clause-is_closed
returns-clause-is_closed g c =
    one_closed _ c.args.current.now c.in-Some.opened c.args.store.now c.complete.new.self (sym c.in-Some.is ∙ c.take.ensures.value) c.in-Ok.ensures.core c.in-Ok.ensures.idle c.in-Ok.ensures.gate

pub returns-clause-holds : goal.returns-clause-holds
returns-clause-holds g c tells header groups begun keeps =
    let b = one_built header groups begun c.args.current.now c.in-Some.opened c.args.store.now _ _ (sym c.in-Some.is ∙ c.take.ensures.value) keeps in
    one_held header groups b.0 begun c.in-Some.opened.part.key.uuid c.complete.new.self _ _ b.1 b.2.uuid (c.in-Ok.ensures.holds tells header groups b.0.version b.0.commands b.2.builds)

pub returns-clause-any_moment : goal.returns-clause-any_moment
returns-clause-any_moment g c tells header groups begun keeps =
    let b = one_built header groups begun c.args.current.now c.in-Some.opened c.args.store.now _ _ (sym c.in-Some.is ∙ c.take.ensures.value) keeps in
    one_moments header groups b.0 begun c.in-Some.opened.part.key.uuid b.1 b.2.uuid (c.complete.ensures.any_moment tells header groups b.0.version b.0.commands b.2.builds)
