use Rattle.std.specs.Prelude.{◌≡◌, ℕ, List, map}
use Rattle.std.specs.String.{string_bytes}
use Rattle.std.proofs.Common.{sym, subst, ◌∙◌}
use Rattle.send_model.specs.Lawful.{IsLawfulStore}
use Rattle.sx_base.specs.Calls.{IfAllTold, Wrote}
use Rattle.sx_base.specs.Disk.{Pending, IsImage}
use Rattle.sx_base.proofs.DiskImages.{only_settled}
use Rattle.sx_base.proofs.DiskMoments.{joins, weakens}
use Rattle.store_model.proofs.LawfulGroups.{stands_lawful}
use Rattle.composer.proofs.Asked.{heads_none}
use Rattle.store_journal.specs.Standing.{with_bytes}
use Rattle.store_compose.specs.Ending.{beside, EndsOver, ComposeCaused, ChangeFound}
use Rattle.store_compose.proofs.StoreAnswers.{not_composed, no_headline, no_front, is_composed, is_headline, is_front, opening_caused, opening_unchanged}
use Rattle.store_compose.proofs.composing.compose_store.Given.{Over}
use Rattle.store_compose.proofs.composing.compose_store.Goals.{After-compose_opened}
use Rattle.store_compose.proofs.composing.compose_store.Goals as goal

pub returns-in-Err-clause-answered : goal.returns-in-Err-clause-answered
returns-in-Err-clause-answered g c tells =
    not_composed _ _ (g.D.Disk.seen c.args.disk.now) (g.D.Disk.seen c.open.new.disk) c.args.given.now.overrides.now (c.open.ensures.seen tells) (g.O.Sink.taken c.args.out.now) _ c.in-Err.stop c.ended_by.result c.ended_by.ensures c.in-Err.ensures.not_refused
    c.in-Err.ensures.stops (c.in-Err.ensures.says tells)

pub returns-in-Err-clause-composed : goal.returns-in-Err-clause-composed
returns-in-Err-clause-composed g c tells =
    no_headline _ _ (g.D.Disk.seen c.args.disk.now) c.args.given.now.overrides.now (g.O.Sink.taken c.args.out.now) c.in-Err.stop c.ended_by.result c.ended_by.ensures c.in-Err.ensures.not_refused

pub returns-in-Err-clause-refused : goal.returns-in-Err-clause-refused
returns-in-Err-clause-refused g c tells =
    no_front _ _ (g.D.Disk.seen c.args.disk.now) c.args.given.now.overrides.now (g.O.Sink.taken c.args.out.now) c.in-Err.stop c.ended_by.result c.ended_by.ensures c.in-Err.ensures.not_refused

pub returns-in-Err-clause-cause : goal.returns-in-Err-clause-cause
returns-in-Err-clause-cause g c = subst (ComposeCaused _ _ _ _ _) (sym c.ended_by.ensures) (opening_caused _ _ _ _ _ c.in-Err.stop c.in-Err.ensures.not_refused c.in-Err.ensures.stops)

pub returns-in-Err-clause-changed : goal.returns-in-Err-clause-changed
returns-in-Err-clause-changed g c =
    subst (ChangeFound (map string_bytes c.args.given.now.files.now) (g.I.Inputs.last_end c.args.inputs.now)) (sym c.ended_by.ensures) (opening_unchanged (map string_bytes c.args.given.now.files.now) (g.I.Inputs.last_end c.args.inputs.now) c.in-Err.stop)

pub compose_opened-requires-clause-lawful : goal.compose_opened-requires-clause-lawful
compose_opened-requires-clause-lawful g c tells =
    let seen : List ℕ = g.D.Disk.seen c.args.disk.now in
    subst (λ (l : List ℕ). IsLawfulStore (with_bytes l c.in-Ok.store.core)) (sym (c.open.ensures.seen tells)) (stands_lawful seen (with_bytes seen c.in-Ok.store.core) (c.in-Ok.ensures.says tells))

module _ (g : Over) where
  ends : (c : After-compose_opened g) → g.D.Disk.tells → IfAllTold (g.I.Inputs.told c.args.inputs.now) (map string_bytes c.args.given.now.files.now)
      (λ files. Wrote (g.O.Sink.taken c.args.out.now) (g.O.Sink.taken c.compose_opened.new.out) (EndsOver (beside (with_bytes (g.D.Disk.seen c.args.disk.now) c.in-Ok.store.core) c.args.given.now.overrides.now files) c.args.given.now.overrides.now files c.compose_opened.result))
  ends c tells =
      subst (λ (l : List ℕ). IfAllTold (g.I.Inputs.told c.args.inputs.now) (map string_bytes c.args.given.now.files.now)
      (λ files. Wrote (g.O.Sink.taken c.args.out.now) (g.O.Sink.taken c.compose_opened.new.out) (EndsOver (beside (with_bytes l c.in-Ok.store.core) c.args.given.now.overrides.now files) c.args.given.now.overrides.now files c.compose_opened.result)))
      (c.open.ensures.seen tells) (c.compose_opened.ensures.ends tells)

pub returns-clause-answered : goal.returns-clause-answered
returns-clause-answered g c tells =
    let seen : List ℕ = g.D.Disk.seen c.args.disk.now in
    is_composed _ _ seen (g.D.Disk.seen c.compose_opened.new.disk) c.args.given.now.overrides.now ((c.compose_opened.ensures.read.same tells).seen ∙ c.open.ensures.seen tells) _ _ (with_bytes seen c.in-Ok.store.core) c.compose_opened.result (c.in-Ok.ensures.says tells)
    (ends g (goal.at.returns-clause-answered g c).After-compose_opened tells)

pub returns-clause-composed : goal.returns-clause-composed
returns-clause-composed g c tells =
    let seen : List ℕ = g.D.Disk.seen c.args.disk.now in
    is_headline _ _ seen c.args.given.now.overrides.now _ _ (with_bytes seen c.in-Ok.store.core) c.compose_opened.result (c.in-Ok.ensures.says tells) (ends g (goal.at.returns-clause-composed g c).After-compose_opened tells)

pub returns-clause-refused : goal.returns-clause-refused
returns-clause-refused g c tells =
    let seen : List ℕ = g.D.Disk.seen c.args.disk.now in
    is_front _ _ seen c.args.given.now.overrides.now _ _ (with_bytes seen c.in-Ok.store.core) c.compose_opened.result (c.in-Ok.ensures.says tells) (ends g (goal.at.returns-clause-refused g c).After-compose_opened tells)

pub returns-clause-any_moment : goal.returns-clause-any_moment
returns-clause-any_moment g c tells =
    let D = g.D.Disk in
    joins (c.open.ensures.any_moment tells) (weakens (c.compose_opened.ensures.read.any_moment tells) (λ image is.
    let whole : image ≡ D.seen c.open.new.disk = only_settled (D.seen c.open.new.disk) image (subst (λ (p : Pending). IsImage p image) (c.in-Ok.ensures.durable tells) is) in
    subst (λ (i : List ℕ). IsImage (D.pending c.args.disk.now) i) (sym (whole ∙ c.open.ensures.seen tells)) (g.met.D.Disk.seen_is_image c.args.disk.now tells)))

pub returns-in-Err-clause-asked : goal.returns-in-Err-clause-asked
returns-in-Err-clause-asked g c = heads_none g.I.Inputs (map string_bytes c.args.given.now.files.now) c.args.inputs.now
