use Rattle.std.proofs.Common.{◌≡◌, ℕ, [], ◌∷◌, ◌++◌, Option, None, sym, subst, ap, arith}
use Rattle.send_model.specs.Store.{Store}
use Rattle.store_model.specs.Stored.{Body, Makes}
use Rattle.sx_base.proofs.DiskMoments.{weakens}
use Rattle.group_replay.specs.declared.place.Place.{Place}
use Rattle.store_journal.specs.Shown.{StoreState}
use Rattle.store_journal.specs.Holding.{bodies_of, new_group}
use Rattle.store_journal.proofs.Unpacked.{Builds}
use Rattle.group_replay.specs.Taking.{as_runs}
use Rattle.store_journal.proofs.Keeping.{more_has, more_rests, edits_spelled, completes}
use Rattle.group_replay.specs.Kept.{AreKept}
use Rattle.group_replay.proofs.KeptParts.{kept_further, all_further, completed_kept}
use Rattle.store_journal.proofs.store.Store.complete.Goals as goal

pub returns-in-Ok-clause-holds : goal.returns-in-Ok-clause-holds
returns-in-Ok-clause-holds g c tells header groups version commands builds =
    let seen = g.D.Disk.seen c.args.disk.now in
    let pending = g.D.Disk.pending c.args.disk.now in
    let was = subst (λ (s : StoreState). Builds header groups version commands c.args.part s seen pending) (sym c.self.view_is) builds in
    let group = new_group (Body c.args.part.key.uuid version commands) in
    record {
      rests = more_rests header groups group _ _ c.publish.new.log _ (edits_spelled c.args.part.key.uuid version commands) (c.in-Ok.ensures.rests tells header (bodies_of groups) _ was.grows);
      makes = subst (λ (s : Store (Option Place)). Makes None as_runs header.format (groups ++ group ∷ []) s) (sym c.complete.ensures) (completes header groups version commands c.args.part _ seen pending was);
    }

pub returns-in-Ok-clause-any_moment : goal.returns-in-Ok-clause-any_moment
returns-in-Ok-clause-any_moment g c tells header groups version commands builds =
    let was = subst (λ (s : StoreState). Builds header groups version commands c.args.part s (g.D.Disk.seen c.args.disk.now) (g.D.Disk.pending c.args.disk.now)) (sym c.self.view_is) builds in
    weakens (c.publish.ensures.any_moment tells header (bodies_of groups) _ was.grows) (λ image has. more_has header groups (new_group (Body c.args.part.key.uuid version commands)) _ image (edits_spelled c.args.part.key.uuid version commands) has)

pub returns-in-Err-clause-any_moment : goal.returns-in-Err-clause-any_moment
returns-in-Err-clause-any_moment g c tells header groups version commands builds =
    let was = subst (λ (s : StoreState). Builds header groups version commands c.args.part s (g.D.Disk.seen c.args.disk.now) (g.D.Disk.pending c.args.disk.now)) (sym c.self.view_is) builds in
    weakens (c.publish.ensures.any_moment tells header (bodies_of groups) _ was.grows) (λ image has. more_has header groups (new_group (Body c.args.part.key.uuid version commands)) _ image (edits_spelled c.args.part.key.uuid version commands) has)

-- The bytes of the part stand in its group.
pub invariant_of-self : goal.invariant_of-self
invariant_of-self g c =
    let was = c.requires in
    let gate = c.in-Ok.ensures.gate in
    let far : ℕ = c.publish.new.log.gate in
    let end : c.self.inside.log.size ≡ c.args.self.now.log.size = ap (λ (s : StoreState). s.log.size) c.self.view_is in
    let first : c.self.inside.log.gate ≡ c.args.self.now.log.gate = ap (λ (s : StoreState). s.log.gate) c.self.view_is in
    subst (λ (s : Store (Option Place)). AreKept far s) (sym c.complete.ensures)
    (completed_kept far c.args.part.key.uuid c.args.part.subvolume c.self.inside.core
    (kept_further c.args.self.now.log.size far (omega (arith, gate, end)) c.args.part.subvolume was.kept)
    (all_further c.self.inside.log.gate far (omega (arith, gate, end, first, was.progress.begun)) c.self.inside.core c.self.invariant))
