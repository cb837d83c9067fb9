use Rattle.std.proofs.Common.{◌≡◌, Option, Some, Err, IfSome, IsTrue, is_some, sym, subst, ap, ◌∙◌, refl}
use Rattle.store_model.specs.Stored.{resumed}
use Rattle.sx_base.specs.declared.stop.Stop.{Stop}
use Rattle.sx_base.proofs.DiskMoments.{begins}
use Rattle.clone_resolve.specs.Heads.{Resumes}
use Rattle.clone_resolve.specs.Heads as code_heads
use Rattle.group_log.proofs.GatedGroups.{rests_has}
use Rattle.group_replay.specs.declared.place.Place.{Place}
use Rattle.group_replay.specs.Kept.{IsKept}
use Rattle.store_journal.specs.Shown.{StoreState}
use Rattle.group_replay.specs.Taking.{open_state}
use Rattle.store_journal.specs.Holding.{bodies_of}
use Rattle.group_replay.proofs.Resuming.{entry_there, not_none, resumed_is, resumed_none, resumed_uuid, resumed_kept}
use Rattle.store_journal.proofs.store.Store.reopen.Given.{Over}
use Rattle.store_journal.proofs.store.Store.reopen.Goals.{In-Ok}
use Rattle.store_journal.proofs.store.Store.reopen.Goals as goal

pub resume-requires : goal.resume-requires
resume-requires g c =
    record { there = entry_there c.args.uuid c.self.inside.core (subst (λ (s : StoreState). IsTrue (is_some (resumed s.core c.args.uuid))) (sym c.self.view_is) c.requires.there) }

module _ (g : Over) where
  again : (c : In-Ok g) → resumed c.args.self.now.core c.args.uuid ≡ Some (open_state c.args.self.now.core c.in-Ok.part)
  again c =
      let core = c.self.inside.core in
      let is_there = subst (λ (s : StoreState). IsTrue (is_some (resumed s.core c.args.uuid))) (sym c.self.view_is) c.requires.there in
      subst (λ (s : StoreState). resumed s.core c.args.uuid ≡ Some (open_state s.core c.in-Ok.part)) c.self.view_is
      (sym (resumed_is c.args.uuid core (code_heads.unfinished_at c.args.uuid core) c.in-Ok.part refl (entry_there c.args.uuid core is_there) c.in-Ok.ensures.resumed))

  own_uuid : (c : In-Ok g) → c.in-Ok.part.key.uuid ≡ c.args.uuid
  own_uuid c =
      let core = c.self.inside.core in
      let is_there = subst (λ (s : StoreState). IsTrue (is_some (resumed s.core c.args.uuid))) (sym c.self.view_is) c.requires.there in
      resumed_uuid c.args.uuid core (code_heads.unfinished_at c.args.uuid core) c.in-Ok.part refl (entry_there c.args.uuid core is_there) c.in-Ok.ensures.resumed

  kept : (c : In-Ok g) → IsKept c.args.self.now.log.gate c.in-Ok.part.subvolume
  kept c =
      let core = c.self.inside.core in
      let is_there = subst (λ (s : StoreState). IsTrue (is_some (resumed s.core c.args.uuid))) (sym c.self.view_is) c.requires.there in
      subst (λ (s : StoreState). IsKept s.log.gate c.in-Ok.part.subvolume) c.self.view_is
      (resumed_kept c.args.uuid core c.self.inside.log.gate (code_heads.unfinished_at c.args.uuid core) c.in-Ok.part (entry_there c.args.uuid core is_there) c.in-Ok.ensures.resumed c.self.invariant)

pub unreachable-requires : goal.unreachable-requires
unreachable-requires g c =
    let core = c.self.inside.core in
    let is_there = subst (λ (s : StoreState). IsTrue (is_some (resumed s.core c.args.uuid))) (sym c.self.view_is) c.requires.there in
    not_none c.args.uuid core
    (resumed_none c.args.uuid core (code_heads.unfinished_at c.args.uuid core) c.in-Err-Refused.field-0-0 refl (entry_there c.args.uuid core is_there)
    (subst (λ (why : Stop). IfSome (code_heads.unfinished_at c.args.uuid core) (λ e. Resumes {C = Option Place} (Err why) e core)) c.in-Err-Refused.field-0-is c.in-Err-Refused.ensures.resumed)) is_there

pub returns-in-Err-NoMemory-clause-any_moment : goal.returns-in-Err-NoMemory-clause-any_moment
returns-in-Err-NoMemory-clause-any_moment g c tells header groups holds =
    begins c.args.disk.now (λ image. g.met.D.Disk.only_now c.args.disk.now image tells) (rests_has header (bodies_of groups) _ _ _ holds.rests)

pub returns-clause-resumed : goal.returns-clause-resumed
returns-clause-resumed g c = again g (goal.at.returns-clause-resumed g c).In-Ok

pub returns-clause-still_open : goal.returns-clause-still_open
returns-clause-still_open g c = c.in_ok-start.ensures.still_open c.in-Ok.part (sym c.key.ensures) (kept g (goal.at.returns-clause-still_open g c).In-Ok)

pub returns-clause-builds : goal.returns-clause-builds
returns-clause-builds g c tells header groups holds =
    let at = (goal.at.returns-clause-builds g c).In-Ok in
    c.in_ok-start.ensures.builds tells header groups c.in-Ok.part holds (sym c.key.ensures)
    (ap (resumed c.args.self.now.core) (own_uuid g at) ∙ again g at)
