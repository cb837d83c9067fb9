use Rattle.std.specs.Prelude.{◌+◌, length, IfSome}
use Rattle.std.proofs.Common.{◌≡◌, true, false, inl, sym, subst, ap, ◌∙◌, refl, arith}
use Rattle.sx_base.proofs.DiskMoments.{begins, weakens}
use Rattle.sx_base.specs.Crash.{LeavesOnly}
use Rattle.send_model.specs.Store.{Store, has_name}
use Rattle.store_model.specs.Stored.{Drop}
use Rattle.group_log.proofs.GatedGroups.{rests_has}
use Rattle.std.specs.Prelude.{Option}
use Rattle.std.specs.Option.{option_map}
use Rattle.subvol_catalog.specs.Entries.{key_of}
use Rattle.group_replay.specs.declared.place.Place.{Place}
use Rattle.store_journal.specs.Shown.{StoreState}
use Rattle.store_journal.specs.Filling.{first_full, group_asks}
use Rattle.store_journal.specs.Holding.{bodies_of, new_group, HasThese, Holds}
use Rattle.store_journal.proofs.Pushes.{none_dropped}
use Rattle.store_journal.proofs.Stopped.{whether_full}
use Rattle.store_journal.proofs.Keeping.{more_has, more_rests, drop_makes}
use Rattle.store_journal.proofs.store.Store.drop_name.Given.{Over}
use Rattle.group_replay.specs.Kept.{AreKept}
use Rattle.group_replay.proofs.KeptParts.{all_further, dropped_kept}
use Rattle.store_journal.proofs.store.Store.drop_name.Goals.{After-drop_name}
use Rattle.store_journal.proofs.store.Store.drop_name.Goals as goal

pub returns-then-not-drop_name-clause-missing : goal.returns-then-not-drop_name-clause-missing
returns-then-not-drop_name-clause-missing g c is =
    let none : has_name c.args.name.now c.self.inside.core ≡ false = sym c.drop_name.ensures.there ∙ c.if-not-drop_name.true in
    let same : c.drop_name.new.self ≡ c.self.inside.core = c.drop_name.ensures.dropped ∙ none_dropped c.args.name.now c.self.inside.core none in
    (ap (λ (s : Store (Option Place)). record { core = s; log = c.self.inside.log; open_part = option_map key_of c.self.inside.open_part; is_live = c.self.inside.is_live }) same ∙ c.self.view_is, refl)

pub returns-then-not-drop_name-clause-holds : goal.returns-then-not-drop_name-clause-holds
unfolding returns-then-not-drop_name-clause-missing
returns-then-not-drop_name-clause-holds g c tells header groups holds =
    subst (λ (s : StoreState). Holds header groups s (g.D.Disk.seen c.args.disk.now) (g.D.Disk.pending c.args.disk.now)) (sym (returns-then-not-drop_name-clause-missing g c refl).0) holds

pub returns-then-not-drop_name-clause-any_moment : goal.returns-then-not-drop_name-clause-any_moment
returns-then-not-drop_name-clause-any_moment g c tells header groups holds =
    begins c.args.disk.now (λ image. g.met.D.Disk.only_now c.args.disk.now image tells) (λ image is. inl (rests_has header (bodies_of groups) _ _ _ holds.rests image is))

pub returns-in-Ok-clause-holds : goal.returns-in-Ok-clause-holds
returns-in-Ok-clause-holds g c tells header groups holds =
    let seen = g.D.Disk.seen c.args.disk.now in
    let pending = g.D.Disk.pending c.args.disk.now in
    let was = subst (λ (s : StoreState). Holds header groups s seen pending) (sym c.self.view_is) holds in
    let there : has_name c.args.name.now c.self.inside.core ≡ true = sym c.drop_name.ensures.there ∙ c.if-not-drop_name.false in
    record {
      rests = more_rests header groups (new_group (Drop c.args.name.now)) _ _ c.write_drop.new.log _ refl (c.in-Ok.ensures.rests tells header (bodies_of groups) was.rests);
      makes = drop_makes header groups _ c.args.name.now seen c.drop_name.new.self pending was there c.drop_name.ensures.dropped;
    }

pub returns-in-Ok-clause-any_moment : goal.returns-in-Ok-clause-any_moment
returns-in-Ok-clause-any_moment g c tells header groups holds =
    let was = subst (λ (s : StoreState). Holds header groups s (g.D.Disk.seen c.args.disk.now) (g.D.Disk.pending c.args.disk.now)) (sym c.self.view_is) holds in
    weakens (c.write_drop.ensures.any_moment tells header (bodies_of groups) was.rests) (λ image has. more_has header groups (new_group (Drop c.args.name.now)) _ image refl has)

pub returns-in-Err-clause-any_moment : goal.returns-in-Err-clause-any_moment
returns-in-Err-clause-any_moment g c tells header groups holds =
    let was = subst (λ (s : StoreState). Holds header groups s (g.D.Disk.seen c.args.disk.now) (g.D.Disk.pending c.args.disk.now)) (sym c.self.view_is) holds in
    weakens (c.write_drop.ensures.any_moment tells header (bodies_of groups) was.rests) (λ image has. more_has header groups (new_group (Drop c.args.name.now)) _ image refl has)

-- The bytes of the others stand where they stood.
module _ (g : Over) where
  others : (c : After-drop_name g) → AreKept c.self.inside.log.gate c.drop_name.new.self
  others c = subst (λ (s : Store (Option Place)). AreKept c.self.inside.log.gate s) (sym c.drop_name.ensures.dropped) (dropped_kept c.self.inside.log.gate c.args.name.now c.self.inside.core c.self.invariant)

pub invariant_of-self : goal.invariant_of-self
invariant_of-self g c = others g (goal.at.invariant_of-self g c).After-drop_name

pub invariant_of-self-in-Ok : goal.invariant_of-self-in-Ok
invariant_of-self-in-Ok g c =
    let gate = c.in-Ok.ensures.gate in
    all_further c.self.inside.log.gate c.write_drop.new.log.gate (omega (arith, gate)) c.drop_name.new.self (others g (goal.at.invariant_of-self-in-Ok g c).After-drop_name)

pub invariant_of-self-in-Err : goal.invariant_of-self-in-Err
invariant_of-self-in-Err g c =
    let gate = c.in-Err.ensures.gate_kept in
    all_further c.self.inside.log.gate c.write_drop.new.log.gate (omega (arith, gate)) c.drop_name.new.self (others g (goal.at.invariant_of-self-in-Err g c).After-drop_name)

-- What has no room is never there.
pub returns-then-not-drop_name-clause-no_room : goal.returns-then-not-drop_name-clause-no_room
returns-then-not-drop_name-clause-no_room g c tells header groups holds =
    whether_full _ (first_full c.args.self.now.log.limit (group_asks c.args.self.now.log.gate (1 + length c.args.name.now)))
    (begins c.args.disk.now (λ image. g.met.D.Disk.only_now c.args.disk.now image tells) (rests_has header (bodies_of groups) _ _ _ holds.rests))

pub returns-in-Err-clause-no_room : goal.returns-in-Err-clause-no_room
returns-in-Err-clause-no_room g c tells header groups holds =
    let was = subst (λ (s : StoreState). Holds header groups s (g.D.Disk.seen c.args.disk.now) (g.D.Disk.pending c.args.disk.now)) (sym c.self.view_is) holds in
    subst (λ (s : StoreState). IfSome (first_full s.log.limit (group_asks s.log.gate (1 + length c.args.name.now))) (λ a. LeavesOnly g.D.Disk.moment g.D.Disk.left_since c.args.disk.now c.write_drop.new.disk (HasThese header groups)))
    c.self.view_is (c.write_drop.ensures.no_room tells header (bodies_of groups) was.rests)
