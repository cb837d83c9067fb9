use Rattle.std.specs.Prelude.{◌+◌, length, IfSome}
use Rattle.std.proofs.Common.{inl, sym, subst, refl, arith}
use Rattle.sx_base.proofs.DiskMoments.{begins, weakens}
use Rattle.sx_base.specs.Crash.{LeavesOnly}
use Rattle.send_model.specs.Spelling.{canonical}
use Rattle.send_model.specs.Store.{head_of}
use Rattle.store_model.specs.Stored.{Mark}
use Rattle.send_commands.specs.Meaning.{meaning_of}
use Rattle.group_log.proofs.GatedGroups.{rests_has}
use Rattle.store_journal.specs.Shown.{StoreState}
use Rattle.store_journal.specs.Filling.{first_full, group_asks}
use Rattle.store_journal.specs.Holding.{bodies_of, new_group, HasThese, Holds}
use Rattle.store_journal.proofs.Keeping.{more_has, mark_holds, begun_again, begun_are_kept}
use Rattle.group_replay.proofs.KeptParts.{all_further, kept_further}
use Rattle.store_journal.proofs.Stopped.{whether_full}
use Rattle.store_journal.proofs.Refusing.{stopped_begins, anyway}
use Rattle.store_journal.proofs.store.Store.mark.Goals as goal

pub returns-in-Err-Refused-clause-any_moment : goal.returns-in-Err-Refused-clause-any_moment
returns-in-Err-Refused-clause-any_moment g c tells header groups holds =
    begins c.args.disk.now (λ image. g.met.D.Disk.only_now c.args.disk.now image tells) (λ image is. inl (rests_has header (bodies_of groups) _ _ _ holds.rests image is))

pub returns-in-Err-NoMemory-clause-any_moment : goal.returns-in-Err-NoMemory-clause-any_moment
returns-in-Err-NoMemory-clause-any_moment g c tells header groups holds =
    begins c.args.disk.now (λ image. g.met.D.Disk.only_now c.args.disk.now image tells) (λ image is. inl (rests_has header (bodies_of groups) _ _ _ holds.rests image is))

pub returns-in-Ok-write_mark-clause-again : goal.returns-in-Ok-write_mark-clause-again
returns-in-Ok-write_mark-clause-again g c =
    begun_again c.self.inside.core c.begin.new.self (head_of (meaning_of c.args.head.now)) c.in-Ok.part c.requires.head c.in-Ok.ensures.begun

pub returns-in-Ok-write_mark-clause-holds : goal.returns-in-Ok-write_mark-clause-holds
returns-in-Ok-write_mark-clause-holds g c tells header groups holds =
    let seen = g.D.Disk.seen c.args.disk.now in
    let pending = g.D.Disk.pending c.args.disk.now in
    let was = subst (λ (s : StoreState). Holds header groups s seen pending) (sym c.self.view_is) holds in
    mark_holds header groups _ (meaning_of c.args.head.now) c.in-Ok.part c.begin.new.self seen pending was (head_of (meaning_of c.args.head.now)) _ _ _ refl c.requires.head c.requires.spellable c.in-Ok.ensures.begun refl
    (c.in-Ok-write_mark.ensures.rests tells header (bodies_of groups) was.rests)

pub returns-in-Ok-write_mark-clause-any_moment : goal.returns-in-Ok-write_mark-clause-any_moment
returns-in-Ok-write_mark-clause-any_moment g c tells header groups holds =
    let was = subst (λ (s : StoreState). Holds header groups s (g.D.Disk.seen c.args.disk.now) (g.D.Disk.pending c.args.disk.now)) (sym c.self.view_is) holds in
    weakens (c.write_mark.ensures.any_moment tells header (bodies_of groups) was.rests) (λ image has. more_has header groups (new_group (Mark (meaning_of c.args.head.now))) _ image refl has)

pub returns-in-Err-clause-any_moment : goal.returns-in-Err-clause-any_moment
returns-in-Err-clause-any_moment g c tells header groups holds =
    let was = subst (λ (s : StoreState). Holds header groups s (g.D.Disk.seen c.args.disk.now) (g.D.Disk.pending c.args.disk.now)) (sym c.self.view_is) holds in
    weakens (c.write_mark.ensures.any_moment tells header (bodies_of groups) was.rests) (λ image has. more_has header groups (new_group (Mark (meaning_of c.args.head.now))) _ image refl has)

-- What the part begins with is kept, and so are the others.
pub invariant_of-self-in-Ok-write_mark : goal.invariant_of-self-in-Ok-write_mark
invariant_of-self-in-Ok-write_mark g c =
    let gate = c.in-Ok-write_mark.ensures.gate in
    let kept = begun_are_kept c.self.inside.log.gate c.self.inside.core c.begin.new.self (head_of (meaning_of c.args.head.now)) c.in-Ok.part c.requires.head c.in-Ok.ensures.begun c.self.invariant in
    all_further c.self.inside.log.gate c.write_mark.new.log.gate (omega (arith, gate)) c.begin.new.self kept.1

pub returns-in-Ok-write_mark-clause-kept : goal.returns-in-Ok-write_mark-clause-kept
returns-in-Ok-write_mark-clause-kept g c =
    let gate = c.in-Ok-write_mark.ensures.gate in
    let kept = begun_are_kept c.self.inside.log.gate c.self.inside.core c.begin.new.self (head_of (meaning_of c.args.head.now)) c.in-Ok.part c.requires.head c.in-Ok.ensures.begun c.self.invariant in
    kept_further c.self.inside.log.gate c.write_mark.new.log.gate (omega (arith, gate)) c.in-Ok.part.subvolume kept.0

pub returns-in-Err-clause-begun : goal.returns-in-Err-clause-begun
returns-in-Err-clause-begun g c =
    rw (← c.self.view_is) (stopped_begins c.in-Err.stop (head_of (meaning_of c.args.head.now)) c.in-Ok.part _ _ _ c.in-Err.ensures.not_refused c.in-Ok.ensures.begun)

pub returns-in-Err-Refused-clause-unmarked : goal.returns-in-Err-Refused-clause-unmarked
returns-in-Err-Refused-clause-unmarked g c tells header groups holds =
    anyway _ _ (head_of (meaning_of c.args.head.now)) (begins c.args.disk.now (λ image. g.met.D.Disk.only_now c.args.disk.now image tells) (λ image is. rests_has header (bodies_of groups) _ _ _ holds.rests image is))

pub returns-in-Err-NoMemory-clause-unmarked : goal.returns-in-Err-NoMemory-clause-unmarked
returns-in-Err-NoMemory-clause-unmarked g c tells header groups holds =
    anyway _ _ (head_of (meaning_of c.args.head.now)) (begins c.args.disk.now (λ image. g.met.D.Disk.only_now c.args.disk.now image tells) (λ image is. rests_has header (bodies_of groups) _ _ _ holds.rests image is))

pub returns-in-Err-Refused-clause-no_room : goal.returns-in-Err-Refused-clause-no_room
returns-in-Err-Refused-clause-no_room g c tells header groups holds =
    whether_full _ (first_full c.args.self.now.log.limit (group_asks c.args.self.now.log.gate (1 + length (canonical 1 (meaning_of c.args.head.now)))))
    (begins c.args.disk.now (λ image. g.met.D.Disk.only_now c.args.disk.now image tells) (rests_has header (bodies_of groups) _ _ _ holds.rests))

pub returns-in-Err-NoMemory-clause-no_room : goal.returns-in-Err-NoMemory-clause-no_room
returns-in-Err-NoMemory-clause-no_room g c tells header groups holds =
    whether_full _ (first_full c.args.self.now.log.limit (group_asks c.args.self.now.log.gate (1 + length (canonical 1 (meaning_of c.args.head.now)))))
    (begins c.args.disk.now (λ image. g.met.D.Disk.only_now c.args.disk.now image tells) (rests_has header (bodies_of groups) _ _ _ holds.rests))

pub returns-in-Err-clause-no_room : goal.returns-in-Err-clause-no_room
returns-in-Err-clause-no_room g c tells header groups holds =
    let was = subst (λ (s : StoreState). Holds header groups s (g.D.Disk.seen c.args.disk.now) (g.D.Disk.pending c.args.disk.now)) (sym c.self.view_is) holds in
    subst (λ (s : StoreState). IfSome (first_full s.log.limit (group_asks s.log.gate (1 + length (canonical 1 (meaning_of c.args.head.now))))) (λ a. LeavesOnly g.D.Disk.moment g.D.Disk.left_since c.args.disk.now c.write_mark.new.disk (HasThese header groups)))
    c.self.view_is (c.write_mark.ensures.no_room tells header (bodies_of groups) was.rests)
