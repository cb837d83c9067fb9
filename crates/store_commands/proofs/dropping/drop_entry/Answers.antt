use Rattle.std.specs.Prelude.{◌≡◌, ℕ, Bool, false, true, List, [], Ok}
use Rattle.std.proofs.Common.{sym, ap, subst, ◌∙◌}
use Rattle.sx_base.specs.Crash.{LeavesOnly}
use Rattle.sx_base.proofs.DiskMoments.{begins, leaves_now}
use Rattle.send_model.specs.Store.{has_name}
use Rattle.sx_base.specs.declared.outcome.Outcome.TheVariants as ended
use Rattle.store_model.specs.NamedFiles.{unnamed}
use Rattle.store_model.specs.Requests.{DropEntry, at_entry}
use Rattle.store_model.specs.Answers.{Answers, DropFault}
use Rattle.store_journal.specs.Answers.{groups_without}
use Rattle.store_journal.specs.Holding.{Holds}
use Rattle.store_journal.specs.Standing.{with_bytes}
use Rattle.store_commands.specs.declared.ends.StoreEnd.{StoreEnd}
use Rattle.store_commands.specs.declared.ends.StoreEnd.TheVariants as made
use Rattle.store_commands.specs.Ending.{answer_of}
use Rattle.store_commands.proofs.Opened.{not_opened}
use Rattle.store_commands.proofs.Dropped.{drop_of_none, nothing_dropped, nothing_at_fault, has_seen, unchanged, drop_moments, left_behind, drop_done, drop_missing, drop_stops}
use Rattle.store_commands.proofs.dropping.drop_entry.Given.{Over}
use Rattle.store_commands.proofs.dropping.drop_entry.Goals.{After-drop_name}
use Rattle.store_commands.proofs.dropping.drop_entry.Goals as goal

pub returns-in-Err-clause-answered : goal.returns-in-Err-clause-answered
returns-in-Err-clause-answered g c tells words store at asks =
    let seen : List ℕ = g.D.Disk.seen c.args.disk.now in
    let name : List ℕ = c.args.name.now in
    subst (λ (l : List ℕ). Answers (DropEntry store at) (at_entry words seen (unnamed [])) (answer_of name [] c.ended_by.result) [] l) (sym (c.open.ensures.seen tells))
    (subst (λ (e : StoreEnd). Answers (DropEntry store at) (at_entry words seen (unnamed [])) (answer_of name [] e) [] seen) (sym c.ended_by.ensures)
    (not_opened (DropEntry store at) words seen (unnamed []) name [] _ c.in-Err.stop (nothing_dropped words store at seen) (nothing_at_fault words store at seen) (drop_of_none words store at seen) c.in-Err.ensures.not_refused
    c.in-Err.ensures.stops (c.in-Err.ensures.says tells)))

-- What a crash leaves of a drop that finds its entry.
module _ (g : Over) where
  found : (c : After-drop_name g) (tells : g.D.Disk.tells) → has_name c.args.name.now c.in-Ok.store.core ≡ true
      → LeavesOnly g.D.Disk.moment g.D.Disk.left_since c.open.new.disk c.drop_name.new.disk (DropFault (g.D.Disk.seen c.open.new.disk) c.args.name.now (with_bytes (g.D.Disk.seen c.open.new.disk) c.in-Ok.store.core))
  found c tells there =
      let h = c.in-Ok.ensures.holds tells in
      drop_moments (g.D.Disk.seen c.open.new.disk) c.args.name.now (g.D.Disk.pending c.open.new.disk) c.in-Ok.store h there (c.drop_name.ensures.no_room tells h.header h.groups h.holds) (c.drop_name.ensures.any_moment tells h.header h.groups h.holds)

pub returns-in-Err-drop_name-clause-answered : goal.returns-in-Err-drop_name-clause-answered
returns-in-Err-drop_name-clause-answered g c tells words store at asks =
    let seen : List ℕ = g.D.Disk.seen c.open.new.disk in
    let left : List ℕ = g.D.Disk.seen c.drop_name.new.disk in
    let name : List ℕ = c.args.name.now in
    let h = c.in-Ok.ensures.holds tells in
    let there : has_name name c.in-Ok.store.core ≡ true = c.in-Err-drop_name.ensures.found in
    let run = found g (goal.at.returns-in-Err-drop_name-clause-answered g c).After-drop_name tells there in
    let fault = leaves_now g.D.Disk.pending run (λ image le is. g.met.D.Disk.counts_now c.drop_name.new.disk _ image tells le is) left (g.met.D.Disk.seen_is_image c.drop_name.new.disk tells) in
    subst (λ (l : List ℕ). Answers (DropEntry store at) (at_entry words l (unnamed [])) (answer_of name [] c.ended_by-in-Err-drop_name.result) [] left) (c.open.ensures.seen tells)
    (subst (λ (e : StoreEnd). Answers (DropEntry store at) (at_entry words seen (unnamed [])) (answer_of name [] e) [] left) (sym c.ended_by-in-Err-drop_name.ensures)
    (drop_stops seen name (g.D.Disk.pending c.open.new.disk) c.in-Ok.store h words store at asks left _ c.in-Err-drop_name.stop there c.in-Err-drop_name.ensures.not_refused c.in-Err-drop_name.ensures.stops
    (g.D.Disk.pending c.drop_name.new.disk) (c.in-Err-drop_name.ensures.held tells h.header h.groups h.holds) fault))

pub returns-in-Err-drop_name-clause-any_moment : goal.returns-in-Err-drop_name-clause-any_moment
returns-in-Err-drop_name-clause-any_moment g c tells =
    left_behind (g.D.Disk.seen c.open.new.disk) c.args.name.now (g.D.Disk.pending c.open.new.disk) c.in-Ok.store (c.in-Ok.ensures.holds tells) (g.D.Disk.pending c.args.disk.now) (g.D.Disk.seen c.args.disk.now) (c.open.ensures.seen tells)
    (c.open.ensures.any_moment tells) (found g (goal.at.returns-in-Err-drop_name-clause-any_moment g c).After-drop_name tells c.in-Err-drop_name.ensures.found)

pub returns-then-not-there-clause-answered : goal.returns-then-not-there-clause-answered
returns-then-not-there-clause-answered g c tells words store at asks =
    let seen : List ℕ = g.D.Disk.seen c.open.new.disk in
    let left : List ℕ = g.D.Disk.seen c.drop_name.new.disk in
    let name : List ℕ = c.args.name.now in
    let gone : has_name name c.in-Ok.store.core ≡ false = sym c.in-Ok-drop_name.ensures.there ∙ c.if-not-there.true in
    let same = (c.in-Ok-drop_name.ensures.missing (ap (λ (b : Bool). Ok b) c.if-not-there.true)).1 in
    subst (λ (l : List ℕ). Answers (DropEntry store at) (at_entry words l (unnamed [])) (answer_of name [] made.NoName) [] left) (c.open.ensures.seen tells)
    (drop_missing seen name (g.D.Disk.pending c.open.new.disk) c.in-Ok.store (c.in-Ok.ensures.holds tells) words store at asks left gone (ap g.D.Disk.seen same))

pub returns-then-not-there-clause-any_moment : goal.returns-then-not-there-clause-any_moment
returns-then-not-there-clause-any_moment g c tells =
    let seen : List ℕ = g.D.Disk.seen c.open.new.disk in
    let pending = g.D.Disk.pending c.open.new.disk in
    let h = c.in-Ok.ensures.holds tells in
    let same = (c.in-Ok-drop_name.ensures.missing (ap (λ (b : Bool). Ok b) c.if-not-there.true)).1 in
    left_behind seen c.args.name.now pending c.in-Ok.store h (g.D.Disk.pending c.args.disk.now) (g.D.Disk.seen c.args.disk.now) (c.open.ensures.seen tells) (c.open.ensures.any_moment tells)
    (subst (λ d. LeavesOnly g.D.Disk.moment g.D.Disk.left_since c.open.new.disk d (DropFault seen c.args.name.now (with_bytes seen c.in-Ok.store.core))) (sym same)
    (begins c.open.new.disk (λ image. g.met.D.Disk.only_now c.open.new.disk image tells) (unchanged seen c.args.name.now pending c.in-Ok.store h (c.in-Ok.ensures.durable tells))))

pub returns-clause-answered : goal.returns-clause-answered
returns-clause-answered g c tells words store at asks =
    let seen : List ℕ = g.D.Disk.seen c.open.new.disk in
    let left : List ℕ = g.D.Disk.seen c.drop_name.new.disk in
    let known = g.D.Disk.pending c.drop_name.new.disk in
    let name : List ℕ = c.args.name.now in
    let h = c.in-Ok.ensures.holds tells in
    let there : has_name name c.in-Ok.store.core ≡ true = sym c.in-Ok-drop_name.ensures.there ∙ c.if-not-there.false in
    let now = subst (λ (b : Bool). Holds h.header (groups_without b name h.groups) c.drop_name.new.self left known) c.if-not-there.false (c.in-Ok-drop_name.ensures.holds tells h.header h.groups h.holds) in
    subst (λ (l : List ℕ). Answers (DropEntry store at) (at_entry words l (unnamed [])) (answer_of name [] (made.Ends ended.Done)) [] left) (c.open.ensures.seen tells)
    (drop_done seen name (g.D.Disk.pending c.open.new.disk) c.in-Ok.store h words store at asks left there (c.in-Ok-drop_name.ensures.fits (ap (λ (b : Bool). Ok b) c.if-not-there.false))
    (has_seen h.header (groups_without true name h.groups) c.drop_name.new.self left known now))

pub returns-clause-any_moment : goal.returns-clause-any_moment
returns-clause-any_moment g c tells =
    left_behind (g.D.Disk.seen c.open.new.disk) c.args.name.now (g.D.Disk.pending c.open.new.disk) c.in-Ok.store (c.in-Ok.ensures.holds tells) (g.D.Disk.pending c.args.disk.now) (g.D.Disk.seen c.args.disk.now) (c.open.ensures.seen tells)
    (c.open.ensures.any_moment tells) (found g (goal.at.returns-clause-any_moment g c).After-drop_name tells (sym c.in-Ok-drop_name.ensures.there ∙ c.if-not-there.false))
