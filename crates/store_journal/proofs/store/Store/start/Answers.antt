use Rattle.std.proofs.Common.{◌≡◌, ℕ, List, length, Some, sym, subst, ap, ◌∙◌, arith}
use Rattle.send_model.specs.Store.{Key}
use Rattle.group_log.specs.Journal.{Grows}
use Rattle.store_journal.specs.Shown.{StoreState}
use Rattle.store_journal.specs.Holding.{bodies_of, edits_head, Holds}
use Rattle.store_journal.proofs.Keeping.{start_builds}
use Rattle.group_replay.proofs.KeptParts.{kept_further}
use Rattle.store_journal.proofs.store.Store.start.Goals as goal

pub returns-in-Ok-clause-still_open : goal.returns-in-Ok-clause-still_open
returns-in-Ok-clause-still_open g c part key kept =
    let progress = c.in-Ok.ensures.in_progress in
    let same : c.self.inside.log.gate ≡ c.args.self.now.log.gate = ap (λ (s : StoreState). s.log.gate) c.self.view_is in
    record {
      progress = progress;
      live = ap (λ (s : StoreState). s.is_live) c.self.view_is ∙ c.requires.idle.live;
      open_is = ap (λ (k : Key). Some k) (sym key);
      kept = kept_further c.args.self.now.log.gate c.start_group.new.log.size (omega (arith, same, c.start_group.ensures.gate, progress.begun)) part.subvolume kept;
    }

pub returns-in-Ok-clause-builds : goal.returns-in-Ok-clause-builds
returns-in-Ok-clause-builds g c tells header groups part holds key again =
    let seen = g.D.Disk.seen c.args.disk.now in
    let pending = g.D.Disk.pending c.args.disk.now in
    let grown = c.in-Ok.ensures.grows tells header (bodies_of groups) (subst (λ (s : StoreState). Holds header groups s seen pending) (sym c.self.view_is) holds).rests in
    let now : List ℕ = g.D.Disk.seen c.start_group.new.disk in
    start_builds header groups c.args.version part c.args.self.now _ seen now pending (g.D.Disk.pending c.start_group.new.disk) holds (ap (λ (k : Key). length k.uuid) key ∙ c.edits_head.ensures.sixteen) c.requires.version again (ap (λ (s : StoreState). s.core) c.self.view_is)
    (subst (λ (u : List ℕ). Grows header (bodies_of groups) (edits_head u c.args.version) c.start_group.new.log now (g.D.Disk.pending c.start_group.new.disk)) (ap (λ (k : Key). k.uuid) (sym key))
    (subst (λ (l : List ℕ). Grows header (bodies_of groups) l c.start_group.new.log now (g.D.Disk.pending c.start_group.new.disk)) c.edits_head.ensures.spelled grown))

pub returns-in-Ok-clause-any_moment : goal.returns-in-Ok-clause-any_moment
returns-in-Ok-clause-any_moment g c tells header groups holds =
    c.start_group.ensures.any_moment tells header (bodies_of groups) (subst (λ (s : StoreState). Holds header groups s (g.D.Disk.seen c.args.disk.now) (g.D.Disk.pending c.args.disk.now)) (sym c.self.view_is) holds).rests

pub returns-in-Err-clause-any_moment : goal.returns-in-Err-clause-any_moment
returns-in-Err-clause-any_moment g c tells header groups holds =
    c.start_group.ensures.any_moment tells header (bodies_of groups) (subst (λ (s : StoreState). Holds header groups s (g.D.Disk.seen c.args.disk.now) (g.D.Disk.pending c.args.disk.now)) (sym c.self.view_is) holds).rests
