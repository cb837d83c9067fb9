use Rattle.std.specs.Prelude.{◌≡◌, ◌+◌, ◌++◌, ◌∷◌, [], ℕ, List, Option, length, is_some}
use Rattle.std.proofs.Common.{inl, ap, subst, ◌∙◌, arith}
use Rattle.sx_base.specs.Crash.{LeavesOnly}
use Rattle.sx_base.proofs.DiskMoments.{joins, weakens}
use Rattle.send_model.specs.Spelling.{canonical_all}
use Rattle.send_model.specs.Store.{State}
use Rattle.store_model.specs.Stored.{Body}
use Rattle.store_model.proofs.TurnMaking.{resumed_uuid}
use Rattle.group_replay.specs.declared.place.Place.{Place}
use Rattle.store_journal.specs.Holding.{new_group, HasThese, HasOneMore, Holds}
use Rattle.turn_sessions.specs.Edits.{frames_end}
use Rattle.turn_sessions.proofs.Completing.{body_there, body_next, completed_open, frames_length, if_full}
use Rattle.turn_sessions.proofs.parting.complete.Goals as goal

pub reopen-requires-clause-there : goal.reopen-requires-clause-there
reopen-requires-clause-there g c =
    let r = c.requires.completed in
    let b = body_there c.args.version c.args.uuid c.args.store.now r.0 r.1 r.3 in
    ap (λ (o : Option (State (Option Place))). is_some o) b.1

pub write_frames-requires-clause-frames : goal.write_frames-requires-clause-frames
write_frames-requires-clause-frames g c =
    let r = c.requires.completed in
    let e = c.in-Ok.ensures in
    let size = e.size in
    let n = body_next c.args.version c.args.uuid c.args.store.now c.reopen.new.self c.in-Ok.part r.0 r.1 r.3 e.resumed e.core (omega (arith, size, e.gate)) in
    (r.0, n.0, r.2, n.1)

pub returns-in-Err-write_frames-clause-any_moment : goal.returns-in-Err-write_frames-clause-any_moment
returns-in-Err-write_frames-clause-any_moment g c tells header groups commands are holds =
    let e = c.in-Ok.ensures in
    weakens (joins (e.any_moment tells header groups holds) (c.in-Err-write_frames.ensures.any_moment tells header groups [] (e.builds tells header groups holds))) (λ image has. inl has)

pub returns-in-Err-write_frames-clause-no_room : goal.returns-in-Err-write_frames-clause-no_room
returns-in-Err-write_frames-clause-no_room g c tells header groups holds =
    let e = c.in-Ok.ensures in
    if_full c.in-Err-write_frames.why (LeavesOnly g.D.Disk.moment g.D.Disk.left_since c.args.disk.now c.write_frames.new.disk (HasThese header groups))
    (joins (e.any_moment tells header groups holds) (c.in-Err-write_frames.ensures.any_moment tells header groups [] (e.builds tells header groups holds)))

pub returns-in-Ok-complete-clause-made : goal.returns-in-Ok-complete-clause-made
returns-in-Ok-complete-clause-made g c commands new are is =
    let e = c.in-Ok.ensures in
    let size = e.size in
    let n = body_next c.args.version c.args.uuid c.args.store.now c.reopen.new.self c.in-Ok.part commands new is e.resumed e.core (omega (arith, size, e.gate)) in
    c.in-Ok-complete.ensures.core ∙ completed_open c.write_frames.new.store.core c.write_frames.new.part n.0 (c.in-Ok-write_frames.ensures.made commands n.0 are n.1) ∙ n.2

pub returns-in-Ok-complete-clause-gate : goal.returns-in-Ok-complete-clause-gate
returns-in-Ok-complete-clause-gate g c commands are =
    let e = c.in-Ok.ensures in
    let first = e.size in
    let size = c.in-Ok-write_frames.ensures.size in
    let gate = c.in-Ok-complete.ensures.gate in
    let long : length c.args.frames.now ≡ length (canonical_all c.args.version commands) = ap length are.spelled in
    let end : frames_end c.args.version (c.args.store.now.log.gate + 27) commands ≡ c.args.store.now.log.gate + 27 + length (canonical_all c.args.version commands) = frames_length c.args.version (c.args.store.now.log.gate + 27) commands in
    omega (arith, gate, size, first, e.gate, long, end)

pub returns-in-Ok-complete-clause-holds : goal.returns-in-Ok-complete-clause-holds
returns-in-Ok-complete-clause-holds g c tells header groups commands are holds =
    let e = c.in-Ok.ensures in
    let own : c.write_frames.new.part.key.uuid ≡ c.args.uuid = ap (λ k. k.uuid) c.in-Ok-write_frames.ensures.key ∙ resumed_uuid c.args.uuid c.args.store.now.core c.in-Ok.part e.resumed in
    let built = c.in-Ok-write_frames.ensures.builds tells header groups [] commands are (e.builds tells header groups holds) in
    subst (λ (u : List ℕ). Holds header (groups ++ new_group (Body u c.args.version commands) ∷ []) c.complete.new.self (g.D.Disk.seen c.complete.new.disk) (g.D.Disk.pending c.complete.new.disk)) own
    (c.in-Ok-complete.ensures.holds tells header groups c.args.version commands built)

pub returns-in-Ok-complete-clause-any_moment : goal.returns-in-Ok-complete-clause-any_moment
returns-in-Ok-complete-clause-any_moment g c tells header groups commands are holds =
    let e = c.in-Ok.ensures in
    let own : c.write_frames.new.part.key.uuid ≡ c.args.uuid = ap (λ k. k.uuid) c.in-Ok-write_frames.ensures.key ∙ resumed_uuid c.args.uuid c.args.store.now.core c.in-Ok.part e.resumed in
    let built = c.in-Ok-write_frames.ensures.builds tells header groups [] commands are (e.builds tells header groups holds) in
    let before = joins (e.any_moment tells header groups holds) (c.in-Ok-write_frames.ensures.any_moment tells header groups [] (e.builds tells header groups holds)) in
    joins (weakens before (λ image has. inl has))
    (subst (λ (u : List ℕ). LeavesOnly g.D.Disk.moment g.D.Disk.left_since c.write_frames.new.disk c.complete.new.disk (HasOneMore header groups (new_group (Body u c.args.version commands)))) own
    (c.complete.ensures.any_moment tells header groups c.args.version commands built))

pub returns-in-Err-complete-clause-any_moment : goal.returns-in-Err-complete-clause-any_moment
returns-in-Err-complete-clause-any_moment g c tells header groups commands are holds =
    let e = c.in-Ok.ensures in
    let own : c.write_frames.new.part.key.uuid ≡ c.args.uuid = ap (λ k. k.uuid) c.in-Ok-write_frames.ensures.key ∙ resumed_uuid c.args.uuid c.args.store.now.core c.in-Ok.part e.resumed in
    let built = c.in-Ok-write_frames.ensures.builds tells header groups [] commands are (e.builds tells header groups holds) in
    let before = joins (e.any_moment tells header groups holds) (c.in-Ok-write_frames.ensures.any_moment tells header groups [] (e.builds tells header groups holds)) in
    joins (weakens before (λ image has. inl has))
    (subst (λ (u : List ℕ). LeavesOnly g.D.Disk.moment g.D.Disk.left_since c.write_frames.new.disk c.complete.new.disk (HasOneMore header groups (new_group (Body u c.args.version commands)))) own
    (c.complete.ensures.any_moment tells header groups c.args.version commands built))
