use Rattle.std.specs.Prelude.{◌≡◌, ◌++◌, ℕ, List, map, Option, Ok, Err}
use Rattle.std.proofs.Common.{sym, ap, subst, ◌∙◌}
use Rattle.send_model.specs.Command.{Command, SetXattr}
use Rattle.snapshot_model.specs.Sent.{contents_commands, setting_commands}
use Rattle.inode_commands.specs.Spelled.{spelled_all}
use Rattle.inode_commands.proofs.Joined.{all_joined}
use Rattle.group_replay.specs.declared.place.Place.{Place}
use Rattle.full_send.specs.Adding.{Adds}
use Rattle.full_send.specs.Held.{held_cell}
use Rattle.full_send.proofs.Added.{handed_on, stops_early, then_adds}
use Rattle.full_send.proofs.pending.Writer.fields.Goals as goal

pub returns-in_err-attributes-clause-adds : goal.returns-in_err-attributes-clause-adds
returns-in_err-attributes-clause-adds g c tells =
    let O = g.O.Sink in
    let F = g.F.Form in
    let v : ℕ = c.args.self.now.spelling.version in
    let path : List ℕ = c.args.at.now.path.now in
    let inode = c.args.inode.now in
    let image : List ℕ = g.D.Disk.seen c.args.disk.now in
    let xs : List Command = map (λ e. SetXattr e.0 e.1 path) inode.xattrs in
    let cs : List Command = contents_commands path (map (held_cell image) inode.cells) in
    let ss : List Command = setting_commands path inode in
    let all : spelled_all F.spelled v (xs ++ (cs ++ ss)) ≡ spelled_all F.spelled v xs ++ (spelled_all F.spelled v cs ++ spelled_all F.spelled v ss) =
    all_joined F.spelled v xs (cs ++ ss) ∙ ap (λ (l : List ℕ). spelled_all F.spelled v xs ++ l) (all_joined F.spelled v cs ss) in
    handed_on _ _ c.attributes.new.bytes _ _ c.from_residual.result _ c.from_residual.ensures.1
    (subst (λ (l : List ℕ). Adds l c.args.bytes.now c.attributes.new.bytes (O.taken c.args.out.now) (O.taken c.attributes.new.out) (Err c.in_err-attributes.field-0.0)) (sym all)
    (stops_early (spelled_all F.spelled v xs) (spelled_all F.spelled v cs ++ spelled_all F.spelled v ss) c.args.bytes.now c.attributes.new.bytes _ _ _ c.in_err-attributes.ensures.adds))

pub returns-in_err-contents-clause-adds : goal.returns-in_err-contents-clause-adds
returns-in_err-contents-clause-adds g c tells =
    let O = g.O.Sink in
    let F = g.F.Form in
    let v : ℕ = c.args.self.now.spelling.version in
    let path : List ℕ = c.args.at.now.path.now in
    let inode = c.args.inode.now in
    let image : List ℕ = g.D.Disk.seen c.args.disk.now in
    let xs : List Command = map (λ e. SetXattr e.0 e.1 path) inode.xattrs in
    let cs : List Command = contents_commands path (map (held_cell image) inode.cells) in
    let ss : List Command = setting_commands path inode in
    let all : spelled_all F.spelled v (xs ++ (cs ++ ss)) ≡ spelled_all F.spelled v xs ++ (spelled_all F.spelled v cs ++ spelled_all F.spelled v ss) =
    all_joined F.spelled v xs (cs ++ ss) ∙ ap (λ (l : List ℕ). spelled_all F.spelled v xs ++ l) (all_joined F.spelled v cs ss) in
    handed_on _ _ c.contents-2.new.bytes _ _ c.from_residual-in_err-contents.result _ c.from_residual-in_err-contents.ensures.1
    (subst (λ (l : List ℕ). Adds l c.args.bytes.now c.contents-2.new.bytes (O.taken c.args.out.now) (O.taken c.contents-2.new.out) (Err c.in_err-contents.field-0.0)) (sym all)
    (then_adds _ _ _ _ c.contents-2.new.bytes _ _ _ (Err c.in_err-contents.field-0.0) c.in_ok-attributes.ensures.adds
    (stops_early (spelled_all F.spelled v cs) (spelled_all F.spelled v ss) c.attributes.new.bytes c.contents-2.new.bytes _ _ _ (subst (λ (cells : List (Option Place)). Adds (spelled_all F.spelled v (contents_commands path (map (held_cell image) cells))) c.attributes.new.bytes c.contents-2.new.bytes (O.taken c.attributes.new.out) (O.taken c.contents-2.new.out) (Err c.in_err-contents.field-0.0)) c.contents.ensures (c.in_err-contents.ensures.adds tells)))))

pub returns-clause-adds : goal.returns-clause-adds
returns-clause-adds g c tells =
    let O = g.O.Sink in
    let F = g.F.Form in
    let v : ℕ = c.args.self.now.spelling.version in
    let path : List ℕ = c.args.at.now.path.now in
    let inode = c.args.inode.now in
    let image : List ℕ = g.D.Disk.seen c.args.disk.now in
    let xs : List Command = map (λ e. SetXattr e.0 e.1 path) inode.xattrs in
    let cs : List Command = contents_commands path (map (held_cell image) inode.cells) in
    let ss : List Command = setting_commands path inode in
    let all : spelled_all F.spelled v (xs ++ (cs ++ ss)) ≡ spelled_all F.spelled v xs ++ (spelled_all F.spelled v cs ++ spelled_all F.spelled v ss) =
    all_joined F.spelled v xs (cs ++ ss) ∙ ap (λ (l : List ℕ). spelled_all F.spelled v xs ++ l) (all_joined F.spelled v cs ss) in
    subst (λ (l : List ℕ). Adds l c.args.bytes.now c.settings.new.bytes (O.taken c.args.out.now) (O.taken c.settings.new.out) c.settings.result) (sym all)
    (then_adds _ _ _ _ c.settings.new.bytes _ _ _ c.settings.result c.in_ok-attributes.ensures.adds
    (then_adds _ _ _ _ c.settings.new.bytes _ _ _ c.settings.result (subst (λ (cells : List (Option Place)). Adds (spelled_all F.spelled v (contents_commands path (map (held_cell image) cells))) c.attributes.new.bytes c.contents-2.new.bytes (O.taken c.attributes.new.out) (O.taken c.contents-2.new.out) (Ok c.in_ok-contents.field-0)) c.contents.ensures (c.in_ok-contents.ensures.adds tells)) c.settings.ensures.adds))
