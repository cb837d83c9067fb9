use Rattle.std.proofs.Common.{◌≡◌, Some, None, refl, sym, ap, subst, ◌∙◌, ℕ, List, ◌++◌}
use Rattle.std.specs.Option.{option_map}
use Rattle.send_model.specs.Command.{Command}
use Rattle.send_model.specs.Subvolume.{Subvolume, root_alone}
use Rattle.send_model.specs.Store.{Part}
use Rattle.send_model.specs.Exported.{Exporting}
use Rattle.stream_export.specs.Exporting.{Blank, all_receivable}
use Rattle.stream_export.proofs.Opening.{none_elsewhere, not_elsewhere, here_still, elsewhere_now, found_at, again_same, again_astray, separator_tree, short_path}
use Rattle.stream_export.proofs.Separating.{nothing_added, opened_again}
use Rattle.stream_export.proofs.exporter.Exporter.open_again.Goals as goal

pub returns-in_default-clause-added : goal.returns-in_default-clause-added
returns-in_default-clause-added g c =
    nothing_added c.args.version c.args.to.now _ (again_same c.args.self.now c.args.path.now c.args.ino c.requires.open (none_elsewhere {C = ℕ} {T = Subvolume ℕ} (λ t. t) root_alone None c.args.self.now.state.part
    (c.in_default.ensures ∙ ap (λ (e : Exporting Blank). option_map (λ (p : Part Blank). p.subvolume) e.state.part) c.self.view_is) c.args.path.now c.args.ino refl)).0

pub returns-in_default-clause-opened : goal.returns-in_default-clause-opened
returns-in_default-clause-opened g c =
    (again_same c.args.self.now c.args.path.now c.args.ino c.requires.open (none_elsewhere {C = ℕ} {T = Subvolume ℕ} (λ t. t) root_alone None c.args.self.now.state.part
    (c.in_default.ensures ∙ ap (λ (e : Exporting Blank). option_map (λ (p : Part Blank). p.subvolume) e.state.part) c.self.view_is) c.args.path.now c.args.ino refl)).1

pub returns-in_default-find-clause-added : goal.returns-in_default-find-clause-added
returns-in_default-find-clause-added g c =
    nothing_added c.args.version c.args.to.now _ (again_same c.args.self.now c.args.path.now c.args.ino c.requires.open (not_elsewhere (λ t. t) c.in-Some.tree.now (Some c.in-Some.tree.now) c.args.self.now.state.part
    (c.in-Some.ensures ∙ ap (λ (e : Exporting Blank). option_map (λ (p : Part Blank). p.subvolume) e.state.part) c.self.view_is) c.args.path.now _ c.args.ino refl c.in_default-find.ensures)).0

pub returns-in_default-find-clause-opened : goal.returns-in_default-find-clause-opened
returns-in_default-find-clause-opened g c =
    (again_same c.args.self.now c.args.path.now c.args.ino c.requires.open (not_elsewhere (λ t. t) c.in-Some.tree.now (Some c.in-Some.tree.now) c.args.self.now.state.part
    (c.in-Some.ensures ∙ ap (λ (e : Exporting Blank). option_map (λ (p : Part Blank). p.subvolume) e.state.part) c.self.view_is) c.args.path.now _ c.args.ino refl c.in_default-find.ensures)).1

pub returns-then-now-ino-clause-added : goal.returns-then-now-ino-clause-added
returns-then-now-ino-clause-added g c =
    nothing_added c.args.version c.args.to.now _ (again_same c.args.self.now c.args.path.now c.args.ino c.requires.open (here_still (λ t. t) c.in-Some.tree.now (Some c.in-Some.tree.now) c.args.self.now.state.part
    (c.in-Some.ensures ∙ ap (λ (e : Exporting Blank). option_map (λ (p : Part Blank). p.subvolume) e.state.part) c.self.view_is) c.args.path.now c.in-Ok.now c.args.ino refl c.in-Ok.ensures c.if-now-ino.true)).0

pub returns-then-now-ino-clause-opened : goal.returns-then-now-ino-clause-opened
returns-then-now-ino-clause-opened g c =
    (again_same c.args.self.now c.args.path.now c.args.ino c.requires.open (here_still (λ t. t) c.in-Some.tree.now (Some c.in-Some.tree.now) c.args.self.now.state.part
    (c.in-Some.ensures ∙ ap (λ (e : Exporting Blank). option_map (λ (p : Part Blank). p.subvolume) e.state.part) c.self.view_is) c.args.path.now c.in-Ok.now c.args.ino refl c.in-Ok.ensures c.if-now-ino.true)).1

pub push_separator-requires : goal.push_separator-requires
push_separator-requires g c = record { short = short_path c.in-Some.tree.now c.args.path.now c.in-Ok.now c.in-Ok.ensures }

pub returns-clause-added : goal.returns-clause-added
returns-clause-added g c =
    let same = c.in-Some.ensures ∙ ap (λ (e : Exporting Blank). option_map (λ (p : Part Blank). p.subvolume) e.state.part) c.self.view_is in
    let other : c.as_slice.result.now ≡ c.args.self.now.other = c.as_slice.ensures.bytes ∙ ap (λ (e : Exporting Blank). e.other) c.self.view_is in
    let is = separator_tree (λ t. t) c.in-Some.tree.now (Some c.in-Some.tree.now) c.args.self.now.state.part same c.args.self.now c.args.path.now c.args.ino refl refl c.requires.open
    (elsewhere_now (λ t. t) c.in-Some.tree.now (Some c.in-Some.tree.now) c.args.self.now.state.part same c.args.path.now c.in-Ok.now c.args.ino refl c.in-Ok.ensures c.if-now-ino.false) in
    subst (λ (cs : List Command). c.push_separator.new.to ≡ c.args.to.now ++ all_receivable c.args.version cs) (sym is)
    (subst (λ (o : List ℕ). c.push_separator.new.to ≡ c.args.to.now ++ all_receivable c.args.version (Rattle.send_model.specs.Separated.separator_in c.in-Some.tree.now o c.args.path.now)) other c.in_ok-push_separator.ensures.added)

pub returns-clause-opened : goal.returns-clause-opened
returns-clause-opened g c =
    let same = c.in-Some.ensures ∙ ap (λ (e : Exporting Blank). option_map (λ (p : Part Blank). p.subvolume) e.state.part) c.self.view_is in
    let astray = elsewhere_now (λ t. t) c.in-Some.tree.now (Some c.in-Some.tree.now) c.args.self.now.state.part same c.args.path.now c.in-Ok.now c.args.ino refl c.in-Ok.ensures c.if-now-ino.false in
    let found = found_at (λ t. t) c.in-Some.tree.now (Some c.in-Some.tree.now) c.args.self.now.state.part same c.args.path.now c.in-Ok.now refl c.in-Ok.ensures in
    opened_again c.self.inside.follower c.self.inside.path c.self.inside.other c.args.path.now c.self.inside.ino c.args.ino c.in-Ok.now c.args.self.now c.self.view_is c.requires.open
    ∙ (again_astray c.args.self.now c.args.path.now c.args.ino c.in-Ok.now c.requires.open astray (sym found)).1
