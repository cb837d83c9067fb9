use Rattle.std.proofs.Common.{Some, refl, ap, ◌∙◌}
use Rattle.std.specs.Option.{option_map}
use Rattle.send_model.specs.Store.{Part}
use Rattle.send_model.specs.Exported.{Exporting}
use Rattle.stream_export.specs.Exporting.{Blank}
use Rattle.stream_export.proofs.Opening.{found_at, found_not}
use Rattle.stream_export.proofs.exporter.Exporter.find.Goals as goal

pub returns-in-Ok : goal.returns-in-Ok
returns-in-Ok g c =
    found_at (λ t. t) c.in_ok-tree.tree.now (Some c.in_ok-tree.tree.now) c.args.self.now.state.part
    (c.in_ok-tree.ensures ∙ ap (λ (e : Exporting Blank). option_map (λ (p : Part Blank). p.subvolume) e.state.part) c.self.view_is)
    c.args.path.now c.in-Ok.ino refl c.in-Ok.ensures

pub returns-in-Err : goal.returns-in-Err
returns-in-Err g c =
    found_not (λ t. t) c.in_ok-tree.tree.now (Some c.in_ok-tree.tree.now) c.args.self.now.state.part
    (c.in_ok-tree.ensures ∙ ap (λ (e : Exporting Blank). option_map (λ (p : Part Blank). p.subvolume) e.state.part) c.self.view_is)
    c.args.path.now _ refl c.in-Err.ensures
