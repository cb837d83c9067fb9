use Rattle.std.proofs.Common.{◌++◌, [], sym, ap, ◌∙◌}
use Rattle.send_model.specs.Map.{named_cmp}
use Rattle.shared_map.specs.Sought.{entries_above}
use Rattle.path_index.specs.Places.{places_of, links_at}
use Rattle.path_index.proofs.Indexing.{none_yet, next_indexed, all_indexed}
use Rattle.path_index.proofs.building.index_names.Goals as goal

pub loop-next-init : goal.loop-next-init
loop-next-init g c = λ ino. ap (λ index. links_at index ino ++ places_of (entries_above named_cmp (0, []) c.args.tree.now.names) ino) c.new-index.ensures ∙ none_yet c.args.tree.now c.requires.lawful ino

pub loop-next-smaller : goal.loop-next-smaller
loop-next-smaller g c =
    (next_indexed c.args.tree.now.names c.loop-next.index c.add.new.index (c.loop-next.directory, c.loop-next.last.now) ((c.in-Some.next, c.in-Some.name.now), c.in-Some.ino) c.requires.lawful.sound.names_in_order (sym c.in-Some.ensures) c.in_ok-add.ensures
    c.loop-next.invariant).1

pub loop-next-preserved : goal.loop-next-preserved
loop-next-preserved g c =
    (next_indexed c.args.tree.now.names c.loop-next.index c.add.new.index (c.loop-next.directory, c.loop-next.last.now) ((c.in-Some.next, c.in-Some.name.now), c.in-Some.ino) c.requires.lawful.sound.names_in_order (sym c.in-Some.ensures) c.in_ok-add.ensures
    c.loop-next.invariant).0

pub returns : goal.returns
returns g c = all_indexed c.args.tree.now.names c.loop-next.index (c.loop-next.directory, c.loop-next.last.now) (sym c.in_default.ensures) c.loop-next.invariant
