use Rattle.std.proofs.Common.{◌≡◌, ℕ, List, ◌∷◌, ◌++◌, [], Some, None, Option, length, sym, ap, ◌∙◌, arith, slice_get, length-append}
use Rattle.send_model.specs.Path.{slash}
use Rattle.send_model.specs.Subvolume.{named}
use Rattle.path_index.specs.Places.{places_of}
use Rattle.path_index.proofs.Indexing.{first_gives, nothing_first}
use Rattle.path_index.proofs.Upward.{name_fits, at_place, one_up, at_root, no_way, too_long}
use Rattle.plain_stands.proofs.Passed.{there_is}
use Rattle.plain_stands.proofs.naming.has_path.Goals as goal

pub overflow_sub-room : goal.overflow_sub-room
overflow_sub-room g c =
    let t = there_is (named c.args.tree.now c.args.directory c.args.name.now) c.requires.there in
    let l = name_fits c.args.tree.now c.requires.lawful
    (c.args.directory, c.args.name.now) t.0 t.1 in
    omega (arith, l.1)

pub loop-at-init : goal.loop-at-init
loop-at-init g c =
    let t = there_is (named c.args.tree.now c.args.directory c.args.name.now) c.requires.there in
    let l = name_fits c.args.tree.now c.requires.lawful
    (c.args.directory, c.args.name.now) t.0 t.1 in (
      c.args.name.now,
      omega (arith, l.1),
      at_place c.args.tree.now c.requires.lawful
          (c.args.directory, c.args.name.now) t.0 t.1,
    )

pub returns-in_default : goal.returns-in_default
returns-in_default g c =
    let way = c.loop-at.invariant in
    no_way c.args.tree.now c.requires.lawful
    (c.args.directory, c.args.name.now) c.loop-at.at way.0 way.2 c.loop-at-test.true
    (nothing_first (places_of c.args.tree.now.names c.loop-at.at) (sym c.in_default.ensures))

pub returns-then-further-room : goal.returns-then-further-room
returns-then-further-room g c =
    let way = c.loop-at.invariant in
    let f = first_gives (places_of c.args.tree.now.names c.loop-at.at)
    (c.in-Some.up, c.in-Some.further.now) (sym c.in-Some.ensures) in
    too_long c.args.tree.now c.requires.lawful
    (c.args.directory, c.args.name.now) c.loop-at.at way.0 way.2 c.loop-at-test.true
    (c.in-Some.up, c.in-Some.further.now) f.0 f.1
    (omega (arith, way.1, c.if-further-room.true))

pub loop-at-preserved : goal.loop-at-preserved
loop-at-preserved g c =
    let way = c.loop-at.invariant in
    let f = first_gives (places_of c.args.tree.now.names c.loop-at.at)
    (c.in-Some.up, c.in-Some.further.now) (sym c.in-Some.ensures) in
    let longer = length-append c.in-Some.further.now (slash ∷ way.0) in (
      c.in-Some.further.now ++ slash ∷ way.0,
      omega (arith, way.1, longer, c.if-further-room.false),
      one_up c.args.tree.now c.requires.lawful
          (c.args.directory, c.args.name.now) c.loop-at.at way.0 way.2 c.loop-at-test.true
          (c.in-Some.up, c.in-Some.further.now) f.0 f.1,
    )

pub returns : goal.returns
returns g c =
    let way = c.loop-at.invariant in (
      way.0,
      at_root c.args.tree.now c.requires.lawful
          (c.args.directory, c.args.name.now) c.loop-at.at way.0 way.2 c.loop-at-test.false
          (omega (arith, way.1)),
    )
