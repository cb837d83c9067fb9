use Rattle.std.proofs.Common.{arith, length, ◌+◌, ◌∷◌, ◌++◌, ◌≡◌}
use Rattle.send_model.specs.Path.{slash}
use Rattle.path_index.proofs.Writes.{name_short, way_begins, way_goes_on, way_longer, way_ends, way_nowhere, way_too_long}
use Rattle.path_index.proofs.index.PathIndex.has_path.Goals as goal

pub overflow_sub-room : goal.overflow_sub-room
overflow_sub-room g c =
    let l = name_short c.self.inside.sub c.args.self.now c.self.inside.names c.self.view_is c.self.invariant c.args.link.now c.name.result.now c.name.ensures c.requires.there in
    omega (arith, l.1)

pub loop-directory-init : goal.loop-directory-init
loop-directory-init g c =
    let l = name_short c.self.inside.sub c.args.self.now c.self.inside.names c.self.view_is c.self.invariant c.args.link.now c.name.result.now c.name.ensures c.requires.there in (
      c.name.result.now,
      omega (arith, l.1),
      way_begins c.self.inside.sub c.args.self.now c.self.inside.names c.self.view_is c.self.invariant c.args.link.now c.name.result.now c.directory-directory.result c.name.ensures c.directory-directory.ensures c.requires.there,
    )

pub returns-in_default : goal.returns-in_default
returns-in_default g c =
    let way = c.loop-directory.invariant in
    way_nowhere c.self.inside.sub c.args.self.now c.self.inside.names c.self.view_is c.self.invariant c.args.link.now c.loop-directory.directory way.0 way.2 c.loop-directory-test.true c.in_default.ensures

pub returns-then-name-room : goal.returns-then-name-room
returns-then-name-room g c =
    let way = c.loop-directory.invariant in
    way_too_long c.self.inside.sub c.args.self.now c.self.inside.names c.self.view_is c.self.invariant c.args.link.now c.loop-directory.directory way.0 c.in-Some.up.now c.name-in-loop-directory.result.now c.loop-directory.room way.2 c.loop-directory-test.true way.1 c.in-Some.ensures c.name-in-loop-directory.ensures
    c.if-name-room.true

pub loop-directory-preserved : goal.loop-directory-preserved
loop-directory-preserved g c =
    let way = c.loop-directory.invariant in
    let name = c.name-in-loop-directory-2.result.now in
    let same : length c.name-in-loop-directory.result.now ≡ length name = cc in (
      name ++ slash ∷ way.0,
      way_longer c.self.inside.sub c.args.self.now c.self.inside.names c.self.view_is c.self.invariant c.args.link.now c.loop-directory.room way.0 name way.1 _ (omega (arith, same, c.if-name-room.false)),
      way_goes_on c.self.inside.sub c.args.self.now c.self.inside.names c.self.view_is c.self.invariant c.args.link.now c.loop-directory.directory way.0 c.in-Some.up.now name c.directory-directory-in-loop-directory.result way.2 c.loop-directory-test.true c.in-Some.ensures c.name-in-loop-directory-2.ensures
          c.directory-directory-in-loop-directory.ensures,
    )

pub returns : goal.returns
returns g c =
    let way = c.loop-directory.invariant in (
      way.0,
      way_ends c.self.inside.sub c.args.self.now c.self.inside.names c.self.view_is c.self.invariant c.args.link.now c.loop-directory.directory way.0 way.2 c.loop-directory-test.false c.loop-directory.room way.1,
    )
