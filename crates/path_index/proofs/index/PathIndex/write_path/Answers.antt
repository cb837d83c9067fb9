use Rattle.std.proofs.Common.{[], rules, arith}
use Rattle.path_index.proofs.Writes.{name_short, begins, goes_on, written, ends_nowhere, no_room}
use Rattle.path_index.proofs.index.PathIndex.write_path.Goals as goal

pub put_before-start-requires-clause-fits : goal.put_before-start-requires-clause-fits
put_before-start-requires-clause-fits g c =
    let l = name_short c.self.inside.sub c.args.self.now c.self.inside.names c.self.view_is c.self.invariant c.args.link.now c.name.result.now c.name.ensures c.requires.there in
    omega (arith, l.1)

pub loop-directory-init : goal.loop-directory-init
loop-directory-init g c = record {
  room = search rules;
  within = omega (arith, c.put_before-start.ensures.start);
  up = begins c.self.inside.sub c.args.self.now c.self.inside.names c.self.view_is c.self.invariant c.args.link.now c.name.result.now c.args.buffer.now c.put_before-start.new.buffer c.put_before-start.result
      c.directory-directory.result c.name.ensures c.directory-directory.ensures c.requires.there c.requires.room c.put_before-start.ensures.start c.put_before-start.ensures.put;
}

pub returns-in_default-clause-written : goal.returns-in_default-clause-written
returns-in_default-clause-written g c =
    ends_nowhere c.self.inside.sub c.args.self.now c.self.inside.names c.self.view_is c.self.invariant c.args.link.now c.loop-directory.directory c.loop-directory.start c.loop-directory.buffer
    c.loop-directory.invariant.up c.loop-directory-test.true c.in_default.ensures

pub returns-then-name-start-clause-written : goal.returns-then-name-start-clause-written
returns-then-name-start-clause-written g c =
    no_room c.self.inside.sub c.args.self.now c.self.inside.names c.self.view_is c.self.invariant c.args.link.now c.loop-directory.directory c.loop-directory.start c.loop-directory.buffer c.in-Some.up.now c.name-in-loop-directory.result.now
    c.loop-directory.invariant.up c.loop-directory-test.true c.loop-directory.invariant.room c.loop-directory.invariant.within c.in-Some.ensures c.name-in-loop-directory.ensures c.if-name-start.true

pub loop-directory-preserved : goal.loop-directory-preserved
loop-directory-preserved g c = record {
  room = search rules;
  within = omega (arith, c.put_before-start-in-loop-directory.ensures.start, c.put_before-start-in-loop-directory-2.ensures.start, c.loop-directory.invariant.within);
  up = goes_on c.self.inside.sub c.args.self.now c.self.inside.names c.self.view_is c.self.invariant c.args.link.now c.loop-directory.directory c.loop-directory.start c.put_before-start-in-loop-directory-2.result c.put_before-start-in-loop-directory.result
      c.loop-directory.buffer c.put_before-start-in-loop-directory.new.buffer c.put_before-start-in-loop-directory-2.new.buffer c.in-Some.up.now c.name-in-loop-directory-2.result.now [] c.directory-directory-in-loop-directory.result
      c.loop-directory.invariant.up c.loop-directory-test.true c.loop-directory.invariant.room c.loop-directory.invariant.within c.in-Some.ensures c.name-in-loop-directory-2.ensures c.directory-directory-in-loop-directory.ensures
      c.put_before-start-in-loop-directory.ensures.start c.put_before-start-in-loop-directory.ensures.put c.put_before-start-in-loop-directory-2.ensures.start c.put_before-start-in-loop-directory-2.ensures.put;
}

pub returns-clause-written : goal.returns-clause-written
returns-clause-written g c =
    written c.self.inside.sub c.args.self.now c.self.inside.names c.self.view_is c.self.invariant c.args.link.now c.loop-directory.directory c.loop-directory.start c.loop-directory.buffer
    c.loop-directory.invariant.up c.loop-directory-test.false c.loop-directory.invariant.room c.loop-directory.invariant.within
