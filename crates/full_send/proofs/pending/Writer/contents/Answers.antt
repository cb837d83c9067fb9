use Rattle.std.specs.Prelude.{◌≡◌, ◌≤◌, ℕ, ◌+◌, length, List, [], Ok, Err, map}
use Rattle.std.proofs.Common.{rules, refl, sym, ap, subst, ◌∙◌, arith}
use Rattle.inode_commands.specs.Spelled.{spelled_all}
use Rattle.subvol_catalog.specs.Entries.{key_of}
use Rattle.store_journal.specs.Reading.{file_cells}
use Rattle.store_journal.specs.Standing.{place_byte, with_bytes}
use Rattle.store_journal.proofs.ReadFiles.{file_bytes}
use Rattle.full_send.specs.Adding.{Adds}
use Rattle.full_send.proofs.Added.{handed_on}
use Rattle.full_send.proofs.Parts.{part_first, part_next, part_stops, part_all, stretch_of}
use Rattle.full_send.proofs.Along.{along_first, along_hole, along_run, along_part, along_rest, in_order, within, next_within, hole_ends, run_ends, follows_hole, follows_run, step_hole, step_pieces, step_end, last_is, cut_here, cut_nowhere, all_of}
use Rattle.full_send.proofs.WholePieces.{pieces_end}
use Rattle.full_send.proofs.pending.Writer.contents.Goals as goal

pub loop-origin-init : goal.loop-origin-init
loop-origin-init g c = record {
  can = tt;
  finite = tt;
  along = along_first c.args.contents.now c.into_iter-origin-iterator.result (c.into_iter-origin-iterator.ensures.into_iter_gives ∙ c.pieces-origin-items.ensures ∙ all_of c.args.contents.now c.size-size.result c.size-size.ensures.count);
  len = refl;
  same = search rules;
  any_moment = search rules;
  steady = refl;
  out_steady = refl;
  hole = λ tells. refl;
  added = λ tells. part_first _ _ _ _ refl;
}

pub overflow_add-end : goal.overflow_add-end
overflow_add-end g c =
    let s = c.in-Some.ensures.steps in
    let w = next_within c.args.contents.now c.loop-origin.start c.loop-origin.at c.loop-origin.origin-iterator c.loop-origin.invariant.along c.in-Some.origin c.in-Some.len c.next.new.self s.2 in
    omega (arith, w, c.size-size.ensures.count, c.size-size.ensures.fits)

pub stretch-requires-clause-order : goal.stretch-requires-clause-order
stretch-requires-clause-order g c =
    let s = c.in-Some.ensures.steps in
    let i = c.loop-origin.invariant in
    let r = follows_run c.in-Some.origin c.in-Some-origin.field-0 c.in-Some.len c.loop-origin.origin-iterator c.next.new.self c.in-Some-origin.is s.2 in
    let a = along_run c.args.contents.now c.loop-origin.start c.loop-origin.at c.loop-origin.origin-iterator i.along c.next.new.self r.places c.in-Some.len r.follows r.long in
    let end : ℕ = c.loop-origin.at + c.in-Some.len in
    let e = pieces_end c.loop-origin.start end c.whole_pieces-pieces.result.to (in_order c.args.contents.now c.loop-origin.start end c.next.new.self a) c.whole_pieces-pieces.ensures.to in
    subst (λ (n : ℕ). n ≤ c.whole_pieces-pieces.result.to) (sym c.whole_pieces-pieces.ensures.from) e.low

pub stretch-requires-clause-within : goal.stretch-requires-clause-within
stretch-requires-clause-within g c =
    let s = c.in-Some.ensures.steps in
    let i = c.loop-origin.invariant in
    let r = follows_run c.in-Some.origin c.in-Some-origin.field-0 c.in-Some.len c.loop-origin.origin-iterator c.next.new.self c.in-Some-origin.is s.2 in
    let a = along_run c.args.contents.now c.loop-origin.start c.loop-origin.at c.loop-origin.origin-iterator i.along c.next.new.self r.places c.in-Some.len r.follows r.long in
    let end : ℕ = c.loop-origin.at + c.in-Some.len in
    let e = pieces_end c.loop-origin.start end c.whole_pieces-pieces.result.to (in_order c.args.contents.now c.loop-origin.start end c.next.new.self a) c.whole_pieces-pieces.ensures.to in
    let w = within c.args.contents.now c.loop-origin.start end c.next.new.self a in
    subst (λ (cells : List _). c.whole_pieces-pieces.result.to ≤ length cells) (sym c.requires.cells) (omega (arith, w, e.high))

pub returns-in_err-stretch-in-Some-origin-clause-adds : goal.returns-in_err-stretch-in-Some-origin-clause-adds
returns-in_err-stretch-in-Some-origin-clause-adds g c tells =
    let D = g.D.Disk in
    let O = g.O.Sink in
    let F = g.F.Form in
    let v : ℕ = c.args.self.now.spelling.version in
    let core = c.args.self.now.store.now.core in
    let key = key_of c.args.self.now.key in
    let path : List ℕ = c.args.file.now.path.now in
    let cells = c.args.contents.now in
    let i = c.loop-origin.invariant in
    let image : List ℕ = D.seen c.args.disk.now in
    let all : List ℕ = file_cells (with_bytes image core) key c.args.file.now.ino in
    let is : all ≡ map (place_byte image) cells = file_bytes image core key c.args.file.now.ino ∙ ap (map (place_byte image)) c.requires.cells in
    let s = c.in-Some.ensures.steps in
    let r = follows_run c.in-Some.origin c.in-Some-origin.field-0 c.in-Some.len c.loop-origin.origin-iterator c.next.new.self c.in-Some-origin.is s.2 in
    let end : ℕ = c.loop-origin.at + c.in-Some.len in
    let to : ℕ = c.whole_pieces-pieces.result.to in
    let a = along_run cells c.loop-origin.start c.loop-origin.at c.loop-origin.origin-iterator i.along c.next.new.self r.places c.in-Some.len r.follows r.long in
    let e = pieces_end c.loop-origin.start end to (in_order cells c.loop-origin.start end c.next.new.self a) c.whole_pieces-pieces.ensures.to in
    handed_on _ _ c.stretch.new.bytes _ _ c.from_residual.result _ c.from_residual.ensures.1
    (part_stops _ _ _ _ _ _ c.stretch.new.bytes _ _ _ _
    (step_pieces F.spelled v image path all cells is c.loop-origin.start to _ (along_part cells c.loop-origin.start end c.next.new.self a to e.low e.high) e.count e.is)
    (i.added tells)
    (subst (λ (from : ℕ). Adds (spelled_all F.spelled v (stretch_of path from to all)) c.loop-origin.bytes c.stretch.new.bytes (O.taken c.loop-origin.out) (O.taken c.stretch.new.out) (Err c.in_err-stretch-in-Some-origin.field-0.0)) c.whole_pieces-pieces.ensures.from
    (subst (λ (image : List ℕ). Adds (spelled_all F.spelled v (stretch_of path c.whole_pieces-pieces.result.from to (file_cells (with_bytes image core) key c.args.file.now.ino))) c.loop-origin.bytes c.stretch.new.bytes
    (O.taken c.loop-origin.out) (O.taken c.stretch.new.out) (Err c.in_err-stretch-in-Some-origin.field-0.0)) ((i.same tells).seen) (c.in_err-stretch-in-Some-origin.ensures.adds tells))))

pub loop-origin-preserved-in-Some-origin : goal.loop-origin-preserved-in-Some-origin
loop-origin-preserved-in-Some-origin g c =
    let D = g.D.Disk in
    let O = g.O.Sink in
    let F = g.F.Form in
    let v : ℕ = c.args.self.now.spelling.version in
    let core = c.args.self.now.store.now.core in
    let key = key_of c.args.self.now.key in
    let path : List ℕ = c.args.file.now.path.now in
    let cells = c.args.contents.now in
    let s = c.in-Some.ensures.steps in
    let i = c.loop-origin.invariant in
    let r = follows_run c.in-Some.origin c.in-Some-origin.field-0 c.in-Some.len c.loop-origin.origin-iterator c.next.new.self c.in-Some-origin.is s.2 in
    let end : ℕ = c.loop-origin.at + c.in-Some.len in
    let to : ℕ = c.whole_pieces-pieces.result.to in
    let a = along_run cells c.loop-origin.start c.loop-origin.at c.loop-origin.origin-iterator i.along c.next.new.self r.places c.in-Some.len r.follows r.long in
    let e = pieces_end c.loop-origin.start end to (in_order cells c.loop-origin.start end c.next.new.self a) c.whole_pieces-pieces.ensures.to in record {
      can = tt;
      finite = tt;
      along = along_rest cells c.loop-origin.start end c.next.new.self a to e.low e.high;
      len = search rules;
      same = search rules;
      any_moment = search rules;
      steady = search rules;
      out_steady = search rules;
      hole = λ tells. sym (run_ends cells c.loop-origin.start c.loop-origin.at c.loop-origin.origin-iterator i.along (D.seen c.args.disk.now) path c.next.new.self r.places c.in-Some.len s.0 r.follows r.long);
      added = λ tells.
          let image : List ℕ = D.seen c.args.disk.now in
          let all : List ℕ = file_cells (with_bytes image core) key c.args.file.now.ino in
          let is : all ≡ map (place_byte image) cells = file_bytes image core key c.args.file.now.ino ∙ ap (map (place_byte image)) c.requires.cells in
          part_next _ _ _ _ _ _ _ _ _ _
          (step_pieces F.spelled v image path all cells is c.loop-origin.start to _ (along_part cells c.loop-origin.start end c.next.new.self a to e.low e.high) e.count e.is)
          (i.added tells)
          (subst (λ (from : ℕ). Adds (spelled_all F.spelled v (stretch_of path from to all)) c.loop-origin.bytes c.stretch.new.bytes (O.taken c.loop-origin.out) (O.taken c.stretch.new.out) (Ok c.in_ok-stretch-in-Some-origin.field-0)) c.whole_pieces-pieces.ensures.from
          (subst (λ (image : List ℕ). Adds (spelled_all F.spelled v (stretch_of path c.whole_pieces-pieces.result.from to (file_cells (with_bytes image core) key c.args.file.now.ino))) c.loop-origin.bytes c.stretch.new.bytes
          (O.taken c.loop-origin.out) (O.taken c.stretch.new.out) (Ok c.in_ok-stretch-in-Some-origin.field-0)) ((i.same tells).seen) (c.in_ok-stretch-in-Some-origin.ensures.adds tells)));
    }

pub returns-in_err-stretch-in-None-origin-clause-adds : goal.returns-in_err-stretch-in-None-origin-clause-adds
returns-in_err-stretch-in-None-origin-clause-adds g c tells =
    let D = g.D.Disk in
    let O = g.O.Sink in
    let F = g.F.Form in
    let v : ℕ = c.args.self.now.spelling.version in
    let core = c.args.self.now.store.now.core in
    let key = key_of c.args.self.now.key in
    let path : List ℕ = c.args.file.now.path.now in
    let cells = c.args.contents.now in
    let i = c.loop-origin.invariant in
    let image : List ℕ = D.seen c.args.disk.now in
    let all : List ℕ = file_cells (with_bytes image core) key c.args.file.now.ino in
    let is : all ≡ map (place_byte image) cells = file_bytes image core key c.args.file.now.ino ∙ ap (map (place_byte image)) c.requires.cells in
    let s = c.in-Some.ensures.steps in
    let follows = follows_hole c.in-Some.origin c.in-Some.len c.loop-origin.origin-iterator c.next.new.self c.in-None-origin.is s.2 in
    handed_on _ _ c.stretch-in-None-origin.new.bytes _ _ c.from_residual-in_err-stretch-in-None-origin.result _ c.from_residual-in_err-stretch-in-None-origin.ensures.1
    (part_stops _ _ _ _ _ _ c.stretch-in-None-origin.new.bytes _ _ _ _
    (step_hole F.spelled v image path all cells is c.loop-origin.start c.loop-origin.at c.loop-origin.origin-iterator i.along c.in-Some.len c.next.new.self s.0 follows)
    (i.added tells)
    (subst (λ (image : List ℕ). Adds (spelled_all F.spelled v (stretch_of path c.loop-origin.start c.loop-origin.at (file_cells (with_bytes image core) key c.args.file.now.ino))) c.loop-origin.bytes c.stretch-in-None-origin.new.bytes
    (O.taken c.loop-origin.out) (O.taken c.stretch-in-None-origin.new.out) (Err c.in_err-stretch-in-None-origin.field-0.0)) ((i.same tells).seen) (c.in_err-stretch-in-None-origin.ensures.adds tells)))

pub loop-origin-preserved : goal.loop-origin-preserved
loop-origin-preserved g c =
    let D = g.D.Disk in
    let O = g.O.Sink in
    let F = g.F.Form in
    let v : ℕ = c.args.self.now.spelling.version in
    let core = c.args.self.now.store.now.core in
    let key = key_of c.args.self.now.key in
    let path : List ℕ = c.args.file.now.path.now in
    let cells = c.args.contents.now in
    let i = c.loop-origin.invariant in
    let s = c.in-Some.ensures.steps in
    let follows = follows_hole c.in-Some.origin c.in-Some.len c.loop-origin.origin-iterator c.next.new.self c.in-None-origin.is s.2 in
    record {
      can = tt;
      finite = tt;
      along = along_hole cells c.loop-origin.start c.loop-origin.at c.loop-origin.origin-iterator i.along c.in-Some.len c.next.new.self follows;
      len = search rules;
      same = search rules;
      any_moment = search rules;
      steady = search rules;
      out_steady = search rules;
      hole = λ tells. sym (hole_ends cells c.loop-origin.start c.loop-origin.at c.loop-origin.origin-iterator i.along (D.seen c.args.disk.now) path c.in-Some.len c.next.new.self s.0 follows);
      added = λ tells.
          let image : List ℕ = D.seen c.args.disk.now in
          let all : List ℕ = file_cells (with_bytes image core) key c.args.file.now.ino in
          let is : all ≡ map (place_byte image) cells = file_bytes image core key c.args.file.now.ino ∙ ap (map (place_byte image)) c.requires.cells in
          part_next _ _ _ _ _ _ _ _ _ _
          (step_hole F.spelled v image path all cells is c.loop-origin.start c.loop-origin.at c.loop-origin.origin-iterator i.along c.in-Some.len c.next.new.self s.0 follows)
          (i.added tells)
          (subst (λ (image : List ℕ). Adds (spelled_all F.spelled v (stretch_of path c.loop-origin.start c.loop-origin.at (file_cells (with_bytes image core) key c.args.file.now.ino))) c.loop-origin.bytes c.stretch-in-None-origin.new.bytes
          (O.taken c.loop-origin.out) (O.taken c.stretch-in-None-origin.new.out) (Ok c.in_ok-stretch-in-None-origin.field-0)) ((i.same tells).seen) (c.in_ok-stretch-in-None-origin.ensures.adds tells));
    }

pub returns-in_err-stretch-clause-adds : goal.returns-in_err-stretch-clause-adds
returns-in_err-stretch-clause-adds g c tells =
    let D = g.D.Disk in
    let O = g.O.Sink in
    let F = g.F.Form in
    let v : ℕ = c.args.self.now.spelling.version in
    let core = c.args.self.now.store.now.core in
    let key = key_of c.args.self.now.key in
    let path : List ℕ = c.args.file.now.path.now in
    let cells = c.args.contents.now in
    let i = c.loop-origin.invariant in
    let image : List ℕ = D.seen c.args.disk.now in
    let all : List ℕ = file_cells (with_bytes image core) key c.args.file.now.ino in
    let is : all ≡ map (place_byte image) cells = file_bytes image core key c.args.file.now.ino ∙ ap (map (place_byte image)) c.requires.cells in
    handed_on _ _ c.stretch-2.new.bytes _ _ c.from_residual-in_err-stretch.result _ c.from_residual-in_err-stretch.ensures.1
    (part_stops _ _ _ _ _ _ c.stretch-2.new.bytes _ _ _ _
    (step_end F.spelled v image path all cells is c.loop-origin.start c.loop-origin.at c.loop-origin.origin-iterator i.along c.in-None.ensures.steps.0)
    (i.added tells)
    (subst (λ (image : List ℕ). Adds (spelled_all F.spelled v (stretch_of path c.loop-origin.start c.loop-origin.at (file_cells (with_bytes image core) key c.args.file.now.ino))) c.loop-origin.bytes c.stretch-2.new.bytes
    (O.taken c.loop-origin.out) (O.taken c.stretch-2.new.out) (Err c.in_err-stretch.field-0.0)) ((i.same tells).seen) (c.in_err-stretch.ensures.adds tells)))

pub returns-in_err-truncate-clause-adds : goal.returns-in_err-truncate-clause-adds
returns-in_err-truncate-clause-adds g c tells =
    let D = g.D.Disk in
    let O = g.O.Sink in
    let F = g.F.Form in
    let v : ℕ = c.args.self.now.spelling.version in
    let core = c.args.self.now.store.now.core in
    let key = key_of c.args.self.now.key in
    let path : List ℕ = c.args.file.now.path.now in
    let cells = c.args.contents.now in
    let i = c.loop-origin.invariant in
    let image : List ℕ = D.seen c.args.disk.now in
    let all : List ℕ = file_cells (with_bytes image core) key c.args.file.now.ino in
    let is : all ≡ map (place_byte image) cells = file_bytes image core key c.args.file.now.ino ∙ ap (map (place_byte image)) c.requires.cells in
    let ends = last_is F.spelled v image path all cells is c.loop-origin.start c.loop-origin.at c.loop-origin.origin-iterator i.along c.in-None.ensures.steps.0 c.loop-origin.ends_in_hole (i.hole tells) ∙ c.if-ends_in_hole.true in
    handed_on _ _ c.truncate.new.bytes _ _ c.from_residual-in_err-truncate.result _ c.from_residual-in_err-truncate.ensures.1
    (part_stops _ _ _ _ _ _ c.truncate.new.bytes _ _ _ _ (cut_here F.spelled v image path all cells is c.size-size.result c.size-size.ensures.count ends)
    (part_next _ _ _ _ _ _ _ _ _ _
    (step_end F.spelled v image path all cells is c.loop-origin.start c.loop-origin.at c.loop-origin.origin-iterator i.along c.in-None.ensures.steps.0)
    (i.added tells)
    (subst (λ (image : List ℕ). Adds (spelled_all F.spelled v (stretch_of path c.loop-origin.start c.loop-origin.at (file_cells (with_bytes image core) key c.args.file.now.ino))) c.loop-origin.bytes c.stretch-2.new.bytes
    (O.taken c.loop-origin.out) (O.taken c.stretch-2.new.out) (Ok c.in_ok-stretch.field-0)) ((i.same tells).seen) (c.in_ok-stretch.ensures.adds tells)))
    c.in_err-truncate.ensures.adds)

pub returns-in_ok-truncate-clause-adds : goal.returns-in_ok-truncate-clause-adds
returns-in_ok-truncate-clause-adds g c tells =
    let D = g.D.Disk in
    let O = g.O.Sink in
    let F = g.F.Form in
    let v : ℕ = c.args.self.now.spelling.version in
    let core = c.args.self.now.store.now.core in
    let key = key_of c.args.self.now.key in
    let path : List ℕ = c.args.file.now.path.now in
    let cells = c.args.contents.now in
    let i = c.loop-origin.invariant in
    let image : List ℕ = D.seen c.args.disk.now in
    let all : List ℕ = file_cells (with_bytes image core) key c.args.file.now.ino in
    let is : all ≡ map (place_byte image) cells = file_bytes image core key c.args.file.now.ino ∙ ap (map (place_byte image)) c.requires.cells in
    let ends = last_is F.spelled v image path all cells is c.loop-origin.start c.loop-origin.at c.loop-origin.origin-iterator i.along c.in-None.ensures.steps.0 c.loop-origin.ends_in_hole (i.hole tells) ∙ c.if-ends_in_hole.true in
    part_all _ [] _ _ _ _ refl
    (part_next _ _ _ [] _ _ _ _ _ _ (cut_here F.spelled v image path all cells is c.size-size.result c.size-size.ensures.count ends)
    (part_next _ _ _ _ _ _ _ _ _ _
    (step_end F.spelled v image path all cells is c.loop-origin.start c.loop-origin.at c.loop-origin.origin-iterator i.along c.in-None.ensures.steps.0)
    (i.added tells)
    (subst (λ (image : List ℕ). Adds (spelled_all F.spelled v (stretch_of path c.loop-origin.start c.loop-origin.at (file_cells (with_bytes image core) key c.args.file.now.ino))) c.loop-origin.bytes c.stretch-2.new.bytes
    (O.taken c.loop-origin.out) (O.taken c.stretch-2.new.out) (Ok c.in_ok-stretch.field-0)) ((i.same tells).seen) (c.in_ok-stretch.ensures.adds tells)))
    c.in_ok-truncate.ensures.adds)

pub returns-else-ends_in_hole-clause-adds : goal.returns-else-ends_in_hole-clause-adds
returns-else-ends_in_hole-clause-adds g c tells =
    let D = g.D.Disk in
    let O = g.O.Sink in
    let F = g.F.Form in
    let v : ℕ = c.args.self.now.spelling.version in
    let core = c.args.self.now.store.now.core in
    let key = key_of c.args.self.now.key in
    let path : List ℕ = c.args.file.now.path.now in
    let cells = c.args.contents.now in
    let i = c.loop-origin.invariant in
    let image : List ℕ = D.seen c.args.disk.now in
    let all : List ℕ = file_cells (with_bytes image core) key c.args.file.now.ino in
    let is : all ≡ map (place_byte image) cells = file_bytes image core key c.args.file.now.ino ∙ ap (map (place_byte image)) c.requires.cells in
    let ends = last_is F.spelled v image path all cells is c.loop-origin.start c.loop-origin.at c.loop-origin.origin-iterator i.along c.in-None.ensures.steps.0 c.loop-origin.ends_in_hole (i.hole tells) ∙ c.if-ends_in_hole.false in
    part_all _ _ _ _ _ _ (cut_nowhere F.spelled v image path all cells is ends)
    (part_next _ _ _ _ _ _ _ _ _ _
    (step_end F.spelled v image path all cells is c.loop-origin.start c.loop-origin.at c.loop-origin.origin-iterator i.along c.in-None.ensures.steps.0)
    (i.added tells)
    (subst (λ (image : List ℕ). Adds (spelled_all F.spelled v (stretch_of path c.loop-origin.start c.loop-origin.at (file_cells (with_bytes image core) key c.args.file.now.ino))) c.loop-origin.bytes c.stretch-2.new.bytes
    (O.taken c.loop-origin.out) (O.taken c.stretch-2.new.out) (Ok c.in_ok-stretch.field-0)) ((i.same tells).seen) (c.in_ok-stretch.ensures.adds tells)))
