use Rattle.std.proofs.Common.{◌≡◌, ◌≤◌, ℕ, List, length, take, arith, refl, ap, subst, length-take, sym}
use Rattle.std.specs.String.{string_bytes}
use Rattle.sx_base.specs.Outside.{GivesAt}
use Rattle.tlv_frame.specs.Feeding.{Fed, fed_with}
use Rattle.cmd_reader.specs.Sources.{IsAhead}
use Rattle.cmd_reader.proofs.Asked.{reads_nothing, reads_same, takes_all}
use Rattle.cmd_reader.proofs.Told.{told_map}
use Rattle.cmd_reader.proofs.Sourcing.{ends_there, more_ahead, row_front, takes_some}
use Rattle.cmd_reader.proofs.source.Source.more.Goals as goal

pub returns-then-count-eq0-clause-says : goal.returns-then-count-eq0-clause-says
returns-then-count-eq0-clause-says g c =
    let source = c.args.self.now in
    let piece = c.read_piece.new.piece in
    let size : length piece ≡ 65_536 = omega (arith, c.read_piece.auto.piece, ap (λ (l : List ℕ). length l) c.as_mut_slice-piece.ensures.value, c.requires.source.room) in
    let gives = subst (λ (name : List ℕ). GivesAt (g.I.Inputs.told c.args.inputs.now) name source.fed piece c.in-Ok.count) c.as_str.ensures.value c.in-Ok.ensures.bytes in
    (refl, ends_there (g.I.Inputs.told c.args.inputs.now) (string_bytes source.name) source piece c.in-Ok.count c.requires.source (omega (arith, c.if-self-ge-LIMIT.false)) c.if-count-eq0.true (omega (arith, size)) gives c.requires.ahead)

pub returns-clause-says : goal.returns-clause-says
returns-clause-says g c =
    let source = c.args.self.now in
    let piece = c.read_piece.new.piece in
    let count = c.in-Ok.count in
    let taken = c.give-taken.result in
    let row = c.as_slice.result.now in
    let items : length c.as_mut_slice-piece.result.now ≡ 65_536 = omega (arith, ap (λ (l : List ℕ). length l) c.as_mut_slice-piece.ensures.value, c.requires.source.room) in
    let size : length piece ≡ 65_536 = omega (arith, c.read_piece.auto.piece, items) in
    let len : c.args.self.now.piece.len ≡ 65_536 = omega (arith, items, c.as_mut_slice-piece.ensures.len) in
    let gives = subst (λ (name : List ℕ). GivesAt (g.I.Inputs.told c.args.inputs.now) name source.fed piece count) c.as_str.ensures.value c.in-Ok.ensures.bytes in
    let bound : count ≤ length piece = omega (arith, c.in-Ok.ensures.bound, size) in
    let front : take count row ≡ take count piece = row_front count c.args.self.now.piece.len row piece _ c.as_slice.ensures.value bound (omega (arith, c.in-Ok.ensures.bound, len)) in
    let whole : length (take count row) ≡ count = omega (arith, ap (λ (l : List ℕ). length l) front, length-take count piece, bound) in
    let some = takes_some source.feed count taken row c.requires.waits c.if-count-eq0.false whole c.give-taken.ensures.count in (
      record { piece = take taken (take count row); feed = c.give-taken.ensures.taken; further = omega (arith, some.0) },
      told_map (g.I.Inputs.told c.args.inputs.now) (string_bytes source.name) (IsAhead source.at (fed_with (take taken (take count row)) source.feed)) (IsAhead source.at c.give-taken.new.self)
          (λ file a. subst (λ (f : Fed). IsAhead source.at f file) (sym c.give-taken.ensures.taken) a)
          (more_ahead (g.I.Inputs.told c.args.inputs.now) (string_bytes source.name) source.at source.fed count taken source.feed piece (take taken (take count row)) c.requires.source.up_to c.in-Ok.ensures.place bound some.1 (ap (λ (l : List ℕ). take taken l) front) gives c.requires.ahead),
    )

pub returns-then-self-ge-LIMIT-clause-asked : goal.returns-then-self-ge-LIMIT-clause-asked
returns-then-self-ge-LIMIT-clause-asked g c = reads_nothing g.I.Inputs _ _ _

pub returns-in-Err-clause-asked : goal.returns-in-Err-clause-asked
returns-in-Err-clause-asked g c = reads_same g.I.Inputs _ _ _ _ _ _ _ _ c.as_str.ensures.value refl (omega arith) c.in-Err.ensures.asked

pub returns-then-count-eq0-clause-asked : goal.returns-then-count-eq0-clause-asked
returns-then-count-eq0-clause-asked g c = reads_same g.I.Inputs _ _ _ _ _ _ _ _ c.as_str.ensures.value refl (omega (arith, c.if-count-eq0.true)) c.in-Ok.ensures.asked

pub returns-clause-asked : goal.returns-clause-asked
returns-clause-asked g c =
    let source = c.args.self.now in
    let piece = c.read_piece.new.piece in
    let count = c.in-Ok.count in
    let row = c.as_slice.result.now in
    let items : length c.as_mut_slice-piece.result.now ≡ 65_536 = omega (arith, ap (λ (l : List ℕ). length l) c.as_mut_slice-piece.ensures.value, c.requires.source.room) in
    let size : length piece ≡ 65_536 = omega (arith, c.read_piece.auto.piece, items) in
    let len : c.args.self.now.piece.len ≡ 65_536 = omega (arith, items, c.as_mut_slice-piece.ensures.len) in
    let bound : count ≤ length piece = omega (arith, c.in-Ok.ensures.bound, size) in
    let front : take count row ≡ take count piece = row_front count c.args.self.now.piece.len row piece _ c.as_slice.ensures.value bound (omega (arith, c.in-Ok.ensures.bound, len)) in
    let whole : length (take count row) ≡ count = omega (arith, ap (λ (l : List ℕ). length l) front, length-take count piece, bound) in
    let all = takes_all source.feed count c.give-taken.result row c.requires.waits c.in-Ok.ensures.bound whole c.give-taken.ensures.count in
    reads_same g.I.Inputs _ _ _ _ _ _ _ _ c.as_str.ensures.value refl (omega (arith, all)) c.in-Ok.ensures.asked
