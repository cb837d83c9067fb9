use Rattle.std.proofs.Common.{rules, ◌≡◌, ◌+◌, ◌-◌, ◌<◌, ◌≤◌, ℕ, List, ◌++◌, length, take, drop, arith, refl, sym, ap, subst, ◌∙◌, append-nil}
use Rattle.std.specs.String.{string_bytes}
use Rattle.std.proofs.lemmas.List.{length-take-le, with_items_is}
use Rattle.std.specs.Vec.{with_items}
use borrow.Rule.Slice.PartMut as part
use Rattle.sx_base.specs.Outside.{GivesAt}
use Rattle.cmd_reader.proofs.Asked.{reads_nothing, reads_same}
use Rattle.stream_text.specs.Lines.{IfFile, IsHeld}
use Rattle.stream_text.specs.Reading.{held, fed, EndsAt}
use Rattle.send_model.specs.Lengths.{limit}
use Rattle.stream_text.proofs.ReadLines.{held_len, grown, more_held, none_came}
use Rattle.stream_text.proofs.line_reader.LineReader.read_on.Goals as goal

pub returns-then-at-ge-LIMIT-clause-asked : goal.returns-then-at-ge-LIMIT-clause-asked
returns-then-at-ge-LIMIT-clause-asked g c =
    let r = c.args.self.now in
    let m = c.make_room.new.self in
    let here : fed r ≡ fed m = omega (arith, held_len r c.requires.reader, held_len m c.make_room.ensures.reader, ap length c.make_room.ensures.held, c.make_room.ensures.same.at) in
    reads_same g.I.Inputs _ _ (string_bytes r.name) (string_bytes r.name) (fed r) (fed r) (fed r) (fed m) refl refl here (reads_nothing g.I.Inputs c.args.inputs.now (string_bytes r.name) (fed r))

pub returns-in-Ok-clause-ahead : goal.returns-in-Ok-clause-ahead
returns-in-Ok-clause-ahead g c =
    let r = c.args.self.now in
    let m = c.make_room.new.self in
    let told = g.I.Inputs.told c.args.inputs.now in
    let all = c.as_mut_slice.result.now in
    let piece = c.read_piece.new.piece in
    let count = c.in-Ok.count in
    let rest : List ℕ = part.post_of m.end (length all - m.end) all in
    let is : all ≡ m.room.items = c.as_mut_slice.ensures.value in
    let low : m.from ≤ m.end = c.make_room.ensures.reader.low in
    let high : m.end ≤ length all = omega (arith, ap length is, c.make_room.ensures.reader.room, c.make_room.ensures.room) in
    let few : count ≤ length piece = c.in-Ok.ensures.bound in
    let row : List ℕ = take m.end all ++ (piece ++ rest) in
    let size : length row ≡ m.room.len = omega (arith, part.same_len_mid m.end (length all - m.end) all piece c.read_piece.ensures.len, c.as_mut_slice.ensures.len) in
    let held_is : take (m.end + count - m.from) (drop m.from (with_items m.room row).items) ≡ held r ++ take count piece =
    ap (λ (l : List ℕ). take (m.end + count - m.from) (drop m.from l)) (with_items_is m.room row size) ∙ grown all piece rest m.from m.end count low high few ∙ ap (λ (l : List ℕ). take (m.end - m.from) (drop m.from l) ++ take count piece) is
    ∙ ap (λ (l : List ℕ). l ++ take count piece) c.make_room.ensures.held in
    let place : m.at + (m.end - m.from) ≡ r.at + length (held r) = omega (arith, held_len m c.make_room.ensures.reader, ap length c.make_room.ensures.held, c.make_room.ensures.same.at) in
    let name : c.as_str.result.now ≡ string_bytes r.name = c.as_str.ensures.value ∙ ap string_bytes c.make_room.ensures.same.name in
    let gives = subst (λ (n : List ℕ). GivesAt told n (m.at + (m.end - m.from)) piece count) name c.in-Ok.ensures.bytes in
    subst (λ (l : List ℕ). IfFile told (string_bytes r.name) (IsHeld r.at l)) (sym held_is) (more_held told (string_bytes r.name) r.at (m.at + (m.end - m.from)) count (held r) piece place few gives c.requires.ahead)

pub returns-in-Ok-clause-says : goal.returns-in-Ok-clause-says
returns-in-Ok-clause-says g c =
    let r = c.args.self.now in
    let m = c.make_room.new.self in
    let told = g.I.Inputs.told c.args.inputs.now in
    let all = c.as_mut_slice.result.now in
    let piece = c.read_piece.new.piece in
    let count = c.in-Ok.count in
    let rest : List ℕ = part.post_of m.end (length all - m.end) all in
    let is : all ≡ m.room.items = c.as_mut_slice.ensures.value in
    let low : m.from ≤ m.end = c.make_room.ensures.reader.low in
    let high : m.end ≤ length all = omega (arith, ap length is, c.make_room.ensures.reader.room, c.make_room.ensures.room) in
    let few : count ≤ length piece = c.in-Ok.ensures.bound in
    let row : List ℕ = take m.end all ++ (piece ++ rest) in
    let size : length row ≡ m.room.len = omega (arith, part.same_len_mid m.end (length all - m.end) all piece c.read_piece.ensures.len, c.as_mut_slice.ensures.len) in
    let held_is : take (m.end + count - m.from) (drop m.from (with_items m.room row).items) ≡ held r ++ take count piece =
    ap (λ (l : List ℕ). take (m.end + count - m.from) (drop m.from l)) (with_items_is m.room row size) ∙ grown all piece rest m.from m.end count low high few ∙ ap (λ (l : List ℕ). take (m.end - m.from) (drop m.from l) ++ take count piece) is
    ∙ ap (λ (l : List ℕ). l ++ take count piece) c.make_room.ensures.held in
    let place : m.at + (m.end - m.from) ≡ r.at + length (held r) = omega (arith, held_len m c.make_room.ensures.reader, ap length c.make_room.ensures.held, c.make_room.ensures.same.at) in
    let fed_same : m.at + (m.end - m.from) ≡ fed r = omega (arith, place, held_len r c.requires.reader) in
    let name : c.as_str.result.now ≡ string_bytes r.name = c.as_str.ensures.value ∙ ap string_bytes c.make_room.ensures.same.name in
    let gives = subst (λ (n : List ℕ). GivesAt told n (m.at + (m.end - m.from)) piece count) name c.in-Ok.ensures.bytes in
    let some : 0 < length piece = search rules in
    let early : m.at + (m.end - m.from) < limit = search rules in (
      take count piece,
      length-take-le count piece few,
      held_is,
      λ none. subst (λ (n : ℕ). EndsAt told (string_bytes r.name) n) fed_same
          (none_came told (string_bytes r.name) r.at (m.at + (m.end - m.from)) count (held r) piece place early some gives c.requires.ahead none),
    )

pub returns-in-Err-clause-ahead : goal.returns-in-Err-clause-ahead
returns-in-Err-clause-ahead g c =
    let r = c.args.self.now in
    let m = c.make_room.new.self in
    let told = g.I.Inputs.told c.args.inputs.now in
    let all = c.as_mut_slice.result.now in
    let piece = c.read_piece.new.piece in
    let rest : List ℕ = part.post_of m.end (length all - m.end) all in
    let is : all ≡ m.room.items = c.as_mut_slice.ensures.value in
    let low : m.from ≤ m.end = c.make_room.ensures.reader.low in
    let high : m.end ≤ length all = omega (arith, ap length is, c.make_room.ensures.reader.room, c.make_room.ensures.room) in
    let none : m.end ≡ m.end + 0 = omega arith in
    let row : List ℕ = take m.end all ++ (piece ++ rest) in
    let size : length row ≡ m.room.len = omega (arith, part.same_len_mid m.end (length all - m.end) all piece c.read_piece.ensures.len, c.as_mut_slice.ensures.len) in
    let held_is : take (m.end - m.from) (drop m.from (with_items m.room row).items) ≡ held r =
    ap (λ (l : List ℕ). take (m.end - m.from) (drop m.from l)) (with_items_is m.room row size) ∙ ap (λ (n : ℕ). take (n - m.from) (drop m.from row)) none ∙ grown all piece rest m.from m.end 0 low high (omega arith)
    ∙ append-nil (take (m.end - m.from) (drop m.from all)) ∙ ap (λ (l : List ℕ). take (m.end - m.from) (drop m.from l)) is ∙ c.make_room.ensures.held in
    subst (λ (l : List ℕ). IfFile told (string_bytes r.name) (IsHeld r.at l)) (sym held_is) c.requires.ahead
