use Rattle.std.specs.Prelude.{ℕ, ◌+◌, List, map, length, None}
use Rattle.std.specs.String.{string_bytes}
use Rattle.std.proofs.Common.{refl, ap, subst, ◌∙◌, arith}
use Rattle.send_model.specs.Store.{find}
use Rattle.sx_base.proofs.Asking.{asked_nothing}
use Rattle.subvol_catalog.specs.Entries.{key_of}
use Rattle.extent_map.specs.Cells.{cells_between}
use Rattle.send_model.specs.Cells.{AllCells}
use Rattle.clone_pieces.specs.Origins.{IsHad, IsInInput}
use Rattle.clone_pieces.specs.Redirecting.{seen_cells, pieces_spelled, RedirectEnd}
use Rattle.sx_base.specs.declared.outcome.Outcome.TheVariants as ended
use Rattle.composer.specs.Kept.{Kept}
use Rattle.composer.specs.contracts.composing.Composer.{the_view}
use Rattle.clone_pieces.proofs.Told.{all_always, all_map}
use Rattle.composer.proofs.Unpacked.{StopEnd}
use Rattle.composer.proofs.AddingItems.{source_there, source_cells, source_exceeds, source_added, range_had}
use Rattle.composer.proofs.HandedOn.{answer_is, redirect_caused, redirect_changed, handed_steady, handed_stops}
use Rattle.composer.proofs.composing.Composer.add_redirected.Goals as goal

pub returns-then-sum-gt-MOST_LITERAL-clause-added : goal.returns-then-sum-gt-MOST_LITERAL-clause-added
returns-then-sum-gt-MOST_LITERAL-clause-added g c tells =
    all_always (g.I.Inputs.told c.args.inputs.now) (map string_bytes c.args.task.now.files.now) _ (λ told cells s.
    source_exceeds told (g.E.Known.base c.args.task.now.known.now) c.args.task.now.survey.now.version c.args.range.now.path.now c.args.range.now.offset c.args.range.now.from c.args.range.now.len c.in-Some.contents.now cells
    c.uncarried.result (c.self.inside.sum + c.uncarried.result) c.args.self.now (record (the_view c.self.inside) { pending = c.ended.new.pending }) (g.O.Sink.taken c.args.out.now) (g.O.Sink.taken c.ended.new.out) (g.O.Sink.faults c.args.out.now) (g.O.Sink.faults c.ended.new.out) c.ended.result
    (source_cells c.in-Some.contents.now cells c.args.self.now.state (key_of c.args.range.now.source) c.args.range.now.source_path.now
    (λ source at f w file. c.in-Some.ensures source at (ap (λ (k : Kept). find k.state.store (key_of c.args.range.now.source)) c.self.view_is ∙ f) w file) s)
    c.uncarried.ensures.count (ap (λ (k : Kept). k.sum + c.uncarried.result) c.self.view_is) c.if-sum-gt-MOST_LITERAL.true
    (subst (λ (k : Kept). StopEnd k.pending c.ended.new.pending (g.O.Sink.taken c.args.out.now) (g.O.Sink.taken c.ended.new.out) (g.O.Sink.faults c.args.out.now) (g.O.Sink.faults c.ended.new.out) (ended.TooMuch (c.self.inside.sum + c.uncarried.result)) c.ended.result) c.self.view_is c.ended.ensures.stopped))

pub redirect-requires-clause-had : goal.redirect-requires-clause-had
redirect-requires-clause-had g c =
    let t = c.requires.taken in
    range_had (IsHad (length c.args.task.now.files.now) (g.E.Known.base c.args.task.now.known.now)) t.0 c.args.self.now.state c.args.range.now.offset (key_of c.args.range.now.source) c.args.range.now.source_path.now c.args.range.now.from c.args.range.now.len c.in-Some.contents.now t.1
    (λ source at f w file. c.in-Some.ensures source at (ap (λ (k : Kept). find k.state.store (key_of c.args.range.now.source)) c.self.view_is ∙ f) w file)
    c.requires.had

pub redirect-requires-clause-there : goal.redirect-requires-clause-there
redirect-requires-clause-there g c =
    let t = c.requires.taken in
    all_map (g.I.Inputs.told c.args.inputs.now) (map string_bytes c.args.task.now.files.now) (λ told. AllCells (IsInInput told) c.args.self.now.state) _ (λ told there.
    range_had (IsInInput told) t.0 c.args.self.now.state c.args.range.now.offset (key_of c.args.range.now.source) c.args.range.now.source_path.now c.args.range.now.from c.args.range.now.len c.in-Some.contents.now t.1
    (λ source at f w file. c.in-Some.ensures source at (ap (λ (k : Kept). find k.state.store (key_of c.args.range.now.source)) c.self.view_is ∙ f) w file)
    there) c.requires.there

pub returns-clause-added : goal.returns-clause-added
returns-clause-added g c tells =
    let E : ℕ → Kept → List (List ℕ) → Type 0 = λ version k told. RedirectEnd (g.O.Sink.taken c.args.out.now) (g.O.Sink.taken c.redirect.new.out) k.pending c.redirect.new.pending
    (pieces_spelled version (g.E.Known.base c.args.task.now.known.now) c.args.range.now.path.now c.args.range.now.offset (seen_cells told (g.E.Known.base c.args.task.now.known.now) (cells_between c.args.range.now.from c.args.range.now.len c.in-Some.contents.now))) c.redirect.result in
    all_map (g.I.Inputs.told c.args.inputs.now) (map string_bytes c.args.task.now.files.now) (E c.version.result (the_view c.self.inside)) _ (λ told end cells s.
    source_added told (g.E.Known.base c.args.task.now.known.now) c.args.task.now.survey.now.version c.args.range.now.path.now c.args.range.now.offset c.args.range.now.from c.args.range.now.len c.in-Some.contents.now cells
    c.uncarried.result (c.self.inside.sum + c.uncarried.result) c.args.self.now (record (the_view c.self.inside) { sum = c.self.inside.sum + c.uncarried.result; pending = c.redirect.new.pending }) (g.O.Sink.taken c.args.out.now) (g.O.Sink.taken c.redirect.new.out) c.redirect.result c.map_err.result (answer_is c.redirect.result c.map_err.result c.map_err.ensures.cases)
    (source_cells c.in-Some.contents.now cells c.args.self.now.state (key_of c.args.range.now.source) c.args.range.now.source_path.now
    (λ source at f w file. c.in-Some.ensures source at (ap (λ (k : Kept). find k.state.store (key_of c.args.range.now.source)) c.self.view_is ∙ f) w file) s)
    c.uncarried.ensures.count (ap (λ (k : Kept). k.sum + c.uncarried.result) c.self.view_is) (omega (arith, c.if-sum-gt-MOST_LITERAL.false)) refl
    (subst (λ (k : Kept). E c.args.task.now.survey.now.version k told) c.self.view_is (subst (λ (v : ℕ). E v (the_view c.self.inside) told) c.version.ensures.version end))) (c.redirect.ensures.redirected tells)

pub returns-clause-cause : goal.returns-clause-cause
returns-clause-cause g c = redirect_caused _ _ _ _ _ _ c.redirect.result c.map_err.result (answer_is c.redirect.result c.map_err.result c.map_err.ensures.cases) c.redirect.ensures.cause

pub returns-clause-changed : goal.returns-clause-changed
returns-clause-changed g c = redirect_changed _ _ c.redirect.result c.map_err.result (answer_is c.redirect.result c.map_err.result c.map_err.ensures.cases) c.redirect.ensures.changed

pub returns-clause-inputs : goal.returns-clause-inputs
returns-clause-inputs g c =
    let e = c.redirect.ensures.inputs in
    let answered = answer_is c.redirect.result c.map_err.result c.map_err.ensures.cases in
    record {
      same = e.same;
      later = e.later;
      steady = handed_steady _ _ c.redirect.result c.map_err.result answered e.steady;
      ends_later = e.ends_later;
      ends_steady = handed_steady _ _ c.redirect.result c.map_err.result answered e.ends_steady;
    }

pub returns-clause-bytes : goal.returns-clause-bytes
returns-clause-bytes g c =
    let e = c.redirect.ensures.bytes in
    let answered = answer_is c.redirect.result c.map_err.result c.map_err.ensures.cases in
    record {
      sizes = e.sizes;
      held = e.held;
      later = e.later;
      steady = handed_steady _ _ c.redirect.result c.map_err.result answered e.steady;
    }

pub returns-clause-out : goal.returns-clause-out
returns-clause-out g c =
    let e = c.redirect.ensures.out in
    let answered = answer_is c.redirect.result c.map_err.result c.map_err.ensures.cases in
    record { later = e.later; steady = handed_steady _ _ c.redirect.result c.map_err.result answered e.steady }

pub returns-clause-stops : goal.returns-clause-stops
returns-clause-stops g c = handed_stops c.redirect.result c.map_err.result (answer_is c.redirect.result c.map_err.result c.map_err.ensures.cases)

pub unreachable-requires : goal.unreachable-requires
unreachable-requires g c =
    let t = c.requires.taken in
    source_there t.0 c.args.self.now.state c.args.range.now.offset (key_of c.args.range.now.source) c.args.range.now.source_path.now c.args.range.now.from c.args.range.now.len None t.1
    (λ source at f w file. c.in_default.ensures source at (ap (λ (k : Kept). find k.state.store (key_of c.args.range.now.source)) c.self.view_is ∙ f) w file) refl

pub returns-then-sum-gt-MOST_LITERAL-clause-asked : goal.returns-then-sum-gt-MOST_LITERAL-clause-asked
returns-then-sum-gt-MOST_LITERAL-clause-asked g c = asked_nothing g.I.Inputs c.args.inputs.now tt
