use Rattle.std.specs.Prelude.{◌≡◌, ◌≤◌, ℕ, List, map, Option, Ok}
use Rattle.std.specs.String.{string_bytes}
use Rattle.std.proofs.Common.{refl, sym, ap, subst, ◌∙◌, arith}
use Rattle.send_model.specs.Command.{Command, Clone}
use Rattle.send_model.specs.Spelling.{canonical}
use Rattle.send_model.specs.Due.{most_literal}
use Rattle.send_model.specs.Laws.{CanWrite}
use Rattle.send_commands.specs.Meaning.{meaning_of}
use Rattle.send_commands.proofs.Writable.{spellable_is_writable}
use Rattle.sx_base.proofs.Asking.{asked_nothing}
use Rattle.subvol_catalog.specs.Entries.{key_of}
use Rattle.extent_map.specs.Cells.{cells_between}
use Rattle.provenance.specs.declared.trace.Trace.{Trace}
use Rattle.clone_pieces.specs.Redirecting.{seen_cells}
use Rattle.file_survey.proofs.Versions.{later_writable}
use Rattle.composer.specs.Kept.{Kept}
use Rattle.composer.specs.Adding.{Led, IsSourceOf}
use Rattle.composer.specs.contracts.composing.Composer.{the_view}
use Rattle.composer.proofs.Unpacked.{PutEnd, AddEnd, AddsRange}
use Rattle.composer.proofs.EditSpelling.{paths_short}
use Rattle.clone_pieces.proofs.Told.{all_always, all_map}
use Rattle.composer.proofs.AddingItems.{led_taken, own_adds, kept_adds, redirected_adds, plain_of, plain_adds, end_adds}
use Rattle.composer.proofs.HandedOn.{answer_is, put_caused, put_unchanged, handed_steady, handed_stops, untouched}
use Rattle.composer.proofs.composing.Composer.add.Goals as goal

pub add_own-requires : goal.add_own-requires
add_own-requires g c =
    let C : List ℕ → List ℕ → Command = λ p q. Clone p c.in-Clone.offset c.in-Clone.clone_uuid c.in-Clone.clone_ctransid q c.in-Clone.clone_offset c.in-Clone.clone_len in
    let is : meaning_of c.args.edit.now.item.now.command ≡ C c.in-Clone.path.now c.in-Clone.clone_path.now = ap meaning_of c.in-Clone.is in
    record {
      short = paths_short c.args.edit.now.item.now.version c.in-Clone.path.now c.in-Clone.offset c.in-Clone.clone_uuid c.in-Clone.clone_ctransid c.in-Clone.clone_path.now c.in-Clone.clone_offset c.in-Clone.clone_len
          (spellable_is_writable c.args.edit.now.item.now.version (C c.in-Clone.path.now c.in-Clone.clone_path.now) (subst (λ (m : Command). CanWrite c.args.edit.now.item.now.version m) is c.requires.can_write).spellable);
    }

pub returns-then-is_own-clause-added : goal.returns-then-is_own-clause-added
returns-then-is_own-clause-added g c tells =
    let C : List ℕ → List ℕ → Command = λ p q. Clone p c.in-Clone.offset c.in-Clone.clone_uuid c.in-Clone.clone_ctransid q c.in-Clone.clone_offset c.in-Clone.clone_len in
    let is : meaning_of c.args.edit.now.item.now.command ≡ C c.in-Clone.path.now c.in-Clone.clone_path.now = ap meaning_of c.in-Clone.is in
    all_always (g.I.Inputs.told c.args.inputs.now) (map string_bytes c.args.task.now.files.now) _ (λ told.
    subst (λ (m : Command). AddEnd told (g.E.Known.base c.args.task.now.known.now) c.args.task.now.survey.now (key_of c.args.edit.now.last) c.args.self.now c.add_own.new.self m (g.O.Sink.taken c.args.out.now) (g.O.Sink.taken c.add_own.new.out) c.map_err.result) (sym is)
    (own_adds told (g.E.Known.base c.args.task.now.known.now) c.args.task.now.survey.now (key_of c.args.edit.now.last) c.args.self.now c.add_own.new.self (g.O.Sink.taken c.args.out.now) (g.O.Sink.taken c.add_own.new.out)
    c.in-Clone.path.now c.in-Clone.offset c.in-Clone.clone_uuid c.in-Clone.clone_ctransid c.in-Clone.clone_path.now c.in-Clone.clone_offset c.in-Clone.clone_len
    (g.O.Sink.faults c.args.out.now) (g.O.Sink.faults c.add_own.new.out) c.add_own.result c.map_err.result (answer_is c.add_own.result c.map_err.result c.map_err.ensures.cases) (sym c.is_own.ensures ∙ c.if-is_own.true) c.add_own.ensures.put c.add_own.ensures.sum
    (subst (λ (k : Kept). k.sum ≤ most_literal) c.self-in-Clone.view_is c.self-in-Clone.invariant.1)))

pub returns-then-is_own-clause-cause : goal.returns-then-is_own-clause-cause
returns-then-is_own-clause-cause g c = put_caused _ _ _ _ _ _ _ _ _ _ _ c.add_own.result c.map_err.result (answer_is c.add_own.result c.map_err.result c.map_err.ensures.cases) c.add_own.ensures.put

pub returns-then-is_own-clause-changed : goal.returns-then-is_own-clause-changed
returns-then-is_own-clause-changed g c = put_unchanged _ _ _ _ _ _ _ _ _ c.add_own.result c.map_err.result (answer_is c.add_own.result c.map_err.result c.map_err.ensures.cases) c.add_own.ensures.put

pub put_item-requires-clause-writable : goal.put_item-requires-clause-writable
put_item-requires-clause-writable g c =
    (later_writable c.args.edit.now.item.now.version c.version.result (meaning_of c.args.edit.now.item.now.command) c.requires.can_write c.version.ensures.known (omega (arith, c.requires.fits, c.version.ensures.version))).0

pub put_item-requires-clause-short : goal.put_item-requires-clause-short
put_item-requires-clause-short g c =
    (later_writable c.args.edit.now.item.now.version c.version.result (meaning_of c.args.edit.now.item.now.command) c.requires.can_write c.version.ensures.known (omega (arith, c.requires.fits, c.version.ensures.version))).1

pub returns-then-not-has_part-clause-added : goal.returns-then-not-has_part-clause-added
returns-then-not-has_part-clause-added g c tells =
    let C : List ℕ → List ℕ → Command = λ p q. Clone p c.in-Clone.offset c.in-Clone.clone_uuid c.in-Clone.clone_ctransid q c.in-Clone.clone_offset c.in-Clone.clone_len in
    let is : meaning_of c.args.edit.now.item.now.command ≡ C c.in-Clone.path.now c.in-Clone.clone_path.now = ap meaning_of c.in-Clone.is in
    let new : Kept = record (the_view c.self-in-Clone.inside) { pending = c.put_item.new.pending } in
    all_always (g.I.Inputs.told c.args.inputs.now) (map string_bytes c.args.task.now.files.now) _ (λ told.
    subst (λ (m : Command). AddEnd told (g.E.Known.base c.args.task.now.known.now) c.args.task.now.survey.now (key_of c.args.edit.now.last) c.args.self.now new m (g.O.Sink.taken c.args.out.now) (g.O.Sink.taken c.put_item.new.out) c.map_err-then-not-has_part.result) (sym is)
    (kept_adds told (g.E.Known.base c.args.task.now.known.now) c.args.task.now.survey.now (key_of c.args.edit.now.last) c.args.self.now new (g.O.Sink.taken c.args.out.now) (g.O.Sink.taken c.put_item.new.out)
    c.in-Clone.path.now c.in-Clone.offset c.in-Clone.clone_uuid c.in-Clone.clone_ctransid c.in-Clone.clone_path.now c.in-Clone.clone_offset c.in-Clone.clone_len
    (g.O.Sink.faults c.args.out.now) (g.O.Sink.faults c.put_item.new.out) c.put_item.result c.map_err-then-not-has_part.result (answer_is c.put_item.result c.map_err-then-not-has_part.result c.map_err-then-not-has_part.ensures.cases) (sym c.is_own.ensures ∙ c.if-is_own.false) (sym c.has_part.ensures ∙ c.if-not-has_part.true)
    (subst (λ (m : Command). PutEnd (g.O.Sink.taken c.args.out.now) (g.O.Sink.taken c.put_item.new.out) c.args.self.now.pending c.put_item.new.pending (canonical c.args.task.now.survey.now.version m) (g.O.Sink.faults c.args.out.now) (g.O.Sink.faults c.put_item.new.out) c.put_item.result) is
    (subst (λ (v : ℕ). PutEnd (g.O.Sink.taken c.args.out.now) (g.O.Sink.taken c.put_item.new.out) c.args.self.now.pending c.put_item.new.pending (canonical v (meaning_of c.args.edit.now.item.now.command)) (g.O.Sink.faults c.args.out.now) (g.O.Sink.faults c.put_item.new.out) c.put_item.result) c.version.ensures.version
    (subst (λ (k : Kept). PutEnd (g.O.Sink.taken c.args.out.now) (g.O.Sink.taken c.put_item.new.out) k.pending c.put_item.new.pending (canonical c.version.result (meaning_of c.args.edit.now.item.now.command)) (g.O.Sink.faults c.args.out.now) (g.O.Sink.faults c.put_item.new.out) c.put_item.result) c.self-in-Clone.view_is c.put_item.ensures.put)))
    (ap (λ (k : Kept). k.sum) c.self-in-Clone.view_is)
    (subst (λ (k : Kept). k.sum ≤ most_literal) c.self-in-Clone.view_is c.self-in-Clone.invariant.1)))

pub returns-then-not-has_part-clause-cause : goal.returns-then-not-has_part-clause-cause
returns-then-not-has_part-clause-cause g c =
    put_caused _ _ _ _ _ _ _ _ _ _ _ c.put_item.result c.map_err-then-not-has_part.result (answer_is c.put_item.result c.map_err-then-not-has_part.result c.map_err-then-not-has_part.ensures.cases) c.put_item.ensures.put

pub returns-then-not-has_part-clause-changed : goal.returns-then-not-has_part-clause-changed
returns-then-not-has_part-clause-changed g c =
    put_unchanged _ _ _ _ _ _ _ _ _ c.put_item.result c.map_err-then-not-has_part.result (answer_is c.put_item.result c.map_err-then-not-has_part.result c.map_err-then-not-has_part.ensures.cases) c.put_item.ensures.put

pub add_redirected-requires-clause-taken : goal.add_redirected-requires-clause-taken
add_redirected-requires-clause-taken g c =
    let C : List ℕ → List ℕ → Command = λ p q. Clone p c.in-Clone.offset c.in-Clone.clone_uuid c.in-Clone.clone_ctransid q c.in-Clone.clone_offset c.in-Clone.clone_len in
    let is : meaning_of c.args.edit.now.item.now.command ≡ C c.in-Clone.path.now c.in-Clone.clone_path.now = ap meaning_of c.in-Clone.is in
    let led = c.requires.led in (
      led.0,
      led_taken led.0 c.args.self.now.state led.1 c.in-Clone.path.now c.in-Clone.offset (key_of (record { uuid = c.in-Clone.clone_uuid; ctransid = c.in-Clone.clone_ctransid })) c.in-Clone.clone_path.now c.in-Clone.clone_offset c.in-Clone.clone_len
          (subst (λ (m : Command). Led led.0 c.args.self.now.state led.1 m) is led.2) (sym c.is_own.ensures ∙ c.if-is_own.false),
    )

pub add_redirected-requires-clause-short : goal.add_redirected-requires-clause-short
add_redirected-requires-clause-short g c =
    let C : List ℕ → List ℕ → Command = λ p q. Clone p c.in-Clone.offset c.in-Clone.clone_uuid c.in-Clone.clone_ctransid q c.in-Clone.clone_offset c.in-Clone.clone_len in
    let is : meaning_of c.args.edit.now.item.now.command ≡ C c.in-Clone.path.now c.in-Clone.clone_path.now = ap meaning_of c.in-Clone.is in
    (paths_short c.args.edit.now.item.now.version c.in-Clone.path.now c.in-Clone.offset c.in-Clone.clone_uuid c.in-Clone.clone_ctransid c.in-Clone.clone_path.now c.in-Clone.clone_offset c.in-Clone.clone_len
    (spellable_is_writable c.args.edit.now.item.now.version (C c.in-Clone.path.now c.in-Clone.clone_path.now) (subst (λ (m : Command). CanWrite c.args.edit.now.item.now.version m) is c.requires.can_write).spellable)).0

pub put_item-requires-in_default : goal.put_item-requires-in_default
put_item-requires-in_default g c =
    let w = later_writable c.args.edit.now.item.now.version c.version-in_default.result (meaning_of c.args.edit.now.item.now.command) c.requires.can_write c.version-in_default.ensures.known (omega (arith, c.requires.fits, c.version-in_default.ensures.version)) in
    record { frame = c.requires.frame; writable = w.0; short = w.1 }

pub returns-in-End-clause-added : goal.returns-in-End-clause-added
returns-in-End-clause-added g c tells =
    all_always (g.I.Inputs.told c.args.inputs.now) (map string_bytes c.args.task.now.files.now) _ (λ told.
    subst (λ (m : Command). AddEnd told (g.E.Known.base c.args.task.now.known.now) c.args.task.now.survey.now (key_of c.args.edit.now.last) c.args.self.now c.args.self.now m (g.O.Sink.taken c.args.out.now) (g.O.Sink.taken c.args.out.now) (Ok tt)) (sym (ap meaning_of c.in-End.is))
    (end_adds told (g.E.Known.base c.args.task.now.known.now) c.args.task.now.survey.now (key_of c.args.edit.now.last) c.args.self.now (g.O.Sink.taken c.args.out.now) (subst (λ (k : Kept). k.sum ≤ most_literal) c.self.view_is c.self.invariant.1)))

pub returns-else-not-has_part-clause-added : goal.returns-else-not-has_part-clause-added
returns-else-not-has_part-clause-added g c tells =
    let C : List ℕ → List ℕ → Command = λ p q. Clone p c.in-Clone.offset c.in-Clone.clone_uuid c.in-Clone.clone_ctransid q c.in-Clone.clone_offset c.in-Clone.clone_len in
    let is : meaning_of c.args.edit.now.item.now.command ≡ C c.in-Clone.path.now c.in-Clone.clone_path.now = ap meaning_of c.in-Clone.is in
    let P : List (List ℕ) → Type 0 = λ told. (cells : List (Option Trace)) → IsSourceOf cells c.args.self.now.state (key_of (record { uuid = c.in-Clone.clone_uuid; ctransid = c.in-Clone.clone_ctransid })) c.in-Clone.clone_path.now
    → AddsRange (g.E.Known.base c.args.task.now.known.now) c.args.task.now.survey.now.version c.in-Clone.path.now c.in-Clone.offset
    (seen_cells told (g.E.Known.base c.args.task.now.known.now) (cells_between c.in-Clone.clone_offset c.in-Clone.clone_len cells))
    c.args.self.now c.add_redirected.new.self (g.O.Sink.taken c.args.out.now) (g.O.Sink.taken c.add_redirected.new.out) c.add_redirected.result in
    all_map (g.I.Inputs.told c.args.inputs.now) (map string_bytes c.args.task.now.files.now) P _ (λ told adds.
    subst (λ (m : Command). AddEnd told (g.E.Known.base c.args.task.now.known.now) c.args.task.now.survey.now (key_of c.args.edit.now.last) c.args.self.now c.add_redirected.new.self m (g.O.Sink.taken c.args.out.now) (g.O.Sink.taken c.add_redirected.new.out) c.add_redirected.result) (sym is)
    (redirected_adds told (g.E.Known.base c.args.task.now.known.now) c.args.task.now.survey.now (key_of c.args.edit.now.last) c.args.self.now c.add_redirected.new.self (g.O.Sink.taken c.args.out.now) (g.O.Sink.taken c.add_redirected.new.out)
    c.in-Clone.path.now c.in-Clone.offset c.in-Clone.clone_uuid c.in-Clone.clone_ctransid c.in-Clone.clone_path.now c.in-Clone.clone_offset c.in-Clone.clone_len
    c.add_redirected.result (sym c.is_own.ensures ∙ c.if-is_own.false) (sym c.has_part.ensures ∙ c.if-not-has_part.false) adds)) (c.add_redirected.ensures.added tells)

pub returns-in_default : goal.returns-in_default
returns-in_default g c =
    let new : Kept = record (the_view c.self-in_default.inside) { pending = c.put_item-in_default.new.pending } in
    let answered = answer_is c.put_item-in_default.result c.map_err-in_default.result c.map_err-in_default.ensures.cases in
    record {
      state = ap (λ (k : Kept). k.state) c.self-in_default.view_is;
      latest = ap (λ (k : Kept). k.latest) c.self-in_default.view_is;
      inputs = record { same = refl; later = omega arith; steady = untouched _ c.map_err-in_default.result; ends_later = omega arith; ends_steady = untouched _ c.map_err-in_default.result };
      asked = asked_nothing g.I.Inputs c.args.inputs.now tt;
      bytes = record { sizes = λ key ino. refl; held = λ tells. refl; later = omega arith; steady = untouched _ c.map_err-in_default.result };
      out = record { later = c.put_item-in_default.ensures.later; steady = handed_steady _ _ c.put_item-in_default.result c.map_err-in_default.result answered c.put_item-in_default.ensures.steady };
      stops = handed_stops c.put_item-in_default.result c.map_err-in_default.result answered;
      cause = put_caused _ _ _ _ _ _ _ _ _ _ _ c.put_item-in_default.result c.map_err-in_default.result answered c.put_item-in_default.ensures.put;
      changed = put_unchanged _ _ _ _ _ _ _ _ _ c.put_item-in_default.result c.map_err-in_default.result answered c.put_item-in_default.ensures.put;
      added = λ tells. all_always (g.I.Inputs.told c.args.inputs.now) (map string_bytes c.args.task.now.files.now) _ (λ told.
          plain_adds told (g.E.Known.base c.args.task.now.known.now) c.args.task.now.survey.now (key_of c.args.edit.now.last) c.args.self.now new (meaning_of c.args.edit.now.item.now.command) (g.O.Sink.taken c.args.out.now) (g.O.Sink.taken c.put_item-in_default.new.out)
          (g.O.Sink.faults c.args.out.now) (g.O.Sink.faults c.put_item-in_default.new.out) c.put_item-in_default.result c.map_err-in_default.result answered (plain_of c.args.edit.now.item.now.command c.requires.edit c.in_default.not-End c.in_default.not-Clone)
          (subst (λ (v : ℕ). PutEnd (g.O.Sink.taken c.args.out.now) (g.O.Sink.taken c.put_item-in_default.new.out) c.args.self.now.pending c.put_item-in_default.new.pending (canonical v (meaning_of c.args.edit.now.item.now.command)) (g.O.Sink.faults c.args.out.now) (g.O.Sink.faults c.put_item-in_default.new.out) c.put_item-in_default.result) c.version-in_default.ensures.version
          (subst (λ (k : Kept). PutEnd (g.O.Sink.taken c.args.out.now) (g.O.Sink.taken c.put_item-in_default.new.out) k.pending c.put_item-in_default.new.pending (canonical c.version-in_default.result (meaning_of c.args.edit.now.item.now.command)) (g.O.Sink.faults c.args.out.now) (g.O.Sink.faults c.put_item-in_default.new.out) c.put_item-in_default.result) c.self-in_default.view_is c.put_item-in_default.ensures.put))
          (ap (λ (k : Kept). k.sum) c.self-in_default.view_is)
          (subst (λ (k : Kept). k.sum ≤ most_literal) c.self-in_default.view_is c.self-in_default.invariant.1));
    }

pub returns-then-is_own-clause-out : goal.returns-then-is_own-clause-out
returns-then-is_own-clause-out g c = record {
  later = c.add_own.ensures.later;
  steady = handed_steady _ _ c.add_own.result c.map_err.result (answer_is c.add_own.result c.map_err.result c.map_err.ensures.cases) c.add_own.ensures.steady;
}

pub returns-then-is_own-clause-stops : goal.returns-then-is_own-clause-stops
returns-then-is_own-clause-stops g c = handed_stops c.add_own.result c.map_err.result (answer_is c.add_own.result c.map_err.result c.map_err.ensures.cases)

pub returns-then-not-has_part-clause-out : goal.returns-then-not-has_part-clause-out
returns-then-not-has_part-clause-out g c = record {
  later = c.put_item.ensures.later;
  steady = handed_steady _ _ c.put_item.result c.map_err-then-not-has_part.result (answer_is c.put_item.result c.map_err-then-not-has_part.result c.map_err-then-not-has_part.ensures.cases) c.put_item.ensures.steady;
}

pub returns-then-not-has_part-clause-stops : goal.returns-then-not-has_part-clause-stops
returns-then-not-has_part-clause-stops g c =
    handed_stops c.put_item.result c.map_err-then-not-has_part.result (answer_is c.put_item.result c.map_err-then-not-has_part.result c.map_err-then-not-has_part.ensures.cases)

pub returns-in-End-clause-asked : goal.returns-in-End-clause-asked
returns-in-End-clause-asked g c = asked_nothing g.I.Inputs c.args.inputs.now tt

pub returns-then-is_own-clause-asked : goal.returns-then-is_own-clause-asked
returns-then-is_own-clause-asked g c = asked_nothing g.I.Inputs c.args.inputs.now tt

pub returns-then-not-has_part-clause-asked : goal.returns-then-not-has_part-clause-asked
returns-then-not-has_part-clause-asked g c = asked_nothing g.I.Inputs c.args.inputs.now tt
