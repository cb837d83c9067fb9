use Rattle.std.specs.Prelude.{◌≡◌, ◌≢◌, None, Some}
use Rattle.std.proofs.Common.{rules, sym, ap, ◌∙◌}
use Rattle.send_model.specs.Command.{Kind, row, kind_of_number}
use Rattle.send_commands.specs.Meaning.{kind_meant}
use Rattle.stream_text.proofs.TakenLines.{kind_found, none_first, none_more, none_named}
use Rattle.stream_text.proofs.text_line.kind_named.Goals as goal
use Rattle.stream_text.proofs.text_line.kind_named.Goals.{in-Some+else-eq, in_default}

pub returns-then-eq : goal.returns-then-eq
returns-then-eq c =
    let same : c.command_name.result.now ≡ c.args.name.now = search rules in
    record { named = kind_found c.args.version c.loop-number.number c.args.name.now (kind_meant c.in-Some.kind) (sym c.in-Some.ensures.kind) (sym c.command_name.ensures.name ∙ same) }

pub loop-number-init : goal.loop-number-init
loop-number-init c = record { none = none_first c.args.version c.args.name.now }

pub loop-number-preserved : goal.loop-number-preserved
loop-number-preserved c =
    let version = c.args.version in
    let number = c.loop-number.number in
    let name = c.args.name.now in
    record {
      none = none_more version number name c.loop-number.invariant.none
          (λ kind found is. elim c.match-from_number.branch [
            | in-Some+else-eq w ↦
                let here : Some (kind_meant w.in-Some.kind) ≡ kind_of_number version number = w.in-Some.ensures.kind in
                let same : kind_meant w.in-Some.kind ≡ kind = cc in
                let other : w.command_name.result.now ≢ name = search rules in
                other (w.command_name.ensures.name ∙ ap (λ (k : Kind). (row k).name) same ∙ is)
            | in_default w ↦
                let here : None ≡ kind_of_number version number = w.in_default.ensures.kind in
                absurd cc
          ]);
    }

pub returns : goal.returns
returns c = record { named = none_named c.args.version c.loop-number.number c.args.name.now c.loop-number-test.false c.loop-number.invariant.none }
