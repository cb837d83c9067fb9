use Rattle.std.proofs.Common.{◌≡◌, sym, ap, subst, ◌∙◌, append-nil, ◌++◌, ℕ, List, OnOk}
use Rattle.std.specs.Prelude.{true, false}
use Rattle.send_model.specs.Separated.{touch, separator_in, detour, free_name}
use Rattle.send_model.specs.Receivable.{receivable}
use Rattle.stream_export.specs.Exporting.{all_receivable}
use Rattle.send_model.specs.Command.{Command}
use Rattle.stream_export.proofs.Separating.{short_file, touched, linked_unnamed, linked_same, detour_added, on_ok_by}
use Rattle.stream_export.proofs.exporter.push_separator.Goals.{else-ne-via-then-ne+else-names_file, else-ne-via-else-ne}
use Rattle.stream_export.proofs.exporter.push_separator.Goals as goal

pub push_touch-requires : goal.push_touch-requires
push_touch-requires g c = record { short = short_file c.args.tree.now c.args.other.now (sym c.names_file.ensures ∙ c.if-names_file.true) }

pub returns-then-names_file-clause-added : goal.returns-then-names_file-clause-added
returns-then-names_file-clause-added g c =
    let is = touched c.args.tree.now c.args.other.now c.args.path.now (sym c.names_file.ensures ∙ c.if-names_file.true) (sym c.ne.ensures ∙ c.if-ne.true) in
    let same : receivable c.args.version (touch c.args.other.now) ≡ all_receivable c.args.version (separator_in c.args.tree.now c.args.other.now c.args.path.now) =
    sym (ap (λ (cs : List Command). all_receivable c.args.version cs) is ∙ append-nil (receivable c.args.version (touch c.args.other.now))) in
    subst (λ (t : List ℕ). OnOk c.push_touch.result (c.push_touch.new.to ≡ c.args.to.now ++ t)) same c.push_touch.ensures.added

pub returns-clause-added : goal.returns-clause-added
returns-clause-added g c =
    let is : separator_in c.args.tree.now c.args.other.now c.args.path.now ≡ detour c.args.tree.now (free_name c.args.tree.now) c.args.path.now =
    elim c.else-ne.branch [
      | else-ne-via-then-ne+else-names_file w ↦ linked_unnamed c.args.tree.now c.args.other.now c.args.path.now (sym w.names_file.ensures ∙ w.if-names_file.false)
      | else-ne-via-else-ne w ↦ linked_same c.args.tree.now c.args.other.now c.args.path.now (sym c.ne.ensures ∙ w.if-ne.false)
    ] in
    on_ok_by c.push_root_times.result _ _
    (λ e. detour_added c.args.tree.now c.args.version c.args.other.now c.args.path.now c.as_slice.result.now c.as_slice-2.result.now c.as_slice-3.result.now
    c.args.to.now c.push_link.new.to c.push_touch-2.new.to c.push_unlink.new.to c.push_root_times.new.to
    (c.as_slice.ensures.bytes ∙ c.in_ok-name.ensures.name) (c.as_slice-2.ensures.bytes ∙ c.in_ok-name.ensures.name) (c.as_slice-3.ensures.bytes ∙ c.in_ok-name.ensures.name)
    is c.in_ok-push_link.ensures.added c.in_ok-push_touch.ensures.added c.in_ok-push_unlink.ensures.added e)
    c.push_root_times.ensures.added
