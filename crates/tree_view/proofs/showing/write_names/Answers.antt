use Rattle.std.proofs.Common.{refl, sym, ap, ◌∙◌}
use Rattle.std.specs.List.{flat_map}
use Rattle.send_model.specs.Map.{named_cmp}
use Rattle.send_model.proofs.MapLaws.{named_cmp_total}
use Rattle.store_model.specs.StoreLines.{name_line}
use Rattle.path_index.proofs.Above.{all_names_above}
use Rattle.tree_view.proofs.Entries.{next_above, no_next}
use Rattle.tree_view.proofs.Texts.{handed_on, lines_next, printed_first, printed_next, printed_stops, printed_all}
use Rattle.tree_view.proofs.showing.write_names.Goals as goal

pub loop-next-init : goal.loop-next-init
loop-next-init g c = record { steady = refl; printed = λ ordered lawful. printed_first _ _ _ _ (ap (flat_map name_line) (all_names_above c.args.tree.now.names lawful)) }

pub returns-in_err-write_name-clause-added : goal.returns-in_err-write_name-clause-added
returns-in_err-write_name-clause-added g c = λ ordered lawful.
    let at = next_above named_cmp named_cmp_total _ c.args.tree.now.names ((c.in-Some.next, c.in-Some.name.now), c.in-Some.ino) (sym c.in-Some.ensures) in
    handed_on _ _ c.write_name.new.text.bytes _ _ _ _ c.from_residual.result _ c.from_residual.ensures.1
    (printed_stops _ _ (name_line ((c.in-Some.next, c.in-Some.name.now), c.in-Some.ino)) _ _ c.loop-next.text.bytes c.write_name.new.text.bytes _ _ _ _ (g.O.Sink.faults c.loop-next.out) _ _
    (lines_next name_line _ _ _ (at.above ordered)) c.loop-next.invariant.steady c.in_err-write_name.ensures.added (c.loop-next.invariant.printed ordered lawful))

pub loop-next-smaller : goal.loop-next-smaller
loop-next-smaller g c = (next_above named_cmp named_cmp_total _ c.args.tree.now.names ((c.in-Some.next, c.in-Some.name.now), c.in-Some.ino) (sym c.in-Some.ensures)).fewer

pub loop-next-preserved : goal.loop-next-preserved
loop-next-preserved g c =
    let at = next_above named_cmp named_cmp_total _ c.args.tree.now.names ((c.in-Some.next, c.in-Some.name.now), c.in-Some.ino) (sym c.in-Some.ensures) in
    record {
      steady = c.in_ok-write_name.ensures.out.steady ∙ c.loop-next.invariant.steady;
      printed = λ ordered lawful. printed_next _ _ (name_line ((c.in-Some.next, c.in-Some.name.now), c.in-Some.ino)) _ _ c.loop-next.text.bytes _ _ _ _
          (lines_next name_line _ _ _ (at.above ordered)) c.in_ok-write_name.ensures.added (c.loop-next.invariant.printed ordered lawful);
    }

pub returns-clause-added : goal.returns-clause-added
returns-clause-added g c = λ ordered lawful.
    printed_all _ _ _ _ _ _ (ap (flat_map name_line) (no_next named_cmp (c.loop-next.directory, c.loop-next.last.now) c.args.tree.now.names c.in_default.ensures)) (c.loop-next.invariant.printed ordered lawful)
