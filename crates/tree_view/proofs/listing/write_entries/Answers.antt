use Rattle.std.proofs.Common.{refl, ap, ◌∙◌}
use Rattle.std.specs.List.{flat_map}
use Rattle.store_model.specs.StoreLines.{listed, entry_line}
use Rattle.subvol_catalog.specs.Entries.{entry_of}
use Rattle.tree_view.proofs.Texts.{handed_on, lines_next, printed_first, printed_next, printed_stops, printed_all}
use Rattle.tree_view.proofs.listing.write_entries.Goals as goal

pub loop-entry-init : goal.loop-entry-init
unfolding listed
loop-entry-init g c = record {
  steady = refl;
  printed = printed_first _ _ _ _ (ap (flat_map entry_line)
      (c.into_iter-entry-iterator.ensures.into_iter_gives ∙ c.iter-entry-items.ensures.entries));
}

pub returns-in_err-write_entry-clause-added : goal.returns-in_err-write_entry-clause-added
returns-in_err-write_entry-clause-added g c =
    handed_on _ _ c.write_entry.new.text.bytes _ _ _ _
    c.from_residual.result _ c.from_residual.ensures.1
    (printed_stops _ _ (entry_line (entry_of c.in-Some.entry.now)) _ _ c.loop-entry.text.bytes
    c.write_entry.new.text.bytes _ _ _ _ (g.O.Sink.faults c.loop-entry.out) _ _
    (lines_next entry_line _ _ _ c.in-Some.ensures.steps) c.loop-entry.invariant.steady
    c.in_err-write_entry.ensures.added c.loop-entry.invariant.printed)

pub loop-entry-preserved : goal.loop-entry-preserved
loop-entry-preserved g c = record {
  steady = c.in_ok-write_entry.ensures.out.steady ∙ c.loop-entry.invariant.steady;
  printed = printed_next _ _ (entry_line (entry_of c.in-Some.entry.now)) _ _
      c.loop-entry.text.bytes _ _ _ _ (lines_next entry_line _ _ _ c.in-Some.ensures.steps)
      c.in_ok-write_entry.ensures.added c.loop-entry.invariant.printed;
}

pub returns-clause-added : goal.returns-clause-added
returns-clause-added g c =
    printed_all _ _ _ _ _ _ (ap (flat_map entry_line) c.in-None.ensures.steps.0)
    c.loop-entry.invariant.printed
