use Rattle.std.proofs.Common.{◌∙◌}
use Rattle.std.specs.Prelude.{IfSome}
use Rattle.send_model.specs.Subvolume.{IsLawful}
use Rattle.subvol_catalog.specs.Entries.{entry_of}
use Rattle.store_compose.specs.Standing.{standing}
use Rattle.store_compose.proofs.StandingEntries.{passed_none, passed_next, passed_all, holds_next, standing_joins}
use Rattle.store_compose.proofs.NewEntries.{new_standing}
use Rattle.store_compose.proofs.standing.index_all.Goals as goal

pub loop-entry-init : goal.loop-entry-init
loop-entry-init c =
    passed_none (standing c.args.survey.now) c.args.catalog.now _ _
    (c.into_iter-entry-iterator.ensures.into_iter_gives ∙ c.iter-entry-items.ensures.entries)
    c.new-indexes.ensures.empty

pub keep_entry-requires : goal.keep_entry-requires
keep_entry-requires c = record {
  lawful = holds_next (λ e. IfSome e.contents IsLawful) (standing c.args.survey.now)
      c.args.catalog.now _ _ (entry_of c.in-Some.entry.now) c.loop-entry.indexes c.requires.lawful
      c.in-Some.ensures.steps c.loop-entry.invariant;
  new = new_standing c.args.survey.now c.args.catalog.now _ _ (entry_of c.in-Some.entry.now)
      c.loop-entry.indexes c.iter-entry-items.ensures.apart c.iter-entry-items.ensures.named
      c.in-Some.ensures.steps c.loop-entry.invariant;
}

pub loop-entry-preserved : goal.loop-entry-preserved
loop-entry-preserved c =
    passed_next (standing c.args.survey.now) c.args.catalog.now _ _ (entry_of c.in-Some.entry.now)
    c.loop-entry.indexes c.keep_entry.new.indexes
    (standing_joins c.args.survey.now (entry_of c.in-Some.entry.now)) c.in-Some.ensures.steps
    c.in_ok-keep_entry.ensures c.loop-entry.invariant

pub returns : goal.returns
returns c =
    passed_all (standing c.args.survey.now) c.args.catalog.now _ c.loop-entry.indexes
    c.in-None.ensures.steps.0 c.loop-entry.invariant
