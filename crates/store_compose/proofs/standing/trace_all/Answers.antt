use Rattle.std.proofs.Common.{map, ◌∙◌}
use Rattle.std.specs.Prelude.{[], ◌∷◌}
use Rattle.std.proofs.lemmas.List.{map-append}
use Rattle.subvol_catalog.specs.Entries.{entry_of}
use Rattle.store_compose.specs.Standing.{traced_to_itself}
use Rattle.store_compose.proofs.StandingEntries.{passed_none, passed_next, passed_all}
use Rattle.store_compose.proofs.NewEntries.{new_traced}
use Rattle.store_compose.proofs.standing.trace_all.Goals as goal

pub loop-entry-init : goal.loop-entry-init
loop-entry-init c =
    passed_none (map traced_to_itself) c.args.indexes.now _ _
    (c.into_iter-entry-iterator.ensures.into_iter_gives ∙ c.iter-entry-items.ensures.entries)
    c.new-core.ensures

pub add_traced-requires : goal.add_traced-requires
add_traced-requires c = record {
  new = new_traced c.args.indexes.now _ _ (entry_of c.in-Some.entry.now) c.loop-entry.core
      c.iter-entry-items.ensures.apart c.iter-entry-items.ensures.named c.in-Some.ensures.steps
      c.loop-entry.invariant;
}

pub loop-entry-preserved : goal.loop-entry-preserved
loop-entry-preserved c =
    let e = entry_of c.in-Some.entry.now in
    passed_next (map traced_to_itself) c.args.indexes.now _ _ e c.loop-entry.core
    c.add_traced.new.core (λ done. map-append traced_to_itself done (e ∷ []))
    c.in-Some.ensures.steps c.in_ok-add_traced.ensures c.loop-entry.invariant

pub returns : goal.returns
returns c =
    passed_all (map traced_to_itself) c.args.indexes.now _ c.loop-entry.core
    c.in-None.ensures.steps.0 c.loop-entry.invariant
