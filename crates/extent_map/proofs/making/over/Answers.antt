use Rattle.std.proofs.Common.{List, sym, subst, ap, ◌∙◌}
use Rattle.std.specs.List.{list_any}
use Rattle.extent_map.specs.Pieces.{have_foreign}
use Rattle.extent_map.specs.Seen.{Seen, joined, IsFork}
use Rattle.extent_map.proofs.Foreigns.{fork_says}
use Rattle.extent_map.proofs.making.over.Goals as goal

pub invariant_of-result : goal.invariant_of-result
invariant_of-result g c =
    record {
      parts = subst (IsFork c.args.height c.args.len) (sym c.in_ok-given.ensures) c.requires;
      says =
          c.any_foreign-foreign.ensures
          ∙ ap (list_any (λ (k : Seen g.row.O.Denot). have_foreign g.O.Origin.foreign k.cells)) c.deref.ensures.value
          ∙ fork_says g.O.Origin.foreign c.args.trees.items
          ∙ ap (λ (l : List (Seen g.row.O.Denot)). have_foreign g.O.Origin.foreign (joined l)) (sym c.in_ok-given.ensures);
    }
