-- The refusals of a clone from another subvolume that come before its walks.
use Rattle.std.proofs.Common.{None, refl, sym, ap, ◌∙◌}
use Rattle.clone_resolve.proofs.EditLaws.{clone_bad_path, clone_bad_source, clone_no_source, other_source}
use Rattle.clone_resolve.proofs.edit_core.EditCore.clone_range.Goals as goal

pub returns-in_default-clause-cloned : goal.returns-in_default-clause-cloned
returns-in_default-clause-cloned g c =
    (clone_bad_path None c.args.part.now.subvolume _ _ c.args.path.now c.args.at c.args.source.now.range.path.now c.args.source.now.range.from c.args.source.now.range.len c.in_default.ensures, refl)

pub returns-in_default-split-clause-cloned : goal.returns-in_default-split-clause-cloned
returns-in_default-split-clause-cloned g c =
    (clone_bad_source None c.args.part.now.subvolume _ _ c.args.path.now c.args.at c.args.source.now.range.path.now c.args.source.now.range.from c.args.source.now.range.len _ c.in-Ok.ensures c.in_default-split.ensures, refl)

pub returns-in_default-by_key-clause-cloned : goal.returns-in_default-by_key-clause-cloned
returns-in_default-by_key-clause-cloned g c =
    let none = rw (c.self.view_is, c.in_default-by_key.is) at c.by_key.ensures.found in
    let key = ap (λ p. p.key.uuid) c.part.view_is in
    let other = rw key at (sym c.eq.ensures ∙ c.if-eq.false) in (
      clone_no_source None c.args.part.now.subvolume _ _ c.args.path.now c.args.at c.args.source.now.range.path.now c.args.source.now.range.from c.args.source.now.range.len _ _ c.in-Ok.ensures c.in-Ok-split.ensures
          (other_source c.args.self.now c.args.part.now _ other (sym none)),
      refl,
    )
