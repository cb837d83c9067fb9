use Rattle.std.specs.Prelude.{Option, IfOk}
use Rattle.std.proofs.Common.{sym, subst}
use Rattle.send_model.specs.Store.{Store}
use Rattle.group_replay.specs.declared.place.Place.{Place}
use Rattle.group_replay.specs.declared.kinds.Kind.{Kind}
use Rattle.group_replay.specs.Kept.{AreKept}
use Rattle.group_replay.specs.Contents.{TakesContent}
use Rattle.group_replay.proofs.GroupContents.{drop_taken}
use Rattle.group_replay.proofs.KeptParts.{dropped_kept}
use Rattle.group_replay.proofs.short.take_content.Goals as goal

pub returns-in-Mark-clause-taken : goal.returns-in-Mark-clause-taken
returns-in-Mark-clause-taken c at = subst (λ (k : Kind). IfOk c.take_mark.result (TakesContent k at c.args.content.now c.args.core.now c.take_mark.new.core)) (sym c.in-Mark.is) (c.take_mark.ensures.taken at)

pub returns-in-Drop-clause-taken : goal.returns-in-Drop-clause-taken
returns-in-Drop-clause-taken c at =
    subst (λ (k : Kind). TakesContent k at c.args.content.now c.args.core.now c.drop_name.new.self c.drop_name.result) (sym c.in-Drop.is)
    (drop_taken at c.args.content.now c.args.core.now c.drop_name.new.self c.drop_name.result c.drop_name.ensures.there c.drop_name.ensures.dropped)

pub returns-in-Drop-clause-kept : goal.returns-in-Drop-clause-kept
returns-in-Drop-clause-kept c end all taken = subst (λ (s : Store (Option Place)). AreKept end s) (sym c.drop_name.ensures.dropped) (dropped_kept end c.args.content.now c.args.core.now all)
