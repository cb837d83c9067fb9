use Rattle.std.proofs.Common.{ap, subst}
use Rattle.send_model.specs.Subvolume.{IsLawful}
use Rattle.store_model.specs.StoreLines.{shown}
use Rattle.subvol_catalog.specs.Entries.{key_of}
use Rattle.sx_base.specs.Calls.{Wrote}
use Rattle.stream_dump.specs.declared.gathering.Gathered.{Gathered}
use Rattle.tree_view.specs.Printing.{Prints}
use Rattle.tree_view.proofs.Texts.{text_ends}
use Rattle.tree_view.proofs.showing.show.Goals as goal

pub returns-in-Ok-clause-shown : goal.returns-in-Ok-clause-shown
returns-in-Ok-clause-shown g c =
    subst (λ s. IsLawful s → Wrote (g.O.Sink.taken c.args.out.now) (g.O.Sink.taken c.finish.new.out) (Prints (shown c.args.name.now (key_of c.args.key) s) c.finish.result)) c.tree.ensures
    (λ lawful. text_ends _ _ _ _ _ _ _ _ c.finish.result (ap (λ (t : Gathered). t.bytes) c.new-text.ensures.empty) (c.in-Ok.ensures.added lawful) c.finish.ensures.ends)
