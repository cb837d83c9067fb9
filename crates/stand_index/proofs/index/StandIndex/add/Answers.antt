use Rattle.std.proofs.Common.{◌≡◌, subst, sym}
use Rattle.provenance.specs.declared.trace.Trace.{Trace}
use Rattle.provenance.specs.declared.trace.Trace.TheVariants.{Fresh, Outside}
use Rattle.stand_index.specs.Puts.{Puts, PutsBlocks}
use Rattle.stand_index.proofs.Tags.{fresh_adds, outside_adds, if_done}
use Rattle.stand_index.proofs.index.StandIndex.add.Goals as goal

pub returns-in-Fresh : goal.returns-in-Fresh
returns-in-Fresh c = if_done _ _ (λ adds.
    subst (λ (first : Trace). PutsBlocks first c.args.ino c.args.at c.args.count c.args.self.now (record { inputs = c.add.new.self; outside = c.self.inside.outside })) (sym c.in-Fresh.is)
    (subst (λ (old : Puts). PutsBlocks (Fresh c.in-Fresh.file c.in-Fresh.cell) c.args.ino c.args.at c.args.count old (record { inputs = c.add.new.self; outside = c.self.inside.outside })) c.self.view_is
    (fresh_adds c.self.inside.outside c.self.inside.inputs c.add.new.self c.in-Fresh.file c.in-Fresh.cell c.args.ino c.args.at c.args.count adds))) c.add.result c.add.ensures

pub returns-in-Outside : goal.returns-in-Outside
returns-in-Outside c = if_done _ _ (λ adds.
    subst (λ (first : Trace). PutsBlocks first c.args.ino c.args.at c.args.count c.args.self.now (record { inputs = c.self.inside.inputs; outside = c.add-in-Outside.new.self })) (sym c.in-Outside.is)
    (subst (λ (old : Puts). PutsBlocks (Outside c.in-Outside.key c.in-Outside.from c.in-Outside.cell) c.args.ino c.args.at c.args.count old (record { inputs = c.self.inside.inputs; outside = c.add-in-Outside.new.self })) c.self.view_is
    (outside_adds c.self.inside.inputs c.self.inside.outside c.add-in-Outside.new.self c.in-Outside.key c.in-Outside.from c.in-Outside.cell c.args.ino c.args.at c.args.count adds))) c.add-in-Outside.result c.add-in-Outside.ensures
