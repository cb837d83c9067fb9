use Rattle.std.proofs.Common.{ℕ, sym, subst}
use Rattle.send_model.specs.Laws.{CanWrite}
use Rattle.send_model.specs.Reading as reading
use Rattle.send_commands.specs.Meaning.{meaning_of}
use Rattle.send_commands.specs.Writing.{IsWritable}
use Rattle.part_names.specs.Overriding.{IsOverridden}
use Rattle.auditor.proofs.Named.{still_short}
use Rattle.stream_export.specs.Steps.{spot_at, ItemEnds}
use Rattle.stream_export.proofs.Named.{in_version, still_spelled}
use Rattle.stream_export.proofs.files.export_named.Goals as goal

pub export_item-requires : goal.export_item-requires
export_item-requires g c =
    let item = c.args.item.now in
    let new = c.given_or-meant.result.now in
    let override = c.args.file.now.said.now in
    let e = subst (IsOverridden override item) (sym c.given_or-meant.ensures) c.override_item-changed.ensures.meant in
    let meant = e.meant c.args.file.now.number in
    record {
      frame = still_spelled c.args.file.now.number override item new meant c.args.frame.now e.frame c.requires.frame;
      framed = c.requires.framed;
      short = still_short c.args.file.now.number 262144 override item new meant c.requires.short;
      writable = in_version c.args.file.now.number override item new meant (λ (version : ℕ). IsWritable version (meaning_of new.command)) (e.writable item.version c.requires.writable);
      sayable = in_version c.args.file.now.number override item new meant (λ (version : ℕ). CanWrite version (meaning_of new.command)) (e.can_write item.version c.requires.version c.requires.sayable);
    }

pub returns-clause-ends : goal.returns-clause-ends
returns-clause-ends g c =
    let item = c.args.item.now in
    let override = c.args.file.now.said.now in
    let e = subst (IsOverridden override item) (sym c.given_or-meant.ensures) c.override_item-changed.ensures.meant in
    subst (λ (meant : reading.Item). ItemEnds (spot_at g.O.Sink c.args.exporter.now c.args.gathered.now c.args.out.now)
    (spot_at g.O.Sink c.export_item.new.exporter c.export_item.new.gathered c.export_item.new.out) meant (g.O.Sink.faults c.args.out.now) (g.O.Sink.faults c.export_item.new.out) c.export_item.result)
    (e.meant c.args.file.now.number) c.export_item.ensures.ends
