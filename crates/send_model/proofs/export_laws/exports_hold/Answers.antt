use Rattle.send_model.proofs.ExportedReadings.{named_export_holds, files_are_promised_the_same}
use Rattle.send_model.proofs.export_laws.exports_hold.Goals as goal

pub returns : goal.returns
returns c = record { named = named_export_holds; files = files_are_promised_the_same }
