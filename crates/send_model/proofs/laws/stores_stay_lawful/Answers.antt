use Rattle.send_model.proofs.LawfulEdits.{edits_keep_sayable}
use Rattle.send_model.proofs.LawfulStores.{received_is_lawful, files_leave_lawful, lawful_finds_sayable, lawful_stores_hold, lawful_all_sayable}
use Rattle.send_model.proofs.laws.stores_stay_lawful.Goals as goal

pub returns-clause-edits : goal.returns-clause-edits
returns-clause-edits c = edits_keep_sayable

pub returns-clause-items : goal.returns-clause-items
returns-clause-items c = received_is_lawful

pub returns-clause-files : goal.returns-clause-files
returns-clause-files c = files_leave_lawful

pub returns-clause-finds : goal.returns-clause-finds
returns-clause-finds c = lawful_finds_sayable

pub returns-clause-composed : goal.returns-clause-composed
returns-clause-composed c = lawful_stores_hold

pub returns-clause-sayable : goal.returns-clause-sayable
returns-clause-sayable c = lawful_all_sayable
