use Rattle.send_model.proofs.Overriding.{keeps_all_else, names_alone_keep_keys, names_alone_rename, changes_names_and_parents, has_new_head, has_new_name, bad_name_stands, overridden_is_writable, overridden_is_whole}
use Rattle.send_model.proofs.OverriddenByFile.{overridden_one_by_one, file_has_one_override}
use Rattle.send_model.proofs.OverriddenFiles.{overridden_files_hold, overridden_leave_lawful}
use Rattle.send_model.proofs.NamedFiles.{plain_files_are_given, given_names_fit, short_names_are_given}
use Rattle.send_model.proofs.OverriddenAudits.{overridden_audit_is_receiving, overridden_audit_stops_at_limit}
use Rattle.send_model.proofs.SourceLaws.{no_overrides_change_nothing}
use Rattle.send_model.proofs.laws.files_may_have_overrides.Goals as goal

pub returns : goal.returns
returns c k = record {
  none = no_overrides_change_nothing;
  rest = keeps_all_else;
  names = names_alone_keep_keys;
  renamed = names_alone_rename;
  heads = changes_names_and_parents;
  one_by_one = overridden_one_by_one;
  file = file_has_one_override;
  head = has_new_head;
  named = has_new_name;
  bad = bad_name_stands;
  writable = overridden_is_writable;
  whole = overridden_is_whole;
  files = overridden_files_hold;
  audits = overridden_audit_is_receiving;
  limited = overridden_audit_stops_at_limit;
  lawful = overridden_leave_lawful;
  words = plain_files_are_given;
  fit = given_names_fit;
  short = short_names_are_given;
}
