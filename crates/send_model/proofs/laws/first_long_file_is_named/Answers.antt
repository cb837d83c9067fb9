use Rattle.send_model.proofs.LongFiles.{files_are_measured, named_is_first_long, first_long_is_named, unnamed_is_within, within_is_unnamed, named_stops_reading, stopped_is_named, read_to_the_limit}
use Rattle.send_model.proofs.laws.first_long_file_is_named.Goals as goal

pub returns : goal.returns
returns c = record {
  measured = files_are_measured;
  first = named_is_first_long;
  named = first_long_is_named;
  none = unnamed_is_within;
  unnamed = within_is_unnamed;
  stops = named_stops_reading;
  stopped = stopped_is_named;
  read = read_to_the_limit;
}
