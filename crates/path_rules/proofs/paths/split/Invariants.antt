-- All pieces are names exactly where those that are left are.
use Rattle.std.proofs.Common.{◌≡◌}
use Rattle.std.specs.List.{list_all}
use Rattle.send_model.specs.Path.{is_name, between_slashes}
use Rattle.path_rules.proofs.paths.split.Given as goal

abbrev pub invariant-loop-name : goal.invariant-loop-name
invariant-loop-name l = list_all is_name l.name-iterator ≡ list_all is_name (between_slashes l.path)
