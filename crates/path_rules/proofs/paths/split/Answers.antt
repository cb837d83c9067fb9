-- Each way out, by what the path's names are there.
use Rattle.std.proofs.Common.{◌&&◌, Bool, true, false, ap, sym, ◌∙◌, rules}
use Rattle.std.specs.List.{list_all}
use Rattle.send_model.specs.Path.{is_name}
use Rattle.send_model.proofs.PathLaws.{path_empty, path_too_long, path_by_pieces}
use Rattle.path_rules.proofs.paths.split.Goals as goal

pub returns-then-is_empty : goal.returns-then-is_empty
returns-then-is_empty c = path_empty c.args.path.now (search rules)

pub returns-then-path-gt-LONGEST_PATH : goal.returns-then-path-gt-LONGEST_PATH
returns-then-path-gt-LONGEST_PATH c = path_too_long c.args.path.now c.if-path-gt-LONGEST_PATH.true

pub returns-then-not-name_ok : goal.returns-then-not-name_ok
returns-then-not-name_ok c =
    path_by_pieces c.args.path.now false (search rules) c.if-path-gt-LONGEST_PATH.false
    (sym c.loop-name.invariant ∙ ap (list_all is_name) c.in-Some.ensures.steps
    ∙ ap (λ (t : Bool). t && list_all is_name c.next.new.self) (sym c.name_ok.ensures ∙ c.if-not-name_ok.true))

pub returns : goal.returns
returns c =
    path_by_pieces c.args.path.now true (search rules) c.if-path-gt-LONGEST_PATH.false
    (sym c.loop-name.invariant ∙ ap (list_all is_name) c.in-None.ensures.steps.0)
