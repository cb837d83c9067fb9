use Rattle.std.proofs.Common.{◌++◌, ℕ, List, [], ◌∷◌, codes, refl}
use Rattle.std.proofs.lemmas.Result.{on_ok_weaker}
use Rattle.send_model.specs.Answer.{and_field, and_number}
use Rattle.send_model.specs.Printed.{escaped}
use Rattle.store_model.specs.StoreLines.{name_line}
use Rattle.tree_view.proofs.LineByField.{more}
use Rattle.tree_view.proofs.lines.push_name.Goals as goal

pub returns : goal.returns
unfolding name_line
returns c =
    let to : List ℕ = c.args.to.now in
    let t0 : List ℕ = codes "name" in
    let e0 = c.in_ok-push_all.ensures.appended in
    let f1 : List ℕ = and_number c.args.directory in
    let t1 : List ℕ = t0 ++ f1 in
    let e1 = more to t0 _ f1 _ _ refl e0 c.in_ok-push_number.ensures.pushed in
    let f2 : List ℕ = and_field (escaped c.args.name.now) in
    let t2 : List ℕ = t1 ++ f2 in
    let e2 = more to t1 _ f2 _ _ refl e1 c.in_ok-push_escaped.ensures.pushed in
    let f3 : List ℕ = and_number c.args.ino in
    let t3 : List ℕ = t2 ++ f3 in
    let e3 = more to t2 _ f3 _ _ refl e2 c.in_ok-push_number-2.ensures.pushed in
    record { pushed = on_ok_weaker c.push_all-2.result (λ done. more to t3 _ (10 ∷ []) _ _ refl e3 done) c.push_all-2.ensures.appended }
