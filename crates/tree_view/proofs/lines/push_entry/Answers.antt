use Rattle.std.proofs.Common.{◌++◌, ℕ, List, [], ◌∷◌, refl, ap, ◌∙◌}
use Rattle.std.proofs.lemmas.Result.{on_ok_weaker}
use Rattle.send_model.specs.Answer.{and_field, and_number}
use Rattle.std.specs.Option.{option_map}
use Rattle.send_model.specs.Printed.{escaped, uuid_text}
use Rattle.store_model.specs.StoreLines.{state_text, parent_text, entry_line}
use Rattle.subvol_catalog.specs.Entries.{key_of}
use Rattle.tree_view.proofs.LineByField.{more}
use Rattle.tree_view.proofs.lines.push_entry.Goals as goal

pub returns : goal.returns
unfolding entry_line
returns g c =
    let to : List ℕ = c.args.to.now in
    let t0 : List ℕ = escaped c.args.entry.now.name in
    let e0 = c.in_ok-escape_into.ensures.appended ∙ ap (λ (l : List ℕ). to ++ escaped l) c.as_slice.ensures.bytes in
    let f1 : List ℕ = and_field (uuid_text c.args.entry.now.key.uuid) in
    let t1 : List ℕ = t0 ++ f1 in
    let e1 = more to t0 _ f1 _ _ refl e0 c.in_ok-push_identifier.ensures.pushed in
    let f2 : List ℕ = and_number c.args.entry.now.key.ctransid in
    let t2 : List ℕ = t1 ++ f2 in
    let e2 = more to t1 _ f2 _ _ refl e1 c.in_ok-push_number.ensures.pushed in
    let f3 : List ℕ = and_field (state_text c.args.entry.now.value) in
    let t3 : List ℕ = t2 ++ f3 in
    let e3 = more to t2 _ f3 _ _ refl e2 c.in_ok-push_state.ensures.pushed in
    let f4 : List ℕ = and_field (parent_text (option_map key_of c.args.entry.now.parent)) in
    let t4 : List ℕ = t3 ++ f4 in
    let e4 = more to t3 _ f4 _ _ refl e3 c.in_ok-push_parent.ensures.pushed in
    record { pushed = on_ok_weaker c.push_all.result (λ done. more to t4 _ (10 ∷ []) _ _ refl e4 done) c.push_all.ensures.appended }
