-- Each way out of a rename.
use Rattle.std.specs.Prelude.{ℕ, Option, is_some}
use Rattle.std.proofs.Common.{◌≡◌, ◌≢◌, ◌&&◌, Some, None, Ok, true, false, ap, ◌∙◌, rules, sym, subst}
use Rattle.std.proofs.lemmas.Bool.{eq-eqb, ne_eqb, true≢false}
use Rattle.std.proofs.lemmas.Result.{err_from_is_err_and}
use Rattle.send_model.specs.Subvolume.{IsSound, named, is_directory}
use Rattle.send_model.specs.Edit.{lies_below}
use Rattle.inode_tree.specs.Places.{spot_of}
use Rattle.send_model.proofs.SoundRenames.{replaced_is_leaf}
use Rattle.inode_tree.proofs.FreePlaces.{if_taken, if_free}
use Rattle.inode_tree.proofs.RenameSteps.{AreFound, GivesWay, both_found, still_found, rename_nowhere, rename_absent, rename_lost, rename_into, rename_moved, rename_same, rename_into_other, rename_refused, rename_replaced, rename_keeps_sound, sound_of}
use Rattle.inode_tree.proofs.tree.Tree.rename.Given.{Over}
use Rattle.inode_tree.proofs.tree.Tree.rename.Goals.{In_ok-to, In_ok-move_to, After-check_replace}
use Rattle.inode_tree.proofs.tree.Tree.rename.Goals as goal

pub returns-in_err-from : goal.returns-in_err-from
returns-in_err-from g c =
    let p = err_from_is_err_and c.from_residual.result c.from_residual.ensures.1 in
    rw (p.1, p.2) (rename_nowhere c.args.self.now c.args.path.now c.args.path_to.now _ c.in_err-from.ensures.found, c.in_err-from.ensures.same)

pub returns-in_default : goal.returns-in_default
returns-in_default g c =
    let from = c.in_ok-from.from in
    let same = c.in_ok-from.ensures.same in
    let absent : named c.place.new.self from.0 from.1 ≡ None = search rules in
    (rename_absent c.args.self.now c.args.path.now c.args.path_to.now (spot_of from) c.in_ok-from.ensures.found (subst (λ s. named s from.0 from.1 ≡ None) same absent), same)

pub returns-in_err-to : goal.returns-in_err-to
returns-in_err-to g c =
    let from = c.in_ok-from.from in
    let same = c.in_ok-from.ensures.same in
    let mine : named c.place.new.self from.0 from.1 ≡ Some c.in-Some.moved = search rules in
    let p = err_from_is_err_and c.from_residual-in_err-to.result c.from_residual-in_err-to.ensures.1 in
    rw (p.1, p.2) (
      rename_lost c.args.self.now c.args.path.now c.args.path_to.now (spot_of from) c.in_ok-from.ensures.found c.in-Some.moved (subst (λ s. named s from.0 from.1 ≡ Some c.in-Some.moved) same mine) _
          (rw (sym same) c.in_err-to.ensures.found),
      c.in_err-to.ensures.same ∙ same,
    )

-- Once both places are found nothing has changed.
found : (g : Over) (c : In_ok-to g) → AreFound c.args.self.now c.place-2.new.self c.args.path.now c.args.path_to.now (spot_of c.in_ok-from.from) (spot_of c.in_ok-to.to) c.in-Some.moved
found g c =
    let from = c.in_ok-from.from in
    let mine : named c.place.new.self from.0 from.1 ≡ Some c.in-Some.moved = search rules in
    both_found c.args.self.now c.place.new.self c.place-2.new.self c.args.path.now c.args.path_to.now (spot_of from) (spot_of c.in_ok-to.to) c.in-Some.moved c.in_ok-from.ensures.same c.in_ok-to.ensures.same c.in_ok-from.ensures.found mine c.in_ok-to.ensures.found

pub returns-in_default-named : goal.returns-in_default-named
returns-in_default-named g c =
    let f = found g (goal.at.returns-in_default-named g c).In_ok-to in
    let free : named c.place-2.new.self c.in_ok-to.to.0 c.in_ok-to.to.1 ≡ None = search rules in
    let into : (is_directory c.place-2.new.self c.in-Some.moved && lies_below c.place-2.new.self c.in-Some.moved c.args.path_to.now) ≡ true = search rules in
    (rename_into f free into, f.same)

pub returns-then-there-moved : goal.returns-then-there-moved
returns-then-there-moved g c =
    let f = found g (goal.at.returns-then-there-moved g c).In_ok-to in
    let there = c.in-Some-named.there in
    let stands : named c.place-2.new.self c.in_ok-to.to.0 c.in_ok-to.to.1 ≡ Some there = search rules in
    let differ : there ≢ c.in-Some.moved = search rules in
    let into : (is_directory c.place-2.new.self c.in-Some.moved && lies_below c.place-2.new.self c.in-Some.moved c.args.path_to.now) ≡ true = search rules in
    (rename_into_other f there stands (ne_eqb _ _ differ) into, f.same)

pub returns-then-goes_into_itself : goal.returns-then-goes_into_itself
returns-then-goes_into_itself g c =
    let f = found g (goal.at.returns-then-goes_into_itself g c).In_ok-to in
    let there = c.in-Some-named.there in
    let stands : named c.place-2.new.self c.in_ok-to.to.0 c.in_ok-to.to.1 ≡ Some there = search rules in
    let one : there ≡ c.in-Some.moved = search rules in
    rename_same f there stands (eq-eqb _ _ one)

pub move_to-requires-clause-at : goal.move_to-requires-clause-at
move_to-requires-clause-at g c = (found g (goal.at.move_to-requires-clause-at g c).In_ok-to).at_to

pub move_to-requires-clause-there : goal.move_to-requires-clause-there
move_to-requires-clause-there g c = (found g (goal.at.move_to-requires-clause-there g c).In_ok-to).mine

pub move_to-requires-clause-sound : goal.move_to-requires-clause-sound
move_to-requires-clause-sound g c = λ free.
    let f = found g (goal.at.move_to-requires-clause-sound g c).In_ok-to in
    let outside : (is_directory c.place-2.new.self c.in-Some.moved && lies_below c.place-2.new.self c.in-Some.moved c.args.path_to.now) ≡ false = search rules in
    let whole : c.self.inside.whole ≡ true = search rules in
    let sound = subst (λ s. IsSound s) f.same (sound_of _ _ c.self.view_is _ _ whole c.self.invariant.0) in
    rename_keeps_sound None c.args.path.now c.args.path_to.now c.args.self.now _ sound (rename_moved f free outside)

pub returns-then-branch : goal.returns-then-branch
returns-then-branch g c =
    let f = found g (goal.at.returns-then-branch g c).In_ok-to in
    let outside : (is_directory c.place-2.new.self c.in-Some.moved && lies_below c.place-2.new.self c.in-Some.moved c.args.path_to.now) ≡ false = search rules in
    let was_free : c.in_ok-move_to.field-0 ≡ true = search rules in
    let moves = if_free _ _ _ _ _ was_free c.in_ok-move_to.ensures in
    rename_moved f moves.0 outside ∙ ap Ok (sym moves.1)

-- A name stands at the second place still.
pub unreachable-requires : goal.unreachable-requires
unreachable-requires g c =
    let taken : c.in_ok-move_to.field-0 ≡ false = search rules in
    let free : named c.move_to.new.self c.in_ok-to.to.0 c.in_ok-to.to.1 ≡ None = search rules in
    let stood = if_taken _ _ _ _ _ taken c.in_ok-move_to.ensures in
    absurd (true≢false (sym stood.0 ∙ ap (λ (o : Option ℕ). is_some o) (subst (λ s. named s c.in_ok-to.to.0 c.in_ok-to.to.1 ≡ None) stood.1 free)))

-- Where a name stands at the second place, nothing has moved.
stays : (g : Over) (c : In_ok-move_to g) → c.in_ok-move_to.field-0 ≡ false → c.move_to.new.self ≡ c.place-2.new.self
stays g c taken = (if_taken _ _ _ _ _ taken c.in_ok-move_to.ensures).1

pub returns-then-there-moved-2 : goal.returns-then-there-moved-2
returns-then-there-moved-2 g c =
    let p = goal.at.returns-then-there-moved-2 g c in
    let taken : c.in_ok-move_to.field-0 ≡ false = search rules in
    let there = c.in-Some-named-2.there in
    let stands : named c.move_to.new.self c.in_ok-to.to.0 c.in_ok-to.to.1 ≡ Some there = search rules in
    let one : there ≡ c.in-Some.moved = search rules in
    rename_same (still_found _ _ _ _ _ _ _ _ (stays g p.In_ok-move_to taken) (found g p.In_ok-to)) there stands (eq-eqb _ _ one)

-- What stands there is another inode.
gives_way : (g : Over) (c : After-check_replace g) → AreFound c.args.self.now c.place-2.new.self c.args.path.now c.args.path_to.now (spot_of c.in_ok-from.from) (spot_of c.in_ok-to.to) c.in-Some.moved → GivesWay c.args.self.now c.move_to.new.self c.args.path.now c.args.path_to.now (spot_of c.in_ok-from.from) (spot_of c.in_ok-to.to) c.in-Some.moved c.in-Some-named-2.there
gives_way g c f =
    let taken : c.in_ok-move_to.field-0 ≡ false = search rules in
    let same = (if_taken _ _ _ _ _ taken c.in_ok-move_to.ensures).1 in
    let differ : c.in-Some-named-2.there ≢ c.in-Some.moved = search rules in
    let outside : (is_directory c.place-2.new.self c.in-Some.moved && lies_below c.place-2.new.self c.in-Some.moved c.args.path_to.now) ≡ false = search rules in
    record {
      found = still_found _ _ _ _ _ _ _ _ same f;
      stands = search rules;
      differ = ne_eqb _ _ differ;
      outside = subst (λ s. (is_directory s c.in-Some.moved && lies_below s c.in-Some.moved c.args.path_to.now) ≡ false) (sym same) outside;
    }

pub returns-in_err-check_replace : goal.returns-in_err-check_replace
returns-in_err-check_replace g c =
    let p = goal.at.returns-in_err-check_replace g c in
    let w = gives_way g p.After-check_replace (found g p.In_ok-to) in
    let e = err_from_is_err_and c.from_residual-in_err-check_replace.result c.from_residual-in_err-check_replace.ensures.1 in
    rw (e.1, e.2) (rename_refused c.in-Some-named-2.there w _ c.in_err-check_replace.ensures, w.found.same)

pub move_onto-requires-clause-mine : goal.move_onto-requires-clause-mine
move_onto-requires-clause-mine g c = let p = goal.at.move_onto-requires-clause-mine g c in (gives_way g p.After-check_replace (found g p.In_ok-to)).found.mine

pub move_onto-requires-clause-leaf : goal.move_onto-requires-clause-leaf
move_onto-requires-clause-leaf g c =
    let taken : c.in_ok-move_to.field-0 ≡ false = search rules in
    let whole : c.self.inside.whole ≡ true = search rules in
    let sound = subst (λ s. IsSound s) (sym (stays g (goal.at.move_onto-requires-clause-leaf g c).In_ok-move_to taken)) (sound_of _ _ c.self.view_is _ _ whole c.self.invariant.0) in
    replaced_is_leaf c.move_to.new.self c.in-Some.moved c.in-Some-named-2.there sound c.in_ok-check_replace.ensures

pub move_onto-requires-clause-sound : goal.move_onto-requires-clause-sound
move_onto-requires-clause-sound g c =
    let p = goal.at.move_onto-requires-clause-sound g c in
    let whole : c.self.inside.whole ≡ true = search rules in
    let sound = subst (λ s. IsSound s) (found g p.In_ok-to).same (sound_of _ _ c.self.view_is _ _ whole c.self.invariant.0) in
    rename_keeps_sound None c.args.path.now c.args.path_to.now c.args.self.now _ sound (rename_replaced c.in-Some-named-2.there (gives_way g p.After-check_replace (found g p.In_ok-to)) c.in_ok-check_replace.ensures)

pub returns : goal.returns
returns g c =
    let p = goal.at.returns g c in
    rename_replaced c.in-Some-named-2.there (gives_way g p.After-check_replace (found g p.In_ok-to)) c.in_ok-check_replace.ensures ∙ ap Ok (sym c.in_ok-move_onto.ensures)
