use Rattle.std.proofs.Common.{◌≡◌, ℕ, List, ◌∷◌, [], Some, None, Option, Bool, true, false, refl, sym, ap, subst, ◌∙◌}
use Rattle.std.specs.Prelude.{cond, ◌==◌}
use Rattle.std.proofs.lemmas.Bool.{eqb-true, eqb-false}
use Rattle.send_model.specs.Map.{named_cmp}
use Rattle.send_model.specs.Path.{path_names}
use Rattle.send_model.specs.Subvolume.{Subvolume, root, is_nameable, named, walk, walk_names}
use Rattle.send_model.specs.Laws.{FirstPathsAreLeast}
use Rattle.shared_map.specs.Sought.{entries_above}
use Rattle.path_index.specs.Places.{places_of}
use Rattle.path_index.specs.Ways.{EndsAt, HasWay}
use Rattle.path_index.proofs.Above.{all_names_above}
use Rattle.path_index.proofs.Leasts.{HasNone, end_walks, nameable, not_nameable}
use Rattle.plain_stands.proofs.Passed.{Names, next_is, fewer, leads, no_more, skips_other, takes_own}
use Rattle.plain_stands.proofs.naming.is_nameable.Goals as goal

root_nameable : {C : Type 0} (s : Subvolume C) → FirstPathsAreLeast s → (ino : ℕ) → ino ≡ root
    → is_nameable s ino ≡ true
unfolding walk path_names walk_names
root_nameable s law ino e =
    subst (λ (n : ℕ). is_nameable s n ≡ true) (sym e) (nameable s law root [] refl)

-- A name that ends no path to the inode.
passed : {C : Type 0} (s : Subvolume C) (ino : ℕ) (e : (ℕ × List ℕ) × ℕ) (rest : Names)
    → (e.1 ≡ ino → (other : List ℕ) → EndsAt s e.0 other → ⊥) → HasNone s (places_of rest ino)
    → HasNone s (places_of (e ∷ rest) ino)
passed s ino e rest none all = one (e.1 == ino) refl
  where
    one : (b : Bool) → (e.1 == ino) ≡ b → HasNone s (places_of (e ∷ rest) ino)
    one true t = let same =
        eqb-true e.1 ino t in subst (HasNone s) (sym (takes_own rest ino e same)) (none same, all)
    one false f = subst (HasNone s) (sym (skips_other rest ino e (eqb-false e.1 ino f))) all

pub returns-then-ino-eq-ROOT : goal.returns-then-ino-eq-ROOT
returns-then-ino-eq-ROOT g c =
    let law = c.first_paths_are_least.ensures.least c.args.tree.now c.requires in
    sym (root_nameable c.args.tree.now law c.args.ino c.if-ino-eq-ROOT.true)

pub loop-next-init : goal.loop-next-init
loop-next-init g c =
    subst (λ (m : Names). HasNone c.args.tree.now (places_of m c.args.ino)
    → HasNone c.args.tree.now (places_of c.args.tree.now.names c.args.ino))
    (sym (all_names_above c.args.tree.now.names c.requires.lawful_names)) (λ all. all)

pub ends_path-requires-clause-there : goal.ends_path-requires-clause-there
ends_path-requires-clause-there g c =
    leads c.args.tree.now.names c.requires.sound.names_in_order
    (c.loop-next.directory, c.loop-next.last.now)
    ((c.in-Some.next, c.in-Some.name.now), c.in-Some.there) (sym c.in-Some.ensures)

pub returns-then-ends_path : goal.returns-then-ends_path
returns-then-ends_path g c =
    let law = c.first_paths_are_least.ensures.least c.args.tree.now c.requires in
    let there = leads c.args.tree.now.names c.requires.sound.names_in_order
    (c.loop-next.directory, c.loop-next.last.now)
    ((c.in-Some.next, c.in-Some.name.now), c.in-Some.there) (sym c.in-Some.ensures) in
    let way = c.ends_path.ensures.yes c.if-ends_path.true in
    let own : named c.args.tree.now c.in-Some.next c.in-Some.name.now ≡ Some c.args.ino =
    there ∙ ap (λ (n : ℕ). Some n) way.0 in
    sym (nameable c.args.tree.now law c.args.ino way.1.0
    (end_walks c.args.tree.now (c.in-Some.next, c.in-Some.name.now) c.args.ino way.1.0 way.1.1.ends
    (c.requires.sound.in_directory c.in-Some.next c.in-Some.name.now c.args.ino own) own))

pub loop-next-smaller : goal.loop-next-smaller
loop-next-smaller g c =
    fewer c.args.tree.now.names c.requires.sound.names_in_order
    (c.loop-next.directory, c.loop-next.last.now)
    ((c.in-Some.next, c.in-Some.name.now), c.in-Some.there) (sym c.in-Some.ensures)

pub loop-next-preserved : goal.loop-next-preserved
loop-next-preserved g c =
    let left = next_is c.args.tree.now.names c.requires.sound.names_in_order
    (c.loop-next.directory, c.loop-next.last.now)
    ((c.in-Some.next, c.in-Some.name.now), c.in-Some.there) (sym c.in-Some.ensures) in
    λ all. c.loop-next.invariant
    (subst (λ (m : Names). HasNone c.args.tree.now (places_of m c.args.ino)) (sym left)
    (passed c.args.tree.now c.args.ino ((c.in-Some.next, c.in-Some.name.now), c.in-Some.there)
    (entries_above named_cmp (c.in-Some.next, c.in-Some.name.now) c.args.tree.now.names)
    (c.ends_path.ensures.no c.if-ends_path.false) all))

pub returns : goal.returns
returns g c =
    let law = c.first_paths_are_least.ensures.least c.args.tree.now c.requires in
    sym (not_nameable c.args.tree.now law c.args.ino c.if-ino-eq-ROOT.false
    (c.loop-next.invariant
    (subst (λ (m : Names). HasNone c.args.tree.now (places_of m c.args.ino))
    (sym (no_more c.args.tree.now.names (c.loop-next.directory, c.loop-next.last.now)
    (sym c.in_default.ensures))) tt)))
