use Rattle.std.proofs.Common.{◌≡◌, ℕ, List, ◌∷◌, [], Some, None, sym, ap, ◌∙◌, slice_get}
use Rattle.send_model.specs.Map.{named_cmp}
use Rattle.shared_map.specs.Sought.{entries_above}
use Rattle.path_index.specs.Places.{places_of}
use Rattle.path_index.proofs.Above.{all_names_above}
use Rattle.plain_stands.proofs.Passed.{Names, next_is, fewer, no_more, skips_other, takes_own}
use Rattle.plain_stands.proofs.naming.first_name.Goals as goal

pub loop-next-init : goal.loop-next-init
loop-next-init g c =
    ap (λ (m : Names). places_of m c.args.ino)
    (all_names_above c.args.tree.now.names c.requires.lawful_names)

pub returns-then-there-ino : goal.returns-then-there-ino
returns-then-there-ino g c =
    let left = next_is c.args.tree.now.names c.requires.sound.names_in_order
    (c.loop-next.directory, c.loop-next.last.now)
    ((c.in-Some.next, c.in-Some.name.now), c.in-Some.there) (sym c.in-Some.ensures) in
    ap (λ (ps : List (ℕ × List ℕ)). slice_get ps 0)
    (sym (sym c.loop-next.invariant ∙ ap (λ (m : Names). places_of m c.args.ino) left
    ∙ takes_own (entries_above named_cmp
    (c.in-Some.next, c.in-Some.name.now) c.args.tree.now.names) c.args.ino
    ((c.in-Some.next, c.in-Some.name.now), c.in-Some.there) c.if-there-ino.true))

pub loop-next-smaller : goal.loop-next-smaller
loop-next-smaller g c =
    fewer c.args.tree.now.names c.requires.sound.names_in_order
    (c.loop-next.directory, c.loop-next.last.now)
    ((c.in-Some.next, c.in-Some.name.now), c.in-Some.there) (sym c.in-Some.ensures)

pub loop-next-preserved : goal.loop-next-preserved
loop-next-preserved g c =
    let left = next_is c.args.tree.now.names c.requires.sound.names_in_order
    (c.loop-next.directory, c.loop-next.last.now)
    ((c.in-Some.next, c.in-Some.name.now), c.in-Some.there) (sym c.in-Some.ensures) in
    sym (skips_other
    (entries_above named_cmp
    (c.in-Some.next, c.in-Some.name.now) c.args.tree.now.names) c.args.ino
    ((c.in-Some.next, c.in-Some.name.now), c.in-Some.there) c.if-there-ino.false)
    ∙ ap (λ (m : Names). places_of m c.args.ino) (sym left) ∙ c.loop-next.invariant

pub returns : goal.returns
returns g c =
    ap (λ (ps : List (ℕ × List ℕ)). slice_get ps 0)
    (ap (λ (m : Names). places_of m c.args.ino)
    (sym (no_more c.args.tree.now.names (c.loop-next.directory, c.loop-next.last.now)
    (sym c.in_default.ensures))) ∙ c.loop-next.invariant)
