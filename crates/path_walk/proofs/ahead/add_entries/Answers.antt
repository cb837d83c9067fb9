use Rattle.std.proofs.Common.{sym, ap, subst, ◌∙◌, ◌≡◌, ◌≤◌, ◌<◌, length, ℕ, List, Option, Some, None}
use Rattle.send_model.specs.Path.{longest_path}
use Rattle.send_model.specs.Map.{Map, bytes_cmp, with_value}
use Rattle.send_model.specs.Subvolume.{path_below}
use Rattle.path_walk.specs.Ahead.{BelowEnd, Grows}
use Rattle.path_walk.proofs.Adding.{nothing_added, none_up_to, added_grows, added_has, skipped_has, fewer_left, all_up_to, none_left_up_to}
use Rattle.path_walk.proofs.ahead.add_entries.Goals as goal

path_is : (front name path : List ℕ) (o : Option (List ℕ)) → BelowEnd front name o → o ≡ Some path → (path ≡ path_below front name) × (length path ≤ longest_path)
path_is front name path o e is = subst (λ (q : Option (List ℕ)). BelowEnd front name q) is e

too_long : (front name : List ℕ) (o : Option (List ℕ)) → BelowEnd front name o → o ≡ None → longest_path < length (path_below front name)
too_long front name o e is = subst (λ (q : Option (List ℕ)). BelowEnd front name q) is e

pub loop-next-init : goal.loop-next-init
loop-next-init g c = record {
  grows = nothing_added c.args.tree.now c.requires.lawful c.args.front.now c.args.directory c.requires.leads c.args.ahead.now;
  has = none_up_to c.args.tree.now c.requires.lawful c.args.front.now c.args.directory c.requires.leads c.args.ahead.now;
}

pub returns-then-next-directory-clause-grows : goal.returns-then-next-directory-clause-grows
returns-then-next-directory-clause-grows g c = c.loop-next.invariant.grows

pub returns-then-next-directory-clause-entries : goal.returns-then-next-directory-clause-entries
returns-then-next-directory-clause-entries g c =
    all_up_to c.args.tree.now c.requires.lawful c.args.front.now c.args.directory c.requires.leads c.loop-next.last.now c.in-Some.next c.in-Some.name.now c.in-Some.ino (sym c.in-Some.ensures) c.if-next-directory.true
    c.loop-next.ahead c.loop-next.invariant.has

pub returns-in_err-path-clause-grows : goal.returns-in_err-path-clause-grows
returns-in_err-path-clause-grows g c = c.loop-next.invariant.grows

pub returns-in_err-insert-clause-grows : goal.returns-in_err-insert-clause-grows
returns-in_err-insert-clause-grows g c =
    subst (λ (m : Map (List ℕ) ℕ). Grows c.args.tree.now c.args.front.now c.args.directory c.args.ahead.now m) (sym c.in_err-insert.ensures.err) c.loop-next.invariant.grows

pub loop-next-smaller-in_ok-insert : goal.loop-next-smaller-in_ok-insert
loop-next-smaller-in_ok-insert g c =
    fewer_left c.args.tree.now c.requires.lawful c.args.front.now c.args.directory c.requires.leads c.loop-next.last.now c.in-Some.next c.in-Some.name.now c.in-Some.ino (sym c.in-Some.ensures) c.if-next-directory.false

pub loop-next-preserved-in_ok-insert : goal.loop-next-preserved-in_ok-insert
loop-next-preserved-in_ok-insert g c =
    let p = path_is c.args.front.now c.in-Some.name.now c.in-Some-2.path c.in_ok-path.field-0 c.in_ok-path.ensures c.in-Some-2.is in
    let put : c.insert.new.self ≡ with_value bytes_cmp c.in-Some-2.path c.in-Some.ino c.loop-next.ahead =
    c.in_ok-insert.ensures.ok ∙ ap (λ (q : List ℕ). with_value bytes_cmp q c.in-Some.ino c.loop-next.ahead) (c.new.ensures ∙ c.as_slice.ensures.bytes) in
    record {
      grows = added_grows c.args.tree.now c.requires.lawful c.args.front.now c.args.directory c.requires.leads c.loop-next.last.now c.in-Some.next c.in-Some.name.now c.in-Some.ino (sym c.in-Some.ensures) c.if-next-directory.false
          c.args.ahead.now c.loop-next.ahead c.insert.new.self c.in-Some-2.path c.loop-next.invariant.grows p put;
      has = added_has c.args.tree.now c.requires.lawful c.args.front.now c.args.directory c.requires.leads c.loop-next.last.now c.in-Some.next c.in-Some.name.now c.in-Some.ino (sym c.in-Some.ensures) c.if-next-directory.false
          c.loop-next.ahead c.insert.new.self c.in-Some-2.path c.loop-next.invariant.has p put;
    }

pub loop-next-smaller : goal.loop-next-smaller
loop-next-smaller g c =
    fewer_left c.args.tree.now c.requires.lawful c.args.front.now c.args.directory c.requires.leads c.loop-next.last.now c.in-Some.next c.in-Some.name.now c.in-Some.ino (sym c.in-Some.ensures) c.if-next-directory.false

pub loop-next-preserved : goal.loop-next-preserved
loop-next-preserved g c = record {
  grows = c.loop-next.invariant.grows;
  has = skipped_has c.args.tree.now c.requires.lawful c.args.front.now c.args.directory c.requires.leads c.loop-next.last.now c.in-Some.next c.in-Some.name.now c.in-Some.ino (sym c.in-Some.ensures) c.if-next-directory.false
      c.loop-next.ahead c.loop-next.invariant.has (too_long c.args.front.now c.in-Some.name.now c.in_ok-path.field-0 c.in_ok-path.ensures c.in_default-2.is);
}

pub returns-clause-grows : goal.returns-clause-grows
returns-clause-grows g c = c.loop-next.invariant.grows

pub returns-clause-entries : goal.returns-clause-entries
returns-clause-entries g c =
    none_left_up_to c.args.tree.now c.requires.lawful c.args.front.now c.args.directory c.requires.leads c.loop-next.last.now (sym c.in_default.ensures) c.loop-next.ahead c.loop-next.invariant.has
