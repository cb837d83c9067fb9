use Rattle.std.proofs.Common.{◌≡◌, ◌⊎◌, ℕ, ◌+◌, ◌-◌, ◌%◌, ◌<◌, ◌≤◌, Bool, true, false, List, map, length, drop, Option, None, Some, refl, sym, ap, subst, ◌∙◌, arith, inl, inr}
use Rattle.std.proofs.lemmas.Bool.{true≢false, false≢true}
use Rattle.extent_map.specs.Cells.{cells_between}
use Rattle.extent_map.proofs.CellLists.{length-between}
use Rattle.send_model.specs.Clone.{cells_of}
use Rattle.send_model.specs.Subvolume.{is_file, is_nameable}
use Rattle.standing_model.specs.Standing.{begin_with}
use Rattle.provenance.specs.declared.trace.Trace.{Trace}
use Rattle.plain_stands.specs.Tags.{tagged}
use Rattle.plain_stands.specs.Stands.{stands_in, may_end}
use Rattle.plain_stands.proofs.Standing.{never_so, stands_says, so_stands, next_none, none_left, not_ends, no_file, cells_there, ends_where, Says}
use Rattle.plain_stands.proofs.search.stand_in.Goals as goal
use Rattle.plain_stands.proofs.search.stand_in.Goals.{then-ino-dest-via-then-ino-dest, then-ino-dest-via-else-ino-dest+then-not-is_file, then-ino-dest-via-else-ino-dest+else-not-is_file+then-not-is_nameable}
use Rattle.plain_stands.proofs.search.stand_in.Goals.{else-may_end-via-then-may_end+else-begins_with, else-may_end-via-else-may_end}

pub returns-then-ino-dest : goal.returns-then-ino-dest
returns-then-ino-dest c =
    λ byte at. never_so
    (stands_in byte c.args.tree.now c.args.dest
    (cells_between c.args.from c.args.len c.args.contents.now) c.args.ino at) (λ e.
    let l = length-between c.args.from c.args.len c.args.contents.now c.requires.within in
    let says = stands_says byte c.args.tree.now c.args.dest
    (cells_between c.args.from c.args.len c.args.contents.now) c.args.ino
    (omega (arith, l, c.requires.some)) at e in
    elim c.then-ino-dest.branch [
      | then-ino-dest-via-then-ino-dest w ↦ says.other w.if-ino-dest.true
      | then-ino-dest-via-else-ino-dest+then-not-is_file w ↦
          false≢true (sym w.if-not-is_file.true ∙ w.is_file.ensures ∙ says.file)
      | then-ino-dest-via-else-ino-dest+else-not-is_file+then-not-is_nameable w ↦
          false≢true (sym w.if-not-is_nameable.true ∙ w.is_nameable.ensures ∙ says.path)
    ])

pub returns-in_default : goal.returns-in_default
returns-in_default c =
    λ byte at. never_so
    (stands_in byte c.args.tree.now c.args.dest
    (cells_between c.args.from c.args.len c.args.contents.now) c.args.ino at) (λ e.
    let l = length-between c.args.from c.args.len c.args.contents.now c.requires.within in
    let says = stands_says byte c.args.tree.now c.args.dest
    (cells_between c.args.from c.args.len c.args.contents.now) c.args.ino
    (omega (arith, l, c.requires.some)) at e in
    false≢true (sym (no_file c.args.tree.now c.args.ino (sym c.in_default.ensures)) ∙ says.file))

pub returns-then-begins_with : goal.returns-then-begins_with
returns-then-begins_with c = λ byte.
    let l = length-between c.args.from c.args.len c.args.contents.now c.requires.within in
    let cells : c.contents-there.result.now ≡ cells_of c.args.tree.now c.args.ino =
    c.contents-there.ensures
    ∙ sym (cells_there c.args.tree.now c.args.ino c.in-Some.inode.now
    (sym c.in-Some.ensures)) in
    let size : c.size-size.result ≡ length (cells_of c.args.tree.now c.args.ino) =
    c.size-size.ensures.count ∙ ap length cells in (
      so_stands byte c.args.tree.now c.args.dest
          (cells_between c.args.from c.args.len c.args.contents.now) c.args.ino c.loop-at.at
          c.loop-at.invariant.0
          (sym c.is_file.ensures ∙ c.if-not-is_file.false)
          (sym c.is_nameable.ensures ∙ c.if-not-is_nameable.false) c.if-ino-dest.false
          (ending (length (cells_between c.args.from c.args.len c.args.contents.now))
          (length (cells_of c.args.tree.now c.args.ino)) l size
          (ends_where c.args.len c.loop-at.at c.size-size.result c.loop-at-test.true
          (sym c.if-may_end.ensures)))
          (ap (λ (xs : List (Option Trace)). begin_with (map (tagged byte) (drop c.loop-at.at xs))
          (map (tagged byte) (cells_between c.args.from c.args.len c.args.contents.now)))
          (sym cells) ∙ sym (c.if-begins_with.ensures byte)),
      c.loop-at.invariant.1 byte,
    )
  where
    ending : (n m : ℕ) → n ≡ c.args.len → c.size-size.result ≡ m
        → (c.args.len ≡ 4096) ⊎ (c.loop-at.at + c.args.len ≡ c.size-size.result)
        → (n ≡ 4096) ⊎ (c.loop-at.at + n ≡ m)
    ending n m p q (inl e) = inl (p ∙ e)
    ending n m p q (inr e) = inr (omega (arith, p, q, e))

pub loop-at-preserved : goal.loop-at-preserved
loop-at-preserved c =
    let l = length-between c.args.from c.args.len c.args.contents.now c.requires.within in
    let cells : c.contents-there.result.now ≡ cells_of c.args.tree.now c.args.ino =
    c.contents-there.ensures
    ∙ sym (cells_there c.args.tree.now c.args.ino c.in-Some.inode.now
    (sym c.in-Some.ensures)) in
    let size : c.size-size.result ≡ length (cells_of c.args.tree.now c.args.ino) =
    c.size-size.ensures.count ∙ ap length cells in
    let some : 0 < length (cells_between c.args.from c.args.len c.args.contents.now) =
    omega (arith, l, c.requires.some) in
    let whole = c.loop-at.invariant.0 in (
      omega (arith, whole),
      λ byte. next_none byte c.args.tree.now c.args.dest
          (cells_between c.args.from c.args.len c.args.contents.now) c.args.ino some c.loop-at.at
          whole (c.loop-at.invariant.1 byte) (λ says.
          elim c.else-may_end.branch [
            | else-may_end-via-then-may_end+else-begins_with w ↦
                false≢true (sym w.if-begins_with.false ∙ w.begins_with.ensures byte
                ∙ ap (λ (xs : List (Option Trace)). begin_with
                (map (tagged byte) (drop c.loop-at.at xs))
                (map (tagged byte)
                (cells_between c.args.from c.args.len c.args.contents.now))) cells
                ∙ says.begins)
            | else-may_end-via-else-may_end w ↦
                not_ends byte c.args.tree.now c.args.dest
                (cells_between c.args.from c.args.len c.args.contents.now) c.args.ino some
                c.loop-at.at
                (misses (length (cells_between c.args.from c.args.len c.args.contents.now))
                (length (cells_of c.args.tree.now c.args.ino)) l size
                (sym c.may_end.ensures ∙ w.if-may_end.false)) says
          ]),
    )
  where
    misses : (n m : ℕ) → n ≡ c.args.len → c.size-size.result ≡ m
        → may_end c.args.len (c.size-size.result - c.loop-at.at) ≡ false
        → may_end n (m - c.loop-at.at) ≡ false
    misses n m p q e =
        ap (λ (k : ℕ). may_end k (m - c.loop-at.at)) p
        ∙ ap (λ (k : ℕ). may_end c.args.len (k - c.loop-at.at)) (sym q) ∙ e

pub returns : goal.returns
returns c = λ byte.
    let l = length-between c.args.from c.args.len c.args.contents.now c.requires.within in
    let cells : c.contents-there.result.now ≡ cells_of c.args.tree.now c.args.ino =
    c.contents-there.ensures
    ∙ sym (cells_there c.args.tree.now c.args.ino c.in-Some.inode.now
    (sym c.in-Some.ensures)) in
    let size : c.size-size.result ≡ length (cells_of c.args.tree.now c.args.ino) =
    c.size-size.ensures.count ∙ ap length cells in
    let past = c.loop-at-test.false in
    none_left byte c.args.tree.now c.args.dest
    (cells_between c.args.from c.args.len c.args.contents.now) c.args.ino
    (omega (arith, l, c.requires.some)) c.loop-at.at (omega (arith, size, past))
    (c.loop-at.invariant.1 byte)
