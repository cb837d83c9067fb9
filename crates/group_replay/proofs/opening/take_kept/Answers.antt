use Rattle.std.specs.Prelude.{◌≡◌, ℕ, ◌+◌, ◌-◌, ◌<◌, ◌≤◌, Bool, true, false, List, ◌∷◌, ◌++◌, length, take, drop, slice_index_or, Option, Some}
use Rattle.std.proofs.lemmas.Result.{IfOk-weaker}
use Rattle.std.proofs.Common.{rules, ap, subst, ◌∙◌, arith, length-take, length-drop}
use Rattle.std.proofs.lemmas.List.{take_at}
use Rattle.group_replay.specs.declared.kinds.Kind.TheVariants as kind
use Rattle.group_replay.specs.declared.kinds.Tag.{Tag}
use Rattle.group_replay.specs.Contents.{FindsKind, seal_len, in_front, TakesBehind}
use Rattle.group_replay.proofs.GroupContents.{long_bad, group_taken, byte_first}
use Rattle.group_replay.proofs.KeptParts.{all_further}
use Rattle.group_replay.proofs.opening.take_kept.Given.{Over}
use Rattle.group_replay.proofs.opening.take_kept.Goals.{In_ok-read, In-Some}
use Rattle.group_replay.proofs.opening.take_kept.Goals as goal

seal_few : (is_sealed : Bool) → seal_len is_sealed ≤ 4
seal_few true = omega arith
seal_few false = omega arith

-- what was read
module _ (g : Over) (c : In_ok-read g) (tells : g.D.Disk.tells) where
  size : length c.read.new.buf ≡ c.min-count.result
  size = search rules

  long : c.args.group.len ≤ length (drop c.args.group.at (g.D.Disk.seen c.args.disk.now))
  long = omega (arith, c.requires.within, c.requires.fits, g.met.D.Disk.sized c.args.disk.now tells, length-drop c.args.group.at (g.D.Disk.seen c.args.disk.now))

  whole : length (take c.args.group.len (drop c.args.group.at (g.D.Disk.seen c.args.disk.now))) ≡ c.args.group.len
  whole = length-take c.args.group.len (drop c.args.group.at (g.D.Disk.seen c.args.disk.now)) ∙ omega (arith, long)

  front : c.read.new.buf ≡ take c.min-count.result (drop c.args.group.at (g.D.Disk.seen c.args.disk.now))
  front = c.in_ok-read.ensures.bytes tells ∙ ap (λ (n : ℕ). take n (drop c.args.group.at (g.D.Disk.seen c.args.disk.now))) size

  byte : take c.args.group.len (drop c.args.group.at (g.D.Disk.seen c.args.disk.now))
      ≡ slice_index_or (c.read.new.buf ++ drop c.min-count.result c.args.window.now) 0 0 ∷ drop 1 (take c.args.group.len (drop c.args.group.at (g.D.Disk.seen c.args.disk.now)))
  byte =
      byte_first c.read.new.buf (drop c.min-count.result c.args.window.now) (drop c.args.group.at (g.D.Disk.seen c.args.disk.now)) c.min-count.result c.args.group.len front
      (omega (arith, c.min-count.ensures, c.requires.some)) c.requires.some long

-- and what its first byte says
module _ (g : Over) (c : In-Some g) where
  found : FindsKind c.args.log.now.format (slice_index_or (c.read.new.buf ++ drop c.min-count.result c.args.window.now) 0 0) (Some c.in-Some.tag)
  found =
      subst (λ (n : ℕ). FindsKind n (slice_index_or (c.read.new.buf ++ drop c.min-count.result c.args.window.now) 0 0) (Some c.in-Some.tag)) c.format.ensures
      (subst (λ (o : Option Tag). FindsKind c.format.result (slice_index_or (c.read.new.buf ++ drop c.min-count.result c.args.window.now) 0 0) o) c.in-Some.is c.kind_of.ensures.found)

pub returns-then-eq-clause-taken : goal.returns-then-eq-clause-taken
returns-then-eq-clause-taken g c tells =
    let at = goal.at.returns-then-eq-clause-taken g c in
    let group = c.args.group in
    let tag = c.in-Some.tag in
    let body = take group.len (drop group.at (g.D.Disk.seen c.args.disk.now)) in
    let first = slice_index_or (c.read.new.buf ++ drop c.min-count.result c.args.window.now) 0 0 in
    let fits : 1 + seal_len tag.is_sealed ≤ length body = omega (arith, c.if-group-seal_len.false, c.seal_len.ensures, whole g at.In_ok-read tells) in
    let same = (c.read.ensures.same tells).seen in
    IfOk-weaker c.take_body.result _ _
    (λ t took. group_taken c.args.log.now.format group.at first body c.args.core.now c.take_body.new.core (byte g at.In_ok-read tells) tag (found g at.In-Some) t fits
    (subst (λ (l : List ℕ). TakesBehind tag group.at (take group.len (drop group.at l)) c.args.core.now c.take_body.new.core t) same took))
    (c.take_body.ensures.taken tells)

pub returns-then-group-clause-taken : goal.returns-then-group-clause-taken
returns-then-group-clause-taken g c tells =
    let at = goal.at.returns-then-group-clause-taken g c in
    let group = c.args.group in
    let tag = c.in-Some.tag in
    let body = take group.len (drop group.at (g.D.Disk.seen c.args.disk.now)) in
    let first = slice_index_or (c.read.new.buf ++ drop c.min-count.result c.args.window.now) 0 0 in
    let size = whole g at.In_ok-read tells in
    let fits : 1 + seal_len tag.is_sealed ≤ length body = omega (arith, c.if-group-seal_len.false, c.seal_len.ensures, size) in
    let other : tag.kind ≡ kind.Body → ⊥ = search rules in
    let few : seal_len tag.is_sealed ≤ 4 = seal_few tag.is_sealed in
    let front : List ℕ = in_front tag.is_sealed body in
    let long : 262_154 < length (drop 1 front) = omega (arith, c.if-group.true, size, few, length-drop 1 front, length-take (length body - seal_len tag.is_sealed) body) in
    group_taken c.args.log.now.format group.at first body c.args.core.now c.args.core.now (byte g at.In_ok-read tells) tag (found g at.In-Some) false fits
    (λ right. long_bad tag.kind group.at (drop 1 front) c.args.core.now other c.catalog-names.ensures.named long)

pub returns-clause-taken : goal.returns-clause-taken
returns-clause-taken g c tells =
    let at = goal.at.returns-clause-taken g c in
    let group = c.args.group in
    let tag = c.in-Some.tag in
    let seen = g.D.Disk.seen c.args.disk.now in
    let body = take group.len (drop group.at seen) in
    let first = slice_index_or (c.read.new.buf ++ drop c.min-count.result c.args.window.now) 0 0 in
    let count = c.min-count.result in
    let fits : 1 + seal_len tag.is_sealed ≤ length body = omega (arith, c.if-group-seal_len.false, c.seal_len.ensures, whole g at.In_ok-read tells) in
    let all : count ≡ group.len = omega (arith, c.min-count.ensures, c.if-group.false) in
    let same : take count (c.read.new.buf ++ drop count c.args.window.now) ≡ body =
    take_at c.read.new.buf (drop count c.args.window.now) count (size g at.In_ok-read tells) ∙ front g at.In_ok-read tells ∙ ap (λ (n : ℕ). take n (drop group.at seen)) all in
    group_taken c.args.log.now.format group.at first body c.args.core.now c.take_short.new.core (byte g at.In_ok-read tells) tag (found g at.In-Some) c.in_ok-take_short.field-0 fits
    (subst (λ (l : List ℕ). TakesBehind tag group.at l c.args.core.now c.take_short.new.core c.in_ok-take_short.field-0) same (c.in_ok-take_short.ensures.taken group.at))

pub returns-clause-kept : goal.returns-clause-kept
returns-clause-kept g c all taken =
    all_further c.args.group.at (c.args.group.at + c.args.group.len) (omega arith) c.take_short.new.core (c.in_ok-take_short.ensures.kept c.args.group.at all taken)
