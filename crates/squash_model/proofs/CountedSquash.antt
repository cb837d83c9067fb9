-- What squashed commands carry: the bytes that stand, the same clones, and the same keys; and where
-- all stands they are the commands.
use Rattle.std.specs.Prelude.{◌≡◌, ℕ, zero, suc, ◌+◌, ◌-◌, ◌<◌, ◌≤◌, ◌==◌, Bool, true, false, not, ◌&&◌, List, [], ◌∷◌, ◌++◌, map, length, Option, None, nat_lt, if◌then◌else◌}
use Rattle.std.specs.List.{count_by, sum_by, range_with_len, AllByRecursion}
use Rattle.std.proofs.Common.{refl, sym, ap, ap₂, ◌∙◌, arith}
use Rattle.std.proofs.lemmas.Bool.{and_parts}
use Rattle.std.proofs.lemmas.List.Sums.{sum_by-append, sum_by-cons}
use Rattle.send_model.specs.Command.{Command, Write, Truncate}
use Rattle.send_model.specs.Store.{Key, Head, head_of, State}
use Rattle.send_model.specs.Order.{onto_heads, heads_of}
use Rattle.send_model.specs.Receive.{bytes_of}
use Rattle.send_model.specs.Outside.{keys_named, all_keys_named}
use Rattle.send_model.specs.Counts.{literal, clones, is_clone, is_end, streams}
use Rattle.squash_model.specs.Squashed.{Birth, born_step, Stretch, in_front, stretches, all_stand, write_of, lengthened, write_commands, size_at, squash_for, squashed_from}

abbrev len_of : Command → ℕ
len_of c = length (bytes_of c)

abbrev carried : List Command → ℕ
carried cs = sum_by len_of cs

abbrev pub one_if : Bool → ℕ
one_if b = if b then 1 else 0

-- How many of so many births from one on stand.
abbrev pub how_many : (ℕ → Bool) → ℕ → ℕ → ℕ
how_many standing count n = count_by standing (range_with_len count n)

module _ (standing : ℕ → Bool) where
  many_first : (count n : ℕ) → how_many standing count (suc n) ≡ one_if (standing count) + how_many standing (count + 1) n
  many_first count n = sum_by-cons (λ b. one_if (standing b)) count (range_with_len (count + 1) n)

  pub many_both : (count m n : ℕ) → how_many standing count (m + n) ≡ how_many standing count m + how_many standing (count + m) n
  many_both count zero n =
      let a : 0 + n ≡ n = omega arith in
      let b : count + 0 ≡ count = omega arith in
      let c : how_many standing count 0 ≡ 0 = refl in
      ap (how_many standing count) a ∙ ap (λ (k : ℕ). how_many standing k n) (sym b) ∙ (omega (arith, c))
  many_both count (suc m) n =
      let a : suc m + n ≡ suc (m + n) = omega arith in
      let b : count + 1 + m ≡ count + suc m = omega arith in
      let first = many_first count (m + n) in
      let more = many_both (count + 1) m n in
      let last = many_first count m in
      let moved : how_many standing (count + 1 + m) n ≡ how_many standing (count + suc m) n = ap (λ (k : ℕ). how_many standing k n) b in
      ap (how_many standing count) a ∙ (omega (arith, first, more, last, moved))

  -- ---- a WRITE

  front_carried : (path : List ℕ) (at b : ℕ) (ss : List Stretch) → carried (map (write_of path) (in_front at b ss)) ≡ 1 + carried (map (write_of path) ss)
  front_carried path at b [] = refl
  front_carried path at b (first ∷ rest) = one (first.at == at + 1)
    where
      one : (t : Bool) → carried (map (write_of path) (if t then record { at = at; bytes = b ∷ first.bytes } ∷ rest else record { at = at; bytes = b ∷ [] } ∷ first ∷ rest))
          ≡ 1 + carried (map (write_of path) (first ∷ rest))
      one true =
          let x = sum_by-cons len_of (Write path at (b ∷ first.bytes)) (map (write_of path) rest) in
          let y = sum_by-cons len_of (write_of path first) (map (write_of path) rest) in
          omega (arith, x, y)
      one false = sum_by-cons len_of (Write path at (b ∷ [])) (map (write_of path) (first ∷ rest))

  stretches_carried : (path : List ℕ) (count at : ℕ) (bytes : List ℕ) → carried (map (write_of path) (stretches standing count at bytes)) ≡ how_many standing count (length bytes)
  stretches_carried path count at [] = refl
  stretches_carried path count at (b ∷ bytes) = one (standing count) (stretches_carried path (count + 1) (at + 1) bytes) ∙ sym (many_first count (length bytes))
    where
      rest : List Stretch
      rest = stretches standing (count + 1) (at + 1) bytes

      one : (t : Bool) → carried (map (write_of path) rest) ≡ how_many standing (count + 1) (length bytes)
          → carried (map (write_of path) (if t then in_front at b rest else rest)) ≡ one_if t + how_many standing (count + 1) (length bytes)
      one true more = front_carried path at b rest ∙ ap (λ (n : ℕ). 1 + n) more
      one false more = more ∙ (omega arith)

  all_many : (count : ℕ) (bytes : List ℕ) → all_stand standing count bytes ≡ true → how_many standing count (length bytes) ≡ length bytes
  all_many count [] h = refl
  all_many count (b ∷ bytes) h =
      let p = and_parts (standing count) (all_stand standing (count + 1) bytes) h in
      let here : ◌≡◌ {A = ℕ} (one_if (standing count)) 1 = ap one_if p.0 in
      let more = all_many (count + 1) bytes p.1 in
      let first = many_first count (length bytes) in
      omega (arith, here, more, first)

  lengthened_carried : (last : Bool) (size end : ℕ) (path : List ℕ) → carried (lengthened last size end path) ≡ 0
  lengthened_carried last size end path = one (nat_lt size end && not last)
    where
      one : (t : Bool) → carried (if t then Truncate end path ∷ [] else []) ≡ 0
      one true = refl
      one false = refl

  write_carried : (count size : ℕ) (path : List ℕ) (offset : ℕ) (bytes : List ℕ) → carried (write_commands standing count size path offset bytes) ≡ how_many standing count (length bytes)
  write_carried count size path offset bytes = one (all_stand standing count bytes) refl
    where
      last : Bool
      last = standing (count + length bytes - 1)

      one : (t : Bool) → all_stand standing count bytes ≡ t
          → carried (if t then Write path offset bytes ∷ [] else map (write_of path) (stretches standing count offset bytes) ++ lengthened last size (offset + length bytes) path)
          ≡ how_many standing count (length bytes)
      one true h = sum_by-cons len_of (Write path offset bytes) [] ∙ (let more = all_many count bytes h in let none : carried [] ≡ 0 = refl in omega (arith, more, none))
      one false h =
          sum_by-append len_of (map (write_of path) (stretches standing count offset bytes)) (lengthened last size (offset + length bytes) path)
          ∙ (omega (arith, stretches_carried path count offset bytes, lengthened_carried last size (offset + length bytes) path))

  command_carried : (count : ℕ) (state : State Birth) (c : Command) → carried (squash_for standing count state c) ≡ how_many standing count (length (bytes_of c))
  command_carried count state (Write path offset bytes) = write_carried count (size_at state path) path offset bytes
  command_carried count state c = refl

  pub command_literal : (count : ℕ) (state : State Birth) (c : Command) → literal (squash_for standing count state c) ≡ how_many standing count (length (bytes_of c))
  unfolding literal
  command_literal count state c = command_carried count state c

  pub squashed_carried : (count : ℕ) (state : State Birth) (cs : List Command) → literal (squashed_from standing count state cs) ≡ how_many standing count (literal cs)
  unfolding squashed_from literal
  squashed_carried count state [] = refl
  squashed_carried count state (c ∷ cs) =
      let next : State Birth = (born_step count state c).state in
      let more = squashed_carried (count + length (bytes_of c)) next cs in
      let here = command_carried count state c in
      let all = sum_by-append len_of (squash_for standing count state c) (squashed_from standing (count + length (bytes_of c)) next cs) in
      let both = many_both count (length (bytes_of c)) (carried cs) in
      let first = sum_by-cons len_of c cs in
      omega (arith, all, here, more, both) ∙ ap (how_many standing count) (sym first)

  -- ---- clones and keys

  abbrev clone_of : Command → ℕ
  clone_of c = one_if (is_clone c)

  stretches_clones : (path : List ℕ) (ss : List Stretch) → sum_by clone_of (map (write_of path) ss) ≡ 0
  stretches_clones path [] = refl
  stretches_clones path (x ∷ ss) = sum_by-cons clone_of (write_of path x) (map (write_of path) ss) ∙ (let more = stretches_clones path ss in omega (arith, more))

  lengthened_clones : (last : Bool) (size end : ℕ) (path : List ℕ) → sum_by clone_of (lengthened last size end path) ≡ 0
  lengthened_clones last size end path = one (nat_lt size end && not last)
    where
      one : (t : Bool) → sum_by clone_of (if t then Truncate end path ∷ [] else []) ≡ 0
      one true = refl
      one false = refl

  write_clones : (count size : ℕ) (path : List ℕ) (offset : ℕ) (bytes : List ℕ) → sum_by clone_of (write_commands standing count size path offset bytes) ≡ 0
  write_clones count size path offset bytes = one (all_stand standing count bytes)
    where
      last : Bool
      last = standing (count + length bytes - 1)

      one : (t : Bool) → sum_by clone_of (if t then Write path offset bytes ∷ [] else map (write_of path) (stretches standing count offset bytes) ++ lengthened last size (offset + length bytes) path) ≡ 0
      one true = refl
      one false =
          sum_by-append clone_of (map (write_of path) (stretches standing count offset bytes)) (lengthened last size (offset + length bytes) path)
          ∙ (omega (arith, stretches_clones path (stretches standing count offset bytes), lengthened_clones last size (offset + length bytes) path))

  command_clones : (count : ℕ) (state : State Birth) (c : Command) → sum_by clone_of (squash_for standing count state c) ≡ clone_of c
  command_clones count state (Write path offset bytes) = write_clones count (size_at state path) path offset bytes
  command_clones count state c = refl

  pub squashed_clones : (count : ℕ) (state : State Birth) (cs : List Command) → clones (squashed_from standing count state cs) ≡ clones cs
  unfolding squashed_from clones
  squashed_clones count state [] = refl
  squashed_clones count state (c ∷ cs) =
      let next : State Birth = (born_step count state c).state in
      sum_by-append clone_of (squash_for standing count state c) (squashed_from standing (count + length (bytes_of c)) next cs)
      ∙ ap₂ (λ (a b : ℕ). a + b) (command_clones count state c) (squashed_clones (count + length (bytes_of c)) next cs)
      ∙ sym (sum_by-cons clone_of c cs)

  -- Stretches and a TRUNCATE name no key, begin no part and end none.
  abbrev IsInner : Command → Type 0
  IsInner c = (keys_named c ≡ []) × (head_of c ≡ None) × (is_end c ≡ false)

  stretches_inner : (path : List ℕ) (ss : List Stretch) → AllByRecursion IsInner (map (write_of path) ss)
  stretches_inner path [] = tt
  stretches_inner path (x ∷ ss) = ((refl, refl, refl), stretches_inner path ss)

  all_both : (cs ds : List Command) → AllByRecursion IsInner cs → AllByRecursion IsInner ds → AllByRecursion IsInner (cs ++ ds)
  all_both [] ds a b = b
  all_both (c ∷ cs) ds a b = (a.0, all_both cs ds a.1 b)

  write_inner : (count size : ℕ) (path : List ℕ) (offset : ℕ) (bytes : List ℕ) → AllByRecursion IsInner (write_commands standing count size path offset bytes)
  write_inner count size path offset bytes = one (all_stand standing count bytes)
    where
      last : Bool
      last = standing (count + length bytes - 1)

      longer : (t : Bool) → AllByRecursion IsInner (if t then Truncate (offset + length bytes) path ∷ [] else [])
      longer true = ((refl, refl, refl), tt)
      longer false = tt

      one : (t : Bool) → AllByRecursion IsInner (if t then Write path offset bytes ∷ [] else map (write_of path) (stretches standing count offset bytes) ++ lengthened last size (offset + length bytes) path)
      one true = ((refl, refl, refl), tt)
      one false =
          all_both (map (write_of path) (stretches standing count offset bytes)) (lengthened last size (offset + length bytes) path)
          (stretches_inner path (stretches standing count offset bytes)) (longer (nat_lt size (offset + length bytes) && not last))

  inner_keys : (cs ds : List Command) → AllByRecursion IsInner cs → all_keys_named (cs ++ ds) ≡ all_keys_named ds
  inner_keys [] ds a = refl
  inner_keys (c ∷ cs) ds a = ap (λ (ks : List Key). ks ++ all_keys_named (cs ++ ds)) a.0.0 ∙ inner_keys cs ds a.1

  inner_heads : (cs ds : List Command) → AllByRecursion IsInner cs → heads_of (cs ++ ds) ≡ heads_of ds
  unfolding heads_of
  inner_heads [] ds a = refl
  inner_heads (c ∷ cs) ds a = ap (λ (o : Option Head). onto_heads o (heads_of (cs ++ ds))) a.0.1 ∙ inner_heads cs ds a.1

  abbrev end_of : Command → ℕ
  end_of c = one_if (is_end c)

  inner_ends : (cs ds : List Command) → AllByRecursion IsInner cs → sum_by end_of (cs ++ ds) ≡ sum_by end_of ds
  inner_ends [] ds a = refl
  inner_ends (c ∷ cs) ds a =
      let here : ◌≡◌ {A = ℕ} (end_of c) 0 = ap one_if a.0.2 in
      let first = sum_by-cons end_of c (cs ++ ds) in
      let more = inner_ends cs ds a.1 in
      omega (arith, here, first, more)

  command_keys : (count : ℕ) (state : State Birth) (c : Command) (ds : List Command) → all_keys_named (squash_for standing count state c ++ ds) ≡ keys_named c ++ all_keys_named ds
  command_keys count state (Write path offset bytes) ds = inner_keys (write_commands standing count (size_at state path) path offset bytes) ds (write_inner count (size_at state path) path offset bytes)
  command_keys count state c ds = refl

  pub squashed_keys : (count : ℕ) (state : State Birth) (cs : List Command) → all_keys_named (squashed_from standing count state cs) ≡ all_keys_named cs
  unfolding squashed_from
  squashed_keys count state [] = refl
  squashed_keys count state (c ∷ cs) =
      let next : State Birth = (born_step count state c).state in
      command_keys count state c (squashed_from standing (count + length (bytes_of c)) next cs)
      ∙ ap (λ (ks : List Key). keys_named c ++ ks) (squashed_keys (count + length (bytes_of c)) next cs)

  command_heads : (count : ℕ) (state : State Birth) (c : Command) (ds : List Command) → heads_of (squash_for standing count state c ++ ds) ≡ onto_heads (head_of c) (heads_of ds)
  unfolding heads_of
  command_heads count state (Write path offset bytes) ds = inner_heads (write_commands standing count (size_at state path) path offset bytes) ds (write_inner count (size_at state path) path offset bytes)
  command_heads count state c ds = refl

  pub squashed_heads : (count : ℕ) (state : State Birth) (cs : List Command) → heads_of (squashed_from standing count state cs) ≡ heads_of cs
  unfolding squashed_from heads_of
  squashed_heads count state [] = refl
  squashed_heads count state (c ∷ cs) =
      let next : State Birth = (born_step count state c).state in
      command_heads count state c (squashed_from standing (count + length (bytes_of c)) next cs)
      ∙ ap (onto_heads (head_of c)) (squashed_heads (count + length (bytes_of c)) next cs)

  command_ends : (count : ℕ) (state : State Birth) (c : Command) (ds : List Command) → sum_by end_of (squash_for standing count state c ++ ds) ≡ end_of c + sum_by end_of ds
  command_ends count state (Write path offset bytes) ds =
      let e = inner_ends (write_commands standing count (size_at state path) path offset bytes) ds (write_inner count (size_at state path) path offset bytes) in omega (arith, e)
  command_ends count state c ds = sum_by-cons end_of c ds

  pub squashed_streams : (count : ℕ) (state : State Birth) (cs : List Command) → streams (squashed_from standing count state cs) ≡ streams cs
  unfolding squashed_from streams
  squashed_streams count state [] = refl
  squashed_streams count state (c ∷ cs) =
      let next : State Birth = (born_step count state c).state in
      command_ends count state c (squashed_from standing (count + length (bytes_of c)) next cs)
      ∙ ap (λ (n : ℕ). end_of c + n) (squashed_streams (count + length (bytes_of c)) next cs)
      ∙ sym (sum_by-cons end_of c cs)

  -- ---- where all stands

  -- All of so many births from one on stand.
  abbrev pub StandFrom : ℕ → ℕ → Type 0
  StandFrom count n = (b : ℕ) → count ≤ b → b < count + n → standing b ≡ true

  all_bytes_stand : (count : ℕ) (bytes : List ℕ) → StandFrom count (length bytes) → all_stand standing count bytes ≡ true
  all_bytes_stand count [] h = refl
  all_bytes_stand count (b ∷ bytes) h =
      ap₂ (λ (x y : Bool). x && y) (h count (omega arith) (omega arith)) (all_bytes_stand (count + 1) bytes (λ k l m. h k (omega (arith, l)) (omega (arith, m))))

  command_stays : (count : ℕ) (state : State Birth) (c : Command) → StandFrom count (length (bytes_of c)) → squash_for standing count state c ≡ c ∷ []
  command_stays count state (Write path offset bytes) h =
      ap (λ (t : Bool). if t then Write path offset bytes ∷ []
      else map (write_of path) (stretches standing count offset bytes) ++ lengthened (standing (count + length bytes - 1)) (size_at state path) (offset + length bytes) path) (all_bytes_stand count bytes h)
  command_stays count state c h = refl

  pub all_stays : (count : ℕ) (state : State Birth) (cs : List Command) → StandFrom count (literal cs) → squashed_from standing count state cs ≡ cs
  unfolding squashed_from literal
  all_stays count state [] h = refl
  all_stays count state (c ∷ cs) h =
      let next : State Birth = (born_step count state c).state in
      let sum = sum_by-cons len_of c cs in
      ap₂ (λ (x y : List Command). x ++ y) (command_stays count state c (λ b l m. h b l (omega (arith, m, sum))))
      (all_stays (count + length (bytes_of c)) next cs (λ b l m. h b (omega (arith, l)) (omega (arith, m, sum))))
